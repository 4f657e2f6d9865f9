-- What a strategy is worth is lost by each player.
use Rattle.std.proofs.Common.{◌≡◌, ℕ, zero, suc, ◌+◌, ◌*◌, ◌≤◌, Bool, true, false, not, ◌&&◌, List, [], ◌∷◌, length, map, sum_by}
use Rattle.std.proofs.Common.{Option, Some, None, refl, sym, ap, subst, ◌∙◌, inl, inr, arith}
use Rattle.std.proofs.lemmas.Bool.{and_parts, both_ways, cases_lt, false_from_ne_true}
use Rattle.std.proofs.lemmas.Bool.Decides.{nat_tests}
use Rattle.std.proofs.lemmas.List.{length-map, length-reverse, map-id}
use Rattle.crib_cards.specs.Sets.{has}
use Rattle.crib_cards.specs.Sides.{same_side}
use Rattle.crib_cards.specs.Start.{pone_of}
use Rattle.crib_cards.specs.declared.sides.Side.{Side}
use Rattle.crib_cards.specs.declared.sides.Side.TheVariants.{Owner}
use Rattle.crib_cards.specs.declared.sides.Dealt.{Dealt}
use Rattle.crib_cards.specs.declared.moves.Move.{Move}
use Rattle.crib_cards.specs.declared.moves.Move.TheVariants as move
use Rattle.crib_cards.specs.declared.moves.Act.{Act}
use Rattle.crib_cards.proofs.Members.{any_from}
use Rattle.crib_play.specs.Legal.{cards_left, fits}
use Rattle.crib_play.specs.History.{event_of, acts_of}
use Rattle.crib_problem.specs.Setup.{Setup, start_of, hands_of, played_back}
use Rattle.crib_game.specs.Following.{is_playable}
use Rattle.crib_deals.specs.Exact.{IsIn, AreExactly}
use Rattle.crib_players.specs.Players.{Player, AreBy, IsPlayedBy, IsSurePlayer, own_card, player_by}
use Rattle.crib_bound.specs.BeatenPlayers.{BeatsPlayer}
use Rattle.crib_bound.specs.Worth.{EachCard, EachLeft, LooksLike, MayPlayAfter, IsWorthIf, IsStrategy, IsStrategyIf}
use Rattle.crib_bound.specs.Worth.IsWorthIf.{Nothing, Missed, Barred, Parts, Turn, Choice}
use Rattle.crib_bound.specs.Laws.{PlayerLaw, RanksLaw, NoPlayerLaw, whole}
use Rattle.crib_bound.proofs.Amounts.{sum_both, sum_less, sum_same, sum_some, sum_within}

at_loss_if : (done who any playable : Bool) → done ≡ false → who ≡ true → any ≡ true → playable ≡ false →
    (not done && who && any && not playable) ≡ true
at_loss_if done who any playable d w a p = grind (arith, nat_tests, d, w, a, p)

-- amounts are worth no more than there is
pub no_more : {Seen : Type 0} (look : Act → Seen) (problem : Setup) {Allowed : List Seen → ℕ → Type 0} (deals : List Dealt) (turns : List Seen)
    (amounts : Dealt → ℕ) (value : ℕ) → IsWorthIf look problem Allowed deals turns amounts value → value ≤ sum_by amounts deals
no_more look problem deals turns amounts value (Nothing _ _) = omega arith
no_more look problem deals turns amounts value (Missed _ _ each) = omega arith
no_more look problem deals turns amounts value (Barred _ _ may some can each none) = omega arith
no_more look problem deals turns amounts value (Parts _ _ one other first second _ less enough here there) =
    omega (
      arith,
      enough,
      no_more look problem deals turns one first here,
      no_more look problem deals turns other second there,
      sum_both one other deals,
      sum_less (λ dealt. one dealt + other dealt) amounts deals less,
    )
no_more look problem deals turns amounts value (Turn _ _ _ turn theirs after) = no_more look problem deals (turn ∷ turns) amounts value after
no_more look problem deals turns amounts value (Choice _ _ _ may some can allowed each after) =
    no_more look problem deals (look (own_card some) ∷ turns) amounts value (after some can allowed)

-- a player who sees no more of a turn than a function shows, by which the owner's cards differ
module _ {Seen : Type 0} (look : Act → Seen) (one_card : (card other : ℕ) → look (own_card card) ≡ look (own_card other) → card ≡ other)
    (problem : Setup) (choice : List Seen → Option ℕ) where
  abbrev pub who : Player
  who = player_by look choice

  -- turns that the player plays after the opening
  abbrev pub IsBy : List Seen → Type 0
  IsBy [] = Unit {0}
  IsBy (turn ∷ before) = IsBy before × (length problem.played ≤ length before → (card : ℕ) → turn ≡ look (own_card card) → choice before ≡ Some card)

  -- the opening is nobody's choice
  by_few : (turns : List Seen) → length turns ≤ length problem.played → IsBy turns
  by_few [] short = tt
  by_few (turn ∷ before) short = (by_few before (omega (arith, short)), λ late. absurd (omega (arith, short, late)))

  by_acts : (acts : List Act) → IsBy (map look acts) → AreBy (length problem.played) who acts
  by_acts [] by = tt
  by_acts (act ∷ before) by = (
    by_acts before by.0,
    λ late card is. let sizes = length-map before look in by.1 (omega (arith, late, sizes)) card (ap look is),
  )

  pub played_by : {turns : List Seen} {dealt : Dealt} {played : List Move} → LooksLike look problem turns dealt played → IsBy turns →
      IsPlayedBy problem who dealt played
  played_by {turns} {dealt} {played} looks by = record {
    deal = looks.deal;
    legal = looks.legal;
    begins = looks.begins;
    by = by_acts (acts_of (pone_of (start_of problem)) played) (rw looks.seen by);
  }

  -- the player plays no card that is not allowed, wherever they play one that may be played
  abbrev pub Obeys : (List Seen → ℕ → Type 0) → Type 0
  Obeys Allowed =
      (turns : List Seen) (may : ℕ → Bool) (dealt : Dealt) (card : ℕ) → IsBy turns → MayPlayAfter look problem turns may dealt →
      choice turns ≡ Some card → may card ≡ true → Allowed turns card

  module _ (deals : List Dealt) where
    -- shares of the amounts with which the deals beat the player
    pub record Loses (amounts : Dealt → ℕ) (value : ℕ) : Type 0 where
      pub share : Dealt → ℕ
      pub within : (dealt : Dealt) → IsIn dealt deals → share dealt ≤ amounts dealt
      pub beats : EachLeft deals share (BeatsPlayer problem who)
      pub enough : value ≤ sum_by share deals

    all_of : (amounts : Dealt → ℕ) (value : ℕ) → value ≤ sum_by amounts deals → EachLeft deals amounts (BeatsPlayer problem who) → Loses amounts value
    all_of amounts value enough each = record { share = amounts; within = λ dealt h. omega arith; beats = each; enough = enough }

    -- where the player has no card that may be played, each deal that is left beats them
    module _ (turns : List Seen) (may : ℕ → Bool) (some : ℕ) (can : may some ≡ true) (by : IsBy turns) (dealt : Dealt)
        (at : MayPlayAfter look problem turns may dealt) where
      not_playable : (stated : Option ℕ) → ((card : ℕ) → stated ≡ Some card → may card ≡ false) → is_playable (hands_of problem dealt) at.played stated ≡ false
      not_playable None none = refl
      not_playable (Some card) none = at.cards card ∙ none card refl

      lost_here : ((card : ℕ) → choice turns ≡ Some card → may card ≡ false) → BeatsPlayer problem who dealt
      lost_here none =
          let parts = and_parts _ _ (at.cards some ∙ can) in
          let same = ap choice at.looks.seen in
          record {
            played = at.played;
            by = played_by at.looks by;
            failure = inr (at_loss_if _ _ _ _ at.not_done (ap (λ (side : Side). same_side side Owner) at.asked)
                (any_from (fits at.played) (cards_left (hands_of problem dealt) Owner at.played) some parts.0 parts.1)
                (not_playable (who (acts_of (pone_of (start_of problem)) at.played)) (λ card is. none card (sym same ∙ is))));
          }

    -- nothing, of amounts that are nothing
    none_of : (amounts : Dealt → ℕ) (value : ℕ) → value ≡ 0 → Loses amounts value
    none_of amounts value none = record {
      share = λ dealt. 0;
      within = λ dealt h. omega arith;
      beats = λ dealt h some. absurd (omega (arith, some));
      enough = omega (arith, none);
    }

    module _ {Allowed : List Seen → ℕ → Type 0} (obeys : Obeys Allowed) where
      chosen : (turns : List Seen) (amounts : Dealt → ℕ) (value : ℕ) (may : ℕ → Bool) (some : ℕ) → may some ≡ true → IsBy turns →
          value ≤ sum_by amounts deals → EachLeft deals amounts (MayPlayAfter look problem turns may) →
          ((card : ℕ) → choice turns ≡ Some card → may card ≡ true → Allowed turns card → Loses amounts value) → (stated : Option ℕ) →
          choice turns ≡ stated → Loses amounts value
      chosen turns amounts value may some can by enough each goes None is =
          all_of amounts value enough (λ dealt h left. lost_here turns may some can by dealt (each dealt h left)
          (λ card is_card. absurd (let no : None ≡ Some card = sym is ∙ is_card in cc)))
      chosen turns amounts value may some can by enough each goes (Some card) is = test (may card) refl
        where
          test : (b : Bool) → may card ≡ b → Loses amounts value
          test true e = elim (cases_lt 0 (sum_by amounts deals)) [
            | inl more ↦
                let one = sum_some amounts deals (omega (arith, more)) in
                goes card is e (obeys turns may one.0 card by (each one.0 one.1 one.2) is e)
            | inr none ↦ none_of amounts value (omega (arith, none, enough))
          ]
          test false e =
              all_of amounts value enough (λ dealt h left. lost_here turns may some can by dealt (each dealt h left)
              (λ other is_other. let same : card ≡ other = (let both : Some card ≡ Some other = sym is ∙ is_other in cc) in rw (← same) e))

      loses : (turns : List Seen) (amounts : Dealt → ℕ) (value : ℕ) → IsBy turns → IsWorthIf look problem Allowed deals turns amounts value →
          Loses amounts value
      loses turns amounts value by (Nothing _ _) = none_of amounts value refl
      loses turns amounts value by (Missed _ _ each) =
          all_of amounts value (omega arith) (λ dealt h left. let misses = each dealt h left in record {
            played = misses.played;
            by = played_by misses.looks by;
            failure = inl misses.missed;
          })
      loses turns amounts value by (Barred _ _ may some can each none) =
          all_of amounts value (omega arith) (λ dealt h left. lost_here turns may some can by dealt (each dealt h left) (λ card is.
          false_from_ne_true (may card) (λ may_it. none card may_it (obeys turns may dealt card by (each dealt h left) is may_it))))
      loses turns amounts value by (Parts _ _ one other first second _ less enough here there) =
          let left = loses turns one first by here in
          let right = loses turns other second by there in
          record {
            share = λ dealt. left.share dealt + right.share dealt;
            within = λ dealt h. omega (arith, left.within dealt h, right.within dealt h, less dealt h);
            beats = λ dealt h some. either dealt h left right (left.share dealt) refl some;
            enough = omega (arith, enough, left.enough, right.enough, sum_both left.share right.share deals);
          }
        where
          either : (dealt : Dealt) → IsIn dealt deals → (left : Loses one first) (right : Loses other second) (amount : ℕ) → left.share dealt ≡ amount →
              1 ≤ left.share dealt + right.share dealt → BeatsPlayer problem who dealt
          either dealt h left right zero none some = right.beats dealt h (omega (arith, none, some))
          either dealt h left right (suc amount) is some = left.beats dealt h (omega (arith, is))
      loses turns amounts value by (Turn _ _ _ turn theirs after) =
          loses (turn ∷ turns) amounts value (by, λ late card is. absurd (theirs card is)) after
      loses turns amounts value by (Choice _ _ _ may some can allowed each after) =
          chosen turns amounts value may some can by
          (no_more look problem deals (look (own_card some) ∷ turns) amounts value (after some can allowed)) each
          (λ card is may_it allowed_it. loses (look (own_card card) ∷ turns) amounts value
          (by, λ late other same. is ∙ ap Some (one_card card other same)) (after card may_it allowed_it)) (choice turns) refl

  module _ {Allowed : List Seen → ℕ → Type 0} (obeys : Obeys Allowed) (parts value : ℕ)
      (strategy : IsStrategyIf look problem Allowed parts value) where
    lost_if : Loses strategy.deals strategy.amounts value
    lost_if =
        let back = length-reverse problem.played in
        let sizes = length-map (played_back problem) look in
        loses strategy.deals obeys (map look (played_back problem)) strategy.amounts value
        (by_few (map look (played_back problem)) (omega (arith, back, sizes))) strategy.worth

    -- a strategy is worth at most so many times the deals that have a property, if each deal that beats the player has it
    pub bound_if : {count : ℕ} {Has : Dealt → Type 0} → ((dealt : Dealt) → BeatsPlayer problem who dealt → Has dealt) → AreExactly Has count →
        value ≤ parts * count
    bound_if has exact =
        let most = sum_within lost_if.share (λ dealt. parts) strategy.deals exact.deals strategy.different
        (λ dealt h. omega (arith, lost_if.within dealt h, strategy.few dealt h))
        (λ dealt h some. (exact.each dealt).1 (strategy.in_order dealt h, has dealt (lost_if.beats dealt h some))) in
        rw (← exact.counted) (omega (arith, lost_if.enough, most, sum_same parts exact.deals))

  -- each card is allowed
  pub each_obeys : Obeys EachCard
  each_obeys turns may dealt card by at is may_it = tt

  module _ (parts value : ℕ) (strategy : IsStrategy look problem parts value) where
    pub lost : Loses strategy.deals strategy.amounts value
    lost = lost_if each_obeys parts value strategy

    -- some deal beats the player, if it is worth something
    pub some_beats : 1 ≤ value → (dealt : Dealt) × BeatsPlayer problem who dealt
    some_beats some =
        let one = sum_some lost.share strategy.deals (omega (arith, some, lost.enough)) in (one.0, lost.beats one.0 one.1 one.2)

-- ---- players who see all of a turn, and those who see events
pub whole_card : (card other : ℕ) → whole (own_card card) ≡ whole (own_card other) → card ≡ other
whole_card card other is = let what : move.Card card ≡ move.Card other = ap (λ (act : Act). act.what) is in cc

pub event_card : (card other : ℕ) → event_of (own_card card) ≡ event_of (own_card other) → card ≡ other
event_card card other is = cc

pub whole_player : (player : Player) → player_by whole player ≡ player
whole_player player = λ i acts. player (map-id acts i)

pub player : PlayerLaw
player problem parts value count who strategy exact =
    bound_if whole whole_card problem who (each_obeys whole whole_card problem who) parts value strategy
    (λ dealt beats. subst (λ (one : Player). BeatsPlayer problem one dealt) (whole_player who) beats)
    exact

pub by_ranks : RanksLaw
by_ranks problem parts value count choice strategy exact =
    bound_if event_of event_card problem choice (each_obeys event_of event_card problem choice) parts value strategy (λ dealt beats. beats) exact

-- a sure player is beaten by no deal
pub sure_unbeaten : {problem : Setup} {player : Player} {dealt : Dealt} → IsSurePlayer problem player → BeatsPlayer problem player dealt → ⊥
sure_unbeaten {problem} {player} {dealt} sure beats = elim beats.failure [
  | inl missed ↦ missed.missed (sure.reached dealt beats.played beats.by missed.done)
  | inr loss ↦ both_ways _ (sure.never_at_loss dealt beats.played beats.by) loss
]

pub no_player : NoPlayerLaw
no_player problem parts value player strategy some sure =
    let one = some_beats whole whole_card problem player parts value strategy some in
    sure_unbeaten sure (subst (λ (its : Player). BeatsPlayer problem its one.0) (whole_player player) one.1)
