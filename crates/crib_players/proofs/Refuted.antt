-- Games that refute leave no player sure.
use Rattle.std.proofs.Common.{◌≡◌, ℕ, zero, suc, ◌+◌, ◌≤◌, true, false, not, ◌&&◌, List, [], ◌∷◌, ◌++◌, length, reverse, drop, sym, ap, ◌∙◌, subst, refl}
use Rattle.std.proofs.Common.{inl, inr, add-one, arith}
use Rattle.std.specs.Prelude.{◌⊎◌, Option, Some, None, slice_get}
use Rattle.std.specs.List.{list_any}
use Rattle.std.proofs.Common.{take_all}
use Rattle.std.proofs.lemmas.Bool.{and_parts}
use Rattle.std.proofs.lemmas.Bool.Decides.{nat_tests}
use Rattle.std.proofs.lemmas.List.{length-reverse}
use Rattle.std.proofs.lemmas.Option.{slice_get_cases, slice_get_within, get_or_from_slice_get}
use Rattle.crib_cards.specs.Sides.{same_side}
use Rattle.crib_cards.specs.Sets.{has}
use Rattle.crib_cards.specs.Start.{Start, pone_of, Hands}
use Rattle.crib_cards.specs.declared.sides.Side.{Side}
use Rattle.crib_cards.specs.declared.sides.Side.TheVariants.{Owner, Opponent}
use Rattle.crib_cards.specs.declared.moves.Move.{Move}
use Rattle.crib_cards.specs.declared.moves.Move.TheVariants as move
use Rattle.crib_cards.specs.declared.moves.Act.{Act}
use Rattle.crib_cards.proofs.Members.{any_from}
use Rattle.crib_cards.proofs.SetLemmas.{has-filter}
use Rattle.crib_play.specs.Record.{mover}
use Rattle.crib_play.specs.Score.{is_done}
use Rattle.crib_play.specs.Legal.{letters_of, cards_of, cards_left, fits, IsDealt, MayTake, IsLegal}
use Rattle.crib_play.specs.History.{acts_of, filled_moves, moves_of}
use Rattle.crib_play.proofs.FilledRecords.{acts_fewer, cards_filled}
use Rattle.crib_play.proofs.LegalRecords.{legal_filled}
use Rattle.crib_play.proofs.RecordBounds.{at_most_29}
use Rattle.crib_problem.specs.Setup.{Setup, IsSetup, start_of, hands_of, played_back, BeginsAsPlayed}
use Rattle.crib_problem.proofs.HonestTurns.{all_from_back}
use Rattle.crib_problem.proofs.StartLemmas.{started, hands_dealt}
use Rattle.crib_game.specs.declared.section.game.Game.{Game}
use Rattle.crib_game.specs.Replay.{Judge, acts_back, act_fault, acts_fault, by_rules}
use Rattle.crib_game.specs.Following.{is_playable}
use Rattle.crib_game.proofs.ActFaults.{IsRight, act_right, acts_filled, legal_acts, option_or_none}
use Rattle.crib_game.proofs.GameFaults.{clear_parts, no_fault_is}
use Rattle.crib_sure.proofs.PlaceByHistory.{not_stuck}
use Rattle.crib_players.specs.Players.{Player, own_card, AreBy, IsPlayedBy, IsSurePlayer}
use Rattle.crib_players.specs.Refutations.{acts_before, may_play, IsMissed, IsBegun, Refutes}
use Rattle.crib_players.specs.Laws.{RefutedLaw}
use Rattle.crib_players.proofs.Turns.{one_more, opening_before, begins_before}

-- ---- whether an act is a card of the owner
abbrev IsOther : Act → Type 0
IsOther act = (card : ℕ) → act ≡ own_card card → ⊥

kind : (side : Side) (what : Move) → ((card : ℕ) × (record { side = side; what = what } ≡ own_card card)) ⊎ IsOther (record { side = side; what = what })
kind Owner (move.Card card) = inl (card, refl)
kind Owner move.Go = inr (λ card is. absurd (let go : move.Go ≡ move.Card card = ap (λ (act : Act). act.what) is in cc))
kind Opponent what = inr (λ card is. absurd (let who : Opponent ≡ Owner = ap (λ (act : Act). act.side) is in cc))

same_card : (card other : ℕ) → own_card card ≡ own_card other → card ≡ other
same_card card other same = let cards : move.Card card ≡ move.Card other = ap (λ (act : Act). act.what) same in cc

-- ---- the card that a player plays
record Plays (hands : Hands) (past : List Move) (stated : Option ℕ) : Type 0 where
  card : ℕ
  is : stated ≡ Some card
  left : has (cards_left hands Owner past) card ≡ true
  fit : fits past card ≡ true

plays : (hands : Hands) (past : List Move) (stated : Option ℕ) → is_playable hands past stated ≡ true → Plays hands past stated
plays hands past None e = absurd (let no : false ≡ true = e in cc)
plays hands past (Some card) e =
    let both = and_parts (has (cards_left hands Owner past) card) (fits past card) e in
    record { card = card; is = refl; left = both.0; fit = both.1 }

pub left_may_play : (problem : Setup) (hands : Hands) (acts : List Act) (card : ℕ) → hands.owner ≡ problem.hold →
    has (cards_left hands Owner (filled_moves (start_of problem) (moves_of acts))) card ≡ true →
    fits (filled_moves (start_of problem) (moves_of acts)) card ≡ true → may_play problem acts card ≡ true
left_may_play problem hands acts card own left fit =
    let past = filled_moves (start_of problem) (moves_of acts) in
    let held : (has problem.hold card && not (has (cards_of (moves_of acts)) card)) ≡ true =
    ap (λ (cards : List ℕ). has problem.hold card && not (has cards card)) (sym (cards_filled (start_of problem) (moves_of acts)))
    ∙ ap (λ (hold : List ℕ). has hold card && not (has (cards_of past) card)) (sym own)
    ∙ sym (has-filter (λ c. not (has (cards_of past) c)) hands.owner card) ∙ left in
    grind (arith, nat_tests, held, fit)

-- ---- acts that are not refused
earlier : (judge : Judge) (start : Start) (hands : Hands) (later before : List Act) → acts_fault judge start hands (later ++ before) ≡ None →
    acts_fault judge start hands before ≡ None
earlier judge start hands [] before none = none
earlier judge start hands (act ∷ later) before none = earlier judge start hands later before (option_or_none _ _ none).0

-- ---- the opening is nobody's choice
pub by_few : (few : ℕ) (player : Player) (acts : List Act) → length acts ≤ few → AreBy few player acts
by_few few player [] short = tt
by_few few player (act ∷ before) short =
    (by_few few player before (omega (arith, short)), λ late card is. absurd (omega (arith, short, late)))

module _ (problem : Setup) (games : List Game) (player : Player) (setup : IsSetup problem) (refutes : Refutes problem games)
    (sure : IsSurePlayer problem player) where
  abbrev start : Start
  start = start_of problem

  abbrev pone : Side
  pone = pone_of start

  abbrev judge : Judge
  judge = by_rules problem

  abbrev By : List Act → Type 0
  By acts = AreBy (length problem.played) player acts

  -- one of the games begins with these acts, and the player has played their cards
  module _ (acts : List Act) (begun : IsBegun games acts) (late : length problem.played ≤ length acts) (by : By acts) where
    abbrev game : Game
    game = begun.game

    abbrev hands : Hands
    hands = hands_of problem game.opp

    missed : IsMissed problem game
    missed = refutes.missed begun.index game begun.among

    dealt : IsDealt hands
    dealt = hands_dealt problem setup game.opp missed.of_game.deal.deal

    played_by : (played : List Move) → IsLegal start hands played → acts_of pone played ≡ acts → IsPlayedBy problem player game.opp played
    played_by played legal shows =
        let B : List Act → Type 0 = λ some. BeginsAsPlayed problem some in
        let P : List Act → Type 0 = λ some. By some in
        record {
          deal = missed.of_game.deal;
          legal = legal;
          begins = subst B (begun.begins ∙ sym shows) (begins_before game problem missed.of_game.begins (length acts) late);
          by = subst P (sym shows) by;
        }

    ended : length game.acts.items ≤ length acts → ⊥
    ended whole =
        let all : acts_back game ≡ acts = ap reverse (sym (take_all (length acts) game.acts.items whole)) ∙ begun.begins in
        missed.missed (sure.reached game.opp missed.played (played_by missed.played missed.of_game.legal (missed.of_game.acts ∙ all)) missed.done)

    few : length game.acts.items ≤ 29
    few =
        let most = at_most_29 start hands missed.played dealt missed.of_game.legal in
        let fewer = acts_fewer pone missed.played in
        let same = ap length missed.of_game.acts in
        let back = length-reverse game.acts.items in
        omega (arith, most, fewer, same, back)

    -- the next act of the game
    module _ (act : Act) (is : slice_get game.acts.items (length acts) ≡ Some act) where
      abbrev past : List Move
      past = filled_moves start (moves_of acts)

      clear : (acts_fault judge start hands acts ≡ None) × (act_fault judge start hands act past (length acts + 1) ≡ None)
      clear =
          let later = reverse (drop (length acts + 1) game.acts.items) in
          let inside = slice_get_within game.acts.items (length acts) act is in
          let at = sym (get_or_from_slice_get game.acts.items (length acts) act act is) in
          let parts : acts_back game ≡ later ++ act ∷ acts =
          all_from_back game.acts.items (length acts) act inside at ∙ ap (λ (before : List Act). later ++ act ∷ before) begun.begins in
          let none = (clear_parts judge problem game (no_fault_is problem game missed.played setup missed.of_game)).acts in
          option_or_none _ _ (earlier judge start hands later (act ∷ acts) (ap (acts_fault judge start hands) (sym parts) ∙ none))

      right : IsRight judge start hands act past
      right = act_right judge start hands act past (length acts + 1) clear.1

      shows : acts_of pone past ≡ acts
      shows = acts_filled judge start hands acts (started problem setup) dealt clear.0

      so_far : IsPlayedBy problem player game.opp past
      so_far = played_by past (legal_filled start hands (moves_of acts) dealt (legal_acts judge start hands acts clear.0)) shows

      -- if it is a card of the owner, some game goes on with the player's card
      chosen : (card : ℕ) → act ≡ own_card card → (other : ℕ) × IsBegun games (own_card other ∷ acts) × By (own_card other ∷ acts)
      chosen card own =
          let who : mover pone (letters_of past) ≡ Owner = sym right.side ∙ ap (λ (a : Act). a.side) own in
          let what : act.what ≡ move.Card card = ap (λ (a : Act). a.what) own in
          let may : MayTake hands Owner (move.Card card) past = rw (what, who) at right.may.may_take in
          let some = any_from (fits past) (cards_left hands Owner past) card may.0 may.1 in
          let playable = not_stuck (is_done start (letters_of past)) (same_side (mover pone (letters_of past)) Owner)
          (list_any (fits past) (cards_left hands Owner past)) (is_playable hands past (player (acts_of pone past)))
          (sure.never_at_loss game.opp past so_far) right.may.not_done (ap (λ (side : Side). same_side side Owner) who) some in
          let choice = plays hands past (player (acts_of pone past)) playable in
          let M : List Act → Type 0 = λ before. may_play problem before choice.card ≡ true in
          let G : List Act → Type 0 = λ before. IsBegun games (own_card choice.card ∷ before) in
          let on = refutes.complete begun.index (length acts) game begun.among late card choice.card (is ∙ ap Some own)
          (subst M (sym begun.begins) (left_may_play problem hands acts choice.card refl choice.left choice.fit)) in (
            choice.card,
            subst G begun.begins on,
            (by, λ _ other same. ap player (sym shows) ∙ choice.is ∙ ap (λ (c : ℕ). Some c) (same_card choice.card other same)),
          )

      goes_on : IsBegun games (act ∷ acts)
      goes_on = record {
        index = begun.index;
        game = game;
        among = begun.among;
        begins = ap (acts_before game) (sym (add-one (length acts))) ∙ one_more game (length acts) act is
            ∙ ap (λ (before : List Act). act ∷ before) begun.begins;
      }

    -- the player goes on by one act
    step : ((next : Act) → length acts ≤ 28 → IsBegun games (next ∷ acts) → By (next ∷ acts) → ⊥) → ⊥
    step next = elim (slice_get_cases game.acts.items (length acts)).1 [
      | inl found ↦
          let inside = found.1 in
          let short : length acts ≤ 28 = omega (arith, inside, few) in
          elim (kind found.0.side found.0.what) [
            | inl own ↦ (let choice = chosen found.0 found.2 own.0 own.1 in next (own_card choice.0) short choice.1 choice.2)
            | inr other ↦ next found.0 short (goes_on found.0 found.2) (by, λ _ card is. absurd (other card is))
          ]
      | inr over ↦ ended over.0
    ]

  never : (room : ℕ) (acts : List Act) → 29 ≤ room + length acts → length problem.played ≤ length acts → IsBegun games acts → By acts → ⊥
  never zero acts enough late begun by = step acts begun late by (λ next short on more. absurd (omega (arith, enough, short)))
  never (suc room) acts enough late begun by = step acts begun late by (λ next short on more.
      never room (next ∷ acts) (omega (arith, enough)) (omega (arith, late)) on more)

  pub lost : ⊥
  lost =
      let first = refutes.some in
      let begins = (refutes.missed 0 first.0 first.1).of_game.begins in
      let back = length-reverse problem.played in
      never 29 (played_back problem) (omega arith) (omega (arith, back))
      (record {
        index = 0;
        game = first.0;
        among = first.1;
        begins = ap (acts_before first.0) back ∙ opening_before first.0 problem begins;
      })
      (by_few (length problem.played) player (played_back problem) (omega (arith, back)))

pub refuted : RefutedLaw
refuted problem games player setup refutes sure = lost problem games player setup refutes sure
