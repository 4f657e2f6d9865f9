-- Sure players after one more turn, and before it.
use Rattle.std.proofs.Common.{◌≡◌, ◌⊎◌, ℕ, ◌+◌, Bool, true, false, not, ◌&&◌, List, [], ◌∷◌, ◌++◌, length, reverse, Option, Some, None}
use Rattle.std.proofs.Common.{refl, sym, ap, subst, ◌∙◌, inl, inr, arith}
use Rattle.std.specs.Prelude.{slice_get}
use Rattle.std.specs.List.{list_any}
use Rattle.std.proofs.lemmas.Bool.{cases_Bool, both_ways}
use Rattle.std.proofs.lemmas.Bool.Decides.{nat_tests}
use Rattle.std.proofs.lemmas.List.{length-reverse, reverse-append, reverse-reverse}
use Rattle.std.proofs.lemmas.Option.{slice_get_past}
use Rattle.crib_cards.specs.Sets.{has}
use Rattle.crib_cards.specs.Sides.{same_side}
use Rattle.crib_cards.specs.Start.{Start, Hands, pone_of}
use Rattle.crib_cards.specs.declared.sides.Side.TheVariants.{Owner, Opponent}
use Rattle.crib_cards.specs.declared.sides.Dealt.{Dealt}
use Rattle.crib_cards.specs.declared.moves.Move.{Move}
use Rattle.crib_cards.specs.declared.moves.Act.{Act}
use Rattle.crib_cards.proofs.Members.{all_from, any_found}
use Rattle.crib_cards.proofs.SetFacts.{has-filter}
use Rattle.crib_play.specs.Record.{mover}
use Rattle.crib_play.specs.Score.{is_done}
use Rattle.crib_play.specs.Legal.{letters_of, cards_of, cards_left, fits, IsDealt, IsLegal}
use Rattle.crib_play.specs.History.{acts_of, filled_moves, moves_of}
use Rattle.crib_play.proofs.FilledRecords.{cards_filled, filled_law, filled_whole, not_silent_done}
use Rattle.crib_play.proofs.TurnFacts.{same_is}
use Rattle.crib_show.specs.declared.show.outcomes.Outcome.TheVariants.{Reached}
use Rattle.crib_problem.specs.Setup.{Setup, IsSetup, start_of, hands_of, opening_basis_of, played_back, fixed_cards, IsDealOf}
use Rattle.crib_problem.specs.Played.{act_refusal, cards_by}
use Rattle.crib_problem.proofs.StartLemmas.{started, hands_dealt}
use Rattle.crib_problem.proofs.Setups.{without_opening}
use Rattle.crib_problem.proofs.OpeningLawProofs.{honest_proved}
use Rattle.crib_know.proofs.HonestOpenings.{allowed_proved}
use Rattle.crib_game.specs.Following.{is_playable}
use Rattle.crib_game.specs.Replay.{is_done_for, outcome_for, play_scores}
use Rattle.crib_players.specs.Players.{Player, own_card, AreBy, IsPlayedBy, is_at_loss, IsSurePlayer}
use Rattle.crib_players.specs.Refutations.{may_play}
use Rattle.crib_players.specs.Laws.{longer, CanComeNext}
use Rattle.crib_players.proofs.Longer.{back, long_next}
use Rattle.crib_players.proofs.Refuted.{by_few}
use Rattle.crib_players.proofs.LastTurns.{GoOn, go_on, LastTurn, last_turn, before_card, opponents_held}

-- ---- the act at an index of a list
item_at : (first rest : List Act) (act : Act) → slice_get ((first ++ act ∷ []) ++ rest) (length first) ≡ Some act
item_at [] rest act = refl
item_at (other ∷ first) rest act = item_at first rest act

-- the act that comes after an opening
act_after : (opening later : List Act) (act : Act) → slice_get (reverse (later ++ act ∷ reverse opening)) (length opening) ≡ Some act
act_after opening later act =
    ap (λ (acts : List Act). slice_get acts (length opening))
    (reverse-append later (act ∷ reverse opening)
    ∙ ap (λ (acts : List Act). acts ++ reverse later)
    (reverse-append (act ∷ []) (reverse opening) ∙ ap (λ (acts : List Act). acts ++ act ∷ []) (reverse-reverse opening)))
    ∙ item_at opening (reverse later) act

-- ---- a player who does as the players after the next act
abbrev by_next : Option ℕ → (Act → Player) → List Act → Option Act → Option ℕ
by_next choice players acts None = choice
by_next choice players acts (Some act) = players act acts

-- the card directly after the opening, so many acts long, is the choice. The cards after the next act are those of the player for this act
abbrev player_before : ℕ → Option ℕ → (Act → Player) → Player
player_before few choice players acts = by_next choice players acts (slice_get (reverse acts) few)

-- at a loss: the card that is stated can't be played, where some card can
pub record Loss (start : Start) (hands : Hands) (past : List Move) (stated : Option ℕ) : Type 0 where
  pub going : is_done start (letters_of past) ≡ false
  pub who : mover (pone_of start) (letters_of past) ≡ Owner
  pub some : list_any (fits past) (cards_left hands Owner past) ≡ true
  pub none : is_playable hands past stated ≡ false

loss_parts : (done who some playable : Bool) → (not done && who && some && not playable) ≡ true →
    (done ≡ false) × (who ≡ true) × (some ≡ true) × (playable ≡ false)
loss_parts done who some playable e = (grind (arith, nat_tests, e), grind (arith, nat_tests, e), grind (arith, nat_tests, e), grind (arith, nat_tests, e))

pub loss : (player : Player) (start : Start) (hands : Hands) (past : List Move) → is_at_loss player start hands past ≡ true →
    Loss start hands past (player (acts_of (pone_of start) past))
loss player start hands past e =
    let parts = loss_parts (is_done start (letters_of past)) (same_side (mover (pone_of start) (letters_of past)) Owner)
    (list_any (fits past) (cards_left hands Owner past)) (is_playable hands past (player (acts_of (pone_of start) past))) e in
    record { going = parts.0; who = same_is (mover (pone_of start) (letters_of past)) Owner parts.1; some = parts.2; none = parts.3 }

-- ---- a card that the owner may play after a filled record is one that they have left and that fits
regroup : (held gone fit left : Bool) → left ≡ (held && not gone) → (left && fit) ≡ (held && not gone && fit)
regroup held gone fit left e = grind (arith, nat_tests, e)

pub playable_is : (problem : Setup) (dealt : Dealt) (acts : List Act) (card : ℕ) →
    is_playable (hands_of problem dealt) (filled_moves (start_of problem) (moves_of acts)) (Some card) ≡ may_play problem acts card
playable_is problem dealt acts card =
    let past = filled_moves (start_of problem) (moves_of acts) in
    regroup (has problem.hold card) (has (cards_of (moves_of acts)) card) (fits past card) (has (cards_left (hands_of problem dealt) Owner past) card)
    (has-filter (λ c. not (has (cards_of past) c)) problem.hold card
    ∙ ap (λ (cards : List ℕ). has problem.hold card && not (has cards card)) (cards_filled (start_of problem) (moves_of acts)))

-- whether the deal is done after an act directly after the opening
abbrev pub is_over_with : Setup → Act → Bool
is_over_with problem act = is_done (start_of problem) (letters_of (filled_moves (start_of problem) (moves_of (act ∷ played_back problem))))

module _ (problem : Setup) (setup : IsSetup problem) where
  abbrev start : Start
  start = start_of problem

  abbrev opening : List Act
  opening = played_back problem

  abbrev few : ℕ
  few = length problem.played

  few_back : length opening ≡ few
  few_back = length-reverse problem.played

  real : (dealt : Dealt) → IsDealOf problem dealt → IsDealt (hands_of problem dealt)
  real dealt deal = hands_dealt problem setup dealt deal.deal

  -- ---- the deal is not done after the opening
  pub opening_going : is_done start (letters_of (filled_moves start (moves_of opening))) ≡ false
  opening_going =
      let honest = (allowed_proved problem (without_opening problem setup) setup.of_version).0 setup in
      let is = honest.1 in
      ap (λ (moves : List Move). is_done start (letters_of moves))
      (ap (λ (acts : List Act). filled_moves start (moves_of acts)) (sym is.shows)
      ∙ filled_law start (hands_of problem honest.0) is.played (started problem setup) (hands_dealt problem setup honest.0 is.deal) is.legal)
      ∙ is.going

  not_yet : (dealt : Dealt) (played : List Move) → IsDealOf problem dealt → IsLegal start (hands_of problem dealt) played →
      acts_of (pone_of start) played ≡ opening → is_done start (letters_of played) ≡ true → ⊥
  not_yet dealt played deal legal shows done =
      let whole = filled_whole start (hands_of problem dealt) played (started problem setup) (real dealt deal) legal
      (not_silent_done start (letters_of played) done) in
      both_ways (is_done start (letters_of (filled_moves start (moves_of opening)))) opening_going
      (ap (λ (moves : List Move). is_done start (letters_of moves)) (ap (λ (acts : List Act). filled_moves start (moves_of acts)) (sym shows) ∙ whole) ∙ done)

  -- ---- an act that can come next
  abbrev come : (dealt : Dealt) (act : Act) → IsDealOf problem dealt → LastTurn start (hands_of problem dealt) act opening → CanComeNext problem act
  come dealt act deal last = record { dealt = dealt; played = last.turn ∷ last.past; deal = deal; legal = last.legal; shows = last.shows }

  -- a deal with it is one of the problem with this turn
  deal_next : (act : Act) (can : CanComeNext problem act) → IsDealOf (longer problem act) can.dealt
  deal_next act can = record {
    deal = can.deal.deal;
    fixed = all_from (has can.dealt.hold) (fixed_cards (longer problem act)) (λ card h.
        opponents_held start (hands_of problem can.dealt) can.played can.legal card
        (subst (λ (acts : List Act). has (cards_by Opponent acts) card ≡ true) (back problem act ∙ sym can.shows) h));
  }

  module _ (act : Act) where
    -- it is not refused where the deal is not done after it
    pub can_allowed : CanComeNext problem act → is_over_with problem act ≡ false → act_refusal (opening_basis_of problem) opening act ≡ None
    can_allowed can going =
        let whole = filled_law start (hands_of problem can.dealt) can.played (started problem setup) (real can.dealt can.deal) can.legal in
        let done : List Move → Bool = λ moves. is_done start (letters_of moves) in
        (honest_proved problem can.dealt (act ∷ opening) setup (record {
          played = can.played;
          deal = can.deal.deal;
          legal = can.legal;
          going = ap done (sym whole ∙ ap (λ (acts : List Act). filled_moves start (moves_of acts)) can.shows) ∙ going;
          shows = can.shows;
        })).1

    -- where the deal is done after it, no visible turn comes after it, and no player is at a loss
    module _ (over : is_over_with problem act ≡ true) {player : Player} {dealt : Dealt} {played : List Move}
        (is : IsPlayedBy (longer problem act) player dealt played) where
      dealt_is : IsDealt (hands_of problem dealt)
      dealt_is = hands_dealt problem setup dealt is.deal.deal

      no_later : (turn : Act) (later : List Act) → acts_of (pone_of start) played ≡ later ++ turn ∷ played_back (longer problem act) → ⊥
      no_later turn later parts =
          let last = last_turn start (hands_of problem dealt) (started problem setup) dealt_is played later (played_back (longer problem act)) turn
          is.legal parts in
          both_ways (is_done start (letters_of last.past)) last.legal.1.not_done
          (ap (λ (past : List Move). is_done start (letters_of past))
          (last.filled ∙ ap (λ (acts : List Act). filled_moves start (moves_of acts)) (back problem act)) ∙ over)

      pub whole : acts_of (pone_of start) played ≡ act ∷ opening
      whole = elim (go_on is.begins.later (played_back (longer problem act))) [
        | inl same ↦ is.begins.parts ∙ same ∙ back problem act
        | inr more ↦ absurd (no_later more.act more.later (is.begins.parts ∙ more.parts))
      ]

      pub none_lost : is_at_loss player start (hands_of problem dealt) played ≡ false
      none_lost = elim (cases_Bool (is_at_loss player start (hands_of problem dealt) played)) [
        | inl lost ↦
            let of = loss player start (hands_of problem dealt) played lost in
            let found = any_found (fits played) (cards_left (hands_of problem dealt) Owner played) of.some in
            let filled = before_card start (hands_of problem dealt) (started problem setup) dealt_is played (act ∷ opening) found.0 is.legal whole
            of.going of.who found.1 found.2 in
            absurd (both_ways (is_done start (letters_of played)) of.going (ap (λ (past : List Move). is_done start (letters_of past)) filled ∙ over))
        | inr fine ↦ fine
      ]

  -- ---- the player before the next act
  module _ (choice : Option ℕ) (players : Act → Player) where
    abbrev before : Player
    before = player_before few choice players

    at_opening : before opening ≡ choice
    at_opening =
        ap (by_next choice players opening) (ap (λ (acts : List Act). slice_get acts few) (reverse-reverse problem.played)
        ∙ slice_get_past problem.played few (omega arith))

    after_act : (act : Act) (later : List Act) → before (later ++ act ∷ opening) ≡ players act (later ++ act ∷ opening)
    after_act act later = ap (by_next choice players (later ++ act ∷ opening)) (act_after problem.played later act)

    by_after : (act : Act) (later : List Act) → AreBy few before (later ++ act ∷ opening) → AreBy (few + 1) (players act) (later ++ act ∷ opening)
    by_after act [] by = (by_few (few + 1) (players act) opening (omega (arith, few_back)), λ late card is. absurd (omega (arith, late, few_back)))
    by_after act (turn ∷ later) by = (by_after act later by.0, λ late card is. sym (after_act act later) ∙ by.1 (omega (arith, late)) card is)

    -- directly after the opening, a card of the owner is the choice
    by_choice : (act : Act) (later : List Act) → AreBy few before (later ++ act ∷ opening) → (card : ℕ) → act ≡ own_card card → choice ≡ Some card
    by_choice act [] by card is = sym at_opening ∙ by.1 (omega (arith, few_back)) card is
    by_choice act (turn ∷ later) by card is = by_choice act later by.0 card is

    -- the choice may be played where some card may, and the players are sure after the acts that can come next
    module _
        (playable : (dealt : Dealt) (played : List Move) → IsDealOf problem dealt → Loss start (hands_of problem dealt) played choice →
        IsLegal start (hands_of problem dealt) played → acts_of (pone_of start) played ≡ opening → ⊥)
        (after : (act : Act) → CanComeNext problem act → ((card : ℕ) → act ≡ own_card card → choice ≡ Some card) →
        IsSurePlayer (longer problem act) (players act)) where
      module _ (dealt : Dealt) (played : List Move) (is : IsPlayedBy problem before dealt played) where
        abbrev hands : Hands
        hands = hands_of problem dealt

        abbrev acts : List Act
        acts = acts_of (pone_of start) played

        module _ (act : Act) (later : List Act) (parts : acts ≡ later ++ act ∷ opening) where
          by_parts : AreBy few before (later ++ act ∷ opening)
          by_parts = subst (λ (some : List Act). AreBy few before some) parts is.by

          abbrev can : CanComeNext problem act
          can = come dealt act is.deal
              (last_turn start hands (started problem setup) (real dealt is.deal) played later opening act is.legal parts)

          sure : IsSurePlayer (longer problem act) (players act)
          sure = after act can (by_choice act later by_parts)

          played_after : IsPlayedBy (longer problem act) (players act) dealt played
          played_after = record {
            deal = deal_next act can;
            legal = is.legal;
            begins = record { later = later; parts = parts ∙ ap (λ (rest : List Act). later ++ rest) (sym (back problem act)) };
            by = subst (λ (n : ℕ). AreBy n (players act) acts) (sym (long_next problem act))
                (subst (λ (some : List Act). AreBy (few + 1) (players act) some) (sym parts) (by_after act later by_parts));
          }

          same_card : before acts ≡ players act acts
          same_card = ap before parts ∙ after_act act later ∙ ap (players act) (sym parts)

        -- the record has just the opening, or goes on after it
        cases : (acts ≡ opening) ⊎ GoOn acts opening
        cases = elim (go_on is.begins.later opening) [
          | inl same ↦ inl (is.begins.parts ∙ same)
          | inr more ↦ inr (record { act = more.act; later = more.later; parts = is.begins.parts ∙ more.parts })
        ]

        at_loss : is_at_loss before start hands played ≡ false
        at_loss = elim cases [
          | inl same ↦
              elim (cases_Bool (is_at_loss before start hands played)) [
                | inl lost ↦
                    let of : Loss start hands played choice =
                    subst (Loss start hands played) (ap before same ∙ at_opening) (loss before start hands played lost) in
                    absurd (playable dealt played is.deal of is.legal same)
                | inr fine ↦ fine
              ]
          | inr more ↦
              ap (λ (stated : Option ℕ). not (is_done start (letters_of played)) && same_side (mover (pone_of start) (letters_of played)) Owner
              && list_any (fits played) (cards_left hands Owner played) && not (is_playable hands played stated)) (same_card more.act more.later more.parts)
              ∙ (sure more.act more.later more.parts).never_at_loss dealt played (played_after more.act more.later more.parts)
        ]

        reached : is_done_for problem played ≡ true → outcome_for problem dealt (play_scores problem played) ≡ Reached
        reached done = elim cases [
          | inl same ↦ absurd (not_yet dealt played is.deal is.legal same done)
          | inr more ↦ (sure more.act more.later more.parts).reached dealt played (played_after more.act more.later more.parts) done
        ]

      pub sure_before : (other : Player) × IsSurePlayer problem other
      sure_before = (before, record { never_at_loss = at_loss; reached = reached })
