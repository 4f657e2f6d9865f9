-- What the owner knows, and the cards that they may play.
use Rattle.std.proofs.Common.{◌≡◌, ◌↔◌, inl, inr, ℕ, ◌+◌, Bool, true, false, not, ◌&&◌, List, map, sym, ap, subst, ◌∙◌, arith}
use Rattle.std.specs.Prelude.{filter}
use Rattle.std.specs.List.{list_any}
use Rattle.std.proofs.lemmas.Bool.{and_parts, both_ways, cases_Bool, le-leb}
use Rattle.std.proofs.lemmas.Bool.Decides.{nat_tests}
use Rattle.crib_cards.specs.Cards.{card_value}
use Rattle.crib_cards.specs.Sets.{has}
use Rattle.crib_cards.specs.Start.{Start, Hands}
use Rattle.crib_cards.specs.declared.sides.Dealt.{Dealt}
use Rattle.crib_cards.specs.declared.moves.Move.TheVariants as move
use Rattle.crib_cards.specs.declared.moves.Act.{Act}
use Rattle.crib_cards.proofs.Members.{any_found, any_from}
use Rattle.crib_cards.proofs.SetFacts.{has-filter, has-set_of, in_set_where}
use Rattle.crib_play.specs.Record.{Record, count_of, pile_of}
use Rattle.crib_play.specs.declared.turns.Turn.TheVariants as turns
use Rattle.crib_play.specs.Fitting.{fits_at}
use Rattle.crib_play.specs.Filled.{filled_record}
use Rattle.crib_play.specs.Score.{is_done}
use Rattle.crib_play.specs.Legal.{letters_of, cards_of, fits, IsDealt}
use Rattle.crib_play.specs.History.{Event, Own, event_of, history_letters, filled_moves, moves_of, AreLegal}
use Rattle.crib_play.proofs.FilledRecords.{letters_filled}
use Rattle.crib_play.proofs.LegalRecords.{visible_legal}
use Rattle.crib_problem.specs.Setup.{Setup, IsSetup, start_of, hands_of, played_back}
use Rattle.crib_problem.specs.Laws.{IsHonest}
use Rattle.crib_problem.proofs.StartLemmas.{started, hands_dealt, hold_is_card}
use Rattle.crib_problem.proofs.Setups.{without_opening}
use Rattle.crib_know.specs.Knowledge.{Knowledge, played_events, asked_now, own_cards, own_left}
use Rattle.crib_know.specs.Hidden.{KnowsAfter}
use Rattle.crib_know.proofs.Events.{events, history_events}
use Rattle.crib_know.proofs.CardsLeft.{own_played, has-filter_parts}
use Rattle.crib_know.proofs.HonestOpenings.{allowed_proved}
use Rattle.crib_know.proofs.OpeningLawProofs.{letters_same}
use Rattle.crib_know.proofs.CallLemmas.{own_may}
use Rattle.crib_know.proofs.LedHistories.{MayCome}
use Rattle.crib_search.proofs.NoTreeNoPlan.{over_done}
use Rattle.crib_players.specs.Refutations.{may_play}
use Rattle.crib_players.specs.Players.{own_card}
use Rattle.crib_players.specs.Laws.{longer, MayPlay}
use Rattle.crib_players.proofs.SureTurns.{sure_card}
use Rattle.crib_why.specs.Answer.{SomeIsSure}
use Rattle.crib_players.proofs.SurePlayers.{opening_going}

regroup : (held gone played fit fits left : Bool) → gone ≡ played → fit ≡ fits → left ≡ (held && not played) → (held && not gone && fit) ≡ (left && fits)
regroup held gone played fit fits left same e is = grind (arith, nat_tests, same, e, is)

module _ (problem : Setup) (setup : IsSetup problem) where
  abbrev start : Start
  start = start_of problem

  abbrev opening : List Act
  opening = played_back problem

  abbrev now : List Event
  now = played_events problem

  honest : (dealt : Dealt) × IsHonest problem dealt opening
  honest = (allowed_proved problem (without_opening problem setup) setup.of_version).0 setup

  abbrev hands : Hands
  hands = hands_of problem honest.0

  real : IsDealt hands
  real = hands_dealt problem setup honest.0 honest.1.deal

  opening_legal : AreLegal start hands (moves_of opening)
  opening_legal =
      subst (λ (acts : List Act). AreLegal start hands (moves_of acts)) honest.1.shows
      (visible_legal start hands honest.1.played (started problem setup) real honest.1.legal)

  opening_events : events start (moves_of opening) ≡ now
  opening_events =
      sym (subst (λ (acts : List Act). map event_of acts ≡ events start (moves_of acts)) honest.1.shows
      (history_events start hands honest.1.played (started problem setup) real honest.1.legal))

  -- a card of the owner is played in the opening exactly where the events show it
  played_same : (card : ℕ) → has problem.hold card ≡ true → has (cards_of (moves_of opening)) card ≡ has (own_cards now) card
  played_same card mine =
      own_played start hands real card mine (moves_of opening) opening_legal ∙ ap (λ (h : List Event). has (own_cards h) card) opening_events

  letters_are : letters_of (filled_moves start (moves_of opening)) ≡ filled_record start (history_letters now)
  letters_are = letters_filled start (moves_of opening) ∙ ap (filled_record start) (sym (letters_same opening))

  left_is : (card : ℕ) → has problem.hold card ≡ true → has (own_left problem now) card ≡ (has problem.hold card && not (has (own_cards now) card))
  left_is card mine =
      has-set_of (filter (λ c. not (has (own_cards now) c)) problem.hold) card (hold_is_card problem setup card mine)
      ∙ has-filter (λ c. not (has (own_cards now) c)) problem.hold card

module _ {know : Knowledge} {problem : Setup} (knows : KnowsAfter know problem (played_events problem)) where
  pub asked_is : know.round.asked ≡ asked_now problem (played_events problem)
  asked_is = ap (λ (k : Knowledge). k.round.asked) knows.knowledge

  count_is : count_of know.round.pile ≡ count_of (pile_of (letters_of (filled_moves (start_of problem) (moves_of (played_back problem)))))
  count_is =
      ap (λ (k : Knowledge). count_of k.round.pile) knows.knowledge
      ∙ ap (λ (letters : Record). count_of (pile_of letters)) (sym (letters_are problem knows.setup))

  -- a card of the hold may be played exactly where it is left and fits
  may_is : (card : ℕ) → has problem.hold card ≡ true →
      may_play problem (played_back problem) card ≡ (has know.own_left card && fits_at (count_of know.round.pile) card)
  may_is card mine =
      let fit : fits (filled_moves (start_of problem) (moves_of (played_back problem))) card ≡ fits_at (count_of know.round.pile) card =
      ap (λ (count : ℕ). fits_at count card) (sym count_is) in
      let left : has know.own_left card ≡ (has problem.hold card && not (has (own_cards (played_events problem)) card)) =
      ap (λ (k : Knowledge). has k.own_left card) knows.knowledge ∙ left_is problem knows.setup card mine in
      regroup (has problem.hold card) (has (cards_of (moves_of (played_back problem))) card) (has (own_cards (played_events problem)) card)
      (fits (filled_moves (start_of problem) (moves_of (played_back problem))) card) (fits_at (count_of know.round.pile) card) (has know.own_left card)
      (played_same problem knows.setup card mine) fit left

  -- a card that is left is one of the hold
  left_held : (card : ℕ) → has know.own_left card ≡ true → has problem.hold card ≡ true
  left_held card left =
      let here = ap (λ (k : Knowledge). has k.own_left card) (sym knows.knowledge) ∙ left in
      (has-filter_parts (λ c. not (has (own_cards (played_events problem)) c)) problem.hold card
      (in_set_where (has (filter (λ c. not (has (own_cards (played_events problem)) c)) problem.hold)) card here).1).0

  -- a card that may be played is left, and fits
  may_parts : (card : ℕ) → MayPlay problem card → (has know.own_left card ≡ true) × (fits_at (count_of know.round.pile) card ≡ true)
  may_parts card may = and_parts _ _ (sym (may_is card (and_parts _ _ (and_parts _ _ may).0).0) ∙ may)

  pub may_left : (card : ℕ) → MayPlay problem card → has (own_left problem (played_events problem)) card ≡ true
  may_left card may = ap (λ (k : Knowledge). has k.own_left card) (sym knows.knowledge) ∙ (may_parts card may).0

  pub no_fit : (card : ℕ) → fits_at (count_of know.round.pile) card ≡ false → MayPlay problem card → ⊥
  no_fit card not may = both_ways _ not (may_parts card may).1

  -- if the owner need not go, some card may be played
  pub some_may : list_any (fits_at (count_of know.round.pile)) know.own_left ≡ true → (card : ℕ) × MayPlay problem card
  some_may some =
      let found = any_found (fits_at (count_of know.round.pile)) know.own_left some in
      (found.0, may_is found.0 (left_held found.0 found.1) ∙ ap (λ (b : Bool). b && fits_at (count_of know.round.pile) found.0) found.1 ∙ found.2)

  -- no card comes next where none fits
  pub no_card : list_any (fits_at (count_of know.round.pile)) know.own_left ≡ false → (card : ℕ) →
      MayCome problem (played_events problem) (Own (move.Card card)) → ⊥
  no_card none card may =
      let can = own_may know problem (played_events problem) knows (move.Card card) may in
      both_ways (list_any (fits_at (count_of know.round.pile)) know.own_left) none
      (any_from (fits_at (count_of know.round.pile)) know.own_left card can.1 (le-leb (count_of know.round.pile + card_value card) 31 can.2))

  -- the deal is not done after the opening
  pub never_over : know.round.asked ≡ turns.Over → ⊥
  never_over over =
      let start : Start = start_of problem in
      both_ways (is_done start (letters_of (filled_moves start (moves_of (played_back problem))))) (opening_going problem knows.setup)
      (ap (is_done start) (letters_are problem knows.setup)
      ∙ over_done start (filled_record start (history_letters (played_events problem))) (sym asked_is ∙ over))

  -- where the owner need not go, some card may be played
  pub can_some : know.round.asked ≡ turns.Owner → (must : Bool) →
      (must ≡ true) ↔ ((know.round.asked ≡ turns.Owner) × (list_any (fits_at (count_of know.round.pile)) know.own_left ≡ false)) → must ≡ false →
      (card : ℕ) × MayPlay problem card
  can_some asked must exact not = elim (cases_Bool (list_any (fits_at (count_of know.round.pile)) know.own_left)) [
    | inl some ↦ some_may some
    | inr none ↦ absurd (both_ways must not (exact.1 (asked, none)))
  ]

  -- a player who is sure after a card is sure before it
  pub sure_own_card : know.round.asked ≡ turns.Owner → (card : ℕ) → has know.own_left card ≡ true → fits_at (count_of know.round.pile) card ≡ true →
      SomeIsSure (longer problem (own_card card)) → SomeIsSure problem
  sure_own_card asked card left fit sure =
      sure_card problem card sure.0 knows.setup (sym asked_is ∙ asked)
      (may_is card (left_held card left) ∙ ap (λ (b : Bool). b && fits_at (count_of know.round.pile) card) left ∙ fit) sure.1
