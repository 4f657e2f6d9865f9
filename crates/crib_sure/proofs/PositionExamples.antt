-- Worked examples: histories that follow a plan, and positions.
use Rattle.std.proofs.Common.{◌≡◌, ℕ, List, [], ◌∷◌, Some, refl, ap}
use Rattle.std.specs.Prelude.{IsTrue, true, false, replicate}
use Rattle.std.proofs.lemmas.Bool.{both_ways}
use Rattle.crib_cards.specs.Sets.{set_where}
use Rattle.crib_cards.specs.declared.letters.Letter.TheVariants.{Seen, Go}
use Rattle.crib_cards.specs.declared.moves.Move.TheVariants as move
use Rattle.crib_cards.specs.declared.sides.Side.TheVariants.{Owner, Opponent}
use Rattle.crib_play.specs.declared.turns.Turn.TheVariants as turns
use Rattle.crib_play.specs.Record.{count_of}
use Rattle.crib_play.specs.History.{Event, Own, Theirs}
use Rattle.crib_problem.proofs.ExampleProblems.{plays, four_twos}
use Rattle.crib_plan.specs.declared.plan.Next.TheVariants.{End, To}
use Rattle.crib_plan.specs.declared.plan.Node.{Node}
use Rattle.crib_plan.specs.declared.plan.Node.TheVariants.{Play, See}
use Rattle.crib_know.specs.Knowledge.{Knowledge, knowledge_after}
use Rattle.crib_know.specs.Hidden.{CanDoAt, KnowsAfter}
use Rattle.crib_sure.specs.declared.keys.Key.{Key}
use Rattle.crib_sure.specs.HistoryPlaces.{FollowsBy, IsStatedEvent}
use Rattle.crib_sure.specs.Positions.{IsStuckAt, MayTakeAt, StandsAt}

-- 2C, and then 2D after an ace
abbrev two_twos : List Node
two_twos = Play 4 (To 1) ∷ See (To 2 ∷ replicate 13 End) ∷ Play 5 End ∷ []

-- 2C 2D 2H, whatever they show: the last node is the second
abbrev in_a_row : List Node
in_a_row = Play 4 (To 2) ∷ Play 6 End ∷ Play 5 (To 1) ∷ []

-- a card is stated where another is played
abbrev Instead : ℕ → ℕ → Type 0
Instead one other = Some one ≡ Some other

-- ---- what is stated, and what is not
stated_turns : (IsStatedEvent two_twos (To 2) (Own (move.Card 9)) ≡ Instead 5 9) × (IsStatedEvent two_twos (To 0) (Theirs Go) ≡ Unit {0})
stated_turns = (refl, refl)

-- without an opening, and with own 2H and an ace
turns_that_follow : (FollowsBy two_twos [] (Own (move.Card 9) ∷ Theirs (Seen 1) ∷ Own (move.Card 8) ∷ [])
    ≡ (((Unit {0} × (IsTrue true → Instead 4 8)) × (IsTrue true → Unit {0})) × (IsTrue true → Instead 5 9)))
    × (FollowsBy two_twos (plays Owner 6 ∷ plays Opponent 0 ∷ []) (Own (move.Card 9) ∷ Theirs (Seen 1) ∷ Own (move.Card 6) ∷ [])
    ≡ (((Unit {0} × (IsTrue false → Instead 4 6)) × (IsTrue false → Unit {0})) × (IsTrue true → Instead 4 9)))
turns_that_follow = (refl, refl)

-- a letter behind the last card, three cards, and an opening with a card of the owner last
turns_behind_cards : (FollowsBy two_twos [] (Theirs Go ∷ Own (move.Card 9) ∷ Theirs (Seen 1) ∷ Own (move.Card 8) ∷ [])
    ≡ ((((Unit {0} × (IsTrue true → Instead 4 8)) × (IsTrue true → Unit {0})) × (IsTrue true → Instead 5 9)) × (IsTrue true → Unit {0})))
    × (FollowsBy in_a_row [] (Own (move.Card 10) ∷ Own (move.Card 9) ∷ Own (move.Card 8) ∷ [])
    ≡ (((Unit {0} × (IsTrue true → Instead 4 8)) × (IsTrue true → Instead 5 9)) × (IsTrue true → Instead 6 10)))
    × (FollowsBy in_a_row (plays Opponent 0 ∷ plays Owner 6 ∷ []) (Own (move.Card 9) ∷ Own (move.Card 6) ∷ Theirs (Seen 1) ∷ [])
    ≡ (((Unit {0} × (IsTrue false → Unit {0})) × (IsTrue false → Instead 4 6)) × (IsTrue true → Instead 4 9)))
turns_behind_cards = (refl, refl, refl)

another_card : FollowsBy two_twos [] (Theirs (Seen 1) ∷ Own (move.Card 5) ∷ []) → ⊥
another_card follows = (let stated = follows.0.1 refl in cc)

-- ---- positions
abbrev two_turns : List Event
two_turns = Theirs (Seen 1) ∷ Own (move.Card 4) ∷ []

after_two_turns : (key : Key) → StandsAt four_twos two_twos key two_turns →
    (key.place ≡ To 2) × KnowsAfter key.know four_twos two_turns × FollowsBy two_twos [] two_turns
after_two_turns key stands = (stands.place, stands.knows, stands.follows)

no_other_card : (key : Key) → StandsAt four_twos two_twos key (Own (move.Card 5) ∷ []) → ⊥
no_other_card key stands = (let stated = stands.follows.1 refl in cc)

no_other_place : (know : Knowledge) → StandsAt four_twos two_twos (record { know = know; place = End }) [] → ⊥
no_other_place know stands = (let place = stands.place in cc)

no_other_count : (key : Key) → count_of key.know.round.pile ≡ 3 → StandsAt four_twos two_twos key [] → ⊥
no_other_count key three stands = (let none = ap (λ (know : Knowledge). count_of know.round.pile) stands.knows.knowledge in cc)

-- ---- the owner's move, and none
abbrev at_the_lead : Knowledge
at_the_lead = knowledge_after four_twos []

-- at 30 the owner has the ace and the two of clubs
abbrev at_30 : Knowledge
at_30 = record at_the_lead { round = record at_the_lead.round { pile = 13 ∷ 12 ∷ 11 ∷ [] }; own_left = 0 ∷ 4 ∷ [] }

what_is_taken : (know : Knowledge) → MayTakeAt two_twos (record { know = know; place = To 2 }) (move.Card 9) ≡ (CanDoAt know (move.Card 9) × Instead 5 9)
what_is_taken know = refl

not_another : (know : Knowledge) → MayTakeAt two_twos (record { know = know; place = To 0 }) (move.Card 5) → ⊥
not_another know may = (let stated = may.1 in cc)

not_the_opponents_turn : (key : Key) → key.know.round.asked ≡ turns.Opponent → MayTakeAt two_twos key (move.Card 4) → ⊥
not_the_opponents_turn key asked may = (let owner = may.0.0 in cc)

-- nothing is stated, and 2C doesn't fit
stuck : IsStuckAt two_twos (record { know = at_the_lead; place = End }) × IsStuckAt two_twos (record { know = at_30; place = To 0 })
unfolding set_where
stuck = ((refl, refl, refl), (refl, refl, refl))

not_stuck : IsStuckAt two_twos (record { know = at_the_lead; place = To 0 }) → ⊥
unfolding set_where
not_stuck is = both_ways true is.2 refl

-- 2D alone is left, and the last node states it
not_stuck_at_the_end : IsStuckAt two_twos (record { know = record at_the_lead { own_left = 5 ∷ [] }; place = To 2 }) → ⊥
unfolding set_where
not_stuck_at_the_end is = both_ways true is.2 refl

-- the opponent is asked, and 2C alone doesn't fit
not_asked : (key : Key) → key.know.round.asked ≡ turns.Opponent → IsStuckAt two_twos key → ⊥
not_asked key asked is = (let owner = is.0 in cc)

none_fits : IsStuckAt two_twos (record { know = record at_30 { own_left = 4 ∷ [] }; place = End }) → ⊥
none_fits is = both_ways false refl is.1
