-- Worked examples of deals that miss a demand at the end, and of what is taken.
use Rattle.std.proofs.Common.{◌≡◌, ℕ, ◌+◌, true, false, List, [], ◌∷◌, ◌++◌, length, map, refl}
use Rattle.crib_cards.specs.declared.sides.Dealt.{Dealt}
use Rattle.crib_show.specs.Show.{hand_points, crib_points}
use Rattle.crib_show.specs.declared.demands.Demand.{Demand}
use Rattle.crib_problem.proofs.ExampleProblems.{four_twos}
use Rattle.crib_bound.specs.Private.Walks.{entry_by, entry_of, grade_of, held_of, index_of, ladder_at, misses_at, taken_of}

-- AC 5C 9C QC count ten with the starter KD, four of them for the flush, and AD 5C 9C QC count six
abbrev clubs : Dealt
clubs = record { hold = 0 ∷ 16 ∷ 32 ∷ 44 ∷ []; throw = 8 ∷ 9 ∷ [] }

abbrev mixed : Dealt
mixed = record { hold = 1 ∷ 16 ∷ 32 ∷ 44 ∷ []; throw = 8 ∷ 9 ∷ [] }

-- the opponent's hand may count at most so many points
abbrev at_most : ℕ → Demand
at_most points = record { hand = points; total = 255; crib = 0 }

one_choice : index_of clubs ≡ index_of mixed
one_choice = refl

some_deals_of_it_miss : map (λ (dealt : Dealt). misses_at index_of four_twos (at_most 9) (index_of clubs) dealt) (clubs ∷ mixed ∷ []) ≡ true ∷ false ∷ []
unfolding hand_points crib_points
some_deals_of_it_miss = refl

no_deals_of_another : misses_at index_of four_twos (at_most 9) (index_of clubs + 1) clubs ≡ false
no_deals_of_another = refl

-- of the choice with the first index three parts of five are taken
abbrev four_aces : Dealt
four_aces = record { hold = 0 ∷ 1 ∷ 2 ∷ 3 ∷ []; throw = 8 ∷ 9 ∷ [] }

three_of_five : taken_of index_of (5 ∷ []) (2 ∷ []) four_aces ≡ 3
three_of_five = refl

-- a ladder of hands of at most 14 points, then 13, and so on. With KD four aces count twelve, so it meets three demands
abbrev falling : List Demand
falling = map at_most (14 ∷ 13 ∷ 12 ∷ 11 ∷ 10 ∷ 9 ∷ 8 ∷ [])

grades : map (grade_of four_twos falling) (four_aces ∷ clubs ∷ mixed ∷ []) ≡ 3 ∷ 5 ∷ 7 ∷ []
unfolding hand_points crib_points grade_of
grades = refl

-- the second choice is that of the index 323
entries : map (entry_by four_twos falling) (four_aces ∷ clubs ∷ mixed ∷ []) ≡ 3 ∷ 5173 ∷ 5175 ∷ []
unfolding hand_points crib_points grade_of entry_by
entries = refl

-- it has no ladder here, and so no grades
entries_by_ladders : map (entry_of four_twos (record { rungs = falling } ∷ [])) (four_aces ∷ clubs ∷ mixed ∷ []) ≡ 3 ∷ 5168 ∷ 5168 ∷ []
unfolding hand_points crib_points grade_of entry_by entry_of
entries_by_ladders = refl

-- a ladder of sixteen demands has fifteen
sixteenth_rung : length (ladder_at (record { rungs = at_most 15 ∷ at_most 15 ∷ falling ++ falling } ∷ []) 0) ≡ 15
sixteenth_rung = refl

-- a list has an index two times: two parts of it are held back, and then four more
held_twice : (held_of (5 ∷ 7 ∷ 5 ∷ []) (2 ∷ 3 ∷ 4 ∷ []) 2 5 ≡ 2) × (held_of (5 ∷ 7 ∷ 5 ∷ []) (2 ∷ 3 ∷ 4 ∷ []) 3 5 ≡ 6)
held_twice = (refl, refl)

-- a deal that misses the first demand has no grade, whatever the others
no_grade_after_a_miss : grade_of four_twos (at_most 11 ∷ at_most 14 ∷ []) four_aces ≡ 0
unfolding hand_points crib_points grade_of
no_grade_after_a_miss = refl
