-- Worked examples of the shows of a problem, and of the indices of a position table.
use Rattle.std.proofs.Common.{arith, ℕ, ◌≡◌, ◌∙◌, refl, sym, ap, [], ◌∷◌, true, false}
use Rattle.std.specs.Prelude.{map}
use Rattle.crib_cards.specs.Sets.{has, rank_counts, set_where}
use Rattle.crib_cards.specs.declared.sides.Side.TheVariants.{Owner, Opponent}
use Rattle.crib_cards.specs.declared.letters.Letter.TheVariants.{Seen}
use Rattle.crib_cards.specs.declared.moves.Move.TheVariants as move
use Rattle.crib_play.specs.History.{Own, Theirs}
use Rattle.crib_cards.specs.Deals.{unseen_from}
use Rattle.crib_show.specs.Extremes.{AreKeptIn}
use Rattle.crib_show.specs.Show.{hand_points}
use Rattle.crib_show.specs.Worst.{AreOwnPoints}
use Rattle.crib_plan.specs.declared.plan.Next.TheVariants.{End, To}
use Rattle.crib_problem.proofs.ExampleProblems.{after_tens}
use Rattle.crib_know.specs.Knowledge.{knowledge_after, sight_of}
use Rattle.crib_sure.specs.Shows.{AreExtremesOf, AreShowsOf, worst_of}
use Rattle.crib_sure.specs.declared.shows.Shows.{Shows}
use Rattle.crib_show.specs.declared.worst.extremes.ExtremesByRanks.{ExtremesByRanks}
use Rattle.crib_check.specs.Table.{AreInside, IsInside, Table, entry_of}
use Rattle.crib_know.specs.declared.knowledge.Shown.{Shown}
use Rattle.crib_show.specs.declared.deals.WorstShow.{WorstShow}

-- ---- the show of what the owner knows has the scores after the play: after own TC and opp TD, a pair for the opponent
abbrev show_after_tens : WorstShow
show_after_tens = worst_of after_tens (knowledge_after after_tens (Theirs (Seen 10) ∷ Own (move.Card 36) ∷ []))

parts_of_the_show : (show_after_tens.scores ≡ record { owner = 0; opponent = 2 }) × (show_after_tens.own_hold ≡ 36 ∷ 32 ∷ 4 ∷ 28 ∷ [])
    × (show_after_tens.own_throw ≡ 15 ∷ 23 ∷ []) × (show_after_tens.starter ≡ 10) × (show_after_tens.ranks ≡ rank_counts (10 ∷ []))
    × (show_after_tens.fixed ≡ 37 ∷ []) × (map (has show_after_tens.unseen) (37 ∷ 36 ∷ 0 ∷ []) ≡ true ∷ false ∷ true ∷ [])
    × (show_after_tens.target ≡ 121) × (show_after_tens.stop ≡ false) × (show_after_tens.dealer ≡ Opponent)
unfolding set_where
parts_of_the_show = (refl, refl, refl, refl, refl, refl, refl, refl, refl, refl)

abbrev no_shown : Shown
no_shown = record { ranks_seen = []; opponent_left = 4; least = 1 }

-- ---- indices of a position table: below the length of the list, and of 32 bits
abbrev IsIndex : ℕ → ℕ → Type 0
IsIndex sights sight = IsInside sights (record { sight = sight; shown = no_shown; place = End })

indices : IsIndex 3 2 × IsIndex 4294967296 4294967295
indices = ((omega arith, omega arith), (omega arith, omega arith))

index_past_the_last : IsIndex 3 3 → ⊥
index_past_the_last is = absurd (omega (arith, is.0))

index_of_33_bits : IsIndex 4294967297 4294967296 → ⊥
index_of_33_bits is = absurd (omega (arith, is.1))

entry_of_the_only_sight : AreInside (record {
  sights = sight_of (knowledge_after after_tens []) ∷ [];
  entries = record { sight = 0; shown = no_shown; place = End } ∷ [];
})
entry_of_the_only_sight = ((omega arith, omega arith), tt)

entry_without_a_sight : AreInside (record { sights = []; entries = record { sight = 0; shown = no_shown; place = End } ∷ [] }) → ⊥
entry_without_a_sight are = absurd (omega (arith, are.0.0))

-- the index is that of the first equal sight, or the length if none is equal
abbrev two_sights : Table
two_sights = record { sights = sight_of (knowledge_after after_tens []) ∷ sight_of (knowledge_after after_tens []) ∷ []; entries = [] }

indices_of_sights :
    map (λ same. (entry_of (λ sight other. same) two_sights (record { know = knowledge_after after_tens []; place = To 4 })).sight) (true ∷ false ∷ [])
    ≡ 0 ∷ 2 ∷ []
indices_of_sights = refl

parts_of_an_entry : entry_of (λ sight other. true) two_sights (record { know = knowledge_after after_tens []; place = To 4 })
    ≡ record { sight = 0; shown = record { ranks_seen = rank_counts []; opponent_left = 4; least = 1 }; place = To 4 }
parts_of_an_entry = refl

-- ---- shows of a problem are those of some knowledge, and what is kept of them is right: TC 9C 2C 8C with 3H make 9
shows_have_the_dealer : (shows : Shows) → AreShowsOf after_tens shows → shows.worst.dealer ≡ Owner → ⊥
shows_have_the_dealer shows are owner =
    (let dealer : Opponent ≡ Owner = sym (ap (λ (worst : WorstShow). worst.dealer) are.1.1) ∙ owner in absurd cc)

shows_are_kept_right : (shows : Shows) → (AreExtremesOf after_tens shows.extremes → ⊥) → AreShowsOf after_tens shows → ⊥
shows_are_kept_right shows wrong are = wrong are.0

own_hand_is_kept_right : (kept : ExtremesByRanks) → AreExtremesOf after_tens kept → kept.own.hand ≡ 8 → ⊥
unfolding hand_points
own_hand_is_kept_right kept are eight = absurd (omega (arith, eight, are.own.hand))

-- of the cards of this problem: 4S 6S are thrown, and TD is fixed
kept_for_these_cards : (shows : ExtremesByRanks) → AreExtremesOf after_tens shows →
    AreKeptIn 10 (15 ∷ 23 ∷ []) (unseen_from (10 ∷ 36 ∷ 32 ∷ 4 ∷ 28 ∷ 15 ∷ 23 ∷ [])) (37 ∷ []) shows.kept
unfolding set_where
kept_for_these_cards shows are = are.kept

own_cards_of_the_problem : (shows : ExtremesByRanks) → AreExtremesOf after_tens shows → AreOwnPoints 10 (36 ∷ 32 ∷ 4 ∷ 28 ∷ []) (15 ∷ 23 ∷ []) shows.own
own_cards_of_the_problem shows are = are.own
