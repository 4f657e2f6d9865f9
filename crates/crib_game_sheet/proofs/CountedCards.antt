-- How the code finds runs and lists what counts.
use Rattle.std.proofs.Common.{◌≡◌, ℕ, ◌-◌, max, eqb, Bool, true, false, List, [], ◌∷◌, ◌++◌, length, map, refl, ◌∙◌, arith}
use Rattle.std.specs.Prelude.{if◌then◌else◌}
use Rattle.std.proofs.lemmas.Bool.Decides.{nat_tests}
use Rattle.crib_cards.specs.Cards.{rank_of}
use Rattle.crib_cards.specs.Runs.{is_run}
use Rattle.crib_play.specs.Points.{most_last_cards}
use Rattle.crib_play.proofs.PointsLemmas.{longest_le}
use Rattle.crib_game_sheet.specs.declared.game.combination.Kind.TheVariants.{Fifteen, Pair, Run}
use Rattle.crib_game_sheet.specs.declared.game.combination.Combination.{Combination}
use Rattle.crib_game_sheet.specs.GameShow.{crib_combinations, flush_in_crib, flush_in_hand, hand_combinations, jack_among, plain_combinations}
use Rattle.crib_game_sheet.specs.Private.Chosen.{combinations_from}
use Rattle.crib_game_sheet.proofs.ChosenCombinations.{from_none}
use Rattle.crib_game_sheet.proofs.ReasonPoints.{three_cards}

-- ranks are a run if all of them are their longest one
pub run_is_longest : (ranks : List ℕ) → eqb (most_last_cards is_run (length ranks) ranks) (max (length ranks) 3) ≡ is_run ranks
run_is_longest [] = refl
run_is_longest (rank ∷ others) =
    let none : length (rank ∷ others) - length (rank ∷ others) ≡ 0 = omega arith in
    let few = longest_le is_run (length others) (rank ∷ others) in
    grind (arith, nat_tests, none, few, three_cards (rank ∷ others))

-- the kinds that are seen from ranks, one after another
pub plain_listed : (all one two three : List ℕ) {before fifteens pairs runs : List Combination} → one ≡ map rank_of all → two ≡ map rank_of all
    → three ≡ map rank_of all → before ≡ [] → fifteens ≡ before ++ combinations_from Fifteen one [] all
    → pairs ≡ fifteens ++ combinations_from Pair two [] all → runs ≡ pairs ++ combinations_from Run three [] all
    → runs ≡ plain_combinations all
plain_listed all one two three first second third none fifteen pair run =
    rw (run, pair, fifteen, none, first, second, third, from_none Fifteen all, from_none Pair all, from_none Run all) refl

-- these, the flush and the jack
pub all_listed : (crib : Bool) (cards : List ℕ) (starter : ℕ) {plain flushed made : List Combination} → plain ≡ plain_combinations (cards ++ starter ∷ [])
    → flushed ≡ plain ++ (if crib then flush_in_crib cards starter else flush_in_hand cards starter)
    → made ≡ flushed ++ jack_among cards starter
    → made ≡ (if crib then crib_combinations cards starter else hand_combinations cards starter)
unfolding hand_combinations crib_combinations
all_listed true cards starter first next last = last ∙ (λ i. (next ∙ (λ j. first j ++ flush_in_crib cards starter)) i ++ jack_among cards starter)
all_listed false cards starter first next last = last ∙ (λ i. (next ∙ (λ j. first j ++ flush_in_hand cards starter)) i ++ jack_among cards starter)
