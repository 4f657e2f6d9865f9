-- The throws of two of some cards, and the cribs with them.
use Rattle.std.specs.Prelude.{◌≡◌, ℕ, ◌+◌, ◌*◌, ◌≤◌, min, max, nat_lt, Bool, not, ◌&&◌, List, [], ◌∷◌}
use Rattle.std.specs.Prelude.{◌==◌, ◌++◌, count_by, slice_index}
use Rattle.std.specs.List.{All}
use Rattle.crib_cards.specs.Cards.{IsCard}
use Rattle.crib_show.specs.Show.{crib_points}
use Rattle.crib_problem.specs.Setup.{Setup, unseen_of}
use Rattle.crib_know.specs.Hidden.{KnowsAfter}
use Rattle.crib_know.specs.Knowledge.{Knowledge, played_events}
use Rattle.crib_deals.specs.declared.throws.Cribs.{Cribs}

-- how many throws of two of some cards pass a test
abbrev pub passing_throws : (List ℕ → Bool) → List ℕ → ℕ
passing_throws test [] = 0
passing_throws test (card ∷ cards) =
    count_by (λ other. test (card ∷ other ∷ [])) cards + passing_throws test cards

-- the points of the crib for each two cards that the opponent may have thrown. For cards that are known, or the same,
-- there may be fewer
abbrev pub AreCribs : List ℕ → ℕ → List ℕ → Type 0
AreCribs thrown starter points =
    (first second : ℕ) → IsCard first → IsCard second
    → slice_index points (52 * first + second) ≡ min (crib_points (thrown ++ first ∷ second ∷ []) starter) 29

-- no crib has more points than a crib can have
abbrev pub AreFew : List ℕ → Type 0
AreFew points = All (λ crib. crib ≤ 29) points

-- whether a throw is of two different cards
abbrev pub are_two : List ℕ → Bool
are_two throw = not (slice_index throw 0 == slice_index throw 1)

-- the points of the crib with a throw, by the points of each crib: those with the lower card first
abbrev pub crib_with : List ℕ → List ℕ → ℕ
crib_with points throw =
    let first : ℕ = slice_index throw 0 in
    let second : ℕ = slice_index throw 1 in
    slice_index points (52 * min first second + max first second)

-- whether a throw of two different cards makes a crib with fewer points than a limit, by the points of each crib
abbrev pub is_below : List ℕ → ℕ → List ℕ → Bool
is_below points limit throw = are_two throw && nat_lt (crib_with points throw) limit

-- how many cards make a throw with a card that passes a test
abbrev pub partners : (List ℕ → Bool) → ℕ → List ℕ → ℕ
partners test card cards = count_by (λ other. test (card ∷ other ∷ [])) cards

-- the cribs count what they say: for each limit, the throws of two unseen cards that make a crib below it, and the
-- partners of each card in such a throw
pub record AreThrowsCounted (cribs : Cribs) : Type 0 where
  pub few : AreFew cribs.points
  pub below : (limit : ℕ) → limit ≤ 30 →
      slice_index cribs.below limit ≡ passing_throws (is_below cribs.points limit) cribs.unseen
  pub partners : (card limit : ℕ) → IsCard card → limit ≤ 30 →
      slice_index cribs.partners (31 * card + limit) ≡ partners (is_below cribs.points limit) card cribs.unseen

-- what is known of a problem after its opening, and the cribs with two of its unseen cards
pub record AreOfProblem (problem : Setup) (know : Knowledge) (cribs : Cribs) : Type 0 where
  pub knows : KnowsAfter know problem (played_events problem)
  pub unseen_is : cribs.unseen ≡ unseen_of problem
  pub cribs_are : AreCribs problem.thrown problem.starter cribs.points
  pub counted : AreThrowsCounted cribs
