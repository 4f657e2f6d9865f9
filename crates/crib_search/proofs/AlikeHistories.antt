-- Histories that differ only in the suits of the owner's cards.
use Rattle.std.proofs.Common.{◌≡◌, ℕ, ◌+◌, ◌≤◌, Bool, true, not, ◌&&◌, ◌||◌, cond, eqb, List, [], ◌∷◌, ◌++◌, map, count_by, refl}
use Rattle.std.proofs.Common.{sym, ap, ◌∙◌, arith}
use Rattle.std.proofs.lemmas.Bool.Decides.{nat_tests}
use Rattle.std.proofs.lemmas.Bool.{and_parts, eqb-true, eq-eqb, not-true}
use Rattle.crib_cards.specs.Cards.{rank_of}
use Rattle.crib_cards.specs.Sets.{has, are_distinct, count_rank}
use Rattle.crib_cards.specs.Letters.{letter_of}
use Rattle.crib_cards.specs.Start.{pone_of}
use Rattle.crib_cards.specs.Sides.{same_side}
use Rattle.crib_cards.specs.declared.sides.Side.{Side}
use Rattle.crib_cards.specs.declared.sides.Side.TheVariants.{Owner, Opponent}
use Rattle.crib_cards.specs.declared.letters.Letter.{Letter}
use Rattle.crib_cards.specs.declared.letters.Letter.TheVariants.{Seen, Go}
use Rattle.crib_cards.specs.declared.moves.Move.TheVariants as move
use Rattle.crib_cards.proofs.SetFacts.{in_set_where}
use Rattle.crib_play.specs.Record.{count_of, pile_of}
use Rattle.crib_play.specs.Score.{asked_after}
use Rattle.crib_play.specs.Filled.{filled_record}
use Rattle.crib_play.specs.Least.{least_of}
use Rattle.crib_play.specs.History.{Event, Own, Theirs, history_letters}
use Rattle.crib_play.proofs.TurnFacts.{filter_all}
use Rattle.crib_problem.specs.Setup.{Setup, IsSetup, start_of}
use Rattle.crib_know.specs.Knowledge.{own_cards, their_ranks, count_after, least_value, asked_now}
use Rattle.crib_know.specs.Hidden.{BeginsAfter, CanShow}
use Rattle.crib_know.proofs.LedHistories.{IsLed}
use Rattle.crib_know.proofs.CardsLeft.{filter_present_by, has-filter_parts, has-filter_from, remaining}
use Rattle.crib_know.proofs.CardLists.{count_here, count_map, found_by}
use Rattle.crib_know.proofs.AgreeingIsPassing.{Might}
use Rattle.crib_know.proofs.PassingIsAgreeing.{can_might}
use Rattle.crib_know.proofs.KnowledgeFacts.{shows}
use Rattle.crib_search.specs.Private.States.{IsOption}
use Rattle.crib_cards.proofs.Members.{distinct_left}
use Rattle.crib_cards.proofs.SetCounts.{count_cons}

-- an event without the suit of a card of the owner
abbrev pub sight_of : Event → Side × Letter
sight_of (Own turn) = (Owner, letter_of turn)
sight_of (Theirs letter) = (Opponent, letter)

abbrev pub AreAlike : List Event → List Event → Type 0
AreAlike one other = map sight_of one ≡ map sight_of other

pub alike_more : (event twin : Event) (one other : List Event) → sight_of event ≡ sight_of twin → AreAlike one other → AreAlike (event ∷ one) (twin ∷ other)
alike_more event twin one other same alike =
    ap (λ (sight : Side × Letter). sight ∷ map sight_of one) same ∙ ap (λ (rest : List (Side × Letter)). sight_of twin ∷ rest) alike

-- ---- what they share
letters_seen : (history : List Event) → history_letters history ≡ map (λ sight. sight.1) (map sight_of history)
letters_seen [] = refl
letters_seen (Own turn ∷ history) = ap (λ (rest : List Letter). letter_of turn ∷ rest) (letters_seen history)
letters_seen (Theirs letter ∷ history) = ap (λ (rest : List Letter). letter ∷ rest) (letters_seen history)

pub letters_alike : (one other : List Event) → AreAlike one other → history_letters one ≡ history_letters other
letters_alike one other alike = letters_seen one ∙ ap (map (λ sight. sight.1)) alike ∙ sym (letters_seen other)

-- the ranks that a side has shown
abbrev ranks_with : Letter → List ℕ → List ℕ
ranks_with (Seen rank) ranks = rank ∷ ranks
ranks_with Go ranks = ranks

abbrev ranks_by : Side → List (Side × Letter) → List ℕ
ranks_by side [] = []
ranks_by side (sight ∷ rest) = cond (same_side sight.0 side) (ranks_with sight.1 (ranks_by side rest)) (ranks_by side rest)

theirs_seen : (history : List Event) → their_ranks history ≡ ranks_by Opponent (map sight_of history)
theirs_seen [] = refl
theirs_seen (Own turn ∷ history) = theirs_seen history
theirs_seen (Theirs (Seen rank) ∷ history) = ap (λ (rest : List ℕ). rank ∷ rest) (theirs_seen history)
theirs_seen (Theirs Go ∷ history) = theirs_seen history

pub theirs_alike : (one other : List Event) → AreAlike one other → their_ranks one ≡ their_ranks other
theirs_alike one other alike = theirs_seen one ∙ ap (ranks_by Opponent) alike ∙ sym (theirs_seen other)

owns_seen : (history : List Event) → map rank_of (own_cards history) ≡ ranks_by Owner (map sight_of history)
owns_seen [] = refl
owns_seen (Own (move.Card card) ∷ history) = ap (λ (rest : List ℕ). rank_of card ∷ rest) (owns_seen history)
owns_seen (Own move.Go ∷ history) = owns_seen history
owns_seen (Theirs letter ∷ history) = owns_seen history

owns_alike : (one other : List Event) → AreAlike one other → map rank_of (own_cards one) ≡ map rank_of (own_cards other)
owns_alike one other alike = owns_seen one ∙ ap (ranks_by Owner) alike ∙ sym (owns_seen other)

-- the owner's four cards are different
hold_apart : (problem : Setup) → IsSetup problem → are_distinct problem.hold ≡ true
hold_apart problem setup =
    let parts = and_parts (not (has (problem.hold ++ problem.thrown) problem.starter)) (are_distinct (problem.hold ++ problem.thrown)) setup.distinct in
    distinct_left problem.hold problem.thrown parts.1

module _ (problem : Setup) where
  pub count_alike : (one other : List Event) → AreAlike one other → count_after problem one ≡ count_after problem other
  count_alike one other alike = ap (λ (letters : List Letter). count_of (pile_of (filled_record (start_of problem) letters))) (letters_alike one other alike)

  pub least_alike : (one other : List Event) → AreAlike one other → least_value problem one ≡ least_value problem other
  least_alike one other alike = ap (λ (letters : List Letter). least_of (pone_of (start_of problem)) Opponent (filled_record (start_of problem) letters))
      (letters_alike one other alike)

  -- ---- the owner's cards that are left
  module _ (setup : IsSetup problem) (test : ℕ → Bool) where
    -- the cards that are left and the cards that are played are together the hold
    left_whole : (history : List Event) → IsLed problem history → count_by test (remaining (own_cards history) problem.hold) + count_by test
        (own_cards history) ≡ count_by test problem.hold
    left_whole [] led = rw (filter_all problem.hold) (omega arith)
    left_whole (Own (move.Card card) ∷ history) led =
        let free : ℕ → Bool = λ c. not (has (own_cards history) c) in
        let less : count_by test (remaining (card ∷ own_cards history) problem.hold) + cond (test card) 1 0 ≡ count_by test
        (remaining (own_cards history) problem.hold) =
        filter_present_by test free (λ c. not (has (card ∷ own_cards history) c)) card (λ other. free_without (eqb card other) (has (own_cards history) other))
        problem.hold (hold_apart problem setup)
        (in_set_where (has (remaining (own_cards history) problem.hold)) card led.1.1).1 in
        let more = count_cons test card (own_cards history) in
        let before = left_whole history led.0 in
        omega (arith, less, more, before)
      where
        free_without : (here there : Bool) → not (here || there) ≡ (not there && not here)
        free_without here there = grind (arith, nat_tests)
    left_whole (event ∷ history) led = left_whole history led.0

  module _ (setup : IsSetup problem) (one other : List Event) (alike : AreAlike one other) (led_one : IsLed problem one) (led_other : IsLed problem other) where
    same_left : (rank : ℕ) → count_rank rank (remaining (own_cards one) problem.hold) ≡ count_rank rank (remaining (own_cards other) problem.hold)
    same_left rank =
        let a = left_whole setup (λ c. eqb (rank_of c) rank) one led_one in
        let b = left_whole setup (λ c. eqb (rank_of c) rank) other led_other in
        let c = count_map rank_of rank (own_cards one) in
        let d = count_map rank_of rank (own_cards other) in
        let e = rw (owns_alike one other alike) at c in
        omega (arith, a, b, d, e)

    -- each option after one history has the rank of an option after the other
    pub option_alike : (card : ℕ) → IsOption problem one card → (twin : ℕ) × IsOption problem other twin × (rank_of twin ≡ rank_of card)
    option_alike card is =
        let here : 1 ≤ count_rank (rank_of card) (remaining (own_cards one) problem.hold) =
        count_here (λ c. eqb (rank_of c) (rank_of card)) (remaining (own_cards one) problem.hold) card
        (has-filter_from (λ c. not (has (own_cards one) c)) problem.hold card is.held (ap not is.free)) (eq-eqb (rank_of card) (rank_of card) refl) in
        let same = same_left (rank_of card) in
        let found = found_by (λ c. eqb (rank_of c) (rank_of card)) (remaining (own_cards other) problem.hold) (omega (arith, here, same)) in
        let rank : rank_of found.card ≡ rank_of card = eqb-true (rank_of found.card) (rank_of card) found.passes in
        let parts = has-filter_parts (λ c. not (has (own_cards other) c)) problem.hold found.card found.held in (
          found.card,
          record { held = parts.0; free = not-true (has (own_cards other) found.card) parts.1; fits = rw (← count_alike one other alike, rank) is.fits },
          rank,
        )

    -- ---- what the opponent may show
    pub asked_alike : asked_now problem one ≡ asked_now problem other
    asked_alike = ap (λ (letters : List Letter). asked_after (start_of problem) (filled_record (start_of problem) letters)) (letters_alike one other alike)

    might_alike : (letter : Letter) → Might problem one letter → Might problem other letter
    might_alike (Seen rank) might = record {
      is = might.is;
      asked = sym asked_alike ∙ might.asked;
      fits = omega (arith, might.fits, count_alike one other alike);
      high = omega (arith, might.high, least_alike one other alike);
      free = rw (theirs_alike one other alike) at might.free;
    }
    might_alike Go might = record { asked = sym asked_alike ∙ might.asked; high = omega (arith, might.high, count_alike one other alike) }

    pub show_alike : BeginsAfter problem other → (letter : Letter) → CanShow problem one letter → CanShow problem other letter
    show_alike begun letter can = shows problem setup other led_other begun letter (might_alike letter (can_might problem setup one letter can))
