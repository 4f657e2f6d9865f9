use borrow.Author.Rules.{rules}
use borrow.Author.Tests.{tests}
use Rattle.std.proofs.Common.{◌≡◌, ℕ, ◌+◌, ◌<◌, ◌≤◌, ◌&&◌, ◌||◌, Bool, true, false, sym, ◌∙◌, arith}
use Rattle.std.proofs.lemmas.Bool.Decides.{nat_tests}
use Rattle.std.proofs.lemmas.Bool.{and_left, lt-leb}
use Rattle.std.specs.Prelude.{nat_le}
use Rattle.crib_cards.specs.Cards.{card_of}
use Rattle.crib_show.specs.declared.worst.totals.Throws.{Throws}
use Rattle.crib_show.specs.Private.Extremes.{has_room, most_crib_suits, plain_crib}
use Rattle.crib_show.specs.Private.Totals.{card_scores}
use Rattle.crib_show.proofs.Throws.{few_most}
use Rattle.crib_show.proofs.worst.totals.Throws.ranks_score.Goals as goal

below : (points plain suits suit_bonus wanted : ℕ) → points ≡ plain → suits ≤ 6 → points + 6 + suit_bonus < wanted → plain + suits + suit_bonus < wanted
below points plain suits suit_bonus wanted is few less = omega arith

pub returns-then-points-self : goal.returns-then-points-self
returns-then-points-self c =
    let worst = c.args.self.now.worst.now in
    let plain = plain_crib worst c.args.first c.args.second in
    let suits = most_crib_suits worst c.args.first c.args.second in
    sym (and_left _ _ (and_left _ (has_room worst c.args.first c.args.second) (lt-leb c.args.wanted (plain + suits + c.args.self.now.suit_bonus)
    (below c.of-points.result plain suits c.args.self.now.suit_bonus c.args.wanted
    (c.of-points.ensures ∙ c.args.self.now.points.each c.args.first c.args.second c.requires.0 c.requires.1)
    (few_most worst c.args.first c.args.second) c.if-points-self.true))))

-- a test joined to a result by `&&` or by `||`, as each branch has it
either : (result is other : Bool) → result ≡ is → result ≡ true → result ≡ (is || other)
either result is other same found = grind (arith, nat_tests)

neither : (result is other : Bool) → result ≡ is → result ≡ false → other ≡ (is || other)
neither result is other same none = grind (arith, nat_tests)

neither_of : (reached both some : Bool) → reached ≡ both → reached ≡ false → reached ≡ (both && some)
neither_of reached both some is out = grind (arith, nat_tests)

some_of : (reached both some : Bool) → reached ≡ both → reached ≡ true → some ≡ (both && some)
some_of reached both some is at = grind (arith, nat_tests)

-- the crib can have the points, and there are cards for the throw
abbrev may_score : Throws → ℕ → ℕ → ℕ → Bool
may_score throws wanted first second =
    nat_le wanted (plain_crib throws.worst.now first second + most_crib_suits throws.worst.now first second + throws.suit_bonus)
    && has_room throws.worst.now first second

-- a throw with the first card in this suit has the points; and one with it in one of the first three suits
abbrev scores : Throws → ℕ → ℕ → ℕ → ℕ → Bool
scores throws wanted first second suit = card_scores throws.worst.now throws.aim.now wanted (card_of first suit) second

abbrev three_score : Throws → ℕ → ℕ → ℕ → Bool
three_score throws wanted first second =
    (scores throws wanted first second 0 || scores throws wanted first second 1) || scores throws wanted first second 2

pub returns-else-has_room : goal.returns-else-has_room
returns-else-has_room c =
    let plain = c.of-points.ensures ∙ c.args.self.now.points.each c.args.first c.args.second c.requires.0 c.requires.1 in
    let bound : c.if-wanted-points.value ≡ may_score c.args.self.now c.args.wanted c.args.first c.args.second = search (tests, rules, plain) in
    neither_of _ _ _ bound c.if-has_room.false

pub returns-then-card_scores-3 : goal.returns-then-card_scores-3
returns-then-card_scores-3 c =
    let plain = c.of-points.ensures ∙ c.args.self.now.points.each c.args.first c.args.second c.requires.0 c.requires.1 in
    let bound : c.if-wanted-points.value ≡ may_score c.args.self.now c.args.wanted c.args.first c.args.second = search (tests, rules, plain) in
    let three : c.if-card_scores-2.value ≡ three_score c.args.self.now c.args.wanted c.args.first c.args.second = search (tests, rules) in
    either _ _ (scores c.args.self.now c.args.wanted c.args.first c.args.second 3) three c.if-card_scores-3.true ∙ some_of _ _ _ bound c.if-has_room.true

pub returns-else-card_scores-3 : goal.returns-else-card_scores-3
returns-else-card_scores-3 c =
    let plain = c.of-points.ensures ∙ c.args.self.now.points.each c.args.first c.args.second c.requires.0 c.requires.1 in
    let bound : c.if-wanted-points.value ≡ may_score c.args.self.now c.args.wanted c.args.first c.args.second = search (tests, rules, plain) in
    let three : c.if-card_scores-2.value ≡ three_score c.args.self.now c.args.wanted c.args.first c.args.second = search (tests, rules) in
    let last : c.card_scores-else-card_scores-3.result ≡ scores c.args.self.now c.args.wanted c.args.first c.args.second 3 = search rules in
    last ∙ neither _ _ (scores c.args.self.now c.args.wanted c.args.first c.args.second 3) three c.if-card_scores-3.false
    ∙ some_of _ _ _ bound c.if-has_room.true
