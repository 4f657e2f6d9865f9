-- A problem has one table of scores, and one number of holes that are sure, and so has each turn.
use Rattle.std.proofs.Common.{◌≡◌, ℕ, suc, List, [], ◌∷◌, refl, sym, ap, ◌∙◌, subst, inl, inr, arith}
use Rattle.std.specs.Prelude.{filter}
use Rattle.std.specs.List.{AllZip}
use Rattle.std.proofs.lemmas.Bool.{cases_lt}
use Rattle.std.proofs.lemmas.Bool.Decides.{same_from_decides}
use Rattle.crib_cards.specs.declared.moves.Act.{Act}
use Rattle.crib_cards.specs.declared.sides.Scores.{Scores}
use Rattle.crib_problem.specs.Setup.{Setup}
use Rattle.crib_search.proofs.OneTree.{one_list}
use Rattle.crib_leads.specs.Leads.{may_come}
use Rattle.crib_tables.specs.declared.holes.Holes.{Holes}
use Rattle.crib_tables.specs.declared.holes.TurnHoles.{TurnHoles}
use Rattle.crib_tables.specs.declared.scores.Mark.{Mark}
use Rattle.crib_tables.specs.declared.scores.Mark.TheVariants as mark
use Rattle.crib_tables.specs.declared.scores.Row.{Row}
use Rattle.crib_tables.specs.declared.scores.ScoreTable.{ScoreTable}
use Rattle.crib_tables.specs.Holes.{AreHoles, AreMost, AreMostWith, AreSureHoles, AreSureWith}
use Rattle.crib_tables.specs.Scores.{AreScores, IsMarkAt, IsRow, at_scores, scores_around}
use Rattle.crib_tables.specs.Turns.{AreSure, own_turns}

-- ---- scores

one_count : (problem : Setup) (acts : List Act) (one other : ℕ) → AreSure problem acts one → AreSure problem acts other → one ≡ other
one_count problem [] one other a b = a ∙ sym b
one_count problem (act ∷ acts) one other (inl a) (inl b) = a.1.2 ∙ ap suc (one_count problem acts a.1.0 b.1.0 a.1.1 b.1.1) ∙ sym b.1.2
one_count problem (act ∷ acts) one other (inl a) (inr b) = absurd (b.0 a.0)
one_count problem (act ∷ acts) one other (inr a) (inl b) = absurd (a.0 b.0)
one_count problem (act ∷ acts) one other (inr a) (inr b) = one_count problem acts one other a.1 b.1

one_mark : (problem : Setup) (scores : Scores) (one other : Mark) → IsMarkAt problem scores one → IsMarkAt problem scores other → one ≡ other
one_mark problem scores mark.Impossible mark.Impossible a b = refl
one_mark problem scores mark.Impossible (mark.Turns count) a b = absurd (a b.0)
one_mark problem scores mark.Impossible (mark.Plan sure) a b = absurd (a b.0)
one_mark problem scores (mark.Turns count) mark.Impossible a b = absurd (b a.0)
one_mark problem scores (mark.Turns one) (mark.Turns other) a b =
    ap (λ count. mark.Turns count) (one_count (at_scores problem scores) (own_turns problem) one other a.1.1 b.1.1)
one_mark problem scores (mark.Turns count) (mark.Plan sure) a b = absurd (b.1.0 a.1.0)
one_mark problem scores (mark.Plan sure) mark.Impossible a b = absurd (b a.0)
one_mark problem scores (mark.Plan sure) (mark.Turns count) a b = absurd (a.1.0 b.1.0)
one_mark problem scores (mark.Plan one) (mark.Plan other) a b = ap (λ sure. mark.Plan sure) (same_from_decides one other a.1.1 b.1.1)

one_row : (problem : Setup) (columns : List ℕ) (owner : ℕ) (one other : Row) → IsRow problem columns owner one → IsRow problem columns owner other →
    one ≡ other
one_row problem columns owner one other a b =
    let score = a.0 ∙ sym b.0 in
    let marks = one_list (λ opponent mark. IsMarkAt problem (record { owner = owner; opponent = opponent }) mark)
    (λ opponent. one_mark problem (record { owner = owner; opponent = opponent })) columns one.marks.items other.marks.items a.1 b.1 in
    λ i. record { owner = score i; marks = record { items = marks i } }

pub one_table : (problem : Setup) (one other : ScoreTable) → AreScores problem one → AreScores problem other → one ≡ other
one_table problem one other a b =
    let turn = a.turn ∙ sym b.turn in
    let columns = a.columns ∙ sym b.columns in
    let owners = scores_around problem.scores.owner in
    let other_rows = subst (λ (its : List ℕ). AllZip (IsRow problem its) owners other.rows.items) (sym columns) b.rows in
    let rows = one_list (IsRow problem one.columns.items) (one_row problem one.columns.items) owners one.rows.items other.rows.items a.rows other_rows in
    λ i. record { turn = turn i; columns = record { items = columns i }; rows = record { items = rows i } }

-- ---- holes

one_most : (AreSure : ℕ → Type 0) (problem : Setup) (one other : ℕ) → AreMost AreSure problem one → AreMost AreSure problem other → one ≡ other
one_most AreSure problem one other a b =
    elim (cases_lt one other) [
      | inl less ↦ absurd (a.most other less b.left b.sure)
      | inr least ↦ elim (cases_lt other one) [
        | inl less ↦ absurd (b.most one less a.left a.sure)
        | inr most ↦ omega (arith, least, most)
      ]
    ]

one_turn : (problem : Setup) (act : Act) (one other : TurnHoles) → AreMostWith problem act one → AreMostWith problem act other → one ≡ other
one_turn problem act one other a b =
    let same = a.0 ∙ sym b.0 in
    let holes = one_most (AreSureWith act problem) problem one.holes other.holes a.1 b.1 in
    λ i. record { act = same i; holes = holes i }

pub one_holes : (problem : Setup) (one other : Holes) → AreHoles problem one → AreHoles problem other → one ≡ other
one_holes problem one other a b =
    let pegs = a.pegs ∙ sym b.pegs in
    let holes = one_most (AreSureHoles problem) problem one.holes other.holes a.most b.most in
    let turns = one_list (AreMostWith problem) (one_turn problem) (filter (may_come problem) (own_turns problem)) one.turns.items other.turns.items
    a.turns b.turns in
    λ i. record { pegs = pegs i; holes = holes i; turns = record { items = turns i } }
