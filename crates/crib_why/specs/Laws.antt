-- The law of answers.
use Rattle.crib_problem.specs.Setup.{Setup, IsSetup}
use Rattle.crib_why.specs.Answer.{IsRightWhy}
use Rattle.crib_why.specs.declared.why.Why.{Why}
use Rattle.crib_why.specs.declared.why.Why.TheVariants as why

-- two answers are of one kind
abbrev pub AreOfOneKind : {A B : Type 0} → Why A → Why B → Type 0
AreOfOneKind why.Sure why.Sure = Unit {0}
AreOfOneKind (why.Refuted games) (why.Refuted others) = Unit {0}
AreOfOneKind (why.BySuits found) (why.BySuits others) = Unit {0}
AreOfOneKind one other = ⊥

-- a problem has right answers of one kind only
abbrev pub KindLaw : Type 0 → Type 0 → Type 0
KindLaw A B =
    (problem : Setup) (one : Why A) (other : Why B) → IsSetup problem → IsRightWhy problem one →
    IsRightWhy problem other → AreOfOneKind one other
