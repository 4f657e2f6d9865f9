-- What worked examples of several crates share: a problem that begins after three turns, at a count of 29, and a plan for it.
use Rattle.std.specs.Prelude.{List, [], ◌∷◌, ◌++◌, replicate}
use Rattle.crib_cards.specs.declared.sides.Side.TheVariants.{Owner, Opponent}
use Rattle.crib_problem.specs.Setup.{Setup}
use Rattle.crib_problem.specs.declared.problem.Goal.TheVariants.{Holes}
use Rattle.crib_plan.specs.declared.plan.Next.TheVariants.{End, To}
use Rattle.crib_plan.specs.declared.plan.Node.{Node}
use Rattle.crib_plan.specs.declared.plan.Node.TheVariants.{Play, See}
use Rattle.crib_problem.proofs.ExampleProblems.{after_tens, plays}

-- the owner holds TC 9C 2C AC and threw 2D 2H; the starter is 2S and the goal is two holes
abbrev pub at_29 : Setup
at_29 = record after_tens {
  starter = 7;
  hold = 36 ∷ 32 ∷ 4 ∷ 0 ∷ [];
  thrown = 5 ∷ 6 ∷ [];
  goal = Holes 2;
  played = plays Owner 36 ∷ plays Opponent 37 ∷ plays Owner 32 ∷ [];
}

-- AC after an ace, 2C after a go
abbrev pub ace_or_two : List Node
ace_or_two = See (To 1 ∷ replicate 12 End ++ To 2 ∷ []) ∷ Play 0 End ∷ Play 4 End ∷ []
