use Rattle.crib_check.proofs.walk.check.Goals as goal

pub returns-clause-right : goal.returns-clause-right
returns-clause-right g c = c.check_with.ensures.right

pub returns-clause-followed : goal.returns-clause-followed
returns-clause-followed g c = c.check_with.ensures.followed

pub returns-clause-goes_on : goal.returns-clause-goes_on
returns-clause-goes_on g c = c.check_with.ensures.goes_on
