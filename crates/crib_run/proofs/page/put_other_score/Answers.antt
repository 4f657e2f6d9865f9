use Rattle.crib_run.specs.Pieces.{other_score}
use Rattle.crib_run.proofs.Printing.{more}
use Rattle.crib_run.proofs.page.put_other_score.Goals as goal

pub returns : goal.returns
unfolding other_score
returns g c = more (more (more c.put.ensures c.put_role.ensures) c.put-2.ensures) c.put_small.ensures
