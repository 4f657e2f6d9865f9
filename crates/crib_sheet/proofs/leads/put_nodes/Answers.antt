use Rattle.crib_run.proofs.Printing.{as_text, more}
use Rattle.crib_sheet.proofs.LeadsLines.{nodes_several}
use Rattle.crib_sheet.proofs.leads.put_nodes.Goals as goal

pub returns-then-nodes-eq0 : goal.returns-then-nodes-eq0
returns-then-nodes-eq0 g c = rw c.if-nodes-eq0.true c.put.ensures

pub returns-then-nodes-eq1 : goal.returns-then-nodes-eq1
returns-then-nodes-eq1 g c = rw c.if-nodes-eq1.true c.put-then-nodes-eq1.ensures

pub returns-else-nodes-eq1 : goal.returns-else-nodes-eq1
returns-else-nodes-eq1 g c =
    as_text (more (more c.put-else-nodes-eq1.ensures c.put_len.ensures) c.put-else-nodes-eq1-2.ensures)
    (nodes_several c.args.nodes c.if-nodes-eq0.false c.if-nodes-eq1.false)
