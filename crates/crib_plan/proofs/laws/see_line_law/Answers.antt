use Rattle.crib_plan.proofs.SeeProofs.{colon_law, set_law, end_law, number_law, range_law, node_law, pass_law}
use Rattle.crib_plan.proofs.laws.see_line_law.Goals as goal

pub returns : goal.returns
returns c = record { colon = colon_law; set = set_law; end = end_law; number = number_law; range = range_law; node = node_law; pass = pass_law }
