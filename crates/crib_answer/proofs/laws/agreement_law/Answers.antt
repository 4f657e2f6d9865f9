use Rattle.crib_answer.proofs.Agreement.{failed_game_law, found_plan_law, followed_game_law, same_refusal_law, same_report_law}
use Rattle.crib_answer.proofs.laws.agreement_law.Goals as goal

pub returns : goal.returns
returns c = record {
  failed_game = failed_game_law;
  found_plan = found_plan_law;
  followed_game = followed_game_law;
  same_refusal = same_refusal_law;
  same_report = same_report_law;
}
