use Rattle.crib_answer.proofs.Replies.{one_reply_law}
use Rattle.crib_answer.proofs.RightReplies.{too_long_law}
use Rattle.crib_answer.proofs.CutShortInputs.{cut_short_law}
use Rattle.crib_answer.proofs.laws.reply_law.Goals as goal

pub returns : goal.returns
returns c = record { one = one_reply_law; too_long = too_long_law; cut_short = cut_short_law }
