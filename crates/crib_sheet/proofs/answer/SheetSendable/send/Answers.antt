use Rattle.std.proofs.Common.{refl, rules}
use Rattle.crib_run.proofs.Printing.{sent_all, sent_front}
use Rattle.crib_sheet.specs.Sheet.{sheet_reply}
use Rattle.crib_sheet.proofs.answer.SheetSendable.send.Goals as goal

pub returns-then-is_cut : goal.returns-then-is_cut
returns-then-is_cut g c =
    let sent = sent_front (sheet_reply c.args.self.now).status c.put_sheet.ensures refl c.if-is_cut.true in search (rules, c.put_sheet.ensures.same)

pub returns-else-is_cut : goal.returns-else-is_cut
returns-else-is_cut g c =
    let sent = sent_all (sheet_reply c.args.self.now).status c.put_sheet.ensures refl c.if-is_cut.false in search (rules, c.put_sheet.ensures.same)
