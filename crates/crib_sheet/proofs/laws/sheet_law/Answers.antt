use Rattle.crib_sheet.proofs.OneSheet.{one_sheet}
use Rattle.crib_sheet.proofs.laws.sheet_law.Goals as goal

pub returns : goal.returns
returns c = record { one = one_sheet }
