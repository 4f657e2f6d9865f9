use Rattle.crib_sheet.proofs.SheetMeanings.{job_means}
use Rattle.cribsheet.proofs.run_with_words.Goals as goal

pub run_with_words-requires : goal.run_with_words-requires
run_with_words-requires g c = job_means _
