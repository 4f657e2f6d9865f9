use Rattle.crib_sheet.proofs.refutation.put_in_words.Goals as goal

pub returns-in-Sure : goal.returns-in-Sure
returns-in-Sure g c = rw c.in-Sure.is c.put.ensures
