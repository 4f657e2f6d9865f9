use Rattle.crib_game_sheet.proofs.game.text.put_over.Goals as goal

pub returns-in-Reached : goal.returns-in-Reached
returns-in-Reached g c = rw c.in-Reached.is c.put_reached.ensures

pub returns-in-Lost : goal.returns-in-Lost
returns-in-Lost g c = rw c.in-Lost.is c.put_wins.ensures

pub returns-in-Short : goal.returns-in-Short
returns-in-Short g c = rw (c.in-Short.is, ← c.short_words.ensures.value) c.put.ensures
