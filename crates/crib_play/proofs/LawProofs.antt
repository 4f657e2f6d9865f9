-- The laws, as `specs/Laws` states them.
use Rattle.std.proofs.Common.{sym, ap, subst, ◌∙◌}
use Rattle.crib_cards.specs.Start.{pone_of}
use Rattle.crib_play.specs.Record.{Record}
use Rattle.crib_play.specs.Standing.{AreTaken}
use Rattle.crib_play.specs.Legal.{letters_of}
use Rattle.crib_play.specs.History.{filled_moves}
use Rattle.crib_play.specs.Laws.{VisibleLaw, SameEndLaw}
use Rattle.crib_play.proofs.FilledRecords.{fills, filled_whole, letters_visible, not_silent_done}
use Rattle.crib_play.proofs.LegalRecords.{visible_legal}

pub visible_law : VisibleLaw
visible_law start hands played is =
    let T : Record → Type 0 = λ letters. AreTaken start letters in (
      visible_legal start hands played is.started is.dealt is.legal,
      subst T (letters_visible (pone_of start) played) (fills start hands played is.started is.dealt is.legal).taken,
    )

pub same_end_law : SameEndLaw
same_end_law start hands others played other is are done done_too same =
    sym (filled_whole start hands played is.started is.dealt is.legal (not_silent_done start (letters_of played) done))
    ∙ ap (filled_moves start) same
    ∙ filled_whole start others other are.started are.dealt are.legal (not_silent_done start (letters_of other) done_too)
