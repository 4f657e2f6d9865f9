-- Proves that the visible turns of a filled record are those that it was filled from.
use Rattle.crib_play.specs.Laws.{FilledVisibleLaw, FilledHeardLaw}
use Rattle.std.proofs.Common.{◌≡◌, ℕ, zero, suc, not, [], ◌∷◌, refl, ap, ◌∙◌, inl, inr}
use Rattle.std.proofs.lemmas.Bool.{cases_Bool, and_parts, not-true}
use Rattle.crib_cards.specs.declared.letters.Letter.{Letter}
use Rattle.crib_cards.specs.declared.letters.Letter.TheVariants.{Seen, Go}
use Rattle.crib_cards.specs.Start.{Start, pone_of}
use Rattle.crib_play.specs.Record.{Record, mover, is_heard}
use Rattle.crib_play.specs.Score.{is_done}
use Rattle.crib_play.specs.Filled.{visible_turns, is_silent_next, with_silent_gos, filled_record}
use Rattle.crib_play.proofs.RecordStates.{heard_after}
use Rattle.crib_play.proofs.RecordsReached.{Open, open_after, reached}

visible_turns-gos : (n : ℕ) (start : Start) (past : Record) → visible_turns (pone_of start) (with_silent_gos n start past) ≡ visible_turns (pone_of start) past
visible_turns-gos zero start past = refl
visible_turns-gos (suc n) start past =
    elim (cases_Bool (is_silent_next start past)) [
      | inl is ↦
          let quiet = not-true _ (and_parts (not (is_heard (pone_of start) (mover (pone_of start) past) past)) (not (is_done start past)) is).0 in
          rw is (visible_turns-gos n start (Go ∷ past) ∙ rw quiet refl)
      | inr is ↦ rw is refl
    ]

visible_turns-turn : (start : Start) (turn : Letter) (past : Record) → Open start past →
    visible_turns (pone_of start) (turn ∷ past) ≡ turn ∷ visible_turns (pone_of start) past
visible_turns-turn start (Seen rank) past o = refl
visible_turns-turn start Go past o = rw (heard_after start (mover (pone_of start) past) past ∙ o.held) refl

pub visible_turns-filled_record : FilledVisibleLaw
visible_turns-filled_record start [] is taken = refl
visible_turns-filled_record start (turn ∷ seen) is taken =
    visible_turns-gos 3 start (turn ∷ filled_record start seen)
    ∙ visible_turns-turn start turn (filled_record start seen) (open_after start (filled_record start seen) (reached start seen is taken.0) taken.1.not_done)
    ∙ ap (λ rest. turn ∷ rest) (visible_turns-filled_record start seen is taken.0)

-- after a filled record the deal is done, or the side to move is heard
pub heard-filled_record : FilledHeardLaw
heard-filled_record start seen is taken d =
    heard_after start (mover (pone_of start) (filled_record start seen)) (filled_record start seen)
    ∙ (open_after start (filled_record start seen) (reached start seen is taken) d).held
