-- Proves the laws of openings, as `specs/Laws` states them.
use Rattle.std.proofs.Common.{◌≡◌, false, List, reverse, sym, ap, subst, ◌∙◌, inl, inr, arith}
use Rattle.std.specs.List.{list_any}
use Rattle.std.proofs.lemmas.Bool.{cases_Bool}
use Rattle.crib_cards.specs.Start.{pone_of}
use Rattle.crib_cards.specs.declared.sides.Dealt.{Dealt}
use Rattle.crib_cards.specs.declared.moves.Move.{Move}
use Rattle.crib_cards.specs.declared.moves.Act.{Act}
use Rattle.crib_play.specs.Score.{is_done}
use Rattle.crib_play.specs.Legal.{letters_of}
use Rattle.crib_play.specs.History.{acts_of, visible_moves}
use Rattle.crib_play.specs.Fitting.{fits_at}
use Rattle.crib_play.proofs.FilledRecords.{letters_filled, filled_law}
use Rattle.crib_problem.specs.Played.{count_by_acts, own_left_by, is_over_by, AreAllowed}
use Rattle.crib_problem.specs.Setup.{Setup, IsSetup, start_of, opening_basis_of, hands_of}
use Rattle.crib_problem.specs.Laws.{AskedHoldsLaw, LowFitsLaw, IsHonest, HonestLaw, MayBeginLaw}
use Rattle.crib_problem.proofs.StartLemmas.{started, hands_dealt}
use Rattle.crib_problem.proofs.AskedHolds.{holds_asked, low_fits}
use Rattle.crib_problem.proofs.HonestTurns.{honest, may_begin}

pub asked_holds_proved : AskedHoldsLaw
asked_holds_proved problem acts setup allowed asked = holds_asked problem setup acts allowed asked

pub low_fits_proved : LowFitsLaw
low_fits_proved problem acts setup allowed asked low =
    let count = count_by_acts (opening_basis_of problem) acts in
    let own = own_left_by (opening_basis_of problem) acts in
    elim (cases_Bool (list_any (fits_at count) own)) [
      | inl some ↦ some
      | inr none ↦ let high = low_fits count own (holds_asked problem setup acts allowed asked) none in absurd (omega (arith, low, high))
    ]

-- the deal is not done after the visible turns of such a record
still_going : (problem : Setup) (dealt : Dealt) (acts : List Act) (setup : IsSetup problem) (is : IsHonest problem dealt acts) →
    is_over_by (opening_basis_of problem) (acts_of (pone_of (start_of problem)) is.played) ≡ false
still_going problem dealt acts setup is =
    let start = start_of problem in
    let pone = pone_of start in
    ap (is_done start) (sym (letters_filled start (visible_moves pone is.played)))
    ∙ ap (λ (moves : List Move). is_done start (letters_of moves)) (filled_law start (hands_of problem dealt) is.played (started problem setup)
    (hands_dealt problem setup dealt is.deal) is.legal)
    ∙ is.going

pub honest_proved : HonestLaw
honest_proved problem dealt acts setup is =
    let A : List Act → Type 0 = λ listed. AreAllowed (opening_basis_of problem) listed in
    subst A is.shows (honest problem setup dealt is.deal is.played is.legal (still_going problem dealt acts setup is))

pub may_begin_proved : MayBeginLaw
may_begin_proved problem dealt acts setup two is =
    let S : List Act → Type 0 = λ listed. IsSetup (record problem { played = reverse listed }) in
    subst S is.shows (may_begin problem setup dealt is.deal is.played two is.legal (still_going problem dealt acts setup is))
