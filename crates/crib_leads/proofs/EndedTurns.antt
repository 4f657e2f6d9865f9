-- A turn that ends the deal, by its refusal.
use Rattle.std.proofs.Common.{◌≡◌, ℕ, Bool, true, false, List, ◌∷◌, Option, Some, None, refl, sym, ap, subst, ◌∙◌, arith}
use Rattle.std.specs.Prelude.{if◌then◌else◌, IsFalse, IsTrue, ◌==◌}
use Rattle.std.specs.Option.{option_or}
use Rattle.std.proofs.lemmas.Option.{none-some, same_Some}
use Rattle.crib_cards.specs.declared.sides.Side.{Side}
use Rattle.crib_cards.specs.declared.sides.Side.TheVariants.{Owner, Opponent}
use Rattle.crib_cards.specs.declared.moves.Move.{Move}
use Rattle.crib_cards.specs.declared.moves.Move.TheVariants as move
use Rattle.crib_cards.specs.declared.moves.Act.{Act}
use Rattle.crib_play.specs.Record.{Record, mover}
use Rattle.crib_play.specs.declared.turns.Turn.{Turn}
use Rattle.crib_play.specs.declared.turns.Turn.TheVariants as turns
use Rattle.crib_play.specs.Filled.{filled_record}
use Rattle.crib_play.specs.Score.{is_done, side_asked}
use Rattle.crib_play.specs.Legal.{letters_of}
use Rattle.crib_play.specs.History.{Own, event_of, history_letters, moves_of}
use Rattle.crib_cards.specs.Start.{Start, pone_of}
use Rattle.crib_problem.specs.Played.{move_refusal, turn_refusal}
use Rattle.crib_problem.specs.Refusals.{already_over, does_not_fit, must_play, no_deal, not_held, not_turn, same_card}
use Rattle.crib_problem.specs.Setup.{Setup, opening_basis_of, played_back, start_of}
use Rattle.crib_problem.proofs.AskedHolds.{MayFollow, may_turn}
use Rattle.crib_know.specs.Knowledge.{Knowledge, asked_now, played_events}
use Rattle.crib_know.specs.Hidden.{CanDoAt, IsPossible, KnowsAfter}
use Rattle.crib_know.proofs.CallLemmas.{own_may}
use Rattle.crib_know.proofs.OpeningLawProofs.{letters_same}
use Rattle.crib_know.proofs.RecordTurns.{possible_led}
use Rattle.crib_play.specs.History.{Event}
use Rattle.crib_players.specs.Laws.{longer}
use Rattle.crib_leads.specs.declared.verdict.LeadVerdict.{LeadVerdict}
use Rattle.crib_leads.specs.Leads.{HasEnded, IsVerdict, IsVerdictBy, IsVerdictOn, is_next, may_come, refusal_of}

-- ---- no turn is refused by this number before the deal is done
other : (is : Bool) (number : ℕ) (rest : Option ℕ) → (number ≡ already_over → ⊥) → (rest ≡ Some already_over → ⊥) →
    (if is then Some number else rest) ≡ Some already_over → ⊥
other true number rest apart none e = apart (same_Some number already_over e)
other false number rest apart none e = none e

nothing : ◌≡◌ {A = Option ℕ} None (Some already_over) → ⊥
nothing e = none-some already_over e

no_move : (count : ℕ) (own : List ℕ) (least : ℕ) (side : Side) (what : Move) → move_refusal count own least side what ≡ Some already_over → ⊥
no_move count own least Owner (move.Card card) =
    other _ not_held _ (λ e. omega (arith, e)) (other _ does_not_fit None (λ e. omega (arith, e)) nothing)
no_move count own least Owner move.Go = other _ must_play None (λ e. omega (arith, e)) nothing
no_move count own least Opponent (move.Card card) =
    other _ does_not_fit _ (λ e. omega (arith, e)) (other _ no_deal None (λ e. omega (arith, e)) nothing)
no_move count own least Opponent move.Go = other _ no_deal None (λ e. omega (arith, e)) nothing

no_turn : (seen : List ℕ) (asked : Turn) (count : ℕ) (own : List ℕ) (least : ℕ) (act : Act) →
    turn_refusal seen asked count own least act ≡ Some already_over → ⊥
no_turn seen asked count own least act =
    other _ same_card _ (λ e. omega (arith, e)) (other _ not_turn _ (λ e. omega (arith, e)) (no_move count own least act.side act.what))

over_if : (turn : Option ℕ) (over : Bool) → (turn ≡ Some already_over → ⊥) → option_or turn (if over then Some already_over else None) ≡ Some already_over →
    over ≡ true
over_if (Some number) over none e = absurd (none e)
over_if None true none e = refl
over_if None false none e = absurd (nothing e)

-- the deal is done after the turn
pub over_now : (problem : Setup) (act : Act) → refusal_of problem act ≡ Some already_over →
    asked_now problem (event_of act ∷ played_events problem) ≡ turns.Over
over_now problem act refused =
    let start : Start = start_of problem in
    let acts : List Act = act ∷ played_back problem in
    let over : is_done start (filled_record start (letters_of (moves_of acts))) ≡ true = over_if _ _ (no_turn _ _ _ _ _ act) refused in
    let past : Record = filled_record start (history_letters (event_of act ∷ played_events problem)) in
    let same = ap (λ (letters : Record). is_done start (filled_record start letters)) (letters_same acts) in
    ap (λ (done : Bool). if done then turns.Over else side_asked (mover (pone_of start) past)) (same ∙ over)

-- no rule of the play but the end of the deal refuses the turn
turn_none : (turn rest : Option ℕ) → (turn ≡ Some already_over → ⊥) → option_or turn rest ≡ Some already_over → turn ≡ None
turn_none (Some number) rest none e = absurd (none e)
turn_none None rest none e = refl

pub may_end : (problem : Setup) (act : Act) → refusal_of problem act ≡ Some already_over → MayFollow (opening_basis_of problem) (played_back problem) act
may_end problem act refused = may_turn _ _ _ _ _ act (turn_none _ _ (no_turn _ _ _ _ _ act) refused)

-- a move of the owner with which some deal agrees can be made
pub own_can : (know : Knowledge) (problem : Setup) (history : List Event) (what : Move) → KnowsAfter know problem history →
    IsPossible problem (Own what ∷ history) → CanDoAt know what
own_can know problem history what knows possible =
    own_may know problem history knows what (possible_led problem knows.setup (Own what ∷ history) possible).1

-- ---- a verdict by the refusal of the turn
pub going : (problem next : Setup) (act : Act) (verdict : LeadVerdict) → refusal_of problem act ≡ None → next ≡ longer problem act → IsVerdictOn next verdict →
    IsTrue (may_come problem act) × IsVerdict problem act verdict
going problem next act verdict none same is = (
  ap is_next none,
  subst (λ (refusal : Option ℕ). IsVerdictBy refusal problem act verdict) (sym none) (subst (λ (setup : Setup). IsVerdictOn setup verdict) same is),
)

pub ending : (problem : Setup) (act : Act) (verdict : LeadVerdict) → refusal_of problem act ≡ Some already_over → HasEnded problem act verdict →
    IsTrue (may_come problem act) × IsVerdict problem act verdict
ending problem act verdict over is =
    (ap is_next over, subst (λ (refusal : Option ℕ). IsVerdictBy refusal problem act verdict) (sym over) is)

pub refused : (problem : Setup) (act : Act) (number : ℕ) → refusal_of problem act ≡ Some number → (number == already_over) ≡ false →
    IsFalse (may_come problem act)
refused problem act number is apart = ap is_next is ∙ apart
