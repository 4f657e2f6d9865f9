-- The refusal of a turn, by its refusal as the next turn of an opening.
use Rattle.std.proofs.Common.{◌≡◌, ℕ, Bool, true, false, cond, eqb, ltb, not, List, ◌∷◌, map, Option, Some, None, refl, sym, ap, ◌∙◌}
use Rattle.std.proofs.lemmas.Bool.{both_ways}
use Rattle.std.proofs.lemmas.Option.{none-some}
use Rattle.std.specs.Prelude.{if◌then◌else◌}
use Rattle.std.specs.List.{list_any}
use Rattle.std.specs.Option.{option_or}
use Rattle.crib_cards.specs.Cards.{card_value}
use Rattle.crib_cards.specs.Sets.{has}
use Rattle.crib_cards.specs.Start.{Start, pone_of}
use Rattle.crib_cards.specs.declared.sides.Dealt.{Dealt}
use Rattle.crib_cards.specs.declared.sides.Side.{Side}
use Rattle.crib_cards.specs.declared.sides.Side.TheVariants.{Owner, Opponent}
use Rattle.crib_cards.specs.declared.moves.Move.{Move}
use Rattle.crib_cards.specs.declared.moves.Move.TheVariants as move
use Rattle.crib_cards.specs.declared.moves.Act.{Act}
use Rattle.crib_play.specs.Record.{Record, mover}
use Rattle.crib_play.specs.Score.{asks, is_done, side_asked, asked_after}
use Rattle.crib_play.specs.Filled.{filled_record}
use Rattle.crib_play.specs.Fitting.{fits_at}
use Rattle.crib_play.specs.Legal.{letters_of}
use Rattle.crib_play.specs.History.{event_of, moves_of, visible_moves}
use Rattle.crib_play.specs.declared.turns.Turn.TheVariants as turns
use Rattle.crib_play.proofs.FilledRecords.{filled_law, letters_filled}
use Rattle.crib_problem.specs.Played.{OpeningBasis, act_refusal, asked_by, count_by_acts, is_over_by, least_by, move_refusal, own_left_by, seen_by, shows_seen}
use Rattle.crib_problem.specs.Played as opening
use Rattle.crib_problem.specs.Refusals.{already_over, does_not_fit, must_play, no_deal, not_held, not_turn, problem_cause_number, same_card}
use Rattle.crib_problem.specs.declared.fault.ProblemCause.{ProblemCause}
use Rattle.crib_problem.specs.declared.fault.ProblemCause.TheVariants as problems
use Rattle.crib_text.specs.declared.fault.TextCause.TheVariants as texts
use Rattle.crib_problem.specs.Setup.{Setup, IsSetup, hands_of, opening_basis_of, played_back, start_of}
use Rattle.crib_problem.proofs.Setups.{without_opening}
use Rattle.crib_problem.proofs.StartLemmas.{hands_dealt, started}
use Rattle.crib_know.specs.Knowledge.{asked_now}
use Rattle.crib_know.proofs.HonestOpenings.{allowed_proved}
use Rattle.crib_know.proofs.OpeningLawProofs.{letters_same}
use Rattle.crib_plan.specs.declared.plan.Node.{Node}
use Rattle.crib_game.specs.Followed.{strays_at}
use Rattle.crib_next.specs.Next.{acts_with, place_with, strays, turn_refusal, unless_ending, turn_fault}

-- the deal is not done after an opening
pub going : (problem : Setup) → IsSetup problem → is_over_by (opening_basis_of problem) (played_back problem) ≡ false
going problem setup =
    let some = (allowed_proved problem (without_opening problem setup) setup.of_version).0 setup in
    let dealt : Dealt = some.0 in
    let is = some.1 in
    let start : Start = start_of problem in
    let pone : Side = pone_of start in
    ap (is_over_by (opening_basis_of problem)) (sym is.shows) ∙ ap (is_done start) (sym (letters_filled start (visible_moves pone is.played)))
    ∙ ap (λ (moves : List Move). is_done start (letters_of moves))
    (filled_law start (hands_of problem dealt) is.played (started problem setup) (hands_dealt problem setup dealt is.deal) is.legal)
    ∙ is.going

-- nobody is asked once the deal is done
pub over_asked : (problem : Setup) (acts : List Act) → is_over_by (opening_basis_of problem) acts ≡ true → asked_now problem (map event_of acts) ≡ turns.Over
over_asked problem acts over =
    let start : Start = start_of problem in
    let past : Record = filled_record start (letters_of (moves_of acts)) in
    ap (λ (letters : Record). asked_after start (filled_record start letters)) (letters_same acts)
    ∙ ap (λ (done : Bool). if done then turns.Over else side_asked (mover (pone_of start) past)) over

-- ---- a turn that is refused as one that ends the deal is allowed but for that

-- whether a refusal is that of a turn that ends the deal
abbrev is_end : Option ℕ → Bool
is_end None = false
is_end (Some number) = eqb number already_over

no_end_if : (is : Bool) (number : ℕ) (rest : Option ℕ) → eqb number already_over ≡ false → is_end rest ≡ false → is_end (cond is (Some number) rest) ≡ false
no_end_if true number rest other none = other
no_end_if false number rest other none = none

no_end_of_move : (count : ℕ) (own : List ℕ) (least : ℕ) (side : Side) (what : Move) → is_end (move_refusal count own least side what) ≡ false
no_end_of_move count own least Owner (move.Card card) =
    no_end_if (not (has own card)) not_held (cond (not (fits_at count card)) (Some does_not_fit) None) refl
    (no_end_if (not (fits_at count card)) does_not_fit None refl refl)
no_end_of_move count own least Owner move.Go = no_end_if (list_any (fits_at count) own) must_play None refl refl
no_end_of_move count own least Opponent (move.Card card) =
    no_end_if (not (fits_at count card)) does_not_fit (cond (ltb (card_value card) least) (Some no_deal) None) refl
    (no_end_if (ltb (card_value card) least) no_deal None refl refl)
no_end_of_move count own least Opponent move.Go = no_end_if (ltb count 22) no_deal None refl refl

by_rules_or_end : (rule : Option ℕ) (over : Bool) → is_end rule ≡ false → option_or rule (cond over (Some already_over) None) ≡ Some already_over →
    over ≡ true
by_rules_or_end (Some number) over none e = absurd (both_ways (is_end (Some number)) none (ap is_end e))
by_rules_or_end None true none e = refl
by_rules_or_end None false none e = absurd (none-some already_over e)

pub ends : (basis : OpeningBasis) (before : List Act) (act : Act) → act_refusal basis before act ≡ Some already_over → is_over_by basis (act ∷ before) ≡ true
ends basis before act e =
    let count = count_by_acts basis before in
    let own = own_left_by basis before in
    let least = least_by basis before in
    let move : Option ℕ = move_refusal count own least act.side act.what in
    let asked : Bool = not (asks (asked_by basis before) act.side) in
    by_rules_or_end (opening.turn_refusal (seen_by basis before) (asked_by basis before) count own least act) (is_over_by basis (act ∷ before))
    (no_end_if (shows_seen (seen_by basis before) act.side act.what) same_card (cond asked (Some not_turn) move) refl
    (no_end_if asked not_turn move refl (no_end_of_move count own least act.side act.what))) e

-- ---- the refusal of a turn where the deal is not done before it
abbrev by_parts : Bool → Option ℕ → Bool → Option ℕ
by_parts over rule stray = cond over (Some 45) (option_or (unless_ending rule) (cond stray (Some strays) None))

refused_rule : (over : Bool) (rule : Option ℕ) (stray : Bool) (number : ℕ) → over ≡ false → rule ≡ Some number → eqb number already_over ≡ false →
    by_parts over rule stray ≡ Some number
refused_rule over rule stray number going is other = rw (going, is, other) refl

refused_not : (over : Bool) (rule : Option ℕ) (stray : Bool) → over ≡ false → unless_ending rule ≡ None → stray ≡ false → by_parts over rule stray ≡ None
refused_not over rule stray going fine is = rw (going, fine, is) refl

pub ending_passes : (rule : Option ℕ) → rule ≡ Some already_over → unless_ending rule ≡ None
ending_passes rule e = ap unless_ending e

-- whether the deal is done after the opening and some turns
abbrev pub is_done_after : Setup → List Act → Bool
is_done_after problem before = is_over_by (opening_basis_of problem) (acts_with problem before)

module _ (problem : Setup) (plan : List Node) (before : List Act) (act : Act) (not_over : is_done_after problem before ≡ false) where
  abbrev pub rule : Option ℕ
  rule = act_refusal (opening_basis_of problem) (acts_with problem before) act

  abbrev pub is_stray : Bool
  is_stray = strays_at plan (place_with problem plan before) act.side act.what

  pub by_rule : (number : ℕ) → rule ≡ Some number → eqb number already_over ≡ false → turn_refusal problem plan before act ≡ Some number
  by_rule number is other = refused_rule _ rule is_stray number not_over is other

  pub by_none : unless_ending rule ≡ None → is_stray ≡ false → turn_refusal problem plan before act ≡ None
  by_none fine is = refused_not _ rule is_stray not_over fine is

-- the cause of an opening's refusal is no fault of a game
pub of_no_game : (turn : ℕ) (cause : ProblemCause) → None ≡ turn_fault turn (problem_cause_number cause)
of_no_game turn (problems.Text texts.BadByte) = refl
of_no_game turn (problems.Text texts.TooLong) = refl
of_no_game turn (problems.Text texts.CutShort) = refl
of_no_game turn (problems.Text texts.BadLine) = refl
of_no_game turn (problems.Text texts.BadCard) = refl
of_no_game turn (problems.Text texts.BadNumber) = refl
of_no_game turn (problems.Text texts.BadVersion) = refl
of_no_game turn (problems.Text texts.Trailing) = refl
of_no_game turn (problems.Text texts.ReadFault) = refl
of_no_game turn (problems.Text texts.NoMemory) = refl
of_no_game turn problems.SameCard = refl
of_no_game turn problems.BadScore = refl
of_no_game turn problems.BadGoal = refl
of_no_game turn problems.NoDeal = refl
of_no_game turn problems.AlreadyOver = refl
of_no_game turn problems.NotHeld = refl
of_no_game turn problems.DoesNotFit = refl
of_no_game turn problems.MustPlay = refl
of_no_game turn problems.NotTurn = refl
