-- The opening of a problem is allowed exactly if some deal and legal play have it.
use Rattle.std.proofs.Common.{rules}
use Rattle.std.proofs.Common.{◌≡◌, ℕ, ◌+◌, ◌<◌, ◌||◌, min, false, leb, List, [], ◌∷◌, ◌++◌, map, length}
use Rattle.std.proofs.Common.{refl, sym, ap, subst, ◌∙◌, arith}
use Rattle.std.proofs.lemmas.Bool.{lt-leb}
use Rattle.std.proofs.Math.Nat.{min-le_right}
use Rattle.std.proofs.lemmas.List.{length-map, length-append, length-reverse, reverse-reverse}
use Rattle.crib_cards.specs.Sides.{game_hole}
use Rattle.crib_cards.specs.Start.{Start, pone_of}
use Rattle.crib_cards.specs.declared.sides.Dealt.{Dealt}
use Rattle.crib_cards.specs.declared.moves.Move.{Move}
use Rattle.crib_cards.specs.declared.moves.Act.{Act}
use Rattle.crib_play.specs.Score.{is_done}
use Rattle.crib_play.specs.Legal.{letters_of}
use Rattle.crib_play.specs.History.{event_of, acts_of, visible_moves}
use Rattle.crib_play.specs.Standing.{IsStart}
use Rattle.crib_play.proofs.FilledRecords.{acts_fewer, letters_filled, filled_law}
use Rattle.crib_play.proofs.RecordBounds.{at_most_29}
use Rattle.crib_problem.specs.Played.{is_over_by, AreAllowed}
use Rattle.crib_problem.specs.Setup.{Setup, IsSetup, CanSay, start_of, played_back, opening_basis_of, hands_of}
use Rattle.crib_problem.specs.Laws.{IsHonest}
use Rattle.crib_problem.proofs.StartLemmas.{started, hands_dealt}
use Rattle.crib_problem.proofs.AskedHolds.{none_of_one, none_of_either}
use Rattle.crib_problem.proofs.HonestTurns.{moves_back, moves_are}
use Rattle.crib_problem.proofs.OpeningLawProofs.{honest_proved}
use Rattle.crib_problem.proofs.Setups.{AllMoves, with_opening}
use Rattle.crib_know.specs.Knowledge.{played_events}
use Rattle.crib_know.specs.Laws.{AllowedLaw}
use Rattle.crib_know.proofs.OpeningLawProofs.{played_dealt, played_agrees}
use Rattle.crib_know.proofs.OpeningSuits.{suit_law}

-- ---- allowed acts don't end the deal
undecided : (score target : ℕ) → score < target → leb target (min game_hole (score + 0)) ≡ false
undecided score target low = let cut = min-le_right game_hole (score + 0) in lt-leb target (min game_hole (score + 0)) (omega (arith, cut, low))

start_not_done : (start : Start) → IsStart start → is_done start [] ≡ false
start_not_done start is =
    (λ i. (undecided start.scores.owner start.target is.below_target i || undecided start.scores.opponent game_hole is.opponent_in_game i) || false)

not_over : (problem : Setup) → IsSetup problem → (acts : List Act) → AreAllowed (opening_basis_of problem) acts →
    is_over_by (opening_basis_of problem) acts ≡ false
not_over problem setup [] allowed = start_not_done (start_of problem) (started problem setup)
not_over problem setup (act ∷ before) allowed = search (rules, none_of_one, none_of_either)

-- ---- an allowed opening has a deal and a legal record
no_more : (later here acts : List Act) → acts ≡ later ++ here → map event_of acts ≡ map event_of here → acts ≡ here
no_more [] here acts parts same = parts
no_more (act ∷ later) here acts parts same =
    let long = ap length parts in
    absurd (omega (arith, long, length-append (act ∷ later) here, sym (length-map acts event_of) ∙ ap length same ∙ length-map here event_of))

allowed_is_honest : (problem : Setup) → IsSetup problem → (dealt : Dealt) × IsHonest problem dealt (played_back problem)
allowed_is_honest problem setup =
    let start = start_of problem in
    let pone = pone_of start in
    let basis = opening_basis_of problem in
    let dealt = played_dealt problem setup in
    let agrees = played_agrees problem setup in
    let on = suit_law problem (played_events problem) dealt setup (record { later = []; parts = refl }) agrees in
    let shows = no_more on.begins.later (played_back problem) (acts_of pone on.played) on.begins.parts on.shows in
    let whole = filled_law start (hands_of problem dealt) on.played (started problem setup) (hands_dealt problem setup dealt agrees.0.deal) on.legal in (
      dealt,
      record {
        played = on.played;
        deal = agrees.0.deal;
        legal = on.legal;
        going = ap (λ (moves : List Move). is_done start (letters_of moves)) (sym whole)
            ∙ ap (is_done start) (letters_filled start (visible_moves pone on.played)) ∙ ap (is_over_by basis) shows
            ∙ not_over problem setup (played_back problem) setup.allowed;
        shows = shows;
      },
    )

-- ---- an opening that has them is allowed
honest_is_allowed : (problem : Setup) → IsSetup (record problem { played = [] }) → CanSay problem.version problem.goal problem.played → (dealt : Dealt) →
    IsHonest problem dealt (played_back problem) → IsSetup problem
honest_is_allowed problem bare can dealt is =
    let unplayed : Setup = record problem { played = [] } in
    let acts = played_back problem in
    let pone = pone_of (start_of problem) in
    let there : IsHonest unplayed dealt acts = record { played = is.played; deal = is.deal; legal = is.legal; going = is.going; shows = is.shows } in
    let moves = subst AllMoves is.shows (moves_are unplayed bare dealt is.deal is.played is.legal) in
    let long = at_most_29 (start_of problem) (hands_of problem dealt) is.played (hands_dealt unplayed bare dealt is.deal) is.legal in
    with_opening unplayed problem.played bare can (omega (arith, long, acts_fewer pone is.played, ap length is.shows, length-reverse problem.played))
    (subst AllMoves (reverse-reverse problem.played) (moves_back acts moves)) (honest_proved unplayed dealt acts bare there)

pub allowed_proved : AllowedLaw
allowed_proved problem bare can = (allowed_is_honest problem, λ some. honest_is_allowed problem bare can some.0 some.1)
