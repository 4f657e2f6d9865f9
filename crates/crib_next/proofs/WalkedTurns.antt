-- The problem with the turns so far in its opening, and the place of the plan, after one more turn.
use Rattle.std.proofs.Common.{◌≡◌, ℕ, ◌+◌, ◌-◌, ◌<◌, ◌≤◌, true, false, List, [], ◌∷◌, ◌++◌, drop, get_or, length, map, take}
use Rattle.std.proofs.Common.{Some, None, Ok, Err, refl, sym, ap, ◌∙◌, arith}
use Rattle.std.proofs.lemmas.List.{map-append, reverse-append, take_all}
use Rattle.crib_cards.specs.declared.moves.Act.{Act}
use Rattle.crib_play.specs.History.{event_of}
use Rattle.crib_play.specs.declared.turns.Turn.{Turn}
use Rattle.crib_problem.specs.declared.problem.Version.TheVariants.{Two}
use Rattle.crib_problem.specs.Played.{act_refusal, is_over_by}
use Rattle.crib_problem.specs.Setup.{Setup, IsSetup, at_lead, opening_basis_of, played_back}
use Rattle.crib_plan.specs.declared.plan.Next.{Next}
use Rattle.crib_plan.specs.declared.plan.Node.{Node}
use Rattle.crib_know.specs.Knowledge.{count_after, own_left, played_events}
use Rattle.crib_know.specs.Hidden.{BeginsAfter}
use Rattle.crib_plan.specs.Places.{stated_card}
use Rattle.crib_game.specs.Followed.{strays_at}
use Rattle.crib_sure.specs.HistoryPlaces.{place_after_event}
use Rattle.crib_sure.proofs.PlaceByHistory.{place_later}
use Rattle.crib_next.specs.Next.{acts_with, history_with, next_after, next_by, next_for, next_from, place_with, after_end, turn_refusal}
use Rattle.crib_next.specs.Private.Walking.{IsAfter}
use Rattle.crib_next.specs.declared.next.NextTurn.TheVariants.{Over}
use Rattle.crib_next.proofs.TurnRefusals.{going, over_asked}

pub begins : (problem : Setup) (before : List Act) → BeginsAfter problem (history_with problem before)
begins problem before = record { later = map event_of before; parts = map-append event_of before (played_back problem) }

-- one more turn moves the place
pub place_more : (problem : Setup) (plan : List Node) (before : List Act) (act : Act) →
    place_with problem plan (act ∷ before) ≡ place_after_event plan (place_with problem plan before) (event_of act)
place_more problem plan before act = place_later plan problem (event_of act) (history_with problem before) (begins problem before)

pub after_none : (problem : Setup) (plan : List Node) (place : Next) → IsSetup problem → place ≡ place_with problem plan [] →
    IsAfter problem plan [] problem place
after_none problem plan place setup is = record { setup = setup; same = refl; acts = refl; stands = is }

module _ (problem : Setup) (plan : List Node) (before : List Act) (at : Setup) (place : Next) (is : IsAfter problem plan before at place) where
  pub refusal_same : (act : Act) →
      act_refusal (opening_basis_of at) (played_back at) act ≡ act_refusal (opening_basis_of problem) (acts_with problem before) act
  refusal_same act = λ i. act_refusal (opening_basis_of (is.same i)) (is.acts i) act

  pub not_over : is_over_by (opening_basis_of problem) (acts_with problem before) ≡ false
  not_over = (λ i. is_over_by (opening_basis_of (sym is.same i)) (sym is.acts i)) ∙ going at is.setup

  -- what comes next after the opening of the one is what comes next after the turns of the other
  pub next_same : next_by at (played_events at) (stated_card plan place) ≡ next_after problem plan before
  next_same = λ i. next_by (is.same i) (map event_of (is.acts i)) (stated_card plan (is.stands i))

  pub stray_same : (act : Act) → strays_at plan place act.side act.what ≡ strays_at plan (place_with problem plan before) act.side act.what
  stray_same act = λ i. strays_at plan (is.stands i) act.side act.what

  pub after_more : (act : Act) (later : Setup) → IsSetup later → later ≡ record at { version = Two; played = at.played ++ act ∷ [] } →
      IsAfter problem plan (act ∷ before) later (place_after_event plan place (event_of act))
  after_more act later setup made = record {
    setup = setup;
    same = ap at_lead made ∙ is.same;
    acts = ap played_back made ∙ reverse-append at.played (act ∷ []) ∙ ap (λ (acts : List Act). act ∷ acts) is.acts;
    stands = ap (λ (p : Next). place_after_event plan p (event_of act)) is.stands ∙ sym (place_more problem plan before act);
  }

-- ---- turns one after another
module _ (problem : Setup) (plan : List Node) (before : List Act) (line : ℕ) where
  pub from_fine : (act : Act) (acts : List Act) → turn_refusal problem plan before act ≡ None →
      next_from problem plan line before (act ∷ acts) ≡ next_from problem plan (line + 1) (act ∷ before) acts
  from_fine act acts fine = rw fine refl

  pub from_refused : (act : Act) (acts : List Act) (number : ℕ) → turn_refusal problem plan before act ≡ Some number →
      next_from problem plan line before (act ∷ acts) ≡ Err (record { line = line; number = number })
  from_refused act acts number refused = rw refused refl

  module _ (over : is_over_by (opening_basis_of problem) (acts_with problem before) ≡ true) where
    pub from_end : next_from problem plan line before [] ≡ Ok Over
    from_end =
        let history = history_with problem before in
        ap (λ (asked : Turn). Ok (next_for asked (count_after problem history) (own_left problem history) (stated_card plan (place_with problem plan before))))
        (over_asked problem (acts_with problem before) over)

    from_late : (act : Act) (acts : List Act) → next_from problem plan line before (act ∷ acts) ≡ Err (record { line = line; number = after_end })
    from_late act acts = from_refused act acts after_end (rw over refl)

    pub none_after : (turns : List Act) → length turns < 1 → next_from problem plan line before turns ≡ Ok Over
    none_after [] few = from_end
    none_after (act ∷ turns) few = absurd (omega (arith, few))

    pub some_after : (turns : List Act) → 1 ≤ length turns → next_from problem plan line before turns ≡ Err (record { line = line; number = after_end })
    some_after [] some = absurd (omega (arith, some))
    some_after (act ∷ turns) some = from_late act turns

first_turn : (turns : List Act) (first : Act) → 1 ≤ length turns → first ≡ get_or turns 0 first → turns ≡ first ∷ take (length turns - 1) (drop 1 turns)
first_turn [] first some at = absurd (omega (arith, some))
first_turn (turn ∷ turns) first some at = λ i. sym at i ∷ sym (take_all (length (turn ∷ turns) - 1) turns (omega arith)) i

-- the first turn is not refused, and the others follow
pub from_first : (problem : Setup) (plan : List Node) (before turns : List Act) (first : Act) (line later : ℕ) → 1 ≤ length turns →
    first ≡ get_or turns 0 first → turn_refusal problem plan before first ≡ None → later ≡ line + 1 →
    next_from problem plan later (first ∷ before) (take (length turns - 1) (drop 1 turns)) ≡ next_from problem plan line before turns
from_first problem plan before turns first line later some at fine next =
    let rest = take (length turns - 1) (drop 1 turns) in
    ap (λ (n : ℕ). next_from problem plan n (first ∷ before) rest) next ∙ sym (from_fine problem plan before line first rest fine)
    ∙ ap (next_from problem plan line before) (sym (first_turn turns first some at))
