-- The laws, as `specs/Laws` states them.
use Rattle.std.proofs.Common.{◌≡◌, ℕ, ◌+◌, true, false, ◌||◌, eqb, List, [], ◌∷◌, ◌++◌, length, reverse, Option, Some, None, ◌⊎◌, refl, sym, ap, ◌∙◌, inl}
use Rattle.std.proofs.Common.{inr, arith}
use Rattle.std.proofs.lemmas.Bool.{cases_Bool, or_left}
use Rattle.crib_cards.specs.Sets.{has}
use Rattle.crib_cards.specs.Start.{Start, pone_of, Hands}
use Rattle.crib_problem.specs.Setup.{start_of, CanSay}
use Rattle.crib_problem.specs.Played.{cards_by}
use Rattle.crib_problem.specs.declared.problem.Goal.{Goal}
use Rattle.crib_problem.specs.declared.problem.Version.{Version}
use Rattle.crib_problem.specs.declared.problem.Version.TheVariants.{One, Two}
use Rattle.crib_cards.specs.declared.sides.Side.TheVariants.{Opponent}
use Rattle.std.specs.List.{list_all}
use Rattle.std.specs.Option.{option_or}
use Rattle.std.proofs.lemmas.List.{append-nil}
use Rattle.crib_game.proofs.OpeningActs.{enough_begin, begin_played, none_from, none_to}
use Rattle.crib_cards.specs.declared.moves.Act.{Act}
use Rattle.crib_play.specs.History.{acts_of, filled_moves, moves_of}
use Rattle.crib_play.proofs.LegalRecords.{legal_filled}
use Rattle.crib_game.specs.declared.fault.GameFault.{GameFault}
use Rattle.crib_game.specs.Replay.{Judge, remark_of, next_played, act_fault, acts_fault, first_seen}
use Rattle.crib_game.specs.Laws.{IsFirst, BeginsLaw, FirstVersionLaw, DealtLaw, FirstSeenLaw, FaultlessLaw, NoFaultLaw, FirstFaultLaw}
use Rattle.crib_game.proofs.GameFaults.{deal_is, deal_unseen}
use Rattle.crib_game.proofs.ActFaults.{legal_acts, acts_filled, acts_stay, no_fault}
use Rattle.crib_plan.proofs.LeadsTo.{or_comm3}

pub faultless_law : FaultlessLaw
faultless_law judge start hands acts started dealt e = record {
  legal = legal_filled start hands (moves_of acts) dealt (legal_acts judge start hands acts e);
  visible = acts_filled judge start hands acts started dealt e;
  follow = acts_stay judge start hands acts e;
}

pub begins_law : BeginsLaw
begins_law problem played = (
  λ has_them. enough_begin problem (acts_of (pone_of (start_of problem)) played) (none_to problem played has_them.0) has_them.1,
  λ begins. (let parts = begin_played problem (acts_of (pone_of (start_of problem)) played) begins in (none_from problem played parts.0, parts.1)),
)

-- ---- version 1
none_played : (version : Version) (goal : Goal) (played : List Act) → CanSay version goal played → version ≡ One → played ≡ []
none_played One goal played says e = says.1
none_played Two goal played says e = cc

pub first_version_law : FirstVersionLaw
first_version_law problem is one =
    let none = none_played problem.version problem.goal problem.played is.of_version one in
    record {
      deals = λ dealt deal. record { deal = deal; fixed = ap (λ (acts : List Act). list_all (has dealt.hold) (cards_by Opponent (reverse acts))) none };
      begins = λ acts. record { later = acts; parts = sym (append-nil acts) ∙ ap (λ (played : List Act). acts ++ reverse played) (sym none) };
      fine = λ act past. ap (λ (played : List Act). remark_of (next_played played (pone_of (start_of problem)) past) false act) none;
    }

pub no_fault_law : NoFaultLaw
no_fault_law judge start hands played is none = no_fault judge start hands played is.started is.dealt is.legal none

-- ---- the first refusal
option_or_some : (earlier later : Option GameFault) (fault : GameFault) → option_or earlier later ≡ Some fault → (earlier ≡ Some fault) ⊎
    ((earlier ≡ None) × (later ≡ Some fault))
option_or_some earlier later fault e = grind arith

first_fault_from : (judge : Judge) (start : Start) (hands : Hands) (act : Act) (before : List Act) (fault : GameFault) →
    IsFirst judge start hands before fault → IsFirst judge start hands (act ∷ before) fault
first_fault_from judge start hands act before fault is =
    record { later = act ∷ is.later; act = is.act; before = is.before; here = cc; none_before = is.none_before; of_the_act = is.of_the_act }

pub first_fault_law : FirstFaultLaw
first_fault_law judge start hands [] fault e = cc
first_fault_law judge start hands (act ∷ before) fault e =
    elim (option_or_some (acts_fault judge start hands before) (act_fault judge start hands act (filled_moves start (moves_of before)) (length before + 1))
    fault e) [
      | inl earlier ↦ first_fault_from judge start hands act before fault (first_fault_law judge start hands before fault earlier)
      | inr now ↦ record { later = []; act = act; before = before; here = refl; none_before = now.0; of_the_act = now.1 }
    ]

-- ---- the six cards
pub dealt_law : DealtLaw
dealt_law problem dealt six = (deal_is problem dealt six, deal_unseen problem dealt)

-- the same with numbers counted from any number
record IsFirstFrom (known : List ℕ) (first : ℕ) (cards : List ℕ) (number : ℕ) : Type 0 where
  before : List ℕ
  card : ℕ
  later : List ℕ
  here : cards ≡ before ++ card ∷ later
  counted : number ≡ length before + first
  stood : (has known card || has before card) ≡ true
  none_before : first_seen known first before ≡ None

some_number : (first number : ℕ) → ◌≡◌ {A = Option ℕ} (Some first) (Some number) → number ≡ first
some_number first number e = cc

first_from : (known : List ℕ) (first : ℕ) (cards : List ℕ) (number : ℕ) → first_seen known first cards ≡ Some number → IsFirstFrom known first cards number
first_from known first [] number e = cc
first_from known first (card ∷ cards) number e =
    elim (cases_Bool (has known card)) [
      | inl is ↦
          let at = some_number first number (rw is at e) in
          record { before = []; card = card; later = cards; here = refl; counted = omega (arith, at); stood = or_left _ false is; none_before = refl }
      | inr lacks ↦
          let rest = first_from (card ∷ known) (first + 1) cards number (rw lacks at e) in
          record {
            before = card ∷ rest.before;
            card = rest.card;
            later = rest.later;
            here = ap (λ (xs : List ℕ). card ∷ xs) rest.here;
            counted = omega (arith, rest.counted);
            stood = sym (or_comm3 (eqb card rest.card) (has known rest.card) (has rest.before rest.card)) ∙ rest.stood;
            none_before = rw lacks rest.none_before;
          }
    ]

pub first_seen_law : FirstSeenLaw
first_seen_law known cards number e =
    let is = first_from known 1 cards number e in
    record { before = is.before; card = is.card; later = is.later; here = is.here; counted = is.counted; stood = is.stood; none_before = is.none_before }
