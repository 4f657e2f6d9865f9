-- The laws of what may be played next: a card of the owner is sure exactly if some plan that begins with it is sure.
use Rattle.std.specs.Prelude.{◌≡◌, ◌↔◌, ℕ, List, Some, None, IsTrue}
use Rattle.crib_problem.specs.Setup.{Setup, IsSetup}
use Rattle.crib_plan.specs.declared.plan.Node.{Node}
use Rattle.crib_plan.specs.Places.{plan_start, stated_card}
use Rattle.crib_sure.specs.Sure.{IsSure}
use Rattle.crib_search.specs.Winnable.{IsWinnable}
use Rattle.crib_players.specs.Players.{own_card}
use Rattle.crib_players.specs.Laws.{longer}
use Rattle.crib_leads.specs.declared.verdict.LeadVerdict.{LeadVerdict}
use Rattle.crib_leads.specs.Leads.{IsVerdict, is_sure, may_come, refusal_of}

-- a plan begins with a card: it states this card where it starts
abbrev pub BeginsWith : List Node → ℕ → Type 0
BeginsWith plan card = stated_card plan (plan_start plan) ≡ Some card

-- some plan is sure and begins with a card
pub record IsWinnableWith (problem : Setup) (card : ℕ) : Type 0 where
  pub plan : List Node
  pub sure : IsSure problem plan
  pub begins : BeginsWith plan card

-- for a card of the owner that may be played next and doesn't end the deal: some plan is sure after the card exactly if
-- some plan that begins with the card is sure
abbrev pub SureLeadLaw : Type 0
SureLeadLaw =
    (problem : Setup) (card : ℕ) → IsSetup problem → refusal_of problem (own_card card) ≡ None →
    IsWinnable (longer problem (own_card card)) ↔ IsWinnableWith problem card

-- for each card of the owner that may be played next: a verdict on the card says that the goal is reached exactly if
-- some plan that begins with the card is sure
abbrev pub VerdictLaw : Type 0
VerdictLaw =
    (problem : Setup) (card : ℕ) (verdict : LeadVerdict) → IsSetup problem →
    IsTrue (may_come problem (own_card card)) → IsVerdict problem (own_card card) verdict →
    IsTrue (is_sure verdict) ↔ IsWinnableWith problem card
