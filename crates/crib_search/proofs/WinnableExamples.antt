-- A worked example of a problem that isn't winnable, although it is after each lead whose suit is known. The opponent leads one of ten cards. No plan is sure
-- before the lead, because a plan can't distinguish JC from JS. But if the suit of the lead is known, a plan is sure, whichever card it is. So one plan is sure
-- after each king, and none after each jack.
use Rattle.std.proofs.Common.{arith, ◌≡◌, refl, sym, ap, subst, ◌∙◌, inl, inr, ℕ, Bool, true, eqb, not, ◌&&◌, ◌||◌, List, [], ◌∷◌, filter, map, None}
use Rattle.std.specs.Prelude.{if◌then◌else◌}
use Rattle.std.specs.List.{list_all}
use Rattle.std.proofs.lemmas.Bool.{and_parts, not-true}
use Rattle.crib_cards.specs.Cards.{card_value, rank_of}
use Rattle.crib_cards.specs.Sets.{has, set_where}
use Rattle.crib_cards.specs.declared.sides.Dealt.{Dealt}
use Rattle.crib_cards.specs.declared.letters.Letter.TheVariants.{Seen}
use Rattle.crib_cards.specs.declared.moves.Move.TheVariants.{Card, Go}
use Rattle.crib_cards.proofs.Members.{all_has, has_here}
use Rattle.crib_play.specs.History.{Event, Own, Theirs}
use Rattle.crib_show.specs.Show.{hand_points, crib_points}
use Rattle.crib_problem.specs.Setup.{IsSetup, IsDealOf, unseen_of}
use Rattle.crib_problem.proofs.Setups.{setup_from}
use Rattle.crib_plan.specs.declared.plan.Next.TheVariants.{End, To}
use Rattle.crib_plan.specs.declared.plan.Node.TheVariants.{Play}
use Rattle.crib_know.specs.Knowledge.{played_events}
use Rattle.crib_know.specs.Hidden.{CanShow}
use Rattle.crib_know.proofs.FixedCards.{fixed_unseen}
use Rattle.crib_sure.specs.Sure.{IsSure}
use Rattle.crib_search.specs.Finder.{Finds, FindsTree}
use Rattle.crib_search.specs.Winnable.{after_card, IsWinnable, IsWinnableAfter}
use Rattle.crib_search.proofs.AfterRank.{no_tree_no_win}
use Rattle.crib_search.proofs.LawProofs.{none_law}
use Rattle.crib_search.proofs.LeadExamples.{before_the_lead, after_lead, leads, plan_after, six_turns}
use Rattle.crib_search.proofs.LeadPlans.{plan_is_sure}
use Rattle.crib_show.specs.Outcome.{outcome_from}

-- ---- before the lead no plan is sure
before_the_lead_is_a_setup : IsSetup before_the_lead
unfolding set_where
before_the_lead_is_a_setup =
    setup_from before_the_lead refl tt tt (omega arith) (omega arith, (omega arith, (omega arith, (omega arith, (tt, (tt, tt))))))
    ((((((tt, refl), refl), refl), refl), refl), refl)

-- a flush in clubs, and the jack of the starter's suit with a queen
abbrev flush : Dealt
flush = record { hold = 4 ∷ 12 ∷ 40 ∷ 36 ∷ []; throw = 0 ∷ 1 ∷ [] }

abbrev his_nobs : Dealt
his_nobs = record { hold = 4 ∷ 12 ∷ 43 ∷ 45 ∷ []; throw = 0 ∷ 1 ∷ [] }

are_deals : IsDealOf before_the_lead flush × IsDealOf before_the_lead his_nobs
unfolding set_where
are_deals = (assumption, assumption)

-- the history up to the lead of a jack
abbrev jack_led : List Event
jack_led = Theirs (Seen 11) ∷ played_events before_the_lead

-- JC QH TC: a run of three, a go, and a flush make eight
none_after_queen : Finds 28 before_the_lead (Own (Card 46) ∷ jack_led) None
unfolding outcome_from hand_points crib_points
none_after_queen = inl (
  (
    Seen 10,
    (flush, (are_deals.0, (Card 36 ∷ Card 46 ∷ Card 40 ∷ six_turns, assumption, refl))),
    (
      None,
      inr (
        λ reached. (let beaten = reached flush (are_deals.0, (Card 48 ∷ Go ∷ Go ∷ Card 36 ∷ Card 46 ∷ Card 40 ∷ six_turns, assumption, refl)) in cc),
        refl,
      ),
      refl,
    ),
  ),
  refl,
)

-- JS KC QD: a run of three, a go, a run of three in the hand with the starter, and his nobs make eight
none_after_king : Finds 28 before_the_lead (Own (Card 48) ∷ jack_led) None
unfolding outcome_from hand_points crib_points
none_after_king = inl (
  (
    Seen 12,
    (his_nobs, (are_deals.1, (Card 45 ∷ Card 48 ∷ Card 43 ∷ six_turns, assumption, refl))),
    (
      None,
      inr (
        λ reached. (let beaten = reached his_nobs (are_deals.1, (Card 46 ∷ Go ∷ Go ∷ Card 45 ∷ Card 48 ∷ Card 43 ∷ six_turns, assumption, refl)) in cc),
        refl,
      ),
      refl,
    ),
  ),
  refl,
)

shows_jack : CanShow before_the_lead (played_events before_the_lead) (Seen 11)
shows_jack = (flush, (are_deals.0, (Card 40 ∷ six_turns, assumption, refl)))

none_after_jack : Finds 29 before_the_lead jack_led None
none_after_jack = (None, none_after_king, (None, none_after_queen, refl))

no_tree : FindsTree before_the_lead None
unfolding FindsTree
no_tree = inl ((Seen 11, shows_jack, none_after_jack), refl)

pub not_winnable_before_the_lead : IsWinnable before_the_lead → ⊥
not_winnable_before_the_lead = none_law before_the_lead before_the_lead_is_a_setup (None, no_tree, refl)

-- nor is one plan sure after JC and JS
pub not_winnable_after_a_jack : IsWinnableAfter before_the_lead 11 → ⊥
not_winnable_after_a_jack = no_tree_no_win before_the_lead before_the_lead_is_a_setup 11 29 shows_jack (λ over. cc) none_after_jack

-- ---- after each lead a plan is sure
-- the opponent said go at 22, and so has only ten-cards left
pub leads_are_ten_cards : filter (λ card. eqb (card_value card) 10) (unseen_of before_the_lead) ≡ leads
unfolding set_where
leads_are_ten_cards = refl

pub winnable_after_each_lead : (lead : ℕ) → has leads lead ≡ true → IsWinnable (after_lead lead)
winnable_after_each_lead lead is = record { plan = plan_after lead; sure = plan_is_sure lead is }

-- QH first after JS, and KC first after JC
pub plans_after_jacks : map plan_after (43 ∷ 40 ∷ []) ≡ (Play 46 (To 1) ∷ Play 48 End ∷ []) ∷ (Play 48 (To 1) ∷ Play 46 End ∷ []) ∷ []
plans_after_jacks = refl

-- ---- one plan is sure after each king: QH first
abbrev first_kings : List ℕ
first_kings = 36 ∷ 37 ∷ 38 ∷ 39 ∷ 40 ∷ 41 ∷ []

abbrev fits_king : ℕ → Bool
fits_king card = not (eqb (rank_of card) 13) || (has leads card && not (has first_kings card))

unseen_kings_fit : list_all fits_king (unseen_of before_the_lead) ≡ true
unfolding set_where
unseen_kings_fit = refl

pub winnable_after_a_king : IsWinnableAfter before_the_lead 13
winnable_after_a_king = record {
  plan = Play 46 (To 1) ∷ Play 48 End ∷ [];
  sure = λ card king setup. (
      let unseen = fixed_unseen (after_card before_the_lead card) setup card (has_here card (12 ∷ 4 ∷ [])) in
      let fits : (not (eqb 13 13) || (has leads card && not (has first_kings card))) ≡ true =
      ap (λ (rank : ℕ). not (eqb rank 13) || (has leads card && not (has first_kings card))) (sym king)
      ∙ all_has fits_king (unseen_of before_the_lead) card unseen_kings_fit unseen in
      let parts = and_parts (has leads card) (not (has first_kings card)) fits in
      subst (IsSure (after_lead card))
      (ap (λ (first : Bool). Play (if first then 48 else 46) (To 1) ∷ Play (if first then 46 else 48) End ∷ []) (not-true (has first_kings card) parts.1))
      (plan_is_sure card parts.0)
      );
}
