-- A plan is sure if no deal beats it, and then no deal does. It is enough to look at deals in pack order.
use Rattle.std.proofs.Common.{◌≡◌, true, List, [], ◌++◌, refl, ap, ◌∙◌}
use Rattle.std.proofs.lemmas.Bool.{and_from, or_right}
use Rattle.crib_cards.specs.Cards.{rank_of}
use Rattle.crib_cards.specs.Deals.{is_in_pack_order, six_cards}
use Rattle.crib_cards.specs.Sets.{has, set_of}
use Rattle.crib_cards.specs.declared.sides.Dealt.{Dealt}
use Rattle.crib_cards.proofs.Members.{all_from, all_has, distinct_right}
use Rattle.crib_cards.proofs.SetFacts.{are_rising-set_where, has-append}
use Rattle.crib_play.specs.History.{Event}
use Rattle.crib_show.proofs.Exchange.{has-reordered}
use Rattle.crib_show.proofs.OrderLaw.{IsReordered, append-reordered, list_all-reordered, map-reordered, outcome_of-reordered, reordered-append}
use Rattle.crib_show.proofs.ReorderedLists.{Reordered, are_distinct-reordered, both, length-reordered, rank_counts-reordered}
use Rattle.crib_show.proofs.SetOrder.{set_of-reordered}
use Rattle.crib_problem.specs.Setup.{Setup, IsSetup, IsDealOf, fixed_cards, unseen_of}
use Rattle.crib_plan.specs.declared.plan.Node.{Node}
use Rattle.crib_know.specs.Knowledge.{Knowledge}
use Rattle.crib_know.specs.Hidden.{AgreesWith, KnowsAfter}
use Rattle.crib_know.proofs.Deals.{hold_cards, hold_distinct}
use Rattle.crib_know.proofs.CallLemmas.{passing_same}
use Rattle.crib_game.specs.declared.section.game.Game.{Game}
use Rattle.crib_game.specs.declared.following.ending.Ending.{Ending}
use Rattle.crib_game.specs.Private.Judging.{full_at}
use Rattle.crib_beaten.specs.Beaten.{Beats}
use Rattle.crib_check.specs.Failing.{IsFailing}
use Rattle.crib_sure.specs.Private.Histories.{history_of_game}
use Rattle.crib_know.specs.Hidden.{passes_counts}
use Rattle.crib_sure.specs.Sure.{IsSure}
use Rattle.crib_beaten.proofs.BeatingDeals.{beats_here}
use Rattle.crib_sure.proofs.PointsOfDeals.{hidden}
use Rattle.crib_check.proofs.ExtendedGames.{failing_agrees, failing_begins, key_at, stands_at}
use Rattle.crib_check.proofs.FailureEndings.{failing_at}
use Rattle.crib_check.proofs.OneFirstGame.{sure_or_failing}
use Rattle.crib_check.proofs.VerdictAtStart as start

-- a deal written in pack order
abbrev ordered : Dealt → Dealt
ordered dealt = record { hold = set_of dealt.hold; throw = set_of dealt.throw }

ordered_is : (dealt : Dealt) → is_in_pack_order (ordered dealt) ≡ true
ordered_is dealt = and_from _ _ (are_rising-set_where (has dealt.hold)) (are_rising-set_where (has dealt.throw))

module _ {problem : Setup} {dealt : Dealt} (setup : IsSetup problem) (deal : IsDealOf problem dealt) where
  same : IsReordered (ordered dealt) dealt
  same = record {
    hold = set_of-reordered dealt.hold (hold_distinct problem setup dealt deal) (hold_cards problem setup dealt deal);
    throw = set_of-reordered dealt.throw (distinct_right dealt.hold dealt.throw deal.deal.distinct)
        (λ card h. (hidden setup deal card (has-append dealt.hold dealt.throw card ∙ or_right _ _ h)).0);
  }

  same_six : Reordered (six_cards (ordered dealt)) (six_cards dealt)
  same_six = both _ (dealt.hold ++ set_of dealt.throw) _ (reordered-append _ _ _ same.hold) (append-reordered dealt.hold _ _ same.throw)

  -- is a deal of the problem
  deal_ordered : IsDealOf problem (ordered dealt)
  deal_ordered = record {
    deal = record {
      held = length-reordered _ _ same.hold ∙ deal.deal.held;
      thrown = length-reordered _ _ same.throw ∙ deal.deal.thrown;
      distinct = are_distinct-reordered _ _ same_six ∙ deal.deal.distinct;
      hidden_before = list_all-reordered (has (unseen_of problem)) _ _ same_six ∙ deal.deal.hidden_before;
    };
    fixed = all_from (has (set_of dealt.hold)) (fixed_cards problem)
        (λ card h. has-reordered _ _ card same.hold ∙ all_has (has dealt.hold) (fixed_cards problem) card deal.fixed h);
  }

  agrees_ordered : {know : Knowledge} {history : List Event} → KnowsAfter know problem history → AgreesWith problem history dealt →
      AgreesWith problem history (ordered dealt)
  agrees_ordered {know} {history} knows agrees =
      let counts = rank_counts-reordered _ _ (map-reordered rank_of _ _ same.hold) in
      let passes = ((passing_same know problem history knows dealt).0 agrees).1 in
      (passing_same know problem history knows (ordered dealt)).1 (deal_ordered, ap (passes_counts know.least know.ranks_seen) counts ∙ passes)

-- a deal that beats a plan beats it in pack order, too
module _ (problem : Setup) (plan : List Node) (setup : IsSetup problem) where
  beats_ordered : (game : Game) (result : Ending) → IsFailing problem plan game result → Beats problem plan (ordered game.opp)
  beats_ordered game result failing =
      let begins = failing_begins failing in
      let agrees = failing_agrees failing in
      let stands = stands_at setup (record { later = begins.0; parts = begins.1 }) failing ([], refl) in
      let key = key_at problem plan (history_of_game game) in
      let ends = outcome_of-reordered (full_at problem game.opp key.know.round) (ordered game.opp) game.opp (same setup agrees.0) in
      let at_end = failing_at setup failing stands refl in
      (beats_here stands (agrees_ordered setup agrees.0 stands.knows agrees) (rw (ends, at_end) failing.failure)).beats

  -- no deal beats a sure plan, and a plan that no deal in pack order beats is sure
  pub sure_unbeaten : IsSure problem plan → (dealt : Dealt) → Beats problem plan dealt → ⊥
  sure_unbeaten sure dealt beats = sure_or_failing problem plan beats.game beats.result sure beats.failing

  pub sure_from : ((dealt : Dealt) → is_in_pack_order dealt ≡ true → Beats problem plan dealt → ⊥) → IsSure problem plan
  sure_from none = start.sure_from problem plan (λ game result failing _. none (ordered game.opp) (ordered_is game.opp) (beats_ordered game result failing))
