-- There is at most one first failing game, with one ending, and none if the plan is sure.
use Rattle.std.proofs.Common.{◌≡◌, ℕ, zero, suc, ◌+◌, ◌<◌, Bool, true, false, cond, ◌&&◌, ◌||◌, List, [], ◌∷◌, ◌++◌, map, reverse}
use Rattle.std.proofs.Common.{take, drop, length, length-append, Some, None, refl, sym, ap, subst, ◌∙◌, inl, inr, arith}
use Rattle.std.specs.List.{AllByRecursion}
use Rattle.std.proofs.lemmas.Bool.{and_parts, or_parts, eq-eqb}
use Rattle.std.proofs.lemmas.Bool.Decides.{nat_tests}
use Rattle.std.proofs.lemmas.Slice.Eq.{bytes_eq-Decides}
use Rattle.std.proofs.lemmas.List.{reverse-reverse}
use Rattle.crib_cards.specs.Cards.{IsCard}
use Rattle.crib_cards.specs.Deals.{six_cards, deal_numbers, is_in_pack_order}
use Rattle.crib_cards.specs.Order.{is_before, are_rising}
use Rattle.crib_cards.specs.Sets.{set_of}
use Rattle.crib_cards.specs.Letters.{letter_index}
use Rattle.crib_cards.specs.declared.sides.Dealt.{Dealt}
use Rattle.crib_cards.specs.declared.moves.Act.{Act}
use Rattle.crib_cards.proofs.SetFacts.{set_of-rising}
use Rattle.crib_play.specs.History.{Event, Own, Theirs, event_of}
use Rattle.crib_show.specs.declared.show.outcomes.Outcome.{Outcome}
use Rattle.crib_show.specs.declared.show.outcomes.Outcome.TheVariants as outcome
use Rattle.crib_problem.specs.Setup.{Setup, IsSetup, start_of, hands_of, played_back, fixed_cards}
use Rattle.crib_plan.specs.declared.plan.Node.{Node}
use Rattle.crib_know.specs.Knowledge.{played_events}
use Rattle.crib_know.proofs.LedHistories as hidden
use Rattle.crib_know.specs.Hidden.{BeginsAfter}
use Rattle.crib_game.specs.declared.section.game.Game.{Game}
use Rattle.crib_game.specs.declared.following.ending.Ending.{Ending}
use Rattle.crib_game.specs.Replay.{acts_back}
use Rattle.crib_game.specs.Followed.{ending_with, ending_without}
use Rattle.crib_check.specs.declared.verdict.Verdict.TheVariants.{Holds, Fails}
use Rattle.crib_sure.specs.Sure.{IsFollowed, IsSure}
use Rattle.crib_check.specs.Failing.{IsFailingEnding, IsFailing, IsFirstFailing, opponent_letters}
use Rattle.crib_sure.specs.HistoryPlaces.{place_by, IsStatedEvent}
use Rattle.crib_sure.specs.Private.Histories.{Extends, history_of_game}
use Rattle.crib_sure.specs.Positions.{StandsAt}
use Rattle.crib_check.specs.Laws.{ExactLaw, SameLaw}
use Rattle.crib_check.proofs.ExtendedGames.{next_turn, failing_begins, key_at, stands_at}
use Rattle.crib_check.proofs.FailureEndings.{six_is, open_is_none, reached_is_none, failing_stands, failing_at, seen_legal, events_are}
use Rattle.crib_check.proofs.GameOrder.{letters_in, letters_go_on}
use Rattle.crib_check.proofs.WalkConclusions.{own_turn_may, own_event, ended}
use Rattle.crib_know.proofs.PassingIsAgreeing.{theirs_letter}
use Rattle.crib_cards.proofs.LetterIndices.{same_letter}
use Rattle.crib_check.proofs.SuitOrder.{same_suits}
use Rattle.crib_problem.proofs.StartLemmas.{each_has}
use Rattle.crib_problem.proofs.CardLemmas.{all_parts}
use Rattle.crib_cards.proofs.Members.{all_cards}
use Rattle.crib_know.proofs.KnowledgeFacts.{begin_more}
use Rattle.std.proofs.Math.Seq.{take-append_seam, drop-append_seam}

-- ---- no failing game if the plan is sure
ending_good : (d s : Bool) (o : Outcome) → (d ≡ true → o ≡ outcome.Reached) → s ≡ false → IsFailingEnding (ending_without (cond d (Some o) None) s) → ⊥
ending_good true s o reached free f = let F : Ending → Type 0 = λ e. IsFailingEnding e in reached_is_none (subst F (ap ending_with (reached refl)) f)
ending_good false s o reached free f = let F : Bool → Type 0 = λ b. IsFailingEnding (ending_without None b) in open_is_none (subst F free f)

pub sure_or_failing : (problem : Setup) (plan : List Node) (game : Game) (result : Ending) → IsSure problem plan → IsFailing problem plan game result → ⊥
sure_or_failing problem plan game result sure failing =
    let of = failing.of_game.of_game in
    let followed : IsFollowed problem plan game.opp failing.played =
    record { deal = of.deal; legal = of.legal; begins = rw of.acts of.begins; follows = failing.of_game.follows } in
    ending_good _ _ _ (sure.reached game.opp failing.played followed) (sure.never_stuck game.opp failing.played followed) (rw failing.ending_is failing.failure)

-- ---- the order of lists is total
-- where neither the first part nor the second says that a list comes before
second_fails : (b same c : Bool) → (b || (same && c)) ≡ false → same ≡ true → c ≡ false
second_fails b same c e is = grind (arith, nat_tests, e, is)

not_apart : (xs ys : List ℕ) → is_before xs ys ≡ false → is_before ys xs ≡ false → xs ≡ ys
not_apart [] [] e f = refl
not_apart [] (y ∷ ys) e f = absurd cc
not_apart (x ∷ xs) [] e f = absurd cc
not_apart (x ∷ xs) (y ∷ ys) e f =
    let same : x ≡ y = grind (arith, nat_tests, e, f) in
    let rest = not_apart xs ys (second_fails _ _ _ e (eq-eqb x y same)) (second_fails _ _ _ f (eq-eqb y x (sym same))) in λ i. same i ∷ rest i

-- two equal lists, split so that the first parts are equally long, have equal parts
cut_at : (xs ys more others : List ℕ) → length xs ≡ length ys → xs ++ more ≡ ys ++ others → (xs ≡ ys) × (more ≡ others)
cut_at xs ys more others long same = (
  sym (take-append_seam xs more) ∙ (λ i. take (long i) (same i)) ∙ take-append_seam ys others,
  sym (drop-append_seam xs more) ∙ (λ i. drop (long i) (same i)) ∙ drop-append_seam ys others,
)

same_next : (before : List ℕ) (x y : ℕ) (xs ys : List ℕ) → before ++ x ∷ xs ≡ before ++ y ∷ ys → x ≡ y
same_next before x y xs ys e = cc ((cut_at before before (x ∷ xs) (y ∷ ys) refl e).1)

-- ---- one deal
rising_cards : (cards : List ℕ) → AllByRecursion IsCard cards → are_rising cards ≡ true → set_of cards ≡ cards
rising_cards cards all rising = set_of-rising cards rising (all_cards cards (λ card h. each_has IsCard cards card all h))

written : (dealt : Dealt) → AllByRecursion IsCard (six_cards dealt) → is_in_pack_order dealt ≡ true → deal_numbers dealt ≡ dealt.hold ++ dealt.throw
written dealt all order =
    let rising = and_parts (are_rising dealt.hold) (are_rising dealt.throw) order in
    let cards = all_parts dealt.hold dealt.throw all in
    (λ i. rising_cards dealt.hold cards.0 rising.0 i ++ rising_cards dealt.throw cards.1 rising.1 i)

module _ (problem : Setup) (plan : List Node) (setup : IsSetup problem) (game other : Game) (result others_ending : Ending)
    (one : IsFirstFailing problem plan game result) (two : IsFirstFailing problem plan other others_ending) where
  letters_same : opponent_letters game ≡ opponent_letters other
  letters_same = not_apart _ _ (or_parts _ _ (two.first game result one.failing)).0 (or_parts _ _ (one.first other others_ending two.failing)).0

  deals_same : deal_numbers game.opp ≡ deal_numbers other.opp
  deals_same =
      not_apart _ _ (second_fails _ _ _ (two.first game result one.failing) ((bytes_eq-Decides _ _).1 letters_same))
      (second_fails _ _ _ (one.first other others_ending two.failing) ((bytes_eq-Decides _ _).1 (sym letters_same)))

  opp_same : game.opp ≡ other.opp
  opp_same =
      let deal = one.failing.of_game.of_game.deal in
      let also = two.failing.of_game.of_game.deal in
      let cut = cut_at game.opp.hold other.opp.hold game.opp.throw other.opp.throw (deal.deal.held ∙ sym also.deal.held)
      (sym (written game.opp (six_is problem game.opp deal).cards one.in_pack_order) ∙ deals_same
      ∙ written other.opp (six_is problem other.opp also).cards two.in_pack_order) in
      λ i. record { hold = cut.0 i; throw = cut.1 i }

  -- ---- one history
  -- the next turns are the same
  same_event : {history : List Event} → StandsAt problem plan (key_at problem plan history) history → (event next : Event) →
      Extends (event ∷ history) (history_of_game game) → Extends (next ∷ history) (history_of_game other) →
      hidden.MayCome problem history event → hidden.MayCome problem history next →
      IsStatedEvent plan (place_by plan problem.played history) event → IsStatedEvent plan (place_by plan problem.played history) next → event ≡ next
  same_event stands (Own what) next to to_other may may_next is is_next = sym (own_event stands what (own_turn_may stands what may, is) next may_next is_next)
  same_event stands (Theirs letter) (Own what) to to_other may may_next is is_next =
      own_event stands what (own_turn_may stands what may_next, is_next) (Theirs letter) may is
  same_event {history} stands (Theirs letter) (Theirs next) to to_other may may_next is is_next =
      let same = same_next (reverse (letters_in history)) (letter_index letter) (letter_index next) _ _
      (sym (letters_go_on game history letter to) ∙ letters_same ∙ letters_go_on other history next to_other) in
      ap Theirs (same_letter letter next (theirs_letter problem setup history letter may) (theirs_letter problem setup history next may_next) same)

  -- nothing comes after a game has failed, so both games go on with the same event or end
  same_from : (n : ℕ) (history : List Event) → length (history_of_game game) < n + length history → BeginsAfter problem history →
      Extends history (history_of_game game) → Extends history (history_of_game other) → history_of_game game ≡ history_of_game other
  same_from zero history few begun ext ext_other = absurd (omega (arith, few, ap length ext.1, length-append ext.0 history))
  same_from (suc n) history few begun ext ext_other =
      let stands = stands_at setup begun one.failing ext in
      elim (next_turn setup begun one.failing ext) [
        | inl same ↦ elim (next_turn setup begun two.failing ext_other) [
          | inl also ↦ same ∙ sym also
          | inr next ↦ absurd (ended stands one.failing same next.event next.may next.stated)
        ]
        | inr next ↦ elim (next_turn setup begun two.failing ext_other) [
          | inl same ↦ absurd (ended stands two.failing same next.event next.may next.stated)
          | inr also ↦
              let event = same_event stands next.event also.event next.extends also.extends next.may also.may next.stated also.stated in
              same_from n (next.event ∷ history) (omega (arith, few)) (begin_more problem next.event history begun) next.extends (rw event also.extends)
        ]
      ]

  history_same : history_of_game game ≡ history_of_game other
  history_same = same_from (suc (length (history_of_game game))) (played_events problem) (omega arith) (record { later = []; parts = refl })
      (failing_begins one.failing) (failing_begins two.failing)

  -- ---- one game
  pub same_games : (result ≡ others_ending) × (game ≡ other)
  same_games =
      let begins = one.failing.of_game.of_game.begins in
      let also = two.failing.of_game.of_game.begins in
      let front = failing_begins one.failing in
      let at = stands_at setup (record { later = front.0; parts = front.1 }) one.failing ([], refl) in
      let under = (failing_stands setup one.failing).of_game in
      let under_other = (failing_stands setup two.failing).of_game in
      let later = same_suits (length (fixed_cards problem)) (start_of problem) (hands_of problem game.opp) (played_back problem) (omega arith) _ _
      (rw begins.parts at (seen_legal at refl under)) (rw (← opp_same, also.parts) at (seen_legal at (sym history_same) under_other))
      (rw begins.parts at (events_are at refl under)) (rw also.parts at (events_are at (sym history_same) under_other ∙ history_same))
      (ap (map event_of) (sym begins.parts) ∙ history_same ∙ ap (map event_of) also.parts)
      (rw begins.parts at one.in_suit_order) (rw (← opp_same, also.parts) at two.in_suit_order) in
      let acts : acts_back game ≡ acts_back other = begins.parts ∙ ap (λ (xs : List Act). xs ++ played_back problem) later ∙ sym also.parts in
      let items : game.acts.items ≡ other.acts.items = sym (reverse-reverse game.acts.items) ∙ ap reverse acts ∙ reverse-reverse other.acts.items in (
        sym (rw opp_same at (failing_at setup one.failing at refl)) ∙ failing_at setup two.failing at (sym history_same),
        λ i. record { opp = opp_same i; acts = record { items = items i } },
      )

-- ---- the laws
pub exact_law : ExactLaw
exact_law problem plan Holds right = (λ e. right, λ sure. refl)
exact_law problem plan (Fails result game) right = (λ e. absurd cc, λ sure. absurd (sure_or_failing problem plan game result sure right.failing))

pub same_law : SameLaw
same_law problem plan Holds Holds setup right right_other = refl
same_law problem plan Holds (Fails result game) setup right right_other = absurd (sure_or_failing problem plan game result right right_other.failing)
same_law problem plan (Fails result game) Holds setup right right_other = absurd (sure_or_failing problem plan game result right_other right.failing)
same_law problem plan (Fails result game) (Fails others_ending other) setup right right_other =
    let both = same_games problem plan setup game other result others_ending right right_other in λ i. Fails (both.0 i) (both.1 i)
