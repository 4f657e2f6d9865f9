-- Plans that keep to what is fixed at some places, and why some case holds of each plan.
use Rattle.std.proofs.Common.{◌≡◌, ◌↔◌, ℕ, suc, ◌+◌, ◌*◌, ◌<◌, ◌≤◌, not, ◌&&◌, List, [], ◌∷◌, ◌++◌, length, map, get_or, take, drop, ◌-◌}
use Rattle.std.proofs.Common.{Option, Some, false, true}
use Rattle.std.proofs.Common.{refl, sym, ap, subst, ◌∙◌, inl, inr, arith}
use Rattle.std.proofs.lemmas.Bool.{and_parts, both_ways, cases_lt}
use Rattle.std.proofs.lemmas.List.{length-append, length-map, length-reverse, take_all}
use Rattle.crib_cards.specs.Cards.{rank_of}
use Rattle.crib_cards.specs.Sets.{has}
use Rattle.crib_cards.specs.Start.{pone_of}
use Rattle.crib_cards.specs.declared.letters.Letter.TheVariants.{Seen, Go}
use Rattle.crib_cards.specs.declared.moves.Move.{Move}
use Rattle.crib_cards.specs.declared.moves.Move.TheVariants as move
use Rattle.crib_cards.specs.declared.moves.Act.{Act}
use Rattle.crib_cards.specs.declared.sides.Dealt.{Dealt}
use Rattle.crib_cards.specs.declared.sides.Side.{Side}
use Rattle.crib_cards.specs.declared.sides.Side.TheVariants.{Owner, Opponent}
use Rattle.crib_cards.proofs.Members.{has_cases}
use Rattle.crib_know.proofs.CardsLeft.{has-filter_parts}
use Rattle.crib_play.specs.Legal.{cards_left, cards_of, fits}
use Rattle.crib_play.specs.History.{Event, Own, Theirs, acts_of, event_by, event_of, history_of}
use Rattle.crib_problem.specs.Setup.{Setup, hands_of, played_back, start_of}
use Rattle.crib_plan.specs.declared.plan.Node.{Node}
use Rattle.crib_deals.proofs.ExactCounts.{in_append}
use Rattle.crib_players.specs.Players.{AreBy, IsPlayedBy, Player, follower_of, own_card}
use Rattle.crib_bound.specs.Worth.{IsStrategyIf}
use Rattle.crib_bound.specs.Private.Cases.{BoundsKeepers, IsAllowedAt, IsAllowedBy, IsTrailOf, KeepsTo, digit_of}
use Rattle.crib_bound.specs.declared.path.Fixed.{Fixed}
use Rattle.crib_bound.proofs.Bounds.{Obeys, bound_if, event_card, played_by}
use Rattle.crib_bound.proofs.Plans.{follows, same}

-- ---- a plan that keeps to what is fixed obeys
module _ (problem : Setup) (fixed : List Fixed) (plan : List Node) (keeps : KeepsTo problem fixed plan) where
  obeys_of : Obeys event_of event_card problem (follows problem plan) (IsAllowedBy problem fixed)
  obeys_of turns may dealt card by at is can one h there =
      keeps one h dealt at.played (played_by event_of event_card problem (follows problem plan) at.looks by)
      (ap (map digit_of) at.looks.seen ∙ there) card (ap (follows problem plan) at.looks.seen ∙ is) (at.cards card ∙ can)

pub keepers : {problem : Setup} (fixed : List Fixed) {parts value : ℕ} → IsStrategyIf event_of problem (IsAllowedBy problem fixed) parts value →
    BoundsKeepers problem parts fixed value
keepers {problem} fixed {parts} {value} strategy plan count keeps exact =
    bound_if event_of event_card problem (follows problem plan) (obeys_of problem fixed plan keeps) parts value strategy
    (λ dealt beats. (same problem plan dealt).1 beats) exact

-- ---- one trail, one history
-- two events with the same digit are one, if they are no two cards of the owner
same_event : (one other : Event) → digit_of one ≡ digit_of other →
    ((card another : ℕ) → one ≡ Own (move.Card card) → other ≡ Own (move.Card another) → card ≡ another) → one ≡ other
same_event (Own (move.Card card)) (Own (move.Card another)) is agree = ap (λ (only : ℕ). Own (move.Card only)) (agree card another refl refl)
same_event (Own (move.Card card)) (Own move.Go) is agree = absurd (omega (arith, is))
same_event (Own move.Go) (Own (move.Card card)) is agree = absurd (omega (arith, is))
same_event (Own move.Go) (Own move.Go) is agree = refl
same_event (Own (move.Card card)) (Theirs (Seen rank)) is agree = absurd (omega (arith, is))
same_event (Own (move.Card card)) (Theirs Go) is agree = absurd (omega (arith, is))
same_event (Own move.Go) (Theirs (Seen rank)) is agree = absurd (omega (arith, is))
same_event (Own move.Go) (Theirs Go) is agree = absurd (omega (arith, is))
same_event (Theirs (Seen rank)) (Own (move.Card card)) is agree = absurd (omega (arith, is))
same_event (Theirs (Seen rank)) (Own move.Go) is agree = absurd (omega (arith, is))
same_event (Theirs Go) (Own (move.Card card)) is agree = absurd (omega (arith, is))
same_event (Theirs Go) (Own move.Go) is agree = absurd (omega (arith, is))
same_event (Theirs (Seen rank)) (Theirs (Seen other)) is agree = ap (λ (only : ℕ). Theirs (Seen only)) (omega (arith, is))
same_event (Theirs (Seen rank)) (Theirs Go) is agree = absurd (omega (arith, is))
same_event (Theirs Go) (Theirs (Seen rank)) is agree = absurd (omega (arith, is))
same_event (Theirs Go) (Theirs Go) is agree = refl

own_turn : (act : Act) (card : ℕ) → event_of act ≡ Own (move.Card card) → act ≡ own_card card
own_turn act card is = by act.side act.what is
  where
    by : (side : Side) (what : Move) → event_by side what ≡ Own (move.Card card) → record { side = side; what = what } ≡ own_card card
    by Owner what is = let same : what ≡ move.Card card = cc in ap (λ (turn : Move). record { side = Owner; what = turn }) same
    by Opponent what is = absurd cc

both_some : {one other : ℕ} → Some one ≡ Some other → one ≡ other
both_some is = cc

-- lists of acts with the same digits have the same length
sized : (one other : List Act) → map digit_of (map event_of one) ≡ map digit_of (map event_of other) → length one ≡ length other
sized one other is =
    let lengths : length (map digit_of (map event_of one)) ≡ length (map digit_of (map event_of other)) = ap length is in
    omega (
      arith,
      lengths,
      length-map (map event_of one) digit_of,
      length-map one event_of,
      length-map (map event_of other) digit_of,
      length-map other event_of,
    )

module _ (choice : List Event → Option ℕ) (back : List Act) where
  abbrev who : Player
  who acts = choice (map event_of acts)

  same_later : (later other : List Act) → AreBy (length back) who (later ++ back) → AreBy (length back) who (other ++ back) →
      map digit_of (map event_of (later ++ back)) ≡ map digit_of (map event_of (other ++ back)) →
      map event_of (later ++ back) ≡ map event_of (other ++ back)
  same_later [] [] by too is = refl
  same_later [] (act ∷ other) by too is = absurd (longer other is)
    where
      longer : (more : List Act) → map digit_of (map event_of back) ≡ digit_of (event_of act) ∷ map digit_of (map event_of (more ++ back)) → ⊥
      longer more is =
          let sizes : length back ≡ suc (length (more ++ back)) = sized back (act ∷ more ++ back) is in
          omega (arith, sizes, length-append more back)
  same_later (act ∷ later) [] by too is = absurd (longer later is)
    where
      longer : (more : List Act) → digit_of (event_of act) ∷ map digit_of (map event_of (more ++ back)) ≡ map digit_of (map event_of back) → ⊥
      longer more is =
          let sizes : suc (length (more ++ back)) ≡ length back = sized (act ∷ more ++ back) back is in
          omega (arith, sizes, length-append more back)
  same_later (act ∷ later) (turn ∷ other) by too is =
      let heads : digit_of (event_of act) ≡ digit_of (event_of turn) = cc in
      let tails = same_later later other by.0 too.0 cc in
      let one = same_event (event_of act) (event_of turn) heads (λ card another is_card is_other. both_some (
      sym (by.1 (omega (arith, length-append later back)) card (own_turn act card is_card)) ∙ ap choice tails
      ∙ too.1 (omega (arith, length-append other back)) another (own_turn turn another is_other))) in
      λ i. one i ∷ tails i

-- two records that a player plays who sees events, with the same trail, have the same history
same_history : {problem : Setup} (plan : List Node) {dealt other : Dealt} {played turns : List Move} (trail : List ℕ) →
    IsPlayedBy problem (follower_of problem plan) dealt played → IsPlayedBy problem (follower_of problem plan) other turns →
    IsTrailOf problem trail (history_of (pone_of (start_of problem)) played) → IsTrailOf problem trail (history_of (pone_of (start_of problem)) turns) →
    history_of (pone_of (start_of problem)) played ≡ history_of (pone_of (start_of problem)) turns
same_history {problem} plan trail by too led also =
    let few : length problem.played ≡ length (played_back problem) = sym (length-reverse problem.played) in
    rw (by.begins.parts, too.begins.parts) (same_later (follows problem plan) (played_back problem) by.begins.later too.begins.later
    (rw (by.begins.parts, few) at by.by) (rw (too.begins.parts, few) at too.by)
    (rw (by.begins.parts, too.begins.parts) at (led ∙ sym also)))

-- ---- some case holds of each plan
keeps_more : (problem : Setup) (fixed : List Fixed) (one : Fixed) (plan : List Node) → KeepsTo problem fixed plan → KeepsTo problem (one ∷ []) plan →
    KeepsTo problem (fixed ++ one ∷ []) plan
keeps_more problem fixed one plan keeps too each h = elim ((in_append each fixed (one ∷ [])).0 h) [ inl before ↦ keeps each before | inr here ↦ too each here ]

-- the place of a card in a list
place_of : (cards : List ℕ) (card : ℕ) → has cards card ≡ true → (place : ℕ) × (place < length cards) × (get_or cards place 0 ≡ card)
place_of [] card h = absurd (both_ways false refl h)
place_of (first ∷ cards) card h = elim (has_cases first card cards h) [
  | inl same ↦ (0, omega arith, same)
  | inr there ↦ let place = place_of cards card there in (suc place.0, omega (arith, place.1), place.2)
]

-- a bound was found in the case that a card of this rank is fixed where a trail leads
pub record IsTried (problem : Setup) (parts : ℕ) (fixed : List Fixed) (trail : List ℕ) (rank least : ℕ) : Type 0 where
  pub one : Fixed
  pub there : one.trail.items ≡ trail
  pub rank_is : one.rank ≡ rank
  pub bounds : BoundsKeepers problem parts (fixed ++ one ∷ []) least

-- the cards that were tried, and one more
module _ {problem : Setup} {parts : ℕ} {fixed : List Fixed} {trail : List ℕ} {at least : ℕ} (tried : (place : ℕ) → place < at →
    IsTried problem parts fixed trail (rank_of (get_or problem.hold place 0)) least) where
  -- with a rank that was tried
  pub tried_again : (earlier : ℕ) → earlier < at → rank_of (get_or problem.hold earlier 0) ≡ rank_of (get_or problem.hold at 0) → (place : ℕ) →
      place < at + 1 → IsTried problem parts fixed trail (rank_of (get_or problem.hold place 0)) least
  tried_again earlier before same place inside = elim (cases_lt place at) [
    | inl less ↦ tried place less
    | inr most ↦
        let is : place ≡ at = omega (arith, most, inside) in
        rw is (subst (λ (rank : ℕ). IsTried problem parts fixed trail rank least) same (tried earlier before))
  ]

  pub tried_too : {lower : ℕ} → lower ≤ least → IsTried problem parts fixed trail (rank_of (get_or problem.hold at 0)) lower → (place : ℕ) →
      place < at + 1 → IsTried problem parts fixed trail (rank_of (get_or problem.hold place 0)) lower
  tried_too {lower} less more place inside = elim (cases_lt place at) [
    | inl before ↦
        let case = tried place before in record {
          one = case.one;
          there = case.there;
          rank_is = case.rank_is;
          bounds = λ plan count keeps exact. omega (arith, less, case.bounds plan count keeps exact);
        }
    | inr most ↦ let is : place ≡ at = omega (arith, most, inside) in rw is more
  ]

pub covered : (problem : Setup) (parts : ℕ) (fixed : List Fixed) (trail : List ℕ) (least : ℕ) → 0 < length problem.hold →
    ((place : ℕ) → place < length problem.hold → IsTried problem parts fixed trail (rank_of (get_or problem.hold place 0)) least) →
    BoundsKeepers problem parts fixed least
covered problem parts fixed trail least some tried plan count keeps exact = elim (cases_lt (parts * count) least) [
  | inl more ↦
      let first = tried 0 some in
      absurd (omega (
        arith,
        more,
        first.bounds plan count (keeps_more problem fixed first.one plan keeps (λ each h dealt played by at card is can.
            absurd (omega (
              arith,
              more,
              le_by each (elim h [ inl same ↦ ap (λ (one : Fixed). one.trail.items) (sym same) ∙ first.there | inr none ↦ absurd none ])
                  dealt played by at card is can,
            )))) exact,
      ))
  | inr most ↦ most
]
  where
    -- where a card is played there, the case of its rank holds
    le_by : (each : Fixed) → each.trail.items ≡ trail → (dealt : Dealt) (played : List Move) → IsPlayedBy problem (follower_of problem plan) dealt played →
        IsTrailOf problem each.trail.items (history_of (pone_of (start_of problem)) played) → (card : ℕ) →
        follower_of problem plan (acts_of (pone_of (start_of problem)) played) ≡ Some card →
        (has (cards_left (hands_of problem dealt) Owner played) card && fits played card) ≡ true → least ≤ parts * count
    le_by each each_there dealt played by at card is can =
        let held = has-filter_parts (λ other. not (has (cards_of played) other)) problem.hold card (and_parts _ _ can).0 in
        let place = place_of problem.hold card held.0 in
        let case = tried place.0 place.1 in
        case.bounds plan count (keeps_more problem fixed case.one plan keeps (λ other h other_dealt other_played too also another is_other can_other.
        let other_there : other.trail.items ≡ trail =
        elim h [ inl same ↦ ap (λ (one : Fixed). one.trail.items) (sym same) ∙ case.there | inr none ↦ absurd none ] in
        let rank : other.rank ≡ rank_of card =
        elim h [ inl same ↦ ap (λ (one : Fixed). one.rank) (sym same) ∙ case.rank_is ∙ ap rank_of place.2 | inr none ↦ absurd none ] in
        let one_history = same_history plan trail by too (rw each_there at at) (rw other_there at also) in
        let one_card = both_some (sym is ∙ ap (follows problem plan) one_history ∙ is_other) in
        ap rank_of (sym one_card) ∙ sym rank)) exact

-- ---- what is fixed, one by one
pub first_is : {X : Type 0} (items : List X) (first : X) → 1 ≤ length items → first ≡ get_or items 0 first →
    items ≡ first ∷ take (length items - 1) (drop 1 items)
first_is [] first some at = absurd (omega (arith, some))
first_is (item ∷ items) first some at = λ i. sym at i ∷ sym (take_all (length (item ∷ items) - 1) items (omega arith)) i

pub allowed_more : {fixed others : List Fixed} {one : Fixed} {trail : List ℕ} {rank : ℕ} → fixed ≡ one ∷ others →
    (one.trail.items ≡ trail → rank ≡ one.rank) → IsAllowedAt others trail rank ↔ IsAllowedAt fixed trail rank
allowed_more {one = one} {trail = trail} {rank = rank} is lets = (
  λ allowed each h there. elim (rw is at h) [
    | inl same ↦ subst (λ (other : Fixed). other.trail.items ≡ trail → rank ≡ other.rank) same lets there
    | inr before ↦ allowed each before there
  ],
  λ allowed each h there. allowed each (rw is (inr h)) there,
)

pub allowed_one : {fixed others : List Fixed} {one : Fixed} {trail : List ℕ} {rank : ℕ} → fixed ≡ one ∷ others → IsAllowedAt fixed trail rank →
    one.trail.items ≡ trail → rank ≡ one.rank
allowed_one {one = one} is allowed there = allowed one (rw is (inl refl)) there
