-- A record of one deal, with the cards of another: each free card of the opponent is the one of its rank that comes first.
use Rattle.std.proofs.Common.{◌≡◌, ℕ, ◌+◌, ◌-◌, ◌*◌, ◌≤◌, Bool, true, false, not, cond, eqb, ltb, ◌&&◌, ◌||◌, List, [], ◌∷◌, ◌++◌}
use Rattle.std.proofs.Common.{leb, filter, count_by, refl, sym, ap, subst, ◌∙◌, inl, inr, arith}
use Rattle.std.specs.List.{list_any}
use Rattle.std.proofs.lemmas.Bool.{and_from, and_parts, both_ways, cases_Bool, eq-eqb, eqb-true, false_from_ne_true, ltb-true, ne_eqb, not-true}
use Rattle.std.proofs.lemmas.Bool.{true_from_ne_false}
use Rattle.std.proofs.lemmas.Bool.Decides.{nat_tests}
use Rattle.crib_cards.specs.Cards.{card_value, rank_of, rank_value}
use Rattle.crib_cards.specs.Sets.{has}
use Rattle.crib_cards.specs.Start.{Start, Hands, pone_of}
use Rattle.crib_cards.specs.declared.sides.Side.{Side}
use Rattle.crib_cards.specs.declared.sides.Side.TheVariants.{Owner, Opponent}
use Rattle.crib_cards.specs.declared.sides.Dealt.{Dealt}
use Rattle.crib_cards.specs.declared.letters.Letter.TheVariants.{Seen}
use Rattle.crib_cards.specs.declared.moves.Move.{Move}
use Rattle.crib_cards.specs.declared.moves.Move.TheVariants as move
use Rattle.crib_cards.specs.Letters.{letter_of}
use Rattle.crib_cards.proofs.Members.{all_has, any_found, any_from, distinct_apart, has_here, has_there}
use Rattle.crib_cards.proofs.SetFacts.{in_set_where}
use Rattle.crib_cards.proofs.SetLemmas.{has_push}
use Rattle.crib_play.specs.Record.{mover, count_of, pile_of}
use Rattle.crib_play.specs.Score.{is_done}
use Rattle.crib_play.specs.Legal.{IsDealt, IsLegal, MayCome, MayTake, cards_left, cards_of, fits, letters_of}
use Rattle.crib_play.proofs.CardLemmas.{filter_absent, has_played}
use Rattle.crib_play.proofs.TurnFacts.{filter_all}
use Rattle.crib_problem.specs.Setup.{Setup, IsSetup, IsDealOf, fixed_cards, hands_of, known_cards, start_of, unseen_of}
use Rattle.crib_problem.proofs.StartLemmas.{hold_known}
use Rattle.crib_know.proofs.CardLists.{count_here, found_by}
use Rattle.crib_know.proofs.CardsLeft.{filter_present_by, has-filter_from, has-filter_parts}
use Rattle.crib_know.proofs.Deals.{dealt_is, hold_distinct, hold_unseen}
use Rattle.crib_sure.proofs.AgreeingInSuitOrder.{filter_same}
use Rattle.crib_bound.proofs.RenamedDeals.{free_cards, free_from_parts, free_parts}
use Rattle.crib_bound.proofs.LowestDeals.{is_free_of}

-- ---- which card comes first
-- the card with the least name
least : (ℕ → ℕ) → ℕ → List ℕ → ℕ
least name best [] = best
least name best (card ∷ cards) = cond (ltb (name card) (name best)) (least name card cards) (least name best cards)

pub first_of : (ℕ → ℕ) → ℕ → List ℕ → ℕ
first_of name none [] = none
first_of name none (card ∷ cards) = least name card cards

-- the free cards of a rank that aren't shown
abbrev pub open_cards : Setup → ℕ → List ℕ → List ℕ
open_cards problem rank shown = filter (λ card. eqb (rank_of card) rank && not (has shown card)) (free_cards problem)

-- the one with the least name
abbrev pub next_card : Setup → (ℕ → ℕ) → ℕ → List ℕ → ℕ
next_card problem name rank shown = first_of name (4 * (rank - 1)) (open_cards problem rank shown)

least_in : (name : ℕ → ℕ) (best : ℕ) (cards : List ℕ) → has (best ∷ cards) (least name best cards) ≡ true
unfolding least
least_in name best [] = has_here best []
least_in name best (card ∷ cards) = elim (ltb (name card) (name best)) as
    (λ b. has (best ∷ card ∷ cards) (cond b (least name card cards) (least name best cards)) ≡ true) [
      | true ↦ has_there best (least name card cards) (card ∷ cards) (least_in name card cards)
      | false ↦ front (least name best cards) (least_in name best cards)
    ]
  where
    front : (one : ℕ) → has (best ∷ cards) one ≡ true → has (best ∷ card ∷ cards) one ≡ true
    front one h = grind (arith, nat_tests, h)

least_most : (name : ℕ → ℕ) (best : ℕ) (cards : List ℕ) (other : ℕ) → has (best ∷ cards) other ≡ true → name (least name best cards) ≤ name other
unfolding least
least_most name best [] other h = let is : best ≡ other = grind (arith, nat_tests, h) in subst (λ (k : ℕ). name best ≤ name k) is (omega arith)
least_most name best (card ∷ cards) other h =
    go (ltb (name card) (name best)) refl (λ k there. least_most name card cards k there) (λ k there. least_most name best cards k there)
  where
    go : (b : Bool) → ltb (name card) (name best) ≡ b → ((k : ℕ) → has (card ∷ cards) k ≡ true → name (least name card cards) ≤ name k) →
        ((k : ℕ) → has (best ∷ cards) k ≡ true → name (least name best cards) ≤ name k) →
        name (cond b (least name card cards) (least name best cards)) ≤ name other
    go true lower one two = elim (cases_Bool (has (card ∷ cards) other)) [
      | inl there ↦ one other there
      | inr out ↦
          let is : best ≡ other = grind (arith, nat_tests, h, out) in
          let below = one card (has_here card cards) in
          let less = ltb-true (name card) (name best) lower in
          subst (λ (k : ℕ). name (least name card cards) ≤ name k) is (omega (arith, below, less))
    ]
    go false lower one two = elim (cases_Bool (has (best ∷ cards) other)) [
      | inl there ↦ two other there
      | inr out ↦
          let is : card ≡ other = grind (arith, nat_tests, h, out) in
          let below = two best (has_here best cards) in
          let less : name best ≤ name card = grind (arith, nat_tests, lower) in
          subst (λ (k : ℕ). name (least name best cards) ≤ name k) is (omega (arith, below, less))
    ]

first_is : (name : ℕ → ℕ) (none : ℕ) (cards : List ℕ) (other : ℕ) → has cards other ≡ true →
    (has cards (first_of name none cards) ≡ true) × (name (first_of name none cards) ≤ name other)
unfolding first_of
first_is name none [] other h = absurd (both_ways false refl h)
first_is name none (card ∷ cards) other h = (least_in name card cards, least_most name card cards other h)

rank_default : (card : ℕ) → rank_of (4 * (rank_of card - 1)) ≡ rank_of card
rank_default card = omega arith

next_rank : (problem : Setup) (name : ℕ → ℕ) (card : ℕ) (shown : List ℕ) → rank_of (next_card problem name (rank_of card) shown) ≡ rank_of card
unfolding first_of
next_rank problem name card shown = of (open_cards problem (rank_of card) shown) (λ other h. grind (
  arith,
  nat_tests,
  (has-filter_parts (λ c. eqb (rank_of c) (rank_of card) && not (has shown c)) (free_cards problem) other h).1,
))
  where
    of : (cards : List ℕ) → ((other : ℕ) → has cards other ≡ true → rank_of other ≡ rank_of card) → rank_of (first_of name (4 * (rank_of card - 1)) cards) ≡
        rank_of card
    of [] each = rank_default card
    of (first ∷ cards) each = each (least name first cards) (least_in name first cards)

-- ---- the record
-- the card for a card, after some cards
abbrev pub card_for : Setup → (ℕ → ℕ) → List ℕ → ℕ → ℕ
card_for problem name shown card = cond (has (free_cards problem) card) (next_card problem name (rank_of card) shown) card

unfoldable pub recast : Setup → (ℕ → ℕ) → List Move → List Move
recast problem name [] = []
recast problem name (move.Card card ∷ past) =
    move.Card (card_for problem name (cards_of (recast problem name past)) card) ∷ recast problem name past
recast problem name (move.Go ∷ past) = move.Go ∷ recast problem name past

card_rank : (problem : Setup) (name : ℕ → ℕ) (shown : List ℕ) (card : ℕ) → rank_of (card_for problem name shown card) ≡ rank_of card
card_rank problem name shown card = elim (cases_Bool (has (free_cards problem) card)) [
  | inl free ↦ rw free (next_rank problem name card shown)
  | inr out ↦ rw out refl
]

pub recast_letters : (problem : Setup) (name : ℕ → ℕ) (past : List Move) → letters_of (recast problem name past) ≡ letters_of past
unfolding recast
recast_letters problem name [] = refl
recast_letters problem name (move.Card card ∷ past) =
    λ i. Seen (card_rank problem name (cards_of (recast problem name past)) card i) ∷ recast_letters problem name past i
recast_letters problem name (move.Go ∷ past) = λ i. letter_of move.Go ∷ recast_letters problem name past i

-- a deal whose hold has the first cards of each rank of another deal's hold
pub record HasFirst (problem : Setup) (name : ℕ → ℕ) (dealt other : Dealt) : Type 0 where
  pub setup : IsSetup problem
  pub deal : IsDealOf problem dealt
  pub also : IsDealOf problem other
  pub counts : (rank : ℕ) → count_by (is_free_of problem rank) other.hold ≡ count_by (is_free_of problem rank) dealt.hold
  pub first : (card lower : ℕ) → has other.hold card ≡ true → has (free_cards problem) card ≡ true → has (free_cards problem) lower ≡ true →
      rank_of lower ≡ rank_of card → name lower ≤ name card → has other.hold lower ≡ true

module _ {problem : Setup} {name : ℕ → ℕ} {dealt other : Dealt} (of : HasFirst problem name dealt other) where
  abbrev free : List ℕ
  free = free_cards problem

  abbrev start : Start
  start = start_of problem

  abbrev hands : Hands
  hands = hands_of problem dealt

  abbrev others : Hands
  others = hands_of problem other

  abbrev cast : List Move → List Move
  cast past = recast problem name past

  -- the owner's cards aren't free
  pub own_kept : (card : ℕ) → has problem.hold card ≡ true → has free card ≡ false
  own_kept card mine = false_from_ne_true _ (λ is. let parts = free_parts problem card is in
      let known = (in_set_where (λ c. not (has (known_cards problem) c)) card parts.1).1 in
      both_ways _ (not-true _ known) (hold_known problem of.setup card mine))

  -- as many free cards of each rank are left, and the same others
  pub record IsCast (past : List Move) : Type 0 where
    pub legal : IsLegal start others (cast past)
    pub outside : (card : ℕ) → has free card ≡ false → has (cards_of (cast past)) card ≡ has (cards_of past) card
    pub counts : (rank : ℕ) → count_by (is_free_of problem rank) (cards_left others Opponent (cast past)) ≡
        count_by (is_free_of problem rank) (cards_left hands Opponent past)

  cast_start : IsCast []
  unfolding recast
  cast_start = record {
    legal = tt;
    outside = λ card out. refl;
    counts = λ rank. ap (count_by (is_free_of problem rank)) (filter_all other.hold) ∙ of.counts rank ∙ sym (ap (count_by (is_free_of problem rank))
        (filter_all dealt.hold));
  }

  pub fits_same : (past : List Move) (card same : ℕ) → rank_of card ≡ rank_of same → fits (cast past) card ≡ fits past same
  fits_same past card same e = λ i. leb (count_of (pile_of (recast_letters problem name past i)) + rank_value (e i)) 31

  pub own_left : (past : List Move) → IsCast past → cards_left others Owner (cast past) ≡ cards_left hands Owner past
  own_left past before = filter_same (λ card. not (has (cards_of (cast past)) card)) (λ card. not (has (cards_of past) card)) problem.hold
      (λ card mine. ap not (before.outside card (own_kept card mine)))

  -- ---- the opponent's cards
  -- an unseen card that isn't free is fixed, so it is in both holds
  both_hold : (card : ℕ) → has (unseen_of problem) card ≡ true → has free card ≡ false → (has dealt.hold card ≡ true) × (has other.hold card ≡ true)
  both_hold card unseen out = (
    all_has (has dealt.hold) (fixed_cards problem) card of.deal.fixed fixed,
    all_has (has other.hold) (fixed_cards problem) card of.also.fixed
        fixed,
  )
    where
      fixed : has (fixed_cards problem) card ≡ true
      fixed = true_from_ne_false _ (λ loose. both_ways _ out (free_from_parts problem card unseen loose))

  abbrev left : List Move → List ℕ
  left past = cards_left hands Opponent past

  abbrev left_too : List Move → List ℕ
  left_too past = cards_left others Opponent (cast past)

  -- where a card is left in one deal, one of its rank is in the other
  left_back : (past : List Move) → IsCast past → (card : ℕ) → has (left_too past) card ≡ true → (same : ℕ) × (has (left past) same ≡ true) ×
      (rank_of same ≡ rank_of card)
  left_back past before card h = elim (cases_Bool (has free card)) [
    | inl is ↦
        let some = count_here (is_free_of problem (rank_of card)) (left_too past) card h (and_from _ _ is (eq-eqb (rank_of card) (rank_of card) refl)) in
        let found = found_by (is_free_of problem (rank_of card)) (left past) (subst (λ (n : ℕ). 1 ≤ n) (before.counts (rank_of card)) some) in
        (found.card, found.held, eqb-true _ _ (and_parts _ _ found.passes).1)
    | inr out ↦
        let parts = has-filter_parts (λ c. not (has (cards_of (cast past)) c)) other.hold card h in
        let holds = both_hold card (hold_unseen problem of.setup other of.also card parts.0) out in
        (card, has-filter_from (λ c. not (has (cards_of past) c)) dealt.hold card holds.0 (ap not (sym (before.outside card out)) ∙ parts.1), refl)
  ]

  opponent_go : (past : List Move) → IsCast past → list_any (fits past) (left past) ≡ false → list_any (fits (cast past)) (left_too past) ≡ false
  opponent_go past before none = false_from_ne_true _ (λ any.
      let found = any_found (fits (cast past)) (left_too past) any in
      let back = left_back past before found.0 found.1 in
      both_ways _ none (any_from (fits past) (left past) back.0 back.1 (sym (fits_same past found.0 back.0 (sym back.2)) ∙ found.2)))

  -- the card for a card that is left is left too
  pub record IsFor (past : List Move) (card : ℕ) (new : ℕ) : Type 0 where
    pub left_now : has (left_too past) new ≡ true
    pub free_too : has free new ≡ has free card
    pub same : has free card ≡ false → new ≡ card

  free_card : (past : List Move) → IsCast past → (card : ℕ) → has (left past) card ≡ true → has free card ≡ true →
      IsFor past card (next_card problem name (rank_of card) (cards_of (cast past)))
  free_card past before card h is =
      let some = count_here (is_free_of problem (rank_of card)) (left past) card h (and_from _ _ is (eq-eqb (rank_of card) (rank_of card) refl)) in
      let found = found_by (is_free_of problem (rank_of card)) (left_too past) (subst (λ (n : ℕ). 1 ≤ n) (sym (before.counts (rank_of card))) some) in
      let passes = and_parts _ _ found.passes in
      let held = has-filter_parts (λ c. not (has (cards_of (cast past)) c)) other.hold found.card found.held in
      let best = first_is name (4 * (rank_of card - 1)) (open_cards problem (rank_of card) (cards_of (cast past))) found.card
      (has-filter_from (λ c. eqb (rank_of c) (rank_of card) && not (has (cards_of (cast past)) c)) free found.card passes.0 (and_from _ _ passes.1 held.1)) in
      let is_open = has-filter_parts (λ c. eqb (rank_of c) (rank_of card) && not (has (cards_of (cast past)) c)) free
      (next_card problem name (rank_of card) (cards_of (cast past))) best.0 in
      let parts = and_parts _ _ is_open.1 in
      record {
        left_now = has-filter_from (λ c. not (has (cards_of (cast past)) c)) other.hold (next_card problem name (rank_of card) (cards_of (cast past)))
            (of.first found.card (next_card problem name (rank_of card) (cards_of (cast past))) held.0 passes.0 is_open.0
            (eqb-true _ _ parts.0 ∙ sym (eqb-true _ _ passes.1)) best.1) parts.1;
        free_too = is_open.0 ∙ sym is;
        same = λ out. absurd (both_ways _ out is);
      }

  kept_card : (past : List Move) → IsCast past → (card : ℕ) → has (left past) card ≡ true → has free card ≡ false → IsFor past card card
  kept_card past before card h out =
      let parts = has-filter_parts (λ c. not (has (cards_of past) c)) dealt.hold card h in
      let holds = both_hold card (hold_unseen problem of.setup dealt of.deal card parts.0) out in
      record {
        left_now = has-filter_from (λ c. not (has (cards_of (cast past)) c)) other.hold card holds.1 (ap not (before.outside card out) ∙ parts.1);
        free_too = refl;
        same = λ loose. refl;
      }

  opponent_card : (past : List Move) → IsCast past → (card : ℕ) → has (left past) card ≡ true →
      IsFor past card (card_for problem name (cards_of (cast past)) card)
  opponent_card past before card h = elim (cases_Bool (has free card)) [
    | inl is ↦ rw is (free_card past before card h is)
    | inr out ↦ rw out (kept_card past before card h out)
  ]

  -- ---- one turn more
  dealt_one : IsDealt hands
  dealt_one = dealt_is problem of.setup dealt of.deal

  dealt_too : IsDealt others
  dealt_too = dealt_is problem of.setup other of.also

  own_card_kept : (past : List Move) (card : ℕ) → has problem.hold card ≡ true → card_for problem name (cards_of (cast past)) card ≡ card
  own_card_kept past card mine = rw (own_kept card mine) refl

  module _ (past : List Move) (before : IsCast past) where
    -- the next turn of the other deal
    come : {side : Side} (turn new : Move) → mover (pone_of start) (letters_of past) ≡ side → MayCome start hands turn past →
        MayTake others side new (cast past) → MayCome start others new (cast past)
    come turn new who may take = record {
      not_done = ap (is_done start) (recast_letters problem name past) ∙ may.not_done;
      may_take = subst (λ (s : Side). MayTake others s new (cast past)) (sym (ap (mover (pone_of start)) (recast_letters problem name past) ∙ who)) take;
    }

    go_cast : MayCome start others move.Go (cast past) → IsCast (move.Go ∷ past)
    unfolding recast
    go_cast may = record { legal = (before.legal, may); outside = before.outside; counts = before.counts }

    -- no other free card is shown
    outside_too : (card new : ℕ) → has free new ≡ has free card → (has free card ≡ false → new ≡ card) → (k : ℕ) → has free k ≡ false →
        has (cards_of (cast past) ++ new ∷ []) k ≡ has (cards_of past ++ card ∷ []) k
    outside_too card new free_too same k out =
        has_push (cards_of (cast past)) new k ∙ (λ i. before.outside k out i || last i) ∙ sym (has_push (cards_of past) card k)
      where
        last : eqb new k ≡ eqb card k
        last = elim (cases_Bool (has free card)) [
          | inl is ↦ ne_eqb new k (λ e. both_ways _ out (ap (has free) (sym e) ∙ free_too ∙ is))
              ∙ sym (ne_eqb card k (λ e. both_ways _ out (ap (has free) (sym e) ∙ is)))
          | inr loose ↦ ap (λ (n : ℕ). eqb n k) (same loose)
        ]

    with_card : (card new : ℕ) → card_for problem name (cards_of (cast past)) card ≡ new → MayCome start others (move.Card new) (cast past) →
        ((k : ℕ) → has free k ≡ false → has (cards_of (cast past) ++ new ∷ []) k ≡ has (cards_of past ++ card ∷ []) k) →
        ((rank : ℕ) → count_by (is_free_of problem rank) (filter (λ c. not (has (cards_of (cast past) ++ new ∷ []) c)) other.hold)
        ≡ count_by (is_free_of problem rank) (filter (λ c. not (has (cards_of past ++ card ∷ []) c)) dealt.hold)) → IsCast (move.Card card ∷ past)
    unfolding recast
    with_card card new is may outside counts = record {
      legal = (before.legal, subst (λ (n : ℕ). MayCome start others (move.Card n) (cast past)) (sym is) may);
      outside = λ k out. subst (λ (n : ℕ). has (cards_of (cast past) ++ n ∷ []) k ≡ has (cards_of past ++ card ∷ []) k) (sym is) (outside k out);
      counts = λ rank.
          subst (λ (n : ℕ). count_by (is_free_of problem rank) (filter (λ c. not (has (cards_of (cast past) ++ n ∷ []) c)) other.hold)
          ≡ count_by (is_free_of problem rank) (filter (λ c. not (has (cards_of past ++ card ∷ []) c)) dealt.hold)) (sym is) (counts rank);
    }

    own_cast : (card : ℕ) → mover (pone_of start) (letters_of past) ≡ Owner → MayCome start hands (move.Card card) past →
        MayTake hands Owner (move.Card card) past → IsCast (move.Card card ∷ past)
    own_cast card who may take =
        let mine = (has-filter_parts (λ c. not (has (cards_of past) c)) problem.hold card take.0).0 in
        with_card card card (own_card_kept past card mine)
        (come (move.Card card) (move.Card card) who may (
          ap (λ (cards : List ℕ). has cards card) (own_left past before) ∙ take.0,
          fits_same past card card refl ∙ take.1,
        ))
        (outside_too card card refl (λ out. refl))
        (λ rank.
        ap (count_by (is_free_of problem rank)) (filter_absent (λ c. not (has (cards_of (cast past)) c))
        (λ c. not (has (cards_of (cast past) ++ card ∷ []) c)) card (λ k. has_played (cards_of (cast past)) card k) other.hold
        (distinct_apart problem.hold other.hold card dealt_too.distinct mine))
        ∙ before.counts rank
        ∙ sym (ap (count_by (is_free_of problem rank)) (filter_absent (λ c. not (has (cards_of past) c))
        (λ c. not (has (cards_of past ++ card ∷ []) c)) card (λ k. has_played (cards_of past) card k) dealt.hold
        (distinct_apart problem.hold dealt.hold card dealt_one.distinct mine))))

    their_cast : (card : ℕ) → mover (pone_of start) (letters_of past) ≡ Opponent → MayCome start hands (move.Card card) past →
        MayTake hands Opponent (move.Card card) past → IsCast (move.Card card ∷ past)
    unfolding recast
    their_cast card who may take =
        let new = card_for problem name (cards_of (cast past)) card in
        let is = opponent_card past before card take.0 in
        let rank_is = card_rank problem name (cards_of (cast past)) card in
        record {
          legal = (
            before.legal,
            come (move.Card card) (move.Card (card_for problem name (cards_of (cast past)) card)) who may (
              is.left_now,
              fits_same past (card_for problem name (cards_of (cast past)) card) card rank_is ∙ take.1,
            ),
          );
          outside = outside_too card (card_for problem name (cards_of (cast past)) card) is.free_too is.same;
          counts = λ rank.
              let fewer = filter_present_by (is_free_of problem rank) (λ c. not (has (cards_of (cast past)) c))
              (λ c. not (has (cards_of (cast past) ++ card_for problem name (cards_of (cast past)) card ∷ []) c))
              (card_for problem name (cards_of (cast past)) card)
              (λ k. has_played (cards_of (cast past)) (card_for problem name (cards_of (cast past)) card) k) other.hold
              (hold_distinct problem of.setup other of.also) is.left_now in
              let less = filter_present_by (is_free_of problem rank) (λ c. not (has (cards_of past) c))
              (λ c. not (has (cards_of past ++ card ∷ []) c)) card (λ k. has_played (cards_of past) card k) dealt.hold
              (hold_distinct problem of.setup dealt of.deal) take.0 in
              let same : ◌≡◌ {A = ℕ} (cond (is_free_of problem rank (card_for problem name (cards_of (cast past)) card)) 1 0)
              (cond (is_free_of problem rank card) 1 0) = (λ i. cond (is.free_too i && eqb (rank_is i) rank) 1 0) in
              omega (arith, fewer, less, same, before.counts rank);
        }

    turn_cast : (side : Side) (turn : Move) → mover (pone_of start) (letters_of past) ≡ side → MayCome start hands turn past →
        MayTake hands side turn past → IsCast (turn ∷ past)
    turn_cast Owner (move.Card card) who may take = own_cast card who may take
    turn_cast Opponent (move.Card card) who may take = their_cast card who may take
    turn_cast Owner move.Go who may take =
        go_cast (come move.Go move.Go who may ((λ i. list_any (λ card. leb (count_of (pile_of (recast_letters problem name past i)) + card_value card) 31)
        (own_left past before i)) ∙ take))
    turn_cast Opponent move.Go who may take = go_cast (come move.Go move.Go who may (opponent_go past before take))

  -- the record of the other deal is legal
  pub casts : (past : List Move) → IsLegal start hands past → IsCast past
  casts [] legal = cast_start
  casts (turn ∷ past) legal =
      turn_cast past (casts past legal.0) (mover (pone_of start) (letters_of past)) turn refl legal.1 legal.1.may_take
