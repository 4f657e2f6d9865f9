-- The dealer scores a point in the play, once all eight cards are played: the pone leads, so the last card of all or of some pile is the dealer's.
use Rattle.std.proofs.Common.{◌≡◌, ◌⊎◌, ℕ, ◌+◌, ◌≤◌, ◌<◌, Bool, true, false, not, ◌&&◌, cond, List, [], ◌∷◌, ◌++◌, length, length-append}
use Rattle.std.proofs.Common.{refl, sym, ap, subst, ◌∙◌, inl, inr, arith}
use Rattle.std.proofs.lemmas.Bool.Decides.{nat_tests}
use Rattle.std.proofs.lemmas.Bool.{cases_Bool, cases_lt, and_parts, both_ways, ltb-true, not-true}
use Rattle.std.proofs.Math.Bool.{or-true}
use Rattle.crib_cards.specs.Cards.{rank_of}
use Rattle.crib_cards.specs.Letters.{letter_of}
use Rattle.crib_cards.specs.Sides.{other_side, same_side}
use Rattle.crib_cards.specs.Start.{Start, Hands, pone_of}
use Rattle.crib_cards.specs.declared.sides.Side.{Side}
use Rattle.crib_cards.specs.declared.sides.Side.TheVariants.{Owner, Opponent}
use Rattle.crib_cards.specs.declared.letters.Letter.{Letter}
use Rattle.crib_cards.specs.declared.letters.Letter.TheVariants.{Seen, Go}
use Rattle.crib_cards.specs.declared.moves.Move.{Move}
use Rattle.crib_cards.specs.declared.moves.Move.TheVariants as move
use Rattle.crib_play.specs.Legal.{IsDealt, IsLegal, MayTake, letters_of}
use Rattle.crib_play.specs.Points.{last_player, points_for}
use Rattle.crib_play.specs.Record.{Record, cards_in, cards_played, closes, has_said_go, is_begun, is_heard, mover, pile_of, sequence_of}
use Rattle.crib_play.proofs.RecordBounds.{out_of_cards, played_both}
use Rattle.crib_play.proofs.RecordStates.{closes-go, first_card, is_go_first}
use Rattle.crib_play.proofs.SilentGos.{other_twice}
use Rattle.crib_play.proofs.TurnFacts.{heard_card, play_of, played_card, played_go, same_is, same_self}

-- ---- the sides
apart : (side : Side) → (same_side side (other_side side) ≡ false) × (same_side (other_side side) side ≡ false)
apart Owner = (refl, refl)
apart Opponent = (refl, refl)

other_is : (a b : Side) → same_side a b ≡ false → a ≡ other_side b
other_is Owner Owner e = cc
other_is Owner Opponent e = refl
other_is Opponent Owner e = refl
other_is Opponent Opponent e = cc

module _ (pone : Side) where
  abbrev dealer : Side
  dealer = other_side pone

  -- how many cards the pone and the dealer have played
  abbrev pones : Record → ℕ
  pones past = cards_played pone pone past

  abbrev dealers : Record → ℕ
  dealers past = cards_played pone dealer past

  -- the dealer has scored
  abbrev HasScored : Record → Type 0
  HasScored past = 1 ≤ points_for pone dealer past

  -- the pone has played as many cards as the dealer, or more. They have played more unless they are to move and the dealer hasn't just said go
  abbrev IsAhead : Record → Type 0
  IsAhead past = dealers past + cond (same_side (mover pone past) pone && not (is_go_first (sequence_of past))) 0 1 ≤ pones past

  -- the pone has said go over a pile of which the last card is the dealer's
  record IsStuck (past : Record) : Type 0 where
    said : has_said_go pone pone past ≡ true
    last : last_player pone past ≡ dealer
    begun : is_begun (pile_of past) ≡ true

  abbrev Waits : Record → Type 0
  Waits past = IsAhead past ⊎ (IsStuck past ⊎ (pones past ≡ 4))

  -- the dealer has scored, or will
  abbrev WillScore : Record → Type 0
  WillScore past = HasScored past ⊎ ((length (cards_in past) ≤ 7) × Waits past)

  total_is : (past : Record) → length (cards_in past) ≡ pones past + dealers past
  total_is past = total_of pone past
    where
      total_of : (side : Side) (past : Record) → length (cards_in past) ≡ cards_played pone side past + cards_played pone (other_side side) past
      total_of Owner past = played_both pone past
      total_of Opponent past = omega (arith, played_both pone past)

  begun_more : (pile : List ℕ) (rank : ℕ) → is_begun pile ≡ true → is_begun (pile ++ rank ∷ []) ≡ true
  begun_more [] rank begun = absurd (both_ways false refl begun)
  begun_more (first ∷ pile) rank begun = refl

  -- who has said go or played all cards has no card to play
  never_heard : (past : Record) → is_heard pone pone past ≡ true → has_said_go pone pone past ≡ true → ⊥
  never_heard past heard said = absurd (both_ways _ (not-true _ (and_parts _ _ heard).1) said)

  few_heard : (past : Record) → is_heard pone pone past ≡ true → pones past < 4
  few_heard past heard = ltb-true _ 4 (and_parts _ _ heard).0

  -- what the pone and the dealer have played after a go of the dealer
  at_most_one : (few many : ℕ) (b : Bool) → few + 1 ≤ many → few + cond b 0 1 ≤ many
  at_most_one few many true fewer = omega (arith, fewer)
  at_most_one few many false fewer = omega (arith, fewer)

  -- the last card of a pile whose last turn is a card is that of the side that is not to move
  last_is : (past : Record) → is_go_first (sequence_of past) ≡ false → is_begun (pile_of past) ≡ true → last_player pone past ≡ other_side (mover pone past)
  last_is [] card begun = absurd (both_ways false refl begun)
  last_is (Seen rank ∷ past) card begun = sym (other_twice (mover pone past))
  last_is (Go ∷ past) card begun = elim (cases_Bool (closes Go past)) [
    | inl shut ↦ absurd (both_ways false refl (rw shut at begun))
    | inr stays ↦ absurd (both_ways true (rw stays at card) refl)
  ]

  -- ---- points
  scored_before : (turn : Letter) (past : Record) → HasScored past → HasScored (turn ∷ past)
  scored_before turn past scored = omega (arith, scored)

  by_last_card : (rank : ℕ) (past : Record) → mover pone past ≡ dealer → length (cards_in past) ≡ 7 → HasScored (Seen rank ∷ past)
  by_last_card rank past is all = rw (is, all, same_self dealer) (grind (arith, nat_tests))

  by_31 : (rank : ℕ) (past : Record) → mover pone past ≡ dealer → closes (Seen rank) past ≡ true → HasScored (Seen rank ∷ past)
  by_31 rank past is shut = rw (is, shut, same_self dealer) (grind (arith, nat_tests, shut))

  by_go : (past : Record) → last_player pone past ≡ dealer → closes Go past ≡ true → HasScored (Go ∷ past)
  by_go past is shut = rw (is, shut, same_self dealer) (omega arith)

  -- ---- one more turn
  -- a card of the dealer
  module _ (rank : ℕ) (past : Record) (is : mover pone past ≡ dealer) (few : length (cards_in past) ≤ 6) where
    after_dealer : Waits past → WillScore (Seen rank ∷ past)
    after_dealer waits =
        let total = length-append (cards_in past) (rank ∷ []) in
        elim (cases_Bool (closes (Seen rank) past)) [
          | inl shut ↦ inl (by_31 rank past is shut)
          | inr stays ↦ inr (
            omega (arith, total, few),
            elim waits [
              | inl ahead ↦ inl (
                  let mine = played_card pone dealer past rank in
                  let theirs = played_card pone pone past rank in
                  let first = first_card (closes (Seen rank) past) rank (sequence_of past) in
                  let before : dealers past + 1 ≤ pones past = rw (is, (apart pone).1) at ahead in
                  rw (mine, theirs, first, is, same_self dealer, other_twice pone, same_self pone, (apart pone).1) (omega (arith, before)))
              | inr (inl stuck) ↦ inr (inl (record {
                said = rw stays stuck.said;
                last = is;
                begun = rw stays (begun_more (pile_of past) rank stuck.begun);
              }))
              | inr (inr out) ↦ inr (inr (rw (played_card pone pone past rank, is, (apart pone).1) out))
            ],
          )
        ]

  -- a card of the pone, who has another one to play
  after_pone : (rank : ℕ) (past : Record) → mover pone past ≡ pone → is_heard pone pone past ≡ true → Waits past → WillScore (Seen rank ∷ past)
  after_pone rank past is heard waits =
      let total = length-append (cards_in past) (rank ∷ []) in
      let all = total_is past in
      elim waits [
        | inl ahead ↦
            let mine = played_card pone dealer past rank in
            let theirs = played_card pone pone past rank in
            let few = few_heard past heard in
            let before : dealers past ≤ pones past = grind (arith, nat_tests, ahead) in
            inr (omega (arith, total, all, few, before), inl (rw (mine, theirs, is, same_self pone, (apart pone).0, (apart pone).1) (omega (arith, before))))
        | inr (inl stuck) ↦ absurd (never_heard past heard stuck.said)
        | inr (inr out) ↦ absurd (omega (arith, out, few_heard past heard))
      ]

  -- a go
  module _ (past : Record) (few : length (cards_in past) ≤ 7) where
    go_stuck : IsStuck past → WillScore (Go ∷ past)
    go_stuck stuck = elim (cases_Bool (closes Go past)) [
      | inl shut ↦ inl (by_go past stuck.last shut)
      | inr stays ↦ inr (
        few,
        inr (inl (record {
          said = rw (stays, stuck.said) (or-true _);
          last = stuck.last;
          begun = rw stays stuck.begun;
        })),
      )
    ]

    go_out : pones past ≡ 4 → WillScore (Go ∷ past)
    go_out out = inr (few, inr (inr (played_go pone pone past ∙ out)))

    -- of the dealer
    go_dealer : mover pone past ≡ dealer → Waits past → WillScore (Go ∷ past)
    go_dealer is waits = elim waits [
      | inl ahead ↦
          let before : dealers past + 1 ≤ pones past = rw (is, (apart pone).1) at ahead in
          inr (few, inl (rw (played_go pone dealer past, played_go pone pone past) (at_most_one _ _ _ before)))
      | inr (inl stuck) ↦ go_stuck stuck
      | inr (inr out) ↦ go_out out
    ]

    -- of the pone, who has no card left if the pile has none
    go_pone : mover pone past ≡ pone → (is_begun (pile_of past) ≡ false → pones past ≡ 4) →
        closes Go past ≡ (is_go_first (sequence_of past) && is_begun (pile_of past)) → Waits past → WillScore (Go ∷ past)
    go_pone is empty shut waits = elim waits [
      | inl ahead ↦ elim (cases_Bool (is_go_first (sequence_of past))) [
        | inl went ↦
            let before : dealers past + 1 ≤ pones past = rw (is, went, same_self pone) at ahead in
            inr (few, inl (rw (played_go pone dealer past, played_go pone pone past, is, (apart pone).1) before))
        | inr card ↦ elim (cases_Bool (is_begun (pile_of past))) [
          | inl begun ↦
              let stays : closes Go past ≡ false = shut ∙ ap (λ (b : Bool). b && is_begun (pile_of past)) card in
              inr (
                few,
                inr (inl (record {
                  said = rw (stays, is, same_self pone) refl;
                  last = last_is past card begun ∙ ap other_side is;
                  begun = rw stays begun;
                })),
              )
          | inr none ↦ go_out (empty none)
        ]
      ]
      | inr (inl stuck) ↦ go_stuck stuck
      | inr (inr out) ↦ go_out out
    ]

-- ---- legal records
module _ (start : Start) (hands : Hands) (dealt : IsDealt hands) where
  abbrev pone : Side
  pone = pone_of start

  will : (played : List Move) → IsLegal start hands played → WillScore pone (letters_of played)
  will [] legal = inr (omega arith, inl (rw (same_self pone) (omega arith)))
  will (turn ∷ past) legal = elim (will past legal.0) [
    | inl scored ↦ inl (scored_before pone (letter_of turn) (letters_of past) scored)
    | inr (few, waits) ↦ elim (cases_Bool (same_side (mover pone (letters_of past)) pone)) [
      | inl same ↦ by_pone turn past legal (same_is _ _ same) few waits
      | inr other ↦ by_dealer turn past legal (other_is _ _ other) few waits
    ]
  ]
    where
      by_pone : (turn : Move) (past : List Move) → IsLegal start hands (turn ∷ past) → mover pone (letters_of past) ≡ pone →
          length (cards_in (letters_of past)) ≤ 7 → Waits pone (letters_of past) → WillScore pone (letters_of (turn ∷ past))
      by_pone (move.Card card) past legal is few waits =
          let may : MayTake hands pone (move.Card card) past = subst (λ (side : Side). MayTake hands side (move.Card card) past) is legal.1.may_take in
          after_pone pone (rank_of card) (letters_of past) is
          (heard_card start hands past (play_of start hands dealt past legal.0) pone card may.0 may.1) waits
      by_pone move.Go past legal is few waits =
          let may : MayTake hands pone move.Go past = subst (λ (side : Side). MayTake hands side move.Go past) is legal.1.may_take in
          go_pone pone (letters_of past) few is
          (λ none. omega (arith, out_of_cards hands pone past none may, (play_of start hands dealt past legal.0).left pone))
          (closes-go start (letters_of past)) waits

      by_dealer : (turn : Move) (past : List Move) → IsLegal start hands (turn ∷ past) → mover pone (letters_of past) ≡ dealer pone →
          length (cards_in (letters_of past)) ≤ 7 → Waits pone (letters_of past) → WillScore pone (letters_of (turn ∷ past))
      by_dealer (move.Card card) past legal is few waits = elim (cases_lt (length (cards_in (letters_of past))) 7) [
        | inl fewer ↦ after_dealer pone (rank_of card) (letters_of past) is (omega (arith, fewer)) waits
        | inr all ↦ inl (by_last_card pone (rank_of card) (letters_of past) is (omega (arith, few, all)))
      ]
      by_dealer move.Go past legal is few waits = go_dealer pone (letters_of past) few is waits

  -- once all cards are played the dealer has scored
  pub dealer_pegs : (played : List Move) → IsLegal start hands played → length (cards_in (letters_of played)) ≡ 8 →
      1 ≤ points_for pone (other_side pone) (letters_of played)
  dealer_pegs played legal all = elim (will played legal) [
    | inl scored ↦ scored
    | inr (few, waits) ↦ absurd (omega (arith, few, all))
  ]
