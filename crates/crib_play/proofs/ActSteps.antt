-- Proves that an act leads from a table that represents some visible turns to one that represents them and the new turn.
use Rattle.std.proofs.Common.{rules}
use Rattle.std.proofs.Common.{◌≡◌, ℕ, ◌+◌, ◌-◌, ◌≤◌, zero, suc, Bool, true, false, cond, not, ltb, List, [], ◌∷◌, ◌++◌, refl, sym, ◌∙◌}
use Rattle.std.proofs.Common.{inl, inr, arith}
use Rattle.std.proofs.lemmas.Bool.Decides.{nat_tests}
use Rattle.std.proofs.lemmas.Bool.{cases_Bool, cond_both, and_parts, eq-eqb, not-true}
use Rattle.std.proofs.Math.Bool.{and-true, and-false}
use Rattle.crib_cards.specs.declared.sides.Side.{Side}
use Rattle.crib_cards.specs.declared.sides.Side.TheVariants.{Owner, Opponent}
use Rattle.crib_cards.specs.Sides.{other_side}
use Rattle.crib_play.specs.declared.turns.Turn.{Turn}
use Rattle.crib_play.specs.Record.{is_begun, count_of}
use Rattle.crib_play.specs.Points.{card_points}
use Rattle.crib_play.specs.Standing.{seat_of}
use Rattle.crib_play.specs.Private.TableChanges.{with_seat, with_go_said, table_after_laying}
use Rattle.crib_play.specs.Private.TableChanges.{with_next_asked, points_of_asking, table_after_play, points_of_play}
use Rattle.crib_play.proofs.RecordStates.{State, closes_at, closes_by_go, step_card, go_open, go_closing, step_go, done, heard_of, is_silent, gos}
use Rattle.crib_play.proofs.RecordStates.{gos_points, face}
use Rattle.crib_play.proofs.SilentGos.{shown, IsSum, other_twice, heard_open_other, heard_open_mover, settled_closing, leads_held, Settles, settles_card}
use Rattle.crib_play.proofs.SilentGos.{settles_go}

-- what holds after each turn of such a record: all eight cards are there, the player of a last go is not heard, and the player of a last card has not said go
pub record IsTurned (s : State) : Type 0 where
  pub total : IsSum s
  pub after_go : s.go_last ≡ true → heard_of s (other_side s.mover) ≡ false
  pub after_card : s.go_last ≡ false → s.said (other_side s.mover) ≡ false

heard_parts : (s : State) (side : Side) → heard_of s side ≡ true → (1 ≤ s.left side) × (s.said side ≡ false)
heard_parts s side h = let p = and_parts (ltb 0 (s.left side)) (not (s.said side)) h in (grind (arith, nat_tests, p.0), not-true (s.said side) p.1)

pub turned_card : (s : State) (rank : ℕ) → IsSum s → heard_of s s.mover ≡ true → IsTurned (step_card s rank)
turned_card s rank total h = search (rules, heard_parts s s.mover h, one_less s.mover, other_twice s.mover, unsaid (closes_at s rank))
  where
    one_less : (m : Side) → 1 ≤ s.left m → IsSum (step_card (record s { mover = m }) rank)
    one_less Owner some = omega arith
    one_less Opponent some = omega arith

    unsaid : (c : Bool) → cond c false false ≡ false
    unsaid c = grind (arith, nat_tests)

pub turned_go : (s : State) → IsTurned s → IsTurned (step_go s)
turned_go s t = search (rules, cond_both (closes_by_go s) (go_closing s) (go_open s), other_twice s.mover, heard_open_mover s s.mover)

pub turned_gos : (n target : ℕ) (s : State) → IsTurned s → IsTurned (gos n target s)
turned_gos zero target s t = t
turned_gos (suc n) target s t =
    cond_both (is_silent target s) (gos n target (step_go s)) s (λ x. IsTurned x) (λ _. turned_gos n target (step_go s) (turned_go s t)) (λ _. t)

cards_before : (s : State) → IsSum s → 8 - (s.left Owner + s.left Opponent) ≡ s.played
cards_before s total = omega arith

-- a card that is played on the table is the next turn of the record
laid_face : (target : ℕ) (s : State) (turn : Turn) (rank : ℕ) (m : Side) → IsSum s → s.said m ≡ false →
    table_after_laying (face target s turn) m rank ≡ face target (step_card (record s { mover = m }) rank) turn
laid_face target s turn rank Owner total said = grind (arith, nat_tests, cards_before s total, and-true)
laid_face target s turn rank Opponent total said = grind (arith, nat_tests, cards_before s total, and-true)

-- a go that is said at the table is the next turn of the record
pub passed_face : (target : ℕ) (s : State) (turn : Turn) (m : Side) →
    with_seat (face target s turn) m (with_go_said (seat_of (face target s turn) m)) ≡ face target (go_open (record s { mover = m })) turn
passed_face target s turn Owner = simp and-false
passed_face target s turn Opponent = simp and-false

none_left : (s : State) (side : Side) → s.said side ≡ false → heard_of s side ≡ false → s.left side ≡ 0
none_left s side said e = let none = rw said at e in grind (arith, nat_tests, none)

-- where no go is in this count and the deal is not done, some side is heard
some_heard : (target : ℕ) (s : State) (m : Side) → IsSum s → done target s ≡ false → ((side : Side) → s.said side ≡ false) →
    heard_of s (other_side m) ≡ false → heard_of s m ≡ false → ⊥
some_heard target s m total d said other mine =
    search (rules, eq-eqb s.played 8 (eight m (none_left s (other_side m) (said (other_side m)) other) (none_left s m (said m) mine)))
  where
    eight : (side : Side) → s.left (other_side side) ≡ 0 → s.left side ≡ 0 → s.played ≡ 8
    eight Owner a b = omega arith
    eight Opponent a b = omega arith

begun_push : (pile : List ℕ) (rank : ℕ) → is_begun (pile ++ rank ∷ []) ≡ true
begun_push [] rank = refl
begun_push (first ∷ pile) rank = refl

pub begun_count : (pile : List ℕ) → 22 ≤ count_of pile → is_begun pile ≡ true
begun_count [] high = absurd (omega arith)
begun_count (first ∷ pile) high = refl

-- ---- a card
card_settles : (target : ℕ) (s : State) (turn : Turn) (rank : ℕ) → IsSum s → heard_of s s.mover ≡ true → Settles target (step_card s rank) turn s.mover
card_settles target s turn rank total h =
    let t = turned_card s rank total h in
    settles_card target (step_card s rank) turn s.mover t.total refl refl
    (λ d a b. elim (cases_Bool (closes_at s rank)) [
      | inl c ↦ absurd (some_heard target (step_card s rank) s.mover t.total d (λ side. rw c refl) a b)
      | inr c ↦ rw c (begun_push s.pile rank)
    ])

-- the table after a card and its silent gos, and their points
pub card_settled : (target : ℕ) (s : State) (turn : Turn) (rank : ℕ) → IsSum s → heard_of s s.mover ≡ true →
    (shown target (gos 3 target (step_card s rank)) ≡ table_after_play (face target s turn) s.mover rank)
    × (gos_points 3 target (step_card s rank) + card_points s.played (s.pile ++ rank ∷ []) ≡ points_of_play (face target s turn) s.mover rank)
card_settled target s turn rank total h =
    search (rules, card_settles target s turn rank total h, laid_face target s turn rank s.mover total (heard_parts s s.mover h).1, cards_before s total)

-- ---- a go
pub record GoSettles (target : ℕ) (s : State) (turn : Turn) : Type 0 where
  pub table : shown target (gos 3 target (step_go s)) ≡ with_next_asked (face target (go_open s) turn) s.mover
  pub points : cond (closes_by_go s) 1 0 + gos_points 3 target (step_go s) ≡ points_of_asking (face target (go_open s) turn) s.mover

pub go_settles : (target : ℕ) (s : State) (turn : Turn) → IsTurned s → done target s ≡ false → heard_of s s.mover ≡ true →
    is_begun s.pile ≡ true → GoSettles target s turn
go_settles target s turn t d h begun =
    let held : heard_of (go_closing s) s.mover ≡ true = rw ((and_parts (ltb 0 (s.left s.mover)) (not (s.said s.mover)) h).0) refl in
    let out = heard_open_mover s s.mover refl in
    let other = heard_open_other s (other_side s.mover) (sym (other_twice s.mover)) in
    elim (cases_Bool (closes_by_go s)) [
      | inl c ↦
          let led = leads_held target (go_closing s) s.mover refl refl held in
          let closed = settled_closing target (go_open s) turn s.mover t.total d (other ∙ t.after_go (and_parts s.go_last (is_begun s.pile) c).0) out in
          record { table = rw c (led.0 ∙ sym closed.0); points = rw (c, led.1, closed.1) refl }
      | inr c ↦
          let silent : s.said (other_side s.mover) ≡ false = t.after_card (sym (and-true s.go_last) ∙ (rw begun at c)) in
          let settles = settles_go target (go_open s) turn s.mover t.total refl begun out held (λ e. rw silent at (sym other ∙ e)) in
          record { table = rw c settles.table; points = rw c (omega (arith, settles.points)) }
    ]
