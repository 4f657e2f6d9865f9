-- Proves that the silent gos after a visible turn lead to the table that `with_next_asked` says.
use Rattle.std.proofs.Common.{rules}
use Rattle.std.proofs.Common.{◌≡◌, ℕ, ◌+◌, suc, true, false, cond, ◌&&◌, ◌||◌, eqb, ltb, refl, sym, ap, ◌∙◌, inl, inr, arith}
use Rattle.std.proofs.lemmas.Bool.Decides.{nat_tests}
use Rattle.std.proofs.lemmas.Bool.{cases_Bool}
use Rattle.std.proofs.Math.Bool.{and-true, and-false}
use Rattle.crib_cards.specs.declared.sides.Side.{Side}
use Rattle.crib_cards.specs.declared.sides.Side.TheVariants.{Owner, Opponent}
use Rattle.crib_cards.specs.Sides.{other_side, same_side, are_decided}
use Rattle.crib_play.specs.declared.turns.Turn.{Turn}
use Rattle.crib_play.specs.declared.turns.Turn.TheVariants as turns
use Rattle.crib_play.specs.Record.{is_begun}
use Rattle.crib_play.specs.Score.{side_asked}
use Rattle.crib_play.specs.Standing.{Standing, seat_of}
use Rattle.crib_play.specs.Private.TableChanges.{is_over, table_after_close, with_points, with_next_asked, points_of_asking}
use Rattle.crib_play.proofs.RecordStates.{State, closes_by_go, go_open, go_closing, done, heard_of, is_silent, gos, gos_points, face, asked_of}
use Rattle.crib_play.proofs.TurnFacts.{same_self}

abbrev pub shown : ℕ → State → Standing
shown target s = face target s (asked_of target s)

-- the cards played and those left are eight together
abbrev pub IsSum : State → Type 0
IsSum s = s.played + (s.left Owner + s.left Opponent) ≡ 8

pub other_twice : (o : Side) → other_side (other_side o) ≡ o
other_twice Owner = refl
other_twice Opponent = refl

apart : (o : Side) → same_side (other_side o) o ≡ false
apart Owner = refl
apart Opponent = refl

-- a go of one side leaves the other side heard or not, and its own side is not heard after it
pub heard_open_other : (s : State) (m : Side) → s.mover ≡ other_side m → heard_of (go_open s) m ≡ heard_of s m
heard_open_other s m is = rw (is, apart m) refl

pub heard_open_mover : (s : State) (o : Side) → s.mover ≡ o → heard_of (go_open s) o ≡ false
heard_open_mover s o is = rw (is, same_self o) (and-false (ltb 0 (s.left o)))

-- a go of a side that is not heard changes nothing on the table
face_open : (target : ℕ) (s : State) (turn : Turn) (o : Side) → s.mover ≡ o → heard_of s o ≡ false → face target (go_open s) turn ≡ face target s turn
face_open target s turn o is e = grind (arith, nat_tests)

-- ---- what `with_next_asked` says
over_is : (target : ℕ) (s : State) (turn : Turn) → IsSum s → is_over (face target s turn) ≡ done target s
over_is target s turn total = ap (λ b. are_decided target s.scores || b) (no_card_left s.played (s.left Owner) (s.left Opponent) total)
  where
    no_card_left : (n a b : ℕ) → n + (a + b) ≡ 8 → (eqb a 0 && eqb b 0) ≡ eqb n 8
    no_card_left n a b e = grind (arith, nat_tests)

pub seat_heard : (target : ℕ) (s : State) (turn : Turn) (side : Side) → (seat_of (face target s turn) side).may_be_asked ≡ heard_of s side
seat_heard target s turn Owner = refl
seat_heard target s turn Opponent = refl

-- what the table shows after a close by gos
closed_face : (target : ℕ) (s : State) (turn : Turn) → table_after_close (with_points (face target s turn) s.last 1) ≡ face target (go_closing s) turn
closed_face target s turn = simp and-true

-- whom the rules ask in a new count
abbrev lead : ℕ → State → Side → Turn
lead target s m = cond (done target s) turns.Over (cond (heard_of s (other_side m)) (side_asked (other_side m)) (side_asked m))

-- where neither side is heard, the count closes
pub settled_closing : (target : ℕ) (s : State) (turn : Turn) (m : Side) → IsSum s → done target s ≡ false → heard_of s (other_side m) ≡ false →
    heard_of s m ≡ false → (with_next_asked (face target s turn) m ≡ face target (go_closing s) (lead target (go_closing s) m))
    × (points_of_asking (face target s turn) m ≡ 1)
settled_closing target s turn m total d h g =
    let over = over_is target s turn total ∙ d in
    let other = seat_heard target s turn (other_side m) ∙ h in
    let mine = seat_heard target s turn m ∙ g in (
      rw (over, other, mine, closed_face target s turn, over_is target (go_closing s) turn total, seat_heard target (go_closing s) turn (other_side m))
          (simp and-true),
      rw (over, other, mine) refl,
    )

-- ---- the table after the silent gos
-- after a close, at most one more silent go follows
module _ (target : ℕ) (s : State) (m : Side) (is : s.mover ≡ other_side m) (no_go : s.go_last ≡ false) where
  leads : (n : ℕ) → gos n target (go_open s) ≡ go_open s → gos_points n target (go_open s) ≡ 0 →
      (shown target (gos (suc n) target s) ≡ face target s (lead target s m)) × (gos_points (suc n) target s ≡ 0)
  leads n stops none =
      elim (cases_Bool (done target s)) [
        | inl d ↦ let quiet : is_silent target s ≡ false = rw (d, and-false) refl in (rw (quiet, d) refl, rw quiet refl)
        | inr d ↦ elim (cases_Bool (heard_of s (other_side m))) [
          | inl h ↦ let quiet : is_silent target s ≡ false = rw (is, h) refl in
              (rw (quiet, d, is, h) (refl {a = face target s (side_asked (other_side m))}), rw quiet refl)
          | inr h ↦ let silent : is_silent target s ≡ true = rw (is, h, d) refl in (
            rw (silent, no_go, stops, d, h)
                (ap (λ x. face target (go_open s) (side_asked x)) (ap other_side is ∙ other_twice m) ∙ face_open target s (side_asked m) (other_side m) is h),
            rw (silent, no_go, none) refl,
          )
        ]
      ]

  pub leads_held : heard_of s m ≡ true → (shown target (gos 3 target s) ≡ face target s (lead target s m)) × (gos_points 3 target s ≡ 0)
  leads_held g = let held : is_silent target (go_open s) ≡ false = rw (is, other_twice m, apart m, g) refl in leads 2 (rw held refl) (rw held refl)

-- the table after the gos, and their points, are what `with_next_asked` says
pub record Settles (target : ℕ) (s : State) (turn : Turn) (m : Side) : Type 0 where
  pub table : shown target (gos 3 target s) ≡ with_next_asked (face target s turn) m
  pub points : gos_points 3 target s ≡ points_of_asking (face target s turn) m

module _ (target : ℕ) (s : State) (turn : Turn) (m : Side) (total : IsSum s) (is : s.mover ≡ other_side m) where
  settles_over : done target s ≡ true → Settles target s turn m
  settles_over d = search (rules, and-false, over_is target s turn total)

  module _ (d : done target s ≡ false) where
    over : is_over (face target s turn) ≡ false
    over = over_is target s turn total ∙ d

    settles_other : heard_of s (other_side m) ≡ true → Settles target s turn m
    settles_other h = search (rules, seat_heard target s turn (other_side m), over)

    module _ (h : heard_of s (other_side m) ≡ false) where
      silent : is_silent target s ≡ true
      silent = rw (is, h, d) refl

      -- the other side's silent go is no close, and the first side is heard
      settles_same : closes_by_go s ≡ false → heard_of s m ≡ true → Settles target s turn m
      settles_same no_go g =
          let held : is_silent target (go_open s) ≡ false = rw (is, other_twice m, apart m, g) refl in
          let other = seat_heard target s turn (other_side m) ∙ h in
          let mine = seat_heard target s turn m ∙ g in
          record {
            table = rw (silent, no_go, held, over, other, mine, d)
                (ap (λ x. face target (go_open s) (side_asked x)) (ap other_side is ∙ other_twice m) ∙ face_open target s (side_asked m) (other_side m) is h);
            points = rw (silent, no_go, held, over, other, mine) refl;
          }

      module _ (g : heard_of s m ≡ false) where
        -- two silent gos close the count
        settles_twice : closes_by_go s ≡ false → is_begun s.pile ≡ true → Settles target s turn m
        settles_twice no_go begun =
            let second : is_silent target (go_open s) ≡ true = rw (is, other_twice m, apart m, g, d) refl in
            let closed = settled_closing target s turn m total d h g in
            let led = leads target (go_closing (go_open s)) m (ap other_side (ap other_side is ∙ other_twice m)) refl 0 refl refl in
            record { table = rw (silent, no_go, second, begun) (led.0 ∙ sym closed.0); points = rw (silent, no_go, second, begun, led.1, closed.1) refl }

        -- one silent go closes the count
        settles_once : closes_by_go s ≡ true → heard_of (go_closing s) (other_side m) ≡ false → heard_of (go_closing s) m ≡ true → Settles target s turn m
        settles_once closing away held =
            let closed = settled_closing target s turn m total d h g in
            let stops : is_silent target (go_closing s) ≡ false = rw (is, other_twice m, held) refl in
            let asked : asked_of target (go_closing s) ≡ lead target (go_closing s) m = rw (away, is, other_twice m) refl in
            record {
              table = rw (silent, closing, stops) (ap (face target (go_closing s)) asked ∙ sym closed.0);
              points = rw (silent, closing, stops, closed.1) (refl {a = 1});
            }

  -- the same after a card
  pub settles_card : s.go_last ≡ false → (done target s ≡ false → heard_of s (other_side m) ≡ false → heard_of s m ≡ false → is_begun s.pile ≡ true) →
      Settles target s turn m
  settles_card no_go begun =
      let no_close : closes_by_go s ≡ false = rw no_go refl in
      elim (cases_Bool (done target s)) [
        | inl d ↦ settles_over d
        | inr d ↦ elim (cases_Bool (heard_of s (other_side m))) [
          | inl h ↦ settles_other d h
          | inr h ↦ elim (cases_Bool (heard_of s m)) [ inl g ↦ settles_same d h no_close g | inr g ↦ settles_twice d h g no_close (begun d h g) ]
        ]
      ]

  -- the same after a go that is no close
  pub settles_go : closes_by_go s ≡ true → heard_of s m ≡ false → heard_of (go_closing s) m ≡ true →
      (heard_of s (other_side m) ≡ false → heard_of (go_closing s) (other_side m) ≡ false) → Settles target s turn m
  settles_go closing g held away = search (rules, settles_over, settles_other, settles_once)
