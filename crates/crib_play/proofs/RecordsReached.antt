-- Lemmas about the filled record of visible turns, turn by turn.
use Rattle.std.proofs.Common.{rules}
use Rattle.std.proofs.Common.{◌≡◌, ℕ, ◌+◌, ◌≤◌, Bool, true, false, cond, List, [], ◌∷◌, refl, sym, ap, ◌∙◌}
use Rattle.std.proofs.Common.{arith}
use Rattle.crib_cards.specs.Cards.{rank_value}
use Rattle.crib_cards.specs.declared.sides.Side.{Side}
use Rattle.crib_cards.specs.declared.sides.Side.TheVariants.{Owner, Opponent}
use Rattle.crib_cards.specs.declared.letters.Letter.{Letter}
use Rattle.crib_cards.specs.declared.letters.Letter.TheVariants.{Seen, Go}
use Rattle.crib_cards.specs.Start.{Start, pone_of}
use Rattle.crib_play.specs.declared.turns.Turn.TheVariants as turns
use Rattle.crib_play.specs.Record.{Record, count_of, pile_of, mover}
use Rattle.crib_play.specs.Points.{turn_points, points_in}
use Rattle.crib_play.specs.Score.{side_asked, asked_after, is_done}
use Rattle.crib_play.specs.Filled.{filled_record, with_silent_gos, points_added}
use Rattle.crib_play.specs.Standing.{Standing, standing_after, MayFollow, AreTaken, IsStart, StandsFor, seat_of}
use Rattle.crib_play.specs.Private.TableChanges.{with_seat, with_go_said, with_next_asked, points_of_asking, table_after_play, points_of_play, table_after_go}
use Rattle.crib_play.specs.Private.TableChanges.{points_of_go}
use Rattle.crib_play.proofs.RecordStates.{State, state_after, step_card, step_go, done, heard_of, gos, gos_points, asked_of, state_after-card}
use Rattle.crib_play.proofs.RecordStates.{state_after-go, state_after-gos, points_in-gos, standing_after-state, closes-go}
use Rattle.crib_play.specs.Sound.{IsSound}
use Rattle.crib_play.proofs.SoundLemmas.{sound_played, sound_passed, sound_heard}
use Rattle.crib_play.proofs.SilentGos.{shown, seat_heard}
use Rattle.crib_play.proofs.ActSteps.{IsTurned, turned_card, turned_go, turned_gos, passed_face, begun_count, card_settled, go_settles}

-- ---- the filled record of visible turns
pub never_over : (side : Side) → turns.Over ≡ side_asked side → ⊥
never_over Owner e = cc
never_over Opponent e = cc

-- the side that is asked is the side to move, and the deal is not done
pub asked_mover : (start : Start) (past : Record) (side : Side) → asked_after start past ≡ side_asked side → (is_done start past ≡ false) ×
    (mover (pone_of start) past ≡ side)
asked_mover start past side e = search (rules, never_over side, same (mover (pone_of start) past) side)
  where
    same : (a b : Side) → side_asked a ≡ side_asked b → a ≡ b
    same Owner Owner e = refl
    same Owner Opponent e = cc
    same Opponent Owner e = cc
    same Opponent Opponent e = refl

-- what holds of the filled record of visible turns that may follow one another
pub record Reached (start : Start) (past : Record) : Type 0 where
  pub turned : IsTurned (state_after start past)
  pub sound : IsSound (standing_after start past)

-- such a record where the deal is not done: the side to move is heard
pub record Open (start : Start) (past : Record) : Type 0 where
  pub not_done : done start.target (state_after start past) ≡ false
  pub held : heard_of (state_after start past) (mover (pone_of start) past) ≡ true
  pub turned : IsTurned (state_after start past)

pub open_after : (start : Start) (past : Record) → Reached start past → is_done start past ≡ false → Open start past
open_after start past r d = search (rules, seat_heard start.target, sound_heard, standing_after-state start past)

-- with one more turn and its silent gos, such a record shows this table, and has so many points more
record Adds (start : Start) (turn : Letter) (past : Record) (after : Standing) (more : ℕ) : Type 0 where
  table : standing_after start (with_silent_gos 3 start (turn ∷ past)) ≡ after
  points : points_in (with_silent_gos 3 start (turn ∷ past)) ≡ more + points_in past

adds : (start : Start) (turn : Letter) (past : Record) (next : State) (after : Standing) (more : ℕ) → state_after start (turn ∷ past) ≡ next →
    shown start.target (gos 3 start.target next) ≡ after → gos_points 3 start.target next + turn_points turn past ≡ more → Adds start turn past after more
adds start turn past next after more is shows gives = record {
  table =
      standing_after-state start (with_silent_gos 3 start (turn ∷ past))
      ∙ ap (shown start.target) (state_after-gos 3 start (turn ∷ past) ∙ ap (gos 3 start.target) is)
      ∙ shows;
  points = omega (arith, points_in-gos 3 start (turn ∷ past), ap (gos_points 3 start.target) is, gives);
}

-- such a record after one more card, and after one more go
card_adds : (start : Start) (past : Record) (rank : ℕ) → Open start past →
    Adds start (Seen rank) past (table_after_play (standing_after start past) (mover (pone_of start) past) rank)
    (points_of_play (standing_after start past) (mover (pone_of start) past) rank)
card_adds start past rank o =
    let s = state_after start past in
    let same = sym (standing_after-state start past) in
    let settled = card_settled start.target s (asked_of start.target s) rank o.turned.total o.held in
    adds start (Seen rank) past (step_card s rank) _ _ (state_after-card start past rank)
    (settled.0 ∙ ap (λ x. table_after_play x s.mover rank) same) (settled.1 ∙ ap (λ x. points_of_play x s.mover rank) same)

go_adds : (start : Start) (past : Record) → Open start past → 22 ≤ count_of (pile_of past) →
    Adds start Go past (table_after_go (standing_after start past) (mover (pone_of start) past))
    (points_of_go (standing_after start past) (mover (pone_of start) past))
go_adds start past o high =
    let s = state_after start past in
    let turn = asked_of start.target s in
    let said = sym (ap (λ x. with_seat x s.mover (with_go_said (seat_of x s.mover))) (standing_after-state start past)
    ∙ passed_face start.target s turn s.mover) in
    let settled = go_settles start.target s turn o.turned o.not_done o.held (begun_count s.pile high) in
    adds start Go past (step_go s) _ _ (state_after-go start past) (settled.table ∙ ap (λ x. with_next_asked x s.mover) said)
    (omega (arith, ap {B = ℕ} (λ (c : Bool). cond c 1 0) (closes-go start past), settled.points, ap (λ x. points_of_asking x s.mover) said))

reached_more : (start : Start) (turn : Letter) (past : Record) (next : State) (after : Standing) (more : ℕ) → state_after start (turn ∷ past) ≡ next →
    IsTurned next → Adds start turn past after more → IsSound after → Reached start (with_silent_gos 3 start (turn ∷ past))
reached_more start turn past next after more is turned added sound =
    search (rules, state_after-gos 3 start (turn ∷ past), turned_gos 3 start.target next turned)

reached_turn : (start : Start) (turn : Letter) (past : Record) → MayFollow start turn past → Reached start past →
    Reached start (with_silent_gos 3 start (turn ∷ past))
reached_turn start (Seen rank) past may r =
    let o = open_after start past r may.not_done in
    let m = mover (pone_of start) past in
    reached_more start (Seen rank) past _ _ _ (state_after-card start past rank) (turned_card (state_after start past) rank o.turned.total o.held)
    (card_adds start past rank o)
    (sound_played (standing_after start past) m rank r.sound.fair (sound_heard (standing_after start past) m r.sound (rw may.not_done refl)))
reached_turn start Go past may r =
    reached_more start Go past _ _ _ (state_after-go start past) (turned_go (state_after start past) r.turned)
    (go_adds start past (open_after start past r may.not_done) may.may_show)
    (sound_passed (standing_after start past) (mover (pone_of start) past) r.sound.fair)

reached_start : (start : Start) → IsStart start → Reached start []
reached_start start is = search rules

pub reached : (start : Start) (seen : List Letter) → IsStart start → AreTaken start seen → Reached start (filled_record start seen)
reached start [] is taken = reached_start start is
reached start (turn ∷ seen) is taken = reached_turn start turn (filled_record start seen) taken.1 (reached start seen is taken.0)

-- a round after one more turn represents the turns with this one
stands_more : (start : Start) (turn : Letter) (seen : List Letter) (round after : Standing) (more : ℕ) → StandsFor round start seen →
    MayFollow start turn (filled_record start seen) → Adds start turn (filled_record start seen) after more →
    StandsFor after start (turn ∷ seen) × (more ≡ points_added start turn seen)
stands_more start turn seen round after more stands may added =
    (record { started = stands.started; taken = (stands.taken, may); shows = sym added.table }, omega (arith, added.points))

module _ (round : Standing) (start : Start) (seen : List Letter) (m : Side) where
  -- the side that is asked is the side to move, and it is heard
  ready : StandsFor round start seen → round.asked ≡ side_asked m →
      Open start (filled_record start seen) × (mover (pone_of start) (filled_record start seen) ≡ m)
  ready stands asked =
      let who = asked_mover start (filled_record start seen) m (sym (ap (λ (x : Standing). x.asked) stands.shows) ∙ asked) in
      (open_after start (filled_record start seen) (reached start seen stands.started stands.taken) who.0, who.1)

  pub stands_played : (rank : ℕ) → StandsFor round start seen → round.asked ≡ side_asked m → count_of round.pile + rank_value rank ≤ 31 →
      StandsFor (table_after_play round m rank) start (Seen rank ∷ seen) × (points_of_play round m rank ≡ points_added start (Seen rank) seen)
  stands_played rank stands asked fits =
      let open_now = ready stands asked in
      let may = rw stands.shows at fits in
      rw (stands.shows, ← open_now.1)
      (stands_more start (Seen rank) seen round _ _ stands (record { not_done = open_now.0.not_done; may_show = may })
      (card_adds start (filled_record start seen) rank open_now.0))

  pub stands_passed : StandsFor round start seen → round.asked ≡ side_asked m → 22 ≤ count_of round.pile →
      StandsFor (table_after_go round m) start (Go ∷ seen) × (points_of_go round m ≡ points_added start Go seen)
  stands_passed stands asked high =
      let open_now = ready stands asked in
      let may = rw stands.shows at high in
      rw (stands.shows, ← open_now.1)
      (stands_more start Go seen round _ _ stands (record { not_done = open_now.0.not_done; may_show = may })
      (go_adds start (filled_record start seen) open_now.0 may))
