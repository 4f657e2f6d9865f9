-- The state of a record, step by step: a few facts about the turns so far show what the next turn changes.
use Rattle.std.proofs.Common.{rules}
use Rattle.std.proofs.Common.{◌≡◌, ℕ, ◌+◌, ◌-◌, zero, suc, Bool, true, false, cond, not, ◌&&◌, ◌||◌, eqb, ltb, List, [], ◌∷◌, ◌++◌, length, length-append, refl}
use Rattle.std.proofs.Common.{sym, ap, ◌∙◌, inl, inr, arith}
use Rattle.std.proofs.lemmas.Bool.Decides.{nat_tests}
use Rattle.std.proofs.lemmas.Bool.{cases_Bool}
use Rattle.crib_cards.specs.declared.sides.Side.{Side}
use Rattle.crib_cards.specs.declared.sides.Side.TheVariants.{Owner, Opponent}
use Rattle.crib_cards.specs.declared.sides.Scores.{Scores}
use Rattle.crib_cards.specs.declared.letters.Letter.{Letter}
use Rattle.crib_cards.specs.declared.letters.Letter.TheVariants.{Seen, Go}
use Rattle.crib_cards.specs.Letters.{is_go}
use Rattle.crib_cards.specs.Sides.{other_side, same_side, score_with, scores_with, are_decided}
use Rattle.crib_cards.specs.Start.{Start, pone_of}
use Rattle.crib_play.specs.declared.turns.Turn.{Turn}
use Rattle.crib_play.specs.declared.turns.Turn.TheVariants as turns
use Rattle.crib_play.specs.declared.seats.Seat.{Seat}
use Rattle.crib_play.specs.Record.{Record, cards_in, count_of, is_begun, is_close, sequence_of, pile_of, closes, mover, turns_of, cards_played, has_said_go}
use Rattle.crib_play.specs.Record.{is_heard}
use Rattle.crib_play.specs.Points.{card_points, last_player, points_for, points_in}
use Rattle.crib_play.specs.Score.{scores_after, is_done, side_asked}
use Rattle.crib_play.specs.Filled.{is_silent_next, with_silent_gos}
use Rattle.crib_play.specs.Standing.{Standing, standing_after}

pub record State : Type 0 where
  pub mover : Side
  -- whether the last turn was a go in this count
  pub go_last : Bool
  pub pile : List ℕ
  pub last : Side
  pub scores : Scores
  -- how many cards are played
  pub played : ℕ
  -- how many cards each side has left, and whether it has said go in this count
  pub left : Side → ℕ
  pub said : Side → Bool

abbrev pub is_go_first : List Letter → Bool
is_go_first [] = false
is_go_first (turn ∷ recent) = is_go turn

abbrev pub state_after : Start → Record → State
state_after start past = record {
  mover = mover (pone_of start) past;
  go_last = is_go_first (sequence_of past);
  pile = pile_of past;
  last = last_player (pone_of start) past;
  scores = scores_after start past;
  played = length (cards_in past);
  left = λ side. 4 - cards_played (pone_of start) side past;
  said = λ side. has_said_go (pone_of start) side past;
}

abbrev pub closes_at : State → ℕ → Bool
closes_at s rank = eqb (count_of (s.pile ++ rank ∷ [])) 31

abbrev pub closes_by_go : State → Bool
closes_by_go s = s.go_last && is_begun s.pile

abbrev pub step_card : State → ℕ → State
step_card s rank = record {
  mover = other_side s.mover;
  go_last = false;
  pile = cond (closes_at s rank) [] (s.pile ++ rank ∷ []);
  last = s.mover;
  scores = scores_with s.scores s.mover (card_points s.played (s.pile ++ rank ∷ []));
  played = s.played + 1;
  left = λ side. cond (same_side s.mover side) (s.left side - 1) (s.left side);
  said = λ side. cond (closes_at s rank) false (s.said side);
}

-- the state after a go that is no close, and after one that is
abbrev pub go_open : State → State
go_open s = record s { mover = other_side s.mover; go_last = true; said = λ side. same_side s.mover side || s.said side }

abbrev pub go_closing : State → State
go_closing s = record s { mover = other_side s.mover; go_last = false; pile = []; scores = scores_with s.scores s.last 1; said = λ side. false }

abbrev pub step_go : State → State
step_go s = cond (closes_by_go s) (go_closing s) (go_open s)

-- the scores after further points of one side
scores_more : (start : Start) (past : Record) (side : Side) (points : ℕ) →
    ◌≡◌ {A = Scores}
    (record {
      owner = score_with start.scores.owner (cond (same_side side Owner) points 0 + points_for (pone_of start) Owner past);
      opponent = score_with start.scores.opponent (cond (same_side side Opponent) points 0 + points_for (pone_of start) Opponent past);
    })
    (scores_with (scores_after start past) side points)
scores_more start past Owner points = grind (arith, nat_tests)
scores_more start past Opponent points = grind (arith, nat_tests)

close_step : (recent : List Letter) → is_close Go recent ≡ (is_go_first recent && is_begun (cards_in recent))
close_step [] = refl
close_step (Seen rank ∷ recent) = refl
close_step (Go ∷ recent) = refl

pub closes-go : (start : Start) (past : Record) → closes Go past ≡ closes_by_go (state_after start past)
closes-go start past = close_step (sequence_of past)

left_card : (b : Bool) (rank : ℕ) (turns : List Letter) →
    4 - length (cards_in (cond b (Seen rank ∷ turns) turns)) ≡ cond b (4 - length (cards_in turns) - 1) (4 - length (cards_in turns))
left_card b rank turns = grind (arith, nat_tests, length-append (cards_in turns) (rank ∷ []))

left_go : (b : Bool) (turns : List Letter) → 4 - length (cards_in (cond b (Go ∷ turns) turns)) ≡ 4 - length (cards_in turns)
left_go b turns = grind (arith, nat_tests)

pub first_card : (b : Bool) (rank : ℕ) (recent : List Letter) → is_go_first (cond b [] (Seen rank ∷ recent)) ≡ false
first_card b rank recent = grind (arith, nat_tests)

pile_card : (b : Bool) (rank : ℕ) (recent : List Letter) → cards_in (cond b [] (Seen rank ∷ recent)) ≡ cond b [] (cards_in recent ++ rank ∷ [])
pile_card b rank recent = grind (arith, nat_tests)

pub state_after-card : (start : Start) (past : Record) (rank : ℕ) → state_after start (Seen rank ∷ past) ≡ step_card (state_after start past) rank
state_after-card start past rank = search (rules, first_card, pile_card, scores_more start past, length-append (cards_in past) (rank ∷ []), left_card)

-- no points change no score
unscored : (b : Bool) (score before : ℕ) → score_with score (cond b 0 0 + before) ≡ score_with score before
unscored b score before = grind (arith, nat_tests)

pub state_after-go : (start : Start) (past : Record) → state_after start (Go ∷ past) ≡ step_go (state_after start past)
state_after-go start past =
    let left = λ (side : Side). left_go (same_side (mover (pone_of start) past) side) (turns_of (pone_of start) side past) in
    let last = last_player (pone_of start) past in
    elim (cases_Bool (closes Go past)) [
      | inl c ↦ rw (c, sym (closes-go start past) ∙ c)
          (λ i. record (go_closing (state_after start past)) { scores = scores_more start past last 1 i; left = λ side. left side i })
      | inr c ↦ rw (c, sym (closes-go start past) ∙ c)
          (λ i. record (go_open (state_after start past)) {
            scores = record {
              owner = unscored (same_side last Owner) start.scores.owner (points_for (pone_of start) Owner past) i;
              opponent = unscored (same_side last Opponent) start.scores.opponent (points_for (pone_of start) Opponent past) i;
            };
            left = λ side. left side i;
          })
    ]

-- whether the deal is done
abbrev pub done : ℕ → State → Bool
done target s = are_decided target s.scores || eqb s.played 8

-- whether the side is heard: it holds a card and has not said go in this count
abbrev pub heard_of : State → Side → Bool
heard_of s side = ltb 0 (s.left side) && not (s.said side)

abbrev pub is_silent : ℕ → State → Bool
is_silent target s = not (heard_of s s.mover) && not (done target s)

abbrev pub gos : ℕ → ℕ → State → State
gos zero target s = s
gos (suc more) target s = cond (is_silent target s) (gos more target (step_go s)) s

abbrev pub gos_points : ℕ → ℕ → State → ℕ
gos_points zero target s = 0
gos_points (suc more) target s = cond (is_silent target s) (cond (closes_by_go s) 1 0 + gos_points more target (step_go s)) 0

-- the seat of a side
abbrev pub seat_in : State → Side → Seat
seat_in s side = record { left = s.left side; may_be_asked = heard_of s side }

-- what the table shows, with whom the rules ask given
abbrev pub face : ℕ → State → Turn → Standing
face target s turn = record {
  asked = turn;
  pile = s.pile;
  last = s.last;
  scores = s.scores;
  target = target;
  owner = seat_in s Owner;
  opponent = seat_in s Opponent;
}

abbrev pub asked_of : ℕ → State → Turn
asked_of target s = cond (done target s) turns.Over (side_asked s.mover)

pub heard_after : (start : Start) (side : Side) (past : Record) → is_heard (pone_of start) side past ≡ heard_of (state_after start past) side
heard_after start side past = ap (λ (b : Bool). b && not (has_said_go (pone_of start) side past)) (holds (cards_played (pone_of start) side past))
  where
    holds : (n : ℕ) → ltb n 4 ≡ ltb 0 (4 - n)
    holds n = grind (arith, nat_tests)

pub standing_after-state : (start : Start) (past : Record) →
    standing_after start past ≡ face start.target (state_after start past) (asked_of start.target (state_after start past))
standing_after-state start past = search (rules, heard_after start Owner past, heard_after start Opponent past)

silent_after : (start : Start) (past : Record) → is_silent_next start past ≡ is_silent start.target (state_after start past)
silent_after start past = ap (λ (b : Bool). not b && not (is_done start past)) (heard_after start (mover (pone_of start) past) past)

-- what is found of a choice, as a choice of what is found
pub chosen : {A B : Type 0} (of : A → B) (b c : Bool) (more past : A) (found : B) → b ≡ c → of more ≡ found → of (cond b more past) ≡ cond c found (of past)
chosen of true c more past found is same = same ∙ ap (λ (d : Bool). cond d found (of past)) is
chosen of false c more past found is same = ap (λ (d : Bool). cond d found (of past)) is

pub state_after-gos : (n : ℕ) (start : Start) (past : Record) → state_after start (with_silent_gos n start past) ≡ gos n start.target (state_after start past)
state_after-gos zero start past = refl
state_after-gos (suc n) start past =
    chosen (state_after start) _ _ _ _ _ (silent_after start past) (state_after-gos n start (Go ∷ past) ∙ ap (gos n start.target) (state_after-go start past))

pub points_in-gos : (n : ℕ) (start : Start) (past : Record) →
    points_in (with_silent_gos n start past) ≡ gos_points n start.target (state_after start past) + points_in past
points_in-gos zero start past = omega arith
points_in-gos (suc n) start past =
    grind (arith, nat_tests, state_after-go start past, closes-go start past, silent_after start past, points_in-gos n start (Go ∷ past))
