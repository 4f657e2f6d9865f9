-- Proves that an owner who is asked after allowed acts holds a card.
use Rattle.std.proofs.Common.{◌≡◌, ℕ, zero, suc, ◌+◌, ◌≤◌, Bool, true, false, cond, not, ◌&&◌, ◌||◌, ltb, List, [], ◌∷◌, length, Option, Some, None}
use Rattle.std.proofs.Common.{refl, sym, ap, ◌∙◌, ◌<◌, arith}
use Rattle.std.specs.List.{list_any}
use Rattle.std.specs.Option.{option_or}
use Rattle.std.proofs.Math.Bool.{and-true}
use Rattle.std.proofs.lemmas.Bool.{and_parts, cond_both, not-false, ltb-true, ltb-false}
use Rattle.std.proofs.lemmas.Bool.Decides.{nat_tests}
use Rattle.crib_cards.specs.Cards.{rank_of, card_value}
use Rattle.crib_cards.specs.Sets.{has, set_where, set_without}
use Rattle.crib_cards.specs.Letters.{letter_of}
use Rattle.crib_cards.specs.Sides.{same_side}
use Rattle.crib_cards.specs.Start.{Start, pone_of}
use Rattle.crib_cards.specs.declared.sides.Side.{Side}
use Rattle.crib_cards.specs.declared.sides.Side.TheVariants.{Owner, Opponent}
use Rattle.crib_cards.specs.declared.letters.Letter.TheVariants.{Seen, Go}
use Rattle.crib_cards.specs.declared.moves.Move.{Move}
use Rattle.crib_cards.specs.declared.moves.Move.TheVariants as move
use Rattle.crib_cards.specs.declared.moves.Act.{Act}
use Rattle.crib_cards.proofs.SetLemmas.{set_where_agree, has-set_where, IsCardSet-set_where}
use Rattle.crib_cards.proofs.SetFacts.{in_set_where}
use Rattle.crib_cards.proofs.SetCounts.{length-set_without}
use Rattle.crib_play.specs.declared.turns.Turn.{Turn}
use Rattle.crib_play.specs.declared.turns.Turn.TheVariants as turns
use Rattle.crib_play.specs.Record as plays
use Rattle.crib_play.specs.Record.{Record, count_of, pile_of, mover, is_heard}
use Rattle.crib_play.specs.Score.{side_asked, asks}
use Rattle.crib_play.specs.Filled.{is_silent_next, with_silent_gos}
use Rattle.crib_play.specs.Standing.{MayShow, AreTaken, IsStart}
use Rattle.crib_play.specs.Legal.{letters_of}
use Rattle.crib_play.specs.History.{moves_of}
use Rattle.crib_play.specs.Fitting.{fits_at}
use Rattle.crib_play.specs.Least.{least_with_go}
use Rattle.crib_play.proofs.CardLemmas.{one_fails}
use Rattle.crib_play.proofs.TurnFacts.{high_count, played_card, played_go}
use Rattle.crib_play.proofs.LeastValues.{least_card, least_other, least_go}
use Rattle.crib_play.proofs.RecordsReached.{asked_mover}
use Rattle.crib_play.proofs.FilledAndVisible.{heard-filled_record}
use Rattle.crib_problem.specs.Refusals.{not_held, does_not_fit, must_play, no_deal}
use Rattle.crib_problem.specs.Played.{OpeningBasis, cards_played, record_by, count_by_acts, asked_by, own_left_by, seen_by, least_by, shows_seen}
use Rattle.crib_problem.specs.Played.{move_refusal, turn_refusal, AreAllowed}
use Rattle.crib_problem.specs.Setup.{Setup, IsSetup, opening_basis_of}
use Rattle.crib_problem.specs.Private.OpeningTables.{Keeps}
use Rattle.crib_problem.proofs.StartLemmas.{started, hold_known, hold_is_card, hold_four}

-- ---- what follows where an act is not refused
pub none_of_two : (a b : Bool) (x y : ℕ) (rest : Option ℕ) → cond a (Some x) (cond b (Some y) rest) ≡ None → (a ≡ false) × (b ≡ false) × (rest ≡ None)
none_of_two a b x y rest e = grind arith

pub none_of_one : (a : Bool) (x : ℕ) → cond a (Some x) None ≡ None → a ≡ false
none_of_one a x e = grind arith

pub none_of_either : (first second : Option ℕ) → option_or first second ≡ None → (first ≡ None) × (second ≡ None)
none_of_either first second e = grind arith

-- an act that may be the next one: the parts of this
pub record MayTurn (seen : List ℕ) (asked : Turn) (count : ℕ) (own : List ℕ) (least : ℕ) (act : Act) : Type 0 where
  pub unseen : shows_seen seen act.side act.what ≡ false
  pub turn : asks asked act.side ≡ true
  pub may : move_refusal count own least act.side act.what ≡ None

pub may_turn : (seen : List ℕ) (asked : Turn) (count : ℕ) (own : List ℕ) (least : ℕ) (act : Act) → turn_refusal seen asked count own least act ≡ None →
    MayTurn seen asked count own least act
may_turn seen asked count own least act e = grind arith

-- an act that may follow some acts
abbrev pub MayFollow : OpeningBasis → List Act → Act → Type 0
MayFollow basis before act =
    MayTurn (seen_by basis before) (asked_by basis before) (count_by_acts basis before) (own_left_by basis before) (least_by basis before) act

pub asked_open : (asked : Turn) (side : Side) → asks asked side ≡ true → asked ≡ side_asked side
asked_open asked side e = grind arith

-- ---- the owner's cards: those that he has played, and those left
played_gos : (n : ℕ) (start : Start) (past : Record) → plays.cards_played (pone_of start) Owner (with_silent_gos n start past) ≡ plays.cards_played
    (pone_of start) Owner past
played_gos zero start past = refl
played_gos (suc n) start past =
    cond_both (is_silent_next start past) (with_silent_gos n start (Go ∷ past)) past
    (λ all. plays.cards_played (pone_of start) Owner all ≡ plays.cards_played (pone_of start) Owner past)
    (λ s. played_gos n start (Go ∷ past) ∙ played_go (pone_of start) Owner past) (λ s. refl)

played_seen : (start : Start) (past : Record) (rank : ℕ) (side : Side) → mover (pone_of start) past ≡ side →
    plays.cards_played (pone_of start) Owner (with_silent_gos 3 start (Seen rank ∷ past)) ≡ cond (same_side side Owner)
    (plays.cards_played (pone_of start) Owner past + 1) (plays.cards_played (pone_of start) Owner past)
played_seen start past rank side m =
    let n = plays.cards_played (pone_of start) Owner past in
    played_gos 3 start (Seen rank ∷ past) ∙ played_card (pone_of start) Owner past rank ∙ ap (λ (s : Side). cond (same_side s Owner) (n + 1) n) m

-- after a card of his hold is played, it alone is missing from his cards left
pub own_less : (hold played : List ℕ) (card : ℕ) → set_without (set_where (λ c. has hold c && not (has played c))) card ≡ set_where
    (λ c. has hold c && not (has (card ∷ played) c))
own_less hold played card =
    set_where_agree _ _ (λ other is. grind (arith, nat_tests, has-set_where (λ c. has hold c && not (has played c)) other is))

-- a card that is not in his hold leaves his cards as they were
own_same : (hold played : List ℕ) (card : ℕ) → has hold card ≡ false → set_where (λ c. has hold c && not (has (card ∷ played) c)) ≡ set_where
    (λ c. has hold c && not (has played c))
own_same hold played card out = set_where_agree _ _ (λ other is. grind (arith, nat_tests, out))

module _ (basis : OpeningBasis) (before : List Act) (keeps : Keeps basis before) where
  -- a card that the owner has not seen is not in his hold
  not_his : (card : ℕ) → has (seen_by basis before) card ≡ false → has basis.hold card ≡ false
  not_his card e = grind (arith, nat_tests, keeps.known card, has-set_where (λ c. has basis.known c || has (cards_played before) c) card)

  keeps_move : (side : Side) (what : Move) → asked_by basis before ≡ side_asked side → shows_seen (seen_by basis before) side what ≡ false →
      move_refusal (count_by_acts basis before) (own_left_by basis before) (least_by basis before) side what ≡ None →
      Keeps basis (record { side = side; what = what } ∷ before)
  keeps_move Owner (move.Card card) asked unseen may =
      let own = own_left_by basis before in
      let held : has own card ≡ true =
      not-false (has own card) (none_of_two (not (has own card)) (not (fits_at (count_by_acts basis before) card)) not_held does_not_fit None may).0 in
      let test : ℕ → Bool = λ c. has basis.hold c && not (has (cards_played before) c) in
      let less : length own ≡ length (set_without own card) + 1 = length-set_without own card (IsCardSet-set_where test) (in_set_where test card held).0 held in
      let left = ap length (own_less basis.hold (cards_played before) card) in
      let more = played_seen basis.start (record_by basis before) (rank_of card) Owner (asked_mover basis.start (record_by basis before) Owner asked).1 in
      record { known = keeps.known; four = omega (arith, less, left, more, keeps.four) }
  keeps_move Opponent (move.Card card) asked unseen may =
      let left = ap length (own_same basis.hold (cards_played before) card (not_his card unseen)) in
      let more = played_seen basis.start (record_by basis before) (rank_of card) Opponent (asked_mover basis.start (record_by basis before) Opponent asked).1 in
      record { known = keeps.known; four = omega (arith, left, more, keeps.four) }
  keeps_move side move.Go asked unseen may =
      let more = played_gos 3 basis.start (Go ∷ record_by basis before) ∙ played_go (pone_of basis.start) Owner (record_by basis before) in
      record { known = keeps.known; four = omega (arith, more, keeps.four) }

  pub keeps_act : (act : Act) → MayFollow basis before act → Keeps basis (act ∷ before)
  keeps_act act may = keeps_move act.side act.what (asked_open (asked_by basis before) act.side may.turn) may.unseen may.may

  -- an owner who is asked holds a card
  pub asked_holds : IsStart basis.start → AreTaken basis.start (letters_of (moves_of before)) → asked_by basis before ≡ turns.Owner →
      1 ≤ length (own_left_by basis before)
  asked_holds is taken asked =
      let past = record_by basis before in
      let open_now = asked_mover basis.start past Owner asked in
      let heard : is_heard (pone_of basis.start) Owner past ≡ true = ap (λ (side : Side). is_heard (pone_of basis.start) side past) (sym open_now.1)
      ∙ heard-filled_record basis.start (letters_of (moves_of before)) is taken open_now.0 in
      let fewer : plays.cards_played (pone_of basis.start) Owner past < 4 = ltb-true _ _ (and_parts _ _ heard).0 in
      omega (arith, fewer, keeps.four)

-- ---- what a turn shows of the opponent's cards
module _ (basis : OpeningBasis) (before : List Act) where
  pub least_by_card : (side : Side) (card : ℕ) → least_by basis (record { side = side; what = move.Card card } ∷ before) ≡ least_by basis before
  least_by_card side card = least_card basis.start Opponent (letters_of (moves_of before)) (rank_of card)

  pub least_by_go : (side : Side) → IsStart basis.start → AreTaken basis.start (letters_of (moves_of before)) → asked_by basis before ≡ side_asked side →
      least_by basis (record { side = side; what = move.Go } ∷ before) ≡ cond (same_side side Opponent)
      (least_with_go (count_by_acts basis before) (least_by basis before)) (least_by basis before)
  least_by_go Owner is taken asked =
      least_other basis.start Opponent (letters_of (moves_of before)) Go
      (ap (λ (side : Side). same_side side Opponent) (asked_mover basis.start (record_by basis before) Owner asked).1)
  least_by_go Opponent is taken asked = least_go basis.start Opponent (letters_of (moves_of before)) is taken asked

-- ---- at a count below 22 each card fits
pub low_fits : (count : ℕ) (own : List ℕ) → 1 ≤ length own → list_any (fits_at count) own ≡ false → 22 ≤ count
low_fits count own some none =
    let one = one_fails (fits_at count) own some none in
    high_count count (rank_of one.0) one.1

-- a card that fits at this count, or a go at a count of 22 or more
abbrev pub Shows : ℕ → Move → Type 0
Shows count (move.Card card) = count + card_value card ≤ 31
Shows count move.Go = 22 ≤ count

pub shows_move : (count : ℕ) (own : List ℕ) (least : ℕ) (side : Side) (what : Move) → (side ≡ Owner → 1 ≤ length own) →
    move_refusal count own least side what ≡ None → Shows count what
shows_move count own least Owner (move.Card card) some e = grind (arith, nat_tests)
shows_move count own least Owner move.Go some e = low_fits count own (some refl) (none_of_one (list_any (fits_at count) own) must_play e)
shows_move count own least Opponent (move.Card card) some e = grind (arith, nat_tests)
shows_move count own least Opponent move.Go some e = ltb-false count 22 (none_of_one (ltb count 22) no_deal e)

shows_letter : (past : Record) (what : Move) → Shows (count_of (pile_of past)) what → MayShow (letter_of what) past
shows_letter past (move.Card card) e = e
shows_letter past move.Go e = e

-- ---- allowed acts, as turns that were taken one by one
pub record WereTaken (basis : OpeningBasis) (acts : List Act) : Type 0 where
  pub taken : AreTaken basis.start (letters_of (moves_of acts))
  pub keeps : Keeps basis acts

pub were_taken : (basis : OpeningBasis) → IsStart basis.start → Keeps basis [] → (acts : List Act) → AreAllowed basis acts → WereTaken basis acts
were_taken basis is keeps [] allowed = record { taken = tt; keeps = keeps }
were_taken basis is keeps (act ∷ before) allowed =
    let so_far = were_taken basis is keeps before allowed.0 in
    let may : MayFollow basis before act = may_turn _ _ _ _ _ act (none_of_either _ _ allowed.1).0 in
    let turn = asked_open (asked_by basis before) act.side may.turn in
    let holds : act.side ≡ Owner → 1 ≤ length (own_left_by basis before) =
    λ e. asked_holds basis before so_far.keeps is so_far.taken (turn ∙ ap side_asked e) in
    let not_done = (asked_mover basis.start (record_by basis before) act.side turn).0 in
    let may_show = shows_letter (record_by basis before) act.what (shows_move _ (own_left_by basis before) _ act.side act.what holds may.may) in
    record { taken = (so_far.taken, record { not_done = not_done; may_show = may_show }); keeps = keeps_act basis before so_far.keeps act may }

-- ---- the board of a problem
module _ (problem : Setup) (setup : IsSetup problem) where
  pub keeps_first : Keeps (opening_basis_of problem) []
  keeps_first =
      let four : length (set_where (λ c. has problem.hold c && not false)) ≡ 4 =
      ap length (set_where_agree _ _ (λ card is. and-true (has problem.hold card))) ∙ hold_four problem setup in
      record { known = λ card mine. (hold_is_card problem setup card mine, hold_known problem setup card mine); four = omega (arith, four) }

  pub holds_asked : (acts : List Act) → AreAllowed (opening_basis_of problem) acts → asked_by (opening_basis_of problem) acts ≡ turns.Owner →
      1 ≤ length (own_left_by (opening_basis_of problem) acts)
  holds_asked acts allowed asked =
      let were = were_taken (opening_basis_of problem) (started problem setup) keeps_first acts allowed in
      asked_holds (opening_basis_of problem) acts were.keeps (started problem setup) were.taken asked
