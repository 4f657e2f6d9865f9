-- Each visible turn lowers the bound on the turns that may still be made, so an opening has at most 24 turns.
use Rattle.std.proofs.Common.{◌≡◌, ℕ, ◌+◌, ◌-◌, ◌<◌, ◌≤◌, Bool, true, cond, eqb, ltb, List, [], ◌∷◌, ◌++◌, length, refl, subst, ◌∙◌, arith}
use Rattle.std.proofs.lemmas.Bool.{cond_both, cond-false}
use Rattle.std.proofs.lemmas.Bool.Decides.{nat_tests}
use Rattle.std.proofs.lemmas.List.{length-map}
use Rattle.crib_cards.specs.Letters.{letter_of}
use Rattle.crib_cards.specs.Sides.{other_side}
use Rattle.crib_cards.specs.Start.{Start, pone_of}
use Rattle.crib_cards.specs.declared.sides.Side.{Side}
use Rattle.crib_cards.specs.declared.sides.Side.TheVariants.{Owner, Opponent}
use Rattle.crib_cards.specs.declared.letters.Letter.{Letter}
use Rattle.crib_cards.specs.declared.letters.Letter.TheVariants.{Seen, Go}
use Rattle.crib_cards.specs.declared.moves.Act.{Act}
use Rattle.crib_play.specs.Record.{count_of, is_begun, mover}
use Rattle.crib_play.specs.Score.{is_done, side_asked, asked_after}
use Rattle.crib_play.specs.Filled.{filled_record}
use Rattle.crib_play.specs.Legal.{letters_of}
use Rattle.crib_play.specs.History.{moves_of}
use Rattle.crib_play.specs.Sound.{IsSound}
use Rattle.crib_play.specs.Standing.{Standing, standing_after, MayShow, AreTaken, IsStart, StandsFor, seat_of}
use Rattle.crib_play.specs.Private.TableChanges.{is_over, with_asked, with_seat, with_go_said, table_after_close, with_card_on_pile}
use Rattle.crib_play.specs.Private.TableChanges.{table_after_laying, with_next_asked, table_after_go}
use Rattle.crib_play.specs.declared.turns.Turn.TheVariants as turns
use Rattle.crib_play.proofs.ActSteps.{begun_count}
use Rattle.crib_play.proofs.SoundLemmas.{sound_heard}
use Rattle.crib_play.proofs.RecordsReached.{stands_played, stands_passed, reached}
use Rattle.crib_problem.specs.Played.{AreAllowed}
use Rattle.crib_problem.specs.Setup.{Setup, IsSetup, opening_basis_of}
use Rattle.crib_problem.specs.Private.Ahead.{turns_ahead_at}
use Rattle.crib_problem.proofs.StartLemmas.{started}
use Rattle.crib_problem.proofs.AskedHolds.{were_taken, keeps_first}

waiting_most : (begun owner opponent : Bool) → cond begun (cond owner 1 0 + cond opponent 1 0) 0 ≤ 2
waiting_most begun owner opponent = grind (arith, nat_tests)

-- ---- the next side is asked
settled_least : (table : Standing) (side : Side) → turns_ahead_at (with_next_asked table side) ≤ turns_ahead_at table
settled_least table side =
    let P : Standing → Type 0 = λ t. turns_ahead_at t ≤ turns_ahead_at table in
    cond_both (is_over table) (with_asked table turns.Over) _ P (λ _. omega arith)
    (λ _. cond_both (seat_of table (other_side side)).may_be_asked (with_asked table (side_asked (other_side side))) _ P (λ _. omega arith)
    (λ _. cond_both (seat_of table side).may_be_asked (with_asked table (side_asked side)) _ P (λ _. omega arith) (λ _. omega arith)))

-- ---- a card
pile_less : (table : Standing) (side : Side) (rank : ℕ) → IsSound table → table.asked ≡ side_asked side →
    turns_ahead_at (with_card_on_pile table side rank) < turns_ahead_at table
pile_less table Owner rank sound asked =
    let most = waiting_most (is_begun (table.pile ++ rank ∷ [])) (ltb 0 (table.owner.left - 1)) table.opponent.may_be_asked in
    omega (arith, sound.fair.owner_seat (sound_heard table Owner sound asked), most)
pile_less table Opponent rank sound asked =
    let most = waiting_most (is_begun (table.pile ++ rank ∷ [])) table.owner.may_be_asked (ltb 0 (table.opponent.left - 1)) in
    omega (arith, sound.fair.opponent_seat (sound_heard table Opponent sound asked), most)

laid_less : (table : Standing) (side : Side) (rank : ℕ) → IsSound table → table.asked ≡ side_asked side →
    turns_ahead_at (table_after_laying table side rank) < turns_ahead_at table
laid_less table side rank sound asked =
    let less = pile_less table side rank sound asked in
    let P : Standing → Type 0 = λ t. turns_ahead_at t < turns_ahead_at table in
    cond_both (eqb (count_of (table.pile ++ rank ∷ [])) 31) (table_after_close (with_card_on_pile table side rank)) (with_card_on_pile table side rank) P
    (λ _. omega (arith, less)) (λ _. less)

-- ---- a go
said_less : (table : Standing) (side : Side) → IsSound table → table.asked ≡ side_asked side → is_begun table.pile ≡ true →
    turns_ahead_at (with_seat table side (with_go_said (seat_of table side))) < turns_ahead_at table
said_less table Owner sound asked begun = rw (begun, sound_heard table Owner sound asked) (omega arith)
said_less table Opponent sound asked begun = rw (begun, sound_heard table Opponent sound asked) (omega arith)

passed_less : (table : Standing) (side : Side) → IsSound table → table.asked ≡ side_asked side → 22 ≤ count_of table.pile →
    turns_ahead_at (table_after_go table side) < turns_ahead_at table
passed_less table side sound asked high =
    omega (arith, settled_least (with_seat table side (with_go_said (seat_of table side))) side, said_less table side sound asked (begun_count table.pile high))

-- ---- after visible turns
module _ (start : Start) (is : IsStart start) (seen : List Letter) (taken : AreTaken start seen) where
  abbrev table : Standing
  table = standing_after start (filled_record start seen)

  stands : StandsFor table start seen
  stands = record { started = is; taken = taken; shows = refl }

  sound : IsSound table
  sound = (reached start seen is taken).sound

  pub less_after : (side : Side) (letter : Letter) → asked_after start (filled_record start seen) ≡ side_asked side →
      MayShow letter (filled_record start seen) →
      turns_ahead_at (standing_after start (filled_record start (letter ∷ seen))) < turns_ahead_at table
  less_after side (Seen rank) asked may =
      let next = (stands_played table start seen side rank stands asked may).0 in
      subst (λ t. turns_ahead_at t < turns_ahead_at table) next.shows
      (omega (arith, settled_least (table_after_laying table side rank) side, laid_less table side rank sound asked))
  less_after side Go asked may =
      let next = (stands_passed table start seen side stands asked may).0 in
      subst (λ t. turns_ahead_at t < turns_ahead_at table) next.shows (passed_less table side sound asked may)

few_taken : (start : Start) → IsStart start → (seen : List Letter) → AreTaken start seen →
    length seen + turns_ahead_at (standing_after start (filled_record start seen)) ≤ 24
few_taken start is [] taken = omega arith
few_taken start is (letter ∷ seen) taken =
    let past = filled_record start seen in
    let side = mover (pone_of start) past in
    let asked : asked_after start past ≡ side_asked side = cond-false (is_done start past) turns.Over (side_asked side) taken.1.not_done in
    omega (arith, few_taken start is seen taken.0, less_after start is seen taken.0 side letter asked taken.1.may_show)

-- an opening has at most 24 turns
pub few_allowed : (problem : Setup) → IsSetup problem → (acts : List Act) → AreAllowed (opening_basis_of problem) acts → length acts ≤ 24
few_allowed problem setup acts allowed =
    let is = started problem setup in
    let were = were_taken (opening_basis_of problem) is (keeps_first problem setup) acts allowed in
    let few = few_taken (opening_basis_of problem).start is (letters_of (moves_of acts)) were.taken in
    let same : length (letters_of (moves_of acts)) ≡ length acts = length-map (moves_of acts) letter_of ∙ length-map acts (λ (act : Act). act.what) in
    omega (arith, few, same)
