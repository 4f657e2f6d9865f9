-- Each visible turn lowers the bound on the turns that may still be made.
use Rattle.std.proofs.Common.{◌≡◌, ◌<◌, List, [], ◌∷◌, refl}
use Rattle.crib_cards.specs.Cards.{rank_of}
use Rattle.crib_cards.specs.declared.sides.Side.{Side}
use Rattle.crib_cards.specs.declared.sides.Side.TheVariants.{Owner, Opponent}
use Rattle.crib_cards.specs.declared.letters.Letter.{Letter}
use Rattle.crib_cards.specs.declared.letters.Letter.TheVariants.{Seen, Go}
use Rattle.crib_cards.specs.declared.moves.Move.TheVariants as move
use Rattle.crib_play.specs.Score.{side_asked}
use Rattle.crib_play.specs.Filled.{filled_record}
use Rattle.crib_play.specs.Standing.{standing_after, MayShow, AreTaken}
use Rattle.crib_play.specs.History.{Event, Own, Theirs, history_letters}
use Rattle.crib_problem.specs.Setup.{Setup, IsSetup, start_of}
use Rattle.crib_problem.specs.Private.Ahead.{turns_ahead_at}
use Rattle.crib_problem.proofs.StartLemmas.{started}
use Rattle.crib_problem.proofs.Setups.{without_opening}
use Rattle.crib_problem.proofs.TurnsLeft.{less_after}
use Rattle.crib_know.specs.Hidden.{KnowsAfter}
use Rattle.crib_know.specs.Knowledge.{Knowledge, knowledge_after, asked_now}
use Rattle.crib_know.specs.Private.Ahead.{turns_ahead}
use Rattle.crib_know.specs.Private.Knowledge.{at_first_lead}
use Rattle.crib_know.proofs.OpeningLawProofs.{begun_at_first_lead}
use Rattle.crib_know.proofs.LedHistories.{IsLed}
use Rattle.crib_know.proofs.PassingIsAgreeing.{can_might}
use Rattle.crib_know.proofs.KnowledgeFacts.{are_taken, high_own_go}
use Rattle.crib_know.proofs.RecordTurns.{possible_led}

-- ---- a history that can be next can also be next in the problem without its opening
led_bare : (problem : Setup) (history : List Event) → IsLed problem history → IsLed (at_first_lead problem) history
led_bare problem [] led = tt
led_bare problem (Theirs letter ∷ history) led = (led_bare problem history led.0, (led.1.0, (record { deal = led.1.1.0.deal; fixed = refl }, led.1.1.1)))
led_bare problem (event ∷ history) led = (led_bare problem history led.0, led.1)

taken_bare : (problem : Setup) → IsSetup problem → (history : List Event) → IsLed problem history → AreTaken (start_of problem) (history_letters history)
taken_bare problem setup history led =
    are_taken (at_first_lead problem) (without_opening problem setup) history (led_bare problem history led) (begun_at_first_lead problem history)

-- ---- after a history
module _ (problem : Setup) (setup : IsSetup problem) (history : List Event) (led : IsLed problem history) where
  after_history : (side : Side) (letter : Letter) → asked_now problem history ≡ side_asked side →
      MayShow letter (filled_record (start_of problem) (history_letters history)) →
      turns_ahead_at (standing_after (start_of problem) (filled_record (start_of problem) (letter ∷ history_letters history)))
      < turns_ahead_at (standing_after (start_of problem) (filled_record (start_of problem) (history_letters history)))
  after_history = less_after (start_of problem) (started problem setup) (history_letters history) (taken_bare problem setup history led)

pub turn_falls : (problem : Setup) → IsSetup problem → (event : Event) (history : List Event) → IsLed problem (event ∷ history) →
    turns_ahead (knowledge_after problem (event ∷ history)) < turns_ahead (knowledge_after problem history)
turn_falls problem setup (Own (move.Card card)) history led = after_history problem setup history led.0 Owner (Seen (rank_of card)) led.1.0 led.1.2
turn_falls problem setup (Own move.Go) history led =
    after_history problem setup history led.0 Owner Go led.1.0 (high_own_go (at_first_lead problem) (without_opening problem setup) history
    (led_bare problem history led.0) (begun_at_first_lead problem history) led.1)
turn_falls problem setup (Theirs (Seen rank)) history led =
    let might = can_might problem setup history (Seen rank) led.1 in after_history problem setup history led.0 Opponent (Seen rank) might.asked might.fits
turn_falls problem setup (Theirs Go) history led =
    let might = can_might problem setup history Go led.1 in after_history problem setup history led.0 Opponent Go might.asked might.high

-- the same for what is known
pub know_falls : (know next : Knowledge) (problem : Setup) (event : Event) (history : List Event) → KnowsAfter know problem history →
    KnowsAfter next problem (event ∷ history) → turns_ahead next < turns_ahead know
know_falls know next problem event history before after =
    rw (before.knowledge, after.knowledge) (turn_falls problem before.setup event history (possible_led problem after.setup (event ∷ history) after.possible))
