-- The histories of trails, and the length of a trail: at most 29 turns.
use Rattle.std.proofs.Common.{◌≡◌, ℕ, ◌+◌, ◌-◌, ◌<◌, ◌≤◌, List, [], ◌∷◌, ◌++◌, map, reverse, take, length, length-append, ap, ◌∙◌, arith}
use Rattle.std.proofs.lemmas.List.{reverse-append, length-reverse, length-map}
use Rattle.std.proofs.Math.Seq.{take-append_seam}
use Rattle.crib_cards.specs.Start.{pone_of}
use Rattle.crib_cards.specs.declared.moves.Move.{Move}
use Rattle.crib_play.specs.History.{Event, event_of, acts_of}
use Rattle.crib_play.proofs.FilledRecords.{acts_fewer}
use Rattle.crib_play.proofs.RecordBounds.{at_most_29}
use Rattle.crib_problem.specs.Setup.{Setup, start_of, hands_of, played_back}
use Rattle.crib_know.specs.Knowledge.{Knowledge, played_events}
use Rattle.crib_know.specs.Hidden.{KnowsAfter}
use Rattle.crib_know.proofs.Deals.{dealt_is}
use Rattle.crib_check.specs.declared.trails.Event.{Event as TrailEvent}
use Rattle.crib_check.specs.Private.Trails.{as_event, later_of_trail, history_of_trail}

pub trail_more : (problem : Setup) (events more : List TrailEvent) (event : TrailEvent) → more ≡ events ++ event ∷ [] →
    history_of_trail problem more ≡ as_event event ∷ history_of_trail problem events
trail_more problem events more event e =
    ap (history_of_trail problem) e ∙ ap (λ (listed : List TrailEvent). map as_event listed ++ played_events problem) (reverse-append events (event ∷ []))

-- an event is pushed onto the trail, and popped again
pub trail_back : (events more before after : List TrailEvent) (event : TrailEvent) → more ≡ events ++ event ∷ [] → before ≡ more →
    after ≡ take (length before - 1) before → after ≡ events
trail_back events more before after event e same rest =
    let few : length (events ++ event ∷ []) - 1 ≡ length events = omega (arith, length-append events (event ∷ [])) in
    (rw (same ∙ e) at rest) ∙ ap (λ (n : ℕ). take n (events ++ event ∷ [])) few ∙ take-append_seam events (event ∷ [])

pub history_short : (know : Knowledge) (problem : Setup) (history : List Event) → KnowsAfter know problem history → length history ≤ 29
history_short know problem history knows =
    let dealt = knows.possible.0 in
    let agrees = knows.possible.1 in
    let played : List Move = agrees.1.0 in
    let most : length played ≤ 29 = at_most_29 (start_of problem) (hands_of problem dealt) played (dealt_is problem knows.setup dealt agrees.0) agrees.1.1 in
    omega (arith, most, acts_fewer (pone_of (start_of problem)) played, length-map (acts_of (pone_of (start_of problem)) played) event_of, ap length agrees.1.2)

-- the length of a history is that of the trail and of the opening
trail_long : (problem : Setup) (events : List TrailEvent) → length (history_of_trail problem events) ≡ length events + length problem.played
trail_long problem events =
    length-append (later_of_trail events) (played_events problem)
    ∙ (λ i. (length-map (reverse events) as_event ∙ length-reverse events) i + (length-map (played_back problem) event_of ∙ length-reverse problem.played) i)

pub trail_room : (know : Knowledge) (problem : Setup) (event : Event) (events : List TrailEvent) →
    KnowsAfter know problem (event ∷ history_of_trail problem events) → length events < 29
trail_room know problem event events knows =
    omega (arith, history_short know problem (event ∷ history_of_trail problem events) knows, trail_long problem events)

pub game_room : (know : Knowledge) (problem : Setup) (events : List TrailEvent) → KnowsAfter know problem (history_of_trail problem events) →
    length problem.played + length events ≤ 32
game_room know problem events knows =
    omega (arith, history_short know problem (history_of_trail problem events) knows, trail_long problem events)
