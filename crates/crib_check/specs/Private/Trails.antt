-- The history of the turns that the code keeps in a trail.
use Rattle.std.specs.Prelude.{List, ◌++◌, map, reverse}
use Rattle.crib_play.specs.History.{Event, Own, Theirs}
use Rattle.crib_problem.specs.Setup.{Setup}
use Rattle.crib_know.specs.Knowledge.{played_events}
use Rattle.crib_check.specs.declared.trails.Event.{Event as TrailEvent}
use Rattle.crib_check.specs.declared.trails.Event.TheVariants as trail

-- an event that the code keeps in a trail, as one of a history
abbrev pub as_event : TrailEvent → Event
as_event (trail.Own turn) = Own turn
as_event (trail.Theirs letter) = Theirs letter

-- the events of a trail, the last one first. The trail has them in the order of play
abbrev pub later_of_trail : List TrailEvent → List Event
later_of_trail events = map as_event (reverse events)

-- the history of the opening and then the events of a trail
abbrev pub history_of_trail : Setup → List TrailEvent → List Event
history_of_trail problem events = later_of_trail events ++ played_events problem
