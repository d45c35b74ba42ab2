-- What is worked out of an event by what contracts see of the nodes is what the definition comes to.
use Rattle.std.specs.Prelude.{List, fold}
use Rattle.sp_gossip.specs.Gossip.{Chain, run, State}
use Rattle.sp_gossip.specs.Network.{AreInState, Network, network_after}
use Rattle.sp_gossip.specs.declared.event.Event.{Event}

-- Nodes that are in a state are, after any events one after another, in the state after these
abbrev pub StayInState : Type 0
StayInState = (c : Chain) (s : State) (net : Network) (events : List Event) → AreInState c s net → AreInState c (run c s events) (fold network_after net events)
