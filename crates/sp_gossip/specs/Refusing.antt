-- Why some events aren't all taken, and what the nodes are then.
use Rattle.std.specs.Prelude.{List, [], ◌∷◌, Option, Some, None}
use Rattle.sp_gossip.specs.Network.{fault_of, Network, network_after}
use Rattle.sp_gossip.specs.declared.event.Event.{Event}
use Rattle.sp_gossip.specs.declared.step.StepFault.{StepFault}

-- the first of two that is one
abbrev pub first_or : Option StepFault → Option StepFault → Option StepFault
first_or (Some fault) other = Some fault
first_or None other = other

-- the fault of the first event that has one, each over the nodes as those before it left them
unfoldable pub first_fault : Network → List Event → Option StepFault
first_fault net [] = None
first_fault net (event ∷ events) = first_or (fault_of net event) (first_fault (network_after net event) events)

-- these nodes where there is a fault, else the others
abbrev pub stopped_by : Option StepFault → Network → Network → Network
stopped_by (Some fault) net other = net
stopped_by None net other = other

-- the nodes as the events before that one left them
unfoldable pub left_by : Network → List Event → Network
left_by net [] = net
left_by net (event ∷ events) = stopped_by (fault_of net event) net (left_by (network_after net event) events)
