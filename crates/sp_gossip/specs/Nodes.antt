-- What the nodes keep: an invariant, which no public contract cites; and what becomes of an effect, for private functions.
use Rattle.std.specs.Prelude.{ℕ, ◌≡◌, ◌≤◌, ◌<◌, ◌&&◌, All, nat_le, is_some, Bool, true, false, List, length, map, Some, None, Result, Ok, Err}
use Rattle.sp_block.specs.Block.{ReadBlock}
use Rattle.sp_model.specs.declared.profile.Profile.{Profile}
use Rattle.sp_gossip.specs.Gossip.{Effect}
use Rattle.sp_gossip.specs.Network.{fault_of, Network, network_after, network_by, step_by, step_of}
use Rattle.sp_gossip.specs.Peer.{Keeper}
use Rattle.sp_gossip.specs.declared.event.Event.{Event}
use Rattle.sp_gossip.specs.declared.packet.Packet.{Packet}
use Rattle.sp_gossip.specs.declared.step.Step.{Step}
use Rattle.sp_gossip.specs.declared.step.StepFault.{StepFault}
use Rattle.sp_gossip.specs.declared.step.StepFault.TheVariants.{NoNode, NoPacket, Many, Memory}

-- it has this profile and these bits of work
pub record HasTerms (profile : Profile) (bits : ℕ) (peer : Keeper) : Type 0 where
  pub profile_is : peer.profile ≡ profile
  pub bits_are : peer.bits ≡ bits

-- a packet from one of so many nodes to one of them
pub record IsBetween (nodes : ℕ) (packet : Packet) : Type 0 where
  pub from : packet.from < nodes
  pub to : packet.to < nodes

pub record AreNodes (profile : Profile) (bits : ℕ) (peers : List Keeper) (packets : List Packet) (makes : ℕ) : Type 0 where
  pub some : 1 ≤ length peers
  pub few : length peers ≤ 16
  pub few_packets : length packets ≤ 4096
  pub few_makes : makes ≤ 128
  pub between : All (IsBetween (length peers)) packets
  pub terms : All (HasTerms profile bits) peers

abbrev pub kept_by_peer : Keeper → List ReadBlock
kept_by_peer peer = peer.kept

-- what contracts see of them
abbrev pub network : Profile → ℕ → List Keeper → List Packet → ℕ → Bool → Network
network profile bits peers packets makes live = record { profile = profile; bits = bits; kept = map kept_by_peer peers; packets = packets; makes = makes; live = live }

-- whether an effect sends a packet too many
abbrev pub is_full : Network → Effect → Bool
is_full net e = is_some e.packet && nat_le 4096 (length net.packets)

-- what was answered, and what is there now, where this was to happen, so many events Make being taken then
abbrev pub Happened : Network → Effect → ℕ → Network → Result Step StepFault → Type 0
Happened old e makes new (Ok step) = (is_full old e ≡ false) × (step ≡ step_by old e) × (new ≡ network_by old e makes)
Happened old e makes new (Err NoNode) = ⊥
Happened old e makes new (Err NoPacket) = ⊥
Happened old e makes new (Err Many) = (is_full old e ≡ true) × (new ≡ old)
Happened old e makes new (Err Memory) = new.live ≡ false

-- the same for an event
abbrev pub Took : Network → Event → Network → Result Step StepFault → Type 0
Took old event new (Ok step) = (fault_of old event ≡ None) × (step ≡ step_of old event) × (new ≡ network_after old event)
Took old event new (Err NoNode) = (fault_of old event ≡ Some NoNode) × (new ≡ old)
Took old event new (Err NoPacket) = (fault_of old event ≡ Some NoPacket) × (new ≡ old)
Took old event new (Err Many) = (fault_of old event ≡ Some Many) × (new ≡ old)
Took old event new (Err Memory) = new.live ≡ false
