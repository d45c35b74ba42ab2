-- What nodes that send each other blocks write by a script, line by line, up to its first fault.
use Rattle.std.specs.Prelude.{ℕ, ◌≡◌, ◌<◌, ◌+◌, true, List, [], ◌∷◌, ◌++◌, codes, flat_map, length, map, replicate, slice_get, slice_index_or, Option, Some, None, Result, Ok, Err}
use Rattle.std.specs.Fmt.{decimal}
use Rattle.sp_block.specs.Block.{ReadBlock}
use Rattle.sp_block.specs.declared.fault.BlockFault.{BlockFault}
use Rattle.sp_engine.specs.Blocks.{block_in}
use Rattle.sp_engine.specs.declared.answer.Answer.{Answer}
use Rattle.sp_model.specs.declared.profile.Profile.{Profile}
use Rattle.sp_names.specs.Labels.{AllLabels}
use Rattle.sp_play.specs.Scene.{Scene, scene}
use Rattle.sp_play.specs.Source.{scenario_limit}
use Rattle.sp_play.specs.declared.why.LineFault.{LineFault}
use Rattle.sp_report.specs.Lines.{answer_text}
use Rattle.sp_report.specs.Texts.{report_text}
use Rattle.sp_gossip.specs.Cut.{line_count, parts}
use Rattle.sp_gossip.specs.Gossip.{kept_by_node}
use Rattle.sp_gossip.specs.Network.{fault_of, Network, network_after, step_of}
use Rattle.sp_gossip.specs.Script.{begins_with_nodes, Reading, Said, script}
use Rattle.sp_gossip.specs.declared.event.Event.{Event}
use Rattle.sp_gossip.specs.declared.event.Event.TheVariants.{Make}
use Rattle.sp_gossip.specs.declared.packet.Kind.{Kind}
use Rattle.sp_gossip.specs.declared.packet.Kind.TheVariants.{Have, Want, Blocks}
use Rattle.sp_gossip.specs.declared.packet.Packet.{Packet}
use Rattle.sp_gossip.specs.declared.script_line.Made.{Made}
use Rattle.sp_gossip.specs.declared.script_line.ScriptLine.{ScriptLine}
use Rattle.sp_gossip.specs.declared.script_line.ScriptLine.TheVariants.{Give, Act, Report}
use Rattle.sp_gossip.specs.declared.script_line.ScriptWhy.{ScriptWhy}
use Rattle.sp_gossip.specs.declared.script_line.ScriptWhy.TheVariants as why
use Rattle.sp_gossip.specs.declared.step.Step.{Step}
use Rattle.sp_gossip.specs.declared.step.StepFault.{StepFault}
use Rattle.sp_gossip.specs.declared.step.StepFault.TheVariants as faults
use Rattle.spectre.specs.Lines.{fault_line}
use Rattle.spectre.specs.declared.script_fault.ScriptFault.{ScriptFault}
use Rattle.spectre.specs.declared.script_fault.ScriptReason.{ScriptReason}
use Rattle.spectre.specs.declared.script_fault.ScriptReason.TheVariants as reasons

-- ---- lines

-- at which node, and a last byte
unfoldable pub at_text : ℕ → ℕ → List ℕ
at_text node last = codes "at " ++ decimal node ++ last ∷ []

-- an answer at a node
abbrev pub answer_at_text : AllLabels → ℕ → Answer → List ℕ
answer_at_text labels node answer = at_text node 32 ++ answer_text labels answer

abbrev pub kind_text : Kind → List ℕ
kind_text Have = codes "have"
kind_text Want = codes "want"
kind_text Blocks = codes "blocks"

-- a packet that is sent: its number, its kind, and of how many blocks it has the ids
unfoldable pub sent_text : ℕ → Packet → List ℕ
sent_text number packet = codes "sent " ++ decimal number ++ 32 ∷ [] ++ kind_text packet.kind ++ 32 ∷ [] ++ decimal (length packet.ids) ++ 10 ∷ []

-- nothing arrives, and no packet is sent
unfoldable pub idle_text : List ℕ
idle_text = codes "idle" ++ 10 ∷ []

abbrev pub reason_text : ScriptReason → List ℕ
reason_text reasons.Byte = codes "byte"
reason_text reasons.Command = codes "command"
reason_text reasons.Form = codes "form"
reason_text reasons.Number = codes "number"
reason_text reasons.Node = codes "node"
reason_text reasons.Packet = codes "packet"
reason_text reasons.Unknown = codes "unknown"
reason_text reasons.Many = codes "many"
reason_text reasons.Nodes = codes "nodes"

-- lines are numbered from 1
unfoldable pub script_fault_line : ℕ → ScriptReason → List ℕ
script_fault_line number reason = codes "fault line " ++ decimal number ++ 32 ∷ [] ++ reason_text reason ++ 10 ∷ []

abbrev pub script_fault_text : Option ScriptFault → List ℕ
script_fault_text None = []
script_fault_text (Some fault) = script_fault_line fault.line fault.reason

-- ---- what a line comes to

-- a packet, where one of this number was sent
abbrev pub packet_text : ℕ → Option Packet → List ℕ
packet_text number None = []
packet_text number (Some packet) = sent_text number packet

abbrev pub sent_or_idle : List Packet → Option ℕ → List ℕ
sent_or_idle packets None = idle_text
sent_or_idle packets (Some number) = packet_text number (slice_get packets number)

-- the answers to what arrives; else the packet that is sent, or that nothing is
abbrev pub outcome_text : AllLabels → List Packet → ℕ → List Answer → Option ℕ → List ℕ
outcome_text labels packets node [] sent = sent_or_idle packets sent
outcome_text labels packets node (answer ∷ answers) sent = flat_map (answer_at_text labels node) (answer ∷ answers)

-- what a step writes, where these are all packets that were sent by then
unfoldable pub step_text : AllLabels → List Packet → Step → List ℕ
step_text labels packets step = outcome_text labels packets step.at step.answers step.sent

-- the report of a node
unfoldable pub node_text : AllLabels → Network → ℕ → List ℕ
node_text labels net node = at_text node 10 ++ report_text net.profile labels (kept_by_node net.kept node)

-- what a line writes, what the nodes are behind it, and why it can't be done
pub record Turn : Type 0 where
  pub text : List ℕ
  pub net : Network
  pub fault : Option ScriptReason

-- the reason of an event that is refused; want of memory is none
abbrev pub reason_of : StepFault → Option ScriptReason
reason_of faults.NoNode = Some reasons.Node
reason_of faults.NoPacket = Some reasons.Packet
reason_of faults.Many = Some reasons.Many
reason_of faults.Memory = None

abbrev pub turn_by : AllLabels → Network → Event → Option StepFault → Turn
turn_by labels net event None = record { text = step_text labels (network_after net event).packets (step_of net event); net = network_after net event; fault = None }
turn_by labels net event (Some fault) = record { text = []; net = net; fault = reason_of fault }

unfoldable pub event_turn : AllLabels → Network → Event → Turn
event_turn labels net event = turn_by labels net event (fault_of net event)

-- the bytes of the made block of this number
abbrev pub bytes_of : Made → List ℕ
bytes_of made = made.bytes

abbrev pub bytes_at : List Made → ℕ → List ℕ
bytes_at blocks number = slice_index_or (map bytes_of blocks) number []

abbrev pub turn : AllLabels → List Made → Network → ScriptLine → Turn
turn labels blocks net (Give node block) = event_turn labels net (Make node (bytes_at blocks block))
turn labels blocks net (Act event) = event_turn labels net event
turn labels blocks net (Report node) = record { text = node_text labels net node; net = net; fault = None }

-- ---- what all lines come to

-- what is written, and the fault behind it
pub record Told : Type 0 where
  pub text : List ℕ
  pub fault : Option ScriptFault

abbrev pub behind : List ℕ → Told → Told
behind text rest = record { text = text ++ rest.text; fault = rest.fault }

-- a line that can't be done ends it
abbrev pub play_on : ℕ → List ℕ → Network → Option ScriptReason → (Network → Told) → Told
play_on number text net None rest = behind text (rest net)
play_on number text net (Some reason) rest = record { text = text; fault = Some (record { line = number; reason = reason }) }

-- the lines one after another, and then the fault that was found when they were read
unfoldable pub play : AllLabels → List Made → Option ScriptFault → Network → List (ℕ × ScriptLine) → Told
play labels blocks fault net [] = record { text = []; fault = fault }
play labels blocks fault net (line ∷ lines) =
    let now = turn labels blocks net line.1 in play_on line.0 now.text now.net now.fault (λ after. play labels blocks fault after lines)

-- so many nodes that keep genesis alone
abbrev pub nodes_on : Profile → ℕ → ReadBlock → ℕ → Network
nodes_on profile bits genesis nodes = record { profile = profile; bits = bits; kept = replicate nodes (genesis ∷ []); packets = []; makes = 0; live = true }

-- the reason of a line that was read
abbrev pub reason_read : ScriptWhy → ScriptReason
reason_read why.Byte = reasons.Byte
reason_read why.Command = reasons.Command
reason_read why.Form = reasons.Form
reason_read why.Number = reasons.Number
reason_read why.Node = reasons.Node
reason_read why.Unknown = reasons.Unknown

abbrev pub fault_read : Option (ℕ × ScriptWhy) → Option ScriptFault
fault_read None = None
fault_read (Some fault) = Some (record { line = fault.0; reason = reason_read fault.1 })

-- the blocks that a scene makes
abbrev pub made_of : List ℕ × List ℕ → Made
made_of made = record { name = made.0; bytes = made.1 }

abbrev pub blocks_of : Scene → List Made
blocks_of scene = map made_of scene.made

-- the nodes keep a scene's genesis block, in its profile, and its names are the labels
abbrev pub play_in : Scene → Reading → ℕ → Result ReadBlock BlockFault → Told
play_in scene reading nodes (Ok genesis) = play scene.names (blocks_of scene) (fault_read reading.fault) (nodes_on scene.profile scene.bits genesis nodes) reading.lines
play_in scene reading nodes (Err fault) = record { text = []; fault = None }

-- a faulty line `nodes` stands alone
abbrev pub play_by : Scene → Reading → Option ℕ → Told
play_by scene reading None = record { text = []; fault = fault_read reading.fault }
play_by scene reading (Some nodes) = play_in scene reading nodes (block_in true scene.genesis)

abbrev pub play_said : Scene → Said → Told
play_said scene said = play_by scene said.reading said.nodes

-- a scene's script, whose first line has this number; where there is none, that is the fault
abbrev pub play_script : Scene → ℕ → Option (List ℕ) → Told
play_script scene number None = record { text = []; fault = Some (record { line = number; reason = reasons.Nodes }) }
play_script scene number (Some text) = play_said scene (script number (blocks_of scene) text)

-- what they write, with the line of the fault
abbrev pub script_text : Told → List ℕ
script_text told = told.text ++ script_fault_text told.fault

-- a script is read from its line `nodes` on
pub record IsScript (text : List ℕ) : Type 0 where
  pub begins : begins_with_nodes text ≡ true
  pub short : length text < scenario_limit

-- ---- what a text comes to

-- the fault of the scenario, or that of the script
pub data Fault : Type 0 where
  InScenario : LineFault → Fault
  InScript : ScriptFault → Fault

pub record Gossip : Type 0 where
  pub text : List ℕ
  pub fault : Option Fault

abbrev pub fault_told : Option ScriptFault → Option Fault
fault_told None = None
fault_told (Some fault) = Some (InScript fault)

-- a fault of the scenario stands alone
abbrev pub gossip_in : Scene → ℕ → Option (List ℕ) → Option LineFault → Gossip
gossip_in scene number text (Some fault) = record { text = []; fault = Some (InScenario fault) }
gossip_in scene number text None = let told = play_script scene number text in record { text = told.text; fault = fault_told told.fault }

-- the lines before the line `nodes` are a scenario
unfoldable pub gossip : List ℕ → Gossip
gossip text =
    let scenario = (parts text).scenario in
    gossip_in (scene scenario) (line_count scenario + 1) (parts text).script (scene scenario).fault

abbrev pub told_line : Fault → List ℕ
told_line (InScenario fault) = fault_line fault.line fault.why
told_line (InScript fault) = script_fault_line fault.line fault.reason

abbrev pub told_text : Option Fault → List ℕ
told_text None = []
told_text (Some fault) = told_line fault

abbrev pub gossip_text : Gossip → List ℕ
gossip_text g = g.text ++ told_text g.fault

-- what is written for a text
abbrev pub gossiped : List ℕ → List ℕ
gossiped text = gossip_text (gossip text)
