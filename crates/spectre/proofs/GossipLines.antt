-- What nodes write by a script are whole lines: each text ends with byte 10.
use Rattle.std.proofs.Common.{◌≡◌, inl, inr, ℕ, ◌+◌, false, true, List, [], ◌∷◌, ◌++◌, length, Option, Some, None, IsSome, Result, Ok, Err, refl}
use Rattle.std.specs.Prelude.{codes, slice_get}
use Rattle.std.specs.Fmt.{decimal}
use Rattle.sp_block.specs.Block.{ReadBlock}
use Rattle.sp_block.specs.declared.fault.BlockFault.{BlockFault}
use Rattle.sp_engine.specs.Blocks.{block_in}
use Rattle.sp_engine.specs.declared.answer.Answer.{Answer}
use Rattle.sp_names.specs.Labels.{AllLabels}
use Rattle.sp_play.specs.Scene.{Scene, scene}
use Rattle.sp_play.specs.declared.why.LineFault.{LineFault}
use Rattle.sp_gossip.specs.Cut.{line_count, parts}
use Rattle.sp_gossip.specs.Gossip.{kept_by_node}
use Rattle.sp_gossip.specs.Network.{fault_of, Network}
use Rattle.sp_gossip.specs.Script.{Reading}
use Rattle.sp_gossip.specs.declared.event.Event.{Event}
use Rattle.sp_gossip.specs.declared.event.Event.TheVariants.{Make}
use Rattle.sp_gossip.specs.declared.packet.Packet.{Packet}
use Rattle.sp_gossip.specs.declared.script_line.Made.{Made}
use Rattle.sp_gossip.specs.declared.script_line.ScriptLine.{ScriptLine}
use Rattle.sp_gossip.specs.declared.script_line.ScriptLine.TheVariants.{Give, Act, Report}
use Rattle.sp_gossip.specs.declared.step.Step.{Step}
use Rattle.sp_gossip.specs.declared.step.StepFault.{StepFault}
use Rattle.spectre.specs.Gossips.{answer_at_text, at_text, bytes_at, event_turn, Fault, gossip, gossip_in, idle_text, kind_text, node_text, outcome_text, packet_text, play, play_by, play_in, play_on, play_script, sent_or_idle, sent_text, step_text, Told, turn, turn_by}
use Rattle.spectre.specs.LastLine.{AreLines}
use Rattle.spectre.specs.declared.script_fault.ScriptFault.{ScriptFault}
use Rattle.spectre.specs.declared.script_fault.ScriptReason.{ScriptReason}
use Rattle.spectre.proofs.WholeLines.{answer_ends, behind, each, join, report_lines}

-- a fault that there is
pub told_fault : (o : Option Fault) → IsSome o → (fault : Fault) × (o ≡ Some fault)
told_fault None h = absurd (let no : false ≡ true = h in cc)
told_fault (Some fault) h = (fault, refl)

-- ---- one line

answer_lines : (labels : AllLabels) (node : ℕ) (answer : Answer) → AreLines (answer_at_text labels node answer)
answer_lines labels node answer = inr (behind (at_text node 32) (answer_ends labels answer))

sent_line : (number : ℕ) (packet : Packet) → AreLines (sent_text number packet)
unfolding sent_text
sent_line number packet = inr (codes "sent " ++ decimal number ++ 32 ∷ [] ++ kind_text packet.kind ++ 32 ∷ [] ++ decimal (length packet.ids), refl)

idle_line : AreLines idle_text
unfolding idle_text
idle_line = inr (codes "idle", refl)

node_lines : (labels : AllLabels) (net : Network) (node : ℕ) → AreLines (node_text labels net node)
unfolding node_text at_text
node_lines labels net node = join _ _ (inr (codes "at " ++ decimal node, refl)) (report_lines net.profile labels (kept_by_node net.kept node))

packet_lines : (number : ℕ) (packet : Option Packet) → AreLines (packet_text number packet)
packet_lines number None = inl refl
packet_lines number (Some packet) = sent_line number packet

sent_lines : (packets : List Packet) (sent : Option ℕ) → AreLines (sent_or_idle packets sent)
sent_lines packets None = idle_line
sent_lines packets (Some number) = packet_lines number (slice_get packets number)

outcome_lines : (labels : AllLabels) (packets : List Packet) (node : ℕ) (answers : List Answer) (sent : Option ℕ) → AreLines (outcome_text labels packets node answers sent)
outcome_lines labels packets node [] sent = sent_lines packets sent
outcome_lines labels packets node (answer ∷ answers) sent = each (answer_at_text labels node) (answer_lines labels node) (answer ∷ answers)

step_lines : (labels : AllLabels) (packets : List Packet) (step : Step) → AreLines (step_text labels packets step)
unfolding step_text
step_lines labels packets step = outcome_lines labels packets step.at step.answers step.sent

-- ---- all lines

by_fault : (labels : AllLabels) (net : Network) (event : Event) (fault : Option StepFault) → AreLines (turn_by labels net event fault).text
by_fault labels net event None = step_lines labels _ _
by_fault labels net event (Some fault) = inl refl

event_lines : (labels : AllLabels) (net : Network) (event : Event) → AreLines (event_turn labels net event).text
unfolding event_turn
event_lines labels net event = by_fault labels net event (fault_of net event)

turn_lines : (labels : AllLabels) (blocks : List Made) (net : Network) (line : ScriptLine) → AreLines (turn labels blocks net line).text
turn_lines labels blocks net (Give node block) = event_lines labels net (Make node (bytes_at blocks block))
turn_lines labels blocks net (Act event) = event_lines labels net event
turn_lines labels blocks net (Report node) = node_lines labels net node

on_lines : (number : ℕ) (text : List ℕ) (net : Network) (fault : Option ScriptReason) (rest : Network → Told) → AreLines text → ((after : Network) → AreLines (rest after).text) → AreLines (play_on number text net fault rest).text
on_lines number text net None rest lines more = join text (rest net).text lines (more net)
on_lines number text net (Some reason) rest lines more = lines

play_lines : (labels : AllLabels) (blocks : List Made) (fault : Option ScriptFault) (net : Network) (lines : List (ℕ × ScriptLine)) → AreLines (play labels blocks fault net lines).text
unfolding play
play_lines labels blocks fault net [] = inl refl
play_lines labels blocks fault net (line ∷ lines) =
    on_lines line.0 (turn labels blocks net line.1).text (turn labels blocks net line.1).net (turn labels blocks net line.1).fault (λ after. play labels blocks fault after lines)
    (turn_lines labels blocks net line.1) (λ after. play_lines labels blocks fault after lines)

in_lines : (s : Scene) (reading : Reading) (nodes : ℕ) (r : Result ReadBlock BlockFault) → AreLines (play_in s reading nodes r).text
in_lines s reading nodes (Ok genesis) = play_lines _ _ _ _ _
in_lines s reading nodes (Err fault) = inl refl

by_lines : (s : Scene) (reading : Reading) (nodes : Option ℕ) → AreLines (play_by s reading nodes).text
by_lines s reading None = inl refl
by_lines s reading (Some nodes) = in_lines s reading nodes (block_in true s.genesis)

script_lines : (s : Scene) (number : ℕ) (text : Option (List ℕ)) → AreLines (play_script s number text).text
script_lines s number None = inl refl
script_lines s number (Some text) = by_lines s _ _

whole_lines : (s : Scene) (number : ℕ) (text : Option (List ℕ)) (fault : Option LineFault) → AreLines (gossip_in s number text fault).text
whole_lines s number text None = script_lines s number text
whole_lines s number text (Some fault) = inl refl

pub gossip_lines : (text : List ℕ) → AreLines (gossip text).text
unfolding gossip
gossip_lines text = whole_lines (scene (parts text).scenario) (line_count (parts text).scenario + 1) (parts text).script (scene (parts text).scenario).fault
