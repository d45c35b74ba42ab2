-- The playing of a script, line by line: what each line comes to, what was written after some of them, and what is left.
use Rattle.std.proofs.Common.{◌≡◌, ◌⊎◌, inl, inr, ℕ, zero, suc, ◌+◌, ◌<◌, ◌≤◌, Bool, true, false, eqb, cond, List, [], ◌∷◌, ◌++◌, length, map, take, drop, get_or, Option, Some, None, IfOk, IfSome, IsNone, IsSome, is_some, Result, Ok, Err, refl, sym, ap, ap₂, subst, ◌∙◌, add-one, length-append, arith}
use Rattle.std.specs.Prelude.{All, flat_map, replicate, slice_get}
use Rattle.std.specs.Io.KnownBytes.{Appends}
use Rattle.std.proofs.Math.ListN.{drop_of_length-le}
use Rattle.std.proofs.Math.Seq.{drop-cons}
use Rattle.std.proofs.lemmas.Bool.{eqb-true}
use Rattle.std.proofs.lemmas.List.{append-nil, length-drop, length-set, get_or-map, map-append, take_more}
use Rattle.std.proofs.lemmas.List.Elements.{All-get_or}
use Rattle.std.proofs.lemmas.Option.{get_or_from_slice_get}
use Rattle.sp_block.specs.Block.{ReadBlock}
use Rattle.sp_engine.specs.Arrivals.{kept_by_all}
use Rattle.sp_engine.specs.Blocks.{block_in}
use Rattle.sp_engine.specs.declared.answer.Answer.{Answer}
use Rattle.sp_io.specs.Whole.{AppendsFront, Wrote}
use Rattle.sp_io.proofs.Writing.{wrote_all, wrote_more, wrote_stops}
use Rattle.sp_model.specs.declared.profile.Profile.{Profile}
use Rattle.sp_names.specs.Labels.{AllLabels}
use Rattle.sp_play.specs.Scene.{Scene, scene}
use Rattle.sp_play.specs.Source.{scenario_limit}
use Rattle.sp_play.specs.declared.why.LineFault.{LineFault}
use Rattle.sp_gossip.specs.Cut.{line_count, parts}
use Rattle.sp_gossip.specs.Gossip.{sent_with, start}
use Rattle.sp_gossip.specs.Network.{AreInState, effect_in, fault_of, Network, network_after, number_of, step_of}
use Rattle.sp_gossip.specs.Script.{AsksAmong, begins_with_nodes, HasNumbers, Reading, Said, script}
use Rattle.sp_gossip.specs.declared.event.Event.{Event}
use Rattle.sp_gossip.specs.declared.event.Event.TheVariants.{Make}
use Rattle.sp_gossip.specs.declared.packet.Packet.{Packet}
use Rattle.sp_gossip.specs.declared.script_line.Made.{Made}
use Rattle.sp_gossip.specs.declared.script_line.ScriptLine.{ScriptLine}
use Rattle.sp_gossip.specs.declared.script_line.ScriptLine.TheVariants.{Give, Act, Report}
use Rattle.sp_gossip.specs.declared.step.Step.{Step}
use Rattle.sp_gossip.specs.declared.step.StepFault.{StepFault}
use Rattle.sp_gossip.specs.declared.step.StepFault.TheVariants as faults
use Rattle.spectre.specs.Ends.{EndsAs, EndsBy, EndsTask}
use Rattle.spectre.specs.Gossips.{answer_at_text, blocks_of, bytes_at, bytes_of, event_turn, fault_read, fault_told, gossip, gossip_in, gossip_text, idle_text, IsScript, made_of, nodes_on, outcome_text, packet_text, play, play_by, play_in, play_on, play_said, play_script, reason_of, script_fault_text, script_text, sent_or_idle, sent_text, step_text, Told, told_text, turn, Turn, turn_by}
use Rattle.spectre.specs.Lines.{fault_text}
use Rattle.spectre.specs.declared.ending.Ending.{Ending}
use Rattle.spectre.specs.declared.ending.Ending.TheVariants.{Whole, Faulty}
use Rattle.spectre.specs.declared.ending.Stop.{Stop}
use Rattle.spectre.specs.declared.purpose.Purpose.{Purpose}
use Rattle.spectre.specs.declared.purpose.Task.TheVariants.{Scenario, Gossip}
use Rattle.spectre.specs.declared.script_fault.ScriptFault.{ScriptFault}
use Rattle.spectre.specs.declared.script_fault.ScriptReason.{ScriptReason}

-- ---- a list that is gone over from the first

pub next : {A : Type 0} (xs : List A) (i : ℕ) (x : A) → i < length xs → x ≡ get_or xs i x → drop i xs ≡ x ∷ drop (i + 1) xs
next xs i x lt is = drop-cons xs i x lt ∙ ap₂ (λ (y : _) (n : ℕ). y ∷ drop n xs) (sym is) (sym (add-one i))

pub next_text : {A : Type 0} (f : A → List ℕ) (xs : List A) (i : ℕ) (x : A) → i < length xs → x ≡ get_or xs i x → flat_map f (drop i xs) ≡ f x ++ flat_map f (drop (i + 1) xs)
next_text f xs i x lt is = ap (flat_map f) (next xs i x lt is)

pub last_text : {A : Type 0} (f : A → List ℕ) (xs : List A) (i : ℕ) → length xs ≤ i → flat_map f (drop i xs) ≡ []
last_text f xs i past = ap (flat_map f) (drop_of_length-le xs past)

-- ---- what a step writes

module _ (labels : AllLabels) (packets : List Packet) (step : Step) where
  by_answers : (answers : List Answer) → eqb (length answers) 0 ≡ false → flat_map (answer_at_text labels step.at) answers ≡ outcome_text labels packets step.at answers step.sent
  by_answers [] some = absurd cc
  by_answers (answer ∷ answers) some = refl

  pub answers_text : (answers : List Answer) → answers ≡ step.answers → eqb (length answers) 0 ≡ false → flat_map (answer_at_text labels step.at) answers ≡ step_text labels packets step
  unfolding step_text
  answers_text answers same some = by_answers answers some ∙ ap (λ (l : List Answer). outcome_text labels packets step.at l step.sent) same

  no_answers : (answers : List Answer) → eqb (length answers) 0 ≡ true → outcome_text labels packets step.at answers step.sent ≡ sent_or_idle packets step.sent
  no_answers [] none = refl
  no_answers (answer ∷ answers) none = (let e : length (answer ∷ answers) ≡ 0 = eqb-true (length (answer ∷ answers)) 0 none in absurd (omega (arith, e)))

  without : (answers : List Answer) → answers ≡ step.answers → eqb (length answers) 0 ≡ true → sent_or_idle packets step.sent ≡ step_text labels packets step
  unfolding step_text
  without answers same none = sym (ap (λ (l : List Answer). outcome_text labels packets step.at l step.sent) (sym same) ∙ no_answers answers none)

  pub packet_sent : (answers : List Answer) (number : ℕ) (packet : Packet) → answers ≡ step.answers → eqb (length answers) 0 ≡ true → step.sent ≡ Some number → slice_get packets number ≡ Some packet → sent_text number packet ≡ step_text labels packets step
  packet_sent answers number packet same none sent there =
      sym (ap (packet_text number) there) ∙ sym (ap (sent_or_idle packets) sent) ∙ without answers same none

  pub nothing_sent : (answers : List Answer) → answers ≡ step.answers → eqb (length answers) 0 ≡ true → step.sent ≡ None → idle_text ≡ step_text labels packets step
  nothing_sent answers same none sent = sym (ap (sent_or_idle packets) sent) ∙ without answers same none

-- ---- what an event comes to

module _ (labels : AllLabels) (old : Network) (event : Event) where
  pub happens : fault_of old event ≡ None → event_turn labels old event ≡ (let t : Turn = record { text = step_text labels (network_after old event).packets (step_of old event); net = network_after old event; fault = None } in t)
  unfolding event_turn
  happens none = ap (turn_by labels old event) none

  pub refused : (fault : StepFault) → fault_of old event ≡ Some fault → event_turn labels old event ≡ (let t : Turn = record { text = []; net = old; fault = reason_of fault } in t)
  unfolding event_turn
  refused fault some = ap (turn_by labels old event) some

  number_in : (packets : List Packet) (o : Option Packet) → IfSome (number_of packets o) (λ n. n < length (sent_with packets o))
  number_in packets None = tt
  number_in packets (Some packet) = omega (arith, length-append packets (packet ∷ []))

  pub sent_in : (step : Step) (new : Network) → step ≡ step_of old event → new ≡ network_after old event → IfSome step.sent (λ n. n < length new.packets)
  sent_in step new is now =
      subst (λ (s : Step). IfSome s.sent (λ n. n < length new.packets)) (sym is)
      (subst (λ (net : Network). IfSome (step_of old event).sent (λ n. n < length net.packets)) (sym now) (number_in old.packets (effect_in old event).packet))

  pub wrote_step : (step : Step) (new : Network) → step ≡ step_of old event → new ≡ network_after old event → fault_of old event ≡ None → step_text labels new.packets step ≡ (event_turn labels old event).text
  wrote_step step new is now none =
      ap₂ (λ (s : Step) (net : Network). step_text labels net.packets s) is now ∙ sym (ap (λ (t : Turn). t.text) (happens none))

  -- as many nodes as before, and live as before
  by_fault : (o : Option StepFault) → ((turn_by labels old event o).net.live ≡ old.live) × (length (turn_by labels old event o).net.kept ≡ length old.kept)
  by_fault None = (refl, length-set old.kept _ _)
  by_fault (Some fault) = (refl, refl)

  event_keeps : ((event_turn labels old event).net.live ≡ old.live) × (length (event_turn labels old event).net.kept ≡ length old.kept)
  unfolding event_turn
  event_keeps = by_fault (fault_of old event)

-- ---- what a line comes to

pub turn_keeps : (labels : AllLabels) (blocks : List Made) (net : Network) (line : ScriptLine) → ((turn labels blocks net line).net.live ≡ net.live) × (length (turn labels blocks net line).net.kept ≡ length net.kept)
turn_keeps labels blocks net (Give node block) = event_keeps labels net (Make node (bytes_at blocks block))
turn_keeps labels blocks net (Act event) = event_keeps labels net event
turn_keeps labels blocks net (Report node) = (refl, refl)

-- ---- the lines one after another

module _ (labels : AllLabels) (blocks : List Made) (fault : Option ScriptFault) (lines : List (ℕ × ScriptLine)) where
  -- what is left from this line on
  abbrev pub left : Network → ℕ → Told
  left net place = play labels blocks fault net (drop place lines)

  abbrev turned : Network → ℕ → ScriptLine → ℕ → Told
  turned net number line place = let now = turn labels blocks net line in play_on number now.text now.net now.fault (λ after. left after (place + 1))

  line_left : (net : Network) (place number : ℕ) (line : ScriptLine) → drop place lines ≡ (number, line) ∷ drop (place + 1) lines → left net place ≡ turned net number line place
  unfolding play
  line_left net place number line e = ap (play labels blocks fault net) e

  pub line_done : (net after : Network) (place number : ℕ) (line : ScriptLine) → drop place lines ≡ (number, line) ∷ drop (place + 1) lines → (turn labels blocks net line).fault ≡ None → after ≡ (turn labels blocks net line).net
      → left net place ≡ (let t : Told = record { text = (turn labels blocks net line).text ++ (left after (place + 1)).text; fault = (left after (place + 1)).fault } in t)
  line_done net after place number line e none now =
      line_left net place number line e
      ∙ ap (λ (o : Option ScriptReason). play_on number (turn labels blocks net line).text (turn labels blocks net line).net o (λ after. left after (place + 1))) none
      ∙ ap (λ (n : Network). let t : Told = record { text = (turn labels blocks net line).text ++ (left n (place + 1)).text; fault = (left n (place + 1)).fault } in t) (sym now)

  pub line_fails : (net : Network) (place number : ℕ) (line : ScriptLine) (reason : ScriptReason) → drop place lines ≡ (number, line) ∷ drop (place + 1) lines → (turn labels blocks net line).fault ≡ Some reason
      → left net place ≡ (let t : Told = record { text = (turn labels blocks net line).text; fault = Some (record { line = number; reason = reason }) } in t)
  line_fails net place number line reason e some =
      line_left net place number line e
      ∙ ap (λ (o : Option ScriptReason). play_on number (turn labels blocks net line).text (turn labels blocks net line).net o (λ after. left after (place + 1))) some

  pub none_left : (net : Network) (place : ℕ) → length lines ≤ place → left net place ≡ (let t : Told = record { text = []; fault = fault } in t)
  unfolding play
  none_left net place past = ap (play labels blocks fault net) (drop_of_length-le lines past)

  -- a text of a turn that isn't whole is a front of what is left, whatever its fault is
  pub line_stops : {a b c : Option (List ℕ)} {whole : List ℕ} (net : Network) (place number : ℕ) (line : ScriptLine) → drop place lines ≡ (number, line) ∷ drop (place + 1) lines
      → Wrote a b whole (left net place).text → AppendsFront b c (turn labels blocks net line).text → AppendsFront a c whole
  line_stops {a = a} {b = b} {c = c} {whole = whole} net place number line e w stopped =
      by (turn labels blocks net line).fault (subst (λ (t : Told). Wrote a b whole t.text) (line_left net place number line e) w)
    where
      by : (o : Option ScriptReason) → Wrote a b whole (play_on number (turn labels blocks net line).text (turn labels blocks net line).net o (λ after. left after (place + 1))).text → AppendsFront a c whole
      by None v = wrote_stops (turn labels blocks net line).text (left (turn labels blocks net line).net (place + 1)).text v stopped
      by (Some reason) v = wrote_stops (turn labels blocks net line).text [] (subst (λ (t : List ℕ). Wrote a b whole t) (sym (append-nil (turn labels blocks net line).text)) v) stopped

  -- a line that can't be done is the last one
  pub line_ends : (a b c : Option (List ℕ)) (whole : List ℕ) (net : Network) (place number : ℕ) (line : ScriptLine) (reason : ScriptReason) → drop place lines ≡ (number, line) ∷ drop (place + 1) lines → (turn labels blocks net line).fault ≡ Some reason
      → Wrote a b whole (left net place).text → Appends b c (turn labels blocks net line).text → Appends a c whole
  line_ends a b c whole net place number line reason e some w wrote =
      let here : List ℕ = (turn labels blocks net line).text in
      let v = subst (λ (t : Told). Wrote a b whole t.text) (line_fails net place number line reason e some) w in
      wrote_all {a = a} {b = c} {whole = whole} (wrote_more {a = a} {b = b} {c = c} {whole = whole} here [] (subst (λ (t : List ℕ). Wrote a b whole t) (sym (append-nil here)) v) wrote)

-- ---- the first state

same_network : (net : Network) (profile : Profile) (bits : ℕ) (kept : List (List ReadBlock)) (packets : List Packet) (makes : ℕ) (live : Bool)
    → net.profile ≡ profile → net.bits ≡ bits → net.kept ≡ kept → net.packets ≡ packets → net.makes ≡ makes → net.live ≡ live
    → net ≡ (let n : Network = record { profile = profile; bits = bits; kept = kept; packets = packets; makes = makes; live = live } in n)
same_network net profile bits kept packets makes live p b k s m l =
    ap (λ (x : Profile). let n : Network = record net { profile = x } in n) p
    ∙ ap (λ (x : ℕ). let n : Network = record net { profile = profile; bits = x } in n) b
    ∙ ap (λ (x : List (List ReadBlock)). let n : Network = record net { profile = profile; bits = bits; kept = x } in n) k
    ∙ ap (λ (x : List Packet). let n : Network = record net { profile = profile; bits = bits; kept = kept; packets = x } in n) s
    ∙ ap (λ (x : ℕ). let n : Network = record net { profile = profile; bits = bits; kept = kept; packets = packets; makes = x } in n) m
    ∙ ap (λ (x : Bool). let n : Network = record net { profile = profile; bits = bits; kept = kept; packets = packets; makes = makes; live = x } in n) l

genesis_alone : (bits : ℕ) (genesis : ReadBlock) (nodes : ℕ) → map (kept_by_all bits genesis) (replicate nodes []) ≡ replicate nodes (genesis ∷ [])
genesis_alone bits genesis zero = refl
genesis_alone bits genesis (suc nodes) = ap (λ (rest : List (List ReadBlock)). (genesis ∷ []) ∷ rest) (genesis_alone bits genesis nodes)

pub first_network : (profile : Profile) (bits : ℕ) (genesis : ReadBlock) (nodes : ℕ) (net : Network)
    → AreInState (record { profile = profile; bits = bits; genesis = genesis }) (start nodes) net → net.makes ≡ 0 → net.live ≡ true → net ≡ nodes_on profile bits genesis nodes
first_network profile bits genesis nodes net are none live =
    same_network net profile bits (replicate nodes (genesis ∷ [])) [] 0 true are.profile are.bits (are.kept ∙ genesis_alone bits genesis nodes) are.packets none live

pub first_of : {E : Type 0} (r : Result Network E) (profile : Profile) (bits : ℕ) (genesis : ReadBlock) (nodes : ℕ)
    → IfOk r (AreInState (record { profile = profile; bits = bits; genesis = genesis }) (start nodes)) → IfOk r (λ net. net.makes ≡ 0) → IfOk r (λ net. net.live ≡ true) → IfOk r (λ net. net ≡ nodes_on profile bits genesis nodes)
first_of (Ok net) profile bits genesis nodes are none live = first_network profile bits genesis nodes net are none live
first_of (Err e) profile bits genesis nodes are none live = tt

-- ---- the line at a place

pub line_at : (lines : List (ℕ × ScriptLine)) (place : ℕ) (line : ℕ × ScriptLine) → place < length lines → slice_get lines place ≡ Some line → drop place lines ≡ line ∷ drop (place + 1) lines
line_at lines place line lt there = next lines place line lt (sym (get_or_from_slice_get lines place line line there))

pub asks_at : (nodes now blocks : ℕ) (lines : List (ℕ × ScriptLine)) (place : ℕ) (line : ℕ × ScriptLine) → All (HasNumbers nodes blocks) lines → place < length lines → slice_get lines place ≡ Some line → now ≡ nodes → AsksAmong now blocks line.1
asks_at nodes now blocks lines place line all lt there same =
    subst (λ (n : ℕ). AsksAmong n blocks line.1) (sym same)
    (subst (HasNumbers nodes blocks) (get_or_from_slice_get lines place line line there) (All-get_or (HasNumbers nodes blocks) lines place line lt all))

-- ---- a script by a scene's nodes

pub played_in : (s : Scene) (reading : Reading) (nodes : ℕ) (labels : AllLabels) (blocks : List Made) (net : Network) (profile : Profile) (bits : ℕ) (genesis : ReadBlock)
    → labels ≡ s.names → blocks ≡ blocks_of s → net ≡ nodes_on profile bits genesis nodes → profile ≡ s.profile → bits ≡ s.bits → genesis.bytes ≡ s.genesis → block_in true genesis.bytes ≡ Ok genesis
    → play labels blocks (fault_read reading.fault) net reading.lines ≡ play_by s reading (Some nodes)
played_in s reading nodes labels blocks net profile bits genesis l b n p w same spelled =
    ap (λ (x : AllLabels). play x blocks (fault_read reading.fault) net reading.lines) l
    ∙ ap (λ (x : List Made). play s.names x (fault_read reading.fault) net reading.lines) b
    ∙ ap (λ (x : Network). play s.names (blocks_of s) (fault_read reading.fault) x reading.lines) (n ∙ ap (λ (x : Profile). nodes_on x bits genesis nodes) p ∙ ap (λ (x : ℕ). nodes_on s.profile x genesis nodes) w)
    ∙ sym (ap (play_in s reading nodes) (ap (block_in true) (sym same) ∙ spelled))

pub played_by : (s : Scene) (number : ℕ) (o : Option (List ℕ)) (text : List ℕ) (blocks : List Made) (said : Said) (nodes : Option ℕ)
    → o ≡ Some text → blocks ≡ blocks_of s → said ≡ script number blocks text → said.nodes ≡ nodes → play_by s said.reading nodes ≡ play_script s number o
played_by s number o text blocks said nodes some b is count =
    ap (play_by s said.reading) (sym count)
    ∙ ap (play_said s) (is ∙ ap (λ (x : List Made). script number x text) b)
    ∙ ap (play_script s number) (sym some)

-- ---- how it ends

pub ends_so : (r : Result Ending Stop) (o : Option ScriptFault) → (r ≡ Ok Whole → IsNone o) → (r ≡ Ok Faulty → IsSome o) → IfOk r (EndsBy o)
ends_so (Ok Whole) o whole faulty = whole refl
ends_so (Ok Faulty) o whole faulty = faulty refl
ends_so (Err stop) o whole faulty = tt

pub told_fault_text : (o : Option ScriptFault) → told_text (fault_told o) ≡ script_fault_text o
told_fault_text None = refl
told_fault_text (Some fault) = refl

told_ends : (o : Option ScriptFault) (e : Ending) → EndsBy o e → EndsBy (fault_told o) e
told_ends None Whole h = h
told_ends None Faulty h = h
told_ends (Some fault) Whole h = h
told_ends (Some fault) Faulty h = h

module _ (s : Scene) (number : ℕ) (text : Option (List ℕ)) where
  -- the scene has a fault
  pub fault_alone : (o : Option LineFault) → is_some o ≡ true → fault_text o ≡ gossip_text (gossip_in s number text o)
  fault_alone None some = absurd cc
  fault_alone (Some fault) some = refl

  pub ends_alone : (r : Result Ending Stop) (o : Option LineFault) → is_some o ≡ true → (r ≡ Ok Whole → IsNone o) → IfOk r (EndsBy (gossip_in s number text o).fault)
  ends_alone (Ok Whole) None some whole = absurd cc
  ends_alone (Ok Whole) (Some fault) some whole = whole refl
  ends_alone (Ok Faulty) None some whole = absurd cc
  ends_alone (Ok Faulty) (Some fault) some whole = refl
  ends_alone (Err stop) o some whole = tt

  -- it has none
  pub script_behind : (o : Option LineFault) → is_some o ≡ false → script_text (play_script s number text) ≡ gossip_text (gossip_in s number text o)
  script_behind None none = ap (λ (t : List ℕ). (play_script s number text).text ++ t) (sym (told_fault_text (play_script s number text).fault))
  script_behind (Some fault) none = absurd cc

  pub ends_behind : (r : Result Ending Stop) (o : Option LineFault) → is_some o ≡ false → IfOk r (EndsBy (play_script s number text).fault) → IfOk r (EndsBy (gossip_in s number text o).fault)
  ends_behind (Ok e) None none h = told_ends (play_script s number text).fault e h
  ends_behind (Ok e) (Some fault) none h = absurd cc
  ends_behind (Err stop) o none h = tt

-- ---- the whole text

cut_script : (found : Bool) (text : List ℕ) (o : Option (List ℕ)) → o ≡ cond found (Some text) None → (found ≡ true → begins_with_nodes text ≡ true) → length text < scenario_limit → IfSome o IsScript
cut_script true text o is begins short = subst (λ (x : Option (List ℕ)). IfSome x IsScript) (sym is) record { begins = begins refl; short = short }
cut_script false text o is begins short = subst (λ (x : Option (List ℕ)). IfSome x IsScript) (sym is) tt

pub script_there : (found : Bool) (place : ℕ) (text : List ℕ) (o : Option (List ℕ)) → o ≡ cond found (Some (drop place text)) None → (found ≡ true → begins_with_nodes (drop place text) ≡ true) → length text < scenario_limit → IfSome o IsScript
script_there found place text o is begins short = cut_script found (drop place text) o is begins (omega (arith, short, length-drop place text))

pub whole_text : (text scenario : List ℕ) (s : Scene) (lines number : ℕ) (o : Option (List ℕ)) → scenario ≡ (parts text).scenario → s ≡ scene scenario → o ≡ (parts text).script → lines ≡ line_count (parts text).scenario → number ≡ lines + 1
    → gossip_in s number o s.fault ≡ gossip text
unfolding gossip
whole_text text scenario s lines number o front is rest count next =
    let is_scene : s ≡ scene (parts text).scenario = is ∙ ap scene front in
    ap (λ (x : Scene). gossip_in x number o x.fault) is_scene
    ∙ ap (λ (n : ℕ). gossip_in (scene (parts text).scenario) n o (scene (parts text).scenario).fault) (next ∙ ap (λ (n : ℕ). n + 1) count)
    ∙ ap (λ (x : Option (List ℕ)). gossip_in (scene (parts text).scenario) (line_count (parts text).scenario + 1) x (scene (parts text).scenario).fault) rest

-- ---- the blocks of a scene

pub one_made : (made : List (List ℕ × List ℕ)) (number : ℕ) (name bytes copy : List ℕ) (items more : List Made) → number < length made → slice_get made number ≡ Some (name, bytes) → copy ≡ bytes → items ≡ map made_of (take number made)
    → more ≡ items ++ (let m : Made = record { name = name; bytes = copy } in m) ∷ [] → more ≡ map made_of (take (number + 1) made)
one_made made number name bytes copy items more lt there same before pushed =
    pushed
    ∙ ap₂ (λ (ms : List Made) (b : List ℕ). ms ++ (let m : Made = record { name = name; bytes = b } in m) ∷ []) before same
    ∙ sym (ap (map made_of) (take_more made number (name, bytes) lt ∙ ap (λ (x : List ℕ × List ℕ). take number made ++ x ∷ []) (get_or_from_slice_get made number (name, bytes) (name, bytes) there))
    ∙ map-append made_of (take number made) ((name, bytes) ∷ []))

-- ---- why an event is refused

pub node_faults : faults.NoNode ≡ faults.Memory → ⊥
node_faults e = cc

pub packet_faults : faults.NoPacket ≡ faults.Memory → ⊥
packet_faults e = cc

pub many_faults : faults.Many ≡ faults.Memory → ⊥
many_faults e = cc

module _ (labels : AllLabels) (old new : Network) (event : Event) (fault known : StepFault) (why : (fault ≡ faults.Memory) ⊎ (fault_of old event ≡ Some fault)) (is : fault ≡ known) (never : known ≡ faults.Memory → ⊥) where
  refused_so : event_turn labels old event ≡ (let t : Turn = record { text = []; net = old; fault = reason_of known } in t)
  refused_so = elim why [
    | inl memory ↦ absurd (never (sym is ∙ memory))
    | inr e ↦ refused labels old event known (e ∙ ap (λ (f : StepFault). Some f) is)
  ]

  pub reason_told : reason_of known ≡ (event_turn labels old event).fault
  reason_told = sym (ap (λ (t : Turn). t.fault) refused_so)

  pub as_before : ((fault ≡ faults.Memory → ⊥) → new ≡ old) → new ≡ (event_turn labels old event).net
  as_before same = same (λ memory. never (sym is ∙ memory)) ∙ sym (ap (λ (t : Turn). t.net) refused_so)

  pub none_written : (a : Option (List ℕ)) → Appends a a (event_turn labels old event).text
  none_written a = subst (λ (t : List ℕ). Appends a a t) (sym (ap (λ (t : Turn). t.text) refused_so)) (nothing a)
    where
      nothing : (o : Option (List ℕ)) → Appends o o []
      nothing None = tt
      nothing (Some ws) = sym (append-nil ws)

-- ---- a block that is given

pub gives_turn : (labels : AllLabels) (blocks : List Made) (net : Network) (line : ScriptLine) (event : Event) (node block : ℕ) (made : Made) → line ≡ Give node block → event ≡ Make node made.bytes → block < length blocks → made ≡ get_or blocks block made
    → event_turn labels net event ≡ turn labels blocks net line
gives_turn labels blocks net line event node block made is of lt there =
    ap (event_turn labels net) (of ∙ ap (λ (bytes : List ℕ). let e : Event = Make node bytes in e) (ap bytes_of there ∙ sym (get_or-map bytes_of blocks block made [] lt)))
    ∙ sym (ap (turn labels blocks net) is)

-- nothing is written
pub told_nothing : (a : Option (List ℕ)) (told : Told) → told.text ≡ [] → Appends a a told.text
told_nothing None told none = tt
told_nothing (Some ws) told none = sym (ap (λ (t : List ℕ). ws ++ t) none ∙ append-nil ws)

-- ---- a text that is taken as it is asked

pub scene_ends : (r : Result Ending Stop) (purpose : Purpose) (text : List ℕ) → IfOk r (EndsAs (scene text)) → IfOk r (EndsTask (Scenario purpose) text)
scene_ends (Ok Whole) purpose text h = h
scene_ends (Ok Faulty) purpose text h = h
scene_ends (Err stop) purpose text h = tt

pub script_ends : (r : Result Ending Stop) (text : List ℕ) → IfOk r (EndsBy (gossip text).fault) → IfOk r (EndsTask Gossip text)
script_ends (Ok Whole) text h = h
script_ends (Ok Faulty) text h = h
script_ends (Err stop) text h = tt
