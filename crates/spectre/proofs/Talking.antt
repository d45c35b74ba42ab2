-- What the answers of each command rest on: feeds and journals of bytes bring bytes, and so does each scenario, and so
-- their kept blocks agree.
use Rattle.std.proofs.Common.{◌≡◌, inl, inr, ⊎_elim, ℕ, List, [], ◌∷◌, ◌++◌, Option, Some, None, IfSome, Result, refl, sym, ap, subst, ◌∙◌, arith}
use Rattle.std.specs.Prelude.{Contains}
use Rattle.std.specs.List.{flat_map}
use Rattle.std.specs.Int.{to_le_bytes, w32}
use Rattle.std.proofs.lemmas.Grind.{flat_map-append}
use Rattle.std.proofs.Common.{length}
use Rattle.sp_form.specs.Bytes.{IsBytes}
use Rattle.sp_form.proofs.Taking.{IsBytes-append_left, IsBytes-append_right}
use Rattle.sp_block.specs.Block.{ReadBlock}
use Rattle.sp_block.specs.declared.fault.BlockFault.{BlockFault}
use Rattle.sp_carry.proofs.Members.{contains_from_in, in_append, in_append_left, in_append_right, in_flat_map, in_from_contains, IsIn}
use Rattle.sp_feed.specs.Format.{Head}
use Rattle.sp_feed.specs.Kinds.{Said, SaysBlock, SaysVote, SaysTx, SaysBalance, SaysPairs, SaysReport}
use Rattle.sp_feed.proofs.PayloadBytes.{genesis_is_bytes, payloads_are_bytes}
use Rattle.sp_journal.specs.Format.{set}
use Rattle.sp_journal.specs.Versions.{name}
use Rattle.sp_journal.specs.Journal.{Contents, front, record_text}
use Rattle.sp_journal.specs.Records.{Damaged, Found, NoJournal, Records, records}
use Rattle.sp_journal.proofs.RecordLaws.{front_found}
use Rattle.sp_make.specs.Made.{made}
use Rattle.sp_node.specs.Answers.{answers, arrivals_of, reply}
use Rattle.sp_node.proofs.AnswerLists.{answers-append}
use Rattle.sp_node.proofs.SameReplies.{order_is_no_matter as same_replies}
use Rattle.sp_play.specs.Scene.{scene}
use Rattle.sp_play.proofs.SceneBytes.{blocks_are_bytes as blocks_of_scene, genesis_is_bytes as genesis_of_scene}
use Rattle.spectre.specs.Journals.{blocks_in, found_blocks}
use Rattle.spectre.specs.Output.{OnDisk, OnInput}
use Rattle.spectre.specs.Replay.{fed, feed_limit}
use Rattle.spectre.specs.Rests.{arrived}
use Rattle.spectre.specs.Scenes.{lines_by}
use Rattle.spectre.specs.Talks.{arrived_by, feed_talk, HasQuestion, IsAnsweredIn, IsOfBytes, JobAgrees, JobAnswersAlike, journal_talk, scene_talk, Talk, talk_by, TalksAnswerAlike}
use Rattle.spectre.specs.declared.job.Job.{Job}
use Rattle.spectre.specs.declared.job.Job.TheVariants as jobs
use Rattle.spectre.proofs.TopCall.{in_all, on_all}

-- ---- what is read from bytes is bytes

-- bytes that arrive with a message are those of a block
brings : (m : Said) (bytes : List ℕ) → IsIn (arrivals_of m) bytes → m ≡ SaysBlock bytes
brings (SaysBlock b) bytes (inl same) = ap SaysBlock same
brings (SaysBlock b) bytes (inr there) = absurd there
brings (SaysVote x y) bytes there = absurd there
brings (SaysTx id) bytes there = absurd there
brings (SaysBalance lock) bytes there = absurd there
brings SaysPairs bytes there = absurd there
brings SaysReport bytes there = absurd there

-- so they are said by some message
said_in : (messages : List Said) (bytes : List ℕ) → IsIn (arrived messages) bytes → Contains messages (SaysBlock bytes)
said_in messages bytes there =
    let m : (m : Said) × IsIn messages m × IsIn (arrivals_of m) bytes = in_flat_map arrivals_of messages bytes there in
    contains_from_in messages (SaysBlock bytes) (subst (λ (x : Said). IsIn messages x) (brings m.0 bytes m.2) m.1)

-- the blocks of the messages of a feed
sent : (input : List ℕ) → IsBytes input → (bytes : List ℕ) → IsIn (arrived (fed input).messages) bytes → IsBytes bytes
sent input all bytes there = payloads_are_bytes feed_limit input bytes all (said_in (fed input).messages bytes there)

-- the parts of a journal

each_block : (blocks : List (List ℕ)) → IsBytes (flat_map record_text blocks) → (bytes : List ℕ) → IsIn blocks bytes → IsBytes bytes
each_block [] all bytes there = absurd there
each_block (block ∷ blocks) all bytes (inl same) =
    subst IsBytes same (IsBytes-append_right (to_le_bytes w32 (length block)) block (IsBytes-append_right (set ∷ []) (to_le_bytes w32 (length block) ++ block) (IsBytes-append_left (record_text block) (flat_map record_text blocks) all)))
each_block (block ∷ blocks) all bytes (inr there) = each_block blocks (IsBytes-append_right (record_text block) (flat_map record_text blocks) all) bytes there

module _ (disk : List ℕ) (c : Contents) (all : IsBytes disk) (is : records disk ≡ Found c) where
  front_bytes : IsBytes (front c)
  front_bytes = let h = front_found c disk all is in IsBytes-append_left (front c) (h.shut.gate ∷ h.shut.rest) (subst IsBytes h.shut.parts all)

  blocks_bytes : (bytes : List ℕ) → IsIn c.blocks bytes → IsBytes bytes
  blocks_bytes = each_block c.blocks (IsBytes-append_right (set ∷ (name c.profile ++ (c.bits ∷ (to_le_bytes w32 (length c.genesis) ++ c.genesis)))) (flat_map record_text c.blocks) front_bytes)

  genesis_bytes : IsBytes c.genesis
  genesis_bytes =
      let head = IsBytes-append_left (set ∷ (name c.profile ++ (c.bits ∷ (to_le_bytes w32 (length c.genesis) ++ c.genesis)))) (flat_map record_text c.blocks) front_bytes in
      let sized : List ℕ = to_le_bytes w32 (length c.genesis) ++ c.genesis in
      IsBytes-append_right (to_le_bytes w32 (length c.genesis)) c.genesis (IsBytes-append_right (c.bits ∷ []) sized (IsBytes-append_right (name c.profile) (c.bits ∷ sized) (IsBytes-append_right (set ∷ []) (name c.profile ++ (c.bits ∷ sized)) head)))

found_bytes : (disk : List ℕ) → IsBytes disk → (bytes : List ℕ) → IsIn (found_blocks disk) bytes → IsBytes bytes
found_bytes disk all bytes there = by (records disk) refl there
  where
    by : (r : Records) → records disk ≡ r → IsIn (blocks_in r) bytes → IsBytes bytes
    by NoJournal is there = absurd there
    by (Damaged at) is there = absurd there
    by (Found c) is there = blocks_bytes disk c all is bytes there

-- ---- what a talk brings

-- its genesis block is bytes, and so is each of its blocks
pub record BringsBytes (talk : Talk) : Type 0 where
  pub genesis : IsBytes talk.genesis
  pub blocks : (bytes : List ℕ) → Contains (arrived_by talk talk.messages) bytes → IsBytes bytes

some_is : {a b : Talk} → Some a ≡ Some b → a ≡ b
some_is e = cc e

none_is : {a : Talk} {X : Type 0} → ◌≡◌ {A = Option Talk} None (Some a) → X
none_is e = absurd cc

fed_brings : (found : List (List ℕ)) (input : List ℕ) → IsBytes input → ((bytes : List ℕ) → IsIn found bytes → IsBytes bytes) → (head : Head) → (fed input).head ≡ Some head
    → (genesis : List ℕ) → genesis ≡ head.genesis → IsBytes genesis × ((bytes : List ℕ) → Contains (found ++ arrived (fed input).messages) bytes → IsBytes bytes)
fed_brings found input all known head begins genesis same = (
  subst IsBytes (sym same) (genesis_is_bytes feed_limit input head all begins),
  λ bytes there. ⊎_elim (λ old. known bytes old) (λ new. sent input all bytes new) (in_append found (arrived (fed input).messages) bytes (in_from_contains (found ++ arrived (fed input).messages) bytes there)),
)

feed_brings : (found : List (List ℕ)) (input : List ℕ) → IsBytes input → ((bytes : List ℕ) → IsIn found bytes → IsBytes bytes) → (head : Option Head) → (fed input).head ≡ head
    → (talk : Talk) → (let o : Option Talk = feed_talk found head (fed input).messages in o) ≡ Some talk → BringsBytes talk
feed_brings found input all known None begins talk says = none_is says
feed_brings found input all known (Some head) begins talk says =
    let b = fed_brings found input all known head begins head.genesis refl in
    subst BringsBytes (some_is says) (record { genesis = b.0; blocks = b.1 })

journal_brings : (disk : List ℕ) → IsBytes disk → (r : Records) → records disk ≡ r → (talk : Talk) → (let o : Option Talk = journal_talk r in o) ≡ Some talk → BringsBytes talk
journal_brings disk all NoJournal is talk says = none_is says
journal_brings disk all (Damaged at) is talk says = none_is says
journal_brings disk all (Found c) is talk says = subst BringsBytes (some_is says) (record {
  genesis = genesis_bytes disk c all is;
  blocks = λ bytes there. ⊎_elim (λ old. blocks_bytes disk c all is bytes old) (λ new. absurd new) (in_append c.blocks [] bytes (in_from_contains (c.blocks ++ []) bytes there));
})

-- a scenario's are bytes, whatever its text is
scene_brings : (text : List ℕ) (talk : Talk) → (let o : Option Talk = scene_talk (scene text) in o) ≡ Some talk → BringsBytes talk
scene_brings text talk says = subst BringsBytes (some_is says) (record {
  genesis = genesis_of_scene text;
  blocks = λ bytes there. blocks_of_scene text bytes (said_in (scene text).messages bytes (in_from_contains (arrived (scene text).messages) bytes there));
})

pub brings_bytes : (job : Option Job) (disk input : List ℕ) → IsBytes disk → (talk : Talk) → talk_by job disk input ≡ Some talk → IsOfBytes job input → BringsBytes talk
brings_bytes None disk input all talk says of = none_is says
brings_bytes (Some jobs.Replay) disk input all talk says of = feed_brings [] input of (λ bytes there. absurd there) (fed input).head refl talk says
brings_bytes (Some (jobs.Keep path fresh)) disk input all talk says of = feed_brings (found_blocks disk) input of (found_bytes disk all) (fed input).head refl talk says
brings_bytes (Some (jobs.Show path)) disk input all talk says of = journal_brings disk all (records disk) refl talk says
brings_bytes (Some (jobs.Export path profile)) disk input all talk says of = none_is says
brings_bytes (Some jobs.Play) disk input all talk says of = scene_brings input talk says
brings_bytes (Some jobs.Build) disk input all talk says of = none_is says
brings_bytes (Some (jobs.Make n seed width)) disk input all talk says of = none_is says
brings_bytes (Some (jobs.Drill n seed width)) disk input all talk says of = scene_brings (made n seed width) talk says
brings_bytes (Some (jobs.Certify x y)) disk input all talk says of = feed_brings [] input of (λ bytes there. absurd there) (fed input).head refl talk says
brings_bytes (Some jobs.Check) disk input all talk says of = none_is says
brings_bytes (Some jobs.Gossip) disk input all talk says of = none_is says
brings_bytes (Some (jobs.Spend amount to words)) disk input all talk says of = feed_brings [] input of (λ bytes there. absurd there) (fed input).head refl talk says
brings_bytes (Some (jobs.Watch items)) disk input all talk says of = feed_brings [] input of (λ bytes there. absurd there) (fed input).head refl talk says

-- by the end of the first messages fewer blocks have arrived
pub fewer_arrived : (talk : Talk) (before after : List Said) → talk.messages ≡ before ++ after → BringsBytes talk → (bytes : List ℕ) → Contains (arrived_by talk before) bytes → IsBytes bytes
fewer_arrived talk before after is b bytes there =
    let all : arrived_by talk talk.messages ≡ talk.found ++ (arrived before ++ arrived after) = ap (λ (l : List Said). talk.found ++ arrived l) is ∙ ap (λ (l : List (List ℕ)). talk.found ++ l) (flat_map-append arrivals_of before after) in
    let here : IsIn (talk.found ++ (arrived before ++ arrived after)) bytes =
    ⊎_elim (λ old. in_append_left talk.found (arrived before ++ arrived after) bytes old) (λ new. in_append_right talk.found (arrived before ++ arrived after) bytes (in_append_left (arrived before) (arrived after) bytes new))
    (in_append talk.found (arrived before) bytes (in_from_contains (arrived_by talk before) bytes there)) in
    b.blocks bytes (contains_from_in (arrived_by talk talk.messages) bytes (subst (λ (l : List (List ℕ)). IsIn l bytes) (sym all) here))

-- ---- the same answer

module _ (talk : Talk) (genesis : ReadBlock) (before : List Said) (question : Said) (h : HasQuestion talk genesis before question) where
  answered : IsAnsweredIn talk genesis before (reply talk.labels genesis talk.terms (arrived_by talk before) question)
  unfolding answers
  answered = record {
    behind = answers talk.labels genesis talk.terms (arrived_by talk before ++ arrivals_of question) h.after;
    all = ap (λ (r : Result ReadBlock BlockFault). lines_by talk.labels r talk.terms talk.found talk.messages) h.spelled ∙ ap (answers talk.labels genesis talk.terms talk.found) h.messages ∙ answers-append talk.labels genesis talk.terms talk.found before (question ∷ h.after);
  }

pub alike : (talk other : Talk) → TalksAnswerAlike talk other
alike talk other same_labels same_terms genesis before others question asks one two same plain =
    let here = reply talk.labels genesis talk.terms (arrived_by talk before) question in
    let there = reply other.labels genesis other.terms (arrived_by other others) question in
    let e : here ≡ there = same_replies talk.labels talk.terms genesis (arrived_by talk before) (arrived_by other others) question asks same plain ∙ (λ i. reply (same_labels i) genesis (same_terms i) (arrived_by other others) question) in
    (here, answered talk genesis before question one, subst (λ (answer : List ℕ). IsAnsweredIn other genesis others answer) (sym e) (answered other genesis others question two))

-- ---- what holds of a disk of bytes holds of that of a run

none_bytes : IsBytes []
none_bytes place = omega arith

if_bytes : (reads : Option (List ℕ)) (P : List ℕ → Type 0) → IfSome reads IsBytes → ((disk : List ℕ) → IsBytes disk → P disk) → IfSome reads P
if_bytes None P told f = tt
if_bytes (Some disk) P told f = f disk told

pub on_bytes : (job : Option Job) (reads : Option (List ℕ)) (P : List ℕ → Type 0) → IfSome reads IsBytes → ((disk : List ℕ) → IsBytes disk → P disk) → OnDisk job reads P
on_bytes None reads P told f = f [] none_bytes
on_bytes (Some jobs.Replay) reads P told f = f [] none_bytes
on_bytes (Some (jobs.Keep path fresh)) reads P told f = if_bytes reads P told f
on_bytes (Some (jobs.Show path)) reads P told f = if_bytes reads P told f
on_bytes (Some (jobs.Export path profile)) reads P told f = if_bytes reads P told f
on_bytes (Some jobs.Play) reads P told f = f [] none_bytes
on_bytes (Some jobs.Build) reads P told f = f [] none_bytes
on_bytes (Some (jobs.Make n seed width)) reads P told f = f [] none_bytes
on_bytes (Some (jobs.Drill n seed width)) reads P told f = f [] none_bytes
on_bytes (Some (jobs.Certify x y)) reads P told f = f [] none_bytes
on_bytes (Some jobs.Check) reads P told f = f [] none_bytes
on_bytes (Some jobs.Gossip) reads P told f = f [] none_bytes
on_bytes (Some (jobs.Spend amount to words)) reads P told f = f [] none_bytes
on_bytes (Some (jobs.Watch items)) reads P told f = f [] none_bytes

pub job_alike : (job : Option Job) (disk input : List ℕ) → JobAnswersAlike job disk input
job_alike job disk input talk other says = alike talk other

pub all_agree : (job : Option Job) (left reads : Option (List ℕ)) → IfSome reads IsBytes → ((job : Option Job) (disk input : List ℕ) → IsBytes disk → JobAgrees job disk input) → OnInput job left (λ input. OnDisk job reads (λ disk. JobAgrees job disk input))
all_agree job left reads told law = in_all job left _ (λ input. on_bytes job reads _ told (λ disk bytes. law job disk input bytes))

pub all_alike : (job : Option Job) (left reads : Option (List ℕ)) → OnInput job left (λ input. OnDisk job reads (λ disk. JobAnswersAlike job disk input))
all_alike job left reads = in_all job left _ (λ input. on_all job reads _ (λ disk. job_alike job disk input))
