-- The messages that each command answers, the kept blocks on which its answers rest, and what is true of both.
use Rattle.std.specs.Prelude.{◌≡◌, ℕ, true, List, [], ◌∷◌, ◌++◌, Option, Some, None, Ok}
use Rattle.sp_form.specs.Bytes.{IsBytes}
use Rattle.sp_block.specs.Block.{ReadBlock}
use Rattle.sp_engine.specs.AnyOrder.{AreSameArrivals}
use Rattle.sp_engine.specs.Arrivals.{kept_by_all}
use Rattle.sp_engine.specs.Blocks.{block_in}
use Rattle.sp_feed.specs.Format.{Head}
use Rattle.sp_feed.specs.Kinds.{Said, SaysReport}
use Rattle.sp_journal.specs.Records.{Damaged, Found, NoJournal, Records, records}
use Rattle.sp_make.specs.Made.{made}
use Rattle.sp_names.specs.Labels.{AllLabels, no_labels}
use Rattle.sp_node.specs.Answers.{answers, IsQuestion}
use Rattle.sp_node.specs.Messages.{IsPlainFor}
use Rattle.sp_node.specs.Terms.{Terms, terms_of}
use Rattle.sp_play.specs.Scene.{Scene, scene}
use Rattle.spectre.specs.Journals.{found_blocks}
use Rattle.spectre.specs.Replay.{fed, head_terms}
use Rattle.spectre.specs.Rests.{Agrees, arrived}
use Rattle.spectre.specs.Scenes.{lines_by, scene_terms}
use Rattle.spectre.specs.declared.job.Job.{Job}
use Rattle.spectre.specs.declared.job.Job.TheVariants as jobs

-- Some messages: by which labels they are answered, over which profile, bits of work and genesis block, and which blocks had
-- arrived before them
pub record Talk : Type 0 where
  pub labels : AllLabels
  pub terms : Terms
  pub genesis : List ℕ
  pub found : List (List ℕ)
  pub messages : List Said

-- those of a feed, behind the blocks of a journal where there is one
abbrev pub feed_talk : List (List ℕ) → Option Head → List Said → Option Talk
feed_talk found None messages = None
feed_talk found (Some head) messages = Some (record { labels = no_labels; terms = head_terms head; genesis = head.genesis; found = found; messages = messages })

-- a report is asked of the blocks of a journal
abbrev pub journal_talk : Records → Option Talk
journal_talk NoJournal = None
journal_talk (Damaged at) = None
journal_talk (Found c) = Some (record { labels = no_labels; terms = terms_of c.profile c.bits; genesis = c.genesis; found = c.blocks; messages = SaysReport ∷ [] })

-- those of a scenario, with its names as labels
abbrev pub scene_talk : Scene → Option Talk
scene_talk s = Some (record { labels = s.names; terms = scene_terms s; genesis = s.genesis; found = []; messages = s.messages })

-- The messages that a job answers. A `gossip` plays none, and a `drill` answers none; its summary is that of the blocks which
-- are kept of all. So it is with a certificate of what they say and with a spend; and `check` takes no messages
abbrev pub talk_by : Option Job → List ℕ → List ℕ → Option Talk
talk_by None disk input = None
talk_by (Some jobs.Replay) disk input = feed_talk [] (fed input).head (fed input).messages
talk_by (Some (jobs.Keep path fresh)) disk input = feed_talk (found_blocks disk) (fed input).head (fed input).messages
talk_by (Some (jobs.Show path)) disk input = journal_talk (records disk)
talk_by (Some (jobs.Export path profile)) disk input = None
talk_by (Some jobs.Play) disk input = scene_talk (scene input)
talk_by (Some jobs.Build) disk input = None
talk_by (Some (jobs.Make n seed width)) disk input = None
talk_by (Some (jobs.Drill n seed width)) disk input = scene_talk (scene (made n seed width))
talk_by (Some (jobs.Certify x y)) disk input = feed_talk [] (fed input).head (fed input).messages
talk_by (Some jobs.Check) disk input = None
talk_by (Some jobs.Gossip) disk input = None
talk_by (Some (jobs.Spend amount to words)) disk input = feed_talk [] (fed input).head (fed input).messages
talk_by (Some (jobs.Watch items)) disk input = feed_talk [] (fed input).head (fed input).messages

-- the blocks that arrived by the end of some of the first messages
abbrev pub arrived_by : Talk → List Said → List (List ℕ)
arrived_by talk before = talk.found ++ arrived before

-- Behind any of its first messages, it is true of the kept blocks that their accepted transactions agree
abbrev pub TalkAgrees : Talk → Type 0
TalkAgrees talk =
    (genesis : ReadBlock) → block_in true talk.genesis ≡ Ok genesis → (before after : List Said) → talk.messages ≡ before ++ after →
    Agrees talk.terms.profile genesis (kept_by_all talk.terms.bits genesis (arrived_by talk before))

-- what is asked of an input: of a feed that it is bytes, of a scenario and of a certificate nothing
abbrev pub IsOfBytes : Option Job → List ℕ → Type 0
IsOfBytes None input = Unit {0}
IsOfBytes (Some jobs.Replay) input = IsBytes input
IsOfBytes (Some (jobs.Keep path fresh)) input = IsBytes input
IsOfBytes (Some (jobs.Show path)) input = Unit {0}
IsOfBytes (Some (jobs.Export path profile)) input = Unit {0}
IsOfBytes (Some jobs.Play) input = Unit {0}
IsOfBytes (Some jobs.Build) input = Unit {0}
IsOfBytes (Some (jobs.Make n seed width)) input = Unit {0}
IsOfBytes (Some (jobs.Drill n seed width)) input = Unit {0}
IsOfBytes (Some (jobs.Certify x y)) input = IsBytes input
IsOfBytes (Some jobs.Check) input = Unit {0}
IsOfBytes (Some jobs.Gossip) input = Unit {0}
IsOfBytes (Some (jobs.Spend amount to words)) input = IsBytes input
IsOfBytes (Some (jobs.Watch items)) input = IsBytes input

-- so it is with each command that answers anything
abbrev pub JobAgrees : Option Job → List ℕ → List ℕ → Type 0
JobAgrees job disk input = (talk : Talk) → talk_by job disk input ≡ Some talk → IsOfBytes job input → TalkAgrees talk

-- a question stands behind these messages, over this genesis block
pub record HasQuestion (talk : Talk) (genesis : ReadBlock) (before : List Said) (question : Said) : Type 0 where
  pub spelled : block_in true talk.genesis ≡ Ok genesis
  pub after : List Said
  pub messages : talk.messages ≡ before ++ question ∷ after

-- what is written for a talk: the answers to the messages before one of them, this answer, and those behind it
pub record IsAnsweredIn (talk : Talk) (genesis : ReadBlock) (before : List Said) (answer : List ℕ) : Type 0 where
  pub behind : List ℕ
  pub all : lines_by talk.labels (block_in true talk.genesis) talk.terms talk.found talk.messages
      ≡ answers talk.labels genesis talk.terms talk.found before ++ (answer ++ behind)

-- Two talks, of whatever commands, with the same labels, profile, bits and genesis block ask the same question, each where the
-- same valid blocks have arrived, at most 512 with genesis and all of different ids; where it is on transactions or
-- balances, no two different transactions of the present ones have one id. Then the same bytes answer it in both
abbrev pub TalksAnswerAlike : Talk → Talk → Type 0
TalksAnswerAlike talk other =
    talk.labels ≡ other.labels → talk.terms ≡ other.terms → (genesis : ReadBlock) (before others : List Said) (question : Said) → IsQuestion question →
    HasQuestion talk genesis before question → HasQuestion other genesis others question →
    AreSameArrivals talk.terms.bits genesis (arrived_by talk before) (arrived_by other others) →
    IsPlainFor talk.terms.profile (kept_by_all talk.terms.bits genesis (arrived_by talk before)) question →
    (answer : List ℕ) × IsAnsweredIn talk genesis before answer × IsAnsweredIn other genesis others answer

-- so it is between a job and any talk
abbrev pub JobAnswersAlike : Option Job → List ℕ → List ℕ → Type 0
JobAnswersAlike job disk input = (talk other : Talk) → talk_by job disk input ≡ Some talk → TalksAnswerAlike talk other
