-- What a text writes that is taken from a source, and what is said of a job's input and of what its disk reads.
use Rattle.std.specs.Prelude.{ℕ, Bool, if◌then◌else◌, List, [], length, nat_le, Option, Some, IfSome}
use Rattle.sp_play.specs.Scene.{scene}
use Rattle.sp_play.specs.Source.{scenario_limit}
use Rattle.sp_report.specs.Lines.{too_long_text}
use Rattle.spectre.specs.Gossips.{gossiped}
use Rattle.spectre.specs.Journals.{found_blocks}
use Rattle.spectre.specs.Replay.{replied}
use Rattle.spectre.specs.Scenes.{scene_output}
use Rattle.spectre.specs.Watches.{watch_replied}
use Rattle.spectre.specs.declared.job.Job.{Job}
use Rattle.spectre.specs.declared.job.Job.TheVariants as jobs
use Rattle.spectre.specs.declared.purpose.Purpose.TheVariants.{Play, Build}
use Rattle.spectre.specs.declared.purpose.Task.{Task}
use Rattle.spectre.specs.declared.purpose.Task.TheVariants.{Scenario, Gossip}

abbrev pub is_too_long : List ℕ → Bool
is_too_long input = nat_le scenario_limit (length input)

-- what a text writes that was taken whole
abbrev pub task_output : Task → List ℕ → List ℕ
task_output (Scenario purpose) input = scene_output purpose (scene input)
task_output Gossip input = gossiped input

-- what one that is taken from a source writes
abbrev pub source_output : Task → List ℕ → List ℕ
source_output task input =
    if is_too_long input then too_long_text scenario_limit else task_output task input

-- the disk's bytes, where it tells them; for a job that names no file none
abbrev pub disk_told : Option Job → Option (List ℕ) → Option (List ℕ)
disk_told (Some (jobs.Keep path fresh)) reads = reads
disk_told (Some (jobs.Show path)) reads = reads
disk_told (Some (jobs.Export path profile)) reads = reads
disk_told other reads = Some []

-- what is said of them
abbrev pub OnDisk : Option Job → Option (List ℕ) → (List ℕ → Type 0) → Type 0
OnDisk job reads P = IfSome (disk_told job reads) P

-- the input, where the source tells it; for a job that takes none no bytes
abbrev pub input_told : Option Job → Option (List ℕ) → Option (List ℕ)
input_told (Some jobs.Replay) left = left
input_told (Some (jobs.Keep path fresh)) left = left
input_told (Some jobs.Play) left = left
input_told (Some jobs.Build) left = left
input_told (Some (jobs.Certify x y)) left = left
input_told (Some jobs.Check) left = left
input_told (Some jobs.Gossip) left = left
input_told (Some (jobs.Spend amount to words)) left = left
input_told (Some (jobs.Watch items)) left = left
input_told other left = Some []

-- what is said of it
abbrev pub OnInput : Option Job → Option (List ℕ) → (List ℕ → Type 0) → Type 0
OnInput job left P = IfSome (input_told job left) P

-- the blocks that stand before those of the feed
abbrev pub blocks_before : Option Job → List ℕ → List (List ℕ)
blocks_before (Some (jobs.Keep path fresh)) disk = found_blocks disk
blocks_before (Some (jobs.Show path)) disk = found_blocks disk
blocks_before (Some (jobs.Export path profile)) disk = found_blocks disk
blocks_before other disk = []

-- What is written for the messages in some bytes of a feed before it ends: the answers, behind the blocks of a journal; of
-- a watch what they change, too; of a certificate of them and of a spend nothing
abbrev pub due_of : Option Job → List ℕ → List ℕ → List ℕ
due_of (Some (jobs.Certify x y)) disk = λ given. []
due_of (Some (jobs.Spend amount to words)) disk = λ given. []
due_of (Some (jobs.Watch items)) disk = watch_replied items
due_of job disk = replied (blocks_before job disk)

-- what is said of a run that certifies what is said of two blocks
abbrev pub OnCertify : Option Job → (ℕ → ℕ → Type 0) → Type 0
OnCertify (Some (jobs.Certify x y)) P = P x y
OnCertify other P = Unit {0}

-- what is said of a run that keeps a journal
abbrev pub OnKeep : Option Job → (Bool → Type 0) → Type 0
OnKeep (Some (jobs.Keep path fresh)) P = P fresh
OnKeep other P = Unit {0}
