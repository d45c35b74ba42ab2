-- Which job the words of the command line are, and what each job takes.
use Rattle.std.specs.Prelude.{◌≤◌, ◌<◌, ℕ, ◌-◌, ◌^◌, ◌==◌, if◌then◌else◌, true, false, List, Option, Some, None, Result, Ok, Err, length, codes}
use Rattle.std.specs.Str.{bytes_eq}
use Rattle.sp_play.specs.Numbers.{number_in}
use Rattle.sp_play.specs.declared.why.Why.{Why}
use Rattle.spectre.specs.Files.{file_in}
use Rattle.spectre.specs.IdWords.{ids_in}
use Rattle.sp_watch.specs.declared.item.Item.{Item}
use Rattle.spectre.specs.WalletWords.{spend_in, SpendAsked, watch_in}
use Rattle.spectre.specs.Words.{word_at}
use Rattle.spectre.specs.declared.files.FileUse.{FileUse}
use Rattle.spectre.specs.declared.files.FileUse.TheVariants as uses
use Rattle.spectre.specs.declared.job.Job.{Job}
use Rattle.spectre.specs.declared.job.Job.TheVariants.{Replay, Keep, Show, Export, Play, Build, Make, Drill, Certify, Check, Gossip, Spend, Watch}
pub use Rattle.spectre.specs.Words.{texts}

-- a job that is a single word
unfoldable pub job_named : List ℕ → Option Job
job_named word =
    if bytes_eq word (codes "replay") then Some Replay else
    if bytes_eq word (codes "play") then Some Play else
    if bytes_eq word (codes "build") then Some Build else
    if bytes_eq word (codes "check") then Some Check else
    if bytes_eq word (codes "gossip") then Some Gossip else None

-- a job with three numbers
unfoldable pub job_with : List ℕ → ℕ → ℕ → ℕ → Option Job
job_with word n seed width =
    if bytes_eq word (codes "make") then Some (Make n seed width) else
    if bytes_eq word (codes "drill") then Some (Drill n seed width) else None

-- the same, where each of them is one
abbrev pub job_by : List ℕ → Result ℕ Why → Result ℕ Why → Result ℕ Why → Option Job
job_by word (Ok n) (Ok seed) (Ok width) = job_with word n seed width
job_by word (Ok n) (Ok seed) (Err why) = None
job_by word (Ok n) (Err why) width = None
job_by word (Err why) seed width = None

-- N is 0 to 511, SEED any number of 64 bits, WIDTH 1 to 16
unfoldable pub job_of_numbers : List (List ℕ) → Option Job
job_of_numbers words =
    job_by (word_at words 0) (number_in 0 511 (word_at words 1)) (number_in 0 (2 ^ 64 - 1) (word_at words 2)) (number_in 1 16 (word_at words 3))

abbrev pub certify_job : Option (ℕ × ℕ) → Option Job
certify_job None = None
certify_job (Some ids) = Some (Certify ids.0 ids.1)

-- X and Y are ids
unfoldable pub job_of_ids : List (List ℕ) → Option Job
job_of_ids words =
    if bytes_eq (word_at words 0) (codes "certify") then certify_job (ids_in (word_at words 1) (word_at words 2)) else None

-- `replay`, `play`, `build`, `check`, `gossip`, `certify X Y`, `make N SEED WIDTH` and `drill N SEED WIDTH`
abbrev pub plain_job : List (List ℕ) → Option Job
plain_job words =
    if length words == 1 then job_named (word_at words 0) else
    if length words == 3 then job_of_ids words else
    if length words == 4 then job_of_numbers words else None

-- a job on a file
abbrev pub job_on : List ℕ → FileUse → Job
job_on path uses.Keep = Keep path false
job_on path uses.Fresh = Keep path true
job_on path uses.Show = Show path
job_on path (uses.Export profile) = Export path profile

abbrev pub job_or : Option (List ℕ × FileUse) → Option Job → Option Job
job_or (Some file) job = Some (job_on file.0 file.1)
job_or None job = job

-- `spend AMOUNT to WORD from WORD ..`, and `watch ITEM ..`

abbrev pub spend_job : Option SpendAsked → Option Job
spend_job None = None
spend_job (Some asked) = Some (Spend asked.amount asked.to asked.words)

abbrev pub watch_job : Option (List Item) → Option Job
watch_job None = None
watch_job (Some items) = Some (Watch items)

-- the first of two that is one
abbrev pub or_else : Option Job → Option Job → Option Job
or_else (Some job) other = Some job
or_else None other = other

abbrev pub wallet_job : List (List ℕ) → Option Job
wallet_job words = or_else (spend_job (spend_in words)) (watch_job (watch_in words))

-- these, and those that name a file; no other words are a job
abbrev pub job_in : List (List ℕ) → Option Job
job_in words = job_or (file_in words) (or_else (plain_job words) (wallet_job words))

-- a scenario is made of numbers in these ranges
pub record AreNumbers (n width : ℕ) : Type 0 where
  pub few : n ≤ 511
  pub some : 1 ≤ width
  pub narrow : width ≤ 16

-- a spend is of an amount in this range, by a word at least
pub record IsSpending (amount : ℕ) (words : List (List ℕ)) : Type 0 where
  pub some : 1 ≤ amount
  pub fits : amount < 2 ^ 63
  pub any : 1 ≤ length words

-- a watch has 1 to 64 items
pub record IsWatching (items : List Item) : Type 0 where
  pub some : 1 ≤ length items
  pub few : length items ≤ 64

abbrev pub IsJob : Job → Type 0
IsJob (Make n seed width) = AreNumbers n width
IsJob (Drill n seed width) = AreNumbers n width
IsJob (Spend amount to words) = IsSpending amount words
IsJob (Watch items) = IsWatching items
IsJob other = Unit {0}

-- a job takes a scenario, with a script behind it or not, a feed, a certificate or nothing

abbrev pub TakesScenario : Option Job → Type 0
TakesScenario (Some Play) = Unit {0}
TakesScenario (Some Build) = Unit {0}
TakesScenario (Some Gossip) = Unit {0}
TakesScenario other = ⊥

abbrev pub AnswersFeed : Option Job → Type 0
AnswersFeed (Some Replay) = Unit {0}
AnswersFeed (Some (Keep path fresh)) = Unit {0}
AnswersFeed (Some (Certify x y)) = Unit {0}
AnswersFeed (Some (Spend amount to words)) = Unit {0}
AnswersFeed (Some (Watch items)) = Unit {0}
AnswersFeed other = ⊥

abbrev pub TakesNothing : Option Job → Type 0
TakesNothing (Some Play) = ⊥
TakesNothing (Some Build) = ⊥
TakesNothing (Some Replay) = ⊥
TakesNothing (Some (Keep path fresh)) = ⊥
TakesNothing (Some (Certify x y)) = ⊥
TakesNothing (Some Check) = ⊥
TakesNothing (Some Gossip) = ⊥
TakesNothing (Some (Spend amount to words)) = ⊥
TakesNothing (Some (Watch items)) = ⊥
TakesNothing other = Unit {0}

abbrev pub IsCheck : Option Job → Type 0
IsCheck (Some Check) = Unit {0}
IsCheck other = ⊥

-- of a scenario and of a certificate nothing is written before all of it was taken
abbrev pub WritesLast : Option Job → Type 0
WritesLast (Some Play) = Unit {0}
WritesLast (Some Build) = Unit {0}
WritesLast (Some Check) = Unit {0}
WritesLast (Some Gossip) = Unit {0}
WritesLast other = ⊥

-- it keeps some of its words: the name of a file, those of a wallet, or the items of a watch
abbrev pub KeepsWords : Option Job → Type 0
KeepsWords (Some (Keep path fresh)) = Unit {0}
KeepsWords (Some (Show path)) = Unit {0}
KeepsWords (Some (Export path profile)) = Unit {0}
KeepsWords (Some (Spend amount to words)) = Unit {0}
KeepsWords (Some (Watch items)) = Unit {0}
KeepsWords other = ⊥

-- it shows a journal, or the feed of its blocks; it names the file of one; else it asks nothing of a disk

abbrev pub Shows : Option Job → Type 0
Shows (Some (Show path)) = Unit {0}
Shows (Some (Export path profile)) = Unit {0}
Shows other = ⊥

abbrev pub NamesFile : Option Job → Type 0
NamesFile (Some (Keep path fresh)) = Unit {0}
NamesFile (Some (Show path)) = Unit {0}
NamesFile (Some (Export path profile)) = Unit {0}
NamesFile other = ⊥
