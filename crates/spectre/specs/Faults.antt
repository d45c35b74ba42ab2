-- Which fault an input has.
use Rattle.std.specs.Prelude.{◌<◌, ℕ, List, [], length, IsSome, IsNone}
use Rattle.sp_feed.specs.Feed.{End, Malformed, TooLong, Truncated, Whole}
use Rattle.sp_feed.specs.declared.fault.FeedFault.{FeedFault}
use Rattle.sp_feed.specs.declared.fault.FeedFault.TheVariants as faults
use Rattle.sp_report.specs.Lines.{malformed_text, too_long_text, truncated_text}
use Rattle.sp_play.specs.Scene.{scene}
use Rattle.sp_play.specs.Source.{scenario_limit}
use Rattle.spectre.specs.Gossips.{gossip}
use Rattle.spectre.specs.declared.purpose.Task.{Task}
use Rattle.spectre.specs.declared.purpose.Task.TheVariants.{Scenario, Gossip}
use Rattle.spectre.specs.declared.status.Status.{Status}
use Rattle.spectre.specs.declared.status.Status.TheVariants as status

-- a feed ends by its frame `E`, in a malformed field, too early, or beyond the limit

abbrev pub EndsWhole : End → Type 0
EndsWhole (Whole rest) = Unit {0}
EndsWhole other = ⊥

abbrev pub EndsMalformed : End → Type 0
EndsMalformed (Malformed at) = Unit {0}
EndsMalformed other = ⊥

abbrev pub EndsTruncated : End → Type 0
EndsTruncated (Truncated at) = Unit {0}
EndsTruncated other = ⊥

abbrev pub EndsTooLong : End → Type 0
EndsTooLong (TooLong taken) = Unit {0}
EndsTooLong other = ⊥

-- what stays unread behind the frame `E`
abbrev pub rest_behind : End → List ℕ
rest_behind (Whole rest) = rest
rest_behind other = []

-- a scenario, or one with a script behind it, has a fault, or none

abbrev pub HasFault : Task → List ℕ → Type 0
HasFault (Scenario purpose) text = IsSome (scene text).fault
HasFault Gossip text = IsSome (gossip text).fault

abbrev pub HasNoFault : Task → List ℕ → Type 0
HasNoFault (Scenario purpose) text = IsNone (scene text).fault
HasNoFault Gossip text = IsNone (gossip text).fault

-- what was taken has no fault, has one, or goes on after as many bytes as are taken

pub record IsWholeText (task : Task) (input : List ℕ) : Type 0 where
  pub right : HasNoFault task input
  pub short : length input < scenario_limit

pub record IsFaultyText (task : Task) (input : List ℕ) : Type 0 where
  pub wrong : HasFault task input
  pub short : length input < scenario_limit

-- the line of a feed's fault, and the status that it gives
abbrev pub feed_fault_text : FeedFault → List ℕ
feed_fault_text (faults.Malformed at) = malformed_text at
feed_fault_text (faults.Truncated at) = truncated_text at
feed_fault_text faults.ReadFault = []
feed_fault_text (faults.TooLong taken) = too_long_text taken

abbrev pub status_of : FeedFault → Status
status_of (faults.Malformed at) = status.Malformed
status_of (faults.Truncated at) = status.Truncated
status_of faults.ReadFault = status.ReadFault
status_of (faults.TooLong taken) = status.TooLong
