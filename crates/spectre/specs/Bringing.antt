-- How the blocks of a feed come to an engine, where nothing is written before the feed's end.
use Rattle.std.specs.Prelude.{◌≡◌, ℕ, true, List, [], ◌++◌, flat_map, IfSome, Option, Some, Result, Ok, Err}
use Rattle.sp_block.specs.Block.{ReadBlock}
use Rattle.sp_engine.specs.Arrivals.{kept_by_all}
use Rattle.sp_engine.specs.Blocks.{block_in}
use Rattle.sp_engine.specs.Engine.{Ledger}
use Rattle.sp_feed.specs.Calls.{SaysFault, SoFar}
use Rattle.sp_feed.specs.Feed.{Feed, feed, Whole}
use Rattle.sp_feed.specs.Format.{Head, head_of}
use Rattle.sp_feed.specs.Kinds.{Said}
use Rattle.sp_feed.specs.Reads.{Moment, Took}
use Rattle.sp_feed.specs.declared.fault.HeadFault.{HeadFault}
use Rattle.sp_feed.specs.declared.fault.HeadFault.TheVariants.{Feed as faulty, Memory}
use Rattle.sp_node.specs.Answers.{arrivals_of}
use Rattle.spectre.specs.Replay.{fed, feed_limit}
use Rattle.spectre.specs.Taken.{AreNeeded}

-- the messages so far were read, and the engine has the blocks that are kept of them
pub record Bringing (start now : Moment) (engine : Ledger) : Type 0 where
  pub genesis : ReadBlock
  pub spelled : block_in true genesis.bytes ≡ Ok genesis
  pub messages : List Said
  pub so_far : SoFar feed_limit start now (head_of engine.profile engine.bits genesis.bytes) [] messages
  pub kept_is : engine.kept ≡ kept_by_all engine.bits genesis (flat_map arrivals_of messages)

-- the feed ended by its frame `E`, and so it is with all its messages
pub record HasAll (given : List ℕ) (engine : Ledger) : Type 0 where
  pub genesis : ReadBlock
  pub spelled : block_in true genesis.bytes ≡ Ok genesis
  pub messages : List Said
  pub says : (more : List ℕ) → fed (given ++ more) ≡ record { head = Some (head_of engine.profile engine.bits genesis.bytes); messages = messages; end = Whole more }
  pub kept_is : engine.kept ≡ kept_by_all engine.bits genesis (flat_map arrivals_of messages)

abbrev pub SaysBrought : Moment → Moment → List ℕ → Result Ledger HeadFault → Type 0
SaysBrought start now given (Ok engine) = HasAll given engine
SaysBrought start now given (Err (faulty fault)) =
    (head : Option Head) × (messages : List Said) × SaysFault (feed feed_limit) (λ end. record { head = head; messages = messages; end = end }) start now given fault
SaysBrought start now given (Err Memory) = Unit {0}

-- between two moments of a source these bytes were taken, and they say how it ended
pub record Brought (start now : Moment) (result : Result Ledger HeadFault) : Type 0 where
  pub given : List ℕ
  pub took : Took feed_limit start now given
  pub needed : AreNeeded given
  pub says : SaysBrought start now given result

-- the engine where all came to it
abbrev pub with_engine : Result (Unit {0}) HeadFault → Ledger → Result Ledger HeadFault
with_engine (Ok u) engine = Ok engine
with_engine (Err fault) engine = Err fault
