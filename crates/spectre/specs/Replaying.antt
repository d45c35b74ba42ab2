-- How the answering of a feed's messages can end.
use Rattle.std.specs.Prelude.{◌≡◌, ℕ, true, List, [], ◌++◌, Option, Result, Ok, Err}
use Rattle.std.specs.List.{flat_map}
use Rattle.std.specs.Io.KnownBytes.{Appends, IsAtEnd}
use Rattle.sp_io.specs.Causes.{Rose}
use Rattle.sp_io.specs.Whole.{AppendsFront}
use Rattle.sp_block.specs.Block.{ReadBlock}
use Rattle.sp_engine.specs.Arrivals.{kept_by_all}
use Rattle.sp_engine.specs.Blocks.{block_in}
use Rattle.sp_feed.specs.Calls.{SoFar}
use Rattle.sp_feed.specs.Feed.{End, Malformed, TooLong, Truncated, Whole}
use Rattle.sp_feed.specs.Format.{head_of}
use Rattle.sp_feed.specs.Kinds.{Said}
use Rattle.sp_feed.specs.Reads.{Moment, Took}
use Rattle.sp_feed.specs.declared.fault.FeedFault.TheVariants as faults
use Rattle.sp_names.specs.Labels.{no_labels}
use Rattle.sp_node.specs.Answers.{answers, arrivals_of}
use Rattle.sp_node.specs.Terms.{Terms}
use Rattle.spectre.specs.Replay.{fed, feed_limit, replied, replied_but_last}
use Rattle.spectre.specs.Taken.{AreAnswered, AreNeeded, AreTold}
use Rattle.spectre.specs.declared.replay.ReplayFault.{ReplayFault}
use Rattle.spectre.specs.declared.replay.ReplayFault.TheVariants.{Feed, WriteFault, DiskFault, Memory}

-- What is due for the messages in some bytes of a feed is a function of these bytes; so is what is due for all messages but
-- the last

-- whatever follows these bytes, what is due for all messages was written, and the feed ends so
abbrev pub RepliesAll : (List ℕ → List ℕ) → Option (List ℕ) → Option (List ℕ) → List ℕ → (List ℕ → End) → Type 0
RepliesAll due old new given ends =
    (more : List ℕ) → Appends old new (due (given ++ more)) × ((fed (given ++ more)).end ≡ ends more)

-- the bytes end here: so do the messages, for which it was written
abbrev pub RepliesTo : (List ℕ → List ℕ) → Option (List ℕ) → Option (List ℕ) → List ℕ → End → Type 0
RepliesTo due old new given end = Appends old new (due given) × ((fed given).end ≡ end)

abbrev pub SaysDue : (List ℕ → List ℕ) → (List ℕ → List ℕ) → Moment → Moment → Option (List ℕ) → Option (List ℕ) → List ℕ → Result (Unit {0}) ReplayFault → Type 0
SaysDue due but_last start now old new given (Ok u) = RepliesAll due old new given (λ more. Whole more)
SaysDue due but_last start now old new given (Err (Feed (faults.Malformed at))) = RepliesAll due old new given (λ more. Malformed at)
SaysDue due but_last start now old new given (Err (Feed (faults.Truncated at))) = RepliesTo due old new given (Truncated at) × IsAtEnd now.left
SaysDue due but_last start now old new given (Err (Feed faults.ReadFault)) =
    Appends old new (due given) × Rose start.faults now.faults × ((more : List ℕ) → AppendsFront old new (due (given ++ more)))
SaysDue due but_last start now old new given (Err (Feed (faults.TooLong taken))) = RepliesAll due old new given (λ more. TooLong taken)
SaysDue due but_last start now old new given (Err WriteFault) = (more : List ℕ) → AppendsFront old new (due (given ++ more))
SaysDue due but_last start now old new given (Err DiskFault) =
    Appends old new (but_last given) × ((more : List ℕ) → AppendsFront old new (due (given ++ more)))
SaysDue due but_last start now old new given (Err Memory) = (more : List ℕ) → AppendsFront old new (due (given ++ more))

-- between two moments of a source these bytes were taken, and this was written
pub record RepliesFor (due but_last : List ℕ → List ℕ) (start now : Moment) (old new : Option (List ℕ)) (result : Result (Unit {0}) ReplayFault) : Type 0 where
  pub given : List ℕ
  pub took : Took feed_limit start now given
  pub needed : AreNeeded given
  pub answered : AreTold due old new given
  pub says : SaysDue due but_last start now old new given result

-- the same where the lines of the messages are due, behind the blocks of a journal

abbrev pub SaysReply : List (List ℕ) → Moment → Moment → Option (List ℕ) → Option (List ℕ) → List ℕ → Result (Unit {0}) ReplayFault → Type 0
SaysReply before start now old new given result = SaysDue (replied before) (replied_but_last before) start now old new given result

abbrev pub Replies : List (List ℕ) → Moment → Moment → Option (List ℕ) → Option (List ℕ) → Result (Unit {0}) ReplayFault → Type 0
Replies before start now old new result = RepliesFor (replied before) (replied_but_last before) start now old new result

-- the messages so far were answered, over the genesis block of the head and the blocks before them
pub record Answering (before : List (List ℕ)) (start now : Moment) (old new : Option (List ℕ)) (terms : Terms) (kept : List ReadBlock) : Type 0 where
  pub genesis : ReadBlock
  pub spelled : block_in true genesis.bytes ≡ Ok genesis
  pub messages : List Said
  pub so_far : SoFar feed_limit start now (head_of terms.profile terms.bits genesis.bytes) [] messages
  pub kept_is : kept ≡ kept_by_all terms.bits genesis (before ++ flat_map arrivals_of messages)
  pub wrote : Appends old new (answers no_labels genesis terms before messages)
  pub answered : AreAnswered before old new so_far.given

-- the sink's count rose at a failed write
abbrev pub HasWriteCause : ℕ → ℕ → ReplayFault → Type 0
HasWriteCause before now WriteFault = Rose before now
HasWriteCause before now other = Unit {0}

-- what holds where all messages were answered: at the end, or before a fault of the feed or of its source
abbrev pub OnAll : Result (Unit {0}) ReplayFault → Type 0 → Type 0
OnAll (Ok u) P = P
OnAll (Err (Feed fault)) P = P
OnAll other P = Unit {0}
