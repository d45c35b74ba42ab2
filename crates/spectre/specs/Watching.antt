-- How the watching of a feed's messages can end.
use Rattle.std.specs.Prelude.{◌≡◌, ℕ, true, List, [], ◌++◌, flat_map, length, Option, None, Some, Result, Ok, Err}
use Rattle.std.specs.Io.KnownBytes.{Appends}
use Rattle.sp_io.specs.Whole.{AppendsFront}
use Rattle.sp_block.specs.Block.{ReadBlock}
use Rattle.sp_engine.specs.Arrivals.{kept_by_all}
use Rattle.sp_engine.specs.Blocks.{block_in}
use Rattle.sp_feed.specs.Calls.{SoFar}
use Rattle.sp_feed.specs.Feed.{Whole}
use Rattle.sp_feed.specs.Format.{head_of}
use Rattle.sp_feed.specs.Kinds.{Said, SaysBlock, SaysVote, SaysTx, SaysBalance, SaysPairs, SaysReport}
use Rattle.sp_feed.specs.Reads.{Moment, Took}
use Rattle.sp_model.specs.declared.profile.Profile.{Profile}
use Rattle.sp_names.specs.Labels.{no_labels}
use Rattle.sp_node.specs.Answers.{arrivals_of, kept_then, reply_of}
use Rattle.sp_node.specs.Terms.{Terms}
use Rattle.sp_watch.specs.Arrivals.{history_of}
use Rattle.sp_watch.specs.Lines.{change_at, held_of}
use Rattle.sp_watch.specs.Watching.{changes_in, seen_all, Watched, watched_after}
use Rattle.sp_watch.specs.declared.item.Item.{Item}
use Rattle.spectre.specs.Replay.{fed, feed_limit}
use Rattle.spectre.specs.Replaying.{RepliesFor, SaysDue}
use Rattle.spectre.specs.Taken.{AreNeeded, AreTold}
use Rattle.spectre.specs.Watches.{watch_replied, watch_replies, watched}
use Rattle.spectre.specs.declared.replay.ReplayFault.{ReplayFault}
use Rattle.spectre.specs.declared.replay.ReplayFault.TheVariants.{Feed, WriteFault, DiskFault, Memory}

-- ---- one message

-- the lines of what a watch sees to be changed
abbrev pub seen_text : Profile → Watched → List ReadBlock → List ℕ
seen_text profile w kept = flat_map (change_at (seen_all profile w kept).entries) (changes_in profile w kept)

-- behind a message, over the blocks that are kept then: only one that brings a block is seen

abbrev pub text_then : Profile → Watched → List ReadBlock → Said → List ℕ
text_then profile w kept (SaysBlock bytes) = seen_text profile w kept
text_then profile w kept (SaysVote x y) = []
text_then profile w kept (SaysTx id) = []
text_then profile w kept (SaysBalance lock) = []
text_then profile w kept SaysPairs = []
text_then profile w kept SaysReport = []

abbrev pub watch_then : Profile → Watched → List ReadBlock → Said → Watched
watch_then profile w kept (SaysBlock bytes) = seen_all profile w kept
watch_then profile w kept (SaysVote x y) = w
watch_then profile w kept (SaysTx id) = w
watch_then profile w kept (SaysBalance lock) = w
watch_then profile w kept SaysPairs = w
watch_then profile w kept SaysReport = w

-- the answer, and behind it what changed
abbrev pub answer_then : Terms → List ReadBlock → Watched → Said → List ℕ
answer_then terms kept w said = reply_of no_labels terms kept said ++ text_then terms.profile w (kept_then terms.bits kept said) said

-- ---- all messages

-- the watch has seen these arrivals, whatever comes behind them
abbrev pub HasSeen : List Item → Terms → ReadBlock → List (List ℕ) → Watched → Type 0
HasSeen items terms genesis arrivals w =
    (later : List (List ℕ)) → w ≡ watched_after terms.profile (history_of terms.bits genesis (arrivals ++ later)) (length arrivals) items

-- the messages so far were answered and what they change was told, over the genesis block of the head
pub record Following (items : List Item) (start now : Moment) (old new : Option (List ℕ)) (terms : Terms) (kept : List ReadBlock) (w : Watched) : Type 0 where
  pub genesis : ReadBlock
  pub spelled : block_in true genesis.bytes ≡ Ok genesis
  pub messages : List Said
  pub so_far : SoFar feed_limit start now (head_of terms.profile terms.bits genesis.bytes) [] messages
  pub kept_is : kept ≡ kept_by_all terms.bits genesis (flat_map arrivals_of messages)
  pub seen : HasSeen items terms genesis (flat_map arrivals_of messages) w
  pub wrote : Appends old new (watch_replies genesis terms items [] messages)
  pub answered : AreTold (watch_replied items) old new so_far.given

-- nothing, where a disk would have failed: none is asked
abbrev pub none_due : List ℕ → List ℕ
none_due given = []

abbrev pub FollowsFor : List Item → Moment → Moment → Option (List ℕ) → Option (List ℕ) → Result (Unit {0}) ReplayFault → Type 0
FollowsFor items start now old new result = RepliesFor (watch_replied items) none_due start now old new result

-- where the end was read, what is noted is since when each value stands
abbrev pub HoldsFor : List Item → List ℕ → Watched → Result (Unit {0}) ReplayFault → Type 0
HoldsFor items given w (Ok u) = (more : List ℕ) → watched items (given ++ more) ≡ watch_replied items (given ++ more) ++ flat_map held_of w.entries
HoldsFor items given w (Err fault) = Unit {0}

pub record Follows (items : List Item) (start now : Moment) (old new : Option (List ℕ)) (w : Watched) (result : Result (Unit {0}) ReplayFault) : Type 0 where
  pub replies : FollowsFor items start now old new result
  pub held : HoldsFor items replies.given w result

-- ---- and then since when each value stands

abbrev pub SaysWatch : List Item → Moment → Moment → Option (List ℕ) → Option (List ℕ) → List ℕ → Result (Unit {0}) ReplayFault → Type 0
SaysWatch items start now old new given (Ok u) = (more : List ℕ) → Appends old new (watched items (given ++ more)) × ((fed (given ++ more)).end ≡ Whole more)
SaysWatch items start now old new given (Err (Feed fault)) = SaysDue (watch_replied items) none_due start now old new given (Err (Feed fault))
SaysWatch items start now old new given (Err WriteFault) = (more : List ℕ) → AppendsFront old new (watched items (given ++ more))
SaysWatch items start now old new given (Err DiskFault) = ⊥
SaysWatch items start now old new given (Err Memory) = (more : List ℕ) → AppendsFront old new (watched items (given ++ more))

-- between two moments of a source these bytes were taken, and this was written
pub record Watches (items : List Item) (start now : Moment) (old new : Option (List ℕ)) (result : Result (Unit {0}) ReplayFault) : Type 0 where
  pub given : List ℕ
  pub took : Took feed_limit start now given
  pub needed : AreNeeded given
  pub answered : AreTold (watch_replied items) old new given
  pub says : SaysWatch items start now old new given result
