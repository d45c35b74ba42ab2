-- What `watch` writes for a feed.
use Rattle.std.specs.Prelude.{ℕ, true, List, [], ◌∷◌, ◌++◌, flat_map, length, Option, Some, None, Result, Ok, Err}
use Rattle.sp_block.specs.Block.{ReadBlock}
use Rattle.sp_block.specs.declared.fault.BlockFault.{BlockFault}
use Rattle.sp_engine.specs.Blocks.{block_in}
use Rattle.sp_feed.specs.Feed.{End, Feed, Malformed, TooLong, Truncated, Whole}
use Rattle.sp_feed.specs.Format.{Head}
use Rattle.sp_feed.specs.Kinds.{Said, SaysBlock, SaysVote, SaysTx, SaysBalance, SaysPairs, SaysReport}
use Rattle.sp_names.specs.Labels.{no_labels}
use Rattle.sp_node.specs.Answers.{arrivals_of, reply}
use Rattle.sp_node.specs.Terms.{Terms}
use Rattle.sp_watch.specs.Arrivals.{changes_text, held_texts, history_of}
use Rattle.sp_watch.specs.declared.item.Item.{Item}
use Rattle.spectre.specs.Replay.{end_text, fed, head_terms}

-- the lines of what a message changes, behind these arrivals: one that brings no block changes nothing
abbrev pub turned_text : ReadBlock → Terms → List Item → List (List ℕ) → Said → List ℕ
turned_text genesis terms items arrivals (SaysBlock bytes) =
    changes_text terms.profile (history_of terms.bits genesis (arrivals ++ bytes ∷ [])) (length arrivals) items
turned_text genesis terms items arrivals (SaysVote x y) = []
turned_text genesis terms items arrivals (SaysTx id) = []
turned_text genesis terms items arrivals (SaysBalance lock) = []
turned_text genesis terms items arrivals SaysPairs = []
turned_text genesis terms items arrivals SaysReport = []

-- the answer to a message, and behind it what the message changes
abbrev pub watch_reply : ReadBlock → Terms → List Item → List (List ℕ) → Said → List ℕ
watch_reply genesis terms items arrivals message =
    reply no_labels genesis terms arrivals message ++ turned_text genesis terms items arrivals message

-- so for each message
unfoldable pub watch_replies : ReadBlock → Terms → List Item → List (List ℕ) → List Said → List ℕ
watch_replies genesis terms items arrivals [] = []
watch_replies genesis terms items arrivals (message ∷ messages) =
    watch_reply genesis terms items arrivals message ++ watch_replies genesis terms items (arrivals ++ arrivals_of message) messages

abbrev pub watch_lines_by : List Item → Result ReadBlock BlockFault → Terms → List Said → List ℕ
watch_lines_by items (Ok genesis) terms messages = watch_replies genesis terms items [] messages
watch_lines_by items (Err fault) terms messages = []

abbrev pub watch_lines_under : List Item → Option Head → List Said → List ℕ
watch_lines_under items None messages = []
watch_lines_under items (Some head) messages = watch_lines_by items (block_in true head.genesis) (head_terms head) messages

-- the lines of a feed's messages
unfoldable pub watch_replied : List Item → List ℕ → List ℕ
watch_replied items input = watch_lines_under items (fed input).head (fed input).messages

-- since when each value stands after these arrivals
abbrev pub held_lines : ReadBlock → Terms → List Item → List (List ℕ) → List ℕ
held_lines genesis terms items arrivals =
    held_texts terms.profile (history_of terms.bits genesis arrivals) (length arrivals) items

abbrev pub held_by : List Item → Result ReadBlock BlockFault → Terms → List Said → List ℕ
held_by items (Ok genesis) terms messages = held_lines genesis terms items (flat_map arrivals_of messages)
held_by items (Err fault) terms messages = []

abbrev pub held_under : List Item → Option Head → List Said → List ℕ
held_under items None messages = []
held_under items (Some head) messages = held_by items (block_in true head.genesis) (head_terms head) messages

-- behind the frame `E` since when each value stands; else the line of the feed's fault
abbrev pub watch_end : List Item → Feed → End → List ℕ
watch_end items f (Whole rest) = held_under items f.head f.messages
watch_end items f (Malformed at) = end_text (Malformed at)
watch_end items f (Truncated at) = end_text (Truncated at)
watch_end items f (TooLong taken) = end_text (TooLong taken)

-- what `watch ITEM ..` writes for an input
unfoldable pub watched : List Item → List ℕ → List ℕ
watched items input = watch_replied items input ++ watch_end items (fed input) (fed input).end
