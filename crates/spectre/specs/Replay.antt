-- What a feed writes: the answer to each message, over the blocks of a journal where there is one, and the line of its
-- fault.
use Rattle.std.specs.Prelude.{ℕ, ◌-◌, true, List, [], ◌++◌, length, take, Option, Some, None}
use Rattle.sp_engine.specs.Blocks.{block_in}
use Rattle.sp_feed.specs.Feed.{End, Feed, feed, Malformed, TooLong, Truncated, Whole}
use Rattle.sp_feed.specs.Format.{Head}
use Rattle.sp_feed.specs.Kinds.{Said}
use Rattle.sp_names.specs.Labels.{no_labels}
use Rattle.sp_node.specs.Terms.{Terms, terms_of}
use Rattle.sp_report.specs.Lines.{malformed_text, too_long_text, truncated_text}
use Rattle.spectre.specs.Scenes.{lines_by}

-- the most bytes that are taken of a feed
abbrev pub feed_limit : ℕ
feed_limit = 4294967295

-- the profile and the bits of a head
abbrev pub head_terms : Head → Terms
head_terms head = terms_of head.profile head.bits

-- the answer to each message behind these arrivals, over the genesis block that the head spells
abbrev pub lines_under : List (List ℕ) → Option Head → List Said → List ℕ
lines_under before None messages = []
lines_under before (Some head) messages = lines_by no_labels (block_in true head.genesis) (head_terms head) before messages

abbrev pub message_lines : List (List ℕ) → Feed → List ℕ
message_lines before f = lines_under before f.head f.messages

-- the line of the fault by which reading ends
abbrev pub end_text : End → List ℕ
end_text (Whole rest) = []
end_text (Malformed at) = malformed_text at
end_text (Truncated at) = truncated_text at
end_text (TooLong taken) = too_long_text taken

abbrev pub feed_text : List (List ℕ) → Feed → List ℕ
feed_text before f = message_lines before f ++ end_text f.end

-- the feed that the input is
abbrev pub fed : List ℕ → Feed
fed input = feed feed_limit input

-- what a feed writes
unfoldable pub replayed : List (List ℕ) → List ℕ → List ℕ
replayed before input = feed_text before (fed input)

-- the answers to the messages of a feed alone
unfoldable pub replied : List (List ℕ) → List ℕ → List ℕ
replied before input = message_lines before (fed input)

abbrev pub but_last : List Said → List Said
but_last messages = take (length messages - 1) messages

-- the answers to all of them but the last
abbrev pub replied_but_last : List (List ℕ) → List ℕ → List ℕ
replied_but_last before input = lines_under before (fed input).head (but_last (fed input).messages)
