-- What answers each message of a feed, over the blocks that arrived before it.
use Rattle.std.specs.Prelude.{ℕ, List, [], ◌∷◌, ◌++◌, Option, Some, None}
use Rattle.sp_block.specs.Block.{ReadBlock}
use Rattle.sp_model.specs.Votes.{word}
use Rattle.sp_pool.specs.Kept.{graph_in, present}
use Rattle.sp_engine.specs.Arrivals.{answer_of, kept_after, kept_by_all}
use Rattle.sp_engine.specs.Transactions.{balance_by_id, state_of}
use Rattle.sp_feed.specs.Kinds.{Said, SaysBlock, SaysVote, SaysTx, SaysBalance, SaysPairs, SaysReport}
use Rattle.sp_names.specs.Labels.{AllLabels}
use Rattle.sp_report.specs.Lines.{answer_text, balance_text, tx_text, vote_text}
use Rattle.sp_report.specs.Naming.{label_of}
use Rattle.sp_report.specs.Texts.{pairs_text, report_text}
use Rattle.sp_node.specs.Terms.{Terms}

-- What answers a message by these labels and on these terms where these blocks are kept: the line of what becomes of the bytes; or the line of what all
-- present blocks say of the two, of the transaction, or of the lock; or the lines of all pairs, or of the report
unfoldable pub reply_of : AllLabels → Terms → List ReadBlock → Said → List ℕ
reply_of labels terms kept (SaysBlock bytes) = answer_text labels (answer_of terms.bits kept bytes)
reply_of labels terms kept (SaysVote x y) =
    vote_text (label_of labels.blocks x) (label_of labels.blocks y) (word (graph_in terms.profile kept) (present kept) x y)
reply_of labels terms kept (SaysTx id) = tx_text (label_of labels.txs id) (state_of terms.profile kept id)
reply_of labels terms kept (SaysBalance lock) = balance_text (label_of labels.locks lock) (balance_by_id terms.profile kept lock)
reply_of labels terms kept SaysPairs = pairs_text terms.profile labels kept
reply_of labels terms kept SaysReport = report_text terms.profile labels kept

-- the kept blocks after a message
abbrev pub kept_then : ℕ → List ReadBlock → Said → List ReadBlock
kept_then bits kept (SaysBlock bytes) = kept_after bits kept bytes
kept_then bits kept (SaysVote x y) = kept
kept_then bits kept (SaysTx id) = kept
kept_then bits kept (SaysBalance lock) = kept
kept_then bits kept SaysPairs = kept
kept_then bits kept SaysReport = kept

-- the bytes that arrive with a message
abbrev pub arrivals_of : Said → List (List ℕ)
arrivals_of (SaysBlock bytes) = bytes ∷ []
arrivals_of (SaysVote x y) = []
arrivals_of (SaysTx id) = []
arrivals_of (SaysBalance lock) = []
arrivals_of SaysPairs = []
arrivals_of SaysReport = []

-- what answers a message after these bytes arrived
abbrev pub reply : AllLabels → ReadBlock → Terms → List (List ℕ) → Said → List ℕ
reply labels genesis terms arrivals message = reply_of labels terms (kept_by_all terms.bits genesis arrivals) message

-- the answers to these messages, each over the bytes that arrived before it
unfoldable pub answers : AllLabels → ReadBlock → Terms → List (List ℕ) → List Said → List ℕ
answers labels genesis terms arrivals [] = []
answers labels genesis terms arrivals (message ∷ messages) =
    reply labels genesis terms arrivals message ++ answers labels genesis terms (arrivals ++ arrivals_of message) messages

-- a message that brings no block
abbrev pub IsQuestion : Said → Type 0
IsQuestion (SaysBlock bytes) = ⊥
IsQuestion (SaysVote x y) = Unit {0}
IsQuestion (SaysTx id) = Unit {0}
IsQuestion (SaysBalance lock) = Unit {0}
IsQuestion SaysPairs = Unit {0}
IsQuestion SaysReport = Unit {0}

-- a message that many lines answer, put in order first
abbrev pub IsTextOf : Option Said → Type 0
IsTextOf None = ⊥
IsTextOf (Some (SaysBlock bytes)) = ⊥
IsTextOf (Some (SaysVote x y)) = ⊥
IsTextOf (Some (SaysTx id)) = ⊥
IsTextOf (Some (SaysBalance lock)) = ⊥
IsTextOf (Some SaysPairs) = Unit {0}
IsTextOf (Some SaysReport) = Unit {0}
