-- The lines that answer messages, tell faults and make up texts. Each ends with byte 10; numbers are decimal.
use Rattle.std.specs.Prelude.{ℕ, List, [], ◌∷◌, ◌++◌, codes}
use Rattle.std.specs.Fmt.{decimal}
use Rattle.sp_model.specs.declared.word.Word.{Word}
use Rattle.sp_model.specs.declared.word.Word.TheVariants as word_is
use Rattle.sp_carry.specs.declared.state.TxState.{TxState}
use Rattle.sp_carry.specs.declared.state.TxState.TheVariants as tx_is
use Rattle.sp_engine.specs.declared.answer.Answer.{Answer}
use Rattle.sp_engine.specs.declared.answer.Answer.TheVariants.{Kept, Held, Known, Refused, Full}
use Rattle.sp_engine.specs.declared.answer.Refusal.{Refusal}
use Rattle.sp_names.specs.Labels.{AllLabels}
use Rattle.sp_report.specs.Naming.{label_of}
use Rattle.sp_report.specs.Reasons.{reason}

-- a kept block, with the number of blocks that became present
unfoldable pub kept_text : List ℕ → ℕ → List ℕ
kept_text label present = codes "kept " ++ label ++ codes " present " ++ decimal present ++ 10 ∷ []

-- a kept block that waits for an ancestor
unfoldable pub waiting_text : List ℕ → List ℕ
waiting_text label = codes "kept " ++ label ++ codes " waiting" ++ 10 ∷ []

-- a block that was kept before
unfoldable pub known_text : List ℕ → List ℕ
known_text label = codes "known " ++ label ++ 10 ∷ []

-- refused bytes
unfoldable pub refused_text : Refusal → List ℕ
refused_text refusal = codes "refused " ++ reason refusal ++ 10 ∷ []

-- a block for which there is no room
unfoldable pub full_text : List ℕ
full_text = codes "full" ++ 10 ∷ []

-- the line of an answer
abbrev pub answer_text : AllLabels → Answer → List ℕ
answer_text labels (Kept id present) = kept_text (label_of labels.blocks id) present
answer_text labels (Held id) = waiting_text (label_of labels.blocks id)
answer_text labels (Known id) = known_text (label_of labels.blocks id)
answer_text labels (Refused refusal) = refused_text refusal
answer_text labels Full = full_text

-- the word for what is said of two blocks
abbrev pub word_text : Word → List ℕ
word_text word_is.Before = codes "before"
word_text word_is.After = codes "after"
word_text word_is.Tie = codes "tie"
word_text word_is.Same = codes "same"
word_text word_is.Absent = codes "absent"

-- what is said of two blocks, the first and the second one asked for
unfoldable pub vote_text : List ℕ → List ℕ → Word → List ℕ
vote_text x y word = codes "vote " ++ x ++ 32 ∷ [] ++ y ++ 32 ∷ [] ++ word_text word ++ 10 ∷ []

-- the word for the state of a transaction
abbrev pub state_text : TxState → List ℕ
state_text tx_is.Accepted = codes "accepted"
state_text tx_is.Rejected = codes "rejected"
state_text tx_is.Absent = codes "absent"

-- what is said of a transaction
unfoldable pub tx_text : List ℕ → TxState → List ℕ
tx_text label state = codes "tx " ++ label ++ 32 ∷ [] ++ state_text state ++ 10 ∷ []

-- what is left under a lock
unfoldable pub balance_text : List ℕ → ℕ → List ℕ
balance_text label balance = codes "balance " ++ label ++ 32 ∷ [] ++ decimal balance ++ 10 ∷ []

-- how many blocks are present, and how many wait
unfoldable pub blocks_text : ℕ → ℕ → List ℕ
blocks_text present waiting = codes "blocks " ++ decimal present ++ codes " waiting " ++ decimal waiting ++ 10 ∷ []

-- how many pairs of blocks follow
unfoldable pub pair_count_text : ℕ → List ℕ
pair_count_text count = codes "pairs " ++ decimal count ++ 10 ∷ []

-- how many accepted transactions follow
unfoldable pub accepted_count_text : ℕ → List ℕ
accepted_count_text count = codes "accepted " ++ decimal count ++ 10 ∷ []

-- how many balances follow
unfoldable pub balance_count_text : ℕ → List ℕ
balance_count_text count = codes "balances " ++ decimal count ++ 10 ∷ []

-- a feed that breaks its rules at a place
unfoldable pub malformed_text : ℕ → List ℕ
malformed_text place = codes "fault malformed " ++ decimal place ++ 10 ∷ []

-- a feed that ends too early, after so many bytes
unfoldable pub truncated_text : ℕ → List ℕ
truncated_text taken = codes "fault truncated " ++ decimal taken ++ 10 ∷ []

-- a feed that goes on after so many bytes, which are the most that are taken
unfoldable pub too_long_text : ℕ → List ℕ
too_long_text taken = codes "fault too-long " ++ decimal taken ++ 10 ∷ []
