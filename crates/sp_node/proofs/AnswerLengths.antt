-- Each message that one line answers is answered by one of at most 192 bytes: no more than 512 blocks become present, a label at most 64 bytes, a balance 25 digits, and no word has more than 15 letters.
use Rattle.std.proofs.Common.{◌≡◌, ℕ, zero, suc, ◌+◌, ◌<◌, ◌≤◌, ◌-◌, ◌%◌, ◌^◌, nat_eq, Bool, true, false, not, List, [], ◌∷◌, ◌++◌, length, refl, ap, inl, inr, arith, length-append}
use Rattle.std.specs.Prelude.{All, codes, filter, if◌then◌else◌, Result, Ok, Err}
use Rattle.std.specs.Fmt.{decimal}
use Rattle.std.proofs.Math.ListN.{length-map}
use Rattle.std.proofs.lemmas.Fmt.{length-decimal-le, length-decimal-le_wide}
use Rattle.std.proofs.lemmas.List.Filters.{length-filter_both}
use Rattle.std.specs.List.{list_all}
use Rattle.std.proofs.lemmas.Bool.{cases_Bool, eqb-true}
use Rattle.std.proofs.lemmas.List.Elements.{All-head, All-tail}
use Rattle.sp_ids.specs.Digits.{AreBytes-bytes_of, bytes_of_number, number_of-bound}
use Rattle.sp_ids.specs.Hex.{first_bad_digit, hex_of, number_of_digits, number_unless}
use Rattle.sp_ids.specs.Key.{bytes_of, number_of}
use Rattle.sp_ids.specs.declared.hex_fault.HexFault.{HexFault}
use Rattle.sp_ids.specs.declared.hex_fault.HexFault.TheVariants.{OddLength, WrongLength}
use Rattle.sp_ids.proofs.Spelling.{hex_of-encode_lower}
use Rattle.sp_block.specs.Block.{ReadBlock}
use Rattle.sp_block.specs.declared.fault.BlockFault.{BlockFault}
use Rattle.sp_block.specs.declared.fault.BlockFault.TheVariants as of_block
use Rattle.sp_tx.specs.declared.fault.TxFault.{TxFault}
use Rattle.sp_tx.specs.declared.fault.TxFault.TheVariants as of_tx
use Rattle.sp_model.specs.Graph.{complete, Graph, has, keys, parents_of, rounds}
use Rattle.sp_model.specs.Votes.{word}
use Rattle.sp_model.specs.declared.word.Word.{Word}
use Rattle.sp_model.specs.declared.word.Word.TheVariants as word_is
use Rattle.sp_pool.specs.Kept.{graph_in, graph_of, present, standing_of}
use Rattle.sp_pool.specs.declared.answers.Standing.{Standing}
use Rattle.sp_pool.specs.declared.answers.Standing.TheVariants as standing
use Rattle.sp_pool.proofs.Parents.{keys-graph_of}
use Rattle.sp_pool.proofs.Standings.{from_fresh}
use Rattle.sp_carry.specs.declared.state.TxState.{TxState}
use Rattle.sp_carry.specs.declared.state.TxState.TheVariants as tx_is
use Rattle.sp_engine.specs.Arrivals.{answer_by, answer_of, answer_to, joined, valid_in}
use Rattle.sp_engine.specs.declared.answer.Answer.TheVariants.{Kept, Held}
use Rattle.sp_engine.specs.declared.answer.Refusal.{Refusal}
use Rattle.sp_engine.specs.declared.answer.Refusal.TheVariants.{Spelling, Work}
use Rattle.sp_engine.specs.Transactions.{balance_by_id, state_of}
use Rattle.sp_engine.proofs.SmallBalances.{small_balance}
use Rattle.sp_names.specs.Labels.{AllLabels, AreAllLabels, IsNameLength, Label}
use Rattle.sp_report.specs.Naming.{hex_label, label_of}
use Rattle.sp_report.specs.Lines.{answer_text, balance_text, full_text, kept_text, known_text, refused_text, state_text, tx_text, vote_text, waiting_text, word_text}
use Rattle.sp_report.specs.Reasons.{block_reason, reason, tx_reason}
use Rattle.sp_feed.specs.Kinds.{SaysBlock, SaysVote, SaysTx, SaysBalance, SaysPairs, SaysReport}
use Rattle.sp_node.specs.Answers.{reply_of}
use Rattle.sp_node.specs.Messages.{AnswersAreLines, IsLine}

-- ---- the number of present blocks

filter_short : (p : ℕ → Bool) (xs : List ℕ) → length (filter p xs) ≤ length xs
filter_short p xs = let both = length-filter_both p (λ x. not (p x)) (λ x. refl) xs in omega (arith, both)

few_in_round : (k : ℕ) (graph : Graph) → length (rounds k graph) ≤ length (keys graph)
unfolding rounds
few_in_round zero graph = omega arith
few_in_round (suc k) graph = filter_short (λ z. list_all (λ parent. has (rounds k graph) parent) (parents_of graph z)) (keys graph)

-- no more are present than are kept
few_present : (kept : List ReadBlock) → length (present kept) ≤ length kept
unfolding complete
few_present kept =
    let few : length (present kept) ≤ length (keys (graph_of kept)) = few_in_round (length (graph_of kept).blocks) (graph_of kept) in
    omega (arith, few, ap length (keys-graph_of kept), length-map kept (λ (b : ReadBlock). b.id))

-- ---- labels and words

-- a text that spells an id has 64 digits
spelled_long : (text : List ℕ) (n : ℕ) → hex_of text ≡ Ok n → length text ≡ 64
unfolding hex_of
spelled_long text n h = at (nat_eq (length text % 2) 1) (nat_eq (length text) 64) refl h
  where
    at : (c d : Bool) → nat_eq (length text) 64 ≡ d
        → ◌≡◌ {A = Result ℕ HexFault} (if c then Err OddLength else (if d then number_unless (first_bad_digit text) (number_of_digits text) else Err WrongLength)) (Ok n) → length text ≡ 64
    at true d e h = absurd (cc)
    at false true e h = eqb-true (length text) 64 e
    at false false e h = absurd (cc)

long_label : (id : ℕ) → length (hex_label id) ≡ 64
unfolding hex_label
long_label id =
    let n : ℕ = number_of (bytes_of id) in
    let same : bytes_of n ≡ bytes_of id = bytes_of_number (bytes_of id) (AreBytes-bytes_of id) in
    let long = spelled_long (hex_label n) n (hex_of-encode_lower n (number_of-bound (bytes_of id) (AreBytes-bytes_of id))) in
    rw same at long

-- a name has 64 bytes at most, and so have the digits of an id without one
named_fits : (labels : List Label) → All (λ (label : Label). IsNameLength (length label.1)) labels → (id : ℕ) → length (label_of labels id) ≤ 64
named_fits [] short id = omega (arith, long_label id)
named_fits (label ∷ labels) short id = elim (cases_Bool (nat_eq id label.0)) [
  | inl e ↦ rw e (All-head (λ (label : Label). IsNameLength (length label.1)) label labels short).short
  | inr e ↦ rw e (named_fits labels (All-tail (λ (label : Label). IsNameLength (length label.1)) label labels short) id)
]

short_tx_reason : (fault : TxFault) → length (tx_reason fault) ≤ 15
short_tx_reason of_tx.Short = omega arith
short_tx_reason of_tx.InputCount = omega arith
short_tx_reason of_tx.InputOrder = omega arith
short_tx_reason of_tx.PreimageLength = omega arith
short_tx_reason of_tx.OutputCount = omega arith
short_tx_reason of_tx.Amount = omega arith
short_tx_reason of_tx.Sum = omega arith

short_block_reason : (fault : BlockFault) → length (block_reason fault) ≤ 15
short_block_reason of_block.TooLong = omega arith
short_block_reason of_block.Short = omega arith
short_block_reason of_block.Version = omega arith
short_block_reason of_block.ParentCount = omega arith
short_block_reason of_block.ParentOrder = omega arith
short_block_reason of_block.TxCount = omega arith
short_block_reason (of_block.Tx fault) = short_tx_reason fault
short_block_reason of_block.Grant = omega arith
short_block_reason of_block.SameTx = omega arith
short_block_reason of_block.SameOutpoint = omega arith
short_block_reason of_block.Trailing = omega arith

short_reason : (refusal : Refusal) → length (reason refusal) ≤ 15
short_reason (Spelling fault) = short_block_reason fault
short_reason Work = omega arith

short_word : (w : Word) → length (word_text w) ≤ 6
short_word word_is.Before = omega arith
short_word word_is.After = omega arith
short_word word_is.Tie = omega arith
short_word word_is.Same = omega arith
short_word word_is.Absent = omega arith

short_state : (s : TxState) → length (state_text s) ≤ 8
short_state tx_is.Accepted = omega arith
short_state tx_is.Rejected = omega arith
short_state tx_is.Absent = omega arith

-- ---- lines

is_line : (front : List ℕ) → length front ≤ 191 → IsLine (front ++ 10 ∷ [])
is_line front few = record { front = front; ends = refl; short = omega (arith, few, length-append front (10 ∷ [])) }

-- one piece more
longer : (front piece : List ℕ) (m n : ℕ) → length front ≤ m → length piece ≤ n → length (front ++ piece) ≤ m + n
longer front piece m n few more = omega (arith, few, more, length-append front piece)

kept_is_line : (label : List ℕ) (number : ℕ) → length label ≤ 64 → number ≤ 512 → IsLine (kept_text label number)
unfolding kept_text
kept_is_line label number fits few =
    let digits : length (decimal number) ≤ 3 = length-decimal-le 3 number (omega arith) (omega arith) (omega arith) in
    let named : length (codes "kept " ++ label) ≤ 69 = longer (codes "kept ") label 5 64 (omega arith) fits in
    let said : length (codes "kept " ++ label ++ codes " present ") ≤ 78 = longer (codes "kept " ++ label) (codes " present ") 69 9 named (omega arith) in
    let all : length (codes "kept " ++ label ++ codes " present " ++ decimal number) ≤ 81 = longer (codes "kept " ++ label ++ codes " present ") (decimal number) 78 3 said digits in
    is_line (codes "kept " ++ label ++ codes " present " ++ decimal number) (omega (arith, all))

waiting_is_line : (label : List ℕ) → length label ≤ 64 → IsLine (waiting_text label)
unfolding waiting_text
waiting_is_line label fits =
    let named : length (codes "kept " ++ label) ≤ 69 = longer (codes "kept ") label 5 64 (omega arith) fits in
    let all : length (codes "kept " ++ label ++ codes " waiting") ≤ 77 = longer (codes "kept " ++ label) (codes " waiting") 69 8 named (omega arith) in
    is_line (codes "kept " ++ label ++ codes " waiting") (omega (arith, all))

known_is_line : (label : List ℕ) → length label ≤ 64 → IsLine (known_text label)
unfolding known_text
known_is_line label fits =
    let all : length (codes "known " ++ label) ≤ 70 = longer (codes "known ") label 6 64 (omega arith) fits in
    is_line (codes "known " ++ label) (omega (arith, all))

refused_is_line : (refusal : Refusal) → IsLine (refused_text refusal)
unfolding refused_text
refused_is_line refusal =
    let all : length (codes "refused " ++ reason refusal) ≤ 23 = longer (codes "refused ") (reason refusal) 8 15 (omega arith) (short_reason refusal) in
    is_line (codes "refused " ++ reason refusal) (omega (arith, all))

full_is_line : IsLine full_text
unfolding full_text
full_is_line = is_line (codes "full") (omega arith)

vote_is_line : (x y : List ℕ) (w : Word) → length x ≤ 64 → length y ≤ 64 → IsLine (vote_text x y w)
unfolding vote_text
vote_is_line x y w fits fits_too =
    let first : length (codes "vote " ++ x) ≤ 69 = longer (codes "vote ") x 5 64 (omega arith) fits in
    let space : length (codes "vote " ++ x ++ 32 ∷ []) ≤ 70 = longer (codes "vote " ++ x) (32 ∷ []) 69 1 first (omega arith) in
    let second : length (codes "vote " ++ x ++ 32 ∷ [] ++ y) ≤ 134 = longer (codes "vote " ++ x ++ 32 ∷ []) y 70 64 space fits_too in
    let spaces : length (codes "vote " ++ x ++ 32 ∷ [] ++ y ++ 32 ∷ []) ≤ 135 = longer (codes "vote " ++ x ++ 32 ∷ [] ++ y) (32 ∷ []) 134 1 second (omega arith) in
    let all : length (codes "vote " ++ x ++ 32 ∷ [] ++ y ++ 32 ∷ [] ++ word_text w) ≤ 141 = longer (codes "vote " ++ x ++ 32 ∷ [] ++ y ++ 32 ∷ []) (word_text w) 135 6 spaces (short_word w) in
    is_line (codes "vote " ++ x ++ 32 ∷ [] ++ y ++ 32 ∷ [] ++ word_text w) (omega (arith, all))

tx_is_line : (label : List ℕ) (s : TxState) → length label ≤ 64 → IsLine (tx_text label s)
unfolding tx_text
tx_is_line label s fits =
    let named : length (codes "tx " ++ label) ≤ 67 = longer (codes "tx ") label 3 64 (omega arith) fits in
    let space : length (codes "tx " ++ label ++ 32 ∷ []) ≤ 68 = longer (codes "tx " ++ label) (32 ∷ []) 67 1 named (omega arith) in
    let all : length (codes "tx " ++ label ++ 32 ∷ [] ++ state_text s) ≤ 76 = longer (codes "tx " ++ label ++ 32 ∷ []) (state_text s) 68 8 space (short_state s) in
    is_line (codes "tx " ++ label ++ 32 ∷ [] ++ state_text s) (omega (arith, all))

balance_is_line : (label : List ℕ) (n : ℕ) → length label ≤ 64 → n < 2 ^ 81 → IsLine (balance_text label n)
unfolding balance_text
balance_is_line label n fits few =
    let digits : length (decimal n) ≤ 25 = length-decimal-le_wide 25 n (omega arith) (omega (arith, few)) (omega (arith, few)) in
    let named : length (codes "balance " ++ label) ≤ 72 = longer (codes "balance ") label 8 64 (omega arith) fits in
    let space : length (codes "balance " ++ label ++ 32 ∷ []) ≤ 73 = longer (codes "balance " ++ label) (32 ∷ []) 72 1 named (omega arith) in
    let all : length (codes "balance " ++ label ++ 32 ∷ [] ++ decimal n) ≤ 98 = longer (codes "balance " ++ label ++ 32 ∷ []) (decimal n) 73 25 space digits in
    is_line (codes "balance " ++ label ++ 32 ∷ [] ++ decimal n) (omega (arith, all))

-- ---- answers

module _ (labels : AllLabels) (are : AreAllLabels labels) (kept : List ReadBlock) where
  block_fits : (id : ℕ) → length (label_of labels.blocks id) ≤ 64
  block_fits id = named_fits labels.blocks are.blocks.short id

  joined_is_line : (block : ReadBlock) → length kept < 512 → IsLine (answer_text labels (joined kept block))
  unfolding joined
  joined_is_line block room = at (has (present (kept ++ block ∷ [])) block.id)
    where
      number : ℕ
      number = length (present (kept ++ block ∷ [])) - length (present kept)

      at : (c : Bool) → IsLine (answer_text labels (if c then Kept block.id number else Held block.id))
      at true = kept_is_line (label_of labels.blocks block.id) number (block_fits block.id) (omega (arith, few_present (kept ++ block ∷ []), length-append kept (block ∷ [])))
      at false = waiting_is_line (label_of labels.blocks block.id) (block_fits block.id)

  standing_is_line : (block : ReadBlock) (s : Standing) → standing_of kept block.id ≡ s → IsLine (answer_text labels (answer_by s kept block))
  standing_is_line block standing.Known e = known_is_line (label_of labels.blocks block.id) (block_fits block.id)
  standing_is_line block standing.Full e = full_is_line
  standing_is_line block standing.Fresh e = joined_is_line block (from_fresh kept block.id e).1

  judged_is_line : (judged : Result ReadBlock Refusal) → IsLine (answer_text labels (answer_to kept judged))
  judged_is_line (Err refusal) = refused_is_line refusal
  judged_is_line (Ok block) = standing_is_line block (standing_of kept block.id) refl

pub answers_are_lines : AnswersAreLines
unfolding reply_of answer_of
answers_are_lines labels terms kept (SaysBlock bytes) are one = judged_is_line labels are kept (valid_in terms.bits bytes)
answers_are_lines labels terms kept (SaysVote x y) are one =
    vote_is_line (label_of labels.blocks x) (label_of labels.blocks y) (word (graph_in terms.profile kept) (present kept) x y) (named_fits labels.blocks are.blocks.short x) (named_fits labels.blocks are.blocks.short y)
answers_are_lines labels terms kept (SaysTx id) are one = tx_is_line (label_of labels.txs id) (state_of terms.profile kept id) (named_fits labels.txs are.txs.short id)
answers_are_lines labels terms kept (SaysBalance lock) are one =
    balance_is_line (label_of labels.locks lock) (balance_by_id terms.profile kept lock) (named_fits labels.locks are.locks.short lock) (small_balance terms.profile kept one lock)
answers_are_lines labels terms kept SaysPairs are one = absurd one
answers_are_lines labels terms kept SaysReport are one = absurd one
