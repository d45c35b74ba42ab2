-- What answers messages are whole lines: each text ends with byte 10.
use Rattle.std.proofs.Common.{◌≡◌, inl, inr, ℕ, List, [], ◌∷◌, ◌++◌, Result, Ok, Err, refl, ap, sym, subst, ◌∙◌, append_assoc}
use Rattle.std.specs.Prelude.{codes}
use Rattle.std.specs.Fmt.{decimal}
use Rattle.std.specs.List.{flat_map}
use Rattle.std.proofs.lemmas.List.{append-nil}
use Rattle.sp_block.specs.Block.{ReadBlock}
use Rattle.sp_block.specs.declared.fault.BlockFault.{BlockFault}
use Rattle.sp_model.specs.declared.profile.Profile.{Profile}
use Rattle.sp_model.specs.declared.word.Word.{Word}
use Rattle.sp_carry.specs.declared.state.TxState.{TxState}
use Rattle.sp_engine.specs.declared.answer.Answer.{Answer}
use Rattle.sp_engine.specs.declared.answer.Answer.TheVariants.{Kept, Held, Known, Refused, Full}
use Rattle.sp_feed.specs.Kinds.{Said, SaysBlock, SaysVote, SaysTx, SaysBalance, SaysPairs, SaysReport}
use Rattle.sp_names.specs.Labels.{AllLabels}
use Rattle.sp_node.specs.Answers.{answers, arrivals_of, reply_of}
use Rattle.sp_report.specs.Lines.{accepted_count_text, answer_text, balance_count_text, balance_text, blocks_text, full_text, kept_text, known_text, pair_count_text, refused_text, state_text, tx_text, vote_text, waiting_text, word_text}
use Rattle.sp_report.specs.Naming.{label_of}
use Rattle.sp_report.specs.Reasons.{reason}
use Rattle.sp_report.specs.Texts.{accepted_ids, accepted_text, all_accepted_text, all_paid_text, counts_text, paid_locks, paid_text, pair_text, pairs_of, pairs_of_ids_text, pairs_text, present_ids, report_text}
use Rattle.spectre.specs.LastLine.{AreLines}
use Rattle.spectre.specs.Scenes.{lines_by}
use Rattle.sp_node.specs.Terms.{Terms}

-- ---- lines one behind another

-- a line stands at the end
abbrev pub EndsLine : List ℕ → Type 0
EndsLine text = (front : List ℕ) × (text ≡ front ++ 10 ∷ [])

pub behind : (front : List ℕ) {text : List ℕ} → EndsLine text → EndsLine (front ++ text)
behind front h = (front ++ h.0, ap (λ (t : List ℕ). front ++ t) h.1 ∙ sym (append_assoc front h.0 (10 ∷ [])))

pub join : (a b : List ℕ) → AreLines a → AreLines b → AreLines (a ++ b)
join a b p (inl none) = subst AreLines (sym (ap (λ (t : List ℕ). a ++ t) none ∙ append-nil a)) p
join a b p (inr line) = inr (behind a line)

pub each : {A : Type 0} (text : A → List ℕ) → ((x : A) → AreLines (text x)) → (xs : List A) → AreLines (flat_map text xs)
each text lines [] = inl refl
each text lines (x ∷ xs) = join (text x) (flat_map text xs) (lines x) (each text lines xs)

-- ---- the line of each answer

vote_line : (x y : List ℕ) (word : Word) → AreLines (vote_text x y word)
unfolding vote_text
vote_line x y word = inr (codes "vote " ++ x ++ 32 ∷ [] ++ y ++ 32 ∷ [] ++ word_text word, refl)

tx_line : (label : List ℕ) (state : TxState) → AreLines (tx_text label state)
unfolding tx_text
tx_line label state = inr (codes "tx " ++ label ++ 32 ∷ [] ++ state_text state, refl)

balance_line : (label : List ℕ) (balance : ℕ) → AreLines (balance_text label balance)
unfolding balance_text
balance_line label balance = inr (codes "balance " ++ label ++ 32 ∷ [] ++ decimal balance, refl)

pub answer_ends : (labels : AllLabels) (answer : Answer) → EndsLine (answer_text labels answer)
unfolding kept_text waiting_text known_text refused_text full_text
answer_ends labels (Kept id present) = (codes "kept " ++ label_of labels.blocks id ++ codes " present " ++ decimal present, refl)
answer_ends labels (Held id) = (codes "kept " ++ label_of labels.blocks id ++ codes " waiting", refl)
answer_ends labels (Known id) = (codes "known " ++ label_of labels.blocks id, refl)
answer_ends labels (Refused refusal) = (codes "refused " ++ reason refusal, refl)
answer_ends labels Full = (codes "full", refl)

answer_line : (labels : AllLabels) (answer : Answer) → AreLines (answer_text labels answer)
answer_line labels answer = inr (answer_ends labels answer)

-- ---- the texts of many lines

blocks_line : (present waiting : ℕ) → AreLines (blocks_text present waiting)
unfolding blocks_text
blocks_line present waiting = inr (codes "blocks " ++ decimal present ++ codes " waiting " ++ decimal waiting, refl)

pair_count_line : (n : ℕ) → AreLines (pair_count_text n)
unfolding pair_count_text
pair_count_line n = inr (codes "pairs " ++ decimal n, refl)

accepted_count_line : (n : ℕ) → AreLines (accepted_count_text n)
unfolding accepted_count_text
accepted_count_line n = inr (codes "accepted " ++ decimal n, refl)

balance_count_line : (n : ℕ) → AreLines (balance_count_text n)
unfolding balance_count_text
balance_count_line n = inr (codes "balances " ++ decimal n, refl)

pairs_lines : (profile : Profile) (labels : AllLabels) (kept : List ReadBlock) → AreLines (pairs_text profile labels kept)
unfolding pairs_of_ids_text
pairs_lines profile labels kept = join _ _ (pair_count_line _) (each (pair_text profile labels kept) (λ pair. vote_line _ _ _) (pairs_of (present_ids labels kept)))

accepted_lines : (labels : AllLabels) (ids : List ℕ) → AreLines (all_accepted_text labels ids)
unfolding all_accepted_text
accepted_lines labels ids = join _ _ (accepted_count_line _) (each (accepted_text labels) (λ id. tx_line _ _) ids)

paid_lines : (profile : Profile) (labels : AllLabels) (kept : List ReadBlock) (locks : List ℕ) → AreLines (all_paid_text profile labels kept locks)
unfolding all_paid_text
paid_lines profile labels kept locks = join _ _ (balance_count_line _) (each (paid_text profile labels kept) (λ lock. balance_line _ _) locks)

pub report_lines : (profile : Profile) (labels : AllLabels) (kept : List ReadBlock) → AreLines (report_text profile labels kept)
unfolding report_text
report_lines profile labels kept =
    join (counts_text kept) _ (blocks_line _ _) (join _ _ (accepted_lines labels (accepted_ids profile labels kept)) (paid_lines profile labels kept (paid_locks profile labels kept)))

-- ---- the answers to messages

pub reply_lines : (labels : AllLabels) (terms : Terms) (kept : List ReadBlock) (message : Said) → AreLines (reply_of labels terms kept message)
unfolding reply_of
reply_lines labels terms kept (SaysBlock bytes) = answer_line labels _
reply_lines labels terms kept (SaysVote x y) = vote_line _ _ _
reply_lines labels terms kept (SaysTx id) = tx_line _ _
reply_lines labels terms kept (SaysBalance lock) = balance_line _ _
reply_lines labels terms kept SaysPairs = pairs_lines terms.profile labels kept
reply_lines labels terms kept SaysReport = report_lines terms.profile labels kept

answers_lines : (labels : AllLabels) (genesis : ReadBlock) (terms : Terms) (arrivals : List (List ℕ)) (messages : List Said) → AreLines (answers labels genesis terms arrivals messages)
unfolding answers
answers_lines labels genesis terms arrivals [] = inl refl
answers_lines labels genesis terms arrivals (message ∷ messages) =
    join _ (answers labels genesis terms (arrivals ++ arrivals_of message) messages) (reply_lines labels terms _ message) (answers_lines labels genesis terms (arrivals ++ arrivals_of message) messages)

-- what answers the messages of a feed or a scene
pub all_lines : (labels : AllLabels) (r : Result ReadBlock BlockFault) (terms : Terms) (before : List (List ℕ)) (messages : List Said) → AreLines (lines_by labels r terms before messages)
all_lines labels (Ok genesis) terms before messages = answers_lines labels genesis terms before messages
all_lines labels (Err fault) terms before messages = inl refl
