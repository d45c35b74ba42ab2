-- The kept blocks and the answers after one message more, and after a front of the messages.
use Rattle.std.proofs.Common.{◌≡◌, ℕ, List, [], ◌∷◌, ◌++◌, sym, ap, ◌∙◌, append_assoc}
use Rattle.std.specs.List.{flat_map, fold}
use Rattle.std.proofs.lemmas.List.{append-nil}
use Rattle.std.proofs.lemmas.List.Sums.{fold_push}
use Rattle.sp_block.specs.Block.{ReadBlock}
use Rattle.sp_engine.specs.Arrivals.{kept_after, kept_by_all}
use Rattle.sp_feed.specs.Kinds.{Said, SaysBlock, SaysVote, SaysTx, SaysBalance, SaysPairs, SaysReport}
use Rattle.sp_names.specs.Labels.{AllLabels}
use Rattle.sp_node.specs.Answers.{answers, arrivals_of, kept_then, reply}
use Rattle.sp_node.specs.Messages.{AnswersInTurn, KeptByMessages}
use Rattle.sp_node.specs.Terms.{Terms}

-- one arrival more
pub kept_by_all-push : (bits : ℕ) (genesis : ReadBlock) (arrivals : List (List ℕ)) (bytes : List ℕ) → kept_by_all bits genesis (arrivals ++ bytes ∷ []) ≡ kept_after bits (kept_by_all bits genesis arrivals) bytes
kept_by_all-push bits genesis arrivals bytes = fold_push (kept_after bits) (genesis ∷ []) arrivals bytes

-- one message more
pub kept_then_by_all : (bits : ℕ) (genesis : ReadBlock) (arrivals : List (List ℕ)) (m : Said) → kept_then bits (kept_by_all bits genesis arrivals) m ≡ kept_by_all bits genesis (arrivals ++ arrivals_of m)
kept_then_by_all bits genesis arrivals (SaysBlock bytes) = sym (kept_by_all-push bits genesis arrivals bytes)
kept_then_by_all bits genesis arrivals (SaysVote x y) = ap (kept_by_all bits genesis) (sym (append-nil arrivals))
kept_then_by_all bits genesis arrivals (SaysTx id) = ap (kept_by_all bits genesis) (sym (append-nil arrivals))
kept_then_by_all bits genesis arrivals (SaysBalance lock) = ap (kept_by_all bits genesis) (sym (append-nil arrivals))
kept_then_by_all bits genesis arrivals SaysPairs = ap (kept_by_all bits genesis) (sym (append-nil arrivals))
kept_then_by_all bits genesis arrivals SaysReport = ap (kept_by_all bits genesis) (sym (append-nil arrivals))

-- many messages more
pub kept_by_messages : (bits : ℕ) (genesis : ReadBlock) (arrivals : List (List ℕ)) (messages : List Said) → fold (kept_then bits) (kept_by_all bits genesis arrivals) messages ≡ kept_by_all bits genesis (arrivals ++ flat_map arrivals_of messages)
kept_by_messages bits genesis arrivals [] = ap (kept_by_all bits genesis) (sym (append-nil arrivals))
kept_by_messages bits genesis arrivals (m ∷ messages) =
    ap (λ (kept : List ReadBlock). fold (kept_then bits) kept messages) (kept_then_by_all bits genesis arrivals m)
    ∙ kept_by_messages bits genesis (arrivals ++ arrivals_of m) messages
    ∙ ap (kept_by_all bits genesis) (append_assoc arrivals (arrivals_of m) (flat_map arrivals_of messages))

pub kept_from_genesis : KeptByMessages
kept_from_genesis bits genesis messages = kept_by_messages bits genesis [] messages

-- the answers to a front of the messages, and then those to the rest
pub answers-append : (labels : AllLabels) (genesis : ReadBlock) (terms : Terms) (arrivals : List (List ℕ)) (front rest : List Said) → answers labels genesis terms arrivals (front ++ rest) ≡ answers labels genesis terms arrivals front ++ answers labels genesis terms (arrivals ++ flat_map arrivals_of front) rest
unfolding answers
answers-append labels genesis terms arrivals [] rest = ap (λ (a : List (List ℕ)). answers labels genesis terms a rest) (sym (append-nil arrivals))
answers-append labels genesis terms arrivals (m ∷ front) rest =
    let after : List (List ℕ) = arrivals ++ arrivals_of m in
    let here : List ℕ = reply labels genesis terms arrivals m in
    ap (λ (l : List ℕ). here ++ l) (answers-append labels genesis terms after front rest)
    ∙ ap (λ (a : List (List ℕ)). here ++ (answers labels genesis terms after front ++ answers labels genesis terms a rest)) (append_assoc arrivals (arrivals_of m) (flat_map arrivals_of front))
    ∙ sym (append_assoc here (answers labels genesis terms after front) (answers labels genesis terms (arrivals ++ (arrivals_of m ++ flat_map arrivals_of front)) rest))

pub answers_in_turn : AnswersInTurn
answers_in_turn = answers-append

-- the answers to one message more
pub answers-push : (labels : AllLabels) (genesis : ReadBlock) (terms : Terms) (arrivals : List (List ℕ)) (messages : List Said) (m : Said) → answers labels genesis terms arrivals (messages ++ m ∷ []) ≡ answers labels genesis terms arrivals messages ++ reply labels genesis terms (arrivals ++ flat_map arrivals_of messages) m
unfolding answers
answers-push labels genesis terms arrivals messages m =
    answers-append labels genesis terms arrivals messages (m ∷ [])
    ∙ ap (λ (l : List ℕ). answers labels genesis terms arrivals messages ++ l) (append-nil (reply labels genesis terms (arrivals ++ flat_map arrivals_of messages) m))
