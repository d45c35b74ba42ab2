-- Laws of messages one after another, over the definitions alone.
use Rattle.std.specs.Prelude.{ℕ, ◌≡◌, ◌≤◌, List, [], ◌∷◌, ◌++◌, fold, length}
use Rattle.std.specs.List.{flat_map}
use Rattle.sp_block.specs.Block.{ReadBlock}
use Rattle.sp_model.specs.declared.profile.Profile.{Profile}
use Rattle.sp_pool.specs.Kept.{AreKept, present}
use Rattle.sp_carry.specs.Ledger.{IsPlain}
use Rattle.sp_engine.specs.AnyOrder.{AreSameArrivals}
use Rattle.sp_engine.specs.Arrivals.{kept_by_all}
use Rattle.sp_engine.specs.Transactions.{ledger_of}
use Rattle.sp_feed.specs.Kinds.{Said, SaysBlock, SaysVote, SaysTx, SaysBalance, SaysPairs, SaysReport}
use Rattle.sp_names.specs.Labels.{AllLabels, AreAllLabels}
use Rattle.sp_node.specs.Answers.{answers, arrivals_of, IsQuestion, kept_then, reply, reply_of}
use Rattle.sp_node.specs.Terms.{Terms}

-- what is kept after one message after another is what is kept of all the bytes that arrived with them
abbrev pub KeptByMessages : Type 0
KeptByMessages = (bits : ℕ) (genesis : ReadBlock) (messages : List Said) →
    fold (kept_then bits) (genesis ∷ []) messages ≡ kept_by_all bits genesis (flat_map arrivals_of messages)

-- the answers to a list are those to its front, and then those to the rest after what arrived with the front
abbrev pub AnswersInTurn : Type 0
AnswersInTurn = (labels : AllLabels) (genesis : ReadBlock) (terms : Terms) (arrivals : List (List ℕ)) (front rest : List Said) →
    answers labels genesis terms arrivals (front ++ rest)
    ≡ answers labels genesis terms arrivals front ++ answers labels genesis terms (arrivals ++ flat_map arrivals_of front) rest

-- byte 10 ends it, and it has at most 192 bytes
pub record IsLine (bytes : List ℕ) : Type 0 where
  pub front : List ℕ
  pub ends : bytes ≡ front ++ 10 ∷ []
  pub short : length bytes ≤ 192

-- One line answers the message, over these blocks. A balance needs that they are kept ones, whose amounts have bounds.
abbrev pub HasOneLine : List ReadBlock → Said → Type 0
HasOneLine kept (SaysBlock bytes) = Unit {0}
HasOneLine kept (SaysVote x y) = Unit {0}
HasOneLine kept (SaysTx id) = Unit {0}
HasOneLine kept (SaysBalance lock) = AreKept kept
HasOneLine kept SaysPairs = ⊥
HasOneLine kept SaysReport = ⊥

-- such a message is answered by one line, where names have at most 64 bytes or ids stand for themselves
abbrev pub AnswersAreLines : Type 0
AnswersAreLines =
    (labels : AllLabels) (terms : Terms) (kept : List ReadBlock) (message : Said) → AreAllLabels labels → HasOneLine kept message →
    IsLine (reply_of labels terms kept message)

-- what an answer on transactions, balances or both needs: no two different transactions of the present blocks have one id
abbrev pub IsPlainFor : Profile → List ReadBlock → Said → Type 0
IsPlainFor profile kept (SaysBlock bytes) = Unit {0}
IsPlainFor profile kept (SaysVote x y) = Unit {0}
IsPlainFor profile kept (SaysTx id) = IsPlain (ledger_of profile kept) (present kept)
IsPlainFor profile kept (SaysBalance lock) = IsPlain (ledger_of profile kept) (present kept)
IsPlainFor profile kept SaysPairs = Unit {0}
IsPlainFor profile kept SaysReport = IsPlain (ledger_of profile kept) (present kept)

-- Two lists of arrivals with the same valid blocks, at most 512 with genesis and all of different ids: each question is
-- answered alike after both, by one naming
abbrev pub OrderIsNoMatter : Type 0
OrderIsNoMatter =
    (labels : AllLabels) (terms : Terms) (genesis : ReadBlock) (arrivals others : List (List ℕ)) (question : Said) → IsQuestion question →
    AreSameArrivals terms.bits genesis arrivals others → IsPlainFor terms.profile (kept_by_all terms.bits genesis arrivals) question →
    reply labels genesis terms arrivals question ≡ reply labels genesis terms others question
