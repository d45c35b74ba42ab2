-- What a question leaves as it was.
use Rattle.std.proofs.Common.{inl, ◌≡◌, ◌≢◌, ◌∙◌, ℕ, Bool, false, List, Bor, Option, Some, None, Result, Ok, Err, refl, sym, ap, subst}
use Rattle.std.specs.Prelude.{IfErr, IfSome, OnOk}
use Rattle.sp_io.specs.Causes.{Rose}
use Rattle.sp_block.specs.Block.{ReadBlock}
use Rattle.sp_engine.specs.Engine.{IsRefused, Ledger}
use Rattle.sp_disk.specs.Moments.{IsMoment, Moment}
use Rattle.sp_disk.proofs.Runs.{started}
use Rattle.sp_feed.specs.Kinds.{Said, SaysBlock, SaysVote, SaysTx, SaysBalance, SaysPairs, SaysReport}
use Rattle.sp_feed.specs.Messages.{said_by}
use Rattle.sp_feed.specs.declared.message.Message.{Message}
use Rattle.sp_feed.specs.declared.message.Message.TheVariants.{Block, Vote, Tx, Balance, Pairs, Report, End}
use Rattle.sp_journal.specs.Writer.{Writer}
use Rattle.sp_node.specs.Answers.{IsQuestion, kept_then}
use Rattle.sp_node.specs.Journalled.{HoldsThen, IsKeptOn, LeavesOn}
use Rattle.sp_node.specs.Node.{HasNodeCause, IsAsItWas, State, stops}
use Rattle.sp_node.specs.Terms.{Terms}
use Rattle.sp_node.specs.declared.fault.NodeFault.{NodeFault}
use Rattle.sp_node.specs.declared.fault.NodeFault.TheVariants.{WriteFault, DiskFault, Memory}

-- a message that is no block is a question
pub is_question : (m : Message) → ((bytes : Bor (List ℕ)) → m ≡ Block bytes → ⊥) → IfSome (said_by m) IsQuestion
is_question (Block bytes) other = absurd (other bytes refl)
is_question (Vote x y) other = tt
is_question (Tx id) other = tt
is_question (Balance lock) other = tt
is_question Pairs other = tt
is_question Report other = tt
is_question End other = tt

-- what holds in each case holds of an answer
pub on_ok : {X E : Type 0} (r : Result X E) (P : Type 0) → P → OnOk r P
on_ok (Ok x) P p = p
on_ok (Err e) P p = tt

pub if_question : (s : Option Said) (P : Type 0) → P → IfSome s (λ said. IsQuestion said → P)
if_question None P p = tt
if_question (Some said) P p = λ _. p

-- the blocks that are kept
keeps : (bits : ℕ) (kept now : List ReadBlock) (said : Said) → IsQuestion said → now ≡ kept → now ≡ kept_then bits kept said
keeps bits kept now (SaysBlock bytes) question same = absurd question
keeps bits kept now (SaysVote x y) question same = same
keeps bits kept now (SaysTx id) question same = same
keeps bits kept now (SaysBalance lock) question same = same
keeps bits kept now SaysPairs question same = same
keeps bits kept now SaysReport question same = same

pub question_keeps : (bits : ℕ) (kept now : List ReadBlock) (s : Option Said) → IfSome s IsQuestion → now ≡ kept → IfSome s (λ said. now ≡ kept_then bits kept said)
question_keeps bits kept now None question same = tt
question_keeps bits kept now (Some said) question same = keeps bits kept now said question same

-- what a crash leaves
pub question_leaves : (terms : Terms) (kept : List ReadBlock) (journal : Option Writer) (m : Moment) (s : Option Said) → IsMoment m → IsKeptOn terms kept journal m → IfSome s (λ said. LeavesOn journal m m (HoldsThen terms kept said))
question_leaves terms kept journal m None law stands = tt
question_leaves terms kept None m (Some said) law stands = tt
question_leaves terms kept (Some w) m (Some said) law stands = λ told. started m (HoldsThen terms kept said) law (λ image left. inl ((stands told).holds image left))

-- why it isn't answered
pub question_cause : {X : Type 0} (r : Result X NodeFault) (before now disk_before disk_now : ℕ) → r ≢ Err DiskFault → (r ≡ Err WriteFault → Rose before now) → IfErr r (HasNodeCause before now disk_before disk_now)
question_cause (Ok x) before now disk_before disk_now never rose = tt
question_cause (Err WriteFault) before now disk_before disk_now never rose = rose refl
question_cause (Err DiskFault) before now disk_before disk_now never rose = absurd (never refl)
question_cause (Err Memory) before now disk_before disk_now never rose = tt

-- what stayed the same is as a refused offer leaves it
unrefused : {before now : Ledger} → now ≡ before → IsRefused before now
unrefused {before} {now} same = subst (λ (l : Ledger). IsRefused before l) (sym same) (record { profile = refl; bits = refl; kept = refl; numbered = refl; votes = record { frozen = refl; views = refl; since = refl; rows = record { live = refl; counts = λ _. refl; places = λ _ _. refl }; sums = refl } })

-- a question for which there was no memory leaves a node as it was that isn't stopped
pub as_before : {X : Type 0} (before now : State) (r : Result X NodeFault) → before.stopped ≡ false → now ≡ record before { stopped = stops r } → r ≡ Err Memory → IsAsItWas before now
as_before before now r live state is = record {
  terms = ap (λ (s : State). s.terms) state;
  kept = ap (λ (s : State). s.kept) state;
  stopped = ap (λ (s : State). s.stopped) state ∙ ap stops is ∙ sym live;
  journal = ap (λ (s : State). s.journal) state;
  engine = unrefused (ap (λ (s : State). s.engine) state);
}
