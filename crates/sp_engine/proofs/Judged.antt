-- The answer to bytes and the kept blocks after them, by what the bytes are judged to be.
use Rattle.std.proofs.Common.{◌≡◌, ℕ, List, Result, Ok, Err, sym, ap, subst, ◌∙◌}
use Rattle.std.specs.Prelude.{IfOk, OnOk}
use Rattle.sp_block.specs.Block.{ReadBlock}
use Rattle.sp_ids.specs.declared.memory.Memory.{Memory}
use Rattle.sp_pool.specs.Kept.{keep, standing_of}
use Rattle.sp_pool.specs.declared.answers.Standing.{Standing}
use Rattle.sp_engine.specs.Arrivals.{answer_by, answer_of, answer_to, kept_after, kept_with, valid_in}
use Rattle.sp_engine.specs.Engine.{Ledger}
use Rattle.sp_engine.specs.declared.answer.Answer.{Answer}
use Rattle.sp_engine.specs.declared.answer.Answer.TheVariants.{Full, Kept, Known, Refused}
use Rattle.sp_engine.specs.declared.answer.Refusal.{Refusal}

pub refused : (bits : ℕ) (kept : List ReadBlock) (bytes : List ℕ) (r : Refusal) → valid_in bits bytes ≡ Err r → Refused r ≡ answer_of bits kept bytes
unfolding answer_of
refused bits kept bytes r e = sym (ap (answer_to kept) e)

pub kept_refused : (bits : ℕ) (kept : List ReadBlock) (bytes : List ℕ) (r : Refusal) → valid_in bits bytes ≡ Err r → kept ≡ kept_after bits kept bytes
unfolding kept_after
kept_refused bits kept bytes r e = sym (ap (kept_with kept) e)

pub answered : (bits : ℕ) (kept : List ReadBlock) (bytes : List ℕ) (b : ReadBlock) (s : Standing) → valid_in bits bytes ≡ Ok b → standing_of kept b.id ≡ s → answer_by s kept b ≡ answer_of bits kept bytes
unfolding answer_of
answered bits kept bytes b s e h = sym (ap (answer_to kept) e ∙ ap (λ (t : Standing). answer_by t kept b) h)

pub answer_valid : (bits : ℕ) (kept : List ReadBlock) (bytes : List ℕ) (b : ReadBlock) → valid_in bits bytes ≡ Ok b → answer_by (standing_of kept b.id) kept b ≡ answer_of bits kept bytes
unfolding answer_of
answer_valid bits kept bytes b e = sym (ap (answer_to kept) e)

pub kept_valid : (bits : ℕ) (kept : List ReadBlock) (bytes : List ℕ) (b : ReadBlock) → valid_in bits bytes ≡ Ok b → keep kept b ≡ kept_after bits kept bytes
unfolding kept_after
kept_valid bits kept bytes b e = sym (ap (kept_with kept) e)

pub if_ok : (r : Result Answer Memory) (a b : Answer) → a ≡ b → IfOk r (λ x. x ≡ a) → IfOk r (λ x. x ≡ b)
if_ok r a b e h = subst (λ (y : Answer). IfOk r (λ x. x ≡ y)) e h

pub on_ok : (r : Result Answer Memory) (now a b : List ReadBlock) → a ≡ b → OnOk r (now ≡ a) → OnOk r (now ≡ b)
on_ok r now a b e h = subst (λ (y : List ReadBlock). OnOk r (now ≡ y)) e h

-- how an arrival's id stands
pub stands_as : {seen now : Ledger} {inside block : ReadBlock} {found standing : Standing} → seen ≡ now → inside ≡ block → found ≡ standing_of seen.kept inside.id → found ≡ standing → standing_of now.kept block.id ≡ standing
stands_as {seen = seen} {inside = inside} {block = block} view is from e =
    sym (ap (λ (l : Ledger). standing_of l.kept block.id) view) ∙ sym (ap (λ (b : ReadBlock). standing_of seen.kept b.id) is) ∙ sym from ∙ e

-- ---- what an answer says by its kind

pub refused_is_no_growth : {P : Type 0} (r : Refusal) (id : ℕ) → Refused r ≡ Kept id 1 → P
refused_is_no_growth r id e = cc

pub known_is_no_growth : {P : Type 0} (known id : ℕ) → Known known ≡ Kept id 1 → P
known_is_no_growth known id e = cc

pub full_is_no_growth : {P : Type 0} (id : ℕ) → Full ≡ Kept id 1 → P
full_is_no_growth id e = cc
