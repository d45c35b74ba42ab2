-- What an arrival changes of the kept blocks, as its answer tells it.
use Rattle.std.proofs.Common.{◌≡◌, ℕ, Bool, true, false, cond, List, [], ◌∷◌, ◌++◌, Option, Some, None, Result, Ok, Err, refl, sym, ap, subst, ◌∙◌}
use Rattle.sp_block.specs.Block.{ReadBlock}
use Rattle.sp_model.specs.Graph.{has}
use Rattle.sp_pool.specs.Kept.{present, standing_of}
use Rattle.sp_pool.specs.declared.answers.Standing.{Standing}
use Rattle.sp_pool.specs.declared.answers.Standing.TheVariants as standing
use Rattle.sp_engine.specs.Arrivals.{answer_by, answer_of, answer_to, joined, kept_after, kept_with, valid_in}
use Rattle.sp_engine.specs.declared.answer.Answer.{Answer}
use Rattle.sp_engine.specs.declared.answer.Answer.TheVariants.{Kept, Held}
use Rattle.sp_engine.specs.declared.answer.Refusal.{Refusal}
use Rattle.sp_report.specs.KeptIds.{kept_id}

-- the block that joins the kept ones
pub record Joins (bits : ℕ) (kept : List ReadBlock) (bytes : List ℕ) (id : ℕ) : Type 0 where
  pub block : ReadBlock
  pub valid : valid_in bits bytes ≡ Ok block
  pub fresh : standing_of kept block.id ≡ standing.Fresh
  pub now : kept_after bits kept bytes ≡ kept ++ block ∷ []
  pub same : block.id ≡ id

-- what the answer says of the kept blocks
abbrev pub Changes : ℕ → List ReadBlock → List ℕ → Option ℕ → Type 0
Changes bits kept bytes None = kept_after bits kept bytes ≡ kept
Changes bits kept bytes (Some id) = Joins bits kept bytes id

kept_either : (b : Bool) (id n : ℕ) → kept_id (cond b (Kept id n) (Held id)) ≡ Some id
kept_either true id n = refl
kept_either false id n = refl

pub changes : (bits : ℕ) (kept : List ReadBlock) (bytes : List ℕ) → Changes bits kept bytes (kept_id (answer_of bits kept bytes))
unfolding answer_of kept_after joined
changes bits kept bytes = judged (valid_in bits bytes) refl
  where
    by : (block : ReadBlock) (s : Standing) → valid_in bits bytes ≡ Ok block → standing_of kept block.id ≡ s → Changes bits kept bytes (kept_id (answer_by s kept block))
    by block standing.Known valid is = rw (valid, is) refl
    by block standing.Full valid is = rw (valid, is) refl
    by block standing.Fresh valid is =
        let joins : Joins bits kept bytes block.id = record { block = block; valid = valid; fresh = is; now = rw (valid, is) refl; same = refl } in
        subst (Changes bits kept bytes) (sym (kept_either (has (present (kept ++ block ∷ [])) block.id) block.id _)) joins

    judged : (r : Result ReadBlock Refusal) → valid_in bits bytes ≡ r → Changes bits kept bytes (kept_id (answer_to kept (valid_in bits bytes)))
    judged (Err refusal) e = rw e (ap (kept_with kept) e)
    judged (Ok block) e = rw e (by block (standing_of kept block.id) e refl)

-- the same of what was told of the answer
pub told_changes : (bits : ℕ) (kept : List ReadBlock) (bytes : List ℕ) (answer : Answer) (told : Option ℕ) → told ≡ kept_id answer → answer ≡ answer_of bits kept bytes → Changes bits kept bytes told
told_changes bits kept bytes answer told of is = subst (Changes bits kept bytes) (sym (of ∙ ap kept_id is)) (changes bits kept bytes)

pub told_joins : (bits : ℕ) (kept : List ReadBlock) (bytes : List ℕ) (answer : Answer) (told : Option ℕ) (id : ℕ) → told ≡ kept_id answer → answer ≡ answer_of bits kept bytes → told ≡ Some id → Joins bits kept bytes id
told_joins bits kept bytes answer told id of is some = subst (Changes bits kept bytes) some (told_changes bits kept bytes answer told of is)
