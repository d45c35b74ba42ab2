-- What bytes are by the rules, each answer by its cause, and the kept blocks over the bytes of all arrivals.
use Rattle.std.proofs.Common.{◌≡◌, ℕ, ◌+◌, ◌-◌, ◌≤◌, Bool, true, false, cond, List, [], ◌∷◌, ◌++◌, length, Ok, Err, refl, sym, ap, subst, ◌∙◌, inl, inr, arith}
use Rattle.std.specs.Prelude.{fold}
use Rattle.std.proofs.lemmas.Bool.{false≢true}
use Rattle.sp_ids.specs.Digest.{sha256_number}
use Rattle.sp_block.specs.Block.{block_of, ReadBlock}
use Rattle.sp_block.specs.Format.{Parts}
use Rattle.sp_block.specs.Spelling.{HasBlockFault, SpellsBlock}
use Rattle.sp_block.specs.declared.fault.BlockFault.{BlockFault}
use Rattle.sp_block.proofs.Whole.{either}
use Rattle.sp_model.specs.Graph.{has}
use Rattle.sp_pool.specs.Arrivals.{AreValid, invalid, IsValid, none, valid}
use Rattle.sp_pool.specs.Kept.{AreApart, keep, present, standing_of}
use Rattle.sp_pool.specs.declared.answers.Standing.{Standing}
use Rattle.sp_pool.specs.declared.answers.Standing.TheVariants as standing
use Rattle.sp_pool.proofs.Growth.{present_stays}
use Rattle.sp_engine.specs.Arrivals.{answer_by, answer_of, joined, kept_after, kept_with, KeptAreOfArrivals, NoOthersAreKept, valid_in}
use Rattle.sp_block.specs.Judged.{meets}
use Rattle.sp_block.proofs.Judged.{meets_zeros, zeros_met}
use Rattle.sp_engine.specs.Causes.{FindsNoRoom, FullIsCaused, HeldIsCaused, IsHeld, IsKept, IsKnown, KeptIsCaused, KnownIsCaused, MissesWork, SpellingIsCaused, WorkIsCaused}
use Rattle.sp_engine.specs.declared.answer.Answer.{Answer}
use Rattle.sp_engine.specs.declared.answer.Answer.TheVariants.{Kept, Held, Known, Refused, Full}
use Rattle.sp_engine.specs.declared.answer.Refusal.{Refusal}
use Rattle.sp_engine.specs.declared.answer.Refusal.TheVariants.{Spelling, Work}
use Rattle.sp_engine.proofs.Counts.{AreDistinct-present, distinct_within}
use Rattle.sp_engine.proofs.Judged.{answered, refused}
use Rattle.sp_engine.proofs.SpelledBlocks.{valid_fault, valid_ok, valid_work}

-- ---- what bytes are

-- a fault, a block that misses the work, or a valid block
data Judgement (bits : ℕ) (bytes : List ℕ) : Type 0 where
  faulty : (fault : BlockFault) → HasBlockFault bytes false fault → Judgement bits bytes
  missed : MissesWork bits bytes → Judgement bits bytes
  good : (block : ReadBlock) → IsValid bits bytes block → Judgement bits bytes

judge : (bits : ℕ) (bytes : List ℕ) → Judgement bits bytes
judge bits bytes = elim (either bytes false) [
  | inl s ↦ by_work s.0 s.1 (meets (sha256_number bytes) bits) refl
  | inr f ↦ faulty f.0 f.1
]
  where
    by_work : (parts : Parts) → SpellsBlock bytes false parts → (c : Bool) → meets (sha256_number bytes) bits ≡ c → Judgement bits bytes
    by_work parts s true e = good (block_of bytes parts) (record { spells = s; whole = refl; work = zeros_met (sha256_number bytes) bits e })
    by_work parts s false e = missed (record { parts = parts; spells = s; misses = λ h. false≢true (sym e ∙ meets_zeros (sha256_number bytes) bits h) })

judged_good : (bits : ℕ) (bytes : List ℕ) (b : ReadBlock) → IsValid bits bytes b → valid_in bits bytes ≡ Ok b
judged_good bits bytes b v = valid_ok bits true v.spells v.whole (λ _. v.work, λ _. refl) refl

judged_missed : (bits : ℕ) (bytes : List ℕ) → MissesWork bits bytes → valid_in bits bytes ≡ Err Work
judged_missed bits bytes m =
    valid_work {bytes = bytes} {block = block_of bytes m.parts} bits false m.spells refl (λ no. absurd (false≢true no), λ h. absurd (m.misses h)) refl

-- ---- each answer by its cause

-- the number of blocks that became present, as a difference
record IsCounted (bits : ℕ) (kept : List ReadBlock) (bytes : List ℕ) (id n : ℕ) : Type 0 where
  block : ReadBlock
  valid : IsValid bits bytes block
  same : block.id ≡ id
  fresh : standing_of kept id ≡ standing.Fresh
  here : has (present (kept ++ block ∷ [])) id ≡ true
  grown : n ≡ length (present (kept ++ block ∷ [])) - length (present kept)

abbrev HasCause : ℕ → List ReadBlock → List ℕ → Answer → Type 0
HasCause bits kept bytes (Refused (Spelling fault)) = HasBlockFault bytes false fault
HasCause bits kept bytes (Refused Work) = MissesWork bits bytes
HasCause bits kept bytes (Known id) = IsKnown bits kept bytes id
HasCause bits kept bytes Full = FindsNoRoom bits kept bytes
HasCause bits kept bytes (Held id) = IsHeld bits kept bytes id
HasCause bits kept bytes (Kept id n) = IsCounted bits kept bytes id n

module _ (bits : ℕ) (kept : List ReadBlock) (bytes : List ℕ) where
  joins_by : (b : ReadBlock) → IsValid bits bytes b → standing_of kept b.id ≡ standing.Fresh → (c : Bool) → has (present (kept ++ b ∷ [])) b.id ≡ c
      → HasCause bits kept bytes (cond c (Kept b.id (length (present (kept ++ b ∷ [])) - length (present kept))) (Held b.id))
  joins_by b v e true h = record { block = b; valid = v; same = refl; fresh = e; here = h; grown = refl }
  joins_by b v e false h = record { block = b; valid = v; same = refl; fresh = e; absent = h }

  stands_by : (b : ReadBlock) → IsValid bits bytes b → (s : Standing) → standing_of kept b.id ≡ s → HasCause bits kept bytes (answer_by s kept b)
  unfolding joined
  stands_by b v standing.Known e = record { block = b; valid = v; same = refl; known = e }
  stands_by b v standing.Full e = record { block = b; valid = v; full = e }
  stands_by b v standing.Fresh e = joins_by b v e (has (present (kept ++ b ∷ [])) b.id) refl

  cause : HasCause bits kept bytes (answer_of bits kept bytes)
  cause = at (judge bits bytes)
    where
      at : Judgement bits bytes → HasCause bits kept bytes (answer_of bits kept bytes)
      at (faulty fault h) = subst (HasCause bits kept bytes) (refused bits kept bytes (Spelling fault) (valid_fault bits bytes fault h)) h
      at (missed m) = subst (HasCause bits kept bytes) (refused bits kept bytes Work (judged_missed bits bytes m)) m
      at (good b v) = subst (HasCause bits kept bytes) (answered bits kept bytes b (standing_of kept b.id) (judged_good bits bytes b v) refl) (stands_by b v (standing_of kept b.id) refl)

  caused : (a : Answer) → answer_of bits kept bytes ≡ a → HasCause bits kept bytes a
  caused a e = subst (HasCause bits kept bytes) e cause

  answers : (b : ReadBlock) (s : Standing) → IsValid bits bytes b → standing_of kept b.id ≡ s → answer_of bits kept bytes ≡ answer_by s kept b
  answers b s v e = sym (answered bits kept bytes b s (judged_good bits bytes b v) e)

  stays : (b : ReadBlock) → AreApart kept → length (present kept) ≤ length (present (kept ++ b ∷ []))
  stays b apart = distinct_within (present kept) (present (kept ++ b ∷ [])) (AreDistinct-present kept apart) (present_stays kept b)

joined_held : (kept : List ReadBlock) (b : ReadBlock) → has (present (kept ++ b ∷ [])) b.id ≡ false → joined kept b ≡ Held b.id
unfolding joined
joined_held kept b h = rw h refl

joined_kept : (kept : List ReadBlock) (b : ReadBlock) → has (present (kept ++ b ∷ [])) b.id ≡ true → joined kept b ≡ Kept b.id (length (present (kept ++ b ∷ [])) - length (present kept))
unfolding joined
joined_kept kept b h = rw h refl

pub spelling_is_caused : SpellingIsCaused
spelling_is_caused bits kept bytes fault =
    (caused bits kept bytes (Refused (Spelling fault)), λ h. sym (refused bits kept bytes (Spelling fault) (valid_fault bits bytes fault h)))

pub work_is_caused : WorkIsCaused
work_is_caused bits kept bytes =
    (caused bits kept bytes (Refused Work), λ m. sym (refused bits kept bytes Work (judged_missed bits bytes m)))

pub known_is_caused : KnownIsCaused
known_is_caused bits kept bytes id = (caused bits kept bytes (Known id), to)
  where
    to : IsKnown bits kept bytes id → answer_of bits kept bytes ≡ Known id
    to k = answers bits kept bytes k.block standing.Known k.valid (ap (standing_of kept) k.same ∙ k.known) ∙ ap Known k.same

pub full_is_caused : FullIsCaused
full_is_caused bits kept bytes = (caused bits kept bytes Full, λ f. answers bits kept bytes f.block standing.Full f.valid f.full)

pub held_is_caused : HeldIsCaused
held_is_caused bits kept bytes id = (caused bits kept bytes (Held id), to)
  where
    to : IsHeld bits kept bytes id → answer_of bits kept bytes ≡ Held id
    to h =
        answers bits kept bytes h.block standing.Fresh h.valid (ap (standing_of kept) h.same ∙ h.fresh)
        ∙ joined_held kept h.block (ap (has (present (kept ++ h.block ∷ []))) h.same ∙ h.absent) ∙ ap Held h.same

pub kept_is_caused : KeptIsCaused
kept_is_caused bits kept bytes id n are = (λ e. from (caused bits kept bytes (Kept id n) e), to)
  where
    from : IsCounted bits kept bytes id n → IsKept bits kept bytes id n
    from c =
        let less : length (present kept) ≤ length (present (kept ++ c.block ∷ [])) = stays bits kept bytes c.block are.apart in
        let count : n ≡ length (present (kept ++ c.block ∷ [])) - length (present kept) = c.grown in
        record { block = c.block; valid = c.valid; same = c.same; fresh = c.fresh; here = c.here; grown = omega arith }

    to : IsKept bits kept bytes id n → answer_of bits kept bytes ≡ Kept id n
    to k =
        let grown : length (present (kept ++ k.block ∷ [])) ≡ length (present kept) + n = k.grown in
        let count : length (present (kept ++ k.block ∷ [])) - length (present kept) ≡ n = omega arith in
        answers bits kept bytes k.block standing.Fresh k.valid (ap (standing_of kept) k.same ∙ k.fresh)
        ∙ joined_kept kept k.block (ap (has (present (kept ++ k.block ∷ []))) k.same ∙ k.here) ∙ ap (λ i. Kept i (length (present (kept ++ k.block ∷ [])) - length (present kept))) k.same ∙ ap (Kept id) count

-- ---- all arrivals

kept_good : (bits : ℕ) (kept : List ReadBlock) (bytes : List ℕ) (b : ReadBlock) → IsValid bits bytes b → kept_after bits kept bytes ≡ keep kept b
unfolding kept_after
kept_good bits kept bytes b v = ap (kept_with kept) (judged_good bits bytes b v)

kept_bad : (bits : ℕ) (kept : List ReadBlock) (bytes : List ℕ) → ((b : ReadBlock) → ¬ (IsValid bits bytes b)) → kept_after bits kept bytes ≡ kept
unfolding kept_after
kept_bad bits kept bytes bad = at (judge bits bytes)
  where
    at : Judgement bits bytes → kept_with kept (valid_in bits bytes) ≡ kept
    at (faulty fault h) = ap (kept_with kept) (valid_fault bits bytes fault h)
    at (missed m) = ap (kept_with kept) (judged_missed bits bytes m)
    at (good b v) = absurd (bad b v)

keeps_valid : (bits : ℕ) (kept : List ReadBlock) (arrivals : List (List ℕ)) (blocks : List ReadBlock) → AreValid bits arrivals blocks → fold (kept_after bits) kept arrivals ≡ fold keep kept blocks
keeps_valid bits kept _ _ none = refl
keeps_valid bits kept _ _ (valid bytes b arrivals blocks v more) =
    ap (λ k. fold (kept_after bits) k arrivals) (kept_good bits kept bytes b v) ∙ keeps_valid bits (keep kept b) arrivals blocks more
keeps_valid bits kept _ _ (invalid bytes arrivals blocks bad more) =
    ap (λ k. fold (kept_after bits) k arrivals) (kept_bad bits kept bytes bad) ∙ keeps_valid bits kept arrivals blocks more

not_valid : (bits : ℕ) (bytes : List ℕ) (r : Refusal) → valid_in bits bytes ≡ Err r → (b : ReadBlock) → ¬ (IsValid bits bytes b)
not_valid bits bytes r e b v = no_both (sym (judged_good bits bytes b v) ∙ e)
  where
    no_both : Ok b ≡ Err r → ⊥
    no_both h = cc

record Validated (bits : ℕ) (arrivals : List (List ℕ)) : Type 0 where
  blocks : List ReadBlock
  are : AreValid bits arrivals blocks

validated : (bits : ℕ) (arrivals : List (List ℕ)) → Validated bits arrivals
validated bits [] = record { blocks = []; are = none }
validated bits (bytes ∷ arrivals) = at (judge bits bytes) (validated bits arrivals)
  where
    at : Judgement bits bytes → Validated bits arrivals → Validated bits (bytes ∷ arrivals)
    at (faulty fault h) rest = record { blocks = rest.blocks; are = invalid bytes arrivals rest.blocks (not_valid bits bytes (Spelling fault) (valid_fault bits bytes fault h)) rest.are }
    at (missed m) rest = record { blocks = rest.blocks; are = invalid bytes arrivals rest.blocks (not_valid bits bytes Work (judged_missed bits bytes m)) rest.are }
    at (good b v) rest = record { blocks = b ∷ rest.blocks; are = valid bytes b arrivals rest.blocks v rest.are }

pub kept_are_of_arrivals : KeptAreOfArrivals
kept_are_of_arrivals bits genesis arrivals =
    let found = validated bits arrivals in
    record { blocks = found.blocks; valid = found.are; are = keeps_valid bits (genesis ∷ []) arrivals found.blocks found.are }

pub no_others_are_kept : NoOthersAreKept
no_others_are_kept bits genesis arrivals kept h = h.are ∙ sym (keeps_valid bits (genesis ∷ []) arrivals h.blocks h.valid)
