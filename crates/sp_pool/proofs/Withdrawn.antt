-- A pool whose last block is taken back.
use Rattle.std.proofs.Common.{◌≡◌, ℕ, suc, ◌-◌, ◌<◌, Bool, false, List, [], ◌∷◌, ◌++◌, length, map, replicate, take, refl, sym, ap, subst, ◌∙◌, arith}
use Rattle.std.proofs.lemmas.Bool.{false≢true}
use Rattle.std.proofs.lemmas.List.{length-append, length-take, take-map}
use Rattle.std.proofs.lemmas.List.Elements.{All-take}
use Rattle.std.proofs.Math.Seq.{take-append_seam}
use Rattle.sp_block.specs.Block.{IsBlock, IsOther, ReadBlock}
use Rattle.sp_model.specs.Graph.{AreDistinct, has}
use Rattle.sp_model.proofs.Sets.{AreDistinct-take}
use Rattle.sp_pool.specs.Kept.{AreKept, ids_of, present, Releases}
use Rattle.sp_pool.specs.Marks.{AreSeen, Marked, Marks, unmarked}
use Rattle.sp_pool.specs.Pool.{IsPool}
use Rattle.sp_pool.proofs.Adding.{Marks-same}
use Rattle.sp_pool.proofs.Growth.{released}

-- ---- the first kept blocks, genesis among them

pub AreKept-take : (kept : List ReadBlock) (n : ℕ) → AreKept kept → AreKept (take (suc n) kept)
AreKept-take kept n h =
    record {
      genesis = h.genesis;
      others = take n h.others;
      first = ap (take (suc n)) h.first;
      is_genesis = h.is_genesis;
      are_other = All-take IsOther n h.others h.are_other;
      are_blocks = All-take IsBlock (suc n) kept h.are_blocks;
      apart = subst (λ (ids : List ℕ). AreDistinct ids) (take-map (λ (b : ReadBlock). b.id) (suc n) kept) (AreDistinct-take (suc n) (ids_of kept) h.apart);
      few = omega (arith, h.few, length-take (suc n) kept);
    }

pub AreKept-front : (kept : List ReadBlock) → AreKept kept → 1 < length kept → AreKept (take (length kept - 1) kept)
AreKept-front kept h some =
    let n : length kept - 1 ≡ suc (length kept - 2) = omega (arith, some) in
    subst (λ (k : ℕ). AreKept (take k kept)) (sym n) (AreKept-take kept (length kept - 2) h)

-- ---- no marks

no_marks : (bs : List ReadBlock) → replicate (length bs) false ≡ map (has []) (ids_of bs)
no_marks [] = refl
no_marks (b ∷ bs) = ap (λ (l : List Bool). false ∷ l) (no_marks bs)

none_seen : (bs : List ReadBlock) → AreSeen [] bs (replicate (length bs) 0)
none_seen [] = tt
none_seen (b ∷ bs) = (refl, none_seen bs)

-- no marks stand for the empty set
pub Marks-none : (bs : List ReadBlock) → Marks (unmarked bs) []
Marks-none bs = record { same = no_marks bs; within = λ id there. absurd (false≢true there); seen = none_seen bs }

-- what is marked from nothing on is what is present
pub IsPool-anew : (bs : List ReadBlock) (before after : Marked) → AreKept bs → before ≡ unmarked bs → after.blocks ≡ before.blocks
    → ((s : List ℕ) → Marks before s → (ids : List ℕ) × Releases before.blocks s ids × Marks after (s ++ ids)) → IsPool after
IsPool-anew bs before after kept same blocks marks =
    let none : Marks before [] = subst (λ (m : Marked). Marks m []) (sym same) (Marks-none bs) in
    let found = marks [] none in
    let long : after.blocks ≡ bs = blocks ∙ ap (λ (m : Marked). m.blocks) same in
    let order : Releases bs [] found.0 = subst (λ (l : List ReadBlock). Releases l [] found.0) (ap (λ (m : Marked). m.blocks) same) found.1 in
    let whole : (z : ℕ) → has found.0 z ≡ has (present after.blocks) z = λ z.
    sym (ap (λ (l : List ReadBlock). has (present l) z) long ∙ released bs [] found.0 kept.apart (λ z there. absurd (false≢true there)) order z) in
    record {
      kept = subst (λ (l : List ReadBlock). AreKept l) (sym long) kept;
      marks = Marks-same after found.0 (present after.blocks) whole found.2;
    }

-- the blocks before the last one
pub front_of : (old new before : List ReadBlock) (b : ReadBlock) → new ≡ take (length old - 1) old → old ≡ before ++ b ∷ [] → new ≡ before
front_of old new before b is split =
    let long : length old - 1 ≡ length before = omega (arith, ap length split, length-append before (b ∷ [])) in
    is ∙ ap (λ (n : ℕ). take n old) long ∙ ap (take (length before)) split ∙ take-append_seam before (b ∷ [])
