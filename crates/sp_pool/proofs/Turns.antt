-- The turns of a release.
use Rattle.std.proofs.Common.{◌≡◌, ℕ, ◌+◌, ◌<◌, ◌≤◌, Bool, true, false, cond, not, List, [], ◌∷◌, ◌++◌, length, set, get_or, refl, sym, ap, subst, ◌∙◌, Option, Some, None, arith, inl, inr, append_assoc, append-nil, length-append}
use Rattle.std.specs.Prelude.{find, slice_get, count_by}
use Rattle.std.specs.Option.{option_map}
use Rattle.std.proofs.lemmas.Option.{get_or_from_slice_get, none-some, same_Some, slice_get_cases, slice_get_within}
use Rattle.std.proofs.lemmas.List.Sums.{sum_by-set}
use Rattle.sp_block.specs.Block.{ReadBlock}
use Rattle.sp_pool.specs.Kept.{AreApart, is_ready, Releases}
use Rattle.sp_pool.specs.Marks.{Looked, Marked, Marks}
use Rattle.sp_pool.proofs.Marking.{Marks-more}

-- these ids were released so far
pub record Turned (before now : Marked) (ids : List ℕ) (capacity : ℕ) : Type 0 where
  pub blocks : now.blocks ≡ before.blocks
  pub marks : (s : List ℕ) → Marks before s → Marks now (s ++ ids)
  pub order : (s rest : List ℕ) → Marks before s → Releases before.blocks (s ++ ids) rest → Releases before.blocks s (ids ++ rest)
  pub room : length ids + count_by not now.marks ≤ capacity

-- a mark more is one fewer without
pub fewer_unmarked : (marks : List Bool) (place : ℕ) → slice_get marks place ≡ Some false → count_by not (set marks place true) + 1 ≡ count_by not marks
fewer_unmarked marks place here =
    let within : place < length marks = slice_get_within marks place false here in
    let read : get_or marks place false ≡ false = get_or_from_slice_get marks place false false here in
    let e = sum_by-set (λ (x : Bool). cond (not x) 1 0) marks place true false within in
    let count : Bool → ℕ = λ x. cond (not x) 1 0 in
    let one : count (get_or marks place false) ≡ count false = ap count read in
    omega (arith, e, one)

-- the block whose id stands at a place
block_there : (o : Option ReadBlock) (id : ℕ) → option_map (λ (b : ReadBlock). b.id) o ≡ Some id → (b : ReadBlock) × (o ≡ Some b) × (b.id ≡ id)
block_there None id h = absurd (none-some id h)
block_there (Some b) id h = (b, refl, same_Some b.id id h)

-- one more id, after a look that found the block
pub Turned-more : (before m after : Marked) (ids : List ℕ) (capacity place id : ℕ) → Looked m after → AreApart m.blocks
    → option_map (λ (b : ReadBlock). b.id) (slice_get after.blocks place) ≡ Some id → slice_get m.marks place ≡ Some false
    → ((s : List ℕ) → Marks m s → slice_get m.blocks place ≡ find (is_ready s) m.blocks)
    → Turned before m ids capacity → Turned before (record after { marks = set after.marks place true }) (ids ++ id ∷ []) capacity
unfolding Releases
Turned-more before m after ids capacity place id look apart there mark ready h =
    let new : Marked = record after { marks = set after.marks place true } in
    let block = block_there (slice_get after.blocks place) id there in
    let here : slice_get m.blocks place ≡ Some block.0 = ap (λ (bs : List ReadBlock). slice_get bs place) (sym look.blocks) ∙ block.1 in
    let unmarked : slice_get after.marks place ≡ Some false = ap (λ (ms : List Bool). slice_get ms place) look.marks ∙ mark in
    let apart_after : AreApart after.blocks = subst (λ (bs : List ReadBlock). AreApart bs) (sym look.blocks) apart in
    let same : count_by not after.marks ≡ count_by not m.marks = ap (λ (ms : List Bool). count_by not ms) look.marks in
    record {
      blocks = look.blocks ∙ h.blocks;
      marks = λ s mk.
          (let stands : Marks new ((s ++ ids) ++ block.0.id ∷ []) = Marks-more after (s ++ ids) place block.0 apart_after block.1 (look.stands (s ++ ids) (h.marks s mk)) in
          let own : Marks new ((s ++ ids) ++ id ∷ []) = subst (λ (x : ℕ). Marks new ((s ++ ids) ++ x ∷ [])) block.2 stands in
          subst (λ (l : List ℕ). Marks new l) (append_assoc s ids (id ∷ [])) own);
      order = λ s rest mk r.
          (let P : List ℕ → Type 0 = λ l. Releases before.blocks s l in
          let Q : List ℕ → Type 0 = λ l. Releases before.blocks l rest in
          let found : find (is_ready (s ++ ids)) before.blocks ≡ Some block.0 =
          ap (find (is_ready (s ++ ids))) (sym h.blocks) ∙ sym (ready (s ++ ids) (h.marks s mk)) ∙ here in
          subst P (sym (append_assoc ids (id ∷ []) rest))
          (h.order s (id ∷ rest) mk (record { block = block.0; earliest = found; same = block.2 }, subst Q (sym (append_assoc s ids (id ∷ []))) r)));
      room = omega (arith, h.room, same, fewer_unmarked after.marks place unmarked, length-append ids (id ∷ []));
    }

-- no block is ready any more
pub Turned-all : (before now : Marked) (ids : List ℕ) (capacity : ℕ) → ((s : List ℕ) → Marks now s → None ≡ find (is_ready s) now.blocks)
    → Turned before now ids capacity → (s : List ℕ) → Marks before s → Releases before.blocks s ids
unfolding Releases
Turned-all before now ids capacity none h s m =
    let P : List ℕ → Type 0 = λ l. Releases before.blocks s l in
    subst P (append-nil ids)
    (h.order s [] m (ap (find (is_ready (s ++ ids))) (sym h.blocks) ∙ sym (none (s ++ ids) (h.marks s m))))

pub Turned-same : (before now now' : Marked) (ids ids' : List ℕ) (capacity capacity' : ℕ) → now' ≡ now → ids' ≡ ids → capacity' ≡ capacity
    → Turned before now ids capacity → Turned before now' ids' capacity'
Turned-same before now now' ids ids' capacity capacity' a b c h =
    let P : Marked → Type 0 = λ m. Turned before m ids' capacity' in
    let Q : List ℕ → Type 0 = λ l. Turned before now l capacity' in
    let R : ℕ → Type 0 = λ n. Turned before now ids n in
    subst P (sym a) (subst Q (sym b) (subst R (sym c) h))

-- nothing was released yet
pub Turned-none : (m : Marked) → Turned m m [] (count_by not m.marks)
Turned-none m =
    record {
      blocks = refl;
      marks = λ s h. subst (λ (l : List ℕ). Marks m l) (sym (append-nil s)) h;
      order = λ s rest h r. subst (λ (l : List ℕ). Releases m.blocks l rest) (append-nil s) r;
      room = omega arith;
    }

-- the id of the block at a place, where there is one
pub id_there : (bs : List ReadBlock) (place : ℕ) → place < length bs → (id : ℕ) × (option_map (λ (b : ReadBlock). b.id) (slice_get bs place) ≡ Some id)
id_there bs place within =
    elim (slice_get_cases bs place).1 [
      | inl some ↦ (some.0.id, ap (option_map (λ (b : ReadBlock). b.id)) some.2)
      | inr past ↦ absurd (omega (arith, past.0, within))
    ]
