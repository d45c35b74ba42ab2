-- What is kept of bytes that arrive: genesis and blocks that some of the bytes spell, no two of one id; what is kept stays; and
-- where there is room, a block of each valid id is kept.
use Rattle.std.proofs.Common.{◌≡◌, ℕ, ◌<◌, ◌≤◌, Bool, true, false, cond, List, [], ◌∷◌, ◌++◌, length, Result, Ok, Err, refl, sym, ap, subst, ◌∙◌, inl, inr, ◌⊎◌, eqb, arith}
use Rattle.std.specs.Prelude.{fold}
use Rattle.std.proofs.lemmas.Bool.{cases_Bool, false≢true, or_cases, or_left, or_right}
use Rattle.std.proofs.lemmas.List.{length-map}
use Rattle.std.proofs.lemmas.List.Sums.{fold-append}
use Rattle.sp_block.specs.Block.{ReadBlock}
use Rattle.sp_block.specs.declared.fault.BlockFault.{BlockFault}
use Rattle.sp_model.specs.Graph.{has}
use Rattle.sp_pool.specs.Kept.{AreApart, ids_of, keep, kept_by, standing_of}
use Rattle.sp_pool.specs.declared.answers.Standing.{Standing}
use Rattle.sp_pool.specs.declared.answers.Standing.TheVariants.{Known, Full, Fresh}
use Rattle.sp_pool.proofs.KeptBlocks.{AreApart-push}
use Rattle.sp_pool.proofs.Standings.{from_fresh, Fresh-standing, Known-standing}
use Rattle.sp_carry.proofs.Members.{in_append, in_append_left, in_append_right, IsIn}
use Rattle.sp_engine.specs.Arrivals.{kept_after, kept_by_all, kept_with, valid_by, valid_in}
use Rattle.sp_block.specs.Judged.{meets}
use Rattle.sp_engine.specs.Blocks.{block_in}
use Rattle.sp_engine.specs.declared.answer.Refusal.{Refusal}
use Rattle.sp_engine.specs.declared.answer.Refusal.TheVariants.{Work}
use Rattle.sp_engine.proofs.Counts.{distinct_within}
use Rattle.sp_engine.proofs.OwnBlocks.{block_of_id, id_in}
use Rattle.sp_engine.proofs.SpelledBlocks.{block_is_whole}

-- ---- what bytes spell

met : (test : Bool) (b block : ReadBlock) → ◌≡◌ {A = Result ReadBlock Refusal} (cond test (Ok b) (Err Work)) (Ok block) → b ≡ block
met true b block e = cc
met false b block e = absurd cc

valid_read : (bits : ℕ) (r : Result ReadBlock BlockFault) (block : ReadBlock) → valid_by bits r ≡ Ok block → r ≡ Ok block
valid_read bits (Ok b) block e = ap Ok (met (meets b.id bits) b block e)
valid_read bits (Err fault) block e = absurd cc

-- a block has the bytes that spell it
pub spelled_by : (bits : ℕ) (bytes : List ℕ) (block : ReadBlock) → valid_in bits bytes ≡ Ok block → bytes ≡ block.bytes
unfolding valid_in
spelled_by bits bytes block e =
    sym (ap (λ (b : ReadBlock). b.bytes) (block_is_whole false bytes block (valid_read bits (block_in false bytes) block e)))

-- ---- what stays

stays_by : (s : Standing) (kept : List ReadBlock) (b x : ReadBlock) → IsIn kept x → IsIn (kept_by s kept b) x
stays_by Known kept b x there = there
stays_by Full kept b x there = there
stays_by Fresh kept b x there = in_append_left kept (b ∷ []) x there

stays_with : (kept : List ReadBlock) (r : Result ReadBlock Refusal) (x : ReadBlock) → IsIn kept x → IsIn (kept_with kept r) x
stays_with kept (Err refusal) x there = there
stays_with kept (Ok b) x there = stays_by (standing_of kept b.id) kept b x there

stays_after : (bits : ℕ) (kept : List ReadBlock) (bytes : List ℕ) (x : ReadBlock) → IsIn kept x → IsIn (kept_after bits kept bytes) x
unfolding kept_after
stays_after bits kept bytes x there = stays_with kept (valid_in bits bytes) x there

stays_all : (bits : ℕ) (kept : List ReadBlock) (arrivals : List (List ℕ)) (x : ReadBlock) → IsIn kept x → IsIn (fold (kept_after bits) kept arrivals) x
stays_all bits kept [] x there = there
stays_all bits kept (bytes ∷ arrivals) x there = stays_all bits (kept_after bits kept bytes) arrivals x (stays_after bits kept bytes x there)

-- what is kept of some arrivals is kept of these and more
pub kept_stays : (bits : ℕ) (genesis : ReadBlock) (arrivals more : List (List ℕ)) (x : ReadBlock) → IsIn (kept_by_all bits genesis arrivals) x → IsIn (kept_by_all bits genesis (arrivals ++ more)) x
kept_stays bits genesis arrivals more x there =
    subst (λ (kept : List ReadBlock). IsIn kept x) (sym (fold-append (kept_after bits) (genesis ∷ []) arrivals more))
    (stays_all bits (kept_by_all bits genesis arrivals) more x there)

-- ---- where it comes from

-- some of the bytes spell the block
abbrev pub IsSpelled : ℕ → List (List ℕ) → ReadBlock → Type 0
IsSpelled bits arrivals x = (bytes : List ℕ) × IsIn arrivals bytes × (valid_in bits bytes ≡ Ok x)

comes_by : (s : Standing) (kept : List ReadBlock) (b x : ReadBlock) → IsIn (kept_by s kept b) x → IsIn kept x ⊎ (b ≡ x)
comes_by Known kept b x there = inl there
comes_by Full kept b x there = inl there
comes_by Fresh kept b x there = elim (in_append kept (b ∷ []) x there) [
  | inl old ↦ inl old
  | inr new ↦ elim new [ inl same ↦ inr same | inr nowhere ↦ absurd nowhere ]
]

comes_with : (kept : List ReadBlock) (r : Result ReadBlock Refusal) (x : ReadBlock) → IsIn (kept_with kept r) x → IsIn kept x ⊎ (r ≡ Ok x)
comes_with kept (Err refusal) x there = inl there
comes_with kept (Ok b) x there = elim (comes_by (standing_of kept b.id) kept b x there) [ inl old ↦ inl old | inr same ↦ inr (ap Ok same) ]

comes_after : (bits : ℕ) (kept : List ReadBlock) (bytes : List ℕ) (x : ReadBlock) → IsIn (kept_after bits kept bytes) x → IsIn kept x ⊎ (valid_in bits bytes ≡ Ok x)
unfolding kept_after
comes_after bits kept bytes x there = comes_with kept (valid_in bits bytes) x there

comes_all : (bits : ℕ) (kept : List ReadBlock) (arrivals : List (List ℕ)) (x : ReadBlock) → IsIn (fold (kept_after bits) kept arrivals) x → IsIn kept x ⊎ IsSpelled bits arrivals x
comes_all bits kept [] x there = inl there
comes_all bits kept (bytes ∷ arrivals) x there = elim (comes_all bits (kept_after bits kept bytes) arrivals x there) [
  | inl before ↦ elim (comes_after bits kept bytes x before) [ inl old ↦ inl old | inr new ↦ inr (bytes, inl refl, new) ]
  | inr later ↦ inr (later.0, inr later.1, later.2)
]

-- each kept block is genesis, or some of the bytes spell it
pub kept_come : (bits : ℕ) (genesis : ReadBlock) (arrivals : List (List ℕ)) (x : ReadBlock) → IsIn (kept_by_all bits genesis arrivals) x → (x ≡ genesis) ⊎ IsSpelled bits arrivals x
kept_come bits genesis arrivals x there = elim (comes_all bits (genesis ∷ []) arrivals x there) [
  | inl first ↦ elim first [ inl same ↦ inl (sym same) | inr nowhere ↦ absurd nowhere ]
  | inr spelled ↦ inr spelled
]

-- ---- no two of one id

apart_by : (s : Standing) (kept : List ReadBlock) (b : ReadBlock) → standing_of kept b.id ≡ s → AreApart kept → AreApart (kept_by s kept b)
apart_by Known kept b e apart = apart
apart_by Full kept b e apart = apart
apart_by Fresh kept b e apart = AreApart-push kept b apart (from_fresh kept b.id e).0

apart_with : (kept : List ReadBlock) (r : Result ReadBlock Refusal) → AreApart kept → AreApart (kept_with kept r)
apart_with kept (Err refusal) apart = apart
apart_with kept (Ok b) apart = apart_by (standing_of kept b.id) kept b refl apart

apart_all : (bits : ℕ) (kept : List ReadBlock) (arrivals : List (List ℕ)) → AreApart kept → AreApart (fold (kept_after bits) kept arrivals)
unfolding kept_after
apart_all bits kept [] apart = apart
apart_all bits kept (bytes ∷ arrivals) apart = apart_all bits (kept_after bits kept bytes) arrivals (apart_with kept (valid_in bits bytes) apart)

pub kept_apart : (bits : ℕ) (genesis : ReadBlock) (arrivals : List (List ℕ)) → AreApart (kept_by_all bits genesis arrivals)
kept_apart bits genesis arrivals = apart_all bits (genesis ∷ []) arrivals (refl, tt)

-- ---- what is kept where there is room

-- blocks with ids among these, no two of one
record AreAmong (ids : List ℕ) (kept : List ReadBlock) : Type 0 where
  apart : AreApart kept
  within : (id : ℕ) → has (ids_of kept) id ≡ true → has ids id ≡ true

room : (ids : List ℕ) (kept : List ReadBlock) → length ids < 512 → AreAmong ids kept → length kept < 512
room ids kept few among =
    let le : length (ids_of kept) ≤ length ids = distinct_within (ids_of kept) ids among.apart among.within in
    let long : length (ids_of kept) ≡ length kept = length-map kept (λ (x : ReadBlock). x.id) in
    omega arith

among_more : (ids : List ℕ) (kept : List ReadBlock) (b : ReadBlock) → AreAmong ids kept → has ids b.id ≡ true → has (ids_of kept) b.id ≡ false → AreAmong ids (kept ++ b ∷ [])
among_more ids kept b among there new = record {
  apart = AreApart-push kept b among.apart new;
  within = λ id h. (
      let x : (x : ReadBlock) × IsIn (kept ++ b ∷ []) x × (x.id ≡ id) = block_of_id (kept ++ b ∷ []) id h in
      elim (in_append kept (b ∷ []) x.0 x.1) [
        | inl old ↦ among.within id (ap (has (ids_of kept)) (sym x.2) ∙ id_in kept x.0 old)
        | inr more ↦ elim more [ inl same ↦ ap (has ids) (sym x.2 ∙ sym (ap (λ (y : ReadBlock). y.id) same)) ∙ there | inr nowhere ↦ absurd nowhere ]
      ]
      );
}

one_arrives : (ids : List ℕ) (kept : List ReadBlock) (b : ReadBlock) → length ids < 512 → AreAmong ids kept → has ids b.id ≡ true → AreAmong ids (keep kept b) × (has (ids_of (keep kept b)) b.id ≡ true)
one_arrives ids kept b few among there = elim (cases_Bool (has (ids_of kept) b.id)) [
  | inl known ↦
      let same : kept ≡ keep kept b = ap (λ s. kept_by s kept b) (Known-standing kept b.id known) in
      subst (λ (k : List ReadBlock). AreAmong ids k × (has (ids_of k) b.id ≡ true)) same (among, known)
  | inr new ↦
      let same : kept ++ b ∷ [] ≡ keep kept b = ap (λ s. kept_by s kept b) (Fresh-standing kept b.id new (room ids kept few among)) in
      subst (λ (k : List ReadBlock). AreAmong ids k × (has (ids_of k) b.id ≡ true)) same
      (among_more ids kept b among there new, id_in (kept ++ b ∷ []) b (in_append_right kept (b ∷ []) b (inl refl)))
]

-- the ids of the blocks that the bytes spell are among these
abbrev pub AreSpelledAmong : ℕ → List ℕ → List (List ℕ) → Type 0
AreSpelledAmong bits ids arrivals = (bytes : List ℕ) (b : ReadBlock) → IsIn arrivals bytes → valid_in bits bytes ≡ Ok b → has ids b.id ≡ true

bytes_arrive : (ids : List ℕ) (kept : List ReadBlock) (r : Result ReadBlock Refusal) → length ids < 512 → AreAmong ids kept → ((b : ReadBlock) → r ≡ Ok b → has ids b.id ≡ true)
    → AreAmong ids (kept_with kept r) × ((b : ReadBlock) → r ≡ Ok b → has (ids_of (kept_with kept r)) b.id ≡ true)
bytes_arrive ids kept (Err refusal) few among there = (among, λ b e. absurd (err_ok e))
  where
    err_ok : {refusal : Refusal} {b : ReadBlock} → ◌≡◌ {A = Result ReadBlock Refusal} (Err refusal) (Ok b) → ⊥
    err_ok e = cc
bytes_arrive ids kept (Ok block) few among there =
    let one : AreAmong ids (keep kept block) × (has (ids_of (keep kept block)) block.id ≡ true) = one_arrives ids kept block few among (there block refl) in
    (one.0, λ b e. ap (λ (x : ReadBlock). has (ids_of (keep kept block)) x.id) (sym (ok_ok e)) ∙ one.1)
  where
    ok_ok : {a b : ReadBlock} → ◌≡◌ {A = Result ReadBlock Refusal} (Ok a) (Ok b) → a ≡ b
    ok_ok e = cc

-- the id of a kept block stays
pub id_stays : (bits : ℕ) (kept : List ReadBlock) (arrivals : List (List ℕ)) (id : ℕ) → has (ids_of kept) id ≡ true → has (ids_of (fold (kept_after bits) kept arrivals)) id ≡ true
id_stays bits kept arrivals id there =
    let x : (x : ReadBlock) × IsIn kept x × (x.id ≡ id) = block_of_id kept id there in
    let now : List ReadBlock = fold (kept_after bits) kept arrivals in
    ap (has (ids_of now)) (sym x.2) ∙ id_in now x.0 (stays_all bits kept arrivals x.0 x.1)

all_arrive : (bits : ℕ) (ids : List ℕ) (kept : List ReadBlock) (arrivals : List (List ℕ)) → length ids < 512 → AreAmong ids kept → AreSpelledAmong bits ids arrivals
    → AreSpelledAmong bits (ids_of (fold (kept_after bits) kept arrivals)) arrivals
unfolding kept_after
all_arrive bits ids kept [] few among there = λ bytes b h e. absurd h
all_arrive bits ids kept (bytes ∷ arrivals) few among there =
    let first = bytes_arrive ids kept (valid_in bits bytes) few among (λ b e. there bytes b (inl refl) e) in
    λ other b h e. elim h [
      | inl same ↦ id_stays bits (kept_after bits kept bytes) arrivals b.id (first.1 b (ap (valid_in bits) same ∙ e))
      | inr later ↦ all_arrive bits ids (kept_after bits kept bytes) arrivals few first.0 (λ more c i f. there more c (inr i) f) other b later e
    ]

-- where the ids of all blocks that arrive are fewer than 512 with genesis, one of each id is kept
pub room_for_all : (bits : ℕ) (genesis : ReadBlock) (ids : List ℕ) (arrivals : List (List ℕ)) → length ids < 511 → AreSpelledAmong bits ids arrivals
    → AreSpelledAmong bits (ids_of (kept_by_all bits genesis arrivals)) arrivals
room_for_all bits genesis ids arrivals few there =
    let more : length (genesis.id ∷ ids) < 512 = omega arith in
    all_arrive bits (genesis.id ∷ ids) (genesis ∷ []) arrivals more (record {
      apart = (refl, tt);
      within = λ id h. elim (or_cases (eqb genesis.id id) false h) [ inl same ↦ or_left (eqb genesis.id id) (has ids id) same | inr nowhere ↦ absurd (false≢true nowhere) ];
    }) (λ bytes b h e. or_right (eqb genesis.id b.id) (has ids b.id) (there bytes b h e))
