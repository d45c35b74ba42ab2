-- The kept blocks over all arrivals of bytes, from a genesis block on, are genesis and others, no two of one id.
use Rattle.std.proofs.Common.{◌≡◌, ℕ, suc, Bool, true, false, cond, List, [], ◌∷◌, ◌++◌, Result, Ok, Err, refl, sym, ap, subst, ◌∙◌, arith}
use Rattle.std.specs.Prelude.{Contains, fold}
use Rattle.sp_form.specs.Bytes.{IsBytes}
use Rattle.sp_ids.specs.Digest.{sha256_number}
use Rattle.sp_block.specs.Block.{block_of, IsBlock, IsGenesis, parts_of, ReadBlock}
use Rattle.sp_block.specs.Spelling.{SpellsBlock}
use Rattle.sp_block.specs.declared.fault.BlockFault.{BlockFault}
use Rattle.sp_pool.specs.Kept.{AreKept, kept_by, standing_of}
use Rattle.sp_pool.specs.declared.answers.Standing.{Standing}
use Rattle.sp_pool.specs.declared.answers.Standing.TheVariants.{Known, Full, Fresh}
use Rattle.sp_pool.proofs.KeptBlocks.{AreKept-one, AreKept-push}
use Rattle.sp_pool.proofs.Standings.{from_fresh}
use Rattle.sp_engine.specs.Arrivals.{kept_after, kept_by_all, kept_with, valid_by, valid_in}
use Rattle.sp_block.specs.Judged.{meets}
use Rattle.sp_engine.specs.Blocks.{block_in}
use Rattle.sp_engine.specs.declared.answer.Refusal.{Refusal}
use Rattle.sp_engine.specs.declared.answer.Refusal.TheVariants.{Work}
use Rattle.sp_engine.proofs.SpelledBlocks.{block_is_spelled, block_is_whole}

-- ---- what bytes are read as

-- a block that was read from bytes is one, of the kind that it was read as
record IsRead (genesis : Bool) (block : ReadBlock) : Type 0 where
  pub spells : SpellsBlock block.bytes genesis (parts_of block)
  pub is : IsBlock block

read_block : (genesis : Bool) (bytes : List ℕ) (block : ReadBlock) → IsBytes bytes → block_in genesis bytes ≡ Ok block → IsRead genesis block
read_block genesis bytes block h e =
    let whole : block ≡ block_of bytes (parts_of block) = block_is_whole genesis bytes block e in
    let same : bytes ≡ block.bytes = sym (ap (λ (b : ReadBlock). b.bytes) whole) in
    let text : SpellsBlock bytes genesis (parts_of block) = (block_is_spelled genesis bytes (parts_of block)).0 (e ∙ ap Ok whole) in
    let spells : SpellsBlock block.bytes genesis (parts_of block) = subst (λ (l : List ℕ). SpellsBlock l genesis (parts_of block)) same text in
    record {
      spells = spells;
      is = record {
        bytes = subst IsBytes same h;
        genesis = genesis;
        spells = spells;
        id = ap (λ (b : ReadBlock). b.id) whole ∙ ap sha256_number same;
      };
    }

-- bytes that are read as a genesis block give one
pub genesis_spelled : (bytes : List ℕ) (genesis : ReadBlock) → IsBytes bytes → block_in true bytes ≡ Ok genesis → IsGenesis genesis × IsBlock genesis
genesis_spelled bytes genesis h e = let read = read_block true bytes genesis h e in (read.spells, read.is)

met : (test : Bool) (b block : ReadBlock) → ◌≡◌ {A = Result ReadBlock Refusal} (cond test (Ok b) (Err Work)) (Ok block) → b ≡ block
met true b block e = cc
met false b block e = absurd cc

valid_read : (bits : ℕ) (r : Result ReadBlock BlockFault) (block : ReadBlock) → valid_by bits r ≡ Ok block → r ≡ Ok block
valid_read bits (Ok b) block e = ap Ok (met (meets b.id bits) b block e)
valid_read bits (Err fault) block e = absurd cc

valid_block : (bits : ℕ) (bytes : List ℕ) (block : ReadBlock) → IsBytes bytes → valid_in bits bytes ≡ Ok block → IsRead false block
unfolding valid_in
valid_block bits bytes block h e = read_block false bytes block h (valid_read bits (block_in false bytes) block e)

-- ---- one arrival

stands : (s : Standing) (kept : List ReadBlock) (b : ReadBlock) → standing_of kept b.id ≡ s → AreKept kept → IsRead false b → AreKept (kept_by s kept b)
stands Known kept b e are read = are
stands Full kept b e are read = are
stands Fresh kept b e are read = let free = from_fresh kept b.id e in AreKept-push kept b are read.is read.spells free.0 free.1

judged : (kept : List ReadBlock) (r : Result ReadBlock Refusal) → AreKept kept → ((b : ReadBlock) → r ≡ Ok b → IsRead false b) → AreKept (kept_with kept r)
judged kept (Err refusal) are read = are
judged kept (Ok b) are read = stands (standing_of kept b.id) kept b refl are (read b refl)

one_more : (bits : ℕ) (kept : List ReadBlock) (bytes : List ℕ) → AreKept kept → IsBytes bytes → AreKept (kept_after bits kept bytes)
unfolding kept_after
one_more bits kept bytes are h = judged kept (valid_in bits bytes) are (λ b e. valid_block bits bytes b h e)

-- ---- all arrivals

abbrev AreBytes : List (List ℕ) → Type 0
AreBytes arrivals = (bytes : List ℕ) → Contains arrivals bytes → IsBytes bytes

all_more : (bits : ℕ) (kept : List ReadBlock) (arrivals : List (List ℕ)) → AreKept kept → AreBytes arrivals → AreKept (fold (kept_after bits) kept arrivals)
all_more bits kept [] are h = are
all_more bits kept (bytes ∷ arrivals) are h =
    all_more bits (kept_after bits kept bytes) arrivals (one_more bits kept bytes are (h bytes (0, omega arith, refl))) (λ later there. h later (suc there.0, omega (arith, there.1), there.2))

pub all_are_kept : (bits : ℕ) (genesis : ReadBlock) (arrivals : List (List ℕ)) → IsGenesis genesis → IsBlock genesis → AreBytes arrivals → AreKept (kept_by_all bits genesis arrivals)
all_are_kept bits genesis arrivals kind block h = all_more bits (genesis ∷ []) arrivals (AreKept-one genesis block kind) h

-- ---- the first of them

abbrev BeginWith : ReadBlock → List ReadBlock → Type 0
BeginWith genesis kept = (others : List ReadBlock) × (kept ≡ genesis ∷ others)

begin_by : (genesis : ReadBlock) (s : Standing) (kept : List ReadBlock) (b : ReadBlock) → BeginWith genesis kept → BeginWith genesis (kept_by s kept b)
begin_by genesis Known kept b first = first
begin_by genesis Full kept b first = first
begin_by genesis Fresh kept b first = (first.0 ++ b ∷ [], ap (λ (bs : List ReadBlock). bs ++ b ∷ []) first.1)

begin_with : (genesis : ReadBlock) (kept : List ReadBlock) (r : Result ReadBlock Refusal) → BeginWith genesis kept → BeginWith genesis (kept_with kept r)
begin_with genesis kept (Err refusal) first = first
begin_with genesis kept (Ok b) first = begin_by genesis (standing_of kept b.id) kept b first

begin_after : (bits : ℕ) (genesis : ReadBlock) (kept : List ReadBlock) (bytes : List ℕ) → BeginWith genesis kept → BeginWith genesis (kept_after bits kept bytes)
unfolding kept_after
begin_after bits genesis kept bytes first = begin_with genesis kept (valid_in bits bytes) first

begin_all : (bits : ℕ) (genesis : ReadBlock) (kept : List ReadBlock) (arrivals : List (List ℕ)) → BeginWith genesis kept → BeginWith genesis (fold (kept_after bits) kept arrivals)
begin_all bits genesis kept [] first = first
begin_all bits genesis kept (bytes ∷ arrivals) first = begin_all bits genesis (kept_after bits kept bytes) arrivals (begin_after bits genesis kept bytes first)

pub genesis_is_first : (bits : ℕ) (genesis : ReadBlock) (arrivals : List (List ℕ)) → (others : List ReadBlock) × (kept_by_all bits genesis arrivals ≡ genesis ∷ others)
genesis_is_first bits genesis arrivals = begin_all bits genesis (genesis ∷ []) arrivals ([], refl)
