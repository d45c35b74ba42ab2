-- What becomes of bytes that arrive.
use Rattle.std.specs.Prelude.{ℕ, ◌≡◌, ◌-◌, if◌then◌else◌, false, List, [], ◌∷◌, ◌++◌, length, fold, Result, Ok, Err}
use Rattle.sp_block.specs.Block.{ReadBlock}
use Rattle.sp_block.specs.declared.fault.BlockFault.{BlockFault}
use Rattle.sp_model.specs.Graph.{has}
use Rattle.sp_pool.specs.Arrivals.{AreKeptOf}
use Rattle.sp_pool.specs.Kept.{keep, present, standing_of}
use Rattle.sp_pool.specs.declared.answers.Standing.{Standing}
use Rattle.sp_pool.specs.declared.answers.Standing.TheVariants as standing
use Rattle.sp_block.specs.Judged.{meets}
use Rattle.sp_engine.specs.Blocks.{block_in}
use Rattle.sp_engine.specs.declared.answer.Answer.{Answer}
use Rattle.sp_engine.specs.declared.answer.Answer.TheVariants.{Kept, Held, Known, Refused, Full}
use Rattle.sp_engine.specs.declared.answer.Refusal.{Refusal}
use Rattle.sp_engine.specs.declared.answer.Refusal.TheVariants.{Spelling, Work}

abbrev pub valid_by : ℕ → Result ReadBlock BlockFault → Result ReadBlock Refusal
valid_by bits (Err fault) = Err (Spelling fault)
valid_by bits (Ok block) = if meets block.id bits then Ok block else Err Work

-- the block that the bytes spell, where its id meets the work; else the first fault, or the work
unfoldable pub valid_in : ℕ → List ℕ → Result ReadBlock Refusal
valid_in bits bytes = valid_by bits (block_in false bytes)

-- a block joins the kept ones: with the number by which the present ones grew, or it isn't present
unfoldable pub joined : List ReadBlock → ReadBlock → Answer
joined kept block =
    let now = kept ++ block ∷ [] in
    if has (present now) block.id then Kept block.id (length (present now) - length (present kept)) else Held block.id

-- known, else full, else kept
abbrev pub answer_by : Standing → List ReadBlock → ReadBlock → Answer
answer_by standing.Known kept block = Known block.id
answer_by standing.Full kept block = Full
answer_by standing.Fresh kept block = joined kept block

abbrev pub answer_to : List ReadBlock → Result ReadBlock Refusal → Answer
answer_to kept (Err refusal) = Refused refusal
answer_to kept (Ok block) = answer_by (standing_of kept block.id) kept block

-- the answer to bytes that arrive where these blocks are kept
unfoldable pub answer_of : ℕ → List ReadBlock → List ℕ → Answer
answer_of bits kept bytes = answer_to kept (valid_in bits bytes)

abbrev pub kept_with : List ReadBlock → Result ReadBlock Refusal → List ReadBlock
kept_with kept (Err refusal) = kept
kept_with kept (Ok block) = keep kept block

-- the kept blocks after these bytes arrive
unfoldable pub kept_after : ℕ → List ReadBlock → List ℕ → List ReadBlock
kept_after bits kept bytes = kept_with kept (valid_in bits bytes)

-- genesis, and each valid arrival whose id is none of those before it, until 512 blocks stand
abbrev pub kept_by_all : ℕ → ReadBlock → List (List ℕ) → List ReadBlock
kept_by_all bits genesis arrivals = fold (kept_after bits) (genesis ∷ []) arrivals

-- over the bytes of all arrivals these are the kept blocks by the pool's relation, and no others are
abbrev pub KeptAreOfArrivals : Type 0
KeptAreOfArrivals = (bits : ℕ) (genesis : ReadBlock) (arrivals : List (List ℕ)) → AreKeptOf genesis bits arrivals (kept_by_all bits genesis arrivals)

abbrev pub NoOthersAreKept : Type 0
NoOthersAreKept = (bits : ℕ) (genesis : ReadBlock) (arrivals : List (List ℕ)) (kept : List ReadBlock) → AreKeptOf genesis bits arrivals kept → kept ≡ kept_by_all bits genesis arrivals
