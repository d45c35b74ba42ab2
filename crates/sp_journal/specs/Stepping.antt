-- What one step of reading a journal's records does.
use Rattle.std.specs.Prelude.{◌≡◌, ◌⊎◌, false, ℕ, List, [], ◌∷◌, ◌++◌, ◌+◌, length, drop, Option, None, IfSome}
use Rattle.sp_ids.specs.Digest.{sha256_number}
use Rattle.sp_block.specs.Block.{ReadBlock}
use Rattle.sp_journal.specs.Records.{is_shut}
use Rattle.sp_journal.specs.Recovery.{FindsRecord, IsGood, IsRowOf}
use Rattle.sp_journal.specs.declared.row.Row.TheVariants.{End as Ended, Next}
use Rattle.sp_journal.specs.declared.step.Step.{Step}
use Rattle.sp_journal.specs.declared.step.Step.TheVariants.{On, End, Faulty}

-- A block joins those before it and its id their ids, where there is room for another. Its record stands at a
-- place, and the next one behind it.
pub record Joins (blocks : List ReadBlock) (ids : List ℕ) (at : ℕ) (block : ReadBlock) (blocks' : List ReadBlock) (ids' : List ℕ) (next : ℕ) : Type 0 where
  pub room : length blocks ≡ 511 → ⊥
  pub id : block.id ≡ sha256_number block.bytes
  pub pushed : blocks' ≡ blocks ++ block ∷ []
  pub noted : ids' ≡ ids ++ block.id ∷ []
  pub moved : next ≡ at + (5 + length block.bytes)

-- the record behind a place, where the disk tells its bytes, is that of a block that joins
pub record IsRead (reads : Option (List ℕ)) (bits : ℕ) (blocks : List ReadBlock) (ids : List ℕ) (at : ℕ) (blocks' : List ReadBlock) (ids' : List ℕ) (next : ℕ) : Type 0 where
  pub block : ReadBlock
  pub found : IfSome reads (λ bytes. IsRowOf bits ids (drop at bytes) (Next block))
  pub good : IsGood bits ids block
  pub joins : Joins blocks ids at block blocks' ids' next

-- no gate is closed there, and there is no room for another record, or none that the journal may hold
abbrev pub IsFaultyAt : ℕ → List ReadBlock → List ℕ → List ℕ → Type 0
IsFaultyAt bits blocks ids list = (is_shut list ≡ false) × ((length blocks ≡ 511) ⊎ FindsRecord bits ids list [] None)

-- from the blocks and ids before a step at a place to those after it
abbrev pub IsStep : Option (List ℕ) → ℕ → List ReadBlock → List ℕ → ℕ → List ReadBlock → List ℕ → Step → Type 0
IsStep reads bits blocks ids at blocks' ids' (On next) = IsRead reads bits blocks ids at blocks' ids' next
IsStep reads bits blocks ids at blocks' ids' End = IfSome reads (λ bytes. IsRowOf bits ids (drop at bytes) Ended) × (blocks' ≡ blocks)
IsStep reads bits blocks ids at blocks' ids' Faulty = IfSome reads (λ bytes. IsFaultyAt bits blocks ids (drop at bytes))
