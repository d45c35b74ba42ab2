-- When two transactions can't both stand.
use Rattle.std.specs.Prelude.{◌≡◌, ◌≢◌, ℕ, List, Any}
use Rattle.sp_ids.specs.Digest.{sha256_number}
use Rattle.sp_ids.specs.declared.outpoint.Outpoint.{Outpoint}
use Rattle.sp_tx.specs.declared.parts.Input.{Input}
use Rattle.sp_tx.specs.Parts.{Transaction}
use Rattle.sp_tx.specs.Spelling.{spelling}

-- the id of a transaction, the SHA-256 of its bytes
unfoldable pub id_of : Transaction → ℕ
id_of t = sha256_number (spelling t)

-- one of the inputs spends the outpoint
abbrev pub Spends : List Input → Outpoint → Type 0
Spends inputs outpoint = Any (λ input. input.from ≡ outpoint) inputs

-- the ids differ, and some outpoint is spent by both
pub record Conflict (a b : Transaction) : Type 0 where
  pub differ : id_of a ≢ id_of b
  pub common : Any (λ input. Spends b.inputs input.from) a.inputs
