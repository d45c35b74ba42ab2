-- The SHA-256 of a text as the number of an id.
use Rattle.std.specs.Prelude.{ℕ, List}
use Rattle.sha2.specs.Sha256.{sha256}
use Rattle.sp_ids.specs.Key.{number_of}

-- the number of the digest of a text
unfoldable pub sha256_number : List ℕ → ℕ
sha256_number bytes = number_of (sha256 bytes)
