-- What is true of the certificate that a run wrote, and of one that it showed.
use Rattle.std.specs.Prelude.{◌≡◌, ℕ, List, Option, None}
use Rattle.std.specs.Io.KnownBytes.{Appends}
use Rattle.sp_cert.specs.Certificate.{Certificate}
use Rattle.sp_cert.specs.Format.{cert_text, said, Whole}
use Rattle.sp_cert.specs.Refusals.{IsShown, refusal}
use Rattle.spectre.specs.Checks.{shown_text}

-- The sink took the bytes of a certificate of these two blocks, which nothing refuses, and which its bytes say again: `check`
-- of them shows it
pub record Stands (first second : ℕ) (old new : Option (List ℕ)) : Type 0 where
  pub cert : Certificate
  pub took : Appends old new (cert_text cert)
  pub x : cert.x ≡ first
  pub y : cert.y ≡ second
  pub stands : refusal cert ≡ None
  pub read : said (cert_text cert) ≡ Whole cert

-- The sink took the line that shows the certificate which these bytes say, and it is so: its blocks are all present, and their
-- virtual vote on its two is its sign
pub record ShowsSign (input : List ℕ) (old new : Option (List ℕ)) : Type 0 where
  pub cert : Certificate
  pub says : said input ≡ Whole cert
  pub took : Appends old new (shown_text cert)
  pub shown : IsShown cert
