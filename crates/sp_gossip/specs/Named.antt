-- Made blocks by the numbers of their names: an invariant, which no public contract cites.
use Rattle.std.specs.Prelude.{ℕ, ◌≡◌, All, List, length, position}
use Rattle.std.specs.BTreeMap.{BTreeMap, get}
use Rattle.std.specs.Cmp.Lexicographic.{slice_cmp}
use Rattle.std.specs.Ordering.{nat_cmp}
use Rattle.sp_names.specs.Labels.{IsNameLength}
use Rattle.sp_play.specs.Commands.{is_word}
use Rattle.sp_gossip.specs.declared.script_line.Made.{Made}

-- the map has the number of the first made block of each name, and no others; each name has 1 to 64 bytes
pub record AreNumbered (numbers : BTreeMap (List ℕ) ℕ) (blocks : List Made) : Type 0 where
  pub first : (name : List ℕ) → get (slice_cmp nat_cmp) numbers name ≡ position (λ made. is_word made.name name) blocks
  pub short : All (λ (made : Made). IsNameLength (length made.name)) blocks
