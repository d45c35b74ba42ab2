-- What judged parts of a transaction meet.
use Rattle.std.specs.Prelude.{◌≡◌, ◌≤◌, ◌<◌, ◌^◌, false, List, [], ◌∷◌, All, length, map}
use Rattle.std.specs.BTreeSet.{BTreeSet}
use Rattle.std.specs.List.{sum_by}
use Rattle.sp_ids.specs.declared.outpoint.Outpoint.{Outpoint}
use Rattle.sp_block.specs.Seen.{HasOutpoints}
use Rattle.sp_tx.specs.declared.parts.Input.{Input}
use Rattle.sp_play.specs.Judging.{is_spent}
use Rattle.sp_play.specs.declared.paid.Paid.{Paid}

-- no input spends what another one does
abbrev pub AreApart : List Input → Type 0
AreApart [] = Unit {0}
AreApart (x ∷ xs) = (is_spent xs x.from ≡ false) × AreApart xs

-- the set has the outpoints that the inputs spend, and no others
abbrev pub HasSpent : BTreeSet Outpoint → List Input → Type 0
HasSpent set inputs = HasOutpoints set (map (λ input. input.from) inputs)

pub record IsJudged (input : Input) : Type 0 where
  pub id : input.from.tx < 2 ^ 256
  pub some : 1 ≤ length input.preimage
  pub short : length input.preimage ≤ 64

pub record AreInputs (inputs : List Input) : Type 0 where
  pub few : length inputs ≤ 16
  pub apart : AreApart inputs
  pub judged : All IsJudged inputs

pub record AreAmounts (paid : List Paid) : Type 0 where
  pub some : 1 ≤ length paid
  pub few : length paid ≤ 16
  pub amounts : All (λ (one : Paid). 1 ≤ one.amount) paid

pub record ArePaid (paid : List Paid) : Type 0 where
  pub right : AreAmounts paid
  pub sum : sum_by (λ (one : Paid). one.amount) paid < 2 ^ 63
