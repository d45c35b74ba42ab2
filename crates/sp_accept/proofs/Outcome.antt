-- What an update leaves: right flags, and the transactions that turned.
use Rattle.std.proofs.Common.{◌≡◌, ◌<◌, ◌-◌, ◌∙◌, ℕ, Bool, false, List, [], replicate, refl, sym, ap, take, length, eqb}
use Rattle.std.specs.Prelude.{filter}
use Rattle.std.specs.List.{list_any, range_with_len}
use Rattle.std.proofs.Math.Seq.{take-append_seam}
use Rattle.sp_dag.specs.Numbered.{Numbered}
use Rattle.sp_carry.specs.declared.carrier.Flip.{Flip}
use Rattle.sp_carry.specs.Carried.{Carried, IsCarried, carriers_in}
use Rattle.sp_carry.proofs.Members.{any_agrees}
use Rattle.sp_carry.specs.Flags.{is_set, with_flips}
use Rattle.sp_accept.specs.Acceptance.{Acceptance, IsRight}
use Rattle.sp_accept.specs.Flips.{flips_among, flips_of}
use Rattle.sp_accept.specs.Pass.{is_carried_flag}
use Rattle.sp_accept.specs.Todo.{grown, AreSettledBut, AreTurned}
use Rattle.sp_accept.specs.Rows.{row_at, AreOf}
use Rattle.sp_accept.proofs.Updated.{flips_are, flips_between, flips_long, flips_set, grown_long, grown_same, untouched, updated}

-- whether a transaction has one of the carriers
abbrev is_touched : Carried → List ℕ → ℕ → Bool
is_touched k turned tx = list_any (λ c. eqb (row_at k.rows c).tx tx) turned

-- turned back and cut back to where they began, grown flags are as they were
pub cut_back : (first start back : List Bool) (m long : ℕ) → start ≡ grown first m → back ≡ start → long ≡ length first → take long back ≡ first
cut_back first start back m long e f n =
    ap (λ (j : ℕ). take j back) n ∙ ap (take (length first)) (f ∙ e) ∙ take-append_seam first (replicate (m - length first) false)

-- where the flag of each transaction was that of its carriers, those whose own flag differs have a carrier that turned
pub all_flips : (k : Carried) (txs first start flags : List Bool) (m : ℕ) (turned : List ℕ) (flips : List Flip)
    → ((tx : ℕ) → tx < length k.txs → is_set txs tx ≡ is_carried_flag k first tx) → start ≡ grown first m → AreTurned start flags [] turned
    → flips ≡ flips_among txs (is_carried_flag k flags) (filter (is_touched k turned) (range_with_len 0 (length k.txs)))
    → flips ≡ flips_among txs (is_carried_flag k flags) (range_with_len 0 (length k.txs))
all_flips k txs first start flags m turned flips carried e turns are =
    are
    ∙ flips_are txs (is_carried_flag k flags) (is_touched k turned) (length k.txs)
    (λ tx lt off. carried tx lt
    ∙ sym (any_agrees (is_set start) (is_set first) (carriers_in k.rows tx) (λ c _. ap (λ (l : List Bool). is_set l c) e ∙ grown_same first (m - length first) c))
    ∙ sym (untouched k start flags turned tx (turns.from start refl) off))

-- the value before an update and what contracts see of it, the flags and the flips of the decision, and the flags of
-- transactions in which these are set
module _ (table : Numbered) (k : Carried) (carried : IsCarried k) (of : AreOf table k) (own a : Acceptance) (seen : own ≡ a) (right : IsRight table k a)
    (flags : List Bool) (flips : List Flip) (are : flips ≡ flips_among own.txs (is_carried_flag k flags) (range_with_len 0 (length k.txs)))
    (txs now : List Bool) (count : ℕ) (told : List Flip) (same : txs ≡ own.txs) (all : count ≡ length k.txs) (told_is : told ≡ flips) (is : now ≡ with_flips (grown txs count) told) where
  abbrev start : List Bool
  start = grown a.txs (length k.txs)

  start_long : length start ≡ length k.txs
  start_long = grown_long a.txs (length k.txs) right.no_more_txs

  flips_are_all : flips ≡ flips_among a.txs (is_carried_flag k flags) (range_with_len 0 (length k.txs))
  flips_are_all = are ∙ ap (λ (b : Acceptance). flips_among b.txs (is_carried_flag k flags) (range_with_len 0 (length k.txs))) seen

  now_is : now ≡ with_flips start flips
  now_is =
      is ∙ ap (λ (l : List Bool). with_flips (grown l count) told) (same ∙ ap (λ (b : Acceptance). b.txs) seen)
      ∙ ap (λ (n : ℕ). with_flips (grown a.txs n) told) all ∙ ap (with_flips start) told_is

  new_flags : (t : ℕ) → t < length k.txs → is_set now t ≡ is_carried_flag k flags t
  new_flags t lt =
      ap (λ (l : List Bool). is_set l t) (now_is ∙ ap (with_flips start) flips_are_all)
      ∙ flips_set a.txs start (is_carried_flag k flags) (length k.txs) t (grown_same a.txs (length k.txs - length a.txs)) start_long lt

  -- the flags are right, and the flips are all that turned
  pub outcome : length flags ≡ length k.rows → AreSettledBut table k flags (λ _. false) → (n : ℕ) → n ≡ k.blocks
      → IsRight table k (record { blocks = n; carriers = flags; txs = now }) × (flips ≡ flips_of a.txs now (length k.txs))
  outcome rows settled n blocks = (
    updated table k carried of (record { blocks = n; carriers = flags; txs = now }) blocks rows settled (ap length now_is ∙ flips_long start flips ∙ start_long) new_flags,
    flips_are_all ∙ flips_between a.txs now (is_carried_flag k flags) (length k.txs) new_flags,
  )
