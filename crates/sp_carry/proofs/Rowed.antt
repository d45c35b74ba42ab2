-- Rows of rivals beside a table, where a block is added, where that fails, and where blocks are cut.
use Rattle.std.proofs.Common.{◌≡◌, ℕ, ◌^◌, ◌<◌, ◌≤◌, List, [], length, take, get_or, sym, ap, ◌∙◌, arith, subst}
use Rattle.std.specs.Prelude.{All}
use Rattle.std.proofs.lemmas.List.{length-take-le, take_all}
use Rattle.std.proofs.lemmas.List.Elements.{All-weaker}
use Rattle.sp_bits.specs.Places.{has, IsRow}
use Rattle.sp_bits.proofs.Sets.{places_same}
use Rattle.sp_dag.specs.Numbered.{Numbered}
use Rattle.sp_tx.specs.Parts.{Transaction}
use Rattle.sp_carry.specs.declared.carrier.Carrier.{Carrier}
use Rattle.sp_carry.specs.declared.table.Table.{Table}
use Rattle.sp_carry.specs.Carried.{Carried, cut_to, rows_of_first, used, with_block, with_carriers, AreLinked, IsCarried}
use Rattle.sp_carry.specs.Growth.{front, IsBlockwise}
use Rattle.sp_carry.specs.Kept.{carried_of, Keeps}
use Rattle.sp_carry.specs.RivalBlocks.{has_rival_in, rival_blocks, AreCut, HasRivals}
use Rattle.sp_carry.proofs.Blocks.{carried_block}
use Rattle.sp_carry.proofs.Cutting.{AreOfFirst, IsPartly, partly_read}
use Rattle.sp_carry.proofs.Fronts.{used-front}
use Rattle.sp_carry.proofs.Keeping.{any_default}
use Rattle.sp_carry.proofs.Linked.{kept_is}
use Rattle.sp_carry.proofs.RivalRows.{rows_cut}

-- the carriers of a block were added to those of k
pub record IsRowed (k now : Carried) : Type 0 where
  pub linked : AreLinked now
  pub blocks : All (λ (r : Carrier). r.block < 512) now.rows
  pub small : length now.txs < 2 ^ 32
  pub within : length k.rows ≤ length now.rows
  pub same : front now (length k.rows) ≡ k

pub rowed : (table : Numbered) (k : Carried) (ts : List Transaction) (t : Table) → IsCarried k → IsBlockwise k → length ts ≤ 256 → k.blocks < 512
    → Keeps t (with_carriers table k ts) → IsRowed k (carried_of t)
rowed table k ts t h blockwise few next kept =
    let whole : Keeps t (with_carriers table k (take (length ts) ts)) =
    subst (λ (l : List Transaction). Keeps t (with_carriers table k l)) (sym (take_all (length ts) ts (omega arith))) kept in
    let part : IsPartly k (carried_of t) = partly_read table k ts t h blockwise few next (length ts, whole) in
    let after : IsCarried (with_block table k ts) = carried_block table k ts h few next in
    record {
      linked = part.linked;
      blocks = subst (λ (c : Carried). All (λ (r : Carrier). r.block < 512) c.rows) (sym (kept_is t (with_carriers table k ts) kept))
          (All-weaker (λ (r : Carrier). r.block < (with_block table k ts).blocks) (λ (r : Carrier). r.block < 512) (λ r lt. omega (arith, lt, after.small))
          (with_carriers table k ts).rows after.blocks);
      small = part.few;
      within = part.within;
      same = part.same;
    }

-- the rows are those of the first carriers
pub rows_before : (k now : Carried) (first : ℕ) (old new : List (List ℕ)) → first ≡ length k.rows → IsRowed k now → new ≡ old → HasRivals k old → HasRivals (front now first) new
rows_before k now first old new is rowed same h =
    subst (HasRivals (front now first)) (sym same)
    (subst (λ (c : Carried). HasRivals c old) (sym (ap (front now) is ∙ rowed.same)) h)

-- all is as before
pub rows_back : (k : Carried) (t : Table) (old new : List (List ℕ)) → Keeps t k → new ≡ old → HasRivals k old → HasRivals (carried_of t) new
rows_back k t old new kept same h =
    subst (HasRivals (carried_of t)) (sym same) (subst (λ (c : Carried). HasRivals c old) (sym (kept_is t k kept)) h)

-- fewer transactions are left
pub left_is : (k : Carried) (n first left : ℕ) (t : Table) → AreLinked k → AreOfFirst k n first → Keeps t (front k first) → left ≡ length t.txs.items
    → (left ≡ used (rows_of_first n k.rows)) × (left ≤ length k.txs)
left_is k n first left t linked of kept is =
    (let few : used (take first k.rows) ≤ length k.txs = used-front k first linked in
    let long : left ≡ used (take first k.rows) = is ∙ ap length kept.txs ∙ length-take-le (used (take first k.rows)) k.txs few in (
      long ∙ ap used of.are,
      omega (arith, long, few),
    ))

pub rivals_cut : (k : Carried) (n first left : ℕ) (t after : Table) (old new : List (List ℕ)) → AreLinked k → AreOfFirst k n first → Keeps t (front k first)
    → left ≡ length t.txs.items → Keeps after (cut_to k n) → HasRivals k old → AreCut left n left old new → HasRivals (carried_of after) new
rivals_cut k n first left t after old new linked of kept is now h cut =
    (let l : (left ≡ used (rows_of_first n k.rows)) × (left ≤ length k.txs) = left_is k n first left t linked of kept is in
    subst (λ (c : Carried). HasRivals c new) (sym (kept_is after (cut_to k n) now)) (rows_cut k linked n left old new l.0 l.1 h cut))

-- a row that is read
pub row_is : (k : Carried) (rows : List (List ℕ)) (tx : ℕ) (row : List ℕ) → tx < length k.txs → HasRivals k rows → row ≡ get_or rows tx row → IsRow row → row ≡ rival_blocks k tx
unfolding IsRow
row_is k rows tx row lt h e is =
    is ∙ places_same (has row) (has_rival_in k tx)
    (λ z small. ap (λ (l : List ℕ). has l z) (e ∙ any_default rows tx row [] (omega (arith, lt, h.long))) ∙ h.each tx z lt small)
