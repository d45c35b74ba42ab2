-- What always holds of the first blocks holds with one block more.
use Rattle.std.proofs.Common.{◌≡◌, ℕ, ◌+◌, ◌*◌, ◌<◌, ◌≤◌, List, [], ◌∷◌, length, get_or, Option, Some, None, refl, sym, ap, ◌∙◌, arith, subst}
use Rattle.std.specs.Prelude.{All, AllPairs}
use Rattle.std.proofs.lemmas.List.Elements.{All-weaker}
use Rattle.std.proofs.lemmas.List.Quantifiers.{all_pairs_push}
use Rattle.sp_dag.specs.Numbered.{Numbered}
use Rattle.sp_tx.specs.Parts.{Transaction}
use Rattle.sp_tx.specs.Spending.{id_of}
use Rattle.sp_carry.specs.declared.carrier.Carrier.{Carrier}
use Rattle.sp_carry.specs.Carried.{Carried, carried_by, next_carrier, number_of, tx_at, with_block, with_carrier, with_carriers, AreLinked, IsCarried}
use Rattle.sp_carry.specs.Growth.{HasRoom}
use Rattle.sp_ids.specs.declared.outpoint.Outpoint.{Outpoint}
use Rattle.sp_carry.specs.declared.table.Table.{Table}
use Rattle.sp_carry.specs.Lookups.{kept_at}
use Rattle.sp_carry.specs.Kept.{Keeps}
use Rattle.sp_carry.proofs.Linked.{blocks_more, counts_more, linked_more}

-- what holds while the carriers of the next block are added, of which so many are there at most
record IsCarriedPartly (k : Carried) (some : ℕ) : Type 0 where
  linked : AreLinked k
  blocks : All (λ (r : Carrier). r.block < k.blocks + 1) k.rows
  order : AllPairs (λ (r s : Carrier). r.block ≤ s.block) k.rows
  few : length k.rows ≤ 256 * k.blocks + some
  few_txs : length k.txs ≤ length k.rows

order_more : (table : Numbered) (k : Carried) (t : Transaction) → AllPairs (λ (r s : Carrier). r.block ≤ s.block) k.rows
    → All (λ (r : Carrier). r.block < k.blocks + 1) k.rows → AllPairs (λ (r s : Carrier). r.block ≤ s.block) (with_carrier table k t).rows
order_more table k t order blocks = at (number_of k (id_of t))
  where
    at : (o : Option ℕ) → AllPairs (λ (r s : Carrier). r.block ≤ s.block) (carried_by table k t o).rows
    at None =
        all_pairs_push (λ (r s : Carrier). r.block ≤ s.block) k.rows (next_carrier table k (length k.txs) t) order
        (λ i d lt. let le : (get_or k.rows i d).block < k.blocks + 1 = blocks i d lt in omega (arith, le))
    at (Some n) =
        all_pairs_push (λ (r s : Carrier). r.block ≤ s.block) k.rows (next_carrier table k n (tx_at k n)) order
        (λ i d lt. let le : (get_or k.rows i d).block < k.blocks + 1 = blocks i d lt in omega (arith, le))

partly_more : (table : Numbered) (k : Carried) (t : Transaction) (some : ℕ) → IsCarriedPartly k some → IsCarriedPartly (with_carrier table k t) (some + 1)
partly_more table k t some h =
    let counts : (length (with_carrier table k t).rows ≡ length k.rows + 1) × (length (with_carrier table k t).txs ≤ length k.txs + 1) × ((with_carrier table k t).blocks ≡ k.blocks) =
    counts_more table k t in
    record {
      linked = linked_more table k t h.linked;
      blocks = subst (λ (n : ℕ). All (λ (r : Carrier). r.block < n + 1) (with_carrier table k t).rows) (sym counts.2)
          (blocks_more table k t (k.blocks + 1) h.blocks (omega arith));
      order = order_more table k t h.order h.blocks;
      few = omega (arith, counts.0, counts.2, h.few);
      few_txs = omega (arith, counts.0, counts.1, h.few_txs);
    }

partly_all : (table : Numbered) (k : Carried) (ts : List Transaction) (some : ℕ) → IsCarriedPartly k some → IsCarriedPartly (with_carriers table k ts) (some + length ts)
partly_all table k [] some h = subst (IsCarriedPartly k) (let e : some ≡ some + 0 = omega arith in e) h
partly_all table k (t ∷ ts) some h =
    subst (IsCarriedPartly (with_carriers table k (t ∷ ts))) (let e : some + 1 + length ts ≡ some + length (t ∷ ts) = omega arith in e)
    (partly_all table (with_carrier table k t) ts (some + 1) (partly_more table k t some h))

pub blocks_all : (table : Numbered) (k : Carried) (ts : List Transaction) → (with_carriers table k ts).blocks ≡ k.blocks
blocks_all table k [] = refl
blocks_all table k (t ∷ ts) = blocks_all table (with_carrier table k t) ts ∙ (counts_more table k t).2

pub carried_block : (table : Numbered) (k : Carried) (ts : List Transaction) → IsCarried k → length ts ≤ 256 → k.blocks < 512 → IsCarried (with_block table k ts)
carried_block table k ts h few next =
    let before : IsCarriedPartly k 0 = record {
      linked = h.linked;
      blocks = All-weaker (λ (r : Carrier). r.block < k.blocks) (λ (r : Carrier). r.block < k.blocks + 1) (λ r lt. omega (arith, lt)) k.rows h.blocks;
      order = h.order;
      few = omega (arith, h.few);
      few_txs = h.few_txs;
    } in
    let after : IsCarriedPartly (with_carriers table k ts) (0 + length ts) = partly_all table k ts 0 before in
    let same : (with_carriers table k ts).blocks ≡ k.blocks = blocks_all table k ts in
    record {
      linked = record { ids = after.linked.ids; txs = after.linked.txs; used = after.linked.used };
      blocks = after.blocks;
      order = after.order;
      few = omega (arith, after.few, few);
      few_txs = after.few_txs;
      small = omega (arith, same, next);
    }

-- there is room for a block's carriers
pub room_block : (table : Numbered) (k : Carried) (ts : List Transaction) → IsCarried k → length ts ≤ 256 → k.blocks < length table.parents → length table.parents ≤ 512
    → HasRoom table (length ts) k
room_block table k ts h few next small =
    record {
      linked = h.linked;
      rows = All-weaker (λ (r : Carrier). r.block < k.blocks) (λ (r : Carrier). r.block < length table.parents) (λ r lt. omega (arith, lt, next)) k.rows h.blocks;
      next = next;
      few = h.few_txs;
      room = omega (arith, h.few, few, next, small);
    }

-- a table that counts the block
pub counted : (table : Numbered) (k : Carried) (ts : List Transaction) (old new : Table) → Keeps old (with_carriers table k ts) → new.blocks ≡ k.blocks + 1
    → new.txs.items ≡ old.txs.items → new.ids ≡ old.ids → new.rows.items ≡ old.rows.items → new.by_tx.items ≡ old.by_tx.items
    → ((from : Outpoint) → kept_at new.spenders.lists from ≡ kept_at old.spenders.lists from) → Keeps new (with_block table k ts)
counted table k ts old new h blocks txs ids rows lists spenders =
    record {
      blocks = blocks ∙ ap (λ (n : ℕ). n + 1) (sym (blocks_all table k ts));
      txs = txs ∙ h.txs;
      ids = ids ∙ h.ids;
      rows = rows ∙ h.rows;
      long = ap length lists ∙ h.long;
      lists = λ tx. ap (λ (xs : List (List ℕ)). get_or xs tx []) lists ∙ h.lists tx;
      spenders = λ from. spenders from ∙ h.spenders from;
    }
