-- Carriers to which those of further blocks were added.
use Rattle.std.proofs.Common.{◌≡◌, ℕ, suc, ◌<◌, ◌≤◌, Bool, true, false, cond, List, [], ◌∷◌, ◌++◌, map, length, Option, Some, None, refl, sym, ap, ◌∙◌, arith, eqb, append_assoc, length-append}
use Rattle.std.specs.Prelude.{All, filter}
use Rattle.std.proofs.Math.ListN.{get_or-append}
use Rattle.std.proofs.lemmas.List.{append-nil}
use Rattle.std.proofs.lemmas.List.Elements.{All-cons, All-nil, All-push}
use Rattle.std.proofs.lemmas.Bool.{ne_eqb}
use Rattle.sp_dag.specs.Numbered.{Numbered}
use Rattle.sp_tx.specs.Parts.{Transaction, of_parts}
use Rattle.sp_tx.specs.Spending.{id_of}
use Rattle.sp_carry.specs.declared.carrier.Carrier.{Carrier}
use Rattle.sp_carry.specs.Payment.{payment_of}
use Rattle.sp_carry.specs.Carried.{Carried, AreLinked, carried_by, next_carrier, number_of, payments_in, tx_at, with_block, with_carrier, with_carriers}
use Rattle.sp_accept.specs.Rows.{no_row, payment_at}

-- the carriers k' go on from k: no transaction is another one, and the further carriers are of later blocks
pub record GoesOn (k k' : Carried) : Type 0 where
  pub txs : (t : ℕ) → t < length k.txs → tx_at k' t ≡ tx_at k t
  pub few : length k.txs ≤ length k'.txs
  pub more : List Carrier
  pub rows : k'.rows ≡ k.rows ++ more
  pub later : All (λ (r : Carrier). k.blocks ≤ r.block) more

-- what an earlier block carries stays
pub payments_stay : (k k' : Carried) (z : ℕ) → AreLinked k → GoesOn k k' → z < k.blocks → payments_in k' z ≡ payments_in k z
payments_stay k k' z linked on lt =
    ap (λ (rs : List Carrier). map (λ (r : Carrier). payment_at k' r.tx) (filter (λ (r : Carrier). eqb r.block z) rs)) on.rows
    ∙ same k.rows linked.txs
  where
    none : (rs : List Carrier) → All (λ (r : Carrier). k.blocks ≤ r.block) rs → map (λ (r : Carrier). payment_at k' r.tx) (filter (λ (r : Carrier). eqb r.block z) rs) ≡ []
    none [] all = refl
    none (r ∷ rs) all =
        let le : k.blocks ≤ r.block = all 0 no_row (omega arith) in
        rw (ne_eqb r.block z (λ e. omega (arith, e, le, lt))) (none rs (λ i d less. all (suc i) d (omega (arith, less))))

    same : (rs : List Carrier) → All (λ (r : Carrier). r.tx < length k.txs) rs
        → map (λ (r : Carrier). payment_at k' r.tx) (filter (λ (r : Carrier). eqb r.block z) (rs ++ on.more)) ≡ map (λ (r : Carrier). payment_at k r.tx) (filter (λ (r : Carrier). eqb r.block z) rs)
    same [] all = none on.more on.later
    same (r ∷ rs) all = at (eqb r.block z) (same rs (λ i d less. all (suc i) d (omega (arith, less))))
      where
        at : (b : Bool) → map (λ (r : Carrier). payment_at k' r.tx) (filter (λ (r : Carrier). eqb r.block z) (rs ++ on.more)) ≡ map (λ (r : Carrier). payment_at k r.tx) (filter (λ (r : Carrier). eqb r.block z) rs)
            → map (λ (r : Carrier). payment_at k' r.tx) (cond b (r ∷ filter (λ (r : Carrier). eqb r.block z) (rs ++ on.more)) (filter (λ (r : Carrier). eqb r.block z) (rs ++ on.more)))
            ≡ map (λ (r : Carrier). payment_at k r.tx) (cond b (r ∷ filter (λ (r : Carrier). eqb r.block z) rs) (filter (λ (r : Carrier). eqb r.block z) rs))
        at true e =
            let t : tx_at k' r.tx ≡ tx_at k r.tx = on.txs r.tx (all 0 no_row (omega arith)) in
            let p : payment_at k' r.tx ≡ payment_at k r.tx = ap payment_of t in
            cc
        at false e = e

-- ---- one carrier more in the next block

-- the next carrier, and what stays
record IsStep (table : Numbered) (k k' : Carried) : Type 0 where
  blocks : k'.blocks ≡ k.blocks
  txs : (t : ℕ) → t < length k.txs → tx_at k' t ≡ tx_at k t
  few : length k.txs ≤ length k'.txs
  row : Carrier
  rows : k'.rows ≡ k.rows ++ row ∷ []
  block : row.block ≡ k.blocks

step : (table : Numbered) (k : Carried) (t : Transaction) → IsStep table k (with_carrier table k t)
step table k t = at (number_of k (id_of t))
  where
    at : (o : Option ℕ) → IsStep table k (carried_by table k t o)
    at None = record {
      blocks = refl;
      txs = λ n lt. get_or-append k.txs (t ∷ []) (of_parts [] []) n lt;
      few = omega (arith, length-append k.txs (t ∷ []));
      row = next_carrier table k (length k.txs) t;
      rows = refl;
      block = refl;
    }
    at (Some n) = record {
      blocks = refl;
      txs = λ n lt. refl;
      few = omega arith;
      row = next_carrier table k n (tx_at k n);
      rows = refl;
      block = refl;
    }

one_later : (k : Carried) (r : Carrier) → r.block ≡ k.blocks → All (λ (r : Carrier). k.blocks ≤ r.block) (r ∷ [])
one_later k r e = All-cons (λ (r : Carrier). k.blocks ≤ r.block) r [] (omega (arith, e)) (All-nil (λ (r : Carrier). k.blocks ≤ r.block))

goes_on : (table : Numbered) (k k' : Carried) → IsStep table k k' → GoesOn k k'
goes_on table k k' s = record { txs = s.txs; few = s.few; more = s.row ∷ []; rows = s.rows; later = one_later k s.row s.block }

s_blocks : (table : Numbered) (k : Carried) (t : Transaction) → (with_carrier table k t).blocks ≡ k.blocks
s_blocks table k t = (let s : IsStep table k (with_carrier table k t) = step table k t in s.blocks)

goes_further : (table : Numbered) (k mid k' : Carried) → mid.blocks ≡ k.blocks → GoesOn k mid → IsStep table mid k' → GoesOn k k'
goes_further table k mid k' same on s = record {
  txs = λ t lt. s.txs t (omega (arith, lt, on.few)) ∙ on.txs t lt;
  few = omega (arith, on.few, s.few);
  more = on.more ++ s.row ∷ [];
  rows = s.rows ∙ ap (λ (rs : List Carrier). rs ++ s.row ∷ []) on.rows ∙ append_assoc k.rows on.more (s.row ∷ []);
  later = All-push (λ (r : Carrier). k.blocks ≤ r.block) on.more s.row on.later (omega (arith, s.block, same));
}

-- the carriers of a block go on from those before it
pub goes_all : (table : Numbered) (k : Carried) (ts : List Transaction) → GoesOn k (with_block table k ts)
goes_all table k ts =
    let r : GoesOn k (with_carriers table k ts) =
    further k ts refl (record { txs = λ t lt. refl; few = omega arith; more = []; rows = sym (append-nil k.rows); later = All-nil (λ (r : Carrier). k.blocks ≤ r.block) }) in
    record { txs = r.txs; few = r.few; more = r.more; rows = r.rows; later = r.later }
  where
    further : (mid : Carried) (ts : List Transaction) → mid.blocks ≡ k.blocks → GoesOn k mid → GoesOn k (with_carriers table mid ts)
    further mid [] same on = on
    further mid (t ∷ ts) same on =
        further (with_carrier table mid t) ts (s_blocks table mid t ∙ same) (goes_further table k mid (with_carrier table mid t) same on (step table mid t))
