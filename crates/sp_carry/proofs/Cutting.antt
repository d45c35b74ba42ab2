-- The first blocks with their carriers and the transactions that these have: what is left where the others are taken back.
use Rattle.std.proofs.Common.{◌≡◌, ℕ, suc, ◌+◌, ◌-◌, ◌^◌, ◌<◌, ◌≤◌, Bool, true, false, cond, List, [], ◌∷◌, ◌++◌, length, take, drop, get_or, nat_lt, refl, sym, ap, ◌∙◌, inl, inr, arith, subst, append-nil, length-append}
use Rattle.std.specs.Prelude.{All, AllPairs, filter}
use Rattle.std.proofs.lemmas.Bool.{cases_lt}
use Rattle.std.proofs.lemmas.Bool.Decides.{nat_tests}
use Rattle.std.proofs.lemmas.List.{get_or-drop, get_or-take, length-drop, length-take, length-take-le, take-append-drop, take-append-le, take_all}
use Rattle.std.proofs.lemmas.List.Elements.{All-filter, All-tail, filter-append, filter_passes}
use Rattle.std.proofs.lemmas.List.Kept.{AllPairs-filter}
use Rattle.sp_dag.specs.Numbered.{Numbered}
use Rattle.sp_tx.specs.Parts.{Transaction}
use Rattle.sp_ids.specs.declared.outpoint.Outpoint.{Outpoint}
use Rattle.sp_carry.specs.declared.carrier.Carrier.{Carrier}
use Rattle.sp_carry.specs.declared.table.Table.{Table}
use Rattle.sp_carry.specs.Carried.{Carried, cut_to, rows_of_first, used, with_block, with_carriers, AreLinked, IsCarried}
use Rattle.sp_carry.specs.Growth.{front, AreInTurn, IsBlockwise}
use Rattle.sp_carry.specs.Kept.{carried_of, IsKept, Keeps}
use Rattle.sp_carry.specs.Lookups.{kept_at}
use Rattle.sp_carry.proofs.Blocks.{blocks_all, carried_block}
use Rattle.sp_carry.proofs.Fronts.{grown, linked_front, turn-take, used-all, used-few, used-front, used-short}
use Rattle.sp_carry.proofs.Linked.{is_kept, kept_is}

-- ---- the carriers of the first blocks

abbrev in_first : ℕ → Carrier → Bool
in_first n r = nat_lt r.block n

all_first : (n : ℕ) (xs : List Carrier) → All (λ (r : Carrier). r.block < n) xs → rows_of_first n xs ≡ xs
all_first n [] all = refl
all_first n (r ∷ rs) all =
    let here : in_first n r ≡ true = (let lt : r.block < n = all 0 r (omega arith) in grind (arith, nat_tests, lt)) in
    ap (λ (c : Bool). cond c (r ∷ rows_of_first n rs) (rows_of_first n rs)) here ∙ ap (λ (l : List Carrier). r ∷ l) (all_first n rs (All-tail (λ (r : Carrier). r.block < n) r rs all))

none_first : (n : ℕ) (xs : List Carrier) → All (λ (r : Carrier). n ≤ r.block) xs → rows_of_first n xs ≡ []
none_first n [] all = refl
none_first n (r ∷ rs) all =
    let here : in_first n r ≡ false = (let le : n ≤ r.block = all 0 r (omega arith) in grind (arith, nat_tests, le)) in
    ap (λ (c : Bool). cond c (r ∷ rows_of_first n rs) (rows_of_first n rs)) here ∙ none_first n rs (All-tail (λ (r : Carrier). n ≤ r.block) r rs all)

split_first : (n left : ℕ) (xs : List Carrier) → All (λ (r : Carrier). r.block < n) (take left xs) → All (λ (r : Carrier). n ≤ r.block) (drop left xs)
    → take left xs ≡ rows_of_first n xs
split_first n left xs low high =
    sym (ap (rows_of_first n) (sym (take-append-drop left xs)) ∙ filter-append (in_first n) (take left xs) (drop left xs)
    ∙ ap (λ (l : List Carrier). l ++ rows_of_first n (drop left xs)) (all_first n (take left xs) low)
    ∙ ap (λ (l : List Carrier). take left xs ++ l) (none_first n (drop left xs) high) ∙ append-nil (take left xs))

rest_high : (n left : ℕ) (xs : List Carrier) → ((i : ℕ) (d : Carrier) → left ≤ i → i < length xs → n ≤ (get_or xs i d).block) → left ≤ length xs
    → All (λ (r : Carrier). n ≤ r.block) (drop left xs)
rest_high n left xs h le i d lt =
    let long : length (drop left xs) ≡ length xs - left = length-drop left xs in
    subst (λ (r : Carrier). n ≤ r.block) (sym (get_or-drop left xs i d)) (h (left + i) d (omega arith) (omega (arith, long, lt)))

front_low : (n left : ℕ) (xs : List Carrier) → AllPairs (λ (r s : Carrier). r.block ≤ s.block) xs → left < length xs → ((d : Carrier) → (get_or xs left d).block < n)
    → All (λ (r : Carrier). r.block < n) (take (left + 1) xs)
front_low n left xs order le last i d lt =
    (let long : length (take (left + 1) xs) ≡ left + 1 = length-take-le (left + 1) xs (omega (arith, le)) in
    let read : get_or (take (left + 1) xs) i d ≡ get_or xs i d = get_or-take (left + 1) xs i d (omega (arith, lt, long)) in
    let low : (get_or xs i d).block < n = elim (cases_lt i left) [
      | inl less ↦ (let up : (get_or xs i d).block ≤ (get_or xs left d).block = order i left d less le in let end = last d in omega (arith, up, end))
      | inr past ↦ (let same : i ≡ left = omega (arith, lt, long, past) in subst (λ (k : ℕ). (get_or xs k d).block < n) (sym same) (last d))
    ] in
    subst (λ (r : Carrier). r.block < n) (sym read) low)

-- where the carrier before a place stands in the first blocks, and those from it on don't, the first ones are theirs
pub front_rows : (n left : ℕ) (xs : List Carrier) → AllPairs (λ (r s : Carrier). r.block ≤ s.block) xs → left ≤ length xs → 0 < left
    → ((d : Carrier) → (get_or xs (left - 1) d).block < n) → ((i : ℕ) (d : Carrier) → left ≤ i → i < length xs → n ≤ (get_or xs i d).block)
    → take left xs ≡ rows_of_first n xs
front_rows n left xs order le some last rest =
    let next : left - 1 + 1 ≡ left = omega (arith, some) in
    split_first n left xs (subst (λ (k : ℕ). All (λ (r : Carrier). r.block < n) (take k xs)) next (front_low n (left - 1) xs order (omega (arith, le, some)) last))
    (rest_high n left xs rest le)

pub no_rows : (n left : ℕ) (xs : List Carrier) → left ≡ 0 → ((i : ℕ) (d : Carrier) → left ≤ i → i < length xs → n ≤ (get_or xs i d).block) → take left xs ≡ rows_of_first n xs
no_rows n left xs none rest =
    ap (λ (k : ℕ). take k xs) none ∙ sym (none_first n xs (λ i d lt. rest i d (omega (arith, none)) lt))

-- ---- what always holds of the first blocks

fewer_twice : (p q : Carrier → Bool) (xs : List Carrier) → length (filter p (filter q xs)) ≤ length (filter p xs)
fewer_twice p q [] = omega arith
fewer_twice p q (x ∷ xs) = at (q x) (p x) refl (fewer_twice p q xs)
  where
    at : (c d : Bool) → p x ≡ d → length (filter p (filter q xs)) ≤ length (filter p xs)
        → length (filter p (cond c (x ∷ filter q xs) (filter q xs))) ≤ length (cond d (x ∷ filter p xs) (filter p xs))
    at false true e le = omega (arith, le)
    at false false e le = le
    at true d e le = subst (λ (b : Bool). length (cond b (x ∷ filter p (filter q xs)) (filter p (filter q xs))) ≤ length (cond d (x ∷ filter p xs) (filter p xs))) (sym e) (by d le)
      where
        by : (d : Bool) → length (filter p (filter q xs)) ≤ length (filter p xs)
            → length (cond d (x ∷ filter p (filter q xs)) (filter p (filter q xs))) ≤ length (cond d (x ∷ filter p xs) (filter p xs))
        by true le = omega (arith, le)
        by false le = le

-- the first carriers are those of the first blocks
pub record AreOfFirst (k : Carried) (n first : ℕ) : Type 0 where
  pub within : first ≤ length k.rows
  pub are : take first k.rows ≡ rows_of_first n k.rows

passes_below : (n : ℕ) (xs : List Carrier) → All (λ (r : Carrier). r.block < n) (rows_of_first n xs)
passes_below n xs i d lt = (let passes : nat_lt (get_or (rows_of_first n xs) i d).block n ≡ true = filter_passes (in_first n) xs i d lt in grind (arith, nat_tests, passes))

pub IsCarried-cut : (k : Carried) (n first : ℕ) → IsCarried k → IsBlockwise k → n ≤ k.blocks → AreOfFirst k n first → IsCarried (cut_to k n)
IsCarried-cut k n first h blockwise le of =
    let linked : AreLinked (front k first) = linked_front k first h.linked blockwise.turn in
    let short : used (take first k.rows) ≤ 0 + length (take first k.rows) = used-short 0 (take first k.rows) (turn-take 0 first k.rows blockwise.turn) in
    let rows : length (take first k.rows) ≡ length (rows_of_first n k.rows) = ap length of.are in
    let txs : length (take (used (take first k.rows)) k.txs) ≡ used (take first k.rows) = length-take-le (used (take first k.rows)) k.txs (used-front k first h.linked) in
    let theirs : AreLinked (cut_to k n) =
    (let own = subst (λ (l : List Carrier). AreLinked (record { blocks = k.blocks; txs = take (used l) k.txs; rows = l })) of.are linked in
    record { ids = own.ids; txs = own.txs; used = own.used }) in
    record {
      linked = theirs;
      blocks = passes_below n k.rows;
      order = AllPairs-filter (λ (r s : Carrier). r.block ≤ s.block) (in_first n) k.rows h.order;
      few = blockwise.few n;
      few_txs = (let same : length (take (used (rows_of_first n k.rows)) k.txs) ≡ length (take (used (take first k.rows)) k.txs) = ap (λ (l : List Carrier). length (take (used l) k.txs)) (sym of.are) in
          omega (arith, same, txs, short, rows));
      small = omega (arith, le, h.small);
    }

pub IsBlockwise-cut : (k : Carried) (n first : ℕ) → IsBlockwise k → AreOfFirst k n first → IsBlockwise (cut_to k n)
IsBlockwise-cut k n first h of =
    record {
      turn = subst (λ (l : List Carrier). AreInTurn 0 l) of.are (turn-take 0 first k.rows h.turn);
      few = λ m. (let fewer = fewer_twice (in_first m) (in_first n) k.rows in let few = h.few m in omega (arith, fewer, few));
    }

-- a table that counts fewer blocks
pub Keeps-cut : (k : Carried) (n first : ℕ) (old new : Table) → AreOfFirst k n first → Keeps old (front k first) → new.blocks ≡ n
    → new.txs.items ≡ old.txs.items → new.ids ≡ old.ids → new.rows.items ≡ old.rows.items → new.by_tx.items ≡ old.by_tx.items
    → ((from : Outpoint) → kept_at new.spenders.lists from ≡ kept_at old.spenders.lists from) → Keeps new (cut_to k n)
Keeps-cut k n first old new of h blocks txs ids rows lists spenders =
    let own = subst (λ (l : List Carrier). Keeps old (record { blocks = k.blocks; txs = take (used l) k.txs; rows = l })) of.are h in
    record {
      blocks = blocks;
      txs = txs ∙ own.txs;
      ids = ids ∙ own.ids;
      rows = rows ∙ own.rows;
      long = ap length lists ∙ own.long;
      lists = λ tx. ap (λ (xs : List (List ℕ)). get_or xs tx []) lists ∙ own.lists tx;
      spenders = λ from. spenders from ∙ own.spenders from;
    }

-- ---- with one block more

later_none : (k : Carried) (n : ℕ) (xs : List Carrier) → n ≤ k.blocks → All (λ (r : Carrier). r.block ≡ k.blocks) xs → rows_of_first n xs ≡ []
later_none k n xs le all = none_first n xs (λ i d lt. let same : (get_or xs i d).block ≡ k.blocks = all i d lt in omega (arith, same, le))

-- the carriers of the blocks before the last one
pub rows_before : (table : Numbered) (k : Carried) (ts : List Transaction) (n : ℕ) → AreLinked k → n ≤ k.blocks
    → rows_of_first n (with_block table k ts).rows ≡ rows_of_first n k.rows
rows_before table k ts n linked le =
    let now = grown table k ts linked in
    ap (rows_of_first n) now.rows ∙ filter-append (in_first n) k.rows now.more ∙ ap (λ (l : List Carrier). rows_of_first n k.rows ++ l) (later_none k n now.more le now.theirs)
    ∙ append-nil (rows_of_first n k.rows)

fewer : (p : Carrier → Bool) (xs : List Carrier) → length (filter p xs) ≤ length xs
fewer p [] = omega arith
fewer p (x ∷ xs) = at (p x) (fewer p xs)
  where
    at : (c : Bool) → length (filter p xs) ≤ length xs → length (cond c (x ∷ filter p xs) (filter p xs)) ≤ suc (length xs)
    at true le = omega (arith, le)
    at false le = omega (arith, le)

pub IsBlockwise-more : (table : Numbered) (k : Carried) (ts : List Transaction) → IsCarried k → IsBlockwise k → IsCarried (with_block table k ts)
    → IsBlockwise (with_block table k ts)
IsBlockwise-more table k ts h blockwise after =
    record {
      turn = (grown table k ts h.linked).turn blockwise.turn;
      few = λ n. elim (cases_lt k.blocks n) [
        | inl past ↦ (let all = fewer (in_first n) (with_block table k ts).rows in let few = after.few in
            let blocks : (with_block table k ts).blocks ≡ k.blocks + 1 = ap (λ (b : ℕ). b + 1) (blocks_all table k ts) in omega (arith, all, few, blocks, past))
        | inr within ↦ (let same = ap length (rows_before table k ts n h.linked within) in let few = blockwise.few n in omega (arith, same, few))
      ];
    }

pub IsBlockwise-none : IsBlockwise (record { blocks = 0; txs = []; rows = [] })
IsBlockwise-none = record { turn = tt; few = λ n. omega arith }

-- a table of what always holds
pub value : (k : Carried) (t : Table) → Keeps t k → IsCarried k → IsBlockwise k → IsKept t × IsCarried (carried_of t) × IsBlockwise (carried_of t)
value k t kept h blockwise = (is_kept t k kept, subst IsCarried (sym (kept_is t k kept)) h, subst IsBlockwise (sym (kept_is t k kept)) blockwise)

-- a table with one block more
pub counted_value : (table : Numbered) (k : Carried) (ts : List Transaction) (new : Table) → IsCarried k → IsBlockwise k → length ts ≤ 256 → k.blocks < 512
    → Keeps new (with_block table k ts) → IsKept new × IsCarried (carried_of new) × IsBlockwise (carried_of new)
counted_value table k ts new h blockwise few next kept =
    (let after = carried_block table k ts h few next in value (with_block table k ts) new kept after (IsBlockwise-more table k ts h blockwise after))

-- ---- laws

-- all blocks are left
pub cut_whole : (k : Carried) → IsCarried k → cut_to k k.blocks ≡ k
cut_whole k h =
    let rows : rows_of_first k.blocks k.rows ≡ k.rows = all_first k.blocks k.rows h.blocks in
    let txs : take (used (rows_of_first k.blocks k.rows)) k.txs ≡ k.txs =
    take_all (used (rows_of_first k.blocks k.rows)) k.txs (omega (arith, ap used rows, used-all k h.linked)) in
    ap (λ (l : List Transaction). let c : Carried = record { blocks = k.blocks; txs = l; rows = rows_of_first k.blocks k.rows } in c) txs
    ∙ ap (λ (l : List Carrier). let c : Carried = record { blocks = k.blocks; txs = k.txs; rows = l } in c) rows

used_filter : (n most : ℕ) (xs : List Carrier) → All (λ (r : Carrier). r.tx < most) xs → used (rows_of_first n xs) ≤ most
used_filter n most xs all = used-few 0 most (rows_of_first n xs) (omega arith) (All-filter (in_first n) (λ (r : Carrier). r.tx < most) xs all)

-- a block more changes nothing of what the first ones have
pub cut_before : (table : Numbered) (k : Carried) (ts : List Transaction) (n : ℕ) → IsCarried k → n ≤ k.blocks → cut_to (with_block table k ts) n ≡ cut_to k n
cut_before table k ts n h le =
    let now = grown table k ts h.linked in
    let rows : rows_of_first n (with_block table k ts).rows ≡ rows_of_first n k.rows = rows_before table k ts n h.linked le in
    let few : used (rows_of_first n k.rows) ≤ length k.txs = used_filter n (length k.txs) k.rows h.linked.txs in
    ap (λ (l : List Carrier). let c : Carried = record { blocks = n; txs = take (used l) (with_block table k ts).txs; rows = l } in c) rows
    ∙ ap (λ (l : List Transaction). let c : Carried = record { blocks = n; txs = l; rows = rows_of_first n k.rows } in c)
    (ap (take (used (rows_of_first n k.rows))) now.txs ∙ take-append-le (used (rows_of_first n k.rows)) k.txs now.more_txs few)

-- ---- after a refusal of memory

-- some carriers of the next block were added; the first ones are left
pub record IsPartly (k now : Carried) : Type 0 where
  pub linked : AreLinked now
  pub turn : AreInTurn 0 now.rows
  pub few : length now.txs < 2 ^ 32
  pub within : length k.rows ≤ length now.rows
  pub same : front now (length k.rows) ≡ k

pub partly : (table : Numbered) (k : Carried) (ts : List Transaction) (count : ℕ) → IsCarried k → IsBlockwise k → length ts ≤ 256 → k.blocks < 512
    → IsPartly k (with_carriers table k (take count ts))
partly table k ts count h blockwise few next =
    let now = grown table k (take count ts) h.linked in
    let some : length (take count ts) ≤ 256 = omega (arith, length-take count ts, few) in
    let after = carried_block table k (take count ts) h some next in
    let blocks : (with_block table k (take count ts)).blocks ≡ k.blocks + 1 = ap (λ (b : ℕ). b + 1) (blocks_all table k (take count ts)) in
    record {
      linked = now.linked;
      turn = now.turn blockwise.turn;
      few = omega (arith, after.few, after.few_txs, blocks, next);
      within = omega (arith, ap length now.rows, length-append k.rows now.more);
      same = now.same;
    }

pub partly_read : (table : Numbered) (k : Carried) (ts : List Transaction) (t : Table) → IsCarried k → IsBlockwise k → length ts ≤ 256 → k.blocks < 512
    → (count : ℕ) × Keeps t (with_carriers table k (take count ts)) → IsPartly k (carried_of t)
partly_read table k ts t h blockwise few next some =
    subst (IsPartly k) (sym (kept_is t (with_carriers table k (take some.0 ts)) some.1)) (partly table k ts some.0 h blockwise few next)

pub restored : (k : Carried) (t new : Table) (first : ℕ) → first ≡ length k.rows → IsPartly k (carried_of t) → Keeps new (front (carried_of t) first) → Keeps new k
restored k t new first is h kept = subst (Keeps new) (ap (front (carried_of t)) is ∙ h.same) kept
