-- Blocks that were added one after another carry their transactions, each as the first that has its id.
use Rattle.std.proofs.Common.{◌≡◌, ℕ, suc, Bool, true, false, cond, eqb, ◌+◌, ◌<◌, ◌≤◌, ◌||◌, List, [], ◌∷◌, ◌++◌, length, map, get_or, Option, Some, None, refl, sym, ap, ◌∙◌, arith, length-append, subst, inl, inr}
use Rattle.std.specs.Prelude.{All, filter, find, flat_map}
use Rattle.std.proofs.lemmas.Bool.{cases_lt, eqb-true, eq-eqb, ne_eqb}
use Rattle.std.proofs.lemmas.List.{append-nil, get_or_append_left, map-append}
use Rattle.std.proofs.lemmas.List.Folds.{list_any-append}
use Rattle.std.proofs.Math.Seq.{get_or-append_seam}
use Rattle.sp_dag.specs.Numbered.{Numbered}
use Rattle.sp_tx.specs.Parts.{Transaction, of_parts}
use Rattle.sp_tx.specs.Spending.{id_of}
use Rattle.sp_model.specs.Graph.{has}
use Rattle.sp_carry.specs.declared.carrier.Carrier.{Carrier}
use Rattle.sp_carry.specs.Payment.{Payment, payment_of}
use Rattle.sp_carry.specs.Carried.{AreLinked, Carried, Carries, IsCarried, carried_by, first_like, next_carrier, number_of, payments_in, tx_at, with_block, with_carrier, with_carriers, with_tx}
use Rattle.sp_carry.proofs.Finding.{number_id, number_within}
use Rattle.sp_carry.proofs.Firsts.{find_both, find_known, found_in, has_id, likes_named, named, named_same, payments_named}
use Rattle.sp_carry.proofs.Linked.{counts_more, linked_more}
use Rattle.sp_carry.proofs.Members.{IsIn, any_of_member, contains_from_in, in_append_left, in_append_right, in_flat_map_from, in_from_contains, in_map_from, list_in}
use Rattle.sp_carry.proofs.Soundness.{payments_same, payments_tx}

abbrev flat : List (List Transaction) → List Transaction
flat blocks = flat_map (λ b. b) blocks

append_thrice : {A : Type 0} (xs ys zs : List A) → xs ++ (ys ++ zs) ≡ (xs ++ ys) ++ zs
append_thrice [] ys zs = refl
append_thrice {A} (x ∷ xs) ys zs = ap (λ (l : List A). x ∷ l) (append_thrice xs ys zs)

flat_push : (blocks : List (List Transaction)) (ts : List Transaction) → flat (blocks ++ ts ∷ []) ≡ flat blocks ++ ts
flat_push [] ts = append-nil ts
flat_push (b ∷ bs) ts = ap (λ (l : List Transaction). b ++ l) (flat_push bs ts) ∙ append_thrice b (flat bs) ts

-- the ids that a block carries
abbrev ids_in : Carried → ℕ → List ℕ
ids_in k z = map (λ (p : Payment). p.id) (payments_in k z)

-- what holds while the next block's carriers are added: `seen` are all transactions so far, and `here` those of this block
record CarriesPartly (blocks : List (List Transaction)) (seen here : List Transaction) (k : Carried) : Type 0 where
  count : k.blocks ≡ length blocks
  ids : (id : ℕ) → has (map id_of k.txs) id ≡ has (map id_of seen) id
  found : (id : ℕ) → find (has_id id) k.txs ≡ find (has_id id) seen
  there : (n : ℕ) → n < length k.txs → IsIn seen (tx_at k n)
  theirs : (z : ℕ) → z < length blocks → ids_in k z ≡ map id_of (get_or blocks z [])
  last : ids_in k k.blocks ≡ map id_of here

has_push : (ts : List Transaction) (t : Transaction) (id : ℕ) → has (map id_of (ts ++ t ∷ [])) id ≡ (has (map id_of ts) id || eqb (id_of t) id)
has_push ts t id =
    ap (λ (l : List ℕ). has l id) (map-append id_of ts (t ∷ [])) ∙ list_any-append (λ i. eqb i id) (map id_of ts) (id_of t ∷ [])
    ∙ ap (λ (b : Bool). has (map id_of ts) id || b) (or_none (eqb (id_of t) id))
  where
    or_none : (c : Bool) → (c || false) ≡ c
    or_none true = refl
    or_none false = refl

filter_here : (k : Carried) (f : Carrier → Payment) (rows : List Carrier) (r : Carrier) (n : ℕ) → r.block ≡ n
    → map f (filter (λ (q : Carrier). eqb q.block n) (rows ++ r ∷ [])) ≡ map f (filter (λ (q : Carrier). eqb q.block n) rows) ++ f r ∷ []
filter_here k f [] r n is = ap (λ (c : Bool). map f (cond c (r ∷ []) [])) (eq-eqb r.block n is)
filter_here k f (q ∷ qs) r n is = at (eqb q.block n) (filter_here k f qs r n is)
  where
    at : (c : Bool) → map f (filter (λ (q : Carrier). eqb q.block n) (qs ++ r ∷ [])) ≡ map f (filter (λ (q : Carrier). eqb q.block n) qs) ++ f r ∷ []
        → map f (cond c (q ∷ filter (λ (q : Carrier). eqb q.block n) (qs ++ r ∷ [])) (filter (λ (q : Carrier). eqb q.block n) (qs ++ r ∷ [])))
        ≡ map f (cond c (q ∷ filter (λ (q : Carrier). eqb q.block n) qs) (filter (λ (q : Carrier). eqb q.block n) qs)) ++ f r ∷ []
    at true rest = ap (λ (l : List Payment). f q ∷ l) rest
    at false rest = rest

partly_more : (table : Numbered) (blocks : List (List Transaction)) (seen here : List Transaction) (k : Carried) (t : Transaction) → AreLinked k
    → CarriesPartly blocks seen here k → CarriesPartly blocks (seen ++ t ∷ []) (here ++ t ∷ []) (with_carrier table k t)
partly_more table blocks seen here k t linked h =
    let counts : (length (with_carrier table k t).rows ≡ length k.rows + 1) × (length (with_carrier table k t).txs ≤ length k.txs + 1) × ((with_carrier table k t).blocks ≡ k.blocks) =
    counts_more table k t in
    record {
      count = counts.2 ∙ h.count;
      ids = λ id. ids_at id (number_of k (id_of t)) refl ∙ sym (has_push seen t id);
      there = there_at (number_of k (id_of t));
      found = λ id. found_at id (number_of k (id_of t)) refl;
      theirs = λ z lt. ap (map (λ (p : Payment). p.id)) (payments_same table k t z linked (omega (arith, h.count, lt))) ∙ h.theirs z lt;
      last =
          ap (ids_in (with_carrier table k t)) counts.2 ∙ last_at (number_of k (id_of t)) refl
          ∙ ap (λ (l : List ℕ). l ++ id_of t ∷ []) h.last ∙ sym (map-append id_of here (t ∷ []));
    }
  where
    ids_at : (id : ℕ) (o : Option ℕ) → number_of k (id_of t) ≡ o → has (map id_of (carried_by table k t o).txs) id ≡ (has (map id_of seen) id || eqb (id_of t) id)
    ids_at id None e = has_push k.txs t id ∙ ap (λ (b : Bool). b || eqb (id_of t) id) (h.ids id)
    ids_at id (Some n) e = h.ids id ∙ known (eqb (id_of t) id) refl
      where
        there_is : has (map id_of seen) (id_of t) ≡ true
        there_is =
            sym (h.ids (id_of t))
            ∙ any_of_member (λ i. eqb i (id_of t)) (map id_of k.txs) (id_of (tx_at k n)) (in_map_from id_of k.txs (tx_at k n) (list_in k.txs n (of_parts [] []) (number_within k (id_of t) n e)))
            (eq-eqb (id_of (tx_at k n)) (id_of t) (number_id k (id_of t) n e))

        or_true : (a : Bool) → (a || true) ≡ true
        or_true true = refl
        or_true false = refl

        or_none : (a : Bool) → (a || false) ≡ a
        or_none true = refl
        or_none false = refl

        known : (c : Bool) → eqb (id_of t) id ≡ c → has (map id_of seen) id ≡ (has (map id_of seen) id || c)
        known true same = ap (has (map id_of seen)) (sym (eqb-true (id_of t) id same)) ∙ there_is ∙ sym (or_true (has (map id_of seen) id))
        known false same = sym (or_none (has (map id_of seen) id))

    there_at : (o : Option ℕ) (n : ℕ) → n < length (carried_by table k t o).txs → IsIn (seen ++ t ∷ []) (tx_at (carried_by table k t o) n)
    there_at None n lt =
        elim (cases_lt n (length k.txs)) [
          | inl less ↦ subst (IsIn (seen ++ t ∷ [])) (sym (get_or_append_left k.txs (t ∷ []) (of_parts [] []) n less)) (in_append_left seen (t ∷ []) (tx_at k n) (h.there n less))
          | inr ge ↦ (let last : length k.txs ≡ n = omega (arith, lt, ge, length-append k.txs (t ∷ [])) in
              in_append_right seen (t ∷ []) (get_or (k.txs ++ t ∷ []) n (of_parts [] []))
              (inl (sym (get_or-append_seam k.txs t [] (of_parts [] [])) ∙ ap (λ (m : ℕ). get_or (k.txs ++ t ∷ []) m (of_parts [] [])) last)))
        ]
    there_at (Some m) n lt = in_append_left seen (t ∷ []) (tx_at k n) (h.there n lt)

    found_at : (id : ℕ) (o : Option ℕ) → number_of k (id_of t) ≡ o → find (has_id id) (carried_by table k t o).txs ≡ find (has_id id) (seen ++ t ∷ [])
    found_at id None e = find_both (has_id id) k.txs seen t (h.found id)
    found_at id (Some n) e = h.found id ∙ sym (find_known seen t (tx_at k n) id (h.there n (number_within k (id_of t) n e)) (number_id k (id_of t) n e))

    ids_push : (ps : List Payment) (p : Payment) → map (λ (p : Payment). p.id) (ps ++ p ∷ []) ≡ map (λ (p : Payment). p.id) ps ++ p.id ∷ []
    ids_push ps p = map-append (λ (p : Payment). p.id) ps (p ∷ [])

    last_at : (o : Option ℕ) → number_of k (id_of t) ≡ o → ids_in (carried_by table k t o) k.blocks ≡ ids_in k k.blocks ++ id_of t ∷ []
    last_at None e =
        ap (map (λ (p : Payment). p.id))
        (filter_here k (λ (q : Carrier). payment_of (tx_at (with_tx k t) q.tx)) k.rows (next_carrier table k (length k.txs) t) k.blocks refl
        ∙ ap (λ (l : List Payment). l ++ payment_of (tx_at (with_tx k t) (length k.txs)) ∷ []) (payments_tx k t k.blocks linked)
        ∙ ap (λ (x : Transaction). payments_in k k.blocks ++ payment_of x ∷ []) (get_or-append_seam k.txs t [] (of_parts [] [])))
        ∙ ids_push (payments_in k k.blocks) (payment_of t)
    last_at (Some n) e =
        ap (map (λ (p : Payment). p.id))
        (filter_here k (λ (q : Carrier). payment_of (tx_at k q.tx)) k.rows (next_carrier table k n (tx_at k n)) k.blocks refl)
        ∙ ids_push (payments_in k k.blocks) (payment_of (tx_at k n))
        ∙ ap (λ (i : ℕ). ids_in k k.blocks ++ i ∷ []) (number_id k (id_of t) n e)

partly_all : (table : Numbered) (blocks : List (List Transaction)) (seen here : List Transaction) (k : Carried) (ts : List Transaction) → AreLinked k
    → CarriesPartly blocks seen here k → CarriesPartly blocks (seen ++ ts) (here ++ ts) (with_carriers table k ts)
partly_all table blocks seen here k [] linked h =
    subst (λ (l : List Transaction). CarriesPartly blocks l (here ++ []) k) (sym (append-nil seen))
    (subst (λ (l : List Transaction). CarriesPartly blocks seen l k) (sym (append-nil here)) h)
partly_all table blocks seen here k (t ∷ ts) linked h =
    subst (λ (l : List Transaction). CarriesPartly blocks l (here ++ t ∷ ts) (with_carriers table (with_carrier table k t) ts)) (sym (append_thrice seen (t ∷ []) ts))
    (subst (λ (l : List Transaction). CarriesPartly blocks ((seen ++ t ∷ []) ++ ts) l (with_carriers table (with_carrier table k t) ts)) (sym (append_thrice here (t ∷ []) ts))
    (partly_all table blocks (seen ++ t ∷ []) (here ++ t ∷ []) (with_carrier table k t) ts (linked_more table k t linked)
    (partly_more table blocks seen here k t linked h)))

none_here : (rows : List Carrier) (n : ℕ) → All (λ (r : Carrier). r.block < n) rows → filter (λ (q : Carrier). eqb q.block n) rows ≡ []
none_here [] n all = refl
none_here (r ∷ rs) n all =
    ap (λ (c : Bool). cond c (r ∷ filter (λ (q : Carrier). eqb q.block n) rs) (filter (λ (q : Carrier). eqb q.block n) rs))
    (ne_eqb r.block n (λ e. let lt : r.block < n = all 0 r (omega arith) in omega (arith, lt, e)))
    ∙ none_here rs n (λ i d lt. all (suc i) d (omega (arith, lt)))

linked_all : (table : Numbered) (k : Carried) (ts : List Transaction) → AreLinked k → AreLinked (with_carriers table k ts)
linked_all table k [] h = h
linked_all table k (t ∷ ts) h = linked_all table (with_carrier table k t) ts (linked_more table k t h)

-- the transactions of one of the blocks are among all
in_flat : (blocks : List (List Transaction)) (z : ℕ) → z < length blocks → (x : Transaction) → IsIn (get_or blocks z []) x → IsIn (flat blocks) x
in_flat blocks z lt x there = in_flat_map_from (λ b. b) blocks (get_or blocks z []) x (list_in blocks z [] lt) there

-- nothing is carried by no blocks
pub none_carried : Carries [] (record { blocks = 0; txs = []; rows = [] })
none_carried = record { count = refl; ids = λ id. refl; found = λ id. refl; there = λ n lt. absurd (omega (arith, lt)); theirs = λ z lt. absurd (omega (arith, lt)) }

-- with one block more
pub block_carried : (table : Numbered) (blocks : List (List Transaction)) (k : Carried) (ts : List Transaction) → IsCarried k → Carries blocks k
    → Carries (blocks ++ ts ∷ []) (with_block table k ts)
block_carried table blocks k ts is h =
    record {
      count = ap (λ (n : ℕ). n + 1) after.count ∙ sym (length-append blocks (ts ∷ []));
      ids = λ id. after.ids id ∙ ap (λ (l : List Transaction). has (map id_of l) id) (sym (flat_push blocks ts));
      found = found;
      there = λ n lt. contains_from_in (flat (blocks ++ ts ∷ [])) (tx_at (with_carriers table k ts) n)
          (subst (λ (l : List Transaction). IsIn l (tx_at (with_carriers table k ts) n)) (sym (flat_push blocks ts)) (after.there n lt));
      theirs = λ z lt.
          payments_named (with_carriers table k ts) z (linked_all table k ts is.linked)
          ∙ ap (map (named (with_carriers table k ts).txs)) (ids_at z lt)
          ∙ named_same (with_carriers table k ts).txs (flat (blocks ++ ts ∷ [])) (map id_of (get_or (blocks ++ ts ∷ []) z [])) found
          ∙ likes_named (flat (blocks ++ ts ∷ [])) (get_or (blocks ++ ts ∷ []) z []) (in_flat (blocks ++ ts ∷ []) z lt);
    }
  where
    kept_ids : (z : ℕ) → z < length blocks → ids_in k z ≡ map id_of (get_or blocks z [])
    kept_ids z lt = ap (map (λ (p : Payment). p.id)) (h.theirs z lt) ∙ like_ids (get_or blocks z []) (in_flat blocks z lt)
      where
        like_ids : (here : List Transaction) → ((x : Transaction) → IsIn here x → IsIn (flat blocks) x)
            → map (λ (p : Payment). p.id) (map (λ (t : Transaction). payment_of (first_like (flat blocks) t)) here) ≡ map id_of here
        like_ids [] sub = refl
        like_ids (t ∷ here) sub =
            ap (λ (i : ℕ). i ∷ map (λ (p : Payment). p.id) (map (λ (t : Transaction). payment_of (first_like (flat blocks) t)) here)) (found_in (flat blocks) t (sub t (inl refl))).1
            ∙ ap (λ (l : List ℕ). id_of t ∷ l) (like_ids here (λ x there. sub x (inr there)))

    before : CarriesPartly blocks (flat blocks) [] k
    before = record {
      count = h.count;
      ids = h.ids;
      found = h.found;
      there = λ n lt. in_from_contains (flat blocks) (tx_at k n) (h.there n lt);
      theirs = kept_ids;
      last = ap (λ (l : List Carrier). map (λ (p : Payment). p.id) (map (λ (q : Carrier). payment_of (tx_at k q.tx)) l)) (none_here k.rows k.blocks is.blocks);
    }

    after : CarriesPartly blocks (flat blocks ++ ts) ts (with_carriers table k ts)
    after = partly_all table blocks (flat blocks) [] k ts is.linked before

    found : (id : ℕ) → find (has_id id) (with_carriers table k ts).txs ≡ find (has_id id) (flat (blocks ++ ts ∷ []))
    found id = after.found id ∙ ap (find (has_id id)) (sym (flat_push blocks ts))

    ids_at : (z : ℕ) → z < length (blocks ++ ts ∷ []) → ids_in (with_carriers table k ts) z ≡ map id_of (get_or (blocks ++ ts ∷ []) z [])
    ids_at z lt =
        elim (cases_lt z (length blocks)) [
          | inl less ↦ after.theirs z less ∙ ap (map id_of) (sym (get_or_append_left blocks (ts ∷ []) [] z less))
          | inr ge ↦ (let last : length blocks ≡ z = omega (arith, lt, ge, length-append blocks (ts ∷ [])) in
              ap (ids_in (with_carriers table k ts)) (sym last ∙ sym after.count) ∙ after.last
              ∙ ap (map id_of) (sym (get_or-append_seam blocks ts [] []) ∙ ap (λ (m : ℕ). get_or (blocks ++ ts ∷ []) m []) last))
        ]
