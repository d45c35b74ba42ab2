-- The first transaction of an id in a list, and the payments that are named by ids.
use Rattle.std.proofs.Common.{◌≡◌, ◌⊎◌, ℕ, zero, suc, Bool, true, false, cond, eqb, ◌<◌, List, [], ◌∷◌, ◌++◌, length, map, get_or, Option, Some, None, refl, sym, ap, ◌∙◌, arith, subst, inl, inr}
use Rattle.std.specs.Prelude.{filter, flat_map, unwrap_or, Contains}
use Rattle.std.specs.List.{find}
use Rattle.std.proofs.lemmas.Bool.{eqb-true, eq-eqb, false≢true, ne_eqb}
use Rattle.sp_model.specs.Graph.{AreDistinct}
use Rattle.sp_tx.specs.Parts.{Transaction, of_parts}
use Rattle.sp_tx.specs.Spending.{id_of}
use Rattle.sp_carry.specs.declared.carrier.Carrier.{Carrier}
use Rattle.sp_carry.specs.Payment.{Payment, payment_of}
use Rattle.sp_carry.specs.Carried.{AreLinked, ArePlain, Carried, first_like, payments_in, tx_at}
use Rattle.sp_carry.proofs.Members.{IsIn, any_of_member, contains_from_in, in_filter, in_from_contains, in_map, in_map_from, list_in, member_meets}

-- whether a transaction has the id
abbrev pub has_id : ℕ → Transaction → Bool
has_id id t = eqb (id_of t) id

-- ---- one more at the end

abbrev or_last : Transaction → Bool → Option Transaction → Option Transaction
or_last t c None = cond c (Some t) None
or_last t c (Some x) = Some x

find_push : (p : Transaction → Bool) (ts : List Transaction) (t : Transaction) → find p (ts ++ t ∷ []) ≡ or_last t (p t) (find p ts)
find_push p [] t = refl
find_push p (x ∷ xs) t = at (p x) (find_push p xs t)
  where
    at : (c : Bool) → find p (xs ++ t ∷ []) ≡ or_last t (p t) (find p xs) → cond c (Some x) (find p (xs ++ t ∷ [])) ≡ or_last t (p t) (cond c (Some x) (find p xs))
    at true rest = refl
    at false rest = rest

-- two lists in which the same is found, each with one more
pub find_both : (p : Transaction → Bool) (ts us : List Transaction) (t : Transaction) → find p ts ≡ find p us → find p (ts ++ t ∷ []) ≡ find p (us ++ t ∷ [])
find_both p ts us t same = find_push p ts t ∙ ap (or_last t (p t)) same ∙ sym (find_push p us t)

-- what is found stays when one more is added whose id is there
pub find_known : (ts : List Transaction) (t x : Transaction) (id : ℕ) → IsIn ts x → id_of x ≡ id_of t → find (has_id id) (ts ++ t ∷ []) ≡ find (has_id id) ts
find_known ts t x id there same = find_push (has_id id) ts t ∙ at (eqb (id_of t) id) refl
  where
    stays : (us : List Transaction) (c : Bool) → id_of x ≡ id → IsIn us x → or_last t c (find (has_id id) us) ≡ find (has_id id) us
    stays [] c is x_in = absurd x_in
    stays (u ∷ us) c is x_in = chosen (eqb (id_of u) id) refl (stays us c is)
      where
        chosen : (b : Bool) → eqb (id_of u) id ≡ b → (IsIn us x → or_last t c (find (has_id id) us) ≡ find (has_id id) us)
            → or_last t c (cond b (Some u) (find (has_id id) us)) ≡ cond b (Some u) (find (has_id id) us)
        chosen true e rest = refl
        chosen false e rest =
            elim x_in [
              | inl here ↦ absurd (false≢true (sym e ∙ ap (has_id id) here ∙ eq-eqb (id_of x) id is))
              | inr later ↦ rest later
            ]

    nothing : (o : Option Transaction) → or_last t false o ≡ o
    nothing None = refl
    nothing (Some y) = refl

    at : (c : Bool) → eqb (id_of t) id ≡ c → or_last t c (find (has_id id) ts) ≡ find (has_id id) ts
    at true e = stays ts true (same ∙ eqb-true (id_of t) id e) there
    at false e = nothing (find (has_id id) ts)

-- ---- what is found

-- an id that is there is found, whatever stands in for one that isn't
found_free : (ts : List Transaction) (t a b : Transaction) → IsIn ts t → unwrap_or (find (has_id (id_of t)) ts) a ≡ unwrap_or (find (has_id (id_of t)) ts) b
found_free [] t a b there = absurd there
found_free (u ∷ us) t a b there = at (eqb (id_of u) (id_of t)) refl (found_free us t a b)
  where
    at : (c : Bool) → eqb (id_of u) (id_of t) ≡ c → (IsIn us t → unwrap_or (find (has_id (id_of t)) us) a ≡ unwrap_or (find (has_id (id_of t)) us) b)
        → unwrap_or (cond c (Some u) (find (has_id (id_of t)) us)) a ≡ unwrap_or (cond c (Some u) (find (has_id (id_of t)) us)) b
    at true e rest = refl
    at false e rest =
        elim there [
          | inl here ↦ absurd (false≢true (sym e ∙ eq-eqb (id_of u) (id_of t) (ap id_of here)))
          | inr later ↦ rest later
        ]

-- a transaction stands for itself or for one of the others that has its id
pub first_or_self : (ts : List Transaction) (t : Transaction) → (first_like ts t ≡ t) ⊎ (IsIn ts (first_like ts t) × (id_of (first_like ts t) ≡ id_of t))
first_or_self [] t = inl refl
first_or_self (u ∷ us) t = at (eqb (id_of u) (id_of t)) refl (first_or_self us t)
  where
    at : (c : Bool) → eqb (id_of u) (id_of t) ≡ c → (first_like us t ≡ t) ⊎ (IsIn us (first_like us t) × (id_of (first_like us t) ≡ id_of t))
        → (unwrap_or (cond c (Some u) (find (has_id (id_of t)) us)) t ≡ t)
        ⊎ (IsIn (u ∷ us) (unwrap_or (cond c (Some u) (find (has_id (id_of t)) us)) t) × (id_of (unwrap_or (cond c (Some u) (find (has_id (id_of t)) us)) t) ≡ id_of t))
    at true e rest = inr (inl refl, eqb-true (id_of u) (id_of t) e)
    at false e rest = elim rest [ inl self ↦ inl self | inr first ↦ inr (inr first.0, first.1) ]

pub found_in : (ts : List Transaction) (t : Transaction) → IsIn ts t → IsIn ts (first_like ts t) × (id_of (first_like ts t) ≡ id_of t)
found_in ts t there =
    elim (first_or_self ts t) [
      | inl self ↦ (subst (λ (x : Transaction). IsIn ts x) (sym self) there, ap id_of self)
      | inr first ↦ first
    ]

-- where no two transactions of the blocks that have one id are different payments, each is paid as itself
pub first_is_own : (blocks : List (List Transaction)) (t : Transaction) → ArePlain blocks → Contains (flat_map (λ b. b) blocks) t
    → payment_of (first_like (flat_map (λ b. b) blocks) t) ≡ payment_of t
first_is_own blocks t plain there =
    let found : IsIn (flat_map (λ b. b) blocks) (first_like (flat_map (λ b. b) blocks) t) × (id_of (first_like (flat_map (λ b. b) blocks) t) ≡ id_of t) =
    found_in (flat_map (λ b. b) blocks) t (in_from_contains (flat_map (λ b. b) blocks) t there) in
    plain (first_like (flat_map (λ b. b) blocks) t) t (contains_from_in (flat_map (λ b. b) blocks) (first_like (flat_map (λ b. b) blocks) t) found.0) there found.1

-- ---- payments by ids

-- what these transactions have under an id
abbrev pub named : List Transaction → ℕ → Payment
named ts id = payment_of (unwrap_or (find (has_id id) ts) (of_parts [] []))

find_at : (ts : List Transaction) (n : ℕ) → AreDistinct (map id_of ts) → n < length ts
    → find (has_id (id_of (get_or ts n (of_parts [] [])))) ts ≡ Some (get_or ts n (of_parts [] []))
find_at [] n apart lt = absurd (omega (arith, lt))
find_at (t ∷ ts) zero apart lt = ap (λ (c : Bool). cond c (Some t) (find (has_id (id_of t)) ts)) (eq-eqb (id_of t) (id_of t) refl)
find_at (t ∷ ts) (suc n) apart lt =
    ap (λ (c : Bool). cond c (Some t) (find (has_id (id_of (get_or ts n (of_parts [] [])))) ts)) other ∙ find_at ts n apart.1 (omega (arith, lt))
  where
    other : eqb (id_of t) (id_of (get_or ts n (of_parts [] []))) ≡ false
    other = ne_eqb (id_of t) (id_of (get_or ts n (of_parts [] []))) (λ e. false≢true (sym apart.0
        ∙ any_of_member (λ i. eqb i (id_of t)) (map id_of ts) (id_of (get_or ts n (of_parts [] [])))
        (in_map_from id_of ts (get_or ts n (of_parts [] [])) (list_in ts n (of_parts [] []) (omega (arith, lt))))
        (eq-eqb (id_of (get_or ts n (of_parts [] []))) (id_of t) (sym e))))

by_ids : (name : ℕ → Payment) (ps : List Payment) → ((p : Payment) → IsIn ps p → name p.id ≡ p) → ps ≡ map name (map (λ (p : Payment). p.id) ps)
by_ids name [] h = refl
by_ids name (p ∷ ps) h =
    ap (λ (q : Payment). q ∷ ps) (sym (h p (inl refl))) ∙ ap (λ (l : List Payment). name p.id ∷ l) (by_ids name ps (λ q there. h q (inr there)))

-- what a block carries is what the transactions have under the ids that it carries
pub payments_named : (k : Carried) (z : ℕ) → AreLinked k → payments_in k z ≡ map (named k.txs) (map (λ (p : Payment). p.id) (payments_in k z))
payments_named k z linked = by_ids (named k.txs) (payments_in k z) (λ p there.
    let row : (r : Carrier) × IsIn (filter (λ (r : Carrier). eqb r.block z) k.rows) r × (payment_of (tx_at k r.tx) ≡ p) =
    in_map (λ (r : Carrier). payment_of (tx_at k r.tx)) (filter (λ (r : Carrier). eqb r.block z) k.rows) p there in
    let within : row.0.tx < length k.txs =
    member_meets (λ (r : Carrier). r.tx < length k.txs) k.rows row.0 linked.txs (in_filter (λ (r : Carrier). eqb r.block z) k.rows row.0 row.1).0 in
    subst (λ (q : Payment). named k.txs q.id ≡ q) row.2
    (ap (λ (o : Option Transaction). payment_of (unwrap_or o (of_parts [] []))) (find_at k.txs row.0.tx linked.ids within)))

-- the transactions of a block, which are among these, each as the first of its id
pub likes_named : (ts here : List Transaction) → ((x : Transaction) → IsIn here x → IsIn ts x) → map (named ts) (map id_of here) ≡ map (λ t. payment_of (first_like ts t)) here
likes_named ts [] sub = refl
likes_named ts (t ∷ here) sub =
    ap (λ (x : Transaction). payment_of x ∷ map (named ts) (map id_of here)) (found_free ts t (of_parts [] []) t (sub t (inl refl)))
    ∙ ap (λ (l : List Payment). payment_of (first_like ts t) ∷ l) (likes_named ts here (λ x there. sub x (inr there)))

pub named_same : (ts us : List Transaction) (ids : List ℕ) → ((id : ℕ) → find (has_id id) ts ≡ find (has_id id) us) → map (named ts) ids ≡ map (named us) ids
named_same ts us [] same = refl
named_same ts us (id ∷ ids) same =
    ap (λ (o : Option Transaction). payment_of (unwrap_or o (of_parts [] [])) ∷ map (named ts) ids) (same id)
    ∙ ap (λ (l : List Payment). named us id ∷ l) (named_same ts us ids same)
