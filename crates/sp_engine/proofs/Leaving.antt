-- The names of what is left under a lock: the same, whatever order the accepted transactions stand in.
use Rattle.std.proofs.Common.{◌≡◌, ℕ, eqb, not, List, [], ◌∷◌, ◌++◌, map, IsPermutation, inl, inr, refl, sym, ap, subst, ◌∙◌}
use Rattle.std.specs.Prelude.{filter, flat_map}
use Rattle.std.proofs.lemmas.Bool.{false≢true, false_from_ne_true, not-true, not_from_false}
use Rattle.std.proofs.lemmas.List.Sorted.{IsPermutation-cons, IsPermutation-middle, IsPermutation-refl, IsPermutation-sym, IsPermutation-trans}
use Rattle.sp_ids.specs.declared.outpoint.Outpoint.{Outpoint}
use Rattle.sp_block.specs.Block.{ReadBlock}
use Rattle.sp_model.specs.declared.profile.Profile.{Profile}
use Rattle.sp_pool.specs.Kept.{AreApart, present}
use Rattle.sp_carry.specs.Payment.{Payment, spends}
use Rattle.sp_carry.specs.Ledger.{accepted_carriers, carried, IsPlain}
use Rattle.sp_carry.specs.Money.{accepted_txs, Coin, coins, is_spent, unspent}
use Rattle.sp_carry.proofs.Coins.{same_outpoint_from}
use Rattle.sp_carry.proofs.Grants.{firsts_ids}
use Rattle.sp_carry.proofs.Members.{any_of_member, contains_from_in, in_append, in_append_left, in_append_right, in_filter, in_filter_from, in_flat_map, in_flat_map_from, in_map, in_map_from, IsIn, member_of_any}
use Rattle.sp_carry.proofs.Sums.{Pairwise, pairwise-filter}
use Rattle.sp_money.specs.Names.{names_under}
use Rattle.sp_engine.specs.Transactions.{ledger_by_id, ledger_of}
use Rattle.sp_engine.proofs.ByIds.{acceptance_agrees}
use Rattle.sp_engine.proofs.NamedCoins.{Apart, Ids, unspent_apart}
use Rattle.sp_engine.proofs.NamedOutputs.{carried_own}
use Rattle.sp_engine.proofs.SameBalances.{carried_accepted, id_accepted, is_among_accepted}

-- ---- lists of different members

abbrev AreDifferent : {A : Type 0} → List A → Type 0
AreDifferent xs = Pairwise (λ x y. x ≡ y → ⊥) xs

split_at : {A : Type 0} (xs : List A) (x : A) → IsIn xs x → (front back : List A) × (xs ≡ front ++ x ∷ back)
split_at [] x there = absurd there
split_at {A} (y ∷ ys) x there =
    elim there [
      | inl same ↦ ([], ys, ap (λ (z : A). z ∷ ys) same)
      | inr later ↦ (let r = split_at ys x later in (y ∷ r.0, r.1, ap (λ (l : List A). y ∷ l) r.2))
    ]

without_middle : {A : Type 0} (R : A → A → Type 0) (front back : List A) (x : A) → Pairwise R (front ++ x ∷ back) → Pairwise R (front ++ back)
without_middle R [] back x h = h.1
without_middle {A} R (y ∷ ys) back x h = (λ z there. h.0 z (around z there), without_middle R ys back x h.1)
  where
    around : (z : A) → IsIn (ys ++ back) z → IsIn (ys ++ x ∷ back) z
    around z there = elim (in_append ys back z there) [ inl a ↦ in_append_left ys (x ∷ back) z a | inr b ↦ in_append_right ys (x ∷ back) z (inr b) ]

middle_differs : {A : Type 0} (front back : List A) (x z : A) → AreDifferent (front ++ x ∷ back) → IsIn (front ++ back) z → x ≡ z → ⊥
middle_differs [] back x z h there same = h.0 z there same
middle_differs (y ∷ ys) back x z h there same =
    elim there [
      | inl here ↦ h.0 x (in_append_right ys (x ∷ back) x (inl refl)) (here ∙ sym same)
      | inr later ↦ middle_differs ys back x z h.1 later same
    ]

-- two lists of the same members, each of them once
pub permuted : {A : Type 0} (xs ys : List A) → AreDifferent xs → AreDifferent ys → ((z : A) → IsIn xs z → IsIn ys z) → ((z : A) → IsIn ys z → IsIn xs z) → IsPermutation xs ys
permuted [] [] once once' into back = IsPermutation-refl []
permuted [] (y ∷ ys) once once' into back = absurd (back y (inl refl))
permuted {A} (x ∷ xs) ys once once' into back =
    let parts = split_at ys x (into x (inl refl)) in
    let front = parts.0 in
    let behind = parts.1 in
    let apart : AreDifferent (front ++ x ∷ behind) = subst (λ (l : List A). AreDifferent l) parts.2 once' in
    subst (λ (l : List A). IsPermutation (x ∷ xs) l) (sym parts.2)
    (IsPermutation-trans (x ∷ xs) (x ∷ (front ++ behind)) (front ++ x ∷ behind)
    (IsPermutation-cons x xs (front ++ behind)
    (permuted xs (front ++ behind) once.1 (without_middle (λ a b. a ≡ b → ⊥) front behind x apart)
    (λ z there. rest front behind z (once.0 z there) (subst (λ (l : List A). IsIn l z) parts.2 (into z (inr there))))
    (λ z there. elim (back z (subst (λ (l : List A). IsIn l z) (sym parts.2) (around front behind z there))) [
      | inl same ↦ absurd (middle_differs front behind x z apart there same)
      | inr later ↦ later
    ])))
    (IsPermutation-sym (front ++ x ∷ behind) (x ∷ (front ++ behind)) (IsPermutation-middle front x behind)))
  where
    rest : (front behind : List A) (z : A) → (x ≡ z → ⊥) → IsIn (front ++ x ∷ behind) z → IsIn (front ++ behind) z
    rest front behind z other there =
        elim (in_append front (x ∷ behind) z there) [
          | inl a ↦ in_append_left front behind z a
          | inr b ↦ elim b [ inl same ↦ absurd (other same) | inr later ↦ in_append_right front behind z later ]
        ]

    around : (front behind : List A) (z : A) → IsIn (front ++ behind) z → IsIn (front ++ x ∷ behind) z
    around front behind z there =
        elim (in_append front behind z there) [ inl a ↦ in_append_left front (x ∷ behind) z a | inr b ↦ in_append_right front (x ∷ behind) z (inr b) ]

-- ---- names

named_apart : (cs : List Coin) → Pairwise Apart cs → AreDifferent (map (λ (c : Coin). c.name) cs)
named_apart [] h = tt
named_apart (c ∷ cs) h = (
  λ name there same. (let d = in_map (λ (c : Coin). c.name) cs name there in
      false≢true (sym (h.0 d.0 d.1) ∙ same_outpoint_from c.name d.0.name (ap (λ (o : Outpoint). o.tx) (same ∙ sym d.2)) (ap (λ (o : Outpoint). o.index) (same ∙ sym d.2)))),
  named_apart cs h.1,
)

pub unspent_into : (xs ys : List Payment) → ((t : Payment) → IsIn xs t → IsIn ys t) → ((t : Payment) → IsIn ys t → IsIn xs t)
    → (c : Coin) → IsIn (unspent xs) c → IsIn (unspent ys) c
unspent_into xs ys into back c there =
    let m = in_filter (λ c. not (is_spent xs c)) (flat_map coins xs) c there in
    let t = in_flat_map coins xs c m.0 in
    in_filter_from (λ c. not (is_spent ys c)) (flat_map coins ys) c (in_flat_map_from coins ys t.0 c (into t.0 t.1) t.2)
    (not_from_false (is_spent ys c)
    (false_from_ne_true (is_spent ys c)
    (λ h. (let r = member_of_any (λ t. spends t c.name) ys h in
    false≢true (sym (not-true (is_spent xs c) m.1) ∙ any_of_member (λ t. spends t c.name) xs r.0 (back r.0 r.1) r.2)))))

names_into : (xs ys : List Payment) (lock : ℕ) → ((t : Payment) → IsIn xs t → IsIn ys t) → ((t : Payment) → IsIn ys t → IsIn xs t)
    → (name : Outpoint) → IsIn (names_under xs lock) name → IsIn (names_under ys lock) name
names_into xs ys lock into back name there =
    let c = in_map (λ (c : Coin). c.name) (filter (λ (c : Coin). eqb c.lock lock) (unspent xs)) name there in
    let m = in_filter (λ (c : Coin). eqb c.lock lock) (unspent xs) c.0 c.1 in
    subst (λ (n : Outpoint). IsIn (names_under ys lock) n) c.2
    (in_map_from (λ (c : Coin). c.name) (filter (λ (c : Coin). eqb c.lock lock) (unspent ys)) c.0
    (in_filter_from (λ (c : Coin). eqb c.lock lock) (unspent ys) c.0 (unspent_into xs ys into back c.0 m.0) m.1))

names_different : (xs : List Payment) (lock : ℕ) → Pairwise Ids xs → AreDifferent (names_under xs lock)
names_different xs lock ids =
    named_apart (filter (λ (c : Coin). eqb c.lock lock) (unspent xs)) (pairwise-filter Apart (λ (c : Coin). eqb c.lock lock) (unspent xs) (unspent_apart xs ids))

pub names_permuted : (xs ys : List Payment) (lock : ℕ) → Pairwise Ids xs → Pairwise Ids ys → ((t : Payment) → IsIn xs t → IsIn ys t) → ((t : Payment) → IsIn ys t → IsIn xs t)
    → IsPermutation (names_under xs lock) (names_under ys lock)
names_permuted xs ys lock ids ids' into back =
    permuted (names_under xs lock) (names_under ys lock) (names_different xs lock ids) (names_different ys lock ids') (names_into xs ys lock into back) (names_into ys xs lock back into)

-- ---- where each transaction has an id of its own

module _ (profile : Profile) (kept : List ReadBlock) (apart : AreApart kept) (plain : IsPlain (ledger_of profile kept) (present kept)) where
  one : (t u : Payment) → IsIn (carried (ledger_of profile kept) (present kept)) t → IsIn (carried (ledger_of profile kept) (present kept)) u → u.id ≡ t.id → u ≡ t
  one t u in_t in_u same =
      plain u t (contains_from_in (carried (ledger_of profile kept) (present kept)) u in_u) (contains_from_in (carried (ledger_of profile kept) (present kept)) t in_t) same

  as_own : (t : Payment) → IsIn (carried (ledger_by_id profile kept) (present kept)) t → IsIn (carried (ledger_of profile kept) (present kept)) t
  as_own t there = subst (λ (ts : List Payment). IsIn ts t) (carried_own profile kept apart plain) there

  pub accepted_own : (t : Payment) → IsIn (accepted_txs (ledger_by_id profile kept) (present kept)) t → IsIn (accepted_txs (ledger_of profile kept) (present kept)) t
  accepted_own t there =
      is_among_accepted (ledger_of profile kept) (present kept) t (sym (acceptance_agrees profile kept apart plain t.id) ∙ id_accepted (ledger_by_id profile kept) (present kept) t there)
      (λ u in_u same. one t u (as_own t (carried_accepted (ledger_by_id profile kept) (present kept) t there)) in_u same)

  pub accepted_by_id : (t : Payment) → IsIn (accepted_txs (ledger_of profile kept) (present kept)) t → IsIn (accepted_txs (ledger_by_id profile kept) (present kept)) t
  accepted_by_id t there =
      is_among_accepted (ledger_by_id profile kept) (present kept) t (acceptance_agrees profile kept apart plain t.id ∙ id_accepted (ledger_of profile kept) (present kept) t there)
      (λ u in_u same. one t u (carried_accepted (ledger_of profile kept) (present kept) t there) (as_own u in_u) same)

  pub names_own : (lock : ℕ) → IsPermutation (names_under (accepted_txs (ledger_of profile kept) (present kept)) lock) (names_under (accepted_txs (ledger_by_id profile kept) (present kept)) lock)
  names_own lock =
      names_permuted (accepted_txs (ledger_of profile kept) (present kept)) (accepted_txs (ledger_by_id profile kept) (present kept)) lock
      (firsts_ids (accepted_carriers (ledger_of profile kept) (present kept))) (firsts_ids (accepted_carriers (ledger_by_id profile kept) (present kept))) accepted_by_id accepted_own
