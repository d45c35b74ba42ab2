-- Locks that have the numbers of their first places: those of the first slots are the first ones.
use Rattle.std.proofs.Common.{◌≡◌, ℕ, zero, suc, ◌+◌, ◌<◌, ◌≤◌, Bool, true, false, cond, ◌||◌, List, [], ◌∷◌, ◌++◌, length, take, drop, get_or, eqb, refl, sym, ap, ◌∙◌, inl, inr, arith, subst, append_assoc, append-nil, length-append}
use Rattle.std.specs.Prelude.{All, fold, slice_index}
use Rattle.std.proofs.lemmas.Bool.{cases_eq, cases_lt, eq-eqb, eqb-true, false≢true, false_from_ne_true, or_left, or_right}
use Rattle.std.proofs.lemmas.List.{get_or-take, length-take-le, take_more, take-append-drop, map-append}
use Rattle.std.proofs.lemmas.List.Elements.{All-push}
use Rattle.std.proofs.lemmas.List.Sums.{fold-append}
use Rattle.std.proofs.Math.ListN.{get_or-append}
use Rattle.std.proofs.Math.Seq.{get_or-append_seam}
use Rattle.sp_model.specs.Graph.{AreDistinct, has}
use Rattle.sp_money.specs.declared.slot.Slot.{Slot}
use Rattle.sp_money.specs.Locks.{each_once, locks_in, with_id, AreNumbered}

-- ---- distinct numbers

has_at : (xs : List ℕ) (i : ℕ) → i < length xs → has xs (get_or xs i 0) ≡ true
has_at [] i lt = absurd (omega arith)
has_at (x ∷ xs) zero lt = or_left (eqb x x) (has xs x) (eq-eqb x x refl)
has_at (x ∷ xs) (suc i) lt = or_right (eqb x (get_or xs i 0)) (has xs (get_or xs i 0)) (has_at xs i (omega arith))

apart : (xs : List ℕ) (i j : ℕ) → AreDistinct xs → i < j → j < length xs → get_or xs i 0 ≡ get_or xs j 0 → ⊥
apart [] i j h lt le same = omega arith
apart (x ∷ xs) i zero h lt le same = omega arith
apart (x ∷ xs) zero (suc j) h lt le same = false≢true (sym h.0 ∙ ap (has xs) same ∙ has_at xs j (omega arith))
apart (x ∷ xs) (suc i) (suc j) h lt le same = apart xs i j h.1 (omega arith) (omega arith) same

found_at : (xs : List ℕ) (k : ℕ) → has xs k ≡ true → (i : ℕ) × (i < length xs) × (get_or xs i 0 ≡ k)
found_at [] k h = absurd (false≢true h)
found_at (x ∷ xs) k h = at (eqb x k) refl h (found_at xs k)
  where
    at : (c : Bool) → eqb x k ≡ c → (c || has xs k) ≡ true → (has xs k ≡ true → (i : ℕ) × (i < length xs) × (get_or xs i 0 ≡ k))
        → (i : ℕ) × (i < length (x ∷ xs)) × (get_or (x ∷ xs) i 0 ≡ k)
    at true e h more = (0, omega arith, eqb-true x k e)
    at false e h more = (let rest = more h in (suc rest.0, (let lt = rest.1 in omega (arith, lt)), rest.2))

-- whether one of them is among the first
has_front : (xs : List ℕ) (n m : ℕ) → m < n → n ≤ length xs → has (take n xs) (get_or xs m 0) ≡ true
has_front xs n m lt le =
    (let long : length (take n xs) ≡ n = length-take-le n xs le in
    ap (has (take n xs)) (sym (get_or-take n xs m 0 lt)) ∙ has_at (take n xs) m (omega (arith, lt, long)))

has_not : (xs : List ℕ) (n m : ℕ) → AreDistinct xs → n ≤ m → m < length xs → has (take n xs) (get_or xs m 0) ≡ false
has_not xs n m h le lt =
    false_from_ne_true (has (take n xs) (get_or xs m 0))
    (λ there. let found = found_at (take n xs) (get_or xs m 0) there in
    let long : length (take n xs) ≡ n = length-take-le n xs (omega (arith, le, lt)) in
    let low : found.0 < n = (let inside = found.1 in omega (arith, inside, long)) in
    apart xs found.0 m h (omega (arith, low, le)) lt (sym (get_or-take n xs found.0 0 low) ∙ found.2))

-- ---- more locks stand behind

behind : (xs ys : List ℕ) → (zs : List ℕ) × (fold with_id xs ys ≡ xs ++ zs)
behind xs [] = ([], sym (append-nil xs))
behind xs (y ∷ ys) = at (has xs y) (behind xs ys) (behind (xs ++ y ∷ []) ys)
  where
    at : (c : Bool) → (zs : List ℕ) × (fold with_id xs ys ≡ xs ++ zs) → (zs : List ℕ) × (fold with_id (xs ++ y ∷ []) ys ≡ (xs ++ y ∷ []) ++ zs)
        → (zs : List ℕ) × (fold with_id (cond c xs (xs ++ y ∷ [])) ys ≡ xs ++ zs)
    at true old new = old
    at false old new = (y ∷ new.0, new.1 ∙ append_assoc xs (y ∷ []) new.0)

pub record AreFirst (locks : List ℕ) (slots : List Slot) (count : ℕ) : Type 0 where
  pub few : count ≤ length slots
  pub within : count ≤ length locks
  pub known : All (λ (s : Slot). s.lock < count) slots
  pub are : take count locks ≡ each_once (locks_in locks slots)

pub AreFirst-none : (locks : List ℕ) → AreFirst locks [] 0
AreFirst-none locks = record { few = omega arith; within = omega arith; known = λ k d lt. absurd (omega arith); are = refl }

module _ (locks : List ℕ) (front more : List Slot) (s : Slot) (count : ℕ) (h : AreNumbered locks (front ++ s ∷ more)) (first : AreFirst locks front count) where
  known : s.lock < length locks
  known =
      (let at : (get_or (front ++ s ∷ more) (length front) s).lock < length locks = h.known (length front) s (omega (arith, length-append front (s ∷ more))) in
      subst (λ (x : Slot). x.lock < length locks) (get_or-append_seam front s more s) at)

  abbrev own : ℕ
  own = get_or locks s.lock 0

  next : each_once (locks_in locks (front ++ s ∷ [])) ≡ with_id (take count locks) own
  next =
      ap each_once (map-append (λ (x : Slot). slice_index locks x.lock) front (s ∷ []))
      ∙ fold-append with_id [] (locks_in locks front) (own ∷ []) ∙ ap (λ (l : List ℕ). with_id l own) (sym first.are)

  -- the locks of the slots so far stand first
  prefix : (zs : List ℕ) × (locks ≡ with_id (take count locks) own ++ zs)
  prefix =
      let rest = behind (with_id (take count locks) own) (locks_in locks more) in (
        rest.0,
        h.are
            ∙ ap each_once (map-append (λ (x : Slot). slice_index locks x.lock) front (s ∷ more))
            ∙ fold-append with_id [] (locks_in locks front) (own ∷ locks_in locks more)
            ∙ ap (λ (l : List ℕ). fold with_id (with_id l own) (locks_in locks more)) (sym first.are) ∙ rest.1,
      )

  -- the next number is a new lock's
  pub first_new : s.lock ≡ count → AreFirst locks (front ++ s ∷ []) (count + 1)
  first_new same =
      let fresh : has (take count locks) own ≡ false = has_not locks count s.lock h.once (omega (arith, same)) known in
      record {
        few = (let few = first.few in omega (arith, few, length-append front (s ∷ [])));
        within = omega (arith, known, same);
        known = All-push (λ (x : Slot). x.lock < count + 1) front s (λ k d lt. (let low : (get_or front k d).lock < count = first.known k d lt in omega (arith, low))) (omega (arith, same));
        are =
            take_more locks count 0 (omega (arith, known, same))
            ∙ ap (λ (k : ℕ). take count locks ++ get_or locks k 0 ∷ []) (sym same)
            ∙ sym (next ∙ ap (λ (c : Bool). cond c (take count locks) (take count locks ++ own ∷ [])) fresh);
      }

  -- any other number is one that was there
  pub first_known : (s.lock ≡ count → ⊥) → AreFirst locks (front ++ s ∷ []) count
  first_known other =
      record {
        few = (let few = first.few in omega (arith, few, length-append front (s ∷ [])));
        within = first.within;
        known = All-push (λ (x : Slot). x.lock < count) front s first.known low;
        are = sym (next ∙ ap (λ (c : Bool). cond c (take count locks) (take count locks ++ own ∷ [])) (has_front locks count s.lock low first.within));
      }
    where
      low : s.lock < count
      low =
          elim (cases_lt s.lock count) [
            | inl less ↦ less
            | inr le ↦ (let fresh : has (take count locks) own ≡ false = has_not locks count s.lock h.once le known in
                let split : locks ≡ (take count locks ++ own ∷ []) ++ prefix.0 =
                prefix.1 ∙ ap (λ (c : Bool). cond c (take count locks) (take count locks ++ own ∷ []) ++ prefix.0) fresh in
                let long : length (take count locks) ≡ count = length-take-le count locks first.within in
                let at : get_or locks count 0 ≡ own =
                ap (λ (l : List ℕ). get_or l count 0) split
                ∙ get_or-append (take count locks ++ own ∷ []) prefix.0 0 count (omega (arith, long, length-append (take count locks) (own ∷ [])))
                ∙ ap (λ (k : ℕ). get_or (take count locks ++ own ∷ []) k 0) (sym long) ∙ get_or-append_seam (take count locks) own [] 0 in
                absurd (apart locks count s.lock h.once (elim (cases_lt count s.lock) [ inl less ↦ less | inr ge ↦ absurd (other (omega (arith, ge, le))) ]) known at))
          ]

  pub first_more : (next : ℕ) × AreFirst locks (front ++ s ∷ []) next
  first_more =
      elim (cases_eq s.lock count) [
        | inl same ↦ (count + 1, first_new same)
        | inr other ↦ (count, first_known other)
      ]

-- so it goes on with more slots
more_first : (locks : List ℕ) (front more rest : List Slot) (count : ℕ) → AreNumbered locks (front ++ (more ++ rest)) → AreFirst locks front count
    → (next : ℕ) × AreFirst locks (front ++ more) next
more_first locks front [] rest count h first = (count, subst (λ (l : List Slot). AreFirst locks l count) (sym (append-nil front)) first)
more_first locks front (s ∷ more) rest count h first =
    let one = first_more locks front (more ++ rest) s count h first in
    let all = more_first locks (front ++ s ∷ []) more rest one.0 (subst (λ (l : List Slot). AreNumbered locks l) (sym (append_assoc front (s ∷ []) (more ++ rest))) h) one.1 in
    (all.0, subst (λ (l : List Slot). AreFirst locks l all.0) (append_assoc front (s ∷ []) more) all.1)

-- of the first of some slots
pub first_slots : (locks : List ℕ) (slots : List Slot) (n : ℕ) → AreNumbered locks slots → (count : ℕ) × AreFirst locks (take n slots) count
first_slots locks slots n h =
    more_first locks [] (take n slots) (drop n slots) 0 (subst (λ (l : List Slot). AreNumbered locks l) (sym (take-append-drop n slots)) h) (AreFirst-none locks)
