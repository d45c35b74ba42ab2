-- Judged parts meet the rules of a transaction.
use Rattle.std.proofs.Common.{◌≡◌, ◌≤◌, ◌<◌, ◌+◌, ◌^◌, suc, ℕ, true, false, List, [], ◌∷◌, length, map, Option, Some, None, Ok, Err, All, inl, inr, refl, sym, ap, ◌∙◌, arith}
use Rattle.std.specs.List.{AllByRecursion, filter, sum_by}
use Rattle.std.specs.List.Sorted.{ties}
use Rattle.std.specs.Ordering.{is_lt}
use Rattle.std.proofs.lemmas.Bool.{cases_Bool}
use Rattle.std.proofs.lemmas.Bool.Decides.{nat_tests}
use Rattle.std.proofs.lemmas.List.Elements.{All-head, All-tail}
use Rattle.std.proofs.lemmas.List.Sorted.{All-permutation, length_permutation}
use Rattle.std.proofs.lemmas.List.Sums.{sum_by-cons}
use Rattle.sp_form.specs.Reading.{Answers}
use Rattle.sp_form.specs.Turns.{InTurn}
use Rattle.sp_form.specs.declared.fault.ReadFault.{ReadFault}
use Rattle.sp_form.specs.declared.fault.ReadFault.TheVariants.{Fault, Memory}
use Rattle.sp_ids.specs.declared.outpoint.Outpoint.{Outpoint}
use Rattle.sp_tx.specs.declared.parts.Input.{Input}
use Rattle.sp_tx.specs.declared.parts.Output.{Output}
use Rattle.sp_tx.specs.declared.fault.TxFault.{TxFault}
use Rattle.sp_tx.specs.Format.{last_outpoint, sum_so_far}
use Rattle.sp_ids.specs.Outpoints.{outpoint_cmp}
use Rattle.sp_tx.specs.Parts.{is_next, of_parts, Transaction}
use Rattle.sp_tx.specs.Sorting.{IsSortOf}
use Rattle.sp_tx.specs.Spelling.{IsInput, IsOutput, IsTx}
use Rattle.sp_ids.specs.Outpoints.{same_outpoint}
use Rattle.sp_play.specs.Judging.{is_spent, output_of}
use Rattle.sp_play.specs.Spent.{AreApart, AreInputs, ArePaid, IsJudged}
use Rattle.sp_play.specs.declared.paid.Paid.{Paid}
use Rattle.sp_play.proofs.Apart.{neither}
use Rattle.sp_tx.proofs.Sorts.{before, ranked, Rises, rises}
use Rattle.sp_play.proofs.Sorting.{both_parts}

-- outpoints of which neither is below the other are the same
tied_same : (a b : Outpoint) → is_lt (outpoint_cmp a b) ≡ false → is_lt (outpoint_cmp b a) ≡ false → same_outpoint a b ≡ true
tied_same a b h k = grind (arith, nat_tests)

-- among inputs apart from one, none ties with what that one ties with
none_tie : (z x : Input) (xs : List Input) → ties before z x ≡ true → is_spent xs x.from ≡ false → filter (ties before z) xs ≡ []
none_tie z x [] t h = refl
none_tie z x (y ∷ ys) t h =
    let parts = neither (same_outpoint y.from x.from) (is_spent ys x.from) h in
    let of_x = both_parts (before z x) (before x z) t in
    elim (cases_Bool (ties before z y)) [
      | inl u ↦ absurd (
          let of_y = both_parts (before z y) (before y z) u in
          let same = tied_same y.from x.from (ranked.chain y z x of_y.1 of_x.0) (ranked.chain x z y of_x.1 of_y.0) in
          let no : true ≡ false = sym same ∙ parts.0 in cc)
      | inr u ↦ rw u (none_tie z x ys t parts.1)
    ]

-- so at most one ties with any
pub one_tie : (z : Input) (xs : List Input) → AreApart xs → length (filter (ties before z) xs) ≤ 1
one_tie z [] h = omega arith
one_tie z (x ∷ xs) h = elim (cases_Bool (ties before z x)) [
  | inl t ↦ rw (t, none_tie z x xs t h.0) (omega arith)
  | inr t ↦ rw t (one_tie z xs h.1)
]

-- an input ties with itself
ties_itself : (x : Input) → ties before x x ≡ true
ties_itself x = elim (cases_Bool (before x x)) [
  | inl e ↦ absurd (let no : true ≡ false = sym e ∙ ranked.one_way x x e in cc)
  | inr e ↦ rw e refl
]

abbrev FewTies : List Input → Type 0
FewTies xs = (z : Input) → length (filter (ties before z) xs) ≤ 1

few_behind : (x : Input) (xs : List Input) → FewTies (x ∷ xs) → FewTies xs
few_behind x xs few z = elim (cases_Bool (ties before z x)) [
  | inl t ↦ (let h : length (x ∷ filter (ties before z) xs) ≤ 1 = rw t at (few z) in omega (arith, h))
  | inr t ↦ rw t at (few z)
]

-- the next of two in order is above the one before
next_above : (x y : Input) (ys : List Input) → before y x ≡ false → FewTies (x ∷ y ∷ ys) → before x y ≡ true
next_above x y ys le few = elim (cases_Bool (before x y)) [
  | inl e ↦ e
  | inr e ↦ absurd (
      let ty : ties before x y ≡ true = rw (e, le) refl in
      let two : length (x ∷ y ∷ filter (ties before x) ys) ≤ 1 = rw (ties_itself x, ty) at (few x) in
      omega (arith, two))
]

-- the first of them, if there is one, is above what stood before
abbrev StartsAbove : Option Outpoint → List Input → Type 0
StartsAbove last [] = Unit {0}
StartsAbove last (x ∷ xs) = is_next last x.from ≡ true

starts_above : (x : Input) (xs : List Input) → AllByRecursion (λ y. before y x ≡ false) xs → FewTies (x ∷ xs) → StartsAbove (Some x.from) xs
starts_above x [] up few = tt
starts_above x (y ∷ ys) up few = next_above x y ys up.0 few

in_turn : (last : Option Outpoint) (xs : List Input) → Rises before ranked xs → FewTies xs → All IsJudged xs → StartsAbove last xs → InTurn IsInput last_outpoint last xs
in_turn last [] up few judged above = tt
in_turn last (x ∷ xs) up few judged above =
    let one = All-head IsJudged x xs judged in
    let here : IsInput last x = record { id = one.id; order = above; some_preimage = one.some; short_preimage = one.short } in
    (here, in_turn (Some x.from) xs up.1 (few_behind x xs few) (All-tail IsJudged x xs judged) (starts_above x xs up.0 few))

starts_free : (xs : List Input) → StartsAbove None xs
starts_free [] = tt
starts_free (x ∷ xs) = refl

-- the amounts of judged parts in turn
outputs_in_turn : (sum : ℕ) (paid : List Paid) → All (λ (one : Paid). 1 ≤ one.amount) paid → sum + sum_by (λ (one : Paid). one.amount) paid < 2 ^ 63 → All (λ (o : Output). o.lock < 2 ^ 256) (map output_of paid) → InTurn IsOutput sum_so_far sum (map output_of paid)
outputs_in_turn sum [] some few locks = tt
outputs_in_turn sum (one ∷ paid) some few locks =
    let total = sum_by-cons (λ (one : Paid). one.amount) one paid in
    let here : IsOutput sum (output_of one) = record {
      amount = All-head (λ (one : Paid). 1 ≤ one.amount) one paid some;
      sum = omega (arith, total, few);
      lock = All-head (λ (o : Output). o.lock < 2 ^ 256) (output_of one) (map output_of paid) locks;
    } in
    (here, outputs_in_turn (sum + one.amount) paid (All-tail (λ (one : Paid). 1 ≤ one.amount) one paid some) (omega (arith, total, few)) (All-tail (λ (o : Output). o.lock < 2 ^ 256) (output_of one) (map output_of paid) locks))

length_outputs : (paid : List Paid) → length (map output_of paid) ≡ length paid
length_outputs [] = refl
length_outputs (one ∷ paid) = ap suc (length_outputs paid)

-- judged parts, sorted, meet the rules
pub judged_tx : (inputs sorted : List Input) (paid : List Paid) → AreInputs inputs → ArePaid paid → IsSortOf inputs sorted → All (λ (o : Output). o.lock < 2 ^ 256) (map output_of paid) → IsTx (of_parts sorted (map output_of paid))
judged_tx inputs sorted paid are pays sort locks =
    let same = length_permutation inputs sorted sort.permutation in
    let few : FewTies sorted = λ z. rw (sort.stable z) (one_tie z inputs are.apart) in
    let many = length_outputs paid in
    record {
      few_inputs = omega (arith, same, are.few);
      inputs = in_turn None sorted (rises before ranked sorted sort.in_order) few (All-permutation IsJudged inputs sorted sort.permutation are.judged) (starts_free sorted);
      some_outputs = omega (arith, many, pays.right.some);
      few_outputs = omega (arith, many, pays.right.few);
      outputs = outputs_in_turn 0 paid pays.right.amounts (omega (arith, pays.sum)) locks;
    }

-- so want of memory is the one refusal
pub no_fault : (t : Transaction) (e : ReadFault TxFault) (fault : TxFault) → e ≡ Fault fault → Answers {E = TxFault} {X = Transaction} (Err e) (Ok t) → ⊥
no_fault t Memory fault is e = cc
no_fault t (Fault other) fault is e = cc
