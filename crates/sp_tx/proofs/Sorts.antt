-- Inputs have one sort: of two lists in order, with ties as the inputs have them, each is the other.
use Rattle.std.proofs.Common.{◌≡◌, suc, ◌+◌, Bool, true, false, cond, List, [], ◌∷◌, Result, Ok, Err, inl, inr, refl, sym, ap, ap₂, subst, ◌∙◌, arith, rules}
use Rattle.std.specs.Prelude.{IfErr, IfOk}
use Rattle.std.specs.Cmp.{IsStrictWeakOrder, IsTotalOrder}
use Rattle.std.specs.Cmp.Rules.{comparing}
use Rattle.std.specs.List.{AllByRecursion, filter}
use Rattle.std.specs.List.Sorted.{IsSortedBy, ties}
use Rattle.std.specs.Ordering.{is_lt}
use Rattle.std.proofs.lemmas.Bool.{cases_Bool}
use Rattle.std.proofs.lemmas.List.{append-nil}
use Rattle.std.proofs.lemmas.List.Sorted.{ranks_by}
use Rattle.sp_form.specs.Form.{Begins}
use Rattle.sp_form.specs.Reading.{Answers, IsCause}
use Rattle.sp_form.specs.declared.fault.ReadFault.{ReadFault}
use Rattle.sp_form.specs.declared.fault.ReadFault.TheVariants.{Fault, Memory}
use Rattle.sp_form.proofs.FormLaws.{apart, one_fault}
use Rattle.sp_form.proofs.Texts.{is_spelled}
use Rattle.sp_tx.specs.declared.parts.Input.{Input}
use Rattle.sp_tx.specs.declared.parts.Output.{Output}
use Rattle.sp_tx.specs.declared.fault.TxFault.{TxFault}
use Rattle.sp_tx.specs.Format.{tx_form}
use Rattle.sp_ids.specs.Outpoints.{outpoint_cmp}
use Rattle.sp_tx.specs.Parts.{of_parts, Transaction}
use Rattle.sp_tx.specs.Sorting.{IsSortOf}
use Rattle.sp_tx.specs.Spelling.{HasPartsFault, HasTxFault, IsMadeOf, IsTx, spelling}
use Rattle.sp_tx.proofs.Spelled.{tx_spelled}

-- ---- lists in order, by any order

module _ {X : Type 0} (lt : X → X → Bool) (o : IsStrictWeakOrder lt) where
  not_itself : (x : X) → lt x x ≡ false
  not_itself x = elim (cases_Bool (lt x x)) [ inl e ↦ o.one_way x x e | inr e ↦ e ]

  -- none is less than one before it
  abbrev pub Rises : List X → Type 0
  Rises [] = Unit {0}
  Rises (x ∷ xs) = AllByRecursion (λ y. lt y x ≡ false) xs × Rises xs

  behind_first : (x : X) (xs : List X) → IsSortedBy lt (x ∷ xs) → IsSortedBy lt xs
  behind_first x xs up = λ k d low high.
      let next : suc k + 1 ≡ suc (k + 1) = omega arith in
      rw next at (up (suc k) d (omega arith) (omega arith))

  none_less : (x y : X) (ys : List X) → lt y x ≡ false → IsSortedBy lt (y ∷ ys) → AllByRecursion (λ z. lt z x ≡ false) (y ∷ ys)
  none_less x y [] h up = (h, tt)
  none_less x y (z ∷ zs) h up = (h, none_less x z zs (o.chain z y x (up 0 y (omega arith) (omega arith)) h) (behind_first y (z ∷ zs) up))

  pub rises : (xs : List X) → IsSortedBy lt xs → Rises xs
  rises [] up = tt
  rises (x ∷ []) up = (tt, tt)
  rises (x ∷ y ∷ ys) up =
      let rest = behind_first x (y ∷ ys) up in
      (none_less x y ys (up 0 x (omega arith) (omega arith)) rest, rises (y ∷ ys) rest)

  -- what is less than the first is less than all
  less_than_all : (x y : X) (ys : List X) → lt x y ≡ true → AllByRecursion (λ z. lt z y ≡ false) ys → AllByRecursion (λ z. lt x z ≡ true) ys
  less_than_all x y [] h above = tt
  less_than_all x y (z ∷ zs) h above = (
    elim (cases_Bool (lt x z)) [ inl e ↦ e | inr e ↦ absurd (let no : false ≡ true = sym (o.chain x z y e above.0) ∙ h in cc) ],
    less_than_all x y zs h above.1,
  )

  no_ties : (x : X) (ys : List X) → AllByRecursion (λ z. lt x z ≡ true) ys → filter (ties lt x) ys ≡ []
  no_ties x [] less = refl
  no_ties x (y ∷ ys) less = rw less.0 (no_ties x ys less.1)

  tied : (x y : X) (ys : List X) → lt x y ≡ false → lt y x ≡ false → filter (ties lt x) (y ∷ ys) ≡ y ∷ filter (ties lt x) ys
  tied x y ys h k = rw (h, k) refl

  itself : (x : X) (xs : List X) → filter (ties lt x) (x ∷ xs) ≡ x ∷ filter (ties lt x) xs
  itself x xs = tied x x xs (not_itself x) (not_itself x)

  heads : (x y : X) (xs ys : List X) → x ∷ xs ≡ y ∷ ys → x ≡ y
  heads x y xs ys e = cc

  tails : (x y : X) (xs ys : List X) → x ∷ xs ≡ y ∷ ys → xs ≡ ys
  tails x y xs ys e = cc

  unfirst : (b : Bool) (x : X) (xs ys : List X) → cond b (x ∷ xs) xs ≡ cond b (x ∷ ys) ys → xs ≡ ys
  unfirst true x xs ys e = tails x x xs ys e
  unfirst false x xs ys e = e

  pub one_rising : (xs ys : List X) → Rises xs → Rises ys → ((z : X) → filter (ties lt z) xs ≡ filter (ties lt z) ys) → xs ≡ ys
  one_rising [] [] up up' same = refl
  one_rising [] (y ∷ ys) up up' same = absurd (let no : [] ≡ y ∷ filter (ties lt y) ys = same y ∙ itself y ys in cc)
  one_rising (x ∷ xs) [] up up' same = absurd (let no : [] ≡ x ∷ filter (ties lt x) xs = sym (same x) ∙ itself x xs in cc)
  one_rising (x ∷ xs) (y ∷ ys) up up' same =
      elim (cases_Bool (lt x y)) [
        | inl less ↦
            let none : filter (ties lt x) (y ∷ ys) ≡ [] = no_ties x (y ∷ ys) (less, less_than_all x y ys less up'.0) in
            absurd (let no : [] ≡ x ∷ filter (ties lt x) xs = sym none ∙ sym (same x) ∙ itself x xs in cc)
        | inr no_less ↦ elim (cases_Bool (lt y x)) [
          | inl more ↦
              let none : filter (ties lt y) (x ∷ xs) ≡ [] = no_ties y (x ∷ xs) (more, less_than_all y x xs more up.0) in
              absurd (let no : [] ≡ y ∷ filter (ties lt y) ys = sym none ∙ same y ∙ itself y ys in cc)
          | inr no_more ↦
              let first : x ≡ y = heads x y _ _ (sym (itself x xs) ∙ same x ∙ tied x y ys no_less no_more) in
              let rest : (z : X) → filter (ties lt z) xs ≡ filter (ties lt z) ys =
              λ z. unfirst (ties lt z x) x _ _ (same z ∙ ap (λ (w : X). filter (ties lt z) (w ∷ ys)) (sym first)) in
              ap₂ (λ (w : X) (ws : List X). w ∷ ws) first (one_rising xs ys up.1 up'.1 rest)
        ]
      ]

-- ---- inputs by outpoint

abbrev pub before : Input → Input → Bool
before x y = is_lt (outpoint_cmp x.from y.from)

outpoints_ordered : IsTotalOrder outpoint_cmp
outpoints_ordered = search (comparing, rules)

pub ranked : IsStrictWeakOrder before
ranked = ranks_by outpoints_ordered (λ (input : Input). input.from)

pub one_sort : (inputs xs ys : List Input) → IsSortOf inputs xs → IsSortOf inputs ys → xs ≡ ys
one_sort inputs xs ys a b =
    one_rising before ranked xs ys (rises before ranked xs a.in_order) (rises before ranked ys b.in_order) (λ z. a.stable z ∙ sym (b.stable z))

-- ---- what making a transaction of parts answers

-- parts that meet the rules have no fault
no_fault : (inputs : List Input) (outputs : List Output) (t : Transaction) (fault : TxFault) → IsMadeOf inputs outputs t → IsTx t → HasPartsFault inputs outputs fault → ⊥
no_fault inputs outputs t fault made valid h =
    let same : of_parts h.sorted outputs ≡ t = ap₂ (λ (xs : List Input) (ys : List Output). of_parts xs ys) (one_sort inputs h.sorted t.inputs h.sort made.sort) (sym made.same) in
    let first : HasTxFault (spelling t) fault = subst (λ (u : Transaction). HasTxFault (spelling u) fault) same h.first in
    let begins : Begins tx_form (spelling t) = record { value = t; text = spelling t; rest = []; spells = is_spelled tx_form spelling IsTx tx_spelled t valid; parts = sym (append-nil (spelling t)) } in
    apart tx_form (spelling t) fault begins first

pub only_made : (inputs : List Input) (outputs : List Output) (r : Result Transaction (ReadFault TxFault)) (t : Transaction) → IfOk r (IsMadeOf inputs outputs) → IfErr r (IsCause (HasPartsFault inputs outputs)) → IsMadeOf inputs outputs t → IsTx t
    → Answers r (Ok t)
only_made inputs outputs (Ok u) t made fault m valid =
    ap₂ (λ (xs : List Input) (ys : List Output). Ok (of_parts xs ys)) (one_sort inputs t.inputs u.inputs m.sort made.sort) (m.same ∙ sym made.same)
only_made inputs outputs (Err Memory) t made fault m valid = tt
only_made inputs outputs (Err (Fault f)) t made fault m valid = absurd (no_fault inputs outputs t f m valid fault)

pub only_parts_fault : (inputs : List Input) (outputs : List Output) (r : Result Transaction (ReadFault TxFault)) (f : TxFault) → IfOk r (IsMadeOf inputs outputs) → IfOk r IsTx → IfErr r (IsCause (HasPartsFault inputs outputs)) → HasPartsFault inputs outputs f
    → Answers r (Err f)
only_parts_fault inputs outputs (Ok u) f made valid fault h = absurd (no_fault inputs outputs u f made valid h)
only_parts_fault inputs outputs (Err Memory) f made valid fault h = tt
only_parts_fault inputs outputs (Err (Fault g)) f made valid fault h =
    let same : of_parts fault.sorted outputs ≡ of_parts h.sorted outputs = ap (λ (xs : List Input). of_parts xs outputs) (one_sort inputs fault.sorted h.sorted fault.sort h.sort) in
    let first : HasTxFault (spelling (of_parts h.sorted outputs)) g = subst (λ (u : Transaction). HasTxFault (spelling u) g) same fault.first in
    ap (λ (x : TxFault). Err x) (one_fault tx_form (spelling (of_parts h.sorted outputs)) f g h.first first)
