-- Whether what a transaction spends is accepted, by the numbers of what it spends.
use Rattle.std.proofs.Common.{◌≡◌, ℕ, zero, suc, Bool, true, false, cond, eqb, ◌<◌, ◌&&◌, List, [], ◌∷◌, length, map, Option, Some, None, refl, sym, ap, ◌∙◌, arith, inl, inr}
use Rattle.std.specs.Prelude.{All, position, unwrap_or}
use Rattle.std.specs.List.{list_all}
use Rattle.std.proofs.lemmas.Bool.{and_parts, cases_lt, false≢true, le-ltb, lt-ltb}
use Rattle.sp_dag.specs.Numbered.{Numbered}
use Rattle.sp_tx.specs.declared.parts.Input.{Input}
use Rattle.sp_tx.specs.Parts.{Transaction}
use Rattle.sp_tx.specs.Spending.{id_of}
use Rattle.sp_carry.specs.Carried.{Carried}
use Rattle.sp_carry.specs.Sources.{earlier, has_source_in, is_there, source_or_none, sources_among, sources_in}
use Rattle.sp_accept.specs.Pass.{has_source, inputs_at, is_paid, is_paid_by}

-- a number that is lower than one is there as it is
earlier_is : (tx : ℕ) (o : Option ℕ) → is_there (earlier tx o) ≡ true → (n : ℕ) × (o ≡ Some n) × (unwrap_or (earlier tx o) 0 ≡ n) × (n < tx)
earlier_is tx None h = absurd (false≢true h)
earlier_is tx (Some n) h =
    elim (cases_lt n tx) [
      | inl lt ↦ (n, refl, ap (λ (c : Bool). unwrap_or (cond c (Some n) None) 0) (lt-ltb n tx lt), lt)
      | inr ge ↦ absurd (false≢true (sym (ap (λ (c : Bool). is_there (cond c (Some n) None)) (le-ltb n tx ge)) ∙ h))
    ]

module _ (table : Numbered) (k : Carried) (flags : List Bool) (block tx : ℕ) where
  one_paid : (i : Input) → has_source_in k.txs tx i ≡ true → is_paid table k flags block (source_or_none k.txs tx i) ≡ has_source table k flags block i
  one_paid i h =
      (let e : (n : ℕ) × (position (eqb i.from.tx) (map id_of k.txs) ≡ Some n) × (source_or_none k.txs tx i ≡ n) × (n < tx) =
      earlier_is tx (position (eqb i.from.tx) (map id_of k.txs)) h in
      ap (is_paid table k flags block) e.2 ∙ sym (ap (is_paid_by table k flags block) e.1))

  all_paid : (inputs : List Input) → list_all (has_source_in k.txs tx) inputs ≡ true
      → list_all (is_paid table k flags block) (map (source_or_none k.txs tx) inputs) ≡ list_all (has_source table k flags block) inputs
  all_paid [] h = refl
  all_paid (i ∷ is) h =
      (let both : (has_source_in k.txs tx i ≡ true) × (list_all (has_source_in k.txs tx) is ≡ true) = and_parts (has_source_in k.txs tx i) (list_all (has_source_in k.txs tx) is) h in
      ap (λ (b : Bool). b && list_all (is_paid table k flags block) (map (source_or_none k.txs tx) is)) (one_paid i both.0)
      ∙ ap (λ (b : Bool). has_source table k flags block i && b) (all_paid is both.1))

  -- the numbers, where they are there, tell it of all inputs
  pub sources_paid : (list : List ℕ) → list ≡ sources_in k.txs tx → (list ≡ [] → ⊥)
      → list_all (is_paid table k flags block) list ≡ list_all (has_source table k flags block) (inputs_at k tx)
  sources_paid list e some = at (list_all (has_source_in k.txs tx) (inputs_at k tx)) refl
    where
      at : (c : Bool) → list_all (has_source_in k.txs tx) (inputs_at k tx) ≡ c
          → list_all (is_paid table k flags block) list ≡ list_all (has_source table k flags block) (inputs_at k tx)
      at true h =
          ap (list_all (is_paid table k flags block)) (e ∙ ap (λ (c : Bool). cond c (map (source_or_none k.txs tx) (inputs_at k tx)) []) h)
          ∙ all_paid (inputs_at k tx) h
      at false h = absurd (some (e ∙ ap (λ (c : Bool). cond c (map (source_or_none k.txs tx) (inputs_at k tx)) []) h))

-- each of them is the number of a transaction
pub sources_within : (txs : List Transaction) (tx : ℕ) (inputs : List Input) → tx < length txs → All (λ source. source < length txs) (sources_among txs tx inputs)
sources_within txs tx inputs lt = at (list_all (has_source_in txs tx) inputs) refl
  where
    below : (is : List Input) → list_all (has_source_in txs tx) is ≡ true → All (λ source. source < length txs) (map (source_or_none txs tx) is)
    below [] h j d within = absurd (omega (arith, within))
    below (i ∷ is) h zero d within =
        (let both : (has_source_in txs tx i ≡ true) × (list_all (has_source_in txs tx) is ≡ true) = and_parts (has_source_in txs tx i) (list_all (has_source_in txs tx) is) h in
        let e : (n : ℕ) × (position (eqb i.from.tx) (map id_of txs) ≡ Some n) × (source_or_none txs tx i ≡ n) × (n < tx) =
        earlier_is tx (position (eqb i.from.tx) (map id_of txs)) both.0 in
        omega (arith, e.2, e.3, lt))
    below (i ∷ is) h (suc j) d within =
        (let both : (has_source_in txs tx i ≡ true) × (list_all (has_source_in txs tx) is ≡ true) = and_parts (has_source_in txs tx i) (list_all (has_source_in txs tx) is) h in
        below is both.1 j d (omega (arith, within)))

    at : (c : Bool) → list_all (has_source_in txs tx) inputs ≡ c → All (λ source. source < length txs) (cond c (map (source_or_none txs tx) inputs) [])
    at true h = below inputs h
    at false h = λ j d within. absurd (omega (arith, within))
