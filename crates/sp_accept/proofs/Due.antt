-- Blocks that are due are gone over, ascending, and so are the carriers of each.
use Rattle.std.proofs.Common.{◌≡◌, ◌≢◌, ◌<◌, ◌≤◌, ◌+◌, ◌∙◌, ◌||◌, ◌&&◌, ℕ, zero, suc, Bool, true, false, List, [], ◌∷◌, Some, inl, inr, arith, refl, sym, ap, length, get_or, eqb}
use Rattle.std.specs.Prelude.{nat_le, slice_get}
use Rattle.std.proofs.lemmas.Option.{slice_get_within}
use Rattle.std.proofs.lemmas.Bool.{and_from, and_parts, cases_lt, eq-eqb, eqb-true, eqb-false, false≢true, false_from_ne_true, le-leb, leb-true, or_left, or_right}
use Rattle.sp_dag.specs.Numbered.{Numbered}
use Rattle.sp_dag.proofs.Ranked.{ancestors_lower}
use Rattle.sp_model.specs.Graph.{has}
use Rattle.sp_carry.specs.Carried.{Carried, IsCarried}
use Rattle.sp_carry.specs.Flags.{is_set}
use Rattle.sp_accept.specs.Pass.{is_next}
use Rattle.sp_accept.specs.Rows.{row_at, AreOf}
use Rattle.sp_accept.specs.Standing.{is_below}
use Rattle.sp_accept.specs.Todo.{AreSettledBut, is_due}
use Rattle.sp_accept.proofs.Carriers.{rows_are}

-- the item at a place of a list
pub item_is : (xs : List (ℕ × ℕ)) (i : ℕ) (d p : ℕ × ℕ) → slice_get xs i ≡ Some p → get_or xs i d ≡ p
item_is [] i d p e = absurd (let lt = slice_get_within [] i p e in omega (arith, lt))
item_is (x ∷ xs) zero d p e = cc
item_is (x ∷ xs) (suc i) d p e = item_is xs i d p e

or_off : (a b : Bool) → (a || b) ≡ false → (a ≡ false) × (b ≡ false)
or_off true b h = absurd (false≢true (sym h))
or_off false b h = (refl, h)

or_none : (a b : Bool) → a ≡ false → b ≡ false → (a || b) ≡ false
or_none a b ea eb = rw (ea, eb) refl

and_off : (a b : Bool) → (a ≡ true → b ≡ true → ⊥) → (a && b) ≡ false
and_off a b h = false_from_ne_true (a && b) (λ both. (let p = and_parts a b both in h p.0 p.1))

off_where : (a : Bool) → a ≡ false → a ≡ true → ⊥
off_where a off on = false≢true (sym off ∙ on)

module _ (table : Numbered) (k : Carried) (todo : List ℕ) (block : ℕ) where
  abbrev block_of : ℕ → ℕ
  block_of d = (row_at k.rows d).block

  -- the carriers that are left to decide on, where those of the block from number c on are, and whether one has turned
  abbrev pub left_from : ℕ → Bool → ℕ → Bool
  left_from c any d = is_due k.rows todo (block + 1) d || ((nat_le c d && eqb (block_of d) block) || (any && is_below table block (block_of d)))

  -- all that are due, at first
  pub block_begins : (flags : List Bool) (from : ℕ) → AreSettledBut table k flags (is_due k.rows todo block) → ((d : ℕ) → d < from → block_of d < block)
      → AreSettledBut table k flags (left_from from false)
  block_begins flags from settled first d ld off =
      settled d ld (and_off (has todo (block_of d)) (nat_le block (block_of d)) (λ there le.
      let parts = or_off (is_due k.rows todo (block + 1) d) _ off in
      let own = or_off (nat_le from d && eqb (block_of d) block) _ parts.1 in
      elim (cases_lt block (block_of d)) [
        | inl less ↦ false≢true (sym parts.0 ∙ and_from (has todo (block_of d)) (nat_le (block + 1) (block_of d)) there (le-leb (block + 1) (block_of d) (omega (arith, less))))
        | inr ge ↦
            let at : block ≤ block_of d = leb-true block (block_of d) le in
            let same : block_of d ≡ block = omega (arith, at, ge) in
            elim (cases_lt d from) [
              | inl early ↦ (let less : block_of d < block = first d early in omega (arith, less, same))
              | inr late ↦ false≢true (sym own.0 ∙ and_from (nat_le from d) (eqb (block_of d) block) (le-leb from d late) (eq-eqb (block_of d) block same))
            ]
      ]))

  -- one of them is decided on
  pub block_goes_on : (flags flags' : List Bool) (c : ℕ) (any one : Bool) → block_of c ≡ block → is_set flags' c ≡ is_next table k flags' c
      → ((d : ℕ) → c ≢ d → d < length k.rows → (one && is_below table (block_of c) (block_of d)) ≡ false → is_set flags d ≡ is_next table k flags d → is_set flags' d ≡ is_next table k flags' d)
      → AreSettledBut table k flags (left_from c any) → AreSettledBut table k flags' (left_from (c + 1) (one || any))
  block_goes_on flags flags' c any one at own others settled d ld off = by (eqb c d) refl
    where
      parts : (is_due k.rows todo (block + 1) d ≡ false) × (((nat_le (c + 1) d && eqb (block_of d) block) || ((one || any) && is_below table block (block_of d))) ≡ false)
      parts = or_off (is_due k.rows todo (block + 1) d) _ off

      rest : ((nat_le (c + 1) d && eqb (block_of d) block) ≡ false) × (((one || any) && is_below table block (block_of d)) ≡ false)
      rest = or_off (nat_le (c + 1) d && eqb (block_of d) block) _ parts.1

      above : (b : Bool) → (b ≡ true → (one || any) ≡ true) → (b && is_below table block (block_of d)) ≡ false
      above b more = and_off b (is_below table block (block_of d)) (λ on under. off_where _ rest.1 (and_from (one || any) (is_below table block (block_of d)) (more on) under))

      by : (b : Bool) → eqb c d ≡ b → is_set flags' d ≡ is_next table k flags' d
      by true e = (let same : c ≡ d = eqb-true c d e in sym (ap (is_set flags') same) ∙ own ∙ ap (is_next table k flags') same)
      by false e =
          let apart : c ≢ d = eqb-false c d e in
          others d apart ld
          (ap (λ (b : ℕ). one && is_below table b (block_of d)) at ∙ above one (λ on. or_left one any on))
          (settled d ld (or_none (is_due k.rows todo (block + 1) d) _ parts.0
          (or_none (nat_le c d && eqb (block_of d) block) _
          (and_off (nat_le c d) (eqb (block_of d) block) (λ le same. off_where _ rest.0
          (and_from (nat_le (c + 1) d) (eqb (block_of d) block) (le-leb (c + 1) d (next (leb-true c d le) apart)) same)))
          (above any (λ on. or_right one any on)))))
        where
          next : c ≤ d → c ≢ d → c + 1 ≤ d
          next le ne = elim (cases_lt c d) [ inl less ↦ omega (arith, less) | inr ge ↦ absurd (ne (omega (arith, le, ge))) ]

  -- behind its last one none of the block is left
  pub block_ends : (flags : List Bool) (c end : ℕ) (any : Bool) → end ≤ c → ((d : ℕ) → end ≤ d → d < length k.rows → block + 1 ≤ block_of d) → AreSettledBut table k flags (left_from c any)
      → AreSettledBut table k flags (λ d. is_due k.rows todo (block + 1) d || (any && is_below table block (block_of d)))
  block_ends flags c end any done behind settled d ld off =
      (let parts = or_off (is_due k.rows todo (block + 1) d) _ off in
      settled d ld (or_none (is_due k.rows todo (block + 1) d) _ parts.0
      (or_none (nat_le c d && eqb (block_of d) block) _
      (and_off (nat_le c d) (eqb (block_of d) block) (λ le same.
      let late : c ≤ d = leb-true c d le in
      let past : block + 1 ≤ block_of d = behind d (omega (arith, done, late)) ld in
      let own : block_of d ≡ block = eqb-true (block_of d) block same in
      omega (arith, past, own))) parts.1)))

  -- a block that isn't in the row is passed over
  pub passed_over : (flags : List Bool) → has todo block ≡ false → AreSettledBut table k flags (is_due k.rows todo block) → AreSettledBut table k flags (is_due k.rows todo (block + 1))
  passed_over flags none settled d ld off =
      settled d ld (and_off (has todo (block_of d)) (nat_le block (block_of d)) (λ there le.
      elim (cases_lt block (block_of d)) [
        | inl less ↦ off_where _ off (and_from (has todo (block_of d)) (nat_le (block + 1) (block_of d)) there (le-leb (block + 1) (block_of d) (omega (arith, less))))
        | inr ge ↦
            let at : block ≤ block_of d = leb-true block (block_of d) le in
            let same : block_of d ≡ block = omega (arith, at, ge) in
            off_where _ none (ap (has todo) (sym same) ∙ there)
      ]))

  -- where none of its carriers turned
  pub none_turned : (flags : List Bool) → AreSettledBut table k flags (λ d. is_due k.rows todo (block + 1) d || (false && is_below table block (block_of d)))
      → AreSettledBut table k flags (is_due k.rows todo (block + 1))
  none_turned flags settled d ld off = settled d ld (or_none (is_due k.rows todo (block + 1) d) false off refl)

  -- where one did, the blocks above it have joined the row
  pub some_turned : IsCarried k → AreOf table k → (flags : List Bool) (any : Bool) (more : List ℕ) → ((z : ℕ) → has todo z ≡ true → has more z ≡ true)
      → ((z : ℕ) → z < k.blocks → is_below table block z ≡ true → has more z ≡ true)
      → AreSettledBut table k flags (λ d. is_due k.rows todo (block + 1) d || (any && is_below table block (block_of d)))
      → AreSettledBut table k flags (is_due k.rows more (block + 1))
  some_turned carried of flags any more kept above settled d ld off =
      settled d ld (or_none (is_due k.rows todo (block + 1) d) _
      (and_off (has todo (block_of d)) (nat_le (block + 1) (block_of d)) (λ there le.
      off_where _ off (and_from (has more (block_of d)) (nat_le (block + 1) (block_of d)) (kept (block_of d) there) le)))
      (and_off any (is_below table block (block_of d)) (λ _ under.
      let inside : block_of d < k.blocks = (rows_are k carried).inside d ld in
      let less : block < block_of d = ancestors_lower table block (block_of d) of.order (omega (arith, inside, of.long)) under in
      off_where _ off (and_from (has more (block_of d)) (nat_le (block + 1) (block_of d)) (above (block_of d) inside under) (le-leb (block + 1) (block_of d) (omega (arith, less)))))))

-- behind the last block none is due
pub all_settled : (table : Numbered) (k : Carried) → IsCarried k → (flags : List Bool) (todo : List ℕ) (block : ℕ) → k.blocks ≤ block → AreSettledBut table k flags (is_due k.rows todo block)
    → AreSettledBut table k flags (λ _. false)
all_settled table k carried flags todo block done settled d ld _ =
    settled d ld (and_off (has todo (row_at k.rows d).block) (nat_le block (row_at k.rows d).block) (λ _ le.
    let inside : (row_at k.rows d).block < k.blocks = (rows_are k carried).inside d ld in
    let at : block ≤ (row_at k.rows d).block = leb-true block (row_at k.rows d).block le in
    omega (arith, inside, at, done)))
