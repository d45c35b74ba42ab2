-- Which flags need no look again where blocks joined the set: all but those of the noted carriers.
use Rattle.std.proofs.Common.{◌≡◌, ◌≢◌, ◌<◌, ◌≤◌, ◌∙◌, ◌||◌, ◌&&◌, not, ℕ, zero, suc, Bool, true, false, List, [], ◌∷◌, inl, inr, arith, refl, sym, ap, subst, length, eqb, Some}
use Rattle.std.specs.Prelude.{nat_lt, nat_le, Contains, neg_ℤ}
use Rattle.std.specs.List.{list_all, list_any}
use Rattle.std.specs.Ordering.{int_eq}
use Rattle.std.proofs.lemmas.Bool.{and_from, cases_lt, false_from_ne_true, eqb-true, eqb-false, false≢true, le-leb, le-ltb, lt-ltb, ltb-true}
use Rattle.std.proofs.lemmas.Bool.Decides.{Decides-int_eq}
use Rattle.std.proofs.lemmas.Option.{slice_get-get_or}
use Rattle.sp_model.specs.Graph.{has, in_past, keys, related, IsDownset}
use Rattle.sp_model.specs.Votes.{virt}
use Rattle.sp_model.proofs.Exchange.{virt_neg}
use Rattle.sp_dag.specs.Numbered.{AreInOrder, Numbered, graph_of}
use Rattle.sp_dag.proofs.Ranked.{ancestors_lower, keys_are_numbers}
use Rattle.sp_carry.specs.declared.carrier.Carrier.{Carrier}
use Rattle.sp_carry.specs.Carried.{Carried, IsCarried, ledger_of}
use Rattle.sp_carry.specs.Ledger.{accepts}
use Rattle.sp_carry.specs.Flags.{is_set}
use Rattle.sp_accept.specs.Acceptance.{Acceptance, first_blocks, IsRight}
use Rattle.sp_accept.specs.Changes.{carriers_below, TellsChanges}
use Rattle.sp_accept.specs.Pass.{has_source, inputs_at, is_lost, is_next}
use Rattle.sp_accept.specs.Todo.{AreDue, AreSettledBut, is_contested, is_due}
use Rattle.sp_accept.specs.Rows.{payment_at, row_at, AreOf}
use Rattle.sp_accept.specs.Standing.{is_before, is_below}
use Rattle.sp_accept.proofs.Carriers.{AreRows, rows_are}
use Rattle.sp_accept.proofs.StillRight.{first_downset}
use Rattle.sp_accept.proofs.Unmoved.{unmoved}

-- ---- the carriers of the first blocks come first

none_below : (rows : List Carrier) (n : ℕ) → ((c : ℕ) → c < length rows → n ≤ (row_at rows c).block) → carriers_below rows n ≡ 0
none_below [] n h = refl
none_below (r ∷ rows) n h =
    rw (le-ltb r.block n (h 0 (omega arith)))
    (none_below rows n (λ c lt. h (suc c) (omega (arith, lt))))

-- which of them stand below block n
pub below_is : (rows : List Carrier) (n : ℕ) → ((c d : ℕ) → c < d → d < length rows → (row_at rows c).block ≤ (row_at rows d).block) → (c : ℕ) → c < length rows
    → (c < carriers_below rows n → (row_at rows c).block < n) × (carriers_below rows n ≤ c → n ≤ (row_at rows c).block)
below_is [] n order c lt = absurd (omega (arith, lt))
below_is (r ∷ rows) n order c lt =
    at (below_is rows n (λ a b less within. order (suc a) (suc b) (omega (arith, less)) (omega (arith, within)))) (nat_lt r.block n) refl c lt
  where
    first : nat_lt r.block n ≡ false → n ≤ r.block
    first e = elim (cases_lt r.block n) [ inl less ↦ absurd (false≢true (sym e ∙ lt-ltb r.block n less)) | inr ge ↦ ge ]

    high : nat_lt r.block n ≡ false → (c : ℕ) → c < length (r ∷ rows) → n ≤ (row_at (r ∷ rows) c).block
    high e zero lt = first e
    high e (suc c) lt =
        (let own : n ≤ r.block = first e in let later : r.block ≤ (row_at rows c).block = order 0 (suc c) (omega arith) lt in omega (arith, own, later))

    at : ((c : ℕ) → c < length rows → (c < carriers_below rows n → (row_at rows c).block < n) × (carriers_below rows n ≤ c → n ≤ (row_at rows c).block))
        → (b : Bool) → nat_lt r.block n ≡ b → (c : ℕ) → c < length (r ∷ rows)
        → (c < carriers_below (r ∷ rows) n → (row_at (r ∷ rows) c).block < n) × (carriers_below (r ∷ rows) n ≤ c → n ≤ (row_at (r ∷ rows) c).block)
    at rest true e zero lt = (λ _. ltb-true r.block n e, λ le. absurd (let long : carriers_below (r ∷ rows) n ≡ suc (carriers_below rows n) = rw e refl in omega (arith, le, long)))
    at rest true e (suc c) lt =
        let long : carriers_below (r ∷ rows) n ≡ suc (carriers_below rows n) = rw e refl in
        let h : (c < carriers_below rows n → (row_at rows c).block < n) × (carriers_below rows n ≤ c → n ≤ (row_at rows c).block) = rest c (omega (arith, lt)) in
        (λ less. h.0 (omega (arith, less, long)), λ le. h.1 (omega (arith, le, long)))
    at rest false e c lt =
        let nothing : carriers_below (r ∷ rows) n ≡ 0 = none_below (r ∷ rows) n (high e) in
        (λ less. absurd (omega (arith, less, nothing)), λ _. high e c lt)

-- there are no more of them than of all
pub below_few : (rows : List Carrier) (n : ℕ) → carriers_below rows n ≤ length rows
below_few [] n = omega arith
below_few (r ∷ rows) n = at (below_few rows n) (nat_lt r.block n) refl
  where
    at : carriers_below rows n ≤ length rows → (b : Bool) → nat_lt r.block n ≡ b → carriers_below (r ∷ rows) n ≤ length (r ∷ rows)
    at rest true e = (let long : carriers_below (r ∷ rows) n ≡ suc (carriers_below rows n) = rw e refl in omega (arith, long, rest))
    at rest false e = (let long : carriers_below (r ∷ rows) n ≡ carriers_below rows n = rw e refl in omega (arith, long, rest))

-- the carriers of later blocks are those from a number on
pub from_later : (k : Carried) → AreRows k → (n from : ℕ) → from ≡ carriers_below k.rows n → (c : ℕ) → c < length k.rows → n ≤ (row_at k.rows c).block → from ≤ c
from_later k kept n from at c lc ge =
    elim (cases_lt c from) [
      | inl less ↦ absurd (let early : (row_at k.rows c).block < n = (below_is k.rows n kept.in_order c lc).0 (omega (arith, less, at)) in omega (arith, early, ge))
      | inr le ↦ le
    ]

-- a block that isn't below a later one is unrelated to it
pub unrelated_older : (table : Numbered) → AreInOrder table.parents → (z w : ℕ) → z < w → w < length table.parents → is_below table z w ≡ false
    → (eqb z w || related (graph_of table) z w) ≡ false
unrelated_older table order z w less within apart = at (eqb z w) (is_below table z w) (is_below table w z) refl apart up
  where
    up : is_below table w z ≡ false
    up = false_from_ne_true (is_below table w z) (λ h. let lower : w < z = ancestors_lower table w z order (omega (arith, less, within)) h in absurd (omega (arith, less, lower)))

    at : (same under over : Bool) → eqb z w ≡ same → under ≡ false → over ≡ false → (same || (not same && (under || over))) ≡ false
    at true under over e _ _ = absurd (let same : z ≡ w = eqb-true z w e in omega (arith, less, same))
    at false true over e h _ = absurd (false≢true (sym h))
    at false false true e _ h = absurd (false≢true (sym h))
    at false false false e _ _ = refl

-- ---- the carriers of all other blocks stand still

module _ (table : Numbered) (k : Carried) (carried : IsCarried k) (of : AreOf table k) (a : Acceptance) (right : IsRight table k a)
    (changed : List (ℕ × ℕ)) (told : TellsChanges table a.blocks changed) (todo : List ℕ) (due : AreDue table k a.blocks changed todo) where
  abbrev n : ℕ
  n = a.blocks

  abbrev block_of : ℕ → ℕ
  block_of c = (row_at k.rows c).block

  kept : AreRows k
  kept = rows_are k carried

  all_downset : IsDownset (graph_of table) (keys (graph_of table))
  all_downset = subst (IsDownset (graph_of table)) (sym (keys_are_numbers table)) (first_downset table (length table.parents) of.order (omega arith))

  first : IsDownset (graph_of table) (first_blocks n)
  first = first_downset table n of.order (let few : n ≤ k.blocks = right.few in omega (arith, few, of.long))

  unrelated_parts : (w z : ℕ) → eqb w z ≡ false → related (graph_of table) w z ≡ false → (related (graph_of table) z w ≡ false) × (in_past (graph_of table) z w ≡ false)
  unrelated_parts w z apart h = at (eqb w z) (eqb z w) (in_past (graph_of table) w z) (in_past (graph_of table) z w) apart h
    where
      at : (same turned a b : Bool) → same ≡ false → (not same && (a || b)) ≡ false → ((not turned && (b || a)) ≡ false) × (b ≡ false)
      at true turned a b e h = absurd (false≢true (sym e))
      at false true true true e h = absurd (false≢true (sym h))
      at false true true false e h = absurd (false≢true (sym h))
      at false true false true e h = absurd (false≢true (sym h))
      at false true false false e h = (refl, refl)
      at false false true true e h = absurd (false≢true (sym h))
      at false false true false e h = absurd (false≢true (sym h))
      at false false false true e h = absurd (false≢true (sym h))
      at false false false false e h = (refl, refl)

  -- no later carrier stands in the way of one whose block isn't noted
  no_new : (d : ℕ) → d < length k.rows → has todo (block_of d) ≡ false → block_of d < n → (e : ℕ) → e < length k.rows → n ≤ block_of e → (row_at k.rows e).sound ≡ true
      → is_contested k (row_at k.rows e).tx ≡ true → related (graph_of table) (block_of e) (block_of d) ≡ false → eqb (block_of e) (block_of d) ≡ false → is_before table (block_of d) (block_of e) ≡ false → ⊥
  no_new d ld off old e le ge valid rival apart other behind =
      false≢true (sym off ∙ due.beside (block_of d) e old le ge valid rival (unrelated_parts (block_of e) (block_of d) other apart).1 behind)

  -- a pair on which the vote turned is noted
  pair_noted : (x y : ℕ) → x < y → y < n → related (graph_of table) x y ≡ false
      → virt (graph_of table) (first_blocks n) x y ≢ virt (graph_of table) (keys (graph_of table)) x y → (has todo x ≡ true) × (has todo y ≡ true)
  pair_noted x y less under apart turned =
      let there : Contains changed (x, y) = told x y less under apart turned in
      due.pairs there.0 x y (slice_get-get_or changed there.0 (x, y) there.1 ∙ ap (λ (p : ℕ × ℕ). Some p) there.2) less under

  stays : (d : ℕ) → d < length k.rows → has todo (block_of d) ≡ false → block_of d < n → (e : ℕ) → e < length k.rows → block_of e < n
      → related (graph_of table) (block_of e) (block_of d) ≡ false → eqb (block_of e) (block_of d) ≡ false
      → virt (graph_of table) (first_blocks n) (block_of d) (block_of e) ≡ virt (graph_of table) (keys (graph_of table)) (block_of d) (block_of e)
  stays d ld off old e le under apart other =
      elim (cases_lt (block_of d) (block_of e)) [
        | inl less ↦ same (block_of d) (block_of e)
            (λ turned. false≢true (sym off ∙ (pair_noted (block_of d) (block_of e) less under (unrelated_parts (block_of e) (block_of d) other apart).0 turned).0))
        | inr ge ↦ (let ne : block_of e ≢ block_of d = eqb-false (block_of e) (block_of d) other in
            let less : block_of e < block_of d = below (block_of e) (block_of d) ge ne in
            let even : virt (graph_of table) (first_blocks n) (block_of e) (block_of d) ≡ virt (graph_of table) (keys (graph_of table)) (block_of e) (block_of d) =
            same (block_of e) (block_of d) (λ turned. false≢true (sym off ∙ (pair_noted (block_of e) (block_of d) less old apart turned).1)) in
            virt_neg (graph_of table) (first_blocks n) (block_of d) (block_of e) first (λ f. ne (sym f))
            ∙ ap neg_ℤ even
            ∙ sym (virt_neg (graph_of table) (keys (graph_of table)) (block_of d) (block_of e) all_downset (λ f. ne (sym f))))
      ]
    where
      below : (x y : ℕ) → x ≤ y → x ≢ y → x < y
      below x y le ne = elim (cases_lt x y) [ inl less ↦ less | inr ge ↦ absurd (ne (omega (arith, le, ge))) ]

      same : (x y : ℕ) → (virt (graph_of table) (first_blocks n) x y ≢ virt (graph_of table) (keys (graph_of table)) x y → ⊥)
          → virt (graph_of table) (first_blocks n) x y ≡ virt (graph_of table) (keys (graph_of table)) x y
      same x y not_other = at (int_eq (virt (graph_of table) (first_blocks n) x y) (virt (graph_of table) (keys (graph_of table)) x y)) refl
        where
          at : (b : Bool) → int_eq (virt (graph_of table) (first_blocks n) x y) (virt (graph_of table) (keys (graph_of table)) x y) ≡ b
              → virt (graph_of table) (first_blocks n) x y ≡ virt (graph_of table) (keys (graph_of table)) x y
          at true e = (Decides-int_eq _ _).0 e
          at false e = absurd (not_other (λ even. false≢true (sym e ∙ (Decides-int_eq _ _).1 even)))

  -- a later carrier that isn't sound is never accepted
  new_unset : (flags : List Bool) → ((c : ℕ) → is_set flags c ≡ is_set a.carriers c) → (d : ℕ) → d < length k.rows → n ≤ block_of d → (row_at k.rows d).sound ≡ false
      → is_set flags d ≡ is_next table k flags d
  new_unset flags same d ld ge unsound =
      same d ∙ right.carriers d ld
      ∙ ap (λ (b : Bool). b && accepts (ledger_of table k) (first_blocks n) (block_of d) (payment_at k (row_at k.rows d).tx)) (le-ltb (block_of d) n ge)
      ∙ sym (ap (λ (b : Bool). b && (list_all (has_source table k flags (block_of d)) (inputs_at k (row_at k.rows d).tx)
      && not (list_any (is_lost table k flags (row_at k.rows d)) (inputs_at k (row_at k.rows d).tx)))) unsound)

  pub begun : (flags : List Bool) → ((c : ℕ) → is_set flags c ≡ is_set a.carriers c) → AreSettledBut table k flags (is_due k.rows todo 0)
  begun flags same d ld free =
      elim (cases_lt (block_of d) n) [
        | inl old ↦ unmoved table k kept of.long of.order of.sound n right.few d ld old (no_new d ld off old) (stays d ld off old) flags (λ e le. same e ∙ right.carriers e le)
        | inr ge ↦ new_unset flags same d ld ge (false_from_ne_true (row_at k.rows d).sound (λ valid. false≢true (sym off ∙ due.news d ld ge valid)))
      ]
    where
      off : has todo (block_of d) ≡ false
      off = false_from_ne_true (has todo (block_of d)) (λ there. false≢true (sym free ∙ and_from (has todo (block_of d)) (nat_le 0 (block_of d)) there (le-leb 0 (block_of d) (omega arith))))
