-- What rows of blocks say of the rivals of a carrier is what one look after another finds.
use Rattle.std.proofs.Common.{◌≡◌, ℕ, ◌+◌, ◌<◌, Bool, true, false, cond, ◌&&◌, ◌||◌, not, nat_lt, List, [], ◌∷◌, length, refl, sym, ap, ◌∙◌, subst, inl, inr, arith, eqb}
use Rattle.std.specs.List.{list_all, list_any}
use Rattle.std.proofs.lemmas.Bool.{and_from, and_parts, cases_lt, eqb-true, eq-eqb, false≢true, false_from_ne_true, le-ltb, lt-ltb, ne_eqb, not-true, not_from_false}
use Rattle.sp_bits.specs.Members.{has-places_where}
use Rattle.sp_bits.proofs.Counts.{has-small}
use Rattle.sp_model.specs.Graph.{has}
use Rattle.sp_tx.specs.declared.parts.Input.{Input}
use Rattle.sp_dag.specs.Numbered.{Numbered}
use Rattle.sp_carry.specs.declared.carrier.Carrier.{Carrier}
use Rattle.sp_carry.specs.Payment.{Payment, conflicts}
use Rattle.sp_carry.specs.Carried.{Carried, IsCarried}
use Rattle.sp_carry.specs.Lookups.{is_spent_by}
use Rattle.sp_carry.specs.RivalBlocks.{has_rival_in, is_rival_in, rival_blocks}
use Rattle.sp_carry.proofs.Members.{IsIn, any_of_member, member_of_all, member_of_any}
use Rattle.sp_carry.specs.Carried.{carriers_in}
use Rattle.sp_carry.specs.Flags.{is_set}
use Rattle.sp_carry.specs.Lookups.{spenders_in}
use Rattle.sp_tx.specs.Parts.{of_parts}
use Rattle.sp_model.proofs.Sets.{same_truth}
use Rattle.sp_accept.specs.AcceptedRows.{is_other_outside, is_spent_outside, stands_outside}
use Rattle.sp_accept.proofs.Numbers.{carrier_of, of_carrier, of_spender, spender_of}
use Rattle.sp_accept.specs.Around.{is_unbeaten, IsAround}
use Rattle.sp_accept.specs.Pass.{has_source, inputs_at, is_lost, is_next}
use Rattle.sp_accept.specs.Rows.{no_row, payment_at, row_at, AreOf}
use Rattle.sp_accept.specs.Standing.{is_before, is_below}
use Rattle.sp_accept.proofs.Carriers.{AreRows, conflict_from, conflict_to, rows_are}
use Rattle.sp_accept.proofs.Decided.{IsRivalAt, lost_at, lost_found, HasRival}
use Rattle.sp_accept.proofs.Places.{in_place, place_in}

-- ---- rows that are filled block by block, of those of a row

-- the row has, of the first blocks of some, those that pass
abbrev pub IsFilled : (ℕ → Bool) → List ℕ → ℕ → List ℕ → Type 0
IsFilled test some count row = (w : ℕ) → has row w ≡ (nat_lt w count && (has some w && test w))

-- one block more, which is put where it is one of some and passes
pub filled_more : (test : ℕ → Bool) (some old new : List ℕ) (place : ℕ) (put : Bool) → put ≡ (has some place && test place) → IsFilled test some place old
    → ((w : ℕ) → has new w ≡ (has old w || (put && eqb w place))) → IsFilled test some (place + 1) new
filled_more test some old new place put is before now w =
    now w ∙ ap (λ (b : Bool). b || (put && eqb w place)) (before w) ∙ at
  where
    passes : ℕ → Bool
    passes v = has some v && test v

    last : (c : Bool) → (false && passes w || (c && true)) ≡ (true && c)
    last true = refl
    last false = refl

    off : (b c : Bool) → (b || (c && false)) ≡ b
    off true c = refl
    off false true = refl
    off false false = refl

    at : (nat_lt w place && passes w || (put && eqb w place)) ≡ (nat_lt w (place + 1) && passes w)
    at =
        elim (cases_lt w place) [
          | inl less ↦
              ap (λ (e : Bool). nat_lt w place && passes w || (put && e)) (ne_eqb w place (λ same. omega (arith, less, same)))
              ∙ off (nat_lt w place && passes w) put
              ∙ ap (λ (b : Bool). b && passes w) (lt-ltb w place less ∙ sym (lt-ltb w (place + 1) (omega (arith, less))))
          | inr ge ↦ elim (cases_lt place w) [
            | inl more ↦
                ap (λ (e : Bool). nat_lt w place && passes w || (put && e)) (ne_eqb w place (λ same. omega (arith, more, same)))
                ∙ off (nat_lt w place && passes w) put
                ∙ ap (λ (b : Bool). b && passes w) (le-ltb w place ge ∙ sym (le-ltb w (place + 1) (omega (arith, more))))
            | inr le ↦ (let same : w ≡ place = omega (arith, le, ge) in
                ap (λ (b : Bool). b && passes w || (put && eqb w place)) (le-ltb w place ge)
                ∙ ap (λ (e : Bool). false && passes w || (put && e)) (eq-eqb w place same)
                ∙ last put
                ∙ ap (λ (b : Bool). true && b) (is ∙ ap passes (sym same))
                ∙ ap (λ (b : Bool). b && passes w) (sym (lt-ltb w (place + 1) (omega (arith, same)))))
          ]
        ]

-- the block is one of some, or it isn't and nothing is put
pub filled_here : (test : ℕ → Bool) (some old new : List ℕ) (place : ℕ) → has some place ≡ true → IsFilled test some place old
    → ((w : ℕ) → has new w ≡ (has old w || (test place && eqb w place))) → IsFilled test some (place + 1) new
filled_here test some old new place is before now =
    filled_more test some old new place (test place) (ap (λ (b : Bool). b && test place) (sym is)) before now

pub filled_past : (test : ℕ → Bool) (some row : List ℕ) (place : ℕ) → has some place ≡ false → IsFilled test some place row → IsFilled test some (place + 1) row
filled_past test some row place is before =
    filled_more test some row row place false (ap (λ (b : Bool). b && test place) (sym is)) before (λ w. sym (or_none (has row w)))
  where
    or_none : (a : Bool) → (a || false) ≡ a
    or_none true = refl
    or_none false = refl

-- ---- fewer rivals

-- the rows around a block do for fewer rivals
pub around_fewer : (table : Numbered) (z : ℕ) (rivals fewer beaten safe : List ℕ) → ((w : ℕ) → has fewer w ≡ true → has rivals w ≡ true)
    → IsAround table z rivals beaten safe → IsAround table z fewer beaten safe
around_fewer table z rivals fewer beaten safe within h = record {
  beaten_are = λ w lt there. h.beaten_are w lt (within w there);
  safe_are = λ w lt there. h.safe_are w lt (within w there);
}

-- ---- lists

pub in_row : (set : List ℕ) (w : ℕ) → has set w ≡ true → IsIn set w
in_row set w h =
    (let m : (p : ℕ) × IsIn set p × (eqb p w ≡ true) = member_of_any (λ p. eqb p w) set h in subst (IsIn set) (eqb-true m.0 w m.2) m.1)

pub has_in : (set : List ℕ) (w : ℕ) → IsIn set w → has set w ≡ true
has_in set w h = any_of_member (λ p. eqb p w) set w h (eq-eqb w w refl)

pub one_out : (p : ℕ → Bool) (xs : List ℕ) → list_all p xs ≡ false → (x : ℕ) × IsIn xs x × (p x ≡ false)
one_out p [] h = absurd (false≢true (sym h))
one_out p (x ∷ xs) h = at (λ rest. one_out p xs rest) (p x) refl h
  where
    at : (list_all p xs ≡ false → (y : ℕ) × IsIn xs y × (p y ≡ false)) → (b : Bool) → p x ≡ b → (b && list_all p xs) ≡ false → (y : ℕ) × IsIn (x ∷ xs) y × (p y ≡ false)
    at later true e h = (let r : (y : ℕ) × IsIn xs y × (p y ≡ false) = later h in (r.0, inr r.1, r.2))
    at later false e h = (x, inl refl, e)

pub not_false : (b : Bool) → not b ≡ false → b ≡ true
not_false true h = refl
not_false false h = absurd (false≢true (sym h))

-- ---- the rivals of one carrier

module _ (table : Numbered) (k : Carried) (carried : IsCarried k) (of : AreOf table k) (flags : List Bool) (c : ℕ) (lc : c < length k.rows) (beaten safe : List ℕ)
    (around : IsAround table (row_at k.rows c).block (rival_blocks k (row_at k.rows c).tx) beaten safe) where
  kept : AreRows k
  kept = rows_are k carried

  abbrev block_of : ℕ → ℕ
  block_of e = (row_at k.rows e).block

  abbrev tx_of : ℕ → ℕ
  tx_of e = (row_at k.rows e).tx

  abbrev is_outdone : Bool
  is_outdone = list_any (is_lost table k flags (row_at k.rows c)) (inputs_at k (tx_of c))

  abbrev rest : ℕ → Bool
  rest e = not (eqb (block_of e) (block_of c) || is_below table (block_of c) (block_of e)) && not (is_before table (block_of c) (block_of e))

  abbrev none : ℕ → Payment → Bool
  none w u = false

  block_in : (e : ℕ) → e < length k.rows → block_of e < length table.parents
  block_in e lt = (let inside : block_of e < k.blocks = kept.inside e lt in omega (arith, inside, of.long))

  rival_in : (e : ℕ) (i : Input) → IsRivalAt table k kept of.long of.order of.sound none c i e → IsIn (rival_blocks k (tx_of c)) (block_of e)
  rival_in e i r =
      let inside : block_of e < k.blocks = kept.inside e r.within in
      in_row (rival_blocks k (tx_of c)) (block_of e)
      (has-places_where (has_rival_in k (tx_of c)) (block_of e) (omega (arith, inside, carried.small))
      ∙ any_of_member (is_rival_in k (tx_of c) (block_of e)) k.rows (row_at k.rows e) (in_place k.rows no_row e r.within)
      (and_from (row_at k.rows e).sound _ r.valid
      (and_from (eqb (block_of e) (block_of e)) _ (eq-eqb (block_of e) (block_of e) refl)
      (conflict_from k kept (tx_of c) (tx_of e) i (kept.known c lc) (kept.known e r.within) r.input r.spent r.apart))))

  -- where all stand in safe blocks, none stands in the way
  pub safe_stays : list_all (has safe) (rival_blocks k (tx_of c)) ≡ true → is_outdone ≡ false
  safe_stays h = false_from_ne_true is_outdone (λ l. by (lost_found table k kept of.long of.order of.sound none flags c l))
    where
      clash : (b f u : Bool) → not (not b && u) ≡ true → not b ≡ true → cond b f u ≡ true → ⊥
      clash true f u a n s = false≢true n
      clash false f u a n s = false≢true (sym (not-true u a) ∙ s)

      by : HasRival table k kept of.long of.order of.sound none flags c → ⊥
      by (i, e, r, beats) =
          let there : has safe (block_of e) ≡ true = member_of_all (has safe) (rival_blocks k (tx_of c)) (block_of e) h (rival_in e i r) in
          let p : (not (is_unbeaten table (block_of c) (block_of e)) ≡ true) × (not (is_below table (block_of e) (block_of c)) ≡ true) =
          and_parts (not (is_unbeaten table (block_of c) (block_of e))) _ (sym (around.safe_are (block_of e) (block_in e r.within) (has_in (rival_blocks k (tx_of c)) (block_of e) (rival_in e i r))) ∙ there) in
          clash (is_below table (block_of e) (block_of c)) (is_set flags e) (rest e) p.0 p.1 (and_parts (row_at k.rows e).sound _ beats).1

  -- one in a block that isn't beaten stands in the way
  pub unbeaten_lost : list_all (has beaten) (rival_blocks k (tx_of c)) ≡ false → is_outdone ≡ true
  unbeaten_lost h =
      let w : (w : ℕ) × IsIn (rival_blocks k (tx_of c)) w × (has beaten w ≡ false) = one_out (has beaten) (rival_blocks k (tx_of c)) h in
      let there : has (rival_blocks k (tx_of c)) w.0 ≡ true = has_in (rival_blocks k (tx_of c)) w.0 w.1 in
      let small : w.0 < 512 = has-small (has_rival_in k (tx_of c)) w.0 there in
      let r : (r : Carrier) × IsIn k.rows r × (is_rival_in k (tx_of c) w.0 r ≡ true) =
      member_of_any (is_rival_in k (tx_of c) w.0) k.rows (sym (has-places_where (has_rival_in k (tx_of c)) w.0 small) ∙ there) in
      let e : (e : ℕ) × (e < length k.rows) × (row_at k.rows e ≡ r.0) = place_in k.rows no_row r.0 r.1 in
      by_number w.0 e.0 e.1 w.2 there (ap (is_rival_in k (tx_of c) w.0) e.2 ∙ r.2)
    where
      pick : (b f u : Bool) → not b ≡ true → u ≡ true → cond b f u ≡ true
      pick true f u n s = absurd (false≢true n)
      pick false f u n s = s

      by_number : (w e : ℕ) → e < length k.rows → has beaten w ≡ false → has (rival_blocks k (tx_of c)) w ≡ true → is_rival_in k (tx_of c) w (row_at k.rows e) ≡ true → is_outdone ≡ true
      by_number w e le out there rival =
          let p : ((row_at k.rows e).sound ≡ true) × ((eqb w (block_of e) && conflicts (payment_at k (tx_of c)) (payment_at k (tx_of e))) ≡ true) = and_parts (row_at k.rows e).sound _ rival in
          let q : (eqb w (block_of e) ≡ true) × (conflicts (payment_at k (tx_of c)) (payment_at k (tx_of e)) ≡ true) = and_parts (eqb w (block_of e)) _ p.1 in
          let i : (i : Input) × IsIn (inputs_at k (tx_of c)) i × (is_spent_by i.from (inputs_at k (tx_of e)) ≡ true) × (eqb (tx_of e) (tx_of c) ≡ false) =
          conflict_to k kept (tx_of c) (tx_of e) (kept.known c lc) (kept.known e le) q.1 in
          let free : is_unbeaten table (block_of c) (block_of e) ≡ true =
          not_false (is_unbeaten table (block_of c) (block_of e))
          (sym (around.beaten_are (block_of e) (block_in e le) (ap (has (rival_blocks k (tx_of c))) (sym (eqb-true w (block_of e) q.0)) ∙ there)) ∙ ap (has beaten) (sym (eqb-true w (block_of e) q.0)) ∙ out) in
          let s : (not (is_below table (block_of e) (block_of c)) ≡ true) × (rest e ≡ true) = and_parts (not (is_below table (block_of e) (block_of c))) (rest e) free in
          lost_at table k kept of.long of.order of.sound none flags c e i.0 (record { within = le; input = i.1; spent = i.2; apart = i.3; valid = p.0 })
          (and_from (row_at k.rows e).sound _ p.0 (pick (is_below table (block_of e) (block_of c)) (is_set flags e) (rest e) s.0 s.1))

  -- where none stands in the way from beside, those do that are accepted outside of the safe blocks
  abbrev is_near : Bool
  is_near = list_any (is_spent_outside k flags safe (tx_of c)) (inputs_at k (tx_of c))

  free_is : list_all (has beaten) (rival_blocks k (tx_of c)) ≡ true → (e : ℕ) (i : Input) → IsRivalAt table k kept of.long of.order of.sound none c i e
      → (not (is_unbeaten table (block_of c) (block_of e)) ≡ true) × (has safe (block_of e) ≡ (not (is_unbeaten table (block_of c) (block_of e)) && not (is_below table (block_of e) (block_of c))))
  free_is h e i r =
      let there : has (rival_blocks k (tx_of c)) (block_of e) ≡ true = has_in (rival_blocks k (tx_of c)) (block_of e) (rival_in e i r) in (
        sym (around.beaten_are (block_of e) (block_in e r.within) there) ∙ member_of_all (has beaten) (rival_blocks k (tx_of c)) (block_of e) h (rival_in e i r),
        around.safe_are (block_of e) (block_in e r.within) there,
      )

  near_forth : list_all (has beaten) (rival_blocks k (tx_of c)) ≡ true → is_near ≡ true → is_outdone ≡ true
  near_forth h n =
      let i : (i : Input) × IsIn (inputs_at k (tx_of c)) i × (is_spent_outside k flags safe (tx_of c) i ≡ true) =
      member_of_any (is_spent_outside k flags safe (tx_of c)) (inputs_at k (tx_of c)) n in
      let s : (s : ℕ) × IsIn (spenders_in k.txs i.0.from) s × (is_other_outside k flags safe (tx_of c) s ≡ true) =
      member_of_any (is_other_outside k flags safe (tx_of c)) (spenders_in k.txs i.0.from) i.2 in
      let q : (not (eqb s.0 (tx_of c)) ≡ true) × (list_any (stands_outside k flags safe) (carriers_in k.rows s.0) ≡ true) =
      and_parts (not (eqb s.0 (tx_of c))) _ s.2 in
      let e : (e : ℕ) × IsIn (carriers_in k.rows s.0) e × (stands_outside k flags safe e ≡ true) =
      member_of_any (stands_outside k flags safe) (carriers_in k.rows s.0) q.1 in
      let p : (e.0 < length k.rows) × (tx_of e.0 ≡ s.0) = carrier_of k.rows s.0 e.0 e.1 in
      let t = spender_of k.txs (of_parts [] []) i.0.from s.0 s.1 in
      let f : (is_set flags e.0 ≡ true) × (((row_at k.rows e.0).sound && not (has safe (block_of e.0))) ≡ true) = and_parts (is_set flags e.0) _ e.2 in
      let g : ((row_at k.rows e.0).sound ≡ true) × (not (has safe (block_of e.0)) ≡ true) = and_parts (row_at k.rows e.0).sound _ f.1 in
      by_number e.0 i.0
      (record {
        within = p.0;
        input = i.1;
        spent = ap (λ (t : ℕ). is_spent_by i.0.from (inputs_at k t)) p.1 ∙ t.1;
        apart = ap (λ (t : ℕ). eqb t (tx_of c)) p.1 ∙ not-true (eqb s.0 (tx_of c)) q.0;
        valid = g.0;
      })
      f.0 g.1
    where
      below_from : (u b s : Bool) → not u ≡ true → s ≡ (not u && not b) → not s ≡ true → b ≡ true
      below_from true b s a e n = absurd (false≢true a)
      below_from false true s a e n = refl
      below_from false false s a e n = absurd (false≢true (sym (not-true s n) ∙ e))

      by_number : (e : ℕ) (i : Input) → IsRivalAt table k kept of.long of.order of.sound none c i e → is_set flags e ≡ true → not (has safe (block_of e)) ≡ true → is_outdone ≡ true
      by_number e i r flag out =
          let w = free_is h e i r in
          let under : is_below table (block_of e) (block_of c) ≡ true = below_from (is_unbeaten table (block_of c) (block_of e)) (is_below table (block_of e) (block_of c)) (has safe (block_of e)) w.0 w.1 out in
          lost_at table k kept of.long of.order of.sound none flags c e i r (rw (r.valid, under) flag)

  near_back : list_all (has beaten) (rival_blocks k (tx_of c)) ≡ true → is_outdone ≡ true → is_near ≡ true
  near_back h l = by (lost_found table k kept of.long of.order of.sound none flags c l)
    where
      split : (b f u : Bool) → not (not b && u) ≡ true → cond b f u ≡ true → (b ≡ true) × (f ≡ true)
      split true f u a s = (refl, s)
      split false f u a s = absurd (false≢true (sym (not-true u a) ∙ s))

      off : (u b s : Bool) → b ≡ true → s ≡ (not u && not b) → not s ≡ true
      off u false s e f = absurd (false≢true e)
      off true true s e f = ap (λ (b : Bool). not b) f
      off false true s e f = ap (λ (b : Bool). not b) f

      by : HasRival table k kept of.long of.order of.sound none flags c → is_near ≡ true
      by (i, e, r, beats) =
          let w = free_is h e i r in
          let d : (is_below table (block_of e) (block_of c) ≡ true) × (is_set flags e ≡ true) =
          split (is_below table (block_of e) (block_of c)) (is_set flags e) (rest e) w.0 (and_parts (row_at k.rows e).sound _ beats).1 in
          any_of_member (is_spent_outside k flags safe (tx_of c)) (inputs_at k (tx_of c)) i r.input
          (any_of_member (is_other_outside k flags safe (tx_of c)) (spenders_in k.txs i.from) (tx_of e)
          (of_spender k.txs _ i.from (tx_of e) (kept.known e r.within) r.spent)
          (and_from (not (eqb (tx_of e) (tx_of c))) _ (not_from_false (eqb (tx_of e) (tx_of c)) r.apart)
          (any_of_member (stands_outside k flags safe) (carriers_in k.rows (tx_of e)) e (of_carrier k.rows (tx_of e) e r.within refl)
          (and_from (is_set flags e) _ d.1
          (and_from (row_at k.rows e).sound _ r.valid
          (off (is_unbeaten table (block_of c) (block_of e)) (is_below table (block_of e) (block_of c)) (has safe (block_of e)) d.0 w.1))))))

  pub near_lost : list_all (has beaten) (rival_blocks k (tx_of c)) ≡ true → is_near ≡ is_outdone
  near_lost h = same_truth is_near is_outdone (near_forth h) (near_back h)

  -- so a decision by rows is that of one look after another
  pub next_by_rows :
      ((row_at k.rows c).sound
      && (list_all (has beaten) (rival_blocks k (tx_of c))
      && (list_all (has_source table k flags (block_of c)) (inputs_at k (tx_of c)) && not (not (list_all (has safe) (rival_blocks k (tx_of c))) && is_near))))
      ≡ is_next table k flags c
  next_by_rows =
      joined (row_at k.rows c).sound (list_all (has beaten) (rival_blocks k (tx_of c))) (list_all (has_source table k flags (block_of c)) (inputs_at k (tx_of c)))
      (list_all (has safe) (rival_blocks k (tx_of c))) is_near is_outdone unbeaten_lost safe_stays near_lost
    where
      off : (s t : Bool) → (s && false) ≡ (s && (t && false))
      off true true = refl
      off true false = refl
      off false t = refl

      joined : (s x t y n l : Bool) → (x ≡ false → l ≡ true) → (y ≡ true → l ≡ false) → (x ≡ true → n ≡ l) → (s && (x && (t && not (not y && n)))) ≡ (s && (t && not l))
      joined s false t y n l f g h = off s t ∙ ap (λ (b : Bool). s && (t && not b)) (sym (f refl))
      joined s true t true n l f g h = ap (λ (b : Bool). s && (t && not b)) (sym (g refl))
      joined s true t false n l f g h = ap (λ (b : Bool). s && (t && not b)) (h refl)

  abbrev by_rows : Carrier → List Input → Bool
  by_rows row inputs =
      row.sound
      && (list_all (has beaten) (rival_blocks k row.tx)
      && (list_all (has_source table k flags row.block) inputs && not (not (list_all (has safe) (rival_blocks k row.tx)) && list_any (is_spent_outside k flags safe row.tx) inputs)))

  -- the same for the carrier and the inputs that were read
  next_read : (row : Carrier) (inputs : List Input) → row ≡ row_at k.rows c → inputs ≡ inputs_at k row.tx → by_rows row inputs ≡ is_next table k flags c
  next_read row inputs e f = ap (by_rows row) f ∙ ap (λ (r : Carrier). by_rows r (inputs_at k r.tx)) e ∙ next_by_rows

  -- what is decided where a rival stands in the way from beside, and where none does
  module _ (row : Carrier) (inputs : List Input) (e : row ≡ row_at k.rows c) (f : inputs ≡ inputs_at k row.tx) where
    pub beaten_next : not (list_all (has beaten) (rival_blocks k row.tx)) ≡ true → false ≡ is_next table k flags c
    beaten_next h = second row.sound (list_all (has beaten) (rival_blocks k row.tx)) _ (not-true (list_all (has beaten) (rival_blocks k row.tx)) h) ∙ next_read row inputs e f
      where
        second : (s x r : Bool) → x ≡ false → false ≡ (s && (x && r))
        second true x r g = ap (λ (b : Bool). b && r) (sym g)
        second false x r g = refl

    pub rest_next : (out : Bool) → row.sound ≡ true → not (list_all (has beaten) (rival_blocks k row.tx)) ≡ false → list_all (has_source table k flags row.block) inputs ≡ true
        → out ≡ (not (list_all (has safe) (rival_blocks k row.tx)) && list_any (is_spent_outside k flags safe row.tx) inputs) → not out ≡ is_next table k flags c
    rest_next out s x t o =
        last row.sound (list_all (has beaten) (rival_blocks k row.tx)) (list_all (has_source table k flags row.block) inputs) out _ s (not_false (list_all (has beaten) (rival_blocks k row.tx)) x) t o
        ∙ next_read row inputs e f
      where
        last : (s x t out r : Bool) → s ≡ true → x ≡ true → t ≡ true → out ≡ r → not out ≡ (s && (x && (t && not r)))
        last true true true out r a b d g = ap (λ (c : Bool). not c) g
        last false x t out r a b d g = absurd (false≢true a)
        last true false t out r a b d g = absurd (false≢true b)
        last true true false out r a b d g = absurd (false≢true d)
