-- Flags that are right stay so where blocks, or blocks of the graph, are added.
use Rattle.std.proofs.Common.{◌≡◌, ℕ, zero, suc, ◌+◌, ◌-◌, ◌<◌, ◌≤◌, Bool, true, false, ◌&&◌, List, [], ◌∷◌, ◌++◌, length, refl, sym, ap, subst, ◌∙◌, inl, inr, arith, eqb, ltb, length-append}
use Rattle.std.specs.List.{range_with_len}
use Rattle.std.proofs.Math.ListN.{get_or-append}
use Rattle.std.proofs.Math.Seq.{get_or-append_right}
use Rattle.std.proofs.lemmas.Bool.{cases_lt, eqb-true, eq-eqb, false≢true, false_from_ne_true, le-ltb, ltb-true, or_cases, or_left, or_right}
use Rattle.std.proofs.lemmas.List.{append-nil}
use Rattle.std.proofs.lemmas.List.Elements.{All-nil}
use Rattle.sp_model.specs.Agreement.{AgreesOn}
use Rattle.sp_model.specs.Graph.{AreDistinct, has, keys, IsDownset}
use Rattle.sp_tx.specs.Parts.{Transaction}
use Rattle.sp_dag.specs.Numbered.{IsNumbered, with_next, Numbered, AreInOrder, graph_of}
use Rattle.sp_dag.proofs.Ranked.{rank_numbered, rank_old, all_complete, key_in, parents_numbered, ancestors_lower, keys_are_numbers}
use Rattle.sp_carry.specs.declared.carrier.Carrier.{Carrier}
use Rattle.sp_carry.specs.Payment.{Payment, payment_of}
use Rattle.sp_carry.specs.Ledger.{accepted_carriers, accepts, is_accepted}
use Rattle.sp_carry.specs.Carried.{Carried, IsCarried, ledger_of, payments_in, with_block, with_carriers}
use Rattle.sp_carry.proofs.Blocks.{blocks_all}
use Rattle.sp_carry.proofs.Conflicts.{accepted_from}
use Rattle.sp_carry.proofs.Members.{IsIn, member_of_any}
use Rattle.sp_carry.specs.Flags.{is_set}
use Rattle.sp_accept.specs.Acceptance.{Acceptance, first_blocks, is_accepted_carrier, is_accepted_tx, IsRight}
use Rattle.sp_accept.specs.Rows.{no_row, payment_at, row_at}
use Rattle.sp_accept.proofs.Carriers.{carried_at, one_number, rows_are}
use Rattle.sp_accept.proofs.Grown.{GoesOn, goes_all, payments_stay}
use Rattle.sp_accept.proofs.Places.{set_within}
use Rattle.sp_accept.proofs.Renamed.{accepted_restricted, accepts_restricted}
use Rattle.sp_accept.proofs.States.{numbered_plain}

-- ---- the first numbers

in_range : (a n z : ℕ) → a ≤ z → z < a + n → has (range_with_len a n) z ≡ true
in_range a zero z le lt = absurd (omega (arith, le, lt))
in_range a (suc n) z le lt =
    elim (cases_lt a z) [
      | inl less ↦ or_right (eqb a z) (has (range_with_len (a + 1) n) z) (in_range (a + 1) n z (omega (arith, less)) (omega (arith, lt)))
      | inr ge ↦ or_left (eqb a z) (has (range_with_len (a + 1) n) z) (eq-eqb a z (omega (arith, le, ge)))
    ]

of_range : (a n z : ℕ) → has (range_with_len a n) z ≡ true → (a ≤ z) × (z < a + n)
of_range a zero z h = absurd (false≢true h)
of_range a (suc n) z h =
    elim (or_cases (eqb a z) (has (range_with_len (a + 1) n) z) h) [
      | inl same ↦ (let e : a ≡ z = eqb-true a z same in (omega (arith, e), omega (arith, e)))
      | inr there ↦ (let r : (a + 1 ≤ z) × (z < a + 1 + n) = of_range (a + 1) n z there in (omega (arith, r.0), omega (arith, r.1)))
    ]

distinct_range : (a n : ℕ) → AreDistinct (range_with_len a n)
distinct_range a zero = tt
distinct_range a (suc n) =
    (false_from_ne_true (has (range_with_len (a + 1) n) a) (λ h. (let r : (a + 1 ≤ a) × (a < a + 1 + n) = of_range (a + 1) n a h in omega (arith, r.0))), distinct_range (a + 1) n)

pub first_in : (n z : ℕ) → z < n → has (first_blocks n) z ≡ true
first_in n z lt = in_range 0 n z (omega arith) (omega (arith, lt))

pub of_first : (n z : ℕ) → has (first_blocks n) z ≡ true → z < n
of_first n z h = (let r : (0 ≤ z) × (z < 0 + n) = of_range 0 n z h in omega (arith, r.1))

distinct_keys : (table : Numbered) → AreDistinct (keys (graph_of table))
distinct_keys table = subst AreDistinct (sym (keys_are_numbers table)) (distinct_range 0 (length table.parents))

pub first_downset : (table : Numbered) (n : ℕ) → AreInOrder table.parents → n ≤ length table.parents → IsDownset (graph_of table) (first_blocks n)
first_downset table n order le = record {
  all_complete = λ z there. all_complete table order z (omega (arith, le, of_first n z there));
  closed = λ z w there under.
      (let less : w < z = ancestors_lower table w z order (omega (arith, le, of_first n z there)) under in first_in n w (omega (arith, less, of_first n z there)));
}

-- ---- the flags

pub unset : (flags : List Bool) (n : ℕ) → length flags ≤ n → is_set flags n ≡ false
unset flags n le = false_from_ne_true (is_set flags n) (λ h. (let lt : n < length flags = set_within flags n h in omega (arith, le, lt)))

module _ (table table' : Numbered) (k k' : Carried) (a : Acceptance) (h : IsCarried k) (h' : IsCarried k') (on : GoesOn k k')
    (order : AreInOrder table.parents) (wide : k.blocks ≤ length table.parents) (agrees : AgreesOn (first_blocks a.blocks) (graph_of table) (graph_of table')) (blocks : k.blocks ≤ k'.blocks)
    (right : IsRight table k a) where
  down : IsDownset (graph_of table) (first_blocks a.blocks)
  down = first_downset table a.blocks order (omega (arith, wide, right.few))

  txs_stay : (w : ℕ) → has (first_blocks a.blocks) w ≡ true → payments_in k' w ≡ payments_in k w
  txs_stay w there = payments_stay k k' w h.linked on (omega (arith, of_first a.blocks w there, right.few))

  accepts_stay : (z : ℕ) (t : Payment) → z < a.blocks → accepts (ledger_of table' k') (first_blocks a.blocks) z t ≡ accepts (ledger_of table k) (first_blocks a.blocks) z t
  accepts_stay z t lt =
      accepts_restricted (ledger_of table k) (ledger_of table' k') (first_blocks a.blocks) z t agrees down (distinct_range 0 a.blocks) txs_stay
      (numbered_plain table k (first_blocks a.blocks) h) (first_in a.blocks z lt)

  accepted_stay : (id : ℕ) → is_accepted (ledger_of table' k') (first_blocks a.blocks) id ≡ is_accepted (ledger_of table k) (first_blocks a.blocks) id
  accepted_stay id =
      accepted_restricted (ledger_of table k) (ledger_of table' k') (first_blocks a.blocks) id agrees down (distinct_range 0 a.blocks) txs_stay
      (numbered_plain table k (first_blocks a.blocks) h)

  carrier_stays : (z : ℕ) (t : Payment) → (ltb z a.blocks && accepts (ledger_of table k) (first_blocks a.blocks) z t) ≡ (ltb z a.blocks && accepts (ledger_of table' k') (first_blocks a.blocks) z t)
  carrier_stays z t = at (ltb z a.blocks) refl
    where
      at : (b : Bool) → ltb z a.blocks ≡ b → (b && accepts (ledger_of table k) (first_blocks a.blocks) z t) ≡ (b && accepts (ledger_of table' k') (first_blocks a.blocks) z t)
      at true e = sym (accepts_stay z t (ltb-true z a.blocks e))
      at false e = refl

  old_carrier : (c : ℕ) → c < length k.rows → is_set a.carriers c ≡ is_accepted_carrier table' k' a.blocks c
  old_carrier c lt =
      let row : row_at k'.rows c ≡ row_at k.rows c = ap (λ (rs : List Carrier). row_at rs c) on.rows ∙ get_or-append k.rows on.more no_row c lt in
      let pays : payment_at k' (row_at k.rows c).tx ≡ payment_at k (row_at k.rows c).tx = ap payment_of (on.txs (row_at k.rows c).tx (h.linked.txs c no_row lt)) in
      let P : Carrier → Type 0 = λ r. is_set a.carriers c ≡ (ltb r.block a.blocks && accepts (ledger_of table' k') (first_blocks a.blocks) r.block (payment_at k' r.tx)) in
      subst P (sym row)
      (right.carriers c lt
      ∙ carrier_stays (row_at k.rows c).block (payment_at k (row_at k.rows c).tx)
      ∙ ap (λ (p : Payment). ltb (row_at k.rows c).block a.blocks && accepts (ledger_of table' k') (first_blocks a.blocks) (row_at k.rows c).block p) (sym pays))

  new_carrier : (c : ℕ) → length k.rows ≤ c → c < length k'.rows → is_set a.carriers c ≡ is_accepted_carrier table' k' a.blocks c
  new_carrier c ge lt =
      let row : row_at k'.rows c ≡ row_at on.more (c - length k.rows) =
      ap (λ (rs : List Carrier). row_at rs c) on.rows ∙ get_or-append_right k.rows on.more c no_row ge in
      let long : length (k.rows ++ on.more) ≡ length k.rows + length on.more = length-append k.rows on.more in
      let late : k.blocks ≤ (row_at on.more (c - length k.rows)).block = on.later (c - length k.rows) no_row (omega (arith, ge, lt, long, ap length on.rows)) in
      let apart : ltb (row_at k'.rows c).block a.blocks ≡ false =
      le-ltb (row_at k'.rows c).block a.blocks (let e : (row_at k'.rows c).block ≡ (row_at on.more (c - length k.rows)).block = ap (λ (r : Carrier). r.block) row in omega (arith, e, late, right.few)) in
      unset a.carriers c (omega (arith, right.no_more, ge))
      ∙ sym (ap (λ (b : Bool). b && accepts (ledger_of table' k') (first_blocks a.blocks) (row_at k'.rows c).block (payment_at k' (row_at k'.rows c).tx)) apart)

  old_tx : (tx : ℕ) → tx < length k.txs → is_set a.txs tx ≡ is_accepted_tx table' k' a.blocks tx
  old_tx tx lt =
      right.txs tx lt ∙ sym (accepted_stay (payment_at k tx).id)
      ∙ ap (λ (t : Transaction). is_accepted (ledger_of table' k') (first_blocks a.blocks) (payment_of t).id) (sym (on.txs tx lt))

  new_tx : (tx : ℕ) → length k.txs ≤ tx → tx < length k'.txs → is_set a.txs tx ≡ is_accepted_tx table' k' a.blocks tx
  new_tx tx ge lt = unset a.txs tx (omega (arith, right.no_more_txs, ge)) ∙ sym (false_from_ne_true _ none)
    where
      none : is_accepted (ledger_of table' k') (first_blocks a.blocks) (payment_at k' tx).id ≡ true → ⊥
      none there =
          let u : (u : Payment) × IsIn (accepted_carriers (ledger_of table k) (first_blocks a.blocks)) u × (eqb u.id (payment_at k' tx).id ≡ true) =
          member_of_any (λ (u : Payment). eqb u.id (payment_at k' tx).id) (accepted_carriers (ledger_of table k) (first_blocks a.blocks)) (sym (accepted_stay (payment_at k' tx).id) ∙ there) in
          let z : (z : ℕ) × (has (first_blocks a.blocks) z ≡ true) × IsIn ((ledger_of table k).txs z) u.0 × (accepts (ledger_of table k) (first_blocks a.blocks) z u.0 ≡ true) =
          accepted_from (ledger_of table k) (first_blocks a.blocks) u.0 u.1 in
          let c : (c : ℕ) × (c < length k.rows) × ((row_at k.rows c).block ≡ z.0) × (payment_at k (row_at k.rows c).tx ≡ u.0) =
          carried_at k (rows_are k h) z.0 u.0 z.2 in
          let known : (row_at k.rows c.0).tx < length k.txs = h.linked.txs c.0 no_row c.1 in
          let same : (row_at k.rows c.0).tx ≡ tx =
          one_number k' (rows_are k' h') (row_at k.rows c.0).tx tx (omega (arith, known, on.few)) lt
          (ap (λ (t : Transaction). (payment_of t).id) (on.txs (row_at k.rows c.0).tx known) ∙ ap (λ (p : Payment). p.id) c.3 ∙ eqb-true u.0.id (payment_at k' tx).id u.2) in
          omega (arith, known, same, ge)

  pub right_on : IsRight table' k' a
  right_on = record {
    few = omega (arith, right.few, blocks);
    carriers = λ c lt. elim (cases_lt c (length k.rows)) [ inl less ↦ old_carrier c less | inr ge ↦ new_carrier c ge lt ];
    no_more = (let long : length (k.rows ++ on.more) ≡ length k.rows + length on.more = length-append k.rows on.more in omega (arith, right.no_more, long, ap length on.rows));
    txs = λ tx lt. elim (cases_lt tx (length k.txs)) [ inl less ↦ old_tx tx less | inr ge ↦ new_tx tx ge lt ];
    no_more_txs = omega (arith, right.no_more_txs, on.few);
  }

-- ---- the laws

pub right_of_block : (table : Numbered) (k : Carried) (ts : List Transaction) (a : Acceptance) → IsCarried k → IsCarried (with_block table k ts) → AreInOrder table.parents
    → k.blocks ≤ length table.parents → IsRight table k a → IsRight table (with_block table k ts) a
right_of_block table k ts a h h' order le right =
    right_on table table k (with_block table k ts) a h h' (goes_all table k ts) order le
    (record {
      distinct = distinct_keys table;
      other_distinct = distinct_keys table;
      there = λ z there. key_in table z (omega (arith, le, right.few, of_first a.blocks z there));
      parents = λ z there. refl;
      ranks = λ z there. refl;
      profile = refl;
    })
    (let same : (with_carriers table k ts).blocks ≡ k.blocks = blocks_all table k ts in omega (arith, same)) right

pub right_of_graph : (table : Numbered) (id salt : ℕ) (parents : List ℕ) (k : Carried) (a : Acceptance) → IsCarried k → IsNumbered table
    → k.blocks ≤ length table.parents → IsRight table k a → IsRight (with_next table id salt parents) k a
right_of_graph table id salt parents k a h numbered le right =
    right_on table more k k a h h
    (record { txs = λ t lt. refl; few = omega arith; more = []; rows = sym (append-nil k.rows); later = All-nil (λ (r : Carrier). k.blocks ≤ r.block) }) numbered.order le
    (record {
      distinct = distinct_keys table;
      other_distinct = distinct_keys more;
      there = λ z there. key_in more z (omega (arith, within z there, long));
      parents = λ z there.
          (let lt : z < length table.parents = within z there in
          parents_numbered more z (omega (arith, lt, long)) ∙ get_or-append table.parents (parents ∷ []) [] z lt ∙ sym (parents_numbered table z lt));
      ranks = λ z there.
          (let lt : z < length table.parents = within z there in
          rank_numbered more z (omega (arith, lt, long)) ∙ rank_old table id salt parents z numbered lt ∙ sym (rank_numbered table z lt));
      profile = refl;
    })
    (omega arith) right
  where
    more : Numbered
    more = with_next table id salt parents

    long : length more.parents ≡ length table.parents + 1
    long = length-append table.parents (parents ∷ [])

    within : (z : ℕ) → has (first_blocks a.blocks) z ≡ true → z < length table.parents
    within z there = omega (arith, le, right.few, of_first a.blocks z there)
