-- The flags behind an update, and the transactions that turned.
use Rattle.std.proofs.Common.{◌≡◌, ◌<◌, ◌≤◌, ◌+◌, ◌-◌, ◌∙◌, ◌||◌, ◌⊎◌, ℕ, zero, suc, Bool, true, false, cond, List, [], ◌∷◌, ◌++◌, map, replicate, inl, inr, arith, refl, sym, ap, subst, length, get_or, eqb, length-set, length-append, get_or-set_same, get_or-set_other}
use Rattle.std.specs.Prelude.{All, filter, slice_set}
use Rattle.std.specs.List.{list_any, range_with_len}
use Rattle.std.proofs.Math.ListN.{get_or-append}
use Rattle.std.proofs.Math.Seq.{get_or-append_right}
use Rattle.std.proofs.lemmas.List.{get_or-replicate, length-replicate}
use Rattle.std.proofs.lemmas.List.Elements.{All-from_get_or}
use Rattle.std.proofs.lemmas.Bool.{cases_lt, eq-eqb, eqb-true, eqb-false, false≢true}
use Rattle.sp_model.specs.Graph.{keys}
use Rattle.sp_dag.specs.Numbered.{Numbered, graph_of}
use Rattle.sp_carry.specs.declared.carrier.Flip.{Flip}
use Rattle.sp_carry.specs.Ledger.{accepts}
use Rattle.sp_carry.specs.Carried.{Carried, IsCarried, carriers_in, ledger_of}
use Rattle.sp_carry.proofs.Members.{IsIn, any_agrees, any_of_member, in_filter, in_filter_from, in_map, in_map_from}
use Rattle.sp_carry.specs.Flags.{is_set, with_flips}
use Rattle.sp_accept.specs.Acceptance.{Acceptance, IsRight}
use Rattle.sp_accept.specs.Flips.{differ, flips_among, flips_of}
use Rattle.sp_accept.specs.Pass.{is_carried_flag}
use Rattle.sp_accept.specs.Todo.{all_turned, AreSettledBut}
use Rattle.sp_accept.specs.Rows.{payment_at, row_at, AreOf}
use Rattle.sp_accept.proofs.Ranges.{in_range, in_range_from}
use Rattle.sp_accept.proofs.Carriers.{rows_are}
use Rattle.sp_accept.proofs.Numbers.{carrier_of}
use Rattle.sp_accept.proofs.Places.{in_place}
use Rattle.sp_accept.proofs.Passed.{decision_is, right_by, tx_is}
use Rattle.sp_accept.proofs.StillRight.{unset}
use Rattle.sp_accept.proofs.Toggled.{turned_other}

-- ---- flags that aren't set, behind others

pub grown_same : (flags : List Bool) (n c : ℕ) → is_set (flags ++ replicate n false) c ≡ is_set flags c
grown_same flags n c =
    elim (cases_lt c (length flags)) [
      | inl less ↦ get_or-append flags (replicate n false) false c less
      | inr ge ↦ get_or-append_right flags (replicate n false) c false ge ∙ rest (c - length flags) ∙ sym (unset flags c ge)
    ]
  where
    rest : (i : ℕ) → get_or (replicate n false) i false ≡ false
    rest i =
        elim (cases_lt i n) [
          | inl less ↦ get_or-replicate n i false false less
          | inr ge ↦ unset (replicate n false) i (omega (arith, ge, length-replicate n false))
        ]

pub grown_long : (flags : List Bool) (m : ℕ) → length flags ≤ m → length (flags ++ replicate (m - length flags) false) ≡ m
grown_long flags m le =
    (let a : length (flags ++ replicate (m - length flags) false) ≡ length flags + length (replicate (m - length flags) false) = length-append flags (replicate (m - length flags) false) in
    let b : length (replicate (m - length flags) false) ≡ m - length flags = length-replicate (m - length flags) false in omega (arith, a, b, le))

-- ---- transactions

-- one none of whose carriers turned
pub untouched : (k : Carried) (start flags : List Bool) (turned : List ℕ) (tx : ℕ) → flags ≡ all_turned start turned → list_any (λ c. eqb (row_at k.rows c).tx tx) turned ≡ false
    → is_carried_flag k flags tx ≡ is_carried_flag k start tx
untouched k start flags turned tx e off =
    any_agrees (is_set flags) (is_set start) (carriers_in k.rows tx)
    (λ c in_c. ap (λ (l : List Bool). is_set l c) e ∙ still start turned c (carrier_of k.rows tx c in_c).1 off)
  where
    still : (start : List Bool) (turned : List ℕ) (c : ℕ) → (row_at k.rows c).tx ≡ tx → list_any (λ c. eqb (row_at k.rows c).tx tx) turned ≡ false
        → is_set (all_turned start turned) c ≡ is_set start c
    still start [] c own off = refl
    still start (d ∷ turned) c own off =
        let p : (eqb (row_at k.rows d).tx tx ≡ false) × (list_any (λ c. eqb (row_at k.rows c).tx tx) turned ≡ false) = split (eqb (row_at k.rows d).tx tx) _ off in
        still _ turned c own p.1 ∙ turned_other start d c (λ same. false≢true (sym p.0 ∙ eq-eqb (row_at k.rows d).tx tx (ap (λ (n : ℕ). (row_at k.rows n).tx) same ∙ own)))
      where
        split : (a b : Bool) → (a || b) ≡ false → (a ≡ false) × (b ≡ false)
        split true b h = absurd (false≢true (sym h))
        split false b h = (refl, h)

-- ---- settled flags are those of the definition

module _ (table : Numbered) (k : Carried) (carried : IsCarried k) (of : AreOf table k) where
  pub all_settled : (flags : List Bool) → AreSettledBut table k flags (λ _. false) → (c : ℕ) → c < length k.rows
      → is_set flags c ≡ accepts (ledger_of table k) (keys (graph_of table)) (row_at k.rows c).block (payment_at k (row_at k.rows c).tx)
  all_settled flags settled c lc = upto (suc c) c (omega arith) lc
    where
      upto : (n c : ℕ) → c < n → c < length k.rows
          → is_set flags c ≡ accepts (ledger_of table k) (keys (graph_of table)) (row_at k.rows c).block (payment_at k (row_at k.rows c).tx)
      upto zero c lt lc = absurd (omega (arith, lt))
      upto (suc n) c lt lc =
          settled c lc refl
          ∙ decision_is table k (rows_are k carried) of.long of.order of.sound flags c (λ d less. upto n d (omega (arith, less, lt)) (omega (arith, less, lc))) lc

  -- ---- flags that are right

  -- the flag of a transaction is that of its carriers
  pub right_carried : (a : Acceptance) → IsRight table k a → (tx : ℕ) → tx < length k.txs → is_set a.txs tx ≡ is_carried_flag k a.carriers tx
  right_carried a right tx lt = right.txs tx lt ∙ sym (tx_is table k (rows_are k carried) of.long of.order of.sound a.carriers a.blocks tx right.carriers lt)

  pub updated : (a : Acceptance) → a.blocks ≡ k.blocks → length a.carriers ≡ length k.rows → AreSettledBut table k a.carriers (λ _. false) → length a.txs ≡ length k.txs
      → ((t : ℕ) → t < length k.txs → is_set a.txs t ≡ is_carried_flag k a.carriers t) → IsRight table k a
  updated a n long settled long_txs txs =
      right_by table k (rows_are k carried) of.long of.order of.sound a n (omega (arith, long)) (all_settled a.carriers settled) (omega (arith, long_txs)) txs

-- ---- the transactions that turned

same_from_differ : (a b : Bool) → differ a b ≡ false → a ≡ b
same_from_differ true true h = refl
same_from_differ true false h = absurd (false≢true (sym h))
same_from_differ false true h = absurd (false≢true (sym h))
same_from_differ false false h = refl

differ_same : (a b : Bool) → a ≡ b → differ a b ≡ false
differ_same true true e = refl
differ_same true false e = absurd (false≢true (sym e))
differ_same false true e = absurd (false≢true e)
differ_same false false e = refl

module _ (old : List Bool) (new : ℕ → Bool) (touched : ℕ → Bool) (count : ℕ)
    (same : (t : ℕ) → t < count → touched t ≡ false → is_set old t ≡ new t) where
  abbrev differs : Flip → Bool
  differs flip = differ (is_set old flip.tx) flip.now

  abbrev flip_of : ℕ → Flip
  flip_of t = record { tx = t; now = new t }

  -- those that weren't touched are left out
  narrowed : (xs : List ℕ) → ((t : ℕ) → IsIn xs t → t < count) → filter differs (map flip_of (filter touched xs)) ≡ filter differs (map flip_of xs)
  narrowed [] within = refl
  narrowed (t ∷ xs) within = at (touched t) refl (narrowed xs (λ s there. within s (inr there)))
    where
      at : (b : Bool) → touched t ≡ b → filter differs (map flip_of (filter touched xs)) ≡ filter differs (map flip_of xs)
          → filter differs (map flip_of (filter touched (t ∷ xs))) ≡ filter differs (map flip_of (t ∷ xs))
      at true e rest = rw e (ap (λ (l : List Flip). cond (differ (is_set old t) (new t)) (flip_of t ∷ l) l) rest)
      at false e rest = rw (e, differ_same (is_set old t) (new t) (same t (within t (inl refl)) e)) rest

  pub flips_are : flips_among old new (filter touched (range_with_len 0 count)) ≡ flips_among old new (range_with_len 0 count)
  flips_are = narrowed (range_with_len 0 count) (λ t there. (let r : (0 ≤ t) × (t < 0 + count) = in_range 0 count t there in omega (arith, r.1)))

-- each is of one of the transactions, with its new flag
among_is : (old : List Bool) (new : ℕ → Bool) (xs : List ℕ) (f : Flip) → IsIn (flips_among old new xs) f → (f.now ≡ new f.tx) × IsIn xs f.tx
among_is old new xs f h =
    let p : IsIn (map (λ t. record { tx = t; now = new t }) xs) f × (differ (is_set old f.tx) f.now ≡ true) =
    in_filter (λ (flip : Flip). differ (is_set old flip.tx) flip.now) (map (λ t. record { tx = t; now = new t }) xs) f h in
    let t : (t : ℕ) × IsIn xs t × (record { tx = t; now = new t } ≡ f) = in_map (λ t. record { tx = t; now = new t }) xs f p.0 in
    let own : t.0 ≡ f.tx = ap (λ (g : Flip). g.tx) t.2 in
    (sym (ap (λ (g : Flip). g.now) t.2) ∙ ap new own, subst (IsIn xs) own t.1)

below_count : (count t : ℕ) → IsIn (range_with_len 0 count) t → t < count
below_count count t h = (let r : (0 ≤ t) × (t < 0 + count) = in_range 0 count t h in omega (arith, r.1))

pub among_within : (old : List Bool) (new : ℕ → Bool) (touched : ℕ → Bool) (count : ℕ)
    → All (λ (flip : Flip). flip.tx < count) (flips_among old new (filter touched (range_with_len 0 count)))
among_within old new touched count =
    All-from_get_or (λ (flip : Flip). flip.tx < count) (flips_among old new (filter touched (range_with_len 0 count))) (record { tx = 0; now = false })
    (λ i lt. below _ (in_place (flips_among old new (filter touched (range_with_len 0 count))) (record { tx = 0; now = false }) i lt))
  where
    below : (f : Flip) → IsIn (flips_among old new (filter touched (range_with_len 0 count))) f → f.tx < count
    below f h =
        below_count count f.tx (in_filter touched (range_with_len 0 count) f.tx (among_is old new (filter touched (range_with_len 0 count)) f h).1).0

-- flags in which some flips are set
flagged : (base : List Bool) (flips : List Flip) (new : ℕ → Bool) (t : ℕ) → ((f : Flip) → IsIn flips f → (f.now ≡ new f.tx) × (f.tx < length base))
    → (is_set base t ≡ new t) ⊎ (list_any (λ (f : Flip). eqb f.tx t) flips ≡ true) → is_set (with_flips base flips) t ≡ new t
flagged base [] new t each h = elim h [ inl e ↦ e | inr none ↦ absurd (false≢true none) ]
flagged base (f ∷ flips) new t each h =
    flagged (slice_set base f.tx f.now) flips new t
    (λ g there. ((each g (inr there)).0, (let lt : g.tx < length base = (each g (inr there)).1 in omega (arith, lt, length-set base f.tx f.now))))
    (at (eqb f.tx t) refl h)
  where
    at : (b : Bool) → eqb f.tx t ≡ b → (is_set base t ≡ new t) ⊎ (list_any (λ (f : Flip). eqb f.tx t) (f ∷ flips) ≡ true)
        → (is_set (slice_set base f.tx f.now) t ≡ new t) ⊎ (list_any (λ (f : Flip). eqb f.tx t) flips ≡ true)
    at true e h =
        let same : f.tx ≡ t = eqb-true f.tx t e in
        inl (ap (is_set (slice_set base f.tx f.now)) (sym same) ∙ get_or-set_same base f.tx f.now false (each f (inl refl)).1 ∙ (each f (inl refl)).0 ∙ ap new same)
    at false e h =
        elim h [
          | inl was ↦ inl (get_or-set_other base f.tx t f.now false (λ same. eqb-false f.tx t e (sym same)) ∙ was)
          | inr some ↦ inr (sym (ap (λ (b : Bool). b || list_any (λ (f : Flip). eqb f.tx t) flips) e) ∙ some)
        ]

-- the flags with the flips set are the new ones
pub flips_set : (old base : List Bool) (new : ℕ → Bool) (count t : ℕ) → ((s : ℕ) → is_set base s ≡ is_set old s) → length base ≡ count → t < count
    → is_set (with_flips base (flips_among old new (range_with_len 0 count))) t ≡ new t
flips_set old base new count t same long lt =
    flagged base (flips_among old new (range_with_len 0 count)) new t
    (λ f there. (let p : (f.now ≡ new f.tx) × IsIn (range_with_len 0 count) f.tx = among_is old new (range_with_len 0 count) f there in
    let lt : f.tx < count = below_count count f.tx p.1 in (p.0, omega (arith, lt, long)))) (at (differ (is_set old t) (new t)) refl)
  where
    at : (b : Bool) → differ (is_set old t) (new t) ≡ b
        → (is_set base t ≡ new t) ⊎ (list_any (λ (f : Flip). eqb f.tx t) (flips_among old new (range_with_len 0 count)) ≡ true)
    at false e = inl (same t ∙ same_from_differ (is_set old t) (new t) e)
    at true e =
        inr (any_of_member (λ (f : Flip). eqb f.tx t) (flips_among old new (range_with_len 0 count)) (record { tx = t; now = new t })
        (in_filter_from (λ (flip : Flip). differ (is_set old flip.tx) flip.now) (map (λ t. record { tx = t; now = new t }) (range_with_len 0 count)) (record { tx = t; now = new t })
        (in_map_from (λ t. record { tx = t; now = new t }) (range_with_len 0 count) t (in_range_from 0 count t (omega arith) (omega (arith, lt)))) e)
        (eq-eqb t t refl))

mapped_same : (f g : ℕ → Flip) (xs : List ℕ) → ((t : ℕ) → IsIn xs t → f t ≡ g t) → map f xs ≡ map g xs
mapped_same f g [] each = refl
mapped_same f g (t ∷ xs) each =
    (let here : f t ≡ g t = each t (inl refl) in let rest : map f xs ≡ map g xs = mapped_same f g xs (λ s there. each s (inr there)) in cc)

-- the flips are those between the two lists of flags
pub flips_between : (old now : List Bool) (new : ℕ → Bool) (count : ℕ) → ((t : ℕ) → t < count → is_set now t ≡ new t)
    → flips_among old new (range_with_len 0 count) ≡ flips_of old now count
flips_between old now new count each =
    ap (filter (λ (flip : Flip). differ (is_set old flip.tx) flip.now))
    (mapped_same (λ t. record { tx = t; now = new t }) (λ t. record { tx = t; now = is_set now t }) (range_with_len 0 count)
    (λ t there. (let r : (0 ≤ t) × (t < 0 + count) = in_range 0 count t there in
    let e : new t ≡ is_set now t = sym (each t (omega (arith, r.1))) in ap (λ (b : Bool). record { tx = t; now = b }) e)))

-- flips set leave the length
pub flips_long : (base : List Bool) (flips : List Flip) → length (with_flips base flips) ≡ length base
flips_long base [] = refl
flips_long base (f ∷ flips) = flips_long (slice_set base f.tx f.now) flips ∙ length-set base f.tx f.now
