-- No two transactions of one kept block have an outpoint in common, and none has one twice, since the block's bytes meet the rules.
use Rattle.std.proofs.Common.{◌≡◌, ◌⊎◌, ℕ, suc, Bool, true, false, cond, ◌||◌, not, eqb, List, [], ◌∷◌, map, take, Some, refl, sym, ap, ◌∙◌, subst, inl, inr, arith}
use Rattle.std.specs.Prelude.{find, flat_map, Contains}
use Rattle.std.specs.List.{list_any}
use Rattle.std.proofs.lemmas.Bool.{and_from, and_parts, eq-eqb, false_from_ne_true, false≢true, not_from_false, not-true}
use Rattle.sp_form.specs.Turns.{InTurn}
use Rattle.sp_ids.specs.Outpoints.{same_outpoint}
use Rattle.sp_ids.specs.declared.outpoint.Outpoint.{Outpoint}
use Rattle.sp_tx.specs.declared.parts.Input.{Input}
use Rattle.sp_tx.specs.Parts.{Transaction}
use Rattle.sp_tx.specs.Spelling.{IsTx}
use Rattle.sp_block.specs.Block.{IsBlock, parts_of, ReadBlock}
use Rattle.sp_block.specs.Format.{outpoints, shares_outpoint, with_tx}
use Rattle.sp_block.specs.Spelling.{IsCarried, MeetsRules}
use Rattle.sp_block.proofs.Whole.{only_spelling}
use Rattle.sp_model.specs.declared.profile.Profile.{Profile}
use Rattle.sp_pool.specs.Kept.{AreKept, present}
use Rattle.sp_carry.specs.Payment.{conflicts, is_same_outpoint, names_once, Payment, payment_of, Spent, spends, spent_by}
use Rattle.sp_carry.specs.Ledger.{HasNoTwins, NamesOnce}
use Rattle.sp_carry.specs.Lookups.{AreApart, is_spent_by}
use Rattle.sp_carry.proofs.Apart.{inputs_apart}
use Rattle.sp_carry.proofs.Conflicts.{same_outpoint_turned}
use Rattle.sp_carry.proofs.Members.{any_of_member, contains_from_in, in_append_left, in_append_right, in_flat_map, in_flat_map_from, in_from_contains, in_map, in_map_from, IsIn, member_meets, member_of_any}
use Rattle.sp_engine.specs.Transactions.{ledger_of, txs_of, txs_or_none}

-- ---- the transactions of a kept block

-- an id has no transactions, or those of a kept block
pub block_of_txs : (kept : List ReadBlock) (id : ℕ) → (txs_of kept id ≡ []) ⊎ ((b : ReadBlock) × IsIn kept b × (txs_of kept id ≡ b.txs))
block_of_txs [] id = inl refl
block_of_txs (x ∷ rest) id = at (eqb x.id id) (block_of_txs rest id)
  where
    at : (c : Bool) → (txs_of rest id ≡ []) ⊎ ((b : ReadBlock) × IsIn rest b × (txs_of rest id ≡ b.txs))
        → (txs_or_none (cond c (Some x) (find (λ (b : ReadBlock). eqb b.id id) rest)) ≡ [])
        ⊎ ((b : ReadBlock) × IsIn (x ∷ rest) b × (txs_or_none (cond c (Some x) (find (λ (b : ReadBlock). eqb b.id id) rest)) ≡ b.txs))
    at true later = inr (x, inl refl, refl)
    at false later = elim later [ inl none ↦ inl none | inr r ↦ inr (r.0, inr r.1, r.2) ]

-- the rules that the bytes of a block meet
pub rules_of : (b : ReadBlock) (h : IsBlock b) → MeetsRules h.genesis (parts_of b)
rules_of b h = (only_spelling b.bytes h.genesis (parts_of b) h.bytes h.spells).0.rules

pub all_txs : (genesis : Bool) (earlier ts : List Transaction) (t : Transaction) → InTurn (IsCarried genesis) with_tx earlier ts → IsIn ts t → IsTx t
all_txs genesis earlier [] t turn there = absurd there
all_txs genesis earlier (x ∷ xs) t turn there =
    elim there [
      | inl same ↦ subst (λ (u : Transaction). IsTx u) same turn.0.tx
      | inr later ↦ all_txs genesis (with_tx earlier x) xs t turn.1 later
    ]

-- each transaction of a kept block meets the rules
pub kept_txs : (kept : List ReadBlock) (id : ℕ) (t : Transaction) → AreKept kept → IsIn (txs_of kept id) t → IsTx t
kept_txs kept id t h there =
    elim (block_of_txs kept id) [
      | inl none ↦ absurd (subst (λ (ts : List Transaction). IsIn ts t) none there)
      | inr r ↦ (let block : IsBlock r.0 = member_meets IsBlock kept r.0 h.are_blocks r.1 in
          all_txs block.genesis [] r.0.txs t (rules_of r.0 block).txs (subst (λ (ts : List Transaction). IsIn ts t) r.2 there))
    ]

-- ---- outpoints in common

abbrev Shares : Transaction → Transaction → Type 0
Shares t u = (o : Outpoint) × (p : Outpoint) × IsIn (outpoints t) o × IsIn (outpoints u) p × (same_outpoint o p ≡ true)

shares_turned : (t u : Transaction) → Shares t u → Shares u t
shares_turned t u s = (s.1, s.0, s.3, s.2, same_outpoint_turned s.0 s.1 s.4)

-- a transaction that shares no outpoint with the earlier ones shares none with one of them
none_shared : (earlier : List Transaction) (t u : Transaction) → shares_outpoint earlier t ≡ false → IsIn earlier u → Shares t u → ⊥
none_shared earlier t u new there s =
    false≢true (sym new
    ∙ any_of_member (λ o. list_any (same_outpoint o) (flat_map outpoints earlier)) (outpoints t) s.0 s.2
    (any_of_member (same_outpoint s.0) (flat_map outpoints earlier) s.1 (in_flat_map_from outpoints earlier u s.1 there s.3) s.4))

later_apart : (genesis : Bool) (earlier ts : List Transaction) (t u : Transaction) → InTurn (IsCarried genesis) with_tx earlier ts → IsIn ts t → IsIn earlier u → Shares t u → ⊥
later_apart genesis earlier [] t u turn in_t in_u s = in_t
later_apart genesis earlier (x ∷ xs) t u turn in_t in_u s =
    elim in_t [
      | inl same ↦ none_shared earlier t u (subst (λ (v : Transaction). shares_outpoint earlier v ≡ false) same turn.0.new_outpoints) in_u s
      | inr later ↦ later_apart genesis (with_tx earlier x) xs t u turn.1 later (in_append_left earlier (x ∷ []) u in_u) s
    ]

-- two transactions of one block are the same, or share no outpoint
apart_in_block : (genesis : Bool) (earlier ts : List Transaction) (t u : Transaction) → InTurn (IsCarried genesis) with_tx earlier ts → IsIn ts t → IsIn ts u → (t ≡ u) ⊎ (Shares t u → ⊥)
apart_in_block genesis earlier [] t u turn in_t in_u = absurd in_t
apart_in_block genesis earlier (x ∷ xs) t u turn in_t in_u =
    elim in_t [
      | inl t_first ↦ elim in_u [
        | inl u_first ↦ inl (sym t_first ∙ u_first)
        | inr u_later ↦ inr (λ s. later_apart genesis (with_tx earlier x) xs u t turn.1 u_later (in_append_right earlier (x ∷ []) t (inl t_first)) (shares_turned t u s))
      ]
      | inr t_later ↦ elim in_u [
        | inl u_first ↦ inr (λ s. later_apart genesis (with_tx earlier x) xs t u turn.1 t_later (in_append_right earlier (x ∷ []) u (inl u_first)) s)
        | inr u_later ↦ apart_in_block genesis (with_tx earlier x) xs t u turn.1 t_later u_later
      ]
    ]

-- payments that conflict have different ids, and share an outpoint
conflict_shares : (t u : Transaction) → conflicts (payment_of t) (payment_of u) ≡ true → (t ≡ u → ⊥) × Shares t u
conflict_shares t u h =
    let p = and_parts (not (eqb (payment_of t).id (payment_of u).id)) (list_any (λ (i : Spent). spends (payment_of u) i.from) (payment_of t).inputs) h in
    let i : (i : Spent) × IsIn (map spent_by t.inputs) i × (spends (payment_of u) i.from ≡ true) =
    member_of_any (λ (i : Spent). spends (payment_of u) i.from) (map spent_by t.inputs) p.1 in
    let j : (j : Spent) × IsIn (map spent_by u.inputs) j × (is_same_outpoint j.from i.0.from ≡ true) =
    member_of_any (λ (j : Spent). is_same_outpoint j.from i.0.from) (map spent_by u.inputs) i.2 in
    let a : (a : Input) × IsIn t.inputs a × (spent_by a ≡ i.0) = in_map spent_by t.inputs i.0 i.1 in
    let b : (b : Input) × IsIn u.inputs b × (spent_by b ≡ j.0) = in_map spent_by u.inputs j.0 j.1 in (
      λ same. false≢true (sym (not-true (eqb (payment_of t).id (payment_of u).id) p.0)
          ∙ eq-eqb (payment_of t).id (payment_of u).id (ap (λ (v : Transaction). (payment_of v).id) same)),
      (
        a.0.from,
        b.0.from,
        in_map_from (λ (input : Input). input.from) t.inputs a.0 a.1,
        in_map_from (λ (input : Input). input.from) u.inputs b.0 b.1,
        same_outpoint_turned b.0.from a.0.from
            (ap (λ (s : Spent). is_same_outpoint s.from a.0.from) b.2 ∙ ap (λ (s : Spent). is_same_outpoint j.0.from s.from) a.2 ∙ j.2),
      ),
    )

twins_apart : (genesis : Bool) (ts : List Transaction) (t u : Transaction) → InTurn (IsCarried genesis) with_tx [] ts → IsIn ts t → IsIn ts u → conflicts (payment_of t) (payment_of u) ≡ false
twins_apart genesis ts t u turn in_t in_u =
    false_from_ne_true (conflicts (payment_of t) (payment_of u)) (λ h.
    let c : (t ≡ u → ⊥) × Shares t u = conflict_shares t u h in
    elim (apart_in_block genesis [] ts t u turn in_t in_u) [ inl same ↦ c.0 same | inr apart ↦ apart c.1 ])

twins_of : (kept : List ReadBlock) (id : ℕ) (t u : Transaction) → AreKept kept → IsIn (txs_of kept id) t → IsIn (txs_of kept id) u → conflicts (payment_of t) (payment_of u) ≡ false
twins_of kept id t u h in_t in_u =
    elim (block_of_txs kept id) [
      | inl none ↦ absurd (subst (λ (ts : List Transaction). IsIn ts t) none in_t)
      | inr r ↦ (let block : IsBlock r.0 = member_meets IsBlock kept r.0 h.are_blocks r.1 in
          twins_apart block.genesis r.0.txs t u (rules_of r.0 block).txs
          (subst (λ (ts : List Transaction). IsIn ts t) r.2 in_t) (subst (λ (ts : List Transaction). IsIn ts u) r.2 in_u))
    ]

pub no_twins : (profile : Profile) (kept : List ReadBlock) → AreKept kept → HasNoTwins (ledger_of profile kept) (present kept)
no_twins profile kept h z t u there in_t in_u =
    let a : (a : Transaction) × IsIn (txs_of kept z) a × (payment_of a ≡ t) = in_map payment_of (txs_of kept z) t (in_from_contains ((ledger_of profile kept).txs z) t in_t) in
    let b : (b : Transaction) × IsIn (txs_of kept z) b × (payment_of b ≡ u) = in_map payment_of (txs_of kept z) u (in_from_contains ((ledger_of profile kept).txs z) u in_u) in
    sym (ap (λ (p : Payment). conflicts p (payment_of b.0)) a.2 ∙ ap (conflicts t) b.2) ∙ twins_of kept z a.0 b.0 h a.1 b.1

-- ---- outpoints of one transaction

-- the input behind the first, whatever stands at the places behind it
apart_rest : (x : Input) (xs : List Input) → AreApart (x ∷ xs) → AreApart xs
apart_rest x xs apart i input lt e = neither (is_same_outpoint input.from x.from) (is_spent_by input.from (take i xs)) (apart (suc i) input (omega (arith, lt)) e)
  where
    neither : (c d : Bool) → (c || d) ≡ false → d ≡ false
    neither true d h = absurd (false≢true (sym h))
    neither false d h = h

apart_first : (x y : Input) (xs : List Input) → AreApart (x ∷ xs) → IsIn xs y → is_same_outpoint y.from x.from ≡ false
apart_first x y xs apart there =
    let c : Contains xs y = contains_from_in xs y there in
    here (is_same_outpoint y.from x.from) (is_spent_by y.from (take c.0 xs)) (apart (suc c.0) y (omega (arith, c.1)) (sym c.2))
  where
    here : (c d : Bool) → (c || d) ≡ false → c ≡ false
    here true d h = h
    here false d h = refl

once_of : (inputs : List Input) → AreApart inputs → names_once (map spent_by inputs) ≡ true
once_of [] apart = refl
once_of (x ∷ xs) apart =
    and_from (not (list_any (λ (j : Spent). is_same_outpoint j.from x.from) (map spent_by xs))) (names_once (map spent_by xs))
    (not_from_false (list_any (λ (j : Spent). is_same_outpoint j.from x.from) (map spent_by xs)) (false_from_ne_true (list_any (λ (j : Spent). is_same_outpoint j.from x.from) (map spent_by xs)) again))
    (once_of xs (apart_rest x xs apart))
  where
    again : list_any (λ (j : Spent). is_same_outpoint j.from x.from) (map spent_by xs) ≡ true → ⊥
    again h =
        let j : (j : Spent) × IsIn (map spent_by xs) j × (is_same_outpoint j.from x.from ≡ true) = member_of_any (λ (j : Spent). is_same_outpoint j.from x.from) (map spent_by xs) h in
        let y : (y : Input) × IsIn xs y × (spent_by y ≡ j.0) = in_map spent_by xs j.0 j.1 in
        false≢true (sym (apart_first x y.0 xs apart y.1) ∙ ap (λ (s : Spent). is_same_outpoint s.from x.from) y.2 ∙ j.2)

pub named_once : (profile : Profile) (kept : List ReadBlock) → AreKept kept → NamesOnce (ledger_of profile kept) (present kept)
named_once profile kept h t there =
    let z : (z : ℕ) × IsIn (present kept) z × IsIn (map payment_of (txs_of kept z)) t =
    in_flat_map (ledger_of profile kept).txs (present kept) t (in_from_contains (flat_map (ledger_of profile kept).txs (present kept)) t there) in
    let a : (a : Transaction) × IsIn (txs_of kept z.0) a × (payment_of a ≡ t) = in_map payment_of (txs_of kept z.0) t z.2 in
    ap (λ (p : Payment). names_once p.inputs) (sym a.2) ∙ once_of a.0.inputs (inputs_apart a.0 (kept_txs kept z.0 a.0 h a.1))
