-- The output that an outpoint names is that of the numbered transaction of its id.
use Rattle.std.proofs.Common.{◌≡◌, ℕ, ◌<◌, ◌≤◌, Bool, true, false, eqb, length, List, [], ◌∷◌, ◌++◌, inl, inr, refl, sym, ap, ap₂, subst, ◌∙◌, Option, Some, None}
use Rattle.std.specs.Prelude.{find, flat_map, slice_get}
use Rattle.std.specs.List.{HoldsAt, list_any}
use Rattle.std.specs.Option.{MatchOption, option_copied}
use Rattle.std.proofs.lemmas.Option.{slice_get-get_or, slice_get_past}
use denote.Ref.{Bor}
use Rattle.std.proofs.lemmas.Bool.{eq-eqb, eqb-true, or_parts}
use Rattle.sp_ids.specs.declared.outpoint.Outpoint.{Outpoint}
use Rattle.sp_tx.specs.declared.parts.Output.{Output}
use Rattle.sp_tx.specs.Parts.{Transaction}
use Rattle.sp_tx.specs.Spending.{id_of}
use Rattle.sp_block.specs.Block.{ReadBlock}
use Rattle.sp_model.specs.declared.profile.Profile.{Profile}
use Rattle.sp_pool.specs.Kept.{AreApart, present}
use Rattle.sp_dag.specs.Numbered.{Numbered}
use Rattle.sp_carry.specs.declared.state.TxState.TheVariants.{Absent}
use Rattle.sp_carry.specs.Payment.{output_at, output_in, Payment, payment_of}
use Rattle.sp_carry.specs.Ledger.{carried, is_accepted, is_carried, IsPlain, state_by}
use Rattle.sp_carry.specs.Carried.{Carried, first_like, number_of, tx_at}
use Rattle.sp_carry.proofs.Finding.{number_id, number_within}
use Rattle.sp_carry.proofs.Firsts.{found_in, likes_named, named}
use Rattle.sp_carry.proofs.Conflicts.{in_from_has}
use Rattle.sp_carry.proofs.Members.{any_of_member, in_flat_map, in_flat_map_from, in_from_contains, in_map, IsIn, member_of_any}
use Rattle.sp_carry.specs.Flags.{is_set}
use Rattle.sp_accept.specs.Acceptance.{Acceptance}
use Rattle.sp_accept.specs.States.{state_by_number, state_of_flag, state_of_number}
use Rattle.sp_engine.specs.Engine.{IsAccepting, IsEngine}
use Rattle.sp_engine.specs.Presence.{order_of}
use Rattle.sp_engine.specs.Transactions.{ledger_by_id, ledger_of, output_by_id, state_of, txs_in, txs_of}
use Rattle.sp_engine.specs.Votes.{Tallied}
use Rattle.sp_engine.proofs.BalancesByNumbers.{one_payment}
use Rattle.sp_engine.proofs.ByIds.{txs_own}
use Rattle.sp_engine.proofs.NamedCoins.{find_member}
use Rattle.sp_engine.proofs.OrderOfAll.{in_order}
use Rattle.sp_engine.proofs.StatesByNumbers.{state_is}

-- none of the payments has the id
none_found : (ps : List Payment) (id : ℕ) → list_any (λ (p : Payment). eqb p.id id) ps ≡ false → find (λ (p : Payment). eqb p.id id) ps ≡ None
none_found [] id none = refl
none_found (p ∷ ps) id none =
    let parts = or_parts (eqb p.id id) (list_any (λ (q : Payment). eqb q.id id) ps) none in
    rw parts.0 (none_found ps id parts.1)

-- what is told of an id tells whether it is carried
carried_unless : (c b : Bool) → (state_by c b ≡ Absent → ⊥) → c ≡ true
carried_unless true b h = refl
carried_unless false b h = absurd (h refl)

absent_unless : (c b : Bool) → state_by c b ≡ Absent → c ≡ false
absent_unless true true h = cc
absent_unless true false h = cc
absent_unless false b h = refl

flag_told : (b : Bool) → state_of_flag b ≡ Absent → ⊥
flag_told true e = cc
flag_told false e = cc

module _ {bits genesis : ℕ} {kept : List ReadBlock} {blocks : Numbered} {votes : Tallied} {k : Carried} {a : Acceptance} (e : IsEngine bits kept genesis blocks votes) (h : IsAccepting kept blocks k a) where
  abbrev payments : List Payment
  payments = carried (ledger_by_id blocks.profile kept) (present kept)

  told : (id : ℕ) → state_by_number k a.txs id ≡ state_by (is_carried (ledger_by_id blocks.profile kept) (present kept) id) (is_accepted (ledger_by_id blocks.profile kept) (present kept) id)
  unfolding state_of
  told id = state_is e h id (state_by_number k a.txs id) refl

  number_told : (id n : ℕ) → number_of k id ≡ Some n → is_carried (ledger_by_id blocks.profile kept) (present kept) id ≡ true
  number_told id n at =
      carried_unless (is_carried (ledger_by_id blocks.profile kept) (present kept) id) (is_accepted (ledger_by_id blocks.profile kept) (present kept) id)
      (λ absent. flag_told (is_set a.txs n) (sym (ap (state_of_number a.txs) at) ∙ told id ∙ absent))

  none_told : (id : ℕ) → number_of k id ≡ None → is_carried (ledger_by_id blocks.profile kept) (present kept) id ≡ false
  none_told id at =
      absent_unless (is_carried (ledger_by_id blocks.profile kept) (present kept) id) (is_accepted (ledger_by_id blocks.profile kept) (present kept) id)
      (sym (told id) ∙ ap (state_of_number a.txs) at)

  pub output_of_number : (from : Outpoint) (n : ℕ) → number_of k from.tx ≡ Some n → output_by_id kept from ≡ slice_get (tx_at k n).outputs from.index
  unfolding output_by_id
  output_of_number from n at =
      let p = member_of_any (λ (p : Payment). eqb p.id from.tx) payments (number_told from.tx n at) in
      let u = find_member payments from.tx p.0 p.1 (eqb-true p.0.id from.tx p.2) in
      ap (λ (o : Option Payment). output_in o from.index) u.3
      ∙ ap (λ (q : Payment). slice_get q.outputs from.index) (one_payment e h n u.0 (number_within k from.tx n at) u.1 (u.2 ∙ sym (number_id k from.tx n at)))

  pub output_of_none : (from : Outpoint) → number_of k from.tx ≡ None → output_by_id kept from ≡ None
  unfolding output_by_id
  output_of_none from at = ap (λ (o : Option Payment). output_in o from.index) (none_found payments from.tx (none_told from.tx at))

-- ---- where each transaction has an id of its own

flat_alike : {A : Type 0} (f g : ℕ → List A) (zs : List ℕ) → ((z : ℕ) → IsIn zs z → f z ≡ g z) → flat_map f zs ≡ flat_map g zs
flat_alike f g [] h = refl
flat_alike {A} f g (z ∷ zs) h = ap₂ (λ (xs ys : List A). xs ++ ys) (h z (inl refl)) (flat_alike f g zs (λ w there. h w (inr there)))

pub carried_own : (profile : Profile) (kept : List ReadBlock) → AreApart kept → IsPlain (ledger_of profile kept) (present kept)
    → carried (ledger_by_id profile kept) (present kept) ≡ carried (ledger_of profile kept) (present kept)
carried_own profile kept apart plain =
    flat_alike (ledger_by_id profile kept).txs (ledger_of profile kept).txs (present kept)
    (λ z there. txs_own profile kept apart plain z (any_of_member (λ w. eqb w z) (present kept) z there (eq-eqb z z refl)))

pub output_own : (profile : Profile) (kept : List ReadBlock) (from : Outpoint) → AreApart kept → IsPlain (ledger_of profile kept) (present kept)
    → output_by_id kept from ≡ output_at (carried (ledger_of profile kept) (present kept)) from
unfolding output_by_id
output_own profile kept from apart plain = ap (λ (ps : List Payment). output_at ps from) (carried_own profile kept apart plain)

-- ---- no two transactions that stand for the first of their id have one id

abbrev head_or : List Payment → Payment → Payment
head_or [] p = p
head_or (q ∷ qs) p = q

module _ (profile : Profile) (kept : List ReadBlock) (apart : AreApart kept) where
  abbrev all_txs : List Transaction
  all_txs = txs_in kept (order_of kept)

  as_named : (p : Payment) → IsIn (carried (ledger_by_id profile kept) (present kept)) p → named all_txs p.id ≡ p
  as_named p there =
      let z = in_flat_map (ledger_by_id profile kept).txs (present kept) p there in
      let t = in_map (λ t. payment_of (first_like all_txs t)) (txs_of kept z.0) p z.2 in
      let ordered : IsIn (order_of kept) z.0 = in_from_has (order_of kept) z.0 (in_order kept apart z.0 ∙ any_of_member (λ w. eqb w z.0) (present kept) z.0 z.1 (eq-eqb z.0 z.0 refl)) in
      let here : IsIn all_txs t.0 = in_flat_map_from (txs_of kept) (order_of kept) z.0 t.0 ordered t.1 in
      let first : named all_txs (id_of t.0) ≡ payment_of (first_like all_txs t.0) =
      ap (λ (l : List Payment). head_or l p) (likes_named all_txs (t.0 ∷ []) (λ x x_in. elim x_in [ inl same ↦ subst (λ (y : Transaction). IsIn all_txs y) same here | inr none ↦ absurd none ])) in
      let same : p.id ≡ id_of t.0 = ap (λ (q : Payment). q.id) (sym t.2) ∙ (found_in all_txs t.0 here).1 in
      ap (named all_txs) same ∙ first ∙ t.2

  pub plain_by_id : IsPlain (ledger_by_id profile kept) (present kept)
  plain_by_id t u in_t in_u same =
      sym (as_named t (in_from_contains (carried (ledger_by_id profile kept) (present kept)) t in_t))
      ∙ ap (named all_txs) same
      ∙ as_named u (in_from_contains (carried (ledger_by_id profile kept) (present kept)) u in_u)

-- ---- what a look-up in a slice says

pub looked_up : (found : Option (Bor Output)) (list : List Output) (i : ℕ)
    → MatchOption found (length list ≤ i) (λ x. (i < length list) × HoldsAt (λ y. x.now ≡ y) list i) → option_copied found ≡ slice_get list i
looked_up None list i h = sym (slice_get_past list i h)
looked_up (Some x) list i h = ap (λ (y : Output). Some y) (h.1 x.now) ∙ sym (slice_get-get_or list i x.now h.0)
