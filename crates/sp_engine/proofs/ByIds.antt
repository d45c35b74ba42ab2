-- Where no two transactions of the present blocks have one id, each stands for itself.
use Rattle.std.proofs.Common.{◌≡◌, ℕ, zero, suc, Bool, true, false, ◌&&◌, ◌||◌, not, eqb, List, [], ◌∷◌, ◌++◌, length, map, Option, Some, None, refl, sym, ap, subst, ◌∙◌, append_assoc, inl, inr}
use Rattle.std.specs.Prelude.{find}
use Rattle.std.specs.List.{list_all}
use Rattle.std.proofs.lemmas.Bool.{and_parts, eqb-true, eq-eqb, false≢true, or_cases}
use Rattle.std.proofs.lemmas.List.{append-nil, map-append}
use Rattle.std.proofs.lemmas.List.Folds.{list_any-append}
use Rattle.sp_tx.specs.Parts.{Transaction}
use Rattle.sp_tx.specs.Spending.{id_of}
use Rattle.sp_block.specs.Block.{ReadBlock}
use Rattle.sp_model.specs.declared.profile.Profile.{Profile}
use Rattle.sp_model.specs.Agreement.{AgreesOn}
use Rattle.sp_model.specs.Graph.{AreDistinct, has, IsDownset, keys}
use Rattle.sp_model.proofs.Pasts.{complete_downset, complete_key}
use Rattle.sp_model.proofs.Paths.{complete_round}
use Rattle.sp_pool.specs.Kept.{AreApart, graph_in, graph_of, ids_of, is_ready, present}
use Rattle.sp_pool.proofs.Profiles.{downset_in}
use Rattle.sp_pool.proofs.Growth.{present_stays, round_from}
use Rattle.sp_pool.proofs.KeptBlocks.{has-push}
use Rattle.sp_pool.proofs.Parents.{found_id, found_parents, found_passes, keys-graph_of}
use Rattle.sp_carry.specs.Payment.{Payment, payment_of}
use Rattle.sp_carry.specs.Carried.{first_like}
use Rattle.sp_carry.specs.Ledger.{carried, is_accepted, IsPlain, state}
use Rattle.sp_carry.proofs.Firsts.{first_or_self}
use Rattle.sp_carry.proofs.Grants.{carried_in}
use Rattle.sp_carry.proofs.Members.{any_of_member, contains_from_in, in_flat_map, in_map_from, IsIn}
use Rattle.sp_accept.proofs.Renamed.{accepted_restricted, state_restricted}
use Rattle.sp_engine.specs.Presence.{joining, joins_then, order_from, order_of}
use Rattle.sp_engine.specs.Transactions.{ledger_by_id, ledger_of, state_of, txs_in, txs_of}
use Rattle.sp_engine.proofs.Counts.{AreDistinct-present}

-- ---- the order of presence has present blocks alone

joining_present : (n : ℕ) (kept : List ReadBlock) (set : List ℕ) → AreApart kept → ((y : ℕ) → has set y ≡ true → has (present kept) y ≡ true)
    → (z : ℕ) → has (set ++ joining n kept set) z ≡ true → has (present kept) z ≡ true
unfolding joining
joining_present zero kept set apart inside z there = inside z (ap (λ (l : List ℕ). has l z) (sym (append-nil set)) ∙ there)
joining_present (suc n) kept set apart inside z there =
    at (find (is_ready set) kept) refl (λ b e. joining_present n kept (set ++ b.id ∷ []) apart (more b e) z) there
  where
    more : (b : ReadBlock) → find (is_ready set) kept ≡ Some b → (y : ℕ) → has (set ++ b.id ∷ []) y ≡ true → has (present kept) y ≡ true
    more b e y in_more =
        elim (or_cases (has set y) (eqb b.id y) (sym (has-push set b.id y) ∙ in_more)) [
          | inl old ↦ inside y old
          | inr new ↦ subst (λ (i : ℕ). has (present kept) i ≡ true) (eqb-true b.id y new) ready
        ]
      where
        all_inside : (ps : List ℕ) → list_all (has set) ps ≡ true → list_all (has (present kept)) ps ≡ true
        all_inside [] h = refl
        all_inside (p ∷ ps) h =
            let parts = and_parts (has set p) (list_all (has set) ps) h in
            ap (λ (c : Bool). c && list_all (has (present kept)) ps) (inside p parts.0) ∙ all_inside ps parts.1

        ready : has (present kept) b.id ≡ true
        ready =
            complete_round (graph_of kept) b.id
            (round_from kept (present kept) b.id (found_id (is_ready set) kept b e)
            (ap (list_all (has (present kept))) (found_parents (is_ready set) kept b apart e)
            ∙ all_inside b.parents (and_parts (not (has set b.id)) (list_all (has set) b.parents) (found_passes (is_ready set) kept b e)).1))

    at : (o : Option ReadBlock) → find (is_ready set) kept ≡ o
        → ((b : ReadBlock) → find (is_ready set) kept ≡ Some b → has ((set ++ b.id ∷ []) ++ joining n kept (set ++ b.id ∷ [])) z ≡ true → has (present kept) z ≡ true)
        → has (set ++ joins_then o (λ id. joining n kept (set ++ id ∷ []))) z ≡ true → has (present kept) z ≡ true
    at None e rest h = inside z (ap (λ (l : List ℕ). has l z) (sym (append-nil set)) ∙ h)
    at (Some b) e rest h = rest b e (ap (λ (l : List ℕ). has l z) (append_assoc set (b.id ∷ []) (joining n kept (set ++ b.id ∷ []))) ∙ h)

front_distinct : (xs ys : List ℕ) → AreDistinct (xs ++ ys) → AreDistinct xs
front_distinct [] ys h = tt
front_distinct (x ∷ xs) ys h = (left (has xs x) (has ys x) (sym (list_any-append (λ k. eqb k x) xs ys) ∙ h.0), front_distinct xs ys h.1)
  where
    left : (a b : Bool) → (a || b) ≡ false → a ≡ false
    left true b e = absurd (false≢true (sym e))
    left false b e = refl

order_in : (kept : List ReadBlock) (set : List ℕ) (more : List ReadBlock) → AreApart (kept ++ more) → ((y : ℕ) → has set y ≡ true → has (present kept) y ≡ true)
    → (z : ℕ) → has (order_from kept set more) z ≡ true → has (present (kept ++ more)) z ≡ true
unfolding order_from
order_in kept set [] apart inside z there = ap (λ (k : List ReadBlock). has (present k) z) (append-nil kept) ∙ inside z there
order_in kept set (b ∷ more) apart inside z there =
    let now : List ReadBlock = kept ++ b ∷ [] in
    let same : (kept ++ b ∷ []) ++ more ≡ kept ++ b ∷ more = append_assoc kept (b ∷ []) more in
    let whole : AreApart ((kept ++ b ∷ []) ++ more) = subst (λ (k : List ReadBlock). AreApart k) (sym same) apart in
    let front : AreApart (kept ++ b ∷ []) =
    front_distinct (ids_of (kept ++ b ∷ [])) (ids_of more) (subst (λ (ids : List ℕ). AreDistinct ids) (map-append (λ (x : ReadBlock). x.id) (kept ++ b ∷ []) more) whole) in
    ap (λ (k : List ReadBlock). has (present k) z) (sym same)
    ∙ order_in (kept ++ b ∷ []) (set ++ joining (length (kept ++ b ∷ [])) (kept ++ b ∷ []) set) more whole
    (joining_present (length (kept ++ b ∷ [])) (kept ++ b ∷ []) set front (λ y h. present_stays kept b y (inside y h))) z there

order_present : (kept : List ReadBlock) → AreApart kept → (z : ℕ) → has (order_of kept) z ≡ true → has (present kept) z ≡ true
order_present kept apart z there = order_in [] [] kept apart (λ y h. absurd (false≢true h)) z there

-- ---- so each transaction of a present block stands for itself

own_all : (all ts : List Transaction) → ((t : Transaction) → IsIn ts t → payment_of (first_like all t) ≡ payment_of t)
    → map (λ t. payment_of (first_like all t)) ts ≡ map payment_of ts
own_all all [] h = refl
own_all all (t ∷ ts) h =
    ap (λ (p : Payment). p ∷ map (λ t. payment_of (first_like all t)) ts) (h t (inl refl))
    ∙ ap (λ (l : List Payment). payment_of t ∷ l) (own_all all ts (λ u there. h u (inr there)))

module _ (profile : Profile) (kept : List ReadBlock) (apart : AreApart kept) (plain : IsPlain (ledger_of profile kept) (present kept)) where
  paid_in : (z : ℕ) (t : Transaction) → has (present kept) z ≡ true → IsIn (txs_of kept z) t → IsIn (carried (ledger_of profile kept) (present kept)) (payment_of t)
  paid_in z t there t_in = carried_in (ledger_of profile kept) (present kept) z (payment_of t) there (in_map_from payment_of (txs_of kept z) t t_in)

  one_payment : (u t : Transaction) → IsIn (carried (ledger_of profile kept) (present kept)) (payment_of u) → IsIn (carried (ledger_of profile kept) (present kept)) (payment_of t)
      → id_of u ≡ id_of t → payment_of u ≡ payment_of t
  one_payment u t u_in t_in same =
      plain (payment_of u) (payment_of t) (contains_from_in (carried (ledger_of profile kept) (present kept)) (payment_of u) u_in)
      (contains_from_in (carried (ledger_of profile kept) (present kept)) (payment_of t) t_in) same

  stands_for_itself : (z : ℕ) (t : Transaction) → has (present kept) z ≡ true → IsIn (txs_of kept z) t
      → payment_of (first_like (txs_in kept (order_of kept)) t) ≡ payment_of t
  stands_for_itself z t there t_in =
      elim (first_or_self (txs_in kept (order_of kept)) t) [
        | inl self ↦ ap payment_of self
        | inr first ↦ (let w : (w : ℕ) × IsIn (order_of kept) w × IsIn (txs_of kept w) (first_like (txs_in kept (order_of kept)) t) =
            in_flat_map (txs_of kept) (order_of kept) (first_like (txs_in kept (order_of kept)) t) first.0 in
            one_payment (first_like (txs_in kept (order_of kept)) t) t
            (paid_in w.0 (first_like (txs_in kept (order_of kept)) t)
            (order_present kept apart w.0 (any_of_member (λ k. eqb k w.0) (order_of kept) w.0 w.1 (eq-eqb w.0 w.0 refl))) w.2)
            (paid_in z t there t_in) first.1)
      ]

  pub txs_own : (z : ℕ) → has (present kept) z ≡ true → (ledger_by_id profile kept).txs z ≡ (ledger_of profile kept).txs z
  txs_own z there = own_all (txs_in kept (order_of kept)) (txs_of kept z) (λ t t_in. stands_for_itself z t there t_in)

  down : IsDownset (graph_in profile kept) (present kept)
  down = downset_in profile kept (present kept) (complete_downset (graph_of kept))

  keys_distinct : AreDistinct (keys (graph_of kept))
  keys_distinct = subst (λ (ids : List ℕ). AreDistinct ids) (sym (keys-graph_of kept)) apart

  agrees : AgreesOn (present kept) (graph_in profile kept) (graph_in profile kept)
  agrees = record { distinct = keys_distinct; other_distinct = keys_distinct; there = complete_key (graph_of kept); parents = λ z there. refl; ranks = λ z there. refl; profile = refl }

  pub states_agree : (id : ℕ) → state_of profile kept id ≡ state (ledger_of profile kept) (present kept) id
  unfolding state_of
  states_agree id =
      state_restricted (ledger_of profile kept) (ledger_by_id profile kept) (present kept) id agrees down (AreDistinct-present kept apart) txs_own plain

  pub acceptance_agrees : (id : ℕ) → is_accepted (ledger_by_id profile kept) (present kept) id ≡ is_accepted (ledger_of profile kept) (present kept) id
  acceptance_agrees id =
      accepted_restricted (ledger_of profile kept) (ledger_by_id profile kept) (present kept) id agrees down (AreDistinct-present kept apart) txs_own plain
