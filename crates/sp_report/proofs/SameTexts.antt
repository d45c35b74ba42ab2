-- Over the same blocks in two orders stand the same texts.
use Rattle.std.proofs.Common.{◌≡◌, ℕ, Bool, true, false, ◌-◌, ◌++◌, [], ◌∷◌, List, length, refl, sym, ap, ap₂, ◌∙◌, eqb, inl, inr, arith}
use Rattle.std.specs.Prelude.{filter, not}
use Rattle.std.specs.List.{flat_map}
use Rattle.std.proofs.lemmas.Bool.{cases_Bool, false≢true}
use Rattle.sp_block.specs.Ascending.{ascending}
use Rattle.sp_block.specs.Block.{ReadBlock}
use Rattle.sp_block.proofs.Ascent.{ascending_permuted}
use Rattle.sp_model.specs.Graph.{AreDistinct, has}
use Rattle.sp_model.proofs.Sets.{has-filter, has-filter_from}
use Rattle.sp_model.specs.declared.profile.Profile.{Profile}
use Rattle.sp_pool.specs.Kept.{AreApart, present}
use Rattle.sp_carry.specs.Ledger.{is_accepted, IsPlain}
use Rattle.sp_engine.specs.Presence.{order_of}
use Rattle.sp_engine.specs.Transactions.{balance_by_id, ledger_by_id, ledger_of, locks, tx_ids, tx_ids_in}
use Rattle.sp_engine.proofs.Alike.{same_accepted, same_balance, same_count, same_plain, same_present, same_present_count, same_tx_ids, same_word}
use Rattle.sp_engine.proofs.BalancesOwn.{balances_agree}
use Rattle.sp_engine.proofs.ByIds.{acceptance_agrees}
use Rattle.sp_engine.proofs.Counts.{AreDistinct-present, same_length}
use Rattle.sp_engine.proofs.EachOnce.{each_is_once}
use Rattle.sp_engine.proofs.PaidLocks.{locks_once, unpaid}
use Rattle.sp_engine.proofs.SameKept.{AreAlike}
use Rattle.sp_names.specs.Labels.{AllLabels, in_order}
use Rattle.sp_report.specs.Lines.{balance_count_text, balance_text, blocks_text, pair_count_text, vote_text}
use Rattle.sp_report.specs.Naming.{label_of}
use Rattle.sp_report.specs.Texts.{accepted_ids, all_accepted_text, all_paid_text, counts_text, paid_locks, paid_text, pair_text, pairs_of, pairs_of_ids_text, pairs_text, present_ids, report_text}
use Rattle.sp_report.proofs.NamedIds.{distinct_passing}
use Rattle.sp_report.proofs.SortedIds.{permuted}

-- ---- lists

-- different numbers, whatever their order
same_ascending : (xs ys : List ℕ) → AreDistinct xs → AreDistinct ys → ((z : ℕ) → has xs z ≡ has ys z) → ascending xs ≡ ascending ys
same_ascending xs ys once other same =
    ascending_permuted xs ys (permuted xs ys once (λ z there. sym (same z) ∙ there) (let long = same_length xs ys once other same in omega (arith, long)))

same_truth : (a b : Bool) → (a ≡ true → b ≡ true) → (b ≡ true → a ≡ true) → a ≡ b
same_truth true b f g = sym (f refl)
same_truth false true f g = g refl
same_truth false false f g = refl

flat_map_same : {A : Type 0} (f g : A → List ℕ) → ((x : A) → f x ≡ g x) → (xs : List A) → flat_map f xs ≡ flat_map g xs
flat_map_same f g same [] = refl
flat_map_same f g same (x ∷ xs) = ap₂ (λ (s t : List ℕ). s ++ t) (same x) (flat_map_same f g same xs)

-- those that pass a test, which is the same for both
same_passing : (p q : ℕ → Bool) (xs ys : List ℕ) → ((z : ℕ) → p z ≡ q z) → ((z : ℕ) → p z ≡ true → has xs z ≡ has ys z) → (z : ℕ) → has (filter p xs) z ≡ has (filter q ys) z
same_passing p q xs ys alike same z =
    same_truth (has (filter p xs) z) (has (filter q ys) z)
    (λ there. let both = has-filter p xs z there in has-filter_from q ys z (sym (same z both.1) ∙ both.0) (sym (alike z) ∙ both.1))
    (λ there. let both = has-filter q ys z there in let passes = alike z ∙ both.1 in has-filter_from p xs z (same z passes ∙ both.0) passes)

-- ---- two lists of kept blocks with the same blocks

module _ (profile : Profile) (labels : AllLabels) (kept others : List ReadBlock) (alike : AreAlike kept others) where
  same_order : present_ids labels kept ≡ present_ids labels others
  same_order =
      ap (in_order labels.blocks)
      (same_ascending (present kept) (present others) (AreDistinct-present kept alike.apart) (AreDistinct-present others alike.other_apart) (same_present kept others alike))

  pub same_pairs : pairs_text profile labels kept ≡ pairs_text profile labels others
  unfolding pairs_of_ids_text
  same_pairs =
      ap (pairs_of_ids_text profile labels kept) same_order
      ∙ ap (λ (t : List ℕ). pair_count_text (length (pairs_of (present_ids labels others))) ++ t)
      (flat_map_same (pair_text profile labels kept) (pair_text profile labels others)
      (λ pair. ap (vote_text (label_of labels.blocks pair.0) (label_of labels.blocks pair.1)) (sym (same_word kept others alike profile pair.0 pair.1))) (pairs_of (present_ids labels others)))

  same_counts : counts_text kept ≡ counts_text others
  same_counts = ap₂ (λ (up all : ℕ). blocks_text up (all - up)) (same_present_count kept others alike) (same_count kept others alike)

  module _ (plain : IsPlain (ledger_of profile kept) (present kept)) where
    same_acceptance : (id : ℕ) → is_accepted (ledger_by_id profile kept) (present kept) id ≡ is_accepted (ledger_by_id profile others) (present others) id
    same_acceptance id =
        acceptance_agrees profile kept alike.apart plain id
        ∙ sym (same_accepted kept others alike profile id plain)
        ∙ sym (acceptance_agrees profile others alike.other_apart (same_plain kept others alike plain) id)

    pub same_left : (lock : ℕ) → balance_by_id profile kept lock ≡ balance_by_id profile others lock
    same_left lock =
        balances_agree profile kept alike.apart plain lock
        ∙ sym (same_balance profile kept others lock alike plain)
        ∙ sym (balances_agree profile others alike.other_apart (same_plain kept others alike plain) lock)

    same_ids : accepted_ids profile labels kept ≡ accepted_ids profile labels others
    same_ids =
        let p : ℕ → Bool = λ id. is_accepted (ledger_by_id profile kept) (present kept) id in
        let q : ℕ → Bool = λ id. is_accepted (ledger_by_id profile others) (present others) id in
        ap (in_order labels.txs) (same_ascending (filter p (tx_ids kept)) (filter q (tx_ids others))
        (distinct_passing p (tx_ids kept) (each_is_once (tx_ids_in kept (order_of kept)))) (distinct_passing q (tx_ids others) (each_is_once (tx_ids_in others (order_of others))))
        (same_passing p q (tx_ids kept) (tx_ids others) same_acceptance (λ z passes. same_tx_ids kept others alike z)))

    -- a lock under which anything is left is listed in both
    listed : (k : List ReadBlock) → AreApart k → (lock : ℕ) → not (eqb (balance_by_id profile k lock) 0) ≡ true → has (locks k) lock ≡ true
    listed k apart lock paid = elim (cases_Bool (has (locks k) lock)) [
      | inl e ↦ e
      | inr e ↦ absurd (false≢true (sym (ap (λ (n : ℕ). not (eqb n 0)) (unpaid profile k apart lock e)) ∙ paid))
    ]

    same_locks : paid_locks profile labels kept ≡ paid_locks profile labels others
    same_locks =
        let p : ℕ → Bool = λ lock. not (eqb (balance_by_id profile kept lock) 0) in
        let q : ℕ → Bool = λ lock. not (eqb (balance_by_id profile others lock) 0) in
        let same : (lock : ℕ) → p lock ≡ q lock = λ lock. ap (λ (n : ℕ). not (eqb n 0)) (same_left lock) in
        ap (in_order labels.locks) (same_ascending (filter p (locks kept)) (filter q (locks others))
        (distinct_passing p (locks kept) (locks_once kept)) (distinct_passing q (locks others) (locks_once others))
        (same_passing p q (locks kept) (locks others) same
        (λ z passes. listed kept alike.apart z passes ∙ sym (listed others alike.other_apart z (sym (same z) ∙ passes)))))

    pub same_report : report_text profile labels kept ≡ report_text profile labels others
    unfolding report_text all_paid_text
    same_report =
        ap₂ (λ (counts : List ℕ) (ids : List ℕ). counts ++ (all_accepted_text labels ids ++ all_paid_text profile labels kept (paid_locks profile labels kept))) same_counts same_ids
        ∙ ap (λ (t : List ℕ). counts_text others ++ (all_accepted_text labels (accepted_ids profile labels others) ++ t))
        (ap (all_paid_text profile labels kept) same_locks
        ∙ ap (λ (t : List ℕ). balance_count_text (length (paid_locks profile labels others)) ++ t)
        (flat_map_same (paid_text profile labels kept) (paid_text profile labels others) (λ lock. ap (balance_text (label_of labels.locks lock)) (same_left lock)) (paid_locks profile labels others)))
