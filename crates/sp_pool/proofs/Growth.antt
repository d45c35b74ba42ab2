-- How the set of present blocks grows when a block is added, and that releasing one by one gives that set.
use Rattle.std.proofs.Common.{◌≡◌, ℕ, Bool, true, false, ◌||◌, not, List, [], ◌∷◌, ◌++◌, refl, sym, ap, ◌∙◌, inl, inr, eqb, Some, append_assoc}
use Rattle.std.specs.Prelude.{find}
use Rattle.std.specs.List.{list_all}
use Rattle.std.proofs.lemmas.Bool.{or_cases, eqb-true, eq-eqb, false≢true, or_left, or_right, and_parts}
use Rattle.std.proofs.lemmas.List.Folds.{list_any-append}
use Rattle.sp_block.specs.Block.{ReadBlock}
use Rattle.sp_model.specs.Graph.{has, keys, parents_of, round}
use Rattle.sp_model.proofs.Sets.{all_at, all_from, has-filter, has-filter_from}
use Rattle.sp_model.proofs.Paths.{complete_round, complete_least}
use Rattle.sp_model.proofs.Pasts.{complete_key}
use Rattle.sp_pool.specs.Kept.{AreApart, ids_of, graph_of, is_ready, present, Releases}
use Rattle.sp_pool.proofs.Parents.{keys-graph_of, none_ready, found_id, found_passes, found_parents, parents-push, parents-new, has-ids-push}

pub same_bool : (a b : Bool) → (a ≡ true → b ≡ true) → (b ≡ true → a ≡ true) → a ≡ b
same_bool true b there back = sym (there refl)
same_bool false true there back = back refl
same_bool false false there back = refl

pub round_from : (kept : List ReadBlock) (set : List ℕ) (z : ℕ) → has (ids_of kept) z ≡ true → list_all (has set) (parents_of (graph_of kept) z) ≡ true → has (round (graph_of kept) set) z ≡ true
round_from kept set z here parents =
    has-filter_from (λ z. list_all (λ p. has set p) (parents_of (graph_of kept) z)) (keys (graph_of kept)) z (ap (λ (ids : List ℕ). has ids z) (keys-graph_of kept) ∙ here) parents

pub round_parts : (kept : List ReadBlock) (set : List ℕ) (z : ℕ) → has (round (graph_of kept) set) z ≡ true → (has (ids_of kept) z ≡ true) × (list_all (has set) (parents_of (graph_of kept) z) ≡ true)
round_parts kept set z h =
    let parts = has-filter (λ z. list_all (λ p. has set p) (parents_of (graph_of kept) z)) (keys (graph_of kept)) z h in
    (sym (ap (λ (ids : List ℕ). has ids z) (keys-graph_of kept)) ∙ parts.0, parts.1)

-- a present block is kept
pub present_kept : (kept : List ReadBlock) (z : ℕ) → has (present kept) z ≡ true → has (ids_of kept) z ≡ true
present_kept kept z h = sym (ap (λ (ids : List ℕ). has ids z) (keys-graph_of kept)) ∙ complete_key (graph_of kept) z h

pub kept_push : (kept : List ReadBlock) (b : ReadBlock) (z : ℕ) → has (ids_of kept) z ≡ true → has (ids_of (kept ++ b ∷ [])) z ≡ true
kept_push kept b z here = has-ids-push kept b z ∙ or_left (has (ids_of kept) z) (eqb b.id z) here

-- a present block stays present
pub present_stays : (kept : List ReadBlock) (b : ReadBlock) (z : ℕ) → has (present kept) z ≡ true → has (present (kept ++ b ∷ [])) z ≡ true
present_stays kept b z h = complete_least (graph_of kept) (present (kept ++ b ∷ [])) closed z h
  where
    closed : (z : ℕ) → has (round (graph_of kept) (present (kept ++ b ∷ []))) z ≡ true → has (present (kept ++ b ∷ [])) z ≡ true
    closed z r =
        let parts = round_parts kept (present (kept ++ b ∷ [])) z r in
        complete_round (graph_of (kept ++ b ∷ [])) z
        (round_from (kept ++ b ∷ []) (present (kept ++ b ∷ [])) z (kept_push kept b z parts.0)
        (ap (list_all (has (present (kept ++ b ∷ [])))) (parents-push kept b z parts.0) ∙ parts.1))

-- a new block whose parents are not all present changes nothing
pub present_waits : (kept : List ReadBlock) (b : ReadBlock) → has (ids_of kept) b.id ≡ false → list_all (has (present kept)) b.parents ≡ false
    → (z : ℕ) → has (present (kept ++ b ∷ [])) z ≡ has (present kept) z
present_waits kept b fresh lacks z =
    same_bool (has (present (kept ++ b ∷ [])) z) (has (present kept) z) (complete_least (graph_of (kept ++ b ∷ [])) (present kept) closed z) (present_stays kept b z)
  where
    closed : (z : ℕ) → has (round (graph_of (kept ++ b ∷ [])) (present kept)) z ≡ true → has (present kept) z ≡ true
    closed z r =
        let parts = round_parts (kept ++ b ∷ []) (present kept) z r in
        elim (or_cases (has (ids_of kept) z) (eqb b.id z) (sym (has-ids-push kept b z) ∙ parts.0)) [
          | inl old ↦ complete_round (graph_of kept) z
              (round_from kept (present kept) z old (sym (ap (list_all (has (present kept))) (parents-push kept b z old)) ∙ parts.1))
          | inr new ↦ (let same : b.id ≡ z = eqb-true b.id z new in
              let all : list_all (has (present kept)) (parents_of (graph_of (kept ++ b ∷ [])) b.id) ≡ true = ap (λ (y : ℕ). list_all (has (present kept)) (parents_of (graph_of (kept ++ b ∷ [])) y)) same ∙ parts.1 in
              absurd (false≢true (sym lacks ∙ sym (ap (list_all (has (present kept))) (parents-new kept b fresh)) ∙ all)))
        ]

-- a new block whose parents are all present is present
pub present_joins : (kept : List ReadBlock) (b : ReadBlock) → has (ids_of kept) b.id ≡ false → list_all (has (present kept)) b.parents ≡ true → has (present (kept ++ b ∷ [])) b.id ≡ true
present_joins kept b fresh parents =
    complete_round (graph_of (kept ++ b ∷ [])) b.id
    (round_from (kept ++ b ∷ []) (present (kept ++ b ∷ [])) b.id
    (has-ids-push kept b b.id ∙ or_right (has (ids_of kept) b.id) (eqb b.id b.id) (eq-eqb b.id b.id refl))
    (ap (list_all (has (present (kept ++ b ∷ [])))) (parents-new kept b fresh)
    ∙ all_from (has (present (kept ++ b ∷ []))) b.parents (λ p there. present_stays kept b p (all_at (has (present kept)) b.parents p parents there))))

-- a ready block is present, where the set holds present blocks alone
ready_present : (kept : List ReadBlock) (set : List ℕ) (b : ReadBlock) → AreApart kept → ((z : ℕ) → has set z ≡ true → has (present kept) z ≡ true)
    → find (is_ready set) kept ≡ Some b → has (present kept) b.id ≡ true
ready_present kept set b apart sound found =
    let parents : list_all (has set) b.parents ≡ true = (and_parts (not (has set b.id)) (list_all (has set) b.parents) (found_passes (is_ready set) kept b found)).1 in
    complete_round (graph_of kept) b.id
    (round_from kept (present kept) b.id (found_id (is_ready set) kept b found)
    (ap (list_all (has (present kept))) (found_parents (is_ready set) kept b apart found)
    ∙ all_from (has (present kept)) b.parents (λ p there. sound p (all_at (has set) b.parents p parents there))))

-- what is released one by one, together with the set, is what is present
pub released : (kept : List ReadBlock) (set ids : List ℕ) → AreApart kept → ((z : ℕ) → has set z ≡ true → has (present kept) z ≡ true)
    → Releases kept set ids → (z : ℕ) → has (present kept) z ≡ has (set ++ ids) z
unfolding Releases
released kept set [] apart sound none z =
    same_bool (has (present kept) z) (has (set ++ []) z)
    (λ h. list_any-append (λ k. eqb k z) set [] ∙ or_left (has set z) false (complete_least (graph_of kept) set closed z h))
    (λ h. elim (or_cases (has set z) false (sym (list_any-append (λ k. eqb k z) set []) ∙ h)) [ inl there ↦ sound z there | inr nowhere ↦ absurd (false≢true nowhere) ])
  where
    closed : (z : ℕ) → has (round (graph_of kept) set) z ≡ true → has set z ≡ true
    closed z r = (let parts = round_parts kept set z r in none_ready set z kept none parts.0 parts.1)
released kept set (id ∷ ids) apart sound h z =
    released kept (set ++ id ∷ []) ids apart more h.1 z ∙ ap (λ (s : List ℕ). has s z) (append_assoc set (id ∷ []) ids)
  where
    more : (z : ℕ) → has (set ++ id ∷ []) z ≡ true → has (present kept) z ≡ true
    more z there =
        elim (or_cases (has set z) (eqb id z || false) (sym (list_any-append (λ k. eqb k z) set (id ∷ [])) ∙ there)) [
          | inl old ↦ sound z old
          | inr new ↦ (let same : eqb id z ≡ true = elim (or_cases (eqb id z) false new) [ inl e ↦ e | inr nowhere ↦ absurd (false≢true nowhere) ] in
              ap (has (present kept)) (sym (eqb-true id z same) ∙ sym h.0.same) ∙ ready_present kept set h.0.block apart sound h.0.earliest)
        ]

-- a block that waits isn't present
pub waits_absent : (kept : List ReadBlock) (b : ReadBlock) → has (ids_of kept) b.id ≡ false → list_all (has (present kept)) b.parents ≡ false → has (present (kept ++ b ∷ [])) b.id ≡ false
waits_absent kept b fresh lacks = present_waits kept b fresh lacks b.id ∙ at (has (present kept) b.id) (present_kept kept b.id)
  where
    at : (c : Bool) → (c ≡ true → has (ids_of kept) b.id ≡ true) → c ≡ false
    at true within = absurd (false≢true (sym fresh ∙ within refl))
    at false within = refl

-- a new block is present where its parents were
pub present_by_parents : (kept : List ReadBlock) (b : ReadBlock) → has (ids_of kept) b.id ≡ false
    → has (present (kept ++ b ∷ [])) b.id ≡ list_all (has (present kept)) b.parents
present_by_parents kept b fresh = at (list_all (has (present kept)) b.parents) refl
  where
    at : (c : Bool) → list_all (has (present kept)) b.parents ≡ c → has (present (kept ++ b ∷ [])) b.id ≡ c
    at true all = present_joins kept b fresh all
    at false lacks = waits_absent kept b fresh lacks
