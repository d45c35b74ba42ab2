-- Blocks that arrive in another order: the same of them are present.
use Rattle.std.proofs.Common.{◌≡◌, ℕ, ◌<◌, ◌≤◌, ◌+◌, Bool, true, false, cond, ◌||◌, List, [], ◌∷◌, ◌++◌, append_assoc, append-nil, length, length-append, map, refl, sym, ap, subst, ◌∙◌, eqb, inl, inr, Some, arith, ◌⊎◌}
use Rattle.std.specs.Prelude.{Contains, find}
use Rattle.std.specs.List.{list_all}
use Rattle.std.specs.List.Sorted.{IsPermutation}
use Rattle.std.proofs.lemmas.Bool.{eqb-true, eq-eqb, false≢true, or_left, or_right}
use Rattle.std.proofs.lemmas.List.Elements.{Contains-append_cases, Contains-append_left, Contains-append_right, Contains-push, Contains-push_cases}
use Rattle.std.proofs.lemmas.List.Sorted.{Contains-permutation, IsPermutation-cons, IsPermutation-sym, length_permutation}
use Rattle.sp_block.specs.Block.{ReadBlock}
use Rattle.sp_model.specs.Graph.{Block as Node, has, parents_of, parents_or_none, round}
use Rattle.sp_model.proofs.Paths.{complete_least, complete_round}
use Rattle.sp_pool.specs.Kept.{AreApart, graph_of, ids_of, keep, keep_all, kept_by, kept_of, node_of, present}
use Rattle.sp_pool.proofs.Growth.{round_from, round_parts, same_bool}
use Rattle.sp_pool.proofs.Standings.{Fresh-standing}

-- ---- the blocks of a list

first_or_later : (a b : ReadBlock) (bs : List ReadBlock) → Contains (a ∷ bs) b → (a ≡ b) ⊎ Contains bs b
first_or_later a b bs h =
    elim (Contains-append_cases (a ∷ []) bs b h) [
      | inl first ↦ elim (Contains-push_cases [] a b first) [ inl nowhere ↦ absurd (let below = nowhere.1 in omega (arith, below)) | inr same ↦ inl same ]
      | inr later ↦ inr later
    ]

id_of : (bs : List ReadBlock) (b : ReadBlock) → Contains bs b → has (ids_of bs) b.id ≡ true
id_of [] b h = absurd (let below = h.1 in omega (arith, below))
id_of (a ∷ bs) b h =
    elim (first_or_later a b bs h) [
      | inl same ↦ or_left (eqb a.id b.id) (has (ids_of bs) b.id) (eq-eqb a.id b.id (ap (λ (x : ReadBlock). x.id) same))
      | inr later ↦ or_right (eqb a.id b.id) (has (ids_of bs) b.id) (id_of bs b later)
    ]

-- a block of each id, with its parents
block_of_id : (bs : List ReadBlock) (z : ℕ) → has (ids_of bs) z ≡ true → (b : ReadBlock) × Contains bs b × (b.id ≡ z)
block_of_id [] z h = absurd (false≢true h)
block_of_id (a ∷ bs) z h = at (eqb a.id z) refl h (λ there. block_of_id bs z there)
  where
    at : (c : Bool) → eqb a.id z ≡ c → (c || has (ids_of bs) z) ≡ true → (has (ids_of bs) z ≡ true → (b : ReadBlock) × Contains bs b × (b.id ≡ z))
        → (b : ReadBlock) × Contains (a ∷ bs) b × (b.id ≡ z)
    at true e there rest = (a, Contains-append_left (a ∷ []) bs a (Contains-push [] a), eqb-true a.id z e)
    at false e there rest = (let later = rest there in (later.0, Contains-append_right (a ∷ []) bs later.0 later.1, later.2))

own_parents : (bs : List ReadBlock) (b : ReadBlock) → AreApart bs → Contains bs b → parents_of (graph_of bs) b.id ≡ b.parents
own_parents [] b apart h = absurd (let below = h.1 in omega (arith, below))
own_parents (a ∷ bs) b apart h =
    elim (first_or_later a b bs h) [
      | inl same ↦ first (eqb a.id b.id) (eq-eqb a.id b.id (ap (λ (x : ReadBlock). x.id) same)) same
      | inr there ↦ later (eqb a.id b.id) refl there (own_parents bs b apart.1 there)
    ]
  where
    first : (c : Bool) → c ≡ true → a ≡ b → parents_or_none (cond c (Some (node_of a)) (find (λ (n : Node). eqb n.key b.id) (map node_of bs))) ≡ b.parents
    first true e same = ap (λ (x : ReadBlock). x.parents) same
    first false e same = absurd (false≢true e)

    later : (c : Bool) → eqb a.id b.id ≡ c → Contains bs b → parents_of (graph_of bs) b.id ≡ b.parents
        → parents_or_none (cond c (Some (node_of a)) (find (λ (n : Node). eqb n.key b.id) (map node_of bs))) ≡ b.parents
    later true e there rest = absurd (false≢true (sym apart.0 ∙ ap (has (ids_of bs)) (eqb-true a.id b.id e) ∙ id_of bs b there))
    later false e there rest = rest

-- ---- more blocks have more of them present

pub present_within : (few more : List ReadBlock) → AreApart few → AreApart more → ((b : ReadBlock) → Contains few b → Contains more b)
    → (z : ℕ) → has (present few) z ≡ true → has (present more) z ≡ true
present_within few more apart apart_more within z h = complete_least (graph_of few) (present more) closed z h
  where
    closed : (z : ℕ) → has (round (graph_of few) (present more)) z ≡ true → has (present more) z ≡ true
    closed z r =
        let parts = round_parts few (present more) z r in
        let b = block_of_id few z parts.0 in
        let there = within b.0 b.1 in
        let here : has (ids_of more) z ≡ true = ap (has (ids_of more)) (sym b.2) ∙ id_of more b.0 there in
        let same : parents_of (graph_of more) z ≡ parents_of (graph_of few) z =
        ap (parents_of (graph_of more)) (sym b.2) ∙ own_parents more b.0 apart_more there ∙ sym (own_parents few b.0 apart b.1) ∙ ap (parents_of (graph_of few)) b.2 in
        complete_round (graph_of more) z (round_from more (present more) z here (ap (list_all (has (present more))) same ∙ parts.1))

present_permuted : (kept others : List ReadBlock) → AreApart kept → AreApart others → IsPermutation kept others → (z : ℕ) → has (present kept) z ≡ has (present others) z
present_permuted kept others apart apart_others moved z =
    same_bool (has (present kept) z) (has (present others) z)
    (present_within kept others apart apart_others (λ b h. Contains-permutation kept others b moved h) z)
    (present_within others kept apart_others apart (λ b h. Contains-permutation others kept b (IsPermutation-sym kept others moved) h) z)

-- ---- blocks of different id are all kept, where there is room

fresh_before : (kept : List ReadBlock) (b : ReadBlock) (bs : List ReadBlock) → AreApart (kept ++ b ∷ bs) → has (ids_of kept) b.id ≡ false
fresh_before [] b bs apart = refl
fresh_before (a ∷ kept) b bs apart = at (eqb a.id b.id) refl (fresh_before kept b bs apart.1)
  where
    there : (kept : List ReadBlock) → has (ids_of (kept ++ b ∷ bs)) b.id ≡ true
    there [] = or_left (eqb b.id b.id) (has (ids_of bs) b.id) (eq-eqb b.id b.id refl)
    there (x ∷ kept) = or_right (eqb x.id b.id) (has (ids_of (kept ++ b ∷ bs)) b.id) (there kept)

    at : (c : Bool) → eqb a.id b.id ≡ c → has (ids_of kept) b.id ≡ false → (c || has (ids_of kept) b.id) ≡ false
    at true e rest = absurd (false≢true (sym apart.0 ∙ ap (has (ids_of (kept ++ b ∷ bs))) (eqb-true a.id b.id e) ∙ there kept))
    at false e rest = rest

all_kept : (kept arrivals : List ReadBlock) → AreApart (kept ++ arrivals) → length kept + length arrivals ≤ 512 → keep_all kept arrivals ≡ kept ++ arrivals
all_kept kept [] apart room = sym (append-nil kept)
all_kept kept (b ∷ bs) apart room =
    let fresh = fresh_before kept b bs apart in
    let less : length kept < 512 = omega arith in
    let now : keep kept b ≡ kept ++ b ∷ [] = ap (λ s. kept_by s kept b) (sym (Fresh-standing kept b.id fresh less)) in
    let apart_now : AreApart ((kept ++ b ∷ []) ++ bs) = subst (λ (l : List ReadBlock). AreApart l) (sym (append_assoc kept (b ∷ []) bs)) apart in
    ap (λ (k : List ReadBlock). keep_all k bs) now
    ∙ all_kept (kept ++ b ∷ []) bs apart_now (omega (arith, length-append kept (b ∷ [])))
    ∙ append_assoc kept (b ∷ []) bs

pub in_any_order : (genesis : ReadBlock) (arrivals others : List ReadBlock) → AreApart (genesis ∷ arrivals) → AreApart (genesis ∷ others) → length arrivals ≤ 511
    → IsPermutation arrivals others → (id : ℕ) → has (present (kept_of genesis arrivals)) id ≡ has (present (kept_of genesis others)) id
in_any_order genesis arrivals others apart apart_others room moved id =
    let long = length_permutation arrivals others moved in
    let kept : kept_of genesis arrivals ≡ genesis ∷ arrivals = all_kept (genesis ∷ []) arrivals apart (omega (arith, room)) in
    let other : kept_of genesis others ≡ genesis ∷ others = all_kept (genesis ∷ []) others apart_others (omega (arith, room, long)) in
    ap (λ (k : List ReadBlock). has (present k) id) kept
    ∙ present_permuted (genesis ∷ arrivals) (genesis ∷ others) apart apart_others (IsPermutation-cons genesis arrivals others moved) id
    ∙ sym (ap (λ (k : List ReadBlock). has (present k) id) other)
