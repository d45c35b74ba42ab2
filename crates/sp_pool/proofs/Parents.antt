-- The parents of a kept block in the graph of the kept blocks.
use Rattle.std.proofs.Common.{◌≡◌, ℕ, Bool, true, false, cond, ◌&&◌, ◌||◌, not, List, [], ◌∷◌, ◌++◌, refl, sym, ap, ◌∙◌, inl, inr, eqb, Some, None, ◌⊎◌}
use Rattle.std.specs.Prelude.{find, map}
use Rattle.std.specs.List.{list_all}
use Rattle.std.proofs.lemmas.Bool.{eqb-true, eq-eqb, false≢true, or_left, or_right}
use Rattle.std.proofs.lemmas.Option.{none-some, same_Some}
use Rattle.sp_block.specs.Block.{ReadBlock}
use Rattle.sp_model.specs.Graph.{Block as Node, has, keys, parents_of, parents_or_none}
use Rattle.sp_pool.specs.Kept.{AreApart, ids_of, graph_of, node_of, is_ready}

-- the keys of the graph are the ids
pub keys-graph_of : (kept : List ReadBlock) → keys (graph_of kept) ≡ ids_of kept
keys-graph_of [] = refl
keys-graph_of (b ∷ bs) = ap (λ (ids : List ℕ). b.id ∷ ids) (keys-graph_of bs)

-- a search that finds nothing
find_none : (p : ReadBlock → Bool) (b : ReadBlock) (bs : List ReadBlock) → find p (b ∷ bs) ≡ None → (p b ≡ false) × (find p bs ≡ None)
find_none p b bs none = at (p b) refl none
  where
    at : (c : Bool) → p b ≡ c → cond c (Some b) (find p bs) ≡ None → (p b ≡ false) × (find p bs ≡ None)
    at true e h = absurd (none-some b (sym h))
    at false e h = (e, h)

-- a search that finds a block finds it here or later
pub find_some : (p : ReadBlock → Bool) (a b : ReadBlock) (bs : List ReadBlock) → find p (a ∷ bs) ≡ Some b → ((p a ≡ true) × (a ≡ b)) ⊎ (find p bs ≡ Some b)
find_some p a b bs found = at (p a) refl found
  where
    at : (c : Bool) → p a ≡ c → cond c (Some a) (find p bs) ≡ Some b → ((p a ≡ true) × (a ≡ b)) ⊎ (find p bs ≡ Some b)
    at true e h = inl (e, same_Some a b h)
    at false e h = inr h

is_there : (in_set all : Bool) → (not in_set && all) ≡ false → all ≡ true → in_set ≡ true
is_there true all h e = refl
is_there false all h e = absurd (false≢true (sym h ∙ e))

-- where no block is ready, the set has each kept id whose parents it has
pub none_ready : (set : List ℕ) (z : ℕ) (kept : List ReadBlock) → find (is_ready set) kept ≡ None → has (ids_of kept) z ≡ true
    → list_all (has set) (parents_of (graph_of kept) z) ≡ true → has set z ≡ true
none_ready set z [] none h parents = absurd (false≢true h)
none_ready set z (b ∷ bs) none h parents =
    let head = find_none (is_ready set) b bs none in
    at (eqb b.id z) refl h parents head (λ there all. none_ready set z bs head.1 there all)
  where
    at : (c : Bool) → eqb b.id z ≡ c → (c || has (ids_of bs) z) ≡ true
        → list_all (has set) (parents_or_none (cond c (Some (node_of b)) (find (λ (n : Node). eqb n.key z) (map node_of bs)))) ≡ true
        → (is_ready set b ≡ false) × (find (is_ready set) bs ≡ None)
        → (has (ids_of bs) z ≡ true → list_all (has set) (parents_of (graph_of bs) z) ≡ true → has set z ≡ true) → has set z ≡ true
    at true e h parents none rest = ap (has set) (sym (eqb-true b.id z e)) ∙ is_there (has set b.id) (list_all (has set) b.parents) none.0 parents
    at false e h parents none rest = rest h parents

pub found_id : (p : ReadBlock → Bool) (kept : List ReadBlock) (b : ReadBlock) → find p kept ≡ Some b → has (ids_of kept) b.id ≡ true
found_id p [] b found = absurd (none-some b found)
found_id p (a ∷ others) b found =
    elim (find_some p a b others found) [
      | inl here ↦ or_left (eqb a.id b.id) (has (ids_of others) b.id) (eq-eqb a.id b.id (ap (λ (x : ReadBlock). x.id) here.1))
      | inr there ↦ or_right (eqb a.id b.id) (has (ids_of others) b.id) (found_id p others b there)
    ]

pub found_passes : (p : ReadBlock → Bool) (kept : List ReadBlock) (b : ReadBlock) → find p kept ≡ Some b → p b ≡ true
found_passes p [] b found = absurd (none-some b found)
found_passes p (a ∷ others) b found =
    elim (find_some p a b others found) [
      | inl here ↦ ap p (sym here.1) ∙ here.0
      | inr there ↦ found_passes p others b there
    ]

-- a block that a search finds has its own parents in the graph
pub found_parents : (p : ReadBlock → Bool) (kept : List ReadBlock) (b : ReadBlock) → AreApart kept → find p kept ≡ Some b → parents_of (graph_of kept) b.id ≡ b.parents
found_parents p [] b apart found = absurd (none-some b found)
found_parents p (a ∷ others) b apart found =
    elim (find_some p a b others found) [
      | inl here ↦ own (eqb a.id b.id) (eq-eqb a.id b.id (ap (λ (x : ReadBlock). x.id) here.1)) here.1
      | inr there ↦ other (eqb a.id b.id) refl (found_id p others b there) (found_parents p others b apart.1 there)
    ]
  where
    own : (c : Bool) → c ≡ true → a ≡ b → parents_or_none (cond c (Some (node_of a)) (find (λ (n : Node). eqb n.key b.id) (map node_of others))) ≡ b.parents
    own true e same = ap (λ (x : ReadBlock). x.parents) same
    own false e same = absurd (false≢true e)

    other : (c : Bool) → eqb a.id b.id ≡ c → has (ids_of others) b.id ≡ true → parents_of (graph_of others) b.id ≡ b.parents
        → parents_or_none (cond c (Some (node_of a)) (find (λ (n : Node). eqb n.key b.id) (map node_of others))) ≡ b.parents
    other true e there rest = absurd (false≢true (sym apart.0 ∙ ap (has (ids_of others)) (eqb-true a.id b.id e) ∙ there))
    other false e there rest = rest

-- a block that is added later changes no kept block's parents
pub parents-push : (kept : List ReadBlock) (b : ReadBlock) (z : ℕ) → has (ids_of kept) z ≡ true → parents_of (graph_of (kept ++ b ∷ [])) z ≡ parents_of (graph_of kept) z
parents-push [] b z h = absurd (false≢true h)
parents-push (a ∷ others) b z h = at (eqb a.id z) h (λ there. parents-push others b z there)
  where
    at : (c : Bool) → (c || has (ids_of others) z) ≡ true → (has (ids_of others) z ≡ true → parents_of (graph_of (others ++ b ∷ [])) z ≡ parents_of (graph_of others) z)
        → parents_or_none (cond c (Some (node_of a)) (find (λ (n : Node). eqb n.key z) (map node_of (others ++ b ∷ []))))
        ≡ parents_or_none (cond c (Some (node_of a)) (find (λ (n : Node). eqb n.key z) (map node_of others)))
    at true h rest = refl
    at false h rest = rest h

-- and has its own parents, where its id is new
pub parents-new : (kept : List ReadBlock) (b : ReadBlock) → has (ids_of kept) b.id ≡ false → parents_of (graph_of (kept ++ b ∷ [])) b.id ≡ b.parents
parents-new [] b fresh = at (eqb b.id b.id) (eq-eqb b.id b.id refl)
  where
    at : (c : Bool) → c ≡ true → parents_or_none (cond c (Some (node_of b)) None) ≡ b.parents
    at true e = refl
    at false e = absurd (false≢true e)
parents-new (a ∷ others) b fresh = at (eqb a.id b.id) fresh (parents-new others b)
  where
    at : (c : Bool) → (c || has (ids_of others) b.id) ≡ false → (has (ids_of others) b.id ≡ false → parents_of (graph_of (others ++ b ∷ [])) b.id ≡ b.parents)
        → parents_or_none (cond c (Some (node_of a)) (find (λ (n : Node). eqb n.key b.id) (map node_of (others ++ b ∷ [])))) ≡ b.parents
    at true fresh rest = absurd (false≢true (sym fresh))
    at false fresh rest = rest fresh

pub has-ids-push : (kept : List ReadBlock) (b : ReadBlock) (z : ℕ) → has (ids_of (kept ++ b ∷ [])) z ≡ (has (ids_of kept) z || eqb b.id z)
has-ids-push [] b z = at (eqb b.id z)
  where
    at : (c : Bool) → (c || false) ≡ c
    at true = refl
    at false = refl
has-ids-push (a ∷ others) b z = ap (λ (r : Bool). eqb a.id z || r) (has-ids-push others b z) ∙ at (eqb a.id z) (has (ids_of others) z) (eqb b.id z)
  where
    at : (c d e : Bool) → (c || (d || e)) ≡ ((c || d) || e)
    at true d e = refl
    at false d e = refl
