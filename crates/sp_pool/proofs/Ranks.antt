-- The ranks of the kept blocks in their graph.
use Rattle.std.proofs.Common.{◌≡◌, ℕ, Bool, true, false, cond, ◌||◌, List, [], ◌∷◌, ◌++◌, refl, sym, ap, ◌∙◌, inl, inr, eqb, Some}
use Rattle.std.specs.Prelude.{find, map}
use Rattle.std.proofs.lemmas.Bool.{eqb-true, eq-eqb, false≢true}
use Rattle.std.proofs.lemmas.Option.{none-some}
use Rattle.sp_block.specs.Block.{ReadBlock}
use Rattle.sp_model.specs.declared.profile.Profile.{Profile}
use Rattle.sp_model.specs.Graph.{Block as Node, has, rank_of, rank_or_least}
use Rattle.sp_pool.specs.Kept.{AreApart, graph_in, graph_of, ids_of, node_of, rank_in}
use Rattle.sp_pool.proofs.Parents.{find_some, found_id}

-- the rank of a kept block has its id
pub rank_id : (profile : Profile) (kept : List ReadBlock) (z : ℕ) → has (ids_of kept) z ≡ true → (rank_of (graph_in profile kept) z).id ≡ z
rank_id profile [] z there = absurd (false≢true there)
rank_id profile (b ∷ kept) z there = at (eqb b.id z) refl there (rank_id profile kept z)
  where
    at : (c : Bool) → eqb b.id z ≡ c → (c || has (ids_of kept) z) ≡ true → (has (ids_of kept) z ≡ true → (rank_of (graph_in profile kept) z).id ≡ z)
        → (rank_or_least (cond c (Some (node_of b)) (find (λ (n : Node). eqb n.key z) (map node_of kept)))).id ≡ z
    at true e there rest = eqb-true b.id z e
    at false e there rest = rest there

-- a block that a search finds has its own rank in the graph
pub found_rank : (p : ReadBlock → Bool) (kept : List ReadBlock) (b : ReadBlock) → AreApart kept → find p kept ≡ Some b → rank_of (graph_of kept) b.id ≡ rank_in b
found_rank p [] b apart found = absurd (none-some b found)
found_rank p (a ∷ others) b apart found =
    elim (find_some p a b others found) [
      | inl here ↦ own (eqb a.id b.id) (eq-eqb a.id b.id (ap (λ (x : ReadBlock). x.id) here.1)) here.1
      | inr there ↦ other (eqb a.id b.id) refl (found_id p others b there) (found_rank p others b apart.1 there)
    ]
  where
    own : (c : Bool) → c ≡ true → a ≡ b → rank_or_least (cond c (Some (node_of a)) (find (λ (n : Node). eqb n.key b.id) (map node_of others))) ≡ rank_in b
    own true e same = ap rank_in same
    own false e same = absurd (false≢true e)

    other : (c : Bool) → eqb a.id b.id ≡ c → has (ids_of others) b.id ≡ true → rank_of (graph_of others) b.id ≡ rank_in b
        → rank_or_least (cond c (Some (node_of a)) (find (λ (n : Node). eqb n.key b.id) (map node_of others))) ≡ rank_in b
    other true e there rest = absurd (false≢true (sym apart.0 ∙ ap (has (ids_of others)) (eqb-true a.id b.id e) ∙ there))
    other false e there rest = rest

-- a block that is added later changes no kept block's rank
pub rank-push : (kept : List ReadBlock) (b : ReadBlock) (z : ℕ) → has (ids_of kept) z ≡ true → rank_of (graph_of (kept ++ b ∷ [])) z ≡ rank_of (graph_of kept) z
rank-push [] b z h = absurd (false≢true h)
rank-push (a ∷ others) b z h = at (eqb a.id z) h (λ there. rank-push others b z there)
  where
    at : (c : Bool) → (c || has (ids_of others) z) ≡ true → (has (ids_of others) z ≡ true → rank_of (graph_of (others ++ b ∷ [])) z ≡ rank_of (graph_of others) z)
        → rank_or_least (cond c (Some (node_of a)) (find (λ (n : Node). eqb n.key z) (map node_of (others ++ b ∷ []))))
        ≡ rank_or_least (cond c (Some (node_of a)) (find (λ (n : Node). eqb n.key z) (map node_of others)))
    at true h rest = refl
    at false h rest = rest h
