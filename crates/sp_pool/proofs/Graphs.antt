-- The kept blocks as a graph of which genesis is the one root.
use Rattle.std.proofs.Common.{◌≡◌, ℕ, Bool, true, false, cond, ◌||◌, List, [], ◌∷◌, length, map, refl, sym, ap, subst, ◌∙◌, eqb, Some, arith}
use Rattle.std.specs.Prelude.{All, find}
use Rattle.std.proofs.lemmas.Bool.{eqb-true, eq-eqb, false≢true, or_left}
use Rattle.std.proofs.lemmas.List.Elements.{All-head, All-tail}
use Rattle.sp_block.specs.Block.{IsBlock, IsOther, ReadBlock}
use Rattle.sp_block.proofs.Whole.{other_parents}
use Rattle.sp_model.specs.Graph.{AreDistinct, Block as Node, has, IsGraph, Rank, parents_of, parents_or_none}
use Rattle.sp_model.specs.declared.profile.Profile.{Profile}
use Rattle.sp_pool.specs.Kept.{AreKept, graph_in, graph_of, ids_of, node_of}
use Rattle.sp_pool.proofs.KeptBlocks.{no_parents}
use Rattle.sp_pool.proofs.Parents.{keys-graph_of}
use Rattle.sp_pool.proofs.Ranks.{rank_id}

-- a block other than genesis has a parent
others_have_parents : (others : List ReadBlock) (z : ℕ) → All IsBlock others → All IsOther others → has (ids_of others) z ≡ true → parents_of (graph_of others) z ≡ [] → ⊥
others_have_parents [] z blocks kinds there none = false≢true there
others_have_parents (b ∷ others) z blocks kinds there none =
    at (eqb b.id z) there none (λ later. others_have_parents others z (All-tail IsBlock b others blocks) (All-tail IsOther b others kinds) later)
  where
    at : (c : Bool) → (c || has (ids_of others) z) ≡ true
        → parents_or_none (cond c (Some (node_of b)) (find (λ (n : Node). eqb n.key z) (map node_of others))) ≡ []
        → (has (ids_of others) z ≡ true → parents_of (graph_of others) z ≡ [] → ⊥) → ⊥
    at true there none rest =
        let some = (other_parents b (All-head IsBlock b others blocks) (All-head IsOther b others kinds)).0 in
        let zero = ap (λ (l : List ℕ). length l) none in
        absurd (omega (arith, some, zero))
    at false there none rest = rest there none

module _ (genesis : ReadBlock) (others : List ReadBlock) where
  root_parents : genesis.parents ≡ [] → parents_of (graph_of (genesis ∷ others)) genesis.id ≡ []
  root_parents none = at (eqb genesis.id genesis.id) (eq-eqb genesis.id genesis.id refl)
    where
      at : (c : Bool) → c ≡ true → parents_or_none (cond c (Some (node_of genesis)) (find (λ (n : Node). eqb n.key genesis.id) (map node_of others))) ≡ []
      at true e = none
      at false e = absurd (false≢true e)

  one_root : (z : ℕ) → All IsBlock others → All IsOther others → has (ids_of (genesis ∷ others)) z ≡ true → parents_of (graph_of (genesis ∷ others)) z ≡ [] → z ≡ genesis.id
  one_root z blocks kinds there none = at (eqb genesis.id z) refl there none
    where
      at : (c : Bool) → eqb genesis.id z ≡ c → (c || has (ids_of others) z) ≡ true
          → parents_or_none (cond c (Some (node_of genesis)) (find (λ (n : Node). eqb n.key z) (map node_of others))) ≡ [] → z ≡ genesis.id
      at true e there none = sym (eqb-true genesis.id z e)
      at false e there none = absurd (others_have_parents others z blocks kinds there none)

-- whatever the profile is
pub kept_graph : (profile : Profile) (kept : List ReadBlock) (h : AreKept kept) → IsGraph (graph_in profile kept) h.genesis.id
kept_graph profile kept h =
    let blocks : All IsBlock (h.genesis ∷ h.others) = subst (λ (bs : List ReadBlock). All IsBlock bs) h.first h.are_blocks in
    let root : h.genesis.parents ≡ [] = no_parents h.genesis (All-head IsBlock h.genesis h.others blocks) h.is_genesis in
    let keys_are = keys-graph_of kept in
    let ids : ids_of kept ≡ ids_of (h.genesis ∷ h.others) = ap ids_of h.first in
    record {
      distinct = subst (λ (ks : List ℕ). AreDistinct ks) (sym keys_are) h.apart;
      ranks = λ a b a_in b_in same.
          sym (rank_id profile kept a (sym (ap (λ (ks : List ℕ). has ks a) keys_are) ∙ a_in))
          ∙ ap (λ (r : Rank). r.id) same
          ∙ rank_id profile kept b (sym (ap (λ (ks : List ℕ). has ks b) keys_are) ∙ b_in);
      there =
          ap (λ (ks : List ℕ). has ks h.genesis.id) (keys_are ∙ ids)
          ∙ or_left (eqb h.genesis.id h.genesis.id) (has (ids_of h.others) h.genesis.id) (eq-eqb h.genesis.id h.genesis.id refl);
      rootless = ap (λ (bs : List ReadBlock). parents_of (graph_of bs) h.genesis.id) h.first ∙ root_parents h.genesis h.others root;
      one = λ z there none.
          one_root h.genesis h.others z (All-tail IsBlock h.genesis h.others blocks) h.are_other
          (sym (ap (λ (ks : List ℕ). has ks z) (keys_are ∙ ids)) ∙ there)
          (sym (ap (λ (bs : List ReadBlock). parents_of (graph_of bs) z) h.first) ∙ none);
    }
