-- Graphs whose blocks are numbered in order: their keys, parents, and that all are complete.
use Rattle.std.proofs.Common.{◌≡◌, ℕ, zero, suc, ◌+◌, ◌<◌, ◌≤◌, Bool, true, false, cond, ◌||◌, List, [], ◌∷◌, ◌++◌, length, get_or, refl, sym, ap, inl, inr, eqb, Some, ◌⊎◌, arith, zero-add}
use Rattle.std.specs.Prelude.{find}
use Rattle.std.specs.List.{list_any, list_all}
use Rattle.std.proofs.lemmas.Bool.{eqb-true, eq-eqb, false≢true, or_left, or_right, cases_lt}
use Rattle.sp_model.specs.Graph.{Graph, Block, has, keys, parents_or_none, parents_of, complete, in_past, reaches_within}
use Rattle.sp_model.proofs.Sets.{all_from, has-filter_from}
use Rattle.sp_model.proofs.Paths.{complete_round}
use Rattle.sp_dag.proofs.Pushes.{push}
use Rattle.sp_dag.specs.Numbered.{blocks_from, AreInOrder}
use Rattle.sp_dag.specs.Shapes.{no_rank, shape_of}
use Rattle.sp_model.specs.declared.profile.Profile.TheVariants.{One}

abbrev pub block : ℕ → List ℕ → Block
block number parents = record { key = number; parents = parents; rank = no_rank number }

abbrev graph : List Block → Graph
graph blocks = record { profile = One; blocks = blocks }

blocks_push : (from number : ℕ) (table : List (List ℕ)) (ps : List ℕ) → from + length table ≡ number → blocks_from no_rank from (table ++ ps ∷ []) ≡ blocks_from no_rank from table ++ block number ps ∷ []
blocks_push from number [] ps e = (let same : from ≡ number = omega arith in ap (λ (k : ℕ). block k ps ∷ []) same)
blocks_push from number (row ∷ table) ps e = ap (λ (l : List Block). block from row ∷ l) (blocks_push (from + 1) number table ps (omega arith))

-- one row more is one block more
pub shape_of-push : (table : List (List ℕ)) (ps : List ℕ) → shape_of (table ++ ps ∷ []) ≡ push (shape_of table) (block (length table) ps)
shape_of-push table ps = ap (λ (l : List Block). graph l) (blocks_push 0 (length table) table ps (omega arith))

keys_from : (from : ℕ) (table : List (List ℕ)) (z : ℕ) → from ≤ z → z < from + length table → has (keys (graph (blocks_from no_rank from table))) z ≡ true
keys_from from [] z low high = absurd (omega arith)
keys_from from (row ∷ table) z low high =
    elim (cases_lt from z) [
      | inl less ↦ or_right (eqb from z) (has (keys (graph (blocks_from no_rank (from + 1) table))) z) (keys_from (from + 1) table z (omega arith) (omega arith))
      | inr le ↦ or_left (eqb from z) (has (keys (graph (blocks_from no_rank (from + 1) table))) z) (eq-eqb from z (omega arith))
    ]

no_keys : (from : ℕ) (table : List (List ℕ)) (z : ℕ) → ((z < from) ⊎ (from + length table ≤ z)) → has (keys (graph (blocks_from no_rank from table))) z ≡ false
no_keys from [] z out = refl
no_keys from (row ∷ table) z out = at (eqb from z) refl (no_keys (from + 1) table z (elim out [ inl low ↦ inl (omega arith) | inr high ↦ inr (omega arith) ]))
  where
    at : (c : Bool) → eqb from z ≡ c → has (keys (graph (blocks_from no_rank (from + 1) table))) z ≡ false → (c || has (keys (graph (blocks_from no_rank (from + 1) table))) z) ≡ false
    at true e rest = (let same : from ≡ z = eqb-true from z e in elim out [ inl low ↦ absurd (omega arith) | inr high ↦ absurd (omega arith) ])
    at false e rest = rest

pub key_in : (table : List (List ℕ)) (z : ℕ) → z < length table → has (keys (shape_of table)) z ≡ true
key_in table z le = keys_from 0 table z (omega arith) (omega arith)

pub key_out : (table : List (List ℕ)) (z : ℕ) → length table ≤ z → has (keys (shape_of table)) z ≡ false
key_out table z le = no_keys 0 table z (inr (omega arith))

parents_from : (from : ℕ) (table : List (List ℕ)) (k : ℕ) → k < length table → parents_of (graph (blocks_from no_rank from table)) (from + k) ≡ get_or table k []
parents_from from [] k le = absurd (omega arith)
parents_from from (row ∷ table) zero le = at (eqb from (from + zero)) (eq-eqb from (from + zero) (omega arith))
  where
    at : (c : Bool) → c ≡ true → parents_or_none (cond c (Some (block from row)) (find (λ (b : Block). eqb b.key (from + zero)) (blocks_from no_rank (from + 1) table))) ≡ row
    at true e = refl
    at false e = absurd (false≢true e)
parents_from from (row ∷ table) (suc k) le = at (eqb from (from + suc k)) refl (next (parents_from (from + 1) table k (omega arith)))
  where
    next : parents_of (graph (blocks_from no_rank (from + 1) table)) ((from + 1) + k) ≡ get_or table k [] → parents_of (graph (blocks_from no_rank (from + 1) table)) (from + suc k) ≡ get_or table k []
    next h = (let e : from + suc k ≡ (from + 1) + k = omega arith in rw e h)

    at : (c : Bool) → eqb from (from + suc k) ≡ c → parents_of (graph (blocks_from no_rank (from + 1) table)) (from + suc k) ≡ get_or table k []
        → parents_or_none (cond c (Some (block from row)) (find (λ (b : Block). eqb b.key (from + suc k)) (blocks_from no_rank (from + 1) table))) ≡ get_or table k []
    at true e rest = (let same : from ≡ from + suc k = eqb-true from (from + suc k) e in absurd (omega arith))
    at false e rest = rest

pub parents_of-shape_of : (table : List (List ℕ)) (z : ℕ) → z < length table → parents_of (shape_of table) z ≡ get_or table z []
parents_of-shape_of table z le = (let e : 0 + z ≡ z = zero-add z in rw e at (parents_from 0 table z le))

-- each block is complete
pub all_complete : (table : List (List ℕ)) → AreInOrder table → (z : ℕ) → z < length table → has (complete (shape_of table)) z ≡ true
all_complete table order z le = below (suc z) z (omega arith) le
  where
    below : (k z : ℕ) → z < k → z < length table → has (complete (shape_of table)) z ≡ true
    below zero z less le = absurd (omega arith)
    below (suc k) z less le =
        complete_round (shape_of table) z
        (has-filter_from (λ z. list_all (λ p. has (complete (shape_of table)) p) (parents_of (shape_of table) z)) (keys (shape_of table)) z (key_in table z le)
        (all_from (has (complete (shape_of table))) (parents_of (shape_of table) z)
        (λ p there. let before : p < z = order z p (rw (parents_of-shape_of table z le) at there) in below k p (omega arith) (omega arith))))

no_parents : (blocks : List Block) (z : ℕ) → has (keys (graph blocks)) z ≡ false → parents_of (graph blocks) z ≡ []
no_parents [] z none = refl
no_parents (b ∷ blocks) z none = at (eqb b.key z) none (no_parents blocks z)
  where
    at : (c : Bool) → (c || has (keys (graph blocks)) z) ≡ false → (has (keys (graph blocks)) z ≡ false → parents_of (graph blocks) z ≡ [])
        → parents_or_none (cond c (Some b) (find (λ (x : Block). eqb x.key z) blocks)) ≡ []
    at true none rest = absurd (false≢true (sym none))
    at false none rest = rest none

-- what isn't there has no past
pub in_past-absent : (g : Graph) (a z : ℕ) → has (keys g) z ≡ false → in_past g a z ≡ false
unfolding in_past reaches_within
in_past-absent g a z none = steps (length g.blocks)
  where
    steps : (m : ℕ) → reaches_within m g a z ≡ false
    steps zero = refl
    steps (suc m) = ap (list_any (λ p. eqb p a || reaches_within m g a p)) (no_parents g.blocks z none)
