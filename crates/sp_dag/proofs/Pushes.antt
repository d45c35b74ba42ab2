-- A graph with one block more.
use Rattle.std.proofs.Common.{◌≡◌, ℕ, zero, suc, Bool, true, false, cond, ◌||◌, List, [], ◌∷◌, ◌++◌, length, refl, sym, ap, ◌∙◌, inl, inr, eqb, Some, None, arith, length-append}
use Rattle.std.specs.Prelude.{find}
use Rattle.std.specs.List.{list_any, list_all}
use Rattle.std.proofs.lemmas.Bool.{or_cases, eq-eqb, false≢true, or_left, or_right}
use Rattle.sp_model.specs.declared.profile.Profile.TheVariants.{One}
use Rattle.sp_model.specs.Graph.{Graph, Block, has, keys, parents_or_none, parents_of, round, complete, reaches_within, in_past}
use Rattle.sp_model.proofs.Sets.{any_same, all_at, all_from, has-filter, has-filter_from}
use Rattle.sp_model.proofs.Pasts.{reaches_enough, complete_key, in_past_step, past_complete}
use Rattle.sp_model.proofs.Paths.{complete_round, complete_least}

abbrev graph : List Block → Graph
graph blocks = record { profile = One; blocks = blocks }

-- the graph with one block more
abbrev pub push : Graph → Block → Graph
push graph block = record { profile = graph.profile; blocks = graph.blocks ++ block ∷ [] }

keys_push : (blocks : List Block) (b : Block) (z : ℕ) → has (keys (graph (blocks ++ b ∷ []))) z ≡ (has (keys (graph blocks)) z || eqb b.key z)
keys_push [] b z = at (eqb b.key z)
  where
    at : (c : Bool) → (c || false) ≡ c
    at true = refl
    at false = refl
keys_push (a ∷ blocks) b z = ap (λ (r : Bool). eqb a.key z || r) (keys_push blocks b z) ∙ at (eqb a.key z) (has (keys (graph blocks)) z) (eqb b.key z)
  where
    at : (c d e : Bool) → (c || (d || e)) ≡ ((c || d) || e)
    at true d e = refl
    at false d e = refl

pub has-keys-push : (g : Graph) (b : Block) (z : ℕ) → has (keys (push g b)) z ≡ (has (keys g) z || eqb b.key z)
has-keys-push g b z = keys_push g.blocks b z

parents_push : (blocks : List Block) (b : Block) (z : ℕ) → has (keys (graph blocks)) z ≡ true → parents_of (graph (blocks ++ b ∷ [])) z ≡ parents_of (graph blocks) z
parents_push [] b z h = absurd (false≢true h)
parents_push (a ∷ blocks) b z h = at (eqb a.key z) h (λ there. parents_push blocks b z there)
  where
    at : (c : Bool) → (c || has (keys (graph blocks)) z) ≡ true
        → (has (keys (graph blocks)) z ≡ true → parents_of (graph (blocks ++ b ∷ [])) z ≡ parents_of (graph blocks) z)
        → parents_or_none (cond c (Some a) (find (λ (x : Block). eqb x.key z) (blocks ++ b ∷ [])))
        ≡ parents_or_none (cond c (Some a) (find (λ (x : Block). eqb x.key z) blocks))
    at true h rest = refl
    at false h rest = rest h

-- the block changes no other block's parents
pub parents_of-push : (g : Graph) (b : Block) (z : ℕ) → has (keys g) z ≡ true → parents_of (push g b) z ≡ parents_of g z
parents_of-push g b z h = parents_push g.blocks b z h

parents_new : (blocks : List Block) (b : Block) → has (keys (graph blocks)) b.key ≡ false → parents_of (graph (blocks ++ b ∷ [])) b.key ≡ b.parents
parents_new [] b fresh = at (eqb b.key b.key) (eq-eqb b.key b.key refl)
  where
    at : (c : Bool) → c ≡ true → parents_or_none (cond c (Some b) None) ≡ b.parents
    at true e = refl
    at false e = absurd (false≢true e)
parents_new (a ∷ blocks) b fresh = at (eqb a.key b.key) fresh (parents_new blocks b)
  where
    at : (c : Bool) → (c || has (keys (graph blocks)) b.key) ≡ false → (has (keys (graph blocks)) b.key ≡ false → parents_of (graph (blocks ++ b ∷ [])) b.key ≡ b.parents)
        → parents_or_none (cond c (Some a) (find (λ (x : Block). eqb x.key b.key) (blocks ++ b ∷ []))) ≡ b.parents
    at true fresh rest = absurd (false≢true (sym fresh))
    at false fresh rest = rest fresh

-- and has its own
pub parents_of-new : (g : Graph) (b : Block) → has (keys g) b.key ≡ false → parents_of (push g b) b.key ≡ b.parents
parents_of-new g b fresh = parents_new g.blocks b fresh

round_from : (g : Graph) (set : List ℕ) (z : ℕ) → has (keys g) z ≡ true → list_all (has set) (parents_of g z) ≡ true → has (round g set) z ≡ true
round_from g set z here parents = has-filter_from (λ z. list_all (λ p. has set p) (parents_of g z)) (keys g) z here parents

round_parts : (g : Graph) (set : List ℕ) (z : ℕ) → has (round g set) z ≡ true → (has (keys g) z ≡ true) × (list_all (has set) (parents_of g z) ≡ true)
round_parts g set z h = has-filter (λ z. list_all (λ p. has set p) (parents_of g z)) (keys g) z h

-- a complete block stays complete
pub complete_stays : (g : Graph) (b : Block) (z : ℕ) → has (complete g) z ≡ true → has (complete (push g b)) z ≡ true
complete_stays g b z h = complete_least g (complete (push g b)) closed z h
  where
    closed : (z : ℕ) → has (round g (complete (push g b))) z ≡ true → has (complete (push g b)) z ≡ true
    closed z r =
        let parts = round_parts g (complete (push g b)) z r in
        complete_round (push g b) z
        (round_from (push g b) (complete (push g b)) z (has-keys-push g b z ∙ or_left (has (keys g) z) (eqb b.key z) parts.0)
        (ap (list_all (has (complete (push g b)))) (parents_of-push g b z parts.0) ∙ parts.1))

-- a new block whose parents are complete is complete
pub complete_joins : (g : Graph) (b : Block) → has (keys g) b.key ≡ false → list_all (has (complete g)) b.parents ≡ true → has (complete (push g b)) b.key ≡ true
complete_joins g b fresh parents =
    complete_round (push g b) b.key
    (round_from (push g b) (complete (push g b)) b.key (has-keys-push g b b.key ∙ or_right (has (keys g) b.key) (eqb b.key b.key) (eq-eqb b.key b.key refl))
    (ap (list_all (has (complete (push g b)))) (parents_of-new g b fresh)
    ∙ all_from (has (complete (push g b))) b.parents (λ p there. complete_stays g b p (all_at (has (complete g)) b.parents p parents there))))

-- the parents of a complete block are complete
pub parent_complete : (g : Graph) (z p : ℕ) → has (complete g) z ≡ true → has (parents_of g z) p ≡ true → has (complete g) p ≡ true
parent_complete g z p h parent =
    past_complete g p z h
    (in_past_step g p z h ∙ step (parents_of g z) parent)
  where
    step : (ps : List ℕ) → has ps p ≡ true → list_any (λ q. eqb q p || in_past g p q) ps ≡ true
    step [] there = absurd (false≢true there)
    step (q ∷ qs) there =
        elim (or_cases (eqb q p) (has qs p) there) [
          | inl here ↦ or_left (eqb q p || in_past g p q) (list_any (λ q. eqb q p || in_past g p q) qs) (or_left (eqb q p) (in_past g p q) here)
          | inr later ↦ or_right (eqb q p || in_past g p q) (list_any (λ q. eqb q p || in_past g p q) qs) (step qs later)
        ]

reaches_push : (m : ℕ) (g : Graph) (b : Block) (a z : ℕ) → has (complete g) z ≡ true → reaches_within m (push g b) a z ≡ reaches_within m g a z
unfolding reaches_within
reaches_push zero g b a z h = refl
reaches_push (suc m) g b a z h =
    ap (list_any (λ parent. eqb parent a || reaches_within m (push g b) a parent)) (parents_of-push g b z (complete_key g z h))
    ∙ any_same (λ parent. eqb parent a || reaches_within m (push g b) a parent) (λ parent. eqb parent a || reaches_within m g a parent) (parents_of g z)
    (λ p parent. ap (λ (r : Bool). eqb p a || r) (reaches_push m g b a p (parent_complete g z p h parent)))

-- the past of a complete block stays
pub in_past-push : (g : Graph) (b : Block) (a z : ℕ) → has (complete g) z ≡ true → in_past (push g b) a z ≡ in_past g a z
unfolding in_past complete
in_past-push g b a z h =
    reaches_push (length (g.blocks ++ b ∷ [])) g b a z h
    ∙ reaches_enough (length g.blocks) (length (g.blocks ++ b ∷ [])) g a z h (omega (arith, length-append g.blocks (b ∷ [])))

-- the past of the new block is its parents and theirs
pub in_past-new : (g : Graph) (b : Block) (a : ℕ) → has (keys g) b.key ≡ false → list_all (has (complete g)) b.parents ≡ true
    → in_past (push g b) a b.key ≡ list_any (λ p. eqb p a || in_past g a p) b.parents
in_past-new g b a fresh parents =
    in_past_step (push g b) a b.key (complete_joins g b fresh parents)
    ∙ ap (list_any (λ p. eqb p a || in_past (push g b) a p)) (parents_of-new g b fresh)
    ∙ any_same (λ p. eqb p a || in_past (push g b) a p) (λ p. eqb p a || in_past g a p) b.parents
    (λ p there. ap (λ (r : Bool). eqb p a || r) (in_past-push g b a p (all_at (has (complete g)) b.parents p parents there)))

-- no complete block has the new block in its past
pub new_in_no_past : (g : Graph) (b : Block) (z : ℕ) → has (keys g) b.key ≡ false → has (complete g) z ≡ true → in_past (push g b) b.key z ≡ false
new_in_no_past g b z fresh h = at (in_past (push g b) b.key z) refl
  where
    at : (c : Bool) → in_past (push g b) b.key z ≡ c → c ≡ false
    at true e = sym (complete_key g b.key (past_complete g b.key z h (sym (in_past-push g b b.key z h) ∙ e))) ∙ fresh
    at false e = refl
