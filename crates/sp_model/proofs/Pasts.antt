-- Pasts of complete blocks: they are found in few steps, and lie lower.
use Rattle.std.proofs.Common.{◌≡◌, ℕ, zero, suc, ◌+◌, ◌-◌, ◌≤◌, zero-add, suc-add, Bool, true, ◌||◌, List, length, refl, sym, ap, ◌∙◌, inl, inr, eqb, arith}
use Rattle.std.specs.List.{list_any, list_all}
use Rattle.std.proofs.lemmas.Bool.{or_cases, eqb-true, eq-eqb, false≢true, or_left, or_right}
use Rattle.sp_model.specs.Graph.{Graph, has, keys, parents_of, round, rounds, complete, reaches_within, in_past, past, IsDownset}
use Rattle.sp_model.proofs.Sets.{any_some, some_any, any_same, all_at, all_from, has-filter, has-filter_from}

-- a member of a round has its parents in the round before
pub round_parents : (g : Graph) (set : List ℕ) (z p : ℕ) → has (round g set) z ≡ true → has (parents_of g z) p ≡ true → has set p ≡ true
round_parents g set z p h parent =
    all_at (has set) (parents_of g z) p (has-filter (λ z. list_all (λ p. has set p) (parents_of g z)) (keys g) z h).1 parent

pub round_more : (g : Graph) (s t : List ℕ) → ((a : ℕ) → has s a ≡ true → has t a ≡ true) → (z : ℕ) → has (round g s) z ≡ true → has (round g t) z ≡ true
round_more g s t within z h =
    has-filter_from (λ z. list_all (λ p. has t p) (parents_of g z)) (keys g) z
    (has-filter (λ z. list_all (λ p. has s p) (parents_of g z)) (keys g) z h).0
    (all_from (has t) (parents_of g z) (λ p parent. within p (round_parents g s z p h parent)))

pub rounds_more : (k : ℕ) (g : Graph) (z : ℕ) → has (rounds k g) z ≡ true → has (rounds (suc k) g) z ≡ true
unfolding rounds
rounds_more zero g z h = absurd (false≢true h)
rounds_more (suc k) g z h = round_more g (rounds k g) (rounds (suc k) g) (rounds_more k g) z h

pub rounds_up : (j k : ℕ) (g : Graph) (z : ℕ) → has (rounds k g) z ≡ true → has (rounds (j + k) g) z ≡ true
rounds_up zero k g z h = rw zero-add h
rounds_up (suc j) k g z h = rw suc-add (rounds_more (j + k) g z (rounds_up j k g z h))

pub rounds_le : (k m : ℕ) (g : Graph) (z : ℕ) → k ≤ m → has (rounds k g) z ≡ true → has (rounds m g) z ≡ true
rounds_le k m g z le h =
    let e : (m - k) + k ≡ m = omega arith in
    rw e at (rounds_up (m - k) k g z h)

-- no path down from a block of round k has more than k steps
pub reaches_enough : (k m : ℕ) (g : Graph) (a z : ℕ) → has (rounds k g) z ≡ true → k ≤ m → reaches_within m g a z ≡ reaches_within k g a z
unfolding rounds reaches_within
reaches_enough zero m g a z h le = absurd (false≢true h)
reaches_enough (suc k) zero g a z h le = absurd (omega arith)
reaches_enough (suc k) (suc m) g a z h le =
    any_same _ _ (parents_of g z) (λ p parent.
    ap (λ (b : Bool). eqb p a || b)
    (reaches_enough k m g a p (round_parents g (rounds k g) z p h parent) (omega arith)))

-- what a block of round k + 1 reaches is in round k
pub reaches_lower : (m k : ℕ) (g : Graph) (a z : ℕ) → has (rounds (suc k) g) z ≡ true → reaches_within m g a z ≡ true → has (rounds k g) a ≡ true
unfolding rounds reaches_within
reaches_lower zero k g a z h r = absurd (false≢true r)
reaches_lower (suc m) k g a z h r =
    let found : (p : ℕ) × (has (parents_of g z) p ≡ true) × ((eqb p a || reaches_within m g a p) ≡ true) = any_some _ (parents_of g z) r in
    let parent : has (rounds k g) found.0 ≡ true = round_parents g (rounds k g) z found.0 h found.1 in
    elim (or_cases (eqb found.0 a) (reaches_within m g a found.0) found.2) [
      | inl same ↦ ap (has (rounds k g)) (sym (eqb-true found.0 a same)) ∙ parent
      | inr there ↦ lower k g a found.0 parent (λ k' h. reaches_lower m k' g a found.0 h there)
    ]
  where
    lower : (k : ℕ) (g : Graph) (a p : ℕ) → has (rounds k g) p ≡ true → ((k' : ℕ) → has (rounds (suc k') g) p ≡ true → has (rounds k' g) a ≡ true) → has (rounds k g) a ≡ true
    lower zero g a p h rest = absurd (false≢true h)
    lower (suc k) g a p h rest = rounds_more k g a (rest k h)

-- whether z reaches a, by its parents
pub in_past_step : (g : Graph) (a z : ℕ) → has (complete g) z ≡ true → in_past g a z ≡ list_any (λ p. eqb p a || in_past g a p) (parents_of g z)
unfolding complete in_past reaches_within
in_past_step g a z h =
    sym (reaches_enough (length g.blocks) (suc (length g.blocks)) g a z h (omega arith))

-- the past of a block of round k + 1 is in round k
pub past_lower : (k : ℕ) (g : Graph) (a z : ℕ) → has (rounds (suc k) g) z ≡ true → in_past g a z ≡ true → has (rounds k g) a ≡ true
unfolding in_past
past_lower k g a z h r = reaches_lower (length g.blocks) k g a z h r

-- a block in the past of a block of round k is in round k
pub past_round : (k : ℕ) (g : Graph) (a z : ℕ) → has (rounds k g) z ≡ true → in_past g a z ≡ true → has (rounds k g) a ≡ true
unfolding rounds
past_round zero g a z h r = absurd (false≢true h)
past_round (suc k) g a z h r = rounds_more k g a (past_lower k g a z h r)

pub past_complete : (g : Graph) (a z : ℕ) → has (complete g) z ≡ true → in_past g a z ≡ true → has (complete g) a ≡ true
unfolding complete
past_complete g a z h r = past_round (length g.blocks) g a z h r

-- no complete block is in its own past
pub not_in_own_past : (g : Graph) (z : ℕ) → has (complete g) z ≡ true → in_past g z z ≡ true → ⊥
unfolding complete rounds
not_in_own_past g z h r = down (length g.blocks) g z r h
  where
    down : (k : ℕ) (g : Graph) (z : ℕ) → in_past g z z ≡ true → has (rounds k g) z ≡ true → ⊥
    down zero g z r h = false≢true h
    down (suc k) g z r h = down k g z r (past_lower k g z z h r)

pub parent_in_past : (g : Graph) (p z : ℕ) → has (complete g) z ≡ true → has (parents_of g z) p ≡ true → in_past g p z ≡ true
parent_in_past g p z h parent =
    in_past_step g p z h ∙ some_any (λ q. eqb q p || in_past g p q) (parents_of g z) p parent (or_left (eqb p p) (in_past g p p) (eq-eqb p p refl))

pub past_of_parent : (g : Graph) (a p z : ℕ) → has (complete g) z ≡ true → has (parents_of g z) p ≡ true → in_past g a p ≡ true → in_past g a z ≡ true
past_of_parent g a p z h parent r =
    in_past_step g a z h ∙ some_any (λ q. eqb q a || in_past g a q) (parents_of g z) p parent (or_right (eqb p a) (in_past g a p) r)

along : (m : ℕ) (g : Graph) (a b z : ℕ) → has (complete g) z ≡ true → in_past g a b ≡ true → reaches_within m g b z ≡ true → in_past g a z ≡ true
unfolding reaches_within
along zero g a b z h r s = absurd (false≢true s)
along (suc m) g a b z h r s =
    let found : (p : ℕ) × (has (parents_of g z) p ≡ true) × ((eqb p b || reaches_within m g b p) ≡ true) = any_some _ (parents_of g z) s in
    let below : in_past g found.0 z ≡ true = parent_in_past g found.0 z h found.1 in
    elim (or_cases (eqb found.0 b) (reaches_within m g b found.0) found.2) [
      | inl same ↦ past_of_parent g a found.0 z h found.1 (ap (in_past g a) (eqb-true found.0 b same) ∙ r)
      | inr there ↦ past_of_parent g a found.0 z h found.1 (along m g a b found.0 (past_complete g found.0 z h below) r there)
    ]

-- the past of a block in the past of z is in the past of z
pub past_trans : (g : Graph) (a b z : ℕ) → has (complete g) z ≡ true → in_past g a b ≡ true → in_past g b z ≡ true → in_past g a z ≡ true
unfolding in_past
past_trans g a b z h r s = along (length g.blocks) g a b z h r s

-- the past as a list
pub has-past : (g : Graph) (z a : ℕ) → has (past g z) a ≡ true → in_past g a z ≡ true
has-past g z a h = (has-filter (λ a. in_past g a z) (keys g) a h).1

pub complete_key : (g : Graph) (z : ℕ) → has (complete g) z ≡ true → has (keys g) z ≡ true
unfolding complete rounds
complete_key g z h = in_round (length g.blocks) g z h
  where
    in_round : (k : ℕ) (g : Graph) (z : ℕ) → has (rounds k g) z ≡ true → has (keys g) z ≡ true
    in_round zero g z h = absurd (false≢true h)
    in_round (suc k) g z h = (has-filter (λ z. list_all (λ p. has (rounds k g) p) (parents_of g z)) (keys g) z h).0

pub has-past_from : (g : Graph) (z a : ℕ) → has (complete g) z ≡ true → in_past g a z ≡ true → has (past g z) a ≡ true
has-past_from g z a h r = has-filter_from (λ a. in_past g a z) (keys g) a (complete_key g a (past_complete g a z h r)) r

-- the past of a member of a downset is a downset
pub past_downset : (g : Graph) (z : ℕ) → has (complete g) z ≡ true → IsDownset g (past g z)
past_downset g z h =
    record {
      all_complete = λ a m. past_complete g a z h (has-past g z a m);
      closed = λ b a m r. has-past_from g z a h (past_trans g a b z h r (has-past g z b m));
    }

-- the set of all complete blocks is a downset
pub complete_downset : (g : Graph) → IsDownset g (complete g)
complete_downset g = record { all_complete = λ z h. h; closed = λ z a h r. past_complete g a z h r }
