-- The recursion of votes has steps enough, so that the definition is its own unbounded equation.
use Rattle.std.proofs.Common.{◌≡◌, ℕ, zero, suc, ◌+◌, ◌-◌, ◌*◌, ◌≤◌, ◌<◌, true, List, length, refl, ap, inl, inr, arith}
use Rattle.std.specs.Prelude.{ℤ}
use Rattle.std.proofs.lemmas.Bool.{false≢true, cases_lt}
use Rattle.sp_model.specs.Graph.{Graph, has, rounds, complete, in_past, past, future, IsDownset}
use Rattle.sp_model.specs.Votes.{sgn, Case, Is_x, Is_y, Only_x, Only_y, Both, Neither, case_of, vote_by, settled_in, vote_within, vote, virt, depth}
use Rattle.sp_model.proofs.Sets.{total_same, has-filter}
use Rattle.sp_model.proofs.Pasts.{rounds_le, past_lower, past_downset, has-past}

pub vote_by_same : (c : Case) (g : Graph) (s : List ℕ) (F F' : List ℕ → ℤ) (G G' : ℕ → ℤ) (z x y : ℕ)
    → F (past g z) ≡ F' (past g z) → ((w : ℕ) → has (future g s z) w ≡ true → G w ≡ G' w)
    → vote_by c g s F G z x y ≡ vote_by c g s F' G' z x y
vote_by_same Is_x g s F F' G G' z x y f h = refl
vote_by_same Is_y g s F F' G G' z x y f h = refl
vote_by_same Only_x g s F F' G G' z x y f h = refl
vote_by_same Only_y g s F F' G G' z x y f h = refl
vote_by_same Both g s F F' G G' z x y f h = ap (settled_in g x y) f
vote_by_same Neither g s F F' G G' z x y f h = ap sgn (total_same G G' (future g s z) h)

-- the blocks of the set are in round j, and z isn't in round i
pub steps_enough : (m n : ℕ) (g : Graph) (s : List ℕ) (j i z x y : ℕ)
    → IsDownset g s → ((w : ℕ) → has s w ≡ true → has (rounds j g) w ≡ true)
    → has s z ≡ true → (has (rounds i g) z ≡ true → ⊥)
    → j ≤ length g.blocks
    → j * length g.blocks + (length g.blocks - i) ≤ m → j * length g.blocks + (length g.blocks - i) ≤ n
    → vote_within m g s z x y ≡ vote_within n g s z x y
unfolding vote_within rounds
steps_enough m n g s zero i z x y down inside member above le bm bn = absurd (false≢true (inside z member))
steps_enough zero n g s (suc j) i z x y down inside member above le bm bn =
    absurd (elim (cases_lt i (suc j)) [
      | inl lt ↦ omega arith
      | inr ge ↦ above (rounds_le (suc j) i g z ge (inside z member))
    ])
steps_enough (suc m) zero g s (suc j) i z x y down inside member above le bm bn =
    absurd (elim (cases_lt i (suc j)) [
      | inl lt ↦ omega arith
      | inr ge ↦ above (rounds_le (suc j) i g z ge (inside z member))
    ])
steps_enough (suc m) (suc n) g s (suc j) i z x y down inside member above le bm bn =
    let lt : i < suc j = elim (cases_lt i (suc j)) [ inl lt ↦ lt | inr ge ↦ absurd (above (rounds_le (suc j) i g z ge (inside z member))) ] in
    let whole : has (complete g) z ≡ true = down.all_complete z member in
    vote_by_same (case_of g z x y) g s _ _ _ _ z x y
    (ap sgn (total_same _ _ (past g z) (λ w there.
    steps_enough m n g (past g z) j 0 w x y (past_downset g z whole)
    (λ a in_it. past_lower j g a z (inside z member) (has-past g z a in_it))
    there (λ none. false≢true none) (omega arith) (omega arith) (omega arith))))
    (λ w there.
    let both : (has s w ≡ true) × (in_past g z w ≡ true) = has-filter (λ w. in_past g z w) s w there in
    steps_enough m n g s (suc j) (suc i) w x y down inside both.0
    (λ low. above (past_lower i g z w low both.1)) le (omega arith) (omega arith))

-- the five cases of the vote of a member of a downset, with no bound on the recursion
pub vote_is : (g : Graph) (s : List ℕ) (z x y : ℕ) → IsDownset g s → has s z ≡ true
    → vote g s z x y ≡ vote_by (case_of g z x y) g s (λ below. virt g below x y) (λ w. vote g s w x y) z x y
unfolding vote virt vote_within complete rounds
vote_is g s z x y down member =
    steps_enough (depth g) (suc (depth g)) g s (length g.blocks) 0 z x y down (λ w h. down.all_complete w h) member
    (λ none. false≢true none) (omega arith) (omega arith) (omega arith)

-- A fact of each member's vote follows from that fact of the members of its past, there, and of its future.
pub vote_induction : (g : Graph) (P : List ℕ → ℕ → Type 0)
    → ((s : List ℕ) (z : ℕ) → IsDownset g s → has s z ≡ true
    → ((w : ℕ) → has (past g z) w ≡ true → P (past g z) w)
    → ((w : ℕ) → has (future g s z) w ≡ true → P s w) → P s z)
    → (s : List ℕ) (z : ℕ) → IsDownset g s → has s z ≡ true → P s z
unfolding rounds complete
vote_induction g P step s z down member =
    go (depth g) s (length g.blocks) 0 z down (λ w h. down.all_complete w h) member (λ none. false≢true none) (omega arith) (omega arith)
  where
    future_step : (m : ℕ) (s : List ℕ) (j i z w : ℕ) → IsDownset g s → ((w : ℕ) → has s w ≡ true → has (rounds (suc j) g) w ≡ true)
        → (has (rounds i g) z ≡ true → ⊥) → suc j ≤ length g.blocks → suc j * length g.blocks + (length g.blocks - i) ≤ suc m → i < suc j
        → (has s w ≡ true) × (in_past g z w ≡ true) → ((has (rounds (suc i) g) w ≡ true → ⊥) → P s w) → P s w
    future_step m s j i z w down inside above le bound lt both rest = rest (λ low. above (past_lower i g z w low both.1))

    go : (m : ℕ) (s : List ℕ) (j i z : ℕ) → IsDownset g s → ((w : ℕ) → has s w ≡ true → has (rounds j g) w ≡ true)
        → has s z ≡ true → (has (rounds i g) z ≡ true → ⊥) → j ≤ length g.blocks
        → j * length g.blocks + (length g.blocks - i) ≤ m → P s z
    go m s zero i z down inside member above le bound = absurd (false≢true (inside z member))
    go zero s (suc j) i z down inside member above le bound =
        absurd (elim (cases_lt i (suc j)) [
          | inl lt ↦ omega arith
          | inr ge ↦ above (rounds_le (suc j) i g z ge (inside z member))
        ])
    go (suc m) s (suc j) i z down inside member above le bound =
        let lt : i < suc j = elim (cases_lt i (suc j)) [ inl lt ↦ lt | inr ge ↦ absurd (above (rounds_le (suc j) i g z ge (inside z member))) ] in
        let whole : has (complete g) z ≡ true = down.all_complete z member in
        step s z down member
        (λ w there. go m (past g z) j 0 w (past_downset g z whole) (λ a in_it. past_lower j g a z (inside z member) (has-past g z a in_it))
        there (λ none. false≢true none) (omega arith) (omega arith))
        (λ w there. future_step m s j i z w down inside above le bound lt (has-filter (λ w. in_past g z w) s w there)
        (λ low. go m s (suc j) (suc i) w down inside (has-filter (λ w. in_past g z w) s w there).0 low le (omega arith)))
