-- The cases of a vote, one by one, for a member of a set.
use Rattle.std.proofs.Common.{◌≡◌, ◌≢◌, ℕ, ◌+◌, ◌<◌, Bool, true, false, List, get_or, refl, ap, ◌∙◌, eqb, arith}
use Rattle.std.specs.Prelude.{ℤ, pos, negsuc}
use Rattle.std.proofs.lemmas.Bool.{eq-eqb, ne_eqb}
use Rattle.sp_model.specs.Graph.{Graph, has, in_past, past, future, IsDownset}
use Rattle.sp_model.specs.Votes.{vote, virt, total, sgn, settled_in, vote_by, case_by}
use Rattle.sp_model.proofs.Sets.{has-filter, total_same}
use Rattle.sp_model.proofs.Recursion.{vote_is}
use Rattle.sp_plain.specs.Plain.{AreVotesFrom}

module _ (g : Graph) (set : List ℕ) (z x y : ℕ) (down : IsDownset g set) (member : has set z ≡ true) where
  -- the vote by its case, where the tests are known
  vote_in : (a b p q : Bool) → eqb z x ≡ a → eqb z y ≡ b → in_past g x z ≡ p → in_past g y z ≡ q
      → vote g set z x y ≡ vote_by (case_by a b p q) g set (λ below. virt g below x y) (λ w. vote g set w x y) z x y
  vote_in a b p q ea eb ep eq = vote_is g set z x y down member ∙ rw (ea, eb, ep, eq) refl

  pub vote_is_x_after : z ≡ x → in_past g y x ≡ true → vote g set z x y ≡ pos 1
  vote_is_x_after e h = vote_in true (eqb z y) (in_past g x z) (in_past g y z) (eq-eqb z x e) refl refl refl ∙ rw h refl

  pub vote_is_x : z ≡ x → in_past g y x ≡ false → vote g set z x y ≡ negsuc 0
  vote_is_x e h = vote_in true (eqb z y) (in_past g x z) (in_past g y z) (eq-eqb z x e) refl refl refl ∙ rw h refl

  pub vote_is_y_after : z ≢ x → z ≡ y → in_past g x y ≡ true → vote g set z x y ≡ negsuc 0
  vote_is_y_after ne e h = vote_in false true (in_past g x z) (in_past g y z) (ne_eqb z x ne) (eq-eqb z y e) refl refl ∙ rw h refl

  pub vote_is_y : z ≢ x → z ≡ y → in_past g x y ≡ false → vote g set z x y ≡ pos 1
  vote_is_y ne e h = vote_in false true (in_past g x z) (in_past g y z) (ne_eqb z x ne) (eq-eqb z y e) refl refl ∙ rw h refl

  pub vote_only_x : z ≢ x → z ≢ y → in_past g x z ≡ true → in_past g y z ≡ false → vote g set z x y ≡ negsuc 0
  vote_only_x ne ne' h k = vote_in false false true false (ne_eqb z x ne) (ne_eqb z y ne') h k

  pub vote_only_y : z ≢ x → z ≢ y → in_past g x z ≡ false → in_past g y z ≡ true → vote g set z x y ≡ pos 1
  vote_only_y ne ne' h k = vote_in false false false true (ne_eqb z x ne) (ne_eqb z y ne') h k

  pub vote_both : z ≢ x → z ≢ y → in_past g x z ≡ true → in_past g y z ≡ true → vote g set z x y ≡ settled_in g x y (virt g (past g z) x y)
  vote_both ne ne' h k = vote_in false false true true (ne_eqb z x ne) (ne_eqb z y ne') h k

  pub vote_neither : z ≢ x → z ≢ y → in_past g x z ≡ false → in_past g y z ≡ false → vote g set z x y ≡ sgn (total (λ w. vote g set w x y) (future g set z))
  vote_neither ne ne' h k = vote_in false false false false (ne_eqb z x ne) (ne_eqb z y ne') h k

pub ruleset vote_cases = (vote_is_x_after, vote_is_x, vote_is_y_after, vote_is_y, vote_only_x, vote_only_y)

-- the sum over a future by a table of the votes above
pub total_by_table : (g : Graph) (set : List ℕ) (n z x y : ℕ) (votes : List ℤ)
    → ((w : ℕ) → has set w ≡ true → w < n) → ((w : ℕ) → w < n → in_past g z w ≡ true → z < w)
    → AreVotesFrom g set n x y (z + 1) votes
    → total (λ w. get_or votes w (pos 0)) (future g set z) ≡ total (λ w. vote g set w x y) (future g set z)
total_by_table g set n z x y votes below upward above =
    total_same _ _ (future g set z) (λ w there.
    let parts : (has set w ≡ true) × (in_past g z w ≡ true) = has-filter (λ w. in_past g z w) set w there in
    let up : z < w = upward w (below w parts.0) parts.1 in
    above w (omega arith) (below w parts.0) parts.0)

-- the virtual vote by a table of the votes
pub virt_by_table : (g : Graph) (set : List ℕ) (n x y : ℕ) (votes : List ℤ) → ((w : ℕ) → has set w ≡ true → w < n) → AreVotesFrom g set n x y 0 votes
    → sgn (total (λ w. get_or votes w (pos 0)) set) ≡ virt g set x y
unfolding virt
virt_by_table g set n x y votes below known =
    ap sgn (total_same _ _ set (λ w there. known w (omega arith) (below w there) there))
