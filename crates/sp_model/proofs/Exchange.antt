-- The votes on two blocks in the other order.
use Rattle.std.proofs.Common.{◌≡◌, ◌≢◌, ℕ, zero, suc, Bool, true, false, cond, List, refl, sym, ap, ◌∙◌, eqb, arith}
use Rattle.std.specs.Prelude.{ℤ, pos, negsuc, neg_ℤ, nat_lt, ◌||◌, ◌&&◌, ◌==◌}
use Rattle.std.proofs.lemmas.Bool.Decides.{nat_tests}
use Rattle.std.proofs.lemmas.Bool.{eqb-true, false≢true}
use Rattle.sp_model.specs.Graph.{Graph, Rank, is_lower, rank_of, has, in_past, past, future, IsDownset}
use Rattle.sp_model.specs.declared.profile.Profile.{Profile}
use Rattle.sp_model.specs.declared.profile.Profile.TheVariants.{One, Two}
use Rattle.sp_model.specs.Votes.{total, sgn, by_rank, settled, settled_in, case_by, vote_by, vote, virt}
use Rattle.sp_model.proofs.Recursion.{vote_is, vote_induction}
use Rattle.sp_model.proofs.Signs.{sgn-neg_ℤ, total_neg}

cond_neg : (b : Bool) → cond b (pos 1) (negsuc 0) ≡ neg_ℤ (cond b (negsuc 0) (pos 1))
cond_neg true = refl
cond_neg false = refl

cond_neg_back : (b : Bool) → cond b (negsuc 0) (pos 1) ≡ neg_ℤ (cond b (pos 1) (negsuc 0))
cond_neg_back true = refl
cond_neg_back false = refl

-- of two ranks at most one is the lower
lower_once : (a b : Rank) → is_lower a b ≡ true → is_lower b a ≡ false
lower_once a b = by_parts a.salt a.id b.salt b.id
  where
    by_parts : (s i t j : ℕ) → (nat_lt s t || ((s == t) && nat_lt i j)) ≡ true → (nat_lt t s || ((t == s) && nat_lt j i)) ≡ false
    by_parts s i t j = grind (arith, nat_tests)

by_rank_neg : (a b : Rank) → by_rank a b ≡ neg_ℤ (by_rank b a)
by_rank_neg a b = at (is_lower a b) (is_lower b a) (lower_once a b)
  where
    at : (c d : Bool) → (c ≡ true → d ≡ false) → cond c (negsuc 0) (cond d (pos 1) (pos 0)) ≡ neg_ℤ (cond d (negsuc 0) (cond c (pos 1) (pos 0)))
    at true true h = absurd (false≢true (sym (h refl)))
    at true false h = refl
    at false true h = refl
    at false false h = refl

settled_neg : (p : Profile) (a b : Rank) (v : ℤ) → settled p a b (neg_ℤ v) ≡ neg_ℤ (settled p b a v)
settled_neg One a b v = refl
settled_neg Two a b (negsuc n) = refl
settled_neg Two a b (pos zero) = by_rank_neg a b
settled_neg Two a b (pos (suc n)) = refl

vote_by_neg : (a b c d : Bool) (g : Graph) (s : List ℕ) (F F' : List ℕ → ℤ) (G G' : ℕ → ℤ) (z x y : ℕ)
    → (a ≡ true → b ≡ true → ⊥) → F (past g z) ≡ neg_ℤ (F' (past g z))
    → ((w : ℕ) → has (future g s z) w ≡ true → G w ≡ neg_ℤ (G' w))
    → vote_by (case_by a b c d) g s F G z x y ≡ neg_ℤ (vote_by (case_by b a d c) g s F' G' z y x)
vote_by_neg true true c d g s F F' G G' z x y apart f h = absurd (apart refl refl)
vote_by_neg true false c d g s F F' G G' z x y apart f h = cond_neg (in_past g y x)
vote_by_neg false true c d g s F F' G G' z x y apart f h = cond_neg_back (in_past g x y)
vote_by_neg false false true true g s F F' G G' z x y apart f h =
    ap (settled_in g x y) f ∙ settled_neg g.profile (rank_of g x) (rank_of g y) (F' (past g z))
vote_by_neg false false true false g s F F' G G' z x y apart f h = refl
vote_by_neg false false false true g s F F' G G' z x y apart f h = refl
vote_by_neg false false false false g s F F' G G' z x y apart f h =
    ap sgn (total_neg G G' (future g s z) h) ∙ sgn-neg_ℤ (total G' (future g s z))

-- the virtual vote turns round where each vote does
virt_turned : (g : Graph) (s : List ℕ) (x y : ℕ) → ((z : ℕ) → has s z ≡ true → vote g s z x y ≡ neg_ℤ (vote g s z y x)) → virt g s x y ≡ neg_ℤ (virt g s y x)
unfolding virt
virt_turned g s x y each = ap sgn (total_neg _ _ s each) ∙ sgn-neg_ℤ (total (λ z. vote g s z y x) s)

pub vote_neg : (g : Graph) (s : List ℕ) (z x y : ℕ) → IsDownset g s → has s z ≡ true → x ≢ y → vote g s z x y ≡ neg_ℤ (vote g s z y x)
vote_neg g s z x y down member apart =
    vote_induction g (λ s z. vote g s z x y ≡ neg_ℤ (vote g s z y x)) step s z down member
  where
    step : (s : List ℕ) (z : ℕ) → IsDownset g s → has s z ≡ true
        → ((w : ℕ) → has (past g z) w ≡ true → vote g (past g z) w x y ≡ neg_ℤ (vote g (past g z) w y x))
        → ((w : ℕ) → has (future g s z) w ≡ true → vote g s w x y ≡ neg_ℤ (vote g s w y x)) → vote g s z x y ≡ neg_ℤ (vote g s z y x)
    step s z down member below above =
        vote_is g s z x y down member
        ∙ vote_by_neg (eqb z x) (eqb z y) (in_past g x z) (in_past g y z) g s _ _ _ _ z x y
        (λ e f. apart (sym (eqb-true z x e) ∙ eqb-true z y f)) (virt_turned g (past g z) x y below) above
        ∙ ap neg_ℤ (sym (vote_is g s z y x down member))

pub virt_neg : (g : Graph) (s : List ℕ) (x y : ℕ) → IsDownset g s → x ≢ y → virt g s x y ≡ neg_ℤ (virt g s y x)
virt_neg g s x y down apart = virt_turned g s x y (λ z there. vote_neg g s z x y down there apart)
