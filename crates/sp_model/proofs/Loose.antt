-- Loose and frozen voters: a frozen vote is the same in every set, a loose one is the sign of the votes above it.
use Rattle.std.proofs.Common.{◌≡◌, ℕ, zero, suc, Bool, true, false, ◌||◌, cond, List, refl, sym, ap, ◌∙◌, eqb}
use Rattle.std.specs.Prelude.{ℤ, pos, negsuc, not}
use Rattle.std.proofs.lemmas.Bool.{false≢true}
use Rattle.sp_model.specs.declared.profile.Profile.{Profile}
use Rattle.sp_model.specs.declared.profile.Profile.TheVariants.{One, Two}
use Rattle.sp_model.specs.Graph.{Graph, Rank, is_lower, rank_of, has, in_past, past, future, IsDownset}
use Rattle.sp_model.specs.Votes.{total, sgn, settled, case_by, vote_by, vote, virt}
use Rattle.sp_model.specs.Loose.{is_loose}
use Rattle.sp_model.proofs.Recursion.{vote_is, vote_induction}

-- ---- frozen

-- a vote by a case other than the last doesn't ask the set
frozen_by : (a b c d : Bool) (g : Graph) (s t : List ℕ) (F : List ℕ → ℤ) (G G' : ℕ → ℤ) (z x y : ℕ)
    → not ((a || c) || (b || d)) ≡ false
    → vote_by (case_by a b c d) g s F G z x y ≡ vote_by (case_by a b c d) g t F G' z x y
frozen_by true b c d g s t F G G' z x y frozen = refl
frozen_by false true c d g s t F G G' z x y frozen = refl
frozen_by false false true true g s t F G G' z x y frozen = refl
frozen_by false false true false g s t F G G' z x y frozen = refl
frozen_by false false false true g s t F G G' z x y frozen = refl
frozen_by false false false false g s t F G G' z x y frozen = absurd (false≢true (sym frozen))

pub frozen_same : (g : Graph) (s t : List ℕ) (z x y : ℕ) → IsDownset g s → IsDownset g t → has s z ≡ true → has t z ≡ true
    → is_loose g z x y ≡ false → vote g s z x y ≡ vote g t z x y
frozen_same g s t z x y down down' member member' frozen =
    vote_is g s z x y down member
    ∙ frozen_by (eqb z x) (eqb z y) (in_past g x z) (in_past g y z) g s t (λ below. virt g below x y) (λ w. vote g s w x y) (λ w. vote g t w x y) z x y frozen
    ∙ sym (vote_is g t z x y down' member')

-- ---- loose

loose_by : (a b c d : Bool) (g : Graph) (s : List ℕ) (F : List ℕ → ℤ) (G : ℕ → ℤ) (z x y : ℕ)
    → not ((a || c) || (b || d)) ≡ true
    → vote_by (case_by a b c d) g s F G z x y ≡ sgn (total G (future g s z))
loose_by true b c d g s F G z x y loose = absurd (false≢true loose)
loose_by false true true d g s F G z x y loose = absurd (false≢true loose)
loose_by false true false d g s F G z x y loose = absurd (false≢true loose)
loose_by false false true d g s F G z x y loose = absurd (false≢true loose)
loose_by false false false true g s F G z x y loose = absurd (false≢true loose)
loose_by false false false false g s F G z x y loose = refl

pub loose_vote : (g : Graph) (s : List ℕ) (z x y : ℕ) → IsDownset g s → has s z ≡ true → is_loose g z x y ≡ true
    → vote g s z x y ≡ sgn (total (λ w. vote g s w x y) (future g s z))
loose_vote g s z x y down member loose =
    vote_is g s z x y down member
    ∙ loose_by (eqb z x) (eqb z y) (in_past g x z) (in_past g y z) g s (λ below. virt g below x y) (λ w. vote g s w x y) z x y loose

-- ---- votes are -1, 0 or +1

pub sgn_sgn : (n : ℤ) → sgn (sgn n) ≡ sgn n
sgn_sgn (negsuc n) = refl
sgn_sgn (pos zero) = refl
sgn_sgn (pos (suc n)) = refl

sgn_cond : (b : Bool) → sgn (cond b (pos 1) (negsuc 0)) ≡ cond b (pos 1) (negsuc 0)
sgn_cond true = refl
sgn_cond false = refl

sgn_cond_back : (b : Bool) → sgn (cond b (negsuc 0) (pos 1)) ≡ cond b (negsuc 0) (pos 1)
sgn_cond_back true = refl
sgn_cond_back false = refl

cond_sign : (c d : Bool) → sgn (cond c (negsuc 0) (cond d (pos 1) (pos 0))) ≡ cond c (negsuc 0) (cond d (pos 1) (pos 0))
cond_sign true d = refl
cond_sign false true = refl
cond_sign false false = refl

settled_sign : (p : Profile) (a b : Rank) (v : ℤ) → sgn v ≡ v → sgn (settled p a b v) ≡ settled p a b v
settled_sign One a b v h = h
settled_sign Two a b (negsuc n) h = h
settled_sign Two a b (pos zero) h = cond_sign (is_lower a b) (is_lower b a)
settled_sign Two a b (pos (suc n)) h = h

sign_by : (a b c d : Bool) (g : Graph) (s : List ℕ) (G : ℕ → ℤ) (z x y : ℕ)
    → sgn (vote_by (case_by a b c d) g s (λ below. virt g below x y) G z x y) ≡ vote_by (case_by a b c d) g s (λ below. virt g below x y) G z x y
unfolding virt
sign_by true b c d g s G z x y = sgn_cond (in_past g y x)
sign_by false true c d g s G z x y = sgn_cond_back (in_past g x y)
sign_by false false true true g s G z x y =
    settled_sign g.profile (rank_of g x) (rank_of g y) _ (sgn_sgn (total (λ w. vote g (past g z) w x y) (past g z)))
sign_by false false true false g s G z x y = refl
sign_by false false false true g s G z x y = refl
sign_by false false false false g s G z x y = sgn_sgn (total G (future g s z))

pub vote_sign : (g : Graph) (s : List ℕ) (z x y : ℕ) → IsDownset g s → has s z ≡ true → sgn (vote g s z x y) ≡ vote g s z x y
vote_sign g s z x y down member =
    ap sgn (vote_is g s z x y down member)
    ∙ sign_by (eqb z x) (eqb z y) (in_past g x z) (in_past g y z) g s (λ w. vote g s w x y) z x y
    ∙ sym (vote_is g s z x y down member)

-- ---- induction over the future alone

pub future_induction : (g : Graph) (s : List ℕ) (P : ℕ → Type 0) → IsDownset g s
    → ((z : ℕ) → has s z ≡ true → ((w : ℕ) → has (future g s z) w ≡ true → P w) → P z)
    → (z : ℕ) → has s z ≡ true → P z
future_induction g s P down step z member =
    vote_induction g (λ s' z. s' ≡ s → P z)
    (λ s' z down' member' below above e. step z (ap (λ (l : List ℕ). has l z) (sym e) ∙ member') (λ w there. above w (ap (λ (l : List ℕ). has (future g l z) w) e ∙ there) e))
    s z down member refl
