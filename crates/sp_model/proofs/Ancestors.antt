-- The votes on a block and a block of its past.
use Rattle.std.proofs.Common.{◌≡◌, ◌≢◌, ℕ, Bool, true, false, List, refl, ◌∙◌, eqb, arith}
use Rattle.std.specs.Prelude.{ℤ, pos, negsuc, ◌≤ℤ◌, ◌<ℤ◌}
use Rattle.std.proofs.lemmas.Int.{ints}
use Rattle.std.proofs.lemmas.Bool.{false≢true, ne_eqb, eq-eqb, false_from_ne_true}
use Rattle.sp_model.specs.declared.profile.Profile.{Profile}
use Rattle.sp_model.specs.declared.profile.Profile.TheVariants.{One, Two}
use Rattle.sp_model.specs.Graph.{Graph, Rank, rank_of, has, in_past, past, future, complete, IsDownset}
use Rattle.sp_model.specs.Votes.{total, settled, case_by, vote_by, vote, virt}
use Rattle.sp_model.proofs.Recursion.{vote_is, vote_induction}
use Rattle.sp_model.proofs.Pasts.{has-past_from, past_trans, past_downset, not_in_own_past}
use Rattle.sp_model.proofs.Signs.{total_low, total_below, sgn_low, sgn_below}

-- a vote that is no tie stays
settled_below : (p : Profile) (a b : Rank) (v : ℤ) → v <ℤ pos 0 → settled p a b v ≤ℤ pos 0
settled_below One a b v h = omega (arith, ints)
settled_below Two a b (negsuc n) h = omega (arith, ints)
settled_below Two a b (pos n) h = absurd (omega (arith, ints))

-- x is in the past of y: which votes can be cast
vote_by_low : (a b c d : Bool) (g : Graph) (s : List ℕ) (F : List ℕ → ℤ) (G : ℕ → ℤ) (z x y : ℕ)
    → in_past g y x ≡ false → in_past g x y ≡ true → (d ≡ true → c ≡ true)
    → (d ≡ true → F (past g z) <ℤ pos 0) → ((w : ℕ) → has (future g s z) w ≡ true → G w ≤ℤ pos 0)
    → vote_by (case_by a b c d) g s F G z x y ≤ℤ pos 0
vote_by_low true b c d g s F G z x y not_back back order f h = rw not_back (omega (arith, ints))
vote_by_low false true c d g s F G z x y not_back back order f h = rw back (omega (arith, ints))
vote_by_low false false true true g s F G z x y not_back back order f h =
    settled_below g.profile (rank_of g x) (rank_of g y) (F (past g z)) (f refl)
vote_by_low false false true false g s F G z x y not_back back order f h = omega (arith, ints)
vote_by_low false false false true g s F G z x y not_back back order f h = absurd (false≢true (order refl))
vote_by_low false false false false g s F G z x y not_back back order f h = sgn_low (total G (future g s z)) (total_low G (future g s z) h)

-- y itself votes for its ancestor
own_vote : (g : Graph) (s : List ℕ) (x y : ℕ) → IsDownset g s → has s y ≡ true → in_past g x y ≡ true → vote g s y x y ≡ negsuc 0
own_vote g s x y down member back =
    vote_is g s y x y down member
    ∙ (let apart : y ≢ x = λ e. not_in_own_past g y (down.all_complete y member) (rw (← e) at back) in
    rw (ne_eqb y x apart, eq-eqb y y refl, back) refl)

-- nobody votes against it
vote_low : (g : Graph) (s : List ℕ) (z x y : ℕ) → has (complete g) y ≡ true → in_past g x y ≡ true → IsDownset g s → has s z ≡ true → vote g s z x y ≤ℤ pos 0
unfolding virt
vote_low g s z x y whole back down member =
    vote_induction g (λ s z. vote g s z x y ≤ℤ pos 0) (λ s z down member below above. step s z down member below above) s z down member
  where
    virt_low : (s : List ℕ) → IsDownset g s → has s y ≡ true → ((w : ℕ) → has s w ≡ true → vote g s w x y ≤ℤ pos 0) → virt g s x y <ℤ pos 0
    virt_low s down in_it low =
        let e : virt g s x y ≡ negsuc 0 = sgn_below _ (total_below _ s y low in_it (rw (own_vote g s x y down in_it back) (omega (arith, ints)))) in
        omega (arith, ints)

    step : (s : List ℕ) (z : ℕ) → IsDownset g s → has s z ≡ true
        → ((w : ℕ) → has (past g z) w ≡ true → vote g (past g z) w x y ≤ℤ pos 0)
        → ((w : ℕ) → has (future g s z) w ≡ true → vote g s w x y ≤ℤ pos 0) → vote g s z x y ≤ℤ pos 0
    step s z down member below above =
        let at : has (complete g) z ≡ true = down.all_complete z member in
        rw (vote_is g s z x y down member)
        (vote_by_low (eqb z x) (eqb z y) (in_past g x z) (in_past g y z) g s _ _ z x y
        (false_from_ne_true (in_past g y x) (λ r. not_in_own_past g y whole (past_trans g y x y whole r back)))
        back (λ above. past_trans g x y z at back above)
        (λ in_it. virt_low (past g z) (past_downset g z at) (has-past_from g z y at in_it) below)
        above)

pub virt_ancestor : (g : Graph) (s : List ℕ) (x y : ℕ) → IsDownset g s → has s y ≡ true → in_past g x y ≡ true → virt g s x y ≡ negsuc 0
unfolding virt
virt_ancestor g s x y down member back =
    sgn_below _ (total_below _ s y
    (λ z there. vote_low g s z x y (down.all_complete y member) back down there)
    member (rw (own_vote g s x y down member back) (omega (arith, ints))))
