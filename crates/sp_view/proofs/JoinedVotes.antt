-- How a block that joins a set votes on a pair inside it, and what comes to the sum of the pair's votes.
use Rattle.std.proofs.Common.{◌≡◌, ◌≢◌, ℕ, zero, suc, Bool, true, false, ◌&&◌, cond, List, refl, sym, ap, ◌∙◌, eqb, inl, inr, arith}
use Rattle.std.specs.Prelude.{ℤ, pos, negsuc, not, filter, ◌+ℤ◌, ◌-ℤ◌, ◌≤ℤ◌}
use Rattle.std.specs.Int.Signed.{lt_z}
use Rattle.std.proofs.lemmas.Int.{ints}
use Rattle.std.proofs.lemmas.Bool.{false≢true, and_parts, cases_Bool, eq-eqb, lt-ltb, ne_eqb, not-true, not_from_false}
use Rattle.sp_bits.specs.Places.{difference, IsRow}
use Rattle.sp_bits.specs.Members.{has-filter}
use Rattle.sp_bits.proofs.RowSets.{has_difference, row_small}
use Rattle.sp_model.specs.Graph.{Graph, IsDownset, has, in_past, keys}
use Rattle.sp_model.specs.Joining.{Joins}
use Rattle.sp_model.specs.Loose.{is_loose, is_plus, is_minus}
use Rattle.sp_model.specs.Votes.{sgn, total, vote}
use Rattle.sp_model.proofs.Joined.{loose_joins, member_differs, total_members}
use Rattle.sp_model.proofs.Loose.{frozen_same, vote_sign}
use Rattle.sp_model.proofs.Match.{distinct_filter, total_without}
use Rattle.sp_model.proofs.Pasts.{complete_key}
use Rattle.sp_model.proofs.Recursion.{vote_is}
use Rattle.sp_model.proofs.Sets.{has-filter_from, total_same}
use Rattle.sp_model.proofs.Sets as sets
use Rattle.sp_view.specs.Settled.{AreKept, AreSides}
use Rattle.sp_view.specs.Sums.{sum_of}

-- a vote by whether it is +1 and whether it is -1
pub vote_bits : (v : ℤ) → sgn v ≡ v → pos (cond (is_plus v) 1 0) -ℤ pos (cond (is_minus v) 1 0) ≡ v
vote_bits (negsuc zero) e = omega (arith, ints)
vote_bits (negsuc (suc n)) e = (let s : negsuc 0 ≡ negsuc (suc n) = e in absurd (omega (arith, ints)))
vote_bits (pos zero) e = omega (arith, ints)
vote_bits (pos (suc zero)) e = omega (arith, ints)
vote_bits (pos (suc (suc n))) e = (let s : pos 1 ≡ pos (suc (suc n)) = e in absurd (omega (arith, ints)))

pub sign_small : (v : ℤ) → sgn v ≡ v → (negsuc 0 ≤ℤ v) × (v ≤ℤ pos 1)
sign_small (negsuc zero) e = (omega (arith, ints), omega (arith, ints))
sign_small (negsuc (suc n)) e = (let s : negsuc 0 ≡ negsuc (suc n) = e in absurd (omega (arith, ints)))
sign_small (pos zero) e = (omega (arith, ints), omega (arith, ints))
sign_small (pos (suc zero)) e = (omega (arith, ints), omega (arith, ints))
sign_small (pos (suc (suc n))) e = (let s : pos 1 ≡ pos (suc (suc n)) = e in absurd (omega (arith, ints)))

-- one that isn't 0, told by comparing it with 0
pub up_told : (v w : ℤ) → w ≡ v → sgn v ≡ v → v ≢ pos 0 → v ≡ cond (lt_z (pos 0) w) (pos 1) (negsuc 0)
up_told v w e is some = at v is some ∙ ap (λ (n : ℤ). cond (lt_z (pos 0) n) (pos 1) (negsuc 0)) (sym e)
  where
    at : (v : ℤ) → sgn v ≡ v → v ≢ pos 0 → v ≡ cond (lt_z (pos 0) v) (pos 1) (negsuc 0)
    at (negsuc n) is some = sym is
    at (pos zero) is some = absurd (some refl)
    at (pos (suc n)) is some = sym is ∙ rw (lt-ltb 0 (suc n) (omega arith)) refl

same_bits : (v w : ℤ) → sgn v ≡ v → sgn w ≡ w → is_plus v ≡ is_plus w → is_minus v ≡ is_minus w → v ≡ w
same_bits v w e e' p m = sym (vote_bits v e) ∙ ap (λ (c : Bool). pos (cond c 1 0) -ℤ pos (cond (is_minus v) 1 0)) p ∙ ap (λ (c : Bool). pos (cond (is_plus w) 1 0) -ℤ pos (cond c 1 0)) m ∙ vote_bits w e'

module _ (g : Graph) (b : ℕ) (s t : List ℕ) (x y : ℕ) (j : Joins g b s t) where
  -- ---- the vote of the block that joins

  module _ (inside : (has s x && has s y) ≡ true) where
    not_first : eqb b x ≡ false
    not_first = ne_eqb b x (λ e. member_differs g b s t j x (and_parts (has s x) (has s y) inside).0 (sym e))

    not_second : eqb b y ≡ false
    not_second = ne_eqb b y (λ e. member_differs g b s t j y (and_parts (has s x) (has s y) inside).1 (sym e))

    pub vote_first : in_past g x b ≡ true → in_past g y b ≡ false → vote g t b x y ≡ negsuc 0
    vote_first p q = vote_is g t b x y j.more_down j.there ∙ rw (not_first, not_second, p, q) refl

    pub vote_second : in_past g x b ≡ false → in_past g y b ≡ true → vote g t b x y ≡ pos 1
    vote_second p q = vote_is g t b x y j.more_down j.there ∙ rw (not_first, not_second, p, q) refl

    pub vote_neither : in_past g x b ≡ false → in_past g y b ≡ false → vote g t b x y ≡ pos 0
    vote_neither p q = loose_joins g b s t j x y (rw (not_first, not_second, p, q) refl)

    pub vote_both : (frozen_plus frozen_minus : Bool) → IsDownset g (keys g) → in_past g x b ≡ true
        → frozen_plus ≡ (not (is_loose g b x y) && is_plus (vote g (keys g) b x y)) → frozen_minus ≡ (not (is_loose g b x y) && is_minus (vote g (keys g) b x y))
        → vote g t b x y ≡ pos (cond frozen_plus 1 0) -ℤ pos (cond frozen_minus 1 0)
    vote_both frozen_plus frozen_minus whole p plus_is minus_is =
        let bound : is_loose g b x y ≡ false = rw (not_first, p) refl in
        let same : vote g (keys g) b x y ≡ vote g t b x y = frozen_same g (keys g) t b x y whole j.more_down (complete_key g b (j.more_down.all_complete b j.there)) j.there bound in
        sym (vote_bits (vote g t b x y) (vote_sign g t b x y j.more_down j.there))
        ∙ ap (λ (c : Bool). pos (cond c 1 0) -ℤ pos (cond (is_minus (vote g t b x y)) 1 0)) (sym (plus_is ∙ rw bound (ap is_plus same)))
        ∙ ap (λ (c : Bool). pos (cond frozen_plus 1 0) -ℤ pos (cond c 1 0)) (sym (minus_is ∙ rw bound (ap is_minus same)))

  -- one that votes for either is frozen
  pub voting_bound : vote g t b x y ≢ pos 0 → is_loose g b x y ≡ false
  voting_bound some = elim (cases_Bool (is_loose g b x y)) [
    | inl loose ↦ absurd (some (loose_joins g b s t j x y loose))
    | inr bound ↦ bound
  ]

  -- ---- sums

  members_sum : total (λ z. vote g t z x y) t ≡ vote g t b x y +ℤ total (λ z. vote g t z x y) s
  members_sum =
      total_without (λ z. vote g t z x y) t b j.more_distinct j.there
      ∙ ap (λ (n : ℤ). vote g t b x y +ℤ n)
      (total_members (λ z. vote g t z x y) s (filter (λ z. not (eqb z b)) t) j.distinct (distinct_filter (λ z. not (eqb z b)) t j.more_distinct)
      (λ z h. has-filter_from (λ z. not (eqb z b)) t z (j.into z h) (not_from_false (eqb z b) (ne_eqb z b (member_differs g b s t j z h))))
      (λ z h.
      let parts : (has t z ≡ true) × (not (eqb z b) ≡ true) = sets.has-filter (λ z. not (eqb z b)) t z h in
      j.from z parts.0 (λ e. false≢true (sym (not-true (eqb z b) parts.1) ∙ eq-eqb z b e))))

  -- where no member's vote changes
  pub sum_stays : ((z : ℕ) → has s z ≡ true → vote g t z x y ≡ vote g s z x y) → sum_of g t x y ≡ sum_of g s x y +ℤ vote g t b x y
  sum_stays same =
      let rest : total (λ z. vote g t z x y) s ≡ total (λ z. vote g s z x y) s = total_same (λ z. vote g t z x y) (λ z. vote g s z x y) s same in
      omega (arith, ints, members_sum, rest)

  -- where one member's vote may change
  pub sum_turns : (k : ℕ) → has s k ≡ true → ((z : ℕ) → has s z ≡ true → z ≢ k → vote g t z x y ≡ vote g s z x y)
      → sum_of g t x y ≡ (sum_of g s x y +ℤ vote g t b x y) +ℤ (vote g t k x y -ℤ vote g s k x y)
  sum_turns k member same =
      let rest : total (λ z. vote g t z x y) (filter (λ z. not (eqb z k)) s) ≡ total (λ z. vote g s z x y) (filter (λ z. not (eqb z k)) s) =
      total_same (λ z. vote g t z x y) (λ z. vote g s z x y) (filter (λ z. not (eqb z k)) s)
      (λ z h.
      let parts : (has s z ≡ true) × (not (eqb z k) ≡ true) = sets.has-filter (λ z. not (eqb z k)) s z h in
      same z parts.0 (λ e. false≢true (sym (not-true (eqb z k) parts.1) ∙ eq-eqb z k e))) in
      omega (
        arith,
        ints,
        members_sum,
        rest,
        total_without (λ z. vote g t z x y) s k j.distinct member,
        total_without (λ z. vote g s z x y) s k j.distinct member,
      )

  -- ---- votes that stay

  pub kept_votes : (ups downs todo : List ℕ) → IsRow s → AreSides g s x y ups downs → AreKept g t x y (has todo) (difference ups todo) (difference downs todo)
      → (z : ℕ) → has s z ≡ true → has todo z ≡ false → vote g t z x y ≡ vote g s z x y
  kept_votes ups downs todo row sides kept z member closed = elim (cases_Bool (is_loose g z x y)) [
    | inl loose ↦ same_bits (vote g t z x y) (vote g s z x y) (vote_sign g t z x y j.more_down (j.into z member)) (vote_sign g s z x y j.down member)
        (side is_plus ups loose sides.plus_is kept.plus_is) (side is_minus downs loose sides.minus_is kept.minus_is)
    | inr bound ↦ frozen_same g t s z x y j.more_down j.down (j.into z member) member bound
  ]
    where
      on : (c : Bool) → (c && true) ≡ c
      on true = refl
      on false = refl

      side : (votes : ℤ → Bool) (before : List ℕ) → is_loose g z x y ≡ true → before ≡ filter (λ z. is_loose g z x y && votes (vote g s z x y)) s
          → ((z : ℕ) → has (difference before todo) z ≡ (has t z && (is_loose g z x y && (not (has todo z) && votes (vote g t z x y)))))
          → votes (vote g t z x y) ≡ votes (vote g s z x y)
      side votes before loose is kept_is =
          let there : has before z ≡ votes (vote g s z x y) = ap (λ (l : List ℕ). has l z) is ∙ has-filter (λ z. is_loose g z x y && votes (vote g s z x y)) s z ∙ rw (member, loose) refl in
          let now : has (difference before todo) z ≡ votes (vote g t z x y) = kept_is z ∙ rw (j.into z member, loose, closed) refl in
          let left : has (difference before todo) z ≡ has before z = has_difference before todo z (λ _. row_small s z row member) ∙ ap (λ (c : Bool). has before z && not c) closed ∙ on (has before z) in
          sym now ∙ left ∙ there
