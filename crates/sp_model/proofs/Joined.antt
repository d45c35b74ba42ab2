-- One block more in the set: which votes it changes, and in which direction.
use Rattle.std.proofs.Common.{◌≡◌, ◌≢◌, ℕ, zero, suc, true, false, List, [], ◌∷◌, refl, sym, ap, ◌∙◌, eqb, inl, inr, arith}
use Rattle.std.specs.Prelude.{ℤ, pos, negsuc, not, filter, ◌≤ℤ◌, ◌+ℤ◌, neg_ℤ}
use Rattle.std.proofs.lemmas.Int.{ints}
use Rattle.std.proofs.lemmas.Bool.{false≢true, eq-eqb, ne_eqb, eqb-true, or_left, or_right, cases_Bool, false_from_ne_true, not-true, not_from_false}
use Rattle.sp_model.specs.Graph.{Graph, AreDistinct, has, in_past, future, complete}
use Rattle.sp_model.specs.Votes.{total, sgn, vote}
use Rattle.sp_model.specs.Loose.{is_loose}
use Rattle.sp_model.specs.Joining.{Joins}
use Rattle.sp_model.proofs.Sets.{has-filter, has-filter_from, total_same}
use Rattle.sp_model.proofs.Match.{distinct_filter, total_matched}
use Rattle.sp_model.proofs.Match.{total_without}
use Rattle.sp_model.proofs.Exchange.{vote_neg}
use Rattle.sp_model.proofs.Pasts.{not_in_own_past, past_trans}
use Rattle.sp_model.proofs.Loose.{frozen_same, loose_vote, vote_sign, future_induction}

-- ---- sums

-- lists of the same members have the same sum
pub total_members : (f : ℕ → ℤ) (xs ys : List ℕ) → AreDistinct xs → AreDistinct ys
    → ((k : ℕ) → has xs k ≡ true → has ys k ≡ true) → ((k : ℕ) → has ys k ≡ true → has xs k ≡ true) → total f ys ≡ total f xs
total_members f xs ys d d' into from =
    total_matched (λ k. k) f f xs ys (λ a b _ _ e. e) d d'
    (record { into = into; onto = λ k there. (k, from k there, refl) }) (λ k there. refl)

-- a sum whose terms grow
pub total_grows : (f g : ℕ → ℤ) (xs : List ℕ) → ((k : ℕ) → has xs k ≡ true → f k ≤ℤ g k) → total f xs ≤ℤ total g xs
total_grows f g [] h = omega (arith, ints)
total_grows f g (x ∷ xs) h =
    let here : f x ≤ℤ g x = h x (or_left (eqb x x) (has xs x) (eq-eqb x x refl)) in
    let rest : total f xs ≤ℤ total g xs = total_grows f g xs (λ k there. h k (or_right (eqb x k) (has xs k) there)) in
    omega (arith, ints)

pub sgn_grows : (m n : ℤ) → m ≤ℤ n → sgn m ≤ℤ sgn n
sgn_grows (negsuc m) (negsuc n) h = omega (arith, ints)
sgn_grows (negsuc m) (pos zero) h = omega (arith, ints)
sgn_grows (negsuc m) (pos (suc n)) h = omega (arith, ints)
sgn_grows (pos zero) (negsuc n) h = absurd (omega (arith, ints))
sgn_grows (pos (suc m)) (negsuc n) h = absurd (omega (arith, ints))
sgn_grows (pos zero) (pos zero) h = omega (arith, ints)
sgn_grows (pos zero) (pos (suc n)) h = omega (arith, ints)
sgn_grows (pos (suc m)) (pos zero) h = absurd (omega (arith, ints))
sgn_grows (pos (suc m)) (pos (suc n)) h = omega (arith, ints)

-- ---- a set, and the same with one block more, which isn't in the past of any

module _ (g : Graph) (b : ℕ) (s t : List ℕ) (j : Joins g b s t) where
  -- a member differs from the block that joins
  pub member_differs : (z : ℕ) → has s z ≡ true → z ≢ b
  member_differs z member e = false≢true (sym j.new ∙ ap (has s) (sym e) ∙ member)

  -- the block that joins has no future
  pub nothing_above : (z : ℕ) → has t z ≡ true → in_past g b z ≡ true → ⊥
  nothing_above z member r =
      elim (cases_Bool (eqb z b)) [
        | inl same ↦ (let e : z ≡ b = eqb-true z b same in own (ap (λ (k : ℕ). in_past g b k) (sym e) ∙ r))
        | inr other ↦ false≢true (sym j.new ∙ j.down.closed z b (j.from z member (λ e. false≢true (sym other ∙ eq-eqb z b e))) r)
      ]
    where
      own : in_past g b b ≡ true → ⊥
      own r = not_in_own_past g b (j.more_down.all_complete b j.there) r

  complete_member : (z : ℕ) → has t z ≡ true → has (complete g) z ≡ true
  complete_member z member = j.more_down.all_complete z member

  -- ---- the future of a member

  future_into : (z w : ℕ) → has (future g s z) w ≡ true → has (future g t z) w ≡ true
  future_into z w there =
      let parts : (has s w ≡ true) × (in_past g z w ≡ true) = has-filter (λ w. in_past g z w) s w there in
      has-filter_from (λ w. in_past g z w) t w (j.into w parts.0) parts.1

  future_from : (z w : ℕ) → w ≢ b → has (future g t z) w ≡ true → has (future g s z) w ≡ true
  future_from z w other there =
      let parts : (has t w ≡ true) × (in_past g z w ≡ true) = has-filter (λ w. in_past g z w) t w there in
      has-filter_from (λ w. in_past g z w) s w (j.from w parts.0 other) parts.1

  -- the same, where the block that joins doesn't have it in its past
  future_stays : (f : ℕ → ℤ) (z : ℕ) → in_past g z b ≡ false → total f (future g t z) ≡ total f (future g s z)
  future_stays f z apart =
      total_members f (future g s z) (future g t z)
      (distinct_filter (λ w. in_past g z w) s j.distinct) (distinct_filter (λ w. in_past g z w) t j.more_distinct)
      (future_into z)
      (λ w there. future_from z w
      (λ e. false≢true (sym apart ∙ ap (λ (k : ℕ). in_past g z k) (sym e) ∙ (has-filter (λ w. in_past g z w) t w there).1)) there)

  -- one more, where it does
  future_gains : (f : ℕ → ℤ) (z : ℕ) → in_past g z b ≡ true → total f (future g t z) ≡ f b +ℤ total f (future g s z)
  future_gains f z below =
      let d : AreDistinct (future g t z) = distinct_filter (λ w. in_past g z w) t j.more_distinct in
      let rest : total f (filter (λ w. not (eqb w b)) (future g t z)) ≡ total f (future g s z) =
      total_members f (future g s z) (filter (λ w. not (eqb w b)) (future g t z))
      (distinct_filter (λ w. in_past g z w) s j.distinct) (distinct_filter (λ w. not (eqb w b)) (future g t z) d)
      (λ w there. has-filter_from (λ w. not (eqb w b)) (future g t z) w (future_into z w there)
      (not_from_false (eqb w b) (ne_eqb w b (member_differs w (has-filter (λ w. in_past g z w) s w there).0))))
      (λ w there.
      let parts : (has (future g t z) w ≡ true) × (not (eqb w b) ≡ true) = has-filter (λ w. not (eqb w b)) (future g t z) w there in
      future_from z w (λ e. false≢true (sym (not-true (eqb w b) parts.1) ∙ eq-eqb w b e)) parts.0) in
      total_without f (future g t z) b d (has-filter_from (λ w. in_past g z w) t b j.there below) ∙ ap (λ (n : ℤ). f b +ℤ n) rest

  module _ (x y : ℕ) where
    -- a loose block that joins votes for neither
    pub loose_joins : is_loose g b x y ≡ true → vote g t b x y ≡ pos 0
    loose_joins loose =
        loose_vote g t b x y j.more_down j.there loose
        ∙ ap sgn (total_members (λ w. vote g t w x y) [] (future g t b) tt (distinct_filter (λ w. in_past g b w) t j.more_distinct)
        (λ w none. absurd (false≢true none))
        (λ w there. (let parts : (has t w ≡ true) × (in_past g b w ≡ true) = has-filter (λ w. in_past g b w) t w there in absurd (nothing_above w parts.0 parts.1))))

    -- voters outside the past of the block that joins vote as before
    pub apart_stays : (z : ℕ) → has s z ≡ true → in_past g z b ≡ false → vote g t z x y ≡ vote g s z x y
    apart_stays z member =
        future_induction g s (λ z. in_past g z b ≡ false → vote g t z x y ≡ vote g s z x y) j.down step z member
      where
        step : (z : ℕ) → has s z ≡ true → ((w : ℕ) → has (future g s z) w ≡ true → in_past g w b ≡ false → vote g t w x y ≡ vote g s w x y)
            → in_past g z b ≡ false → vote g t z x y ≡ vote g s z x y
        step z member above apart =
            elim (cases_Bool (is_loose g z x y)) [
              | inl loose ↦ loose_vote g t z x y j.more_down (j.into z member) loose
                  ∙ ap sgn (future_stays (λ w. vote g t w x y) z apart
                  ∙ total_same _ _ (future g s z) (λ w there. above w there (later w (has-filter (λ w. in_past g z w) s w there).1)))
                  ∙ sym (loose_vote g s z x y j.down member loose)
              | inr frozen ↦ frozen_same g t s z x y j.more_down j.down (j.into z member) member frozen
            ]
          where
            later : (w : ℕ) → in_past g z w ≡ true → in_past g w b ≡ false
            later w r = false_from_ne_true (in_past g w b) (λ h. false≢true (sym apart ∙ past_trans g z w b (complete_member b j.there) r h))

    -- where the block that joins doesn't vote for x, no vote falls
    pub votes_grow : pos 0 ≤ℤ vote g t b x y → (z : ℕ) → has s z ≡ true → vote g s z x y ≤ℤ vote g t z x y
    votes_grow up z member =
        future_induction g s (λ z. vote g s z x y ≤ℤ vote g t z x y) j.down step z member
      where
        same_le : (m n : ℤ) → m ≡ n → n ≤ℤ m
        same_le m n e = omega (arith, ints)

        loose_step : (z : ℕ) → has s z ≡ true → is_loose g z x y ≡ true → ((w : ℕ) → has (future g s z) w ≡ true → vote g s w x y ≤ℤ vote g t w x y)
            → in_past g z b ≡ true → vote g s z x y ≤ℤ vote g t z x y
        loose_step z member loose above below =
            let old : vote g s z x y ≡ sgn (total (λ w. vote g s w x y) (future g s z)) = loose_vote g s z x y j.down member loose in
            let new : vote g t z x y ≡ sgn (total (λ w. vote g t w x y) (future g t z)) = loose_vote g t z x y j.more_down (j.into z member) loose in
            let gains : total (λ w. vote g t w x y) (future g t z) ≡ vote g t b x y +ℤ total (λ w. vote g t w x y) (future g s z) = future_gains (λ w. vote g t w x y) z below in
            let grows : total (λ w. vote g s w x y) (future g s z) ≤ℤ total (λ w. vote g t w x y) (future g s z) = total_grows _ _ (future g s z) above in
            let sum : total (λ w. vote g s w x y) (future g s z) ≤ℤ total (λ w. vote g t w x y) (future g t z) = omega (arith, ints) in
            rw (old, new) (sgn_grows _ _ sum)

        step : (z : ℕ) → has s z ≡ true → ((w : ℕ) → has (future g s z) w ≡ true → vote g s w x y ≤ℤ vote g t w x y) → vote g s z x y ≤ℤ vote g t z x y
        step z member above =
            elim (cases_Bool (is_loose g z x y)) [
              | inl loose ↦ (elim (cases_Bool (in_past g z b)) [
                | inl below ↦ loose_step z member loose above below
                | inr apart ↦ same_le (vote g t z x y) (vote g s z x y) (apart_stays z member apart)
              ])
              | inr frozen ↦ same_le (vote g t z x y) (vote g s z x y) (frozen_same g t s z x y j.more_down j.down (j.into z member) member frozen)
            ]

-- where it doesn't vote for y, no vote rises
pub votes_fall : (g : Graph) (b : ℕ) (s t : List ℕ) → Joins g b s t → (x y : ℕ) → x ≢ y → vote g t b x y ≤ℤ pos 0
    → (z : ℕ) → has s z ≡ true → vote g t z x y ≤ℤ vote g s z x y
votes_fall g b s t j x y other down z member =
    let turned : vote g t b x y ≡ neg_ℤ (vote g t b y x) = vote_neg g t b x y j.more_down j.there other in
    let old : vote g s z x y ≡ neg_ℤ (vote g s z y x) = vote_neg g s z x y j.down member other in
    let new : vote g t z x y ≡ neg_ℤ (vote g t z y x) = vote_neg g t z x y j.more_down (j.into z member) other in
    let grow : vote g s z y x ≤ℤ vote g t z y x = votes_grow g b s t j y x (omega (arith, ints)) z member in
    omega (arith, ints)

sign_range : (v : ℤ) → sgn v ≡ v → (negsuc 0 ≤ℤ v) × (v ≤ℤ pos 1)
sign_range (negsuc zero) e = (omega (arith, ints), omega (arith, ints))
sign_range (negsuc (suc n)) e = absurd (omega (arith, ints, e))
sign_range (pos zero) e = (omega (arith, ints), omega (arith, ints))
sign_range (pos (suc zero)) e = (omega (arith, ints), omega (arith, ints))
sign_range (pos (suc (suc n))) e = absurd (omega (arith, ints, e))

-- Where the block that joins votes for neither, each vote stays.
pub tie_stays : (g : Graph) (b : ℕ) (s t : List ℕ) → Joins g b s t → (x y : ℕ) → x ≢ y → vote g t b x y ≡ pos 0
    → (z : ℕ) → has s z ≡ true → vote g t z x y ≡ vote g s z x y
tie_stays g b s t j x y other tie z member =
    let grow : vote g s z x y ≤ℤ vote g t z x y = votes_grow g b s t j x y (omega (arith, ints)) z member in
    let fall : vote g t z x y ≤ℤ vote g s z x y = votes_fall g b s t j x y other (omega (arith, ints)) z member in
    omega (arith, ints)

-- Only the votes of the past of the block that joins can change, and only those that differ from its own.
pub agreeing_stays : (g : Graph) (b : ℕ) (s t : List ℕ) → Joins g b s t → (x y : ℕ) → x ≢ y
    → (z : ℕ) → has s z ≡ true → vote g s z x y ≡ vote g t b x y → vote g t z x y ≡ vote g s z x y
agreeing_stays g b s t j x y other z member agrees =
    by (vote g t b x y) (sign_range _ (vote_sign g t b x y j.more_down j.there)) refl
  where
    range : (negsuc 0 ≤ℤ vote g t z x y) × (vote g t z x y ≤ℤ pos 1)
    range = sign_range _ (vote_sign g t z x y j.more_down (j.into z member))

    by : (v : ℤ) → (negsuc 0 ≤ℤ v) × (v ≤ℤ pos 1) → vote g t b x y ≡ v → vote g t z x y ≡ vote g s z x y
    by (pos zero) r e = tie_stays g b s t j x y other e z member
    by (pos (suc n)) r e =
        let grow : vote g s z x y ≤ℤ vote g t z x y = votes_grow g b s t j x y (omega (arith, ints)) z member in
        omega (arith, ints, range.0, range.1)
    by (negsuc n) r e =
        let fall : vote g t z x y ≤ℤ vote g s z x y = votes_fall g b s t j x y other (omega (arith, ints)) z member in
        omega (arith, ints, range.0, range.1)
