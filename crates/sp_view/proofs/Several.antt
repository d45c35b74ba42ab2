-- Several blocks that join a set at once: which votes they change, and in which direction.
use Rattle.std.proofs.Common.{◌≡◌, ◌≢◌, ℕ, zero, suc, Bool, true, false, cond, ◌||◌, List, [], ◌∷◌, refl, sym, ap, ◌∙◌, eqb, inl, inr, arith}
use Rattle.std.specs.Prelude.{ℤ, pos, negsuc, not, filter, ◌≤ℤ◌, ◌+ℤ◌, neg_ℤ}
use Rattle.std.proofs.lemmas.Int.{ints}
use Rattle.std.proofs.lemmas.Bool.{false≢true, eqb-true, eq-eqb, or_left, or_right, cases_Bool}
use Rattle.sp_model.specs.Graph.{Graph, AreDistinct, IsDownset, has, in_past, future}
use Rattle.sp_model.specs.Votes.{sgn, total, vote}
use Rattle.sp_model.specs.Loose.{in_bar, is_loose}
use Rattle.sp_model.proofs.Sets.{has-filter, has-filter_from}
use Rattle.sp_model.proofs.Match.{distinct_filter, total_without}
use Rattle.sp_model.proofs.Joined.{total_members, total_grows, sgn_grows}
use Rattle.sp_model.proofs.Exchange.{vote_neg}
use Rattle.sp_model.proofs.Pasts.{past_trans}
use Rattle.sp_model.proofs.Loose.{frozen_same, loose_vote, future_induction}

-- the vote of a member of the smaller set there, and 0 for each other block
abbrev pub vote_before : Graph → List ℕ → ℕ → ℕ → ℕ → ℤ
vote_before g s x y z = cond (has s z) (vote g s z x y) (pos 0)

-- a sum of terms that are 0 for those that fail a test
total_cond : (test : ℕ → Bool) (f : ℕ → ℤ) (xs : List ℕ) → total (λ w. cond (test w) (f w) (pos 0)) xs ≡ total f (filter test xs)
total_cond test f [] = refl
total_cond test f (x ∷ xs) = at (test x) (total_cond test f xs)
  where
    at : (b : Bool) → total (λ w. cond (test w) (f w) (pos 0)) xs ≡ total f (filter test xs)
        → (cond b (f x) (pos 0) +ℤ total (λ w. cond (test w) (f w) (pos 0)) xs) ≡ total f (cond b (x ∷ filter test xs) (filter test xs))
    at true rest = ap (λ (n : ℤ). f x +ℤ n) rest
    at false rest = omega (arith, ints, rest)

same_le : (m n : ℤ) → m ≡ n → m ≤ℤ n
same_le m n e = omega (arith, ints, e)

sgn_above : (n : ℤ) → pos 1 ≤ℤ n → sgn n ≡ pos 1
sgn_above (negsuc n) h = absurd (omega (arith, ints, h))
sgn_above (pos zero) h = absurd (omega (arith, ints, h))
sgn_above (pos (suc n)) h = refl

sgn_least : (n : ℤ) → pos 0 ≤ℤ sgn n → pos 0 ≤ℤ n
sgn_least (negsuc n) h = absurd (omega (arith, ints, h))
sgn_least (pos n) h = omega (arith, ints)

module _ (g : Graph) (s t : List ℕ) (down : IsDownset g s) (down' : IsDownset g t) (distinct : AreDistinct s) (distinct' : AreDistinct t)
    (into : (z : ℕ) → has s z ≡ true → has t z ≡ true) where
  -- the sum over the future, where those that join count nothing
  sum_before : (x y z : ℕ) → total (vote_before g s x y) (future g t z) ≡ total (λ w. vote g s w x y) (future g s z)
  sum_before x y z =
      total_cond (has s) (λ w. vote g s w x y) (future g t z)
      ∙ total_members (λ w. vote g s w x y) (future g s z) (filter (has s) (future g t z))
      (distinct_filter (λ w. in_past g z w) s distinct) (distinct_filter (has s) (future g t z) (distinct_filter (λ w. in_past g z w) t distinct'))
      (λ w there. (let parts : (has s w ≡ true) × (in_past g z w ≡ true) = has-filter (λ w. in_past g z w) s w there in
      has-filter_from (has s) (future g t z) w (has-filter_from (λ w. in_past g z w) t w (into w parts.0) parts.1) parts.0))
      (λ w there. (let parts : (has (future g t z) w ≡ true) × (has s w ≡ true) = has-filter (has s) (future g t z) w there in
      has-filter_from (λ w. in_past g z w) s w parts.1 (has-filter (λ w. in_past g z w) t w parts.0).1))

  -- the future of a block that joins has none of the smaller set
  none_before : (x y z : ℕ) → has s z ≡ false → total (λ w. vote g s w x y) (future g s z) ≡ pos 0
  none_before x y z new =
      total_members (λ w. vote g s w x y) [] (future g s z) tt (distinct_filter (λ w. in_past g z w) s distinct)
      (λ w none. absurd (false≢true none))
      (λ w there. (let parts : (has s w ≡ true) × (in_past g z w ≡ true) = has-filter (λ w. in_past g z w) s w there in
      absurd (false≢true (sym new ∙ down.closed w z parts.0 parts.1))))

  -- no frozen block that joins, and that is this one or has it in its past, votes for x
  abbrev pub AreAllUp : ℕ → ℕ → ℕ → Type 0
  AreAllUp x y z = (w : ℕ) → has t w ≡ true → has s w ≡ false → is_loose g w x y ≡ false → in_bar g z w ≡ true → pos 0 ≤ℤ vote g t w x y

  above_up : (x y z w : ℕ) → has (future g t z) w ≡ true → AreAllUp x y z → AreAllUp x y w
  above_up x y z w there up v member new frozen bar =
      up v member new frozen (or_right (eqb v z) (in_past g z v) (elim (cases_Bool (eqb v w)) [
        | inl same ↦ ap (in_past g z) (eqb-true v w same) ∙ below
        | inr other ↦ past_trans g z w v (down'.all_complete v member) below (second (eqb v w) (in_past g w v) other bar)
      ]))
    where
      below : in_past g z w ≡ true
      below = (has-filter (λ w. in_past g z w) t w there).1

      second : (a b : Bool) → a ≡ false → (a || b) ≡ true → b ≡ true
      second true b e h = absurd (false≢true (sym e))
      second false b e h = h

  -- then the vote doesn't fall
  pub votes_rise : (x y z : ℕ) → has t z ≡ true → AreAllUp x y z → vote_before g s x y z ≤ℤ vote g t z x y
  votes_rise x y z member =
      future_induction g t (λ z. AreAllUp x y z → vote_before g s x y z ≤ℤ vote g t z x y) down' step z member
    where
      frozen_step : (z : ℕ) (m : Bool) → has t z ≡ true → AreAllUp x y z → is_loose g z x y ≡ false → has s z ≡ m → cond m (vote g s z x y) (pos 0) ≤ℤ vote g t z x y
      frozen_step z true member up frozen e = same_le (vote g s z x y) (vote g t z x y) (frozen_same g s t z x y down down' e member frozen)
      frozen_step z false member up frozen e = up z member e frozen (or_left (eqb z z) (in_past g z z) (eq-eqb z z refl))

      loose_step : (z : ℕ) (m : Bool) → has t z ≡ true → is_loose g z x y ≡ true → total (λ w. vote g s w x y) (future g s z) ≤ℤ total (λ w. vote g t w x y) (future g t z)
          → has s z ≡ m → cond m (vote g s z x y) (pos 0) ≤ℤ vote g t z x y
      loose_step z true member loose sums e =
          rw (loose_vote g s z x y down e loose, loose_vote g t z x y down' member loose) (sgn_grows _ _ sums)
      loose_step z false member loose sums e =
          rw (loose_vote g t z x y down' member loose) (sgn_grows (pos 0) _ (let none : total (λ w. vote g s w x y) (future g s z) ≡ pos 0 = none_before x y z e in omega (arith, ints, sums, none)))

      step : (z : ℕ) → has t z ≡ true → ((w : ℕ) → has (future g t z) w ≡ true → AreAllUp x y w → vote_before g s x y w ≤ℤ vote g t w x y)
          → AreAllUp x y z → vote_before g s x y z ≤ℤ vote g t z x y
      step z member above up = elim (cases_Bool (is_loose g z x y)) [
        | inl loose ↦ (let grows : total (vote_before g s x y) (future g t z) ≤ℤ total (λ w. vote g t w x y) (future g t z) = total_grows (vote_before g s x y) (λ w. vote g t w x y) (future g t z) (λ w there. above w there (above_up x y z w there up)) in
            let same : total (vote_before g s x y) (future g t z) ≡ total (λ w. vote g s w x y) (future g s z) = sum_before x y z in
            loose_step z (has s z) member loose (omega (arith, ints, grows, same)) refl)
        | inr frozen ↦ frozen_step z (has s z) member up frozen refl
      ]

  -- A loose vote for x or for neither becomes one for y where a block that joins, and that has the voter in its past, votes for y.
  pub rises : (x y z b : ℕ) → has t z ≡ true → is_loose g z x y ≡ true → AreAllUp x y z → has t b ≡ true → has s b ≡ false → in_past g z b ≡ true
      → vote g t b x y ≡ pos 1 → pos 0 ≤ℤ vote_before g s x y z → vote g t z x y ≡ pos 1
  rises x y z b member loose up there new below one least =
      loose_vote g t z x y down' member loose
      ∙ sgn_above (total (λ w. vote g t w x y) (future g t z)) (omega (arith, ints, rest, old_split, new_split, old_none, one, same, sums (has s z) refl least))
    where
      above : has (future g t z) b ≡ true
      above = has-filter_from (λ w. in_past g z w) t b there below

      d : AreDistinct (future g t z)
      d = distinct_filter (λ w. in_past g z w) t distinct'

      others : List ℕ
      others = filter (λ w. not (eqb w b)) (future g t z)

      rest : total (vote_before g s x y) others ≤ℤ total (λ w. vote g t w x y) others
      rest =
          total_grows (vote_before g s x y) (λ w. vote g t w x y) others
          (λ w h. (let into : has (future g t z) w ≡ true = (has-filter (λ w. not (eqb w b)) (future g t z) w h).0 in
          votes_rise x y w (has-filter (λ w. in_past g z w) t w into).0 (above_up x y z w into up)))

      old_split : total (vote_before g s x y) (future g t z) ≡ vote_before g s x y b +ℤ total (vote_before g s x y) others
      old_split = total_without (vote_before g s x y) (future g t z) b d above

      new_split : total (λ w. vote g t w x y) (future g t z) ≡ vote g t b x y +ℤ total (λ w. vote g t w x y) others
      new_split = total_without (λ w. vote g t w x y) (future g t z) b d above

      old_none : vote_before g s x y b ≡ pos 0
      old_none = ap (λ (m : Bool). cond m (vote g s b x y) (pos 0)) new

      same : total (vote_before g s x y) (future g t z) ≡ total (λ w. vote g s w x y) (future g s z)
      same = sum_before x y z

      sums : (m : Bool) → has s z ≡ m → pos 0 ≤ℤ cond m (vote g s z x y) (pos 0) → pos 0 ≤ℤ total (λ w. vote g s w x y) (future g s z)
      sums true e least =
          sgn_least (total (λ w. vote g s w x y) (future g s z)) (let told : vote g s z x y ≡ sgn (total (λ w. vote g s w x y) (future g s z)) = loose_vote g s z x y down e loose in omega (arith, ints, told, least))
      sums false e least = (let none : total (λ w. vote g s w x y) (future g s z) ≡ pos 0 = none_before x y z e in omega (arith, ints, none))

  -- no frozen block that joins, and that is this one or has it in its past, votes for y
  abbrev pub AreAllDown : ℕ → ℕ → ℕ → Type 0
  AreAllDown x y z = (w : ℕ) → has t w ≡ true → has s w ≡ false → is_loose g w x y ≡ false → in_bar g z w ≡ true → vote g t w x y ≤ℤ pos 0

  -- ---- the same, with the two blocks changed about

  loose_turned : (x y z : ℕ) → is_loose g z y x ≡ is_loose g z x y
  loose_turned x y z = swap (in_bar g y z) (in_bar g x z)
    where
      swap : (a b : Bool) → not (a || b) ≡ not (b || a)
      swap true true = refl
      swap true false = refl
      swap false true = refl
      swap false false = refl

  all_turned : (x y z : ℕ) → x ≢ y → AreAllDown x y z → AreAllUp y x z
  all_turned x y z other low w there new frozen bar =
      (let down : vote g t w x y ≤ℤ pos 0 = low w there new (sym (loose_turned x y w) ∙ frozen) bar in
      let turned : vote g t w x y ≡ neg_ℤ (vote g t w y x) = vote_neg g t w x y down' there other in
      omega (arith, ints, down, turned))

  before_turned : (x y z : ℕ) → x ≢ y → vote_before g s x y z ≡ neg_ℤ (vote_before g s y x z)
  before_turned x y z other = turn (has s z) refl
    where
      turn : (m : Bool) → has s z ≡ m → cond m (vote g s z x y) (pos 0) ≡ neg_ℤ (cond m (vote g s z y x) (pos 0))
      turn true e = vote_neg g s z x y down e other
      turn false e = refl

  -- where none of them votes for y, the vote doesn't rise
  pub votes_fall : (x y z : ℕ) → x ≢ y → has t z ≡ true → AreAllDown x y z → vote g t z x y ≤ℤ vote_before g s x y z
  votes_fall x y z other member low =
      (let turned : vote g t z x y ≡ neg_ℤ (vote g t z y x) = vote_neg g t z x y down' member other in
      let before : vote_before g s x y z ≡ neg_ℤ (vote_before g s y x z) = before_turned x y z other in
      let rise : vote_before g s y x z ≤ℤ vote g t z y x = votes_rise y x z member (all_turned x y z other low) in
      omega (arith, ints, turned, before, rise))

  -- A loose vote for y or for neither becomes one for x where a block that joins, and that has the voter in its past, votes for x.
  pub falls : (x y z b : ℕ) → x ≢ y → has t z ≡ true → is_loose g z x y ≡ true → AreAllDown x y z → has t b ≡ true → has s b ≡ false → in_past g z b ≡ true
      → vote g t b x y ≡ negsuc 0 → vote_before g s x y z ≤ℤ pos 0 → vote g t z x y ≡ negsuc 0
  falls x y z b other member loose low there new below one most =
      (let own : vote g t b x y ≡ neg_ℤ (vote g t b y x) = vote_neg g t b x y down' there other in
      let before : vote_before g s x y z ≡ neg_ℤ (vote_before g s y x z) = before_turned x y z other in
      let up : vote g t z y x ≡ pos 1 =
      rises y x z b member (loose_turned x y z ∙ loose) (all_turned x y z other low) there new below (omega (arith, ints, own, one)) (omega (arith, ints, before, most)) in
      vote_neg g t z x y down' member other ∙ ap neg_ℤ up)
