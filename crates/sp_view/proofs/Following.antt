-- Voters that vote as one in whose past they are.
use Rattle.std.proofs.Common.{◌≡◌, ℕ, zero, suc, ◌<◌, ◌≤◌, ◌+◌, Bool, true, false, ◌&&◌, ◌||◌, cond, List, [], ◌∷◌, length, refl, sym, ap, ◌∙◌, arith}
use Rattle.std.specs.Prelude.{ℤ, pos, negsuc, not, filter, ◌-ℤ◌}
use Rattle.std.specs.List.{range_with_len}
use Rattle.std.proofs.lemmas.Int.{ints}
use Rattle.std.proofs.lemmas.Bool.{false≢true, and_parts}
use Rattle.sp_bits.specs.Places.{places_where, union, meet, difference, IsRow}
use Rattle.sp_bits.specs.Members.{has-places_where}
use Rattle.sp_bits.proofs.Counts.{has-small}
use Rattle.sp_bits.proofs.RowSets.{filter-filter, has_difference, has_union, row_small}
use Rattle.sp_model.specs.Graph.{Graph, has, in_past}
use Rattle.sp_model.specs.Votes.{total, sgn, vote}
use Rattle.sp_model.specs.Loose.{is_plus, is_minus}
use Rattle.sp_model.proofs.Loose.{loose_vote, vote_sign}
use Rattle.sp_model.proofs.Pasts.{past_trans}
use Rattle.sp_view.specs.Settled.{AreOpen, AreVotesBut, IsAsked}
use Rattle.sp_view.proofs.Balances.{sum_by_tests}
use Rattle.sp_view.proofs.Settling.{sign_above, sign_below, sign_zero}

-- where each place that passes one test passes another, no more pass the one
pub count_within : (p q : ℕ → Bool) (xs : List ℕ) → ((k : ℕ) → p k ≡ true → q k ≡ true) → length (filter p xs) ≤ length (filter q xs)
count_within p q [] within = omega arith
count_within p q (x ∷ xs) within = at (p x) (q x) (within x) (count_within p q xs within)
  where
    at : (a b : Bool) → (a ≡ true → b ≡ true) → length (filter p xs) ≤ length (filter q xs)
        → length (cond a (x ∷ filter p xs) (filter p xs)) ≤ length (cond b (x ∷ filter q xs) (filter q xs))
    at true true into rest = omega (arith, rest)
    at true false into rest = absurd (false≢true (into refl))
    at false true into rest = omega (arith, rest)
    at false false into rest = rest

-- those that pass one of two tests
pub count_either : (p q : ℕ → Bool) (xs : List ℕ) → length (filter (λ k. p k || q k) xs) ≤ length (filter p xs) + length (filter q xs)
count_either p q [] = omega arith
count_either p q (x ∷ xs) = at (p x) (q x) (count_either p q xs)
  where
    at : (a b : Bool) → length (filter (λ k. p k || q k) xs) ≤ length (filter p xs) + length (filter q xs)
        → length (cond (a || b) (x ∷ filter (λ k. p k || q k) xs) (filter (λ k. p k || q k) xs)) ≤ length (cond a (x ∷ filter p xs) (filter p xs)) + length (cond b (x ∷ filter q xs) (filter q xs))
    at true true rest = omega (arith, rest)
    at true false rest = omega (arith, rest)
    at false true rest = omega (arith, rest)
    at false false rest = rest

-- what two rows have in common is in both
pub meet_parts : (one other : List ℕ) (k : ℕ) → has (meet one other) k ≡ true → (has one k ≡ true) × (has other k ≡ true)
meet_parts one other k h =
    and_parts (has one k) (has other k) (sym (has-places_where (λ p. has one p && has other p) k (has-small (λ p. has one p && has other p) k h)) ∙ h)

pub difference_from : (one other : List ℕ) (k : ℕ) → has (difference one other) k ≡ true → has one k ≡ true
difference_from one other k h =
    (and_parts (has one k) (not (has other k)) (sym (has-places_where (λ p. has one p && not (has other p)) k (has-small (λ p. has one p && not (has other p)) k h)) ∙ h)).0

-- a vote is for one side at most
pub plus_only : (v : ℤ) → is_plus v ≡ true → is_minus v ≡ false
plus_only (negsuc n) h = absurd (false≢true h)
plus_only (pos zero) h = refl
plus_only (pos (suc n)) h = refl

pub minus_only : (v : ℤ) → is_minus v ≡ true → is_plus v ≡ false
minus_only (negsuc n) h = refl
minus_only (pos zero) h = refl
minus_only (pos (suc n)) h = absurd (false≢true h)

-- how many voters of the future of one pass a test by their votes
unfoldable pub votes_above : Graph → List ℕ → ℕ → ℕ → (ℤ → Bool) → ℕ → ℕ
votes_above g set x y side w = length (filter (λ u. (has set u && in_past g w u) && side (vote g set u x y)) (range_with_len 0 512))

module _ (g : Graph) (set : List ℕ) (x y w : ℕ) (asked : IsAsked g set) (is_open : ℕ → Bool) (opened : AreOpen g set x y is_open) (still : is_open w ≡ true) where
  -- a loose voter votes as more of its future does
  votes_sign : sgn (pos (votes_above g set x y is_plus w) -ℤ pos (votes_above g set x y is_minus w)) ≡ vote g set w x y
  unfolding votes_above IsRow places_where
  votes_sign =
      ap sgn (sum_by_tests (λ u. (has set u && in_past g w u) && is_plus (vote g set u x y)) (λ u. (has set u && in_past g w u) && is_minus (vote g set u x y))
      (λ u. has set u && in_past g w u) (λ u. vote g set u x y) (range_with_len 0 512) (λ u. refl) (λ u. refl)
      (λ u both. vote_sign g set u x y asked.down (and_parts (has set u) (in_past g w u) both).0)
      ∙ ap (total (λ u. vote g set u x y)) (sym (filter-filter (has set) (λ u. in_past g w u) (range_with_len 0 512)) ∙ ap (filter (λ u. in_past g w u)) (sym asked.row)))
      ∙ sym (loose_vote g set w x y asked.down (opened.member w still) (opened.loose w still))

  pub plus_wins : votes_above g set x y is_minus w < votes_above g set x y is_plus w → is_plus (vote g set w x y) ≡ true
  plus_wins less = (sign_above (pos (votes_above g set x y is_plus w) -ℤ pos (votes_above g set x y is_minus w)) _ votes_sign (omega (arith, ints, less))).0

  pub minus_wins : votes_above g set x y is_plus w < votes_above g set x y is_minus w → is_minus (vote g set w x y) ≡ true
  minus_wins less = (sign_below (pos (votes_above g set x y is_plus w) -ℤ pos (votes_above g set x y is_minus w)) _ votes_sign (omega (arith, ints, less))).1

  -- where as many vote for one side as for the other, it votes for neither
  pub neither_wins : votes_above g set x y is_plus w ≡ votes_above g set x y is_minus w → (is_plus (vote g set w x y) ≡ false) × (is_minus (vote g set w x y) ≡ false)
  neither_wins same =
      sign_zero (pos (votes_above g set x y is_plus w) -ℤ pos (votes_above g set x y is_minus w)) _ votes_sign (omega (arith, ints, same)) (omega (arith, ints, same))

-- The open voters in the past of one vote as it does, where more of its future votes so than all others could vote
-- against: those that do, and the open ones that aren't in its past. `for` and `no` tell the two sides.
module _ (g : Graph) (set : List ℕ) (x y voter : ℕ) (for no : ℤ → Bool) (left with against past above : List ℕ)
    (asked : IsAsked g set) (opened : AreOpen g set x y (has left))
    (with_is : (u : ℕ) → has with u ≡ (has set u && (not (has left u) && for (vote g set u x y))))
    (against_is : (u : ℕ) → has against u ≡ (has set u && (not (has left u) && no (vote g set u x y))))
    (row : IsRow against)
    (past_is : (u : ℕ) → has past u ≡ in_past g u voter) (above_is : (u : ℕ) → has above u ≡ in_past g voter u)
    (upward : (w u : ℕ) → has left u ≡ true → in_past g w u ≡ true → w < u)
    (one_side : (v : ℤ) → for v ≡ true → no v ≡ false)
    (wins : (w : ℕ) → has left w ≡ true → votes_above g set x y no w < votes_above g set x y for w → for (vote g set w x y) ≡ true)
    (more : length against + length (difference left past) < length (meet above with)) where
  -- all that are for it above the one are above each in its past
  many : (w : ℕ) → in_past g w voter ≡ true → length (meet above with) ≤ votes_above g set x y for w
  unfolding votes_above places_where
  many w below =
      count_within (λ u. has above u && has with u) (λ u. (has set u && in_past g w u) && for (vote g set u x y)) (range_with_len 0 512) here
    where
      here : (u : ℕ) → (has above u && has with u) ≡ true → ((has set u && in_past g w u) && for (vote g set u x y)) ≡ true
      here u h =
          let parts : (has above u ≡ true) × (has with u ≡ true) = and_parts (has above u) (has with u) h in
          let voted : (has set u && (not (has left u) && for (vote g set u x y))) ≡ true = sym (with_is u) ∙ parts.1 in
          let member : (has set u ≡ true) × ((not (has left u) && for (vote g set u x y)) ≡ true) = and_parts (has set u) (not (has left u) && for (vote g set u x y)) voted in
          let side : (not (has left u) ≡ true) × (for (vote g set u x y) ≡ true) = and_parts (not (has left u)) (for (vote g set u x y)) member.1 in
          rw (member.0, past_trans g w voter u (asked.down.all_complete u member.0) below (sym (above_is u) ∙ parts.0), side.1) refl

  -- those against it are settled, or open and not in its past
  few : (w : ℕ) → ((u : ℕ) → has left u ≡ true → in_past g w u ≡ true → in_past g u voter ≡ true → for (vote g set u x y) ≡ true)
      → votes_above g set x y no w ≤ length against + length (difference left past)
  unfolding votes_above places_where IsRow
  few w follow =
      (let one : length (filter (λ u. (has set u && in_past g w u) && no (vote g set u x y)) (range_with_len 0 512)) ≤ length (filter (λ u. has against u || (has left u && not (has past u))) (range_with_len 0 512)) =
      count_within (λ u. (has set u && in_past g w u) && no (vote g set u x y)) (λ u. has against u || (has left u && not (has past u))) (range_with_len 0 512) here in
      let two : length (filter (λ u. has against u || (has left u && not (has past u))) (range_with_len 0 512)) ≤ length (filter (has against) (range_with_len 0 512)) + length (filter (λ u. has left u && not (has past u)) (range_with_len 0 512)) =
      count_either (has against) (λ u. has left u && not (has past u)) (range_with_len 0 512) in
      let same : length against ≡ length (filter (has against) (range_with_len 0 512)) = ap (λ (l : List ℕ). length l) row in
      omega (arith, one, two, same))
    where
      here : (u : ℕ) → ((has set u && in_past g w u) && no (vote g set u x y)) ≡ true → (has against u || (has left u && not (has past u))) ≡ true
      here u h = by_left (has left u) refl
        where
          parts : ((has set u && in_past g w u) ≡ true) × (no (vote g set u x y) ≡ true)
          parts = and_parts (has set u && in_past g w u) (no (vote g set u x y)) h

          inner : (has set u ≡ true) × (in_past g w u ≡ true)
          inner = and_parts (has set u) (in_past g w u) parts.0

          or_true : (b : Bool) → (b || true) ≡ true
          or_true true = refl
          or_true false = refl

          by_past : (c : Bool) → has past u ≡ c → has left u ≡ true → (has against u || (has left u && not (has past u))) ≡ true
          by_past false f e = rw (e, f) (or_true (has against u))
          by_past true f e = absurd (false≢true (sym (one_side (vote g set u x y) (follow u e inner.1 (sym (past_is u) ∙ f))) ∙ parts.1))

          by_left : (b : Bool) → has left u ≡ b → (has against u || (has left u && not (has past u))) ≡ true
          by_left false e = rw (against_is u, e, inner.0, parts.1) refl
          by_left true e = by_past (has past u) refl e

  from_above : (k w : ℕ) → 512 ≤ w + k → has left w ≡ true → in_past g w voter ≡ true → for (vote g set w x y) ≡ true
  from_above zero w high still below = (let low : w < 512 = row_small set w asked.row (opened.member w still) in absurd (omega (arith, low, high)))
  from_above (suc k) w high still below =
      wins w still (omega (
        arith,
        more,
        many w below,
        few w (λ u there up down. from_above k u (let higher : w < u = upward w u there up in omega (arith, high, higher)) there down),
      ))

  pub follows : (w : ℕ) → has left w ≡ true → in_past g w voter ≡ true → for (vote g set w x y) ≡ true
  follows w still below = from_above 512 w (omega arith) still below

-- The votes of all but the open voters, where some of these are found to vote for one side.
module _ (g : Graph) (set : List ℕ) (x y : ℕ) (left plus minus same : List ℕ) (asked : IsAsked g set) (opened : AreOpen g set x y (has left))
    (votes : AreVotesBut g set x y (has left) plus minus) (among : (z : ℕ) → has same z ≡ true → has left z ≡ true) where
  left_small : (z : ℕ) → has left z ≡ true → z < 512
  left_small z h = row_small set z asked.row (opened.member z h)

  side_small : (row : List ℕ) (test : ℕ → Bool) → ((z : ℕ) → has row z ≡ (has set z && test z)) → (z : ℕ) → has row z ≡ true → z < 512
  side_small row test is z h = row_small set z asked.row (and_parts (has set z) (test z) (sym (is z) ∙ h)).0

  joins : (s l m v : Bool) → (m ≡ true → l ≡ true) → (m ≡ true → v ≡ true) → (l ≡ true → s ≡ true) → ((s && (not l && v)) || m) ≡ (s && (not (l && not m) && v))
  joins s l true v into voted there = rw (there (into refl), into refl, voted refl) refl
  joins true true false v into voted there = refl
  joins true false false true into voted there = refl
  joins true false false false into voted there = refl
  joins false l false v into voted there = refl

  stays : (s l m v : Bool) → (m ≡ true → l ≡ true) → (m ≡ true → v ≡ false) → (s && (not l && v)) ≡ (s && (not (l && not m) && v))
  stays s l true v into other = rw (into refl, other refl) refl
  stays s true false v into other = refl
  stays s false false v into other = refl

  joined_side : (row : List ℕ) (side : ℤ → Bool) → ((z : ℕ) → has row z ≡ (has set z && (not (has left z) && side (vote g set z x y))))
      → ((z : ℕ) → has same z ≡ true → side (vote g set z x y) ≡ true)
      → (z : ℕ) → has (union row same) z ≡ (has set z && (not (has (difference left same) z) && side (vote g set z x y)))
  joined_side row side is voted z =
      has_union row same z (side_small row (λ z. not (has left z) && side (vote g set z x y)) is z) (λ h. left_small z (among z h))
      ∙ rw (is z, has_difference left same z (left_small z))
      (joins (has set z) (has left z) (has same z) (side (vote g set z x y)) (among z) (voted z) (opened.member z))

  other_side : (row : List ℕ) (side : ℤ → Bool) → ((z : ℕ) → has row z ≡ (has set z && (not (has left z) && side (vote g set z x y))))
      → ((z : ℕ) → has same z ≡ true → side (vote g set z x y) ≡ false)
      → (z : ℕ) → has row z ≡ (has set z && (not (has (difference left same) z) && side (vote g set z x y)))
  other_side row side is other z =
      is z ∙ rw (has_difference left same z (left_small z)) (stays (has set z) (has left z) (has same z) (side (vote g set z x y)) (among z) (other z))

  pub plus_followed : ((z : ℕ) → has same z ≡ true → is_plus (vote g set z x y) ≡ true) → AreVotesBut g set x y (has (difference left same)) (union plus same) minus
  plus_followed voted = record {
    plus_is = joined_side plus is_plus votes.plus_is voted;
    minus_is = other_side minus is_minus votes.minus_is (λ z h. plus_only (vote g set z x y) (voted z h));
  }

  pub minus_followed : ((z : ℕ) → has same z ≡ true → is_minus (vote g set z x y) ≡ true) → AreVotesBut g set x y (has (difference left same)) plus (union minus same)
  minus_followed voted = record {
    plus_is = other_side plus is_plus votes.plus_is (λ z h. minus_only (vote g set z x y) (voted z h));
    minus_is = joined_side minus is_minus votes.minus_is voted;
  }
