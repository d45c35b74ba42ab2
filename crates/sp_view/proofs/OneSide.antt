-- Several blocks that join a set, of which those that are frozen on a pair vote for one side alone: how the voters in their pasts vote that didn't vote against it.
use Rattle.std.proofs.Common.{◌≡◌, ◌≢◌, ℕ, ◌<◌, Bool, true, false, cond, ◌||◌, ◌&&◌, List, [], length, Option, None, Some, refl, sym, ap, ◌∙◌, arith}
use Rattle.std.specs.Prelude.{not, ℤ, pos, negsuc, ◌≤ℤ◌, slice_get, slice_index_or, IfSome}
use Rattle.std.proofs.lemmas.Int.{ints}
use Rattle.std.proofs.lemmas.Bool.{false≢true, and_parts}
use Rattle.sp_model.specs.Graph.{Graph, IsDownset, has, in_past, keys}
use Rattle.sp_model.specs.Loose.{is_loose, is_plus, is_minus}
use Rattle.sp_model.specs.Votes.{vote}
use Rattle.sp_model.proofs.Loose.{frozen_same, vote_sign}
use Rattle.sp_model.proofs.Pasts.{complete_key}
use Rattle.sp_dag.specs.Numbered.{IsPair, Numbered, graph_of, pairs_of}
use Rattle.sp_dag.proofs.Ranked.{downset_numbered, pair_kind}
use Rattle.sp_frozen.specs.Voters.{AreFrozen, FrozenRows}
use Rattle.sp_view.specs.Seen.{HasAbove}
use Rattle.sp_view.specs.Settled.{AreOpen, AreSides, AreTold, IsAsked}
use Rattle.sp_view.specs.Voting.{IsGrown, IsGrowth, is_voter, opposed}
use Rattle.sp_view.proofs.JoinedRows.{plus_one, minus_one}
use Rattle.sp_view.proofs.Members.{row_distinct}
use Rattle.sp_view.proofs.Opened.{not_down, not_up, not_voted}
use Rattle.sp_view.proofs.Several.{falls, rises}
use Rattle.sp_view.proofs.TwoRows.{frozen_among}

-- a block that joins, is in a row, and has the voter in its past
abbrev pub IsBelow : Graph → List ℕ → List ℕ → List ℕ → ℕ → Type 0
IsBelow g s t row z = (b : ℕ) × (has t b ≡ true) × (has s b ≡ false) × (has row b ≡ true) × (in_past g z b ≡ true)

module _ (g : Graph) (s t : List ℕ) (x y : ℕ) (other : x ≢ y) (whole : IsDownset g (keys g)) (before : IsAsked g s) (asked : IsAsked g t)
    (into : (z : ℕ) → has s z ≡ true → has t z ≡ true) (fp fm : List ℕ) (frozen : AreFrozen g t x y fp fm) where
  same : (w : ℕ) → has t w ≡ true → is_loose g w x y ≡ false → vote g (keys g) w x y ≡ vote g t w x y
  same w member bound = frozen_same g (keys g) t w x y whole asked.down (complete_key g w (asked.down.all_complete w member)) member bound

  -- whoever is in a frozen row votes so
  in_row : (votes : ℤ → Bool) (row : List ℕ) → ((z : ℕ) → has t z ≡ true → has row z ≡ (not (is_loose g z x y) && votes (vote g (keys g) z x y)))
      → (w : ℕ) → has t w ≡ true → has row w ≡ true → votes (vote g t w x y) ≡ true
  in_row votes row is w member h =
      let parts : (not (is_loose g w x y) ≡ true) × (votes (vote g (keys g) w x y) ≡ true) =
      and_parts (not (is_loose g w x y)) (votes (vote g (keys g) w x y)) (sym (is w member) ∙ h) in
      ap votes (sym (same w member (not_true (is_loose g w x y) parts.0))) ∙ parts.1
    where
      not_true : (b : Bool) → not b ≡ true → b ≡ false
      not_true true h = absurd (false≢true h)
      not_true false h = refl

  -- and whoever isn't doesn't
  off_row : (votes : ℤ → Bool) (row : List ℕ) → ((z : ℕ) → has t z ≡ true → has row z ≡ (not (is_loose g z x y) && votes (vote g (keys g) z x y)))
      → (w : ℕ) → has t w ≡ true → is_loose g w x y ≡ false → has row w ≡ false → votes (vote g t w x y) ≡ false
  off_row votes row is w member bound h =
      ap votes (sym (same w member bound)) ∙ sym (ap (λ (l : Bool). not l && votes (vote g (keys g) w x y)) bound) ∙ sym (is w member) ∙ h

  module _ (ups downs todo : List ℕ) (sides : AreSides g s x y ups downs) (opened : AreOpen g t x y (has todo)) where
    told_up : ((b : ℕ) → has t b ≡ true → has s b ≡ false → has fm b ≡ false) → ((z : ℕ) → has todo z ≡ true → IsBelow g s t fp z)
        → (z : ℕ) → has todo z ≡ true → has downs z ≡ false → vote g t z x y ≡ pos 1
    told_up none above z h out =
        let a : IsBelow g s t fp z = above z h in
        rises g s t before.down asked.down (row_distinct s before.row) (row_distinct t asked.row) into x y z a.0 (opened.member z h) (opened.loose z h)
        (λ w member new bound bar. not_down (vote g t w x y) (vote_sign g t w x y asked.down member) (off_row is_minus fm frozen.minus_is w member bound (none w member new)))
        a.1 a.2 a.4 (plus_one (vote g t a.0 x y) (in_row is_plus fp frozen.plus_is a.0 a.1 a.3)) (least (has s z) refl)
      where
        least : (m : Bool) → has s z ≡ m → pos 0 ≤ℤ cond m (vote g s z x y) (pos 0)
        least true e = not_down (vote g s z x y) (vote_sign g s z x y before.down e) (not_voted g s x y is_minus downs sides.minus_is z (opened.loose z h) e out)
        least false e = omega (arith, ints)

    told_down : ((b : ℕ) → has t b ≡ true → has s b ≡ false → has fp b ≡ false) → ((z : ℕ) → has todo z ≡ true → IsBelow g s t fm z)
        → (z : ℕ) → has todo z ≡ true → has ups z ≡ false → vote g t z x y ≡ negsuc 0
    told_down none above z h out =
        let a : IsBelow g s t fm z = above z h in
        falls g s t before.down asked.down (row_distinct s before.row) (row_distinct t asked.row) into x y z a.0 other (opened.member z h) (opened.loose z h)
        (λ w member new bound bar. not_up (vote g t w x y) (vote_sign g t w x y asked.down member) (off_row is_plus fp frozen.plus_is w member bound (none w member new)))
        a.1 a.2 a.4 (minus_one (vote g t a.0 x y) (in_row is_minus fm frozen.minus_is a.0 a.1 a.3)) (most (has s z) refl)
      where
        most : (m : Bool) → has s z ≡ m → cond m (vote g s z x y) (pos 0) ≤ℤ pos 0
        most true e = not_up (vote g s z x y) (vote_sign g s z x y before.down e) (not_voted g s x y is_plus ups sides.plus_is z (opened.loose z h) e out)
        most false e = omega (arith, ints)

-- ---- by the rows of a pair

-- The voters of `todo` each have a frozen block above them that joins. Where a side is told for which these blocks vote alone, it is told how those vote that didn't
-- vote against it.
pub told_by_growth : (table : Numbered) (frozen : FrozenRows) (before set blocks below : List ℕ) → IsGrown table frozen before set → IsGrowth (graph_of table) before set blocks below
    → (i x y : ℕ) → slice_get (pairs_of table) i ≡ Some (x, y) → i < length frozen.pluses → (up : Option Bool) → IfSome up (λ up. (b : ℕ) → has blocks b ≡ true → has (opposed frozen i up) b ≡ false)
    → (ups downs todo : List ℕ) → AreSides (graph_of table) before x y ups downs → AreOpen (graph_of table) set x y (has todo)
    → ((z : ℕ) → has todo z ≡ true → HasAbove (graph_of table) (λ b. has blocks b && is_voter frozen i b) z) → AreTold (graph_of table) set x y up todo ups downs
told_by_growth table frozen before set blocks below grown growth i x y at listed up none ups downs todo sides opened above = case up none
  where
    g : Graph
    g = graph_of table

    whole : IsDownset g (keys g)
    whole = downset_numbered table grown.voting.order

    other : x ≢ y
    other e = (let kind : IsPair table (x, y) = pair_kind table i (x, y) at in let le : x < y = kind.order in omega arith)

    plus : List ℕ
    plus = slice_index_or frozen.pluses i []

    minus : List ℕ
    minus = slice_index_or frozen.minuses i []

    rows : AreFrozen g set x y plus minus
    rows = frozen_among table frozen set i x y grown.voting.held at listed grown.voting.added

    joins : (b : ℕ) → has set b ≡ true → has before b ≡ false → has blocks b ≡ true
    joins b member new = growth.all b member new

    -- whoever isn't in one row is in the other
    first : (a b : Bool) → b ≡ false → (a || b) ≡ true → a ≡ true
    first true b e h = refl
    first false b e h = absurd (false≢true (sym e ∙ h))

    second : (a b : Bool) → a ≡ false → (a || b) ≡ true → b ≡ true
    second true b e h = absurd (false≢true (sym e))
    second false b e h = h

    found : (row : List ℕ) → ((b : ℕ) → has blocks b ≡ true → is_voter frozen i b ≡ true → has row b ≡ true) → (z : ℕ) → has todo z ≡ true → IsBelow g before set row z
    found row in_it z h =
        let a = above z h in
        let parts = and_parts (has blocks a.0) (is_voter frozen i a.0) a.1 in
        (a.0, growth.member a.0 parts.0, growth.new a.0 parts.0, in_it a.0 parts.0 parts.1, a.2)

    case : (up : Option Bool) → IfSome up (λ up. (b : ℕ) → has blocks b ≡ true → has (opposed frozen i up) b ≡ false) → AreTold g set x y up todo ups downs
    case None none = tt
    case (Some true) none = λ z h out.
        ap is_plus (told_up g before set x y other whole grown.asked grown.voting.asked grown.into plus minus rows ups downs todo sides opened (λ b member new. none b (joins b member new))
        (found plus (λ b new voter. first (has plus b) (has minus b) (none b new) voter)) z h out)
    case (Some false) none = λ z h out.
        ap is_minus (told_down g before set x y other whole grown.asked grown.voting.asked grown.into plus minus rows ups downs todo sides opened (λ b member new. none b (joins b member new))
        (found minus (λ b new voter. second (has plus b) (has minus b) (none b new) voter)) z h out)
