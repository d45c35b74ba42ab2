-- A block that joins a set and votes for one side: of the voters whose votes may change, those that didn't vote for the other side now vote as it does.
use Rattle.std.proofs.Common.{◌≡◌, ◌≢◌, ℕ, ◌<◌, Bool, true, false, cond, Some, ◌||◌, ◌&&◌, List, refl, sym, ap, ◌∙◌, eqb, inl, inr, arith}
use Rattle.std.specs.Prelude.{not, ℤ, pos, negsuc, ◌≤ℤ◌}
use Rattle.std.proofs.lemmas.Bool.{false≢true, eqb-true, eq-eqb, and_parts, cases_Bool}
use Rattle.std.proofs.lemmas.Int.{ints}
use Rattle.sp_bits.specs.Places.{difference, meet, union, IsRow}
use Rattle.sp_bits.proofs.Fronts.{IsRow-places}
use Rattle.sp_bits.proofs.RowSets.{row_small, has_difference, has_meet, has_union}
use Rattle.sp_model.specs.Graph.{Graph, has, in_past}
use Rattle.sp_model.specs.Joining.{Joins}
use Rattle.sp_model.specs.Loose.{is_loose, is_plus, is_minus}
use Rattle.sp_model.specs.Votes.{vote}
use Rattle.sp_model.proofs.Loose.{vote_sign}
use Rattle.sp_model.proofs.Pasts.{not_in_own_past}
use Rattle.sp_view.specs.Settled.{AreKept, AreOpen, AreSides, AreTold, IsAsked}
use Rattle.sp_view.proofs.Following.{minus_only, plus_only}
use Rattle.sp_view.proofs.Opened.{not_down, not_up, not_voted}
use Rattle.sp_view.proofs.Several.{vote_before, rises, falls}

-- ---- one block that joins

module _ (g : Graph) (b : ℕ) (s t : List ℕ) (j : Joins g b s t) where
  -- a voter in its past was there before
  pub there_before : (z : ℕ) → has t z ≡ true → in_past g z b ≡ true → has s z ≡ true
  there_before z member below =
      j.from z member (λ e. not_in_own_past g b (j.more_down.all_complete b j.there) (ap (λ (k : ℕ). in_past g k b) (sym e) ∙ below))

  before_same : (x y z : ℕ) → has t z ≡ true → in_past g z b ≡ true → vote_before g s x y z ≡ vote g s z x y
  before_same x y z member below = ap (λ (m : Bool). cond m (vote g s z x y) (pos 0)) (there_before z member below)

  -- it is the only block that joins
  alone : (w : ℕ) → has t w ≡ true → has s w ≡ false → w ≡ b
  alone w there new = elim (cases_Bool (eqb w b)) [
    | inl same ↦ eqb-true w b same
    | inr apart ↦ absurd (false≢true (sym new ∙ j.from w there (λ e. false≢true (sym apart ∙ eq-eqb w b e))))
  ]

  -- where it votes for y, a loose voter in its past that didn't vote for x votes for y
  one_rises : (x y z : ℕ) → has t z ≡ true → is_loose g z x y ≡ true → in_past g z b ≡ true → vote g t b x y ≡ pos 1 → pos 0 ≤ℤ vote g s z x y
      → vote g t z x y ≡ pos 1
  one_rises x y z member loose below up least =
      rises g s t j.down j.more_down j.distinct j.more_distinct j.into x y z b member loose
      (λ w there new frozen bar. let e : vote g t w x y ≡ pos 1 = ap (λ (k : ℕ). vote g t k x y) (alone w there new) ∙ up in omega (arith, ints, e))
      j.there j.new below up (omega (arith, ints, least, before_same x y z member below))

  -- where it votes for x, one that didn't vote for y votes for x
  one_falls : (x y z : ℕ) → x ≢ y → has t z ≡ true → is_loose g z x y ≡ true → in_past g z b ≡ true → vote g t b x y ≡ negsuc 0 → vote g s z x y ≤ℤ pos 0
      → vote g t z x y ≡ negsuc 0
  one_falls x y z other member loose below down most =
      falls g s t j.down j.more_down j.distinct j.more_distinct j.into x y z b other member loose
      (λ w there new frozen bar. let e : vote g t w x y ≡ negsuc 0 = ap (λ (k : ℕ). vote g t k x y) (alone w there new) ∙ down in omega (arith, ints, e))
      j.there j.new below down (omega (arith, ints, most, before_same x y z member below))

-- ---- rows of voters

-- The voters of `for` were `agree`, and those of `no` were `opposed`, beside those of `todo`. Of these the ones that weren't opposed are known to vote `for`.
module _ (g : Graph) (t : List ℕ) (x y : ℕ) (for no : ℤ → Bool) (agree opposed todo left : List ℕ) (asked : IsAsked g t) (agree_row : IsRow agree) (opposed_row : IsRow opposed)
    (opened : AreOpen g t x y (has todo)) (left_is : left ≡ meet todo opposed)
    (one_side : (v : ℤ) → for v ≡ true → no v ≡ false)
    (turned : (z : ℕ) → has todo z ≡ true → has opposed z ≡ false → for (vote g t z x y) ≡ true) where
  todo_small : (z : ℕ) → has todo z ≡ true → z < 512
  todo_small z h = row_small t z asked.row (opened.member z h)

  left_at : (z : ℕ) → has left z ≡ (has todo z && has opposed z)
  left_at z = ap (λ (l : List ℕ). has l z) left_is ∙ has_meet todo opposed z (row_small opposed z opposed_row)

  pub left_open : AreOpen g t x y (has left)
  left_open = record {
    member = λ z h. opened.member z (and_parts (has todo z) (has opposed z) (sym (left_at z) ∙ h)).0;
    loose = λ z h. opened.loose z (and_parts (has todo z) (has opposed z) (sym (left_at z) ∙ h)).0;
  }

  pub agree_kept : ((z : ℕ) → has (difference agree todo) z ≡ (has t z && (is_loose g z x y && (not (has todo z) && for (vote g t z x y)))))
      → (z : ℕ) → has (difference (union agree todo) left) z ≡ (has t z && (is_loose g z x y && (not (has left z) && for (vote g t z x y))))
  agree_kept kept z =
      has_difference (union agree todo) left z (λ h. row_small (union agree todo) z (IsRow-places (λ p. has agree p || has todo p)) h)
      ∙ ap (λ (c : Bool). c && not (has left z)) (has_union agree todo z (row_small agree z agree_row) (todo_small z))
      ∙ at (has todo z) (has opposed z) refl refl
    where
      plain : (a : Bool) → ((a || false) && true) ≡ (a && true)
      plain true = refl
      plain false = refl

      full : (a : Bool) → (a || true) ≡ true
      full true = refl
      full false = refl

      at : (o p : Bool) → has todo z ≡ o → has opposed z ≡ p
          → ((has agree z || has todo z) && not (has left z)) ≡ (has t z && (is_loose g z x y && (not (has left z) && for (vote g t z x y))))
      at false p eo ep =
          rw (left_at z, eo) (plain (has agree z) ∙ ap (λ (c : Bool). has agree z && not c) (sym eo) ∙ sym (has_difference agree todo z (row_small agree z agree_row)) ∙ kept z
          ∙ ap (λ (c : Bool). has t z && (is_loose g z x y && (not c && for (vote g t z x y)))) eo)
      at true true eo ep = rw (left_at z, eo, ep, opened.member z eo, opened.loose z eo, full (has agree z)) refl
      at true false eo ep = rw (left_at z, eo, ep, opened.member z eo, opened.loose z eo, full (has agree z), turned z eo ep) refl

  pub opposed_kept : ((z : ℕ) → has (difference opposed todo) z ≡ (has t z && (is_loose g z x y && (not (has todo z) && no (vote g t z x y)))))
      → (z : ℕ) → has (difference opposed left) z ≡ (has t z && (is_loose g z x y && (not (has left z) && no (vote g t z x y))))
  opposed_kept kept z =
      has_difference opposed left z (row_small opposed z opposed_row) ∙ at (has todo z) (has opposed z) refl refl
    where
      at : (o p : Bool) → has todo z ≡ o → has opposed z ≡ p
          → (has opposed z && not (has left z)) ≡ (has t z && (is_loose g z x y && (not (has left z) && no (vote g t z x y))))
      at false p eo ep =
          rw (left_at z, eo) (ap (λ (c : Bool). has opposed z && not c) (sym eo) ∙ sym (has_difference opposed todo z (row_small opposed z opposed_row)) ∙ kept z
          ∙ ap (λ (c : Bool). has t z && (is_loose g z x y && (not c && no (vote g t z x y)))) eo)
      at true true eo ep = rw (left_at z, eo, ep, opened.member z eo, opened.loose z eo) refl
      at true false eo ep = rw (left_at z, eo, ep, opened.member z eo, opened.loose z eo, one_side (vote g t z x y) (turned z eo ep)) refl

-- ---- both sides

module _ (g : Graph) (t : List ℕ) (x y : ℕ) (ups downs todo : List ℕ) (asked : IsAsked g t) (ups_row : IsRow ups) (downs_row : IsRow downs) (opened : AreOpen g t x y (has todo))
    (kept : AreKept g t x y (has todo) (difference ups todo) (difference downs todo)) where
  pub risen_up : AreTold g t x y (Some true) todo ups downs → (left : List ℕ) → left ≡ meet todo downs
      → AreOpen g t x y (has left) × AreKept g t x y (has left) (difference (union ups todo) left) (difference downs left)
  risen_up told left is = (
    left_open g t x y is_plus is_minus ups downs todo left asked ups_row downs_row opened is plus_only told,
    record {
      plus_is = agree_kept g t x y is_plus is_minus ups downs todo left asked ups_row downs_row opened is plus_only told kept.plus_is;
      minus_is = opposed_kept g t x y is_plus is_minus ups downs todo left asked ups_row downs_row opened is plus_only told kept.minus_is;
    },
  )

  pub risen_down : AreTold g t x y (Some false) todo ups downs → (left : List ℕ) → left ≡ meet todo ups
      → AreOpen g t x y (has left) × AreKept g t x y (has left) (difference ups left) (difference (union downs todo) left)
  risen_down told left is = (
    left_open g t x y is_minus is_plus downs ups todo left asked downs_row ups_row opened is minus_only told,
    record {
      plus_is = opposed_kept g t x y is_minus is_plus downs ups todo left asked downs_row ups_row opened is minus_only told kept.plus_is;
      minus_is = agree_kept g t x y is_minus is_plus downs ups todo left asked downs_row ups_row opened is minus_only told kept.minus_is;
    },
  )

-- ---- the voters in the past of the block that joins

module _ (g : Graph) (b : ℕ) (s t : List ℕ) (x y : ℕ) (j : Joins g b s t) (other : x ≢ y) (ups downs todo : List ℕ) (below : (z : ℕ) → has todo z ≡ true → in_past g z b ≡ true)
    (sides : AreSides g s x y ups downs) (opened : AreOpen g t x y (has todo)) where
  before : (z : ℕ) → has todo z ≡ true → has s z ≡ true
  before z h = there_before g b s t j z (opened.member z h) (below z h)

  -- by the block's vote it is told how those of them vote that didn't vote against it
  pub one_told : (up : Bool) → vote g t b x y ≡ cond up (pos 1) (negsuc 0) → AreTold g t x y (Some up) todo ups downs
  one_told true up = λ z h out.
      ap is_plus (one_rises g b s t j x y z (opened.member z h) (opened.loose z h) (below z h) up
      (not_down (vote g s z x y) (vote_sign g s z x y j.down (before z h)) (not_voted g s x y is_minus downs sides.minus_is z (opened.loose z h) (before z h) out)))
  one_told false down = λ z h out.
      ap is_minus (one_falls g b s t j x y z other (opened.member z h) (opened.loose z h) (below z h) down
      (not_up (vote g s z x y) (vote_sign g s z x y j.down (before z h)) (not_voted g s x y is_plus ups sides.plus_is z (opened.loose z h) (before z h) out)))
