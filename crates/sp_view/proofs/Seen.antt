-- Loose voters by what they see: frozen voters of one side, of both, or none.
use Rattle.std.proofs.Common.{◌≡◌, ℕ, zero, suc, ◌<◌, ◌≤◌, ◌+◌, Bool, true, false, ◌&&◌, List, [], ◌∷◌, length, refl, sym, ap, ◌∙◌, arith}
use Rattle.std.specs.Prelude.{ℤ, not, filter}
use Rattle.std.specs.List.{range_with_len}
use Rattle.std.proofs.lemmas.Bool.{false≢true, and_parts, and_from, false_from_ne_true, not-true}
use Rattle.sp_bits.specs.Places.{places_where, meet, difference}
use Rattle.sp_bits.specs.Members.{has-places_where}
use Rattle.sp_bits.proofs.RowSets.{has_difference, has_places, row_small}
use Rattle.sp_model.specs.Graph.{Graph, IsDownset, has, in_past, keys}
use Rattle.sp_model.specs.Votes.{vote}
use Rattle.sp_model.specs.Loose.{is_loose, is_plus, is_minus}
use Rattle.sp_model.proofs.Loose.{frozen_same}
use Rattle.sp_model.proofs.Pasts.{complete_key, past_trans}
use Rattle.sp_frozen.specs.Voters.{AreFrozen}
use Rattle.sp_view.specs.Seen.{HasAbove}
use Rattle.sp_view.specs.Settled.{AreKept, AreOpen, IsAsked}
use Rattle.sp_view.proofs.Following.{meet_parts, minus_only, minus_wins, neither_wins, plus_only, plus_wins, votes_above}

-- where none passes a test, no more than none does
pub count_none : (p : ℕ → Bool) (xs : List ℕ) → ((k : ℕ) → p k ≡ false) → length (filter p xs) ≡ 0
count_none p [] none = refl
count_none p (x ∷ xs) none = rw (none x) (count_none p xs none)

-- a list with a member isn't empty
pub some_in : (l : List ℕ) (k : ℕ) → has l k ≡ true → 0 < length l
some_in [] k h = absurd (false≢true h)
some_in (x ∷ xs) k h = omega arith

-- what two rows have is in what they have in common
pub meet_there : (one other : List ℕ) (k : ℕ) → (has one k ≡ true → k < 512) → has one k ≡ true → has other k ≡ true → has (meet one other) k ≡ true
meet_there one other k small h h' =
    has_places (λ p. has one p && has other p) k (λ both. small (and_parts (has one k) (has other k) both).0) ∙ and_from (has one k) (has other k) h h'

-- The loose voters that see nobody against one side: `for` and `no` tell the two sides.
module _ (g : Graph) (set : List ℕ) (x y : ℕ) (whole : IsDownset g (keys g)) (asked : IsAsked g set)
    (upward : (w u : ℕ) → has set u ≡ true → in_past g w u ≡ true → w < u) (for no : ℤ → Bool) (with against : List ℕ)
    (with_is : (z : ℕ) → has set z ≡ true → has with z ≡ (not (is_loose g z x y) && for (vote g (keys g) z x y)))
    (against_is : (z : ℕ) → has set z ≡ true → has against z ≡ (not (is_loose g z x y) && no (vote g (keys g) z x y)))
    (one_side : (v : ℤ) → for v ≡ true → no v ≡ false)
    (wins : (w : ℕ) → has set w ≡ true → is_loose g w x y ≡ true → votes_above g set x y no w < votes_above g set x y for w → for (vote g set w x y) ≡ true)
    (ties : (w : ℕ) → has set w ≡ true → is_loose g w x y ≡ true → votes_above g set x y no w ≡ votes_above g set x y for w → no (vote g set w x y) ≡ false) where
  -- nobody above one votes against the side, where no frozen voter does and no loose one
  none_against : (z : ℕ) → (HasAbove g (λ b. has set b && has against b) z → ⊥)
      → ((u : ℕ) → has set u ≡ true → is_loose g u x y ≡ true → in_past g z u ≡ true → no (vote g set u x y) ≡ false)
      → votes_above g set x y no z ≡ 0
  unfolding votes_above
  none_against z out loosely = count_none (λ u. (has set u && in_past g z u) && no (vote g set u x y)) (range_with_len 0 512) (λ u. at u (has set u) (in_past g z u) (is_loose g u x y) refl refl refl)
    where
      at : (u : ℕ) (s r l : Bool) → has set u ≡ s → in_past g z u ≡ r → is_loose g u x y ≡ l → ((s && r) && no (vote g set u x y)) ≡ false
      at u false r l es er el = refl
      at u true false l es er el = refl
      at u true true true es er el = loosely u es el er
      at u true true false es er el =
          false_from_ne_true (no (vote g set u x y)) (λ h.
          let same : vote g (keys g) u x y ≡ vote g set u x y = frozen_same g (keys g) set u x y whole asked.down (complete_key g u (asked.down.all_complete u es)) es el in
          let there : has against u ≡ true = against_is u es ∙ ap (λ (l : Bool). not l && no (vote g (keys g) u x y)) el ∙ ap no same ∙ h in
          out (u, and_from (has set u) (has against u) es there, er))

  -- so it doesn't either
  silent : (z : ℕ) → has set z ≡ true → is_loose g z x y ≡ true → votes_above g set x y no z ≡ 0 → no (vote g set z x y) ≡ false
  silent z member loose none = at (votes_above g set x y for z) refl
    where
      at : (n : ℕ) → votes_above g set x y for z ≡ n → no (vote g set z x y) ≡ false
      at zero e = ties z member loose (none ∙ sym e)
      at (suc n) e = one_side (vote g set z x y) (wins z member loose (omega (arith, none, e)))

  from_above : (k z : ℕ) → 512 ≤ z + k → has set z ≡ true → is_loose g z x y ≡ true → (HasAbove g (λ b. has set b && has against b) z → ⊥) → no (vote g set z x y) ≡ false
  from_above zero z high member loose out = (let low : z < 512 = row_small set z asked.row member in absurd (omega (arith, low, high)))
  from_above (suc k) z high member loose out =
      silent z member loose (none_against z out (λ u there free up.
      from_above k u (let higher : z < u = upward z u there up in omega (arith, high, higher)) there free
      (λ above. out (above.0, above.1, past_trans g z u above.0 (asked.down.all_complete above.0 (and_parts (has set above.0) (has against above.0) above.1).0) up above.2))))

  pub sees_none : (z : ℕ) → has set z ≡ true → is_loose g z x y ≡ true → (HasAbove g (λ b. has set b && has against b) z → ⊥) → no (vote g set z x y) ≡ false
  sees_none z member loose out = from_above 512 z (omega arith) member loose out

  -- a frozen voter above one counts
  some_for : (z : ℕ) → HasAbove g (λ b. has set b && has with b) z → 0 < votes_above g set x y for z
  unfolding votes_above places_where
  some_for z above =
      some_in (filter (λ u. (has set u && in_past g z u) && for (vote g set u x y)) (range_with_len 0 512)) b
      (has-places_where (λ u. (has set u && in_past g z u) && for (vote g set u x y)) b (row_small set b asked.row parts.0)
      ∙ rw (parts.0, above.2) (ap for (sym same) ∙ voted.1))
    where
      b : ℕ
      b = above.0

      parts : (has set b ≡ true) × (has with b ≡ true)
      parts = and_parts (has set b) (has with b) above.1

      voted : (not (is_loose g b x y) ≡ true) × (for (vote g (keys g) b x y) ≡ true)
      voted = and_parts (not (is_loose g b x y)) (for (vote g (keys g) b x y)) (sym (with_is b parts.0) ∙ parts.1)

      same : vote g (keys g) b x y ≡ vote g set b x y
      same = frozen_same g (keys g) set b x y whole asked.down (complete_key g b (asked.down.all_complete b parts.0)) parts.0 (not-true (is_loose g b x y) voted.0)

  -- one that sees a side alone votes so
  pub sees_one : (z : ℕ) → has set z ≡ true → is_loose g z x y ≡ true → HasAbove g (λ b. has set b && has with b) z → (HasAbove g (λ b. has set b && has against b) z → ⊥)
      → for (vote g set z x y) ≡ true
  sees_one z member loose above out =
      (let some : 0 < votes_above g set x y for z = some_for z above in
      let none : votes_above g set x y no z ≡ 0 =
      none_against z out (λ u there free up. sees_none u there free
      (λ higher. out (higher.0, higher.1, past_trans g z u higher.0 (asked.down.all_complete higher.0 (and_parts (has set higher.0) (has against higher.0) higher.1).0) up higher.2))) in
      wins z member loose (omega (arith, some, none)))

-- the loose members, as open voters
loose_members : (g : Graph) (set : List ℕ) (x y : ℕ) → AreOpen g set x y (λ z. has set z && is_loose g z x y)
loose_members g set x y = record {
  member = λ z h. (and_parts (has set z) (is_loose g z x y) h).0;
  loose = λ z h. (and_parts (has set z) (is_loose g z x y) h).1;
}

-- One side of the voters: `mine` and `theirs` are the loose ones that see each side.
side_known : (g : Graph) (set : List ℕ) (x y : ℕ) (loose mine theirs todo : List ℕ) (votes : ℕ → Bool)
    → ((z : ℕ) → has loose z ≡ (has set z && is_loose g z x y)) → ((z : ℕ) → has loose z ≡ true → z < 512) → ((z : ℕ) → has mine z ≡ true → has loose z ≡ true)
    → ((z : ℕ) → has todo z ≡ (has mine z && has theirs z))
    → ((z : ℕ) → has set z ≡ true → is_loose g z x y ≡ true → has mine z ≡ true → has theirs z ≡ false → votes z ≡ true)
    → ((z : ℕ) → has set z ≡ true → is_loose g z x y ≡ true → has mine z ≡ false → votes z ≡ false)
    → (z : ℕ) → has (difference mine todo) z ≡ (has set z && (is_loose g z x y && (not (has todo z) && votes z)))
side_known g set x y loose mine theirs todo votes loose_is small among todo_is sees sees_not z =
    has_difference mine todo z (λ h. small z (among z h))
    ∙ rw (todo_is z) (at (has set z) (is_loose g z x y) (has mine z) (has theirs z) refl refl refl refl)
  where
    outside : (s l : Bool) → has set z ≡ s → is_loose g z x y ≡ l → (s && l) ≡ false → has mine z ≡ true → ⊥
    outside s l es el none h = false≢true (sym none ∙ rw (sym es, sym el) (sym (loose_is z) ∙ among z h))

    at : (s l m t : Bool) → has set z ≡ s → is_loose g z x y ≡ l → has mine z ≡ m → has theirs z ≡ t
        → (m && not (m && t)) ≡ (s && (l && (not (m && t) && votes z)))
    at true true true true es el em et = refl
    at true true true false es el em et = sym (sees z es el em et)
    at true true false t es el em et = sym (sees_not z es el em)
    at true false true t es el em et = absurd (outside true false es el refl em)
    at true false false t es el em et = refl
    at false l true t es el em et = absurd (outside false l es el refl em)
    at false l false t es el em et = refl

module _ (g : Graph) (set : List ℕ) (x y : ℕ) (whole : IsDownset g (keys g)) (asked : IsAsked g set)
    (upward : (w u : ℕ) → has set u ≡ true → in_past g w u ≡ true → w < u) (fp fm loose ups downs : List ℕ) (frozen : AreFrozen g set x y fp fm)
    (loose_is : (z : ℕ) → has loose z ≡ (has set z && is_loose g z x y))
    (ups_all : (z : ℕ) → has loose z ≡ true → HasAbove g (λ b. has set b && has fp b) z → has ups z ≡ true)
    (ups_only : (z : ℕ) → has ups z ≡ true → (has loose z ≡ true) × HasAbove g (λ b. has set b && has fp b) z)
    (downs_all : (z : ℕ) → has loose z ≡ true → HasAbove g (λ b. has set b && has fm b) z → has downs z ≡ true)
    (downs_only : (z : ℕ) → has downs z ≡ true → (has loose z ≡ true) × HasAbove g (λ b. has set b && has fm b) z) where
  small : (z : ℕ) → has loose z ≡ true → z < 512
  small z h = row_small set z asked.row (and_parts (has set z) (is_loose g z x y) (sym (loose_is z) ∙ h)).0

  among : (z : ℕ) → has set z ≡ true → is_loose g z x y ≡ true → has loose z ≡ true
  among z member free = loose_is z ∙ and_from (has set z) (is_loose g z x y) member free

  pub seen_open : AreOpen g set x y (has (meet ups downs))
  seen_open = record {
    member = λ z h. (and_parts (has set z) (is_loose g z x y) (sym (loose_is z) ∙ (ups_only z (meet_parts ups downs z h).0).0)).0;
    loose = λ z h. (and_parts (has set z) (is_loose g z x y) (sym (loose_is z) ∙ (ups_only z (meet_parts ups downs z h).0).0)).1;
  }

  todo_is : (z : ℕ) → has (meet ups downs) z ≡ (has ups z && has downs z)
  todo_is z = has_places (λ p. has ups p && has downs p) z (λ h. small z (ups_only z (and_parts (has ups z) (has downs z) h).0).0)

  todo_turned : (z : ℕ) → has (meet ups downs) z ≡ (has downs z && has ups z)
  todo_turned z = todo_is z ∙ turn (has ups z) (has downs z)
    where
      turn : (a b : Bool) → (a && b) ≡ (b && a)
      turn true true = refl
      turn true false = refl
      turn false true = refl
      turn false false = refl

  none_up : (z : ℕ) → has set z ≡ true → is_loose g z x y ≡ true → has ups z ≡ false → HasAbove g (λ b. has set b && has fp b) z → ⊥
  none_up z member free out above = false≢true (sym out ∙ ups_all z (among z member free) above)

  none_down : (z : ℕ) → has set z ≡ true → is_loose g z x y ≡ true → has downs z ≡ false → HasAbove g (λ b. has set b && has fm b) z → ⊥
  none_down z member free out above = false≢true (sym out ∙ downs_all z (among z member free) above)

  up_wins : (w : ℕ) → has set w ≡ true → is_loose g w x y ≡ true → votes_above g set x y is_minus w < votes_above g set x y is_plus w → is_plus (vote g set w x y) ≡ true
  up_wins w member free less =
      plus_wins g set x y w asked (λ z. has set z && is_loose g z x y) (loose_members g set x y) (and_from (has set w) (is_loose g w x y) member free) less

  down_wins : (w : ℕ) → has set w ≡ true → is_loose g w x y ≡ true → votes_above g set x y is_plus w < votes_above g set x y is_minus w → is_minus (vote g set w x y) ≡ true
  down_wins w member free less =
      minus_wins g set x y w asked (λ z. has set z && is_loose g z x y) (loose_members g set x y) (and_from (has set w) (is_loose g w x y) member free) less

  neither : (w : ℕ) → has set w ≡ true → is_loose g w x y ≡ true → votes_above g set x y is_plus w ≡ votes_above g set x y is_minus w
      → (is_plus (vote g set w x y) ≡ false) × (is_minus (vote g set w x y) ≡ false)
  neither w member free same =
      neither_wins g set x y w asked (λ z. has set z && is_loose g z x y) (loose_members g set x y) (and_from (has set w) (is_loose g w x y) member free) same

  pub seen_kept : AreKept g set x y (has (meet ups downs)) (difference ups (meet ups downs)) (difference downs (meet ups downs))
  seen_kept = record {
    plus_is =
        side_known g set x y loose ups downs (meet ups downs) (λ z. is_plus (vote g set z x y)) loose_is small (λ z h. (ups_only z h).0) todo_is
        (λ z member free there out.
        sees_one g set x y whole asked upward is_plus is_minus fp fm frozen.plus_is frozen.minus_is plus_only up_wins (λ w member free same. (neither w member free (sym same)).1)
        z member free (ups_only z there).1 (none_down z member free out))
        (λ z member free out.
        sees_none g set x y whole asked upward is_minus is_plus fm fp frozen.minus_is frozen.plus_is minus_only down_wins (λ w member free same. (neither w member free same).0)
        z member free (none_up z member free out));
    minus_is =
        side_known g set x y loose downs ups (meet ups downs) (λ z. is_minus (vote g set z x y)) loose_is small (λ z h. (downs_only z h).0) todo_turned
        (λ z member free there out.
        sees_one g set x y whole asked upward is_minus is_plus fm fp frozen.minus_is frozen.plus_is minus_only down_wins (λ w member free same. (neither w member free same).0)
        z member free (downs_only z there).1 (none_up z member free out))
        (λ z member free out.
        sees_none g set x y whole asked upward is_plus is_minus fp fm frozen.plus_is frozen.minus_is plus_only up_wins (λ w member free same. (neither w member free (sym same)).1)
        z member free (none_down z member free out));
  }
