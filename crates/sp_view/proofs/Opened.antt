-- Several blocks that join a set at once: which loose voters of an old pair are asked anew, and which are kept.
use Rattle.std.proofs.Common.{◌≡◌, ◌≢◌, ℕ, zero, suc, Bool, true, false, cond, ◌||◌, ◌&&◌, List, refl, sym, ap, ◌∙◌, eqb, arith}
use Rattle.std.specs.Prelude.{not, ℤ, pos, negsuc, filter, ◌≤ℤ◌}
use Rattle.std.proofs.lemmas.Int.{ints}
use Rattle.std.proofs.lemmas.Bool.{false≢true, eqb-true, and_parts, false_from_ne_true}
use Rattle.sp_bits.specs.Places.{difference}
use Rattle.sp_bits.specs.Members.{has-filter}
use Rattle.sp_bits.proofs.RowSets.{row_small, has_difference}
use Rattle.sp_model.specs.Graph.{Graph, has, keys, in_past, IsDownset}
use Rattle.sp_model.specs.Votes.{sgn, vote}
use Rattle.sp_model.specs.Loose.{in_bar, is_loose, is_plus, is_minus}
use Rattle.sp_model.proofs.Loose.{frozen_same, vote_sign}
use Rattle.sp_model.proofs.Pasts.{complete_key}
use Rattle.sp_frozen.specs.Voters.{AreFrozen}
use Rattle.sp_view.specs.Settled.{AreKept, AreSides, IsAsked}
use Rattle.sp_view.proofs.JoinedRows.{plus_one, minus_one}
use Rattle.sp_view.proofs.Members.{row_distinct}
use Rattle.sp_view.proofs.Several.{vote_before, votes_rise, votes_fall, AreAllUp, AreAllDown}

pub not_down : (v : ℤ) → sgn v ≡ v → is_minus v ≡ false → pos 0 ≤ℤ v
not_down (negsuc zero) e m = absurd (false≢true (sym m))
not_down (negsuc (suc n)) e m = (let s : negsuc 0 ≡ negsuc (suc n) = e in absurd (omega (arith, ints)))
not_down (pos n) e m = omega (arith, ints)

pub not_up : (v : ℤ) → sgn v ≡ v → is_plus v ≡ false → v ≤ℤ pos 0
not_up (negsuc n) e p = omega (arith, ints)
not_up (pos zero) e p = omega (arith, ints)
not_up (pos (suc zero)) e p = absurd (false≢true (sym p))
not_up (pos (suc (suc n))) e p = (let s : pos 1 ≡ pos (suc (suc n)) = e in absurd (omega (arith, ints)))

-- a loose member that isn't in the row of a side doesn't vote for it
pub not_voted : (g : Graph) (s : List ℕ) (x y : ℕ) (votes : ℤ → Bool) (side : List ℕ) → side ≡ filter (λ z. is_loose g z x y && votes (vote g s z x y)) s
    → (z : ℕ) → is_loose g z x y ≡ true → has s z ≡ true → has side z ≡ false → votes (vote g s z x y) ≡ false
not_voted g s x y votes side is z loose there out =
    sym (ap (λ (m : Bool). m && (is_loose g z x y && votes (vote g s z x y))) there ∙ ap (λ (l : Bool). l && votes (vote g s z x y)) loose)
    ∙ sym (has-filter (λ z. is_loose g z x y && votes (vote g s z x y)) s z) ∙ ap (λ (l : List ℕ). has l z) (sym is) ∙ out

sign_top : (v : ℤ) → sgn v ≡ v → v ≤ℤ pos 1
sign_top (negsuc n) e = omega (arith, ints)
sign_top (pos zero) e = omega (arith, ints)
sign_top (pos (suc n)) e = (let s : pos 1 ≡ pos (suc n) = e in omega (arith, ints))

sign_low : (v : ℤ) → sgn v ≡ v → negsuc 0 ≤ℤ v
sign_low (negsuc n) e = (let s : negsuc 0 ≡ negsuc n = e in omega (arith, ints))
sign_low (pos n) e = omega (arith, ints)

-- The voters of `opened` are asked anew: among them is each loose one in the past of a frozen block that joins, unless it votes as that block already.
module _ (g : Graph) (s t : List ℕ) (x y : ℕ) (fp fm ups downs opened : List ℕ) (whole : IsDownset g (keys g)) (other : x ≢ y)
    (before : IsAsked g s) (asked : IsAsked g t) (into : (z : ℕ) → has s z ≡ true → has t z ≡ true)
    (frozen : AreFrozen g t x y fp fm) (sides : AreSides g s x y ups downs)
    (up_opens : (b z : ℕ) → has t b ≡ true → has s b ≡ false → has fp b ≡ true → in_past g z b ≡ true → is_loose g z x y ≡ true → has ups z ≡ false → has opened z ≡ true)
    (down_opens : (b z : ℕ) → has t b ≡ true → has s b ≡ false → has fm b ≡ true → in_past g z b ≡ true → is_loose g z x y ≡ true → has downs z ≡ false → has opened z ≡ true) where
  -- a frozen member stands in the row of its vote
  voted : (votes : ℤ → Bool) (side : List ℕ) → ((z : ℕ) → has t z ≡ true → has side z ≡ (not (is_loose g z x y) && votes (vote g (keys g) z x y)))
      → (w : ℕ) → has t w ≡ true → is_loose g w x y ≡ false → votes (vote g t w x y) ≡ true → has side w ≡ true
  voted votes side is w member bound h =
      is w member ∙ ap (λ (l : Bool). not l && votes (vote g (keys g) w x y)) bound
      ∙ ap votes (frozen_same g (keys g) t w x y whole asked.down (complete_key g w (asked.down.all_complete w member)) member bound) ∙ h

  -- a frozen block isn't a loose one
  below_only : (z w : ℕ) → is_loose g z x y ≡ true → is_loose g w x y ≡ false → in_bar g z w ≡ true → in_past g z w ≡ true
  below_only z w loose bound bar = at (eqb w z) refl bar
    where
      at : (e : Bool) → eqb w z ≡ e → (e || in_past g z w) ≡ true → in_past g z w ≡ true
      at true e h = absurd (false≢true (sym bound ∙ ap (λ (k : ℕ). is_loose g k x y) (eqb-true w z e) ∙ loose))
      at false e h = h

  all_up : (z : ℕ) → is_loose g z x y ≡ true → has opened z ≡ false → has downs z ≡ false → AreAllUp g s t before.down asked.down (row_distinct s before.row) (row_distinct t asked.row) into x y z
  all_up z loose closed out w member new bound bar =
      not_down (vote g t w x y) (vote_sign g t w x y asked.down member)
      (false_from_ne_true (is_minus (vote g t w x y)) (λ h.
      false≢true (sym closed ∙ down_opens w z member new (voted is_minus fm frozen.minus_is w member bound h) (below_only z w loose bound bar) loose out)))

  all_down : (z : ℕ) → is_loose g z x y ≡ true → has opened z ≡ false → has ups z ≡ false → AreAllDown g s t before.down asked.down (row_distinct s before.row) (row_distinct t asked.row) into x y z
  all_down z loose closed out w member new bound bar =
      not_up (vote g t w x y) (vote_sign g t w x y asked.down member)
      (false_from_ne_true (is_plus (vote g t w x y)) (λ h.
      false≢true (sym closed ∙ up_opens w z member new (voted is_plus fp frozen.plus_is w member bound h) (below_only z w loose bound bar) loose out)))

  rise : (z : ℕ) → has t z ≡ true → is_loose g z x y ≡ true → has opened z ≡ false → has downs z ≡ false → vote_before g s x y z ≤ℤ vote g t z x y
  rise z member loose closed out = votes_rise g s t before.down asked.down (row_distinct s before.row) (row_distinct t asked.row) into x y z member (all_up z loose closed out)

  fall : (z : ℕ) → has t z ≡ true → is_loose g z x y ≡ true → has opened z ≡ false → has ups z ≡ false → vote g t z x y ≤ℤ vote_before g s x y z
  fall z member loose closed out = votes_fall g s t before.down asked.down (row_distinct s before.row) (row_distinct t asked.row) into x y z other member (all_down z loose closed out)

  -- a voter of a side votes so
  side_votes : (votes : ℤ → Bool) (side : List ℕ) → side ≡ filter (λ z. is_loose g z x y && votes (vote g s z x y)) s → (z : ℕ) → has side z ≡ true
      → (has s z ≡ true) × (votes (vote g s z x y) ≡ true)
  side_votes votes side is z h =
      let parts : (has s z ≡ true) × ((is_loose g z x y && votes (vote g s z x y)) ≡ true) =
      and_parts (has s z) (is_loose g z x y && votes (vote g s z x y)) (sym (has-filter (λ z. is_loose g z x y && votes (vote g s z x y)) s z) ∙ ap (λ (l : List ℕ). has l z) (sym is) ∙ h) in
      (parts.0, (and_parts (is_loose g z x y) (votes (vote g s z x y)) parts.1).1)

  before_is : (z : ℕ) → has s z ≡ true → vote_before g s x y z ≡ vote g s z x y
  before_is z h = ap (λ (m : Bool). cond m (vote g s z x y) (pos 0)) h

  -- each loose voter that isn't asked votes as before, and one that joins votes for neither
  pub unasked_stays : (z : ℕ) → has t z ≡ true → is_loose g z x y ≡ true → has opened z ≡ false → vote g t z x y ≡ vote_before g s x y z
  unasked_stays z member loose closed = at (has ups z) (has downs z) refl refl
    where
      at : (up down : Bool) → has ups z ≡ up → has downs z ≡ down → vote g t z x y ≡ vote_before g s x y z
      at true true eu ed =
          (let one : vote g s z x y ≡ pos 1 = plus_one (vote g s z x y) (side_votes is_plus ups sides.plus_is z eu).1 in
          let two : vote g s z x y ≡ negsuc 0 = minus_one (vote g s z x y) (side_votes is_minus downs sides.minus_is z ed).1 in
          absurd (omega (arith, ints, one, two)))
      at true false eu ed =
          (let h = side_votes is_plus ups sides.plus_is z eu in
          let one : vote_before g s x y z ≡ pos 1 = before_is z h.0 ∙ plus_one (vote g s z x y) h.1 in
          let grow : vote_before g s x y z ≤ℤ vote g t z x y = rise z member loose closed ed in
          let top : vote g t z x y ≤ℤ pos 1 = sign_top (vote g t z x y) (vote_sign g t z x y asked.down member) in
          omega (arith, ints, one, grow, top))
      at false true eu ed =
          (let h = side_votes is_minus downs sides.minus_is z ed in
          let one : vote_before g s x y z ≡ negsuc 0 = before_is z h.0 ∙ minus_one (vote g s z x y) h.1 in
          let less : vote g t z x y ≤ℤ vote_before g s x y z = fall z member loose closed eu in
          let low : negsuc 0 ≤ℤ vote g t z x y = sign_low (vote g t z x y) (vote_sign g t z x y asked.down member) in
          omega (arith, ints, one, less, low))
      at false false eu ed =
          (let grow : vote_before g s x y z ≤ℤ vote g t z x y = rise z member loose closed ed in
          let less : vote g t z x y ≤ℤ vote_before g s x y z = fall z member loose closed eu in
          omega (arith, ints, grow, less))

  -- one side of the pair: what it keeps
  side_kept : (votes : ℤ → Bool) (side : List ℕ) → votes (pos 0) ≡ false → side ≡ filter (λ z. is_loose g z x y && votes (vote g s z x y)) s → (z : ℕ)
      → has (difference side opened) z ≡ (has t z && (is_loose g z x y && (not (has opened z) && votes (vote g t z x y))))
  side_kept votes side none is z =
      has_difference side opened z (λ h. row_small s z before.row (side_votes votes side is z h).0)
      ∙ ap (λ (c : Bool). c && not (has opened z)) (ap (λ (l : List ℕ). has l z) is ∙ has-filter (λ z. is_loose g z x y && votes (vote g s z x y)) s z)
      ∙ at (has s z) (has t z) (is_loose g z x y) (has opened z) refl refl refl refl
    where
      off : (a : Bool) → (a && false) ≡ false
      off true = refl
      off false = refl

      on : (a : Bool) → (a && true) ≡ a
      on true = refl
      on false = refl

      at : (m n l o : Bool) → has s z ≡ m → has t z ≡ n → is_loose g z x y ≡ l → has opened z ≡ o
          → ((m && (l && votes (vote g s z x y))) && not o) ≡ (n && (l && (not o && votes (vote g t z x y))))
      at true false l o em en el eo = absurd (false≢true (sym en ∙ into z em))
      at false false l o em en el eo = refl
      at false true false o em en el eo = refl
      at false true true true em en el eo = refl
      at false true true false em en el eo = sym (ap votes (unasked_stays z en el eo ∙ ap (λ (m : Bool). cond m (vote g s z x y) (pos 0)) em) ∙ none)
      at true true false o em en el eo = refl
      at true true true true em en el eo = off (votes (vote g s z x y))
      at true true true false em en el eo = on (votes (vote g s z x y)) ∙ sym (ap votes (unasked_stays z en el eo ∙ before_is z em))

  pub several_kept : AreKept g t x y (has opened) (difference ups opened) (difference downs opened)
  several_kept = record {
    plus_is = side_kept is_plus ups refl sides.plus_is;
    minus_is = side_kept is_minus downs refl sides.minus_is;
  }
