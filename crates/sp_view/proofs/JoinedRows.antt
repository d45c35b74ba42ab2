-- A block that joins a set: the votes of which loose voters of a pair may change, and which are kept.
use Rattle.std.proofs.Common.{◌≡◌, ◌≢◌, ℕ, zero, suc, ◌<◌, Bool, true, false, cond, ◌&&◌, List, [], refl, sym, ap, ◌∙◌, eqb}
use Rattle.std.specs.Prelude.{not, ℤ, pos, negsuc, filter}
use Rattle.std.proofs.lemmas.Bool.{false≢true, eqb-true, eq-eqb, and_parts}
use Rattle.sp_bits.specs.Places.{places_where, difference, IsRow}
use Rattle.sp_bits.specs.Members.{has-filter}
use Rattle.sp_bits.proofs.Sets.{places_same}
use Rattle.sp_model.specs.Graph.{Graph, has, in_past}
use Rattle.sp_model.specs.Votes.{vote}
use Rattle.sp_model.specs.Loose.{is_loose, is_plus, is_minus}
use Rattle.sp_model.specs.Joining.{Joins}
use Rattle.sp_model.proofs.Joined.{apart_stays, agreeing_stays, tie_stays}
use Rattle.sp_model.proofs.Sets.{same_truth}
use Rattle.sp_view.specs.Settled.{AreKept, AreOpen, AreSides, IsAsked}
use Rattle.sp_bits.proofs.RowSets.{row_small}
use Rattle.sp_bits.proofs.RowSets.{has_places, has_difference, filter_row}

-- ---- the loose members of a set

pub todo_new : (g : Graph) (set : List ℕ) (x y z : ℕ) → IsRow set
    → has (difference set (places_where (λ z. not (is_loose g z x y)))) z ≡ (has set z && is_loose g z x y)
todo_new g set x y z row = has_difference set (places_where (λ z. not (is_loose g z x y))) z (row_small set z row) ∙ at (has set z) refl
  where
    twice : (b : Bool) → not (not b) ≡ b
    twice true = refl
    twice false = refl

    at : (s : Bool) → has set z ≡ s → (s && not (has (places_where (λ z. not (is_loose g z x y))) z)) ≡ (s && is_loose g z x y)
    at true e = ap not (has_places (λ z. not (is_loose g z x y)) z (λ _. row_small set z row e)) ∙ twice (is_loose g z x y)
    at false e = refl

-- ---- signs

pub plus_one : (v : ℤ) → is_plus v ≡ true → v ≡ pos 1
plus_one (negsuc zero) h = absurd (false≢true h)
plus_one (negsuc (suc n)) h = absurd (false≢true h)
plus_one (pos zero) h = absurd (false≢true h)
plus_one (pos (suc zero)) h = refl
plus_one (pos (suc (suc n))) h = absurd (false≢true h)

pub minus_one : (v : ℤ) → is_minus v ≡ true → v ≡ negsuc 0
minus_one (negsuc zero) h = refl
minus_one (negsuc (suc n)) h = absurd (false≢true h)
minus_one (pos zero) h = absurd (false≢true h)
minus_one (pos (suc n)) h = absurd (false≢true h)

-- ---- an old pair

module _ (g : Graph) (b : ℕ) (s t : List ℕ) (x y : ℕ) (j : Joins g b s t) (other : x ≢ y) where
  -- the members beside the one that joins are those from before
  same_members : (z : ℕ) → eqb z b ≡ false → has t z ≡ has s z
  same_members z e = same_truth (has t z) (has s z) (λ h. j.from z h (λ same. false≢true (sym e ∙ eq-eqb z b same))) (j.into z)

  -- where the block that joins votes for neither
  pub tie_side : (votes : ℤ → Bool) → votes (pos 0) ≡ false → vote g t b x y ≡ pos 0 → IsRow s → IsRow t
      → filter (λ z. is_loose g z x y && votes (vote g s z x y)) s ≡ filter (λ z. is_loose g z x y && votes (vote g t z x y)) t
  tie_side votes none tie row row' =
      filter_row s (λ z. is_loose g z x y && votes (vote g s z x y)) row
      ∙ places_same _ _ (λ k _. at k (eqb k b) refl)
      ∙ sym (filter_row t (λ z. is_loose g z x y && votes (vote g t z x y)) row')
    where
      never : (a c : Bool) → false ≡ (a && (c && false))
      never true true = refl
      never true false = refl
      never false c = refl

      member : (k : ℕ) (m : Bool) → has s k ≡ m → (m && (is_loose g k x y && votes (vote g s k x y))) ≡ (m && (is_loose g k x y && votes (vote g t k x y)))
      member k true e = ap (λ (v : ℤ). is_loose g k x y && votes v) (sym (tie_stays g b s t j x y other tie k e))
      member k false e = refl

      at : (k : ℕ) (e : Bool) → eqb k b ≡ e → (has s k && (is_loose g k x y && votes (vote g s k x y))) ≡ (has t k && (is_loose g k x y && votes (vote g t k x y)))
      at k true e =
          let same : k ≡ b = eqb-true k b e in
          ap (λ (m : Bool). m && (is_loose g k x y && votes (vote g s k x y))) (ap (has s) same ∙ j.new)
          ∙ never (has t k) (is_loose g k x y)
          ∙ ap (λ (c : Bool). has t k && (is_loose g k x y && c)) (sym (ap (λ (z : ℕ). votes (vote g t z x y)) same ∙ ap votes tie ∙ none))
      at k false e = member k (has s k) refl ∙ ap (λ (m : Bool). m && (is_loose g k x y && votes (vote g t k x y))) (sym (same_members k e))

  -- One side of the pair, where the block that joins is frozen and each agreeing voter votes as it does: what the side keeps.
  pub kept_side : (votes : ℤ → Bool) (agree side kept : List ℕ) (is_open : ℕ → Bool)
      → is_loose g b x y ≡ false
      → ((z : ℕ) → has s z ≡ true → has agree z ≡ true → vote g s z x y ≡ vote g t b x y)
      → ((z : ℕ) → is_open z ≡ ((in_past g z b && is_loose g z x y) && not (has agree z)))
      → ((z : ℕ) → has side z ≡ (has s z && (is_loose g z x y && votes (vote g s z x y))))
      → ((z : ℕ) → has kept z ≡ (has side z && not (is_open z)))
      → (z : ℕ) → has kept z ≡ (has t z && (is_loose g z x y && (not (is_open z) && votes (vote g t z x y))))
  kept_side votes agree side kept is_open bound agreeing open_is side_is kept_is z =
      kept_is z ∙ ap (λ (c : Bool). c && not (is_open z)) (side_is z) ∙ at (eqb z b) refl
    where
      never : (a c : Bool) → false ≡ (a && (false && c))
      never true c = refl
      never false c = refl

      stays : has s z ≡ true → is_loose g z x y ≡ true → (p a : Bool) → in_past g z b ≡ p → has agree z ≡ a → ((p && true) && not a) ≡ false → vote g t z x y ≡ vote g s z x y
      stays m l false a ep ea closed = apart_stays g b s t j x y z m ep
      stays m l true true ep ea closed = agreeing_stays g b s t j x y other z m (agreeing z m ea)
      stays m l true false ep ea closed = absurd (false≢true (sym closed))

      member : (m l o : Bool) → has s z ≡ m → is_loose g z x y ≡ l → is_open z ≡ o
          → ((m && (l && votes (vote g s z x y))) && not o) ≡ (m && (l && (not o && votes (vote g t z x y))))
      member false l o em el eo = refl
      member true false o em el eo = refl
      member true true true em el eo = off (votes (vote g s z x y))
        where
          off : (c : Bool) → (c && false) ≡ false
          off true = refl
          off false = refl
      member true true false em el eo =
          on (votes (vote g s z x y))
          ∙ ap votes (sym (stays em el (in_past g z b) (has agree z) refl refl (ap (λ (l : Bool). (in_past g z b && l) && not (has agree z)) (sym el) ∙ sym (open_is z) ∙ eo)))
        where
          on : (c : Bool) → (c && true) ≡ c
          on true = refl
          on false = refl

      at : (e : Bool) → eqb z b ≡ e → ((has s z && (is_loose g z x y && votes (vote g s z x y))) && not (is_open z)) ≡ (has t z && (is_loose g z x y && (not (is_open z) && votes (vote g t z x y))))
      at true e =
          let same : z ≡ b = eqb-true z b e in
          rw (ap (has s) same ∙ j.new, ap (λ (k : ℕ). is_loose g k x y) same ∙ bound) (never (has t z) (not (is_open z) && votes (vote g t z x y)))
      at false e =
          member (has s z) (is_loose g z x y) (is_open z) refl refl refl
          ∙ ap (λ (m : Bool). m && (is_loose g z x y && (not (is_open z) && votes (vote g t z x y)))) (sym (same_members z e))

-- ---- what of the pair's rows is known where a block joins

module _ (g : Graph) (b : ℕ) (s t : List ℕ) (x y : ℕ) (ups downs : List ℕ) (j : Joins g b s t) (other : x ≢ y) (row : IsRow s) (asked : IsAsked g t)
    (sides : AreSides g s x y ups downs) where
  -- the block votes for neither: the rows are those before
  pub tie_sides : vote g t b x y ≡ pos 0 → AreSides g t x y ups downs
  tie_sides tie = record {
    plus_is = sides.plus_is ∙ tie_side g b s t x y j other is_plus refl tie row asked.row;
    minus_is = sides.minus_is ∙ tie_side g b s t x y j other is_minus refl tie row asked.row;
  }

  -- the votes of one side
  side_votes : (votes : ℤ → Bool) (side : List ℕ) → side ≡ filter (λ z. is_loose g z x y && votes (vote g s z x y)) s → (z : ℕ) → has side z ≡ true → votes (vote g s z x y) ≡ true
  side_votes votes side is z there =
      (and_parts (is_loose g z x y) (votes (vote g s z x y))
      (and_parts (has s z) (is_loose g z x y && votes (vote g s z x y)) (sym (has-filter (λ z. is_loose g z x y && votes (vote g s z x y)) s z) ∙ ap (λ (l : List ℕ). has l z) (sym is) ∙ there)).1).1

  -- each voter of the side that the block votes for votes as it does
  pub agreeing_side : (up : Bool) → vote g t b x y ≡ cond up (pos 1) (negsuc 0) → (z : ℕ) → has s z ≡ true → has (cond up ups downs) z ≡ true → vote g s z x y ≡ vote g t b x y
  agreeing_side true is z member there = plus_one (vote g s z x y) (side_votes is_plus ups sides.plus_is z there) ∙ sym is
  agreeing_side false is z member there = minus_one (vote g s z x y) (side_votes is_minus downs sides.minus_is z there) ∙ sym is

  -- what is kept of both rows, where the voters of `agree` vote as the block that joins
  pub joined_kept : (agree todo : List ℕ) → is_loose g b x y ≡ false
      → ((z : ℕ) → has s z ≡ true → has agree z ≡ true → vote g s z x y ≡ vote g t b x y)
      → ((z : ℕ) → has todo z ≡ ((in_past g z b && is_loose g z x y) && not (has agree z)))
      → AreKept g t x y (has todo) (difference ups todo) (difference downs todo)
  joined_kept agree todo bound agreeing todo_is = record {
    plus_is = kept_side g b s t x y j other is_plus agree ups (difference ups todo) (has todo) bound agreeing todo_is
        (λ z. ap (λ (l : List ℕ). has l z) sides.plus_is ∙ has-filter (λ z. is_loose g z x y && is_plus (vote g s z x y)) s z)
        (λ z. has_difference ups todo z (small is_plus ups sides.plus_is z));
    minus_is = kept_side g b s t x y j other is_minus agree downs (difference downs todo) (has todo) bound agreeing todo_is
        (λ z. ap (λ (l : List ℕ). has l z) sides.minus_is ∙ has-filter (λ z. is_loose g z x y && is_minus (vote g s z x y)) s z)
        (λ z. has_difference downs todo z (small is_minus downs sides.minus_is z));
  }
    where
      small : (votes : ℤ → Bool) (side : List ℕ) → side ≡ filter (λ z. is_loose g z x y && votes (vote g s z x y)) s → (z : ℕ) → has side z ≡ true → z < 512
      small votes side is z h =
          row_small s z row (and_parts (has s z) (is_loose g z x y && votes (vote g s z x y)) (sym (has-filter (λ z. is_loose g z x y && votes (vote g s z x y)) s z) ∙ ap (λ (l : List ℕ). has l z) (sym is) ∙ h)).0

module _ (g : Graph) (s t : List ℕ) (x y : ℕ) (ups downs : List ℕ) (row : IsRow s) (asked : IsAsked g t) (sides : AreSides g s x y ups downs) where
  -- where none may change, the rows are those before
  pub unasked_sides : AreKept g t x y (has []) (difference ups []) (difference downs []) → AreSides g t x y ups downs
  unasked_sides kept = record {
    plus_is = sides.plus_is ∙ stay is_plus (ap (λ (l : List ℕ). difference l []) sides.plus_is) kept.plus_is;
    minus_is = sides.minus_is ∙ stay is_minus (ap (λ (l : List ℕ). difference l []) sides.minus_is) kept.minus_is;
  }
    where
      stay : (votes : ℤ → Bool) {kept : List ℕ} → kept ≡ difference (filter (λ z. is_loose g z x y && votes (vote g s z x y)) s) []
          → ((z : ℕ) → has kept z ≡ (has t z && (is_loose g z x y && (not (has [] z) && votes (vote g t z x y)))))
          → filter (λ z. is_loose g z x y && votes (vote g s z x y)) s ≡ filter (λ z. is_loose g z x y && votes (vote g t z x y)) t
      stay votes {kept} e is =
          filter_row s (λ z. is_loose g z x y && votes (vote g s z x y)) row
          ∙ places_same _ _ (λ k _. each k)
          ∙ sym (filter_row t (λ z. is_loose g z x y && votes (vote g t z x y)) asked.row)
        where
          side : List ℕ
          side = filter (λ z. is_loose g z x y && votes (vote g s z x y)) s

          all : (a : Bool) → a ≡ (a && true)
          all true = refl
          all false = refl

          at : (z : ℕ) → has side z ≡ (has s z && (is_loose g z x y && votes (vote g s z x y)))
          at z = has-filter (λ z. is_loose g z x y && votes (vote g s z x y)) s z

          each : (k : ℕ) → (has s k && (is_loose g k x y && votes (vote g s k x y))) ≡ (has t k && (is_loose g k x y && votes (vote g t k x y)))
          each k =
              sym (at k) ∙ all (has side k)
              ∙ sym (has_difference side [] k (λ h. row_small s k row (and_parts (has s k) (is_loose g k x y && votes (vote g s k x y)) (sym (at k) ∙ h)).0))
              ∙ ap (λ (l : List ℕ). has l k) (sym e) ∙ is k

-- those whose votes may change are loose members
pub open_joined : (g : Graph) (b : ℕ) (t : List ℕ) (x y : ℕ) (agree todo : List ℕ) → IsAsked g t → has t b ≡ true
    → ((z : ℕ) → has todo z ≡ ((in_past g z b && is_loose g z x y) && not (has agree z))) → AreOpen g t x y (has todo)
open_joined g b t x y agree todo asked there is = record {
  member = λ z h. asked.down.closed b z there (parts z h).0;
  loose = λ z h. (parts z h).1;
}
  where
    parts : (z : ℕ) → has todo z ≡ true → (in_past g z b ≡ true) × (is_loose g z x y ≡ true)
    parts z h = and_parts (in_past g z b) (is_loose g z x y) (and_parts (in_past g z b && is_loose g z x y) (not (has agree z)) (sym (is z) ∙ h)).0
