-- What marks add to rows of blocks.
use Rattle.std.proofs.Common.{◌≡◌, ℕ, Bool, true, false, eqb, ◌+◌, ◌<◌, ◌||◌, ◌&&◌, List, [], ◌∷◌, ◌++◌, take, length, get_or, set, refl, sym, ap, ◌∙◌, inl, inr, arith}
use Rattle.std.specs.List.{list_any}
use Rattle.std.proofs.lemmas.Bool.{cases_lt, eqb-true, eqb-false, or_cases}
use Rattle.std.proofs.lemmas.List.{get_or-set_same, get_or-set_other, length-set, take_more}
use Rattle.std.proofs.lemmas.List.Folds.{list_any-append}
use Rattle.sp_bits.specs.Places.{has, members_below, places_where, IsRow}
use Rattle.sp_bits.proofs.RowSets.{has_places, row_small}
use Rattle.sp_carry.specs.RivalBlocks.{row_of, AreCut, AreMarkedBy, IsMarkedBy}
use Rattle.sp_carry.proofs.Noted.{or_more}

or_none : (a : Bool) → (a || false) ≡ a
or_none true = refl
or_none false = refl

-- a place that is set
pub marked : (old new : List ℕ) (block : ℕ) → IsRow old → block < 512 → new ≡ places_where (λ p. has old p || eqb p block) → IsMarkedBy (λ z. eqb z block) old new
marked old new block row small e z =
    ap (λ (l : List ℕ). has l z) e
    ∙ has_places (λ p. has old p || eqb p block) z
    (λ h. elim (or_cases (has old z) (eqb z block) h) [
      | inl there ↦ row_small old z row there
      | inr here ↦ (let s : z ≡ block = eqb-true z block here in omega (arith, s, small))
    ])

-- one more element of a list
pub marked_by_more : {A : Type 0} (test : A → ℕ → Bool) (old mid new : List ℕ) (list : List A) (i : ℕ) (x : A) → i < length list → x ≡ get_or list i x
    → IsMarkedBy (λ z. list_any (λ y. test y z) (take i list)) old mid → IsMarkedBy (test x) mid new
    → IsMarkedBy (λ z. list_any (λ y. test y z) (take (i + 1) list)) old new
marked_by_more {A} test old mid new list i x lt is before now z =
    now z
    ∙ ap (λ (b : Bool). b || test x z) (before z)
    ∙ or_more (has old z) (list_any (λ y. test y z) (take i list)) (test x z)
    ∙ ap (λ (b : Bool). has old z || b)
    (sym (ap (list_any (λ y. test y z)) (take_more list i x lt ∙ ap (λ (y : A). take i list ++ y ∷ []) (sym is))
    ∙ list_any-append (λ y. test y z) (take i list) (x ∷ [])))

-- the marks of a row that was read
pub marked_read : (row old new : List ℕ) (block : ℕ) → row ≡ old → IsMarkedBy (λ z. eqb z block) row new → IsMarkedBy (λ z. eqb z block) old new
marked_read row old new block is h z = h z ∙ ap (λ (l : List ℕ). has l z || eqb z block) is

-- nothing is marked
pub unmarked : (test : ℕ → ℕ → Bool) (rows : List (List ℕ)) → ((t z : ℕ) → test t z ≡ false) → AreMarkedBy test rows rows
unmarked test rows none = record {
  long = refl;
  each = λ t z lt. sym (ap (λ (b : Bool). has (row_of rows t) z || b) (none t z) ∙ or_none (has (row_of rows t) z));
}

-- one row that is marked
pub all_marked : (old new : List (List ℕ)) (tx block : ℕ) (row : List ℕ) → tx < length old → new ≡ set old tx row → IsMarkedBy (λ z. eqb z block) (row_of old tx) row
    → AreMarkedBy (λ t z. eqb t tx && eqb z block) old new
all_marked old new tx block row lt e h = record {
  long = ap length e ∙ length-set old tx row;
  each = λ t z le. ap (λ (l : List (List ℕ)). has (row_of l t) z) e ∙ at t z (eqb t tx) refl;
}
  where
    at : (t z : ℕ) (c : Bool) → eqb t tx ≡ c → has (row_of (set old tx row) t) z ≡ (has (row_of old t) z || (c && eqb z block))
    at t z true f =
        let same : t ≡ tx = eqb-true t tx f in
        ap (λ (n : ℕ). has (row_of (set old tx row) n) z) same
        ∙ ap (λ (l : List ℕ). has l z) (get_or-set_same old tx row [] lt)
        ∙ h z
        ∙ ap (λ (n : ℕ). has (row_of old n) z || eqb z block) (sym same)
    at t z false f =
        ap (λ (l : List ℕ). has l z) (get_or-set_other old tx t row [] (eqb-false t tx f))
        ∙ sym (or_none (has (row_of old t) z))

pub all_marked_more : {A : Type 0} (test : A → ℕ → ℕ → Bool) (old mid new : List (List ℕ)) (list : List A) (i : ℕ) (x : A) → i < length list → x ≡ get_or list i x
    → AreMarkedBy (λ t z. list_any (λ y. test y t z) (take i list)) old mid → AreMarkedBy (test x) mid new
    → AreMarkedBy (λ t z. list_any (λ y. test y t z) (take (i + 1) list)) old new
all_marked_more {A} test old mid new list i x lt is before now = record {
  long = now.long ∙ before.long;
  each = λ t z le.
      marked_by_more (λ y w. test y t w) (row_of old t) (row_of mid t) (row_of new t) list i x lt is (λ w. before.each t w le)
      (λ w. now.each t w (omega (arith, le, before.long))) z;
}

-- the same marks by another test
pub marked_alike : (one other : ℕ → ℕ → Bool) (old new : List (List ℕ)) → ((t z : ℕ) → t < length old → one t z ≡ other t z) → AreMarkedBy one old new → AreMarkedBy other old new
marked_alike one other old new same h = record {
  long = h.long;
  each = λ t z lt. h.each t z lt ∙ ap (λ (b : Bool). has (row_of old t) z || b) (same t z lt);
}

-- ---- rows that are cut

pub cut_more : (left blocks count : ℕ) (old mid new : List (List ℕ)) → count < left → AreCut left blocks count old mid
    → new ≡ set mid count (members_below (row_of mid count) blocks) → AreCut left blocks (count + 1) old new
cut_more left blocks count old mid new lt h e = record {
  long = ap length e ∙ length-set mid count (members_below (row_of mid count) blocks) ∙ h.long;
  before = λ t le. ap (λ (l : List (List ℕ)). row_of l t) e ∙ at t le;
  behind = λ t ge less.
      ap (λ (l : List (List ℕ)). row_of l t) e
      ∙ get_or-set_other mid count t (members_below (row_of mid count) blocks) [] (λ same. omega (arith, ge, same))
      ∙ h.behind t (omega (arith, ge)) less;
}
  where
    at : (t : ℕ) → t < count + 1 → row_of (set mid count (members_below (row_of mid count) blocks)) t ≡ members_below (row_of old t) blocks
    at t le =
        elim (cases_lt t count) [
          | inl less ↦ get_or-set_other mid count t (members_below (row_of mid count) blocks) [] (λ same. omega (arith, less, same)) ∙ h.before t less
          | inr ge ↦ (let same : t ≡ count = omega (arith, le, ge) in
              ap (λ (n : ℕ). row_of (set mid count (members_below (row_of mid count) blocks)) n) same
              ∙ get_or-set_same mid count (members_below (row_of mid count) blocks) [] (omega (arith, lt, h.long))
              ∙ ap (λ (l : List ℕ). members_below l blocks) (h.behind count (omega arith) lt)
              ∙ ap (λ (n : ℕ). members_below (row_of old n) blocks) (sym same))
        ]
