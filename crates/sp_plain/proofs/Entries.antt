-- The entries of matrices of virtual votes.
use Rattle.std.proofs.Common.{◌≡◌, ℕ, zero, suc, ◌+◌, ◌*◌, ◌≤◌, ◌<◌, List, [], ◌∷◌, ◌++◌, map, length, get_or, refl, sym, ap, ◌∙◌, inl, inr, arith, length-append, append_assoc}
use Rattle.std.specs.Prelude.{ℤ, pos}
use Rattle.std.specs.List.{flat_map, range_with_len}
use Rattle.std.proofs.lemmas.Grind.{flat_map-append}
use Rattle.std.proofs.lemmas.List.{append-nil, get_or_append_left, get_or-append-add, map-append}
use Rattle.std.proofs.lemmas.List.Concat.{flat_map-cons}
use Rattle.std.proofs.lemmas.List.FromFn.{get_or-map-range_with_len, length-map-range_with_len}
use Rattle.std.proofs.Math.Nat.{mul-le-mul_right}
use Rattle.std.proofs.lemmas.Bool.{cases_eq}
use Rattle.sp_model.specs.Graph.{Graph}
use Rattle.sp_model.specs.Votes.{virt}
use Rattle.sp_plain.specs.Plain.{ArePasts}
use Rattle.sp_plain.specs.Virts.{entry, HasVirts, past_virts, Virts, virts_in}
use Rattle.sp_plain.proofs.Ranges.{range_last}

row_below : (n y z a : ℕ) → y < z → a < n → y * n + a < z * n
row_below n y z a lt in_row =
    let e : suc y * n ≤ z * n = mul-le-mul_right n lt in
    omega arith

-- a table of m rows of n entries
abbrev pub grid : (ℕ → ℕ → ℤ) → ℕ → ℕ → List ℤ
grid f m n = flat_map (λ x. map (f x) (range_with_len 0 n)) (range_with_len 0 m)

pub grid_last : (f : ℕ → ℕ → ℤ) (m n : ℕ) → grid f (m + 1) n ≡ grid f m n ++ map (f m) (range_with_len 0 n)
grid_last f m n =
    let row = λ (x : ℕ). map (f x) (range_with_len 0 n) in
    let e : 0 + m ≡ m = omega arith in
    ap (flat_map row) (range_last 0 m ∙ ap (λ (k : ℕ). range_with_len 0 m ++ k ∷ []) e) ∙ flat_map-append row (range_with_len 0 m) (m ∷ [])
    ∙ ap (λ (l : List ℤ). grid f m n ++ l) (flat_map-cons row m [] ∙ append-nil (row m))

pub length-grid : (f : ℕ → ℕ → ℤ) (m n : ℕ) → length (grid f m n) ≡ m * n
length-grid f zero n = omega arith
length-grid f (suc m) n =
    let rest : length (grid f m n) ≡ m * n = length-grid f m n in
    let one : suc m ≡ m + 1 = omega arith in
    omega (arith, ap (λ (k : ℕ). length (grid f k n)) one, ap length (grid_last f m n), length-append (grid f m n) (map (f m) (range_with_len 0 n)), length-map-range_with_len (f m) 0 n)

get_or-grid : (f : ℕ → ℕ → ℤ) (m n x y : ℕ) (d : ℤ) → x < m → y < n → get_or (grid f m n) (x * n + y) d ≡ f x y
get_or-grid f zero n x y d lx ly = absurd (omega arith)
get_or-grid f (suc m) n x y d lx ly =
    let one : suc m ≡ m + 1 = omega arith in
    ap (λ (k : ℕ). get_or (grid f k n) (x * n + y) d) one ∙ ap (λ (zs : List ℤ). get_or zs (x * n + y) d) (grid_last f m n)
    ∙ elim (cases_eq x m) [
      | inl e ↦ rw (e, ← (length-grid f m n)) (get_or-append-add (grid f m n) (map (f m) (range_with_len 0 n)) y d ∙ get_or-map-range_with_len (f m) 0 n y y d ly (omega arith))
      | inr ne ↦ (let lower : x < m = omega arith in
          let in_front : x * n + y < m * n = row_below n x m y lower ly in
          get_or_append_left (grid f m n) (map (f m) (range_with_len 0 n)) d (x * n + y) (omega (arith, length-grid f m n)) ∙ get_or-grid f m n x y d lower ly)
    ]

pub entry_is : (graph : Graph) (set : List ℕ) (n x y : ℕ) → x < n → y < n → entry (virts_in graph set n) x y ≡ virt graph set x y
entry_is graph set n x y lx ly = get_or-grid (virt graph set) n n x y (pos 0) lx ly

pub has_virts : (graph : Graph) (set : List ℕ) (n : ℕ) → HasVirts graph set n (virts_in graph set n)
has_virts graph set n = record { width = refl; each = λ x y lx ly. entry_is graph set n x y lx ly }

-- the place of an entry is inside
pub entry_inside : (n x y : ℕ) → x < n → y < n → x * n + y < n * n
entry_inside n x y lx ly = row_below n x n y lx ly

-- the matrix of a past that is read
pub past_read : (graph : Graph) (pasts : List Virts) (z : ℕ) (d : Virts) → ArePasts graph pasts → z < length pasts → get_or pasts z d ≡ past_virts graph z
past_read graph pasts z d are lt = ap (λ (xs : List Virts). get_or xs z d) are ∙ get_or-map-range_with_len (past_virts graph) 0 (length pasts) z z d lt (omega arith)

-- one more matrix
pub pasts_more : (graph : Graph) (pasts : List Virts) (next : Virts) → ArePasts graph pasts → next ≡ past_virts graph (length pasts) → ArePasts graph (pasts ++ next ∷ [])
pasts_more graph pasts next are is =
    let long : length (pasts ++ next ∷ []) ≡ length pasts + 1 = length-append pasts (next ∷ []) in
    let e : 0 + length pasts ≡ length pasts = omega arith in
    ap (λ (xs : List Virts). xs ++ next ∷ []) are ∙ ap (λ (v : Virts). map (past_virts graph) (range_with_len 0 (length pasts)) ++ v ∷ []) is
    ∙ sym (map-append (past_virts graph) (range_with_len 0 (length pasts)) (length pasts ∷ []))
    ∙ ap (map (past_virts graph)) (sym (range_last 0 (length pasts) ∙ ap (λ (k : ℕ). range_with_len 0 (length pasts) ++ k ∷ []) e))
    ∙ ap (λ (n : ℕ). map (past_virts graph) (range_with_len 0 n)) (sym long)

-- one more entry of a row
pub row_more : (f : ℕ → ℤ) (y : ℕ) (before so_far now : List ℤ) (vote : ℤ) → so_far ≡ before ++ map f (range_with_len 0 y) → now ≡ so_far ++ vote ∷ [] → vote ≡ f y → now ≡ before ++ map f (range_with_len 0 (y + 1))
row_more f y before so_far now vote is more e =
    let z : 0 + y ≡ y = omega arith in
    let list : map f (range_with_len 0 (y + 1)) ≡ map f (range_with_len 0 y) ++ f y ∷ [] =
    ap (map f) (range_last 0 y ∙ ap (λ (k : ℕ). range_with_len 0 y ++ k ∷ []) z) ∙ map-append f (range_with_len 0 y) (y ∷ []) in
    more ∙ ap (λ (l : List ℤ). l ++ vote ∷ []) is ∙ append_assoc before (map f (range_with_len 0 y)) (vote ∷ [])
    ∙ ap (λ (v : ℤ). before ++ (map f (range_with_len 0 y) ++ v ∷ [])) e ∙ ap (λ (l : List ℤ). before ++ l) (sym list)
