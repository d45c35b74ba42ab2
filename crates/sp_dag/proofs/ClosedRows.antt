-- The rows of the blocks with their futures, when a block comes and when the last ones go.
use Rattle.std.proofs.Common.{◌≡◌, ℕ, ◌+◌, ◌<◌, ◌≤◌, Bool, true, false, ◌||◌, ◌&&◌, Option, List, [], ◌∷◌, ◌++◌, length, take, drop, get_or, refl, sym, ap, subst, ◌∙◌, eqb, nat_lt, arith, length-append}
use Rattle.std.specs.Prelude.{if◌then◌else◌}
use Rattle.std.proofs.lemmas.Bool.{eqb-true}
use Rattle.std.proofs.lemmas.Bool.Decides.{nat_tests}
use Rattle.std.proofs.lemmas.List.{get_or-take, length-take-le, take-append-drop}
use Rattle.sp_model.specs.Graph.{has, in_past}
use Rattle.sp_model.specs.Loose.{in_bar}
use Rattle.sp_bits.specs.Places.{members_below, places_where}
use Rattle.sp_bits.specs.Members.{has-places_where}
use Rattle.sp_bits.proofs.Fronts.{members_below-places}
use Rattle.sp_bits.proofs.Sets.{places_same}
use Rattle.sp_dag.specs.Closed.{closed}
use Rattle.sp_dag.specs.Numbered.{Numbered, AreInOrder, graph_of}
use Rattle.sp_dag.specs.Right.{AreClosed, AreRight}
use Rattle.sp_dag.specs.Shapes.{shape_of}
use Rattle.sp_dag.proofs.Adds.{Adds, each_row, past_told}
use Rattle.sp_dag.proofs.Fronts.{future_front}
use Rattle.sp_dag.proofs.Grown.{AreBefore, future-grown, future-new}
use Rattle.sp_dag.proofs.Ranked as ranked

-- the row of a block gets the new one where that has the block in its past
closed-grown : (table : List (List ℕ)) (ps past row : List ℕ) (a : ℕ) → AreInOrder table → length table < 512 → has past a ≡ in_past (shape_of (table ++ ps ∷ [])) a (length table)
    → row ≡ closed (shape_of table) a
    → (if has past a then places_where (λ w. has row w || eqb w (length table)) else row) ≡ closed (shape_of (table ++ ps ∷ [])) a
closed-grown table ps past row a order small is rows = at (has past a) (future-grown table ps past future a order small is refl)
  where
    future : List ℕ
    future = places_where (λ w. in_past (shape_of table) a w)

    turn : (e x k : Bool) → ((e || x) || k) ≡ (e || (x || k))
    turn true x k = refl
    turn false x k = refl

    at : (c : Bool) → (if c then places_where (λ w. has future w || eqb w (length table)) else future) ≡ places_where (λ w. in_past (shape_of (table ++ ps ∷ [])) a w)
        → (if c then places_where (λ w. has row w || eqb w (length table)) else row) ≡ closed (shape_of (table ++ ps ∷ [])) a
    at true grown =
        places_same (λ w. has row w || eqb w (length table)) (λ w. in_bar (shape_of (table ++ ps ∷ [])) a w)
        (λ w le. ap (λ (c : Bool). c || eqb w (length table)) (ap (λ (l : List ℕ). has l w) rows ∙ has-places_where (λ w. in_bar (shape_of table) a w) w le)
        ∙ turn (eqb w a) (in_past (shape_of table) a w) (eqb w (length table))
        ∙ ap (λ (c : Bool). eqb w a || c)
        (ap (λ (c : Bool). c || eqb w (length table)) (sym (has-places_where (λ w. in_past (shape_of table) a w) w le))
        ∙ sym (has-places_where (λ w. has future w || eqb w (length table)) w le) ∙ ap (λ (l : List ℕ). has l w) grown
        ∙ has-places_where (λ w. in_past (shape_of (table ++ ps ∷ [])) a w) w le))
    at false grown =
        rows
        ∙ places_same (λ w. in_bar (shape_of table) a w) (λ w. in_bar (shape_of (table ++ ps ∷ [])) a w)
        (λ w le. ap (λ (c : Bool). eqb w a || c)
        (sym (has-places_where (λ w. in_past (shape_of table) a w) w le) ∙ ap (λ (l : List ℕ). has l w) grown
        ∙ has-places_where (λ w. in_past (shape_of (table ++ ps ∷ [])) a w) w le))

-- the new block has itself alone
closed-new : (table : List (List ℕ)) (ps own : List ℕ) → AreInOrder table → AreBefore ps (length table) → own ≡ places_where (λ w. has [] w || eqb w (length table))
    → own ≡ closed (shape_of (table ++ ps ∷ [])) (length table)
closed-new table ps own order before is =
    is
    ∙ places_same (λ w. has [] w || eqb w (length table)) (λ w. in_bar (shape_of (table ++ ps ∷ [])) (length table) w)
    (λ w le. turn (eqb w (length table)) (in_past (shape_of (table ++ ps ∷ [])) (length table) w)
    (ap (λ (l : List ℕ). has l w) (future-new table ps order before) ∙ has-places_where (λ w. in_past (shape_of (table ++ ps ∷ [])) (length table) w) w le))
  where
    turn : (e x : Bool) → false ≡ x → (false || e) ≡ (e || x)
    turn true x none = refl
    turn false x none = none

-- what is left of a row
closed-front : (front back : List (List ℕ)) (a : ℕ) (row : List ℕ) → AreInOrder (front ++ back) → a < length front
    → row ≡ closed (shape_of (front ++ back)) a → members_below row (length front) ≡ closed (shape_of front) a
closed-front front back a row order inside is =
    ap (λ (l : List ℕ). members_below l (length front)) is ∙ members_below-places (λ w. in_bar (shape_of (front ++ back)) a w) (length front)
    ∙ places_same (λ w. in_bar (shape_of (front ++ back)) a w && nat_lt w (length front)) (λ w. in_bar (shape_of front) a w)
    (λ w le. turn (eqb w a) (in_past (shape_of (front ++ back)) a w) (in_past (shape_of front) a w) (nat_lt w (length front))
    (λ e. (let same : w ≡ a = eqb-true w a e in grind (arith, nat_tests, same, inside))) (left w le))
  where
    whole : ℕ → Bool
    whole w = in_past (shape_of (front ++ back)) a w

    left : (w : ℕ) → w < 512 → (whole w && nat_lt w (length front)) ≡ in_past (shape_of front) a w
    left w le =
        sym (has-places_where (λ w. whole w && nat_lt w (length front)) w le) ∙ ap (λ (l : List ℕ). has l w) (sym (members_below-places whole (length front)))
        ∙ ap (λ (l : List ℕ). has l w) (future_front front back a (places_where whole) order refl) ∙ has-places_where (λ w. in_past (shape_of front) a w) w le

    turn : (e x y l : Bool) → (e ≡ true → l ≡ true) → (x && l) ≡ y → ((e || x) && l) ≡ (e || y)
    turn true x y l below same = below refl
    turn false x y l below same = same

pub AreClosed-push : (table pasts futures rows : List (List ℕ)) (pairs : List (ℕ × ℕ)) (indices : List (List (Option ℕ))) (ps past : List ℕ) (later wider : List (List ℕ)) (more : List (ℕ × ℕ))
    (row : List (Option ℕ)) (own : List ℕ) → AreRight table pasts futures pairs indices → Adds table pasts futures pairs ps past later more row → AreClosed table rows
    → length wider ≡ length table
    → ((a : ℕ) → a < length table → get_or wider a [] ≡ (if has past a then places_where (λ w. has (get_or rows a []) w || eqb w (length table)) else get_or rows a []))
    → own ≡ places_where (λ w. has [] w || eqb w (length table))
    → AreClosed (table ++ ps ∷ []) (wider ++ own ∷ [])
AreClosed-push table pasts futures rows pairs indices ps past later wider more row own h adds are long each is =
    let grown : length (table ++ ps ∷ []) ≡ length table + 1 = length-append table (ps ∷ []) in
    record {
      long = length-append wider (own ∷ []) ∙ ap (λ (k : ℕ). k + 1) long ∙ sym grown;
      right = λ z le.
          each_row wider own (length table) (closed (shape_of (table ++ ps ∷ []))) long
          (λ a less. each a less ∙ closed-grown table ps past (get_or rows a []) a h.order adds.room (past_told table pasts futures pairs indices ps past later more row h adds a less) (are.right a less))
          (closed-new table ps own h.order adds.before is) z (omega (arith, grown, le));
    }

pub AreClosed-take : (table rows later : List (List ℕ)) (n : ℕ) → AreInOrder table → n ≤ length table → AreClosed table rows
    → length later ≡ length (take n rows) → ((a : ℕ) → a < length (take n rows) → get_or later a [] ≡ members_below (get_or (take n rows) a []) n)
    → AreClosed (take n table) later
AreClosed-take table rows later n order le are later_long each =
    let front = take n table in
    let back = drop n table in
    let whole : front ++ back ≡ table = take-append-drop n table in
    let long : length front ≡ n = length-take-le n table le in
    let rows_long : length (take n rows) ≡ n = length-take-le n rows (omega (arith, are.long, le)) in
    let order' : AreInOrder (front ++ back) = subst (λ (t : List (List ℕ)). AreInOrder t) (sym whole) order in
    record {
      long = later_long ∙ rows_long ∙ sym long;
      right = λ a less.
          (let lower : a < n = omega (arith, less, long) in
          each a (omega (arith, lower, rows_long)) ∙ ap (λ (l : List ℕ). members_below l n) (get_or-take n rows a [] lower)
          ∙ ap (members_below (get_or rows a [])) (sym long)
          ∙ closed-front front back a (get_or rows a []) order' less
          (are.right a (omega (arith, lower, le)) ∙ ap (λ (t : List (List ℕ)). closed (shape_of t) a) (sym whole)));
    }

pub AreClosed-same : (t t' rows rows' : List (List ℕ)) → t' ≡ t → rows' ≡ rows → AreClosed t rows → AreClosed t' rows'
AreClosed-same t t' rows rows' is_t is_rows h =
    subst (λ (x : List (List ℕ)). AreClosed x rows') (sym is_t) (subst (λ (x : List (List ℕ)). AreClosed t x) (sym is_rows) h)

-- ---- the row of one block

-- neither ranks nor a profile play a part in it
pub closed_shaped : (blocks : Numbered) (z : ℕ) → closed (graph_of blocks) z ≡ closed (shape_of blocks.parents) z
closed_shaped blocks z =
    places_same (λ w. in_bar (graph_of blocks) z w) (λ w. in_bar (shape_of blocks.parents) z w)
    (λ w _. ap (λ (c : Bool). eqb w z || c) (ranked.in_past_shaped blocks z w))
