-- The views after a block has joined: those of the tips that it doesn't cover, its own, and that of all blocks.
use Rattle.std.proofs.Common.{◌≡◌, ℕ, zero, suc, ◌+◌, ◌-◌, ◌≤◌, ◌<◌, Bool, true, false, cond, ◌||◌, List, [], ◌∷◌, ◌++◌, length, map, take, Some, refl, sym, ap, ◌∙◌, eqb, arith, length-append}
use Rattle.std.specs.Prelude.{filter, slice_get}
use Rattle.std.specs.List.{range_with_len}
use Rattle.std.specs.Option.{option_map}
use Rattle.std.proofs.lemmas.Bool.{eq-eqb, eqb-true, false≢true, or_left, or_right}
use Rattle.std.proofs.lemmas.List.{length-map}
use Rattle.std.proofs.lemmas.Option.{slice_get-map, slice_get_within}
use Rattle.sp_dag.specs.Numbered.{Numbered}
use Rattle.sp_model.specs.Graph.{has}
use Rattle.sp_view.specs.Views.{Viewed}
use Rattle.sp_engine.specs.Votes.{AreOfTips, bar_row, is_tip, IsOfAll, Tallied, tips_from}
use Rattle.sp_engine.proofs.Bars.{tip_in}

-- ---- lists

pub snoc : {X : Type 0} (xs ys : List X) (x y : X) → xs ++ x ∷ [] ≡ ys ++ y ∷ [] → (xs ≡ ys) × (x ≡ y)
snoc [] [] x y e = (refl, (let s : x ≡ y = cc in s))
snoc [] (z ∷ zs) x y e = (let long = ap length e in absurd (omega (arith, long, length-append zs (y ∷ []))))
snoc (z ∷ zs) [] x y e = (let long = ap length e in absurd (omega (arith, long, length-append zs (x ∷ []))))
snoc {X} (a ∷ xs) (z ∷ zs) x y e =
    let first : a ≡ z = cc in
    let rest : xs ++ x ∷ [] ≡ zs ++ y ∷ [] = cc in
    let parts = snoc xs zs x y rest in (ap (λ (w : X). w ∷ xs) first ∙ ap (λ (l : List X). z ∷ l) parts.0, parts.1)

pub filter_map : (keep : List ℕ → Bool) (vs : List Viewed) → map (λ (v : Viewed). v.members) (filter (λ v. keep v.members) vs) ≡ filter keep (map (λ (v : Viewed). v.members) vs)
filter_map keep [] = refl
filter_map keep (v ∷ vs) = at (keep v.members) (filter_map keep vs)
  where
    at : (c : Bool) → map (λ (v : Viewed). v.members) (filter (λ v. keep v.members) vs) ≡ filter keep (map (λ (v : Viewed). v.members) vs)
        → map (λ (v : Viewed). v.members) (cond c (v ∷ filter (λ v. keep v.members) vs) (filter (λ v. keep v.members) vs))
        ≡ cond c (v.members ∷ filter keep (map (λ (v : Viewed). v.members) vs)) (filter keep (map (λ (v : Viewed). v.members) vs))
    at true e = ap (λ (l : List (List ℕ)). v.members ∷ l) e
    at false e = e

pub filter_rows : (keep : List ℕ → Bool) (f : ℕ → List ℕ) (test : ℕ → Bool) (xs : List ℕ) → ((k : ℕ) → has xs k ≡ true → keep (f k) ≡ test k) → filter keep (map f xs) ≡ map f (filter test xs)
filter_rows keep f test [] same = refl
filter_rows keep f test (x ∷ xs) same =
    ap (λ (c : Bool). cond c (f x ∷ filter keep (map f xs)) (filter keep (map f xs))) (same x (own x xs))
    ∙ at (test x) (filter_rows keep f test xs (λ k there. same k (later x k xs there)))
  where
    own : (x : ℕ) (xs : List ℕ) → has (x ∷ xs) x ≡ true
    own x xs = or_left (eqb x x) (has xs x) (eq-eqb x x refl)

    later : (x k : ℕ) (xs : List ℕ) → has xs k ≡ true → has (x ∷ xs) k ≡ true
    later x k xs h = or_right (eqb x k) (has xs k) h

    at : (c : Bool) → filter keep (map f xs) ≡ map f (filter test xs)
        → cond c (f x ∷ filter keep (map f xs)) (filter keep (map f xs)) ≡ map f (cond c (x ∷ filter test xs) (filter test xs))
    at true e = ap (λ (l : List (List ℕ)). f x ∷ l) e
    at false e = e

-- what stands at a place of two lists together
pub in_front : (xs ys : List Viewed) (i : ℕ) → i < length xs → slice_get (xs ++ ys) i ≡ slice_get xs i
in_front [] ys i lt = absurd (omega (arith, lt))
in_front (x ∷ xs) ys zero lt = refl
in_front (x ∷ xs) ys (suc i) lt = in_front xs ys i (omega (arith, lt))

pub behind : (xs ys : List Viewed) (i k : ℕ) → i ≡ length xs + k → slice_get (xs ++ ys) i ≡ slice_get ys k
behind [] ys i k e = ap (slice_get ys) (let same : i ≡ k = omega (arith, e) in same)
behind (x ∷ xs) ys zero k e = absurd (omega (arith, e))
behind (x ∷ xs) ys (suc i) k e = behind xs ys i k (omega (arith, e))

-- one that passes stands among those that do
pub passes : (test : Viewed → Bool) (xs : List Viewed) (i : ℕ) (v : Viewed) → slice_get xs i ≡ Some v → test v ≡ true → (j : ℕ) × (slice_get (filter test xs) j ≡ Some v)
passes test [] i v at e = cc
passes test (x ∷ xs) zero v at e =
    let same : x ≡ v = cc in
    (0, ap (λ (c : Bool). slice_get (cond c (x ∷ filter test xs) (filter test xs)) 0) (ap test same ∙ e) ∙ ap Some same)
passes test (x ∷ xs) (suc i) v at e = (let rest = passes test xs i v at e in found (test x) rest.0 rest.1)
  where
    found : (c : Bool) (j : ℕ) → slice_get (filter test xs) j ≡ Some v → (j : ℕ) × (slice_get (cond c (x ∷ filter test xs) (filter test xs)) j ≡ Some v)
    found true j at = (suc j, at)
    found false j at = (j, at)

-- and what stands there stood before
pub passed : (test : Viewed → Bool) (xs : List Viewed) (j : ℕ) (v : Viewed) → slice_get (filter test xs) j ≡ Some v → (i : ℕ) × (slice_get xs i ≡ Some v)
passed test [] j v at = cc
passed test (x ∷ xs) j v at = found (test x) j at (λ k there. passed test xs k v there)
  where
    found : (c : Bool) (j : ℕ) → slice_get (cond c (x ∷ filter test xs) (filter test xs)) j ≡ Some v → ((k : ℕ) → slice_get (filter test xs) k ≡ Some v → (i : ℕ) × (slice_get xs i ≡ Some v))
        → (i : ℕ) × (slice_get (x ∷ xs) i ≡ Some v)
    found true zero at more = (0, at)
    found true (suc j) at more = (let rest = more j at in (suc rest.0, rest.1))
    found false j at more = (let rest = more j at in (suc rest.0, rest.1))

-- the view of all blocks is the last one
pub all_is : (v : Tallied) (front : List Viewed) (all view : Viewed) → v.views ≡ front ++ all ∷ [] → IsOfAll v view → view ≡ all
all_is v front all view is h =
    let long : length v.views ≡ length front + 1 = omega (arith, ap length is, length-append front (all ∷ [])) in
    let at : slice_get (all ∷ []) 0 ≡ Some view = sym (behind front (all ∷ []) h.0 0 (omega (arith, h.2, long))) ∙ ap (λ (l : List Viewed). slice_get l h.0) (sym is) ∙ h.1 in
    let e : view ≡ all = cc in e

-- ---- the tips' views

-- the view at a place before the last is that of a tip
pub of_tip : (table : Numbered) (n since : ℕ) (views : List Viewed) (i : ℕ) (view : Viewed) → AreOfTips table n since views → n ≤ length table.parents → slice_get views i ≡ Some view → i + 1 < length views
    → (t : ℕ) × (t < n) × (is_tip (take n table.parents) t ≡ true) × (view.members ≡ bar_row table t)
of_tip table n since views i view are le at lt =
    let short : i < length are.tips = omega (arith, lt, ap length are.is, length-append are.tips (are.all ∷ [])) in
    let here : slice_get are.tips i ≡ Some view = sym (in_front are.tips (are.all ∷ []) i short) ∙ ap (λ (l : List Viewed). slice_get l i) (sym are.is) ∙ at in
    let mapped : slice_get (map (bar_row table) (tips_from (take n table.parents) since)) i ≡ Some view.members =
    ap (λ (l : List (List ℕ)). slice_get l i) (sym are.each) ∙ slice_get-map (λ (v : Viewed). v.members) are.tips i ∙ ap (option_map (λ (v : Viewed). v.members)) here in
    let one = from_map (tips_from (take n table.parents) since) i view.members mapped in
    let parts = tip_in table.parents since n one.0 (omega (arith, are.within)) le one.1 in
    (one.0, parts.0, parts.1, one.2)
  where
    from_map : (ts : List ℕ) (i : ℕ) (row : List ℕ) → slice_get (map (bar_row table) ts) i ≡ Some row → (t : ℕ) × (has ts t ≡ true) × (row ≡ bar_row table t)
    from_map [] i row at = cc
    from_map (t ∷ ts) zero row at = (t, or_left (eqb t t) (has ts t) (eq-eqb t t refl), (let e : row ≡ bar_row table t = cc in e))
    from_map (t ∷ ts) (suc i) row at = (let rest = from_map ts i row at in (rest.0, or_right (eqb t rest.0) (has ts rest.0) rest.1, rest.2))

-- and each tip from that number on has one
pub tip_view_there : (table : Numbered) (n since : ℕ) (views : List Viewed) (t : ℕ) → AreOfTips table n since views → has (tips_from (take n table.parents) since) t ≡ true
    → (i : ℕ) × (view : Viewed) × (slice_get views i ≡ Some view) × (i + 1 < length views) × (view.members ≡ bar_row table t)
tip_view_there table n since views t are there =
    let place = place_of (tips_from (take n table.parents) since) t there in
    let row : slice_get (map (λ (v : Viewed). v.members) are.tips) place.0 ≡ Some (bar_row table t) =
    ap (λ (l : List (List ℕ)). slice_get l place.0) are.each ∙ slice_get-map (bar_row table) (tips_from (take n table.parents) since) place.0 ∙ ap (option_map (bar_row table)) place.1 in
    let one = from_map are.tips place.0 (bar_row table t) row in
    let short : place.0 < length are.tips = slice_get_within are.tips place.0 one.0 one.1 in
    (place.0, one.0, ap (λ (l : List Viewed). slice_get l place.0) are.is ∙ in_front are.tips (are.all ∷ []) place.0 short ∙ one.1, omega (arith, short, ap length are.is, length-append are.tips (are.all ∷ [])), one.2)
  where
    place_of : (ts : List ℕ) (t : ℕ) → has ts t ≡ true → (i : ℕ) × (slice_get ts i ≡ Some t)
    place_of [] t h = absurd (false≢true h)
    place_of (s ∷ ts) t h = at (eqb s t) refl h (λ there. place_of ts t there)
      where
        at : (c : Bool) → eqb s t ≡ c → (c || has ts t) ≡ true → (has ts t ≡ true → (i : ℕ) × (slice_get ts i ≡ Some t)) → (i : ℕ) × (slice_get (s ∷ ts) i ≡ Some t)
        at true e h more = (0, ap Some (eqb-true s t e))
        at false e h more = (let rest = more h in (suc rest.0, rest.1))

    from_map : (vs : List Viewed) (i : ℕ) (row : List ℕ) → slice_get (map (λ (v : Viewed). v.members) vs) i ≡ Some row → (v : Viewed) × (slice_get vs i ≡ Some v) × (v.members ≡ row)
    from_map [] i row at = cc
    from_map (v ∷ vs) zero row at = (v, refl, (let e : v.members ≡ row = cc in e))
    from_map (v ∷ vs) (suc i) row at = from_map vs i row at

-- there are no more views than blocks and one
pub few_views : (table : Numbered) (n since : ℕ) (views : List Viewed) → AreOfTips table n since views → n ≤ length table.parents → length views ≤ n + 1
few_views table n since views are le =
    let tips : length are.tips ≡ length (tips_from (take n table.parents) since) =
    sym (length-map are.tips (λ (v : Viewed). v.members)) ∙ ap length are.each ∙ length-map (tips_from (take n table.parents) since) (bar_row table) in
    omega (arith, tips, short (is_tip (take n table.parents)) (range_with_len since (length (take n table.parents) - since)), length-range since (length (take n table.parents) - since), taken table.parents n le, ap length are.is, length-append are.tips (are.all ∷ []))
  where
    short : (p : ℕ → Bool) (xs : List ℕ) → length (filter p xs) ≤ length xs
    short p [] = omega arith
    short p (x ∷ xs) = at (p x) (short p xs)
      where
        at : (c : Bool) → length (filter p xs) ≤ length xs → length (cond c (x ∷ filter p xs) (filter p xs)) ≤ suc (length xs)
        at true le = omega (arith, le)
        at false le = omega (arith, le)

    length-range : (a n : ℕ) → length (range_with_len a n) ≡ n
    length-range a zero = refl
    length-range a (suc n) = (let rest = length-range (a + 1) n in omega (arith, rest))

    taken : (xs : List (List ℕ)) (n : ℕ) → n ≤ length xs → length (take n xs) ≡ n
    taken xs zero le = refl
    taken [] (suc n) le = absurd (omega (arith, le))
    taken (x ∷ xs) (suc n) le = (let rest = taken xs n (omega (arith, le)) in omega (arith, rest))
