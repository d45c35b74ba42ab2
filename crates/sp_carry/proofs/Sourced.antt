-- Lists of what transactions spend, where transactions are added and where the last ones go.
use Rattle.std.proofs.Common.{◌≡◌, ℕ, zero, suc, Bool, true, false, cond, eqb, ◌+◌, ◌<◌, ◌≤◌, ◌&&◌, not, nat_lt, List, [], ◌∷◌, length, map, take, get_or, Option, Some, None, refl, sym, ap, ◌∙◌, arith, subst, inl, inr}
use Rattle.std.specs.Prelude.{position, unwrap_or}
use Rattle.std.specs.List.{list_all, position_or_len}
use Rattle.std.proofs.lemmas.Bool.{cases_lt, le-ltb, lt-ltb}
use Rattle.std.proofs.lemmas.List.{get_or-take, length-take-le, take-map}
use Rattle.sp_tx.specs.declared.parts.Input.{Input}
use Rattle.sp_tx.specs.Parts.{Transaction, of_parts}
use Rattle.sp_tx.specs.Spending.{id_of}
use Rattle.sp_carry.specs.declared.table.Table.{Table}
use Rattle.sp_carry.specs.Carried.{Carried, cut_to, rows_of_first, used, AreLinked}
use Rattle.sp_carry.specs.Growth.{front}
use Rattle.sp_carry.specs.Kept.{Keeps}
use Rattle.sp_carry.specs.RivalBlocks.{row_of}
use Rattle.sp_carry.specs.Sources.{earlier, has_source_in, is_there, source_in, source_or_none, sources_among, sources_in, AreSourced, HasSources}
use Rattle.sp_carry.proofs.Cutting.{AreOfFirst}
use Rattle.sp_carry.proofs.Fronts.{used-front}
use Rattle.sp_carry.proofs.Keeping.{any_default}
use Rattle.sp_carry.proofs.Rowed.{left_is, IsRowed}

abbrev next : Option ℕ → Option ℕ
next None = None
next (Some n) = Some (suc n)

lt_next : (n m : ℕ) → nat_lt (suc n) (suc m) ≡ nat_lt n m
lt_next n m =
    elim (cases_lt n m) [
      | inl lt ↦ lt-ltb (suc n) (suc m) (omega (arith, lt)) ∙ sym (lt-ltb n m lt)
      | inr ge ↦ le-ltb (suc n) (suc m) (omega (arith, ge)) ∙ sym (le-ltb n m ge)
    ]

-- a number by one more, where a number passes
next_where : (c : Bool) (n : ℕ) → cond c (Some (suc n)) None ≡ next (cond c (Some n) None)
next_where true n = refl
next_where false n = refl

position_cons : (p : ℕ → Bool) (x : ℕ) (xs : List ℕ) → position p (x ∷ xs) ≡ cond (p x) (Some 0) (next (position p xs))
position_cons p x xs = at (p x)
  where
    one : 1 + position_or_len p xs ≡ suc (position_or_len p xs)
    one = omega arith

    at : (c : Bool) → cond (nat_lt (cond (not c) (1 + position_or_len p xs) 0) (suc (length xs))) (Some (cond (not c) (1 + position_or_len p xs) 0)) None
        ≡ cond c (Some 0) (next (position p xs))
    at true = ap (λ (b : Bool). cond b (Some 0) None) (lt-ltb 0 (suc (length xs)) (omega arith))
    at false =
        ap (λ (n : ℕ). cond (nat_lt n (suc (length xs))) (Some n) None) one
        ∙ ap (λ (b : Bool). cond b (Some (suc (position_or_len p xs))) None) (lt_next (position_or_len p xs) (length xs))
        ∙ next_where (nat_lt (position_or_len p xs) (length xs)) (position_or_len p xs)

earlier_zero : (o : Option ℕ) → earlier 0 o ≡ None
earlier_zero None = refl
earlier_zero (Some n) = ap (λ (b : Bool). cond b (Some n) None) (le-ltb n 0 (omega arith))

earlier_next : (tx : ℕ) (o : Option ℕ) → earlier (suc tx) (next o) ≡ next (earlier tx o)
earlier_next tx None = refl
earlier_next tx (Some n) = ap (λ (b : Bool). cond b (Some (suc n)) None) (lt_next n tx) ∙ next_where (nat_lt n tx) n

-- the first one passes, or none that is found behind it
earlier_at : (tx : ℕ) (c : Bool) (o q : Option ℕ) → earlier tx o ≡ earlier tx q → earlier (suc tx) (cond c (Some 0) (next o)) ≡ earlier (suc tx) (cond c (Some 0) (next q))
earlier_at tx true o q e = refl
earlier_at tx false o q e = earlier_next tx o ∙ ap next e ∙ sym (earlier_next tx q)

-- a number below this one is found among the first ones already
earlier_take : (p : ℕ → Bool) (xs : List ℕ) (tx m : ℕ) → tx ≤ m → earlier tx (position p (take m xs)) ≡ earlier tx (position p xs)
earlier_take p xs zero m le = earlier_zero (position p (take m xs)) ∙ sym (earlier_zero (position p xs))
earlier_take p xs (suc tx) zero le = absurd (omega (arith, le))
earlier_take p [] (suc tx) (suc m) le = refl
earlier_take p (x ∷ xs) (suc tx) (suc m) le =
    ap (earlier (suc tx)) (position_cons p x (take m xs))
    ∙ earlier_at tx (p x) (position p (take m xs)) (position p xs) (earlier_take p xs tx m (omega (arith, le)))
    ∙ sym (ap (earlier (suc tx)) (position_cons p x xs))

source_take : (txs : List Transaction) (m tx : ℕ) (input : Input) → tx ≤ m → source_in (take m txs) tx input ≡ source_in txs tx input
source_take txs m tx input le =
    ap (λ (ids : List ℕ). earlier tx (position (eqb input.from.tx) ids)) (sym (take-map id_of m txs))
    ∙ earlier_take (eqb input.from.tx) (map id_of txs) tx m le

among_take : (txs : List Transaction) (m tx : ℕ) (inputs : List Input) → tx ≤ m → sources_among (take m txs) tx inputs ≡ sources_among txs tx inputs
among_take txs m tx inputs le =
    ap (λ (c : Bool). cond c (map (source_or_none (take m txs) tx) inputs) []) (all_same inputs)
    ∙ ap (λ (l : List ℕ). cond (list_all (has_source_in txs tx) inputs) l []) (map_same inputs)
  where
    all_same : (is : List Input) → list_all (has_source_in (take m txs) tx) is ≡ list_all (has_source_in txs tx) is
    all_same [] = refl
    all_same (i ∷ is) =
        ap (λ (b : Bool). b && list_all (has_source_in (take m txs) tx) is) (ap is_there (source_take txs m tx i le))
        ∙ ap (λ (b : Bool). has_source_in txs tx i && b) (all_same is)

    map_same : (is : List Input) → map (source_or_none (take m txs) tx) is ≡ map (source_or_none txs tx) is
    map_same [] = refl
    map_same (i ∷ is) =
        ap (λ (n : ℕ). n ∷ map (source_or_none (take m txs) tx) is) (ap (λ (o : Option ℕ). unwrap_or o 0) (source_take txs m tx i le))
        ∙ ap (λ (l : List ℕ). source_or_none txs tx i ∷ l) (map_same is)

-- transactions behind one change nothing of it
pub sources_take : (txs : List Transaction) (m tx : ℕ) → tx < m → sources_in (take m txs) tx ≡ sources_in txs tx
sources_take txs m tx lt =
    ap (λ (t : Transaction). sources_among (take m txs) tx t.inputs) (get_or-take m txs tx (of_parts [] []) lt)
    ∙ among_take txs m tx (get_or txs tx (of_parts [] [])).inputs (omega (arith, lt))

more_sources : (first txs : List Transaction) (m : ℕ) (old new : List (List ℕ)) → first ≡ take m txs → m ≤ length txs → HasSources first old → AreSourced txs old new (length txs)
    → HasSources txs new
more_sources first txs m old new is le h pushed = record {
  long = pushed.long;
  each = at;
}
  where
    count : length first ≡ m
    count = ap length is ∙ length-take-le m txs le

    at : (tx : ℕ) → tx < length txs → row_of new tx ≡ sources_in txs tx
    at tx lt =
        elim (cases_lt tx (length old)) [
          | inl less ↦ (let within : tx < length first = omega (arith, less, h.long) in
              pushed.before tx less ∙ h.each tx within ∙ ap (λ (ts : List Transaction). sources_in ts tx) is ∙ sources_take txs m tx (omega (arith, within, count)))
          | inr ge ↦ pushed.behind tx ge lt
        ]

-- the carriers of a block were added
pub sources_grown : (k now : Carried) (old new : List (List ℕ)) → AreLinked now → IsRowed k now → HasSources k.txs old → AreSourced now.txs old new (length now.txs)
    → HasSources now.txs new
sources_grown k now old new linked rowed h pushed =
    more_sources k.txs now.txs (used (take (length k.rows) now.rows)) old new (ap (λ (c : Carried). c.txs) (sym rowed.same)) (used-front now (length k.rows) linked) h pushed

-- there are no fewer transactions than before
pub sources_short : (k now : Carried) (old : List (List ℕ)) → IsRowed k now → HasSources k.txs old → length old ≤ length now.txs
sources_short k now old rowed h =
    (let le : used (take (length k.rows) now.rows) ≤ length now.txs = used-front now (length k.rows) rowed.linked in
    let long : length k.txs ≡ used (take (length k.rows) now.rows) =
    ap (λ (c : Carried). length c.txs) (sym rowed.same) ∙ length-take-le (used (take (length k.rows) now.rows)) now.txs le in
    omega (arith, h.long, long, le))

-- all is as before
pub sources_back : (k : Carried) (t : Table) (old new : List (List ℕ)) → Keeps t k → new ≡ old → HasSources k.txs old → HasSources t.txs.items new
sources_back k t old new kept same h =
    subst (HasSources t.txs.items) (sym same) (subst (λ (ts : List Transaction). HasSources ts old) (sym kept.txs) h)

fewer_sources : (txs : List Transaction) (m : ℕ) (old : List (List ℕ)) → m ≤ length txs → HasSources txs old → HasSources (take m txs) (take m old)
fewer_sources txs m old le h = record {
  long = length-take-le m old (omega (arith, le, h.long)) ∙ sym (length-take-le m txs le);
  each = λ tx lt.
      (let within : tx < m = omega (arith, lt, length-take-le m txs le) in
      get_or-take m old tx [] within ∙ h.each tx (omega (arith, within, le)) ∙ sym (sources_take txs m tx within));
}

-- the last blocks went
pub sources_cut : (k : Carried) (n first left : ℕ) (t after : Table) (old new : List (List ℕ)) → AreLinked k → AreOfFirst k n first → Keeps t (front k first)
    → left ≡ length t.txs.items → Keeps after (cut_to k n) → HasSources k.txs old → new ≡ take left old → HasSources after.txs.items new
sources_cut k n first left t after old new linked of kept is now h cut =
    (let l : (left ≡ used (rows_of_first n k.rows)) × (left ≤ length k.txs) = left_is k n first left t linked of kept is in
    subst (λ (ts : List Transaction). HasSources ts new) (sym now.txs)
    (subst (λ (m : ℕ). HasSources (take m k.txs) new) l.0 (subst (HasSources (take left k.txs)) (sym cut) (fewer_sources k.txs left old l.1 h))))

-- a list that is read
pub list_is : (txs : List Transaction) (lists : List (List ℕ)) (tx : ℕ) (list : List ℕ) → tx < length txs → HasSources txs lists → list ≡ get_or lists tx list → list ≡ sources_in txs tx
list_is txs lists tx list lt h e = e ∙ any_default lists tx list [] (omega (arith, lt, h.long)) ∙ h.each tx lt
