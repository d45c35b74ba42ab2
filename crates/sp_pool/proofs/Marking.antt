-- What a mark at a place says of the set of marked blocks.
use Rattle.std.proofs.Common.{◌≡◌, ℕ, zero, suc, ◌+◌, ◌<◌, Bool, true, false, cond, ◌||◌, ◌&&◌, not, List, [], ◌∷◌, ◌++◌, length, take, set, get_or, refl, sym, ap, ◌∙◌, inl, inr, eqb, nat_eq, Option, Some, None, arith, add-one}
use Rattle.std.specs.Prelude.{map, find, position, slice_get}
use Rattle.std.specs.List.{position_or_len, list_all}
use Rattle.std.specs.Option.{option_map}
use Rattle.std.proofs.lemmas.Bool.{eqb-true, eq-eqb, false≢true, or_cases, or_left, or_right}
use Rattle.std.proofs.lemmas.Bool.Decides.{nat_tests}
use Rattle.std.proofs.lemmas.Option.{none-some, same_Some, slice_get-map, slice_get-get_or, slice_get_cases}
use Rattle.std.proofs.lemmas.List.Quantifiers.{position-Some}
use Rattle.std.proofs.lemmas.List.Folds.{list_any-append}
use Rattle.sp_block.specs.Block.{ReadBlock}
use Rattle.sp_model.specs.Graph.{has}
use Rattle.sp_pool.specs.Kept.{AreApart, ids_of, is_ready}
use Rattle.sp_model.proofs.Sets.{all_at, all_from}
use Rattle.sp_pool.specs.Marks.{AreSeen, Marked, Marks}
use Rattle.sp_pool.proofs.Tables.{eqb_flip}

-- a key that is there has a place
before_end : (k : ℕ) (ks : List ℕ) → has ks k ≡ true → position_or_len (nat_eq k) ks < length ks
before_end k [] h = absurd (false≢true h)
before_end k (y ∷ ys) h = at (eqb y k) (nat_eq k y) (eqb_flip k y) h (before_end k ys)
  where
    at : (c d : Bool) → d ≡ c → (c || has ys k) ≡ true → (has ys k ≡ true → position_or_len (nat_eq k) ys < length ys)
        → cond (not d) (1 + position_or_len (nat_eq k) ys) 0 < suc (length ys)
    at true true same h rest = omega arith
    at true false same h rest = absurd (false≢true same)
    at false true same h rest = omega arith
    at false false same h rest = (let le : position_or_len (nat_eq k) ys < length ys = rest h in omega arith)

pub no_place : (k : ℕ) (ks : List ℕ) → position (nat_eq k) ks ≡ None → has ks k ≡ false
no_place k ks none = at (has ks k) refl
  where
    at : (c : Bool) → has ks k ≡ c → c ≡ false
    at true e = (let le : position_or_len (nat_eq k) ks < length ks = before_end k ks e in absurd (grind (arith, nat_tests, none, le)))
    at false e = refl

-- an id that is found is marked where the set has it
pub marked_there : (m : Marked) (marks : List ℕ) (id place : ℕ) (r : Bool) → Marks m marks → position (nat_eq id) (ids_of m.blocks) ≡ Some place
    → slice_get m.marks place ≡ Some r → r ≡ has marks id
marked_there m marks id place r h at here =
    let found = position-Some (nat_eq id) (ids_of m.blocks) place 0 at in
    let same : id ≡ get_or (ids_of m.blocks) place 0 = eqb-true id (get_or (ids_of m.blocks) place 0) found.1 in
    let there : slice_get m.marks place ≡ Some (has marks (get_or (ids_of m.blocks) place 0)) =
    ap (λ (l : List Bool). slice_get l place) h.same ∙ slice_get-map (has marks) (ids_of m.blocks) place
    ∙ ap (option_map (has marks)) (slice_get-get_or (ids_of m.blocks) place 0 found.0) in
    same_Some r (has marks (get_or (ids_of m.blocks) place 0)) (sym here ∙ there) ∙ ap (has marks) (sym same)

-- and one that isn't found is not in the set
pub marked_nowhere : (m : Marked) (marks : List ℕ) (id : ℕ) → Marks m marks → position (nat_eq id) (ids_of m.blocks) ≡ None → false ≡ has marks id
marked_nowhere m marks id h none = at (has marks id) (h.within id)
  where
    at : (c : Bool) → (c ≡ true → has (ids_of m.blocks) id ≡ true) → false ≡ c
    at true within = absurd (false≢true (sym (no_place id (ids_of m.blocks) none) ∙ within refl))
    at false within = refl

-- the mark at a block's place
pub mark_at : (m : Marked) (marks : List ℕ) (place : ℕ) (b : ReadBlock) (r : Bool) → Marks m marks → slice_get m.blocks place ≡ Some b → slice_get m.marks place ≡ Some r → r ≡ has marks b.id
mark_at m marks place b r h block mark =
    same_Some r (has marks b.id)
    (sym mark ∙ ap (λ (l : List Bool). slice_get l place) h.same ∙ slice_get-map (has marks) (ids_of m.blocks) place
    ∙ ap (option_map (has marks)) (slice_get-map (λ (b : ReadBlock). b.id) m.blocks place ∙ ap (option_map (λ (b : ReadBlock). b.id)) block))

-- whether the block at a place is ready, by its mark and its parents
pub ready_unmarked : (m : Marked) (marks : List ℕ) (place : ℕ) (parents : List ℕ) (r all : Bool) → Marks m marks
    → option_map (λ (b : ReadBlock). b.parents) (slice_get m.blocks place) ≡ Some parents → slice_get m.marks place ≡ Some r
    → r ≡ false → all ≡ list_all (has marks) parents → option_map (is_ready marks) (slice_get m.blocks place) ≡ Some all
ready_unmarked m marks place parents r all h there mark off by_parents =
    let block = some_of (slice_get m.blocks place) parents there in
    ap (option_map (is_ready marks)) block.1
    ∙ ap (λ (x : Bool). Some x) (at block.0 r (mark_at m marks place block.0 r h block.1 mark) off (by_parents ∙ ap (list_all (has marks)) (sym block.2)))
  where
    some_of : (o : Option ReadBlock) (parents : List ℕ) → option_map (λ (b : ReadBlock). b.parents) o ≡ Some parents → (b : ReadBlock) × (o ≡ Some b) × (b.parents ≡ parents)
    some_of None parents h = absurd (none-some parents h)
    some_of (Some b) parents h = (b, refl, same_Some b.parents parents h)

    at : (b : ReadBlock) (r : Bool) → r ≡ has marks b.id → r ≡ false → all ≡ list_all (has marks) b.parents → (not (has marks b.id) && list_all (has marks) b.parents) ≡ all
    at b true e off parents = absurd (false≢true (sym off))
    at b false e off parents = ap (λ (x : Bool). not x && list_all (has marks) b.parents) (sym e) ∙ sym parents

pub ready_marked : (m : Marked) (marks : List ℕ) (place : ℕ) (r : Bool) → Marks m marks → place < length m.blocks → slice_get m.marks place ≡ Some r
    → r ≡ true → option_map (is_ready marks) (slice_get m.blocks place) ≡ Some (not r)
ready_marked m marks place r h within mark on =
    elim (slice_get_cases m.blocks place).1 [
      | inl some ↦ ap (option_map (is_ready marks)) some.2 ∙ ap (λ (x : Bool). Some x) (at some.0 r (mark_at m marks place some.0 r h some.2 mark) on)
      | inr past ↦ absurd (omega (arith, past.0))
    ]
  where
    at : (b : ReadBlock) (r : Bool) → r ≡ has marks b.id → r ≡ true → (not (has marks b.id) && list_all (has marks) b.parents) ≡ not r
    at b true e on = ap (λ (x : Bool). not x && list_all (has marks) b.parents) (sym e)
    at b false e on = absurd (false≢true on)

module _ (p : ReadBlock → Bool) where
  -- a block before which none passes
  pub find_here : (bs : List ReadBlock) (i : ℕ) (b : ReadBlock) → slice_get bs i ≡ Some b → find p (take i bs) ≡ None → p b ≡ true → find p bs ≡ Some b
  find_here [] i b there none passes = absurd (none-some b there)
  find_here (x ∷ xs) zero b there none passes = at (p x) (ap p (same_Some x b there) ∙ passes)
    where
      at : (c : Bool) → c ≡ true → cond c (Some x) (find p xs) ≡ Some b
      at true e = there
      at false e = absurd (false≢true e)
  find_here (x ∷ xs) (suc i) b there none passes = at (p x) none (λ rest. find_here xs i b there rest passes)
    where
      at : (c : Bool) → cond c (Some x) (find p (take i xs)) ≡ None → (find p (take i xs) ≡ None → find p xs ≡ Some b) → cond c (Some x) (find p xs) ≡ Some b
      at true none rest = absurd (none-some x (sym none))
      at false none rest = rest none

  pub find_more : (bs : List ReadBlock) (i : ℕ) (b : ReadBlock) → slice_get bs i ≡ Some b → find p (take i bs) ≡ None → p b ≡ false → find p (take (suc i) bs) ≡ None
  find_more [] i b there none fails = refl
  find_more (x ∷ xs) zero b there none fails = at (p x) (ap p (same_Some x b there) ∙ fails)
    where
      at : (c : Bool) → c ≡ false → cond c (Some x) (find p (take zero xs)) ≡ None
      at true e = absurd (false≢true (sym e))
      at false e = refl
  find_more (x ∷ xs) (suc i) b there none fails = at (p x) none (λ rest. find_more xs i b there rest fails)
    where
      at : (c : Bool) → cond c (Some x) (find p (take i xs)) ≡ None → (find p (take i xs) ≡ None → find p (take (suc i) xs) ≡ None) → cond c (Some x) (find p (take (suc i) xs)) ≡ None
      at true none rest = absurd (none-some x (sym none))
      at false none rest = rest none

has-push : (s : List ℕ) (id z : ℕ) → has (s ++ id ∷ []) z ≡ (has s z || (eqb id z || false))
has-push s id z = list_any-append (λ k. eqb k z) s (id ∷ [])

adds_other : (s : List ℕ) (id z : ℕ) → eqb id z ≡ false → has (s ++ id ∷ []) z ≡ has s z
adds_other s id z other = has-push s id z ∙ at (has s z) (eqb id z) other
  where
    at : (c d : Bool) → d ≡ false → (c || (d || false)) ≡ c
    at c true e = absurd (false≢true (sym e))
    at true false e = refl
    at false false e = refl

adds_own : (s : List ℕ) (id : ℕ) → has (s ++ id ∷ []) id ≡ true
adds_own s id = has-push s id id ∙ or_right (has s id) (eqb id id || false) (or_left (eqb id id) false (eq-eqb id id refl))

adds_others : (s : List ℕ) (id : ℕ) (ids : List ℕ) → has ids id ≡ false → map (has (s ++ id ∷ [])) ids ≡ map (has s) ids
adds_others s id [] fresh = refl
adds_others s id (y ∷ ys) fresh = at (eqb y id) refl fresh (adds_others s id ys)
  where
    at : (c : Bool) → eqb y id ≡ c → (c || has ys id) ≡ false → (has ys id ≡ false → map (has (s ++ id ∷ [])) ys ≡ map (has s) ys)
        → has (s ++ id ∷ []) y ∷ map (has (s ++ id ∷ [])) ys ≡ has s y ∷ map (has s) ys
    at true e fresh rest = absurd (false≢true (sym fresh))
    at false e fresh rest =
        let here : has (s ++ id ∷ []) y ≡ has s y = adds_other s id y (eqb_flip id y ∙ e) in
        let later : map (has (s ++ id ∷ [])) ys ≡ map (has s) ys = rest fresh in
        cc

id_there : (bs : List ReadBlock) (place : ℕ) (b : ReadBlock) → slice_get bs place ≡ Some b → has (ids_of bs) b.id ≡ true
id_there [] place b there = absurd (none-some b there)
id_there (x ∷ xs) zero b there = or_left (eqb x.id b.id) (has (ids_of xs) b.id) (eq-eqb x.id b.id (ap (λ (y : ReadBlock). y.id) (same_Some x b there)))
id_there (x ∷ xs) (suc place) b there = or_right (eqb x.id b.id) (has (ids_of xs) b.id) (id_there xs place b there)

-- one more mark is one more id in the set
adds_mark : (s : List ℕ) (bs : List ReadBlock) (place : ℕ) (b : ReadBlock) → AreApart bs → slice_get bs place ≡ Some b
    → set (map (has s) (ids_of bs)) place true ≡ map (has (s ++ b.id ∷ [])) (ids_of bs)
adds_mark s [] place b apart there = absurd (none-some b there)
adds_mark s (x ∷ xs) zero b apart there =
    let same : x.id ≡ b.id = ap (λ (y : ReadBlock). y.id) (same_Some x b there) in
    let own : has (s ++ b.id ∷ []) x.id ≡ true = ap (has (s ++ b.id ∷ [])) same ∙ adds_own s b.id in
    let others : map (has (s ++ b.id ∷ [])) (ids_of xs) ≡ map (has s) (ids_of xs) = adds_others s b.id (ids_of xs) (ap (has (ids_of xs)) (sym same) ∙ apart.0) in
    cc
adds_mark s (x ∷ xs) (suc place) b apart there =
    let later : set (map (has s) (ids_of xs)) place true ≡ map (has (s ++ b.id ∷ [])) (ids_of xs) = adds_mark s xs place b apart.1 there in
    let here : has (s ++ b.id ∷ []) x.id ≡ has s x.id = adds_other s b.id x.id (at (eqb b.id x.id) refl) in
    cc
  where
    at : (c : Bool) → eqb b.id x.id ≡ c → c ≡ false
    at true e = absurd (false≢true (sym apart.0 ∙ ap (has (ids_of xs)) (sym (eqb-true b.id x.id e)) ∙ id_there xs place b there))
    at false e = refl

-- ---- what was seen of the parents

-- what was seen stays so in a larger set
pub AreSeen-more : (s t : List ℕ) (bs : List ReadBlock) (ns : List ℕ) → ((z : ℕ) → has s z ≡ true → has t z ≡ true) → AreSeen s bs ns → AreSeen t bs ns
AreSeen-more s t [] [] more h = tt
AreSeen-more s t [] (n ∷ ns) more h = absurd h
AreSeen-more s t (b ∷ bs) [] more h = absurd h
AreSeen-more s t (b ∷ bs) (n ∷ ns) more h =
    (all_from (has t) (take n b.parents) (λ z there. more z (all_at (has s) (take n b.parents) z h.0 there)), AreSeen-more s t bs ns more h.1)

-- of a new block no parent was seen
pub AreSeen-push : (s : List ℕ) (bs : List ReadBlock) (ns : List ℕ) (b : ReadBlock) → AreSeen s bs ns → AreSeen s (bs ++ b ∷ []) (ns ++ 0 ∷ [])
AreSeen-push s [] [] b h = (refl, tt)
AreSeen-push s [] (n ∷ ns) b h = absurd h
AreSeen-push s (a ∷ bs) [] b h = absurd h
AreSeen-push s (a ∷ bs) (n ∷ ns) b h = (h.0, AreSeen-push s bs ns b h.1)

-- what was seen at a place
pub seen_there : (s : List ℕ) (bs : List ReadBlock) (ns : List ℕ) (place : ℕ) (parents : List ℕ) (n : ℕ) → AreSeen s bs ns
    → option_map (λ (b : ReadBlock). b.parents) (slice_get bs place) ≡ Some parents → slice_get ns place ≡ Some n → list_all (has s) (take n parents) ≡ true
seen_there s [] [] place parents n h there here = absurd (none-some parents there)
seen_there s [] (m ∷ ns) place parents n h there here = absurd h
seen_there s (b ∷ bs) [] place parents n h there here = absurd h
seen_there s (b ∷ bs) (m ∷ ns) zero parents n h there here =
    let same : b.parents ≡ parents = same_Some b.parents parents there in
    let count : m ≡ n = same_Some m n here in
    ap (λ (ps : List ℕ). list_all (has s) (take n ps)) (sym same) ∙ ap (λ (k : ℕ). list_all (has s) (take k b.parents)) (sym count) ∙ h.0
seen_there s (b ∷ bs) (m ∷ ns) (suc place) parents n h there here = seen_there s bs ns place parents n h.1 there here

-- a new count at a place
AreSeen-set : (s : List ℕ) (bs : List ReadBlock) (ns : List ℕ) (place : ℕ) (parents : List ℕ) (n : ℕ) → AreSeen s bs ns
    → option_map (λ (b : ReadBlock). b.parents) (slice_get bs place) ≡ Some parents → list_all (has s) (take n parents) ≡ true → AreSeen s bs (set ns place n)
AreSeen-set s [] [] place parents n h there all = absurd (none-some parents there)
AreSeen-set s [] (m ∷ ns) place parents n h there all = absurd h
AreSeen-set s (b ∷ bs) [] place parents n h there all = absurd h
AreSeen-set s (b ∷ bs) (m ∷ ns) zero parents n h there all =
    let same : b.parents ≡ parents = same_Some b.parents parents there in
    (ap (λ (ps : List ℕ). list_all (has s) (take n ps)) same ∙ all, h.1)
AreSeen-set s (b ∷ bs) (m ∷ ns) (suc place) parents n h there all = (h.0, AreSeen-set s bs ns place parents n h.1 there all)

pub Marks-see : (m : Marked) (s : List ℕ) (place : ℕ) (parents : List ℕ) (n : ℕ) → option_map (λ (b : ReadBlock). b.parents) (slice_get m.blocks place) ≡ Some parents
    → list_all (has s) (take n parents) ≡ true → Marks m s → Marks (record m { seen = set m.seen place n }) s
Marks-see m s place parents n there all h =
    record { same = h.same; within = h.within; seen = AreSeen-set s m.blocks m.seen place parents n h.seen there all }

-- ---- one more mark

pub Marks-more : (m : Marked) (s : List ℕ) (place : ℕ) (b : ReadBlock) → AreApart m.blocks → slice_get m.blocks place ≡ Some b → Marks m s
    → Marks (record m { marks = set m.marks place true }) (s ++ b.id ∷ [])
Marks-more m s place b apart there h =
    record {
      same = ap (λ (l : List Bool). set l place true) h.same ∙ adds_mark s m.blocks place b apart there;
      within = λ id here. elim (or_cases (has s id) (eqb b.id id || false) (sym (has-push s b.id id) ∙ here)) [
        | inl old ↦ h.within id old
        | inr new ↦ elim (or_cases (eqb b.id id) false new) [
          | inl e ↦ ap (has (ids_of m.blocks)) (sym (eqb-true b.id id e)) ∙ id_there m.blocks place b there
          | inr nowhere ↦ absurd (false≢true nowhere)
        ]
      ];
      seen = AreSeen-more s (s ++ b.id ∷ []) m.blocks m.seen (λ id there. has-push s b.id id ∙ or_left (has s id) (eqb b.id id || false) there) h.seen;
    }

some_of : (p : ReadBlock → Bool) (o : Option ReadBlock) (r : Bool) → option_map p o ≡ Some r → (b : ReadBlock) × (o ≡ Some b) × (p b ≡ r)
some_of p None r h = absurd (none-some r h)
some_of p (Some b) r h = (b, refl, same_Some (p b) r h)

pub first_ready : (p : ReadBlock → Bool) (bs : List ReadBlock) (place : ℕ) (r : Bool) → option_map p (slice_get bs place) ≡ Some r → r ≡ true → find p (take place bs) ≡ None
    → slice_get bs place ≡ find p bs
first_ready p bs place r ready is_so none =
    let block = some_of p (slice_get bs place) r ready in
    block.1 ∙ sym (find_here p bs place block.0 block.1 none (block.2 ∙ is_so))

pub none_ready_more : (p : ReadBlock → Bool) (bs : List ReadBlock) (place : ℕ) (r : Bool) → option_map p (slice_get bs place) ≡ Some r → r ≡ false → find p (take place bs) ≡ None
    → find p (take (place + 1) bs) ≡ None
none_ready_more p bs place r ready isnt none =
    let block = some_of p (slice_get bs place) r ready in
    rw (add-one place) (find_more p bs place block.0 block.1 none (block.2 ∙ isnt))
