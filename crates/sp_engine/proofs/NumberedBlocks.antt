-- The numbered blocks stay kept ones with their parents when a block is kept, and when one is numbered.
use Rattle.std.proofs.Common.{◌≡◌, ℕ, zero, suc, ◌<◌, Bool, true, false, ◌||◌, not, List, [], ◌∷◌, ◌++◌, length, map, get_or, refl, sym, ap, subst, ◌∙◌, inl, inr, eqb, Option, Some, length-append, arith, ◌⊎◌, ◌-◌}
use Rattle.std.specs.Prelude.{find, slice_get, unwrap_or}
use Rattle.std.specs.List.{list_all}
use Rattle.std.proofs.Math.ListN.{get_or-append}
use Rattle.std.proofs.Math.Seq.{get_or-append_seam}
use Rattle.std.proofs.lemmas.Bool.{and_parts, cases_lt, eqb-true, eq-eqb, false≢true, or_cases, or_left, or_right}
use Rattle.std.proofs.lemmas.List.{get_or-append_right}
use Rattle.std.proofs.lemmas.List.Folds.{list_any-append}
use Rattle.std.proofs.lemmas.Option.{slice_get_within}
use Rattle.sp_block.specs.Block.{ReadBlock}
use Rattle.sp_model.specs.Graph.{has, parents_of, Rank, rank_of}
use Rattle.sp_model.proofs.Sets.{all_at, all_from}
use Rattle.sp_pool.specs.Kept.{AreApart, AreKept, graph_of, ids_of, is_ready, IsNext}
use Rattle.sp_pool.proofs.Ranks.{found_rank, rank-push}
use Rattle.sp_pool.proofs.Parents.{found_id, found_parents, found_passes, has-ids-push, parents-new, parents-push}
use Rattle.sp_dag.specs.Numbered.{IsNumbered, number_of, Numbered, with_block}
use Rattle.sp_dag.proofs.Ids.{number_of_stays}
use Rattle.sp_dag.proofs.Indexing.{slice_get-shorter}
use Rattle.sp_engine.specs.Engine.{AreNumbered}

pub has_there : (ids : List ℕ) (id n : ℕ) → slice_get ids n ≡ Some id → has ids id ≡ true
has_there [] id n there = cc
has_there (x ∷ xs) id zero there = (let same : x ≡ id = ap (λ (o : Option ℕ). unwrap_or o 0) there in or_left (eqb x id) (has xs id) (eq-eqb x id same))
has_there (x ∷ xs) id (suc n) there = or_right (eqb x id) (has xs id) (has_there xs id n there)

slice_get-last : (ids : List ℕ) (id i : ℕ) → i ≡ length ids → slice_get (ids ++ id ∷ []) i ≡ Some id
slice_get-last [] id zero e = refl
slice_get-last [] id (suc i) e = absurd (omega arith)
slice_get-last (x ∷ xs) id zero e = absurd (omega arith)
slice_get-last (x ∷ xs) id (suc i) e = slice_get-last xs id i (omega arith)

-- one more id
id_pushed : (ids : List ℕ) (id z : ℕ) → has (ids ++ id ∷ []) z ≡ (has ids z || eqb id z)
id_pushed ids id z = list_any-append (λ k. eqb k z) ids (id ∷ []) ∙ at (has ids z) (eqb id z)
  where
    at : (c d : Bool) → (c || (d || false)) ≡ (c || d)
    at true d = refl
    at false true = refl
    at false false = refl

stays : (ids : List ℕ) (id z : ℕ) → has ids z ≡ true → has (ids ++ id ∷ []) z ≡ true
stays ids id z there = id_pushed ids id z ∙ or_left (has ids z) (eqb id z) there

old_or_new : (ids : List ℕ) (id z : ℕ) → has (ids ++ id ∷ []) z ≡ true → (has ids z ≡ true) ⊎ (id ≡ z)
old_or_new ids id z there = elim (or_cases (has ids z) (eqb id z) (sym (id_pushed ids id z) ∙ there)) [ inl old ↦ inl old | inr new ↦ inr (eqb-true id z new) ]

not_before : (ids : List ℕ) (id z : ℕ) → has (ids ++ id ∷ []) z ≡ false → has ids z ≡ false
not_before ids id z absent = at (has ids z) (stays ids id z)
  where
    at : (c : Bool) → (c ≡ true → has (ids ++ id ∷ []) z ≡ true) → c ≡ false
    at true h = absurd (false≢true (sym absent ∙ h refl))
    at false h = refl

-- a block is kept, which isn't numbered yet
pub AreNumbered-kept : (kept : List ReadBlock) (b : ReadBlock) (blocks : Numbered) → has (ids_of kept) b.id ≡ false → 0 < length b.parents → AreNumbered kept blocks → AreNumbered (kept ++ b ∷ []) blocks
AreNumbered-kept kept b blocks fresh some h =
    record {
      there = λ id in_ids. has-ids-push kept b id ∙ or_left (has (ids_of kept) id) (eqb b.id id) (h.there id in_ids);
      closed = λ id in_ids. ap (list_all (has blocks.ids)) (parents-push kept b id (h.there id in_ids)) ∙ h.closed id in_ids;
      others = λ id in_kept absent. elim (or_cases (has (ids_of kept) id) (eqb b.id id) (sym (has-ids-push kept b id) ∙ in_kept)) [
        | inl old ↦ (let same : length (parents_of (graph_of (kept ++ b ∷ [])) id) ≡ length (parents_of (graph_of kept) id) = ap length (parents-push kept b id old) in
            let before : 0 < length (parents_of (graph_of kept) id) = h.others id old absent in omega (arith, same, before))
        | inr new ↦ (let is : b.id ≡ id = eqb-true b.id id new in
            let same : length (parents_of (graph_of (kept ++ b ∷ [])) id) ≡ length b.parents = ap (λ (z : ℕ). length (parents_of (graph_of (kept ++ b ∷ [])) z)) (sym is) ∙ ap length (parents-new kept b fresh) in
            omega (arith, same, some))
      ];
      parents = λ n id at. h.parents n id at ∙ ap (map (number_of blocks.ids)) (sym (parents-push kept b id (h.there id (has_there blocks.ids id n at))));
      salts = λ n id at. h.salts n id at ∙ sym (ap (λ (r : Rank). r.salt) (rank-push kept b id (h.there id (has_there blocks.ids id n at))));
    }

-- ---- a block is numbered

-- the parents of the block that a look-up by id finds
pub found_by : (kept : List ReadBlock) (id : ℕ) (b : ReadBlock) → AreApart kept → find (λ (x : ReadBlock). eqb x.id id) kept ≡ Some b → parents_of (graph_of kept) id ≡ b.parents
found_by kept id b apart found =
    ap (parents_of (graph_of kept)) (sym (eqb-true b.id id (found_passes (λ (x : ReadBlock). eqb x.id id) kept b found)))
    ∙ found_parents (λ (x : ReadBlock). eqb x.id id) kept b apart found

-- and its salt
pub found_salt : (kept : List ReadBlock) (id : ℕ) (b : ReadBlock) → AreApart kept → find (λ (x : ReadBlock). eqb x.id id) kept ≡ Some b → (rank_of (graph_of kept) id).salt ≡ b.salt
found_salt kept id b apart found =
    ap (λ (i : ℕ). (rank_of (graph_of kept) i).salt) (sym (eqb-true b.id id (found_passes (λ (x : ReadBlock). eqb x.id id) kept b found)))
    ∙ ap (λ (r : Rank). r.salt) (found_rank (λ (x : ReadBlock). eqb x.id id) kept b apart found)

module _ {kept : List ReadBlock} {set : List ℕ} {id : ℕ} where
  pub next_parents : AreApart kept → (h : IsNext kept set id) → parents_of (graph_of kept) id ≡ h.block.parents
  next_parents apart h = ap (parents_of (graph_of kept)) (sym h.same) ∙ found_parents (is_ready set) kept h.block apart h.earliest

  pub next_kept : IsNext kept set id → has (ids_of kept) id ≡ true
  next_kept h = ap (has (ids_of kept)) (sym h.same) ∙ found_id (is_ready set) kept h.block h.earliest

  ready : (h : IsNext kept set id) → (not (has set h.block.id) ≡ true) × (list_all (has set) h.block.parents ≡ true)
  ready h = and_parts (not (has set h.block.id)) (list_all (has set) h.block.parents) (found_passes (is_ready set) kept h.block h.earliest)

  pub next_fresh : IsNext kept set id → has set id ≡ false
  next_fresh h = ap (has set) (sym h.same) ∙ isnt (has set h.block.id) (ready h).0
    where
      isnt : (c : Bool) → not c ≡ true → c ≡ false
      isnt true e = absurd (false≢true e)
      isnt false e = refl

  pub next_closed : AreApart kept → IsNext kept set id → list_all (has set) (parents_of (graph_of kept) id) ≡ true
  next_closed apart h = ap (list_all (has set)) (next_parents apart h) ∙ (ready h).1

map_same : (f g : ℕ → ℕ) (xs : List ℕ) → ((x : ℕ) → has xs x ≡ true → f x ≡ g x) → map f xs ≡ map g xs
map_same f g [] h = refl
map_same f g (x ∷ xs) h =
    let here : f x ≡ g x = h x (or_left (eqb x x) (has xs x) (eq-eqb x x refl)) in
    let rest : map f xs ≡ map g xs = map_same f g xs (λ y there. h y (or_right (eqb x y) (has xs y) there)) in
    cc

numbers_stay : (ids : List ℕ) (id : ℕ) (ps : List ℕ) → list_all (has ids) ps ≡ true → map (number_of ids) ps ≡ map (number_of (ids ++ id ∷ [])) ps
numbers_stay ids id ps all = map_same (number_of ids) (number_of (ids ++ id ∷ [])) ps (λ p there. sym (number_of_stays ids p id (all_at (has ids) ps p all there)))

pub AreNumbered-more : (kept : List ReadBlock) (blocks after : Numbered) (id salt : ℕ) (parents : List ℕ) → AreKept kept → IsNumbered blocks → AreNumbered kept blocks → IsNext kept blocks.ids id
    → parents_of (graph_of kept) id ≡ parents → (rank_of (graph_of kept) id).salt ≡ salt → after ≡ with_block blocks id salt parents → AreNumbered kept after
AreNumbered-more kept blocks after id salt parents k n h next is is_salt e = subst (λ (x : Numbered). AreNumbered kept x) (sym e) grown
  where
    closed_more : (ps : List ℕ) → list_all (has blocks.ids) ps ≡ true → list_all (has (blocks.ids ++ id ∷ [])) ps ≡ true
    closed_more ps all = all_from (has (blocks.ids ++ id ∷ [])) ps (λ p there. stays blocks.ids id p (all_at (has blocks.ids) ps p all there))

    all_closed : (z : ℕ) → has (blocks.ids ++ id ∷ []) z ≡ true → list_all (has blocks.ids) (parents_of (graph_of kept) z) ≡ true
    all_closed z there = elim (old_or_new blocks.ids id z there) [
      | inl old ↦ h.closed z old
      | inr new ↦ ap (λ (y : ℕ). list_all (has blocks.ids) (parents_of (graph_of kept) y)) (sym new) ∙ next_closed k.apart next
    ]

    entry : (m z : ℕ) → slice_get (blocks.ids ++ id ∷ []) m ≡ Some z → get_or (blocks.parents ++ map (number_of blocks.ids) parents ∷ []) m [] ≡ map (number_of blocks.ids) (parents_of (graph_of kept) z)
    entry m z at = elim (cases_lt m (length blocks.ids)) [
      | inl less ↦ (let inside : m < length blocks.parents = omega (arith, n.long) in
          get_or-append blocks.parents (map (number_of blocks.ids) parents ∷ []) [] m inside ∙ h.parents m z (slice_get-shorter blocks.ids (id ∷ []) m z at less))
      | inr high ↦ (let within : m < length (blocks.ids ++ id ∷ []) = slice_get_within (blocks.ids ++ id ∷ []) m z at in
          let last : m ≡ length blocks.ids = omega (arith, length-append blocks.ids (id ∷ [])) in
          let same : id ≡ z = ap (λ (o : Option ℕ). unwrap_or o 0) (sym (slice_get-last blocks.ids id m last) ∙ at) in
          get_or-append_right blocks.parents (map (number_of blocks.ids) parents ∷ []) (length blocks.ids) m [] (sym n.long) (omega arith)
          ∙ ap (λ (i : ℕ). get_or (map (number_of blocks.ids) parents ∷ []) i []) (let none : m - length blocks.ids ≡ 0 = omega arith in none)
          ∙ ap (map (number_of blocks.ids)) (sym is ∙ ap (parents_of (graph_of kept)) same))
    ]

    salt_at : (m z : ℕ) → slice_get (blocks.ids ++ id ∷ []) m ≡ Some z → get_or (blocks.salts ++ salt ∷ []) m 0 ≡ (rank_of (graph_of kept) z).salt
    salt_at m z at = elim (cases_lt m (length blocks.ids)) [
      | inl less ↦ (let inside : m < length blocks.salts = omega (arith, n.long, n.salts_long) in
          get_or-append blocks.salts (salt ∷ []) 0 m inside ∙ h.salts m z (slice_get-shorter blocks.ids (id ∷ []) m z at less))
      | inr high ↦ (let within : m < length (blocks.ids ++ id ∷ []) = slice_get_within (blocks.ids ++ id ∷ []) m z at in
          let last : m ≡ length blocks.ids = omega (arith, length-append blocks.ids (id ∷ [])) in
          let at_end : m ≡ length blocks.salts = omega (arith, last, n.long, n.salts_long) in
          let same : id ≡ z = ap (λ (o : Option ℕ). unwrap_or o 0) (sym (slice_get-last blocks.ids id m last) ∙ at) in
          ap (λ (i : ℕ). get_or (blocks.salts ++ salt ∷ []) i 0) at_end ∙ get_or-append_seam blocks.salts salt [] 0
          ∙ sym is_salt ∙ ap (λ (i : ℕ). (rank_of (graph_of kept) i).salt) same)
    ]

    grown : AreNumbered kept (with_block blocks id salt parents)
    grown = record {
      there = λ z there. elim (old_or_new blocks.ids id z there) [
        | inl old ↦ h.there z old
        | inr new ↦ ap (has (ids_of kept)) (sym new) ∙ next_kept next
      ];
      closed = λ z there. closed_more (parents_of (graph_of kept) z) (all_closed z there);
      others = λ z in_kept absent. h.others z in_kept (not_before blocks.ids id z absent);
      salts = salt_at;
      parents = λ m z at. entry m z at ∙ numbers_stay blocks.ids id (parents_of (graph_of kept) z) (all_closed z (has_there (blocks.ids ++ id ∷ []) z m at));
    }
