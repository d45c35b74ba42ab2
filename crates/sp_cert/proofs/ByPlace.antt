-- Blocks of which each stands behind its parents, under its own id: their graph by places is that by ids.
use Rattle.std.proofs.Common.{◌≡◌, ℕ, zero, suc, ◌<◌, ◌≤◌, Bool, true, false, cond, ◌||◌, not, List, [], ◌∷◌, length, map, take, get_or, refl, sym, ap, subst, ◌∙◌, inl, inr, eqb, Some, arith}
use Rattle.std.specs.Prelude.{find, slice_get}
use Rattle.std.specs.List.{list_all}
use Rattle.std.proofs.Math.ListN.{length-map}
use Rattle.std.proofs.lemmas.Bool.{and_parts, cases_lt, eqb-true, eq-eqb, false_from_ne_true, false≢true, not-true, or_left, or_parts, or_right}
use Rattle.std.proofs.lemmas.List.{get_or-take, length-take}
use Rattle.std.proofs.lemmas.Option.{get_or_from_slice_get, slice_get-get_or, slice_get_within}
use Rattle.sp_block.specs.Block.{ReadBlock}
use Rattle.sp_model.specs.Graph.{AreDistinct, Block as Node, has, IsDownset, keys, parents_of, parents_or_none, Rank, rank_of, rank_or_least}
use Rattle.sp_model.specs.Renaming.{AreRenamed, IsRenamed}
use Rattle.sp_model.specs.Votes.{virt}
use Rattle.sp_model.proofs.Match.{has-map}
use Rattle.sp_model.proofs.Distinct.{complete_distinct}
use Rattle.sp_model.proofs.Pasts.{complete_key}
use Rattle.sp_model.proofs.Renamed.{downset_renamed, virt_renamed}
use Rattle.sp_model.proofs.Sets.{all_at, same_truth}
use Rattle.sp_model.specs.declared.profile.Profile.{Profile}
use Rattle.sp_pool.specs.Kept.{AreApart, graph_in, graph_of, ids_of, node_of, present}
use Rattle.sp_pool.proofs.Profiles.{present_in}
use Rattle.sp_pool.proofs.Parents.{keys-graph_of}
use Rattle.sp_dag.specs.Numbered.{AreInOrder, graph_of as graph_by_place, number_of}
use Rattle.sp_dag.proofs.Ids.{id_of_number, number_of_id}
use Rattle.sp_dag.proofs.Ranked.{downset_numbered, key_in, key_out, keys_are_numbers, parents_numbered, rank_numbered}
use Rattle.sp_dag.proofs.Whole.{AreDistinct-range}
use Rattle.sp_cert.specs.Refusals.{id_at, is_placed, numbered_of, parents_at, table_of}

-- ---- ids

pub has-get_or : (ids : List ℕ) (k : ℕ) → k < length ids → has ids (get_or ids k 0) ≡ true
has-get_or [] k less = absurd (omega arith)
has-get_or (x ∷ xs) zero less = or_left (eqb x x) (has xs x) (eq-eqb x x refl)
has-get_or (x ∷ xs) (suc k) less = or_right (eqb x (get_or xs k 0)) (has xs (get_or xs k 0)) (has-get_or xs k (omega arith))

-- where each id is none of those before it, none stands twice
distinct_ids : (ids : List ℕ) → ((k : ℕ) → k < length ids → has (take k ids) (get_or ids k 0) ≡ false) → AreDistinct ids
distinct_ids [] new = tt
distinct_ids (x ∷ xs) new = (
  false_from_ne_true (has xs x) again,
  distinct_ids xs (λ k less. (or_parts (eqb x (get_or xs k 0)) (has (take k xs) (get_or xs k 0)) (new (suc k) (omega arith))).1),
)
  where
    again : has xs x ≡ true → ⊥
    again there =
        let at : slice_get xs (number_of xs x) ≡ Some x = id_of_number xs x there in
        let inside : number_of xs x < length xs = slice_get_within xs (number_of xs x) x at in
        let same : x ≡ get_or xs (number_of xs x) 0 = sym (get_or_from_slice_get xs (number_of xs x) x 0 at) in
        false≢true (sym (or_parts (eqb x (get_or xs (number_of xs x) 0)) (has (take (number_of xs x) xs) (get_or xs (number_of xs x) 0)) (new (suc (number_of xs x)) (omega arith))).0
        ∙ eq-eqb x (get_or xs (number_of xs x) 0) same)

-- an id that stands before a place
has-take : (ids : List ℕ) (k p : ℕ) → has (take k ids) p ≡ true → has ids p ≡ true
has-take [] zero p there = there
has-take [] (suc k) p there = there
has-take (x ∷ xs) zero p there = absurd (false≢true there)
has-take (x ∷ xs) (suc k) p there = at (eqb x p) there (has-take xs k p)
  where
    at : (c : Bool) → (c || has (take k xs) p) ≡ true → (has (take k xs) p ≡ true → has xs p ≡ true) → (c || has xs p) ≡ true
    at true there rest = refl
    at false there rest = rest there

pub number_before : (ids : List ℕ) (k p : ℕ) → AreDistinct ids → has (take k ids) p ≡ true → number_of ids p < k
number_before ids k p distinct there =
    let m = number_of (take k ids) p in
    let at : slice_get (take k ids) m ≡ Some p = id_of_number (take k ids) p there in
    let inside : m < length (take k ids) = slice_get_within (take k ids) m p at in
    let below : m < k = omega (arith, length-take k ids) in
    let within : m < length ids = omega (arith, length-take k ids) in
    let value : get_or ids m 0 ≡ p = sym (get_or-take k ids m 0 below) ∙ get_or_from_slice_get (take k ids) m p 0 at in
    let number : number_of ids p ≡ m = number_of_id ids p m distinct (slice_get-get_or ids m 0 within ∙ ap (λ (v : ℕ). Some v) value) in
    omega arith

-- ---- parents

pub table_at : (f : ℕ → ℕ) (blocks : List ReadBlock) (z : ℕ) → get_or (map (λ (b : ReadBlock). map f b.parents) blocks) z [] ≡ map f (parents_at blocks z)
table_at f [] zero = refl
table_at f [] (suc z) = refl
table_at f (b ∷ bs) zero = refl
table_at f (b ∷ bs) (suc z) = table_at f bs z

parents_in_graph : (blocks : List ReadBlock) (k : ℕ) → AreApart blocks → k < length blocks → parents_of (graph_of blocks) (id_at blocks k) ≡ parents_at blocks k
parents_in_graph [] k apart less = absurd (omega arith)
parents_in_graph (b ∷ bs) zero apart less = at (eqb b.id b.id) (eq-eqb b.id b.id refl)
  where
    at : (c : Bool) → c ≡ true → parents_or_none (cond c (Some (node_of b)) (find (λ (n : Node). eqb n.key b.id) (map node_of bs))) ≡ b.parents
    at true e = refl
    at false e = absurd (false≢true e)
parents_in_graph (b ∷ bs) (suc k) apart less =
    at (eqb b.id (id_at bs k)) refl (has-get_or (ids_of bs) k (omega (arith, length-map bs (λ (x : ReadBlock). x.id)))) (parents_in_graph bs k apart.1 (omega arith))
  where
    at : (c : Bool) → eqb b.id (id_at bs k) ≡ c → has (ids_of bs) (id_at bs k) ≡ true → parents_of (graph_of bs) (id_at bs k) ≡ parents_at bs k
        → parents_or_none (cond c (Some (node_of b)) (find (λ (n : Node). eqb n.key (id_at bs k)) (map node_of bs))) ≡ parents_at bs k
    at true e there rest = absurd (false≢true (sym apart.0 ∙ ap (has (ids_of bs)) (eqb-true b.id (id_at bs k) e) ∙ there))
    at false e there rest = rest

-- the rank of a block is that of its place
rank_in_graph : (blocks : List ReadBlock) (k : ℕ) → AreApart blocks → k < length blocks
    → rank_of (graph_of blocks) (id_at blocks k) ≡ record { salt = get_or (map (λ (b : ReadBlock). b.salt) blocks) k 0; id = id_at blocks k }
rank_in_graph [] k apart less = absurd (omega arith)
rank_in_graph (b ∷ bs) zero apart less = at (eqb b.id b.id) (eq-eqb b.id b.id refl)
  where
    at : (c : Bool) → c ≡ true → rank_or_least (cond c (Some (node_of b)) (find (λ (n : Node). eqb n.key b.id) (map node_of bs))) ≡ record { salt = b.salt; id = b.id }
    at true e = refl
    at false e = absurd (false≢true e)
rank_in_graph (b ∷ bs) (suc k) apart less =
    at (eqb b.id (id_at bs k)) refl (has-get_or (ids_of bs) k (omega (arith, length-map bs (λ (x : ReadBlock). x.id)))) (rank_in_graph bs k apart.1 (omega arith))
  where
    own : Rank
    own = record { salt = get_or (map (λ (x : ReadBlock). x.salt) bs) k 0; id = id_at bs k }

    at : (c : Bool) → eqb b.id (id_at bs k) ≡ c → has (ids_of bs) (id_at bs k) ≡ true → rank_of (graph_of bs) (id_at bs k) ≡ own
        → rank_or_least (cond c (Some (node_of b)) (find (λ (n : Node). eqb n.key (id_at bs k)) (map node_of bs))) ≡ own
    at true e there rest = absurd (false≢true (sym apart.0 ∙ ap (has (ids_of bs)) (eqb-true b.id (id_at bs k) e) ∙ there))
    at false e there rest = rest

ids_of_numbers : (ids ps : List ℕ) → ((p : ℕ) → has ps p ≡ true → has ids p ≡ true) → map (λ n. get_or ids n 0) (map (number_of ids) ps) ≡ ps
ids_of_numbers ids [] all = refl
ids_of_numbers ids (p ∷ ps) all =
    let here : get_or ids (number_of ids p) 0 ≡ p = get_or_from_slice_get ids (number_of ids p) p 0 (id_of_number ids p (all p (or_left (eqb p p) (has ps p) (eq-eqb p p refl)))) in
    let rest : map (λ n. get_or ids n 0) (map (number_of ids) ps) ≡ ps = ids_of_numbers ids ps (λ q there. all q (or_right (eqb p q) (has ps q) there)) in
    ap (λ (k : ℕ). k ∷ map (λ n. get_or ids n 0) (map (number_of ids) ps)) here ∙ ap (λ (l : List ℕ). p ∷ l) rest

-- ---- each block is placed

module _ (blocks : List ReadBlock) (placed : (k : ℕ) → k < length blocks → is_placed blocks k ≡ true) where
  ids_long : length (ids_of blocks) ≡ length blocks
  ids_long = length-map blocks (λ (b : ReadBlock). b.id)

  pub table_long : length (table_of blocks) ≡ length blocks
  table_long = length-map blocks (λ (b : ReadBlock). map (number_of (ids_of blocks)) b.parents)

  parts : (k : ℕ) → k < length blocks → (list_all (has (take k (ids_of blocks))) (parents_at blocks k) ≡ true) × (not (has (take k (ids_of blocks)) (id_at blocks k)) ≡ true)
  parts k less = and_parts (list_all (has (take k (ids_of blocks))) (parents_at blocks k)) (not (has (take k (ids_of blocks)) (id_at blocks k))) (placed k less)

  pub are_apart : AreApart blocks
  are_apart = distinct_ids (ids_of blocks) (λ k less. not-true (has (take k (ids_of blocks)) (id_at blocks k)) (parts k (omega (arith, ids_long))).1)

  parent_before : (k p : ℕ) → k < length blocks → has (parents_at blocks k) p ≡ true → has (take k (ids_of blocks)) p ≡ true
  parent_before k p less there = all_at (has (take k (ids_of blocks))) (parents_at blocks k) p (parts k less).0 there

  none_beyond : (k : ℕ) → length blocks ≤ k → parents_at blocks k ≡ []
  none_beyond k le = past blocks k le
    where
      past : (bs : List ReadBlock) (k : ℕ) → length bs ≤ k → parents_at bs k ≡ []
      past [] zero le = refl
      past [] (suc k) le = refl
      past (b ∷ bs) zero le = absurd (omega arith)
      past (b ∷ bs) (suc k) le = past bs k (omega arith)

  pub in_order : AreInOrder (table_of blocks)
  in_order z p there =
      let named = has-map (number_of (ids_of blocks)) (parents_at blocks z) p (ap (λ (l : List ℕ). has l p) (sym (table_at (number_of (ids_of blocks)) blocks z)) ∙ there) in
      elim (cases_lt z (length blocks)) [
        | inl less ↦ (let low : number_of (ids_of blocks) named.0 < z = number_before (ids_of blocks) z named.0 are_apart (parent_before z named.0 less named.1) in
            let is : number_of (ids_of blocks) named.0 ≡ p = named.2 in
            omega arith)
        | inr le ↦ absurd (false≢true (ap (λ (l : List ℕ). has l named.0) (sym (none_beyond z le)) ∙ named.1))
      ]

  id_there : (k : ℕ) → k < length blocks → slice_get (ids_of blocks) k ≡ Some (id_at blocks k)
  id_there k less = slice_get-get_or (ids_of blocks) k 0 (omega (arith, ids_long))

  one_to_one : (a b : ℕ) → a < length blocks → b < length blocks → id_at blocks a ≡ id_at blocks b → a ≡ b
  one_to_one a b la lb e =
      sym (number_of_id (ids_of blocks) (id_at blocks a) a are_apart (id_there a la))
      ∙ ap (number_of (ids_of blocks)) e
      ∙ number_of_id (ids_of blocks) (id_at blocks b) b are_apart (id_there b lb)

-- ---- in a profile

module _ (profile : Profile) (blocks : List ReadBlock) (placed : (k : ℕ) → k < length blocks → is_placed blocks k ≡ true) where
  pub key_below : (z : ℕ) → has (keys (graph_by_place (numbered_of profile blocks))) z ≡ true → z < length blocks
  key_below z there =
      elim (cases_lt z (length blocks)) [
        | inl less ↦ less
        | inr le ↦ absurd (false≢true (sym (key_out (numbered_of profile blocks) z (omega (arith, table_long blocks placed))) ∙ there))
      ]

  parents_named : (k : ℕ) → k < length blocks → parents_of (graph_in profile blocks) (id_at blocks k) ≡ map (id_at blocks) (parents_of (graph_by_place (numbered_of profile blocks)) k)
  parents_named k less =
      parents_in_graph blocks k (are_apart blocks placed) less
      ∙ sym (ids_of_numbers (ids_of blocks) (parents_at blocks k) (λ p there. has-take (ids_of blocks) k p (parent_before blocks placed k p less there)))
      ∙ ap (map (id_at blocks)) (sym (parents_numbered (numbered_of profile blocks) k (omega (arith, table_long blocks placed)) ∙ table_at (number_of (ids_of blocks)) blocks k))

  named : IsRenamed (id_at blocks) (graph_by_place (numbered_of profile blocks)) (graph_in profile blocks)
  named = record {
    one_to_one = λ a b ka kb e. one_to_one blocks placed a b (key_below a ka) (key_below b kb) e;
    distinct = subst AreDistinct (sym (keys_are_numbers (numbered_of profile blocks))) (AreDistinct-range 0 (length (table_of blocks)));
    other_distinct = subst (λ (ids : List ℕ). AreDistinct ids) (sym (keys-graph_of blocks)) (are_apart blocks placed);
    into = λ k there.
        ap (λ (ids : List ℕ). has ids (id_at blocks k)) (keys-graph_of blocks) ∙ has-get_or (ids_of blocks) k (let less : k < length blocks = key_below k there in omega (arith, ids_long blocks placed));
    parents = λ k there. parents_named k (key_below k there);
    ranks = λ k there.
        let less : k < length blocks = key_below k there in
        rank_in_graph blocks k (are_apart blocks placed) less ∙ sym (rank_numbered (numbered_of profile blocks) k (omega (arith, table_long blocks placed)));
    profile = refl;
  }

  all_named : AreRenamed (id_at blocks) (keys (graph_by_place (numbered_of profile blocks))) (ids_of blocks)
  all_named = record {
    into = λ k there. has-get_or (ids_of blocks) k (let less : k < length blocks = key_below k there in omega (arith, ids_long blocks placed));
    onto = λ id there.
        let at : slice_get (ids_of blocks) (number_of (ids_of blocks) id) ≡ Some id = id_of_number (ids_of blocks) id there in
        let less : number_of (ids_of blocks) id < length (ids_of blocks) = slice_get_within (ids_of blocks) (number_of (ids_of blocks) id) id at in (
          number_of (ids_of blocks) id,
          key_in (numbered_of profile blocks) (number_of (ids_of blocks) id) (omega (arith, ids_long blocks placed, table_long blocks placed)),
          get_or_from_slice_get (ids_of blocks) (number_of (ids_of blocks) id) id 0 at,
        );
  }

  all_down : IsDownset (graph_in profile blocks) (ids_of blocks)
  all_down =
      downset_renamed (id_at blocks) (graph_by_place (numbered_of profile blocks)) (graph_in profile blocks) named (keys (graph_by_place (numbered_of profile blocks))) (ids_of blocks)
      (downset_numbered (numbered_of profile blocks) (in_order blocks placed)) all_named

  -- all blocks are present
  pub all_present : (id : ℕ) → has (present blocks) id ≡ has (ids_of blocks) id
  all_present id =
      same_truth (has (present blocks) id) (has (ids_of blocks) id)
      (λ there. ap (λ (ids : List ℕ). has ids id) (sym (keys-graph_of blocks)) ∙ complete_key (graph_of blocks) id there)
      (λ there. ap (λ (ids : List ℕ). has ids id) (sym (present_in profile blocks)) ∙ all_down.all_complete id there)

  present_named : AreRenamed (id_at blocks) (keys (graph_by_place (numbered_of profile blocks))) (present blocks)
  present_named = record {
    into = λ k there. all_present (id_at blocks k) ∙ all_named.into k there;
    onto = λ id there. all_named.onto id (sym (all_present id) ∙ there);
  }

  -- their virtual vote on two of them is that of the graph by places
  pub virt_by_place : (x y : ℕ) → has (ids_of blocks) x ≡ true → has (ids_of blocks) y ≡ true
      → virt (graph_in profile blocks) (present blocks) x y
      ≡ virt (graph_by_place (numbered_of profile blocks)) (keys (graph_by_place (numbered_of profile blocks))) (number_of (ids_of blocks) x) (number_of (ids_of blocks) y)
  unfolding all_named
  virt_by_place x y x_in y_in =
      let at_x = all_named.onto x x_in in
      let at_y = all_named.onto y y_in in
      ap (λ (k : ℕ). virt (graph_in profile blocks) (present blocks) k y) (sym at_x.2)
      ∙ ap (λ (k : ℕ). virt (graph_in profile blocks) (present blocks) (id_at blocks (number_of (ids_of blocks) x)) k) (sym at_y.2)
      ∙ virt_renamed (id_at blocks) (graph_by_place (numbered_of profile blocks)) (graph_in profile blocks) named
      (keys (graph_by_place (numbered_of profile blocks))) (present blocks) (number_of (ids_of blocks) x) (number_of (ids_of blocks) y)
      (downset_numbered (numbered_of profile blocks) (in_order blocks placed)) present_named
      named.distinct (complete_distinct (graph_of blocks) named.other_distinct) at_x.1 at_y.1
