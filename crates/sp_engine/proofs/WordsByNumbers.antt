-- The word of two present blocks is that of their numbers, and is read off the table of votes.
use Rattle.std.proofs.Common.{◌≡◌, ◌<◌, ◌⊎◌, ℕ, zero, suc, Bool, true, false, cond, not, ◌&&◌, List, [], ◌∷◌, length, map, get_or, refl, sym, ap, subst, ◌∙◌, inl, inr, eqb, Option, Some, arith}
use Rattle.std.specs.Prelude.{slice_get, unwrap_or}
use Rattle.std.specs.List.{list_all}
use Rattle.std.proofs.lemmas.Bool.{and_parts, cases_lt, eq-eqb, false≢true, ne_eqb, or_left, or_right}
use Rattle.std.proofs.lemmas.Option.{get_or_from_slice_get, slice_get-get_or, slice_get_within}
use Rattle.sp_block.specs.Block.{ReadBlock}
use Rattle.sp_model.specs.declared.profile.Profile.{Profile}
use Rattle.sp_model.specs.declared.profile.Profile.TheVariants.{One}
use Rattle.sp_model.specs.Graph.{AreDistinct, has, IsDownset, keys, parents_of, rank_of}
use Rattle.sp_model.specs.Renaming.{AreRenamed, IsRenamed}
use Rattle.sp_model.specs.Votes.{virt, word, word_of}
use Rattle.sp_model.specs.declared.word.Word.{Word}
use Rattle.sp_model.specs.declared.word.Word.TheVariants.{Absent, Same}
use Rattle.sp_model.proofs.Renamed.{word_renamed}
use Rattle.sp_pool.specs.Kept.{AreKept, graph_in, graph_of, present}
use Rattle.sp_pool.proofs.Parents.{keys-graph_of}
use Rattle.sp_pool.proofs.Ranks.{rank_id}
use Rattle.sp_dag.specs.Numbered.{graph_of as numbered_graph, IsNumbered, number_of, Numbered}
use Rattle.sp_dag.proofs.Ids.{id_of_number, number_of_id}
use Rattle.sp_dag.proofs.Ranked.{key_in, key_out, downset_numbered, IsGraph_numbered, keys_are_numbers, parents_numbered, rank_numbered}
use Rattle.sp_engine.specs.Engine.{AreNumbered, numbers}
use Rattle.sp_engine.proofs.Counts.{AreDistinct-present}

-- ---- words by their tests

-- the word of a block that isn't in the set, of a block and itself, and of two others
absent_by : (c d e : Bool) (other : Word) → (c ≡ false) ⊎ (d ≡ false) → cond (not (c && d)) Absent (cond e Same other) ≡ Absent
absent_by true true e other h = elim h [ inl f ↦ absurd (false≢true (sym f)) | inr f ↦ absurd (false≢true (sym f)) ]
absent_by true false e other h = refl
absent_by false d e other h = refl

same_by : (c e : Bool) (other : Word) → c ≡ true → e ≡ true → cond (not (c && c)) Absent (cond e Same other) ≡ Same
same_by c e other there same = rw (there, same) refl

apart_by : (c d e : Bool) (other : Word) → c ≡ true → d ≡ true → e ≡ false → cond (not (c && d)) Absent (cond e Same other) ≡ other
apart_by c d e other here there apart = rw (here, there, apart) refl

-- a block that isn't present has no word
pub word_absent : (profile : Profile) (kept : List ReadBlock) (x y : ℕ) → (has (present kept) x ≡ false) ⊎ (has (present kept) y ≡ false) → word (graph_in profile kept) (present kept) x y ≡ Absent
word_absent profile kept x y h =
    absent_by (has (present kept) x) (has (present kept) y) (eqb x y) (word_of (virt (graph_in profile kept) (present kept) x y)) h

-- a present block and itself are the same
pub word_same : (profile : Profile) (kept : List ReadBlock) (x : ℕ) → has (present kept) x ≡ true → word (graph_in profile kept) (present kept) x x ≡ Same
word_same profile kept x there =
    same_by (has (present kept) x) (eqb x x) (word_of (virt (graph_in profile kept) (present kept) x x)) there (eq-eqb x x refl)

-- ---- ids and numbers

-- what stands in a list is a member
pub has-slice_get : (ids : List ℕ) (id n : ℕ) → slice_get ids n ≡ Some id → has ids id ≡ true
has-slice_get [] id n there = cc
has-slice_get (x ∷ xs) id zero there =
    (let same : x ≡ id = ap (λ (o : Option ℕ). unwrap_or o 0) there in or_left (eqb x id) (has xs id) (eq-eqb x id same))
has-slice_get (x ∷ xs) id (suc n) there = or_right (eqb x id) (has xs id) (has-slice_get xs id n there)

-- the ids of the numbers of ids are those ids
ids_of_numbers : (ids ps : List ℕ) → list_all (has ids) ps ≡ true → map (λ n. get_or ids n 0) (map (number_of ids) ps) ≡ ps
ids_of_numbers ids [] all = refl
ids_of_numbers ids (p ∷ ps) all =
    let parts : (has ids p ≡ true) × (list_all (has ids) ps ≡ true) = and_parts (has ids p) (list_all (has ids) ps) all in
    let here : get_or ids (number_of ids p) 0 ≡ p = get_or_from_slice_get ids (number_of ids p) p 0 (id_of_number ids p parts.0) in
    let rest : map (λ n. get_or ids n 0) (map (number_of ids) ps) ≡ ps = ids_of_numbers ids ps parts.1 in
    ap (λ (k : ℕ). k ∷ map (λ n. get_or ids n 0) (map (number_of ids) ps)) here ∙ ap (λ (l : List ℕ). p ∷ l) rest

-- a key of the numbered graph is a number of a block, and the number of each is
key_below : (table : Numbered) (z : ℕ) → has (keys (numbered_graph table)) z ≡ true → z < length table.parents
key_below table z there =
    elim (cases_lt z (length table.parents)) [
      | inl less ↦ less
      | inr le ↦ absurd (false≢true (sym (key_out table z le) ∙ there))
    ]

pub number_in : (blocks : Numbered) (n : ℕ) → n < length blocks.parents → has (numbers blocks) n ≡ true
number_in blocks n less = sym (ap (λ (l : List ℕ). has l n) (keys_are_numbers blocks)) ∙ key_in blocks n less

pub number_below : (blocks : Numbered) (n : ℕ) → has (numbers blocks) n ≡ true → n < length blocks.parents
number_below blocks n there = key_below blocks n (ap (λ (l : List ℕ). has l n) (keys_are_numbers blocks) ∙ there)

-- ---- the graph of the kept blocks is that of the numbered ones under their ids

module _ (kept : List ReadBlock) (blocks : Numbered) (are : AreKept kept) (is : IsNumbered blocks) (numbered : AreNumbered kept blocks) where
  abbrev id_at : ℕ → ℕ
  id_at n = get_or blocks.ids n 0

  id_there : (n : ℕ) → n < length blocks.parents → slice_get blocks.ids n ≡ Some (id_at n)
  id_there n less = slice_get-get_or blocks.ids n 0 (omega (arith, is.long))

  id_in : (n : ℕ) → n < length blocks.parents → has blocks.ids (id_at n) ≡ true
  id_in n less = has-slice_get blocks.ids (id_at n) n (id_there n less)

  one_to_one : (a b : ℕ) → a < length blocks.parents → b < length blocks.parents → id_at a ≡ id_at b → a ≡ b
  one_to_one a b la lb e =
      sym (number_of_id blocks.ids (id_at a) a is.distinct (id_there a la))
      ∙ ap (number_of blocks.ids) e
      ∙ number_of_id blocks.ids (id_at b) b is.distinct (id_there b lb)

  parents_at : (n : ℕ) → n < length blocks.parents → parents_of (graph_of kept) (id_at n) ≡ map id_at (parents_of (numbered_graph blocks) n)
  parents_at n less =
      sym (ap (map id_at) (parents_numbered blocks n less ∙ numbered.parents n (id_at n) (id_there n less))
      ∙ ids_of_numbers blocks.ids (parents_of (graph_of kept) (id_at n)) (numbered.closed (id_at n) (id_in n less)))

  rank_of_id : (n : ℕ) → n < length blocks.parents → rank_of (graph_of kept) (id_at n) ≡ rank_of (numbered_graph blocks) n
  rank_of_id n less =
      let salt_is : (rank_of (graph_of kept) (id_at n)).salt ≡ get_or blocks.salts n 0 = sym (numbered.salts n (id_at n) (id_there n less)) in
      let id_is : (rank_of (graph_of kept) (id_at n)).id ≡ id_at n = rank_id One kept (id_at n) (numbered.there (id_at n) (id_in n less)) in
      (λ k. record { salt = salt_is k; id = id_is k }) ∙ sym (rank_numbered blocks n less)

  pub IsRenamed-ids : IsRenamed id_at (numbered_graph blocks) (graph_in blocks.profile kept)
  IsRenamed-ids = record {
    one_to_one = λ a b ka kb e. one_to_one a b (key_below blocks a ka) (key_below blocks b kb) e;
    distinct = (IsGraph_numbered blocks is).distinct;
    other_distinct = subst (λ (ids : List ℕ). AreDistinct ids) (sym (keys-graph_of kept)) are.apart;
    into = λ k there.
        ap (λ (ids : List ℕ). has ids (id_at k)) (keys-graph_of kept) ∙ numbered.there (id_at k) (id_in k (key_below blocks k there));
    parents = λ k there. parents_at k (key_below blocks k there);
    ranks = λ k there. rank_of_id k (key_below blocks k there);
    profile = refl;
  }

  pub AreRenamed-ids : ((id : ℕ) → has blocks.ids id ≡ has (present kept) id) → AreRenamed id_at (numbers blocks) (present kept)
  AreRenamed-ids same = record {
    into = λ k there. sym (same (id_at k)) ∙ id_in k (number_below blocks k there);
    onto = λ id there.
        let inside : has blocks.ids id ≡ true = same id ∙ there in
        let at : slice_get blocks.ids (number_of blocks.ids id) ≡ Some id = id_of_number blocks.ids id inside in
        let less : number_of blocks.ids id < length blocks.ids = slice_get_within blocks.ids (number_of blocks.ids id) id at in (
          number_of blocks.ids id,
          number_in blocks (number_of blocks.ids id) (omega (arith, is.long)),
          get_or_from_slice_get blocks.ids (number_of blocks.ids id) id 0 at,
        );
  }

  word_of_ids : (m n : ℕ) → ((id : ℕ) → has blocks.ids id ≡ has (present kept) id) → m < length blocks.parents → n < length blocks.parents
      → word (graph_in blocks.profile kept) (present kept) (id_at m) (id_at n) ≡ word (numbered_graph blocks) (numbers blocks) m n
  word_of_ids m n same lm ln =
      word_renamed id_at (numbered_graph blocks) (graph_in blocks.profile kept) IsRenamed-ids (numbers blocks) (present kept) m n
      (subst (λ (l : List ℕ). IsDownset (numbered_graph blocks) l) (keys_are_numbers blocks) (downset_numbered blocks is.order))
      (AreRenamed-ids same)
      (subst (λ (l : List ℕ). AreDistinct l) (keys_are_numbers blocks) (IsGraph_numbered blocks is).distinct)
      (AreDistinct-present kept are.apart)
      (key_in blocks m lm) (key_in blocks n ln)

-- the word of two present blocks is that of their numbers
pub word_by_numbers : (kept : List ReadBlock) (blocks : Numbered) (x y m n : ℕ) → AreKept kept → IsNumbered blocks → AreNumbered kept blocks
    → ((id : ℕ) → has blocks.ids id ≡ has (present kept) id) → slice_get blocks.ids m ≡ Some x → slice_get blocks.ids n ≡ Some y
    → word (graph_in blocks.profile kept) (present kept) x y ≡ word (numbered_graph blocks) (numbers blocks) m n
word_by_numbers kept blocks x y m n are is numbered same at_x at_y =
    let lm : m < length blocks.ids = slice_get_within blocks.ids m x at_x in
    let ln : n < length blocks.ids = slice_get_within blocks.ids n y at_y in
    ap (λ (k : ℕ). word (graph_in blocks.profile kept) (present kept) k y) (sym (get_or_from_slice_get blocks.ids m x 0 at_x))
    ∙ ap (λ (k : ℕ). word (graph_in blocks.profile kept) (present kept) (get_or blocks.ids m 0) k) (sym (get_or_from_slice_get blocks.ids n y 0 at_y))
    ∙ word_of_ids kept blocks are is numbered m n same (omega (arith, is.long)) (omega (arith, is.long))

-- ---- words by votes

-- the word of two different numbers is what their virtual vote says
word_of_numbers : (blocks : Numbered) (m n : ℕ) → m < length blocks.parents → n < length blocks.parents → (m ≡ n → ⊥)
    → word (numbered_graph blocks) (numbers blocks) m n ≡ word_of (virt (numbered_graph blocks) (numbers blocks) m n)
word_of_numbers blocks m n lm ln apart =
    apart_by (has (numbers blocks) m) (has (numbers blocks) n) (eqb m n) (word_of (virt (numbered_graph blocks) (numbers blocks) m n))
    (number_in blocks m lm) (number_in blocks n ln) (ne_eqb m n apart)

-- the word of two different present blocks is what the virtual vote on their numbers says
pub word_by_vote : (kept : List ReadBlock) (blocks : Numbered) (x y m n : ℕ) → AreKept kept → IsNumbered blocks → AreNumbered kept blocks
    → ((id : ℕ) → has blocks.ids id ≡ has (present kept) id)
    → slice_get blocks.ids m ≡ Some x → slice_get blocks.ids n ≡ Some y → m < length blocks.parents → n < length blocks.parents → (m ≡ n → ⊥)
    → word (graph_in blocks.profile kept) (present kept) x y ≡ word_of (virt (numbered_graph blocks) (numbers blocks) m n)
word_by_vote kept blocks x y m n are is numbered same at_x at_y lm ln apart =
    word_by_numbers kept blocks x y m n are is numbered same at_x at_y ∙ word_of_numbers blocks m n lm ln apart

-- and where the numbers are the same, the blocks are
pub word_at_one : (profile : Profile) (kept : List ReadBlock) (blocks : Numbered) (x y m n : ℕ) → ((id : ℕ) → has blocks.ids id ≡ has (present kept) id)
    → slice_get blocks.ids m ≡ Some x → slice_get blocks.ids n ≡ Some y → m ≡ n → word (graph_in profile kept) (present kept) x y ≡ Same
word_at_one profile kept blocks x y m n same at_x at_y one =
    let e : x ≡ y = sym (get_or_from_slice_get blocks.ids m x 0 at_x) ∙ ap (λ (k : ℕ). get_or blocks.ids k 0) one ∙ get_or_from_slice_get blocks.ids n y 0 at_y in
    ap (λ (k : ℕ). word (graph_in profile kept) (present kept) x k) (sym e)
    ∙ word_same profile kept x (sym (same x) ∙ has-slice_get blocks.ids x m at_x)
