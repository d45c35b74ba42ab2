-- The present blocks are listed: genesis first, each behind its parents, so that their places are their numbers.
use Rattle.std.proofs.Common.{◌≡◌, ℕ, suc, ◌<◌, Bool, true, false, cond, ◌&&◌, not, List, [], ◌∷◌, length, map, take, get_or, refl, sym, ap, subst, ◌∙◌, inl, inr, eqb, Some, arith}
use Rattle.std.specs.Prelude.{All, Err, find, IfOk, Ok, Result, slice_get}
use Rattle.std.specs.List.{list_all}
use Rattle.std.proofs.lemmas.Bool.{and_from, and_parts, eq-eqb, eqb-true, false_from_ne_true, false≢true, or_cases, or_left, or_right}
use Rattle.std.proofs.lemmas.List.{get_or_default, get_or-map, get_or-take, length-map, length-take, same_lists}
use Rattle.std.proofs.lemmas.Option.{get_or_from_slice_get, none-some, same_Some, slice_get-get_or, slice_get_within}
use Rattle.sp_block.specs.Block.{IsBlock, IsGenesis, IsOther, ReadBlock}
use Rattle.sp_block.proofs.Whole.{genesis_by_parents, other_by_parents}
use Rattle.sp_model.specs.declared.profile.Profile.{Profile}
use Rattle.sp_model.specs.Graph.{AreDistinct, has, IsDownset, keys, parents_of, rank_of}
use Rattle.sp_model.specs.Votes.{virt}
use Rattle.sp_model.proofs.Renamed.{virt_renamed}
use Rattle.sp_model.proofs.Sets.{all_at, all_from}
use Rattle.sp_pool.specs.Kept.{AreKept, graph_in, graph_of, ids_of, present}
use Rattle.sp_dag.specs.Numbered.{graph_of as graph_by_place, IsNumbered, number_of, Numbered}
use Rattle.sp_dag.proofs.Ids.{id_of_number, number_of_id}
use Rattle.sp_dag.proofs.Ranked.{IsGraph_numbered, downset_numbered, key_in, keys_are_numbers}
use Rattle.sp_engine.specs.Engine.{AreNumbered, numbers}
use Rattle.sp_engine.proofs.Counts.{AreDistinct-present}
use Rattle.sp_engine.proofs.NumberedBlocks.{found_by, found_salt}
use Rattle.sp_engine.proofs.WordsByNumbers.{AreRenamed-ids, has-slice_get, IsRenamed-ids}
use Rattle.sp_cert.specs.Certificate.{AreListed, Certificate}
use Rattle.sp_cert.specs.Refusals.{are_two, id_at, is_placed, IsFound, IsShown, numbered_of, parents_at, table_of}
use Rattle.sp_cert.proofs.ByPlace.{number_before, table_at, virt_by_place}
use Rattle.sp_cert.proofs.Joining.{same_numbered}

-- a block that a search finds is one of the list
found_in : (P : ReadBlock → Type 0) (p : ReadBlock → Bool) (kept : List ReadBlock) (b : ReadBlock) → find p kept ≡ Some b → All P kept → P b
found_in P p [] b found all = absurd (none-some b found)
found_in P p (a ∷ rest) b found all = at (p a) found (λ h. found_in P p rest b h (λ k d less. all (suc k) d (omega arith)))
  where
    at : (c : Bool) → cond c (Some a) (find p rest) ≡ Some b → (find p rest ≡ Some b → P b) → P b
    at true h later = subst P (same_Some a b h) (all 0 a (omega arith))
    at false h later = later h

has_mapped : (f : ℕ → ℕ) (xs : List ℕ) (p : ℕ) → has xs p ≡ true → has (map f xs) (f p) ≡ true
has_mapped f [] p h = absurd (false≢true h)
has_mapped f (x ∷ xs) p h =
    elim (or_cases (eqb x p) (has xs p) h) [
      | inl here ↦ or_left (eqb (f x) (f p)) (has (map f xs) (f p)) (eq-eqb (f x) (f p) (ap f (eqb-true x p here)))
      | inr later ↦ or_right (eqb (f x) (f p)) (has (map f xs) (f p)) (has_mapped f xs p later)
    ]

-- an id with a lower number stands before
before_number : (ids : List ℕ) (k p : ℕ) → has ids p ≡ true → number_of ids p < k → has (take k ids) p ≡ true
before_number ids k p there less =
    let at : slice_get ids (number_of ids p) ≡ Some p = id_of_number ids p there in
    let inside : number_of ids p < length ids = slice_get_within ids (number_of ids p) p at in
    has-slice_get (take k ids) p (number_of ids p)
    (slice_get-get_or (take k ids) (number_of ids p) 0 (omega (arith, length-take k ids))
    ∙ ap (λ (v : ℕ). Some v) (get_or-take k ids (number_of ids p) 0 less ∙ get_or_from_slice_get ids (number_of ids p) p 0 at))

module _ (kept : List ReadBlock) (dag : Numbered) (blocks : List ReadBlock) (are : AreKept kept) (is : IsNumbered dag) (numbered : AreNumbered kept dag)
    (ids : ids_of blocks ≡ dag.ids) (found : All (IsFound kept) blocks) where
  long : length blocks ≡ length dag.parents
  long = sym (length-map blocks (λ (b : ReadBlock). b.id)) ∙ ap length ids ∙ is.long

  at_place : (k : ℕ) → k < length blocks → slice_get dag.ids k ≡ Some (id_at blocks k)
  at_place k less = slice_get-get_or dag.ids k 0 (omega (arith, long, is.long)) ∙ ap (λ (l : List ℕ). Some (get_or l k 0)) (sym ids)

  there : (k : ℕ) → k < length blocks → has dag.ids (id_at blocks k) ≡ true
  there k less = has-slice_get dag.ids (id_at blocks k) k (at_place k less)

  -- a block's parents are those of the graph
  parents_are : (k : ℕ) → k < length blocks → parents_of (graph_of kept) (id_at blocks k) ≡ parents_at blocks k
  parents_are k less =
      let d : ReadBlock = are.genesis in
      let b = get_or blocks k d in
      ap (parents_of (graph_of kept)) (get_or-map (λ (x : ReadBlock). x.id) blocks k d 0 less)
      ∙ found_by kept b.id b are.apart (found k d less)
      ∙ sym (get_or-map (λ (x : ReadBlock). x.parents) blocks k d [] less)

  row_is : (k : ℕ) → k < length blocks → get_or dag.parents k [] ≡ map (number_of dag.ids) (parents_at blocks k)
  row_is k less = numbered.parents k (id_at blocks k) (at_place k less) ∙ ap (map (number_of dag.ids)) (parents_are k less)

  salt_is : (k : ℕ) (d : ReadBlock) → k < length blocks → get_or dag.salts k 0 ≡ (get_or blocks k d).salt
  salt_is k d less =
      let b = get_or blocks k d in
      numbered.salts k (id_at blocks k) (at_place k less)
      ∙ ap (λ (i : ℕ). (rank_of (graph_of kept) i).salt) (get_or-map (λ (x : ReadBlock). x.id) blocks k d 0 less)
      ∙ found_salt kept b.id b are.apart (found k d less)

  salts_are : dag.salts ≡ map (λ (b : ReadBlock). b.salt) blocks
  salts_are =
      same_lists dag.salts (map (λ (b : ReadBlock). b.salt) blocks) (is.salts_long ∙ sym (length-map blocks (λ (b : ReadBlock). b.salt) ∙ long))
      (λ k d less.
      let inside : k < length blocks = omega (arith, long, is.salts_long) in
      get_or_default dag.salts k d 0 less ∙ salt_is k are.genesis inside ∙ sym (get_or-map (λ (x : ReadBlock). x.salt) blocks k are.genesis d inside))

  pub tables_are : dag ≡ numbered_of dag.profile blocks
  tables_are =
      same_numbered dag (numbered_of dag.profile blocks) refl (sym ids) salts_are
      (same_lists dag.parents (table_of blocks) (sym (length-map blocks (λ (b : ReadBlock). map (number_of (ids_of blocks)) b.parents) ∙ long))
      (λ k d less.
      let inside : k < length blocks = omega (arith, long) in
      get_or_default dag.parents k d [] less ∙ row_is k inside ∙ ap (λ (l : List ℕ). map (number_of l) (parents_at blocks k)) (sym ids)
      ∙ sym (table_at (number_of (ids_of blocks)) blocks k)
      ∙ get_or_default (table_of blocks) k [] d (omega (arith, inside, length-map blocks (λ (b : ReadBlock). map (number_of (ids_of blocks)) b.parents)))))

  known : (k p : ℕ) → k < length blocks → has (parents_at blocks k) p ≡ true → has dag.ids p ≡ true
  known k p less parent =
      all_at (has dag.ids) (parents_of (graph_of kept) (id_at blocks k)) p (numbered.closed (id_at blocks k) (there k less))
      (ap (λ (l : List ℕ). has l p) (parents_are k less) ∙ parent)

  lower : (k p : ℕ) → k < length blocks → has (parents_at blocks k) p ≡ true → number_of dag.ids p < k
  lower k p less parent =
      is.order k (number_of dag.ids p) (ap (λ (l : List ℕ). has l (number_of dag.ids p)) (row_is k less) ∙ has_mapped (number_of dag.ids) (parents_at blocks k) p parent)

  pub all_placed : (k : ℕ) → k < length blocks → is_placed blocks k ≡ true
  all_placed k less =
      subst (λ (l : List ℕ). (list_all (has (take k l)) (parents_at blocks k) && not (has (take k l) (id_at blocks k))) ≡ true) (sym ids)
      (and_from (list_all (has (take k dag.ids)) (parents_at blocks k)) (not (has (take k dag.ids) (id_at blocks k)))
      (all_from (has (take k dag.ids)) (parents_at blocks k) (λ p parent. before_number dag.ids k p (known k p less parent) (lower k p less parent)))
      (ap not (false_from_ne_true (has (take k dag.ids) (id_at blocks k))
      (λ again.
      let low : number_of dag.ids (id_at blocks k) < k = number_before dag.ids k (id_at blocks k) is.distinct again in
      let same : number_of dag.ids (id_at blocks k) ≡ k = number_of_id dag.ids (id_at blocks k) k is.distinct (at_place k less) in
      omega arith))))

  pub each_block : (k : ℕ) (d : ReadBlock) → k < length blocks → IsBlock (get_or blocks k d)
  each_block k d less = found_in IsBlock (λ (x : ReadBlock). eqb x.id (get_or blocks k d).id) kept (get_or blocks k d) (found k d less) are.are_blocks

  parents_long : (k : ℕ) (d : ReadBlock) → k < length blocks → length (get_or blocks k d).parents ≡ length (get_or dag.parents k [])
  parents_long k d less =
      ap length (sym (get_or-map (λ (x : ReadBlock). x.parents) blocks k d [] less))
      ∙ sym (ap length (row_is k less) ∙ length-map (parents_at blocks k) (number_of dag.ids))

  pub are_listed : AreListed blocks
  are_listed = by blocks refl
    where
      some : 0 < length blocks
      some = omega (arith, long, is.some)

      by : (bs : List ReadBlock) → bs ≡ blocks → AreListed blocks
      by [] e = absurd (omega (arith, some, ap length e))
      by (b ∷ bs) e = record {
        genesis = b;
        others = bs;
        first = sym e;
        is_genesis =
            let at : get_or blocks 0 b ≡ b = ap (λ (l : List ReadBlock). get_or l 0 b) (sym e) in
            subst IsGenesis at (genesis_by_parents (get_or blocks 0 b) (each_block 0 b some) (parents_long 0 b some ∙ ap length is.genesis));
        are_other = λ k d less.
            let inside : suc k < length blocks = omega (arith, less, ap length e) in
            let at : get_or blocks (suc k) d ≡ get_or bs k d = ap (λ (l : List ReadBlock). get_or l (suc k) d) (sym e) in
            let rooted : 0 < length (get_or dag.parents (suc k) []) = is.rooted (suc k) (omega arith) (omega (arith, inside, long)) in
            subst IsOther at (other_by_parents (get_or blocks (suc k) d) (each_block (suc k) d inside) (omega (arith, rooted, parents_long (suc k) d inside)));
        few = omega (arith, long, is.small);
      }

  -- the kept blocks' virtual vote on two present ones is that of the present ones alone
  pub virt_of_kept : (x y : ℕ) → ((id : ℕ) → has dag.ids id ≡ has (present kept) id) → has (ids_of blocks) x ≡ true → has (ids_of blocks) y ≡ true
      → virt (graph_in dag.profile kept) (present kept) x y ≡ virt (graph_in dag.profile blocks) (present blocks) x y
  virt_of_kept x y same x_in y_in =
      ap (λ (k : ℕ). virt (graph_in dag.profile kept) (present kept) k y) (sym (id_back x x_in))
      ∙ ap (λ (k : ℕ). virt (graph_in dag.profile kept) (present kept) (get_or dag.ids (number_of dag.ids x) 0) k) (sym (id_back y y_in))
      ∙ virt_renamed (λ (n : ℕ). get_or dag.ids n 0) (graph_by_place dag) (graph_in dag.profile kept) (IsRenamed-ids kept dag are is numbered)
      (numbers dag) (present kept) (number_of dag.ids x) (number_of dag.ids y)
      (subst (λ (l : List ℕ). IsDownset (graph_by_place dag) l) (keys_are_numbers dag) (downset_numbered dag is.order))
      (AreRenamed-ids kept dag are is numbered same)
      (subst (λ (l : List ℕ). AreDistinct l) (keys_are_numbers dag) (IsGraph_numbered dag is).distinct)
      (AreDistinct-present kept are.apart)
      (key_in dag (number_of dag.ids x) (below x x_in)) (key_in dag (number_of dag.ids y) (below y y_in))
      ∙ ap (λ (l : List ℕ). virt (graph_by_place dag) l (number_of dag.ids x) (number_of dag.ids y)) (sym (keys_are_numbers dag))
      ∙ ap (λ (d : Numbered). virt (graph_by_place d) (keys (graph_by_place d)) (number_of d.ids x) (number_of d.ids y)) tables_are
      ∙ sym (virt_by_place dag.profile blocks all_placed x y x_in y_in)
    where
      in_dag : (id : ℕ) → has (ids_of blocks) id ≡ true → has dag.ids id ≡ true
      in_dag id h = ap (λ (l : List ℕ). has l id) (sym ids) ∙ h

      id_back : (id : ℕ) → has (ids_of blocks) id ≡ true → get_or dag.ids (number_of dag.ids id) 0 ≡ id
      id_back id h = get_or_from_slice_get dag.ids (number_of dag.ids id) id 0 (id_of_number dag.ids id (in_dag id h))

      below : (id : ℕ) → has (ids_of blocks) id ≡ true → number_of dag.ids id < length dag.parents
      below id h = (let inside : number_of dag.ids id < length dag.ids = slice_get_within dag.ids (number_of dag.ids id) id (id_of_number dag.ids id (in_dag id h)) in omega (arith, is.long))

  -- so a certificate of them shows what the kept blocks say
  pub sign_of_kept : (c : Certificate) (x y : ℕ) → ((id : ℕ) → has dag.ids id ≡ has (present kept) id) → IsShown c → c.profile ≡ dag.profile → c.blocks ≡ blocks → are_two (ids_of blocks) x y ≡ true → c.x ≡ x → c.y ≡ y
      → c.sign ≡ virt (graph_in dag.profile kept) (present kept) x y
  sign_of_kept c x y same shown profile_is blocks_are two x_is y_is =
      let both = and_parts (has (ids_of blocks) x) (has (ids_of blocks) y) (and_parts (not (eqb x y)) (has (ids_of blocks) x && has (ids_of blocks) y) two).1 in
      sym (virt_of_kept x y same both.0 both.1
      ∙ ap (λ (p : Profile). virt (graph_in p blocks) (present blocks) x y) (sym profile_is)
      ∙ ap (λ (bs : List ReadBlock). virt (graph_in c.profile bs) (present bs) x y) (sym blocks_are)
      ∙ ap (λ (k : ℕ). virt (graph_in c.profile c.blocks) (present c.blocks) k y) (sym x_is)
      ∙ ap (λ (k : ℕ). virt (graph_in c.profile c.blocks) (present c.blocks) c.x k) (sym y_is)
      ∙ shown.sign)

pub IfOk-with : {X E : Type 0} {P Q R S T U V : X → Type 0} (r : Result X E) → ((x : X) → P x → Q x → R x → S x → T x → U x → V x)
    → IfOk r P → IfOk r Q → IfOk r R → IfOk r S → IfOk r T → IfOk r U → IfOk r V
IfOk-with (Ok x) f p q u s t v = f x p q u s t v
IfOk-with (Err e) f p q u s t v = p
