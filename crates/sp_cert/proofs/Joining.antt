-- One block more joins the graph of the blocks before it.
use Rattle.std.proofs.Common.{◌≡◌, ℕ, suc, ◌+◌, ◌<◌, ◌≤◌, Bool, true, false, ◌&&◌, ◌||◌, not, List, [], ◌∷◌, ◌++◌, length, map, take, drop, get_or, refl, sym, ap, subst, ◌∙◌, append_assoc, arith, eqb}
use Rattle.std.specs.List.{list_all}
use Rattle.std.proofs.lemmas.Bool.{eq-eqb, false≢true, or_left, or_right}
use Rattle.std.proofs.lemmas.List.{append-nil, get_or-map, length-map, take-append-drop, take_all, take_more}
use Rattle.sp_block.specs.Block.{IsBlock, IsGenesis, ReadBlock}
use Rattle.sp_block.proofs.Whole.{genesis_parents}
use Rattle.sp_model.specs.declared.profile.Profile.{Profile}
use Rattle.sp_model.specs.Graph.{has}
use Rattle.sp_model.proofs.Sets.{all_at}
use Rattle.sp_pool.specs.Kept.{ids_of}
use Rattle.sp_dag.specs.Numbered.{number_of, Numbered, with_block}
use Rattle.sp_dag.proofs.Ids.{number_of_stays}
use Rattle.sp_cert.specs.Certificate.{AreListed}
use Rattle.sp_cert.specs.Refusals.{id_at, is_placed, numbered_of, parents_at, table_of}
use Rattle.sp_cert.proofs.ByPlace.{table_at}

has_front : (xs : List ℕ) (p y : ℕ) → has xs p ≡ true → has (xs ++ y ∷ []) p ≡ true
has_front [] p y there = absurd (false≢true there)
has_front (x ∷ xs) p y there = at (eqb x p) there (has_front xs p y)
  where
    at : (c : Bool) → (c || has xs p) ≡ true → (has xs p ≡ true → has (xs ++ y ∷ []) p ≡ true) → (c || has (xs ++ y ∷ []) p) ≡ true
    at true there rest = refl
    at false there rest = rest there

-- ids that are added change no number
number_of_front : (xs ys : List ℕ) (p : ℕ) → has xs p ≡ true → number_of (xs ++ ys) p ≡ number_of xs p
number_of_front xs [] p there = ap (λ (l : List ℕ). number_of l p) (append-nil xs)
number_of_front xs (y ∷ ys) p there =
    ap (λ (l : List ℕ). number_of l p) (sym (append_assoc xs (y ∷ []) ys))
    ∙ number_of_front (xs ++ y ∷ []) ys p (has_front xs p y there)
    ∙ number_of_stays xs p y there

numbers_of_front : (k : ℕ) (ids ps : List ℕ) → ((p : ℕ) → has ps p ≡ true → has (take k ids) p ≡ true) → map (number_of (take k ids)) ps ≡ map (number_of ids) ps
numbers_of_front k ids [] all = refl
numbers_of_front k ids (p ∷ ps) all =
    let here : number_of ids p ≡ number_of (take k ids) p =
    ap (λ (l : List ℕ). number_of l p) (sym (take-append-drop k ids)) ∙ number_of_front (take k ids) (drop k ids) p (all p (or_left (eqb p p) (has ps p) (eq-eqb p p refl))) in
    ap (λ (n : ℕ). n ∷ map (number_of (take k ids)) ps) (sym here)
    ∙ ap (λ (l : List ℕ). number_of ids p ∷ l) (numbers_of_front k ids ps (λ q there. all q (or_right (eqb p q) (has ps q) there)))

pub same_numbered : (d e : Numbered) → d.profile ≡ e.profile → d.ids ≡ e.ids → d.salts ≡ e.salts → d.parents ≡ e.parents → d ≡ e
same_numbered d e profile ids salts parents = λ k. record { profile = profile k; ids = ids k; salts = salts k; parents = parents k }

module _ (blocks : List ReadBlock) (k : ℕ) (b : ReadBlock) (less : k < length blocks) (at : b ≡ get_or blocks k b) where
  id_is : id_at blocks k ≡ b.id
  id_is = get_or-map (λ (x : ReadBlock). x.id) blocks k b 0 less ∙ ap (λ (x : ReadBlock). x.id) (sym at)

  salt_is : get_or (map (λ (x : ReadBlock). x.salt) blocks) k 0 ≡ b.salt
  salt_is = get_or-map (λ (x : ReadBlock). x.salt) blocks k b 0 less ∙ ap (λ (x : ReadBlock). x.salt) (sym at)

  parents_is : parents_at blocks k ≡ b.parents
  parents_is = get_or-map (λ (x : ReadBlock). x.parents) blocks k b [] less ∙ ap (λ (x : ReadBlock). x.parents) (sym at)

  -- whether it may join
  pub placed_is : (ids : List ℕ) → ids ≡ take k (ids_of blocks) → is_placed blocks k ≡ (list_all (has ids) b.parents && not (has ids b.id))
  placed_is ids are =
      ap (λ (ps : List ℕ). list_all (has (take k (ids_of blocks))) ps && not (has (take k (ids_of blocks)) (id_at blocks k))) parents_is
      ∙ ap (λ (i : ℕ). list_all (has (take k (ids_of blocks))) b.parents && not (has (take k (ids_of blocks)) i)) id_is
      ∙ ap (λ (l : List ℕ). list_all (has l) b.parents && not (has l b.id)) (sym are)

  pub ids_more : (dag new : Numbered) → dag.ids ≡ take k (ids_of blocks) → new ≡ with_block dag b.id b.salt b.parents → new.ids ≡ take (k + 1) (ids_of blocks)
  ids_more dag new ids is =
      ap (λ (d : Numbered). d.ids) is ∙ ap (λ (l : List ℕ). l ++ b.id ∷ []) ids ∙ ap (λ (i : ℕ). take k (ids_of blocks) ++ i ∷ []) (sym id_is)
      ∙ sym (take_more (ids_of blocks) k 0 (omega (arith, length-map blocks (λ (x : ReadBlock). x.id))))

  pub salts_more : (dag new : Numbered) → dag.salts ≡ take k (map (λ (x : ReadBlock). x.salt) blocks) → new ≡ with_block dag b.id b.salt b.parents → new.salts ≡ take (k + 1) (map (λ (x : ReadBlock). x.salt) blocks)
  salts_more dag new salts is =
      ap (λ (d : Numbered). d.salts) is ∙ ap (λ (l : List ℕ). l ++ b.salt ∷ []) salts ∙ ap (λ (s : ℕ). take k (map (λ (x : ReadBlock). x.salt) blocks) ++ s ∷ []) (sym salt_is)
      ∙ sym (take_more (map (λ (x : ReadBlock). x.salt) blocks) k 0 (omega (arith, length-map blocks (λ (x : ReadBlock). x.salt))))

  pub parents_more : (dag new : Numbered) → dag.ids ≡ take k (ids_of blocks) → dag.parents ≡ take k (table_of blocks) → list_all (has dag.ids) b.parents ≡ true
      → new ≡ with_block dag b.id b.salt b.parents → new.parents ≡ take (k + 1) (table_of blocks)
  parents_more dag new ids parents all is =
      let known : list_all (has (take k (ids_of blocks))) b.parents ≡ true = ap (λ (l : List ℕ). list_all (has l) b.parents) (sym ids) ∙ all in
      let row : map (number_of dag.ids) b.parents ≡ get_or (table_of blocks) k [] =
      ap (λ (l : List ℕ). map (number_of l) b.parents) ids
      ∙ numbers_of_front k (ids_of blocks) b.parents (λ p there. all_at (has (take k (ids_of blocks))) b.parents p known there)
      ∙ ap (map (number_of (ids_of blocks))) (sym parents_is) ∙ sym (table_at (number_of (ids_of blocks)) blocks k) in
      ap (λ (d : Numbered). d.parents) is ∙ ap (λ (l : List (List ℕ)). l ++ map (number_of dag.ids) b.parents ∷ []) parents
      ∙ ap (λ (r : List ℕ). take k (table_of blocks) ++ r ∷ []) row
      ∙ sym (take_more (table_of blocks) k [] (omega (arith, length-map blocks (λ (x : ReadBlock). map (number_of (ids_of blocks)) x.parents))))

-- all blocks joined
pub all_joined : (profile : Profile) (blocks : List ReadBlock) (k : ℕ) (dag : Numbered) → length blocks ≤ k → dag.profile ≡ profile → dag.ids ≡ take k (ids_of blocks)
    → dag.salts ≡ take k (map (λ (x : ReadBlock). x.salt) blocks) → dag.parents ≡ take k (table_of blocks) → dag ≡ numbered_of profile blocks
all_joined profile blocks k dag le own ids salts parents =
    same_numbered dag (numbered_of profile blocks) own
    (ids ∙ take_all k (ids_of blocks) (omega (arith, length-map blocks (λ (x : ReadBlock). x.id))))
    (salts ∙ take_all k (map (λ (x : ReadBlock). x.salt) blocks) (omega (arith, length-map blocks (λ (x : ReadBlock). x.salt))))
    (parents ∙ take_all k (table_of blocks) (omega (arith, length-map blocks (λ (x : ReadBlock). map (number_of (ids_of blocks)) x.parents))))

-- genesis alone
module _ (blocks : List ReadBlock) (genesis : ReadBlock) (is : AreListed blocks) (at : genesis ≡ get_or blocks 0 genesis) (whole : IsBlock genesis) where
  genesis_is : genesis ≡ is.genesis
  genesis_is = at ∙ ap (λ (l : List ReadBlock). get_or l 0 genesis) is.first

  none : genesis.parents ≡ []
  none = empty genesis.parents (genesis_parents genesis whole (subst IsGenesis (sym genesis_is) is.is_genesis))
    where
      empty : (l : List ℕ) → length l ≡ 0 → l ≡ []
      empty [] e = refl
      empty (x ∷ xs) e = absurd (omega arith)

  some : 0 < length blocks
  some = (let e : length blocks ≡ suc (length is.others) = ap length is.first in omega arith)

  pub first_ids : genesis.id ∷ [] ≡ take 1 (ids_of blocks)
  first_ids = ap (λ (g : ReadBlock). g.id ∷ []) genesis_is ∙ ap (λ (l : List ReadBlock). take 1 (ids_of l)) (sym is.first)

  pub first_salts : genesis.salt ∷ [] ≡ take 1 (map (λ (x : ReadBlock). x.salt) blocks)
  first_salts = ap (λ (g : ReadBlock). g.salt ∷ []) genesis_is ∙ ap (λ (l : List ReadBlock). take 1 (map (λ (x : ReadBlock). x.salt) l)) (sym is.first)

  pub first_parents : [] ∷ [] ≡ take 1 (table_of blocks)
  first_parents =
      ap (λ (ps : List ℕ). map (number_of (ids_of blocks)) ps ∷ []) (sym none)
      ∙ ap (λ (g : ReadBlock). map (number_of (ids_of blocks)) g.parents ∷ []) genesis_is
      ∙ ap (λ (l : List ReadBlock). take 1 (map (λ (x : ReadBlock). map (number_of (ids_of blocks)) x.parents) l)) (sym is.first)

  pub first_placed : (k : ℕ) → k < 1 → is_placed blocks k ≡ true
  first_placed k less =
      let zero_is : k ≡ 0 = omega arith in
      ap (is_placed blocks) zero_is ∙ placed_is blocks 0 genesis some at [] refl ∙ ap (λ (ps : List ℕ). list_all (has []) ps && true) none
