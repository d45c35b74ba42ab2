-- A pool to which a block is added.
use Rattle.std.proofs.Common.{◌≡◌, ℕ, Bool, true, false, ◌||◌, List, [], ◌∷◌, ◌++◌, map, refl, sym, ap, subst, ◌∙◌, eqb}
use Rattle.std.specs.List.{list_all}
use Rattle.std.proofs.lemmas.Bool.{false≢true}
use Rattle.std.proofs.lemmas.List.{map-append}
use Rattle.std.proofs.lemmas.List.Folds.{list_any-append}
use Rattle.sp_block.specs.Block.{IsBlock, IsGenesis, IsOther, ReadBlock}
use Rattle.sp_model.specs.Graph.{has}
use Rattle.sp_pool.specs.Kept.{AreKept, ids_of, present, Releases, standing_of}
use Rattle.sp_pool.specs.Marks.{marked, Marked, Marks, with_unmarked}
use Rattle.sp_pool.specs.Offers.{IsAnswer, released_by}
use Rattle.sp_pool.specs.Pool.{IsPool}
use Rattle.sp_pool.specs.declared.answers.Offer.{Offer}
use Rattle.sp_pool.specs.declared.answers.Offer.TheVariants.{Present, Waiting}
use Rattle.sp_pool.specs.declared.answers.Standing.TheVariants.{Fresh}
use Rattle.sp_pool.proofs.Growth.{kept_push, present_kept, present_stays, present_waits, present_joins, released, waits_absent}
use Rattle.sp_pool.proofs.KeptBlocks.{AreKept-one, AreKept-push, no_parents}
use Rattle.sp_pool.proofs.Standings.{from_fresh}
use Rattle.sp_pool.proofs.Marking.{AreSeen-more, AreSeen-push}

map_same : (s t : List ℕ) (ids : List ℕ) → ((z : ℕ) → has s z ≡ has t z) → map (has s) ids ≡ map (has t) ids
map_same s t [] h = refl
map_same s t (id ∷ ids) h =
    let here : has s id ≡ has t id = h id in
    let rest : map (has s) ids ≡ map (has t) ids = map_same s t ids h in
    cc

-- marks depend on which ids the set has alone
pub Marks-same : (m : Marked) (s t : List ℕ) → ((z : ℕ) → has s z ≡ has t z) → Marks m s → Marks m t
Marks-same m s t h marks =
    record {
      same = marks.same ∙ map_same s t (ids_of m.blocks) h;
      within = λ id there. marks.within id (h id ∙ there);
      seen = AreSeen-more s t m.blocks m.seen (λ z there. sym (h z) ∙ there) marks.seen;
    }

not_there : (m : Marked) (s : List ℕ) (id : ℕ) → Marks m s → has (ids_of m.blocks) id ≡ false → has s id ≡ false
not_there m s id marks fresh = at (has s id) (marks.within id)
  where
    at : (c : Bool) → (c ≡ true → has (ids_of m.blocks) id ≡ true) → c ≡ false
    at true within = absurd (false≢true (sym fresh ∙ within refl))
    at false within = refl

-- a new block without a mark
pub Marks-push : (m : Marked) (s : List ℕ) (b : ReadBlock) → has (ids_of m.blocks) b.id ≡ false → Marks m s → Marks (with_unmarked m b) s
Marks-push m s b fresh marks =
    record {
      same =
          ap (λ (l : List Bool). l ++ false ∷ []) marks.same ∙ ap (λ (c : Bool). map (has s) (ids_of m.blocks) ++ c ∷ []) (sym (not_there m s b.id marks fresh))
          ∙ sym (map-append (has s) (ids_of m.blocks) (b.id ∷ [])) ∙ ap (map (has s)) (sym (map-append (λ (x : ReadBlock). x.id) m.blocks (b ∷ [])));
      within = λ id there. kept_push m.blocks b id (marks.within id there);
      seen = AreSeen-push s m.blocks m.seen b marks.seen;
    }

pub pool_alone : (genesis : ReadBlock) → IsBlock genesis → IsGenesis genesis → IsPool (marked (genesis ∷ []) (true ∷ []) (0 ∷ []))
pool_alone genesis block kind =
    let none = no_parents genesis block kind in
    let here : has (present (genesis ∷ [])) genesis.id ≡ true = present_joins [] genesis refl (ap (list_all (has (present []))) none) in
    record {
      kept = AreKept-one genesis block kind;
      marks = record {
        same = ap (λ (c : Bool). c ∷ []) (sym here);
        within = present_kept (genesis ∷ []);
        seen = (refl, tt);
      };
    }

-- what a block leaves that was added: the pool, the answer and the growth
pub record Added (kept : List ReadBlock) (b : ReadBlock) (after : Marked) (offer : Offer) : Type 0 where
  pub pool : IsPool after
  pub answer : IsAnswer kept b offer
  pub grown : (z : ℕ) → has (present after.blocks) z ≡ (has (present kept) z || has (released_by offer) z)

-- a block whose parents are not all present waits
pub added_waiting : (m pushed : Marked) (b : ReadBlock) → IsPool m → IsBlock b → IsOther b → standing_of m.blocks b.id ≡ Fresh
    → list_all (has (present m.blocks)) b.parents ≡ false → pushed ≡ with_unmarked m b → Added m.blocks b pushed Waiting
added_waiting m pushed b h block kind standing lacks same =
    let fresh = from_fresh m.blocks b.id standing in
    let waits = present_waits m.blocks b fresh.0 lacks in
    subst (λ (p : Marked). Added m.blocks b p Waiting) (sym same)
    (record {
      pool = record {
        kept = AreKept-push m.blocks b h.kept block kind fresh.0 fresh.1;
        marks =
            Marks-same (with_unmarked m b) (present m.blocks) (present (m.blocks ++ b ∷ [])) (λ z. sym (waits z))
            (Marks-push m (present m.blocks) b fresh.0 h.marks);
      };
      answer = record { standing = standing; absent = waits_absent m.blocks b fresh.0 lacks };
      grown = λ z. waits z ∙ or_nothing (has (present m.blocks) z);
    })
  where
    or_nothing : (c : Bool) → c ≡ (c || false)
    or_nothing true = refl
    or_nothing false = refl

-- a block whose parents are all present becomes so, and others after it
pub added_present : (m pushed after : Marked) (b : ReadBlock) (ids : List ℕ) → IsPool m → IsBlock b → IsOther b → standing_of m.blocks b.id ≡ Fresh
    → list_all (has (present m.blocks)) b.parents ≡ true → pushed ≡ with_unmarked m b → after.blocks ≡ pushed.blocks
    → ((s : List ℕ) → Marks pushed s → Releases pushed.blocks s ids) → ((s : List ℕ) → Marks pushed s → Marks after (s ++ ids)) → Added m.blocks b after (Present ids)
added_present m pushed after b ids h block kind standing all same blocks order marks =
    let fresh = from_fresh m.blocks b.id standing in
    let kept = AreKept-push m.blocks b h.kept block kind fresh.0 fresh.1 in
    let push : Marks pushed (present m.blocks) = subst (λ (p : Marked). Marks p (present m.blocks)) (sym same) (Marks-push m (present m.blocks) b fresh.0 h.marks) in
    let long : after.blocks ≡ m.blocks ++ b ∷ [] = blocks ∙ ap (λ (p : Marked). p.blocks) same in
    let release : Releases (m.blocks ++ b ∷ []) (present m.blocks) ids =
    subst (λ (l : List ReadBlock). Releases l (present m.blocks) ids) (ap (λ (p : Marked). p.blocks) same) (order (present m.blocks) push) in
    let whole : (z : ℕ) → has (present after.blocks) z ≡ has (present m.blocks ++ ids) z = λ z.
    ap (λ (l : List ReadBlock). has (present l) z) long
    ∙ released (m.blocks ++ b ∷ []) (present m.blocks) ids kept.apart (present_stays m.blocks b) release z in
    record {
      pool = record {
        kept = subst (λ (l : List ReadBlock). AreKept l) (sym long) kept;
        marks = Marks-same after (present m.blocks ++ ids) (present after.blocks) (λ z. sym (whole z)) (marks (present m.blocks) push);
      };
      answer = record { standing = standing; here = present_joins m.blocks b fresh.0 all; order = release };
      grown = λ z. whole z ∙ list_any-append (λ k. eqb k z) (present m.blocks) ids;
    }
