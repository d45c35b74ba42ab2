-- The order of presence that is computed from the kept blocks is the one that the pool's answers tell.
use Rattle.std.proofs.Common.{◌≡◌, ℕ, ◌≤◌, false, List, [], ◌∷◌, ◌++◌, length, refl, sym, ap, subst, ◌∙◌, arith, append_assoc, length-append}
use Rattle.std.specs.List.{flat_map}
use Rattle.std.proofs.Math.ListN.{length-map}
use Rattle.std.proofs.lemmas.List.{append-nil}
use Rattle.std.proofs.lemmas.List.Concat.{flat_map-cons}
use Rattle.sp_block.specs.Block.{ReadBlock}
use Rattle.sp_model.specs.Graph.{AreDistinct, has}
use Rattle.sp_pool.specs.Kept.{AreApart, ids_of, keep, keep_all, kept_by, kept_of, present, Releases}
use Rattle.sp_pool.specs.Offers.{AreAnswers, IsAnswer, Joins, order_of_presence, released_by, Waits}
use Rattle.sp_pool.specs.declared.answers.Offer.{Offer}
use Rattle.sp_pool.specs.declared.answers.Offer.TheVariants.{Known, Full, Waiting, Present}
use Rattle.sp_pool.specs.declared.answers.Standing.{Standing}
use Rattle.sp_pool.proofs.Growth.{present_by_parents, present_kept, present_stays, present_waits, released}
use Rattle.sp_pool.proofs.KeptBlocks.{AreApart-push}
use Rattle.sp_pool.proofs.Runs.{present_alone, Releases-distinct}
use Rattle.sp_pool.proofs.Standings.{from_fresh}
use Rattle.sp_engine.specs.Presence.{order_of}
use Rattle.sp_engine.proofs.Alone.{order_alone}
use Rattle.sp_engine.proofs.Counts.{distinct_within}
use Rattle.sp_engine.proofs.Presence.{joining_released, order-push, Releases-none, Releases-same}

-- no two kept blocks have one id, and the order has each present block once
record Stands (kept : List ReadBlock) : Type 0 where
  apart : AreApart kept
  once : AreDistinct (order_of kept)
  same : (z : ℕ) → has (order_of kept) z ≡ has (present kept) z

-- the order after one more answer
record Grows (kept after : List ReadBlock) (ids : List ℕ) : Type 0 where
  order : order_of after ≡ order_of kept ++ ids
  stands : Stands after

stays : (kept after : List ReadBlock) → Stands kept → after ≡ kept → Grows kept after []
stays kept after h e = record {
  order = ap (λ (k : List ReadBlock). order_of k) e ∙ sym (append-nil (order_of kept));
  stands = subst (λ (k : List ReadBlock). Stands k) (sym e) h;
}

module _ {kept : List ReadBlock} {b : ReadBlock} where
  waits : Stands kept → Waits kept b → Grows kept (kept ++ b ∷ []) []
  waits h w =
      let fresh : has (ids_of kept) b.id ≡ false = (from_fresh kept b.id w.standing).0 in
      let apart : AreApart (kept ++ b ∷ []) = AreApart-push kept b h.apart fresh in
      let same : (z : ℕ) → has (order_of kept) z ≡ has (present (kept ++ b ∷ [])) z =
      λ z. h.same z ∙ sym (present_waits kept b fresh (sym (present_by_parents kept b fresh) ∙ w.absent) z) in
      let none : Releases (kept ++ b ∷ []) (order_of kept) [] = Releases-none (kept ++ b ∷ []) (order_of kept) apart same in
      let order : order_of (kept ++ b ∷ []) ≡ order_of kept ++ [] =
      order-push kept b ∙ ap (λ (l : List ℕ). order_of kept ++ l) (joining_released (length (kept ++ b ∷ [])) (kept ++ b ∷ []) (order_of kept) [] none (omega arith)) in
      let all : order_of (kept ++ b ∷ []) ≡ order_of kept = order ∙ append-nil (order_of kept) in
      record {
        order = order;
        stands = record { apart = apart; once = subst (λ (l : List ℕ). AreDistinct l) (sym all) h.once; same = λ z. ap (λ (l : List ℕ). has l z) all ∙ same z };
      }

  joins : (ids : List ℕ) → Stands kept → Joins kept b ids → Grows kept (kept ++ b ∷ []) ids
  joins ids h j =
      let apart : AreApart (kept ++ b ∷ []) = AreApart-push kept b h.apart (from_fresh kept b.id j.standing).0 in
      let comes : Releases (kept ++ b ∷ []) (order_of kept) ids = Releases-same (kept ++ b ∷ []) (present kept) (order_of kept) ids (λ z. sym (h.same z)) j.order in
      let once : AreDistinct (order_of kept ++ ids) = Releases-distinct (kept ++ b ∷ []) (order_of kept) (order_of kept) ids (λ z. refl) h.once comes in
      let members : (z : ℕ) → has (order_of kept ++ ids) z ≡ has (present (kept ++ b ∷ [])) z =
      λ z. sym (released (kept ++ b ∷ []) (order_of kept) ids apart (λ y there. present_stays kept b y (sym (h.same y) ∙ there)) comes z) in
      let within : length (order_of kept ++ ids) ≤ length (ids_of (kept ++ b ∷ [])) =
      distinct_within (order_of kept ++ ids) (ids_of (kept ++ b ∷ [])) once (λ z there. present_kept (kept ++ b ∷ []) z (sym (members z) ∙ there)) in
      let few : length ids ≤ length (kept ++ b ∷ []) = omega (arith, within, length-map (kept ++ b ∷ []) (λ (x : ReadBlock). x.id), length-append (order_of kept) ids) in
      let order : order_of (kept ++ b ∷ []) ≡ order_of kept ++ ids =
      order-push kept b ∙ ap (λ (l : List ℕ). order_of kept ++ l) (joining_released (length (kept ++ b ∷ [])) (kept ++ b ∷ []) (order_of kept) ids comes few) in
      record {
        order = order;
        stands = record { apart = apart; once = subst (λ (l : List ℕ). AreDistinct l) (sym order) once; same = λ z. ap (λ (l : List ℕ). has l z) order ∙ members z };
      }

grows : (kept : List ReadBlock) (b : ReadBlock) (answer : Offer) → Stands kept → IsAnswer kept b answer → Grows kept (keep kept b) (released_by answer)
grows kept b Known h a = stays kept (keep kept b) h (ap (λ (s : Standing). kept_by s kept b) a)
grows kept b Full h a = stays kept (keep kept b) h (ap (λ (s : Standing). kept_by s kept b) a)
grows kept b Waiting h a = subst (λ (k : List ReadBlock). Grows kept k []) (sym (ap (λ (s : Standing). kept_by s kept b) a.standing)) (waits h a)
grows kept b (Present ids) h a = subst (λ (k : List ReadBlock). Grows kept k ids) (sym (ap (λ (s : Standing). kept_by s kept b) a.standing)) (joins ids h a)

order_grows : (kept arrivals : List ReadBlock) (answers : List Offer) → Stands kept → AreAnswers kept arrivals answers
    → order_of (keep_all kept arrivals) ≡ order_of kept ++ flat_map released_by answers
order_grows kept [] [] h a = sym (append-nil (order_of kept))
order_grows kept [] (answer ∷ answers) h a = absurd a
order_grows kept (b ∷ arrivals) [] h a = absurd a
order_grows kept (b ∷ arrivals) (answer ∷ answers) h a =
    let now : Grows kept (keep kept b) (released_by answer) = grows kept b answer h a.0 in
    order_grows (keep kept b) arrivals answers now.stands a.1
    ∙ ap (λ (l : List ℕ). l ++ flat_map released_by answers) now.order
    ∙ append_assoc (order_of kept) (released_by answer) (flat_map released_by answers)
    ∙ ap (λ (l : List ℕ). order_of kept ++ l) (sym (flat_map-cons released_by answer answers))

stands_alone : (g : ReadBlock) → g.parents ≡ [] → Stands (g ∷ [])
stands_alone g none = record {
  apart = (refl, tt);
  once = subst (λ (l : List ℕ). AreDistinct l) (sym (order_alone g none)) (refl, tt);
  same = λ z. ap (λ (l : List ℕ). has l z) (order_alone g none ∙ sym (present_alone g none));
}

pub order_answered : (genesis : ReadBlock) (arrivals : List ReadBlock) (answers : List Offer) → genesis.parents ≡ [] → AreAnswers (genesis ∷ []) arrivals answers
    → order_of (kept_of genesis arrivals) ≡ order_of_presence genesis answers
order_answered genesis arrivals answers none a =
    order_grows (genesis ∷ []) arrivals answers (stands_alone genesis none) a
    ∙ ap (λ (l : List ℕ). l ++ flat_map released_by answers) (order_alone genesis none)
