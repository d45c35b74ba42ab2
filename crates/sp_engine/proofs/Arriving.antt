-- A valid block of a new id is kept: the engine stands for the longer list, and the answer is the one that is defined.
use Rattle.std.proofs.Common.{◌≡◌, ℕ, ◌-◌, ◌≤◌, false, Fits, w16, List, [], ◌∷◌, ◌++◌, length, refl, sym, ap, subst, ◌∙◌, Some, arith, length-append}
use Rattle.std.specs.Prelude.{ℤ, slice_get}
use Rattle.std.specs.List.{range_with_len}
use Rattle.std.specs.Option.{option_map}
use Rattle.std.proofs.Math.ListN.{length-map}
use Rattle.std.proofs.lemmas.List.{append-nil}
use Rattle.sp_block.specs.Block.{IsBlock, IsOther, ReadBlock}
use Rattle.sp_block.proofs.Whole.{other_parents}
use Rattle.sp_model.specs.Graph.{AreDistinct, has}
use Rattle.sp_pool.specs.Kept.{AreKept, ids_of, keep, kept_by, present, Releases, standing_of}
use Rattle.sp_pool.specs.Offers.{IsAnswer, Joins, Waits}
use Rattle.sp_pool.specs.declared.answers.Offer.{Offer}
use Rattle.sp_pool.specs.declared.answers.Offer.TheVariants.{Present, Waiting}
use Rattle.sp_pool.specs.declared.answers.Standing.{Standing}
use Rattle.sp_pool.specs.declared.answers.Standing.TheVariants.{Fresh}
use Rattle.sp_pool.proofs.Growth.{present_by_parents, present_kept, present_stays, present_waits, released}
use Rattle.sp_pool.proofs.KeptBlocks.{AreKept-push}
use Rattle.sp_pool.proofs.Runs.{Releases-distinct}
use Rattle.sp_pool.proofs.Standings.{from_fresh}
use Rattle.sp_dag.specs.Numbered.{IsNumbered, Numbered}
use Rattle.sp_engine.specs.Arrivals.{joined}
use Rattle.sp_carry.specs.Carried.{Carried}
use Rattle.sp_accept.specs.Acceptance.{Acceptance}
use Rattle.sp_money.specs.Held.{Held as Purse}
use Rattle.sp_engine.specs.Engine.{AreCarried, AreNumbered, IsAccepting, IsEngine, IsPaying, Ledger}
use Rattle.sp_engine.specs.Presence.{joining}
use Rattle.sp_engine.specs.Votes.{AreFew, AreVoted, entries_of, Tallied}
use Rattle.sp_engine.specs.declared.answer.Answer.TheVariants.{Kept, Held}
use Rattle.sp_frozen.specs.Voters.{FrozenRows}
use Rattle.sp_view.specs.Summed.{AreSums}
use Rattle.sp_view.specs.Views.{Viewed}
use Rattle.sp_engine.proofs.Sharing.{views_move}
use Rattle.sp_engine.specs.Votes.{IsAsBefore}
use Rattle.sp_engine.proofs.CarriedBlocks.{AreCarried-kept}
use Rattle.sp_engine.proofs.Counts.{distinct_within, present_counts}
use Rattle.sp_engine.proofs.Facts.{present_count}
use Rattle.sp_engine.proofs.NumberedBlocks.{AreNumbered-kept}
use Rattle.sp_engine.proofs.Presence.{joining_released, order-push, Releases-none, Releases-same}

-- a valid block of a new id comes to an engine
pub record Comes (bits genesis : ℕ) (kept : List ReadBlock) (blocks : Numbered) (votes : Tallied) (b : ReadBlock) : Type 0 where
  pub engine : IsEngine bits kept genesis blocks votes
  pub block : IsBlock b
  pub other : IsOther b
  pub fresh : standing_of kept b.id ≡ Fresh

first_stays : (kept : List ReadBlock) (b : ReadBlock) (genesis : ℕ) → option_map (λ (x : ReadBlock). x.id) (slice_get kept 0) ≡ Some genesis → option_map (λ (x : ReadBlock). x.id) (slice_get (kept ++ b ∷ []) 0) ≡ Some genesis
first_stays [] b genesis e = cc
first_stays (x ∷ xs) b genesis e = e

module _ {bits genesis : ℕ} {kept : List ReadBlock} {blocks : Numbered} {votes : Tallied} {b : ReadBlock} where
  pub kept_is : (new : List ReadBlock) → new ≡ keep kept b → Comes bits genesis kept blocks votes b → new ≡ kept ++ b ∷ []
  kept_is new e h = e ∙ ap (λ (s : Standing). kept_by s kept b) h.fresh

  new_id : Comes bits genesis kept blocks votes b → has (ids_of kept) b.id ≡ false
  new_id h = (from_fresh kept b.id h.fresh).0

  kept_more : Comes bits genesis kept blocks votes b → AreKept (kept ++ b ∷ [])
  kept_more h = AreKept-push kept b h.engine.all_kept h.block h.other (new_id h) (from_fresh kept b.id h.fresh).1

  numbered_more : Comes bits genesis kept blocks votes b → AreNumbered (kept ++ b ∷ []) blocks
  numbered_more h = let some = (other_parents b h.block h.other).0 in AreNumbered-kept kept b blocks (new_id h) (omega (arith, some)) h.engine.numbered

  pub comes_numbered : (new : List ReadBlock) → new ≡ keep kept b → Comes bits genesis kept blocks votes b → AreNumbered new blocks
  comes_numbered new e h = subst (λ (k : List ReadBlock). AreNumbered k blocks) (sym (kept_is new e h)) (numbered_more h)

  comes_carried : {k : Carried} → (new : List ReadBlock) → new ≡ keep kept b → Comes bits genesis kept blocks votes b → AreCarried kept blocks k → AreCarried new blocks k
  comes_carried {k} new e h c =
      subst (λ (l : List ReadBlock). AreCarried l blocks k) (sym (kept_is new e h)) (AreCarried-kept kept b blocks k h.engine.numbered c)

  pub comes_accepting : {k : Carried} {a : Acceptance} → (new : List ReadBlock) → new ≡ keep kept b → Comes bits genesis kept blocks votes b → IsAccepting kept blocks k a
      → IsAccepting new blocks k a
  comes_accepting new e h i = record { carriers = comes_carried new e h i.carriers; right = i.right; all = i.all }

  releases : (ids : List ℕ) → Comes bits genesis kept blocks votes b → Joins kept b ids → Releases (kept ++ b ∷ []) blocks.ids ids
  releases ids h j = Releases-same (kept ++ b ∷ []) (present kept) blocks.ids ids (λ z. sym (h.engine.same z)) j.order

  pub comes_order : (new : List ReadBlock) (ids : List ℕ) → new ≡ keep kept b → Comes bits genesis kept blocks votes b → Joins kept b ids → Releases new blocks.ids ids
  comes_order new ids e h j = subst (λ (k : List ReadBlock). Releases k blocks.ids ids) (sym (kept_is new e h)) (releases ids h j)

  apart : (ids : List ℕ) → Comes bits genesis kept blocks votes b → Joins kept b ids → AreDistinct (blocks.ids ++ ids)
  apart ids h j = Releases-distinct (kept ++ b ∷ []) blocks.ids blocks.ids ids (λ z. refl) h.engine.in_order.distinct (releases ids h j)

  members : (ids : List ℕ) → Comes bits genesis kept blocks votes b → Joins kept b ids → (z : ℕ) → has (blocks.ids ++ ids) z ≡ has (present (kept ++ b ∷ [])) z
  members ids h j z = sym (released (kept ++ b ∷ []) blocks.ids ids (kept_more h).apart (λ y there. present_stays kept b y (sym (h.engine.same y) ∙ there)) (releases ids h j) z)

  few : (ids : List ℕ) → Comes bits genesis kept blocks votes b → Joins kept b ids → length (blocks.ids ++ ids) ≤ length (kept ++ b ∷ [])
  few ids h j =
      let below : length (blocks.ids ++ ids) ≤ length (ids_of (kept ++ b ∷ [])) =
      distinct_within (blocks.ids ++ ids) (ids_of (kept ++ b ∷ [])) (apart ids h j) (λ z there. present_kept (kept ++ b ∷ []) z (sym (members ids h j z) ∙ there)) in
      let same : length (ids_of (kept ++ b ∷ [])) ≡ length (kept ++ b ∷ []) = length-map (kept ++ b ∷ []) (λ (x : ReadBlock). x.id) in
      omega (arith, below, same)

  comes_few : (ids : List ℕ) → Comes bits genesis kept blocks votes b → Joins kept b ids → length ids ≤ 512
  comes_few ids h j = omega (arith, few ids h j, (kept_more h).few, length-append blocks.ids ids)

  pub comes_fitting : (ids lent : List ℕ) → lent ≡ ids → Comes bits genesis kept blocks votes b → Joins kept b ids → Fits w16 (length lent)
  comes_fitting ids lent is h j = omega (arith, comes_few ids h j, ap length is)

  pub comes_engine : (new : List ReadBlock) (ids : List ℕ) (after : Numbered) (tallied : Tallied) → new ≡ keep kept b → Comes bits genesis kept blocks votes b → Joins kept b ids
      → IsNumbered after → AreNumbered new after → after.ids ≡ blocks.ids ++ ids → AreVoted after tallied → AreFew tallied
      → IsEngine bits new genesis after tallied
  comes_engine new ids after tallied e h j n are is v few_views =
      subst (λ (k : List ReadBlock). IsEngine bits k genesis after tallied) (sym (kept_is new e h)) (record {
        small = h.engine.small;
        all_kept = kept_more h;
        first = first_stays kept b genesis h.engine.first;
        in_order = n;
        numbered = subst (λ (k : List ReadBlock). AreNumbered k after) (kept_is new e h) are;
        order = is ∙ ap (λ (l : List ℕ). blocks.ids ++ l) (sym (joining_released (length (kept ++ b ∷ [])) (kept ++ b ∷ []) blocks.ids ids (releases ids h j) (omega (arith, few ids h j, length-append blocks.ids ids))))
            ∙ ap (λ (l : List ℕ). l ++ joining (length (kept ++ b ∷ [])) (kept ++ b ∷ []) l) h.engine.order ∙ sym (order-push kept b);
        same = λ z. ap (λ (l : List ℕ). has l z) is ∙ members ids h j z;
        voted = v;
        few = few_views;
      })

  pub comes_answer : (ids : List ℕ) → Comes bits genesis kept blocks votes b → Joins kept b ids → Kept b.id (length ids) ≡ joined kept b
  unfolding joined
  comes_answer ids h j =
      let now : length (present (kept ++ b ∷ [])) ≡ length (blocks.ids ++ ids) = present_counts (kept ++ b ∷ []) (blocks.ids ++ ids) (kept_more h).apart (apart ids h j) (members ids h j) in
      let count : length ids ≡ length (present (kept ++ b ∷ [])) - length (present kept) = omega (arith, now, present_count h.engine, h.engine.in_order.long, length-append blocks.ids ids) in
      ap (Kept b.id) count ∙ sym (rw j.here refl)

  unchanged : Comes bits genesis kept blocks votes b → Waits kept b → (z : ℕ) → has (present (kept ++ b ∷ [])) z ≡ has (present kept) z
  unchanged h w = present_waits kept b (new_id h) (sym (present_by_parents kept b (new_id h)) ∙ w.absent)

  pub waits_engine : (new : List ReadBlock) → new ≡ keep kept b → Comes bits genesis kept blocks votes b → Waits kept b → IsEngine bits new genesis blocks votes
  waits_engine new e h w =
      let same : (z : ℕ) → has blocks.ids z ≡ has (present (kept ++ b ∷ [])) z = λ z. h.engine.same z ∙ sym (unchanged h w z) in
      subst (λ (k : List ReadBlock). IsEngine bits k genesis blocks votes) (sym (kept_is new e h)) (record {
        small = h.engine.small;
        all_kept = kept_more h;
        first = first_stays kept b genesis h.engine.first;
        in_order = h.engine.in_order;
        numbered = numbered_more h;
        order = sym (append-nil blocks.ids) ∙ ap (λ (l : List ℕ). blocks.ids ++ l) (sym (joining_released (length (kept ++ b ∷ [])) (kept ++ b ∷ []) blocks.ids [] (Releases-none (kept ++ b ∷ []) blocks.ids (kept_more h).apart same) (omega arith)))
            ∙ ap (λ (l : List ℕ). l ++ joining (length (kept ++ b ∷ [])) (kept ++ b ∷ []) l) h.engine.order ∙ sym (order-push kept b);
        same = same;
        voted = h.engine.voted;
        few = h.engine.few;
      })

  pub waits_answer : Comes bits genesis kept blocks votes b → Waits kept b → Held b.id ≡ joined kept b
  unfolding joined
  waits_answer h w = sym (rw w.absent refl)

-- what the pool's answer says
pub joins_of : {kept : List ReadBlock} {b : ReadBlock} (o : Offer) (ids : List ℕ) → o ≡ Present ids → IsAnswer kept b o → Joins kept b ids
joins_of {kept = kept} {b = b} o ids e h = subst (λ (x : Offer). IsAnswer kept b x) e h

pub waits_of : {kept : List ReadBlock} {b : ReadBlock} (o : Offer) → o ≡ Waiting → IsAnswer kept b o → Waits kept b
waits_of {kept = kept} {b = b} o e h = subst (λ (x : Offer). IsAnswer kept b x) e h

-- a block that is taken comes to the engine
pub comes_of : {bits genesis : ℕ} {kept : List ReadBlock} {blocks : Numbered} {votes : Tallied} {k : Carried} {a : Acceptance} {p : Purse} {l : Ledger} {inside b : ReadBlock}
    → (let seen : Ledger = record { profile = blocks.profile; bits = bits; kept = kept; numbered = blocks; votes = votes } in seen) ≡ l
    → IsEngine bits kept genesis blocks votes × IsAccepting kept blocks k a × IsPaying k a p
    → inside ≡ b → IsBlock inside → IsOther b → standing_of l.kept b.id ≡ Fresh → Comes bits genesis kept blocks votes b
comes_of {b = b} view inv is block other fresh = record {
  engine = inv.0;
  block = subst (λ (x : ReadBlock). IsBlock x) is block;
  other = other;
  fresh = ap (λ (l : Ledger). standing_of l.kept b.id) view ∙ fresh;
}

-- ---- what an answer says by its kind

pub count_one : (id other n : ℕ) → Kept id n ≡ Kept other 1 → n ≡ 1
count_one id other n e = cc

pub held_is_no_growth : {P : Type 0} (id other : ℕ) → Held id ≡ Kept other 1 → P
held_is_no_growth id other e = cc

-- ---- where memory was refused

voted_as_before : (table : Numbered) (old new : Tallied) → IsAsBefore old new → AreVoted table old → AreVoted table new
voted_as_before table old new same voted = subst (λ (f : FrozenRows). AreVoted table (record { frozen = f; rows = new.rows; views = new.views; since = new.since; sums = new.sums })) (sym same.frozen)
    (subst (λ (l : List Viewed). AreVoted table (record { frozen = old.frozen; rows = new.rows; views = l; since = new.since; sums = new.sums })) (sym same.views)
    (subst (λ (n : ℕ). AreVoted table (record { frozen = old.frozen; rows = new.rows; views = old.views; since = n; sums = new.sums })) (sym same.since) (record {
      holds = record {
        frozen = voted.holds.frozen;
        views = views_move table old.rows old.frozen.blocks new.rows old.views (λ r. omega (arith, same.rows.counts r, voted.holds.shared.counts r)) (λ r some. same.rows.places r (omega (arith, some, voted.holds.shared.counts r))) voted.holds.views;
        shared = record { few = omega arith; once = λ r. omega arith; counts = λ r. omega (arith, same.rows.counts r, voted.holds.shared.counts r) };
        tips = voted.holds.tips;
      };
      every = voted.every;
      sums = subst (λ (l : List ℤ). AreSums table (range_with_len 0 (length table.parents)) l) (sym same.sums) voted.sums;
    })))

few_as_before : (old new : Tallied) → IsAsBefore old new → AreFew old → AreFew new
few_as_before old new same few more =
    let views : length new.views ≡ length old.views = ap length same.views in
    let entries : entries_of new.views ≡ entries_of old.views = ap entries_of same.views in
    omega (arith, few (omega (arith, more, views)), entries, same.rows.live)

-- all that is kept stands as before
pub stands_again : {bits genesis : ℕ} {kept kept' : List ReadBlock} {d d' : Numbered} {v v' : Tallied} {k k' : Carried} {a a' : Acceptance} {p p' : Purse} → kept' ≡ kept → d' ≡ d → IsAsBefore v v' → k' ≡ k → a' ≡ a → IsPaying k a p'
    → IsEngine bits kept genesis d v × IsAccepting kept d k a × IsPaying k a p → IsEngine bits kept' genesis d' v' × IsAccepting kept' d' k' a' × IsPaying k' a' p'
stands_again {bits} {genesis} {kept} {kept'} {d} {d'} {v} {v'} {k} {k'} {a} {a'} {p} {p'} pool dag votes carriers accepted paying was =
    subst (λ (x : List ReadBlock). IsEngine bits x genesis d' v' × IsAccepting x d' k' a' × IsPaying k' a' p') (sym pool)
    (subst (λ (x : Numbered). IsEngine bits kept genesis x v' × IsAccepting kept x k' a' × IsPaying k' a' p') (sym dag)
    (subst (λ (x : Carried). IsEngine bits kept genesis d v' × IsAccepting kept d x a' × IsPaying x a' p') (sym carriers)
    (subst (λ (x : Acceptance). IsEngine bits kept genesis d v' × IsAccepting kept d k x × IsPaying k x p') (sym accepted) (
      record {
        small = was.0.small;
        all_kept = was.0.all_kept;
        first = was.0.first;
        in_order = was.0.in_order;
        numbered = was.0.numbered;
        order = was.0.order;
        same = was.0.same;
        voted = voted_as_before d v v' votes was.0.voted;
        few = few_as_before v v' votes was.0.few;
      },
      was.1,
      paying,
    ))))
