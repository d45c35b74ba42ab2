-- A block is added to the graph beside the votes, before its own join.
use Rattle.std.proofs.Common.{◌≡◌, ℕ, ◌<◌, ◌≤◌, true, List, [], ◌∷◌, ◌++◌, length, map, take, Option, inl, inr, sym, ap, subst, ◌∙◌, arith, length-append}
use Rattle.std.specs.List.{range_with_len}
use Rattle.std.proofs.Math.Seq.{take-append_seam}
use Rattle.sp_dag.specs.Numbered.{AreInOrder, cut_to, IsNumbered, number_of, Numbered, with_block, with_next}
use Rattle.sp_frozen.proofs.Growth.{downset_stays, frozen_stays}
use Rattle.sp_model.specs.Graph.{has}
use Rattle.sp_view.specs.Views.{IsView, Viewed}
use Rattle.sp_view.proofs.KeptSums.{sums_stay}
use Rattle.sp_engine.specs.Votes.{AreViews, bar_row, HaveJoined, HaveJoinedBut, Tallied, tips_from}
use Rattle.sp_engine.proofs.Bars.{bar_old, map_same}
use Rattle.sp_engine.proofs.Beside.{shared_stays}
use Rattle.sp_engine.proofs.Onward.{take_more, tips_stay}
use Rattle.sp_engine.proofs.Retreat.{all_last}
use Rattle.sp_engine.proofs.Ranges.{below_range}
use Rattle.sp_engine.proofs.Sharing.{views_parts, views_stay}
use Rattle.sp_engine.proofs.StillTips.{tips_below}

-- where a block is added to the graph, all but that one have joined
pub joined_stays : (table more : Numbered) (id salt : ℕ) (ps : List ℕ) (n : ℕ) (old v : Tallied) (saved : List (Option (ℕ × ℕ))) → more ≡ with_next table id salt ps → IsNumbered table → AreInOrder more.parents
    → HaveJoined table n old v saved → HaveJoinedBut more n old v saved
joined_stays table more id salt ps n old v saved is numbered order' h =
    let after : AreInOrder (table.parents ++ ps ∷ []) = subst (λ (t : Numbered). AreInOrder t.parents) is order' in
    let parts = views_parts table v.rows v.frozen.blocks (h.joining.olds ++ h.joining.joined) (h.joining.all ∷ []) (subst (λ (l : List Viewed). AreViews table v.rows v.frozen.blocks l) (all_last table n old v saved h.joining) h.joining.views) in
    let own : IsView table h.joining.all v.rows = parts.1.0 in
    let most : h.from ≤ length table.parents = elim h.from_is [
      | inl same ↦ omega (arith, same.0, h.joining.later, h.every)
      | inr later ↦ omega (arith, later.2, h.every)
    ] in
    let below : (z : ℕ) → has h.joining.was.members z ≡ true → z < length table.parents =
    λ z there. (let less : z < n = below_range n z (ap (λ (l : List ℕ). has l z) (sym h.joining.firsts) ∙ there) in omega (arith, less, h.joining.later, h.every)) in
    subst (λ (t : Numbered). HaveJoinedBut t n old v saved) (sym is) (record {
      joining = record {
        frozen = frozen_stays table id salt ps numbered after v.frozen h.joining.frozen;
        before = frozen_stays table id salt ps numbered after old.frozen h.joining.before;
        rows = h.joining.rows;
        count = h.joining.count;
        counted = h.joining.counted;
        sound = h.joining.sound;
        tips = tips_stay table id salt ps n old numbered.order (omega (arith, h.joining.later, h.joining.frozen.within)) h.joining.tips;
        later = h.joining.later;
        views = views_stay table v.rows v.frozen.blocks id salt ps v.views numbered after h.joining.views;
        shared = shared_stays table v.rows v.views saved h.joining.shared id salt ps numbered after;
        olds = h.joining.olds;
        few = h.joining.few;
        was = h.joining.was;
        old_is = h.joining.old_is;
        firsts = h.joining.firsts;
        asked = record { row = h.joining.asked.row; down = downset_stays table id salt ps numbered after h.joining.was.members below h.joining.asked.down };
        once = h.joining.once;
        joined = h.joining.joined;
        all = h.joining.all;
        is = h.joining.is;
        saving = h.joining.saving;
        patched_is = h.joining.patched_is;
        places = h.joining.places;
        sums = sums_stay table id salt ps h.joining.all.members v.sums numbered after own.asked own.below h.joining.sums;
        sums_before = sums_stay table id salt ps h.joining.was.members old.sums numbered after h.joining.asked below h.joining.sums_before;
      };
      last = omega (arith, h.every, length-append table.parents (ps ∷ []));
      from = h.from;
      from_is = h.from_is;
      each =
          h.each
          ∙ map_same (bar_row table) (bar_row (with_next table id salt ps)) (tips_from table.parents h.from)
          (λ k there. sym (bar_old table id salt ps k numbered.order (tips_below table.parents h.from k most there)))
          ∙ ap (λ (t : List (List ℕ)). map (bar_row (with_next table id salt ps)) (tips_from t h.from)) (
          sym (take-append_seam table.parents (ps ∷ [])) ∙ ap (λ (k : ℕ). take k (table.parents ++ ps ∷ [])) (sym h.every)
          );
      members = h.members ∙ ap (range_with_len 0) (sym h.every);
      none = h.none;
    })

-- what stands in front of the new block stays
pub first_stays : (d : Numbered) (id salt : ℕ) (ps : List ℕ) (n : ℕ) → length d.ids ≡ length d.parents → length d.salts ≡ length d.parents → n ≤ length d.parents → cut_to (with_block d id salt ps) n ≡ cut_to d n
first_stays d id salt ps n long salts_long le =
    ap (λ (l : List ℕ). record { profile = d.profile; ids = l; salts = take n (with_block d id salt ps).salts; parents = take n (with_block d id salt ps).parents }) (take_more d.ids (id ∷ []) n (omega (arith, long, le)))
    ∙ ap (λ (l : List ℕ). record { profile = d.profile; ids = take n d.ids; salts = l; parents = take n (with_block d id salt ps).parents }) (take_more d.salts (salt ∷ []) n (omega (arith, salts_long, le)))
    ∙ ap (λ (l : List (List ℕ)). record { profile = d.profile; ids = take n d.ids; salts = take n d.salts; parents = l }) (take_more d.parents (map (number_of d.ids) ps ∷ []) n le)
