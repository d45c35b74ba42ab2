-- What the votes of all blocks say of the views: that of all blocks is one, and so is that of each tip.
use Rattle.std.proofs.Common.{◌≡◌, ℕ, ◌+◌, ◌-◌, ◌<◌, ◌≤◌, true, List, [], ◌∷◌, length, take, sym, ap, subst, ◌∙◌, Option, Some, arith, length-append}
use Rattle.std.specs.Prelude.{slice_get}
use Rattle.std.specs.List.{range_with_len}
use Rattle.std.proofs.lemmas.List.{take_all}
use Rattle.sp_bits.specs.Places.{IsGreatest}
use Rattle.sp_dag.specs.Numbered.{Numbered, AreInOrder}
use Rattle.sp_model.specs.Graph.{has}
use Rattle.sp_model.proofs.Sets.{has-filter_from}
use Rattle.sp_view.specs.Views.{IsView, Viewed}
use Rattle.sp_engine.specs.Votes.{AreOfTips, AreVotedBeside, bar_row, is_tip, IsOfAll, IsOfTip, Tallied, tips_from}
use Rattle.sp_engine.proofs.Bars.{one_top, top_of_bar}
use Rattle.sp_engine.proofs.Covering.{all_is, of_tip, tip_view_there}
use Rattle.sp_engine.proofs.Ranges.{in_range}
use Rattle.sp_engine.proofs.Sharing.{view_of}

module _ (table : Numbered) (v : Tallied) {saved : List (Option (ℕ × ℕ))} (voted : AreVotedBeside table v saved) where
  tips : AreOfTips table (length table.parents) v.since v.views
  tips = subst (λ (n : ℕ). AreOfTips table n v.since v.views) voted.every voted.holds.tips

  pub some_view : 0 < length v.views
  some_view = omega (arith, ap length tips.is, length-append tips.tips (tips.all ∷ []))

  pub all_members : (view : Viewed) → IsOfAll v view → view.members ≡ range_with_len 0 (length table.parents)
  all_members view h = ap (λ (w : Viewed). w.members) (all_is v tips.tips tips.all view tips.is h) ∙ tips.members

  pub is_view : (i : ℕ) (view : Viewed) → slice_get v.views i ≡ Some view → IsView table view v.rows
  is_view i view at = (view_of table v.rows v.frozen.blocks v.views i view voted.holds.views at).0

  pub below_all : (i : ℕ) (view : Viewed) → slice_get v.views i ≡ Some view → (z : ℕ) → has view.members z ≡ true → z < v.frozen.blocks
  below_all i view at = (view_of table v.rows v.frozen.blocks v.views i view voted.holds.views at).1

  module _ (order : AreInOrder table.parents) (small : length table.parents ≤ 512) where
    -- a view before the last one is that of its highest member, which is a tip
    pub is_of_tip : (i n : ℕ) (view : Viewed) → slice_get v.views i ≡ Some view → i + 1 < length v.views → IsGreatest view.members n → IsOfTip table v n view × (is_tip table.parents n ≡ true)
    is_of_tip i n view at lt top =
        let one = of_tip table (length table.parents) v.since v.views i view tips (omega arith) at lt in
        let same : n ≡ one.0 = one_top table order small view.members one.0 n one.1 one.3 top in (
          (i, at, lt, one.3 ∙ ap (bar_row table) (sym same)),
          ap (is_tip table.parents) same ∙ ap (λ (t : List (List ℕ)). is_tip t one.0) (sym (take_all (length table.parents) table.parents (omega arith))) ∙ one.2,
        )

    -- and each tip from a number on is the highest member of one
    pub has_view : (n : ℕ) → n < length table.parents → v.since ≤ n → is_tip table.parents n ≡ true → (i : ℕ) × (view : Viewed) × (slice_get v.views i ≡ Some view) × (i + 1 < length v.views) × IsGreatest view.members n
    has_view n lt later tip =
        let there : has (tips_from (take (length table.parents) table.parents) v.since) n ≡ true =
        ap (λ (t : List (List ℕ)). has (tips_from t v.since) n) (take_all (length table.parents) table.parents (omega arith)) ∙ has-filter_from (is_tip table.parents) (range_with_len v.since (length table.parents - v.since)) n (in_range v.since (length table.parents - v.since) n later (omega (arith, lt, later))) tip in
        let one = tip_view_there table (length table.parents) v.since v.views n tips there in
        (one.0, one.1, one.2, one.3, subst (λ (l : List ℕ). IsGreatest l n) (sym one.4) (top_of_bar table order small n lt))
