use Rattle.std.specs.List.{range_with_len}
use Rattle.std.specs.Prelude.{ℤ}
use Rattle.sp_view.specs.Summed.{AreRight, AreSums}
use Rattle.sp_view.proofs.KeptSums.{sums_all, sums_longer}
use Rattle.std.proofs.Common.{refl, ◌≡◌, ◌∙◌, ◌∷◌, ◌++◌, ◌≤◌, [], ℕ, List, Option, ap, sym, arith, subst, length, length-append}
use Rattle.sp_dag.specs.Numbered.{graph_of, Numbered}
use Rattle.sp_model.specs.Graph.{past}
use Rattle.sp_rows.proofs.Keeps.{on_err}
use Rattle.sp_view.specs.Saved.{IsSaving, patched}
use Rattle.sp_view.proofs.Patched.{held_patched}
use Rattle.sp_engine.proofs.Covering.{snoc}
use Rattle.sp_engine.proofs.Retreat.{all_last, saved_once}
use Rattle.sp_engine.proofs.Sharing.{held_more}
use Rattle.sp_view.specs.Views.{held, IsBest, Viewed}
use Rattle.sp_view.specs.Stored.{count_of}
use Rattle.sp_engine.specs.Votes.{AreJoining, HaveJoinedBut, held_by, IsLast, IsPut, Tallied}
use Rattle.sp_engine.proofs.Beside.{shared_lent, shared_tip}
use Rattle.sp_engine.proofs.Joined.{few_joined, joined_one, last_is, put_views}
use Rattle.sp_engine.proofs.JoiningMoves.{joining_moves}
use Rattle.sp_engine.proofs.LeftJoined.{joined_left}
use Rattle.sp_engine.proofs.votes.Votes.add.Goals as goal

pub new_tip-requires-clause-few : goal.new_tip-requires-clause-few
new_tip-requires-clause-few c =
    let v : Tallied = record { frozen = c.self.inside.frozen; rows = c.self.inside.rows; views = c.self.inside.views.items; since = c.self.inside.since; sums = c.self.inside.sums } in
    let h = subst (λ (w : Tallied). HaveJoinedBut c.args.dag.now c.requires.joining.0 c.requires.joining.1 w c.args.saved.now) (sym c.self.view_is) c.requires.joining.2 in
    let lent : length c.as_slice-views.result.now ≡ length v.views = ap length (c.as_slice-views.ensures.value ∙ c.in_ok-reserve.ensures.items) in
    omega (arith, lent, few_joined c.args.dag.now c.requires.joining.0 c.requires.joining.1 v c.args.saved.now h, h.last, c.len-blocks.ensures.value, c.len-blocks.ensures.numbered.small)

pub put_tip-requires-clause-few : goal.put_tip-requires-clause-few
put_tip-requires-clause-few c =
    let v : Tallied = record { frozen = c.self.inside.frozen; rows = c.self.inside.rows; views = c.self.inside.views.items; since = c.self.inside.since; sums = c.self.inside.sums } in
    let h = subst (λ (w : Tallied). HaveJoinedBut c.args.dag.now c.requires.joining.0 c.requires.joining.1 w c.args.saved.now) (sym c.self.view_is) c.requires.joining.2 in
    omega (
      arith,
      c.reserve.new.self.ok.0,
      ap length c.in_ok-reserve.ensures.items,
      few_joined c.args.dag.now c.requires.joining.0 c.requires.joining.1 v c.args.saved.now h,
      h.last,
      c.len-blocks.ensures.value,
      c.len-blocks.ensures.numbered.small,
    )

pub new_tip-requires-clause-shared : goal.new_tip-requires-clause-shared
new_tip-requires-clause-shared c = (
  c.args.saved.now,
  shared_lent c.args.dag.now (record { frozen = c.self.inside.frozen; rows = c.self.inside.rows; views = c.self.inside.views.items; since = c.self.inside.since; sums = c.self.inside.sums }) c.args.self.now c.as_slice-views.result.now c.args.saved.now c.self.view_is (c.as_slice-views.ensures.value ∙ c.in_ok-reserve.ensures.items) c.requires.joining.2.joining.shared,
)

pub put_tip-requires-clause-shared : goal.put_tip-requires-clause-shared
put_tip-requires-clause-shared c =
    shared_tip c.args.dag.now (record { frozen = c.self.inside.frozen; rows = c.self.inside.rows; views = c.self.inside.views.items; since = c.self.inside.since; sums = c.self.inside.sums }) c.args.self.now c.new_tip.new.rows c.in_ok-tip.tip c.as_slice-views.result.now c.reserve.new.self.items c.args.saved.now
    c.self.view_is c.as_slice-views.ensures.value c.in_ok-reserve.ensures.items (c.in_ok-tip.ensures.shared c.args.saved.now) c.requires.joining.2.joining.shared

pub put_tip-requires-clause-saved : goal.put_tip-requires-clause-saved
put_tip-requires-clause-saved c = λ front all is.
    let table : Numbered = c.args.dag.now in
    let v : Tallied = record { frozen = c.self.inside.frozen; rows = c.self.inside.rows; views = c.self.inside.views.items; since = c.self.inside.since; sums = c.self.inside.sums } in
    let h = subst (λ (w : Tallied). HaveJoinedBut table c.requires.joining.0 c.requires.joining.1 w c.args.saved.now) (sym c.self.view_is) c.requires.joining.2 in
    let j : AreJoining table c.requires.joining.0 c.requires.joining.1 v c.args.saved.now = h.joining in
    let parts = snoc front (j.olds ++ j.joined) all j.all (sym is ∙ c.in_ok-reserve.ensures.items ∙ all_last table c.requires.joining.0 c.requires.joining.1 v c.args.saved.now j) in
    subst (λ (x : Viewed). IsSaving c.args.saved.now x.entries × ((r : ℕ) → held (patched c.args.saved.now x.entries) r ≤ 1)) (sym parts.1)
    (j.saving, saved_once table c.requires.joining.0 c.requires.joining.1 v c.args.saved.now j)

pub put_tip-requires-clause-last : goal.put_tip-requires-clause-last
put_tip-requires-clause-last c = λ b at.
    let v : Tallied = record { frozen = c.self.inside.frozen; rows = c.self.inside.rows; views = c.self.inside.views.items; since = c.self.inside.since; sums = c.self.inside.sums } in
    let h = subst (λ (w : Tallied). HaveJoinedBut c.args.dag.now c.requires.joining.0 c.requires.joining.1 w c.args.saved.now) (sym c.self.view_is) c.requires.joining.2 in
    subst (λ (l : List Viewed). IsLast b l) (sym c.in_ok-reserve.ensures.items) (last_is c.args.dag.now c.requires.joining.0 c.requires.joining.1 v c.args.saved.now h b at)

pub put_tip-requires-clause-sums : goal.put_tip-requires-clause-sums
put_tip-requires-clause-sums c = λ b at.
    let table : Numbered = c.args.dag.now in
    let v : Tallied = record { frozen = c.self.inside.frozen; rows = c.self.inside.rows; views = c.self.inside.views.items; since = c.self.inside.since; sums = c.self.inside.sums } in
    let h = subst (λ (w : Tallied). HaveJoinedBut table c.requires.joining.0 c.requires.joining.1 w c.args.saved.now) (sym c.self.view_is) c.requires.joining.2 in
    let members : h.joining.all.members ≡ range_with_len 0 b = h.members ∙ ap (range_with_len 0) (let e : v.frozen.blocks ≡ b = omega (arith, at, h.last) in e) in
    subst (λ (l : List ℕ). AreRight table l c.grow.new.self) members
    (sums_longer table h.joining.all.members v.sums c.grow.new.self c.in_ok-grow.ensures.more c.in_ok-grow.ensures.same h.joining.sums).right

pub returns-in_err-grow-clause-err : goal.returns-in_err-grow-clause-err
returns-in_err-grow-clause-err c = on_err c.from_residual-in_err-grow.result (λ n old joined.
    let table : Numbered = c.args.dag.now in
    let v : Tallied = record { frozen = c.self.inside.frozen; rows = c.self.inside.rows; views = c.self.inside.views.items; since = c.self.inside.since; sums = c.self.inside.sums } in
    let h = subst (λ (w : Tallied). HaveJoinedBut table n old w c.args.saved.now) (sym c.self.view_is) joined in
    joining_moves table n old v c.args.saved.now h.joining (record { frozen = v.frozen; rows = v.rows; views = c.reserve.new.self.items; since = c.self.inside.since; sums = c.grow.new.self })
    c.in_ok-reserve.ensures.items (sums_longer table h.joining.all.members v.sums c.grow.new.self c.in_err-grow.ensures.more c.in_err-grow.ensures.same h.joining.sums)
    (λ r. refl) (λ r some. refl) h.joining.frozen (omega arith))

pub returns-in_err-tip-clause-err : goal.returns-in_err-tip-clause-err
returns-in_err-tip-clause-err c = on_err c.from_residual-in_err-tip.result (λ n old joined.
    let v : Tallied = record { frozen = c.self.inside.frozen; rows = c.self.inside.rows; views = c.self.inside.views.items; since = c.self.inside.since; sums = c.self.inside.sums } in
    let h = subst (λ (w : Tallied). HaveJoinedBut c.args.dag.now n old w c.args.saved.now) (sym c.self.view_is) joined in
    joining_moves c.args.dag.now n old v c.args.saved.now h.joining (record { frozen = c.new_tip.new.frozen; rows = c.new_tip.new.rows; views = c.reserve.new.self.items; since = c.self.inside.since; sums = c.grow.new.self })
    c.in_ok-reserve.ensures.items (sums_longer c.args.dag.now h.joining.all.members v.sums c.grow.new.self c.in_ok-grow.ensures.more c.in_ok-grow.ensures.same h.joining.sums) c.in_err-tip.ensures.err_counts c.in_err-tip.ensures.places c.in_err-tip.ensures.err_frozen.0 c.in_err-tip.ensures.err_frozen.1)

pub returns-in_err-put_tip-clause-err : goal.returns-in_err-put_tip-clause-err
returns-in_err-put_tip-clause-err c = on_err c.from_residual-in_err-put_tip.result (λ n old joined.
    let table : Numbered = c.args.dag.now in
    let v : Tallied = record { frozen = c.self.inside.frozen; rows = c.self.inside.rows; views = c.self.inside.views.items; since = c.self.inside.since; sums = c.self.inside.sums } in
    let h = subst (λ (w : Tallied). HaveJoinedBut table n old w c.args.saved.now) (sym c.self.view_is) joined in
    let tip = shared_tip table v c.args.self.now c.new_tip.new.rows c.in_ok-tip.tip c.as_slice-views.result.now c.reserve.new.self.items c.args.saved.now
    c.self.view_is c.as_slice-views.ensures.value c.in_ok-reserve.ensures.items (c.in_ok-tip.ensures.shared c.args.saved.now) joined.joining.shared in
    let counts : (r : ℕ) → count_of c.put_tip.new.rows r ≡ count_of v.rows r = λ r.
    omega (arith, c.in_err-put_tip.ensures.err_counts r, tip.counts r, h.joining.shared.counts r, ap (λ (l : List Viewed). held_by l r) c.in_ok-reserve.ensures.items) in
    subst (λ (l : List (Option (ℕ × ℕ))). AreJoining table n old (record { frozen = c.new_tip.new.frozen; rows = c.put_tip.new.rows; views = c.put_tip.new.views.items; since = c.self.inside.since; sums = c.put_tip.new.sums }) l) (sym c.in_err-put_tip.ensures.err_saved)
    (joining_moves table n old v c.args.saved.now h.joining (record { frozen = c.new_tip.new.frozen; rows = c.put_tip.new.rows; views = c.put_tip.new.views.items; since = c.self.inside.since; sums = c.put_tip.new.sums })
    (c.in_err-put_tip.ensures.err ∙ c.in_ok-reserve.ensures.items)
    (subst (λ (l : List ℤ). AreSums table h.joining.all.members l) (sym c.in_err-put_tip.ensures.err_sums)
    (sums_longer table h.joining.all.members v.sums c.grow.new.self c.in_ok-grow.ensures.more c.in_ok-grow.ensures.same h.joining.sums))
    counts
    (λ r some. c.in_err-put_tip.ensures.err_rows r (omega (arith, some, counts r)) ∙ c.in_ok-tip.ensures.places r some)
    c.in_ok-tip.ensures.frozen (omega (arith, c.in_ok-tip.ensures.blocks))))

pub release_covered-requires-clause-within : goal.release_covered-requires-clause-within
release_covered-requires-clause-within c =
    let table : Numbered = c.args.dag.now in
    let v : Tallied = record { frozen = c.self.inside.frozen; rows = c.self.inside.rows; views = c.self.inside.views.items; since = c.self.inside.since; sums = c.self.inside.sums } in
    let h = subst (λ (w : Tallied). HaveJoinedBut table c.requires.joining.0 c.requires.joining.1 w c.args.saved.now) (sym c.self.view_is) c.requires.joining.2 in
    let tip = shared_tip table v c.args.self.now c.new_tip.new.rows c.in_ok-tip.tip c.as_slice-views.result.now c.reserve.new.self.items c.args.saved.now
    c.self.view_is c.as_slice-views.ensures.value c.in_ok-reserve.ensures.items (c.in_ok-tip.ensures.shared c.args.saved.now) c.requires.joining.2.joining.shared in
    let put : IsPut table v.frozen.blocks v.views c.in_ok-tip.tip c.put_tip.new.views.items c.args.saved.now c.put_tip.new.saved =
    subst (λ (l : List Viewed). IsPut table v.frozen.blocks l c.in_ok-tip.tip c.put_tip.new.views.items c.args.saved.now c.put_tip.new.saved) c.in_ok-reserve.ensures.items (c.in_ok-put_tip.ensures.put v.frozen.blocks h.last) in
    let w : Tallied = record { frozen = c.new_tip.new.frozen; rows = c.put_tip.new.rows; views = c.put_tip.new.views.items; since = c.self.inside.since; sums = c.put_tip.new.sums } in
    omega (
      arith,
      c.requires.joining.3,
      ap length h.joining.old_is,
      length-append h.joining.olds (h.joining.was ∷ []),
      ap length (put_views table c.requires.joining.0 c.requires.joining.1 v c.args.saved.now h w c.in_ok-tip.tip c.put_tip.new.saved put),
      length-append h.joining.olds ((h.joining.joined ++ c.in_ok-tip.tip ∷ []) ++ put.more ∷ []),
      c.put_tip.new.views.ok.0,
    )

pub release_covered-requires-clause-counts : goal.release_covered-requires-clause-counts
release_covered-requires-clause-counts c = λ r.
    let table : Numbered = c.args.dag.now in
    let v : Tallied = record { frozen = c.self.inside.frozen; rows = c.self.inside.rows; views = c.self.inside.views.items; since = c.self.inside.since; sums = c.self.inside.sums } in
    let h = subst (λ (w : Tallied). HaveJoinedBut table c.requires.joining.0 c.requires.joining.1 w c.args.saved.now) (sym c.self.view_is) c.requires.joining.2 in
    let tip = shared_tip table v c.args.self.now c.new_tip.new.rows c.in_ok-tip.tip c.as_slice-views.result.now c.reserve.new.self.items c.args.saved.now
    c.self.view_is c.as_slice-views.ensures.value c.in_ok-reserve.ensures.items (c.in_ok-tip.ensures.shared c.args.saved.now) c.requires.joining.2.joining.shared in
    omega (arith, c.in_ok-put_tip.ensures.shared.counts r)

pub release_covered-requires-clause-views : goal.release_covered-requires-clause-views
release_covered-requires-clause-views c = (c.new_tip.new.frozen.blocks, c.in_ok-put_tip.ensures.views)

pub release_excess-since-requires : goal.release_excess-since-requires
release_excess-since-requires c = record { counts = λ r. omega (arith, c.in_ok-put_tip.ensures.shared.counts r, c.release_covered.ensures.counts r) }

pub returns-clause-joined : goal.returns-clause-joined
returns-clause-joined c = λ n old joined tips.
    let table : Numbered = c.args.dag.now in
    let v : Tallied = record { frozen = c.self.inside.frozen; rows = c.self.inside.rows; views = c.self.inside.views.items; since = c.self.inside.since; sums = c.self.inside.sums } in
    let h = subst (λ (w : Tallied). HaveJoinedBut table n old w c.args.saved.now) (sym c.self.view_is) joined in
    let tip = shared_tip table v c.args.self.now c.new_tip.new.rows c.in_ok-tip.tip c.as_slice-views.result.now c.reserve.new.self.items c.args.saved.now
    c.self.view_is c.as_slice-views.ensures.value c.in_ok-reserve.ensures.items (c.in_ok-tip.ensures.shared c.args.saved.now) joined.joining.shared in
    let put : IsPut table v.frozen.blocks v.views c.in_ok-tip.tip c.put_tip.new.views.items c.args.saved.now c.put_tip.new.saved =
    subst (λ (l : List Viewed). IsPut table v.frozen.blocks l c.in_ok-tip.tip c.put_tip.new.views.items c.args.saved.now c.put_tip.new.saved) c.in_ok-reserve.ensures.items (c.in_ok-put_tip.ensures.put v.frozen.blocks h.last) in
    let w : Tallied = record { frozen = c.new_tip.new.frozen; rows = c.put_tip.new.rows; views = c.put_tip.new.views.items; since = c.self.inside.since; sums = c.put_tip.new.sums } in
    let front : c.args.tips ≡ length h.joining.olds = omega (arith, tips, ap length h.joining.old_is, length-append h.joining.olds (h.joining.was ∷ [])) in
    let h' = joined_one table n old v c.args.saved.now h w c.in_ok-tip.tip c.in_ok-tip.ensures.frozen c.in_ok-tip.ensures.blocks c.put_tip.new.saved c.in_ok-put_tip.ensures.shared put
    (λ r front all is more some.
    c.in_ok-put_tip.ensures.places r front all (c.in_ok-reserve.ensures.items ∙ is)
    (omega (arith, more, tip.counts r, h.joining.shared.counts r, ap (λ (l : List Viewed). held_by l r) c.in_ok-reserve.ensures.items)) some
    ∙ c.in_ok-tip.ensures.places r (omega (arith, more)))
    (λ r front all is more some.
    c.in_ok-put_tip.ensures.saved_places r front all (c.in_ok-reserve.ensures.items ∙ is) more some
    ∙ c.in_ok-tip.ensures.places r (omega (
      arith,
      more,
      held_patched c.args.saved.now all.entries r,
      h.joining.shared.counts r,
      ap (λ (l : List Viewed). held_by l r) is,
      held_more front (all ∷ []) r,
    )))
    c.len-blocks.ensures.numbered.order c.len-blocks.ensures.numbered.small c.in_ok-tip.ensures.members
    (λ i base best. c.in_ok-tip.ensures.kept i base (subst (λ (l : List Viewed). IsBest l (past (graph_of table) v.frozen.blocks) i base) (sym (c.as_slice-views.ensures.value ∙ c.in_ok-reserve.ensures.items)) best))
    c.release_covered.new.rows c.release_covered.new.views.items
    (c.release_covered.ensures.rest h.joining.olds ((h.joining.joined ++ c.in_ok-tip.tip ∷ []) ++ put.more ∷ []) front (put_views table n old v c.args.saved.now h w c.in_ok-tip.tip c.put_tip.new.saved put))
    (c.release_covered.ensures.views table w.frozen.blocks c.in_ok-put_tip.ensures.views) c.release_covered.ensures.counts c.release_covered.ensures.rows
    (sums_all table (range_with_len 0 (length table.parents)) c.put_tip.new.sums (omega (arith, c.in_ok-grow.ensures.long, c.in_ok-put_tip.ensures.as_long)) c.in_ok-put_tip.ensures.sums) in
    let front' : c.args.tips ≡ length h'.joining.olds = omega (arith, tips, ap length h'.joining.old_is, length-append h'.joining.olds (h'.joining.was ∷ [])) in
    joined_left table n old _ c.put_tip.new.saved h' c.release_excess-since.new.rows c.release_excess-since.new.views.items c.release_excess-since.result
    (c.release_excess-since.ensures.left table h'.joining.olds h'.joining.joined h'.joining.all h'.from c.len-blocks.ensures.numbered.order c.len-blocks.ensures.numbered.small front' h'.joining.is h'.each)
    (λ few. c.release_excess-since.ensures.two (omega (arith, few, front', c.release_covered.new.views.ok.0)))
    (c.release_excess-since.ensures.views table w.frozen.blocks (c.release_covered.ensures.views table w.frozen.blocks c.in_ok-put_tip.ensures.views))
    c.release_excess-since.ensures.counts c.release_excess-since.ensures.rows
