use Rattle.std.specs.List.{range_with_len}
use Rattle.sp_view.specs.Summed.{AreRight}
use Rattle.std.proofs.Common.{ap, ◌+◌, ◌≡◌, ◌∙◌, ◌≤◌, ◌-◌, ℕ, List, ◌∷◌, ◌++◌, [], sym, arith, subst, length}
use Rattle.sp_dag.specs.Numbered.{Numbered, pairs_of}
use Rattle.sp_view.specs.Views.{Viewed}
use Rattle.sp_engine.specs.Votes.{AreShared, AreViews, held_by, IsPut}
use Rattle.sp_engine.proofs.Sharing.{held_more}
use Rattle.sp_engine.proofs.Beside.{few_counted, few_live_beside}
use Rattle.sp_engine.proofs.Ending.{IsAtEnd, at_end, below_after, is_put, last_below, last_new, last_past, last_view, members_after, put_before, shared_put, some_there, views_after}
use Rattle.sp_engine.proofs.Replacing.{same_row}
use Rattle.sp_engine.proofs.joining.put_tip.Goals as goal

pub overflow_sub-last : goal.overflow_sub-last
overflow_sub-last c = omega (arith, c.len-last.ensures, some_there c.args.dag.now c.len-b.result c.args.views.now.items c.len-b.ensures.value c.len-b.ensures.numbered.some c.requires.last)

pub index_mut-requires : goal.index_mut-requires
index_mut-requires c = omega (arith, c.len-last.ensures, some_there c.args.dag.now c.len-b.result c.args.views.now.items c.len-b.ensures.value c.len-b.ensures.numbered.some c.requires.last)

pub add_with_sums-requires-clause-view : goal.add_with_sums-requires-clause-view
add_with_sums-requires-clause-view c =
    let table : Numbered = c.args.dag.now in
    let rows = c.args.rows.now in
    let b : ℕ = c.len-b.result - 1 in
    let n : ℕ = c.args.frozen.now.blocks in
    let views : List Viewed = c.args.views.now.items in
    let view : Viewed = c.index_mut.result.now in
    let end : IsAtEnd b (c.len-last.result - 1) views view =
    at_end table c.len-b.result c.len-last.result views view c.len-b.ensures.value c.len-b.ensures.numbered.some (c.len-last.ensures ∙ c.args.views.now.ok.0) c.requires.last c.index_mut.ensures.value in
    last_view table rows b n views view c.args.tip end.ends c.requires.views

pub add_with_sums-requires-clause-added : goal.add_with_sums-requires-clause-added
add_with_sums-requires-clause-added c =
    let table : Numbered = c.args.dag.now in
    let rows = c.args.rows.now in
    let b : ℕ = c.len-b.result - 1 in
    let n : ℕ = c.args.frozen.now.blocks in
    let views : List Viewed = c.args.views.now.items in
    let view : Viewed = c.index_mut.result.now in
    let end : IsAtEnd b (c.len-last.result - 1) views view =
    at_end table c.len-b.result c.len-last.result views view c.len-b.ensures.value c.len-b.ensures.numbered.some (c.len-last.ensures ∙ c.args.views.now.ok.0) c.requires.last c.index_mut.ensures.value in
    last_below table rows b n views view c.args.tip end.ends c.requires.views

pub add_with_sums-requires-clause-new : goal.add_with_sums-requires-clause-new
add_with_sums-requires-clause-new c =
    let table : Numbered = c.args.dag.now in
    let rows = c.args.rows.now in
    let b : ℕ = c.len-b.result - 1 in
    let n : ℕ = c.args.frozen.now.blocks in
    let views : List Viewed = c.args.views.now.items in
    let view : Viewed = c.index_mut.result.now in
    let end : IsAtEnd b (c.len-last.result - 1) views view =
    at_end table c.len-b.result c.len-last.result views view c.len-b.ensures.value c.len-b.ensures.numbered.some (c.len-last.ensures ∙ c.args.views.now.ok.0) c.requires.last c.index_mut.ensures.value in
    last_new table rows b n views view c.args.tip end.ends c.requires.views

pub add_with_sums-requires-clause-past : goal.add_with_sums-requires-clause-past
add_with_sums-requires-clause-past c =
    let table : Numbered = c.args.dag.now in
    let rows = c.args.rows.now in
    let b : ℕ = c.len-b.result - 1 in
    let n : ℕ = c.args.frozen.now.blocks in
    let views : List Viewed = c.args.views.now.items in
    let view : Viewed = c.index_mut.result.now in
    let end : IsAtEnd b (c.len-last.result - 1) views view =
    at_end table c.len-b.result c.len-last.result views view c.len-b.ensures.value c.len-b.ensures.numbered.some (c.len-last.ensures ∙ c.args.views.now.ok.0) c.requires.last c.index_mut.ensures.value in
    last_past table rows b n views view c.args.tip end.ends c.requires.views c.len-b.ensures.numbered.order (omega (arith, c.len-b.ensures.value, c.len-b.ensures.numbered.some))

pub add_with_sums-requires-clause-few : goal.add_with_sums-requires-clause-few
add_with_sums-requires-clause-few c =
    let table : Numbered = c.args.dag.now in
    let rows = c.args.rows.now in
    let b : ℕ = c.len-b.result - 1 in
    let n : ℕ = c.args.frozen.now.blocks in
    let views : List Viewed = c.args.views.now.items in
    let view : Viewed = c.index_mut.result.now in
    let end : IsAtEnd b (c.len-last.result - 1) views view =
    at_end table c.len-b.result c.len-last.result views view c.len-b.ensures.value c.len-b.ensures.numbered.some (c.len-last.ensures ∙ c.args.views.now.ok.0) c.requires.last c.index_mut.ensures.value in
    let small : length (pairs_of table) ≤ 130816 = omega (arith, c.pair_count-pairs.ensures.value, c.pair_count-pairs.ensures.bound) in
    omega (
      arith,
      few_live_beside table rows (c.args.tip ∷ views) c.args.saved.now c.requires.shared n small c.requires.views c.live-live.ensures.rows,
      c.requires.few,
      c.args.views.now.ok.0,
    )

pub returns-in-Ok-insert-clause-put : goal.returns-in-Ok-insert-clause-put
returns-in-Ok-insert-clause-put c =
    let table : Numbered = c.args.dag.now in
    let rows = c.args.rows.now in
    let b : ℕ = c.len-b.result - 1 in
    let n : ℕ = c.args.frozen.now.blocks in
    let views : List Viewed = c.args.views.now.items in
    let view : Viewed = c.index_mut.result.now in
    let end : IsAtEnd b (c.len-last.result - 1) views view =
    at_end table c.len-b.result c.len-last.result views view c.len-b.ensures.value c.len-b.ensures.numbered.some (c.len-last.ensures ∙ c.args.views.now.ok.0) c.requires.last c.index_mut.ensures.value in
    let new : Viewed = c.add_with_sums.new.self in
    let items : c.insert.new.self.items ≡ end.ends.front ++ c.args.tip ∷ new ∷ [] = c.in-Ok-insert.ensures.items ∙ put_before b views (c.len-last.result - 1) view new c.args.tip end.ends end.place in
    let members = members_after table rows b n views view c.args.tip end.ends c.requires.views new (omega (arith, c.len-b.ensures.value, c.len-b.ensures.numbered.some, c.len-b.ensures.numbered.small)) c.in-Ok.ensures.members in
    λ k at. subst (λ (m : ℕ). IsPut table m views c.args.tip c.insert.new.self.items c.args.saved.now c.add_with_sums.new.saved) (let e : b ≡ k = omega (arith, c.len-b.ensures.value, at) in e) (is_put table rows b n views view c.args.tip end.ends c.requires.views c.insert.new.self.items new c.args.saved.now c.add_with_sums.new.saved items members c.in-Ok.ensures.kept c.add_with_sums.ensures.saved c.add_with_sums.ensures.patched)

pub add_with_sums-requires-clause-sums : goal.add_with_sums-requires-clause-sums
add_with_sums-requires-clause-sums c =
    let table : Numbered = c.args.dag.now in
    let b : ℕ = c.len-b.result - 1 in
    let views : List Viewed = c.args.views.now.items in
    let view : Viewed = c.index_mut.result.now in
    let end : IsAtEnd b (c.len-last.result - 1) views view =
    at_end table c.len-b.result c.len-last.result views view c.len-b.ensures.value c.len-b.ensures.numbered.some (c.len-last.ensures ∙ c.args.views.now.ok.0) c.requires.last c.index_mut.ensures.value in
    subst (λ (l : List ℕ). AreRight table l c.args.sums.now) (sym end.ends.members) (c.requires.sums b (omega (arith, c.len-b.ensures.value, c.len-b.ensures.numbered.some)))

pub returns-in-Ok-insert-clause-sums : goal.returns-in-Ok-insert-clause-sums
returns-in-Ok-insert-clause-sums c =
    let table : Numbered = c.args.dag.now in
    let rows = c.args.rows.now in
    let b : ℕ = c.len-b.result - 1 in
    let n : ℕ = c.args.frozen.now.blocks in
    let views : List Viewed = c.args.views.now.items in
    let view : Viewed = c.index_mut.result.now in
    let end : IsAtEnd b (c.len-last.result - 1) views view =
    at_end table c.len-b.result c.len-last.result views view c.len-b.ensures.value c.len-b.ensures.numbered.some (c.len-last.ensures ∙ c.args.views.now.ok.0) c.requires.last c.index_mut.ensures.value in
    let new : Viewed = c.add_with_sums.new.self in
    let members : new.members ≡ range_with_len 0 (b + 1) = members_after table rows b n views view c.args.tip end.ends c.requires.views new (omega (arith, c.len-b.ensures.value, c.len-b.ensures.numbered.some, c.len-b.ensures.numbered.small)) c.in-Ok.ensures.members in
    subst (λ (l : List ℕ). AreRight table l c.add_with_sums.new.sums)
    (members ∙ ap (range_with_len 0) (let e : b + 1 ≡ length table.parents = omega (arith, c.len-b.ensures.value, c.len-b.ensures.numbered.some) in e))
    c.in-Ok.ensures.sums

pub returns-in-Ok-insert-clause-views : goal.returns-in-Ok-insert-clause-views
returns-in-Ok-insert-clause-views c =
    let table : Numbered = c.args.dag.now in
    let rows = c.args.rows.now in
    let b : ℕ = c.len-b.result - 1 in
    let n : ℕ = c.args.frozen.now.blocks in
    let views : List Viewed = c.args.views.now.items in
    let view : Viewed = c.index_mut.result.now in
    let end : IsAtEnd b (c.len-last.result - 1) views view =
    at_end table c.len-b.result c.len-last.result views view c.len-b.ensures.value c.len-b.ensures.numbered.some (c.len-last.ensures ∙ c.args.views.now.ok.0) c.requires.last c.index_mut.ensures.value in
    let new : Viewed = c.add_with_sums.new.self in
    let items : c.insert.new.self.items ≡ end.ends.front ++ c.args.tip ∷ new ∷ [] = c.in-Ok-insert.ensures.items ∙ put_before b views (c.len-last.result - 1) view new c.args.tip end.ends end.place in
    let members = members_after table rows b n views view c.args.tip end.ends c.requires.views new (omega (arith, c.len-b.ensures.value, c.len-b.ensures.numbered.some, c.len-b.ensures.numbered.small)) c.in-Ok.ensures.members in
    subst (λ (l : List Viewed). AreViews table c.add_with_sums.new.pool n l) (sym items)
    (views_after table rows b n views view c.args.tip end.ends c.requires.views c.add_with_sums.new.pool new c.args.saved.now c.add_with_sums.new.saved c.requires.shared c.add_with_sums.ensures.counts c.add_with_sums.ensures.others c.in-Ok.ensures.ok
    (below_after table rows b n views view c.args.tip end.ends c.requires.views new (omega (arith, c.len-b.ensures.value, c.len-b.ensures.numbered.some, c.requires.next)) members))

pub returns-in-Ok-insert-clause-shared : goal.returns-in-Ok-insert-clause-shared
returns-in-Ok-insert-clause-shared c =
    let table : Numbered = c.args.dag.now in
    let rows = c.args.rows.now in
    let b : ℕ = c.len-b.result - 1 in
    let n : ℕ = c.args.frozen.now.blocks in
    let views : List Viewed = c.args.views.now.items in
    let view : Viewed = c.index_mut.result.now in
    let end : IsAtEnd b (c.len-last.result - 1) views view =
    at_end table c.len-b.result c.len-last.result views view c.len-b.ensures.value c.len-b.ensures.numbered.some (c.len-last.ensures ∙ c.args.views.now.ok.0) c.requires.last c.index_mut.ensures.value in
    let new : Viewed = c.add_with_sums.new.self in
    let items : c.insert.new.self.items ≡ end.ends.front ++ c.args.tip ∷ new ∷ [] = c.in-Ok-insert.ensures.items ∙ put_before b views (c.len-last.result - 1) view new c.args.tip end.ends end.place in
    let parts = c.requires.saved end.ends.front view end.ends.is in
    subst (λ (l : List Viewed). AreShared table c.add_with_sums.new.pool l c.add_with_sums.new.saved) (sym items)
    (shared_put table rows b n views view c.args.tip end.ends c.requires.views c.add_with_sums.new.pool new c.args.saved.now c.add_with_sums.new.saved c.requires.shared c.add_with_sums.ensures.counts c.add_with_sums.ensures.others
    c.add_with_sums.ensures.patched parts.1)

pub returns-in-Err-clause-err_rows : goal.returns-in-Err-clause-err_rows
returns-in-Err-clause-err_rows c = λ row some. c.release.ensures.rows row some ∙ same_row c.args.rows.now c.add_with_sums.new.pool row c.in-Err.ensures.err_rows

pub add_with_sums-requires-clause-saved : goal.add_with_sums-requires-clause-saved
add_with_sums-requires-clause-saved c =
    let table : Numbered = c.args.dag.now in
    let rows = c.args.rows.now in
    let b : ℕ = c.len-b.result - 1 in
    let n : ℕ = c.args.frozen.now.blocks in
    let views : List Viewed = c.args.views.now.items in
    let view : Viewed = c.index_mut.result.now in
    let end : IsAtEnd b (c.len-last.result - 1) views view =
    at_end table c.len-b.result c.len-last.result views view c.len-b.ensures.value c.len-b.ensures.numbered.some (c.len-last.ensures ∙ c.args.views.now.ok.0) c.requires.last c.index_mut.ensures.value in
    (c.requires.saved end.ends.front view end.ends.is).0

pub add_with_sums-requires-clause-saved_live : goal.add_with_sums-requires-clause-saved_live
add_with_sums-requires-clause-saved_live c = λ r.
    let table : Numbered = c.args.dag.now in
    let rows = c.args.rows.now in
    let b : ℕ = c.len-b.result - 1 in
    let n : ℕ = c.args.frozen.now.blocks in
    let views : List Viewed = c.args.views.now.items in
    let view : Viewed = c.index_mut.result.now in
    let end : IsAtEnd b (c.len-last.result - 1) views view =
    at_end table c.len-b.result c.len-last.result views view c.len-b.ensures.value c.len-b.ensures.numbered.some (c.len-last.ensures ∙ c.args.views.now.ok.0) c.requires.last c.index_mut.ensures.value in
    omega (arith, c.requires.shared.counts r, ap (λ (l : List Viewed). held_by l r) end.ends.is, held_more end.ends.front (view ∷ []) r)

pub add_with_sums-requires-clause-saved_few : goal.add_with_sums-requires-clause-saved_few
add_with_sums-requires-clause-saved_few c = λ some r.
    omega (
      arith,
      few_counted c.args.dag.now c.args.rows.now (c.args.tip ∷ c.args.views.now.items) c.args.saved.now c.requires.shared c.args.frozen.now.blocks c.requires.views r,
      c.requires.few,
      c.args.views.now.ok.0,
    )
