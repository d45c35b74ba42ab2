use Rattle.std.proofs.Common.{◌≡◌, ◌≤◌, ◌<◌, ◌∙◌, ◌+◌, ◌&&◌, ◌++◌, ◌∷◌, [], ℕ, Bool, true, false, List, Option, None, ap, arith, length, refl, subst, sym}
use Rattle.std.specs.Prelude.{slice_get, unwrap_or}
use Rattle.std.proofs.lemmas.Bool.{false≢true}
use Rattle.sp_dag.specs.Numbered.{Numbered, graph_of, pairs_of}
use Rattle.sp_model.specs.Graph.{has}
use Rattle.sp_view.specs.Stored.{count_of}
use Rattle.sp_view.specs.Views.{entry_at, held, holds, IsEntry}
use Rattle.sp_view.proofs.Held.{entry_pushed, held_pushed}
use Rattle.sp_view.proofs.SoFar.{base_now, few_now, live_now, once_now, so_far_next, so_far_past, so_far_same}
use Rattle.sp_view.proofs.block_runs.derive_run.Goals as goal

pub derived_entry-requires-clause-live : goal.derived_entry-requires-clause-live
derived_entry-requires-clause-live c = λ r.
    subst (λ (e : Option (ℕ × ℕ)). holds e r ≤ count_of c.pairs.pool r) (sym c.entry_of-before.ensures)
    (live_now c.args.growth.now.set.dag.now c.args.growth.now.before.now c.args.growth.now.set.members.now c.args.base.now c.requires.so_far.0 c.pairs.pool c.pairs.entries.items c.pairs.pair r
    (c.pairs.invariant.so_far c.requires.so_far.0 c.requires.so_far.1))

pub derived_entry-requires-clause-once : goal.derived_entry-requires-clause-once
derived_entry-requires-clause-once c = λ r.
    subst (λ (e : Option (ℕ × ℕ)). holds e r ≤ 1) (sym c.entry_of-before.ensures)
    (once_now c.args.growth.now.set.dag.now c.args.growth.now.before.now c.args.growth.now.set.members.now c.args.base.now c.requires.so_far.0 c.args.pool.now c.args.entries.now.items c.pairs.pair r c.requires.so_far.1)

pub derived_entry-requires-clause-few : goal.derived_entry-requires-clause-few
derived_entry-requires-clause-few c = λ r some.
    few_now c.args.growth.now.set.dag.now c.args.growth.now.before.now c.args.growth.now.set.members.now c.args.base.now c.requires.so_far.0 c.pairs.pool c.pairs.entries.items c.pairs.pair r
    (c.pairs.invariant.so_far c.requires.so_far.0 c.requires.so_far.1) c.pairs.invariant.long
    (subst (λ (e : Option (ℕ × ℕ)). 0 < holds e r) c.entry_of-before.ensures some)

pub derived_entry-requires-clause-room : goal.derived_entry-requires-clause-room
derived_entry-requires-clause-room c =
    let so_far = c.pairs.invariant.so_far c.requires.so_far.0 c.requires.so_far.1 in
    omega (
      arith,
      so_far.few,
      so_far.based.room,
      c.pairs.invariant.long,
      c.requires.within,
      c.pair_count-pairs.ensures.value,
      c.pair_count-pairs.ensures.bound,
      c.pairs-test.true,
    )

pub derived_entry-requires-clause-entry : goal.derived_entry-requires-clause-entry
derived_entry-requires-clause-entry c = λ x y at.
    subst (λ (e : Option (ℕ × ℕ)). IsEntry (graph_of c.args.growth.now.set.dag.now) c.args.growth.now.before.now x y c.pairs.pool e) (sym c.entry_of-before.ensures)
    (base_now c.args.growth.now.set.dag.now c.args.growth.now.before.now c.args.growth.now.set.members.now c.args.base.now c.requires.so_far.0 c.pairs.pool c.pairs.entries.items c.pairs.pair x y
    (c.pairs.invariant.so_far c.requires.so_far.0 c.requires.so_far.1) at)

pub returns-in_err-entry-clause-so_far : goal.returns-in_err-entry-clause-so_far
returns-in_err-entry-clause-so_far c = λ before so_far.
    so_far_same c.args.growth.now.set.dag.now c.args.growth.now.before.now c.args.growth.now.set.members.now c.args.base.now before c.pairs.pool c.derived_entry.new.pool c.pairs.entries.items
    c.in_err-entry.ensures.err (c.pairs.invariant.so_far before so_far)

pub pairs-preserved : goal.pairs-preserved
pairs-preserved c =
    let listed : c.pairs.pair < length (pairs_of c.args.growth.now.set.dag.now) = omega (arith, c.pairs-test.true, c.requires.within) in
    record {
      long = omega (arith, c.push_reserved-in-pairs.ensures.len, c.pairs.invariant.long, c.push_reserved-in-pairs.new.self.ok.0, c.pairs.entries.ok.0);
      capacity = omega (arith, c.push_reserved-in-pairs.ensures.capacity, c.pairs.invariant.capacity);
      so_far = λ before so_far.
          so_far_next c.args.growth.now.set.dag.now c.args.growth.now.before.now c.args.growth.now.set.members.now c.args.base.now before c.pairs.pool c.derived_entry.new.pool c.pairs.entries.items
          c.push_reserved-in-pairs.new.self.items c.entry_of-before.result c.in_ok-entry.entry c.pairs.pair c.args.growth.now.grown.asked.row c.args.growth.now.grown.voting.asked.row
          (c.pairs.invariant.so_far before so_far) c.pairs.invariant.long listed c.entry_of-before.ensures c.push_reserved-in-pairs.ensures.items
          c.in_ok-entry.ensures.entry c.in_ok-entry.ensures.kept c.in_ok-entry.ensures.counts c.in_ok-entry.ensures.others c.in_ok-entry.ensures.once
          c.in_ok-entry.ensures.moved;
    }

and_false : (c d : Bool) → c ≡ false → (c && d) ≡ false
and_false true d e = absurd (false≢true (sym e))
and_false false d e = refl

pub pairs-preserved-then-not-test : goal.pairs-preserved-then-not-test
pairs-preserved-then-not-test c =
    let table : Numbered = c.args.growth.now.set.dag.now in
    let items : c.push_reserved.new.self.items ≡ c.pairs.entries.items ++ None ∷ [] = c.push_reserved.ensures.items in
    let long : length c.push_reserved.new.self.items ≡ c.pairs.pair + 1 =
    omega (arith, c.push_reserved.ensures.len, c.pairs.invariant.long, c.push_reserved.new.self.ok.0, c.pairs.entries.ok.0) in
    let out : has c.args.growth.now.set.members.now c.pair.result.0 ≡ false = sym c.test.ensures.value ∙ c.if-not-test.true in
    record {
      long = long;
      capacity = omega (arith, c.push_reserved.ensures.capacity, c.pairs.invariant.capacity);
      so_far = λ before so_far.
          so_far_past table c.args.growth.now.before.now c.args.growth.now.set.members.now c.args.base.now before c.pairs.pool c.pairs.entries.items c.push_reserved.new.self.items
          c.args.growth.now.grown.into (c.pairs.invariant.so_far before so_far) (omega (arith, long, c.pairs.invariant.long))
          (λ i. ap (λ (l : List (Option (ℕ × ℕ))). entry_at l i) items ∙ entry_pushed c.pairs.entries.items i)
          (λ r. ap (λ (l : List (Option (ℕ × ℕ))). held l r) items ∙ held_pushed c.pairs.entries.items r)
          (λ i x y le less at.
          let same : i ≡ c.pairs.pair = omega (arith, le, less, long, c.pairs.invariant.long) in
          let pair : (x, y) ≡ c.pair.result = ap (λ (o : Option (ℕ × ℕ)). unwrap_or o (0, 0)) (sym (ap (slice_get (pairs_of table)) (sym same) ∙ at) ∙ c.pair.ensures.pair) in
          let first : x ≡ c.pair.result.0 = ap (λ (q : ℕ × ℕ). q.0) pair in
          and_false (has c.args.growth.now.set.members.now x) (has c.args.growth.now.set.members.now y) (ap (has c.args.growth.now.set.members.now) first ∙ out));
    }
