use Rattle.std.proofs.Common.{◌≡◌, ◌∙◌, ◌<◌, Some, ap, arith, false, get_or, length, sym, true}
use Rattle.std.specs.Prelude.{slice_get, is_some}
use Rattle.sp_dag.specs.Numbered.{graph_of, pairs_of}
use Rattle.sp_view.specs.Views.{Viewed, entry_at}
use Rattle.sp_view.proofs.Changes.{changed_end, changed_out, changed_step}
use Rattle.sp_view.proofs.Held.{some_pair}
use Rattle.sp_view.proofs.Votes.{entry_inside}
use Rattle.sp_view.proofs.view.View.changed.Goals as goal
use Rattle.sp_view.proofs.view.View.changed.Goals.{then-is_some+then-differs+in_ok-push, else-is_some, else-is_some-via-then-is_some+else-differs, else-is_some-via-else-is_some}

pub pairs-preserved : goal.pairs-preserved
pairs-preserved c =
    let long : length c.self.inside.entries.items ≡ length c.args.self.now.entries = ap (λ (v : Viewed). length v.entries) c.self.view_is in
    record {
      list = λ table is before holds added older_added.
          let listed : c.pairs.i < length (pairs_of table) = omega (arith, is.few, long, c.len-i-end.ensures, c.self.inside.entries.ok.0) in
          let pair = get_or (pairs_of table) c.pairs.i (0, 0) in
          let at : slice_get (pairs_of table) c.pairs.i ≡ Some (pair.0, pair.1) = some_pair (pairs_of table) c.pairs.i listed in
          elim c.if-is_some.branch [
            | then-is_some+then-differs+in_ok-push w ↦ changed_step table c.args.older.now.members c.args.self.now.members c.pairs.i pair.0 pair.1 c.pairs.list.items c.if-is_some.list.items true at
                (sym (w.differs.ensures table pair.0 pair.1 is before holds added older_added at) ∙ w.if-differs.true)
                (ap (λ v. v.items) w.list-is ∙ w.in_ok-push.ensures.items) (c.pairs.invariant.list table is before holds added older_added)
            | else-is_some w ↦ changed_step table c.args.older.now.members c.args.self.now.members c.pairs.i pair.0 pair.1 c.pairs.list.items c.if-is_some.list.items false at
                (elim w.else-is_some.branch [
                  | else-is_some-via-then-is_some+else-differs w' ↦ sym (w'.differs.ensures table pair.0 pair.1 is before holds added older_added at) ∙ w'.if-differs.false
                  | else-is_some-via-else-is_some w' ↦ changed_out (graph_of table) c.args.older.now.members c.args.self.now.members pair.0 pair.1
                      (entry_inside (graph_of table) c.args.self.now.members pair.0 pair.1 c.args.pool.now (entry_at c.args.self.now.entries c.pairs.i) (is.entry c.pairs.i pair.0 pair.1 at)
                      ∙ ap is_some (sym c.entry.ensures) ∙ sym c.is_some.ensures ∙ w'.if-is_some.false)
                ])
                (ap (λ v. v.items) w.list-is) (c.pairs.invariant.list table is before holds added older_added)
          ];
    }

pub returns : goal.returns
returns c = λ table is before holds added older_added.
    let long : length c.self.inside.entries.items ≡ length c.args.self.now.entries = ap (λ (v : Viewed). length v.entries) c.self.view_is in
    changed_end table c.args.older.now.members c.args.self.now c.args.pool.now c.pairs.i c.pairs.list.items is (omega (arith, long, c.len-i-end.ensures, c.self.inside.entries.ok.0)) (c.pairs.invariant.list table is before holds added older_added)
