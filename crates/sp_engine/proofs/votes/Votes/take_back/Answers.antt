use Rattle.std.proofs.Common.{◌≡◌, ◌∙◌, ◌++◌, ◌∷◌, [], ℕ, List, Option, sym, arith, subst}
use Rattle.sp_dag.specs.Numbered.{Numbered}
use Rattle.sp_view.specs.Views.{Viewed}
use Rattle.sp_engine.specs.Votes.{AreJoining, Tallied}
use Rattle.sp_engine.proofs.Retreat.{all_last, held_beside, put_parts, same_rows, saved_once, tips_at, tips_within}
use Rattle.sp_engine.proofs.votes.Votes.take_back.Goals as goal

pub restore_last-requires-clause-counts : goal.restore_last-requires-clause-counts
restore_last-requires-clause-counts c = λ r.
    let v : Tallied = record { frozen = c.self.inside.frozen; rows = c.self.inside.rows; views = c.self.inside.views.items; since = c.self.inside.since; sums = c.self.inside.sums } in
    let j : AreJoining c.args.dag.now c.args.before.blocks c.requires.joining.0 v c.args.before.saved = subst (λ (w : Tallied). AreJoining c.args.dag.now c.args.before.blocks c.requires.joining.0 w c.args.before.saved) (sym c.self.view_is) c.requires.joining.1 in
    held_beside c.args.dag.now c.args.before.blocks c.requires.joining.0 v c.args.before.saved j r

pub restore_last-requires-clause-saved : goal.restore_last-requires-clause-saved
restore_last-requires-clause-saved c =
    let v : Tallied = record { frozen = c.self.inside.frozen; rows = c.self.inside.rows; views = c.self.inside.views.items; since = c.self.inside.since; sums = c.self.inside.sums } in
    let j : AreJoining c.args.dag.now c.args.before.blocks c.requires.joining.0 v c.args.before.saved = subst (λ (w : Tallied). AreJoining c.args.dag.now c.args.before.blocks c.requires.joining.0 w c.args.before.saved) (sym c.self.view_is) c.requires.joining.1 in (
      j.olds ++ j.joined,
      j.all,
      all_last c.args.dag.now c.args.before.blocks c.requires.joining.0 v c.args.before.saved j,
      j.saving.long,
      saved_once c.args.dag.now c.args.before.blocks c.requires.joining.0 v c.args.before.saved j,
    )

pub release_between-requires-clause-within : goal.release_between-requires-clause-within
release_between-requires-clause-within c =
    let table : Numbered = c.args.dag.now in
    let n : ℕ = c.args.before.blocks in
    let saved : List (Option (ℕ × ℕ)) = c.args.before.saved in
    let old : Tallied = c.requires.joining.0 in
    let v : Tallied = record { frozen = c.self.inside.frozen; rows = c.self.inside.rows; views = c.self.inside.views.items; since = c.self.inside.since; sums = c.self.inside.sums } in
    let j : AreJoining table n old v saved = subst (λ (w : Tallied). AreJoining table n old w saved) (sym c.self.view_is) c.requires.joining.1 in
    let is = c.restore_last.ensures.put (j.olds ++ j.joined) j.all (all_last table n old v saved j) in
    omega (arith, tips_within table n old v saved j c.restore_last.new.views.items c.args.before.members c.requires.members is c.args.before.tips c.requires.joining.2, c.restore_last.new.views.ok.0)

pub returns : goal.returns
returns c = λ old joining tips since summed.
    let table : Numbered = c.args.dag.now in
    let n : ℕ = c.args.before.blocks in
    let saved : List (Option (ℕ × ℕ)) = c.args.before.saved in
    let v : Tallied = record { frozen = c.self.inside.frozen; rows = c.self.inside.rows; views = c.self.inside.views.items; since = c.self.inside.since; sums = c.self.inside.sums } in
    let j : AreJoining table n old v saved = subst (λ (w : Tallied). AreJoining table n old w saved) (sym c.self.view_is) joining in
    let put : List Viewed = c.restore_last.new.views.items in
    let own = c.requires.members in
    let is = c.restore_last.ensures.put (j.olds ++ j.joined) j.all (all_last table n old v saved j) in
    let left : c.release_between.new.views.items ≡ j.olds ++ j.was ∷ [] =
    c.release_between.ensures.rest j.olds j.joined (j.was ∷ []) (tips_at table n old v saved j put c.args.before.members own is c.args.before.tips tips) (omega arith) (put_parts table n old v saved j put c.args.before.members own is) in
    record {
      frozen = c.cut.ensures.before old.frozen j.rows j.count j.before;
      views = left ∙ sym j.old_is;
      rows =
          same_rows table n old v saved j put c.args.before.members own is c.restore_last.new.rows c.restore_last.ensures.counts c.release_between.new.views.items c.release_between.new.rows left c.restore_last.ensures.rows
          c.release_between.ensures.counts c.release_between.ensures.rows c.live-live.ensures.rows;
      since = since;
      sums = summed;
    }
