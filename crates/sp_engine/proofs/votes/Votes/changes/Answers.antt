use Rattle.std.proofs.Common.{◌<◌, ◌∙◌, ℕ, List, ap, sym, arith, subst}
use Rattle.std.specs.Prelude.{ℤ}
use Rattle.std.proofs.lemmas.Result.{IfOk-weaker}
use Rattle.sp_dag.specs.Numbered.{Numbered}
use Rattle.sp_view.specs.Summed.{AreSums}
use Rattle.sp_view.specs.Views.{Viewed}
use Rattle.sp_engine.specs.Votes.{HaveJoined, Tallied}
use Rattle.sp_model.specs.Graph.{has}
use Rattle.sp_engine.proofs.Ranges.{below_range}
use Rattle.sp_engine.proofs.TurnedPairs.{tells}
use Rattle.sp_engine.proofs.votes.Votes.changes.Goals as goal

pub returns : goal.returns
returns c =
    let table : Numbered = c.args.dag.now in
    let v : Tallied = record { frozen = c.self.inside.frozen; rows = c.self.inside.rows; views = c.self.inside.views.items; since = c.self.inside.since; sums = c.self.inside.sums } in
    let n : ℕ = c.args.before.now.blocks in
    let h : HaveJoined table n c.requires.0 v c.args.before.now.saved = subst (λ (w : Tallied). HaveJoined table n c.requires.0 w c.args.before.now.saved) (sym c.self.view_is) c.requires.1 in
    let was : Viewed = h.joining.was in
    let before : AreSums table was.members c.args.before.now.sums = subst (λ (l : List ℤ). AreSums table was.members l) (sym c.requires.2) h.joining.sums_before in
    IfOk-weaker c.turned_pairs.result _ _
    (λ pairs found.
    tells table n was.members h.joining.all.members c.args.before.now.sums v.sums pairs.items h.joining.firsts h.members
    (λ z there. (let less : z < n = below_range n z (ap (λ (l : List ℕ). has l z) (sym h.joining.firsts) ∙ there) in omega (arith, less, h.joining.later, h.every))) before h.joining.sums found)
    c.turned_pairs.ensures
