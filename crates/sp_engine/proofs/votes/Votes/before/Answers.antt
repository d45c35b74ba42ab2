use Rattle.std.proofs.Common.{◌≡◌, ◌-◌, ◌+◌, ℕ, sym, arith, subst, length}
use Rattle.sp_dag.specs.Numbered.{Numbered}
use Rattle.sp_engine.specs.Votes.{AreVoted, HaveJoined, Tallied}
use Rattle.sp_engine.proofs.Ending.{ends_with, EndsWith}
use Rattle.sp_engine.proofs.Retreat.{began, last_tips}
use Rattle.sp_engine.proofs.votes.Votes.before.Goals as goal

pub returns-clause-joined : goal.returns-clause-joined
returns-clause-joined c =
    let table : Numbered = c.args.dag.now in
    let v : Tallied = record { frozen = c.self.inside.frozen; rows = c.self.inside.rows; views = c.self.inside.views.items; since = c.self.inside.since; sums = c.self.inside.sums } in
    let voted : AreVoted table v = subst (λ (w : Tallied). AreVoted table w) (sym c.self.view_is) c.requires in
    let k : ℕ = c.len-tips.result - 1 in
    let tips = voted.holds.tips in
    let ends : EndsWith v.frozen.blocks v.views c.index-all.result.now =
    ends_with v.frozen.blocks v.views k c.index-all.result.now (record { front = tips.tips; all = tips.all; is = tips.is; members = tips.members })
    (let e : k + 1 ≡ length v.views = omega (arith, c.len-tips.ensures, c.self.inside.views.ok.0, last_tips table v voted) in e) c.index-all.ensures in
    subst (λ (w : Tallied). HaveJoined table (length table.parents) w w c.in_ok-saved.saved) c.self.view_is
    (began table v c.index-all.result.now voted ends c.in_ok-saved.saved c.blocks-blocks.ensures.rows c.live-live.ensures.rows c.in_ok-saved.ensures.same c.in_ok-saved.ensures.none)
