use Rattle.std.proofs.Common.{◌≡◌, ◌+◌, ◌≤◌, length, take, drop, arith}
use Rattle.std.proofs.lemmas.List.{drop_all}
use Rattle.std.proofs.lemmas.Grind.{common_steps}
use Rattle.sp_io.proofs.Known.{given_then_left}
use Rattle.sp_io.proofs.ready_source.ReadySourceSource.read.Goals as goal

pub returns-clause-bytes : goal.returns-clause-bytes
returns-clause-bytes c =
    let bytes = c.self.inside.bytes.items in
    let at = c.self.inside.at in
    let count = c.min-count.result in
    let h : count ≤ length (drop at bytes) = grind (arith, common_steps) in
    let after : c.copy_from_slice.new.self ≡ take count (drop at bytes) = grind (arith, common_steps) in (
      given_then_left c.args.self.now bytes c.copy_from_slice.new.self (drop count c.args.out.now) at count c.self.view_is after h,
      λ none room. drop_all (at + count) bytes (grind (arith, common_steps)),
    )
