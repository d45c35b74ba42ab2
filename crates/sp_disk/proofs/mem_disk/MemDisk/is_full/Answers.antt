use Rattle.std.proofs.Common.{◌≡◌, length, ap, arith}
use Rattle.std.specs.Prelude.{nat_le}
use Rattle.sp_disk.specs.History.{Keeping}
use Rattle.sp_disk.proofs.Calls.{seen_calls}
use Rattle.sp_disk.proofs.mem_disk.MemDisk.is_full.Goals as goal

pub returns : goal.returns
returns c =
    let many = seen_calls c.args.self.now c.self.inside.calls.items c.self.inside.given.items (ap (λ (k : Keeping). k.events) c.self.view_is) in
    let limit = ap (λ (k : Keeping). k.limit) c.self.view_is in
    let calls : c.len.result ≡ length c.args.self.now.events = omega (arith, c.len.ensures, many) in
    (λ i. nat_le (limit i) (calls i))
