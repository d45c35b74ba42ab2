use Rattle.std.proofs.Common.{◌≡◌, ◌+◌, Bool, true, ap, sym, ◌∙◌, arith}
use Rattle.std.specs.Prelude.{◌&&◌, nat_le}
use Rattle.std.proofs.lemmas.Bool.{le-leb}
use Rattle.sp_disk.specs.History.{Keeping}
use Rattle.sp_disk.specs.Kept.{written_in_all}
use Rattle.sp_disk.proofs.Calls.{seen_bytes}
use Rattle.sp_disk.proofs.mem_disk.MemDisk.has_room.Goals as goal

pub returns-then-at-size : goal.returns-then-at-size
returns-then-at-size c =
    let k = c.args.self.now in
    let many = seen_bytes k c.self.inside.calls.items c.self.inside.given.items (ap (λ (k : Keeping). k.events) c.self.view_is) c.self.invariant.0.whole in
    let capacity = ap (λ (k : Keeping). k.capacity) c.self.view_is in
    let given : c.len.result ≡ written_in_all k.events = omega (arith, c.len.ensures, many) in
    let end : nat_le (c.args.at + c.args.size) k.capacity ≡ true = le-leb (c.args.at + c.args.size) k.capacity (omega (arith, c.if-at-size.true, capacity)) in
    (λ i. nat_le (given i + c.args.size) (capacity i)) ∙ sym (ap (λ (b : Bool). b && nat_le (written_in_all k.events + c.args.size) k.capacity) end)
