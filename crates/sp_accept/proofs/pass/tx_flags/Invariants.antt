use Rattle.std.proofs.Common.{◌≡◌, map}
use Rattle.std.specs.List.{list_any, range_with_len}
use Rattle.sp_carry.specs.Carried.{carriers_in}
use Rattle.sp_carry.specs.Flags.{is_set}
use Rattle.sp_accept.proofs.pass.tx_flags.Given as goal

abbrev pub invariant-txs : goal.invariant-txs
invariant-txs l =
    l.txs.items ≡ map (λ tx. list_any (is_set l.flags) (carriers_in l.carriers.rows tx)) (range_with_len 0 l.tx)
