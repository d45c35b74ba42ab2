use Rattle.std.proofs.Common.{ap, sym}
use Rattle.sp_play.specs.Known.{Known}
use Rattle.sp_play.proofs.Spellable.{are_kept_tx}
use Rattle.sp_play.proofs.known.Known.push_tx.Goals as goal

pub invariant_of-self-in-Ok : goal.invariant_of-self-in-Ok
invariant_of-self-in-Ok c =
    let same = ap (λ (k : Known). k.entries) c.self.view_is in
    let room = rw (sym same) at c.requires.room in
    let new = rw (sym same) at c.requires.new in
    let grant = rw (sym same) at c.requires.grant in
    let is = rw c.tx.ensures at c.id_behind-genesis.ensures in
    rw c.in-Ok.ensures.ok
    (are_kept_tx c.self.inside.bits c.self.inside.entries c.self.inside.genesis c.id_behind-genesis.result c.self.inside.txs c.insert.new.self c.args.word.now c.args.named c.id-id.result is c.id-id.ensures.value c.in_ok-insert.ensures.updates c.self.invariant room c.requires.valid new grant)
