use Rattle.std.proofs.Common.{sym, ap}
use Rattle.sp_play.specs.Known.{Known}
use Rattle.sp_play.proofs.Spellable.{are_kept_block}
use Rattle.sp_play.proofs.known.Known.push_block.Goals as goal

pub invariant_of-self-2 : goal.invariant_of-self-2
invariant_of-self-2 c =
    let same = ap (λ (k : Known). k.entries) c.self.view_is in
    let room = rw (sym same) at c.requires.room in
    rw c.in_ok-push.ensures.ok (are_kept_block c.self.inside.bits c.self.inside.entries c.self.inside.genesis c.self.inside.txs c.args.word.now c.args.block c.self.invariant room c.requires.long)
