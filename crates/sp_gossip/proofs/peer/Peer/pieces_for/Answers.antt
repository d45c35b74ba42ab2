use Rattle.std.proofs.Common.{◌+◌, ◌≤◌, length, ap, sym, subst, ◌∙◌, arith}
use Rattle.sp_gossip.proofs.Peers.{all_stand, AreToCome, none_stands, one_stands}
use Rattle.sp_gossip.proofs.peer.Peer.pieces_for.Goals as goal
use Rattle.sp_gossip.proofs.peer.Peer.pieces_for.Goals.{in-Some+in_ok-piece+in_ok-push, in_default}

pub ids-preserved : goal.ids-preserved
ids-preserved c = elim c.match-block.branch [
  | in-Some+in_ok-piece+in_ok-push w ↦
      one_stands c.args.receiver.now.bits c.args.receiver.now.kept c.args.self.now.kept c.args.ids.now c.ids.list.items c.match-block.list.items c.ids.id-index c.id-item.result c.block.result
      w.in-Some.block w.in_ok-piece.piece (omega arith) c.id-item.is c.block.ensures w.in-Some.is w.in_ok-piece.ensures (ap (λ v. v.items) w.list-is ∙ w.in_ok-push.ensures.items) c.ids.invariant
  | in_default w ↦
      subst (λ v. AreToCome c.args.receiver.now.bits c.args.receiver.now.kept c.args.self.now.kept c.args.ids.now v.items (c.ids.id-index + 1)) (sym w.list-is)
      (none_stands c.args.receiver.now.bits c.args.receiver.now.kept c.args.self.now.kept c.args.ids.now c.ids.list.items c.ids.id-index c.id-item.result c.block.result (omega arith) c.id-item.is c.block.ensures
      w.in_default.is c.ids.invariant)
]

pub returns : goal.returns
returns c =
    let past : length c.args.ids.now ≤ c.ids.id-index = omega arith in
    all_stand c.args.receiver.now.bits c.args.receiver.now.kept c.args.self.now.kept c.args.ids.now c.ids.list.items c.ids.id-index past c.ids.invariant
