use Rattle.std.proofs.Common.{◌+◌, ◌≤◌, length, ◌∙◌, arith}
use Rattle.sp_gossip.proofs.Known.{all_taken, one_taken}
use Rattle.sp_gossip.proofs.peer.Peer.take_all.Goals as goal

pub pieces-preserved : goal.pieces-preserved
pieces-preserved c = record {
  goes = λ arrivals all. one_taken c.args.self.now.bits c.pieces.self.bits c.args.self.now.kept c.pieces.self.kept c.take.new.self.kept c.args.pieces.now arrivals c.pieces.answers.items c.push.new.self.items
      c.pieces.piece-index c.piece-item.result c.in_ok-answer.answer (omega arith) c.piece-item.is c.pieces.invariant.bits c.in_ok-answer.ensures.taken c.in_ok-push.ensures.items
      (c.pieces.invariant.goes arrivals all);
  profile = c.take.ensures.profile ∙ c.pieces.invariant.profile;
  bits = c.take.ensures.bits ∙ c.pieces.invariant.bits;
}

pub returns-clause-taken : goal.returns-clause-taken
returns-clause-taken c =
    let past : length c.args.pieces.now ≤ c.pieces.piece-index = omega arith in
    all_taken c.args.self.now.bits c.args.self.now.kept c.pieces.self.kept c.args.pieces.now c.pieces.answers.items c.pieces.piece-index past c.pieces.invariant.goes
