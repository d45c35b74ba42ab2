use Rattle.std.proofs.Common.{sym, subst}
use Rattle.sp_engine.specs.declared.answer.Answer.TheVariants as answer
use Rattle.sp_gossip.specs.Pieces.{TakesPiece}
use Rattle.sp_gossip.specs.declared.piece.Piece.{Piece}
use Rattle.sp_gossip.proofs.Known.{known_takes}
use Rattle.sp_gossip.proofs.peer.Peer.take.Goals as goal

pub returns-in-Known-clause-taken : goal.returns-in-Known-clause-taken
returns-in-Known-clause-taken c =
    subst (λ (piece : Piece). TakesPiece c.args.self.now.bits c.args.self.now.kept piece (answer.Known c.in-Known.id) c.args.self.now.kept) (sym c.in-Known.is)
    (known_takes c.args.self.now.bits c.args.self.now.kept c.in-Known.id)
