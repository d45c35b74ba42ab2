use Rattle.std.proofs.Common.{sym, ap, ◌∙◌}
use Rattle.sp_gossip.specs.Gossip.{others}
use Rattle.sp_gossip.proofs.Peers.{ids_joined, ids_stayed}
use Rattle.sp_gossip.proofs.peer.Peer.arrive.Goals as goal

pub invariant_of-self-in-Some : goal.invariant_of-self-in-Some
invariant_of-self-in-Some c =
    let before = c.in_ok-reserve.ensures.items ∙ c.self.invariant in
    c.push_reserved.ensures.items
    ∙ ids_joined _ _ _ c.in_ok-answer.answer c.kept_id.result c.in-Some.id _ c.kept_count-before.ensures.blocks c.kept_id.ensures c.in_ok-answer.ensures.answer c.in-Some.is before
    ∙ sym (ap others c.in_ok-answer.ensures.kept)

pub invariant_of-self-in_default : goal.invariant_of-self-in_default
invariant_of-self-in_default c =
    let before = c.in_ok-reserve.ensures.items ∙ c.self.invariant in
    ids_stayed _ _ _ c.in_ok-answer.answer c.kept_id.result _ c.kept_id.ensures c.in_ok-answer.ensures.answer c.in_default.is before
    ∙ sym (ap others c.in_ok-answer.ensures.kept)
