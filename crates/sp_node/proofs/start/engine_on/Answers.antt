use Rattle.std.proofs.Common.{◌≡◌, rules, sym, subst}
use Rattle.sp_ids.specs.Digest.{sha256_number}
use Rattle.sp_feed.specs.Genesis.{ReadHead}
use Rattle.sp_journal.specs.Opening.{IsOpening, Opening}
use Rattle.sp_node.specs.Stored.{IsSameChain}
use Rattle.sp_node.proofs.Started.{good_behind}
use Rattle.sp_node.proofs.start.engine_on.Goals as goal

pub engine_of-requires-clause-good : goal.engine_of-requires-clause-good
engine_of-requires-clause-good c =
    let found = c.args.opened.now in
    let head : ReadHead = record { profile = c.head.inside.profile; bits = c.head.inside.bits; genesis = c.head.inside.genesis } in
    let is : IsOpening found = subst (λ (o : Opening). IsOpening o) c.opened.view_is c.opened.invariant in
    let same : IsSameChain found head = subst (λ (h : ReadHead). IsSameChain found h) (sym c.head.view_is) c.in_default.ensures.same in
    let found_id : found.genesis.id ≡ sha256_number found.genesis.bytes = search rules in
    let fed_id : head.genesis.id ≡ sha256_number head.genesis.bytes = search rules in
    let blocks : c.as_slice.result.now ≡ found.blocks = search rules in
    good_behind found head c.as_slice.result.now is same found_id fed_id blocks
