use Rattle.std.proofs.Common.{◌≡◌, ◌∙◌, ◌<◌, ℕ, List, ap, sym, true}
use Rattle.sp_bits.specs.Places.{difference, meet}
use Rattle.sp_dag.specs.Numbered.{Numbered, graph_of}
use Rattle.sp_dag.proofs.Ranked.{ancestors_lower, downset_numbered}
use Rattle.sp_model.specs.Graph.{Graph, IsDownset, has, in_past, keys}
use Rattle.sp_frozen.specs.Voters.{AreFrozen}
use Rattle.sp_view.proofs.Following.{meet_parts}
use Rattle.sp_view.proofs.Seen.{seen_kept, seen_open}
use Rattle.sp_view.proofs.TwoRows.{frozen_among}
use Rattle.sp_view.proofs.both_sides.known_votes.Goals as goal

pub returns-clause-within : goal.returns-clause-within
returns-clause-within c = λ z h.
    (c.seen_by-plus.ensures.only z (meet_parts c.seen_by-plus.result c.seen_by-minus.result z (ap (λ (l : List ℕ). has l z) (sym c.and_with.ensures) ∙ h)).0).0

pub returns-clause-rows : goal.returns-clause-rows
returns-clause-rows c = λ x y at loose_is.
    let frozen : AreFrozen (graph_of c.args.set.now.dag.now) c.args.set.now.members.now x y c.plus.result.now c.minus.result.now =
    rw (c.plus.ensures, c.minus.ensures) (frozen_among c.args.set.now.dag.now c.args.set.now.frozen.now c.args.set.now.members.now c.args.pair x y c.args.set.now.voting.held at c.requires.inside c.args.set.now.voting.added) in
    let table : Numbered = c.args.set.now.dag.now in
    let g : Graph = graph_of table in
    let whole : IsDownset g (keys g) = downset_numbered table c.len-blocks.ensures.numbered.order in
    let upward : (w u : ℕ) → has c.args.set.now.members.now u ≡ true → in_past g w u ≡ true → w < u =
    λ w u there up. ancestors_lower table w u c.len-blocks.ensures.numbered.order (c.args.set.now.voting.below u there) up in
    let ups : List ℕ = c.seen_by-plus.result in
    let downs : List ℕ = c.seen_by-minus.result in
    let e : c.without.new.self ≡ difference ups (meet ups downs) = c.without.ensures ∙ ap (difference ups) c.and_with.ensures in
    let e' : c.without-2.new.self ≡ difference downs (meet ups downs) = c.without-2.ensures ∙ ap (difference downs) c.and_with.ensures in
    rw (e, e', c.and_with.ensures) (
      seen_open g c.args.set.now.members.now x y whole c.args.set.now.voting.asked upward c.plus.result.now c.minus.result.now c.args.loose.now ups downs frozen loose_is
          c.seen_by-plus.ensures.covers c.seen_by-plus.ensures.only c.seen_by-minus.ensures.covers c.seen_by-minus.ensures.only,
      seen_kept g c.args.set.now.members.now x y whole c.args.set.now.voting.asked upward c.plus.result.now c.minus.result.now c.args.loose.now ups downs frozen loose_is
          c.seen_by-plus.ensures.covers c.seen_by-plus.ensures.only c.seen_by-minus.ensures.covers c.seen_by-minus.ensures.only,
    )
