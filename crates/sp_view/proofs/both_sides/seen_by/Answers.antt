use Rattle.std.proofs.Common.{◌≡◌, ◌∙◌, ◌<◌, ℕ, List, ap, length, sym, true, arith}
use Rattle.std.proofs.lemmas.Bool.{and_from, and_parts}
use Rattle.sp_model.specs.Graph.{has}
use Rattle.sp_view.proofs.Following.{meet_parts}
use Rattle.sp_view.proofs.Seen.{meet_there}
use Rattle.sp_view.proofs.both_sides.seen_by.Goals as goal

pub pasts_of-seen-requires : goal.pasts_of-seen-requires
pasts_of-seen-requires c = λ b h. c.requires b (meet_parts c.args.members.now c.args.voters.now b (ap (λ (l : List ℕ). has l b) (sym c.and_with.ensures) ∙ h)).0

pub returns-clause-covers : goal.returns-clause-covers
returns-clause-covers c = λ z loose above.
    let parts : (has c.args.members.now above.0 ≡ true) × (has c.args.voters.now above.0 ≡ true) = and_parts (has c.args.members.now above.0) (has c.args.voters.now above.0) above.1 in
    let low : above.0 < length c.args.dag.now.parents = c.requires above.0 parts.0 in
    let cast : has c.and_with.new.self above.0 ≡ true =
    ap (λ (l : List ℕ). has l above.0) c.and_with.ensures
    ∙ meet_there c.args.members.now c.args.voters.now above.0 (λ _. omega (arith, low, c.len-blocks.ensures.numbered.small)) parts.0 parts.1 in
    ap (λ (l : List ℕ). has l z) c.and_with-2.ensures
    ∙ meet_there c.pasts_of-seen.result c.args.loose.now z (c.pasts_of-seen.ensures.small z) (c.pasts_of-seen.ensures.covers above.0 z cast above.2) loose

pub returns-clause-only : goal.returns-clause-only
returns-clause-only c = λ z h.
    let parts : (has c.pasts_of-seen.result z ≡ true) × (has c.args.loose.now z ≡ true) =
    meet_parts c.pasts_of-seen.result c.args.loose.now z (ap (λ (l : List ℕ). has l z) (sym c.and_with-2.ensures) ∙ h) in
    let above = c.pasts_of-seen.ensures.only z parts.0 in
    let cast : (has c.args.members.now above.0 ≡ true) × (has c.args.voters.now above.0 ≡ true) =
    meet_parts c.args.members.now c.args.voters.now above.0 (ap (λ (l : List ℕ). has l above.0) (sym c.and_with.ensures) ∙ above.1) in
    (parts.1, (above.0, and_from (has c.args.members.now above.0) (has c.args.voters.now above.0) cast.0 cast.1, above.2))
