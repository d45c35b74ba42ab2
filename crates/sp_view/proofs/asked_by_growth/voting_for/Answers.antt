use Rattle.std.proofs.Common.{◌≡◌, ◌<◌, arith, true}
use Rattle.sp_model.specs.Graph.{has}
use Rattle.sp_view.proofs.Opening.{meet_from, meet_there}
use Rattle.sp_view.proofs.asked_by_growth.voting_for.Goals as goal

pub returns-clause-only : goal.returns-clause-only
returns-clause-only c = λ b h.
    let low : has c.args.growth.now.blocks.now b ≡ true → b < 512 = λ h. (let lt = c.args.growth.now.grown.voting.below b (c.args.growth.now.growth.member b h) in omega (arith, lt, c.len-blocks.ensures.numbered.small)) in
    meet_from c.args.growth.now.blocks.now c.args.voters.now c.and_with.new.self b low c.and_with.ensures h

pub returns-clause-all : goal.returns-clause-all
returns-clause-all c = λ b new voter.
    let low : has c.args.growth.now.blocks.now b ≡ true → b < 512 = λ h. (let lt = c.args.growth.now.grown.voting.below b (c.args.growth.now.growth.member b h) in omega (arith, lt, c.len-blocks.ensures.numbered.small)) in
    meet_there c.args.growth.now.blocks.now c.args.voters.now c.and_with.new.self b low c.and_with.ensures new voter
