use Rattle.std.proofs.Common.{◌∷◌, [], rules}
use Rattle.std.specs.Prelude.{map}
use Rattle.sp_dag.specs.Numbered.{number_of}
use Rattle.sp_tests_views.proofs.Pasts.{each_there, frozen_beside, sums_beside, view_beside}
use Rattle.sp_tests_views.proofs.based.Based.grow.Goals as goal

pub add-requires-clause-known : goal.add-requires-clause-known
add-requires-clause-known c = λ k d lt. each_there c.args.self.now.dag.ids c.id-on.result k d (search rules) lt

pub freeze_last-requires-clause-frozen : goal.freeze_last-requires-clause-frozen
freeze_last-requires-clause-frozen c =
    frozen_beside c.args.self.now.dag c.add.new.self c.id-new.result 0 (map (number_of c.args.self.now.dag.ids) (c.id-on.result ∷ [])) c.in_ok-add.ensures.ok
    c.len.ensures.numbered c.len-blocks.ensures.numbered.order c.args.self.now.frozen c.requires.voted

pub returns-clause-views : goal.returns-clause-views
returns-clause-views c =
    view_beside c.args.self.now.dag c.add.new.self c.id-new.result 0 (map (number_of c.args.self.now.dag.ids) (c.id-on.result ∷ [])) c.in_ok-add.ensures.ok
    c.len.ensures.numbered c.len-blocks.ensures.numbered.order

pub returns-clause-sums : goal.returns-clause-sums
returns-clause-sums c =
    sums_beside c.args.self.now.dag c.add.new.self c.id-new.result 0 (map (number_of c.args.self.now.dag.ids) (c.id-on.result ∷ [])) c.in_ok-add.ensures.ok
    c.len.ensures.numbered c.len-blocks.ensures.numbered.order
