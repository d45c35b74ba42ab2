use Rattle.sp_tests_views.proofs.Keeping.{kept_saving}
use Rattle.sp_tests_views.proofs.restored.Kept.save.Goals as goal

pub returns : goal.returns
returns c =
    kept_saving c.args.self.now.based.dag c.args.self.now.based.frozen c.args.self.now.pool c.args.self.now.view c.args.self.now.sums c.args.self.now.members c.args.self.now.saved c.args.self.now.older
    c.requires c.settle.new.pool c.settle.new.self c.replace-saved.result c.members.result.now c.in_ok-self-2.field-0 c.in_ok-self.field-0
    c.replace-saved.ensures.value c.members.ensures c.in_ok-self.ensures c.settle.ensures.members c.settle.ensures.home
    (c.has_all.ensures c.if-not-has_all.false) c.in_ok-self-2.ensures.same c.in_ok-self-2.ensures.none
