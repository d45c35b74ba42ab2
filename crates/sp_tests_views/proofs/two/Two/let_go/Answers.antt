use Rattle.std.proofs.Common.{◌≡◌, ◌∙◌, ◌+◌, sym, subst}
use Rattle.sp_view.specs.Stored.{count_of}
use Rattle.sp_view.specs.Views.{Viewed, held}
use Rattle.sp_tests_views.specs.Voting.{AreTwo}
use Rattle.sp_tests_views.proofs.Sharing.{two_less}
use Rattle.sp_tests_views.proofs.two.Two.let_go.Goals as goal

pub returns-clause-two : goal.returns-clause-two
returns-clause-two c =
    subst (λ (v : Viewed). AreTwo c.args.self.now.based.dag c.args.self.now.based.frozen c.release.new.pool c.args.self.now.one v) (sym (c.replace-view.ensures.after ∙ c.empty-nothing.ensures))
    (two_less c.args.self.now.based.dag c.args.self.now.based.frozen c.args.self.now.pool c.args.self.now.one c.args.self.now.other c.release.new.pool c.requires
    (λ r. subst (λ (v : Viewed). count_of c.args.self.now.pool r ≡ count_of c.release.new.pool r + held v.entries r) c.replace-view.ensures.value (c.release.ensures.counts r))
    c.release.ensures.rows)
