use Rattle.std.proofs.Common.{◌∙◌, ap, sym}
use Rattle.sp_view.specs.Views.{Viewed}
use Rattle.sp_view.proofs.Gains.{joined_of}
use Rattle.sp_view.proofs.view.View.joined.Goals as goal

pub returns : goal.returns
returns c =
    joined_of c.args.older.now.members c.args.self.now.members c.without.new.self c.older.inside.members c.self.inside.members
    (ap (λ (v : Viewed). v.members) c.older.view_is) (ap (λ (v : Viewed). v.members) c.self.view_is)
    (sym c.within.ensures ∙ c.if-not-within.false) c.without.ensures
