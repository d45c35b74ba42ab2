use Rattle.std.proofs.Common.{◌≡◌, ◌+◌, ◌∙◌, List, Option, ℕ, ap, subst}
use Rattle.sp_view.specs.Saved.{patched}
use Rattle.sp_view.specs.Stored.{count_of}
use Rattle.sp_view.specs.Views.{Viewed, held}
use Rattle.sp_tests_views.proofs.Keeping.{kept_restored}
use Rattle.sp_tests_views.proofs.restored.Kept.restore.Goals as goal

pub returns : goal.returns
returns c =
    kept_restored c.args.self.now.based.dag c.args.self.now.based.frozen c.args.self.now.pool c.args.self.now.view c.args.self.now.sums c.args.self.now.members c.args.self.now.saved c.args.self.now.older
    c.requires c.restore.new.pool c.restore.new.self _ _ _ _
    (c.restore.ensures.view ∙ ap {B = Viewed} (λ (l : List (Option (ℕ × ℕ))). record { members = c.args.self.now.members; entries = patched l c.args.self.now.view.entries }) c.replace-saved.ensures.value)
    c.empty-self.ensures (c.replace-saved.ensures.after ∙ c.new-nothing.ensures) c.swap.ensures.x_after c.swap.ensures.y_after
    (subst (λ (l : List (Option (ℕ × ℕ))). (r : ℕ) → count_of c.restore.new.pool r + (held c.args.self.now.view.entries r + held l r) ≡ count_of c.args.self.now.pool r + held c.restore.new.self.entries r)
    c.replace-saved.ensures.value c.restore.ensures.counts)
    c.restore.ensures.rows
