use Rattle.std.proofs.Common.{◌≤◌, ℕ, Option, subst}
use Rattle.sp_view.specs.Views.{holds}
use Rattle.sp_view.proofs.derive.derived_entry.Goals as goal

pub old_entry-requires-clause-once : goal.old_entry-requires-clause-once
old_entry-requires-clause-once c = λ r. subst (λ (e : Option (ℕ × ℕ)). holds e r ≤ 1) c.in-Some.is (c.requires.once r)
