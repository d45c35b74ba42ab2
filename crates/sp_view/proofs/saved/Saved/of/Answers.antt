use Rattle.std.proofs.Common.{◌∙◌, ℕ, List, Option, ap, arith, length}
use Rattle.sp_view.specs.Padded.{padded}
use Rattle.sp_view.specs.Views.{entry_at, held}
use Rattle.sp_view.proofs.Padding.{held_padded, length_padded, padded_none}
use Rattle.sp_view.proofs.saved.Saved.of.Goals as goal

pub returns-clause-long : goal.returns-clause-long
returns-clause-long c = length_padded c.args.count c.in_ok-list.list.items

pub returns-clause-none : goal.returns-clause-none
returns-clause-none c = λ i. ap (λ (l : List (Option (ℕ × ℕ))). entry_at (padded c.args.count l) i) c.in_ok-list.ensures.items ∙ padded_none c.args.count i

pub returns-clause-held : goal.returns-clause-held
returns-clause-held c = λ r.
    held_padded c.args.count c.in_ok-list.list.items r (omega (arith, ap length c.in_ok-list.ensures.items)) ∙ ap (λ (l : List (Option (ℕ × ℕ))). held l r) c.in_ok-list.ensures.items
