use Rattle.std.proofs.Common.{◌≡◌, ◌∙◌, ◌≤◌, ap, subst, sym, List, ℕ, length, take, arith}
use Rattle.sp_dag.specs.Numbered.{cut_to, IsNumbered, Numbered}
use Rattle.sp_dag.proofs.Cuts.{IsNumbered-cut}
use Rattle.sp_dag.proofs.Ids.{numbered}
use Rattle.sp_dag.proofs.dag.Dag.cut.Goals as goal

pub invariant_of-self : goal.invariant_of-self
invariant_of-self c =
    let profile = c.self.inside.profile in
    let old = numbered profile c.self.inside.ids.keys c.self.inside.salts.items c.self.inside.table in
    let within : c.args.count ≤ length old.parents = omega (arith, ap (λ (b : Numbered). length b.parents) c.self.view_is, c.requires.within) in
    let is : numbered profile c.truncate.new.self.keys c.truncate-2.new.self.items c.cut.new.self ≡ cut_to old c.args.count =
    ap (λ (ids : List ℕ). numbered profile ids c.truncate-2.new.self.items c.cut.new.self) c.truncate.ensures.keys
    ∙ ap (λ (salts : List ℕ). numbered profile (take c.args.count old.ids) salts c.cut.new.self) c.truncate-2.ensures.items
    ∙ ap (λ (table : List (List ℕ)). numbered profile (take c.args.count old.ids) (take c.args.count old.salts) table) c.cut.ensures in
    subst (λ (b : Numbered). IsNumbered b) (sym is) (IsNumbered-cut old c.args.count c.self.invariant c.requires.some within)
