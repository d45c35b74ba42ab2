use Rattle.std.proofs.Common.{◌≡◌, ◌<◌, List, ℕ, length, arith, sym, ap, ◌∙◌}
use Rattle.std.specs.Prelude.{ℤ, negsuc}
use Rattle.std.specs.Ordering.{int_eq}
use Rattle.sp_model.specs.Votes.{virt}
use Rattle.sp_dag.specs.Numbered.{graph_of, Numbered}
use Rattle.sp_dag.proofs.Ranked.{keys_are_numbers}
use Rattle.sp_plain.specs.Virts.{entry, HasVirts, Virts}
use Rattle.sp_accept.specs.Standing.{is_before}
use Rattle.sp_engine.specs.Engine.{numbers}
use Rattle.sp_tests_ledger.proofs.voted.VotedOrderOrder.before.Goals as goal

-- the votes say it
before_is : (blocks : Numbered) (virts : Virts) (table : Numbered) (x y : ℕ) → HasVirts (graph_of blocks) (numbers blocks) (length blocks.parents) virts
    → blocks ≡ table → x < length table.parents → y < length table.parents → int_eq (entry virts x y) (negsuc 0) ≡ is_before table x y
before_is blocks virts table x y votes same lx ly =
    ap (λ (v : ℤ). int_eq v (negsuc 0)) (votes.each x y (omega (arith, lx, ap (λ (b : Numbered). length b.parents) same)) (omega (arith, ly, ap (λ (b : Numbered). length b.parents) same)))
    ∙ ap (λ (s : List ℕ). int_eq (virt (graph_of blocks) s x y) (negsuc 0)) (sym (keys_are_numbers blocks))
    ∙ ap (λ (t : Numbered). is_before t x y) same

pub returns : goal.returns
returns c =
    c.is_first.ensures
    ∙ before_is c.self.inside.dag.now c.self.inside.votes.now c.args.self.now c.args.x c.args.y c.self.invariant c.self.view_is c.requires.x_in c.requires.y_in
