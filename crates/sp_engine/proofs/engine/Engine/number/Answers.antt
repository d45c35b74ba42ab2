use Rattle.std.proofs.Common.{ℕ, ◌<◌, Bool, List, Some, sym, subst}
use Rattle.std.specs.Prelude.{◌≡◌, ◌↔◌, IfSome, IsFalse, IsNone, slice_get}
use Rattle.sp_engine.proofs.Facts.{engine_of, present_count}
use Rattle.sp_engine.proofs.engine.Engine.number.Goals as goal

pub returns-clause-found : goal.returns-clause-found
returns-clause-found c =
    subst (λ (ids : List ℕ). IfSome c.number.result (λ n. slice_get ids n ≡ Some c.args.id.now)) (engine_of c.self.view_is c.self.invariant).order c.number.ensures.found

pub returns-clause-within : goal.returns-clause-within
returns-clause-within c =
    subst (λ (count : ℕ). IfSome c.number.result (λ n. n < count)) (sym (present_count (engine_of c.self.view_is c.self.invariant))) c.number.ensures.within

pub returns-clause-none : goal.returns-clause-none
returns-clause-none c =
    subst (λ (there : Bool). IsNone c.number.result ↔ IsFalse there) ((engine_of c.self.view_is c.self.invariant).same c.args.id.now) c.number.ensures.none
