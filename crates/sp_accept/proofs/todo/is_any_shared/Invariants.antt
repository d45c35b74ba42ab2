use Rattle.std.proofs.Common.{◌≡◌, false, take}
use Rattle.std.specs.List.{list_any}
use Rattle.sp_accept.specs.Todo.{is_shared}
use Rattle.sp_accept.proofs.todo.is_any_shared.Given as goal

abbrev pub invariant-inputs : goal.invariant-inputs
invariant-inputs l = list_any (is_shared l.carriers) (take l.input-index l.inputs) ≡ false
