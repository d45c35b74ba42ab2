use Rattle.std.proofs.Common.{◌≡◌, ◌-◌}
use Rattle.sp_form.specs.Form.{rows}
use Rattle.sp_form.specs.Reading.{read}
use Rattle.sp_form.proofs.Rows.{with_front}
use Rattle.sp_block.specs.Format.{last_parent, parent_form, parents_form}
use Rattle.sp_block.proofs.reader.BlockReader.parents.Given as goal

abbrev pub invariant-parents : goal.invariant-parents
invariant-parents l = with_front l.parents.items (read (rows parent_form last_parent (l.count - l.counter) l.before) l.self) ≡ read (parents_form l.count) l.fn.self
