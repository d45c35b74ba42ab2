use Rattle.std.proofs.Common.{refl}
use Rattle.sp_form.specs.Form.{bind, map_fault}
use Rattle.sp_form.specs.Form.{rows as form_rows}
use Rattle.sp_form.specs.Reading.{read}
use Rattle.sp_block.specs.Format.{block_form}
use Rattle.sp_journal.specs.Format.{head_form, record_form, sized_form}
use Rattle.sp_block.specs.Judged.{is_block}
use Rattle.sp_journal.specs.Judged.{is_record}
use Rattle.sp_journal.specs.Records.{records, rows}
use Rattle.sp_journal.proofs.laws.worked_examples.Goals as goal

pub returns-clause-smallest : goal.returns-clause-smallest
unfolding records rows head_form record_form sized_form read bind is_block is_record block_form form_rows map_fault
returns-clause-smallest c = refl

pub returns-clause-behind_a_closed_gate : goal.returns-clause-behind_a_closed_gate
unfolding records rows head_form record_form sized_form read bind is_block is_record block_form form_rows map_fault
returns-clause-behind_a_closed_gate c = refl

pub returns-clause-nothing : goal.returns-clause-nothing
unfolding records rows head_form record_form sized_form read bind is_block is_record block_form form_rows map_fault
returns-clause-nothing c = refl

pub returns-clause-cut_head : goal.returns-clause-cut_head
unfolding records rows head_form record_form sized_form read bind is_block is_record block_form form_rows map_fault
returns-clause-cut_head c = refl

pub returns-clause-closed_head : goal.returns-clause-closed_head
unfolding records rows head_form record_form sized_form read bind is_block is_record block_form form_rows map_fault
returns-clause-closed_head c = refl

pub returns-clause-second_profile : goal.returns-clause-second_profile
unfolding records rows head_form record_form sized_form read bind is_block is_record block_form form_rows map_fault
returns-clause-second_profile c = refl

pub returns-clause-other_name : goal.returns-clause-other_name
unfolding records rows head_form record_form sized_form read bind is_block is_record block_form form_rows map_fault
returns-clause-other_name c = refl

pub returns-clause-many_bits : goal.returns-clause-many_bits
unfolding records rows head_form record_form sized_form read bind is_block is_record block_form form_rows map_fault
returns-clause-many_bits c = refl

pub returns-clause-no_gate : goal.returns-clause-no_gate
unfolding records rows head_form record_form sized_form read bind is_block is_record block_form form_rows map_fault
returns-clause-no_gate c = refl

pub returns-clause-no_length : goal.returns-clause-no_length
unfolding records rows head_form record_form sized_form read bind is_block is_record block_form form_rows map_fault
returns-clause-no_length c = refl

pub returns-clause-long_record : goal.returns-clause-long_record
unfolding records rows head_form record_form sized_form read bind is_block is_record block_form form_rows map_fault
returns-clause-long_record c = refl

pub returns-clause-cut_record : goal.returns-clause-cut_record
unfolding records rows head_form record_form sized_form read bind is_block is_record block_form form_rows map_fault
returns-clause-cut_record c = refl

pub returns-clause-genesis_again : goal.returns-clause-genesis_again
unfolding records rows head_form record_form sized_form read bind is_block is_record block_form form_rows map_fault
returns-clause-genesis_again c = refl

pub returns-clause-no_room : goal.returns-clause-no_room
unfolding rows
returns-clause-no_room c = refl

pub returns-clause-full : goal.returns-clause-full
unfolding rows
returns-clause-full c = refl
