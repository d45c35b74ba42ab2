use Rattle.std.proofs.Common.{Option, refl, subst}
use Rattle.sp_form.specs.Form.{whole}
use Rattle.sp_form.specs.Reading.{read}
use Rattle.sp_journal.specs.Format.{bits_form, gate_form, genesis_form, head_form, head_of, length_form, name_form}
use Rattle.sp_block.specs.Block.{ReadBlock}
use Rattle.sp_journal.specs.Recovery.{bytes_in, Finds}
use Rattle.sp_journal.proofs.Forms.{behind_bits, behind_gate, behind_name, last_step}
use Rattle.sp_journal.proofs.Steps.{goes, stops, stops_next}
use Rattle.sp_journal.proofs.reading.head.Goals as goal

pub returns-in_default-clause-found : goal.returns-in_default-clause-found
unfolding head_form
returns-in_default-clause-found c = stops gate_form (λ _. behind_gate) c.args.fields.now c.in_default.ensures

pub returns-in_default-journal_profile-clause-found : goal.returns-in_default-journal_profile-clause-found
unfolding head_form
returns-in_default-journal_profile-clause-found c = stops_next gate_form (λ _. behind_gate) c.args.fields.now c.in-Some._gate c.open_gate.new.fields c.in-Some.ensures (stops name_form behind_name c.open_gate.new.fields c.in_default-journal_profile.ensures)

pub returns-in_default-bits-clause-found : goal.returns-in_default-bits-clause-found
unfolding head_form
returns-in_default-bits-clause-found c = stops_next gate_form (λ _. behind_gate) c.args.fields.now c.in-Some._gate c.open_gate.new.fields c.in-Some.ensures (stops_next name_form behind_name c.open_gate.new.fields c.in-Some-journal_profile.profile c.journal_profile.new.fields c.in-Some-journal_profile.ensures (stops bits_form (behind_bits c.in-Some-journal_profile.profile) c.journal_profile.new.fields c.in_default-bits.ensures.found))

pub returns-in_default-block_length-clause-found : goal.returns-in_default-block_length-clause-found
unfolding head_form
returns-in_default-block_length-clause-found c = stops_next gate_form (λ _. behind_gate) c.args.fields.now c.in-Some._gate c.open_gate.new.fields c.in-Some.ensures (stops_next name_form behind_name c.open_gate.new.fields c.in-Some-journal_profile.profile c.journal_profile.new.fields c.in-Some-journal_profile.ensures (stops_next bits_form (behind_bits c.in-Some-journal_profile.profile) c.journal_profile.new.fields c.in-Some-bits.bits c.bits.new.fields c.in-Some-bits.ensures.found (stops length_form (last_step c.in-Some-journal_profile.profile c.in-Some-bits.bits) c.bits.new.fields c.in_default-block_length.ensures.found)))

pub returns-in_default-found-clause-found : goal.returns-in_default-found-clause-found
unfolding head_form
returns-in_default-found-clause-found c =
    stops_next gate_form (λ _. behind_gate) c.args.fields.now c.in-Some._gate c.open_gate.new.fields c.in-Some.ensures
    (stops_next name_form behind_name c.open_gate.new.fields c.in-Some-journal_profile.profile c.journal_profile.new.fields c.in-Some-journal_profile.ensures
    (stops_next bits_form (behind_bits c.in-Some-journal_profile.profile) c.journal_profile.new.fields c.in-Some-bits.bits c.bits.new.fields c.in-Some-bits.ensures.found
    (stops_next length_form (last_step c.in-Some-journal_profile.profile c.in-Some-bits.bits) c.bits.new.fields c.in-Some-block_length.length c.block_length.new.fields c.in-Some-block_length.ensures.found
    (stops (genesis_form c.in-Some-block_length.length) (λ genesis. whole (head_of c.in-Some-journal_profile.profile c.in-Some-bits.bits genesis)) c.block_length.new.fields (subst (λ (o : Option ReadBlock). Finds bytes_in o c.genesis.new.fields (read (genesis_form c.in-Some-block_length.length) c.block_length.new.fields)) c.in_default-found.is c.in_ok-found.ensures.found)))))

pub returns-clause-found : goal.returns-clause-found
unfolding head_form read
returns-clause-found c =
    goes gate_form (λ _. behind_gate) c.args.fields.now c.in-Some._gate c.open_gate.new.fields _ c.in-Some.ensures
    (goes name_form behind_name c.open_gate.new.fields c.in-Some-journal_profile.profile c.journal_profile.new.fields _ c.in-Some-journal_profile.ensures
    (goes bits_form (behind_bits c.in-Some-journal_profile.profile) c.journal_profile.new.fields c.in-Some-bits.bits c.bits.new.fields _ c.in-Some-bits.ensures.found
    (goes length_form (last_step c.in-Some-journal_profile.profile c.in-Some-bits.bits) c.bits.new.fields c.in-Some-block_length.length c.block_length.new.fields _ c.in-Some-block_length.ensures.found
    (goes (genesis_form c.in-Some-block_length.length) (λ genesis. whole (head_of c.in-Some-journal_profile.profile c.in-Some-bits.bits genesis)) c.block_length.new.fields c.in-Some-found.block.bytes c.genesis.new.fields _ (subst (λ (o : Option ReadBlock). Finds bytes_in o c.genesis.new.fields (read (genesis_form c.in-Some-block_length.length) c.block_length.new.fields)) c.in-Some-found.is c.in_ok-found.ensures.found) refl))))
