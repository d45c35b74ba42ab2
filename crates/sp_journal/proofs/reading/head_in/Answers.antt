use Rattle.std.proofs.Common.{◌∙◌, List, ℕ, Option, ap, subst, take}
use Rattle.sp_form.specs.Reading.{read}
use Rattle.sp_block.specs.Block.{ReadBlock}
use Rattle.sp_journal.specs.Creation.{gate_of}
use Rattle.sp_model.specs.declared.profile.Profile.{Profile}
use Rattle.sp_journal.specs.Format.{head_form, head_of}
use Rattle.sp_journal.specs.Recovery.{Finds}
use Rattle.sp_journal.proofs.Windows.{gate_seen, head_flawed, head_seen}
use Rattle.sp_journal.proofs.reading.head_in.Goals as goal

pub returns-in-Some-clause-found : goal.returns-in-Some-clause-found
returns-in-Some-clause-found c list bytes is =
    let view = λ (h : Profile × ℕ × ReadBlock). head_of h.0 h.1 h.2.bytes in
    let finds = subst (λ (l : List ℕ). Finds view c.in_ok-found.found c.head.new.fields (read head_form l)) (c.of-fields.ensures.all ∙ is) c.in_ok-found.ensures.found in
    let here = subst (λ (o : Option (Profile × ℕ × ReadBlock)). Finds view o c.head.new.fields (read head_form (take 65550 list))) c.in-Some.is finds in
    head_seen list bytes _ _ here

pub returns-in-None-clause-found : goal.returns-in-None-clause-found
returns-in-None-clause-found c list bytes is =
    let view = λ (h : Profile × ℕ × ReadBlock). head_of h.0 h.1 h.2.bytes in
    let finds = subst (λ (l : List ℕ). Finds view c.in_ok-found.found c.head.new.fields (read head_form l)) (c.of-fields.ensures.all ∙ is) c.in_ok-found.ensures.found in
    let here = subst (λ (o : Option (Profile × ℕ × ReadBlock)). Finds view o c.head.new.fields (read head_form (take 65550 list))) c.in-None.is finds in
    (head_flawed list bytes here, c.gate_at.ensures ∙ ap gate_of is ∙ gate_seen list)
