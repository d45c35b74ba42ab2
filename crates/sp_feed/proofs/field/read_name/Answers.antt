use Rattle.std.proofs.Common.{◌∷◌, [], ap, sym, ◌∙◌}
use Rattle.std.proofs.lemmas.Result.{err_from_is_err_and}
use Rattle.std.specs.Prelude.{is_some, unwrap_or}
use Rattle.sp_form.specs.Form.{rule}
use Rattle.sp_model.specs.declared.profile.Profile.TheVariants.{One}
use Rattle.sp_feed.specs.Format.{broken}
use Rattle.sp_feed.specs.Versions.{profile_of}
use Rattle.sp_feed.proofs.Reading.{met, reads_faulty, reads_field, reads_short, unmet}
use Rattle.sp_feed.proofs.field.read_name.Goals as goal

pub returns-in_err-fill-clause-reads : goal.returns-in_err-fill-clause-reads
returns-in_err-fill-clause-reads g c =
    let p = err_from_is_err_and c.from_residual.result c.from_residual.ensures.1 in
    rw (p.1, p.2) (reads_short 8 (λ bytes. rule (is_some (profile_of bytes)) broken ∷ []) (λ bytes. unwrap_or (profile_of bytes) One) (λ profile. profile) c.in_err-fill.ensures.fills c.fill.auto.out)

pub returns-in-Some-clause-reads : goal.returns-in-Some-clause-reads
returns-in-Some-clause-reads g c = reads_field 8 (λ bytes. rule (is_some (profile_of bytes)) broken ∷ []) (λ bytes. unwrap_or (profile_of bytes) One) (λ profile. profile) c.in-Some.profile c.in_ok-fill.ensures.fills c.fill.auto.out (met (is_some (profile_of c.fill.new.out)) (ap is_some (sym c.profile_of.ensures ∙ c.in-Some.is))) (ap (λ o. unwrap_or o One) (sym c.profile_of.ensures ∙ c.in-Some.is))

pub returns-in-None-clause-reads : goal.returns-in-None-clause-reads
returns-in-None-clause-reads g c = reads_faulty 8 (λ bytes. rule (is_some (profile_of bytes)) broken ∷ []) (λ bytes. unwrap_or (profile_of bytes) One) (λ profile. profile) broken c.in_ok-fill.ensures.fills c.fill.auto.out (unmet (is_some (profile_of c.fill.new.out)) (ap is_some (sym c.profile_of.ensures ∙ c.in-None.is)))
