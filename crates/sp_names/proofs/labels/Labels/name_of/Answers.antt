use Rattle.std.proofs.Common.{List, Some, ℕ, ap, sym, ◌∙◌}
use Rattle.std.specs.Ordering.{is_eq}
use Rattle.sp_names.proofs.Named.{name_at, no_name}
use Rattle.sp_names.proofs.labels.Labels.name_of.Goals as goal

pub returns-in-Some-clause-name : goal.returns-in-Some-clause-name
returns-in-Some-clause-name g c =
    ap (λ (text : List ℕ). Some text) c.as_slice.ensures.bytes
    ∙ name_at (λ other. is_eq (g.K.Ord.cmp c.args.key.now other)) c.args.self.now c.in-Some.place c.at-label.result.now (sym c.in-Some.is ∙ c.place_of.ensures) c.at-label.ensures

pub returns-in-None-clause-name : goal.returns-in-None-clause-name
returns-in-None-clause-name g c = no_name (λ other. is_eq (g.K.Ord.cmp c.args.key.now other)) c.args.self.now (sym c.in-None.is ∙ c.place_of.ensures)
