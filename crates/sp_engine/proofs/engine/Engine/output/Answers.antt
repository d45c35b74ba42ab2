use Rattle.std.proofs.Common.{◌∙◌, ap, ap₂, sym}
use Rattle.std.specs.Prelude.{slice_get}
use Rattle.sp_tx.specs.Parts.{Transaction}
use Rattle.sp_engine.proofs.Facts.{accepting_of, engine_of}
use Rattle.sp_engine.proofs.NamedOutputs.{looked_up, output_of_none, output_of_number, output_own}
use Rattle.sp_engine.proofs.engine.Engine.output.Goals as goal

pub returns-in-None-clause-value : goal.returns-in-None-clause-value
returns-in-None-clause-value c =
    sym (output_of_none (engine_of c.self.view_is c.self.invariant) (accepting_of c.self.view_is c.self.invariant) c.args.from.now
    (sym c.tx_of.ensures.value ∙ c.in-None.is))

pub returns-in-None-clause-own : goal.returns-in-None-clause-own
returns-in-None-clause-own c plain =
    returns-in-None-clause-value c
    ∙ output_own c.args.self.now.profile c.args.self.now.kept c.args.from.now (engine_of c.self.view_is c.self.invariant).all_kept.apart plain

pub returns-in-Some-clause-value : goal.returns-in-Some-clause-value
returns-in-Some-clause-value c =
    looked_up c.get.result c.as_slice-outputs.result.now c.from.result c.get.ensures.lookup.3
    ∙ ap₂ slice_get (c.as_slice-outputs.ensures ∙ ap (λ (t : Transaction). t.outputs) (c.behind-self.view_is ∙ c.tx.ensures)) c.from.ensures
    ∙ sym (output_of_number (engine_of c.self.view_is c.self.invariant) (accepting_of c.self.view_is c.self.invariant) c.args.from.now c.in-Some.tx
    (sym c.tx_of.ensures.value ∙ c.in-Some.is))

pub returns-in-Some-clause-own : goal.returns-in-Some-clause-own
returns-in-Some-clause-own c plain =
    returns-in-Some-clause-value c
    ∙ output_own c.args.self.now.profile c.args.self.now.kept c.args.from.now (engine_of c.self.view_is c.self.invariant).all_kept.apart plain
