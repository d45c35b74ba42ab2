use Rattle.std.proofs.Common.{ℕ, Option, refl, subst, sym}
use Rattle.std.specs.Prelude.{IfSome, IsNone}
use Rattle.sp_journal.specs.Stepping.{Joins}
use Rattle.sp_journal.proofs.Stepping.{step_end, step_faulty, step_full, step_on}
use Rattle.sp_journal.proofs.step.step_of.Goals as goal

pub returns-in-End : goal.returns-in-End
returns-in-End c = record {
  step = λ reads bits found good. step_end reads bits c.args.blocks.now.items c.args.ids.now.items c.args.place c.args.row found c.in-End.is;
}

pub returns-in-Faulty : goal.returns-in-Faulty
returns-in-Faulty c = record {
  step = λ reads bits found good. step_faulty reads bits c.args.blocks.now.items c.args.ids.now.items c.args.place c.args.row found c.in-Faulty.is;
}

pub returns-in-Some : goal.returns-in-Some
returns-in-Some c =
    let block = c.in-Next.block in
    let joins = subst (λ (o : Option ℕ). IfSome o (Joins c.args.blocks.now.items c.args.ids.now.items c.args.place block c.join.new.blocks.items c.join.new.ids.items)) c.in-Some.is c.in_ok-next-in-Next.ensures.joins in
    record {
      step = λ reads bits found good. step_on reads bits c.args.blocks.now.items c.args.ids.now.items c.args.place c.args.row found block c.in-Next.is good c.join.new.blocks.items c.join.new.ids.items c.in-Some.next joins;
    }

pub returns-in-None : goal.returns-in-None
returns-in-None c =
    let full = c.in_ok-next-in-Next.ensures.full (subst (λ (o : Option ℕ). IsNone o) (sym c.in-None.is) refl) in
    record {
      step = λ reads bits found good. step_full reads bits c.args.blocks.now.items c.args.ids.now.items c.args.place c.args.row found c.in-Next.block c.in-Next.is full;
    }
