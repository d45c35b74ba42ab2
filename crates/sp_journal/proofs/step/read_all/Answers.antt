use Rattle.std.proofs.Common.{◌≡◌, arith, ap, Err, List, ℕ, Ok, refl, rules, subst, sym, ◌∙◌}
use Rattle.std.proofs.lemmas.Result.{err_from_is_err_and}
use Rattle.std.specs.Prelude.{IsErrOf}
use Rattle.sp_io.specs.Causes.{Rose}
use Rattle.sp_journal.specs.declared.fault.JournalFault.{JournalFault}
use Rattle.sp_journal.specs.declared.fault.JournalFault.TheVariants.{DiskFault}
use Rattle.sp_form.specs.Turns.{InTurn}
use Rattle.sp_block.specs.Block.{ReadBlock}
use Rattle.sp_journal.specs.Recovery.{EndsAt, id_behind, IsGood}
use Rattle.sp_journal.specs.Stepping.{IsStep}
use Rattle.sp_journal.proofs.Looking.{looks_then}
use Rattle.sp_journal.proofs.Stepping.{read_end, read_faulty, read_first, read_more}
use Rattle.sp_journal.proofs.step.read_all.Goals as goal

no_fault : {T E : Type 0} (x : T) (fault : E) → IsErrOf (Ok x) fault → ⊥
no_fault x fault is = absurd (cc is)

fault_is : {T : Type 0} (fault : JournalFault) → IsErrOf {T = T} (Err fault) DiskFault → fault ≡ DiskFault
fault_is fault is = cc is

pub each-init : goal.each-init
each-init g c = record {
  room = c.requires.room;
  looks = search rules;
  same_count = refl;
  read = read_first _ c.args.bits c.args.ids.now.items c.args.start c.args.blocks.now.items c.args.ids.now.items c.requires.none refl;
}

pub each-preserved : goal.each-preserved
each-preserved g c =
    let step = subst (IsStep (g.D.Disk.now c.each.disk).reads c.args.bits c.each.blocks.items c.each.ids.items c.each.place c.read_next.new.blocks.items c.read_next.new.ids.items) c.in-On.is c.in_ok-step.ensures.step in
    record {
      room = c.in_ok-step.ensures.room;
      looks = looks_then (g.D.Disk.now c.args.disk.now) (g.D.Disk.now c.each.disk) (g.D.Disk.now c.read_next.new.disk) (g.met.D.Disk.is_moment c.args.disk.now) (g.met.D.Disk.is_moment c.each.disk) c.each.invariant.looks c.in_ok-step.ensures.looked.looks;
      same_count = c.in_ok-step.ensures.looked.quiet (no_fault _ _) ∙ c.each.invariant.same_count;
      read = read_more _ c.args.bits c.args.ids.now.items c.args.start c.each.blocks.items c.each.ids.items c.each.place _ c.each.invariant.looks.reads c.each.invariant.read
          c.read_next.new.blocks.items c.read_next.new.ids.items c.in-On.next step;
    }

pub returns-in_err-step-clause-looked : goal.returns-in_err-step-clause-looked
returns-in_err-step-clause-looked g c =
    let now = g.D.Disk.now in
    let law = g.met.D.Disk.is_moment in
    let looked = c.in_err-step.ensures.looked in
    let same = c.each.invariant.same_count in
    let p = err_from_is_err_and c.from_residual.result c.from_residual.ensures.1 in
    rw (p.1, p.2) (record {
      looks = looks_then (now c.args.disk.now) (now c.each.disk) (now c.read_next.new.disk) (law c.args.disk.now) (law c.each.disk) c.each.invariant.looks looked.looks;
      fault = λ e. subst (λ (n : ℕ). Rose n (now c.read_next.new.disk).faults) same (looked.fault (ap Err (fault_is _ e)));
      later = omega (arith, same, looked.later);
      quiet = λ other. looked.quiet (λ e. other (ap Err (fault_is _ e))) ∙ same;
    })

pub returns-in-End : goal.returns-in-End
returns-in-End g c =
    let step = subst (IsStep (g.D.Disk.now c.each.disk).reads c.args.bits c.each.blocks.items c.each.ids.items c.each.place c.read_next.new.blocks.items c.read_next.new.ids.items) c.in-End.is c.in_ok-step.ensures.step in
    let same : (g.D.Disk.now c.read_next.new.disk).faults ≡ (g.D.Disk.now c.args.disk.now).faults = c.in_ok-step.ensures.looked.quiet (no_fault _ _) ∙ c.each.invariant.same_count in
    record {
      says = read_end _ c.args.bits c.args.ids.now.items c.args.start c.each.blocks.items c.each.ids.items c.each.place _ c.each.invariant.looks.reads c.each.invariant.read step.0 c.read_next.new.blocks.items step.1;
      ends = subst (λ (blocks : List ReadBlock). EndsAt c.args.start blocks c.each.place) (sym step.1) c.each.invariant.read.ends;
      good = subst (InTurn (IsGood c.args.bits) id_behind c.args.ids.now.items) (sym step.1) c.each.invariant.read.good;
      plain = tt;
      looked = record {
        looks = looks_then (g.D.Disk.now c.args.disk.now) (g.D.Disk.now c.each.disk) (g.D.Disk.now c.read_next.new.disk) (g.met.D.Disk.is_moment c.args.disk.now) (g.met.D.Disk.is_moment c.each.disk) c.each.invariant.looks c.in_ok-step.ensures.looked.looks;
        fault = λ e. absurd (no_fault _ _ e);
        later = omega (arith, same);
        quiet = λ other. same;
      };
    }

pub returns-in-Faulty : goal.returns-in-Faulty
returns-in-Faulty g c =
    let step = subst (IsStep (g.D.Disk.now c.each.disk).reads c.args.bits c.each.blocks.items c.each.ids.items c.each.place c.read_next.new.blocks.items c.read_next.new.ids.items) c.in-Faulty.is c.in_ok-step.ensures.step in
    let same : (g.D.Disk.now c.read_next.new.disk).faults ≡ (g.D.Disk.now c.args.disk.now).faults = c.in_ok-step.ensures.looked.quiet (no_fault _ _) ∙ c.each.invariant.same_count in
    record {
      says = read_faulty _ c.args.bits c.args.ids.now.items c.args.start c.each.blocks.items c.each.ids.items c.each.place _ c.each.invariant.looks.reads c.each.invariant.read step;
      ends = tt;
      good = tt;
      plain = tt;
      looked = record {
        looks = looks_then (g.D.Disk.now c.args.disk.now) (g.D.Disk.now c.each.disk) (g.D.Disk.now c.read_next.new.disk) (g.met.D.Disk.is_moment c.args.disk.now) (g.met.D.Disk.is_moment c.each.disk) c.each.invariant.looks c.in_ok-step.ensures.looked.looks;
        fault = λ e. absurd (no_fault _ _ e);
        later = omega (arith, same);
        quiet = λ other. same;
      };
    }
