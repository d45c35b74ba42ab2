use Rattle.std.proofs.Common.{◌≡◌, ◌∙◌, List, ℕ, Option, Some, Ok, Err, IfSome, ap, refl, subst, sym}
use Rattle.std.specs.Io.KnownBytes.{Appends}
use Rattle.sp_io.specs.Whole.{AppendsFront}
use Rattle.sp_node.specs.Stored.{Tells}
use Rattle.sp_journal.specs.Records.{Damaged, Found, NoJournal}
use Rattle.sp_journal.specs.declared.fault.JournalFault.TheVariants as opening
use Rattle.spectre.specs.Journals.{damaged_text, HasNoJournal, not_journal_text}
use Rattle.spectre.specs.Ends.{EndsByDisk}
use Rattle.spectre.specs.Run.{run_status, run_text}
use Rattle.spectre.specs.declared.status.Status.TheVariants as status
use Rattle.spectre.proofs.DiskFirst.{stored_first}
use Rattle.spectre.proofs.KeptExits.{ends_on, exit_early, exit_line, line_ends, on_map, silent_disk, silent_memory}
use Rattle.spectre.proofs.KeptRuns.{at_one, damaged_misfits, damaged_run, none_misfits, none_run, on_one}
use Rattle.spectre.proofs.TopCall.{if_all}
use Rattle.spectre.proofs.keep.keep.Goals as goal

pub returns-in-Ok-clause-ends : goal.returns-in-Ok-clause-ends
returns-in-Ok-clause-ends g c = λ path.
    let now = g.D.Disk.now in
    let left = g.S.Source.left in
    let taken = g.K.Sink.taken in
    let fresh = c.args.fresh in
    let e = c.in-Ok.ensures in
    ends_on path fresh (left c.args.source.now) (left c.keep_on.new.source) (taken c.args.sink.now) (taken c.keep_on.new.sink) (now c.args.disk.now) (now c.open.new.disk) (now c.keep_on.new.disk) c.keep_on.result (g.met.D.Disk.is_moment c.args.disk.now) (g.met.D.Disk.is_moment c.open.new.disk) (g.met.D.Disk.is_moment c.keep_on.new.disk) e.looks
    (c.keep_on.ensures.ends path fresh (subst (λ (o : Option (List ℕ)). IfSome o (λ bytes. Tells fresh bytes (Ok c.in-Ok.stored))) (sym e.looks.reads) e.tells))

pub returns-in-NotJournal-clause-ends : goal.returns-in-NotJournal-clause-ends
returns-in-NotJournal-clause-ends g c = λ path.
    let now = g.D.Disk.now in
    let old = g.K.Sink.taken c.args.sink.now in
    let new = g.K.Sink.taken c.end_with.new.sink in
    let left = g.S.Source.left c.args.source.now in
    let first = now c.args.disk.now in
    let fresh = c.args.fresh in
    let e = rw c.in-NotJournal.is at c.in-Err.ensures.tells in
    let says : (disk : List ℕ) → first.reads ≡ Some disk → HasNoJournal fresh disk = λ disk r. (let t = at_one (λ (d : List ℕ). Tells fresh d (Err (opening.NotJournal c.in-NotJournal.gate))) r e in record { none = t.0.none; some = t.1; old = t.2 }) in
    exit_line path fresh left old first (now c.open.new.disk) (g.met.D.Disk.is_moment c.args.disk.now) (g.met.D.Disk.is_moment c.open.new.disk) c.in-Err.ensures.looks new not_journal_text status.NotJournal c.end_with.result c.end_with.ensures.status
    (λ h. subst (λ (t : List ℕ). Appends old new t) c.not_journal_line.ensures (c.end_with.ensures.text h)) (subst (λ (t : List ℕ). AppendsFront old new t) c.not_journal_line.ensures c.end_with.ensures.front)
    (λ disk input r. (ap run_text (none_run fresh disk input (says disk r)), none_misfits fresh disk input (says disk r)))
    (λ disk c r is. (let no : NoJournal ≡ Found c = sym (says disk r).none ∙ is in cc))
    (λ h. (on_map left first.reads _ _ (λ disk input l r x. record { status = sym (ap run_status (none_run fresh disk input (says disk r))); took = x }) h, on_one left _ (λ input l. l)))

pub returns-in-Damaged-clause-ends : goal.returns-in-Damaged-clause-ends
returns-in-Damaged-clause-ends g c = λ path.
    let now = g.D.Disk.now in
    let old = g.K.Sink.taken c.args.sink.now in
    let new = g.K.Sink.taken c.end_with-in-Damaged.new.sink in
    let left = g.S.Source.left c.args.source.now in
    let first = now c.args.disk.now in
    let fresh = c.args.fresh in
    let e = rw c.in-Damaged.is at c.in-Err.ensures.tells in
    let at = c.in-Damaged.at in
    exit_line path fresh left old first (now c.open.new.disk) (g.met.D.Disk.is_moment c.args.disk.now) (g.met.D.Disk.is_moment c.open.new.disk) c.in-Err.ensures.looks new (damaged_text at) status.Damaged c.end_with-in-Damaged.result c.end_with-in-Damaged.ensures.status
    (λ h. subst (λ (t : List ℕ). Appends old new t) c.damaged_line.ensures (c.end_with-in-Damaged.ensures.text h)) (subst (λ (t : List ℕ). AppendsFront old new t) c.damaged_line.ensures c.end_with-in-Damaged.ensures.front)
    (λ disk input r. (let is = at_one (λ (d : List ℕ). Tells fresh d (Err (opening.Damaged at))) r e in (ap run_text (damaged_run fresh disk input at is), damaged_misfits fresh disk input at is)))
    (λ disk c r is. (let no : Damaged at ≡ Found c = sym (at_one (λ (d : List ℕ). Tells fresh d (Err (opening.Damaged at))) r e) ∙ is in cc))
    (λ h. (on_map left first.reads _ _ (λ disk input l r x. record { status = sym (ap run_status (damaged_run fresh disk input at (at_one (λ (d : List ℕ). Tells fresh d (Err (opening.Damaged at))) r e))); took = x }) h, on_one left _ (λ input l. l)))

pub returns-in-DiskFault-clause-ends : goal.returns-in-DiskFault-clause-ends
returns-in-DiskFault-clause-ends g c = λ path.
    let now = g.D.Disk.now in
    let old = g.K.Sink.taken c.args.sink.now in
    let left = g.S.Source.left c.args.source.now in
    let first = now c.args.disk.now in
    let law = g.met.D.Disk.is_moment c.args.disk.now in
    let last_law = g.met.D.Disk.is_moment c.open.new.disk in
    exit_early path c.args.fresh left old first (now c.open.new.disk) law last_law c.in-Err.ensures.looks status.DiskFault tt (silent_disk path c.args.fresh left old first (now c.open.new.disk) law last_law c.in-Err.ensures.looks)

pub returns-in-Memory-clause-ends : goal.returns-in-Memory-clause-ends
returns-in-Memory-clause-ends g c = λ path.
    let now = g.D.Disk.now in
    let old = g.K.Sink.taken c.args.sink.now in
    let left = g.S.Source.left c.args.source.now in
    let first = now c.args.disk.now in
    let law = g.met.D.Disk.is_moment c.args.disk.now in
    let last_law = g.met.D.Disk.is_moment c.open.new.disk in
    exit_early path c.args.fresh left old first (now c.open.new.disk) law last_law c.in-Err.ensures.looks status.Memory tt (silent_memory path c.args.fresh left old first (now c.open.new.disk) law last_law c.in-Err.ensures.looks)

pub returns-in-Ok-clause-disk_first : goal.returns-in-Ok-clause-disk_first
returns-in-Ok-clause-disk_first g c = stored_first c.args.fresh c.in-Ok.stored (g.D.Disk.now c.args.disk.now).reads _ c.in-Ok.ensures.tells

pub returns-in-NotJournal-clause-disk_first : goal.returns-in-NotJournal-clause-disk_first
returns-in-NotJournal-clause-disk_first g c = if_all (g.D.Disk.now c.args.disk.now).reads _ (λ disk fault. (line_ends EndsByDisk c.end_with.result status.NotJournal c.end_with.ensures.status tt tt, refl))

pub returns-in-Damaged-clause-disk_first : goal.returns-in-Damaged-clause-disk_first
returns-in-Damaged-clause-disk_first g c = if_all (g.D.Disk.now c.args.disk.now).reads _ (λ disk fault. (line_ends EndsByDisk c.end_with-in-Damaged.result status.Damaged c.end_with-in-Damaged.ensures.status tt tt, refl))

pub returns-in-DiskFault-clause-disk_first : goal.returns-in-DiskFault-clause-disk_first
returns-in-DiskFault-clause-disk_first g c = if_all (g.D.Disk.now c.args.disk.now).reads _ (λ disk fault. (tt, refl))

pub returns-in-Memory-clause-disk_first : goal.returns-in-Memory-clause-disk_first
returns-in-Memory-clause-disk_first g c = if_all (g.D.Disk.now c.args.disk.now).reads _ (λ disk fault. (tt, refl))
