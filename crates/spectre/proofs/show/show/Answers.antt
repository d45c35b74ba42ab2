use Rattle.std.proofs.Common.{◌≡◌, ◌∙◌, List, ℕ, IfSome, refl, subst, sym}
use Rattle.std.specs.Io.KnownBytes.{Appends}
use Rattle.sp_io.specs.Whole.{AppendsFront}
use Rattle.sp_io.proofs.Writing.{wrote_none}
use Rattle.sp_journal.specs.Opening.{contents_in}
use Rattle.sp_journal.specs.Records.{Damaged as damaged, Found as found, NoJournal, records}
use Rattle.spectre.specs.Ends.{Shows}
use Rattle.spectre.specs.Journals.{shown_output}
use Rattle.spectre.specs.declared.status.Status.TheVariants as status
use Rattle.spectre.proofs.KeptExits.{differ, line_ends, line_not}
use Rattle.spectre.proofs.KeptRuns.{on_one}
use Rattle.spectre.proofs.Shown.{if_more, shown_at, shown_text}
use Rattle.spectre.proofs.show.show.Goals as goal

pub returns-in-Ok-clause-done : goal.returns-in-Ok-clause-done
returns-in-Ok-clause-done g c = λ e.
    let reads = (g.D.Disk.now c.args.disk.now).reads in
    let a = g.K.Sink.taken c.args.sink.now in
    let b = g.K.Sink.taken c.tell_of.new.sink in
    let c2 = contents_in c.in-Ok-Found.opened in
    let tells : IfSome reads (λ bytes. records bytes ≡ found c2) = (rw c.in-Ok-Found.field-0-is at c.in-Ok-Found.ensures.tells) in
    if_more reads _ _ (λ bytes h. (h.0, (c2, h.1))) (shown_at c.args.shape reads (found c2) (λ t. Appends a b t) tells c.in-Ok.ensures.ok)

pub returns-in-Err-WriteFault-clause-write_fault : goal.returns-in-Err-WriteFault-clause-write_fault
returns-in-Err-WriteFault-clause-write_fault g c = λ e.
    let reads = (g.D.Disk.now c.args.disk.now).reads in
    let a = g.K.Sink.taken c.args.sink.now in
    let b = g.K.Sink.taken c.tell_of.new.sink in
    let c2 = contents_in c.in-Ok-Found.opened in
    let tells : IfSome reads (λ bytes. records bytes ≡ found c2) = (rw c.in-Ok-Found.field-0-is at c.in-Ok-Found.ensures.tells) in
    shown_text c.args.shape reads (found c2) (λ t. AppendsFront a b t) tells c.in-Err-WriteFault.ensures.err

pub returns-in-Err-Memory-clause-memory : goal.returns-in-Err-Memory-clause-memory
returns-in-Err-Memory-clause-memory g c = λ e.
    let reads = (g.D.Disk.now c.args.disk.now).reads in
    let a = g.K.Sink.taken c.args.sink.now in
    let b = g.K.Sink.taken c.tell_of.new.sink in
    let c2 = contents_in c.in-Ok-Found.opened in
    let tells : IfSome reads (λ bytes. records bytes ≡ found c2) = (rw c.in-Ok-Found.field-0-is at c.in-Ok-Found.ensures.tells) in
    shown_text c.args.shape reads (found c2) (λ t. AppendsFront a b t) tells c.in-Err-Memory.ensures.err

pub returns-in-Ok-Empty-clause-not_journal : goal.returns-in-Ok-Empty-clause-not_journal
returns-in-Ok-Empty-clause-not_journal g c = λ e.
    let reads = (g.D.Disk.now c.args.disk.now).reads in
    let a = g.K.Sink.taken c.args.sink.now in
    let b = g.K.Sink.taken c.end_with.new.sink in
    let tells : IfSome reads (λ bytes. records bytes ≡ NoJournal) = if_more reads _ _ (λ bytes t. t.0.none) (rw c.in-Ok-Empty.field-0-is at c.in-Ok-Empty.ensures.tells) in
    shown_at c.args.shape reads NoJournal (λ t. Appends a b t) tells (subst (λ (t : List ℕ). Appends a b t) c.not_journal_line.ensures (c.end_with.ensures.text (λ h. differ status.NotJournal status.WriteFault refl (sym e ∙ h))))

pub returns-in-Ok-Empty-clause-write_fault : goal.returns-in-Ok-Empty-clause-write_fault
returns-in-Ok-Empty-clause-write_fault g c = λ e.
    let reads = (g.D.Disk.now c.args.disk.now).reads in
    let a = g.K.Sink.taken c.args.sink.now in
    let b = g.K.Sink.taken c.end_with.new.sink in
    let tells : IfSome reads (λ bytes. records bytes ≡ NoJournal) = if_more reads _ _ (λ bytes t. t.0.none) (rw c.in-Ok-Empty.field-0-is at c.in-Ok-Empty.ensures.tells) in
    shown_text c.args.shape reads NoJournal (λ t. AppendsFront a b t) tells (subst (λ (t : List ℕ). AppendsFront a b t) c.not_journal_line.ensures c.end_with.ensures.front)

pub returns-in-NotJournal-clause-not_journal : goal.returns-in-NotJournal-clause-not_journal
returns-in-NotJournal-clause-not_journal g c = λ e.
    let reads = (g.D.Disk.now c.args.disk.now).reads in
    let a = g.K.Sink.taken c.args.sink.now in
    let b = g.K.Sink.taken c.end_with-in-NotJournal.new.sink in
    let tells : IfSome reads (λ bytes. records bytes ≡ NoJournal) = if_more reads _ _ (λ bytes t. t.0.none) (rw c.in-NotJournal.is at c.in-Err.ensures.tells) in
    shown_at c.args.shape reads NoJournal (λ t. Appends a b t) tells (subst (λ (t : List ℕ). Appends a b t) c.not_journal_line-in-NotJournal.ensures (c.end_with-in-NotJournal.ensures.text (λ h. differ status.NotJournal status.WriteFault refl (sym e ∙ h))))

pub returns-in-NotJournal-clause-write_fault : goal.returns-in-NotJournal-clause-write_fault
returns-in-NotJournal-clause-write_fault g c = λ e.
    let reads = (g.D.Disk.now c.args.disk.now).reads in
    let a = g.K.Sink.taken c.args.sink.now in
    let b = g.K.Sink.taken c.end_with-in-NotJournal.new.sink in
    let tells : IfSome reads (λ bytes. records bytes ≡ NoJournal) = if_more reads _ _ (λ bytes t. t.0.none) (rw c.in-NotJournal.is at c.in-Err.ensures.tells) in
    shown_text c.args.shape reads NoJournal (λ t. AppendsFront a b t) tells (subst (λ (t : List ℕ). AppendsFront a b t) c.not_journal_line-in-NotJournal.ensures c.end_with-in-NotJournal.ensures.front)

pub returns-in-Damaged-clause-damaged : goal.returns-in-Damaged-clause-damaged
returns-in-Damaged-clause-damaged g c = λ e.
    let reads = (g.D.Disk.now c.args.disk.now).reads in
    let a = g.K.Sink.taken c.args.sink.now in
    let b = g.K.Sink.taken c.end_with-in-Damaged.new.sink in
    let tells : IfSome reads (λ bytes. records bytes ≡ damaged c.in-Damaged.at) = (rw c.in-Damaged.is at c.in-Err.ensures.tells) in
    if_more reads _ _ (λ bytes h. (h.0, (c.in-Damaged.at, h.1))) (shown_at c.args.shape reads (damaged c.in-Damaged.at) (λ t. Appends a b t) tells (subst (λ (t : List ℕ). Appends a b t) c.damaged_line.ensures (c.end_with-in-Damaged.ensures.text (λ h. differ status.Damaged status.WriteFault refl (sym e ∙ h)))))

pub returns-in-Damaged-clause-write_fault : goal.returns-in-Damaged-clause-write_fault
returns-in-Damaged-clause-write_fault g c = λ e.
    let reads = (g.D.Disk.now c.args.disk.now).reads in
    let a = g.K.Sink.taken c.args.sink.now in
    let b = g.K.Sink.taken c.end_with-in-Damaged.new.sink in
    let tells : IfSome reads (λ bytes. records bytes ≡ damaged c.in-Damaged.at) = (rw c.in-Damaged.is at c.in-Err.ensures.tells) in
    shown_text c.args.shape reads (damaged c.in-Damaged.at) (λ t. AppendsFront a b t) tells (subst (λ (t : List ℕ). AppendsFront a b t) c.damaged_line.ensures c.end_with-in-Damaged.ensures.front)

pub returns-in-Memory-clause-memory : goal.returns-in-Memory-clause-memory
returns-in-Memory-clause-memory g c = λ e.
    let a = g.K.Sink.taken c.args.sink.now in
    on_one (g.D.Disk.now c.args.disk.now).reads (λ bytes. AppendsFront a a (shown_output c.args.shape bytes)) (λ bytes r. (shown_output c.args.shape bytes, wrote_none a (shown_output c.args.shape bytes)))

pub returns-in-Ok-Empty-clause-done : goal.returns-in-Ok-Empty-clause-done
returns-in-Ok-Empty-clause-done g c = line_not status.Done c.end_with.result status.NotJournal c.end_with.ensures.status refl refl

pub returns-in-Ok-Empty-clause-damaged : goal.returns-in-Ok-Empty-clause-damaged
returns-in-Ok-Empty-clause-damaged g c = line_not status.Damaged c.end_with.result status.NotJournal c.end_with.ensures.status refl refl

pub returns-in-Ok-Empty-clause-disk_fault : goal.returns-in-Ok-Empty-clause-disk_fault
returns-in-Ok-Empty-clause-disk_fault g c = line_not status.DiskFault c.end_with.result status.NotJournal c.end_with.ensures.status refl refl

pub returns-in-Ok-Empty-clause-disk_cause : goal.returns-in-Ok-Empty-clause-disk_cause
returns-in-Ok-Empty-clause-disk_cause g c = line_not status.DiskFault c.end_with.result status.NotJournal c.end_with.ensures.status refl refl

pub returns-in-Ok-Empty-clause-memory : goal.returns-in-Ok-Empty-clause-memory
returns-in-Ok-Empty-clause-memory g c = line_not status.Memory c.end_with.result status.NotJournal c.end_with.ensures.status refl refl

pub returns-in-Ok-Empty-clause-among : goal.returns-in-Ok-Empty-clause-among
returns-in-Ok-Empty-clause-among g c = line_ends Shows c.end_with.result status.NotJournal c.end_with.ensures.status tt tt

pub returns-in-NotJournal-clause-done : goal.returns-in-NotJournal-clause-done
returns-in-NotJournal-clause-done g c = line_not status.Done c.end_with-in-NotJournal.result status.NotJournal c.end_with-in-NotJournal.ensures.status refl refl

pub returns-in-NotJournal-clause-damaged : goal.returns-in-NotJournal-clause-damaged
returns-in-NotJournal-clause-damaged g c = line_not status.Damaged c.end_with-in-NotJournal.result status.NotJournal c.end_with-in-NotJournal.ensures.status refl refl

pub returns-in-NotJournal-clause-disk_fault : goal.returns-in-NotJournal-clause-disk_fault
returns-in-NotJournal-clause-disk_fault g c = line_not status.DiskFault c.end_with-in-NotJournal.result status.NotJournal c.end_with-in-NotJournal.ensures.status refl refl

pub returns-in-NotJournal-clause-disk_cause : goal.returns-in-NotJournal-clause-disk_cause
returns-in-NotJournal-clause-disk_cause g c = line_not status.DiskFault c.end_with-in-NotJournal.result status.NotJournal c.end_with-in-NotJournal.ensures.status refl refl

pub returns-in-NotJournal-clause-memory : goal.returns-in-NotJournal-clause-memory
returns-in-NotJournal-clause-memory g c = line_not status.Memory c.end_with-in-NotJournal.result status.NotJournal c.end_with-in-NotJournal.ensures.status refl refl

pub returns-in-NotJournal-clause-among : goal.returns-in-NotJournal-clause-among
returns-in-NotJournal-clause-among g c = line_ends Shows c.end_with-in-NotJournal.result status.NotJournal c.end_with-in-NotJournal.ensures.status tt tt

pub returns-in-Damaged-clause-done : goal.returns-in-Damaged-clause-done
returns-in-Damaged-clause-done g c = line_not status.Done c.end_with-in-Damaged.result status.Damaged c.end_with-in-Damaged.ensures.status refl refl

pub returns-in-Damaged-clause-not_journal : goal.returns-in-Damaged-clause-not_journal
returns-in-Damaged-clause-not_journal g c = line_not status.NotJournal c.end_with-in-Damaged.result status.Damaged c.end_with-in-Damaged.ensures.status refl refl

pub returns-in-Damaged-clause-disk_fault : goal.returns-in-Damaged-clause-disk_fault
returns-in-Damaged-clause-disk_fault g c = line_not status.DiskFault c.end_with-in-Damaged.result status.Damaged c.end_with-in-Damaged.ensures.status refl refl

pub returns-in-Damaged-clause-disk_cause : goal.returns-in-Damaged-clause-disk_cause
returns-in-Damaged-clause-disk_cause g c = line_not status.DiskFault c.end_with-in-Damaged.result status.Damaged c.end_with-in-Damaged.ensures.status refl refl

pub returns-in-Damaged-clause-memory : goal.returns-in-Damaged-clause-memory
returns-in-Damaged-clause-memory g c = line_not status.Memory c.end_with-in-Damaged.result status.Damaged c.end_with-in-Damaged.ensures.status refl refl

pub returns-in-Damaged-clause-among : goal.returns-in-Damaged-clause-among
returns-in-Damaged-clause-among g c = line_ends Shows c.end_with-in-Damaged.result status.Damaged c.end_with-in-Damaged.ensures.status tt tt
