use Rattle.std.proofs.Common.{Option, Err, inr, ap, refl, sym, subst}
use Rattle.sp_journal.proofs.Looking.{told_bytes}
use Rattle.spectre.specs.Ends.{Comes}
use Rattle.spectre.specs.Jobs.{job_in, NamesFile, Shows, TakesNothing, texts, WritesLast}
use Rattle.spectre.specs.declared.job.Job.{Job}
use Rattle.spectre.specs.declared.status.Status.TheVariants as status
use Rattle.spectre.proofs.AsDefined.{all_complete, cut, defined, no_rest, no_words, no_chain, no_disk, nothing_cut, rest, run_all}
use Rattle.spectre.proofs.ShownSigns.{shows_sign}
use Rattle.spectre.proofs.DiskFirst.{first_of, refused_first}
use Rattle.spectre.proofs.KeptWords.{kept_some}
use Rattle.spectre.proofs.Talking.{all_agree, all_alike}
use Rattle.spectre.proofs.TopCall.{asked_ends, ends_at, memory_comes, no_usage, nothing_asked, nothing_ended, nothing_fed, nothing_lost}
use Rattle.spectre.proofs.command.run.Goals as goal

pub returns-in-Ok-clause-as_defined : goal.returns-in-Ok-clause-as_defined
returns-in-Ok-clause-as_defined g c = defined (asked_ends c.in-Ok.ensures.job c.do_job.ensures.ends)

pub returns-in-Ok-clause-rest : goal.returns-in-Ok-clause-rest
returns-in-Ok-clause-rest g c = rest (asked_ends c.in-Ok.ensures.job c.do_job.ensures.ends)

pub returns-in-Err-Usage-clause-rest : goal.returns-in-Err-Usage-clause-rest
returns-in-Err-Usage-clause-rest g c = (no_rest _ (g.S.Source.left c.args.source.now) (g.S.Source.left c.args.source.now)).1

pub returns-in-Err-Memory-clause-rest : goal.returns-in-Err-Memory-clause-rest
returns-in-Err-Memory-clause-rest g c = (no_rest _ (g.S.Source.left c.args.source.now) (g.S.Source.left c.args.source.now)).0

pub returns-in-Ok-clause-cut_short : goal.returns-in-Ok-clause-cut_short
returns-in-Ok-clause-cut_short g c = cut (asked_ends c.in-Ok.ensures.job c.do_job.ensures.ends)

pub returns-in-Err-Memory-clause-cut_short : goal.returns-in-Err-Memory-clause-cut_short
returns-in-Err-Memory-clause-cut_short g c = λ short. nothing_cut _ (g.S.Source.left c.args.source.now) (g.D.Disk.now c.args.disk.now).reads (g.K.Sink.taken c.args.sink.now)

pub returns-in-Ok-clause-complete : goal.returns-in-Ok-clause-complete
returns-in-Ok-clause-complete g c = λ read write disk.
    let e = c.do_job.ensures in
    all_complete (asked_ends c.in-Ok.ensures.job e.ends) (λ s. read (e.read_cause s)) (λ s. write (e.write_cause s)) (λ s. disk (e.disk_cause s).0)

pub returns-in-Err-Memory-clause-complete : goal.returns-in-Err-Memory-clause-complete
returns-in-Err-Memory-clause-complete g c = λ read write disk. run_all _ (g.S.Source.left c.args.source.now) (g.D.Disk.now c.args.disk.now).reads _ (λ run. inr refl)

pub returns-in-Ok-clause-read_counted : goal.returns-in-Ok-clause-read_counted
returns-in-Ok-clause-read_counted g c = (c.do_job.ensures.read_cause, c.do_job.ensures.read_quiet)

pub returns-in-Ok-clause-write_counted : goal.returns-in-Ok-clause-write_counted
returns-in-Ok-clause-write_counted g c = (c.do_job.ensures.write_cause, c.do_job.ensures.write_quiet)

pub returns-in-Ok-clause-disk_counted : goal.returns-in-Ok-clause-disk_counted
returns-in-Ok-clause-disk_counted g c = ((λ s. (c.do_job.ensures.disk_cause s).0), c.do_job.ensures.disk_quiet)

pub returns-in-Ok-clause-read_fault : goal.returns-in-Ok-clause-read_fault
returns-in-Ok-clause-read_fault g c = λ s. (
  (λ takes. c.do_job.ensures.read_fault s (subst WritesLast c.in-Ok.ensures.job takes)),
  (ends_at status.ReadFault s (asked_ends c.in-Ok.ensures.job c.do_job.ensures.ends)).0,
)

pub returns-in-Ok-clause-disk_fault : goal.returns-in-Ok-clause-disk_fault
returns-in-Ok-clause-disk_fault g c = λ s. (
  (λ shows. c.do_job.ensures.disk_fault_shown s (subst Shows c.in-Ok.ensures.job shows)),
  (ends_at status.DiskFault s (asked_ends c.in-Ok.ensures.job c.do_job.ensures.ends)).0,
)

pub returns-in-Ok-clause-taken : goal.returns-in-Ok-clause-taken
returns-in-Ok-clause-taken g c = (asked_ends c.in-Ok.ensures.job c.do_job.ensures.ends).taken

pub returns-in-Ok-clause-taken_fed : goal.returns-in-Ok-clause-taken_fed
returns-in-Ok-clause-taken_fed g c = (asked_ends c.in-Ok.ensures.job c.do_job.ensures.ends).taken_fed

pub returns-in-Ok-clause-crash : goal.returns-in-Ok-clause-crash
returns-in-Ok-clause-crash g c = (asked_ends c.in-Ok.ensures.job c.do_job.ensures.ends).crash

pub returns-in-Ok-clause-no_input : goal.returns-in-Ok-clause-no_input
returns-in-Ok-clause-no_input g c = λ takes. c.do_job.ensures.no_input (subst TakesNothing c.in-Ok.ensures.job takes)

pub returns-in-Ok-clause-looks : goal.returns-in-Ok-clause-looks
returns-in-Ok-clause-looks g c = λ shows. c.do_job.ensures.looks (subst Shows c.in-Ok.ensures.job shows)

pub returns-in-Ok-clause-uncalled : goal.returns-in-Ok-clause-uncalled
returns-in-Ok-clause-uncalled g c = λ none. c.do_job.ensures.uncalled (λ names. none (subst NamesFile (sym c.in-Ok.ensures.job) names))

pub returns-in-Ok-clause-agree : goal.returns-in-Ok-clause-agree
returns-in-Ok-clause-agree g c =
    let disk = g.D.Disk.now c.args.disk.now in all_agree _ (g.S.Source.left c.args.source.now) disk.reads (told_bytes disk (g.met.D.Disk.is_moment c.args.disk.now)) c.jobs_agree.ensures

pub returns-in-Ok-clause-order : goal.returns-in-Ok-clause-order
returns-in-Ok-clause-order g c = all_alike _ (g.S.Source.left c.args.source.now) (g.D.Disk.now c.args.disk.now).reads

pub returns-in-Err-Usage-clause-agree : goal.returns-in-Err-Usage-clause-agree
returns-in-Err-Usage-clause-agree g c =
    let disk = g.D.Disk.now c.args.disk.now in all_agree _ (g.S.Source.left c.args.source.now) disk.reads (told_bytes disk (g.met.D.Disk.is_moment c.args.disk.now)) c.jobs_agree.ensures

pub returns-in-Err-Usage-clause-order : goal.returns-in-Err-Usage-clause-order
returns-in-Err-Usage-clause-order g c = all_alike _ (g.S.Source.left c.args.source.now) (g.D.Disk.now c.args.disk.now).reads

pub returns-in-Err-Memory-clause-agree : goal.returns-in-Err-Memory-clause-agree
returns-in-Err-Memory-clause-agree g c =
    let disk = g.D.Disk.now c.args.disk.now in all_agree _ (g.S.Source.left c.args.source.now) disk.reads (told_bytes disk (g.met.D.Disk.is_moment c.args.disk.now)) c.jobs_agree.ensures

pub returns-in-Err-Memory-clause-order : goal.returns-in-Err-Memory-clause-order
returns-in-Err-Memory-clause-order g c = all_alike _ (g.S.Source.left c.args.source.now) (g.D.Disk.now c.args.disk.now).reads

pub returns-in-Ok-clause-among : goal.returns-in-Ok-clause-among
returns-in-Ok-clause-among g c = subst (λ (j : Option Job). Comes j c.do_job.result) (sym c.in-Ok.ensures.job) c.do_job.ensures.among

pub returns-in-Err-Memory-clause-taken_fed : goal.returns-in-Err-Memory-clause-taken_fed
returns-in-Err-Memory-clause-taken_fed g c = λ feed. nothing_fed _ (g.S.Source.left c.args.source.now) (g.D.Disk.now c.args.disk.now).reads (g.K.Sink.taken c.args.sink.now)

pub returns-in-Err-Memory-clause-crash : goal.returns-in-Err-Memory-clause-crash
returns-in-Err-Memory-clause-crash g c = nothing_asked _ (g.S.Source.left c.args.source.now) (g.K.Sink.taken c.args.sink.now) (g.D.Disk.now c.args.disk.now) (g.met.D.Disk.is_moment c.args.disk.now)

pub returns-in-Ok-clause-journal_stays : goal.returns-in-Ok-clause-journal_stays
returns-in-Ok-clause-journal_stays g c = (asked_ends c.in-Ok.ensures.job c.do_job.ensures.ends).lasting

pub returns-in-Err-Memory-clause-journal_stays : goal.returns-in-Err-Memory-clause-journal_stays
returns-in-Err-Memory-clause-journal_stays g c = nothing_ended _ (g.D.Disk.now c.args.disk.now) (g.met.D.Disk.is_moment c.args.disk.now)

pub returns-in-Ok-clause-found_stays : goal.returns-in-Ok-clause-found_stays
returns-in-Ok-clause-found_stays g c = (asked_ends c.in-Ok.ensures.job c.do_job.ensures.ends).onward

pub returns-in-Err-Memory-clause-found_stays : goal.returns-in-Err-Memory-clause-found_stays
returns-in-Err-Memory-clause-found_stays g c = nothing_lost _ (g.D.Disk.now c.args.disk.now) (g.met.D.Disk.is_moment c.args.disk.now)

pub returns-in-Ok-clause-certified : goal.returns-in-Ok-clause-certified
returns-in-Ok-clause-certified g c = (asked_ends c.in-Ok.ensures.job c.do_job.ensures.ends).certified

pub returns-in-Ok-clause-shown : goal.returns-in-Ok-clause-shown
returns-in-Ok-clause-shown g c = λ s checks.
    let ends = asked_ends c.in-Ok.ensures.job c.do_job.ensures.ends in
    shows_sign (job_in (texts c.args.words.now)) (g.S.Source.left c.args.source.now) (g.D.Disk.now c.args.disk.now).reads (g.K.Sink.taken c.args.sink.now) (g.K.Sink.taken c.do_job.new.sink) checks c.read_is_certificate.ensures c.soundness.ensures (ends_at status.Done s ends).0

pub returns-in-Err-Memory-clause-among : goal.returns-in-Err-Memory-clause-among
returns-in-Err-Memory-clause-among g c = memory_comes _ (kept_some _ (c.in-Err-Memory.ensures.memory (ap (λ e. Err e) c.in-Err-Memory.field-0-is)))

pub returns-in-Err-Memory-clause-usage : goal.returns-in-Err-Memory-clause-usage
returns-in-Err-Memory-clause-usage g c = ((λ e. absurd cc), (λ none. absurd (no_usage _ (kept_some _ (c.in-Err-Memory.ensures.memory (ap (λ e. Err e) c.in-Err-Memory.field-0-is))) none)))

pub returns-in-Ok-clause-disk_first : goal.returns-in-Ok-clause-disk_first
returns-in-Ok-clause-disk_first g c =
    first_of _ _ (g.D.Disk.now c.args.disk.now).reads _ c.in-Ok.ensures.job c.do_job.ensures.disk_first

pub returns-in-Err-Memory-clause-disk_first : goal.returns-in-Err-Memory-clause-disk_first
returns-in-Err-Memory-clause-disk_first g c =
    refused_first _ (g.D.Disk.now c.args.disk.now).reads _ refl

pub returns-in-Err-Usage-clause-disk_first : goal.returns-in-Err-Usage-clause-disk_first
returns-in-Err-Usage-clause-disk_first g c = no_disk _ (g.D.Disk.now c.args.disk.now).reads _ (c.in-Err-Usage.ensures.usage (ap (λ e. Err e) c.in-Err-Usage.field-0-is))

pub returns-in-Ok-clause-chain_first : goal.returns-in-Ok-clause-chain_first
returns-in-Ok-clause-chain_first g c =
    (asked_ends c.in-Ok.ensures.job c.do_job.ensures.ends).chain

pub returns-in-Err-Memory-clause-chain_first : goal.returns-in-Err-Memory-clause-chain_first
returns-in-Err-Memory-clause-chain_first g c =
    no_chain _ (g.S.Source.left c.args.source.now) (g.D.Disk.now c.args.disk.now).reads

pub returns-in-Err-Usage-clause-chain_first : goal.returns-in-Err-Usage-clause-chain_first
returns-in-Err-Usage-clause-chain_first g c =
    no_words _ (g.S.Source.left c.args.source.now) (g.D.Disk.now c.args.disk.now).reads _ (c.in-Err-Usage.ensures.usage (ap (λ e. Err e) c.in-Err-Usage.field-0-is))

pub returns-in-Err-Usage-clause-complete : goal.returns-in-Err-Usage-clause-complete
returns-in-Err-Usage-clause-complete g c = λ read write disk.
    no_words _ (g.S.Source.left c.args.source.now) (g.D.Disk.now c.args.disk.now).reads _ (c.in-Err-Usage.ensures.usage (ap (λ e. Err e) c.in-Err-Usage.field-0-is))
