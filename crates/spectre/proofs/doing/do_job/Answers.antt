use Rattle.std.proofs.Common.{Some, ap, refl, sym, subst}
use Rattle.spectre.specs.Ends.{CertifiesTo, Checks, Makes, Plays, Replays, Shows, SpendsTo}
use Rattle.sp_make.specs.Made.{made}
use Rattle.sp_play.specs.Scene.{scene}
use Rattle.spectre.specs.JobEnds.{JobEnds, WritesBy}
use Rattle.spectre.specs.declared.job.Job.{Job}
use Rattle.spectre.specs.declared.job.Job.TheVariants as jobs
use Rattle.spectre.specs.declared.shape.Shape.TheVariants.{Feed, Report}
use Rattle.spectre.proofs.AsDefined.{silent_cut}
use Rattle.spectre.proofs.DiskFirst.{first_of, no_fault, shown_first, shown_journal}
use Rattle.spectre.proofs.JobRuns.{build_runs, drill_done, drill_faulty, drill_front, gossip_runs, make_ended, make_front, play_runs, show_damaged, show_done, show_front, show_no_journal}
use Rattle.spectre.proofs.RunFirst.{chain_of, disk_of}
use Rattle.spectre.proofs.TopCall.{if_all, on_status}
use Rattle.spectre.proofs.doing.do_job.Goals as goal

pub returns-in-Replay-clause-ends : goal.returns-in-Replay-clause-ends
returns-in-Replay-clause-ends g c =
    let first = g.D.Disk.now c.args.disk.now in
    let before = g.S.Source.left c.args.source.now in
    let after = g.S.Source.left c.replay.new.source in
    let old = g.K.Sink.taken c.args.sink.now in
    let new = g.K.Sink.taken c.replay.new.sink in
    let e = c.replay.ensures in
    subst (λ (j : Job). JobEnds (Some j) first.reads before after old new first first c.replay.result) (sym c.in-Replay.is) record {
      by = e.by first.reads;
      taken = λ takes. absurd takes;
      taken_fed = λ _. e.taken;
      chain = chain_of jobs.Replay before first.reads _ (if_all before _ (λ input other. absurd other));
      certified = λ s. tt;
      onward = tt;
      lasting = tt;
      crash = tt;
    }

pub returns-in-Replay-clause-disk_cause : goal.returns-in-Replay-clause-disk_cause
returns-in-Replay-clause-disk_cause g c = λ s. absurd (subst Replays s c.replay.ensures.among)

pub returns-in-Keep-clause-ends : goal.returns-in-Keep-clause-ends
returns-in-Keep-clause-ends g c =
    let first = g.D.Disk.now c.args.disk.now in
    let last = g.D.Disk.now c.keep.new.disk in
    let before = g.S.Source.left c.args.source.now in
    let after = g.S.Source.left c.keep.new.source in
    let old = g.K.Sink.taken c.args.sink.now in
    let new = g.K.Sink.taken c.keep.new.sink in
    subst (λ (j : Job). JobEnds (Some j) first.reads before after old new first last c.keep.result) (sym c.in-Keep.is)
    (c.keep.ensures.ends c.in-Keep.path)

pub returns-in-Show-clause-ends : goal.returns-in-Show-clause-ends
returns-in-Show-clause-ends g c =
    let first = g.D.Disk.now c.args.disk.now in
    let last = g.D.Disk.now c.show.new.disk in
    let before = g.S.Source.left c.args.source.now in
    let after = before in
    let old = g.K.Sink.taken c.args.sink.now in
    let new = g.K.Sink.taken c.show.new.sink in
    let e = c.show.ensures in
    let job = jobs.Show c.in-Show.path in
    subst (λ (j : Job). JobEnds (Some j) first.reads before after old new first last c.show.result) (sym c.in-Show.is) record {
      by = on_status (WritesBy (Some job) first.reads before after old new) c.show.result
          (λ s. (show_done Report first.reads old new (e.done s), if_all before _ (λ input. tt)))
          (λ s. absurd (subst Shows s e.among))
          (λ s. absurd (subst Shows s e.among))
          (λ s. absurd (subst Shows s e.among))
          (λ s. absurd (subst Shows s e.among))
          (λ s. show_front Report first.reads old new (e.write_fault s))
          (λ s. ((λ fed. absurd fed), silent_cut (Some job) before first.reads old new (ap g.K.Sink.taken (e.disk_fault s))))
          (λ s. (show_no_journal Report first.reads old new (e.not_journal s), if_all before _ (λ input. tt)))
          (λ s. absurd (subst Shows s e.among))
          (λ s. show_front Report first.reads old new (e.memory s))
          (λ s. (show_damaged Report first.reads old new (e.damaged s), if_all before _ (λ input. tt)))
          (λ s. absurd (subst Shows s e.among))
          (λ s. absurd (subst Shows s e.among))
          (λ s. absurd (subst Shows s e.among))
          (λ s. absurd (subst Shows s e.among))
          (λ s. absurd (subst Shows s e.among));
      taken = λ takes. absurd takes;
      taken_fed = λ fed. absurd fed;
      chain = chain_of (jobs.Show c.in-Show.path) before first.reads _ (if_all first.reads _ (λ bytes other. absurd other));
      certified = λ s. tt;
      onward = tt;
      lasting = tt;
      crash = tt;
    }

pub returns-in-Show-clause-read_cause : goal.returns-in-Show-clause-read_cause
returns-in-Show-clause-read_cause g c = λ s. absurd (subst Shows s c.show.ensures.among)

pub returns-in-Export-clause-ends : goal.returns-in-Export-clause-ends
returns-in-Export-clause-ends g c =
    let first = g.D.Disk.now c.args.disk.now in
    let last = g.D.Disk.now c.show-in-Export.new.disk in
    let before = g.S.Source.left c.args.source.now in
    let after = before in
    let old = g.K.Sink.taken c.args.sink.now in
    let new = g.K.Sink.taken c.show-in-Export.new.sink in
    let e = c.show-in-Export.ensures in
    let job = jobs.Export c.in-Export.path c.in-Export.profile in
    subst (λ (j : Job). JobEnds (Some j) first.reads before after old new first last c.show-in-Export.result) (sym c.in-Export.is) record {
      by = on_status (WritesBy (Some job) first.reads before after old new) c.show-in-Export.result
          (λ s. (show_done (Feed c.in-Export.profile) first.reads old new (e.done s), if_all before _ (λ input. tt)))
          (λ s. absurd (subst Shows s e.among))
          (λ s. absurd (subst Shows s e.among))
          (λ s. absurd (subst Shows s e.among))
          (λ s. absurd (subst Shows s e.among))
          (λ s. show_front (Feed c.in-Export.profile) first.reads old new (e.write_fault s))
          (λ s. ((λ fed. absurd fed), silent_cut (Some job) before first.reads old new (ap g.K.Sink.taken (e.disk_fault s))))
          (λ s. (show_no_journal (Feed c.in-Export.profile) first.reads old new (e.not_journal s), if_all before _ (λ input. tt)))
          (λ s. absurd (subst Shows s e.among))
          (λ s. show_front (Feed c.in-Export.profile) first.reads old new (e.memory s))
          (λ s. (show_damaged (Feed c.in-Export.profile) first.reads old new (e.damaged s), if_all before _ (λ input. tt)))
          (λ s. absurd (subst Shows s e.among))
          (λ s. absurd (subst Shows s e.among))
          (λ s. absurd (subst Shows s e.among))
          (λ s. absurd (subst Shows s e.among))
          (λ s. absurd (subst Shows s e.among));
      taken = λ takes. absurd takes;
      taken_fed = λ fed. absurd fed;
      chain = chain_of (jobs.Export c.in-Export.path c.in-Export.profile) before first.reads _ (if_all first.reads _ (λ bytes other. absurd other));
      certified = λ s. tt;
      onward = tt;
      lasting = tt;
      crash = tt;
    }

pub returns-in-Export-clause-read_cause : goal.returns-in-Export-clause-read_cause
returns-in-Export-clause-read_cause g c = λ s. absurd (subst Shows s c.show-in-Export.ensures.among)

pub returns-in-Play-clause-ends : goal.returns-in-Play-clause-ends
returns-in-Play-clause-ends g c =
    let first = g.D.Disk.now c.args.disk.now in
    let last = first in
    let before = g.S.Source.left c.args.source.now in
    let after = g.S.Source.left c.from_source.new.source in
    let old = g.K.Sink.taken c.args.sink.now in
    let new = g.K.Sink.taken c.from_source.new.sink in
    let e = c.from_source.ensures in
    let job = jobs.Play in
    let r = play_runs before old new in
    subst (λ (j : Job). JobEnds (Some j) first.reads before after old new first last c.from_source.result) (sym c.in-Play.is) record {
      by = on_status (WritesBy (Some job) first.reads before after old new) c.from_source.result
          (λ s. (r.done (e.done s), e.done_end s))
          (λ s. absurd (subst Plays s e.among))
          (λ s. (r.malformed (e.malformed s), e.malformed_end s))
          (λ s. absurd (subst Plays s e.among))
          (λ s. ((λ fed. absurd fed), silent_cut (Some job) before first.reads old new (ap g.K.Sink.taken (e.read_fault s))))
          (λ s. r.front (e.write_fault s))
          (λ s. absurd (subst Plays s e.among))
          (λ s. absurd (subst Plays s e.among))
          (λ s. absurd (subst Plays s e.among))
          (λ s. r.front (e.memory s))
          (λ s. absurd (subst Plays s e.among))
          (λ s. (r.too_long (e.too_long s), e.too_long_end s))
          (λ s. absurd (subst Plays s e.among))
          (λ s. absurd (subst Plays s e.among))
          (λ s. absurd (subst Plays s e.among))
          (λ s. absurd (subst Plays s e.among));
      taken = λ _. e.taken;
      taken_fed = λ fed. absurd fed;
      chain = chain_of jobs.Play before first.reads _ (if_all before _ (λ input other. absurd other));
      certified = λ s. tt;
      onward = tt;
      lasting = tt;
      crash = tt;
    }

pub returns-in-Play-clause-disk_cause : goal.returns-in-Play-clause-disk_cause
returns-in-Play-clause-disk_cause g c = λ s. absurd (subst Plays s c.from_source.ensures.among)

pub returns-in-Build-clause-ends : goal.returns-in-Build-clause-ends
returns-in-Build-clause-ends g c =
    let first = g.D.Disk.now c.args.disk.now in
    let last = first in
    let before = g.S.Source.left c.args.source.now in
    let after = g.S.Source.left c.from_source-in-Build.new.source in
    let old = g.K.Sink.taken c.args.sink.now in
    let new = g.K.Sink.taken c.from_source-in-Build.new.sink in
    let e = c.from_source-in-Build.ensures in
    let job = jobs.Build in
    let r = build_runs before old new in
    subst (λ (j : Job). JobEnds (Some j) first.reads before after old new first last c.from_source-in-Build.result) (sym c.in-Build.is) record {
      by = on_status (WritesBy (Some job) first.reads before after old new) c.from_source-in-Build.result
          (λ s. (r.done (e.done s), e.done_end s))
          (λ s. absurd (subst Plays s e.among))
          (λ s. (r.malformed (e.malformed s), e.malformed_end s))
          (λ s. absurd (subst Plays s e.among))
          (λ s. ((λ fed. absurd fed), silent_cut (Some job) before first.reads old new (ap g.K.Sink.taken (e.read_fault s))))
          (λ s. r.front (e.write_fault s))
          (λ s. absurd (subst Plays s e.among))
          (λ s. absurd (subst Plays s e.among))
          (λ s. absurd (subst Plays s e.among))
          (λ s. r.front (e.memory s))
          (λ s. absurd (subst Plays s e.among))
          (λ s. (r.too_long (e.too_long s), e.too_long_end s))
          (λ s. absurd (subst Plays s e.among))
          (λ s. absurd (subst Plays s e.among))
          (λ s. absurd (subst Plays s e.among))
          (λ s. absurd (subst Plays s e.among));
      taken = λ _. e.taken;
      taken_fed = λ fed. absurd fed;
      chain = chain_of jobs.Build before first.reads _ (if_all before _ (λ input other. absurd other));
      certified = λ s. tt;
      onward = tt;
      lasting = tt;
      crash = tt;
    }

pub returns-in-Build-clause-disk_cause : goal.returns-in-Build-clause-disk_cause
returns-in-Build-clause-disk_cause g c = λ s. absurd (subst Plays s c.from_source-in-Build.ensures.among)

pub returns-in-Make-clause-ends : goal.returns-in-Make-clause-ends
returns-in-Make-clause-ends g c =
    let first = g.D.Disk.now c.args.disk.now in
    let last = first in
    let before = g.S.Source.left c.args.source.now in
    let after = before in
    let old = g.K.Sink.taken c.args.sink.now in
    let new = g.K.Sink.taken c.make_text.new.sink in
    let e = c.make_text.ensures in
    let job = jobs.Make c.in-Make.n c.in-Make.seed c.in-Make.width in
    subst (λ (j : Job). JobEnds (Some j) first.reads before after old new first last c.make_text.result) (sym c.in-Make.is) record {
      by = on_status (WritesBy (Some job) first.reads before after old new) c.make_text.result
          (λ s. (make_ended old new c.in-Make.n c.in-Make.seed c.in-Make.width (e.done s), if_all before _ (λ input. tt)))
          (λ s. absurd (subst Makes s e.among))
          (λ s. absurd (e.whole s))
          (λ s. absurd (subst Makes s e.among))
          (λ s. absurd (subst Makes s e.among))
          (λ s. make_front old new c.in-Make.n c.in-Make.seed c.in-Make.width (e.write_fault s))
          (λ s. absurd (subst Makes s e.among))
          (λ s. absurd (subst Makes s e.among))
          (λ s. absurd (subst Makes s e.among))
          (λ s. make_front old new c.in-Make.n c.in-Make.seed c.in-Make.width (e.memory s))
          (λ s. absurd (subst Makes s e.among))
          (λ s. absurd (subst Makes s e.among))
          (λ s. absurd (subst Makes s e.among))
          (λ s. absurd (subst Makes s e.among))
          (λ s. absurd (subst Makes s e.among))
          (λ s. absurd (subst Makes s e.among));
      taken = λ takes. absurd takes;
      taken_fed = λ fed. absurd fed;
      chain = chain_of (jobs.Make c.in-Make.n c.in-Make.seed c.in-Make.width) before first.reads _ (λ other. absurd other);
      certified = λ s. tt;
      onward = tt;
      lasting = tt;
      crash = tt;
    }

pub returns-in-Make-clause-read_cause : goal.returns-in-Make-clause-read_cause
returns-in-Make-clause-read_cause g c = λ s. absurd (subst Makes s c.make_text.ensures.among)

pub returns-in-Make-clause-disk_cause : goal.returns-in-Make-clause-disk_cause
returns-in-Make-clause-disk_cause g c = λ s. absurd (subst Makes s c.make_text.ensures.among)

pub returns-in-Drill-clause-ends : goal.returns-in-Drill-clause-ends
returns-in-Drill-clause-ends g c =
    let first = g.D.Disk.now c.args.disk.now in
    let last = first in
    let before = g.S.Source.left c.args.source.now in
    let after = before in
    let old = g.K.Sink.taken c.args.sink.now in
    let new = g.K.Sink.taken c.drill_text.new.sink in
    let e = c.drill_text.ensures in
    let job = jobs.Drill c.in-Drill.n c.in-Drill.seed c.in-Drill.width in
    subst (λ (j : Job). JobEnds (Some j) first.reads before after old new first last c.drill_text.result) (sym c.in-Drill.is) record {
      by = on_status (WritesBy (Some job) first.reads before after old new) c.drill_text.result
          (λ s. (drill_done old new (scene (made c.in-Drill.n c.in-Drill.seed c.in-Drill.width)) (e.done s), if_all before _ (λ input. tt)))
          (λ s. absurd (subst Makes s e.among))
          (λ s. (drill_faulty old new (scene (made c.in-Drill.n c.in-Drill.seed c.in-Drill.width)) (e.malformed s), if_all before _ (λ input. tt)))
          (λ s. absurd (subst Makes s e.among))
          (λ s. absurd (subst Makes s e.among))
          (λ s. drill_front old new (scene (made c.in-Drill.n c.in-Drill.seed c.in-Drill.width)) (e.write_fault s))
          (λ s. absurd (subst Makes s e.among))
          (λ s. absurd (subst Makes s e.among))
          (λ s. absurd (subst Makes s e.among))
          (λ s. drill_front old new (scene (made c.in-Drill.n c.in-Drill.seed c.in-Drill.width)) (e.memory s))
          (λ s. absurd (subst Makes s e.among))
          (λ s. absurd (subst Makes s e.among))
          (λ s. absurd (subst Makes s e.among))
          (λ s. absurd (subst Makes s e.among))
          (λ s. absurd (subst Makes s e.among))
          (λ s. absurd (subst Makes s e.among));
      taken = λ takes. absurd takes;
      taken_fed = λ fed. absurd fed;
      chain = chain_of (jobs.Drill c.in-Drill.n c.in-Drill.seed c.in-Drill.width) before first.reads _ (λ other. absurd other);
      certified = λ s. tt;
      onward = tt;
      lasting = tt;
      crash = tt;
    }

pub returns-in-Drill-clause-read_cause : goal.returns-in-Drill-clause-read_cause
returns-in-Drill-clause-read_cause g c = λ s. absurd (subst Makes s c.drill_text.ensures.among)

pub returns-in-Drill-clause-disk_cause : goal.returns-in-Drill-clause-disk_cause
returns-in-Drill-clause-disk_cause g c = λ s. absurd (subst Makes s c.drill_text.ensures.among)

pub returns-in-Gossip-clause-ends : goal.returns-in-Gossip-clause-ends
returns-in-Gossip-clause-ends g c =
    let first = g.D.Disk.now c.args.disk.now in
    let last = first in
    let before = g.S.Source.left c.args.source.now in
    let after = g.S.Source.left c.from_source-in-Gossip.new.source in
    let old = g.K.Sink.taken c.args.sink.now in
    let new = g.K.Sink.taken c.from_source-in-Gossip.new.sink in
    let e = c.from_source-in-Gossip.ensures in
    let job = jobs.Gossip in
    let r = gossip_runs before old new in
    subst (λ (j : Job). JobEnds (Some j) first.reads before after old new first last c.from_source-in-Gossip.result) (sym c.in-Gossip.is) record {
      by = on_status (WritesBy (Some job) first.reads before after old new) c.from_source-in-Gossip.result
          (λ s. (r.done (e.done s), e.done_end s))
          (λ s. absurd (subst Plays s e.among))
          (λ s. (r.malformed (e.malformed s), e.malformed_end s))
          (λ s. absurd (subst Plays s e.among))
          (λ s. ((λ fed. absurd fed), silent_cut (Some job) before first.reads old new (ap g.K.Sink.taken (e.read_fault s))))
          (λ s. r.front (e.write_fault s))
          (λ s. absurd (subst Plays s e.among))
          (λ s. absurd (subst Plays s e.among))
          (λ s. absurd (subst Plays s e.among))
          (λ s. r.front (e.memory s))
          (λ s. absurd (subst Plays s e.among))
          (λ s. (r.too_long (e.too_long s), e.too_long_end s))
          (λ s. absurd (subst Plays s e.among))
          (λ s. absurd (subst Plays s e.among))
          (λ s. absurd (subst Plays s e.among))
          (λ s. absurd (subst Plays s e.among));
      taken = λ _. e.taken;
      taken_fed = λ fed. absurd fed;
      chain = chain_of jobs.Gossip before first.reads _ (if_all before _ (λ input other. absurd other));
      certified = λ s. tt;
      onward = tt;
      lasting = tt;
      crash = tt;
    }

pub returns-in-Gossip-clause-disk_cause : goal.returns-in-Gossip-clause-disk_cause
returns-in-Gossip-clause-disk_cause g c = λ s. absurd (subst Plays s c.from_source-in-Gossip.ensures.among)

pub returns-in-Replay-clause-disk_first : goal.returns-in-Replay-clause-disk_first
returns-in-Replay-clause-disk_first g c = first_of (Some c.args.job.now) (Some jobs.Replay) (g.D.Disk.now c.args.disk.now).reads _ (ap Some c.in-Replay.is) (disk_of (Some jobs.Replay) (g.D.Disk.now c.args.disk.now).reads _ (λ fault. no_fault fault))

pub returns-in-Play-clause-disk_first : goal.returns-in-Play-clause-disk_first
returns-in-Play-clause-disk_first g c = first_of (Some c.args.job.now) (Some jobs.Play) (g.D.Disk.now c.args.disk.now).reads _ (ap Some c.in-Play.is) (disk_of (Some jobs.Play) (g.D.Disk.now c.args.disk.now).reads _ (λ fault. no_fault fault))

pub returns-in-Build-clause-disk_first : goal.returns-in-Build-clause-disk_first
returns-in-Build-clause-disk_first g c = first_of (Some c.args.job.now) (Some jobs.Build) (g.D.Disk.now c.args.disk.now).reads _ (ap Some c.in-Build.is) (disk_of (Some jobs.Build) (g.D.Disk.now c.args.disk.now).reads _ (λ fault. no_fault fault))

pub returns-in-Make-clause-disk_first : goal.returns-in-Make-clause-disk_first
returns-in-Make-clause-disk_first g c = first_of (Some c.args.job.now) (Some (jobs.Make c.in-Make.n c.in-Make.seed c.in-Make.width)) (g.D.Disk.now c.args.disk.now).reads _ (ap Some c.in-Make.is) (disk_of (Some (jobs.Make c.in-Make.n c.in-Make.seed c.in-Make.width)) (g.D.Disk.now c.args.disk.now).reads _ (λ fault. no_fault fault))

pub returns-in-Drill-clause-disk_first : goal.returns-in-Drill-clause-disk_first
returns-in-Drill-clause-disk_first g c = first_of (Some c.args.job.now) (Some (jobs.Drill c.in-Drill.n c.in-Drill.seed c.in-Drill.width)) (g.D.Disk.now c.args.disk.now).reads _ (ap Some c.in-Drill.is) (disk_of (Some (jobs.Drill c.in-Drill.n c.in-Drill.seed c.in-Drill.width)) (g.D.Disk.now c.args.disk.now).reads _ (λ fault. no_fault fault))

pub returns-in-Keep-clause-disk_first : goal.returns-in-Keep-clause-disk_first
returns-in-Keep-clause-disk_first g c = first_of (Some c.args.job.now) (Some (jobs.Keep c.in-Keep.path c.in-Keep.fresh)) (g.D.Disk.now c.args.disk.now).reads _ (ap Some c.in-Keep.is) (disk_of (Some (jobs.Keep c.in-Keep.path c.in-Keep.fresh)) (g.D.Disk.now c.args.disk.now).reads _ c.keep.ensures.disk_first)

pub returns-in-Show-clause-disk_first : goal.returns-in-Show-clause-disk_first
returns-in-Show-clause-disk_first g c = first_of (Some c.args.job.now) (Some (jobs.Show c.in-Show.path)) (g.D.Disk.now c.args.disk.now).reads _ (ap Some c.in-Show.is)
    (disk_of (Some (jobs.Show c.in-Show.path)) (g.D.Disk.now c.args.disk.now).reads _ (shown_first c.show.result (g.D.Disk.now c.args.disk.now).reads c.show.ensures.among (λ s. shown_journal _ (g.D.Disk.now c.args.disk.now).reads (c.show.ensures.done s)) refl))

pub returns-in-Export-clause-disk_first : goal.returns-in-Export-clause-disk_first
returns-in-Export-clause-disk_first g c = first_of (Some c.args.job.now) (Some (jobs.Export c.in-Export.path c.in-Export.profile)) (g.D.Disk.now c.args.disk.now).reads _ (ap Some c.in-Export.is)
    (disk_of (Some (jobs.Export c.in-Export.path c.in-Export.profile)) (g.D.Disk.now c.args.disk.now).reads _ (shown_first c.show-in-Export.result (g.D.Disk.now c.args.disk.now).reads c.show-in-Export.ensures.among (λ s. shown_journal _ (g.D.Disk.now c.args.disk.now).reads (c.show-in-Export.ensures.done s)) refl))

pub returns-in-Gossip-clause-disk_first : goal.returns-in-Gossip-clause-disk_first
returns-in-Gossip-clause-disk_first g c = first_of (Some c.args.job.now) (Some jobs.Gossip) (g.D.Disk.now c.args.disk.now).reads _ (ap Some c.in-Gossip.is) (disk_of (Some jobs.Gossip) (g.D.Disk.now c.args.disk.now).reads _ (λ fault. no_fault fault))

pub returns-in-Certify-clause-ends : goal.returns-in-Certify-clause-ends
returns-in-Certify-clause-ends g c =
    let first = g.D.Disk.now c.args.disk.now in
    let before = g.S.Source.left c.args.source.now in
    let after = g.S.Source.left c.certify.new.source in
    let old = g.K.Sink.taken c.args.sink.now in
    let new = g.K.Sink.taken c.certify.new.sink in
    let e = c.certify.ensures in
    subst (λ (j : Job). JobEnds (Some j) first.reads before after old new first first c.certify.result) (sym c.in-Certify.is) record {
      by = e.by first.reads;
      taken = λ takes. absurd takes;
      taken_fed = λ _. e.taken;
      chain = chain_of (jobs.Certify c.in-Certify.x c.in-Certify.y) before first.reads _ (if_all before _ (λ input other. absurd other));
      certified = e.stands;
      onward = tt;
      lasting = tt;
      crash = tt;
    }

pub returns-in-Certify-clause-disk_cause : goal.returns-in-Certify-clause-disk_cause
returns-in-Certify-clause-disk_cause g c = λ s. absurd (subst CertifiesTo s c.certify.ensures.among)

pub returns-in-Certify-clause-disk_first : goal.returns-in-Certify-clause-disk_first
returns-in-Certify-clause-disk_first g c = first_of (Some c.args.job.now) (Some (jobs.Certify c.in-Certify.x c.in-Certify.y)) (g.D.Disk.now c.args.disk.now).reads _ (ap Some c.in-Certify.is) (disk_of (Some (jobs.Certify c.in-Certify.x c.in-Certify.y)) (g.D.Disk.now c.args.disk.now).reads _ (λ fault. no_fault fault))

pub returns-in-Check-clause-ends : goal.returns-in-Check-clause-ends
returns-in-Check-clause-ends g c =
    let first = g.D.Disk.now c.args.disk.now in
    let before = g.S.Source.left c.args.source.now in
    let after = g.S.Source.left c.check.new.source in
    let old = g.K.Sink.taken c.args.sink.now in
    let new = g.K.Sink.taken c.check.new.sink in
    subst (λ (j : Job). JobEnds (Some j) first.reads before after old new first first c.check.result) (sym c.in-Check.is) record {
      by = c.check.ensures.by first.reads;
      taken = λ takes. absurd takes;
      taken_fed = λ fed. absurd fed;
      chain = chain_of jobs.Check before first.reads _ (if_all before _ (λ input other. absurd other));
      certified = λ s. tt;
      onward = tt;
      lasting = tt;
      crash = tt;
    }

pub returns-in-Check-clause-disk_cause : goal.returns-in-Check-clause-disk_cause
returns-in-Check-clause-disk_cause g c = λ s. absurd (subst Checks s c.check.ensures.among)

pub returns-in-Check-clause-disk_first : goal.returns-in-Check-clause-disk_first
returns-in-Check-clause-disk_first g c = first_of (Some c.args.job.now) (Some jobs.Check) (g.D.Disk.now c.args.disk.now).reads _ (ap Some c.in-Check.is) (disk_of (Some jobs.Check) (g.D.Disk.now c.args.disk.now).reads _ (λ fault. no_fault fault))

pub returns-in-Spend-clause-ends : goal.returns-in-Spend-clause-ends
returns-in-Spend-clause-ends g c =
    let first = g.D.Disk.now c.args.disk.now in
    let before = g.S.Source.left c.args.source.now in
    let after = g.S.Source.left c.spend.new.source in
    let old = g.K.Sink.taken c.args.sink.now in
    let new = g.K.Sink.taken c.spend.new.sink in
    let e = c.spend.ensures in
    subst (λ (j : Job). JobEnds (Some j) first.reads before after old new first first c.spend.result) (sym c.in-Spend.is) record {
      by = e.by first.reads;
      taken = λ takes. absurd takes;
      taken_fed = λ _. e.taken;
      chain = chain_of (jobs.Spend c.in-Spend.amount c.in-Spend.to c.in-Spend.words) before first.reads _ (if_all before _ (λ input other. absurd other));
      certified = λ s. tt;
      onward = tt;
      lasting = tt;
      crash = tt;
    }

pub returns-in-Spend-clause-disk_cause : goal.returns-in-Spend-clause-disk_cause
returns-in-Spend-clause-disk_cause g c = λ s. absurd (subst SpendsTo s c.spend.ensures.among)

pub returns-in-Spend-clause-disk_first : goal.returns-in-Spend-clause-disk_first
returns-in-Spend-clause-disk_first g c = first_of (Some c.args.job.now) (Some (jobs.Spend c.in-Spend.amount c.in-Spend.to c.in-Spend.words)) (g.D.Disk.now c.args.disk.now).reads _ (ap Some c.in-Spend.is) (disk_of (Some (jobs.Spend c.in-Spend.amount c.in-Spend.to c.in-Spend.words)) (g.D.Disk.now c.args.disk.now).reads _ (λ fault. no_fault fault))

pub returns-in-Watch-clause-ends : goal.returns-in-Watch-clause-ends
returns-in-Watch-clause-ends g c =
    let first = g.D.Disk.now c.args.disk.now in
    let before = g.S.Source.left c.args.source.now in
    let after = g.S.Source.left c.watch.new.source in
    let old = g.K.Sink.taken c.args.sink.now in
    let new = g.K.Sink.taken c.watch.new.sink in
    let e = c.watch.ensures in
    subst (λ (j : Job). JobEnds (Some j) first.reads before after old new first first c.watch.result) (sym c.in-Watch.is) record {
      by = e.by first.reads;
      taken = λ takes. absurd takes;
      taken_fed = λ _. e.taken;
      chain = chain_of (jobs.Watch c.in-Watch.items) before first.reads _ (if_all before _ (λ input other. absurd other));
      certified = λ s. tt;
      onward = tt;
      lasting = tt;
      crash = tt;
    }

pub returns-in-Watch-clause-disk_cause : goal.returns-in-Watch-clause-disk_cause
returns-in-Watch-clause-disk_cause g c = λ s. absurd (subst Replays s c.watch.ensures.among)

pub returns-in-Watch-clause-disk_first : goal.returns-in-Watch-clause-disk_first
returns-in-Watch-clause-disk_first g c = first_of (Some c.args.job.now) (Some (jobs.Watch c.in-Watch.items)) (g.D.Disk.now c.args.disk.now).reads _ (ap Some c.in-Watch.is) (disk_of (Some (jobs.Watch c.in-Watch.items)) (g.D.Disk.now c.args.disk.now).reads _ (λ fault. no_fault fault))
