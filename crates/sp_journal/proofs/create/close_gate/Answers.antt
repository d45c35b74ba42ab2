use Rattle.std.proofs.Common.{◌≤◌, [], ◌∷◌, length, Option, Some, None, arith}
use Rattle.std.specs.Prelude.{IfSome, List, ℕ}
use Rattle.std.proofs.lemmas.Result.{on_ok_weaker}
use Rattle.sp_disk.specs.Moments.{PartlyWrittenFrom}
use Rattle.sp_disk.proofs.Runs.{weaker}
use Rattle.sp_journal.specs.Creation.{HoldsNone}
use Rattle.sp_journal.proofs.Openings.{place_stays}
use Rattle.sp_journal.proofs.Lasting.{close_lasts}
use Rattle.sp_journal.proofs.Vacant.{gate_written, none_while}
use Rattle.sp_journal.proofs.create.close_gate.Goals as goal

any_place : (r : Option (List ℕ)) → IfSome r (λ b. 0 ≤ length b)
any_place None = tt
any_place (Some b) = omega arith

pub returns-in_default : goal.returns-in_default
returns-in_default g c =
    let now = g.D.Disk.now in
    let old = now c.args.disk.now in
    let new = now c.put.new.disk in
    let law = g.met.D.Disk.is_moment c.args.disk.now in
    record {
      ok = on_ok_weaker c.put.result (λ puts told. gate_written old new law told puts) c.put.ensures.ok;
      place = on_ok_weaker c.put.result (λ puts. place_stays 0 1 (0 ∷ []) old.reads new.reads (omega arith) (any_place old.reads) puts.reads) c.put.ensures.ok;
      any_moment = λ told quiet. weaker old new (PartlyWrittenFrom 0 1 old) HoldsNone c.put.ensures.any_moment (none_while c.args.gate old law told quiet c.requires.vacant c.in_default.not-Shut);
      lasts = λ told. close_lasts c.args.gate old new law (g.met.D.Disk.is_moment c.put.new.disk) told c.requires.vacant c.put.ensures.ebbs;
      told = c.put.ensures.told;
      cause = c.put.ensures.cause;
    }
