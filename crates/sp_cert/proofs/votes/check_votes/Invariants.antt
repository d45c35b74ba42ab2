use Rattle.std.proofs.Common.{◌≡◌, ◌<◌, ℕ, None}
use Rattle.sp_dag.specs.Numbered.{graph_of}
use Rattle.sp_cert.specs.Refusals.{entry_refusal}
use Rattle.sp_cert.proofs.votes.check_votes.Given as goal

abbrev pub invariant-places : goal.invariant-places
invariant-places l = (p : ℕ) → p < l.place → entry_refusal (graph_of l.dag) l.worlds l.x l.y p ≡ None
