-- Words of which some are kept are a job.
use Rattle.std.proofs.Common.{Option, Some, None, IsSome, refl}
use Rattle.spectre.specs.Jobs.{KeepsWords}
use Rattle.spectre.specs.declared.job.Job.{Job}

pub kept_some : (job : Option Job) → KeepsWords job → IsSome job
kept_some (Some job) keeps = refl
kept_some None keeps = absurd keeps
