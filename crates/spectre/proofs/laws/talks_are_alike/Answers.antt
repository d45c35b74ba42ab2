use Rattle.spectre.proofs.Talking.{alike}
use Rattle.spectre.proofs.laws.talks_are_alike.Goals as goal

pub returns : goal.returns
returns c = alike
