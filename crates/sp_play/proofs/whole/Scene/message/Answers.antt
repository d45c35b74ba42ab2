use Rattle.sp_play.proofs.Fitting.{message_fits}
use Rattle.sp_play.proofs.whole.Scene.message.Goals as goal

pub returns-clause-fits : goal.returns-clause-fits
returns-clause-fits c =
    let known = c.self.inside.reading.known in
    message_fits known known.sayings c.args.place _ c.self.invariant.kept c.message.ensures
