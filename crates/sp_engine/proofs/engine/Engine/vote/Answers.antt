use Rattle.sp_engine.proofs.engine.Engine.vote.Goals as goal

pub returns : goal.returns
returns c =
    c.vote_at.ensures c.args.x.now c.args.y.now c.in-Some.ensures.found c.in-Some-number.ensures.found
