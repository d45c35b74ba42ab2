use Rattle.std.proofs.Common.{refl, ap}
use Rattle.std.proofs.lemmas.Result.{err_from_is_err_and}
use Rattle.sp_feed.proofs.WholeFeeds.{all_broken, all_head, all_rest, from_start, rest_from}
use Rattle.sp_feed.proofs.run.read_messages.Goals as goal

pub returns-in_err-head-clause-gives : goal.returns-in_err-head-clause-gives
returns-in_err-head-clause-gives g c =
    let p = err_from_is_err_and c.from_residual.result c.from_residual.ensures.1 in
    rw (p.1, p.2) (all_head _ _ (from_start refl (ap (λ r. r.taken) c.requires.fresh) c.in_err-head.ensures.gives))

pub returns-in_err-show_messages-clause-gives : goal.returns-in_err-show_messages-clause-gives
returns-in_err-show_messages-clause-gives g c =
    let p = err_from_is_err_and c.from_residual-in_err-show_messages.result c.from_residual-in_err-show_messages.ensures.1 in
    rw (p.1, p.2) (all_broken refl (from_start refl (ap (λ r. r.taken) c.requires.fresh) c.in_ok-head.ensures.gives) (rest_from c.in_ok-head.ensures.limit c.in_err-show_messages.ensures.gives))

pub returns-clause-gives : goal.returns-clause-gives
returns-clause-gives g c = all_rest refl (from_start refl (ap (λ r. r.taken) c.requires.fresh) c.in_ok-head.ensures.gives) (rest_from c.in_ok-head.ensures.limit c.in_ok-show_messages.ensures.gives)
