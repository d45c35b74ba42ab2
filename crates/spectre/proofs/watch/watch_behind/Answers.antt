use Rattle.std.proofs.Common.{◌≡◌, ◌∙◌, Err, List, ap}
use Rattle.std.proofs.lemmas.Result.{err_from_is_err_and}
use Rattle.sp_block.specs.Block.{ReadBlock}
use Rattle.sp_model.specs.declared.profile.Profile.{Profile}
use Rattle.sp_watch.specs.Watching.{watch_of, Watched}
use Rattle.sp_watch.specs.declared.item.Item.{Item}
use Rattle.spectre.proofs.WatchedFeeds.{at_head, broken, held_cut, held_written, nothing_behind_head}
use Rattle.spectre.proofs.watch.watch_behind.Goals as goal

-- the watch at the start, by the node's own words
starts_so : {w : Watched} {profile own : Profile} {items asked : List Item} {kept blocks : List ReadBlock} → w ≡ watch_of profile items kept → profile ≡ own → items ≡ asked → kept ≡ blocks → w ≡ watch_of own asked blocks
starts_so {own = own} {items = items} {asked = asked} {kept = kept} is p i k = is ∙ ap (λ (q : Profile). watch_of q items kept) p ∙ ap (λ (l : List Item). watch_of own l kept) i ∙ ap (λ (l : List ReadBlock). watch_of own asked l) k

pub returns-in_err-node-clause-watches : goal.returns-in_err-node-clause-watches
returns-in_err-node-clause-watches g c = λ start z gives.
    let p = err_from_is_err_and c.from_residual.result c.from_residual.ensures.1 in
    rw (p.1, p.2) (nothing_behind_head c.args.items.now gives)

pub returns-in_err-watch-clause-watches : goal.returns-in_err-watch-clause-watches
returns-in_err-watch-clause-watches g c = λ start z gives.
    let p = err_from_is_err_and c.from_residual-in_err-watch.result c.from_residual-in_err-watch.ensures.1 in
    rw (p.1, p.2) (nothing_behind_head c.args.items.now gives)

pub returns-in_err-watch_rest-clause-watches : goal.returns-in_err-watch_rest-clause-watches
returns-in_err-watch_rest-clause-watches g c = λ start z gives.
    let p = err_from_is_err_and c.from_residual-in_err-watch_rest.result c.from_residual-in_err-watch_rest.ensures.1 in
    let old = g.K.Sink.taken c.args.sink.now in
    let n = c.in_ok-node.ensures.node in
    let first = starts_so c.in_ok-watch.ensures c.engine.ensures.profile c.as_slice.ensures c.engine.ensures.kept in
    let head = at_head c.args.items.now old z gives c.in_ok-node.ensures.genesis n.terms_are n.kept_are first in
    let e = c.in_err-watch_rest.ensures in
    rw (p.1, p.2) (broken c.args.items.now c.in_err-watch_rest.field-0.0 (λ d. e.undisked (ap (λ t. Err t) d)) (e.follows c.args.items.now start old head))

pub returns-in-Ok-clause-watches : goal.returns-in-Ok-clause-watches
returns-in-Ok-clause-watches g c = λ start z gives.
    let old = g.K.Sink.taken c.args.sink.now in
    let n = c.in_ok-node.ensures.node in
    let first = starts_so c.in_ok-watch.ensures c.engine.ensures.profile c.as_slice.ensures c.engine.ensures.kept in
    let head = at_head c.args.items.now old z gives c.in_ok-node.ensures.genesis n.terms_are n.kept_are first in
    held_written c.args.items.now (c.in_ok-watch_rest.ensures.follows c.args.items.now start old head) c.in-Ok.ensures.ok

pub returns-clause-watches : goal.returns-clause-watches
returns-clause-watches g c = λ start z gives.
    let old = g.K.Sink.taken c.args.sink.now in
    let n = c.in_ok-node.ensures.node in
    let first = starts_so c.in_ok-watch.ensures c.engine.ensures.profile c.as_slice.ensures c.engine.ensures.kept in
    let head = at_head c.args.items.now old z gives c.in_ok-node.ensures.genesis n.terms_are n.kept_are first in
    held_cut c.args.items.now (c.in_ok-watch_rest.ensures.follows c.args.items.now start old head) c.in-Err.ensures.err
