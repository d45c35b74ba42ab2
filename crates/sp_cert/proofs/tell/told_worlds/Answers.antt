use Rattle.std.proofs.Common.{◌∙◌, ap, sym, subst, get_or, pos, ℕ, ℤ, List}
use Rattle.std.specs.Prelude.{All}
use Rattle.std.proofs.lemmas.List.Elements.{All-cons}
use Rattle.sp_dag.specs.Numbered.{graph_of}
use Rattle.sp_dag.proofs.Ranked.{downset_numbered}
use Rattle.sp_model.specs.Graph.{has, IsDownset}
use Rattle.sp_cert.specs.Certificate.{Entries}
use Rattle.sp_cert.specs.Entries.{IsTold, vote_in, whole_number}
use Rattle.sp_cert.proofs.Told.{key_below, whole_told}
use Rattle.sp_cert.proofs.tell.told_worlds.Goals as goal

pub votes_in-requires-clause-whole : goal.votes_in-requires-clause-whole
votes_in-requires-clause-whole c =
    let table = c.args.dag.now in
    subst (λ (m : List ℕ). IsDownset (graph_of table) m) (sym c.all_row.ensures) (downset_numbered table c.len-count.ensures.numbered.order)

pub votes_in-requires-clause-virts : goal.votes_in-requires-clause-virts
votes_in-requires-clause-virts c = λ k there x_in y_in.
    let table = c.args.dag.now in
    let below = key_below table c.len-count.ensures.numbered.order c.len-count.ensures.numbered.small k (ap (λ (m : List ℕ). has m k) (sym c.all_row.ensures) ∙ there) in
    ap (λ (l : List ℤ). get_or l k (pos 0)) c.deref.ensures.value ∙ c.in_ok-worlds.ensures.known k below x_in y_in

pub returns-clause-told : goal.returns-clause-told
returns-clause-told c =
    let table = c.args.dag.now in
    let g = graph_of table in
    let items = c.in_ok-votes.votes.items in
    let whole : IsTold g c.args.x c.args.y (record { number = whole_number; votes = items }) =
    whole_told table c.len-count.ensures.numbered.order c.len-count.ensures.numbered.small c.args.x c.args.y items c.in_ok-votes.ensures.long c.in_ok-votes.ensures.signs
    (λ k less. c.in_ok-votes.ensures.votes k less ∙ ap (λ (m : List ℕ). vote_in g m c.args.x c.args.y k) c.all_row.ensures) in
    subst (λ (l : List Entries). All (IsTold g c.args.x c.args.y) l) (sym c.in_ok-insert.ensures.items)
    (All-cons (IsTold g c.args.x c.args.y) (record { number = whole_number; votes = c.of.result }) c.in_ok-worlds.worlds.items
    (subst (λ (vs : List ℤ). IsTold g c.args.x c.args.y (record { number = whole_number; votes = vs })) (sym c.of.ensures) whole) c.in_ok-worlds.ensures.told)
