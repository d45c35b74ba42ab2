use Rattle.std.proofs.Common.{◌≡◌, ◌∙◌, ◌<◌, refl, ap, sym, subst, arith, get_or, set, length, pos, rules, FitsSigned, inl, inr, ℕ, ℤ, List, to_z, of_z, get_or-set_same, get_or-set_other}
use Rattle.std.proofs.lemmas.Bool.{cases_eq}
use Rattle.std.proofs.lemmas.Int.{to_z-of_z}
use Rattle.std.specs.Int.{w8, w32}
use Rattle.sp_dag.specs.Numbered.{graph_of}
use Rattle.sp_dag.proofs.Ranked.{ancestors_lower}
use Rattle.sp_model.specs.Graph.{has, IsDownset, past}
use Rattle.sp_model.specs.Votes.{sgn, virt}
use Rattle.sp_model.proofs.Pasts.{has-past}
use Rattle.sp_cert.specs.Certificate.{Entries}
use Rattle.sp_cert.specs.Entries.{IsTold, vote_in}
use Rattle.sp_cert.proofs.Judging.{sum_is}
use Rattle.sp_cert.proofs.Told.{past_down, past_sum, past_told}
use Rattle.sp_cert.proofs.tell.past_world.Goals as goal

pub votes_in-requires-clause-whole : goal.votes_in-requires-clause-whole
votes_in-requires-clause-whole c =
    let table = c.args.dag.now in
    subst (λ (m : List ℕ). IsDownset (graph_of table) m) (sym c.past.ensures)
    (past_down table c.len-blocks.ensures.numbered.order c.len-blocks.ensures.numbered.small c.args.z c.requires.z_in)

pub votes_in-requires-clause-virts : goal.votes_in-requires-clause-virts
votes_in-requires-clause-virts c = λ k there x_in y_in.
    let table = c.args.dag.now in
    let reached = has-past (graph_of table) c.args.z k (ap (λ (m : List ℕ). has m k) (sym c.past.ensures) ∙ there) in
    let lower : k < c.args.z = ancestors_lower table k c.args.z c.len-blocks.ensures.numbered.order c.requires.z_in reached in
    ap (λ (l : List ℤ). get_or l k (pos 0)) c.deref.ensures.value ∙ c.requires.known k lower x_in y_in

pub returns-clause-told : goal.returns-clause-told
returns-clause-told c =
    let table = c.args.dag.now in
    let items = c.in_ok-votes.votes.items in
    subst (λ (vs : List ℤ). IsTold (graph_of table) c.args.x c.args.y (record { number = c.args.z; votes = vs })) (sym c.of.ensures)
    (past_told table c.len-blocks.ensures.numbered.order c.len-blocks.ensures.numbered.small c.args.z c.args.x c.args.y items c.requires.z_in
    c.in_ok-votes.ensures.long c.in_ok-votes.ensures.signs
    (λ k less. c.in_ok-votes.ensures.votes k less ∙ ap (λ (m : List ℕ). vote_in (graph_of table) m c.args.x c.args.y k) c.past.ensures))

pub returns-clause-known : goal.returns-clause-known
returns-clause-known c = λ k less x_in y_in.
    let table = c.args.dag.now in
    let g = graph_of table in
    let order = c.len-blocks.ensures.numbered.order in
    let small = c.len-blocks.ensures.numbered.small in
    let items = c.in_ok-votes.votes.items in
    let world : Entries = record { number = c.args.z; votes = items } in
    let told : IsTold g c.args.x c.args.y world =
    past_told table order small c.args.z c.args.x c.args.y items c.requires.z_in c.in_ok-votes.ensures.long c.in_ok-votes.ensures.signs
    (λ j inside. c.in_ok-votes.ensures.votes j inside ∙ ap (λ (m : List ℕ). vote_in g m c.args.x c.args.y j) c.past.ensures) in
    let f : FitsSigned w8 c.sign_of.result = search rules in
    let f' : FitsSigned w32 c.sum_of.result = search rules in
    let value : to_z w8 (of_z w8 c.sign_of.result) ≡ virt g (past g c.args.z) c.args.x c.args.y =
    to_z-of_z w8 c.sign_of.result f ∙ c.sign_of.ensures
    ∙ ap sgn (to_z-of_z w32 c.sum_of.result f' ∙ c.sum_of.ensures ∙ sum_is table world c.deref-2.result.now c.deref-2.ensures.value c.in_ok-votes.ensures.long)
    ∙ past_sum table order small c.args.z c.args.x c.args.y world refl c.requires.z_in told in
    let signs = c.args.signs.now.items in
    let v = to_z w8 (of_z w8 c.sign_of.result) in
    let inside : c.args.z < length signs = omega (arith, c.requires.long, c.requires.z_in) in
    elim (cases_eq k c.args.z) [
      | inl e ↦ ap (λ (j : ℕ). get_or (set signs c.args.z v) j (pos 0)) e ∙ get_or-set_same signs c.args.z v (pos 0) inside ∙ value
          ∙ ap (λ (j : ℕ). virt g (past g j) c.args.x c.args.y) (sym e)
      | inr ne ↦ get_or-set_other signs c.args.z k v (pos 0) ne ∙ c.requires.known k (omega (arith, ne, less)) x_in y_in
    ]
