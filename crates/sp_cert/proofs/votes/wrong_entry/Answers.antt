use Rattle.std.proofs.Common.{◌≡◌, ◌∙◌, ℕ, ap, sym, arith, rules, FitsSigned, inl, inr, get_or, pos, of_z}
use Rattle.std.proofs.lemmas.Bool.{cases_lt}
use Rattle.std.specs.Int.{w8}
use Rattle.sp_dag.specs.Numbered.{graph_of}
use Rattle.sp_cert.specs.Certificate.{Entries}
use Rattle.sp_cert.specs.Entries.{entry, entry_by, members_of}
use Rattle.sp_cert.proofs.Judging.{by_parts, same_vote}
use Rattle.sp_cert.proofs.votes.wrong_entry.Goals as goal

pub returns-then-votes-z-clause-wrong : goal.returns-then-votes-z-clause-wrong
returns-then-votes-z-clause-wrong c = λ same.
    let g = graph_of c.args.dag.now in
    let read = c.as_slice-votes.ensures ∙ ap (λ (w : Entries). w.votes) c.world.view_is in
    let value = by_parts g c.args.world.now c.members_of.result c.of-tally.result.members c.of-tally.result.plus c.of-tally.result.minus
    c.as_slice-votes.result.now c.args.signs.now c.right_entry.result c.places.z c.args.x c.args.y
    c.of-tally.ensures.members (c.members_of.ensures ∙ ap (λ (w : Entries). members_of g w.number) c.world.view_is) read
    c.of-tally.ensures.sides c.right_entry.ensures in
    c.if-votes-z.true (ap (of_z w8) (ap (λ vs. get_or vs c.places.z (pos 0)) read ∙ same ∙ sym value))

pub places-preserved : goal.places-preserved
places-preserved c = λ w less.
    let g = graph_of c.args.dag.now in
    let read = c.as_slice-votes.ensures ∙ ap (λ (w : Entries). w.votes) c.world.view_is in
    let value = by_parts g c.args.world.now c.members_of.result c.of-tally.result.members c.of-tally.result.plus c.of-tally.result.minus
    c.as_slice-votes.result.now c.args.signs.now c.right_entry.result c.places.z c.args.x c.args.y
    c.of-tally.ensures.members (c.members_of.ensures ∙ ap (λ (w : Entries). members_of g w.number) c.world.view_is) read
    c.of-tally.ensures.sides c.right_entry.ensures in
    let fv : FitsSigned w8 (get_or c.as_slice-votes.result.now c.places.z (pos 0)) = search rules in
    let fw : FitsSigned w8 c.right_entry.result = search rules in
    let here = sym (ap (λ vs. get_or vs c.places.z (pos 0)) read) ∙ same_vote (get_or c.as_slice-votes.result.now c.places.z (pos 0)) c.right_entry.result fv fw c.if-votes-z.false ∙ value in
    elim (cases_lt w c.places.z) [
      | inl low ↦ c.places.invariant w low
      | inr high ↦ (let same : w ≡ c.places.z = omega arith in
          ap (entry c.args.world.now) same ∙ here
          ∙ ap (λ (k : ℕ). entry_by g (members_of g c.args.world.now.number) (λ j. get_or c.args.signs.now j (pos 0)) (entry c.args.world.now) k c.args.x c.args.y) (sym same))
    ]
