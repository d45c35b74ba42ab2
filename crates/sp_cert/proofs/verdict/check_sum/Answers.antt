use Rattle.std.proofs.Common.{◌≡◌, ◌<◌, ◌∙◌, ap, arith, sym, length, rules, FitsSigned, of_z}
use Rattle.std.proofs.lemmas.Int.{to_z-of_z}
use Rattle.std.proofs.lemmas.List.{length-map}
use Rattle.std.proofs.lemmas.Option.{slice_get_within}
use Rattle.std.specs.Int.{w8, w32}
use Rattle.sp_dag.specs.Numbered.{graph_of}
use Rattle.sp_model.specs.Votes.{sgn}
use Rattle.sp_cert.specs.Certificate.{Entries}
use Rattle.sp_cert.specs.Entries.{sum_of, whole_number, world_of}
use Rattle.sp_cert.specs.Refusals.{numbers_of}
use Rattle.sp_cert.proofs.Causes.{sum_fails, sum_stands, sum_value}
use Rattle.sp_cert.proofs.Judging.{same_vote}
use Rattle.sp_cert.proofs.verdict.check_sum.Goals as goal

pub returns-then-sign_of-sign-clause-ok : goal.returns-then-sign_of-sign-clause-ok
returns-then-sign_of-sign-clause-ok c = λ table votes.
    let worlds = c.args.worlds.now in
    let w = c.index-worlds-0.result in
    let some : 0 < length worlds = omega (arith, slice_get_within (numbers_of worlds) 0 whole_number c.requires.whole, length-map worlds (λ (v : Entries). v.number)) in
    let f : FitsSigned w8 c.sign_of.result = search rules in
    let f' : FitsSigned w32 c.sum_of.result = search rules in
    let long : length w.votes ≡ length table.parents = ap (λ (v : Entries). length v.votes) c.index-worlds-0.is ∙ (votes 0 w some).long in
    sum_stands (sgn (sum_of (graph_of table) (world_of worlds whole_number))) c.args.sign
    (sum_value table worlds w c.as_slice.result.now c.sum_of.result c.sign_of.result c.requires.whole some c.index-worlds-0.is
    (c.as_slice.ensures ∙ ap (λ (v : Entries). v.votes) c.whole.view_is) long c.sum_of.ensures (c.sign_of.ensures ∙ ap sgn (to_z-of_z w32 _ f'))
    ∙ same_vote c.sign_of.result c.args.sign f (search rules) c.if-sign_of-sign.true)

pub returns-else-sign_of-sign-clause-fault : goal.returns-else-sign_of-sign-clause-fault
returns-else-sign_of-sign-clause-fault c = λ table votes ne.
    let worlds = c.args.worlds.now in
    let w = c.index-worlds-0.result in
    let some : 0 < length worlds = omega (arith, slice_get_within (numbers_of worlds) 0 whole_number c.requires.whole, length-map worlds (λ (v : Entries). v.number)) in
    let f' : FitsSigned w32 c.sum_of.result = search rules in
    let long : length w.votes ≡ length table.parents = ap (λ (v : Entries). length v.votes) c.index-worlds-0.is ∙ (votes 0 w some).long in
    sum_fails (sgn (sum_of (graph_of table) (world_of worlds whole_number))) c.args.sign
    (λ e. c.if-sign_of-sign.false (ap (of_z w8)
    (sym (sum_value table worlds w c.as_slice.result.now c.sum_of.result c.sign_of.result c.requires.whole some c.index-worlds-0.is
    (c.as_slice.ensures ∙ ap (λ (v : Entries). v.votes) c.whole.view_is) long c.sum_of.ensures (c.sign_of.ensures ∙ ap sgn (to_z-of_z w32 _ f')))
    ∙ e)))
