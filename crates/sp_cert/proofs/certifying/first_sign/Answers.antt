use Rattle.std.proofs.Common.{◌≡◌, ◌∙◌, ap, length, rules, FitsSigned}
use Rattle.std.proofs.lemmas.Int.{to_z-of_z}
use Rattle.std.proofs.lemmas.List.{get_or_default}
use Rattle.std.specs.Int.{w8, w32}
use Rattle.sp_dag.specs.Numbered.{graph_of}
use Rattle.sp_model.specs.Votes.{sgn}
use Rattle.sp_cert.specs.Certificate.{Entries}
use Rattle.sp_cert.specs.Entries.{sum_of}
use Rattle.sp_cert.proofs.Judging.{sum_is}
use Rattle.sp_cert.proofs.certifying.first_sign.Goals as goal

pub returns : goal.returns
returns c = λ table votes d.
    let w = c.index-worlds-0.result in
    let f : FitsSigned w8 c.sign_of.result = search rules in
    let f' : FitsSigned w32 c.sum_of.result = search rules in
    let long : length w.votes ≡ length table.parents = ap (λ (v : Entries). length v.votes) c.index-worlds-0.is ∙ (votes 0 w c.requires.some).long in
    to_z-of_z w8 c.sign_of.result f ∙ c.sign_of.ensures
    ∙ ap sgn (to_z-of_z w32 c.sum_of.result f' ∙ c.sum_of.ensures
    ∙ sum_is table w c.as_slice.result.now (c.as_slice.ensures ∙ ap (λ (v : Entries). v.votes) c.whole.view_is) long)
    ∙ ap (λ (v : Entries). sgn (sum_of (graph_of table) v)) (c.index-worlds-0.is ∙ get_or_default c.args.worlds.now 0 w d c.requires.some)
