use Rattle.std.proofs.Common.{ℕ, List, ap, sym, ◌∙◌, [], arith}
use Rattle.std.specs.Prelude.{slice_get}
use Rattle.sp_engine.specs.Engine.{Ledger}
use Rattle.sp_model.specs.Votes.{word}
use Rattle.sp_model.specs.declared.profile.Profile.{Profile}
use Rattle.sp_pool.specs.Kept.{graph_in, present}
use Rattle.sp_engine.proofs.Facts.{engine_of, present_count, voted}
use Rattle.sp_engine.proofs.Retreat.{whole_of}
use Rattle.sp_engine.proofs.WordsByNumbers.{word_at_one}
use Rattle.sp_engine.proofs.engine.Engine.vote_at.Goals as goal

pub returns-then-x-y : goal.returns-then-x-y
returns-then-x-y c first second at_x at_y =
    let e = engine_of c.self.view_is c.self.invariant in
    sym (word_at_one c.args.self.now.profile c.args.self.now.kept c.self.inside.dag first second c.args.x c.args.y e.same
    (ap (λ (ids : List ℕ). slice_get ids c.args.x) e.order ∙ at_x) (ap (λ (ids : List ℕ). slice_get ids c.args.y) e.order ∙ at_y) c.if-x-y.true)

pub word-requires-clause-x_in : goal.word-requires-clause-x_in
word-requires-clause-x_in c = omega (arith, present_count (engine_of c.self.view_is c.self.invariant), c.requires.x_in)

pub word-requires-clause-y_in : goal.word-requires-clause-y_in
word-requires-clause-y_in c = omega (arith, present_count (engine_of c.self.view_is c.self.invariant), c.requires.y_in)

pub returns : goal.returns
returns c first second at_x at_y =
    let e = engine_of c.self.view_is c.self.invariant in
    c.word.ensures
    ∙ voted first second c.args.x c.args.y e (ap (λ (ids : List ℕ). slice_get ids c.args.x) e.order ∙ at_x) (ap (λ (ids : List ℕ). slice_get ids c.args.y) e.order ∙ at_y)
    (omega (arith, present_count e, c.requires.x_in)) (omega (arith, present_count e, c.requires.y_in)) c.if-x-y.false
    ∙ ap (λ (p : Profile). word (graph_in p c.args.self.now.kept) (present c.args.self.now.kept) first second) (ap (λ (l : Ledger). l.profile) c.self.view_is)

pub word-requires-clause-voted : goal.word-requires-clause-voted
word-requires-clause-voted c = whole_of c.self.inside.dag c.self.inside.votes [] c.self.invariant.0.voted
