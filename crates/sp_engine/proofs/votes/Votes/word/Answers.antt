use Rattle.std.specs.Int.{w8}
use Rattle.std.proofs.Common.{◌≡◌, ◌∙◌, ◌<◌, ◌&&◌, ℕ, ap, sym, arith, subst, true, cond, ltb, rules, FitsSigned, length}
use Rattle.std.specs.Prelude.{ℤ, min, max, neg_ℤ}
use Rattle.std.proofs.lemmas.Bool.{and_from}
use Rattle.std.proofs.lemmas.Int.{to_z-of_z}
use Rattle.std.specs.List.{range_with_len}
use Rattle.sp_dag.specs.Numbered.{Numbered, graph_of}
use Rattle.sp_model.specs.Graph.{has}
use Rattle.sp_model.specs.Votes.{virt, word_of}
use Rattle.sp_view.proofs.KeptSums.{sign_there}
use Rattle.sp_engine.specs.Votes.{AreWhole, Tallied}
use Rattle.sp_engine.proofs.Asked.{either_way}
use Rattle.sp_engine.proofs.Ranges.{in_range}
use Rattle.sp_engine.proofs.votes.Votes.word.Goals as goal

-- both of two numbers are among all
both_there : (n x y : ℕ) → x < n → y < n → (has (range_with_len 0 n) (min x y) && has (range_with_len 0 n) (max x y)) ≡ true
both_there n x y x_in y_in =
    and_from (has (range_with_len 0 n) (min x y)) (has (range_with_len 0 n) (max x y))
    (in_range 0 n (min x y) (omega arith) (omega (arith, x_in, y_in))) (in_range 0 n (max x y) (omega arith) (omega (arith, x_in, y_in)))

pub virtual_vote-vote-requires : goal.virtual_vote-vote-requires
virtual_vote-vote-requires c =
    let table : Numbered = c.args.dag.now in
    let v : Tallied = record { frozen = c.self.inside.frozen; rows = c.self.inside.rows; views = c.self.inside.views.items; since = c.self.inside.since; sums = c.self.inside.sums } in
    let voted : AreWhole table v = subst (λ (w : Tallied). AreWhole table w) (sym c.self.view_is) c.requires.voted in
    voted.sums.long c.in-Some.pair (min c.args.x c.args.y) (max c.args.x c.args.y) c.in-Some.ensures.some (both_there (length table.parents) c.args.x c.args.y c.requires.x_in c.requires.y_in)

pub returns-in-Some : goal.returns-in-Some
returns-in-Some c =
    let table : Numbered = c.args.dag.now in
    let v : Tallied = record { frozen = c.self.inside.frozen; rows = c.self.inside.rows; views = c.self.inside.views.items; since = c.self.inside.since; sums = c.self.inside.sums } in
    let voted : AreWhole table v = subst (λ (w : Tallied). AreWhole table w) (sym c.self.view_is) c.requires.voted in
    let fits : FitsSigned w8 c.virtual_vote-vote.result = search rules in
    let vote : c.virtual_vote-vote.result ≡ virt (graph_of table) (range_with_len 0 (length table.parents)) (min c.args.x c.args.y) (max c.args.x c.args.y) =
    c.virtual_vote-vote.ensures
    ∙ sign_there table (range_with_len 0 (length table.parents)) v.sums c.in-Some.pair (min c.args.x c.args.y) (max c.args.x c.args.y) voted.sums c.in-Some.ensures.some
    (both_there (length table.parents) c.args.x c.args.y c.requires.x_in c.requires.y_in) in
    c.word_by.ensures ∙ ap (λ (w : ℤ). word_of (cond (ltb c.args.x c.args.y) w (neg_ℤ w))) (to_z-of_z w8 c.virtual_vote-vote.result fits) ∙ ap word_of (either_way table c.len-blocks.ensures.numbered.order c.args.x c.args.y c.requires.x_in c.requires.y_in c.requires.other c.virtual_vote-vote.result vote)
