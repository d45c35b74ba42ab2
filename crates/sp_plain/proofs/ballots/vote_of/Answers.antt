use Rattle.std.proofs.Common.{◌≡◌, ◌≢◌, ◌∙◌, ◌+◌, ◌<◌, sym, ap, rules, arith, slice_index_or, pos, length, FitsSigned, ℕ, List, true, false, ℤ}
use Rattle.std.proofs.lemmas.Int.{to_z-of_z}
use Rattle.std.specs.Int.{w8, w32}
use Rattle.sp_dag.specs.Numbered.{graph_of}
use Rattle.sp_dag.proofs.Ranked.{ancestors_lower}
use Rattle.sp_model.specs.Graph.{has, IsDownset, in_past, future, Graph, past}
use Rattle.sp_model.specs.Votes.{sgn, settled_in, vote, total}
use Rattle.sp_plain.specs.Plain.{AreVotesFrom}
use Rattle.sp_plain.specs.Virts.{entry, Virts}
use Rattle.sp_plain.proofs.Cases.{vote_both, vote_neither, total_by_table}
use Rattle.sp_plain.proofs.Entries.{entry_is, past_read}
use Rattle.sp_plain.proofs.ballots.vote_of.Goals as goal

from_above : (g : Graph) (set : List ℕ) (n z x y : ℕ) (votes : List ℤ) (sum r : ℤ) → IsDownset g set → has set z ≡ true
    → z ≢ x → z ≢ y → in_past g x z ≡ false → in_past g y z ≡ false
    → ((w : ℕ) → has set w ≡ true → w < n) → ((w : ℕ) → w < n → in_past g z w ≡ true → z < w)
    → AreVotesFrom g set n x y (z + 1) votes
    → sum ≡ total (λ w. slice_index_or votes w (pos 0)) (future g set z) → r ≡ sgn sum → r ≡ vote g set z x y
from_above g set n z x y votes sum r down member ne ne' h k below upward above s t =
    t ∙ ap sgn s ∙ ap sgn (total_by_table g set n z x y votes below upward above) ∙ sym (vote_neither g set z x y down member ne ne' h k)

pub vote-requires-clause-x_in : goal.vote-requires-clause-x_in
vote-requires-clause-x_in c =
    let read = past_read _ c.args.pasts.now c.args.z c.index-pasts-z.result c.requires.pasts c.requires.reach in
    let lower = ancestors_lower c.args.dag.now c.args.x c.args.z c.len-blocks.ensures.numbered.order (omega arith) (sym c.in_past-2.ensures ∙ c.if-in_past-3.true) in
    omega (arith, ap (λ (v : Virts). v.width) (c.index-pasts-z.is ∙ read), lower)

pub vote-requires-clause-y_in : goal.vote-requires-clause-y_in
vote-requires-clause-y_in c =
    let read = past_read _ c.args.pasts.now c.args.z c.index-pasts-z.result c.requires.pasts c.requires.reach in
    let lower = ancestors_lower c.args.dag.now c.args.y c.args.z c.len-blocks.ensures.numbered.order (omega arith) (sym c.in_past-then-in_past-3.ensures ∙ c.if-in_past-4.true) in
    omega (arith, ap (λ (v : Virts). v.width) (c.index-pasts-z.is ∙ read), lower)

pub returns-then-in_past-4 : goal.returns-then-in_past-4
returns-then-in_past-4 c =
    let g : Graph = graph_of c.args.dag.now in
    let f : FitsSigned w8 c.settled.result = search rules in
    let f' : FitsSigned w8 c.vote.result = search rules in
    let read = past_read _ c.args.pasts.now c.args.z c.index-pasts-z.result c.requires.pasts c.requires.reach in
    let x_in = sym c.in_past-2.ensures ∙ c.if-in_past-3.true in
    let y_in = sym c.in_past-then-in_past-3.ensures ∙ c.if-in_past-4.true in
    let lx = ancestors_lower c.args.dag.now c.args.x c.args.z c.len-blocks.ensures.numbered.order (omega arith) x_in in
    let ly = ancestors_lower c.args.dag.now c.args.y c.args.z c.len-blocks.ensures.numbered.order (omega arith) y_in in
    to_z-of_z w8 _ f ∙ c.settled.ensures
    ∙ ap (settled_in g c.args.x c.args.y)
    (to_z-of_z w8 _ f' ∙ c.vote.ensures ∙ ap (λ (v : Virts). entry v c.args.x c.args.y) (c.index-pasts-z.is ∙ read)
    ∙ entry_is g (past g c.args.z) c.args.z c.args.x c.args.y lx ly)
    ∙ sym (vote_both g c.args.members.now c.args.z c.args.x c.args.y c.requires.whole c.requires.member c.if-z-x.false c.if-z-y.false x_in y_in)

pub returns : goal.returns
returns c =
    let f : FitsSigned w8 c.sign_of.result = search rules in
    let f' : FitsSigned w32 c.sum_of_future.result = search rules in
    to_z-of_z w8 _ f
    ∙ from_above (graph_of c.args.dag.now) c.args.members.now (length c.args.votes.now) c.args.z c.args.x c.args.y c.args.votes.now c.sum_of_future.result c.sign_of.result
    c.requires.whole c.requires.member c.if-z-x.false c.if-z-y.false
    (sym c.in_past-2.ensures ∙ c.if-in_past-3.false) (sym c.in_past-3.ensures ∙ c.if-in_past-5.false) c.requires.below
    (λ w lt h. ancestors_lower c.args.dag.now c.args.z w c.len-blocks.ensures.numbered.order (omega (arith, c.requires.wide)) h)
    c.requires.above c.sum_of_future.ensures (c.sign_of.ensures ∙ ap sgn (to_z-of_z w32 _ f'))
