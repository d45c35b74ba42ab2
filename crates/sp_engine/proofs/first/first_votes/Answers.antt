use Rattle.std.proofs.Common.{List, Option, ℕ, ap, length, sym, subst}
use Rattle.sp_engine.specs.Votes.{HaveJoinedBut}
use Rattle.sp_engine.proofs.Beginning.{few_alone, one_view, voted_alone}
use Rattle.sp_engine.proofs.first.first_votes.Goals as goal

pub add-requires-clause-joining : goal.add-requires-clause-joining
add-requires-clause-joining c =
    let h = c.in_ok-votes.ensures.joining c.args.dag.now c.len-blocks.ensures.numbered.order (ap length c.requires) in (
      0,
      c.in_ok-votes.votes,
      subst (λ (l : List (Option (ℕ × ℕ))). HaveJoinedBut c.args.dag.now 0 c.in_ok-votes.votes c.in_ok-votes.votes l) (sym c.new-saved.ensures) h,
      one_view c.args.dag.now c.in_ok-votes.votes c.in_ok-votes.votes h,
    )

pub returns-clause-voted : goal.returns-clause-voted
returns-clause-voted c =
    let h = c.in_ok-votes.ensures.joining c.args.dag.now c.len-blocks.ensures.numbered.order (ap length c.requires) in
    let h' = subst (λ (l : List (Option (ℕ × ℕ))). HaveJoinedBut c.args.dag.now 0 c.in_ok-votes.votes c.in_ok-votes.votes l) (sym c.new-saved.ensures) h in
    voted_alone c.args.dag.now c.in_ok-votes.votes c.in_ok-votes.votes c.add.new.self c.add.new.saved c.requires h
    (c.in_ok-add.ensures.joined 0 c.in_ok-votes.votes h' (one_view c.args.dag.now c.in_ok-votes.votes c.in_ok-votes.votes h))

pub returns-clause-few : goal.returns-clause-few
returns-clause-few c =
    let h = c.in_ok-votes.ensures.joining c.args.dag.now c.len-blocks.ensures.numbered.order (ap length c.requires) in
    let h' = subst (λ (l : List (Option (ℕ × ℕ))). HaveJoinedBut c.args.dag.now 0 c.in_ok-votes.votes c.in_ok-votes.votes l) (sym c.new-saved.ensures) h in
    few_alone c.args.dag.now c.in_ok-votes.votes c.in_ok-votes.votes c.add.new.self c.add.new.saved c.requires h
    (c.in_ok-add.ensures.joined 0 c.in_ok-votes.votes h' (one_view c.args.dag.now c.in_ok-votes.votes c.in_ok-votes.votes h))
