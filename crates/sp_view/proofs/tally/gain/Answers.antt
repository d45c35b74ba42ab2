use Rattle.std.proofs.Common.{ℕ, Option, arith, subst}
use Rattle.std.specs.Prelude.{IfSome}
use Rattle.std.proofs.lemmas.Int.{ints}
use Rattle.sp_model.specs.Graph.{has}
use Rattle.sp_view.specs.Sums.{IsLone}
use Rattle.sp_view.proofs.Lone.{bit_small, lone_meet}
use Rattle.sp_view.proofs.tally.gain.Goals as goal

pub returns-in-Some : goal.returns-in-Some
returns-in-Some c =
    let lone : IsLone c.args.row.now c.in-Some.place = subst (λ (o : Option ℕ). IfSome o (IsLone c.args.row.now)) c.in-Some.is c.requires in
    omega (
      arith,
      ints,
      c.vote_of.ensures,
      bit_small (has c.args.plus.now c.in-Some.place),
      bit_small (has c.args.minus.now c.in-Some.place),
      lone_meet c.args.row.now c.args.plus.now c.in-Some.place lone,
      lone_meet c.args.row.now c.args.minus.now c.in-Some.place lone,
    )
