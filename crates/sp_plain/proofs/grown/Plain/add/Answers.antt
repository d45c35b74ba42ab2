use Rattle.std.proofs.Common.{map, subst, sym}
use Rattle.sp_dag.specs.Numbered.{Numbered, number_of}
use Rattle.sp_plain.specs.Plain.{HoldsPasts}
use Rattle.sp_plain.proofs.Stays.{pasts_stay}
use Rattle.sp_plain.proofs.grown.Plain.add.Goals as goal

pub invariant_of-self-2 : goal.invariant_of-self-2
invariant_of-self-2 c =
    let before : Numbered = c.self.inside.dag in
    subst (λ t. HoldsPasts t c.self.inside.pasts.items) (sym c.in_ok-number.ensures.ok)
    (pasts_stay before c.args.id c.args.salt (map (number_of before.ids) c.args.parents.now) c.len-before.ensures.numbered c.self.inside.pasts.items c.self.invariant)
