use Rattle.sp_tests_ledger.proofs.Decided.{stands}
use Rattle.sp_tests_ledger.proofs.ledger.Ledger.stand.Goals as goal

pub invariant_of-self-2 : goal.invariant_of-self-2
invariant_of-self-2 c =
    stands c.self.inside.plain c.stand.new.plain c.args.new 0 c.in_ok-stand.ensures.grown.0 c.self.inside.carriers c.self.inside.accepted c.self.inside.decided
    c.in_ok-stand.ensures.grown.1 c.in_ok-stand.ensures.numbered c.in_ok-stand.ensures.order c.self.invariant
