use Rattle.std.proofs.Common.{◌≡◌, ◌∙◌, ℕ, List, ap, arith, length, subst, sym}
use Rattle.sp_dag.specs.Numbered.{Numbered}
use Rattle.sp_accept.specs.Acceptance.{IsRight}
use Rattle.sp_accept.specs.Changes.{TellsChanges}
use Rattle.sp_accept.specs.Rows.{AreOf}
use Rattle.sp_tests_ledger.specs.Decided.{IsDecided}
use Rattle.sp_tests_ledger.proofs.Decided.{decides, of_all}
use Rattle.sp_tests_ledger.proofs.ledger.Ledger.update.Goals as goal

pub update-requires-clause-of : goal.update-requires-clause-of
update-requires-clause-of c =
    let same = c.dag-2.ensures ∙ c.in_ok-changed.ensures.same ∙ c.in_ok-votes.ensures.same in
    let long : length c.dag.result.now.parents ≡ length c.self.inside.plain.parents = ap (λ (t : Numbered). length t.parents) c.dag.ensures in
    subst (λ (t : Numbered). AreOf t c.self.inside.carriers) (sym same)
    (of_all c.self.inside.plain c.self.inside.carriers c.self.inside.accepted c.self.inside.decided
    (omega (arith, c.block_count-count.ensures.value, c.len.ensures.value, c.if-count-len.false, long)) c.self.invariant)

pub update-requires-clause-told : goal.update-requires-clause-told
update-requires-clause-told c =
    subst (λ (pairs : List (ℕ × ℕ)). TellsChanges c.dag-2.result.now c.self.inside.accepted.blocks pairs) (sym c.deref.ensures.value)
    (subst (λ (n : ℕ). TellsChanges c.dag-2.result.now n c.in_ok-changed.changed.items) (sym c.self.invariant.last)
    (subst (λ (t : Numbered). TellsChanges t c.self.inside.decided c.in_ok-changed.changed.items) (sym (c.dag-2.ensures ∙ c.in_ok-changed.ensures.same)) c.in_ok-changed.ensures.told))

pub invariant_of-self-2 : goal.invariant_of-self-2
invariant_of-self-2 c =
    let before = c.in_ok-changed.ensures.same ∙ c.in_ok-votes.ensures.same in
    subst (λ (t : Numbered). IsDecided t c.self.inside.carriers c.update.new.self c.block_count-count.result) (sym before)
    (decides c.self.inside.plain c.self.inside.carriers c.self.inside.accepted c.update.new.self c.self.inside.decided c.block_count-count.result
    (subst (λ (t : Numbered). IsRight t c.self.inside.carriers c.update.new.self) (c.dag-2.ensures ∙ before) c.in_ok-flips.ensures.right)
    (c.in_ok-flips.ensures.blocks ∙ sym c.block_count-count.ensures.value) c.self.invariant)
