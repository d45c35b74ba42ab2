use Rattle.std.proofs.Common.{◌∙◌, FitsSigned, List, Option, ap, eqb, of_z, refl, rules, subst, sym, ℕ}
use Rattle.std.specs.Prelude.{IfSome, is_some}
use Rattle.std.proofs.lemmas.Int.{to_z-of_z}
use Rattle.std.specs.Int.{w8}
use Rattle.sp_view.specs.Sums.{AreJoined}
use Rattle.sp_view.proofs.Changes.{by_bits, changed_between}
use Rattle.sp_view.proofs.view.View.differs.Goals as goal

pub returns-2 : goal.returns-2
returns-2 c = λ table x y is before holds added older_added at.
    let f : FitsSigned w8 c.virtual_vote.result = search rules in
    let f' : FitsSigned w8 c.virtual_vote-2.result = search rules in
    changed_between table c.args.older.now c.args.self.now c.args.pool.now c.args.pair x y c.virtual_vote.result c.virtual_vote-2.result (eqb (of_z w8 c.virtual_vote.result) (of_z w8 c.virtual_vote-2.result))
    is before at c.requires.inside (ap is_some (sym c.entry.ensures ∙ c.in-Some.is))
    (c.virtual_vote.ensures table x y is holds added at) (c.virtual_vote-2.ensures table x y before holds older_added at)
    (by_bits c.virtual_vote.result c.virtual_vote-2.result (eqb (of_z w8 c.virtual_vote.result) (of_z w8 c.virtual_vote-2.result)) refl (to_z-of_z w8 _ f) (to_z-of_z w8 _ f'))

pub returns : goal.returns
returns c = λ table x y is before holds added older_added at.
    c.turned.ensures table x y c.args.older.now
    (subst (λ (o : Option (List ℕ)). IfSome o (AreJoined c.args.older.now.members c.args.self.now.members)) c.in-Some-joined.is c.requires.joined)
    (sym c.entry.ensures ∙ c.in-Some.is ∙ sym (c.has_rows.ensures.0 c.if-has_rows.true)) is before holds added older_added at
