use Rattle.std.proofs.Common.{◌∙◌, not, Bool, List, ap, subst, sym, arith}
use Rattle.sp_carry.specs.Flags.{is_set}
use Rattle.sp_carry.specs.declared.carrier.Carrier.{Carrier}
use Rattle.sp_accept.specs.AcceptedRows.{AreAccepted}
use Rattle.sp_accept.specs.Pass.{is_next}
use Rattle.sp_accept.proofs.Settled.{not_below_itself, others_settled, own_settled, unlike}
use Rattle.sp_accept.proofs.settle.settle_one.Goals as goal

pub returns-then-differ-clause-own : goal.returns-then-differ-clause-own
returns-then-differ-clause-own g c =
    own_settled (g.O.Order.table c.args.order.now) c.args.carriers.now c.args.flags.now.items c.turn.new.flags.items c.args.c (omega (arith, c.requires.within, c.requires.long))
    c.in_ok-turn.ensures.flag (not_below_itself (g.O.Order.table c.args.order.now) c.args.carriers.now c.block_count-blocks.ensures.carried c.requires.of c.args.c c.requires.within)
    (ap (λ (l : List Bool). not (is_set l c.args.c)) (sym c.deref-2.ensures.value)
    ∙ ap not (sym c.is_set.ensures) ∙ unlike c.is_set.result c.in_ok-now.now (sym c.differ.ensures ∙ c.if-differ.true) ∙ c.in_ok-now.ensures.next
    ∙ ap (λ (l : List Bool). is_next (g.O.Order.table c.args.order.now) c.args.carriers.now l c.args.c) c.deref.ensures.value)

pub returns-then-differ-clause-others : goal.returns-then-differ-clause-others
returns-then-differ-clause-others g c = λ d apart _ above before.
    others_settled (g.O.Order.table c.args.order.now) c.args.carriers.now c.args.flags.now.items c.turn.new.flags.items c.args.c (omega (arith, c.requires.within, c.requires.long))
    c.in_ok-turn.ensures.flag d apart above before

pub returns-then-differ-clause-kept : goal.returns-then-differ-clause-kept
returns-then-differ-clause-kept g c =
    subst (λ (l : List Bool). AreAccepted c.args.carriers.now l c.forget.new.self.places.items c.forget.new.self.rows.items) (sym c.in_ok-turn.ensures.flag)
    (c.forget.ensures c.args.carriers.now c.args.flags.now.items c.args.c (ap (λ (r : Carrier). r.tx) c.carrier_at.ensures.value)
    (subst (λ (l : List Bool). AreAccepted c.args.carriers.now l c.is_next_by_rows.new.rows.places.items c.is_next_by_rows.new.rows.rows.items) c.deref.ensures.value c.is_next_by_rows.ensures.kept))
