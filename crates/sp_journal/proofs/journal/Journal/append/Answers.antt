use Rattle.std.proofs.Common.{sym, ap, subst, ◌∙◌}
use Rattle.sp_block.specs.Block.{IsBlock, ReadBlock}
use Rattle.sp_journal.specs.Journal.{record_body, with_block}
use Rattle.sp_journal.specs.Writer.{Stands, Writer}
use Rattle.sp_journal.proofs.Appended.{append_moments, append_stands, as_written, by_test, gate_within}
use Rattle.sp_journal.proofs.journal.Journal.append.Goals as goal

pub open_over-requires-clause-place : goal.open_over-requires-clause-place
open_over-requires-clause-place g c =
    let w = c.args.self.now in
    let old = g.D.Disk.now c.args.disk.now in
    let not_closed = sym (ap (λ (v : Writer). v.closed) c.self.view_is) ∙ c.if-self.false in
    let at = ap (λ (v : Writer). v.gate) c.self.view_is in
    rw at (gate_within w old (g.met.D.Disk.is_moment c.args.disk.now) (c.requires.stands not_closed))

pub returns-then-is_err-clause-any_moment : goal.returns-then-is_err-clause-any_moment
returns-then-is_err-clause-any_moment g c not_closed contents stands =
    let w = c.args.self.now in
    let block = c.args.block.now in
    let is = subst IsBlock c.block.view_is c.block.invariant in
    let at = ap (λ (v : Writer). v.gate) c.self.view_is in
    let filled = c.deref.ensures.value ∙ c.fill.ensures.filled ∙ ap record_body (c.as_slice-bytes.ensures ∙ ap (λ (b : ReadBlock). b.bytes) c.block.view_is) in
    append_moments w block is c.requires.other c.requires.room c.requires.work contents (g.D.Disk.now c.args.disk.now) (g.D.Disk.now c.open_over.new.disk) (g.met.D.Disk.is_moment c.args.disk.now) stands
    (c.requires.fresh not_closed contents stands) c.self.inside.gate c.deref.result.now at filled c.open_over.ensures.any_moment

pub returns-clause-any_moment : goal.returns-clause-any_moment
returns-clause-any_moment g c not_closed contents stands =
    let w = c.args.self.now in
    let block = c.args.block.now in
    let is = subst IsBlock c.block.view_is c.block.invariant in
    let at = ap (λ (v : Writer). v.gate) c.self.view_is in
    let filled = c.deref.ensures.value ∙ c.fill.ensures.filled ∙ ap record_body (c.as_slice-bytes.ensures ∙ ap (λ (b : ReadBlock). b.bytes) c.block.view_is) in
    append_moments w block is c.requires.other c.requires.room c.requires.work contents (g.D.Disk.now c.args.disk.now) (g.D.Disk.now c.open_over.new.disk) (g.met.D.Disk.is_moment c.args.disk.now) stands
    (c.requires.fresh not_closed contents stands) c.self.inside.gate c.deref.result.now at filled c.open_over.ensures.any_moment

pub returns-clause-acknowledged : goal.returns-clause-acknowledged
returns-clause-acknowledged g c contents stands =
    let w = c.args.self.now in
    let block = c.args.block.now in
    let new = g.D.Disk.now c.open_over.new.disk in
    let is = subst IsBlock c.block.view_is c.block.invariant in
    let not_closed = sym (ap (λ (v : Writer). v.closed) c.self.view_is) ∙ c.if-self.false in
    let at = ap (λ (v : Writer). v.gate) c.self.view_is in
    let copied = c.as_slice-bytes.ensures ∙ ap (λ (b : ReadBlock). b.bytes) c.block.view_is in
    let filled = c.deref.ensures.value ∙ c.fill.ensures.filled ∙ ap record_body copied in
    subst (λ (v : Writer). Stands v (with_block contents block.bytes) new) (as_written _ w block.bytes c.as_slice-bytes.result.now c.self.view_is copied)
    (append_stands w block is c.requires.other c.requires.room c.requires.work contents (g.D.Disk.now c.args.disk.now) new (g.met.D.Disk.is_moment c.args.disk.now) stands
    (c.requires.fresh not_closed contents stands) c.self.inside.gate c.deref.result.now at filled (by_test c.open_over.result c.if-is_err.ensures.value c.open_over.ensures.ok))
