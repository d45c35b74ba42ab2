use Rattle.std.proofs.Common.{◌∙◌, List, ℕ, Some, length, sym, subst}
use Rattle.std.specs.BTreeMap.{Updates}
use Rattle.std.specs.Cmp.Lexicographic.{slice_cmp}
use Rattle.std.specs.Ordering.{nat_cmp}
use Rattle.sp_names.specs.Labels.{IsNameLength}
use Rattle.sp_gossip.proofs.Numbered.{named_before, named_now}
use Rattle.sp_gossip.proofs.made_blocks.note.Goals as goal

pub returns-then-contains_key : goal.returns-then-contains_key
returns-then-contains_key c =
    let text = c.as_slice-text.ensures in
    let short = subst (λ (name : List ℕ). IsNameLength (length name)) text.bytes (record { some = text.some; short = text.short }) in
    named_before c.args.numbers.now c.args.blocks.now c.args.number c.index-blocks-number.result c.requires.within c.index-blocks-number.is c.requires.before short
    (sym c.contains_key.ensures ∙ c.if-contains_key.true)

pub returns : goal.returns
returns c =
    let text = c.as_slice-text.ensures in
    let short = subst (λ (name : List ℕ). IsNameLength (length name)) text.bytes (record { some = text.some; short = text.short }) in
    let up = subst (λ (name : List ℕ). Updates (slice_cmp nat_cmp) c.args.numbers.now c.insert.new.self name (Some c.args.number)) (c.of.ensures ∙ text.bytes) c.in_ok-insert.ensures.updates in
    named_now c.args.numbers.now c.args.blocks.now c.args.number c.index-blocks-number.result c.requires.within c.index-blocks-number.is c.requires.before short c.insert.new.self
    (sym c.contains_key.ensures ∙ c.if-contains_key.false) up
