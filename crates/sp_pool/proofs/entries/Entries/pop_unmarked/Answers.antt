use Rattle.std.proofs.Common.{◌≡◌, ◌∙◌, ◌-◌, ap, false, length, List, replicate, take, sym, ℕ}
use Rattle.std.proofs.lemmas.List.{length-replicate}
use Rattle.std.specs.Map.{values_of}
use Rattle.indexmap.specs.IndexMap.{values}
use Rattle.sp_block.specs.Block.{ReadBlock}
use Rattle.sp_pool.specs.Marks.{Marked}
use Rattle.sp_pool.proofs.Popped.{keyed-take, popped, same_length, values-take}
use Rattle.sp_pool.proofs.entries.Entries.pop_unmarked.Goals as goal

cut : (c : goal.After-fill-2) → values c.truncate.new.self ≡ take c.saturating_sub-len.result (values c.self.inside.blocks)
cut c = ap (λ (es : List (ℕ × ReadBlock)). values_of es) c.truncate.ensures.entries ∙ values-take c.saturating_sub-len.result c.self.inside.blocks.entries

marks : (c : goal.After-fill-2) → c.fill.new.self.items ≡ replicate (length (values c.truncate.new.self)) false
marks c =
    c.fill.ensures.items (λ y e. e)
    ∙ ap (λ (n : ℕ). replicate n false)
    (c.truncate-2.new.self.ok.0 ∙ ap length c.truncate-2.ensures.items ∙ same_length c.saturating_sub-len.result c.self.inside.marks.items (values c.self.inside.blocks) c.self.invariant.marks
    ∙ sym (ap length (cut c)))

seen : (c : goal.After-fill-2) → c.fill-2.new.self.items ≡ replicate (length (values c.truncate.new.self)) 0
seen c =
    c.fill-2.ensures.items (λ y e. e)
    ∙ ap (λ (n : ℕ). replicate {A = ℕ} n 0)
    (c.truncate-3.new.self.ok.0 ∙ ap length c.truncate-3.ensures.items ∙ same_length c.saturating_sub-len.result c.self.inside.seen.items (values c.self.inside.blocks) c.self.invariant.seen
    ∙ sym (ap length (cut c)))

pub invariant_of-self : goal.invariant_of-self
invariant_of-self c =
    record {
      keyed = rw (c.truncate.ensures.entries) (keyed-take c.saturating_sub-len.result c.self.inside.blocks.entries c.self.invariant.keyed);
      apart = c.truncate.ensures.unique;
      marks = ap length (marks c) ∙ length-replicate (length (values c.truncate.new.self)) false;
      seen = ap length (seen c) ∙ length-replicate (length (values c.truncate.new.self)) 0;
    }

pub returns : goal.returns
returns c =
    let blocks : values c.truncate.new.self ≡ take (length c.args.self.now.blocks - 1) c.args.self.now.blocks =
    cut c ∙ ap (λ (bs : List ReadBlock). take c.saturating_sub-len.result bs) (ap (λ (m : Marked). m.blocks) c.self.view_is)
    ∙ ap (λ (n : ℕ). take n c.args.self.now.blocks) (c.saturating_sub-len.ensures ∙ ap (λ (n : ℕ). n - 1) c.len.ensures.len) in
    popped c.args.self.now (values c.truncate.new.self) c.fill.new.self.items c.fill-2.new.self.items blocks (marks c) (seen c)
