use Rattle.std.proofs.Common.{◌+◌, ◌++◌, ◌∷◌, [], ◌∙◌, ap, Bool, false, length, length-append, List, sym, ℕ}
use Rattle.indexmap.specs.IndexMap.{values}
use Rattle.sp_block.specs.Block.{ReadBlock}
use Rattle.sp_model.specs.Graph.{has}
use Rattle.sp_pool.specs.Kept.{ids_of}
use Rattle.sp_pool.specs.Marks.{marked, Marked}
use Rattle.sp_pool.proofs.Tables.{marked_push, pushed}
use Rattle.sp_pool.proofs.entries.Entries.push.Goals as goal

pub invariant_of-self-2 : goal.invariant_of-self-2
invariant_of-self-2 c =
    let b = c.args.block in
    let fresh = ap (λ (m : Marked). has (ids_of m.blocks) b.id) c.self.view_is ∙ c.requires in
    let own = ap (λ (x : ReadBlock). x.id) c.block.view_is in
    let after = pushed c.self.inside.blocks.entries c.insert.new.self.entries c.block.inside.id b c.self.invariant.keyed fresh own c.in_ok-replaced.ensures.entries in
    let last = sym (length-append (values c.self.inside.blocks) (b ∷ [])) ∙ sym (ap length after.0) in
    record {
      keyed = after.1;
      apart = c.in_ok-replaced.ensures.unique;
      marks =
          ap length c.push_reserved.ensures.items ∙ length-append c.make_room.new.marks.items (false ∷ [])
          ∙ ap (λ n. n + 1) (ap length c.make_room.ensures.marks ∙ c.self.invariant.marks) ∙ last;
      seen =
          ap length c.push_reserved-2.ensures.items ∙ length-append c.make_room.new.seen.items (0 ∷ [])
          ∙ ap (λ n. n + 1) (ap length c.make_room.ensures.seen ∙ c.self.invariant.seen) ∙ last;
    }

pub returns-clause-ok : goal.returns-clause-ok
returns-clause-ok c =
    let b = c.args.block in
    let fresh = ap (λ (m : Marked). has (ids_of m.blocks) b.id) c.self.view_is ∙ c.requires in
    let own = ap (λ (x : ReadBlock). x.id) c.block.view_is in
    let after = pushed c.self.inside.blocks.entries c.insert.new.self.entries c.block.inside.id b c.self.invariant.keyed fresh own c.in_ok-replaced.ensures.entries in
    marked_push c.args.self.now (marked (values c.self.inside.blocks) c.self.inside.marks.items c.self.inside.seen.items) b
    (values c.insert.new.self) c.push_reserved.new.self.items c.push_reserved-2.new.self.items c.self.view_is after.0
    (c.push_reserved.ensures.items ∙ ap (λ (ms : List Bool). ms ++ false ∷ []) c.make_room.ensures.marks)
    (c.push_reserved-2.ensures.items ∙ ap (λ (ns : List ℕ). ns ++ 0 ∷ []) c.make_room.ensures.seen)
