use Rattle.std.proofs.Common.{◌≡◌, ◌∙◌, Bool, ℕ, List, ap, not, Some, take, true}
use Rattle.std.specs.List.{list_all}
use Rattle.sp_model.specs.Graph.{has}
use Rattle.sp_pool.specs.Marks.{Marks}
use Rattle.sp_pool.proofs.Looks.{Looked-see}
use Rattle.sp_pool.proofs.Marking.{ready_marked, ready_unmarked, seen_there}
use Rattle.sp_pool.proofs.release.is_ready_at.Goals as goal

pub returns-then-is_marked_at-clause-ready : goal.returns-then-is_marked_at-clause-ready
returns-then-is_marked_at-clause-ready c =
    λ set h. ready_marked c.args.entries.now set c.args.place c.is_marked_at.result h c.requires c.is_marked_at.ensures c.if-is_marked_at.true
    ∙ ap (λ (r : Bool). Some (not r)) c.if-is_marked_at.true

pub returns-clause-looked : goal.returns-clause-looked
returns-clause-looked c =
    let m = c.args.entries.now in
    let parents = c.parents_at-parents.result.now in
    let known : (set : List ℕ) → Marks m set → list_all (has set) (take c.seen_at.result parents) ≡ true =
    λ set h. seen_there set m.blocks m.seen c.args.place parents c.seen_at.result h.seen c.parents_at-parents.ensures c.seen_at.ensures in
    Looked-see m c.see.new.self c.args.place parents c.marked_front-seen.result c.see.ensures c.parents_at-parents.ensures
    (λ set h. c.marked_front-seen.ensures.front set h (known set h))

pub returns-clause-ready : goal.returns-clause-ready
returns-clause-ready c =
    let m = c.args.entries.now in
    let parents = c.parents_at-parents.result.now in
    λ set h. ready_unmarked m set c.args.place parents c.is_marked_at.result _ h c.parents_at-parents.ensures c.is_marked_at.ensures c.if-is_marked_at.false
    (c.marked_front-seen.ensures.whole set h
    (seen_there set m.blocks m.seen c.args.place parents c.seen_at.result h.seen c.parents_at-parents.ensures c.seen_at.ensures))
