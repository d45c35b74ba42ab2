use Rattle.std.proofs.Common.{◌+◌, ◌<◌, ◌≤◌, ℕ, List, [], Some, drop, length, sym, ap, ap₂, ◌∙◌, arith}
use Rattle.std.specs.Prelude.{slice_get, slice_index_or}
use Rattle.sp_play.specs.Known.{Entry}
use Rattle.sp_play.specs.Scene.{made_in}
use Rattle.sp_play.specs.declared.thing.Thing.TheVariants.{Genesis}
use Rattle.sp_play.proofs.MadeBlocks.{all_seen, first_made, found, further, not_made}
use Rattle.sp_play.proofs.made.made_at.Goals as goal
use Rattle.sp_play.proofs.made.made_at.Goals.{in-Made+else-left-eq0, in_default}

pub returns-then-left-eq0 : goal.returns-then-left-eq0
returns-then-left-eq0 c =
    let entries : List Entry = c.args.entries.now in
    let entry : Entry = slice_index_or c.args.entries.now c.places.place ([], Genesis) in
    let more : List Entry = drop (c.places.place + 1) c.args.entries.now in
    let first = first_made entry (drop c.places.place c.args.entries.now) more c.thing_at.ensures.rest c.in-Made.block (sym c.thing_at.ensures.value ∙ c.in-Made.is) in
    found (entry.0, c.in-Made.block) (made_in more) (made_in (drop c.places.place c.args.entries.now)) (made_in c.args.entries.now) c.args.i c.places.left first c.places.invariant c.if-left-eq0.true
    ∙ ap₂ (λ (name bytes : List ℕ). Some (name, bytes)) (sym (c.of-name.ensures ∙ c.as_slice.ensures.bytes ∙ c.name_at.ensures)) (sym c.bytes.ensures)

pub places-preserved : goal.places-preserved
places-preserved c =
    let entry : Entry = slice_index_or c.args.entries.now c.places.place ([], Genesis) in
    let before : List Entry = drop c.places.place c.args.entries.now in
    let more : List Entry = drop (c.places.place + 1) c.args.entries.now in
    elim c.match-thing_at.branch [
      | in-Made+else-left-eq0 w ↦
          let first = first_made entry before more c.thing_at.ensures.rest w.in-Made.block (sym c.thing_at.ensures.value ∙ w.in-Made.is) in
          let some : 0 < c.places.left = omega (arith, w.if-left-eq0.false) in
          ap (slice_get (made_in more)) w.left-is
          ∙ further (entry.0, w.in-Made.block) (made_in more) (made_in before) (made_in c.args.entries.now) c.args.i c.places.left first c.places.invariant some
      | in_default w ↦
          let none = not_made entry before more c.thing_at.ensures.rest (λ bytes made. w.in_default.not-Made bytes (c.thing_at.ensures.value ∙ made)) in
          ap (slice_get (made_in more)) w.left-is ∙ ap (λ (ms : List (List ℕ × List ℕ)). slice_get ms c.places.left) (sym none) ∙ c.places.invariant
    ]

pub unreachable-requires : goal.unreachable-requires
unreachable-requires c =
    let past : length c.args.entries.now ≤ c.places.place = omega arith in
    all_seen c.args.entries.now c.places.place c.args.i c.places.left past c.places.invariant c.requires
