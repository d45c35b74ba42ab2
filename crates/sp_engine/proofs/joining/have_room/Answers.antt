use Rattle.std.proofs.Common.{◌≡◌, ◌<◌, ◌≤◌, ◌∙◌, ◌+◌, ◌*◌, ap, sym, arith, length, get_or, List, take}
use Rattle.std.proofs.lemmas.Bool.{false≢true}
use Rattle.sp_view.specs.Views.{Viewed}
use Rattle.sp_engine.specs.Votes.{entries_of}
use Rattle.sp_engine.proofs.LetGo.{entries_front, entries_next}
use Rattle.sp_engine.proofs.joining.have_room.Goals as goal

pub views-preserved : goal.views-preserved
views-preserved c =
    let xs : List Viewed = c.args.views.now in
    let own : length (get_or xs c.views.i c.index-views-i.result).entries ≡ c.entry_count-entries.result = ap (λ (v : Viewed). length v.entries) (sym c.index-views-i.is) ∙ sym c.entry_count-entries.ensures in
    let before : c.views.left + 12 * entries_of (take c.views.i xs) ≡ c.args.bytes = c.views.invariant in
    let next = entries_next xs c.views.i c.index-views-i.result c.views-test.true in
    let room : 12 * c.entry_count-entries.result ≤ c.views.left = omega (arith, c.if-entries-left.false) in
    omega (arith, before, next, own, room)

pub returns-then-entries-left : goal.returns-then-entries-left
returns-then-entries-left c =
    let xs : List Viewed = c.args.views.now in
    let own : length (get_or xs c.views.i c.index-views-i.result).entries ≡ c.entry_count-entries.result = ap (λ (v : Viewed). length v.entries) (sym c.index-views-i.is) ∙ sym c.entry_count-entries.ensures in
    let before : c.views.left + 12 * entries_of (take c.views.i xs) ≡ c.args.bytes = c.views.invariant in
    let next = entries_next xs c.views.i c.index-views-i.result c.views-test.true in
    let over : c.views.left < 12 * c.entry_count-entries.result = omega (arith, c.if-entries-left.true) in
    let front = entries_front xs (c.views.i + 1) in (
      λ none. absurd (false≢true none),
      λ few. absurd (omega (arith, before, next, own, over, front, few)),
    )
