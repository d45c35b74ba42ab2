use Rattle.std.proofs.Common.{◌≡◌, ◌<◌, ◌≤◌, ℕ, arith, length, true}
use Rattle.sp_model.specs.Graph.{has}
use Rattle.sp_accept.specs.Rows.{row_at}
use Rattle.sp_accept.specs.Todo.{is_contested}
use Rattle.sp_accept.proofs.Begun.{from_later}
use Rattle.sp_accept.proofs.Carriers.{rows_are}
use Rattle.sp_accept.proofs.todo.todo_of.Goals as goal

pub returns : goal.returns
returns g c =
    let k = c.args.carriers.now in
    let kept = rows_are k c.block_count-count.ensures.carried in
    let of_contested : (e : ℕ) → e < length k.rows → c.args.blocks ≤ (row_at k.rows e).block → (row_at k.rows e).sound ≡ true → is_contested k (row_at k.rows e).tx ≡ true
    → has c.contested_blocks-contested.result (row_at k.rows e).block ≡ true = λ e le ge valid rival.
    c.contested_blocks-contested.ensures e (from_later k kept c.args.blocks c.args.from c.requires.first e le ge) le valid rival in
    let of_new : (e : ℕ) → e < length k.rows → c.args.blocks ≤ (row_at k.rows e).block → (row_at k.rows e).sound ≡ true → has c.new_blocks-todo.result (row_at k.rows e).block ≡ true = λ e le ge valid.
    c.new_blocks-todo.ensures e (from_later k kept c.args.blocks c.args.from c.requires.first e le ge) le valid in
    record {
      news = λ e le ge valid. c.note_pairs.ensures.kept _ (c.note_all_beside.ensures.kept _ (of_new e le ge valid));
      beside = λ z e old le ge valid rival below before.
          c.note_pairs.ensures.kept z
          (c.note_all_beside.ensures.beside z (row_at k.rows e).block old ge
          (let inside : (row_at k.rows e).block < k.blocks = kept.inside e le in omega (arith, inside, c.block_count-count.ensures.value))
          (of_contested e le ge valid rival) below before);
      pairs = c.note_pairs.ensures.pairs;
    }
