use Rattle.std.proofs.Common.{refl, ◌∙◌, ◌++◌, ◌+◌, List, ℕ, ap}
use Rattle.sp_make.specs.Draws.{draw_count, parents_of, state_after, state_behind}
use Rattle.sp_make.specs.Made.{block_line, carried_text, line_of_block, lines_to}
use Rattle.sp_make.proofs.Steps.{lines_start, lines_more, next_line, next_state}
use Rattle.sp_make.proofs.text.put_blocks.Goals as goal

pub loop-done-init : goal.loop-done-init
unfolding state_behind
loop-done-init c = (ap (λ (t : List ℕ). c.args.out.now.items ++ t) (lines_start (line_of_block c.args.n c.args.seed c.args.width) c.args.n), refl)

pub loop-done-preserved : goal.loop-done-preserved
loop-done-preserved c =
    let number = c.loop-done.done + 1 in
    let now = c.loop-done.out.items in
    let line = line_of_block c.args.n c.args.seed c.args.width in
    let parents = c.draw_parents-parents.ensures.parents ∙ ap (λ state. parents_of number c.args.width state) c.loop-done.invariant.1 in
    let written = c.in_ok-put_block.ensures ∙ ap (λ (ps : List ℕ). now ++ block_line number ps (carried_text c.args.n number)) parents in
    let state = c.draw_parents-parents.ensures.state ∙ ap (λ state. state_after state (draw_count number c.args.width)) c.loop-done.invariant.1 in (
      lines_more line now c.put_block.new.out.items (c.args.out.now.items ++ lines_to c.args.n line) c.loop-done.done c.args.n c.loop-done-test.true c.loop-done.invariant.0
          (written ∙ next_line c.args.n c.args.seed c.args.width c.loop-done.done now),
      state ∙ next_state c.args.seed c.args.width c.loop-done.done,
    )
