-- The lines from one number to another, one after another, and the draws of the blocks.
use Rattle.std.proofs.Common.{ℕ, suc, ◌≡◌, ◌<◌, ◌≤◌, ◌-◌, ◌+◌, ◌++◌, [], List, ap, sym, refl, ◌∙◌, append_assoc, arith}
use Rattle.std.proofs.lemmas.List.{append-nil}
use Rattle.std.specs.List.{flat_map, range_with_len}
use Rattle.sp_make.specs.Draws.{draw_count, parents_of, state_after, state_behind}
use Rattle.sp_make.specs.Made.{block_line, carried_text, line_of_block}

-- the lines of the numbers behind k up to n
abbrev pub lines_left : (ℕ → List ℕ) → ℕ → ℕ → List ℕ
lines_left line k n = flat_map line (range_with_len (k + 1) (n - k))

pub lines_start : (line : ℕ → List ℕ) (n : ℕ) → lines_left line 0 n ≡ flat_map line (range_with_len 1 n)
lines_start line n = let e : n - 0 ≡ n = omega arith in rw e refl

pub lines_more : (line : ℕ → List ℕ) (now next whole : List ℕ) (k n : ℕ) → k < n → now ++ lines_left line k n ≡ whole → next ≡ now ++ line (k + 1) → next ++ lines_left line (k + 1) n ≡ whole
lines_more line now next whole k n h e f =
    let count : n - k ≡ suc (n - (k + 1)) = omega arith in
    let step : lines_left line k n ≡ line (k + 1) ++ lines_left line (k + 1) n = rw count refl in
    ap (λ (t : List ℕ). t ++ lines_left line (k + 1) n) f ∙ append_assoc now (line (k + 1)) (lines_left line (k + 1) n) ∙ ap (λ (t : List ℕ). now ++ t) (sym step) ∙ e

pub lines_done : (line : ℕ → List ℕ) (now whole : List ℕ) (k n : ℕ) → n ≤ k → now ++ lines_left line k n ≡ whole → now ≡ whole
lines_done line now whole k n h e =
    let count : n - k ≡ 0 = omega arith in
    let none : lines_left line k n ≡ [] = rw count refl in
    sym (append-nil now) ∙ ap (λ (t : List ℕ). now ++ t) (sym none) ∙ e

-- the line and the state behind so many blocks are those of the next block

pub next_line : (n seed width done : ℕ) (now : List ℕ) → now ++ block_line (done + 1) (parents_of (done + 1) width (state_behind seed width done)) (carried_text n (done + 1)) ≡ now ++ line_of_block n seed width (done + 1)
next_line n seed width done now = let e : done + 1 - 1 ≡ done = omega arith in rw e refl

pub next_state : (seed width done : ℕ) → state_after (state_behind seed width done) (draw_count (done + 1) width) ≡ state_behind seed width (done + 1)
unfolding state_behind
next_state seed width done = let e : done + 1 ≡ suc done = omega arith in rw e refl
