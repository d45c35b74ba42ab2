-- The words of one row in a chunk, and a chunk that is filled with zeros.
use Rattle.std.proofs.Common.{◌≡◌, ℕ, zero, suc, ◌+◌, ◌*◌, ◌≤◌, List, [], ◌∷◌, ◌++◌, length, take, drop, replicate, refl, sym, ap, ◌∙◌, arith, add-one, length-append}
use Rattle.std.specs.List.{refill, length_refill}
use Rattle.std.proofs.lemmas.List.{length-take, length-drop}
use Rattle.sp_rows.specs.Rows.{row_of, with_row_of}

pub length-row_of : (ws : List ℕ) (row : ℕ) → 8 * row + 8 ≤ length ws → length (row_of ws row) ≡ 8
length-row_of ws row within = omega (arith, length-take 8 (drop (8 * row) ws), length-drop (8 * row) ws)

pub length-with_row_of : (ws own : List ℕ) (row : ℕ) → 8 * row + 8 ≤ length ws → length (with_row_of ws row own) ≡ length ws
length-with_row_of ws own row within =
    omega (
      arith,
      length-append (take (8 * row) ws) (refill 8 (row_of ws row) own ++ drop (8 * row + 8) ws),
      length-append (refill 8 (row_of ws row) own) (drop (8 * row + 8) ws),
      sym (length_refill 8 (row_of ws row) own (sym (length-row_of ws row within))),
      length-take (8 * row) ws,
      length-drop (8 * row + 8) ws,
    )

-- one zero more
abbrev zeros : ℕ → List ℕ
zeros n = replicate n 0

pub zeros-more : (n : ℕ) → zeros n ++ 0 ∷ [] ≡ zeros (n + 1)
zeros-more n = more n ∙ ap zeros (sym (add-one n))
  where
    more : (n : ℕ) → zeros n ++ 0 ∷ [] ≡ zeros (suc n)
    more zero = refl
    more (suc n) = ap (λ (l : List ℕ). 0 ∷ l) (more n)
