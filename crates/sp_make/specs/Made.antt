-- The scenario that a number of blocks, a seed and a width make.
use Rattle.std.specs.Prelude.{ℕ, ◌+◌, ◌-◌, ◌/◌, ◌%◌, ◌==◌, ◌&&◌, nat_le, if◌then◌else◌, List, [], ◌∷◌, ◌++◌, codes}
use Rattle.std.specs.Fmt.{decimal}
use Rattle.std.specs.List.{flat_map, range_with_len}
use Rattle.sp_make.specs.Draws.{parents_of, state_behind}

-- each eight blocks carry two transactions that spend one grant
abbrev pub pair_count : ℕ → ℕ
pair_count n = n / 8

-- `grant g<k> 100 to a<k>`
unfoldable pub grant_line : ℕ → List ℕ
grant_line k = codes "grant g" ++ decimal k ++ codes " 100 to a" ++ decimal k ++ 10 ∷ []

-- `tx p<k> spends g<k>.0 pays 100 to x<k>`, by the letters of the transaction and of the word

unfoldable pub tx_front : ℕ → ℕ → List ℕ
tx_front letter k = codes "tx " ++ letter ∷ [] ++ decimal k ++ codes " spends g" ++ decimal k

unfoldable pub tx_back : ℕ → ℕ → List ℕ
tx_back word k = codes ".0 pays 100 to " ++ word ∷ [] ++ decimal k ++ 10 ∷ []

abbrev pub tx_line : ℕ → ℕ → ℕ → List ℕ
tx_line letter word k = tx_front letter k ++ tx_back word k

-- `p` pays to `x`, and `q` to `y`
abbrev pub tx_lines : ℕ → List ℕ
tx_lines k = tx_line 112 120 k ++ tx_line 113 121 k

-- block 0 is `G`
unfoldable pub block_name : ℕ → List ℕ
block_name i = if i == 0 then codes "G" else 98 ∷ decimal i

abbrev pub spaced_name : ℕ → List ℕ
spaced_name i = 32 ∷ block_name i

-- ` carries p<k>` behind block 8k - 1, and ` carries q<k>` behind block 8k, for each pair
unfoldable pub carried_text : ℕ → ℕ → List ℕ
carried_text n i =
    if ((i + 1) % 8 == 0) && nat_le ((i + 1) / 8) (pair_count n) then codes " carries p" ++ decimal ((i + 1) / 8)
    else if (i % 8 == 0) && nat_le (i / 8) (pair_count n) then codes " carries q" ++ decimal (i / 8)
    else []

-- `block b<i> on PARENTS`, and what the block carries
unfoldable pub block_line : ℕ → List ℕ → List ℕ → List ℕ
block_line i parents carried = codes "block " ++ block_name i ++ codes " on" ++ flat_map spaced_name parents ++ carried ++ 10 ∷ []

-- the line of a block, whose draws come behind those of the blocks before it
abbrev pub line_of_block : ℕ → ℕ → ℕ → ℕ → List ℕ
line_of_block n seed width i = block_line i (parents_of i width (state_behind seed width (i - 1))) (carried_text n i)

-- the lines for all numbers from 1 to another
abbrev pub lines_to : ℕ → (ℕ → List ℕ) → List ℕ
lines_to last line = flat_map line (range_with_len 1 last)

-- the text
abbrev pub made : ℕ → ℕ → ℕ → List ℕ
made n seed width = lines_to (pair_count n) grant_line ++ lines_to (pair_count n) tx_lines ++ lines_to n (line_of_block n seed width)
