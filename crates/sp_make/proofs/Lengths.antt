-- No line of a text is long, so no text is.
use Rattle.std.proofs.Common.{ℕ, zero, suc, ◌≡◌, ◌<◌, ◌≤◌, ◌-◌, ◌+◌, ◌*◌, ◌/◌, ◌%◌, ◌==◌, ◌&&◌, ◌++◌, ◌∷◌, [], List, length, Bool, true, false, min, max, codes, nat_le, if◌then◌else◌, ap, ◌∙◌, arith}
use Rattle.std.proofs.lemmas.List.{length-append}
use Rattle.std.proofs.Math.Nat.{mod-lt}
use Rattle.std.proofs.lemmas.Fmt.{length-decimal-le}
use Rattle.std.specs.Fmt.{decimal}
use Rattle.std.specs.List.{flat_map, range_with_len}
use Rattle.sp_make.specs.Draws.{once_ascending, parents_of, candidate_count, candidate, first_candidate, draw, state_behind}
use Rattle.sp_make.specs.Made.{block_line, block_name, carried_text, grant_line, line_of_block, lines_to, made, pair_count, spaced_name, tx_front, tx_back, tx_line, tx_lines}

pub joined : (a b : List ℕ) (m n : ℕ) → length a ≤ m → length b ≤ n → length (a ++ b) ≤ m + n
joined a b m n h k = rw (length-append a b) (omega arith)

pub decimal_short : (n : ℕ) → n < 1000 → length (decimal n) ≤ 3
decimal_short n h = length-decimal-le 3 n (omega arith) h (omega arith)

-- the lines for numbers from one on have the bounds of each, together
pub lines_short : (line : ℕ → List ℕ) (bound first count : ℕ) → ((k : ℕ) → first ≤ k → k < first + count → length (line k) ≤ bound) → length (flat_map line (range_with_len first count)) ≤ count * bound
lines_short line bound first zero h = omega arith
lines_short line bound first (suc count) h =
    let others = lines_short line bound (first + 1) count (λ k low high. h k (omega arith) (omega arith)) in
    let product : suc count * bound ≡ bound + count * bound = omega arith in
    rw product (joined (line first) (flat_map line (range_with_len (first + 1) count)) bound (count * bound) (h first (omega arith) (omega arith)) others)

pub grant_short : (k : ℕ) → k < 1000 → length (grant_line k) ≤ 23
unfolding grant_line
grant_short k h =
    let digits = decimal_short k h in
    let name = joined (codes "grant g") (decimal k) 7 3 (omega arith) digits in
    let amount = joined (codes "grant g" ++ decimal k) (codes " 100 to a") 10 9 name (omega arith) in
    let word = joined (codes "grant g" ++ decimal k ++ codes " 100 to a") (decimal k) 19 3 amount digits in
    joined (codes "grant g" ++ decimal k ++ codes " 100 to a" ++ decimal k) (10 ∷ []) 22 1 word (omega arith)

pub front_short : (letter k : ℕ) → k < 1000 → length (tx_front letter k) ≤ 19
unfolding tx_front
front_short letter k h =
    let digits = decimal_short k h in
    let name = joined (codes "tx " ++ letter ∷ []) (decimal k) 4 3 (omega arith) digits in
    let spends = joined (codes "tx " ++ letter ∷ [] ++ decimal k) (codes " spends g") 7 9 name (omega arith) in
    joined (codes "tx " ++ letter ∷ [] ++ decimal k ++ codes " spends g") (decimal k) 16 3 spends digits

pub back_short : (word k : ℕ) → k < 1000 → length (tx_back word k) ≤ 20
unfolding tx_back
back_short word k h =
    let name = joined (codes ".0 pays 100 to " ++ word ∷ []) (decimal k) 16 3 (omega arith) (decimal_short k h) in
    joined (codes ".0 pays 100 to " ++ word ∷ [] ++ decimal k) (10 ∷ []) 19 1 name (omega arith)

pub txs_short : (k : ℕ) → k < 1000 → length (tx_lines k) ≤ 78
txs_short k h =
    let one = joined (tx_front 112 k) (tx_back 120 k) 19 20 (front_short 112 k h) (back_short 120 k h) in
    let other = joined (tx_front 113 k) (tx_back 121 k) 19 20 (front_short 113 k h) (back_short 121 k h) in
    joined (tx_line 112 120 k) (tx_line 113 121 k) 39 39 one other

-- the longer of two texts bounds both
pub either_short : (test : Bool) (a b : List ℕ) (n : ℕ) → length a ≤ n → length b ≤ n → length (if test then a else b) ≤ n
either_short true a b n h k = h
either_short false a b n h k = k

pub name_short : (i : ℕ) → i < 1000 → length (block_name i) ≤ 4
unfolding block_name
name_short i h = let digits = decimal_short i h in either_short (i == 0) (codes "G") (98 ∷ decimal i) 4 (omega arith) (omega arith)

pub spaced_short : (i : ℕ) → i < 1000 → length (spaced_name i) ≤ 5
spaced_short i h = let name = name_short i h in omega arith

pub either_parents : (test : Bool) (one : ℕ) (two : List ℕ) → one < 1000 → length (flat_map spaced_name two) ≤ 10 → length (flat_map spaced_name (if test then one ∷ [] else two)) ≤ 10
either_parents true one two h k = joined (spaced_name one) [] 5 5 (spaced_short one h) (omega arith)
either_parents false one two h k = k

-- one parent or two
pub one_or_two : (test : Bool) (one low high : ℕ) → one < 1000 → low < 1000 → high < 1000 → length (flat_map spaced_name (if test then one ∷ [] else low ∷ high ∷ [])) ≤ 10
one_or_two true one low high h l g = joined (spaced_name one) [] 5 5 (spaced_short one h) (omega arith)
one_or_two false one low high h l g = joined (spaced_name low) (spaced_name high ++ []) 5 5 (spaced_short low l) (joined (spaced_name high) [] 5 0 (spaced_short high g) (omega arith))

pub once_short : (a b : ℕ) → a < 1000 → b < 1000 → length (flat_map spaced_name (once_ascending a b)) ≤ 10
once_short a b h k = one_or_two (a == b) a (min a b) (max a b) h (omega arith) (omega arith)

-- a candidate of a block comes before it
pub candidate_below : (i width number : ℕ) → 0 < i → 0 < width → candidate i width number < i
candidate_below i width number h k = let rest = mod-lt number {m = candidate_count i width} (omega arith) in omega arith

pub parents_short : (i width state : ℕ) → 0 < i → 0 < width → i < 1000 → length (flat_map spaced_name (parents_of i width state)) ≤ 10
unfolding parents_of
parents_short i width state h k few =
    let first = candidate_below i width (draw state 1) h k in
    let second = candidate_below i width (draw state 2) h k in
    either_parents (candidate_count i width == 1) (first_candidate i width) (once_ascending (candidate i width (draw state 1)) (candidate i width (draw state 2))) (omega arith)
    (once_short (candidate i width (draw state 1)) (candidate i width (draw state 2)) (omega arith) (omega arith))

pub carried_short : (n i : ℕ) → i < 900 → length (carried_text n i) ≤ 13
unfolding carried_text
carried_short n i h =
    let next = decimal_short ((i + 1) / 8) (omega arith) in
    let same = decimal_short (i / 8) (omega arith) in
    either_short (((i + 1) % 8 == 0) && nat_le ((i + 1) / 8) (pair_count n)) (codes " carries p" ++ decimal ((i + 1) / 8)) _ 13 (omega arith)
    (either_short ((i % 8 == 0) && nat_le (i / 8) (pair_count n)) (codes " carries q" ++ decimal (i / 8)) [] 13 (omega arith) (omega arith))

pub block_short : (i : ℕ) (parents carried : List ℕ) → i < 1000 → length (flat_map spaced_name parents) ≤ 10 → length carried ≤ 13 → length (block_line i parents carried) ≤ 37
unfolding block_line
block_short i parents carried h few short =
    let name = joined (codes "block ") (block_name i) 6 4 (omega arith) (name_short i h) in
    let on = joined (codes "block " ++ block_name i) (codes " on") 10 3 name (omega arith) in
    let names = joined (codes "block " ++ block_name i ++ codes " on") (flat_map spaced_name parents) 13 10 on few in
    joined (codes "block " ++ block_name i ++ codes " on" ++ flat_map spaced_name parents ++ carried) (10 ∷ []) 36 1 (joined (codes "block " ++ block_name i ++ codes " on" ++ flat_map spaced_name parents) carried 23 13 names short) (omega arith)

-- 63 grants, 63 pairs of transactions and 511 blocks
pub made_short : (n seed width : ℕ) → n ≤ 511 → 0 < width → length (made n seed width) ≤ 131072
made_short n seed width h k =
    let pairs = pair_count n in
    let grants = lines_short grant_line 23 1 pairs (λ i low high. grant_short i (omega arith)) in
    let txs = lines_short tx_lines 78 1 pairs (λ i low high. txs_short i (omega arith)) in
    let blocks =
    lines_short (line_of_block n seed width) 37 1 n
    (λ i low high.
    block_short i (parents_of i width (state_behind seed width (i - 1))) (carried_text n i) (omega arith) (parents_short i width (state_behind seed width (i - 1)) (omega arith) k (omega arith))
    (carried_short n i (omega arith)))
    in
    let front = joined (lines_to pairs grant_line) (lines_to pairs tx_lines) (pairs * 23) (pairs * 78) grants txs in
    let all = joined (lines_to pairs grant_line ++ lines_to pairs tx_lines) (lines_to n (line_of_block n seed width)) (pairs * 23 + pairs * 78) (n * 37) front blocks in
    omega (arith, all)

pub written_short : (text grants txs : List ℕ) (n seed width : ℕ) → n ≤ 511 → 0 < width → grants ≡ lines_to (pair_count n) grant_line → txs ≡ grants ++ lines_to (pair_count n) tx_lines → text ≡ txs ++ lines_to n (line_of_block n seed width) → length text ≤ 131072
written_short text grants txs n seed width h k e f g =
    let front : txs ≡ lines_to (pair_count n) grant_line ++ lines_to (pair_count n) tx_lines = f ∙ ap (λ (t : List ℕ). t ++ lines_to (pair_count n) tx_lines) e in
    let whole : text ≡ made n seed width = g ∙ ap (λ (t : List ℕ). t ++ lines_to n (line_of_block n seed width)) front in
    rw whole (made_short n seed width h k)
