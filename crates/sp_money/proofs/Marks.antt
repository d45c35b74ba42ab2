-- The flags of a transaction's outputs are those of the transaction, where it turns.
use Rattle.std.proofs.Common.{◌≡◌, ℕ, zero, suc, ◌+◌, ◌-◌, ◌<◌, ◌≤◌, Bool, List, [], ◌∷◌, ◌++◌, map, set, length, refl, ap, ◌∙◌, add-one, arith}
use Rattle.std.specs.Prelude.{flat_map, slice_index, slice_index_or}
use Rattle.std.proofs.lemmas.List.{length-append}
use Rattle.sp_tx.specs.declared.parts.Output.{Output}
use Rattle.sp_tx.specs.Parts.{Transaction, of_parts}
use Rattle.sp_money.specs.Held.{lives, starts_from}
use Rattle.sp_money.specs.Places.{marked}
use Rattle.sp_money.proofs.Standing.{starts_least}

-- no flag is set
pub marked_zero : (xs : List Bool) (start : ℕ) (now : Bool) → marked xs start 0 now ≡ xs
marked_zero [] start now = refl
marked_zero (x ∷ xs) zero now = refl
marked_zero (x ∷ xs) (suc start) now = ap (λ (bs : List Bool). x ∷ bs) (marked_zero xs start now)

marked_next : (xs : List Bool) (start count : ℕ) (now : Bool) → marked xs start (suc count) now ≡ set (marked xs start count now) (start + count) now
marked_next [] start count now = refl
marked_next (x ∷ xs) (suc start) count now =
    let at : suc start + count ≡ suc (start + count) = omega arith in
    rw (at, marked_next xs start count now) refl
marked_next (x ∷ xs) zero zero now = let at : 0 + 0 ≡ 0 = refl in rw (marked_zero xs 0 now) refl
marked_next (x ∷ xs) zero (suc count) now =
    let at : 0 + suc count ≡ suc (0 + count) = omega arith in
    rw (at, marked_next xs 0 count now) refl

-- one more flag is set
pub marked_more : (xs : List Bool) (start count : ℕ) (now : Bool) → marked xs start (count + 1) now ≡ set (marked xs start count now) (start + count) now
marked_more xs start count now = rw add-one (marked_next xs start count now)

marked_behind : (xs ys : List Bool) (start at count : ℕ) (now : Bool) → at ≡ length xs + start → marked (xs ++ ys) at count now ≡ xs ++ marked ys start count now
marked_behind [] ys start at count now e = let same : at ≡ start = omega arith in rw same refl
marked_behind (x ∷ xs) ys start zero count now e = absurd (omega arith)
marked_behind (x ∷ xs) ys start (suc at) count now e = ap (λ (bs : List Bool). x ∷ bs) (marked_behind xs ys start at count now (omega arith))

marked_block : (os : List Output) (was now : Bool) (ys : List Bool) (count : ℕ) → count ≡ length os
    → marked (map (λ (o : Output). was) os ++ ys) 0 count now ≡ map (λ (o : Output). now) os ++ ys
marked_block [] was now ys count e = let none : count ≡ 0 = e in rw none (marked_zero ys 0 now)
marked_block (o ∷ os) was now ys zero e = absurd (omega arith)
marked_block (o ∷ os) was now ys (suc count) e = ap (λ (bs : List Bool). now ∷ bs) (marked_block os was now ys count (omega arith))

map_long : (os : List Output) (was : Bool) → length (map (λ (o : Output). was) os) ≡ length os
map_long [] was = refl
map_long (o ∷ os) was = ap suc (map_long os was)

lives_from : (txs : List Transaction) (flags : List Bool) (first n start : ℕ) (now : Bool) → length flags ≡ length txs → n < length txs
    → first + start ≡ slice_index (starts_from first txs) n
    → marked (lives txs flags) start (length (slice_index_or txs n (of_parts [] [])).outputs) now ≡ lives txs (set flags n now)
lives_from [] flags first n start now long lt e = absurd (omega arith)
lives_from (t ∷ ts) [] first n start now long lt e = absurd (omega arith)
lives_from (t ∷ ts) (b ∷ flags) first zero start now long lt e =
    let none : start ≡ 0 = omega arith in
    rw none (marked_block t.outputs b now (lives ts flags) (length t.outputs) refl)
lives_from (t ∷ ts) (b ∷ flags) first (suc n) start now long lt e =
    let least : first + length t.outputs ≤ slice_index (starts_from (first + length t.outputs) ts) n =
    starts_least (first + length t.outputs) ts n (omega arith) in
    let size : length (map (λ (o : Output). b) t.outputs) ≡ length t.outputs = map_long t.outputs b in
    marked_behind (map (λ (o : Output). b) t.outputs) (lives ts flags) (start - length t.outputs) start
    (length (slice_index_or ts n (of_parts [] [])).outputs) now (omega arith)
    ∙ ap (λ (bs : List Bool). map (λ (o : Output). b) t.outputs ++ bs)
    (lives_from ts flags (first + length t.outputs) n (start - length t.outputs) now (omega arith) (omega arith) (omega arith))

-- the outputs of the transaction of a number get its new flag
pub lives_turned : (txs : List Transaction) (flags : List Bool) (n start : ℕ) (now : Bool) → length flags ≡ length txs → n < length txs
    → start ≡ slice_index (starts_from 0 txs) n
    → marked (lives txs flags) start (length (slice_index_or txs n (of_parts [] [])).outputs) now ≡ lives txs (set flags n now)
lives_turned txs flags n start now long lt e = lives_from txs flags 0 n start now long lt (omega arith)

-- all outputs of a transaction have places
pub starts_most : (txs : List Transaction) (first n : ℕ) → n < length txs
    → slice_index (starts_from first txs) n + length (slice_index_or txs n (of_parts [] [])).outputs ≤ first + length (flat_map (λ (t : Transaction). t.outputs) txs)
starts_most [] first n lt = absurd (omega arith)
starts_most (t ∷ ts) first zero lt = let l : length (t.outputs ++ flat_map (λ (t : Transaction). t.outputs) ts) ≡ length t.outputs + length (flat_map (λ (t : Transaction). t.outputs) ts) = length-append t.outputs _ in omega arith
starts_most (t ∷ ts) first (suc n) lt =
    let l : length (t.outputs ++ flat_map (λ (t : Transaction). t.outputs) ts) ≡ length t.outputs + length (flat_map (λ (t : Transaction). t.outputs) ts) = length-append t.outputs _ in
    let r : slice_index (starts_from (first + length t.outputs) ts) n + length (slice_index_or ts n (of_parts [] [])).outputs
    ≤ first + length t.outputs + length (flat_map (λ (t : Transaction). t.outputs) ts) = starts_most ts (first + length t.outputs) n (omega arith) in
    omega arith

pub lives_long : (txs : List Transaction) (flags : List Bool) → length flags ≡ length txs
    → length (lives txs flags) ≡ length (flat_map (λ (t : Transaction). t.outputs) txs)
lives_long [] flags long = refl
lives_long (t ∷ ts) [] long = absurd (omega arith)
lives_long (t ∷ ts) (b ∷ flags) long =
    let l : length (t.outputs ++ flat_map (λ (t : Transaction). t.outputs) ts) ≡ length t.outputs + length (flat_map (λ (t : Transaction). t.outputs) ts) = length-append t.outputs _ in
    let m : length (map (λ (o : Output). b) t.outputs ++ lives ts flags) ≡ length (map (λ (o : Output). b) t.outputs) + length (lives ts flags) =
    length-append (map (λ (o : Output). b) t.outputs) (lives ts flags) in
    let size : length (map (λ (o : Output). b) t.outputs) ≡ length t.outputs = map_long t.outputs b in
    let rest : length (lives ts flags) ≡ length (flat_map (λ (t : Transaction). t.outputs) ts) = lives_long ts flags (omega arith) in
    omega arith
