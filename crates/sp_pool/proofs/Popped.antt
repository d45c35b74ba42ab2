-- A table of blocks without its last one and without marks.
use Rattle.std.proofs.Common.{◌≡◌, ℕ, ◌-◌, Bool, false, List, length, min, replicate, sym, ap, take, ◌∙◌}
use Rattle.std.specs.Map.{keys_of, values_of}
use Rattle.std.proofs.lemmas.List.{length-take, take-map}
use Rattle.sp_block.specs.Block.{ReadBlock}
use Rattle.sp_pool.specs.Kept.{ids_of}
use Rattle.sp_pool.specs.Marks.{marked, Marked, unmarked}

pub values-take : (n : ℕ) (es : List (ℕ × ReadBlock)) → values_of (take n es) ≡ take n (values_of es)
values-take n es = sym (take-map (λ (e : ℕ × ReadBlock). e.1) n es)

-- each of the first ones stands under its own id
pub keyed-take : (n : ℕ) (es : List (ℕ × ReadBlock)) → keys_of es ≡ ids_of (values_of es) → keys_of (take n es) ≡ ids_of (values_of (take n es))
keyed-take n es keyed =
    sym (take-map (λ (e : ℕ × ReadBlock). e.0) n es) ∙ ap (take n) keyed ∙ take-map (λ (b : ReadBlock). b.id) n (values_of es)
    ∙ ap ids_of (sym (values-take n es))

pub same_length : {A B : Type 0} (n : ℕ) (xs : List A) (ys : List B) → length xs ≡ length ys → length (take n xs) ≡ length (take n ys)
same_length n xs ys same = length-take n xs ∙ ap (min n) same ∙ sym (length-take n ys)

pub popped : (m : Marked) (blocks : List ReadBlock) (marks : List Bool) (seen : List ℕ) → blocks ≡ take (length m.blocks - 1) m.blocks
    → marks ≡ replicate (length blocks) false → seen ≡ replicate (length blocks) 0 → marked blocks marks seen ≡ unmarked (take (length m.blocks - 1) m.blocks)
popped m blocks marks seen by_block by_mark by_seen = rw (by_mark, by_seen) (ap unmarked by_block)
