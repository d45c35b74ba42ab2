-- How many bytes a draft has.
use Rattle.std.proofs.Common.{◌≡◌, ℕ, suc, ◌+◌, ◌*◌, Bool, true, false, cond, List, [], ◌∷◌, ◌++◌, length, nat_le, refl, ap, ◌∙◌, arith}
use Rattle.std.specs.Int.{w16, to_le_bytes}
use Rattle.std.specs.List.{flat_map}
use Rattle.std.proofs.lemmas.List.{length-append}
use Rattle.std.proofs.lemmas.List.Concat.{flat_map-cons}
use Rattle.sp_ids.specs.Digits.{length-bytes_of}
use Rattle.sp_ids.specs.Key.{bytes_of}
use Rattle.sp_tx.specs.Spelling.{spelling}
use Rattle.sp_block.specs.declared.draft.Draft.{Draft}
use Rattle.sp_block.specs.Ascending.{ascending, put_in}
use Rattle.sp_block.specs.Draft.{drafted, draft_text}
use Rattle.sp_block.specs.Format.{Parts}
use Rattle.sp_block.specs.Spelling.{block_text}

length-put_in : (x : ℕ) (ys : List ℕ) → length (put_in x ys) ≡ suc (length ys)
length-put_in x [] = refl
length-put_in x (y ∷ ys) = at (nat_le x y) (length-put_in x ys)
  where
    at : (c : Bool) → length (put_in x ys) ≡ suc (length ys) → length (cond c (x ∷ y ∷ ys) (y ∷ put_in x ys)) ≡ suc (suc (length ys))
    at true rest = refl
    at false rest = ap suc rest

length-ascending : (xs : List ℕ) → length (ascending xs) ≡ length xs
unfolding ascending
length-ascending [] = refl
length-ascending (x ∷ xs) = length-put_in x (ascending xs) ∙ ap suc (length-ascending xs)

length-ids : (ids : List ℕ) → length (flat_map bytes_of ids) ≡ 32 * length ids
length-ids [] = refl
length-ids (id ∷ ids) =
    let all = ap length (flat_map-cons bytes_of id ids) ∙ length-append (bytes_of id) (flat_map bytes_of ids) in
    omega (arith, all, length-bytes_of id, length-ids ids)

length-block_text : (p : Parts) → length (block_text p) ≡ 20 + 32 * length p.parents + length (flat_map spelling p.txs)
length-block_text p = omega (arith, length-append (flat_map bytes_of p.parents) (to_le_bytes w16 (length p.txs) ++ flat_map spelling p.txs), length-ids p.parents)

pub length-draft_text : (draft : Draft) (nonce : ℕ) → length (draft_text draft nonce) ≡ 20 + 32 * length draft.parents + length (flat_map spelling draft.txs)
length-draft_text draft nonce = omega (arith, length-block_text (drafted draft nonce), length-ascending draft.parents)
