-- Blocks that are released one by one, at a place of their list.
use Rattle.std.proofs.Common.{◌≡◌, ℕ, suc, ◌+◌, ◌<◌, List, [], ◌∷◌, ◌++◌, length, get_or, take, drop, sym, ap, subst, ◌∙◌, append_assoc, arith}
use Rattle.std.proofs.Math.Seq.{take-suc}
use Rattle.std.proofs.lemmas.List.{drop_more}
use Rattle.sp_block.specs.Block.{ReadBlock}
use Rattle.sp_pool.specs.Kept.{IsNext, Releases}

parts : (kept : List ReadBlock) (set : List ℕ) (id : ℕ) (ids : List ℕ) → Releases kept set (id ∷ ids) → IsNext kept set id × Releases kept (set ++ id ∷ []) ids
unfolding Releases
parts kept set id ids h = h

pub next_of : (kept : List ReadBlock) (set ids : List ℕ) (i : ℕ) (id : ℕ) → Releases kept set (drop i ids) → i < length ids → id ≡ get_or ids i id → IsNext kept set id
next_of kept set ids i id h le is =
    let more : Releases kept set (get_or ids i id ∷ drop (i + 1) ids) = subst (λ (l : List ℕ). Releases kept set l) (drop_more ids i id le) h in
    subst (λ (k : ℕ). IsNext kept set k) (sym is) (parts kept set (get_or ids i id) (drop (i + 1) ids) more).0

pub rest_of : (kept : List ReadBlock) (set : List ℕ) (ids : List ℕ) (i : ℕ) (id : ℕ) (now : List ℕ) → Releases kept set (drop i ids) → i < length ids → id ≡ get_or ids i id → now ≡ set ++ id ∷ [] → Releases kept now (drop (i + 1) ids)
rest_of kept set ids i id now h le is e =
    let more : Releases kept set (get_or ids i id ∷ drop (i + 1) ids) = subst (λ (l : List ℕ). Releases kept set l) (drop_more ids i id le) h in
    subst (λ (l : List ℕ). Releases kept l (drop (i + 1) ids)) (ap (λ (k : ℕ). set ++ k ∷ []) (sym is) ∙ sym e) (parts kept set (get_or ids i id) (drop (i + 1) ids) more).1

pub more_ids : (before set now ids : List ℕ) (i id : ℕ) → set ≡ before ++ take i ids → i < length ids → id ≡ get_or ids i id → now ≡ set ++ id ∷ [] → now ≡ before ++ take (i + 1) ids
more_ids before set now ids i id are le is e =
    let taken : take (i + 1) ids ≡ take i ids ++ get_or ids i id ∷ [] = ap (λ (n : ℕ). take n ids) (let s : i + 1 ≡ suc i = omega arith in s) ∙ take-suc ids i id le in
    e ∙ ap (λ (s : List ℕ). s ++ id ∷ []) are ∙ append_assoc before (take i ids) (id ∷ []) ∙ ap (λ (l : List ℕ). before ++ l) (ap (λ (k : ℕ). take i ids ++ k ∷ []) is ∙ sym taken)
