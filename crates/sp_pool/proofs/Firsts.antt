-- The kept blocks are the first 512 of genesis and the arrivals, each id counted once.
use Rattle.std.proofs.Common.{◌≡◌, ℕ, zero, suc, ◌+◌, ◌-◌, ◌<◌, ◌≤◌, Bool, true, false, List, [], ◌∷◌, ◌++◌, append_assoc, append-nil, length, length-append, take, refl, sym, ap, ◌∙◌, inl, inr, arith}
use Rattle.std.specs.Prelude.{if◌then◌else◌}
use Rattle.std.proofs.lemmas.Bool.{cases_lt}
use Rattle.std.proofs.lemmas.List.{map-append}
use Rattle.sp_block.specs.Block.{ReadBlock}
use Rattle.sp_model.specs.Graph.{has}
use Rattle.sp_pool.specs.Kept.{firsts, ids_of, keep, keep_all, kept_by, kept_of}
use Rattle.sp_pool.proofs.Standings.{Fresh-standing, Full-standing, Known-standing}

-- so many of a list, where there is room for one
take_one : (n m : ℕ) (b : ReadBlock) (bs : List ReadBlock) → n ≡ m + 1 → take n (b ∷ bs) ≡ b ∷ take m bs
take_one zero m b bs e = absurd (omega arith)
take_one (suc n) m b bs e = (let same : n ≡ m = omega arith in ap (λ (k : ℕ). b ∷ take k bs) same)

take_none : (n : ℕ) (bs : List ReadBlock) → n ≡ 0 → take n bs ≡ []
take_none zero bs e = refl
take_none (suc n) bs e = absurd (omega arith)

pub keep_all_firsts : (kept arrivals : List ReadBlock) → keep_all kept arrivals ≡ kept ++ take (512 - length kept) (firsts (ids_of kept) arrivals)
keep_all_firsts kept [] = at (512 - length kept)
  where
    at : (n : ℕ) → kept ≡ kept ++ take n []
    at zero = sym (append-nil kept)
    at (suc n) = sym (append-nil kept)
keep_all_firsts kept (b ∷ bs) =
    at (has (ids_of kept) b.id) refl (keep_all_firsts kept bs) (keep_all_firsts (kept ++ b ∷ []) bs)
  where
    stays : keep kept b ≡ kept → (c : Bool) → keep_all kept bs ≡ kept ++ take (512 - length kept) (firsts (ids_of kept) bs) → c ≡ true
        → keep_all (keep kept b) bs ≡ kept ++ take (512 - length kept) (if c then firsts (ids_of kept) bs else (b ∷ firsts (ids_of kept ++ b.id ∷ []) bs))
    stays same true rest e = ap (λ (k : List ReadBlock). keep_all k bs) same ∙ rest
    stays same false rest e = absurd (cc)

    joins : keep kept b ≡ kept ++ b ∷ [] → length kept < 512 → keep_all (kept ++ b ∷ []) bs ≡ (kept ++ b ∷ []) ++ take (512 - length (kept ++ b ∷ [])) (firsts (ids_of (kept ++ b ∷ [])) bs)
        → keep_all (keep kept b) bs ≡ kept ++ take (512 - length kept) (b ∷ firsts (ids_of kept ++ b.id ∷ []) bs)
    joins now room rest =
        let ids : ids_of (kept ++ b ∷ []) ≡ ids_of kept ++ b.id ∷ [] = map-append (λ (x : ReadBlock). x.id) kept (b ∷ []) in
        let more : 512 - length kept ≡ (512 - length (kept ++ b ∷ [])) + 1 = omega (arith, room, length-append kept (b ∷ [])) in
        ap (λ (k : List ReadBlock). keep_all k bs) now ∙ rest ∙ append_assoc kept (b ∷ []) (take (512 - length (kept ++ b ∷ [])) (firsts (ids_of (kept ++ b ∷ [])) bs))
        ∙ ap (λ (l : List ℕ). kept ++ b ∷ take (512 - length (kept ++ b ∷ [])) (firsts l bs)) ids
        ∙ ap (λ (l : List ReadBlock). kept ++ l) (sym (take_one (512 - length kept) (512 - length (kept ++ b ∷ [])) b (firsts (ids_of kept ++ b.id ∷ []) bs) more))

    full : keep kept b ≡ kept → 512 ≤ length kept → keep_all kept bs ≡ kept ++ take (512 - length kept) (firsts (ids_of kept) bs)
        → keep_all (keep kept b) bs ≡ kept ++ take (512 - length kept) (b ∷ firsts (ids_of kept ++ b.id ∷ []) bs)
    full same more rest =
        let none : 512 - length kept ≡ 0 = omega (arith, more) in
        ap (λ (k : List ReadBlock). keep_all k bs) same ∙ rest
        ∙ ap (λ (l : List ReadBlock). kept ++ l)
        (take_none (512 - length kept) (firsts (ids_of kept) bs) none ∙ sym (take_none (512 - length kept) (b ∷ firsts (ids_of kept ++ b.id ∷ []) bs) none))

    at : (c : Bool) → has (ids_of kept) b.id ≡ c → keep_all kept bs ≡ kept ++ take (512 - length kept) (firsts (ids_of kept) bs)
        → keep_all (kept ++ b ∷ []) bs ≡ (kept ++ b ∷ []) ++ take (512 - length (kept ++ b ∷ [])) (firsts (ids_of (kept ++ b ∷ [])) bs)
        → keep_all (keep kept b) bs ≡ kept ++ take (512 - length kept) (if c then firsts (ids_of kept) bs else (b ∷ firsts (ids_of kept ++ b.id ∷ []) bs))
    at true e same more = stays (ap (λ s. kept_by s kept b) (sym (Known-standing kept b.id e))) true same refl
    at false e same more =
        elim (cases_lt (length kept) 512) [
          | inl room ↦ joins (ap (λ s. kept_by s kept b) (sym (Fresh-standing kept b.id e room))) room more
          | inr none ↦ full (ap (λ s. kept_by s kept b) (sym (Full-standing kept b.id e none))) none same
        ]

pub kept_are_the_first : (genesis : ReadBlock) (arrivals : List ReadBlock) → kept_of genesis arrivals ≡ take 512 (firsts [] (genesis ∷ arrivals))
kept_are_the_first genesis arrivals = keep_all_firsts (genesis ∷ []) arrivals
