-- The lines of pairs, block by block.
use Rattle.std.proofs.Common.{◌≡◌, ℕ, ◌+◌, ◌*◌, ◌<◌, ◌≤◌, suc, List, [], ◌∷◌, ◌++◌, length, length-append, map, drop, get_or, refl, sym, ap, ◌∙◌, arith}
use Rattle.std.specs.List.{flat_map}
use Rattle.std.proofs.lemmas.Grind.{flat_map-append}
use Rattle.std.proofs.lemmas.List.{append-nil, at_drop_more, drop_all}
use Rattle.std.proofs.lemmas.List.Folds.{flat_map-map}
use Rattle.sp_block.specs.Block.{ReadBlock}
use Rattle.sp_model.specs.declared.profile.Profile.{Profile}
use Rattle.sp_names.specs.Labels.{AllLabels}
use Rattle.sp_report.specs.Texts.{pair_text, pairs_of, votes_text}

-- those of all pairs
abbrev pub all_votes : Profile → AllLabels → List ReadBlock → List ℕ → List ℕ
all_votes profile labels kept ids = flat_map (pair_text profile labels kept) (pairs_of ids)

pairs_step : (profile : Profile) (labels : AllLabels) (kept : List ReadBlock) (x : ℕ) (xs : List ℕ) → all_votes profile labels kept (x ∷ xs) ≡ votes_text profile labels kept x xs ++ all_votes profile labels kept xs
unfolding pairs_of
pairs_step profile labels kept x xs =
    flat_map-append (pair_text profile labels kept) (map (λ y. (x, y)) xs) (pairs_of xs)
    ∙ ap (λ t. t ++ all_votes profile labels kept xs) (flat_map-map (pair_text profile labels kept) (λ y. (x, y)) xs)

-- those of the first block that is left with each behind it, and then the others
pub pairs_next : (profile : Profile) (labels : AllLabels) (kept : List ReadBlock) (ids : List ℕ) (i d x : ℕ) (others : List ℕ) → i < length ids → x ≡ get_or ids i d → others ≡ drop (i + 1) ids
    → all_votes profile labels kept (drop i ids) ≡ votes_text profile labels kept x others ++ all_votes profile labels kept (drop (i + 1) ids)
pairs_next profile labels kept ids i d x others h is e =
    let rest = all_votes profile labels kept (drop (i + 1) ids) in
    at_drop_more (all_votes profile labels kept) ids i d h ∙ pairs_step profile labels kept (get_or ids i d) (drop (i + 1) ids)
    ∙ ap (λ (z : ℕ). votes_text profile labels kept z (drop (i + 1) ids) ++ rest) (sym is) ∙ ap (λ (zs : List ℕ). votes_text profile labels kept x zs ++ rest) (sym e)

-- none is left
pub no_votes : (profile : Profile) (labels : AllLabels) (kept : List ReadBlock) (ids : List ℕ) (i : ℕ) (page : List ℕ) → length ids ≤ i → page ++ all_votes profile labels kept (drop i ids) ≡ page
unfolding pairs_of
no_votes profile labels kept ids i page h = ap (λ (l : List ℕ). page ++ all_votes profile labels kept l) (drop_all i ids h) ∙ append-nil page

-- ---- how many pairs there are

with_each : (x : ℕ) (xs : List ℕ) → length {A = ℕ × ℕ} (map (λ (y : ℕ). (x, y)) xs) ≡ length xs
with_each x [] = refl
with_each x (y ∷ ys) = ap suc (with_each x ys)

pub pair_count : (xs : List ℕ) → length (pairs_of xs) + length (pairs_of xs) + length xs ≡ length xs * length xs
unfolding pairs_of
pair_count [] = refl
pair_count (x ∷ xs) =
    let more : length {A = ℕ × ℕ} (map (λ y. (x, y)) xs ++ pairs_of xs) ≡ length xs + length (pairs_of xs) =
    length-append (map (λ y. (x, y)) xs) (pairs_of xs) ∙ ap (λ n. n + length (pairs_of xs)) (with_each x xs) in
    omega (arith, more, pair_count xs)
