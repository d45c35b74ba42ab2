-- A text of a line for each element of a list: those that are left to be written.
use Rattle.std.proofs.Common.{◌≡◌, ℕ, ◌+◌, ◌<◌, ◌≤◌, List, ◌++◌, length, drop, get_or, sym, ap, ◌∙◌}
use Rattle.std.specs.List.{flat_map}
use Rattle.std.proofs.lemmas.List.{append-nil, at_drop_more, drop_all}
use Rattle.std.proofs.lemmas.List.Concat.{flat_map-cons}

-- the next line, and then the others
pub line_next : (f : ℕ → List ℕ) (xs : List ℕ) (i x : ℕ) (line : List ℕ) → i < length xs → x ≡ get_or xs i x → line ≡ f x
    → flat_map f (drop i xs) ≡ line ++ flat_map f (drop (i + 1) xs)
line_next f xs i x line h is e =
    let rest = flat_map f (drop (i + 1) xs) in
    at_drop_more (flat_map f) xs i x h ∙ flat_map-cons f (get_or xs i x) (drop (i + 1) xs)
    ∙ ap (λ (z : ℕ). f z ++ rest) (sym is) ∙ ap (λ t. t ++ rest) (sym e)

-- none is left
pub no_line : (f : ℕ → List ℕ) (xs : List ℕ) (i : ℕ) (page : List ℕ) → length xs ≤ i → page ++ flat_map f (drop i xs) ≡ page
no_line f xs i page h = ap (λ (l : List ℕ). page ++ flat_map f l) (drop_all i xs h) ∙ append-nil page
