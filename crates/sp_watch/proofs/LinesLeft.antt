-- A text for each element of a list: those that are left to be written.
use Rattle.std.proofs.Common.{◌≡◌, ℕ, zero, suc, ◌+◌, ◌<◌, ◌≤◌, List, [], ◌∷◌, ◌++◌, length, drop, get_or, Option, refl, ap, subst, ◌∙◌, arith}
use Rattle.std.specs.Io.KnownBytes.{Appends}
use Rattle.std.specs.List.{flat_map}
use Rattle.sp_io.specs.Whole.{AppendsFront, Wrote}
use Rattle.sp_io.proofs.Writing.{wrote_more, wrote_stops}
use Rattle.std.proofs.lemmas.List.{at_drop_more, drop_all}
use Rattle.std.proofs.lemmas.List.Concat.{flat_map-cons}
use Rattle.sp_watch.specs.Lines.{held_at, held_of}
use Rattle.sp_watch.specs.declared.item.Entry.{Entry}

-- the next text, and then the others
next_text : {A : Type 0} (f : A → List ℕ) (xs : List A) (i : ℕ) (x : A) → i < length xs → flat_map f (drop i xs) ≡ f (get_or xs i x) ++ flat_map f (drop (i + 1) xs)
next_text f xs i x h = at_drop_more (flat_map f) xs i x h ∙ flat_map-cons f (get_or xs i x) (drop (i + 1) xs)

-- it is written, or a front of it

pub text_goes : {A : Type 0} (f : A → List ℕ) (xs : List A) (i : ℕ) (x : A) {a b c : Option (List ℕ)} {whole : List ℕ} → i < length xs → Wrote a b whole (flat_map f (drop i xs)) → Appends b c (f (get_or xs i x)) → Wrote a c whole (flat_map f (drop (i + 1) xs))
text_goes f xs i x {a = a} {b = b} {whole = whole} h w p =
    wrote_more (f (get_or xs i x)) (flat_map f (drop (i + 1) xs)) (subst (λ (t : List ℕ). Wrote a b whole t) (next_text f xs i x h) w) p

pub text_stops : {A : Type 0} (f : A → List ℕ) (xs : List A) (i : ℕ) (x : A) {a b c : Option (List ℕ)} {whole : List ℕ} → i < length xs → Wrote a b whole (flat_map f (drop i xs)) → AppendsFront b c (f (get_or xs i x)) → AppendsFront a c whole
text_stops f xs i x {a = a} {b = b} {whole = whole} h w p =
    wrote_stops (f (get_or xs i x)) (flat_map f (drop (i + 1) xs)) (subst (λ (t : List ℕ). Wrote a b whole t) (next_text f xs i x h) w) p

-- none is left
pub no_text : {A : Type 0} (f : A → List ℕ) (xs : List A) (i : ℕ) → length xs ≤ i → flat_map f (drop i xs) ≡ []
no_text {A} f xs i h = ap (λ (l : List A). flat_map f l) (drop_all i xs h)

-- the line of the item at a place, and then those behind it
pub next_held : (entries : List Entry) (i : ℕ) → i < length entries → flat_map held_of (drop i entries) ≡ held_at entries i ++ flat_map held_of (drop (i + 1) entries)
next_held [] i h = absurd (omega (arith, h))
next_held (entry ∷ entries) zero h = refl
next_held (entry ∷ entries) (suc i) h =
    let next : suc i + 1 ≡ suc (i + 1) = omega arith in
    rw next (next_held entries i (omega (arith, h)))
