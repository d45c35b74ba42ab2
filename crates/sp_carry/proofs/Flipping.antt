-- Flags with one flip more.
use Rattle.std.proofs.Common.{◌≡◌, ◌<◌, ◌+◌, ◌∙◌, ℕ, Bool, List, [], ◌∷◌, ◌++◌, take, refl, sym, ap, length, get_or}
use Rattle.std.specs.Prelude.{slice_set}
use Rattle.std.proofs.lemmas.List.{take_more}
use Rattle.sp_carry.specs.declared.carrier.Flip.{Flip}
use Rattle.sp_carry.specs.Flags.{with_flips}

with_flips_more : (flags : List Bool) (flips : List Flip) (flip : Flip) → with_flips flags (flips ++ flip ∷ []) ≡ slice_set (with_flips flags flips) flip.tx flip.now
with_flips_more flags [] flip = refl
with_flips_more flags (f ∷ flips) flip = with_flips_more (slice_set flags f.tx f.now) flips flip

pub set_next : (flags now : List Bool) (flips : List Flip) (i : ℕ) (flip : Flip) → i < length flips → flip ≡ get_or flips i flip → now ≡ with_flips flags (take i flips)
    → slice_set now flip.tx flip.now ≡ with_flips flags (take (i + 1) flips)
set_next flags now flips i flip lt e is =
    ap (λ (l : List Bool). slice_set l flip.tx flip.now) is
    ∙ sym (with_flips_more flags (take i flips) flip)
    ∙ ap (with_flips flags) (sym (take_more flips i flip lt ∙ ap (λ (f : Flip). take i flips ++ f ∷ []) (sym e)))
