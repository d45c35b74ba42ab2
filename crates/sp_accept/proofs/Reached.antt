-- The transactions of the carriers that turned, and their flags.
use Rattle.std.proofs.Common.{◌≡◌, ◌<◌, ◌+◌, ◌∙◌, ℕ, Bool, true, List, [], ◌∷◌, ◌++◌, take, arith, refl, sym, ap, length, get_or, eqb}
use Rattle.std.specs.Prelude.{All, filter, slice_set}
use Rattle.std.specs.List.{list_any}
use Rattle.std.proofs.lemmas.Bool.{eqb-true}
use Rattle.std.proofs.lemmas.List.{take_more}
use Rattle.std.proofs.lemmas.List.Elements.{All-from_get_or}
use Rattle.sp_carry.specs.declared.carrier.Flip.{Flip}
use Rattle.sp_carry.specs.Carried.{Carried, IsCarried}
use Rattle.sp_carry.proofs.Members.{IsIn, in_filter, member_meets, member_of_any}
use Rattle.sp_carry.specs.Flags.{with_flips}
use Rattle.sp_accept.specs.Rows.{row_at}
use Rattle.sp_accept.proofs.Carriers.{rows_are}
use Rattle.sp_accept.proofs.Places.{in_place}

-- a transaction of a carrier is one of all
pub tx_known : (k : Carried) → IsCarried k → (turned : List ℕ) → All (λ c. c < length k.rows) turned → (tx : ℕ)
    → list_any (λ c. eqb (row_at k.rows c).tx tx) turned ≡ true → tx < length k.txs
tx_known k carried turned within tx h =
    let c : (c : ℕ) × IsIn turned c × (eqb (row_at k.rows c).tx tx ≡ true) = member_of_any (λ c. eqb (row_at k.rows c).tx tx) turned h in
    let known : (row_at k.rows c.0).tx < length k.txs = (rows_are k carried).known c.0 (member_meets (λ c. c < length k.rows) turned c.0 within c.1) in
    omega (arith, known, eqb-true (row_at k.rows c.0).tx tx c.2)

pub filtered_within : (test : ℕ → Bool) (n : ℕ) (xs : List ℕ) → ((d : ℕ) → test d ≡ true → d < n) → All (λ d. d < n) (filter test xs)
filtered_within test n xs below =
    All-from_get_or (λ d. d < n) (filter test xs) 0
    (λ i lt. below (get_or (filter test xs) i 0) (in_filter test xs (get_or (filter test xs) i 0) (in_place (filter test xs) 0 i lt)).1)

-- ---- flips that are set

pub with_flips_more : (flags : List Bool) (flips : List Flip) (flip : Flip) → with_flips flags (flips ++ flip ∷ []) ≡ slice_set (with_flips flags flips) flip.tx flip.now
with_flips_more flags [] flip = refl
with_flips_more flags (f ∷ flips) flip = with_flips_more (slice_set flags f.tx f.now) flips flip

pub set_next : (flags now : List Bool) (flips : List Flip) (i : ℕ) (flip : Flip) → i < length flips → flip ≡ get_or flips i flip → now ≡ with_flips flags (take i flips)
    → slice_set now flip.tx flip.now ≡ with_flips flags (take (i + 1) flips)
set_next flags now flips i flip lt e is =
    ap (λ (l : List Bool). slice_set l flip.tx flip.now) is
    ∙ sym (with_flips_more flags (take i flips) flip)
    ∙ ap (with_flips flags) (sym (take_more flips i flip lt ∙ ap (λ (f : Flip). take i flips ++ f ∷ []) (sym e)))
