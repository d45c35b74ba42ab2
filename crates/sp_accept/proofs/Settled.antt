-- What one carrier that is decided on again leaves of the others.
use Rattle.std.proofs.Common.{◌≡◌, ◌≢◌, ◌<◌, ◌∙◌, ◌&&◌, not, ℕ, Bool, true, false, List, arith, refl, sym, ap, length}
use Rattle.std.proofs.lemmas.Bool.{false≢true, false_from_ne_true}
use Rattle.sp_dag.specs.Numbered.{Numbered}
use Rattle.sp_dag.proofs.Ranked.{ancestors_lower}
use Rattle.sp_carry.specs.Carried.{Carried, IsCarried}
use Rattle.sp_carry.specs.Flags.{is_set}
use Rattle.sp_accept.specs.Flips.{differ}
use Rattle.sp_accept.specs.Pass.{is_next}
use Rattle.sp_accept.specs.Rows.{row_at, AreOf}
use Rattle.sp_accept.specs.Standing.{is_below}
use Rattle.sp_accept.specs.Todo.{turned_at}
use Rattle.sp_accept.proofs.Behind.{depends}
use Rattle.sp_accept.proofs.Carriers.{rows_are}
use Rattle.sp_accept.proofs.Toggled.{turned_here, turned_other}

-- a block isn't below itself
pub not_below_itself : (table : Numbered) (k : Carried) → IsCarried k → AreOf table k → (c : ℕ) → c < length k.rows → is_below table (row_at k.rows c).block (row_at k.rows c).block ≡ false
not_below_itself table k carried of c lc =
    false_from_ne_true (is_below table (row_at k.rows c).block (row_at k.rows c).block)
    (λ h. let inside : (row_at k.rows c).block < k.blocks = (rows_are k carried).inside c lc in
    let less : (row_at k.rows c).block < (row_at k.rows c).block =
    ancestors_lower table (row_at k.rows c).block (row_at k.rows c).block of.order (omega (arith, inside, of.long)) h in
    absurd (omega (arith, less)))

module _ (table : Numbered) (k : Carried) (flags flags' : List Bool) (c : ℕ) (lc : c < length flags) (is : flags' ≡ turned_at flags c) where
  abbrev block_of : ℕ → ℕ
  block_of d = (row_at k.rows d).block

  other : (f : ℕ) → c ≢ f → is_set flags f ≡ is_set flags' f
  other f apart = sym (turned_other flags c f apart) ∙ ap (λ (l : List Bool). is_set l f) (sym is)

  -- those in no block above look at another flag
  next_stays : (d : ℕ) → is_below table (block_of c) (block_of d) ≡ false → is_next table k flags d ≡ is_next table k flags' d
  next_stays d above =
      depends table k flags flags' d
      (λ e _ under. other e (λ same. false≢true (sym above ∙ ap (λ (f : ℕ). is_below table (block_of f) (block_of d)) same ∙ under)))

  pub own_settled : is_below table (block_of c) (block_of c) ≡ false → not (is_set flags c) ≡ is_next table k flags c → is_set flags' c ≡ is_next table k flags' c
  own_settled itself turns = ap (λ (l : List Bool). is_set l c) is ∙ turned_here flags c lc ∙ turns ∙ next_stays c itself

  pub others_settled : (d : ℕ) → c ≢ d → (true && is_below table (block_of c) (block_of d)) ≡ false → is_set flags d ≡ is_next table k flags d
      → is_set flags' d ≡ is_next table k flags' d
  others_settled d apart above before = sym (other d apart) ∙ before ∙ next_stays d above

pub unlike : (was now : Bool) → differ was now ≡ true → not was ≡ now
unlike true true h = absurd (false≢true h)
unlike true false h = refl
unlike false true h = refl
unlike false false h = absurd (false≢true h)

pub alike : (was now : Bool) → differ was now ≡ false → was ≡ now
alike true true h = refl
alike true false h = absurd (false≢true (sym h))
alike false true h = absurd (false≢true (sym h))
alike false false h = refl
