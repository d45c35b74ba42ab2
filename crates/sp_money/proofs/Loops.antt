-- Flags and counts change step by step, in the loops over a transaction's outputs and inputs.
use Rattle.std.proofs.Common.{◌≡◌, ℕ, ◌+◌, ◌<◌, Bool, List, [], ◌∷◌, ◌++◌, length, get_or, take, sym, ap, subst, ◌∙◌}
use Rattle.std.specs.Prelude.{slice_set}
use Rattle.std.proofs.lemmas.List.{take_more}
use Rattle.sp_tx.specs.declared.parts.Input.{Input}
use Rattle.sp_carry.specs.Lookups.{AreApart}
use Rattle.sp_money.specs.Held.{Held}
use Rattle.sp_money.specs.Places.{counted, marked, CanCount}
use Rattle.sp_money.proofs.Counts.{can_next, counted_more}
use Rattle.sp_money.proofs.Marks.{marked_more}
use Rattle.sp_money.proofs.Puts.{with_counts, with_lives}

pub lives_next : (was mid next : Held) (start count : ℕ) (now : Bool) → mid ≡ with_lives was (marked was.live start count now)
    → next ≡ with_lives mid (slice_set mid.live (start + count) now) → next ≡ with_lives was (marked was.live start (count + 1) now)
lives_next was mid next start count now e f =
    f ∙ ap (λ (h : Held). with_lives h (slice_set h.live (start + count) now)) e
    ∙ ap (with_lives was) (sym (marked_more was.live start count now))

module _ (was mid next : Held) (now : Bool) (inputs : List Input) (i : ℕ) (input : Input)
    (e : mid ≡ with_counts was (counted now (take i inputs) was.coins was.spenders))
    (lt : i < length inputs) (is : input ≡ get_or inputs i input) (apart : AreApart inputs) where
  pub counts_next : next ≡ with_counts mid (counted now (input ∷ []) mid.coins mid.spenders)
      → next ≡ with_counts was (counted now (take (i + 1) inputs) was.coins was.spenders)
  counts_next f =
      f ∙ ap (λ (h : Held). with_counts h (counted now (input ∷ []) h.coins h.spenders)) e
      ∙ ap (with_counts was)
      (counted_more now (take i inputs) input was.coins was.spenders (apart i input lt is)
      ∙ ap (λ (xs : List Input). counted now xs was.coins was.spenders)
      (ap (λ (x : Input). take i inputs ++ x ∷ []) is ∙ sym (take_more inputs i input lt)))

  pub room_next : length was.spenders ≡ length was.coins → CanCount now inputs was.coins was.spenders → CanCount now (input ∷ []) mid.coins mid.spenders
  room_next long can =
      subst (λ (h : Held). CanCount now (input ∷ []) h.coins h.spenders) (sym e)
      (can_next now inputs i input was.coins was.spenders long lt is (apart i input lt is) can)
