-- Looks at the blocks, which change only what was seen of their parents.
use Rattle.std.proofs.Common.{◌≡◌, ℕ, ◌+◌, Bool, true, false, List, take, set, refl, sym, ap, subst, ◌∙◌, None, Some}
use Rattle.std.specs.Prelude.{find, slice_get}
use Rattle.std.specs.List.{list_all}
use Rattle.std.specs.Option.{option_map}
use Rattle.sp_block.specs.Block.{ReadBlock}
use Rattle.sp_model.specs.Graph.{has}
use Rattle.sp_pool.specs.Kept.{is_ready}
use Rattle.sp_pool.specs.Marks.{Looked, Marked, Marks}
use Rattle.sp_pool.proofs.Marking.{first_ready, Marks-see, none_ready_more}

pub Looked-then : (a b c : Marked) → Looked a b → Looked b c → Looked a c
Looked-then a b c h k = record { blocks = k.blocks ∙ h.blocks; marks = k.marks ∙ h.marks; stands = λ s m. k.stands s (h.stands s m) }

-- a new count at a place, of parents that every set has for which the marks stand
pub Looked-see : (m after : Marked) (place : ℕ) (parents : List ℕ) (n : ℕ) → after ≡ record m { seen = set m.seen place n }
    → option_map (λ (b : ReadBlock). b.parents) (slice_get m.blocks place) ≡ Some parents
    → ((s : List ℕ) → Marks m s → list_all (has s) (take n parents) ≡ true) → Looked m after
Looked-see m after place parents n is there all =
    subst (λ (x : Marked). Looked m x) (sym is)
    (record { blocks = refl; marks = refl; stands = λ s h. Marks-see m s place parents n there (all s h) h })

-- after these looks none of the first blocks is ready
pub record NoneReady (before now : Marked) (place : ℕ) : Type 0 where
  pub looked : Looked before now
  pub none : (s : List ℕ) → Marks before s → find (is_ready s) (take place before.blocks) ≡ None

ready_before : (before now : Marked) (place : ℕ) (r : Bool) → Looked before now
    → ((s : List ℕ) → Marks now s → option_map (is_ready s) (slice_get now.blocks place) ≡ Some r)
    → (s : List ℕ) → Marks before s → option_map (is_ready s) (slice_get before.blocks place) ≡ Some r
ready_before before now place r look ready s h =
    ap (λ (bs : List ReadBlock). option_map (is_ready s) (slice_get bs place)) (sym look.blocks) ∙ ready s (look.stands s h)

-- the first block that a look finds ready is the earliest
pub found_earliest : (before now : Marked) (place : ℕ) (r : Bool) → NoneReady before now place
    → ((s : List ℕ) → Marks now s → option_map (is_ready s) (slice_get now.blocks place) ≡ Some r) → r ≡ true
    → (s : List ℕ) → Marks before s → slice_get before.blocks place ≡ find (is_ready s) before.blocks
found_earliest before now place r h ready is s m =
    first_ready (is_ready s) before.blocks place r (ready_before before now place r h.looked ready s m) is (h.none s m)

-- one more block isn't ready
pub NoneReady-more : (before now after : Marked) (place : ℕ) (r : Bool) → NoneReady before now place → Looked now after
    → ((s : List ℕ) → Marks now s → option_map (is_ready s) (slice_get now.blocks place) ≡ Some r) → r ≡ false → NoneReady before after (place + 1)
NoneReady-more before now after place r h look ready isnt =
    record {
      looked = Looked-then before now after h.looked look;
      none = λ s m. none_ready_more (is_ready s) before.blocks place r (ready_before before now place r h.looked ready s m) isnt (h.none s m);
    }
