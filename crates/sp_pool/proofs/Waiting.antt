-- Blocks that can't become present: those among their own ancestors, and those with an ancestor that isn't kept.
use Rattle.std.proofs.Common.{◌≡◌, ℕ, Bool, true, false, List, refl, sym, ◌∙◌}
use Rattle.std.proofs.lemmas.Bool.{false≢true}
use Rattle.sp_block.specs.Block.{ReadBlock}
use Rattle.sp_model.specs.Graph.{has, in_past}
use Rattle.sp_model.proofs.Pasts.{not_in_own_past, past_complete}
use Rattle.sp_pool.specs.Kept.{graph_of, ids_of, present}
use Rattle.sp_pool.proofs.Growth.{present_kept}

refuted : (b : Bool) → (b ≡ true → ⊥) → b ≡ false
refuted true h = absurd (h refl)
refuted false h = refl

pub on_a_cycle : (kept : List ReadBlock) (id : ℕ) → in_past (graph_of kept) id id ≡ true → has (present kept) id ≡ false
on_a_cycle kept id cycle = refuted (has (present kept) id) (λ here. not_in_own_past (graph_of kept) id here cycle)

pub without_ancestor : (kept : List ReadBlock) (ancestor id : ℕ) → in_past (graph_of kept) ancestor id ≡ true → has (ids_of kept) ancestor ≡ false → has (present kept) id ≡ false
without_ancestor kept ancestor id path missing =
    refuted (has (present kept) id) (λ here. false≢true (sym missing ∙ present_kept kept ancestor (past_complete (graph_of kept) ancestor id here path)))
