-- The graphs of the kept blocks in the two profiles have the same pasts.
use Rattle.std.proofs.Common.{◌≡◌, ℕ, List, refl}
use Rattle.sp_block.specs.Block.{ReadBlock}
use Rattle.sp_model.specs.declared.profile.Profile.{Profile}
use Rattle.sp_model.specs.Agreement.{AreShapedAlike}
use Rattle.sp_model.specs.Graph.{complete, in_past, IsDownset}
use Rattle.sp_model.proofs.Shapes.{complete_alike, downset_alike, in_past_alike}
use Rattle.sp_pool.specs.Kept.{graph_in, graph_of, present}

module _ (profile : Profile) (kept : List ReadBlock) where
  pub profiles_alike : AreShapedAlike (graph_of kept) (graph_in profile kept)
  profiles_alike = record { same_keys = refl; parents = λ z. refl }

  pub in_past_in : (a z : ℕ) → in_past (graph_in profile kept) a z ≡ in_past (graph_of kept) a z
  in_past_in = in_past_alike (graph_of kept) (graph_in profile kept) profiles_alike

  pub present_in : complete (graph_in profile kept) ≡ present kept
  present_in = complete_alike (graph_of kept) (graph_in profile kept) profiles_alike

  pub downset_in : (set : List ℕ) → IsDownset (graph_of kept) set → IsDownset (graph_in profile kept) set
  downset_in = downset_alike (graph_of kept) (graph_in profile kept) profiles_alike
