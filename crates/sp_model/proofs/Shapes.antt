-- Graphs with the same keys and parents have the same pasts: neither ranks nor the profile play a part in them.
use Rattle.std.proofs.Common.{◌≡◌, ℕ, zero, suc, Bool, not, ◌||◌, ◌&&◌, List, length, refl, sym, ap, ◌∙◌, eqb}
use Rattle.std.specs.Prelude.{filter}
use Rattle.std.specs.List.{list_all}
use Rattle.std.proofs.lemmas.List.{length-map}
use Rattle.sp_model.specs.Graph.{Graph, Block, has, parents_of, rounds, complete, reaches_within, in_past, past, future, related, anticone, IsDownset}
use Rattle.sp_model.specs.Agreement.{AreShapedAlike}
use Rattle.sp_model.proofs.Sets.{any_same}

module _ (g g' : Graph) (alike : AreShapedAlike g g') where
  long_alike : length g'.blocks ≡ length g.blocks
  long_alike =
      sym (length-map g'.blocks (λ (b : Block). b.key)) ∙ ap length alike.same_keys ∙ length-map g.blocks (λ (b : Block). b.key)

  reach_alike : (m a z : ℕ) → reaches_within m g' a z ≡ reaches_within m g a z
  unfolding reaches_within
  reach_alike zero a z = refl
  reach_alike (suc m) a z =
      rw (alike.parents z) (any_same _ _ (parents_of g z) (λ p _. ap (λ (c : Bool). eqb p a || c) (reach_alike m a p)))

  pub in_past_alike : (a z : ℕ) → in_past g' a z ≡ in_past g a z
  unfolding in_past
  in_past_alike a z = rw long_alike (reach_alike (length g.blocks) a z)

  pub past_alike : (z : ℕ) → past g' z ≡ past g z
  past_alike z = λ k. filter (λ a. in_past_alike a z k) (alike.same_keys k)

  pub future_alike : (set : List ℕ) (z : ℕ) → future g' set z ≡ future g set z
  future_alike set z = λ k. filter (λ w. in_past_alike z w k) set

  pub related_alike : (a b : ℕ) → related g' a b ≡ related g a b
  related_alike a b = rw (in_past_alike a b, in_past_alike b a) refl

  pub anticone_alike : (set : List ℕ) (z : ℕ) → anticone g' set z ≡ anticone g set z
  anticone_alike set z = λ k. filter (λ w. not (eqb w z) && not (related_alike w z k)) set

  rounds_alike : (m : ℕ) → rounds m g' ≡ rounds m g
  unfolding rounds
  rounds_alike zero = refl
  rounds_alike (suc m) = λ k. filter (λ z. list_all (λ p. has (rounds_alike m k) p) (alike.parents z k)) (alike.same_keys k)

  pub complete_alike : complete g' ≡ complete g
  unfolding complete
  complete_alike = rw long_alike (rounds_alike (length g.blocks))

  pub downset_alike : (set : List ℕ) → IsDownset g set → IsDownset g' set
  downset_alike set down =
      record {
        all_complete = λ z there. ap (λ (l : List ℕ). has l z) complete_alike ∙ down.all_complete z there;
        closed = λ z a there below. down.closed z a there (sym (in_past_alike a z) ∙ below);
      }
