-- Ties between blocks of different ranks.
use Rattle.std.proofs.Common.{◌≡◌, ◌≢◌, ℕ, Bool, true, false, cond, refl, arith}
use Rattle.std.specs.Prelude.{pos, negsuc, nat_lt, not, ◌||◌, ◌&&◌, ◌==◌}
use Rattle.std.proofs.lemmas.Bool.Decides.{nat_tests}
use Rattle.sp_model.specs.Graph.{Graph, IsGraph, Rank, is_lower, rank_of, has, keys}
use Rattle.sp_model.specs.Votes.{by_rank}

-- of two different ranks one is the lower
other_is_lower : (a b : Rank) → a ≢ b → is_lower b a ≡ not (is_lower a b)
other_is_lower a b apart = by_parts a.salt a.id b.salt b.id (λ e f. apart (λ k. record { salt = e k; id = f k }))
  where
    by_parts : (s i t j : ℕ) → (s ≡ t → i ≡ j → ⊥) → (nat_lt t s || ((t == s) && nat_lt j i)) ≡ not (nat_lt s t || ((s == t) && nat_lt i j))
    by_parts s i t j apart = grind (arith, nat_tests)

pub by_lower : (g : Graph) (genesis x y : ℕ) → IsGraph g genesis → has (keys g) x ≡ true → has (keys g) y ≡ true → x ≢ y
    → by_rank (rank_of g x) (rank_of g y) ≡ cond (is_lower (rank_of g x) (rank_of g y)) (negsuc 0) (pos 1)
by_lower g genesis x y graph x_in y_in apart =
    at (is_lower (rank_of g x) (rank_of g y)) (is_lower (rank_of g y) (rank_of g x))
    (other_is_lower (rank_of g x) (rank_of g y) (λ e. apart (graph.ranks x y x_in y_in e)))
  where
    at : (c d : Bool) → d ≡ not c → cond c (negsuc 0) (cond d (pos 1) (pos 0)) ≡ cond c (negsuc 0) (pos 1)
    at true d h = refl
    at false true h = refl
    at false false h = cc
