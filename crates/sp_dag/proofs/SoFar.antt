-- The pairs of a new block with the blocks of lower numbers, one after another.
use Rattle.std.proofs.Common.{◌≡◌, ℕ, ◌+◌, true, false, not, List, [], ◌∷◌, ◌++◌, length, sym, ap, subst, ◌∙◌, Option, Some, None, arith, length-append, append-nil}
use Rattle.sp_bits.specs.Places.{has}
use Rattle.sp_dag.specs.Indexed.{AreNewIndexed}
use Rattle.sp_dag.proofs.NewPairs.{pairs_more}
use Rattle.sp_dag.proofs.Adds.{pairs_to}
use Rattle.sp_dag.proofs.Indexing.{AreNewIndexed-none, AreNewIndexed-related, AreNewIndexed-unrelated}

-- the pairs with the blocks before one, and where they stand
pub record AreSoFar (before pairs : List (ℕ × ℕ)) (past : List ℕ) (number lower : ℕ) (row : List (Option ℕ)) : Type 0 where
  pub pairs_are : pairs ≡ before ++ pairs_to past number lower
  pub indexed : AreNewIndexed before pairs past number lower row

pub AreSoFar-none : (before : List (ℕ × ℕ)) (past : List ℕ) (number : ℕ) (row : List (Option ℕ)) → row ≡ [] → AreSoFar before before past number 0 row
AreSoFar-none before past number row none = record {
  pairs_are = sym (append-nil before);
  indexed = subst (AreNewIndexed before before past number 0) (sym none) (AreNewIndexed-none before past number);
}

pub AreSoFar-related : (before pairs new_pairs : List (ℕ × ℕ)) (past : List ℕ) (number lower : ℕ) (row new_row : List (Option ℕ)) → AreSoFar before pairs past number lower row
    → has past lower ≡ true → new_pairs ≡ pairs → new_row ≡ row ++ None ∷ []
    → AreSoFar before new_pairs past number (lower + 1) new_row
AreSoFar-related before pairs new_pairs past number lower row new_row h is same is_row = record {
  pairs_are = same ∙ (pairs_more (λ x. not (has past x)) number lower pairs before h.pairs_are).1 (ap not is);
  indexed =
      subst (λ (l : List (ℕ × ℕ)). AreNewIndexed before l past number (lower + 1) new_row) (sym same)
      (subst (AreNewIndexed before pairs past number (lower + 1)) (sym is_row) (AreNewIndexed-related before pairs past number lower row h.indexed is));
}

pub AreSoFar-unrelated : (before pairs new_pairs : List (ℕ × ℕ)) (past : List ℕ) (number lower index : ℕ) (row new_row : List (Option ℕ)) → AreSoFar before pairs past number lower row
    → has past lower ≡ false → index ≡ length pairs → new_pairs ≡ pairs ++ (lower, number) ∷ [] → new_row ≡ row ++ Some index ∷ []
    → AreSoFar before new_pairs past number (lower + 1) new_row
AreSoFar-unrelated before pairs new_pairs past number lower index row new_row h is at one_more is_row =
    let all : length pairs ≡ length before + length (pairs_to past number lower) = ap length h.pairs_are ∙ length-append before (pairs_to past number lower) in
    record {
      pairs_are = one_more ∙ (pairs_more (λ x. not (has past x)) number lower pairs before h.pairs_are).0 (ap not is);
      indexed =
          subst (λ (l : List (ℕ × ℕ)). AreNewIndexed before l past number (lower + 1) new_row) (sym one_more)
          (subst (AreNewIndexed before (pairs ++ (lower, number) ∷ []) past number (lower + 1))
          (sym (is_row ∙ ap (λ (k : ℕ). row ++ Some k ∷ []) at)) (AreNewIndexed-unrelated before pairs past number lower row h.indexed (omega arith)));
    }
