-- The ids of the transactions of a block that arrives are told of the block that is kept.
use Rattle.std.proofs.Common.{◌≡◌, ℕ, Bool, true, false, cond, ◌||◌, List, [], ◌∷◌, ◌++◌, map, refl, sym, ap, ◌∙◌, eqb, Some}
use Rattle.std.specs.Prelude.{find, unwrap_or, Option}
use Rattle.std.proofs.lemmas.Bool.{eq-eqb, false≢true}
use Rattle.sp_block.specs.Block.{ReadBlock}
use Rattle.sp_tx.specs.Spending.{id_of}
use Rattle.sp_model.specs.Graph.{has}
use Rattle.sp_pool.specs.Kept.{ids_of, keep}
use Rattle.sp_pool.proofs.Standings.{from_fresh}
use Rattle.sp_dag.specs.Numbered.{Numbered}
use Rattle.sp_engine.specs.Told.{AreTold}
use Rattle.sp_engine.specs.Votes.{Tallied}
use Rattle.sp_engine.proofs.Arriving.{Comes, kept_is}

-- a block of a new id is the one that is found by it
found_new : (kept : List ReadBlock) (b c : ReadBlock) → has (ids_of kept) b.id ≡ false → find (λ (x : ReadBlock). eqb x.id b.id) (kept ++ b ∷ []) ≡ Some c → c ≡ b
found_new [] b c fresh found = at (eqb b.id b.id) (eq-eqb b.id b.id refl) found
  where
    at : (d : Bool) → d ≡ true → cond d (Some b) (find (λ (x : ReadBlock). eqb x.id b.id) []) ≡ Some c → c ≡ b
    at true e found = sym (ap (λ (o : Option ReadBlock). unwrap_or o b) found)
    at false e found = absurd (false≢true e)
found_new (y ∷ ys) b c fresh found = at (eqb y.id b.id) fresh found (found_new ys b c)
  where
    at : (d : Bool) → (d || has (ids_of ys) b.id) ≡ false → cond d (Some y) (find (λ (x : ReadBlock). eqb x.id b.id) (ys ++ b ∷ [])) ≡ Some c
        → (has (ids_of ys) b.id ≡ false → find (λ (x : ReadBlock). eqb x.id b.id) (ys ++ b ∷ []) ≡ Some c → c ≡ b) → c ≡ b
    at true fresh found rest = absurd (false≢true (sym fresh))
    at false fresh found rest = rest fresh found

module _ {bits genesis : ℕ} {kept : List ReadBlock} {blocks : Numbered} {votes : Tallied} {b : ReadBlock} where
  pub comes_told : (new : List ReadBlock) (id : ℕ) (ids : List ℕ) → id ≡ b.id → new ≡ keep kept b → Comes bits genesis kept blocks votes b → ids ≡ map id_of b.txs → AreTold new id ids
  comes_told new id ids same e h told = λ c found.
      told ∙ ap (λ (x : ReadBlock). map id_of x.txs)
      (sym (found_new kept b c (from_fresh kept b.id h.fresh).0
      (ap (find (λ (x : ReadBlock). eqb x.id b.id)) (sym (kept_is new e h)) ∙ ap (λ (z : ℕ). find (λ (x : ReadBlock). eqb x.id z) new) (sym same) ∙ found)))
