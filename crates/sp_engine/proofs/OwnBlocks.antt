-- A block of a list in which no two have one id: it is found by its id, and has its own parents and transactions.
use Rattle.std.proofs.Common.{◌≡◌, ℕ, Bool, true, false, cond, List, [], ◌∷◌, refl, sym, ap, ◌∙◌, inl, inr, eqb, Some, ◌⊎◌}
use Rattle.std.specs.Prelude.{find}
use Rattle.std.proofs.lemmas.Bool.{eqb-true, eq-eqb, false≢true}
use Rattle.std.proofs.lemmas.Option.{same_Some}
use Rattle.sp_block.specs.Block.{ReadBlock}
use Rattle.sp_model.specs.Graph.{has, parents_of, rank_of}
use Rattle.sp_pool.specs.Kept.{AreApart, graph_of, ids_of, rank_in}
use Rattle.sp_pool.proofs.Parents.{found_parents}
use Rattle.sp_pool.proofs.Ranks.{found_rank}
use Rattle.sp_carry.proofs.Members.{any_of_member, in_map, in_map_from, IsIn, member_of_any}
use Rattle.sp_engine.specs.Transactions.{txs_of, txs_or_none}

pub id_in : (bs : List ReadBlock) (b : ReadBlock) → IsIn bs b → has (ids_of bs) b.id ≡ true
id_in bs b h = any_of_member (λ k. eqb k b.id) (ids_of bs) b.id (in_map_from (λ (x : ReadBlock). x.id) bs b h) (eq-eqb b.id b.id refl)

-- there is a block of each id
pub block_of_id : (bs : List ReadBlock) (z : ℕ) → has (ids_of bs) z ≡ true → (b : ReadBlock) × IsIn bs b × (b.id ≡ z)
block_of_id bs z h =
    let k : (k : ℕ) × IsIn (ids_of bs) k × (eqb k z ≡ true) = member_of_any (λ k. eqb k z) (ids_of bs) h in
    let b : (b : ReadBlock) × IsIn bs b × (b.id ≡ k.0) = in_map (λ (x : ReadBlock). x.id) bs k.0 k.1 in
    (b.0, b.1, b.2 ∙ eqb-true k.0 z k.2)

pub found_own : (bs : List ReadBlock) (b : ReadBlock) → AreApart bs → IsIn bs b → find (λ (x : ReadBlock). eqb x.id b.id) bs ≡ Some b
found_own [] b apart h = absurd h
found_own (x ∷ xs) b apart h = at (eqb x.id b.id) refl h (found_own xs b apart.1)
  where
    at : (c : Bool) → eqb x.id b.id ≡ c → (x ≡ b) ⊎ IsIn xs b → (IsIn xs b → find (λ (y : ReadBlock). eqb y.id b.id) xs ≡ Some b)
        → cond c (Some x) (find (λ (y : ReadBlock). eqb y.id b.id) xs) ≡ Some b
    at true e (inl same) rest = ap (λ (y : ReadBlock). Some y) same
    at true e (inr there) rest = absurd (false≢true (sym apart.0 ∙ ap (has (ids_of xs)) (eqb-true x.id b.id e) ∙ id_in xs b there))
    at false e (inl same) rest = absurd (false≢true (sym e ∙ eq-eqb x.id b.id (ap (λ (y : ReadBlock). y.id) same)))
    at false e (inr there) rest = rest there

-- two of the blocks with one id are one block
pub one_of_id : (bs : List ReadBlock) (a b : ReadBlock) → AreApart bs → IsIn bs a → IsIn bs b → a.id ≡ b.id → a ≡ b
one_of_id bs a b apart there too same =
    same_Some a b (sym (found_own bs a apart there) ∙ ap (λ (id : ℕ). find (λ (x : ReadBlock). eqb x.id id) bs) same ∙ found_own bs b apart too)

pub own_parents : (bs : List ReadBlock) (b : ReadBlock) → AreApart bs → IsIn bs b → parents_of (graph_of bs) b.id ≡ b.parents
own_parents bs b apart h = found_parents (λ (x : ReadBlock). eqb x.id b.id) bs b apart (found_own bs b apart h)

pub own_rank : (bs : List ReadBlock) (b : ReadBlock) → AreApart bs → IsIn bs b → rank_of (graph_of bs) b.id ≡ rank_in b
own_rank bs b apart h = found_rank (λ (x : ReadBlock). eqb x.id b.id) bs b apart (found_own bs b apart h)

pub own_txs : (bs : List ReadBlock) (b : ReadBlock) → AreApart bs → IsIn bs b → txs_of bs b.id ≡ b.txs
own_txs bs b apart h = ap txs_or_none (found_own bs b apart h)
