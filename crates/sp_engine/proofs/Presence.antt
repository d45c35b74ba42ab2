-- The order of presence after one more block is kept.
use Rattle.std.proofs.Common.{◌≡◌, ℕ, zero, suc, ◌≤◌, Bool, true, ◌&&◌, ◌||◌, not, eqb, List, [], ◌∷◌, ◌++◌, length, refl, sym, ap, ◌∙◌, Option, Some, None, append_assoc, arith}
use Rattle.std.specs.Prelude.{find}
use Rattle.std.specs.List.{list_all}
use Rattle.std.proofs.Math.Path.{fun_ext}
use Rattle.std.proofs.lemmas.Bool.{and_parts, false≢true}
use Rattle.std.proofs.lemmas.List.{append-nil}
use Rattle.std.proofs.lemmas.List.Folds.{list_any-append}
use Rattle.sp_block.specs.Block.{ReadBlock}
use Rattle.sp_model.specs.Graph.{has}
use Rattle.sp_model.proofs.Paths.{complete_round}
use Rattle.sp_pool.specs.Kept.{AreApart, graph_of, is_ready, present, Releases}
use Rattle.sp_pool.proofs.Growth.{round_from}
use Rattle.sp_pool.proofs.Parents.{found_id, found_parents, found_passes}
use Rattle.sp_engine.specs.Presence.{joining, joins_then, order_from, order_of}

-- the test that a block is ready, where both sets have the same members
ready_same : (s t : List ℕ) → ((z : ℕ) → has s z ≡ has t z) → (kept : List ReadBlock) → find (is_ready s) kept ≡ find (is_ready t) kept
ready_same s t same kept = ap (λ (h : ℕ → Bool). find (λ (b : ReadBlock). not (h b.id) && list_all h b.parents) kept) (fun_ext same)

has_push : (s t : List ℕ) (id : ℕ) → ((z : ℕ) → has s z ≡ has t z) → (z : ℕ) → has (s ++ id ∷ []) z ≡ has (t ++ id ∷ []) z
has_push s t id same z = push s ∙ ap (λ (c : Bool). c || has (id ∷ []) z) (same z) ∙ sym (push t)
  where
    push : (u : List ℕ) → has (u ++ id ∷ []) z ≡ (has u z || has (id ∷ []) z)
    push u = list_any-append (λ k. eqb k z) u (id ∷ [])

pub Releases-same : (kept : List ReadBlock) (s t ids : List ℕ) → ((z : ℕ) → has s z ≡ has t z) → Releases kept s ids → Releases kept t ids
unfolding Releases
Releases-same kept s t [] same h = sym (ready_same s t same kept) ∙ h
Releases-same kept s t (id ∷ ids) same h = (
  record { block = h.0.block; earliest = sym (ready_same s t same kept) ∙ h.0.earliest; same = h.0.same },
  Releases-same kept (s ++ id ∷ []) (t ++ id ∷ []) ids (has_push s t id same) h.1,
)

-- what is released joins
pub joining_released : (n : ℕ) (kept : List ReadBlock) (set ids : List ℕ) → Releases kept set ids → length ids ≤ n → joining n kept set ≡ ids
unfolding joining Releases
joining_released zero kept set [] h le = refl
joining_released zero kept set (id ∷ ids) h le = absurd (omega arith)
joining_released (suc n) kept set [] h le = ap (λ (o : Option ReadBlock). joins_then o (λ id. joining n kept (set ++ id ∷ []))) h
joining_released (suc n) kept set (id ∷ ids) h le =
    ap (λ (o : Option ReadBlock). joins_then o (λ id. joining n kept (set ++ id ∷ []))) h.0.earliest
    ∙ ap (λ (k : ℕ). k ∷ joining n kept (set ++ k ∷ [])) h.0.same
    ∙ ap (λ (l : List ℕ). id ∷ l) (joining_released n kept (set ++ id ∷ []) ids h.1 (omega arith))

order_from-push : (kept : List ReadBlock) (set : List ℕ) (more : List ReadBlock) (b : ReadBlock)
    → order_from kept set (more ++ b ∷ [])
    ≡ order_from kept set more ++ joining (length (kept ++ more ++ b ∷ [])) (kept ++ more ++ b ∷ []) (order_from kept set more)
unfolding order_from
order_from-push kept set [] b = ap (λ (k : List ReadBlock). set ++ joining (length (k ++ b ∷ [])) (k ++ b ∷ []) set) (sym (append-nil kept))
order_from-push kept set (c ∷ more) b =
    let now = kept ++ c ∷ [] in let then = set ++ joining (length now) now set in
    order_from-push now then more b
    ∙ ap (λ (k : List ReadBlock). order_from now then more ++ joining (length (k ++ b ∷ [])) (k ++ b ∷ []) (order_from now then more)) (append_assoc kept (c ∷ []) more)

-- the order grows by what joins
pub order-push : (kept : List ReadBlock) (b : ReadBlock) → order_of (kept ++ b ∷ []) ≡ order_of kept ++ joining (length (kept ++ b ∷ [])) (kept ++ b ∷ []) (order_of kept)
order-push kept b = order_from-push [] [] kept b

-- no block is ready that isn't present
none_joins : (kept : List ReadBlock) → AreApart kept → find (is_ready (present kept)) kept ≡ None
none_joins kept apart = at (find (is_ready (present kept)) kept) refl
  where
    at : (o : Option ReadBlock) → find (is_ready (present kept)) kept ≡ o → o ≡ None
    at None e = refl
    at (Some b) e =
        let parts = and_parts (not (has (present kept) b.id)) (list_all (has (present kept)) b.parents) (found_passes (is_ready (present kept)) kept b e) in
        let there : has (present kept) b.id ≡ true =
        complete_round (graph_of kept) b.id
        (round_from kept (present kept) b.id (found_id (is_ready (present kept)) kept b e)
        (ap (list_all (has (present kept))) (found_parents (is_ready (present kept)) kept b apart e) ∙ parts.1)) in
        let absent : not true ≡ true = ap not (sym there) ∙ parts.0 in
        absurd (false≢true absent)

pub Releases-none : (kept : List ReadBlock) (set : List ℕ) → AreApart kept → ((z : ℕ) → has set z ≡ has (present kept) z) → Releases kept set []
unfolding Releases
Releases-none kept set apart same = ready_same set (present kept) same kept ∙ none_joins kept apart
