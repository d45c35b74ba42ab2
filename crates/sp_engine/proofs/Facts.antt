-- What follows from what the engine keeps.
use Rattle.std.proofs.Common.{◌≡◌, ℕ, zero, suc, ◌≤◌, ◌<◌, Bool, true, false, cond, ◌||◌, List, [], ◌∷◌, ◌++◌, length, get_or, refl, sym, ap, subst, ◌∙◌, inl, inr, eqb, Some, None, arith, length-append}
use Rattle.std.specs.Prelude.{find, slice_get}
use Rattle.std.specs.List.{list_all}
use Rattle.std.specs.Option.{option_map}
use Rattle.std.proofs.Math.ListN.{length-map}
use Rattle.std.proofs.lemmas.Bool.{and_parts, eq-eqb, false≢true, or_cases, eqb-true}
use Rattle.sp_block.specs.Block.{ReadBlock}
use Rattle.sp_model.specs.Graph.{has}
use Rattle.sp_model.specs.Votes.{virt, word, word_of}
use Rattle.sp_pool.specs.Kept.{AreKept, graph_in, ids_of, IsNext, present}
use Rattle.sp_pool.proofs.KeptBlocks.{AreDistinct-push, has-push}
use Rattle.sp_dag.specs.Numbered.{graph_of as numbered_graph, IsNumbered, Numbered}
use Rattle.sp_carry.specs.Carried.{Carried}
use Rattle.sp_accept.specs.Acceptance.{Acceptance}
use Rattle.sp_money.specs.Held.{Held}
use Rattle.sp_engine.specs.Engine.{AreNumbered, IsAccepting, IsEngine, IsPaying, Ledger, numbers}
use Rattle.sp_engine.specs.Presence.{order_of}
use Rattle.sp_engine.specs.Votes.{Tallied}
use Rattle.sp_engine.proofs.Counts.{distinct_within, present_counts}
use Rattle.sp_engine.proofs.NumberedBlocks.{next_fresh, next_kept}
use Rattle.sp_engine.proofs.WordsByNumbers.{word_by_vote}

abbrev seen : ℕ → List ReadBlock → Numbered → Tallied → Ledger
seen bits kept blocks votes = record { profile = blocks.profile; bits = bits; kept = kept; numbered = blocks; votes = votes }

module _ {bits genesis : ℕ} {kept : List ReadBlock} {blocks : Numbered} {votes : Tallied} where
  -- what is kept, of the value that contracts see
  pub engine_of : {l : Ledger} {k : Carried} {a : Acceptance} {p : Held} → seen bits kept blocks votes ≡ l
      → IsEngine bits kept genesis blocks votes × IsAccepting kept blocks k a × IsPaying k a p → IsEngine l.bits l.kept genesis blocks votes
  engine_of view inv = subst (λ (l : Ledger). IsEngine l.bits l.kept genesis blocks votes) view inv.0

  pub accepting_of : {l : Ledger} {k : Carried} {a : Acceptance} {p : Held} → seen bits kept blocks votes ≡ l
      → IsEngine bits kept genesis blocks votes × IsAccepting kept blocks k a × IsPaying k a p → IsAccepting l.kept blocks k a
  accepting_of {k = k} {a = a} view inv = subst (λ (l : Ledger). IsAccepting l.kept blocks k a) view inv.1

  pub paying_of : {l : Ledger} {k : Carried} {a : Acceptance} {p : Held} → seen bits kept blocks votes ≡ l
      → IsEngine bits kept genesis blocks votes × IsAccepting kept blocks k a × IsPaying k a p → IsPaying k a p
  paying_of view inv = inv.2

  pub present_count : IsEngine bits kept genesis blocks votes → length (present kept) ≡ length blocks.parents
  present_count e = present_counts kept blocks.ids e.all_kept.apart e.in_order.distinct e.same ∙ e.in_order.long

  pub order_count : IsEngine bits kept genesis blocks votes → length (order_of kept) ≡ length (present kept)
  order_count e = ap length (sym e.order) ∙ e.in_order.long ∙ sym (present_count e)

  pub few_present : IsEngine bits kept genesis blocks votes → length blocks.parents ≤ length kept
  few_present e =
      let few : length blocks.ids ≤ length (ids_of kept) = distinct_within blocks.ids (ids_of kept) e.in_order.distinct e.numbered.there in
      let same : length (ids_of kept) ≡ length kept = length-map kept (λ (b : ReadBlock). b.id) in
      omega (arith, few, same, e.in_order.long)

  pub voted : (x y m n : ℕ) → IsEngine bits kept genesis blocks votes → slice_get blocks.ids m ≡ Some x → slice_get blocks.ids n ≡ Some y → m < length blocks.parents → n < length blocks.parents → (m ≡ n → ⊥)
      → word_of (virt (numbered_graph blocks) (numbers blocks) m n) ≡ word (graph_in blocks.profile kept) (present kept) x y
  voted x y m n e at_x at_y lm ln apart = sym (word_by_vote kept blocks x y m n e.all_kept e.in_order e.numbered e.same at_x at_y lm ln apart)

-- the first block is found by its id
pub found_first : (kept : List ReadBlock) (id : ℕ) → option_map (λ (b : ReadBlock). b.id) (slice_get kept 0) ≡ Some id → find (λ (b : ReadBlock). eqb b.id id) kept ≡ slice_get kept 0
found_first [] id e = cc
found_first (b ∷ rest) id e = (let same : b.id ≡ id = cc in rw (eq-eqb b.id id same) refl)

pub is_first : (kept : List ReadBlock) (id : ℕ) → option_map (λ (b : ReadBlock). b.id) (slice_get kept 0) ≡ Some id → find (λ (b : ReadBlock). eqb b.id id) kept ≡ None → ⊥
is_first [] id e none = cc
is_first (b ∷ rest) id e none = (let same : b.id ≡ id = cc in let here : Some b ≡ find (λ (b : ReadBlock). eqb b.id id) (b ∷ rest) = sym (found_first (b ∷ rest) id e) in cc)

pub all_items : (p : ℕ → Bool) (xs : List ℕ) (k d : ℕ) → list_all p xs ≡ true → k < length xs → p (get_or xs k d) ≡ true
all_items p [] k d all le = absurd (omega arith)
all_items p (x ∷ xs) zero d all le = (and_parts (p x) (list_all p xs) all).0
all_items p (x ∷ xs) (suc k) d all le = all_items p xs k d (and_parts (p x) (list_all p xs) all).1 (omega arith)

-- a kept id is found
pub is_found : (kept : List ReadBlock) (id : ℕ) → has (ids_of kept) id ≡ true → find (λ (b : ReadBlock). eqb b.id id) kept ≡ None → ⊥
is_found [] id there none = absurd (false≢true there)
is_found (b ∷ rest) id there none = at (eqb b.id id) there none (is_found rest id)
  where
    at : (c : Bool) → (c || has (ids_of rest) id) ≡ true → cond c (Some b) (find (λ (b : ReadBlock). eqb b.id id) rest) ≡ None → (has (ids_of rest) id ≡ true → find (λ (b : ReadBlock). eqb b.id id) rest ≡ None → ⊥) → ⊥
    at true there none more = cc
    at false there none more = more there none

-- there is room for a number more
pub room_left : (kept : List ReadBlock) (blocks : Numbered) (id : ℕ) → AreKept kept → IsNumbered blocks → AreNumbered kept blocks → IsNext kept blocks.ids id → length blocks.parents < 512
room_left kept blocks id k n h next =
    let few : length (blocks.ids ++ id ∷ []) ≤ length (ids_of kept) =
    distinct_within (blocks.ids ++ id ∷ []) (ids_of kept) (AreDistinct-push blocks.ids id n.distinct (next_fresh next))
    (λ z there. elim (or_cases (has blocks.ids z) (eqb id z) (sym (has-push blocks.ids id z) ∙ there)) [
      | inl old ↦ h.there z old
      | inr new ↦ ap (has (ids_of kept)) (sym (eqb-true id z new)) ∙ next_kept next
    ]) in
    let same : length (ids_of kept) ≡ length kept = length-map kept (λ (b : ReadBlock). b.id) in
    omega (arith, few, same, k.few, n.long, length-append blocks.ids (id ∷ []))
