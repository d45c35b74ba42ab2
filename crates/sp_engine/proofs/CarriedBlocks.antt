-- The carriers stay those of the numbered blocks when a block is kept, and when one is numbered and its carriers are added.
use Rattle.std.proofs.Common.{◌≡◌, ℕ, suc, ◌<◌, ◌≤◌, ◌||◌, Bool, true, false, cond, List, [], ◌∷◌, ◌++◌, length, map, refl, sym, ap, subst, ◌∙◌, eqb, Option, Some, None, arith, length-append}
use Rattle.std.specs.Prelude.{find, fold, flat_map}
use Rattle.std.specs.List.{list_any}
use Rattle.std.proofs.Math.ListN.{length-map}
use Rattle.std.proofs.lemmas.Bool.{eqb-true, eq-eqb, false≢true, or_left, or_right}
use Rattle.std.proofs.lemmas.List.{append-nil, map-append}
use Rattle.std.proofs.lemmas.List.Sums.{fold-append}
use Rattle.std.proofs.lemmas.Grind.{flat_map-append}
use Rattle.sp_tx.specs.Parts.{Transaction, of_parts}
use Rattle.sp_tx.specs.Spending.{id_of}
use Rattle.sp_block.specs.Block.{IsBlock, ReadBlock}
use Rattle.sp_block.proofs.Whole.{only_spelling}
use Rattle.sp_block.specs.Block.{parts_of}
use Rattle.sp_model.specs.Graph.{has}
use Rattle.sp_pool.specs.Kept.{ids_of}
use Rattle.sp_dag.specs.Numbered.{IsNumbered, number_of as number_in, Numbered, with_block as numbered_with}
use Rattle.sp_carry.specs.Carried.{carried_by, Carried, Carries, AreSound, IsCarried, nothing, number_of, tx_at, with_block, with_carrier, with_carriers}
use Rattle.sp_carry.proofs.Carrying.{block_carried, none_carried}
use Rattle.sp_carry.proofs.Finding.{number_id, number_within}
use Rattle.sp_carry.proofs.Keeping.{none_found}
use Rattle.sp_carry.proofs.Members.{any_agrees, any_of_member, bool_same, in_map_from, list_in}
use Rattle.sp_carry.proofs.Soundness.{grown_sound, sound_block}
use Rattle.sp_accept.specs.Rows.{AreOf}
use Rattle.sp_engine.specs.Engine.{AreCarried, AreNumbered}
use Rattle.sp_money.specs.Locks.{each_once, with_id}
use Rattle.sp_engine.specs.Transactions.{tx_ids_in, txs_of, txs_or_none}

-- ---- ids of transactions, each once

flip : (a b : ℕ) → eqb a b ≡ eqb b a
flip a b = bool_same (eqb a b) (eqb b a) (λ e. eq-eqb b a (sym (eqb-true a b e))) (λ e. eq-eqb a b (sym (eqb-true b a e)))

pub has_flipped : (ids : List ℕ) (id : ℕ) → has ids id ≡ list_any (eqb id) ids
has_flipped ids id = any_agrees (λ k. eqb k id) (eqb id) ids (λ x there. flip x id)

carrier_ids : (table : Numbered) (k : Carried) (t : Transaction) → map id_of (with_carrier table k t).txs ≡ with_id (map id_of k.txs) (id_of t)
carrier_ids table k t = at (number_of k (id_of t)) refl
  where
    chosen : (c : Bool) → has (map id_of k.txs) (id_of t) ≡ c → cond c (map id_of k.txs) (map id_of k.txs ++ id_of t ∷ []) ≡ with_id (map id_of k.txs) (id_of t)
    chosen c e = ap (λ (b : Bool). cond b (map id_of k.txs) (map id_of k.txs ++ id_of t ∷ [])) (sym e)

    at : (o : Option ℕ) → number_of k (id_of t) ≡ o → map id_of (carried_by table k t o).txs ≡ with_id (map id_of k.txs) (id_of t)
    at None e =
        map-append id_of k.txs (t ∷ [])
        ∙ chosen false (has_flipped (map id_of k.txs) (id_of t) ∙ none_found (map id_of k.txs) (id_of t) e)
    at (Some n) e =
        chosen true (any_of_member (λ i. eqb i (id_of t)) (map id_of k.txs) (id_of (tx_at k n)) (in_map_from id_of k.txs (tx_at k n) (list_in k.txs n (of_parts [] []) (number_within k (id_of t) n e)))
        (eq-eqb (id_of (tx_at k n)) (id_of t) (number_id k (id_of t) n e)))

carriers_ids : (table : Numbered) (k : Carried) (ts : List Transaction) → map id_of (with_carriers table k ts).txs ≡ fold with_id (map id_of k.txs) (map id_of ts)
carriers_ids table k [] = refl
carriers_ids table k (t ∷ ts) = carriers_ids table (with_carrier table k t) ts ∙ ap (λ (ids : List ℕ). fold with_id ids (map id_of ts)) (carrier_ids table k t)

-- the ids of one block more
ids_more : (kept : List ReadBlock) (blocks : List ℕ) (id : ℕ) → each_once (tx_ids_in kept (blocks ++ id ∷ [])) ≡ fold with_id (each_once (tx_ids_in kept blocks)) (map id_of (txs_of kept id))
ids_more kept blocks id =
    ap each_once (flat_map-append (λ (z : ℕ). map id_of (txs_of kept z)) blocks (id ∷ []) ∙ ap (λ (l : List ℕ). tx_ids_in kept blocks ++ l) (append-nil (map id_of (txs_of kept id))))
    ∙ fold-append with_id [] (tx_ids_in kept blocks) (map id_of (txs_of kept id))

-- ---- a block is numbered, and its carriers are added

-- a block has at most 256 transactions
pub few_txs : (b : ReadBlock) → IsBlock b → length b.txs ≤ 256
few_txs b h = (only_spelling b.bytes h.genesis (parts_of b) h.bytes h.spells).0.rules.few_txs

-- the carriers are of the blocks that are numbered
pub carried_count : (kept : List ReadBlock) (blocks : Numbered) (k : Carried) → IsNumbered blocks → AreCarried kept blocks k → k.blocks ≡ length blocks.parents
carried_count kept blocks k n h = h.theirs.count ∙ length-map blocks.ids (txs_of kept) ∙ n.long

pub AreCarried-more : (kept : List ReadBlock) (blocks after : Numbered) (k new : Carried) (id salt : ℕ) (parents : List ℕ) (b : ReadBlock) → IsNumbered blocks → IsNumbered after
    → AreCarried kept blocks k → find (λ (x : ReadBlock). eqb x.id id) kept ≡ Some b → after ≡ numbered_with blocks id salt parents → IsCarried new
    → new ≡ with_block after k b.txs → AreCarried kept after new
AreCarried-more kept blocks after k new id salt parents b n m h found e is added =
    record {
      carried = is;
      theirs =
          subst (λ (x : Carried). Carries (map (txs_of kept) after.ids) x) (sym added)
          (subst (λ (l : List (List Transaction)). Carries l (with_block after k b.txs)) (sym lists)
          (block_carried after (map (txs_of kept) blocks.ids) k b.txs h.carried h.theirs));
      ids =
          ap (λ (x : Carried). map id_of x.txs) added ∙ carriers_ids after k b.txs
          ∙ ap (λ (ids : List ℕ). fold with_id ids (map id_of b.txs)) h.ids
          ∙ ap (λ (ts : List Transaction). fold with_id (each_once (tx_ids_in kept blocks.ids)) (map id_of ts)) (sym theirs)
          ∙ sym (ids_more kept blocks.ids id) ∙ ap (λ (a : Numbered). each_once (tx_ids_in kept a.ids)) (sym e);
      sound =
          subst (λ (x : Carried). AreSound after x) (sym added)
          (sound_block after k b.txs h.carried m.order (omega (arith, count, longer)) before);
    }
  where
    theirs : txs_of kept id ≡ b.txs
    theirs = ap txs_or_none found

    count : k.blocks ≡ length blocks.parents
    count = carried_count kept blocks k n h

    table : after.parents ≡ blocks.parents ++ map (number_in blocks.ids) parents ∷ []
    table = ap (λ (a : Numbered). a.parents) e

    longer : length after.parents ≡ suc (length blocks.parents)
    longer = ap length table ∙ (let one : length (blocks.parents ++ map (number_in blocks.ids) parents ∷ []) ≡ suc (length blocks.parents) =
        omega (arith, length-append blocks.parents (map (number_in blocks.ids) parents ∷ [])) in one)

    before : AreSound after k
    before =
        subst (λ (t : Numbered). AreSound t k) (sym e)
        (grown_sound blocks id salt (map (number_in blocks.ids) parents) k n.order (omega (arith, count)) h.carried h.sound)

    lists : map (txs_of kept) after.ids ≡ map (txs_of kept) blocks.ids ++ b.txs ∷ []
    lists =
        ap (λ (a : Numbered). map (txs_of kept) a.ids) e ∙ map-append (txs_of kept) blocks.ids (id ∷ [])
        ∙ ap (λ (ts : List Transaction). map (txs_of kept) blocks.ids ++ ts ∷ []) theirs

-- ---- a block is kept

find_more : (kept : List ReadBlock) (b : ReadBlock) (id : ℕ) → has (ids_of kept) id ≡ true
    → find (λ (x : ReadBlock). eqb x.id id) (kept ++ b ∷ []) ≡ find (λ (x : ReadBlock). eqb x.id id) kept
find_more [] b id there = absurd (false≢true there)
find_more (x ∷ rest) b id there = at (eqb x.id id) there (find_more rest b id)
  where
    at : (c : Bool) → (c || has (ids_of rest) id) ≡ true
        → (has (ids_of rest) id ≡ true → find (λ (y : ReadBlock). eqb y.id id) (rest ++ b ∷ []) ≡ find (λ (y : ReadBlock). eqb y.id id) rest)
        → cond c (Some x) (find (λ (y : ReadBlock). eqb y.id id) (rest ++ b ∷ [])) ≡ cond c (Some x) (find (λ (y : ReadBlock). eqb y.id id) rest)
    at true h more = refl
    at false h more = more h

-- the transactions of a kept block are the same when one more is kept
txs_more : (kept : List ReadBlock) (b : ReadBlock) (id : ℕ) → has (ids_of kept) id ≡ true → txs_of (kept ++ b ∷ []) id ≡ txs_of kept id
txs_more kept b id there = ap txs_or_none (find_more kept b id there)

map_same : {A : Type 0} (f g : ℕ → A) (xs : List ℕ) → ((x : ℕ) → has xs x ≡ true → f x ≡ g x) → map f xs ≡ map g xs
map_same f g [] h = refl
map_same {A} f g (x ∷ xs) h =
    ap (λ (y : A). y ∷ map f xs) (h x (or_left (eqb x x) (has xs x) (eq-eqb x x refl)))
    ∙ ap (λ (l : List A). g x ∷ l) (map_same f g xs (λ y there. h y (or_right (eqb x y) (has xs y) there)))

flat_map_same : (f g : ℕ → List ℕ) (xs : List ℕ) → ((x : ℕ) → has xs x ≡ true → f x ≡ g x) → flat_map f xs ≡ flat_map g xs
flat_map_same f g [] h = refl
flat_map_same f g (x ∷ xs) h =
    ap (λ (y : List ℕ). y ++ flat_map f xs) (h x (or_left (eqb x x) (has xs x) (eq-eqb x x refl)))
    ∙ ap (λ (l : List ℕ). g x ++ l) (flat_map_same f g xs (λ y there. h y (or_right (eqb x y) (has xs y) there)))

pub AreCarried-kept : (kept : List ReadBlock) (b : ReadBlock) (blocks : Numbered) (k : Carried) → AreNumbered kept blocks → AreCarried kept blocks k → AreCarried (kept ++ b ∷ []) blocks k
AreCarried-kept kept b blocks k n h =
    record {
      carried = h.carried;
      theirs = subst (λ (l : List (List Transaction)). Carries l k)
          (sym (map_same (txs_of (kept ++ b ∷ [])) (txs_of kept) blocks.ids (λ id there. txs_more kept b id (n.there id there)))) h.theirs;
      ids =
          h.ids
          ∙ ap each_once (sym (flat_map_same (λ id. map id_of (txs_of (kept ++ b ∷ []) id)) (λ id. map id_of (txs_of kept id)) blocks.ids
          (λ id there. ap (map id_of) (txs_more kept b id (n.there id there)))));
      sound = h.sound;
    }

-- ---- genesis alone

pub carried_alone : (kept : List ReadBlock) (blocks : Numbered) (k : Carried) (id : ℕ) (ts : List Transaction) → txs_of kept id ≡ ts → blocks.ids ≡ id ∷ [] → blocks.parents ≡ [] ∷ []
    → IsCarried nothing → IsNumbered blocks → k ≡ with_block blocks nothing ts → IsCarried k → AreCarried kept blocks k
carried_alone kept blocks k id ts theirs ids parents none n added is =
    record {
      carried = is;
      theirs =
          subst (λ (x : Carried). Carries (map (txs_of kept) blocks.ids) x) (sym added)
          (subst (λ (l : List (List Transaction)). Carries l (with_block blocks nothing ts)) (sym lists) (block_carried blocks [] nothing ts none none_carried));
      ids =
          ap (λ (x : Carried). map id_of x.txs) added ∙ carriers_ids blocks nothing ts
          ∙ ap (λ (l : List Transaction). fold with_id [] (map id_of l)) (sym theirs)
          ∙ ap each_once (sym (append-nil (map id_of (txs_of kept id))))
          ∙ ap (λ (l : List ℕ). each_once (tx_ids_in kept l)) (sym ids);
      sound =
          subst (λ (x : Carried). AreSound blocks x) (sym added)
          (sound_block blocks nothing ts none n.order (let some : 0 < length blocks.parents = n.some in some) (λ i d lt. absurd (omega (arith, lt))));
    }
  where
    lists : map (txs_of kept) blocks.ids ≡ [] ++ ts ∷ []
    lists = ap (map (txs_of kept)) ids ∙ ap (λ (l : List Transaction). l ∷ []) theirs

-- ---- the blocks of the carriers

pub are_of : (kept : List ReadBlock) (blocks : Numbered) (k : Carried) → IsNumbered blocks → AreCarried kept blocks k → AreOf blocks k
are_of kept blocks k n h = record { long = sym (carried_count kept blocks k n h); order = n.order; sound = h.sound }
