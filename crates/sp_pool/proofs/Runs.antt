-- A pool to which a list of blocks is offered, one after another.
use Rattle.std.proofs.Common.{◌≡◌, ℕ, Bool, true, false, cond, not, ◌||◌, List, [], ◌∷◌, ◌++◌, append_assoc, append-nil, eqb, map, refl, sym, ap, subst, ◌∙◌, arith, None, Some}
use Rattle.std.specs.Prelude.{All}
use Rattle.std.specs.List.{flat_map, list_all}
use Rattle.std.proofs.lemmas.Bool.{and_parts, eq-eqb, false≢true}
use Rattle.std.proofs.lemmas.Grind.{flat_map-append}
use Rattle.std.proofs.lemmas.List.Elements.{All-head, All-push, All-tail}
use Rattle.std.proofs.lemmas.List.Folds.{list_any-append}
use Rattle.std.proofs.lemmas.List.Sums.{fold-append}
use Rattle.sp_block.specs.Block.{IsBlock, IsOther, ReadBlock}
use Rattle.sp_model.specs.Graph.{AreDistinct, complete, has, parents_or_none, rounds}
use Rattle.sp_pool.specs.Arrivals.{AreKeptOf, AreValid, none, valid}
use Rattle.sp_pool.specs.Kept.{is_ready, IsNext, keep, kept_of, node_of, present, Releases}
use Rattle.sp_pool.specs.Offers.{AreAnswers, IsAnswer, order_of_presence, released_by}
use Rattle.sp_pool.specs.declared.answers.Offer.{Offer}
use Rattle.sp_pool.specs.declared.answers.Offer.TheVariants.{Known, Full, Waiting, Present}
use Rattle.sp_pool.proofs.KeptBlocks.{AreDistinct-push, has-push}
use Rattle.sp_pool.proofs.Parents.{found_passes}

-- ---- no block becomes present twice

next_absent : (kept : List ReadBlock) (set : List ℕ) (id : ℕ) → IsNext kept set id → has set id ≡ false
next_absent kept set id h =
    let ready = found_passes (is_ready set) kept h.block h.earliest in
    ap (has set) (sym h.same) ∙ isnt (has set h.block.id) (and_parts (not (has set h.block.id)) (list_all (has set) h.block.parents) ready).0
  where
    isnt : (c : Bool) → not c ≡ true → c ≡ false
    isnt true h = absurd (false≢true h)
    isnt false h = refl

pub Releases-distinct : (kept : List ReadBlock) (set told ids : List ℕ) → ((z : ℕ) → has set z ≡ has told z) → AreDistinct told → Releases kept set ids → AreDistinct (told ++ ids)
unfolding Releases
Releases-distinct kept set told [] same apart h = subst (λ (l : List ℕ). AreDistinct l) (sym (append-nil told)) apart
Releases-distinct kept set told (id ∷ ids) same apart h =
    let fresh : has told id ≡ false = sym (same id) ∙ next_absent kept set id h.0 in
    let more : (z : ℕ) → has (set ++ id ∷ []) z ≡ has (told ++ id ∷ []) z =
    λ z. has-push set id z ∙ ap (λ (c : Bool). c || eqb id z) (same z) ∙ sym (has-push told id z) in
    subst (λ (l : List ℕ). AreDistinct l) (append_assoc told (id ∷ []) ids)
    (Releases-distinct kept (set ++ id ∷ []) (told ++ id ∷ []) ids more (AreDistinct-push told id apart fresh) h.1)

-- ---- turns

-- these blocks were offered so far, and these are left
pub record Offered (genesis : ReadBlock) (arrivals offered rest kept : List ReadBlock) (answers : List Offer) : Type 0 where
  pub whole : arrivals ≡ offered ++ rest
  pub are : kept ≡ kept_of genesis offered
  pub blocks : All IsBlock offered
  pub answered : (later : List ReadBlock) (more : List Offer) → AreAnswers kept later more → AreAnswers (genesis ∷ []) (offered ++ later) (answers ++ more)
  pub told : (id : ℕ) → has (present kept) id ≡ has (order_of_presence genesis answers) id
  pub once : AreDistinct (order_of_presence genesis answers)

order-push : (genesis : ReadBlock) (answers : List Offer) (offer : Offer) → order_of_presence genesis (answers ++ offer ∷ []) ≡ order_of_presence genesis answers ++ released_by offer
order-push genesis answers offer =
    ap (λ (l : List ℕ). genesis.id ∷ l) (flat_map-append released_by answers (offer ∷ []) ∙ ap (λ (l : List ℕ). flat_map released_by answers ++ l) (append-nil (released_by offer)))

once-push : (kept : List ReadBlock) (b : ReadBlock) (told : List ℕ) (offer : Offer) → ((z : ℕ) → has (present kept) z ≡ has told z) → AreDistinct told → IsAnswer kept b offer
    → AreDistinct (told ++ released_by offer)
once-push kept b told Known same apart h = subst (λ (l : List ℕ). AreDistinct l) (sym (append-nil told)) apart
once-push kept b told Full same apart h = subst (λ (l : List ℕ). AreDistinct l) (sym (append-nil told)) apart
once-push kept b told Waiting same apart h = subst (λ (l : List ℕ). AreDistinct l) (sym (append-nil told)) apart
once-push kept b told (Present ids) same apart h = Releases-distinct (kept ++ b ∷ []) (present kept) told ids same apart h.order

pub Offered-more : (genesis : ReadBlock) (arrivals offered rest kept after : List ReadBlock) (answers : List Offer) (b : ReadBlock) (offer : Offer)
    → Offered genesis arrivals offered (b ∷ rest) kept answers → IsBlock b → after ≡ keep kept b → IsAnswer kept b offer
    → ((id : ℕ) → has (present after) id ≡ (has (present kept) id || has (released_by offer) id))
    → Offered genesis arrivals (offered ++ b ∷ []) rest after (answers ++ offer ∷ [])
Offered-more genesis arrivals offered rest kept after answers b offer h block kept_now answer grown =
    let order = order-push genesis answers offer in
    record {
      whole = h.whole ∙ sym (append_assoc offered (b ∷ []) rest);
      are = kept_now ∙ ap (λ (k : List ReadBlock). keep k b) h.are ∙ sym (fold-append keep (genesis ∷ []) offered (b ∷ []));
      blocks = All-push IsBlock offered b h.blocks block;
      answered = λ later more rest_answered.
          (let now : AreAnswers (keep kept b) later more = subst (λ (k : List ReadBlock). AreAnswers k later more) kept_now rest_answered in
          subst (λ (l : List ReadBlock). AreAnswers (genesis ∷ []) l ((answers ++ offer ∷ []) ++ more)) (sym (append_assoc offered (b ∷ []) later))
          (subst (λ (l : List Offer). AreAnswers (genesis ∷ []) (offered ++ b ∷ later) l) (sym (append_assoc answers (offer ∷ []) more))
          (h.answered (b ∷ later) (offer ∷ more) (answer, now))));
      told = λ id.
          grown id ∙ ap (λ (c : Bool). c || has (released_by offer) id) (h.told id)
          ∙ sym (list_any-append (λ k. eqb k id) (order_of_presence genesis answers) (released_by offer)) ∙ ap (λ (l : List ℕ). has l id) (sym order);
      once = subst (λ (l : List ℕ). AreDistinct l) (sym order) (once-push kept b (order_of_presence genesis answers) offer h.told h.once answer);
    }

-- ---- over the bytes

-- the block that is offered next is another one
pub next_other : (genesis : ReadBlock) (arrivals offered rest kept : List ReadBlock) (answers : List Offer) (b : ReadBlock)
    → Offered genesis arrivals offered (b ∷ rest) kept answers → All IsOther arrivals → IsOther b
next_other genesis arrivals offered rest kept answers b h other = at offered (subst (λ (l : List ReadBlock). All IsOther l) h.whole other)
  where
    at : (bs : List ReadBlock) → All IsOther (bs ++ b ∷ rest) → IsOther b
    at [] all = All-head IsOther b rest all
    at (a ∷ bs) all = at bs (All-tail IsOther a (bs ++ b ∷ rest) all)

pub AreValid-blocks : (blocks : List ReadBlock) → All IsBlock blocks → All IsOther blocks → AreValid 0 (map (λ (b : ReadBlock). b.bytes) blocks) blocks
AreValid-blocks [] whole other = none
AreValid-blocks (b ∷ bs) whole other =
    let block = All-head IsBlock b bs whole in
    valid b.bytes b (map (λ (b : ReadBlock). b.bytes) bs) bs
    (record {
      spells = All-head IsOther b bs other;
      whole = ap (λ (id : ℕ). let x : ReadBlock = record b { id = id } in x) block.id;
      work = λ place below. absurd (omega arith);
    })
    (AreValid-blocks bs (All-tail IsBlock b bs whole) (All-tail IsOther b bs other))

-- what stands once all were offered
pub record OfferedAll (genesis : ReadBlock) (arrivals kept : List ReadBlock) (answers : List Offer) : Type 0 where
  pub are : kept ≡ kept_of genesis arrivals
  pub by_bytes : AreKeptOf genesis 0 (map (λ (b : ReadBlock). b.bytes) arrivals) kept
  pub answered : AreAnswers (genesis ∷ []) arrivals answers

pub Offered-all : (genesis : ReadBlock) (arrivals offered rest kept : List ReadBlock) (answers : List Offer) → Offered genesis arrivals offered rest kept answers → rest ≡ []
    → All IsOther arrivals → OfferedAll genesis arrivals kept answers
Offered-all genesis arrivals offered rest kept answers h end other =
    let all : arrivals ≡ offered = h.whole ∙ ap (λ (l : List ReadBlock). offered ++ l) end ∙ append-nil offered in
    let are : kept ≡ kept_of genesis arrivals = h.are ∙ ap (kept_of genesis) (sym all) in
    let last : AreAnswers (genesis ∷ []) (offered ++ []) (answers ++ []) = h.answered [] [] tt in
    record {
      are = are;
      by_bytes = record { blocks = arrivals; valid = AreValid-blocks arrivals (subst (λ (l : List ReadBlock). All IsBlock l) (sym all) h.blocks) other; are = are };
      answered =
          subst (λ (l : List ReadBlock). AreAnswers (genesis ∷ []) l answers) (append-nil offered ∙ sym all)
          (subst (λ (l : List Offer). AreAnswers (genesis ∷ []) (offered ++ []) l) (append-nil answers) last);
    }

-- ---- genesis alone

pub present_alone : (genesis : ReadBlock) → genesis.parents ≡ [] → present (genesis ∷ []) ≡ genesis.id ∷ []
unfolding complete rounds
present_alone genesis no_parents = at (eqb genesis.id genesis.id) (eq-eqb genesis.id genesis.id refl)
  where
    at : (c : Bool) → c ≡ true
        → cond (list_all (λ parent. has [] parent) (parents_or_none (cond c (Some (node_of genesis)) None))) (genesis.id ∷ []) [] ≡ genesis.id ∷ []
    at true e = ap (λ (parents : List ℕ). cond (list_all (λ parent. has [] parent) parents) (genesis.id ∷ []) []) no_parents
    at false e = absurd (false≢true e)
