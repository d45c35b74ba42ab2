-- What was decided on before blocks join: the carriers that stand then come first, and the flags stay right. Where nothing was decided, no flag is right to be set.
use Rattle.std.proofs.Common.{◌≡◌, ℕ, suc, ◌<◌, ◌≤◌, List, [], ◌∷◌, ◌++◌, length, refl, sym, ap, subst, ◌∙◌, ltb, arith, length-append}
use Rattle.std.specs.Prelude.{All, filter}
use Rattle.std.proofs.lemmas.Bool.{lt-ltb, le-ltb}
use Rattle.std.proofs.lemmas.List.{append-nil}
use Rattle.std.proofs.lemmas.List.Elements.{filter-append}
use Rattle.sp_tx.specs.Parts.{Transaction}
use Rattle.sp_dag.specs.Numbered.{AreInOrder, IsNumbered, Numbered, with_next}
use Rattle.sp_carry.specs.declared.carrier.Carrier.{Carrier}
use Rattle.sp_carry.specs.Carried.{Carried, IsCarried, with_block}
use Rattle.sp_carry.proofs.Blocks.{blocks_all}
use Rattle.sp_accept.specs.Acceptance.{Acceptance, IsRight}
use Rattle.sp_accept.specs.Changes.{carriers_below, TellsChanges}
use Rattle.sp_accept.specs.Rows.{no_row, row_at}
use Rattle.sp_accept.proofs.Grown.{GoesOn, goes_all}
use Rattle.sp_accept.proofs.StillRight.{right_of_block, right_of_graph}

-- all carriers stand in the blocks
pub all_below : (n : ℕ) (rows : List Carrier) → All (λ (r : Carrier). r.block < n) rows → carriers_below rows n ≡ length rows
all_below n [] all = refl
all_below n (r ∷ rs) all =
    let rest : carriers_below rs n ≡ length rs = all_below n rs (λ i d less. all (suc i) d (omega (arith, less))) in
    rw (lt-ltb r.block n (all 0 no_row (omega arith))) (ap suc rest)

none_below : (n : ℕ) (rows : List Carrier) → All (λ (r : Carrier). n ≤ r.block) rows → filter (λ (r : Carrier). ltb r.block n) rows ≡ []
none_below n [] all = refl
none_below n (r ∷ rs) all = rw (le-ltb r.block n (all 0 no_row (omega arith))) (none_below n rs (λ i d less. all (suc i) d (omega (arith, less))))

-- those of a further block are of none of the first ones
goes_below : (k k' : Carried) (n : ℕ) → GoesOn k k' → n ≤ k.blocks → carriers_below k'.rows n ≡ carriers_below k.rows n
goes_below k k' n on le =
    let first : List Carrier = filter (λ (r : Carrier). ltb r.block n) k.rows in
    ap (λ (rs : List Carrier). carriers_below rs n) on.rows
    ∙ ap length (filter-append (λ (r : Carrier). ltb r.block n) k.rows on.more ∙ ap (λ (rs : List Carrier). first ++ rs) (none_below n on.more (λ i d less. (let later : k.blocks ≤ _ = on.later i d less in omega (arith, later, le)))) ∙ append-nil first)

pub block_below : (table : Numbered) (k new : Carried) (ts : List Transaction) (n : ℕ) → new ≡ with_block table k ts → n ≤ k.blocks → carriers_below new.rows n ≡ carriers_below k.rows n
block_below table k new ts n is le =
    ap (λ (c : Carried). carriers_below c.rows n) is ∙ goes_below k (with_block table k ts) n (goes_all table k ts) le

pub block_longer : (table : Numbered) (k new : Carried) (ts : List Transaction) → new ≡ with_block table k ts → k.blocks ≤ new.blocks
block_longer table k new ts is = omega (arith, ap (λ (c : Carried). c.blocks) is, blocks_all table k ts)

-- the flags stay right where a block is numbered, and its carriers are added
pub block_right : (before after : Numbered) (id salt : ℕ) (ps : List ℕ) (k new : Carried) (ts : List Transaction) (a : Acceptance) → after ≡ with_next before id salt ps → IsNumbered before
    → AreInOrder after.parents → IsCarried k → IsCarried new → k.blocks ≤ length before.parents → new ≡ with_block after k ts → IsRight before k a → IsRight after new a
block_right before after id salt ps k new ts a is numbered order' carried carried' le added right =
    subst (λ (c : Carried). IsRight after c a) (sym added)
    (right_of_block after k ts a carried (subst (λ (c : Carried). IsCarried c) added carried') order'
    (omega (arith, le, ap (λ (n : Numbered). length n.parents) is, length-append before.parents (ps ∷ [])))
    (subst (λ (t : Numbered). IsRight t k a) (sym is) (right_of_graph before id salt ps k a carried numbered le right)))

-- so the first new carrier has the number of those from before, and the changes are told of their blocks
pub first_new : (k new : Carried) (from blocks : ℕ) → from ≡ length k.rows → blocks ≡ k.blocks → IsCarried k → ((n : ℕ) → n ≤ k.blocks → carriers_below new.rows n ≡ carriers_below k.rows n) → from ≡ carriers_below new.rows blocks
first_new k new from blocks is all carried below =
    is ∙ sym (ap (carriers_below new.rows) all ∙ below k.blocks (omega arith) ∙ all_below k.blocks k.rows carried.blocks)

pub told_of : (table : Numbered) (pairs lent : List (ℕ × ℕ)) (n blocks : ℕ) → lent ≡ pairs → blocks ≡ n → TellsChanges table n pairs → TellsChanges table blocks lent
told_of table pairs lent n blocks is all told =
    subst (λ (l : List (ℕ × ℕ)). TellsChanges table blocks l) (sym is) (subst (λ (k : ℕ). TellsChanges table k pairs) (sym all) told)

-- ---- nothing was decided

pub nothing_right : (table : Numbered) (k : Carried) (a : Acceptance) → a ≡ record { blocks = 0; carriers = []; txs = [] } → IsRight table k a
nothing_right table k a none = subst (λ (x : Acceptance). IsRight table k x) (sym none) (record {
  few = omega arith;
  carriers = λ c lt. rw (le-ltb (row_at k.rows c).block 0 (omega arith)) refl;
  no_more = omega arith;
  txs = λ tx lt. refl;
  no_more_txs = omega arith;
})

pub nothing_below : (k : Carried) (a : Acceptance) → a ≡ record { blocks = 0; carriers = []; txs = [] } → 0 ≡ carriers_below k.rows a.blocks
nothing_below k a none = sym (ap (λ (x : Acceptance). carriers_below k.rows x.blocks) none ∙ ap length (none_below 0 k.rows (λ i d less. omega arith)))

pub none_decided : (a : Acceptance) (z : ℕ) → a ≡ record { blocks = 0; carriers = []; txs = [] } → z < a.blocks → ⊥
none_decided a z none lt = omega (arith, lt, ap (λ (x : Acceptance). x.blocks) none)
