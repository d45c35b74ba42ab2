-- What a test's ledger holds stays so as blocks come, are carried and are decided on.
use Rattle.std.proofs.Common.{◌≡◌, ℕ, ◌<◌, List, [], ◌∷◌, length, sym, subst, arith, length-append}
use Rattle.sp_tx.specs.Parts.{Transaction}
use Rattle.sp_dag.specs.Numbered.{AreInOrder, IsNumbered, Numbered, with_next}
use Rattle.sp_carry.specs.Carried.{Carried, IsCarried, with_block, with_carriers}
use Rattle.sp_carry.proofs.Blocks.{blocks_all}
use Rattle.sp_carry.proofs.Soundness.{grown_sound, sound_block}
use Rattle.sp_accept.specs.Acceptance.{Acceptance, IsRight}
use Rattle.sp_accept.specs.Rows.{AreOf}
use Rattle.sp_accept.proofs.StillRight.{right_of_block, right_of_graph}
use Rattle.sp_tests_ledger.specs.Decided.{IsDecided}

-- one block more in the graph
pub stands : (table new : Numbered) (id salt : ℕ) (row : List ℕ) (k : Carried) (a : Acceptance) (n : ℕ) → new ≡ with_next table id salt row → IsNumbered table → AreInOrder new.parents
    → IsDecided table k a n → IsDecided new k a n
stands table new id salt row k a n is numbered order h =
    subst (λ (t : Numbered). IsDecided t k a n) (sym is) (record {
      order = subst (λ (t : Numbered). AreInOrder t.parents) is order;
      wide = omega (arith, h.wide, length-append table.parents (row ∷ []));
      carried = h.carried;
      sound = grown_sound table id salt row k h.order h.wide h.carried h.sound;
      right = right_of_graph table id salt row k a h.carried numbered h.wide h.right;
      last = h.last;
    })

-- the carriers of one block more
pub carries : (table : Numbered) (k new : Carried) (ts : List Transaction) (a : Acceptance) (n : ℕ) → new ≡ with_block table k ts → k.blocks < length table.parents → IsCarried new
    → IsDecided table k a n → IsDecided table new a n
carries table k new ts a n is next carried h =
    subst (λ (l : Carried). IsDecided table l a n) (sym is) (record {
      order = h.order;
      wide = (let same : (with_carriers table k ts).blocks ≡ k.blocks = blocks_all table k ts in omega (arith, same, next));
      carried = subst IsCarried is carried;
      sound = sound_block table k ts h.carried h.order next h.sound;
      right = right_of_block table k ts a h.carried (subst IsCarried is carried) h.order h.wide h.right;
      last = h.last;
    })

-- a decision on all that are carried
pub decides : (table : Numbered) (k : Carried) (a new : Acceptance) (n m : ℕ) → IsRight table k new → new.blocks ≡ m → IsDecided table k a n → IsDecided table k new m
decides table k a new n m right last h = record {
  order = h.order;
  wide = h.wide;
  carried = h.carried;
  sound = h.sound;
  right = right;
  last = last;
}

-- where all blocks are carried
pub of_all : (table : Numbered) (k : Carried) (a : Acceptance) (n : ℕ) → k.blocks ≡ length table.parents → IsDecided table k a n → AreOf table k
of_all table k a n all h = record { long = sym all; order = h.order; sound = h.sound }
