-- The same valid blocks in two orders: all that is said of blocks, transactions and balances is the same.
use Rattle.std.proofs.Common.{◌≡◌, ℕ, List, length}
use Rattle.std.specs.Prelude.{Contains, ◌↔◌}
use Rattle.sp_block.specs.Block.{ReadBlock}
use Rattle.sp_model.specs.declared.profile.Profile.{Profile}
use Rattle.sp_model.specs.Graph.{has}
use Rattle.sp_model.specs.Votes.{word}
use Rattle.sp_pool.specs.Kept.{AreApart, graph_in, present}
use Rattle.sp_carry.specs.Ledger.{is_accepted, IsPlain}
use Rattle.sp_carry.specs.Money.{balance}
use Rattle.sp_carry.proofs.Members.{contains_from_in, in_from_contains}
use Rattle.sp_engine.specs.AnyOrder.{AreSameArrivals}
use Rattle.sp_engine.specs.Arrivals.{kept_by_all}
use Rattle.sp_engine.specs.Transactions.{ledger_of, state_of, tx_ids}
use Rattle.sp_engine.proofs.Alike.{same_accepted, same_balance, same_count, same_plain, same_present, same_present_count, same_state, same_tx_ids, same_word}
use Rattle.sp_engine.proofs.SameKept.{AreAlike, same_kept}

pub kept_keeps : (bits : ℕ) (genesis : ReadBlock) (arrivals others : List (List ℕ)) (block : ReadBlock) → AreSameArrivals bits genesis arrivals others → Contains (kept_by_all bits genesis arrivals) block ↔ Contains (kept_by_all bits genesis others) block
kept_keeps bits genesis arrivals others block same =
    let alike : AreAlike (kept_by_all bits genesis arrivals) (kept_by_all bits genesis others) = same_kept bits genesis arrivals others same in (
      λ h. contains_from_in (kept_by_all bits genesis others) block (alike.into block (in_from_contains (kept_by_all bits genesis arrivals) block h)),
      λ h. contains_from_in (kept_by_all bits genesis arrivals) block (alike.onto block (in_from_contains (kept_by_all bits genesis others) block h)),
    )

pub apart_keeps : (bits : ℕ) (genesis : ReadBlock) (arrivals others : List (List ℕ)) → AreSameArrivals bits genesis arrivals others → AreApart (kept_by_all bits genesis arrivals) × AreApart (kept_by_all bits genesis others)
apart_keeps bits genesis arrivals others same = (let alike = same_kept bits genesis arrivals others same in (alike.apart, alike.other_apart))

pub present_keeps : (bits : ℕ) (genesis : ReadBlock) (arrivals others : List (List ℕ)) (id : ℕ) → AreSameArrivals bits genesis arrivals others
    → has (present (kept_by_all bits genesis arrivals)) id ≡ has (present (kept_by_all bits genesis others)) id
present_keeps bits genesis arrivals others id same = same_present (kept_by_all bits genesis arrivals) (kept_by_all bits genesis others) (same_kept bits genesis arrivals others same) id

pub present_count_keeps : (bits : ℕ) (genesis : ReadBlock) (arrivals others : List (List ℕ)) → AreSameArrivals bits genesis arrivals others
    → length (present (kept_by_all bits genesis arrivals)) ≡ length (present (kept_by_all bits genesis others))
present_count_keeps bits genesis arrivals others same = same_present_count (kept_by_all bits genesis arrivals) (kept_by_all bits genesis others) (same_kept bits genesis arrivals others same)

pub count_keeps : (bits : ℕ) (genesis : ReadBlock) (arrivals others : List (List ℕ)) → AreSameArrivals bits genesis arrivals others
    → length (kept_by_all bits genesis arrivals) ≡ length (kept_by_all bits genesis others)
count_keeps bits genesis arrivals others same = same_count (kept_by_all bits genesis arrivals) (kept_by_all bits genesis others) (same_kept bits genesis arrivals others same)

pub word_keeps : (profile : Profile) (bits : ℕ) (genesis : ReadBlock) (arrivals others : List (List ℕ)) (x y : ℕ) → AreSameArrivals bits genesis arrivals others
    → word (graph_in profile (kept_by_all bits genesis others)) (present (kept_by_all bits genesis others)) x y ≡ word (graph_in profile (kept_by_all bits genesis arrivals)) (present (kept_by_all bits genesis arrivals)) x y
word_keeps profile bits genesis arrivals others x y same = same_word (kept_by_all bits genesis arrivals) (kept_by_all bits genesis others) (same_kept bits genesis arrivals others same) profile x y

pub ids_keep : (bits : ℕ) (genesis : ReadBlock) (arrivals others : List (List ℕ)) (id : ℕ) → AreSameArrivals bits genesis arrivals others
    → has (tx_ids (kept_by_all bits genesis arrivals)) id ≡ has (tx_ids (kept_by_all bits genesis others)) id
ids_keep bits genesis arrivals others id same = same_tx_ids (kept_by_all bits genesis arrivals) (kept_by_all bits genesis others) (same_kept bits genesis arrivals others same) id

pub plain_keeps : (profile : Profile) (bits : ℕ) (genesis : ReadBlock) (arrivals others : List (List ℕ)) → AreSameArrivals bits genesis arrivals others
    → IsPlain (ledger_of profile (kept_by_all bits genesis arrivals)) (present (kept_by_all bits genesis arrivals))
    → IsPlain (ledger_of profile (kept_by_all bits genesis others)) (present (kept_by_all bits genesis others))
plain_keeps profile bits genesis arrivals others same plain = same_plain (kept_by_all bits genesis arrivals) (kept_by_all bits genesis others) (same_kept bits genesis arrivals others same) plain

pub accepted_keeps : (profile : Profile) (bits : ℕ) (genesis : ReadBlock) (arrivals others : List (List ℕ)) (id : ℕ) → AreSameArrivals bits genesis arrivals others
    → IsPlain (ledger_of profile (kept_by_all bits genesis arrivals)) (present (kept_by_all bits genesis arrivals))
    → is_accepted (ledger_of profile (kept_by_all bits genesis others)) (present (kept_by_all bits genesis others)) id ≡ is_accepted (ledger_of profile (kept_by_all bits genesis arrivals)) (present (kept_by_all bits genesis arrivals)) id
accepted_keeps profile bits genesis arrivals others id same plain = same_accepted (kept_by_all bits genesis arrivals) (kept_by_all bits genesis others) (same_kept bits genesis arrivals others same) profile id plain

pub state_keeps : (profile : Profile) (bits : ℕ) (genesis : ReadBlock) (arrivals others : List (List ℕ)) (id : ℕ) → AreSameArrivals bits genesis arrivals others
    → IsPlain (ledger_of profile (kept_by_all bits genesis arrivals)) (present (kept_by_all bits genesis arrivals))
    → state_of profile (kept_by_all bits genesis others) id ≡ state_of profile (kept_by_all bits genesis arrivals) id
state_keeps profile bits genesis arrivals others id same plain = same_state (kept_by_all bits genesis arrivals) (kept_by_all bits genesis others) (same_kept bits genesis arrivals others same) profile id plain

pub balance_keeps : (profile : Profile) (bits : ℕ) (genesis : ReadBlock) (arrivals others : List (List ℕ)) (lock : ℕ) → AreSameArrivals bits genesis arrivals others
    → IsPlain (ledger_of profile (kept_by_all bits genesis arrivals)) (present (kept_by_all bits genesis arrivals))
    → balance (ledger_of profile (kept_by_all bits genesis others)) (present (kept_by_all bits genesis others)) lock ≡ balance (ledger_of profile (kept_by_all bits genesis arrivals)) (present (kept_by_all bits genesis arrivals)) lock
balance_keeps profile bits genesis arrivals others lock same plain = same_balance profile (kept_by_all bits genesis arrivals) (kept_by_all bits genesis others) lock (same_kept bits genesis arrivals others same) plain
