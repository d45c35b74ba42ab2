-- Where no two transactions of the present blocks have one id, those that stand for the first of their id don't conflict in a block, and all they leave
-- is at most what genesis grants.
use Rattle.std.proofs.Common.{◌≡◌, ℕ, ◌≤◌, Bool, true, cond, eqb, List, [], ◌∷◌, map, Some, refl, sym, ap, subst, ◌∙◌}
use Rattle.std.specs.Prelude.{find, sum_by, Contains, IsFalse, IsTrue}
use Rattle.std.specs.List.{list_all}
use Rattle.std.proofs.lemmas.Bool.{eq-eqb}
use Rattle.sp_tx.specs.Parts.{Transaction}
use Rattle.sp_block.specs.Block.{ReadBlock}
use Rattle.sp_model.specs.declared.profile.Profile.{Profile}
use Rattle.sp_model.specs.Graph.{AreDistinct, has, IsDownset, IsGraph, keys, parents_of}
use Rattle.sp_model.proofs.Pasts.{complete_downset}
use Rattle.sp_model.proofs.Paths.{complete_round}
use Rattle.sp_model.proofs.Sets.{has-filter_from}
use Rattle.sp_pool.specs.Kept.{AreKept, graph_in, graph_of, present}
use Rattle.sp_pool.proofs.Profiles.{downset_in}
use Rattle.sp_carry.specs.Payment.{conflicts, paid_amount, Payment, payment_of, Spent}
use Rattle.sp_carry.specs.Ledger.{accepted_carriers, carried, HasNoTwins, is_accepted, IsPlain, NamesOnce}
use Rattle.sp_carry.proofs.Conflicts.{sources_accepted, two_accepted}
use Rattle.sp_carry.proofs.Genesis.{balances_in_graph}
use Rattle.sp_carry.proofs.Grants.{carried_in}
use Rattle.sp_carry.proofs.Members.{any_of_member, contains_from_in, in_flat_map, in_from_contains, IsIn}
use Rattle.sp_engine.specs.Transactions.{balance_by_id, ledger_by_id, ledger_of, txs_of, txs_or_none}
use Rattle.sp_engine.proofs.ByIds.{txs_own}
use Rattle.sp_engine.proofs.Twins.{named_once, no_twins}

has_from_in : (set : List ℕ) (z : ℕ) → IsIn set z → has set z ≡ true
has_from_in set z there = any_of_member (λ k. eqb k z) set z there (eq-eqb z z refl)

-- the transactions of the first block
abbrev txs_of_first : List ReadBlock → List Transaction
txs_of_first [] = []
txs_of_first (b ∷ bs) = b.txs

-- the present blocks hold the past of each, in either profile
present_down : (profile : Profile) (kept : List ReadBlock) → IsDownset (graph_in profile kept) (present kept)
present_down profile kept = downset_in profile kept (present kept) (complete_downset (graph_of kept))

module _ (profile : Profile) (kept : List ReadBlock) (h : AreKept kept) (plain : IsPlain (ledger_of profile kept) (present kept)) where
  same_carried : (t : Payment) → Contains (carried (ledger_by_id profile kept) (present kept)) t → Contains (carried (ledger_of profile kept) (present kept)) t
  same_carried t there =
      let z : (z : ℕ) × IsIn (present kept) z × IsIn ((ledger_by_id profile kept).txs z) t =
      in_flat_map (ledger_by_id profile kept).txs (present kept) t (in_from_contains (carried (ledger_by_id profile kept) (present kept)) t there) in
      let here : has (present kept) z.0 ≡ true = has_from_in (present kept) z.0 z.1 in
      contains_from_in (carried (ledger_of profile kept) (present kept)) t
      (carried_in (ledger_of profile kept) (present kept) z.0 t here (subst (λ (ts : List Payment). IsIn ts t) (txs_own profile kept h.apart plain z.0 here) z.2))

  -- so what the blocks' own transactions meet, these meet too
  apart_by_id : HasNoTwins (ledger_by_id profile kept) (present kept)
  apart_by_id = λ z t u there in_t in_u.
      no_twins profile kept h z t u there (subst (λ (ts : List Payment). Contains ts t) (txs_own profile kept h.apart plain z there) in_t)
      (subst (λ (ts : List Payment). Contains ts u) (txs_own profile kept h.apart plain z there) in_u)

  once_by_id : NamesOnce (ledger_by_id profile kept) (present kept)
  once_by_id = λ t there. named_once profile kept h t (same_carried t there)

  plain_by_id : IsPlain (ledger_by_id profile kept) (present kept)
  plain_by_id = λ t u in_t in_u same. plain t u (same_carried t in_t) (same_carried u in_u) same

  pub none_conflict : (t u : Payment) → Contains (accepted_carriers (ledger_by_id profile kept) (present kept)) t → Contains (accepted_carriers (ledger_by_id profile kept) (present kept)) u
      → IsFalse (conflicts t u)
  none_conflict t u in_t in_u = two_accepted (ledger_by_id profile kept) (present kept) t u (present_down profile kept) apart_by_id in_t in_u

  -- ---- what genesis grants

  genesis_present : (graph : IsGraph (graph_in profile kept) h.genesis.id) → has (present kept) h.genesis.id ≡ true
  genesis_present graph =
      complete_round (graph_of kept) h.genesis.id
      (has-filter_from (λ z. list_all (λ parent. has (present kept) parent) (parents_of (graph_of kept) z)) (keys (graph_of kept)) h.genesis.id graph.there
      (ap (list_all (λ parent. has (present kept) parent)) graph.rootless))

  genesis_txs : txs_of kept h.genesis.id ≡ h.genesis.txs
  genesis_txs =
      ap (λ (k : List ReadBlock). txs_of k h.genesis.id) h.first
      ∙ ap (λ (c : Bool). txs_or_none (cond c (Some h.genesis) (find (λ (b : ReadBlock). eqb b.id h.genesis.id) h.others))) (eq-eqb h.genesis.id h.genesis.id refl)

  at_most_granted : (locks : List ℕ) → IsGraph (graph_in profile kept) h.genesis.id → AreDistinct locks
      → sum_by (balance_by_id profile kept) locks ≤ sum_by paid_amount (map payment_of h.genesis.txs)
  unfolding balance_by_id
  at_most_granted locks graph apart =
      subst (λ (ts : List Payment). sum_by (balance_by_id profile kept) locks ≤ sum_by paid_amount ts)
      (txs_own profile kept h.apart plain h.genesis.id (genesis_present graph) ∙ ap (map payment_of) genesis_txs)
      (balances_in_graph (ledger_by_id profile kept) (present kept) h.genesis.id locks graph (present_down profile kept) plain_by_id apart_by_id once_by_id apart)

  pub all_granted : (genesis : ReadBlock) (others : List ReadBlock) (locks : List ℕ) → IsGraph (graph_in profile kept) h.genesis.id → kept ≡ genesis ∷ others → AreDistinct locks
      → sum_by (balance_by_id profile kept) locks ≤ sum_by paid_amount (map payment_of genesis.txs)
  all_granted genesis others locks graph first apart =
      subst (λ (ts : List Transaction). sum_by (balance_by_id profile kept) locks ≤ sum_by paid_amount (map payment_of ts))
      (ap txs_of_first (sym h.first ∙ first)) (at_most_granted locks graph apart)

-- the source of each input is accepted, whatever ids there are
pub sources_by_id : (profile : Profile) (kept : List ReadBlock) (t : Payment) (i : Spent) → Contains (accepted_carriers (ledger_by_id profile kept) (present kept)) t → Contains t.inputs i
    → IsTrue (is_accepted (ledger_by_id profile kept) (present kept) i.from.tx)
sources_by_id profile kept t i in_t in_i = sources_accepted (ledger_by_id profile kept) (present kept) t i (present_down profile kept) in_t in_i
