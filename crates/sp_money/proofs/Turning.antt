-- A purse that is of some transactions stays so where one of them turns.
use Rattle.std.proofs.Common.{◌≡◌, ℕ, ◌+◌, ◌<◌, ◌≤◌, Bool, not, List, [], length, get_or, set, sym, ap, subst, ◌∙◌, arith}
use Rattle.std.specs.Prelude.{flat_map, slice_index, slice_index_or}
use Rattle.std.proofs.lemmas.List.{length-set}
use Rattle.sp_tx.specs.Parts.{Transaction, of_parts}
use Rattle.sp_money.specs.Held.{coins_of, starts_from, Held, IsOf}
use Rattle.sp_money.specs.Places.{counted, marked, CanCount}
use Rattle.sp_money.proofs.Counts.{can_turn, counts_turned}
use Rattle.sp_money.proofs.Marks.{lives_long, lives_turned, starts_most}
use Rattle.sp_money.proofs.Puts.{with_counts, with_lives}

abbrev tx_in : List Transaction → ℕ → Transaction
tx_in txs n = slice_index_or txs n (of_parts [] [])

abbrev pub with_flag : Held → ℕ → Bool → Held
with_flag h n now = record h { accepted = set h.accepted n now }

module _ (txs : List Transaction) (h : Held) (n : ℕ) (now : Bool) (of : IsOf txs h) (lt : n < length txs) where
  -- its outputs all have places
  pub outputs_within : (start : ℕ) → start ≡ slice_index h.starts n → start + length (tx_in txs n).outputs ≤ length h.live
  outputs_within start e =
      let at : start ≡ slice_index (starts_from 0 txs) n = e ∙ ap (λ (ns : List ℕ). slice_index ns n) of.starts in
      let most : slice_index (starts_from 0 txs) n + length (tx_in txs n).outputs ≤ 0 + length (flat_map (λ (t : Transaction). t.outputs) txs) = starts_most txs 0 n lt in
      let long : length h.live ≡ length (flat_map (λ (t : Transaction). t.outputs) txs) = ap length of.live ∙ lives_long txs h.accepted of.flags in
      omega arith

  -- its inputs can be counted
  pub inputs_can : get_or h.accepted n now ≡ not now → length h.accepted ≤ 131072 → CanCount now (tx_in txs n).inputs h.coins h.spenders
  inputs_can other few =
      rw (of.coins, of.spenders) (can_turn txs h.accepted n of.flags lt now (coins_of txs) other few)

  pub turned_of : (start : ℕ) (mid next : Held) → get_or h.accepted n now ≡ not now → start ≡ slice_index h.starts n
      → mid ≡ with_lives h (marked h.live start (length (tx_in txs n).outputs) now)
      → next ≡ with_counts mid (counted now (tx_in txs n).inputs mid.coins mid.spenders)
      → IsOf txs (with_flag next n now)
  turned_of start mid next other e f g =
      let is : next ≡ with_counts (with_lives h (marked h.live start (length (tx_in txs n).outputs) now)) (counted now (tx_in txs n).inputs h.coins h.spenders) =
      g ∙ ap (λ (m : Held). with_counts m (counted now (tx_in txs n).inputs m.coins m.spenders)) f in
      subst (λ (m : Held). IsOf txs (with_flag m n now)) (sym is)
      (record {
        flags = length-set h.accepted n now ∙ of.flags;
        coins = of.coins;
        live = ap (λ (bs : List Bool). marked bs start (length (tx_in txs n).outputs) now) of.live
            ∙ lives_turned txs h.accepted n start now of.flags lt (e ∙ ap (λ (ns : List ℕ). slice_index ns n) of.starts);
        spenders = rw (of.coins, of.spenders) (counts_turned txs h.accepted n of.flags lt now (coins_of txs) other);
        starts = of.starts;
        locks = of.locks;
      })
