-- What a purse holds, and when that is what some transactions ask for.
use Rattle.std.specs.Prelude.{ℕ, ◌≡◌, ◌+◌, Bool, List, [], ◌∷◌, ◌++◌, length, map, flat_map, count_by}
use Rattle.sp_tx.specs.declared.parts.Output.{Output}
use Rattle.sp_tx.specs.Parts.{Transaction}
use Rattle.sp_carry.specs.Payment.{Payment, payment_of, spends}
use Rattle.sp_carry.specs.Money.{Coin, coins}
use Rattle.sp_money.specs.Accepted.{accepted_in}
use Rattle.sp_money.specs.Locks.{locks_of}

-- The outputs in order, whether the transaction of each is accepted, and by how many accepted ones each is spent; the
-- place of each transaction's first output; the locks; and which transactions are accepted
pub record Held : Type 0 where
  pub coins : List Coin
  pub live : List Bool
  pub spenders : List ℕ
  pub starts : List ℕ
  pub locks : List ℕ
  pub accepted : List Bool

-- nothing, for no transactions
abbrev pub nothing : Held
nothing = record { coins = []; live = []; spenders = []; starts = []; locks = []; accepted = [] }

-- the outputs of these transactions, in order
abbrev pub coins_of : List Transaction → List Coin
coins_of txs = flat_map (λ t. coins (payment_of t)) txs

-- for each output of these transactions, the flag of its transaction
abbrev pub lives : List Transaction → List Bool → List Bool
lives [] flags = []
lives (t ∷ ts) [] = []
lives (t ∷ ts) (now ∷ flags) = map (λ (o : Output). now) t.outputs ++ lives ts flags

-- how many of the payments spend the output
abbrev pub spender_count : List Payment → Coin → ℕ
spender_count accepted coin = count_by (λ (t : Payment). spends t coin.name) accepted

-- the place of each transaction's first output, where the first of all has place `first`
abbrev pub starts_from : ℕ → List Transaction → List ℕ
starts_from first [] = []
starts_from first (t ∷ ts) = first ∷ starts_from (first + length t.outputs) ts

abbrev pub starts_of : List Transaction → List ℕ
starts_of txs = starts_from 0 txs

-- the purse is prepared for exactly these transactions
pub record IsOf (txs : List Transaction) (h : Held) : Type 0 where
  pub flags : length h.accepted ≡ length txs
  pub coins : h.coins ≡ coins_of txs
  pub live : h.live ≡ lives txs h.accepted
  pub spenders : h.spenders ≡ map (spender_count (accepted_in txs h.accepted)) (coins_of txs)
  pub starts : h.starts ≡ starts_of txs
  pub locks : h.locks ≡ locks_of txs
