-- What was added behind the graph, the carriers and the purse is taken back: they are what they were.
use Rattle.std.proofs.Common.{◌≡◌, ℕ, ◌<◌, ◌≤◌, Bool, true, false, cond, List, [], ◌∷◌, ◌++◌, length, take, get_or, nat_lt, refl, sym, ap, subst, ◌∙◌, arith}
use Rattle.std.specs.Prelude.{All, replicate}
use Rattle.std.proofs.lemmas.Bool.Decides.{nat_tests}
use Rattle.std.proofs.lemmas.List.{append-nil, take_all}
use Rattle.std.proofs.lemmas.List.Elements.{All-tail}
use Rattle.std.proofs.Math.Seq.{get_or-append_right}
use Rattle.sp_dag.specs.Numbered.{cut_to, IsNumbered, Numbered}
use Rattle.sp_tx.specs.Parts.{Transaction}
use Rattle.sp_carry.specs.declared.carrier.Carrier.{Carrier}
use Rattle.sp_carry.specs.Carried.{Carried, IsCarried, rows_of_first, used}
use Rattle.sp_carry.specs.Carried as carried
use Rattle.sp_carry.proofs.Fronts.{used-all}
use Rattle.sp_carry.specs.Flags.{is_set}
use Rattle.sp_accept.specs.Acceptance.{Acceptance}
use Rattle.sp_money.specs.Held.{Held, IsOf}
use Rattle.sp_money.specs.Locks.{locks_of}
use Rattle.sp_engine.specs.Engine.{IsPaying, IsWider}
use Rattle.sp_engine.proofs.Onward.{take_more}
use Rattle.sp_engine.proofs.Paying.{front_of, goes_nowhere, off_all}

-- ---- the graph

pub numbered_back : (d : Numbered) (n : ℕ) → IsNumbered d → n ≡ length d.parents → cut_to d n ≡ d
numbered_back d n numbered at =
    ap (λ (l : List ℕ). record { profile = d.profile; ids = l; salts = take n d.salts; parents = take n d.parents }) (take_all n d.ids (omega (arith, numbered.long, at)))
    ∙ ap (λ (l : List ℕ). record { profile = d.profile; ids = d.ids; salts = l; parents = take n d.parents }) (take_all n d.salts (omega (arith, numbered.salts_long, at)))
    ∙ ap (λ (l : List (List ℕ)). record { profile = d.profile; ids = d.ids; salts = d.salts; parents = l }) (take_all n d.parents (omega (arith, at)))

-- ---- the carriers

rows_first : (n : ℕ) (xs : List Carrier) → All (λ (r : Carrier). r.block < n) xs → rows_of_first n xs ≡ xs
rows_first n [] all = refl
rows_first n (r ∷ rs) all =
    let here : nat_lt r.block n ≡ true = (let lt : r.block < n = all 0 r (omega arith) in grind (arith, nat_tests, lt)) in
    ap (λ (c : Bool). cond c (r ∷ rows_of_first n rs) (rows_of_first n rs)) here ∙ ap (λ (l : List Carrier). r ∷ l) (rows_first n rs (All-tail (λ (r : Carrier). r.block < n) r rs all))

pub carried_back : (k : Carried) (n : ℕ) → IsCarried k → k.blocks ≡ n → carried.cut_to k n ≡ k
carried_back k n is at =
    let rows : rows_of_first n k.rows ≡ k.rows = rows_first n k.rows (subst (λ (m : ℕ). All (λ (r : Carrier). r.block < m) k.rows) at is.blocks) in
    ap (λ (l : List Carrier). let c : Carried = record { blocks = n; txs = take (used l) k.txs; rows = l } in c) rows
    ∙ ap (λ (l : List Transaction). let c : Carried = record { blocks = n; txs = l; rows = k.rows } in c) (take_all (used k.rows) k.txs (omega (arith, used-all k is.linked)))
    ∙ ap (λ (m : ℕ). let c : Carried = record { blocks = m; txs = k.txs; rows = k.rows } in c) (let e : n ≡ k.blocks = omega (arith, at) in e)

-- ---- the purse

-- it wasn't prepared for more
pub no_wider : (k : Carried) (a : Acceptance) (p new : Held) → IsPaying k a p → new ≡ p → IsWider k.txs p new
no_wider k a p new paying same =
    subst (λ (q : Held). IsWider k.txs p q) (sym same) (record {
      list = k.txs;
      front = goes_nowhere k.txs;
      of = paying.of;
      more = 0;
      flags = sym (append-nil p.accepted);
    })

module _ (k : Carried) (a : Acceptance) (p mid : Held) (txs : ℕ) (at : txs ≡ length k.txs) (paying : IsPaying k a p) (wider : IsWider k.txs p mid) where
  flags_long : length p.accepted ≡ txs
  flags_long = omega (arith, at, paying.of.flags)

  pub flags_within : txs ≤ length mid.accepted
  flags_within = omega (arith, flags_long, ap length wider.flags, longer p.accepted (replicate wider.more false))
    where
      longer : (xs ys : List Bool) → length xs ≤ length (xs ++ ys)
      longer [] ys = omega arith
      longer (x ∷ xs) ys = (let rest = longer xs ys in omega (arith, rest))

  -- none behind them is set
  pub none_set : (tx : ℕ) → txs ≤ tx → is_set mid.accepted tx ≡ false
  none_set tx le =
      ap (λ (l : List Bool). get_or l tx false) wider.flags ∙ get_or-append_right p.accepted (replicate wider.more false) tx false (omega (arith, flags_long, le))
      ∙ off_all wider.more _

  -- the first transactions are those that there were, and have their locks
  first_txs : take txs wider.list ≡ k.txs
  first_txs = ap (λ (t : ℕ). take t wider.list) at ∙ front_of k.txs wider.list wider.front

  pub locks_back : (locks : ℕ) → locks ≡ length p.locks → locks ≡ length (locks_of (take txs wider.list))
  locks_back locks is = is ∙ ap length (paying.of.locks ∙ ap locks_of (sym first_txs))

  pub paying_back : (new : Held) → ((list : List Transaction) → IsOf list mid → IsOf (take txs list) new) → new.accepted ≡ take txs mid.accepted → IsPaying k a new
  paying_back new of flags = record {
    of = subst (λ (l : List Transaction). IsOf l new) first_txs (of wider.list wider.of);
    same = λ tx lt.
        ap (λ (l : List Bool). get_or l tx false) (
        flags ∙ ap (take txs) wider.flags ∙ take_more p.accepted (replicate wider.more false) txs (omega (arith, flags_long))
        ∙ take_all txs p.accepted (omega (arith, flags_long))
        )
        ∙ paying.same tx lt;
  }
