-- The purse follows the carriers and what is accepted of them.
use Rattle.std.proofs.Common.{◌≡◌, ◌≢◌, ℕ, zero, suc, ◌+◌, ◌<◌, ◌≤◌, ◌-◌, Bool, true, false, cond, List, [], ◌∷◌, ◌++◌, map, length, take, set, get_or, Option, Some, None, refl, sym, ap, subst, ◌∙◌, inl, inr, ◌⊎◌, arith, append_assoc, length-append, get_or-set_same, get_or-set_other, length-set}
use Rattle.std.specs.Prelude.{filter, replicate}
use Rattle.std.specs.List.{range_with_len}
use Rattle.std.proofs.lemmas.Bool.{cases_eq, cases_lt}
use Rattle.std.proofs.Math.ListN.{get_or-append}
use Rattle.std.proofs.Math.Seq.{get_or-append_right}
use Rattle.std.proofs.lemmas.List.{append-nil, get_or_past}
use Rattle.sp_dag.specs.Numbered.{Numbered}
use Rattle.sp_tx.specs.Parts.{Transaction}
use Rattle.sp_tx.specs.Spending.{id_of}
use Rattle.sp_carry.specs.declared.carrier.Flip.{Flip}
use Rattle.sp_carry.specs.Carried.{Carried, carried_by, number_of, with_block, with_carrier, with_carriers}
use Rattle.sp_carry.specs.Flags.{is_set, with_flips}
use Rattle.sp_accept.specs.Acceptance.{Acceptance}
use Rattle.sp_accept.specs.Flips.{differ, flips_of}
use Rattle.sp_money.specs.Held.{Held, IsOf}
use Rattle.sp_engine.specs.Engine.{GoesOn, IsPaying, WasPaying}

-- ---- transactions of more blocks

pub goes_nowhere : (xs : List Transaction) → GoesOn xs xs
goes_nowhere xs = ([], sym (append-nil xs))

pub goes_then : (xs ys zs : List Transaction) → GoesOn xs ys → GoesOn ys zs → GoesOn xs zs
goes_then xs ys zs a b = (a.0 ++ b.0, b.1 ∙ ap (λ (l : List Transaction). l ++ b.0) a.1 ∙ append_assoc xs a.0 b.0)

carrier_goes : (table : Numbered) (k : Carried) (t : Transaction) → GoesOn k.txs (with_carrier table k t).txs
carrier_goes table k t = at (number_of k (id_of t))
  where
    at : (o : Option ℕ) → GoesOn k.txs (carried_by table k t o).txs
    at None = (t ∷ [], refl)
    at (Some n) = goes_nowhere k.txs

carriers_go : (table : Numbered) (k : Carried) (ts : List Transaction) → GoesOn k.txs (with_carriers table k ts).txs
carriers_go table k [] = goes_nowhere k.txs
carriers_go table k (t ∷ ts) =
    goes_then k.txs (with_carrier table k t).txs (with_carriers table (with_carrier table k t) ts).txs (carrier_goes table k t) (carriers_go table (with_carrier table k t) ts)

-- a block's transactions come behind the others
pub block_goes : (table : Numbered) (k new : Carried) (ts : List Transaction) → new ≡ with_block table k ts → GoesOn k.txs new.txs
block_goes table k new ts e = subst (λ (c : Carried). GoesOn k.txs c.txs) (sym e) (carriers_go table k ts)

pub front_of : (xs ys : List Transaction) → GoesOn xs ys → take (length xs) ys ≡ xs
front_of xs ys on = ap (take (length xs)) on.1 ∙ front xs on.0
  where
    front : (xs more : List Transaction) → take (length xs) (xs ++ more) ≡ xs
    front [] more = refl
    front (x ∷ xs) more = ap (λ (l : List Transaction). x ∷ l) (front xs more)

pub longer : (xs ys : List Transaction) → GoesOn xs ys → length xs ≤ length ys
longer xs ys on = omega (arith, ap length on.1, length-append xs on.0)

-- ---- flags that turn as acceptance does

abbrev flips_in : List Bool → List Bool → ℕ → ℕ → List Flip
flips_in old new first n = filter (λ (flip : Flip). differ (is_set old flip.tx) flip.now) (map (λ tx. record { tx = tx; now = is_set new tx }) (range_with_len first n))

same_unless : (a b : Bool) → differ a b ≡ false → a ≡ b
same_unless true true e = refl
same_unless true false e = cc
same_unless false true e = cc
same_unless false false e = refl

-- flags below the first flip stay
flips_below : (old new flags : List Bool) (first n k : ℕ) → k < first → get_or (with_flips flags (flips_in old new first n)) k false ≡ get_or flags k false
flips_below old new flags first zero k lt = refl
flips_below old new flags first (suc n) k lt =
    at (differ (is_set old first) (is_set new first))
    (flips_below old new (set flags first (is_set new first)) (first + 1) n k (omega (arith, lt)))
    (flips_below old new flags (first + 1) n k (omega (arith, lt)))
  where
    at : (b : Bool) → get_or (with_flips (set flags first (is_set new first)) (flips_in old new (first + 1) n)) k false ≡ get_or (set flags first (is_set new first)) k false
        → get_or (with_flips flags (flips_in old new (first + 1) n)) k false ≡ get_or flags k false
        → get_or (with_flips flags (cond b (record { tx = first; now = is_set new first } ∷ flips_in old new (first + 1) n) (flips_in old new (first + 1) n))) k false ≡ get_or flags k false
    at true turns stays = turns ∙ (let other : k ≢ first = omega (arith, lt) in get_or-set_other flags first k (is_set new first) false other)
    at false turns stays = stays

-- the others are the new ones, where they were the old ones
turned_within : (old new flags : List Bool) (first n k : ℕ) → first + n ≤ length flags → first ≤ k → k < first + n
    → ((j : ℕ) → first ≤ j → j < first + n → get_or flags j false ≡ is_set old j)
    → get_or (with_flips flags (flips_in old new first n)) k false ≡ is_set new k
turned_within old new flags first zero k room ge lt were = absurd (omega (arith, ge, lt))
turned_within old new flags first (suc n) k room ge lt were =
    at (differ (is_set old first) (is_set new first)) refl (cases_eq k first)
    (λ more.
    turned_within old new (set flags first (is_set new first)) (first + 1) n k (let long = length-set flags first (is_set new first) in omega (arith, room, long)) more (omega (arith, lt))
    (λ j low high. (let apart : j ≢ first = omega (arith, low) in get_or-set_other flags first j (is_set new first) false apart) ∙ were j (omega (arith, low)) (omega (arith, high))))
    (λ more.
    turned_within old new flags (first + 1) n k (omega (arith, room)) more (omega (arith, lt))
    (λ j low high. were j (omega (arith, low)) (omega (arith, high))))
  where
    at : (b : Bool) → differ (is_set old first) (is_set new first) ≡ b → (k ≡ first) ⊎ (k ≡ first → ⊥)
        → (first + 1 ≤ k → get_or (with_flips (set flags first (is_set new first)) (flips_in old new (first + 1) n)) k false ≡ is_set new k)
        → (first + 1 ≤ k → get_or (with_flips flags (flips_in old new (first + 1) n)) k false ≡ is_set new k)
        → get_or (with_flips flags (cond b (record { tx = first; now = is_set new first } ∷ flips_in old new (first + 1) n) (flips_in old new (first + 1) n))) k false ≡ is_set new k
    at true e (inl same) turns stays =
        flips_below old new (set flags first (is_set new first)) (first + 1) n k (omega (arith, same))
        ∙ ap (λ (j : ℕ). get_or (set flags first (is_set new first)) j false) same
        ∙ get_or-set_same flags first (is_set new first) false (omega (arith, room))
        ∙ ap (is_set new) (sym same)
    at true e (inr other) turns stays = turns (omega (arith, ge, other))
    at false e (inl same) turns stays =
        flips_below old new flags (first + 1) n k (omega (arith, same))
        ∙ were k ge lt ∙ ap (is_set old) same ∙ same_unless (is_set old first) (is_set new first) e ∙ ap (is_set new) (sym same)
    at false e (inr other) turns stays = stays (omega (arith, ge, other))

-- flags that were the old ones are the new ones once each flip is turned
pub turned_agree : (old new flags : List Bool) (n k : ℕ) → length flags ≡ n → k < n → ((j : ℕ) → j < n → get_or flags j false ≡ is_set old j)
    → get_or (with_flips flags (flips_of old new n)) k false ≡ is_set new k
turned_agree old new flags n k long lt were = turned_within old new flags 0 n k (omega (arith, long)) (omega arith) (omega (arith, lt)) (λ j low high. were j (omega (arith, high)))

-- ---- what the engine keeps of the purse

unset : (flags : List Bool) (n : ℕ) → length flags ≤ n → is_set flags n ≡ false
unset flags n ge = get_or_past flags n false ge

-- the carriers have the transactions of more blocks, and the purse is of the first ones
pub was_paying : (k new : Carried) (a : Acceptance) (p : Held) → GoesOn k.txs new.txs → length a.txs ≤ length k.txs → IsPaying k a p → WasPaying new a p
was_paying k new a p on few h =
    let long : length p.accepted ≡ length k.txs = h.of.flags in
    record {
      few = omega (arith, long, longer k.txs new.txs on);
      of = subst (λ (txs : List Transaction). IsOf txs p) (sym (ap (λ (n : ℕ). take n new.txs) long ∙ front_of k.txs new.txs on)) h.of;
      same = λ tx lt. h.same tx (omega (arith, lt, long));
      none = λ tx ge. unset a.txs tx (omega (arith, ge, long, few));
    }

-- nothing is accepted, and a new purse is of nothing
pub nothing_paying : (k : Carried) (a : Acceptance) (p : Held) → a.txs ≡ [] → p.accepted ≡ [] → IsOf [] p → WasPaying k a p
nothing_paying k a p none empty of =
    let long : length p.accepted ≡ 0 = ap length empty in
    record {
      few = omega (arith, long);
      of = subst (λ (txs : List Transaction). IsOf txs p) (sym (ap (λ (n : ℕ). take n k.txs) long)) of;
      same = λ tx lt. absurd (omega (arith, lt, long));
      none = λ tx ge. ap (λ (flags : List Bool). is_set flags tx) none;
    }

-- flags with none set behind them
padded : (flags more : List Bool) (old : List Bool) (n : ℕ) → ((k : ℕ) → k < length flags → get_or flags k false ≡ is_set old k) → ((k : ℕ) → length flags ≤ k → is_set old k ≡ false)
    → ((k : ℕ) → get_or more k false ≡ false) → get_or (flags ++ more) n false ≡ is_set old n
padded flags more old n same none off = elim (cases_lt n (length flags)) [
  | inl lt ↦ get_or-append flags more false n lt ∙ same n lt
  | inr ge ↦ get_or-append_right flags more n false ge ∙ off (n - length flags) ∙ sym (none n ge)
]

-- once the purse is prepared and the flips are applied, it has the flags of the accepted ones
pub now_paying : (k : Carried) (a new : Acceptance) (p mid now : Held) (flips : List Flip) → WasPaying k a p → IsOf k.txs mid → (more : List Bool) → mid.accepted ≡ p.accepted ++ more
    → ((n : ℕ) → get_or more n false ≡ false) → flips ≡ flips_of a.txs new.txs (length k.txs) → IsOf k.txs now → now.accepted ≡ with_flips mid.accepted flips → IsPaying k new now
now_paying k a new p mid now flips was of more are off turns is flags = record {
  of = is;
  same = λ tx lt.
      ap (λ (fs : List Bool). get_or fs tx false) (flags ∙ ap (with_flips mid.accepted) turns)
      ∙ turned_agree a.txs new.txs mid.accepted (length k.txs) tx of.flags lt
      (λ j less. ap (λ (fs : List Bool). get_or fs j false) are ∙ padded p.accepted more a.txs j was.same was.none off);
}

-- none of the new flags is set
pub off_all : (count n : ℕ) → get_or (replicate count false) n false ≡ false
off_all zero n = refl
off_all (suc count) zero = refl
off_all (suc count) (suc n) = off_all count n
