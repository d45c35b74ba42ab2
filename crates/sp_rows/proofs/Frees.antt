-- How many rows before a number are free, after each change of one row.
use Rattle.std.proofs.Common.{◌≡◌, ℕ, zero, suc, ◌+◌, ◌<◌, ◌≤◌, ◌⊎◌, inl, inr, List, [], ◌∷◌, ◌++◌, length, take, set, get_or, refl, ap, ◌∙◌, arith, get_or-set_same, length-append}
use Rattle.std.proofs.Math.Seq.{take-set-lt}
use Rattle.std.proofs.lemmas.Bool.{cases_lt}
use Rattle.std.proofs.lemmas.List.{length-set, length-take, get_or-take, take-append-le, take-set, take-set-le, take_all}
use Rattle.std.proofs.lemmas.List.Sums.{sum_by-cons, sum_by-set, sum_by_more}
use Rattle.sp_rows.specs.declared.free.Free.{Free}
use Rattle.sp_rows.specs.Kept.{one_if, live_of, IsFree}
use Rattle.sp_rows.proofs.Lives.{one_if-some, one_if-none, one_if-le}

-- a count that isn't 0 is one of the list
pub some-within : (counts : List ℕ) (i : ℕ) → 0 < get_or counts i 0 → i < length counts
some-within [] i h = absurd (omega arith)
some-within (count ∷ counts) zero h = omega arith
some-within (count ∷ counts) (suc i) h = (let rest : i < length counts = some-within counts i h in omega arith)

-- how many of the first counts aren't 0, where one of them changes
live_of-before : (counts : List ℕ) (from id count : ℕ) → id < from → id < length counts
    → live_of (take from (set counts id count)) + one_if (get_or counts id 0) ≡ live_of (take from counts) + one_if count
live_of-before counts from id count before within =
    let at : id < length (take from counts) = omega (arith, length-take from counts, before, within) in
    omega (arith, ap live_of (take-set-lt from counts id count before), sum_by-set one_if (take from counts) id count 0 at, ap one_if (get_or-take from counts id 0 before))

-- one more of the first counts isn't 0
pub live_of-next : (counts : List ℕ) (at : ℕ) → at < length counts → 0 < get_or counts at 0 → live_of (take (at + 1) counts) ≡ live_of (take at counts) + 1
live_of-next counts at within some = omega (arith, sum_by_more one_if counts at 0 within, one_if-some (get_or counts at 0) some)

-- where some rows from there on are free, there are more rows
pub live_of-within : (counts : List ℕ) (at : ℕ) → at ≤ length counts → live_of counts + at < length counts + live_of (take at counts) → at < length counts
live_of-within counts at le some = by (cases_lt at (length counts))
  where
    by : (at < length counts) ⊎ (length counts ≤ at) → at < length counts
    by (inl lt) = lt
    by (inr ge) = absurd (let all = ap live_of (take_all at counts ge) in omega (arith, all, some, le, ge))

-- no more of the first counts than there are aren't 0
live_of-le : (counts : List ℕ) (n : ℕ) → live_of (take n counts) ≤ n
live_of-le counts zero = omega arith
live_of-le [] (suc n) = omega arith
live_of-le (count ∷ counts) (suc n) = omega (arith, live_of-le counts n, sum_by-cons one_if count (take n counts), one_if-le count)

-- where none of the first counts is 0, none of fewer is
live_of-first : (counts : List ℕ) (a b : ℕ) → a ≤ b → live_of (take b counts) ≡ b → live_of (take a counts) ≡ a
live_of-first counts zero b le all = refl
live_of-first counts (suc a) zero le all = absurd (omega (arith, le))
live_of-first [] (suc a) (suc b) le all = absurd (omega (arith, all))
live_of-first (count ∷ counts) (suc a) (suc b) le all =
    let least : live_of (take b counts) ≡ b = omega (arith, live_of-le counts b, sum_by-cons one_if count (take b counts), one_if-le count, all) in
    omega (arith, sum_by-cons one_if count (take a counts), sum_by-cons one_if count (take b counts), all, one_if-le count, live_of-le counts b, live_of-first counts a b (omega (arith, le)) least)

-- at first
pub IsFree-new : (counts : List ℕ) → IsFree counts (record { from = 0; behind = 0; lowest = 0 })
IsFree-new counts = record { within = omega arith; passed = refl; lowest = λ some. absurd (omega (arith, some)) }

-- more rows
pub IsFree-more : (counts more : List ℕ) (free : Free) → IsFree counts free → IsFree (counts ++ more) free
IsFree-more counts more free is = record {
  within = omega (arith, is.within, length-append counts more);
  passed = ap (λ (l : List ℕ). free.behind + live_of l) (take-append-le free.from counts more is.within) ∙ is.passed;
  lowest = λ some.
      (let low = is.lowest some in (low.0, ap live_of (take-append-le free.lowest counts more (omega (arith, low.0, is.within))) ∙ low.1));
}

module _ (counts : List ℕ) (free : Free) (is : IsFree counts free) where
  -- another count of a live row stays one that isn't 0
  same : (n id count : ℕ) → 0 < get_or counts id 0 → 0 < count → live_of (take n (set counts id count)) ≡ live_of (take n counts)
  same n id count had some = by (cases_lt id n)
    where
      by : (id < n) ⊎ (n ≤ id) → live_of (take n (set counts id count)) ≡ live_of (take n counts)
      by (inl before) = omega (arith, live_of-before counts n id count before (some-within counts id had), one_if-some (get_or counts id 0) had, one_if-some count some)
      by (inr behind) = ap live_of (take-set-le n counts id count behind)

  -- a live row has another count
  pub IsFree-changed : (id count : ℕ) → 0 < get_or counts id 0 → 0 < count → IsFree (set counts id count) free
  IsFree-changed id count had some = record {
    within = omega (arith, is.within, length-set counts id count);
    passed = omega (arith, is.passed, same free.from id count had some);
    lowest = λ few. (let low = is.lowest few in (low.0, same free.lowest id count had some ∙ low.1));
  }

  -- the rows up to one are passed by, and that is taken
  pub IsFree-taken : (at : ℕ) → free.from ≤ at → at < length counts → live_of (take at counts) + free.from ≡ live_of (take free.from counts) + at
      → IsFree (set counts at 1) (record { from = at + 1; behind = free.behind; lowest = free.lowest })
  IsFree-taken at le within passed = record {
    within = omega (arith, within, length-set counts at 1);
    passed = omega (
      arith,
      is.passed,
      sum_by_more one_if (set counts at 1) at 0 (omega (arith, within, length-set counts at 1)),
      ap one_if (get_or-set_same counts at 1 0 within),
      one_if-some 1 (omega arith),
      ap live_of (take-set counts at 1),
      passed,
    );
    lowest = λ some.
        (let low = is.lowest some in (omega (arith, low.0, le), ap live_of (take-set-le free.lowest counts at 1 (omega (arith, low.0, le))) ∙ low.1));
  }

  -- all that were passed by come again
  pub IsFree-again : 0 < free.behind → IsFree counts (record { from = free.lowest; behind = 0; lowest = free.lowest })
  IsFree-again some =
      let low = is.lowest some in
      record { within = omega (arith, low.0, is.within); passed = omega (arith, low.1); lowest = λ few. absurd (omega (arith, few)) }

  -- a row before the number is counted no more: the lowest of these
  pub IsFree-lower : (id : ℕ) → id < free.from → 0 < get_or counts id 0 → (0 < free.behind → id < free.lowest)
      → IsFree (set counts id 0) (record { from = free.from; behind = free.behind + 1; lowest = id })
  IsFree-lower id before had lower = record {
    within = omega (arith, is.within, length-set counts id 0);
    passed = omega (arith, is.passed, live_of-before counts free.from id 0 before (some-within counts id had), one_if-some (get_or counts id 0) had, one_if-none 0 refl);
    lowest = λ some. (omega (arith, before), ap live_of (take-set-le id counts id 0 (omega arith)) ∙ by (cases_lt 0 free.behind));
  }
    where
      by : (0 < free.behind) ⊎ (free.behind ≤ 0) → live_of (take id counts) ≡ id
      by (inl some) = (let low = is.lowest some in live_of-first counts id free.lowest (omega (arith, lower some)) low.1)
      by (inr none) = live_of-first counts id free.from (omega (arith, before)) (omega (arith, is.passed, none))

  -- or another one
  pub IsFree-higher : (id : ℕ) → id < free.from → 0 < get_or counts id 0 → 0 < free.behind → free.lowest ≤ id
      → IsFree (set counts id 0) (record { from = free.from; behind = free.behind + 1; lowest = free.lowest })
  IsFree-higher id before had some higher = record {
    within = omega (arith, is.within, length-set counts id 0);
    passed = omega (arith, is.passed, live_of-before counts free.from id 0 before (some-within counts id had), one_if-some (get_or counts id 0) had, one_if-none 0 refl);
    lowest = λ more. (let low = is.lowest some in (low.0, ap live_of (take-set-le free.lowest counts id 0 higher) ∙ low.1));
  }

  -- or one from the number on
  pub IsFree-behind : (id : ℕ) → free.from ≤ id → IsFree (set counts id 0) free
  IsFree-behind id behind = record {
    within = omega (arith, is.within, length-set counts id 0);
    passed = ap (λ (l : List ℕ). free.behind + live_of l) (take-set-le free.from counts id 0 behind) ∙ is.passed;
    lowest = λ some.
        (let low = is.lowest some in (low.0, ap live_of (take-set-le free.lowest counts id 0 (omega (arith, low.0, behind))) ∙ low.1));
  }
