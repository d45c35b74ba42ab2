-- The counting of words, one after another, and of the elements of a list that are wanted.
use Rattle.std.proofs.Common.{◌≡◌, ℕ, ◌+◌, ◌*◌, ◌<◌, ◌≤◌, Bool, true, false, cond, List, [], ◌∷◌, ◌++◌, length, map, take, drop, get_or, slice_get, Some, count_by, arith, refl, sym, ap, subst, ◌∙◌}
use Rattle.std.proofs.lemmas.List.{length-map, drop_all, drop_more, take_all, map-append}
use Rattle.std.proofs.lemmas.List.Sums.{count_by-le-length, sum_by-append, sum_by-cons, sum_by_more}
use Rattle.std.proofs.lemmas.Option.{get_or_from_slice_get}
use Rattle.sp_model.specs.declared.word.Word.{Word}
use Rattle.sp_report.specs.Texts.{pairs_of}
use Rattle.spectre.specs.Summary.{added, AreUpTo, is_after, is_before, is_tie}
use Rattle.spectre.specs.declared.counts.Tally.{Tally}

-- ---- the elements that are wanted

module _ {X : Type 0} (p : X → Bool) where
  count_cons : (x : X) (xs : List X) → count_by p (x ∷ xs) ≡ cond (p x) 1 0 + count_by p xs
  count_cons x xs = sum_by-cons (λ y. cond (p y) 1 0) x xs

  pub count_append : (xs ys : List X) → count_by p (xs ++ ys) ≡ count_by p xs + count_by p ys
  count_append xs ys = sum_by-append (λ y. cond (p y) 1 0) xs ys

  one_or_none : (b : Bool) (n : ℕ) → cond b (n + 1) n ≡ n + cond b 1 0
  one_or_none true n = refl
  one_or_none false n = omega arith

  -- one more was looked at
  pub one_counted : (xs : List X) (i : ℕ) (x : X) (b : Bool) (n m : ℕ) → i < length xs → slice_get xs i ≡ Some x → b ≡ p x → n ≡ count_by p (take i xs)
      → m ≡ cond b (n + 1) n → m ≡ count_by p (take (i + 1) xs)
  one_counted xs i x b n m l e is_b is_n is_m =
      is_m ∙ one_or_none b n ∙ ap (λ k. k + cond b 1 0) is_n
      ∙ ap (λ c. count_by p (take i xs) + cond c 1 0) (is_b ∙ sym (ap p (get_or_from_slice_get xs i x x e)))
      ∙ sym (sum_by_more (λ y. cond (p y) 1 0) xs i x l)

  -- all were
  pub all_counted : (xs : List X) (i n : ℕ) → length xs ≤ i → n ≡ count_by p (take i xs) → n ≡ count_by p xs
  all_counted xs i n l e = e ∙ ap (count_by p) (take_all i xs l)

pub one_at_most : (b : Bool) (n m i : ℕ) → n ≤ i → m ≡ cond b (n + 1) n → m ≤ i + 1
one_at_most true n m i h e = omega (arith, h, e)
one_at_most false n m i h e = omega (arith, h, e)

-- ---- words

added_cons : (tally : Tally) (w : Word) (ws : List Word) (next : Tally)
    → next.before ≡ cond (is_before w) (tally.before + 1) tally.before → next.after ≡ cond (is_after w) (tally.after + 1) tally.after → next.tie ≡ cond (is_tie w) (tally.tie + 1) tally.tie
    → added tally (w ∷ ws) ≡ added next ws
added_cons tally w ws next b a t =
    let one : (n k r : ℕ) (c : Bool) → k ≡ cond c (n + 1) n → n + (cond c 1 0 + r) ≡ k + r = λ n k r c e. by n k r c e in
    let before : tally.before + count_by is_before (w ∷ ws) ≡ next.before + count_by is_before ws =
    ap (λ k. tally.before + k) (count_cons is_before w ws) ∙ one tally.before next.before (count_by is_before ws) (is_before w) b in
    let after : tally.after + count_by is_after (w ∷ ws) ≡ next.after + count_by is_after ws =
    ap (λ k. tally.after + k) (count_cons is_after w ws) ∙ one tally.after next.after (count_by is_after ws) (is_after w) a in
    let tie : tally.tie + count_by is_tie (w ∷ ws) ≡ next.tie + count_by is_tie ws =
    ap (λ k. tally.tie + k) (count_cons is_tie w ws) ∙ one tally.tie next.tie (count_by is_tie ws) (is_tie w) t in
    λ i. record { before = before i; after = after i; tie = tie i }
  where
    by : (n k r : ℕ) (c : Bool) → k ≡ cond c (n + 1) n → n + (cond c 1 0 + r) ≡ k + r
    by n k r true e = omega (arith, e)
    by n k r false e = omega (arith, e)

pub added_append : (tally : Tally) (us ws : List Word) → added tally (us ++ ws) ≡ added (added tally us) ws
added_append tally us ws =
    let part : (p : Word → Bool) (n : ℕ) → n + count_by p (us ++ ws) ≡ (n + count_by p us) + count_by p ws = λ p n. ap (λ k. n + k) (count_append p us ws) ∙ omega arith in
    λ i. record { before = part is_before tally.before i; after = part is_after tally.after i; tie = part is_tie tally.tie i }

pub added_none : (tally : Tally) → added tally [] ≡ tally
added_none tally =
    let part : (n : ℕ) → n + 0 ≡ n = λ n. omega arith in
    λ i. record { before = part tally.before i; after = part tally.after i; tie = part tally.tie i }

-- nor by one more word
pub one_more : (n : ℕ) (tally next : Tally) (a b c : Bool) → AreUpTo tally n
    → next.before ≡ cond a (tally.before + 1) tally.before → next.after ≡ cond b (tally.after + 1) tally.after → next.tie ≡ cond c (tally.tie + 1) tally.tie → AreUpTo next (n + 1)
one_more n tally next a b c h is_before is_after is_tie = record {
  before = one_at_most a tally.before next.before n h.before is_before;
  after = one_at_most b tally.after next.after n h.after is_after;
  tie = one_at_most c tally.tie next.tie n h.tie is_tie;
}

-- no word is counted more than once for each said
pub up_to : (tally : Tally) (n : ℕ) (ws : List Word) → AreUpTo tally n → AreUpTo (added tally ws) (n + length ws)
up_to tally n ws h = record {
  before = omega (arith, h.before, count_by-le-length is_before ws);
  after = omega (arith, h.after, count_by-le-length is_after ws);
  tie = omega (arith, h.tie, count_by-le-length is_tie ws);
}

-- ---- what is said of a block and each of some others, whatever names the blocks

module _ (said : ℕ × ℕ → Word) where
  abbrev pub votes : ℕ → List ℕ → List Word
  votes first others = map (λ other. said (first, other)) others

  -- the next one
  pub next_other : (first : ℕ) (others : List ℕ) (i other : ℕ) (tally next : Tally) → i < length others → other ≡ get_or others i 0
      → next.before ≡ cond (is_before (said (first, other))) (tally.before + 1) tally.before
      → next.after ≡ cond (is_after (said (first, other))) (tally.after + 1) tally.after
      → next.tie ≡ cond (is_tie (said (first, other))) (tally.tie + 1) tally.tie
      → added next (votes first (drop (i + 1) others)) ≡ added tally (votes first (drop i others))
  next_other first others i other tally next l is b a t =
      sym (ap (λ (xs : List ℕ). added tally (votes first xs)) (drop_more others i 0 l ∙ ap (λ (x : ℕ). x ∷ drop (i + 1) others) (sym is))
      ∙ added_cons tally (said (first, other)) (votes first (drop (i + 1) others)) next b a t)

  pub no_other : (first : ℕ) (others : List ℕ) (i : ℕ) (tally : Tally) → length others ≤ i → added tally (votes first (drop i others)) ≡ tally
  no_other first others i tally l = ap (λ (xs : List ℕ). added tally (votes first xs)) (drop_all i others l) ∙ added_none tally

  -- no word is counted more often than there are others
  pub added_up_to : (first : ℕ) (others : List ℕ) (i : ℕ) (tally next : Tally) → length others ≤ 512 → AreUpTo tally (512 * i) → next ≡ added tally (votes first others) → AreUpTo next (512 * (i + 1))
  added_up_to first others i tally next few h e =
      let up = up_to tally (512 * i) (votes first others) h in
      let long = length-map others (λ (other : ℕ). said (first, other)) in
      subst (λ (t : Tally). AreUpTo t (512 * (i + 1))) (sym e) (record {
        before = omega (arith, up.before, long, few);
        after = omega (arith, up.after, long, few);
        tie = omega (arith, up.tie, long, few);
      })

  -- the next block with those behind it
  pub next_block : (ids : List ℕ) (i x : ℕ) (others : List ℕ) (tally next : Tally) → i < length ids → x ≡ get_or ids i 0 → others ≡ drop (i + 1) ids
      → next ≡ added tally (votes x others) → added next (map said (pairs_of (drop (i + 1) ids))) ≡ added tally (map said (pairs_of (drop i ids)))
  unfolding pairs_of
  next_block ids i x others tally next l is behind e =
      let rest = drop (i + 1) ids in
      sym (ap (λ (xs : List ℕ). added tally (map said (pairs_of xs))) (drop_more ids i 0 l ∙ ap (λ (y : ℕ). y ∷ rest) (sym is))
      ∙ ap (added tally) (map-append said (map (λ (y : ℕ). (x, y)) rest) (pairs_of rest) ∙ ap (λ (ws : List Word). ws ++ map said (pairs_of rest)) (together x rest))
      ∙ added_append tally (votes x rest) (map said (pairs_of rest))
      ∙ ap (λ (t : Tally). added t (map said (pairs_of rest))) (ap (λ (xs : List ℕ). added tally (votes x xs)) (sym behind) ∙ sym e))
    where
      together : (x : ℕ) (ys : List ℕ) → map said (map (λ (y : ℕ). (x, y)) ys) ≡ votes x ys
      together x [] = refl
      together x (y ∷ ys) = ap (λ (ws : List Word). said (x, y) ∷ ws) (together x ys)

  pub no_block : (ids : List ℕ) (i : ℕ) (tally : Tally) → length ids ≤ i → added tally (map said (pairs_of (drop i ids))) ≡ tally
  unfolding pairs_of
  no_block ids i tally l = ap (λ (xs : List ℕ). added tally (map said (pairs_of xs))) (drop_all i ids l) ∙ added_none tally
