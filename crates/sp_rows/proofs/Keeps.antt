-- What a pool keeps, after each change of one row.
use Rattle.std.proofs.Common.{◌≡◌, ℕ, ◌+◌, ◌-◌, ◌*◌, ◌^◌, ◌<◌, ◌≤◌, cond, Bool, List, [], ◌++◌, length, set, get_or, replicate, refl, sym, ap, ◌∙◌, subst, arith, get_or-set_same, length-append}
use Rattle.std.proofs.lemmas.Bool.{eq-eqb, ne_eqb}
use Rattle.std.proofs.lemmas.List.{length-set, length-replicate, set-get_or}
use Rattle.std.specs.List.{refill}
use Rattle.std.specs.Prelude.{Ok, Err, OnErr}
use Rattle.std.specs.declared.result.Result.{Result}
use Rattle.sp_rows.specs.Pool.{Counted, Pool, count_of, words_of, with_row, without_row, with_count, with_words, taken_with, given, overwritten, AreRows}
use Rattle.sp_rows.specs.declared.free.Free.{Free}
use Rattle.sp_rows.specs.Kept.{words_at, with_words_at, live_rows, live_of, AreWhole, Grows, Differs, IsFree, IsKept}
use Rattle.sp_rows.proofs.Frees.{some-within, IsFree-more, IsFree-changed}
use Rattle.sp_rows.proofs.Lives.{live_rows-same, live_rows-set, live_rows-clear, live_rows-more, length-live, count_of-live, words_of-live, length-live_taken, length-live_counted, length-live_given, AreRows-live}
use Rattle.sp_rows.proofs.Stores.{refill-eight, AreWhole-with, words_at-same, words_at-other, length-words_at}

pub Differs-none : (chunks : List (List ℕ)) (id : ℕ) → AreWhole chunks → Differs chunks chunks id
Differs-none chunks id whole = record { whole = whole; long = refl; others = λ k other. refl }

pub Differs-with : (chunks : List (List ℕ)) (id : ℕ) (own : List ℕ) → AreWhole chunks → id < 256 * length chunks → Differs chunks (with_words_at chunks id own) id
Differs-with chunks id own whole within = record {
  whole = AreWhole-with chunks id own whole within;
  long = length-set chunks _ _;
  others = words_at-other chunks id own whole within;
}

module _ (chunks : List (List ℕ)) (counts : List ℕ) (free : Free) (spare live : ℕ) (kept : IsKept chunks counts free spare live) where
  abbrev rows : List Counted
  rows = live_rows (words_at chunks) 0 counts

  -- a live row is one of those that there are
  pub live-count : (id : ℕ) → count_of rows id ≡ get_or counts id 0
  live-count id = count_of-live (words_at chunks) 0 counts id id (omega arith)

  pub live-within : (id : ℕ) → 0 < count_of rows id → id < length counts
  live-within id h = some-within counts id (omega (arith, h, live-count id))

  pub live-stored : (id : ℕ) → 0 < count_of rows id → id < 256 * length chunks
  live-stored id h = omega (arith, live-within id h, kept.room)

  pub live-words : (id : ℕ) → 0 < count_of rows id → words_of rows id ≡ words_at chunks id
  live-words id h = words_of-live (words_at chunks) 0 counts id id (omega arith) (omega (arith, h, live-count id))

  pub AreRows-kept : AreRows 0 rows
  AreRows-kept = AreRows-live (words_at chunks) 0 0 counts (omega arith) (λ k lt. length-words_at chunks k [] kept.whole (omega (arith, lt, kept.room)))

  -- more chunks
  pub grown : (more : List (List ℕ)) → Grows chunks more → IsKept more counts free spare live
  grown more grows = record {
    whole = grows.whole kept.whole;
    room = omega (arith, kept.room, grows.longer);
    few = kept.few;
    all = kept.all;
    counted = kept.counted ∙ sym (ap length same);
    frees = kept.frees;
  }
    where
      same : live_rows (words_at more) 0 counts ≡ live_rows (words_at chunks) 0 counts
      same = live_rows-same (words_at chunks) (words_at more) 0 counts (λ k low le. grows.same k (omega (arith, le, kept.room)))

  pub grown-rows : (more : List (List ℕ)) → Grows chunks more → live_rows (words_at more) 0 counts ≡ rows
  grown-rows more grows = live_rows-same (words_at chunks) (words_at more) 0 counts (λ k low le. grows.same k (omega (arith, le, kept.room)))

  -- a row with another count, or other words
  pub changed : (more : List (List ℕ)) (id count : ℕ) → Differs chunks more id → 0 < get_or counts id 0 → 0 < count → IsKept more (set counts id count) free spare live
  changed more id count differs had some =
      let within : id < length counts = some-within counts id had in
      let long : length (set counts id count) ≡ length counts = length-set counts id count in
      record {
        whole = differs.whole;
        room = omega (arith, kept.room, long, differs.long);
        few = omega (arith, kept.few, long);
        all = omega (arith, kept.all, long);
        counted = kept.counted ∙ sym (length-live_counted (words_at chunks) (words_at more) counts id within count some had);
        frees = IsFree-changed counts free kept.frees id count had some;
      }

  pub changed-rows : (more : List (List ℕ)) (id count : ℕ) → Differs chunks more id → id < length counts → 0 < count
      → live_rows (words_at more) 0 (set counts id count) ≡ with_row rows (record { id = id; count = count; words = words_at more id })
  changed-rows more id count differs within some = live_rows-set (words_at chunks) (words_at more) id differs.others 0 counts id count (omega arith) within some

  pub counted-rows : (id count : ℕ) → 0 < count_of rows id → 0 < count → live_rows (words_at chunks) 0 (set counts id count) ≡ with_count rows id count
  counted-rows id count h some =
      changed-rows chunks id count (Differs-none chunks id kept.whole) (live-within id h) some
      ∙ ap (λ (ws : List ℕ). with_row rows (record { id = id; count = count; words = ws })) (sym (live-words id h))

  -- a live row with other words
  pub overwritten-kept : (id : ℕ) (own : List ℕ) → 0 < count_of rows id → IsKept (with_words_at chunks id own) counts free spare live
  overwritten-kept id own h =
      let had : 0 < get_or counts id 0 = omega (arith, h, live-count id) in
      subst (λ (l : List ℕ). IsKept (with_words_at chunks id own) l free spare live) (set-get_or counts id 0)
      (changed (with_words_at chunks id own) id (get_or counts id 0) (Differs-with chunks id own kept.whole (live-stored id h)) had had)

  pub overwritten-rows : (id : ℕ) (own : List ℕ) → 0 < count_of rows id → live_rows (words_at (with_words_at chunks id own)) 0 counts ≡ with_words rows id (refill 8 (words_of rows id) own)
  overwritten-rows id own h =
      (let had : 0 < get_or counts id 0 = omega (arith, h, live-count id) in
      ap (live_rows (words_at (with_words_at chunks id own)) 0) (sym (set-get_or counts id 0))
      ∙ changed-rows (with_words_at chunks id own) id (get_or counts id 0) (Differs-with chunks id own kept.whole (live-stored id h)) (live-within id h) had
      ∙ ap (λ (n : ℕ). with_row rows (record { id = id; count = n; words = words_at (with_words_at chunks id own) id })) (sym (live-count id))
      ∙ ap (λ (ws : List ℕ). with_row rows (record { id = id; count = count_of rows id; words = ws }))
      (words_at-same chunks id own kept.whole (live-stored id h) ∙ ap (λ (ws : List ℕ). refill 8 ws own) (sym (live-words id h))))

  abbrev pool : Pool
  pool = record { rows = rows; spare = spare }

  pub overwritten-pool : (id : ℕ) (own : List ℕ) → 0 < count_of rows id
      → ◌≡◌ {A = Pool} (record { rows = live_rows (words_at (with_words_at chunks id own)) 0 counts; spare = spare }) (overwritten pool id own)
  overwritten-pool id own h = ap (λ (l : List Counted). record { rows = l; spare = spare }) (overwritten-rows id own h)

  -- those that can be taken are all that aren't live
  pub all-free : spare + live_of counts ≡ length counts
  all-free = omega (arith, kept.all, kept.counted, length-live (words_at chunks) 0 counts)

  -- a row that isn't counted is taken
  pub taken-kept : (more : List (List ℕ)) (id : ℕ) (free' : Free) → Differs chunks more id → id < length counts → get_or counts id 0 ≡ 0 → 0 < spare → IsFree (set counts id 1) free'
      → IsKept more (set counts id 1) free' (spare - 1) (live + 1)
  taken-kept more id free' differs within none h is =
      let long : length (set counts id 1) ≡ length counts = length-set counts id 1 in
      record {
        whole = differs.whole;
        room = omega (arith, kept.room, long, differs.long);
        few = omega (arith, kept.few, long);
        all = omega (arith, kept.all, long, h);
        counted = omega (arith, kept.counted, length-live_taken (words_at chunks) (words_at more) counts id within none);
        frees = is;
      }

  -- a row is counted no more
  pub given-kept : (more : List (List ℕ)) (id : ℕ) (free' : Free) → Differs chunks more id → 0 < get_or counts id 0 → IsFree (set counts id 0) free'
      → IsKept more (set counts id 0) free' (spare + 1) (live - 1)
  given-kept more id free' differs had is =
      let long : length (set counts id 0) ≡ length counts = length-set counts id 0 in
      let fewer = length-live_given (words_at chunks) (words_at more) counts id (some-within counts id had) had in
      record {
        whole = differs.whole;
        room = omega (arith, kept.room, long, differs.long);
        few = omega (arith, kept.few, long);
        all = omega (arith, kept.all, long, kept.counted, fewer);
        counted = omega (arith, kept.counted, fewer);
        frees = is;
      }

  -- the rows are handed out from another one on
  pub freed-kept : (free' : Free) → IsFree counts free' → IsKept chunks counts free' spare live
  freed-kept free' is = record { whole = kept.whole; room = kept.room; few = kept.few; all = kept.all; counted = kept.counted; frees = is }

  -- there are more rows, which are free
  pub added-rows : (n : ℕ) → live_rows (words_at chunks) 0 (counts ++ replicate n 0) ≡ rows
  added-rows n = live_rows-more (words_at chunks) 0 counts n

  pub added-kept : (n : ℕ) → length counts + n ≤ 256 * length chunks → length counts + n ≤ 2 ^ 31 → IsKept chunks (counts ++ replicate n 0) free (spare + n) live
  added-kept n room few =
      let long : length (counts ++ replicate n 0) ≡ length counts + n = length-append counts (replicate n 0) ∙ ap (λ (k : ℕ). length counts + k) (length-replicate n 0) in
      record {
        whole = kept.whole;
        room = omega (arith, room, long);
        few = omega (arith, few, long);
        all = omega (arith, kept.all, long);
        counted = kept.counted ∙ ap length (sym (added-rows n));
        frees = IsFree-more counts (replicate n 0) free kept.frees;
      }

-- eight words that were written are read
pub words-written : (chunks : List (List ℕ)) (id : ℕ) (own : List ℕ) → AreWhole chunks → id < 256 * length chunks → length own ≡ 8 → words_at (with_words_at chunks id own) id ≡ own
words-written chunks id own whole within eight = words_at-same chunks id own whole within ∙ refill-eight (words_at chunks id) own eight

-- what is written into the counts is read
pub count-written : (counts : List ℕ) (id n x : ℕ) → id < length counts → x ≡ get_or (set counts id n) id x → x ≡ n
count-written counts id n x within is = is ∙ get_or-set_same counts id n x within

module _ (chunks : List (List ℕ)) (counts : List ℕ) (free : Free) (spare live : ℕ) (kept : IsKept chunks counts free spare live) where
  abbrev seen : Pool
  seen = record { rows = live_rows (words_at chunks) 0 counts; spare = spare }

  -- the pool that is seen after a row was taken
  pub taken-pool : (more : List (List ℕ)) (id : ℕ) (own : List ℕ) → more ≡ with_words_at chunks id own → id < length counts → length own ≡ 8
      → ◌≡◌ {A = Pool} (record { rows = live_rows (words_at more) 0 (set counts id 1); spare = spare - 1 }) (taken_with seen id own)
  taken-pool more id own is within eight =
      (let stored : id < 256 * length chunks = omega (arith, within, kept.room) in
      let new = with_words_at chunks id own in
      ap (λ (l : List Counted). record { rows = l; spare = spare - 1 })
      (ap (λ (l : List (List ℕ)). live_rows (words_at l) 0 (set counts id 1)) is
      ∙ changed-rows chunks counts free spare live kept new id 1 (Differs-with chunks id own kept.whole stored) within (omega arith)
      ∙ ap (λ (ws : List ℕ). with_row (live_rows (words_at chunks) 0 counts) (record { id = id; count = 1; words = ws })) (words-written chunks id own kept.whole stored eight)))

  -- after the last that had a row gave it
  pub given-pool : (more : List (List ℕ)) (id : ℕ) → Differs chunks more id → count_of seen.rows id ≡ 1
      → ◌≡◌ {A = Pool} (record { rows = live_rows (words_at more) 0 (set counts id 0); spare = spare + 1 }) (given seen id)
  given-pool more id differs one =
      (let within = live-within chunks counts free spare live kept id (omega (arith, one)) in
      ap (λ (l : List Counted). record { rows = l; spare = spare + 1 }) (live_rows-clear (words_at chunks) (words_at more) id differs.others 0 counts id (omega arith) within)
      ∙ sym (ap (λ (c : Bool). cond c (record { rows = without_row seen.rows id; spare = spare + 1 }) (record { rows = with_count seen.rows id (count_of seen.rows id - 1); spare = spare })) (eq-eqb (count_of seen.rows id) 1 one)))

  -- after one of several gave it
  pub fewer-pool : (id n : ℕ) → n ≡ count_of seen.rows id → 0 < n - 1
      → ◌≡◌ {A = Pool} (record { rows = live_rows (words_at chunks) 0 (set counts id (n - 1)); spare = spare }) (given seen id)
  fewer-pool id n is more =
      (let had : 0 < count_of seen.rows id = omega (arith, is, more) in
      ap (λ (l : List Counted). record { rows = l; spare = spare }) (counted-rows chunks counts free spare live kept id (n - 1) had more ∙ ap (λ (k : ℕ). with_count seen.rows id (k - 1)) is)
      ∙ sym (ap (λ (c : Bool). cond c (record { rows = without_row seen.rows id; spare = spare + 1 }) (record { rows = with_count seen.rows id (count_of seen.rows id - 1); spare = spare }))
      (ne_eqb (count_of seen.rows id) 1 (λ e. omega (arith, e, is, more)))))

-- what holds in any case
pub on_err : {X E : Type 0} {P : Type 0} (r : Result X E) → P → OnErr r P
on_err (Ok x) holds = tt
on_err (Err e) holds = holds
