-- The words of rows in chunks, where those of one row change.
use Rattle.std.proofs.Common.{◌≡◌, ℕ, ◌+◌, ◌-◌, ◌*◌, ◌/◌, ◌%◌, ◌<◌, ◌≤◌, ◌⊎◌, inl, inr, List, [], ◌∷◌, ◌++◌, length, take, drop, set, get_or, refl, sym, ap, ◌∙◌, arith, get_or-set_same, get_or-set_other, length-append}
use Rattle.std.specs.List.{refill, length_refill}
use Rattle.std.proofs.lemmas.Bool.{cases_lt, cases_eq}
use Rattle.std.proofs.lemmas.List.{same_lists, get_or-take, get_or-drop, get_or_append_left, get_or-append_right, length-take, length-set, take_at}
use Rattle.sp_rows.specs.Rows.{row_of, with_row_of}
use Rattle.sp_rows.specs.Kept.{words_at, with_words_at, AreWhole, Grows}
use Rattle.sp_rows.proofs.Runs.{length-row_of, length-with_row_of}

-- eight words in place of eight others are these
pub refill-eight : (old own : List ℕ) → length own ≡ 8 → refill 8 old own ≡ own
refill-eight old own long = take_at own (drop (length own) old) 8 long

module _ (ws own : List ℕ) (row : ℕ) (within : 8 * row + 8 ≤ length ws) where
  eight : length (refill 8 (row_of ws row) own) ≡ 8
  eight = sym (length_refill 8 (row_of ws row) own (sym (length-row_of ws row within)))

  front : length (take (8 * row) ws) ≡ 8 * row
  front = omega (arith, length-take (8 * row) ws)

  -- the row itself
  pub row_of-same : row_of (with_row_of ws row own) row ≡ refill 8 (row_of ws row) own
  row_of-same =
      same_lists (row_of (with_row_of ws row own) row) new (length-row_of (with_row_of ws row own) row (omega (arith, length-with_row_of ws own row within)) ∙ sym eight) (λ k d le.
      let small : k < 8 = omega (arith, length-row_of (with_row_of ws row own) row (omega (arith, length-with_row_of ws own row within))) in
      let at : 8 * row + k - 8 * row ≡ k = omega arith in
      get_or-take 8 (drop (8 * row) (with_row_of ws row own)) k d small ∙ get_or-drop (8 * row) (with_row_of ws row own) k d
      ∙ get_or-append_right (take (8 * row) ws) (new ++ drop (8 * row + 8) ws) (8 * row) (8 * row + k) d front (omega arith)
      ∙ ap (λ (j : ℕ). get_or (new ++ drop (8 * row + 8) ws) j d) at ∙ get_or_append_left new (drop (8 * row + 8) ws) d k (omega (arith, eight)))
    where
      new : List ℕ
      new = refill 8 (row_of ws row) own

  -- a word outside the row
  outside : (j d : ℕ) → j < 8 * row ⊎ 8 * row + 8 ≤ j → get_or (with_row_of ws row own) j d ≡ get_or ws j d
  outside j d (inl before) =
      get_or_append_left (take (8 * row) ws) (refill 8 (row_of ws row) own ++ drop (8 * row + 8) ws) d j (omega (arith, front)) ∙ get_or-take (8 * row) ws j d before
  outside j d (inr behind) =
      (let at : j - 8 * row - 8 + (8 * row + 8) ≡ j = omega arith in let turned : 8 * row + 8 + (j - 8 * row - 8) ≡ j = omega arith in
      get_or-append_right (take (8 * row) ws) (refill 8 (row_of ws row) own ++ drop (8 * row + 8) ws) (8 * row) j d front (omega arith)
      ∙ get_or-append_right (refill 8 (row_of ws row) own) (drop (8 * row + 8) ws) 8 (j - 8 * row) d eight (omega arith)
      ∙ get_or-drop (8 * row + 8) ws (j - 8 * row - 8) d ∙ ap (λ (k : ℕ). get_or ws k d) turned)

  -- another row
  pub row_of-other : (r : ℕ) → (r ≡ row → ⊥) → 8 * r + 8 ≤ length ws → row_of (with_row_of ws row own) r ≡ row_of ws r
  row_of-other r other le =
      (let count : length (row_of (with_row_of ws row own) r) ≡ 8 = length-row_of (with_row_of ws row own) r (omega (arith, length-with_row_of ws own row within)) in
      same_lists (row_of (with_row_of ws row own) r) (row_of ws r) (count ∙ sym (length-row_of ws r le)) (λ k d lt.
      let small : k < 8 = omega (arith, count) in
      get_or-take 8 (drop (8 * r) (with_row_of ws row own)) k d small ∙ get_or-drop (8 * r) (with_row_of ws row own) k d
      ∙ outside (8 * r + k) d (side k small (cases_lt r row)) ∙ sym (get_or-take 8 (drop (8 * r) ws) k d small ∙ get_or-drop (8 * r) ws k d)))
    where
      side : (k : ℕ) → k < 8 → (r < row) ⊎ (row ≤ r) → 8 * r + k < 8 * row ⊎ 8 * row + 8 ≤ 8 * r + k
      side k small (inl below) = inl (omega arith)
      side k small (inr above) = (let apart : row < r = by (cases_eq r row) in inr (omega arith))
        where
          by : (r ≡ row) ⊎ (r ≡ row → ⊥) → row < r
          by (inl same) = absurd (other same)
          by (inr ne) = (let not : row ≡ r → ⊥ = λ e. ne (sym e) in by_lt (cases_lt row r) not)
            where
              by_lt : (row < r) ⊎ (r ≤ row) → (row ≡ r → ⊥) → row < r
              by_lt (inl lt) n = lt
              by_lt (inr le) n = absurd (n (omega arith))

module _ (chunks : List (List ℕ)) (id : ℕ) (own : List ℕ) (whole : AreWhole chunks) (within : id < 256 * length chunks) where
  abbrev chunk : List ℕ
  chunk = get_or chunks (id / 256) []

  long : length chunk ≡ 2048
  long = whole (id / 256) (omega arith)

  pub AreWhole-with : AreWhole (with_words_at chunks id own)
  AreWhole-with k le = by (cases_eq k (id / 256))
    where
      new : List ℕ
      new = with_row_of (get_or chunks (id / 256) []) (id % 256) own

      by : (k ≡ id / 256) ⊎ (k ≡ id / 256 → ⊥) → length (get_or (set chunks (id / 256) new) k []) ≡ 2048
      by (inl same) =
          ap (λ (j : ℕ). length (get_or (set chunks (id / 256) new) j [])) same ∙ ap length (get_or-set_same chunks (id / 256) new [] (omega arith))
          ∙ length-with_row_of (get_or chunks (id / 256) []) own (id % 256) (omega (arith, long)) ∙ long
      by (inr other) = ap length (get_or-set_other chunks (id / 256) k new [] other) ∙ whole k (omega (arith, le, length-set chunks (id / 256) new))

  pub words_at-same : words_at (with_words_at chunks id own) id ≡ refill 8 (words_at chunks id) own
  words_at-same =
      ap (λ (l : List ℕ). row_of l (id % 256)) (get_or-set_same chunks (id / 256) (with_row_of (get_or chunks (id / 256) []) (id % 256) own) [] (omega arith))
      ∙ row_of-same (get_or chunks (id / 256) []) own (id % 256) (omega (arith, long))

  pub words_at-other : (k : ℕ) → (k ≡ id → ⊥) → words_at (with_words_at chunks id own) k ≡ words_at chunks k
  words_at-other k other = by (cases_eq (k / 256) (id / 256))
    where
      new : List ℕ
      new = with_row_of (get_or chunks (id / 256) []) (id % 256) own

      by : (k / 256 ≡ id / 256) ⊎ (k / 256 ≡ id / 256 → ⊥) → row_of (get_or (set chunks (id / 256) new) (k / 256) []) (k % 256) ≡ row_of (get_or chunks (k / 256) []) (k % 256)
      by (inl same) =
          (let apart : k % 256 ≡ id % 256 → ⊥ = λ e. other (omega arith) in
          ap (λ (j : ℕ). row_of (get_or (set chunks (id / 256) new) j []) (k % 256)) same
          ∙ ap (λ (l : List ℕ). row_of l (k % 256)) (get_or-set_same chunks (id / 256) new [] (omega arith))
          ∙ row_of-other (get_or chunks (id / 256) []) own (id % 256) (omega (arith, long)) (k % 256) apart (omega (arith, long))
          ∙ ap (λ (j : ℕ). row_of (get_or chunks j []) (k % 256)) (sym same))
      by (inr apart) = ap (λ (l : List ℕ). row_of l (k % 256)) (get_or-set_other chunks (id / 256) (k / 256) new [] apart)

  pub length-words_at : length (words_at chunks id) ≡ 8
  length-words_at = length-row_of (get_or chunks (id / 256) []) (id % 256) (omega (arith, long))

-- one more chunk
pub words_at-append : (chunks : List (List ℕ)) (new : List ℕ) (id : ℕ) → id < 256 * length chunks → words_at (chunks ++ new ∷ []) id ≡ words_at chunks id
words_at-append chunks new id within = ap (λ (l : List ℕ). row_of l (id % 256)) (get_or_append_left chunks (new ∷ []) [] (id / 256) (omega arith))

pub AreWhole-append : (chunks : List (List ℕ)) (new : List ℕ) → AreWhole chunks → length new ≡ 2048 → AreWhole (chunks ++ new ∷ [])
AreWhole-append chunks new whole long k le = by (cases_lt k (length chunks))
  where
    by : (k < length chunks) ⊎ (length chunks ≤ k) → length (get_or (chunks ++ new ∷ []) k []) ≡ 2048
    by (inl before) = ap length (get_or_append_left chunks (new ∷ []) [] k before) ∙ whole k before
    by (inr at) =
        (let last : k - length chunks ≡ 0 = omega (arith, le, length-append chunks (new ∷ [])) in
        ap length (get_or-append_right chunks (new ∷ []) (length chunks) k [] refl at ∙ ap (λ (j : ℕ). get_or (new ∷ []) j []) last) ∙ long)

-- chunks that more chunks follow
pub Grows-refl : (chunks : List (List ℕ)) → Grows chunks chunks
Grows-refl chunks = record { longer = omega arith; same = λ id le. refl; whole = λ all. all }

pub Grows-more : (old new : List (List ℕ)) (chunk : List ℕ) → length chunk ≡ 2048 → Grows old new → Grows old (new ++ chunk ∷ [])
Grows-more old new chunk long grows = record {
  longer = omega (arith, grows.longer, length-append new (chunk ∷ []));
  same = λ id le. words_at-append new chunk id (omega (arith, grows.longer, le)) ∙ grows.same id le;
  whole = λ all. AreWhole-append new chunk (grows.whole all) long;
}
