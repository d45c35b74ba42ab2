-- The words of a line that is judged are bytes, and so are those that its parts take over.
use Rattle.std.proofs.Common.{◌≡◌, ℕ, zero, suc, ◌<◌, Bool, true, false, List, [], ◌∷◌, ◌++◌, drop, map, Some, None, Result, Ok, Err, inl, inr, refl, arith}
use Rattle.std.specs.Prelude.{codes, filter, IfOk, IfSome, if◌then◌else◌, slice_index_or}
use Rattle.std.specs.List.{AllByRecursion, list_all, onto_first, slice_split}
use Rattle.std.proofs.lemmas.Bool.{and_parts, cases_Bool}
use Rattle.std.proofs.lemmas.Bool.Decides.{nat_tests}
use Rattle.sp_form.specs.Bytes.{IsBytes}
use Rattle.sp_play.specs.Forms.{◌>>=◌, ends_spends, pays_after, pays_of, Spending, spends_after}
use Rattle.sp_play.specs.Commands.{is_word}
use Rattle.sp_play.specs.Pieces.{Pay, pay, Spend, spend}
use Rattle.sp_play.specs.Words.{is_blank, is_line_byte, words_of}
use Rattle.sp_play.specs.declared.why.Why.{Why}
use Rattle.sp_play.proofs.TextBytes.{bytes_cons, bytes_nil}

-- ---- what holds of each outcome

module _ {A : Type 0} (P : A → Type 0) where
  pub if_either : (b : Bool) (x y : Result A Why) → (b ≡ true → IfOk x P) → (b ≡ false → IfOk y P) → IfOk (if b then x else y) P
  if_either true x y so otherwise = so refl
  if_either false x y so otherwise = otherwise refl

  pub if_then : (b : Bool) (x : Result A Why) (reason : Why) → (b ≡ true → IfOk x P) → IfOk (if b then x else Err reason) P
  if_then b x reason so = if_either b x (Err reason) so (λ e. tt)

  pub if_else : (b : Bool) (x : Result A Why) (reason : Why) → (b ≡ false → IfOk x P) → IfOk (if b then Err reason else x) P
  if_else b x reason otherwise = if_either b (Err reason) x (λ e. tt) otherwise

  pub after_such : {B : Type 0} (Q : B → Type 0) (r : Result B Why) (next : B → Result A Why) → IfOk r Q → ((x : B) → Q x → IfOk (next x) P) → IfOk (r >>= next) P
  after_such Q (Ok x) next h follows = follows x h
  after_such Q (Err reason) next h follows = tt

  pub after_any : {B : Type 0} (r : Result B Why) (next : B → Result A Why) → ((x : B) → IfOk (next x) P) → IfOk (r >>= next) P
  after_any (Ok x) next follows = follows x
  after_any (Err reason) next follows = tt

  -- ---- what holds of each member

  pub kept_push : (xs : List A) (x : A) → AllByRecursion P xs → P x → AllByRecursion P (xs ++ x ∷ [])
  kept_push [] x all h = (h, tt)
  kept_push (y ∷ xs) x all h = (all.0, kept_push xs x all.1 h)

  pub kept_drop : (n : ℕ) (xs : List A) → AllByRecursion P xs → AllByRecursion P (drop n xs)
  kept_drop zero xs all = all
  kept_drop (suc n) [] all = tt
  kept_drop (suc n) (x ∷ xs) all = kept_drop n xs all.1

  pub kept_at : (xs : List A) (i : ℕ) (or : A) → P or → AllByRecursion P xs → P (slice_index_or xs i or)
  kept_at [] i or h all = h
  kept_at (x ∷ xs) zero or h all = all.0
  kept_at (x ∷ xs) (suc i) or h all = kept_at xs i or h all.1

  kept_filter : (test : A → Bool) (xs : List A) → AllByRecursion P xs → AllByRecursion P (filter test xs)
  kept_filter test [] all = tt
  kept_filter test (x ∷ xs) all = elim (cases_Bool (test x)) [
    | inl e ↦ rw e (all.0, kept_filter test xs all.1)
    | inr e ↦ rw e (kept_filter test xs all.1)
  ]

  pub kept_map : {B : Type 0} (Q : B → Type 0) (f : B → A) → ((y : B) → Q y → P (f y)) → (ys : List B) → AllByRecursion Q ys → AllByRecursion P (map f ys)
  kept_map Q f h [] all = tt
  kept_map Q f h (y ∷ ys) all = (h y all.0, kept_map Q f h ys all.1)

  pub each_map : {B : Type 0} (f : B → A) → ((y : B) → P (f y)) → (ys : List B) → AllByRecursion P (map f ys)
  each_map f h [] = tt
  each_map f h (y ∷ ys) = (h y, each_map f h ys)

-- ---- the words of a line

line_byte_below : (b : ℕ) → is_line_byte b ≡ true → b < 256
line_byte_below b h = grind (arith, nat_tests, h)

line_bytes : (line : List ℕ) → list_all is_line_byte line ≡ true → IsBytes line
line_bytes [] h = bytes_nil
line_bytes (b ∷ line) h = let parts = and_parts (is_line_byte b) (list_all is_line_byte line) h in bytes_cons b line (line_byte_below b parts.0) (line_bytes line parts.1)

abbrev pub AreWords : List (List ℕ) → Type 0
AreWords words = AllByRecursion IsBytes words

split_bytes : (test : ℕ → Bool) (xs : List ℕ) → IsBytes xs → AreWords (slice_split test xs)
split_bytes test [] h = (bytes_nil, tt)
split_bytes test (x ∷ xs) h =
    let behind = split_bytes test xs (λ place. h (suc place)) in
    elim (cases_Bool (test x)) [
      | inl e ↦ rw e (bytes_nil, behind)
      | inr e ↦ rw e (onto (slice_split test xs) behind)
    ]
  where
    onto : (parts : List (List ℕ)) → AreWords parts → AreWords (onto_first x parts)
    onto [] all = (bytes_cons x [] (h 0) bytes_nil, tt)
    onto (part ∷ parts) all = (bytes_cons x part (h 0) all.0, all.1)

pub are_words : (line : List ℕ) → list_all is_line_byte line ≡ true → AreWords (words_of line)
are_words line h = kept_filter IsBytes _ (slice_split is_blank line) (split_bytes is_blank line (line_bytes line h))

-- ---- the parts that pay and spend

abbrev pub PaysBytes : Pay → Type 0
PaysBytes pay = IsBytes pay.word

abbrev pub OpensBytes : Spend → Type 0
OpensBytes spend = IfSome spend.opener IsBytes

pays_behind : (found : List Pay) (words : List (List ℕ)) → AllByRecursion PaysBytes found → AreWords words → IfOk (pays_after found words) (AllByRecursion PaysBytes)
unfolding pays_after
pays_behind found [] all are = all
pays_behind found (amount ∷ []) all are = tt
pays_behind found (amount ∷ key ∷ []) all are = tt
pays_behind found (amount ∷ key ∷ word ∷ words) all are =
    if_then (AllByRecursion PaysBytes) (is_word (codes "to") key) _ _ (λ e. pays_behind (found ++ pay amount word ∷ []) words (kept_push PaysBytes found (pay amount word) all are.1.1.0) are.1.1.1)

pub pays_are : (words : List (List ℕ)) → AreWords words → IfOk (pays_of words) (AllByRecursion PaysBytes)
unfolding pays_of
pays_are words are = if_else (AllByRecursion PaysBytes) _ _ _ (λ e. pays_behind [] words tt are)

pub record SpendsBytes (spending : Spending) : Type 0 where
  pub spends : AllByRecursion OpensBytes spending.spends
  pub rest : AreWords spending.rest

spends_behind : (found : List Spend) (words : List (List ℕ)) → AllByRecursion OpensBytes found → AreWords words → IfOk (spends_after found words) SpendsBytes
unfolding spends_after
spends_behind found [] all are = tt
spends_behind found (out ∷ []) all are = tt
spends_behind found (out ∷ key ∷ []) all are = tt
spends_behind found (out ∷ key ∷ word ∷ words) all are =
    if_either SpendsBytes (ends_spends found out) _ _ (λ e. record { spends = all; rest = are.1 }) (λ e.
    if_either SpendsBytes (is_word (codes "with") key) _ _
    (λ w. spends_behind (found ++ spend out (Some word) ∷ []) words (kept_push OpensBytes found (spend out (Some word)) all are.1.1.0) are.1.1.1)
    (λ w. spends_behind (found ++ spend out None ∷ []) (key ∷ word ∷ words) (kept_push OpensBytes found (spend out None) all tt) are.1))

pub spends_are : (words : List (List ℕ)) → AreWords words → IfOk (spends_after [] words) SpendsBytes
spends_are words are = spends_behind [] words tt are
