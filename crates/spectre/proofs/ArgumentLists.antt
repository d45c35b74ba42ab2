-- What each of right words is: of a wallet's, and of a watch's.
use Rattle.std.proofs.Common.{◌≡◌, ◌<◌, ◌≤◌, ◌&&◌, Bool, true, false, ℕ, List, [], ◌∷◌, cond, drop, take, length, length-append, nat_le, IsNone, IsTrue, Option, Some, None, refl, sym, ap, ◌∙◌, arith}
use Rattle.std.specs.Prelude.{codes, string_bytes, String}
use Rattle.std.specs.Global.{Global}
use Rattle.std.specs.Str.{bytes_eq}
use Rattle.std.proofs.lemmas.List.{drop_all, length-map}
use Rattle.sp_watch.specs.declared.item.Item.{Item}
use Rattle.spectre.specs.Files.{is_file}
use Rattle.spectre.specs.IdWords.{ids_in}
use Rattle.spectre.specs.WalletWords.{are_items, are_wallet, are_words, asks_spend, asks_watch, is_new, is_new_word, is_word, item_in, item_or_none, items_of, pair_by, pair_in, spend_in, watch_in}
use Rattle.spectre.specs.Words.{texts, word_at}

both : (a b : Bool) → (a && b) ≡ true → (a ≡ true) × (b ≡ true)
both true b e = (refl, e)
both false b e = absurd (let no : false ≡ true = e in cc)

-- ---- a wallet's words

word_size : (word : List ℕ) → is_word word ≡ true → (1 ≤ length word) × (length word ≤ 64)
unfolding is_word is_file
word_size [] e = absurd (let no : false ≡ true = e in cc)
word_size (b ∷ bytes) e = (omega arith, (let le : nat_le (length (b ∷ bytes)) 64 ≡ true = (both _ (nat_le (length (b ∷ bytes)) 64) e).1 in grind (arith, le)))

first_right : (word : List ℕ) (words : List (List ℕ)) → are_words (word ∷ words) ≡ true → is_word word ≡ true
first_right word words e = (both (is_word word) _ (both (is_new_word word words) (are_words words) e).0).0

pub word_some : (word : List ℕ) (words : List (List ℕ)) → are_words (word ∷ words) ≡ true → 1 ≤ length word
word_some word words e = (word_size word (first_right word words e)).0

pub word_short : (word : List ℕ) (words : List (List ℕ)) → are_words (word ∷ words) ≡ true → length word ≤ 64
word_short word words e = (word_size word (first_right word words e)).1

pub others_right : (word : List ℕ) (words : List (List ℕ)) → are_words (word ∷ words) ≡ true → are_words words ≡ true
others_right word words e = (both (is_new_word word words) (are_words words) e).1

pub words_right : (words : List (List ℕ)) → IsTrue (are_wallet words) → are_words words ≡ true
unfolding are_wallet
words_right words e = (both _ (are_words words) (both (nat_le 1 (length words)) _ e).1).1

pub words_few : (words : List (List ℕ)) → IsTrue (are_wallet words) → length words ≤ 16
unfolding are_wallet
words_few words e = let le : nat_le (length words) 16 ≡ true = (both (nat_le (length words) 16) (are_words words) (both (nat_le 1 (length words)) _ e).1).0 in grind (arith, le)

pub words_some : (words : List (List ℕ)) → IsTrue (are_wallet words) → 1 ≤ length words
unfolding are_wallet
words_some words e = let le : nat_le 1 (length words) ≡ true = (both (nat_le 1 (length words)) _ e).0 in grind (arith, le)

-- of fewer words none is the fifth
no_fifth : (words : List (List ℕ)) → length words < 5 → word_at words 4 ≡ []
no_fifth [] h = refl
no_fifth (a ∷ []) h = refl
no_fifth (a ∷ b ∷ []) h = refl
no_fifth (a ∷ b ∷ c ∷ []) h = refl
no_fifth (a ∷ b ∷ c ∷ d ∷ []) h = refl
no_fifth (a ∷ b ∷ c ∷ d ∷ e ∷ words) h = absurd (omega (arith, h))

none_so : (a b c d : Bool) → (a && (b && (c && (false && d)))) ≡ false
none_so true true true d = refl
none_so true true false d = refl
none_so true false c d = refl
none_so false b c d = refl

few_ask : (words : List (List ℕ)) → length words < 5 → asks_spend words ≡ false
unfolding asks_spend
few_ask words h =
    ap (λ (w : List ℕ). bytes_eq (word_at words 0) (codes "spend") && (bytes_eq (word_at words 2) (codes "to") && (is_word (word_at words 3) && (bytes_eq w (codes "from") && are_wallet (drop 5 words))))) (no_fifth words h)
    ∙ none_so (bytes_eq (word_at words 0) (codes "spend")) (bytes_eq (word_at words 2) (codes "to")) (is_word (word_at words 3)) (are_wallet (drop 5 words))

pub few_words : (words : List (String Global)) → length words < 5 → IsNone (spend_in (texts words))
unfolding spend_in
few_words words h =
    let few : length (texts words) < 5 = omega (arith, h, length-map words string_bytes) in
    rw (few_ask (texts words) few) refl

last_of_four : (a b c d e : Bool) → (a && (b && (c && (d && e)))) ≡ true → e ≡ true
last_of_four a b c d e h = (both d e (both c _ (both b _ (both a _ h).1).1).1).1

pub wallet_right : (words from : List (List ℕ)) → IsTrue (asks_spend words) → from ≡ drop 5 words → IsTrue (are_wallet from)
unfolding asks_spend
wallet_right words from e is =
    ap are_wallet is ∙ last_of_four (bytes_eq (word_at words 0) (codes "spend")) (bytes_eq (word_at words 2) (codes "to")) (is_word (word_at words 3)) (bytes_eq (word_at words 4) (codes "from")) (are_wallet (drop 5 words)) e

-- ---- a watch's

-- a text that is too short has no comma in its place
pub short_pair : (text : List ℕ) → length text < 65 → None ≡ pair_in text
unfolding pair_in
short_pair text h =
    let none : drop 64 text ≡ [] = drop_all 64 text (omega (arith, h)) in
    sym (ap (λ (t : List ℕ). cond (bytes_eq (take 1 t) (codes ",")) (pair_by (ids_in (take 64 text) (drop 65 text))) None) none)

one_item : (o : Option Item) (words : List (List ℕ)) → is_new o words ≡ true → length (item_or_none o) ≡ 1
one_item None words e = absurd (let no : false ≡ true = e in cc)
one_item (Some item) words e = refl

pub items_long : (words : List (List ℕ)) → IsTrue (are_items words) → length (items_of words) ≡ length words
items_long [] e = refl
items_long (word ∷ words) e =
    let two = both (is_new (item_in word) words) (are_items words) e in
    omega (arith, length-append (item_or_none (item_in word)) (items_of words), one_item (item_in word) words two.0, items_long words two.1)

-- so many words ask for no watch
is_few : (n : ℕ) → n < 2 → nat_le 2 n ≡ false
is_few n h = grind (arith)

is_many : (n : ℕ) → 65 < n → nat_le n 65 ≡ false
is_many n h = grind (arith)

no_second : (a b : Bool) → (a && (false && b)) ≡ false
no_second true b = refl
no_second false b = refl

no_third : (a b c : Bool) → (a && (b && (false && c))) ≡ false
no_third true true c = refl
no_third true false c = refl
no_third false b c = refl

few_asked : (words : List (List ℕ)) → length words < 2 → asks_watch words ≡ false
unfolding asks_watch
few_asked words h =
    ap (λ (b : Bool). bytes_eq (word_at words 0) (codes "watch") && (b && (nat_le (length words) 65 && are_items (drop 1 words)))) (is_few (length words) h)
    ∙ no_second (bytes_eq (word_at words 0) (codes "watch")) (nat_le (length words) 65 && are_items (drop 1 words))

many_asked : (words : List (List ℕ)) → 65 < length words → asks_watch words ≡ false
unfolding asks_watch
many_asked words h =
    ap (λ (b : Bool). bytes_eq (word_at words 0) (codes "watch") && (nat_le 2 (length words) && (b && are_items (drop 1 words)))) (is_many (length words) h)
    ∙ no_third (bytes_eq (word_at words 0) (codes "watch")) (nat_le 2 (length words)) (are_items (drop 1 words))

pub few_watched : (words : List (String Global)) → length words < 2 → IsNone (watch_in (texts words))
unfolding watch_in
few_watched words h =
    let few : length (texts words) < 2 = omega (arith, h, length-map words string_bytes) in
    rw (few_asked (texts words) few) refl

pub many_watched : (words : List (String Global)) → 65 < length words → IsNone (watch_in (texts words))
unfolding watch_in
many_watched words h =
    let many : 65 < length (texts words) = omega (arith, h, length-map words string_bytes) in
    rw (many_asked (texts words) many) refl

pub items_right : (words items : List (List ℕ)) → IsTrue (asks_watch words) → items ≡ drop 1 words → IsTrue (are_items items)
unfolding asks_watch
items_right words items e is =
    ap are_items is ∙ (both (nat_le (length words) 65) (are_items (drop 1 words)) (both (nat_le 2 (length words)) _ (both (bytes_eq (word_at words 0) (codes "watch")) _ e).1).1).1
