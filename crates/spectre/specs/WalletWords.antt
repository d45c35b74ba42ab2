-- The words that ask for a spend, and those that ask for a watch.
use Rattle.std.specs.Prelude.{ℕ, ◌-◌, ◌^◌, ◌==◌, ◌&&◌, flat_map, not, nat_le, Bool, true, false, if◌then◌else◌, List, [], ◌∷◌, codes, drop, length, take, Option, Some, None, Result, Ok, Err}
use Rattle.std.specs.List.{list_any}
use Rattle.std.specs.Str.{bytes_eq}
use Rattle.sp_ids.specs.Digest.{sha256_number}
use Rattle.sp_ids.specs.Hex.{hex_of}
use Rattle.sp_ids.specs.declared.hex_fault.HexFault.{HexFault}
use Rattle.sp_play.specs.Numbers.{number_in}
use Rattle.sp_play.specs.declared.why.Why.{Why}
use Rattle.sp_watch.specs.declared.item.Item.{Item}
use Rattle.sp_watch.specs.declared.item.Item.TheVariants.{Tx, Balance, Vote}
use Rattle.spectre.specs.Files.{is_file}
use Rattle.spectre.specs.IdWords.{ids_in}
use Rattle.spectre.specs.Words.{word_at}

-- ---- `spend AMOUNT to WORD from WORD ..`

-- a WORD has 1 to 64 bytes and doesn't begin with `-`
unfoldable pub is_word : List ℕ → Bool
is_word word = is_file word && nat_le (length word) 64

-- a word stands once more among others
abbrev pub stands_in : List (List ℕ) → List ℕ → Bool
stands_in words word = list_any (λ other. bytes_eq other word) words

-- it is a WORD, and none of these is the same
abbrev pub is_new_word : List ℕ → List (List ℕ) → Bool
is_new_word word words = is_word word && not (stands_in words word)

-- each is a WORD, and none stands twice
abbrev pub are_words : List (List ℕ) → Bool
are_words [] = true
are_words (word ∷ words) = is_new_word word words && are_words words

-- so it is with the words of a wallet, of which there are 1 to 16
unfoldable pub are_wallet : List (List ℕ) → Bool
are_wallet words = nat_le 1 (length words) && (nat_le (length words) 16 && are_words words)

-- the words but for the amount
unfoldable pub asks_spend : List (List ℕ) → Bool
asks_spend words =
    bytes_eq (word_at words 0) (codes "spend") && (bytes_eq (word_at words 2) (codes "to") && (is_word (word_at words 3)
    && (bytes_eq (word_at words 4) (codes "from") && are_wallet (drop 5 words))))

-- what is to be paid, to which lock, and by which words
pub record SpendAsked : Type 0 where
  pub amount : ℕ
  pub to : ℕ
  pub words : List (List ℕ)

abbrev pub asked_by : Result ℕ Why → List ℕ → List (List ℕ) → Option SpendAsked
asked_by (Ok amount) to words = Some (record { amount = amount; to = sha256_number to; words = words })
asked_by (Err why) to words = None

-- AMOUNT is 1 to 2^63 - 1
unfoldable pub spend_in : List (List ℕ) → Option SpendAsked
spend_in words =
    if asks_spend words then asked_by (number_in 1 (2 ^ 63 - 1) (word_at words 1)) (word_at words 3) (drop 5 words) else None

-- ---- `watch ITEM ..`

abbrev pub item_by : (ℕ → Item) → Result ℕ HexFault → Option Item
item_by item (Ok id) = Some (item id)
item_by item (Err fault) = None

abbrev pub pair_by : Option (ℕ × ℕ) → Option Item
pair_by None = None
pair_by (Some ids) = Some (Vote ids.0 ids.1)

-- ID,ID
unfoldable pub pair_in : List ℕ → Option Item
pair_in text =
    if bytes_eq (take 1 (drop 64 text)) (codes ",") then pair_by (ids_in (take 64 text) (drop 65 text)) else None

-- `lock:ID` or `pair:ID,ID`
unfoldable pub longer_item : List ℕ → Option Item
longer_item word =
    if bytes_eq (take 5 word) (codes "lock:") then item_by Balance (hex_of (drop 5 word)) else
    if bytes_eq (take 5 word) (codes "pair:") then pair_in (drop 5 word) else None

-- `tx:ID`, `lock:ID` or `pair:ID,ID`
unfoldable pub item_in : List ℕ → Option Item
item_in word =
    if bytes_eq (take 3 word) (codes "tx:") then item_by Tx (hex_of (drop 3 word)) else longer_item word

-- whether two items are one: ids are compared, and not how they are spelled. A pair the other way round is another item
abbrev pub same_item : Item → Item → Bool
same_item (Tx x) (Tx y) = x == y
same_item (Balance x) (Balance y) = x == y
same_item (Vote x y) (Vote z w) = (x == z) && (y == w)
same_item _ _ = false

abbrev pub is_same : Item → Option Item → Bool
is_same item None = false
is_same item (Some other) = same_item item other

-- one of these words asks for the item
abbrev pub is_among : Item → List (List ℕ) → Bool
is_among item words = list_any (λ word. is_same item (item_in word)) words

-- it is an item, and none of these is the same one
abbrev pub is_new : Option Item → List (List ℕ) → Bool
is_new None words = false
is_new (Some item) words = not (is_among item words)

-- each is an item, and none stands twice
abbrev pub are_items : List (List ℕ) → Bool
are_items [] = true
are_items (word ∷ words) = is_new (item_in word) words && are_items words

-- `watch` and 1 to 64 items
unfoldable pub asks_watch : List (List ℕ) → Bool
asks_watch words =
    bytes_eq (word_at words 0) (codes "watch") && (nat_le 2 (length words) && (nat_le (length words) 65 && are_items (drop 1 words)))

abbrev pub item_or_none : Option Item → List Item
item_or_none None = []
item_or_none (Some item) = item ∷ []

-- the items of these words, in their order
abbrev pub items_of : List (List ℕ) → List Item
items_of words = flat_map (λ word. item_or_none (item_in word)) words

unfoldable pub watch_in : List (List ℕ) → Option (List Item)
watch_in words = if asks_watch words then Some (items_of (drop 1 words)) else None
