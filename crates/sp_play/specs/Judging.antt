-- What a line's words say, judged from left to right.
use Rattle.std.specs.Prelude.{ℕ, ◌+◌, ◌-◌, ◌==◌, ◌&&◌, ◌^◌, Bool, nat_le, nat_lt, if◌then◌else◌, List, [], ◌∷◌, ◌++◌, length, map, take, drop, position, slice_index_or, Option, Some, None, Result, Ok, Err}
use Rattle.std.specs.List.{list_any}
use Rattle.std.specs.Ordering.{is_lt}
use Rattle.sp_ids.specs.Digest.{sha256_number}
use Rattle.sp_ids.specs.declared.outpoint.Outpoint.{Outpoint}
use Rattle.sp_tx.specs.declared.parts.Input.{Input}
use Rattle.sp_tx.specs.declared.parts.Output.{Output}
use Rattle.sp_ids.specs.Outpoints.{outpoint_cmp, same_outpoint}
use Rattle.sp_tx.specs.Parts.{of_parts, Transaction}
use Rattle.sp_tx.specs.Spending.{id_of}
use Rattle.sp_play.specs.Forms.{◌>>=◌}
use Rattle.sp_play.specs.Pieces.{Pay, Spend}
use Rattle.sp_play.specs.Known.{Entry, known_block, known_tx, locked_of, thing_at}
use Rattle.sp_play.specs.Numbers.{number_in}
use Rattle.sp_play.specs.Things.{LockedTx}
use Rattle.sp_play.specs.declared.out.Out.{Out}
use Rattle.sp_play.specs.declared.paid.Paid.{Paid}
use Rattle.sp_play.specs.declared.places.Wanted.{Wanted}
use Rattle.sp_play.specs.declared.places.Wanted.TheVariants as wanted
use Rattle.sp_play.specs.declared.why.Why.{Why}
use Rattle.sp_play.specs.declared.why.Why.TheVariants as why

-- a word that may have a lock: 1 to 64 bytes, and no word is empty
unfoldable pub lock_word : List ℕ → Result (List ℕ) Why
lock_word word = if nat_le 1 (length word) && nat_le (length word) 64 then Ok word else Err why.Word

abbrev pub paid : ℕ → List ℕ → Paid
paid amount word = record { amount = amount; word = word }

unfoldable pub paid_of : Pay → Result Paid Why
paid_of pay = number_in 1 (2 ^ 63 - 1) pay.amount >>= λ amount. lock_word pay.word >>= λ word. Ok (paid amount word)

-- what PAYs say, behind those judged before
unfoldable pub paid_after : List Paid → List Pay → Result (List Paid) Why
paid_after found [] = Ok found
paid_after found (pay ∷ pays) = paid_of pay >>= λ one. paid_after (found ++ one ∷ []) pays

-- the lock of a word is its SHA-256
abbrev pub output_of : Paid → Output
output_of one = record { amount = one.amount; lock = sha256_number one.word }

-- an output of a transaction
abbrev pub out_at : LockedTx → ℕ → Result Out Why
out_at named index =
    if nat_lt index (length named.tx.outputs)
    then Ok (record { from = record { tx = id_of named.tx; index = index }; word = slice_index_or named.words index [] })
    else Err why.Unknown

-- an INDEX; one that isn't well formed names nothing
abbrev pub index_of : Result ℕ Why → Result ℕ Why
index_of (Ok index) = Ok index
index_of (Err reason) = Err why.Unknown

-- NAME and INDEX, before and behind the first `.`
abbrev pub out_split : List Entry → List ℕ → Option ℕ → Result Out Why
out_split entries word None = Err why.Unknown
out_split entries word (Some place) =
    known_tx entries (take place word) >>= λ tx. index_of (number_in 0 255 (drop (place + 1) word)) >>= λ index.
    out_at (locked_of (thing_at entries tx)) index

-- the output that a word `NAME.INDEX` names
unfoldable pub out_of : List Entry → List ℕ → Result Out Why
out_of entries word = out_split entries word (position (λ byte. byte == 46) word)

-- the preimage: the word behind `with`, else the word that locks the output
abbrev pub preimage_of : Option (List ℕ) → List ℕ → Result (List ℕ) Why
preimage_of None word = Ok word
preimage_of (Some opener) word = lock_word opener

abbrev pub is_spent : List Input → Outpoint → Bool
is_spent found from = list_any (λ input. same_outpoint input.from from) found

abbrev pub input : Outpoint → List ℕ → Input
input from preimage = record { from = from; preimage = preimage }

-- the input that a SPEND says, behind those judged before
unfoldable pub input_of : List Entry → List Input → Spend → Result Input Why
input_of entries found spend =
    out_of entries spend.out >>= λ out.
    if is_spent found out.from then Err why.Repeat
    else (preimage_of spend.opener out.word >>= λ preimage. Ok (input out.from preimage))

-- what SPENDs say, behind those judged before
unfoldable pub inputs_after : List Entry → List Input → List Spend → Result (List Input) Why
inputs_after entries found [] = Ok found
inputs_after entries found (spend ∷ spends) = input_of entries found spend >>= λ one. inputs_after entries (found ++ one ∷ []) spends

-- inputs in ascending order of their outpoints, those of equal outpoints in their order

abbrev pub put_input : Input → List Input → List Input
put_input x [] = x ∷ []
put_input x (y ∷ ys) = if is_lt (outpoint_cmp y.from x.from) then y ∷ put_input x ys else x ∷ y ∷ ys

unfoldable pub by_outpoint : List Input → List Input
by_outpoint [] = []
by_outpoint (x ∷ xs) = put_input x (by_outpoint xs)

-- the transaction of some inputs and outputs
abbrev pub tx_of : List Input → List Paid → Transaction
tx_of inputs paid = of_parts (by_outpoint inputs) (map output_of paid)

-- the places of names, all of them different, behind those judged before
unfoldable pub places_after : (List ℕ → Result ℕ Why) → List ℕ → List (List ℕ) → Result (List ℕ) Why
places_after find found [] = Ok found
places_after find found (word ∷ words) =
    find word >>= λ place.
    if list_any (λ other. other == place) found then Err why.Repeat else places_after find (found ++ place ∷ []) words

-- the known block or transaction that a word names
abbrev pub known_as : Wanted → List Entry → List ℕ → Result ℕ Why
known_as wanted.Block entries word = known_block entries word
known_as wanted.Tx entries word = known_tx entries word

-- the different blocks or transactions that words name
abbrev pub places_of : Wanted → List Entry → List (List ℕ) → Result (List ℕ) Why
places_of want entries words = places_after (known_as want entries) [] words
