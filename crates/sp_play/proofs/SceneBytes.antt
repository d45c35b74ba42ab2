-- What a scenario makes is bytes: each line leaves transactions and blocks whose texts are bytes, so the genesis block
-- and the blocks that are sent are bytes.
use Rattle.std.proofs.Common.{◌≡◌, ℕ, zero, suc, ◌+◌, ◌<◌, ◌^◌, Bool, true, false, cond, List, [], ◌∷◌, ◌++◌, length, map, Option, Some, None, Result, Ok, Err, refl, ap, subst, arith}
use Rattle.std.specs.Prelude.{◌&&◌, ◌||◌, ◌==◌, codes, Contains, IfOk, IfSome, nat_le, nat_lt, not, slice_index_or}
use Rattle.std.specs.List.{AllByRecursion, list_all, list_any, sum_by}
use Rattle.std.proofs.lemmas.Bool.{and_parts}
use Rattle.std.proofs.lemmas.Bool.Decides.{nat_tests}
use Rattle.sp_form.specs.Bytes.{IsBytes}
use Rattle.sp_tx.specs.declared.parts.Input.{Input}
use Rattle.sp_tx.specs.Parts.{Transaction}
use Rattle.sp_tx.specs.Spelling.{spelling}
use Rattle.sp_tx.specs.Spending.{id_of}
use Rattle.sp_block.specs.declared.draft.Draft.{Draft}
use Rattle.sp_block.specs.Draft.{draft_text, drafted}
use Rattle.sp_block.specs.Format.{of_parts}
use Rattle.sp_feed.specs.Kinds.{SaysBlock}
use Rattle.sp_play.specs.Commands.{is_late, is_word}
use Rattle.sp_play.specs.Forms.{block_form, grant_form, has_words, tx_form}
use Rattle.sp_play.specs.Judging.{index_of, input_of, inputs_after, is_spent, lock_word, out_at, out_of, out_split, output_of, paid_after, paid_of, places_of, preimage_of, tx_of}
use Rattle.sp_play.specs.Known.{at_start, Entry, genesis_text, grants_of, is_of_id, Known, known_block, known_tx, locked_of, new_name, thing_at}
use Rattle.sp_play.specs.Making.{after_line, at_stage_body, balance_line, bits_line, block_line, block_of, by_command, by_nonce, carried_at, draft_by, draft_of, grant_line, is_full, is_past_block, is_past_grants, line_by, nonce_below, profile_line, send_line, state_line, text_line, tx_line, vote_line, with_block, with_sent, with_thing, with_tx}
use Rattle.sp_play.specs.Numbers.{number_in, is_decimal, value_from}
use Rattle.sp_play.specs.Profiles.{profile_in}
use Rattle.sp_play.specs.Pieces.{Pay, Spend}
use Rattle.sp_play.specs.Scene.{bytes_in, Read, read, read_from, read_on, said_in, scene}
use Rattle.sp_play.specs.Things.{LockedTx}
use Rattle.sp_play.specs.Words.{is_line_byte, is_skipped, lines_of, word_at, words_of}
use Rattle.sp_play.specs.declared.command.Command.{Command}
use Rattle.sp_play.specs.declared.command.Command.TheVariants as commands
use Rattle.sp_play.specs.declared.out.Out.{Out}
use Rattle.sp_play.specs.declared.paid.Paid.{Paid}
use Rattle.sp_play.specs.declared.pieces.BlockForm.{BlockForm}
use Rattle.sp_play.specs.declared.pieces.TxForm.{TxForm}
use Rattle.sp_play.specs.declared.places.Wanted.TheVariants as wanted
use Rattle.sp_play.specs.declared.saying.Saying.{Saying}
use Rattle.sp_play.specs.declared.saying.Saying.TheVariants as says
use Rattle.sp_play.specs.declared.thing.Thing.{Thing}
use Rattle.sp_play.specs.declared.thing.Thing.TheVariants as kinds
use Rattle.sp_play.specs.declared.why.Why.{Why}
use Rattle.sp_play.specs.declared.why.Why.TheVariants as why
use Rattle.sp_play.proofs.Apart.{neither}
use Rattle.sp_play.proofs.TextBytes.{block_bytes, bytes_cons, bytes_nil, IsKey, IsSpend, length-ascending, tx_bytes}
use Rattle.sp_play.proofs.WordBytes.{after_any, after_such, are_words, AreWords, each_map, if_either, if_else, if_then, kept_at, kept_drop, kept_map, kept_push, OpensBytes, pays_are, PaysBytes, spends_are, SpendsBytes}

-- ---- what names stand for

pub record IsWrittenTx (named : LockedTx) : Type 0 where
  pub tx : IsBytes (spelling named.tx)
  pub keys : AllByRecursion IsKey named.words

abbrev IsWritten : Thing → Type 0
IsWritten kinds.Genesis = Unit {0}
IsWritten (kinds.Made bytes) = IsBytes bytes
IsWritten (kinds.Tx named) = IsWrittenTx named

abbrev IsWrittenEntry : Entry → Type 0
IsWrittenEntry entry = IsWritten entry.1

abbrev AreWritten : List Entry → Type 0
AreWritten entries = AllByRecursion IsWrittenEntry entries

abbrev KnowsWritten : Known → Type 0
KnowsWritten known = AreWritten known.entries

written_at : (entries : List Entry) (place : ℕ) → AreWritten entries → IsWritten (thing_at entries place)
written_at entries place all = kept_at IsWrittenEntry entries place ([], kinds.Genesis) tt all

no_tx : IsBytes (0 ∷ 0 ∷ [])
no_tx = bytes_cons 0 (0 ∷ []) (omega arith) (bytes_cons 0 [] (omega arith) bytes_nil)

written_tx : (thing : Thing) → IsWritten thing → IsWrittenTx (locked_of thing)
written_tx kinds.Genesis h = record { tx = no_tx; keys = tt }
written_tx (kinds.Made bytes) h = record { tx = no_tx; keys = tt }
written_tx (kinds.Tx named) h = h

-- ---- judged parts

key_of : (word : List ℕ) → IsBytes word → IfOk (lock_word word) IsKey
unfolding lock_word
key_of word h = if_then IsKey (nat_le 1 (length word) && nat_le (length word) 64) (Ok word) why.Word (λ e. record { bytes = h; short = grind (arith, nat_tests, (and_parts (nat_le 1 (length word)) (nat_le (length word) 64) e).1) })

abbrev HasKey : Paid → Type 0
HasKey one = IsKey one.word

paid_bytes : (pay : Pay) → PaysBytes pay → IfOk (paid_of pay) HasKey
unfolding paid_of
paid_bytes pay h = after_any HasKey _ _ (λ amount. after_such HasKey IsKey (lock_word pay.word) _ (key_of pay.word h) (λ word key. key))

paid_behind : (found : List Paid) (pays : List Pay) → AllByRecursion HasKey found → AllByRecursion PaysBytes pays → IfOk (paid_after found pays) (AllByRecursion HasKey)
unfolding paid_after
paid_behind found [] all h = all
paid_behind found (pay ∷ pays) all h =
    after_such (AllByRecursion HasKey) HasKey (paid_of pay) _ (paid_bytes pay h.0) (λ one key. paid_behind (found ++ one ∷ []) pays (kept_push HasKey found one all key) h.1)

abbrev IsIndex : ℕ → Type 0
IsIndex index = index < 256

number_below : (word : List ℕ) → IfOk (number_in 0 255 word) IsIndex
unfolding number_in
number_below word =
    let low : Bool = is_decimal word && nat_le 0 (value_from 0 word) in
    let high : Bool = nat_le (value_from 0 word) 255 in
    if_then IsIndex (low && high) (Ok (value_from 0 word)) why.Number (λ e. grind (arith, nat_tests, (and_parts low high e).1))

index_below : (r : Result ℕ Why) → IfOk r IsIndex → IfOk (index_of r) IsIndex
index_below (Ok index) h = h
index_below (Err reason) h = tt

record IsOut (out : Out) : Type 0 where
  index : out.from.index < 256
  key : IsKey out.word

out_bytes : (named : LockedTx) (index : ℕ) → IsWrittenTx named → IsIndex index → IfOk (out_at named index) IsOut
out_bytes named index h below =
    if_then IsOut (nat_lt index (length named.tx.outputs)) (Ok _) why.Unknown (λ e. record { index = below; key = kept_at IsKey named.words index [] (record { bytes = bytes_nil; short = omega arith }) h.keys })

split_out : (entries : List Entry) (word : List ℕ) (at : Option ℕ) → AreWritten entries → IfOk (out_split entries word at) IsOut
split_out entries word None all = tt
split_out entries word (Some place) all =
    after_any IsOut _ _ (λ tx. after_such IsOut IsIndex (index_of (number_in 0 255 _)) _ (index_below (number_in 0 255 _) (number_below _)) (λ index below.
    out_bytes (locked_of (thing_at entries tx)) index (written_tx (thing_at entries tx) (written_at entries tx all)) below))

named_out : (entries : List Entry) (word : List ℕ) → AreWritten entries → IfOk (out_of entries word) IsOut
unfolding out_of
named_out entries word all = split_out entries word _ all

opening : (opener : Option (List ℕ)) (word : List ℕ) → IfSome opener IsBytes → IsKey word → IfOk (preimage_of opener word) IsKey
opening None word h key = key
opening (Some opener) word h key = key_of opener h

input_written : (entries : List Entry) (found : List Input) (spend : Spend) → AreWritten entries → OpensBytes spend → IfOk (input_of entries found spend) IsSpend
unfolding input_of
input_written entries found spend all h =
    after_such IsSpend IsOut (out_of entries spend.out) _ (named_out entries spend.out all) (λ out is. if_else IsSpend (is_spent found out.from) _ why.Repeat (λ e.
    after_such IsSpend IsKey (preimage_of spend.opener out.word) _ (opening spend.opener out.word h is.key) (λ preimage key. record { index = is.index; key = key })))

inputs_written : (entries : List Entry) (found : List Input) (spends : List Spend) → AreWritten entries → AllByRecursion IsSpend found → AllByRecursion OpensBytes spends → IfOk (inputs_after entries found spends) (AllByRecursion IsSpend)
unfolding inputs_after
inputs_written entries found [] all are h = are
inputs_written entries found (spend ∷ spends) all are h =
    after_such (AllByRecursion IsSpend) IsSpend (input_of entries found spend) _ (input_written entries found spend all h.0)
    (λ one is. inputs_written entries (found ++ one ∷ []) spends all (kept_push IsSpend found one are is) h.1)

-- ---- transactions

length_outputs : (paid : List Paid) → length (map output_of paid) ≡ length paid
length_outputs [] = refl
length_outputs (one ∷ paid) = ap suc (length_outputs paid)

tx_written : (known : Known) (name : List ℕ) (inputs : List Input) (paid : List Paid) → KnowsWritten known → length inputs < 256 → length paid < 256 → AllByRecursion IsSpend inputs → AllByRecursion HasKey paid
    → IfOk (with_tx known name inputs paid) KnowsWritten
unfolding with_tx
tx_written known name inputs paid all few_inputs few_paid are keys =
    let few_outputs : length (map output_of paid) < 256 = omega (arith, length_outputs paid, few_paid) in
    let tx = tx_bytes inputs (map output_of paid) few_inputs few_outputs are in
    let words = kept_map IsKey HasKey (λ (one : Paid). one.word) (λ one key. key) paid keys in
    if_else KnowsWritten (nat_le (2 ^ 63) (sum_by (λ (one : Paid). one.amount) paid)) _ why.Number (λ small.
    if_else KnowsWritten (list_any (λ (entry : Entry). is_of_id (id_of (tx_of inputs paid)) entry.1) known.entries) (Ok _) why.Twin (λ new.
    kept_push IsWrittenEntry known.entries (name, kinds.Tx _) all (record { tx = tx; keys = words })))

grant_pays : (words : List (List ℕ)) → AreWords words → IfOk (grant_form words) (AllByRecursion PaysBytes)
unfolding grant_form
grant_pays words are = if_then (AllByRecursion PaysBytes) (nat_lt 1 (length words)) _ why.Form (λ e. pays_are _ (kept_drop IsBytes 2 words are))

grant_written : (known : Known) (words : List (List ℕ)) → KnowsWritten known → AreWords words → IfOk (grant_line known words) KnowsWritten
unfolding grant_line
grant_written known words all are =
    after_such KnowsWritten (AllByRecursion PaysBytes) (grant_form words) _ (grant_pays words are) (λ pays h. after_any KnowsWritten _ _ (λ name.
    after_such KnowsWritten (AllByRecursion HasKey) (paid_after [] pays) _ (paid_behind [] pays tt h) (λ paid keys.
    if_else KnowsWritten (nat_lt 16 (length paid) || is_full known || is_past_grants (grants_of known.entries) paid) _ why.Many (λ e.
    let few = neither (nat_lt 16 (length paid)) (is_full known) (neither (nat_lt 16 (length paid) || is_full known) (is_past_grants (grants_of known.entries) paid) e).0 in
    tx_written _ name [] paid all (omega arith) (grind (arith, nat_tests, few.0)) tt keys))))

pub record FormBytes (form : TxForm) : Type 0 where
  pub spends : AllByRecursion OpensBytes form.spends
  pub pays : AllByRecursion PaysBytes form.pays

form_bytes : (words : List (List ℕ)) → AreWords words → IfOk (tx_form words) FormBytes
unfolding tx_form
form_bytes words are = if_then FormBytes (nat_lt 2 (length words) && is_word (codes "spends") (word_at words 2)) _ why.Form (λ e.
    after_such FormBytes SpendsBytes _ _ (spends_are _ (kept_drop IsBytes 3 words are)) (λ spending h.
    after_such FormBytes (AllByRecursion PaysBytes) _ _ (pays_are spending.rest h.rest) (λ pays p. record { spends = h.spends; pays = p })))

spending_written : (known : Known) (words : List (List ℕ)) → KnowsWritten known → AreWords words → IfOk (tx_line known words) KnowsWritten
unfolding tx_line
spending_written known words all are =
    after_such KnowsWritten FormBytes (tx_form words) _ (form_bytes words are) (λ form h. after_any KnowsWritten _ _ (λ name.
    after_such KnowsWritten (AllByRecursion IsSpend) (inputs_after known.entries [] form.spends) _ (inputs_written known.entries [] form.spends all tt h.spends) (λ inputs spends.
    after_such KnowsWritten (AllByRecursion HasKey) (paid_after [] form.pays) _ (paid_behind [] form.pays tt h.pays) (λ paid keys.
    if_else KnowsWritten (nat_lt 16 (length inputs) || nat_lt 16 (length paid) || is_full known) _ why.Many (λ e.
    let few = neither (nat_lt 16 (length inputs)) (nat_lt 16 (length paid)) (neither (nat_lt 16 (length inputs) || nat_lt 16 (length paid)) (is_full known) e).0 in
    tx_written _ name inputs paid all (grind (arith, nat_tests, few.0)) (grind (arith, nat_tests, few.1)) spends keys)))))

-- ---- blocks

abbrev AreTexts : List Transaction → Type 0
AreTexts txs = AllByRecursion (λ (t : Transaction). IsBytes (spelling t)) txs

abbrev CarriesTexts : Draft → Type 0
CarriesTexts draft = AreTexts draft.txs

nonce_bytes : (draft : Draft) (found : Option ℕ) → length draft.parents < 256 → CarriesTexts draft → IfOk (by_nonce draft found) IsBytes
nonce_bytes draft None few all = tt
nonce_bytes draft (Some nonce) few all = block_bytes (drafted draft nonce) (omega (arith, length-ascending draft.parents, few)) all

made_bytes : (draft : Draft) (bits : ℕ) → CarriesTexts draft → IfOk (block_of draft bits) IsBytes
unfolding block_of
made_bytes draft bits all = if_else IsBytes (is_past_block draft) _ why.Many (λ e.
    let few = neither (nat_lt 64 (length draft.parents)) (nat_lt 256 (length draft.txs)) (neither (nat_lt 64 (length draft.parents) || nat_lt 256 (length draft.txs)) (nat_lt 65536 (length (draft_text draft 0))) e).0 in
    nonce_bytes draft (nonce_below 1048576 draft bits) (grind (arith, nat_tests, few.0)) all)

sent_written : (sends : Bool) (place : ℕ) (known : Known) → KnowsWritten known → KnowsWritten (with_sent sends place known)
sent_written true place known all = all
sent_written false place known all = all

block_written : (sends : Bool) (known : Known) (name : List ℕ) (draft : Draft) → KnowsWritten known → CarriesTexts draft → IfOk (with_block sends known name draft) KnowsWritten
unfolding with_block
block_written sends known name draft all texts = if_else KnowsWritten (is_full known) _ why.Many (λ e.
    after_such KnowsWritten IsBytes (block_of draft known.bits) _ (made_bytes draft known.bits texts) (λ bytes h.
    sent_written sends (length known.entries) (with_thing known name (kinds.Made bytes)) (kept_push IsWrittenEntry known.entries (name, kinds.Made bytes) all h)))

draft_written : (entries : List Entry) (parents carried : List ℕ) → AreWritten entries → CarriesTexts (draft_of entries parents carried)
draft_written entries parents carried all =
    each_map (λ (t : Transaction). IsBytes (spelling t)) (carried_at entries) (λ place. (written_tx (thing_at entries place) (written_at entries place all)).tx) carried

form_written : (entries : List Entry) (form : BlockForm) → AreWritten entries → IfOk (draft_by entries form) CarriesTexts
unfolding draft_by
form_written entries form all =
    after_any CarriesTexts (places_of wanted.Block entries form.parents) _ (λ parents.
    after_any CarriesTexts (places_of wanted.Tx entries form.carried) _ (λ carried. draft_written entries parents carried all))

making_written : (sends : Bool) (known : Known) (words : List (List ℕ)) → KnowsWritten known → IfOk (block_line sends known words) KnowsWritten
unfolding block_line
making_written sends known words all =
    after_any KnowsWritten (block_form words) _ (λ form. after_any KnowsWritten (new_name known.entries (word_at words 1)) _ (λ name.
    after_such KnowsWritten CarriesTexts (draft_by known.entries form) _ (form_written known.entries form all) (λ draft texts.
    block_written sends (at_stage_body known) name draft all texts)))

-- ---- lines

line_written : (command : Command) (known : Known) (words : List (List ℕ)) → KnowsWritten known → AreWords words → IfOk (line_by command known words) KnowsWritten
unfolding line_by profile_line bits_line send_line vote_line state_line balance_line text_line
line_written commands.Profile known words all are = after_any KnowsWritten (has_words 2 words) _ (λ u. after_any KnowsWritten (profile_in (word_at words 1)) _ (λ profile. all))
line_written commands.Bits known words all are = after_any KnowsWritten (has_words 2 words) _ (λ u. after_any KnowsWritten (number_in 0 64 (word_at words 1)) _ (λ bits. all))
line_written commands.Grant known words all are = grant_written known words all are
line_written commands.Tx known words all are = spending_written known words all are
line_written commands.Make known words all are = making_written false known words all
line_written commands.Block known words all are = making_written true known words all
line_written commands.Send known words all are = after_any KnowsWritten (has_words 2 words) _ (λ u. after_any KnowsWritten (known_block known.entries (word_at words 1)) _ (λ place. all))
line_written commands.Vote known words all are =
    after_any KnowsWritten (has_words 3 words) _ (λ u. after_any KnowsWritten (known_block known.entries (word_at words 1)) _ (λ x.
    after_any KnowsWritten (known_block known.entries (word_at words 2)) _ (λ y. all)))
line_written commands.State known words all are = after_any KnowsWritten (has_words 2 words) _ (λ u. after_any KnowsWritten (known_tx known.entries (word_at words 1)) _ (λ place. all))
line_written commands.Balance known words all are = after_any KnowsWritten (has_words 2 words) _ (λ u. after_any KnowsWritten (lock_word (word_at words 1)) _ (λ word. all))
line_written commands.Pairs known words all are = after_any KnowsWritten (has_words 1 words) _ (λ u. all)
line_written commands.Report known words all are = after_any KnowsWritten (has_words 1 words) _ (λ u. all)

command_written : (command : Option Command) (known : Known) (words : List (List ℕ)) → KnowsWritten known → AreWords words → IfOk (by_command command known words) KnowsWritten
command_written None known words all are = tt
command_written (Some command) known words all are = if_else KnowsWritten (is_late known.stage command) _ why.Late (λ e. line_written command known words all are)

unless_not : (b : Bool) → not b ≡ false → b ≡ true
unless_not true e = refl
unless_not false e = absurd cc

after_written : (known : Known) (line : List ℕ) → KnowsWritten known → IfOk (after_line known line) KnowsWritten
unfolding after_line
after_written known line all =
    if_either KnowsWritten (is_skipped (words_of line)) (Ok known) _ (λ skipped. all) (λ said.
    if_else KnowsWritten (not (list_all is_line_byte line)) _ why.Byte (λ e.
    command_written _ known (words_of line) all (are_words line (unless_not (list_all is_line_byte line) e))))

on_written : (number : ℕ) (known : Known) (r : Result Known Why) (rest : Known → Read) → KnowsWritten known → IfOk r KnowsWritten → ((after : Known) → KnowsWritten after → KnowsWritten (rest after).known) → KnowsWritten (read_on number known r rest).known
on_written number known (Ok after) rest all h follows = follows after h
on_written number known (Err reason) rest all h follows = all

from_written : (number : ℕ) (known : Known) (lines : List (List ℕ)) → KnowsWritten known → KnowsWritten (read_from number known lines).known
unfolding read_from
from_written number known [] all = all
from_written number known (line ∷ lines) all =
    on_written number known (after_line known line) _ all (after_written known line all) (λ after h. from_written (number + 1) after lines h)

read_written : (text : List ℕ) → KnowsWritten (read text).known
unfolding read
read_written text = from_written 1 at_start (lines_of text) (tt, tt)

-- ---- the scene

grant_written_before : (b : Bool) (t : Transaction) (grants : List Transaction) → IsBytes (spelling t) → AreTexts grants → AreTexts (cond b (t ∷ []) [] ++ grants)
grant_written_before true t grants h all = (h, all)
grant_written_before false t grants h all = all

grants_written : (entries : List Entry) → AreWritten entries → AreTexts (grants_of entries)
unfolding grants_of
grants_written [] all = tt
grants_written ((name, kinds.Genesis) ∷ entries) all = grants_written entries all.1
grants_written ((name, kinds.Made bytes) ∷ entries) all = grants_written entries all.1
grants_written ((name, kinds.Tx named) ∷ entries) all = grant_written_before (length named.tx.inputs == 0) named.tx (grants_of entries) all.0.tx (grants_written entries all.1)

genesis_bytes : (entries : List Entry) → AreWritten entries → IsBytes (genesis_text (grants_of entries))
genesis_bytes entries all = block_bytes (of_parts 0 0 [] (grants_of entries)) (omega arith) (grants_written entries all)

thing_written : (entries : List Entry) (thing : Thing) → AreWritten entries → IsWritten thing → IsBytes (bytes_in entries thing)
thing_written entries kinds.Genesis all h = genesis_bytes entries all
thing_written entries (kinds.Made bytes) all h = h
thing_written entries (kinds.Tx named) all h = bytes_nil

said_bytes : (known : Known) (saying : Saying) (bytes : List ℕ) → KnowsWritten known → said_in known saying ≡ SaysBlock bytes → IsBytes bytes
said_bytes known (says.Block place) bytes all e =
    let same : bytes_in known.entries (thing_at known.entries place) ≡ bytes = cc in
    subst IsBytes same (thing_written known.entries (thing_at known.entries place) all (written_at known.entries place all))
said_bytes known (says.Vote x y) bytes all e = absurd cc
said_bytes known (says.Tx place) bytes all e = absurd cc
said_bytes known (says.Balance word) bytes all e = absurd cc
said_bytes known says.Pairs bytes all e = absurd cc
said_bytes known says.Report bytes all e = absurd cc

sayings_bytes : (known : Known) (sayings : List Saying) (bytes : List ℕ) → KnowsWritten known → Contains (map (said_in known) sayings) (SaysBlock bytes) → IsBytes bytes
sayings_bytes known [] bytes all there = absurd (omega (arith, there.1))
sayings_bytes known (saying ∷ sayings) bytes all there = at (sayings_bytes known sayings bytes all) there.0 there.1 there.2
  where
    at : (Contains (map (said_in known) sayings) (SaysBlock bytes) → IsBytes bytes) → (k : ℕ) → k < length (map (said_in known) (saying ∷ sayings)) → slice_index_or (map (said_in known) (saying ∷ sayings)) k (SaysBlock bytes) ≡ SaysBlock bytes → IsBytes bytes
    at later zero lt e = said_bytes known saying bytes all e
    at later (suc k) lt e = later (k, omega arith, e)

pub blocks_are_bytes : (text bytes : List ℕ) → Contains (scene text).messages (SaysBlock bytes) → IsBytes bytes
blocks_are_bytes text bytes there = sayings_bytes (read text).known (read text).known.sayings bytes (read_written text) there

pub genesis_is_bytes : (text : List ℕ) → IsBytes (scene text).genesis
genesis_is_bytes text = genesis_bytes (read text).known.entries (read_written text)
