-- A journal's bytes are its front and a closed gate, and no other bytes hold it.
use Rattle.std.proofs.Common.{◌≡◌, ◌≢◌, ◌⊎◌, inl, inr, ℕ, zero, suc, ◌+◌, ◌≤◌, Bool, true, false, cond, not, eqb, leb, ◌&&◌, List, [], ◌∷◌, ◌++◌, length, Result, Ok, Err, refl, sym, ap, subst, ◌∙◌, arith, append_assoc}
use Rattle.std.specs.List.{flat_map}
use Rattle.std.proofs.lemmas.Bool.{leb-true, ne_eqb, not-true}
use Rattle.std.proofs.lemmas.List.Concat.{flat_map-cons}
use Rattle.sp_form.specs.Bytes.{IsBytes}
use Rattle.sp_form.specs.Reading.{read}
use Rattle.sp_form.specs.Turns.{InTurn}
use Rattle.sp_ids.specs.Digest.{sha256_number}
use Rattle.sp_block.specs.Format.{block_form}
use Rattle.sp_journal.specs.Format.{Flaw, Head, head_form, head_of, record_form, set}
use Rattle.sp_journal.specs.Gates.{IsShut}
use Rattle.sp_journal.specs.Journal.{AreContents, Contents, contents, first_ids, front, head_text, record_text}
use Rattle.sp_block.specs.Judged.{is_block, is_read_to_end, meets}
use Rattle.sp_journal.specs.Judged.{has, is_record, IsRecord, with_id}
use Rattle.sp_journal.specs.Laws.{Holds, JournalIsWritten}
use Rattle.sp_journal.specs.Records.{Faulty, Found, is_shut, records, records_by, records_of, row_first, row_then, Rows, rows, Sound}
use Rattle.sp_journal.proofs.Forms.{head_spelled, IsHead, record_spelled}

and_true : (a b : Bool) → (a && b) ≡ true → (a ≡ true) × (b ≡ true)
and_true true b e = (refl, e)
and_true false b e = absurd cc

pub short_block : (genesis : Bool) (bytes : List ℕ) → is_block genesis bytes ≡ true → length bytes ≤ 65536
unfolding is_block
short_block genesis bytes e = leb-true (length bytes) 65536 (and_true (leb (length bytes) 65536) (is_read_to_end (read (block_form genesis) bytes)) e).0

-- what a record's bytes meet
pub record_parts : (bits : ℕ) (ids bytes : List ℕ) → IsRecord bits ids bytes → (is_block false bytes ≡ true) × ((meets (sha256_number bytes) bits ≡ true) × (has ids (sha256_number bytes) ≡ false))
unfolding is_record
record_parts bits ids bytes e =
    let id = sha256_number bytes in
    let one = and_true (is_block false bytes) (meets id bits && not (has ids id)) e in
    let two = and_true (meets id bits) (not (has ids id)) one.1 in
    (one.0, (two.0, not-true (has ids id) two.1))

pub is_recorded : (bits : ℕ) (ids bytes : List ℕ) → is_block false bytes ≡ true → meets (sha256_number bytes) bits ≡ true → has ids (sha256_number bytes) ≡ false → IsRecord bits ids bytes
unfolding is_record
is_recorded bits ids bytes block work fresh = rw (block, work, fresh) refl

pub short_record : (bits : ℕ) (ids bytes : List ℕ) → IsRecord bits ids bytes → length bytes ≤ 65536
short_record bits ids bytes r = short_block false bytes (record_parts bits ids bytes r).0

-- ---- the records

shut_gate : (gate : ℕ) (rest : List ℕ) → gate ≢ set → is_shut (gate ∷ rest) ≡ true
shut_gate gate rest closed = let e : eqb gate set ≡ false = ne_eqb gate set closed in rw e refl

-- records and a closed gate are read as these records
pub rows_front : (room bits : ℕ) (ids : List ℕ) (at : ℕ) (blocks : List (List ℕ)) (gate : ℕ) (rest : List ℕ) → gate ≢ set → length blocks ≤ room → InTurn (IsRecord bits) with_id ids blocks
    → rows room bits ids at (flat_map record_text blocks ++ gate ∷ rest) ≡ Sound blocks
unfolding rows
rows_front zero bits ids at [] gate rest closed few each = rw (shut_gate gate rest closed) refl
rows_front (suc room) bits ids at [] gate rest closed few each = rw (shut_gate gate rest closed) refl
rows_front zero bits ids at (b ∷ bs) gate rest closed few each = absurd (omega arith)
rows_front (suc room) bits ids at (b ∷ bs) gate rest closed few each =
    let behind = flat_map record_text bs ++ gate ∷ rest in
    let regrouped : flat_map record_text (b ∷ bs) ++ gate ∷ rest ≡ record_text b ++ behind = ap (λ (t : List ℕ). t ++ gate ∷ rest) (flat_map-cons record_text b bs) ∙ append_assoc (record_text b) (flat_map record_text bs) (gate ∷ rest) in
    let first : read record_form (record_text b ++ behind) ≡ Ok (b, behind) = record_spelled.again b behind (short_record bits ids b each.0) in
    let more = rows_front room bits (with_id ids b) (at + length (record_text b)) bs gate rest closed (omega arith) each.1 in
    let next = λ (bytes rest : List ℕ). rows room bits (with_id ids bytes) (at + length (record_text bytes)) rest in
    ap (rows (suc room) bits ids at) regrouped
    ∙ ap (λ r. row_then bits ids at r next) first
    ∙ rw (each.0, more) refl

-- what is read as some records
pub record AreRows (room bits : ℕ) (ids list : List ℕ) (blocks : List (List ℕ)) : Type 0 where
  pub gate : ℕ
  pub rest : List ℕ
  pub closed : gate ≢ set
  pub parts : list ≡ flat_map record_text blocks ++ gate ∷ rest
  pub few : length blocks ≤ room
  pub each : InTurn (IsRecord bits) with_id ids blocks

open_shut : (list : List ℕ) → is_shut list ≡ true → (gate : ℕ) × (rest : List ℕ) × (gate ≢ set) × (list ≡ gate ∷ rest)
open_shut [] e = absurd cc
open_shut (gate ∷ rest) e = (gate, rest, (λ is. let opens : eqb gate set ≡ true = rw is refl in absurd (cc (opens, not-true (eqb gate set) e))), refl)

none_there : (room bits : ℕ) (ids list : List ℕ) → is_shut list ≡ true → AreRows room bits ids list []
none_there room bits ids list e = let s = open_shut list e in record { gate = s.0; rest = s.1; closed = s.2; parts = s.3; few = omega arith; each = tt }

same_Sound : (a b : List (List ℕ)) → Sound a ≡ Sound b → a ≡ b
same_Sound a b e = cc

-- the gate is closed and nothing more is read, or the next records are
chosen : (b : Bool) (x : Rows) (blocks : List (List ℕ)) → cond b (Sound []) x ≡ Sound blocks → ((b ≡ true) × ([] ≡ blocks)) ⊎ (x ≡ Sound blocks)
chosen true x blocks e = inl (refl, same_Sound [] blocks e)
chosen false x blocks e = inr e

record IsFirst (more : Rows) (bytes : List ℕ) (blocks : List (List ℕ)) : Type 0 where
  pub others : List (List ℕ)
  pub is : more ≡ Sound others
  pub all : blocks ≡ bytes ∷ others

first_of : (bytes : List ℕ) (more : Rows) (blocks : List (List ℕ)) → row_first bytes more ≡ Sound blocks → IsFirst more bytes blocks
first_of bytes (Sound others) blocks e = record { others = others; is = refl; all = sym (same_Sound (bytes ∷ others) blocks e) }
first_of bytes (Faulty at) blocks e = absurd cc

met : (b : Bool) (x : Rows) (at : ℕ) (blocks : List (List ℕ)) → cond b x (Faulty at) ≡ Sound blocks → (b ≡ true) × (x ≡ Sound blocks)
met true x at blocks e = (refl, e)
met false x at blocks e = absurd cc

record IsRow (bits : ℕ) (ids : List ℕ) (r : Result (List ℕ × List ℕ) Flaw) (more : List ℕ → List ℕ → Rows) (blocks : List (List ℕ)) : Type 0 where
  pub bytes : List ℕ
  pub rest : List ℕ
  pub reads : r ≡ Ok (bytes, rest)
  pub meets : IsRecord bits ids bytes
  pub first : IsFirst (more bytes rest) bytes blocks

row_of : (bits : ℕ) (ids : List ℕ) (at : ℕ) (r : Result (List ℕ × List ℕ) Flaw) (more : List ℕ → List ℕ → Rows) (blocks : List (List ℕ)) → row_then bits ids at r more ≡ Sound blocks → IsRow bits ids r more blocks
row_of bits ids at (Err flaw) more blocks e = absurd cc
row_of bits ids at (Ok found) more blocks e =
    let m = met (is_record bits ids found.0) (row_first found.0 (more found.0 found.1)) at blocks e in
    record { bytes = found.0; rest = found.1; reads = refl; meets = m.0; first = first_of found.0 (more found.0 found.1) blocks m.1 }

pub rows_back : (room bits : ℕ) (ids : List ℕ) (at : ℕ) (list : List ℕ) (blocks : List (List ℕ)) → IsBytes list → rows room bits ids at list ≡ Sound blocks → AreRows room bits ids list blocks
unfolding rows
rows_back zero bits ids at list blocks bytes e = let m = met (is_shut list) (Sound []) at blocks e in subst (AreRows zero bits ids list) (same_Sound [] blocks m.1) (none_there zero bits ids list m.0)
rows_back (suc room) bits ids at list blocks bytes e =
    let next = λ (bytes rest : List ℕ). rows room bits (with_id ids bytes) (at + length (record_text bytes)) rest in
    elim (chosen (is_shut list) (row_then bits ids at (read record_form list) next) blocks e) [
      | inl shut ↦ subst (AreRows (suc room) bits ids list) shut.1 (none_there (suc room) bits ids list shut.0)
      | inr more ↦ (
          let row = row_of bits ids at (read record_form list) next blocks more in
          let takes = (record_spelled.takes list row.bytes row.rest bytes row.reads).0 in
          let others = rows_back room bits (with_id ids row.bytes) (at + length (record_text row.bytes)) row.rest row.first.others takes.bytes row.first.is in
          let parts : list ≡ flat_map record_text (row.bytes ∷ row.first.others) ++ others.gate ∷ others.rest =
          takes.parts ∙ ap (λ (t : List ℕ). record_text row.bytes ++ t) others.parts
          ∙ sym (ap (λ (t : List ℕ). t ++ others.gate ∷ others.rest) (flat_map-cons record_text row.bytes row.first.others) ∙ append_assoc (record_text row.bytes) (flat_map record_text row.first.others) (others.gate ∷ others.rest)) in
          let all : AreRows (suc room) bits ids list (row.bytes ∷ row.first.others) =
          record { gate = others.gate; rest = others.rest; closed = others.closed; parts = parts; few = omega (arith, others.few); each = (row.meets, others.each) } in
          subst (AreRows (suc room) bits ids list) (sym row.first.all) all)
    ]

-- ---- the whole

-- behind a journal's front a closed gate stands: the bytes hold the journal
pub found_front : (c : Contents) (list : List ℕ) → AreContents c → IsShut (front c) list → records list ≡ Found c
unfolding records
found_front c list are shut =
    let head = head_of c.profile c.bits c.genesis in
    let behind = flat_map record_text c.blocks ++ shut.gate ∷ shut.rest in
    let regrouped : list ≡ head_text head ++ behind = shut.parts ∙ append_assoc (head_text head) (flat_map record_text c.blocks) (shut.gate ∷ shut.rest) in
    let is_head : IsHead head = (are.bits, (short_block true c.genesis are.genesis, are.genesis)) in
    let first : read head_form (head_text head ++ behind) ≡ Ok (head, behind) = head_spelled.again head behind is_head in
    ap (λ (l : List ℕ). records_of (read head_form l)) regrouped ∙ ap records_of first
    ∙ ap (records_by head) (rows_front 511 c.bits (first_ids c.genesis) (length (head_text head)) c.blocks shut.gate shut.rest shut.closed are.few are.records)

same_Found : (a b : Contents) → Found a ≡ Found b → a ≡ b
same_Found a b e = cc

record IsBy (head : Head) (r : Rows) (c : Contents) : Type 0 where
  pub blocks : List (List ℕ)
  pub is : r ≡ Sound blocks
  pub all : contents head.profile head.bits head.genesis blocks ≡ c

by_of : (head : Head) (r : Rows) (c : Contents) → records_by head r ≡ Found c → IsBy head r c
by_of head (Sound blocks) c e = record { blocks = blocks; is = refl; all = same_Found (contents head.profile head.bits head.genesis blocks) c e }
by_of head (Faulty at) c e = absurd cc

-- bytes that hold a journal are its front with a closed gate behind it
pub front_found : (c : Contents) (list : List ℕ) → IsBytes list → records list ≡ Found c → Holds c list
unfolding records
front_found c list bytes e = of (read head_form list) refl e
  where
    of : (r : Result (Head × List ℕ) Flaw) → read head_form list ≡ r → records_of r ≡ Found c → Holds c list
    of (Err flaw) is e = absurd cc
    of (Ok found) is e =
        let by = by_of found.0 (rows 511 found.0.bits (first_ids found.0.genesis) (length (head_text found.0)) found.1) c e in
        let head = head_spelled.takes list found.0 found.1 bytes is in
        let back = rows_back 511 found.0.bits (first_ids found.0.genesis) (length (head_text found.0)) found.1 by.blocks head.0.bytes by.is in
        let these = contents found.0.profile found.0.bits found.0.genesis by.blocks in
        let parts : list ≡ front these ++ back.gate ∷ back.rest =
        head.0.parts ∙ ap (λ (t : List ℕ). head_text found.0 ++ t) back.parts ∙ sym (append_assoc (head_text found.0) (flat_map record_text by.blocks) (back.gate ∷ back.rest)) in
        let all : Holds these list = record {
          are = record { bits = head.1.0; genesis = head.1.1.1; few = back.few; records = back.each };
          shut = record { gate = back.gate; rest = back.rest; closed = back.closed; parts = parts };
        } in
        subst (λ (x : Contents). Holds x list) by.all all

pub journal_is_written : JournalIsWritten
journal_is_written c list bytes = (front_found c list bytes, λ h. found_front c list h.are h.shut)
