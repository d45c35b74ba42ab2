-- What the private readers of a journal's bytes say of them.
use Rattle.std.specs.Prelude.{◌≡◌, ◌⊎◌, Bool, false, true, ℕ, List, [], ◌∷◌, ◌++◌, ◌+◌, ◌*◌, ◌≤◌, map, length, drop, Option, Some, None, Result, Ok, Err}
use Rattle.std.specs.List.{flat_map}
use Rattle.sp_form.specs.Reading.{read}
use Rattle.sp_form.specs.Turns.{InTurn}
use Rattle.sp_ids.specs.Bits.{BeginsWithZeros}
use Rattle.sp_ids.specs.Digest.{sha256_number}
use Rattle.sp_block.specs.Block.{IsOther, parts_of, ReadBlock}
use Rattle.sp_model.specs.declared.profile.Profile.{Profile}
use Rattle.sp_block.specs.Spelling.{SpellsBlock}
use Rattle.sp_journal.specs.Creation.{gate_of}
use Rattle.sp_journal.specs.Format.{Flaw, head_form, head_of, record_form}
use Rattle.sp_journal.specs.Journal.{record_text}
use Rattle.sp_block.specs.Judged.{is_block}
use Rattle.sp_journal.specs.Judged.{has, is_record, IsRecord}
use Rattle.sp_journal.specs.Records.{Faulty, is_shut, Rows, Sound}
use Rattle.sp_journal.specs.declared.gate_kind.Gate.{Gate}
use Rattle.sp_journal.specs.declared.row.Row.{Row}
use Rattle.sp_journal.specs.declared.row.Row.TheVariants.{End, Faulty as Bad, Next}

-- the bytes are flawed
abbrev pub IsFlawed : {A : Type 0} → Result (A × List ℕ) Flaw → Type 0
IsFlawed read = (flaw : Flaw) × (read ≡ Err flaw)

-- what was found at the front and what is left; nothing where the bytes are flawed
abbrev pub Finds : {X A : Type 0} → (X → A) → Option X → List ℕ → Result (A × List ℕ) Flaw → Type 0
Finds view (Some x) rest read = read ≡ Ok (view x, rest)
Finds view None rest read = IsFlawed read

-- the bytes of a block
abbrev pub bytes_in : ReadBlock → List ℕ
bytes_in block = block.bytes

-- the block that the bytes spell, as a genesis block or as another one; none where they spell none
pub record IsSpelledBlock (genesis : Bool) (bytes : List ℕ) (block : ReadBlock) : Type 0 where
  pub spells : SpellsBlock block.bytes genesis (parts_of block)
  pub same : block.bytes ≡ bytes
  pub id : block.id ≡ sha256_number bytes
  pub test : is_block genesis bytes ≡ true

abbrev pub IsSpelled : Bool → List ℕ → Option ReadBlock → Type 0
IsSpelled genesis bytes (Some block) = IsSpelledBlock genesis bytes block
IsSpelled genesis bytes None = is_block genesis bytes ≡ false

-- an open record at the front that a journal may hold, given the ids before it; nothing where it may not
abbrev pub FindsRecord : ℕ → List ℕ → List ℕ → List ℕ → Option ReadBlock → Type 0
FindsRecord bits ids old new (Some block) = (read record_form old ≡ Ok (block.bytes, new)) × IsRecord bits ids block.bytes
FindsRecord bits ids old new None = IsFlawed (read record_form old) ⊎ ((bytes rest : List ℕ) × (read record_form old ≡ Ok (bytes, rest)) × (is_record bits ids bytes ≡ false))

-- rows with these records before them
abbrev pub with_rows : List (List ℕ) → Rows → Rows
with_rows blocks (Sound more) = Sound (blocks ++ more)
with_rows blocks (Faulty at) = Faulty at

-- the records, or the place of the faulty one
abbrev pub SaysRows : {X : Type 0} → (X → List (List ℕ)) → Result X ℕ → Rows → Type 0
SaysRows view (Ok x) rows = rows ≡ Sound (view x)
SaysRows view (Err at) rows = rows ≡ Faulty at

-- these records end at a place, if they began at one
pub record EndsAt (start : ℕ) (blocks : List ReadBlock) (at : ℕ) : Type 0 where
  pub few : length blocks ≤ 511
  pub place : at ≡ start + length (flat_map record_text (map bytes_in blocks))
  pub bound : at ≤ start + 65541 * length blocks

-- the head that a list begins with; none, and the byte at place 0
abbrev pub IsHeadOf : List ℕ → Result (Profile × ℕ × ReadBlock) Gate → Type 0
IsHeadOf list (Ok head) = read head_form list ≡ Ok (head_of head.0 head.1 head.2.bytes, drop (14 + length head.2.bytes) list)
IsHeadOf list (Err gate) = IsFlawed (read head_form list) × (gate ≡ gate_of list)

-- what a list begins with behind the head
abbrev pub IsRowOf : ℕ → List ℕ → List ℕ → Row → Type 0
IsRowOf bits ids list End = is_shut list ≡ true
IsRowOf bits ids list Bad = (is_shut list ≡ false) × FindsRecord bits ids list [] None
IsRowOf bits ids list (Next block) = (is_shut list ≡ false) × FindsRecord bits ids list (drop (5 + length block.bytes) list) (Some block)

-- a block that may be recorded, given the ids before it
pub record IsGood (bits : ℕ) (ids : List ℕ) (block : ReadBlock) : Type 0 where
  pub other : IsOther block
  pub short : length block.bytes ≤ 65536
  pub work : BeginsWithZeros block.id bits
  pub fresh : has ids block.id ≡ false

abbrev pub id_behind : List ℕ → ReadBlock → List ℕ
id_behind ids block = ids ++ block.id ∷ []

-- each of the blocks may be recorded, behind a genesis block of this id
abbrev pub AreGood : ℕ → ℕ → List ReadBlock → Type 0
AreGood bits genesis blocks = InTurn (IsGood bits) id_behind (genesis ∷ []) blocks

abbrev pub IsGoodRow : ℕ → List ℕ → Row → Type 0
IsGoodRow bits ids End = Unit {0}
IsGoodRow bits ids Bad = Unit {0}
IsGoodRow bits ids (Next block) = IsGood bits ids block
