-- The format of a certificate, a line for each field: its width, and its rule. Only the place of a fault is told, so a
-- fault needs no name of its own.
use Rattle.std.specs.Prelude.{ℕ, All, ◌<◌, ◌^◌, ◌==◌, ◌&&◌, nat_le, Bool, true, false, List, [], ◌∷◌, ◌++◌, codes, length, Result, Ok, Err, is_ok, ℤ, pos, negsuc, if◌then◌else◌}
use Rattle.std.specs.Int.{w16, w32, from_le_bytes, to_le_bytes}
use Rattle.std.specs.List.{flat_map}
use Rattle.std.specs.Str.{bytes_eq}
use Rattle.sp_form.specs.Form.{Form, whole, field, ◌>>=◌, rows, rule}
use Rattle.sp_form.specs.Places.{Placed, Got, Faulty, Short, placed}
use Rattle.sp_form.specs.Values.{byte, value_form}
use Rattle.sp_ids.specs.Key.{bytes_of, number_of}
use Rattle.sp_block.specs.Block.{block_of, IsBlock, ReadBlock}
use Rattle.sp_block.specs.Format.{of_parts}
use Rattle.sp_block.specs.declared.fault.BlockFault.{BlockFault}
use Rattle.sp_engine.specs.Blocks.{block_in}
use Rattle.sp_model.specs.declared.profile.Profile.{Profile}
use Rattle.sp_model.specs.declared.profile.Profile.TheVariants.{One, Two}
use Rattle.sp_cert.specs.Certificate.{Certificate, Entries}

-- the bytes end within a field, or the field breaks its rule
pub data Flaw : Type 0 where
  cut : Flaw
  broken : Flaw

-- a certificate begins so
abbrev pub name : List ℕ
name = codes "SPCTRC01"

abbrev pub name_form : Form Flaw (List ℕ)
name_form = value_form 8 cut (λ bytes. bytes) (λ bytes. rule (bytes_eq bytes name) broken ∷ [])

abbrev pub profile_of : ℕ → Profile
profile_of n = if n == 1 then One else Two

abbrev pub profile_form : Form Flaw Profile
profile_form = field 1 cut (λ bytes. rule (nat_le 1 (byte bytes) && nat_le (byte bytes) 2) broken ∷ []) (λ bytes. whole (profile_of (byte bytes)))

-- a number of blocks or of worlds
abbrev pub count_form : Form Flaw ℕ
count_form = value_form 2 cut (from_le_bytes w16) (λ n. rule (nat_le 1 n && nat_le n 512) broken ∷ [])

abbrev pub length_form : Form Flaw ℕ
length_form = value_form 4 cut (from_le_bytes w32) (λ n. rule (nat_le n 65536) broken ∷ [])

-- what the bytes spell; where they spell no block, a block without parts
abbrev pub block_or_none : List ℕ → Result ReadBlock BlockFault → ReadBlock
block_or_none bytes (Ok block) = block
block_or_none bytes (Err fault) = block_of bytes (of_parts 0 0 [] [])

-- so many bytes, which spell a block, a genesis block or another one
abbrev pub payload_form : Bool → ℕ → Form Flaw ReadBlock
payload_form genesis n =
    field n cut (λ bytes. rule (is_ok (block_in genesis bytes)) broken ∷ []) (λ bytes. whole (block_or_none bytes (block_in genesis bytes)))

unfoldable pub block_form : Bool → Form Flaw ReadBlock
block_form genesis = do
  n ← length_form
  payload_form genesis n

-- the first one is genesis
abbrev pub blocks_form : ℕ → Form Flaw (List ReadBlock)
blocks_form count = rows block_form (λ genesis block. false) count true

-- the id of a block is any 32 bytes
abbrev pub id_form : Form Flaw ℕ
id_form = value_form 32 cut number_of (λ id. [])

-- 0 for -1, 1 for 0, 2 for +1
abbrev pub sign_of_byte : ℕ → ℤ
sign_of_byte n = if n == 0 then negsuc 0 else (if n == 1 then pos 0 else pos 1)

abbrev pub sign_form : Form Flaw ℤ
sign_form = field 1 cut (λ bytes. rule (nat_le (byte bytes) 2) broken ∷ []) (λ bytes. whole (sign_of_byte (byte bytes)))

-- the number of a world is any two bytes
abbrev pub number_form : Form Flaw ℕ
number_form = value_form 2 cut (from_le_bytes w16) (λ n. [])

-- a world of so many blocks, a field for each vote
unfoldable pub world_form : ℕ → Form Flaw Entries
world_form blocks = do
  number ← number_form
  votes ← rows (λ before. sign_form) (λ before vote. before) blocks (tt {0})
  whole (record { number = number; votes = votes })

abbrev pub worlds_form : ℕ → ℕ → Form Flaw (List Entries)
worlds_form blocks count = rows (λ before. world_form blocks) (λ before world. before) count (tt {0})

unfoldable pub cert_form : Form Flaw Certificate
cert_form = do
  name ← name_form
  profile ← profile_form
  n ← count_form
  blocks ← blocks_form n
  x ← id_form
  y ← id_form
  sign ← sign_form
  count ← count_form
  worlds ← worlds_form n count
  whole (record { profile = profile; blocks = blocks; x = x; y = y; sign = sign; worlds = worlds })

-- what all bytes of a source say: a certificate, the place of the first field that breaks its rule or of the first byte
-- behind the last field, or how many bytes there are where they end too early
pub data Said : Type 0 where
  Whole : Certificate → Said
  Malformed : ℕ → Said
  Truncated : ℕ → Said

abbrev pub said_by : ℕ → Placed Certificate → Said
said_by total (Got cert rest) = if length rest.bytes == 0 then Whole cert else Malformed rest.at
said_by total (Faulty at) = Malformed at
said_by total Short = Truncated total

unfoldable pub said : List ℕ → Said
said list = said_by (length list) (placed cert_form (record { at = 0; bytes = list }))

-- ---- the bytes of a certificate

abbrev pub byte_of_profile : Profile → ℕ
byte_of_profile One = 1
byte_of_profile Two = 2

abbrev pub byte_of_sign : ℤ → ℕ
byte_of_sign (negsuc n) = 0
byte_of_sign (pos n) = if n == 0 then 1 else 2

abbrev pub block_text : ReadBlock → List ℕ
block_text block = to_le_bytes w32 (length block.bytes) ++ block.bytes

abbrev pub world_text : Entries → List ℕ
world_text world = to_le_bytes w16 world.number ++ flat_map (λ vote. byte_of_sign vote ∷ []) world.votes

-- what stands between the blocks and the worlds
abbrev pub claim_text : Certificate → List ℕ
claim_text c = bytes_of c.x ++ (bytes_of c.y ++ (byte_of_sign c.sign ∷ to_le_bytes w16 (length c.worlds)))

abbrev pub head_text : Certificate → List ℕ
head_text c = name ++ (byte_of_profile c.profile ∷ to_le_bytes w16 (length c.blocks))

unfoldable pub cert_text : Certificate → List ℕ
cert_text c = head_text c ++ (flat_map block_text c.blocks ++ (claim_text c ++ flat_map world_text c.worlds))

-- its blocks are blocks, and its numbers fit their fields
pub record FitsBytes (c : Certificate) : Type 0 where
  pub blocks : All IsBlock c.blocks
  pub x : c.x < 2 ^ 256
  pub y : c.y < 2 ^ 256
  pub numbers : All (λ (world : Entries). world.number < 65536) c.worlds
