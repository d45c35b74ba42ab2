-- The formats of a feed's head and of a frame, a line for each field: its width, and its rule. Only the
-- place of a fault is told, so a fault needs no name of its own.
use Rattle.std.specs.Prelude.{true, ℕ, ◌==◌, nat_le, List, [], ◌∷◌, is_some, unwrap_or, Option}
use Rattle.std.specs.Int.{w32, from_le_bytes}
use Rattle.sp_form.specs.Form.{Form, whole, field, ◌>>=◌, rule}
use Rattle.sp_form.specs.Values.{byte, bytes_form, value_form}
use Rattle.sp_block.specs.Judged.{is_block}
use Rattle.sp_feed.specs.declared.kind.Kind.{Kind}
use Rattle.sp_feed.specs.declared.kind.Kind.TheVariants.{Block, End}
use Rattle.sp_model.specs.declared.profile.Profile.{Profile}
use Rattle.sp_model.specs.declared.profile.Profile.TheVariants.{One}
use Rattle.sp_feed.specs.Kinds.{allows, kind_of, letter, Said, said}
use Rattle.sp_feed.specs.Versions.{profile_of}

-- the bytes end within a field, or the field breaks its rule
pub data Flaw : Type 0 where
  cut : Flaw
  broken : Flaw

-- the name of a version, and the profile that it has
abbrev pub name_form : Form Flaw Profile
name_form = field 8 cut (λ bytes. rule (is_some (profile_of bytes)) broken ∷ []) (λ bytes. whole (unwrap_or (profile_of bytes) One))

abbrev pub bits_form : Form Flaw ℕ
bits_form = value_form 1 cut byte (λ bits. rule (nat_le bits 64) broken ∷ [])

-- a letter that has a kind
abbrev pub kind_form : Form Flaw Kind
kind_form = field 1 cut (λ bytes. rule (is_some (kind_of (byte bytes))) broken ∷ []) (λ bytes. whole (unwrap_or (kind_of (byte bytes)) End))

-- the letter of a block, as the head asks for it
abbrev pub block_letter_form : Form Flaw ℕ
block_letter_form = value_form 1 cut byte (λ byte. rule (byte == letter Block) broken ∷ [])

-- a length that this kind allows
abbrev pub length_form : Kind → Form Flaw ℕ
length_form kind = value_form 4 cut (from_le_bytes w32) (λ n. rule (allows kind n) broken ∷ [])

abbrev pub genesis_form : ℕ → Form Flaw (List ℕ)
genesis_form n = value_form n cut (λ bytes. bytes) (λ bytes. rule (is_block true bytes) broken ∷ [])

-- the profile, the bits of work that are asked for, and the bytes of the genesis block
pub record Head : Type 0 where
  pub profile : Profile
  pub bits : ℕ
  pub genesis : List ℕ

abbrev pub head_of : Profile → ℕ → List ℕ → Head
head_of profile bits genesis = record { profile = profile; bits = bits; genesis = genesis }

-- what stands before the genesis block: the profile, the bits, and how many bytes the block has
unfoldable pub front_form : Form Flaw (Profile × (ℕ × ℕ))
front_form = do
  profile ← name_form
  bits ← bits_form
  letter ← block_letter_form
  n ← length_form Block
  whole (profile, (bits, n))

-- the rest of a head of this profile with these bits, and with a genesis block of so many bytes
unfoldable pub back_form : Profile → ℕ → ℕ → Form Flaw Head
back_form profile bits n = do
  genesis ← genesis_form n
  whole (head_of profile bits genesis)

unfoldable pub head_form : Form Flaw Head
head_form = do
  profile ← name_form
  bits ← bits_form
  letter ← block_letter_form
  n ← length_form Block
  genesis ← genesis_form n
  whole (head_of profile bits genesis)

-- what a frame says; nothing where it is the end
unfoldable pub frame_form : Form Flaw (Option Said)
frame_form = do
  kind ← kind_form
  n ← length_form kind
  payload ← bytes_form n cut
  whole (said kind payload)
