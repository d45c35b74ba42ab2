-- Blocks are sent frame by frame, behind the front of a feed.
use Rattle.std.proofs.Common.{◌≡◌, ◌≤◌, ◌<◌, ◌+◌, ℕ, zero, suc, List, [], ◌∷◌, ◌++◌, length, map, drop, Option, refl, ap, sym, ◌∙◌, get_or, subst, append_assoc, arith}
use Rattle.std.proofs.lemmas.List.{drop_all, length-map}
use Rattle.std.specs.Io.KnownBytes.{Appends}
use Rattle.sp_block.specs.Block.{ReadBlock}
use Rattle.sp_feed.specs.declared.kind.Kind.TheVariants.{Block, End}
use Rattle.sp_feed.specs.Spelling.{framed, frames_of}
use Rattle.sp_feed.specs.Versions.{name}
use Rattle.sp_io.specs.Whole.{AppendsFront, Wrote}
use Rattle.sp_io.proofs.Writing.{wrote_more, wrote_none, wrote_stops}
use Rattle.sp_model.specs.declared.profile.Profile.{Profile}
use Rattle.spectre.specs.Sent.{blocks_text, said_block}

-- ---- a first piece, and the rest

pub first_goes : (a b : Option (List ℕ)) (piece rest : List ℕ) → Appends a b piece → Wrote a b (piece ++ rest) rest
first_goes a b piece rest p = wrote_more {a = a} {b = a} {c = b} {whole = piece ++ rest} piece rest (wrote_none a (piece ++ rest)) p

pub first_stops : (a b : Option (List ℕ)) (piece rest : List ℕ) → AppendsFront a b piece → AppendsFront a b (piece ++ rest)
first_stops a b piece rest p = wrote_stops {a = a} {b = a} {c = b} {whole = piece ++ rest} piece rest (wrote_none a (piece ++ rest)) p

-- ---- frame by frame

-- the frames from a place on
abbrev pub frames_from : ℕ → List ReadBlock → List ℕ
frames_from place blocks = frames_of (drop place (map said_block blocks))

frame_at : (blocks : List ReadBlock) (place : ℕ) (block : ReadBlock) → place < length blocks → frames_from place blocks ≡ framed Block (get_or blocks place block).bytes ++ frames_from (place + 1) blocks
frame_at [] place block within = absurd (omega (arith, within))
frame_at (b ∷ blocks) zero block within = refl
frame_at (b ∷ blocks) (suc place) block within =
    let next : suc place + 1 ≡ suc (place + 1) = omega arith in
    rw next (frame_at blocks place block (omega (arith, within)))

-- the block at a place is the next one
pub next_frame : (blocks : List ReadBlock) (place : ℕ) (block : ReadBlock) → place < length blocks → block ≡ get_or blocks place block → frames_from place blocks ≡ framed Block block.bytes ++ frames_from (place + 1) blocks
next_frame blocks place block within e = frame_at blocks place block within ∙ ap (λ (b : ReadBlock). framed Block b.bytes ++ frames_from (place + 1) blocks) (sym e)

pub last_frame : (blocks : List ReadBlock) (place : ℕ) → length blocks ≤ place → frames_from place blocks ≡ framed End []
last_frame blocks place past = ap frames_of (drop_all place (map said_block blocks) (omega (arith, past, length-map blocks said_block)))

-- ---- the front of a feed, and what stands behind it

abbrev front : Profile → ℕ → List ℕ
front profile bits = name profile ++ bits ∷ []

abbrev behind : List ℕ → List ReadBlock → List ℕ
behind genesis blocks = framed Block genesis ++ frames_of (map said_block blocks)

parts : (profile : Profile) (bits : ℕ) (genesis : List ℕ) (blocks : List ReadBlock) → front profile bits ++ behind genesis blocks ≡ blocks_text profile bits genesis blocks
unfolding blocks_text
parts profile bits genesis blocks = append_assoc (name profile) (bits ∷ []) (behind genesis blocks)

pub feed_goes : (a b : Option (List ℕ)) (profile : Profile) (bits : ℕ) (genesis : List ℕ) (blocks : List ReadBlock) → Appends a b (name profile ++ bits ∷ []) → Wrote a b (blocks_text profile bits genesis blocks) (framed Block genesis ++ frames_of (map said_block blocks))
feed_goes a b profile bits genesis blocks p =
    subst (λ (t : List ℕ). Wrote a b t (behind genesis blocks)) (parts profile bits genesis blocks) (first_goes a b (front profile bits) (behind genesis blocks) p)

pub feed_stops : (a b : Option (List ℕ)) (profile : Profile) (bits : ℕ) (genesis : List ℕ) (blocks : List ReadBlock) → AppendsFront a b (name profile ++ bits ∷ []) → AppendsFront a b (blocks_text profile bits genesis blocks)
feed_stops a b profile bits genesis blocks p =
    subst (λ (t : List ℕ). AppendsFront a b t) (parts profile bits genesis blocks) (first_stops a b (front profile bits) (behind genesis blocks) p)
