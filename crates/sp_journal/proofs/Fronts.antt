-- A run over many messages: each crash recovers a front of the kept blocks.
use Rattle.std.proofs.Common.{◌≡◌, inl, inr, ℕ, ◌≤◌, List, [], ◌∷◌, ◌++◌, length, map, refl, sym, ap, ◌∙◌, arith, length-append}
use Rattle.std.specs.List.{AllByRecursion}
use Rattle.std.proofs.lemmas.List.{map-append, take-append-le, take_all}
use Rattle.sp_ids.specs.Digest.{sha256_number}
use Rattle.sp_block.specs.Block.{IsBlock, ReadBlock}
use Rattle.sp_disk.specs.Images.{Among}
use Rattle.sp_disk.specs.Moments.{IsMoment, Leaves, Moment}
use Rattle.sp_disk.proofs.Runs.{joined, started}
use Rattle.sp_model.specs.declared.profile.Profile.{Profile}
use Rattle.sp_journal.specs.Journal.{Contents, contents, ids_of, with_block}
use Rattle.sp_journal.specs.Prefixes.{front_of, HoldsFront, journal_of}
use Rattle.sp_journal.specs.Records.{Found}
use Rattle.sp_journal.specs.Recovery.{bytes_in}
use Rattle.sp_journal.specs.Writer.{HoldsOrAdded, Stands, Writer}

module _ (c : Contents) (bytes : List ℕ) where
  -- all of the journal is a front of it with one block more
  front_before : (count : ℕ) → count ≤ length c.blocks → front_of c count ≡ front_of (with_block c bytes) count
  front_before count few = ap (contents c.profile c.bits c.genesis) (sym (take-append-le count c.blocks (bytes ∷ []) few))

  whole : (d : Contents) → d ≡ front_of d (length d.blocks)
  whole d = ap (contents d.profile d.bits d.genesis) (sym (take_all (length d.blocks) d.blocks (omega arith)))

  still_front : (least : ℕ) → Among (HoldsFront least (with_block c bytes)) (HoldsFront least c)
  still_front least image h = record {
    count = h.count;
    low = h.low;
    high = omega (arith, h.high, length-append c.blocks (bytes ∷ []));
    holds = h.holds ∙ ap Found (front_before h.count h.high);
  }

  either_front : (least : ℕ) → least ≤ length c.blocks → Among (HoldsFront least (with_block c bytes)) (HoldsOrAdded c bytes)
  either_front least low image (inl before) = record {
    count = length c.blocks;
    low = low;
    high = omega (arith, length-append c.blocks (bytes ∷ []));
    holds = before ∙ ap Found (whole c ∙ front_before (length c.blocks) (omega arith));
  }
  either_front least low image (inr after) = record {
    count = length (with_block c bytes).blocks;
    low = omega (arith, low, length-append c.blocks (bytes ∷ []));
    high = omega arith;
    holds = after ∙ ap Found (whole (with_block c bytes));
  }

  -- one append more, and each crash since the start still recovers a front with at least the first blocks
  pub run_goes_on : (least : ℕ) (start mid new : Moment) → least ≤ length c.blocks → Leaves start mid (HoldsFront least c) → Leaves mid new (HoldsOrAdded c bytes) → Leaves start new (HoldsFront least (with_block c bytes))
  run_goes_on least start mid new low first second =
      joined start mid new (HoldsFront least c) (HoldsOrAdded c bytes) (HoldsFront least (with_block c bytes)) first second (still_front least) (either_front least low)

-- a run begins with the found journal
pub run_starts : (w : Writer) (c : Contents) (m : Moment) → IsMoment m → Stands w c m → Leaves m m (HoldsFront (length c.blocks) c)
run_starts w c m law stands = started m (HoldsFront (length c.blocks) c) law (λ image left. record {
  count = length c.blocks;
  low = omega arith;
  high = omega arith;
  holds = stands.holds image left ∙ ap Found (ap (contents c.profile c.bits c.genesis) (sym (take_all (length c.blocks) c.blocks (omega arith))));
})

-- ---- the ids that no further record may have

shas : (blocks : List ReadBlock) → AllByRecursion IsBlock blocks → map sha256_number (map bytes_in blocks) ≡ map (λ (b : ReadBlock). b.id) blocks
shas [] all = refl
shas (b ∷ blocks) all = λ i. sym all.0.id i ∷ shas blocks all.1 i

-- the ids of the journal are those of the kept blocks
pub ids_are : (profile : Profile) (bits : ℕ) (genesis : ReadBlock) (others : List ReadBlock) → AllByRecursion IsBlock (genesis ∷ others) → ids_of (journal_of profile bits genesis others) ≡ map (λ (b : ReadBlock). b.id) (genesis ∷ others)
ids_are profile bits genesis others all = λ i. sym all.0.id i ∷ shas others all.1 i

-- one block more is kept, and so is the journal
pub journal_added : (profile : Profile) (bits : ℕ) (genesis block : ReadBlock) (others : List ReadBlock) → with_block (journal_of profile bits genesis others) block.bytes ≡ journal_of profile bits genesis (others ++ block ∷ [])
journal_added profile bits genesis block others = ap (contents profile bits genesis.bytes) (sym (map-append bytes_in others (block ∷ [])))
