-- The block that joins the kept ones, and what it changes of their journal.
use Rattle.std.proofs.Common.{◌≡◌, ℕ, ◌<◌, Bool, true, false, cond, ltb, eqb, ◌||◌, Bor, List, [], ◌∷◌, ◌++◌, length, Option, Some, None, Result, Ok, Err, refl, sym, ap, subst, ◌∙◌, arith, length-append}
use Rattle.std.specs.Option.{option_copied}
use Rattle.std.specs.Prelude.{All, find, IfSome, IsSome}
use Rattle.std.specs.List.{AllByRecursion}
use Rattle.std.proofs.lemmas.Bool.{eq-eqb, ltb-true}
use Rattle.std.proofs.lemmas.List.Elements.{recursion_from_All}
use Rattle.sp_ids.specs.Bits.{BeginsWithZeros}
use Rattle.sp_block.specs.Block.{IsBlock, IsOther, parts_of, ReadBlock}
use Rattle.sp_block.specs.Spelling.{SpellsBlock}
use Rattle.sp_block.specs.declared.fault.BlockFault.{BlockFault}
use Rattle.sp_model.specs.Graph.{has}
use Rattle.sp_pool.specs.Kept.{AreKept, ids_of}
use Rattle.sp_pool.specs.declared.answers.Standing.{Standing}
use Rattle.sp_pool.specs.declared.answers.Standing.TheVariants as standing
use Rattle.sp_engine.specs.Arrivals.{kept_after, valid_by, valid_in}
use Rattle.sp_block.specs.Judged.{meets}
use Rattle.sp_block.proofs.Judged.{zeros_met}
use Rattle.sp_engine.specs.Blocks.{block_in}
use Rattle.sp_engine.specs.declared.answer.Refusal.TheVariants.{Work}
use Rattle.sp_engine.proofs.SpelledBlocks.{block_is_spelled, block_is_whole}
use Rattle.sp_disk.specs.Moments.{IsMoment, Moment}
use Rattle.sp_journal.specs.Journal.{Contents, ids_of as journal_ids, with_block}
use Rattle.sp_journal.specs.Records.{Found}
use Rattle.sp_journal.specs.Writer.{Stands, with_record, Writer}
use Rattle.sp_journal.proofs.Fronts.{ids_are, journal_added}
use Rattle.sp_report.proofs.Arrived.{Joins}
use Rattle.sp_node.specs.Journalled.{FitsKept, journal_in}
use Rattle.sp_node.specs.Terms.{Terms, terms_of}
use Rattle.sp_model.specs.declared.profile.Profile.{Profile}

neither : (a b : Bool) → (a || b) ≡ false → (a ≡ false) × (b ≡ false)
neither true b e = absurd cc
neither false b e = (refl, e)

fresh_parts : (b c : Bool) → cond b standing.Known (cond c standing.Fresh standing.Full) ≡ standing.Fresh → (b ≡ false) × (c ≡ true)
fresh_parts true c e = absurd cc
fresh_parts false true e = (refl, refl)
fresh_parts false false e = absurd cc

same_Ok : {X E : Type 0} (x y : X) → (let r : Result X E = Ok x in r) ≡ Ok y → x ≡ y
same_Ok x y e = cc

by_work : (bits : ℕ) (r : Result ReadBlock BlockFault) (block : ReadBlock) → valid_by bits r ≡ Ok block → (r ≡ Ok block) × (meets block.id bits ≡ true)
by_work bits (Err fault) block e = absurd cc
by_work bits (Ok b) block e = at (meets b.id bits) refl e
  where
    at : (m : Bool) → meets b.id bits ≡ m → cond m (Ok b) (Err Work) ≡ Ok block → ((let r : Result ReadBlock BlockFault = Ok b in r) ≡ Ok block) × (meets block.id bits ≡ true)
    at true is e = let same : b ≡ block = same_Ok b block e in (ap Ok same, subst (λ (x : ReadBlock). meets x.id bits ≡ true) same is)
    at false is e = absurd cc

valid_parts : (bits : ℕ) (bytes : List ℕ) (block : ReadBlock) → valid_in bits bytes ≡ Ok block → (block_in false bytes ≡ Ok block) × (meets block.id bits ≡ true)
unfolding valid_in
valid_parts bits bytes block e = by_work bits (block_in false bytes) block e

find_last : (kept : List ReadBlock) (block : ReadBlock) (id : ℕ) → block.id ≡ id → has (ids_of kept) id ≡ false → find (λ (b : ReadBlock). eqb b.id id) (kept ++ block ∷ []) ≡ Some block
find_last [] block id same none = let e : eqb block.id id ≡ true = eq-eqb block.id id same in rw e refl
find_last (b ∷ kept) block id same none =
    let apart = neither (eqb b.id id) (has (ids_of kept) id) none in
    rw apart.0 (find_last kept block id same apart.1)

module _ (bits : ℕ) (kept : List ReadBlock) (bytes : List ℕ) (id : ℕ) (are : AreKept kept) (j : Joins bits kept bytes id) where
  parts : (has (ids_of kept) j.block.id ≡ false) × (ltb (length kept) 512 ≡ true)
  parts = fresh_parts (has (ids_of kept) j.block.id) (ltb (length kept) 512) j.fresh

  pub is_new : has (ids_of kept) j.block.id ≡ false
  is_new = parts.0

  pub has_room : length kept < 512
  has_room = ltb-true (length kept) 512 parts.1

  pub work : BeginsWithZeros j.block.id bits
  work = zeros_met j.block.id bits (valid_parts bits bytes j.block j.valid).1

  pub is_other : IsOther j.block
  is_other =
      let read = (valid_parts bits bytes j.block j.valid).0 in
      let whole = block_is_whole false bytes j.block read in
      let spells = (block_is_spelled false bytes (parts_of j.block)).0 (read ∙ ap Ok whole) in
      subst (λ (list : List ℕ). SpellsBlock list false (parts_of j.block)) (sym (ap (λ (b : ReadBlock). b.bytes) whole)) spells

  pub found : find (λ (b : ReadBlock). eqb b.id id) (kept_after bits kept bytes) ≡ Some j.block
  found = ap (find (λ (b : ReadBlock). eqb b.id id)) j.now ∙ find_last kept j.block id j.same (ap (has (ids_of kept)) (sym j.same) ∙ is_new)

  pub found_now : (now : List ReadBlock) (r : Option (Bor ReadBlock)) → option_copied r ≡ find (λ (b : ReadBlock). eqb b.id id) now → now ≡ kept_after bits kept bytes → option_copied r ≡ Some j.block
  found_now now r copied is = copied ∙ ap (find (λ (b : ReadBlock). eqb b.id id)) is ∙ found

  pub ids_known : (profile : Profile) → journal_ids (journal_in (terms_of profile bits) kept) ≡ ids_of kept
  ids_known profile =
      let all : AllByRecursion IsBlock (are.genesis ∷ are.others) = recursion_from_All IsBlock (are.genesis ∷ are.others) (subst (All IsBlock) are.first are.are_blocks) in
      ap (λ (k : List ReadBlock). journal_ids (journal_in (terms_of profile bits) k)) are.first ∙ ids_are profile bits are.genesis are.others all ∙ ap ids_of (sym are.first)

  pub now_holds : (profile : Profile) → journal_in (terms_of profile bits) (kept_after bits kept bytes) ≡ with_block (journal_in (terms_of profile bits) kept) j.block.bytes
  now_holds profile =
      ap (journal_in (terms_of profile bits)) j.now ∙ ap (λ (k : List ReadBlock). journal_in (terms_of profile bits) (k ++ j.block ∷ [])) are.first ∙ sym (journal_added profile bits are.genesis j.block are.others)
      ∙ ap (λ (k : List ReadBlock). with_block (journal_in (terms_of profile bits) k) j.block.bytes) (sym are.first)

-- a disk stands for one journal's contents
read_image : (r : Option (List ℕ)) (images : List ℕ → Type 0) → IsSome r → IfSome r images → (image : List ℕ) × images image
read_image None images some law = absurd cc
read_image (Some image) images some law = (image, law)

same_Found : (a b : Contents) → Found a ≡ Found b → a ≡ b
same_Found a b e = cc

pub one_contents : (w : Writer) (a b : Contents) (m : Moment) → IsMoment m → Stands w a m → Stands w b m → a ≡ b
one_contents w a b m law first second =
    let image = read_image m.reads m.images first.told law.reads in
    same_Found a b (sym (first.holds image.0 image.1) ∙ second.holds image.0 image.1)

same_Some : {X : Type 0} (x y : X) → Some x ≡ Some y → x ≡ y
same_Some x y e = cc

-- what was looked up
pub looked_up : (r : Option (Bor ReadBlock)) (b : Bor ReadBlock) (x : ReadBlock) → r ≡ Some b → option_copied r ≡ Some x → b.now ≡ x
looked_up r b x is copied =
    let here : Some b.now ≡ Some x = ap option_copied (sym is) ∙ copied in same_Some b.now x here

pub not_missing : (r : Option (Bor ReadBlock)) (x : ReadBlock) → r ≡ None → option_copied r ≡ Some x → ⊥
not_missing r x is copied =
    let here : (let o : Option ReadBlock = None in o) ≡ Some x = ap option_copied (sym is) ∙ copied in absurd (cc here)

-- one record more, and one block more
pub fits_more : (terms : Terms) (kept : List ReadBlock) (bytes bytes' : List ℕ) (id : ℕ) (w w' : Writer) → FitsKept terms kept w → Joins terms.bits kept bytes id → w' ≡ with_record w bytes' → FitsKept terms (kept_after terms.bits kept bytes) w'
fits_more terms kept bytes bytes' id w w' fits joins is = record {
  live = ap (λ (x : Writer). x.closed) is ∙ fits.live;
  profile = ap (λ (x : Writer). x.profile) is ∙ fits.profile;
  work = ap (λ (x : Writer). x.bits) is ∙ fits.work;
  count = omega (arith, fits.count, ap (λ (x : Writer). x.records) is, ap length joins.now, length-append kept (joins.block ∷ []));
}

pub fits_same : (terms terms' : Terms) (kept kept' : List ReadBlock) (w : Writer) → terms' ≡ terms → kept' ≡ kept → FitsKept terms kept w → FitsKept terms' kept' w
fits_same terms terms' kept kept' w b k fits = record { live = fits.live; profile = fits.profile ∙ ap (λ (t : Terms). t.profile) (sym b); work = fits.work ∙ ap (λ (t : Terms). t.bits) (sym b); count = fits.count ∙ ap length (sym k) }
