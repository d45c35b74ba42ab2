-- What `show` writes, from what was found on the disk.
use Rattle.std.proofs.Common.{◌≡◌, ℕ, ◌-◌, true, List, [], ◌∷◌, ◌++◌, length, map, Option, Some, None, IfSome, Ok, ap, refl, sym, subst, ◌∙◌, append_assoc, arith}
use Rattle.std.proofs.lemmas.List.{length-map}
use Rattle.std.specs.Io.KnownBytes.{Appends}
use Rattle.sp_io.specs.Whole.{AppendsFront}
use Rattle.sp_io.proofs.Writing.{appends_then}
use Rattle.sp_block.specs.Block.{ReadBlock}
use Rattle.sp_engine.specs.Arrivals.{kept_by_all}
use Rattle.sp_engine.specs.Blocks.{block_in}
use Rattle.sp_journal.specs.Opening.{contents_in, Opening}
use Rattle.sp_journal.specs.Records.{Records, records}
use Rattle.sp_journal.specs.Recovery.{bytes_in}
use Rattle.sp_names.specs.Labels.{no_labels}
use Rattle.sp_report.specs.Texts.{report_text}
use Rattle.spectre.specs.Journals.{recovered_text, report_by, shown_by, shown_output, told_by}
use Rattle.spectre.specs.declared.shape.Shape.{Shape}
use Rattle.spectre.specs.declared.shape.Shape.TheVariants.{Report}
use Rattle.sp_model.specs.declared.profile.Profile.{Profile}
use Rattle.sp_feed.specs.Format.{head_of}
use Rattle.sp_feed.specs.Kinds.{Said, SaysBlock}
use Rattle.sp_feed.specs.Spelling.{written}
use Rattle.spectre.specs.Sent.{blocks_text, said_block}
use Rattle.spectre.specs.Exports.{exported}

pub shown_is : (o : Opening) (count : ℕ) (kept : List ReadBlock) → count ≡ length kept - 1 → kept ≡ o.genesis ∷ o.blocks → kept ≡ kept_by_all o.bits o.genesis (map bytes_in o.blocks) → block_in true o.genesis.bytes ≡ Ok o.genesis
    → recovered_text count ++ report_text o.profile no_labels kept ≡ told_by Report (contents_in o)
shown_is o count kept n whole sent spelled =
    let size : count ≡ length (map bytes_in o.blocks) = omega (arith, n, ap length whole, length-map o.blocks bytes_in) in
    ap (λ (k : ℕ). recovered_text k ++ report_text o.profile no_labels kept) size
    ∙ ap (λ (k : List ReadBlock). recovered_text (length (map bytes_in o.blocks)) ++ report_text o.profile no_labels k) sent
    ∙ ap (λ r. recovered_text (length (map bytes_in o.blocks)) ++ report_by (contents_in o) r) (sym spelled)

-- what is written for what the disk holds
pub shown_at : (shape : Shape) (reads : Option (List ℕ)) (r : Records) (P : List ℕ → Type 0) → IfSome reads (λ bytes. records bytes ≡ r) → P (shown_by shape r) → IfSome reads (λ bytes. P (shown_output shape bytes) × (records bytes ≡ r))
unfolding shown_output
shown_at shape None r P e h = tt
shown_at shape (Some bytes) r P e h = (subst (λ (x : Records). P (shown_by shape x)) (sym e) h, e)

pub shown_text : (shape : Shape) (reads : Option (List ℕ)) (r : Records) (P : List ℕ → Type 0) → IfSome reads (λ bytes. records bytes ≡ r) → P (shown_by shape r) → IfSome reads (λ bytes. P (shown_output shape bytes))
unfolding shown_output
shown_text shape None r P e h = tt
shown_text shape (Some bytes) r P e h = subst (λ (x : Records). P (shown_by shape x)) (sym e) h

pub if_more : (reads : Option (List ℕ)) (P Q : List ℕ → Type 0) → ((bytes : List ℕ) → P bytes → Q bytes) → IfSome reads P → IfSome reads Q
if_more None P Q f h = tt
if_more (Some bytes) P Q f h = f bytes h

-- a line is written, and then a front of the rest
pub front_then : (a b c : Option (List ℕ)) (xs ys : List ℕ) → Appends a b xs → AppendsFront b c ys → AppendsFront a c (xs ++ ys)
front_then a b c xs ys p q = (
  q.0,
  record {
    front = xs ++ q.1.front;
    appended = appends_then a b c xs q.1.front p q.1.appended;
    split = ap (λ t. xs ++ t) q.1.split ∙ sym (append_assoc xs q.1.front q.0);
  },
)

-- the messages of a journal's blocks, by their bytes
pub said_blocks : (blocks : List ReadBlock) → map said_block blocks ≡ map SaysBlock (map bytes_in blocks)
said_blocks [] = refl
said_blocks (b ∷ blocks) = ap (λ (l : List Said). SaysBlock b.bytes ∷ l) (said_blocks blocks)

pub exported_is : (profile : Profile) (o : Opening) → blocks_text profile o.bits o.genesis.bytes o.blocks ≡ exported profile (contents_in o)
unfolding exported blocks_text
exported_is profile o = ap (written (head_of profile o.bits o.genesis.bytes)) (said_blocks o.blocks)
