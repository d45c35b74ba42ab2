-- Reads of a disk one after another, and what is seen of its bytes in the room for the longest record.
use Rattle.std.proofs.Common.{◌≡◌, inl, inr, ⊎_elim, ℕ, zero, suc, ◌+◌, ◌≤◌, ◌-◌, false, List, [], ◌∷◌, ◌++◌, length, take, drop, Option, Some, None, Result, Ok, Err, refl, sym, ap, subst, ◌∙◌, arith}
use Rattle.std.specs.Prelude.{fold, IfOk, IfSome, min}
use Rattle.std.proofs.lemmas.Bool.{cases_lt}
use Rattle.std.proofs.lemmas.List.{drop-drop}
use Rattle.std.proofs.lemmas.Grind.{fold-append}
use Rattle.sp_form.specs.Bytes.{IsBytes}
use Rattle.sp_ids.specs.Digest.{sha256_number}
use Rattle.sp_block.specs.Block.{ReadBlock}
use Rattle.sp_io.specs.Causes.{Rose}
use Rattle.sp_disk.specs.Images.{Among}
use Rattle.sp_disk.specs.Moments.{IsMoment, Looks, Moment}
use Rattle.sp_disk.proofs.Lasting.{looks_ebb}
use Rattle.sp_journal.specs.Looked.{HasLooked}
use Rattle.sp_journal.specs.declared.fault.JournalFault.{JournalFault}
use Rattle.sp_journal.specs.Records.{Faulty, is_shut, rows}
use Rattle.sp_journal.specs.Recovery.{FindsRecord, id_behind}
use Rattle.sp_journal.proofs.Recovered.{IsSoFar, so_far_faulty, so_far_full, so_far_more}
use Rattle.sp_journal.proofs.Windows.{bytes_drop, if_some, if_some2, window}

-- two reads one after another
within_then : (old mid new : Moment) → Looks old mid → Looks mid new → (t : ℕ) → old.clock ≤ t → t ≤ new.clock → Among old.images (new.at t)
within_then old mid new first second t from until image left = elim (cases_lt mid.clock t) [
  | inl past ↦ first.crash image (second.within t (omega (arith, past)) until image left)
  | inr le ↦ first.within t from le image ((second.time.ebbs.past t le).0 image left)
]

pub looks_then : (old mid new : Moment) → IsMoment old → IsMoment mid → Looks old mid → Looks mid new → Looks old new
looks_then old mid new law mid_law first second = record {
  reads = second.reads ∙ first.reads;
  crash = λ image left. first.crash image (second.crash image left);
  within = within_then old mid new first second;
  time = record {
    later = omega (arith, first.time.later, second.time.later);
    since = λ t le image left. ⊎_elim (λ was. ⊎_elim (λ a. inl a) (λ b. inl (law.counts t image le (first.crash image b))) (first.time.since t le image was)) (λ now. inr now) (second.time.since t (omega (arith, le, first.time.later)) image left);
    keeps = λ t le image left. second.time.keeps t (omega (arith, le, first.time.later)) image (first.time.keeps t le image left);
    ebbs = looks_ebb old mid new mid_law first.time.ebbs second;
  };
}

-- what was looked at after a look that changed no count
pub looked_then : {T : Type 0} {result : Result T JournalFault} (old mid new : Moment) → IsMoment old → IsMoment mid → Looks old mid → mid.faults ≡ old.faults → HasLooked mid new result → HasLooked old new result
looked_then old mid new law mid_law first same second = record {
  looks = looks_then old mid new law mid_law first second.looks;
  fault = λ e. subst (λ (n : ℕ). Rose n new.faults) same (second.fault e);
  later = omega (arith, same, second.later);
  quiet = λ other. second.quiet other ∙ same;
}

pub told_bytes : (m : Moment) → IsMoment m → IfSome m.reads IsBytes
told_bytes m law = if_some m.images IsBytes m.reads (λ x e p. law.bytes x p) law.reads

-- what was found in the room is so on the disk
pub on_disk : {T E : Type 0} (Q : List ℕ → T → Type 0) (result : Result T E) (r : Option (List ℕ)) (at count : ℕ) (before after seen : List ℕ) → seen ≡ after → IfSome r IsBytes
    → IfSome r (λ bytes. (count ≡ min (length before) (length (drop at bytes))) × (take count after ≡ take count (drop at bytes)) × (length after ≡ length before)) → length before ≡ 65550
    → IfOk result (λ x. (list : List ℕ) → IsBytes list → take count seen ≡ take 65550 list → Q list x) → IfOk result (λ x. IfSome r (λ bytes. Q (drop at bytes) x))
on_disk Q (Err e) r at count before after seen same bytes gives size found = tt
on_disk Q (Ok x) r at count before after seen same bytes gives size found =
    if_some2 IsBytes (λ bytes. (count ≡ min (length before) (length (drop at bytes))) × (take count after ≡ take count (drop at bytes)) × (length after ≡ length before)) (λ bytes. Q (drop at bytes) x) r
    (λ all is g. found (drop at all) (bytes_drop at all is) (ap (take count) same ∙ window count (drop at all) before after size g.0 g.1)) bytes gives

-- the next record is at fault, or there is no room for one
pub so_far_bad : (bits : ℕ) (first : List ℕ) (start : ℕ) (all : List ℕ) (blocks : List ReadBlock) (ids : List ℕ) (at : ℕ) (list : List ℕ) → IsSoFar bits first start all blocks ids at list
    → (is_shut list ≡ false) × FindsRecord bits ids list [] None → rows 511 bits first start all ≡ Faulty at
so_far_bad bits first start all blocks ids at list so_far bad = by (511 - length blocks) refl
  where
    by : (k : ℕ) → 511 - length blocks ≡ k → rows 511 bits first start all ≡ Faulty at
    by zero e = so_far_full bits first start all blocks ids at list so_far (omega (arith, e, so_far.few)) bad.0
    by (suc k) e = so_far_faulty bits first start all blocks ids at list so_far (λ full. absurd (omega (arith, e, full))) bad.0 [] bad.1

-- one record more
pub so_far_next : (bits : ℕ) (first : List ℕ) (start : ℕ) (bytes : List ℕ) (blocks : List ReadBlock) (ids : List ℕ) (at : ℕ) → IsSoFar bits first start (drop start bytes) blocks ids at (drop at bytes)
    → (block : ReadBlock) → (length blocks ≡ 511 → ⊥) → (is_shut (drop at bytes) ≡ false) × FindsRecord bits ids (drop at bytes) (drop (5 + length block.bytes) (drop at bytes)) (Some block) → block.id ≡ sha256_number block.bytes
    → (blocks' : List ReadBlock) (ids' : List ℕ) (at' : ℕ) → blocks' ≡ blocks ++ block ∷ [] → ids' ≡ ids ++ block.id ∷ [] → at' ≡ at + (5 + length block.bytes) → IsSoFar bits first start (drop start bytes) blocks' ids' at' (drop at' bytes)
so_far_next bits first start bytes blocks ids at so_far block room found id blocks' ids' at' pushed noted moved =
    let left : drop (5 + length block.bytes) (drop at bytes) ≡ drop at' bytes = drop-drop (5 + length block.bytes) at bytes ∙ ap (λ (n : ℕ). drop n bytes) (sym moved) in
    subst (λ (l : List ℕ). IsSoFar bits first start (drop start bytes) blocks' ids' at' l) left
    (so_far_more bits first start (drop start bytes) blocks ids at (drop at bytes) so_far block (drop (5 + length block.bytes) (drop at bytes)) room found.0 found.1 id blocks' ids' at' pushed noted moved)

pub known_more : (first : List ℕ) (blocks blocks' : List ReadBlock) (ids ids' : List ℕ) (block : ReadBlock) → ids ≡ fold id_behind first blocks → blocks' ≡ blocks ++ block ∷ [] → ids' ≡ ids ++ block.id ∷ [] → ids' ≡ fold id_behind first blocks'
known_more first blocks blocks' ids ids' block known pushed noted =
    noted ∙ ap (λ (l : List ℕ). id_behind l block) known ∙ sym (fold-append id_behind first blocks (block ∷ [])) ∙ ap (fold id_behind first) (sym pushed)
