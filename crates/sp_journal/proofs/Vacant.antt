-- A disk without a journal while its first gate is closed, and the journal that is opened over it.
use Rattle.std.proofs.Common.{◌≡◌, inl, inr, ℕ, ◌+◌, ◌≤◌, true, false, eqb, ltb, List, [], ◌∷◌, ◌++◌, length, get_or, drop, Option, Some, None, refl, sym, ap, subst, ◌∙◌, arith, append_assoc, length-append}
use Rattle.std.specs.Prelude.{IfSome, IsSome}
use Rattle.std.proofs.lemmas.Bool.{cases_eq, eq-eqb, le-ltb, ne_eqb}
use Rattle.std.proofs.lemmas.List.{append-nil, drop_more}
use Rattle.sp_form.specs.Form.{bind}
use Rattle.sp_form.specs.Reading.{read}
use Rattle.sp_disk.specs.Images.{Among, EachIs, PartlyWritten}
use Rattle.sp_disk.specs.Moments.{IsMoment, Leaves, Moment, PartlyWrittenFrom}
use Rattle.sp_disk.proofs.Runs.{joined}
use Rattle.sp_disk.proofs.Partly.{same_back}
use Rattle.sp_journal.specs.Creation.{gate_of, HoldsNone, HoldsNoneOrNew, IsSynced, IsVacant}
use Rattle.sp_model.specs.declared.profile.Profile.{Profile}
use Rattle.sp_journal.specs.Format.{head_form, head_of, set}
use Rattle.sp_journal.specs.Gates.{IsOpened, IsShut, IsShutOrOpened}
use Rattle.sp_journal.specs.Journal.{AreContents, Contents, contents, front, head_body, head_text}
use Rattle.sp_block.specs.Judged.{is_block}
use Rattle.sp_journal.specs.Records.{Found, records}
use Rattle.sp_journal.specs.Settled.{HasGate, HasOpened, IsTold, Puts}
use Rattle.sp_journal.specs.Writer.{Stands, writer}
use Rattle.sp_journal.specs.declared.gate_kind.Gate.{Gate}
use Rattle.sp_journal.specs.declared.gate_kind.Gate.TheVariants.{Set, Shut}
use Rattle.sp_journal.proofs.Forms.{head_size}
use Rattle.sp_journal.proofs.Openings.{read_of, settles}
use Rattle.sp_journal.proofs.RecordLaws.{found_front}

-- behind a closed first gate there is no journal
pub none_shut : (list : List ℕ) → IsShut [] list → HoldsNone list
unfolding records head_form read bind
none_shut list shut =
    let e : eqb shut.gate set ≡ false = ne_eqb shut.gate set shut.closed in
    let long : ltb (length (shut.gate ∷ shut.rest)) 1 ≡ false = le-ltb (length (shut.gate ∷ shut.rest)) 1 (omega arith) in
    ap records shut.parts ∙ rw (long, e) refl

-- nor where there is at most one byte
pub none_short : (list : List ℕ) → length list ≤ 1 → HoldsNone list
unfolding records head_form read bind
none_short [] few = refl
none_short (byte ∷ []) few = elim (cases_eq byte set) [
  | inl is ↦ (let e : eqb byte set ≡ true = eq-eqb byte set is in rw e refl)
  | inr closed ↦ none_shut (byte ∷ []) (record { gate = byte; rest = []; closed = closed; parts = refl })
]
none_short (a ∷ b ∷ list) few = absurd (omega arith)

-- a write of the first gate may tear to any byte, and still there is no journal
pub none_torn : (old new : List ℕ) → (gate_of old ≡ Shut → ⊥) → HoldsNone old → PartlyWritten 0 1 old new → HoldsNone new
none_torn [] new not_shut none torn = none_short new (omega (arith, torn.no_longer))
none_torn (byte ∷ rest) new not_shut none torn =
    let behind : drop 1 new ≡ rest = same_back 0 1 1 (byte ∷ rest) new torn (omega arith) (omega arith) in
    let first = get_or new 0 0 in
    let whole : new ≡ first ∷ rest = drop_more new 0 0 (omega (arith, torn.no_shorter)) ∙ ap (λ (t : List ℕ). first ∷ t) behind in
    elim (cases_eq first set) [
      | inr closed ↦ none_shut new (record { gate = first; rest = rest; closed = closed; parts = whole })
      | inl opens ↦ elim (cases_eq byte set) [
        | inl was ↦ ap records (whole ∙ (λ i. (opens ∙ sym was) i ∷ rest)) ∙ none
        | inr was_closed ↦ (let e : eqb byte set ≡ false = ne_eqb byte set was_closed in absurd (not_shut (rw e refl)))
      ]
    ]

pub read_bytes : (r : Option (List ℕ)) (P Q : List ℕ → Type 0) → IsSome r → IfSome r P → IfSome r Q → (bytes : List ℕ) × (r ≡ Some bytes) × P bytes × Q bytes
read_bytes None P Q some p q = absurd cc
read_bytes (Some bytes) P Q some p q = (bytes, refl, p, q)

-- a closed first gate, and nothing pending
pub gate_there : (gate : Gate) (bytes : List ℕ) → gate ≡ gate_of bytes → gate ≡ Shut → IsShut [] bytes
gate_there gate [] is shut = absurd (cc (is, shut))
gate_there gate (byte ∷ rest) is shut = record {
  gate = byte;
  rest = rest;
  closed = λ opens. let e : eqb byte set ≡ true = eq-eqb byte set opens in absurd (let no : gate ≡ Set = is ∙ rw e refl in cc (no, shut));
  parts = refl;
}

module _ (gate : Gate) (old : Moment) (law : IsMoment old) (told : IsTold old) (quiet : IsSynced old) (vacant : IfSome old.reads (IsVacant gate)) where
  -- what is read
  pub record IsThere : Type 0 where
    pub bytes : List ℕ
    pub reads : old.reads ≡ Some bytes
    pub only : EachIs bytes old.images
    pub is_vacant : IsVacant gate bytes

  pub there : IsThere
  there = let r = read_bytes old.reads (λ b. EachIs b old.images) (IsVacant gate) told quiet vacant in record { bytes = r.0; reads = r.1; only = r.2; is_vacant = r.3 }

  pub none_now : Among HoldsNone old.images
  none_now image left = ap records (there.only image left) ∙ there.is_vacant.none

  pub has_first_gate : gate ≡ Shut → HasGate [] old
  has_first_gate shut = record { told = told; shut = λ image left. subst (IsShut []) (sym (there.only image left)) (gate_there gate there.bytes there.is_vacant.is shut) }

  -- while the first gate is being closed
  pub none_while : (gate ≡ Shut → ⊥) → Among HoldsNone (PartlyWrittenFrom 0 1 old)
  none_while not_shut image torn =
      none_torn torn.0 image (λ shut. not_shut (there.is_vacant.is ∙ ap gate_of (sym (there.only torn.0 torn.1)) ∙ shut)) (none_now torn.0 torn.1) torn.2

-- a closed gate was written
pub gate_written : (old new : Moment) → IsMoment old → IsTold old → Puts 0 (0 ∷ []) old new → HasGate [] new
gate_written old new law told puts =
    let r = read_of old.reads new.reads old.images 0 (0 ∷ []) told law.reads puts.reads in
    let s = settles 0 (0 ∷ []) _ old new puts r.now in
    record {
      told = subst IsSome (sym s.reads) refl;
      shut = λ image left. record { gate = 0; rest = drop 1 r.was; closed = λ is. absurd (omega (arith, is)); parts = s.only image left };
    }

-- the new journal stands where its head was opened
pub opened_new : (c : Contents) (list : List ℕ) → c.blocks ≡ [] → IsOpened [] (head_body c.profile c.bits c.genesis ++ 0 ∷ []) list → IsShut (front c) list
opened_new c list none opened =
    let whole : front c ≡ set ∷ head_body c.profile c.bits c.genesis = ap (λ (b : List (List ℕ)). front (contents c.profile c.bits c.genesis b)) none ∙ append-nil (set ∷ head_body c.profile c.bits c.genesis) in
    record {
      gate = 0;
      rest = opened.rest;
      closed = λ is. absurd (omega (arith, is));
      parts = opened.parts ∙ ap (λ (t : List ℕ). set ∷ t) (append_assoc (head_body c.profile c.bits c.genesis) (0 ∷ []) opened.rest) ∙ ap (λ (t : List ℕ). t ++ 0 ∷ opened.rest) (sym whole);
    }

module _ (profile : Profile) (bits : ℕ) (genesis : List ℕ) (small : bits ≤ 64) (block : is_block true genesis ≡ true) where
  abbrev pub new_contents : Contents
  new_contents = contents profile bits genesis []

  pub new_are : AreContents new_contents
  new_are = record { bits = small; genesis = block; few = omega arith; records = tt }

  pub none_or_new : (list : List ℕ) → IsShutOrOpened [] (head_body profile bits genesis ++ 0 ∷ []) list → HoldsNoneOrNew new_contents list
  none_or_new list (inl shut) = inl (none_shut list shut)
  none_or_new list (inr opened) = inr (found_front new_contents list new_are (opened_new new_contents list refl opened))

  pub new_stands : (m : Moment) → HasOpened [] (head_body profile bits genesis ++ 0 ∷ []) m → Stands (writer profile bits 0 (length (front new_contents)) false) new_contents m
  new_stands m opened =
      let found : records opened.bytes ≡ Found new_contents = found_front new_contents opened.bytes new_are (opened_new new_contents opened.bytes refl opened.opened) in
      record {
        told = subst IsSome (sym opened.settled.reads) refl;
        holds = λ image left. ap records (opened.settled.only image left) ∙ found;
        profile = refl;
        bits = refl;
        count = refl;
        gate = refl;
      }

pub front_size : (profile : Profile) (bits : ℕ) (genesis : List ℕ) → length (front (contents profile bits genesis [])) ≡ length genesis + 14
front_size profile bits genesis = ap length (append-nil (head_text (head_of profile bits genesis))) ∙ head_size (head_of profile bits genesis) ∙ omega arith

-- a journal is created: first its gate is closed, and then opened over the head
module _ (profile : Profile) (bits : ℕ) (genesis body : List ℕ) (small : bits ≤ 64) (block : is_block true genesis ≡ true) (filled : body ≡ head_body profile bits genesis ++ 0 ∷ []) where
  pub create_moments : (old mid new : Moment) → Leaves old mid HoldsNone → Leaves mid new (IsShutOrOpened [] body) → Leaves old new (HoldsNoneOrNew (contents profile bits genesis []))
  create_moments old mid new first second =
      joined old mid new HoldsNone (IsShutOrOpened [] (head_body profile bits genesis ++ 0 ∷ [])) (HoldsNoneOrNew (contents profile bits genesis [])) first
      (subst (λ (b : List ℕ). Leaves mid new (IsShutOrOpened [] b)) filled second) (λ image none. inl none) (none_or_new profile bits genesis small block)

  pub create_stands : (slice : List ℕ) (new : Moment) → slice ≡ genesis → HasOpened [] body new → Stands (writer profile bits 0 (length slice + 14) false) (contents profile bits genesis []) new
  create_stands slice new copied opened =
      let gate : length (front (contents profile bits genesis [])) ≡ length slice + 14 = omega (arith, front_size profile bits genesis, ap length copied) in
      subst (λ (n : ℕ). Stands (writer profile bits 0 n false) (contents profile bits genesis []) new) gate
      (new_stands profile bits genesis small block new (subst (λ (b : List ℕ). HasOpened [] b new) filled opened))
