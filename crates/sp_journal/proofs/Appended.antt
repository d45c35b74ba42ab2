-- An append to a disk that stands for the journal.
use Rattle.std.proofs.Common.{◌≡◌, ℕ, ◌+◌, ◌<◌, true, false, List, [], ◌∷◌, length, Option, Some, None, Result, Ok, Err, refl, sym, ap, subst, ◌∙◌, arith, length-append}
use Rattle.std.specs.Prelude.{IfSome, IsSome, is_err, OnOk}
use Rattle.sp_ids.specs.Digest.{sha256_number}
use Rattle.sp_ids.specs.Bits.{BeginsWithZeros}
use Rattle.sp_block.specs.Block.{IsBlock, IsOther, parts_of, ReadBlock}
use Rattle.sp_disk.specs.Moments.{IsMoment, Leaves, Moment}
use Rattle.sp_disk.proofs.Runs.{weaker}
use Rattle.sp_journal.specs.Gates.{IsShutOrOpened}
use Rattle.sp_journal.specs.Journal.{AreContents, Contents, front, ids_of, record_body, record_text, with_block}
use Rattle.sp_block.specs.Judged.{is_block, meets}
use Rattle.sp_journal.specs.Judged.{has}
use Rattle.sp_journal.specs.Records.{Found, records}
use Rattle.sp_journal.specs.Settled.{HasGate, HasOpened, IsTold}
use Rattle.sp_journal.specs.Writer.{HoldsOrAdded, Stands, StandsFor, with_record, Writer, writer}
use Rattle.sp_journal.proofs.Added.{front_added, held_or_added, may_join, opened_added}
use Rattle.sp_journal.proofs.GateLaws.{length-shut}
use Rattle.sp_block.proofs.Judged.{meets_zeros, spelled_block}
use Rattle.sp_journal.proofs.RecordLaws.{found_front, front_found}

read_image : (r : Option (List ℕ)) (images : List ℕ → Type 0) → IsSome r → IfSome r images → (bytes : List ℕ) × (r ≡ Some bytes) × images bytes
read_image None images some law = absurd cc
read_image (Some bytes) images some law = (bytes, refl, law)

-- the closed gate is a place of the disk
pub gate_within : (w : Writer) (m : Moment) → IsMoment m → (IsTold m → StandsFor w m) → IfSome m.reads (λ bytes. w.gate < length bytes)
gate_within w m law stands = at m.reads refl
  where
    at : (r : Option (List ℕ)) → m.reads ≡ r → IfSome r (λ bytes. w.gate < length bytes)
    at None e = tt
    at (Some bytes) e =
        let s = stands (subst IsSome (sym e) refl) in
        let image : m.images bytes = subst (λ (r : Option (List ℕ)). IfSome r m.images) e law.reads in
        let h = front_found s.0 bytes (law.bytes bytes image) (s.1.holds bytes image) in
        omega (arith, s.1.gate, length-shut (front s.0) bytes h.shut)

module _ (w : Writer) (c : Contents) (old : Moment) (law : IsMoment old) (stands : Stands w c old) where
  pub has_gate : HasGate (front c) old
  has_gate = record { told = stands.told; shut = λ image left. (front_found c image (law.bytes image left) (stands.holds image left)).shut }

  pub are_contents : AreContents c
  are_contents = let r = read_image old.reads old.images stands.told law.reads in (front_found c r.0 (law.bytes r.0 r.2) (stands.holds r.0 r.2)).are

  module _ (bytes : List ℕ) (room : w.records < 511) (block : is_block false bytes ≡ true) (work : meets (sha256_number bytes) w.bits ≡ true) (fresh : has (ids_of c) (sha256_number bytes) ≡ false) where
    joins : AreContents (with_block c bytes)
    joins = may_join c bytes are_contents (omega (arith, room, stands.count)) block (ap (meets (sha256_number bytes)) (sym stands.bits) ∙ work) fresh

    pub any_moment : (new : Moment) → Leaves old new (IsShutOrOpened (front c) (record_body bytes)) → Leaves old new (HoldsOrAdded c bytes)
    any_moment new run = weaker old new (IsShutOrOpened (front c) (record_body bytes)) (HoldsOrAdded c bytes) run (λ image left. held_or_added c bytes image are_contents joins left)

    pub acknowledged : (new : Moment) → HasOpened (front c) (record_body bytes) new → Stands (with_record w bytes) (with_block c bytes) new
    acknowledged new opened =
        let all : records opened.bytes ≡ Found (with_block c bytes) = found_front (with_block c bytes) opened.bytes joins (opened_added c bytes opened.bytes opened.opened) in
        record {
          told = subst IsSome (sym opened.settled.reads) refl;
          holds = λ image left. ap records (opened.settled.only image left) ∙ all;
          profile = stands.profile;
          bits = stands.bits;
          count = omega (arith, stands.count, length-append c.blocks (bytes ∷ []));
          gate = omega (arith, stands.gate, ap length (front_added c bytes), length-append (front c) (record_text bytes));
        }

-- The same of a block as the call is given it, and of the gate and the body as it hands them on.
module _ (w : Writer) (block : ReadBlock) (is : IsBlock block) (other : IsOther block) (room : w.records < 511) (work : BeginsWithZeros block.id w.bits) where
  is_other : is_block false block.bytes ≡ true
  is_other = spelled_block false block.bytes (parts_of block) other

  meets_work : meets (sha256_number block.bytes) w.bits ≡ true
  meets_work = ap (λ (id : ℕ). meets id w.bits) (sym is.id) ∙ meets_zeros block.id w.bits work

  is_new : (c : Contents) → has (ids_of c) block.id ≡ false → has (ids_of c) (sha256_number block.bytes) ≡ false
  is_new c fresh = ap (has (ids_of c)) (sym is.id) ∙ fresh

  module _ (c : Contents) (old new : Moment) (law : IsMoment old) (stands : Stands w c old) (fresh : has (ids_of c) block.id ≡ false) (gate : ℕ) (body : List ℕ) (at : gate ≡ w.gate) (filled : body ≡ record_body block.bytes) where
    pub append_moments : ((front : List ℕ) → length front ≡ gate → HasGate front old → Leaves old new (IsShutOrOpened front body)) → Leaves old new (HoldsOrAdded c block.bytes)
    append_moments run =
        any_moment w c old law stands block.bytes room is_other meets_work (is_new c fresh) new
        (subst (λ (b : List ℕ). Leaves old new (IsShutOrOpened (front c) b)) filled (run (front c) (sym stands.gate ∙ sym at) (has_gate w c old law stands)))

    pub append_stands : ((front : List ℕ) → length front ≡ gate → HasGate front old → HasOpened front body new) → Stands (with_record w block.bytes) (with_block c block.bytes) new
    append_stands run =
        acknowledged w c old law stands block.bytes room is_other meets_work (is_new c fresh) new
        (subst (λ (b : List ℕ). HasOpened (front c) b new) filled (run (front c) (sym stands.gate ∙ sym at) (has_gate w c old law stands)))

-- an `Ok` by the test that it is no `Err`
pub by_test : {T E P : Type 0} (r : Result T E) → false ≡ is_err r → OnOk r P → P
by_test (Ok x) e h = h
by_test (Err f) e h = absurd cc

-- the journal's fields after a record
pub as_written : (v w : Writer) (bytes slice : List ℕ) → v ≡ w → slice ≡ bytes → with_record w bytes ≡ writer v.profile v.bits (v.records + 1) (v.gate + (5 + length slice)) v.closed
as_written v w bytes slice same copied =
    let back = sym same in
    let gate : w.gate + length (record_text bytes) ≡ v.gate + (5 + length slice) = omega (arith, ap (λ (u : Writer). u.gate) same, ap length copied) in
    λ i. writer (back i).profile (back i).bits ((back i).records + 1) (gate i) (back i).closed
