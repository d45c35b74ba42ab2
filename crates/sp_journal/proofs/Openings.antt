-- The opening of a gate over a body, step by step.
use Rattle.std.proofs.Common.{◌≡◌, inl, ℕ, ◌+◌, ◌<◌, ◌≤◌, List, [], ◌∷◌, ◌++◌, length, drop, Option, Some, None, Err, refl, sym, ap, ◌∙◌, subst, arith, length-append}
use Rattle.std.proofs.lemmas.List.{length-take}
use Rattle.std.specs.Prelude.{◌≢◌, IfSome, IsSome, take}
use Rattle.sp_disk.specs.Images.{Among, EachIs, PartlyWritten, written}
use Rattle.sp_disk.specs.Moments.{IsMoment, Leaves, Moment, Reads, PartlyWrittenFrom}
use Rattle.sp_disk.proofs.Runs.{joined, weaker}
use Rattle.sp_journal.specs.Format.{set}
use Rattle.sp_journal.specs.Gates.{IsShut, IsShutOrOpened}
use Rattle.sp_journal.specs.Opening.{IsPlain, Judges}
use Rattle.sp_journal.specs.declared.fault.JournalFault.{JournalFault}
use Rattle.sp_journal.specs.declared.fault.JournalFault.TheVariants.{Damaged, DiskFault, Memory, NotJournal}
use Rattle.sp_journal.specs.Settled.{HasGate, HasOpened, IsSettled, IsTold, Puts}
use Rattle.sp_journal.proofs.GateLaws.{torn_behind, torn_gate, written_behind, written_gate}

-- the place behind one within the bytes is within them, or their end
pub next_place : (p : ℕ) (r : Option (List ℕ)) → IfSome r (λ b. p < length b) → IfSome r (λ b. p + 1 ≤ length b)
next_place p None place = tt
next_place p (Some b) place = omega arith

-- after a write no place up to its end is behind the end of what is read
pub place_stays : (at p : ℕ) (bytes : List ℕ) (before after : Option (List ℕ)) → p ≤ at + length bytes → IfSome before (λ b. at ≤ length b) → Reads (λ b now. now ≡ written b at bytes) before after → IfSome after (λ b. p ≤ length b)
place_stays at p bytes None after low place reads = subst (λ (o : Option (List ℕ)). IfSome o (λ b. p ≤ length b)) (sym reads) tt
place_stays at p bytes (Some b) after low place reads =
    let long : p ≤ length (written b at bytes) = omega (arith, low, place, length-append (take at b) (bytes ++ drop (at + length bytes) b), length-append bytes (drop (at + length bytes) b), length-take at b) in
    subst (λ (o : Option (List ℕ)). IfSome o (λ b. p ≤ length b)) (sym (reads.1 ∙ (λ i. Some (reads.2 i)))) long

pub record IsRead (before after : Option (List ℕ)) (images : List ℕ → Type 0) (at : ℕ) (bytes : List ℕ) : Type 0 where
  pub was : List ℕ
  pub image : images was
  pub known : before ≡ Some was
  pub now : after ≡ Some (written was at bytes)

pub read_of : (before after : Option (List ℕ)) (images : List ℕ → Type 0) (at : ℕ) (bytes : List ℕ) → IsSome before → IfSome before images → Reads (λ b now. now ≡ written b at bytes) before after → IsRead before after images at bytes
read_of None after images at bytes some law reads = absurd cc
read_of (Some was) after images at bytes some law reads = record { was = was; image = law; known = refl; now = reads.1 ∙ (λ i. Some (reads.2 i)) }

pub settles : (at : ℕ) (bytes now : List ℕ) (old new : Moment) → Puts at bytes old new → new.reads ≡ Some now → IsSettled now new
settles at bytes now old new puts known = record { reads = known; only = subst (λ (o : Option (List ℕ)). IfSome o (λ b. EachIs b new.images)) known puts.only }

module _ (front body : List ℕ) (gate : ℕ) (size : length front ≡ gate) (old : Moment) (law : IsMoment old) (has : HasGate front old) where
  -- the body is being written behind the gate
  pub behind : (n : ℕ) → Among (IsShut front) (PartlyWrittenFrom (gate + 1) n old)
  behind n image torn = torn_behind front n torn.0 image (has.shut torn.0 torn.1) (subst (λ (g : ℕ). PartlyWritten (g + 1) n torn.0 image) (sym size) torn.2)

  pub first_moments : (mid : Moment) → Leaves old mid (PartlyWrittenFrom (gate + 1) (length body) old) → Leaves old mid (IsShutOrOpened front body)
  first_moments mid run = weaker old mid (PartlyWrittenFrom (gate + 1) (length body) old) (IsShutOrOpened front body) run (λ image torn. inl (behind (length body) image torn))

  module _ (mid : Moment) (puts : Puts (gate + 1) body old mid) where
    -- the body stands behind the closed gate
    pub record IsStaged : Type 0 where
      pub closed : ℕ
      pub is_closed : closed ≢ set
      pub rest : List ℕ
      pub settled : IsSettled (front ++ closed ∷ (body ++ rest)) mid

    pub staged : IsStaged
    staged =
        let r = read_of old.reads mid.reads old.images (gate + 1) body has.told law.reads puts.reads in
        let shut = has.shut r.was r.image in
        let is : written r.was (gate + 1) body ≡ front ++ shut.gate ∷ (body ++ drop (length front + 1 + length body) r.was) =
        ap (λ (g : ℕ). written r.was (g + 1) body) (sym size) ∙ written_behind front body r.was shut in
        record { closed = shut.gate; is_closed = shut.closed; rest = drop (length front + 1 + length body) r.was; settled = settles (gate + 1) body _ old mid puts (r.now ∙ (λ i. Some (is i))) }

    pub at_gate : Among (IsShutOrOpened front body) (PartlyWrittenFrom gate 1 mid)
    at_gate image torn =
        let from = staged.settled.only torn.0 torn.1 in
        torn_gate front staged.closed body staged.rest image
        (subst (λ (b : List ℕ). PartlyWritten (length front) 1 b image) from (subst (λ (g : ℕ). PartlyWritten g 1 torn.0 image) (sym size) torn.2))

    pub second_moments : (new : Moment) → Leaves old mid (PartlyWrittenFrom (gate + 1) (length body) old) → Leaves mid new (PartlyWrittenFrom gate 1 mid) → Leaves old new (IsShutOrOpened front body)
    second_moments new one two =
        joined old mid new (PartlyWrittenFrom (gate + 1) (length body) old) (PartlyWrittenFrom gate 1 mid) (IsShutOrOpened front body) one two (λ image torn. inl (behind (length body) image torn)) at_gate

    pub opened : (new : Moment) → IsMoment mid → Puts gate (set ∷ []) mid new → HasOpened front body new
    opened new mid_law second =
        let s = staged in
        let told : IsTold mid = subst IsSome (sym s.settled.reads) refl in
        let r = read_of mid.reads new.reads mid.images gate (set ∷ []) told mid_law.reads second.reads in
        let was : r.was ≡ front ++ s.closed ∷ (body ++ s.rest) = s.settled.only r.was r.image in
        let now : written r.was gate (set ∷ []) ≡ front ++ set ∷ (body ++ s.rest) =
        ap (λ (b : List ℕ). written b gate (set ∷ [])) was ∙ ap (λ (g : ℕ). written (front ++ s.closed ∷ (body ++ s.rest)) g (set ∷ [])) (sym size) ∙ written_gate front s.closed body s.rest in
        record {
          bytes = front ++ set ∷ (body ++ s.rest);
          opened = record { rest = s.rest; parts = refl };
          settled = settles gate (set ∷ []) _ mid new second (r.now ∙ (λ i. Some (now i)));
        }

-- such a fault may come whatever the bytes are
pub plain_judges : (r : Option (List ℕ)) (fault : JournalFault) → IsPlain fault → IfSome r (λ bytes. Judges bytes (Err fault))
plain_judges None fault plain = tt
plain_judges (Some bytes) (NotJournal gate) plain = absurd plain
plain_judges (Some bytes) (Damaged at) plain = absurd plain
plain_judges (Some bytes) DiskFault plain = tt
plain_judges (Some bytes) Memory plain = tt
