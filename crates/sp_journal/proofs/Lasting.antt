-- Once a crash can leave nothing but a journal, it leaves one at each later moment of a creation.
use Rattle.std.proofs.Common.{◌≡◌, inl, inr, ℕ, ◌+◌, ◌≤◌, true, List, [], ◌∷◌, ◌++◌, length, Option, Some, None, refl, sym, ap, subst, ◌∙◌}
use Rattle.std.proofs.lemmas.List.{append_cancel_left}
use Rattle.std.specs.Prelude.{get_or, IfSome}
use Rattle.sp_disk.specs.Moments.{Ebbs, IsMoment, Lasts, Leaves, Moment}
use Rattle.sp_disk.proofs.Lasting.{alike_last, joined_last, moves_last}
use Rattle.sp_journal.specs.Creation.{HoldsJournal, HoldsNone, IsVacant}
use Rattle.sp_journal.specs.Format.{set}
use Rattle.sp_journal.specs.Gates.{IsOpened, IsShut, IsShutOrOpened}
use Rattle.sp_journal.specs.Journal.{head_body}
use Rattle.sp_model.specs.declared.profile.Profile.{Profile}
use Rattle.sp_block.specs.Judged.{is_block}
use Rattle.sp_journal.specs.Settled.{HasGate, IsTold, Puts}
use Rattle.sp_journal.specs.declared.gate_kind.Gate.{Gate}
use Rattle.sp_journal.proofs.Openings.{staged}
use Rattle.sp_journal.proofs.Vacant.{new_are, new_contents, none_shut, opened_new, read_bytes}
use Rattle.sp_journal.proofs.RecordLaws.{found_front}

-- where there is no journal, none is held
none_held : (list : List ℕ) → HoldsNone list → HoldsJournal list → ⊥
none_held list none held = let no = sym none ∙ held.1 in cc no

-- a closed gate isn't open
shut_opened : (front body list : List ℕ) → IsShut front list → IsOpened front body list → ⊥
shut_opened front body list shut opened =
    let same : shut.gate ∷ shut.rest ≡ set ∷ (body ++ opened.rest) = append_cancel_left front _ _ (sym shut.parts ∙ opened.parts) in
    shut.closed (ap (λ (l : List ℕ). get_or l 0 0) same)

-- the first gate is being closed
pub close_lasts : (gate : Gate) (old new : Moment) → IsMoment old → IsMoment new → IsTold old → IfSome old.reads (IsVacant gate) → Ebbs old new → Lasts old new HoldsJournal
close_lasts gate old new law new_law told vacant ebbs =
    let r = read_bytes old.reads old.images (IsVacant gate) told law.reads vacant in
    moves_last old new HoldsJournal r.0 law new_law r.1 (none_held r.0 r.3.none) ebbs

module _ (front body : List ℕ) (gate : ℕ) (size : length front ≡ gate) (old : Moment) (law : IsMoment old) (has : HasGate front old) where
  -- a body is being written behind a closed gate
  pub body_lasts : (mid : Moment) → IsMoment mid → Ebbs old mid → Lasts old mid (IsOpened front body)
  body_lasts mid mid_law ebbs =
      let r = read_bytes old.reads old.images (λ (b : List ℕ). Unit {0}) has.told law.reads (any old.reads) in
      moves_last old mid (IsOpened front body) r.0 law mid_law r.1 (shut_opened front body r.0 (has.shut r.0 r.2)) ebbs
    where
      any : (o : Option (List ℕ)) → IfSome o (λ (b : List ℕ). Unit {0})
      any (Some b) = tt
      any None = tt

  -- and then the gate is being opened
  pub gate_lasts : (mid new : Moment) → IsMoment mid → IsMoment new → Puts (gate + 1) body old mid → Ebbs old mid → Ebbs mid new → Lasts old new (IsOpened front body)
  gate_lasts mid new mid_law new_law puts first second =
      let s = staged front body gate size old law has mid puts in
      let shut : IsShut front (front ++ s.closed ∷ (body ++ s.rest)) = record { gate = s.closed; rest = body ++ s.rest; closed = s.is_closed; parts = refl } in
      joined_last old mid new (IsOpened front body) mid_law new_law (body_lasts mid mid_law first)
      (moves_last mid new (IsOpened front body) (front ++ s.closed ∷ (body ++ s.rest)) mid_law new_law s.settled.reads (shut_opened front body _ shut) second)

-- a journal is created: its gate is closed, and then opened over the head
module _ (profile : Profile) (bits : ℕ) (genesis body : List ℕ) (small : bits ≤ 64) (block : is_block true genesis ≡ true) (filled : body ≡ head_body profile bits genesis ++ 0 ∷ []) where
  opened_holds : (image : List ℕ) → IsShutOrOpened [] (head_body profile bits genesis ++ 0 ∷ []) image → (IsOpened [] (head_body profile bits genesis ++ 0 ∷ []) image → HoldsJournal image) × (HoldsJournal image → IsOpened [] (head_body profile bits genesis ++ 0 ∷ []) image)
  opened_holds image (inl shut) = (λ opened. absurd (shut_opened [] _ image shut opened), λ held. absurd (none_held image (none_shut image shut) held))
  opened_holds image (inr opened) = (λ o. (new_contents profile bits genesis small block, found_front (new_contents profile bits genesis small block) image (new_are profile bits genesis small block) (opened_new (new_contents profile bits genesis small block) image refl opened)), λ held. opened)

  pub create_lasts : (old mid new : Moment) → IsMoment mid → IsMoment new → Lasts old mid HoldsJournal → Leaves mid new (IsShutOrOpened [] body) → Lasts mid new (IsOpened [] body) → Lasts old new HoldsJournal
  create_lasts old mid new mid_law new_law first run second =
      joined_last old mid new HoldsJournal mid_law new_law first
      (alike_last mid new (IsOpened [] (head_body profile bits genesis ++ 0 ∷ [])) HoldsJournal (IsShutOrOpened [] (head_body profile bits genesis ++ 0 ∷ [])) new_law
      (subst (λ (b : List ℕ). Leaves mid new (IsShutOrOpened [] b)) filled run) opened_holds
      (subst (λ (b : List ℕ). Lasts mid new (IsOpened [] b)) filled second))
