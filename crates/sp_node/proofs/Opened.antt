-- The opening of a disk before a node starts on it.
use Rattle.std.proofs.Common.{◌≡◌, ◌≢◌, inl, inr, ℕ, Bool, true, false, List, [], ◌∷◌, length, Option, Result, Ok, Err, refl, sym, subst, ◌∙◌, arith}
use Rattle.std.specs.Prelude.{IfOk, IfSome}
use Rattle.sp_disk.specs.Moments.{Looks, Moment}
use Rattle.sp_journal.specs.Creation.{IsSynced, IsVacant}
use Rattle.sp_journal.specs.Opening.{contents_in, Judges, Opening}
use Rattle.sp_journal.specs.Settled.{IsTold}
use Rattle.sp_journal.specs.Writer.{Stands}
use Rattle.sp_journal.specs.declared.fault.JournalFault.{JournalFault}
use Rattle.sp_journal.specs.declared.fault.JournalFault.TheVariants.{NotJournal, Damaged, DiskFault, Memory}
use Rattle.sp_journal.specs.declared.gate_kind.Gate.TheVariants.{Missing}
use Rattle.sp_journal.proofs.Telling.{looks_told}
use Rattle.sp_journal.proofs.Vacant.{none_short}
use Rattle.sp_journal.proofs.Windows.{if_some, if_some2}
use Rattle.sp_node.specs.Stored.{IsAnew, IsReady, Tells}
use Rattle.sp_node.specs.declared.stored.Stored.{Stored}
use Rattle.sp_node.specs.declared.stored.Stored.TheVariants.{Empty, Found}

empty_vacant : (bytes : List ℕ) → length bytes ≡ 0 → IsVacant Missing bytes
empty_vacant [] none = record { none = none_short [] (omega arith); is = refl }
empty_vacant (b ∷ bytes) none = absurd (omega (arith, none))

-- an empty disk
pub empty_tells : (fresh : Bool) (n : ℕ) (r : Option (List ℕ)) → IfSome r (λ bytes. n ≡ length bytes) → n ≡ 0 → IfSome r (λ bytes. Tells fresh bytes (Ok (Empty Missing)))
empty_tells fresh n r size none = if_some (λ bytes. n ≡ length bytes) (λ bytes. Tells fresh bytes (Ok (Empty Missing))) r (λ bytes e is. (empty_vacant bytes (sym is ∙ none), inl (sym is ∙ none))) size

pub empty_ready : (n : ℕ) (old new : Moment) → IfSome old.reads (λ bytes. n ≡ length bytes) → n ≡ 0 → Looks old new → IsReady (Empty Missing) new
empty_ready n old new size none looks = (
  subst (λ (o : Option (List ℕ)). IfSome o (IsVacant Missing)) (sym looks.reads) (if_some (λ bytes. n ≡ length bytes) (IsVacant Missing) old.reads (λ bytes e is. empty_vacant bytes (sym is ∙ none)) size),
  λ shut. absurd cc,
)

-- a journal was found
pub found_ready : (o : Opening) (mid new : Moment) → Looks mid new → (IsTold mid → Stands o.journal (contents_in o) new) → IsReady (Found o) new
found_ready o mid new looks stands = λ is. stands ((looks_told mid new looks).1 is)

-- none was found
anew_says : (fresh : Bool) (bytes : List ℕ) (fault : JournalFault) (result : Result Stored JournalFault) → length bytes ≢ 0 → Judges bytes (Err fault) → IsAnew fault fresh result → Tells fresh bytes result
anew_says true bytes (NotJournal gate) result long judged is = subst (Tells true bytes) (sym is) (judged, inr refl)
anew_says false bytes (NotJournal gate) result long judged is = subst (Tells false bytes) (sym is) (judged, long, refl)
anew_says fresh bytes (Damaged at) result long judged is = subst (Tells fresh bytes) (sym is) judged
anew_says fresh bytes DiskFault result long judged is = subst (Tells fresh bytes) (sym is) tt
anew_says fresh bytes Memory result long judged is = subst (Tells fresh bytes) (sym is) tt

pub anew_tells : (fresh : Bool) (n : ℕ) (r : Option (List ℕ)) (fault : JournalFault) (result : Result Stored JournalFault) → IfSome r (λ bytes. n ≡ length bytes) → (n ≡ 0 → ⊥) → IfSome r (λ bytes. Judges bytes (Err fault)) → IsAnew fault fresh result → IfSome r (λ bytes. Tells fresh bytes result)
anew_tells fresh n r fault result size some judged is = if_some2 (λ bytes. n ≡ length bytes) (λ bytes. Judges bytes (Err fault)) (λ bytes. Tells fresh bytes result) r (λ bytes e j. anew_says fresh bytes fault result (λ none. some (e ∙ none)) j is) size judged

pub anew_ready : (fresh : Bool) (fault : JournalFault) (result : Result Stored JournalFault) (mid new : Moment) → Looks mid new → IfSome mid.reads (λ bytes. Judges bytes (Err fault)) → ((fault ≡ DiskFault → ⊥) → IsSynced new) → IsAnew fault fresh result → IfOk result (λ stored. IsReady stored new)
anew_ready true (NotJournal gate) result mid new looks judged quiet is =
    let ready : IsReady (Empty gate) new = (subst (λ (o : Option (List ℕ)). IfSome o (IsVacant gate)) (sym looks.reads) judged, λ shut. quiet (λ e. cc)) in
    subst (λ (r : Result Stored JournalFault). IfOk r (λ stored. IsReady stored new)) (sym is) ready
anew_ready false (NotJournal gate) result mid new looks judged quiet is = subst (λ (r : Result Stored JournalFault). IfOk r (λ stored. IsReady stored new)) (sym is) tt
anew_ready fresh (Damaged at) result mid new looks judged quiet is = subst (λ (r : Result Stored JournalFault). IfOk r (λ stored. IsReady stored new)) (sym is) tt
anew_ready fresh DiskFault result mid new looks judged quiet is = subst (λ (r : Result Stored JournalFault). IfOk r (λ stored. IsReady stored new)) (sym is) tt
anew_ready fresh Memory result mid new looks judged quiet is = subst (λ (r : Result Stored JournalFault). IfOk r (λ stored. IsReady stored new)) (sym is) tt
