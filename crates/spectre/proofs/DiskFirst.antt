-- What the disk holds is looked at first: where it is at fault, the run ends by that.
use Rattle.std.proofs.Common.{◌≡◌, ◌⊎◌, inl, inr, ℕ, Bool, true, false, List, Option, Some, None, IfSome, Ok, sym, subst, ◌∙◌}
use Rattle.sp_journal.specs.Creation.{HoldsJournal}
use Rattle.sp_journal.specs.Records.{Damaged, Found, NoJournal, Records, records}
use Rattle.sp_node.specs.Stored.{Tells}
use Rattle.sp_node.specs.declared.stored.Stored.{Stored}
use Rattle.sp_node.specs.declared.stored.Stored.TheVariants as stores
use Rattle.spectre.specs.Ends.{EndsByDisk, Shows}
use Rattle.spectre.specs.Journals.{HasNoJournal, IsDamagedDisk}
use Rattle.spectre.specs.Output.{OnDisk}
use Rattle.spectre.specs.RunOf.{EndsAtDisk}
use Rattle.spectre.specs.declared.job.Job.{Job}
use Rattle.spectre.specs.declared.status.Status.{Status}
use Rattle.spectre.specs.declared.status.Status.TheVariants as status
use Rattle.spectre.proofs.TopCall.{on_all, on_status}

differ : {r : Records} (s t : Records) → r ≡ s → r ≡ t → s ≡ t
differ s t a b = sym a ∙ b

no_damage : {at : ℕ} → Damaged at ≡ NoJournal → ⊥
no_damage e = cc

no_finding : {c : _} → NoJournal ≡ Found c → ⊥
no_finding e = cc

no_find : {at : ℕ} {c : _} → Damaged at ≡ Found c → ⊥
no_find e = cc

not_both : (b : Bool) → b ≡ false → b ≡ true → ⊥
not_both true f t = cc
not_both false f t = cc

-- what was told to be stored isn't at fault
pub stored_right : (fresh : Bool) (stored : Stored) (bytes : List ℕ) → Tells fresh bytes (Ok stored) → HasNoJournal fresh bytes ⊎ IsDamagedDisk bytes → ⊥
stored_right fresh (stores.Empty gate) bytes (vacant, inl none) (inl h) = h.some none
stored_right fresh (stores.Empty gate) bytes (vacant, inr new) (inl h) = not_both fresh h.old new
stored_right fresh (stores.Empty gate) bytes (vacant, new) (inr h) = no_damage (differ (Damaged h.0) NoJournal h.1 vacant.none)
stored_right fresh (stores.Found opened) bytes found (inl h) = no_finding (differ NoJournal (Found _) h.none found)
stored_right fresh (stores.Found opened) bytes found (inr h) = no_find (differ (Damaged h.0) (Found _) h.1 found)

pub stored_first : (fresh : Bool) (stored : Stored) (reads : Option (List ℕ)) (Q : Type 0) → IfSome reads (λ bytes. Tells fresh bytes (Ok stored)) → IfSome reads (λ bytes. HasNoJournal fresh bytes ⊎ IsDamagedDisk bytes → Q)
stored_first fresh stored None Q t = tt
stored_first fresh stored (Some bytes) Q t = λ fault. absurd (stored_right fresh stored bytes t fault)

-- a journal that is shown isn't at fault
shown_right : (bytes : List ℕ) → HoldsJournal bytes → (records bytes ≡ NoJournal) ⊎ IsDamagedDisk bytes → ⊥
shown_right bytes (c, found) (inl none) = no_finding (differ NoJournal (Found c) none found)
shown_right bytes (c, found) (inr h) = no_find (differ (Damaged h.0) (Found c) h.1 found)

pub shown_first : (s : Status) (reads : Option (List ℕ)) {Q : Type 0} → Shows s → (s ≡ status.Done → IfSome reads HoldsJournal) → Q → IfSome reads (λ bytes. (records bytes ≡ NoJournal) ⊎ IsDamagedDisk bytes → EndsByDisk s × Q)
shown_first s None among done q = tt
shown_first s (Some bytes) {Q} among done q = λ fault. (
  on_status (λ t. Shows t → EndsByDisk t) s
      (λ e. absurd (shown_right bytes (done e) fault)) (λ e x. x) (λ e x. x) (λ e x. x) (λ e x. x) (λ e x. tt)
      (λ e x. tt) (λ e x. tt) (λ e x. x) (λ e x. tt) (λ e x. tt) (λ e x. x) (λ e x. x) (λ e x. x) (λ e x. x) (λ e x. x) among,
  q,
)

pub shown_journal : (P : List ℕ → Type 0) (reads : Option (List ℕ)) → IfSome reads (λ bytes. P bytes × HoldsJournal bytes) → IfSome reads HoldsJournal
shown_journal P None h = tt
shown_journal P (Some bytes) h = h.1

-- a job without a file has no fault of a disk
pub no_fault : {X : Type 0} → ⊥ ⊎ ⊥ → X
no_fault (inl h) = absurd h
no_fault (inr h) = absurd h

-- what holds of a job holds of the words that ask for it
pub first_of : (asked job : Option Job) (reads : Option (List ℕ)) (Q : Type 0) → asked ≡ job → OnDisk job reads (λ bytes. EndsAtDisk job bytes → Q) → OnDisk asked reads (λ bytes. EndsAtDisk asked bytes → Q)
first_of asked job reads Q e h = subst (λ (j : Option Job). OnDisk j reads (λ bytes. EndsAtDisk j bytes → Q)) (sym e) h

-- memory was refused before anything was asked
pub refused_first : (job : Option Job) (reads : Option (List ℕ)) (Q : Type 0) → Q → OnDisk job reads (λ bytes. EndsAtDisk job bytes → EndsByDisk status.Memory × Q)
refused_first job reads Q q = on_all job reads (λ bytes. EndsAtDisk job bytes → EndsByDisk status.Memory × Q) (λ bytes fault. (tt, q))
