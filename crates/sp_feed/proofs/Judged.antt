-- A field that was filled is read, whether it meets its rule or not.
use Rattle.std.proofs.Common.{◌≡◌, ℕ, Bool, true, false, List, [], ◌∷◌, length, Result, Ok, Err, refl}
use Rattle.sp_form.specs.Form.{bind, rule, whole}
use Rattle.sp_feed.specs.declared.fault.FeedFault.{FeedFault}
use Rattle.sp_feed.specs.declared.fault.FeedFault.TheVariants.{Malformed}
use Rattle.sp_feed.specs.Format.{broken}
use Rattle.sp_feed.specs.Reads.{Fills, Moment, Reads}
use Rattle.sp_feed.proofs.Joining.{reads_last, reads_stop}
use Rattle.sp_feed.proofs.Reading.{met, one_field, reads_faulty, reads_field, unmet}

pub reads_judged : {B : Type 0} {limit : ℕ} {old new : Moment} {out : List ℕ} {u : Unit {0}} (width : ℕ) (test : List ℕ → Bool) (make : List ℕ → B) → Fills limit old new out (Ok u) → length out ≡ width → (r : Result (List ℕ) FeedFault) × Reads limit old new make (bind (one_field width (λ bytes. rule (test bytes) broken ∷ []) (λ bytes. bytes)) (λ bytes. whole (make bytes))) r
reads_judged {B} {limit} {old} {new} {out} {u} width test make f e = at (test out) refl
  where
    at : (b : Bool) → test out ≡ b → (r : Result (List ℕ) FeedFault) × Reads limit old new make (bind (one_field width (λ bytes. rule (test bytes) broken ∷ []) (λ bytes. bytes)) (λ bytes. whole (make bytes))) r
    at true k = (Ok out, reads_last make out (reads_field width (λ bytes. rule (test bytes) broken ∷ []) (λ bytes. bytes) (λ (bytes : List ℕ). bytes) out f e (met (test out) k) refl) refl)
    at false k = (Err (Malformed old.taken), reads_stop _ (reads_faulty width (λ bytes. rule (test bytes) broken ∷ []) (λ bytes. bytes) (λ (bytes : List ℕ). bytes) broken f e (unmet (test out) k)))
