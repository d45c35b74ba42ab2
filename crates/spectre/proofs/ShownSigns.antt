-- What `check` shows is so: what bytes say is a certificate, and one that nothing refuses shows its sign.
use Rattle.std.proofs.Common.{◌≡◌, ℕ, List, Option, Some, None, IfSome, refl, subst}
use Rattle.std.specs.Io.KnownBytes.{Appends}
use Rattle.sp_cert.specs.Certificate.{Certificate, IsCertificate}
use Rattle.sp_cert.specs.Format.{Malformed, Said, said, Truncated, Whole}
use Rattle.sp_cert.specs.declared.fault.CheckFault.{CheckFault}
use Rattle.std.proofs.lemmas.List.{append-nil}
use Rattle.sp_cert.specs.Refusals.{IsShown, refusal}
use Rattle.spectre.specs.Certificates.{ShowsSign}
use Rattle.spectre.specs.Checks.{shown_text}
use Rattle.spectre.specs.Run.{Ended, run_status, run_text}
use Rattle.spectre.specs.RunOf.{check_run, judged_run, OnRun, said_run}
use Rattle.spectre.specs.declared.status.Status.TheVariants as status
use Rattle.spectre.specs.Jobs.{IsCheck}
use Rattle.spectre.specs.declared.job.Job.{Job}
use Rattle.spectre.specs.declared.job.Job.TheVariants as jobs

-- the bytes say a certificate that nothing refuses, whose line is the text
said_done : (input : List ℕ) (s : Said) → said input ≡ s → status.Done ≡ run_status (said_run s) → (cert : Certificate) × (said input ≡ Whole cert) × (refusal cert ≡ None) × (run_text (said_run s) ≡ shown_text cert)
said_done input (Whole cert) says done = judged cert says (refusal cert) refl done
  where
    judged : (cert : Certificate) → said input ≡ Whole cert → (why : Option CheckFault) → refusal cert ≡ why → status.Done ≡ run_status (judged_run cert why) → (c : Certificate) × (said input ≡ Whole c) × (refusal c ≡ None) × (run_text (judged_run cert why) ≡ shown_text c)
    judged cert says None r done = (cert, says, r, append-nil (shown_text cert))
    judged cert says (Some why) r done = absurd cc
said_done input (Malformed at) says done = absurd cc
said_done input (Truncated at) says done = absurd cc

check_done : (input : List ℕ) → status.Done ≡ run_status (check_run input) → (cert : Certificate) × (said input ≡ Whole cert) × (refusal cert ≡ None) × (run_text (check_run input) ≡ shown_text cert)
unfolding check_run
check_done input done = said_done input (said input) refl done

module _ (old new : Option (List ℕ)) (reads_as : (bytes : List ℕ) (c : Certificate) → said bytes ≡ Whole c → IsCertificate c) (sound : (c : Certificate) → IsCertificate c → refusal c ≡ None → IsShown c) where
  shown_of : (input : List ℕ) → Ended (check_run input) status.Done old new → ShowsSign input old new
  shown_of input e =
      let d = check_done input e.status in record {
        cert = d.0;
        says = d.1;
        took = subst (λ (t : List ℕ). Appends old new t) d.3 e.took;
        shown = sound d.0 (reads_as input d.0 d.1) d.2;
      }

  on_input : (left : Option (List ℕ)) → IfSome left (λ input. Ended (check_run input) status.Done old new) → IfSome left (λ input. ShowsSign input old new)
  on_input None h = tt
  on_input (Some input) h = shown_of input h

-- where a check is done
pub shows_sign : (job : Option Job) (left reads old new : Option (List ℕ)) → IsCheck job → ((bytes : List ℕ) (c : Certificate) → said bytes ≡ Whole c → IsCertificate c) → ((c : Certificate) → IsCertificate c → refusal c ≡ None → IsShown c)
    → OnRun job left reads (λ run. Ended run status.Done old new) → IfSome left (λ input. ShowsSign input old new)
shows_sign (Some jobs.Check) left reads old new is reads_as sound h = on_input old new reads_as sound left h
shows_sign other left reads old new is reads_as sound h = absurd is
