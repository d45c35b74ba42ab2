-- What a check comes to, by the input of a source that tells its bytes.
use Rattle.std.proofs.Common.{◌≡◌, ◌≢◌, ℕ, List, [], ◌++◌, Option, Some, IfSome, refl, ap, sym, subst, ◌∙◌}
use Rattle.std.specs.Io.KnownBytes.{Appends, Consumes, IsAtEnd}
use Rattle.std.proofs.lemmas.List.{append-nil}
use Rattle.sp_cert.specs.Certificate.{Certificate}
use Rattle.sp_cert.specs.Format.{Malformed, Said, said, Truncated, Whole}
use Rattle.sp_io.specs.Whole.{AppendsFront}
use Rattle.sp_io.proofs.Writing.{wrote_none}
use Rattle.sp_report.specs.Lines.{malformed_text, truncated_text}
use Rattle.spectre.specs.CheckEnds.{WritesVerdict}
use Rattle.spectre.specs.Checks.{said_text}
use Rattle.sp_cert.specs.declared.fault.CheckFault.{CheckFault}
use Rattle.spectre.specs.Run.{Ended, run_status, run_text}
use Rattle.spectre.specs.RunOf.{check_run, judged_run, said_run}
use Rattle.spectre.specs.JobEnds.{WritesBy}
use Rattle.spectre.specs.declared.job.Job.{Job}
use Rattle.spectre.specs.declared.job.Job.TheVariants as jobs
use Rattle.spectre.specs.declared.status.Status.{Status}
use Rattle.spectre.specs.declared.status.Status.TheVariants as status
use Rattle.spectre.proofs.Due.{with_input}
use Rattle.spectre.proofs.RunTexts.{said_by}
use Rattle.spectre.proofs.TopCall.{if_all}

abbrev job : Option Job
job = Some jobs.Check

-- a line was written, after which a run ends so, or the write failed
by_line : (P : Status → Type 0) (ends result : Status) → (result ≢ status.WriteFault → result ≡ ends) → (result ≢ status.WriteFault → P ends) → P status.WriteFault → P result
by_line P ends status.WriteFault same goes cut = cut
by_line P ends other same goes cut = subst P (sym (same (λ e. cc))) (goes (λ e. cc))

-- ---- by the input

-- the run is that of what the input says
check_is : (input : List ℕ) (s : Said) → said input ≡ s → check_run input ≡ said_run s
unfolding check_run
check_is input s says = ap said_run says

check_text : (input : List ℕ) (s : Said) → said input ≡ s → run_text (check_run input) ≡ said_text s
check_text input s says = ap run_text (check_is input s says) ∙ said_by s

module _ (before after old new : Option (List ℕ)) (given : List ℕ) (took : Consumes before after given) where
  -- what stands of the input, of which these bytes were given
  module _ (s : Said) (P : List ℕ → Type 0) (so : (input : List ℕ) → said input ≡ s → P input) where
    -- whatever follows them
    in_front : ((more : List ℕ) → said (given ++ more) ≡ s) → IfSome before P
    in_front says = with_input P before after given took (λ rest e. so (given ++ rest) (says rest))

    -- with nothing behind them
    at_end : IsAtEnd after → said given ≡ s → IfSome before P
    at_end end says = with_input P before after given took (λ rest e. so (given ++ rest) (ap (λ (t : List ℕ). said (given ++ t)) (subst IsAtEnd e end) ∙ ap said (append-nil given) ∙ says))

  left_none : IsAtEnd after → IfSome before (λ input. after ≡ Some [])
  left_none end = with_input (λ input. after ≡ Some []) before after given took (λ rest e. e ∙ ap (λ (t : List ℕ). Some t) (subst IsAtEnd e end))

  written : (st : Status) (s : Said) (input : List ℕ) → said input ≡ s → st ≡ run_status (said_run s) → Appends old new (said_text s) → Ended (check_run input) st old new
  written st s input says is a = record {
    status = is ∙ sym (ap run_status (check_is input s says));
    took = subst (λ (t : List ℕ). Appends old new t) (sym (check_text input s says)) a;
  }

  front : (s : Said) (input : List ℕ) → said input ≡ s → AppendsFront old new (said_text s) → AppendsFront old new (run_text (check_run input))
  front s input says a = subst (λ (t : List ℕ). AppendsFront old new t) (sym (check_text input s says)) a

  module _ (reads : Option (List ℕ)) where
    -- a whole certificate was judged
    pub by_verdict : (c : Certificate) → IsAtEnd after → said given ≡ Whole c → (result : Status) → WritesVerdict c old new result → WritesBy job reads before after old new result
    by_verdict c end says status.Done w = (at_end (Whole c) _ (λ input is. written status.Done (Whole c) input is (sym (ap (λ (o : Option CheckFault). run_status (judged_run c o)) w.1)) w.0) end says, left_none end)
    by_verdict c end says status.Refuted w = (at_end (Whole c) _ (λ input is. written status.Refuted (Whole c) input is (sym (ap (λ (o : Option CheckFault). run_status (judged_run c o)) w.1.1)) w.0) end says, left_none end)
    by_verdict c end says status.WriteFault w = at_end (Whole c) _ (λ input is. front (Whole c) input is w) end says
    by_verdict c end says status.Memory w = at_end (Whole c) _ (λ input is. front (Whole c) input is w) end says
    by_verdict c end says status.Usage w = absurd w
    by_verdict c end says status.Malformed w = absurd w
    by_verdict c end says status.Truncated w = absurd w
    by_verdict c end says status.ReadFault w = absurd w
    by_verdict c end says status.DiskFault w = absurd w
    by_verdict c end says status.NotJournal w = absurd w
    by_verdict c end says status.OtherChain w = absurd w
    by_verdict c end says status.Damaged w = absurd w
    by_verdict c end says status.TooLong w = absurd w
    by_verdict c end says status.NoPair w = absurd w
    by_verdict c end says status.Poor w = absurd w
    by_verdict c end says status.Large w = absurd w

    -- they end too early
    pub by_truncated : (at : ℕ) → IsAtEnd after → said given ≡ Truncated at → (result : Status) → (result ≢ status.WriteFault → result ≡ status.Truncated) → (result ≢ status.WriteFault → Appends old new (truncated_text at))
        → AppendsFront old new (truncated_text at) → WritesBy job reads before after old new result
    by_truncated at end says result same text cut =
        by_line (WritesBy job reads before after old new) status.Truncated result same
        (λ other. (at_end (Truncated at) _ (λ input is. written status.Truncated (Truncated at) input is refl (text other)) end says, left_none end))
        (at_end (Truncated at) _ (λ input is. front (Truncated at) input is cut) end says)

    -- a field breaks its rule, or a byte follows the last one
    pub by_malformed : (at : ℕ) → ((more : List ℕ) → said (given ++ more) ≡ Malformed at) → (result : Status) → (result ≢ status.WriteFault → result ≡ status.Malformed) → (result ≢ status.WriteFault → Appends old new (malformed_text at))
        → AppendsFront old new (malformed_text at) → WritesBy job reads before after old new result
    by_malformed at says result same text cut =
        by_line (WritesBy job reads before after old new) status.Malformed result same
        (λ other. (in_front (Malformed at) _ (λ input is. written status.Malformed (Malformed at) input is refl (text other)) says, if_all before _ (λ input. tt)))
        (in_front (Malformed at) _ (λ input is. front (Malformed at) input is cut) says)

-- memory was refused before the certificate was read
pub by_memory : (reads before after old : Option (List ℕ)) → WritesBy job reads before after old old status.Memory
by_memory reads before after old = if_all before _ (λ input. (run_text (check_run input), wrote_none old (run_text (check_run input))))
