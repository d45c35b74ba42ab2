-- What the certifying of a feed comes to, by the input of a source that tells its bytes: nothing is due before its end.
use Rattle.std.proofs.Common.{◌≡◌, ◌≢◌, ◌⊎◌, ℕ, List, ◌++◌, Option, Some, None, IfSome, inl, inr, Result, Ok, Err, true, false, refl, ap, sym, subst, ◌∙◌}
use Rattle.std.specs.Io.KnownBytes.{Appends}
use Rattle.sp_block.specs.Block.{ReadBlock}
use Rattle.sp_block.specs.declared.fault.BlockFault.{BlockFault}
use Rattle.sp_cert.specs.Certificate.{Certificate}
use Rattle.sp_cert.specs.Format.{cert_text, said}
use Rattle.sp_cert.specs.Format as certs
use Rattle.sp_cert.specs.Made.{certificate_of}
use Rattle.sp_cert.specs.Refusals.{IsNoPair, refusal}
use Rattle.sp_cert.specs.declared.fault.CertifyFault.TheVariants.{Memory, NoPair}
use Rattle.sp_engine.specs.Engine.{Ledger}
use Rattle.sp_feed.specs.Feed.{End, Feed as FeedOf, Malformed, TooLong, Truncated, Whole}
use Rattle.sp_feed.specs.Format.{head_of}
use Rattle.sp_feed.specs.Reads.{Moment}
use Rattle.sp_feed.specs.declared.fault.FeedFault.{FeedFault}
use Rattle.sp_feed.specs.declared.fault.FeedFault.TheVariants as faults
use Rattle.sp_feed.specs.declared.fault.HeadFault.TheVariants as heads
use Rattle.sp_io.specs.Whole.{AppendsFront}
use Rattle.sp_io.proofs.Writing.{front_of_all, wrote_none}
use Rattle.sp_model.specs.declared.profile.Profile.{Profile}
use Rattle.sp_model.specs.declared.word.Word.{Word}
use Rattle.sp_model.specs.declared.word.Word.TheVariants as words
use Rattle.sp_model.specs.Votes.{word}
use Rattle.sp_pool.specs.Kept.{graph_in, present}
use Rattle.spectre.specs.Bringing.{Brought, HasAll}
use Rattle.spectre.specs.Certificates.{Stands}
use Rattle.spectre.specs.Certifies.{Certified, certified_by, certified_fed, certified_for, certified_over, certified_text, certified_with, IsCertified, no_pair_text}
use Rattle.spectre.specs.CertifyEnds.{WritesCertified}
use Rattle.spectre.specs.Faults.{feed_fault_text, rest_behind, status_of}
use Rattle.spectre.specs.JobEnds.{WritesBy}
use Rattle.spectre.specs.Replay.{fed}
use Rattle.spectre.specs.Run.{Ended, last_line, last_status, run_status, run_text}
use Rattle.spectre.specs.RunOf.{certified_fault, certified_lines, certified_run, certify_run}
use Rattle.std.proofs.lemmas.List.{append-nil}
use Rattle.spectre.specs.Taken.{TakesFeedFor}
use Rattle.spectre.specs.declared.job.Job.{Job}
use Rattle.spectre.specs.declared.job.Job.TheVariants as jobs
use Rattle.spectre.specs.declared.status.Status.{Status}
use Rattle.spectre.specs.declared.status.Status.TheVariants as status
use Rattle.spectre.proofs.Due.{by_status, closing_stops, fault_by, fault_ends, RunCloses, takes_line, text_closes, with_input}
use Rattle.spectre.proofs.SpentFeeds.{as_replies, nothing}
use Rattle.spectre.proofs.TopCall.{if_all}

-- ---- the run of a certificate

certified_line : (c : Certified) → certified_lines (Some c) ++ last_line (certified_fault (Some c)) ≡ certified_text c
certified_line (Ok cert) = append-nil (cert_text cert)
certified_line (Err NoPair) = refl
certified_line (Err Memory) = refl

certified_done : (c : Certified) → IsCertified (Some c) → status.Done ≡ last_status (certified_fault (Some c))
certified_done (Ok cert) h = refl
certified_done (Err fault) h = absurd h

module _ (x y : ℕ) where
  abbrev job : Option Job
  job = Some (jobs.Certify x y)

  -- a fault stands alone
  pub certified_closes : RunCloses nothing (certify_run x y)
  unfolding certify_run
  certified_closes input end e stops = closing_stops _ _ end (fed input).end e stops

  module _ (reads : Option (List ℕ)) {start now : Moment} (old new : Option (List ℕ)) where
    -- a feed's fault, of which the line was written
    pub by_fault : (e : FeedFault) (result : Status) → Brought start now (Err (heads.Feed e)) → (result ≢ status.WriteFault → result ≡ status_of e) → (result ≢ status.WriteFault → Appends old new (feed_fault_text e))
        → AppendsFront old new (feed_fault_text e) → (e ≡ faults.ReadFault → result ≡ status.ReadFault) → WritesBy job reads start.left now.left old new result
    by_fault e result b same text front read =
        fault_by nothing (certify_run x y) certified_closes (WritesBy job reads start.left now.left old new) result
        (fault_ends (λ input. run_text (certify_run x y input)) (text_closes nothing (certify_run x y) certified_closes) (λ input. (run_text (certify_run x y input), refl)) new e result (as_replies old e b) same text front read)
        (λ h. h) (λ h. h) (λ h. h) (λ h front. ((λ feed. h), front)) (λ h. h)

  -- memory was refused before the feed's end
  pub by_memory : (reads before after old : Option (List ℕ)) → WritesBy job reads before after old old status.Memory
  by_memory reads before after old = if_all before _ (λ input. (run_text (certify_run x y input), wrote_none old (run_text (certify_run x y input))))

  -- ---- a whole feed

  -- the certificate over an engine's kept blocks
  abbrev over : Ledger → Certified
  over engine = certified_over x y engine.profile engine.kept

  module _ {given : List ℕ} {engine : Ledger} (all : HasAll given engine) (rest : List ℕ) where
    ends_whole : (fed (given ++ rest)).end ≡ Whole rest
    ends_whole = ap (λ (f : FeedOf). f.end) (all.says rest)

    fed_is : certified_fed x y (given ++ rest) ≡ Some (over engine)
    unfolding certified_fed
    fed_is =
        ap (certified_by x y) (all.says rest)
        ∙ ap (λ (r : Result ReadBlock BlockFault). certified_with x y r (head_of engine.profile engine.bits all.genesis.bytes) all.messages) all.spelled
        ∙ ap (λ (l : List ReadBlock). Some (certified_over x y engine.profile l)) (sym all.kept_is)

    run_is : certify_run x y (given ++ rest) ≡ certified_run (Whole rest) (Some (over engine))
    unfolding certify_run
    run_is = ap (λ (e : End). certified_run e (certified_fed x y (given ++ rest))) ends_whole ∙ ap (certified_run (Whole rest)) fed_is

    text_is : run_text (certify_run x y (given ++ rest)) ≡ certified_text (over engine)
    text_is = ap run_text run_is ∙ certified_line (over engine)

  module _ {start now : Moment} (old new : Option (List ℕ)) {engine : Ledger} (b : Brought start now (Ok engine)) where
    -- the status of the certificate
    told : (s : Status) → Appends old new (certified_text (over engine)) → s ≡ last_status (certified_fault (Some (over engine))) → IfSome start.left (λ input. Ended (certify_run x y input) s old new)
    told s took is = with_input (λ input. Ended (certify_run x y input) s old new) start.left now.left b.given b.took.consumed (λ rest e. record {
      status = is ∙ sym (ap run_status (run_is b.says rest));
      took = subst (λ (t : List ℕ). Appends old new t) (sym (text_is b.says rest)) took;
    })

    left : IfSome start.left (λ input. now.left ≡ Some (rest_behind (fed input).end))
    left = with_input (λ input. now.left ≡ Some (rest_behind (fed input).end)) start.left now.left b.given b.took.consumed (λ rest e. e ∙ ap (λ (end : End). Some (rest_behind end)) (sym (ends_whole b.says rest)))

    front : AppendsFront old new (certified_text (over engine)) → IfSome start.left (λ input. AppendsFront old new (run_text (certify_run x y input)))
    front h = with_input (λ input. AppendsFront old new (run_text (certify_run x y input))) start.left now.left b.given b.took.consumed (λ rest e. subst (λ (t : List ℕ). AppendsFront old new t) (sym (text_is b.says rest)) h)

    -- the engine has all blocks, and the certificate over them was written
    pub by_certified : (reads : Option (List ℕ)) (s : Status) → WritesCertified (certified_over x y engine.profile engine.kept) old new s → WritesBy job reads start.left now.left old new s
    by_certified reads status.Done w = (told status.Done w.0 (certified_done (over engine) w.1), left)
    by_certified reads status.WriteFault w = front w
    by_certified reads status.Memory w = front w
    by_certified reads status.NoPair w = (told status.NoPair w.0 (sym (ap (λ (o : Option Certified). last_status (certified_fault o)) w.1)), left)
    by_certified reads status.Usage w = absurd w
    by_certified reads status.Malformed w = absurd w
    by_certified reads status.Truncated w = absurd w
    by_certified reads status.ReadFault w = absurd w
    by_certified reads status.DiskFault w = absurd w
    by_certified reads status.NotJournal w = absurd w
    by_certified reads status.OtherChain w = absurd w
    by_certified reads status.Damaged w = absurd w
    by_certified reads status.TooLong w = absurd w
    by_certified reads status.Refuted w = absurd w
    by_certified reads status.Poor w = absurd w
    by_certified reads status.Large w = absurd w

-- what is written behind what is due
pub takes_certified : (due : List ℕ → List ℕ) (c : Certified) (before after old new : Option (List ℕ)) (result : Status) → TakesFeedFor due before after old old → WritesCertified c old new result → TakesFeedFor due before after old new
takes_certified due c before after old new result t w = takes_line due before after old old new (certified_text c) t (front result w)
  where
    front : (r : Status) → WritesCertified c old new r → AppendsFront old new (certified_text c)
    front status.Done w = front_of_all (certified_text c) w.0
    front status.WriteFault w = w
    front status.Memory w = w
    front status.NoPair w = front_of_all (certified_text c) w.0
    front status.Usage w = absurd w
    front status.Malformed w = absurd w
    front status.Truncated w = absurd w
    front status.ReadFault w = absurd w
    front status.DiskFault w = absurd w
    front status.NotJournal w = absurd w
    front status.OtherChain w = absurd w
    front status.Damaged w = absurd w
    front status.TooLong w = absurd w
    front status.Refuted w = absurd w
    front status.Poor w = absurd w
    front status.Large w = absurd w

-- ---- the certificate, or the line where there is none

-- two different present blocks
is_made : (w : Word) (cert : Certificate) → (IsNoPair w → ⊥) → certified_for w cert ≡ Ok cert
is_made words.Before cert pair = refl
is_made words.After cert pair = refl
is_made words.Tie cert pair = refl
is_made words.Same cert pair = absurd (pair (inl refl))
is_made words.Absent cert pair = absurd (pair (inr refl))

none_made : (w : Word) (cert : Certificate) → IsNoPair w → certified_for w cert ≡ Err NoPair
none_made w cert (inl same) = ap (λ (v : Word). certified_for v cert) same
none_made w cert (inr absent) = ap (λ (v : Word). certified_for v cert) absent

module _ (x y : ℕ) (profile : Profile) (kept : List ReadBlock) where
  pub over_made : (cert : Certificate) → cert ≡ certificate_of profile kept x y → (IsNoPair (word (graph_in profile kept) (present kept) x y) → ⊥) → certified_over x y profile kept ≡ Ok cert
  unfolding certified_over
  over_made cert is pair = is_made (word (graph_in profile kept) (present kept) x y) (certificate_of profile kept x y) pair ∙ ap (λ (c : Certificate). Ok c) (sym is)

  pub over_none : IsNoPair (word (graph_in profile kept) (present kept) x y) → certified_over x y profile kept ≡ Err NoPair
  unfolding certified_over
  over_none none = none_made (word (graph_in profile kept) (present kept) x y) (certificate_of profile kept x y) none

-- what was written stands
pub stands_so : (x y : ℕ) (old new : Option (List ℕ)) (cert : Certificate) → cert.x ≡ x → cert.y ≡ y → refusal cert ≡ None → said (cert_text cert) ≡ certs.Whole cert → Appends old new (cert_text cert) → Stands x y old new
stands_so x y old new cert same other stands read took = record { cert = cert; took = took; x = same; y = other; stands = stands; read = read }

-- where there is a certificate, no error was told
pub not_err : false ≡ true → ⊥
not_err e = cc

-- ---- a line isn't a certificate

pub line_not_done : (result : Status) → (result ≢ status.WriteFault → result ≡ status.NoPair) → result ≡ status.Done → ⊥
line_not_done result same is = no (sym is ∙ same (λ h. write (sym is ∙ h)))
  where
    no : status.Done ≡ status.NoPair → ⊥
    no e = cc

    write : status.Done ≡ status.WriteFault → ⊥
    write e = cc

pub fault_not_done : (e : FeedFault) (result : Status) → (result ≢ status.WriteFault → result ≡ status_of e) → result ≡ status.Done → ⊥
fault_not_done e result same is = no e (by_status e result status.Done (λ h. cc) same is)
  where
    no : (e : FeedFault) → status_of e ≡ status.Done → ⊥
    no (faults.Malformed at) h = cc
    no (faults.Truncated at) h = cc
    no faults.ReadFault h = cc
    no (faults.TooLong taken) h = cc

is_write : (s : Status) → (s ≡ status.WriteFault) ⊎ (s ≢ status.WriteFault)
is_write status.WriteFault = inl refl
is_write other = inr (λ e. cc)

pub none_told : (c : Certified) (old new : Option (List ℕ)) (result : Status) → c ≡ Err NoPair → (result ≢ status.WriteFault → result ≡ status.NoPair)
    → (result ≢ status.WriteFault → Appends old new no_pair_text) → AppendsFront old new no_pair_text → WritesCertified c old new result
none_told c old new result e same text cut = subst (λ (z : Certified). WritesCertified z old new result) (sym e) (elim (is_write result) [
  | inl is ↦ subst (WritesCertified (Err NoPair) old new) (sym is) cut
  | inr other ↦ subst (WritesCertified (Err NoPair) old new) (sym (same other)) (text other, refl)
])
