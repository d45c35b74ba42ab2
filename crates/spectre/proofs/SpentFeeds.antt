-- What a spend comes to, by the input of a source that tells its bytes: nothing is due before the feed's end.
use Rattle.std.proofs.Common.{◌≡◌, ◌≢◌, ◌⊎◌, ℕ, List, [], ◌++◌, Option, Some, IfSome, inl, inr, Result, Ok, Err, refl, ap, sym, subst, ◌∙◌, arith}
use Rattle.std.specs.Io.KnownBytes.{Appends}
use Rattle.sp_block.specs.Block.{ReadBlock}
use Rattle.sp_block.specs.declared.fault.BlockFault.{BlockFault}
use Rattle.sp_engine.specs.Engine.{Ledger}
use Rattle.sp_feed.specs.Calls.{SaysFault}
use Rattle.sp_feed.specs.Feed.{End, Feed as FeedOf, feed, Malformed, TooLong, Truncated, Whole}
use Rattle.sp_feed.specs.Format.{Head, head_of}
use Rattle.sp_feed.specs.Kinds.{Said}
use Rattle.sp_feed.specs.Reads.{Moment}
use Rattle.sp_feed.specs.declared.fault.FeedFault.{FeedFault}
use Rattle.sp_feed.specs.declared.fault.FeedFault.TheVariants as faults
use Rattle.sp_feed.specs.declared.fault.HeadFault.{HeadFault}
use Rattle.sp_feed.specs.declared.fault.HeadFault.TheVariants as heads
use Rattle.sp_io.specs.Whole.{AppendsFront}
use Rattle.sp_io.proofs.Writing.{at_least, front_of_all, wrote_none}
use Rattle.spectre.specs.Bringing.{Brought, HasAll}
use Rattle.spectre.specs.Faults.{feed_fault_text, rest_behind, status_of}
use Rattle.spectre.specs.JobEnds.{WritesBy}
use Rattle.spectre.specs.Replay.{fed, feed_limit}
use Rattle.spectre.specs.Run.{Ended, last_line, last_status, run_status, run_text}
use Rattle.spectre.specs.RunOf.{spend_run, spent_fault, spent_lines, spent_run}
use Rattle.sp_tx.specs.Spelling.{spelling}
use Rattle.std.proofs.lemmas.List.{append-nil}
use Rattle.spectre.specs.Replaying.{RepliesFor, SaysDue}
use Rattle.spectre.specs.SpendEnds.{WritesSpend}
use Rattle.sp_wallet.specs.declared.fault.SpendFault.TheVariants.{Large, Poor}
use Rattle.sp_wallet.specs.declared.fault.SpendFault.TheVariants as spends
use Rattle.spectre.specs.Spends.{large_text, poor_text, IsSpend, Spent, spend_by, spend_fed, spend_over, spend_text, spend_with}
use Rattle.spectre.specs.Taken.{TakesFeedFor}
use Rattle.spectre.specs.declared.job.Job.{Job}
use Rattle.spectre.specs.declared.job.Job.TheVariants as jobs
use Rattle.spectre.specs.declared.replay.ReplayFault.TheVariants.{Feed, Memory}
use Rattle.spectre.specs.declared.status.Status.{Status}
use Rattle.spectre.specs.declared.status.Status.TheVariants as status
use Rattle.spectre.proofs.Due.{closing_stops, fault_by, fault_ends, RunCloses, takes_line, text_closes, with_input}
use Rattle.spectre.proofs.Replies.{appends_none}
use Rattle.spectre.proofs.TopCall.{if_all}

-- nothing is due
abbrev pub nothing : List ℕ → List ℕ
nothing given = []

-- ---- a feed at fault

says_nothing : (start now : Moment) (old : Option (List ℕ)) (given : List ℕ) (head : Option Head) (messages : List Said) (e : FeedFault)
    → SaysFault (feed feed_limit) (λ end. record { head = head; messages = messages; end = end }) start now given e → SaysDue nothing nothing start now old old given (Err (Feed e))
says_nothing start now old given head messages (faults.Malformed at) s = λ more. (appends_none old, ap (λ (f : FeedOf). f.end) (s more))
says_nothing start now old given head messages (faults.Truncated at) s = ((appends_none old, ap (λ (f : FeedOf). f.end) s.0), s.1)
says_nothing start now old given head messages faults.ReadFault s = (appends_none old, s.1, λ more. ([], wrote_none old []))
says_nothing start now old given head messages (faults.TooLong taken) s = λ more. (appends_none old, ap (λ (f : FeedOf). f.end) (s more))

-- what was read of it, as the answering of a feed that writes nothing
pub as_replies : {start now : Moment} (old : Option (List ℕ)) (e : FeedFault) → Brought start now (Err (heads.Feed e)) → RepliesFor nothing nothing start now old old (Err (Feed e))
as_replies {start = start} {now = now} old e b = record {
  given = b.given;
  took = b.took;
  needed = b.needed;
  answered = λ front rest k l. at_least old old [] (appends_none old);
  says = says_nothing start now old b.given b.says.0 b.says.1 e b.says.2;
}

-- so much was taken
pub takes_nothing : {start now : Moment} {r : Result Ledger HeadFault} (old : Option (List ℕ)) → Brought start now r → TakesFeedFor nothing start.left now.left old old
takes_nothing old b = record { given = b.given; consumed = b.took.consumed; within = omega (arith, b.took.counted, b.took.within); needed = b.needed; answered = λ front rest k l. at_least old old [] (appends_none old) }

-- ---- the run of a spend

spent_line : (s : Spent) → spent_lines (Some s) ++ last_line (spent_fault (Some s)) ≡ spend_text s
spent_line (Ok t) = append-nil (spelling t)
spent_line (Err (Poor reach)) = refl
spent_line (Err (Large total)) = refl
spent_line (Err spends.Memory) = refl

spent_done : (s : Spent) → IsSpend (Some s) → status.Done ≡ last_status (spent_fault (Some s))
spent_done (Ok t) h = refl
spent_done (Err fault) h = absurd h

module _ (words : List (List ℕ)) (amount to : ℕ) where
  abbrev job : Option Job
  job = Some (jobs.Spend amount to words)

  -- a fault stands alone
  pub spent_closes : RunCloses nothing (spend_run words amount to)
  unfolding spend_run
  spent_closes input end e stops = closing_stops _ _ end (fed input).end e stops

  module _ (reads : Option (List ℕ)) {start now : Moment} (old new : Option (List ℕ)) where
    -- a feed's fault, of which the line was written
    pub by_fault : (e : FeedFault) (result : Status) → Brought start now (Err (heads.Feed e)) → (result ≢ status.WriteFault → result ≡ status_of e) → (result ≢ status.WriteFault → Appends old new (feed_fault_text e))
        → AppendsFront old new (feed_fault_text e) → (e ≡ faults.ReadFault → result ≡ status.ReadFault) → WritesBy job reads start.left now.left old new result
    by_fault e result b same text front read =
        fault_by nothing (spend_run words amount to) spent_closes (WritesBy job reads start.left now.left old new) result
        (fault_ends (λ input. run_text (spend_run words amount to input)) (text_closes nothing (spend_run words amount to) spent_closes) (λ input. (run_text (spend_run words amount to input), refl)) new e result (as_replies old e b) same text front read)
        (λ h. h) (λ h. h) (λ h. h) (λ h front. ((λ feed. h), front)) (λ h. h)

  -- memory was refused before the feed's end
  pub by_memory : (reads before after old : Option (List ℕ)) → WritesBy job reads before after old old status.Memory
  by_memory reads before after old = if_all before _ (λ input. (run_text (spend_run words amount to input), wrote_none old (run_text (spend_run words amount to input))))

  -- ---- a whole feed

  -- the spend over an engine's kept blocks
  abbrev over : Ledger → Spent
  over engine = spend_over words amount to engine.profile engine.kept

  module _ {given : List ℕ} {engine : Ledger} (all : HasAll given engine) (rest : List ℕ) where
    ends_whole : (fed (given ++ rest)).end ≡ Whole rest
    ends_whole = ap (λ (f : FeedOf). f.end) (all.says rest)

    spend_is : spend_fed words amount to (given ++ rest) ≡ Some (over engine)
    unfolding spend_fed
    spend_is =
        ap (spend_by words amount to) (all.says rest)
        ∙ ap (λ (r : Result ReadBlock BlockFault). spend_with words amount to r (head_of engine.profile engine.bits all.genesis.bytes) all.messages) all.spelled
        ∙ ap (λ (l : List ReadBlock). Some (spend_over words amount to engine.profile l)) (sym all.kept_is)

    run_is : spend_run words amount to (given ++ rest) ≡ spent_run (Whole rest) (Some (over engine))
    unfolding spend_run
    run_is = ap (λ (e : End). spent_run e (spend_fed words amount to (given ++ rest))) ends_whole ∙ ap (spent_run (Whole rest)) spend_is

    text_is : run_text (spend_run words amount to (given ++ rest)) ≡ spend_text (over engine)
    text_is = ap run_text run_is ∙ spent_line (over engine)

  module _ {start now : Moment} (old new : Option (List ℕ)) {engine : Ledger} (b : Brought start now (Ok engine)) where
    -- the status of the spend
    told : (s : Status) → Appends old new (spend_text (over engine)) → s ≡ last_status (spent_fault (Some (over engine))) → IfSome start.left (λ input. Ended (spend_run words amount to input) s old new)
    told s took is = with_input (λ input. Ended (spend_run words amount to input) s old new) start.left now.left b.given b.took.consumed (λ rest e. record {
      status = is ∙ sym (ap run_status (run_is b.says rest));
      took = subst (λ (t : List ℕ). Appends old new t) (sym (text_is b.says rest)) took;
    })

    left : IfSome start.left (λ input. now.left ≡ Some (rest_behind (fed input).end))
    left = with_input (λ input. now.left ≡ Some (rest_behind (fed input).end)) start.left now.left b.given b.took.consumed (λ rest e. e ∙ ap (λ (x : End). Some (rest_behind x)) (sym (ends_whole b.says rest)))

    front : AppendsFront old new (spend_text (over engine)) → IfSome start.left (λ input. AppendsFront old new (run_text (spend_run words amount to input)))
    front h = with_input (λ input. AppendsFront old new (run_text (spend_run words amount to input))) start.left now.left b.given b.took.consumed (λ rest e. subst (λ (t : List ℕ). AppendsFront old new t) (sym (text_is b.says rest)) h)

    -- the engine has all blocks, and the spend out of them was written
    pub by_spend : (reads : Option (List ℕ)) (s : Status) → WritesSpend (spend_over words amount to engine.profile engine.kept) old new s → WritesBy job reads start.left now.left old new s
    by_spend reads status.Done w = (told status.Done w.0 (spent_done (over engine) w.1), left)
    by_spend reads status.WriteFault w = front w
    by_spend reads status.Memory w = front w
    by_spend reads status.Poor w = (told status.Poor w.0 (sym (ap (λ (o : Option Spent). last_status (spent_fault o)) w.1.1)), left)
    by_spend reads status.Large w = (told status.Large w.0 (sym (ap (λ (o : Option Spent). last_status (spent_fault o)) w.1.1)), left)
    by_spend reads status.Usage w = absurd w
    by_spend reads status.Malformed w = absurd w
    by_spend reads status.Truncated w = absurd w
    by_spend reads status.ReadFault w = absurd w
    by_spend reads status.DiskFault w = absurd w
    by_spend reads status.NotJournal w = absurd w
    by_spend reads status.OtherChain w = absurd w
    by_spend reads status.Damaged w = absurd w
    by_spend reads status.TooLong w = absurd w
    by_spend reads status.NoPair w = absurd w
    by_spend reads status.Refuted w = absurd w

-- what is written behind what is due
pub takes_spend : (due : List ℕ → List ℕ) (s : Spent) (before after old new : Option (List ℕ)) (result : Status) → TakesFeedFor due before after old old → WritesSpend s old new result → TakesFeedFor due before after old new
takes_spend due s before after old new result t w = takes_line due before after old old new (spend_text s) t (front result w)
  where
    front : (r : Status) → WritesSpend s old new r → AppendsFront old new (spend_text s)
    front status.Done w = front_of_all (spend_text s) w.0
    front status.WriteFault w = w
    front status.Memory w = w
    front status.Poor w = front_of_all (spend_text s) w.0
    front status.Large w = front_of_all (spend_text s) w.0
    front status.Usage w = absurd w
    front status.Malformed w = absurd w
    front status.Truncated w = absurd w
    front status.ReadFault w = absurd w
    front status.DiskFault w = absurd w
    front status.NotJournal w = absurd w
    front status.OtherChain w = absurd w
    front status.Damaged w = absurd w
    front status.TooLong w = absurd w
    front status.NoPair w = absurd w
    front status.Refuted w = absurd w

-- ---- the line of why there is no spend

is_write : (s : Status) → (s ≡ status.WriteFault) ⊎ (s ≢ status.WriteFault)
is_write status.WriteFault = inl refl
is_write other = inr (λ e. cc)

line_told : (s : Spent) (st : Status) (old new : Option (List ℕ)) (result : Status) → (Appends old new (spend_text s) → WritesSpend s old new st) → (result ≢ status.WriteFault → result ≡ st)
    → (result ≢ status.WriteFault → Appends old new (spend_text s)) → AppendsFront old new (spend_text s) → WritesSpend s old new result
line_told s st old new result ends same text cut = elim (is_write result) [
  | inl is ↦ subst (WritesSpend s old new) (sym is) cut
  | inr other ↦ subst (WritesSpend s old new) (sym (same other)) (ends (text other))
]

pub poor_told : (s : Spent) (reach : ℕ) (old new : Option (List ℕ)) (result : Status) → s ≡ Err (Poor reach) → (result ≢ status.WriteFault → result ≡ status.Poor)
    → (result ≢ status.WriteFault → Appends old new (poor_text reach)) → AppendsFront old new (poor_text reach) → WritesSpend s old new result
poor_told s reach old new result e same text cut =
    subst (λ (z : Spent). WritesSpend z old new result) (sym e) (line_told (Err (Poor reach)) status.Poor old new result (λ a. (a, (reach, refl))) same text cut)

pub large_told : (s : Spent) (total : ℕ) (old new : Option (List ℕ)) (result : Status) → s ≡ Err (Large total) → (result ≢ status.WriteFault → result ≡ status.Large)
    → (result ≢ status.WriteFault → Appends old new (large_text total)) → AppendsFront old new (large_text total) → WritesSpend s old new result
large_told s total old new result e same text cut =
    subst (λ (z : Spent). WritesSpend z old new result) (sym e) (line_told (Err (Large total)) status.Large old new result (λ a. (a, (total, refl))) same text cut)
