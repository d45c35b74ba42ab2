-- What the answering of a feed and the line of its fault come to, by the input of a source that tells its bytes. What is due
-- for the messages in some bytes is a function of these, and so is what is written in all.
use Rattle.std.proofs.Common.{◌≡◌, ◌≢◌, ◌≤◌, ◌<◌, ℕ, Bool, true, false, cond, List, [], ◌∷◌, ◌++◌, drop, length, Option, Some, None, IfSome, Result, Ok, Err, refl, ap, sym, subst, ◌∙◌, append_assoc, arith}
use Rattle.std.proofs.Math.Seq.{drop-append_seam}
use Rattle.std.specs.Io.KnownBytes.{Appends, Consumes, IsAtEnd}
use Rattle.std.proofs.lemmas.List.{append-nil}
use Rattle.sp_feed.specs.Feed.{End, Malformed, TooLong, Truncated, Whole}
use Rattle.sp_feed.specs.Reads.{Moment}
use Rattle.sp_feed.specs.declared.fault.FeedFault.{FeedFault}
use Rattle.sp_feed.specs.declared.fault.FeedFault.TheVariants as faults
use Rattle.sp_io.specs.Whole.{AppendsFront, Wrote}
use Rattle.sp_io.proofs.Writing.{appends_then, at_least_then, wrote_stops}
use Rattle.sp_feed.proofs.Rests.{feed_long}
use Rattle.spectre.specs.Fault.{Fault}
use Rattle.spectre.specs.Faults.{EndsMalformed, EndsTooLong, EndsTruncated, EndsWhole, feed_fault_text, rest_behind, status_of}
use Rattle.spectre.specs.OneOf.{IsOneOf}
use Rattle.spectre.specs.Replay.{end_text, fed, feed_limit}
use Rattle.spectre.specs.Replaying.{RepliesFor}
use Rattle.spectre.specs.Run.{Ended, last_status, ran, Run, run_status, run_text}
use Rattle.spectre.specs.RunOf.{behind, closing_run, feed_fault, is_cut, is_early}
use Rattle.spectre.specs.Taken.{AreNeeded, TakesFeedFor}
use Rattle.spectre.specs.declared.replay.ReplayFault.{ReplayFault}
use Rattle.spectre.specs.declared.replay.ReplayFault.TheVariants.{DiskFault, Feed, WriteFault, Memory}
use Rattle.spectre.specs.declared.status.Status.{Status}
use Rattle.spectre.specs.declared.status.Status.TheVariants as status
use Rattle.spectre.proofs.FeedRuns.{feed_line, long_status, malformed_status, truncated_status}

-- what stands of the bytes that were given, whatever follows them, stands of the input
pub with_input : (P : List ℕ → Type 0) (old new : Option (List ℕ)) (given : List ℕ) → Consumes old new given → ((rest : List ℕ) → new ≡ Some rest → P (given ++ rest)) → IfSome old P
with_input P None new given h f = tt
with_input P (Some input) None given h f = absurd h
with_input P (Some input) (Some rest) given h f = subst P (sym h) (f rest refl)

-- a feed ends by a fault
abbrev pub Stops : End → Type 0
Stops (Whole rest) = ⊥
Stops (Malformed at) = Unit {0}
Stops (Truncated at) = Unit {0}
Stops (TooLong taken) = Unit {0}

-- where it does, all that is written is what is due, and then that fault's line
abbrev pub Closes : (List ℕ → List ℕ) → (List ℕ → List ℕ) → Type 0
Closes due whole = (input : List ℕ) (end : End) → (fed input).end ≡ end → Stops end → whole input ≡ due input ++ end_text end

-- what is due comes first in any case
abbrev pub Begins : (List ℕ → List ℕ) → (List ℕ → List ℕ) → Type 0
Begins due whole = (input : List ℕ) → (rest : List ℕ) × (whole input ≡ due input ++ rest)

-- a front of what is due is one of the whole
pub front_due : {old new : Option (List ℕ)} (due whole : List ℕ → List ℕ) → Begins due whole → (input : List ℕ) → AppendsFront old new (due input) → AppendsFront old new (whole input)
front_due due whole begins input h =
    let b = begins input in (
      h.0 ++ b.0,
      record {
        front = h.1.front;
        appended = h.1.appended;
        split = b.1 ∙ ap (λ (t : List ℕ). t ++ b.0) h.1.split ∙ append_assoc h.1.front h.0 b.0;
      },
    )

-- nothing more was written
pub front_on : {old new : Option (List ℕ)} (mid : Option (List ℕ)) (whole : List ℕ) → AppendsFront old mid whole → Appends mid new [] → AppendsFront old new whole
front_on {old = old} {new = new} mid whole h none = (
  h.0,
  record {
    front = h.1.front;
    appended = subst (λ (t : List ℕ). Appends old new t) (append-nil h.1.front) (appends_then old mid new h.1.front [] h.1.appended none);
    split = h.1.split;
  },
)

module _ {due but : List ℕ → List ℕ} {start now : Moment} {old new : Option (List ℕ)} where
  -- the end was read
  pub done_end : RepliesFor due but start now old new (Ok tt) → IfSome start.left (λ input. Appends old new (due input) × EndsWhole (fed input).end)
  done_end r = with_input (λ input. Appends old new (due input) × EndsWhole (fed input).end) start.left now.left r.given r.took.consumed (λ rest e.
      let s = r.says rest in (s.0, subst EndsWhole (sym s.1) tt))

  pub done_rest : RepliesFor due but start now old new (Ok tt) → IfSome start.left (λ input. now.left ≡ Some (rest_behind (fed input).end))
  done_rest r = with_input (λ input. now.left ≡ Some (rest_behind (fed input).end)) start.left now.left r.given r.took.consumed (λ rest e.
      let s = r.says rest in e ∙ ap (λ (x : End). Some (rest_behind x)) (sym s.1))

  -- a message wasn't answered
  -- the disk failed
  pub disk_front : (whole : List ℕ → List ℕ) → Begins due whole → RepliesFor due but start now old new (Err DiskFault) → IfSome start.left (λ input. AppendsFront old new (whole input))
  disk_front whole begins r = with_input (λ input. AppendsFront old new (whole input)) start.left now.left r.given r.took.consumed (λ rest e. front_due due whole begins (r.given ++ rest) (r.says.1 rest))

  pub write_front : (whole : List ℕ → List ℕ) → Begins due whole → RepliesFor due but start now old new (Err WriteFault) → IfSome start.left (λ input. AppendsFront old new (whole input))
  write_front whole begins r = with_input (λ input. AppendsFront old new (whole input)) start.left now.left r.given r.took.consumed (λ rest e. front_due due whole begins (r.given ++ rest) (r.says rest))

  pub memory_front : (whole : List ℕ → List ℕ) → Begins due whole → RepliesFor due but start now old new (Err Memory) → IfSome start.left (λ input. AppendsFront old new (whole input))
  memory_front whole begins r = with_input (λ input. AppendsFront old new (whole input)) start.left now.left r.given r.took.consumed (λ rest e. front_due due whole begins (r.given ++ rest) (r.says rest))

  -- so much was taken, and that was written by then
  pub takes : {r : Result (Unit {0}) ReplayFault} → RepliesFor due but start now old new r → TakesFeedFor due start.left now.left old new
  takes r = record { given = r.given; consumed = r.took.consumed; within = omega (arith, r.took.counted, r.took.within); needed = r.needed; answered = r.answered }

-- and then a line, or a front of it
pub takes_line : (due : List ℕ → List ℕ) (before after old mid new : Option (List ℕ)) (line : List ℕ) → TakesFeedFor due before after old mid → AppendsFront mid new line → TakesFeedFor due before after old new
takes_line due before after old mid new line t h = record {
  given = t.given;
  consumed = t.consumed;
  within = t.within;
  needed = t.needed;
  answered = λ front rest e l. at_least_then old mid new (due front) h.1.front (t.answered front rest e l) h.1.appended;
}

-- a fault's line follows what is due
module _ (due whole : List ℕ → List ℕ) (closes : Closes due whole) (old mid new : Option (List ℕ)) where
  then_text : (input : List ℕ) (end : End) → Stops end → Appends old mid (due input) → (fed input).end ≡ end → Appends mid new (end_text end) → Appends old new (whole input)
  then_text input end stops a e b = subst (λ (t : List ℕ). Appends old new t) (sym (closes input end e stops)) (appends_then old mid new (due input) (end_text end) a b)

  then_front : (input : List ℕ) (end : End) → Stops end → Appends old mid (due input) → (fed input).end ≡ end → AppendsFront mid new (end_text end) → AppendsFront old new (whole input)
  then_front input end stops a e b =
      let w : Wrote old mid (whole input) (end_text end ++ []) = record { front = due input; appended = a; split = closes input end e stops ∙ ap (λ (t : List ℕ). due input ++ t) (sym (append-nil (end_text end))) } in
      wrote_stops (end_text end) [] w b

-- a feed's fault says so of the input, where the fault isn't a failed read
abbrev pub Ends : FeedFault → End → Type 0
Ends (faults.Malformed at) end = end ≡ Malformed at
Ends (faults.Truncated at) end = end ≡ Truncated at
Ends faults.ReadFault end = ⊥
Ends (faults.TooLong taken) end = end ≡ TooLong taken

module _ {due but : List ℕ → List ℕ} {start now : Moment} {old mid : Option (List ℕ)} where
  -- where a line was written for it, it is the line of the input's end
  pub fault_input : (P : List ℕ → Type 0) (e : FeedFault) → RepliesFor due but start now old mid (Err (Feed e)) → (e ≡ faults.ReadFault → ⊥)
      → ((input : List ℕ) (end : End) → Stops end → Appends old mid (due input) → (fed input).end ≡ end → end_text end ≡ feed_fault_text e → Ends e (fed input).end → P input) → IfSome start.left P
  fault_input P (faults.Malformed at) r other f = with_input P start.left now.left r.given r.took.consumed (λ rest e. let s = r.says rest in f (r.given ++ rest) (Malformed at) tt s.0 s.1 refl s.1)
  fault_input P (faults.Truncated at) r other f = with_input P start.left now.left r.given r.took.consumed (λ rest e.
      let none : rest ≡ [] = subst IsAtEnd e r.says.1 in
      let same : r.given ++ rest ≡ r.given = ap (λ (t : List ℕ). r.given ++ t) none ∙ append-nil r.given in
      subst P (sym same) (f r.given (Truncated at) tt r.says.0.0 r.says.0.1 refl r.says.0.1))
  fault_input P faults.ReadFault r other f = absurd (other refl)
  fault_input P (faults.TooLong taken) r other f = with_input P start.left now.left r.given r.took.consumed (λ rest e. let s = r.says rest in f (r.given ++ rest) (TooLong taken) tt s.0 s.1 refl s.1)

  pub fault_written : (whole : List ℕ → List ℕ) → Closes due whole → (new : Option (List ℕ)) (e : FeedFault) → RepliesFor due but start now old mid (Err (Feed e)) → (e ≡ faults.ReadFault → ⊥) → Appends mid new (feed_fault_text e) → IfSome start.left (λ input. Appends old new (whole input) × Ends e (fed input).end)
  fault_written whole closes new e r other b = fault_input (λ input. Appends old new (whole input) × Ends e (fed input).end) e r other (λ input end stops a is text ends. (
    then_text due whole closes old mid new input end stops a is (subst (λ (t : List ℕ). Appends mid new t) (sym text) b),
    ends,
  ))

  pub fault_front : (whole : List ℕ → List ℕ) → Closes due whole → (new : Option (List ℕ)) (e : FeedFault) → RepliesFor due but start now old mid (Err (Feed e)) → (e ≡ faults.ReadFault → ⊥) → AppendsFront mid new (feed_fault_text e) → IfSome start.left (λ input. AppendsFront old new (whole input))
  fault_front whole closes new e r other b = fault_input (λ input. AppendsFront old new (whole input)) e r other (λ input end stops a is text ends. then_front due whole closes old mid new input end stops a is (subst (λ (t : List ℕ). AppendsFront mid new t) (sym text) b))

if_some : {X : Type 0} (o : Option X) (P Q : X → Type 0) → ((x : X) → P x → Q x) → IfSome o P → IfSome o Q
if_some None P Q f h = tt
if_some (Some x) P Q f h = f x h

-- the status of a feed's fault tells how the feed ends

pub is_malformed : (e : FeedFault) (end : End) → status_of e ≡ status.Malformed → Ends e end → EndsMalformed end
is_malformed (faults.Malformed at) end s h = subst EndsMalformed (sym h) tt
is_malformed other end s h = absurd cc

pub is_truncated : (e : FeedFault) (end : End) → status_of e ≡ status.Truncated → Ends e end → EndsTruncated end
is_truncated (faults.Truncated at) end s h = subst EndsTruncated (sym h) tt
is_truncated other end s h = absurd cc

pub is_too_long : (e : FeedFault) (end : End) → status_of e ≡ status.TooLong → Ends e end → EndsTooLong end
is_too_long (faults.TooLong taken) end s h = subst EndsTooLong (sym h) tt
is_too_long other end s h = absurd cc

pub is_read_fault : (e : FeedFault) → status_of e ≡ status.ReadFault → e ≡ faults.ReadFault
is_read_fault faults.ReadFault s = refl
is_read_fault other s = absurd cc

-- a status other than that of a failed write is that of the fault
pub by_status : (e : FeedFault) (result s : Status) → (s ≡ status.WriteFault → ⊥) → (result ≢ status.WriteFault → result ≡ status_of e) → result ≡ s → status_of e ≡ s
by_status e result s no_write same is = sym (same (λ h. no_write (sym is ∙ h))) ∙ is

module _ {due but : List ℕ → List ℕ} {start now : Moment} {old mid : Option (List ℕ)} where
  -- a feed that ends too early leaves nothing
  pub nothing_left : (e : FeedFault) → RepliesFor due but start now old mid (Err (Feed e)) → status_of e ≡ status.Truncated → IfSome start.left (λ input. now.left ≡ Some [])
  nothing_left (faults.Truncated at) r s = with_input (λ input. now.left ≡ Some []) start.left now.left r.given r.took.consumed (λ rest e. e ∙ ap (λ (t : List ℕ). Some t) (subst IsAtEnd e r.says.1))
  nothing_left other r s = absurd cc

  -- of one that is too long the bytes of the limit are taken
  pub limit_taken : (e : FeedFault) → RepliesFor due but start now old mid (Err (Feed e)) → status_of e ≡ status.TooLong → IfSome start.left (λ input. now.left ≡ Some (drop feed_limit input))
  limit_taken (faults.TooLong taken) r s =
      let long : feed_limit ≤ length r.given = feed_long feed_limit r.given taken (ap (λ bytes. (fed bytes).end) (sym (append-nil r.given)) ∙ (r.says []).1) in
      let all : length r.given ≡ feed_limit = omega (arith, long, r.took.counted, r.took.within) in
      with_input (λ input. now.left ≡ Some (drop feed_limit input)) start.left now.left r.given r.took.consumed (λ rest e.
      e ∙ ap (λ (t : List ℕ). Some t) (sym (ap (λ n. drop n (r.given ++ rest)) (sym all) ∙ drop-append_seam r.given rest)))
  limit_taken other r s = absurd cc

module _ {due but : List ℕ → List ℕ} {start now : Moment} {old mid : Option (List ℕ)} where
  -- the line of a fault was written, which gives this status
  pub fault_line_whole : (whole : List ℕ → List ℕ) → Closes due whole → (new : Option (List ℕ)) (e : FeedFault) (result s : Status) (Q : End → Type 0) → ((end : End) → status_of e ≡ s → Ends e end → Q end) → (s ≡ status.WriteFault → ⊥) → (s ≡ status.ReadFault → ⊥)
      → RepliesFor due but start now old mid (Err (Feed e)) → (result ≢ status.WriteFault → result ≡ status_of e) → (result ≢ status.WriteFault → Appends mid new (feed_fault_text e))
      → result ≡ s → IfSome start.left (λ input. Appends old new (whole input) × Q (fed input).end)
  fault_line_whole whole closes new e result s Q ends no_write no_read r same text is =
      let written : result ≢ status.WriteFault = λ h. no_write (sym is ∙ h) in
      let by : status_of e ≡ s = by_status e result s no_write same is in
      if_some start.left (λ input. Appends old new (whole input) × Ends e (fed input).end) (λ input. Appends old new (whole input) × Q (fed input).end) (λ input h. (h.0, ends (fed input).end by h.1))
      (fault_written whole closes new e r (λ h. no_read (sym by ∙ ap status_of h)) (text written))

  -- its line wasn't written whole
  pub fault_line_cut : (whole : List ℕ → List ℕ) → Closes due whole → (new : Option (List ℕ)) (e : FeedFault) (result : Status) → RepliesFor due but start now old mid (Err (Feed e)) → AppendsFront mid new (feed_fault_text e) → (e ≡ faults.ReadFault → result ≡ status.ReadFault)
      → result ≡ status.WriteFault → IfSome start.left (λ input. AppendsFront old new (whole input))
  fault_line_cut whole closes new e result r front other is = fault_front whole closes new e r (λ h. let no : status.WriteFault ≡ status.ReadFault = sym is ∙ other h in absurd cc) front

-- ---- of a malformed feed just the bytes are taken that tell it

module _ (is_so : List ℕ → Bool) (given : List ℕ) (told : is_so given ≡ false) where
  behind_last : (front rest : List ℕ) → front ≡ given → behind is_so front rest ≡ rest
  unfolding behind
  behind_last front [] same = refl
  behind_last front (byte ∷ more) same = ap (λ (b : Bool). cond b (behind is_so (front ++ byte ∷ []) more) (byte ∷ more)) (ap is_so same ∙ told)

  -- the shortest front that tells is what was given
  pub behind_is : (front seen rest : List ℕ) → front ++ seen ≡ given → ((first more : List ℕ) → given ≡ first ++ more → 0 < length more → is_so first ≡ true) → behind is_so front (seen ++ rest) ≡ rest
  unfolding behind
  behind_is front [] rest same needed = behind_last front rest (sym (append-nil front) ∙ same)
  behind_is front (byte ∷ more) rest same needed =
      let next = behind_is (front ++ byte ∷ []) more rest (append_assoc front (byte ∷ []) more ∙ same) needed in
      ap (λ (b : Bool). cond b (behind is_so (front ++ byte ∷ []) (more ++ rest)) (byte ∷ (more ++ rest))) (needed front (byte ∷ more) (sym same) (omega arith)) ∙ next

module _ {due but : List ℕ → List ℕ} {start now : Moment} {old mid : Option (List ℕ)} where
  pub malformed_left : (e : FeedFault) → RepliesFor due but start now old mid (Err (Feed e)) → status_of e ≡ status.Malformed → IfSome start.left (λ input. now.left ≡ Some (behind is_early [] input))
  malformed_left (faults.Malformed at) r s =
      let told : is_early r.given ≡ false = ap is_early (sym (append-nil r.given)) ∙ ap is_cut (r.says []).1 in
      with_input (λ input. now.left ≡ Some (behind is_early [] input)) start.left now.left r.given r.took.consumed (λ rest e.
      e ∙ ap (λ (t : List ℕ). Some t) (sym (behind_is is_early r.given told [] r.given rest refl (λ first more k l. ap is_cut (r.needed first more k l)))))
  malformed_left other r s = absurd cc

-- ---- all that a fault of a feed, and its line, come to

-- the statuses of a feed's faults
abbrev pub OfFeed : Status → Type 0
OfFeed s = IsOneOf s (status.Malformed ∷ status.Truncated ∷ status.ReadFault ∷ status.TooLong ∷ [])

of_feed : (e : FeedFault) → OfFeed (status_of e)
of_feed (faults.Malformed at) = tt
of_feed (faults.Truncated at) = tt
of_feed faults.ReadFault = tt
of_feed (faults.TooLong taken) = tt

-- or its line wasn't written
abbrev pub AfterFault : Status → Type 0
AfterFault s = IsOneOf s (status.Malformed ∷ status.Truncated ∷ status.ReadFault ∷ status.WriteFault ∷ status.TooLong ∷ [])

none_other : (e : FeedFault) (s : Status) → (s ≡ status_of e) → OfFeed s
none_other e s is = subst OfFeed (sym is) (of_feed e)

after_fault : (e : FeedFault) (s : Status) → (s ≢ status.WriteFault → s ≡ status_of e) → AfterFault s
after_fault e status.Malformed same = tt
after_fault e status.Truncated same = tt
after_fault e status.ReadFault same = tt
after_fault e status.WriteFault same = tt
after_fault e status.TooLong same = tt
after_fault e status.Done same = none_other e status.Done (same (λ h. cc))
after_fault e status.Usage same = none_other e status.Usage (same (λ h. cc))
after_fault e status.DiskFault same = none_other e status.DiskFault (same (λ h. cc))
after_fault e status.NotJournal same = none_other e status.NotJournal (same (λ h. cc))
after_fault e status.OtherChain same = none_other e status.OtherChain (same (λ h. cc))
after_fault e status.Memory same = none_other e status.Memory (same (λ h. cc))
after_fault e status.Damaged same = none_other e status.Damaged (same (λ h. cc))
after_fault e status.NoPair same = none_other e status.NoPair (same (λ h. cc))
after_fault e status.Refuted same = none_other e status.Refuted (same (λ h. cc))
after_fault e status.Poor same = none_other e status.Poor (same (λ h. cc))
after_fault e status.Large same = none_other e status.Large (same (λ h. cc))

-- what holds by the status
pub record FaultEnds (due whole : List ℕ → List ℕ) (before after old new : Option (List ℕ)) (s : Status) : Type 0 where
  pub among : AfterFault s
  pub malformed : s ≡ status.Malformed → IfSome before (λ input. Appends old new (whole input) × EndsMalformed (fed input).end)
  pub malformed_end : s ≡ status.Malformed → IfSome before (λ input. after ≡ Some (behind is_early [] input))
  pub truncated : s ≡ status.Truncated → IfSome before (λ input. Appends old new (whole input) × EndsTruncated (fed input).end)
  pub truncated_end : s ≡ status.Truncated → IfSome before (λ input. after ≡ Some [])
  pub too_long : s ≡ status.TooLong → IfSome before (λ input. Appends old new (whole input) × EndsTooLong (fed input).end)
  pub too_long_end : s ≡ status.TooLong → IfSome before (λ input. after ≡ Some (drop feed_limit input))
  pub read : s ≡ status.ReadFault → (given : List ℕ) × Consumes before after given × Appends old new (due given)
  pub read_front : s ≡ status.ReadFault → IfSome before (λ input. AppendsFront old new (whole input))
  pub write : s ≡ status.WriteFault → IfSome before (λ input. AppendsFront old new (whole input))

module _ {due but : List ℕ → List ℕ} {start now : Moment} {old mid : Option (List ℕ)} where
  -- no line is written of a failed read
  read_due : (new : Option (List ℕ)) (e : FeedFault) (r : RepliesFor due but start now old mid (Err (Feed e))) → e ≡ faults.ReadFault → Appends mid new (feed_fault_text e) → Appends old new (due r.given)
  read_due new faults.ReadFault r is none = subst (λ (t : List ℕ). Appends old new t) (append-nil (due r.given)) (appends_then old mid new (due r.given) [] r.says.0 none)
  read_due new other r is none = absurd cc

  -- so the sink took a front of all that is due
  pub read_begun : (whole : List ℕ → List ℕ) → Begins due whole → (new : Option (List ℕ)) (e : FeedFault) (r : RepliesFor due but start now old mid (Err (Feed e))) → e ≡ faults.ReadFault → Appends mid new (feed_fault_text e) → IfSome start.left (λ input. AppendsFront old new (whole input))
  read_begun whole begins new faults.ReadFault r is none = with_input (λ input. AppendsFront old new (whole input)) start.left now.left r.given r.took.consumed (λ rest e. front_due due whole begins (r.given ++ rest) (front_on mid (due (r.given ++ rest)) (r.says.2 rest) none))
  read_begun whole begins new other r is none = absurd cc

  pub fault_ends : (whole : List ℕ → List ℕ) → Closes due whole → Begins due whole → (new : Option (List ℕ)) (e : FeedFault) (result : Status) → RepliesFor due but start now old mid (Err (Feed e)) → (result ≢ status.WriteFault → result ≡ status_of e)
      → (result ≢ status.WriteFault → Appends mid new (feed_fault_text e)) → AppendsFront mid new (feed_fault_text e) → (e ≡ faults.ReadFault → result ≡ status.ReadFault) → FaultEnds due whole start.left now.left old new result
  fault_ends whole closes begins new e result r same text front read = record {
    among = after_fault e result same;
    malformed = fault_line_whole whole closes new e result status.Malformed EndsMalformed (is_malformed e) (λ h. cc) (λ h. cc) r same text;
    malformed_end = λ is. malformed_left e r (by_status e result status.Malformed (λ h. cc) same is);
    truncated = fault_line_whole whole closes new e result status.Truncated EndsTruncated (is_truncated e) (λ h. cc) (λ h. cc) r same text;
    truncated_end = λ is. nothing_left e r (by_status e result status.Truncated (λ h. cc) same is);
    too_long = fault_line_whole whole closes new e result status.TooLong EndsTooLong (is_too_long e) (λ h. cc) (λ h. cc) r same text;
    too_long_end = λ is. limit_taken e r (by_status e result status.TooLong (λ h. cc) same is);
    read = λ is.
        let failed = is_read_fault e (by_status e result status.ReadFault (λ h. cc) same is) in
        let written : result ≢ status.WriteFault = λ h. (let no : status.ReadFault ≡ status.WriteFault = sym is ∙ h in cc) in
        (r.given, r.took.consumed, read_due new e r failed (text written));
    read_front = λ is.
        let failed = is_read_fault e (by_status e result status.ReadFault (λ h. cc) same is) in
        let written : result ≢ status.WriteFault = λ h. (let no : status.ReadFault ≡ status.WriteFault = sym is ∙ h in cc) in
        read_begun whole begins new e r failed (text written);
    write = fault_line_cut whole closes new e result r front read;
  }

-- ---- and so the call ends as its run does, which is that of a feed at fault

malformed_stops : (end : End) → EndsMalformed end → Stops end
malformed_stops (Malformed at) h = tt
malformed_stops other h = absurd h

truncated_stops : (end : End) → EndsTruncated end → Stops end
truncated_stops (Truncated at) h = tt
truncated_stops other h = absurd h

long_stops : (end : End) → EndsTooLong end → Stops end
long_stops (TooLong taken) h = tt
long_stops other h = absurd h

-- where a feed is at fault, its run is what is due, and then that fault
abbrev pub RunCloses : (List ℕ → List ℕ) → (List ℕ → Run) → Type 0
RunCloses due run = (input : List ℕ) (end : End) → (fed input).end ≡ end → Stops end → run input ≡ ran (due input) (feed_fault end)

pub text_closes : (due : List ℕ → List ℕ) (run : List ℕ → Run) → RunCloses due run → Closes due (λ input. run_text (run input))
text_closes due run closes input end e stops = ap run_text (closes input end e stops) ∙ ap (λ (t : List ℕ). due input ++ t) (feed_line end)

module _ (due : List ℕ → List ℕ) (run : List ℕ → Run) (closes : RunCloses due run) where
  ended : (before old new : Option (List ℕ)) (s : Status) (Q : End → Type 0) → ((end : End) → Q end → Stops end) → ((end : End) → Q end → s ≡ last_status (feed_fault end)) → IfSome before (λ input. Appends old new (run_text (run input)) × Q (fed input).end) → IfSome before (λ input. Ended (run input) s old new)
  ended before old new s Q stops is h = if_some before _ _ (λ input x. record {
    status = is (fed input).end x.1 ∙ sym (ap run_status (closes input (fed input).end refl (stops (fed input).end x.1)));
    took = x.0;
  }) h

  pub fault_by : {before after old new : Option (List ℕ)} (P : Status → Type 0) (s : Status) → FaultEnds due (λ input. run_text (run input)) before after old new s → (IfSome before (λ input. Ended (run input) status.Malformed old new) × IfSome before (λ input. after ≡ Some (behind is_early [] input)) → P status.Malformed)
      → (IfSome before (λ input. Ended (run input) status.Truncated old new) × IfSome before (λ input. after ≡ Some []) → P status.Truncated)
      → (IfSome before (λ input. Ended (run input) status.TooLong old new) × IfSome before (λ input. after ≡ Some (drop feed_limit input)) → P status.TooLong)
      → ((given : List ℕ) × Consumes before after given × Appends old new (due given) → IfSome before (λ input. AppendsFront old new (run_text (run input))) → P status.ReadFault) → (IfSome before (λ input. AppendsFront old new (run_text (run input))) → P status.WriteFault) → P s
  fault_by {before = before} {old = old} {new = new} P status.Malformed f malformed truncated long read write = malformed (ended before old new status.Malformed EndsMalformed malformed_stops malformed_status (f.malformed refl), f.malformed_end refl)
  fault_by {before = before} {old = old} {new = new} P status.Truncated f malformed truncated long read write = truncated (ended before old new status.Truncated EndsTruncated truncated_stops truncated_status (f.truncated refl), f.truncated_end refl)
  fault_by {before = before} {old = old} {new = new} P status.TooLong f malformed truncated long read write = long (ended before old new status.TooLong EndsTooLong long_stops long_status (f.too_long refl), f.too_long_end refl)
  fault_by {before = before} {old = old} {new = new} P status.ReadFault f malformed truncated long read write = read (f.read refl) (f.read_front refl)
  fault_by {before = before} {old = old} {new = new} P status.WriteFault f malformed truncated long read write = write (f.write refl)
  fault_by {before = before} {old = old} {new = new} P other f malformed truncated long read write = absurd f.among

-- of a feed at fault nothing else is told
pub closing_stops : (lines : List ℕ) (fault : Option Fault) (end end' : End) → end' ≡ end → Stops end → closing_run end' lines fault ≡ ran [] (feed_fault end)
closing_stops lines fault (Malformed at) end' e stops = ap (λ (x : End). closing_run x lines fault) e
closing_stops lines fault (Truncated at) end' e stops = ap (λ (x : End). closing_run x lines fault) e
closing_stops lines fault (TooLong taken) end' e stops = ap (λ (x : End). closing_run x lines fault) e
closing_stops lines fault (Whole rest) end' e stops = absurd stops
