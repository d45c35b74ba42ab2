-- What was found stays, whatever the feed is: each image holds just that, or a journal that goes on from it.
use Rattle.std.proofs.Common.{◌≡◌, ◌⊎◌, inl, inr, ⊎_elim, ℕ, ◌≤◌, Bool, List, [], ◌++◌, drop, length, take, Option, Some, IfSome, Result, Ok, Err, sym, ap, subst, ◌∙◌, arith, take-append-drop}
use Rattle.std.proofs.lemmas.List.{length-take-le, take-take}
use Rattle.sp_disk.specs.Moments.{IsMoment, Leaves, Looks, Moment as DiskMoment}
use Rattle.sp_disk.proofs.Runs.{weaker}
use Rattle.sp_feed.specs.Reads.{Moment}
use Rattle.sp_feed.specs.declared.fault.FeedFault.TheVariants as faults
use Rattle.sp_journal.specs.Creation.{HoldsNoneOrNew, IsSynced}
use Rattle.sp_journal.specs.Journal.{Contents, contents}
use Rattle.sp_journal.specs.Opening.{contents_in}
use Rattle.sp_journal.specs.Prefixes.{front_of, HoldsFront}
use Rattle.sp_journal.specs.Records.{Found as found, NoJournal, Records, records}
use Rattle.sp_node.specs.Stored.{IsFound, Tells}
use Rattle.sp_node.specs.declared.stored.Stored.{Stored}
use Rattle.sp_node.specs.declared.stored.Stored.TheVariants.{Empty, Found}
use Rattle.spectre.specs.Crashes.{all_of, contents_of, HoldsAtLeast, HoldsFoundOrMore, HoldsOnward}
use Rattle.spectre.specs.Keeping.{bytes_of, IsAmiss, KeepAnswers, records_in, TriedBy, Tries, UntriedBy}
use Rattle.spectre.specs.declared.keep.KeepFault.{KeepFault}
use Rattle.spectre.specs.declared.keep.KeepFault.TheVariants.{DiskFault, Feed, Memory, OtherChain, WriteFault}
use Rattle.spectre.specs.declared.replay.ReplayFault.{ReplayFault}
use Rattle.spectre.proofs.KeptRuns.{at_one, looked_since, on_one, records_are, told_by}

-- two fronts of one journal, of which the shorter was found

same_contents : {a b : Contents} → found a ≡ found b → a ≡ b
same_contents e = cc e

longer : (l : List (List ℕ)) (few many : ℕ) → few ≤ many → take many l ≡ take few l ++ drop few (take many l)
longer l few many le = sym (take-append-drop few (take many l)) ∙ ap (λ (front : List (List ℕ)). front ++ drop few (take many l)) (take-take few many l le)

onward_front : (f c : Contents) (disk image : List ℕ) → records disk ≡ found f → HoldsFront (length f.blocks) c disk → HoldsFront (length f.blocks) c image → HoldsOnward (found f) image
onward_front f c disk image is first h =
    let e : f ≡ front_of c first.count = same_contents (sym is ∙ first.holds) in
    let n : length f.blocks ≡ first.count = ap (λ (x : Contents). length x.blocks) e ∙ length-take-le first.count c.blocks first.high in
    let le : first.count ≤ h.count = omega (arith, n, h.low) in
    inr (
      front_of c h.count,
      h.holds,
      (
        sym (ap (λ (x : Contents). x.profile) e),
        sym (ap (λ (x : Contents). x.bits) e),
        sym (ap (λ (x : Contents). x.genesis) e),
        (drop first.count (take h.count c.blocks), longer c.blocks first.count h.count le ∙ ap (λ (front : List (List ℕ)). front ++ drop first.count (take h.count c.blocks)) (sym (ap (λ (x : Contents). x.blocks) e))),
      ),
    )

-- so much is said of a run, where the disk tells its bytes
abbrev pub Stays : DiskMoment → DiskMoment → Type 0
Stays first last = IfSome first.reads (λ disk. IsSynced first → Leaves first last (HoldsOnward (records disk)))

-- the disk was only looked at
pub looked_stays : (first last : DiskMoment) → IsMoment first → Looks first last → Stays first last
looked_stays first last law looks = on_one first.reads _ (λ disk r synced. weaker first last (λ image. records image ≡ records disk) (HoldsOnward (records disk)) (looked_since first last law disk r looks synced) (λ image h. inl h))

module _ (fresh : Bool) (stored : Stored) (first last : DiskMoment) (law : IsMoment first) (tells : IfSome first.reads (λ disk. Tells fresh disk (Ok stored))) where
  tells_at : (disk : List ℕ) → first.reads ≡ Some disk → Tells fresh disk (Ok stored)
  tells_at disk r = at_one (λ (d : List ℕ). Tells fresh d (Ok stored)) r tells

  -- a node was started
  by_stored : (s : Stored) (given disk image : List ℕ) → (IsFound s → (i : List ℕ) → records i ≡ records_in s → HoldsAtLeast (length (bytes_of s)) (bytes_of s) given i) → records disk ≡ records_in s → HoldsFoundOrMore (records_in s) given image → HoldsOnward (records_in s) image
  by_stored s given disk image from is (inl same) = inl same
  by_stored (Empty gate) given disk image from is (inr h) = inr (front_of (contents_of [] given (all_of given)) h.count, h.holds, tt)
  by_stored (Found o) given disk image from is (inr h) = onward_front (contents_in o) (contents_of (bytes_of (Found o)) given (all_of given)) disk image is (from tt disk is) h

  started_stays : {start now : Moment} {old mid : Option (List ℕ)} {result : Result (Unit {0}) ReplayFault} → Tries stored start now old mid first last result → Stays first last
  started_stays t = on_one first.reads _ (λ disk r synced.
      let same = records_are fresh disk stored (tells_at disk r) in
      subst (λ (x : Records). Leaves first last (HoldsOnward x)) (sym same)
      (weaker first last (HoldsFoundOrMore (records_in stored) t.0.given) (HoldsOnward (records_in stored)) (t.1.any_moment (told_by first disk r) synced) (λ image h. by_stored stored t.0.given disk image t.1.from same h)))

  tried_stays : (start now : Moment) (old mid : Option (List ℕ)) (result : Result (Unit {0}) KeepFault) → TriedBy stored start now old mid first last result → Stays first last
  tried_stays start now old mid (Ok u) t = started_stays {start = start} {now = now} {old = old} {mid = mid} t
  tried_stays start now old mid (Err (Feed fault)) t = started_stays {start = start} {now = now} {old = old} {mid = mid} t
  tried_stays start now old mid (Err (OtherChain a b p c d q)) t = absurd t
  tried_stays start now old mid (Err WriteFault) t = started_stays {start = start} {now = now} {old = old} {mid = mid} t
  tried_stays start now old mid (Err DiskFault) t = started_stays {start = start} {now = now} {old = old} {mid = mid} t
  tried_stays start now old mid (Err Memory) t = started_stays {start = start} {now = now} {old = old} {mid = mid} t

  -- none was
  amiss_stays : (given : List ℕ) (m : IsAmiss given first last) → ((disk : List ℕ) → first.reads ≡ Some disk → records disk ≡ NoJournal) → Stays first last
  amiss_stays given m none = on_one first.reads _ (λ disk r synced.
      let new : Contents = contents m.terms.profile m.terms.bits m.genesis.bytes [] in
      subst (λ (x : Records). Leaves first last (HoldsOnward x)) (sym (none disk r))
      (weaker first last (HoldsNoneOrNew new) (HoldsOnward NoJournal) (m.leaves (told_by first disk r) synced) (λ image h. ⊎_elim (λ no_one. inl no_one) (λ one. inr (new, one, tt)) h)))

  untried_stays : (start now : Moment) (given : List ℕ) (result : Result (Unit {0}) KeepFault) → UntriedBy stored start now given first last result → Stays first last
  untried_stays start now given (Ok u) w = absurd w
  untried_stays start now given (Err (Feed (faults.Malformed at))) w = looked_stays first last law w.1
  untried_stays start now given (Err (Feed (faults.Truncated at))) w = looked_stays first last law w.2
  untried_stays start now given (Err (Feed faults.ReadFault)) w = looked_stays first last law w.2
  untried_stays start now given (Err (Feed (faults.TooLong taken))) w = looked_stays first last law w.1
  untried_stays start now given (Err (OtherChain a b p c d q)) w = looked_stays first last law w.1
  untried_stays start now given (Err WriteFault) w = absurd w
  untried_stays start now given (Err DiskFault) w = by stored w (λ disk r. records_are fresh disk stored (tells_at disk r))
    where
      by : (s : Stored) → UntriedBy s start now given first last (Err DiskFault) → ((disk : List ℕ) → first.reads ≡ Some disk → records disk ≡ records_in s) → Stays first last
      by (Empty gate) m none = amiss_stays given m none
      by (Found o) m none = absurd m
  untried_stays start now given (Err Memory) w = looked_stays first last law w

  pub answered_stays : {start now : Moment} {old mid : Option (List ℕ)} {result : Result (Unit {0}) KeepFault} → KeepAnswers stored start now old mid first last result → Stays first last
  answered_stays {start = start} {now = now} {result = result} (inl u) = untried_stays start now u.given result u.why
  answered_stays {start = start} {now = now} {old = old} {mid = mid} {result = result} (inr t) = tried_stays start now old mid result t
