-- How a run with a journal ends, from how its feed was answered.
use Rattle.std.proofs.Common.{◌≡◌, ◌⊎◌, inl, inr, ℕ, ◌≤◌, Bool, true, false, cond, ◌==◌, ◌||◌, List, [], ◌++◌, length, Option, Some, None, IfSome, IsSome, Result, Ok, Err, refl, sym, ap, subst, ◌∙◌, arith, length-append}
use Rattle.std.specs.Str.{bytes_eq}
use Rattle.std.specs.Io.KnownBytes.{Appends, Consumes}
use Rattle.std.proofs.lemmas.Bool.{eq-eqb, eqb-true, ne_eqb}
use Rattle.std.proofs.lemmas.Slice.Eq.{bytes_eq-Decides}
use Rattle.sp_disk.specs.Images.{Among, EachIs}
use Rattle.sp_disk.specs.Moments.{IsMoment, Leaves, Looks, Moment as DiskMoment}
use Rattle.sp_disk.proofs.Runs.{goes_on, started, weaker}
use Rattle.sp_feed.specs.Feed.{End}
use Rattle.sp_feed.specs.Format.{Head}
use Rattle.sp_feed.specs.Kinds.{Said}
use Rattle.sp_feed.specs.Reads.{Moment}
use Rattle.sp_io.specs.Whole.{AppendsFront}
use Rattle.sp_journal.specs.Creation.{IsSynced}
use Rattle.sp_journal.specs.Journal.{Contents}
use Rattle.sp_journal.specs.Opening.{contents_in, Opening}
use Rattle.sp_journal.specs.Records.{Damaged as damaged, Found as found, NoJournal, Records, records}
use Rattle.sp_journal.specs.Settled.{IsTold}
use Rattle.sp_node.specs.Stored.{Tells}
use Rattle.sp_node.specs.declared.stored.Stored.{Stored}
use Rattle.sp_node.specs.declared.stored.Stored.TheVariants.{Empty, Found}
use Rattle.sp_block.specs.Block.{ReadBlock}
use Rattle.sp_block.specs.declared.fault.BlockFault.{BlockFault}
use Rattle.sp_engine.specs.Blocks.{block_in}
use Rattle.spectre.specs.Chains.{EndAtHead}
use Rattle.spectre.specs.Crashes.{all_of, contents_by, contents_of, contents_under, EndsEarly, HoldsAcknowledged, HoldsAtLeast, HoldsFoundOrMore, IsSure, Recovery, TookMore}
use Rattle.spectre.specs.Fault.{DamagedAt, NoJournal as no_journal, OtherChain}
use Rattle.spectre.specs.Run.{Ended, last_status, ran, run_status, run_text}
use Rattle.spectre.specs.RunOf.{answer_run, chain_in, chain_of, disk_fault, feed_fault, found_run, kept_run, node_run}
use Rattle.spectre.proofs.RunTexts.{answer_text}
use Rattle.spectre.specs.Journals.{blocks_in, Fits, FitsHead, found_blocks, IsChainOf, is_chain_of, HasNoJournal, may_be_new}
use Rattle.spectre.specs.Keeping.{bytes_of, FitsStored, records_in, Tries}
use Rattle.spectre.specs.Replay.{fed, replayed}
use Rattle.spectre.specs.declared.status.Status.{Status}
use Rattle.spectre.specs.declared.status.Status.TheVariants as status
use Rattle.spectre.specs.Taken.{TakesFeed}
use Rattle.spectre.specs.declared.replay.ReplayFault.{ReplayFault}
use Rattle.spectre.proofs.Running.{front_fewer, whole_front}
use Rattle.sp_model.specs.declared.profile.Profile.{Profile}
use Rattle.sp_model.proofs.ProfileNames.{one_number}
use Rattle.sp_model.specs.Profiles.{number}
use Rattle.spectre.specs.Replay.{head_terms}

-- ---- where source and disk tell their bytes

abbrev pub OnBoth : Option (List ℕ) → Option (List ℕ) → (List ℕ → List ℕ → Type 0) → Type 0
OnBoth left reads P = IfSome left (λ input. IfSome reads (λ disk. P disk input))

pub on_both : (left reads : Option (List ℕ)) (P : List ℕ → List ℕ → Type 0) → ((disk input : List ℕ) → left ≡ Some input → reads ≡ Some disk → P disk input) → OnBoth left reads P
on_both None reads P f = tt
on_both (Some input) None P f = tt
on_both (Some input) (Some disk) P f = f disk input refl refl

pub on_one : (o : Option (List ℕ)) (P : List ℕ → Type 0) → ((x : List ℕ) → o ≡ Some x → P x) → IfSome o P
on_one None P f = tt
on_one (Some x) P f = f x refl

pub at_one : {o : Option (List ℕ)} {x : List ℕ} (P : List ℕ → Type 0) → o ≡ Some x → IfSome o P → P x
at_one {o = o} {x = x} P e h = let here : IfSome (Some x) P = subst (λ (p : Option (List ℕ)). IfSome p P) e h in here

pub told_by : (m : DiskMoment) (disk : List ℕ) → m.reads ≡ Some disk → IsTold m
told_by m disk e = subst IsSome (sym e) refl

-- ---- what was found, and what is written over it

-- the head is that of the chain, or there is none
abbrev pub Accepts : Stored → Option Head → Type 0
Accepts stored None = Unit {0}
Accepts stored (Some head) = FitsStored stored (Some head)

pub accepts : (stored : Stored) (head : Option Head) → FitsStored stored head → Accepts stored head
accepts stored None fits = tt
accepts stored (Some head) fits = fits

module _ (fresh : Bool) (disk : List ℕ) where
  pub records_are : (stored : Stored) → Tells fresh disk (Ok stored) → records disk ≡ records_in stored
  records_are (Empty gate) t = t.0.none
  records_are (Found o) t = t

  pub blocks_are : (stored : Stored) → Tells fresh disk (Ok stored) → found_blocks disk ≡ bytes_of stored
  blocks_are stored t = ap blocks_in (records_are stored t)

  or_right : (b : Bool) → (b || true) ≡ true
  or_right true = refl
  or_right false = refl

  is_new : (length disk ≡ 0) ⊎ (fresh ≡ true) → may_be_new fresh disk ≡ true
  is_new (inl none) = let e : (length disk == 0) ≡ true = eq-eqb (length disk) 0 none in ap (λ (b : Bool). fresh || b) e ∙ or_right fresh
  is_new (inr new) = ap (λ (b : Bool). b || (length disk == 0)) new

  pub chain_yes : (c : Contents) (head : Head) → IsChainOf c head → is_chain_of c head ≡ true
  chain_yes c head is =
      let one : (c.bits == head.bits) ≡ true = eq-eqb c.bits head.bits is.bits in
      let two : bytes_eq c.genesis head.genesis ≡ true = (bytes_eq-Decides c.genesis head.genesis).1 is.genesis in
      let three : (number c.profile == number head.profile) ≡ true = eq-eqb (number c.profile) (number head.profile) (ap number is.profile) in
      rw (one, two, three) refl

  pub chain_no : (c : Contents) (head : Head) → (IsChainOf c head → ⊥) → is_chain_of c head ≡ false
  chain_no c head other = by (c.bits == head.bits) (bytes_eq c.genesis head.genesis) (number c.profile == number head.profile) refl refl refl
    where
      by : (a b d : Bool) → (c.bits == head.bits) ≡ a → bytes_eq c.genesis head.genesis ≡ b → (number c.profile == number head.profile) ≡ d → is_chain_of c head ≡ false
      by true true true p q r = absurd (other (record { profile = one_number c.profile head.profile (eqb-true (number c.profile) (number head.profile) r); bits = eqb-true c.bits head.bits p; genesis = (bytes_eq-Decides c.genesis head.genesis).0 q }))
      by true true false p q r = rw (p, q, r) refl
      by true false d p q r = rw (p, q) refl
      by false b d p q r = rw p refl

  found_is : (o : Opening) (input : List ℕ) (head : Option Head) → Accepts (Found o) head → found_run (contents_in o) head input ≡ answer_run (bytes_of (Found o)) input
  found_is o input None a = refl
  found_is o input (Some head) a = ap (λ (b : Bool). cond b (answer_run (contents_in o).blocks input) (ran [] (Some (OtherChain (chain_in (contents_in o)) (chain_of head))))) (chain_yes (contents_in o) head a)

  -- so the run is that of the feed over the blocks that were found
  pub node_is : (stored : Stored) (input : List ℕ) → Tells fresh disk (Ok stored) → Accepts stored (fed input).head → node_run fresh disk input ≡ answer_run (bytes_of stored) input
  unfolding node_run
  node_is (Empty gate) input t a = ap (λ (r : Records). kept_run fresh disk r input) t.0.none ∙ ap (λ (b : Bool). cond b (answer_run [] input) (disk_fault no_journal)) (is_new t.1)
  node_is (Found o) input t a = ap (λ (r : Records). kept_run fresh disk r input) t ∙ found_is o input (fed input).head a

  -- or that of another chain
  pub node_other : (o : Opening) (input : List ℕ) (head : Head) → Tells fresh disk (Ok (Found o)) → (fed input).head ≡ Some head → (IsChainOf (contents_in o) head → ⊥)
      → node_run fresh disk input ≡ ran [] (Some (OtherChain (chain_in (contents_in o)) (chain_of head)))
  unfolding node_run
  node_other o input head t e other =
      ap (λ (r : Records). kept_run fresh disk r input) t ∙ ap (λ (h : Option Head). found_run (contents_in o) h input) e
      ∙ ap (λ (b : Bool). cond b (answer_run (contents_in o).blocks input) (ran [] (Some (OtherChain (chain_in (contents_in o)) (chain_of head))))) (chain_no (contents_in o) head other)

  -- the disk fits the feed just where the head is that of what was found
  fits_by : (stored : Stored) (head : Option Head) → Tells fresh disk (Ok stored) → FitsStored stored head → FitsHead fresh disk (records_in stored) head
  fits_by stored None t f = absurd f
  fits_by (Empty gate) (Some head) t f = t.1
  fits_by (Found o) (Some head) t f = f

  fits_back : (stored : Stored) (head : Option Head) → FitsHead fresh disk (records_in stored) head → FitsStored stored head
  fits_back stored None f = absurd f
  fits_back (Empty gate) (Some head) f = tt
  fits_back (Found o) (Some head) f = f

  pub fits_there : (stored : Stored) (input : List ℕ) → Tells fresh disk (Ok stored) → FitsStored stored (fed input).head → Fits fresh disk input
  fits_there stored input t f = subst (λ (r : Records). FitsHead fresh disk r (fed input).head) (sym (records_are stored t)) (fits_by stored (fed input).head t f)

  pub fits_here : (stored : Stored) (input : List ℕ) → Tells fresh disk (Ok stored) → Fits fresh disk input → FitsStored stored (fed input).head
  fits_here stored input t f = fits_back stored (fed input).head (subst (λ (r : Records). FitsHead fresh disk r (fed input).head) (records_are stored t) f)

-- ---- what a crash leaves

module _ (first last : DiskMoment) (law : IsMoment first) (disk : List ℕ) (reads : first.reads ≡ Some disk) where
  all_are : IsSynced first → Among (λ image. records image ≡ records disk) first.images
  all_are synced image left = ap records (at_one (λ (bytes : List ℕ). EachIs bytes first.images) reads synced image left)

  -- the disk was only looked at
  pub looked_since : Looks first last → IsSynced first → Leaves first last (λ image. records image ≡ records disk)
  looked_since looks synced = goes_on first first last (λ image. records image ≡ records disk) (started first (λ image. records image ≡ records disk) law (all_are synced)) looks.time (λ image left. all_are synced image (looks.crash image left))

  pub looked_now : Looks first last → IsSynced first → Among (λ image. records image ≡ records disk) last.images
  looked_now looks synced image left = all_are synced image (looks.crash image left)

-- nothing was taken by the sink
no_more : (old new : Option (List ℕ)) → Appends old new [] → TookMore old new → ⊥
no_more None new same more = let no : (let o : Option (List ℕ) = None in o) ≡ Some more.before = more.was in absurd cc
no_more (Some xs) None same more = absurd same
no_more (Some xs) (Some ys) same more =
    let a : xs ≡ more.before = some_is more.was in
    let b : ys ≡ more.before ++ more.more = some_is more.now in
    absurd (omega (arith, ap length a, ap length b, ap length same, length-append xs [], length-append more.before more.more, more.some))
  where
    some_is : {x y : List ℕ} → Some x ≡ Some y → x ≡ y
    some_is e = cc e

pub sure_synced : (first : DiskMoment) (old new : Option (List ℕ)) (s : Status) → Appends old new [] → (s ≡ status.Done → ⊥) → IsSure first old new s → IsSynced first
sure_synced first old new s same not_done (inl synced) = synced
sure_synced first old new s same not_done (inr (inl more)) = absurd (no_more old new same more)
sure_synced first old new s same not_done (inr (inr done)) = absurd (not_done done)

early_done : (s : Status) → EndsEarly s → s ≡ status.Done → ⊥
early_done s early is = let e : EndsEarly status.Done = subst EndsEarly is early in absurd e

module _ (fresh : Bool) (disk input : List ℕ) (left old new : Option (List ℕ)) (first last : DiskMoment) (s : Status) (law : IsMoment first) (last_law : IsMoment last) (reads : first.reads ≡ Some disk) (given : List ℕ) (consumed : Consumes (Some input) left given) where
  -- an early end
  pub early_recovery : Looks first last → Appends old new [] → EndsEarly s → EndAtHead given → (s ≡ status.ReadFault → (fed given).head ≡ None) → Recovery fresh disk input left old new first last s
  early_recovery looks silent early headed unstarted = record {
    given = given;
    consumed = consumed;
    now = λ fits sure image l. inl (looked_now first last law disk reads looks (sure_synced first old new s silent (early_done s early) sure) image l, record { ends = early; silent = silent; headed = headed; unstarted = unstarted });
    whole = λ fits done. absurd (early_done s early done);
    any_moment = λ fits synced. weaker first last (λ image. records image ≡ records disk) (HoldsFoundOrMore (records disk) given) (looked_since first last law disk reads looks synced) (λ image h. inl h);
    other = λ no. looks;
  }

  -- the disk doesn't fit the feed
  pub other_recovery : Looks first last → (Fits fresh disk input → ⊥) → Recovery fresh disk input left old new first last s
  other_recovery looks misfit = record {
    given = given;
    consumed = consumed;
    now = λ fits sure image l. absurd (misfit fits);
    whole = λ fits done. absurd (misfit fits);
    any_moment = λ fits synced. absurd (misfit fits);
    other = λ no. looks;
  }

-- ---- of what all was answered, all is held

contents_fewer : (before : List (List ℕ)) (head : Option Head) (answered rest : List Said) → length (contents_under before head answered).blocks ≤ length (contents_under before head (answered ++ rest)).blocks
contents_fewer before None answered rest = omega arith
contents_fewer before (Some head) answered rest = by (block_in true head.genesis)
  where
    by : (r : Result ReadBlock BlockFault) → length (contents_by before r (head_terms head) answered).blocks ≤ length (contents_by before r (head_terms head) (answered ++ rest)).blocks
    by (Ok genesis) = front_fewer (head_terms head) genesis before answered rest
    by (Err fault) = omega arith

-- an image that holds all of it holds what was acknowledged, whatever that was
pub holds_all : (before : List (List ℕ)) (given : List ℕ) (old new : Option (List ℕ)) (image : List ℕ) → records image ≡ found (contents_of before given (all_of given)) → HoldsAcknowledged before given old new image
holds_all before given old new image is some answered rest e took =
    whole_front (length (contents_of before given answered).blocks) (contents_of before given (all_of given)) image
    (subst (λ (l : List Said). length (contents_of before given answered).blocks ≤ length (contents_of before given l).blocks) (sym e) (contents_fewer before (fed given).head answered rest)) is

-- ---- the recovery of a run whose node was started

module _ (fresh : Bool) (disk input : List ℕ) (stored : Stored) (t : Tells fresh disk (Ok stored)) {start now : Moment} {old mid : Option (List ℕ)} (new : Option (List ℕ)) (first last : DiskMoment) (law : IsMoment first) (reads : first.reads ≡ Some disk) (left : start.left ≡ Some input)
    {result : Result (Unit {0}) ReplayFault} (tries : Tries stored start now old mid first last result) where
  abbrev seen : List ℕ
  seen = tries.0.given

  is_told : IsTold first
  is_told = told_by first disk reads

  fits_now : Fits fresh disk input
  fits_now = fits_there fresh disk stored input t (at_one (λ (i : List ℕ). FitsStored stored (fed i).head) left tries.1.fits)

  abbrev same_records : records disk ≡ records_in stored
  same_records = records_are fresh disk stored t

  started_recovery : (s : Status) → Among (λ image. HoldsAcknowledged (bytes_of stored) seen old new image) last.images
      → (s ≡ status.Done → Among (λ image. records image ≡ found (contents_of (bytes_of stored) seen (all_of seen))) last.images) → Recovery fresh disk input now.left old new first last s
  started_recovery s acked whole = record {
    given = seen;
    consumed = subst (λ (o : Option (List ℕ)). Consumes o now.left seen) left tries.0.took.consumed;
    now = λ fits sure image l. inr (subst (λ (r : Records). HoldsAtLeast (length (blocks_in r)) (blocks_in r) seen image × HoldsAcknowledged (blocks_in r) seen old new image) (sym same_records) ((tries.1.now is_told image l).0, acked image l));
    whole = λ fits done image l. subst (λ (r : Records). records image ≡ found (contents_of (blocks_in r) seen (all_of seen))) (sym same_records) (whole done image l);
    any_moment = λ fits synced. subst (λ (r : Records). Leaves first last (HoldsFoundOrMore r seen)) (sym same_records) (tries.1.any_moment is_told synced);
    other = λ misfit. absurd (misfit fits_now);
  }

-- the sink is as it was left by the answers
pub stopped_recovery : (fresh : Bool) (disk input : List ℕ) (stored : Stored) → Tells fresh disk (Ok stored) → {start now : Moment} {old new : Option (List ℕ)} (first last : DiskMoment) → IsMoment first → first.reads ≡ Some disk → start.left ≡ Some input
    → {result : Result (Unit {0}) ReplayFault} → Tries stored start now old new first last result → (s : Status) → (s ≡ status.Done → ⊥) → Recovery fresh disk input now.left old new first last s
stopped_recovery fresh disk input stored t {new = new} first last law reads left tries s not_done =
    started_recovery fresh disk input stored t new first last law reads left tries s (λ image l. (tries.1.now (told_by first disk reads) image l).1) (λ done. absurd (not_done done))

-- all messages were answered, and perhaps more was written
pub answered_recovery : (fresh : Bool) (disk input : List ℕ) (stored : Stored) → Tells fresh disk (Ok stored) → {start now : Moment} {old mid : Option (List ℕ)} (new : Option (List ℕ)) (first last : DiskMoment) → IsMoment first → (reads : first.reads ≡ Some disk) → start.left ≡ Some input
    → {result : Result (Unit {0}) ReplayFault} (tries : Tries stored start now old mid first last result) → Among (λ image. records image ≡ found (contents_of (bytes_of stored) tries.0.given (all_of tries.0.given))) last.images
    → (s : Status) → Recovery fresh disk input now.left old new first last s
answered_recovery fresh disk input stored t {old = old} new first last law reads left tries all s =
    started_recovery fresh disk input stored t new first last law reads left tries s (λ image l. holds_all (bytes_of stored) tries.0.given old new image (all image l)) (λ done. all)

-- ---- texts

module _ (fresh : Bool) (stored : Stored) (left reads : Option (List ℕ)) (tells : IfSome reads (λ disk. Tells fresh disk (Ok stored))) where
  abbrev Accepted : Type 0
  Accepted = IfSome left (λ input. Accepts stored (fed input).head)

  pub whole_run : (old new : Option (List ℕ)) (s : Status) (P : End → Type 0) → ((end : End) → P end → s ≡ last_status (feed_fault end)) → Accepted → IfSome left (λ input. Appends old new (replayed (bytes_of stored) input) × P (fed input).end)
      → OnBoth left reads (λ disk input. Ended (node_run fresh disk input) s old new)
  whole_run old new s P is acc h = on_both left reads _ (λ disk input l r.
      let t = at_one (λ (d : List ℕ). Tells fresh d (Ok stored)) r tells in
      let here = at_one (λ (i : List ℕ). Appends old new (replayed (bytes_of stored) i) × P (fed i).end) l h in
      let run = node_is fresh disk stored input t (at_one (λ (i : List ℕ). Accepts stored (fed i).head) l acc) in
      record {
        status = is (fed input).end here.1 ∙ sym (ap run_status run);
        took = subst (λ (x : List ℕ). Appends old new x) (sym (ap run_text run ∙ answer_text (bytes_of stored) input)) here.0;
      })

  pub front_of_text : (old new : Option (List ℕ)) → Accepted → IfSome left (λ input. AppendsFront old new (replayed (bytes_of stored) input)) → OnBoth left reads (λ disk input. AppendsFront old new (run_text (node_run fresh disk input)))
  front_of_text old new acc h = on_both left reads _ (λ disk input l r.
      let t = at_one (λ (d : List ℕ). Tells fresh d (Ok stored)) r tells in
      subst (λ (x : List ℕ). AppendsFront old new x) (sym (ap run_text (node_is fresh disk stored input t (at_one (λ (i : List ℕ). Accepts stored (fed i).head) l acc)) ∙ answer_text (bytes_of stored) input))
      (at_one (λ (i : List ℕ). AppendsFront old new (replayed (bytes_of stored) i)) l h))

  pub fitting : IfSome left (λ input. FitsStored stored (fed input).head) → Accepted
  fitting h = on_one left _ (λ input l. accepts stored (fed input).head (at_one (λ (i : List ℕ). FitsStored stored (fed i).head) l h))

  pub feed_taken : (after old new : Option (List ℕ)) → TakesFeed (bytes_of stored) left after old new → IfSome reads (λ disk. TakesFeed (found_blocks disk) left after old new)
  feed_taken after old new h = on_one reads _ (λ disk r. subst (λ (l : List (List ℕ)). TakesFeed l left after old new) (sym (blocks_are fresh disk stored (at_one (λ (d : List ℕ). Tells fresh d (Ok stored)) r tells))) h)

  pub same_found : (P : List (List ℕ) → Type 0) → P (bytes_of stored) → IfSome reads (λ disk. P (found_blocks disk))
  same_found P h = on_one reads _ (λ disk r. subst P (sym (blocks_are fresh disk stored (at_one (λ (d : List ℕ). Tells fresh d (Ok stored)) r tells))) h)

-- ---- a disk that isn't opened as a journal

not_new : (fresh : Bool) (disk : List ℕ) → (length disk ≡ 0 → ⊥) → fresh ≡ false → may_be_new fresh disk ≡ false
not_new fresh disk some old = let e : (length disk == 0) ≡ false = ne_eqb (length disk) 0 some in rw (old, e) refl

pub none_misfits : (fresh : Bool) (disk input : List ℕ) → HasNoJournal fresh disk → Fits fresh disk input → ⊥
none_misfits fresh disk input h fits = by (fed input).head (subst (λ (r : Records). FitsHead fresh disk r (fed input).head) h.none fits)
  where
    by : (head : Option Head) → FitsHead fresh disk NoJournal head → ⊥
    by None f = f
    by (Some head) (inl none) = h.some none
    by (Some head) (inr new) = absurd (let no : true ≡ false = sym new ∙ h.old in cc)

pub damaged_misfits : (fresh : Bool) (disk input : List ℕ) (at : ℕ) → records disk ≡ damaged at → Fits fresh disk input → ⊥
damaged_misfits fresh disk input at is fits = by (fed input).head (subst (λ (r : Records). FitsHead fresh disk r (fed input).head) is fits)
  where
    by : (head : Option Head) → FitsHead fresh disk (damaged at) head → ⊥
    by None f = f
    by (Some head) f = f

-- and its run

pub none_run : (fresh : Bool) (disk input : List ℕ) → HasNoJournal fresh disk → node_run fresh disk input ≡ disk_fault no_journal
unfolding node_run
none_run fresh disk input h =
    ap (λ (r : Records). kept_run fresh disk r input) h.none ∙ ap (λ (b : Bool). cond b (answer_run [] input) (disk_fault no_journal)) (not_new fresh disk h.some h.old)

pub damaged_run : (fresh : Bool) (disk input : List ℕ) (at : ℕ) → records disk ≡ damaged at → node_run fresh disk input ≡ disk_fault (DamagedAt at)
unfolding node_run
damaged_run fresh disk input at is = ap (λ (r : Records). kept_run fresh disk r input) is
