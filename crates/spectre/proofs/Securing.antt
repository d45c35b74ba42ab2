-- What the answering of a feed's messages leaves on the disk of a node, by how it ended.
use Rattle.std.proofs.Common.{◌≡◌, ◌⊎◌, inl, inr, ℕ, ◌<◌, ◌≤◌, true, List, [], ◌∷◌, ◌++◌, length, Option, Some, None, IsSome, Result, Ok, Err, refl, sym, ap, subst, ◌∙◌, arith, length-append}
use Rattle.std.specs.Prelude.{is_some}
use Rattle.std.specs.List.{flat_map}
use Rattle.std.specs.Io.KnownBytes.{Appends}
use Rattle.std.proofs.lemmas.List.{append-nil}
use Rattle.sp_block.specs.Block.{ReadBlock}
use Rattle.sp_disk.specs.Moments.{IsMoment, Moment as DiskMoment}
use Rattle.sp_disk.proofs.Runs.{ends}
use Rattle.sp_engine.specs.Arrivals.{kept_by_all}
use Rattle.sp_engine.specs.Blocks.{block_in}
use Rattle.sp_feed.specs.Calls.{GivesNext, SaysFault}
use Rattle.sp_feed.specs.Feed.{End, Feed as FeedOf, feed, Whole}
use Rattle.sp_feed.specs.Format.{Head, head_of}
use Rattle.sp_feed.specs.Kinds.{Said, SaysBlock, SaysVote, SaysTx, SaysBalance, SaysPairs, SaysReport}
use Rattle.sp_feed.specs.Reads.{Moment}
use Rattle.sp_feed.specs.declared.fault.FeedFault.{FeedFault}
use Rattle.sp_feed.specs.declared.fault.FeedFault.TheVariants as faults
use Rattle.sp_feed.proofs.WholeFeeds.{all_end, fault_onto, so_far_more}
use Rattle.sp_io.specs.Whole.{AppendsAtLeast, AppendsFront}
use Rattle.sp_journal.specs.Journal.{Contents}
use Rattle.sp_journal.specs.Prefixes.{HoldsFront}
use Rattle.sp_journal.specs.Records.{Found, records}
use Rattle.sp_journal.specs.Settled.{SameTold}
use Rattle.sp_journal.specs.Writer.{Writer}
use Rattle.sp_names.specs.Labels.{AreAllLabels, AreLabels, no_labels}
use Rattle.sp_node.specs.Answers.{answers, arrivals_of, IsQuestion, kept_then, reply, reply_of}
use Rattle.sp_node.specs.Journalled.{HoldsOn, HoldsThen, IsKeptOn, journal_in, LeavesOn}
use Rattle.sp_node.specs.declared.fault.NodeFault.{NodeFault}
use Rattle.sp_node.specs.declared.fault.NodeFault.TheVariants as nodes
use Rattle.sp_node.proofs.AnswerLengths.{answers_are_lines}
use Rattle.sp_node.proofs.AnswerLists.{answers-push, kept_then_by_all}
use Rattle.sp_pool.specs.Kept.{AreKept}
use Rattle.spectre.specs.Crashes.{all_of, contents_by, contents_of, contents_under, HoldsAcknowledged}
use Rattle.spectre.specs.Heads.{of_node}
use Rattle.spectre.specs.Replay.{fed, feed_limit, lines_under}
use Rattle.spectre.specs.Replaying.{Answering, OnAll}
use Rattle.spectre.specs.Running.{RestReplies, Secures}
use Rattle.spectre.specs.declared.replay.ReplayFault.{ReplayFault}
use Rattle.spectre.specs.declared.replay.ReplayFault.TheVariants.{DiskFault, Feed, Memory, WriteFault}
use Rattle.spectre.proofs.Replies.{arrived_more, at_end, at_fault, fed_so_far, lines_are, not_answered}
use Rattle.spectre.proofs.Running.{fewer, first_on, front_fewer, has_on, IsRun, more_on, run_from, run_since, whole_front}
use Rattle.sp_node.specs.Terms.{Terms}

-- ---- what is said where there is a journal

holds_more : (w : Option Writer) (m : DiskMoment) (P Q : List ℕ → Type 0) → ((image : List ℕ) → P image → Q image) → HoldsOn w m P → HoldsOn w m Q
holds_more None m P Q f h = tt
holds_more (Some w) m P Q f h = λ told image left. f image (h told image left)

kept_holds : (v w : Option Writer) → is_some v ≡ is_some w → (terms : Terms) (kept : List ReadBlock) (m : DiskMoment) → IsKeptOn terms kept v m → HoldsOn w m (λ image. records image ≡ Found (journal_in terms kept))
kept_holds v None e terms kept m stands = tt
kept_holds None (Some w) e terms kept m stands = absurd cc
kept_holds (Some v) (Some w) e terms kept m stands = λ told. (stands told).holds

leaves_holds : (w : Option Writer) (first last : DiskMoment) (P : List ℕ → Type 0) → IsMoment last → SameTold first last → LeavesOn w first last P → HoldsOn w last P
leaves_holds None first last P law told run = tt
leaves_holds (Some w) first last P law told run = λ is. ends first last P law (run (told.1 is))

leaves_more : (w : Option Writer) (first last : DiskMoment) (P Q : List ℕ → Type 0) → P ≡ Q → LeavesOn w first last P → LeavesOn w first last Q
leaves_more w first last P Q e run = subst (λ (R : List ℕ → Type 0). LeavesOn w first last R) e run

-- ---- which messages were answered whole

none_named : AreAllLabels no_labels
none_named = let none : AreLabels [] = record { once = tt; short = λ k d none. absurd (omega (arith, none)) } in record { blocks = none; txs = none; locks = none }

last_split : {X : Type 0} (xs : List X) (m : X) (ys zs : List X) → xs ++ m ∷ [] ≡ ys ++ zs → (ys ≡ xs ++ m ∷ []) ⊎ ((ws : List X) × (xs ≡ ys ++ ws))
last_split xs m [] zs e = inr (xs, refl)
last_split [] m (y ∷ []) zs e = inl (let same : m ≡ y = cc e in ap (λ k. k ∷ []) (sym same))
last_split [] m (y ∷ z ∷ ys) zs e = absurd (cc e)
last_split (x ∷ xs) m (y ∷ ys) zs e =
    let same : x ≡ y = cc e in
    let tails : xs ++ m ∷ [] ≡ ys ++ zs = cc e in
    elim (last_split xs m ys zs tails) [
      | inl p ↦ inl (ap (λ t. y ∷ t) p ∙ ap (λ k. k ∷ (xs ++ m ∷ [])) (sym same))
      | inr p ↦ inr (p.0, ap (λ t. x ∷ t) p.1 ∙ ap (λ k. k ∷ (ys ++ p.0)) same)
    ]

same_size : (old new : Option (List ℕ)) (a b : List ℕ) → IsSome old → Appends old new a → Appends old new b → length a ≡ length b
same_size None new a b some first second = absurd cc
same_size (Some xs) None a b some first second = absurd first
same_size (Some xs) (Some ys) a b some first second = omega (arith, ap length first, ap length second, length-append xs a, length-append xs b)

module _ (before : List (List ℕ)) (genesis : ReadBlock) (terms : Terms) where
  -- the journal of what is kept of these messages
  abbrev pub kept_of : List Said → Contents
  kept_of messages = journal_in terms (kept_by_all terms.bits genesis (before ++ flat_map arrivals_of messages))

  question_same : (messages : List Said) (m : Said) → IsQuestion m → kept_of (messages ++ m ∷ []) ≡ kept_of messages
  question_same messages m q = ap (λ (l : List (List ℕ)). journal_in terms (kept_by_all terms.bits genesis l)) (arrived_more before messages m ∙ none m q)
    where
      none : (m : Said) → IsQuestion m → (before ++ flat_map arrivals_of messages) ++ arrivals_of m ≡ before ++ flat_map arrivals_of messages
      none (SaysBlock bytes) q = absurd q
      none (SaysVote x y) q = append-nil (before ++ flat_map arrivals_of messages)
      none (SaysTx id) q = append-nil (before ++ flat_map arrivals_of messages)
      none (SaysBalance lock) q = append-nil (before ++ flat_map arrivals_of messages)
      none SaysPairs q = append-nil (before ++ flat_map arrivals_of messages)
      none SaysReport q = append-nil (before ++ flat_map arrivals_of messages)

  -- A message that wasn't answered doesn't count, unless nothing is kept of it: a block has a line.
  pub unanswered : (old new : Option (List ℕ)) (messages : List Said) (m : Said) → Appends old new (answers no_labels genesis terms before messages)
      → (answered rest : List Said) → messages ++ m ∷ [] ≡ answered ++ rest → IsSome old → AppendsAtLeast old new (answers no_labels genesis terms before answered)
      → length (kept_of answered).blocks ≤ length (kept_of messages).blocks
  unanswered old new messages m wrote answered rest e some took =
      elim (last_split messages m answered rest e) [
        | inl all ↦ by m all
        | inr part ↦ subst (λ (l : List Said). length (kept_of answered).blocks ≤ length (kept_of l).blocks) (sym part.1) (front_fewer terms genesis before answered part.0)
      ]
    where
      long : (m : Said) → answered ≡ messages ++ m ∷ [] → 0 < length (reply no_labels genesis terms (before ++ flat_map arrivals_of messages) m) → ⊥
      long m all some_bytes =
          let here : List ℕ = reply no_labels genesis terms (before ++ flat_map arrivals_of messages) m in
          let lines : answers no_labels genesis terms before answered ≡ answers no_labels genesis terms before messages ++ here = ap (answers no_labels genesis terms before) all ∙ answers-push no_labels genesis terms before messages m in
          let size = same_size old new (answers no_labels genesis terms before messages) (answers no_labels genesis terms before answered ++ took.0) some wrote took.1 in
          absurd (omega (arith, size, ap length lines, length-append (answers no_labels genesis terms before answered) took.0, length-append (answers no_labels genesis terms before messages) here, some_bytes))

      by : (m : Said) → answered ≡ messages ++ m ∷ [] → length (kept_of answered).blocks ≤ length (kept_of messages).blocks
      by (SaysBlock bytes) all =
          let line = answers_are_lines no_labels terms (kept_by_all terms.bits genesis (before ++ flat_map arrivals_of messages)) (SaysBlock bytes) none_named tt in
          absurd (long (SaysBlock bytes) all (omega (arith, ap length line.ends, length-append line.front (10 ∷ []))))
      by (SaysVote x y) all = omega (arith, ap (λ (l : List Said). length (kept_of l).blocks) all, ap (λ (c : Contents). length c.blocks) (question_same messages (SaysVote x y) tt))
      by (SaysTx id) all = omega (arith, ap (λ (l : List Said). length (kept_of l).blocks) all, ap (λ (c : Contents). length c.blocks) (question_same messages (SaysTx id) tt))
      by (SaysBalance lock) all = omega (arith, ap (λ (l : List Said). length (kept_of l).blocks) all, ap (λ (c : Contents). length c.blocks) (question_same messages (SaysBalance lock) tt))
      by SaysPairs all = omega (arith, ap (λ (l : List Said). length (kept_of l).blocks) all, ap (λ (c : Contents). length c.blocks) (question_same messages SaysPairs tt))
      by SaysReport all = omega (arith, ap (λ (l : List Said). length (kept_of l).blocks) all, ap (λ (c : Contents). length c.blocks) (question_same messages SaysReport tt))

  -- The bytes say this head and these messages. What a crash leaves holds the sure ones, and none but these was answered whole.
  pub secured : {old new : Option (List ℕ)} {terms' : Terms} {kept : List ReadBlock} {w : Option Writer} {first last : DiskMoment} {result : Result (Unit {0}) ReplayFault}
      (given : List ℕ) (end : End) (sure all : List Said) → block_in true genesis.bytes ≡ Ok genesis → fed given ≡ record { head = Some (head_of terms.profile terms.bits genesis.bytes); messages = all; end = end }
      → ((image : List ℕ) → records image ≡ Found (journal_in terms' kept) → HoldsFront (length (journal_in terms' kept).blocks) (kept_of all) image)
      → LeavesOn w first last (HoldsFront (length (journal_in terms' kept).blocks) (kept_of all)) → HoldsOn w last (HoldsFront (length (kept_of sure).blocks) (kept_of all))
      → ((answered rest : List Said) → all ≡ answered ++ rest → IsSome old → AppendsAtLeast old new (answers no_labels genesis terms before answered) → length (kept_of answered).blocks ≤ length (kept_of sure).blocks)
      → OnAll result (HoldsOn w last (λ image. records image ≡ Found (kept_of all))) → Secures before given old new terms' kept w first last result
  secured {old = old} {new = new} {terms' = terms'} {kept = kept} {w = w} {first = first} {last = last} {result = result} given end sure all spelled is from any held acked whole =
      let head : Option Head = Some (head_of terms.profile terms.bits genesis.bytes) in
      let by_head : (messages : List Said) → contents_of before given messages ≡ kept_of messages = λ messages. ap (λ (f : FeedOf). contents_under before f.head messages) is ∙ ap (λ r. contents_by before r terms messages) spelled in
      let here : contents_of before given (all_of given) ≡ kept_of all = ap (λ (f : FeedOf). contents_of before given f.messages) is ∙ by_head all in
      record {
        from = λ image e. subst (λ (c : Contents). HoldsFront (length (journal_in terms' kept).blocks) c image) (sym here) (from image e);
        any_moment = subst (λ (c : Contents). LeavesOn w first last (HoldsFront (length (journal_in terms' kept).blocks) c)) (sym here) any;
        acknowledged = holds_more w last (HoldsFront (length (kept_of sure).blocks) (kept_of all)) (HoldsAcknowledged before given old new)
            (λ image h some answered rest e took.
            let e2 : all ≡ answered ++ rest = sym (ap (λ (f : FeedOf). f.messages) is) ∙ e in
            let lines : lines_under before (fed given).head answered ≡ answers no_labels genesis terms before answered = ap (λ (f : FeedOf). lines_under before f.head answered) is ∙ lines_are before genesis terms answered spelled in
            let few = acked answered rest e2 some (subst (λ (t : List ℕ). AppendsAtLeast old new t) lines took) in
            subst (λ (c : Contents). HoldsFront (length (contents_of before given answered).blocks) c image) (sym here)
            (fewer (length (kept_of sure).blocks) (length (contents_of before given answered).blocks) (kept_of all) image (omega (arith, few, ap (λ (c : Contents). length c.blocks) (by_head answered))) h)) held;
        whole = by_ok result here whole;
      }
    where
      by_ok : (r : Result (Unit {0}) ReplayFault) → contents_of before given (all_of given) ≡ kept_of all → OnAll r (HoldsOn w last (λ image. records image ≡ Found (kept_of all))) → OnAll r (HoldsOn w last (λ image. records image ≡ Found (contents_of before given (all_of given))))
      by_ok (Ok u) e h = holds_more w last (λ image. records image ≡ Found (kept_of all)) (λ image. records image ≡ Found (contents_of before given (all_of given))) (λ image is. is ∙ ap Found (sym e)) h
      by_ok (Err (Feed f)) e h = holds_more w last (λ image. records image ≡ Found (kept_of all)) (λ image. records image ≡ Found (contents_of before given (all_of given))) (λ image is. is ∙ ap Found (sym e)) h
      by_ok (Err WriteFault) e h = tt
      by_ok (Err DiskFault) e h = tt
      by_ok (Err Memory) e h = tt

-- ---- how the answering can end

none_all : (P : Type 0) (f : NodeFault) → OnAll (Err (of_node f)) P
none_all P nodes.WriteFault = tt
none_all P nodes.DiskFault = tt
none_all P nodes.Memory = tt

module _ (before : List (List ℕ)) {start mid : Moment} {old seen : Option (List ℕ)} {terms : Terms} {kept : List ReadBlock} (a : Answering before start mid old seen terms kept) {terms' : Terms} {kept' : List ReadBlock} {w : Option Writer} {first here : DiskMoment} {w_now : Option Writer} (run : IsRun terms' kept' w first here terms kept w_now) where
  kept_now : journal_in terms kept ≡ kept_of before a.genesis terms a.messages
  kept_now = ap (journal_in terms) a.kept_is

  since_now : LeavesOn w first here (HoldsFront (length (journal_in terms' kept').blocks) (kept_of before a.genesis terms a.messages))
  since_now = subst (λ (c : Contents). LeavesOn w first here (HoldsFront (length (journal_in terms' kept').blocks) c)) kept_now run.since

  from_now : (image : List ℕ) → records image ≡ Found (journal_in terms' kept') → HoldsFront (length (journal_in terms' kept').blocks) (kept_of before a.genesis terms a.messages) image
  from_now image is = subst (λ (c : Contents). HoldsFront (length (journal_in terms' kept').blocks) c image) kept_now (run.from image is)

  holds_now : HoldsOn w here (λ image. records image ≡ Found (kept_of before a.genesis terms a.messages))
  holds_now = subst (λ (c : Contents). HoldsOn w here (λ image. records image ≡ Found c)) kept_now (kept_holds w_now w run.has terms kept here run.stands)

  front_now : HoldsOn w here (HoldsFront (length (kept_of before a.genesis terms a.messages).blocks) (kept_of before a.genesis terms a.messages))
  front_now = holds_more w here (λ image. records image ≡ Found (kept_of before a.genesis terms a.messages)) _ (λ image is. whole_front (length (kept_of before a.genesis terms a.messages).blocks) (kept_of before a.genesis terms a.messages) image (omega arith) is) holds_now

  all_fewer : (answered rest : List Said) → a.messages ≡ answered ++ rest → length (kept_of before a.genesis terms answered).blocks ≤ length (kept_of before a.genesis terms a.messages).blocks
  all_fewer answered rest e = subst (λ (l : List Said). length (kept_of before a.genesis terms answered).blocks ≤ length (kept_of before a.genesis terms l).blocks) (sym e) (front_fewer terms a.genesis before answered rest)

  -- all messages were answered, and these bytes say them
  all_answered : {result : Result (Unit {0}) ReplayFault} (given : List ℕ) (end : End) → fed given ≡ record { head = Some (head_of terms.profile terms.bits a.genesis.bytes); messages = a.messages; end = end } → Secures before given old seen terms' kept' w first here result
  all_answered {result = result} given end is =
      secured before a.genesis terms given end a.messages a.messages a.spelled is from_now since_now front_now (λ answered rest e some took. all_fewer answered rest e) (on_all result)
    where
      on_all : (r : Result (Unit {0}) ReplayFault) → OnAll r (HoldsOn w here (λ image. records image ≡ Found (kept_of before a.genesis terms a.messages)))
      on_all (Ok u) = holds_now
      on_all (Err (Feed f)) = holds_now
      on_all (Err WriteFault) = tt
      on_all (Err DiskFault) = tt
      on_all (Err Memory) = tt

  -- the end was read
  pub secures_end : {now : Moment} {X : Type 0} {view : X → Option Said} {x : X} → GivesNext feed_limit mid now view (Ok x) → view x ≡ None → RestReplies before start now old seen terms' kept' w first here (Ok tt)
  unfolding all_end at_end
  secures_end {now = now} g e =
      let head = head_of terms.profile terms.bits a.genesis.bytes in
      let whole = all_end (λ (h : Head). h) head a.so_far g e refl in
      (at_end before a g e, all_answered whole.given (Whole []) (ap fed (sym (append-nil whole.given)) ∙ whole.says [] ∙ ap (λ (l : List Said). record { head = Some head; messages = l; end = Whole [] }) (sym whole.seen)))

  -- a fault of the feed, or of its source
  fault_fed : (now : Moment) (given : List ℕ) (head : Option Head) (messages : List Said) (e : FeedFault) → SaysFault (feed feed_limit) (λ end. record { head = head; messages = messages; end = end }) start now given e
      → (end : End) × (fed given ≡ record { head = head; messages = messages; end = end })
  fault_fed now given head messages (faults.Malformed at) s = (_, ap fed (sym (append-nil given)) ∙ s [])
  fault_fed now given head messages (faults.Truncated at) s = (_, s.0)
  fault_fed now given head messages faults.ReadFault s = (_, s.0)
  fault_fed now given head messages (faults.TooLong taken) s = (_, ap fed (sym (append-nil given)) ∙ s [])

  pub secures_fault : {now : Moment} {X : Type 0} {view : X → Option Said} {e : FeedFault} → GivesNext feed_limit mid now view (Err e) → RestReplies before start now old seen terms' kept' w first here (Err (Feed e))
  unfolding at_fault
  secures_fault {now = now} {e = e} g =
      let head = head_of terms.profile terms.bits a.genesis.bytes in
      let says = fault_onto feed_limit start mid now head a.so_far.messages a.so_far.given g.given e a.so_far.took.later a.so_far.says g.says in
      let f = fault_fed now (a.so_far.given ++ g.given) (Some head) a.so_far.messages e says in
      (at_fault before a g, all_answered (a.so_far.given ++ g.given) f.0 (f.1 ∙ ap (λ (l : List Said). record { head = Some head; messages = l; end = f.0 }) (sym a.so_far.seen)))

  -- a message wasn't answered
  module _ {after : DiskMoment} (m : Said) (are : AreKept kept) (here_law : IsMoment here) (after_law : IsMoment after) (told : SameTold here after) (then : LeavesOn w_now here after (HoldsThen terms kept m)) where
    all_then : journal_in terms (kept_then terms.bits kept m) ≡ kept_of before a.genesis terms (a.messages ++ m ∷ [])
    all_then = ap (λ (k : List ReadBlock). journal_in terms (kept_then terms.bits k m)) a.kept_is ∙ ap (journal_in terms) (kept_then_by_all terms.bits a.genesis (before ++ flat_map arrivals_of a.messages) m) ∙ ap (λ (l : List (List ℕ)). journal_in terms (kept_by_all terms.bits a.genesis l)) (sym (arrived_more before a.messages m))

    since_then : LeavesOn w first after (HoldsFront (length (journal_in terms' kept').blocks) (kept_of before a.genesis terms (a.messages ++ m ∷ [])))
    since_then = subst (λ (c : Contents). LeavesOn w first after (HoldsFront (length (journal_in terms' kept').blocks) c)) all_then (run_since terms' kept' w first here after terms kept w_now run are m then)

    from_then : (image : List ℕ) → records image ≡ Found (journal_in terms' kept') → HoldsFront (length (journal_in terms' kept').blocks) (kept_of before a.genesis terms (a.messages ++ m ∷ [])) image
    from_then image is = subst (λ (c : Contents). HoldsFront (length (journal_in terms' kept').blocks) c image) all_then (run_from terms' kept' w first here after terms kept w_now run are m image is)

    -- at least what was kept before it is held
    front_then : HoldsOn w after (HoldsFront (length (kept_of before a.genesis terms a.messages).blocks) (kept_of before a.genesis terms (a.messages ++ m ∷ [])))
    front_then =
        let start_here = has_on w_now w run.has here here (HoldsFront (length (journal_in terms kept).blocks) (journal_in terms kept)) (first_on w_now terms kept here here_law run.stands) in
        let one = more_on w (length (journal_in terms kept).blocks) terms kept are here here after ((λ s. s), (λ s. s)) (omega arith) m start_here (has_on w_now w run.has here after (HoldsThen terms kept m) then) in
        let now = leaves_holds w here after (HoldsFront (length (journal_in terms kept).blocks) (journal_in terms (kept_then terms.bits kept m))) after_law told one in
        subst (λ (c : Contents). HoldsOn w after (HoldsFront (length c.blocks) (kept_of before a.genesis terms (a.messages ++ m ∷ [])))) kept_now
        (subst (λ (c : Contents). HoldsOn w after (HoldsFront (length (journal_in terms kept).blocks) c)) all_then now)

    -- nothing was written of it
    pub secures_silent : {now : Moment} {new : Option (List ℕ)} {X : Type 0} {view : X → Option Said} {x : X} (fault : NodeFault) → GivesNext feed_limit mid now view (Ok x) → view x ≡ Some m → new ≡ seen → AppendsFront seen new (reply_of no_labels terms kept m) → RestReplies before start now old new terms' kept' w first after (Err (of_node fault))
    unfolding so_far_more not_answered
    secures_silent {new = new} fault g e silent front =
        let s = so_far_more m (a.messages ++ m ∷ []) a.so_far g e refl in (
          not_answered before fault m a g e (λ d. silent) front,
          secured before a.genesis terms s.given _ a.messages (a.messages ++ m ∷ []) a.spelled (fed_so_far s) from_then since_then front_then
              (λ answered rest k some took. unanswered before a.genesis terms old new a.messages m (subst (λ (o : Option (List ℕ)). Appends old o (answers no_labels a.genesis terms before a.messages)) (sym silent) a.wrote) answered rest k some took) (none_all _ fault),
        )

    -- a front of it was written, and its block is held
    pub secures_cut : {now : Moment} {new : Option (List ℕ)} {X : Type 0} {view : X → Option Said} {x : X} (terms_then : Terms) (kept_after : List ReadBlock) (w_then : Option Writer) (fault : NodeFault) → GivesNext feed_limit mid now view (Ok x) → view x ≡ Some m → (fault ≡ nodes.DiskFault → new ≡ seen) → AppendsFront seen new (reply_of no_labels terms kept m) → terms_then ≡ terms → kept_after ≡ kept_then terms.bits kept m → is_some w_then ≡ is_some w_now → IsKeptOn terms_then kept_after w_then after
        → RestReplies before start now old new terms' kept' w first after (Err (of_node fault))
    unfolding so_far_more not_answered
    secures_cut terms_then kept_after w_then fault g e silent written b k h stands =
        let s = so_far_more m (a.messages ++ m ∷ []) a.so_far g e refl in
        let all = a.messages ++ m ∷ [] in
        let is : journal_in terms_then kept_after ≡ kept_of before a.genesis terms all = (λ i. journal_in (b i) (k i)) ∙ all_then in
        let held = subst (λ (c : Contents). HoldsOn w after (λ image. records image ≡ Found c)) is (kept_holds w_then w (h ∙ run.has) terms_then kept_after after stands) in
        let front = holds_more w after (λ image. records image ≡ Found (kept_of before a.genesis terms all)) (HoldsFront (length (kept_of before a.genesis terms all).blocks) (kept_of before a.genesis terms all))
        (λ image is. whole_front (length (kept_of before a.genesis terms all).blocks) (kept_of before a.genesis terms all) image (omega arith) is) held in (
          not_answered before fault m a g e silent written,
          secured before a.genesis terms s.given _ all all a.spelled (fed_so_far s) from_then since_then front
              (λ answered rest e some took. subst (λ (l : List Said). length (kept_of before a.genesis terms answered).blocks ≤ length (kept_of before a.genesis terms l).blocks) (sym e) (front_fewer terms a.genesis before answered rest)) (none_all _ fault),
        )

    pub secures_stop : {now : Moment} {new : Option (List ℕ)} {X : Type 0} {view : X → Option Said} {x : X} (terms_then : Terms) (kept_after : List ReadBlock) (w_then : Option Writer) (fault : NodeFault) → GivesNext feed_limit mid now view (Ok x) → view x ≡ Some m
        → (fault ≡ nodes.DiskFault → new ≡ seen) → (fault ≡ nodes.Memory → new ≡ seen) → AppendsFront seen new (reply_of no_labels terms kept m) → terms_then ≡ terms → (fault ≡ nodes.WriteFault → kept_after ≡ kept_then terms.bits kept m) → is_some w_then ≡ is_some w_now
        → (fault ≡ nodes.WriteFault → IsKeptOn terms_then kept_after w_then after) → RestReplies before start now old new terms' kept' w first after (Err (of_node fault))
    secures_stop terms_then kept_after w_then nodes.WriteFault g e disk memory written b k h stands = secures_cut terms_then kept_after w_then nodes.WriteFault g e disk written b (k refl) h (stands refl)
    secures_stop terms_then kept_after w_then nodes.DiskFault g e disk memory written b k h stands = secures_silent nodes.DiskFault g e (disk refl) written
    secures_stop terms_then kept_after w_then nodes.Memory g e disk memory written b k h stands = secures_silent nodes.Memory g e (memory refl) written
