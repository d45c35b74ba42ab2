-- The answering of a feed: what was read so far, and what was written.
use Rattle.std.proofs.Common.{◌≡◌, ◌≤◌, ◌+◌, ◌-◌, ℕ, take, true, arith, List, [], ◌∷◌, ◌++◌, length, Option, Some, None, Result, Ok, Err, inl, inr, refl, ap, sym, subst, ◌∙◌, append_assoc, length-append}
use Rattle.std.specs.List.{flat_map}
use Rattle.std.specs.Io.KnownBytes.{Appends}
use Rattle.std.proofs.Math.Seq.{take-nil}
use Rattle.std.proofs.lemmas.List.{append-nil, take-append-le, take_all}
use Rattle.std.proofs.lemmas.Grind.{flat_map-append}
use Rattle.sp_block.specs.Block.{ReadBlock}
use Rattle.sp_engine.specs.Arrivals.{kept_by_all}
use Rattle.sp_engine.specs.Blocks.{block_in}
use Rattle.sp_feed.specs.Calls.{GivesHead, GivesNext, onto, SaysFault, SoFar}
use Rattle.sp_feed.specs.Feed.{all_frames, Feed as FeedOf, feed, frames, no_more, rest_of, Truncated}
use Rattle.sp_feed.specs.Format.{Head, head_of}
use Rattle.sp_feed.specs.Genesis.{ReadHead}
use Rattle.sp_feed.specs.Kinds.{Said}
use Rattle.sp_feed.specs.Reader.{head_in}
use Rattle.sp_feed.specs.Reads.{Moment, QuietFault, QuietHeadFault, Took}
use Rattle.sp_feed.specs.declared.fault.FeedFault.{FeedFault}
use Rattle.sp_feed.specs.declared.fault.FeedFault.TheVariants as faults
use Rattle.sp_feed.specs.declared.fault.HeadFault.{HeadFault}
use Rattle.sp_feed.specs.declared.fault.HeadFault.TheVariants as heads
use Rattle.sp_feed.proofs.WholeFeeds.{all_end, all_memory, fault_onto, needs_next, so_far_head, so_far_more}
use Rattle.sp_feed.proofs.Joining.{split_front, took_then}
use Rattle.sp_io.specs.Causes.{Rose}
use Rattle.sp_io.specs.Whole.{AppendsAtLeast, AppendsFront, Wrote}
use Rattle.sp_io.proofs.Writing.{appends_then, at_least, at_least_then, wrote_none, wrote_stops}
use Rattle.sp_node.specs.declared.fault.NodeFault.{NodeFault}
use Rattle.sp_node.specs.declared.fault.NodeFault.TheVariants as nodes
use Rattle.sp_node.specs.Node.{HasNodeCause}
use Rattle.sp_names.specs.Labels.{no_labels}
use Rattle.sp_node.specs.Answers.{answers, arrivals_of, kept_then, reply, reply_of}
use Rattle.sp_node.proofs.AnswerLists.{answers-append, answers-push, kept_then_by_all}
use Rattle.spectre.specs.Scenes.{lines_by}
use Rattle.spectre.specs.Replay.{but_last, fed, feed_limit, lines_under, message_lines, replied, replied_but_last}
use Rattle.spectre.specs.Replaying.{Answering, HasWriteCause, Replies, SaysReply}
use Rattle.spectre.specs.Taken.{AreAnswered, AreNeeded}
use Rattle.spectre.specs.declared.replay.ReplayFault.{ReplayFault}
use Rattle.spectre.specs.declared.replay.ReplayFault.TheVariants.{DiskFault, Feed, Memory, WriteFault}
use Rattle.spectre.specs.Heads.{as_replay, of_node}
use Rattle.sp_node.specs.Terms.{Terms, terms_of}

pub appends_none : (a : Option (List ℕ)) → Appends a a []
appends_none None = tt
appends_none (Some ws) = sym (append-nil ws)

pub lines_are : (before : List (List ℕ)) (genesis : ReadBlock) (terms : Terms) (messages : List Said) → block_in true genesis.bytes ≡ Ok genesis → lines_under before (Some (head_of terms.profile terms.bits genesis.bytes)) messages ≡ answers no_labels genesis terms before messages
lines_are before genesis terms messages spelled = ap (λ r. lines_by no_labels r terms before messages) spelled

-- what a feed with these messages writes for them
pub replied_is : (before : List (List ℕ)) (input : List ℕ) (f : FeedOf) → fed input ≡ f → replied before input ≡ message_lines before f
unfolding replied
replied_is before input f e = ap (message_lines before) e

-- before the head is whole, no message is due a line

pub head_needed : {start now : Moment} {X : Type 0} {view : X → Head} {r : Result X HeadFault} (g : GivesHead feed_limit start now view r) → AreNeeded g.given
head_needed g front rest e l = ap (λ (f : FeedOf). f.end) (g.needs front rest e l)

pub head_answered : {start now : Moment} {X : Type 0} {view : X → Head} {r : Result X HeadFault} (before : List (List ℕ)) (old : Option (List ℕ)) (g : GivesHead feed_limit start now view r) → AreAnswered before old old g.given
head_answered before old g front rest e l =
    subst (λ (t : List ℕ). AppendsAtLeast old old t) (sym (replied_is before front _ (g.needs front rest e l))) ([], appends_none old)

-- the head was read, and nothing is written yet
pub at_head : {start now : Moment} {head : ReadHead} {terms : Terms} {kept : List ReadBlock} (before : List (List ℕ)) (old : Option (List ℕ)) → start.taken ≡ 0 → GivesHead feed_limit start now head_in (Ok head) → block_in true head.genesis.bytes ≡ Ok head.genesis
    → terms ≡ terms_of head.profile head.bits → kept ≡ kept_by_all head.bits head.genesis before → Answering before start now old old terms kept
unfolding answers so_far_head
at_head {start = start} {now = now} {head = head} {terms = terms} {kept = kept} before old z g spelled b k =
    subst (λ (n : Terms). Answering before start now old old n kept) (sym b) (record {
      genesis = head.genesis;
      spelled = spelled;
      messages = [];
      so_far = so_far_head [] z g;
      kept_is = k ∙ ap (kept_by_all head.bits head.genesis) (sym (append-nil before));
      wrote = appends_none old;
      answered = head_answered before old g;
    })

-- in a front of the bytes so far and of those of the next call, all messages were answered
pub answered_next : {start mid now : Moment} {old seen : Option (List ℕ)} {terms : Terms} {kept : List ReadBlock} {X : Type 0} {view : X → Option Said} {r : Result X FeedFault}
    (before : List (List ℕ)) (a : Answering before start mid old seen terms kept) (g : GivesNext feed_limit mid now view r) → AreAnswered before old seen (a.so_far.given ++ g.given)
answered_next {mid = mid} {old = old} {seen = seen} {terms = terms} before a g front rest e l =
    elim (split_front a.so_far.given g.given front rest e) [
      | inl s ↦ a.answered front s.0 s.1 s.2
      | inr s ↦ (let head = head_of terms.profile terms.bits a.genesis.bytes in
          let none : rest_of feed_limit mid.taken s.0 ≡ no_more (Truncated (mid.taken + length s.0)) = g.needs s.0 rest s.2 l in
          let is : replied before front ≡ answers no_labels a.genesis terms before a.messages =
          ap (replied before) s.1 ∙ replied_is before (a.so_far.given ++ s.0) _ (a.so_far.says s.0 ∙ ap (onto head a.so_far.messages) none)
          ∙ ap (lines_under before (Some head)) (append-nil a.so_far.messages ∙ sym a.so_far.seen) ∙ lines_are before a.genesis terms a.messages a.spelled in
          at_least old seen (replied before front) (subst (λ (t : List ℕ). Appends old seen t) (sym is) a.wrote))
    ]

-- what arrived with one message more
pub arrived_more : (before : List (List ℕ)) (messages : List Said) (m : Said) → before ++ flat_map arrivals_of (messages ++ m ∷ []) ≡ (before ++ flat_map arrivals_of messages) ++ arrivals_of m
arrived_more before messages m =
    ap (λ (l : List (List ℕ)). before ++ l) (flat_map-append arrivals_of messages (m ∷ []) ∙ ap (λ (l : List (List ℕ)). flat_map arrivals_of messages ++ l) (append-nil (arrivals_of m)))
    ∙ sym (append_assoc before (flat_map arrivals_of messages) (arrivals_of m))

-- one message more was answered
pub one_more : {start mid now : Moment} {old seen new : Option (List ℕ)} {terms terms' : Terms} {kept kept' : List ReadBlock} {X : Type 0} {view : X → Option Said} {x : X} (before : List (List ℕ)) (m : Said)
    → Answering before start mid old seen terms kept → GivesNext feed_limit mid now view (Ok x) → view x ≡ Some m
    → Appends seen new (reply_of no_labels terms kept m) → kept' ≡ kept_then terms.bits kept m → terms' ≡ terms → Answering before start now old new terms' kept'
unfolding so_far_more
one_more {start = start} {mid = mid} {now = now} {old = old} {seen = seen} {new = new} {terms = terms} {terms' = terms'} {kept = kept} {kept' = kept'} before m a g e wrote k b =
    let arrivals = before ++ flat_map arrivals_of a.messages in
    let more : before ++ flat_map arrivals_of (a.messages ++ m ∷ []) ≡ arrivals ++ arrivals_of m = arrived_more before a.messages m in
    subst (λ (n : Terms). Answering before start now old new n kept') (sym b) (record {
      genesis = a.genesis;
      spelled = a.spelled;
      messages = a.messages ++ m ∷ [];
      so_far = so_far_more m (a.messages ++ m ∷ []) a.so_far g e refl;
      kept_is = k ∙ ap (λ (l : List ReadBlock). kept_then terms.bits l m) a.kept_is ∙ kept_then_by_all terms.bits a.genesis arrivals m ∙ ap (kept_by_all terms.bits a.genesis) (sym more);
      wrote = subst (λ (t : List ℕ). Appends old new t) (sym (answers-push no_labels a.genesis terms before a.messages m))
          (appends_then old seen new (answers no_labels a.genesis terms before a.messages) (reply no_labels a.genesis terms arrivals m) a.wrote (subst (λ (l : List ReadBlock). Appends seen new (reply_of no_labels terms l m)) a.kept_is wrote));
      answered = λ front rest e l. at_least_then old seen new (replied before front) (reply_of no_labels terms kept m) (answered_next before a g front rest e l) wrote;
    })

-- the end was read
unfoldable pub at_end : {start mid now : Moment} {old new : Option (List ℕ)} {terms : Terms} {kept : List ReadBlock} {X : Type 0} {view : X → Option Said} {x : X} (before : List (List ℕ))
    → Answering before start mid old new terms kept → GivesNext feed_limit mid now view (Ok x) → view x ≡ None → Replies before start now old new (Ok tt)
unfolding all_end
at_end {start = start} {now = now} {old = old} {new = new} {terms = terms} before a g e =
    let head = head_of terms.profile terms.bits a.genesis.bytes in
    let whole = all_end (λ (h : Head). h) head a.so_far g e refl in
    record {
      given = whole.given;
      took = whole.took;
      needed = whole.needs;
      answered = answered_next before a g;
      says = λ more. (
        subst (λ (t : List ℕ). Appends old new t)
            (sym (replied_is before (whole.given ++ more) _ (whole.says more) ∙ ap (lines_under before (Some head)) (sym whole.seen) ∙ lines_are before a.genesis terms a.messages a.spelled)) a.wrote,
        ap (λ (f : FeedOf). f.end) (whole.says more),
      );
    }

-- a fault of the feed, or of its source
pub fault_says : (before : List (List ℕ)) (start now : Moment) (old new : Option (List ℕ)) (given : List ℕ) (head : Option Head) (messages : List Said) (e : FeedFault)
    → SaysFault (feed feed_limit) (λ end. record { head = head; messages = messages; end = end }) start now given e → Appends old new (lines_under before head messages) → ((more : List ℕ) → AppendsFront old new (replied before (given ++ more))) → SaysReply before start now old new given (Err (Feed e))
fault_says before start now old new given head messages (faults.Malformed at) s w begun = λ more. (
  subst (λ (t : List ℕ). Appends old new t) (sym (replied_is before (given ++ more) _ (s more))) w,
  ap (λ (f : FeedOf). f.end) (s more),
)
fault_says before start now old new given head messages (faults.Truncated at) s w begun = (
  (subst (λ (t : List ℕ). Appends old new t) (sym (replied_is before given _ s.0)) w, ap (λ (f : FeedOf). f.end) s.0),
  s.1,
)
fault_says before start now old new given head messages faults.ReadFault s w begun = (subst (λ (t : List ℕ). Appends old new t) (sym (replied_is before given _ s.0)) w, s.1, begun)
fault_says before start now old new given head messages (faults.TooLong taken) s w begun = λ more. (
  subst (λ (t : List ℕ). Appends old new t) (sym (replied_is before (given ++ more) _ (s more))) w,
  ap (λ (f : FeedOf). f.end) (s more),
)

-- whatever follows what was read so far, the answers so far come first
pub begun_with : {start mid : Moment} {old new : Option (List ℕ)} {terms : Terms} {kept : List ReadBlock} (before : List (List ℕ)) (a : Answering before start mid old new terms kept) (more : List ℕ) → AppendsFront old new (replied before (a.so_far.given ++ more))
begun_with {mid = mid} {terms = terms} before a more =
    let head = head_of terms.profile terms.bits a.genesis.bytes in
    let rest = rest_of feed_limit mid.taken more in
    let behind : List ℕ = answers no_labels a.genesis terms (before ++ flat_map arrivals_of a.messages) rest.messages in (
      behind,
      record {
        front = answers no_labels a.genesis terms before a.messages;
        appended = a.wrote;
        split = replied_is before (a.so_far.given ++ more) _ (a.so_far.says more) ∙ ap (λ (l : List Said). lines_under before (Some head) (l ++ rest.messages)) (sym a.so_far.seen)
            ∙ lines_are before a.genesis terms (a.messages ++ rest.messages) a.spelled
            ∙ answers-append no_labels a.genesis terms before a.messages rest.messages;
      },
    )

unfoldable pub at_fault : {start mid now : Moment} {old new : Option (List ℕ)} {terms : Terms} {kept : List ReadBlock} {X : Type 0} {view : X → Option Said} {e : FeedFault} (before : List (List ℕ))
    → Answering before start mid old new terms kept → GivesNext feed_limit mid now view (Err e) → Replies before start now old new (Err (Feed e))
at_fault {start = start} {mid = mid} {now = now} {old = old} {new = new} {terms = terms} {e = e} before a g =
    let head = head_of terms.profile terms.bits a.genesis.bytes in
    record {
      given = a.so_far.given ++ g.given;
      took = took_then feed_limit start mid now a.so_far.given g.given a.so_far.took g.took;
      needed = needs_next a.so_far g;
      answered = answered_next before a g;
      says = fault_says before start now old new (a.so_far.given ++ g.given) (Some head) a.so_far.messages e
          (fault_onto feed_limit start mid now head a.so_far.messages a.so_far.given g.given e a.so_far.took.later a.so_far.says g.says)
          (subst (λ (t : List ℕ). Appends old new t) (sym (ap (lines_under before (Some head)) (sym a.so_far.seen) ∙ lines_are before a.genesis terms a.messages a.spelled)) a.wrote)
          (λ more. subst (λ (l : List ℕ). AppendsFront old new (replied before l)) (sym (append_assoc a.so_far.given g.given more)) (begun_with before a (g.given ++ more)));
    }

-- nothing was written
nothing_yet : {start now : Moment} (before : List (List ℕ)) (old : Option (List ℕ)) (given : List ℕ) → Took feed_limit start now given → AreNeeded given → AreAnswered before old old given → Replies before start now old old (Err Memory)
nothing_yet before old given took needed answered = record {
  given = given;
  took = took;
  needed = needed;
  answered = answered;
  says = λ more. (replied before (given ++ more), wrote_none old (replied before (given ++ more)));
}

-- nor read
pub nothing_read : (before : List (List ℕ)) (start : Moment) (old : Option (List ℕ)) → start.taken ≤ feed_limit → Replies before start start old old (Err Memory)
nothing_read before start old h =
    let nothing = all_memory feed_limit start (λ (h : Head). h) [] h in
    nothing_yet before old nothing.given nothing.took nothing.needs (λ front rest e l. absurd (omega (arith, ap length e, length-append front rest, l)))

-- but the head
pub nothing_behind_head : {start now : Moment} {X : Type 0} {view : X → Head} {r : Result X HeadFault} (before : List (List ℕ)) (old : Option (List ℕ)) → GivesHead feed_limit start now view r → Replies before start now old old (Err Memory)
nothing_behind_head before old g = nothing_yet before old g.given g.took (head_needed g) (head_answered before old g)

-- the head was at fault
pub head_fault : {start now : Moment} {X : Type 0} {view : X → Head} (before : List (List ℕ)) (old : Option (List ℕ)) (e : HeadFault) → GivesHead feed_limit start now view (Err e) → Replies before start now old old (Err (as_replay e))
head_fault {start = start} {now = now} before old (heads.Feed e) g = record {
  given = g.given;
  took = g.took;
  needed = head_needed g;
  answered = head_answered before old g;
  says = fault_says before start now old old g.given None [] e g.says (appends_none old) (λ more. (replied before (g.given ++ more), wrote_none old (replied before (g.given ++ more))));
}
head_fault before old heads.Memory g = nothing_behind_head before old g

pub stop_says : (before : List (List ℕ)) (e : NodeFault) (start now : Moment) (old new : Option (List ℕ)) (given : List ℕ) → (e ≡ nodes.DiskFault → Appends old new (replied_but_last before given))
    → ((more : List ℕ) → AppendsFront old new (replied before (given ++ more))) → SaysReply before start now old new given (Err (of_node e))
stop_says before nodes.WriteFault start now old new given d h = h
stop_says before nodes.DiskFault start now old new given d h = (d refl, h)
stop_says before nodes.Memory start now old new given d h = h

-- no bytes bring no message
pub rest_none : (limit taken : ℕ) → (rest_of limit taken []).messages ≡ []
unfolding rest_of all_frames frames
rest_none limit taken = ap (λ (l : List ℕ). (all_frames (record { at = taken; bytes = l })).messages) (take-nil (limit - taken))

pub but_one : (messages : List Said) (m : Said) → but_last (messages ++ m ∷ []) ≡ messages
but_one messages m =
    let n : length (messages ++ m ∷ []) - 1 ≡ length messages = omega (arith, length-append messages (m ∷ [])) in
    ap (λ k. take k (messages ++ m ∷ [])) n ∙ take-append-le (length messages) messages (m ∷ []) (omega arith) ∙ take_all (length messages) messages (omega arith)

-- what a feed has of which the bytes so far say this
pub fed_so_far : {start now : Moment} {h : Head} {after : List Said} (f : SoFar feed_limit start now h [] after) → fed f.given ≡ record { head = Some h; messages = after; end = (rest_of feed_limit now.taken []).end }
fed_so_far {now = now} {h = h} {after = after} f =
    let rest = rest_of feed_limit now.taken [] in
    ap fed (sym (append-nil f.given)) ∙ f.says []
    ∙ ap (λ (l : List Said). record { head = Some h; messages = l; end = rest.end }) (ap (λ (l : List Said). f.messages ++ l) (rest_none feed_limit now.taken) ∙ append-nil f.messages ∙ sym f.seen)

-- a message wasn't answered
unfoldable pub not_answered : {start mid now : Moment} {old seen new : Option (List ℕ)} {terms : Terms} {kept : List ReadBlock} {X : Type 0} {view : X → Option Said} {x : X} (before : List (List ℕ)) (fault : NodeFault) (m : Said)
    → Answering before start mid old seen terms kept → GivesNext feed_limit mid now view (Ok x) → view x ≡ Some m → (fault ≡ nodes.DiskFault → new ≡ seen) → AppendsFront seen new (reply_of no_labels terms kept m) → Replies before start now old new (Err (of_node fault))
unfolding so_far_more
not_answered {start = start} {mid = mid} {now = now} {old = old} {seen = seen} {new = new} {terms = terms} {kept = kept} before fault m a g e silent front =
    let head = head_of terms.profile terms.bits a.genesis.bytes in
    let arrivals = before ++ flat_map arrivals_of a.messages in
    let s = so_far_more m (a.messages ++ m ∷ []) a.so_far g e refl in
    let is : fed s.given ≡ record { head = Some head; messages = a.messages ++ m ∷ []; end = (rest_of feed_limit now.taken []).end } = fed_so_far s in
    let but : replied_but_last before s.given ≡ answers no_labels a.genesis terms before a.messages =
    ap (λ (f : FeedOf). lines_under before f.head (but_last f.messages)) is ∙ ap (lines_under before (Some head)) (but_one a.messages m) ∙ lines_are before a.genesis terms a.messages a.spelled in
    record {
      given = s.given;
      took = s.took;
      needed = s.needs;
      answered = λ part rest k l. at_least_then old seen new (replied before part) front.1.front (answered_next before a g part rest k l) front.1.appended;
      says = stop_says before fault start now old new s.given
          (λ d. subst (λ (o : Option (List ℕ)). Appends old o (replied_but_last before s.given)) (sym (silent d)) (subst (λ (t : List ℕ). Appends old seen t) (sym but) a.wrote))
          (λ more.
          let rest = rest_of feed_limit now.taken more in
          let here : List ℕ = reply no_labels a.genesis terms arrivals m in
          let behind : List ℕ = answers no_labels a.genesis terms (before ++ flat_map arrivals_of (a.messages ++ m ∷ [])) rest.messages in
          let whole : replied before (s.given ++ more) ≡ answers no_labels a.genesis terms before a.messages ++ (here ++ behind) =
          replied_is before (s.given ++ more) _ (s.says more) ∙ ap (λ (l : List Said). lines_under before (Some head) (l ++ rest.messages)) (sym s.seen)
          ∙ lines_are before a.genesis terms ((a.messages ++ m ∷ []) ++ rest.messages) a.spelled
          ∙ answers-append no_labels a.genesis terms before (a.messages ++ m ∷ []) rest.messages
          ∙ ap (λ (t : List ℕ). t ++ behind) (answers-push no_labels a.genesis terms before a.messages m)
          ∙ append_assoc (answers no_labels a.genesis terms before a.messages) here behind in
          let w : Wrote old seen (replied before (s.given ++ more)) (here ++ behind) = record { front = answers no_labels a.genesis terms before a.messages; appended = a.wrote; split = whole } in
          wrote_stops here behind w (subst (λ (l : List ReadBlock). AppendsFront seen new (reply_of no_labels terms l m)) a.kept_is front));
    }

pub stop_cause : (e : NodeFault) (before mid now disk_before disk_now : ℕ) → mid ≡ before → HasNodeCause mid now disk_before disk_now e → HasWriteCause before now (of_node e)
stop_cause nodes.WriteFault before mid now disk_before disk_now same rose = omega (arith, same, rose)
stop_cause nodes.DiskFault before mid now disk_before disk_now same rose = tt
stop_cause nodes.Memory before mid now disk_before disk_now same rose = tt

-- no count rose but that of the fault

pub quiet_next : (e : FeedFault) (before now : ℕ) → QuietFault before now e → (e ≡ faults.ReadFault → ⊥) → now ≡ before
quiet_next (faults.Malformed at) before now quiet other = quiet
quiet_next (faults.Truncated at) before now quiet other = quiet
quiet_next faults.ReadFault before now quiet other = absurd (other refl)
quiet_next (faults.TooLong taken) before now quiet other = quiet

pub quiet_head : (e : HeadFault) (before now : ℕ) → QuietHeadFault before now e → (as_replay e ≡ Feed faults.ReadFault → ⊥) → now ≡ before
quiet_head (heads.Feed e) before now quiet other = quiet_next e before now quiet (λ h. other (ap (λ t. Feed t) h))
quiet_head heads.Memory before now quiet other = quiet

pub quiet_node : (e : NodeFault) (before now : ℕ) → ((e ≡ nodes.WriteFault → ⊥) → now ≡ before) → (of_node e ≡ WriteFault → ⊥) → now ≡ before
quiet_node nodes.WriteFault before now quiet other = absurd (other refl)
quiet_node nodes.DiskFault before now quiet other = quiet (λ h. cc)
quiet_node nodes.Memory before now quiet other = quiet (λ h. cc)

-- the disk's fault is that of the node

pub disk_fault : (e : NodeFault) → (let r : Result (Unit {0}) ReplayFault = Err (of_node e) in r) ≡ Err DiskFault → (let r : Result (Unit {0}) NodeFault = Err e in r) ≡ Err nodes.DiskFault
disk_fault nodes.WriteFault d = absurd cc
disk_fault nodes.DiskFault d = refl
disk_fault nodes.Memory d = absurd cc

pub disk_rose : (e : NodeFault) (before mid now write_before write_now : ℕ) → mid ≡ before → HasNodeCause write_before write_now mid now e → (let r : Result (Unit {0}) ReplayFault = Err (of_node e) in r) ≡ Err DiskFault → Rose before now
disk_rose nodes.WriteFault before mid now write_before write_now same rose d = absurd cc
disk_rose nodes.DiskFault before mid now write_before write_now same rose d = omega (arith, same, rose)
disk_rose nodes.Memory before mid now write_before write_now same rose d = absurd cc

pub disk_still : (e : NodeFault) (before now : ℕ) → ((e ≡ nodes.DiskFault → ⊥) → now ≡ before) → ((let r : Result (Unit {0}) ReplayFault = Err (of_node e) in r) ≡ Err DiskFault → ⊥) → now ≡ before
disk_still nodes.WriteFault before now quiet other = quiet (λ h. cc)
disk_still nodes.DiskFault before now quiet other = absurd (other refl)
disk_still nodes.Memory before now quiet other = quiet (λ h. cc)
