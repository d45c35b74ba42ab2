-- The watching of a feed, call by call: what was read so far, what was written, and what the watch has seen.
use Rattle.std.proofs.Common.{◌≡◌, ◌≤◌, ◌+◌, ℕ, List, [], ◌∷◌, ◌++◌, length, Option, Some, None, Result, Ok, Err, true, inl, inr, refl, ap, sym, subst, ◌∙◌, append_assoc, length-append, arith}
use Rattle.std.specs.Io.KnownBytes.{Appends}
use Rattle.std.specs.List.{flat_map}
use Rattle.std.proofs.lemmas.List.{append-nil}
use Rattle.std.proofs.lemmas.Grind.{flat_map-append}
use Rattle.sp_block.specs.Block.{ReadBlock}
use Rattle.sp_block.specs.declared.fault.BlockFault.{BlockFault}
use Rattle.sp_engine.specs.Arrivals.{kept_by_all}
use Rattle.sp_engine.specs.Blocks.{block_in}
use Rattle.sp_feed.specs.Calls.{GivesHead, GivesNext, onto, SaysFault}
use Rattle.sp_feed.specs.Feed.{End, Feed as FeedOf, feed, Malformed, no_more, rest_of, TooLong, Truncated, Whole}
use Rattle.sp_feed.specs.Format.{Head, head_of}
use Rattle.sp_feed.specs.Genesis.{ReadHead}
use Rattle.sp_feed.specs.Kinds.{Said}
use Rattle.sp_feed.specs.Reader.{head_in}
use Rattle.sp_feed.specs.Reads.{Moment, Took}
use Rattle.sp_feed.specs.declared.fault.FeedFault.{FeedFault}
use Rattle.sp_feed.specs.declared.fault.FeedFault.TheVariants as faults
use Rattle.sp_feed.specs.declared.fault.HeadFault.{HeadFault}
use Rattle.sp_feed.specs.declared.fault.HeadFault.TheVariants as heads
use Rattle.sp_feed.proofs.WholeFeeds.{all_end, all_memory, fault_onto, needs_next, so_far_head, so_far_more}
use Rattle.sp_feed.proofs.Joining.{split_front, took_then}
use Rattle.sp_io.specs.Whole.{AppendsAtLeast, AppendsFront, Wrote}
use Rattle.sp_io.proofs.Writing.{appends_then, at_least, at_least_then, wrote_none, wrote_stops}
use Rattle.sp_names.specs.Labels.{no_labels}
use Rattle.sp_node.specs.Answers.{arrivals_of, kept_then, reply_of}
use Rattle.sp_node.specs.Terms.{Terms, terms_of}
use Rattle.sp_node.proofs.AnswerLists.{kept_then_by_all}
use Rattle.sp_watch.specs.Lines.{held_of}
use Rattle.sp_watch.specs.Watching.{watch_of, Watched}
use Rattle.sp_watch.specs.declared.item.Item.{Item}
use Rattle.spectre.specs.Heads.{as_replay, of_stop}
use Rattle.spectre.specs.Replay.{end_text, fed, feed_limit}
use Rattle.spectre.specs.Ends.{HasStopCause}
use Rattle.spectre.specs.Replaying.{HasWriteCause, SaysDue}
use Rattle.spectre.specs.Taken.{AreNeeded, AreTold}
use Rattle.spectre.specs.Watches.{held_by, held_under, turned_text, watch_end, watch_lines_by, watch_lines_under, watch_replied, watch_replies, watch_reply, watched}
use Rattle.spectre.specs.Watching.{answer_then, Following, Follows, HasSeen, none_due, SaysWatch, watch_then, Watches}
use Rattle.spectre.specs.declared.ending.Stop.{Stop}
use Rattle.spectre.specs.declared.ending.Stop.TheVariants as stops
use Rattle.spectre.specs.declared.replay.ReplayFault.{ReplayFault}
use Rattle.spectre.specs.declared.replay.ReplayFault.TheVariants.{DiskFault, Feed, Memory, WriteFault}
use Rattle.spectre.proofs.Due.{Begins, Closes, front_due, Stops}
use Rattle.spectre.proofs.Replies.{appends_none}
use Rattle.spectre.proofs.WatchedMessages.{held_now, replies-append, replies-push, seen_first, seen_next, text_next}

-- ---- what is written, by the feed

replied_is : (items : List Item) (input : List ℕ) (f : FeedOf) → fed input ≡ f → watch_replied items input ≡ watch_lines_under items f.head f.messages
unfolding watch_replied
replied_is items input f e = ap (λ (g : FeedOf). watch_lines_under items g.head g.messages) e

lines_are : (items : List Item) (genesis : ReadBlock) (terms : Terms) (messages : List Said) → block_in true genesis.bytes ≡ Ok genesis → watch_lines_under items (Some (head_of terms.profile terms.bits genesis.bytes)) messages ≡ watch_replies genesis terms items [] messages
lines_are items genesis terms messages spelled = ap (λ (r : Result ReadBlock BlockFault). watch_lines_by items r terms messages) spelled

stops_so : (items : List Item) (f : FeedOf) (end end' : End) → end' ≡ end → Stops end → watch_end items f end' ≡ end_text end
stops_so items f (Malformed at) end' e stops = ap (watch_end items f) e
stops_so items f (Truncated at) end' e stops = ap (watch_end items f) e
stops_so items f (TooLong taken) end' e stops = ap (watch_end items f) e
stops_so items f (Whole rest) end' e stops = absurd stops

pub watched_closes : (items : List Item) → Closes (watch_replied items) (watched items)
unfolding watched
watched_closes items input end e stops = ap (λ (t : List ℕ). watch_replied items input ++ t) (stops_so items (fed input) end (fed input).end e stops)

pub watched_begins : (items : List Item) → Begins (watch_replied items) (watched items)
unfolding watched
watched_begins items input = (watch_end items (fed input) (fed input).end, refl)

-- ---- before the head is whole, no message is due a line

head_needed : {start now : Moment} {X : Type 0} {view : X → Head} {r : Result X HeadFault} (g : GivesHead feed_limit start now view r) → AreNeeded g.given
head_needed g front rest e l = ap (λ (f : FeedOf). f.end) (g.needs front rest e l)

head_told : {start now : Moment} {X : Type 0} {view : X → Head} {r : Result X HeadFault} (items : List Item) (old : Option (List ℕ)) (g : GivesHead feed_limit start now view r) → AreTold (watch_replied items) old old g.given
head_told items old g front rest e l =
    subst (λ (t : List ℕ). AppendsAtLeast old old t) (sym (replied_is items front _ (g.needs front rest e l))) ([], appends_none old)

-- the head was read, and nothing is written yet
pub at_head : {start now : Moment} {head : ReadHead} {terms : Terms} {kept : List ReadBlock} {w : Watched} (items : List Item) (old : Option (List ℕ)) → start.taken ≡ 0 → GivesHead feed_limit start now head_in (Ok head) → block_in true head.genesis.bytes ≡ Ok head.genesis
    → terms ≡ terms_of head.profile head.bits → kept ≡ head.genesis ∷ [] → w ≡ watch_of terms.profile items kept → Following items start now old old terms kept w
unfolding watch_replies so_far_head
at_head {start = start} {now = now} {head = head} {terms = terms} {kept = kept} {w = w} items old z g spelled b k v =
    subst (λ (n : Terms). Following items start now old old n kept w) (sym b) (record {
      genesis = head.genesis;
      spelled = spelled;
      messages = [];
      so_far = so_far_head [] z g;
      kept_is = k;
      seen = seen_first items (terms_of head.profile head.bits) head.genesis w (v ∙ ap (λ (n : Terms). watch_of n.profile items kept) b ∙ ap (watch_of head.profile items) k);
      wrote = appends_none old;
      answered = head_told items old g;
    })

module _ (items : List Item) {start mid : Moment} {old seen : Option (List ℕ)} {terms : Terms} {kept : List ReadBlock} {w : Watched} (a : Following items start mid old seen terms kept w) where
  abbrev head : Head
  head = head_of terms.profile terms.bits a.genesis.bytes

  abbrev arrivals : List (List ℕ)
  arrivals = flat_map arrivals_of a.messages

  abbrev told : List ℕ
  told = watch_replies a.genesis terms items [] a.messages

  -- in a front of the bytes so far and of those of the next call, all messages were answered
  told_next : {now : Moment} {X : Type 0} {view : X → Option Said} {r : Result X FeedFault} (g : GivesNext feed_limit mid now view r) → AreTold (watch_replied items) old seen (a.so_far.given ++ g.given)
  told_next g front rest e l =
      elim (split_front a.so_far.given g.given front rest e) [
        | inl s ↦ a.answered front s.0 s.1 s.2
        | inr s ↦ (let none : rest_of feed_limit mid.taken s.0 ≡ no_more (Truncated (mid.taken + length s.0)) = g.needs s.0 rest s.2 l in
            let is : watch_replied items front ≡ told =
            ap (watch_replied items) s.1 ∙ replied_is items (a.so_far.given ++ s.0) _ (a.so_far.says s.0 ∙ ap (onto head a.so_far.messages) none)
            ∙ ap (watch_lines_under items (Some head)) (append-nil a.so_far.messages ∙ sym a.so_far.seen) ∙ lines_are items a.genesis terms a.messages a.spelled in
            at_least old seen (watch_replied items front) (subst (λ (t : List ℕ). Appends old seen t) (sym is) a.wrote))
      ]

  -- what arrived with one message more
  arrived_more : (m : Said) → flat_map arrivals_of (a.messages ++ m ∷ []) ≡ arrivals ++ arrivals_of m
  arrived_more m = flat_map-append arrivals_of a.messages (m ∷ []) ∙ ap (λ (l : List (List ℕ)). arrivals ++ l) (append-nil (arrivals_of m))

  -- what answers it, and tells what it changes
  answer_is : (m : Said) → answer_then terms kept w m ≡ watch_reply a.genesis terms items arrivals m
  answer_is m =
      ap (λ (t : List ℕ). reply_of no_labels terms kept m ++ t) (text_next items terms a.genesis arrivals w a.seen kept a.kept_is m)
      ∙ ap (λ (l : List ReadBlock). reply_of no_labels terms l m ++ turned_text a.genesis terms items arrivals m) a.kept_is

  -- one message more was answered
  pub one_more : {now : Moment} {new : Option (List ℕ)} {terms' : Terms} {kept' : List ReadBlock} {w' : Watched} {X : Type 0} {view : X → Option Said} {x : X} (m : Said)
      → GivesNext feed_limit mid now view (Ok x) → view x ≡ Some m → Appends seen new (answer_then terms kept w m) → kept' ≡ kept_then terms.bits kept m → w' ≡ watch_then terms.profile w (kept_then terms.bits kept m) m → terms' ≡ terms
      → Following items start now old new terms' kept' w'
  unfolding so_far_more
  one_more {now = now} {new = new} {terms' = terms'} {kept' = kept'} {w' = w'} m g e wrote k v b =
      subst (λ (n : Terms). Following items start now old new n kept' w') (sym b) (record {
        genesis = a.genesis;
        spelled = a.spelled;
        messages = a.messages ++ m ∷ [];
        so_far = so_far_more m (a.messages ++ m ∷ []) a.so_far g e refl;
        kept_is = k ∙ ap (λ (l : List ReadBlock). kept_then terms.bits l m) a.kept_is ∙ kept_then_by_all terms.bits a.genesis arrivals m ∙ ap (kept_by_all terms.bits a.genesis) (sym (arrived_more m));
        seen = subst (λ (u : Watched). HasSeen items terms a.genesis (flat_map arrivals_of (a.messages ++ m ∷ [])) u) (sym v)
            (subst (λ (l : List (List ℕ)). HasSeen items terms a.genesis l (watch_then terms.profile w (kept_then terms.bits kept m) m)) (sym (arrived_more m)) (seen_next items terms a.genesis arrivals w a.seen kept a.kept_is m));
        wrote = subst (λ (t : List ℕ). Appends old new t) (sym (replies-push a.genesis terms items a.messages m))
            (appends_then old seen new told (watch_reply a.genesis terms items arrivals m) a.wrote (subst (λ (t : List ℕ). Appends seen new t) (answer_is m) wrote));
        answered = λ front rest i l. at_least_then old seen new (watch_replied items front) (answer_then terms kept w m) (told_next g front rest i l) wrote;
      })

  -- the end was read
  pub at_end : {now : Moment} {X : Type 0} {view : X → Option Said} {x : X} → GivesNext feed_limit mid now view (Ok x) → view x ≡ None → Follows items start now old seen w (Ok tt)
  unfolding all_end watched
  at_end g e =
      let whole = all_end (λ (h : Head). h) head a.so_far g e refl in
      record {
        replies = record {
          given = whole.given;
          took = whole.took;
          needed = whole.needs;
          answered = told_next g;
          says = λ more. (
            subst (λ (t : List ℕ). Appends old seen t)
                (sym (replied_is items (whole.given ++ more) _ (whole.says more) ∙ ap (watch_lines_under items (Some head)) (sym whole.seen) ∙ lines_are items a.genesis terms a.messages a.spelled)) a.wrote,
            ap (λ (f : FeedOf). f.end) (whole.says more),
          );
        };
        held = λ more.
            ap (λ (t : List ℕ). watch_replied items (whole.given ++ more) ++ t)
            (ap (λ (f : FeedOf). watch_end items f f.end) (whole.says more)
            ∙ ap (held_under items (Some head)) (sym whole.seen) ∙ ap (λ (r : Result ReadBlock BlockFault). held_by items r terms a.messages) a.spelled
            ∙ sym (held_now items terms a.genesis arrivals w a.seen));
      }

-- a fault of the feed, or of its source
fault_says : (items : List Item) (start now : Moment) (old new : Option (List ℕ)) (given : List ℕ) (head : Option Head) (messages : List Said) (e : FeedFault)
    → SaysFault (feed feed_limit) (λ end. record { head = head; messages = messages; end = end }) start now given e → Appends old new (watch_lines_under items head messages) → ((more : List ℕ) → AppendsFront old new (watch_replied items (given ++ more))) → SaysDue (watch_replied items) none_due start now old new given (Err (Feed e))
fault_says items start now old new given first messages (faults.Malformed at) s w begun = λ more. (
  subst (λ (t : List ℕ). Appends old new t) (sym (replied_is items (given ++ more) _ (s more))) w,
  ap (λ (f : FeedOf). f.end) (s more),
)
fault_says items start now old new given first messages (faults.Truncated at) s w begun = (
  (subst (λ (t : List ℕ). Appends old new t) (sym (replied_is items given _ s.0)) w, ap (λ (f : FeedOf). f.end) s.0),
  s.1,
)
fault_says items start now old new given first messages faults.ReadFault s w begun = (subst (λ (t : List ℕ). Appends old new t) (sym (replied_is items given _ s.0)) w, s.1, begun)
fault_says items start now old new given first messages (faults.TooLong taken) s w begun = λ more. (
  subst (λ (t : List ℕ). Appends old new t) (sym (replied_is items (given ++ more) _ (s more))) w,
  ap (λ (f : FeedOf). f.end) (s more),
)

stop_says : (items : List Item) (stop : Stop) (start now : Moment) (old new : Option (List ℕ)) (given : List ℕ) → ((more : List ℕ) → AppendsFront old new (watch_replied items (given ++ more))) → SaysDue (watch_replied items) none_due start now old new given (Err (of_stop stop))
stop_says items stops.WriteFault start now old new given h = h
stop_says items stops.Memory start now old new given h = h

module _ (items : List Item) {start mid : Moment} {old seen : Option (List ℕ)} {terms : Terms} {kept : List ReadBlock} {w : Watched} (a : Following items start mid old seen terms kept w) where
  -- whatever follows what was read so far, the lines so far come first
  begun_with : (more : List ℕ) → AppendsFront old seen (watch_replied items (a.so_far.given ++ more))
  begun_with more =
      let rest = rest_of feed_limit mid.taken more in
      let behind : List ℕ = watch_replies a.genesis terms items (flat_map arrivals_of a.messages) rest.messages in (
        behind,
        record {
          front = told items a;
          appended = a.wrote;
          split = replied_is items (a.so_far.given ++ more) _ (a.so_far.says more) ∙ ap (λ (l : List Said). watch_lines_under items (Some (head items a)) (l ++ rest.messages)) (sym a.so_far.seen)
              ∙ lines_are items a.genesis terms (a.messages ++ rest.messages) a.spelled
              ∙ replies-append a.genesis terms items [] a.messages rest.messages;
        },
      )

module _ (items : List Item) {start mid now : Moment} {old seen : Option (List ℕ)} {terms : Terms} {kept : List ReadBlock} {w : Watched} (a : Following items start mid old seen terms kept w) {X : Type 0} {view : X → Option Said} where
  pub at_fault : {e : FeedFault} (v : Watched) → GivesNext feed_limit mid now view (Err e) → Follows items start now old seen v (Err (Feed e))
  at_fault {e} v g = record {
    replies = record {
      given = a.so_far.given ++ g.given;
      took = took_then feed_limit start mid now a.so_far.given g.given a.so_far.took g.took;
      needed = needs_next a.so_far g;
      answered = told_next items a g;
      says = fault_says items start now old seen (a.so_far.given ++ g.given) (Some (head items a)) a.so_far.messages e
          (fault_onto feed_limit start mid now (head items a) a.so_far.messages a.so_far.given g.given e a.so_far.took.later a.so_far.says g.says)
          (subst (λ (t : List ℕ). Appends old seen t) (sym (ap (watch_lines_under items (Some (head items a))) (sym a.so_far.seen) ∙ lines_are items a.genesis terms a.messages a.spelled)) a.wrote)
          (λ more. subst (λ (l : List ℕ). AppendsFront old seen (watch_replied items l)) (sym (append_assoc a.so_far.given g.given more)) (begun_with items a (g.given ++ more)));
    };
    held = tt;
  }

  -- a message wasn't answered, or what it changes wasn't told
  pub not_told : {new : Option (List ℕ)} {x : X} (v : Watched) (stop : Stop) (m : Said) → GivesNext feed_limit mid now view (Ok x) → view x ≡ Some m → AppendsFront seen new (answer_then terms kept w m) → Follows items start now old new v (Err (of_stop stop))
  unfolding so_far_more
  not_told {new = new} v stop m g e front =
      let s = so_far_more m (a.messages ++ m ∷ []) a.so_far g e refl in
      let h = head items a in
      record {
        replies = record {
          given = s.given;
          took = s.took;
          needed = s.needs;
          answered = λ part rest k l. at_least_then old seen new (watch_replied items part) front.1.front (told_next items a g part rest k l) front.1.appended;
          says = stop_says items stop start now old new s.given (λ more.
              let rest = rest_of feed_limit now.taken more in
              let here : List ℕ = watch_reply a.genesis terms items (arrivals items a) m in
              let behind : List ℕ = watch_replies a.genesis terms items (flat_map arrivals_of (a.messages ++ m ∷ [])) rest.messages in
              let whole : watch_replied items (s.given ++ more) ≡ told items a ++ (here ++ behind) =
              replied_is items (s.given ++ more) _ (s.says more) ∙ ap (λ (l : List Said). watch_lines_under items (Some h) (l ++ rest.messages)) (sym s.seen)
              ∙ lines_are items a.genesis terms ((a.messages ++ m ∷ []) ++ rest.messages) a.spelled
              ∙ replies-append a.genesis terms items [] (a.messages ++ m ∷ []) rest.messages
              ∙ ap (λ (t : List ℕ). t ++ behind) (replies-push a.genesis terms items a.messages m)
              ∙ append_assoc (told items a) here behind in
              let wrote : Wrote old seen (watch_replied items (s.given ++ more)) (here ++ behind) = record { front = told items a; appended = a.wrote; split = whole } in
              wrote_stops here behind wrote (subst (λ (t : List ℕ). AppendsFront seen new t) (answer_is items a m) front));
        };
        held = tt;
      }

-- ---- and then since when each value stands

module _ (items : List Item) {start now : Moment} {old : Option (List ℕ)} where
  -- nothing was written
  nothing_yet : (given : List ℕ) → Took feed_limit start now given → AreNeeded given → AreTold (watch_replied items) old old given → Watches items start now old old (Err Memory)
  nothing_yet given took needed answered = record {
    given = given;
    took = took;
    needed = needed;
    answered = answered;
    says = λ more. (watched items (given ++ more), wrote_none old (watched items (given ++ more)));
  }

  pub nothing_behind_head : {X : Type 0} {view : X → Head} {r : Result X HeadFault} → GivesHead feed_limit start now view r → Watches items start now old old (Err Memory)
  nothing_behind_head g = nothing_yet g.given g.took (head_needed g) (head_told items old g)

  -- the head was at fault
  pub head_fault : {X : Type 0} {view : X → Head} (e : HeadFault) → GivesHead feed_limit start now view (Err e) → Watches items start now old old (Err (as_replay e))
  head_fault (heads.Feed e) g = record {
    given = g.given;
    took = g.took;
    needed = head_needed g;
    answered = head_told items old g;
    says = fault_says items start now old old g.given None [] e g.says (appends_none old) (λ more. (watch_replied items (g.given ++ more), wrote_none old (watch_replied items (g.given ++ more))));
  }
  head_fault heads.Memory g = nothing_behind_head g

  -- the messages weren't watched to their end
  pub broken : {new : Option (List ℕ)} {w : Watched} (e : ReplayFault) → (e ≡ DiskFault → ⊥) → Follows items start now old new w (Err e) → Watches items start now old new (Err e)
  broken {new = new} e apart f = record { given = f.replies.given; took = f.replies.took; needed = f.replies.needed; answered = f.replies.answered; says = says e apart f.replies.given f.replies.says }
    where
      says : (e : ReplayFault) → (e ≡ DiskFault → ⊥) → (given : List ℕ) → SaysDue (watch_replied items) none_due start now old new given (Err e) → SaysWatch items start now old new given (Err e)
      says (Feed fault) apart given s = s
      says WriteFault apart given s = λ more. front_due (watch_replied items) (watched items) (watched_begins items) (given ++ more) (s more)
      says DiskFault apart given s = absurd (apart refl)
      says Memory apart given s = λ more. front_due (watch_replied items) (watched items) (watched_begins items) (given ++ more) (s more)

  -- they were, and then since when each value stands was written
  pub held_written : {mid new : Option (List ℕ)} {w : Watched} → Follows items start now old mid w (Ok tt) → Appends mid new (flat_map held_of w.entries) → Watches items start now old new (Ok tt)
  held_written {mid = mid} {new = new} {w = w} f wrote =
      let r = f.replies in
      record {
        given = r.given;
        took = r.took;
        needed = r.needed;
        answered = λ front rest e l. at_least_then old mid new (watch_replied items front) (flat_map held_of w.entries) (r.answered front rest e l) wrote;
        says = λ more. (
          subst (λ (t : List ℕ). Appends old new t) (sym (f.held more)) (appends_then old mid new (watch_replied items (r.given ++ more)) (flat_map held_of w.entries) (r.says more).0 wrote),
          (r.says more).1,
        );
      }

  -- or a front of it
  pub held_cut : {mid new : Option (List ℕ)} {w : Watched} → Follows items start now old mid w (Ok tt) → AppendsFront mid new (flat_map held_of w.entries) → Watches items start now old new (Err WriteFault)
  held_cut {mid = mid} {new = new} {w = w} f front =
      let r = f.replies in
      let held = flat_map held_of w.entries in
      record {
        given = r.given;
        took = r.took;
        needed = r.needed;
        answered = λ part rest e l. at_least_then old mid new (watch_replied items part) front.1.front (r.answered part rest e l) front.1.appended;
        says = λ more.
            let wrote : Wrote old mid (watched items (r.given ++ more)) (held ++ []) = record { front = watch_replied items (r.given ++ more); appended = (r.says more).0; split = f.held more ∙ ap (λ (t : List ℕ). watch_replied items (r.given ++ more) ++ t) (sym (append-nil held)) } in
            wrote_stops held [] wrote front;
      }

-- nothing was read
pub nothing_read : (items : List Item) (start : Moment) (old : Option (List ℕ)) → start.taken ≤ feed_limit → Watches items start start old old (Err Memory)
nothing_read items start old h =
    let nothing = all_memory feed_limit start (λ (h : Head). h) [] h in
    nothing_yet items nothing.given nothing.took nothing.needs (λ front rest e l. absurd (omega (arith, ap length e, length-append front rest, l)))

-- ---- no count rose but that of the fault

pub stop_cause : (e : Stop) (before mid now : ℕ) → mid ≡ before → HasStopCause mid now e → HasWriteCause before now (of_stop e)
stop_cause stops.WriteFault before mid now same rose = omega (arith, same, rose)
stop_cause stops.Memory before mid now same rose = tt

pub quiet_stop : (e : Stop) (before now : ℕ) → ((e ≡ stops.WriteFault → ⊥) → now ≡ before) → (of_stop e ≡ WriteFault → ⊥) → now ≡ before
quiet_stop stops.WriteFault before now quiet other = absurd (other refl)
quiet_stop stops.Memory before now quiet other = quiet (λ h. cc)

pub undisked : (e : Stop) → (let r : Result (Unit {0}) ReplayFault = Err (of_stop e) in r) ≡ Err DiskFault → ⊥
undisked stops.WriteFault d = cc
undisked stops.Memory d = cc
