-- The start of a node with a journal, and what its disk holds from then on.
use Rattle.std.proofs.Common.{◌≡◌, ◌⊎◌, inl, inr, ⊎_elim, ℕ, ◌≤◌, true, List, [], ◌∷◌, ◌++◌, length, map, Option, Some, None, IsSome, Result, Ok, Err, refl, sym, ap, subst, ◌∙◌, arith, length-append}
use Rattle.std.proofs.lemmas.List.{append-nil}
use Rattle.std.specs.Io.KnownBytes.{Consumes}
use Rattle.sp_ids.specs.Digest.{sha256_number}
use Rattle.sp_block.specs.Block.{ReadBlock}
use Rattle.sp_disk.specs.Images.{Among}
use Rattle.sp_disk.specs.Moments.{IsMoment, Lasts, Leaves, Looks, Moment as DiskMoment}
use Rattle.sp_disk.proofs.Lasting.{joined_last, leaves_last, looks_same, started_last}
use Rattle.sp_disk.proofs.Runs.{ends, joined, weaker}
use Rattle.sp_engine.specs.Blocks.{block_in}
use Rattle.sp_feed.specs.Calls.{GivesHead}
use Rattle.sp_feed.specs.Feed.{Feed as FeedOf, rest_of, with_head}
use Rattle.sp_feed.specs.Format.{Head}
use Rattle.sp_feed.specs.Genesis.{ReadHead}
use Rattle.sp_feed.specs.Reader.{head_in}
use Rattle.sp_feed.specs.Reads.{Moment}
use Rattle.sp_feed.specs.declared.fault.FeedFault.TheVariants as faults
use Rattle.sp_feed.specs.declared.fault.HeadFault.{HeadFault}
use Rattle.sp_feed.specs.declared.fault.HeadFault.TheVariants as heads
use Rattle.sp_journal.specs.Creation.{HoldsJournal, HoldsNoneOrNew, IsSynced}
use Rattle.sp_journal.specs.Journal.{Contents, contents}
use Rattle.sp_journal.specs.Prefixes.{front_of}
use Rattle.sp_journal.specs.Records.{Found as found, NoJournal, records}
use Rattle.sp_journal.specs.Recovery.{bytes_in}
use Rattle.sp_journal.specs.Settled.{IsTold, SameTold}
use Rattle.sp_journal.specs.Writer.{Writer}
use Rattle.sp_node.specs.Journalled.{HoldsOn, journal_in, LeavesOn}
use Rattle.sp_node.specs.Stored.{IsFound, IsOfSame, LeavesStarted, NamesBoth, stored_blocks}
use Rattle.sp_node.specs.declared.start.StartFault.{StartFault}
use Rattle.sp_node.specs.declared.start.StartFault.TheVariants as starts
use Rattle.sp_node.specs.declared.stored.Stored.{Stored}
use Rattle.sp_node.specs.declared.stored.Stored.TheVariants.{Empty, Found}
use Rattle.spectre.specs.Chains.{EndAtHead}
use Rattle.spectre.specs.Crashes.{all_of, contents_of, HoldsAcknowledged, HoldsAtLeast, HoldsFoundOrMore}
use Rattle.spectre.specs.Keeping.{bytes_of, FitsStored, IsAmissOn, IsUntried, KeepAnswers, of_answers, of_head, of_start, records_in, TriedBy, Tries, UntriedBy}
use Rattle.spectre.specs.Replay.{fed, feed_limit}
use Rattle.spectre.specs.Replaying.{OnAll}
use Rattle.spectre.specs.Running.{RestReplies}
use Rattle.spectre.specs.declared.keep.KeepFault.TheVariants.{DiskFault, Memory, OtherChain, WriteFault}
use Rattle.spectre.specs.declared.replay.ReplayFault.{ReplayFault}
use Rattle.spectre.specs.declared.replay.ReplayFault.TheVariants as replays
use Rattle.spectre.proofs.Replayed.{with_input}
use Rattle.spectre.proofs.Replies.{head_answered, head_needed, rest_none}
use Rattle.sp_node.specs.Terms.{Terms, terms_of}

-- ---- what the head says

module _ {start now : Moment} {head : ReadHead} (g : GivesHead feed_limit start now head_in (Ok head)) where
  pub head_whole : (more : List ℕ) → (fed (g.given ++ more)).head ≡ Some (head_in head)
  head_whole more = ap (λ (f : FeedOf). f.head) (g.says more)

  pub head_alone : fed g.given ≡ with_head (head_in head) (rest_of feed_limit now.taken [])
  head_alone = ap fed (sym (append-nil g.given)) ∙ g.says []

  pub none_read : all_of g.given ≡ []
  none_read = ap (λ (f : FeedOf). f.messages) head_alone ∙ rest_none feed_limit now.taken

-- nothing behind the head was taken
pub head_ends : {start now : Moment} {X : Type 0} {view : X → Head} {r : Result X HeadFault} (g : GivesHead feed_limit start now view r) → EndAtHead g.given
head_ends g front rest e l = ap (λ (f : FeedOf). f.head) (g.needs front rest e l)

pub none_ends : EndAtHead []
none_ends front rest e l = absurd (omega (arith, ap length e, length-append front rest, l))

-- the same chain, as the definitions of the command have it
pub chain_fits : (stored : Stored) (head : ReadHead) → IsOfSame stored head → FitsStored stored (Some (head_in head))
chain_fits (Empty gate) head same = tt
chain_fits (Found o) head same = record { profile = same.profile; bits = same.bits; genesis = same.genesis }

pub chain_other : (stored : Stored) (head : ReadHead) → (IsOfSame stored head → ⊥) → FitsStored stored (Some (head_in head)) → ⊥
chain_other (Empty gate) head other fits = other tt
chain_other (Found o) head other fits = other (record { profile = fits.profile; bits = fits.bits; genesis = fits.genesis })

-- the blocks that were found, as bytes
pub sent_bytes : (stored : Stored) → map bytes_in (stored_blocks stored) ≡ bytes_of stored
sent_bytes (Empty gate) = refl
sent_bytes (Found o) = refl

-- ---- no node was started

silent_head : (stored : Stored) {start now : Moment} (first : DiskMoment) (law : IsMoment first) (e : HeadFault) (g : GivesHead feed_limit start now head_in (Err e)) → UntriedBy stored start now g.given first first (Err (of_head e))
silent_head stored first law (heads.Feed (faults.Malformed at)) g = (g.says, looks_same first law)
silent_head stored first law (heads.Feed (faults.Truncated at)) g = (g.says.0, g.says.1, looks_same first law)
silent_head stored first law (heads.Feed faults.ReadFault) g = (g.says.0, g.says.1, looks_same first law)
silent_head stored first law (heads.Feed (faults.TooLong taken)) g = (g.says, looks_same first law)
silent_head stored first law heads.Memory g = looks_same first law

pub untried_head : (stored : Stored) {start now : Moment} (old : Option (List ℕ)) (first : DiskMoment) → IsMoment first → (e : HeadFault) → GivesHead feed_limit start now head_in (Err e) → IsUntried stored start now old old first first (Err (of_head e))
untried_head stored old first law e g = record {
  given = g.given;
  took = g.took;
  needed = head_needed g;
  headed = head_ends g;
  answered = head_answered (bytes_of stored) old g;
  silent = refl;
  why = silent_head stored first law e g;
}

-- nothing was read
nothing_consumed : (left : Option (List ℕ)) → Consumes left left []
nothing_consumed None = tt
nothing_consumed (Some xs) = refl

pub untried_none : (stored : Stored) (start : Moment) (old : Option (List ℕ)) (first : DiskMoment) → IsMoment first → start.taken ≤ feed_limit → KeepAnswers stored start start old old first first (Err Memory)
untried_none stored start old first law few = inl (record {
  given = [];
  took = record { consumed = nothing_consumed start.left; counted = omega arith; within = few; later = omega arith };
  needed = λ front rest e l. absurd (omega (arith, ap length e, length-append front rest, l));
  headed = none_ends;
  answered = λ front rest e l. absurd (omega (arith, ap length e, length-append front rest, l));
  silent = refl;
  why = looks_same first law;
})

-- the start failed
abbrev pub StartFails : Stored → ReadHead → StartFault → Type 0
StartFails stored head fault = (fault ≡ starts.DiskFault) ⊎ ((fault ≡ starts.Memory) ⊎ ((IsOfSame stored head → ⊥) × NamesBoth stored head fault))

module _ (stored : Stored) {start now : Moment} (old : Option (List ℕ)) (first last : DiskMoment) (head : ReadHead) (g : GivesHead feed_limit start now head_in (Ok head)) (spelled : block_in true head.genesis.bytes ≡ Ok head.genesis) where
  amiss : (s : Stored) → (IsFound s → ⊥) → LeavesStarted s head first last → IsAmissOn s g.given first last
  amiss (Empty gate) not_found leaves = record { terms = terms_of head.profile head.bits; genesis = head.genesis; spelled = spelled; whole = head_whole g; unread = none_read g; leaves = λ is. (leaves is).0; lasts = λ is. (leaves is).1 }
  amiss (Found o) not_found leaves = absurd (not_found tt)

  named : (s : Stored) (fault : StartFault) → (IsOfSame s head → ⊥) → NamesBoth s head fault → (IsFound s → Looks first last) → UntriedBy s start now g.given first last (Err (of_start fault))
  named (Empty gate) fault other names looks = absurd names
  named (Found o) fault other names looks =
      let r : UntriedBy (Found o) start now g.given first last (Err (OtherChain o.bits (sha256_number o.genesis.bytes) o.profile head.bits (sha256_number head.genesis.bytes) head.profile)) =
      (record { head = head_in head; whole = head_whole g; other = chain_other (Found o) head other; names = refl }, looks tt) in
      subst (λ (f : StartFault). UntriedBy (Found o) start now g.given first last (Err (of_start f))) (sym names) r

  by_start : (fault : StartFault) → StartFails stored head fault → (fault ≡ starts.DiskFault → IsFound stored → ⊥) → LeavesStarted stored head first last → (IsFound stored → Looks first last) → (fault ≡ starts.Memory → Looks first last)
      → UntriedBy stored start now g.given first last (Err (of_start fault))
  by_start fault (inl disk) created leaves at_found memory =
      subst (λ (f : StartFault). UntriedBy stored start now g.given first last (Err (of_start f))) (sym disk) (amiss stored (created disk) leaves)
  by_start fault (inr (inl refused)) created leaves at_found memory =
      subst (λ (f : StartFault). UntriedBy stored start now g.given first last (Err (of_start f))) (sym refused) (memory refused)
  by_start fault (inr (inr other)) created leaves at_found memory = named stored fault other.0 other.1 at_found

  pub untried_start : (fault : StartFault) → StartFails stored head fault → (fault ≡ starts.DiskFault → IsFound stored → ⊥) → LeavesStarted stored head first last → (IsFound stored → Looks first last) → (fault ≡ starts.Memory → Looks first last)
      → IsUntried stored start now old old first last (Err (of_start fault))
  untried_start fault fails created leaves at_found memory = record {
    given = g.given;
    took = g.took;
    needed = head_needed g;
    headed = head_ends g;
    answered = head_answered (bytes_of stored) old g;
    silent = refl;
    why = by_start fault fails created leaves at_found memory;
  }

-- ---- one was

if_told : (w : Option Writer) (m : DiskMoment) (P : List ℕ → Type 0) → IsSome w → HoldsOn w m P → IsTold m → Among P m.images
if_told None m P some h told = absurd cc
if_told (Some w) m P some h told = h told

run_told : (w : Option Writer) (first last : DiskMoment) (P : List ℕ → Type 0) → IsSome w → LeavesOn w first last P → IsTold first → Leaves first last P
run_told None first last P some run told = absurd cc
run_told (Some w) first last P some run told = run told

module _ (stored : Stored) {start mid now : Moment} {old new : Option (List ℕ)} (first here last : DiskMoment) (head : ReadHead) (g : GivesHead feed_limit start mid head_in (Ok head)) (terms : Terms) (kept : List ReadBlock) (w : Option Writer)
    (same : IsOfSame stored head) (b : terms ≡ terms_of head.profile head.bits) (k : kept ≡ head.genesis ∷ stored_blocks stored) (has : IsSome w) (leaves : LeavesStarted stored head first here) (found_same : IsFound stored → first ≡ here) (told : SameTold first here) (told_then : SameTold here last) (here_law : IsMoment here) (law : IsMoment last)
    {result : Result (Unit {0}) ReplayFault} (rest : RestReplies (bytes_of stored) start now old new terms kept w here last result) where
  abbrev given : List ℕ
  given = rest.0.given

  least_is : length (journal_in terms kept).blocks ≡ length (bytes_of stored)
  least_is = ap (λ (l : List ReadBlock). length (journal_in terms l).blocks) k ∙ ap (λ (l : List (List ℕ)). length l) (sent_bytes stored)

  run_here : IsTold here → Leaves here last (HoldsAtLeast (length (bytes_of stored)) (bytes_of stored) given)
  run_here is = subst (λ (n : ℕ). Leaves here last (HoldsAtLeast n (bytes_of stored) given)) least_is (run_told w here last _ has rest.1.any_moment is)

  from_here : (image : List ℕ) → records image ≡ found (journal_in terms kept) → HoldsAtLeast (length (bytes_of stored)) (bytes_of stored) given image
  from_here image is = subst (λ (n : ℕ). HoldsAtLeast n (bytes_of stored) given image) least_is (rest.1.from image is)

  any_by : (s : Stored) → LeavesStarted s head first here → (IsFound s → first ≡ here) → (IsTold here → Leaves here last (HoldsAtLeast (length (bytes_of s)) (bytes_of s) given))
      → ((image : List ℕ) → records image ≡ found (journal_in terms kept) → HoldsAtLeast (length (bytes_of s)) (bytes_of s) given image) → kept ≡ head.genesis ∷ stored_blocks s
      → IsTold first → IsSynced first → Leaves first last (HoldsFoundOrMore (records_in s) given)
  any_by (Empty gate) left same_disk run from k is synced =
      let new : Contents = contents head.profile head.bits head.genesis.bytes [] in
      let made : journal_in terms kept ≡ new = (λ i. journal_in (b i) (k i)) in
      joined first here last (HoldsNoneOrNew new) (HoldsAtLeast 0 [] given) (HoldsFoundOrMore NoJournal given) ((left is).0 synced) (run (told.0 is))
      (λ image h. ⊎_elim (λ none. inl none) (λ one. inr (from image (one ∙ ap found (sym made)))) h) (λ image h. inr h)
  any_by (Found o) left same_disk run from k is synced =
      subst (λ (m : DiskMoment). Leaves m last (HoldsFoundOrMore (records_in (Found o)) given)) (sym (same_disk tt))
      (weaker here last (HoldsAtLeast (length (bytes_of (Found o))) (bytes_of (Found o)) given) (HoldsFoundOrMore (records_in (Found o)) given) (run (told.0 is)) (λ image h. inr h))

  lasts_by : (s : Stored) → LeavesStarted s head first here → (IsFound s → first ≡ here) → (IsTold here → Leaves here last (HoldsAtLeast (length (bytes_of s)) (bytes_of s) given)) → IsTold first → Lasts first last HoldsJournal
  lasts_by s left same_disk run is =
      joined_last first here last HoldsJournal here_law law (start_lasts s left same_disk is)
      (leaves_last here last HoldsJournal law (weaker here last (HoldsAtLeast (length (bytes_of s)) (bytes_of s) given) HoldsJournal (run (told.0 is)) (λ image h. (front_of (contents_of (bytes_of s) given (all_of given)) h.count, h.holds))))
    where
      start_lasts : (s : Stored) → LeavesStarted s head first here → (IsFound s → first ≡ here) → IsTold first → Lasts first here HoldsJournal
      start_lasts (Empty gate) left same_disk is = (left is).1
      start_lasts (Found o) left same_disk is = subst (λ (m : DiskMoment). Lasts m here HoldsJournal) (sym (same_disk tt)) (started_last here HoldsJournal here_law)

  from_found : (s : Stored) → ((image : List ℕ) → records image ≡ found (journal_in terms kept) → HoldsAtLeast (length (bytes_of s)) (bytes_of s) given image) → kept ≡ head.genesis ∷ stored_blocks s → IsOfSame s head
      → IsFound s → (image : List ℕ) → records image ≡ records_in s → HoldsAtLeast (length (bytes_of s)) (bytes_of s) given image
  from_found (Empty gate) from k same is image e = absurd is
  from_found (Found o) from k same is image e =
      let made : journal_in terms kept ≡ contents head.profile head.bits head.genesis.bytes (bytes_of (Found o)) = (λ i. journal_in (b i) (k i)) in
      let here : contents o.profile o.bits o.genesis.bytes (bytes_of (Found o)) ≡ contents head.profile head.bits head.genesis.bytes (bytes_of (Found o)) = (λ i. contents (same.profile i) (same.bits i) (same.genesis i) (bytes_of (Found o))) in
      from image (e ∙ ap found (here ∙ sym made))

  whole_by : (r : Result (Unit {0}) ReplayFault) → OnAll r (HoldsOn w last (λ image. records image ≡ found (contents_of (bytes_of stored) given (all_of given))))
      → OnAll r (IsTold first → Among (λ image. records image ≡ found (contents_of (bytes_of stored) given (all_of given))) last.images)
  whole_by (Ok u) h = λ is. if_told w last (λ image. records image ≡ found (contents_of (bytes_of stored) given (all_of given))) has h (told_then.0 (told.0 is))
  whole_by (Err (replays.Feed f)) h = λ is. if_told w last (λ image. records image ≡ found (contents_of (bytes_of stored) given (all_of given))) has h (told_then.0 (told.0 is))
  whole_by (Err replays.WriteFault) h = tt
  whole_by (Err replays.DiskFault) h = tt
  whole_by (Err replays.Memory) h = tt

  tries : Tries stored start now old new first last result
  tries = (
    rest.0,
    record {
      fits = with_input (λ input. FitsStored stored (fed input).head) start.left mid.left g.given g.took.consumed (λ more e. subst (FitsStored stored) (sym (head_whole g more)) (chain_fits stored head same));
      from = from_found stored from_here k same;
      any_moment = any_by stored leaves found_same run_here from_here k;
      lasts = lasts_by stored leaves found_same run_here;
      now = λ is image left. (ends here last _ law (run_here (told.0 is)) image left, if_told w last (HoldsAcknowledged (bytes_of stored) given old new) has rest.1.acknowledged (told_then.0 (told.0 is)) image left);
      whole = whole_by result rest.1.whole;
    },
  )

  by_result : (r : Result (Unit {0}) ReplayFault) → Tries stored start now old new first last r → TriedBy stored start now old new first last (of_answers r)
  by_result (Ok u) t = t
  by_result (Err (replays.Feed f)) t = t
  by_result (Err replays.WriteFault) t = t
  by_result (Err replays.DiskFault) t = t
  by_result (Err replays.Memory) t = t

  pub tried : KeepAnswers stored start now old new first last (of_answers result)
  tried = inr (by_result result tries)

-- ---- which fault it was

pub back_write : (r : Result (Unit {0}) ReplayFault) → of_answers r ≡ Err WriteFault → r ≡ Err replays.WriteFault
back_write (Ok u) e = absurd cc
back_write (Err (replays.Feed fault)) e = absurd cc
back_write (Err replays.WriteFault) e = refl
back_write (Err replays.DiskFault) e = absurd cc
back_write (Err replays.Memory) e = absurd cc

pub back_disk : (r : Result (Unit {0}) ReplayFault) → of_answers r ≡ Err DiskFault → r ≡ Err replays.DiskFault
back_disk (Ok u) e = absurd cc
back_disk (Err (replays.Feed fault)) e = absurd cc
back_disk (Err replays.WriteFault) e = absurd cc
back_disk (Err replays.DiskFault) e = refl
back_disk (Err replays.Memory) e = absurd cc
