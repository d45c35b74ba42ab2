-- A node over many messages: how a crash leaves its disk.
use Rattle.std.proofs.Common.{◌≡◌, ◌⊎◌, inl, inr, ⊎_elim, ℕ, ◌-◌, ◌≤◌, List, [], ◌∷◌, ◌++◌, length, Option, Some, None, Result, Ok, Err, refl, sym, ap, subst, ◌∙◌, arith, append_assoc, length-append}
use Rattle.std.specs.Prelude.{fold, is_some}
use Rattle.std.specs.List.{flat_map}
use Rattle.std.proofs.lemmas.Grind.{flat_map-append}
use Rattle.std.proofs.lemmas.List.{length-map, take-append-le, take_all}
use Rattle.sp_block.specs.Block.{ReadBlock}
use Rattle.sp_disk.specs.Moments.{IsMoment, Leaves, Moment as DiskMoment}
use Rattle.sp_disk.proofs.Runs.{joined, weaker}
use Rattle.sp_engine.specs.Arrivals.{answer_of, kept_after, kept_by_all, kept_with, valid_in}
use Rattle.sp_engine.specs.declared.answer.Refusal.{Refusal}
use Rattle.sp_feed.specs.Kinds.{Said, SaysBlock, SaysVote, SaysTx, SaysBalance, SaysPairs, SaysReport}
use Rattle.sp_journal.specs.Journal.{Contents, contents, with_block}
use Rattle.sp_journal.specs.Prefixes.{HoldsFront}
use Rattle.sp_journal.specs.Records.{Found, records}
use Rattle.sp_journal.specs.Recovery.{bytes_in}
use Rattle.sp_journal.specs.Settled.{SameTold}
use Rattle.sp_journal.specs.Writer.{HoldsOrAdded, Writer}
use Rattle.sp_journal.proofs.Fronts.{run_goes_on, run_starts}
use Rattle.sp_node.specs.Answers.{arrivals_of, kept_then}
use Rattle.sp_node.specs.Journalled.{HoldsBeforeOrAfter, HoldsThen, IsKeptOn, journal_in, LeavesOn}
use Rattle.sp_node.proofs.AnswerLists.{kept_by_messages}
use Rattle.sp_node.proofs.Changes.{now_holds}
use Rattle.sp_report.proofs.Arrived.{Changes, changes}
use Rattle.sp_report.specs.KeptIds.{kept_id}
use Rattle.sp_pool.specs.Kept.{AreKept, kept_by, standing_of}
use Rattle.sp_pool.specs.declared.answers.Standing.{Standing}
use Rattle.sp_pool.specs.declared.answers.Standing.TheVariants as standing
use Rattle.sp_node.specs.Terms.{Terms}

-- ---- a message adds one block at most

-- all of a journal is a front of it
pub whole_front : (least : ℕ) (c : Contents) (list : List ℕ) → least ≤ length c.blocks → records list ≡ Found c → HoldsFront least c list
whole_front least c list low holds = record {
  count = length c.blocks;
  low = low;
  high = omega arith;
  holds = holds ∙ ap Found (ap (contents c.profile c.bits c.genesis) (sym (take_all (length c.blocks) c.blocks (omega arith))));
}

-- fewer are asked for
pub fewer : (least few : ℕ) (c : Contents) (list : List ℕ) → few ≤ least → HoldsFront least c list → HoldsFront few c list
fewer least few c list le h = record { count = h.count; low = omega (arith, le, h.low); high = h.high; holds = h.holds }

-- a journal has a block for each kept one but genesis
size_of : (terms : Terms) (kept : List ReadBlock) → length (journal_in terms kept).blocks ≡ length kept - 1
size_of terms [] = refl
size_of terms (genesis ∷ others) = omega (arith, length-map others bytes_in)

kept_by_more : (s : Standing) (kept : List ReadBlock) (block : ReadBlock) → length kept ≤ length (kept_by s kept block)
kept_by_more standing.Known kept block = omega arith
kept_by_more standing.Full kept block = omega arith
kept_by_more standing.Fresh kept block = omega (arith, length-append kept (block ∷ []))

kept_with_more : (kept : List ReadBlock) (r : Result ReadBlock Refusal) → length kept ≤ length (kept_with kept r)
kept_with_more kept (Err refusal) = omega arith
kept_with_more kept (Ok block) = kept_by_more (standing_of kept block.id) kept block

kept_then_more : (terms : Terms) (kept : List ReadBlock) (said : Said) → length kept ≤ length (kept_then terms.bits kept said)
unfolding kept_after
kept_then_more terms kept (SaysBlock bytes) = kept_with_more kept (valid_in terms.bits bytes)
kept_then_more terms kept (SaysVote x y) = omega arith
kept_then_more terms kept (SaysTx id) = omega arith
kept_then_more terms kept (SaysBalance lock) = omega arith
kept_then_more terms kept SaysPairs = omega arith
kept_then_more terms kept SaysReport = omega arith

kept_all_more : (terms : Terms) (kept : List ReadBlock) (messages : List Said) → length kept ≤ length (fold (kept_then terms.bits) kept messages)
kept_all_more terms kept [] = omega arith
kept_all_more terms kept (m ∷ messages) = omega (arith, kept_then_more terms kept m, kept_all_more terms (kept_then terms.bits kept m) messages)

pub grows : (terms : Terms) (kept : List ReadBlock) (said : Said) → length (journal_in terms kept).blocks ≤ length (journal_in terms (kept_then terms.bits kept said)).blocks
grows terms kept said = omega (arith, size_of terms kept, size_of terms (kept_then terms.bits kept said), kept_then_more terms kept said)

-- what is kept of the first messages is no more than what is kept of all
pub front_fewer : (terms : Terms) (genesis : ReadBlock) (before : List (List ℕ)) (front rest : List Said)
    → length (journal_in terms (kept_by_all terms.bits genesis (before ++ flat_map arrivals_of front))).blocks ≤ length (journal_in terms (kept_by_all terms.bits genesis (before ++ flat_map arrivals_of (front ++ rest)))).blocks
front_fewer terms genesis before front rest =
    let arrivals = before ++ flat_map arrivals_of front in
    let kept = kept_by_all terms.bits genesis arrivals in
    let more : before ++ flat_map arrivals_of (front ++ rest) ≡ arrivals ++ flat_map arrivals_of rest = ap (λ (l : List (List ℕ)). before ++ l) (flat_map-append arrivals_of front rest) ∙ sym (append_assoc before (flat_map arrivals_of front) (flat_map arrivals_of rest)) in
    let all : kept_by_all terms.bits genesis (before ++ flat_map arrivals_of (front ++ rest)) ≡ fold (kept_then terms.bits) kept rest = ap (kept_by_all terms.bits genesis) more ∙ sym (kept_by_messages terms.bits genesis arrivals rest) in
    omega (arith, ap length all, size_of terms kept, size_of terms (kept_by_all terms.bits genesis (before ++ flat_map arrivals_of (front ++ rest))), kept_all_more terms kept rest)

module _ (least : ℕ) (terms : Terms) (kept : List ReadBlock) (are : AreKept kept) (start mid new : DiskMoment) (low : least ≤ length (journal_in terms kept).blocks) (first : Leaves start mid (HoldsFront least (journal_in terms kept))) where
  -- nothing was kept, or one block more
  more_by : (bytes : List ℕ) (o : Option ℕ) → Changes terms.bits kept bytes o → Leaves mid new (HoldsBeforeOrAfter terms kept bytes) → Leaves start new (HoldsFront least (journal_in terms (kept_after terms.bits kept bytes)))
  more_by bytes None same second =
      subst (λ (k : List ReadBlock). Leaves start new (HoldsFront least (journal_in terms k))) (sym same)
      (joined start mid new (HoldsFront least (journal_in terms kept)) (HoldsBeforeOrAfter terms kept bytes) (HoldsFront least (journal_in terms kept)) first second (λ image h. h)
      (λ image h. ⊎_elim (λ before. whole_front least (journal_in terms kept) image low before) (λ after. whole_front least (journal_in terms kept) image low (after ∙ ap (λ (k : List ReadBlock). Found (journal_in terms k)) same)) h))
  more_by bytes (Some id) joins second =
      let now = now_holds terms.bits kept bytes id are joins terms.profile in
      subst (λ (c : Contents). Leaves start new (HoldsFront least c)) (sym now)
      (run_goes_on (journal_in terms kept) joins.block.bytes least start mid new low first
      (weaker mid new (HoldsBeforeOrAfter terms kept bytes) (HoldsOrAdded (journal_in terms kept) joins.block.bytes) second (λ image h. ⊎_elim (λ before. inl before) (λ after. inr (after ∙ ap Found now)) h)))

  same_kept : Leaves mid new (λ image. (records image ≡ Found (journal_in terms kept)) ⊎ (records image ≡ Found (journal_in terms kept))) → Leaves start new (HoldsFront least (journal_in terms kept))
  same_kept second =
      joined start mid new (HoldsFront least (journal_in terms kept)) _ (HoldsFront least (journal_in terms kept)) first second (λ image h. h)
      (λ image h. ⊎_elim (λ before. whole_front least (journal_in terms kept) image low before) (λ after. whole_front least (journal_in terms kept) image low after) h)

  -- one message more
  pub more_said : (said : Said) → Leaves mid new (HoldsThen terms kept said) → Leaves start new (HoldsFront least (journal_in terms (kept_then terms.bits kept said)))
  more_said (SaysBlock bytes) second = more_by bytes (kept_id (answer_of terms.bits kept bytes)) (changes terms.bits kept bytes) second
  more_said (SaysVote x y) second = same_kept second
  more_said (SaysTx id) second = same_kept second
  more_said (SaysBalance lock) second = same_kept second
  more_said SaysPairs second = same_kept second
  more_said SaysReport second = same_kept second

-- the same, where there is a journal
pub more_on : (w : Option Writer) (least : ℕ) (terms : Terms) (kept : List ReadBlock) → AreKept kept → (start mid new : DiskMoment) → SameTold start mid → least ≤ length (journal_in terms kept).blocks
    → (said : Said) → LeavesOn w start mid (HoldsFront least (journal_in terms kept)) → LeavesOn w mid new (HoldsThen terms kept said) → LeavesOn w start new (HoldsFront least (journal_in terms (kept_then terms.bits kept said)))
more_on None least terms kept are start mid new told low said first second = tt
more_on (Some w) least terms kept are start mid new told low said first second = λ is. more_said least terms kept are start mid new low (first is) said (second (told.0 is))

-- at the start
pub first_on : (w : Option Writer) (terms : Terms) (kept : List ReadBlock) (m : DiskMoment) → IsMoment m → IsKeptOn terms kept w m → LeavesOn w m m (HoldsFront (length (journal_in terms kept).blocks) (journal_in terms kept))
first_on None terms kept m law stands = tt
first_on (Some w) terms kept m law stands = λ is. run_starts w (journal_in terms kept) m law (stands is)

-- where two nodes have a journal or none
pub has_on : (v w : Option Writer) → is_some v ≡ is_some w → (old new : DiskMoment) (P : List ℕ → Type 0) → LeavesOn v old new P → LeavesOn w old new P
has_on None None e old new P run = run
has_on (Some v) (Some w) e old new P run = run
has_on None (Some w) e old new P run = absurd cc
has_on (Some v) None e old new P run = tt

pub none_on : (v w : Option Writer) → is_some v ≡ is_some w → w ≡ None → v ≡ None
none_on None w e is = refl
none_on (Some v) w e is = let no : is_some (Some v) ≡ is_some (let o : Option Writer = None in o) = e ∙ ap (λ (o : Option Writer). is_some o) is in absurd cc

-- a front of a journal is one of it with one block more
front_still : (least : ℕ) (c : Contents) (bytes : List ℕ) (image : List ℕ) → HoldsFront least c image → HoldsFront least (with_block c bytes) image
front_still least c bytes image h = record {
  count = h.count;
  low = h.low;
  high = omega (arith, h.high, length-append c.blocks (bytes ∷ []));
  holds = h.holds ∙ ap Found (ap (contents c.profile c.bits c.genesis) (sym (take-append-le h.count c.blocks (bytes ∷ []) h.high)));
}

still_by : (least : ℕ) (terms : Terms) (kept : List ReadBlock) (bytes : List ℕ) (o : Option ℕ) → Changes terms.bits kept bytes o → AreKept kept → (image : List ℕ) → HoldsFront least (journal_in terms kept) image → HoldsFront least (journal_in terms (kept_after terms.bits kept bytes)) image
still_by least terms kept bytes None same are image h = subst (λ (k : List ReadBlock). HoldsFront least (journal_in terms k) image) (sym same) h
still_by least terms kept bytes (Some id) joins are image h =
    subst (λ (c : Contents). HoldsFront least c image) (sym (now_holds terms.bits kept bytes id are joins terms.profile)) (front_still least (journal_in terms kept) joins.block.bytes image h)

still_then : (least : ℕ) (terms : Terms) (kept : List ReadBlock) (said : Said) → AreKept kept → (image : List ℕ) → HoldsFront least (journal_in terms kept) image → HoldsFront least (journal_in terms (kept_then terms.bits kept said)) image
still_then least terms kept (SaysBlock bytes) are image h = still_by least terms kept bytes (kept_id (answer_of terms.bits kept bytes)) (changes terms.bits kept bytes) are image h
still_then least terms kept (SaysVote x y) are image h = h
still_then least terms kept (SaysTx id) are image h = h
still_then least terms kept (SaysBalance lock) are image h = h
still_then least terms kept SaysPairs are image h = h
still_then least terms kept SaysReport are image h = h

-- what a run is, from message to message
pub record IsRun (terms : Terms) (kept : List ReadBlock) (w : Option Writer) (start now : DiskMoment) (terms_now : Terms) (kept_now : List ReadBlock) (w_now : Option Writer) : Type 0 where
  pub same : terms_now ≡ terms
  pub has : is_some w_now ≡ is_some w
  pub told : SameTold start now
  pub stands : IsKeptOn terms_now kept_now w_now now
  pub low : length (journal_in terms kept).blocks ≤ length (journal_in terms_now kept_now).blocks
  pub since : LeavesOn w start now (HoldsFront (length (journal_in terms kept).blocks) (journal_in terms_now kept_now))
  pub from : (image : List ℕ) → records image ≡ Found (journal_in terms kept) → HoldsFront (length (journal_in terms kept).blocks) (journal_in terms_now kept_now) image

pub run_first : (terms : Terms) (kept : List ReadBlock) (w : Option Writer) (m : DiskMoment) → IsMoment m → IsKeptOn terms kept w m → IsRun terms kept w m m terms kept w
run_first terms kept w m law stands = record {
  same = refl;
  has = refl;
  told = ((λ s. s), (λ s. s));
  stands = stands;
  low = omega arith;
  since = first_on w terms kept m law stands;
  from = λ image is. whole_front (length (journal_in terms kept).blocks) (journal_in terms kept) image (omega arith) is;
}

module _ (terms : Terms) (kept : List ReadBlock) (w : Option Writer) (start mid new : DiskMoment) (terms' : Terms) (kept' : List ReadBlock) (w' : Option Writer) (run : IsRun terms kept w start mid terms' kept' w') (are : AreKept kept') where
  -- a message was tried
  pub run_since : (said : Said) → LeavesOn w' mid new (HoldsThen terms' kept' said) → LeavesOn w start new (HoldsFront (length (journal_in terms kept).blocks) (journal_in terms' (kept_then terms'.bits kept' said)))
  run_since said second = more_on w (length (journal_in terms kept).blocks) terms' kept' are start mid new run.told run.low said run.since (has_on w' w run.has mid new (HoldsThen terms' kept' said) second)

  pub run_from : (said : Said) (image : List ℕ) → records image ≡ Found (journal_in terms kept) → HoldsFront (length (journal_in terms kept).blocks) (journal_in terms' (kept_then terms'.bits kept' said)) image
  run_from said image is = still_then (length (journal_in terms kept).blocks) terms' kept' said are image (run.from image is)

  -- it was answered
  pub run_more : (said : Said) (terms'' : Terms) (kept'' : List ReadBlock) (w'' : Option Writer) → terms'' ≡ terms' → kept'' ≡ kept_then terms'.bits kept' said → is_some w'' ≡ is_some w' → SameTold mid new → IsKeptOn terms'' kept'' w'' new → LeavesOn w' mid new (HoldsThen terms' kept' said)
      → IsRun terms kept w start new terms'' kept'' w''
  run_more said terms'' kept'' w'' b k h told stands second =
      let size : length (journal_in terms'' kept'').blocks ≡ length (journal_in terms' (kept_then terms'.bits kept' said)).blocks = (λ i. length (journal_in (b i) (k i)).blocks) in
      record {
        same = b ∙ run.same;
        has = h ∙ run.has;
        told = ((λ s. told.0 (run.told.0 s)), (λ s. run.told.1 (told.1 s)));
        stands = stands;
        low = omega (arith, run.low, size, grows terms' kept' said);
        since = subst (λ (n : Terms). LeavesOn w start new (HoldsFront (length (journal_in terms kept).blocks) (journal_in n kept''))) (sym b)
            (subst (λ (l : List ReadBlock). LeavesOn w start new (HoldsFront (length (journal_in terms kept).blocks) (journal_in terms' l))) (sym k) (run_since said second));
        from = λ image is. subst (λ (n : Terms). HoldsFront (length (journal_in terms kept).blocks) (journal_in n kept'') image) (sym b)
            (subst (λ (l : List ReadBlock). HoldsFront (length (journal_in terms kept).blocks) (journal_in terms' l) image) (sym k) (run_from said image is));
      }
