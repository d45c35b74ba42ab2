-- A watch over the messages of a feed: what is written for one message more, and what the watch has seen then.
use Rattle.std.proofs.Common.{◌≡◌, ℕ, suc, ◌+◌, ◌≤◌, ◌<◌, List, [], ◌∷◌, ◌++◌, length, refl, ap, sym, subst, ◌∙◌, append_assoc, length-append, arith}
use Rattle.std.specs.List.{flat_map}
use Rattle.std.proofs.lemmas.List.{append-nil, take-append-le, take_all}
use Rattle.sp_block.specs.Block.{ReadBlock}
use Rattle.sp_engine.specs.Arrivals.{kept_after, kept_by_all}
use Rattle.sp_feed.specs.Kinds.{Said, SaysBlock, SaysVote, SaysTx, SaysBalance, SaysPairs, SaysReport}
use Rattle.sp_model.specs.declared.profile.Profile.{Profile}
use Rattle.sp_node.specs.Answers.{arrivals_of, kept_then}
use Rattle.sp_node.specs.Terms.{Terms}
use Rattle.sp_node.proofs.AnswerLists.{kept_by_all-push}
use Rattle.sp_watch.specs.Arrivals.{history_of}
use Rattle.sp_watch.specs.Lines.{change_at, held_of}
use Rattle.sp_watch.specs.Watching.{changes_in, seen_all, watch_of, Watched, watched_after}
use Rattle.sp_watch.specs.declared.item.Item.{Item}
use Rattle.sp_watch.proofs.Notes.{arrival_noted, changes_told, start_noted}
use Rattle.sp_watch.proofs.Told.{all_held, all_written}
use Rattle.spectre.specs.Watches.{held_lines, turned_text, watch_replies, watch_reply}
use Rattle.spectre.specs.Watching.{HasSeen, seen_text, text_then, watch_then}

-- ---- the texts

-- those for a front of the messages, and then those for the rest
pub replies-append : (genesis : ReadBlock) (terms : Terms) (items : List Item) (arrivals : List (List ℕ)) (front rest : List Said)
    → watch_replies genesis terms items arrivals (front ++ rest) ≡ watch_replies genesis terms items arrivals front ++ watch_replies genesis terms items (arrivals ++ flat_map arrivals_of front) rest
unfolding watch_replies
replies-append genesis terms items arrivals [] rest = ap (λ (a : List (List ℕ)). watch_replies genesis terms items a rest) (sym (append-nil arrivals))
replies-append genesis terms items arrivals (m ∷ front) rest =
    let after : List (List ℕ) = arrivals ++ arrivals_of m in
    let here : List ℕ = watch_reply genesis terms items arrivals m in
    ap (λ (l : List ℕ). here ++ l) (replies-append genesis terms items after front rest)
    ∙ ap (λ (a : List (List ℕ)). here ++ (watch_replies genesis terms items after front ++ watch_replies genesis terms items a rest)) (append_assoc arrivals (arrivals_of m) (flat_map arrivals_of front))
    ∙ sym (append_assoc here (watch_replies genesis terms items after front) (watch_replies genesis terms items (arrivals ++ (arrivals_of m ++ flat_map arrivals_of front)) rest))

-- that for one message more
pub replies-push : (genesis : ReadBlock) (terms : Terms) (items : List Item) (messages : List Said) (m : Said)
    → watch_replies genesis terms items [] (messages ++ m ∷ []) ≡ watch_replies genesis terms items [] messages ++ watch_reply genesis terms items (flat_map arrivals_of messages) m
unfolding watch_replies
replies-push genesis terms items messages m =
    replies-append genesis terms items [] messages (m ∷ [])
    ∙ ap (λ (l : List ℕ). watch_replies genesis terms items [] messages ++ l) (append-nil (watch_reply genesis terms items (flat_map arrivals_of messages) m))

-- ---- what the watch has seen

-- the kept blocks after all of some arrivals, whatever comes behind them
history_all : (bits : ℕ) (genesis : ReadBlock) (arrivals later : List (List ℕ)) → history_of bits genesis (arrivals ++ later) (length arrivals) ≡ kept_by_all bits genesis arrivals
history_all bits genesis arrivals later = ap (kept_by_all bits genesis) (take-append-le (length arrivals) arrivals later (omega arith) ∙ take_all (length arrivals) arrivals (omega arith))

-- and after one more
history_next : (bits : ℕ) (genesis : ReadBlock) (arrivals : List (List ℕ)) (bytes : List ℕ) (later : List (List ℕ)) → history_of bits genesis (arrivals ++ bytes ∷ later) (suc (length arrivals)) ≡ kept_after bits (kept_by_all bits genesis arrivals) bytes
history_next bits genesis arrivals bytes later =
    let whole : arrivals ++ bytes ∷ later ≡ (arrivals ++ bytes ∷ []) ++ later = sym (append_assoc arrivals (bytes ∷ []) later) in
    let long : suc (length arrivals) ≡ length (arrivals ++ bytes ∷ []) = omega (arith, length-append arrivals (bytes ∷ [])) in
    ap (λ (l : List (List ℕ)). history_of bits genesis l (suc (length arrivals))) whole
    ∙ ap (history_of bits genesis ((arrivals ++ bytes ∷ []) ++ later)) long
    ∙ history_all bits genesis (arrivals ++ bytes ∷ []) later ∙ kept_by_all-push bits genesis arrivals bytes

-- nothing has arrived
pub seen_first : (items : List Item) (terms : Terms) (genesis : ReadBlock) (w : Watched) → w ≡ watch_of terms.profile items (genesis ∷ []) → HasSeen items terms genesis [] w
seen_first items terms genesis w is later = is ∙ start_noted terms.profile (history_of terms.bits genesis later) items

module _ (items : List Item) (terms : Terms) (genesis : ReadBlock) (arrivals : List (List ℕ)) (w : Watched) (has : HasSeen items terms genesis arrivals w) where
  -- a block arrived
  next_block : (bytes : List ℕ) → HasSeen items terms genesis (arrivals ++ bytes ∷ []) (seen_all terms.profile w (kept_after terms.bits (kept_by_all terms.bits genesis arrivals) bytes))
  next_block bytes later =
      let history = history_of terms.bits genesis ((arrivals ++ bytes ∷ []) ++ later) in
      let whole : arrivals ++ bytes ∷ later ≡ (arrivals ++ bytes ∷ []) ++ later = sym (append_assoc arrivals (bytes ∷ []) later) in
      let before : w ≡ watched_after terms.profile history (length arrivals) items = has (bytes ∷ later) ∙ ap (λ (l : List (List ℕ)). watched_after terms.profile (history_of terms.bits genesis l) (length arrivals) items) whole in
      let now : kept_after terms.bits (kept_by_all terms.bits genesis arrivals) bytes ≡ history (suc (length arrivals)) =
      sym (history_next terms.bits genesis arrivals bytes later) ∙ ap (λ (l : List (List ℕ)). history_of terms.bits genesis l (suc (length arrivals))) whole in
      let long : suc (length arrivals) ≡ length (arrivals ++ bytes ∷ []) = omega (arith, length-append arrivals (bytes ∷ [])) in
      ap (λ (v : Watched). seen_all terms.profile v (kept_after terms.bits (kept_by_all terms.bits genesis arrivals) bytes)) before
      ∙ ap (seen_all terms.profile (watched_after terms.profile history (length arrivals) items)) now
      ∙ arrival_noted terms.profile history (length arrivals) items
      ∙ ap (λ (n : ℕ). watched_after terms.profile history n items) long

  -- and these lines tell what it changed
  block_text : (bytes : List ℕ) → seen_text terms.profile w (kept_after terms.bits (kept_by_all terms.bits genesis arrivals) bytes) ≡ turned_text genesis terms items arrivals (SaysBlock bytes)
  block_text bytes =
      let history = history_of terms.bits genesis (arrivals ++ bytes ∷ []) in
      let k = length arrivals in
      let before : w ≡ watched_after terms.profile history k items = has (bytes ∷ []) in
      let now : kept_after terms.bits (kept_by_all terms.bits genesis arrivals) bytes ≡ history (suc k) = sym (history_next terms.bits genesis arrivals bytes []) in
      ap (λ (v : Watched). seen_text terms.profile v (kept_after terms.bits (kept_by_all terms.bits genesis arrivals) bytes)) before
      ∙ ap (λ (l : List ReadBlock). seen_text terms.profile (watched_after terms.profile history k items) l) now
      ∙ ap (λ (v : Watched). flat_map (change_at v.entries) (changes_in terms.profile (watched_after terms.profile history k items) (history (suc k)))) (arrival_noted terms.profile history k items)
      ∙ ap (flat_map (change_at (watched_after terms.profile history (suc k) items).entries)) (changes_told terms.profile history k items)
      ∙ all_written terms.profile history k items

  same_arrivals : HasSeen items terms genesis (arrivals ++ []) w
  same_arrivals = subst (λ (l : List (List ℕ)). HasSeen items terms genesis l w) (sym (append-nil arrivals)) has

  -- so it is with each message
  pub seen_next : (kept : List ReadBlock) → kept ≡ kept_by_all terms.bits genesis arrivals → (m : Said) → HasSeen items terms genesis (arrivals ++ arrivals_of m) (watch_then terms.profile w (kept_then terms.bits kept m) m)
  seen_next kept is (SaysBlock bytes) = subst (λ (l : List ReadBlock). HasSeen items terms genesis (arrivals ++ bytes ∷ []) (seen_all terms.profile w (kept_after terms.bits l bytes))) (sym is) (next_block bytes)
  seen_next kept is (SaysVote x y) = same_arrivals
  seen_next kept is (SaysTx id) = same_arrivals
  seen_next kept is (SaysBalance lock) = same_arrivals
  seen_next kept is SaysPairs = same_arrivals
  seen_next kept is SaysReport = same_arrivals

  pub text_next : (kept : List ReadBlock) → kept ≡ kept_by_all terms.bits genesis arrivals → (m : Said) → text_then terms.profile w (kept_then terms.bits kept m) m ≡ turned_text genesis terms items arrivals m
  text_next kept is (SaysBlock bytes) = ap (λ (l : List ReadBlock). seen_text terms.profile w (kept_after terms.bits l bytes)) is ∙ block_text bytes
  text_next kept is (SaysVote x y) = refl
  text_next kept is (SaysTx id) = refl
  text_next kept is (SaysBalance lock) = refl
  text_next kept is SaysPairs = refl
  text_next kept is SaysReport = refl

  -- what is noted is since when each value stands
  pub held_now : flat_map held_of w.entries ≡ held_lines genesis terms items arrivals
  held_now =
      let is : w ≡ watched_after terms.profile (history_of terms.bits genesis arrivals) (length arrivals) items =
      has [] ∙ ap (λ (l : List (List ℕ)). watched_after terms.profile (history_of terms.bits genesis l) (length arrivals) items) (append-nil arrivals) in
      ap (λ (v : Watched). flat_map held_of v.entries) is ∙ all_held terms.profile (history_of terms.bits genesis arrivals) (length arrivals) items

  -- as many arrivals were counted as there were
  pub count_is : w.arrivals ≡ length arrivals
  count_is = ap (λ (v : Watched). v.arrivals) (has [])

-- a message counts one arrival at most
pub count_then : (profile : Profile) (w : Watched) (kept : List ReadBlock) (m : Said) (v : Watched) → v ≡ watch_then profile w kept m → (before now : ℕ) → w.arrivals ≤ before → before < now → v.arrivals ≤ now
unfolding seen_all
count_then profile w kept m v is before now few more =
    let counted : v.arrivals ≡ (watch_then profile w kept m).arrivals = ap (λ (u : Watched). u.arrivals) is in
    omega (arith, counted, at_most m, few, more)
  where
    at_most : (m : Said) → (watch_then profile w kept m).arrivals ≤ w.arrivals + 1
    at_most (SaysBlock bytes) = omega arith
    at_most (SaysVote x y) = omega arith
    at_most (SaysTx id) = omega arith
    at_most (SaysBalance lock) = omega arith
    at_most SaysPairs = omega arith
    at_most SaysReport = omega arith
