-- A feed and its rest, by what stands next.
use Rattle.std.proofs.Common.{◌≡◌, ℕ, ◌+◌, ◌-◌, ◌<◌, ◌≤◌, Bool, true, false, nat_le, refl, List, ◌∷◌, ◌++◌, length, take, drop, Option, Some, None, ap, sym, ◌∙◌, cond, arith, length-append, take-append-drop}
use Rattle.std.proofs.Math.Seq.{drop-append-add}
use Rattle.std.proofs.lemmas.Bool.{le-leb, lt-leb}
use Rattle.sp_form.specs.Places.{Got, Faulty, Placed, placed, Short}
use Rattle.sp_feed.specs.Kinds.{Said}
use Rattle.sp_feed.specs.Feed.{after_frame, all_frames, Broken, Cut, end_of, Ended, Feed, feed, feed_of, judged, Malformed, no_head, no_more, rest_by, rest_of, run_of, Stop, TooLong, Truncated, Whole, with_head}
use Rattle.sp_feed.specs.Format.{frame_form, Head, head_form}
use Rattle.sp_feed.proofs.FrameRuns.{frame_by_frame}

-- what lies beyond the limit is the same after some bytes were taken
beyond : (limit before now : ℕ) (given more : List ℕ) → now ≡ before + length given → now ≤ limit → drop (limit - before) (given ++ more) ≡ drop (limit - now) more
beyond limit before now given more e h =
    let room : limit - before ≡ length given + (limit - now) = omega arith in
    ap (λ k. drop k (given ++ more)) room ∙ drop-append-add given more (limit - now)

-- and so is the end
ends_same : (limit before now : ℕ) (given more : List ℕ) (stop : Stop) → now ≡ before + length given → now ≤ limit → end_of limit (before + length (given ++ more)) (drop (limit - before) (given ++ more)) stop ≡ end_of limit (now + length more) (drop (limit - now) more) stop
ends_same limit before now given more stop e h =
    let total : before + length (given ++ more) ≡ now + length more = omega (arith, length-append given more) in
    ap (λ k. end_of limit k (drop (limit - before) (given ++ more)) stop) total
    ∙ ap (λ b. end_of limit (now + length more) b stop) (beyond limit before now given more e h)

-- ---- the rest, by its first frame

rest_at : (limit taken : ℕ) (bytes : List ℕ) (o : Placed (Option Said)) → placed frame_form (judged limit taken bytes) ≡ o → rest_of limit taken bytes ≡ rest_by (run_of o all_frames) (end_of limit (taken + length bytes) (drop (limit - taken) bytes))
unfolding rest_of
rest_at limit taken bytes o e =
    ap (λ r. rest_by r (end_of limit (taken + length bytes) (drop (limit - taken) bytes))) (frame_by_frame (judged limit taken bytes) ∙ ap (λ o. run_of o all_frames) e)

-- the frames behind some bytes, and the end of all
more_by : (limit before now : ℕ) (m : Option Said) (given more : List ℕ) → now ≡ before + length given → now ≤ limit → rest_by (run_of (Got m (judged limit now more)) all_frames) (end_of limit (before + length (given ++ more)) (drop (limit - before) (given ++ more))) ≡ after_frame limit now m more
unfolding rest_of
more_by limit before now None given more e h =
    ap no_more (ends_same limit before now given more (Ended (take (limit - now) more)) e h ∙ ap Whole (take-append-drop (limit - now) more))
more_by limit before now (Some m) given more e h =
    let run = all_frames (judged limit now more) in
    ap (λ end. record { messages = m ∷ run.messages; end = end }) (ends_same limit before now given more run.stop e h)

-- a whole frame
pub rest_more : (limit before now : ℕ) (m : Option Said) (given more : List ℕ) → now ≡ before + length given → now ≤ limit → placed frame_form (judged limit before (given ++ more)) ≡ Got m (judged limit now more) → rest_of limit before (given ++ more) ≡ after_frame limit now m more
rest_more limit before now m given more e h p = rest_at limit before (given ++ more) _ p ∙ more_by limit before now m given more e h

-- a faulty field
pub rest_faulty : (limit taken at : ℕ) (bytes : List ℕ) → placed frame_form (judged limit taken bytes) ≡ Faulty at → rest_of limit taken bytes ≡ no_more (Malformed at)
rest_faulty limit taken at bytes p = rest_at limit taken bytes _ p

-- neither
pub rest_truncated : (limit taken now : ℕ) (bytes : List ℕ) → placed frame_form (judged limit taken bytes) ≡ Short → now ≡ taken + length bytes → now < limit → rest_of limit taken bytes ≡ no_more (Truncated now)
rest_truncated limit taken now bytes p e h = rest_at limit taken bytes _ p ∙ ap (λ k. no_more (end_of limit k (drop (limit - taken) bytes) Cut)) (sym e) ∙ ap (λ b. no_more (cond b (TooLong limit) (Truncated now))) (lt-leb limit now h)

pub rest_too_long : (limit taken : ℕ) (bytes : List ℕ) → placed frame_form (judged limit taken bytes) ≡ Short → limit ≤ taken + length bytes → rest_of limit taken bytes ≡ no_more (TooLong limit)
rest_too_long limit taken bytes p h = rest_at limit taken bytes _ p ∙ ap (λ b. no_more (cond b (TooLong limit) (Truncated (taken + length bytes)))) (le-leb limit (taken + length bytes) h)

-- ---- the feed, by its head

feed_at : (limit : ℕ) (list : List ℕ) (o : Placed Head) → placed head_form (judged limit 0 list) ≡ o → feed limit list ≡ feed_of o (end_of limit (length list) (drop limit list))
unfolding feed
feed_at limit list o e =
    let all : limit ≡ limit - 0 = omega arith in
    ap (λ k. feed_of (placed head_form (record { at = 0; bytes = take k list })) (end_of limit (length list) (drop limit list))) all ∙ ap (λ o. feed_of o (end_of limit (length list) (drop limit list))) e

feed_ends : (limit now : ℕ) (given more : List ℕ) (stop : Stop) → now ≡ length given → now ≤ limit → end_of limit (length (given ++ more)) (drop limit (given ++ more)) stop ≡ end_of limit (now + length more) (drop (limit - now) more) stop
feed_ends limit now given more stop e h =
    let from_none : length (given ++ more) ≡ 0 + length (given ++ more) = omega arith in
    let all : limit ≡ limit - 0 = omega arith in
    ap (λ k. end_of limit k (drop limit (given ++ more)) stop) from_none
    ∙ ap (λ k. end_of limit (0 + length (given ++ more)) (drop k (given ++ more)) stop) all
    ∙ ends_same limit 0 now given more stop (omega arith) h

-- a whole head
pub feed_more : (limit now : ℕ) (head : Head) (given more : List ℕ) → now ≡ length given → now ≤ limit → placed head_form (judged limit 0 (given ++ more)) ≡ Got head (judged limit now more) → feed limit (given ++ more) ≡ with_head head (rest_of limit now more)
unfolding rest_of
feed_more limit now head given more e l p =
    let run = all_frames (judged limit now more) in
    feed_at limit (given ++ more) _ p ∙ ap (λ end. record { head = Some head; messages = run.messages; end = end }) (feed_ends limit now given more run.stop e l)

pub feed_faulty : (limit at : ℕ) (bytes : List ℕ) → placed head_form (judged limit 0 bytes) ≡ Faulty at → feed limit bytes ≡ no_head (Malformed at)
feed_faulty limit at bytes p = feed_at limit bytes _ p

pub feed_truncated : (limit now : ℕ) (bytes : List ℕ) → placed head_form (judged limit 0 bytes) ≡ Short → now ≡ length bytes → now < limit → feed limit bytes ≡ no_head (Truncated now)
feed_truncated limit now bytes p e h = feed_at limit bytes _ p ∙ ap (λ k. no_head (end_of limit k (drop limit bytes) Cut)) (sym e) ∙ ap (λ b. no_head (cond b (TooLong limit) (Truncated now))) (lt-leb limit now h)

pub feed_too_long : (limit : ℕ) (bytes : List ℕ) → placed head_form (judged limit 0 bytes) ≡ Short → limit ≤ length bytes → feed limit bytes ≡ no_head (TooLong limit)
feed_too_long limit bytes p h = feed_at limit bytes _ p ∙ ap (λ b. no_head (cond b (TooLong limit) (Truncated (length bytes)))) (le-leb limit (length bytes) h)

-- a list that is too long has the bytes of the limit

tested_long : (limit total taken : ℕ) (test : Bool) → nat_le limit total ≡ test → cond test (TooLong limit) (Truncated total) ≡ TooLong taken → limit ≤ total
tested_long limit total taken true is e = grind arith
tested_long limit total taken false is e = absurd cc

ends_long : (limit total : ℕ) (beyond : List ℕ) (stop : Stop) (taken : ℕ) → end_of limit total beyond stop ≡ TooLong taken → limit ≤ total
ends_long limit total beyond (Ended rest) taken e = absurd cc
ends_long limit total beyond (Broken at) taken e = absurd cc
ends_long limit total beyond Cut taken e = tested_long limit total taken (nat_le limit total) refl e

placed_long : (limit total : ℕ) (beyond : List ℕ) (o : Placed Head) (taken : ℕ) → (feed_of o (end_of limit total beyond)).end ≡ TooLong taken → limit ≤ total
placed_long limit total beyond (Got head rest) taken e = ends_long limit total beyond (all_frames rest).stop taken e
placed_long limit total beyond (Faulty at) taken e = ends_long limit total beyond (Broken at) taken e
placed_long limit total beyond Short taken e = ends_long limit total beyond Cut taken e

pub feed_long : (limit : ℕ) (list : List ℕ) (taken : ℕ) → (feed limit list).end ≡ TooLong taken → limit ≤ length list
feed_long limit list taken e =
    let is : feed limit list ≡ feed_of (placed head_form (judged limit 0 list)) (end_of limit (length list) (drop limit list)) = feed_at limit list _ refl in
    placed_long limit (length list) (drop limit list) (placed head_form (judged limit 0 list)) taken (ap (λ (f : Feed). f.end) (sym is) ∙ e)
