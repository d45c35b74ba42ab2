-- What a call read by a format is what it says of the feed.
use Rattle.std.proofs.Common.{◌≡◌, ℕ, ◌+◌, ◌-◌, List, ◌++◌, length, take, Option, Result, Ok, Err, refl, ap, sym, ◌∙◌, arith, length-append}
use Rattle.std.proofs.Math.Seq.{take-append_seam, take-length}
use Rattle.sp_form.specs.Form.{Form}
use Rattle.sp_form.specs.Places.{Placed, placed, Short}
use Rattle.sp_feed.specs.declared.fault.FeedFault.{FeedFault}
use Rattle.sp_feed.specs.declared.fault.FeedFault.TheVariants as faults
use Rattle.sp_feed.specs.declared.fault.HeadFault.{HeadFault}
use Rattle.sp_feed.specs.declared.fault.HeadFault.TheVariants as heads
use Rattle.sp_feed.specs.Kinds.{Said}
use Rattle.sp_feed.specs.Feed.{feed, judged, no_head, no_more, rest_of, TooLong}
use Rattle.sp_feed.specs.Format.{Flaw, frame_form, Head, head_form}
use Rattle.sp_feed.specs.Reads.{Moment, Took, Says, Reads, SaysFront, ReadsFront}
use Rattle.sp_feed.specs.Calls.{SaysFault, SaysHead, GivesHead, SaysNext, GivesNext}
use Rattle.sp_feed.proofs.Rests.{rest_more, rest_faulty, rest_truncated, rest_too_long, feed_more, feed_faulty, feed_truncated, feed_too_long}

-- where the limit is reached, what follows isn't judged
judged_full : (limit before : ℕ) (given more : List ℕ) → before + length given ≡ limit → judged limit before (given ++ more) ≡ judged limit before given
judged_full limit before given more e =
    let room : limit - before ≡ length given = omega arith in
    ap (λ k. record { at = before; bytes = take k (given ++ more) }) room
    ∙ ap (λ t. record { at = before; bytes = t }) (take-append_seam given more ∙ sym (take-length given))
    ∙ ap (λ k. record { at = before; bytes = take k given }) (sym room)

next_fault : {X : Type 0} (limit : ℕ) (old new : Moment) (view : X → Option Said) (given : List ℕ) (e : FeedFault) → Took limit old new given → Says limit old new view frame_form given (Err e) → SaysFault (rest_of limit old.taken) no_more old new given e
next_fault limit old new view given (faults.Malformed at) t s = λ more. rest_faulty limit old.taken at (given ++ more) (s more)
next_fault limit old new view given (faults.Truncated at) t s = (rest_truncated limit old.taken at given s.0 (s.1.0 ∙ t.counted) (omega (arith, s.1.0, s.1.1)), s.1.2)
next_fault limit old new view given faults.ReadFault t s = (rest_truncated limit old.taken new.taken given s.0 t.counted s.1.0, s.1.1)
next_fault limit old new view given (faults.TooLong taken) t s = λ more.
    rest_too_long limit old.taken (given ++ more) (ap (placed frame_form) (judged_full limit old.taken given more (sym t.counted ∙ s.1.1)) ∙ s.0) (omega (arith, t.counted, s.1.1, length-append given more))
    ∙ ap (λ k. no_more (TooLong k)) (sym s.1.0)

next_says : {X : Type 0} (limit : ℕ) (old new : Moment) (view : X → Option Said) (given : List ℕ) (r : Result X FeedFault) → Took limit old new given → Says limit old new view frame_form given r → SaysNext limit old new view given r
next_says limit old new view given (Ok x) t s = λ more. rest_more limit old.taken new.taken (view x) given more t.counted t.within (s more)
next_says limit old new view given (Err e) t s = next_fault limit old new view given e t s

pub gives_next : {X : Type 0} {limit : ℕ} {old new : Moment} {view : X → Option Said} {r : Result X FeedFault} → Reads limit old new view frame_form r → GivesNext limit old new view r
gives_next {limit = limit} {old = old} {new = new} {view = view} {r = r} f = record {
  given = f.given;
  took = f.took;
  says = next_says limit old new view f.given r f.took f.says;
  needs = λ front rest e l. rest_truncated limit old.taken (old.taken + length front) front (f.needs front rest e l) refl (omega (arith, f.took.counted, f.took.within, ap length e, length-append front rest));
}

-- the head starts at the first byte
at_start : {A : Type 0} (limit : ℕ) (form : Form Flaw A) (taken : ℕ) (bytes : List ℕ) (o : Placed A) → taken ≡ 0 → placed form (judged limit taken bytes) ≡ o → placed form (judged limit 0 bytes) ≡ o
at_start limit form taken bytes o e h = ap (λ k. placed form (judged limit k bytes)) (sym e) ∙ h

head_fault : {X : Type 0} (limit : ℕ) (old new : Moment) (view : X → Head) (given : List ℕ) (e : FeedFault) → old.taken ≡ 0 → Took limit old new given → Says limit old new view head_form given (Err e) → SaysFault (feed limit) no_head old new given e
head_fault limit old new view given (faults.Malformed at) z t s = λ more. feed_faulty limit at (given ++ more) (at_start limit head_form old.taken (given ++ more) _ z (s more))
head_fault limit old new view given (faults.Truncated at) z t s = (feed_truncated limit at given (at_start limit head_form old.taken given _ z s.0) (omega (arith, s.1.0, t.counted, z)) (omega (arith, s.1.0, s.1.1)), s.1.2)
head_fault limit old new view given faults.ReadFault z t s = (feed_truncated limit new.taken given (at_start limit head_form old.taken given _ z s.0) (omega (arith, t.counted, z)) s.1.0, s.1.1)
head_fault limit old new view given (faults.TooLong taken) z t s = λ more.
    feed_too_long limit (given ++ more) (at_start limit head_form old.taken (given ++ more) _ z (ap (placed head_form) (judged_full limit old.taken given more (sym t.counted ∙ s.1.1)) ∙ s.0)) (omega (arith, t.counted, s.1.1, z, length-append given more))
    ∙ ap (λ k. no_head (TooLong k)) (sym s.1.0)

head_says : {X : Type 0} (limit : ℕ) (old new : Moment) (view : X → Head) (given : List ℕ) (r : Result X HeadFault) → old.taken ≡ 0 → Took limit old new given → SaysFront limit old new view head_form given r → SaysHead limit old new view given r
head_says limit old new view given (Ok x) z t s = λ more. feed_more limit new.taken (view x) given more (omega (arith, t.counted, z)) t.within (at_start limit head_form old.taken (given ++ more) _ z (s more))
head_says limit old new view given (Err (heads.Feed e)) z t s = head_fault limit old new view given e z t s
head_says limit old new view given (Err heads.Memory) z t s = tt

pub gives_head : {X : Type 0} {limit : ℕ} {old new : Moment} {view : X → Head} {r : Result X HeadFault} → old.taken ≡ 0 → ReadsFront limit old new view head_form r → GivesHead limit old new view r
gives_head {limit = limit} {old = old} {new = new} {view = view} {r = r} z f = record {
  given = f.given;
  took = f.took;
  says = head_says limit old new view f.given r z f.took f.says;
  needs = λ front rest e l. feed_truncated limit (length front) front (at_start limit head_form old.taken front Short z (f.needs front rest e l)) refl (omega (arith, z, f.took.counted, f.took.within, ap length e, length-append front rest));
}
