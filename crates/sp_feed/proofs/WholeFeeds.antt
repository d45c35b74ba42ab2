-- A whole feed, call by call.
use Rattle.std.proofs.Common.{◌≡◌, ℕ, ◌+◌, ◌<◌, ◌≤◌, List, [], ◌∷◌, ◌++◌, length, Option, Some, None, Result, Ok, Err, inl, inr, refl, ap, sym, ◌∙◌, arith, append_assoc, length-append, subst, IsTrue}
use Rattle.std.specs.Io.KnownBytes.{Consumes, IsAtEnd}
use Rattle.sp_feed.specs.declared.fault.FeedFault.{FeedFault}
use Rattle.sp_feed.specs.declared.fault.FeedFault.TheVariants as faults
use Rattle.sp_feed.specs.declared.fault.HeadFault.{HeadFault}
use Rattle.sp_feed.specs.declared.fault.HeadFault.TheVariants as heads
use Rattle.sp_feed.specs.Kinds.{Said}
use Rattle.sp_feed.specs.Feed.{after_frame, feed, Feed, Malformed, no_more, Rest, rest_of, TooLong, Truncated, Whole}
use Rattle.sp_feed.specs.Format.{Head}
use Rattle.sp_feed.specs.Reads.{Moment, moment}
use Rattle.sp_feed.specs.Reader.{new_reader, ReaderState, Stage, AtStart, AtFrames, Behind, Dead, is_open, is_behind}
use Rattle.sp_feed.specs.Calls.{SaysFault, SaysHead, GivesHead, GivesNext, onto, SaysAll, GivesAll, SoFar, GivesRest, BeginsWith, IsFeed, ReadsFeed}
use Rattle.sp_feed.specs.Messages.{said_by}
use Rattle.sp_feed.specs.declared.message.Message.{Message}
use Rattle.sp_feed.specs.declared.message.Message.TheVariants as variants
use Rattle.std.proofs.lemmas.List.{append-nil}
use Rattle.sp_feed.proofs.Joining.{split_front, took_then}

-- no proper front of these bytes would have been enough
abbrev pub NeedsAll : ℕ → List ℕ → Type 0
NeedsAll limit given = (front rest : List ℕ) → given ≡ front ++ rest → 0 < length rest → (feed limit front).end ≡ Truncated (length front)

unfoldable pub so_far_head : {X : Type 0} {limit : ℕ} {start now : Moment} {view : X → Head} {x : X} (before : List Said) → start.taken ≡ 0 → GivesHead limit start now view (Ok x) → SoFar limit start now (view x) before before
so_far_head {limit = limit} {now = now} {view = view} {x = x} before z g = record {
  given = g.given;
  took = g.took;
  messages = [];
  seen = sym (append-nil before);
  says = λ more. g.says more;
  whole = z;
  needs = λ front rest e l. ap (λ (f : Feed). f.end) (g.needs front rest e l);
}

-- nor would one of the bytes so far and those of one call more
needs_more : (limit now : ℕ) (h : Head) (messages : List Said) (xs ys : List ℕ) → now ≡ length xs → NeedsAll limit xs → ((more : List ℕ) → feed limit (xs ++ more) ≡ onto h messages (rest_of limit now more))
    → ((front rest : List ℕ) → ys ≡ front ++ rest → 0 < length rest → rest_of limit now front ≡ no_more (Truncated (now + length front))) → NeedsAll limit (xs ++ ys)
needs_more limit now h messages xs ys e f g k front rest split l =
    elim (split_front xs ys front rest split) [
      | inl s ↦ f front s.0 s.1 s.2
      | inr s ↦ (let long : now + length s.0 ≡ length front = omega (arith, e, ap length s.1, length-append xs s.0) in
          ap (λ bytes. (feed limit bytes).end) s.1 ∙ ap (λ (f : Feed). f.end) (g s.0) ∙ ap (λ (r : Rest). r.end) (k s.0 rest s.2 l) ∙ ap (λ n. Truncated n) long)
    ]

-- nor would one of the bytes so far and those of the next call
pub needs_next : {X : Type 0} {limit : ℕ} {start mid now : Moment} {view : X → Option Said} {r : Result X FeedFault} {h : Head} {before after : List Said} (f : SoFar limit start mid h before after) (g : GivesNext limit mid now view r) → NeedsAll limit (f.given ++ g.given)
needs_next {limit = limit} {mid = mid} {h = h} f g = needs_more limit mid.taken h f.messages f.given g.given (omega (arith, f.took.counted, f.whole)) f.needs f.says g.needs

-- one message more
unfoldable pub so_far_more : {X : Type 0} {limit : ℕ} {start mid now : Moment} {view : X → Option Said} {x : X} {h : Head} {before after : List Said} (m : Said) (new : List Said) → SoFar limit start mid h before after → GivesNext limit mid now view (Ok x) → view x ≡ Some m → new ≡ after ++ m ∷ [] → SoFar limit start now h before new
so_far_more {limit = limit} {start = start} {mid = mid} {now = now} {view = view} {x = x} {h = h} {before = before} {after = after} m new f g e s = record {
  given = f.given ++ g.given;
  took = took_then limit start mid now f.given g.given f.took g.took;
  messages = f.messages ++ m ∷ [];
  seen = s ∙ ap (λ t. t ++ m ∷ []) f.seen ∙ append_assoc before f.messages (m ∷ []);
  says = λ more.
      ap (feed limit) (append_assoc f.given g.given more) ∙ f.says (g.given ++ more)
      ∙ ap (onto h f.messages) (g.says more ∙ ap (λ t. after_frame limit now.taken t more) e)
      ∙ ap (λ t. record { head = Some h; messages = t; end = (rest_of limit now.taken more).end }) (sym (append_assoc f.messages (m ∷ []) (rest_of limit now.taken more).messages));
  whole = f.whole;
  needs = needs_next f g;
}

-- whatever follows, the messages so far come first
pub begins_more : (limit now : ℕ) (h : Head) (messages : List Said) (xs ys more : List ℕ) → ((more : List ℕ) → feed limit (xs ++ more) ≡ onto h messages (rest_of limit now more)) → BeginsWith (feed limit ((xs ++ ys) ++ more)).messages messages
begins_more limit now h messages xs ys more f =
    ((rest_of limit now (ys ++ more)).messages, ap (λ (r : Feed). r.messages) (ap (feed limit) (append_assoc xs ys more) ∙ f (ys ++ more)))

-- the end
unfoldable pub all_end : {X Y : Type 0} {limit : ℕ} {start mid now : Moment} {view : X → Option Said} {x : X} {h : Head} {before after : List Said} (of : Y → Head) (y : Y) → SoFar limit start mid h before after → GivesNext limit mid now view (Ok x) → view x ≡ None → h ≡ of y → GivesAll limit start now of before after (Ok y)
all_end {limit = limit} {start = start} {mid = mid} {now = now} {h = h} of y f g e k = record {
  given = f.given ++ g.given;
  took = took_then limit start mid now f.given g.given f.took g.took;
  messages = f.messages;
  seen = f.seen;
  begins = λ more. begins_more limit mid.taken h f.messages f.given g.given more f.says;
  says = λ more.
      ap (feed limit) (append_assoc f.given g.given more) ∙ f.says (g.given ++ more)
      ∙ ap (onto h f.messages) (g.says more ∙ ap (λ t. after_frame limit now.taken t more) e)
      ∙ ap (λ t. record { head = Some h; messages = t; end = Whole more }) (append-nil f.messages) ∙ ap (λ t. record { head = Some t; messages = f.messages; end = Whole more }) k;
  needs = needs_next f g;
}

-- a fault says of the whole what it says of the rest
pub fault_onto : (limit : ℕ) (start mid now : Moment) (h : Head) (messages : List Said) (xs ys : List ℕ) (e : FeedFault) → start.faults ≤ mid.faults → ((more : List ℕ) → feed limit (xs ++ more) ≡ onto h messages (rest_of limit mid.taken more)) → SaysFault (rest_of limit mid.taken) no_more mid now ys e → SaysFault (feed limit) (λ end. record { head = Some h; messages = messages; end = end }) start now (xs ++ ys) e
fault_onto limit start mid now h messages xs ys (faults.Malformed at) l f s = λ more. ap (feed limit) (append_assoc xs ys more) ∙ f (ys ++ more) ∙ ap (onto h messages) (s more) ∙ ap (λ t. record { head = Some h; messages = t; end = Malformed at }) (append-nil messages)
fault_onto limit start mid now h messages xs ys (faults.Truncated at) l f s = (f ys ∙ ap (onto h messages) s.0 ∙ ap (λ t. record { head = Some h; messages = t; end = Truncated at }) (append-nil messages), s.1)
fault_onto limit start mid now h messages xs ys faults.ReadFault l f s = (f ys ∙ ap (onto h messages) s.0 ∙ ap (λ t. record { head = Some h; messages = t; end = Truncated now.taken }) (append-nil messages), omega (arith, s.1, l))
fault_onto limit start mid now h messages xs ys (faults.TooLong taken) l f s = λ more. ap (feed limit) (append_assoc xs ys more) ∙ f (ys ++ more) ∙ ap (onto h messages) (s more) ∙ ap (λ t. record { head = Some h; messages = t; end = TooLong taken }) (append-nil messages)

pub all_fault : {X Y : Type 0} {limit : ℕ} {start mid now : Moment} {view : X → Option Said} {h : Head} {before after : List Said} {e : FeedFault} (of : Y → Head) → SoFar limit start mid h before after → GivesNext limit mid now view (Err e) → GivesAll limit start now of before after (Err (heads.Feed e))
all_fault {limit = limit} {start = start} {mid = mid} {now = now} {h = h} {e = e} of f g = record {
  given = f.given ++ g.given;
  took = took_then limit start mid now f.given g.given f.took g.took;
  messages = f.messages;
  seen = f.seen;
  begins = λ more. begins_more limit mid.taken h f.messages f.given g.given more f.says;
  says = (Some h, fault_onto limit start mid now h f.messages f.given g.given e f.took.later f.says g.says);
  needs = needs_next f g;
}

-- a fault of the head is one of the whole
all_says : {X Y : Type 0} (limit : ℕ) (start now : Moment) (view : X → Head) (of : Y → Head) (given : List ℕ) (e : HeadFault) → SaysHead limit start now view given (Err e) → SaysAll limit start now of [] given (Err e)
all_says limit start now view of given (heads.Feed e) s = (None, s)
all_says limit start now view of given heads.Memory s = tt

pub all_head : {X Y : Type 0} {limit : ℕ} {start now : Moment} {view : X → Head} {e : HeadFault} (of : Y → Head) (before : List Said) → GivesHead limit start now view (Err e) → GivesAll limit start now of before before (Err e)
all_head {limit = limit} {start = start} {now = now} {view = view} {e = e} of before g = record {
  given = g.given;
  took = g.took;
  messages = [];
  seen = sym (append-nil before);
  begins = λ more. ((feed limit (g.given ++ more)).messages, refl);
  says = all_says limit start now view of g.given e g.says;
  needs = λ front rest k l. ap (λ (f : Feed). f.end) (g.needs front rest k l);
}

-- a message was refused
pub all_refused : {X Y : Type 0} {limit : ℕ} {start mid now : Moment} {view : X → Option Said} {x : X} {h : Head} {before after : List Said} (of : Y → Head) (m : Said) (new : List Said) → SoFar limit start mid h before after → GivesNext limit mid now view (Ok x) → view x ≡ Some m → new ≡ after → GivesAll limit start now of before new (Err heads.Memory)
all_refused {limit = limit} {start = start} {mid = mid} {now = now} {h = h} of m new f g e s = record {
  given = f.given ++ g.given;
  took = took_then limit start mid now f.given g.given f.took g.took;
  messages = f.messages;
  seen = s ∙ f.seen;
  begins = λ more. begins_more limit mid.taken h f.messages f.given g.given more f.says;
  says = tt;
  needs = needs_next f g;
}

consumes_nothing : (a : Option (List ℕ)) → Consumes a a []
consumes_nothing None = tt
consumes_nothing (Some xs) = refl

-- memory is wanted before anything is read
pub all_memory : {Y : Type 0} (limit : ℕ) (start : Moment) (of : Y → Head) (before : List Said) → start.taken ≤ limit → GivesAll limit start start of before before (Err heads.Memory)
all_memory limit start of before h = record {
  given = [];
  took = record { consumed = consumes_nothing start.left; counted = omega arith; within = h; later = omega arith };
  messages = [];
  seen = sym (append-nil before);
  begins = λ more. ((feed limit more).messages, refl);
  says = tt;
  needs = λ front rest e l. absurd (omega (arith, ap length e, length-append front rest, l));
}

-- What was read behind the head is the whole feed.

pub all_rest : {X : Type 0} {limit : ℕ} {start mid now : Moment} {view : X → Head} {x : X} {before after : List Said} {u : Unit {0}} → start.taken ≡ 0 → GivesHead limit start mid view (Ok x) → GivesRest limit mid now before after (Ok u) → GivesAll limit start now view before after (Ok x)
all_rest {X} {limit} {start} {mid} {now} {view} {x} {before} {after} {u} z g rest =
    let all = rest start (view x) before (so_far_head before z g) in
    record {
      given = all.given;
      took = all.took;
      messages = all.messages;
      seen = all.seen;
      begins = all.begins;
      says = all.says;
      needs = all.needs;
    }

fault_says : {X : Type 0} (limit : ℕ) (start now : Moment) (view : X → Head) (h : Head) (messages : List Said) (given : List ℕ) (e : HeadFault) → SaysAll limit start now (λ (u : Unit {0}). h) messages given (Err e) → SaysAll limit start now view messages given (Err e)
fault_says limit start now view h messages given (heads.Feed e) s = s
fault_says limit start now view h messages given heads.Memory s = s

pub all_broken : {X : Type 0} {limit : ℕ} {start mid now : Moment} {view : X → Head} {x : X} {before after : List Said} {e : HeadFault} → start.taken ≡ 0 → GivesHead limit start mid view (Ok x) → GivesRest limit mid now before after (Err e) → GivesAll limit start now view before after (Err e)
all_broken {X} {limit} {start} {mid} {now} {view} {x} {before} {after} {e} z g rest =
    let all = rest start (view x) before (so_far_head before z g) in
    record {
      given = all.given;
      took = all.took;
      messages = all.messages;
      seen = all.seen;
      begins = all.begins;
      says = fault_says limit start now view (view x) all.messages all.given e all.says;
      needs = all.needs;
    }

-- A reader's numbers by what they are known to be.

pub from_start : {X : Type 0} {l limit t f : ℕ} {a : Option (List ℕ)} {now : Moment} {view : X → Head} {r : Result X HeadFault} → l ≡ limit → t ≡ 0 → GivesHead l (moment a f t) now view r → GivesHead limit (moment a f 0) now view r
from_start {limit = limit} {t = t} {f = f} {a = a} {now = now} {view = view} {r = r} e z g =
    let P : ℕ → Type 0 = λ n. GivesHead n (moment a f t) now view r in
    let Q : ℕ → Type 0 = λ n. GivesHead limit (moment a f n) now view r in
    subst Q z (subst P e g)

pub from_new : {X : Type 0} {reader : ReaderState} {limit : ℕ} {old now : Moment} {view : X → Head} {before after : List Said} {r : Result X HeadFault} → reader ≡ new_reader limit → GivesAll reader.limit old now view before after r → GivesAll limit old now view before after r
from_new {X} {old = old} {now = now} {view = view} {before = before} {after = after} {r = r} e g = let P : ReaderState → Type 0 = λ s. GivesAll s.limit old now view before after r in subst P e g

pub from_limit : {X : Type 0} {l limit : ℕ} {old now : Moment} {view : X → Option Said} {r : Result X FeedFault} → l ≡ limit → GivesNext l old now view r → GivesNext limit old now view r
from_limit {old = old} {now = now} {view = view} {r = r} e g = let P : ℕ → Type 0 = λ n. GivesNext n old now view r in subst P e g

pub rest_from : {l limit : ℕ} {old now : Moment} {seen after : List Said} {r : Result (Unit {0}) HeadFault} → l ≡ limit → GivesRest l old now seen after r → GivesRest limit old now seen after r
rest_from {old = old} {now = now} {seen = seen} {after = after} {r = r} e g = let P : ℕ → Type 0 = λ n. GivesRest n old now seen after r in subst P e g

-- behind the head no frame was read
pub not_behind : (s : Stage) → s ≡ AtFrames → s ≡ Behind None → ⊥
not_behind s e h = cc (e, h)

pub opened : (s : Stage) → s ≡ AtFrames → IsTrue (is_open s)
opened s e = ap is_open e

pub behind_open : (s : Stage) → IsTrue (is_behind s) → IsTrue (is_open s)
behind_open AtStart h = absurd (cc h)
behind_open AtFrames h = absurd (cc h)
behind_open (Behind frame) h = refl
behind_open Dead h = absurd (cc h)

-- a message that isn't the end says something
pub tells : (m : Message) → (m ≡ variants.End → ⊥) → (s : Said) × (said_by m ≡ Some s)
tells (variants.Block bytes) h = (_, refl)
tells (variants.Vote x y) h = (_, refl)
tells (variants.Tx tx) h = (_, refl)
tells (variants.Balance lock) h = (_, refl)
tells variants.Pairs h = (_, refl)
tells variants.Report h = (_, refl)
tells variants.End h = absurd (h refl)

-- ---- a source that tells its bytes

feed_says : {X : Type 0} (limit : ℕ) (start now : Moment) (view : X → Head) (messages : List Said) (list given rest : List ℕ) (r : Result X HeadFault) → list ≡ given ++ rest → now.left ≡ Some rest → BeginsWith (feed limit (given ++ rest)).messages messages → SaysAll limit start now view messages given r → IsFeed (feed limit list) now.left view messages r
feed_says limit start now view messages list given rest (Ok x) e l b s = (rest, l, ap (feed limit) e ∙ s rest)
feed_says limit start now view messages list given rest (Err (heads.Feed (faults.Malformed at))) e l b s = let w = ap (feed limit) e ∙ s.1 rest in (ap (λ f. f.messages) w, ap (λ f. f.end) w)
feed_says limit start now view messages list given rest (Err (heads.Feed (faults.TooLong taken))) e l b s = let w = ap (feed limit) e ∙ s.1 rest in (ap (λ f. f.messages) w, ap (λ f. f.end) w)
feed_says limit start now view messages list given rest (Err (heads.Feed (faults.Truncated at))) e l b s =
    let none : rest ≡ [] = subst IsAtEnd l s.1.1 in
    let w = ap (feed limit) (e ∙ ap (λ t. given ++ t) none ∙ append-nil given) ∙ s.1.0 in (ap (λ f. f.messages) w, ap (λ f. f.end) w)
feed_says limit start now view messages list given rest (Err (heads.Feed faults.ReadFault)) e l b s = (b.0, ap (λ bytes. (feed limit bytes).messages) e ∙ b.1)
feed_says limit start now view messages list given rest (Err heads.Memory) e l b s = (b.0, ap (λ bytes. (feed limit bytes).messages) e ∙ b.1)

-- what is left of known bytes, and what was taken
left_of : (old new : Option (List ℕ)) (given list : List ℕ) → old ≡ Some list → Consumes old new given → (rest : List ℕ) × (new ≡ Some rest) × (list ≡ given ++ rest)
left_of None new given list e h = absurd cc
left_of (Some bytes) None given list e h = absurd h
left_of (Some bytes) (Some rest) given list e h = let same : bytes ≡ list = cc e in (rest, refl, sym same ∙ h)

pub whole_feed : {X : Type 0} {limit : ℕ} {start now : Moment} {view : X → Head} {before after : List Said} {r : Result X HeadFault} (list : List ℕ) → start.left ≡ Some list → GivesAll limit start now view before after r → ReadsFeed (feed limit list) now.left view before after r
whole_feed {limit = limit} {start = start} {now = now} {view = view} {r = r} list told g =
    let left = left_of start.left now.left g.given list told g.took.consumed in
    (g.messages, g.seen, feed_says limit start now view g.messages list g.given left.0 r left.2 left.1 (g.begins left.0) g.says)
