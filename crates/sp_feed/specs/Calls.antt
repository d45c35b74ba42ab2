-- What a public call says of the feed: it took some bytes off the source, and they say the answer,
-- whatever follows them.
use Rattle.std.specs.Prelude.{◌≡◌, ℕ, ◌+◌, ◌<◌, length, List, ◌++◌, Result, Ok, Err, Option, Some}
use Rattle.std.specs.Io.KnownBytes.{IsAtEnd}
use Rattle.sp_io.specs.Causes.{Rose}
use Rattle.sp_feed.specs.declared.fault.FeedFault.{FeedFault}
use Rattle.sp_feed.specs.declared.fault.FeedFault.TheVariants as faults
use Rattle.sp_feed.specs.declared.fault.HeadFault.{HeadFault}
use Rattle.sp_feed.specs.declared.fault.HeadFault.TheVariants as heads
use Rattle.sp_feed.specs.Kinds.{Said}
use Rattle.sp_feed.specs.Feed.{Feed, feed, with_head, no_head, End, Whole, Malformed, Truncated, TooLong, Rest, rest_of, no_more, after_frame}
use Rattle.sp_feed.specs.Format.{Head}
use Rattle.sp_feed.specs.Reads.{Moment, Took}

-- The meaning of the bytes ends by this fault. A failed read ends it as the end of the source would there.
abbrev pub SaysFault : {X : Type 0} → (List ℕ → X) → (End → X) → Moment → Moment → List ℕ → FeedFault → Type 0
SaysFault meaning ends old new given (faults.Malformed at) = (more : List ℕ) → meaning (given ++ more) ≡ ends (Malformed at)
SaysFault meaning ends old new given (faults.Truncated at) = (meaning given ≡ ends (Truncated at)) × IsAtEnd new.left
SaysFault meaning ends old new given faults.ReadFault = (meaning given ≡ ends (Truncated new.taken)) × Rose old.faults new.faults
SaysFault meaning ends old new given (faults.TooLong taken) = (more : List ℕ) → meaning (given ++ more) ≡ ends (TooLong taken)

-- the head, and then the rest
abbrev pub SaysHead : {X : Type 0} → ℕ → Moment → Moment → (X → Head) → List ℕ → Result X HeadFault → Type 0
SaysHead limit old new view given (Ok x) = (more : List ℕ) → feed limit (given ++ more) ≡ with_head (view x) (rest_of limit new.taken more)
SaysHead limit old new view given (Err (heads.Feed e)) = SaysFault (feed limit) no_head old new given e
SaysHead limit old new view given (Err heads.Memory) = Unit {0}

pub record GivesHead {X : Type 0} (limit : ℕ) (old new : Moment) (view : X → Head) (result : Result X HeadFault) : Type 0 where
  pub given : List ℕ
  pub took : Took limit old new given
  pub says : SaysHead limit old new view given result
  -- not a byte more was taken than is needed
  pub needs : (front rest : List ℕ) → given ≡ front ++ rest → 0 < length rest → feed limit front ≡ no_head (Truncated (length front))

-- the next frame, and then the rest
abbrev pub SaysNext : {X : Type 0} → ℕ → Moment → Moment → (X → Option Said) → List ℕ → Result X FeedFault → Type 0
SaysNext limit old new view given (Ok x) = (more : List ℕ) → rest_of limit old.taken (given ++ more) ≡ after_frame limit new.taken (view x) more
SaysNext limit old new view given (Err e) = SaysFault (rest_of limit old.taken) no_more old new given e

pub record GivesNext {X : Type 0} (limit : ℕ) (old new : Moment) (view : X → Option Said) (result : Result X FeedFault) : Type 0 where
  pub given : List ℕ
  pub took : Took limit old new given
  pub says : SaysNext limit old new view given result
  -- not a byte more was taken than is needed
  pub needs : (front rest : List ℕ) → given ≡ front ++ rest → 0 < length rest → rest_of limit old.taken front ≡ no_more (Truncated (old.taken + length front))

-- the whole feed: its head, these messages, and its end
abbrev pub SaysAll : {X : Type 0} → ℕ → Moment → Moment → (X → Head) → List Said → List ℕ → Result X HeadFault → Type 0
SaysAll limit old new view messages given (Ok x) = (more : List ℕ) → feed limit (given ++ more) ≡ record { head = Some (view x); messages = messages; end = Whole more }
SaysAll limit old new view messages given (Err (heads.Feed e)) = (head : Option Head) × SaysFault (feed limit) (λ end. record { head = head; messages = messages; end = end }) old new given e
SaysAll limit old new view messages given (Err heads.Memory) = Unit {0}

-- these messages come first
abbrev pub BeginsWith : List Said → List Said → Type 0
BeginsWith all messages = (others : List Said) × (all ≡ messages ++ others)

pub record GivesAll {X : Type 0} (limit : ℕ) (old new : Moment) (view : X → Head) (before after : List Said) (result : Result X HeadFault) : Type 0 where
  pub given : List ℕ
  pub took : Took limit old new given
  pub messages : List Said
  pub seen : after ≡ before ++ messages
  pub begins : (more : List ℕ) → BeginsWith (feed limit (given ++ more)).messages messages
  pub says : SaysAll limit old new view messages given result
  -- not a byte more was taken than is needed
  pub needs : (front rest : List ℕ) → given ≡ front ++ rest → 0 < length rest → (feed limit front).end ≡ Truncated (length front)

-- the feed of a head, messages so far and a rest
abbrev pub onto : Head → List Said → Rest → Feed
onto h messages rest = record { head = Some h; messages = messages ++ rest.messages; end = rest.end }

-- what was read from the feed's first byte on says this head and these messages, and then the rest
pub record SoFar (limit : ℕ) (start now : Moment) (h : Head) (before after : List Said) : Type 0 where
  pub given : List ℕ
  pub took : Took limit start now given
  pub messages : List Said
  pub seen : after ≡ before ++ messages
  pub says : (more : List ℕ) → feed limit (given ++ more) ≡ onto h messages (rest_of limit now.taken more)
  pub whole : start.taken ≡ 0
  -- not a byte more was taken than is needed
  pub needs : (front rest : List ℕ) → given ≡ front ++ rest → 0 < length rest → (feed limit front).end ≡ Truncated (length front)

-- whatever the feed said so far, with what is read now it says all
abbrev pub GivesRest : ℕ → Moment → Moment → List Said → List Said → Result (Unit {0}) HeadFault → Type 0
GivesRest limit old new seen now result = (start : Moment) (h : Head) (before : List Said) → SoFar limit start old h before seen → GivesAll limit start new (λ u. h) before now result

-- The result, the messages and what is left unread are those of the feed; the messages are its first ones
-- where a read failed or memory was wanted.
abbrev pub IsFeed : {X : Type 0} → Feed → Option (List ℕ) → (X → Head) → List Said → Result X HeadFault → Type 0
IsFeed whole left view messages (Ok x) = (rest : List ℕ) × (left ≡ Some rest) × (whole ≡ record { head = Some (view x); messages = messages; end = Whole rest })
IsFeed whole left view messages (Err (heads.Feed (faults.Malformed at))) = (whole.messages ≡ messages) × (whole.end ≡ Malformed at)
IsFeed whole left view messages (Err (heads.Feed (faults.Truncated at))) = (whole.messages ≡ messages) × (whole.end ≡ Truncated at)
IsFeed whole left view messages (Err (heads.Feed (faults.TooLong taken))) = (whole.messages ≡ messages) × (whole.end ≡ TooLong taken)
IsFeed whole left view messages (Err (heads.Feed faults.ReadFault)) = BeginsWith whole.messages messages
IsFeed whole left view messages (Err heads.Memory) = BeginsWith whole.messages messages

abbrev pub ReadsFeed : {X : Type 0} → Feed → Option (List ℕ) → (X → Head) → List Said → List Said → Result X HeadFault → Type 0
ReadsFeed whole left view before after result = (messages : List Said) × (after ≡ before ++ messages) × IsFeed whole left view messages result
