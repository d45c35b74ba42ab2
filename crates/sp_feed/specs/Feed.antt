-- The messages of a feed, given all its bytes: a head, then frames up to the frame `E`.
use Rattle.std.specs.Prelude.{◌≡◌, ℕ, zero, suc, ◌+◌, ◌-◌, List, [], ◌∷◌, ◌++◌, length, take, drop, nat_le, if◌then◌else◌, Option, Some, None}
use Rattle.sp_form.specs.Places.{Input, Placed, Got, Faulty, Short, placed}
use Rattle.sp_feed.specs.Kinds.{Said}
use Rattle.sp_feed.specs.Format.{Head, head_form, frame_form}

-- The frames up to the end. They stop behind it, at a faulty field, or where the bytes end.

pub data Stop : Type 0 where
  Ended : List ℕ → Stop
  Broken : ℕ → Stop
  Cut : Stop

pub record Run : Type 0 where
  pub messages : List Said
  pub stop : Stop

abbrev pub stops : Stop → Run
stops stop = record { messages = []; stop = stop }

abbrev pub one_then : Said → Run → Run
one_then message run = record { messages = message ∷ run.messages; stop = run.stop }

abbrev pub run_of : Placed (Option Said) → (Input → Run) → Run
run_of Short more = stops Cut
run_of (Faulty at) more = stops (Broken at)
run_of (Got None rest) more = stops (Ended rest.bytes)
run_of (Got (Some message) rest) more = one_then message (more rest)

-- at most so many frames
unfoldable pub frames : ℕ → Input → Run
frames zero input = stops Cut
frames (suc n) input = run_of (placed frame_form input) (frames n)

-- all of them, for each takes a byte
unfoldable pub all_frames : Input → Run
all_frames input = frames (length input.bytes) input

-- so the frames are a frame, and then the frames
abbrev pub FrameByFrame : Type 0
FrameByFrame = (input : Input) → all_frames input ≡ run_of (placed frame_form input) all_frames

-- The whole. Only the first bytes, up to the limit, are judged.

pub data End : Type 0 where
  Whole : List ℕ → End
  Malformed : ℕ → End
  Truncated : ℕ → End
  TooLong : ℕ → End

-- the end of a list with this length, and with these bytes beyond the limit
abbrev pub end_of : ℕ → ℕ → List ℕ → Stop → End
end_of limit total beyond (Ended rest) = Whole (rest ++ beyond)
end_of limit total beyond (Broken at) = Malformed at
end_of limit total beyond Cut = if nat_le limit total then TooLong limit else Truncated total

pub record Feed : Type 0 where
  pub head : Option Head
  pub messages : List Said
  pub end : End

abbrev pub feed_by : Head → Run → (Stop → End) → Feed
feed_by head run end = record { head = Some head; messages = run.messages; end = end run.stop }

abbrev pub no_head : End → Feed
no_head end = record { head = None; messages = []; end = end }

abbrev pub feed_of : Placed Head → (Stop → End) → Feed
feed_of (Got head rest) end = feed_by head (all_frames rest) end
feed_of (Faulty at) end = no_head (end (Broken at))
feed_of Short end = no_head (end Cut)

-- the feed of a whole list
unfoldable pub feed : ℕ → List ℕ → Feed
feed limit list = feed_of (placed head_form (record { at = 0; bytes = take limit list })) (end_of limit (length list) (drop limit list))

-- What is left of a feed behind its first bytes.

-- the bytes that are judged, of those that come once so many were taken
abbrev pub judged : ℕ → ℕ → List ℕ → Input
judged limit taken bytes = record { at = taken; bytes = take (limit - taken) bytes }

pub record Rest : Type 0 where
  pub messages : List Said
  pub end : End

abbrev pub rest_by : Run → (Stop → End) → Rest
rest_by run end = record { messages = run.messages; end = end run.stop }

unfoldable pub rest_of : ℕ → ℕ → List ℕ → Rest
rest_of limit taken bytes = rest_by (all_frames (judged limit taken bytes)) (end_of limit (taken + length bytes) (drop (limit - taken) bytes))

abbrev pub no_more : End → Rest
no_more end = record { messages = []; end = end }

abbrev pub one_more : Said → Rest → Rest
one_more message rest = record { messages = message ∷ rest.messages; end = rest.end }

abbrev pub with_head : Head → Rest → Feed
with_head head rest = record { head = Some head; messages = rest.messages; end = rest.end }

-- behind a frame; nothing is read behind the end
abbrev pub after_frame : ℕ → ℕ → Option Said → List ℕ → Rest
after_frame limit taken None more = no_more (Whole more)
after_frame limit taken (Some message) more = one_more message (rest_of limit taken more)
