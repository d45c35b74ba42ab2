-- A feed of bytes carries bytes: each block's payload, and the genesis block of its head.
use Rattle.std.proofs.Common.{◌≡◌, ℕ, zero, suc, ◌+◌, ◌<◌, Bool, true, false, cond, ltb, List, [], ◌∷◌, length, take, drop, Option, Some, None, refl, sym, ap, subst, arith, take-append-drop}
use Rattle.std.specs.Prelude.{Contains, slice_index_or}
use Rattle.sp_form.specs.Bytes.{IsBytes}
use Rattle.sp_form.specs.Form.{bind, field, first_broken, Form, Rule, whole}
use Rattle.sp_form.specs.Places.{Faulty, Got, Input, Placed, placed, Short, unless_broken}
use Rattle.sp_form.proofs.Simple.{rule_met}
use Rattle.sp_form.proofs.Taking.{IsBytes-append_left, IsBytes-append_right}
use Rattle.sp_block.specs.Judged.{is_block}
use Rattle.sp_feed.specs.declared.kind.Kind.{Kind}
use Rattle.sp_feed.specs.declared.kind.Kind.TheVariants as kinds
use Rattle.sp_feed.specs.Feed.{all_frames, End, feed, feed_of, frames, Run, run_of, Stop}
use Rattle.sp_feed.specs.Format.{broken, Flaw, frame_form, Head, head_form}
use Rattle.sp_feed.specs.Kinds.{Said, said, SaysBlock}

-- ---- what a format gives

unbroken : {E A : Type 0} (o : Option E) (at : ℕ) (found : Placed A) (x : A) (rest : Input) → unless_broken o at found ≡ Got x rest → (o ≡ None) × (found ≡ Got x rest)
unbroken None at found x rest e = (refl, e)
unbroken (Some fault) at found x rest e = absurd cc

enough : {A : Type 0} (b : Bool) (found : Placed A) (x : A) (rest : Input) → cond b Short found ≡ Got x rest → found ≡ Got x rest
enough true found x rest e = absurd cc
enough false found x rest e = e

-- What is true of a list may be true of both its parts, wherever it is cut.
module _ (True : List ℕ → Type 0) (cut : (n : ℕ) (list : List ℕ) → True list → True (take n list) × True (drop n list)) where
  -- each value that the format gives of such bytes is so, and such bytes follow it
  abbrev GivesSuch : {A : Type 0} → (A → Type 0) → Form Flaw A → Type 0
  GivesSuch {A = A} IsSuch form = (input rest : Input) (x : A) → True input.bytes → placed form input ≡ Got x rest → IsSuch x × True rest.bytes

  gives_whole : {A : Type 0} (IsSuch : A → Type 0) (x : A) → IsSuch x → GivesSuch IsSuch (whole x)
  unfolding placed
  gives_whole IsSuch x is input rest y h e =
      let same : x ≡ y = cc in
      let behind : input ≡ rest = cc in
      (subst IsSuch same is, subst (λ (i : Input). True i.bytes) behind h)

  -- a field that meets its rules, and what follows it
  gives_field : {A : Type 0} (IsSuch : A → Type 0) (width : ℕ) (short : Flaw) (rules : List ℕ → List (Rule Flaw)) (next : List ℕ → Form Flaw A)
      → ((bytes : List ℕ) → True bytes → first_broken (rules bytes) ≡ None → GivesSuch IsSuch (next bytes)) → GivesSuch IsSuch (field width short rules next)
  unfolding placed
  gives_field IsSuch width short rules next follows input rest x h e =
      let front = take width input.bytes in
      let behind : Input = record { at = input.at + width; bytes = drop width input.bytes } in
      let found = enough (ltb (length input.bytes) width) (unless_broken (first_broken (rules front)) input.at (placed (next front) behind)) x rest e in
      let parts = unbroken (first_broken (rules front)) input.at (placed (next front) behind) x rest found in
      let cuts = cut width input.bytes h in
      follows front cuts.0 parts.0 behind rest x cuts.1 parts.1

-- bytes are cut into bytes
IsBytes-cut : (n : ℕ) (list : List ℕ) → IsBytes list → IsBytes (take n list) × IsBytes (drop n list)
IsBytes-cut n list h =
    let all = subst IsBytes (sym (take-append-drop n list)) h in
    (IsBytes-append_left (take n list) (drop n list) all, IsBytes-append_right (take n list) (drop n list) all)

-- ---- the messages

-- where a block is said, its payload is bytes
abbrev SaysBytes : Option Said → Type 0
SaysBytes o = (bytes : List ℕ) → o ≡ Some (SaysBlock bytes) → IsBytes bytes

said_bytes : (kind : Kind) (payload : List ℕ) → IsBytes payload → SaysBytes (said kind payload)
said_bytes kinds.Block payload h bytes e = let same : payload ≡ bytes = cc in subst IsBytes same h
said_bytes kinds.Vote payload h bytes e = absurd cc
said_bytes kinds.Tx payload h bytes e = absurd cc
said_bytes kinds.Balance payload h bytes e = absurd cc
said_bytes kinds.Pairs payload h bytes e = absurd cc
said_bytes kinds.Report payload h bytes e = absurd cc
said_bytes kinds.End payload h bytes e = absurd cc

frame_bytes : GivesSuch IsBytes IsBytes-cut SaysBytes frame_form
unfolding frame_form bind
frame_bytes =
    gives_field IsBytes IsBytes-cut SaysBytes 1 _ _ _ (λ letter _ _.
    gives_field IsBytes IsBytes-cut SaysBytes 4 _ _ _ (λ size _ _.
    gives_field IsBytes IsBytes-cut SaysBytes _ _ _ _ (λ payload h _.
    gives_whole IsBytes IsBytes-cut SaysBytes _ (said_bytes _ payload h))))

abbrev CarryBytes : List Said → Type 0
CarryBytes messages = (bytes : List ℕ) → Contains messages (SaysBlock bytes) → IsBytes bytes

no_message : CarryBytes []
no_message bytes h = absurd (omega (arith, h.1))

one_message : (message : Said) (others : List Said) → SaysBytes (Some message) → CarryBytes others → CarryBytes (message ∷ others)
one_message message others first later bytes h = at h.0 h.1 h.2
  where
    at : (k : ℕ) → k < length (message ∷ others) → slice_index_or (message ∷ others) k (SaysBlock bytes) ≡ SaysBlock bytes → IsBytes bytes
    at zero lt e = first bytes (ap Some e)
    at (suc k) lt e = later bytes (k, omega arith, e)

run_bytes : (o : Placed (Option Said)) (more : Input → Run) → ((m : Option Said) (rest : Input) → o ≡ Got m rest → SaysBytes m × IsBytes rest.bytes)
    → ((rest : Input) → IsBytes rest.bytes → CarryBytes (more rest).messages) → CarryBytes (run_of o more).messages
run_bytes Short more gave later = no_message
run_bytes (Faulty at) more gave later = no_message
run_bytes (Got None rest) more gave later = no_message
run_bytes (Got (Some m) rest) more gave later = let found = gave (Some m) rest refl in one_message m (more rest).messages found.0 (later rest found.1)

frames_bytes : (n : ℕ) (input : Input) → IsBytes input.bytes → CarryBytes (frames n input).messages
unfolding frames
frames_bytes zero input h = no_message
frames_bytes (suc n) input h = run_bytes (placed frame_form input) (frames n) (λ m rest e. frame_bytes input rest m h e) (λ rest k. frames_bytes n rest k)

all_bytes : (input : Input) → IsBytes input.bytes → CarryBytes (all_frames input).messages
unfolding all_frames
all_bytes input h = frames_bytes (length input.bytes) input h

-- ---- the head

head_bytes : GivesSuch IsBytes IsBytes-cut (λ (head : Head). IsBytes head.genesis) head_form
unfolding head_form bind
head_bytes =
    let IsSuch : Head → Type 0 = λ head. IsBytes head.genesis in
    gives_field IsBytes IsBytes-cut IsSuch 8 _ _ _ (λ name _ _.
    gives_field IsBytes IsBytes-cut IsSuch 1 _ _ _ (λ bits _ _.
    gives_field IsBytes IsBytes-cut IsSuch 1 _ _ _ (λ letter _ _.
    gives_field IsBytes IsBytes-cut IsSuch 4 _ _ _ (λ size _ _.
    gives_field IsBytes IsBytes-cut IsSuch _ _ _ _ (λ genesis h _.
    gives_whole IsBytes IsBytes-cut IsSuch _ h)))))

abbrev Any : List ℕ → Type 0
Any list = Unit {0}

abbrev Any-cut : (n : ℕ) (list : List ℕ) → Any list → Any (take n list) × Any (drop n list)
Any-cut n list h = (tt, tt)

head_spelled : GivesSuch Any Any-cut (λ (head : Head). is_block true head.genesis ≡ true) head_form
unfolding head_form bind
head_spelled =
    let IsSuch : Head → Type 0 = λ head. is_block true head.genesis ≡ true in
    gives_field Any Any-cut IsSuch 8 _ _ _ (λ name _ _.
    gives_field Any Any-cut IsSuch 1 _ _ _ (λ bits _ _.
    gives_field Any Any-cut IsSuch 1 _ _ _ (λ letter _ _.
    gives_field Any Any-cut IsSuch 4 _ _ _ (λ size _ _.
    gives_field Any Any-cut IsSuch _ _ _ _ (λ genesis _ met.
    gives_whole Any Any-cut IsSuch _ (rule_met (is_block true genesis) broken None met).0)))))

-- ---- the feed

-- the bytes that are judged
abbrev first : ℕ → List ℕ → Input
first limit list = record { at = 0; bytes = take limit list }

-- a head was found at the front
found_by : (o : Placed Head) (end : Stop → End) (head : Head) → (feed_of o end).head ≡ Some head → (rest : Input) × (o ≡ Got head rest)
found_by (Got found rest) end head e = let same : found ≡ head = cc in (rest, ap (λ (h : Head). Got h rest) same)
found_by (Faulty at) end head e = absurd cc
found_by Short end head e = absurd cc

found : (limit : ℕ) (list : List ℕ) (head : Head) → (feed limit list).head ≡ Some head → (rest : Input) × (placed head_form (first limit list) ≡ Got head rest)
unfolding feed
found limit list head e = found_by (placed head_form (first limit list)) _ head e

carried_by : (o : Placed Head) (end : Stop → End) → ((head : Head) (rest : Input) → o ≡ Got head rest → IsBytes rest.bytes) → CarryBytes (feed_of o end).messages
carried_by (Got head rest) end gave = all_bytes rest (gave head rest refl)
carried_by (Faulty at) end gave = no_message
carried_by Short end gave = no_message

-- each block's payload is bytes
pub payloads_are_bytes : (limit : ℕ) (list bytes : List ℕ) → IsBytes list → Contains (feed limit list).messages (SaysBlock bytes) → IsBytes bytes
unfolding feed
payloads_are_bytes limit list bytes h there =
    carried_by (placed head_form (first limit list)) _ (λ head rest e. (head_bytes (first limit list) rest head (IsBytes-cut limit list h).0 e).1) bytes there

-- and so is the genesis block
pub genesis_is_bytes : (limit : ℕ) (list : List ℕ) (head : Head) → IsBytes list → (feed limit list).head ≡ Some head → IsBytes head.genesis
genesis_is_bytes limit list head h e =
    let front = found limit list head e in
    (head_bytes (first limit list) front.0 head (IsBytes-cut limit list h).0 front.1).0

-- which is one
pub genesis_is_genesis : (limit : ℕ) (list : List ℕ) (head : Head) → (feed limit list).head ≡ Some head → is_block true head.genesis ≡ true
genesis_is_genesis limit list head e =
    let front = found limit list head e in
    (head_spelled (first limit list) front.0 head tt front.1).0
