-- What is written is read.
use Rattle.std.proofs.Common.{◌≡◌, ℕ, ◌+◌, ◌-◌, ◌<◌, ◌≤◌, ◌^◌, List, [], ◌∷◌, ◌++◌, length, take, drop, Option, Some, None, refl, sym, ap, ◌∙◌, true, leb, arith, append_assoc, length-append}
use Rattle.std.specs.Prelude.{is_some, unwrap_or}
use Rattle.std.specs.Int.{w32, to_le_bytes, from_le_bytes}
use Rattle.std.proofs.lemmas.Bool.{eq-eqb, le-leb}
use Rattle.std.proofs.lemmas.List.{drop_at, take_at}
use Rattle.std.proofs.lemmas.Nat.{from_le_bytes-to_le_bytes_4}
use Rattle.sp_form.specs.Form.{bind, Form, field, first_broken, rule, Rule, whole}
use Rattle.sp_form.specs.Places.{Got, placed, Placed}
use Rattle.sp_form.specs.Values.{byte, bytes_form}
use Rattle.sp_form.proofs.Places.{placed_passes}
use Rattle.sp_ids.specs.Digits.{length-bytes_of, number_of_bytes}
use Rattle.sp_ids.specs.Key.{bytes_of, number_of}
use Rattle.sp_block.specs.Judged.{is_block}
use Rattle.sp_block.proofs.Judged.{block_spelled}
use Rattle.sp_feed.specs.declared.kind.Kind.{Kind}
use Rattle.sp_feed.specs.declared.kind.Kind.TheVariants.{Block, Vote, Tx, Balance, Pairs, Report, End}
use Rattle.sp_feed.specs.Feed.{after_frame, feed, one_more, rest_of, Whole, with_head}
use Rattle.sp_feed.specs.Format.{bits_form, block_letter_form, broken, cut, Flaw, frame_form, genesis_form, Head, head_form, head_of, length_form}
use Rattle.sp_feed.specs.Versions.{name, profile_of, stem}
use Rattle.sp_model.proofs.ProfileNames.{eight as eight_behind, named as named_behind}
use Rattle.sp_model.specs.declared.profile.Profile.{Profile}
use Rattle.sp_model.specs.declared.profile.Profile.TheVariants.{One}
use Rattle.sp_feed.specs.Kinds.{allows, kind_of, letter, Said, said, SaysBlock, SaysVote, SaysTx, SaysBalance, SaysPairs, SaysReport}
use Rattle.sp_feed.specs.Spelling.{AllFit, Fits, framed, frames_of, spelled, written, WrittenIsRead}
use Rattle.sp_feed.proofs.Reading.{judged-append, met}
use Rattle.sp_feed.proofs.Rests.{feed_more, rest_more}

-- a whole field that meets its rules, and what follows it
then : {A : Type 0} (width at : ℕ) (rules : List ℕ → List (Rule Flaw)) (next : List ℕ → Form Flaw A) (bytes rest : List ℕ) (o : Placed A) → length bytes ≡ width → first_broken (rules bytes) ≡ None → placed (next bytes) (record { at = at + width; bytes = rest }) ≡ o
    → placed (field width cut rules next) (record { at = at; bytes = bytes ++ rest }) ≡ o
then width at rules next bytes rest o len r h = placed_passes width cut rules next at bytes rest len r ∙ h

-- a written length is the length
length_back : (kind : Kind) (n : ℕ) → n < 2 ^ 32 → allows kind n ≡ true → first_broken (rule (allows kind (from_le_bytes w32 (to_le_bytes w32 n))) broken ∷ []) ≡ None
length_back kind n h e = met (allows kind (from_le_bytes w32 (to_le_bytes w32 n))) (ap (allows kind) (from_le_bytes-to_le_bytes_4 n h) ∙ e)

-- ---- a frame

-- a frame behind its letter
abbrev body_form : Kind → Form Flaw (Option Said)
body_form kind = bind (length_form kind) (λ n. bind (bytes_form n cut) (λ payload. whole (said kind payload)))

body_read : (kind : Kind) (at : ℕ) (payload more : List ℕ) → length payload < 2 ^ 32 → allows kind (length payload) ≡ true → placed (body_form kind) (record { at = at; bytes = to_le_bytes w32 (length payload) ++ (payload ++ more) }) ≡ Got (said kind payload) (record { at = at + 4 + length payload; bytes = more })
unfolding bind placed
body_read kind at payload more h e =
    let four = to_le_bytes w32 (length payload) in
    then 4 at (λ bytes. rule (allows kind (from_le_bytes w32 bytes)) broken ∷ []) (λ bytes. bind (bytes_form (from_le_bytes w32 bytes) cut) (λ payload. whole (said kind payload))) four (payload ++ more) _ refl (length_back kind (length payload) h e)
    (ap (λ n. placed (bind (bytes_form n cut) (λ payload. whole (said kind payload))) (record { at = at + 4; bytes = payload ++ more })) (from_le_bytes-to_le_bytes_4 (length payload) h)
    ∙ then (length payload) (at + 4) (λ bytes. []) (λ bytes. whole (said kind bytes)) payload more _ refl refl refl)

letter_met : (kind : Kind) → first_broken (rule (is_some (kind_of (letter kind))) broken ∷ []) ≡ None
letter_met Block = refl
letter_met Vote = refl
letter_met Tx = refl
letter_met Balance = refl
letter_met Pairs = refl
letter_met Report = refl
letter_met End = refl

letter_back : (kind : Kind) → unwrap_or (kind_of (letter kind)) End ≡ kind
letter_back Block = refl
letter_back Vote = refl
letter_back Tx = refl
letter_back Balance = refl
letter_back Pairs = refl
letter_back Report = refl
letter_back End = refl

frame_read : (kind : Kind) (at : ℕ) (payload more : List ℕ) → length payload < 2 ^ 32 → allows kind (length payload) ≡ true → placed frame_form (record { at = at; bytes = framed kind payload ++ more }) ≡ Got (said kind payload) (record { at = at + 1 + 4 + length payload; bytes = more })
unfolding frame_form bind
frame_read kind at payload more h e =
    let four = to_le_bytes w32 (length payload) in
    ap (λ t. placed frame_form (record { at = at; bytes = letter kind ∷ t })) (append_assoc four payload more)
    ∙ then 1 at (λ bytes. rule (is_some (kind_of (byte bytes))) broken ∷ []) (λ bytes. body_form (unwrap_or (kind_of (byte bytes)) End)) (letter kind ∷ []) (four ++ (payload ++ more)) _ refl (letter_met kind)
    (ap (λ k. placed (body_form k) (record { at = at + 1; bytes = four ++ (payload ++ more) })) (letter_back kind)
    ∙ body_read kind (at + 1) payload more h e)

vote_read : (x y : ℕ) → x < 2 ^ 256 → y < 2 ^ 256 → said Vote (bytes_of x ++ bytes_of y) ≡ Some (SaysVote x y)
vote_read x y h k =
    let first = ap number_of (take_at (bytes_of x) (bytes_of y) 32 (length-bytes_of x)) ∙ number_of_bytes x h in
    let second = ap number_of (drop_at (bytes_of x) (bytes_of y) 32 (length-bytes_of x)) ∙ number_of_bytes y k in
    ap (λ n. Some (SaysVote n (number_of (drop 32 (bytes_of x ++ bytes_of y))))) first ∙ ap (λ n. Some (SaysVote x n)) second

-- a message as it is written
spelled_read : (m : Said) (at : ℕ) (more : List ℕ) → Fits m → placed frame_form (record { at = at; bytes = spelled m ++ more }) ≡ Got (Some m) (record { at = at + length (spelled m); bytes = more })
spelled_read (SaysBlock bytes) at more h =
    frame_read Block at bytes more (omega arith) (le-leb (length bytes) 65537 h)
    ∙ ap (λ k. Got (Some (SaysBlock bytes)) (record { at = k; bytes = more })) (omega arith)
spelled_read (SaysVote x y) at more h =
    let payload = bytes_of x ++ bytes_of y in
    let long : length payload ≡ 64 = omega (arith, length-append (bytes_of x) (bytes_of y), length-bytes_of x, length-bytes_of y) in
    frame_read Vote at payload more (omega arith) (eq-eqb (length payload) 64 long)
    ∙ ap (λ m. Got m (record { at = at + 1 + 4 + length payload; bytes = more })) (vote_read x y h.0 h.1)
    ∙ ap (λ k. Got (Some (SaysVote x y)) (record { at = k; bytes = more })) (omega arith)
spelled_read (SaysTx tx) at more h =
    let payload = bytes_of tx in
    let long : length payload ≡ 32 = length-bytes_of tx in
    frame_read Tx at payload more (omega (arith, long)) (eq-eqb (length payload) 32 long)
    ∙ ap (λ n. Got (Some (SaysTx n)) (record { at = at + 1 + 4 + length payload; bytes = more })) (number_of_bytes tx h)
    ∙ ap (λ k. Got (Some (SaysTx tx)) (record { at = k; bytes = more })) (omega arith)
spelled_read (SaysBalance lock) at more h =
    let payload = bytes_of lock in
    let long : length payload ≡ 32 = length-bytes_of lock in
    frame_read Balance at payload more (omega (arith, long)) (eq-eqb (length payload) 32 long)
    ∙ ap (λ n. Got (Some (SaysBalance n)) (record { at = at + 1 + 4 + length payload; bytes = more })) (number_of_bytes lock h)
    ∙ ap (λ k. Got (Some (SaysBalance lock)) (record { at = k; bytes = more })) (omega arith)
spelled_read SaysPairs at more h =
    frame_read Pairs at [] more (omega arith) refl
    ∙ ap (λ k. Got (Some SaysPairs) (record { at = k; bytes = more })) (omega arith)
spelled_read SaysReport at more h =
    frame_read Report at [] more (omega arith) refl
    ∙ ap (λ k. Got (Some SaysReport) (record { at = k; bytes = more })) (omega arith)

end_read : (at : ℕ) (more : List ℕ) → placed frame_form (record { at = at; bytes = framed End [] ++ more }) ≡ Got None (record { at = at + length (framed End []); bytes = more })
end_read at more = frame_read End at [] more (omega arith) refl ∙ ap (λ k. Got None (record { at = k; bytes = more })) (omega arith)

-- ---- the frames, under the limit

judged_read : (limit taken : ℕ) (m : Option Said) (given more : List ℕ) → taken + length given ≤ limit → ((at : ℕ) (more : List ℕ) → placed frame_form (record { at = at; bytes = given ++ more }) ≡ Got m (record { at = at + length given; bytes = more })) → rest_of limit taken (given ++ more) ≡ after_frame limit (taken + length given) m more
judged_read limit taken m given more h f =
    rest_more limit taken (taken + length given) m given more refl h
    (ap (placed frame_form) (judged-append limit taken (taken + length given) given more refl h) ∙ f taken (take (limit - (taken + length given)) more))

frames_read : (limit taken : ℕ) (messages : List Said) (rest : List ℕ) → AllFit messages → taken + length (frames_of messages) ≤ limit → rest_of limit taken (frames_of messages ++ rest) ≡ record { messages = messages; end = Whole rest }
frames_read limit taken [] rest f h = judged_read limit taken None (framed End []) rest h end_read
frames_read limit taken (m ∷ ms) rest f h =
    let long = length-append (spelled m) (frames_of ms) in
    ap (rest_of limit taken) (append_assoc (spelled m) (frames_of ms) rest)
    ∙ judged_read limit taken (Some m) (spelled m) (frames_of ms ++ rest) (omega (arith, h, long)) (λ at more. spelled_read m at more f.0)
    ∙ ap (one_more m) (frames_read limit (taken + length (spelled m)) ms rest f.1 (omega (arith, h, long)))

-- ---- the head

-- the head behind the bits, its genesis block framed
genesis_read : (head : Head) (at : ℕ) (more : List ℕ) → length head.genesis ≤ 65537 → is_block true head.genesis ≡ true
    → placed (bind (length_form Block) (λ n. bind (genesis_form n) (λ genesis. whole (head_of head.profile head.bits genesis)))) (record { at = at; bytes = to_le_bytes w32 (length head.genesis) ++ (head.genesis ++ more) }) ≡ Got head (record { at = at + 4 + length head.genesis; bytes = more })
unfolding bind placed
genesis_read head at more l e =
    let four = to_le_bytes w32 (length head.genesis) in
    let small : length head.genesis < 2 ^ 32 = omega arith in
    then 4 at (λ bytes. rule (allows Block (from_le_bytes w32 bytes)) broken ∷ []) (λ bytes. bind (genesis_form (from_le_bytes w32 bytes)) (λ genesis. whole (head_of head.profile head.bits genesis))) four (head.genesis ++ more) _ refl (length_back Block (length head.genesis) small (le-leb (length head.genesis) 65537 l))
    (ap (λ n. placed (bind (genesis_form n) (λ genesis. whole (head_of head.profile head.bits genesis))) (record { at = at + 4; bytes = head.genesis ++ more })) (from_le_bytes-to_le_bytes_4 (length head.genesis) small)
    ∙ then (length head.genesis) (at + 4) (λ bytes. rule (is_block true bytes) broken ∷ []) (λ bytes. whole (head_of head.profile head.bits bytes)) head.genesis more _ refl (met (is_block true head.genesis) e) refl)

-- a name is that of its profile
named : (profile : Profile) → profile_of (name profile) ≡ Some profile
named profile = named_behind stem profile

-- and has eight bytes
eight : (profile : Profile) → length (name profile) ≡ 8
eight profile = eight_behind stem profile refl

-- the head behind its name
abbrev head_behind : Profile → Form Flaw Head
head_behind profile = bind bits_form (λ bits. bind block_letter_form (λ letter. bind (length_form Block) (λ n. bind (genesis_form n) (λ genesis. whole (head_of profile bits genesis)))))

behind_read : (head : Head) (more : List ℕ) → head.bits ≤ 64 → length head.genesis ≤ 65537 → is_block true head.genesis ≡ true → placed (head_behind head.profile) (record { at = 8; bytes = head.bits ∷ (framed Block head.genesis ++ more) }) ≡ Got head (record { at = 8 + 1 + 1 + 4 + length head.genesis; bytes = more })
unfolding bind
behind_read head more b l e =
    let four = to_le_bytes w32 (length head.genesis) in
    let tail = four ++ (head.genesis ++ more) in
    ap (λ t. placed (head_behind head.profile) (record { at = 8; bytes = head.bits ∷ 66 ∷ t })) (append_assoc four head.genesis more)
    ∙ then 1 8 _ _ (head.bits ∷ []) (66 ∷ tail) _ refl (met (leb head.bits 64) (le-leb head.bits 64 b))
    (then 1 (8 + 1) _ _ (66 ∷ []) tail _ refl refl
    (genesis_read head (8 + 1 + 1) more l e))

head_read : (head : Head) (more : List ℕ) → head.bits ≤ 64 → length head.genesis ≤ 65537 → is_block true head.genesis ≡ true → placed head_form (record { at = 0; bytes = (name head.profile ++ (head.bits ∷ framed Block head.genesis)) ++ more }) ≡ Got head (record { at = 8 + 1 + 1 + 4 + length head.genesis; bytes = more })
unfolding head_form bind
head_read head more b l e =
    let rest = head.bits ∷ (framed Block head.genesis ++ more) in
    ap (λ t. placed head_form (record { at = 0; bytes = t })) (append_assoc (name head.profile) (head.bits ∷ framed Block head.genesis) more)
    ∙ then 8 0 _ _ (name head.profile) rest _ (eight head.profile) (met (is_some (profile_of (name head.profile))) (ap is_some (named head.profile)))
    (ap (λ o. placed (head_behind (unwrap_or o One)) (record { at = 8; bytes = rest })) (named head.profile) ∙ behind_read head more b l e)

pub written_is_read : WrittenIsRead
written_is_read limit head ms rest b e f n =
    let l : length head.genesis ≤ 65537 = let s = (block_spelled true head.genesis e).1.short in omega arith in
    let first = name head.profile in
    let next = head.bits ∷ framed Block head.genesis in
    let front = first ++ next in
    let now : ℕ = 8 + 1 + 1 + 4 + length head.genesis in
    let long : now ≡ length front = omega (arith, length-append first next, eight head.profile) in
    let behind : written head ms ≡ front ++ frames_of ms = sym (append_assoc first next (frames_of ms)) in
    let split : written head ms ++ rest ≡ front ++ (frames_of ms ++ rest) = ap (λ t. t ++ rest) behind ∙ append_assoc front (frames_of ms) rest in
    let all : length (written head ms) ≡ now + length (frames_of ms) = ap length behind ∙ omega (arith, length-append front (frames_of ms), long) in
    let within : now ≤ limit = omega (arith, n) in
    ap (feed limit) split
    ∙ feed_more limit now head front (frames_of ms ++ rest) long within
    (ap (placed head_form) (judged-append limit 0 now front (frames_of ms ++ rest) (omega arith) within)
    ∙ head_read head (take (limit - now) (frames_of ms ++ rest)) b l e)
    ∙ ap (with_head head) (frames_read limit now ms rest f (omega (arith, n)))
