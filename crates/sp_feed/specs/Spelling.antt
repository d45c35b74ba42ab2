-- How a feed is written.
use Rattle.std.specs.Prelude.{◌≡◌, true, ℕ, ◌<◌, ◌≤◌, ◌^◌, List, [], ◌∷◌, ◌++◌, length, IsTrue, Some}
use Rattle.std.specs.Int.{w32, to_le_bytes}
use Rattle.sp_ids.specs.Key.{bytes_of}
use Rattle.sp_block.specs.Judged.{is_block}
use Rattle.sp_feed.specs.declared.kind.Kind.{Kind}
use Rattle.sp_feed.specs.declared.kind.Kind.TheVariants.{Block, Vote, Tx, Balance, Pairs, Report, End}
use Rattle.sp_feed.specs.Feed.{feed, Whole}
use Rattle.sp_feed.specs.Format.{Head}
use Rattle.sp_feed.specs.Kinds.{letter, Said, SaysBlock, SaysVote, SaysTx, SaysBalance, SaysPairs, SaysReport}
use Rattle.sp_feed.specs.Versions.{name}

-- a kind, a length and a payload
abbrev pub framed : Kind → List ℕ → List ℕ
framed kind payload = letter kind ∷ (to_le_bytes w32 (length payload) ++ payload)

abbrev pub spelled : Said → List ℕ
spelled (SaysBlock bytes) = framed Block bytes
spelled (SaysVote x y) = framed Vote (bytes_of x ++ bytes_of y)
spelled (SaysTx tx) = framed Tx (bytes_of tx)
spelled (SaysBalance lock) = framed Balance (bytes_of lock)
spelled SaysPairs = framed Pairs []
spelled SaysReport = framed Report []

-- it can be written as one frame
abbrev pub Fits : Said → Type 0
Fits (SaysBlock bytes) = length bytes ≤ 65537
Fits (SaysVote x y) = (x < 2 ^ 256) × (y < 2 ^ 256)
Fits (SaysTx tx) = tx < 2 ^ 256
Fits (SaysBalance lock) = lock < 2 ^ 256
Fits SaysPairs = Unit {0}
Fits SaysReport = Unit {0}

-- the frames of messages, and the end
abbrev pub frames_of : List Said → List ℕ
frames_of [] = framed End []
frames_of (message ∷ messages) = spelled message ++ frames_of messages

-- a whole feed
abbrev pub written : Head → List Said → List ℕ
written head messages = name head.profile ++ (head.bits ∷ (framed Block head.genesis ++ frames_of messages))

abbrev pub AllFit : List Said → Type 0
AllFit [] = Unit {0}
AllFit (message ∷ messages) = Fits message × AllFit messages

-- what is written is read, whatever follows it
abbrev pub WrittenIsRead : Type 0
WrittenIsRead = (limit : ℕ) (head : Head) (messages : List Said) (rest : List ℕ) → head.bits ≤ 64 → IsTrue (is_block true head.genesis) → AllFit messages → length (written head messages) ≤ limit → feed limit (written head messages ++ rest) ≡ record { head = Some head; messages = messages; end = Whole rest }
