-- Each message of a scene fits into a frame, and its feed is the frames of its messages.
use Rattle.std.proofs.Common.{◌≡◌, ◌≤◌, ◌<◌, ◌+◌, ◌^◌, ℕ, zero, suc, List, [], ◌∷◌, ◌++◌, length, map, drop, Option, ap, ◌∙◌, sym, subst, arith}
use Rattle.std.specs.Prelude.{slice_get, true}
use Rattle.std.proofs.lemmas.List.{drop_all}
use Rattle.sp_ids.proofs.Digests.{sha256_number-bound}
use Rattle.sp_tx.specs.Spelling.{spelling}
use Rattle.sp_tx.specs.Spending.{id_of}
use Rattle.sp_block.proofs.Whole.{parts_spelled}
use Rattle.sp_block.specs.Judged.{is_block}
use Rattle.sp_block.proofs.Judged.{spelled_block}
use Rattle.sp_feed.specs.declared.kind.Kind.TheVariants.{End}
use Rattle.sp_feed.specs.Format.{head_of}
use Rattle.sp_feed.specs.Kinds.{Said}
use Rattle.sp_feed.specs.Spelling.{AllFit, Fits, framed, frames_of}
use Rattle.sp_feed.proofs.WrittenFeeds.{written_is_read}
use Rattle.sp_play.specs.Feeds.{feed_text, FeedIsRead, FitsFrame, frame_text}
use Rattle.sp_play.specs.Kept.{AreShort, genesis_parts, IsKept, IsShort}
use Rattle.sp_play.specs.Known.{Entry, genesis_text, grants_of, Known, thing_at}
use Rattle.sp_play.specs.Making.{id_in}
use Rattle.sp_play.specs.Scene.{bytes_in, said_in, Scene}
use Rattle.sp_play.specs.declared.saying.Saying.{Saying}
use Rattle.sp_play.specs.declared.saying.Saying.TheVariants as says
use Rattle.sp_play.specs.declared.thing.Thing.{Thing}
use Rattle.sp_play.specs.declared.thing.Thing.TheVariants as kinds

-- ---- a message fits

short_at : (entries : List Entry) (place : ℕ) → AreShort entries → IsShort (thing_at entries place)
short_at [] place h = tt
short_at (entry ∷ entries) zero h = h.0
short_at (entry ∷ entries) (suc place) h = short_at entries place h.1

bytes_fit : (entries : List Entry) (thing : Thing) → length (genesis_text (grants_of entries)) ≤ 65536 → IsShort thing → length (bytes_in entries thing) ≤ 65537
bytes_fit entries kinds.Genesis genesis h = omega (arith, genesis)
bytes_fit entries (kinds.Made bytes) genesis h = omega (arith, h)
bytes_fit entries (kinds.Tx named) genesis h = omega arith

id_fits : (entries : List Entry) (thing : Thing) → id_in entries thing < 2 ^ 256
unfolding id_of
id_fits entries kinds.Genesis = sha256_number-bound (genesis_text (grants_of entries))
id_fits entries (kinds.Made bytes) = sha256_number-bound bytes
id_fits entries (kinds.Tx named) = sha256_number-bound (spelling named.tx)

said_fits : (known : Known) (saying : Saying) → IsKept known.bits known.entries → Fits (said_in known saying)
said_fits known (says.Block place) h = bytes_fit known.entries (thing_at known.entries place) h.genesis.short (short_at known.entries place h.short)
said_fits known (says.Vote x y) h = (id_fits known.entries (thing_at known.entries x), id_fits known.entries (thing_at known.entries y))
said_fits known (says.Tx place) h = id_fits known.entries (thing_at known.entries place)
said_fits known (says.Balance word) h = sha256_number-bound word
said_fits known says.Pairs h = tt
said_fits known says.Report h = tt

all_fit : (known : Known) (sayings : List Saying) → IsKept known.bits known.entries → AllFit (map (said_in known) sayings)
all_fit known [] h = tt
all_fit known (saying ∷ sayings) h = (said_fits known saying h, all_fit known sayings h)

get_fits : (known : Known) (sayings : List Saying) (place : ℕ) → IsKept known.bits known.entries → FitsFrame (slice_get (map (said_in known) sayings) place)
get_fits known [] place h = tt
get_fits known (saying ∷ sayings) zero h = said_fits known saying h
get_fits known (saying ∷ sayings) (suc place) h = get_fits known sayings place h

-- the message at a place
pub message_fits : (known : Known) (sayings : List Saying) (place : ℕ) (said : Option Said) → IsKept known.bits known.entries → slice_get (map (said_in known) sayings) place ≡ said → FitsFrame said
message_fits known sayings place said h e = subst FitsFrame e (get_fits known sayings place h)

-- ---- frame by frame

pub frames_next : (messages : List Said) (place : ℕ) (said : Option Said) → place < length messages → slice_get messages place ≡ said → frames_of (drop place messages) ≡ frame_text said ++ frames_of (drop (place + 1) messages)
frames_next [] place said within e = absurd (omega arith)
frames_next (message ∷ messages) zero said within e = ap (λ (s : Option Said). frame_text s ++ frames_of messages) e
frames_next (message ∷ messages) (suc place) said within e =
    let next : suc place + 1 ≡ suc (place + 1) = omega arith in
    rw next (frames_next messages place said (omega (arith, within)) e)

pub frames_end : (messages : List Said) (place : ℕ) → length messages ≤ place → frames_of (drop place messages) ≡ framed End []
frames_end messages place past = ap frames_of (drop_all place messages past)

-- ---- the feed is read

pub is_read : (known : Known) (scene : Scene) → IsKept known.bits known.entries → scene.bits ≡ known.bits → scene.genesis ≡ genesis_text (grants_of known.entries) → scene.messages ≡ map (said_in known) known.sayings → FeedIsRead scene
unfolding feed_text
is_read known scene h bits genesis messages limit rest long =
    let parts = genesis_parts known.entries in
    let spelled : is_block true scene.genesis ≡ true = ap (is_block true) genesis ∙ spelled_block true (genesis_text (grants_of known.entries)) parts (parts_spelled true parts h.genesis) in
    let work : scene.bits ≤ 64 = omega (arith, bits, h.work) in
    let fit : AllFit scene.messages = subst AllFit (sym messages) (all_fit known known.sayings h) in
    written_is_read limit (head_of scene.profile scene.bits scene.genesis) scene.messages rest work spelled fit long
