-- The feed that a scene stands for, and the frames of its messages.
use Rattle.std.specs.Prelude.{◌≡◌, ◌≤◌, ℕ, List, [], ◌++◌, length, Option, Some, None}
use Rattle.sp_feed.specs.declared.kind.Kind.TheVariants.{End}
use Rattle.sp_feed.specs.Feed.{feed, Whole}
use Rattle.sp_feed.specs.Format.{head_of}
use Rattle.sp_feed.specs.Kinds.{Said}
use Rattle.sp_feed.specs.Spelling.{Fits, framed, spelled, written}
use Rattle.sp_play.specs.Scene.{Scene}

-- it fits into a frame, and so does the end
abbrev pub FitsFrame : Option Said → Type 0
FitsFrame None = Unit {0}
FitsFrame (Some said) = Fits said

-- the frame of a message, or of the end
abbrev pub frame_text : Option Said → List ℕ
frame_text None = framed End []
frame_text (Some said) = spelled said

-- the head, a frame for each message in order, and the frame that ends them
unfoldable pub feed_text : Scene → List ℕ
feed_text scene = written (head_of scene.profile scene.bits scene.genesis) scene.messages

-- so what reads it finds the scene's profile, its bits, its genesis block and its messages, and what stands behind the feed
abbrev pub FeedIsRead : Scene → Type 0
FeedIsRead scene = (limit : ℕ) (rest : List ℕ) → length (feed_text scene) ≤ limit
    → feed limit (feed_text scene ++ rest) ≡ record { head = Some (head_of scene.profile scene.bits scene.genesis); messages = scene.messages; end = Whole rest }
