-- How a run over a feed ends, by the feed's end.
use Rattle.std.proofs.Common.{◌≡◌, refl}
use Rattle.sp_feed.specs.Feed.{End, Malformed, TooLong, Truncated, Whole}
use Rattle.spectre.specs.Faults.{EndsMalformed, EndsTooLong, EndsTruncated, EndsWhole}
use Rattle.spectre.specs.Replay.{end_text}
use Rattle.spectre.specs.Run.{last_line, last_status}
use Rattle.spectre.specs.RunOf.{feed_fault}
use Rattle.spectre.specs.declared.status.Status.TheVariants as status

-- the line of its end
pub feed_line : (end : End) → last_line (feed_fault end) ≡ end_text end
feed_line (Whole rest) = refl
feed_line (Malformed at) = refl
feed_line (Truncated at) = refl
feed_line (TooLong taken) = refl

-- the status that it gives

pub whole_status : (end : End) → EndsWhole end → status.Done ≡ last_status (feed_fault end)
whole_status (Whole rest) h = refl
whole_status other h = absurd h

pub malformed_status : (end : End) → EndsMalformed end → status.Malformed ≡ last_status (feed_fault end)
malformed_status (Malformed at) h = refl
malformed_status other h = absurd h

pub truncated_status : (end : End) → EndsTruncated end → status.Truncated ≡ last_status (feed_fault end)
truncated_status (Truncated at) h = refl
truncated_status other h = absurd h

pub long_status : (end : End) → EndsTooLong end → status.TooLong ≡ last_status (feed_fault end)
long_status (TooLong taken) h = refl
long_status other h = absurd h
