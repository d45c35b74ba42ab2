use Rattle.sp_play.proofs.Cutting.{room_falls}
use Rattle.sp_play.proofs.words.first_word.Goals as goal

pub parts-smaller : goal.parts-smaller
parts-smaller c = room_falls c.parts.rest c.first_part.result.1 c.in-Some.bytes c.in-Some.is c.first_part.ensures.shorter
