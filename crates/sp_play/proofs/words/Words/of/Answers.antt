use Rattle.sp_play.proofs.Cutting.{room_falls}
use Rattle.sp_play.proofs.words.Words.of.Goals as goal

pub parts-smaller-in_ok-push : goal.parts-smaller-in_ok-push
parts-smaller-in_ok-push c = room_falls c.parts.rest c.first_part.result.1 c.in-Some.bytes c.in-Some.is c.first_part.ensures.shorter

pub parts-smaller : goal.parts-smaller
parts-smaller c = room_falls c.parts.rest c.first_part.result.1 c.in-Some.bytes c.in-Some.is c.first_part.ensures.shorter
