-- Which block an answer says is kept now.
use Rattle.std.specs.Prelude.{ℕ, Option, Some, None}
use Rattle.sp_engine.specs.declared.answer.Answer.{Answer}
use Rattle.sp_engine.specs.declared.answer.Answer.TheVariants.{Kept, Held, Known, Refused, Full}

-- the id of the block that is kept now, where one is
abbrev pub kept_id : Answer → Option ℕ
kept_id (Kept id present) = Some id
kept_id (Held id) = Some id
kept_id (Known id) = None
kept_id (Refused refusal) = None
kept_id Full = None
