use Rattle.std.proofs.Common.{◌≡◌, drop}
use Rattle.std.specs.Prelude.{slice_get}
use Rattle.sp_play.specs.Scene.{made_in}
use Rattle.sp_play.proofs.made.made_at.Given as goal

abbrev pub invariant-places : goal.invariant-places
invariant-places l = slice_get (made_in (drop l.place l.entries)) l.left ≡ slice_get (made_in l.entries) l.i
