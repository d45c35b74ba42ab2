use Rattle.sp_gossip.proofs.Cuts.{Seen}
use Rattle.sp_gossip.proofs.cut.find_script.Given as goal

abbrev pub invariant-bytes : goal.invariant-bytes
invariant-bytes l = Seen l.text l.place l.begins l.ends
