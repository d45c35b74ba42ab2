use Rattle.std.proofs.Common.{◌≡◌, ◌-◌}
use Rattle.sp_block.specs.Draft.{draft_text, NoneBelow}
use Rattle.sp_block.proofs.draft.seek_nonce.Given as goal

abbrev pub invariant-tries : goal.invariant-tries
invariant-tries l = record {
  bytes : l.bytes ≡ draft_text l.draft (l.nonce - 1);
  none : NoneBelow l.draft l.bits l.nonce;
}
