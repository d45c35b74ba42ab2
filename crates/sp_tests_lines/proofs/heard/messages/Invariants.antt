use Rattle.std.proofs.Common.{IsTrue}
use Rattle.sp_feed.specs.Reader.{is_open}
use Rattle.sp_tests_lines.proofs.heard.messages.Given as goal

abbrev pub invariant-messages : goal.invariant-messages
invariant-messages g l = IsTrue (is_open l.reader.stage)
