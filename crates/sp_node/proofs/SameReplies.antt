-- The same valid blocks in two orders: each question is answered by the same bytes.
use Rattle.std.proofs.Common.{◌≡◌, sym, ap}
use Rattle.sp_engine.specs.Arrivals.{kept_by_all}
use Rattle.sp_engine.proofs.Alike.{same_state, same_word}
use Rattle.sp_engine.proofs.SameKept.{same_kept}
use Rattle.sp_report.specs.Lines.{balance_text, tx_text, vote_text}
use Rattle.sp_report.specs.Naming.{label_of}
use Rattle.sp_report.proofs.SameTexts.{same_left, same_pairs, same_report}
use Rattle.sp_feed.specs.Kinds.{SaysBlock, SaysVote, SaysTx, SaysBalance, SaysPairs, SaysReport}
use Rattle.sp_node.specs.Answers.{reply_of}
use Rattle.sp_node.specs.Messages.{OrderIsNoMatter}

pub order_is_no_matter : OrderIsNoMatter
unfolding reply_of
order_is_no_matter labels terms genesis arrivals others (SaysBlock bytes) question same plain = absurd question
order_is_no_matter labels terms genesis arrivals others (SaysVote x y) question same plain =
    ap (vote_text (label_of labels.blocks x) (label_of labels.blocks y)) (sym (same_word (kept_by_all terms.bits genesis arrivals) (kept_by_all terms.bits genesis others) (same_kept terms.bits genesis arrivals others same) terms.profile x y))
order_is_no_matter labels terms genesis arrivals others (SaysTx id) question same plain =
    ap (tx_text (label_of labels.txs id)) (sym (same_state (kept_by_all terms.bits genesis arrivals) (kept_by_all terms.bits genesis others) (same_kept terms.bits genesis arrivals others same) terms.profile id plain))
order_is_no_matter labels terms genesis arrivals others (SaysBalance lock) question same plain =
    ap (balance_text (label_of labels.locks lock)) (same_left terms.profile labels (kept_by_all terms.bits genesis arrivals) (kept_by_all terms.bits genesis others) (same_kept terms.bits genesis arrivals others same) plain lock)
order_is_no_matter labels terms genesis arrivals others SaysPairs question same plain =
    same_pairs terms.profile labels (kept_by_all terms.bits genesis arrivals) (kept_by_all terms.bits genesis others) (same_kept terms.bits genesis arrivals others same)
order_is_no_matter labels terms genesis arrivals others SaysReport question same plain =
    same_report terms.profile labels (kept_by_all terms.bits genesis arrivals) (kept_by_all terms.bits genesis others) (same_kept terms.bits genesis arrivals others same) plain
