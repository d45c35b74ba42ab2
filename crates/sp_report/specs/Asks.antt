-- The lines that answer questions, over the kept blocks.
use Rattle.std.specs.Prelude.{ℕ, List}
use Rattle.sp_block.specs.Block.{ReadBlock}
use Rattle.sp_model.specs.declared.profile.Profile.{Profile}
use Rattle.sp_model.specs.Votes.{word}
use Rattle.sp_pool.specs.Kept.{graph_in, present}
use Rattle.sp_engine.specs.Transactions.{balance_by_id, state_of}
use Rattle.sp_report.specs.declared.ask.Ask.{Ask}
use Rattle.sp_report.specs.declared.ask.Ask.TheVariants.{Vote, Tx, Balance}
use Rattle.sp_names.specs.Labels.{AllLabels}
use Rattle.sp_report.specs.Lines.{balance_text, tx_text, vote_text}
use Rattle.sp_report.specs.Naming.{label_of}

-- what all present blocks say of the two, of the transaction, or of the lock
abbrev pub ask_text : Profile → AllLabels → List ReadBlock → Ask → List ℕ
ask_text profile labels kept (Vote x y) =
    vote_text (label_of labels.blocks x) (label_of labels.blocks y) (word (graph_in profile kept) (present kept) x y)
ask_text profile labels kept (Tx id) = tx_text (label_of labels.txs id) (state_of profile kept id)
ask_text profile labels kept (Balance lock) = balance_text (label_of labels.locks lock) (balance_by_id profile kept lock)
