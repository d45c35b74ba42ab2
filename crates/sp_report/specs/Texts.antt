-- The texts over the present blocks: each a list of lines, in the order of the naming. What has a name stands in the order
-- of naming, and behind it the rest, ascending by id or lock: all of it where nothing has a name.
use Rattle.std.specs.Prelude.{ℕ, ◌==◌, List, [], ◌∷◌, ◌++◌, ◌-◌, not, filter, length, map}
use Rattle.std.specs.List.{flat_map}
use Rattle.sp_block.specs.Ascending.{ascending}
use Rattle.sp_block.specs.Block.{ReadBlock}
use Rattle.sp_model.specs.declared.profile.Profile.{Profile}
use Rattle.sp_carry.specs.Ledger.{is_accepted}
use Rattle.sp_carry.specs.declared.state.TxState.TheVariants.{Accepted}
use Rattle.sp_names.specs.Labels.{AllLabels, in_order}
use Rattle.sp_pool.specs.Kept.{present}
use Rattle.sp_engine.specs.Transactions.{balance_by_id, ledger_by_id, locks, tx_ids}
use Rattle.sp_report.specs.declared.ask.Ask.TheVariants.{Vote, Balance}
use Rattle.sp_report.specs.declared.text.Text.{Text}
use Rattle.sp_report.specs.declared.text.Text.TheVariants.{Pairs, Report}
use Rattle.sp_report.specs.Asks.{ask_text}
use Rattle.sp_report.specs.Lines.{accepted_count_text, balance_count_text, blocks_text, pair_count_text, tx_text}
use Rattle.sp_report.specs.Naming.{label_of}

-- ---- pairs

-- the present blocks, in the order of the naming
abbrev pub present_ids : AllLabels → List ReadBlock → List ℕ
present_ids labels kept = in_order labels.blocks (ascending (present kept))

-- the pairs of a list, by the first of the two, then by the second
unfoldable pub pairs_of : List ℕ → List (ℕ × ℕ)
pairs_of [] = []
pairs_of (x ∷ xs) = map (λ y. (x, y)) xs ++ pairs_of xs

-- what all present blocks say of a pair
abbrev pub pair_text : Profile → AllLabels → List ReadBlock → ℕ × ℕ → List ℕ
pair_text profile labels kept pair = ask_text profile labels kept (Vote pair.0 pair.1)

-- what they say of a block and each of some others
abbrev pub votes_text : Profile → AllLabels → List ReadBlock → ℕ → List ℕ → List ℕ
votes_text profile labels kept first others = flat_map (λ other. pair_text profile labels kept (first, other)) others

-- how many pairs these ids have, and what is said of each
unfoldable pub pairs_of_ids_text : Profile → AllLabels → List ReadBlock → List ℕ → List ℕ
pairs_of_ids_text profile labels kept ids =
    pair_count_text (length (pairs_of ids)) ++ flat_map (pair_text profile labels kept) (pairs_of ids)

-- the pairs of different present blocks, in each of them the one first that stands earlier in the order of the naming
abbrev pub pairs_text : Profile → AllLabels → List ReadBlock → List ℕ
pairs_text profile labels kept = pairs_of_ids_text profile labels kept (present_ids labels kept)

-- ---- the report

-- the accepted transactions of the present blocks, in the order of the naming
abbrev pub accepted_ids : Profile → AllLabels → List ReadBlock → List ℕ
accepted_ids profile labels kept =
    in_order labels.txs (ascending (filter (λ id. is_accepted (ledger_by_id profile kept) (present kept) id) (tx_ids kept)))

-- the locks under which they leave something, in the order of the naming
abbrev pub paid_locks : Profile → AllLabels → List ReadBlock → List ℕ
paid_locks profile labels kept =
    in_order labels.locks (ascending (filter (λ lock. not (balance_by_id profile kept lock == 0)) (locks kept)))

-- how many blocks are present, and how many wait
abbrev pub counts_text : List ReadBlock → List ℕ
counts_text kept = blocks_text (length (present kept)) (length kept - length (present kept))

-- the line of an accepted transaction
abbrev pub accepted_text : AllLabels → ℕ → List ℕ
accepted_text labels id = tx_text (label_of labels.txs id) Accepted

-- how many accepted transactions there are, and each of them
unfoldable pub all_accepted_text : AllLabels → List ℕ → List ℕ
all_accepted_text labels ids = accepted_count_text (length ids) ++ flat_map (accepted_text labels) ids

-- the line of what is left under a lock
abbrev pub paid_text : Profile → AllLabels → List ReadBlock → ℕ → List ℕ
paid_text profile labels kept lock = ask_text profile labels kept (Balance lock)

-- how many balances there are, and each of them
unfoldable pub all_paid_text : Profile → AllLabels → List ReadBlock → List ℕ → List ℕ
all_paid_text profile labels kept locks = balance_count_text (length locks) ++ flat_map (paid_text profile labels kept) locks

-- the blocks, the accepted transactions and the balances
unfoldable pub report_text : Profile → AllLabels → List ReadBlock → List ℕ
report_text profile labels kept =
    counts_text kept
    ++ (all_accepted_text labels (accepted_ids profile labels kept) ++ all_paid_text profile labels kept (paid_locks profile labels kept))

-- a text by its kind
abbrev pub text_of : Profile → AllLabels → List ReadBlock → Text → List ℕ
text_of profile labels kept Pairs = pairs_text profile labels kept
text_of profile labels kept Report = report_text profile labels kept
