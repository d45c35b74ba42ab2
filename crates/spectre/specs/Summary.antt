-- The summary of a scenario that was played: how many blocks, pairs, accepted transactions and balances there are,
-- each from the definitions over the present blocks.
use Rattle.std.specs.Prelude.{ℕ, ◌+◌, ◌-◌, ◌≤◌, ◌==◌, Bool, true, false, not, List, [], ◌∷◌, ◌++◌, codes, count_by, length, map}
use Rattle.std.specs.Fmt.{decimal}
use Rattle.sp_block.specs.Block.{ReadBlock}
use Rattle.sp_model.specs.Votes.{word}
use Rattle.sp_model.specs.declared.profile.Profile.{Profile}
use Rattle.sp_model.specs.declared.word.Word.{Word}
use Rattle.sp_model.specs.declared.word.Word.TheVariants as words
use Rattle.sp_carry.specs.Ledger.{is_accepted}
use Rattle.sp_engine.specs.Transactions.{balance_by_id, ledger_by_id, locks, tx_ids}
use Rattle.sp_names.specs.Labels.{AllLabels}
use Rattle.sp_pool.specs.Kept.{graph_in, present}
use Rattle.sp_report.specs.Lines.{accepted_count_text, balance_count_text, blocks_text}
use Rattle.sp_report.specs.Texts.{pairs_of, present_ids}
use Rattle.spectre.specs.declared.counts.Counts.{Counts}
use Rattle.spectre.specs.declared.counts.Tally.{Tally}

abbrev pub is_before : Word → Bool
is_before words.Before = true
is_before words.After = false
is_before words.Tie = false
is_before words.Same = false
is_before words.Absent = false

abbrev pub is_after : Word → Bool
is_after words.Before = false
is_after words.After = true
is_after words.Tie = false
is_after words.Same = false
is_after words.Absent = false

abbrev pub is_tie : Word → Bool
is_tie words.Before = false
is_tie words.After = false
is_tie words.Tie = true
is_tie words.Same = false
is_tie words.Absent = false

-- how often each word is said
abbrev pub tally_of : List Word → Tally
tally_of said = record { before = count_by is_before said; after = count_by is_after said; tie = count_by is_tie said }

-- what all present blocks say of a pair
abbrev pub pair_word : Profile → List ReadBlock → ℕ × ℕ → Word
pair_word profile kept pair = word (graph_in profile kept) (present kept) pair.0 pair.1

-- what they say of each pair of these blocks
abbrev pub pair_words : Profile → List ReadBlock → List ℕ → List Word
pair_words profile kept ids = map (pair_word profile kept) (pairs_of ids)

-- `pairs N before N after N tie N`
unfoldable pub tally_text : ℕ → Tally → List ℕ
tally_text pairs tally =
    codes "pairs " ++ decimal pairs ++ codes " before " ++ decimal tally.before ++ codes " after " ++ decimal tally.after ++ codes " tie " ++ decimal tally.tie ++ 10 ∷ []

-- how many transactions of the present blocks are accepted
abbrev pub accepted_count : Profile → List ReadBlock → ℕ
accepted_count profile kept = count_by (λ id. is_accepted (ledger_by_id profile kept) (present kept) id) (tx_ids kept)

-- under how many locks something is left
abbrev pub paid_count : Profile → List ReadBlock → ℕ
paid_count profile kept = count_by (λ lock. not (balance_by_id profile kept lock == 0)) (locks kept)

-- what there is of everything, given the present blocks in the order in which their pairs are taken
abbrev pub counts_of : Profile → List ReadBlock → List ℕ → Counts
counts_of profile kept ids =
    record {
      present = length (present kept);
      waiting = length kept - length (present kept);
      pairs = length (pairs_of ids);
      tally = tally_of (pair_words profile kept ids);
      accepted = accepted_count profile kept;
      paid = paid_count profile kept;
    }

-- the four lines of these numbers
unfoldable pub counts_text : Counts → List ℕ
counts_text counts =
    (blocks_text counts.present counts.waiting ++ tally_text counts.pairs counts.tally)
    ++ (accepted_count_text counts.accepted ++ balance_count_text counts.paid)

-- the pairs go by the order in which the blocks were named
abbrev pub summary : Profile → AllLabels → List ReadBlock → List ℕ
summary profile labels kept = counts_text (counts_of profile kept (present_ids labels kept))

-- What the counting adds and how far it may go.

-- the tally after some more words
abbrev pub added : Tally → List Word → Tally
added tally said =
    record {
      before = tally.before + count_by is_before said;
      after = tally.after + count_by is_after said;
      tie = tally.tie + count_by is_tie said;
    }

-- no word was counted more than so many times
pub record AreUpTo (tally : Tally) (n : ℕ) : Type 0 where
  pub before : tally.before ≤ n
  pub after : tally.after ≤ n
  pub tie : tally.tie ≤ n
