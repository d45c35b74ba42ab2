-- What a watch writes for messages are whole lines.
use Rattle.std.proofs.Common.{inl, inr, Bool, true, false, cond, ℕ, List, [], ◌∷◌, ◌++◌, Option, Some, None, Result, Ok, Err, refl}
use Rattle.std.specs.Prelude.{codes, suc}
use Rattle.sp_block.specs.Block.{ReadBlock}
use Rattle.sp_block.specs.declared.fault.BlockFault.{BlockFault}
use Rattle.sp_engine.specs.Arrivals.{kept_by_all}
use Rattle.sp_engine.specs.Blocks.{block_in}
use Rattle.sp_feed.specs.Format.{Head}
use Rattle.sp_feed.specs.Kinds.{Said, SaysBlock, SaysVote, SaysTx, SaysBalance, SaysPairs, SaysReport}
use Rattle.sp_model.specs.declared.profile.Profile.{Profile}
use Rattle.sp_names.specs.Labels.{no_labels}
use Rattle.sp_node.specs.Answers.{arrivals_of}
use Rattle.sp_node.specs.Terms.{Terms}
use Rattle.sp_watch.specs.Arrivals.{changes_text, turn_text}
use Rattle.sp_watch.specs.Lines.{change_text, item_text, value_text}
use Rattle.sp_watch.specs.Watching.{turns, values}
use Rattle.sp_watch.specs.declared.item.Item.{Item}
use Rattle.sp_watch.specs.declared.item.Value.{Value}
use Rattle.spectre.specs.LastLine.{AreLines}
use Rattle.spectre.specs.Replay.{fed, head_terms}
use Rattle.spectre.specs.Watches.{turned_text, watch_lines_by, watch_lines_under, watch_replied, watch_replies}
use Rattle.spectre.proofs.WholeLines.{each, join, reply_lines}

change_line : (item : Item) (from to : Value) → AreLines (change_text item from to)
change_line item from to = inr (item_text item ++ codes " from " ++ value_text from ++ codes " to " ++ value_text to, refl)

turn_line : (b : Bool) (text : List ℕ) → AreLines text → AreLines (cond b text [])
turn_line true text lines = lines
turn_line false text lines = inl refl

changes_lines : (profile : Profile) (history : ℕ → List ReadBlock) (k : ℕ) (items : List Item) → AreLines (changes_text profile history k items)
unfolding changes_text
changes_lines profile history k items =
    each (turn_text profile history k) (λ item. turn_line (turns (values profile history item) k) (change_text item (values profile history item k) (values profile history item (suc k))) (change_line item _ _)) items

turned_lines : (genesis : ReadBlock) (terms : Terms) (items : List Item) (arrivals : List (List ℕ)) (message : Said) → AreLines (turned_text genesis terms items arrivals message)
turned_lines genesis terms items arrivals (SaysBlock bytes) = changes_lines terms.profile _ _ items
turned_lines genesis terms items arrivals (SaysVote x y) = inl refl
turned_lines genesis terms items arrivals (SaysTx id) = inl refl
turned_lines genesis terms items arrivals (SaysBalance lock) = inl refl
turned_lines genesis terms items arrivals SaysPairs = inl refl
turned_lines genesis terms items arrivals SaysReport = inl refl

replies_lines : (genesis : ReadBlock) (terms : Terms) (items : List Item) (arrivals : List (List ℕ)) (messages : List Said) → AreLines (watch_replies genesis terms items arrivals messages)
unfolding watch_replies
replies_lines genesis terms items arrivals [] = inl refl
replies_lines genesis terms items arrivals (message ∷ messages) =
    join _ (watch_replies genesis terms items (arrivals ++ arrivals_of message) messages)
    (join _ (turned_text genesis terms items arrivals message) (reply_lines no_labels terms (kept_by_all terms.bits genesis arrivals) message) (turned_lines genesis terms items arrivals message))
    (replies_lines genesis terms items (arrivals ++ arrivals_of message) messages)

lines_by_genesis : (items : List Item) (r : Result ReadBlock BlockFault) (terms : Terms) (messages : List Said) → AreLines (watch_lines_by items r terms messages)
lines_by_genesis items (Ok genesis) terms messages = replies_lines genesis terms items [] messages
lines_by_genesis items (Err fault) terms messages = inl refl

lines_by_head : (items : List Item) (head : Option Head) (messages : List Said) → AreLines (watch_lines_under items head messages)
lines_by_head items None messages = inl refl
lines_by_head items (Some head) messages = lines_by_genesis items (block_in true head.genesis) (head_terms head) messages

pub watched_lines : (items : List Item) (input : List ℕ) → AreLines (watch_replied items input)
unfolding watch_replied
watched_lines items input = lines_by_head items (fed input).head (fed input).messages
