-- What stands for bytes that arrive: an id where the block is known. Contracts of private functions alone cite it.
use Rattle.std.specs.Prelude.{ℕ, ◌≡◌, List, [], ◌∷◌, fold}
use Rattle.sp_block.specs.Block.{ReadBlock}
use Rattle.sp_engine.specs.Arrivals.{answer_of, kept_after}
use Rattle.sp_engine.specs.Causes.{IsKnown}
use Rattle.sp_engine.specs.declared.answer.Answer.{Answer}
use Rattle.sp_gossip.specs.Gossip.{brings, kept_by_node}
use Rattle.sp_gossip.specs.Network.{answers_to, Network, network_by}
use Rattle.sp_gossip.specs.declared.piece.Piece.{Piece}
use Rattle.sp_gossip.specs.declared.piece.Piece.TheVariants.{Known, New}

-- the piece stands for these bytes where they arrive and these blocks are kept
abbrev pub StandsFor : ℕ → List ReadBlock → Piece → List ℕ → Type 0
StandsFor bits kept (Known id) bytes = IsKnown bits kept bytes id
StandsFor bits kept (New own) bytes = own ≡ bytes

-- so does each of some for one of these
abbrev pub StandForAll : ℕ → List ReadBlock → List Piece → List (List ℕ) → Type 0
StandForAll bits kept [] [] = Unit {0}
StandForAll bits kept [] (bytes ∷ arrivals) = ⊥
StandForAll bits kept (piece ∷ pieces) [] = ⊥
StandForAll bits kept (piece ∷ pieces) (bytes ∷ arrivals) = StandsFor bits kept piece bytes × StandForAll bits kept pieces arrivals

-- the answer to a piece, and the blocks that are kept then, are those of the bytes that it stands for
abbrev pub TakesPiece : ℕ → List ReadBlock → Piece → Answer → List ReadBlock → Type 0
TakesPiece bits kept piece answer now =
    (bytes : List ℕ) → StandsFor bits kept piece bytes → (answer ≡ answer_of bits kept bytes) × (now ≡ kept_after bits kept bytes)

-- the same of pieces that arrive one after another
abbrev pub TakesPieces : ℕ → List ReadBlock → List Piece → List Answer → List ReadBlock → Type 0
TakesPieces bits kept pieces answers now =
    (arrivals : List (List ℕ)) → StandForAll bits kept pieces arrivals → (answers ≡ answers_to bits kept arrivals) × (now ≡ fold (kept_after bits) kept arrivals)

-- the same of pieces that are brought to a node
abbrev pub TakesBrought : Network → ℕ → List Piece → List Answer → Network → Type 0
TakesBrought old node pieces answers new =
    (arrivals : List (List ℕ)) → StandForAll old.bits (kept_by_node old.kept node) pieces arrivals →
    (answers ≡ answers_to old.bits (kept_by_node old.kept node) arrivals) × (new ≡ network_by old (brings node arrivals) old.makes)
