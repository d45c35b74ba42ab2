-- A block of a known id: its bytes are answered Known and change nothing, and so it stays. So pieces that stand for bytes are
-- answered as these are.
use Rattle.std.proofs.Common.{◌≡◌, ℕ, ◌+◌, ◌<◌, ◌≤◌, Bool, true, false, List, [], ◌∷◌, ◌++◌, length, drop, get_or, refl, sym, ap, ap₂, subst, ◌∙◌, append_assoc, add-one, nat_lt, None}
use Rattle.std.specs.Prelude.{fold, if◌then◌else◌}
use Rattle.std.proofs.Math.Seq.{drop-cons}
use Rattle.std.proofs.Math.ListN.{drop_of_length-le}
use Rattle.std.proofs.lemmas.List.{append-nil}
use Rattle.sp_ids.specs.Bits.{BeginsWithZeros}
use Rattle.sp_block.specs.Block.{block_of, IsBlock, parts_of, ReadBlock}
use Rattle.sp_block.specs.Spelling.{SpellsBlock}
use Rattle.sp_model.specs.Graph.{has}
use Rattle.sp_pool.specs.Kept.{ids_of, standing_of}
use Rattle.sp_pool.specs.declared.answers.Standing.{Standing}
use Rattle.sp_pool.specs.declared.answers.Standing.TheVariants as standing
use Rattle.sp_pool.proofs.KeptBlocks.{no_parents}
use Rattle.sp_pool.proofs.Standings.{Known-standing}
use Rattle.sp_engine.specs.Arrivals.{answer_of, kept_after}
use Rattle.sp_engine.specs.Causes.{IsKnown}
use Rattle.sp_engine.specs.declared.answer.Answer.{Answer}
use Rattle.sp_engine.specs.declared.answer.Answer.TheVariants as answer
use Rattle.sp_engine.proofs.Judgements.{known_is_caused}
use Rattle.sp_report.proofs.Arrived.{told_changes}
use Rattle.sp_gossip.specs.Network.{answers_to}
use Rattle.sp_gossip.specs.Pieces.{StandForAll, StandsFor, TakesPiece, TakesPieces}
use Rattle.sp_gossip.specs.declared.piece.Piece.{Piece}
use Rattle.sp_gossip.specs.declared.piece.Piece.TheVariants.{Known, New}
use Rattle.sp_gossip.proofs.Keeping.{id_stays}

-- ---- why a block is known

other_spelled : (b : ReadBlock) → IsBlock b → (b.parents ≡ [] → ⊥) → SpellsBlock b.bytes false (parts_of b)
other_spelled b is some = at is.genesis is.spells
  where
    at : (genesis : Bool) → SpellsBlock b.bytes genesis (parts_of b) → SpellsBlock b.bytes false (parts_of b)
    at true s = absurd (some (no_parents b is s))
    at false s = s

-- a block with a parent and enough work, of an id that is kept
pub is_known : (bits : ℕ) (kept : List ReadBlock) (b : ReadBlock) → IsBlock b → (b.parents ≡ [] → ⊥) → BeginsWithZeros b.id bits → has (ids_of kept) b.id ≡ true → IsKnown bits kept b.bytes b.id
is_known bits kept b is some work there = record {
  block = b;
  valid = record {
    spells = other_spelled b is some;
    whole = ap (λ (id : ℕ). let x : ReadBlock = record b { id = id } in x) is.id;
    work = work;
  };
  same = refl;
  known = sym (Known-standing kept b.id there);
}

-- ---- what its bytes come to

pub known_takes : (bits : ℕ) (kept : List ReadBlock) (id : ℕ) → TakesPiece bits kept (Known id) (answer.Known id) kept
known_takes bits kept id bytes k =
    let is : answer.Known id ≡ answer_of bits kept bytes = sym ((known_is_caused bits kept bytes id).1 k) in
    (is, sym (told_changes bits kept bytes (answer.Known id) None refl is))

pub new_takes : (bits : ℕ) (kept : List ReadBlock) (own : List ℕ) (told : Answer) (now : List ReadBlock) → told ≡ answer_of bits kept own → now ≡ kept_after bits kept own → TakesPiece bits kept (New own) told now
new_takes bits kept own told now is new bytes same = (is ∙ ap (answer_of bits kept) same, new ∙ ap (kept_after bits kept) same)

-- ---- it stays known

from_known : (kept : List ReadBlock) (id : ℕ) → standing_of kept id ≡ standing.Known → has (ids_of kept) id ≡ true
from_known kept id h = at (has (ids_of kept) id) (nat_lt (length kept) 512) h
  where
    at : (c d : Bool) → ◌≡◌ {A = Standing} (if c then standing.Known else (if d then standing.Fresh else standing.Full)) standing.Known → c ≡ true
    at true d e = refl
    at false true e = absurd (cc)
    at false false e = absurd (cc)

still_stands : (bits : ℕ) (kept : List ReadBlock) (other : List ℕ) (piece : Piece) (bytes : List ℕ) → StandsFor bits kept piece bytes → StandsFor bits (kept_after bits kept other) piece bytes
still_stands bits kept other (Known id) bytes k = record {
  block = k.block;
  valid = k.valid;
  same = k.same;
  known = sym (Known-standing (kept_after bits kept other) id (id_stays bits kept (other ∷ []) id (from_known kept id k.known)));
}
still_stands bits kept other (New own) bytes same = same

still_stand : (bits : ℕ) (kept : List ReadBlock) (other : List ℕ) (pieces : List Piece) (arrivals : List (List ℕ)) → StandForAll bits kept pieces arrivals → StandForAll bits (kept_after bits kept other) pieces arrivals
still_stand bits kept other [] [] all = tt
still_stand bits kept other [] (bytes ∷ arrivals) all = absurd all
still_stand bits kept other (piece ∷ pieces) [] all = absurd all
still_stand bits kept other (piece ∷ pieces) (bytes ∷ arrivals) all = (still_stands bits kept other piece bytes all.0, still_stand bits kept other pieces arrivals all.1)

-- ---- pieces that arrive one after another

-- the bytes that still arrive, where the answers are this list so far and these blocks are kept
pub record StillArrive (bits : ℕ) (before kept : List ReadBlock) (pieces : List Piece) (arrivals : List (List ℕ)) (list : List Answer) : Type 0 where
  pub rest : List (List ℕ)
  pub stand : StandForAll bits kept pieces rest
  pub answered : list ++ answers_to bits kept rest ≡ answers_to bits before arrivals
  pub all_kept : fold (kept_after bits) kept rest ≡ fold (kept_after bits) before arrivals

one_more : (bits : ℕ) (before kept now : List ReadBlock) (piece : Piece) (pieces : List Piece) (arrivals : List (List ℕ)) (list : List Answer) (told : Answer) → TakesPiece bits kept piece told now
    → StillArrive bits before kept (piece ∷ pieces) arrivals list → StillArrive bits before now pieces arrivals (list ++ told ∷ [])
unfolding answers_to
one_more bits before kept now piece pieces arrivals list told takes still = at still.rest still.stand still.answered still.all_kept
  where
    at : (rest : List (List ℕ)) → StandForAll bits kept (piece ∷ pieces) rest → list ++ answers_to bits kept rest ≡ answers_to bits before arrivals
        → fold (kept_after bits) kept rest ≡ fold (kept_after bits) before arrivals → StillArrive bits before now pieces arrivals (list ++ told ∷ [])
    at [] stand answered all_kept = absurd stand
    at (bytes ∷ rest) stand answered all_kept =
        let took : (told ≡ answer_of bits kept bytes) × (now ≡ kept_after bits kept bytes) = takes bytes stand.0 in
        record {
          rest = rest;
          stand = subst (λ (k : List ReadBlock). StandForAll bits k pieces rest) (sym took.1) (still_stand bits kept bytes pieces rest stand.1);
          answered =
              append_assoc list (told ∷ []) (answers_to bits now rest)
              ∙ ap₂ (λ (a : Answer) (k : List ReadBlock). list ++ (a ∷ answers_to bits k rest)) took.0 took.1 ∙ answered;
          all_kept = ap (λ (k : List ReadBlock). fold (kept_after bits) k rest) took.1 ∙ all_kept;
        }

pub one_taken : (bits now_bits : ℕ) (before kept now : List ReadBlock) (pieces : List Piece) (arrivals : List (List ℕ)) (list more : List Answer) (i : ℕ) (piece : Piece) (told : Answer)
    → i < length pieces → piece ≡ get_or pieces i piece → now_bits ≡ bits → TakesPiece now_bits kept piece told now → more ≡ list ++ told ∷ []
    → StillArrive bits before kept (drop i pieces) arrivals list → StillArrive bits before now (drop (i + 1) pieces) arrivals more
one_taken bits now_bits before kept now pieces arrivals list more i piece told lt is same takes pushed still =
    let next : drop i pieces ≡ piece ∷ drop (i + 1) pieces = drop-cons pieces i piece lt ∙ ap₂ (λ (y : Piece) (n : ℕ). y ∷ drop n pieces) (sym is) (sym (add-one i)) in
    subst (λ (l : List Answer). StillArrive bits before now (drop (i + 1) pieces) arrivals l) (sym pushed)
    (one_more bits before kept now piece (drop (i + 1) pieces) arrivals list told (subst (λ (b : ℕ). TakesPiece b kept piece told now) same takes)
    (subst (λ (ps : List Piece). StillArrive bits before kept ps arrivals list) next still))

pub all_taken : (bits : ℕ) (before now : List ReadBlock) (pieces : List Piece) (list : List Answer) (i : ℕ) → length pieces ≤ i
    → ((arrivals : List (List ℕ)) → StandForAll bits before pieces arrivals → StillArrive bits before now (drop i pieces) arrivals list) → TakesPieces bits before pieces list now
unfolding answers_to
all_taken bits before now pieces list i le goes arrivals all =
    let still : StillArrive bits before now [] arrivals list = subst (λ (ps : List Piece). StillArrive bits before now ps arrivals list) (drop_of_length-le pieces le) (goes arrivals all) in
    at still.rest still.stand still.answered still.all_kept
  where
    at : (rest : List (List ℕ)) → StandForAll bits now [] rest → list ++ answers_to bits now rest ≡ answers_to bits before arrivals
        → fold (kept_after bits) now rest ≡ fold (kept_after bits) before arrivals → (list ≡ answers_to bits before arrivals) × (now ≡ fold (kept_after bits) before arrivals)
    at [] stand answered all_kept = (sym (append-nil list) ∙ answered, all_kept)
    at (bytes ∷ rest) stand answered all_kept = absurd stand

pub first_taken : (bits : ℕ) (kept : List ReadBlock) (pieces : List Piece) (arrivals : List (List ℕ)) → StandForAll bits kept pieces arrivals → StillArrive bits kept kept (drop 0 pieces) arrivals []
first_taken bits kept pieces arrivals all = record { rest = arrivals; stand = all; answered = refl; all_kept = refl }
