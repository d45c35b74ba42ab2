-- The blocks of a found journal, offered in their order, are all kept.
use Rattle.std.proofs.Common.{◌≡◌, ℕ, ◌+◌, ◌<◌, ◌≤◌, false, true, ltb, List, [], ◌∷◌, ◌++◌, drop, get_or, length, map, take, Ok, refl, sym, ap, subst, ◌∙◌, arith, append_assoc, length-append, length-take}
use Rattle.std.proofs.lemmas.Bool.{lt-ltb}
use Rattle.std.specs.Prelude.{fold}
use Rattle.std.proofs.lemmas.Grind.{fold-append, take_at_read}
use Rattle.std.proofs.lemmas.List.{drop_more, map-append}
use Rattle.sp_form.specs.Turns.{InTurn}
use Rattle.sp_ids.specs.Digest.{sha256_number}
use Rattle.sp_block.specs.Block.{block_of, IsBlock, IsGenesis, parts_of, ReadBlock}
use Rattle.sp_model.specs.Graph.{has}
use Rattle.sp_pool.specs.Kept.{ids_of}
use Rattle.sp_engine.specs.Arrivals.{kept_after, kept_with, valid_by, valid_in}
use Rattle.sp_block.specs.Judged.{meets}
use Rattle.sp_block.proofs.Judged.{meets_zeros}
use Rattle.sp_engine.specs.Blocks.{block_in}
use Rattle.sp_engine.proofs.SpelledBlocks.{block_is_spelled, spelled_block}
use Rattle.sp_journal.specs.Recovery.{bytes_in, id_behind, IsGood}

-- the genesis block is the one that its bytes spell
pub genesis_in : (g : ReadBlock) → IsBlock g → IsGenesis g → block_in true g.bytes ≡ Ok g
genesis_in g block kind =
    spelled_block true g.bytes (parts_of g) kind ∙ ap (λ (i : ℕ). Ok (record g { id = i })) (sym block.id)

module _ (bits : ℕ) where
  pub taken : (kept : List ReadBlock) (b : ReadBlock) → IsGood bits (ids_of kept) b → b.id ≡ sha256_number b.bytes → length kept < 512 → kept_after bits kept b.bytes ≡ kept ++ b ∷ []
  unfolding kept_after valid_in
  taken kept b good id few =
      let whole : block_of b.bytes (parts_of b) ≡ b = (λ i. record b { id = sym id i }) in
      let read : block_in false b.bytes ≡ Ok b = (block_is_spelled false b.bytes (parts_of b)).1 good.other ∙ ap Ok whole in
      let met : meets b.id bits ≡ true = meets_zeros b.id bits good.work in
      let new : has (ids_of kept) b.id ≡ false = good.fresh in
      let room : ltb (length kept) 512 ≡ true = lt-ltb (length kept) 512 few in
      ap (λ r. kept_with kept (valid_by bits r)) read ∙ rw (met, new, room) refl

  abbrev pub next : List ReadBlock → ReadBlock → List ReadBlock
  next kept b = kept_after bits kept b.bytes

  -- The first blocks were kept behind those from before, by the arrival of their bytes, and each of the rest may be
  -- recorded behind them.
  pub record AreRestored (before blocks : List ReadBlock) (i : ℕ) (kept : List ReadBlock) : Type 0 where
    pub so_far : kept ≡ before ++ take i blocks
    pub sent : kept ≡ fold next before (take i blocks)
    pub rest : InTurn (IsGood bits) id_behind (ids_of kept) (drop i blocks)

  -- one block more was offered
  pub one_restored : (before blocks kept now : List ReadBlock) (i : ℕ) (b : ReadBlock) → AreRestored before blocks i kept → i < length blocks → b ≡ get_or blocks i b → b.id ≡ sha256_number b.bytes
      → length before + length blocks ≤ 512 → now ≡ kept_after bits kept b.bytes → AreRestored before blocks (i + 1) now
  one_restored before blocks kept now i b so_far inside here id few is =
      let left : drop i blocks ≡ b ∷ drop (i + 1) blocks = drop_more blocks i b inside ∙ ap (λ (x : ReadBlock). x ∷ drop (i + 1) blocks) (sym here) in
      let turn = subst (InTurn (IsGood bits) id_behind (ids_of kept)) left so_far.rest in
      let size : length kept < 512 = omega (arith, ap length so_far.so_far, length-append before (take i blocks), length-take i blocks, few, inside) in
      let joins : now ≡ kept ++ b ∷ [] = is ∙ taken kept b turn.0 id size in
      let ids : ids_of now ≡ id_behind (ids_of kept) b = ap ids_of joins ∙ map-append (λ (x : ReadBlock). x.id) kept (b ∷ []) in
      let more : take i blocks ++ b ∷ [] ≡ take (i + 1) blocks = ap (λ (x : ReadBlock). take i blocks ++ x ∷ []) here ∙ sym (take_at_read blocks i b inside).1 in
      record {
        so_far = joins ∙ ap (λ (k : List ReadBlock). k ++ b ∷ []) so_far.so_far ∙ append_assoc before (take i blocks) (b ∷ []) ∙ ap (λ (k : List ReadBlock). before ++ k) more;
        sent = is ∙ ap (λ (k : List ReadBlock). next k b) so_far.sent ∙ sym (fold-append next before (take i blocks) (b ∷ [])) ∙ ap (fold next before) more;
        rest = subst (λ (l : List ℕ). InTurn (IsGood bits) id_behind l (drop (i + 1) blocks)) (sym ids) turn.1;
      }

  -- all of them were sent
  pub sent_all : (before blocks : List ReadBlock) → fold next before blocks ≡ fold (kept_after bits) before (map bytes_in blocks)
  sent_all before [] = refl
  sent_all before (b ∷ blocks) = sent_all (next before b) blocks
