-- A certificate of kept blocks is the one that they give: its blocks, its worlds and its sign are determined.
use Rattle.std.proofs.Common.{◌≡◌, ℕ, suc, ◌<◌, List, [], ◌∷◌, length, get_or, refl, sym, ap, ◌∙◌, arith}
use Rattle.std.specs.Prelude.{All, map, unwrap_or, ℤ, pos}
use Rattle.std.proofs.lemmas.List.{get_or_default, length-map, same_lists}
use Rattle.std.proofs.lemmas.List.FromFn.{get_or-map-range_with_len, length-range_with_len}
use Rattle.sp_block.specs.Block.{block_of, ReadBlock}
use Rattle.sp_block.specs.Format.{of_parts}
use Rattle.sp_model.specs.Graph.{keys}
use Rattle.sp_model.specs.Votes.{virt}
use Rattle.sp_pool.specs.Kept.{graph_in, ids_of, present}
use Rattle.sp_dag.specs.Numbered.{graph_of, number_of, Numbered}
use Rattle.sp_dag.proofs.Ranked.{key_in, keys_are_numbers}
use Rattle.sp_engine.specs.Presence.{order_of}
use Rattle.sp_cert.specs.Certificate.{Certificate, Entries}
use Rattle.sp_cert.specs.Entries.{IsTold, members_of, vote_in}
use Rattle.sp_cert.specs.Made.{certificate_of, kept_block, present_of, told_world, told_worlds}
use Rattle.sp_cert.specs.Refusals.{IsFound, numbered_of, numbers_of, wanted_worlds}

-- a world whose entries are votes
module _ (table : Numbered) (x y : ℕ) (w : Entries) (told : IsTold (graph_of table) x y w) where
  abbrev votes_of : ℕ → ℤ
  votes_of k = vote_in (graph_of table) (members_of (graph_of table) w.number) x y k

  long : length (keys (graph_of table)) ≡ length table.parents
  long = ap length (keys_are_numbers table) ∙ length-range_with_len 0 (length table.parents)

  vote_at : (k : ℕ) (d : ℤ) → k < length w.votes → get_or w.votes k d ≡ get_or (map votes_of (keys (graph_of table))) k d
  vote_at k d less =
      let inside : k < length table.parents = omega (arith, less, told.long, long) in
      get_or_default w.votes k d (pos 0) less
      ∙ told.votes k (key_in table k inside)
      ∙ sym (ap (λ (l : List ℕ). get_or (map votes_of l) k d) (keys_are_numbers table) ∙ get_or-map-range_with_len votes_of 0 (length table.parents) k k d inside (omega arith))

  votes_are : w.votes ≡ map votes_of (keys (graph_of table))
  votes_are = same_lists w.votes (map votes_of (keys (graph_of table))) (told.long ∙ sym (length-map (keys (graph_of table)) votes_of)) vote_at

  pub world_is : w ≡ told_world (graph_of table) x y w.number
  world_is = λ k. record { number = w.number; votes = votes_are k }

each_world : (table : Numbered) (x y : ℕ) (worlds : List Entries) → All (IsTold (graph_of table) x y) worlds → worlds ≡ map (told_world (graph_of table) x y) (numbers_of worlds)
each_world table x y [] told = refl
each_world table x y (w ∷ ws) told =
    ap (λ (v : Entries). v ∷ ws) (world_is table x y w (told 0 w (omega arith)))
    ∙ ap (λ (l : List Entries). told_world (graph_of table) x y w.number ∷ l) (each_world table x y ws (λ k d less. told (suc k) d (omega arith)))

pub worlds_are : (table : Numbered) (x y : ℕ) (worlds : List Entries) → numbers_of worlds ≡ wanted_worlds (graph_of table) x y → All (IsTold (graph_of table) x y) worlds
    → worlds ≡ told_worlds (graph_of table) x y
worlds_are table x y worlds numbers told = each_world table x y worlds told ∙ ap (map (told_world (graph_of table) x y)) numbers

-- blocks that are kept under their ids
each_block : (kept blocks : List ReadBlock) → All (IsFound kept) blocks → blocks ≡ map (kept_block kept) (ids_of blocks)
each_block kept [] found = refl
each_block kept (b ∷ bs) found =
    let here : b ≡ kept_block kept b.id = sym (ap (λ o. unwrap_or o (block_of [] (of_parts 0 0 [] []))) (found 0 b (omega arith))) in
    ap (λ (c : ReadBlock). c ∷ bs) here ∙ ap (λ (l : List ReadBlock). kept_block kept b.id ∷ l) (each_block kept bs (λ k d less. found (suc k) d (omega arith)))

pub blocks_are : (kept blocks : List ReadBlock) → ids_of blocks ≡ order_of kept → All (IsFound kept) blocks → blocks ≡ present_of kept
blocks_are kept blocks ids found = each_block kept blocks found ∙ ap (map (kept_block kept)) ids

-- the certificate
pub certificate_is : (kept blocks : List ReadBlock) (dag : Numbered) (c : Certificate) (x y : ℕ) → ids_of blocks ≡ order_of kept → All (IsFound kept) blocks → dag ≡ numbered_of dag.profile blocks
    → c.profile ≡ dag.profile → c.blocks ≡ blocks → c.x ≡ x → c.y ≡ y → c.sign ≡ virt (graph_in dag.profile kept) (present kept) x y
    → c.worlds ≡ told_worlds (graph_of dag) (number_of dag.ids x) (number_of dag.ids y) → c ≡ certificate_of dag.profile kept x y
unfolding certificate_of
certificate_is kept blocks dag c x y ids found dag_is profile_is blocks_is x_is y_is sign_is worlds_is =
    let own : blocks ≡ present_of kept = blocks_are kept blocks ids found in
    let all : dag ≡ numbered_of dag.profile (present_of kept) = dag_is ∙ ap (numbered_of dag.profile) own in
    let worlds : c.worlds ≡ told_worlds (graph_of (numbered_of dag.profile (present_of kept))) (number_of (ids_of (present_of kept)) x) (number_of (ids_of (present_of kept)) y) =
    worlds_is ∙ ap (λ (d : Numbered). told_worlds (graph_of d) (number_of d.ids x) (number_of d.ids y)) all in
    let all_blocks : c.blocks ≡ present_of kept = blocks_is ∙ own in
    λ k. record { profile = profile_is k; blocks = all_blocks k; x = x_is k; y = y_is k; sign = sign_is k; worlds = worlds k }
