-- The certificate that kept blocks give of two present ones: there is one alone.
use Rattle.std.specs.Prelude.{ℕ, ◌==◌, List, [], find, map, unwrap_or}
use Rattle.sp_block.specs.Block.{block_of, ReadBlock}
use Rattle.sp_block.specs.Format.{of_parts}
use Rattle.sp_model.specs.declared.profile.Profile.{Profile}
use Rattle.sp_model.specs.Graph.{Graph, keys}
use Rattle.sp_model.specs.Votes.{virt}
use Rattle.sp_pool.specs.Kept.{graph_in, ids_of, present}
use Rattle.sp_dag.specs.Numbered.{graph_of, number_of}
use Rattle.sp_engine.specs.Presence.{order_of}
use Rattle.sp_cert.specs.Certificate.{Certificate, Entries}
use Rattle.sp_cert.specs.Entries.{members_of, vote_in}
use Rattle.sp_cert.specs.Refusals.{numbered_of, wanted_worlds}

-- the kept block of an id; where there is none, a block without parts
abbrev pub kept_block : List ReadBlock → ℕ → ReadBlock
kept_block kept id = unwrap_or (find (λ (b : ReadBlock). b.id == id) kept) (block_of [] (of_parts 0 0 [] []))

-- the present blocks in the order in which they became so
abbrev pub present_of : List ReadBlock → List ReadBlock
present_of kept = map (kept_block kept) (order_of kept)

-- the world of this number: the vote of each of its blocks on the blocks at two places, and 0 for each other block
abbrev pub told_world : Graph → ℕ → ℕ → ℕ → Entries
told_world graph x y number = record { number = number; votes = map (vote_in graph (members_of graph number) x y) (keys graph) }

-- that of all blocks, and then that of each block that has both in its past
abbrev pub told_worlds : Graph → ℕ → ℕ → List Entries
told_worlds graph x y = map (told_world graph x y) (wanted_worlds graph x y)

-- the present blocks, what they say of the two, and the worlds that show it
unfoldable pub certificate_of : Profile → List ReadBlock → ℕ → ℕ → Certificate
certificate_of profile kept x y = record {
  profile = profile;
  blocks = present_of kept;
  x = x;
  y = y;
  sign = virt (graph_in profile kept) (present kept) x y;
  worlds = told_worlds (graph_of (numbered_of profile (present_of kept))) (number_of (ids_of (present_of kept)) x) (number_of (ids_of (present_of kept)) y);
}
