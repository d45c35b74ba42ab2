-- What refuses a certificate, in the order in which it is judged. Blocks are told by their places in the list.
use Rattle.std.specs.Prelude.{ℕ, ◌==◌, ◌&&◌, All, find, not, Bool, true, false, List, [], ◌∷◌, map, filter, length, take, max, slice_get, slice_index_or, if◌then◌else◌, Option, Some, None, ℤ, pos, ◌≡◌, ◌≢◌, ◌<◌, ◌⊎◌}
use Rattle.std.specs.List.{list_all, range_with_len}
use Rattle.std.specs.Ordering.{int_eq}
use Rattle.sp_block.specs.Block.{ReadBlock}
use Rattle.sp_model.specs.declared.profile.Profile.{Profile}
use Rattle.sp_model.specs.Graph.{Graph, has, in_past, keys}
use Rattle.sp_model.specs.Votes.{sgn, virt}
use Rattle.sp_model.specs.declared.word.Word.{Word}
use Rattle.sp_model.specs.declared.word.Word.TheVariants.{Absent, Same}
use Rattle.sp_pool.specs.Kept.{ids_of}
use Rattle.sp_pool.specs.Kept as kept
use Rattle.sp_dag.specs.Numbered.{graph_of, number_of, Numbered}
use Rattle.sp_bits.specs.Places.{IsRow}
use Rattle.sp_model.specs.Loose.{is_minus, is_plus}
use Rattle.sp_cert.specs.Certificate.{Certificate, Entries, IsSign}
use Rattle.sp_cert.specs.Entries.{entry, right_entry, sum_of, whole_number, world_of}
use Rattle.sp_cert.specs.declared.fault.CheckFault.{CheckFault}
use Rattle.sp_cert.specs.declared.fault.CheckFault.TheVariants.{Parent, Pair, World, Vote, Sum, Memory}

-- the first that is there
abbrev pub first_some : {E : Type 0} → List (Option E) → Option E
first_some [] = None
first_some (None ∷ rest) = first_some rest
first_some (Some x ∷ rest) = Some x

-- the first that some number below n gives
abbrev pub first_below : {E : Type 0} → ℕ → (ℕ → Option E) → Option E
first_below n f = first_some (map f (range_with_len 0 n))

-- a refusal, unless a test is met
abbrev pub unless : Bool → CheckFault → Option CheckFault
unless met fault = if met then None else Some fault

-- the parents of the block at a place, and its id
abbrev pub parents_at : List ReadBlock → ℕ → List ℕ
parents_at blocks k = slice_index_or (map (λ (b : ReadBlock). b.parents) blocks) k []

abbrev pub id_at : List ReadBlock → ℕ → ℕ
id_at blocks k = slice_index_or (ids_of blocks) k 0

-- each parent is an earlier block, and the id is no earlier one's
abbrev pub is_placed : List ReadBlock → ℕ → Bool
is_placed blocks k =
    let earlier = take k (ids_of blocks) in list_all (has earlier) (parents_at blocks k) && not (has earlier (id_at blocks k))

abbrev pub parent_refusal : List ReadBlock → Option CheckFault
parent_refusal blocks = first_below (length blocks) (λ k. unless (is_placed blocks k) (Parent k))

-- two different blocks of the list
abbrev pub are_two : List ℕ → ℕ → ℕ → Bool
are_two ids x y = not (x == y) && (has ids x && has ids y)

-- the parents of each block by their places
abbrev pub table_of : List ReadBlock → List (List ℕ)
table_of blocks = map (λ (b : ReadBlock). map (number_of (ids_of blocks)) b.parents) blocks

-- the blocks in a profile by number: the id and the salt of each, and the numbers of its parents
abbrev pub numbered_of : Profile → List ReadBlock → Numbered
numbered_of profile blocks = record {
  profile = profile;
  ids = ids_of blocks;
  salts = map (λ (b : ReadBlock). b.salt) blocks;
  parents = table_of blocks;
}

-- all blocks, and then each block that has both in its past
abbrev pub wanted_worlds : Graph → ℕ → ℕ → List ℕ
wanted_worlds graph x y = whole_number ∷ filter (λ z. in_past graph x z && in_past graph y z) (keys graph)

abbrev pub same_number : Option ℕ → Option ℕ → Bool
same_number None None = true
same_number None (Some b) = false
same_number (Some a) None = false
same_number (Some a) (Some b) = a == b

-- the first place where two lists of numbers differ
abbrev pub first_difference : List ℕ → List ℕ → Option ℕ
first_difference one other =
    first_below (max (length one) (length other)) (λ p. if same_number (slice_get one p) (slice_get other p) then None else Some p)

abbrev pub numbers_of : List Entries → List ℕ
numbers_of worlds = map (λ (w : Entries). w.number) worlds

abbrev pub world_at_fault : Option ℕ → Option CheckFault
world_at_fault None = None
world_at_fault (Some place) = Some (World place)

abbrev pub world_refusal : Graph → List Entries → ℕ → ℕ → Option CheckFault
world_refusal graph worlds x y = world_at_fault (first_difference (numbers_of worlds) (wanted_worlds graph x y))

-- the world at a place
abbrev pub world_at : List Entries → ℕ → Entries
world_at worlds place = slice_index_or worlds place (record { number = 0; votes = [] })

-- the first entry of a world that isn't right
abbrev pub entry_refusal : Graph → List Entries → ℕ → ℕ → ℕ → Option CheckFault
entry_refusal graph worlds x y place =
    first_below (length (keys graph)) (λ z.
    unless (int_eq (entry (world_at worlds place) z) (right_entry graph worlds (world_at worlds place) z x y)) (Vote place z))

abbrev pub vote_refusal : Graph → List Entries → ℕ → ℕ → Option CheckFault
vote_refusal graph worlds x y = first_below (length worlds) (entry_refusal graph worlds x y)

abbrev pub sum_refusal : Graph → List Entries → ℤ → Option CheckFault
sum_refusal graph worlds sign = unless (int_eq (sgn (sum_of graph (world_of worlds whole_number))) sign) Sum

-- what refuses the worlds of two places
abbrev pub refusals_by_place : Graph → List Entries → ℤ → ℕ → ℕ → List (Option CheckFault)
refusals_by_place graph worlds sign x y =
    world_refusal graph worlds x y ∷ vote_refusal graph worlds x y ∷ sum_refusal graph worlds sign ∷ []

-- the first refusal that stands
unfoldable pub refusal : Certificate → Option CheckFault
refusal c =
    first_some
    (parent_refusal c.blocks
    ∷ unless (are_two (ids_of c.blocks) c.x c.y) Pair
    ∷ refusals_by_place (graph_of (numbered_of c.profile c.blocks)) c.worlds c.sign (number_of (ids_of c.blocks) c.x) (number_of (ids_of c.blocks) c.y))

-- all blocks are present, so that they vote, and their virtual vote on the two is the sign
pub record IsShown (c : Certificate) : Type 0 where
  pub present : (id : ℕ) → has (kept.present c.blocks) id ≡ has (ids_of c.blocks) id
  pub sign : virt (kept.graph_in c.profile c.blocks) (kept.present c.blocks) c.x c.y ≡ c.sign

-- a fault is this refusal, unless memory ran out
abbrev pub IsCause : Option CheckFault → CheckFault → Type 0
IsCause refusal fault = fault ≢ Memory → refusal ≡ Some fault

-- the sign of the sum of each block's world
abbrev pub AreSigns : Graph → List Entries → List ℤ → Type 0
AreSigns graph worlds signs = (z : ℕ) → z < length (keys graph) → slice_index_or signs z (pos 0) ≡ sgn (sum_of graph (world_of worlds z))

-- the members of a world that have the entry +1, and those that have -1
pub record AreSides (members : List ℕ) (e : ℕ → ℤ) (plus minus : List ℕ) : Type 0 where
  pub row : IsRow members
  pub signs : (w : ℕ) → has members w ≡ true → IsSign (e w)
  pub plus_is : (w : ℕ) → has plus w ≡ (has members w && is_plus (e w))
  pub minus_is : (w : ℕ) → has minus w ≡ (has members w && is_minus (e w))

-- each world is all blocks or the past of one of so many
abbrev pub HaveBlocks : ℕ → List Entries → Type 0
HaveBlocks n worlds = All (λ (w : Entries). w.number ≢ whole_number → w.number < n) worlds

-- the block is the kept one of its id
abbrev pub IsFound : List ReadBlock → ReadBlock → Type 0
IsFound kept b = find (λ (x : ReadBlock). x.id == b.id) kept ≡ Some b

-- the word of a pair that has no certificate
abbrev pub IsNoPair : Word → Type 0
IsNoPair word = (word ≡ Same) ⊎ (word ≡ Absent)
