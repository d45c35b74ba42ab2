-- Block graphs: which blocks are complete, and the past, future and anticone of a block.
use Rattle.std.specs.Prelude.{ℕ, zero, suc, Bool, true, false, ◌==◌, ◌||◌, ◌&&◌, ◌≡◌, not, nat_lt, List, [], ◌∷◌, map, filter, length, Option, Some, None}
use Rattle.std.specs.List.{list_any, list_all, find}
use Rattle.sp_model.specs.declared.profile.Profile.{Profile}

-- the salt and the id of a block, two whole numbers
pub record Rank : Type 0 where
  pub salt : ℕ
  pub id : ℕ

-- whether the first rank is the lower one: ranks are ordered by salt, then by id
abbrev pub is_lower : Rank → Rank → Bool
is_lower a b = nat_lt a.salt b.salt || ((a.salt == b.salt) && nat_lt a.id b.id)

-- a block: its key, a whole number, the keys of its parents, and its rank
pub record Block : Type 0 where
  pub key : ℕ
  pub parents : List ℕ
  pub rank : Rank

pub record Graph : Type 0 where
  pub profile : Profile
  pub blocks : List Block

abbrev pub keys : Graph → List ℕ
keys graph = map (λ (b : Block). b.key) graph.blocks

-- whether the set has the key; a set is a list of keys
abbrev pub has : List ℕ → ℕ → Bool
has set key = list_any (λ k. k == key) set

abbrev pub parents_or_none : Option Block → List ℕ
parents_or_none None = []
parents_or_none (Some b) = b.parents

-- the parents of a key; a key that isn't in the graph has none
abbrev pub parents_of : Graph → ℕ → List ℕ
parents_of graph key = parents_or_none (find (λ b. b.key == key) graph.blocks)

abbrev pub rank_or_least : Option Block → Rank
rank_or_least None = record { salt = 0; id = 0 }
rank_or_least (Some b) = b.rank

-- the rank of a key
abbrev pub rank_of : Graph → ℕ → Rank
rank_of graph key = rank_or_least (find (λ b. b.key == key) graph.blocks)

-- no key repeats
abbrev pub AreDistinct : List ℕ → Type 0
AreDistinct [] = Unit {0}
AreDistinct (k ∷ ks) = (has ks k ≡ false) × AreDistinct ks

-- no key and no rank repeats, and genesis is the one key without parents
pub record IsGraph (graph : Graph) (genesis : ℕ) : Type 0 where
  pub distinct : AreDistinct (keys graph)
  pub ranks : (a b : ℕ) → has (keys graph) a ≡ true → has (keys graph) b ≡ true → rank_of graph a ≡ rank_of graph b → a ≡ b
  pub there : has (keys graph) genesis ≡ true
  pub rootless : parents_of graph genesis ≡ []
  pub one : (z : ℕ) → has (keys graph) z ≡ true → parents_of graph z ≡ [] → z ≡ genesis

-- genesis, which has no parents, and the keys all of whose parents are in the set
abbrev pub round : Graph → List ℕ → List ℕ
round graph set = filter (λ z. list_all (λ parent. has set parent) (parents_of graph z)) (keys graph)

-- `round` applied to the empty set so many times
unfoldable pub rounds : ℕ → Graph → List ℕ
rounds zero graph = []
rounds (suc n) graph = round graph (rounds n graph)

-- the blocks whose ancestors are all there and lead to genesis: `round` as often as the graph has blocks
unfoldable pub complete : Graph → List ℕ
complete graph = rounds (length graph.blocks) graph

-- whether a is reached from z by one or more parent steps, and by so many at most
unfoldable pub reaches_within : ℕ → Graph → ℕ → ℕ → Bool
reaches_within zero graph a z = false
reaches_within (suc steps) graph a z =
    list_any (λ parent. (parent == a) || reaches_within steps graph a parent) (parents_of graph z)

-- whether a is in the past of z; a path that repeats no block has no more steps than the graph has blocks
unfoldable pub in_past : Graph → ℕ → ℕ → Bool
in_past graph a z = reaches_within (length graph.blocks) graph a z

-- the keys that are reached from z by one or more parent steps
abbrev pub past : Graph → ℕ → List ℕ
past graph z = filter (λ a. in_past graph a z) (keys graph)

-- the past of z with z
abbrev pub bar : Graph → ℕ → List ℕ
bar graph z = z ∷ past graph z

-- the members of the set that have z in their past
abbrev pub future : Graph → List ℕ → ℕ → List ℕ
future graph set z = filter (λ w. in_past graph z w) set

-- whether one of two different keys is in the past of the other
abbrev pub related : Graph → ℕ → ℕ → Bool
related graph a b = not (a == b) && (in_past graph a b || in_past graph b a)

-- the members of the set that differ from z and are unrelated to it
abbrev pub anticone : Graph → List ℕ → ℕ → List ℕ
anticone graph set z = filter (λ w. not (w == z) && not (related graph w z)) set

-- a set of complete blocks that holds the past of each member
pub record IsDownset (graph : Graph) (set : List ℕ) : Type 0 where
  pub all_complete : (z : ℕ) → has set z ≡ true → has (complete graph) z ≡ true
  pub closed : (z a : ℕ) → has set z ≡ true → in_past graph a z ≡ true → has set a ≡ true
