-- Pairwise votes on the order of blocks: the vote of a block by its five cases, the virtual vote, and the word of two blocks.
use Rattle.std.specs.Prelude.{ℕ, zero, suc, ◌+◌, ◌*◌, Bool, true, false, ◌==◌, ◌&&◌, not, List, [], ◌∷◌, length, if◌then◌else◌, ℤ, pos, negsuc, ◌+ℤ◌}
use Rattle.sp_model.specs.declared.profile.Profile.{Profile}
use Rattle.sp_model.specs.declared.profile.Profile.TheVariants.{One, Two}
use Rattle.sp_model.specs.declared.word.Word.{Word}
use Rattle.sp_model.specs.declared.word.Word.TheVariants.{Before, After, Tie, Same, Absent}
use Rattle.sp_model.specs.Graph.{Graph, Rank, is_lower, rank_of, in_past, past, future, has}

-- the sign of a whole number: -1, 0 or +1
abbrev pub sgn : ℤ → ℤ
sgn (negsuc n) = negsuc 0
sgn (pos zero) = pos 0
sgn (pos (suc n)) = pos 1

-- the sum of f over a set; over nothing it is 0
abbrev pub total : (ℕ → ℤ) → List ℕ → ℤ
total f [] = pos 0
total f (z ∷ zs) = f z +ℤ total f zs

-- which case of the vote of z on x and y applies
pub data Case : Type 0 where
  Is_x : Case
  Is_y : Case
  Only_x : Case
  Only_y : Case
  Both : Case
  Neither : Case

-- the first case that applies, where it is known whether z is x, whether z is y, and whether x and y are in the past of z
abbrev pub case_by : Bool → Bool → Bool → Bool → Case
case_by true _ _ _ = Is_x
case_by false true _ _ = Is_y
case_by false false true false = Only_x
case_by false false false true = Only_y
case_by false false true true = Both
case_by false false false false = Neither

abbrev pub case_of : Graph → ℕ → ℕ → ℕ → Case
case_of graph z x y = case_by (z == x) (z == y) (in_past graph x z) (in_past graph y z)

-- for the block of the lower one of two ranks: -1 where it is the first, +1 where it is the second
abbrev pub by_rank : Rank → Rank → ℤ
by_rank first second =
    if is_lower first second then negsuc 0 else (if is_lower second first then pos 1 else pos 0)

-- the vote of a block that finds a virtual vote in its past on two blocks of these ranks: the same, but that profile 2
-- settles a tie by rank
abbrev pub settled : Profile → Rank → Rank → ℤ → ℤ
settled One first second v = v
settled Two first second (negsuc n) = negsuc n
settled Two first second (pos zero) = by_rank first second
settled Two first second (pos (suc n)) = pos (suc n)

-- the same on the blocks x and y of a graph
abbrev pub settled_in : Graph → ℕ → ℕ → ℤ → ℤ
settled_in graph x y v = settled graph.profile (rank_of graph x) (rank_of graph y) v

-- the vote of z in the set by its case: -1 is for x before y, +1 for y before x, and 0 is a tie. `virt_of` gives the
-- virtual vote of a set on x and y, and `vote_of` the vote of another block of the set
abbrev pub vote_by : Case → Graph → List ℕ → (List ℕ → ℤ) → (ℕ → ℤ) → ℕ → ℕ → ℕ → ℤ
vote_by Is_x graph set virt_of vote_of z x y = if in_past graph y x then pos 1 else negsuc 0
vote_by Is_y graph set virt_of vote_of z x y = if in_past graph x y then negsuc 0 else pos 1
vote_by Only_x graph set virt_of vote_of z x y = negsuc 0
vote_by Only_y graph set virt_of vote_of z x y = pos 1
vote_by Both graph set virt_of vote_of z x y = settled_in graph x y (virt_of (past graph z))
vote_by Neither graph set virt_of vote_of z x y = sgn (total vote_of (future graph set z))

-- the vote of z, where the recursion goes no deeper than so many steps
unfoldable pub vote_within : ℕ → Graph → List ℕ → ℕ → ℕ → ℕ → ℤ
vote_within zero graph set z x y = pos 0
vote_within (suc steps) graph set z x y =
    vote_by (case_of graph z x y) graph set
    (λ below. sgn (total (λ w. vote_within steps graph below w x y) below))
    (λ w. vote_within steps graph set w x y)
    z x y

-- as deep as the recursion can go: each step goes down to a past, or up to a future in the same set
abbrev pub depth : Graph → ℕ
depth graph = length graph.blocks * length graph.blocks + length graph.blocks

-- the vote of z in the set on x and y
unfoldable pub vote : Graph → List ℕ → ℕ → ℕ → ℕ → ℤ
vote graph set z x y = vote_within (depth graph) graph set z x y

-- the virtual vote of the set on x and y
unfoldable pub virt : Graph → List ℕ → ℕ → ℕ → ℤ
virt graph set x y = sgn (total (λ z. vote graph set z x y) set)

-- what a virtual vote says
abbrev pub word_of : ℤ → Word
word_of (negsuc n) = Before
word_of (pos zero) = Tie
word_of (pos (suc n)) = After

-- what the blocks of the set say of x and y
abbrev pub word : Graph → List ℕ → ℕ → ℕ → Word
word graph set x y =
    if not (has set x && has set y) then Absent else if x == y then Same else word_of (virt graph set x y)
