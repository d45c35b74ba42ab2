-- Sets of places below 512, as ascending lists.
use Rattle.std.specs.Prelude.{ℕ, ◌≡◌, ◌≤◌, ◌==◌, ◌||◌, ◌&&◌, not, nat_lt, Bool, true, List, filter}
use Rattle.std.specs.List.{list_any, range_with_len}

-- whether the set has the place
abbrev pub has : List ℕ → ℕ → Bool
has set place = list_any (λ p. p == place) set

-- the places below 512 that pass the test
unfoldable pub places_where : (ℕ → Bool) → List ℕ
places_where test = filter test (range_with_len 0 512)

-- what each row is: the ascending list of the places below 512 that it has
unfoldable pub IsRow : List ℕ → Type 0
IsRow set = set ≡ places_where (has set)

abbrev pub union : List ℕ → List ℕ → List ℕ
union one other = places_where (λ p. has one p || has other p)

abbrev pub meet : List ℕ → List ℕ → List ℕ
meet one other = places_where (λ p. has one p && has other p)

abbrev pub difference : List ℕ → List ℕ → List ℕ
difference one other = places_where (λ p. has one p && not (has other p))

-- the members of the set below the place
abbrev pub members_below : List ℕ → ℕ → List ℕ
members_below set place = filter (λ p. nat_lt p place) set

-- the greatest member of the set
pub record IsGreatest (set : List ℕ) (place : ℕ) : Type 0 where
  pub member : has set place ≡ true
  pub most : (p : ℕ) → has set p ≡ true → p ≤ place
