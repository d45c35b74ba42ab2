-- A block joins a set of members.
use Rattle.std.proofs.Common.{◌≡◌, ◌⊎◌, ℕ, ◌<◌, ◌≤◌, Bool, true, false, ◌||◌, List, length, refl, sym, ap, subst, ◌∙◌, eqb, inl, inr, arith}
use Rattle.std.proofs.lemmas.Bool.{eqb-true, eq-eqb, or_cases, or_left, or_right}
use Rattle.std.specs.List.{range_with_len}
use Rattle.sp_bits.specs.Places.{places_where, IsRow}
use Rattle.sp_bits.specs.Members.{has-places_where}
use Rattle.sp_bits.proofs.Sets.{places_same}
use Rattle.sp_bits.proofs.RowSets.{has_places, row_small}
use Rattle.sp_dag.specs.Numbered.{Numbered, graph_of, AreInOrder}
use Rattle.sp_dag.proofs.Whole.{AreDistinct-range}
use Rattle.sp_dag.proofs.Ranked.{complete_numbered}
use Rattle.sp_model.specs.Graph.{AreDistinct, has, in_past}
use Rattle.sp_model.specs.Joining.{Joins}
use Rattle.sp_model.proofs.Match.{distinct_filter}
use Rattle.sp_view.specs.Settled.{IsAsked}

-- what a test gives is a row
pub is_row : (test : ℕ → Bool) → IsRow (places_where test)
unfolding IsRow
is_row test = places_same test (has (places_where test)) (λ k le. sym (has-places_where test k le))

-- a row has no place twice
pub row_distinct : (set : List ℕ) → IsRow set → AreDistinct set
unfolding IsRow places_where
row_distinct set row = subst AreDistinct (sym row) (distinct_filter (has set) (range_with_len 0 512) (AreDistinct-range 0 512))

module _ (table : Numbered) (order : AreInOrder table.parents) (small : length table.parents ≤ 512) (set : List ℕ) (b : ℕ)
    (asked : IsAsked (graph_of table) set) (below : (z : ℕ) → has set z ≡ true → z < length table.parents) (within : b < length table.parents)
    (new : has set b ≡ false) (past : (z : ℕ) → in_past (graph_of table) z b ≡ true → has set z ≡ true) where
  -- the set with the block
  pub has_more : (z : ℕ) → has (places_where (λ p. has set p || eqb p b)) z ≡ (has set z || eqb z b)
  has_more z = has_places (λ p. has set p || eqb p b) z (λ h. elim (or_cases (has set z) (eqb z b) h) [
    | inl there ↦ row_small set z asked.row there
    | inr same ↦ (let e : z ≡ b = eqb-true z b same in omega arith)
  ])

  pub more_parts : (z : ℕ) → has (places_where (λ p. has set p || eqb p b)) z ≡ true → (has set z ≡ true) ⊎ (z ≡ b)
  more_parts z h = elim (or_cases (has set z) (eqb z b) (sym (has_more z) ∙ h)) [ inl there ↦ inl there | inr same ↦ inr (eqb-true z b same) ]

  pub more_into : (z : ℕ) → has set z ≡ true → has (places_where (λ p. has set p || eqb p b)) z ≡ true
  more_into z h = has_more z ∙ or_left (has set z) (eqb z b) h

  pub more_there : has (places_where (λ p. has set p || eqb p b)) b ≡ true
  more_there = has_more b ∙ or_right (has set b) (eqb b b) (eq-eqb b b refl)

  pub more_below : (z : ℕ) → has (places_where (λ p. has set p || eqb p b)) z ≡ true → z < length table.parents
  more_below z h = elim (more_parts z h) [ inl there ↦ below z there | inr e ↦ omega arith ]

  pub more_asked : IsAsked (graph_of table) (places_where (λ p. has set p || eqb p b))
  more_asked = record {
    row = is_row (λ p. has set p || eqb p b);
    down = record {
      all_complete = λ z h. complete_numbered table z order (more_below z h);
      closed = λ z a h r. elim (more_parts z h) [
        | inl there ↦ more_into a (asked.down.closed z a there r)
        | inr e ↦ more_into a (past a (ap (in_past (graph_of table) a) (sym e) ∙ r))
      ];
    };
  }

  pub more_joins : Joins (graph_of table) b set (places_where (λ p. has set p || eqb p b))
  more_joins = record {
    down = asked.down;
    more_down = more_asked.down;
    distinct = row_distinct set asked.row;
    more_distinct = row_distinct (places_where (λ p. has set p || eqb p b)) more_asked.row;
    new = new;
    there = more_there;
    into = more_into;
    from = λ z h other. elim (more_parts z h) [ inl there ↦ there | inr e ↦ absurd (other e) ];
  }
