-- The highest of some blocks is a tip where nothing has it in its past.
use Rattle.std.proofs.Common.{◌≡◌, ◌<◌, ◌≤◌, ℕ, zero, suc, Bool, true, false, ◌||◌, ◌&&◌, List, [], ◌∷◌, length, get_or, Option, Some, None, refl, sym, ap, ◌∙◌, eqb, inl, inr, arith}
use Rattle.std.specs.Prelude.{not, nat_le, IsNone, ◌↔◌}
use Rattle.std.specs.Option.{is_some}
use Rattle.std.specs.List.{list_all, list_any}
use Rattle.std.proofs.lemmas.Bool.{and_from, and_parts, cases_lt, eq-eqb, eqb-true, false≢true, false_from_ne_true, le-leb, leb-true, or_cases, or_left, or_right}
use Rattle.sp_bits.specs.Places.{IsGreatest}
use Rattle.sp_dag.specs.Numbered.{Numbered, graph_of, AreInOrder}
use Rattle.sp_dag.proofs.Ranked.{key_in, key_out}
use Rattle.sp_dag.proofs.Ranked.{complete_numbered, parents_numbered}
use Rattle.sp_model.specs.Graph.{future, has, in_past, keys, parents_of}
use Rattle.sp_model.proofs.Pasts.{in_past_step, parent_in_past}
use Rattle.sp_model.proofs.Sets.{any_some, has-filter, has-filter_from, some_any}
use Rattle.sp_engine.specs.Votes.{is_tip, is_top_tip}
use Rattle.sp_engine.proofs.Bars.{all_has, has_all}

pub any_place : (f : List ℕ → Bool) (xs : List (List ℕ)) → list_any f xs ≡ true → (i : ℕ) × (i < length xs) × (f (get_or xs i []) ≡ true)
any_place f [] h = absurd (false≢true h)
any_place f (x ∷ xs) h =
    elim (or_cases (f x) (list_any f xs) h) [
      | inl here ↦ (0, omega arith, here)
      | inr there ↦ (let rest : (i : ℕ) × (i < length xs) × (f (get_or xs i []) ≡ true) = any_place f xs there in (suc rest.0, omega (arith, rest.1), rest.2))
    ]

place_any : (f : List ℕ → Bool) (xs : List (List ℕ)) (i : ℕ) → i < length xs → f (get_or xs i []) ≡ true → list_any f xs ≡ true
place_any f [] i lt h = absurd (omega (arith, lt))
place_any f (x ∷ xs) zero lt h = or_left (f x) (list_any f xs) h
place_any f (x ∷ xs) (suc i) lt h = or_right (f x) (list_any f xs) (place_any f xs i (omega (arith, lt)) h)

none_in : (xs : List ℕ) → ((x : ℕ) → has xs x ≡ true → false ≡ true) → xs ≡ []
none_in [] none = refl
none_in (x ∷ xs) none = absurd (false≢true (none x (or_left (eqb x x) (has xs x) (eq-eqb x x refl))))

module _ (table : Numbered) (order : AreInOrder table.parents) (t : ℕ) where
  none_above : list_any (λ ps. has ps t) table.parents ≡ false → (n w : ℕ) → w < n → w < length table.parents → in_past (graph_of table) t w ≡ true → false ≡ true
  none_above none zero w lt le h = absurd (omega (arith, lt))
  none_above none (suc n) w lt le h =
      let found = any_some (λ p. eqb p t || in_past (graph_of table) t p) (parents_of (graph_of table) w) (sym (in_past_step (graph_of table) t w (complete_numbered table w order le)) ∙ h) in
      let parent : has (get_or table.parents w []) found.0 ≡ true = ap (λ (l : List ℕ). has l found.0) (sym (parents_numbered table w le)) ∙ found.1 in
      let less : found.0 < w = order w found.0 parent in
      elim (or_cases (eqb found.0 t) (in_past (graph_of table) t found.0) found.2) [
        | inl same ↦ sym none ∙ place_any (λ ps. has ps t) table.parents w le (ap (has (get_or table.parents w [])) (sym (eqb-true found.0 t same)) ∙ parent)
        | inr there ↦ none_above none n found.0 (omega (arith, less, lt)) (omega (arith, less, le)) there
      ]

  tip_last : list_any (λ ps. has ps t) table.parents ≡ false → future (graph_of table) (keys (graph_of table)) t ≡ []
  tip_last none = none_in (future (graph_of table) (keys (graph_of table)) t) (λ w h.
      let parts = has-filter (λ x. in_past (graph_of table) t x) (keys (graph_of table)) w h in
      elim (cases_lt w (length table.parents)) [
        | inl less ↦ none_above none (suc w) w (omega arith) less parts.1
        | inr more ↦ sym (key_out table w more) ∙ parts.0
      ])

  covered_more : list_any (λ ps. has ps t) table.parents ≡ true → future (graph_of table) (keys (graph_of table)) t ≡ [] → false ≡ true
  covered_more some none =
      let child = any_place (λ ps. has ps t) table.parents some in
      let parent : has (parents_of (graph_of table) child.0) t ≡ true = ap (λ (l : List ℕ). has l t) (parents_numbered table child.0 child.1) ∙ child.2 in
      let above : in_past (graph_of table) t child.0 ≡ true = parent_in_past (graph_of table) t child.0 (complete_numbered table child.0 order child.1) parent in
      ap (λ (l : List ℕ). has l child.0) (sym none) ∙ has-filter_from (λ x. in_past (graph_of table) t x) (keys (graph_of table)) child.0 (key_in table child.0 child.1) above

  pub top_is : (members : List ℕ) → IsGreatest members t → is_top_tip table members ≡ is_tip table.parents t
  top_is members top = by_tip (is_tip table.parents t) refl
    where
      by_tip : (c : Bool) → is_tip table.parents t ≡ c → is_top_tip table members ≡ c
      by_tip true e =
          some_any (λ z. is_tip table.parents z && list_all (λ k. nat_le k z) members) members t top.member
          (and_from (is_tip table.parents t) (list_all (λ k. nat_le k t) members) e (all_has (λ k. nat_le k t) members (λ k there. le-leb k t (top.most k there))))
      by_tip false e =
          false_from_ne_true (is_top_tip table members) (λ h.
          let found = any_some (λ z. is_tip table.parents z && list_all (λ k. nat_le k z) members) members h in
          let parts = and_parts (is_tip table.parents found.0) (list_all (λ k. nat_le k found.0) members) found.2 in
          let high : t ≤ found.0 = leb-true t found.0 (has_all (λ k. nat_le k found.0) members t parts.1 top.member) in
          let same : t ≡ found.0 = omega (arith, high, top.most found.0 found.1) in
          absurd (false≢true (sym e ∙ ap (is_tip table.parents) same ∙ parts.0)))

  -- so its future tells
  pub top_told : (members above : List ℕ) (first : Option ℕ) → IsGreatest members t → above ≡ future (graph_of table) (keys (graph_of table)) t → (IsNone first ↔ (above ≡ [])) → is_some first ≡ not (is_top_tip table members)
  top_told members above first top is none = by_any (list_any (λ ps. has ps t) table.parents) refl first none ∙ ap not (sym (top_is members top))
    where
      by_any : (c : Bool) → list_any (λ ps. has ps t) table.parents ≡ c → (first : Option ℕ) → (IsNone first ↔ (above ≡ [])) → is_some first ≡ not (is_tip table.parents t)
      by_any true e None told = absurd (false≢true (covered_more e (sym is ∙ told.0 refl)))
      by_any true e (Some x) told = ap (λ (c : Bool). not (not c)) (sym e)
      by_any false e None told = ap (λ (c : Bool). not (not c)) (sym e)
      by_any false e (Some x) told = absurd (false≢true (sym (told.1 (is ∙ tip_last e))))
