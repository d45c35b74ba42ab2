-- Blocks with their pasts as rows: they stay where blocks are added, a block is the highest of its row, and a new block covers its parents.
use Rattle.std.proofs.Common.{◌≡◌, ℕ, zero, suc, ◌+◌, ◌-◌, ◌≤◌, ◌<◌, Bool, true, false, ◌||◌, List, [], ◌∷◌, ◌++◌, length, map, take, get_or, refl, sym, ap, subst, ◌∙◌, eqb, inl, inr, arith}
use Rattle.std.specs.Prelude.{not}
use Rattle.std.specs.List.{list_all, list_any, range_with_len}
use Rattle.std.proofs.lemmas.Bool.{and_from, and_parts, cases_Bool, cases_lt, eq-eqb, eqb-true, false≢true, false_from_ne_true, or_cases, or_left, or_right}
use Rattle.sp_bits.specs.Places.{IsGreatest}
use Rattle.sp_bits.proofs.RowSets.{has_places}
use Rattle.sp_bits.proofs.Sets.{places_same}
use Rattle.sp_dag.specs.Numbered.{with_next, Numbered, graph_of, AreInOrder}
use Rattle.sp_dag.proofs.Ranked.{past_old, ancestors_lower, complete_numbered, parents_numbered, past_members}
use Rattle.sp_model.specs.Graph.{has, in_past, past, parents_of}
use Rattle.sp_model.specs.Loose.{in_bar}
use Rattle.sp_model.proofs.Pasts.{in_past_step, parent_in_past, past_trans}
use Rattle.sp_model.proofs.Sets.{any_some, has-filter}
use Rattle.sp_engine.specs.Votes.{bar_row, is_tip, tips_from}
use Rattle.sp_engine.proofs.Ranges.{past_range}

-- ---- lists

pub all_has : (p : ℕ → Bool) (xs : List ℕ) → ((k : ℕ) → has xs k ≡ true → p k ≡ true) → list_all p xs ≡ true
all_has p [] h = refl
all_has p (x ∷ xs) h =
    and_from (p x) (list_all p xs) (h x (or_left (eqb x x) (has xs x) (eq-eqb x x refl))) (all_has p xs (λ k there. h k (or_right (eqb x k) (has xs k) there)))

pub has_all : (p : ℕ → Bool) (xs : List ℕ) (k : ℕ) → list_all p xs ≡ true → has xs k ≡ true → p k ≡ true
has_all p [] k all there = absurd (false≢true there)
has_all p (x ∷ xs) k all there =
    let parts = and_parts (p x) (list_all p xs) all in
    elim (or_cases (eqb x k) (has xs k) there) [
      | inl same ↦ ap p (sym (eqb-true x k same)) ∙ parts.0
      | inr rest ↦ has_all p xs k parts.1 rest
    ]

pub map_same : (f g : ℕ → List ℕ) (xs : List ℕ) → ((k : ℕ) → has xs k ≡ true → f k ≡ g k) → map f xs ≡ map g xs
map_same f g [] same = refl
map_same f g (x ∷ xs) same =
    ap (λ (l : List ℕ). l ∷ map f xs) (same x (or_left (eqb x x) (has xs x) (eq-eqb x x refl)))
    ∙ ap (λ (l : List (List ℕ)). g x ∷ l) (map_same f g xs (λ k there. same k (or_right (eqb x k) (has xs k) there)))

any-append : (f : List ℕ → Bool) (xs ys : List (List ℕ)) → list_any f (xs ++ ys) ≡ (list_any f xs || list_any f ys)
any-append f [] ys = refl
any-append f (x ∷ xs) ys = ap (λ (c : Bool). f x || c) (any-append f xs ys) ∙ assoc (f x) (list_any f xs) (list_any f ys)
  where
    assoc : (a b c : Bool) → (a || (b || c)) ≡ ((a || b) || c)
    assoc true b c = refl
    assoc false b c = refl

pub any_at : (f : List ℕ → Bool) (xs : List (List ℕ)) (n z : ℕ) → z < n → z < length xs → f (get_or xs z []) ≡ true → list_any f (take n xs) ≡ true
any_at f [] n z lt in_it e = absurd (omega (arith, in_it))
any_at f (x ∷ xs) zero z lt in_it e = absurd (omega (arith, lt))
any_at f (x ∷ xs) (suc n) zero lt in_it e = or_left (f x) (list_any f (take n xs)) e
any_at f (x ∷ xs) (suc n) (suc z) lt in_it e = or_right (f x) (list_any f (take n xs)) (any_at f xs n z (omega (arith, lt)) (omega (arith, in_it)) e)

any_none : (f : List ℕ → Bool) (xs : List (List ℕ)) → ((z : ℕ) → z < length xs → f (get_or xs z []) ≡ false) → list_any f xs ≡ false
any_none f [] none = refl
any_none f (x ∷ xs) none = ap (λ (c : Bool). c || list_any f xs) (none 0 (omega arith)) ∙ any_none f xs (λ z lt. none (suc z) (omega (arith, lt)))

take_suc : (xs : List (List ℕ)) (b : ℕ) → b < length xs → take (suc b) xs ≡ take b xs ++ get_or xs b [] ∷ []
take_suc [] b lt = absurd (omega (arith, lt))
take_suc (x ∷ xs) zero lt = refl
take_suc (x ∷ xs) (suc b) lt = ap (λ (l : List (List ℕ)). x ∷ l) (take_suc xs b (omega (arith, lt)))

take_long : (xs : List (List ℕ)) (n : ℕ) → n ≤ length xs → length (take n xs) ≡ n
take_long xs zero le = refl
take_long [] (suc n) le = absurd (omega (arith, le))
take_long (x ∷ xs) (suc n) le = (let rest = take_long xs n (omega (arith, le)) in omega (arith, rest))

-- ---- tips

-- they are among the numbers
pub tip_in : (table : List (List ℕ)) (since n t : ℕ) → since ≤ n → n ≤ length table → has (tips_from (take n table) since) t ≡ true → (t < n) × (is_tip (take n table) t ≡ true)
tip_in table since n t first le h =
    let long : length (take n table) ≡ n = take_long table n le in
    let parts = has-filter (is_tip (take n table)) (range_with_len since (length (take n table) - since)) t h in (
      elim (cases_lt t n) [
        | inl less ↦ less
        | inr more ↦ absurd (false≢true (sym (past_range since (length (take n table) - since) t (omega (arith, more, long, first))) ∙ parts.0))
      ],
      parts.1,
    )

-- ---- rows

pub bar_old : (table : Numbered) (id salt : ℕ) (ps : List ℕ) (z : ℕ) → AreInOrder table.parents → z < length table.parents → bar_row (with_next table id salt ps) z ≡ bar_row table z
bar_old table id salt ps z order lt =
    places_same (λ k. in_bar (graph_of (with_next table id salt ps)) k z) (λ k. in_bar (graph_of table) k z) (λ k _. ap (λ (c : Bool). eqb z k || c) (past_old table id salt ps k z order lt))

-- those of the tips stay where a block is added
pub bars_stay : (table : Numbered) (id salt : ℕ) (ps : List ℕ) (since n : ℕ) → AreInOrder table.parents → since ≤ n → n ≤ length table.parents
    → map (bar_row (with_next table id salt ps)) (tips_from (take n table.parents) since) ≡ map (bar_row table) (tips_from (take n table.parents) since)
bars_stay table id salt ps since n order first le =
    map_same (bar_row (with_next table id salt ps)) (bar_row table) (tips_from (take n table.parents) since)
    (λ t h. (let parts = tip_in table.parents since n t first le h in bar_old table id salt ps t order (omega (arith, parts.0, le))))

module _ (table : Numbered) (order : AreInOrder table.parents) (small : length table.parents ≤ 512) where
  pub has_bar : (t k : ℕ) → t < length table.parents → has (bar_row table t) k ≡ in_bar (graph_of table) k t
  has_bar t k lt = has_places (λ k. in_bar (graph_of table) k t) k (λ h. elim (or_cases (eqb t k) (in_past (graph_of table) k t) h) [
    | inl same ↦ (let e : t ≡ k = eqb-true t k same in omega (arith, e, lt, small))
    | inr below ↦ (let less : k < t = ancestors_lower table k t order lt below in omega (arith, less, lt, small))
  ])

  pub own_bar : (t : ℕ) → t < length table.parents → has (bar_row table t) t ≡ true
  own_bar t lt = has_bar t t lt ∙ or_left (eqb t t) (in_past (graph_of table) t t) (eq-eqb t t refl)

  -- a block is the highest of its row
  pub top_of_bar : (t : ℕ) → t < length table.parents → IsGreatest (bar_row table t) t
  top_of_bar t lt = record {
    member = own_bar t lt;
    most = λ k there. elim (or_cases (eqb t k) (in_past (graph_of table) k t) (sym (has_bar t k lt) ∙ there)) [
      | inl same ↦ (let e : t ≡ k = eqb-true t k same in omega (arith, e))
      | inr below ↦ (let less : k < t = ancestors_lower table k t order lt below in omega (arith, less))
    ];
  }

  -- so rows tell blocks apart
  pub one_top : (row : List ℕ) (t n : ℕ) → t < length table.parents → row ≡ bar_row table t → IsGreatest row n → n ≡ t
  one_top row t n lt is top =
      let own : IsGreatest row t = subst (λ (l : List ℕ). IsGreatest l t) (sym is) (top_of_bar t lt) in
      omega (arith, top.most t own.member, own.most n top.member)

  -- an ancestor of one of the first blocks is a parent of one of them
  child_below : (k t z n : ℕ) → z < k → z < n → n ≤ length table.parents → in_past (graph_of table) t z ≡ true → list_any (λ l. has l t) (take n table.parents) ≡ true
  child_below zero t z n less lt le reached = absurd (omega (arith, less))
  child_below (suc k) t z n less lt le reached =
      let here : z < length table.parents = omega (arith, lt, le) in
      let step = any_some (λ p. eqb p t || in_past (graph_of table) t p) (parents_of (graph_of table) z) (sym (in_past_step (graph_of table) t z (complete_numbered table z order here)) ∙ reached) in
      let parent : has (get_or table.parents z []) step.0 ≡ true = ap (λ (l : List ℕ). has l step.0) (sym (parents_numbered table z here)) ∙ step.1 in
      elim (or_cases (eqb step.0 t) (in_past (graph_of table) t step.0) step.2) [
        | inl same ↦ any_at (λ l. has l t) table.parents n z lt here (ap (has (get_or table.parents z [])) (sym (eqb-true step.0 t same)) ∙ parent)
        | inr above ↦ (let lower : step.0 < z = order z step.0 parent in child_below k t step.0 n (omega (arith, less, lower)) (omega (arith, lower, lt)) le above)
      ]

  module _ (b : ℕ) (last : b + 1 ≡ length table.parents) where
    lt_b : b < length table.parents
    lt_b = omega (arith, last)

    -- a tip in the past of the next block is a parent of it
    parent_of : (t : ℕ) → is_tip (take b table.parents) t ≡ true → in_past (graph_of table) t b ≡ true → has (get_or table.parents b []) t ≡ true
    parent_of t tip reached =
        let step = any_some (λ p. eqb p t || in_past (graph_of table) t p) (parents_of (graph_of table) b) (sym (in_past_step (graph_of table) t b (complete_numbered table b order lt_b)) ∙ reached) in
        let parent : has (get_or table.parents b []) step.0 ≡ true = ap (λ (l : List ℕ). has l step.0) (sym (parents_numbered table b lt_b)) ∙ step.1 in
        elim (or_cases (eqb step.0 t) (in_past (graph_of table) t step.0) step.2) [
          | inl same ↦ ap (has (get_or table.parents b [])) (sym (eqb-true step.0 t same)) ∙ parent
          | inr above ↦
              let lower : step.0 < b = order b step.0 parent in
              let child : list_any (λ l. has l t) (take b table.parents) ≡ true = child_below (suc step.0) t step.0 b (omega arith) lower (omega (arith, last)) above in
              absurd (false≢true (sym (ap not child) ∙ tip))
        ]

    -- the row of a tip lies within the past of the next block exactly where that has it as a parent
    pub covers : (t : ℕ) → t < b → is_tip (take b table.parents) t ≡ true → list_all (has (past (graph_of table) b)) (bar_row table t) ≡ has (get_or table.parents b []) t
    covers t lt tip = elim (cases_Bool (has (get_or table.parents b []) t)) [
      | inl parent ↦ all_has (has (past (graph_of table) b)) (bar_row table t) (within parent) ∙ sym parent
      | inr none ↦ false_from_ne_true (list_all (has (past (graph_of table) b)) (bar_row table t)) (λ all.
          let reached : in_past (graph_of table) t b ≡ true = sym (past_members table t b order lt_b) ∙ has_all (has (past (graph_of table) b)) (bar_row table t) t all (own_bar t (omega (arith, lt, last))) in
          absurd (false≢true (sym none ∙ parent_of t tip reached))) ∙ sym none
    ]
      where
        within : has (get_or table.parents b []) t ≡ true → (k : ℕ) → has (bar_row table t) k ≡ true → has (past (graph_of table) b) k ≡ true
        within parent k there =
            let up : in_past (graph_of table) t b ≡ true = parent_in_past (graph_of table) t b (complete_numbered table b order lt_b) (ap (λ (l : List ℕ). has l t) (parents_numbered table b lt_b) ∙ parent) in
            past_members table k b order lt_b ∙ elim (or_cases (eqb t k) (in_past (graph_of table) k t) (sym (has_bar t k (omega (arith, lt, last))) ∙ there)) [
              | inl same ↦ ap (λ (j : ℕ). in_past (graph_of table) j b) (sym (eqb-true t k same)) ∙ up
              | inr below ↦ past_trans (graph_of table) k t b (complete_numbered table b order lt_b) below up
            ]
