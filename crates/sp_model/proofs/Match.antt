-- Two graphs with a set each, of which one is the other by other keys: all votes are the same.
use Rattle.std.proofs.Common.{◌≡◌, ℕ, zero, suc, ◌+◌, ◌≤◌, Bool, true, false, ◌||◌, cond, List, [], ◌∷◌, map, length, refl, sym, ap, ◌∙◌, inl, inr, eqb, arith}
use Rattle.std.specs.Prelude.{filter, not, ℤ, pos, negsuc, ◌+ℤ◌}
use Rattle.std.specs.List.{list_any, list_all}
use Rattle.std.proofs.lemmas.Int.{ints}
use Rattle.std.proofs.lemmas.List.{map-id}
use Rattle.std.proofs.lemmas.Bool.{eq-eqb, ne_eqb, eqb-true, or_left, or_right, or_cases, or_parts, cases_eq, false≢true, not_from_false, not-true, false_from_ne_true, and_from}
use Rattle.sp_model.specs.declared.profile.Profile.{Profile}
use Rattle.sp_model.specs.Graph.{Graph, Rank, AreDistinct, has, keys, parents_of, rank_of, rounds, complete, reaches_within, in_past, past, future, IsDownset}
use Rattle.sp_model.specs.Votes.{total, sgn, settled, settled_in, case_by, vote_by, vote_within, vote, virt, depth}
use Rattle.sp_model.specs.Agreement.{AgreesOn}
use Rattle.sp_model.proofs.Sets.{any_some, has-filter, has-filter_from}
use Rattle.sp_model.proofs.Pasts.{round_parents, in_past_step, past_downset, has-past, has-past_from, parent_in_past}
use Rattle.sp_model.proofs.Rounds.{rounds_end}
use Rattle.sp_model.proofs.Recursion.{steps_enough}

-- ---- sums over sets that match

pub total_without : (f : ℕ → ℤ) (ys : List ℕ) (k : ℕ) → AreDistinct ys → has ys k ≡ true
    → total f ys ≡ f k +ℤ total f (filter (λ y. not (eqb y k)) ys)
total_without f [] k apart h = absurd (false≢true h)
total_without f (y ∷ ys) k apart h = at (eqb y k) refl (λ there. total_without f ys k apart.1 there)
  where
    none_left : (ys : List ℕ) (k : ℕ) → has ys k ≡ false → filter (λ y. not (eqb y k)) ys ≡ ys
    none_left [] k h = refl
    none_left (y ∷ ys) k h =
        let parts : (eqb y k ≡ false) × (has ys k ≡ false) = or_parts (eqb y k) (has ys k) h in
        rw (parts.0, none_left ys k parts.1) refl

    at : (b : Bool) → eqb y k ≡ b → (has ys k ≡ true → total f ys ≡ f k +ℤ total f (filter (λ y. not (eqb y k)) ys)) → f y +ℤ total f ys ≡ f k +ℤ total f (cond (not (eqb y k)) (y ∷ filter (λ y. not (eqb y k)) ys) (filter (λ y. not (eqb y k)) ys))
    at true e rest =
        let same : y ≡ k = eqb-true y k e in
        rw (e, none_left ys k (rw same at apart.0), same) refl
    at false e rest =
        let there : has ys k ≡ true = elim (or_cases (eqb y k) (has ys k) h) [ inl here ↦ absurd (false≢true (sym e ∙ here)) | inr t ↦ t ] in
        let split : total f ys ≡ f k +ℤ total f (filter (λ y. not (eqb y k)) ys) = rest there in
        rw e (omega (arith, ints))

pub distinct_filter : (p : ℕ → Bool) (xs : List ℕ) → AreDistinct xs → AreDistinct (filter p xs)
distinct_filter p [] d = tt
distinct_filter p (x ∷ xs) d = at (p x) (distinct_filter p xs d.1)
  where
    at : (b : Bool) → AreDistinct (filter p xs) → AreDistinct (cond b (x ∷ filter p xs) (filter p xs))
    at true rest = (false_from_ne_true (has (filter p xs) x) (λ h. false≢true (sym d.0 ∙ (has-filter p xs x h).0)), rest)
    at false rest = rest

-- ys is xs by other keys
pub record Matched (r : ℕ → ℕ) (xs ys : List ℕ) : Type 0 where
  pub into : (x : ℕ) → has xs x ≡ true → has ys (r x) ≡ true
  pub onto : (y : ℕ) → has ys y ≡ true → (x : ℕ) × (has xs x ≡ true) × (r x ≡ y)

pub total_matched : (r : ℕ → ℕ) (f f' : ℕ → ℤ) (xs ys : List ℕ) → ((a b : ℕ) → has xs a ≡ true → has xs b ≡ true → r a ≡ r b → a ≡ b) → AreDistinct xs → AreDistinct ys → Matched r xs ys
    → ((x : ℕ) → has xs x ≡ true → f' (r x) ≡ f x) → total f' ys ≡ total f xs
total_matched r f f' [] ys inj d d' m same = empty ys (λ y h. let x = m.onto y h in false≢true x.1)
  where
    empty : (ys : List ℕ) → ((y : ℕ) → has ys y ≡ true → ⊥) → total f' ys ≡ pos 0
    empty [] none = refl
    empty (y ∷ ys) none = absurd (none y (or_left (eqb y y) (has ys y) (eq-eqb y y refl)))
total_matched r f f' (x ∷ xs) ys inj d d' m same =
    let here : has (x ∷ xs) x ≡ true = or_left (eqb x x) (has xs x) (eq-eqb x x refl) in
    let first : f' (r x) ≡ f x = same x here in
    let split : total f' ys ≡ f' (r x) +ℤ total f' (filter (λ y. not (eqb y (r x))) ys) = total_without f' ys (r x) d' (m.into x here) in
    let rest : total f' (filter (λ y. not (eqb y (r x))) ys) ≡ total f xs =
    total_matched r f f' xs (filter (λ y. not (eqb y (r x))) ys) (λ a b ha hb. inj a b (or_right (eqb x a) (has xs a) ha) (or_right (eqb x b) (has xs b) hb)) d.1 (distinct_filter (λ y. not (eqb y (r x))) ys d')
    (smaller r x xs ys inj d m)
    (λ z h. same z (or_right (eqb x z) (has xs z) h)) in
    omega (arith, ints)
  where
    smaller : (r : ℕ → ℕ) (x : ℕ) (xs ys : List ℕ) → ((a b : ℕ) → has (x ∷ xs) a ≡ true → has (x ∷ xs) b ≡ true → r a ≡ r b → a ≡ b) → AreDistinct (x ∷ xs) → Matched r (x ∷ xs) ys → Matched r xs (filter (λ y. not (eqb y (r x))) ys)
    smaller r x xs ys inj d m =
        record {
          into = λ z h.
              let apart : z ≡ x → ⊥ = λ e. false≢true (sym d.0 ∙ rw e at h) in
              has-filter_from (λ y. not (eqb y (r x))) ys (r z) (m.into z (or_right (eqb x z) (has xs z) h))
              (not_from_false (eqb (r z) (r x)) (ne_eqb (r z) (r x) (λ e. apart (inj z x (or_right (eqb x z) (has xs z) h) (or_left (eqb x x) (has xs x) (eq-eqb x x refl)) e))));
          onto = λ y h. back y (has-filter (λ y. not (eqb y (r x))) ys y h) (m.onto y (has-filter (λ y. not (eqb y (r x))) ys y h).0);
        }
      where
        back : (y : ℕ) → (has ys y ≡ true) × (not (eqb y (r x)) ≡ true) → (z : ℕ) × (has (x ∷ xs) z ≡ true) × (r z ≡ y) → (z : ℕ) × (has xs z ≡ true) × (r z ≡ y)
        back y parts found =
            elim (or_cases (eqb x found.0) (has xs found.0) found.1) [
              | inl same ↦ absurd (false≢true (sym (not-true (eqb y (r x)) parts.1) ∙ eq-eqb y (r x) (sym found.2 ∙ ap r (sym (eqb-true x found.0 same)))))
              | inr there ↦ (found.0, there, found.2)
            ]

-- ---- graphs that match on a set

-- The other keys are one-to-one on the keys of a domain, which has the set.
pub record SameOn (r : ℕ → ℕ) (D : ℕ → Type 0) (g g' : Graph) (s s' : List ℕ) : Type 0 where
  pub one_to_one : (a b : ℕ) → D a → D b → r a ≡ r b → a ≡ b
  pub inside : (z : ℕ) → has s z ≡ true → D z
  pub matched : Matched r s s'
  pub down : IsDownset g s
  pub keys' : (z : ℕ) → has s z ≡ true → has (keys g') (r z) ≡ true
  pub parents : (z : ℕ) → has s z ≡ true → parents_of g' (r z) ≡ map r (parents_of g z)
  pub ranks : (z : ℕ) → has s z ≡ true → rank_of g' (r z) ≡ rank_of g z
  pub profile : g'.profile ≡ g.profile

eqb_match : (r : ℕ → ℕ) (D : ℕ → Type 0) → ((a b : ℕ) → D a → D b → r a ≡ r b → a ≡ b) → (a b : ℕ) → D a → D b → eqb (r a) (r b) ≡ eqb a b
eqb_match r D inj a b da db =
    elim (cases_eq a b) [
      | inl e ↦ eq-eqb (r a) (r b) (ap r e) ∙ sym (eq-eqb a b e)
      | inr ne ↦ ne_eqb (r a) (r b) (λ e. ne (inj a b da db e)) ∙ sym (ne_eqb a b ne)
    ]

any_map : (r : ℕ → ℕ) (p q : ℕ → Bool) (xs : List ℕ) → ((x : ℕ) → has xs x ≡ true → q (r x) ≡ p x) → list_any q (map r xs) ≡ list_any p xs
any_map r p q [] h = refl
any_map r p q (x ∷ xs) h =
    let here : q (r x) ≡ p x = h x (or_left (eqb x x) (has xs x) (eq-eqb x x refl)) in
    let rest : list_any q (map r xs) ≡ list_any p xs = any_map r p q xs (λ y there. h y (or_right (eqb x y) (has xs y) there)) in
    cc

all_map : (r : ℕ → ℕ) (q : ℕ → Bool) (xs : List ℕ) → ((x : ℕ) → has xs x ≡ true → q (r x) ≡ true) → list_all q (map r xs) ≡ true
all_map r q [] h = refl
all_map r q (x ∷ xs) h =
    and_from (q (r x)) (list_all q (map r xs)) (h x (or_left (eqb x x) (has xs x) (eq-eqb x x refl)))
    (all_map r q xs (λ y there. h y (or_right (eqb x y) (has xs y) there)))

pub has-map : (r : ℕ → ℕ) (xs : List ℕ) (y : ℕ) → has (map r xs) y ≡ true → (x : ℕ) × (has xs x ≡ true) × (r x ≡ y)
has-map r [] y h = absurd (false≢true h)
has-map r (x ∷ xs) y h =
    elim (or_cases (eqb (r x) y) (has (map r xs) y) h) [
      | inl same ↦ (x, or_left (eqb x x) (has xs x) (eq-eqb x x refl), eqb-true (r x) y same)
      | inr there ↦ (let found : (z : ℕ) × (has xs z ≡ true) × (r z ≡ y) = has-map r xs y there in (found.0, or_right (eqb x found.0) (has xs found.0) found.1, found.2))
    ]

member_parent : (g : Graph) (s : List ℕ) (z p : ℕ) → IsDownset g s → has s z ≡ true → has (parents_of g z) p ≡ true → has s p ≡ true
member_parent g s z p down h parent = down.closed z p h (parent_in_past g p z (down.all_complete z h) parent)

rounds_match : (k : ℕ) (r : ℕ → ℕ) (D : ℕ → Type 0) (g g' : Graph) (s s' : List ℕ) (z : ℕ) → SameOn r D g g' s s' → has s z ≡ true → has (rounds k g) z ≡ true → has (rounds k g') (r z) ≡ true
unfolding rounds
rounds_match zero r D g g' s s' z same h in_it = absurd (false≢true in_it)
rounds_match (suc k) r D g g' s s' z same h in_it =
    has-filter_from (λ z. list_all (λ p. has (rounds k g') p) (parents_of g' z)) (keys g') (r z) (same.keys' z h)
    (rw (same.parents z h) (all_map r (has (rounds k g')) (parents_of g z)
    (λ p parent. rounds_match k r D g g' s s' p same (member_parent g s z p same.down h parent) (round_parents g (rounds k g) z p in_it parent))))

complete_match : (r : ℕ → ℕ) (D : ℕ → Type 0) (g g' : Graph) (s s' : List ℕ) (z : ℕ) → SameOn r D g g' s s' → has s z ≡ true → has (complete g') (r z) ≡ true
unfolding complete
complete_match r D g g' s s' z same h =
    rounds_end (length g.blocks) g' (r z) (rounds_match (length g.blocks) r D g g' s s' z same h (same.down.all_complete z h))

reach_match : (m : ℕ) (r : ℕ → ℕ) (D : ℕ → Type 0) (g g' : Graph) (s s' : List ℕ) (a z : ℕ) → SameOn r D g g' s s' → has s z ≡ true → reaches_within m g' a (r z) ≡ true → has s' a ≡ true
unfolding reaches_within
reach_match zero r D g g' s s' a z same h reached = absurd (false≢true reached)
reach_match (suc m) r D g g' s s' a z same h reached =
    let found : (p : ℕ) × (has (parents_of g' (r z)) p ≡ true) × ((eqb p a || reaches_within m g' a p) ≡ true) = any_some _ (parents_of g' (r z)) reached in
    through found.0 (parent_match r D g g' s s' z found.0 same h found.1) found.2
    (λ q member below. reach_match m r D g g' s s' a q same member below)
  where
    parent_match : (r : ℕ → ℕ) (D : ℕ → Type 0) (g g' : Graph) (s s' : List ℕ) (z p : ℕ) → SameOn r D g g' s s' → has s z ≡ true → has (parents_of g' (r z)) p ≡ true
        → (q : ℕ) × (has s q ≡ true) × (r q ≡ p)
    parent_match r D g g' s s' z p same h parent =
        let found : (q : ℕ) × (has (parents_of g z) q ≡ true) × (r q ≡ p) = has-map r (parents_of g z) p (rw (same.parents z h) at parent) in
        (found.0, member_parent g s z found.0 same.down h found.1, found.2)

    through : (p : ℕ) → (q : ℕ) × (has s q ≡ true) × (r q ≡ p) → (eqb p a || reaches_within m g' a p) ≡ true
        → ((q : ℕ) → has s q ≡ true → reaches_within m g' a (r q) ≡ true → has s' a ≡ true) → has s' a ≡ true
    through p q reached rest =
        elim (or_cases (eqb p a) (reaches_within m g' a p) reached) [
          | inl here ↦ ap (has s') (sym (q.2 ∙ eqb-true p a here)) ∙ same.matched.into q.0 q.1
          | inr below ↦ rest q.0 q.1 (ap (reaches_within m g' a) q.2 ∙ below)
        ]

pub downset_match : (r : ℕ → ℕ) (D : ℕ → Type 0) (g g' : Graph) (s s' : List ℕ) → SameOn r D g g' s s' → IsDownset g' s'
unfolding in_past
downset_match r D g g' s s' same =
    record {
      all_complete = λ y h. whole y (same.matched.onto y h);
      closed = λ y a h reached. shut y a (same.matched.onto y h) reached;
    }
  where
    whole : (y : ℕ) → (x : ℕ) × (has s x ≡ true) × (r x ≡ y) → has (complete g') y ≡ true
    whole y x = ap (has (complete g')) (sym x.2) ∙ complete_match r D g g' s s' x.0 same x.1

    shut : (y a : ℕ) → (x : ℕ) × (has s x ≡ true) × (r x ≡ y) → in_past g' a y ≡ true → has s' a ≡ true
    shut y a x reached = reach_match (length g'.blocks) r D g g' s s' a x.0 same x.1 (ap (reaches_within (length g'.blocks) g' a) x.2 ∙ reached)

pair : {a b c d : Bool} → a ≡ c → b ≡ d → (a || b) ≡ (c || d)
pair e f = cc

pub in_past_match : (r : ℕ → ℕ) (D : ℕ → Type 0) (g g' : Graph) (s s' : List ℕ) (a z : ℕ) → SameOn r D g g' s s' → D a → has s z ≡ true → in_past g' (r a) (r z) ≡ in_past g a z
unfolding complete rounds
in_past_match r D g g' s s' a z same da h = go (length g.blocks) z h (same.down.all_complete z h)
  where
    go : (k z : ℕ) → has s z ≡ true → has (rounds k g) z ≡ true → in_past g' (r a) (r z) ≡ in_past g a z
    go zero z h in_it = absurd (false≢true in_it)
    go (suc k) z h in_it =
        in_past_step g' (r a) (r z) (complete_match r D g g' s s' z same h)
        ∙ rw (same.parents z h) (any_map r (λ p. eqb p a || in_past g a p) (λ p. eqb p (r a) || in_past g' (r a) p) (parents_of g z)
        (λ p parent. pair (eqb_match r D same.one_to_one p a (same.inside p (member_parent g s z p same.down h parent)) da) (go k p (member_parent g s z p same.down h parent) (round_parents g (rounds k g) z p in_it parent))))
        ∙ sym (in_past_step g a z (same.down.all_complete z h))

past_match : (r : ℕ → ℕ) (D : ℕ → Type 0) (g g' : Graph) (s s' : List ℕ) (z : ℕ) → SameOn r D g g' s s' → has s z ≡ true → Matched r (past g z) (past g' (r z))
past_match r D g g' s s' z same h =
    record {
      into = λ x m. has-past_from g' (r z) (r x) whole' (in_past_match r D g g' s s' x z same (same.inside x (same.down.closed z x h (has-past g z x m))) h ∙ has-past g z x m);
      onto = λ y m. back y (has-past g' (r z) y m) (same.matched.onto y (down'.closed (r z) y (same.matched.into z h) (has-past g' (r z) y m)));
    }
  where
    down' : IsDownset g' s'
    down' = downset_match r D g g' s s' same

    whole' : has (complete g') (r z) ≡ true
    whole' = complete_match r D g g' s s' z same h

    back : (y : ℕ) → in_past g' y (r z) ≡ true → (x : ℕ) × (has s x ≡ true) × (r x ≡ y) → (x : ℕ) × (has (past g z) x ≡ true) × (r x ≡ y)
    back y m x =
        (x.0, has-past_from g z x.0 (same.down.all_complete z h) (sym (in_past_match r D g g' s s' x.0 z same (same.inside x.0 x.1) h) ∙ ap (λ (k : ℕ). in_past g' k (r z)) x.2 ∙ m), x.2)

future_match : (r : ℕ → ℕ) (D : ℕ → Type 0) (g g' : Graph) (s s' : List ℕ) (z : ℕ) → SameOn r D g g' s s' → has s z ≡ true → Matched r (future g s z) (future g' s' (r z))
future_match r D g g' s s' z same h =
    record {
      into = λ x m. forth x (has-filter (λ w. in_past g z w) s x m);
      onto = λ y m. back y (has-filter (λ w. in_past g' (r z) w) s' y m) (same.matched.onto y (has-filter (λ w. in_past g' (r z) w) s' y m).0);
    }
  where
    forth : (x : ℕ) → (has s x ≡ true) × (in_past g z x ≡ true) → has (future g' s' (r z)) (r x) ≡ true
    forth x m = has-filter_from (λ w. in_past g' (r z) w) s' (r x) (same.matched.into x m.0) (in_past_match r D g g' s s' z x same (same.inside z h) m.0 ∙ m.1)

    back : (y : ℕ) → (has s' y ≡ true) × (in_past g' (r z) y ≡ true) → (x : ℕ) × (has s x ≡ true) × (r x ≡ y) → (x : ℕ) × (has (future g s z) x ≡ true) × (r x ≡ y)
    back y m x =
        (x.0, has-filter_from (λ w. in_past g z w) s x.0 x.1 (sym (in_past_match r D g g' s s' z x.0 same (same.inside z h) x.1) ∙ ap (in_past g' (r z)) x.2 ∙ m.1), x.2)

past_same_on : (r : ℕ → ℕ) (D : ℕ → Type 0) (g g' : Graph) (s s' : List ℕ) (z : ℕ) → SameOn r D g g' s s' → has s z ≡ true → SameOn r D g g' (past g z) (past g' (r z))
past_same_on r D g g' s s' z same h =
    record {
      one_to_one = same.one_to_one;
      inside = λ x m. same.inside x (same.down.closed z x h (has-past g z x m));
      matched = past_match r D g g' s s' z same h;
      down = past_downset g z (same.down.all_complete z h);
      keys' = λ x m. same.keys' x (same.down.closed z x h (has-past g z x m));
      parents = λ x m. same.parents x (same.down.closed z x h (has-past g z x m));
      ranks = λ x m. same.ranks x (same.down.closed z x h (has-past g z x m));
      profile = same.profile;
    }

settled_same : (p p' : Profile) (a a' b b' : Rank) (v v' : ℤ) → p' ≡ p → a' ≡ a → b' ≡ b → v' ≡ v → settled p' a' b' v' ≡ settled p a b v
settled_same p p' a a' b b' v v' e f h k = rw (e, f, h, k) refl

vote_by_match : (a b p q : Bool) (r : ℕ → ℕ) (D : ℕ → Type 0) (g g' : Graph) (s s' : List ℕ) (F F' : List ℕ → ℤ) (G G' : ℕ → ℤ) (z x y : ℕ)
    → (a ≡ true → in_past g' (r y) (r x) ≡ in_past g y x) → (b ≡ true → in_past g' (r x) (r y) ≡ in_past g x y)
    → F' (past g' (r z)) ≡ F (past g z)
    → (p ≡ true → q ≡ true → (v : ℤ) → settled_in g' (r x) (r y) v ≡ settled_in g x y v)
    → total G' (future g' s' (r z)) ≡ total G (future g s z)
    → vote_by (case_by a b p q) g' s' F' G' (r z) (r x) (r y) ≡ vote_by (case_by a b p q) g s F G z x y
vote_by_match true b p q r D g g' s s' F F' G G' z x y yx xy below ties above = ap (λ (t : Bool). cond t (pos 1) (negsuc 0)) (yx refl)
vote_by_match false true p q r D g g' s s' F F' G G' z x y yx xy below ties above = ap (λ (t : Bool). cond t (negsuc 0) (pos 1)) (xy refl)
vote_by_match false false true true r D g g' s s' F F' G G' z x y yx xy below ties above =
    ap (settled_in g' (r x) (r y)) below ∙ ties refl refl (F (past g z))
vote_by_match false false true false r D g g' s s' F F' G G' z x y yx xy below ties above = refl
vote_by_match false false false true r D g g' s s' F F' G G' z x y yx xy below ties above = refl
vote_by_match false false false false r D g g' s s' F F' G G' z x y yx xy below ties above = ap sgn above

vote_within_match : (m : ℕ) (r : ℕ → ℕ) (D : ℕ → Type 0) (g g' : Graph) (s s' : List ℕ) (z x y : ℕ) → SameOn r D g g' s s'
    → AreDistinct (keys g) → AreDistinct (keys g') → AreDistinct s → AreDistinct s' → D x → D y → has s z ≡ true
    → vote_within m g' s' (r z) (r x) (r y) ≡ vote_within m g s z x y
unfolding vote_within
vote_within_match zero r D g g' s s' z x y same dg dg' ds ds' dx dy h = refl
vote_within_match (suc m) r D g g' s s' z x y same dg dg' ds ds' dx dy h =
    rw (eqb_match r D same.one_to_one z x (same.inside z h) dx, eqb_match r D same.one_to_one z y (same.inside z h) dy, in_past_match r D g g' s s' x z same dx h, in_past_match r D g g' s s' y z same dy h)
    (vote_by_match (eqb z x) (eqb z y) (in_past g x z) (in_past g y z) r D g g' s s' _ _ _ _ z x y
    (λ e. in_past_match r D g g' s s' y x same dy (ap (has s) (sym (eqb-true z x e)) ∙ h))
    (λ e. in_past_match r D g g' s s' x y same dx (ap (has s) (sym (eqb-true z y e)) ∙ h))
    (ap sgn (total_matched r _ _ (past g z) (past g' (r z)) (λ a b ha hb. same.one_to_one a b (same.inside a (same.down.closed z a h (has-past g z a ha))) (same.inside b (same.down.closed z b h (has-past g z b hb))))
    (distinct_filter (λ a. in_past g a z) (keys g) dg) (distinct_filter (λ a. in_past g' a (r z)) (keys g') dg')
    (past_match r D g g' s s' z same h)
    (λ w m'. vote_within_match m r D g g' (past g z) (past g' (r z)) w x y (past_same_on r D g g' s s' z same h) dg dg'
    (distinct_filter (λ a. in_past g a z) (keys g) dg) (distinct_filter (λ a. in_past g' a (r z)) (keys g') dg') dx dy m')))
    (λ e f v. settled_same g.profile g'.profile (rank_of g x) (rank_of g' (r x)) (rank_of g y) (rank_of g' (r y)) v v same.profile
    (same.ranks x (same.down.closed z x h e)) (same.ranks y (same.down.closed z y h f)) refl)
    (total_matched r _ _ (future g s z) (future g' s' (r z)) (λ a b ha hb. same.one_to_one a b (same.inside a (has-filter (λ w. in_past g z w) s a ha).0) (same.inside b (has-filter (λ w. in_past g z w) s b hb).0))
    (distinct_filter (λ w. in_past g z w) s ds) (distinct_filter (λ w. in_past g' (r z) w) s' ds')
    (future_match r D g g' s s' z same h)
    (λ w m'. vote_within_match m r D g g' s s' w x y same dg dg' ds ds' dx dy (has-filter (λ w. in_past g z w) s w m').0)))

-- more steps change no vote
vote_more : (n : ℕ) (g : Graph) (s : List ℕ) (z x y : ℕ) → IsDownset g s → has s z ≡ true → depth g ≤ n → vote g s z x y ≡ vote_within n g s z x y
unfolding vote complete rounds
vote_more n g s z x y down h le =
    steps_enough (depth g) n g s (length g.blocks) 0 z x y down (λ w m. down.all_complete w m) h (λ none. false≢true none) (omega arith) (omega arith) (omega arith)

pub vote_match : (r : ℕ → ℕ) (D : ℕ → Type 0) (g g' : Graph) (s s' : List ℕ) (z x y : ℕ) → SameOn r D g g' s s'
    → AreDistinct (keys g) → AreDistinct (keys g') → AreDistinct s → AreDistinct s' → D x → D y → has s z ≡ true
    → vote g' s' (r z) (r x) (r y) ≡ vote g s z x y
vote_match r D g g' s s' z x y same dg dg' ds ds' dx dy h =
    vote_more (depth g + depth g') g' s' (r z) (r x) (r y) (downset_match r D g g' s s' same) (same.matched.into z h) (omega arith)
    ∙ vote_within_match (depth g + depth g') r D g g' s s' z x y same dg dg' ds ds' dx dy h
    ∙ sym (vote_more (depth g + depth g') g s z x y same.down h (omega arith))

pub virt_match : (r : ℕ → ℕ) (D : ℕ → Type 0) (g g' : Graph) (s s' : List ℕ) (x y : ℕ) → SameOn r D g g' s s'
    → AreDistinct (keys g) → AreDistinct (keys g') → AreDistinct s → AreDistinct s' → D x → D y
    → virt g' s' (r x) (r y) ≡ virt g s x y
unfolding virt
virt_match r D g g' s s' x y same dg dg' ds ds' dx dy =
    ap sgn (total_matched r _ _ s s' (λ a b ha hb. same.one_to_one a b (same.inside a ha) (same.inside b hb)) ds ds' same.matched (λ z h. vote_match r D g g' s s' z x y same dg dg' ds ds' dx dy h))

-- ---- graphs that agree on a set

agreeing_same_on : (g g' : Graph) (s : List ℕ) → AgreesOn s g g' → IsDownset g s → SameOn (λ (k : ℕ). k) (λ k. Unit {0}) g g' s s
agreeing_same_on g g' s agrees down =
    record {
      one_to_one = λ a b da db e. e;
      inside = λ z h. tt;
      matched = record { into = λ x h. h; onto = λ y h. (y, h, refl) };
      down = down;
      keys' = agrees.there;
      parents = λ z h. agrees.parents z h ∙ sym (map-id (parents_of g z));
      ranks = agrees.ranks;
      profile = agrees.profile;
    }

pub in_past_restricted : (g g' : Graph) (s : List ℕ) (a z : ℕ) → AgreesOn s g g' → IsDownset g s → has s z ≡ true → in_past g' a z ≡ in_past g a z
in_past_restricted g g' s a z agrees down h = in_past_match (λ (k : ℕ). k) (λ k. Unit {0}) g g' s s a z (agreeing_same_on g g' s agrees down) tt h

pub vote_restricted : (g g' : Graph) (s : List ℕ) (z x y : ℕ) → AgreesOn s g g' → IsDownset g s → AreDistinct s → has s z ≡ true
    → vote g' s z x y ≡ vote g s z x y
vote_restricted g g' s z x y agrees down ds h =
    vote_match (λ (k : ℕ). k) (λ k. Unit {0}) g g' s s z x y (agreeing_same_on g g' s agrees down) agrees.distinct agrees.other_distinct ds ds tt tt h

pub virt_restricted : (g g' : Graph) (s : List ℕ) (x y : ℕ) → AgreesOn s g g' → IsDownset g s → AreDistinct s → virt g' s x y ≡ virt g s x y
virt_restricted g g' s x y agrees down ds =
    virt_match (λ (k : ℕ). k) (λ k. Unit {0}) g g' s s x y (agreeing_same_on g g' s agrees down) agrees.distinct agrees.other_distinct ds ds tt tt
