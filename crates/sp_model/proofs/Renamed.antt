-- Pasts, futures, anticones, votes and words under other keys.
use Rattle.std.proofs.Common.{◌≡◌, ℕ, true, not, ◌&&◌, List, [], ◌∷◌, map, refl, sym, ap, ◌∙◌, inl, inr, eqb}
use Rattle.std.proofs.lemmas.Bool.{cases_eq, eq-eqb, eqb-true, false≢true, ne_eqb, or_cases, or_left, or_right}
use Rattle.sp_model.specs.Graph.{Graph, AreDistinct, has, keys, complete, in_past, future, related, anticone, IsDownset}
use Rattle.sp_model.specs.Renaming.{AreRenamed, IsRenamed}
use Rattle.sp_model.specs.Votes.{vote, virt, word}
use Rattle.sp_model.proofs.Sets.{has-filter, has-filter_from, same_truth}
use Rattle.sp_model.proofs.Pasts.{complete_downset, complete_key}
use Rattle.sp_model.proofs.Match.{downset_match, has-map, in_past_match, SameOn, virt_match, vote_match}

-- a set and the list of its new keys
mapped : (r : ℕ → ℕ) (s : List ℕ) → AreRenamed r s (map r s)
mapped r s = record { into = into r s; onto = λ k h. has-map r s k h }
  where
    into : (r : ℕ → ℕ) (s : List ℕ) (k : ℕ) → has s k ≡ true → has (map r s) (r k) ≡ true
    into r [] k h = absurd (false≢true h)
    into r (x ∷ s) k h =
        elim (or_cases (eqb x k) (has s k) h) [
          | inl here ↦ or_left (eqb (r x) (r k)) (has (map r s) (r k)) (eq-eqb (r x) (r k) (ap r (eqb-true x k here)))
          | inr there ↦ or_right (eqb (r x) (r k)) (has (map r s) (r k)) (into r s k there)
        ]

module _ (r : ℕ → ℕ) (g g' : Graph) (named : IsRenamed r g g') where
  abbrev IsKey : ℕ → Type 0
  IsKey k = has (keys g) k ≡ true

  member_key : (s : List ℕ) (z : ℕ) → IsDownset g s → has s z ≡ true → IsKey z
  member_key s z down h = complete_key g z (down.all_complete z h)

  same_on : (s s' : List ℕ) → IsDownset g s → AreRenamed r s s' → SameOn r IsKey g g' s s'
  same_on s s' down sets = record {
    one_to_one = named.one_to_one;
    inside = λ z h. member_key s z down h;
    matched = record { into = sets.into; onto = sets.onto };
    down = down;
    keys' = λ z h. named.into z (member_key s z down h);
    parents = λ z h. named.parents z (member_key s z down h);
    ranks = λ z h. named.ranks z (member_key s z down h);
    profile = named.profile;
  }

  same_key : (a b : ℕ) → IsKey a → IsKey b → eqb (r a) (r b) ≡ eqb a b
  same_key a b ka kb =
      elim (cases_eq a b) [
        | inl e ↦ eq-eqb (r a) (r b) (ap r e) ∙ sym (eq-eqb a b e)
        | inr ne ↦ ne_eqb (r a) (r b) (λ e. ne (named.one_to_one a b ka kb e)) ∙ sym (ne_eqb a b ne)
      ]

  -- a key is in the set exactly where its new key is in the other one
  pub same_member : (s s' : List ℕ) (k : ℕ) → IsDownset g s → AreRenamed r s s' → IsKey k → has s' (r k) ≡ has s k
  same_member s s' k down sets key = same_truth (has s' (r k)) (has s k) back (sets.into k)
    where
      back : has s' (r k) ≡ true → has s k ≡ true
      back h =
          let found = sets.onto (r k) h in
          ap (has s) (sym (named.one_to_one found.0 k (member_key s found.0 down found.1) key found.2)) ∙ found.1

  -- ---- pasts, futures and anticones

  in_past_set : (s s' : List ℕ) (a z : ℕ) → IsDownset g s → AreRenamed r s s' → IsKey a → has s z ≡ true → in_past g' (r a) (r z) ≡ in_past g a z
  in_past_set s s' a z down sets key h = in_past_match r IsKey g g' s s' a z (same_on s s' down sets) key h

  pub in_past_renamed : (a z : ℕ) → IsKey a → has (complete g) z ≡ true → in_past g' (r a) (r z) ≡ in_past g a z
  in_past_renamed a z key h = in_past_set (complete g) (map r (complete g)) a z (complete_downset g) (mapped r (complete g)) key h

  pub future_renamed : (s s' : List ℕ) (a z : ℕ) → IsDownset g s → AreRenamed r s s' → IsKey a → IsKey z → has (future g' s' (r z)) (r a) ≡ has (future g s z) a
  future_renamed s s' a z down sets ka kz = same_truth (has (future g' s' (r z)) (r a)) (has (future g s z) a) back forth
    where
      back : has (future g' s' (r z)) (r a) ≡ true → has (future g s z) a ≡ true
      back h =
          let both = has-filter (λ w. in_past g' (r z) w) s' (r a) h in
          let member : has s a ≡ true = sym (same_member s s' a down sets ka) ∙ both.0 in
          has-filter_from (λ w. in_past g z w) s a member (sym (in_past_set s s' z a down sets kz member) ∙ both.1)

      forth : has (future g s z) a ≡ true → has (future g' s' (r z)) (r a) ≡ true
      forth h =
          let both = has-filter (λ w. in_past g z w) s a h in
          has-filter_from (λ w. in_past g' (r z) w) s' (r a) (sets.into a both.0) (in_past_set s s' z a down sets kz both.0 ∙ both.1)

  apart_renamed : (s s' : List ℕ) (a z : ℕ) → IsDownset g s → AreRenamed r s s' → has s a ≡ true → has s z ≡ true
      → (not (eqb (r a) (r z)) && not (related g' (r a) (r z))) ≡ (not (eqb a z) && not (related g a z))
  apart_renamed s s' a z down sets ha hz =
      let ka = member_key s a down ha in
      let kz = member_key s z down hz in
      rw (same_key a z ka kz, in_past_set s s' a z down sets ka hz, in_past_set s s' z a down sets kz ha) refl

  pub anticone_renamed : (s s' : List ℕ) (a z : ℕ) → IsDownset g s → AreRenamed r s s' → IsKey a → has s z ≡ true → has (anticone g' s' (r z)) (r a) ≡ has (anticone g s z) a
  anticone_renamed s s' a z down sets ka hz = same_truth (has (anticone g' s' (r z)) (r a)) (has (anticone g s z) a) back forth
    where
      back : has (anticone g' s' (r z)) (r a) ≡ true → has (anticone g s z) a ≡ true
      back h =
          let both = has-filter (λ w. not (eqb w (r z)) && not (related g' w (r z))) s' (r a) h in
          let member : has s a ≡ true = sym (same_member s s' a down sets ka) ∙ both.0 in
          has-filter_from (λ w. not (eqb w z) && not (related g w z)) s a member (sym (apart_renamed s s' a z down sets member hz) ∙ both.1)

      forth : has (anticone g s z) a ≡ true → has (anticone g' s' (r z)) (r a) ≡ true
      forth h =
          let both = has-filter (λ w. not (eqb w z) && not (related g w z)) s a h in
          has-filter_from (λ w. not (eqb w (r z)) && not (related g' w (r z))) s' (r a) (sets.into a both.0) (apart_renamed s s' a z down sets both.0 hz ∙ both.1)

  pub downset_renamed : (s s' : List ℕ) → IsDownset g s → AreRenamed r s s' → IsDownset g' s'
  downset_renamed s s' down sets = downset_match r IsKey g g' s s' (same_on s s' down sets)

  -- ---- votes and words

  pub vote_renamed : (s s' : List ℕ) (z x y : ℕ) → IsDownset g s → AreRenamed r s s' → AreDistinct s → AreDistinct s' → IsKey x → IsKey y → has s z ≡ true → vote g' s' (r z) (r x) (r y) ≡ vote g s z x y
  vote_renamed s s' z x y down sets ds ds' kx ky h = vote_match r IsKey g g' s s' z x y (same_on s s' down sets) named.distinct named.other_distinct ds ds' kx ky h

  pub virt_renamed : (s s' : List ℕ) (x y : ℕ) → IsDownset g s → AreRenamed r s s' → AreDistinct s → AreDistinct s' → IsKey x → IsKey y → virt g' s' (r x) (r y) ≡ virt g s x y
  virt_renamed s s' x y down sets ds ds' kx ky = virt_match r IsKey g g' s s' x y (same_on s s' down sets) named.distinct named.other_distinct ds ds' kx ky

  pub word_renamed : (s s' : List ℕ) (x y : ℕ) → IsDownset g s → AreRenamed r s s' → AreDistinct s → AreDistinct s' → IsKey x → IsKey y → word g' s' (r x) (r y) ≡ word g s x y
  word_renamed s s' x y down sets ds ds' kx ky =
      rw (same_member s s' x down sets kx, same_member s s' y down sets ky, same_key x y kx ky, virt_renamed s s' x y down sets ds ds' kx ky) refl
