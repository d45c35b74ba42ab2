-- Votes that are found from the highest block down, and the rows that count them.
use Rattle.std.proofs.Common.{◌≡◌, ℕ, ◌+◌, ◌<◌, ◌≤◌, Bool, true, false, ◌&&◌, ◌||◌, cond, List, length, set, get_or, refl, sym, ap, subst, ◌∙◌, inl, inr, eqb, arith, get_or-set_same, get_or-set_other, length-set}
use Rattle.std.specs.Prelude.{ℤ, pos, All}
use Rattle.std.proofs.lemmas.Bool.{and_parts, cases_eq, cases_lt, eq-eqb, eqb-true, false≢true, ne_eqb, or_cases}
use Rattle.sp_bits.specs.Places.{places_where, IsRow}
use Rattle.sp_bits.proofs.RowSets.{has_places, row_small}
use Rattle.sp_model.specs.Graph.{has, in_past, past, future, IsDownset}
use Rattle.sp_model.specs.Loose.{is_minus, is_plus}
use Rattle.sp_model.specs.Votes.{case_of, vote, virt, vote_by}
use Rattle.sp_model.proofs.Loose.{vote_sign}
use Rattle.sp_model.proofs.Pasts.{complete_key}
use Rattle.sp_model.proofs.Recursion.{vote_is}
use Rattle.sp_model.proofs.Sets.{has-filter}
use Rattle.sp_dag.specs.Numbered.{AreInOrder, graph_of, Numbered}
use Rattle.sp_dag.proofs.Ranked.{ancestors_lower, key_out}
use Rattle.sp_cert.specs.Certificate.{IsSign}
use Rattle.sp_cert.specs.Entries.{AreVirts, entry_by, vote_in}
use Rattle.sp_cert.specs.Refusals.{AreSides}
use Rattle.sp_cert.proofs.RightEntries.{vote_by_alike}

-- ---- one vote

-- a member's entry by the entries above it is its vote; any other block has 0
pub cast_vote : (table : Numbered) (members : List ℕ) (signs : ℕ → ℤ) (e : ℕ → ℤ) (z x y : ℕ) → AreInOrder table.parents → IsDownset (graph_of table) members
    → ((k : ℕ) → has members k ≡ true → in_past (graph_of table) x k ≡ true → in_past (graph_of table) y k ≡ true → signs k ≡ virt (graph_of table) (past (graph_of table) k) x y)
    → ((w : ℕ) → z < w → w < length table.parents → e w ≡ vote_in (graph_of table) members x y w)
    → entry_by (graph_of table) members signs e z x y ≡ vote_in (graph_of table) members x y z
cast_vote table members signs e z x y order down virts above = by (has members z) refl
  where
    below : (w : ℕ) → has members w ≡ true → w < length table.parents
    below w member = elim (cases_lt w (length table.parents)) [
      | inl less ↦ less
      | inr le ↦ absurd (false≢true (sym (key_out table w le) ∙ complete_key (graph_of table) w (down.all_complete w member)))
    ]

    voted : (w : ℕ) → has (future (graph_of table) members z) w ≡ true → e w ≡ vote (graph_of table) members w x y
    voted w there =
        let both : (has members w ≡ true) × (in_past (graph_of table) z w ≡ true) = has-filter (λ k. in_past (graph_of table) z k) members w there in
        above w (ancestors_lower table z w order (below w both.0) both.1) (below w both.0)
        ∙ ap (λ (c : Bool). cond c (vote (graph_of table) members w x y) (pos 0)) both.0

    by : (c : Bool) → has members z ≡ c
        → cond c (vote_by (case_of (graph_of table) z x y) (graph_of table) members (λ s. signs z) e z x y) (pos 0) ≡ cond c (vote (graph_of table) members z x y) (pos 0)
    by false other = refl
    by true member =
        vote_by_alike (eqb z x) (eqb z y) (in_past (graph_of table) x z) (in_past (graph_of table) y z) (graph_of table) members _ _ _ _ z x y
        (λ x_in y_in. virts z member x_in y_in) voted
        ∙ sym (vote_is (graph_of table) members z x y down member)

pub vote_in-sign : (table : Numbered) (members : List ℕ) (z x y : ℕ) → IsDownset (graph_of table) members → IsSign (vote_in (graph_of table) members x y z)
vote_in-sign table members z x y down = by (has members z) refl
  where
    by : (c : Bool) → has members z ≡ c → IsSign (cond c (vote (graph_of table) members z x y) (pos 0))
    by true member = vote_sign (graph_of table) members z x y down member
    by false other = refl

-- ---- counting it

put_at : (members old new : List ℕ) (z : ℕ) (there : Bool) (test : ℕ → Bool) → IsRow members → z < 512
    → ((w : ℕ) → has old w ≡ (has members w && test w)) → test z ≡ false → (has members z ≡ false → there ≡ false)
    → new ≡ cond there (places_where (λ p. has old p || eqb p z)) old → (w : ℕ) → has new w ≡ (has members w && cond (eqb w z) there (test w))
put_at members old new z true test row small is none member now w =
    ap (λ (l : List ℕ). has l w) now
    ∙ has_places (λ p. has old p || eqb p z) w (λ h. elim (or_cases (has old w) (eqb w z) h) [
      | inl in_old ↦ row_small members w row (and_parts (has members w) (test w) (sym (is w) ∙ in_old)).0
      | inr same ↦ (let e : w ≡ z = eqb-true w z same in omega arith)
    ])
    ∙ elim (cases_eq w z) [
      | inl e ↦ (let in_members : has members w ≡ true = ap (has members) e ∙ is_member (has members z) refl in
          rw (eq-eqb w z e, in_members) (or_true (has old w)))
      | inr ne ↦ rw (ne_eqb w z ne) (or_false (has old w) ∙ is w)
    ]
  where
    is_member : (c : Bool) → has members z ≡ c → has members z ≡ true
    is_member true e = e
    is_member false e = absurd (false≢true (sym (member e)))

    or_true : (c : Bool) → (c || true) ≡ true
    or_true true = refl
    or_true false = refl

    or_false : (c : Bool) → (c || false) ≡ c
    or_false true = refl
    or_false false = refl
put_at members old new z false test row small is none member now w =
    ap (λ (l : List ℕ). has l w) now ∙ is w
    ∙ elim (cases_eq w z) [
      | inl e ↦ (let fails : test w ≡ false = ap test e ∙ none in rw (eq-eqb w z e, fails) refl)
      | inr ne ↦ rw (ne_eqb w z ne) refl
    ]

pub sides_count : (members plus minus plus' minus' : List ℕ) (e : ℕ → ℤ) (z : ℕ) (v : ℤ) → z < 512 → IsSign v → (has members z ≡ false → v ≡ pos 0) → e z ≡ pos 0
    → plus' ≡ cond (is_plus v) (places_where (λ p. has plus p || eqb p z)) plus → minus' ≡ cond (is_minus v) (places_where (λ p. has minus p || eqb p z)) minus
    → AreSides members e plus minus → AreSides members (λ w. cond (eqb w z) v (e w)) plus' minus'
sides_count members plus minus plus' minus' e z v small sign member none up down sides =
    record {
      row = sides.row;
      signs = λ w there. signed w (eqb w z) (sides.signs w there);
      plus_is = λ w. put_at members plus plus' z (is_plus v) (λ k. is_plus (e k)) sides.row small sides.plus_is (ap is_plus none) (λ other. ap is_plus (member other)) up w
          ∙ ap (λ (b : Bool). has members w && b) (plus_by w (eqb w z));
      minus_is = λ w. put_at members minus minus' z (is_minus v) (λ k. is_minus (e k)) sides.row small sides.minus_is (ap is_minus none) (λ other. ap is_minus (member other)) down w
          ∙ ap (λ (b : Bool). has members w && b) (minus_by w (eqb w z));
    }
  where
    signed : (w : ℕ) (c : Bool) → IsSign (e w) → IsSign (cond c v (e w))
    signed w true h = sign
    signed w false h = h

    plus_by : (w : ℕ) (c : Bool) → cond c (is_plus v) (is_plus (e w)) ≡ is_plus (cond c v (e w))
    plus_by w true = refl
    plus_by w false = refl

    minus_by : (w : ℕ) (c : Bool) → cond c (is_minus v) (is_minus (e w)) ≡ is_minus (cond c v (e w))
    minus_by w true = refl
    minus_by w false = refl

-- ---- one vote more in the list

pub sides_same : (members plus minus : List ℕ) (e f : ℕ → ℤ) → ((w : ℕ) → e w ≡ f w) → AreSides members e plus minus → AreSides members f plus minus
sides_same members plus minus e f same sides =
    record {
      row = sides.row;
      signs = λ w there. subst IsSign (same w) (sides.signs w there);
      plus_is = λ w. sides.plus_is w ∙ ap (λ (v : ℤ). has members w && is_plus v) (same w);
      minus_is = λ w. sides.minus_is w ∙ ap (λ (v : ℤ). has members w && is_minus v) (same w);
    }

pub set_reads : (votes : List ℤ) (z : ℕ) (v : ℤ) → z < length votes → (w : ℕ) → cond (eqb w z) v (get_or votes w (pos 0)) ≡ get_or (set votes z v) w (pos 0)
set_reads votes z v less w =
    elim (cases_eq w z) [
      | inl e ↦ rw (eq-eqb w z e) (sym (ap (λ (k : ℕ). get_or (set votes z v) k (pos 0)) e ∙ get_or-set_same votes z v (pos 0) less))
      | inr ne ↦ rw (ne_eqb w z ne) (sym (get_or-set_other votes z w v (pos 0) ne))
    ]

pub set_signs : (votes : List ℤ) (z : ℕ) (v : ℤ) → IsSign v → All IsSign votes → All IsSign (set votes z v)
set_signs votes z v sign signs k d less =
    elim (cases_eq k z) [
      | inl e ↦ subst IsSign (sym (ap (λ (j : ℕ). get_or (set votes z v) j d) e ∙ get_or-set_same votes z v d (omega (arith, length-set votes z v)))) sign
      | inr ne ↦ subst IsSign (sym (get_or-set_other votes z k v d ne)) (signs k d (omega (arith, length-set votes z v)))
    ]

-- what is computed for the block before the ones that have voted is its vote
pub next_vote : (table : Numbered) (members tallied plus minus : List ℕ) (votes signs : List ℤ) (result : ℤ) (n z x y : ℕ)
    → AreInOrder table.parents → IsDownset (graph_of table) members → AreVirts (graph_of table) x y members signs → n ≡ z + 1
    → tallied ≡ members → AreSides members (λ w. get_or votes w (pos 0)) plus minus
    → ((w : ℕ) → n ≤ w → w < length table.parents → get_or votes w (pos 0) ≡ vote_in (graph_of table) members x y w)
    → ((e : ℕ → ℤ) → AreSides tallied e plus minus → result ≡ entry_by (graph_of table) tallied (λ k. get_or signs k (pos 0)) e z x y)
    → result ≡ vote_in (graph_of table) members x y z
next_vote table members tallied plus minus votes signs result n z x y order down virts next same sides above computed =
    computed (λ w. get_or votes w (pos 0)) (subst (λ (m : List ℕ). AreSides m (λ w. get_or votes w (pos 0)) plus minus) (sym same) sides)
    ∙ ap (λ (m : List ℕ). entry_by (graph_of table) m (λ k. get_or signs k (pos 0)) (λ w. get_or votes w (pos 0)) z x y) same
    ∙ cast_vote table members (λ k. get_or signs k (pos 0)) (λ w. get_or votes w (pos 0)) z x y order down virts (λ w less inside. above w (omega arith) inside)

pub no_member : (table : Numbered) (members : List ℕ) (z x y : ℕ) → has members z ≡ false → vote_in (graph_of table) members x y z ≡ pos 0
no_member table members z x y other = ap (λ (c : Bool). cond c (vote (graph_of table) members z x y) (pos 0)) other
