-- A certificate that nothing refuses shows the virtual vote of its blocks.
use Rattle.std.proofs.Common.{◌≡◌, ℕ, suc, ◌<◌, ◌≤◌, Bool, true, false, cond, ◌&&◌, ◌||◌, List, [], ◌∷◌, length, max, get_or, refl, sym, ap, subst, ◌∙◌, inl, inr, eqb, Option, Some, None, arith}
use Rattle.std.specs.Prelude.{filter, find, not, slice_get, unwrap_or, ℤ}
use Rattle.std.specs.Ordering.{int_eq}
use Rattle.std.proofs.lemmas.Bool.{and_from, and_parts, cases_lt, eqb-true, false≢true, or_right}
use Rattle.std.proofs.lemmas.Bool.Decides.{Decides-int_eq}
use Rattle.std.proofs.lemmas.List.{same_lists}
use Rattle.std.proofs.lemmas.List.FromFn.{length-range_with_len}
use Rattle.std.proofs.lemmas.Option.{none-some, same_Some, slice_get-get_or, slice_get_past}
use Rattle.sp_model.specs.Graph.{has, in_past, keys}
use Rattle.sp_model.specs.Votes.{sgn}
use Rattle.sp_model.proofs.Sets.{has-filter_from}
use Rattle.sp_pool.specs.Kept.{ids_of}
use Rattle.sp_dag.specs.Numbered.{graph_of, number_of}
use Rattle.sp_dag.proofs.Ranked.{downset_numbered, keys_are_numbers}
use Rattle.sp_cert.specs.Certificate.{Certificate, Entries, IsCertificate}
use Rattle.sp_cert.specs.Entries.{entry, right_entry, sum_of, whole_number, world_of}
use Rattle.sp_cert.specs.Refusals.{are_two, entry_refusal, first_difference, is_placed, IsShown, numbers_of, numbered_of, parent_refusal, refusal, refusals_by_place, same_number, sum_refusal, table_of, unless, vote_refusal, wanted_worlds, world_at, world_at_fault, world_refusal}
use Rattle.sp_cert.specs.declared.fault.CheckFault.TheVariants.{Pair, Parent, Sum, Vote}
use Rattle.sp_cert.proofs.Firsts.{each_below, first_some_none, unless_none}
use Rattle.sp_cert.proofs.ByPlace.{all_present, in_order, key_below, table_long, virt_by_place}
use Rattle.sp_cert.proofs.RightEntries.{AreRight, whole_agrees}

-- ---- numbers of worlds

same_number_true : (a b : Option ℕ) → same_number a b ≡ true → a ≡ b
same_number_true None None h = refl
same_number_true None (Some b) h = absurd (false≢true h)
same_number_true (Some a) None h = absurd (false≢true h)
same_number_true (Some a) (Some b) h = ap (λ (k : ℕ). Some k) (eqb-true a b h)

same_at : (a b : List ℕ) (p : ℕ) → first_difference a b ≡ None → p < max (length a) (length b) → slice_get a p ≡ slice_get b p
same_at a b p none less =
    at (same_number (slice_get a p) (slice_get b p)) refl
    (each_below (λ q. cond (same_number (slice_get a q) (slice_get b q)) None (Some q)) (max (length a) (length b)) p none less)
  where
    at : (c : Bool) → same_number (slice_get a p) (slice_get b p) ≡ c → cond c None (Some p) ≡ None → slice_get a p ≡ slice_get b p
    at true e h = same_number_true (slice_get a p) (slice_get b p) e
    at false e h = absurd (none-some p (sym h))

shorter : (a b : List ℕ) → ((p : ℕ) → p < max (length a) (length b) → slice_get a p ≡ slice_get b p) → length a ≤ length b
shorter a b each =
    elim (cases_lt (length b) (length a)) [
      | inr le ↦ le
      | inl less ↦ absurd (none-some (get_or a (length b) 0)
          (sym (slice_get_past b (length b) (omega arith)) ∙ sym (each (length b) (omega arith)) ∙ slice_get-get_or a (length b) 0 less))
    ]

-- lists that don't differ are the same
pub no_difference : (a b : List ℕ) → first_difference a b ≡ None → a ≡ b
no_difference a b none =
    let le : length a ≤ length b = shorter a b (λ p less. same_at a b p none less) in
    let ge : length b ≤ length a = shorter b a (λ p less. sym (same_at a b p none (omega arith))) in
    same_lists a b (omega arith)
    (λ k d less. same_Some (get_or a k d) (get_or b k d) (sym (slice_get-get_or a k d less) ∙ same_at a b k none (omega arith) ∙ slice_get-get_or b k d (omega arith)))

pub world_at_fault_none : (o : Option ℕ) → world_at_fault o ≡ None → o ≡ None
world_at_fault_none None h = refl
world_at_fault_none (Some place) h = absurd (none-some _ (sym h))

-- ---- worlds by their numbers

-- a world of the list
unfoldable pub IsIn : List Entries → Entries → Type 0
IsIn worlds world = (p : ℕ) × (p < length worlds) × (world_at worlds p ≡ world)

-- a number that stands in the list is that of a world
pub world_there : (worlds : List Entries) (number : ℕ) → has (numbers_of worlds) number ≡ true → IsIn worlds (world_of worlds number) × ((world_of worlds number).number ≡ number)
unfolding IsIn
world_there [] number there = absurd (false≢true there)
world_there (w ∷ ws) number there = at (eqb w.number number) refl there (world_there ws number)
  where
    at : (c : Bool) → eqb w.number number ≡ c → (c || has (numbers_of ws) number) ≡ true
        → (has (numbers_of ws) number ≡ true → IsIn ws (world_of ws number) × ((world_of ws number).number ≡ number))
        → IsIn (w ∷ ws) (unwrap_or (cond c (Some w) (find (λ (x : Entries). eqb x.number number) ws)) (record { number = number; votes = [] }))
        × ((unwrap_or (cond c (Some w) (find (λ (x : Entries). eqb x.number number) ws)) (record { number = number; votes = [] })).number ≡ number)
    at true e there rest = ((0, omega arith, refl), eqb-true w.number number e)
    at false e there rest =
        let found = rest there in
        ((suc found.0.0, (let less : found.0.0 < length ws = found.0.1 in omega arith), found.0.2), found.1)

int_same : (v w : ℤ) → int_eq v w ≡ true → v ≡ w
int_same v w h = (Decides-int_eq v w).0 h

-- ---- the certificate

-- what stands where nothing refuses a certificate
pub record Stands (c : Certificate) : Type 0 where
  pub placed : (k : ℕ) → k < length c.blocks → is_placed c.blocks k ≡ true
  pub two : are_two (ids_of c.blocks) c.x c.y ≡ true
  pub worlds : numbers_of c.worlds ≡ wanted_worlds (graph_of (numbered_of c.profile c.blocks)) (number_of (ids_of c.blocks) c.x) (number_of (ids_of c.blocks) c.y)
  pub votes : vote_refusal (graph_of (numbered_of c.profile c.blocks)) c.worlds (number_of (ids_of c.blocks) c.x) (number_of (ids_of c.blocks) c.y) ≡ None
  pub sum : sgn (sum_of (graph_of (numbered_of c.profile c.blocks)) (world_of c.worlds whole_number)) ≡ c.sign

pub stands : (c : Certificate) → refusal c ≡ None → Stands c
unfolding refusal
stands c none =
    let g = graph_of (numbered_of c.profile c.blocks) in
    let x = number_of (ids_of c.blocks) c.x in
    let y = number_of (ids_of c.blocks) c.y in
    let first = first_some_none (parent_refusal c.blocks) (unless (are_two (ids_of c.blocks) c.x c.y) Pair ∷ refusals_by_place g c.worlds c.sign x y) none in
    let second = first_some_none (unless (are_two (ids_of c.blocks) c.x c.y) Pair) (refusals_by_place g c.worlds c.sign x y) first.1 in
    let third = first_some_none (world_refusal g c.worlds x y) (vote_refusal g c.worlds x y ∷ sum_refusal g c.worlds c.sign ∷ []) second.1 in
    let fourth = first_some_none (vote_refusal g c.worlds x y) (sum_refusal g c.worlds c.sign ∷ []) third.1 in
    let fifth = first_some_none (sum_refusal g c.worlds c.sign) [] fourth.1 in
    record {
      placed = λ k less. unless_none (is_placed c.blocks k) (Parent k) (each_below (λ j. unless (is_placed c.blocks j) (Parent j)) (length c.blocks) k first.0 less);
      two = unless_none (are_two (ids_of c.blocks) c.x c.y) Pair second.0;
      worlds = no_difference (numbers_of c.worlds) (wanted_worlds g x y) (world_at_fault_none (first_difference (numbers_of c.worlds) (wanted_worlds g x y)) third.0);
      votes = fourth.0;
      sum = int_same (sgn (sum_of g (world_of c.worlds whole_number))) c.sign (unless_none (int_eq (sgn (sum_of g (world_of c.worlds whole_number))) c.sign) Sum fifth.0);
    }

module _ (c : Certificate) (few : length c.blocks ≤ 512) (h : Stands c) where
  keys_long : length (keys (graph_of (numbered_of c.profile c.blocks))) ≡ length c.blocks
  keys_long = ap length (keys_are_numbers (numbered_of c.profile c.blocks)) ∙ length-range_with_len 0 (length (table_of c.blocks)) ∙ table_long c.blocks h.placed

  wanted_there : (number : ℕ)
      → has (wanted_worlds (graph_of (numbered_of c.profile c.blocks)) (number_of (ids_of c.blocks) c.x) (number_of (ids_of c.blocks) c.y)) number ≡ true
      → IsIn c.worlds (world_of c.worlds number) × ((world_of c.worlds number).number ≡ number)
  wanted_there number there = world_there c.worlds number (ap (λ (l : List ℕ). has l number) h.worlds ∙ there)

  both_wanted : (z : ℕ) → has (keys (graph_of (numbered_of c.profile c.blocks))) z ≡ true → in_past (graph_of (numbered_of c.profile c.blocks)) (number_of (ids_of c.blocks) c.x) z ≡ true
      → in_past (graph_of (numbered_of c.profile c.blocks)) (number_of (ids_of c.blocks) c.y) z ≡ true
      → has (wanted_worlds (graph_of (numbered_of c.profile c.blocks)) (number_of (ids_of c.blocks) c.x) (number_of (ids_of c.blocks) c.y)) z ≡ true
  both_wanted z key x_in y_in =
      let g = graph_of (numbered_of c.profile c.blocks) in
      let both = λ (w : ℕ). in_past g (number_of (ids_of c.blocks) c.x) w && in_past g (number_of (ids_of c.blocks) c.y) w in
      or_right (eqb whole_number z) (has (filter both (keys g)) z)
      (has-filter_from both (keys g) z key
      (and_from (in_past g (number_of (ids_of c.blocks) c.x) z) (in_past g (number_of (ids_of c.blocks) c.y) z) x_in y_in))

  each_right : (world : Entries) → IsIn c.worlds world → (z : ℕ) → has (keys (graph_of (numbered_of c.profile c.blocks))) z ≡ true
      → entry world z ≡ right_entry (graph_of (numbered_of c.profile c.blocks)) c.worlds world z (number_of (ids_of c.blocks) c.x) (number_of (ids_of c.blocks) c.y)
  unfolding IsIn
  each_right world inside z key =
      let g = graph_of (numbered_of c.profile c.blocks) in
      let x = number_of (ids_of c.blocks) c.x in
      let y = number_of (ids_of c.blocks) c.y in
      let below : z < length c.blocks = key_below c.profile c.blocks h.placed z key in
      let own = world_at c.worlds inside.0 in
      let same = λ (w : ℕ). int_eq (entry own w) (right_entry g c.worlds own w x y) in
      let none = each_below (entry_refusal g c.worlds x y) (length c.worlds) inside.0 h.votes inside.1 in
      let met : same z ≡ true = unless_none (same z) (Vote inside.0 z)
      (each_below (λ w. unless (same w) (Vote inside.0 w)) (length (keys g)) z none (omega (arith, keys_long))) in
      subst (λ (w : Entries). entry w z ≡ right_entry g c.worlds w z x y) inside.2 (int_same (entry own z) (right_entry g c.worlds own z x y) met)

  are_right : AreRight (graph_of (numbered_of c.profile c.blocks)) c.worlds (IsIn c.worlds) (number_of (ids_of c.blocks) c.x) (number_of (ids_of c.blocks) c.y)
  are_right = record {
    below = λ z key e. let less : z < length c.blocks = key_below c.profile c.blocks h.placed z key in absurd (omega (arith, few));
    down = downset_numbered (numbered_of c.profile c.blocks) (in_order c.blocks h.placed);
    each = each_right;
    there = λ z key x_in y_in. (wanted_there z (both_wanted z key x_in y_in)).0;
    number = λ z key x_in y_in. (wanted_there z (both_wanted z key x_in y_in)).1;
  }

  two_parts : (not (eqb c.x c.y) ≡ true) × ((has (ids_of c.blocks) c.x && has (ids_of c.blocks) c.y) ≡ true)
  two_parts = and_parts (not (eqb c.x c.y)) (has (ids_of c.blocks) c.x && has (ids_of c.blocks) c.y) h.two

  ids_in : (has (ids_of c.blocks) c.x ≡ true) × (has (ids_of c.blocks) c.y ≡ true)
  ids_in = and_parts (has (ids_of c.blocks) c.x) (has (ids_of c.blocks) c.y) two_parts.1

  pub is_shown : IsShown c
  is_shown =
      let g = graph_of (numbered_of c.profile c.blocks) in
      let whole = wanted_there whole_number refl in
      record {
        present = all_present c.profile c.blocks h.placed;
        sign = virt_by_place c.profile c.blocks h.placed c.x c.y ids_in.0 ids_in.1
            ∙ sym (whole_agrees g c.worlds (IsIn c.worlds) (number_of (ids_of c.blocks) c.x) (number_of (ids_of c.blocks) c.y) are_right
            (world_of c.worlds whole_number) whole.0 whole.1)
            ∙ h.sum;
      }

-- so a certificate that nothing refuses shows the virtual vote of its blocks
pub shown : (c : Certificate) → IsCertificate c → refusal c ≡ None → IsShown c
shown c is none = is_shown c is.blocks.few (stands c none)
