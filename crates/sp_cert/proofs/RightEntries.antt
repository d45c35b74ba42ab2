-- Right entries are votes: a world's entries are the votes in the set of its blocks.
use Rattle.std.proofs.Common.{◌≡◌, ◌≢◌, ℕ, Bool, true, false, cond, List, [], ◌∷◌, refl, sym, ap, ◌∙◌, eqb, arith}
use Rattle.std.specs.Prelude.{ℤ, pos, filter, ◌+ℤ◌}
use Rattle.std.proofs.lemmas.Bool.{eq-eqb, false_from_ne_true, false≢true, ne_eqb, or_left, or_right}
use Rattle.std.proofs.lemmas.Int.{ints}
use Rattle.sp_model.specs.Graph.{Graph, has, keys, in_past, past, future, IsDownset}
use Rattle.sp_model.specs.Votes.{settled_in, sgn, total, case_by, case_of, vote_by, vote, virt}
use Rattle.sp_model.proofs.Sets.{has-filter, total_same}
use Rattle.sp_model.proofs.Recursion.{vote_induction, vote_is}
use Rattle.sp_model.proofs.Pasts.{complete_key}
use Rattle.sp_cert.specs.Certificate.{Entries}
use Rattle.sp_cert.specs.Entries.{entry, members_of, right_entry, sum_of, whole_number, world_of}

-- a vote by its cases is the same where its past is asked alike, should x and y both be there, and the blocks above are
pub vote_by_alike : (a b p q : Bool) (g : Graph) (s : List ℕ) (F F' : List ℕ → ℤ) (G G' : ℕ → ℤ) (z x y : ℕ)
    → (p ≡ true → q ≡ true → F (past g z) ≡ F' (past g z)) → ((w : ℕ) → has (future g s z) w ≡ true → G w ≡ G' w)
    → vote_by (case_by a b p q) g s F G z x y ≡ vote_by (case_by a b p q) g s F' G' z x y
vote_by_alike true b p q g s F F' G G' z x y f h = refl
vote_by_alike false true p q g s F F' G G' z x y f h = refl
vote_by_alike false false true false g s F F' G G' z x y f h = refl
vote_by_alike false false false true g s F F' G G' z x y f h = refl
vote_by_alike false false true true g s F F' G G' z x y f h = ap (settled_in g x y) (f refl refl)
vote_by_alike false false false false g s F F' G G' z x y f h = ap sgn (total_same G G' (future g s z) h)

-- a sum over a list, where those that fail a test have 0
pub total_members : (f : ℕ → ℤ) (p : ℕ → Bool) (xs : List ℕ) → ((w : ℕ) → has xs w ≡ true → p w ≡ false → f w ≡ pos 0) → total f xs ≡ total f (filter p xs)
total_members f p [] none = refl
total_members f p (x ∷ xs) none =
    at (p x) refl (none x (or_left (eqb x x) (has xs x) (eq-eqb x x refl)))
    (total_members f p xs (λ w there. none w (or_right (eqb x w) (has xs w) there)))
  where
    at : (b : Bool) → p x ≡ b → (p x ≡ false → f x ≡ pos 0) → total f xs ≡ total f (filter p xs) → f x +ℤ total f xs ≡ total f (cond b (x ∷ filter p xs) (filter p xs))
    at true e zero rest = ap (λ (t : ℤ). f x +ℤ t) rest
    at false e zero rest = (let here : f x ≡ pos 0 = zero e in omega (arith, ints))

-- The worlds of a pair of blocks: each entry of each is right, and each block that has both in its past has a world.
pub record AreRight (g : Graph) (worlds : List Entries) (IsIn : Entries → Type 0) (x y : ℕ) : Type 0 where
  pub below : (z : ℕ) → has (keys g) z ≡ true → z ≢ whole_number
  pub down : IsDownset g (keys g)
  pub each : (world : Entries) → IsIn world → (z : ℕ) → has (keys g) z ≡ true → entry world z ≡ right_entry g worlds world z x y
  pub there : (z : ℕ) → has (keys g) z ≡ true → in_past g x z ≡ true → in_past g y z ≡ true → IsIn (world_of worlds z)
  pub number : (z : ℕ) → has (keys g) z ≡ true → in_past g x z ≡ true → in_past g y z ≡ true → (world_of worlds z).number ≡ z

module _ (g : Graph) (worlds : List Entries) (IsIn : Entries → Type 0) (x y : ℕ) (right : AreRight g worlds IsIn x y) where
  -- the world of a block has the block's past
  members_of-block : (number z : ℕ) → number ≡ z → has (keys g) z ≡ true → members_of g number ≡ past g z
  members_of-block number z e key =
      ap (members_of g) e ∙ rw (ne_eqb z whole_number (right.below z key)) refl

  -- what a member's entry is, by its cases
  member_entry : (world : Entries) (s : List ℕ) (z : ℕ) → IsIn world → members_of g world.number ≡ s → has (keys g) z ≡ true → has s z ≡ true
      → entry world z ≡ vote_by (case_of g z x y) g s (λ below. sgn (sum_of g (world_of worlds z))) (entry world) z x y
  member_entry world s z inside is key member =
      right.each world inside z key
      ∙ ap (λ (m : List ℕ). cond (has m z) (vote_by (case_of g z x y) g m (λ below. sgn (sum_of g (world_of worlds z))) (entry world) z x y) (pos 0)) is
      ∙ rw member refl

  -- another block's entry is 0
  other_entry : (world : Entries) (s : List ℕ) (z : ℕ) → IsIn world → members_of g world.number ≡ s → has (keys g) z ≡ true → has s z ≡ false → entry world z ≡ pos 0
  other_entry world s z inside is key other =
      right.each world inside z key
      ∙ ap (λ (m : List ℕ). cond (has m z) (vote_by (case_of g z x y) g m (λ below. sgn (sum_of g (world_of worlds z))) (entry world) z x y) (pos 0)) is
      ∙ rw other refl

  abbrev Agrees : List ℕ → ℕ → Type 0
  Agrees s z = (world : Entries) → IsIn world → members_of g world.number ≡ s → entry world z ≡ vote g s z x y

  -- the sum of a world is that of its members' votes, where these agree
  sum_agrees : (s : List ℕ) (world : Entries) (p : ℕ → Bool) → s ≡ filter p (keys g) → IsIn world → members_of g world.number ≡ s
      → ((z : ℕ) → has s z ≡ true → Agrees s z) → sgn (sum_of g world) ≡ virt g s x y
  unfolding virt
  sum_agrees s world p filtered inside is agree =
      ap sgn
      (total_members (entry world) p (keys g) (λ w key fails. other_entry world s w inside is key (ap (λ (m : List ℕ). has m w) filtered ∙ not_filtered w fails))
      ∙ ap (total (entry world)) (sym filtered)
      ∙ total_same (entry world) (λ z. vote g s z x y) s (λ z member. agree z member world inside is))
    where
      not_filtered : (w : ℕ) → p w ≡ false → has (filter p (keys g)) w ≡ false
      not_filtered w fails = false_from_ne_true (has (filter p (keys g)) w) (λ there. false≢true (sym fails ∙ (has-filter p (keys g) w there).1))

  entries_agree : (s : List ℕ) (z : ℕ) → IsDownset g s → has s z ≡ true → Agrees s z
  entries_agree s z down member = vote_induction g Agrees step s z down member
    where
      step : (s : List ℕ) (z : ℕ) → IsDownset g s → has s z ≡ true → ((w : ℕ) → has (past g z) w ≡ true → Agrees (past g z) w)
          → ((w : ℕ) → has (future g s z) w ≡ true → Agrees s w) → Agrees s z
      step s z down member below above world inside is =
          let key : has (keys g) z ≡ true = complete_key g z (down.all_complete z member) in
          member_entry world s z inside is key member
          ∙ vote_by_alike (eqb z x) (eqb z y) (in_past g x z) (in_past g y z) g s _ _ _ _ z x y
          (λ x_in y_in.
          let own : IsIn (world_of worlds z) = right.there z key x_in y_in in
          let of_past : members_of g (world_of worlds z).number ≡ past g z = members_of-block (world_of worlds z).number z (right.number z key x_in y_in) key in
          sum_agrees (past g z) (world_of worlds z) (λ a. in_past g a z) refl own of_past below)
          (λ w there. above w there world inside is)
          ∙ sym (vote_is g s z x y down member)

  -- a world of all blocks gives their virtual vote
  pub whole_agrees : (world : Entries) → IsIn world → world.number ≡ whole_number → sgn (sum_of g world) ≡ virt g (keys g) x y
  whole_agrees world inside whole =
      let is : members_of g world.number ≡ keys g = ap (members_of g) whole in
      sum_agrees (keys g) world (λ z. true) (sym (all_pass (keys g))) inside is (λ z member. entries_agree (keys g) z right.down member)
    where
      all_pass : (xs : List ℕ) → filter (λ z. true) xs ≡ xs
      all_pass [] = refl
      all_pass (x ∷ xs) = ap (λ (l : List ℕ). x ∷ l) (all_pass xs)
