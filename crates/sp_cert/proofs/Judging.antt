-- The signs of the sums of worlds, filled from the last world on, and the entries that are judged by them.
use Rattle.std.proofs.Common.{◌≡◌, ◌≢◌, ℕ, suc, ◌+◌, ◌<◌, ◌≤◌, Bool, true, false, cond, List, [], ◌∷◌, length, set, drop, replicate, get_or, refl, sym, ap, subst, ◌∙◌, inl, inr, eqb, Some, None, arith, FitsSigned, of_z, to_z, drop-cons, get_or-set_same, get_or-set_other}
use Rattle.std.specs.Prelude.{find, unwrap_or, ℤ, pos}
use Rattle.std.specs.List.{range_with_len}
use Rattle.std.specs.Ordering.{int_eq}
use Rattle.std.proofs.lemmas.Bool.{cases_eq, cases_lt, eq-eqb, false_from_ne_true, false≢true, ne_eqb}
use Rattle.std.proofs.lemmas.Bool.Decides.{Decides-int_eq}
use Rattle.std.proofs.lemmas.Int.{ints, to_z-of_z}
use Rattle.std.specs.Int.{w8}
use Rattle.std.proofs.lemmas.List.{drop_all, get_or_past, get_or-replicate, length-replicate}
use Rattle.sp_model.specs.Graph.{Graph, keys}
use Rattle.sp_model.specs.Votes.{sgn, total}
use Rattle.sp_dag.specs.Numbered.{graph_of, Numbered}
use Rattle.sp_dag.proofs.Ranked.{keys_are_numbers}
use Rattle.sp_cert.specs.Certificate.{Entries}
use Rattle.sp_cert.specs.Entries.{entry, entry_by, members_of, right_entry, sum_of, world_of}
use Rattle.sp_cert.specs.Refusals.{AreSides, AreSigns, entry_refusal, unless, world_at}
use Rattle.sp_cert.specs.declared.fault.CheckFault.{CheckFault}
use Rattle.sp_cert.specs.declared.fault.CheckFault.TheVariants.{Vote}
use Rattle.sp_cert.proofs.Firsts.{none_below, some_below}

-- ---- signs

no_sum : (f : ℕ → ℤ) (xs : List ℕ) → ((z : ℕ) → f z ≡ pos 0) → total f xs ≡ pos 0
no_sum f [] zeros = refl
no_sum f (x ∷ xs) zeros =
    let here : f x ≡ pos 0 = zeros x in
    let rest : total f xs ≡ pos 0 = no_sum f xs zeros in
    omega (arith, ints)

-- before any world is read, all signs are 0
signs_none : (g : Graph) (signs : List ℤ) → ((z : ℕ) → get_or signs z (pos 0) ≡ pos 0) → AreSigns g [] signs
signs_none g signs zeros z less =
    zeros z ∙ sym (ap sgn (no_sum (entry (record { number = z; votes = [] })) (keys g) (λ k. get_or_past [] k (pos 0) (omega arith))))

pub first_signs : (g : Graph) (worlds : List Entries) (signs : List ℤ) (n : ℕ) → signs ≡ replicate n (pos 0) → AreSigns g (drop (length worlds) worlds) signs
first_signs g worlds signs n are =
    subst (λ (l : List Entries). AreSigns g l signs) (sym (drop_all (length worlds) worlds (omega arith)))
    (signs_none g signs (λ z. ap (λ (l : List ℤ). get_or l z (pos 0)) are ∙ zero_at z))
  where
    zero_at : (z : ℕ) → get_or (replicate n (pos 0)) z (pos 0) ≡ pos 0
    zero_at z = elim (cases_lt z n) [
      | inl less ↦ get_or-replicate n z (pos 0) (pos 0) less
      | inr le ↦ get_or_past (replicate n (pos 0)) z (pos 0) (omega (arith, length-replicate n (pos 0)))
    ]

pub world_of-here : (w : Entries) (ws : List Entries) (z : ℕ) → w.number ≡ z → world_of (w ∷ ws) z ≡ w
world_of-here w ws z e = at (eqb w.number z) (eq-eqb w.number z e)
  where
    at : (c : Bool) → c ≡ true → unwrap_or (cond c (Some w) (find (λ (x : Entries). eqb x.number z) ws)) (record { number = z; votes = [] }) ≡ w
    at true e = refl
    at false e = absurd (false≢true e)

world_of-later : (w : Entries) (ws : List Entries) (z : ℕ) → w.number ≢ z → world_of (w ∷ ws) z ≡ world_of ws z
world_of-later w ws z ne = at (eqb w.number z) (ne_eqb w.number z ne)
  where
    at : (c : Bool) → c ≡ false → unwrap_or (cond c (Some w) (find (λ (x : Entries). eqb x.number z) ws)) (record { number = z; votes = [] }) ≡ world_of ws z
    at true e = absurd (false≢true (sym e))
    at false e = refl

module _ (g : Graph) (worlds : List Entries) (place : ℕ) (w : Entries) (less : place < length worlds) (at : w ≡ get_or worlds place w) where
  one_more : drop place worlds ≡ w ∷ drop (place + 1) worlds
  one_more = (let e : suc place ≡ place + 1 = omega arith in
      drop-cons worlds place w less ∙ ap (λ (x : Entries). x ∷ drop (suc place) worlds) (sym at) ∙ ap (λ (k : ℕ). w ∷ drop k worlds) e)

  -- the sign of this world's sum is put
  pub signs_put : (signs : List ℤ) (v : ℤ) → AreSigns g (drop (place + 1) worlds) signs → w.number < length signs → v ≡ sgn (sum_of g w) → AreSigns g (drop place worlds) (set signs w.number v)
  signs_put signs v are inside is =
      subst (λ (l : List Entries). AreSigns g l (set signs w.number v)) (sym one_more)
      (λ z below. elim (cases_eq z w.number) [
        | inl e ↦ ap (λ (k : ℕ). get_or (set signs w.number v) k (pos 0)) e ∙ get_or-set_same signs w.number v (pos 0) inside ∙ is
            ∙ ap (λ (x : Entries). sgn (sum_of g x)) (sym (world_of-here w (drop (place + 1) worlds) z (sym e)))
        | inr ne ↦ get_or-set_other signs w.number z v (pos 0) ne ∙ are z below
            ∙ ap (λ (x : Entries). sgn (sum_of g x)) (sym (world_of-later w (drop (place + 1) worlds) z (λ e. ne (sym e))))
      ])

  -- a world of no block is passed over
  pub signs_skip : (signs : List ℤ) → AreSigns g (drop (place + 1) worlds) signs → length (keys g) ≤ w.number → AreSigns g (drop place worlds) signs
  signs_skip signs are beyond =
      subst (λ (l : List Entries). AreSigns g l signs) (sym one_more)
      (λ z below. are z below ∙ ap (λ (x : Entries). sgn (sum_of g x)) (sym (world_of-later w (drop (place + 1) worlds) z (λ e. absurd (omega (arith, e, beyond, below))))))

-- ---- entries

unless_same : (a b : ℤ) (fault : CheckFault) → a ≡ b → unless (int_eq a b) fault ≡ None
unless_same a b fault e = ap (λ (c : Bool). unless c fault) ((Decides-int_eq a b).1 e)

unless_other : (a b : ℤ) (fault : CheckFault) → a ≢ b → unless (int_eq a b) fault ≡ Some fault
unless_other a b fault ne = ap (λ (c : Bool). unless c fault) (false_from_ne_true (int_eq a b) (λ h. ne ((Decides-int_eq a b).0 h)))

module _ (g : Graph) (worlds : List Entries) (signs : List ℤ) (are : AreSigns g worlds signs) (place : ℕ) (w : Entries) (is : world_at worlds place ≡ w) (x y : ℕ) where
  abbrev by_signs : ℕ → ℤ
  by_signs z = entry_by g (members_of g w.number) (λ k. get_or signs k (pos 0)) (entry w) z x y

  by_signs-right : (z : ℕ) → z < length (keys g) → by_signs z ≡ right_entry g worlds (world_at worlds place) z x y
  by_signs-right z below =
      ap (λ (s : ℤ). entry_by g (members_of g w.number) (λ k. s) (entry w) z x y) (are z below)
      ∙ ap (λ (v : Entries). right_entry g worlds v z x y) (sym is)

  entry_is : (z : ℕ) → entry w z ≡ entry (world_at worlds place) z
  entry_is z = ap (λ (v : Entries). entry v z) (sym is)

  right_at : (z : ℕ) → z < length (keys g) → entry w z ≡ by_signs z
      → unless (int_eq (entry (world_at worlds place) z) (right_entry g worlds (world_at worlds place) z x y)) (Vote place z) ≡ None
  right_at z below same = unless_same _ _ (Vote place z) (sym (entry_is z) ∙ same ∙ by_signs-right z below)

  pub all_right : ((z : ℕ) → z < length (keys g) → entry w z ≡ by_signs z) → entry_refusal g worlds x y place ≡ None
  all_right each =
      none_below (λ z. unless (int_eq (entry (world_at worlds place) z) (right_entry g worlds (world_at worlds place) z x y)) (Vote place z))
      (length (keys g)) (λ z below. right_at z below (each z below))

  pub first_wrong : (z : ℕ) → z < length (keys g) → (entry w z ≢ by_signs z) → ((k : ℕ) → k < z → entry w k ≡ by_signs k) → entry_refusal g worlds x y place ≡ Some (Vote place z)
  first_wrong z below wrong before =
      some_below (λ k. unless (int_eq (entry (world_at worlds place) k) (right_entry g worlds (world_at worlds place) k x y)) (Vote place k))
      (length (keys g)) z (Vote place z) below
      (unless_other _ _ (Vote place z) (λ e. wrong (entry_is z ∙ e ∙ sym (by_signs-right z below))))
      (λ k low. right_at k (omega arith) (before k low))

-- what is computed for an entry, from the parts that it is computed of
pub by_parts : (g : Graph) (w : Entries) (members tallied plus minus : List ℕ) (votes signs : List ℤ) (result : ℤ) (z x y : ℕ)
    → tallied ≡ members → members ≡ members_of g w.number → votes ≡ w.votes → AreSides members (λ k. get_or votes k (pos 0)) plus minus
    → ((e : ℕ → ℤ) → AreSides tallied e plus minus → result ≡ entry_by g tallied (λ k. get_or signs k (pos 0)) e z x y)
    → result ≡ entry_by g (members_of g w.number) (λ k. get_or signs k (pos 0)) (entry w) z x y
by_parts g w members tallied plus minus votes signs result z x y same are read sides computed =
    computed (λ k. get_or votes k (pos 0)) (subst (λ (m : List ℕ). AreSides m (λ k. get_or votes k (pos 0)) plus minus) (sym same) sides)
    ∙ ap (λ (m : List ℕ). entry_by g m (λ k. get_or signs k (pos 0)) (λ k. get_or votes k (pos 0)) z x y) (same ∙ are)
    ∙ ap (λ (vs : List ℤ). entry_by g (members_of g w.number) (λ k. get_or signs k (pos 0)) (λ k. get_or vs k (pos 0)) z x y) read

-- votes are the same where their bytes are
pub same_vote : (v w : ℤ) → FitsSigned w8 v → FitsSigned w8 w → of_z w8 v ≡ of_z w8 w → v ≡ w
same_vote v w fv fw e = sym (to_z-of_z w8 v fv) ∙ ap (to_z w8) e ∙ to_z-of_z w8 w fw

-- the sum that is read off a world's votes
pub sum_is : (table : Numbered) (w : Entries) (votes : List ℤ) → votes ≡ w.votes → length w.votes ≡ length table.parents
    → total (λ z. get_or votes z (pos 0)) (range_with_len 0 (length votes)) ≡ sum_of (graph_of table) w
sum_is table w votes are long =
    ap (λ (l : List ℤ). total (λ z. get_or l z (pos 0)) (range_with_len 0 (length l))) are
    ∙ ap (λ (n : ℕ). total (entry w) (range_with_len 0 n)) long ∙ ap (total (entry w)) (sym (keys_are_numbers table))
