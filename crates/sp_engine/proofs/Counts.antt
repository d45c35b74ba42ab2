-- Lists of different numbers: one within another is no longer, and two with the same members are as long. So the present blocks are counted by any list of them.
use Rattle.std.proofs.Common.{◌≡◌, ℕ, suc, ◌≤◌, Bool, true, false, cond, not, ◌||◌, List, [], ◌∷◌, length, refl, sym, ap, subst, ◌∙◌, eqb, arith}
use Rattle.std.specs.Prelude.{filter}
use Rattle.std.proofs.lemmas.Bool.{eq-eqb, false≢true, ne_eqb, not_from_false, or_left, or_right}
use Rattle.sp_block.specs.Block.{ReadBlock}
use Rattle.sp_model.specs.Graph.{AreDistinct, has}
use Rattle.sp_model.proofs.Distinct.{complete_distinct}
use Rattle.sp_model.proofs.Sets.{has-filter_from}
use Rattle.sp_pool.specs.Kept.{AreApart, graph_of, present}
use Rattle.sp_pool.proofs.Parents.{keys-graph_of}

-- a filter lengthens nothing, and one that leaves out a member shortens
filter_short : (p : ℕ → Bool) (ys : List ℕ) → length (filter p ys) ≤ length ys
filter_short p [] = omega arith
filter_short p (y ∷ ys) = at (p y) (filter_short p ys)
  where
    at : (c : Bool) → length (filter p ys) ≤ length ys → length (cond c (y ∷ filter p ys) (filter p ys)) ≤ suc (length ys)
    at true rest = omega arith
    at false rest = omega arith

without_shorter : (ys : List ℕ) (k : ℕ) → has ys k ≡ true → suc (length (filter (λ y. not (eqb y k)) ys)) ≤ length ys
without_shorter [] k h = absurd (false≢true h)
without_shorter (y ∷ ys) k h = at (eqb y k) h (filter_short (λ z. not (eqb z k)) ys) (without_shorter ys k)
  where
    at : (c : Bool) → (c || has ys k) ≡ true → length (filter (λ z. not (eqb z k)) ys) ≤ length ys
        → (has ys k ≡ true → suc (length (filter (λ z. not (eqb z k)) ys)) ≤ length ys)
        → suc (length (cond (not c) (y ∷ filter (λ z. not (eqb z k)) ys) (filter (λ z. not (eqb z k)) ys))) ≤ suc (length ys)
    at true h short rest = omega arith
    at false h short rest = (let less : suc (length (filter (λ z. not (eqb z k)) ys)) ≤ length ys = rest h in omega arith)

-- different numbers that are all in a list are no more than the list has
pub distinct_within : (xs ys : List ℕ) → AreDistinct xs → ((z : ℕ) → has xs z ≡ true → has ys z ≡ true) → length xs ≤ length ys
distinct_within [] ys apart within = omega arith
distinct_within (x ∷ xs) ys apart within =
    let here : has ys x ≡ true = within x (or_left (eqb x x) (has xs x) (eq-eqb x x refl)) in
    let less : suc (length (filter (λ y. not (eqb y x)) ys)) ≤ length ys = without_shorter ys x here in
    let rest : length xs ≤ length (filter (λ y. not (eqb y x)) ys) = distinct_within xs (filter (λ y. not (eqb y x)) ys) apart.1 left in
    omega arith
  where
    left : (z : ℕ) → has xs z ≡ true → has (filter (λ y. not (eqb y x)) ys) z ≡ true
    left z there =
        has-filter_from (λ y. not (eqb y x)) ys z (within z (or_right (eqb x z) (has xs z) there))
        (not_from_false (eqb z x) (ne_eqb z x (λ same. false≢true (sym apart.0 ∙ ap (has xs) (sym same) ∙ there))))

-- so two lists of different numbers with the same members are as long
pub same_length : (xs ys : List ℕ) → AreDistinct xs → AreDistinct ys → ((z : ℕ) → has xs z ≡ has ys z) → length xs ≡ length ys
same_length xs ys apart apart_too same =
    let up : length xs ≤ length ys = distinct_within xs ys apart (λ z there. sym (same z) ∙ there) in
    let down : length ys ≤ length xs = distinct_within ys xs apart_too (λ z there. same z ∙ there) in
    omega arith

-- no id of a present block repeats, where no two kept blocks have the same one
pub AreDistinct-present : (kept : List ReadBlock) → AreApart kept → AreDistinct (present kept)
AreDistinct-present kept apart =
    complete_distinct (graph_of kept) (subst (λ (ids : List ℕ). AreDistinct ids) (sym (keys-graph_of kept)) apart)

-- so a list of the present blocks, none twice, is as long as there are present blocks
pub present_counts : (kept : List ReadBlock) (ids : List ℕ) → AreApart kept → AreDistinct ids → ((id : ℕ) → has ids id ≡ has (present kept) id) → length (present kept) ≡ length ids
present_counts kept ids apart ids_apart same =
    same_length (present kept) ids (AreDistinct-present kept apart) ids_apart (λ id. sym (same id))
