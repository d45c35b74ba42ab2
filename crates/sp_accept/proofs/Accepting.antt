-- Rows of the blocks in which transactions are accepted: how they are filled and dropped, and what one test of them says.
use Rattle.std.proofs.Common.{◌≡◌, ◌≢◌, ◌<◌, ◌≤◌, ◌∙◌, ◌+◌, ◌&&◌, not, ℕ, zero, suc, Bool, true, false, List, [], ◌∷◌, ◌++◌, Some, None, arith, refl, sym, ap, length, get_or, set, get_or-set_same, get_or-set_other, length-append, eqb}
use Rattle.std.specs.Prelude.{Option}
use Rattle.std.specs.List.{list_all, list_any}
use Rattle.std.proofs.Math.ListN.{get_or-append}
use Rattle.std.proofs.Math.Seq.{get_or-append_seam}
use Rattle.std.proofs.lemmas.Bool.{and_from, and_parts, eqb-false, eqb-true, eq-eqb, false≢true, false_from_ne_true, not-true, not_from_false}
use Rattle.sp_model.specs.Graph.{has}
use Rattle.sp_model.proofs.Sets.{same_truth}
use Rattle.sp_carry.specs.Carried.{Carried, carriers_in}
use Rattle.sp_carry.specs.Flags.{is_set}
use Rattle.sp_carry.specs.RivalBlocks.{row_of}
use Rattle.sp_carry.proofs.Members.{IsIn, any_agrees, any_of_member, member_of_all, member_of_any}
use Rattle.sp_accept.specs.AcceptedRows.{has_accepted_in, is_accepted_in, stands_outside, AreAccepted}
use Rattle.sp_accept.specs.Rows.{row_at}
use Rattle.sp_accept.specs.Todo.{turned_at}
use Rattle.sp_accept.proofs.Numbers.{carrier_of}
use Rattle.sp_accept.proofs.Rowwise.{has_in, in_row, one_out}
use Rattle.sp_accept.proofs.Toggled.{turned_other}

clash : {P : Type 0} (place : ℕ) → None ≡ Some place → P
clash {P} place e = absurd (let none : ⊥ = cc in none)

-- no row is there
pub none_kept : (k : Carried) (flags : List Bool) (places : List (Option ℕ)) (rows : List (List ℕ)) → places ≡ [] → AreAccepted k flags places rows
none_kept k flags places rows e tx place is = clash place (sym (ap (λ (l : List (Option ℕ)). get_or l tx None) e) ∙ is)

-- ---- places

-- a place more, with no row
pub none_more : (places : List (Option ℕ)) (tx : ℕ) → get_or (places ++ None ∷ []) tx None ≡ get_or places tx None
none_more [] zero = refl
none_more [] (suc tx) = refl
none_more (p ∷ places) zero = refl
none_more (p ∷ places) (suc tx) = none_more places tx

pub kept_alike : (k : Carried) (flags : List Bool) (places places' : List (Option ℕ)) (rows : List (List ℕ)) → ((tx : ℕ) → get_or places' tx None ≡ get_or places tx None)
    → AreAccepted k flags places rows → AreAccepted k flags places' rows
kept_alike k flags places places' rows same h tx place is = h tx place (sym (same tx) ∙ is)

-- a row more
pub one_filled : (k : Carried) (flags : List Bool) (places : List (Option ℕ)) (rows : List (List ℕ)) (tx : ℕ) (row : List ℕ) → tx < length places
    → AreAccepted k flags places rows → ((z : ℕ) → has row z ≡ has_accepted_in k flags tx z)
    → AreAccepted k flags (set places tx (Some (length rows))) (rows ++ row ∷ [])
one_filled k flags places rows tx row lt h right u place is = at (eqb u tx) refl
  where
    long : length (rows ++ row ∷ []) ≡ length rows + 1
    long = length-append rows (row ∷ [])

    last : (n : ℕ) → Some (length rows) ≡ Some n → n ≡ length rows
    last n e = (cc)

    at : (b : Bool) → eqb u tx ≡ b → (place < length (rows ++ row ∷ [])) × ((z : ℕ) → has (row_of (rows ++ row ∷ []) place) z ≡ has_accepted_in k flags u z)
    at true e =
        let same : u ≡ tx = eqb-true u tx e in
        let here : place ≡ length rows =
        last place (sym (get_or-set_same places tx (Some (length rows)) None lt) ∙ ap (λ (n : ℕ). get_or (set places tx (Some (length rows))) n None) (sym same) ∙ is) in (
          omega (arith, here, long),
          λ z. ap (λ (n : ℕ). has (row_of (rows ++ row ∷ []) n) z) here ∙ ap (λ (l : List ℕ). has l z) (get_or-append_seam rows row [] [])
              ∙ right z ∙ ap (λ (n : ℕ). has_accepted_in k flags n z) (sym same),
        )
    at false e =
        let old : (place < length rows) × ((z : ℕ) → has (row_of rows place) z ≡ has_accepted_in k flags u z) =
        h u place (sym (get_or-set_other places tx u (Some (length rows)) None (eqb-false u tx e)) ∙ is) in (
          omega (arith, old.0, long),
          λ z. ap (λ (l : List ℕ). has l z) (get_or-append rows (row ∷ []) [] place old.0) ∙ old.1 z,
        )

-- ---- a carrier that turns

turned_elsewhere : (k : Carried) (flags : List Bool) (c u z : ℕ) → u ≢ (row_at k.rows c).tx → has_accepted_in k (turned_at flags c) u z ≡ has_accepted_in k flags u z
turned_elsewhere k flags c u z apart =
    any_agrees (λ d. is_accepted_in k (turned_at flags c) d z) (λ d. is_accepted_in k flags d z) (carriers_in k.rows u)
    (λ d there. ap (λ (b : Bool). b && ((row_at k.rows d).sound && eqb z (row_at k.rows d).block))
    (turned_other flags c d (λ same. apart (sym (carrier_of k.rows u d there).1 ∙ ap (λ (n : ℕ). (row_at k.rows n).tx) (sym same)))))

-- the row of its transaction isn't there any more, all others are
pub one_dropped : (k : Carried) (flags : List Bool) (c : ℕ) (places places' : List (Option ℕ)) (rows : List (List ℕ)) → get_or places' (row_at k.rows c).tx None ≡ None
    → ((u : ℕ) → u ≢ (row_at k.rows c).tx → get_or places' u None ≡ get_or places u None) → AreAccepted k flags places rows
    → AreAccepted k (turned_at flags c) places' rows
one_dropped k flags c places places' rows gone others h u place is = at (eqb u (row_at k.rows c).tx) refl
  where
    at : (b : Bool) → eqb u (row_at k.rows c).tx ≡ b → (place < length rows) × ((z : ℕ) → has (row_of rows place) z ≡ has_accepted_in k (turned_at flags c) u z)
    at true e = clash place (sym gone ∙ ap (λ (n : ℕ). get_or places' n None) (sym (eqb-true u (row_at k.rows c).tx e)) ∙ is)
    at false e =
        let apart : u ≢ (row_at k.rows c).tx = eqb-false u (row_at k.rows c).tx e in
        let old : (place < length rows) × ((z : ℕ) → has (row_of rows place) z ≡ has_accepted_in k flags u z) = h u place (sym (others u apart) ∙ is) in
        (old.0, λ z. old.1 z ∙ sym (turned_elsewhere k flags c u z apart))

pub none_behind : (places : List (Option ℕ)) (tx : ℕ) → length places ≤ tx → get_or places tx None ≡ None
none_behind [] tx le = refl
none_behind (p ∷ places) zero le = absurd (omega (arith, le))
none_behind (p ∷ places) (suc tx) le = none_behind places tx (omega (arith, le))

pub dropped_there : (k : Carried) (flags : List Bool) (c tx : ℕ) (places : List (Option ℕ)) (rows : List (List ℕ)) → tx ≡ (row_at k.rows c).tx → tx < length places
    → AreAccepted k flags places rows → AreAccepted k (turned_at flags c) (set places tx None) rows
dropped_there k flags c tx places rows is lt h =
    one_dropped k flags c places (set places tx None) rows
    (ap (λ (n : ℕ). get_or (set places tx None) n None) (sym is) ∙ get_or-set_same places tx None None lt)
    (λ u apart. get_or-set_other places tx u None None (λ same. apart (same ∙ is))) h

pub dropped_behind : (k : Carried) (flags : List Bool) (c tx : ℕ) (places : List (Option ℕ)) (rows : List (List ℕ)) → tx ≡ (row_at k.rows c).tx → length places ≤ tx
    → AreAccepted k flags places rows → AreAccepted k (turned_at flags c) places rows
dropped_behind k flags c tx places rows is le h =
    one_dropped k flags c places places rows (ap (λ (n : ℕ). get_or places n None) (sym is) ∙ none_behind places tx le) (λ u apart. refl) h

-- ---- a test

-- the row has a block outside of some just where a carrier of the transaction is accepted there
pub outside_is : (k : Carried) (flags : List Bool) (safe row : List ℕ) (tx : ℕ) → ((z : ℕ) → has row z ≡ has_accepted_in k flags tx z)
    → not (list_all (has safe) row) ≡ list_any (stands_outside k flags safe) (carriers_in k.rows tx)
outside_is k flags safe row tx right = same_truth _ _ forth back
  where
    forth : not (list_all (has safe) row) ≡ true → list_any (stands_outside k flags safe) (carriers_in k.rows tx) ≡ true
    forth h =
        let w : (w : ℕ) × IsIn row w × (has safe w ≡ false) = one_out (has safe) row (not-true (list_all (has safe) row) h) in
        let c : (c : ℕ) × IsIn (carriers_in k.rows tx) c × (is_accepted_in k flags c w.0 ≡ true) =
        member_of_any (λ c. is_accepted_in k flags c w.0) (carriers_in k.rows tx) (sym (right w.0) ∙ has_in row w.0 w.1) in
        let f : (is_set flags c.0 ≡ true) × (((row_at k.rows c.0).sound && eqb w.0 (row_at k.rows c.0).block) ≡ true) = and_parts (is_set flags c.0) _ c.2 in
        let g : ((row_at k.rows c.0).sound ≡ true) × (eqb w.0 (row_at k.rows c.0).block ≡ true) = and_parts (row_at k.rows c.0).sound _ f.1 in
        any_of_member (stands_outside k flags safe) (carriers_in k.rows tx) c.0 c.1
        (and_from (is_set flags c.0) _ f.0
        (and_from (row_at k.rows c.0).sound _ g.0
        (not_from_false (has safe (row_at k.rows c.0).block) (ap (has safe) (sym (eqb-true w.0 (row_at k.rows c.0).block g.1)) ∙ w.2))))

    back : list_any (stands_outside k flags safe) (carriers_in k.rows tx) ≡ true → not (list_all (has safe) row) ≡ true
    back h =
        let c : (c : ℕ) × IsIn (carriers_in k.rows tx) c × (stands_outside k flags safe c ≡ true) =
        member_of_any (stands_outside k flags safe) (carriers_in k.rows tx) h in
        let f : (is_set flags c.0 ≡ true) × (((row_at k.rows c.0).sound && not (has safe (row_at k.rows c.0).block)) ≡ true) = and_parts (is_set flags c.0) _ c.2 in
        let g : ((row_at k.rows c.0).sound ≡ true) × (not (has safe (row_at k.rows c.0).block) ≡ true) = and_parts (row_at k.rows c.0).sound _ f.1 in
        let z : ℕ = (row_at k.rows c.0).block in
        let there : has row z ≡ true =
        right z
        ∙ any_of_member (λ d. is_accepted_in k flags d z) (carriers_in k.rows tx) c.0 c.1
        (and_from (is_set flags c.0) _ f.0 (and_from (row_at k.rows c.0).sound _ g.0 (eq-eqb z z refl))) in
        not_from_false (list_all (has safe) row)
        (false_from_ne_true (list_all (has safe) row)
        (λ all. false≢true (sym (not-true (has safe z) g.1) ∙ member_of_all (has safe) row z all (in_row row z there))))
