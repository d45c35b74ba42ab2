-- The rows and pairs of a graph with one block more.
use Rattle.std.proofs.Common.{◌≡◌, ◌≢◌, ℕ, suc, ◌+◌, ◌<◌, ◌≤◌, Bool, true, false, ◌||◌, ◌&&◌, not, List, [], ◌∷◌, ◌++◌, zero, cond, length, map, get_or, refl, sym, ap, ◌∙◌, inl, inr, eqb, arith, append-nil, length-append, add-one, ◌⊎◌}
use Rattle.std.specs.Prelude.{filter, if◌then◌else◌}
use Rattle.std.specs.List.{range_with_len, flat_map}
use Rattle.std.proofs.lemmas.Bool.{cases_lt, eqb-true, eq-eqb, false≢true}
use Rattle.std.proofs.lemmas.List.Concat.{flat_map-append}
use Rattle.std.proofs.Math.ListN.{get_or-append, get_or-eq_default}
use Rattle.std.proofs.Math.Seq.{get_or-append_seam}
use Rattle.sp_model.proofs.Pasts.{not_in_own_past}
use Rattle.sp_model.specs.Graph.{Graph, has, complete, in_past, related}
use Rattle.sp_model.proofs.Sets.{all_from, any_same}
use Rattle.sp_dag.proofs.Pushes.{in_past-push, in_past-new, new_in_no_past}
use Rattle.sp_bits.specs.Places.{places_where}
use Rattle.sp_bits.specs.Members.{has-places_where}
use Rattle.sp_bits.proofs.Sets.{places_same, filter_same}
use Rattle.sp_dag.specs.Numbered.{AreInOrder, unrelated_below}
use Rattle.sp_dag.specs.Shapes.{shape_of, pairs_in}
use Rattle.sp_dag.specs.Rows.{is_reached}
use Rattle.sp_dag.proofs.Bools.{eqb_apart, or_false}
use Rattle.sp_dag.proofs.NewPairs.{range_more}
use Rattle.sp_dag.proofs.Keys.{block, shape_of-push, key_out, all_complete, in_past-absent}

-- the new block's parents are there
abbrev pub AreBefore : List ℕ → ℕ → Type 0
AreBefore ps n = (p : ℕ) → has ps p ≡ true → p < n

-- a block that was there keeps its past
pub past_old : (table : List (List ℕ)) (ps : List ℕ) (a z : ℕ) → AreInOrder table → z < length table → in_past (shape_of (table ++ ps ∷ [])) a z ≡ in_past (shape_of table) a z
past_old table ps a z order le =
    ap (λ (g : Graph). in_past g a z) (shape_of-push table ps) ∙ in_past-push (shape_of table) (block (length table) ps) a z (all_complete table order z le)

-- the new block isn't in the past of one that was there
pub past-no_new : (table : List (List ℕ)) (ps : List ℕ) (z : ℕ) → AreInOrder table → z < length table → in_past (shape_of (table ++ ps ∷ [])) (length table) z ≡ false
past-no_new table ps z order le =
    ap (λ (g : Graph). in_past g (length table) z) (shape_of-push table ps)
    ∙ new_in_no_past (shape_of table) (block (length table) ps) z (key_out table (length table) (omega arith)) (all_complete table order z le)

-- the past of the new block is read from the rows
pub past-new : (table pasts : List (List ℕ)) (ps : List ℕ) (a : ℕ) → AreInOrder table → AreBefore ps (length table) → length table ≤ 512 → a < 512
    → ((z : ℕ) → z < length table → get_or pasts z [] ≡ places_where (λ a. in_past (shape_of table) a z))
    → in_past (shape_of (table ++ ps ∷ [])) a (length table) ≡ is_reached pasts ps a
past-new table pasts ps a order before small le rows =
    ap (λ (g : Graph). in_past g a (length table)) (shape_of-push table ps)
    ∙ in_past-new (shape_of table) (block (length table) ps) a (key_out table (length table) (omega arith))
    (all_from (has (complete (shape_of table))) ps (λ p there. all_complete table order p (before p there)))
    ∙ any_same (λ p. eqb p a || in_past (shape_of table) a p) (λ p. eqb p a || has (get_or pasts p []) a) ps
    (λ p there. ap (λ (c : Bool). eqb p a || c)
    (sym (ap (λ (l : List ℕ). has l a) (rows p (before p there)) ∙ has-places_where (λ a. in_past (shape_of table) a p) a le)))

-- no place passes a test that none does
pub nowhere : places_where (λ _. false) ≡ []
unfolding places_where
nowhere = none 0 512
  where
    none : (a n : ℕ) → filter (λ _. false) (range_with_len a n) ≡ []
    none a zero = refl
    none a (suc n) = none (a + 1) n

-- pairs of blocks that were there stay
related-old : (table : List (List ℕ)) (ps : List ℕ) (x y : ℕ) → AreInOrder table → x < length table → y < length table
    → related (shape_of (table ++ ps ∷ [])) x y ≡ related (shape_of table) x y
related-old table ps x y order lx ly =
    ap (λ (c : Bool). not (eqb x y) && (c || in_past (shape_of (table ++ ps ∷ [])) y x)) (past_old table ps x y order ly)
    ∙ ap (λ (c : Bool). not (eqb x y) && (in_past (shape_of table) x y || c)) (past_old table ps y x order lx)

pub unrelated_old : (table : List (List ℕ)) (ps : List ℕ) (y : ℕ) → AreInOrder table → y < length table → unrelated_below (shape_of (table ++ ps ∷ [])) y ≡ unrelated_below (shape_of table) y
unrelated_old table ps y order ly =
    filter_same (λ x. not (related (shape_of (table ++ ps ∷ [])) x y)) (λ x. not (related (shape_of table) x y)) 0 y
    (λ x lx. ap not (related-old table ps x y order (omega arith) ly))

-- the blocks unrelated to the new one are those that aren't in its past
pub unrelated-new : (table : List (List ℕ)) (ps past : List ℕ) → AreInOrder table → ((x : ℕ) → x < length table → has past x ≡ in_past (shape_of (table ++ ps ∷ [])) x (length table))
    → unrelated_below (shape_of (table ++ ps ∷ [])) (length table) ≡ filter (λ x. not (has past x)) (range_with_len 0 (length table))
unrelated-new table ps past order row =
    filter_same (λ x. not (related (shape_of (table ++ ps ∷ [])) x (length table))) (λ x. not (has past x)) 0 (length table)
    (λ x lx. let inside : x < length table = omega arith in
    ap not (ap (λ (c : Bool). not c && (in_past (shape_of (table ++ ps ∷ [])) x (length table) || in_past (shape_of (table ++ ps ∷ [])) (length table) x)) (eqb_apart x (length table) inside)
    ∙ ap (λ (c : Bool). in_past (shape_of (table ++ ps ∷ [])) x (length table) || c) (past-no_new table ps x order inside)
    ∙ or_false (in_past (shape_of (table ++ ps ∷ [])) x (length table)) ∙ sym (row x inside)))

pub flat_map_same : (f g : ℕ → List (ℕ × ℕ)) (a n : ℕ) → ((y : ℕ) → y < a + n → f y ≡ g y) → flat_map f (range_with_len a n) ≡ flat_map g (range_with_len a n)
flat_map_same f g a zero h = refl
flat_map_same f g a (suc n) h =
    ap (λ (l : List (ℕ × ℕ)). l ++ flat_map f (range_with_len (a + 1) n)) (h a (omega arith))
    ∙ ap (λ (l : List (ℕ × ℕ)). g a ++ l) (flat_map_same f g (a + 1) n (λ y le. h y (omega arith)))

-- the pairs are those from before, and then the new block's
pub pairs_behind : (table : List (List ℕ)) (ps : List ℕ) → AreInOrder table
    → pairs_in (table ++ ps ∷ []) ≡ pairs_in table ++ map (λ x. (x, length table)) (unrelated_below (shape_of (table ++ ps ∷ [])) (length table))
pairs_behind table ps order =
    let after : ℕ → List (ℕ × ℕ) = λ y. map (λ x. (x, y)) (unrelated_below (shape_of (table ++ ps ∷ [])) y) in
    let before : ℕ → List (ℕ × ℕ) = λ y. map (λ x. (x, y)) (unrelated_below (shape_of table) y) in
    ap (λ (n : ℕ). flat_map after (range_with_len 0 n)) (length-append table (ps ∷ []) ∙ add-one (length table))
    ∙ ap (flat_map after) (range_more 0 (length table) (length table) (omega arith)) ∙ flat_map-append after (range_with_len 0 (length table)) (length table ∷ [])
    ∙ ap (λ (l : List (ℕ × ℕ)). l ++ flat_map after (length table ∷ []))
    (flat_map_same after before 0 (length table) (λ y ly. ap (map (λ x. (x, y))) (unrelated_old table ps y order (omega arith))))
    ∙ ap (λ (l : List (ℕ × ℕ)). flat_map before (range_with_len 0 (length table)) ++ l) (append-nil (after (length table)))

-- the same, by the row of the new block's past
pub pairs-grown : (table : List (List ℕ)) (ps past : List ℕ) → AreInOrder table → ((x : ℕ) → x < length table → has past x ≡ in_past (shape_of (table ++ ps ∷ [])) x (length table))
    → pairs_in (table ++ ps ∷ []) ≡ pairs_in table ++ map (λ x. (x, length table)) (filter (λ x. not (has past x)) (range_with_len 0 (length table)))
pairs-grown table ps past order row =
    pairs_behind table ps order ∙ ap (λ (l : List ℕ). pairs_in table ++ map (λ x. (x, length table)) l) (unrelated-new table ps past order row)

-- the past of another number than the new one stays
past-other : (table : List (List ℕ)) (ps : List ℕ) (a z : ℕ) → AreInOrder table → eqb z (length table) ≡ false → in_past (shape_of (table ++ ps ∷ [])) a z ≡ in_past (shape_of table) a z
past-other table ps a z order other =
    elim (cases_lt z (length table)) [
      | inl less ↦ past_old table ps a z order less
      | inr le ↦ (let apart : z ≢ length table = λ e. false≢true (sym other ∙ eq-eqb z (length table) e) in
          in_past-absent (shape_of (table ++ ps ∷ [])) a z (key_out (table ++ ps ∷ []) z (omega (arith, length-append table (ps ∷ []))))
          ∙ sym (in_past-absent (shape_of table) a z (key_out table z le)))
    ]

-- the future of a block gets the new one where that has the block in its past
pub future-grown : (table : List (List ℕ)) (ps past row : List ℕ) (a : ℕ) → AreInOrder table → length table < 512 → has past a ≡ in_past (shape_of (table ++ ps ∷ [])) a (length table)
    → row ≡ places_where (λ w. in_past (shape_of table) a w)
    → (if has past a then places_where (λ w. has row w || eqb w (length table)) else row) ≡ places_where (λ w. in_past (shape_of (table ++ ps ∷ [])) a w)
future-grown table ps past row a order small is rows = at (has past a) (sym is)
  where
    read : (w : ℕ) → w < 512 → has row w ≡ in_past (shape_of table) a w
    read w le = ap (λ (l : List ℕ). has l w) rows ∙ has-places_where (λ w. in_past (shape_of table) a w) w le

    or_true : (c : Bool) → (c || true) ≡ true
    or_true true = refl
    or_true false = refl

    by : (w : ℕ) (c e : Bool) → w < 512 → in_past (shape_of (table ++ ps ∷ [])) a (length table) ≡ c → eqb w (length table) ≡ e
        → cond c (in_past (shape_of table) a w || e) (in_past (shape_of table) a w) ≡ in_past (shape_of (table ++ ps ∷ [])) a w
    by w true true le new same = or_true (in_past (shape_of table) a w) ∙ sym new ∙ ap (in_past (shape_of (table ++ ps ∷ [])) a) (sym (eqb-true w (length table) same))
    by w false true le new same =
        in_past-absent (shape_of table) a w (key_out table w (let e : w ≡ length table = eqb-true w (length table) same in omega arith)) ∙ sym new
        ∙ ap (in_past (shape_of (table ++ ps ∷ [])) a) (sym (eqb-true w (length table) same))
    by w true false le new same = or_false (in_past (shape_of table) a w) ∙ sym (past-other table ps a w order same)
    by w false false le new same = sym (past-other table ps a w order same)

    at : (c : Bool) → in_past (shape_of (table ++ ps ∷ [])) a (length table) ≡ c
        → (if c then places_where (λ w. has row w || eqb w (length table)) else row) ≡ places_where (λ w. in_past (shape_of (table ++ ps ∷ [])) a w)
    at true new =
        places_same (λ w. has row w || eqb w (length table)) (λ w. in_past (shape_of (table ++ ps ∷ [])) a w)
        (λ w le. ap (λ (c : Bool). c || eqb w (length table)) (read w le) ∙ by w true (eqb w (length table)) le new refl)
    at false new = rows ∙ places_same (λ w. in_past (shape_of table) a w) (λ w. in_past (shape_of (table ++ ps ∷ [])) a w) (λ w le. by w false (eqb w (length table)) le new refl)

-- a table with one row more is in order
pub AreInOrder-push : (table : List (List ℕ)) (ps : List ℕ) → AreInOrder table → AreBefore ps (length table) → AreInOrder (table ++ ps ∷ [])
AreInOrder-push table ps order before z p there =
    elim (cases_lt z (length table)) [
      | inl less ↦ order z p (sym (ap (λ (l : List ℕ). has l p) (get_or-append table (ps ∷ []) [] z less)) ∙ there)
      | inr le ↦ elim (cases_lt (length table) z) [
        | inl past ↦ absurd (false≢true (sym (ap (λ (l : List ℕ). has l p) (get_or-eq_default (table ++ ps ∷ []) [] {n = z} (omega (arith, length-append table (ps ∷ []))))) ∙ there))
        | inr at ↦ (let same : z ≡ length table = omega arith in
            let read : get_or (table ++ ps ∷ []) z [] ≡ ps = ap (λ (k : ℕ). get_or (table ++ ps ∷ []) k []) same ∙ get_or-append_seam table ps [] [] in
            let below : p < length table = before p (sym (ap (λ (l : List ℕ). has l p) read) ∙ there) in omega arith)
      ]
    ]

-- the new block has no future
pub future-new : (table : List (List ℕ)) (ps : List ℕ) → AreInOrder table → AreBefore ps (length table) → [] ≡ places_where (λ w. in_past (shape_of (table ++ ps ∷ [])) (length table) w)
future-new table ps order before = sym nowhere ∙ places_same (λ _. false) (λ w. in_past (shape_of (table ++ ps ∷ [])) (length table) w) (λ w le. sym (by w (cases_lt w (length table))))
  where
    own : in_past (shape_of (table ++ ps ∷ [])) (length table) (length table) ≡ false
    own = at (in_past (shape_of (table ++ ps ∷ [])) (length table) (length table)) refl
      where
        at : (c : Bool) → in_past (shape_of (table ++ ps ∷ [])) (length table) (length table) ≡ c → c ≡ false
        at true e =
            absurd (not_in_own_past (shape_of (table ++ ps ∷ [])) (length table)
            (all_complete (table ++ ps ∷ []) (AreInOrder-push table ps order before) (length table) (omega (arith, length-append table (ps ∷ [])))) e)
        at false e = refl

    by : (w : ℕ) → ((w < length table) ⊎ (length table ≤ w)) → in_past (shape_of (table ++ ps ∷ [])) (length table) w ≡ false
    by w (inl less) = past-no_new table ps w order less
    by w (inr le) = at (eqb w (length table)) refl
      where
        at : (c : Bool) → eqb w (length table) ≡ c → in_past (shape_of (table ++ ps ∷ [])) (length table) w ≡ false
        at true e = ap (in_past (shape_of (table ++ ps ∷ [])) (length table)) (eqb-true w (length table) e) ∙ own
        at false e = past-other table ps (length table) w order e ∙ in_past-absent (shape_of table) (length table) w (key_out table w le)
