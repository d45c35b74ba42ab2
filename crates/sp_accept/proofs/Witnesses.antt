-- A carrier with rivals in a block from which they stand in its way from beside isn't accepted.
use Rattle.std.proofs.Common.{◌≡◌, ℕ, ◌<◌, Bool, true, false, ◌&&◌, not, List, length, Some, None, refl, sym, ap, subst, ◌∙◌, inl, inr, arith}
use Rattle.std.specs.Prelude.{IfSome, Option}
use Rattle.std.specs.List.{list_all}
use Rattle.std.proofs.lemmas.Bool.{false≢true, false_from_ne_true, not_from_false}
use Rattle.sp_bits.specs.Places.{places_where}
use Rattle.sp_bits.specs.Members.{has-places_where}
use Rattle.sp_bits.proofs.Counts.{has-small}
use Rattle.sp_model.specs.Graph.{has}
use Rattle.sp_dag.specs.Numbered.{Numbered}
use Rattle.sp_carry.specs.declared.carrier.Carrier.{Carrier}
use Rattle.sp_carry.specs.Carried.{Carried, IsCarried}
use Rattle.sp_carry.specs.RivalBlocks.{has_rival_in, rival_blocks}
use Rattle.sp_carry.proofs.Members.{member_of_all}
use Rattle.sp_accept.specs.Around.{is_unbeaten, IsAround}
use Rattle.sp_accept.specs.Pass.{inputs_at, is_next}
use Rattle.sp_accept.specs.Rows.{row_at, AreOf}
use Rattle.sp_accept.specs.Standing.{is_below}
use Rattle.sp_accept.specs.Witness.{holds, Decide, IsWitness}
use Rattle.sp_accept.proofs.Rowwise.{around_fewer, beaten_next, in_row, not_false}

-- not all blocks of the rivals are in a row without the witness
pub not_all : (table : Numbered) (z : ℕ) (rivals beaten : List ℕ) (w : ℕ) → IsWitness table z rivals beaten w → list_all (has beaten) rivals ≡ false
not_all table z rivals beaten w h =
    false_from_ne_true (list_all (has beaten) rivals) (λ all. false≢true (sym h.out ∙ member_of_all (has beaten) rivals w all (in_row rivals w h.there)))

-- so such rivals are found by the row, whatever it has beside
pub decided_beside : (table : Numbered) (k : Carried) (c : ℕ) (row : Carrier) (beaten : List ℕ) (w : ℕ) → row ≡ row_at k.rows c
    → IsWitness table (row_at k.rows c).block (rival_blocks k (row_at k.rows c).tx) beaten w → not (list_all (has beaten) (rival_blocks k row.tx)) ≡ false → ⊥
decided_beside table k c row beaten w is h off =
    false≢true
    (sym (not_all table (row_at k.rows c).block (rival_blocks k (row_at k.rows c).tx) beaten w h) ∙ ap (λ (r : Carrier). list_all (has beaten) (rival_blocks k r.tx)) (sym is)
    ∙ not_false (list_all (has beaten) (rival_blocks k row.tx)) off)

module _ (table : Numbered) (k : Carried) (carried : IsCarried k) (of : AreOf table k) (flags : List Bool) (c : ℕ) (lc : c < length k.rows) where
  abbrev block_of_c : ℕ
  block_of_c = (row_at k.rows c).block

  abbrev rivals_of_c : List ℕ
  rivals_of_c = rival_blocks k (row_at k.rows c).tx

  abbrev all_beaten : List ℕ
  all_beaten = places_where (λ v. not (is_unbeaten table block_of_c v))

  abbrev all_safe : List ℕ
  all_safe = places_where (λ v. not (is_unbeaten table block_of_c v) && not (is_below table v block_of_c))

  small : (v : ℕ) → v < length table.parents → v < 512
  small v lt = omega (arith, lt, of.long, carried.small)

  all_around : IsAround table block_of_c rivals_of_c all_beaten all_safe
  all_around = record {
    beaten_are = λ v lt _. has-places_where (λ v. not (is_unbeaten table block_of_c v)) v (small v lt);
    safe_are = λ v lt _. has-places_where (λ v. not (is_unbeaten table block_of_c v) && not (is_below table v block_of_c)) v (small v lt);
  }

  pub witness_next : (beaten : List ℕ) (w : ℕ) → IsWitness table block_of_c rivals_of_c beaten w → false ≡ is_next table k flags c
  witness_next beaten w h =
      beaten_next table k carried of flags c lc all_beaten all_safe all_around (row_at k.rows c) (inputs_at k (row_at k.rows c).tx) refl refl
      (not_from_false (list_all (has all_beaten) rivals_of_c) (not_all table block_of_c rivals_of_c all_beaten w (record {
        there = h.there;
        unbeaten = h.unbeaten;
        out =
            has-places_where (λ v. not (is_unbeaten table block_of_c v)) w (has-small (has_rival_in k (row_at k.rows c).tx) w h.there) ∙ ap not h.unbeaten;
      })))

-- the rows around a block decide on its carriers, of which those with rivals in the witness were left out
pub rows_decide : (table : Numbered) (block z : ℕ) (witness : Option ℕ) (rivals some beaten safe : List ℕ) → block ≡ z → IfSome witness (λ w. is_unbeaten table block w ≡ true)
    → (holds witness rivals ≡ false → (w : ℕ) → has rivals w ≡ true → has some w ≡ true) → IsAround table block some beaten safe
    → ((w : ℕ) → is_unbeaten table block w ≡ true → has beaten w ≡ false) → Decide table z rivals beaten safe
rows_decide table block z witness rivals some beaten safe same unbeaten within around out =
    subst (λ (b : ℕ). Decide table b rivals beaten safe) same (at (holds witness rivals) refl)
  where
    found : (v : Option ℕ) → IfSome v (λ w. is_unbeaten table block w ≡ true) → holds v rivals ≡ true → (w : ℕ) × IsWitness table block rivals beaten w
    found None _ h = absurd (false≢true h)
    found (Some w) u h = (w, record { there = h; unbeaten = u; out = out w u })

    at : (b : Bool) → holds witness rivals ≡ b → Decide table block rivals beaten safe
    at true h = inr (found witness unbeaten h)
    at false h = inl (around_fewer table block some rivals beaten safe (within h) around)
