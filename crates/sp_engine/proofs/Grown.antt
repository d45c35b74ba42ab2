-- One block has joined the votes, the views of its parents are let go, and what was saved of the view of all blocks: the votes grew by it.
use Rattle.std.proofs.Common.{◌≡◌, ◌⊎◌, ℕ, ◌+◌, ◌-◌, ◌<◌, ◌≤◌, Bool, true, false, cond, List, [], ◌∷◌, ◌++◌, length, map, take, get_or, Option, Some, refl, sym, ap, subst, ◌∙◌, inl, inr, arith, length-append}
use Rattle.std.specs.Prelude.{filter, not, slice_get}
use Rattle.std.specs.List.{list_any, range_with_len}
use Rattle.std.proofs.lemmas.Bool.{cases_lt, false≢true, false_from_ne_true}
use Rattle.std.proofs.lemmas.List.Elements.{filter-append}
use Rattle.std.proofs.lemmas.Option.{slice_get_within}
use Rattle.sp_bits.specs.Places.{IsGreatest}
use Rattle.sp_dag.specs.Numbered.{AreInOrder, Numbered}
use Rattle.sp_model.specs.Graph.{has}
use Rattle.sp_view.specs.Homes.{IsHome}
use Rattle.sp_view.specs.Views.{AreKeptIds, entry_at, Viewed}
use Rattle.sp_view.specs.Stored.{count_of}
use Rattle.sp_engine.specs.Votes.{AreLeft, bar_row, Grew, HaveJoined, held_by, is_tip, is_top_tip, is_uncovered, IsDerived, IsOfAll, IsOfTip, JoinedAlone, Tallied, tips_from, WereMany}
use Rattle.sp_engine.proofs.Bars.{any_at, one_top, top_of_bar}
use Rattle.sp_engine.proofs.Covering.{all_is, behind, in_front, of_tip, passed, passes}
use Rattle.sp_engine.proofs.Homes.{home_keeps}
use Rattle.sp_engine.proofs.StillTips.{bar_stays, last_tip}
use Rattle.sp_engine.proofs.TopTips.{any_place}

-- a tip that the next block hasn't as a parent is one still
tip_still : (table : Numbered) (n t : ℕ) → n + 1 ≡ length table.parents → is_tip (take n table.parents) t ≡ true → has (get_or table.parents n []) t ≡ false → is_tip table.parents t ≡ true
tip_still table n t last tip none =
    ap not (false_from_ne_true (list_any (λ ps. has ps t) table.parents) (λ h.
    let child = any_place (λ ps. has ps t) table.parents h in
    elim (cases_lt child.0 n) [
      | inl less ↦ absurd (false≢true (sym (ap not (any_at (λ ps. has ps t) table.parents n child.0 less child.1 child.2)) ∙ tip))
      | inr more ↦
          let same : child.0 ≡ n = omega (arith, more, child.1, last) in
          absurd (false≢true (sym none ∙ ap (λ (k : ℕ). has (get_or table.parents k []) t) (sym same) ∙ child.2))
    ]))

first_of : (x y : List ℕ) → x ∷ [] ≡ y ∷ [] → x ≡ y
first_of x y e = cc

module _ (table : Numbered) (order : AreInOrder table.parents) (small : length table.parents ≤ 512) (n : ℕ) (last : n + 1 ≡ length table.parents)
    (old v new : Tallied) (saved : List (Option (ℕ × ℕ))) (h : HaveJoined table n old v saved) (firsts : List Viewed) (home : Viewed) (all_olds : firsts ≡ h.joining.olds)
    (alike : home.members ≡ h.joining.all.members) (goes : (i : ℕ) → IsHome (entry_at saved i) (entry_at h.joining.all.entries i) (entry_at home.entries i))
    (lets : AreLeft table [] (filter (is_uncovered table) (firsts ++ h.joining.joined)) home v.since v.since new.rows new.views new.since) (since_is : new.since ≡ lets.from')
    (counts : (r : ℕ) → count_of new.rows r ≡ held_by new.views r) where
  joined : (tip : Viewed) × (h.joining.joined ≡ tip ∷ []) × (v.since ≡ old.since) × JoinedAlone table n old.views h.joining.was tip h.joining.all
  joined = h.one (omega (arith, h.every, last))

  abbrev tip : Viewed
  tip = joined.0

  abbrev was : Viewed
  was = h.joining.was

  abbrev olds : List Viewed
  olds = h.joining.olds

  abbrev all : Viewed
  all = h.joining.all

  abbrev left : List Viewed
  left = filter (is_uncovered table) olds

  own : tip.members ≡ bar_row table n
  own = first_of tip.members (bar_row table n) (
      ap (map (λ (view : Viewed). view.members)) (sym joined.1) ∙ h.each
      ∙ ap (λ (k : ℕ). map (bar_row table) (tips_from table.parents k)) from_n
      ∙ ap (λ (k : ℕ). map (bar_row table) (filter (is_tip table.parents) (range_with_len n k))) (let one : length table.parents - n ≡ 1 = omega (arith, last) in one)
      ∙ ap (λ (c : Bool). map (bar_row table) (cond c (n ∷ []) [])) (last_tip table order small n last)
      )
    where
      from_n : h.from ≡ n
      from_n = elim h.from_is [
        | inl same ↦ same.0
        | inr more ↦ (let least : old.since ≤ n = omega (arith, h.joining.tips.within) in absurd (omega (arith, more.0, more.1, joined.2, least)))
      ]

  -- what stood there before the oldest views were let go
  before_is : filter (is_uncovered table) (firsts ++ h.joining.joined) ≡ left ++ tip ∷ []
  before_is =
      let stays : is_uncovered table tip ≡ true = ap (is_top_tip table) own ∙ bar_stays table order small n (omega (arith, last)) ∙ last_tip table order small n last in
      ap (λ (l : List Viewed). filter (is_uncovered table) (l ++ h.joining.joined)) all_olds
      ∙ ap (λ (l : List Viewed). filter (is_uncovered table) (olds ++ l)) joined.1
      ∙ filter-append (is_uncovered table) olds (tip ∷ [])
      ∙ ap (λ (c : Bool). left ++ cond c (tip ∷ []) []) stays

  old_long : length old.views ≡ length olds + 1
  old_long = omega (arith, ap length h.joining.old_is, length-append h.joining.olds (was ∷ []))

  new_long : length new.views ≡ length lets.left + 1
  new_long = omega (arith, ap length lets.is, length-append lets.left (home ∷ []))

  -- an old view before the last one is that of a tip
  old_tip : (i : ℕ) (view : Viewed) → slice_get old.views i ≡ Some view → i < length olds → (t : ℕ) × (t < n) × (is_tip (take n table.parents) t ≡ true) × (view.members ≡ bar_row table t)
  old_tip i view at lt = of_tip table n old.since old.views i view h.joining.tips (omega (arith, last)) at (omega (arith, lt, old_long))

  was_all : (view : Viewed) → IsOfAll old view → view ≡ was
  was_all view at = all_is old h.joining.olds was view h.joining.old_is at

  is_home : (view : Viewed) → IsOfAll new view → view ≡ home
  is_home view at = all_is new lets.left home view lets.is at

  kept : AreKeptIds table was.members home.members was.entries home.entries
  kept =
      subst (λ (l : List ℕ). AreKeptIds table was.members l was.entries home.entries) (sym alike)
      (home_keeps table was.members all.members saved was.entries all.entries home.entries h.joining.patched_is goes joined.3.kept)

  -- of those that stood there each is the new tip's or an old one
  from_before : (i : ℕ) (view : Viewed) → slice_get (filter (is_uncovered table) (firsts ++ h.joining.joined)) i ≡ Some view
      → ((j : ℕ) × (j < length olds) × (slice_get old.views j ≡ Some view)) ⊎ (view ≡ tip)
  from_before i view at =
      let here : slice_get (left ++ tip ∷ []) i ≡ Some view = ap (λ (l : List Viewed). slice_get l i) (sym before_is) ∙ at in
      let within : i < length (left ++ tip ∷ []) = slice_get_within (left ++ tip ∷ []) i view here in
      elim (cases_lt i (length left)) [
        | inl less ↦
            let found = passed (is_uncovered table) olds i view (sym (in_front left (tip ∷ []) i less) ∙ here) in
            let place : found.0 < length olds = slice_get_within olds found.0 view found.1 in
            inl (found.0, place, ap (λ (l : List Viewed). slice_get l found.0) h.joining.old_is ∙ in_front olds (was ∷ []) found.0 place ∙ found.1)
        | inr more ↦
            let there : slice_get (tip ∷ []) 0 ≡ Some view = sym (behind left (tip ∷ []) i 0 (omega (arith, more, within, length-append left (tip ∷ [])))) ∙ here in
            let e : tip ≡ view = cc in inr (sym e)
      ]

  -- what is left stands before the view of all blocks
  in_new : (i : ℕ) (view : Viewed) → slice_get lets.left i ≡ Some view → (slice_get new.views i ≡ Some view) × (i + 1 < length new.views)
  in_new i view at =
      let place : i < length lets.left = slice_get_within lets.left i view at in (
        ap (λ (l : List Viewed). slice_get l i) lets.is ∙ in_front lets.left (home ∷ []) i place ∙ at,
        omega (arith, place, new_long),
      )

  is_new_tip : (view : Viewed) → IsOfTip table new n view → view ≡ tip
  is_new_tip view at =
      let less : at.0 < length lets.left = omega (arith, at.2, new_long) in
      let here : slice_get lets.left at.0 ≡ Some view = sym (in_front lets.left (home ∷ []) at.0 less) ∙ ap (λ (l : List Viewed). slice_get l at.0) (sym lets.is) ∙ at.1 in
      let found = lets.there at.0 view here in
      elim (from_before found.0 view found.1) [
        | inl there ↦
            let one = old_tip there.0 view there.2 there.1 in
            let same : n ≡ one.0 = one_top table order small view.members one.0 n (omega (arith, one.1, last)) one.3 (subst (λ (l : List ℕ). IsGreatest l n) (sym at.3) (top_of_bar table order small n (omega (arith, last)))) in
            absurd (omega (arith, same, one.1))
        | inr mine ↦ mine
      ]

  other_stays : (k : ℕ) (view : Viewed) → k < n → new.since ≤ k → IsOfTip table old k view → has (get_or table.parents n []) k ≡ false → IsOfTip table new k view
  other_stays k view lt later at none =
      let within : at.0 < length olds = omega (arith, at.2, old_long) in
      let one = old_tip at.0 view at.1 within in
      let same : k ≡ one.0 = one_top table order small view.members one.0 k (omega (arith, one.1, last)) one.3 (subst (λ (l : List ℕ). IsGreatest l k) (sym at.3) (top_of_bar table order small k (omega (arith, lt, last)))) in
      let stays : is_uncovered table view ≡ true =
      ap (is_top_tip table) at.3 ∙ bar_stays table order small k (omega (arith, lt, last))
      ∙ tip_still table n k last (ap (is_tip (take n table.parents)) same ∙ one.2) none in
      let in_it : slice_get olds at.0 ≡ Some view = sym (in_front olds (was ∷ []) at.0 within) ∙ ap (λ (l : List Viewed). slice_get l at.0) (sym h.joining.old_is) ∙ at.1 in
      let found = passes (is_uncovered table) olds at.0 view in_it stays in
      let place : found.0 < length left = slice_get_within left found.0 view found.1 in
      let there : slice_get (filter (is_uncovered table) (firsts ++ h.joining.joined)) found.0 ≡ Some view = ap (λ (l : List Viewed). slice_get l found.0) before_is ∙ in_front left (tip ∷ []) found.0 place ∙ found.1 in
      let still = lets.stay found.0 k view there at.3 (omega (arith, lt, last)) (omega (arith, later, since_is)) in
      let put = in_new still.0 view still.1 in (still.0, put.0, put.1, at.3)

  since_later : old.since ≤ new.since
  since_later = elim lets.later [
    | inl same ↦ omega (arith, same.1, joined.2)
    | inr later ↦ omega (arith, later.0, later.1, joined.2)
  ]

  were_many : old.since < new.since → (t : ℕ) × (other : Viewed) × (t + 1 ≡ new.since) × IsOfTip table old t other × WereMany new.views other
  were_many less =
      let most : lets.from' < length table.parents = elim lets.later [
        | inl same ↦ absurd (omega (arith, same.1, joined.2, less))
        | inr later ↦ later.2
      ] in
      let one = lets.many (omega (arith, less, since_is, joined.2)) in
      elim (from_before one.1 one.2 one.4) [
        | inl there ↦ (
          one.0,
          one.2,
          omega (arith, one.3, since_is),
          (there.0, there.2, omega (arith, there.1, old_long), one.5),
          record { pool = one.6.pool; rows = one.6.sound; counts = λ r. omega (arith, one.6.counts r, counts r); more = one.6.more },
        )
        | inr mine ↦
            let same : n ≡ one.0 = one_top table order small (bar_row table one.0) one.0 n (omega (arith, one.3, most)) refl
            (subst (λ (l : List ℕ). IsGreatest l n) (sym own ∙ ap (λ (w : Viewed). w.members) (sym mine) ∙ one.5) (top_of_bar table order small n (omega (arith, last)))) in
            absurd (omega (arith, same, one.3, most, last))
      ]

  pub grew : Grew table n old new
  grew = record {
    all = λ view view' at at'.
        subst (λ (x : Viewed). AreKeptIds table x.members view'.members x.entries view'.entries) (sym (was_all view at))
        (subst (λ (x : Viewed). AreKeptIds table was.members x.members was.entries x.entries) (sym (is_home view' at')) kept);
    tip = λ i base view best at. subst (λ (x : Viewed). IsDerived table n old.views x) (sym (is_new_tip view at)) joined.3.derived i base best;
    since = since_later;
    others = other_stays;
    many = were_many;
  }
