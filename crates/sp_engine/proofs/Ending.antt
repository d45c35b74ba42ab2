-- The view of all blocks, as the last of the views: it takes a new block, and the new tip's view comes before it.
use Rattle.std.proofs.Common.{◌≡◌, ℕ, ◌+◌, ◌-◌, ◌<◌, ◌≤◌, true, false, ◌||◌, List, [], ◌∷◌, ◌++◌, length, get_or, set, take, drop, Option, refl, sym, ap, subst, ◌∙◌, eqb, inl, inr, arith, length-append}
use Rattle.std.specs.List.{range_with_len}
use Rattle.std.proofs.lemmas.Bool.{cases_lt, false≢true}
use Rattle.sp_bits.specs.Places.{places_where}
use Rattle.sp_dag.specs.Numbered.{Numbered, graph_of, AreInOrder}
use Rattle.sp_dag.proofs.Ranked.{ancestors_lower}
use Rattle.sp_model.specs.Graph.{has, in_past}
use Rattle.sp_rows.specs.Pool.{Pool}
use Rattle.sp_view.specs.Saved.{AreCountedWith, IsSaving, patched}
use Rattle.sp_view.proofs.Patched.{held_saved, length_patched}
use Rattle.sp_view.specs.Stored.{count_of, row_of}
use Rattle.sp_view.specs.Views.{AreKeptIds, Viewed, held, IsView}
use Rattle.sp_engine.specs.Votes.{held_by, AreShared, AreViews, IsLast, IsPut}
use Rattle.sp_engine.proofs.Ranges.{in_range, past_range, row_more}
use Rattle.sp_engine.proofs.Sharing.{held_more, views_more, views_move, views_parts}

-- the last view is this one, of all blocks below a number
pub record EndsWith (n : ℕ) (views : List Viewed) (view : Viewed) : Type 0 where
  pub front : List Viewed
  pub is : views ≡ front ++ view ∷ []
  pub members : view.members ≡ range_with_len 0 n

last_long : (n : ℕ) (views : List Viewed) → IsLast n views → 0 < length views
last_long n views last = omega (arith, ap length last.is, length-append last.front (last.all ∷ []))

last_at : (front : List Viewed) (view d : Viewed) → get_or (front ++ view ∷ []) (length front) d ≡ view
last_at [] view d = refl
last_at (v ∷ vs) view d = last_at vs view d

pub ends_with : (n : ℕ) (views : List Viewed) (k : ℕ) (view : Viewed) → IsLast n views → k + 1 ≡ length views → view ≡ get_or views k view → EndsWith n views view
ends_with n views k view last le at =
    let place : k ≡ length last.front = omega (arith, le, ap length last.is, length-append last.front (last.all ∷ [])) in
    let same : view ≡ last.all = at ∙ ap (λ (i : ℕ). get_or views i view) place ∙ ap (λ (l : List Viewed). get_or l (length last.front) view) last.is ∙ last_at last.front last.all view in
    subst (λ (v : Viewed). EndsWith n views v) (sym same) (record { front = last.front; is = last.is; members = last.members })

-- what the last place of some views is, and what stands there
pub record IsAtEnd (b k : ℕ) (views : List Viewed) (view : Viewed) : Type 0 where
  pub place : k + 1 ≡ length views
  pub ends : EndsWith b views view

-- there is one, whatever the last block's number is
pub some_there : (table : Numbered) (len : ℕ) (views : List Viewed) → len ≡ length table.parents → 0 < length table.parents → ((b : ℕ) → b + 1 ≡ length table.parents → IsLast b views) → 0 < length views
some_there table len views is some last = last_long (len - 1) views (last (len - 1) (omega (arith, is, some)))

pub at_end : (table : Numbered) (len long : ℕ) (views : List Viewed) (view : Viewed) → len ≡ length table.parents → 0 < length table.parents → long ≡ length views
    → ((b : ℕ) → b + 1 ≡ length table.parents → IsLast b views) → view ≡ get_or views (long - 1) view → IsAtEnd (len - 1) (long - 1) views view
at_end table len long views view is some all last at =
    let own : IsLast (len - 1) views = last (len - 1) (omega (arith, is, some)) in
    let place : long - 1 + 1 ≡ length views = omega (arith, all, last_long (len - 1) views own) in
    record { place = place; ends = ends_with (len - 1) views (long - 1) view own place at }

set_last : (front : List Viewed) (view new : Viewed) → set (front ++ view ∷ []) (length front) new ≡ front ++ new ∷ []
set_last [] view new = refl
set_last (v ∷ vs) view new = ap (λ (l : List Viewed). v ∷ l) (set_last vs view new)

take_front : (front : List Viewed) (rest : List Viewed) → take (length front) (front ++ rest) ≡ front
take_front [] rest = refl
take_front (v ∷ vs) rest = ap (λ (l : List Viewed). v ∷ l) (take_front vs rest)

drop_front : (front : List Viewed) (rest : List Viewed) → drop (length front) (front ++ rest) ≡ rest
drop_front [] rest = refl
drop_front (v ∷ vs) rest = drop_front vs rest

-- the changed last view, and another one before it
pub put_before : (n : ℕ) (views : List Viewed) (k : ℕ) (view new tip : Viewed) (ends : EndsWith n views view) → k + 1 ≡ length views
    → take k (set views k new) ++ tip ∷ drop k (set views k new) ≡ ends.front ++ tip ∷ new ∷ []
put_before n views k view new tip ends le =
    let place : k ≡ length ends.front = omega (arith, le, ap length ends.is, length-append ends.front (view ∷ [])) in
    let items : set views k new ≡ ends.front ++ new ∷ [] = ap (λ (i : ℕ). set views i new) place ∙ ap (λ (l : List Viewed). set l (length ends.front) new) ends.is ∙ set_last ends.front view new in
    ap (λ (l : List Viewed). take k l ++ tip ∷ drop k l) items
    ∙ ap (λ (i : ℕ). take i (ends.front ++ new ∷ []) ++ tip ∷ drop i (ends.front ++ new ∷ [])) place
    ∙ ap (λ (l : List Viewed). l ++ tip ∷ drop (length ends.front) (ends.front ++ new ∷ [])) (take_front ends.front (new ∷ []))
    ∙ ap (λ (l : List Viewed). ends.front ++ tip ∷ l) (drop_front ends.front (new ∷ []))

module _ (table : Numbered) (pool : Pool) (b n : ℕ) (views : List Viewed) (view tip : Viewed) (ends : EndsWith b views view) (are : AreViews table pool n (tip ∷ views)) where
  in_parts : AreViews table pool n ends.front × AreViews table pool n (view ∷ [])
  in_parts = views_parts table pool n ends.front (view ∷ []) (subst (λ (l : List Viewed). AreViews table pool n l) ends.is are.2)

  pub last_view : IsView table view pool
  last_view = in_parts.1.0

  pub last_below : (z : ℕ) → has view.members z ≡ true → z < n
  last_below = in_parts.1.1

  pub last_new : has view.members b ≡ false
  last_new = ap (λ (l : List ℕ). has l b) ends.members ∙ past_range 0 b b (omega arith)

  pub last_past : AreInOrder table.parents → b < length table.parents → (z : ℕ) → in_past (graph_of table) z b ≡ true → has view.members z ≡ true
  last_past order lt z r = (let less : z < b = ancestors_lower table z b order lt r in ap (λ (l : List ℕ). has l z) ends.members ∙ in_range 0 b z (omega arith) (omega (arith, less)))

  parts_held : (r : ℕ) → held_by (tip ∷ views) r ≡ held tip.entries r + (held_by ends.front r + held view.entries r)
  parts_held r = (let e : held_by views r ≡ held_by ends.front r + held_by (view ∷ []) r = ap (λ (l : List Viewed). held_by l r) ends.is ∙ held_more ends.front (view ∷ []) r in omega (arith, e))

  module _ (pool' : Pool) (new : Viewed) (saved saved' : List (Option (ℕ × ℕ))) (shared : AreShared table pool (tip ∷ views) saved)
      (grown : AreCountedWith pool pool' view.entries saved new.entries saved') (others : (r : ℕ) → held view.entries r < count_of pool r → row_of pool' r ≡ row_of pool r) where
    pub shared_put : patched saved' new.entries ≡ patched saved view.entries → ((r : ℕ) → held (patched saved view.entries) r ≤ 1) → AreShared table pool' (ends.front ++ tip ∷ new ∷ []) saved'
    shared_put same once = record {
      few = omega (arith, shared.few, length_patched saved view.entries, length_patched saved' new.entries, ap length same);
      once = λ r. omega (arith, held_saved saved' new.entries r, ap (λ (l : List (Option (ℕ × ℕ))). held l r) same, once r);
      counts = λ r. omega (arith, shared.counts r, grown r, parts_held r, held_more ends.front (tip ∷ new ∷ []) r);
    }

    pub views_after : IsView table new pool' → ((z : ℕ) → has new.members z ≡ true → z < n) → AreViews table pool' n (ends.front ++ tip ∷ new ∷ [])
    views_after is below =
        let tips : AreViews table pool' n (tip ∷ ends.front) =
        views_move table pool n pool' (tip ∷ ends.front)
        (λ r. omega (arith, shared.counts r, grown r, parts_held r))
        (λ r some. others r (omega (arith, some, shared.counts r, parts_held r)))
        (are.0, are.1, in_parts.0) in
        views_more table pool' n ends.front (tip ∷ new ∷ []) tips.2 (tips.0, tips.1, (is, below, tt))

  pub members_after : (new : Viewed) → b < 512 → new.members ≡ places_where (λ p. has view.members p || eqb p b) → new.members ≡ range_with_len 0 (b + 1)
  members_after new le is = is ∙ row_more view.members b le ends.members

  pub below_after : (new : Viewed) → b + 1 ≡ n → new.members ≡ range_with_len 0 (b + 1) → (z : ℕ) → has new.members z ≡ true → z < n
  below_after new at is z h = elim (cases_lt z n) [
    | inl less ↦ less
    | inr more ↦ absurd (false≢true (sym (past_range 0 (b + 1) z (omega (arith, more, at))) ∙ ap (λ (l : List ℕ). has l z) (sym is) ∙ h))
  ]

  pub is_put : (items : List Viewed) (new : Viewed) (saved saved' : List (Option (ℕ × ℕ))) → items ≡ ends.front ++ tip ∷ new ∷ [] → new.members ≡ range_with_len 0 (b + 1)
      → AreKeptIds table view.members new.members view.entries new.entries → IsSaving saved' new.entries → patched saved' new.entries ≡ patched saved view.entries → IsPut table b views tip items saved saved'
  is_put items new saved saved' is members kept saving same = record {
    front = ends.front;
    all = view;
    more = new;
    old_is = ends.is;
    new_is = is;
    members = members;
    kept = kept;
    saving = saving;
    patched_is = same;
  }
