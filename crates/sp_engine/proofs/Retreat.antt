-- What the view of all blocks was is saved while blocks join, and the blocks that joined are taken back.
use Rattle.std.proofs.Common.{◌≡◌, ℕ, ◌+◌, ◌<◌, ◌≤◌, ◌-◌, ◌&&◌, true, List, Option, Some, None, [], ◌∷◌, ◌++◌, length, map, get_or, inl, refl, sym, ap, subst, ◌∙◌, arith, length-append}
use Rattle.std.proofs.lemmas.List.{append_assoc}
use Rattle.std.specs.Prelude.{filter, IsSome, slice_get}
use Rattle.std.proofs.lemmas.Bool.{and_from, false≢true}
use Rattle.std.specs.List.{range_with_len}
use Rattle.sp_dag.specs.Numbered.{graph_of, Numbered, pairs_of}
use Rattle.sp_dag.proofs.Ranked.{pair_kind}
use Rattle.sp_model.specs.Graph.{has}
use Rattle.sp_frozen.specs.Voters.{AreRows}
use Rattle.sp_rows.specs.Pool.{Pool}
use Rattle.sp_rows.specs.Pool as counted
use Rattle.sp_view.specs.Saved.{patched}
use Rattle.sp_view.proofs.Held.{some_pair}
use Rattle.sp_view.proofs.Patched.{length_patched}
use Rattle.sp_view.specs.Stored.{count_of, row_of}
use Rattle.sp_view.specs.Summed.{AreSums}
use Rattle.sp_view.specs.Views.{entry_at, IsEntry, IsView, Viewed, held}
use Rattle.sp_engine.proofs.Covering.{few_views}
use Rattle.sp_engine.proofs.Ending.{EndsWith}
use Rattle.sp_engine.proofs.Ranges.{in_range}
use Rattle.sp_engine.proofs.SameLive.{live_same}
use Rattle.sp_engine.proofs.Sharing.{held_more, views_parts}
use Rattle.sp_engine.specs.Votes.{AreJoining, AreOfTips, AreSameRows, AreViews, AreVoted, AreVotedBeside, AreWhole, bar_row, HaveJoined, held_by, is_tip, Tallied}

module _ (table : Numbered) (n : ℕ) (old v : Tallied) (saved : List (Option (ℕ × ℕ))) (j : AreJoining table n old v saved) where
  -- what stands before the view of all blocks
  pub all_last : v.views ≡ (j.olds ++ j.joined) ++ j.all ∷ []
  all_last = j.is ∙ sym (append_assoc j.olds j.joined (j.all ∷ []))

  pub held_beside : (r : ℕ) → held_by v.views r + held saved r ≤ count_of v.rows r
  held_beside r = omega (arith, j.shared.counts r)

  pub saved_long : length saved ≤ length j.all.entries
  saved_long = j.saving.long

  pub saved_once : (r : ℕ) → held (patched saved j.all.entries) r ≤ 1
  saved_once r = omega (arith, j.once r, ap (λ (l : List (Option (ℕ × ℕ))). held l r) j.patched_is)

  -- the view of all blocks is put back
  module _ (put : List Viewed) (members : List ℕ) (own : members ≡ range_with_len 0 n)
      (made : put ≡ (j.olds ++ j.joined) ++ record { members = members; entries = patched saved j.all.entries } ∷ []) where
    back : (e : List (Option (ℕ × ℕ))) (m : List ℕ) → patched saved j.all.entries ≡ e → members ≡ m → put ≡ (j.olds ++ j.joined) ++ record { members = m; entries = e } ∷ []
    back e m entries_are members_are =
        made ∙ ap (λ (l : List (Option (ℕ × ℕ))). (j.olds ++ j.joined) ++ record { members = members; entries = l } ∷ []) entries_are
        ∙ ap (λ (l : List ℕ). (j.olds ++ j.joined) ++ record { members = l; entries = e } ∷ []) members_are

    pub put_parts : put ≡ j.olds ++ (j.joined ++ j.was ∷ [])
    put_parts = back j.was.entries j.was.members j.patched_is (own ∙ sym j.firsts) ∙ append_assoc j.olds j.joined (j.was ∷ [])

    pub tips_within : (tips : ℕ) → tips + 1 ≡ length old.views → tips < length put
    tips_within tips at =
        omega (arith, at, ap length j.old_is, length-append j.olds (j.was ∷ []), ap length put_parts, length-append j.olds (j.joined ++ j.was ∷ []), length-append j.joined (j.was ∷ []))

    pub tips_at : (tips : ℕ) → tips + 1 ≡ length old.views → tips ≡ length j.olds
    tips_at tips at = omega (arith, at, ap length j.old_is, length-append j.olds (j.was ∷ []))

    module _ (mid : Pool) (counts : (r : ℕ) → count_of mid r + held_by v.views r + held saved r ≡ count_of v.rows r + held_by put r) where
      pub held_mid : (r : ℕ) → held_by put r ≡ count_of mid r
      held_mid r = omega (arith, j.shared.counts r, counts r)

      pub same_rows : (left : List Viewed) (pool : Pool) → left ≡ j.olds ++ j.was ∷ [] → ((r : ℕ) → 0 < count_of mid r → row_of mid r ≡ row_of v.rows r)
          → ((r : ℕ) → count_of pool r + held_by put r ≡ count_of mid r + held_by left r) → ((r : ℕ) → 0 < count_of pool r → row_of pool r ≡ row_of mid r) → counted.AreRows 0 pool.rows → AreSameRows old.rows pool
      same_rows left pool left_is rows counts' rows' sound = record {
        live = live_same 0 0 pool.rows old.rows.rows sound j.sound now;
        counts = now;
        places = λ r some. rows' r (omega (arith, some, now r)) ∙ rows r (omega (arith, some, now r, counts' r, held_mid r, held_fewer r)) ∙ j.places r (omega (arith, some, j.counted r));
      }
        where
          as_old : (r : ℕ) → held_by left r ≡ held_by old.views r
          as_old r = ap (λ (l : List Viewed). held_by l r) (left_is ∙ sym j.old_is)

          now : (r : ℕ) → count_of pool r ≡ count_of old.rows r
          now r = omega (arith, counts' r, held_mid r, as_old r, j.counted r)

          held_fewer : (r : ℕ) → held_by left r ≤ held_by put r
          held_fewer r = omega (
            arith,
            ap (λ (l : List Viewed). held_by l r) left_is,
            ap (λ (l : List Viewed). held_by l r) put_parts,
            held_more j.olds (j.was ∷ []) r,
            held_more j.olds (j.joined ++ j.was ∷ []) r,
            held_more j.joined (j.was ∷ []) r,
          )

-- each pair of the table has rows in a view of all its blocks
module _ (table : Numbered) (v : Tallied) (view : Viewed) (voted : AreVoted table v) (ends : EndsWith v.frozen.blocks v.views view) where
  own : IsView table view v.rows
  own = (views_parts table v.rows v.frozen.blocks ends.front (view ∷ []) (subst (λ (l : List Viewed). AreViews table v.rows v.frozen.blocks l) ends.is voted.holds.views)).1.0

  inside : (x : ℕ) → x < length table.parents → has view.members x ≡ true
  inside x lt = ap (λ (l : List ℕ). has l x) ends.members ∙ in_range 0 v.frozen.blocks x (omega arith) (omega (arith, lt, voted.every))

  has_rows : (i : ℕ) → i < length view.entries → IsSome (entry_at view.entries i)
  has_rows i lt =
      let pair = get_or (pairs_of table) i (0, 0) in
      let at : slice_get (pairs_of table) i ≡ Some (pair.0, pair.1) = some_pair (pairs_of table) i (omega (arith, lt, own.few)) in
      let sound = pair_kind table i (pair.0, pair.1) at in
      by pair.0 pair.1 (entry_at view.entries i) (own.entry i pair.0 pair.1 at) (and_from (has view.members pair.0) (has view.members pair.1) (inside pair.0 (omega (arith, sound.order, sound.within))) (inside pair.1 sound.within))
    where
      by : (x y : ℕ) (entry : Option (ℕ × ℕ)) → IsEntry (graph_of table) view.members x y v.rows entry → (has view.members x && has view.members y) ≡ true → IsSome entry
      by x y None is both = absurd (false≢true (sym is ∙ both))
      by x y (Some e) is both = refl

  -- where none has joined yet
  pub began : (saved : List (Option (ℕ × ℕ))) → AreRows v.frozen → counted.AreRows 0 v.rows.rows → patched saved view.entries ≡ view.entries → ((r : ℕ) → held saved r ≡ 0) → HaveJoined table (length table.parents) v v saved
  began saved sound live same none =
      let summed : AreSums table view.members v.sums = subst (λ (l : List ℕ). AreSums table l v.sums) (sym (ends.members ∙ ap (range_with_len 0) voted.every)) voted.sums in
      let long : length saved ≡ length view.entries = sym (length_patched saved view.entries) ∙ ap length same in
      record {
        joining = record {
          frozen = voted.holds.frozen;
          before = voted.holds.frozen;
          rows = sound;
          count = voted.every;
          counted = λ r. omega (arith, voted.holds.shared.counts r);
          sound = live;
          tips = subst (λ (k : ℕ). AreOfTips table k v.since v.views) voted.every voted.holds.tips;
          later = omega (arith, voted.every);
          views = voted.holds.views;
          shared = record {
            few = omega (arith, long, own.few);
            once = λ r. omega (arith, none r);
            counts = λ r. omega (arith, none r, voted.holds.shared.counts r);
          };
          olds = ends.front;
          few = omega (arith, few_views table v.frozen.blocks v.since v.views voted.holds.tips (omega (arith, voted.every)), voted.every, ap length ends.is, length-append ends.front (view ∷ []));
          was = view;
          old_is = ends.is;
          firsts = ends.members ∙ ap (range_with_len 0) voted.every;
          asked = own.asked;
          once = own.once;
          joined = [];
          all = view;
          is = ends.is;
          saving = record { long = omega (arith, long); there = λ i lt. subst (λ (l : List (Option (ℕ × ℕ))). IsSome (entry_at l i)) (sym same) (has_rows i (omega (arith, lt, long))) };
          patched_is = same;
          places = λ r some. refl;
          sums = summed;
          sums_before = summed;
        };
        every = voted.every;
        from = length table.parents;
        from_is = inl (refl, refl);
        each = ap (λ (k : ℕ). map (bar_row table) (filter (is_tip table.parents) (range_with_len (length table.parents) k))) (let e : 0 ≡ length table.parents - length table.parents = omega arith in e);
        members = ends.members ∙ ap (range_with_len 0) voted.every;
        none = λ _. refl;
        one = λ more. absurd (omega (arith, more, voted.every));
      }

-- there is a view of all blocks
pub last_tips : (table : Numbered) (v : Tallied) → AreVoted table v → 0 < length v.views
last_tips table v voted = omega (arith, ap length voted.holds.tips.is, length-append voted.holds.tips.tips (voted.holds.tips.all ∷ []))

-- so all blocks have votes, before and after
pub whole_of : (table : Numbered) (v : Tallied) (saved : List (Option (ℕ × ℕ))) → AreVotedBeside table v saved → AreWhole table v
whole_of table v saved voted = record {
  frozen = voted.holds.frozen;
  views = voted.holds.views;
  every = voted.every;
  front = voted.holds.tips.tips;
  all = voted.holds.tips.all;
  is = voted.holds.tips.is;
  members = voted.holds.tips.members ∙ ap (range_with_len 0) voted.every;
  sums = voted.sums;
}

pub whole_joined : (table : Numbered) (n : ℕ) (old v : Tallied) (saved : List (Option (ℕ × ℕ))) → HaveJoined table n old v saved → AreWhole table v
whole_joined table n old v saved h = record {
  frozen = h.joining.frozen;
  views = h.joining.views;
  every = h.every;
  front = h.joining.olds ++ h.joining.joined;
  all = h.joining.all;
  is = all_last table n old v saved h.joining;
  members = h.members;
  sums = subst (λ (l : List ℕ). AreSums table l v.sums) h.members h.joining.sums;
}
