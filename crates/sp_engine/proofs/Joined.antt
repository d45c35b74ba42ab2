-- A block joins the votes, behind those of the arrival that did.
use Rattle.std.proofs.Common.{◌≡◌, ℕ, ◌+◌, ◌<◌, ◌≤◌, Bool, true, cond, List, [], ◌∷◌, ◌++◌, length, map, take, Option, refl, sym, ap, subst, ◌∙◌, inl, inr, arith, length-append}
use Rattle.std.proofs.lemmas.Bool.{cases_lt}
use Rattle.std.specs.Prelude.{filter}
use Rattle.std.specs.List.{range_with_len}
use Rattle.std.proofs.lemmas.List.{append_assoc, length-map, map-append}
use Rattle.std.proofs.lemmas.List.Elements.{filter-append}
use Rattle.sp_dag.specs.Numbered.{AreInOrder, Numbered}
use Rattle.sp_frozen.specs.Voters.{HoldsFrozen}
use Rattle.sp_rows.specs.Pool.{Pool}
use Rattle.sp_view.specs.Stored.{count_of, row_of}
use Rattle.sp_view.specs.Summed.{AreSums}
use Rattle.sp_view.specs.Views.{AreKeptIds, held, Viewed}
use Rattle.sp_view.specs.Saved.{patched}
use Rattle.sp_view.proofs.Patched.{held_patched}
use Rattle.sp_engine.specs.Votes.{AreShared, AreViews, bar_row, HaveJoined, HaveJoinedBut, held_by, is_tip, is_top_tip, is_uncovered, IsDerived, IsLast, IsPut, JoinedAlone, Tallied, tips_from}
use Rattle.sp_engine.proofs.Covering.{filter_map, filter_rows, snoc}
use Rattle.sp_engine.proofs.Sharing.{held_more}
use Rattle.sp_engine.proofs.StillTips.{all_stays, bar_stays, last_tip, tips_few, tips_more, tips_within}

no_items : (xs : List Viewed) → length xs ≡ 0 → xs ≡ []
no_items [] e = refl
no_items (x ∷ xs) e = absurd (omega (arith, e))

module _ (table : Numbered) (n : ℕ) (old v : Tallied) (saved : List (Option (ℕ × ℕ))) where
  module _ (h : HaveJoinedBut table n old v saved) where
    from_least : n ≤ h.from
    from_least = elim h.from_is [
      | inl same ↦ omega (arith, same.0)
      | inr later ↦ omega (arith, later.0)
    ]

    from_most : h.from ≤ v.frozen.blocks
    from_most = elim h.from_is [
      | inl same ↦ omega (arith, same.0, h.joining.later)
      | inr later ↦ omega (arith, later.2)
    ]

    -- there are no more views than blocks and one
    pub few_joined : length v.views ≤ v.frozen.blocks + 1
    few_joined =
        omega (
          arith,
          h.joining.few,
          h.joining.later,
          ap length h.joining.is,
          length-append h.joining.olds (h.joining.joined ++ h.joining.all ∷ []),
          length-append h.joining.joined (h.joining.all ∷ []),
          length-map h.joining.joined (λ (view : Viewed). view.members),
          ap length h.each,
          length-map (tips_from (take v.frozen.blocks table.parents) h.from) (bar_row table),
          tips_few table.parents h.from v.frozen.blocks (omega (arith, h.last)),
          from_least,
        )

    pub last_is : (b : ℕ) → b + 1 ≡ length table.parents → IsLast b v.views
    last_is b at = record {
      front = h.joining.olds ++ h.joining.joined;
      all = h.joining.all;
      is = h.joining.is ∙ sym (append_assoc h.joining.olds h.joining.joined (h.joining.all ∷ []));
      members = h.members ∙ ap (range_with_len 0) (let e : v.frozen.blocks ≡ b = omega (arith, at, h.last) in e);
    }

    -- where none has joined before
    none_joined : v.frozen.blocks ≡ n → h.joining.joined ≡ []
    none_joined at = no_items h.joining.joined (omega (
      arith,
      at,
      length-map h.joining.joined (λ (view : Viewed). view.members),
      ap length h.each,
      length-map (tips_from (take v.frozen.blocks table.parents) h.from) (bar_row table),
      tips_few table.parents h.from v.frozen.blocks (omega (arith, h.last)),
      from_least,
    ))

    -- and none was let go
    none_gone : v.frozen.blocks ≡ n → v.since ≡ old.since
    none_gone at = elim h.from_is [
      | inl same ↦ same.1
      | inr later ↦ absurd (omega (arith, at, later.0, later.2))
    ]

    joined_alone : (tip all : Viewed) → IsDerived table v.frozen.blocks v.views tip → v.frozen.blocks ≡ n → AreKeptIds table h.joining.all.members all.members h.joining.all.entries all.entries → JoinedAlone table n old.views h.joining.was tip all
    joined_alone tip all kept at stays = record {
      kept = subst (λ (x : Viewed). AreKeptIds table x.members all.members x.entries all.entries) (h.none at) stays;
      derived =
          subst (λ (l : List Viewed). IsDerived table n l tip) (
          h.joining.is ∙ ap (λ (l : List Viewed). h.joining.olds ++ (l ++ h.joining.all ∷ [])) (none_joined at)
          ∙ ap (λ (x : Viewed). h.joining.olds ++ x ∷ []) (h.none at) ∙ sym h.joining.old_is
          ) (subst (λ (k : ℕ). IsDerived table k v.views tip) at kept);
    }

    -- the view of block b stands behind those that were there
    module _ (w : Tallied) (tip : Viewed) (saved' : List (Option (ℕ × ℕ))) (put : IsPut table v.frozen.blocks v.views tip w.views saved saved') where
      parts : (put.front ≡ h.joining.olds ++ h.joining.joined) × (put.all ≡ h.joining.all)
      parts = snoc put.front (h.joining.olds ++ h.joining.joined) put.all h.joining.all (sym put.old_is ∙ h.joining.is ∙ sym (append_assoc h.joining.olds h.joining.joined (h.joining.all ∷ [])))

      pub put_views : w.views ≡ h.joining.olds ++ ((h.joining.joined ++ tip ∷ []) ++ put.more ∷ [])
      put_views =
          put.new_is ∙ ap (λ (l : List Viewed). l ++ tip ∷ put.more ∷ []) parts.0 ∙ append_assoc h.joining.olds h.joining.joined (tip ∷ put.more ∷ [])
          ∙ ap (λ (l : List Viewed). h.joining.olds ++ l) (sym (append_assoc h.joining.joined (tip ∷ []) (put.more ∷ [])))

    module _ (w : Tallied) (tip : Viewed) (frozen : HoldsFrozen table w.frozen) (blocks : w.frozen.blocks ≡ v.frozen.blocks + 1)
        (saved' : List (Option (ℕ × ℕ))) (shared : AreShared table w.rows w.views saved') (put : IsPut table v.frozen.blocks v.views tip w.views saved saved')
        (places : (r : ℕ) (front : List Viewed) (all : Viewed) → v.views ≡ front ++ all ∷ [] → held all.entries r < count_of v.rows r → 0 < count_of w.rows r → row_of w.rows r ≡ row_of v.rows r)
        (saved_places : (r : ℕ) (front : List Viewed) (all : Viewed) → v.views ≡ front ++ all ∷ [] → 0 < held (patched saved all.entries) r → 0 < count_of w.rows r → row_of w.rows r ≡ row_of v.rows r) where
      ends : (put.front ≡ h.joining.olds ++ h.joining.joined) × (put.all ≡ h.joining.all)
      ends = parts w tip saved' put

      -- what it was is held still, by what is saved and by what stands there
      held_was : (r : ℕ) → held h.joining.was.entries r ≤ held saved' r + held put.more.entries r
      held_was r =
          let same : patched saved' put.more.entries ≡ h.joining.was.entries =
          put.patched_is ∙ ap (λ (x : Viewed). patched saved x.entries) ends.1 ∙ h.joining.patched_is in
          omega (arith, held_patched saved' put.more.entries r, ap (λ (l : List (Option (ℕ × ℕ))). held l r) same)

      still : (r : ℕ) → 0 < held_by old.views r → 0 < count_of w.rows r
      still r some = omega (
        arith,
        some,
        ap (λ (l : List Viewed). held_by l r) h.joining.old_is,
        held_more h.joining.olds (h.joining.was ∷ []) r,
        ap (λ (l : List Viewed). held_by l r) ends.0,
        held_more h.joining.olds h.joining.joined r,
        shared.counts r,
        ap (λ (l : List Viewed). held_by l r) put.new_is,
        held_more put.front (tip ∷ put.more ∷ []) r,
        held_was r,
      )

      put_places : (r : ℕ) → 0 < held_by old.views r → row_of w.rows r ≡ row_of old.rows r
      put_places r some =
          elim (cases_lt 0 (held_by h.joining.olds r)) [
            | inl there ↦ places r put.front put.all put.old_is
                (omega (
                  arith,
                  there,
                  ap (λ (l : List Viewed). held_by l r) ends.0,
                  held_more h.joining.olds h.joining.joined r,
                  h.joining.shared.counts r,
                  ap (λ (l : List Viewed). held_by l r) put.old_is,
                  held_more put.front (put.all ∷ []) r,
                ))
                (still r some)
            | inr none ↦ saved_places r put.front put.all put.old_is
                (omega (
                  arith,
                  some,
                  none,
                  ap (λ (l : List Viewed). held_by l r) h.joining.old_is,
                  held_more h.joining.olds (h.joining.was ∷ []) r,
                  ap (λ (l : List (Option (ℕ × ℕ))). held l r) (ap (λ (x : Viewed). patched saved x.entries) ends.1 ∙ h.joining.patched_is),
                ))
                (still r some)
          ]
          ∙ h.joining.places r some

      -- and those of the blocks that it covers are let go
      module _ (order : AreInOrder table.parents) (small : length table.parents ≤ 512) (own : tip.members ≡ bar_row table v.frozen.blocks) (kept : IsDerived table v.frozen.blocks v.views tip)
          (pool : Pool) (left : List Viewed) (left_is : left ≡ h.joining.olds ++ filter (is_uncovered table) ((h.joining.joined ++ tip ∷ []) ++ put.more ∷ []))
          (left_views : AreViews table pool w.frozen.blocks left) (counts : (r : ℕ) → count_of pool r + held_by w.views r ≡ count_of w.rows r + held_by left r)
          (rows : (r : ℕ) → 0 < count_of pool r → row_of pool r ≡ row_of w.rows r)
          (summed : AreSums table (range_with_len 0 (length table.parents)) w.sums) where
        abbrev rest : List Viewed
        rest = filter (is_uncovered table) h.joining.joined

        stay : filter (is_uncovered table) ((h.joining.joined ++ tip ∷ []) ++ put.more ∷ []) ≡ (rest ++ tip ∷ []) ++ put.more ∷ []
        stay =
            let last : is_uncovered table tip ≡ true =
            ap (is_top_tip table) own ∙ bar_stays table order small v.frozen.blocks (omega (arith, h.last)) ∙ last_tip table order small v.frozen.blocks h.last in
            let all : is_uncovered table put.more ≡ true =
            ap (is_top_tip table) (put.members ∙ ap (range_with_len 0) h.last) ∙ all_stays table order small v.frozen.blocks h.last in
            filter-append (is_uncovered table) (h.joining.joined ++ tip ∷ []) (put.more ∷ [])
            ∙ ap (λ (c : Bool). filter (is_uncovered table) (h.joining.joined ++ tip ∷ []) ++ cond c (put.more ∷ []) []) all
            ∙ ap (λ (l : List Viewed). l ++ put.more ∷ []) (
            filter-append (is_uncovered table) h.joining.joined (tip ∷ []) ∙ ap (λ (c : Bool). rest ++ cond c (tip ∷ []) []) last
            )

        left_parts : left ≡ h.joining.olds ++ ((rest ++ tip ∷ []) ++ put.more ∷ [])
        left_parts = left_is ∙ ap (λ (l : List Viewed). h.joining.olds ++ l) stay

        members : map (λ (view : Viewed). view.members) (rest ++ tip ∷ []) ≡ map (bar_row table) (tips_from table.parents h.from)
        members =
            let before : List ℕ = tips_from (take v.frozen.blocks table.parents) h.from in
            map-append (λ (view : Viewed). view.members) rest (tip ∷ [])
            ∙ ap (λ (l : List (List ℕ)). l ++ tip.members ∷ []) (
            filter_map (is_top_tip table) h.joining.joined ∙ ap (filter (is_top_tip table)) h.each
            ∙ filter_rows (is_top_tip table) (bar_row table) (is_tip table.parents) before
            (λ k there. bar_stays table order small k (tips_within table.parents h.from v.frozen.blocks k from_most (omega (arith, h.last)) there))
            )
            ∙ ap (λ (row : List ℕ). map (bar_row table) (filter (is_tip table.parents) before) ++ row ∷ []) own
            ∙ sym (map-append (bar_row table) (filter (is_tip table.parents) before) (v.frozen.blocks ∷ []))
            ∙ ap (map (bar_row table)) (tips_more table order small h.from v.frozen.blocks from_most h.last)

        held_left : (r : ℕ) → count_of pool r ≡ held saved' r + held_by left r
        held_left r = omega (arith, counts r, shared.counts r)

        pub joined_one : HaveJoined table n old (record { frozen = w.frozen; rows = pool; views = left; since = v.since; sums = w.sums }) saved'
        joined_one = record {
          joining = record {
            frozen = frozen;
            before = h.joining.before;
            rows = h.joining.rows;
            count = h.joining.count;
            counted = h.joining.counted;
            sound = h.joining.sound;
            tips = h.joining.tips;
            later = omega (arith, h.joining.later, blocks);
            views = left_views;
            shared = record { few = shared.few; once = shared.once; counts = held_left };
            olds = h.joining.olds;
            few = h.joining.few;
            was = h.joining.was;
            old_is = h.joining.old_is;
            firsts = h.joining.firsts;
            asked = h.joining.asked;
            once = h.joining.once;
            joined = rest ++ tip ∷ [];
            all = put.more;
            is = left_parts;
            saving = put.saving;
            patched_is = put.patched_is ∙ ap (λ (x : Viewed). patched saved x.entries) ends.1 ∙ h.joining.patched_is;
            places = λ r some.
                rows r (omega (
                  arith,
                  some,
                  held_left r,
                  ap (λ (l : List Viewed). held_by l r) h.joining.old_is,
                  held_more h.joining.olds (h.joining.was ∷ []) r,
                  ap (λ (l : List Viewed). held_by l r) left_parts,
                  held_more h.joining.olds ((rest ++ tip ∷ []) ++ put.more ∷ []) r,
                  held_more (rest ++ tip ∷ []) (put.more ∷ []) r,
                  held_was r,
                ))
                ∙ put_places r some;
            sums = subst (λ (l : List ℕ). AreSums table l w.sums) (sym (put.members ∙ ap (range_with_len 0) h.last)) summed;
            sums_before = h.joining.sums_before;
          };
          every = omega (arith, blocks, h.last);
          from = h.from;
          from_is = elim h.from_is [
            | inl same ↦ inl same
            | inr later ↦ inr (later.0, later.1, omega (arith, later.2, blocks))
          ];
          each = members;
          members = put.members ∙ ap (range_with_len 0) h.last;
          none = λ is. absurd (omega (arith, is, blocks, h.joining.later));
          one = λ is.
              let at : v.frozen.blocks ≡ n = omega (arith, is, blocks) in (
                tip,
                ap (λ (l : List Viewed). filter (is_uncovered table) l ++ tip ∷ []) (none_joined at),
                none_gone at,
                joined_alone tip put.more kept at (subst (λ (x : Viewed). AreKeptIds table x.members put.more.members x.entries put.more.entries) ends.1 put.kept),
              );
        }
