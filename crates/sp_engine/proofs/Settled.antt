-- The blocks of an arrival have joined, the views of the tips that are covered are let go, and what was saved of the view of all blocks.
use Rattle.std.proofs.Common.{◌≡◌, ◌⊎◌, ℕ, ◌+◌, ◌-◌, ◌<◌, ◌≤◌, Bool, cond, List, [], ◌∷◌, ◌++◌, length, map, take, Option, inl, inr, refl, sym, ap, subst, ◌∙◌, arith, length-append}
use Rattle.std.specs.Prelude.{filter}
use Rattle.std.specs.List.{range_with_len}
use Rattle.std.proofs.lemmas.Bool.{cases_lt}
use Rattle.std.proofs.lemmas.List.{append_assoc, map-append, take_all}
use Rattle.std.proofs.lemmas.List.Elements.{filter-append}
use Rattle.sp_dag.specs.Numbered.{Numbered, AreInOrder}
use Rattle.sp_rows.specs.Pool.{Pool}
use Rattle.sp_view.specs.Homes.{AreHome}
use Rattle.sp_view.specs.Stored.{count_of}
use Rattle.sp_view.specs.Summed.{AreSums}
use Rattle.sp_view.specs.Views.{Viewed, held}
use Rattle.sp_engine.specs.Votes.{AreLeft, AreViews, AreVoted, bar_row, HaveJoined, held_by, is_tip, is_top_tip, is_uncovered, Tallied, tips_from}
use Rattle.sp_engine.proofs.Bars.{tip_in}
use Rattle.sp_engine.proofs.Covering.{filter_map, filter_rows, snoc}
use Rattle.sp_engine.proofs.Homes.{counts_home, views_home}
use Rattle.sp_engine.proofs.StillTips.{all_stays, bar_stays, tips_below, tips_now, tips_twice}

-- What stands before the views of the blocks that joined, once those from before the arrival were let go where some of its blocks' were: all
-- of the old ones, or none.
pub record Starts (table : Numbered) (n : ℕ) (old v : Tallied) (saved : List (Option (ℕ × ℕ))) (h : HaveJoined table n old v saved) (views : List Viewed) : Type 0 where
  pub firsts : List Viewed
  pub is : views ≡ firsts ++ (h.joining.joined ++ h.joining.all ∷ [])
  pub kind : ((firsts ≡ h.joining.olds) × (v.since ≡ old.since) × (h.from ≡ n)) ⊎ ((firsts ≡ []) × (n < v.since) × (v.since ≡ h.from) × (h.from < length table.parents))

pub starts : (table : Numbered) (n : ℕ) (old v : Tallied) (saved : List (Option (ℕ × ℕ))) (h : HaveJoined table n old v saved) (views : List Viewed) (tips last : ℕ) → tips + 1 ≡ length old.views
    → (n < v.since → last + tips ≡ length v.views) → (v.since ≤ n → last ≡ length v.views)
    → ((front between back : List Viewed) → 0 ≡ length front → last ≡ length back → v.views ≡ front ++ (between ++ back) → views ≡ front ++ back) → Starts table n old v saved h views
starts table n old v saved h views tips last long goes stays rest = elim (cases_lt n v.since) [
  | inl later ↦
      let olds : tips ≡ length h.joining.olds = omega (arith, long, ap length h.joining.old_is, length-append h.joining.olds (h.joining.was ∷ [])) in
      record {
        firsts = [];
        is =
            rest [] h.joining.olds (h.joining.joined ++ h.joining.all ∷ []) (omega arith)
            (omega (arith, goes later, olds, ap length h.joining.is, length-append h.joining.olds (h.joining.joined ++ h.joining.all ∷ []))) h.joining.is;
        kind = elim h.from_is [
          | inl same ↦ (let least : old.since ≤ n = omega (arith, h.joining.tips.within) in absurd (omega (arith, same.1, least, later)))
          | inr more ↦ inr (refl, later, more.1, omega (arith, more.2, h.every))
        ];
      }
  | inr none ↦ record {
    firsts = h.joining.olds;
    is = rest [] [] v.views (omega arith) (stays (omega (arith, none))) refl ∙ h.joining.is;
    kind = elim h.from_is [
      | inl same ↦ inl (refl, same.1, same.0)
      | inr more ↦ absurd (omega (arith, more.0, more.1, none))
    ];
  }
]

pub tips_within : (table : Numbered) (n : ℕ) (old v : Tallied) (saved : List (Option (ℕ × ℕ))) → HaveJoined table n old v saved → (tips : ℕ) → tips + 1 ≡ length old.views → tips ≤ length v.views
tips_within table n old v saved h tips long =
    omega (arith, long, ap length h.joining.old_is, length-append h.joining.olds (h.joining.was ∷ []), ap length h.joining.is, length-append h.joining.olds (h.joining.joined ++ h.joining.all ∷ []))

module _ (table : Numbered) (order : AreInOrder table.parents) (small : length table.parents ≤ 512) where
  module _ (some : 0 < length table.parents) (n : ℕ) (old v : Tallied) (saved : List (Option (ℕ × ℕ))) (h : HaveJoined table n old v saved) (there : List Viewed) (s : Starts table n old v saved h there) where
    within : n ≤ length table.parents
    within = omega (arith, h.joining.later, h.every)

    left_joined : map (λ (view : Viewed). view.members) (filter (is_uncovered table) h.joining.joined) ≡ map (bar_row table) (tips_from table.parents h.from)
    left_joined =
        filter_map (is_top_tip table) h.joining.joined ∙ ap (filter (is_top_tip table)) h.each
        ∙ filter_rows (is_top_tip table) (bar_row table) (is_tip table.parents) (tips_from table.parents h.from) (λ k there. bar_stays table order small k (tips_below table.parents h.from k from_within there))
        ∙ ap (map (bar_row table)) (tips_twice table.parents h.from)
      where
        from_within : h.from ≤ length table.parents
        from_within = elim h.from_is [
          | inl same ↦ omega (arith, same.0, within)
          | inr more ↦ omega (arith, more.2, h.every)
        ]

    left_olds : map (λ (view : Viewed). view.members) (filter (is_uncovered table) h.joining.olds) ≡ map (bar_row table) (filter (is_tip table.parents) (tips_from (take n table.parents) old.since))
    left_olds =
        let were = h.joining.tips in
        let parts = snoc h.joining.olds were.tips h.joining.was were.all (sym h.joining.old_is ∙ were.is) in
        let olds_are : map (λ (view : Viewed). view.members) h.joining.olds ≡ map (bar_row table) (tips_from (take n table.parents) old.since) = ap (map (λ (view : Viewed). view.members)) parts.0 ∙ were.each in
        filter_map (is_top_tip table) h.joining.olds ∙ ap (filter (is_top_tip table)) olds_are
        ∙ filter_rows (is_top_tip table) (bar_row table) (is_tip table.parents) (tips_from (take n table.parents) old.since)
        (λ k there. (let parts = tip_in table.parents old.since n k (omega (arith, were.within)) within there in bar_stays table order small k (omega (arith, parts.0, within))))

    -- the views of the tips that none covers
    abbrev pub left : List Viewed
    left = filter (is_uncovered table) (s.firsts ++ h.joining.joined)

    left_are : map (λ (view : Viewed). view.members) left ≡ map (bar_row table) (tips_from table.parents v.since)
    left_are = elim s.kind [
      | inl all ↦
          ap (λ (l : List Viewed). map (λ (view : Viewed). view.members) (filter (is_uncovered table) (l ++ h.joining.joined))) all.0
          ∙ ap (map (λ (view : Viewed). view.members)) (filter-append (is_uncovered table) h.joining.olds h.joining.joined)
          ∙ map-append (λ (view : Viewed). view.members) (filter (is_uncovered table) h.joining.olds) (filter (is_uncovered table) h.joining.joined)
          ∙ ap (λ (l : List (List ℕ)). l ++ map (λ (view : Viewed). view.members) (filter (is_uncovered table) h.joining.joined)) left_olds
          ∙ ap (λ (l : List (List ℕ)). map (bar_row table) (filter (is_tip table.parents) (tips_from (take n table.parents) old.since)) ++ l) left_joined
          ∙ ap (λ (k : ℕ). map (bar_row table) (filter (is_tip table.parents) (tips_from (take n table.parents) old.since)) ++ map (bar_row table) (tips_from table.parents k)) all.2
          ∙ sym (map-append (bar_row table) (filter (is_tip table.parents) (tips_from (take n table.parents) old.since)) (tips_from table.parents n))
          ∙ ap (map (bar_row table)) (tips_now table old.since n (omega (arith, h.joining.tips.within)) within)
          ∙ ap (λ (k : ℕ). map (bar_row table) (tips_from table.parents k)) (sym all.1)
      | inr none ↦
          ap (λ (l : List Viewed). map (λ (view : Viewed). view.members) (filter (is_uncovered table) (l ++ h.joining.joined))) none.0
          ∙ left_joined ∙ ap (λ (k : ℕ). map (bar_row table) (tips_from table.parents k)) (sym none.2)
    ]

    since_within : v.since ≤ length table.parents - 1
    since_within = elim s.kind [
      | inl all ↦ omega (arith, all.1, h.joining.tips.within, within)
      | inr none ↦ omega (arith, none.2, none.3)
    ]

    -- where one block joined, all old ones do
    pub all_first : n + 1 ≡ length table.parents → s.firsts ≡ h.joining.olds
    all_first last = elim s.kind [
      | inl all ↦ all.0
      | inr none ↦ (let least : old.since ≤ n = omega (arith, h.joining.tips.within) in absurd (omega (arith, none.1, least, (h.one (omega (arith, h.every, last))).2)))
    ]

    -- the view of all blocks stays behind them
    pub left_is : (views : List Viewed) → views ≡ filter (is_uncovered table) there → views ≡ left ++ h.joining.all ∷ []
    left_is views is =
        is ∙ ap (filter (is_uncovered table)) (s.is ∙ sym (append_assoc s.firsts h.joining.joined (h.joining.all ∷ [])))
        ∙ filter-append (is_uncovered table) (s.firsts ++ h.joining.joined) (h.joining.all ∷ [])
        ∙ ap (λ (c : Bool). left ++ cond c (h.joining.all ∷ []) [])
        (ap (is_top_tip table) h.members ∙ all_stays table order small (length table.parents - 1) (omega (arith, some)))

    -- what was saved of it is let go, and then the views of the oldest tips may be
    module _ (mid pool : Pool) (views new : List Viewed) (is : views ≡ filter (is_uncovered table) there) (counts : (r : ℕ) → count_of mid r + held_by v.views r ≡ count_of v.rows r + held_by views r) (sound : AreViews table mid v.frozen.blocks views)
        (goes_home : (front : List Viewed) (last : Viewed) → views ≡ front ++ last ∷ [] → (home : Viewed) × (new ≡ front ++ home ∷ []) × (home.members ≡ last.members) × AreHome mid pool saved last.entries home.entries) where
      pub goes : (home : Viewed) × (new ≡ left ++ home ∷ []) × (home.members ≡ h.joining.all.members) × AreHome mid pool saved h.joining.all.entries home.entries
      goes = goes_home left h.joining.all (left_is views is)

      held_mid : (r : ℕ) → count_of mid r ≡ held saved r + held_by (left ++ h.joining.all ∷ []) r
      held_mid r = omega (arith, h.joining.shared.counts r, counts r, ap (λ (l : List Viewed). held_by l r) (left_is views is))

      pub held_left : (r : ℕ) → count_of pool r ≡ held_by new r
      held_left r = omega (arith, counts_home table v.frozen.blocks mid pool saved left h.joining.all goes.0 goes.3 held_mid r, ap (λ (l : List Viewed). held_by l r) goes.1)

      sound_new : AreViews table pool v.frozen.blocks new
      sound_new = subst (λ (l : List Viewed). AreViews table pool v.frozen.blocks l) (sym goes.1)
          (views_home table v.frozen.blocks mid pool saved left h.joining.all goes.0 goes.3 held_mid goes.2 (subst (λ (l : List Viewed). AreViews table mid v.frozen.blocks l) (left_is views is) sound))

      module _ (pool' : Pool) (new' : List Viewed) (since' : ℕ)
          (lets_go : (front tips : List Viewed) (all : Viewed) (from : ℕ) → 0 ≡ length front → new ≡ front ++ (tips ++ all ∷ []) → map (λ (view : Viewed). view.members) tips ≡ map (bar_row table) (tips_from table.parents from)
          → AreLeft table front tips all from v.since pool' new' since') where
        pub lets : AreLeft table [] left goes.0 v.since v.since pool' new' since'
        lets = lets_go [] left goes.0 v.since (omega arith) goes.1 left_are

        pub since_is : since' ≡ lets.from'
        since_is = elim lets.later [
          | inl same ↦ same.1 ∙ sym same.0
          | inr later ↦ later.1
        ]

        -- no row is held but by the views that are left
        pub settled : (AreViews table pool v.frozen.blocks new → AreViews table pool' v.frozen.blocks new') → ((r : ℕ) → count_of pool' r + held_by new r ≡ count_of pool r + held_by new' r)
            → AreVoted table (record { frozen = v.frozen; rows = pool'; views = new'; since = since'; sums = v.sums })
        settled sounds counts' = record {
          holds = record {
            frozen = h.joining.frozen;
            views = sounds sound_new;
            shared = record {
              few = omega arith;
              once = λ r. omega arith;
              counts = λ r. omega (arith, counts' r, held_left r);
            };
            tips = record {
              tips = lets.left;
              all = goes.0;
              is = lets.is;
              within = elim lets.later [
                | inl same ↦ omega (arith, same.1, since_within, h.every)
                | inr later ↦ omega (arith, later.1, later.2, h.every)
              ];
              each = lets.each ∙ ap (λ (k : ℕ). map (bar_row table) (tips_from table.parents k)) (sym since_is)
                  ∙ ap (λ (t : List (List ℕ)). map (bar_row table) (tips_from t since')) (sym (take_all v.frozen.blocks table.parents (omega (arith, h.every))));
              members = goes.2 ∙ h.members ∙ ap (range_with_len 0) (sym h.every);
            };
          };
          every = h.every;
          sums = subst (λ (l : List ℕ). AreSums table l v.sums) h.members h.joining.sums;
        }
