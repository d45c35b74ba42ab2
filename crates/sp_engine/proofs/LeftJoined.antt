-- Of the views of an arrival's blocks the oldest ones are let go.
use Rattle.std.proofs.Common.{◌≡◌, ℕ, ◌+◌, ◌<◌, ◌≤◌, List, [], ◌∷◌, ◌++◌, length, Option, sym, ap, ◌∙◌, inl, inr, arith, length-append}
use Rattle.sp_dag.specs.Numbered.{Numbered}
use Rattle.sp_rows.specs.Pool.{Pool}
use Rattle.sp_view.specs.Stored.{count_of, row_of}
use Rattle.sp_view.specs.Views.{held, Viewed}
use Rattle.sp_view.proofs.Patched.{held_patched}
use Rattle.sp_engine.specs.Votes.{AreLeft, AreViews, HaveJoined, held_by, IsFrom, Tallied}
use Rattle.sp_engine.proofs.Covering.{snoc}
use Rattle.sp_engine.proofs.Sharing.{held_more}

-- what stands behind one front is one list
behind_front : (front xs ys : List Viewed) → front ++ xs ≡ front ++ ys → xs ≡ ys
behind_front [] xs ys e = e
behind_front (f ∷ fs) xs ys e = (let rest : fs ++ xs ≡ fs ++ ys = cc in behind_front fs xs ys rest)

module _ (table : Numbered) (n : ℕ) (old v : Tallied) (saved : List (Option (ℕ × ℕ))) (h : HaveJoined table n old v saved) (pool : Pool) (views : List Viewed) (since : ℕ)
    (lets : AreLeft table h.joining.olds h.joining.joined h.joining.all h.from v.since pool views since) (two : length v.views ≤ length h.joining.olds + 2 → (views ≡ v.views) × (since ≡ v.since))
    (sound : AreViews table pool v.frozen.blocks views) (counts : (r : ℕ) → count_of pool r + held_by v.views r ≡ count_of v.rows r + held_by views r) (rows : (r : ℕ) → 0 < count_of pool r → row_of pool r ≡ row_of v.rows r) where
  held_left : (r : ℕ) → count_of pool r ≡ held saved r + held_by views r
  held_left r = omega (arith, counts r, h.joining.shared.counts r)

  still : (r : ℕ) → 0 < held_by old.views r → 0 < count_of pool r
  still r some = omega (
    arith,
    some,
    held_left r,
    ap (λ (l : List Viewed). held_by l r) h.joining.old_is,
    held_more h.joining.olds (h.joining.was ∷ []) r,
    ap (λ (l : List Viewed). held_by l r) lets.is,
    held_more h.joining.olds (lets.left ++ h.joining.all ∷ []) r,
    held_more lets.left (h.joining.all ∷ []) r,
    held_patched saved h.joining.all.entries r,
    ap (λ (l : List (Option (ℕ × ℕ))). held l r) h.joining.patched_is,
  )

  from_is : IsFrom n old (record { frozen = v.frozen; rows = pool; views = views; since = since; sums = v.sums }) lets.from'
  from_is = elim lets.later [
    | inl same ↦ elim h.from_is [
      | inl first ↦ inl (same.0 ∙ first.0, same.1 ∙ first.1)
      | inr more ↦ inr (omega (arith, same.0, more.0), omega (arith, same.0, same.1, more.1), omega (arith, same.0, more.2))
    ]
    | inr later ↦ elim h.from_is [
      | inl first ↦ inr (omega (arith, later.0, first.0), later.1, omega (arith, later.2, h.every))
      | inr more ↦ inr (omega (arith, later.0, more.0), later.1, omega (arith, later.2, h.every))
    ]
  ]

  pub joined_left : HaveJoined table n old (record { frozen = v.frozen; rows = pool; views = views; since = since; sums = v.sums }) saved
  joined_left = record {
    joining = record {
      frozen = h.joining.frozen;
      before = h.joining.before;
      rows = h.joining.rows;
      count = h.joining.count;
      counted = h.joining.counted;
      sound = h.joining.sound;
      tips = h.joining.tips;
      later = h.joining.later;
      views = sound;
      shared = record { few = h.joining.shared.few; once = h.joining.shared.once; counts = held_left };
      olds = h.joining.olds;
      few = h.joining.few;
      was = h.joining.was;
      old_is = h.joining.old_is;
      firsts = h.joining.firsts;
      asked = h.joining.asked;
      once = h.joining.once;
      joined = lets.left;
      all = h.joining.all;
      is = lets.is;
      saving = h.joining.saving;
      patched_is = h.joining.patched_is;
      places = λ r some. rows r (still r some) ∙ h.joining.places r some;
      sums = h.joining.sums;
      sums_before = h.joining.sums_before;
    };
    every = h.every;
    from = lets.from';
    from_is = from_is;
    each = lets.each;
    members = h.members;
    none = h.none;
    one = λ is.
        let one = h.one is in
        let same = two (omega (
          arith,
          ap length h.joining.is,
          length-append h.joining.olds (h.joining.joined ++ h.joining.all ∷ []),
          length-append h.joining.joined (h.joining.all ∷ []),
          ap length one.1,
        )) in
        let parts = snoc lets.left h.joining.joined h.joining.all h.joining.all
        (behind_front h.joining.olds (lets.left ++ h.joining.all ∷ []) (h.joining.joined ++ h.joining.all ∷ []) (sym lets.is ∙ same.0 ∙ h.joining.is)) in
        (one.0, parts.0 ∙ one.1, same.1 ∙ one.2, one.3);
  }
