-- The votes stay where a block is added to the graph, before its own votes join.
use Rattle.std.proofs.Common.{◌≡◌, ◌≤◌, ◌+◌, ℕ, zero, suc, List, [], ◌∷◌, ◌++◌, length, map, take, refl, sym, ap, subst, ◌∙◌, arith}
use Rattle.sp_dag.specs.Numbered.{AreInOrder, Numbered, with_next}
use Rattle.sp_engine.specs.Votes.{AreOfTips, bar_row, Grew, Tallied, tips_from}
use Rattle.sp_engine.proofs.Bars.{bars_stay}

pub take_more : {X : Type 0} (xs ys : List X) (n : ℕ) → n ≤ length xs → take n (xs ++ ys) ≡ take n xs
take_more xs ys zero le = refl
take_more [] ys (suc n) le = absurd (omega (arith, le))
take_more {X} (x ∷ xs) ys (suc n) le = ap (λ (l : List X). x ∷ l) (take_more xs ys n (omega (arith, le)))

pub tips_stay : (table : Numbered) (id salt : ℕ) (ps : List ℕ) (n : ℕ) (v : Tallied) → AreInOrder table.parents → n ≤ length table.parents → AreOfTips table n v.since v.views
    → AreOfTips (with_next table id salt ps) n v.since v.views
tips_stay table id salt ps n v order le are = record {
  tips = are.tips;
  all = are.all;
  is = are.is;
  within = are.within;
  each = are.each ∙ sym (bars_stay table id salt ps v.since n order (omega (arith, are.within)) le)
      ∙ ap (λ (t : List (List ℕ)). map (bar_row (with_next table id salt ps)) (tips_from t v.since)) (sym (take_more table.parents (ps ∷ []) n le));
  members = are.members;
}

-- the first block that joins is the only one so far
pub one_more : (before now after : Numbered) (v v' v'' : Tallied) → now ≡ before → v' ≡ v → length after.parents ≡ length now.parents + 1 → Grew after (length now.parents) v' v''
    → (length after.parents ≡ length before.parents + 1) × Grew after (length before.parents) v v''
one_more before now after v v' v'' same same' long grew = (
  long ∙ ap (λ (n : Numbered). length n.parents + 1) same,
  subst (λ (n : Numbered). Grew after (length n.parents) v v'') same (subst (λ (w : Tallied). Grew after (length now.parents) w v'') same' grew),
)
