-- Genesis is in each set of complete blocks that has a block and holds the past of each.
use Rattle.std.proofs.Common.{◌≡◌, ℕ, zero, suc, ◌+◌, ◌≤◌, ◌⊎◌, true, ◌||◌, List, [], ◌∷◌, length, refl, sym, ap, ◌∙◌, arith, eqb, inl, inr}
use Rattle.std.specs.Prelude.{sum_by}
use Rattle.std.specs.List.{list_all, list_any}
use Rattle.std.proofs.lemmas.Bool.{and_parts, eq-eqb, false≢true, or_left, or_right}
use Rattle.std.proofs.lemmas.List.Sums.{sum_by-cons}
use Rattle.sp_model.specs.Graph.{AreDistinct, Graph, IsDownset, IsGraph, complete, has, in_past, keys, parents_of, rounds}
use Rattle.sp_model.proofs.Pasts.{complete_key}
use Rattle.sp_model.proofs.Reaching.{in_past_any_step}
use Rattle.sp_model.proofs.Sets.{has-filter}
use Rattle.sp_carry.specs.Payment.{paid_amount}
use Rattle.sp_carry.specs.Ledger.{HasNoTwins, IsOneGenesis, IsPlain, Ledger, NamesOnce, is_empty}
use Rattle.sp_carry.specs.Money.{balance}
use Rattle.sp_carry.proofs.Grants.{balances_granted}

-- a complete block is genesis or has it in its past
reached : (k : ℕ) (g : Graph) (genesis z : ℕ) → IsGraph g genesis → has (rounds k g) z ≡ true → (z ≡ genesis) ⊎ (in_past g genesis z ≡ true)
unfolding rounds
reached zero g genesis z graph h = absurd (false≢true h)
reached (suc k) g genesis z graph h =
    at (parents_of g z) refl (has-filter (λ z. list_all (λ parent. has (rounds k g) parent) (parents_of g z)) (keys g) z h) (λ p there. reached k g genesis p graph there)
  where
    at : (ps : List ℕ) → parents_of g z ≡ ps → (has (keys g) z ≡ true) × (list_all (λ parent. has (rounds k g) parent) (parents_of g z) ≡ true)
        → ((p : ℕ) → has (rounds k g) p ≡ true → (p ≡ genesis) ⊎ (in_past g genesis p ≡ true)) → (z ≡ genesis) ⊎ (in_past g genesis z ≡ true)
    at [] e h rest = inl (graph.one z h.0 e)
    at (p ∷ ps) e h rest =
        let first : has (rounds k g) p ≡ true =
        (and_parts (has (rounds k g) p) (list_all (λ parent. has (rounds k g) parent) ps) (ap (list_all (λ parent. has (rounds k g) parent)) (sym e) ∙ h.1)).0 in
        inr (in_past_any_step g genesis z ∙ ap (list_any (λ parent. eqb parent genesis || in_past g genesis parent)) e
        ∙ or_left (eqb p genesis || in_past g genesis p) (list_any (λ parent. eqb parent genesis || in_past g genesis parent) ps) (step (rest p first)))
      where
        step : (p ≡ genesis) ⊎ (in_past g genesis p ≡ true) → (eqb p genesis || in_past g genesis p) ≡ true
        step s =
            elim s [
              | inl is ↦ or_left (eqb p genesis) (in_past g genesis p) (eq-eqb p genesis is)
              | inr below ↦ or_right (eqb p genesis) (in_past g genesis p) below
            ]

genesis_in : (g : Graph) (set : List ℕ) (genesis z : ℕ) → IsGraph g genesis → IsDownset g set → has set z ≡ true → has set genesis ≡ true
unfolding complete
genesis_in g set genesis z graph down there =
    elim (reached (length g.blocks) g genesis z graph (down.all_complete z there)) [
      | inl is ↦ ap (has set) (sym is) ∙ there
      | inr below ↦ down.closed z genesis there below
    ]

one_genesis : (l : Ledger) (set : List ℕ) (genesis : ℕ) → IsGraph l.graph genesis → IsDownset l.graph set → has set genesis ≡ true → IsOneGenesis l set genesis
one_genesis l set genesis graph down there =
    record {
      there = there;
      only = λ z z_in root. graph.one z (complete_key l.graph z (down.all_complete z z_in)) (none (parents_of l.graph z) root);
    }
  where
    none : (ps : List ℕ) → is_empty ps ≡ true → ps ≡ []
    none [] e = refl
    none (p ∷ ps) e = absurd (false≢true e)

-- the balances of any different locks, where genesis is the one block without parents
pub balances_in_graph : (l : Ledger) (set : List ℕ) (genesis : ℕ) (locks : List ℕ) → IsGraph l.graph genesis → IsDownset l.graph set → IsPlain l set → HasNoTwins l set
    → NamesOnce l set → AreDistinct locks → sum_by (balance l set) locks ≤ sum_by paid_amount (l.txs genesis)
balances_in_graph l [] genesis locks graph down plain twins once apart = (let nothing : sum_by (balance l []) locks ≡ 0 = none locks in omega (arith, nothing))
  where
    none : (ks : List ℕ) → sum_by (balance l []) ks ≡ 0
    none [] = refl
    none (k ∷ ks) =
        let rest : sum_by (balance l []) ks ≡ 0 = none ks in
        let first : balance l [] k ≡ 0 = refl in
        let all : sum_by (balance l []) (k ∷ ks) ≡ balance l [] k + sum_by (balance l []) ks = sum_by-cons (balance l []) k ks in
        omega (arith, all, first, rest)
balances_in_graph l (z ∷ zs) genesis locks graph down plain twins once apart =
    balances_granted l (z ∷ zs) genesis locks down plain twins once
    (one_genesis l (z ∷ zs) genesis graph down (genesis_in l.graph (z ∷ zs) genesis z graph down (or_left (eqb z z) (has zs z) (eq-eqb z z refl)))) apart
