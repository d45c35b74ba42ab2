-- Soundness by what the inputs are worth.
use Rattle.std.proofs.Common.{◌≡◌, ℕ, zero, suc, Bool, true, false, cond, ◌||◌, ◌&&◌, ◌<◌, List, [], ◌∷◌, length, map, get_or, Option, Some, None, leb, refl, sym, ap, ◌∙◌, arith}
use Rattle.std.specs.Prelude.{sum_by, unwrap_or}
use Rattle.std.specs.List.{list_all}
use Rattle.std.proofs.lemmas.List.Folds.{list_all_at}
use Rattle.std.proofs.Math.ListN.{length-map}
use Rattle.sp_tx.specs.declared.parts.Input.{Input}
use Rattle.sp_tx.specs.declared.parts.Output.{Output}
use Rattle.sp_tx.specs.Parts.{Transaction}
use Rattle.sp_model.specs.Graph.{past}
use Rattle.sp_dag.specs.Numbered.{Numbered, graph_of, IsNumbered}
use Rattle.sp_dag.proofs.Ranked.{parents_numbered}
use Rattle.sp_carry.specs.Payment.{Payment, finds, paid_amount, payment_of, spent_amount, spent_by}
use Rattle.sp_carry.specs.Ledger.{carried, is_covered, is_empty, is_sound}
use Rattle.sp_carry.specs.Carried.{Carried, ledger_of}
use Rattle.sp_carry.specs.Worth.{amount_of, worth_in, worth_of}

-- an input that isn't found
pub unfound : (below : List Payment) (inputs : List Input) (i : ℕ) (input : Input) → i < length inputs → input ≡ get_or inputs i input
    → None ≡ worth_of below (spent_by input) → None ≡ worth_in below inputs
unfound below inputs i input lt is none =
    sym (ap (λ (c : Bool). cond c (Some (sum_by (amount_of below) (map spent_by inputs))) None)
    (list_all_at (finds below) (map spent_by inputs) i (spent_by input) (omega (arith, lt, length-map inputs spent_by))
    (ap (finds below) (map_at inputs i input lt ∙ ap spent_by (sym is)) ∙ not_found (finds below (spent_by input)) none)))
  where
    map_at : (xs : List Input) (i : ℕ) (d : Input) → i < length xs → get_or (map spent_by xs) i (spent_by d) ≡ spent_by (get_or xs i d)
    map_at [] i d lt = absurd (omega (arith, lt))
    map_at (x ∷ xs) zero d lt = refl
    map_at (x ∷ xs) (suc i) d lt = map_at xs i d (omega (arith, lt))

    not_found : (c : Bool) → None ≡ cond c (Some (amount_of below (spent_by input))) None → c ≡ false
    not_found true e = absurd (none_some e)
      where
        none_some : {n : ℕ} → None ≡ Some n → ⊥
        none_some e = cc
    not_found false e = refl

pub covered_some : (below : List Payment) (t : Transaction) (paid worth : ℕ) → worth_in below t.inputs ≡ Some worth
    → paid ≡ sum_by (λ (o : Output). o.amount) t.outputs → leb paid worth ≡ is_covered below (payment_of t)
covered_some below t paid worth found pays = at (list_all (finds below) (map spent_by t.inputs)) found
  where
    same : {a b : ℕ} → Some a ≡ Some b → a ≡ b
    same {a} {b} e = ap (λ (o : Option ℕ). unwrap_or o a) e

    none_some : {n : ℕ} → None ≡ Some n → ⊥
    none_some e = cc

    at : (c : Bool) → cond c (Some (sum_by (amount_of below) (map spent_by t.inputs))) None ≡ Some worth
        → leb paid worth ≡ (c && leb (paid_amount (payment_of t)) (spent_amount below (payment_of t)))
    at true e = ap (λ (n : ℕ). leb n worth) pays ∙ ap (leb (paid_amount (payment_of t))) (sym (same e))
    at false e = absurd (none_some e)

pub covered_none : (below : List Payment) (t : Transaction) → worth_in below t.inputs ≡ None → false ≡ is_covered below (payment_of t)
covered_none below t none = at (list_all (finds below) (map spent_by t.inputs)) none
  where
    some_none : {n : ℕ} → Some n ≡ None → ⊥
    some_none e = cc

    at : (c : Bool) → cond c (Some (sum_by (amount_of below) (map spent_by t.inputs))) None ≡ None
        → false ≡ (c && leb (paid_amount (payment_of t)) (spent_amount below (payment_of t)))
    at true e = absurd (some_none e)
    at false e = refl

-- a block above genesis has parents
pub not_genesis : (blocks : Numbered) (k : Carried) (z : ℕ) (p : Payment) → IsNumbered blocks → 0 < z → z < length blocks.parents
    → is_sound (ledger_of blocks k) z p ≡ is_covered (carried (ledger_of blocks k) (past (graph_of blocks) z)) p
not_genesis blocks k z p numbered above within =
    ap (λ (ps : List ℕ). is_empty ps || is_covered (carried (ledger_of blocks k) (past (graph_of blocks) z)) p) (parents_numbered blocks z within)
    ∙ at (get_or blocks.parents z []) (numbered.rooted z above within)
  where
    at : (ps : List ℕ) → 0 < length ps
        → (is_empty ps || is_covered (carried (ledger_of blocks k) (past (graph_of blocks) z)) p)
        ≡ is_covered (carried (ledger_of blocks k) (past (graph_of blocks) z)) p
    at [] some = absurd (omega (arith, some))
    at (q ∷ qs) some = refl

-- genesis has none
pub in_genesis : (blocks : Numbered) (k : Carried) (p : Payment) → IsNumbered blocks → true ≡ is_sound (ledger_of blocks k) 0 p
in_genesis blocks k p numbered =
    sym (ap (λ (ps : List ℕ). is_empty ps || is_covered (carried (ledger_of blocks k) (past (graph_of blocks) 0)) p)
    (parents_numbered blocks 0 numbered.some ∙ numbered.genesis))
