-- What the two writes of an append leave of a gate: the one behind it, and the one of the gate itself.
use Rattle.std.proofs.Common.{◌≡◌, inl, inr, ℕ, ◌+◌, ◌≤◌, List, [], ◌∷◌, ◌++◌, length, get_or, take, drop, refl, sym, ap, ◌∙◌, arith, append_assoc, length-append, take-append-drop}
use Rattle.std.proofs.lemmas.Bool.{cases_eq}
use Rattle.std.proofs.lemmas.List.{take_at, drop_at, drop_more}
use Rattle.sp_disk.specs.Images.{PartlyWritten, written}
use Rattle.sp_disk.proofs.Partly.{same_back, same_front}
use Rattle.sp_journal.specs.Format.{set}
use Rattle.sp_journal.specs.Gates.{IsShut, IsShutOrOpened}

module _ (front : List ℕ) where
  -- the front with a gate, and what follows
  regrouped : (gate : ℕ) (rest : List ℕ) → front ++ gate ∷ rest ≡ (front ++ gate ∷ []) ++ rest
  regrouped gate rest = sym (append_assoc front (gate ∷ []) rest)

  long : (gate : ℕ) → length (front ++ gate ∷ []) ≡ length front + 1
  long gate = length-append front (gate ∷ [])

  pub length-shut : (list : List ℕ) → IsShut front list → length front + 1 ≤ length list
  length-shut list shut = omega (arith, ap length shut.parts, length-append front (shut.gate ∷ shut.rest))

  -- the closed gate stands in each outcome of a write behind it
  pub torn_behind : (n : ℕ) (old new : List ℕ) → IsShut front old → PartlyWritten (length front + 1) n old new → IsShut front new
  torn_behind n old new shut torn =
      let p = length front + 1 in
      let begins : take p old ≡ front ++ shut.gate ∷ [] =
      ap (take p) (shut.parts ∙ regrouped shut.gate shut.rest) ∙ take_at (front ++ shut.gate ∷ []) shut.rest p (long shut.gate) in
      let same : take p new ≡ take p old = same_front p n p old new torn (omega arith) (length-shut old shut) in
      record {
        gate = shut.gate;
        rest = drop p new;
        closed = shut.closed;
        parts = sym (take-append-drop p new) ∙ ap (λ (t : List ℕ). t ++ drop p new) (same ∙ begins) ∙ append_assoc front (shut.gate ∷ []) (drop p new);
      }

  -- the body stands behind the gate after that write
  pub written_behind : (body old : List ℕ) (shut : IsShut front old) → written old (length front + 1) body ≡ front ++ shut.gate ∷ (body ++ drop (length front + 1 + length body) old)
  written_behind body old shut =
      let p = length front + 1 in
      let begins : take p old ≡ front ++ shut.gate ∷ [] =
      ap (take p) (shut.parts ∙ regrouped shut.gate shut.rest) ∙ take_at (front ++ shut.gate ∷ []) shut.rest p (long shut.gate) in
      ap (λ (t : List ℕ). t ++ (body ++ drop (p + length body) old)) begins ∙ append_assoc front (shut.gate ∷ []) (body ++ drop (p + length body) old)

  -- what stands behind the gate stands in each outcome of a write of the gate
  pub torn_gate : (gate : ℕ) (body rest new : List ℕ) → PartlyWritten (length front) 1 (front ++ gate ∷ (body ++ rest)) new → IsShutOrOpened front body new
  torn_gate gate body rest new torn =
      let old = front ++ gate ∷ (body ++ rest) in
      let n = length front in
      let few : n + 1 ≤ length old = omega (arith, length-append front (gate ∷ (body ++ rest))) in
      let before : take n new ≡ front = same_front n 1 n old new torn (omega arith) (omega arith) ∙ take_at front (gate ∷ (body ++ rest)) n refl in
      let behind : drop (n + 1) new ≡ body ++ rest =
      same_back n 1 (n + 1) old new torn (omega arith) few ∙ ap (drop (n + 1)) (regrouped gate (body ++ rest)) ∙ drop_at (front ++ gate ∷ []) (body ++ rest) (n + 1) (long gate) in
      let byte = get_or new n 0 in
      let whole : new ≡ front ++ byte ∷ (body ++ rest) =
      sym (take-append-drop n new) ∙ ap (λ (t : List ℕ). t ++ drop n new) before
      ∙ ap (λ (t : List ℕ). front ++ t) (drop_more new n 0 (omega (arith, few, torn.no_shorter)) ∙ ap (λ (t : List ℕ). byte ∷ t) behind) in
      elim (cases_eq byte set) [
        | inl is_open ↦ inr (record { rest = rest; parts = whole ∙ ap (λ (b : ℕ). front ++ b ∷ (body ++ rest)) is_open })
        | inr closed ↦ inl (record { gate = byte; rest = body ++ rest; closed = closed; parts = whole })
      ]

  -- the gate is open after that write
  pub written_gate : (gate : ℕ) (body rest : List ℕ) → written (front ++ gate ∷ (body ++ rest)) (length front) (set ∷ []) ≡ front ++ set ∷ (body ++ rest)
  written_gate gate body rest =
      let n = length front in
      ap (λ (t : List ℕ). t ++ ((set ∷ []) ++ drop (n + 1) (front ++ gate ∷ (body ++ rest)))) (take_at front (gate ∷ (body ++ rest)) n refl)
      ∙ ap (λ (t : List ℕ). front ++ set ∷ t) (ap (drop (n + 1)) (regrouped gate (body ++ rest)) ∙ drop_at (front ++ gate ∷ []) (body ++ rest) (n + 1) (long gate))
