-- Transactions at a place of a longer list, and what the calls answer.
use Rattle.std.proofs.Common.{◌≡◌, ◌≢◌, ℕ, ◌≤◌, List, [], ◌∷◌, ◌++◌, All, length, take, drop, slice_range, ◌-◌, ◌+◌, None, Some, Option, Result, Ok, Err, refl, sym, ap, subst, ◌∙◌, arith}
use Rattle.std.specs.Prelude.{IfErr, IfOk}
use Rattle.std.specs.List.{AllByRecursion}
use Rattle.std.proofs.lemmas.List.Elements.{All-from_recursion}
use Rattle.std.proofs.lemmas.List.{take_at, take-append-drop, length-append, length-drop, append-nil}
use Rattle.sp_form.specs.Bytes.{IsBytes}
use Rattle.sp_form.specs.Reading.{Answers, IsCause, read}
use Rattle.sp_form.specs.Turns.{InTurn}
use Rattle.sp_form.specs.declared.fault.ReadFault.{ReadFault}
use Rattle.sp_form.specs.declared.fault.ReadFault.TheVariants.{Fault, Memory}
use Rattle.sp_form.proofs.FormLaws.{read_then, Front, reads_spelled, reads_fault, spelled_front, fault_found}
use Rattle.sp_ids.specs.declared.outpoint.Outpoint.{Outpoint}
use Rattle.sp_tx.specs.declared.parts.Input.{Input}
use Rattle.sp_tx.specs.declared.parts.Output.{Output}
use Rattle.sp_tx.specs.declared.fault.TxFault.{TxFault}
use Rattle.sp_tx.specs.declared.fault.TxFault.TheVariants.{Short}
use Rattle.sp_tx.specs.Format.{last_outpoint, tx_form}
use Rattle.sp_tx.specs.Parts.{Transaction, of_parts}
use Rattle.sp_tx.specs.Sorting.{IsSortOf}
use Rattle.sp_tx.specs.Reading.{with_end, read_at, tx_steps}
use Rattle.sp_tx.specs.Spelling.{HasPartsFault, HasTxFault, SpellsBetween, SpellsTx, IsInput, IsTx, spelling}
use Rattle.sp_tx.proofs.Spelled.{tx_spelled}

pub steps_are : (list : List ℕ) → read tx_form list ≡ tx_steps list
unfolding tx_form read
steps_are list = simp read_then

pub are_parts : (list : List ℕ) (t : Transaction) (rest : List ℕ) → IsBytes list → tx_steps list ≡ Ok (t, rest) → IsTx t
are_parts list t rest bytes e = (tx_spelled.takes list t rest bytes (steps_are list ∙ e)).1

-- ---- a transaction at a place of a longer list

front_at : (list : List ℕ) (at end : ℕ) → drop at list ≡ slice_range list at end ++ drop (end - at) (drop at list)
front_at list at end = sym (take-append-drop (end - at) (drop at list))

-- what stands at a place is read there
pub reads_between : (list : List ℕ) (at end : ℕ) (t : Transaction) → SpellsBetween list at end t → read_at list at ≡ Ok (t, end)
reads_between list at end t h =
    let found : tx_steps (drop at list) ≡ Ok (t, drop (end - at) (drop at list)) =
    sym (steps_are (drop at list)) ∙ ap (read tx_form) (front_at list at end) ∙ reads_spelled tx_form (slice_range list at end) t (drop (end - at) (drop at list)) h.spells in
    let place : length list - length (drop (end - at) (drop at list)) ≡ end = omega (arith, length-drop (end - at) (drop at list), length-drop at list, h.ordered, h.within) in
    ap (with_end list) found ∙ ap (λ (p : ℕ). Ok (t, p)) place

-- the bytes behind what is read are no more
pub behind_is_shorter : (list : List ℕ) (t : Transaction) (rest : List ℕ) → tx_steps list ≡ Ok (t, rest) → length rest ≤ length list
behind_is_shorter list t rest e =
    let front = spelled_front tx_form list t rest (steps_are list ∙ e) in
    let size : length list ≡ length front.text + length rest = ap length front.parts ∙ length-append front.text rest in
    omega arith

between : (list all : List ℕ) (at : ℕ) (t : Transaction) (rest : List ℕ) → at ≤ length all → list ≡ drop at all → Front tx_form list t rest → SpellsBetween all at (length all - length rest) t
between list all at t rest le is front =
    let size : length list ≡ length front.text + length rest = ap length front.parts ∙ length-append front.text rest in
    let short : length list ≡ length all - at = ap length is ∙ length-drop at all in
    let k : (length all - length rest) - at ≡ length front.text = omega arith in
    let text : slice_range all at (length all - length rest) ≡ front.text =
    ap (λ (n : ℕ). take n (drop at all)) k ∙ ap (take (length front.text)) (sym is ∙ front.parts) ∙ take_at front.text rest (length front.text) refl in
    record { ordered = omega arith; within = omega arith; spells = subst (λ (l : List ℕ). SpellsTx l t) (sym text) front.spells }

found_of : (list : List ℕ) (at : ℕ) (r : Result (Transaction × List ℕ) TxFault) (x : Transaction × ℕ) → at ≤ length list → read tx_form (drop at list) ≡ r → with_end list r ≡ Ok x → SpellsBetween list at x.1 x.0
found_of list at (Ok y) x le is e =
    let p : (let q : Transaction × ℕ = (y.0, length list - length y.1) in q) ≡ x = cc in
    subst (λ (q : Transaction × ℕ). SpellsBetween list at q.1 q.0) p (between (drop at list) list at y.0 y.1 le refl (spelled_front tx_form (drop at list) y.0 y.1 is))
found_of list at (Err d) x le is e = absurd (let h : Err d ≡ Ok x = e in cc)

first_of_place : (list : List ℕ) (at : ℕ) (r : Result (Transaction × List ℕ) TxFault) (fault : TxFault) → read tx_form (drop at list) ≡ r → with_end list r ≡ Err fault → HasTxFault (drop at list) fault
first_of_place list at (Ok y) fault is e = absurd (let h : (let q : Result (Transaction × ℕ) TxFault = Ok (y.0, length list - length y.1) in q) ≡ Err fault = e in cc)
first_of_place list at (Err d) fault is e = fault_found tx_form (drop at list) fault (is ∙ ap (λ (x : TxFault). Err x) (let h : (let q : Result (Transaction × ℕ) TxFault = Err d in q) ≡ Err fault = e in let k : d ≡ fault = cc in k))

pub reads_fault_at : (list : List ℕ) (at : ℕ) (fault : TxFault) → HasTxFault (drop at list) fault → read_at list at ≡ Err fault
reads_fault_at list at fault h = ap (with_end list) (sym (steps_are (drop at list)) ∙ reads_fault tx_form (drop at list) fault h)

-- ---- what a function answered

pub is_found : (list : List ℕ) (at : ℕ) (r : Result (Transaction × ℕ) (ReadFault TxFault)) → at ≤ length list → Answers r (read_at list at) → IfOk r (λ found. SpellsBetween list at found.1 found.0)
is_found list at (Ok x) le given = found_of list at (tx_steps (drop at list)) x le (steps_are (drop at list)) given
is_found list at (Err e) le given = tt

pub is_cause : (list : List ℕ) (at : ℕ) (r : Result (Transaction × ℕ) (ReadFault TxFault)) → Answers r (read_at list at) → IfErr r (IsCause (HasTxFault (drop at list)))
is_cause list at (Ok x) given = tt
is_cause list at (Err Memory) given = tt
is_cause list at (Err (Fault fault)) given = first_of_place list at (tx_steps (drop at list)) fault (steps_are (drop at list)) given

-- ---- what a writer needs

sizes_of : (before : Option Outpoint) (inputs : List Input) → InTurn IsInput last_outpoint before inputs → AllByRecursion (λ input. length input.preimage ≤ 64) inputs
sizes_of before [] h = tt
sizes_of before (input ∷ inputs) h = (h.0.short_preimage, sizes_of (Some input.from) inputs h.1)

pub preimages_fit : (inputs : List Input) → InTurn IsInput last_outpoint None inputs → All (λ input. length input.preimage ≤ 64) inputs
preimages_fit inputs h = All-from_recursion (λ input. length input.preimage ≤ 64) inputs (sizes_of None inputs h)

-- ---- parts that are no bytes yet

pub parts_fault : (inputs : List Input) (outputs : List Output) (sorted : List Input) (fault : TxFault) → IsSortOf inputs sorted → (fault ≢ Short) × ((rest : List ℕ) → read tx_form (spelling (of_parts sorted outputs) ++ rest) ≡ Err fault) → HasPartsFault inputs outputs fault
parts_fault inputs outputs sorted fault sort found = record {
  sorted = sorted;
  sort = sort;
  first = fault_found tx_form (spelling (of_parts sorted outputs)) fault (ap (read tx_form) (sym (append-nil (spelling (of_parts sorted outputs)))) ∙ found.1 []);
  whole = found.0;
}
