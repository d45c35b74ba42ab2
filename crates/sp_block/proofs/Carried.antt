-- Reading the next transaction of a block.
use Rattle.std.proofs.Common.{◌≡◌, ◌-◌, ℕ, ◌≤◌, Bool, false, ltb, List, length, take, drop, Some, None, Result, Ok, Err, refl, sym, ap, subst, ◌∙◌, arith}
use Rattle.std.specs.Prelude.{slice_range}
use Rattle.std.proofs.lemmas.Bool.{le-ltb}
use Rattle.std.proofs.lemmas.List.{take-append-drop}
use Rattle.sp_form.specs.Bytes.{IsBytes}
use Rattle.sp_form.specs.Form.{first_broken, map_fault, whole}
use Rattle.sp_form.specs.Reading.{Fails, IsCause, read, unless}
use Rattle.sp_form.specs.Values.{bytes_form, rules_form}
use Rattle.sp_form.specs.declared.fault.ReadFault.{ReadFault}
use Rattle.sp_form.specs.declared.fault.ReadFault.TheVariants.{Fault, Memory}
use Rattle.sp_form.proofs.FormLaws.{ok_pair, read_then, reads_fault, reads_spelled}
use Rattle.sp_form.proofs.Taking.{IsBytes-append_left}
use Rattle.sp_form.proofs.Texts.{only_text}
use Rattle.sp_form.proofs.Faults.{read_rules, read_map_fault, mapped}
use Rattle.sp_ids.specs.Digest.{sha256_number}
use Rattle.sp_tx.specs.declared.fault.TxFault.{TxFault}
use Rattle.sp_tx.specs.Format.{tx_form}
use Rattle.sp_tx.specs.Parts.{Transaction}
use Rattle.sp_tx.specs.Spelling.{HasTxFault, IsTx, spelling, SpellsBetween, SpellsTx}
use Rattle.sp_tx.specs.Spending.{id_of}
use Rattle.sp_tx.proofs.Spelled.{tx_spelled}
use Rattle.sp_block.specs.declared.fault.BlockFault.{BlockFault}
use Rattle.sp_block.specs.declared.fault.BlockFault.TheVariants.{Short, Tx}
use Rattle.sp_block.specs.Format.{carried_form, carried_rules}
use Rattle.sp_block.specs.Reading.{as_block_fault}

-- a field that is there is read
field_there : (width : ℕ) (list : List ℕ) → width ≤ length list → (let r : Result (List ℕ × List ℕ) BlockFault = read (bytes_form width Short) list in r) ≡ Ok (take width list, drop width list)
unfolding read
field_there width list le =
    let long : ltb (length list) width ≡ false = le-ltb _ _ le in
    rw long refl

-- so it is never short
pub never_short : {X : Type 0} (width : ℕ) (list : List ℕ) (e : ReadFault BlockFault) (other : Result X BlockFault) → width ≤ length list → Fails e (read (bytes_form width Short) list) → Fails e other
never_short width list Memory other le h = tt
never_short width list (Fault fault) other le h = absurd (let no : (let r : Result (List ℕ × List ℕ) BlockFault = Err fault in r) ≡ Ok (take width list, drop width list) = sym h ∙ field_there width list le in cc)

front_range : (list : List ℕ) (end : ℕ) → slice_range list 0 end ≡ take end list
front_range list end = let all : end - 0 ≡ end = omega arith in ap (λ (n : ℕ). take n list) all

spelled_front : (list : List ℕ) (end : ℕ) (t : Transaction) → SpellsBetween list 0 end t → SpellsTx (take end list) t
spelled_front list end t h = subst (λ (l : List ℕ). SpellsTx l t) (front_range list end) h.spells

tx_read : (list : List ℕ) (end : ℕ) (t : Transaction) → SpellsBetween list 0 end t → read (map_fault Tx tx_form) list ≡ Ok (t, drop end list)
tx_read list end t h =
    let found : read tx_form list ≡ Ok (t, drop end list) = ap (read tx_form) (sym (take-append-drop end list)) ∙ reads_spelled tx_form (take end list) t (drop end list) (spelled_front list end t h) in
    read_map_fault Tx tx_form list ∙ ap (mapped Tx) found

tx_fault : (list : List ℕ) (fault : TxFault) → HasTxFault list fault → read (map_fault Tx tx_form) list ≡ Err (Tx fault)
tx_fault list fault h = read_map_fault Tx tx_form list ∙ ap (mapped Tx) (reads_fault tx_form list fault h)

pub block_fault_cause : (list : List ℕ) (e : ReadFault TxFault) → IsCause (HasTxFault list) e → IsCause (λ fault. read (map_fault Tx tx_form) list ≡ Err fault) (as_block_fault e)
block_fault_cause list Memory h = tt
block_fault_cause list (Fault fault) h = tx_fault list fault h

-- a transaction whose bytes were taken
pub record Found (list text new : List ℕ) (t : Transaction) : Type 0 where
  pub id : sha256_number text ≡ id_of t
  pub read : read (map_fault Tx tx_form) list ≡ Ok (t, new)

pub tx_found : (list text new : List ℕ) (end : ℕ) (t : Transaction) → IsBytes list → SpellsBetween list 0 end t → (let r : Result (List ℕ × List ℕ) BlockFault = read (bytes_form end Short) list in r) ≡ Ok (text, new) → Found list text new t
unfolding id_of
tx_found list text new end t bytes h e =
    let p = ok_pair {E = BlockFault} (take end list) text (drop end list) new (sym (field_there end list h.within) ∙ e) in
    let front : IsBytes (take end list) = IsBytes-append_left (take end list) (drop end list) (subst IsBytes (sym (take-append-drop end list)) bytes) in
    let is : take end list ≡ spelling t = (only_text tx_form spelling IsTx tx_spelled (take end list) t front (spelled_front list end t h)).1 in
    record { id = ap sha256_number (sym p.0 ∙ is); read = tx_read list end t h ∙ ap (λ (r : List ℕ). Ok (t, r)) p.1 }

-- ---- and judged

pub carried_by_rules : (genesis : Bool) (earlier : List Transaction) (list : List ℕ) (t : Transaction) (rest : List ℕ) → read (map_fault Tx tx_form) list ≡ Ok (t, rest) → read (carried_form genesis earlier) list ≡ unless (first_broken (carried_rules genesis earlier t)) (Ok (t, rest))
unfolding carried_form read
carried_by_rules genesis earlier list t rest e =
    read_then (map_fault Tx tx_form) (λ t. rules_form Short (carried_rules genesis earlier t) (whole t)) list ∙ rw e (read_rules Short (carried_rules genesis earlier t) (whole t) rest)

pub carried_stops : (genesis : Bool) (earlier : List Transaction) (list : List ℕ) (e : ReadFault BlockFault) → Fails e (read (map_fault Tx tx_form) list) → Fails e (read (carried_form genesis earlier) list)
unfolding carried_form
carried_stops genesis earlier list Memory h = tt
carried_stops genesis earlier list (Fault fault) h = read_then (map_fault Tx tx_form) (λ t. rules_form Short (carried_rules genesis earlier t) (whole t)) list ∙ rw h refl

pub carried_breaks : (genesis : Bool) (earlier : List Transaction) (list : List ℕ) (t : Transaction) (rest : List ℕ) (fault : BlockFault) → read (map_fault Tx tx_form) list ≡ Ok (t, rest) → Some fault ≡ first_broken (carried_rules genesis earlier t) → read (carried_form genesis earlier) list ≡ Err fault
carried_breaks genesis earlier list t rest fault e h = carried_by_rules genesis earlier list t rest e ∙ rw (← h) refl

pub carried_taken : (genesis : Bool) (earlier : List Transaction) (list : List ℕ) (t : Transaction) (rest : List ℕ) → read (map_fault Tx tx_form) list ≡ Ok (t, rest) → None ≡ first_broken (carried_rules genesis earlier t) → read (carried_form genesis earlier) list ≡ Ok (t, rest)
carried_taken genesis earlier list t rest e h = carried_by_rules genesis earlier list t rest e ∙ rw (← h) refl
