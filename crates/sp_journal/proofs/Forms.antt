-- What the format of a journal's head spells, and that of a record.
use Rattle.std.proofs.Common.{◌≡◌, ℕ, ◌+◌, ◌≤◌, Bool, true, false, cond, eqb, leb, List, [], ◌∷◌, ◌++◌, length, Option, Some, None, Ok, refl, sym, ap, subst, ◌∙◌, arith, length-append}
use Rattle.std.specs.Prelude.{is_some, unwrap_or}
use Rattle.std.specs.Int.{w32, to_le_bytes, from_le_bytes}
use Rattle.std.specs.Str.{bytes_eq}
use Rattle.std.proofs.lemmas.Bool.{eqb-true, leb-true, le-leb}
use Rattle.std.proofs.lemmas.Nat.{le_bytes_4, from_le_bytes-to_le_bytes_4}
use Rattle.std.proofs.lemmas.Slice.Eq.{bytes_eq-Decides}
use Rattle.sp_form.specs.Form.{Form, bind, rule, whole}
use Rattle.sp_form.specs.Values.{byte, bytes_form}
use Rattle.sp_form.specs.Bytes.{IsBytes}
use Rattle.sp_form.proofs.FormLaws.{again, took}
use Rattle.sp_form.proofs.Simple.{bytes_spelled, one_byte, rule_met}
use Rattle.sp_form.proofs.Taking.{bind_spelled, IsBytes-append_right, last_spelled, said_so, Spelled, value_spelled}
use Rattle.sp_journal.specs.Format.{bits_form, broken, cut, Flaw, gate_form, genesis_form, Head, head_form, head_of, length_form, name_form, record_form, set, sized_form}
use Rattle.sp_block.specs.Judged.{is_block}
use Rattle.sp_model.specs.declared.profile.Profile.{Profile}
use Rattle.sp_model.specs.declared.profile.Profile.TheVariants.{One}
use Rattle.sp_journal.specs.Journal.{head_text}
use Rattle.sp_journal.specs.Versions.{name, profile_of, stem}
use Rattle.sp_model.proofs.ProfileNames.{eight as eight_behind, found, named as named_behind}

gate_spelled : Spelled gate_form (λ gate. gate ∷ []) (λ gate. gate ≡ set)
gate_spelled = value_spelled 1 cut byte (λ gate. rule (eqb gate set) broken ∷ []) (λ gate. gate ∷ []) (λ gate. gate ≡ set) (record {
  only = λ bytes size small met. (one_byte bytes size, eqb-true _ _ (rule_met (eqb (byte bytes) set) broken None met).0);
  size = λ gate m. refl;
  back = λ gate m. refl;
  met = λ gate m. rw m refl;
})

-- ---- the name of a version

named : (profile : Profile) → profile_of (name profile) ≡ Some profile
named profile = named_behind stem profile

eight : (profile : Profile) → length (name profile) ≡ 8
eight profile = eight_behind stem profile refl

name_back : (bytes : List ℕ) → is_some (profile_of bytes) ≡ true → name (unwrap_or (profile_of bytes) One) ≡ bytes
name_back bytes = at (profile_of bytes) (found stem bytes)
  where
    at : (o : Option Profile) → ((profile : Profile) → o ≡ Some profile → bytes ≡ name profile) → is_some o ≡ true → name (unwrap_or o One) ≡ bytes
    at (Some profile) back some = sym (back profile refl)
    at None back some = absurd cc

name_spelled : Spelled name_form name (λ profile. Unit {0})
name_spelled = record {
  takes = λ list x rest bytes e.
      let t = took 8 cut (λ b. rule (is_some (profile_of b)) broken ∷ []) (λ b. unwrap_or (profile_of b) One) list x rest e in
      let of_all : IsBytes (t.bytes ++ rest) = subst IsBytes t.parts bytes in
      let is : name x ≡ t.bytes = ap name (sym t.is) ∙ name_back t.bytes (rule_met (is_some (profile_of t.bytes)) broken None t.met).0 in
      (record { parts = t.parts ∙ ap (λ (b : List ℕ). b ++ rest) (sym is); bytes = IsBytes-append_right t.bytes rest of_all }, tt);
  again = λ x rest m.
      again 8 cut (λ b. rule (is_some (profile_of b)) broken ∷ []) (λ b. unwrap_or (profile_of b) One) (name x) rest (eight x) (rw (named x) refl) ∙ ap (λ (o : Option Profile). Ok (unwrap_or o One, rest)) (named x);
}

bits_spelled : Spelled bits_form (λ bits. bits ∷ []) (λ bits. bits ≤ 64)
bits_spelled = value_spelled 1 cut byte (λ bits. rule (leb bits 64) broken ∷ []) (λ bits. bits ∷ []) (λ bits. bits ≤ 64) (record {
  only = λ bytes size small met. (one_byte bytes size, leb-true _ _ (rule_met (leb (byte bytes) 64) broken None met).0);
  size = λ bits m. refl;
  back = λ bits m. refl;
  met = λ bits m. rw (le-leb bits 64 m) refl;
})

length_spelled : Spelled length_form (to_le_bytes w32) (λ n. n ≤ 65536)
length_spelled = value_spelled 4 cut (from_le_bytes w32) (λ n. rule (leb n 65536) broken ∷ []) (to_le_bytes w32) (λ n. n ≤ 65536) (record {
  only = λ bytes size small met. (le_bytes_4 bytes (from_le_bytes w32 bytes) size small refl, leb-true _ _ (rule_met (leb (from_le_bytes w32 bytes) 65536) broken None met).0);
  size = λ n m. refl;
  back = λ n m. from_le_bytes-to_le_bytes_4 n (omega (arith, m));
  met = λ n m. rw (le-leb n 65536 m) refl;
})

genesis_spelled : (n : ℕ) → Spelled (genesis_form n) (λ bytes. bytes) (λ bytes. (length bytes ≡ n) × (is_block true bytes ≡ true))
genesis_spelled n = value_spelled n cut (λ bytes. bytes) (λ bytes. rule (is_block true bytes) broken ∷ []) (λ bytes. bytes) (λ bytes. (length bytes ≡ n) × (is_block true bytes ≡ true)) (record {
  only = λ bytes size small met. (refl, (size, (rule_met (is_block true bytes) broken None met).0));
  size = λ bytes m. m.0;
  back = λ bytes m. refl;
  met = λ bytes m. rw m.1 refl;
})

-- ---- the head, from its end

abbrev pub last_step : Profile → ℕ → ℕ → Form Flaw Head
last_step profile bits n = bind (genesis_form n) (λ genesis. whole (head_of profile bits genesis))

-- a head of this profile with these bits
abbrev IsOf : Profile → ℕ → Head → Type 0
IsOf profile bits h = (h.bits ≡ bits) × (h.profile ≡ profile)

behind_length : (profile : Profile) (bits n : ℕ) → Spelled (last_step profile bits n) (λ (h : Head). h.genesis) (λ (h : Head). (length h.genesis ≡ n) × (IsOf profile bits h × (is_block true h.genesis ≡ true)))
behind_length profile bits n =
    said_so (last_step profile bits n) (λ (h : Head). h.genesis) (λ (h : Head). IsOf profile bits h × ((length h.genesis ≡ n) × (is_block true h.genesis ≡ true))) (λ (h : Head). (length h.genesis ≡ n) × (IsOf profile bits h × (is_block true h.genesis ≡ true)))
    (λ h m. (m.1.0, (m.0, m.1.1))) (λ h m. (m.1.0, (m.0, m.1.1)))
    (last_spelled (genesis_form n) (head_of profile bits) (λ bytes. bytes) (λ bytes. (length bytes ≡ n) × (is_block true bytes ≡ true)) (IsOf profile bits) (λ (h : Head). h.genesis)
    (λ genesis. (refl, (refl, refl))) (λ h m. λ i. head_of (sym m.1 i) (sym m.0 i) h.genesis) (genesis_spelled n))

abbrev sized_text : Head → List ℕ
sized_text h = to_le_bytes w32 (length h.genesis) ++ h.genesis

abbrev pub behind_bits : Profile → ℕ → Form Flaw Head
behind_bits profile bits = bind length_form (last_step profile bits)

-- its genesis block is one
abbrev HasGenesis : Head → Type 0
HasGenesis h = (length h.genesis ≤ 65536) × (is_block true h.genesis ≡ true)

bits_known : (profile : Profile) (bits : ℕ) → Spelled (behind_bits profile bits) sized_text (λ (h : Head). (h.bits ≡ bits) × ((h.profile ≡ profile) × HasGenesis h))
bits_known profile bits =
    said_so (behind_bits profile bits) sized_text (λ (h : Head). (length h.genesis ≤ 65536) × (IsOf profile bits h × (is_block true h.genesis ≡ true))) (λ (h : Head). (h.bits ≡ bits) × ((h.profile ≡ profile) × HasGenesis h))
    (λ h m. (m.1.0.0, (m.1.0.1, (m.0, m.1.1)))) (λ h m. (m.1.1.0, ((m.0, m.1.0), m.1.1.1)))
    (bind_spelled length_form (last_step profile bits) (to_le_bytes w32) (λ (h : Head). h.genesis) (λ n. n ≤ 65536) (λ (h : Head). IsOf profile bits h × (is_block true h.genesis ≡ true)) (λ (h : Head). length h.genesis) length_spelled (λ n m. behind_length profile bits n))

-- what a head meets
abbrev pub IsHead : Head → Type 0
IsHead h = (h.bits ≤ 64) × HasGenesis h

abbrev pub behind_name : Profile → Form Flaw Head
behind_name profile = bind bits_form (behind_bits profile)

abbrev bits_text : Head → List ℕ
bits_text h = (h.bits ∷ []) ++ sized_text h

name_known : (profile : Profile) → Spelled (behind_name profile) bits_text (λ (h : Head). (h.profile ≡ profile) × IsHead h)
name_known profile =
    said_so (behind_name profile) bits_text (λ (h : Head). (h.bits ≤ 64) × ((h.profile ≡ profile) × HasGenesis h)) (λ (h : Head). (h.profile ≡ profile) × IsHead h)
    (λ h m. (m.1.0, (m.0, m.1.1))) (λ h m. (m.1.0, (m.0, m.1.1)))
    (bind_spelled bits_form (behind_bits profile) (λ bits. bits ∷ []) sized_text (λ bits. bits ≤ 64) (λ (h : Head). (h.profile ≡ profile) × HasGenesis h) (λ (h : Head). h.bits) bits_spelled (λ bits m. bits_known profile bits))

abbrev pub behind_gate : Form Flaw Head
behind_gate = bind name_form behind_name

gate_known : (gate : ℕ) → gate ≡ set → Spelled behind_gate (λ (h : Head). name h.profile ++ bits_text h) (λ (h : Head). (set ≡ gate) × IsHead h)
gate_known gate is =
    said_so behind_gate (λ (h : Head). name h.profile ++ bits_text h) (λ (h : Head). Unit {0} × IsHead h) (λ (h : Head). (set ≡ gate) × IsHead h) (λ h m. (sym is, m.1)) (λ h m. (tt, m.1))
    (bind_spelled name_form behind_name name bits_text (λ profile. Unit {0}) IsHead (λ (h : Head). h.profile) name_spelled (λ profile m. name_known profile))

pub head_spelled : Spelled head_form (λ (h : Head). (set ∷ []) ++ (name h.profile ++ bits_text h)) IsHead
unfolding head_form
head_spelled =
    said_so (bind gate_form (λ _. behind_gate)) (λ (h : Head). (set ∷ []) ++ (name h.profile ++ bits_text h)) (λ (h : Head). (set ≡ set) × IsHead h) IsHead (λ h m. m.1) (λ h m. (refl, m))
    (bind_spelled gate_form (λ _. behind_gate) (λ gate. gate ∷ []) (λ (h : Head). name h.profile ++ bits_text h) (λ gate. gate ≡ set) IsHead (λ (h : Head). set) gate_spelled gate_known)

-- how many bytes it has
pub head_size : (h : Head) → length (head_text h) ≡ 14 + length h.genesis
head_size h = omega (arith, length-append (name h.profile) (bits_text h), eight h.profile)

pub head_fits : (h : Head) → length h.genesis ≤ 65536 → length (head_text h) ≤ 65550
head_fits h few = omega (arith, head_size h, few)

-- ---- a record, from its end

bytes_known : (n : ℕ) → Spelled (bytes_form {E = Flaw} n cut) (λ bytes. bytes) (λ bytes. (length bytes ≡ n) × Unit {0})
bytes_known n = said_so (bytes_form n cut) (λ bytes. bytes) (λ bytes. length bytes ≡ n) (λ bytes. (length bytes ≡ n) × Unit {0}) (λ bytes m. (m, tt)) (λ bytes m. m.0) (bytes_spelled n cut)

sized_spelled : (gate : ℕ) → gate ≡ set → Spelled sized_form (λ bytes. to_le_bytes w32 (length bytes) ++ bytes) (λ bytes. (set ≡ gate) × (length bytes ≤ 65536))
unfolding sized_form
sized_spelled gate is =
    said_so (bind length_form (λ n. bytes_form n cut)) (λ bytes. to_le_bytes w32 (length bytes) ++ bytes) (λ bytes. (length bytes ≤ 65536) × Unit {0}) (λ bytes. (set ≡ gate) × (length bytes ≤ 65536)) (λ bytes m. (sym is, m.0)) (λ bytes m. (m.1, tt))
    (bind_spelled length_form (λ n. bytes_form n cut) (to_le_bytes w32) (λ bytes. bytes) (λ n. n ≤ 65536) (λ bytes. Unit {0}) length length_spelled (λ n m. bytes_known n))

pub record_spelled : Spelled record_form (λ bytes. (set ∷ []) ++ (to_le_bytes w32 (length bytes) ++ bytes)) (λ bytes. length bytes ≤ 65536)
unfolding record_form
record_spelled =
    said_so (bind gate_form (λ _. sized_form)) (λ bytes. (set ∷ []) ++ (to_le_bytes w32 (length bytes) ++ bytes)) (λ bytes. (set ≡ set) × (length bytes ≤ 65536)) (λ bytes. length bytes ≤ 65536) (λ bytes m. m.1) (λ bytes m. (refl, m))
    (bind_spelled gate_form (λ _. sized_form) (λ gate. gate ∷ []) (λ bytes. to_le_bytes w32 (length bytes) ++ bytes) (λ gate. gate ≡ set) (λ bytes. length bytes ≤ 65536) (λ bytes. set) gate_spelled sized_spelled)
