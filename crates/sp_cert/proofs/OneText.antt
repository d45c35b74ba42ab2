-- A certificate is spelled by its text alone.
use Rattle.std.proofs.Common.{◌≡◌, ℕ, zero, suc, ◌+◌, ◌≤◌, Bool, true, false, cond, eqb, ltb, List, [], ◌∷◌, ◌++◌, length, take, drop, None, Ok, Err, Result, refl, sym, ap, subst, ◌∙◌, arith, append_assoc}
use Rattle.std.specs.Prelude.{ℤ, ◌&&◌, nat_le, is_ok}
use Rattle.std.specs.Int.{w16, w32, from_le_bytes, to_le_bytes}
use Rattle.std.specs.List.{flat_map}
use Rattle.std.specs.Str.{bytes_eq}
use Rattle.std.proofs.lemmas.Bool.{and_parts, eqb-true, leb-true, ltb-false}
use Rattle.std.proofs.lemmas.List.{append-nil, length-take-le, take-append-drop}
use Rattle.std.proofs.lemmas.List.Concat.{flat_map-cons}
use Rattle.std.proofs.lemmas.Nat.{le_bytes_2, le_bytes_4}
use Rattle.std.proofs.lemmas.Slice.Eq.{bytes_eq-Decides}
use Rattle.sp_form.specs.Bytes.{IsBytes}
use Rattle.sp_form.specs.Form.{bind, field, first_broken, Form, Rule, rows, rule, whole}
use Rattle.sp_form.specs.Places.{Faulty, Got, Input, Placed, placed, Short}
use Rattle.sp_form.specs.Values.{byte}
use Rattle.sp_form.proofs.Places.{placed_then}
use Rattle.sp_form.proofs.Taking.{IsBytes-append_left, IsBytes-append_right}
use Rattle.sp_ids.specs.Digits.{bytes_of_number}
use Rattle.sp_ids.specs.Key.{bytes_of, number_of}
use Rattle.sp_block.specs.Block.{ReadBlock}
use Rattle.sp_block.specs.declared.fault.BlockFault.{BlockFault}
use Rattle.sp_engine.specs.Blocks.{block_in}
use Rattle.sp_engine.proofs.SpelledBlocks.{block_is_whole}
use Rattle.sp_model.specs.declared.profile.Profile.{Profile}
use Rattle.sp_cert.specs.Certificate.{Certificate, Entries}
use Rattle.sp_cert.specs.Format.{block_form, block_or_none, block_text, blocks_form, broken, byte_of_profile, byte_of_sign, cert_form, cert_text, count_form, cut, Flaw, id_form, length_form, name, name_form, number_form, payload_form, profile_form, profile_of, Malformed, said, said_by, sign_form, sign_of_byte, Whole, world_form, world_text, worlds_form}
use Rattle.sp_cert.proofs.SaidCerts.{field_got, go_got, rule_met}

-- what a value is read off is so
abbrev Back : {A : Type 0} → (List ℕ → A → Type 0) → Form Flaw A → Type 0
Back {A = A} R form = (input rest : Input) (x : A) → IsBytes input.bytes → placed form input ≡ Got x rest → (t : List ℕ) × (input.bytes ≡ t ++ rest.bytes) × R t x

back_whole : {A : Type 0} (R : List ℕ → A → Type 0) (x : A) → R [] x → Back R (whole x)
unfolding placed
back_whole R x r input rest y bytes e =
    let same : x ≡ y = cc e in
    let rests : input ≡ rest = cc e in
    ([], ap (λ (i : Input). i.bytes) rests, subst (R []) same r)

back_then : {A B : Type 0} (R : List ℕ → A → Type 0) (Q : List ℕ → B → Type 0) (form : Form Flaw A) (f : A → Form Flaw B) → Back R form → ((x : A) (t : List ℕ) → R t x → Back (λ u y. Q (t ++ u) y) (f x)) → Back Q (bind form f)
back_then R Q form f p q input rest y bytes e =
    let g = go_got (placed form input) (λ x i. placed (f x) i) y rest (sym (placed_then form f input) ∙ e) in
    let a = p input g.1 g.0 bytes g.2 in
    let later : IsBytes g.1.bytes = IsBytes-append_right a.0 g.1.bytes (subst IsBytes a.1 bytes) in
    let b = q g.0 a.0 a.2 g.1 rest y later g.3 in
    (a.0 ++ b.0, a.1 ∙ ap (λ l. a.0 ++ l) b.1 ∙ sym (append_assoc a.0 b.0 rest.bytes), b.2)

back_field : {A : Type 0} (R : List ℕ → A → Type 0) (width : ℕ) (rules : List ℕ → List (Rule Flaw)) (value : List ℕ → A) → ((bytes : List ℕ) → IsBytes bytes → length bytes ≡ width → first_broken (rules bytes) ≡ None → R bytes (value bytes))
    → Back R (field width cut rules (λ bytes. whole (value bytes)))
unfolding placed
back_field R width rules value p input rest x bytes e =
    let front = take width input.bytes in
    let after : Input = record { at = input.at + width; bytes = drop width input.bytes } in
    let t = field_got (ltb (length input.bytes) width) (first_broken (rules front)) input.at (Got (value front) after) x rest e in
    let long : width ≤ length input.bytes = ltb-false (length input.bytes) width t.0 in
    let same : value front ≡ x = cc t.2 in
    let rests : after ≡ rest = cc t.2 in
    let parts : input.bytes ≡ front ++ drop width input.bytes = sym (take-append-drop width input.bytes) in
    let fronts : IsBytes front = IsBytes-append_left front (drop width input.bytes) (subst IsBytes parts bytes) in
    (front, parts ∙ ap (λ (i : Input). front ++ i.bytes) rests, subst (R front) same (p front fronts (length-take-le width input.bytes long) t.1))

-- the value's own text
abbrev IsText : {A : Type 0} → (A → List ℕ) → List ℕ → A → Type 0
IsText text t x = t ≡ text x

-- ---- values of one kind

back_rows : {A S : Type 0} (text : A → List ℕ) (item : S → Form Flaw A) (carried : S → A → S) → ((s : S) → Back (IsText text) (item s)) → (n : ℕ) (seen : S) → Back (λ t xs. (length xs ≡ n) × (t ≡ flat_map text xs)) (rows item carried n seen)
unfolding rows
back_rows text item carried each zero seen = back_whole (λ t xs. (length xs ≡ 0) × (t ≡ flat_map text xs)) [] (refl, refl)
back_rows {A = A} text item carried each (suc n) seen =
    let Q = λ (t : List ℕ) (xs : List A). (length xs ≡ suc n) × (t ≡ flat_map text xs) in
    let R = λ (t : List ℕ) (xs : List A). (length xs ≡ n) × (t ≡ flat_map text xs) in
    back_then (IsText text) Q (item seen) (λ first. bind (rows item carried n (carried seen first)) (λ others. whole (first ∷ others))) (each seen)
    (λ x t p. back_then R (λ u xs. Q (t ++ u) xs) (rows item carried n (carried seen x)) (λ others. whole (x ∷ others)) (back_rows text item carried each n (carried seen x))
    (λ xs u q. back_whole (λ v ys. Q (t ++ (u ++ v)) ys) (x ∷ xs)
    (ap suc q.0, ap (λ l. t ++ l) (append-nil u ∙ q.1) ∙ ap (λ l. l ++ flat_map text xs) p ∙ sym (flat_map-cons text x xs))))

-- ---- the fields

single : (bytes : List ℕ) → length bytes ≡ 1 → bytes ≡ byte bytes ∷ []
single [] e = absurd (omega (arith, e))
single (x ∷ []) e = refl
single (x ∷ (y ∷ ys)) e = absurd (omega (arith, e))

back_number : Back (IsText (to_le_bytes w16)) number_form
back_number = back_field (IsText (to_le_bytes w16)) 2 (λ bytes. []) (from_le_bytes w16) (λ bytes each len met. sym (le_bytes_2 bytes (from_le_bytes w16 bytes) len each refl))

back_count : Back (IsText (to_le_bytes w16)) count_form
back_count = back_field (IsText (to_le_bytes w16)) 2 (λ bytes. rule (nat_le 1 (from_le_bytes w16 bytes) && nat_le (from_le_bytes w16 bytes) 512) broken ∷ []) (from_le_bytes w16)
    (λ bytes each len met. sym (le_bytes_2 bytes (from_le_bytes w16 bytes) len each refl))

back_length : Back (IsText (to_le_bytes w32)) length_form
back_length = back_field (IsText (to_le_bytes w32)) 4 (λ bytes. rule (nat_le (from_le_bytes w32 bytes) 65536) broken ∷ []) (from_le_bytes w32)
    (λ bytes each len met. sym (le_bytes_4 bytes (from_le_bytes w32 bytes) len each refl))

back_id : Back (IsText bytes_of) id_form
back_id = back_field (IsText bytes_of) 32 (λ bytes. []) number_of (λ bytes each len met. sym (bytes_of_number bytes (record { long = len; small = λ k less. each k })))

sign_back : (n : ℕ) → n ≤ 2 → byte_of_sign (sign_of_byte n) ≡ n
sign_back zero few = refl
sign_back (suc zero) few = refl
sign_back (suc (suc zero)) few = refl
sign_back (suc (suc (suc n))) few = absurd (omega (arith, few))

abbrev sign_text : ℤ → List ℕ
sign_text vote = byte_of_sign vote ∷ []

back_sign : Back (IsText sign_text) sign_form
back_sign = back_field (IsText sign_text) 1 (λ bytes. rule (nat_le (byte bytes) 2) broken ∷ []) (λ bytes. sign_of_byte (byte bytes))
    (λ bytes each len met. single bytes len ∙ ap (λ (n : ℕ). n ∷ []) (sym (sign_back (byte bytes) (leb-true (byte bytes) 2 (rule_met _ met)))))

profile_back : (n : ℕ) → (nat_le 1 n && nat_le n 2) ≡ true → byte_of_profile (profile_of n) ≡ n
profile_back zero met = absurd cc
profile_back (suc zero) met = refl
profile_back (suc (suc zero)) met = refl
profile_back (suc (suc (suc n))) met =
    let k : ℕ = suc (suc (suc n)) in
    let few : k ≤ 2 = leb-true k 2 (and_parts (nat_le 1 k) (nat_le k 2) met).1 in
    absurd (omega (arith, few))

abbrev profile_text : Profile → List ℕ
profile_text profile = byte_of_profile profile ∷ []

back_profile : Back (IsText profile_text) profile_form
back_profile = back_field (IsText profile_text) 1 (λ bytes. rule (nat_le 1 (byte bytes) && nat_le (byte bytes) 2) broken ∷ []) (λ bytes. profile_of (byte bytes))
    (λ bytes each len met. single bytes len ∙ ap (λ (n : ℕ). n ∷ []) (sym (profile_back (byte bytes) (rule_met _ met))))

back_name : Back (λ t x. t ≡ name) name_form
back_name = back_field (λ t x. t ≡ name) 8 (λ bytes. rule (bytes_eq bytes name) broken ∷ []) (λ bytes. bytes) (λ bytes each len met. (bytes_eq-Decides bytes name).0 (rule_met _ met))

-- ---- blocks and worlds

block_bytes : (genesis : Bool) (bytes : List ℕ) (r : Result ReadBlock BlockFault) → block_in genesis bytes ≡ r → is_ok r ≡ true → bytes ≡ (block_or_none bytes r).bytes
block_bytes genesis bytes (Ok block) e ok = sym (ap (λ (b : ReadBlock). b.bytes) (block_is_whole genesis bytes block e))
block_bytes genesis bytes (Err fault) e ok = refl

back_block : (genesis : Bool) → Back (IsText block_text) (block_form genesis)
unfolding block_form
back_block genesis =
    back_then (IsText (to_le_bytes w32)) (IsText block_text) length_form (payload_form genesis) back_length
    (λ n t p. back_field (λ u block. t ++ u ≡ block_text block) n (λ bytes. rule (is_ok (block_in genesis bytes)) broken ∷ []) (λ bytes. block_or_none bytes (block_in genesis bytes))
    (λ bytes each len met.
    let same = block_bytes genesis bytes (block_in genesis bytes) refl (rule_met _ met) in
    ap (λ l. l ++ bytes) (p ∙ ap (to_le_bytes w32) (sym len)) ∙ ap (λ l. to_le_bytes w32 (length l) ++ l) same))

back_world : (n : ℕ) → Back (IsText world_text) (world_form n)
unfolding world_form
back_world n =
    let votes_form = rows (λ (before : Unit {0}). sign_form) (λ (before : Unit {0}) (vote : ℤ). before) n (tt {0}) in
    let R = λ (t : List ℕ) (votes : List ℤ). (length votes ≡ n) × (t ≡ flat_map sign_text votes) in
    back_then (IsText (to_le_bytes w16)) (IsText world_text) number_form (λ number. bind votes_form (λ votes. whole (let w : Entries = record { number = number; votes = votes } in w))) back_number
    (λ number t p. back_then R (λ u world. t ++ u ≡ world_text world) votes_form (λ votes. whole (let w : Entries = record { number = number; votes = votes } in w))
    (back_rows sign_text (λ (before : Unit {0}). sign_form) (λ (before : Unit {0}) (vote : ℤ). before) (λ s. back_sign) n (tt {0}))
    (λ votes u q. back_whole (λ v world. t ++ (u ++ v) ≡ world_text world) _ (ap (λ l. t ++ l) (append-nil u ∙ q.1) ∙ ap (λ l. l ++ flat_map sign_text votes) p)))

-- ---- all of it

joined : (c : Certificate) (t0 t1 t2 t3 t4 t5 t6 t7 t8 : List ℕ) → t0 ≡ name → t1 ≡ profile_text c.profile → t2 ≡ to_le_bytes w16 (length c.blocks) → t3 ≡ flat_map block_text c.blocks → t4 ≡ bytes_of c.x → t5 ≡ bytes_of c.y → t6 ≡ sign_text c.sign
    → t7 ≡ to_le_bytes w16 (length c.worlds) → t8 ≡ flat_map world_text c.worlds → t0 ++ (t1 ++ (t2 ++ (t3 ++ (t4 ++ (t5 ++ (t6 ++ (t7 ++ (t8 ++ [])))))))) ≡ cert_text c
unfolding cert_text
joined c t0 t1 t2 t3 t4 t5 t6 t7 t8 e0 e1 e2 e3 e4 e5 e6 e7 e8 = rw (e0, e1, e2, e3, e4, e5, e6, e7, e8) (simp (append_assoc, append-nil))

back_cert : Back (IsText cert_text) cert_form
unfolding cert_form
back_cert =
    back_then (λ t x. t ≡ name) _ name_form _ back_name (λ name0 t0 e0.
    back_then (IsText profile_text) _ profile_form _ back_profile (λ profile t1 e1.
    back_then (IsText (to_le_bytes w16)) _ count_form _ back_count (λ n t2 e2.
    back_then (λ t blocks. (length blocks ≡ n) × (t ≡ flat_map block_text blocks)) _ (blocks_form n) _ (back_rows block_text block_form (λ (genesis : Bool) (block : ReadBlock). false) back_block n true) (λ blocks t3 e3.
    back_then (IsText bytes_of) _ id_form _ back_id (λ x t4 e4.
    back_then (IsText bytes_of) _ id_form _ back_id (λ y t5 e5.
    back_then (IsText sign_text) _ sign_form _ back_sign (λ sign t6 e6.
    back_then (IsText (to_le_bytes w16)) _ count_form _ back_count (λ count t7 e7.
    back_then (λ t worlds. (length worlds ≡ count) × (t ≡ flat_map world_text worlds)) _ (worlds_form n count) _ (back_rows world_text (λ (before : Unit {0}). world_form n) (λ (before : Unit {0}) (world : Entries). before) (λ s. back_world n) count (tt {0})) (λ worlds t8 e8.
    back_whole _ _ (joined (record { profile = profile; blocks = blocks; x = x; y = y; sign = sign; worlds = worlds }) t0 t1 t2 t3 t4 t5 t6 t7 t8 e0 e1 (e2 ∙ ap (to_le_bytes w16) (sym e3.0)) e3.1 e4 e5 e6 (e7 ∙ ap (to_le_bytes w16) (sym e8.0)) e8.1))))))))))

whole_rest : (total : ℕ) (found : Placed Certificate) (c : Certificate) → said_by total found ≡ Whole c → (rest : Input) × (found ≡ Got c rest) × (length rest.bytes ≡ 0)
whole_rest total (Got d rest) c e =
    let w = within (eqb (length rest.bytes) 0) refl e in
    (rest, w.0, w.1)
  where
    within : (b : Bool) → eqb (length rest.bytes) 0 ≡ b → cond b (Whole d) (Malformed rest.at) ≡ Whole c → (Got d rest ≡ Got c rest) × (length rest.bytes ≡ 0)
    within true none e = (cc, eqb-true (length rest.bytes) 0 none)
    within false none e = absurd cc
whole_rest total (Faulty at) c e = absurd cc
whole_rest total Short c e = absurd cc

empty_of : (l : List ℕ) → length l ≡ 0 → l ≡ []
empty_of [] e = refl
empty_of (x ∷ xs) e = absurd (omega (arith, e))

pub one_text : (bytes : List ℕ) (c : Certificate) → IsBytes bytes → said bytes ≡ Whole c → bytes ≡ cert_text c
unfolding said
one_text bytes c each e =
    let input : Input = record { at = 0; bytes = bytes } in
    let g = whole_rest (length bytes) (placed cert_form input) c e in
    let b = back_cert input g.0 c each g.1 in
    b.1 ∙ ap (λ l. b.0 ++ l) (empty_of g.0.bytes g.2) ∙ append-nil b.0 ∙ b.2
