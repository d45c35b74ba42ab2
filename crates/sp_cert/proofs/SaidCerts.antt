-- What bytes say is a certificate.
use Rattle.std.proofs.Common.{◌≡◌, ℕ, zero, suc, ◌+◌, ◌≤◌, Bool, true, false, cond, ltb, List, [], ◌∷◌, length, take, drop, Option, None, Some, Ok, Err, Result, refl, sym, ap, subst, ◌∙◌, arith}
use Rattle.std.specs.Prelude.{ℤ, pos, negsuc, All, ◌&&◌, ◌==◌, nat_le, is_ok}
use Rattle.std.specs.Int.{w16, from_le_bytes}
use Rattle.std.proofs.lemmas.Bool.{and_parts, leb-true, ltb-false}
use Rattle.std.proofs.lemmas.List.{length-take-le}
use Rattle.std.proofs.lemmas.List.Elements.{All-cons}
use Rattle.sp_form.specs.Form.{bind, field, first_broken, Form, Rule, rows, rule, whole}
use Rattle.sp_form.specs.Places.{Faulty, go_on, Got, Input, Placed, placed, Short, unless_broken}
use Rattle.sp_form.specs.Values.{byte}
use Rattle.sp_form.proofs.Places.{placed_then}
use Rattle.sp_block.specs.Block.{IsGenesis, IsOther, parts_of, ReadBlock}
use Rattle.sp_block.specs.Spelling.{SpellsBlock}
use Rattle.sp_block.specs.declared.fault.BlockFault.{BlockFault}
use Rattle.sp_engine.specs.Blocks.{block_in}
use Rattle.sp_engine.proofs.SpelledBlocks.{block_is_spelled, block_is_whole}
use Rattle.sp_model.specs.declared.profile.Profile.{Profile}
use Rattle.sp_cert.specs.Certificate.{AreListed, AreVotes, Entries, IsCertificate, IsSign}
use Rattle.sp_cert.specs.Format.{block_form, block_or_none, blocks_form, broken, cert_form, count_form, cut, Flaw, id_form, length_form, name_form, number_form, payload_form, profile_form, sign_form, sign_of_byte, world_form, worlds_form}

-- what is read by a format is so
abbrev pub Makes : {A : Type 0} → (A → Type 0) → Form Flaw A → Type 0
Makes {A = A} P form = (input rest : Input) (x : A) → placed form input ≡ Got x rest → P x

makes_whole : {A : Type 0} (P : A → Type 0) (x : A) → P x → Makes P (whole x)
unfolding placed
makes_whole P x p input rest y e =
    let same : x ≡ y = cc e in
    subst P same p

pub go_got : {A B : Type 0} (found : Placed A) (next : A → Input → Placed B) (y : B) (rest : Input) → go_on found next ≡ Got y rest → (x : A) × (i : Input) × (found ≡ Got x i) × (next x i ≡ Got y rest)
go_got (Got x i) next y rest e = (x, i, refl, e)
go_got (Faulty at) next y rest e = absurd cc
go_got Short next y rest e = absurd cc

makes_then : {A B : Type 0} (P : A → Type 0) (Q : B → Type 0) (form : Form Flaw A) (f : A → Form Flaw B) → Makes P form → ((x : A) → P x → Makes Q (f x)) → Makes Q (bind form f)
makes_then P Q form f p q input rest y e =
    let g = go_got (placed form input) (λ x i. placed (f x) i) y rest (sym (placed_then form f input) ∙ e) in
    q g.0 (p input g.1 g.0 g.2) g.1 rest y g.3

pub field_got : {A : Type 0} (b : Bool) (o : Option Flaw) (at : ℕ) (found : Placed A) (x : A) (rest : Input) → cond b Short (unless_broken o at found) ≡ Got x rest → (b ≡ false) × (o ≡ None) × (found ≡ Got x rest)
field_got true o at found x rest e = absurd cc
field_got false None at found x rest e = (refl, refl, e)
field_got false (Some flaw) at found x rest e = absurd cc

pub makes_field : {A : Type 0} (P : A → Type 0) (width : ℕ) (rules : List ℕ → List (Rule Flaw)) (value : List ℕ → A) → ((bytes : List ℕ) → length bytes ≡ width → first_broken (rules bytes) ≡ None → P (value bytes))
    → Makes P (field width cut rules (λ bytes. whole (value bytes)))
unfolding placed
makes_field P width rules value p input rest x e =
    let front = take width input.bytes in
    let after : Input = record { at = input.at + width; bytes = drop width input.bytes } in
    let t = field_got (ltb (length input.bytes) width) (first_broken (rules front)) input.at (Got (value front) after) x rest e in
    let long : width ≤ length input.bytes = ltb-false (length input.bytes) width t.0 in
    let same : value front ≡ x = cc t.2 in
    subst P same (p front (length-take-le width input.bytes long) t.1)

pub rule_met : (b : Bool) → first_broken (rule b broken ∷ []) ≡ None → b ≡ true
rule_met true e = refl
rule_met false e = absurd cc

-- ---- the fields

abbrev pub Any : {A : Type 0} → A → Type 0
Any x = Unit {0}

pub makes_any : {A : Type 0} (form : Form Flaw A) → Makes Any form
makes_any form input rest x e = tt

pub makes_count : Makes (λ n. (1 ≤ n) × (n ≤ 512)) count_form
makes_count = makes_field (λ n. (1 ≤ n) × (n ≤ 512)) 2 (λ bytes. rule (nat_le 1 (from_le_bytes w16 bytes) && nat_le (from_le_bytes w16 bytes) 512) broken ∷ []) (from_le_bytes w16)
    (λ bytes len met.
    let n = from_le_bytes w16 bytes in
    let both = and_parts (nat_le 1 n) (nat_le n 512) (rule_met _ met) in
    (leb-true 1 n both.0, leb-true n 512 both.1))

sign_cases : (a b : Bool) → IsSign (cond a (negsuc 0) (cond b (pos 0) (pos 1)))
sign_cases true b = refl
sign_cases false true = refl
sign_cases false false = refl

makes_sign : Makes IsSign sign_form
makes_sign = makes_field IsSign 1 (λ bytes. rule (nat_le (byte bytes) 2) broken ∷ []) (λ bytes. sign_of_byte (byte bytes)) (λ bytes len met. sign_cases (byte bytes == 0) (byte bytes == 1))

-- ---- blocks

spelled_ok : (genesis : Bool) (bytes : List ℕ) (r : Result ReadBlock BlockFault) → block_in genesis bytes ≡ r → is_ok r ≡ true → SpellsBlock (block_or_none bytes r).bytes genesis (parts_of (block_or_none bytes r))
spelled_ok genesis bytes (Ok block) e ok =
    let whole = block_is_whole genesis bytes block e in
    let same : bytes ≡ block.bytes = sym (ap (λ (b : ReadBlock). b.bytes) whole) in
    let spells = (block_is_spelled genesis bytes (parts_of block)).0 (e ∙ ap (λ (b : ReadBlock). Ok b) whole) in
    subst (λ (l : List ℕ). SpellsBlock l genesis (parts_of block)) same spells
spelled_ok genesis bytes (Err fault) e ok = absurd cc

makes_block : (genesis : Bool) → Makes (λ block. SpellsBlock block.bytes genesis (parts_of block)) (block_form genesis)
unfolding block_form
makes_block genesis =
    let P = λ (block : ReadBlock). SpellsBlock block.bytes genesis (parts_of block) in
    makes_then Any P length_form (payload_form genesis) (makes_any length_form) (λ n known. makes_field P n (λ bytes. rule (is_ok (block_in genesis bytes)) broken ∷ []) (λ bytes. block_or_none bytes (block_in genesis bytes))
    (λ bytes len met. spelled_ok genesis bytes (block_in genesis bytes) refl (rule_met _ met)))

-- so many values, each of them so, where what is carried stays the same

makes_rows : {A S : Type 0} (P : A → Type 0) (item : S → Form Flaw A) (carried : S → A → S) (seen : S) → ((x : A) → carried seen x ≡ seen) → Makes P (item seen) → (n : ℕ) → Makes (λ xs. (length xs ≡ n) × All P xs) (rows item carried n seen)
unfolding rows
makes_rows P item carried seen stays each zero = makes_whole (λ xs. (length xs ≡ 0) × All P xs) [] (refl, λ k d less. absurd (omega (arith, less)))
makes_rows {A = A} {S = S} P item carried seen stays each (suc n) =
    let Q = λ (xs : List A). (length xs ≡ suc n) × All P xs in
    let R = λ (xs : List A). (length xs ≡ n) × All P xs in
    let others = λ (s : S) (first : A). bind (rows item carried n s) (λ others. whole (first ∷ others)) in
    makes_then P Q (item seen) (λ first. others (carried seen first) first) each
    (λ x p. subst (λ (s : S). Makes Q (others s x)) (sym (stays x))
    (makes_then R Q (rows item carried n seen) (λ others. whole (x ∷ others)) (makes_rows P item carried seen stays each n)
    (λ xs r. makes_whole Q (x ∷ xs) (ap suc r.0, All-cons P x xs p r.1))))

makes_blocks : (n : ℕ) → 1 ≤ n → n ≤ 512 → Makes (λ blocks. (length blocks ≡ n) × AreListed blocks) (blocks_form n)
unfolding rows
makes_blocks zero some few = absurd (omega (arith, some))
makes_blocks (suc n) some few =
    let Q = λ (blocks : List ReadBlock). (length blocks ≡ suc n) × AreListed blocks in
    let R = λ (blocks : List ReadBlock). (length blocks ≡ n) × All IsOther blocks in
    makes_then IsGenesis Q (block_form true) (λ first. bind (rows block_form (λ (genesis : Bool) (block : ReadBlock). false) n false) (λ others. whole (first ∷ others))) (makes_block true)
    (λ first p. makes_then R Q (rows block_form (λ (genesis : Bool) (block : ReadBlock). false) n false) (λ others. whole (first ∷ others))
    (makes_rows IsOther block_form (λ (genesis : Bool) (block : ReadBlock). false) false (λ x. refl) (makes_block false) n)
    (λ others r. makes_whole Q (first ∷ others) (ap suc r.0, record { genesis = first; others = others; first = refl; is_genesis = p; are_other = r.1; few = omega (arith, r.0, few) })))

-- ---- worlds

makes_world : (n : ℕ) → Makes (AreVotes n) (world_form n)
unfolding world_form
makes_world n =
    let votes_form = rows (λ (before : Unit {0}). sign_form) (λ (before : Unit {0}) (vote : ℤ). before) n (tt {0}) in
    let R = λ (votes : List ℤ). (length votes ≡ n) × All IsSign votes in
    makes_then Any (AreVotes n) number_form (λ number. bind votes_form (λ votes. whole (let w : Entries = record { number = number; votes = votes } in w))) (makes_any number_form)
    (λ number known. makes_then R (AreVotes n) votes_form (λ votes. whole (let w : Entries = record { number = number; votes = votes } in w))
    (makes_rows IsSign (λ (before : Unit {0}). sign_form) (λ (before : Unit {0}) (vote : ℤ). before) (tt {0}) (λ x. refl) makes_sign n)
    (λ votes r. makes_whole (AreVotes n) _ (record { long = r.0; signs = r.1 })))

makes_worlds : (n count : ℕ) → Makes (λ worlds. (length worlds ≡ count) × All (AreVotes n) worlds) (worlds_form n count)
makes_worlds n count = makes_rows (AreVotes n) (λ (before : Unit {0}). world_form n) (λ (before : Unit {0}) (world : Entries). before) (tt {0}) (λ x. refl) (makes_world n) count

-- ---- all of it

made_cert : (n count : ℕ) (profile : Profile) (blocks : List ReadBlock) (x y : ℕ) (sign : ℤ) (worlds : List Entries) → (length blocks ≡ n) × AreListed blocks → IsSign sign → (1 ≤ count) × (count ≤ 512) → (length worlds ≡ count) × All (AreVotes n) worlds
    → IsCertificate (record { profile = profile; blocks = blocks; x = x; y = y; sign = sign; worlds = worlds })
made_cert n count profile blocks x y sign worlds listed signed counted told = record {
  blocks = listed.1;
  sign = signed;
  some = omega (arith, counted.0, told.0);
  few = omega (arith, counted.1, told.0);
  worlds = subst (λ (k : ℕ). All (AreVotes k) worlds) (sym listed.0) told.1;
}

pub makes_cert : Makes IsCertificate cert_form
unfolding cert_form
makes_cert =
    makes_then Any IsCertificate name_form _ (makes_any name_form) (λ name k0.
    makes_then Any IsCertificate profile_form _ (makes_any profile_form) (λ profile k1.
    makes_then (λ n. (1 ≤ n) × (n ≤ 512)) IsCertificate count_form _ makes_count (λ n few.
    makes_then (λ blocks. (length blocks ≡ n) × AreListed blocks) IsCertificate (blocks_form n) _ (makes_blocks n few.0 few.1) (λ blocks listed.
    makes_then Any IsCertificate id_form _ (makes_any id_form) (λ x k2.
    makes_then Any IsCertificate id_form _ (makes_any id_form) (λ y k3.
    makes_then IsSign IsCertificate sign_form _ makes_sign (λ sign signed.
    makes_then (λ n. (1 ≤ n) × (n ≤ 512)) IsCertificate count_form _ makes_count (λ count counted.
    makes_then (λ worlds. (length worlds ≡ count) × All (AreVotes n) worlds) IsCertificate (worlds_form n count) _ (makes_worlds n count) (λ worlds told.
    makes_whole IsCertificate _ (made_cert n count profile blocks x y sign worlds listed signed counted told))))))))))
