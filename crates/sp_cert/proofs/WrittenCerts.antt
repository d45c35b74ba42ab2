-- What is written is read.
use Rattle.std.proofs.Common.{◌≡◌, ℕ, zero, suc, ◌+◌, ◌<◌, ◌≤◌, ◌^◌, Bool, true, false, List, [], ◌∷◌, ◌++◌, length, None, Ok, refl, sym, ap, subst, ◌∙◌, arith, append_assoc, length-append}
use Rattle.std.specs.Prelude.{ℤ, pos, negsuc, All, ◌&&◌, nat_le}
use Rattle.std.specs.Int.{w16, w32, to_le_bytes, from_le_bytes}
use Rattle.std.specs.List.{flat_map}
use Rattle.std.proofs.lemmas.Bool.{le-leb, ne_eqb}
use Rattle.std.proofs.lemmas.List.{append-nil}
use Rattle.std.proofs.lemmas.List.Concat.{flat_map-cons}
use Rattle.std.proofs.lemmas.Nat.{from_le_bytes-to_le_bytes_2, from_le_bytes-to_le_bytes_4}
use Rattle.sp_form.specs.Form.{Form, field, whole, ◌>>=◌, rows, rule, Rule, first_broken}
use Rattle.sp_form.specs.Places.{Placed, Got, placed, go_on}
use Rattle.sp_form.specs.Values.{byte}
use Rattle.sp_form.proofs.Places.{placed_passes, placed_then}
use Rattle.sp_ids.specs.Digits.{length-bytes_of, number_of_bytes}
use Rattle.sp_ids.specs.Key.{bytes_of, number_of}
use Rattle.sp_block.specs.Block.{IsBlock, IsOther, parts_of, ReadBlock}
use Rattle.sp_block.specs.Spelling.{SpellsBlock}
use Rattle.sp_engine.specs.Blocks.{block_in}
use Rattle.sp_engine.proofs.SpelledBlocks.{spelled_block}
use Rattle.sp_model.specs.declared.profile.Profile.{Profile}
use Rattle.sp_model.specs.declared.profile.Profile.TheVariants.{One, Two}
use Rattle.sp_cert.specs.Certificate.{AreListed, AreVotes, Certificate, Entries, IsCertificate, IsSign}
use Rattle.sp_cert.specs.Format.{block_form, block_or_none, block_text, blocks_form, broken, byte_of_profile, byte_of_sign, cert_form, cert_text, count_form, cut, FitsBytes, Flaw, id_form, length_form, name, name_form, number_form, payload_form, profile_form, profile_of, said, said_by, sign_form, sign_of_byte, Whole, world_form, world_text, worlds_form}

abbrev pub Reads : {A : Type 0} → Form Flaw A → List ℕ → A → Type 0
Reads form text x = (at : ℕ) (rest : List ℕ) → placed form (record { at = at; bytes = text ++ rest }) ≡ Got x (record { at = at + length text; bytes = rest })

reads_whole : {A : Type 0} (x : A) → Reads (whole x) [] x
unfolding placed
reads_whole x at rest =
    let e : at ≡ at + 0 = omega arith in
    ap (λ (n : ℕ). Got x (record { at = n; bytes = rest })) e

reads_then : {A B : Type 0} (form : Form Flaw A) (f : A → Form Flaw B) (t u : List ℕ) (x : A) (y : B) → Reads form t x → Reads (f x) u y → Reads (form >>= f) (t ++ u) y
reads_then {A = A} form f t u x y p q at rest =
    let e : at + length t + length u ≡ at + length (t ++ u) = omega (arith, length-append t u) in
    ap (λ (l : List ℕ). placed (form >>= f) (record { at = at; bytes = l })) (append_assoc t u rest)
    ∙ placed_then form f (record { at = at; bytes = t ++ (u ++ rest) })
    ∙ ap (λ (r : Placed A). go_on r (λ x i. placed (f x) i)) (p at (u ++ rest))
    ∙ q (at + length t) rest
    ∙ ap (λ (n : ℕ). Got y (record { at = n; bytes = rest })) e

reads_field : {A : Type 0} (width : ℕ) (rules : List ℕ → List (Rule Flaw)) (value : List ℕ → A) (bytes : List ℕ) (x : A) → length bytes ≡ width → first_broken (rules bytes) ≡ None → value bytes ≡ x
    → Reads (field width cut rules (λ bytes. whole (value bytes))) bytes x
unfolding placed
reads_field {A = A} width rules value bytes x len met e at rest =
    placed_passes width cut rules (λ bytes. whole (value bytes)) at bytes rest len met
    ∙ ap (λ (v : A). Got v (record { at = at + width; bytes = rest })) e
    ∙ ap (λ (n : ℕ). Got x (record { at = at + n; bytes = rest })) (sym len)

met : (b : Bool) → b ≡ true → first_broken (rule b broken ∷ []) ≡ None
met b e = rw e refl

both : (a b : Bool) → a ≡ true → b ≡ true → (a && b) ≡ true
both a b p q = rw (p, q) refl

-- ---- values one after another

row_then : {A S : Type 0} (item : S → Form Flaw A) (carried : S → A → S) (text : A → List ℕ) (seen : S) (x : A) (xs : List A) → Reads (item seen) (text x) x
    → Reads (rows item carried (length xs) (carried seen x)) (flat_map text xs) xs → Reads (rows item carried (suc (length xs)) seen) (flat_map text (x ∷ xs)) (x ∷ xs)
unfolding rows
row_then {A = A} item carried text seen x xs p q =
    let others = λ (first : A). rows item carried (length xs) (carried seen first) >>= λ others. whole (first ∷ others) in
    let e : text x ++ (flat_map text xs ++ []) ≡ flat_map text (x ∷ xs) = ap (λ l. text x ++ l) (append-nil (flat_map text xs)) ∙ sym (flat_map-cons text x xs) in
    let r = reads_then (rows item carried (length xs) (carried seen x)) (λ others. whole (x ∷ others)) (flat_map text xs) [] xs (x ∷ xs) q (reads_whole (x ∷ xs)) in
    subst (λ (l : List ℕ). Reads (item seen >>= others) l (x ∷ xs)) e (reads_then (item seen) others (text x) (flat_map text xs ++ []) x (x ∷ xs) p r)

-- what is carried stays the same
reads_rows : {A S : Type 0} (item : S → Form Flaw A) (carried : S → A → S) (text : A → List ℕ) (seen : S) (P : A → Type 0) → ((x : A) → carried seen x ≡ seen) → ((x : A) → P x → Reads (item seen) (text x) x)
    → (xs : List A) → All P xs → Reads (rows item carried (length xs) seen) (flat_map text xs) xs
unfolding rows
reads_rows item carried text seen P stays each [] all = reads_whole []
reads_rows {S = S} item carried text seen P stays each (x ∷ xs) all =
    let here : P x = all 0 x (omega arith) in
    let later : All P xs = λ k d less. all (suc k) d (omega (arith, less)) in
    row_then item carried text seen x xs (each x here)
    (subst (λ (s : S). Reads (rows item carried (length xs) s) (flat_map text xs) xs) (sym (stays x)) (reads_rows item carried text seen P stays each xs later))

-- ---- the fields

reads_name : Reads name_form name name
reads_name = reads_field 8 _ (λ bytes. bytes) name name refl refl refl

reads_profile : (p : Profile) → Reads profile_form (byte_of_profile p ∷ []) p
reads_profile One = reads_field 1 _ (λ bytes. profile_of (byte bytes)) (1 ∷ []) One refl refl refl
reads_profile Two = reads_field 1 _ (λ bytes. profile_of (byte bytes)) (2 ∷ []) Two refl refl refl

reads_count : (n : ℕ) → 1 ≤ n → n ≤ 512 → Reads count_form (to_le_bytes w16 n) n
reads_count n some few =
    let back : from_le_bytes w16 (to_le_bytes w16 n) ≡ n = from_le_bytes-to_le_bytes_2 n (omega (arith, few)) in
    reads_field 2 (λ bytes. rule (nat_le 1 (from_le_bytes w16 bytes) && nat_le (from_le_bytes w16 bytes) 512) broken ∷ []) (from_le_bytes w16) (to_le_bytes w16 n) n refl
    (met _ (ap (λ k. nat_le 1 k && nat_le k 512) back ∙ both (nat_le 1 n) (nat_le n 512) (le-leb 1 n some) (le-leb n 512 few))) back

reads_length : (n : ℕ) → n ≤ 65536 → Reads length_form (to_le_bytes w32 n) n
reads_length n few =
    let back : from_le_bytes w32 (to_le_bytes w32 n) ≡ n = from_le_bytes-to_le_bytes_4 n (omega (arith, few)) in
    reads_field 4 (λ bytes. rule (nat_le (from_le_bytes w32 bytes) 65536) broken ∷ []) (from_le_bytes w32) (to_le_bytes w32 n) n refl
    (met _ (ap (λ k. nat_le k 65536) back ∙ le-leb n 65536 few)) back

reads_number : (n : ℕ) → n < 65536 → Reads number_form (to_le_bytes w16 n) n
reads_number n few = reads_field 2 (λ bytes. []) (from_le_bytes w16) (to_le_bytes w16 n) n refl refl (from_le_bytes-to_le_bytes_2 n few)

reads_id : (n : ℕ) → n < 2 ^ 256 → Reads id_form (bytes_of n) n
reads_id n small = reads_field 32 (λ bytes. []) number_of (bytes_of n) n (length-bytes_of n) refl (number_of_bytes n small)

reads_sign : (v : ℤ) → IsSign v → Reads sign_form (byte_of_sign v ∷ []) v
reads_sign (negsuc n) e = reads_field 1 _ (λ bytes. sign_of_byte (byte bytes)) (0 ∷ []) (negsuc n) refl refl e
reads_sign (pos zero) e = reads_field 1 _ (λ bytes. sign_of_byte (byte bytes)) (1 ∷ []) (pos 0) refl refl refl
reads_sign (pos (suc n)) e =
    let byte_is : byte_of_sign (pos (suc n)) ≡ 2 = rw (ne_eqb (suc n) 0 (λ none. absurd (omega (arith, none)))) refl in
    subst (λ (b : ℕ). Reads sign_form (b ∷ []) (pos (suc n))) (sym byte_is) (reads_field 1 _ (λ bytes. sign_of_byte (byte bytes)) (2 ∷ []) (pos (suc n)) refl refl e)

-- ---- blocks

block_back : (genesis : Bool) (b : ReadBlock) → IsBlock b → SpellsBlock b.bytes genesis (parts_of b) → block_in genesis b.bytes ≡ Ok b
block_back genesis b block s = spelled_block genesis b.bytes (parts_of b) s ∙ ap (λ (i : ℕ). Ok (record b { id = i })) (sym block.id)

reads_block : (genesis : Bool) (b : ReadBlock) → IsBlock b → SpellsBlock b.bytes genesis (parts_of b) → Reads (block_form genesis) (block_text b) b
unfolding block_form
reads_block genesis b block s =
    let back = block_back genesis b block s in
    reads_then length_form (payload_form genesis) (to_le_bytes w32 (length b.bytes)) b.bytes (length b.bytes) b (reads_length (length b.bytes) s.short)
    (reads_field (length b.bytes) _ (λ bytes. block_or_none bytes (block_in genesis bytes)) b.bytes b refl (rw back refl) (rw back refl))

abbrev IsLater : ReadBlock → Type 0
IsLater b = IsBlock b × IsOther b

reads_blocks : (blocks : List ReadBlock) → AreListed blocks → All IsBlock blocks → Reads (blocks_form (length blocks)) (flat_map block_text blocks) blocks
reads_blocks blocks listed all =
    let g = listed.genesis in
    let others = listed.others in
    let all_of : All IsBlock (g ∷ others) = subst (λ (l : List ReadBlock). All IsBlock l) listed.first all in
    let here : IsBlock g = all_of 0 g (omega arith) in
    let later : All IsLater others = λ k d less. (all_of (suc k) d (omega (arith, less)), listed.are_other k d less) in
    subst (λ (l : List ReadBlock). Reads (blocks_form (length l)) (flat_map block_text l) l) (sym listed.first)
    (row_then block_form (λ genesis block. false) block_text true g others (reads_block true g here listed.is_genesis)
    (reads_rows block_form (λ genesis block. false) block_text false IsLater (λ b. refl) (λ b p. reads_block false b p.0 p.1) others later))

-- ---- worlds

abbrev IsRead : ℕ → Entries → Type 0
IsRead n world = AreVotes n world × (world.number < 65536)

abbrev vote_text : ℤ → List ℕ
vote_text vote = byte_of_sign vote ∷ []

reads_world : (n : ℕ) (world : Entries) → IsRead n world → Reads (world_form n) (world_text world) world
unfolding world_form
reads_world n world p =
    let votes = λ (count : ℕ). rows (λ before. sign_form) (λ before vote. before) count (tt {0}) in
    let q = reads_rows (λ before. sign_form) (λ before vote. before) vote_text (tt {0}) IsSign (λ x. refl) reads_sign world.votes p.0.signs in
    let r = reads_then (votes (length world.votes)) (λ votes. whole (record { number = world.number; votes = votes })) (flat_map vote_text world.votes) [] world.votes world q (reads_whole world) in
    let s = subst (λ (l : List ℕ). Reads (votes (length world.votes) >>= λ votes. whole (record { number = world.number; votes = votes })) l world) (append-nil (flat_map vote_text world.votes)) r in
    reads_then number_form (λ number. votes n >>= λ votes. whole (record { number = number; votes = votes })) (to_le_bytes w16 world.number) (flat_map vote_text world.votes) world.number world (reads_number world.number p.1)
    (subst (λ (k : ℕ). Reads (votes k >>= λ votes. whole (record { number = world.number; votes = votes })) (flat_map vote_text world.votes) world) p.0.long s)

-- ---- a certificate

module _ (c : Certificate) (is : IsCertificate c) (fits : FitsBytes c) where
  worlds_read : Reads (worlds_form (length c.blocks) (length c.worlds)) (flat_map world_text c.worlds) c.worlds
  worlds_read =
      reads_rows (λ before. world_form (length c.blocks)) (λ before world. before) world_text (tt {0}) (IsRead (length c.blocks)) (λ x. refl) (reads_world (length c.blocks)) c.worlds
      (λ k d less. (is.worlds k d less, fits.numbers k d less))

  abbrev f9 : Profile → List ReadBlock → ℕ → ℕ → ℤ → List Entries → Form Flaw Certificate
  f9 profile blocks x y sign worlds = whole (record { profile = profile; blocks = blocks; x = x; y = y; sign = sign; worlds = worlds })

  abbrev f8 : Profile → ℕ → List ReadBlock → ℕ → ℕ → ℤ → ℕ → Form Flaw Certificate
  f8 profile n blocks x y sign count = worlds_form n count >>= f9 profile blocks x y sign

  abbrev f7 : Profile → ℕ → List ReadBlock → ℕ → ℕ → ℤ → Form Flaw Certificate
  f7 profile n blocks x y sign = count_form >>= f8 profile n blocks x y sign

  abbrev f6 : Profile → ℕ → List ReadBlock → ℕ → ℕ → Form Flaw Certificate
  f6 profile n blocks x y = sign_form >>= f7 profile n blocks x y

  abbrev f5 : Profile → ℕ → List ReadBlock → ℕ → Form Flaw Certificate
  f5 profile n blocks x = id_form >>= f6 profile n blocks x

  abbrev f4 : Profile → ℕ → List ReadBlock → Form Flaw Certificate
  f4 profile n blocks = id_form >>= f5 profile n blocks

  abbrev f3 : Profile → ℕ → Form Flaw Certificate
  f3 profile n = blocks_form n >>= f4 profile n

  abbrev f2 : Profile → Form Flaw Certificate
  f2 profile = count_form >>= f3 profile

  abbrev f1 : List ℕ → Form Flaw Certificate
  f1 of = profile_form >>= f2

  reads_cert : (t : List ℕ) → t ≡ cert_text c → Reads cert_form t c
  unfolding cert_form cert_text
  reads_cert t is_text =
      let n = length c.blocks in
      let m = length c.worlds in
      let head = byte_of_profile c.profile ∷ to_le_bytes w16 n in
      let last = byte_of_sign c.sign ∷ to_le_bytes w16 m in
      let blocks = flat_map block_text c.blocks in
      let worlds = flat_map world_text c.worlds in
      let t8 = worlds ++ [] in
      let t7 = to_le_bytes w16 m ++ t8 in
      let t6 = (byte_of_sign c.sign ∷ []) ++ t7 in
      let t5 = bytes_of c.y ++ t6 in
      let t4 = bytes_of c.x ++ t5 in
      let t3 = blocks ++ t4 in
      let t2 = to_le_bytes w16 n ++ t3 in
      let t1 = (byte_of_profile c.profile ∷ []) ++ t2 in
      let some_blocks : 1 ≤ n = subst (λ (l : List ReadBlock). 1 ≤ length l) (sym is.blocks.first) (omega arith) in
      let r8 = reads_then (worlds_form n m) (f9 c.profile c.blocks c.x c.y c.sign) worlds [] c.worlds c worlds_read (reads_whole c) in
      let r7 = reads_then count_form (f8 c.profile n c.blocks c.x c.y c.sign) (to_le_bytes w16 m) t8 m c (reads_count m is.some is.few) r8 in
      let r6 = reads_then sign_form (f7 c.profile n c.blocks c.x c.y) (byte_of_sign c.sign ∷ []) t7 c.sign c (reads_sign c.sign is.sign) r7 in
      let r5 = reads_then id_form (f6 c.profile n c.blocks c.x) (bytes_of c.y) t6 c.y c (reads_id c.y fits.y) r6 in
      let r4 = reads_then id_form (f5 c.profile n c.blocks) (bytes_of c.x) t5 c.x c (reads_id c.x fits.x) r5 in
      let r3 = reads_then (blocks_form n) (f4 c.profile n) blocks t4 c.blocks c (reads_blocks c.blocks is.blocks fits.blocks) r4 in
      let r2 = reads_then count_form (f3 c.profile) (to_le_bytes w16 n) t3 n c (reads_count n some_blocks is.blocks.few) r3 in
      let r1 = reads_then profile_form f2 (byte_of_profile c.profile ∷ []) t2 c.profile c (reads_profile c.profile) r2 in
      let r0 = reads_then name_form f1 name t1 name c reads_name r1 in
      let claim : (bytes_of c.x ++ (bytes_of c.y ++ last)) ++ worlds ≡ t4 =
      append_assoc (bytes_of c.x) (bytes_of c.y ++ last) worlds ∙ ap (λ l. bytes_of c.x ++ l) (append_assoc (bytes_of c.y) last worlds)
      ∙ ap (λ l. bytes_of c.x ++ (bytes_of c.y ++ (last ++ l))) (sym (append-nil worlds)) in
      let e : cert_text c ≡ name ++ t1 = append_assoc name head (blocks ++ ((bytes_of c.x ++ (bytes_of c.y ++ last)) ++ worlds)) ∙ ap (λ l. name ++ (head ++ (blocks ++ l))) claim in
      subst (λ (l : List ℕ). Reads cert_form l c) (sym (is_text ∙ e)) r0

  pub written_is_read : said (cert_text c) ≡ Whole c
  unfolding said
  written_is_read =
      let t = cert_text c in
      ap (λ (l : List ℕ). said_by (length t) (placed cert_form (record { at = 0; bytes = l }))) (sym (append-nil t))
      ∙ ap (λ (p : Placed Certificate). said_by (length t) p) (reads_cert t refl 0 [])
