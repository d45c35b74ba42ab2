-- What stands at the front of a list is seen in its first bytes, where these are enough.
use Rattle.std.proofs.Common.{◌≡◌, inl, inr, ℕ, ◌+◌, ◌-◌, ◌≤◌, List, [], ◌∷◌, ◌++◌, length, map, take, drop, Option, Some, None, Result, Ok, Err, refl, sym, ap, subst, ◌∙◌, arith, append_assoc, length-append}
use Rattle.std.specs.Prelude.{IfSome, min}
use Rattle.std.specs.List.{flat_map}
use Rattle.std.proofs.lemmas.List.{append-nil, map-append, take-append-drop, take_min}
use Rattle.std.proofs.lemmas.Grind.{flat_map-append}
use Rattle.std.proofs.Math.Seq.{drop-append_seam, take-append-add}
use Rattle.sp_form.specs.Bytes.{IsBytes}
use Rattle.sp_form.specs.Form.{Form}
use Rattle.sp_form.specs.Reading.{read}
use Rattle.sp_form.proofs.Taking.{IsBytes-append_left, IsBytes-append_right, Spelled}
use Rattle.sp_block.specs.Block.{ReadBlock}
use Rattle.sp_journal.specs.Creation.{gate_of}
use Rattle.sp_journal.specs.Format.{Head, head_form, record_form}
use Rattle.sp_journal.specs.Journal.{record_text}
use Rattle.sp_journal.specs.Records.{is_shut}
use Rattle.sp_journal.specs.Recovery.{bytes_in, EndsAt, FindsRecord, IsFlawed}
use Rattle.sp_journal.proofs.Forms.{head_fits, head_size, head_spelled, record_spelled}

pub bytes_take : (n : ℕ) (list : List ℕ) → IsBytes list → IsBytes (take n list)
bytes_take n list bytes = IsBytes-append_left (take n list) (drop n list) (subst IsBytes (sym (take-append-drop n list)) bytes)

pub bytes_drop : (n : ℕ) (list : List ℕ) → IsBytes list → IsBytes (drop n list)
bytes_drop n list bytes = IsBytes-append_right (take n list) (drop n list) (subst IsBytes (sym (take-append-drop n list)) bytes)

module _ {E A : Type 0} (form : Form E A) (text : A → List ℕ) (meets : A → Type 0) (spelled : Spelled form text meets) (n : ℕ) (short : (x : A) → meets x → length (text x) ≤ n) (list : List ℕ) (bytes : IsBytes list) where
  -- what the first bytes spell
  seen : (x : A) (rest : List ℕ) → read form (take n list) ≡ Ok (x, rest) → read form list ≡ Ok (x, drop (length (text x)) list)
  seen x rest e =
      let t = spelled.takes (take n list) x rest (bytes_take n list bytes) e in
      let parts : list ≡ text x ++ (rest ++ drop n list) = sym (take-append-drop n list) ∙ ap (λ (l : List ℕ). l ++ drop n list) t.0.parts ∙ append_assoc (text x) rest (drop n list) in
      let behind : drop (length (text x)) list ≡ rest ++ drop n list = ap (drop (length (text x))) parts ∙ drop-append_seam (text x) (rest ++ drop n list) in
      ap (read form) parts ∙ spelled.again x (rest ++ drop n list) t.1 ∙ ap (λ (r : List ℕ). Ok (x, r)) (sym behind)

  -- what the list spells, its first bytes do
  still : (x : A) (rest : List ℕ) → read form list ≡ Ok (x, rest) → (r : List ℕ) × (read form (take n list) ≡ Ok (x, r))
  still x rest e =
      let t = spelled.takes list x rest bytes e in
      let low = short x t.1 in
      let split : n ≡ length (text x) + (n - length (text x)) = omega (arith, low) in
      let front : take n list ≡ text x ++ take (n - length (text x)) rest =
      ap (take n) t.0.parts ∙ ap (λ (m : ℕ). take m (text x ++ rest)) split ∙ take-append-add (text x) rest (n - length (text x)) in
      (take (n - length (text x)) rest, ap (read form) front ∙ spelled.again x (take (n - length (text x)) rest) t.1)

  flawed : (flaw : E) → read form (take n list) ≡ Err flaw → (f : E) × (read form list ≡ Err f)
  flawed flaw e = at (read form list) refl
    where
      at : (r : Result (A × List ℕ) E) → read form list ≡ r → (f : E) × (r ≡ Err f)
      at (Err f) is = (f, refl)
      at (Ok found) is =
          let s = still found.0 found.1 is in
          let no : (let r : Result (A × List ℕ) E = Err flaw in r) ≡ Ok (found.0, s.0) = sym e ∙ s.1 in absurd cc

pub shut_seen : (list : List ℕ) → is_shut (take 65550 list) ≡ is_shut list
shut_seen [] = refl
shut_seen (x ∷ list) = refl

pub gate_seen : (list : List ℕ) → gate_of (take 65550 list) ≡ gate_of list
gate_seen [] = refl
gate_seen (x ∷ list) = refl

module _ (list : List ℕ) (bytes : IsBytes list) where
  pub head_seen : (h : Head) (rest : List ℕ) → read head_form (take 65550 list) ≡ Ok (h, rest) → read head_form list ≡ Ok (h, drop (14 + length h.genesis) list)
  head_seen h rest e =
      seen head_form _ _ head_spelled 65550 (λ x m. head_fits x m.1.0) list bytes h rest e ∙ ap (λ (n : ℕ). Ok (h, drop n list)) (head_size h)

  pub head_flawed : IsFlawed (read head_form (take 65550 list)) → IsFlawed (read head_form list)
  head_flawed e = flawed head_form _ _ head_spelled 65550 (λ x m. head_fits x m.1.0) list bytes e.0 e.1

  pub record_seen : (b rest : List ℕ) → read record_form (take 65550 list) ≡ Ok (b, rest) → read record_form list ≡ Ok (b, drop (5 + length b) list)
  record_seen b rest e =
      seen record_form _ _ record_spelled 65550 (λ x m. omega (arith, m)) list bytes b rest e ∙ ap (λ (n : ℕ). Ok (b, drop n list)) (let size : length (record_text b) ≡ 5 + length b = omega arith in size)

  record_flawed : IsFlawed (read record_form (take 65550 list)) → IsFlawed (read record_form list)
  record_flawed e = flawed record_form _ _ record_spelled 65550 (λ x m. omega (arith, m)) list bytes e.0 e.1

  module _ (bits : ℕ) (ids left : List ℕ) where
    pub row_seen : (block : ReadBlock) → FindsRecord bits ids (take 65550 list) left (Some block) → FindsRecord bits ids list (drop (5 + length block.bytes) list) (Some block)
    row_seen block f = (record_seen block.bytes left f.0, f.1)

    pub no_row_seen : FindsRecord bits ids (take 65550 list) left None → FindsRecord bits ids list [] None
    no_row_seen (inl e) = inl (record_flawed e)
    no_row_seen (inr bad) = inr (bad.0, drop (5 + length bad.0) list, record_seen bad.0 bad.1 bad.2, bad.3)

-- as many bytes as are read into the room
pub window : (count : ℕ) (list before after : List ℕ) → length before ≡ 65550 → count ≡ min (length before) (length list) → take count after ≡ take count list → take count after ≡ take 65550 list
window count list before after size n same = same ∙ ap (λ (m : ℕ). take m list) (n ∙ ap (λ (m : ℕ). min m (length list)) size) ∙ take_min 65550 list

pub if_some : {X : Type 0} (P Q : X → Type 0) (r : Option X) → ((x : X) → r ≡ Some x → P x → Q x) → IfSome r P → IfSome r Q
if_some P Q None f p = tt
if_some P Q (Some x) f p = f x refl p

pub if_some2 : {X : Type 0} (P R Q : X → Type 0) (r : Option X) → ((x : X) → P x → R x → Q x) → IfSome r P → IfSome r R → IfSome r Q
if_some2 P R Q None f p q = tt
if_some2 P R Q (Some x) f p q = f x p q

pub ends_more : (start : ℕ) (blocks blocks' : List ReadBlock) (block : ReadBlock) (at at' : ℕ) → (length blocks ≡ 511 → ⊥) → length block.bytes ≤ 65536 → EndsAt start blocks at → blocks' ≡ blocks ++ block ∷ [] → at' ≡ at + (5 + length block.bytes) → EndsAt start blocks' at'
ends_more start blocks blocks' block at at' room short ends pushed moved =
    let count : length blocks' ≡ length blocks + 1 = ap length pushed ∙ length-append blocks (block ∷ []) in
    let names : map bytes_in blocks' ≡ map bytes_in blocks ++ block.bytes ∷ [] = ap (map bytes_in) pushed ∙ map-append bytes_in blocks (block ∷ []) in
    let size : length (flat_map record_text (map bytes_in blocks')) ≡ length (flat_map record_text (map bytes_in blocks)) + length (record_text block.bytes) =
    ap (λ (bs : List (List ℕ)). length (flat_map record_text bs)) names ∙ ap length (flat_map-append record_text (map bytes_in blocks) (block.bytes ∷ []) ∙ ap (λ (t : List ℕ). flat_map record_text (map bytes_in blocks) ++ t) (append-nil (record_text block.bytes)))
    ∙ length-append (flat_map record_text (map bytes_in blocks)) (record_text block.bytes) in
    record {
      few = omega (arith, ends.few, room, count);
      place = omega (arith, ends.place, moved, size);
      bound = omega (arith, ends.bound, moved, count, short);
    }
