-- Where a script begins in a text: what one more byte comes to, and the end of the text.
use Rattle.std.proofs.Common.{◌≡◌, ℕ, ◌+◌, ◌<◌, ◌≤◌, Bool, true, false, cond, ◌&&◌, eqb, List, [], ◌∷◌, ◌++◌, length, take, drop, get_or, Some, None, refl, sym, ap, ap₂, ◌∙◌, append_assoc, length-append, add-one, arith}
use Rattle.std.specs.Prelude.{filter, not}
use Rattle.std.proofs.Math.ListN.{drop_of_length-le}
use Rattle.std.proofs.Math.Seq.{drop-cons}
use Rattle.std.proofs.lemmas.List.{append-nil, take_all, take_more}
use Rattle.std.proofs.lemmas.List.Elements.{filter-append}
use Rattle.std.proofs.lemmas.List.Sums.{fold-append}
use Rattle.sp_play.specs.Words.{is_line_end}
use Rattle.sp_gossip.specs.Cut.{behind_byte, is_open, line_count, parts, Parts, parts_from}
use Rattle.sp_gossip.specs.Script.{begins_with_nodes}

-- a text in two, with more bytes before it
abbrev pub behind : List ℕ → Parts → Parts
behind front rest = record { scenario = front ++ rest.scenario; script = rest.script }

-- these bytes of the text were looked at, and no script begins in them
pub record Seen (text : List ℕ) (place : ℕ) (begins : Bool) (ends : ℕ) : Type 0 where
  pub meant : parts text ≡ behind (take place text) (parts_from begins (drop place text))
  pub begun : begins ≡ not (is_open (take place text))
  pub counted : ends ≡ length (filter is_line_end (take place text))
  pub few : ends + cond begins 0 1 ≤ place

pub none_seen : (text : List ℕ) → Seen text 0 true 0
none_seen text = record { meant = refl; begun = refl; counted = refl; few = omega arith }

not_not : (b : Bool) → b ≡ not (not b)
not_not true = refl
not_not false = refl

-- no script begins at a byte
passed : (begins : Bool) (byte : ℕ) (bytes : List ℕ) → (begins && begins_with_nodes (byte ∷ bytes)) ≡ false → parts_from begins (byte ∷ bytes) ≡ behind_byte byte (parts_from (is_line_end byte) bytes)
unfolding parts_from
passed begins byte bytes no_ = ap (λ (b : Bool). cond b (let p : Parts = record { scenario = []; script = Some (byte ∷ bytes) } in p) (behind_byte byte (parts_from (is_line_end byte) bytes))) no_

-- one does
begun_at : (begins : Bool) (byte : ℕ) (bytes : List ℕ) → (begins && begins_with_nodes (byte ∷ bytes)) ≡ true → parts_from begins (byte ∷ bytes) ≡ (let p : Parts = record { scenario = []; script = Some (byte ∷ bytes) } in p)
unfolding parts_from
begun_at begins byte bytes yes_ = ap (λ (b : Bool). cond b (let p : Parts = record { scenario = []; script = Some (byte ∷ bytes) } in p) (behind_byte byte (parts_from (is_line_end byte) bytes))) yes_

at_end : (begins : Bool) → parts_from begins [] ≡ (let p : Parts = record { scenario = []; script = None } in p)
unfolding parts_from
at_end begins = refl

counted_one : (b : Bool) (byte n : ℕ) → cond b (n + 1) n ≡ n + length (cond b (byte ∷ []) (let none : List ℕ = [] in none))
counted_one true byte n = refl
counted_one false byte n = omega arith

few_more : (before now : Bool) (place ends : ℕ) → ends + cond before 0 1 ≤ place → cond now (ends + 1) ends + cond now 0 1 ≤ place + 1
few_more true true place ends le = omega (arith, le)
few_more true false place ends le = omega (arith, le)
few_more false true place ends le = omega (arith, le)
few_more false false place ends le = omega (arith, le)

module _ (text : List ℕ) (place : ℕ) (begins : Bool) (ends : ℕ) (within : place < length text) (seen : Seen text place begins ends) where
  abbrev pub byte : ℕ
  byte = get_or text place 0

  rest : drop place text ≡ byte ∷ drop (place + 1) text
  rest = drop-cons text place 0 within ∙ ap (λ (n : ℕ). byte ∷ drop n text) (sym (add-one place))

  front : take (place + 1) text ≡ take place text ++ byte ∷ []
  front = take_more text place 0 within

  -- the next byte begins no script
  pub one_seen : (begins && begins_with_nodes (drop place text)) ≡ false → Seen text (place + 1) (eqb byte 10) (cond (eqb byte 10) (ends + 1) ends)
  one_seen no_ = record {
    meant =
        seen.meant
        ∙ ap (λ (bytes : List ℕ). behind (take place text) (parts_from begins bytes)) rest
        ∙ ap (behind (take place text)) (passed begins byte (drop (place + 1) text) (ap (λ (bytes : List ℕ). begins && begins_with_nodes bytes) (sym rest) ∙ no_))
        ∙ ap (λ (bytes : List ℕ). let p : Parts = record { scenario = bytes; script = (parts_from (is_line_end byte) (drop (place + 1) text)).script } in p)
        (sym (append_assoc (take place text) (byte ∷ []) (parts_from (is_line_end byte) (drop (place + 1) text)).scenario))
        ∙ ap (λ (bytes : List ℕ). behind bytes (parts_from (is_line_end byte) (drop (place + 1) text))) (sym front);
    begun =
        not_not (eqb byte 10)
        ∙ ap not (sym (ap is_open front ∙ fold-append (λ (before : Bool) (b : ℕ). not (is_line_end b)) false (take place text) (byte ∷ [])));
    counted =
        ap (λ (n : ℕ). cond (eqb byte 10) (n + 1) n) seen.counted
        ∙ counted_one (eqb byte 10) byte (length (filter is_line_end (take place text)))
        ∙ sym (ap (λ (bytes : List ℕ). length (filter is_line_end bytes)) front ∙ ap length (filter-append is_line_end (take place text) (byte ∷ []))
        ∙ length-append (filter is_line_end (take place text)) (filter is_line_end (byte ∷ [])));
    few = few_more begins (eqb byte 10) place ends seen.few;
  }

  -- it begins one
  pub found_here : (begins && begins_with_nodes (drop place text)) ≡ true → parts text ≡ (let p : Parts = record { scenario = take place text; script = Some (drop place text) } in p)
  found_here yes_ =
      seen.meant
      ∙ ap (λ (bytes : List ℕ). behind (take place text) (parts_from begins bytes)) rest
      ∙ ap (behind (take place text)) (begun_at begins byte (drop (place + 1) text) (ap (λ (bytes : List ℕ). begins && begins_with_nodes bytes) (sym rest) ∙ yes_))
      ∙ ap₂ (λ (bytes more : List ℕ). let p : Parts = record { scenario = bytes; script = Some more } in p) (append-nil (take place text)) (sym rest)

-- all was looked at
pub none_found : (text : List ℕ) (place : ℕ) (begins : Bool) (ends : ℕ) → length text ≤ place → Seen text place begins ends → parts text ≡ (let p : Parts = record { scenario = text; script = None } in p)
none_found text place begins ends past seen =
    seen.meant
    ∙ ap (λ (bytes : List ℕ). behind (take place text) (parts_from begins bytes)) (drop_of_length-le text past)
    ∙ ap (behind (take place text)) (at_end begins)
    ∙ ap (λ (bytes : List ℕ). let p : Parts = record { scenario = bytes; script = None } in p) (append-nil (take place text) ∙ take_all place text past)

-- how many lines they are
one_line : (b : Bool) (n : ℕ) → cond b n (n + 1) ≡ n + cond (not b) 1 0
one_line true n = omega arith
one_line false n = refl

not_open : (b c : Bool) → b ≡ not c → not b ≡ c
not_open b c e = ap not e ∙ sym (not_not c)

pub lines_seen : (text : List ℕ) (place : ℕ) (begins : Bool) (ends : ℕ) → Seen text place begins ends → cond begins ends (ends + 1) ≡ line_count (take place text)
unfolding line_count
lines_seen text place begins ends seen =
    one_line begins ends
    ∙ ap₂ (λ (n : ℕ) (b : Bool). n + cond b 1 0) seen.counted (not_open begins (is_open (take place text)) seen.begun)

pub few_lines : (begins : Bool) (place ends : ℕ) → ends + cond begins 0 1 ≤ place → cond begins ends (ends + 1) ≤ place
few_lines true place ends le = omega (arith, le)
few_lines false place ends le = omega (arith, le)

pub both : (a b : Bool) → (a && b) ≡ true → (a ≡ true) × (b ≡ true)
both true b e = (refl, e)
both false b e = absurd cc

-- where a line begins there, no line is open before it
pub lines_before : (text : List ℕ) (place : ℕ) (begins : Bool) (ends : ℕ) → Seen text place begins ends → begins ≡ true → ends ≡ line_count (take place text)
lines_before text place begins ends seen line = sym (ap (λ (b : Bool). cond b ends (ends + 1)) line) ∙ lines_seen text place begins ends seen
