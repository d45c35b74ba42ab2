-- What the fields that most formats are made of spell.
use Rattle.std.proofs.Common.{◌≡◌, ℕ, ◌≤◌, Bool, true, false, cond, leb, ◌&&◌, List, [], ◌∷◌, length, Option, Some, None, refl, arith}
use Rattle.std.proofs.lemmas.Bool.{leb-true, le-leb}
use Rattle.sp_form.specs.Form.{rule}
use Rattle.sp_form.specs.Values.{byte, bytes_form, count_form}
use Rattle.sp_form.proofs.Taking.{Spelled, value_spelled}

-- a rule that was met
pub rule_met : {E : Type 0} (b : Bool) (fault : E) (rest : Option E) → cond b rest (Some fault) ≡ None → (b ≡ true) × (rest ≡ None)
rule_met true fault rest e = (refl, e)
rule_met false fault rest e = absurd cc

pub and_true : (a b : Bool) → (a && b) ≡ true → (a ≡ true) × (b ≡ true)
and_true true true e = (refl, refl)
and_true true false e = absurd cc
and_true false b e = absurd cc

pub one_byte : (bytes : List ℕ) → length bytes ≡ 1 → byte bytes ∷ [] ≡ bytes
one_byte [] e = absurd (omega arith)
one_byte (b ∷ []) e = refl
one_byte (b ∷ c ∷ bytes) e = absurd (omega arith)

-- a number within these limits
pub record Within (least most n : ℕ) : Type 0 where
  pub low : least ≤ n
  pub high : n ≤ most

pub count_spelled : {E : Type 0} (short : E) (least most : ℕ) (fault : E) → Spelled (count_form short least most fault) (λ n. n ∷ []) (Within least most)
count_spelled short least most fault = value_spelled 1 short byte (λ n. rule (leb least n && leb n most) fault ∷ []) (λ n. n ∷ []) (Within least most) (record {
  only = λ bytes size small met.
      let tests = and_true (leb least (byte bytes)) (leb (byte bytes) most) (rule_met (leb least (byte bytes) && leb (byte bytes) most) fault None met).0 in
      (one_byte bytes size, record { low = leb-true _ _ tests.0; high = leb-true _ _ tests.1 });
  size = λ n m. refl;
  back = λ n m. refl;
  met = λ n m. rw (le-leb least n m.low, le-leb n most m.high) refl;
})

pub bytes_spelled : {E : Type 0} (width : ℕ) (short : E) → Spelled (bytes_form width short) (λ bytes. bytes) (λ bytes. length bytes ≡ width)
bytes_spelled width short = value_spelled width short (λ bytes. bytes) (λ bytes. []) (λ bytes. bytes) (λ bytes. length bytes ≡ width) (record {
  only = λ bytes size small met. (refl, size);
  size = λ bytes m. m;
  back = λ bytes m. refl;
  met = λ bytes m. refl;
})
