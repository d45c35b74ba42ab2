-- What the answer of an engine's certificate is, and the blocks that have none.
use Rattle.std.proofs.Common.{◌≡◌, Bool, true, false, cond, ◌&&◌, not, inl, inr, refl}
use Rattle.std.specs.Prelude.{IfOk, Result, Ok, Err, ℤ, pos, negsuc, zero, suc}
use Rattle.sp_model.specs.declared.word.Word.TheVariants.{Absent, After, Before, Same, Tie}
use Rattle.sp_model.specs.Votes.{word_of}
use Rattle.sp_cert.specs.Refusals.{IsNoPair}

pub IfOk-both : {X E : Type 0} (P Q : X → Type 0) (r : Result X E) → IfOk r P → IfOk r Q → IfOk r (λ x. P x × Q x)
IfOk-both P Q (Ok x) p q = (p, q)
IfOk-both P Q (Err e) p q = p

pub IfOk-to : {X E : Type 0} {P Q : X → Type 0} (r : Result X E) → ((x : X) → P x → Q x) → IfOk r P → IfOk r Q
IfOk-to (Ok x) f p = f x p
IfOk-to (Err e) f p = p

-- ---- blocks that have no certificate

-- a virtual vote says something of two
says_something : (v : ℤ) → IsNoPair (word_of v) → ⊥
says_something (negsuc n) h = elim h [ inl e ↦ (let no : Before ≡ Same = e in cc) | inr e ↦ (let no : Before ≡ Absent = e in cc) ]
says_something (pos zero) h = elim h [ inl e ↦ (let no : Tie ≡ Same = e in cc) | inr e ↦ (let no : Tie ≡ Absent = e in cc) ]
says_something (pos (suc n)) h = elim h [ inl e ↦ (let no : After ≡ Same = e in cc) | inr e ↦ (let no : After ≡ Absent = e in cc) ]

-- where the word is `same` or `absent`, they aren't two different present blocks
pub not_two : (a b e : Bool) (v : ℤ) → IsNoPair (cond (not (a && b)) Absent (cond e Same (word_of v))) → (not e && (a && b)) ≡ false
not_two true true true v h = refl
not_two true true false v h = absurd (says_something v h)
not_two true false true v h = refl
not_two true false false v h = refl
not_two false b true v h = refl
not_two false b false v h = refl
