-- What the output is where the bytes of the source are told.
use Rattle.std.proofs.Common.{◌≡◌, ◌<◌, ◌≤◌, ℕ, List, [], ◌++◌, Option, Some, None, IfSome, true, false, cond, drop, length, nat_le, ap, ◌∙◌, sym, subst, arith, length-append}
use Rattle.std.proofs.Math.Seq.{drop-append_seam}
use Rattle.std.proofs.lemmas.List.{append-nil}
use Rattle.std.specs.Io.KnownBytes.{Consumes, IsAtEnd}
use Rattle.sp_io.specs.Whole.{AppendsFront}
use Rattle.sp_io.proofs.Writing.{wrote_none}
use Rattle.sp_play.specs.Source.{ConsumesExactly, scenario_limit}
use Rattle.sp_report.specs.Lines.{too_long_text}
use Rattle.spectre.specs.Output.{is_too_long, source_output, task_output}
use Rattle.spectre.specs.declared.purpose.Task.{Task}

pub output_long : (task : Task) (input : List ℕ) → is_too_long input ≡ true → source_output task input ≡ too_long_text scenario_limit
output_long task input f = ap (λ b. cond b (too_long_text scenario_limit) (task_output task input)) f

pub output_short : (task : Task) (input : List ℕ) → is_too_long input ≡ false → source_output task input ≡ task_output task input
output_short task input f = ap (λ b. cond b (too_long_text scenario_limit) (task_output task input)) f

pub is_long : (n : ℕ) → scenario_limit ≤ n → nat_le scenario_limit n ≡ true
is_long n h = grind (arith)

pub is_short : (n : ℕ) → n < scenario_limit → nat_le scenario_limit n ≡ false
is_short n h = grind (arith)

-- the text that was read is the input
pub on_input : (P : List ℕ → Type 0) (old new : Option (List ℕ)) (text : List ℕ) → Consumes old new text → IsAtEnd new → P text → IfSome old P
on_input P None new text p q t = tt
on_input P (Some input) None text p q t = absurd p
on_input P (Some input) (Some rest) text p q t = subst P (sym (p ∙ ap (λ r. text ++ r) q ∙ append-nil text)) t

-- and so is what it writes
pub on_played : (task : Task) (P : List ℕ → Type 0) (old new : Option (List ℕ)) (text : List ℕ) → Consumes old new text → IsAtEnd new → length text < scenario_limit → P (task_output task text) → IfSome old (λ input. P (source_output task input))
on_played task P old new text p q h t =
    on_input (λ input. P (source_output task input)) old new text p q (subst P (sym (output_short task text (is_short (length text) h))) t)

-- the limit was taken
pub on_too_long : (task : Task) (P : List ℕ → Type 0) (old new : Option (List ℕ)) → ConsumesExactly old new scenario_limit → P (too_long_text scenario_limit) → IfSome old (λ input. P (source_output task input))
on_too_long task P None new p t = tt
on_too_long task P (Some input) None p t = absurd p.1
on_too_long task P (Some input) (Some rest) p t =
    let long : scenario_limit ≤ length input = omega (arith, ap length p.1, length-append p.0 rest, p.2) in
    subst P (sym (output_long task input (is_long (length input) long))) t

-- and what follows it is left
pub on_limit : (old new : Option (List ℕ)) → ConsumesExactly old new scenario_limit → IfSome old (λ input. new ≡ Some (drop scenario_limit input))
on_limit None new p = tt
on_limit (Some input) None p = absurd p.1
on_limit (Some input) (Some rest) p = ap (λ (t : List ℕ). Some t) (sym (ap (drop scenario_limit) p.1 ∙ ap (λ n. drop n (p.0 ++ rest)) (sym p.2) ∙ drop-append_seam p.0 rest))

-- nothing was written
pub on_nothing : (task : Task) (a old : Option (List ℕ)) → IfSome old (λ input. AppendsFront a a (source_output task input))
on_nothing task a None = tt
on_nothing task a (Some input) = (source_output task input, wrote_none a (source_output task input))

-- nothing is left
pub on_end : (old new : Option (List ℕ)) (text : List ℕ) → Consumes old new text → IsAtEnd new → IfSome old (λ input. new ≡ Some [])
on_end None new text p q = tt
on_end (Some input) None text p q = absurd p
on_end (Some input) (Some rest) text p q = ap (λ r. Some r) q
