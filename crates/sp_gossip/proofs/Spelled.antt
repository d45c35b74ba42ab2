-- Numbers and blocks that the words of a script name.
use Rattle.std.proofs.Common.{◌≡◌, ℕ, ◌≤◌, Bool, true, false, cond, ◌&&◌, List, Option, None, Result, Ok, Err, refl, sym, ap, ◌∙◌, nat_le, arith}
use Rattle.std.specs.List.{position}
use Rattle.std.specs.Prelude.{min}
use Rattle.std.proofs.lemmas.Bool.Decides.{nat_tests}
use Rattle.sp_play.specs.Commands.{is_word}
use Rattle.sp_play.specs.Numbers.{is_decimal, number_in, value_from}
use Rattle.sp_play.specs.declared.why.Why.{Why}
use Rattle.sp_play.specs.declared.why.Why.TheVariants as play
use Rattle.sp_play.specs.Words.{word_at}
use Rattle.sp_gossip.specs.Script.{block_named, count_of, give_line, given_node, number_of, number_or_unknown, ◌>>=◌}
use Rattle.sp_gossip.specs.declared.script_line.Made.{Made}
use Rattle.sp_gossip.specs.declared.script_line.ScriptLine.{ScriptLine}
use Rattle.sp_gossip.specs.declared.script_line.ScriptLine.TheVariants.{Give}
use Rattle.sp_gossip.specs.declared.script_line.ScriptWhy.{ScriptWhy}
use Rattle.sp_gossip.specs.declared.script_line.ScriptWhy.TheVariants as why

-- ---- numbers

abbrev fits : ℕ → ℕ → List ℕ → Bool
fits low high word = is_decimal word && nat_le low (value_from 0 word) && nat_le (value_from 0 word) high

in_range : (low high : ℕ) (word : List ℕ) (n : ℕ) → number_in low high word ≡ Ok n → (fits low high word ≡ true) × (value_from 0 word ≡ n)
unfolding number_in
in_range low high word n e = at (fits low high word) refl e
  where
    at : (test : Bool) → fits low high word ≡ test → ◌≡◌ {A = Result ℕ Why} (cond test (Ok (value_from 0 word)) (Err play.Number)) (Ok n) → (fits low high word ≡ true) × (value_from 0 word ≡ n)
    at true is e = (is, cc)
    at false is e = absurd cc

out_of_range : (low high : ℕ) (word : List ℕ) → number_in low high word ≡ Err play.Number → fits low high word ≡ false
unfolding number_in
out_of_range low high word e = at (fits low high word) refl e
  where
    at : (test : Bool) → fits low high word ≡ test → ◌≡◌ {A = Result ℕ Why} (cond test (Ok (value_from 0 word)) (Err play.Number)) (Err play.Number) → fits low high word ≡ false
    at true is e = absurd cc
    at false is e = is

pub count_is : (word : List ℕ) (n : ℕ) → number_in 1 16 word ≡ Ok n → ◌≡◌ {A = Result ℕ ScriptWhy} (Ok n) (count_of word)
unfolding count_of
count_is word n e =
    let found = in_range 1 16 word n e in
    sym (ap (λ (b : Bool). let r : Result ℕ ScriptWhy = cond b (Ok (value_from 0 word)) (Err why.Number) in r) found.0 ∙ ap (λ (m : ℕ). let r : Result ℕ ScriptWhy = Ok m in r) found.1)

pub count_fails : (word : List ℕ) → number_in 1 16 word ≡ Err play.Number → ◌≡◌ {A = Result ℕ ScriptWhy} (Err why.Number) (count_of word)
unfolding count_of
count_fails word e =
    sym (ap (λ (b : Bool). let r : Result ℕ ScriptWhy = cond b (Ok (value_from 0 word)) (Err why.Number) in r) (out_of_range 1 16 word e))

decimal_number : (word : List ℕ) (n : ℕ) → is_decimal word ≡ true → min (value_from 0 word) 65535 ≡ n → ◌≡◌ {A = Result ℕ ScriptWhy} (Ok n) (number_of word)
unfolding number_of
decimal_number word n decimal is =
    sym (ap (λ (b : Bool). let r : Result ℕ ScriptWhy = cond b (Ok (min (value_from 0 word) 65535)) (Err why.Number) in r) decimal ∙ ap (λ (m : ℕ). let r : Result ℕ ScriptWhy = Ok m in r) is)

pub number_is : (word : List ℕ) (n : ℕ) → is_decimal word ≡ true → n ≤ 65535 → number_in 0 65535 word ≡ Ok n → ◌≡◌ {A = Result ℕ ScriptWhy} (Ok n) (number_of word)
number_is word n decimal le e =
    let found = (in_range 0 65535 word n e).1 in
    let small : min (value_from 0 word) 65535 ≡ n = omega (arith, found, le) in
    decimal_number word n decimal small

pub number_over : (word : List ℕ) → is_decimal word ≡ true → number_in 0 65535 word ≡ Err play.Number → ◌≡◌ {A = Result ℕ ScriptWhy} (Ok 65535) (number_of word)
number_over word decimal e =
    let out : fits 0 65535 word ≡ false = out_of_range 0 65535 word e in
    let over : 65535 ≤ value_from 0 word = beyond (is_decimal word) (value_from 0 word) decimal out in
    let most : min (value_from 0 word) 65535 ≡ 65535 = omega (arith, over) in
    decimal_number word 65535 decimal most
  where
    beyond : (decimal : Bool) (v : ℕ) → decimal ≡ true → (decimal && nat_le 0 v && nat_le v 65535) ≡ false → 65535 ≤ v
    beyond true v e out = grind (arith, nat_tests, out)
    beyond false v e out = absurd cc

-- ---- blocks

pub names_none : (nodes : ℕ) (blocks : List Made) (words : List (List ℕ)) (node : ℕ) (name : List ℕ) (o : Option ℕ) → ◌≡◌ {A = Result ℕ ScriptWhy} (Ok node) (given_node nodes words) → name ≡ word_at words 2
    → o ≡ position (λ (m : Made). is_word m.name name) blocks → o ≡ None → ◌≡◌ {A = Result ScriptLine ScriptWhy} (Err why.Unknown) (give_line nodes blocks words)
unfolding give_line block_named
names_none nodes blocks words node name o given named found none =
    ap (λ (p : Option ℕ). number_or_unknown p >>= (λ n. let line : Result ScriptLine ScriptWhy = Ok (Give node n) in line)) (sym none ∙ found)
    ∙ ap (λ (n : List ℕ). number_or_unknown (position (λ (m : Made). is_word m.name n) blocks) >>= (λ k. let line : Result ScriptLine ScriptWhy = Ok (Give node k) in line)) named
    ∙ ap (λ (g : Result ℕ ScriptWhy). g >>= (λ n. number_or_unknown (position (λ (m : Made). is_word m.name (word_at words 2)) blocks) >>= (λ k. let line : Result ScriptLine ScriptWhy = Ok (Give n k) in line))) given
