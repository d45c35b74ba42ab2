-- A script names no node and no block that there isn't.
use Rattle.std.proofs.Common.{◌≡◌, ◌⊎◌, inl, inr, ℕ, ◌+◌, ◌<◌, ◌≤◌, Bool, true, false, cond, ◌&&◌, List, [], ◌∷◌, length, Option, Some, None, Result, Ok, Err, IfSome, refl, sym, subst, ltb, nat_le, arith}
use Rattle.std.specs.Prelude.{All, codes}
use Rattle.std.specs.List.{position}
use Rattle.std.proofs.lemmas.Bool.Decides.{nat_tests}
use Rattle.std.proofs.lemmas.List.Elements.{All-cons, All-nil}
use Rattle.std.proofs.lemmas.List.Quantifiers.{position-Some}
use Rattle.sp_play.specs.Commands.{is_word}
use Rattle.sp_play.specs.Numbers.{is_decimal, value_from}
use Rattle.sp_play.specs.Words.{is_skipped, lines_of, word_at, words_of}
use Rattle.sp_gossip.specs.Script.{AsksAmong, block_named, command_line, count_of, deliver_line, give_line, given_node, has_bytes, HasNumbers, has_words, IsCount, meaning, node_of, nodes_line, number_of, number_or_unknown, read_from, Reading, read_on, report_line, Said, said_by, said_in, script, tell_line, ◌>>=◌}
use Rattle.sp_gossip.specs.declared.event.Event.TheVariants.{Tell, Deliver}
use Rattle.sp_gossip.specs.declared.script_line.Made.{Made}
use Rattle.sp_gossip.specs.declared.script_line.ScriptLine.{ScriptLine}
use Rattle.sp_gossip.specs.declared.script_line.ScriptLine.TheVariants.{Give, Act, Report}
use Rattle.sp_gossip.specs.declared.script_line.ScriptWhy.{ScriptWhy}
use Rattle.sp_gossip.specs.declared.script_line.ScriptWhy.TheVariants as why

-- ---- what was found on the way

opens : {A B : Type 0} (r : Result A ScriptWhy) (f : A → Result B ScriptWhy) (x : B) → (r >>= f) ≡ Ok x → (a : A) × (r ≡ Ok a) × (f a ≡ Ok x)
opens (Ok a) f x e = (a, refl, e)
opens (Err w) f x e = absurd cc

either : {A : Type 0} (test : Bool) (one other : Result A ScriptWhy) (x : A) → cond test one other ≡ Ok x → (one ≡ Ok x) ⊎ (other ≡ Ok x)
either true one other x e = inl e
either false one other x e = inr e

same_line : (one x : ScriptLine) (nodes blocks : ℕ) → ◌≡◌ {A = Result ScriptLine ScriptWhy} (Ok one) (Ok x) → AsksAmong nodes blocks one → AsksAmong nodes blocks x
same_line one x nodes blocks e asks = (let same : one ≡ x = cc in subst (AsksAmong nodes blocks) same asks)

-- ---- numbers of nodes and of blocks

node_in : (nodes number n : ℕ) → node_of nodes number ≡ Ok n → n < nodes
node_in nodes number n e = at (ltb number nodes) refl e
  where
    at : (test : Bool) → ltb number nodes ≡ test → ◌≡◌ {A = Result ℕ ScriptWhy} (cond test (Ok number) (Err why.Node)) (Ok n) → n < nodes
    at true is e = let same : number ≡ n = cc in let lt : number < nodes = grind (arith, nat_tests, is) in omega (arith, same, lt)
    at false is e = absurd cc

placed : (blocks : List Made) (name : List ℕ) (i : ℕ) → position (λ (m : Made). is_word m.name name) blocks ≡ Some i → i < length blocks
placed [] name i is = absurd cc
placed (b ∷ bs) name i is = (position-Some (λ (m : Made). is_word m.name name) (b ∷ bs) i b is).0

block_in : (blocks : List Made) (name : List ℕ) (n : ℕ) → block_named blocks name ≡ Ok n → n < length blocks
unfolding block_named
block_in blocks name n e = at (position (λ (m : Made). is_word m.name name) blocks) refl e
  where
    at : (o : Option ℕ) → position (λ (m : Made). is_word m.name name) blocks ≡ o → number_or_unknown o ≡ Ok n → n < length blocks
    at None is e = absurd cc
    at (Some i) is e =
        let same : i ≡ n = cc in
        let lt : i < length blocks = placed blocks name i is in
        omega (arith, same, lt)

count_in : (word : List ℕ) (n : ℕ) → count_of word ≡ Ok n → IsCount n
unfolding count_of
count_in word n e = at (is_decimal word) (value_from 0 word) e
  where
    of : (value : ℕ) (low high : Bool) → nat_le 1 value ≡ low → nat_le value 16 ≡ high → ◌≡◌ {A = Result ℕ ScriptWhy} (cond (low && high) (Ok value) (Err why.Number)) (Ok n) → IsCount n
    of value true true low high e =
        let same : value ≡ n = cc in
        let some : 1 ≤ value = grind (arith, nat_tests, low) in let few : value ≤ 16 = grind (arith, nat_tests, high) in
        record { some = omega (arith, same, some); few = omega (arith, same, few) }
    of value true false low high e = absurd cc
    of value false high l h e = absurd cc

    at : (decimal : Bool) (value : ℕ) → ◌≡◌ {A = Result ℕ ScriptWhy} (cond (decimal && nat_le 1 value && nat_le value 16) (Ok value) (Err why.Number)) (Ok n) → IsCount n
    at true value e = of value (nat_le 1 value) (nat_le value 16) refl refl e
    at false value e = absurd cc

-- ---- the lines

module _ (nodes : ℕ) (blocks : List Made) (words : List (List ℕ)) (x : ScriptLine) where
  given_in : (n : ℕ) → given_node nodes words ≡ Ok n → n < nodes
  unfolding given_node
  given_in n e =
      let a = opens (has_words 3 words) _ n e in
      let b = opens (number_of (word_at words 1)) _ n a.2 in
      node_in nodes b.0 n b.2

  gives_in : give_line nodes blocks words ≡ Ok x → AsksAmong nodes (length blocks) x
  unfolding give_line
  gives_in e =
      let a = opens (given_node nodes words) _ x e in
      let b = opens (block_named blocks (word_at words 2)) _ x a.2 in
      same_line (Give a.0 b.0) x nodes (length blocks) b.2 (given_in a.0 a.1, block_in blocks (word_at words 2) b.0 b.1)

  tells_in : tell_line nodes words ≡ Ok x → AsksAmong nodes (length blocks) x
  unfolding tell_line
  tells_in e =
      let a = opens (has_words 3 words) _ x e in
      let b = opens (number_of (word_at words 1)) _ x a.2 in
      let c = opens (number_of (word_at words 2)) _ x b.2 in
      let d = opens (node_of nodes b.0) _ x c.2 in
      let f = opens (node_of nodes c.0) _ x d.2 in
      same_line (Act (Tell d.0 f.0)) x nodes (length blocks) f.2 (node_in nodes b.0 d.0 d.1, node_in nodes c.0 f.0 f.1)

  delivers_in : deliver_line words ≡ Ok x → AsksAmong nodes (length blocks) x
  unfolding deliver_line
  delivers_in e =
      let a = opens (has_words 2 words) _ x e in
      let b = opens (number_of (word_at words 1)) _ x a.2 in
      same_line (Act (Deliver b.0)) x nodes (length blocks) b.2 tt

  reports_in : report_line nodes words ≡ Ok x → AsksAmong nodes (length blocks) x
  unfolding report_line
  reports_in e =
      let a = opens (has_words 2 words) _ x e in
      let b = opens (number_of (word_at words 1)) _ x a.2 in
      let c = opens (node_of nodes b.0) _ x b.2 in
      same_line (Report c.0) x nodes (length blocks) c.2 (node_in nodes b.0 c.0 c.1)

  not_none : ◌≡◌ {A = Result ScriptLine ScriptWhy} (Err why.Command) (Ok x) → AsksAmong nodes (length blocks) x
  not_none e = absurd cc

  commands_in : command_line nodes blocks words ≡ Ok x → AsksAmong nodes (length blocks) x
  unfolding command_line
  commands_in e =
      elim (either (is_word (codes "give") (word_at words 0)) _ _ x e) [
        | inl g ↦ gives_in g
        | inr g ↦ elim (either (is_word (codes "tell") (word_at words 0)) _ _ x g) [
          | inl t ↦ tells_in t
          | inr t ↦ elim (either (is_word (codes "deliver") (word_at words 0)) _ _ x t) [
            | inl d ↦ delivers_in d
            | inr d ↦ elim (either (is_word (codes "report") (word_at words 0)) _ _ x d) [
              | inl r ↦ reports_in r
              | inr r ↦ not_none r
            ]
          ]
        ]
      ]

means_in : (nodes : ℕ) (blocks : List Made) (line : List ℕ) (x : ScriptLine) → meaning nodes blocks line ≡ Ok (Some x) → AsksAmong nodes (length blocks) x
unfolding meaning
means_in nodes blocks line x e =
    elim (either (is_skipped (words_of line)) _ _ (Some x) e) [
      | inl none ↦ absurd (none_some none)
      | inr rest ↦
          (let a = opens (has_bytes line) _ (Some x) rest in
          let b = opens (command_line nodes blocks (words_of line)) _ (Some x) a.2 in
          let same : b.0 ≡ x = some_some b.0 b.2 in
          subst (AsksAmong nodes (length blocks)) same (commands_in nodes blocks (words_of line) b.0 b.1))
    ]
  where
    none_some : ◌≡◌ {A = Result (Option ScriptLine) ScriptWhy} (Ok None) (Ok (Some x)) → ⊥
    none_some e = cc

    some_some : (y : ScriptLine) → ◌≡◌ {A = Result (Option ScriptLine) ScriptWhy} (Ok (Some y)) (Ok (Some x)) → y ≡ x
    some_some y e = cc

all_on : (nodes : ℕ) (blocks : List Made) (number : ℕ) (line : List ℕ) (rest : Reading) (m : Result (Option ScriptLine) ScriptWhy) → meaning nodes blocks line ≡ m → All (HasNumbers nodes (length blocks)) rest.lines
    → All (HasNumbers nodes (length blocks)) (read_on number m rest).lines
all_on nodes blocks number line rest (Ok None) is more = more
all_on nodes blocks number line rest (Ok (Some x)) is more = All-cons (HasNumbers nodes (length blocks)) (number, x) rest.lines (means_in nodes blocks line x is) more
all_on nodes blocks number line rest (Err w) is more = All-nil (HasNumbers nodes (length blocks))

all_in : (nodes : ℕ) (blocks : List Made) (number : ℕ) (lines : List (List ℕ)) → All (HasNumbers nodes (length blocks)) (read_from nodes blocks number lines).lines
unfolding read_from
all_in nodes blocks number [] = All-nil (HasNumbers nodes (length blocks))
all_in nodes blocks number (line ∷ lines) = all_on nodes blocks number line (read_from nodes blocks (number + 1) lines) (meaning nodes blocks line) refl (all_in nodes blocks (number + 1) lines)

-- ---- all of a script

nodes_in : (line : List ℕ) (n : ℕ) → nodes_line line ≡ Ok n → IsCount n
unfolding nodes_line
nodes_in line n e =
    let a = opens (has_bytes line) _ n e in
    let b = opens (has_words 2 (words_of line)) _ n a.2 in
    count_in (word_at (words_of line) 1) n b.2

said_count : (first : ℕ) (blocks : List Made) (lines : List (List ℕ)) → IfSome (said_in first blocks lines).nodes IsCount
said_count first blocks [] = tt
said_count first blocks (line ∷ lines) = at (nodes_line line) refl
  where
    at : (r : Result ℕ ScriptWhy) → nodes_line line ≡ r → IfSome (said_by first blocks r lines).nodes IsCount
    at (Ok n) is = nodes_in line n is
    at (Err w) is = tt

said_within : (first : ℕ) (blocks : List Made) (lines : List (List ℕ)) → IfSome (said_in first blocks lines).nodes (λ nodes. All (HasNumbers nodes (length blocks)) (said_in first blocks lines).reading.lines)
said_within first blocks [] = tt
said_within first blocks (line ∷ lines) = at (nodes_line line)
  where
    at : (r : Result ℕ ScriptWhy) → IfSome (said_by first blocks r lines).nodes (λ nodes. All (HasNumbers nodes (length blocks)) (said_by first blocks r lines).reading.lines)
    at (Ok n) = all_in n blocks (first + 1) lines
    at (Err w) = tt

pub has_count : (first : ℕ) (blocks : List Made) (text : List ℕ) (said : Said) → said ≡ script first blocks text → IfSome said.nodes IsCount
has_count first blocks text said is = subst (λ (s : Said). IfSome s.nodes IsCount) (sym is) (said_count first blocks (lines_of text))

pub has_numbers : (first : ℕ) (blocks : List Made) (text : List ℕ) (said : Said) → said ≡ script first blocks text → IfSome said.nodes (λ nodes. All (HasNumbers nodes (length blocks)) said.reading.lines)
has_numbers first blocks text said is = subst (λ (s : Said). IfSome s.nodes (λ nodes. All (HasNumbers nodes (length blocks)) s.reading.lines)) (sym is) (said_within first blocks (lines_of text))
