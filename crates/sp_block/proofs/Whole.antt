-- A list spells one block, or has one first fault, and what the calls answer.
use Rattle.std.proofs.Common.{◌≡◌, ℕ, ◌<◌, ◌≤◌, Bool, true, false, not, leb, List, [], ◌∷◌, ◌++◌, length, ◌^◌, Some, Result, Ok, Err, refl, sym, ap, subst, ◌∙◌, arith, ◌⊎◌, inl, inr}
use Rattle.std.specs.Prelude.{IfErr, IfOk}
use Rattle.std.proofs.lemmas.Bool.{cases_lt, eqb-true, leb-true}
use Rattle.std.proofs.lemmas.Bool.Decides.{nat_tests}
use Rattle.std.proofs.lemmas.List.{append-nil}
use Rattle.sp_form.specs.Bytes.{IsBytes}
use Rattle.sp_form.specs.Form.{first_broken, rule, Spells}
use Rattle.sp_form.specs.Reading.{Answers, Fails, IsCause, read}
use Rattle.sp_form.specs.Values.{byte}
use Rattle.sp_form.specs.declared.fault.ReadFault.{ReadFault}
use Rattle.sp_form.specs.declared.fault.ReadFault.TheVariants.{Fault, Memory}
use Rattle.sp_form.proofs.Breaks.{first_breaks, later_breaks, value_breaks}
use Rattle.sp_form.proofs.FormLaws.{fault_found, ok_pair, one_value, read_then, reads_fault, reads_spelled, spelled_front}
use Rattle.sp_form.proofs.Simple.{and_true}
use Rattle.sp_form.proofs.Texts.{is_spelled, only_text, reads_all}
use Rattle.sp_block.specs.declared.fault.BlockFault.{BlockFault}
use Rattle.sp_block.specs.declared.fault.BlockFault.TheVariants.{ParentCount, Short, TooLong, Trailing}
use Rattle.sp_block.specs.Block.{IsBlock, IsGenesis, IsOther, block_of, parts_of, ReadBlock}
use Rattle.sp_block.specs.Format.{block_form, parent_count_form, Parts, parents_fit, version_form, word_form}
use Rattle.sp_block.specs.Reading.{block_steps}
use Rattle.sp_block.specs.Spelling.{block_text, HasBlockFault, behind, inside, IsSpellable, long, MeetsRules, SpellsBlock}
use Rattle.sp_block.proofs.Spelled.{block_spelled, lists_text, nonce_text, parents_text, salt_text, version_spelled, word_spelled}

abbrev Read : Type 0
Read = Result (Parts × List ℕ) BlockFault

-- ---- laws

pub one_block : (genesis : Bool) (a b r s : List ℕ) (p q : Parts) → SpellsBlock a genesis p → SpellsBlock b genesis q → a ++ r ≡ b ++ s → (a ≡ b) × (p ≡ q)
one_block genesis a b r s p q h k e = one_value (block_form genesis) a b r s p q h.spells k.spells e

pub apart : (list : List ℕ) (genesis : Bool) (parts : Parts) (fault : BlockFault) → SpellsBlock list genesis parts → HasBlockFault list genesis fault → ⊥
apart list genesis parts fault s (long more) = absurd (let h = s.short in omega arith)
apart list genesis parts fault s (inside f few h) =
    let no : (let r : Read = Ok (parts, []) in r) ≡ Err fault = sym (reads_all (block_form genesis) list parts s.spells) ∙ reads_fault (block_form genesis) list fault h in cc
apart list genesis parts fault s (behind text rest other few t e some) =
    let p = ok_pair {E = BlockFault} parts other [] rest (sym (reads_all (block_form genesis) list parts s.spells) ∙ ap (read (block_form genesis)) e ∙ reads_spelled (block_form genesis) text other rest t) in
    some_left rest some (sym p.1)
  where
    some_left : (rest : List ℕ) → 0 < length rest → rest ≡ [] → ⊥
    some_left [] some e = absurd (omega arith)
    some_left (b ∷ rest) some e = cc

pub one_fault : (list : List ℕ) (genesis : Bool) (f g : BlockFault) → HasBlockFault list genesis f → HasBlockFault list genesis g → f ≡ g
one_fault list genesis f g (long a) (long b) = refl
one_fault list genesis f g (long a) (inside x few h) = absurd (omega arith)
one_fault list genesis f g (long a) (behind text rest parts few t e some) = absurd (omega arith)
one_fault list genesis f g (inside x few h) (long a) = absurd (omega arith)
one_fault list genesis f g (inside x few h) (inside y few' k) =
    let both : (let r : Read = Err f in r) ≡ Err g = sym (reads_fault (block_form genesis) list f h) ∙ reads_fault (block_form genesis) list g k in cc
one_fault list genesis f g (inside x few h) (behind text rest parts few' t e some) =
    let no : (let r : Read = Err f in r) ≡ Ok (parts, rest) = sym (reads_fault (block_form genesis) list f h) ∙ ap (read (block_form genesis)) e ∙ reads_spelled (block_form genesis) text parts rest t in absurd cc
one_fault list genesis f g (behind text rest parts few t e some) (long a) = absurd (omega arith)
one_fault list genesis f g (behind text rest parts few t e some) (inside y few' k) =
    let no : (let r : Read = Err g in r) ≡ Ok (parts, rest) = sym (reads_fault (block_form genesis) list g k) ∙ ap (read (block_form genesis)) e ∙ reads_spelled (block_form genesis) text parts rest t in absurd cc
one_fault list genesis f g (behind text rest parts few t e some) (behind text' rest' parts' few' t' e' some') = refl

abbrev Outcome : List ℕ → Bool → Type 0
Outcome list genesis = ((parts : Parts) × SpellsBlock list genesis parts) ⊎ ((fault : BlockFault) × HasBlockFault list genesis fault)

-- what is read to the end is spelled
pub all_spelled : (list : List ℕ) (genesis : Bool) (parts : Parts) (rest : List ℕ) → length list ≤ 65536 → read (block_form genesis) list ≡ Ok (parts, rest) → length rest ≡ 0 → SpellsBlock list genesis parts
all_spelled list genesis parts [] few e none =
    let front = spelled_front (block_form genesis) list parts [] e in
    record { short = few; spells = subst (λ (l : List ℕ). Spells (block_form genesis) l parts) (sym (front.parts ∙ append-nil front.text)) front.spells }
all_spelled list genesis parts (b ∷ rest) few e none = absurd (omega arith)

-- what is read to a place before the end has something behind it
pub trails : (list : List ℕ) (genesis : Bool) (parts : Parts) (rest : List ℕ) → length list ≤ 65536 → read (block_form genesis) list ≡ Ok (parts, rest) → 0 < length rest → HasBlockFault list genesis Trailing
trails list genesis parts rest few e some =
    let front = spelled_front (block_form genesis) list parts rest e in
    behind front.text rest parts few front.spells front.parts some

either_of : (list : List ℕ) (genesis : Bool) (r : Read) → length list ≤ 65536 → read (block_form genesis) list ≡ r → Outcome list genesis
either_of list genesis (Ok x) few is = ends list x.0 x.1 few is
  where
    ends : (list : List ℕ) (parts : Parts) (rest : List ℕ) → length list ≤ 65536 → read (block_form genesis) list ≡ Ok (parts, rest) → Outcome list genesis
    ends list parts [] few is = inl (parts, all_spelled list genesis parts [] few is refl)
    ends list parts (b ∷ rest) few is = inr (Trailing, trails list genesis parts (b ∷ rest) few is (omega arith))
either_of list genesis (Err fault) few is = inr (fault, inside fault few (fault_found (block_form genesis) list fault is))

pub either : (list : List ℕ) (genesis : Bool) → Outcome list genesis
either list genesis = elim (cases_lt 65536 (length list)) [ inl more ↦ inr (TooLong, long more) | inr few ↦ either_of list genesis (read (block_form genesis) list) few refl ]

pub parts_spelled : (genesis : Bool) (parts : Parts) → IsSpellable genesis parts → SpellsBlock (block_text parts) genesis parts
parts_spelled genesis parts h = record { short = h.short; spells = is_spelled (block_form genesis) block_text (MeetsRules genesis) (block_spelled genesis) parts h.rules }

pub only_spelling : (list : List ℕ) (genesis : Bool) (parts : Parts) → IsBytes list → SpellsBlock list genesis parts → IsSpellable genesis parts × (list ≡ block_text parts)
only_spelling list genesis parts bytes s =
    let only = only_text (block_form genesis) block_text (MeetsRules genesis) (block_spelled genesis) list parts bytes s.spells in
    (record { rules = only.0; short = subst (λ (l : List ℕ). length l ≤ 65536) only.1 s.short }, only.1)

-- ---- the two kinds

count_broken : (genesis : Bool) (p : Parts) → p.salt < 2 ^ 64 → p.nonce < 2 ^ 64 → parents_fit genesis (length p.parents) ≡ false → read (block_form genesis) (block_text p) ≡ Err ParentCount
unfolding block_form
count_broken genesis p salt nonce fits =
    let parents : List ℕ = parents_text true p in
    let broken : first_broken (rule (parents_fit genesis (length p.parents)) ParentCount ∷ []) ≡ Some ParentCount = rw fits refl in
    later_breaks version_form _ (block_text p) 1 (salt_text true p) ParentCount (version_spelled.again 1 (salt_text true p) refl)
    (later_breaks word_form _ (salt_text true p) p.salt (nonce_text true p) ParentCount (word_spelled.again p.salt (nonce_text true p) salt)
    (later_breaks word_form _ (nonce_text true p) p.nonce (lists_text true p) ParentCount (word_spelled.again p.nonce (lists_text true p) nonce)
    (first_breaks (parent_count_form genesis) _ (lists_text true p) ParentCount
    (value_breaks 1 Short byte (λ count. rule (parents_fit genesis count) ParentCount ∷ []) (length p.parents) (length p.parents ∷ []) parents ParentCount refl refl broken))))

pub other_kind : (list : List ℕ) (genesis : Bool) (p : Parts) → IsBytes list → SpellsBlock list genesis p → HasBlockFault list (not genesis) ParentCount
other_kind list genesis p bytes s =
    let only = only_spelling list genesis p bytes s in
    let fits : parents_fit (not genesis) (length p.parents) ≡ false = unfit genesis (length p.parents) only.0.rules.parent_count in
    inside ParentCount s.short (fault_found (block_form (not genesis)) list ParentCount (ap (read (block_form (not genesis))) only.1 ∙ count_broken (not genesis) p only.0.rules.salt only.0.rules.nonce fits))
  where
    unfit : (genesis : Bool) (n : ℕ) → parents_fit genesis n ≡ true → parents_fit (not genesis) n ≡ false
    unfit true n e = let none : n ≡ 0 = eqb-true n 0 e in rw none refl
    unfit false n e = let some : 1 ≤ n = leb-true 1 n (and_true (leb 1 n) (leb n 64) e).0 in grind (arith, nat_tests)

-- a list spells one block, of one kind
pub one_of_either_kind : (list : List ℕ) (g h : Bool) (p q : Parts) → IsBytes list → SpellsBlock list g p → SpellsBlock list h q → (g ≡ h) × (p ≡ q)
one_of_either_kind list true true p q bytes s t = (refl, (one_block true list list [] [] p q s t refl).1)
one_of_either_kind list false false p q bytes s t = (refl, (one_block false list list [] [] p q s t refl).1)
one_of_either_kind list true false p q bytes s t = absurd (apart list false q ParentCount t (other_kind list true p bytes s))
one_of_either_kind list false true p q bytes s t = absurd (apart list true q ParentCount t (other_kind list false p bytes s))

-- ---- what the calls answer

pub steps_are : (genesis : Bool) (list : List ℕ) → read (block_form genesis) list ≡ block_steps genesis list
unfolding block_form read
steps_are genesis list = simp read_then

pub first_found : (list : List ℕ) (genesis : Bool) (e : ReadFault BlockFault) → length list ≤ 65536 → Fails e (block_steps genesis list) → IsCause (HasBlockFault list genesis) e
first_found list genesis Memory few h = tt
first_found list genesis (Fault fault) few h = inside fault few (fault_found (block_form genesis) list fault (steps_are genesis list ∙ h))

pub only_block : (list : List ℕ) (genesis : Bool) (r : Result ReadBlock (ReadFault BlockFault)) (parts : Parts) → IfOk r (λ b. SpellsBlock list genesis (parts_of b)) → IfOk r (λ b. b ≡ block_of list (parts_of b)) → IfErr r (IsCause (HasBlockFault list genesis)) → SpellsBlock list genesis parts
    → Answers r (Ok (block_of list parts))
only_block list genesis (Ok b) parts found block fault s =
    let same : parts ≡ parts_of b = (one_block genesis list list [] [] parts (parts_of b) s found refl).1 in
    ap (λ (p : Parts). Ok (block_of list p)) same ∙ ap (λ (x : ReadBlock). Ok x) (sym block)
only_block list genesis (Err Memory) parts found block fault s = tt
only_block list genesis (Err (Fault f)) parts found block fault s = absurd (apart list genesis parts f s fault)

pub only_fault : (list : List ℕ) (genesis : Bool) (r : Result ReadBlock (ReadFault BlockFault)) (f : BlockFault) → IfOk r (λ b. SpellsBlock list genesis (parts_of b)) → IfErr r (IsCause (HasBlockFault list genesis)) → HasBlockFault list genesis f → Answers r (Err f)
only_fault list genesis (Ok b) f found fault h = absurd (apart list genesis (parts_of b) f found h)
only_fault list genesis (Err Memory) f found fault h = tt
only_fault list genesis (Err (Fault g)) f found fault h = ap (λ (x : BlockFault). Err x) (one_fault list genesis f g h fault)

-- what follows of each good answer
pub IfOk-to : {X E : Type 0} (P Q : X → Type 0) (r : Result X E) → ((x : X) → P x → Q x) → IfOk r P → IfOk r Q
IfOk-to P Q (Ok x) f h = f x h
IfOk-to P Q (Err e) f h = tt

-- ---- the kind of a block, by its parents

parents_fitted : (b : ReadBlock) (genesis : Bool) → IsBytes b.bytes → SpellsBlock b.bytes genesis (parts_of b) → parents_fit genesis (length b.parents) ≡ true
parents_fitted b genesis bytes s = (only_spelling b.bytes genesis (parts_of b) bytes s).0.rules.parent_count

some_parents : (n : ℕ) → parents_fit false n ≡ true → (1 ≤ n) × (n ≤ 64)
some_parents n e = let both = and_true (leb 1 n) (leb n 64) e in (leb-true 1 n both.0, leb-true n 64 both.1)

pub kind_of : (b : ReadBlock) → IsBlock b → IsGenesis b ⊎ IsOther b
kind_of b h = of h.genesis h.spells
  where
    of : (genesis : Bool) → SpellsBlock b.bytes genesis (parts_of b) → IsGenesis b ⊎ IsOther b
    of true s = inl s
    of false s = inr s

pub genesis_parents : (b : ReadBlock) → IsBlock b → IsGenesis b → length b.parents ≡ 0
genesis_parents b h s = eqb-true (length b.parents) 0 (parents_fitted b true h.bytes s)

pub other_parents : (b : ReadBlock) → IsBlock b → IsOther b → (1 ≤ length b.parents) × (length b.parents ≤ 64)
other_parents b h s = some_parents (length b.parents) (parents_fitted b false h.bytes s)

pub genesis_by_parents : (b : ReadBlock) → IsBlock b → length b.parents ≡ 0 → IsGenesis b
genesis_by_parents b h none = elim (kind_of b h) [ inl s ↦ s | inr s ↦ absurd (let some = (other_parents b h s).0 in omega arith) ]

pub other_by_parents : (b : ReadBlock) → IsBlock b → 1 ≤ length b.parents → IsOther b
other_by_parents b h some = elim (kind_of b h) [ inl s ↦ absurd (let none = genesis_parents b h s in omega arith) | inr s ↦ s ]
