-- Which of two numbered blocks comes first, as acceptance asks it, by the word that their virtual vote says.
use Rattle.std.proofs.Common.{◌≡◌, Bool, true, false, List, ℕ, zero, suc, refl, sym, ap, ◌∙◌}
use Rattle.std.specs.Prelude.{ℤ, pos, negsuc}
use Rattle.std.specs.Ordering.{int_eq}
use Rattle.sp_model.specs.Graph.{Graph}
use Rattle.sp_model.specs.Votes.{sgn, total, virt, vote, word_of}
use Rattle.sp_model.specs.declared.word.Word.{Word}
use Rattle.sp_model.specs.declared.word.Word.TheVariants.{Before, After, Tie, Same, Absent}
use Rattle.sp_dag.specs.Numbered.{graph_of, Numbered}
use Rattle.sp_dag.proofs.Ranked.{keys_are_numbers}
use Rattle.sp_accept.specs.Standing.{is_before}
use Rattle.sp_engine.specs.Engine.{numbers}

abbrev pub is_first : Word → Bool
is_first Before = true
is_first After = false
is_first Tie = false
is_first Same = false
is_first Absent = false

first_by_sign : (t : ℤ) → is_first (word_of (sgn t)) ≡ int_eq (sgn t) (negsuc 0)
first_by_sign (negsuc n) = refl
first_by_sign (pos zero) = refl
first_by_sign (pos (suc n)) = refl

first_by_vote : (g : Graph) (set : List ℕ) (x y : ℕ) → is_first (word_of (virt g set x y)) ≡ int_eq (virt g set x y) (negsuc 0)
unfolding virt
first_by_vote g set x y = first_by_sign (total (λ z. vote g set z x y) set)

pub not_first : (w : Word) → (w ≡ Before → ⊥) → is_first w ≡ false
not_first Before isnt = absurd (isnt refl)
not_first After isnt = refl
not_first Tie isnt = refl
not_first Same isnt = refl
not_first Absent isnt = refl

-- the word says it
pub before_is : (blocks : Numbered) (table : Numbered) (x y : ℕ) (w : Word) → blocks ≡ table
    → w ≡ word_of (virt (graph_of blocks) (numbers blocks) x y) → is_first w ≡ is_before table x y
before_is blocks table x y w same is =
    ap is_first is
    ∙ first_by_vote (graph_of blocks) (numbers blocks) x y
    ∙ ap (λ (s : List ℕ). int_eq (virt (graph_of blocks) s x y) (negsuc 0)) (sym (keys_are_numbers blocks))
    ∙ ap (λ (t : Numbered). is_before t x y) same
