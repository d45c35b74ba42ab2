-- Flags that turn, one after another, and turn back.
use Rattle.std.proofs.Common.{◌≡◌, ◌≢◌, ◌<◌, ◌∙◌, not, ℕ, Bool, true, false, List, [], ◌∷◌, ◌++◌, arith, refl, sym, ap, subst, length, get_or, set, get_or-set_same, get_or-set_other, inl, length-append, length-set, set-set}
use Rattle.std.specs.Prelude.{All}
use Rattle.std.proofs.Math.ListN.{get_or-append}
use Rattle.std.proofs.lemmas.List.{set-get_or}
use Rattle.sp_carry.proofs.Members.{IsIn, in_append_right, member_meets}
use Rattle.std.proofs.lemmas.List.Elements.{All-push}
use Rattle.sp_carry.specs.Flags.{is_set}
use Rattle.sp_accept.specs.Todo.{all_turned, AreTurned, turned_at}

not_not : (b : Bool) → not (not b) ≡ b
not_not true = refl
not_not false = refl

-- turned twice, a flag is as it was
pub turned_twice : (flags : List Bool) (c : ℕ) → c < length flags → turned_at (turned_at flags c) c ≡ flags
turned_twice flags c lt =
    set-set flags c (not (is_set flags c)) (not (is_set (turned_at flags c) c))
    ∙ ap (set flags c) (ap not (get_or-set_same flags c (not (is_set flags c)) false lt) ∙ not_not (is_set flags c))
    ∙ set-get_or flags c false

-- one turn more
pub all_turned_more : (start : List Bool) (cs : List ℕ) (c : ℕ) → all_turned start (cs ++ c ∷ []) ≡ turned_at (all_turned start cs) c
all_turned_more start [] c = refl
all_turned_more start (d ∷ cs) c = all_turned_more (turned_at start d) cs c

pub all_turned_long : (start : List Bool) (cs : List ℕ) → length (all_turned start cs) ≡ length start
all_turned_long start [] = refl
all_turned_long start (c ∷ cs) = all_turned_long (turned_at start c) cs ∙ length-set start c (not (is_set start c))

-- the flag of the carrier itself, and of another one
pub turned_here : (flags : List Bool) (c : ℕ) → c < length flags → is_set (turned_at flags c) c ≡ not (is_set flags c)
turned_here flags c lt = get_or-set_same flags c (not (is_set flags c)) false lt

pub turned_other : (flags : List Bool) (c d : ℕ) → c ≢ d → is_set (turned_at flags c) d ≡ is_set flags d
turned_other flags c d apart = get_or-set_other flags c d (not (is_set flags c)) false (λ e. apart (sym e))

-- one turn, which is noted
pub turn_noted : (flags flags' : List Bool) (noted noted' : List ℕ) (c : ℕ) → c < length flags → flags' ≡ turned_at flags c → noted' ≡ noted ++ c ∷ [] → AreTurned flags flags' noted noted'
turn_noted flags flags' noted noted' c lt e f = record {
  from = λ start h. e ∙ ap (λ (l : List Bool). turned_at l c) h ∙ sym (all_turned_more start noted c) ∙ ap (all_turned start) (sym f);
  long = ap length e ∙ length-set flags c (not (is_set flags c));
  within = λ all. subst (All (λ d. d < length flags)) (sym f) (All-push (λ d. d < length flags) noted c all lt);
}

pub turned_on : (flags mid flags' : List Bool) (noted noted_mid noted' : List ℕ) → AreTurned flags mid noted noted_mid → AreTurned mid flags' noted_mid noted'
    → AreTurned flags flags' noted noted'
turned_on flags mid flags' noted noted_mid noted' a b = record {
  from = λ start h. b.from start (a.from start h);
  long = b.long ∙ a.long;
  within = λ all. subst (λ (n : ℕ). All (λ d. d < n) noted') a.long (b.within (subst (λ (n : ℕ). All (λ d. d < n) noted_mid) (sym a.long) (a.within all)));
}

pub unturned : (flags : List Bool) (noted : List ℕ) → AreTurned flags flags noted noted
unturned flags noted = record { from = λ start h. h; long = refl; within = λ all. all }

-- the last turn, turned back
pub back_once : (start flags flags' : List Bool) (noted front : List ℕ) (c : ℕ) → c < length flags → noted ≡ front ++ c ∷ [] → flags ≡ all_turned start noted
    → flags' ≡ turned_at flags c → flags' ≡ all_turned start front
back_once start flags flags' noted front c lt e is f =
    let whole : flags ≡ turned_at (all_turned start front) c = is ∙ ap (all_turned start) e ∙ all_turned_more start front c in
    f ∙ ap (λ (l : List Bool). turned_at l c) whole
    ∙ turned_twice (all_turned start front) c (let long : length flags ≡ length (all_turned start front) = ap length whole ∙ length-set (all_turned start front) c _ in omega (arith, lt, long))

-- all but the last of some numbers, and the last one
pub front_within : (bound : ℕ) (noted front : List ℕ) (c : ℕ) → noted ≡ front ++ c ∷ [] → All (λ d. d < bound) noted → All (λ d. d < bound) front
front_within bound noted front c e all = λ k d lt.
    subst (λ (n : ℕ). n < bound) (ap (λ (l : List ℕ). get_or l k d) e ∙ get_or-append front (c ∷ []) d k lt)
    (all k d (omega (arith, ap length e, length-append front (c ∷ []), lt)))

pub last_within : (bound : ℕ) (noted front : List ℕ) (c : ℕ) → noted ≡ front ++ c ∷ [] → All (λ d. d < bound) noted → c < bound
last_within bound noted front c e all = member_meets (λ d. d < bound) noted c all (subst (λ (l : List ℕ). IsIn l c) (sym e) (in_append_right front (c ∷ []) c (inl refl)))
