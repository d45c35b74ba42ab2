-- The first of several refusals, one after another, and what holds where the worlds have their numbers.
use Rattle.std.proofs.Common.{◌≡◌, ◌≢◌, ℕ, zero, suc, ◌<◌, Bool, true, false, ◌&&◌, List, [], ◌∷◌, length, get_or, refl, sym, ap, subst, ◌∙◌, inl, inr, eqb, Option, Some, None, arith}
use Rattle.std.specs.Prelude.{filter, slice_get, ℤ, pos, Result, Ok, Err, OnOk, IfErr}
use Rattle.std.specs.List.{range_with_len}
use Rattle.std.specs.Ordering.{int_eq}
use Rattle.std.proofs.lemmas.Bool.{cases_lt, eq-eqb, eqb-true, false_from_ne_true, false≢true, or_cases, or_left, or_right}
use Rattle.std.proofs.lemmas.Bool.Decides.{Decides-int_eq}
use Rattle.std.proofs.lemmas.Option.{same_Some}
use Rattle.sp_block.specs.Block.{ReadBlock}
use Rattle.sp_model.specs.Graph.{Graph, has, in_past, keys}
use Rattle.sp_model.specs.Votes.{sgn, total}
use Rattle.sp_pool.specs.Kept.{ids_of}
use Rattle.sp_model.proofs.Sets.{has-filter}
use Rattle.sp_dag.specs.Numbered.{graph_of, number_of, Numbered}
use Rattle.sp_dag.proofs.Ranked.{key_out}
use Rattle.sp_cert.specs.Certificate.{Certificate, Entries}
use Rattle.sp_cert.specs.Entries.{sum_of, whole_number, world_of}
use Rattle.sp_cert.specs.Refusals.{are_two, first_difference, first_some, HaveBlocks, IsCause, is_placed, numbered_of, numbers_of, parent_refusal, refusal, refusals_by_place, unless, wanted_worlds, world_refusal}
use Rattle.sp_cert.specs.declared.fault.CheckFault.{CheckFault}
use Rattle.sp_cert.specs.declared.fault.CheckFault.TheVariants.{Pair, Parent, Sum}
use Rattle.sp_cert.proofs.Firsts.{first_some_here, first_some_skip, none_below}
use Rattle.sp_cert.proofs.Judging.{sum_is, world_of-here}
use Rattle.sp_cert.proofs.Shown.{no_difference, world_at_fault_none}

pub cause_here : (o : Option CheckFault) (rest : List (Option CheckFault)) (fault : CheckFault) → IsCause o fault → IsCause (first_some (o ∷ rest)) fault
cause_here o rest fault h ne = first_some_here o rest fault (h ne)

pub cause_later : (o : Option CheckFault) (rest : List (Option CheckFault)) (fault : CheckFault) → o ≡ None → IsCause (first_some rest) fault → IsCause (first_some (o ∷ rest)) fault
cause_later o rest fault none h ne = first_some_skip o rest none ∙ h ne

pub numbers_are : (table : Numbered) (worlds : List Entries) (x y : ℕ) → world_refusal (graph_of table) worlds x y ≡ None → numbers_of worlds ≡ wanted_worlds (graph_of table) x y
numbers_are table worlds x y none =
    no_difference (numbers_of worlds) (wanted_worlds (graph_of table) x y)
    (world_at_fault_none (first_difference (numbers_of worlds) (wanted_worlds (graph_of table) x y)) none)

number_at : (worlds : List Entries) (p : ℕ) (d : Entries) → p < length worlds → has (numbers_of worlds) (get_or worlds p d).number ≡ true
number_at [] p d less = absurd (omega arith)
number_at (w ∷ ws) zero d less = or_left (eqb w.number w.number) (has (numbers_of ws) w.number) (eq-eqb w.number w.number refl)
number_at (w ∷ ws) (suc p) d less = or_right (eqb w.number (get_or ws p d).number) (has (numbers_of ws) (get_or ws p d).number) (number_at ws p d (omega arith))

pub have_blocks : (table : Numbered) (worlds : List Entries) (x y : ℕ) → world_refusal (graph_of table) worlds x y ≡ None → HaveBlocks (length table.parents) worlds
have_blocks table worlds x y none p d less ne =
    let g = graph_of table in
    let both = λ (z : ℕ). in_past g x z && in_past g y z in
    let number : ℕ = (get_or worlds p d).number in
    let there = ap (λ (l : List ℕ). has l number) (sym (numbers_are table worlds x y none)) ∙ number_at worlds p d less in
    elim (or_cases (eqb whole_number number) (has (filter both (keys g)) number) there) [
      | inl whole ↦ absurd (ne (sym (eqb-true whole_number number whole)))
      | inr block ↦ elim (cases_lt number (length table.parents)) [
        | inl inside ↦ inside
        | inr beyond ↦ absurd (false≢true (sym (key_out table number beyond) ∙ (has-filter both (keys g) number block).0))
      ]
    ]

pub first_whole : (table : Numbered) (worlds : List Entries) (x y : ℕ) → world_refusal (graph_of table) worlds x y ≡ None → slice_get (numbers_of worlds) 0 ≡ Some whole_number
first_whole table worlds x y none = ap (λ (l : List ℕ). slice_get l 0) (numbers_are table worlds x y none)

-- where the first world is that of all blocks, it is the one
pub whole_is : (worlds : List Entries) (d : Entries) → slice_get (numbers_of worlds) 0 ≡ Some whole_number → 0 < length worlds → world_of worlds whole_number ≡ get_or worlds 0 d
whole_is [] d first some = absurd (omega arith)
whole_is (w ∷ ws) d first some = world_of-here w ws whole_number (same_Some w.number whole_number first)

-- ---- the whole certificate

module _ (c : Certificate) where
  abbrev graph : Graph
  graph = graph_of (numbered_of c.profile c.blocks)

  abbrev last_three : List (Option CheckFault)
  last_three = refusals_by_place graph c.worlds c.sign (number_of (ids_of c.blocks) c.x) (number_of (ids_of c.blocks) c.y)

  pub refused_parent : (fault : CheckFault) → IsCause (parent_refusal c.blocks) fault → IsCause (refusal c) fault
  unfolding refusal
  refused_parent fault h = cause_here (parent_refusal c.blocks) (unless (are_two (ids_of c.blocks) c.x c.y) Pair ∷ last_three) fault h

  no_parent : ((k : ℕ) → k < length c.blocks → is_placed c.blocks k ≡ true) → parent_refusal c.blocks ≡ None
  no_parent placed =
      none_below (λ k. unless (is_placed c.blocks k) (Parent k)) (length c.blocks) (λ k less. ap (λ (b : Bool). unless b (Parent k)) (placed k less))

  pub refused_pair : ((k : ℕ) → k < length c.blocks → is_placed c.blocks k ≡ true) → are_two (ids_of c.blocks) c.x c.y ≡ false → refusal c ≡ Some Pair
  unfolding refusal
  refused_pair placed none =
      first_some_skip (parent_refusal c.blocks) (unless (are_two (ids_of c.blocks) c.x c.y) Pair ∷ last_three) (no_parent placed)
      ∙ first_some_here (unless (are_two (ids_of c.blocks) c.x c.y) Pair) last_three Pair (ap (λ (b : Bool). unless b Pair) none)

  -- what is left where the first two don't stand
  pub refused_by_place : ((k : ℕ) → k < length c.blocks → is_placed c.blocks k ≡ true) → are_two (ids_of c.blocks) c.x c.y ≡ true → refusal c ≡ first_some last_three
  unfolding refusal
  refused_by_place placed two =
      first_some_skip (parent_refusal c.blocks) (unless (are_two (ids_of c.blocks) c.x c.y) Pair ∷ last_three) (no_parent placed)
      ∙ first_some_skip (unless (are_two (ids_of c.blocks) c.x c.y) Pair) last_three (ap (λ (b : Bool). unless b Pair) two)

-- the sign that is read off the first world
pub sum_value : (table : Numbered) (worlds : List Entries) (w : Entries) (votes : List ℤ) (sum sign : ℤ)
    → slice_get (numbers_of worlds) 0 ≡ Some whole_number → 0 < length worlds → w ≡ get_or worlds 0 w → votes ≡ w.votes → length w.votes ≡ length table.parents
    → sum ≡ total (λ z. get_or votes z (pos 0)) (range_with_len 0 (length votes)) → sign ≡ sgn sum
    → sgn (sum_of (graph_of table) (world_of worlds whole_number)) ≡ sign
sum_value table worlds w votes sum sign first some at read long sum_of_votes sign_of_sum =
    ap (λ (v : Entries). sgn (sum_of (graph_of table) v)) (whole_is worlds w first some ∙ sym at)
    ∙ ap sgn (sym (sum_of_votes ∙ sum_is table w votes read long)) ∙ sym sign_of_sum

pub sum_stands : (a b : ℤ) → a ≡ b → unless (int_eq a b) Sum ≡ None
sum_stands a b e = ap (λ (c : Bool). unless c Sum) ((Decides-int_eq a b).1 e)

pub sum_fails : (a b : ℤ) → a ≢ b → unless (int_eq a b) Sum ≡ Some Sum
sum_fails a b ne = ap (λ (c : Bool). unless c Sum) (false_from_ne_true (int_eq a b) (λ h. ne ((Decides-int_eq a b).0 h)))

-- the refusals that are left, by the graph and the places that were found
pub found_by_place : (c : Certificate) (dag : Numbered) (blocks : List ReadBlock) (worlds : List Entries) (sign : ℤ) (x y : ℕ)
    → blocks ≡ c.blocks → worlds ≡ c.worlds → sign ≡ c.sign → dag ≡ numbered_of c.profile blocks → ((k : ℕ) → k < length blocks → is_placed blocks k ≡ true)
    → are_two dag.ids c.x c.y ≡ true → x ≡ number_of dag.ids c.x → y ≡ number_of dag.ids c.y
    → refusal c ≡ first_some (refusals_by_place (graph_of dag) worlds sign x y)
found_by_place c dag blocks worlds sign x y blocks_are worlds_are sign_is is placed two at_x at_y =
    let all : dag ≡ numbered_of c.profile c.blocks = is ∙ ap (numbered_of c.profile) blocks_are in
    let ids : dag.ids ≡ ids_of c.blocks = ap (λ (d : Numbered). d.ids) all in
    refused_by_place c (subst (λ (bs : List ReadBlock). (k : ℕ) → k < length bs → is_placed bs k ≡ true) blocks_are placed)
    (ap (λ (l : List ℕ). are_two l c.x c.y) (sym ids) ∙ two)
    ∙ ap (λ (ws : List Entries). first_some (refusals_by_place (graph_of (numbered_of c.profile c.blocks)) ws c.sign (number_of (ids_of c.blocks) c.x) (number_of (ids_of c.blocks) c.y))) (sym worlds_are)
    ∙ ap (λ (d : Numbered). first_some (refusals_by_place (graph_of d) worlds c.sign (number_of d.ids c.x) (number_of d.ids c.y))) (sym all)
    ∙ ap (λ (k : ℕ). first_some (refusals_by_place (graph_of dag) worlds c.sign k (number_of dag.ids c.y))) (sym at_x)
    ∙ ap (λ (k : ℕ). first_some (refusals_by_place (graph_of dag) worlds c.sign x k)) (sym at_y)
    ∙ ap (λ (v : ℤ). first_some (refusals_by_place (graph_of dag) worlds v x y)) (sym sign_is)

pub pair_refused : (c : Certificate) (dag : Numbered) (blocks : List ReadBlock) → blocks ≡ c.blocks → dag ≡ numbered_of c.profile blocks
    → ((k : ℕ) → k < length blocks → is_placed blocks k ≡ true) → are_two dag.ids c.x c.y ≡ false → refusal c ≡ Some Pair
pair_refused c dag blocks blocks_are is placed none =
    let ids : dag.ids ≡ ids_of c.blocks = ap (λ (d : Numbered). d.ids) (is ∙ ap (numbered_of c.profile) blocks_are) in
    refused_pair c (subst (λ (bs : List ReadBlock). (k : ℕ) → k < length bs → is_placed bs k ≡ true) blocks_are placed)
    (ap (λ (l : List ℕ). are_two l c.x c.y) (sym ids) ∙ none)

pub OnOk-to : {X E : Type 0} {P Q : Type 0} (r : Result X E) → (P → Q) → OnOk r P → OnOk r Q
OnOk-to (Ok x) f h = f h
OnOk-to (Err e) f h = h

pub IfErr-to : {X E : Type 0} {P Q : E → Type 0} (r : Result X E) → ((e : E) → P e → Q e) → IfErr r P → IfErr r Q
IfErr-to (Ok x) f h = h
IfErr-to (Err e) f h = f e h
