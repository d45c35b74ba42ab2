-- A certificate whose worlds are told is refused by nothing.
use Rattle.std.proofs.Common.{◌≡◌, ℕ, zero, suc, ◌+◌, ◌<◌, ◌≤◌, Bool, true, false, ◌&&◌, cond, List, [], ◌∷◌, length, get_or, inl, inr, refl, sym, ap, subst, ◌∙◌, Option, Some, None, arith}
use Rattle.std.specs.Prelude.{ℤ, pos, negsuc, All, filter, slice_get}
use Rattle.std.specs.List.{range_with_len}
use Rattle.std.proofs.lemmas.Bool.{and_parts, cases_eq, eq-eqb, false_from_ne_true}
use Rattle.std.proofs.lemmas.List.{length-map}
use Rattle.std.proofs.lemmas.List.FromFn.{length-range_with_len}
use Rattle.std.proofs.lemmas.Option.{slice_get_within}
use Rattle.sp_block.specs.Block.{ReadBlock}
use Rattle.sp_model.specs.Graph.{in_past, keys}
use Rattle.sp_model.specs.Votes.{sgn}
use Rattle.sp_dag.specs.Numbered.{AreInOrder, graph_of, number_of, Numbered}
use Rattle.sp_dag.proofs.Ranked.{ancestors_lower, keys_are_numbers}
use Rattle.sp_cert.specs.Certificate.{AreListed, AreVotes, Certificate, Entries, IsCertificate, IsSign}
use Rattle.sp_cert.specs.Entries.{IsTold, sum_of, whole_number, world_of}
use Rattle.sp_cert.specs.Refusals.{are_two, first_difference, HaveBlocks, is_placed, numbered_of, numbers_of, refusal, same_number, sum_refusal, table_of, vote_refusal, wanted_worlds, world_at_fault, world_refusal}
use Rattle.sp_cert.proofs.ByPlace.{in_order, table_long}
use Rattle.sp_cert.proofs.Causes.{have_blocks, found_by_place, sum_stands, whole_is}
use Rattle.sp_cert.proofs.Differences.{same_throughout}
use Rattle.sp_cert.proofs.Firsts.{first_some_skip}
use Rattle.sp_cert.proofs.Told.{keys_long, no_vote_refused}

-- ---- the worlds

pub told_votes : (table : Numbered) (order : AreInOrder table.parents) (few : length table.parents ≤ 512) (x y : ℕ) (worlds : List Entries) → All (IsTold (graph_of table) x y) worlds → All (AreVotes (length table.parents)) worlds
told_votes table order few x y worlds told k d less =
    record { long = (told k d less).long ∙ keys_long table order few; signs = (told k d less).signs }

fewer : (p : ℕ → Bool) (xs : List ℕ) → length (filter p xs) ≤ length xs
fewer p [] = omega arith
fewer p (x ∷ xs) = at (p x) (fewer p xs)
  where
    at : (c : Bool) → length (filter p xs) ≤ length xs → length (cond c (x ∷ filter p xs) (filter p xs)) ≤ suc (length xs)
    at true le = omega arith
    at false le = omega arith

-- block 0 has no past, so there are no more worlds than blocks
pub few_worlds : (table : Numbered) (x y : ℕ) (worlds : List Entries) → AreInOrder table.parents → 0 < length table.parents → numbers_of worlds ≡ wanted_worlds (graph_of table) x y → length worlds ≤ length table.parents
few_worlds table x y worlds order some numbers =
    let both = λ (z : ℕ). in_past (graph_of table) x z && in_past (graph_of table) y z in
    let none : both 0 ≡ false = false_from_ne_true (both 0)
    (λ h. let low : x < 0 = ancestors_lower table x 0 order some (and_parts (in_past (graph_of table) x 0) (in_past (graph_of table) y 0) h).0 in omega arith) in
    let long : length (numbers_of worlds) ≡ length worlds = length-map worlds (λ (w : Entries). w.number) in
    let listed : length (filter both (keys (graph_of table))) + 1 ≤ length table.parents =
    subst (λ (l : List ℕ). length (filter both l) + 1 ≤ length table.parents) (sym (keys_are_numbers table)) (under (length table.parents) both none some (λ k. refl)) in
    omega (arith, ap length numbers, long, listed)
  where
    under : (n : ℕ) (p : ℕ → Bool) → p 0 ≡ false → 0 < n → ((k : ℕ) → k ≡ k) → length (filter p (range_with_len 0 n)) + 1 ≤ n
    under zero p fails less h = absurd (omega arith)
    under (suc n) p fails less h =
        let rest : length (filter p (range_with_len 1 n)) ≤ length (range_with_len 1 n) = fewer p (range_with_len 1 n) in
        rw fails (omega (arith, rest, length-range_with_len 1 n))

same_option : (o : Option ℕ) → same_number o o ≡ true
same_option None = refl
same_option (Some a) = eq-eqb a a refl

-- the numbers of the worlds fit their fields
pub numbers_fit : (n : ℕ) (worlds : List Entries) → n ≤ 512 → HaveBlocks n worlds → All (λ (w : Entries). w.number < 65536) worlds
numbers_fit n worlds few have k d less =
    elim (cases_eq (get_or worlds k d).number whole_number) [
      | inl whole ↦ (let e : (get_or worlds k d).number ≡ 65535 = whole in omega arith)
      | inr ne ↦ (let below : (get_or worlds k d).number < n = have k d less ne in omega (arith, few))
    ]

pub numbers_stand : (table : Numbered) (worlds : List Entries) (x y : ℕ) → numbers_of worlds ≡ wanted_worlds (graph_of table) x y → world_refusal (graph_of table) worlds x y ≡ None
numbers_stand table worlds x y numbers =
    ap (λ (l : List ℕ). world_at_fault (first_difference (numbers_of worlds) l)) (sym numbers)
    ∙ ap world_at_fault (same_throughout (numbers_of worlds) (numbers_of worlds) refl (λ q less. same_option (slice_get (numbers_of worlds) q)))

-- ---- the certificate

pub nothing_refuses : (c : Certificate) (dag : Numbered) (blocks : List ReadBlock) (worlds : List Entries) (x y : ℕ) (d : Entries)
    → blocks ≡ c.blocks → worlds ≡ c.worlds → dag ≡ numbered_of c.profile blocks → ((k : ℕ) → k < length blocks → is_placed blocks k ≡ true) → length blocks ≤ 512
    → are_two dag.ids c.x c.y ≡ true → x ≡ number_of dag.ids c.x → y ≡ number_of dag.ids c.y
    → numbers_of worlds ≡ wanted_worlds (graph_of dag) x y → All (IsTold (graph_of dag) x y) worlds
    → c.sign ≡ sgn (sum_of (graph_of dag) (get_or worlds 0 d)) → refusal c ≡ None
nothing_refuses c dag blocks worlds x y d blocks_are worlds_are is placed few two at_x at_y numbers told sign =
    let tables : dag.parents ≡ table_of blocks = ap (λ (n : Numbered). n.parents) is in
    let order : AreInOrder dag.parents = subst AreInOrder (sym tables) (in_order blocks placed) in
    let small : length dag.parents ≤ 512 = omega (arith, ap length tables, table_long blocks placed, few) in
    let g = graph_of dag in
    let stands = numbers_stand dag worlds x y numbers in
    let first : slice_get (numbers_of worlds) 0 ≡ Some whole_number = ap (λ (l : List ℕ). slice_get l 0) numbers in
    let some : 0 < length worlds = omega (arith, slice_get_within (numbers_of worlds) 0 whole_number first, length-map worlds (λ (w : Entries). w.number)) in
    found_by_place c dag blocks worlds c.sign x y blocks_are worlds_are refl is placed two at_x at_y
    ∙ first_some_skip (world_refusal g worlds x y) (vote_refusal g worlds x y ∷ sum_refusal g worlds c.sign ∷ []) stands
    ∙ first_some_skip (vote_refusal g worlds x y) (sum_refusal g worlds c.sign ∷ [])
    (no_vote_refused dag order small worlds x y numbers told (have_blocks dag worlds x y stands))
    ∙ first_some_skip (sum_refusal g worlds c.sign) []
    (sum_stands (sgn (sum_of g (world_of worlds whole_number))) c.sign
    (ap (λ (w : Entries). sgn (sum_of g w)) (whole_is worlds d first some) ∙ sym sign))

sign_of_sign : (n : ℤ) → IsSign (sgn n)
sign_of_sign (pos zero) = refl
sign_of_sign (pos (suc n)) = refl
sign_of_sign (negsuc n) = refl

-- so it is a certificate
pub is_certificate : (c : Certificate) (dag : Numbered) (blocks : List ReadBlock) (worlds : List Entries) (x y : ℕ) (sum : ℤ)
    → c.blocks ≡ blocks → c.worlds ≡ worlds → dag ≡ numbered_of c.profile blocks → ((k : ℕ) → k < length blocks → is_placed blocks k ≡ true) → AreListed blocks
    → numbers_of worlds ≡ wanted_worlds (graph_of dag) x y → All (IsTold (graph_of dag) x y) worlds → c.sign ≡ sgn sum → IsCertificate c
is_certificate c dag blocks worlds x y sum blocks_are worlds_are is placed listed numbers told sign =
    let tables : dag.parents ≡ table_of blocks = ap (λ (n : Numbered). n.parents) is in
    let long : length dag.parents ≡ length blocks = ap length tables ∙ table_long blocks placed in
    let order : AreInOrder dag.parents = subst AreInOrder (sym tables) (in_order blocks placed) in
    let small : length dag.parents ≤ 512 = omega (arith, long, listed.few) in
    let some : 0 < length dag.parents = omega (arith, long, ap length listed.first) in
    let first : slice_get (numbers_of worlds) 0 ≡ Some whole_number = ap (λ (l : List ℕ). slice_get l 0) numbers in
    record {
      blocks = subst AreListed (sym blocks_are) listed;
      sign = subst IsSign (sym sign) (sign_of_sign sum);
      some = omega (arith, ap length worlds_are, slice_get_within (numbers_of worlds) 0 whole_number first, length-map worlds (λ (w : Entries). w.number));
      few = omega (arith, ap length worlds_are, few_worlds dag x y worlds order some numbers, small);
      worlds = subst (λ (l : List Entries). All (AreVotes (length c.blocks)) l) (sym worlds_are)
          (subst (λ (n : ℕ). All (AreVotes n) worlds) (long ∙ ap length (sym blocks_are)) (told_votes dag order small x y worlds told));
    }
