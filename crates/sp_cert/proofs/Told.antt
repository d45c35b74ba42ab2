-- Worlds whose entries are votes: their sums, and that no entry of theirs is refused.
use Rattle.std.proofs.Common.{◌≡◌, ◌≢◌, ℕ, ◌+◌, ◌<◌, ◌≤◌, Bool, true, false, ◌&&◌, cond, List, [], ◌∷◌, ◌++◌, length, get_or, refl, sym, ap, subst, ◌∙◌, inl, inr, eqb, None, arith}
use Rattle.std.specs.Prelude.{ℤ, pos, All, filter}
use Rattle.std.specs.List.{range_with_len}
use Rattle.std.specs.Ordering.{int_eq}
use Rattle.std.proofs.lemmas.Bool.{and_from, cases_lt, false_from_ne_true, false≢true, ne_eqb, or_right}
use Rattle.std.proofs.lemmas.Bool.Decides.{Decides-int_eq}
use Rattle.std.proofs.lemmas.List.{map-append}
use Rattle.std.proofs.lemmas.List.Elements.{All-append, All-cons}
use Rattle.std.proofs.lemmas.List.FromFn.{length-range_with_len}
use Rattle.sp_model.specs.Graph.{Graph, has, in_past, past, keys, IsDownset}
use Rattle.sp_model.specs.Votes.{sgn, total, vote, virt}
use Rattle.sp_model.proofs.Sets.{has-filter, has-filter_from, total_same}
use Rattle.sp_model.proofs.Pasts.{complete_key, past_downset}
use Rattle.sp_dag.specs.Numbered.{AreInOrder, graph_of, Numbered}
use Rattle.sp_dag.proofs.Ranked.{complete_numbered, downset_numbered, key_in, key_out, keys_are_numbers}
use Rattle.sp_cert.specs.Certificate.{Entries, IsSign}
use Rattle.sp_cert.specs.Entries.{AreVirtsBelow, entry, IsTold, members_of, right_entry, sum_of, vote_in, whole_number, world_of}
use Rattle.sp_cert.specs.Refusals.{entry_refusal, numbers_of, unless, vote_refusal, wanted_worlds, world_at}
use Rattle.sp_cert.specs.declared.fault.CheckFault.TheVariants.{Vote}
use Rattle.sp_cert.proofs.Casting.{cast_vote}
use Rattle.sp_cert.proofs.Firsts.{none_below}
use Rattle.sp_cert.proofs.Ranges.{filter_more_yes}
use Rattle.sp_cert.proofs.RightEntries.{total_members}
use Rattle.sp_cert.proofs.Shown.{IsIn, world_there}

-- ---- sums

-- the sign of the sum of a world is the virtual vote of its blocks
pub told_sum : (g : Graph) (x y : ℕ) (w : Entries) (p : ℕ → Bool) → members_of g w.number ≡ filter p (keys g) → IsTold g x y w → sgn (sum_of g w) ≡ virt g (members_of g w.number) x y
unfolding virt
told_sum g x y w p filtered told =
    ap sgn
    (total_members (entry w) p (keys g) (λ k key fails. told.votes k key ∙ ap (λ (c : Bool). cond c (vote g (members_of g w.number) k x y) (pos 0)) (outside k fails))
    ∙ ap (total (entry w)) (sym filtered)
    ∙ total_same (entry w) (λ k. vote g (members_of g w.number) k x y) (members_of g w.number)
    (λ k member. told.votes k (inside k member) ∙ ap (λ (c : Bool). cond c (vote g (members_of g w.number) k x y) (pos 0)) member))
  where
    outside : (k : ℕ) → p k ≡ false → has (members_of g w.number) k ≡ false
    outside k fails =
        false_from_ne_true (has (members_of g w.number) k) (λ there. false≢true (sym fails ∙ (has-filter p (keys g) k (ap (λ (l : List ℕ). has l k) (sym filtered) ∙ there)).1))

    inside : (k : ℕ) → has (members_of g w.number) k ≡ true → has (keys g) k ≡ true
    inside k there = (has-filter p (keys g) k (ap (λ (l : List ℕ). has l k) (sym filtered) ∙ there)).0

-- ---- worlds of numbered blocks

module _ (table : Numbered) (order : AreInOrder table.parents) (few : length table.parents ≤ 512) where
  pub key_below : (z : ℕ) → has (keys (graph_of table)) z ≡ true → z < length table.parents
  key_below z there =
      elim (cases_lt z (length table.parents)) [
        | inl less ↦ less
        | inr le ↦ absurd (false≢true (sym (key_out table z le) ∙ there))
      ]

  pub keys_long : length (keys (graph_of table)) ≡ length table.parents
  keys_long = ap length (keys_are_numbers table) ∙ length-range_with_len 0 (length table.parents)

  pub members_of-block : (z : ℕ) → z < length table.parents → members_of (graph_of table) z ≡ past (graph_of table) z
  members_of-block z less = rw (ne_eqb z whole_number (λ e. absurd (omega (arith, e, few, less)))) refl

  pub past_down : (z : ℕ) → z < length table.parents → IsDownset (graph_of table) (past (graph_of table) z)
  past_down z less = past_downset (graph_of table) z (complete_numbered table z order less)

  -- the votes that were found are those of a block's world
  pub past_told : (z x y : ℕ) (votes : List ℤ) → z < length table.parents → length votes ≡ length table.parents → All IsSign votes
      → ((k : ℕ) → k < length table.parents → get_or votes k (pos 0) ≡ vote_in (graph_of table) (past (graph_of table) z) x y k)
      → IsTold (graph_of table) x y (record { number = z; votes = votes })
  past_told z x y votes less long signs each = record {
    long = long ∙ sym keys_long;
    signs = signs;
    votes = λ k key. each k (key_below k key) ∙ ap (λ (m : List ℕ). vote_in (graph_of table) m x y k) (sym (members_of-block z less));
  }

  pub whole_told : (x y : ℕ) (votes : List ℤ) → length votes ≡ length table.parents → All IsSign votes
      → ((k : ℕ) → k < length table.parents → get_or votes k (pos 0) ≡ vote_in (graph_of table) (keys (graph_of table)) x y k)
      → IsTold (graph_of table) x y (record { number = whole_number; votes = votes })
  whole_told x y votes long signs each = record {
    long = long ∙ sym keys_long;
    signs = signs;
    votes = λ k key. each k (key_below k key);
  }

  -- the sign of the sum of a block's world is the virtual vote of its past
  pub past_sum : (z x y : ℕ) (w : Entries) → w.number ≡ z → z < length table.parents → IsTold (graph_of table) x y w → sgn (sum_of (graph_of table) w) ≡ virt (graph_of table) (past (graph_of table) z) x y
  past_sum z x y w is less told =
      let members : members_of (graph_of table) w.number ≡ past (graph_of table) z = ap (members_of (graph_of table)) is ∙ members_of-block z less in
      told_sum (graph_of table) x y w (λ a. in_past (graph_of table) a z) members told ∙ ap (λ (m : List ℕ). virt (graph_of table) m x y) members

  pub whole_sum : (x y : ℕ) (w : Entries) → w.number ≡ whole_number → IsTold (graph_of table) x y w → sgn (sum_of (graph_of table) w) ≡ virt (graph_of table) (keys (graph_of table)) x y
  whole_sum x y w is told =
      let members : members_of (graph_of table) w.number ≡ keys (graph_of table) = ap (members_of (graph_of table)) is in
      told_sum (graph_of table) x y w (λ a. true) (members ∙ sym (all_pass (keys (graph_of table)))) told ∙ ap (λ (m : List ℕ). virt (graph_of table) m x y) members
    where
      all_pass : (xs : List ℕ) → filter (λ z. true) xs ≡ xs
      all_pass [] = refl
      all_pass (x ∷ xs) = ap (λ (l : List ℕ). x ∷ l) (all_pass xs)

  -- ---- no entry is refused

  module _ (worlds : List Entries) (x y : ℕ) (numbers : numbers_of worlds ≡ wanted_worlds (graph_of table) x y) (told : All (IsTold (graph_of table) x y) worlds) where
    told_in : (w : Entries) → IsIn worlds w → IsTold (graph_of table) x y w
    unfolding IsIn
    told_in w inside = subst (IsTold (graph_of table) x y) inside.2 (told inside.0 (record { number = 0; votes = [] }) inside.1)

    sums_are : (k : ℕ) → has (keys (graph_of table)) k ≡ true → in_past (graph_of table) x k ≡ true → in_past (graph_of table) y k ≡ true
        → sgn (sum_of (graph_of table) (world_of worlds k)) ≡ virt (graph_of table) (past (graph_of table) k) x y
    sums_are k key x_in y_in =
        let both = λ (z : ℕ). in_past (graph_of table) x z && in_past (graph_of table) y z in
        let wanted : has (wanted_worlds (graph_of table) x y) k ≡ true =
        or_right (eqb whole_number k) (has (filter both (keys (graph_of table))) k)
        (has-filter_from both (keys (graph_of table)) k key (and_from (in_past (graph_of table) x k) (in_past (graph_of table) y k) x_in y_in)) in
        let found = world_there worlds k (ap (λ (l : List ℕ). has l k) numbers ∙ wanted) in
        past_sum k x y (world_of worlds k) found.1 (key_below k key) (told_in (world_of worlds k) found.0)

    members_down : (w : Entries) → (w.number ≢ whole_number → w.number < length table.parents) → IsDownset (graph_of table) (members_of (graph_of table) w.number)
    members_down w block = by (eqb w.number whole_number) refl
      where
        by : (c : Bool) → eqb w.number whole_number ≡ c → IsDownset (graph_of table) (cond c (keys (graph_of table)) (past (graph_of table) w.number))
        by true e = downset_numbered table order
        by false e = past_down w.number (block (λ same. false≢true (sym e ∙ ap (λ (k : ℕ). eqb k whole_number) same)))

    pub no_vote_refused : ((p : ℕ) (d : Entries) → p < length worlds → (get_or worlds p d).number ≢ whole_number → (get_or worlds p d).number < length table.parents)
        → vote_refusal (graph_of table) worlds x y ≡ None
    no_vote_refused blocks =
        none_below (entry_refusal (graph_of table) worlds x y) (length worlds)
        (λ p less. none_below (λ z. unless (int_eq (entry (world_at worlds p) z) (right_entry (graph_of table) worlds (world_at worlds p) z x y)) (Vote p z))
        (length (keys (graph_of table)))
        (λ z below.
        let w = world_at worlds p in
        let own = told p (record { number = 0; votes = [] }) less in
        let down = members_down w (blocks p (record { number = 0; votes = [] }) less) in
        let key : has (keys (graph_of table)) z ≡ true = key_in table z (omega (arith, keys_long)) in
        ap (λ (c : Bool). unless c (Vote p z))
        ((Decides-int_eq (entry w z) (right_entry (graph_of table) worlds w z x y)).1
        (own.votes z key
        ∙ sym (cast_vote table (members_of (graph_of table) w.number) (λ k. sgn (sum_of (graph_of table) (world_of worlds k))) (entry w) z x y order down
        (λ k member x_in y_in. sums_are k (complete_key (graph_of table) k (down.all_complete k member)) x_in y_in)
        (λ k above inside. own.votes k (key_in table k inside)))))))

-- ---- one world more

pub numbers_push : (before now : List Entries) (w : Entries) (z : ℕ) (p : ℕ → Bool) → now ≡ before ++ w ∷ [] → w.number ≡ z → p z ≡ true
    → numbers_of before ≡ filter p (range_with_len 0 z) → numbers_of now ≡ filter p (range_with_len 0 (z + 1))
numbers_push before now w z p more is passes numbers =
    ap numbers_of more ∙ map-append (λ (v : Entries). v.number) before (w ∷ [])
    ∙ ap (λ (l : List ℕ). l ++ w.number ∷ []) numbers ∙ ap (λ (k : ℕ). filter p (range_with_len 0 z) ++ k ∷ []) is ∙ sym (filter_more_yes p z passes)

pub told_push : (P : Entries → Type 0) (before now : List Entries) (w : Entries) → now ≡ before ++ w ∷ [] → P w → All P before → All P now
told_push P before now w more own all =
    subst (λ (l : List Entries). All P l) (sym more) (All-append P before (w ∷ []) all (All-cons P w [] own (λ k d less. absurd (omega arith))))

-- where a block doesn't see both, there is nothing to know of it
pub known_skip : (g : Graph) (x y z : ℕ) (before now : List ℤ) → now ≡ before → (in_past g x z && in_past g y z) ≡ false → AreVirtsBelow g x y z before → AreVirtsBelow g x y (z + 1) now
known_skip g x y z before now same none known k less x_in y_in =
    ap (λ (l : List ℤ). get_or l k (pos 0)) same
    ∙ elim (cases_lt k z) [
      | inl low ↦ known k low x_in y_in
      | inr high ↦ (let e : z ≡ k = omega arith in
          absurd (false≢true (sym none ∙ ap (λ (j : ℕ). in_past g x j && in_past g y j) e ∙ and_from (in_past g x k) (in_past g y k) x_in y_in)))
    ]
