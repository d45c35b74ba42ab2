-- Open voters that all frozen voters are above: where no other votes are known, all vote as most of these do.
use Rattle.std.proofs.Common.{◌≡◌, ℕ, zero, suc, ◌<◌, ◌≤◌, ◌+◌, Bool, true, false, ◌||◌, ◌&&◌, List, [], length, refl, sym, ap, ◌∙◌, eqb, arith}
use Rattle.std.specs.Prelude.{ℤ, not}
use Rattle.std.specs.List.{list_all, range_with_len}
use Rattle.std.proofs.lemmas.Bool.{false≢true, and_parts, eqb-true, not-true}
use Rattle.sp_bits.specs.Places.{places_where, meet}
use Rattle.sp_bits.proofs.RowSets.{row_small}
use Rattle.sp_model.specs.Graph.{Graph, IsDownset, has, in_past, keys, past}
use Rattle.sp_model.specs.Votes.{vote}
use Rattle.sp_model.specs.Loose.{is_loose, is_plus, is_minus}
use Rattle.sp_model.proofs.Loose.{frozen_same}
use Rattle.sp_model.proofs.Pasts.{complete_key, past_trans}
use Rattle.sp_model.proofs.Sets.{all_at}
use Rattle.sp_dag.specs.Numbered.{Numbered, graph_of, AreInOrder}
use Rattle.sp_dag.proofs.Ranked.{past_members}
use Rattle.sp_frozen.specs.Voters.{AreFrozen}
use Rattle.sp_view.specs.Settled.{AreKept, AreOpen, IsAsked}
use Rattle.sp_view.proofs.Following.{count_within, minus_only, minus_wins, neither_wins, plus_only, plus_wins, votes_above}

-- what is in the past of both blocks of a pair is in that of each frozen voter
pub frozen_above : (g : Graph) (set : List ℕ) (x y z b : ℕ) → IsDownset g set → in_past g z x ≡ true → in_past g z y ≡ true → has set b ≡ true → is_loose g b x y ≡ false
    → in_past g z b ≡ true
frozen_above g set x y z b down below_x below_y member bound =
    at (eqb b x) (in_past g x b) (eqb b y) (in_past g y b) refl refl refl refl bound
  where
    at : (p q r s : Bool) → eqb b x ≡ p → in_past g x b ≡ q → eqb b y ≡ r → in_past g y b ≡ s → not ((p || q) || (r || s)) ≡ false → in_past g z b ≡ true
    at true q r s ep eq er es h = ap (in_past g z) (eqb-true b x ep) ∙ below_x
    at false true r s ep eq er es h = past_trans g z x b (down.all_complete b member) below_x eq
    at false false true s ep eq er es h = ap (in_past g z) (eqb-true b y er) ∙ below_y
    at false false false true ep eq er es h = past_trans g z y b (down.all_complete b member) below_y es
    at false false false false ep eq er es h = absurd (false≢true (sym h))

pub within_past : (table : Numbered) (x : ℕ) (row todo : List ℕ) → AreInOrder table.parents → x < length table.parents → row ≡ past (graph_of table) x → list_all (has row) todo ≡ true
    → (z : ℕ) → has todo z ≡ true → in_past (graph_of table) z x ≡ true
within_past table x row todo order less is all z h = sym (past_members table z x order less) ∙ ap (λ (l : List ℕ). has l z) (sym is) ∙ all_at (has row) todo z all h

-- One side: as many vote for it above an open voter as frozen ones do, where no loose voter above does.
module _ (g : Graph) (set : List ℕ) (x y : ℕ) (whole : IsDownset g (keys g)) (asked : IsAsked g set) (votes : ℤ → Bool) (row todo : List ℕ)
    (row_is : (z : ℕ) → has set z ≡ true → has row z ≡ (not (is_loose g z x y) && votes (vote g (keys g) z x y)))
    (above : (z b : ℕ) → has todo z ≡ true → has set b ≡ true → is_loose g b x y ≡ false → in_past g z b ≡ true)
    (others : (u : ℕ) → has set u ≡ true → is_loose g u x y ≡ true → has todo u ≡ false → votes (vote g set u x y) ≡ false) where
  same : (u : ℕ) → has set u ≡ true → is_loose g u x y ≡ false → vote g (keys g) u x y ≡ vote g set u x y
  same u member bound = frozen_same g (keys g) set u x y whole asked.down (complete_key g u (asked.down.all_complete u member)) member bound

  pub many : (z : ℕ) → has todo z ≡ true → length (meet set row) ≤ votes_above g set x y votes z
  unfolding votes_above places_where
  many z open_still = count_within (λ u. has set u && has row u) (λ u. (has set u && in_past g z u) && votes (vote g set u x y)) (range_with_len 0 512) here
    where
      here : (u : ℕ) → (has set u && has row u) ≡ true → ((has set u && in_past g z u) && votes (vote g set u x y)) ≡ true
      here u h =
          let parts : (has set u ≡ true) × (has row u ≡ true) = and_parts (has set u) (has row u) h in
          let voted : (not (is_loose g u x y) ≡ true) × (votes (vote g (keys g) u x y) ≡ true) =
          and_parts (not (is_loose g u x y)) (votes (vote g (keys g) u x y)) (sym (row_is u parts.0) ∙ parts.1) in
          let bound : is_loose g u x y ≡ false = not-true (is_loose g u x y) voted.0 in
          rw (parts.0, above z u open_still parts.0 bound) (ap votes (sym (same u parts.0 bound)) ∙ voted.1)

  pub few : (z : ℕ) → ((u : ℕ) → has todo u ≡ true → in_past g z u ≡ true → votes (vote g set u x y) ≡ false) → votes_above g set x y votes z ≤ length (meet set row)
  unfolding votes_above places_where
  few z quiet =
      count_within (λ u. (has set u && in_past g z u) && votes (vote g set u x y)) (λ u. has set u && has row u) (range_with_len 0 512)
      (λ u. at u (has set u) (in_past g z u) (is_loose g u x y) (has todo u) refl refl refl refl)
    where
      at : (u : ℕ) (s r l t : Bool) → has set u ≡ s → in_past g z u ≡ r → is_loose g u x y ≡ l → has todo u ≡ t
          → ((s && r) && votes (vote g set u x y)) ≡ true → (s && has row u) ≡ true
      at u false r l t es er el et h = absurd (false≢true h)
      at u true false l t es er el et h = absurd (false≢true h)
      at u true true true true es er el et h = absurd (false≢true (sym (quiet u et er) ∙ h))
      at u true true true false es er el et h = absurd (false≢true (sym (others u es el et) ∙ h))
      at u true true false t es er el et h = row_is u es ∙ ap (λ (l : Bool). not l && votes (vote g (keys g) u x y)) el ∙ ap votes (same u es el) ∙ h

-- nobody is open
pub told_open : (g : Graph) (set : List ℕ) (x y : ℕ) → AreOpen g set x y (has [])
told_open g set x y = record { member = λ z h. absurd (false≢true h); loose = λ z h. absurd (false≢true h) }

-- the rows of one side, where none was known and nobody is open any more
told_side : (g : Graph) (set todo row : List ℕ) (x y : ℕ) (votes : ℕ → Bool)
    → AreOpen g set x y (has todo)
    → ((u : ℕ) → has set u ≡ true → is_loose g u x y ≡ true → has todo u ≡ false → votes u ≡ false)
    → ((z : ℕ) → has row z ≡ (has todo z && votes z))
    → (z : ℕ) → has row z ≡ (has set z && (is_loose g z x y && (true && votes z)))
told_side g set todo row x y votes opened others row_is z = row_is z ∙ at (has todo z) (has set z) (is_loose g z x y) refl refl refl
  where
    at : (t s l : Bool) → has todo z ≡ t → has set z ≡ s → is_loose g z x y ≡ l → (t && votes z) ≡ (s && (l && (true && votes z)))
    at true true true et es el = refl
    at true true false et es el = absurd (false≢true (sym el ∙ opened.loose z et))
    at true false l et es el = absurd (false≢true (sym es ∙ opened.member z et))
    at false true true et es el = sym (others z es el et)
    at false true false et es el = refl
    at false false l et es el = refl

module _ (g : Graph) (set : List ℕ) (x y : ℕ) (whole : IsDownset g (keys g)) (asked : IsAsked g set)
    (upward : (w u : ℕ) → has set u ≡ true → in_past g w u ≡ true → w < u) (fp fm todo : List ℕ) (frozen : AreFrozen g set x y fp fm)
    (opened : AreOpen g set x y (has todo)) (kept : AreKept g set x y (has todo) [] [])
    (below : (z : ℕ) → has todo z ≡ true → (in_past g z x ≡ true) × (in_past g z y ≡ true)) where
  above : (z b : ℕ) → has todo z ≡ true → has set b ≡ true → is_loose g b x y ≡ false → in_past g z b ≡ true
  above z b h member bound = frozen_above g set x y z b asked.down (below z h).0 (below z h).1 member bound

  not_up : (u : ℕ) → has set u ≡ true → is_loose g u x y ≡ true → has todo u ≡ false → is_plus (vote g set u x y) ≡ false
  not_up u es el et = sym (kept.plus_is u ∙ rw (es, el, et) refl)

  not_down : (u : ℕ) → has set u ≡ true → is_loose g u x y ≡ true → has todo u ≡ false → is_minus (vote g set u x y) ≡ false
  not_down u es el et = sym (kept.minus_is u ∙ rw (es, el, et) refl)

  many_up : (z : ℕ) → has todo z ≡ true → length (meet set fp) ≤ votes_above g set x y is_plus z
  many_up = many g set x y whole asked is_plus fp todo frozen.plus_is above not_up

  many_down : (z : ℕ) → has todo z ≡ true → length (meet set fm) ≤ votes_above g set x y is_minus z
  many_down = many g set x y whole asked is_minus fm todo frozen.minus_is above not_down

  few_up : (z : ℕ) → ((u : ℕ) → has todo u ≡ true → in_past g z u ≡ true → is_plus (vote g set u x y) ≡ false) → votes_above g set x y is_plus z ≤ length (meet set fp)
  few_up = few g set x y whole asked is_plus fp todo frozen.plus_is above not_up

  few_down : (z : ℕ) → ((u : ℕ) → has todo u ≡ true → in_past g z u ≡ true → is_minus (vote g set u x y) ≡ false) → votes_above g set x y is_minus z ≤ length (meet set fm)
  few_down = few g set x y whole asked is_minus fm todo frozen.minus_is above not_down

  ups_from : length (meet set fm) < length (meet set fp) → (k z : ℕ) → 512 ≤ z + k → has todo z ≡ true → is_plus (vote g set z x y) ≡ true
  ups_from less zero z high h = (let low : z < 512 = row_small set z asked.row (opened.member z h) in absurd (omega (arith, low, high)))
  ups_from less (suc k) z high h =
      plus_wins g set x y z asked (has todo) opened h (omega (
        arith,
        less,
        many_up z h,
        few_down z (λ u there up. plus_only (vote g set u x y) (ups_from less k u (let higher : z < u = upward z u (opened.member u there) up in omega (arith, high, higher)) there)),
      ))

  downs_from : length (meet set fp) < length (meet set fm) → (k z : ℕ) → 512 ≤ z + k → has todo z ≡ true → is_minus (vote g set z x y) ≡ true
  downs_from less zero z high h = (let low : z < 512 = row_small set z asked.row (opened.member z h) in absurd (omega (arith, low, high)))
  downs_from less (suc k) z high h =
      minus_wins g set x y z asked (has todo) opened h (omega (
        arith,
        less,
        many_down z h,
        few_up z (λ u there up. minus_only (vote g set u x y) (downs_from less k u (let higher : z < u = upward z u (opened.member u there) up in omega (arith, high, higher)) there)),
      ))

  ties_from : length (meet set fp) ≡ length (meet set fm) → (k z : ℕ) → 512 ≤ z + k → has todo z ≡ true
      → (is_plus (vote g set z x y) ≡ false) × (is_minus (vote g set z x y) ≡ false)
  ties_from even zero z high h = (let low : z < 512 = row_small set z asked.row (opened.member z h) in absurd (omega (arith, low, high)))
  ties_from even (suc k) z high h =
      (let next : (u : ℕ) → has todo u ≡ true → in_past g z u ≡ true → (is_plus (vote g set u x y) ≡ false) × (is_minus (vote g set u x y) ≡ false) =
      λ u there up. ties_from even k u (let higher : z < u = upward z u (opened.member u there) up in omega (arith, high, higher)) there in
      neither_wins g set x y z asked (has todo) opened h (omega (
        arith,
        even,
        many_up z h,
        many_down z h,
        few_up z (λ u there up. (next u there up).0),
        few_down z (λ u there up. (next u there up).1),
      )))

  -- what is told of a place of the open ones
  told : (votes : ℕ → Bool) (b : Bool) → ((z : ℕ) → has todo z ≡ true → votes z ≡ b) → (z : ℕ) → (has todo z && b) ≡ (has todo z && votes z)
  told votes b is z = at (has todo z) refl
    where
      at : (t : Bool) → has todo z ≡ t → (t && b) ≡ (t && votes z)
      at true e = sym (is z e)
      at false e = refl

  on : (a : Bool) → a ≡ (a && true)
  on true = refl
  on false = refl

  off : (a : Bool) → false ≡ (a && false)
  off true = refl
  off false = refl

  pub told_up : length (meet set fm) < length (meet set fp) → AreKept g set x y (has []) todo []
  told_up less = record {
    plus_is = told_side g set todo todo x y (λ z. is_plus (vote g set z x y)) opened not_up
        (λ z. on (has todo z) ∙ told (λ z. is_plus (vote g set z x y)) true (λ z h. ups_from less 512 z (omega arith) h) z);
    minus_is = told_side g set todo [] x y (λ z. is_minus (vote g set z x y)) opened not_down
        (λ z. off (has todo z) ∙ told (λ z. is_minus (vote g set z x y)) false (λ z h. plus_only (vote g set z x y) (ups_from less 512 z (omega arith) h)) z);
  }

  pub told_down : length (meet set fp) < length (meet set fm) → AreKept g set x y (has []) [] todo
  told_down less = record {
    plus_is = told_side g set todo [] x y (λ z. is_plus (vote g set z x y)) opened not_up
        (λ z. off (has todo z) ∙ told (λ z. is_plus (vote g set z x y)) false (λ z h. minus_only (vote g set z x y) (downs_from less 512 z (omega arith) h)) z);
    minus_is = told_side g set todo todo x y (λ z. is_minus (vote g set z x y)) opened not_down
        (λ z. on (has todo z) ∙ told (λ z. is_minus (vote g set z x y)) true (λ z h. downs_from less 512 z (omega arith) h) z);
  }

  pub told_tie : length (meet set fp) ≡ length (meet set fm) → AreKept g set x y (has []) [] []
  told_tie even = record {
    plus_is = told_side g set todo [] x y (λ z. is_plus (vote g set z x y)) opened not_up
        (λ z. off (has todo z) ∙ told (λ z. is_plus (vote g set z x y)) false (λ z h. (ties_from even 512 z (omega arith) h).0) z);
    minus_is = told_side g set todo [] x y (λ z. is_minus (vote g set z x y)) opened not_down
        (λ z. off (has todo z) ∙ told (λ z. is_minus (vote g set z x y)) false (λ z h. (ties_from even 512 z (omega arith) h).1) z);
  }
