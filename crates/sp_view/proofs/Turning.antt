-- Genesis' vote on a pair before a block joins and after, by the sum of all votes before.
use Rattle.std.proofs.Common.{◌≡◌, ◌≢◌, ℕ, ◌<◌, Bool, List, length, Option, Some, None, refl, sym, ap, ◌∙◌, true, ◌&&◌, arith}
use Rattle.std.specs.Prelude.{filter, ℤ, pos, negsuc, IfSome, IsSome, slice_get, ◌+ℤ◌, ◌-ℤ◌, ◌≤ℤ◌}
use Rattle.std.specs.Int.Signed.{lt_z}
use Rattle.std.proofs.lemmas.Int.{ints}
use Rattle.std.proofs.lemmas.Bool.{and_parts, false≢true, ne_eqb}
use Rattle.sp_bits.specs.Places.{difference}
use Rattle.sp_bits.specs.Members.{has-filter}
use Rattle.sp_dag.specs.Numbered.{IsNumbered, IsPair, Numbered, graph_of, pairs_of}
use Rattle.sp_dag.proofs.Ranked.{pair_kind}
use Rattle.sp_frozen.specs.Voters.{FrozenRows}
use Rattle.sp_model.specs.Graph.{Graph, IsDownset, has}
use Rattle.sp_model.specs.Loose.{is_loose, is_minus, is_plus, minus, plus}
use Rattle.sp_model.specs.Votes.{sgn, vote}
use Rattle.sp_model.proofs.Loose.{sgn_sgn, vote_sign}
use Rattle.sp_view.specs.Settled.{AreKept, AreOpen, AreSides, IsAsked}
use Rattle.sp_view.specs.Summed.{IsSum}
use Rattle.sp_view.specs.Sums.{sum_of, IsLone}
use Rattle.sp_view.specs.Voting.{IsJoined}
use Rattle.sp_view.proofs.Genesis.{minus_told, plus_told, root_in, root_others, root_sign, rooted_still}
use Rattle.sp_view.proofs.JoinedSums.{IsSmall}
use Rattle.sp_view.proofs.JoinedVotes.{kept_votes, sign_small, sum_turns}

-- a sum that is kept is small
pub kept_small : (g : Graph) (set : List ℕ) (x y : ℕ) (o : Option ℤ) → IsSum g set x y o → (has set x && has set y) ≡ true → IsSmall (sum_of g set x y)
    → IfSome o (λ (sum : ℤ). (negsuc 1023 ≤ℤ sum) × (sum ≤ℤ pos 1024))
kept_small g set x y None is inside small = tt
kept_small g set x y (Some sum) is inside small =
    let e : sum ≡ sum_of g set x y = is inside in (omega (arith, ints, e, small.is, small.few_ups, small.few_downs), omega (arith, ints, e, small.is, small.few_ups, small.few_downs))

-- what is told by a sum that is kept
pub told_by : (g : Graph) (set : List ℕ) (x y : ℕ) (own own' before after : ℤ) (o : Option ℤ) → own' ≡ own → IsSome o
    → IfSome o (λ (sum : ℤ). (before ≡ sgn sum) × (after ≡ sgn ((sum -ℤ sgn sum) +ℤ own'))) → IsSum g set x y o → (has set x && has set y) ≡ true
    → (before ≡ sgn (sum_of g set x y)) × (after ≡ sgn ((sum_of g set x y -ℤ sgn (sum_of g set x y)) +ℤ own))
told_by g set x y own own' before after None same some told is inside = absurd (false≢true some)
told_by g set x y own own' before after (Some sum) same some told is inside =
    let e : sum ≡ sum_of g set x y = is inside in
    (told.0 ∙ ap sgn e, told.1 ∙ ap (λ (n : ℤ). sgn ((n -ℤ sgn n) +ℤ own')) e ∙ ap (λ (n : ℤ). sgn ((sum_of g set x y -ℤ sgn (sum_of g set x y)) +ℤ n)) same)

module _ (table : Numbered) (frozen : FrozenRows) (b : ℕ) (s t : List ℕ) (i x y : ℕ) (numbered : IsNumbered table) (j : IsJoined table frozen b s t)
    (at : slice_get (pairs_of table) i ≡ Some (x, y)) (inside : (has s x && has s y) ≡ true) (ups downs todo : List ℕ) (sides : AreSides (graph_of table) s x y ups downs)
    (opened : AreOpen (graph_of table) t x y (has todo)) (kept : AreKept (graph_of table) t x y (has todo) (difference ups todo) (difference downs todo)) (lone : IsLone todo 0)
    (own before after : ℤ) (own_is : own ≡ vote (graph_of table) t b x y)
    (told : (before ≡ sgn (sum_of (graph_of table) s x y)) × (after ≡ sgn ((sum_of (graph_of table) s x y -ℤ sgn (sum_of (graph_of table) s x y)) +ℤ own))) where
  -- both are signs
  pub before_small : (negsuc 0 ≤ℤ before) × (before ≤ℤ pos 1)
  before_small = sign_small before (ap sgn told.0 ∙ sgn_sgn (sum_of (graph_of table) s x y) ∙ sym told.0)

  pub after_small : (negsuc 0 ≤ℤ after) × (after ≤ℤ pos 1)
  after_small = sign_small after (ap sgn told.1 ∙ sgn_sgn _ ∙ sym told.1)

  pub own_small : (negsuc 0 ≤ℤ own) × (own ≤ℤ pos 1)
  own_small = sign_small own (ap sgn own_is ∙ vote_sign (graph_of table) t b x y j.joins.more_down j.joins.there ∙ sym own_is)

  older : IsAsked (graph_of table) s
  older = record { row = j.row; down = j.joins.down }

  older_below : (z : ℕ) → has s z ≡ true → z < length table.parents
  older_below z h = j.voting.below z (j.joins.into z h)

  kind : IsPair table (x, y)
  kind = pair_kind table i (x, y) at

  second : has s y ≡ true
  second = (and_parts (has s x) (has s y) inside).1

  pub before_vote : before ≡ vote (graph_of table) s 0 x y
  before_vote = told.0 ∙ sym (root_sign table numbered s older older_below x y kind second)

  turns : sum_of (graph_of table) t x y
      ≡ (sum_of (graph_of table) s x y +ℤ vote (graph_of table) t b x y) +ℤ (vote (graph_of table) t 0 x y -ℤ vote (graph_of table) s 0 x y)
  turns =
      sum_turns (graph_of table) b s t x y j.joins 0 (root_in table numbered s older older_below x y kind second)
      (λ z m other. kept_votes (graph_of table) b s t x y j.joins ups downs todo j.row sides kept z m (lone.only z ∙ ne_eqb z 0 other))

  pub after_vote : after ≡ vote (graph_of table) t 0 x y
  after_vote =
      told.1
      ∙ ap sgn (omega (arith, ints, sym told.0 ∙ before_vote, own_is, turns))
      ∙ sym (root_others table numbered t j.voting.asked j.voting.below x y kind (j.joins.into y second))

  pub turn_gain : sum_of (graph_of table) t x y ≡ sum_of (graph_of table) s x y +ℤ ((after -ℤ before) +ℤ own)
  turn_gain = omega (arith, ints, turns, before_vote, after_vote, own_is)

  pub turn_still : before ≡ after → AreSides (graph_of table) t x y ups downs
  turn_still same =
      rooted_still (graph_of table) t x y ups downs todo after j.voting.asked opened kept lone after_vote s j.row
      (root_in table numbered s older older_below x y kind second) sides (sym same ∙ before_vote)

  pub root_before : has s 0 ≡ true
  root_before = root_in table numbered s older older_below x y kind second

  pub both_votes : (before ≡ vote (graph_of table) s 0 x y) × (after ≡ vote (graph_of table) t 0 x y)
  both_votes = (before_vote, after_vote)

-- ---- which rows have genesis in them

root_side : (g : Graph) (set : List ℕ) (x y : ℕ) (votes : ℤ → Bool) → has set 0 ≡ true → is_loose g 0 x y ≡ true
    → has (filter (λ z. is_loose g z x y && votes (vote g set z x y)) set) 0 ≡ votes (vote g set 0 x y)
root_side g set x y votes member loose = has-filter (λ z. is_loose g z x y && votes (vote g set z x y)) set 0 ∙ rw (member, loose) refl

module _ (g : Graph) (s t : List ℕ) (x y : ℕ) (ups downs : List ℕ) (before after before' after' : ℤ) (down : IsDownset g s) (down' : IsDownset g t) (sides : AreSides g s x y ups downs)
    (root : has s 0 ≡ true) (root' : has t 0 ≡ true) (loose : is_loose g 0 x y ≡ true) (votes : (before ≡ vote g s 0 x y) × (after ≡ vote g t 0 x y)) (same : before' ≡ before)
    (same' : after' ≡ after) where
  before_sign : sgn before ≡ before
  before_sign = ap sgn votes.0 ∙ vote_sign g s 0 x y down root ∙ sym votes.0

  after_sign : sgn after ≡ after
  after_sign = ap sgn votes.1 ∙ vote_sign g t 0 x y down' root' ∙ sym votes.1

  pub plus_is : lt_z (pos 0) after' ≡ is_plus after
  plus_is = plus_told after after' same' after_sign

  pub minus_is : lt_z after' (pos 0) ≡ is_minus after
  minus_is = minus_told after after' same' after_sign

  plus_before : lt_z (pos 0) before' ≡ has (plus g s x y) 0
  plus_before = plus_told before before' same before_sign ∙ ap is_plus votes.0 ∙ sym (root_side g s x y is_plus root loose)

  minus_before : lt_z before' (pos 0) ≡ has (minus g s x y) 0
  minus_before = minus_told before before' same before_sign ∙ ap is_minus votes.0 ∙ sym (root_side g s x y is_minus root loose)

  pub plus_was : lt_z (pos 0) before' ≡ has ups 0
  plus_was = plus_before ∙ ap (λ (l : List ℕ). has l 0) (sym sides.plus_is)

  pub minus_was : lt_z before' (pos 0) ≡ has downs 0
  minus_was = minus_before ∙ ap (λ (l : List ℕ). has l 0) (sym sides.minus_is)

  pub plus_turns : lt_z (pos 0) before' ≢ lt_z (pos 0) after' → plus g s x y ≢ plus g t x y
  plus_turns differ e = differ (plus_before ∙ ap (λ (l : List ℕ). has l 0) e ∙ root_side g t x y is_plus root' loose ∙ ap is_plus (sym votes.1) ∙ sym plus_is)

  pub minus_turns : lt_z before' (pos 0) ≢ lt_z after' (pos 0) → minus g s x y ≢ minus g t x y
  minus_turns differ e = differ (minus_before ∙ ap (λ (l : List ℕ). has l 0) e ∙ root_side g t x y is_minus root' loose ∙ ap is_minus (sym votes.1) ∙ sym minus_is)
