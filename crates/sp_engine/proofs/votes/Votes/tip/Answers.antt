use Rattle.std.proofs.Common.{◌≡◌, ◌∙◌, ◌<◌, ◌+◌, ℕ, Bool, List, ap, sym, arith, subst, true, false, inl, inr, length, Some}
use Rattle.std.specs.Prelude.{slice_get}
use Rattle.std.proofs.lemmas.Bool.{cases_lt, false≢true}
use Rattle.std.proofs.lemmas.Option.{get_or_from_slice_get, slice_get-get_or}
use Rattle.sp_bits.specs.Places.{IsGreatest}
use Rattle.sp_view.specs.Views.{Viewed}
use Rattle.sp_engine.specs.Votes.{Tallied}
use Rattle.sp_engine.proofs.Voted.{has_view, is_of_tip, is_view}
use Rattle.sp_engine.proofs.votes.Votes.tip.Goals as goal

pub returns-then-is_top-clause-some : goal.returns-then-is_top-clause-some
returns-then-is_top-clause-some c =
    let items : List Viewed = c.self.inside.views.items in
    let view : Viewed = c.index-then-is_top.result.now in
    let are : items ≡ c.args.self.now.views = ap (λ (v : Tallied). v.views) c.self.view_is in
    let long : c.tips.i + 1 < length items = omega (arith, c.tips-test.true, c.len-tips.ensures, c.self.inside.views.ok.0) in
    let at : slice_get items c.tips.i ≡ Some view = slice_get-get_or items c.tips.i view (omega (arith, long)) ∙ ap Some (sym c.index-then-is_top.ensures) in
    let same : c.index.result.now ≡ view = c.index.ensures ∙ get_or_from_slice_get items c.tips.i view c.index.result.now at in
    let top : IsGreatest view.members c.args.n = subst (λ (l : List ℕ). IsGreatest l c.args.n) (c.members.ensures ∙ ap (λ (v : Viewed). v.members) same) (c.is_top.ensures.0 c.if-is_top.true) in
    (is_of_tip c.args.dag.now c.args.self.now c.requires.voted c.len-blocks.ensures.numbered.order c.len-blocks.ensures.numbered.small c.tips.i c.args.n view
    (ap (λ (l : List Viewed). slice_get l c.tips.i) (sym are) ∙ at) (omega (arith, long, ap length are)) top).0

pub returns-then-is_top-clause-tip : goal.returns-then-is_top-clause-tip
returns-then-is_top-clause-tip c =
    let items : List Viewed = c.self.inside.views.items in
    let view : Viewed = c.index-then-is_top.result.now in
    let are : items ≡ c.args.self.now.views = ap (λ (v : Tallied). v.views) c.self.view_is in
    let long : c.tips.i + 1 < length items = omega (arith, c.tips-test.true, c.len-tips.ensures, c.self.inside.views.ok.0) in
    let at : slice_get items c.tips.i ≡ Some view = slice_get-get_or items c.tips.i view (omega (arith, long)) ∙ ap Some (sym c.index-then-is_top.ensures) in
    let same : c.index.result.now ≡ view = c.index.ensures ∙ get_or_from_slice_get items c.tips.i view c.index.result.now at in
    let top : IsGreatest view.members c.args.n = subst (λ (l : List ℕ). IsGreatest l c.args.n) (c.members.ensures ∙ ap (λ (v : Viewed). v.members) same) (c.is_top.ensures.0 c.if-is_top.true) in
    (is_of_tip c.args.dag.now c.args.self.now c.requires.voted c.len-blocks.ensures.numbered.order c.len-blocks.ensures.numbered.small c.tips.i c.args.n view
    (ap (λ (l : List Viewed). slice_get l c.tips.i) (sym are) ∙ at) (omega (arith, long, ap length are)) top).1

pub tips-preserved : goal.tips-preserved
tips-preserved c = λ i view lt at top. elim (cases_lt i c.tips.i) [
  | inl less ↦ c.tips.invariant i view less at top
  | inr more ↦
      let items : List Viewed = c.self.inside.views.items in
      let here : i ≡ c.tips.i = omega (arith, lt, more) in
      let there : slice_get items c.tips.i ≡ Some view =
      ap (λ (v : Tallied). slice_get v.views c.tips.i) c.self.view_is ∙ ap (slice_get c.args.self.now.views) (sym here) ∙ at in
      let same : c.index.result.now ≡ view = c.index.ensures ∙ get_or_from_slice_get items c.tips.i view c.index.result.now there in
      false_from_true (c.is_top.ensures.1 (subst (λ (l : List ℕ). IsGreatest l c.args.n) (ap (λ (v : Viewed). v.members) (sym same) ∙ sym c.members.ensures) top)) c.if-is_top.false
]
  where
    false_from_true : {b : Bool} → b ≡ true → b ≡ false → ⊥
    false_from_true is isnt = absurd (false≢true (sym isnt ∙ is))

pub returns-clause-none : goal.returns-clause-none
returns-clause-none c = λ tip. elim (cases_lt c.args.n c.args.self.now.since) [
  | inl less ↦ less
  | inr more ↦
      let one = has_view c.args.dag.now c.args.self.now c.requires.voted c.len-blocks.ensures.numbered.order c.len-blocks.ensures.numbered.small c.args.n c.requires.within more tip in
      let lt : one.0 < c.tips.i =
      omega (arith, one.3, ap (λ (v : Tallied). length v.views) c.self.view_is, c.tips-test.false, c.len-tips.ensures, c.self.inside.views.ok.0) in
      absurd (c.tips.invariant one.0 one.1 lt one.2 one.4)
]

pub returns-then-is_top-clause-holds : goal.returns-then-is_top-clause-holds
returns-then-is_top-clause-holds c =
    let items : List Viewed = c.self.inside.views.items in
    let view : Viewed = c.index-then-is_top.result.now in
    let long : c.tips.i + 1 < length items = omega (arith, c.tips-test.true, c.len-tips.ensures, c.self.inside.views.ok.0) in
    let at : slice_get items c.tips.i ≡ Some view = slice_get-get_or items c.tips.i view (omega (arith, long)) ∙ ap Some (sym c.index-then-is_top.ensures) in
    is_view c.args.dag.now c.args.self.now c.requires.voted c.tips.i view (ap (λ (v : Tallied). slice_get v.views c.tips.i) (sym c.self.view_is) ∙ at)
