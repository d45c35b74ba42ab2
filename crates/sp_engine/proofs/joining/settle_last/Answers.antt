use Rattle.std.proofs.Common.{◌≡◌, ◌∙◌, ◌-◌, ◌+◌, ◌<◌, ◌++◌, ◌∷◌, [], List, ℕ, refl, ap, subst, arith, length, length-append, get_or}
use Rattle.sp_view.specs.Views.{held, Viewed}
use Rattle.sp_view.specs.Homes.{AreHome}
use Rattle.sp_engine.proofs.Replacing.{held_at, last_is, set_last}
use Rattle.sp_engine.proofs.joining.settle_last.Goals as goal

-- the last view is that one
module _ (views front : List Viewed) (last view : Viewed) (long : ℕ) (is : views ≡ front ++ last ∷ []) (at : view ≡ get_or views (long - 1) view) (all : long ≡ length views) where
  place : long - 1 + 1 ≡ length views
  place = omega (arith, all, ap length is, length-append front (last ∷ []))

  own : view ≡ last
  own = at ∙ last_is views front last view (long - 1) is place

pub overflow_sub-last : goal.overflow_sub-last
overflow_sub-last c =
    omega (arith, c.len-last.ensures, c.args.views.now.ok.0, ap length c.requires.saved.2, length-append c.requires.saved.0 (c.requires.saved.1 ∷ []))

pub index_mut-requires : goal.index_mut-requires
index_mut-requires c =
    omega (arith, c.len-last.ensures, c.args.views.now.ok.0, ap length c.requires.saved.2, length-append c.requires.saved.0 (c.requires.saved.1 ∷ []))

pub settle-requires-clause-long : goal.settle-requires-clause-long
settle-requires-clause-long c =
    let e : c.index_mut.result.now ≡ c.requires.saved.1 =
    own c.args.views.now.items c.requires.saved.0 c.requires.saved.1 c.index_mut.result.now c.len-last.result c.requires.saved.2 c.index_mut.ensures.value (c.len-last.ensures ∙ c.args.views.now.ok.0) in
    omega (arith, ap (λ (v : Viewed). length v.entries) e, c.requires.saved.3)

pub settle-requires-clause-live : goal.settle-requires-clause-live
settle-requires-clause-live c = λ r.
    let lt : c.len-last.result - 1 < length c.args.views.now.items =
    omega (arith, c.len-last.ensures, c.args.views.now.ok.0, ap length c.requires.saved.2, length-append c.requires.saved.0 (c.requires.saved.1 ∷ [])) in
    let same : held c.index_mut.result.now.entries r ≡ held (get_or c.args.views.now.items (c.len-last.result - 1) c.index_mut.result.now).entries r = ap (λ (v : Viewed). held v.entries r) c.index_mut.ensures.value in
    omega (arith, same, held_at c.args.views.now.items (c.len-last.result - 1) c.index_mut.result.now r lt, c.requires.counts r)

pub returns : goal.returns
returns c = record {
  home = λ front last is.
      let view : Viewed = c.index_mut.result.now in
      let home : Viewed = c.settle.new.self in
      let e : view ≡ last = own c.args.views.now.items front last view c.len-last.result is c.index_mut.ensures.value (c.len-last.ensures ∙ c.args.views.now.ok.0) in (
        home,
        set_last c.args.views.now.items front last home home (c.len-last.result - 1) is
            (place c.args.views.now.items front last view c.len-last.result is c.index_mut.ensures.value (c.len-last.ensures ∙ c.args.views.now.ok.0)) refl,
        c.settle.ensures.members ∙ ap (λ (v : Viewed). v.members) e,
        subst (λ (v : Viewed). AreHome c.args.rows.now c.settle.new.pool c.args.saved v.entries home.entries) e c.settle.ensures.home,
      );
}
