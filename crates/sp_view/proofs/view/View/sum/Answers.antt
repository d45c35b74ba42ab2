use Rattle.std.proofs.Common.{◌≡◌, ◌∙◌, ◌<◌, FitsSigned, ℕ, List, Option, Some, None, ap, arith, get_or, length, rules, subst, sym}
use Rattle.std.specs.Prelude.{IsSome}
use Rattle.std.proofs.lemmas.Int.{to_z-of_z}
use Rattle.std.specs.Int.{w32}
use Rattle.std.proofs.lemmas.List.{get_or_default}
use Rattle.sp_dag.specs.Numbered.{graph_of}
use Rattle.sp_frozen.specs.Voters.{AreFrozen}
use Rattle.sp_view.specs.Settled.{AreSides, IsAsked}
use Rattle.sp_view.specs.Sums.{sum_of}
use Rattle.sp_view.specs.Views.{Viewed, entry_at, IsEntry}
use Rattle.sp_view.proofs.Held.{first_live, second_live, some_inside}
use Rattle.sp_view.proofs.TwoRows.{frozen_among}
use Rattle.sp_view.proofs.view.View.sum.Goals as goal

-- what is read of an entry that is there
read_entry : (entries entries' : List (Option (ℕ × ℕ))) (i : ℕ) (read : Option (ℕ × ℕ)) (e : ℕ × ℕ) → entries ≡ entries' → IsSome (entry_at entries' i) → read ≡ get_or entries i read → read ≡ Some e → entry_at entries' i ≡ Some e
read_entry entries entries' i read e same some is found =
    let inside : i < length entries = omega (arith, some_inside entries' i some, ap length same) in
    ap (λ (l : List (Option (ℕ × ℕ))). entry_at l i) (sym same) ∙ sym (get_or_default entries i read None inside) ∙ sym is ∙ found

pub row_at-requires : goal.row_at-requires
row_at-requires c =
    first_live c.args.self.now.entries c.args.pair (c.in-Some.plus, c.in-Some.minus) c.args.pool.now
    (read_entry c.self.inside.entries.items c.args.self.now.entries c.args.pair c.index.result.now (c.in-Some.plus, c.in-Some.minus) (ap (λ (v : Viewed). v.entries) c.self.view_is) c.requires.inside c.index.ensures c.in-Some.is)
    c.requires.live

pub row_at-requires-in-Some : goal.row_at-requires-in-Some
row_at-requires-in-Some c =
    second_live c.args.self.now.entries c.args.pair (c.in-Some.plus, c.in-Some.minus) c.args.pool.now
    (read_entry c.self.inside.entries.items c.args.self.now.entries c.args.pair c.index.result.now (c.in-Some.plus, c.in-Some.minus) (ap (λ (v : Viewed). v.entries) c.self.view_is) c.requires.inside c.index.ensures c.in-Some.is)
    c.requires.live

pub returns : goal.returns
returns c = λ table x y is holds added at.
    let f : FitsSigned w32 c.tally.result = search rules in
    let entry_is : entry_at c.args.self.now.entries c.args.pair ≡ Some (c.in-Some.plus, c.in-Some.minus) =
    read_entry c.self.inside.entries.items c.args.self.now.entries c.args.pair c.index.result.now (c.in-Some.plus, c.in-Some.minus) (ap (λ (v : Viewed). v.entries) c.self.view_is) c.requires.inside c.index.ensures c.in-Some.is in
    let entry : IsEntry (graph_of table) c.args.self.now.members x y c.args.pool.now (Some (c.in-Some.plus, c.in-Some.minus)) =
    subst (λ (o : Option (ℕ × ℕ)). IsEntry (graph_of table) c.args.self.now.members x y c.args.pool.now o) entry_is (is.entry c.args.pair x y at) in
    let m : c.self.inside.members ≡ c.args.self.now.members = ap (λ (v : Viewed). v.members) c.self.view_is in
    let frozen : AreFrozen (graph_of table) c.args.self.now.members x y c.plus.result.now c.minus.result.now =
    rw (c.plus.ensures, c.minus.ensures) (frozen_among table c.args.frozen.now c.args.self.now.members c.args.pair x y holds at c.requires.listed added) in
    let sides : AreSides (graph_of table) c.args.self.now.members x y c.row_at.result c.row_at-in-Some.result = rw (c.row_at.ensures, c.row_at-in-Some.ensures) entry.1 in
    to_z-of_z w32 _ f ∙ subst (λ (s : List ℕ). IsAsked (graph_of table) s → AreFrozen (graph_of table) s x y c.plus.result.now c.minus.result.now → AreSides (graph_of table) s x y c.row_at.result c.row_at-in-Some.result → c.tally.result ≡ sum_of (graph_of table) s x y) m
    (c.tally.ensures table x y is.order) is.asked frozen sides
