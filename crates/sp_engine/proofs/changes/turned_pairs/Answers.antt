use Rattle.std.proofs.Common.{◌<◌, ℕ, List, sym, subst, length}
use Rattle.std.specs.Prelude.{All, Contains}
use Rattle.std.proofs.lemmas.Option.{slice_get_within}
use Rattle.sp_dag.specs.Numbered.{pairs_of}
use Rattle.sp_engine.proofs.changes.turned_pairs.Goals as goal

pub pairs_at-requires : goal.pairs_at-requires
pairs_at-requires c = subst (All (λ i. i < length (pairs_of c.args.dag.now))) (sym c.as_slice.ensures.value) c.in_ok-numbers.ensures.within

pub returns : goal.returns
returns c = λ i a b pair old new other at.
    c.in_ok-pairs.ensures i pair
    (subst (λ (l : List ℕ). Contains l i) (sym c.as_slice.ensures.value) (c.in_ok-numbers.ensures.turned i a b (slice_get_within (pairs_of c.args.dag.now) i pair at) old new other)) at
