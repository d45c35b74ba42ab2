use Rattle.std.proofs.Common.{◌≡◌, ap, subst, sym, length, List, ℕ, arith}
use Rattle.sp_frozen.specs.Voters.{FrozenRows, HoldsFrozen}
use Rattle.sp_frozen.proofs.FirstVoters.{AreLeft-read, HoldsFrozen-cut, one_frozen}
use Rattle.sp_frozen.proofs.frozen.Frozen.cut.Goals as goal

abbrev rows : ℕ → List (List ℕ) → List (List ℕ) → FrozenRows
rows blocks pluses minuses = record { blocks = blocks; pluses = pluses; minuses = minuses }

held : (c : goal.After-self-1) → HoldsFrozen c.args.dag.now (rows c.args.count c.cut_rows.new.rows.items c.cut_rows-2.new.rows.items)
held c =
    let old = rows c.self.inside.blocks c.self.inside.pluses.items c.self.inside.minuses.items in
    let same : old ≡ c.args.self.now = c.self.view_is in
    let seen : c.len.result ≡ length old.pluses = omega (arith, c.len.ensures, c.self.inside.pluses.ok.0) in
    let left = AreLeft-read old c.truncate.new.self.items c.truncate-2.new.self.items c.cut_rows.new.rows.items c.cut_rows-2.new.rows.items c.args.count
    c.pairs_below-pairs.result (omega (arith, c.pairs_below-pairs.ensures.within, seen)) c.self.invariant.long c.truncate.ensures.items c.truncate-2.ensures.items
    (omega (arith, c.cut_rows.ensures.len, c.cut_rows.new.rows.ok.0, c.truncate.new.self.ok.0))
    (λ i lt. c.cut_rows.ensures.each i (omega (arith, lt, c.truncate.new.self.ok.0)))
    (λ i lt. c.cut_rows-2.ensures.each i (omega (arith, lt, c.truncate-2.new.self.ok.0))) in
    HoldsFrozen-cut c.args.dag.now old c.cut_rows.new.rows.items c.cut_rows-2.new.rows.items c.args.count c.pairs_below-pairs.result
    c.len-blocks.ensures.numbered.order (subst (λ (f : FrozenRows). HoldsFrozen c.args.dag.now f) (sym same) c.requires.held)
    (omega (arith, ap (λ (f : FrozenRows). f.blocks) same, c.requires.within)) left c.pairs_below-pairs.ensures.last
    (λ i pair past lt. c.pairs_below-pairs.ensures.others i pair past (omega (arith, lt, seen)))

pub returns-clause-held : goal.returns-clause-held
returns-clause-held c = held c

pub returns-clause-before : goal.returns-clause-before
returns-clause-before c =
    λ before are same h.
    let long : length c.cut_rows-2.new.rows.items ≡ length c.cut_rows.new.rows.items =
    omega (
      arith,
      c.cut_rows.ensures.len,
      c.cut_rows-2.ensures.len,
      c.cut_rows.new.rows.ok.0,
      c.cut_rows-2.new.rows.ok.0,
      c.truncate.ensures.len,
      c.truncate-2.ensures.len,
      c.self.inside.pluses.ok.0,
      c.self.inside.minuses.ok.0,
      c.self.invariant.long,
    ) in
    one_frozen c.args.dag.now (rows c.args.count c.cut_rows.new.rows.items c.cut_rows-2.new.rows.items) before
    (record { long = long; pluses = c.cut_rows.ensures.rows; minuses = c.cut_rows-2.ensures.rows }) are (held c) h (sym same)
