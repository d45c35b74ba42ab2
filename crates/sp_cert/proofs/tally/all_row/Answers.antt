use Rattle.std.proofs.Common.{◌≡◌, ◌∙◌, ap, arith, sym, length}
use Rattle.std.specs.List.{range_with_len}
use Rattle.sp_dag.proofs.Ranked.{keys_are_numbers}
use Rattle.sp_engine.proofs.Ranges.{row_more}
use Rattle.sp_cert.proofs.tally.all_row.Goals as goal

pub places-preserved : goal.places-preserved
places-preserved c =
    c.set.ensures ∙ row_more c.places.row c.places.z (omega (arith, c.len-z-end.ensures.value, c.len-z-end.ensures.numbered.small)) c.places.invariant

pub returns : goal.returns
returns c =
    let all : c.places.z ≡ length c.args.dag.now.parents = omega (arith, c.len-z-end.ensures.value) in
    c.places.invariant ∙ ap (range_with_len 0) all ∙ sym (keys_are_numbers c.args.dag.now)
