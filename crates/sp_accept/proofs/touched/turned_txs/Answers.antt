use Rattle.std.proofs.Common.{◌<◌, ◌∙◌, ◌==◌, ℕ, ap, sym, subst, length}
use Rattle.std.specs.Prelude.{All}
use Rattle.std.specs.List.{list_any, range_with_len}
use Rattle.sp_accept.specs.Flips.{flips_among}
use Rattle.sp_accept.specs.Pass.{is_carried_flag}
use Rattle.sp_accept.specs.Rows.{row_at}
use Rattle.sp_carry.specs.declared.carrier.Flip.{Flip}
use Rattle.sp_accept.proofs.Updated.{among_within}
use Rattle.sp_accept.proofs.Reached.{filtered_within, tx_known}
use Rattle.sp_accept.proofs.Spanned.{span_listed}
use Rattle.sp_accept.proofs.touched.turned_txs.Goals as goal

pub flips_of-requires : goal.flips_of-requires
flips_of-requires c =
    let k = c.args.carriers.now in
    let of : ℕ → ℕ = (λ d. (row_at k.rows d).tx) in
    let known = tx_known k c.block_count-blocks.ensures.carried c.args.turned.now c.requires in
    subst (All (λ tx. tx < length k.txs))
    (sym (span_listed c.in_ok-noted.noted.items of c.args.turned.now c.lowest_of.result c.min-first.result c.bound_of-end.result (length k.txs) c.deref.result.now c.deref-2.result.now
    c.in_ok-list.list.items c.min-first.ensures c.bound_of-end.ensures.within c.lowest_of.ensures c.bound_of-end.ensures.all c.in_ok-noted.ensures c.deref.ensures.value c.in_ok-list.ensures c.deref-2.ensures.value))
    (filtered_within (λ tx. list_any (λ c'. (row_at k.rows c').tx == tx) c.args.turned.now) (length k.txs) (range_with_len 0 (length k.txs)) known)

pub returns-clause-flips : goal.returns-clause-flips
returns-clause-flips c =
    let k = c.args.carriers.now in
    let of : ℕ → ℕ = (λ d. (row_at k.rows d).tx) in
    c.in_ok-flips.ensures
    ∙ ap (flips_among c.args.old.now (is_carried_flag k c.args.flags.now))
    (span_listed c.in_ok-noted.noted.items of c.args.turned.now c.lowest_of.result c.min-first.result c.bound_of-end.result (length k.txs) c.deref.result.now c.deref-2.result.now
    c.in_ok-list.list.items c.min-first.ensures c.bound_of-end.ensures.within c.lowest_of.ensures c.bound_of-end.ensures.all c.in_ok-noted.ensures c.deref.ensures.value c.in_ok-list.ensures c.deref-2.ensures.value)

pub returns-clause-known : goal.returns-clause-known
returns-clause-known c =
    let k = c.args.carriers.now in
    let of : ℕ → ℕ = (λ d. (row_at k.rows d).tx) in
    subst (All (λ (flip : Flip). flip.tx < length k.txs))
    (sym (c.in_ok-flips.ensures
    ∙ ap (flips_among c.args.old.now (is_carried_flag k c.args.flags.now))
    (span_listed c.in_ok-noted.noted.items of c.args.turned.now c.lowest_of.result c.min-first.result c.bound_of-end.result (length k.txs) c.deref.result.now c.deref-2.result.now
    c.in_ok-list.list.items c.min-first.ensures c.bound_of-end.ensures.within c.lowest_of.ensures c.bound_of-end.ensures.all c.in_ok-noted.ensures c.deref.ensures.value c.in_ok-list.ensures c.deref-2.ensures.value)))
    (among_within c.args.old.now (is_carried_flag k c.args.flags.now) (λ tx. list_any (λ c'. (row_at k.rows c').tx == tx) c.args.turned.now) (length k.txs))
