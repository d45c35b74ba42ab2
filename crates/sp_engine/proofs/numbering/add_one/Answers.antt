use Rattle.std.proofs.Common.{◌≡◌, ◌<◌, ◌∙◌, ℕ, map, sym, ap, length, arith, eqb, rules}
use Rattle.std.specs.Prelude.{find}
use Rattle.sp_tx.specs.Spending.{id_of}
use Rattle.std.specs.Option.{option_copied}
use Rattle.sp_block.specs.Block.{ReadBlock}
use Rattle.std.specs.List.{list_all}
use Rattle.sp_model.specs.Graph.{has, parents_of, rank_of}
use Rattle.sp_pool.specs.Kept.{graph_of}
use Rattle.sp_carry.specs.Carried.{with_block}
use Rattle.sp_engine.proofs.CarriedBlocks.{AreCarried-more, carried_count, few_txs}
use Rattle.sp_engine.proofs.Decided.{block_below, block_longer, block_right}
use Rattle.sp_engine.proofs.Facts.{all_items, is_found, room_left}
use Rattle.sp_engine.proofs.NumberedBlocks.{AreNumbered-more, found_by, found_salt, next_closed, next_fresh, next_kept}
use Rattle.sp_dag.specs.Numbered.{cut_to, number_of, Numbered}
use Rattle.sp_rows.proofs.Keeps.{on_err}
use Rattle.sp_carry.specs.Carried.{Carried}
use Rattle.sp_carry.specs.Carried as carried
use Rattle.sp_carry.proofs.Cutting.{cut_before}
use Rattle.sp_engine.proofs.JoinedStays.{first_stays, joined_stays}
use Rattle.sp_engine.proofs.Paying.{block_goes}
use Rattle.sp_engine.proofs.numbering.add_one.Goals as goal

pub add-requires-clause-fresh : goal.add-requires-clause-fresh
add-requires-clause-fresh c = next_fresh c.requires.next

pub add-requires-clause-some : goal.add-requires-clause-some
add-requires-clause-some c =
    let kept = c.args.pool.now in
    let is : parents_of (graph_of kept) c.args.id.now ≡ c.as_slice.result.now =
    found_by kept c.args.id.now c.in-Some.block.now c.kept-kept.ensures.blocks.apart (sym c.block.ensures ∙ ap option_copied c.in-Some.is)
    ∙ sym (ap (λ (b : ReadBlock). b.parents) c.block-in-Some.view_is) ∙ sym c.as_slice.ensures in
    let some : 0 < length (parents_of (graph_of kept) c.args.id.now) = c.requires.numbered.others c.args.id.now (next_kept c.requires.next) (next_fresh c.requires.next) in
    omega (arith, some, ap length is)

pub add-requires-clause-known : goal.add-requires-clause-known
add-requires-clause-known c =
    let kept = c.args.pool.now in
    let is : parents_of (graph_of kept) c.args.id.now ≡ c.as_slice.result.now =
    found_by kept c.args.id.now c.in-Some.block.now c.kept-kept.ensures.blocks.apart (sym c.block.ensures ∙ ap option_copied c.in-Some.is)
    ∙ sym (ap (λ (b : ReadBlock). b.parents) c.block-in-Some.view_is) ∙ sym c.as_slice.ensures in
    λ k d le. all_items (has c.args.dag.now.ids) c.as_slice.result.now k d (sym (ap (list_all (has c.args.dag.now.ids)) is) ∙ next_closed c.kept-kept.ensures.blocks.apart c.requires.next) le

pub add-requires-clause-room : goal.add-requires-clause-room
add-requires-clause-room c = room_left c.args.pool.now c.args.dag.now c.args.id.now c.kept-kept.ensures.blocks c.len-blocks.ensures.numbered c.requires.numbered c.requires.next

pub unreachable-requires : goal.unreachable-requires
unreachable-requires c = is_found c.args.pool.now c.args.id.now (next_kept c.requires.next) (sym c.block.ensures ∙ ap option_copied c.in-None.is)

pub returns-clause-numbered : goal.returns-clause-numbered
returns-clause-numbered c =
    let kept = c.args.pool.now in
    let is : parents_of (graph_of kept) c.args.id.now ≡ c.as_slice.result.now =
    found_by kept c.args.id.now c.in-Some.block.now c.kept-kept.ensures.blocks.apart (sym c.block.ensures ∙ ap option_copied c.in-Some.is)
    ∙ sym (ap (λ (b : ReadBlock). b.parents) c.block-in-Some.view_is) ∙ sym c.as_slice.ensures in
    let is_salt : (rank_of (graph_of kept) c.args.id.now).salt ≡ c.block-in-Some.inside.salt =
    found_salt kept c.args.id.now c.in-Some.block.now c.kept-kept.ensures.blocks.apart (sym c.block.ensures ∙ ap option_copied c.in-Some.is)
    ∙ sym (ap (λ (b : ReadBlock). b.salt) c.block-in-Some.view_is) in
    AreNumbered-more kept c.args.dag.now c.add.new.self c.args.id.now c.block-in-Some.inside.salt c.as_slice.result.now c.kept-kept.ensures.blocks c.len-blocks.ensures.numbered
    c.requires.numbered c.requires.next is is_salt c.in_ok-number-in-Some.ensures.ok

pub carry-requires-clause-few : goal.carry-requires-clause-few
carry-requires-clause-few c = few_txs _ c.block-in-Some.invariant

pub returns-clause-carried : goal.returns-clause-carried
returns-clause-carried c =
    AreCarried-more c.args.pool.now c.args.dag.now c.add.new.self c.args.carriers.now c.carry.new.carriers c.args.id.now c.block-in-Some.inside.salt c.as_slice.result.now c.in-Some.block.now
    c.len-blocks.ensures.numbered c.len-more.ensures.numbered c.requires.carried (sym c.block.ensures ∙ ap option_copied c.in-Some.is) c.in_ok-number-in-Some.ensures.ok
    c.block_count-added.ensures.carried (c.in_ok-carry-in-Some.ensures.ok ∙ ap (λ (b : ReadBlock). with_block c.add.new.self c.args.carriers.now b.txs) c.block-in-Some.view_is)

pub returns-clause-more : goal.returns-clause-more
returns-clause-more c =
    block_goes c.add.new.self c.args.carriers.now c.carry.new.carriers c.in-Some.block.now.txs
    (c.in_ok-carry-in-Some.ensures.ok ∙ ap (λ (b : ReadBlock). with_block c.add.new.self c.args.carriers.now b.txs) c.block-in-Some.view_is)

pub add-requires-in-Some-clause-joining : goal.add-requires-in-Some-clause-joining
add-requires-in-Some-clause-joining c = (
  c.requires.joined.0,
  c.requires.joined.1,
  joined_stays c.args.dag.now c.add.new.self c.args.id.now c.block-in-Some.inside.salt (map (number_of c.args.dag.now.ids) c.as_slice.result.now) c.requires.joined.0 c.requires.joined.1 c.args.votes.now c.args.saved.now
      c.in_ok-number-in-Some.ensures.ok c.len-blocks.ensures.numbered c.len-more.ensures.numbered.order c.requires.joined.2,
  c.requires.joined.3,
)

pub returns-clause-joined : goal.returns-clause-joined
returns-clause-joined c = λ n old joined tips.
    c.in_ok-add-in-Some.ensures.joined n old
    (joined_stays c.args.dag.now c.add.new.self c.args.id.now c.block-in-Some.inside.salt (map (number_of c.args.dag.now.ids) c.as_slice.result.now) n old c.args.votes.now c.args.saved.now
    c.in_ok-number-in-Some.ensures.ok c.len-blocks.ensures.numbered c.len-more.ensures.numbered.order joined) tips

pub returns-clause-right : goal.returns-clause-right
returns-clause-right c = λ a right.
    let added = c.in_ok-carry-in-Some.ensures.ok ∙ ap (λ (b : ReadBlock). with_block c.add.new.self c.args.carriers.now b.txs) c.block-in-Some.view_is in
    let long : c.args.carriers.now.blocks ≡ length c.args.dag.now.parents = carried_count c.args.pool.now c.args.dag.now c.args.carriers.now c.len-blocks.ensures.numbered c.requires.carried in
    block_right c.args.dag.now c.add.new.self c.args.id.now c.block-in-Some.inside.salt (map (number_of c.args.dag.now.ids) c.as_slice.result.now) c.args.carriers.now c.carry.new.carriers
    c.in-Some.block.now.txs a c.in_ok-number-in-Some.ensures.ok
    c.len-blocks.ensures.numbered c.len-more.ensures.numbered.order c.requires.carried.carried c.block_count-added.ensures.carried (omega (arith, long)) added right

pub returns-clause-longer : goal.returns-clause-longer
returns-clause-longer c =
    block_longer c.add.new.self c.args.carriers.now c.carry.new.carriers c.in-Some.block.now.txs
    (c.in_ok-carry-in-Some.ensures.ok ∙ ap (λ (b : ReadBlock). with_block c.add.new.self c.args.carriers.now b.txs) c.block-in-Some.view_is)

pub returns-clause-below : goal.returns-clause-below
returns-clause-below c = λ n le.
    block_below c.add.new.self c.args.carriers.now c.carry.new.carriers c.in-Some.block.now.txs n
    (c.in_ok-carry-in-Some.ensures.ok ∙ ap (λ (b : ReadBlock). with_block c.add.new.self c.args.carriers.now b.txs) c.block-in-Some.view_is) le

pub returns-in_err-add-in-Some-clause-err : goal.returns-in_err-add-in-Some-clause-err
returns-in_err-add-in-Some-clause-err c = on_err c.from_residual-in_err-add-in-Some.result (λ n old joined _.
    c.in_err-add-in-Some.ensures.err n old
    (joined_stays c.args.dag.now c.add.new.self c.args.id.now c.block-in-Some.inside.salt (map (number_of c.args.dag.now.ids) c.as_slice.result.now) n old c.args.votes.now c.args.saved.now
    c.in_ok-number-in-Some.ensures.ok c.len-blocks.ensures.numbered c.len-more.ensures.numbered.order joined))

pub returns-in_err-carry-in-Some-clause-err : goal.returns-in_err-carry-in-Some-clause-err
returns-in_err-carry-in-Some-clause-err c = on_err c.from_residual-in_err-carry-in-Some.result (λ n old joined tips.
    (c.in_ok-add-in-Some.ensures.joined n old
    (joined_stays c.args.dag.now c.add.new.self c.args.id.now c.block-in-Some.inside.salt (map (number_of c.args.dag.now.ids) c.as_slice.result.now) n old c.args.votes.now c.args.saved.now
    c.in_ok-number-in-Some.ensures.ok c.len-blocks.ensures.numbered c.len-more.ensures.numbered.order joined) tips).joining)

pub returns-in_err-add-in-Some-clause-front : goal.returns-in_err-add-in-Some-clause-front
returns-in_err-add-in-Some-clause-front c = λ n le.
    ap (λ (d : Numbered). cut_to d n) c.in_ok-number-in-Some.ensures.ok ∙ first_stays c.args.dag.now c.args.id.now c.block-in-Some.inside.salt c.as_slice.result.now n c.len-blocks.ensures.numbered.long c.len-blocks.ensures.numbered.salts_long le

pub returns-in_err-carry-in-Some-clause-front : goal.returns-in_err-carry-in-Some-clause-front
returns-in_err-carry-in-Some-clause-front c = λ n le.
    ap (λ (d : Numbered). cut_to d n) c.in_ok-number-in-Some.ensures.ok ∙ first_stays c.args.dag.now c.args.id.now c.block-in-Some.inside.salt c.as_slice.result.now n c.len-blocks.ensures.numbered.long c.len-blocks.ensures.numbered.salts_long le

pub returns-clause-front : goal.returns-clause-front
returns-clause-front c = λ n le.
    ap (λ (d : Numbered). cut_to d n) c.in_ok-number-in-Some.ensures.ok ∙ first_stays c.args.dag.now c.args.id.now c.block-in-Some.inside.salt c.as_slice.result.now n c.len-blocks.ensures.numbered.long c.len-blocks.ensures.numbered.salts_long le

pub returns-clause-first : goal.returns-clause-first
returns-clause-first c = λ n le.
    ap (λ (k : Carried). carried.cut_to k n) (c.in_ok-carry-in-Some.ensures.ok ∙ ap (λ (b : ReadBlock). with_block c.add.new.self c.args.carriers.now b.txs) c.block-in-Some.view_is)
    ∙ cut_before c.add.new.self c.args.carriers.now c.in-Some.block.now.txs n c.requires.carried.carried le

pub carry-requires-clause-ids : goal.carry-requires-clause-ids
carry-requires-clause-ids c = λ same.
    let is : c.args.id.now ≡ c.args.arrived.now = search rules in
    c.requires.told c.in-Some.block.now (ap (λ (z : ℕ). find (λ (x : ReadBlock). eqb x.id z) c.args.pool.now) (sym is) ∙ sym c.block.ensures ∙ ap option_copied c.in-Some.is)
    ∙ sym (ap (λ (b : ReadBlock). map id_of b.txs) c.block-in-Some.view_is)
