use Rattle.std.proofs.Common.{◌≡◌, ◌<◌, ◌∙◌, Bool, false, ◌&&◌, not, ap, sym, subst, ℕ, List, eqb}
use Rattle.std.specs.Prelude.{All, ◌^◌, is_err}
use Rattle.sp_block.specs.Block.{IsBlock, ReadBlock}
use Rattle.sp_model.specs.declared.profile.Profile.{Profile}
use Rattle.sp_model.specs.Graph.{has}
use Rattle.sp_model.specs.Votes.{virt}
use Rattle.sp_pool.specs.Kept.{graph_in, ids_of, present}
use Rattle.sp_cert.specs.Certificate.{AreListed}
use Rattle.sp_cert.specs.Made.{certificate_of}
use Rattle.sp_cert.specs.Refusals.{are_two}
use Rattle.sp_cert.proofs.Determined.{certificate_is}
use Rattle.sp_cert.proofs.Given.{IfOk-both, IfOk-to, not_two}
use Rattle.sp_cert.proofs.Listing.{all_placed, are_listed, each_block, sign_of_kept, tables_are}
use Rattle.sp_cert.proofs.WrittenCerts.{written_is_read}
use Rattle.sp_cert.proofs.certifying.certify.Goals as goal

pub certificate-requires-clause-listed : goal.certificate-requires-clause-listed
certificate-requires-clause-listed c =
    let ids = c.in_ok-blocks.ensures.ids ∙ sym c.dag-dag.ensures.ids in
    are_listed c.args.engine.now.kept c.dag-dag.result.now c.in_ok-blocks.blocks.items c.kept_count-kept.ensures.blocks c.dag-dag.ensures.numbered c.dag-dag.ensures.blocks
    ids c.in_ok-blocks.ensures.kept

pub certificate-requires-clause-numbered : goal.certificate-requires-clause-numbered
certificate-requires-clause-numbered c =
    let ids = c.in_ok-blocks.ensures.ids ∙ sym c.dag-dag.ensures.ids in
    tables_are c.args.engine.now.kept c.dag-dag.result.now c.in_ok-blocks.blocks.items c.kept_count-kept.ensures.blocks c.dag-dag.ensures.numbered c.dag-dag.ensures.blocks
    ids c.in_ok-blocks.ensures.kept

pub certificate-requires-clause-placed : goal.certificate-requires-clause-placed
certificate-requires-clause-placed c =
    let ids = c.in_ok-blocks.ensures.ids ∙ sym c.dag-dag.ensures.ids in
    all_placed c.args.engine.now.kept c.dag-dag.result.now c.in_ok-blocks.blocks.items c.kept_count-kept.ensures.blocks c.dag-dag.ensures.numbered c.dag-dag.ensures.blocks
    ids c.in_ok-blocks.ensures.kept

pub returns-clause-sign : goal.returns-clause-sign
returns-clause-sign c =
    let kept = c.args.engine.now.kept in
    let dag = c.dag-dag.result.now in
    let x = c.args.x.now in
    let y = c.args.y.now in
    let ids = c.in_ok-blocks.ensures.ids ∙ sym c.dag-dag.ensures.ids in
    let e = c.certificate.ensures in
    let r = c.certificate.result in
    IfOk-to r
    (λ cert h. subst (λ (p : Profile). cert.sign ≡ virt (graph_in p kept) (present kept) x y) c.dag-dag.ensures.profile
    (sign_of_kept kept dag c.in_ok-blocks.blocks.items c.kept_count-kept.ensures.blocks c.dag-dag.ensures.numbered c.dag-dag.ensures.blocks ids c.in_ok-blocks.ensures.kept
    cert x y (λ id. ap (λ (l : List ℕ). has l id) c.dag-dag.ensures.ids ∙ c.present-present.ensures.order id) h.0 h.1.0 h.1.1.0 h.1.1.1.0 h.1.1.1.1.0 h.1.1.1.1.1))
    (IfOk-both _ _ r e.shown (IfOk-both _ _ r e.profile (IfOk-both _ _ r e.blocks (IfOk-both _ _ r e.two (IfOk-both _ _ r e.x e.y)))))

pub returns-clause-made : goal.returns-clause-made
returns-clause-made c =
    let kept = c.args.engine.now.kept in
    let blocks = c.in_ok-blocks.blocks.items in
    let dag = c.dag-dag.result.now in
    let of = c.dag-dag.ensures.profile in
    let x = c.args.x.now in
    let y = c.args.y.now in
    let ids = c.in_ok-blocks.ensures.ids ∙ sym c.dag-dag.ensures.ids in
    let e = c.certificate.ensures in
    let r = c.certificate.result in
    IfOk-to r
    (λ cert h. subst (λ (p : Profile). cert ≡ certificate_of p kept x y) of
    (certificate_is kept blocks dag cert x y c.in_ok-blocks.ensures.ids c.in_ok-blocks.ensures.kept
    (tables_are kept dag blocks c.kept_count-kept.ensures.blocks c.dag-dag.ensures.numbered c.dag-dag.ensures.blocks ids c.in_ok-blocks.ensures.kept) h.0 h.1.0 h.1.1.0 h.1.1.1.0
    (h.1.1.1.1.0 ∙ ap (λ (p : Profile). virt (graph_in p kept) (present kept) x y) (sym of)) h.1.1.1.1.1))
    (IfOk-both _ _ r e.profile (IfOk-both _ _ r e.blocks (IfOk-both _ _ r e.x (IfOk-both _ _ r e.y (IfOk-both _ _ r (returns-clause-sign c) e.worlds)))))

pub returns-clause-profile : goal.returns-clause-profile
returns-clause-profile c =
    IfOk-to c.certificate.result (λ cert h. h ∙ c.dag-dag.ensures.profile) c.certificate.ensures.profile

pub returns-clause-read : goal.returns-clause-read
returns-clause-read c =
    let kept = c.args.engine.now.kept in
    let blocks = c.in_ok-blocks.blocks.items in
    let ids = c.in_ok-blocks.ensures.ids ∙ sym c.dag-dag.ensures.ids in
    let all : All IsBlock blocks =
    each_block kept c.dag-dag.result.now blocks c.kept_count-kept.ensures.blocks c.dag-dag.ensures.numbered c.dag-dag.ensures.blocks ids c.in_ok-blocks.ensures.kept in
    let e = c.certificate.ensures in
    let r = c.certificate.result in
    IfOk-to r
    (λ cert h. written_is_read cert h.0 (record {
      blocks = subst (λ (l : List ReadBlock). All IsBlock l) (sym h.1.0) all;
      x = subst (λ (n : ℕ). n < 2 ^ 256) (sym h.1.1.0) c.as_bytes-x.ensures.bound;
      y = subst (λ (n : ℕ). n < 2 ^ 256) (sym h.1.1.1.0) c.as_bytes-y.ensures.bound;
      numbers = h.1.1.1.1;
    }))
    (IfOk-both _ _ r e.is (IfOk-both _ _ r e.blocks (IfOk-both _ _ r e.x (IfOk-both _ _ r e.y e.numbers))))

pub returns-clause-no_pair : goal.returns-clause-no_pair
returns-clause-no_pair c = λ none.
    let kept = c.args.engine.now.kept in
    let ids = ids_of c.in_ok-blocks.blocks.items in
    let x = c.args.x.now in
    let y = c.args.y.now in
    let same : (id : ℕ) → has ids id ≡ has (present kept) id = λ id. ap (λ (l : List ℕ). has l id) c.in_ok-blocks.ensures.ids ∙ c.present-present.ensures.order id in
    let two : are_two ids x y ≡ false =
    ap (λ (b : Bool). not (eqb x y) && (b && has ids y)) (same x)
    ∙ ap (λ (b : Bool). not (eqb x y) && (has (present kept) x && b)) (same y)
    ∙ not_two (has (present kept) x) (has (present kept) y) (eqb x y) (virt (graph_in c.args.engine.now.profile kept) (present kept) x y) none in
    ap is_err (c.certificate.ensures.no_pair two)
