use Rattle.std.proofs.Common.{◌≡◌, ◌∙◌, ◌≤◌, ap, refl, get_or, length, List, ℕ, [], take, arith}
use Rattle.sp_bits.specs.Places.{members_below}
use Rattle.sp_dag.proofs.Adds.{AreRight-same}
use Rattle.sp_dag.proofs.ClosedRows.{AreClosed-same, AreClosed-take}
use Rattle.sp_dag.proofs.Cuts.{AreRight-take}
use Rattle.sp_dag.proofs.Starts.{AreStarts-same, AreStarts-take}
use Rattle.sp_dag.proofs.table.Table.cut.Goals as goal

pub invariant_of-self : goal.invariant_of-self
invariant_of-self c =
    let table = c.self.inside.parents.items in
    let pasts = c.self.inside.pasts.items in
    let futures = c.self.inside.futures.items in
    let pairs = c.self.inside.pairs.items in
    let indices = c.self.inside.indices.items in
    let later = c.cut_futures.new.futures.items in
    let n = c.args.count in
    let left = c.pairs_below-pairs.result in
    let within : n ≤ length table = omega (arith, ap length c.self.view_is, c.requires) in
    let kept : length c.truncate-3.new.self.items ≡ length (take n futures) = ap length c.truncate-3.ensures.items in
    let closed = c.self.inside.closed.items in
    let wider = c.cut_futures-2.new.futures.items in
    let kept' : length c.truncate-4.new.self.items ≡ length (take n closed) = ap length c.truncate-4.ensures.items in
    let wide : length wider ≡ length (take n closed) =
    omega (arith, kept', c.cut_futures-2.ensures.len, c.cut_futures-2.new.futures.ok.0, c.truncate-4.new.self.ok.0) in
    let long : length later ≡ length (take n futures) =
    omega (arith, kept, c.cut_futures.ensures.len, c.cut_futures.new.futures.ok.0, c.truncate-3.new.self.ok.0) in (
      AreRight-same (take n table) c.truncate.new.self.items (take n pasts) c.truncate-2.new.self.items later later (take left pairs) c.truncate-7.new.self.items
          (take n indices) c.truncate-5.new.self.items c.truncate.ensures.items c.truncate-2.ensures.items refl c.truncate-7.ensures.items c.truncate-5.ensures.items
          (AreRight-take table pasts futures later pairs c.deref.result.now indices n left c.self.invariant.0 within c.deref.ensures.value c.pairs_below-pairs.ensures.within
          c.pairs_below-pairs.ensures.last c.pairs_below-pairs.ensures.others long
          (λ a at. c.cut_futures.ensures.rows a (omega (arith, at, kept, c.truncate-3.new.self.ok.0))
          ∙ ap (λ (l : List (List ℕ)). members_below (get_or l a []) n) c.truncate-3.ensures.items)),
      AreStarts-same (take n table) c.truncate.new.self.items (take n c.self.inside.starts.items) c.truncate-6.new.self.items c.truncate.ensures.items
          c.truncate-6.ensures.items (AreStarts-take table c.self.inside.starts.items n c.self.invariant.0.order within c.self.invariant.1),
      AreClosed-same (take n table) c.truncate.new.self.items wider wider c.truncate.ensures.items refl
          (AreClosed-take table closed wider n c.self.invariant.0.order within c.self.invariant.2 wide
          (λ a at. c.cut_futures-2.ensures.rows a (omega (arith, at, kept', c.truncate-4.new.self.ok.0))
          ∙ ap (λ (l : List (List ℕ)). members_below (get_or l a []) n) c.truncate-4.ensures.items)),
    )
