use Rattle.std.proofs.Common.{◌≡◌, ◌<◌, ◌∙◌, ◌++◌, ◌||◌, ◌∷◌, [], ap, refl, List, ℕ, Option, length, arith, eqb, get_or}
use Rattle.std.specs.Prelude.{if◌then◌else◌}
use Rattle.sp_bits.specs.Places.{has, places_where}
use Rattle.sp_dag.proofs.ClosedRows.{AreClosed-push, AreClosed-same}
use Rattle.sp_dag.proofs.Adds.{AreBefore-all, Adds-read, rows_read, AreRight-push, AreRight-same}
use Rattle.sp_dag.specs.Shapes.{pairs_in}
use Rattle.sp_dag.proofs.Starts.{AreStarts-push, AreStarts-same}
use Rattle.sp_dag.proofs.table.Table.add.Goals as goal

pub invariant_of-self-2 : goal.invariant_of-self-2
invariant_of-self-2 c =
    let table = c.self.inside.parents.items in
    let pasts = c.self.inside.pasts.items in
    let futures = c.self.inside.futures.items in
    let pairs = c.self.inside.pairs.items in
    let indices = c.self.inside.indices.items in
    let past = c.row_of-past.result in
    let later = c.set_in_futures.new.futures.items in
    let row = c.push_unrelated.new.indices.items in
    let closed = c.self.inside.closed.items in
    let wider = c.set_in_futures-2.new.futures.items in
    let number : c.len-count.result ≡ length table = omega (arith, c.len-count.ensures, c.self.inside.parents.ok.0) in
    let long : length later ≡ c.len-count.result = omega (arith, c.set_in_futures.ensures.len, c.set_in_futures.new.futures.ok.0) in
    let wide : length wider ≡ length table = omega (arith, c.set_in_futures-2.ensures.len, c.set_in_futures-2.new.futures.ok.0, number) in
    let each : (a : ℕ) → a < length table → get_or wider a [] ≡ (if has past a then places_where (λ w. has (get_or closed a []) w || eqb w (length table)) else get_or closed a []) =
    rows_read past wider closed c.make_room.new.closed.items c.len-count.result (length table) number c.make_room.ensures.closed c.set_in_futures-2.ensures.rows in
    let own : c.set.new.self ≡ places_where (λ w. has [] w || eqb w (length table)) =
    c.set.ensures ∙ ap (λ (l : List ℕ). places_where (λ w. has l w || eqb w c.len-count.result)) c.empty-own.ensures
    ∙ ap (λ (k : ℕ). places_where (λ w. has [] w || eqb w k)) number in
    let view : length table ≡ length c.args.self.now = ap length c.self.view_is in
    let start : c.len-start.result ≡ length (pairs_in table) =
    omega (arith, c.len-start.ensures, c.reserve.new.self.ok.0, ap length c.reserve.ensures.items, ap length c.self.invariant.0.pairs_right) in
    let adds =
    Adds-read table pasts futures pairs c.args.parents past later c.push_unrelated.new.pairs.items row c.len-count.result c.deref.result.now
    c.make_room.new.futures.items c.reserve.new.self.items c.as_slice.result.now number (c.deref.ensures.value ∙ c.make_room.ensures.pasts)
    c.make_room.ensures.futures c.reserve.ensures.items c.as_slice.ensures (omega (arith, view, c.requires.room))
    (AreBefore-all (length table) c.args.parents (λ k d le. omega (arith, view, c.requires.before k d le))) c.row_of-past.ensures
    c.push_unrelated.ensures.pairs c.push_unrelated.ensures.indices long c.set_in_futures.ensures.rows in
    let right = AreRight-push table pasts futures pairs indices c.args.parents past later c.push_unrelated.new.pairs.items row c.self.invariant.0 adds in (
      AreRight-same (table ++ c.args.parents ∷ []) c.push_reserved-6.new.self.items (pasts ++ past ∷ []) c.push_reserved-3.new.self.items (later ++ [] ∷ [])
          c.push_reserved.new.self.items c.push_unrelated.new.pairs.items c.push_unrelated.new.pairs.items (indices ++ row ∷ []) c.push_reserved-4.new.self.items
          (c.push_reserved-6.ensures.items ∙ ap (λ (l : List (List ℕ)). l ++ c.args.parents ∷ []) c.make_room.ensures.parents)
          (c.push_reserved-3.ensures.items ∙ ap (λ (l : List (List ℕ)). l ++ past ∷ []) c.make_room.ensures.pasts)
          (c.push_reserved.ensures.items ∙ ap (λ (r : List ℕ). later ++ r ∷ []) c.empty.ensures) refl
          (c.push_reserved-4.ensures.items ∙ ap (λ (l : List (List (Option ℕ))). l ++ c.of.result ∷ []) c.make_room.ensures.indices
          ∙ ap (λ (r : List (Option ℕ)). indices ++ r ∷ []) c.of.ensures) right,
      AreStarts-same (table ++ c.args.parents ∷ []) c.push_reserved-6.new.self.items (c.self.inside.starts.items ++ c.len-start.result ∷ []) c.push_reserved-5.new.self.items
          (c.push_reserved-6.ensures.items ∙ ap (λ (l : List (List ℕ)). l ++ c.args.parents ∷ []) c.make_room.ensures.parents)
          (c.push_reserved-5.ensures.items ∙ ap (λ (l : List ℕ). l ++ c.len-start.result ∷ []) c.make_room.ensures.starts)
          (AreStarts-push table c.self.inside.starts.items c.args.parents c.len-start.result c.self.invariant.0.order c.self.invariant.1 start),
      AreClosed-same (table ++ c.args.parents ∷ []) c.push_reserved-6.new.self.items (wider ++ c.set.new.self ∷ []) c.push_reserved-2.new.self.items
          (c.push_reserved-6.ensures.items ∙ ap (λ (l : List (List ℕ)). l ++ c.args.parents ∷ []) c.make_room.ensures.parents) c.push_reserved-2.ensures.items
          (AreClosed-push table pasts futures closed pairs indices c.args.parents past later wider c.push_unrelated.new.pairs.items row c.set.new.self
          c.self.invariant.0 adds c.self.invariant.2 wide each own),
    )
