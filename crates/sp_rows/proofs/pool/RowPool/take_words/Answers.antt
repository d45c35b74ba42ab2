use Rattle.std.proofs.Common.{◌≡◌, ◌<◌, ◌+◌, ◌*◌, ℕ, List, ap, sym, ◌∙◌, subst, arith, get_or, set, length}
use Rattle.sp_rows.specs.Pool.{Pool, count_of, taken_with}
use Rattle.sp_rows.specs.Kept.{with_words_at, live_of, IsFree}
use Rattle.sp_rows.proofs.Keeps.{live-count, all-free, taken-kept, taken-pool, Differs-with}
use Rattle.sp_rows.proofs.pool.RowPool.take_words.Goals as goal

pub next-id-requires-clause-all : goal.next-id-requires-clause-all
next-id-requires-clause-all c =
    let p = c.self.inside in
    subst (λ (l : List ℕ). p.spare + live_of l ≡ length l) (sym c.deref.ensures.value) (all-free p.chunks p.counts.items p.free p.spare p.live c.self.invariant)

pub invariant_of-self : goal.invariant_of-self
invariant_of-self c =
    let p = c.self.inside in let kept = c.self.invariant in let id = c.next-id.result in
    let some : 0 < p.spare = omega (arith, c.requires.some, ap (λ pool. pool.spare) c.self.view_is) in
    let within = subst (λ (l : List ℕ). id < length l) c.deref.ensures.value c.next-id.ensures.within in
    let none = subst (λ (l : List ℕ). get_or l id 0 ≡ 0) c.deref.ensures.value c.next-id.ensures.none in
    let stored : id < 256 * length p.chunks = omega (arith, within, kept.room) in
    let new = with_words_at p.chunks id c.args.words.now in
    let differs = Differs-with p.chunks id c.args.words.now kept.whole stored in
    let frees = subst (λ (l : List ℕ). IsFree (set l id 1) c.next-id.new.self) c.deref.ensures.value c.next-id.ensures.free in
    rw c.write.ensures (taken-kept p.chunks p.counts.items p.free p.spare p.live kept new id c.next-id.new.self differs within none some frees)

pub returns-clause-fresh : goal.returns-clause-fresh
returns-clause-fresh c =
    let p = c.self.inside in let id = c.next-id.result in
    let none = subst (λ (l : List ℕ). get_or l id 0 ≡ 0) c.deref.ensures.value c.next-id.ensures.none in
    sym (ap (λ pool. count_of pool.rows id) c.self.view_is) ∙ live-count p.chunks p.counts.items p.free p.spare p.live c.self.invariant id ∙ none

pub returns-clause-taken : goal.returns-clause-taken
returns-clause-taken c =
    let p = c.self.inside in let id = c.next-id.result in
    let within = subst (λ (l : List ℕ). id < length l) c.deref.ensures.value c.next-id.ensures.within in
    taken-pool p.chunks p.counts.items p.free p.spare p.live c.self.invariant c.write.new.self id c.args.words.now c.write.ensures within c.requires.eight
    ∙ ap (λ (pool : Pool). taken_with pool id c.args.words.now) c.self.view_is
