use Rattle.std.proofs.Common.{◌≡◌, refl, ℕ, ◌+◌, ◌-◌, ◌≤◌, ◌<◌, length, take, subst, sym, arith, List}
use Rattle.std.specs.Io.KnownBytes.{Consumes}
use Rattle.std.proofs.lemmas.List.{length-take-le}
use Rattle.std.proofs.lemmas.Grind.{common_steps}
use Rattle.sp_io.proofs.Known.{consumes_then, consumes_keeps, take_more-put_mid}
use Rattle.sp_feed.proofs.Reading.{consumes_none}
use Rattle.sp_feed.proofs.fill.fill.Goals as goal

pub returns-in_default-clause-fills : goal.returns-in_default-clause-fills
returns-in_default-clause-fills g c =
    let left = g.S.Source.left in
    let filled = c.pieces.filled in
    let given = take filled c.pieces.out in
    let within : filled ≤ length c.pieces.out = grind (arith, common_steps) in
    let long : length given ≡ filled = length-take-le filled c.pieces.out within in
    let counted : c.pieces.taken ≡ c.args.taken.now + filled = c.pieces.invariant.counted in
    let room : filled < c.args.limit - c.args.taken.now = omega arith in
    record {
      given = given;
      took = record {
        consumed = consumes_keeps (left c.args.source.now) (left c.pieces.source) (left c.read.new.self) given c.pieces.invariant.bytes c.in_default.ensures.bytes;
        counted = omega arith;
        within = omega arith;
        later = omega (arith, c.in_default.ensures.cause.later);
      };
      fills = (grind (arith, common_steps), (omega arith, omega (arith, c.in_default.ensures.cause.failed)));
    }

pub returns-then-count-eq0-clause-fills : goal.returns-then-count-eq0-clause-fills
returns-then-count-eq0-clause-fills g c =
    let left = g.S.Source.left in
    let filled = c.pieces.filled in
    let given = take filled c.pieces.out in
    let within : filled ≤ length c.pieces.out = grind (arith, common_steps) in
    let long : length given ≡ filled = length-take-le filled c.pieces.out within in
    let counted : c.pieces.taken ≡ c.args.taken.now + filled = c.pieces.invariant.counted in
    let room : filled < c.args.limit - c.args.taken.now = omega arith in
    let P : ℕ → Type 0 = λ n. Consumes (left c.pieces.source) (left c.read.new.self) (take n c.read.new.out) in
    let none = subst P c.if-count-eq0.true c.in-Ok.ensures.bytes.0 in
    record {
      given = given;
      took = record {
        consumed = consumes_none (left c.args.source.now) (left c.pieces.source) (left c.read.new.self) given c.read.new.out c.pieces.invariant.bytes none;
        counted = omega arith;
        within = omega arith;
        later = omega (arith, c.in-Ok.ensures.cause.later);
      };
      fills = (grind (arith, common_steps), (refl, omega arith, c.in-Ok.ensures.bytes.1 c.if-count-eq0.true (grind (arith, common_steps))));
    }

pub pieces-preserved : goal.pieces-preserved
pieces-preserved g c =
    let left = g.S.Source.left in
    let filled = c.pieces.filled in
    let count = c.in-Ok.count in
    let within : filled ≤ length c.pieces.out = grind (arith, common_steps) in
    let few : count ≤ length c.read.new.out = c.in-Ok.ensures.bound.0 in
    let joined = take_more-put_mid filled (c.min-wanted.result - filled) count c.pieces.out c.read.new.out within few in
    let consumed = consumes_then (left c.args.source.now) (left c.pieces.source) (left c.read.new.self) (take filled c.pieces.out) (take count c.read.new.out) c.pieces.invariant.bytes c.in-Ok.ensures.bytes.0 in
    let P : List ℕ → Type 0 = λ t. Consumes (left c.args.source.now) (left c.read.new.self) t in
    record {
      within = grind (arith, common_steps);
      counted = omega arith;
      bytes = subst P (sym joined) consumed;
      quiet = omega (arith, c.in-Ok.ensures.cause.quiet);
      unasked = λ e. absurd (let room : filled < c.args.limit - c.args.taken.now = omega arith in omega (arith, e, room));
    }
