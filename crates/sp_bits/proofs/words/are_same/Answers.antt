use Rattle.std.proofs.Common.{◌≡◌, length, rules, arith}
use Rattle.std.proofs.lemmas.Bool.{eqb-true, eq-eqb}
use Rattle.sp_bits.proofs.Bits.{IsSame-more, IsSame-all}
use Rattle.sp_bits.proofs.words.are_same.Goals as goal

pub words-preserved : goal.words-preserved
words-preserved c = IsSame-more c.args.one.now c.args.other.now c.words.word c.words.different c.words.invariant

pub returns : goal.returns
returns c =
    let long : length c.args.one.now ≡ 8 = search rules in let long' : length c.args.other.now ≡ 8 = search rules in
    let all = IsSame-all c.args.one.now c.args.other.now c.words.word c.words.different long long' (omega arith) c.words.invariant in
    (λ h. all.0 (eqb-true c.words.different 0 h), λ e. eq-eqb c.words.different 0 (all.1 e))
