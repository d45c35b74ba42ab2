use Rattle.std.proofs.Common.{◌++◌, List, length, ap, arith, ℕ}
use Rattle.std.specs.Prelude.{string_bytes}
use Rattle.std.proofs.lemmas.List.{length-map}
use Rattle.spectre.specs.Words.{texts}
use Rattle.spectre.proofs.ArgumentLists.{words_few, words_right}
use Rattle.spectre.proofs.spend_words.preimages_of.Goals as goal

pub each-init : goal.each-init
each-init c =
    let words = c.args.words.now in
    record {
      all = ap (λ (l : List (List ℕ)). l ++ texts words) c.new-preimages.ensures;
      right = words_right (texts words) c.requires;
      few = (let h = words_few (texts words) c.requires in omega (arith, h, length-map words string_bytes, ap length c.new-preimages.ensures));
    }
