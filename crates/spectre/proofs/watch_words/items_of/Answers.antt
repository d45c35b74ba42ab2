use Rattle.std.proofs.Common.{◌≡◌, ◌∙◌, ◌++◌, List, [], ◌∷◌, IsTrue, ap, sym, length, arith, rules}
use Rattle.std.specs.Global.{Global}
use Rattle.std.specs.Prelude.{string_bytes, String}
use Rattle.std.proofs.lemmas.List.{append-nil, length-map}
use Rattle.sp_watch.specs.declared.item.Item.{Item}
use Rattle.spectre.specs.WalletWords.{are_items, items_of}
use Rattle.spectre.specs.Words.{texts}
use Rattle.spectre.proofs.ArgumentLists.{items_long}
use Rattle.spectre.proofs.watch_words.items_of.Goals as goal

-- nothing is left, so these are all
sized : (words rest : List (String Global)) (items all : List Item) → length rest ≡ 0 → items ++ items_of (texts rest) ≡ items_of (texts words) → all ≡ items → IsTrue (are_items (texts words)) → length all ≡ length words
sized words [] items all none so is right = ap length (is ∙ sym (append-nil items) ∙ so) ∙ items_long (texts words) right ∙ length-map words string_bytes
sized words (word ∷ rest) items all none so is right = absurd (omega (arith, none))

pub returns-in_default-clause-size : goal.returns-in_default-clause-size
returns-in_default-clause-size c =
    let none : length c.each.rest.now ≡ 0 = search rules in
    sized c.args.words.now c.each.rest.now c.each.items.items c.of.result none c.each.invariant c.of.ensures c.requires
