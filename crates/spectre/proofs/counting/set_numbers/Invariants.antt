use Rattle.std.proofs.Common.{◌≡◌, length, map, take}
use Rattle.spectre.specs.Numbering.{id_of, if_present}
use Rattle.spectre.proofs.counting.set_numbers.Given as goal

abbrev pub invariant-place : goal.invariant-place
invariant-place l =
    let kept = l.engine.kept in
    record {
      long : length l.numbers ≡ length l.ids;
      set : map (id_of kept) (take l.place l.numbers) ≡ map (if_present kept) (take l.place l.ids);
    }
