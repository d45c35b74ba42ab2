use Rattle.std.proofs.Common.{◌≡◌, [], ◌∷◌, false, None}
use Rattle.sp_block.specs.Block.{ReadBlock}
use Rattle.sp_report.specs.Naming.{labels_of}
use Rattle.spectre.proofs.Played.{Played}
use Rattle.spectre.proofs.scene.answer_scene.Given as goal

abbrev pub invariant-place : goal.invariant-place
invariant-place g l =
    let taken = g.K.Sink.taken in
    record {
      live : l.node.stopped ≡ false;
      plain : l.node.journal ≡ None;
      terms : l.node.terms ≡ l.fn.node.terms;
      played : (genesis : ReadBlock) → l.fn.node.kept ≡ genesis ∷ [] →
          Played (taken l.fn.sink) (taken l.sink) (labels_of l.naming) genesis l.fn.node.terms l.node.kept l.scene.messages l.place;
      quiet : g.K.Sink.faults l.sink ≡ g.K.Sink.faults l.fn.sink;
    }
