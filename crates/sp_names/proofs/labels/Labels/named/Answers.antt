use Rattle.std.proofs.Common.{[], map}
use Rattle.std.specs.List.{list_any}
use Rattle.std.specs.Ordering.{is_eq}
use Rattle.sp_names.proofs.Orders.{key_within, next_looked}
use Rattle.sp_names.proofs.labels.Labels.named.Goals as goal

pub place-preserved : goal.place-preserved
place-preserved g c =
    let read = key_within c.args.self.now c.place.place c.key_at-key.result c.key_at-key.ensures in
    next_looked (λ key. list_any (λ other. is_eq (g.K.Ord.cmp other key)) c.args.keys.now) (map (λ label. label.0) c.args.self.now) [] c.place.named.items _ c.place.place c.key_at-key.result _
    c.place.invariant read.0 read.1 c.is_among.ensures c.in_ok-push_wanted.ensures
