use Rattle.std.proofs.Common.{rules}
use Rattle.std.proofs.lemmas.List.Sorted.{answers_always}
use Rattle.sp_tx.specs.declared.parts.Input.{Input}
use Rattle.sp_tx.proofs.list.sort.Goals as goal

pub returns : goal.returns
returns c =
    let keys = c.in_ok-sort_by_key.ensures in
    record {
      permutation = keys.permutation;
      in_order = keys.sorted (λ (input : Input). input.from) (answers_always _ _ _ (λ f a r f' k. search rules));
      stable = keys.stable (λ (input : Input). input.from) (answers_always _ _ _ (λ f a r f' k. search rules));
    }
