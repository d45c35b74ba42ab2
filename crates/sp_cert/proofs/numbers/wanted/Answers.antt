use Rattle.std.proofs.Common.{◌≡◌, ◌∷◌, ◌∙◌, ◌&&◌, ap, sym, arith, filter, length, ℕ, List, Vec, Global}
use Rattle.std.specs.List.{range_with_len}
use Rattle.sp_model.specs.Graph.{in_past}
use Rattle.sp_dag.specs.Numbered.{graph_of}
use Rattle.sp_dag.proofs.Ranked.{keys_are_numbers}
use Rattle.sp_cert.specs.Entries.{whole_number}
use Rattle.sp_cert.proofs.Ranges.{listed_more_no, listed_more_yes}
use Rattle.sp_cert.proofs.numbers.wanted.Goals as goal
use Rattle.sp_cert.proofs.numbers.wanted.Goals.{then-sees_both+in_ok-push-2, else-sees_both}

pub candidates-preserved : goal.candidates-preserved
candidates-preserved c =
    let g = graph_of c.args.dag.now in
    let both = λ (z : ℕ). in_past g c.args.x z && in_past g c.args.y z in
    elim c.if-sees_both.branch [
      | then-sees_both+in_ok-push-2 w ↦
          listed_more_yes both whole_number c.candidates.z c.candidates.wanted.items c.if-sees_both.wanted.items c.candidates.invariant
          (ap (λ (v : Vec ℕ Global). v.items) w.wanted-is ∙ w.in_ok-push-2.ensures.items) (sym c.sees_both.ensures ∙ w.if-sees_both.true)
      | else-sees_both w ↦
          listed_more_no both whole_number c.candidates.z c.candidates.wanted.items c.if-sees_both.wanted.items c.candidates.invariant
          (ap (λ (v : Vec ℕ Global). v.items) w.wanted-is) (sym c.sees_both.ensures ∙ w.if-sees_both.false)
    ]

pub returns : goal.returns
returns c =
    let g = graph_of c.args.dag.now in
    let both = λ (z : ℕ). in_past g c.args.x z && in_past g c.args.y z in
    let all : c.candidates.z ≡ length c.args.dag.now.parents = omega (arith, c.len-z-end.ensures.value) in
    c.candidates.invariant ∙ ap (λ (n : ℕ). whole_number ∷ filter both (range_with_len 0 n)) all
    ∙ ap (λ (l : List ℕ). whole_number ∷ filter both l) (sym (keys_are_numbers c.args.dag.now))
