use Rattle.std.proofs.Common.{◌∙◌, ◌<◌, not, ℕ, Bool, List, ap, sym, subst, length, length-set}
use Rattle.std.specs.Prelude.{All, slice_set}
use Rattle.sp_carry.specs.Flags.{is_set}
use Rattle.sp_accept.proofs.Toggled.{back_once, front_within, last_within}
use Rattle.sp_accept.proofs.settle.turn_back.Goals as goal

pub turned-preserved : goal.turned-preserved
turned-preserved c = record {
  within = subst (λ (n : ℕ). All (λ d. d < n) c.pop.new.self.items) (sym (length-set c.turned.flags.items c.in-Some.c (not c.is_set-was.result)))
      (front_within (length c.turned.flags.items) c.turned.turned.items c.pop.new.self.items c.in-Some.c c.in-Some.ensures.items c.turned.invariant.within);
  back = λ start h.
      back_once start c.turned.flags.items _ c.turned.turned.items c.pop.new.self.items c.in-Some.c
      (last_within (length c.turned.flags.items) c.turned.turned.items c.pop.new.self.items c.in-Some.c c.in-Some.ensures.items c.turned.invariant.within)
      c.in-Some.ensures.items (c.turned.invariant.back start h)
      (ap (λ (b : Bool). slice_set c.turned.flags.items c.in-Some.c (not b)) (c.is_set-was.ensures ∙ ap (λ (l : List Bool). is_set l c.in-Some.c) c.deref.ensures.value));
}
