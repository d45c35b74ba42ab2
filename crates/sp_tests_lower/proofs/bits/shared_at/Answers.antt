use Rattle.std.proofs.Common.{◌≡◌, ◌∙◌, ◌||◌, Bool, ℕ, List, ap, arith, eqb, sym, true}
use Rattle.std.proofs.lemmas.Bool.{eqb-true}
use Rattle.sp_bits.specs.Places.{has, places_where}
use Rattle.sp_bits.specs.Members.{has-places_where}
use Rattle.sp_bits.proofs.Counts.{has-small}
use Rattle.sp_tests_lower.proofs.bits.shared_at.Goals as goal

pub count_span-requires : goal.count_span-requires
count_span-requires c = record {
  within = λ p h.
      let test : ℕ → Bool = λ k. has c.empty-row.result k || eqb k c.args.place in
      let there : has (places_where test) p ≡ true = ap (λ (l : List ℕ). has l p) (sym c.set.ensures) ∙ h in
      let one : (has c.empty-row.result p || eqb p c.args.place) ≡ true = sym (has-places_where test p (has-small test p there)) ∙ there in
      let same : p ≡ c.args.place = eqb-true p c.args.place (ap (λ (l : List ℕ). has l p || eqb p c.args.place) (sym c.empty-row.ensures) ∙ one) in
      (omega (arith, same), omega (arith, same));
}
