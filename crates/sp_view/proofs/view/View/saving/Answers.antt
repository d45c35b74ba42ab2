use Rattle.std.proofs.Common.{◌≡◌, ◌∙◌, ℕ, List, None, Option, Result, Ok, Err, length, ap, arith}
use Rattle.std.specs.Prelude.{IfOk}
use Rattle.sp_view.specs.Saved.{patched}
use Rattle.sp_view.specs.Views.{entry_at, Viewed}
use Rattle.sp_view.proofs.Patched.{patched_none}
use Rattle.sp_view.proofs.view.View.saving.Goals as goal

none_saved : {E : Type 0} (made : Result (List (Option (ℕ × ℕ))) E) (entries : List (Option (ℕ × ℕ))) (n : ℕ) → n ≡ length entries → IfOk made (λ saved. length saved ≡ n) → IfOk made (λ saved. (i : ℕ) → entry_at saved i ≡ None)
    → IfOk made (λ saved. patched saved entries ≡ entries)
none_saved (Ok saved) entries n all long none = patched_none saved entries (long ∙ all) none
none_saved (Err refused) entries n all long none = tt

pub returns-clause-same : goal.returns-clause-same
returns-clause-same c =
    none_saved c.of.result c.args.self.now.entries c.len.result (let e : c.len.result ≡ length c.args.self.now.entries = omega (arith, c.len.ensures, c.self.inside.entries.ok.0, ap (λ (v : Viewed). length v.entries) c.self.view_is) in e)
    c.of.ensures.long c.of.ensures.none
