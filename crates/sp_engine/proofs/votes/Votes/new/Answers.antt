use Rattle.std.proofs.Common.{◌∙◌, ap, List, [], ◌∷◌, ◌++◌}
use Rattle.sp_view.specs.Views.{Viewed}
use Rattle.sp_engine.proofs.Beginning.{joined_none}
use Rattle.sp_engine.proofs.votes.Votes.new.Goals as goal

pub returns-clause-joining : goal.returns-clause-joining
returns-clause-joining c = λ table order single.
    joined_none table order single c.new.result c.new-2.result c.push.new.self.items c.new-3.result c.new.ensures c.new-2.ensures.rows
    (c.in_ok-push.ensures.items ∙ ap (λ (l : List Viewed). l ++ c.empty.result ∷ []) c.new-views.ensures.items ∙ ap (λ (v : Viewed). v ∷ []) c.empty.ensures) c.new-3.ensures
