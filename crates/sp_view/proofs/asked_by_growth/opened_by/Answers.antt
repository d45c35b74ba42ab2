use Rattle.std.proofs.Common.{◌≡◌, ◌∙◌, List, ℕ, [], true, ap, sym}
use Rattle.std.proofs.lemmas.Bool.{false≢true, and_from}
use Rattle.sp_model.specs.Graph.{has}
use Rattle.sp_view.proofs.Opening.{left_from, left_there, meet_from, meet_there}
use Rattle.sp_view.proofs.asked_by_growth.opened_by.Goals as goal

pub returns-then-is_none-clause-covers : goal.returns-then-is_none-clause-covers
returns-then-is_none-clause-covers c = λ b z new voter r free out.
    left_there c.args.loose.now c.row_at.result c.without.new.self z (c.requires.small z) c.without.ensures free (ap (λ (l : List ℕ). has l z) c.row_at.ensures ∙ out)

pub returns-then-is_none-clause-within : goal.returns-then-is_none-clause-within
returns-then-is_none-clause-within c = λ z h. left_from c.args.loose.now c.row_at.result c.without.new.self z (c.requires.small z) c.without.ensures h

pub returns-then-is_none-clause-only : goal.returns-then-is_none-clause-only
returns-then-is_none-clause-only c = λ z h.
    let none : c.without.new.self ≡ [] = c.is_none.ensures.0 c.if-is_none.true in
    absurd (false≢true (ap (λ (l : List ℕ). has l z) (sym none) ∙ h))

pub returns-then-is_none-2-clause-covers : goal.returns-then-is_none-2-clause-covers
returns-then-is_none-2-clause-covers c = λ b z new voter r free out.
    let none : c.voting_for-joining.result ≡ [] = c.is_none-2.ensures.0 c.if-is_none-2.true in
    absurd (false≢true (ap (λ (l : List ℕ). has l b) (sym none) ∙ c.voting_for-joining.ensures.all b new voter))

pub returns-then-is_none-2-clause-within : goal.returns-then-is_none-2-clause-within
returns-then-is_none-2-clause-within c = λ z h.
    let none : c.voting_for-joining.result ≡ [] = c.is_none-2.ensures.0 c.if-is_none-2.true in
    absurd (false≢true (ap (λ (l : List ℕ). has l z) (sym none) ∙ h))

pub returns-then-is_none-2-clause-only : goal.returns-then-is_none-2-clause-only
returns-then-is_none-2-clause-only c = λ z h.
    let none : c.voting_for-joining.result ≡ [] = c.is_none-2.ensures.0 c.if-is_none-2.true in
    absurd (false≢true (ap (λ (l : List ℕ). has l z) (sym none) ∙ h))

pub pasts_of-requires : goal.pasts_of-requires
pasts_of-requires c = λ b h. c.args.growth.now.grown.voting.below b (c.args.growth.now.growth.member b (c.voting_for-joining.ensures.only b h).0)

pub returns-clause-covers : goal.returns-clause-covers
returns-clause-covers c = λ b z new voter r free out.
    let left : has c.without.new.self z ≡ true = left_there c.args.loose.now c.row_at.result c.without.new.self z (c.requires.small z) c.without.ensures free (ap (λ (l : List ℕ). has l z) c.row_at.ensures ∙ out) in
    meet_there c.without.new.self c.pasts_of.result c.and_with.new.self z (λ _. c.requires.small z free) c.and_with.ensures left
    (c.pasts_of.ensures.covers b z (c.voting_for-joining.ensures.all b new voter) r)

pub returns-clause-within : goal.returns-clause-within
returns-clause-within c = λ z h.
    let from : has c.without.new.self z ≡ true → has c.args.loose.now z ≡ true = λ h. left_from c.args.loose.now c.row_at.result c.without.new.self z (c.requires.small z) c.without.ensures h in
    from (meet_from c.without.new.self c.pasts_of.result c.and_with.new.self z (λ h. c.requires.small z (from h)) c.and_with.ensures h).0

pub returns-clause-only : goal.returns-clause-only
returns-clause-only c = λ z h.
    let from : has c.without.new.self z ≡ true → has c.args.loose.now z ≡ true = λ h. left_from c.args.loose.now c.row_at.result c.without.new.self z (c.requires.small z) c.without.ensures h in
    let above = c.pasts_of.ensures.only z (meet_from c.without.new.self c.pasts_of.result c.and_with.new.self z (λ h. c.requires.small z (from h)) c.and_with.ensures h).1 in
    let casts = c.voting_for-joining.ensures.only above.0 above.1 in
    (above.0, and_from (has c.args.growth.now.blocks.now above.0) (has c.args.voters.now above.0) casts.0 casts.1, above.2)
