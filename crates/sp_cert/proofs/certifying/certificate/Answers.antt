use Rattle.std.proofs.Common.{◌≡◌, ◌<◌, ◌∙◌, ap, sym, subst, get_or, length, List, ℕ, [], rules, FitsSigned, to_z, of_z}
use Rattle.std.proofs.lemmas.Int.{to_z-of_z}
use Rattle.std.specs.Int.{w8}
use Rattle.std.specs.Prelude.{All}
use Rattle.sp_dag.specs.Numbered.{graph_of, number_of}
use Rattle.sp_model.specs.Votes.{sgn}
use Rattle.sp_model.specs.declared.profile.Profile.{Profile}
use Rattle.sp_cert.specs.Refusals.{numbered_of}
use Rattle.sp_cert.specs.Certificate.{AreVotes, Certificate, Entries}
use Rattle.sp_cert.specs.Entries.{sum_of}
use Rattle.sp_cert.proofs.Causes.{have_blocks}
use Rattle.sp_cert.proofs.Certified.{is_certificate, nothing_refuses, numbers_fit, numbers_stand, told_votes}
use Rattle.sp_cert.proofs.Determined.{worlds_are}
use Rattle.sp_cert.proofs.Shown.{shown}
use Rattle.sp_cert.specs.Made.{told_worlds}
use Rattle.sp_cert.proofs.certifying.certificate.Goals as goal

pub first_sign-sign-requires-clause-votes : goal.first_sign-sign-requires-clause-votes
first_sign-sign-requires-clause-votes c =
    let table = c.args.dag.now in
    let n = c.len-blocks.ensures.numbered in (
      length table.parents,
      n.small,
      subst (λ (l : List Entries). All (AreVotes (length table.parents)) l) (sym c.deref.ensures.value)
          (told_votes table n.order n.small c.in-Some.first c.in-Some.second c.in_ok-worlds.worlds.items c.in_ok-worlds.ensures.told),
    )

pub invariant_of-result : goal.invariant_of-result
invariant_of-result c =
    let d : Entries = record { number = 0; votes = [] } in
    let table = c.args.dag.now in
    let n = c.len-blocks.ensures.numbered in
    let x = c.in-Some.first in
    let y = c.in-Some.second in
    let worlds = c.in_ok-worlds.worlds.items in
    let f : FitsSigned w8 c.first_sign-sign.result = search rules in
    let votes = told_votes table n.order n.small x y worlds c.in_ok-worlds.ensures.told in
    let sign : to_z w8 (of_z w8 c.first_sign-sign.result) ≡ sgn (sum_of (graph_of table) (get_or worlds 0 d)) =
    to_z-of_z w8 c.first_sign-sign.result f
    ∙ c.first_sign-sign.ensures table (subst (λ (l : List Entries). All (AreVotes (length table.parents)) l) (sym c.deref.ensures.value) votes) d
    ∙ ap (λ (l : List Entries). sgn (sum_of (graph_of table) (get_or l 0 d))) c.deref.ensures.value in
    let cert : Certificate = record { profile = c.profile.result; blocks = c.of.result; x = c.args.x.now; y = c.args.y.now; sign = to_z w8 (of_z w8 c.first_sign-sign.result); worlds = c.of-2.result } in
    is_certificate cert c.args.dag.now c.args.blocks.items worlds x y (sum_of (graph_of table) (get_or worlds 0 d)) c.of.ensures c.of-2.ensures
    (c.requires.numbered ∙ ap (λ (p : Profile). numbered_of p c.args.blocks.items) (sym c.profile.ensures)) c.requires.placed c.requires.listed c.in_ok-worlds.ensures.numbers c.in_ok-worlds.ensures.told sign

pub returns-clause-is : goal.returns-clause-is
returns-clause-is c =
    let d : Entries = record { number = 0; votes = [] } in
    let table = c.args.dag.now in
    let n = c.len-blocks.ensures.numbered in
    let x = c.in-Some.first in
    let y = c.in-Some.second in
    let worlds = c.in_ok-worlds.worlds.items in
    let f : FitsSigned w8 c.first_sign-sign.result = search rules in
    let votes = told_votes table n.order n.small x y worlds c.in_ok-worlds.ensures.told in
    let sign : to_z w8 (of_z w8 c.first_sign-sign.result) ≡ sgn (sum_of (graph_of table) (get_or worlds 0 d)) =
    to_z-of_z w8 c.first_sign-sign.result f
    ∙ c.first_sign-sign.ensures table (subst (λ (l : List Entries). All (AreVotes (length table.parents)) l) (sym c.deref.ensures.value) votes) d
    ∙ ap (λ (l : List Entries). sgn (sum_of (graph_of table) (get_or l 0 d))) c.deref.ensures.value in
    let cert : Certificate = record { profile = c.profile.result; blocks = c.of.result; x = c.args.x.now; y = c.args.y.now; sign = to_z w8 (of_z w8 c.first_sign-sign.result); worlds = c.of-2.result } in
    is_certificate cert c.args.dag.now c.args.blocks.items worlds x y (sum_of (graph_of table) (get_or worlds 0 d)) c.of.ensures c.of-2.ensures
    (c.requires.numbered ∙ ap (λ (p : Profile). numbered_of p c.args.blocks.items) (sym c.profile.ensures)) c.requires.placed c.requires.listed c.in_ok-worlds.ensures.numbers c.in_ok-worlds.ensures.told sign

pub returns-clause-numbers : goal.returns-clause-numbers
returns-clause-numbers c =
    let table = c.args.dag.now in
    let n = c.len-blocks.ensures.numbered in
    let x = c.in-Some.first in
    let y = c.in-Some.second in
    let worlds = c.in_ok-worlds.worlds.items in
    subst (λ (l : List Entries). All (λ (w : Entries). w.number < 65536) l) (sym c.of-2.ensures)
    (numbers_fit (length table.parents) worlds n.small (have_blocks table worlds x y (numbers_stand table worlds x y c.in_ok-worlds.ensures.numbers)))

pub returns-clause-stands : goal.returns-clause-stands
returns-clause-stands c =
    let d : Entries = record { number = 0; votes = [] } in
    let table = c.args.dag.now in
    let n = c.len-blocks.ensures.numbered in
    let x = c.in-Some.first in
    let y = c.in-Some.second in
    let worlds = c.in_ok-worlds.worlds.items in
    let f : FitsSigned w8 c.first_sign-sign.result = search rules in
    let votes = told_votes table n.order n.small x y worlds c.in_ok-worlds.ensures.told in
    let sign : to_z w8 (of_z w8 c.first_sign-sign.result) ≡ sgn (sum_of (graph_of table) (get_or worlds 0 d)) =
    to_z-of_z w8 c.first_sign-sign.result f
    ∙ c.first_sign-sign.ensures table (subst (λ (l : List Entries). All (AreVotes (length table.parents)) l) (sym c.deref.ensures.value) votes) d
    ∙ ap (λ (l : List Entries). sgn (sum_of (graph_of table) (get_or l 0 d))) c.deref.ensures.value in
    let cert : Certificate = record { profile = c.profile.result; blocks = c.of.result; x = c.args.x.now; y = c.args.y.now; sign = to_z w8 (of_z w8 c.first_sign-sign.result); worlds = c.of-2.result } in
    nothing_refuses cert c.args.dag.now c.args.blocks.items worlds x y d (sym c.of.ensures) (sym c.of-2.ensures)
    (c.requires.numbered ∙ ap (λ (p : Profile). numbered_of p c.args.blocks.items) (sym c.profile.ensures)) c.requires.placed c.requires.listed.few c.in-Some.ensures.two c.in-Some.ensures.some.0 c.in-Some.ensures.some.1
    c.in_ok-worlds.ensures.numbers c.in_ok-worlds.ensures.told sign

pub returns-clause-worlds : goal.returns-clause-worlds
returns-clause-worlds c =
    let table = c.args.dag.now in
    let x = c.in-Some.first in
    let y = c.in-Some.second in
    c.of-2.ensures ∙ worlds_are table x y c.in_ok-worlds.worlds.items c.in_ok-worlds.ensures.numbers c.in_ok-worlds.ensures.told
    ∙ ap (λ (k : ℕ). told_worlds (graph_of table) k y) c.in-Some.ensures.some.0
    ∙ ap (λ (k : ℕ). told_worlds (graph_of table) (number_of table.ids c.args.x.now) k) c.in-Some.ensures.some.1

pub returns-clause-shown : goal.returns-clause-shown
returns-clause-shown c =
    let d : Entries = record { number = 0; votes = [] } in
    let table = c.args.dag.now in
    let n = c.len-blocks.ensures.numbered in
    let x = c.in-Some.first in
    let y = c.in-Some.second in
    let worlds = c.in_ok-worlds.worlds.items in
    let f : FitsSigned w8 c.first_sign-sign.result = search rules in
    let votes = told_votes table n.order n.small x y worlds c.in_ok-worlds.ensures.told in
    let sign : to_z w8 (of_z w8 c.first_sign-sign.result) ≡ sgn (sum_of (graph_of table) (get_or worlds 0 d)) =
    to_z-of_z w8 c.first_sign-sign.result f
    ∙ c.first_sign-sign.ensures table (subst (λ (l : List Entries). All (AreVotes (length table.parents)) l) (sym c.deref.ensures.value) votes) d
    ∙ ap (λ (l : List Entries). sgn (sum_of (graph_of table) (get_or l 0 d))) c.deref.ensures.value in
    let cert : Certificate = record { profile = c.profile.result; blocks = c.of.result; x = c.args.x.now; y = c.args.y.now; sign = to_z w8 (of_z w8 c.first_sign-sign.result); worlds = c.of-2.result } in
    shown cert
    (is_certificate cert c.args.dag.now c.args.blocks.items worlds x y (sum_of (graph_of table) (get_or worlds 0 d)) c.of.ensures c.of-2.ensures
    (c.requires.numbered ∙ ap (λ (p : Profile). numbered_of p c.args.blocks.items) (sym c.profile.ensures)) c.requires.placed c.requires.listed c.in_ok-worlds.ensures.numbers c.in_ok-worlds.ensures.told sign)
    (nothing_refuses cert c.args.dag.now c.args.blocks.items worlds x y d (sym c.of.ensures) (sym c.of-2.ensures)
    (c.requires.numbered ∙ ap (λ (p : Profile). numbered_of p c.args.blocks.items) (sym c.profile.ensures)) c.requires.placed c.requires.listed.few c.in-Some.ensures.two c.in-Some.ensures.some.0 c.in-Some.ensures.some.1
    c.in_ok-worlds.ensures.numbers c.in_ok-worlds.ensures.told sign)
