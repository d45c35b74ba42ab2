use Rattle.std.proofs.Common.{inl, inr, ⊎_elim, List, ℕ, sym, ap, subst, ◌∙◌, arith}
use Rattle.sp_ids.specs.Bits.{BeginsWithZeros}
use Rattle.sp_block.specs.Block.{IsOther, ReadBlock}
use Rattle.sp_disk.proofs.Runs.{weaker}
use Rattle.sp_journal.specs.Journal.{Contents, ids_of as journal_ids, with_block}
use Rattle.sp_journal.specs.Judged.{has}
use Rattle.sp_journal.specs.Records.{Found}
use Rattle.sp_journal.specs.Writer.{HoldsOrAdded, Stands}
use Rattle.sp_journal.proofs.Appended.{by_test}
use Rattle.sp_pool.specs.Kept.{ids_of}
use Rattle.sp_engine.specs.Arrivals.{kept_after}
use Rattle.sp_node.specs.Journalled.{HoldsBeforeOrAfter, journal_in}
use Rattle.sp_node.specs.Terms.{Terms, terms_in}
use Rattle.sp_node.proofs.Started.{same_terms}
use Rattle.sp_report.proofs.Arrived.{Changes, told_changes, told_joins}
use Rattle.sp_node.proofs.Changes.{fits_more, fits_same, found_now, has_room, ids_known, is_new, is_other, looked_up, not_missing, now_holds, one_contents, work}
use Rattle.sp_node.proofs.arrival.keep.Goals as goal

pub returns-in_default-clause-acknowledged : goal.returns-in_default-clause-acknowledged
returns-in_default-clause-acknowledged g c told =
    let bits = c.args.engine.now.bits in
    let terms = terms_in c.args.engine.now in
    let kept = c.args.engine.now.kept in
    let bytes = c.args.bytes.now in
    let change = told_changes bits kept bytes _ _ c.kept_id.ensures c.in_ok-answer.ensures.answer in
    let same = c.in_ok-answer.ensures.kept ∙ subst (Changes bits kept bytes) c.in_default.is change in
    subst (λ (k : List ReadBlock). Stands c.args.journal.now (journal_in (terms_in c.offer.new.self) k) (g.D.Disk.now c.args.disk.now)) (sym same)
    (subst (λ (t : Terms). Stands c.args.journal.now (journal_in t kept) (g.D.Disk.now c.args.disk.now)) (sym (same_terms c.in_ok-answer.ensures.profile c.offer.ensures.bits)) (c.requires.stands told))

pub unreachable-requires : goal.unreachable-requires
unreachable-requires g c =
    let bits = c.args.engine.now.bits in
    let terms = terms_in c.args.engine.now in
    let kept = c.args.engine.now.kept in
    let bytes = c.args.bytes.now in
    let joins = told_joins bits kept bytes _ _ c.in-Some.id c.kept_id.ensures c.in_ok-answer.ensures.answer c.in-Some.is in
    let are = c.kept_count-before.ensures.blocks in
    let copied = found_now bits kept bytes c.in-Some.id are joins _ c.block.result c.block.ensures c.in_ok-answer.ensures.kept in
    absurd (not_missing c.block.result joins.block c.in_default-block.is copied)

pub append-requires-clause-room : goal.append-requires-clause-room
append-requires-clause-room g c =
    let bits = c.args.engine.now.bits in
    let terms = terms_in c.args.engine.now in
    let kept = c.args.engine.now.kept in
    let bytes = c.args.bytes.now in
    let joins = told_joins bits kept bytes _ _ c.in-Some.id c.kept_id.ensures c.in_ok-answer.ensures.answer c.in-Some.is in
    let are = c.kept_count-before.ensures.blocks in
    let copied = found_now bits kept bytes c.in-Some.id are joins _ c.block.result c.block.ensures c.in_ok-answer.ensures.kept in
    omega (arith, c.requires.fits.count, has_room bits kept bytes c.in-Some.id are joins)

pub append-requires-clause-other : goal.append-requires-clause-other
append-requires-clause-other g c =
    let bits = c.args.engine.now.bits in
    let terms = terms_in c.args.engine.now in
    let kept = c.args.engine.now.kept in
    let bytes = c.args.bytes.now in
    let joins = told_joins bits kept bytes _ _ c.in-Some.id c.kept_id.ensures c.in_ok-answer.ensures.answer c.in-Some.is in
    let are = c.kept_count-before.ensures.blocks in
    let copied = found_now bits kept bytes c.in-Some.id are joins _ c.block.result c.block.ensures c.in_ok-answer.ensures.kept in
    let is = looked_up c.block.result c.in-Some-block.block joins.block c.in-Some-block.is copied in
    subst IsOther (sym is) (is_other bits kept bytes c.in-Some.id are joins)

pub append-requires-clause-work : goal.append-requires-clause-work
append-requires-clause-work g c =
    let bits = c.args.engine.now.bits in
    let terms = terms_in c.args.engine.now in
    let kept = c.args.engine.now.kept in
    let bytes = c.args.bytes.now in
    let joins = told_joins bits kept bytes _ _ c.in-Some.id c.kept_id.ensures c.in_ok-answer.ensures.answer c.in-Some.is in
    let are = c.kept_count-before.ensures.blocks in
    let copied = found_now bits kept bytes c.in-Some.id are joins _ c.block.result c.block.ensures c.in_ok-answer.ensures.kept in
    let is = looked_up c.block.result c.in-Some-block.block joins.block c.in-Some-block.is copied in
    subst (λ (b : ℕ). BeginsWithZeros c.in-Some-block.block.now.id b) (sym c.requires.fits.work)
    (subst (λ (b : ReadBlock). BeginsWithZeros b.id bits) (sym is) (work bits kept bytes c.in-Some.id are joins))

pub append-requires-clause-fresh : goal.append-requires-clause-fresh
append-requires-clause-fresh g c live contents stands =
    let bits = c.args.engine.now.bits in
    let terms = terms_in c.args.engine.now in
    let kept = c.args.engine.now.kept in
    let bytes = c.args.bytes.now in
    let joins = told_joins bits kept bytes _ _ c.in-Some.id c.kept_id.ensures c.in_ok-answer.ensures.answer c.in-Some.is in
    let are = c.kept_count-before.ensures.blocks in
    let copied = found_now bits kept bytes c.in-Some.id are joins _ c.block.result c.block.ensures c.in_ok-answer.ensures.kept in
    let is = looked_up c.block.result c.in-Some-block.block joins.block c.in-Some-block.is copied in
    let one = one_contents c.args.journal.now contents (journal_in terms kept) (g.D.Disk.now c.args.disk.now) (g.met.D.Disk.is_moment c.args.disk.now) stands (c.requires.stands stands.told) in
    ap (λ (d : Contents). has (journal_ids d) c.in-Some-block.block.now.id) one ∙ ap (λ (ids : List ℕ). has ids c.in-Some-block.block.now.id) (ids_known bits kept bytes c.in-Some.id are joins terms.profile)
    ∙ ap (λ (b : ReadBlock). has (ids_of kept) b.id) is ∙ is_new bits kept bytes c.in-Some.id are joins

pub returns-then-is_err-clause-any_moment : goal.returns-then-is_err-clause-any_moment
returns-then-is_err-clause-any_moment g c told =
    let bits = c.args.engine.now.bits in
    let terms = terms_in c.args.engine.now in
    let kept = c.args.engine.now.kept in
    let bytes = c.args.bytes.now in
    let joins = told_joins bits kept bytes _ _ c.in-Some.id c.kept_id.ensures c.in_ok-answer.ensures.answer c.in-Some.is in
    let are = c.kept_count-before.ensures.blocks in
    let copied = found_now bits kept bytes c.in-Some.id are joins _ c.block.result c.block.ensures c.in_ok-answer.ensures.kept in
    let is = looked_up c.block.result c.in-Some-block.block joins.block c.in-Some-block.is copied in
    let now = now_holds bits kept bytes c.in-Some.id are joins terms.profile ∙ ap (λ (b : ReadBlock). with_block (journal_in terms kept) b.bytes) (sym is) in
    let run = c.append.ensures.any_moment c.requires.fits.live (journal_in terms kept) (c.requires.stands told) in
    weaker (g.D.Disk.now c.args.disk.now) (g.D.Disk.now c.append.new.disk) (HoldsOrAdded (journal_in terms kept) c.in-Some-block.block.now.bytes) (HoldsBeforeOrAfter terms kept bytes) run
    (λ image held. ⊎_elim (λ before. inl before) (λ added. inr (added ∙ ap Found (sym now))) held)

pub returns-clause-any_moment : goal.returns-clause-any_moment
returns-clause-any_moment g c told =
    let bits = c.args.engine.now.bits in
    let terms = terms_in c.args.engine.now in
    let kept = c.args.engine.now.kept in
    let bytes = c.args.bytes.now in
    let joins = told_joins bits kept bytes _ _ c.in-Some.id c.kept_id.ensures c.in_ok-answer.ensures.answer c.in-Some.is in
    let are = c.kept_count-before.ensures.blocks in
    let copied = found_now bits kept bytes c.in-Some.id are joins _ c.block.result c.block.ensures c.in_ok-answer.ensures.kept in
    let is = looked_up c.block.result c.in-Some-block.block joins.block c.in-Some-block.is copied in
    let now = now_holds bits kept bytes c.in-Some.id are joins terms.profile ∙ ap (λ (b : ReadBlock). with_block (journal_in terms kept) b.bytes) (sym is) in
    let run = c.append.ensures.any_moment c.requires.fits.live (journal_in terms kept) (c.requires.stands told) in
    weaker (g.D.Disk.now c.args.disk.now) (g.D.Disk.now c.append.new.disk) (HoldsOrAdded (journal_in terms kept) c.in-Some-block.block.now.bytes) (HoldsBeforeOrAfter terms kept bytes) run
    (λ image held. ⊎_elim (λ before. inl before) (λ added. inr (added ∙ ap Found (sym now))) held)

pub returns-clause-acknowledged : goal.returns-clause-acknowledged
returns-clause-acknowledged g c told =
    let bits = c.args.engine.now.bits in
    let terms = terms_in c.args.engine.now in
    let kept = c.args.engine.now.kept in
    let bytes = c.args.bytes.now in
    let joins = told_joins bits kept bytes _ _ c.in-Some.id c.kept_id.ensures c.in_ok-answer.ensures.answer c.in-Some.is in
    let are = c.kept_count-before.ensures.blocks in
    let copied = found_now bits kept bytes c.in-Some.id are joins _ c.block.result c.block.ensures c.in_ok-answer.ensures.kept in
    let is = looked_up c.block.result c.in-Some-block.block joins.block c.in-Some-block.is copied in
    let now = now_holds bits kept bytes c.in-Some.id are joins terms.profile ∙ ap (λ (b : ReadBlock). with_block (journal_in terms kept) b.bytes) (sym is) in
    let all = by_test c.append.result c.if-is_err.ensures.value c.append.ensures.acknowledged (journal_in terms kept) (c.requires.stands told) in
    let held = subst (λ (d : Contents). Stands c.append.new.self d (g.D.Disk.now c.append.new.disk)) (sym now) all in
    subst (λ (k : List ReadBlock). Stands c.append.new.self (journal_in (terms_in c.offer.new.self) k) (g.D.Disk.now c.append.new.disk)) (sym c.in_ok-answer.ensures.kept)
    (subst (λ (t : Terms). Stands c.append.new.self (journal_in t (kept_after bits kept bytes)) (g.D.Disk.now c.append.new.disk)) (sym (same_terms c.in_ok-answer.ensures.profile c.offer.ensures.bits)) held)

pub returns-in_default-clause-fits : goal.returns-in_default-clause-fits
returns-in_default-clause-fits g c =
    let bits = c.args.engine.now.bits in
    let terms = terms_in c.args.engine.now in
    let kept = c.args.engine.now.kept in
    let bytes = c.args.bytes.now in
    let change = told_changes bits kept bytes _ _ c.kept_id.ensures c.in_ok-answer.ensures.answer in
    let same = c.in_ok-answer.ensures.kept ∙ subst (Changes bits kept bytes) c.in_default.is change in
    fits_same terms (terms_in c.offer.new.self) kept c.offer.new.self.kept c.args.journal.now (same_terms c.in_ok-answer.ensures.profile c.offer.ensures.bits) same c.requires.fits

pub returns-clause-fits : goal.returns-clause-fits
returns-clause-fits g c =
    let bits = c.args.engine.now.bits in
    let terms = terms_in c.args.engine.now in
    let kept = c.args.engine.now.kept in
    let bytes = c.args.bytes.now in
    let joins = told_joins bits kept bytes _ _ c.in-Some.id c.kept_id.ensures c.in_ok-answer.ensures.answer c.in-Some.is in
    let is = by_test c.append.result c.if-is_err.ensures.value c.append.ensures.ok in
    fits_same terms (terms_in c.offer.new.self) (kept_after bits kept bytes) c.offer.new.self.kept c.append.new.self (same_terms c.in_ok-answer.ensures.profile c.offer.ensures.bits) c.in_ok-answer.ensures.kept
    (fits_more terms kept bytes c.in-Some-block.block.now.bytes c.in-Some.id c.args.journal.now c.append.new.self c.requires.fits joins is)
