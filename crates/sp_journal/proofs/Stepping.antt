-- What is read of a journal's records from step to step.
use Rattle.std.proofs.Common.{◌≡◌, inl, inr, ℕ, true, List, [], length, map, drop, Option, Some, None, refl, sym, ap, subst, ◌∙◌, arith}
use Rattle.std.specs.Prelude.{fold, IfSome}
use Rattle.sp_form.specs.Turns.{InTurn}
use Rattle.sp_block.specs.Block.{ReadBlock}
use Rattle.sp_journal.specs.Records.{Faulty, is_shut, rows, Sound}
use Rattle.sp_journal.specs.Recovery.{bytes_in, EndsAt, id_behind, IsGood, IsGoodRow, IsRowOf}
use Rattle.sp_journal.specs.Stepping.{IsFaultyAt, IsRead, IsStep, Joins}
use Rattle.sp_journal.specs.declared.row.Row.{Row}
use Rattle.sp_journal.specs.declared.row.Row.TheVariants.{End, Faulty as Bad, Next}
use Rattle.sp_journal.specs.declared.step.Step.TheVariants.{End as Ended}
use Rattle.sp_journal.proofs.Added.{push_in_turn}
use Rattle.sp_journal.proofs.Looking.{known_more, so_far_bad, so_far_next}
use Rattle.sp_journal.proofs.Recovered.{IsSoFar, so_far_end, so_far_first, so_far_full}
use Rattle.sp_journal.proofs.Windows.{ends_more, if_some, if_some2}

-- these blocks and ids were read, up to a place
pub record AreRead (reads : Option (List ℕ)) (bits : ℕ) (first : List ℕ) (start : ℕ) (blocks : List ReadBlock) (ids : List ℕ) (at : ℕ) : Type 0 where
  pub so_far : IfSome reads (λ bytes. IsSoFar bits first start (drop start bytes) blocks ids at (drop at bytes))
  pub ends : EndsAt start blocks at
  pub good : InTurn (IsGood bits) id_behind first blocks
  pub known : ids ≡ fold id_behind first blocks

each_some : {X : Type 0} (P : X → Type 0) (r : Option X) → ((x : X) → P x) → IfSome r P
each_some P None f = tt
each_some P (Some x) f = f x

module _ (reads : Option (List ℕ)) (bits : ℕ) (first : List ℕ) (start : ℕ) (blocks : List ReadBlock) (ids : List ℕ) where
  pub read_first : blocks ≡ [] → ids ≡ first → AreRead reads bits first start blocks ids start
  read_first none one =
      let none_are : AreRead reads bits first start [] first start = record {
        so_far = each_some (λ bytes. IsSoFar bits first start (drop start bytes) [] first start (drop start bytes)) reads (λ bytes. so_far_first bits first start (drop start bytes) [] first refl refl);
        ends = record { few = omega arith; place = omega arith; bound = omega arith };
        good = tt;
        known = refl;
      } in
      subst (λ (b : List ReadBlock). AreRead reads bits first start b ids start) (sym none) (subst (λ (l : List ℕ). AreRead reads bits first start [] l start) (sym one) none_are)

  module _ (at : ℕ) (now : Option (List ℕ)) (same : now ≡ reads) (are : AreRead reads bits first start blocks ids at) where
    pub read_more : (blocks' : List ReadBlock) (ids' : List ℕ) (next : ℕ) → IsRead now bits blocks ids at blocks' ids' next → AreRead reads bits first start blocks' ids' next
    read_more blocks' ids' next one =
        let joins = one.joins in
        let here = subst (λ (o : Option (List ℕ)). IfSome o (λ bytes. IsRowOf bits ids (drop at bytes) (Next one.block))) same one.found in
        let good = subst (λ (l : List ℕ). IsGood bits l one.block) are.known one.good in
        record {
          so_far = if_some2 (λ bytes. IsSoFar bits first start (drop start bytes) blocks ids at (drop at bytes)) (λ bytes. IsRowOf bits ids (drop at bytes) (Next one.block)) _ reads
              (λ bytes so_far found. so_far_next bits first start bytes blocks ids at so_far one.block joins.room found joins.id blocks' ids' next joins.pushed joins.noted joins.moved) are.so_far here;
          ends = ends_more start blocks blocks' one.block at next joins.room one.good.short are.ends joins.pushed joins.moved;
          good = subst (InTurn (IsGood bits) id_behind first) (sym joins.pushed) (push_in_turn (IsGood bits) id_behind first blocks one.block are.good good);
          known = known_more first blocks blocks' ids ids' one.block are.known joins.pushed joins.noted;
        }

    pub read_end : IfSome now (λ bytes. IsRowOf bits ids (drop at bytes) End) → (blocks' : List ReadBlock) → blocks' ≡ blocks → IfSome reads (λ bytes. rows 511 bits first start (drop start bytes) ≡ Sound (map bytes_in blocks'))
    read_end shut blocks' all =
        let here = subst (λ (o : Option (List ℕ)). IfSome o (λ bytes. is_shut (drop at bytes) ≡ true)) same shut in
        if_some2 (λ bytes. IsSoFar bits first start (drop start bytes) blocks ids at (drop at bytes)) (λ bytes. is_shut (drop at bytes) ≡ true) _ reads
        (λ bytes so_far e. so_far_end bits first start (drop start bytes) blocks ids at (drop at bytes) so_far e ∙ ap (λ (b : List ReadBlock). Sound (map bytes_in b)) (sym all)) are.so_far here

    pub read_faulty : IfSome now (λ bytes. IsFaultyAt bits blocks ids (drop at bytes)) → IfSome reads (λ bytes. rows 511 bits first start (drop start bytes) ≡ Faulty at)
    read_faulty bad =
        let here = subst (λ (o : Option (List ℕ)). IfSome o (λ bytes. IsFaultyAt bits blocks ids (drop at bytes))) same bad in
        if_some2 (λ bytes. IsSoFar bits first start (drop start bytes) blocks ids at (drop at bytes)) (λ bytes. IsFaultyAt bits blocks ids (drop at bytes)) _ reads
        (λ bytes so_far b. faulty (drop start bytes) (drop at bytes) so_far b) are.so_far here
      where
        faulty : (all list : List ℕ) → IsSoFar bits first start all blocks ids at list → IsFaultyAt bits blocks ids list → rows 511 bits first start all ≡ Faulty at
        faulty all list so_far (here, inl full) = so_far_full bits first start all blocks ids at list so_far full here
        faulty all list so_far (here, inr bad) = so_far_bad bits first start all blocks ids at list so_far (here, bad)

-- what stands behind a place says what the step comes to
module _ (reads : Option (List ℕ)) (bits : ℕ) (blocks : List ReadBlock) (ids : List ℕ) (at : ℕ) (row : Row) (found : IfSome reads (λ bytes. IsRowOf bits ids (drop at bytes) row)) where
  here : (x : Row) → row ≡ x → IfSome reads (λ bytes. IsRowOf bits ids (drop at bytes) x)
  here x is = subst (λ (r : Row). IfSome reads (λ bytes. IsRowOf bits ids (drop at bytes) r)) is found

  pub step_end : row ≡ End → IsStep reads bits blocks ids at blocks ids Ended
  step_end is = (here End is, refl)

  pub step_faulty : row ≡ Bad → IfSome reads (λ bytes. IsFaultyAt bits blocks ids (drop at bytes))
  step_faulty is =
      if_some (λ bytes. IsRowOf bits ids (drop at bytes) Bad) (λ bytes. IsFaultyAt bits blocks ids (drop at bytes)) reads (λ bytes e bad. (bad.0, inr bad.1)) (here Bad is)

  pub step_full : (block : ReadBlock) → row ≡ Next block → length blocks ≡ 511 → IfSome reads (λ bytes. IsFaultyAt bits blocks ids (drop at bytes))
  step_full block is full =
      if_some (λ bytes. IsRowOf bits ids (drop at bytes) (Next block)) (λ bytes. IsFaultyAt bits blocks ids (drop at bytes)) reads (λ bytes e next. (next.0, inl full)) (here (Next block) is)

  pub step_on : (block : ReadBlock) → row ≡ Next block → IsGoodRow bits ids row → (blocks' : List ReadBlock) (ids' : List ℕ) (next : ℕ) → Joins blocks ids at block blocks' ids' next → IsRead reads bits blocks ids at blocks' ids' next
  step_on block is good blocks' ids' next joins = record {
    block = block;
    found = here (Next block) is;
    good = subst (IsGoodRow bits ids) is good;
    joins = joins;
  }
