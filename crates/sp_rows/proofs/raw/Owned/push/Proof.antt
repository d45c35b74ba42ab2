-- `push` writes a word where the room begins. Assumes `Logic`.
use Rattle.std.proofs.Common.{◌≡◌, ℕ, ◌+◌, ◌-◌, ◌*◌, ◌<◌, [], ◌∷◌, ◌++◌, length, refl, sym, ◌∙◌, arith, suc, w64, length-append}
use Rattle.std.proofs.raw_atomic.Walks.{proved}
use Rattle.std.proofs.alloc.Shapes.{after}
use Rattle.std.proofs.RcSteps.{word, word-Good}
use base.Fraction.{full_share}
use base.Logic.{never, id⊢}
use base.Fml.{ftrue, fat, flft, froom}
use mir.Syntax.{named, ty_int}
use mir.Val.{vunit}
use contract.Monad.{fact}
use contract.Running.{tables}
use types.SemTy.{cells}
use types.Kit.{‵, raw, ◌⊛◌, at_ret, ◌$◌, ◌∵◌, !, qed, move, keep, use1, use2, split, join, group, rewrite, fsplit, fsplit3, fjoin, feq_i, suffices, frame, done}
use types.Part.{whole, sub}
use types.Run.{init, stop, fld, lit, unit_lit, of_opd, bin, assigns_last, first, blocks, exec, returns, enter}
use types.ByLocal.{alloc_all, pass_all, free_all, look_at, get, get_in, through, sets, env, take_at, give_at}
use denote.Builtin.{u64, usize}
use denote.Exit.{yes}
use denote.Memory.{mem, part_at}
use denote.Param.{layout}
use denote.Plain.{uint_vals, uint_Tells, uint_in}
use denote.RattleType.{owns}
use denote.RawPtr.{Ptr, in_a_block}
use denote.Ref.{MutRef, mut_vals, mut_Tells}
use denote.Signature.{plain}
use denote.Steps.{nothing, opens, closes, heard}
use denote.Triple.Walked.{Stays, walk_of, says, stay_dropped, Goes-dropped, stay_ref, Goes-ref, ends_at}
use Rattle.sp_rows.specs.Ownership.{words_own, words_of_type}
use Rattle.sp_rows.proofs.Memory.{more}
use Rattle.sp_rows.specs.contracts.raw.Owned.{the_row as R}
use Rattle.sp_rows.specs.contracts.raw.Start.{the_row as S}
use Rattle.sp_rows.proofs.raw.Start.TheLaws.{the_told as told}
use Rattle.sp_rows.specs.contracts.raw.Owned.push as f
use Rattle.sp_rows.proofs.raw.Owned.push.Statement.{statement}
use Rattle.sp_rows.proofs.raw.Owned.push.Code as code

abbrev stayed : Stays f.ended.signature.params f.ended.kept
stayed = (stay_ref (0 ∷ []) tt (plain (λ _. R)), (stay_dropped (plain (λ _. S)) yes, (stay_dropped (plain (λ _. usize)) yes, (stay_dropped (plain (λ _. u64)) yes, tt))))

pub push_spec : {M : Type 1} → statement M
push_spec 𝓤 𝓛 𝓜 𝓡 wired =
    let c = f.clauses 𝓛 𝓜.mem 𝓡.returns in let W = walk_of 𝓛 f.ended stayed c in let 𝓣 = tables 𝓤 𝓛.H 𝓜 𝓡 𝓡.env in
    proved 𝓛 f.ended stayed c 𝓜 𝓡
    (Goes-ref 𝓛 1 0 tt (plain (λ _. R)), (Goes-dropped 𝓛 1 (plain (λ _. S)) yes (λ κs x w. refl), (Goes-dropped 𝓛 1 (plain (λ _. usize)) yes (λ κs x w. refl), (Goes-dropped 𝓛 1 (plain (λ _. u64)) yes (λ κs x w. refl), tt))))
    f.Key.name code.function (code.unfolded 𝓤 𝓛.H 𝓜 𝓡 wired)
    (λ κs. (mut_vals, ((λ s. told.val s ∷ []), (uint_vals w64, (uint_vals w64, tt))))) (λ κs. (mut_Tells (named 0) κs.0 R, (told.tells, (uint_Tells w64, (uint_Tells w64, tt))))) (λ κs qs bounds a _ are.
    let b = a.0.ref_ptr.0 in let o = a.0.ref_ptr.1 in let d = a.0.now in let start = a.1.0 in let index = a.1.1.0 in let w = a.1.1.1.0 in
    let vs = mut_vals a.0 in
    let y : W.Ghost = ((κs, qs, bounds, a, (vs, (told.val start ∷ [], (uint_vals w64 index, (uint_vals w64 w, tt))))), tt) in
    let Asked : Type 0 = (d.at ≡ start.ptr) × (index ≡ length d.words) × (index < 2048) in
    let new : R.Denot = record { mark = d.mark; at = d.at; words = d.words ++ w ∷ [] } in
    qed 𝓛 (((‵ (flft κs.0 qs.0) ⊛ ‵ ftrue) ⊛ ‵ ((MutRef (named 0) κs.0 R).own_val a.0 vs) ⊛ ‵ (owns (S ∷ usize ∷ u64 ∷ []) a.1 y.0.4.1)) ∷ raw (fact 𝓤 Asked) ∷ []) ∵
    move ! (1 ∷ []) $ heard ! Asked (λ asked.
    split ! $ split ! $ move ! (2 ∷ []) $ split ! $ keep ! (0 ∷ 2 ∷ []) $
    enter ! _ _ _ _ _ $ alloc_all ! (λ l. pass_all ! refl ((tt, tt), (word-Good [] start.ptr, ((tt, record { fits = are.1.1.0.1 }), ((tt, record { fits = are.1.1.1.0.1 }), tt)))) $
    fsplit3 ! $ move ! (1 ∷ 2 ∷ 3 ∷ []) $ opens ! tt R b o (λ us. move ! (1 ∷ []) $ fsplit ! $ move ! (1 ∷ []) $
    in_a_block ! d.at (λ p. words_own p d.words) (id⊢ 𝓤 (never 𝓤)) (λ b' o' e.
    -- [the words, the room and the right; the mark; the cell; the open borrow, in three entries; the locals]
    take_at ! 2 $ rewrite ! 0 (λ (p : Ptr). ‵ (fat full_share (layout S) (l 2) 0 (word p))) (sym asked.0 ∙ e) refl $ give_at ! 2 $
    first ! $ blocks ! $
    sets ! (bin ! (get ! refl) (lit ! tt) (record { fits = omega (arith, asked.2) })) refl (tt, record { fits = omega (arith, asked.2) }) $
    sets ! (bin ! (get_in ! (fld ! refl (stop !)) (sub ! 0 refl (whole !))) (get ! refl) tt) refl (tt, tt) $
    let n = length d.words in let left : 2048 - n ≡ suc (2048 - (n + 1)) = omega (arith, asked.1, asked.2) in
    let count : length new.words ≡ n + 1 = length-append d.words (w ∷ []) in
    let left_same : 2048 - (n + 1) ≡ 2048 - length new.words = omega (arith, count) in
    let at_same : n * 8 + o' + 8 ≡ length new.words * 8 + o' = omega (arith, count) in
    fsplit3 ! $ move ! (1 ∷ []) $ rewrite ! 0 (λ (k : ℕ). ‵ (froom (words_of_type k) b' (n * 8 + o'))) left refl $
    use1 𝓛 (‵ (froom (ty_int w64) b' (n * 8 + o')) ⊛ ‵ (froom (words_of_type (2048 - (n + 1))) b' (n * 8 + o' + 8))) (𝓛.laws.room_uncons (ty_int w64) (2048 - (n + 1)) b' (n * 8 + o')) $ split ! $
    rewrite ! 0 (λ (k : ℕ). ‵ (froom (ty_int w64) b' (k * 8 + o'))) (sym asked.1) refl $
    assigns_last ! (of_opd ! (get ! refl)) (through ! refl (stop !)) (init ! 0 refl (tt, record { fits = are.1.1.1.0.1 })) $
    exec ! 𝓣.C 𝓣.Λ (env code.Mir.locals l) (after 1 (code.function).body) (at_ret _ (W.post y)) $
    sets ! (of_opd ! (unit_lit !)) refl (tt, tt) $
    -- [the word; the room behind it; the words before it; the right; the mark; the cell; ..]
    use1 𝓛 (‵ (part_at u64 full_share w b' (index * 8 + o'))) (uint_in 𝓛 full_share w64 w b' (index * 8 + o')) $
    rewrite ! 0 (λ (k : ℕ). ‵ (part_at u64 full_share w b' (k * 8 + o'))) asked.1 refl $ move ! (0 ∷ 2 ∷ []) $
    use2 𝓛 (‵ (cells (mem u64) new.words b' o')) (more 𝓛 b' d.words w o') $ move ! (1 ∷ 2 ∷ []) $
    rewrite ! 0 (λ (k : ℕ × ℕ). ‵ (froom (words_of_type k.0) b' k.1)) {x = (2048 - length new.words, length new.words * 8 + o')} (λ i. (left_same i, at_same i)) refl $
    fjoin ! $ move ! (1 ∷ 0 ∷ []) $ fjoin ! $
    rewrite ! 0 (λ (p : Ptr). ‵ (words_own p new.words)) (sym e) refl $ move ! (1 ∷ 0 ∷ []) $ fjoin ! $ move ! (1 ∷ 0 ∷ []) $ closes ! tt R new us b o $
    returns ! (look_at ! 0 refl) $ free_all ! refl $ move ! (3 ∷ []) $
    suffices ! _ (ends_at 𝓛 f.ended stayed c y vunit tt (new, (tt, (tt, (tt, tt)))) (tt, (tt, (tt, (tt, tt))))) $ says ! (refl, refl) $
    group ! 3 $ nothing ! $ nothing ! $ join ! $ nothing ! $ join ! $ nothing ! $ join ! $ move ! (1 ∷ 0 ∷ []) $ join ! $
    nothing ! $ move ! (2 ∷ 0 ∷ []) $ join ! $ frame ! $ frame ! $ feq_i ! _ (vunit ∷ []) _ refl $ done !)))))
