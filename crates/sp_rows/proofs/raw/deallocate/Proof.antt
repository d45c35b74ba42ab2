-- `deallocate` makes room of what is written, and gives it back with the right to free it. Assumes `Logic`.
use Rattle.std.proofs.Common.{◌≡◌, ◌+◌, ◌-◌, ◌*◌, ◌≤◌, ◌^◌, List, [], ◌∷◌, length, refl, sym, ap, ◌∙◌, subst, arith, lit<, w64, T}
use Rattle.std.specs.contracts.alloc.Global as heap
use Rattle.std.specs.contracts.impls.GlobalAllocator.deallocate as g
use Rattle.std.proofs.impls.GlobalAllocator.deallocate.Met.{met}
use Rattle.std.proofs.alloc.Calls.{Goes-blank}
use Rattle.std.proofs.alloc.Shapes.{after}
use Rattle.std.proofs.raw_atomic.Walks.{proved}
use Rattle.std.proofs.RcSteps.{word, word-Good}
use base.Fraction.{full_share}
use base.Logic.{emp, never, id⊢}
use base.Fml.{ftrue, fsep, fat, flft, froom}
use mir.Syntax.{Ty, named, ty_unit}
use mir.Val.{Val, vint, vptr, vunit, has_ty, WT}
use prog.Memory.{size, align, capped}
use prog.Capped.{capped_is}
use contract.Monad.{fact, fact_i}
use contract.Running.{tables}
use types.Kit.{‵, raw, ◌⊛◌, some, later, at_ret, ◌$◌, ◌∵◌, !, qed, move, keep, drop as skip, use0, use1, use2, split, join, group, pick, await, rewrite, fsplit, fsplit3, fjoin, feq_i, feq_l, flt_i, suffices, done}
use types.Part.{whole, sub}
use types.Run.{stop, fld, lit, unit_lit, of_opd, no_more, and_then, first, blocks, exec, returns, enter}
use types.ByLocal.{alloc_all, pass_all, free_all, look_at, get, get_in, sets, lands_last, env, take_at, give_at}
use denote.Builtin.{RefOf, unit}
use denote.Exit.{yes}
use denote.Param.{layout}
use denote.RattleType.{owns}
use denote.RawPtr.{Ptr, block_ptr, in_a_block}
use denote.Ref.{ShrRef, shr_vals, shr_Tells}
use denote.Signature.{plain}
use denote.Steps.{nothing, only, heard}
use denote.Triple.Call.{calls_at_last}
use denote.Triple.Spec.{triple_of}
use denote.Triple.Table.{framed}
use denote.Triple.Walked.{Stays, walk_of, stay_dropped, Goes-dropped, ends_at}
use Rattle.sp_rows.specs.Ownership.{words_own, words_of_type}
use Rattle.sp_rows.proofs.Memory.{gone, big}
use Rattle.sp_rows.specs.contracts.raw.Owned.{the_row as R}
use Rattle.sp_rows.specs.contracts.raw.Start.{the_row as S}
use Rattle.sp_rows.proofs.raw.Start.TheLaws.{the_told as told}
use Rattle.sp_rows.proofs.raw.Owned.TheLaws.{the_told as owned_told}
use Rattle.sp_rows.specs.contracts.raw.deallocate as f
use Rattle.sp_rows.proofs.raw.deallocate.Statement.{statement}
use Rattle.sp_rows.proofs.raw.deallocate.Code as code

abbrev stayed : Stays f.ended.signature.params f.ended.kept
stayed = (stay_dropped (RefOf (0 ∷ []) tt (plain (λ _. heap.the_row)) (λ _. tt)) yes, (stay_dropped (plain (λ _. S)) yes, (stay_dropped (plain (λ _. R)) f.ended.kept.1.1.0, tt)))

pub deallocate_spec : {M : Type 1} → statement M
deallocate_spec 𝓤 𝓛 𝓜 𝓡 wired =
    let c = f.clauses 𝓛 𝓜.mem 𝓡.returns in let W = walk_of 𝓛 f.ended stayed c in let 𝓣 = tables 𝓤 𝓛.H 𝓜 𝓡 𝓡.env in
    proved 𝓛 f.ended stayed c 𝓜 𝓡
    (Goes-dropped 𝓛 1 (RefOf (0 ∷ []) tt (plain (λ _. heap.the_row)) (λ _. tt)) yes (λ κs x w. refl), (Goes-dropped 𝓛 1 (plain (λ _. S)) yes (λ κs x w. refl), (Goes-blank 𝓛 1 (plain (λ _. R)) f.ended.kept.1.1.0 (λ κs x w. tt), tt)))
    f.Key.name code.function (code.unfolded 𝓤 𝓛.H 𝓜 𝓡 wired)
    (λ κs. (shr_vals, ((λ s. told.val s ∷ []), ((λ x. owned_told.val x ∷ []), tt)))) (λ κs. (shr_Tells (named 0) κs.0 heap.the_row, (told.tells, (owned_told.tells, tt)))) (λ κs qs bounds a _ are.
    let κ = κs.0 in let q = qs.0 in let vs = shr_vals a.0 in let start = a.1.0 in let d = a.1.1.0 in
    let y : W.Ghost = ((κs, qs, bounds, a, (vs, (told.val start ∷ [], (owned_told.val d ∷ [], tt)))), tt) in
    let Asked : Type 0 = (d.at ≡ start.ptr) × (length d.words ≤ 2048) in
    let τ : Ty = words_of_type 2048 in
    let G = triple_of 𝓛 g.signature (g.spec 𝓛 𝓜.mem 𝓡.returns) in
    let Fits : Type 0 = (capped (size τ) ≡ 16384) × (capped (align τ) ≡ 8) in
    qed 𝓛 (((‵ (flft κ q) ⊛ ‵ ftrue) ⊛ ‵ ((ShrRef (named 0) κ heap.the_row).own_val a.0 vs) ⊛ ‵ (owns (S ∷ R ∷ []) a.1 y.0.4.1)) ∷ raw (fact 𝓤 Asked) ∷ []) ∵
    move ! (1 ∷ []) $ heard ! Asked (λ asked.
    split ! $ split ! $ move ! (2 ∷ []) $ split ! $ keep ! (0 ∷ 1 ∷ 2 ∷ []) $ move ! (1 ∷ []) $ fsplit ! $ skip ! $ fsplit ! $ fsplit ! $ keep ! (1 ∷ 3 ∷ 4 ∷ []) $
    in_a_block ! d.at (λ p. words_own p d.words) (id⊢ 𝓤 (never 𝓤)) (λ b o e.
    enter ! _ _ _ _ _ $ alloc_all ! (λ l. pass_all ! refl ((tt, tt), (word-Good [] start.ptr, ((tt, (tt, tt)), tt))) $
    let n = length d.words in
    let z : G.Ghost = ((κs, qs, tt, (a.0, (block_ptr b o, (16384, (8, tt)))), (vs, (vptr b o ∷ [], (vint w64 16384 ∷ [], (vint w64 8 ∷ [], tt))))), τ) in
    -- [the words; the room behind them; the right; the `&`; the token]
    fsplit3 ! $ use2 𝓛 (‵ (froom τ b o)) (gone 𝓛 b d.words (2048 - n) 2048 o (n * 8 + o) (omega (arith, asked.1)) refl) $ fjoin ! $
    take_at ! 2 $ rewrite ! 0 (λ (p : Ptr). ‵ (fat full_share (layout S) (l 2) 0 (word p))) (sym asked.0 ∙ e) refl $ give_at ! 2 $
    first ! $ blocks ! $ sets ! (of_opd ! (get_in ! (fld ! refl (stop !)) (sub ! 0 refl (whole !)))) refl (tt, tt) $
    use0 𝓛 (raw (fact 𝓤 Fits)) (fact_i 𝓤 Fits (emp 𝓤) (capped_is 16384 (lit< tt), capped_is 8 (lit< tt))) $ join ! $
    nothing ! $ flt_i ! 8 (2 ^ 64) (lit< tt) $ feq_i ! (List Val) (vint w64 8 ∷ []) (vint w64 8 ∷ []) refl $ fjoin ! $ fjoin ! $
    flt_i ! 16384 (2 ^ 64) (lit< tt) $ feq_i ! (List Val) (vint w64 16384 ∷ []) (vint w64 16384 ∷ []) refl $ fjoin ! $ fjoin ! $
    feq_i ! (List Val) (vptr b o ∷ []) (vptr b o ∷ []) refl $ fjoin ! $
    move ! (2 ∷ 0 ∷ []) $ join ! $ nothing ! $ move ! (3 ∷ 0 ∷ []) $ join ! $ join ! $ join ! $
    use1 𝓛 (raw (G.pre z)) (id⊢ 𝓤 _) $
    calls_at_last ! (framed 𝓤 𝓛.H 𝓜 𝓣) G (met 𝓤 𝓛 𝓜 𝓡 (code.calls-std_heap::GlobalAllocator::deallocate 𝓡.env wired)) z
    (and_then ! (get ! refl) (and_then ! (get ! refl) (and_then ! (big ! (lit< tt)) (and_then ! (lit ! tt) (no_more !))))) (λ v.
    use1 𝓛 (later (some (λ (r : Unit {0}). ((‵ (flft κ q) ⊛ ‵ ftrue) ⊛ ‵ (unit.own_val r (v ∷ [])))
    ⊛ some (λ (ws : Unit {0} × (Unit {0} × (Unit {0} × (Unit {0} × Unit {0})))). ‵ (fsep ftrue (fsep ftrue (fsep ftrue (fsep ftrue ftrue)))) ⊛ ‵ ftrue)))) (id⊢ 𝓤 _) $
    await ! tt $ pick ! (λ r. split ! $ split ! $ move ! (1 ∷ []) $ feq_l ! (λ is_unit. split ! $
    lands_last ! refl (subst (λ (u : Val). T (has_ty ty_unit u) × WT u) (sym (ap only is_unit)) (tt, tt)) $
    exec ! 𝓣.C 𝓣.Λ (env code.Mir.locals l) (after 1 (code.function).body) (at_ret _ (W.post y)) $
    sets ! (of_opd ! (unit_lit !)) refl (tt, tt) $ returns ! (look_at ! 0 refl) $ free_all ! refl $ keep ! (0 ∷ []) $
    suffices ! _ (ends_at 𝓛 f.ended stayed c y vunit tt (tt, (tt, (tt, tt))) (tt, (tt, (tt, tt)))) $
    feq_i ! _ (vunit ∷ []) _ refl $ nothing ! $ nothing ! $ join ! $ nothing ! $ join ! $ nothing ! $ join ! $
    move ! (2 ∷ []) $ nothing ! $ move ! (1 ∷ 0 ∷ []) $ join ! $ group ! 3 $ nothing ! $ move ! (1 ∷ 0 ∷ []) $ done !)))))))
