-- `allocate` takes room for a chunk, and the right to free it. Assumes `Logic`.
use Rattle.std.proofs.Common.{◌≡◌, ℕ, ◌+◌, ◌*◌, ◌^◌, arith, List, [], ◌∷◌, true, false, refl, lit<, w64}
use Rattle.std.specs.Prelude.{IfOk, Ok, Err}
use Rattle.std.specs.Allocator.{block_if_ok}
use Rattle.std.specs.contracts.alloc.Global as heap
use Rattle.std.specs.contracts.impls.GlobalAllocator.TheImpl.{ghosts}
use Rattle.std.specs.contracts.impls.GlobalAllocator.allocate as g
use Rattle.std.proofs.impls.GlobalAllocator.allocate.Met.{met}
use Rattle.std.proofs.alloc.Calls.{Answer, Answer-typed}
use Rattle.std.proofs.alloc.Shapes.{after, head, arm_body}
use Rattle.std.proofs.raw_atomic.Walks.{proved}
use Rattle.std.proofs.RcSteps.{Good, word-Good, first_Good}
use Rattle.std.proofs.ResultValues.{ok_of, err_of}
use Rattle.std.specs.contracts.result.Result as result
use Rattle.std.specs.contracts.alloc.AllocError as refused
use base.Logic.{emp, id⊢, ent}
use base.Fml.{ftrue, fsep, flft, froom}
use mir.Syntax.{Ty, named}
use mir.Val.{Val, vint, vcons, vnil, vstruct}
use prog.Memory.{size, align, capped}
use prog.Capped.{capped_is}
use prog.Wp.{Env, Wp, after_seq, at_return}
use contract.Monad.{fact, fact_i}
use contract.Running.{tables}
use types.Kit.{⋆, any_q, rewrite, ‵, raw, ◌⊛◌, some, later, at_ret, ◌$◌, ◌∵◌, !, qed, by, move, keep, drop as skip, use0, use1, split, join, pick, await, fjoin, feq_i, flt_i, suffices, frame, done}
use types.Part.{whole, agg}
use types.Match.{live, vrt, in_variant}
use types.Run.{stop, fld, lit, of_opd, no_more, and_then, first, switches_on, exec, returns, enter}
use types.ByLocal.{alloc_all, pass_all, free_all, look_at, get, get_in, get_tag, sets, sets_last, lands_as, env}
use denote.Builtin.{RefOf}
use denote.Exit.{yes}
use denote.RawPtr.{Ptr, block_ptr}
use denote.Ref.{ShrRef, shr_vals, shr_Tells}
use denote.Signature.{plain}
use denote.Steps.{nothing, owned as owned_is}
use denote.Laws.{Is}
use denote.Param.{layout}
use denote.RattleType.{RattleType}
use denote.Struct.Declared as Declared
use denote.Struct.Struct.{Struct, Struct-Makes}
use denote.Struct.Tuple.{Tuple}
use denote.Triple.Call.{calls_at}
use denote.Triple.Spec.{triple_of}
use denote.Triple.Table.{framed}
use denote.Triple.Walked.{Stays, walk_of, says, stay_dropped, Goes-dropped, ends_at}
use Rattle.sp_rows.specs.Ownership.{words_of_type}
use Rattle.sp_rows.proofs.Memory.{Mark, owned_val, both_val, mark_made, both_made, answer_cases, big}
use Rattle.sp_rows.specs.contracts.raw.Owned.{the_row as R}
use Rattle.sp_rows.specs.contracts.raw.Start.{the_row as S}
use Rattle.sp_rows.specs.contracts.raw.allocate as f
use Rattle.sp_rows.proofs.raw.allocate.Statement.{statement}
use Rattle.sp_rows.proofs.raw.allocate.Code as code

abbrev stayed : Stays f.ended.signature.params f.ended.kept
stayed = (stay_dropped (RefOf (0 ∷ []) tt (plain (λ _. heap.the_row)) (λ _. tt)) yes, tt)

abbrev Pair : RattleType
Pair = Tuple (S ∷ R ∷ [])

pub allocate_spec : {M : Type 1} → statement M
allocate_spec 𝓤 𝓛 𝓜 𝓡 wired =
    let c = f.clauses 𝓛 𝓜.mem 𝓡.returns in let W = walk_of 𝓛 f.ended stayed c in let 𝓣 = tables 𝓤 𝓛.H 𝓜 𝓡 𝓡.env in
    proved 𝓛 f.ended stayed c 𝓜 𝓡
    (Goes-dropped 𝓛 1 (RefOf (0 ∷ []) tt (plain (λ _. heap.the_row)) (λ _. tt)) yes (λ κs x w. refl), tt)
    f.Key.name code.function (code.unfolded 𝓤 𝓛.H 𝓜 𝓡 wired)
    (λ κs. (shr_vals, tt)) (λ κs. (shr_Tells (named 0) κs.0 heap.the_row, tt)) (λ κs qs bounds a _ are.
    let κ = κs.0 in let q = qs.0 in let vs = shr_vals a.0 in
    let y : W.Ghost = ((κs, qs, bounds, a, (vs, tt)), tt) in
    let τ : Ty = words_of_type 2048 in
    let G = triple_of 𝓛 g.signature (g.spec 𝓛 𝓜.mem 𝓡.returns) in
    let z : G.Ghost = ((κs, qs, tt, (a.0, (16384, (8, tt))), (vs, (vint w64 16384 ∷ [], (vint w64 8 ∷ [], tt)))), τ) in
    let Fits : Type 0 = (capped (size τ) ≡ 16384) × (capped (align τ) ≡ 8) in
    let Out : RattleType = result.the_row Pair refused.the_row in
    let exits : (r : Out.Denot) (v : Val) → IfOk r (λ t. (t.1.at ≡ t.0.ptr) × (t.1.words ≡ [])) → ent 𝓤 (⋆ 𝓛 (‵ (Out.own_val r (v ∷ [])) ∷ ‵ (flft κ q) ∷ [])) (W.post y v) =
    λ r v given. qed 𝓛 (‵ (Out.own_val r (v ∷ [])) ∷ ‵ (flft κ q) ∷ []) ∵
    suffices ! _ (ends_at 𝓛 f.ended stayed c y v r (tt, tt) (tt, tt)) $ says ! given $
    move ! (1 ∷ []) $ nothing ! $ move ! (1 ∷ 0 ∷ []) $ join ! $ frame ! $ nothing ! $ nothing ! $ join ! $ done ! in
    qed 𝓛 (((‵ (flft κ q) ⊛ ‵ ftrue) ⊛ ‵ ((ShrRef (named 0) κ heap.the_row).own_val a.0 vs) ⊛ ‵ ftrue) ∷ ‵ ftrue ∷ []) ∵
    split ! $ split ! $ move ! (2 ∷ []) $ split ! $ keep ! (0 ∷ 2 ∷ []) $
    enter ! _ _ _ _ _ $ alloc_all ! (λ l. pass_all ! refl ((tt, tt), tt) $
    let En : Env 𝓤 𝓛.H = env code.Mir.locals l in let choice = head (after 1 (code.function).body) in
    let Then = any_q (after_seq 𝓤 𝓛.H (Wp 𝓤 𝓛.H 𝓣.C 𝓣.Λ En (after 2 (code.function).body) (at_return 𝓤 𝓛.H En (W.post y))) (at_return 𝓤 𝓛.H En (W.post y))) in
    use0 𝓛 (raw (fact 𝓤 Fits)) (fact_i 𝓤 Fits (emp 𝓤) (capped_is 16384 (lit< tt), capped_is 8 (lit< tt))) $
    nothing ! $ flt_i ! 8 (2 ^ 64) (lit< tt) $ feq_i ! (List Val) (vint w64 8 ∷ []) (vint w64 8 ∷ []) refl $ fjoin ! $ fjoin ! $
    flt_i ! 16384 (2 ^ 64) (lit< tt) $ feq_i ! (List Val) (vint w64 16384 ∷ []) (vint w64 16384 ∷ []) refl $ fjoin ! $ fjoin ! $
    move ! (2 ∷ 0 ∷ []) $ join ! $ nothing ! $ move ! (3 ∷ 0 ∷ []) $ join ! $ join ! $ join ! $
    use1 𝓛 (raw (G.pre z)) (id⊢ 𝓤 _) $
    calls_at ! (framed 𝓤 𝓛.H 𝓜 𝓣) G (met 𝓤 𝓛 𝓜 𝓡 (code.calls-std_heap::GlobalAllocator::allocate 𝓡.env wired)) z
    (and_then ! (get ! refl) (and_then ! (big ! (lit< tt)) (and_then ! (lit ! tt) (no_more !)))) (λ v.
    use1 𝓛 (later (some (λ (r : Answer.Denot). ((‵ (flft κ q) ⊛ ‵ ftrue) ⊛ ‵ (Answer.own_val r (v ∷ [])))
    ⊛ some (λ (ws : Unit {0} × (Unit {0} × (Unit {0} × Unit {0}))). ‵ (fsep ftrue (fsep ftrue (fsep ftrue ftrue))) ⊛ ‵ (block_if_ok (ghosts.dealloc_token a.0.now) τ r))))) (id⊢ 𝓤 _) $
    await ! tt $ pick ! (λ r. split ! $ split ! $ split ! $ move ! (2 ∷ 3 ∷ []) $ move ! (1 ∷ []) $ pick ! (λ ws. split ! $ skip ! $ move ! (1 ∷ 0 ∷ []) $
    answer_cases ! (ghosts.dealloc_token a.0.now) τ r v
    (λ b o e.
    let p : Ptr = block_ptr b o in let start : S.Denot = record { ptr = p } in let owned : R.Denot = record { mark = record {}; at = p; words = [] } in
    let typed : Good (layout Pair) (both_val p) = (tt, ((tt, tt), ((tt, tt), tt))) in let ok = first_Good (layout Pair) (both_val p) typed in
    lands_as ! e refl (Answer-typed true b o) $ first ! $ switches_on ! (get_tag ! (vrt ! refl (fld ! refl (stop !))) (whole !)) $ exec ! 𝓣.C 𝓣.Λ En (arm_body 0 choice) Then $
    sets ! (of_opd ! (get_in ! (vrt ! refl (fld ! refl (stop !))) (in_variant ! 0 0 refl refl (whole !)))) refl (tt, tt) $ sets ! (of_opd ! (get ! refl)) refl (tt, tt) $
    sets ! (agg ! (and_then ! (get ! refl) (no_more !))) refl (word-Good [] p) $
    sets ! (agg ! (no_more !)) refl (tt, tt) $ sets ! (agg ! (and_then ! (get ! refl) (no_more !))) refl (tt, (tt, tt)) $
    sets ! (agg ! (and_then ! (get ! refl) (and_then ! (get ! refl) (no_more !)))) refl typed $
    sets_last ! (agg ! (and_then ! (lit ! tt) (and_then ! (get ! refl) (no_more !)))) refl ok $
    exec ! 𝓣.C 𝓣.Λ En (after 2 (code.function).body) (at_ret _ (W.post y)) $ sets ! (of_opd ! (get ! refl)) refl ok $
    returns ! (look_at ! 0 refl) $ free_all ! refl $ keep ! (0 ∷ 1 ∷ 2 ∷ []) $
    -- [the room; the right to free it; the token]
    rewrite ! 0 (λ (k : ℕ). ‵ (froom τ b k)) {x = 0 * 8 + o} (omega arith) refl $ fjoin ! $ nothing ! $ fjoin ! $
    use0 𝓛 (‵ (Mark.own_val (tt, tt) (owned_val ∷ []))) (mark_made 𝓛) $ fjoin ! $
    use1 𝓛 (‵ ((Tuple (S ∷ R ∷ [])).own_val (start, owned) (both_val p ∷ []))) (both_made 𝓛 start owned) $
    use1 𝓛 (‵ (Out.own_val (Ok (start, owned)) (live 0 (vcons (both_val p) vnil) ∷ []))) (ok_of 𝓛 Pair refused.the_row (start, owned) (both_val p)) $
    by ! (exits (Ok (start, owned)) (live 0 (vcons (both_val p) vnil)) (refl, refl)))
    (λ e.
    let none : Val = live 1 (vcons (vstruct vnil) vnil) in let Refusal : RattleType = Struct (Declared.shape refused.the_type) in
    lands_as ! e refl (Answer-typed false 0 0) $ first ! $ switches_on ! (get_tag ! (vrt ! refl (fld ! refl (stop !))) (whole !)) $ exec ! 𝓣.C 𝓣.Λ En (arm_body 1 choice) Then $
    sets ! (of_opd ! (get_in ! (vrt ! refl (fld ! refl (stop !))) (in_variant ! 1 0 refl refl (whole !)))) refl (tt, tt) $
    sets_last ! (agg ! (and_then ! (lit ! tt) (and_then ! (get ! refl) (no_more !)))) refl (tt, (record { fits = lit< tt }, (tt, tt))) $
    exec ! 𝓣.C 𝓣.Λ En (after 2 (code.function).body) (at_ret _ (W.post y)) $ sets ! (of_opd ! (get ! refl)) refl (tt, (record { fits = lit< tt }, (tt, tt))) $
    returns ! (look_at ! 0 refl) $ free_all ! refl $ keep ! (0 ∷ []) $
    owned_is ! Refusal (Is Refusal) (Struct-Makes 𝓛 (Declared.shape refused.the_type) tt) tt (vstruct vnil ∷ []) (tt, (refl, tt)) $
    use1 𝓛 (‵ (Out.own_val (Err (record {})) (none ∷ []))) (err_of 𝓛 Pair refused.the_row (record {}) (vstruct vnil)) $
    by ! (exits (Err (record {})) none tt)))))))
