-- `eight_mut` lends eight words, and the owner follows what is written over them. Assumes `Logic`.
use Rattle.std.proofs.Common.{◌≡◌, ℕ, ◌+◌, ◌-◌, ◌*◌, ◌<◌, ◌≤◌, ◌^◌, List, [], ◌∷◌, ◌++◌, length, take, drop, refl, sym, ap, ◌∙◌, arith, lit<, w64, length-append}
use Rattle.std.specs.List.{refill}
use Rattle.std.proofs.lemmas.List.{length-take, length-drop}
use Rattle.std.proofs.raw_atomic.Walks.{proved}
use Rattle.std.proofs.alloc.Shapes.{after}
use Rattle.std.proofs.RcSteps.{word, word-Good}
use lib.Seq.{take_at as take_front}
use seplogic.Ra.Ura.{Ura}
use base.Fraction.{full_share}
use base.Logic.{ent, sep, never, id⊢}
use base.Fml.{Fml, GName, ftrue, fsep, fat, flft, froom}
use mir.Syntax.{named}
use mir.Val.{Val}
use contract.Monad.{fact}
use contract.Running.{tables}
use types.Logic.{Logic, sem}
use types.SemTy.{cells}
use types.Kit.{‵, raw, ◌⊛◌, some, later, await, pick, at_ret, ◌$◌, ◌∵◌, !, qed, move, keep, use1, use2, split, split3, join, group, rewrite, fsplit, fsplit3, fjoin, fpack, suffices, frame, done}
use types.Part.{whole, sub, agg}
use types.Run.{stop, fld, lit, of_opd, bin, no_more, and_then, first, blocks, exec, returns, enter}
use types.ByLocal.{alloc_all, pass_all, free_all, look_at, get, get_in, sets, sets_last, env, take_at, give_at}
use denote.Array.{Array}
use denote.Builtin.{u64, usize}
use denote.Exit.{yes, no}
use denote.Follow.{follows}
use denote.FollowSlice.{Elements, lends_Elements}
use denote.Memory.{mem, cell_at, part_of}
use denote.Param.{layout}
use denote.Plain.{uint_vals, uint_Tells}
use denote.RattleType.{RattleType, owns}
use denote.RawPtr.{Ptr, block_ptr, in_a_block}
use denote.Ref.{MutBor, MutRef, mut_vals, mut_Tells}
use denote.Signature.{plain, mut_ref_to}
use denote.Slice.{MutSlice, slice_val}
use denote.Steps.{nothing, opens, heard}
use denote.Struct.Struct.{Struct}
use denote.Struct.Owning.{shape}
use denote.Triple.Walked.{Stays, walk_of, says, stay_dropped, Goes-dropped, Goes-spent_ref, ends_at}
use Rattle.sp_rows.specs.Ownership.{words_own, words_of_type, right_to_free}
use Rattle.sp_rows.specs.RawLends.{spliced}
use Rattle.sp_rows.proofs.Memory.{Around, eight_out, eight_in}
use Rattle.sp_rows.specs.contracts.raw.Owned.{the_row as R, the_type as T}
use Rattle.sp_rows.specs.contracts.raw.Start.{the_row as S}
use Rattle.sp_rows.proofs.raw.Start.TheLaws.{the_told as told}
use Rattle.sp_rows.specs.contracts.raw.Owned.eight_mut as f
use Rattle.sp_rows.proofs.raw.Owned.eight_mut.Statement.{statement}
use Rattle.sp_rows.proofs.raw.Owned.eight_mut.Code as code

abbrev stayed : Stays f.ended.signature.params f.ended.kept
stayed = (stay_dropped (mut_ref_to (0 ∷ []) tt (plain (λ _. R))) no, (stay_dropped (plain (λ _. S)) yes, (stay_dropped (plain (λ _. usize)) yes, tt)))

-- the one field of the owner, which takes no bytes
abbrev Mark : RattleType
Mark = Struct (shape T)

-- the owner once other words were written
abbrev new : R.Denot → ℕ → List ℕ → R.Denot
new d from own = record { mark = d.mark; at = d.at; words = spliced d.words from own }

module _ {M : Type 1} {𝓤 : Ura M} (𝓛 : Logic 𝓤) (d : R.Denot) (from : ℕ) (us : List Val) (rb ro b o : ℕ) where
  -- all but the eight words
  abbrev Rest : Fml
  Rest =
      fsep (Around 𝓛 b o d.words from) (fsep (fsep (froom (words_of_type (2048 - length d.words)) b (length d.words * 8 + o)) (right_to_free (block_ptr b o)))
      (fsep (Mark.own_val (tt, tt) us) (cell_at full_share R.mir us rb ro)))

  -- with other words in their place, it makes the owner
  back : d.at ≡ block_ptr b o → from + 8 ≤ length d.words → (own : List ℕ) → length own ≡ 8
      → ent 𝓤 (sep 𝓤 (sem 𝓛 (cells (mem u64) own b (from * 8 + o))) (sem 𝓛 Rest)) (sem 𝓛 ((mem R).own_at (new d from own) rb ro))
  unfolding part_of
  back e within own long =
      let old : List ℕ = take 8 (drop from d.words) in let rest = drop (from + 8) d.words in
      let all : refill 8 old own ≡ own = take_front own (drop (length own) old) 8 long in
      let same : take from d.words ++ (own ++ rest) ≡ spliced d.words from own = ap (λ (l : List ℕ). take from d.words ++ (l ++ rest)) (sym all) in
      let count : length d.words ≡ length (spliced d.words from own) =
      omega (arith, length-append (take from d.words) (own ++ rest), length-append own rest, length-take from d.words, length-drop (from + 8) d.words, within, long) ∙ ap length same in
      qed 𝓛 (‵ (cells (mem u64) own b (from * 8 + o)) ∷ ‵ Rest ∷ []) ∵ move ! (1 ∷ []) $ fsplit3 ! $ move ! (3 ∷ 0 ∷ []) $
      use2 𝓛 (‵ (cells (mem u64) (take from d.words ++ (own ++ rest)) b o)) (eight_in 𝓛 b o d.words from within own long) $
      rewrite ! 0 (λ (l : List ℕ). ‵ (cells (mem u64) l b o)) same refl $ move ! (1 ∷ []) $
      rewrite ! 0 (λ (n : ℕ). ‵ (fsep (froom (words_of_type (2048 - n)) b (n * 8 + o)) (right_to_free (block_ptr b o)))) count refl $
      move ! (1 ∷ 0 ∷ []) $ fjoin ! $ rewrite ! 0 (λ (p : Ptr). ‵ (words_own p (spliced d.words from own))) (sym e) refl $
      move ! (1 ∷ []) $ fsplit ! $ move ! (0 ∷ 2 ∷ []) $ fjoin ! $ move ! (1 ∷ 0 ∷ []) $ fjoin ! $
      fpack ! (List Val) (λ vs. fsep (cell_at full_share R.mir vs rb ro) (R.own_val (new d from own) vs)) us $ done !

pub eight_mut_spec : {M : Type 1} → statement M
eight_mut_spec 𝓤 𝓛 𝓜 𝓡 wired =
    let c = f.clauses 𝓛 𝓜.mem 𝓡.returns in let W = walk_of 𝓛 f.ended stayed c in let 𝓣 = tables 𝓤 𝓛.H 𝓜 𝓡 𝓡.env in
    proved 𝓛 f.ended stayed c 𝓜 𝓡
    (Goes-spent_ref 𝓛 1 (0 ∷ []) tt (plain (λ _. R)), (Goes-dropped 𝓛 1 (plain (λ _. S)) yes (λ κs x w. refl), (Goes-dropped 𝓛 1 (plain (λ _. usize)) yes (λ κs x w. refl), tt)))
    f.Key.name code.function (code.unfolded 𝓤 𝓛.H 𝓜 𝓡 wired)
    (λ κs. (mut_vals, ((λ s. told.val s ∷ []), (uint_vals w64, tt)))) (λ κs. (mut_Tells (named 0) κs.0 R, (told.tells, (uint_Tells w64, tt)))) (λ κs qs bounds a _ are.
    let κ = κs.0 in let q = qs.0 in let rb = a.0.ref_ptr.0 in let ro = a.0.ref_ptr.1 in let γ = a.0.ghost_name in let d = a.0.now in
    let start = a.1.0 in let from = a.1.1.0 in let vs = mut_vals a.0 in
    let y : W.Ghost = ((κs, qs, bounds, a, (vs, (told.val start ∷ [], (uint_vals w64 from, tt)))), tt) in
    let Asked : Type 0 = (d.at ≡ start.ptr) × (from + 8 ≤ length d.words) × (length d.words ≤ 2048) in
    let xs : List ℕ = take 8 (drop from d.words) in
    qed 𝓛 (((‵ (flft κ q) ⊛ ‵ ftrue) ⊛ ‵ ((MutRef (named 0) κ R).own_val a.0 vs) ⊛ ‵ (owns (S ∷ usize ∷ []) a.1 y.0.4.1)) ∷ raw (fact 𝓤 Asked) ∷ []) ∵
    move ! (1 ∷ []) $ heard ! Asked (λ asked.
    let long : length xs ≡ 8 = omega (arith, asked.1, length-take 8 (drop from d.words), length-drop from d.words) in
    split ! $ split ! $ move ! (2 ∷ []) $ split ! $ keep ! (0 ∷ 2 ∷ []) $
    enter ! _ _ _ _ _ $ alloc_all ! (λ l. pass_all ! refl ((tt, tt), (word-Good [] start.ptr, ((tt, record { fits = are.1.1.0.1 }), tt))) $
    fsplit3 ! $ move ! (1 ∷ 2 ∷ 3 ∷ []) $ opens ! tt R rb ro (λ us. move ! (1 ∷ []) $ fsplit ! $ move ! (1 ∷ []) $
    in_a_block ! d.at (λ p. words_own p d.words) (id⊢ 𝓤 (never 𝓤)) (λ b o e.
    take_at ! 2 $ rewrite ! 0 (λ (p : Ptr). ‵ (fat full_share (layout S) (l 2) 0 (word p))) (sym asked.0 ∙ e) refl $ give_at ! 2 $
    first ! $ blocks ! $
    sets ! (bin ! (get ! refl) (lit ! tt) (record { fits = omega (arith, asked.1, asked.2) })) refl (tt, record { fits = omega (arith, asked.1, asked.2) }) $
    sets ! (bin ! (get_in ! (fld ! refl (stop !)) (sub ! 0 refl (whole !))) (get ! refl) tt) refl (tt, tt) $
    sets_last ! (agg ! (and_then ! (get ! refl) (and_then ! (lit ! tt) (no_more !)))) refl (tt, (tt, (record { fits = lit< tt }, tt))) $
    exec ! 𝓣.C 𝓣.Λ (env code.Mir.locals l) (after 1 (code.function).body) (at_ret _ (W.post y)) $
    sets ! (of_opd ! (get ! refl)) refl (tt, (tt, (record { fits = lit< tt }, tt))) $
    let at = from * 8 + o in let F = new d from in let rest : Fml = Rest 𝓛 d from us rb ro b o in
    let way : (own : List ℕ) → length own ≡ length xs → ent 𝓤 (sep 𝓤 (sem 𝓛 (cells (mem u64) own b at)) (sem 𝓛 rest)) (sem 𝓛 ((mem R).own_at (F own) rb ro)) =
    λ own same. back 𝓛 d from us rb ro b o e asked.1 own (same ∙ long) in
    let roomy : length xs < 2 ^ 64 = omega (arith, long) in let fitting : length xs * 8 < 2 ^ 63 = omega (arith, long) in
    -- [the words, the room and the right; the mark; the cell; the open borrow, in three entries; ..]
    fsplit ! $ use1 𝓛 (‵ (cells (mem u64) xs b at) ⊛ ‵ (Around 𝓛 b o d.words from)) (eight_out 𝓛 b o d.words from asked.1) $ split ! $
    move ! (3 ∷ 4 ∷ []) $ fjoin ! $ move ! (3 ∷ 0 ∷ []) $ fjoin ! $ move ! (2 ∷ 0 ∷ []) $ fjoin ! $
    move ! (2 ∷ 3 ∷ 4 ∷ 1 ∷ 0 ∷ []) $ group ! 5 $
    use1 𝓛 (later (some (λ (δ : GName). raw (Elements 𝓛 R u64 F (named 0) κ q rb ro b at γ xs (roomy, fitting) (sem 𝓛 rest) way δ))))
    (lends_Elements 𝓛 R u64 F (named 0) κ q rb ro b at γ xs (roomy, fitting) (sem 𝓛 rest) way (R.coded.code d) (R.coded.code d)) $ await ! tt $ pick ! (λ δ.
    let r : MutBor (List ℕ) = record { ref_ptr = (b, at); ghost_name = δ; now = xs } in
    use1 𝓛 (‵ ((MutSlice (named 0) κ u64).own_val r (slice_val (b, at) (length xs) ∷ [])) ⊛ ‵ (flft κ q) ⊛ ‵ (follows R (Array u64 0) γ δ F)) (id⊢ 𝓤 _) $ split3 ! $
    rewrite ! 0 (λ (n : ℕ). ‵ ((MutSlice (named 0) κ u64).own_val r (slice_val (b, at) n ∷ []))) long refl $
    returns ! (look_at ! 0 refl) $ free_all ! refl $ keep ! (0 ∷ 1 ∷ 2 ∷ []) $
    suffices ! _ (ends_at 𝓛 f.ended stayed c y (slice_val (b, at) 8) r (tt, (tt, (tt, tt))) (tt, (tt, (tt, tt)))) $
    nothing ! $ nothing ! $ join ! $ nothing ! $ join ! $ nothing ! $ join ! $ join ! $ nothing ! $ move ! (2 ∷ 0 ∷ []) $ join ! $ join ! $ frame ! $ says ! refl $ done !))))))
