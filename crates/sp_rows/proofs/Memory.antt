-- What the walks of the functions that hold a pointer share. Assumes `Logic`.
--     start_val, owned_val, both_val      the machine values of a `Start`, of an `Owned` and of both;  mark_made, both_made      they are made
--     cut, glue, more      words in memory are cut in two, put together, and followed by one more
--     gone      words that are let go are room
--     eight_out, eight_in      eight words are taken out, and other ones are put in their place
--     eight_seen      of words that are lent, eight are lent
--     big      a large constant
--     answer_cases      what the allocator answered: room with the right to free it, or nothing
use Rattle.std.proofs.Common.{◌≡◌, ℕ, zero, suc, ◌+◌, ◌*◌, ◌<◌, ◌≤◌, ◌^◌, List, [], ◌∷◌, ◌++◌, length, take, drop, refl, sym, ap, ◌∙◌, subst, arith, take-append-drop, w64, true, false}
use Rattle.std.proofs.lemmas.List.{length-take, length-drop}
use lib.Seq.{drop-drop}
use seplogic.Ra.Ura.{Ura}
use base.Fraction.{full_share}
use mir.Syntax.{Ty, ty_int, int_big}
use mir.Val.{Val, Fits, vint, vstruct, vcons, vnil, of_list}
use base.Logic.{ent, sep, emp, id⊢, fst∗, snd∗, mono_r, never, via, guard_i}
use base.Fml.{Fml, Lft, ftrue, fsep, froom, fat}
use types.Logic.{Logic, sem}
use types.SemTy.{cells}
use types.Match.{live}
use types.Run.{Opd}
use prog.Wp.{Env}
use types.Kit.{Item, Goal, Seq, ‵, ◌⊛◌, ◌$◌, ◌∵◌, !, qed, by, move, use1, use2, drop as skip, split, fsplit, fjoin, fpick, fpack, feq_i, feq_l, rewrite, keep, use0, done}
use denote.Builtin.{u64}
use denote.Memory.{mem, part_at, shared_of}
use denote.Plain.{uint_out}
use denote.RattleType.{RattleType, Valss}
use denote.RawPtr.{Ptr, block_ptr, null_ptr, ptr_val, room_for, in_a_block}
use denote.Slice.{elements_shared}
use denote.Shadow.{makes_shadow}
use denote.Steps.{nothing, only}
use denote.Struct.Declared as Declared
use denote.Struct.Owning.{shape}
use denote.Struct.Struct.{Struct, within}
use denote.Struct.Tuple.{Tuple, tuple_type}
use Rattle.std.specs.Prelude.{Ok, Err}
use Rattle.std.specs.declared.result.Result.{Result}
use Rattle.std.specs.declared.alloc.AllocError.{AllocError}
use Rattle.std.specs.Allocator.{block_if_ok}
use Rattle.std.proofs.alloc.Calls.{Answer, answer_val}
use Rattle.sp_rows.specs.Ownership.{words_of_type}
use Rattle.sp_rows.specs.contracts.raw.Owned.{the_row as R, the_type as T}
use Rattle.sp_rows.specs.contracts.raw.Start.{the_row as S}

abbrev pub start_val : Ptr → Val
start_val p = vstruct (vcons (ptr_val p) vnil)

abbrev pub owned_val : Val
owned_val = vstruct (vcons (vstruct vnil) vnil)

abbrev pub both_val : Ptr → Val
both_val p = vstruct (vcons (start_val p) (vcons owned_val vnil))

-- the one field of an owner, which takes no bytes
abbrev pub Mark : RattleType
Mark = Struct (shape T)

module _ {M : Type 1} {𝓤 : Ura M} (𝓛 : Logic 𝓤) where
  pub mark_made : ent 𝓤 (emp 𝓤) (sem 𝓛 (Mark.own_val (tt, tt) (owned_val ∷ [])))
  mark_made = makes_shadow 𝓛 (Mark.own_val (tt, tt) (owned_val ∷ [])) (λ vss. (tt, ((λ uss. (tt, tt)), tt))) ((vstruct vnil ∷ [], tt), (refl, ((tt, (refl, tt)), tt)))

  pub start_made : (s : S.Denot) → ent 𝓤 (emp 𝓤) (sem 𝓛 (S.own_val s (start_val s.ptr ∷ [])))
  start_made s = makes_shadow 𝓛 (S.own_val s (start_val s.ptr ∷ [])) (λ vss. (tt, (tt, tt))) ((ptr_val s.ptr ∷ [], tt), (refl, (refl, tt)))

  -- the pair that is answered
  pub both_made : (s : S.Denot) (x : R.Denot) → ent 𝓤 (sem 𝓛 (R.own_val x (owned_val ∷ []))) (sem 𝓛 ((Tuple (S ∷ R ∷ [])).own_val (s, x) (both_val s.ptr ∷ [])))
  both_made s x =
      qed 𝓛 (‵ (R.own_val x (owned_val ∷ [])) ∷ []) ∵ nothing ! $ move ! (1 ∷ 0 ∷ []) $ fjoin ! $
      use0 𝓛 (‵ (S.own_val s (start_val s.ptr ∷ []))) (start_made s) $ fjoin ! $
      feq_i ! (List Val) (both_val s.ptr ∷ []) (both_val s.ptr ∷ []) refl $ fjoin ! $
      fpack ! (Valss (S ∷ R ∷ [])) (within (Declared.shape (tuple_type (S ∷ R ∷ []))) (s, (x, tt)) (both_val s.ptr ∷ [])) (start_val s.ptr ∷ [], (owned_val ∷ [], tt)) $ done !

module _ {M : Type 1} {𝓤 : Ura M} (𝓛 : Logic 𝓤) (b : ℕ) where
  open 𝓛 use {H}

  abbrev pub Words : ℕ → List ℕ → Fml
  Words o ws = cells (mem u64) ws b o

  cut : (xs ys : List ℕ) (o at : ℕ) → at ≡ length xs * 8 + o → ent 𝓤 (sem 𝓛 (Words o (xs ++ ys))) (sep 𝓤 (sem 𝓛 (Words o xs)) (sem 𝓛 (Words at ys)))
  cut [] ys o at e = qed 𝓛 (‵ (Words o ys) ∷ []) ∵ rewrite ! 0 (λ (k : ℕ). ‵ (Words k ys)) {x = at} (omega arith) refl $ nothing ! $ done !
  cut (x ∷ xs) ys o at e =
      qed 𝓛 (‵ (Words o (x ∷ xs ++ ys)) ∷ []) ∵ fsplit ! $ move ! (1 ∷ []) $
      use1 𝓛 (‵ (Words (o + 8) xs) ⊛ ‵ (Words at ys)) (cut xs ys (o + 8) at (omega arith)) $ split ! $ move ! (2 ∷ 0 ∷ []) $ fjoin ! $ done !

  glue : (xs ys : List ℕ) (o at : ℕ) → at ≡ length xs * 8 + o → ent 𝓤 (sep 𝓤 (sem 𝓛 (Words o xs)) (sem 𝓛 (Words at ys))) (sem 𝓛 (Words o (xs ++ ys)))
  glue [] ys o at e = qed 𝓛 (‵ ftrue ∷ ‵ (Words at ys) ∷ []) ∵ skip ! $ rewrite ! 0 (λ (k : ℕ). ‵ (Words k ys)) {x = o} (omega arith) refl $ done !
  glue (x ∷ xs) ys o at e =
      qed 𝓛 (‵ (Words o (x ∷ xs)) ∷ ‵ (Words at ys) ∷ []) ∵ fsplit ! $ move ! (1 ∷ 2 ∷ []) $
      use2 𝓛 (‵ (Words (o + 8) (xs ++ ys))) (glue xs ys (o + 8) at (omega arith)) $ move ! (1 ∷ 0 ∷ []) $ fjoin ! $ done !

  -- one word more
  pub more : (ws : List ℕ) (w o : ℕ) → ent 𝓤 (sep 𝓤 (sem 𝓛 (part_at u64 full_share w b (length ws * 8 + o))) (sem 𝓛 (Words o ws))) (sem 𝓛 (Words o (ws ++ w ∷ [])))
  more ws w o =
      qed 𝓛 (‵ (part_at u64 full_share w b (length ws * 8 + o)) ∷ ‵ (Words o ws) ∷ []) ∵ nothing ! $ move ! (1 ∷ 0 ∷ []) $ fjoin ! $ move ! (1 ∷ 0 ∷ []) $
      by ! (glue ws (w ∷ []) o (length ws * 8 + o) refl)

  -- words and the room behind them are room
  pub gone : (ws : List ℕ) (n all o at : ℕ) → all ≡ length ws + n → at ≡ length ws * 8 + o
      → ent 𝓤 (sep 𝓤 (sem 𝓛 (Words o ws)) (H.room (words_of_type n) b at)) (H.room (words_of_type all) b o)
  gone [] n all o at e e' =
      qed 𝓛 (‵ ftrue ∷ ‵ (froom (words_of_type n) b at) ∷ []) ∵ skip ! $
      rewrite ! 0 (λ (k : ℕ). ‵ (froom (words_of_type n) b k)) {x = o} (omega arith) refl $
      rewrite ! 0 (λ (k : ℕ). ‵ (froom (words_of_type k) b o)) {x = all} (omega arith) refl $ done !
  gone (w ∷ ws) n all o at e e' =
      qed 𝓛 (‵ (Words o (w ∷ ws)) ∷ ‵ (froom (words_of_type n) b at) ∷ []) ∵ fsplit ! $ move ! (1 ∷ 2 ∷ []) $
      use2 𝓛 (‵ (froom (words_of_type (length ws + n)) b (o + 8))) (gone ws n (length ws + n) (o + 8) at refl (omega arith)) $ move ! (1 ∷ []) $
      use1 𝓛 (‵ (fat full_share (ty_int w64) b o (vint w64 w))) (uint_out 𝓛 full_share w64 w b o) $
      use1 𝓛 (‵ (froom (ty_int w64) b o)) (𝓛.laws.at_room (ty_int w64) b o (vint w64 w)) $
      use2 𝓛 (‵ (froom (words_of_type (suc (length ws + n))) b o)) (𝓛.laws.room_cons (ty_int w64) (length ws + n) b o) $
      rewrite ! 0 (λ (k : ℕ). ‵ (froom (words_of_type k) b o)) {x = all} (omega arith) refl $ done !

  module _ (o : ℕ) (ws : List ℕ) (from : ℕ) where
    -- the words but for the eight from `from` on
    abbrev pub Around : Fml
    Around = fsep (Words o (take from ws)) (Words (8 * 8 + (from * 8 + o)) (drop (from + 8) ws))

    abbrev pub eight : List ℕ
    eight = take 8 (drop from ws)

    front : from + 8 ≤ length ws → from * 8 + o ≡ length (take from ws) * 8 + o
    front le = omega (arith, length-take from ws)

    pub eight_out : from + 8 ≤ length ws → ent 𝓤 (sem 𝓛 (Words o ws)) (sep 𝓤 (sem 𝓛 (Words (from * 8 + o) eight)) (sem 𝓛 Around))
    eight_out le =
        let long : length eight ≡ 8 = omega (arith, length-take 8 (drop from ws), length-drop from ws) in
        qed 𝓛 (‵ (Words o ws) ∷ []) ∵
        rewrite ! 0 (λ (l : List ℕ). ‵ (Words o l)) (sym (take-append-drop from ws) ∙ ap (λ (l : List ℕ). take from ws ++ l) (sym (take-append-drop 8 (drop from ws)) ∙ ap (λ (l : List ℕ). eight ++ l) (drop-drop 8 from ws))) refl $
        use1 𝓛 (‵ (Words o (take from ws)) ⊛ ‵ (Words (from * 8 + o) (eight ++ drop (from + 8) ws))) (cut (take from ws) (eight ++ drop (from + 8) ws) o (from * 8 + o) (front le)) $
        split ! $ move ! (1 ∷ []) $
        use1 𝓛 (‵ (Words (from * 8 + o) eight) ⊛ ‵ (Words (8 * 8 + (from * 8 + o)) (drop (from + 8) ws))) (cut eight (drop (from + 8) ws) (from * 8 + o) (8 * 8 + (from * 8 + o)) (omega (arith, long))) $
        split ! $ move ! (2 ∷ 1 ∷ []) $ fjoin ! $ move ! (1 ∷ []) $ done !

    pub eight_in : from + 8 ≤ length ws → (own : List ℕ) → length own ≡ 8
        → ent 𝓤 (sep 𝓤 (sem 𝓛 (Words (from * 8 + o) own)) (sem 𝓛 Around)) (sem 𝓛 (Words o (take from ws ++ (own ++ drop (from + 8) ws))))
    eight_in le own long =
        qed 𝓛 (‵ (Words (from * 8 + o) own) ∷ ‵ Around ∷ []) ∵ move ! (1 ∷ []) $ fsplit ! $ move ! (2 ∷ 1 ∷ []) $
        use2 𝓛 (‵ (Words (from * 8 + o) (own ++ drop (from + 8) ws))) (glue own (drop (from + 8) ws) (from * 8 + o) (8 * 8 + (from * 8 + o)) (omega (arith, long))) $ move ! (1 ∷ 0 ∷ []) $
        by ! (glue (take from ws) (own ++ drop (from + 8) ws) o (from * 8 + o) (front le))

  module _ (κ : Lft) where
    abbrev Seen : ℕ → List ℕ → Fml
    Seen o ws = elements_shared u64 ws b o κ

    from_on : (ws : List ℕ) (i o at : ℕ) → at ≡ i * 8 + o → ent 𝓤 (sem 𝓛 (Seen o ws)) (sem 𝓛 (Seen at (drop i ws)))
    from_on ws zero o at e = let same : o ≡ at = omega arith in subst (λ (k : ℕ). ent 𝓤 (sem 𝓛 (Seen o ws)) (sem 𝓛 (Seen k ws))) same (id⊢ 𝓤 _)
    from_on [] (suc i) o at e = id⊢ 𝓤 (emp 𝓤)
    from_on (w ∷ ws) (suc i) o at e =
        via 𝓤 (sem 𝓛 (Seen (o + 8) ws)) (snd∗ 𝓤 (sem 𝓛 (shared_of u64 w b o κ)) (sem 𝓛 (Seen (o + 8) ws))) (from_on ws i (o + 8) at (omega arith))

    up_to : (n : ℕ) (ws : List ℕ) (o : ℕ) → ent 𝓤 (sem 𝓛 (Seen o ws)) (sem 𝓛 (Seen o (take n ws)))
    up_to zero ws o = qed 𝓛 (‵ (Seen o ws) ∷ []) ∵ keep ! [] $ done !
    up_to (suc n) [] o = id⊢ 𝓤 (emp 𝓤)
    up_to (suc n) (w ∷ ws) o = mono_r 𝓤 (sem 𝓛 (shared_of u64 w b o κ)) (up_to n ws (o + 8))

    pub eight_seen : (ws : List ℕ) (from o : ℕ) → ent 𝓤 (sem 𝓛 (Seen o ws)) (sem 𝓛 (Seen (from * 8 + o) (take 8 (drop from ws))))
    eight_seen ws from o = via 𝓤 (sem 𝓛 (Seen (from * 8 + o) (drop from ws))) (from_on ws from o (from * 8 + o) refl) (up_to 8 (drop from ws) (from * 8 + o))

module _ {M : Type 1} {𝓤 : Ura M} {𝓛 : Logic 𝓤} {K : Type 0} {Γ : List (Item 𝓤)} {G : Goal 𝓤 𝓛.H} where
  pub answer_cases : K → (holds : Ty → Ptr → Fml) → (τ : Ty) (r : Result Ptr AllocError) (v : Val)
      → ((b o : ℕ) → v ≡ answer_val true b o → Seq K 𝓛 (‵ (froom τ b o) ∷ ‵ (holds τ (block_ptr b o)) ∷ Γ) G)
      → (v ≡ answer_val false 0 0 → Seq K 𝓛 Γ G)
      → Seq K 𝓛 (‵ (Answer.own_val r (v ∷ [])) ∷ ‵ (block_if_ok holds τ r) ∷ Γ) G
  answer_cases t holds τ (Ok p) v ok none =
      fpick t (λ us. fsplit t $ feq_l t (λ e. fpick t (λ vss. fsplit t $ feq_l t (λ e'. fsplit t $ feq_l t (λ e''. skip t $
      in_a_block t p (λ z. fsep (room_for τ z) (holds τ z)) (fst∗ 𝓤 (never 𝓤) (sem 𝓛 (holds τ null_ptr))) (λ b o at. fsplit t $
      ok b o (ap only e ∙ ap (λ (ws : List Val). live 0 (of_list ws)) (e' ∙ ap (λ (ws : List Val). ws ++ []) (e'' ∙ ap (λ (z : Ptr). ptr_val z ∷ []) at)))))))))
  answer_cases t holds τ (Err n) v ok none =
      fpick t (λ us. fsplit t $ feq_l t (λ e. fpick t (λ vss. fsplit t $ feq_l t (λ e'. fsplit t $ fpick t (λ nothing'. fsplit t $ feq_l t (λ e''. skip t $ skip t $ skip t $
      none (ap only e ∙ ap (λ (ws : List Val). live 1 (of_list ws)) (e' ∙ ap (λ (ws : List Val). ws ++ []) e''))))))))

module _ {M : Type 1} {𝓤 : Ura M} {𝓛 : Logic 𝓤} {K : Type 0} {Γ : List (Item 𝓤)} where
  -- a large constant
  pub big : K → {E : Env 𝓤 𝓛.H} {n : ℕ} → n < 2 ^ 64 → Opd K 𝓛 Γ E (int_big w64 n) (vint w64 n)
  big t {E} {n} fits = record { go = λ Kt h. via 𝓤 (Kt (vint w64 n)) h (guard_i 𝓤 (Fits w64 n) (Kt (vint w64 n)) (record { fits = fits })) }
