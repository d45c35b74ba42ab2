-- What is said of pairs of numbers is what is said of the pairs of their blocks.
use Rattle.std.proofs.Common.{◌≡◌, ℕ, ◌+◌, ◌<◌, ◌≤◌, Bool, true, false, cond, List, [], ◌∷◌, ◌++◌, drop, get_or, length, map, set, take, refl, sym, ap, ap₂, ◌∙◌, inl, inr, Option, Some, None, arith}
use Rattle.std.proofs.lemmas.List.{map-append, map_more, take_all, take_more_set}
use Rattle.sp_block.specs.Block.{ReadBlock}
use Rattle.sp_model.specs.Graph.{has}
use Rattle.sp_model.specs.declared.profile.Profile.{Profile}
use Rattle.sp_model.specs.declared.word.Word.{Word}
use Rattle.sp_pool.specs.Kept.{present}
use Rattle.sp_report.specs.Texts.{pairs_of}
use Rattle.sp_engine.proofs.WordsByNumbers.{word_absent}
use Rattle.spectre.specs.Numbering.{AreNumbers, id_of, if_present, number_word, said_of}
use Rattle.spectre.specs.Summary.{pair_word, pair_words}

module _ (profile : Profile) (kept : List ReadBlock) where
  -- where one of two blocks isn't present nothing is said of them
  said_if_present : (x y : ℕ) → said_of profile kept (if_present kept x) (if_present kept y) ≡ pair_word profile kept (x, y)
  said_if_present x y = at (has (present kept) x) (has (present kept) y) refl refl
    where
      at : (c d : Bool) → has (present kept) x ≡ c → has (present kept) y ≡ d → said_of profile kept (cond c (Some x) None) (cond d (Some y) None) ≡ pair_word profile kept (x, y)
      at true true _ _ = refl
      at true false _ e = sym (word_absent profile kept x y (inr e))
      at false d e _ = sym (word_absent profile kept x y (inl e))

  one_word : (x y m n : ℕ) → id_of kept m ≡ if_present kept x → id_of kept n ≡ if_present kept y → number_word profile kept (m, n) ≡ pair_word profile kept (x, y)
  one_word x y m n first second = ap₂ (said_of profile kept) first second ∙ said_if_present x y

  first_of : (x m : ℕ) (xs ms : List ℕ) → AreNumbers kept (x ∷ xs) (m ∷ ms) → id_of kept m ≡ if_present kept x
  first_of x m xs ms are = ap (λ (l : List (Option ℕ)). get_or l 0 None) are

  rest_of : (x m : ℕ) (xs ms : List ℕ) → AreNumbers kept (x ∷ xs) (m ∷ ms) → AreNumbers kept xs ms
  rest_of x m xs ms are = ap (λ (l : List (Option ℕ)). drop 1 l) are

  -- of a block and each of some others
  with_others : (x m : ℕ) (ys ns : List ℕ) → id_of kept m ≡ if_present kept x → AreNumbers kept ys ns
      → map (number_word profile kept) (map (λ (n : ℕ). (m, n)) ns) ≡ map (pair_word profile kept) (map (λ (y : ℕ). (x, y)) ys)
  with_others x m [] [] first are = refl
  with_others x m [] (n ∷ ns) first are = cc
  with_others x m (y ∷ ys) [] first are = cc
  with_others x m (y ∷ ys) (n ∷ ns) first are =
      ap₂ (λ (w : Word) (ws : List Word). w ∷ ws) (one_word x y m n first (first_of y n ys ns are)) (with_others x m ys ns first (rest_of y n ys ns are))

  -- and of each pair
  pub same_words : (ids numbers : List ℕ) → AreNumbers kept ids numbers → map (number_word profile kept) (pairs_of numbers) ≡ pair_words profile kept ids
  unfolding pairs_of
  same_words [] [] are = refl
  same_words [] (m ∷ ms) are = cc
  same_words (x ∷ xs) [] are = cc
  same_words (x ∷ xs) (m ∷ ms) are =
      map-append (number_word profile kept) (map (λ (n : ℕ). (m, n)) ms) (pairs_of ms)
      ∙ ap₂ (λ (us vs : List Word). us ++ vs) (with_others x m xs ms (first_of x m xs ms are) (rest_of x m xs ms are)) (same_words xs ms (rest_of x m xs ms are))
      ∙ sym (map-append (pair_word profile kept) (map (λ (y : ℕ). (x, y)) xs) (pairs_of xs))

module _ (kept : List ReadBlock) where
  -- one more number is set
  pub next_set : (ids numbers : List ℕ) (i id number : ℕ) → i < length ids → length numbers ≡ length ids → id ≡ get_or ids i id → id_of kept number ≡ if_present kept id
      → AreNumbers kept (take i ids) (take i numbers) → AreNumbers kept (take (i + 1) ids) (take (i + 1) (set numbers i number))
  next_set ids numbers i id number l long is_id is_number are =
      ap (map (id_of kept)) (take_more_set numbers i number (omega (arith, l, long)))
      ∙ map-append (id_of kept) (take i numbers) (number ∷ [])
      ∙ ap₂ (λ (us : List (Option ℕ)) (u : Option ℕ). us ++ u ∷ []) are (is_number ∙ ap (if_present kept) is_id)
      ∙ sym (map_more (if_present kept) ids i id l)

  -- all are
  pub all_set : (ids numbers : List ℕ) (i : ℕ) → length ids ≤ i → length numbers ≡ length ids → AreNumbers kept (take i ids) (take i numbers) → AreNumbers kept ids numbers
  all_set ids numbers i l long are =
      ap (map (id_of kept)) (sym (take_all i numbers (omega (arith, l, long)))) ∙ are ∙ ap (map (if_present kept)) (take_all i ids l)
