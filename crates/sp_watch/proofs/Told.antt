-- The lines of what is told to change after an arrival, and the blocks that are kept after one more.
use Rattle.std.proofs.Common.{◌≡◌, ℕ, suc, ◌<◌, get_or, List, [], ◌∷◌, ◌++◌, length, length-append, append_assoc, map, take, Option, Some, inl, inr, refl, sym, ap, ◌∙◌, arith}
use Rattle.std.specs.Prelude.{flat_map, fold, slice_get}
use Rattle.std.proofs.lemmas.Bool.{cases_Bool}
use Rattle.std.proofs.lemmas.List.{map-append}
use Rattle.std.proofs.Math.Seq.{take-suc}
use Rattle.sp_block.specs.Block.{ReadBlock}
use Rattle.sp_model.specs.declared.profile.Profile.{Profile}
use Rattle.sp_engine.specs.Arrivals.{kept_after, kept_by_all}
use Rattle.sp_watch.specs.declared.item.Entry.{Entry}
use Rattle.sp_watch.specs.declared.item.Item.{Item}
use Rattle.sp_watch.specs.Arrivals.{changes_text, held_texts, history_of, turn_text}
use Rattle.sp_watch.specs.Lines.{change_at, change_by, change_text, held_of}
use Rattle.sp_watch.specs.Watching.{noted, turned_from, turns, values}

-- ---- one arrival more

fold_more : {A B : Type 0} (f : A → B → A) (a : A) (xs : List B) (x : B) → fold f a (xs ++ x ∷ []) ≡ f (fold f a xs) x
fold_more f a [] x = refl
fold_more f a (y ∷ ys) x = fold_more f (f a y) ys x

pub one_more : (bits : ℕ) (genesis : ReadBlock) (arrivals : List (List ℕ)) (k : ℕ) (bytes : List ℕ) → k < length arrivals → get_or arrivals k bytes ≡ bytes
    → kept_after bits (history_of bits genesis arrivals k) bytes ≡ history_of bits genesis arrivals (suc k)
one_more bits genesis arrivals k bytes lt is =
    sym (fold_more (kept_after bits) (genesis ∷ []) (take k arrivals) bytes)
    ∙ ap (kept_by_all bits genesis) (ap (λ (b : List ℕ). take k arrivals ++ b ∷ []) (sym is) ∙ sym (take-suc arrivals k bytes lt))

-- ---- the lines

entry_behind : (front : List Entry) (e : Entry) (back : List Entry) → slice_get (front ++ e ∷ back) (length front) ≡ Some e
entry_behind [] e back = refl
entry_behind (x ∷ front) e back = entry_behind front e back

mapped_long : (f : Item → Entry) (items : List Item) → length (map f items) ≡ length items
mapped_long f [] = refl
mapped_long f (item ∷ items) = ap suc (mapped_long f items)

module _ (profile : Profile) (history : ℕ → List ReadBlock) (k : ℕ) where
  abbrev now : Item → Entry
  now item = noted profile history (suc k) item

  -- the item of a place behind others
  own : (front : List Item) (item : Item) (items : List Item) → slice_get (map now (front ++ item ∷ items)) (length front) ≡ Some (now item)
  own front item items =
      ap (λ (l : List Entry). slice_get l (length front)) (map-append now front (item ∷ items))
      ∙ ap (slice_get (map now front ++ now item ∷ map now items)) (sym (mapped_long now front))
      ∙ entry_behind (map now front) (now item) (map now items)

  written_from : (front items : List Item) → flat_map (change_at (map now (front ++ items))) (turned_from profile history k (length front) items) ≡ flat_map (turn_text profile history k) items
  written_from front [] = refl
  written_from front (item ∷ items) =
      let more = written_from (front ++ item ∷ []) items in
      let rest : flat_map (change_at (map now (front ++ item ∷ items))) (turned_from profile history k (suc (length front)) items) ≡ flat_map (turn_text profile history k) items =
      ap (λ (l : List Item). flat_map (change_at (map now l)) (turned_from profile history k (suc (length front)) items)) (sym (append_assoc front (item ∷ []) items))
      ∙ ap (λ (n : ℕ). flat_map (change_at (map now ((front ++ item ∷ []) ++ items))) (turned_from profile history k n items)) (let s : suc (length front) ≡ length (front ++ item ∷ []) = omega (arith, length-append front (item ∷ [])) in s)
      ∙ more in
      elim (cases_Bool (turns (values profile history item) k)) [
        | inl e ↦
            rw e
            (ap (λ (o : Option Entry). change_by o (record { item = length front; from = values profile history item k; to = values profile history item (suc k) })
            ++ flat_map (change_at (map now (front ++ item ∷ items))) (turned_from profile history k (suc (length front)) items)) (own front item items)
            ∙ ap (λ (l : List ℕ). change_text item (values profile history item k) (values profile history item (suc k)) ++ l) rest)
        | inr e ↦ rw e rest
      ]

  pub all_written : (items : List Item) → flat_map (change_at (map now items)) (turned_from profile history k 0 items) ≡ changes_text profile history k items
  unfolding changes_text
  all_written items = written_from [] items

  pub all_held : (items : List Item) → flat_map held_of (map (noted profile history k) items) ≡ held_texts profile history k items
  unfolding held_texts
  all_held [] = refl
  all_held (item ∷ items) = ap (λ (l : List ℕ). held_of (noted profile history k item) ++ l) (all_held items)
