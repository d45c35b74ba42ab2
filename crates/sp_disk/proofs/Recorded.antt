-- One more recorded call, and what it does to the images.
use Rattle.std.proofs.Common.{◌≡◌, ◌⊎◌, inl, inr, ℕ, zero, suc, ◌+◌, ◌<◌, ◌≤◌, ◌-◌, List, [], ◌∷◌, ◌++◌, length, get_or, take, drop, refl, sym, ap, subst, ◌∙◌, arith, length-append}
use Rattle.std.specs.Prelude.{max, min}
use Rattle.std.proofs.lemmas.Bool.{cases_lt}
use Rattle.std.proofs.lemmas.List.{ext_get_or, length-take, take-append-le, take_all, get_or-take, get_or-drop, get_or-append_right, get_or_append_left}
use Rattle.std.proofs.lemmas.Grind.{fold-append}
use Rattle.sp_form.specs.Bytes.{IsBytes}
use Rattle.sp_disk.specs.Images.{Among, EachComesBy, PartlyWritten, Same, written}
use Rattle.sp_disk.specs.Pending.{IsApart, IsFree, IsImage, reach, State, state}
use Rattle.sp_disk.specs.History.{after, Event, range_of, state_after, WasLeft, WasLeftAt}
use Rattle.sp_disk.specs.Sound.{reach-push}
use Rattle.sp_disk.specs.declared.pick.Range.{Range}

-- ---- time

module _ (start : List ℕ) (events : List Event) (event : Event) where
  abbrev more : List Event
  more = events ++ event ∷ []

  pub state-push : state_after start more ≡ after (state_after start events) event
  state-push = fold-append after (state start start []) events (event ∷ [])

  length-more : length more ≡ length events + 1
  length-more = length-append events (event ∷ [])

  pub was_or_is : (t : ℕ) (image : List ℕ) → WasLeft start more t image → WasLeft start events t image ⊎ IsImage (state_after start more) image
  was_or_is t image left = elim (cases_lt (length events) left.moment) [
    | inl last ↦ inr (subst (λ (es : List Event). IsImage (state_after start es) image) (take_all left.moment more (omega (arith, length-more, last))) left.left)
    | inr earlier ↦ inl (record { moment = left.moment; from = left.from; until = earlier; left = subst (λ (es : List Event). IsImage (state_after start es) image) (take-append-le left.moment events (event ∷ []) earlier) left.left })
  ]

  pub still_was : (t : ℕ) (image : List ℕ) → WasLeft start events t image → WasLeft start more t image
  still_was t image left = record {
    moment = left.moment;
    from = left.from;
    until = omega (arith, left.until, length-more);
    left = subst (λ (es : List Event). IsImage (state_after start es) image) (sym (take-append-le left.moment events (event ∷ []) left.until)) left.left;
  }

  -- the moments before stay, and there is one more
  was_same : (t : ℕ) → t ≤ length events → take t more ≡ take t events
  was_same t le = take-append-le t events (event ∷ []) le

  pub was_at : (t : ℕ) → t ≤ length events → Same (WasLeftAt start events t) (WasLeftAt start more t)
  was_at t le = (λ image left. subst (λ (es : List Event). IsImage (state_after start es) image) (was_same t le) left, λ image left. subst (λ (es : List Event). IsImage (state_after start es) image) (sym (was_same t le)) left)

  is_at : (t : ℕ) → length events < t → take t more ≡ more
  is_at t past = take_all t more (omega (arith, length-more, past))

  pub one_more : (t u : ℕ) → length events < t → t ≤ u → Among (WasLeftAt start more t) (WasLeftAt start more u)
  one_more t u past le image left = subst (λ (es : List Event). IsImage (state_after start es) image) (is_at u (omega (arith, past, le)) ∙ sym (is_at t past)) left

  -- where the images become no more, they are at each moment since among those from before
  pub still_among : Among (IsImage (state_after start events)) (IsImage (state_after start more)) → (t : ℕ) → length events ≤ t → Among (IsImage (state_after start events)) (WasLeftAt start more t)
  still_among fewer t from image left = elim (cases_lt (length events) t) [
    | inl past ↦ fewer image (subst (λ (es : List Event). IsImage (state_after start es) image) (is_at t past) left)
    | inr le ↦ subst (λ (es : List Event). IsImage (state_after start es) image) (was_same t le ∙ take_all t events from) left
  ]

-- ---- a write

-- the bytes that a test by places gives
abbrev tabulated : (ℕ → ℕ) → ℕ → List ℕ
tabulated f zero = []
tabulated f (suc n) = f 0 ∷ tabulated (λ k. f (suc k)) n

length-tabulated : (f : ℕ → ℕ) (n : ℕ) → length (tabulated f n) ≡ n
length-tabulated f zero = refl
length-tabulated f (suc n) = ap suc (length-tabulated (λ k. f (suc k)) n)

get_or-tabulated : (f : ℕ → ℕ) (n place : ℕ) → place < n → get_or (tabulated f n) place 0 ≡ f place
get_or-tabulated f zero place inside = absurd (omega arith)
get_or-tabulated f (suc n) zero inside = refl
get_or-tabulated f (suc n) (suc place) inside = get_or-tabulated (λ k. f (suc k)) n place (omega arith)

bytes-tabulated : (f : ℕ → ℕ) (n : ℕ) → ((k : ℕ) → f k < 256) → IsBytes (tabulated f n)
bytes-tabulated f zero small place = omega arith
bytes-tabulated f (suc n) small zero = small 0
bytes-tabulated f (suc n) small (suc place) = bytes-tabulated (λ k. f (suc k)) n (λ k. small (suc k)) place

-- a place is in the range of a write, or it isn't
in_range : (at n place : ℕ) → (at ≤ place) × (place < at + n) ⊎ ((place < at) ⊎ (at + n ≤ place))
in_range at n place = elim (cases_lt place at) [
  | inl before ↦ inr (inl before)
  | inr behind ↦ elim (cases_lt place (at + n)) [
    | inl inside ↦ inl (behind, inside)
    | inr past ↦ inr (inr past)
  ]
]

pub free-push : (ranges : List Range) (range : Range) (place : ℕ) → IsFree ranges place → IsApart range place → IsFree (ranges ++ range ∷ []) place
free-push [] range place free apart = (apart, tt)
free-push (r ∷ ranges) range place free apart = (free.0, free-push ranges range place free.1 apart)

pub least_reach : (n : ℕ) (ranges : List Range) → n ≤ reach n ranges
least_reach n [] = omega arith
least_reach n (r ∷ ranges) = omega (arith, least_reach (max n (r.at + r.size)) ranges)

abbrev Placed : ℕ → ℕ → ℕ → Type 0
Placed at n place = ((at ≤ place) × (place < at + n)) ⊎ ((place < at) ⊎ (at + n ≤ place))

-- the first number in the range, and the second one elsewhere
abbrev mix : (at n place a b : ℕ) → Placed at n place → ℕ
mix at n place a b (inl inside) = a
mix at n place a b (inr outside) = b

mix_apart : (at n place a b : ℕ) (where_it_is : Placed at n place) → (place < at) ⊎ (at + n ≤ place) → mix at n place a b where_it_is ≡ b
mix_apart at n place a b (inl inside) (inl before) = absurd (omega arith)
mix_apart at n place a b (inl inside) (inr behind) = absurd (omega arith)
mix_apart at n place a b (inr outside) apart = refl

mix_small : (at n place a b : ℕ) (where_it_is : Placed at n place) → a < 256 → b < 256 → mix at n place a b where_it_is < 256
mix_small at n place a b (inl inside) small low = small
mix_small at n place a b (inr outside) small low = low

mix_first : (at n place a b : ℕ) (where_it_is : Placed at n place) → ((place < at) ⊎ (at + n ≤ place) → b ≡ a) → mix at n place a b where_it_is ≡ a
mix_first at n place a b (inl inside) same = refl
mix_first at n place a b (inr outside) same = same outside

-- outside the range both have the same bytes
abbrev pub Agree : ℕ → ℕ → ℕ → List ℕ → List ℕ → Type 0
Agree at n limit old new = (place : ℕ) → place < limit → (place < at) ⊎ (at + n ≤ place) → get_or new place 0 ≡ get_or old place 0

module _ (s : State) (at : ℕ) (bytes reads : List ℕ) (are_bytes : IsBytes s.reads) (agree : Agree at (length bytes) (length s.synced) s.reads reads) where
  abbrev written_state : State
  written_state = state reads s.synced (s.pending ++ range_of at bytes ∷ [])

  mixed : List ℕ → ℕ → ℕ
  mixed image place = mix at (length bytes) place (get_or s.reads place 0) (get_or image place 0) (in_range at (length bytes) place)

  -- an image after a write is one from before it, torn by the write
  pub write_follows : EachComesBy (PartlyWritten at (length bytes)) (IsImage s) (IsImage written_state)
  unfolding mixed
  write_follows image left =
      let n = length bytes in
      let m = min (length image) (reach (length s.synced) s.pending) in
      let before = tabulated (mixed image) m in
      let size = length-tabulated (mixed image) m in
      let low = least_reach (length s.synced) s.pending in
      let high = reach-push (length s.synced) s.pending (range_of at bytes) in
      let is_image : IsImage s before = record {
        bytes = bytes-tabulated (mixed image) m (λ k. mix_small at n k (get_or s.reads k 0) (get_or image k 0) (in_range at n k) (are_bytes k) (left.bytes k));
        no_shorter = omega (arith, size, low, left.no_shorter);
        no_longer = omega (arith, size);
        same = λ place inside free.
            get_or-tabulated (mixed image) m place (omega (arith, inside, low, left.no_shorter))
            ∙ mix_first at n place (get_or s.reads place 0) (get_or image place 0) (in_range at n place)
            (λ apart. left.same place inside (free-push s.pending (range_of at bytes) place free apart) ∙ agree place inside apart);
      } in
      let torn : PartlyWritten at n before image = record {
        no_shorter = omega (arith, size);
        no_longer = omega (arith, size, high, left.no_longer);
        same = λ place inside apart.
            sym (get_or-tabulated (mixed image) m place (omega (arith, inside, size)) ∙ mix_apart at n place (get_or s.reads place 0) (get_or image place 0) (in_range at n place) apart);
      } in
      (before, is_image, torn)

-- a write that was done leaves the bytes outside its range
pub agree_written : (at limit : ℕ) (bytes old : List ℕ) → limit ≤ length old → Agree at (length bytes) limit old (written old at bytes)
agree_written at limit bytes old few place inside (inl before) =
    get_or_append_left (take at old) (bytes ++ drop (at + length bytes) old) 0 place (omega (arith, before, inside, few, length-take at old)) ∙ get_or-take at old place 0 before
agree_written at limit bytes old few place inside (inr behind) =
    let n = length bytes in
    let rest = drop (at + n) old in
    let size : length (take at old) ≡ at = omega (arith, behind, inside, few, length-take at old) in
    let is : at + n + (place - at - n) ≡ place = omega arith in
    get_or-append_right (take at old) (bytes ++ rest) at place 0 size (omega arith)
    ∙ get_or-append_right bytes rest n (place - at) 0 refl (omega arith)
    ∙ get_or-drop (at + n) old (place - at - n) 0
    ∙ ap (λ k. get_or old k 0) is

-- a write that wasn't
pub agree_same : (at n limit : ℕ) (old : List ℕ) → Agree at n limit old old
agree_same at n limit old place inside apart = refl

-- after a sync what is read is the one image
pub synced_only : (reads image : List ℕ) → IsImage (state reads reads []) image → image ≡ reads
synced_only reads image left = ext_get_or 0 image reads (omega (arith, left.no_shorter, left.no_longer)) (λ place inside. left.same place (omega (arith, left.no_longer)) tt)

-- and it was one before
pub sync_among : (s : State) → IsImage s s.reads → Among (IsImage s) (IsImage (state s.reads s.reads []))
sync_among s law image left = subst (IsImage s) (sym (synced_only s.reads image left)) law
