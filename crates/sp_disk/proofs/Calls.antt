-- What the recorded calls give, and one call more.
use Rattle.std.proofs.Common.{◌≡◌, ℕ, zero, suc, ◌+◌, ◌≤◌, Bool, true, false, List, [], ◌∷◌, ◌++◌, length, take, drop, refl, sym, ap, ◌∙◌, arith, length-append, length-drop}
use Rattle.std.proofs.lemmas.List.{append-nil, length-take, take-append-le, take_all}
use Rattle.sp_disk.specs.Images.{written}
use Rattle.sp_disk.specs.Pending.{State, state}
use Rattle.sp_disk.specs.History.{after, Event, events_of, Keeping, Nothing, range_of, state_after, state_of, Sync, Write}
use Rattle.sp_disk.specs.Kept.{IsKept, total, with_event, written_in_all}
use Rattle.sp_disk.specs.declared.call.Call.{Call}
use Rattle.sp_disk.specs.declared.call.Call.TheVariants.{Asked, Synced, Wrote}
use Rattle.sp_disk.specs.declared.pick.Range.{Range}
use Rattle.sp_disk.proofs.Recorded.{state-push}

pub length-events : (calls : List Call) (given : List ℕ) → length (events_of calls given) ≡ length calls
length-events [] given = refl
length-events (Asked ∷ calls) given = ap suc (length-events calls given)
length-events (Wrote at size done ∷ calls) given = ap suc (length-events calls (drop size given))
length-events (Synced ∷ calls) given = ap suc (length-events calls given)

pub total-events : (calls : List Call) (given : List ℕ) → length given ≡ total calls → written_in_all (events_of calls given) ≡ length given
total-events [] given whole = sym whole
total-events (Asked ∷ calls) given whole = total-events calls given whole
total-events (Synced ∷ calls) given whole = total-events calls given whole
total-events (Wrote at size done ∷ calls) given whole =
    let rest : length (drop size given) ≡ total calls = omega (arith, whole, length-drop size given) in
    omega (arith, whole, length-take size given, length-drop size given, total-events calls (drop size given) rest)

drop-append-le : (n : ℕ) (xs ys : List ℕ) → n ≤ length xs → drop n (xs ++ ys) ≡ drop n xs ++ ys
drop-append-le zero xs ys few = refl
drop-append-le (suc n) [] ys few = absurd (omega arith)
drop-append-le (suc n) (x ∷ xs) ys few = drop-append-le n xs ys (omega arith)

-- the last call takes what is left of the bytes
pub events-push : (calls : List Call) (call : Call) (given more : List ℕ) → length given ≡ total calls → events_of (calls ++ call ∷ []) (given ++ more) ≡ events_of calls given ++ events_of (call ∷ []) more
events-push [] call [] more whole = refl
events-push [] call (byte ∷ given) more whole = absurd (omega arith)
events-push (Asked ∷ calls) call given more whole = ap (λ (es : List Event). Nothing ∷ es) (events-push calls call given more whole)
events-push (Synced ∷ calls) call given more whole = ap (λ (es : List Event). Sync ∷ es) (events-push calls call given more whole)
events-push (Wrote at size done ∷ calls) call given more whole =
    let few : size ≤ length given = omega arith in
    let rest : length (drop size given) ≡ total calls = omega (arith, whole, length-drop size given) in
    rw (take-append-le size given more few, drop-append-le size given more few) (ap (λ (es : List Event). Write at (take size given) done ∷ es) (events-push calls call (drop size given) more rest))

total-push : (calls : List Call) (call : Call) → total (calls ++ call ∷ []) ≡ total calls + total (call ∷ [])
total-push [] call = omega arith
total-push (Asked ∷ calls) call = total-push calls call
total-push (Synced ∷ calls) call = total-push calls call
total-push (Wrote at size done ∷ calls) call = omega (arith, total-push calls call)

module _ (start : List ℕ) (calls : List Call) (given bytes synced : List ℕ) (pending : List Range) (kept : IsKept start calls given bytes synced pending) where
  -- the disk after one call more
  pushed : (call : Call) (event : Event) (more : List ℕ) (now : State) → events_of (call ∷ []) more ≡ event ∷ [] → after (state bytes synced pending) event ≡ now → state_after start (events_of (calls ++ call ∷ []) (given ++ more)) ≡ now
  pushed call event more now is then =
      ap (state_after start) (events-push calls call given more kept.whole ∙ ap (λ (es : List Event). events_of calls given ++ es) is)
      ∙ state-push start (events_of calls given) event ∙ ap (λ (s : State). after s event) kept.now ∙ then

  pub kept_asked : IsKept start (calls ++ Asked ∷ []) given bytes synced pending
  kept_asked = record {
    now = ap (λ (g : List ℕ). state_after start (events_of (calls ++ Asked ∷ []) g)) (sym (append-nil given)) ∙ pushed Asked Nothing [] (state bytes synced pending) refl refl;
    whole = omega (arith, kept.whole, total-push calls Asked);
  }

  pub kept_synced : IsKept start (calls ++ Synced ∷ []) given bytes bytes []
  kept_synced = record {
    now = ap (λ (g : List ℕ). state_after start (events_of (calls ++ Synced ∷ []) g)) (sym (append-nil given)) ∙ pushed Synced Sync [] (state bytes bytes []) refl refl;
    whole = omega (arith, kept.whole, total-push calls Synced);
  }

  one_write : (at : ℕ) (more : List ℕ) (done : Bool) → events_of (Wrote at (length more) done ∷ []) more ≡ Write at more done ∷ []
  one_write at more done = ap (λ (b : List ℕ). Write at b done ∷ []) (take_all (length more) more (omega arith))

  pub kept_done : (at : ℕ) (more : List ℕ) → IsKept start (calls ++ Wrote at (length more) true ∷ []) (given ++ more) (written bytes at more) synced (pending ++ range_of at more ∷ [])
  kept_done at more = record {
    now = pushed (Wrote at (length more) true) (Write at more true) more (state (written bytes at more) synced (pending ++ range_of at more ∷ [])) (one_write at more true) refl;
    whole = omega (arith, kept.whole, total-push calls (Wrote at (length more) true), length-append given more);
  }

  pub kept_undone : (at : ℕ) (more : List ℕ) → IsKept start (calls ++ Wrote at (length more) false ∷ []) (given ++ more) bytes synced (pending ++ range_of at more ∷ [])
  kept_undone at more = record {
    now = pushed (Wrote at (length more) false) (Write at more false) more (state bytes synced (pending ++ range_of at more ∷ [])) (one_write at more false) refl;
    whole = omega (arith, kept.whole, total-push calls (Wrote at (length more) false), length-append given more);
  }

  -- what contracts see of it
  pub saw_asked : events_of (calls ++ Asked ∷ []) given ≡ events_of calls given ++ Nothing ∷ []
  saw_asked = ap (events_of (calls ++ Asked ∷ [])) (sym (append-nil given)) ∙ events-push calls Asked given [] kept.whole

  pub saw_synced : events_of (calls ++ Synced ∷ []) given ≡ events_of calls given ++ Sync ∷ []
  saw_synced = ap (events_of (calls ++ Synced ∷ [])) (sym (append-nil given)) ∙ events-push calls Synced given [] kept.whole

  pub saw_written : (at : ℕ) (more : List ℕ) (done : Bool) → events_of (calls ++ Wrote at (length more) done ∷ []) (given ++ more) ≡ events_of calls given ++ Write at more done ∷ []
  saw_written at more done = events-push calls (Wrote at (length more) done) given more kept.whole ∙ ap (λ (es : List Event). events_of calls given ++ es) (one_write at more done)

-- how many calls contracts see, and how many bytes
pub seen_calls : (k : Keeping) (calls : List Call) (given : List ℕ) → events_of calls given ≡ k.events → length calls ≡ length k.events
seen_calls k calls given is = sym (length-events calls given) ∙ ap length is

pub seen_bytes : (k : Keeping) (calls : List Call) (given : List ℕ) → events_of calls given ≡ k.events → length given ≡ total calls → length given ≡ written_in_all k.events
seen_bytes k calls given is whole = sym (total-events calls given whole) ∙ ap written_in_all is

-- what contracts see after one event more
pub seen_more : (before k : Keeping) (event : Event) (events : List Event) → before ≡ k → events ≡ before.events ++ event ∷ [] → record before { events = events } ≡ with_event k event
seen_more before k event events same is = ap (λ (es : List Event). record before { events = es }) is ∙ ap (λ (b : Keeping). with_event b event) same

-- what is read is what the calls give
pub seen_reads : (before k : Keeping) (calls : List Call) (given bytes synced : List ℕ) (pending : List Range) → before ≡ k → before.events ≡ events_of calls given → IsKept before.start calls given bytes synced pending → (state_of k).reads ≡ bytes
seen_reads before k calls given bytes synced pending same is kept =
    ap (λ (b : Keeping). (state_of b).reads) (sym same) ∙ ap (λ (es : List Event). (state_after before.start es).reads) is ∙ ap (λ (s : State). s.reads) kept.now

-- the same of equal lists
pub kept_at : (start : List ℕ) (calls calls' : List Call) (given given' bytes bytes' synced : List ℕ) (pending pending' : List Range) → calls' ≡ calls → given' ≡ given → bytes' ≡ bytes → pending' ≡ pending
    → IsKept start calls given bytes synced pending → IsKept start calls' given' bytes' synced pending'
kept_at start calls calls' given given' bytes bytes' synced pending pending' a b c d kept = record {
  now = (λ i. state_after start (events_of (a i) (b i))) ∙ kept.now ∙ sym (λ i. state (c i) synced (d i));
  whole = ap length b ∙ kept.whole ∙ sym (ap total a);
}
