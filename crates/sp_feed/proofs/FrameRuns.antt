-- Frames are read without regard to the bound on their number.
use Rattle.std.proofs.Common.{◌≡◌, ℕ, zero, suc, ◌+◌, ◌<◌, ◌≤◌, length, Option, Some, None, refl, ap, sym, ◌∙◌, arith}
use Rattle.sp_form.specs.Form.{bind}
use Rattle.sp_form.specs.Places.{Input, Placed, Got, Faulty, Short, placed}
use Rattle.sp_form.proofs.Places.{placed_short, takes_field}
use Rattle.sp_feed.specs.Kinds.{Said}
use Rattle.sp_feed.specs.Feed.{all_frames, FrameByFrame, frames, one_then, Run, run_of}
use Rattle.sp_feed.specs.Format.{frame_form}

-- a frame takes a byte
frame_takes : (input rest : Input) (m : Option Said) → placed frame_form input ≡ Got m rest → length rest.bytes + 1 ≤ length input.bytes
unfolding frame_form bind
frame_takes input rest m e = takes_field 1 _ _ _ input rest m e

-- nothing is no frame
frame_none : (input : Input) → length input.bytes < 1 → placed frame_form input ≡ Short
unfolding frame_form bind
frame_none input few = placed_short 1 _ _ _ input few

same_run : (o : Placed (Option Said)) (f g : Input → Run) → ((m : Option Said) (rest : Input) → o ≡ Got m rest → f rest ≡ g rest) → run_of o f ≡ run_of o g
same_run (Faulty at) f g h = refl
same_run Short f g h = refl
same_run (Got None rest) f g h = refl
same_run (Got (Some m) rest) f g h = ap (one_then m) (h (Some m) rest refl)

-- any bound that is large enough gives the same
frames_bound : (n m : ℕ) (input : Input) → length input.bytes ≤ n → length input.bytes ≤ m → frames n input ≡ frames m input
unfolding frames
frames_bound zero zero input h k = refl
frames_bound zero (suc m) input h k = sym (ap (λ o. run_of o (frames m)) (frame_none input (omega (arith, h))))
frames_bound (suc n) zero input h k = ap (λ o. run_of o (frames n)) (frame_none input (omega (arith, k)))
frames_bound (suc n) (suc m) input h k = same_run (placed frame_form input) (frames n) (frames m) (λ s rest e. let l = frame_takes input rest s e in frames_bound n m rest (omega (arith, l, h)) (omega (arith, l, k)))

pub frame_by_frame : FrameByFrame
unfolding frames all_frames
frame_by_frame input =
    frames_bound (length input.bytes) (suc (length input.bytes)) input (omega arith) (omega arith)
    ∙ same_run (placed frame_form input) (frames (length input.bytes)) all_frames (λ s rest e. let l = frame_takes input rest s e in frames_bound (length input.bytes) (length rest.bytes) rest (omega (arith, l)) (omega arith))
