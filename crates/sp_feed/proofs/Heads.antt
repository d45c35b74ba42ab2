-- A head is what stands before its genesis block, and that block.
use Rattle.std.proofs.Common.{◌≡◌, ℕ, Result, Ok, Err, refl, sym, subst}
use Rattle.sp_form.specs.Form.{bind, Form}
use Rattle.sp_model.specs.declared.profile.Profile.{Profile}
use Rattle.sp_feed.specs.declared.fault.FeedFault.{FeedFault}
use Rattle.sp_feed.specs.declared.fault.HeadFault.{HeadFault}
use Rattle.sp_feed.specs.declared.fault.HeadFault.TheVariants.{Feed}
use Rattle.sp_feed.specs.Format.{back_form, Flaw, front_form, Head, head_form}
use Rattle.sp_feed.specs.Reads.{Moment, Reads, ReadsFront}
use Rattle.sp_feed.proofs.Joining.{head_err, head_then, reads_stop}

abbrev behind : Profile × (ℕ × ℕ) → Form Flaw Head
behind front = back_form front.0 front.1.0 front.1.1

split : head_form ≡ bind front_form behind
unfolding head_form front_form back_form bind
split = refl

-- the front, and then the back
pub head_whole : {X : Type 0} {limit : ℕ} {a b c : Moment} {view : X → Head} {front : Profile × (ℕ × ℕ)} {r : Result X HeadFault} (n : ℕ) → n ≡ front.1.1 → Reads limit a b (λ (f : Profile × (ℕ × ℕ)). f) front_form (Ok front) → ReadsFront limit b c view (back_form front.0 front.1.0 n) r → ReadsFront limit a c view head_form r
head_whole {X} {limit} {a} {b} {c} {view} {front} {r} n e f s =
    let P : ℕ → Type 0 = λ k. ReadsFront limit b c view (back_form front.0 front.1.0 k) r in
    let Q : Form Flaw Head → Type 0 = λ form. ReadsFront limit a c view form r in
    subst Q (sym split) (head_then behind f (subst P e s))

-- the front fails
pub head_unread : {X : Type 0} {limit : ℕ} {a b : Moment} {view : X → Head} {e : FeedFault} → Reads limit a b (λ (f : Profile × (ℕ × ℕ)). f) front_form (Err e) → ReadsFront limit a b view head_form (Err (Feed e))
head_unread {X} {limit} {a} {b} {view} {e} f =
    let Q : Form Flaw Head → Type 0 = λ form. ReadsFront limit a b view form (Err (Feed e)) in
    subst Q (sym split) (head_err (reads_stop behind f))
