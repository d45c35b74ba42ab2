-- What a filled buffer says of a field.
use Rattle.std.proofs.Common.{◌≡◌, ℕ, ◌+◌, ◌-◌, ◌≤◌, List, [], ◌∷◌, ◌++◌, length, take, Option, Some, None, Ok, Err, ap, sym, ◌∙◌, Bool, true, false, cond, arith, length-append, subst}
use Rattle.std.proofs.Math.Seq.{take-append-add}
use Rattle.std.proofs.lemmas.List.{length-take, append-nil}
use Rattle.std.specs.Io.KnownBytes.{Consumes}
use Rattle.sp_form.specs.Form.{Form, whole, field, first_broken, Rule, rule}
use Rattle.sp_form.specs.Places.{Got, Short, placed, unless_broken}
use Rattle.sp_form.proofs.Places.{placed_short, placed_whole}
use Rattle.sp_io.proofs.Known.{consumes_then}
use Rattle.sp_feed.specs.declared.fault.FeedFault.{FeedFault}
use Rattle.sp_feed.specs.declared.fault.FeedFault.TheVariants.{Malformed, Truncated, ReadFault, TooLong}
use Rattle.sp_feed.specs.Feed.{judged}
use Rattle.sp_feed.specs.Format.{broken, cut, Flaw}
use Rattle.sp_feed.specs.Reads.{Moment, Took, StopsShort, Says, Needs, Reads, Fills}

-- the bytes that are judged begin with those that were given
pub judged-append : (limit before now : ℕ) (given more : List ℕ) → now ≡ before + length given → now ≤ limit → judged limit before (given ++ more) ≡ record { at = before; bytes = given ++ take (limit - now) more }
judged-append limit before now given more e h =
    let room : limit - before ≡ length given + (limit - now) = omega arith in
    ap (λ k. record { at = before; bytes = take k (given ++ more) }) room ∙ ap (λ t. record { at = before; bytes = t }) (take-append-add given more (limit - now))

-- a format of one field, and the value that stands there
abbrev pub one_field : {A : Type 0} → ℕ → (List ℕ → List (Rule Flaw)) → (List ℕ → A) → Form Flaw A
one_field width rules value = field width cut rules (λ bytes. whole (value bytes))

-- less than a field doesn't tell
needs_field : {A : Type 0} (limit taken width : ℕ) (rules : List ℕ → List (Rule Flaw)) (value : List ℕ → A) (given : List ℕ) → length given ≤ width → Needs limit taken (one_field width rules value) given
needs_field limit taken width rules value given h front rest e more =
    placed_short width cut rules (λ bytes. whole (value bytes)) (judged limit taken front) (omega (arith, length-take (limit - taken) front, ap length e, length-append front rest))

-- what a whole field says, whatever follows it
field_said : {A : Type 0} (limit width : ℕ) (old new : Moment) (rules : List ℕ → List (Rule Flaw)) (value : List ℕ → A) (given more : List ℕ) (o : Option Flaw) → Took limit old new given → length given ≡ width → first_broken (rules given) ≡ o
    → placed (one_field width rules value) (judged limit old.taken (given ++ more)) ≡ unless_broken o old.taken (Got (value given) (judged limit new.taken more))
unfolding placed
field_said {A} limit width old new rules value given more o t e r =
    let now : new.taken ≡ old.taken + width = omega (arith, t.counted) in
    ap (placed (one_field width rules value)) (judged-append limit old.taken new.taken given more t.counted t.within)
    ∙ placed_whole width cut rules (λ bytes. whole (value bytes)) old.taken given (take (limit - new.taken) more) e
    ∙ ap (λ k. unless_broken k old.taken (Got (value given) (record { at = old.taken + width; bytes = take (limit - new.taken) more }))) r
    ∙ ap (λ k. unless_broken o old.taken (Got (value given) (record { at = k; bytes = take (limit - new.taken) more }))) (sym now)

-- a field that is whole and meets its rules
pub reads_field : {X A : Type 0} {limit : ℕ} {old new : Moment} {out : List ℕ} {u : Unit {0}} (width : ℕ) (rules : List ℕ → List (Rule Flaw)) (value : List ℕ → A) (view : X → A) (x : X) → Fills limit old new out (Ok u) → length out ≡ width → first_broken (rules out) ≡ None → value out ≡ view x → Reads limit old new view (one_field width rules value) (Ok x)
reads_field {limit = limit} {old = old} {new = new} {out = out} width rules value view x f e r v =
    let long : length f.given ≡ width = ap length f.fills ∙ e in
    record {
      given = f.given;
      took = f.took;
      needs = needs_field limit old.taken width rules value f.given (omega arith);
      says = λ more.
          field_said limit width old new rules value f.given more None f.took long (ap (λ b. first_broken (rules b)) f.fills ∙ r)
          ∙ ap (λ y. Got y (judged limit new.taken more)) (ap value f.fills ∙ v);
    }

-- a field that is whole and breaks a rule
pub reads_faulty : {X A : Type 0} {limit : ℕ} {old new : Moment} {out : List ℕ} {u : Unit {0}} (width : ℕ) (rules : List ℕ → List (Rule Flaw)) (value : List ℕ → A) (view : X → A) (flaw : Flaw) → Fills limit old new out (Ok u) → length out ≡ width → first_broken (rules out) ≡ Some flaw → Reads limit old new view (one_field width rules value) (Err (Malformed old.taken))
reads_faulty {limit = limit} {old = old} {new = new} {out = out} width rules value view flaw f e r =
    let long : length f.given ≡ width = ap length f.fills ∙ e in
    record {
      given = f.given;
      took = f.took;
      needs = needs_field limit old.taken width rules value f.given (omega arith);
      says = λ more. field_said limit width old new rules value f.given more (Some flaw) f.took long (ap (λ b. first_broken (rules b)) f.fills ∙ r);
    }

-- what stops short says so of each format that needs more
says_short : {X A : Type 0} (limit : ℕ) (old new : Moment) (view : X → A) (form : Form Flaw A) (given : List ℕ) (e : FeedFault) → placed form (judged limit old.taken given) ≡ Short → StopsShort limit old new e → Says limit old new view form given (Err e)
says_short limit old new view form given (Malformed at) p s = absurd s
says_short limit old new view form given (Truncated at) p s = (p, s)
says_short limit old new view form given ReadFault p s = (p, s)
says_short limit old new view form given (TooLong taken) p s = (p, s)

-- a field that isn't whole
pub reads_short : {X A : Type 0} {limit : ℕ} {old new : Moment} {out : List ℕ} {e : FeedFault} (width : ℕ) (rules : List ℕ → List (Rule Flaw)) (value : List ℕ → A) (view : X → A) → Fills limit old new out (Err e) → length out ≡ width → Reads limit old new view (one_field width rules value) (Err e)
reads_short {limit = limit} {old = old} {new = new} {out = out} {e = e} width rules value view f l = record {
  given = f.given;
  took = f.took;
  needs = needs_field limit old.taken width rules value f.given (omega (arith, f.fills.0, l));
  says = says_short limit old new view (one_field width rules value) f.given e (placed_short width cut rules (λ bytes. whole (value bytes)) (judged limit old.taken f.given) (omega (arith, length-take (limit - old.taken) f.given, f.fills.0))) f.fills.1;
}

-- a last read that gave nothing
pub consumes_none : (a b c : Option (List ℕ)) (xs ys : List ℕ) → Consumes a b xs → Consumes b c (take 0 ys) → Consumes a c xs
consumes_none a b c xs ys p q =
    let P : List ℕ → Type 0 = λ t. Consumes a c t in
    subst P (append-nil xs) (consumes_then a b c xs (take 0 ys) p q)

-- one rule, by its test
pub met : (test : Bool) → test ≡ true → first_broken (rule test broken ∷ []) ≡ None
met test e = ap (λ b. cond b None (Some broken)) e

pub unmet : (test : Bool) → test ≡ false → first_broken (rule test broken ∷ []) ≡ Some broken
unmet test e = ap (λ b. cond b None (Some broken)) e
