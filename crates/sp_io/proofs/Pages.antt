-- A page of bytes before a sink: what was handed on and what waits are what was written.
use Rattle.std.proofs.Common.{◌≡◌, ℕ, List, [], ◌++◌, Option, Result, Ok, Err, OnErr, refl, ap, subst, ◌∙◌, sym, append_assoc}
use Rattle.std.specs.Prelude.{OnOk}
use Rattle.std.specs.Io.KnownBytes.{Appends}
use Rattle.sp_io.specs.Whole.{Wrote, AppendsFront}
use Rattle.sp_io.proofs.Writing.{appends_then, wrote_none, wrote_stops}

-- nothing was handed on
pub waits : (a : Option (List ℕ)) (page piece : List ℕ) → Wrote a a (page ++ piece) (page ++ piece)
waits a page piece = wrote_none a (page ++ piece)

-- the page was, and the piece waits
pub goes : (a b : Option (List ℕ)) (page piece : List ℕ) → Appends a b page → Wrote a b (page ++ piece) ([] ++ piece)
goes a b page piece p = record { front = page; appended = p; split = refl }

-- a front of the page was
pub stops : (a b : Option (List ℕ)) (page piece : List ℕ) → AppendsFront a b page → AppendsFront a b (page ++ piece)
stops a b page piece p = wrote_stops page piece (wrote_none a (page ++ piece)) p

-- ---- a part of what is left is written, and a part of what is left then

pub wrote_then : {a b c : Option (List ℕ)} {whole left now : List ℕ} → Wrote a b whole left → Wrote b c left now → Wrote a c whole now
wrote_then {a = a} {b = b} {c = c} {now = now} w p = record {
  front = w.front ++ p.front;
  appended = appends_then a b c w.front p.front w.appended p.appended;
  split = w.split ∙ ap (λ t. w.front ++ t) p.split ∙ sym (append_assoc w.front p.front now);
}

pub front_then : {a b c : Option (List ℕ)} {whole left : List ℕ} → Wrote a b whole left → AppendsFront b c left → AppendsFront a c whole
front_then w p = (p.0, wrote_then w p.1)

-- more is to be written behind it
behind : {a b : Option (List ℕ)} {whole now : List ℕ} (rest : List ℕ) → Wrote a b whole now → Wrote a b (whole ++ rest) (now ++ rest)
behind {now = now} rest w = record {
  front = w.front;
  appended = w.appended;
  split = ap (λ t. t ++ rest) w.split ∙ append_assoc w.front now rest;
}

-- ---- a text whose rest is to be written behind the page

-- its next piece is written
pub goes_on : {a b c : Option (List ℕ)} {whole now : List ℕ} (page left piece rest : List ℕ) → left ≡ piece ++ rest → Wrote a b whole (page ++ left)
    → Wrote b c (page ++ piece) now → Wrote a c whole (now ++ rest)
goes_on {b = b} {c = c} {now = now} page left piece rest e w p =
    wrote_then w (subst (λ (t : List ℕ). Wrote b c t (now ++ rest)) (append_assoc page piece rest ∙ ap (λ t. page ++ t) (sym e)) (behind rest p))

-- a front of that piece is
pub stops_there : {a b c : Option (List ℕ)} {whole : List ℕ} (page left piece rest : List ℕ) → left ≡ piece ++ rest → Wrote a b whole (page ++ left)
    → AppendsFront b c (page ++ piece) → AppendsFront a c whole
stops_there {b = b} {c = c} page left piece rest e w p =
    front_then w
    (subst (λ (t : List ℕ). AppendsFront b c t) (append_assoc page piece rest ∙ ap (λ t. page ++ t) (sym e)) (p.0 ++ rest, behind rest p.1))

-- ---- a head, and the rest

-- the head is written
pub head_goes : {a b : Option (List ℕ)} {now : List ℕ} (page piece head rest : List ℕ) → piece ≡ head → Wrote a b (page ++ piece) now → Wrote a b (page ++ (head ++ rest)) (now ++ rest)
head_goes {a = a} page piece head rest e p = goes_on page (head ++ rest) piece rest (ap (λ t. t ++ rest) (sym e)) (wrote_none a (page ++ (head ++ rest))) p

-- a front of it is
pub head_stops : {a b : Option (List ℕ)} (page piece head rest : List ℕ) → piece ≡ head → AppendsFront a b (page ++ piece) → AppendsFront a b (page ++ (head ++ rest))
head_stops {a = a} page piece head rest e p = stops_there page (head ++ rest) piece rest (ap (λ t. t ++ rest) (sym e)) (wrote_none a (page ++ (head ++ rest))) p

-- nothing waited before
pub start_goes : {a b : Option (List ℕ)} {now : List ℕ} (page piece head rest : List ℕ) → page ≡ [] → piece ≡ head → Wrote a b (page ++ piece) now → Wrote a b (head ++ rest) (now ++ rest)
start_goes {a = a} {b = b} {now = now} page piece head rest none e p =
    subst (λ (t : List ℕ). Wrote a b (t ++ (head ++ rest)) (now ++ rest)) none (head_goes page piece head rest e p)

pub start_stops : {a b : Option (List ℕ)} (page piece head rest : List ℕ) → page ≡ [] → piece ≡ head → AppendsFront a b (page ++ piece) → AppendsFront a b (head ++ rest)
start_stops {a = a} {b = b} page piece head rest none e p =
    subst (λ (t : List ℕ). AppendsFront a b (t ++ (head ++ rest))) none (head_stops page piece head rest e p)

-- ---- the end of a text

-- the rest is written, or a front of it
pub rest_goes : (a b c : Option (List ℕ)) (whole left now : List ℕ) {T E : Type 0} (r : Result T E) → Wrote a b whole left → OnOk r (Wrote b c left now) → OnOk r (Wrote a c whole now)
rest_goes a b c whole left now (Ok x) w p = wrote_then w p
rest_goes a b c whole left now (Err e) w p = tt

pub rest_stops : (a b c : Option (List ℕ)) (whole left : List ℕ) {T E : Type 0} (r : Result T E) → Wrote a b whole left → OnErr r (AppendsFront b c left) → OnErr r (AppendsFront a c whole)
rest_stops a b c whole left (Ok x) w p = tt
rest_stops a b c whole left (Err e) w p = front_then w p

-- what waits is handed on, and it is all
pub all_goes : (a b c : Option (List ℕ)) (whole page : List ℕ) {T E : Type 0} (r : Result T E) → Wrote a b whole page → OnOk r (Appends b c page) → OnOk r (Appends a c whole)
all_goes a b c whole page (Ok x) w p =
    subst (λ (t : List ℕ). Appends a c t) (sym w.split) (appends_then a b c w.front page w.appended p)
all_goes a b c whole page (Err e) w p = tt
