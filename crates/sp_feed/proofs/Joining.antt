-- One reading after another.
use Rattle.std.proofs.Common.{◌≡◌, ℕ, ◌<◌, ◌≤◌, List, [], ◌∷◌, ◌++◌, length, Result, Ok, Err, inl, inr, ◌⊎◌, refl, ap, sym, ◌∙◌, arith, length-append, append_assoc}
use Rattle.sp_form.specs.Form.{bind, Form, whole}
use Rattle.sp_form.specs.Places.{go_on, Got, Short, placed}
use Rattle.sp_form.proofs.Places.{placed_then}
use Rattle.sp_io.proofs.Known.{consumes_then}
use Rattle.sp_feed.specs.declared.fault.FeedFault.{FeedFault}
use Rattle.sp_feed.specs.declared.fault.FeedFault.TheVariants.{Malformed, Truncated, ReadFault, TooLong}
use Rattle.sp_feed.specs.declared.fault.HeadFault.{HeadFault}
use Rattle.sp_feed.specs.declared.fault.HeadFault.TheVariants.{Feed, Memory}
use Rattle.sp_feed.specs.Feed.{judged}
use Rattle.sp_feed.specs.Format.{Flaw}
use Rattle.sp_feed.specs.Reads.{Moment, Took, StopsShort, Says, SaysFront, Needs, Reads, ReadsFront}

pub took_then : (limit : ℕ) (a b c : Moment) (xs ys : List ℕ) → Took limit a b xs → Took limit b c ys → Took limit a c (xs ++ ys)
took_then limit a b c xs ys p q = record {
  consumed = consumes_then a.left b.left c.left xs ys p.consumed q.consumed;
  counted = omega (arith, p.counted, q.counted, length-append xs ys);
  within = q.within;
  later = omega (arith, p.later, q.later);
}

-- what the first bytes say, whatever follows them
abbrev SaysFirst : {A : Type 0} → ℕ → ℕ → ℕ → Form Flaw A → A → List ℕ → Type 0
SaysFirst limit before now form x given = (more : List ℕ) → placed form (judged limit before (given ++ more)) ≡ Got x (judged limit now more)

-- why it stops is why the whole does
stops_then : (limit : ℕ) (a b c : Moment) (e : FeedFault) → a.faults ≤ b.faults → StopsShort limit b c e → StopsShort limit a c e
stops_then limit a b c (Malformed at) h s = s
stops_then limit a b c (Truncated at) h s = s
stops_then limit a b c ReadFault h s = (s.0, omega (arith, s.1))
stops_then limit a b c (TooLong taken) h s = s

-- the first bytes, and then the next
onward : {A B : Type 0} (limit t0 t1 : ℕ) (p : Form Flaw A) (q : A → Form Flaw B) (x : A) (xs ys : List ℕ) → SaysFirst limit t0 t1 p x xs → placed (bind p q) (judged limit t0 (xs ++ ys)) ≡ placed (q x) (judged limit t1 ys)
onward limit t0 t1 p q x xs ys h = placed_then p q (judged limit t0 (xs ++ ys)) ∙ ap (λ o. go_on o (λ v rest. placed (q v) rest)) (h ys)

onward_more : {A B : Type 0} (limit t0 t1 : ℕ) (p : Form Flaw A) (q : A → Form Flaw B) (x : A) (xs ys more : List ℕ) → SaysFirst limit t0 t1 p x xs → placed (bind p q) (judged limit t0 ((xs ++ ys) ++ more)) ≡ placed (q x) (judged limit t1 (ys ++ more))
onward_more limit t0 t1 p q x xs ys more h = ap (λ t. placed (bind p q) (judged limit t0 t)) (append_assoc xs ys more) ∙ onward limit t0 t1 p q x xs (ys ++ more) h

says_then : {A Y B : Type 0} (limit : ℕ) (a b c : Moment) (w : Y → B) (p : Form Flaw A) (q : A → Form Flaw B) (v : A) (xs ys : List ℕ) (r : Result Y FeedFault) → a.faults ≤ b.faults → SaysFirst limit a.taken b.taken p v xs → Says limit b c w (q v) ys r → Says limit a c w (bind p q) (xs ++ ys) r
says_then limit a b c w p q v xs ys (Ok y) l h s = λ more. onward_more limit a.taken b.taken p q v xs ys more h ∙ s more
says_then limit a b c w p q v xs ys (Err (Malformed at)) l h s = λ more. onward_more limit a.taken b.taken p q v xs ys more h ∙ s more
says_then limit a b c w p q v xs ys (Err (Truncated at)) l h s = (onward limit a.taken b.taken p q v xs ys h ∙ s.0, stops_then limit a b c (Truncated at) l s.1)
says_then limit a b c w p q v xs ys (Err ReadFault) l h s = (onward limit a.taken b.taken p q v xs ys h ∙ s.0, stops_then limit a b c ReadFault l s.1)
says_then limit a b c w p q v xs ys (Err (TooLong taken)) l h s = (onward limit a.taken b.taken p q v xs ys h ∙ s.0, stops_then limit a b c (TooLong taken) l s.1)

-- a front of two parts is shorter than the first, or the first and a front of the second
pub split_front : (xs ys front rest : List ℕ) → xs ++ ys ≡ front ++ rest → ((more : List ℕ) × (xs ≡ front ++ more) × (0 < length more)) ⊎ ((more : List ℕ) × (front ≡ xs ++ more) × (ys ≡ more ++ rest))
split_front [] ys front rest e = inr (front, refl, e)
split_front (x ∷ xs) ys [] rest e = inl (x ∷ xs, refl, omega arith)
split_front (x ∷ xs) ys (f ∷ front) rest e =
    let same : x ≡ f = cc e in
    let tails : xs ++ ys ≡ front ++ rest = cc e in
    elim (split_front xs ys front rest tails) [
      | inl p ↦ inl (p.0, ap (λ t. x ∷ t) p.1 ∙ ap (λ k. k ∷ (front ++ p.0)) same, p.2)
      | inr p ↦ inr (p.0, ap (λ t. f ∷ t) p.1 ∙ ap (λ k. k ∷ (xs ++ p.0)) (sym same), p.2)
    ]

short_then : {A B : Type 0} (p : Form Flaw A) (q : A → Form Flaw B) (limit taken : ℕ) (bytes : List ℕ) → placed p (judged limit taken bytes) ≡ Short → placed (bind p q) (judged limit taken bytes) ≡ Short
short_then p q limit taken bytes e = placed_then p q (judged limit taken bytes) ∙ ap (λ o. go_on o (λ v rest. placed (q v) rest)) e

needs_then : {A B : Type 0} (limit t0 t1 : ℕ) (p : Form Flaw A) (q : A → Form Flaw B) (v : A) (xs ys : List ℕ) → Needs limit t0 p xs → SaysFirst limit t0 t1 p v xs → Needs limit t1 (q v) ys → Needs limit t0 (bind p q) (xs ++ ys)
needs_then limit t0 t1 p q v xs ys f h g front rest e l =
    elim (split_front xs ys front rest e) [
      | inl s ↦ short_then p q limit t0 front (f front s.0 s.1 s.2)
      | inr s ↦ ap (λ t. placed (bind p q) (judged limit t0 t)) s.1 ∙ onward limit t0 t1 p q v xs s.0 h ∙ g s.0 rest s.2 l
    ]

-- the first reads, and then the next
pub reads_then : {X A Y B : Type 0} {limit : ℕ} {a b c : Moment} {v : X → A} {w : Y → B} {p : Form Flaw A} {x : X} {r : Result Y FeedFault} (q : A → Form Flaw B) → Reads limit a b v p (Ok x) → Reads limit b c w (q (v x)) r → Reads limit a c w (bind p q) r
reads_then {limit = limit} {a = a} {b = b} {c = c} {v = v} {w = w} {p = p} {x = x} {r = r} q f s = record {
  given = f.given ++ s.given;
  took = took_then limit a b c f.given s.given f.took s.took;
  says = says_then limit a b c w p q (v x) f.given s.given r f.took.later f.says s.says;
  needs = needs_then limit a.taken b.taken p q (v x) f.given s.given f.needs f.says s.needs;
}

-- the last reads, and the value is made of what it read
pub reads_last : {X A Y B : Type 0} {limit : ℕ} {a b : Moment} {v : X → A} {w : Y → B} {p : Form Flaw A} {x : X} (make : A → B) (y : Y) → Reads limit a b v p (Ok x) → make (v x) ≡ w y → Reads limit a b w (bind p (λ z. whole (make z))) (Ok y)
unfolding placed
reads_last {limit = limit} {a = a} {b = b} {v = v} {w = w} {p = p} {x = x} make y f e = record {
  given = f.given;
  took = f.took;
  says = λ more.
      placed_then p (λ z. whole (make z)) (judged limit a.taken (f.given ++ more)) ∙ ap (λ o. go_on o (λ z rest. placed {E = Flaw} (whole (make z)) rest)) (f.says more)
      ∙ ap (λ z. Got z (judged limit b.taken more)) e;
  needs = λ front rest k l. short_then p (λ z. whole (make z)) limit a.taken front (f.needs front rest k l);
}

says_stop : {X A Y B : Type 0} (limit : ℕ) (a b : Moment) (v : X → A) (w : Y → B) (p : Form Flaw A) (q : A → Form Flaw B) (xs : List ℕ) (e : FeedFault) → Says limit a b v p xs (Err e) → Says limit a b w (bind p q) xs (Err e)
says_stop limit a b v w p q xs (Malformed at) s = λ more. placed_then p q (judged limit a.taken (xs ++ more)) ∙ ap (λ o. go_on o (λ z rest. placed (q z) rest)) (s more)
says_stop limit a b v w p q xs (Truncated at) s = (short_then p q limit a.taken xs s.0, s.1)
says_stop limit a b v w p q xs ReadFault s = (short_then p q limit a.taken xs s.0, s.1)
says_stop limit a b v w p q xs (TooLong taken) s = (short_then p q limit a.taken xs s.0, s.1)

-- the first fails
pub reads_stop : {X A Y B : Type 0} {limit : ℕ} {a b : Moment} {v : X → A} {w : Y → B} {p : Form Flaw A} {e : FeedFault} (q : A → Form Flaw B) → Reads limit a b v p (Err e) → Reads limit a b w (bind p q) (Err e)
reads_stop {limit = limit} {a = a} {b = b} {v = v} {w = w} {p = p} {e = e} q f = record {
  given = f.given;
  took = f.took;
  says = says_stop limit a b v w p q f.given e f.says;
  needs = λ front rest k l. short_then p q limit a.taken front (f.needs front rest k l);
}

-- The same readings with a head's faults.

pub head_ok : {X A : Type 0} {limit : ℕ} {a b : Moment} {v : X → A} {p : Form Flaw A} {x : X} → Reads limit a b v p (Ok x) → ReadsFront limit a b v p (Ok x)
head_ok r = record { given = r.given; took = r.took; says = r.says; needs = r.needs }

pub head_err : {X A : Type 0} {limit : ℕ} {a b : Moment} {v : X → A} {p : Form Flaw A} {e : FeedFault} → Reads limit a b v p (Err e) → ReadsFront limit a b v p (Err (Feed e))
head_err r = record { given = r.given; took = r.took; says = r.says; needs = r.needs }

says_onward : {A Y B : Type 0} (limit : ℕ) (a b c : Moment) (w : Y → B) (p : Form Flaw A) (q : A → Form Flaw B) (v : A) (xs ys : List ℕ) (r : Result Y HeadFault) → a.faults ≤ b.faults → SaysFirst limit a.taken b.taken p v xs → SaysFront limit b c w (q v) ys r → SaysFront limit a c w (bind p q) (xs ++ ys) r
says_onward limit a b c w p q v xs ys (Ok y) l h s = says_then limit a b c w p q v xs ys (Ok y) l h s
says_onward limit a b c w p q v xs ys (Err (Feed e)) l h s = says_then limit a b c w p q v xs ys (Err e) l h s
says_onward limit a b c w p q v xs ys (Err Memory) l h s = tt

-- the first reads, and then the next
pub head_then : {X A Y B : Type 0} {limit : ℕ} {a b c : Moment} {v : X → A} {w : Y → B} {p : Form Flaw A} {x : X} {r : Result Y HeadFault} (q : A → Form Flaw B) → Reads limit a b v p (Ok x) → ReadsFront limit b c w (q (v x)) r → ReadsFront limit a c w (bind p q) r
head_then {limit = limit} {a = a} {b = b} {c = c} {v = v} {w = w} {p = p} {x = x} {r = r} q f s = record {
  given = f.given ++ s.given;
  took = took_then limit a b c f.given s.given f.took s.took;
  says = says_onward limit a b c w p q (v x) f.given s.given r f.took.later f.says s.says;
  needs = needs_then limit a.taken b.taken p q (v x) f.given s.given f.needs f.says s.needs;
}

-- memory was wanted for what was read, whatever it says
pub head_memory : {X Y A : Type 0} {limit : ℕ} {a b : Moment} {v : X → A} {w : Y → A} {p : Form Flaw A} {r : Result Y FeedFault} → Reads limit a b w p r → ReadsFront limit a b v p (Err Memory)
head_memory r = record { given = r.given; took = r.took; says = tt; needs = r.needs }
