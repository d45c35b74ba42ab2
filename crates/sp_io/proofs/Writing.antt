-- One write after another: what was appended, and what of a whole piece is left.
use Rattle.std.proofs.Common.{◌≡◌, ℕ, List, [], ◌++◌, Option, Some, None, refl, ap, ◌∙◌, sym, subst, append_assoc}
use Rattle.std.proofs.lemmas.List.{append-nil}
use Rattle.std.specs.Io.KnownBytes.{Appends, Keeps}
use Rattle.sp_io.specs.Whole.{Wrote, AppendsAtLeast, AppendsFront}

-- bytes are appended, and then more
pub appends_then : (a b c : Option (List ℕ)) (xs ys : List ℕ) → Appends a b xs → Appends b c ys → Appends a c (xs ++ ys)
appends_then None b c xs ys p q = tt
appends_then (Some ws) None c xs ys p q = absurd p
appends_then (Some ws) (Some bs) None xs ys p q = absurd q
appends_then (Some ws) (Some bs) (Some cs) xs ys p q = q ∙ ap (λ t. t ++ ys) p ∙ append_assoc ws xs ys

-- bytes are appended, and then nothing more
pub appends_keeps : (a b c : Option (List ℕ)) (xs : List ℕ) → Appends a b xs → Keeps b c → Appends a c xs
appends_keeps None b c xs p q = tt
appends_keeps (Some ws) None c xs p q = absurd p
appends_keeps (Some ws) (Some bs) None xs p q = absurd q
appends_keeps (Some ws) (Some bs) (Some cs) xs p q = q ∙ p

-- nothing is written yet
pub wrote_none : (a : Option (List ℕ)) (whole : List ℕ) → Wrote a a whole whole
wrote_none None whole = record { front = []; appended = tt; split = refl }
wrote_none (Some ws) whole = record { front = []; appended = sym (append-nil ws); split = refl }

-- the next piece is written
pub wrote_more : {a b c : Option (List ℕ)} {whole : List ℕ} (piece rest : List ℕ) → Wrote a b whole (piece ++ rest) → Appends b c piece → Wrote a c whole rest
wrote_more {a = a} {b = b} {c = c} piece rest w p = record {
  front = w.front ++ piece;
  appended = appends_then a b c w.front piece w.appended p;
  split = w.split ∙ sym (append_assoc w.front piece rest);
}

-- a front of the next piece is written
pub wrote_stops : {a b c : Option (List ℕ)} {whole : List ℕ} (piece rest : List ℕ) → Wrote a b whole (piece ++ rest) → AppendsFront b c piece → AppendsFront a c whole
wrote_stops {a = a} {b = b} {c = c} {whole = whole} piece rest w p = (
  p.0 ++ rest,
  record {
    front = w.front ++ p.1.front;
    appended = appends_then a b c w.front p.1.front w.appended p.1.appended;
    split = w.split ∙ ap (λ t. w.front ++ (t ++ rest)) p.1.split ∙ ap (λ t. w.front ++ t) (append_assoc p.1.front p.0 rest) ∙ sym (append_assoc w.front p.1.front (p.0 ++ rest));
  },
)

-- a front with nothing behind it is all
wrote_end : (a b : Option (List ℕ)) (front whole : List ℕ) → Appends a b front → whole ≡ front ++ [] → Appends a b whole
wrote_end None b front whole p e = tt
wrote_end (Some ws) None front whole p e = absurd p
wrote_end (Some ws) (Some bs) front whole p e = p ∙ ap (λ t. ws ++ t) (sym (append-nil front) ∙ sym e)

-- all is written
pub wrote_all : {a b : Option (List ℕ)} {whole : List ℕ} → Wrote a b whole [] → Appends a b whole
wrote_all {a = a} {b = b} {whole = whole} w = wrote_end a b w.front whole w.appended w.split

-- a piece is appended, and it is all that is asked for
pub at_least : (a b : Option (List ℕ)) (xs : List ℕ) → Appends a b xs → AppendsAtLeast a b xs
at_least a b xs p = ([], subst (λ (t : List ℕ). Appends a b t) (sym (append-nil xs)) p)

-- what was appended at least stays so when more is
pub at_least_then : (a b c : Option (List ℕ)) (xs ys : List ℕ) → AppendsAtLeast a b xs → Appends b c ys → AppendsAtLeast a c xs
at_least_then a b c xs ys p q = (p.0 ++ ys, subst (λ (t : List ℕ). Appends a c t) (append_assoc xs p.0 ys) (appends_then a b c (xs ++ p.0) ys p.1 q))

-- all of a piece is a front of it
pub front_of_all : {a b : Option (List ℕ)} (xs : List ℕ) → Appends a b xs → AppendsFront a b xs
front_of_all xs p = ([], record { front = xs; appended = p; split = sym (append-nil xs) })
