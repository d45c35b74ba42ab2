-- The entries of a view go home one by one, when an arrival is kept.
use Rattle.std.proofs.Common.{◌≡◌, ◌≢◌, ◌∙◌, ℕ, ◌+◌, ◌<◌, ◌≤◌, true, List, length, set, Option, Some, None, inl, inr, arith, refl, sym, subst}
use Rattle.sp_dag.specs.Numbered.{graph_of, Numbered}
use Rattle.sp_model.specs.Graph.{Graph, has}
use Rattle.sp_rows.specs.Pool.{Pool}
use Rattle.std.proofs.lemmas.Bool.{cases_lt}
use Rattle.std.proofs.lemmas.List.{get_or_past}
use Rattle.sp_view.specs.Homes.{AreAlike, AreHome, IsHome, IsOnceHome}
use Rattle.sp_view.specs.Padded.{padded}
use Rattle.sp_view.specs.Settled.{IsAsked}
use Rattle.sp_view.specs.Stored.{count_of, row_of}
use Rattle.sp_view.specs.Views.{entry_at, holds, held, IsEntry, IsView, Viewed}
use Rattle.sp_view.proofs.Held.{held_set, holds_held, holds_two}
use Rattle.sp_view.proofs.Padding.{entry_is, held_is, long_is}
use Rattle.sp_view.proofs.TwoRows.{one_if}

-- an entry whose rows stay
pub alike_same : (before after : Pool) (entry : Option (ℕ × ℕ)) → ((r : ℕ) → 0 < holds entry r → row_of after r ≡ row_of before r) → AreAlike before after entry entry
alike_same before after None stay = tt
alike_same before after (Some e) stay = (stay e.0 (omega (arith, one_if e.0 e.0 refl)), stay e.1 (omega (arith, one_if e.1 e.1 refl)))

pub alike_twice : (before mid after : Pool) (entry entry' entry'' : Option (ℕ × ℕ)) → AreAlike before mid entry entry' → AreAlike mid after entry' entry'' → AreAlike before after entry entry''
alike_twice before mid after None None None one two = tt
alike_twice before mid after None None (Some e'') one two = two
alike_twice before mid after None (Some e') entry'' one two = absurd one
alike_twice before mid after (Some e) None entry'' one two = absurd one
alike_twice before mid after (Some e) (Some e') None one two = two
alike_twice before mid after (Some e) (Some e') (Some e'') one two = (two.0 ∙ one.0, two.1 ∙ one.1)

-- an entry that stays as it is
pub home_same : (saved entry : Option (ℕ × ℕ)) → IsHome saved entry entry
home_same None entry = refl
home_same (Some s) None = refl
home_same (Some s) (Some e) = (inl refl, inl refl)

-- no row is held twice, where one entry goes home
pub once_home : (entries : List (Option (ℕ × ℕ))) (i : ℕ) (saved entry : Option (ℕ × ℕ)) (count r : ℕ) → i < length entries → holds saved r + held entries r ≤ count → held entries r ≤ 1
    → IsOnceHome count (holds saved r) (holds (entry_at entries i) r) (holds entry r) → held (set entries i entry) r ≤ 1
once_home entries i saved entry count r lt live few (inl less) = omega (arith, held_set entries i entry r lt, few, less)
once_home entries i saved entry count r lt live few (inr (one, none)) = omega (arith, held_set entries i entry r lt, live, one, none)

-- the rows of another entry stay
pub other_stays : (before after : Pool) (entries : List (Option (ℕ × ℕ))) (saved : Option (ℕ × ℕ)) (i j : ℕ) → j ≢ i → ((r : ℕ) → holds saved r + held entries r ≤ count_of before r)
    → ((r : ℕ) → holds saved r + holds (entry_at entries i) r < count_of before r → row_of after r ≡ row_of before r) → AreAlike before after (entry_at entries j) (entry_at entries j)
other_stays before after entries saved i j other live others =
    alike_same before after (entry_at entries j) (λ r some. others r (omega (arith, some, live r, holds_two entries i j r (λ same. other (sym same)))))

-- where what was saved is let go, all entries may stay as they are
pub all_stay : (before after : Pool) (saved entries : List (Option (ℕ × ℕ))) → ((r : ℕ) → held saved r + held entries r ≤ count_of before r) → ((r : ℕ) → held entries r ≤ 1)
    → ((r : ℕ) → count_of before r ≡ count_of after r + held saved r) → ((r : ℕ) → 0 < count_of after r → row_of after r ≡ row_of before r) → AreHome before after saved entries entries
all_stay before after saved entries live once counts rows = record {
  long = refl;
  ids = λ i. home_same (entry_at saved i) (entry_at entries i);
  places = λ i. alike_same before after (entry_at entries i) (λ r some. rows r (omega (arith, some, holds_held entries i r, live r, counts r)));
  once = once;
  counts = λ r. omega (arith, counts r);
  others = λ r more. rows r (omega (arith, more, counts r));
}

-- none is saved behind the last saved one
pub home_padded : (n : ℕ) (list saved : List (Option (ℕ × ℕ))) → padded n list ≡ saved → length list ≤ n → (before after : Pool) (entries entries' : List (Option (ℕ × ℕ)))
    → AreHome before after list entries entries' → AreHome before after saved entries entries'
home_padded n list saved is le before after entries entries' home = record {
  long = home.long;
  ids = λ i. subst (λ (o : Option (ℕ × ℕ)). IsHome o (entry_at entries i) (entry_at entries' i)) (sym (same i)) (home.ids i);
  places = home.places;
  once = home.once;
  counts = λ r. omega (arith, home.counts r, held_is n list saved is r le);
  others = λ r more. home.others r (omega (arith, more, held_is n list saved is r le));
}
  where
    same : (i : ℕ) → entry_at saved i ≡ entry_at list i
    same i = elim (cases_lt i n) [
      | inl less ↦ entry_is n list saved is i less
      | inr more ↦ get_or_past saved i None (omega (arith, more, long_is n list saved is)) ∙ sym (get_or_past list i None (omega (arith, more, le)))
    ]

-- ---- the view is one still

-- an entry has the places that it had
entry_home : (g : Graph) (set : List ℕ) (x y : ℕ) (mid new : Pool) (entry entry' : Option (ℕ × ℕ)) → AreAlike mid new entry entry' → IsEntry g set x y mid entry → IsEntry g set x y new entry'
entry_home g set x y mid new None None alike is = is
entry_home g set x y mid new None (Some e') alike is = absurd alike
entry_home g set x y mid new (Some e) None alike is = absurd alike
entry_home g set x y mid new (Some e) (Some e') alike is = (is.0, record { plus_is = alike.0 ∙ is.1.plus_is; minus_is = alike.1 ∙ is.1.minus_is })

-- so the view is one still
pub view_home : (table : Numbered) (mid new : Pool) (saved : List (Option (ℕ × ℕ))) (last home : Viewed) → IsView table last mid → home.members ≡ last.members → AreHome mid new saved last.entries home.entries
    → ((r : ℕ) → held home.entries r ≤ count_of new r) → IsView table home new
view_home table mid new saved last home is members goes live = record {
  order = is.order;
  asked = subst (λ (l : List ℕ). IsAsked (graph_of table) l) (sym members) is.asked;
  below = subst (λ (l : List ℕ). (z : ℕ) → has l z ≡ true → z < length table.parents) (sym members) is.below;
  few = omega (arith, goes.long, is.few);
  entry = λ i x y at.
      entry_home (graph_of table) home.members x y mid new (entry_at last.entries i) (entry_at home.entries i) (goes.places i)
      (subst (λ (l : List ℕ). IsEntry (graph_of table) l x y mid (entry_at last.entries i)) (sym members) (is.entry i x y at));
  live = live;
  once = goes.once;
}
