use Rattle.std.proofs.Common.{◌≡◌, ◌∙◌, ◌+◌, ◌<◌, ℕ, true, false, List, None, Option, Some, ap, refl, subst, sym, arith, length, set}
use Rattle.std.specs.Prelude.{is_some, IsSome}
use Rattle.std.proofs.lemmas.List.{set-get_or}
use Rattle.sp_view.specs.Padded.{padded}
use Rattle.sp_view.specs.Saved.{either}
use Rattle.sp_view.specs.Stored.{count_of}
use Rattle.sp_view.specs.Views.{entry_at, held, holds}
use Rattle.sp_view.proofs.Held.{held_set, read_at}
use Rattle.sp_view.proofs.Keeping.{either_some, holds_few, set_past}
use Rattle.sp_view.proofs.Padding.{entry_is, grown_is, long_is, set_is}
use Rattle.sp_view.proofs.saved.Saved.save.Goals as goal
use Rattle.sp_view.proofs.saved.Saved.save.Goals.{After-index, then-len-place, else-len-place}

nothing : (entry : Option (ℕ × ℕ)) → is_some entry ≡ false → entry ≡ None
nothing None h = refl
nothing (Some e) h = cc

something : (entry : Option (ℕ × ℕ)) → is_some entry ≡ true → IsSome entry
something None h = cc
something (Some e) h = refl

-- the list once it was grown where it had to be: that of the saved entries still, and the place, which may be saved, is in it
record Reaches (count place : ℕ) (saved list : List (Option (ℕ × ℕ))) : Type 0 where
  is : padded count list ≡ saved
  few : place < count
  past : place < length list

reaches : (c : After-index) → Reaches c.if-len-place.self-inside.count c.args.pair c.args.self.now c.if-len-place.self-inside.list.items
reaches c =
    elim c.if-len-place.branch [
      | then-len-place w ↦ record {
        is = ap (λ s. padded s.count s.list.items) w.self-inside-is
            ∙ grown_is c.self.inside.count c.self.inside.list.items c.args.self.now c.self.view_is w.grow.new.entries.items w.grow.ensures.entry;
        few = omega (arith, c.if-self-place.false, ap (λ s. s.count) w.self-inside-is);
        past = omega (arith, ap (λ s. length s.list.items) w.self-inside-is, w.grow.ensures.long, w.grow.new.entries.ok.0);
      }
      | else-len-place w ↦ record {
        is = ap (λ s. padded s.count s.list.items) w.self-inside-is ∙ c.self.view_is;
        few = omega (arith, c.if-self-place.false, ap (λ s. s.count) w.self-inside-is);
        past = omega (arith, ap (λ s. length s.list.items) w.self-inside-is, w.if-len-place.false, c.len.ensures, c.self.inside.list.ok.0);
      }
    ]

-- the entry that is read is the saved one
read_saved : (c : After-index) → entry_at c.args.self.now c.args.pair ≡ c.index.result.now
read_saved c =
    let r = reaches c in
    let items : List (Option (ℕ × ℕ)) = c.if-len-place.self-inside.list.items in
    entry_is c.if-len-place.self-inside.count items c.args.self.now r.is c.args.pair r.few ∙ sym (read_at items c.args.pair c.index.result.now r.past c.index.ensures)

pub returns-then-self-place : goal.returns-then-self-place
returns-then-self-place c =
    let saved : List (Option (ℕ × ℕ)) = c.args.self.now in
    record {
      is = sym (set_past saved c.args.pair (either (entry_at saved c.args.pair) (Some c.args.entry.now)) (omega (arith, c.if-self-place.true, long_is c.self.inside.count c.self.inside.list.items saved c.self.view_is)));
      counts = λ r. refl;
      rows = λ r. refl;
      spare = refl;
      live = refl;
    }

pub returns-then-is_some : goal.returns-then-is_some
returns-then-is_some c =
    let saved : List (Option (ℕ × ℕ)) = c.args.self.now in
    let place : ℕ = c.args.pair in
    let at = (goal.at.returns-then-is_some c).After-index in
    let some : IsSome (entry_at saved place) = subst IsSome (sym (read_saved at)) (something c.index.result.now (sym c.is_some.ensures ∙ c.if-is_some.true)) in
    record {
      is = (reaches at).is ∙ sym (ap (λ (o : Option (ℕ × ℕ)). set saved place o) (either_some (entry_at saved place) (Some c.args.entry.now) some) ∙ set-get_or saved place None);
      counts = λ r. ap (λ (l : List (Option (ℕ × ℕ))). count_of c.args.pool.now r + held l r) (sym (reaches at).is);
      rows = λ r. refl;
      spare = refl;
      live = refl;
    }

pub share_entry-requires-clause-few : goal.share_entry-requires-clause-few
share_entry-requires-clause-few c = λ r some.
    let less : c.args.pair < length c.args.self.now = omega (arith, c.if-self-place.false, long_is c.self.inside.count c.self.inside.list.items c.args.self.now c.self.view_is) in
    omega (arith, c.requires.few less r, holds_few (Some c.args.entry.now) r)

pub returns : goal.returns
returns c =
    let saved : List (Option (ℕ × ℕ)) = c.args.self.now in
    let list : List (Option (ℕ × ℕ)) = c.if-len-place.self-inside.list.items in
    let count : ℕ = c.if-len-place.self-inside.count in
    let place : ℕ = c.args.pair in
    let new : Option (ℕ × ℕ) = Some c.args.entry.now in
    let at = (goal.at.returns c).After-index in
    let reach = reaches at in
    let none : entry_at saved place ≡ None = read_saved at ∙ nothing c.index.result.now (sym c.is_some.ensures ∙ c.if-is_some.false) in
    let is : padded count (set list place new) ≡ set saved place new = set_is count list saved reach.is place new reach.past in
    record {
      is = is ∙ ap (λ (o : Option (ℕ × ℕ)). set saved place (either o new)) (sym none);
      counts = λ r. omega (
        arith,
        c.share_entry.ensures.counts r,
        ap (λ (l : List (Option (ℕ × ℕ))). held l r) is,
        held_set saved place new r (omega (arith, reach.few, long_is count list saved reach.is)),
        ap (λ (o : Option (ℕ × ℕ)). holds o r) none,
      );
      rows = c.share_entry.ensures.rows;
      spare = c.share_entry.ensures.spare;
      live = c.share_entry.ensures.live;
    }
