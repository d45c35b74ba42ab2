-- What lasts over a run of a disk's calls.
use Rattle.std.proofs.Common.{◌≡◌, inl, inr, ℕ, ◌≤◌, List, Option, Some, refl, sym, subst, arith}
use Rattle.std.proofs.lemmas.Bool.{cases_lt}
use Rattle.std.specs.Prelude.{IfSome}
use Rattle.sp_disk.specs.Images.{Among}
use Rattle.sp_disk.specs.Moments.{Ebbs, IsMoment, Lasts, Leaves, Looks, Moment}
use Rattle.sp_disk.proofs.Runs.{same_then, still}

-- the images of now are those of the moment that has its number
pub here : (m : Moment) → IsMoment m → Among (m.at m.clock) m.images
here m law image left =
    let n = law.some m.clock (omega arith) image (law.counts m.clock image (omega arith) left) in
    let same : n.0 ≡ m.clock = omega (arith, n.1, n.2) in
    subst (λ (u : ℕ). m.at u image) same n.3

-- what a read gives is an image of now, and so of a moment behind
read_here : (r : Option (List ℕ)) (A : List ℕ → Type 0) (bytes : List ℕ) → r ≡ Some bytes → IfSome r A → A bytes
read_here r A bytes is law =
    let at : IfSome (Some bytes) A = subst (λ (o : Option (List ℕ)). IfSome o A) is law in at

-- after a call by which the images only fall, if what is read before it hasn't P
pub moves_last : (old new : Moment) (P : List ℕ → Type 0) (bytes : List ℕ) → IsMoment old → IsMoment new → old.reads ≡ Some bytes → (P bytes → ⊥) → Ebbs old new → Lasts old new P
moves_last old new P bytes law new_law is hasnt ebbs = record {
  later = ebbs.later;
  lasts = λ t from until all image left. elim (cases_lt old.clock t) [
    | inl past ↦
        let n = new_law.some t until image left in
        all image (ebbs.falls t n.0 past n.1 n.2 image n.3)
    | inr le ↦
        let same : old.clock ≡ t = omega (arith, from, le) in
        let read : new.at old.clock bytes = (ebbs.past old.clock (omega arith)).1 bytes (here old law bytes (read_here old.reads old.images bytes is law.reads)) in
        absurd (hasnt (all bytes (subst (λ (u : ℕ). new.at u bytes) same read)))
  ];
  past = ebbs.past;
}

-- after looks
pub looks_last : (old new : Moment) (P : List ℕ → Type 0) → IsMoment old → IsMoment new → Looks old new → Lasts old new P
looks_last old new P law new_law looks = record {
  later = looks.time.later;
  lasts = λ t from until all image left.
      let n = new_law.some t until image left in
      elim (cases_lt old.clock t) [
        | inl past ↦ all image (looks.time.ebbs.falls t n.0 past n.1 n.2 image n.3)
        | inr le ↦
            let same : old.clock ≡ t = omega (arith, from, le) in
            let was : new.at old.clock image = (looks.time.ebbs.past old.clock (omega arith)).1 image (here old law image (looks.within n.0 (omega (arith, from, n.1)) n.2 image n.3)) in
            all image (subst (λ (u : ℕ). new.at u image) same was)
      ];
  past = looks.time.ebbs.past;
}

-- where each image since then has P
pub leaves_last : (old new : Moment) (P : List ℕ → Type 0) → IsMoment new → Leaves old new P → Lasts old new P
leaves_last old new P new_law run = record {
  later = run.later;
  lasts = λ t from until all image left.
      let n = new_law.some t until image left in
      run.each image (new_law.all old.clock n.0 (omega (arith, from, n.1)) n.2 image n.3);
  past = run.past;
}

-- one run after another
module _ (old mid new : Moment) (P : List ℕ → Type 0) (mid_law : IsMoment mid) (new_law : IsMoment new) (first : Lasts old mid P) (second : Lasts mid new P) where
  -- from a moment of the first run on
  since_first : (t : ℕ) → old.clock ≤ t → t ≤ mid.clock → Among P (new.at t) → (u : ℕ) → t ≤ u → u ≤ new.clock → Among P (new.at u)
  since_first t from until all u le last image left =
      let mid_since : Among P (mid.since t) = first.lasts t from until (λ i h. all i ((second.past t until).1 i h)) in
      elim (cases_lt mid.clock u) [
        | inl past ↦
            let all_mid : Among P (new.at mid.clock) = λ i h. mid_since i (mid_law.all t mid.clock until (omega arith) i ((second.past mid.clock (omega arith)).0 i h)) in
            second.lasts mid.clock (omega arith) second.later all_mid image (new_law.all mid.clock u (omega (arith, past)) last image left)
        | inr before ↦ mid_since image (mid_law.all t u le before image ((second.past u before).0 image left))
      ]

  pub joined_last : Lasts old new P
  joined_last = record {
    later = omega (arith, first.later, second.later);
    lasts = λ t from until all image left. elim (cases_lt mid.clock t) [
      | inl past ↦ second.lasts t (omega (arith, past)) until all image left
      | inr le ↦
          let n = new_law.some t until image left in
          since_first t from le all n.0 n.1 n.2 image n.3
    ];
    past = λ t le. same_then (old.at t) (mid.at t) (new.at t) (first.past t le) (second.past t (omega (arith, le, first.later)));
  }

-- what has P has Q, and the other way round, among all that a crash may leave
pub alike_last : (old new : Moment) (P Q R : List ℕ → Type 0) → IsMoment new → Leaves old new R → ((image : List ℕ) → R image → (P image → Q image) × (Q image → P image)) → Lasts old new P → Lasts old new Q
alike_last old new P Q R new_law run alike lasting = record {
  later = lasting.later;
  lasts = λ t from until all image left.
      let some : (u : ℕ) → t ≤ u → u ≤ new.clock → (i : List ℕ) → new.at u i → R i = λ u le last i h. run.each i (new_law.all old.clock u (omega (arith, from, le)) last i h) in
      let n = new_law.some t until image left in
      let has : P image = lasting.lasts t from until (λ i h. (alike i (some t (omega arith) until i h)).1 (all i h)) image left in
      (alike image (some n.0 n.1 n.2 image n.3)).0 has;
  past = lasting.past;
}

-- before the first call
pub started_last : (m : Moment) (P : List ℕ → Type 0) → IsMoment m → Lasts m m P
started_last m P law = record {
  later = omega arith;
  lasts = λ t from until all image left.
      let same : m.clock ≡ t = omega (arith, from, until) in
      let now : m.images image = law.only image (subst (λ (u : ℕ). m.since u image) (sym same) left) in
      all image (subst (λ (u : ℕ). m.at u image) same (here m law image now));
  past = λ t le. still (m.at t);
}

-- looks after a call by which the images only fall
pub looks_ebb : (old mid new : Moment) → IsMoment mid → Ebbs old mid → Looks mid new → Ebbs old new
looks_ebb old mid new law first second = record {
  later = omega (arith, first.later, second.time.later);
  past = λ t le. same_then (old.at t) (mid.at t) (new.at t) (first.past t le) (second.time.ebbs.past t (omega (arith, le, first.later)));
  falls = λ t u past le until image left. elim (cases_lt mid.clock t) [
    | inl behind ↦ second.time.ebbs.falls t u behind le until image left
    | inr t_le ↦
        let has : (v : ℕ) → t ≤ v → v ≤ mid.clock → mid.at v image → new.at t image = λ v v_from v_until at_v.
        (second.time.ebbs.past t t_le).1 image (first.falls t v past v_from v_until image at_v) in
        elim (cases_lt mid.clock u) [
          | inl later ↦ has mid.clock t_le (omega arith) (here mid law image (second.within u (omega (arith, later)) until image left))
          | inr u_le ↦ has u le u_le ((second.time.ebbs.past u u_le).0 image left)
        ]
  ];
}

-- nothing was called
pub looks_same : (m : Moment) → IsMoment m → Looks m m
looks_same m law = record {
  reads = refl;
  crash = λ image left. left;
  within = λ t from until image left. law.only image (law.all m.clock t from until image left);
  time = record {
    later = omega arith;
    since = λ t le image left. inl left;
    keeps = λ t le image left. left;
    ebbs = record {
      later = omega arith;
      past = λ t le. still (m.at t);
      falls = λ t u past le until image left. absurd (omega (arith, past, le, until));
    };
  };
}
