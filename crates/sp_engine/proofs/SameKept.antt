-- The same valid blocks in two orders: the same are kept, each id once.
use Rattle.std.proofs.Common.{◌≡◌, ℕ, ◌≤◌, ◌<◌, true, false, List, [], ◌∷◌, ◌++◌, length, length-append, Result, Ok, Err, refl, sym, ap, subst, ◌∙◌, inl, inr, arith}
use Rattle.std.specs.Prelude.{fold}
use Rattle.std.proofs.lemmas.Bool.{cases_Bool}
use Rattle.std.proofs.lemmas.List.{length-map}
use Rattle.sp_block.specs.Block.{ReadBlock}
use Rattle.sp_model.specs.Graph.{has}
use Rattle.sp_pool.specs.Kept.{AreApart, ids_of, keep, kept_by}
use Rattle.sp_pool.proofs.KeptBlocks.{AreApart-push}
use Rattle.sp_pool.proofs.Standings.{Fresh-standing, Known-standing}
use Rattle.sp_carry.proofs.Members.{contains_from_in, in_append, in_append_left, in_append_right, in_from_contains, IsIn}
use Rattle.sp_engine.specs.AnyOrder.{AreSameArrivals, HaveArrived}
use Rattle.sp_engine.specs.Arrivals.{kept_after, kept_by_all, kept_with, valid_in}
use Rattle.sp_engine.specs.declared.answer.Refusal.{Refusal}
use Rattle.sp_engine.proofs.Counts.{distinct_within}
use Rattle.sp_engine.proofs.OwnBlocks.{block_of_id, id_in, one_of_id}

-- both lists have the same blocks, no two of one id
pub record AreAlike (kept others : List ReadBlock) : Type 0 where
  pub apart : AreApart kept
  pub other_apart : AreApart others
  pub into : (b : ReadBlock) → IsIn kept b → IsIn others b
  pub onto : (b : ReadBlock) → IsIn others b → IsIn kept b

-- some of these blocks, none twice
record AreSome (blocks kept : List ReadBlock) : Type 0 where
  apart : AreApart kept
  within : (b : ReadBlock) → IsIn kept b → IsIn blocks b

-- they and more of them
record AreMore (blocks before now : List ReadBlock) : Type 0 where
  some : AreSome blocks now
  stay : (b : ReadBlock) → IsIn before b → IsIn now b

ids_within : (blocks kept : List ReadBlock) → AreSome blocks kept → (z : ℕ) → has (ids_of kept) z ≡ true → has (ids_of blocks) z ≡ true
ids_within blocks kept some z h =
    let b : (b : ReadBlock) × IsIn kept b × (b.id ≡ z) = block_of_id kept z h in
    ap (has (ids_of blocks)) (sym b.2) ∙ id_in blocks b.0 (some.within b.0 b.1)

pushed_some : (blocks kept : List ReadBlock) (b : ReadBlock) → AreSome blocks kept → IsIn blocks b → has (ids_of kept) b.id ≡ false → AreSome blocks (kept ++ b ∷ [])
pushed_some blocks kept b some there new = record {
  apart = AreApart-push kept b some.apart new;
  within = λ x h. elim (in_append kept (b ∷ []) x h) [
    | inl old ↦ some.within x old
    | inr more ↦ elim more [ inl e ↦ subst (λ (r : ReadBlock). IsIn blocks r) e there | inr nowhere ↦ absurd nowhere ]
  ];
}

-- there is room for one that isn't kept yet
room : (blocks kept : List ReadBlock) (b : ReadBlock) → length blocks ≤ 512 → AreSome blocks (kept ++ b ∷ []) → length kept < 512
room blocks kept b few some =
    let le : length (ids_of (kept ++ b ∷ [])) ≤ length (ids_of blocks) =
    distinct_within (ids_of (kept ++ b ∷ [])) (ids_of blocks) some.apart (ids_within blocks (kept ++ b ∷ []) some) in
    let long : length (ids_of (kept ++ b ∷ [])) ≡ length (kept ++ b ∷ []) = length-map (kept ++ b ∷ []) (λ (x : ReadBlock). x.id) in
    let all : length (ids_of blocks) ≡ length blocks = length-map blocks (λ (x : ReadBlock). x.id) in
    omega (arith, le, long, all, few, length-append kept (b ∷ []))

-- one of the blocks arrives
one_arrives : (blocks kept : List ReadBlock) (b : ReadBlock) → length blocks ≤ 512 → AreApart blocks → AreSome blocks kept → IsIn blocks b
    → AreMore blocks kept (keep kept b) × IsIn (keep kept b) b
one_arrives blocks kept b few apart some there = elim (cases_Bool (has (ids_of kept) b.id)) [
  | inl known ↦
      let same : kept ≡ keep kept b = ap (λ s. kept_by s kept b) (Known-standing kept b.id known) in
      let old : (x : ReadBlock) × IsIn kept x × (x.id ≡ b.id) = block_of_id kept b.id known in
      let is : old.0 ≡ b = one_of_id blocks old.0 b apart (some.within old.0 old.1) there old.2 in
      subst (λ (k : List ReadBlock). AreMore blocks kept k × IsIn k b) same
      (record { some = some; stay = λ x h. h }, subst (λ (r : ReadBlock). IsIn kept r) is old.1)
  | inr new ↦
      let more : AreSome blocks (kept ++ b ∷ []) = pushed_some blocks kept b some there new in
      let same : kept ++ b ∷ [] ≡ keep kept b = ap (λ s. kept_by s kept b) (Fresh-standing kept b.id new (room blocks kept b few more)) in
      subst (λ (k : List ReadBlock). AreMore blocks kept k × IsIn k b) same
      (record { some = more; stay = λ x h. in_append_left kept (b ∷ []) x h }, in_append_right kept (b ∷ []) b (inl refl))
]

-- some bytes arrive, of which a valid block is one of these
bytes_arrive : (bits : ℕ) (blocks kept : List ReadBlock) (r : Result ReadBlock Refusal) → length blocks ≤ 512 → AreApart blocks → AreSome blocks kept
    → ((b : ReadBlock) → r ≡ Ok b → IsIn blocks b) → AreMore blocks kept (kept_with kept r) × ((b : ReadBlock) → r ≡ Ok b → IsIn (kept_with kept r) b)
bytes_arrive bits blocks kept (Err refusal) few apart some only = (record { some = some; stay = λ x h. h }, λ b e. absurd (err_ok e))
  where
    err_ok : {refusal : Refusal} {b : ReadBlock} → ◌≡◌ {A = Result ReadBlock Refusal} (Err refusal) (Ok b) → ⊥
    err_ok e = cc
bytes_arrive bits blocks kept (Ok block) few apart some only =
    let one : AreMore blocks kept (keep kept block) × IsIn (keep kept block) block = one_arrives blocks kept block few apart some (only block refl) in
    (one.0, λ b e. subst (λ (x : ReadBlock). IsIn (keep kept block) x) (ok_ok e) one.1)
  where
    ok_ok : {a b : ReadBlock} → ◌≡◌ {A = Result ReadBlock Refusal} (Ok a) (Ok b) → a ≡ b
    ok_ok e = cc

-- what stands of the kept blocks after some arrivals
record AreKeptOfThese (bits : ℕ) (blocks before : List ReadBlock) (arrivals : List (List ℕ)) (now : List ReadBlock) : Type 0 where
  more : AreMore blocks before now
  all : (bytes : List ℕ) (b : ReadBlock) → IsIn arrivals bytes → valid_in bits bytes ≡ Ok b → IsIn now b

all_arrive : (bits : ℕ) (blocks kept : List ReadBlock) (arrivals : List (List ℕ)) → length blocks ≤ 512 → AreApart blocks → AreSome blocks kept
    → ((bytes : List ℕ) (b : ReadBlock) → IsIn arrivals bytes → valid_in bits bytes ≡ Ok b → IsIn blocks b)
    → AreKeptOfThese bits blocks kept arrivals (fold (kept_after bits) kept arrivals)
unfolding kept_after
all_arrive bits blocks kept [] few apart some only = record {
  more = record { some = some; stay = λ x h. h };
  all = λ bytes b h e. absurd h;
}
all_arrive bits blocks kept (bytes ∷ arrivals) few apart some only =
    let first = bytes_arrive bits blocks kept (valid_in bits bytes) few apart some (λ b e. only bytes b (inl refl) e) in
    let rest = all_arrive bits blocks (kept_after bits kept bytes) arrivals few apart first.0.some (λ other b h e. only other b (inr h) e) in
    record {
      more = record { some = rest.more.some; stay = λ x h. rest.more.stay x (first.0.stay x h) };
      all = λ other b h e. elim h [
        | inl same ↦ rest.more.stay b (first.1 b (ap (valid_in bits) same ∙ e))
        | inr later ↦ rest.all other b later e
      ];
    }

-- the kept blocks after all arrivals are genesis and these blocks
record AreAll (blocks kept : List ReadBlock) : Type 0 where
  some : AreSome blocks kept
  all : (b : ReadBlock) → IsIn blocks b → IsIn kept b

all_kept : (bits : ℕ) (genesis : ReadBlock) (blocks : List ReadBlock) (arrivals : List (List ℕ)) → length (genesis ∷ blocks) ≤ 512 → AreApart (genesis ∷ blocks)
    → HaveArrived bits arrivals blocks → AreAll (genesis ∷ blocks) (kept_by_all bits genesis arrivals)
all_kept bits genesis blocks arrivals few apart come =
    let start : AreSome (genesis ∷ blocks) (genesis ∷ []) = record { apart = (refl, tt); within = λ b h. in_append_left (genesis ∷ []) blocks b h } in
    let done : AreKeptOfThese bits (genesis ∷ blocks) (genesis ∷ []) arrivals (kept_by_all bits genesis arrivals) =
    all_arrive bits (genesis ∷ blocks) (genesis ∷ []) arrivals few apart start
    (λ bytes b h e. inr (in_from_contains blocks b (come.only bytes b (contains_from_in arrivals bytes h) e))) in
    record {
      some = done.more.some;
      all = λ b h. elim h [
        | inl same ↦ done.more.stay b (inl same)
        | inr there ↦ (let from = come.all b (contains_from_in blocks b there) in done.all from.0 b (in_from_contains arrivals from.0 from.1) from.2)
      ];
    }

pub same_kept : (bits : ℕ) (genesis : ReadBlock) (arrivals others : List (List ℕ)) → AreSameArrivals bits genesis arrivals others
    → AreAlike (kept_by_all bits genesis arrivals) (kept_by_all bits genesis others)
same_kept bits genesis arrivals others same =
    let one : AreAll (genesis ∷ same.blocks) (kept_by_all bits genesis arrivals) = all_kept bits genesis same.blocks arrivals same.few same.apart same.first in
    let two : AreAll (genesis ∷ same.blocks) (kept_by_all bits genesis others) = all_kept bits genesis same.blocks others same.few same.apart same.second in
    record {
      apart = one.some.apart;
      other_apart = two.some.apart;
      into = λ b h. two.all b (one.some.within b h);
      onto = λ b h. one.all b (two.some.within b h);
    }
