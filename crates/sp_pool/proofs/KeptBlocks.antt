-- The kept blocks are genesis and others, no two of one id.
use Rattle.std.proofs.Common.{◌≡◌, ℕ, ◌<◌, Bool, true, false, ◌||◌, List, [], ◌∷◌, ◌++◌, length, refl, sym, ap, subst, ◌∙◌, eqb, length-append, arith}
use Rattle.std.proofs.lemmas.Bool.{false≢true}
use Rattle.std.proofs.lemmas.List.{map-append}
use Rattle.std.proofs.lemmas.List.Folds.{list_any-append}
use Rattle.std.proofs.lemmas.List.Elements.{All-nil, All-push}
use Rattle.sp_block.specs.Block.{IsBlock, IsGenesis, IsOther, ReadBlock}
use Rattle.sp_block.proofs.Whole.{genesis_parents}
use Rattle.sp_model.specs.Graph.{AreDistinct, has}
use Rattle.sp_pool.specs.Kept.{AreApart, AreKept, ids_of}
use Rattle.sp_pool.proofs.Tables.{eqb_flip}

pub no_parents : (b : ReadBlock) → IsBlock b → IsGenesis b → b.parents ≡ []
no_parents b h s = none b.parents (genesis_parents b h s)
  where
    none : (parents : List ℕ) → length parents ≡ 0 → parents ≡ []
    none [] e = refl
    none (p ∷ ps) e = absurd (omega arith)

pub AreKept-one : (genesis : ReadBlock) → IsBlock genesis → IsGenesis genesis → AreKept (genesis ∷ [])
AreKept-one genesis block kind =
    record {
      genesis = genesis;
      others = [];
      first = refl;
      is_genesis = kind;
      are_other = All-nil IsOther;
      are_blocks = All-push IsBlock [] genesis (All-nil IsBlock) block;
      apart = (refl, tt);
      few = omega arith;
    }

pub has-push : (s : List ℕ) (x z : ℕ) → has (s ++ x ∷ []) z ≡ (has s z || eqb x z)
has-push s x z = list_any-append (λ k. eqb k z) s (x ∷ []) ∙ at (has s z) (eqb x z)
  where
    at : (c d : Bool) → (c || (d || false)) ≡ (c || d)
    at true d = refl
    at false true = refl
    at false false = refl

-- one more number, which isn't there
pub AreDistinct-push : (s : List ℕ) (x : ℕ) → AreDistinct s → has s x ≡ false → AreDistinct (s ++ x ∷ [])
AreDistinct-push [] x apart fresh = (refl, tt)
AreDistinct-push (y ∷ ys) x apart fresh =
    let parts = neither (eqb y x) (has ys x) fresh in
    (has-push ys x y ∙ both (has ys y) (eqb x y) apart.0 (eqb_flip x y ∙ parts.0), AreDistinct-push ys x apart.1 parts.1)
  where
    neither : (c d : Bool) → (c || d) ≡ false → (c ≡ false) × (d ≡ false)
    neither true d h = absurd (false≢true (sym h))
    neither false d h = (refl, h)

    both : (c d : Bool) → c ≡ false → d ≡ false → (c || d) ≡ false
    both true d h e = h
    both false d h e = e

pub AreApart-push : (kept : List ReadBlock) (b : ReadBlock) → AreApart kept → has (ids_of kept) b.id ≡ false → AreApart (kept ++ b ∷ [])
AreApart-push kept b apart fresh =
    subst (λ (ids : List ℕ). AreDistinct ids) (sym (map-append (λ (x : ReadBlock). x.id) kept (b ∷ []))) (AreDistinct-push (ids_of kept) b.id apart fresh)

pub AreKept-push : (kept : List ReadBlock) (b : ReadBlock) → AreKept kept → IsBlock b → IsOther b → has (ids_of kept) b.id ≡ false → length kept < 512 → AreKept (kept ++ b ∷ [])
AreKept-push kept b h block kind fresh room =
    record {
      genesis = h.genesis;
      others = h.others ++ b ∷ [];
      first = ap (λ (bs : List ReadBlock). bs ++ b ∷ []) h.first;
      is_genesis = h.is_genesis;
      are_other = All-push IsOther h.others b h.are_other kind;
      are_blocks = All-push IsBlock kept b h.are_blocks block;
      apart = AreApart-push kept b h.apart fresh;
      few = omega (arith, room, length-append kept (b ∷ []));
    }
