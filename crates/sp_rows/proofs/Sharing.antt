-- A `&` to the owner of a chunk's words is made where one to a word is. Assumes `Logic`.
use Prim.Native.Nat.{ℕ, ◌+◌, ◌-◌, ◌*◌}
use mir.Syntax.{w64}
use contract.BorrowLft.{⊑_static}
use Rattle.std.specs.Prelude.{List, [], ◌∷◌, length}
use seplogic.Ra.Ura.{Ura}
use base.Fml.{Lft, ftrue, ffalse, fsep, froom}
use types.Logic.{Logic}
use types.SemTy.{cells}
use denote.Builtin.{u64}
use denote.Memory.{mem, shared_of}
use denote.Plain.{uint_row_laws}
use denote.RawPtr.{Ptr, block_ptr, null_ptr}
use denote.Sharing.{ShrLaws, said}
use denote.SharingLaws.{said_shr_laws}
use denote.Shares.{Shares-less}
use denote.Param.Shared.{copy_shared}
use denote.Struct.Field.{u64-field}
use denote.Struct.Laws.{u64-copy}
use denote.Slice.{elements_shared, elements_shr_laws}
use denote.Struct.Lending.{Lends, Lends-both, Lends-first, Lends-nothing, Lends-false}
use Rattle.sp_rows.specs.Ownership.{words_own, words_lent, words_of_type, right_to_free}

pub words_lent_laws : (p : Ptr) (ws : List ℕ) → ShrLaws (words_lent p ws)
words_lent_laws (block_ptr b o) ws = elements_shr_laws u64 (uint_row_laws w64) ws b o
words_lent_laws null_ptr ws = said_shr_laws ffalse tt

module _ {M : Type 1} {𝓤 : Ura M} (𝓛 : Logic 𝓤) (l : Lft) where
  Lends-words : (b o : ℕ) (ws : List ℕ) → Lends 𝓛 (cells (mem u64) ws b o) (elements_shared u64 ws b o) l
  Lends-words b o [] = Lends-nothing 𝓛 ftrue l
  Lends-words b o (w ∷ ws) =
      Lends-both 𝓛 ((mem u64).own_at w b o) (cells (mem u64) ws b (o + (mem u64).size)) (shared_of u64 w b o) (elements_shared u64 ws b (o + (mem u64).size)) l
      (λ κ ts. Shares-less 𝓛 u64 u64.lives l (⊑_static l) ((copy_shared u64-field u64-copy).shares M 𝓤 𝓛) w κ ts b o) (Lends-words b (o + (mem u64).size) ws)

  pub Lends-owned : (p : Ptr) (ws : List ℕ) → Lends 𝓛 (words_own p ws) (words_lent p ws) l
  Lends-owned (block_ptr b o) ws =
      Lends-first 𝓛 (cells (mem u64) ws b o) (fsep (froom (words_of_type (2048 - length ws)) b (length ws * 8 + o)) (right_to_free (block_ptr b o)))
      (elements_shared u64 ws b o) l (Lends-words b o ws)
  Lends-owned null_ptr ws = Lends-false 𝓛 (said ffalse) l
