-- What the raw memory of a chunk owns, and what a `&` to it lends.
use Rattle.std.specs.Prelude.{ℕ, ◌+◌, ◌-◌, ◌*◌, List, length}
use mir.Syntax.{Ty, ty_int, ty_array, w64}
use base.Fml.{Lft, Fml, ffalse, fsep, froom}
use types.SemTy.{cells}
use denote.Builtin.{u64}
use denote.Memory.{mem}
use denote.RawPtr.{Ptr, block_ptr, null_ptr}
use denote.Sharing.{said}
use denote.Slice.{elements_shared}
use Rattle.std.specs.contracts.impls.GlobalAllocator.TheImpl.{ghosts}

-- so many words
abbrev pub words_of_type : ℕ → Ty
words_of_type n = ty_array (ty_int w64) n

-- the right to free the room of a chunk
abbrev pub right_to_free : Ptr → Fml
right_to_free = ghosts.dealloc_token (record { memory = record { seal = tt } }) (words_of_type 2048)

-- the words that are written, the room behind them, and the right to free both
abbrev pub words_own : Ptr → List ℕ → Fml
words_own (block_ptr b o) words =
    fsep (cells (mem u64) words b o) (fsep (froom (words_of_type (2048 - length words)) b (length words * 8 + o)) (right_to_free (block_ptr b o)))
words_own null_ptr words = ffalse

-- the words that are written, to be read
abbrev pub words_lent : Ptr → List ℕ → Lft → Fml
words_lent (block_ptr b o) words = elements_shared u64 words b o
words_lent null_ptr words = said ffalse
