-- What a list of bytes is as a block, by the function, is what it spells or its first fault; and whether it is valid.
use Rattle.std.proofs.Common.{◌≡◌, ℕ, ◌<◌, Bool, true, false, List, length, Result, Ok, Err, refl, sym, ap, subst, ◌∙◌, inl, inr, arith, ◌↔◌}
use Rattle.std.specs.Prelude.{IsTrue}
use Rattle.std.proofs.lemmas.Bool.{le-ltb, lt-ltb, ne_eqb}
use Rattle.sp_form.specs.Reading.{read}
use Rattle.sp_form.proofs.FormLaws.{reads_fault, reads_spelled}
use Rattle.sp_form.proofs.Texts.{reads_all}
use Rattle.sp_ids.specs.Bits.{BeginsWithZeros}
use Rattle.sp_block.specs.Block.{block_of, parts_of, ReadBlock}
use Rattle.sp_block.specs.Format.{block_form, Parts}
use Rattle.sp_block.specs.Spelling.{behind, HasBlockFault, inside, long, SpellsBlock}
use Rattle.sp_block.specs.declared.fault.BlockFault.{BlockFault}
use Rattle.sp_block.specs.declared.fault.BlockFault.TheVariants.{Trailing}
use Rattle.sp_block.proofs.Judged.{meets_zeros, misses}
use Rattle.sp_block.proofs.Whole.{either}
use Rattle.sp_engine.specs.Arrivals.{valid_by, valid_in}
use Rattle.sp_engine.specs.Blocks.{block_by, block_in, BlockIsSpelled, BlockIsWhole, FaultIsFirst}
use Rattle.sp_engine.specs.declared.answer.Refusal.TheVariants.{Spelling, Work}

pub spelled_block : (genesis : Bool) (bytes : List ℕ) (parts : Parts) → SpellsBlock bytes genesis parts → block_in genesis bytes ≡ Ok (block_of bytes parts)
unfolding block_in
spelled_block genesis bytes parts s =
    rw (le-ltb 65536 (length bytes) s.short, reads_all (block_form genesis) bytes parts s.spells) refl

some_left : (bytes rest : List ℕ) (parts : Parts) → 0 < length rest → block_by bytes (Ok (parts, rest)) ≡ Err Trailing
some_left bytes rest parts some = rw (ne_eqb (length rest) 0 (λ none. absurd (omega (arith, none)))) refl

pub faulty_block : (genesis : Bool) (bytes : List ℕ) (fault : BlockFault) → HasBlockFault bytes genesis fault → block_in genesis bytes ≡ Err fault
unfolding block_in
faulty_block genesis bytes fault (long many) = rw (lt-ltb 65536 (length bytes) many) refl
faulty_block genesis bytes fault (inside f few h) = rw (le-ltb 65536 (length bytes) few, reads_fault (block_form genesis) bytes fault h) refl
faulty_block genesis bytes fault (behind text rest parts few s e some) =
    rw (le-ltb 65536 (length bytes) few) (ap (block_by bytes) (ap (read (block_form genesis)) e ∙ reads_spelled (block_form genesis) text parts rest s) ∙ some_left bytes rest parts some)

same_Ok : {X E : Type 0} (x y : X) → (let r : Result X E = Ok x in r) ≡ Ok y → x ≡ y
same_Ok x y e = cc

same_Err : {X E : Type 0} (x y : E) → (let r : Result X E = Err x in r) ≡ Err y → x ≡ y
same_Err x y e = cc

ok_no_err : {X E : Type 0} (x : X) (y : E) → Ok x ≡ Err y → ⊥
ok_no_err x y e = cc

pub block_is_spelled : BlockIsSpelled
block_is_spelled genesis bytes parts = (from, spelled_block genesis bytes parts)
  where
    from : block_in genesis bytes ≡ Ok (block_of bytes parts) → SpellsBlock bytes genesis parts
    from e = elim (either bytes genesis) [
      | inl s ↦ (let same : block_of bytes s.0 ≡ block_of bytes parts = same_Ok (block_of bytes s.0) (block_of bytes parts) (sym (spelled_block genesis bytes s.0 s.1) ∙ e) in
          subst (λ (p : Parts). SpellsBlock bytes genesis p) (ap parts_of same) s.1)
      | inr f ↦ absurd (ok_no_err (block_of bytes parts) f.0 (sym e ∙ faulty_block genesis bytes f.0 f.1))
    ]

pub block_is_whole : BlockIsWhole
block_is_whole genesis bytes block e = elim (either bytes genesis) [
  | inl s ↦ (let same : block_of bytes s.0 ≡ block = same_Ok (block_of bytes s.0) block (sym (spelled_block genesis bytes s.0 s.1) ∙ e) in
      sym same ∙ ap (λ (p : Parts). block_of bytes p) (ap parts_of same))
  | inr f ↦ absurd (ok_no_err block f.0 (sym e ∙ faulty_block genesis bytes f.0 f.1))
]

pub fault_is_first : FaultIsFirst
fault_is_first genesis bytes fault = (from, faulty_block genesis bytes fault)
  where
    from : block_in genesis bytes ≡ Err fault → HasBlockFault bytes genesis fault
    from e = elim (either bytes genesis) [
      | inl s ↦ absurd (ok_no_err (block_of bytes s.0) fault (sym (spelled_block genesis bytes s.0 s.1) ∙ e))
      | inr f ↦ subst (λ (g : BlockFault). HasBlockFault bytes genesis g) (same_Err f.0 fault (sym (faulty_block genesis bytes f.0 f.1) ∙ e)) f.1
    ]

module _ {bytes : List ℕ} {block : ReadBlock} where
  is_block : SpellsBlock bytes false (parts_of block) → block ≡ block_of bytes (parts_of block) → block_in false bytes ≡ Ok block
  is_block s e = spelled_block false bytes (parts_of block) s ∙ ap Ok (sym e)

  pub valid_ok : (bits : ℕ) (passes : Bool) → SpellsBlock bytes false (parts_of block) → block ≡ block_of bytes (parts_of block) → (IsTrue passes ↔ BeginsWithZeros block.id bits) → passes ≡ true → valid_in bits bytes ≡ Ok block
  unfolding valid_in
  valid_ok bits passes s e told met = ap (valid_by bits) (is_block s e) ∙ rw (meets_zeros block.id bits (told.0 met)) refl

  pub valid_work : (bits : ℕ) (passes : Bool) → SpellsBlock bytes false (parts_of block) → block ≡ block_of bytes (parts_of block) → (IsTrue passes ↔ BeginsWithZeros block.id bits) → passes ≡ false → valid_in bits bytes ≡ Err Work
  unfolding valid_in
  valid_work bits passes s e told missed = ap (valid_by bits) (is_block s e) ∙ rw (misses block.id bits (λ h. let met : passes ≡ true = told.1 h in cc)) refl

pub valid_fault : (bits : ℕ) (bytes : List ℕ) (fault : BlockFault) → HasBlockFault bytes false fault → valid_in bits bytes ≡ Err (Spelling fault)
unfolding valid_in
valid_fault bits bytes fault h = ap (valid_by bits) (faulty_block false bytes fault h)
