-- The tests on bytes and on ids are what they stand for.
use Rattle.std.proofs.Common.{◌≡◌, ℕ, ◌<◌, ◌≤◌, Bool, true, false, leb, eqb, ◌&&◌, List, length, Result, Ok, Err, refl, ap, ◌∙◌, arith}
use Rattle.std.proofs.lemmas.Bool.{and_parts, le-leb, lt-leb, leb-true, eq-eqb, eqb-true, ne_eqb}
use Rattle.sp_form.specs.Reading.{read}
use Rattle.sp_form.proofs.FormLaws.{reads_fault, reads_spelled}
use Rattle.sp_form.proofs.Texts.{reads_all}
use Rattle.sp_ids.specs.Bits.{BeginsWithZeros, bit_at}
use Rattle.sp_ids.specs.Key.{bytes_of}
use Rattle.sp_block.specs.Format.{block_form, Parts}
use Rattle.sp_block.specs.Spelling.{behind, HasBlockFault, inside, long, SpellsBlock}
use Rattle.sp_block.specs.declared.fault.BlockFault.{BlockFault}
use Rattle.sp_block.proofs.Whole.{all_spelled}
use Rattle.sp_block.proofs.Ranges.{all_range, range_all}
use Rattle.sp_block.specs.Judged.{BlockIsSpelled, is_block, is_read_to_end, meets, WorkIsMet}

abbrev Read : Type 0
Read = Result (Parts × List ℕ) BlockFault

pub spelled_block : (genesis : Bool) (bytes : List ℕ) (parts : Parts) → SpellsBlock bytes genesis parts → is_block genesis bytes ≡ true
unfolding is_block
spelled_block genesis bytes parts s =
    let few : leb (length bytes) 65536 ≡ true = le-leb (length bytes) 65536 s.short in
    rw (few, reads_all (block_form genesis) bytes parts s.spells) refl

not_both : (a b : Bool) → b ≡ false → (a && b) ≡ false
not_both true b e = e
not_both false b e = refl

some_left : (parts : Parts) (rest : List ℕ) → 0 < length rest → is_read_to_end (Ok (parts, rest)) ≡ false
some_left parts rest some = ne_eqb (length rest) 0 (λ none. absurd (omega arith))

pub faulty_block : (genesis : Bool) (bytes : List ℕ) (fault : BlockFault) → HasBlockFault bytes genesis fault → is_block genesis bytes ≡ false
unfolding is_block
faulty_block genesis bytes fault (long many) = let few : leb (length bytes) 65536 ≡ false = lt-leb _ _ many in rw few refl
faulty_block genesis bytes fault (inside f few h) =
    not_both (leb (length bytes) 65536) (is_read_to_end (read (block_form genesis) bytes)) (rw (reads_fault (block_form genesis) bytes fault h) refl)
faulty_block genesis bytes fault (behind text rest parts few s e some) =
    not_both (leb (length bytes) 65536) (is_read_to_end (read (block_form genesis) bytes))
    (rw (ap (read (block_form genesis)) e ∙ reads_spelled (block_form genesis) text parts rest s) (some_left parts rest some))

pub meets_zeros : (id bits : ℕ) → BeginsWithZeros id bits → meets id bits ≡ true
unfolding meets
meets_zeros id bits h = all_range (λ place. eqb (bit_at (bytes_of id) place) 0) 0 bits (λ k low high. eq-eqb (bit_at (bytes_of id) k) 0 (h k (omega arith)))

pub zeros_met : (id bits : ℕ) → meets id bits ≡ true → BeginsWithZeros id bits
unfolding meets
zeros_met id bits e place le = eqb-true (bit_at (bytes_of id) place) 0 (range_all (λ place. eqb (bit_at (bytes_of id) place) 0) 0 bits place e (omega arith) (omega arith))

pub work_is_met : WorkIsMet
work_is_met id bits = (λ e. zeros_met id bits e, λ h. meets_zeros id bits h)

pub misses : (id bits : ℕ) → (BeginsWithZeros id bits → ⊥) → meets id bits ≡ false
misses id bits lacks = at (meets id bits) (zeros_met id bits)
  where
    at : (c : Bool) → (c ≡ true → BeginsWithZeros id bits) → c ≡ false
    at true h = absurd (lacks (h refl))
    at false h = refl

spelled_by : (genesis : Bool) (bytes : List ℕ) (r : Read) → length bytes ≤ 65536 → read (block_form genesis) bytes ≡ r → is_read_to_end r ≡ true → (parts : Parts) × SpellsBlock bytes genesis parts
spelled_by genesis bytes (Ok found) few e end = (found.0, all_spelled bytes genesis found.0 found.1 few e (eqb-true (length found.1) 0 end))
spelled_by genesis bytes (Err fault) few e end = absurd cc

pub block_spelled : (genesis : Bool) (bytes : List ℕ) → is_block genesis bytes ≡ true → (parts : Parts) × SpellsBlock bytes genesis parts
unfolding is_block
block_spelled genesis bytes e =
    let t = and_parts (leb (length bytes) 65536) (is_read_to_end (read (block_form genesis) bytes)) e in
    spelled_by genesis bytes (read (block_form genesis) bytes) (leb-true (length bytes) 65536 t.0) refl t.1

pub block_is_spelled : BlockIsSpelled
block_is_spelled genesis bytes = (λ e. block_spelled genesis bytes e, λ s. spelled_block genesis bytes s.0 s.1)
