-- What was read of a journal's bytes says what they hold.
use Rattle.std.proofs.Common.{◌≡◌, ◌⊎◌, inl, inr, ℕ, zero, suc, ◌+◌, ◌-◌, ◌*◌, ◌≤◌, Bool, true, false, cond, ltb, ◌&&◌, List, [], ◌∷◌, ◌++◌, length, map, take, drop, Option, Some, None, Result, Ok, Err, Vec, refl, sym, ap, subst, ◌∙◌, arith, append_assoc, length-append}
use Rattle.std.specs.declared.alloc.Global.{Global}
use Rattle.std.specs.List.{flat_map}
use Rattle.std.proofs.lemmas.Bool.{le-ltb}
use Rattle.std.proofs.lemmas.List.{append-nil, length-take, map-append}
use Rattle.std.proofs.lemmas.Grind.{flat_map-append}
use Rattle.sp_form.specs.Reading.{IsCause, read}
use Rattle.sp_form.specs.declared.fault.ReadFault.{ReadFault}
use Rattle.sp_form.specs.declared.fault.ReadFault.TheVariants.{Fault, Memory}
use Rattle.sp_ids.specs.Bits.{BeginsWithZeros}
use Rattle.sp_ids.specs.Digest.{sha256_number}
use Rattle.sp_block.specs.Block.{block_of, parts_of, ReadBlock}
use Rattle.sp_block.specs.Spelling.{HasBlockFault, SpellsBlock}
use Rattle.sp_block.specs.declared.fault.BlockFault.{BlockFault}
use Rattle.sp_model.specs.declared.profile.Profile.{Profile}
use Rattle.sp_journal.specs.Format.{broken, genesis_form, head_form, head_of, record_form}
use Rattle.sp_journal.specs.Journal.{head_text, record_text}
use Rattle.sp_block.specs.Judged.{is_block, meets}
use Rattle.sp_journal.specs.Judged.{has, is_record, IsRecord, with_id}
use Rattle.sp_journal.specs.Records.{Faulty, is_shut, NoJournal, records, records_by, records_of, row_first, row_then, Rows, rows, Sound}
use Rattle.sp_journal.specs.Recovery.{bytes_in, Finds, FindsRecord, IsFlawed, IsSpelled, IsSpelledBlock, SaysRows, with_rows}
use Rattle.sp_block.proofs.Judged.{faulty_block, meets_zeros, spelled_block, zeros_met}
use Rattle.sp_journal.proofs.Forms.{head_size}
use Rattle.sp_journal.proofs.RecordLaws.{is_recorded, short_record}

module _ (n : ℕ) (list bytes rest : List ℕ) (field : bytes ≡ take n list) (size : length bytes ≡ n) (left : rest ≡ drop n list) where
  enough : ltb (length list) n ≡ false
  enough = le-ltb (length list) n (omega (arith, size, ap length field, length-take n list))

  pub genesis_taken : is_block true bytes ≡ true → read (genesis_form n) list ≡ Ok (bytes, rest)
  unfolding read
  genesis_taken is =
      let e : is_block true (take n list) ≡ true = ap (is_block true) (sym field) ∙ is in
      rw (enough, e) (λ i. Ok (sym field i, sym left i))

  pub genesis_broken : is_block true bytes ≡ false → IsFlawed (read (genesis_form n) list)
  unfolding read
  genesis_broken is =
      let e : is_block true (take n list) ≡ false = ap (is_block true) (sym field) ∙ is in
      (broken, rw (enough, e) refl)

  pub genesis_found : (found : Option ReadBlock) → IsSpelled true bytes found → Finds bytes_in found rest (read (genesis_form n) list)
  genesis_found (Some block) s = genesis_taken s.test ∙ (λ i. Ok (sym s.same i, rest))
  genesis_found None none = genesis_broken none

-- a block that was read has these bytes
pub spelled_by : (genesis : Bool) (block : ReadBlock) (bytes : List ℕ) → SpellsBlock bytes genesis (parts_of block) → block ≡ block_of bytes (parts_of block) → IsSpelledBlock genesis bytes block
spelled_by genesis block bytes s is =
    let same : block.bytes ≡ bytes = ap (λ (b : ReadBlock). b.bytes) is in
    record {
      spells = subst (λ (list : List ℕ). SpellsBlock list genesis (parts_of block)) (sym same) s;
      same = same;
      id = ap (λ (b : ReadBlock). b.id) is;
      test = spelled_block genesis bytes (parts_of block) s;
    }

no_fault : (genesis : Bool) (bytes : List ℕ) (e : ReadFault BlockFault) (fault : BlockFault) → e ≡ Fault fault → IsCause (HasBlockFault bytes genesis) e → is_block genesis bytes ≡ false
no_fault genesis bytes Memory fault is cause = absurd cc
no_fault genesis bytes (Fault f) fault is cause = faulty_block genesis bytes f cause

pub faulty_by : (genesis : Bool) (bytes : List ℕ) (e : ReadFault BlockFault) (fault : BlockFault) → e ≡ Fault fault → IsCause (HasBlockFault bytes genesis) e → is_block genesis bytes ≡ false
faulty_by = no_fault

not_true : (b : Bool) → (b ≡ true → ⊥) → b ≡ false
not_true true h = absurd (h refl)
not_true false h = refl

and_false : (b : Bool) → (b && false) ≡ false
and_false true = refl
and_false false = refl

module _ (bits : ℕ) (ids : List ℕ) (bytes : List ℕ) where
  pub no_block : is_block false bytes ≡ false → is_record bits ids bytes ≡ false
  unfolding is_record
  no_block none = rw none refl

  pub known_record : (block : ReadBlock) → IsSpelledBlock false bytes block → has ids block.id ≡ true → is_record bits ids bytes ≡ false
  unfolding is_record
  known_record block s known = rw (s.test, ap (has ids) (sym s.id) ∙ known) (and_false (meets (sha256_number bytes) bits))

  pub easy_record : (block : ReadBlock) → IsSpelledBlock false bytes block → (BeginsWithZeros block.id bits → ⊥) → is_record bits ids bytes ≡ false
  unfolding is_record
  easy_record block s easy =
      let misses : meets (sha256_number bytes) bits ≡ false = not_true (meets (sha256_number bytes) bits) (λ e. easy (zeros_met block.id bits (ap (λ (id : ℕ). meets id bits) s.id ∙ e))) in
      rw (s.test, misses) refl

  pub good_record : (block : ReadBlock) → IsSpelledBlock false bytes block → has ids block.id ≡ false → BeginsWithZeros block.id bits → IsRecord bits ids block.bytes
  good_record block s fresh work =
      subst (IsRecord bits ids) (sym s.same)
      (is_recorded bits ids bytes s.test (ap (λ (id : ℕ). meets id bits) (sym s.id) ∙ meets_zeros block.id bits work) (ap (has ids) (sym s.id) ∙ fresh))

-- ---- the loop over the records

with_rows-nil : (r : Rows) → with_rows [] r ≡ r
with_rows-nil (Sound blocks) = refl
with_rows-nil (Faulty at) = refl

with_rows-push : (before : List (List ℕ)) (bytes : List ℕ) (r : Rows) → with_rows before (row_first bytes r) ≡ with_rows (before ++ bytes ∷ []) r
with_rows-push before bytes (Sound blocks) = ap Sound (sym (append_assoc before (bytes ∷ []) blocks))
with_rows-push before bytes (Faulty at) = refl

module _ (room bits : ℕ) (ids : List ℕ) (at : ℕ) (list : List ℕ) where
  -- a closed gate ends the records
  pub rows_end : is_shut list ≡ true → rows room bits ids at list ≡ Sound []
  unfolding rows
  rows_end e = by room
    where
      by : (n : ℕ) → rows n bits ids at list ≡ Sound []
      by zero = rw e refl
      by (suc n) = rw e refl

  -- no room for another
  pub rows_full : is_shut list ≡ false → rows zero bits ids at list ≡ Faulty at
  unfolding rows
  rows_full e = rw e refl

  -- one record, and then more
  pub rows_next : (bytes rest : List ℕ) → is_shut list ≡ false → read record_form list ≡ Ok (bytes, rest) → IsRecord bits ids bytes → rows (suc room) bits ids at list ≡ row_first bytes (rows room bits (with_id ids bytes) (at + length (record_text bytes)) rest)
  unfolding rows
  rows_next bytes rest e first good =
      let next = λ (bytes rest : List ℕ). rows room bits (with_id ids bytes) (at + length (record_text bytes)) rest in
      ap (λ (b : Bool). cond b (Sound []) (row_then bits ids at (read record_form list) next)) e ∙ ap (λ r. row_then bits ids at r next) first ∙ rw good refl

  -- a record that the journal may not hold
  pub rows_faulty : is_shut list ≡ false → IsFlawed (read record_form list) ⊎ ((bytes rest : List ℕ) × (read record_form list ≡ Ok (bytes, rest)) × (is_record bits ids bytes ≡ false)) → rows (suc room) bits ids at list ≡ Faulty at
  unfolding rows
  rows_faulty e (inl flawed) =
      let next = λ (bytes rest : List ℕ). rows room bits (with_id ids bytes) (at + length (record_text bytes)) rest in
      ap (λ (b : Bool). cond b (Sound []) (row_then bits ids at (read record_form list) next)) e ∙ ap (λ r. row_then bits ids at r next) flawed.1
  rows_faulty e (inr bad) =
      let next = λ (bytes rest : List ℕ). rows room bits (with_id ids bytes) (at + length (record_text bytes)) rest in
      ap (λ (b : Bool). cond b (Sound []) (row_then bits ids at (read record_form list) next)) e ∙ ap (λ r. row_then bits ids at r next) bad.2 ∙ rw bad.3 refl

-- what was read so far, and what is left to say
pub record IsSoFar (bits : ℕ) (first : List ℕ) (start : ℕ) (all : List ℕ) (blocks : List ReadBlock) (ids : List ℕ) (at : ℕ) (list : List ℕ) : Type 0 where
  pub few : length blocks ≤ 511
  pub rest : rows 511 bits first start all ≡ with_rows (map bytes_in blocks) (rows (511 - length blocks) bits ids at list)
  pub place : at ≡ start + length (flat_map record_text (map bytes_in blocks))
  pub bound : at ≤ start + 65541 * length blocks

module _ (bits : ℕ) (first : List ℕ) (start : ℕ) (all : List ℕ) where
  pub so_far_first : (blocks : List ReadBlock) (ids : List ℕ) → blocks ≡ [] → ids ≡ first → IsSoFar bits first start all blocks ids start all
  so_far_first blocks ids none is =
      let at_first : IsSoFar bits first start all [] first start all = record { few = omega arith; rest = sym (with_rows-nil (rows 511 bits first start all)); place = omega arith; bound = omega arith } in
      subst (λ (b : List ReadBlock). IsSoFar bits first start all b ids start all) (sym none) (subst (λ (l : List ℕ). IsSoFar bits first start all [] l start all) (sym is) at_first)

  module _ (blocks : List ReadBlock) (ids : List ℕ) (at : ℕ) (list : List ℕ) (so_far : IsSoFar bits first start all blocks ids at list) where
    pub so_far_end : is_shut list ≡ true → rows 511 bits first start all ≡ Sound (map bytes_in blocks)
    so_far_end e = so_far.rest ∙ ap (with_rows (map bytes_in blocks)) (rows_end (511 - length blocks) bits ids at list e) ∙ ap Sound (append-nil (map bytes_in blocks))

    pub so_far_full : length blocks ≡ 511 → is_shut list ≡ false → rows 511 bits first start all ≡ Faulty at
    so_far_full full e =
        let none : 511 - length blocks ≡ 0 = omega (arith, full) in
        so_far.rest ∙ ap (with_rows (map bytes_in blocks)) (ap (λ n. rows n bits ids at list) none ∙ rows_full 0 bits ids at list e)

    pub so_far_faulty : (length blocks ≡ 511 → ⊥) → is_shut list ≡ false → (left : List ℕ) → FindsRecord bits ids list left None → rows 511 bits first start all ≡ Faulty at
    so_far_faulty room e left none =
        let more : 511 - length blocks ≡ suc (510 - length blocks) = omega (arith, so_far.few, room) in
        so_far.rest ∙ ap (with_rows (map bytes_in blocks)) (ap (λ n. rows n bits ids at list) more ∙ rows_faulty (510 - length blocks) bits ids at list e none)

    pub so_far_more : (block : ReadBlock) (left : List ℕ) → (length blocks ≡ 511 → ⊥) → is_shut list ≡ false → FindsRecord bits ids list left (Some block) → block.id ≡ sha256_number block.bytes → (blocks' : List ReadBlock) (ids' : List ℕ) (at' : ℕ)
        → blocks' ≡ blocks ++ block ∷ [] → ids' ≡ ids ++ block.id ∷ [] → at' ≡ at + (5 + length block.bytes) → IsSoFar bits first start all blocks' ids' at' left
    so_far_more block left room e found id blocks' ids' at' pushed noted moved =
        let short = short_record bits ids block.bytes found.1 in
        let more : 511 - length blocks ≡ suc (510 - length blocks) = omega (arith, so_far.few, room) in
        let count : length blocks' ≡ length blocks + 1 = ap length pushed ∙ length-append blocks (block ∷ []) in
        let left_room : 510 - length blocks ≡ 511 - length blocks' = omega (arith, so_far.few, room, count) in
        let names : map bytes_in blocks' ≡ map bytes_in blocks ++ block.bytes ∷ [] = ap (map bytes_in) pushed ∙ map-append bytes_in blocks (block ∷ []) in
        let place : at + length (record_text block.bytes) ≡ at' = omega (arith, moved) in
        let known : with_id ids block.bytes ≡ ids' = ap (λ (n : ℕ). ids ++ n ∷ []) (sym id) ∙ sym noted in
        let size : length (flat_map record_text (map bytes_in blocks')) ≡ length (flat_map record_text (map bytes_in blocks)) + length (record_text block.bytes) =
        ap (λ (bs : List (List ℕ)). length (flat_map record_text bs)) names ∙ ap length (flat_map-append record_text (map bytes_in blocks) (block.bytes ∷ []) ∙ ap (λ (t : List ℕ). flat_map record_text (map bytes_in blocks) ++ t) (append-nil (record_text block.bytes)))
        ∙ length-append (flat_map record_text (map bytes_in blocks)) (record_text block.bytes) in
        record {
          few = omega (arith, so_far.few, room, count);
          rest = so_far.rest
              ∙ ap (with_rows (map bytes_in blocks)) (ap (λ n. rows n bits ids at list) more ∙ rows_next (510 - length blocks) bits ids at list block.bytes left e found.0 found.1)
              ∙ with_rows-push (map bytes_in blocks) block.bytes (rows (510 - length blocks) bits (with_id ids block.bytes) (at + length (record_text block.bytes)) left)
              ∙ (λ i. with_rows (sym names i) (rows (left_room i) bits (known i) (place i) left));
          place = omega (arith, so_far.place, moved, size);
          bound = omega (arith, so_far.bound, moved, count, short);
        }

-- ---- the whole

pub none_by : (list : List ℕ) → IsFlawed (read head_form list) → records list ≡ NoJournal
unfolding records
none_by list flawed = ap records_of flawed.1

module _ (list rest : List ℕ) (profile : Profile) (bits : ℕ) (genesis : List ℕ) (id start : ℕ) (head : read head_form list ≡ Ok (head_of profile bits genesis, rest)) (same : id ≡ sha256_number genesis) (at : start ≡ 14 + length genesis) where
  pub found_by : (r : Rows) → rows 511 bits (id ∷ []) start rest ≡ r → records list ≡ records_by (head_of profile bits genesis) r
  unfolding records
  found_by r is =
      let place : length (head_text (head_of profile bits genesis)) ≡ start = head_size (head_of profile bits genesis) ∙ sym at in
      ap records_of head ∙ (λ i. records_by (head_of profile bits genesis) (rows 511 bits (sym same i ∷ []) (place i) rest)) ∙ ap (records_by (head_of profile bits genesis)) is

-- what the loop answered
abbrev pub blocks_of : Vec ReadBlock Global × ℕ → List (List ℕ)
blocks_of found = map bytes_in found.0.items

pub found_says : (r : Result (Vec ReadBlock Global × ℕ) ℕ) (all : Rows) (blocks : Vec ReadBlock Global) (gate : ℕ) → r ≡ Ok (blocks, gate) → SaysRows blocks_of r all → all ≡ Sound (map bytes_in blocks.items)
found_says r all blocks gate is says = let here : SaysRows blocks_of (Ok (blocks, gate)) all = subst (λ (x : Result (Vec ReadBlock Global × ℕ) ℕ). SaysRows blocks_of x all) is says in here

pub damaged_says : (r : Result (Vec ReadBlock Global × ℕ) ℕ) (all : Rows) (at : ℕ) → r ≡ Err at → SaysRows blocks_of r all → all ≡ Faulty at
damaged_says r all at is says = let here : SaysRows blocks_of (Err at) all = subst (λ (x : Result (Vec ReadBlock Global × ℕ) ℕ). SaysRows blocks_of x all) is says in here
