-- A journal with one block more.
use Rattle.std.proofs.Common.{◌≡◌, ◌⊎◌, inl, inr, ℕ, ◌<◌, List, [], ◌∷◌, ◌++◌, length, map, sym, ap, subst, ◌∙◌, false, true, arith, append_assoc, length-append}
use Rattle.std.specs.Prelude.{fold}
use Rattle.std.specs.List.{flat_map}
use Rattle.std.proofs.lemmas.Grind.{flat_map-append}
use Rattle.std.proofs.lemmas.List.{append-nil}
use Rattle.sp_form.specs.Turns.{InTurn}
use Rattle.sp_ids.specs.Digest.{sha256_number}
use Rattle.sp_journal.specs.Format.{head_of, set}
use Rattle.sp_journal.specs.Gates.{IsOpened, IsShut, IsShutOrOpened}
use Rattle.sp_journal.specs.Journal.{AreContents, Contents, first_ids, front, head_text, ids_of, record_body, record_text, sized, with_block}
use Rattle.sp_block.specs.Judged.{is_block, meets}
use Rattle.sp_journal.specs.Judged.{has, IsRecord, with_id}
use Rattle.sp_journal.specs.Records.{Found, records}
use Rattle.sp_journal.proofs.RecordLaws.{found_front, is_recorded}

-- values in turn, and one more behind them
pub push_in_turn : {A S : Type 0} (rule : S → A → Type 0) (carried : S → A → S) (seen : S) (xs : List A) (x : A) → InTurn rule carried seen xs → rule (fold carried seen xs) x → InTurn rule carried seen (xs ++ x ∷ [])
push_in_turn rule carried seen [] x each one = (one, tt)
push_in_turn rule carried seen (y ∷ xs) x each one = (each.0, push_in_turn rule carried (carried seen y) xs x each.1 one)

carried_ids : (ids : List ℕ) (blocks : List (List ℕ)) → fold with_id ids blocks ≡ ids ++ map sha256_number blocks
carried_ids ids [] = sym (append-nil ids)
carried_ids ids (b ∷ bs) = carried_ids (with_id ids b) bs ∙ append_assoc ids (sha256_number b ∷ []) (map sha256_number bs)

-- the front of the journal with the block
pub front_added : (c : Contents) (bytes : List ℕ) → front (with_block c bytes) ≡ front c ++ record_text bytes
front_added c bytes =
    let head = head_text (head_of c.profile c.bits c.genesis) in
    let all : flat_map record_text (c.blocks ++ bytes ∷ []) ≡ flat_map record_text c.blocks ++ record_text bytes =
    flat_map-append record_text c.blocks (bytes ∷ []) ∙ ap (λ (t : List ℕ). flat_map record_text c.blocks ++ t) (append-nil (record_text bytes)) in
    ap (λ (t : List ℕ). head ++ t) all ∙ sym (append_assoc head (flat_map record_text c.blocks) (record_text bytes))

-- an opened record joins the journal, for a closed gate stands behind it
pub opened_added : (c : Contents) (bytes list : List ℕ) → IsOpened (front c) (record_body bytes) list → IsShut (front (with_block c bytes)) list
opened_added c bytes list opened =
    let behind = 0 ∷ opened.rest in
    let body : record_body bytes ++ opened.rest ≡ sized bytes ++ behind = append_assoc (sized bytes) (0 ∷ []) opened.rest in
    record {
      gate = 0;
      rest = opened.rest;
      closed = λ is. absurd (omega (arith, is));
      parts = opened.parts ∙ ap (λ (t : List ℕ). front c ++ set ∷ t) body ∙ sym (append_assoc (front c) (record_text bytes) behind) ∙ ap (λ (t : List ℕ). t ++ behind) (sym (front_added c bytes));
    }

-- a block that is valid and new may join
pub may_join : (c : Contents) (bytes : List ℕ) → AreContents c → length c.blocks < 511 → is_block false bytes ≡ true → meets (sha256_number bytes) c.bits ≡ true → has (ids_of c) (sha256_number bytes) ≡ false
    → AreContents (with_block c bytes)
may_join c bytes are room block work fresh =
    let same : fold with_id (first_ids c.genesis) c.blocks ≡ ids_of c = carried_ids (first_ids c.genesis) c.blocks in
    let one : IsRecord c.bits (fold with_id (first_ids c.genesis) c.blocks) bytes = subst (λ (ids : List ℕ). IsRecord c.bits ids bytes) (sym same) (is_recorded c.bits (ids_of c) bytes block work fresh) in
    record {
      bits = are.bits;
      genesis = are.genesis;
      few = omega (arith, room, length-append c.blocks (bytes ∷ []));
      records = push_in_turn (IsRecord c.bits) with_id (first_ids c.genesis) c.blocks bytes are.records one;
    }

-- with the gate closed or open, the bytes hold the journal or the one with the block
pub held_or_added : (c : Contents) (bytes list : List ℕ) → AreContents c → AreContents (with_block c bytes) → IsShutOrOpened (front c) (record_body bytes) list
    → (records list ≡ Found c) ⊎ (records list ≡ Found (with_block c bytes))
held_or_added c bytes list are added (inl shut) = inl (found_front c list are shut)
held_or_added c bytes list are added (inr opened) = inr (found_front (with_block c bytes) list added (opened_added c bytes list opened))
