-- One node among others: the list of its ids as blocks join, and the lists that it makes of ids, of blocks and of answers.
use Rattle.std.proofs.Common.{◌≡◌, ℕ, ◌+◌, ◌<◌, ◌≤◌, Bool, true, false, cond, ◌||◌, eqb, Bor, List, [], ◌∷◌, ◌++◌, length, drop, get_or, Option, Some, None, is_some, Result, Ok, refl, sym, ap, ap₂, subst, ◌∙◌, append_assoc, add-one}
use Rattle.std.specs.Prelude.{filter, find}
use Rattle.std.specs.Option.{option_copied}
use Rattle.std.proofs.Math.Seq.{drop-cons}
use Rattle.std.proofs.Math.ListN.{drop_of_length-le}
use Rattle.std.proofs.lemmas.List.{append-nil}
use Rattle.sp_block.specs.Block.{block_of, IsBlock, parts_of, ReadBlock}
use Rattle.sp_model.specs.Graph.{has}
use Rattle.sp_model.specs.declared.profile.Profile.{Profile}
use Rattle.sp_pool.specs.Kept.{AreKept, ids_of}
use Rattle.sp_block.specs.declared.fault.BlockFault.{BlockFault}
use Rattle.sp_engine.specs.Arrivals.{answer_of, kept_after}
use Rattle.sp_engine.specs.Engine.{IsLedger, Ledger}
use Rattle.sp_engine.specs.declared.answer.Answer.{Answer}
use Rattle.sp_gossip.specs.Gossip.{bytes_of, bytes_or_none, others}
use Rattle.sp_gossip.specs.Pieces.{StandForAll, StandsFor}
use Rattle.sp_gossip.specs.Peer.{Keeper}
use Rattle.sp_gossip.specs.declared.piece.Piece.{Piece}
use Rattle.sp_report.specs.KeptIds.{kept_id}
use Rattle.sp_report.proofs.Arrived.{Joins, told_changes, told_joins}

-- ---- the ids that it tells

others_more : (kept rest : List ReadBlock) (first b : ReadBlock) → kept ≡ first ∷ rest → others (kept ++ b ∷ []) ≡ others kept ++ b.id ∷ []
others_more [] rest first b e = absurd cc
others_more (x ∷ xs) rest first b e = ids_more xs
  where
    ids_more : (ys : List ReadBlock) → ids_of (ys ++ b ∷ []) ≡ ids_of ys ++ b.id ∷ []
    ids_more [] = refl
    ids_more (y ∷ ys) = ap (λ (ids : List ℕ). y.id ∷ ids) (ids_more ys)

-- a block joined
pub ids_joined : (bits : ℕ) (kept : List ReadBlock) (bytes : List ℕ) (answer : Answer) (told : Option ℕ) (id : ℕ) (ids : List ℕ) → AreKept kept
    → told ≡ kept_id answer → answer ≡ answer_of bits kept bytes → told ≡ Some id → ids ≡ others kept → ids ++ id ∷ [] ≡ others (kept_after bits kept bytes)
ids_joined bits kept bytes answer told id ids are of is some e =
    let j : Joins bits kept bytes id = told_joins bits kept bytes answer told id of is some in
    ap₂ (λ (xs : List ℕ) (k : ℕ). xs ++ k ∷ []) e (sym j.same) ∙ sym (others_more kept are.others are.genesis j.block are.first) ∙ sym (ap others j.now)

-- none did
pub ids_stayed : (bits : ℕ) (kept : List ReadBlock) (bytes : List ℕ) (answer : Answer) (told : Option ℕ) (ids : List ℕ)
    → told ≡ kept_id answer → answer ≡ answer_of bits kept bytes → told ≡ None → ids ≡ others kept → ids ≡ others (kept_after bits kept bytes)
ids_stayed bits kept bytes answer told ids of is none e =
    e ∙ sym (ap others (let change = told_changes bits kept bytes answer told of is in subst (Changed bits kept bytes) none change))
  where
    Changed : ℕ → List ReadBlock → List ℕ → Option ℕ → Type 0
    Changed bits kept bytes None = kept_after bits kept bytes ≡ kept
    Changed bits kept bytes (Some id) = Joins bits kept bytes id

-- ---- what it looks up

is_found : (kept : List ReadBlock) (id : ℕ) → is_some (find (λ (b : ReadBlock). eqb b.id id) kept) ≡ has (ids_of kept) id
is_found [] id = refl
is_found (b ∷ bs) id = at (eqb b.id id) (is_found bs id)
  where
    at : (test : Bool) → is_some (find (λ (b : ReadBlock). eqb b.id id) bs) ≡ has (ids_of bs) id
        → is_some (cond test (Some b) (find (λ (b : ReadBlock). eqb b.id id) bs)) ≡ (test || has (ids_of bs) id)
    at true rest = refl
    at false rest = rest

pub lent_found : (kept : List ReadBlock) (id : ℕ) (r : Option (Bor ReadBlock)) → option_copied r ≡ find (λ (b : ReadBlock). eqb b.id id) kept → is_some r ≡ has (ids_of kept) id
lent_found kept id r e = same r ∙ ap is_some e ∙ is_found kept id
  where
    same : (r : Option (Bor ReadBlock)) → is_some r ≡ is_some (option_copied r)
    same None = refl
    same (Some b) = refl

-- ---- a list that is made of another one, from the first

next : {A : Type 0} (xs : List A) (i : ℕ) (x : A) → i < length xs → x ≡ get_or xs i x → drop i xs ≡ x ∷ drop (i + 1) xs
next xs i x lt is = drop-cons xs i x lt ∙ ap₂ (λ (y : _) (n : ℕ). y ∷ drop n xs) (sym is) (sym (add-one i))

-- what passes a test
pub passes : (p : ℕ → Bool) (ids list : List ℕ) (i x : ℕ) → i < length ids → x ≡ get_or ids i x → p x ≡ true → list ++ filter p (drop i ids) ≡ filter p ids
    → (list ++ x ∷ []) ++ filter p (drop (i + 1) ids) ≡ filter p ids
passes p ids list i x lt is fits e =
    append_assoc list (x ∷ []) (filter p (drop (i + 1) ids))
    ∙ ap (λ (b : Bool). list ++ cond b (x ∷ filter p (drop (i + 1) ids)) (filter p (drop (i + 1) ids))) (sym fits)
    ∙ ap (λ (ys : List ℕ). list ++ filter p ys) (sym (next ids i x lt is)) ∙ e

pub fails : (p : ℕ → Bool) (ids list : List ℕ) (i x : ℕ) → i < length ids → x ≡ get_or ids i x → p x ≡ false → list ++ filter p (drop i ids) ≡ filter p ids
    → list ++ filter p (drop (i + 1) ids) ≡ filter p ids
fails p ids list i x lt is no_ e =
    ap (λ (b : Bool). list ++ cond b (x ∷ filter p (drop (i + 1) ids)) (filter p (drop (i + 1) ids))) (sym no_)
    ∙ ap (λ (ys : List ℕ). list ++ filter p ys) (sym (next ids i x lt is)) ∙ e

-- what stands for the bytes of blocks: what there is so far, and what stands for the rest, stands for all
abbrev pub AreToCome : ℕ → List ReadBlock → List ReadBlock → List ℕ → List Piece → ℕ → Type 0
AreToCome bits kept own ids list i = (rest : List Piece) → StandForAll bits kept rest (bytes_of own (drop i ids)) → StandForAll bits kept (list ++ rest) (bytes_of own ids)

pub one_stands : (bits : ℕ) (kept own : List ReadBlock) (ids : List ℕ) (list more : List Piece) (i x : ℕ) (r : Option (Bor ReadBlock)) (b : Bor ReadBlock) (piece : Piece) → i < length ids → x ≡ get_or ids i x
    → option_copied r ≡ find (λ (y : ReadBlock). eqb y.id x) own → r ≡ Some b → StandsFor bits kept piece b.now.bytes → more ≡ list ++ piece ∷ []
    → AreToCome bits kept own ids list i → AreToCome bits kept own ids more (i + 1)
one_stands bits kept own ids list more i x r b piece lt is copied some stands pushed come = λ rest all. (
    let here : bytes_of own (drop i ids) ≡ b.now.bytes ∷ bytes_of own (drop (i + 1) ids) =
    ap (λ (ys : List ℕ). bytes_of own ys) (next ids i x lt is)
    ∙ ap (λ (o : Option ReadBlock). bytes_or_none o ++ bytes_of own (drop (i + 1) ids)) (sym copied ∙ ap option_copied some) in
    subst (λ (l : List Piece). StandForAll bits kept l (bytes_of own ids)) (sym (ap (λ (l : List Piece). l ++ rest) pushed ∙ append_assoc list (piece ∷ []) rest))
    (come (piece ∷ rest) (subst (λ (bs : List (List ℕ)). StandForAll bits kept (piece ∷ rest) bs) (sym here) (stands, all)))
    )

pub none_stands : (bits : ℕ) (kept own : List ReadBlock) (ids : List ℕ) (list : List Piece) (i x : ℕ) (r : Option (Bor ReadBlock)) → i < length ids → x ≡ get_or ids i x
    → option_copied r ≡ find (λ (y : ReadBlock). eqb y.id x) own → r ≡ None → AreToCome bits kept own ids list i → AreToCome bits kept own ids list (i + 1)
none_stands bits kept own ids list i x r lt is copied none come = λ rest all. (
    let here : bytes_of own (drop i ids) ≡ bytes_of own (drop (i + 1) ids) =
    ap (λ (ys : List ℕ). bytes_of own ys) (next ids i x lt is)
    ∙ ap (λ (o : Option ReadBlock). bytes_or_none o ++ bytes_of own (drop (i + 1) ids)) (sym copied ∙ ap option_copied none) in
    come rest (subst (λ (bs : List (List ℕ)). StandForAll bits kept rest bs) (sym here) all)
    )

pub all_stand : (bits : ℕ) (kept own : List ReadBlock) (ids : List ℕ) (list : List Piece) (i : ℕ) → length ids ≤ i → AreToCome bits kept own ids list i → StandForAll bits kept list (bytes_of own ids)
all_stand bits kept own ids list i le come =
    subst (λ (l : List Piece). StandForAll bits kept l (bytes_of own ids)) (append-nil list)
    (come [] (subst (λ (ys : List ℕ). StandForAll bits kept [] (bytes_of own ys)) (sym (drop_of_length-le ids le)) tt))

-- ---- its genesis block

pub own_genesis : (g b : ReadBlock) (bytes : List ℕ) → IsBlock g → bytes ≡ g.bytes → (let r : Result ReadBlock BlockFault = Ok (block_of bytes (parts_of g)) in r) ≡ Ok b → b ≡ g
own_genesis g b bytes is same read =
    sym (ok_ok (block_of bytes (parts_of g)) b read) ∙ ap (λ (d : List ℕ). block_of d (parts_of g)) same
    ∙ ap (λ (id : ℕ). let x : ReadBlock = record g { id = id } in x) (sym is.id)
  where
    ok_ok : (a b : ReadBlock) → (let r : Result ReadBlock BlockFault = Ok a in r) ≡ Ok b → a ≡ b
    ok_ok a b e = cc

pub first_keeper : (profile : Profile) (bits : ℕ) (kept now : List ReadBlock) (engine : Ledger) → IsLedger profile bits kept engine → kept ≡ now
    → (let k : Keeper = record { profile = engine.profile; bits = engine.bits; kept = engine.kept } in k) ≡ record { profile = profile; bits = bits; kept = now }
first_keeper profile bits kept now engine is same =
    ap (λ (n : Profile). let x : Keeper = record { profile = n; bits = engine.bits; kept = engine.kept } in x) is.profile_is
    ∙ ap (λ (n : ℕ). let x : Keeper = record { profile = profile; bits = n; kept = engine.kept } in x) is.bits_are
    ∙ ap (λ (n : List ReadBlock). let x : Keeper = record { profile = profile; bits = bits; kept = n } in x) (is.kept_are ∙ same)
