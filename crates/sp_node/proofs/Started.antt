-- The start of a node on the journal of its kept blocks, which is new or was found.
use Rattle.std.proofs.Common.{◌≡◌, ◌∙◌, ◌∷◌, [], ℕ, List, Some, ap, sym, subst}
use Rattle.std.specs.Prelude.{map}
use Rattle.sp_disk.specs.Moments.{Moment}
use Rattle.sp_journal.specs.Journal.{Contents, contents}
use Rattle.sp_journal.specs.Settled.{IsTold}
use Rattle.sp_journal.specs.Writer.{Stands, Writer}
use Rattle.sp_node.specs.Journalled.{IsKeptOn, StandsForKept}
use Rattle.sp_ids.specs.Digest.{sha256_number}
use Rattle.sp_block.specs.Block.{ReadBlock}
use Rattle.sp_feed.specs.Genesis.{ReadHead}
use Rattle.sp_form.specs.Turns.{InTurn}
use Rattle.sp_journal.specs.Opening.{contents_in, IsOpening, Opening}
use Rattle.sp_journal.specs.Recovery.{bytes_in, id_behind, IsGood}
use Rattle.sp_node.specs.Stored.{IsSameChain}
use Rattle.sp_node.specs.Terms.{Terms, terms_of}
use Rattle.sp_model.specs.declared.profile.Profile.{Profile}

-- each of them may be recorded behind the head's genesis block
pub good_behind : (o : Opening) (head : ReadHead) (blocks : List ReadBlock) → IsOpening o → IsSameChain o head → o.genesis.id ≡ sha256_number o.genesis.bytes
    → head.genesis.id ≡ sha256_number head.genesis.bytes → blocks ≡ o.blocks → InTurn (IsGood head.bits) id_behind (head.genesis.id ∷ []) blocks
good_behind o head blocks is same found fed are =
    let id : o.genesis.id ≡ head.genesis.id = found ∙ ap sha256_number same.genesis ∙ sym fed in
    subst (λ (l : List ReadBlock). InTurn (IsGood head.bits) id_behind (head.genesis.id ∷ []) l) (sym are)
    (subst (λ (b : ℕ). InTurn (IsGood b) id_behind (head.genesis.id ∷ []) o.blocks) same.bits
    (subst (λ (i : ℕ). InTurn (IsGood o.bits) id_behind (i ∷ []) o.blocks) id is.good))

-- terms are the same where both parts are
pub same_terms : {p q : Profile} {a b : ℕ} → p ≡ q → a ≡ b → terms_of p a ≡ terms_of q b
same_terms is are = λ i. terms_of (is i) (are i)

-- every crash leaves the journal of the engine's blocks
pub kept_on : (terms terms' : Terms) (kept kept' : List ReadBlock) (w : Writer) (m : Moment) → terms' ≡ terms → kept' ≡ kept → (IsTold m → StandsForKept terms kept w m) → IsKeptOn terms' kept' (Some w) m
kept_on terms terms' kept kept' w m b k stands = λ told. subst (λ (x : Terms). StandsForKept x kept' w m) (sym b) (subst (λ (x : List ReadBlock). StandsForKept terms x w m) (sym k) (stands told))

-- what was found is the journal of the head's genesis block and the blocks behind it
pub found_stands : (o : Opening) (head : ReadHead) (w : Writer) (m : Moment) → IsSameChain o head → w ≡ o.journal → (IsTold m → Stands o.journal (contents_in o) m) → IsTold m → StandsForKept (terms_of head.profile head.bits) (head.genesis ∷ o.blocks) w m
found_stands o head w m same is stands told =
    let one : contents_in o ≡ contents head.profile head.bits head.genesis.bytes (map bytes_in o.blocks) = (λ i. contents (same.profile i) (same.bits i) (same.genesis i) (map bytes_in o.blocks)) in
    subst (λ (x : Writer). Stands x (contents head.profile head.bits head.genesis.bytes (map bytes_in o.blocks)) m) (sym is) (subst (λ (c : Contents). Stands o.journal c m) one (stands told))
