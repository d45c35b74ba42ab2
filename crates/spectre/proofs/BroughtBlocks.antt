-- The blocks of a feed come to an engine, call by call.
use Rattle.std.proofs.Common.{◌≡◌, ℕ, ◌≤◌, List, [], ◌∷◌, ◌++◌, Option, Some, None, Ok, Err, true, refl, ap, sym, subst, ◌∙◌}
use Rattle.std.specs.List.{flat_map}
use Rattle.std.proofs.lemmas.List.{append-nil}
use Rattle.std.proofs.lemmas.Grind.{flat_map-append}
use Rattle.sp_block.specs.Block.{ReadBlock}
use Rattle.sp_engine.specs.Arrivals.{kept_by_all}
use Rattle.sp_engine.specs.Blocks.{block_in}
use Rattle.sp_engine.specs.Engine.{Ledger}
use Rattle.sp_feed.specs.Calls.{GivesAll, GivesHead, GivesNext, SoFar}
use Rattle.sp_feed.specs.Format.{Head, head_of}
use Rattle.sp_feed.specs.Genesis.{ReadHead}
use Rattle.sp_feed.specs.Kinds.{Said}
use Rattle.sp_feed.specs.Reader.{head_in}
use Rattle.sp_feed.specs.Reads.{Moment}
use Rattle.sp_feed.specs.declared.fault.FeedFault.{FeedFault}
use Rattle.sp_feed.specs.declared.fault.HeadFault.{HeadFault}
use Rattle.sp_feed.specs.declared.fault.HeadFault.TheVariants as heads
use Rattle.sp_feed.proofs.WholeFeeds.{all_end, all_fault, all_head, all_memory, all_refused, so_far_head, so_far_more}
use Rattle.sp_node.specs.Answers.{arrivals_of, kept_then}
use Rattle.sp_node.proofs.AnswerLists.{kept_then_by_all}
use Rattle.spectre.specs.Bringing.{Bringing, Brought}
use Rattle.spectre.specs.Replay.{feed_limit}

-- the head was read
pub at_head : {start now : Moment} {head : ReadHead} {engine : Ledger} → start.taken ≡ 0 → GivesHead feed_limit start now head_in (Ok head) → block_in true head.genesis.bytes ≡ Ok head.genesis
    → engine.profile ≡ head.profile → engine.bits ≡ head.bits → engine.kept ≡ head.genesis ∷ [] → Bringing start now engine
unfolding so_far_head
at_head {start = start} {now = now} {head = head} {engine = engine} z g spelled p b k = record {
  genesis = head.genesis;
  spelled = spelled;
  messages = [];
  so_far = subst (λ (h : Head). SoFar feed_limit start now h [] []) (λ i. head_of (sym p i) (sym b i) head.genesis.bytes) (so_far_head [] z g);
  kept_is = k;
}

-- a message more was brought
pub one_more : {start mid now : Moment} {engine after : Ledger} {X : Type 0} {view : X → Option Said} {x : X} (m : Said) → Bringing start mid engine → GivesNext feed_limit mid now view (Ok x) → view x ≡ Some m
    → after.kept ≡ kept_then engine.bits engine.kept m → after.profile ≡ engine.profile → after.bits ≡ engine.bits → Bringing start now after
unfolding so_far_more
one_more {start = start} {now = now} {engine = engine} {after = after} m a g e k p b =
    let more : flat_map arrivals_of (a.messages ++ m ∷ []) ≡ flat_map arrivals_of a.messages ++ arrivals_of m =
    flat_map-append arrivals_of a.messages (m ∷ []) ∙ ap (λ (l : List (List ℕ)). flat_map arrivals_of a.messages ++ l) (append-nil (arrivals_of m)) in
    record {
      genesis = a.genesis;
      spelled = a.spelled;
      messages = a.messages ++ m ∷ [];
      so_far = subst (λ (h : Head). SoFar feed_limit start now h [] (a.messages ++ m ∷ [])) (λ i. head_of (sym p i) (sym b i) a.genesis.bytes) (so_far_more m (a.messages ++ m ∷ []) a.so_far g e refl);
      kept_is = k ∙ ap (λ (l : List ReadBlock). kept_then engine.bits l m) a.kept_is ∙ kept_then_by_all engine.bits a.genesis (flat_map arrivals_of a.messages) m
          ∙ ap (kept_by_all engine.bits a.genesis) (sym more) ∙ ap (λ (n : ℕ). kept_by_all n a.genesis (flat_map arrivals_of (a.messages ++ m ∷ []))) (sym b);
    }

-- the end was read
pub at_end : {start mid now : Moment} {engine : Ledger} {X : Type 0} {view : X → Option Said} {x : X} → Bringing start mid engine → GivesNext feed_limit mid now view (Ok x) → view x ≡ None → Brought start now (Ok engine)
unfolding all_end
at_end {engine = engine} a g e =
    let whole = all_end (λ (l : Ledger). head_of l.profile l.bits a.genesis.bytes) engine a.so_far g e refl in
    record {
      given = whole.given;
      took = whole.took;
      needed = whole.needs;
      says = record {
        genesis = a.genesis;
        spelled = a.spelled;
        messages = whole.messages;
        says = whole.says;
        kept_is = a.kept_is ∙ ap (λ (l : List Said). kept_by_all engine.bits a.genesis (flat_map arrivals_of l)) whole.seen;
      };
    }

-- what ends the reading before that ends the bringing
from_err : {start now : Moment} {after : List Said} (of : Ledger → Head) (e : HeadFault) → GivesAll feed_limit start now of [] after (Err e) → Brought start now (Err e)
from_err of (heads.Feed fault) g = record { given = g.given; took = g.took; needed = g.needs; says = (g.says.0, g.messages, g.says.1) }
from_err of heads.Memory g = record { given = g.given; took = g.took; needed = g.needs; says = tt }

-- the head of the feed that an engine is on, with these bytes as its genesis block
abbrev head_on : List ℕ → Ledger → Head
head_on genesis l = head_of l.profile l.bits genesis

pub at_fault : {start mid now : Moment} {engine : Ledger} {X : Type 0} {view : X → Option Said} {e : FeedFault} → Bringing start mid engine → GivesNext feed_limit mid now view (Err e) → Brought start now (Err (heads.Feed e))
at_fault {e = e} a g = from_err (head_on a.genesis.bytes) (heads.Feed e) (all_fault (head_on a.genesis.bytes) a.so_far g)

pub refused : {start mid now : Moment} {engine : Ledger} {X : Type 0} {view : X → Option Said} {x : X} → Bringing start mid engine → (m : Said) → GivesNext feed_limit mid now view (Ok x) → view x ≡ Some m → Brought start now (Err heads.Memory)
refused a m g e = from_err (head_on a.genesis.bytes) heads.Memory (all_refused (head_on a.genesis.bytes) m a.messages a.so_far g e refl)

-- the head wasn't read, or no engine was made of it

pub head_fault : {start now : Moment} {view : ReadHead → Head} (e : HeadFault) → GivesHead feed_limit start now view (Err e) → Brought start now (Err e)
head_fault e g = from_err (head_on []) e (all_head (head_on []) [] g)

pub nothing_read : (start : Moment) → start.taken ≤ feed_limit → Brought start start (Err heads.Memory)
nothing_read start h = from_err (head_on []) heads.Memory (all_memory feed_limit start (head_on []) [] h)

pub nothing_behind : {start now : Moment} {head : ReadHead} → GivesHead feed_limit start now head_in (Ok head) → Brought start now (Err heads.Memory)
nothing_behind g = record { given = g.given; took = g.took; needed = λ front rest e l. ap (λ f. f.end) (g.needs front rest e l); says = tt }
