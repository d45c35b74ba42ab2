-- The answering of a scene's messages: what was kept and written after some of them.
use Rattle.std.proofs.Common.{◌≡◌, ℕ, ◌+◌, ◌<◌, ◌≤◌, List, [], ◌∷◌, ◌++◌, length, take, drop, slice_get, Option, Some, None, Ok, true, arith, sym, ap, subst, ◌∙◌, append_assoc, inl, inr}
use Rattle.std.specs.List.{flat_map}
use Rattle.std.specs.Io.KnownBytes.{Appends}
use Rattle.std.proofs.lemmas.List.{append-nil, take_all, take_more, take-append-drop}
use Rattle.std.proofs.lemmas.Option.{get_or_from_slice_get, slice_get_cases}
use Rattle.std.proofs.lemmas.Grind.{flat_map-append}
use Rattle.sp_block.specs.Block.{ReadBlock}
use Rattle.sp_engine.specs.Arrivals.{kept_by_all}
use Rattle.sp_feed.specs.Kinds.{Said}
use Rattle.sp_io.specs.Whole.{AppendsFront, Wrote}
use Rattle.sp_io.proofs.Writing.{appends_then, wrote_stops}
use Rattle.sp_engine.specs.Blocks.{block_in}
use Rattle.sp_names.specs.Labels.{AllLabels}
use Rattle.sp_node.specs.Answers.{answers, arrivals_of, kept_then, reply, reply_of}
use Rattle.sp_node.proofs.AnswerLists.{answers-append, answers-push, kept_then_by_all}
use Rattle.sp_play.specs.Scene.{Scene}
use Rattle.spectre.specs.Scenes.{lines_by, scene_lines, summary_by, summary_in}
use Rattle.spectre.specs.Summary.{summary}
use Rattle.sp_node.specs.Terms.{Terms, terms_of}

-- so many of the messages were answered, over this genesis block
pub record Played (old now : Option (List ℕ)) (labels : AllLabels) (genesis : ReadBlock) (terms : Terms) (kept : List ReadBlock) (messages : List Said) (place : ℕ) : Type 0 where
  pub kept_is : kept ≡ kept_by_all terms.bits genesis (flat_map arrivals_of (take place messages))
  pub wrote : Appends old now (answers labels genesis terms [] (take place messages))

appends_none : (a : Option (List ℕ)) → Appends a a []
appends_none None = tt
appends_none (Some ws) = sym (append-nil ws)

pub none_played : (a : Option (List ℕ)) (labels : AllLabels) (genesis : ReadBlock) (terms : Terms) (kept : List ReadBlock) (messages : List Said) → kept ≡ genesis ∷ [] → Played a a labels genesis terms kept messages 0
unfolding answers
none_played a labels genesis terms kept messages k = record { kept_is = k; wrote = appends_none a }

-- the messages up to the next one
taken_more : (messages : List Said) (place : ℕ) (m : Said) → place < length messages → slice_get messages place ≡ Some m → take (place + 1) messages ≡ take place messages ++ m ∷ []
taken_more messages place m l e = take_more messages place m l ∙ ap (λ (x : Said). take place messages ++ x ∷ []) (get_or_from_slice_get messages place m m e)

arrived_more : (front : List Said) (m : Said) → flat_map arrivals_of (front ++ m ∷ []) ≡ flat_map arrivals_of front ++ arrivals_of m
arrived_more front m = flat_map-append arrivals_of front (m ∷ []) ∙ ap (λ (l : List (List ℕ)). flat_map arrivals_of front ++ l) (append-nil (arrivals_of m))

-- the next message was answered
pub one_played : {old seen now : Option (List ℕ)} {labels : AllLabels} {genesis : ReadBlock} {terms : Terms} {kept kept' : List ReadBlock} {messages : List Said} {place : ℕ} (m : Said)
    → Played old seen labels genesis terms kept messages place → place < length messages → slice_get messages place ≡ Some m
    → Appends seen now (reply_of labels terms kept m) → kept' ≡ kept_then terms.bits kept m → Played old now labels genesis terms kept' messages (place + 1)
one_played {old = old} {seen = seen} {now = now} {labels = labels} {genesis = genesis} {terms = terms} {kept = kept} {kept' = kept'} {messages = messages} {place = place} m p l e wrote k =
    let front = take place messages in
    let arrivals = flat_map arrivals_of front in
    let more = taken_more messages place m l e in
    record {
      kept_is = k ∙ ap (λ (x : List ReadBlock). kept_then terms.bits x m) p.kept_is ∙ kept_then_by_all terms.bits genesis arrivals m
          ∙ ap (kept_by_all terms.bits genesis) (sym (arrived_more front m)) ∙ ap (λ (x : List Said). kept_by_all terms.bits genesis (flat_map arrivals_of x)) (sym more);
      wrote = subst (λ (x : List Said). Appends old now (answers labels genesis terms [] x)) (sym more)
          (subst (λ (t : List ℕ). Appends old now t) (sym (answers-push labels genesis terms [] front m))
          (appends_then old seen now (answers labels genesis terms [] front) (reply labels genesis terms arrivals m) p.wrote
          (subst (λ (x : List ReadBlock). Appends seen now (reply_of labels terms x m)) p.kept_is wrote)));
    }

-- it wasn't, or not whole
pub stopped_there : {old seen now : Option (List ℕ)} {labels : AllLabels} {genesis : ReadBlock} {terms : Terms} {kept : List ReadBlock} {messages : List Said} {place : ℕ} (m : Said)
    → Played old seen labels genesis terms kept messages place → place < length messages → slice_get messages place ≡ Some m
    → AppendsFront seen now (reply_of labels terms kept m) → AppendsFront old now (answers labels genesis terms [] messages)
stopped_there {old = old} {seen = seen} {now = now} {labels = labels} {genesis = genesis} {terms = terms} {kept = kept} {messages = messages} {place = place} m p l e front =
    let before = take place messages in
    let arrivals = flat_map arrivals_of before in
    let here : List ℕ = reply labels genesis terms arrivals m in
    let behind : List ℕ = answers labels genesis terms (flat_map arrivals_of (before ++ m ∷ [])) (drop (place + 1) messages) in
    let split : messages ≡ (before ++ m ∷ []) ++ drop (place + 1) messages =
    sym (take-append-drop (place + 1) messages) ∙ ap (λ (x : List Said). x ++ drop (place + 1) messages) (taken_more messages place m l e) in
    let whole : answers labels genesis terms [] messages ≡ answers labels genesis terms [] before ++ (here ++ behind) =
    ap (answers labels genesis terms []) split ∙ answers-append labels genesis terms [] (before ++ m ∷ []) (drop (place + 1) messages)
    ∙ ap (λ (t : List ℕ). t ++ behind) (answers-push labels genesis terms [] before m)
    ∙ append_assoc (answers labels genesis terms [] before) here behind in
    let w : Wrote old seen (answers labels genesis terms [] messages) (here ++ behind) = record { front = answers labels genesis terms [] before; appended = p.wrote; split = whole } in
    wrote_stops here behind w (subst (λ (x : List ReadBlock). AppendsFront seen now (reply_of labels terms x m)) p.kept_is front)

-- all were answered
pub all_written : {old now : Option (List ℕ)} {labels : AllLabels} {genesis : ReadBlock} {terms : Terms} {kept : List ReadBlock} {messages : List Said} {place : ℕ}
    → Played old now labels genesis terms kept messages place → length messages ≤ place → Appends old now (answers labels genesis terms [] messages)
all_written {old = old} {now = now} {labels = labels} {genesis = genesis} {terms = terms} {messages = messages} {place = place} p l =
    subst (λ (x : List Said). Appends old now (answers labels genesis terms [] x)) (take_all place messages l) p.wrote

pub all_kept : {old now : Option (List ℕ)} {labels : AllLabels} {genesis : ReadBlock} {terms : Terms} {kept : List ReadBlock} {messages : List Said} {place : ℕ}
    → Played old now labels genesis terms kept messages place → length messages ≤ place → kept ≡ kept_by_all terms.bits genesis (flat_map arrivals_of messages)
all_kept {genesis = genesis} {terms = terms} {messages = messages} {place = place} p l =
    p.kept_is ∙ ap (λ (x : List Said). kept_by_all terms.bits genesis (flat_map arrivals_of x)) (take_all place messages l)

-- a message stands at each place
pub said_within : (messages : List Said) (place : ℕ) (o : Option Said) → place < length messages → slice_get messages place ≡ o → (m : Said) × (o ≡ Some m)
said_within messages place o l e =
    elim (slice_get_cases messages place).1 [
      | inl h ↦ (h.0, sym e ∙ h.2)
      | inr h ↦ absurd (omega (arith, l, h.0))
    ]

-- over the genesis block that a scene's bytes spell, the answers are the scene's, and the summary is
module _ (scene : Scene) (labels : AllLabels) (genesis : ReadBlock) (terms : Terms) (l : labels ≡ scene.names) (spelled : block_in true genesis.bytes ≡ Ok genesis) (same : genesis.bytes ≡ scene.genesis) (b : terms ≡ terms_of scene.profile scene.bits) where
  pub lines_are : answers labels genesis terms [] scene.messages ≡ scene_lines scene
  lines_are =
      ap (λ (x : AllLabels). answers x genesis terms [] scene.messages) l ∙ ap (λ (n : Terms). answers scene.names genesis n [] scene.messages) b
      ∙ sym (ap (λ r. lines_by scene.names r (terms_of scene.profile scene.bits) [] scene.messages) (ap (block_in true) (sym same) ∙ spelled))

  pub summary_is : summary terms.profile labels (kept_by_all terms.bits genesis (flat_map arrivals_of scene.messages)) ≡ summary_in scene
  summary_is =
      ap (λ (x : AllLabels). summary terms.profile x (kept_by_all terms.bits genesis (flat_map arrivals_of scene.messages))) l
      ∙ ap (λ (n : Terms). summary n.profile scene.names (kept_by_all n.bits genesis (flat_map arrivals_of scene.messages))) b
      ∙ sym (ap (λ r. summary_by r scene) (ap (block_in true) (sym same) ∙ spelled))
