-- What an event comes to among the nodes: each part of the answer and of what is there afterwards.
use Rattle.std.proofs.Common.{◌≡◌, ℕ, zero, suc, eqb, ◌+◌, ◌<◌, ◌≤◌, Bool, true, false, cond, ◌&&◌, ◌||◌, List, [], ◌∷◌, ◌++◌, length, map, drop, get_or, append_assoc, add-one, Option, Some, None, Result, Ok, Err, refl, sym, ap, ap₂, subst, ◌∙◌, add-zero, nat_le, inl, inr, arith}
use Rattle.std.specs.Prelude.{All, fold, replicate, slice_get, slice_index_or, slice_set, OnOk}
use Rattle.std.proofs.Math.ListN.{drop_of_length-le}
use Rattle.std.proofs.Math.Seq.{drop-cons}
use Rattle.std.proofs.lemmas.Bool.Decides.{nat_tests}
use Rattle.std.proofs.lemmas.Bool.{cases_lt, eqb-true}
use Rattle.std.proofs.lemmas.List.{append-nil, get_or-map, length-map, map-set, set-get_or, set_past}
use Rattle.std.proofs.lemmas.List.Elements.{All-get_or}
use Rattle.std.proofs.lemmas.List.Sums.{fold-append}
use Rattle.std.proofs.lemmas.Option.{slice_get-get_or}
use Rattle.sp_block.specs.Block.{ReadBlock}
use Rattle.sp_model.specs.declared.profile.Profile.{Profile}
use Rattle.sp_engine.specs.Arrivals.{kept_after, kept_by_all}
use Rattle.sp_engine.specs.declared.answer.Answer.{Answer}
use Rattle.sp_gossip.specs.Gossip.{after, brings, Chain, delivery, delivery_of, effect, Effect, kept_by_node, kept_of, made_by, others, packet_of, run, sends, sent_with, some_packet, start, State, with_effect}
use Rattle.sp_gossip.specs.Network.{answers_to, AreInState, effect_in, fault_of, is_one_too_many, kept_with_arrivals, names_no_node, names_no_packet, Network, network_after, network_by, step_of, steps_of}
use Rattle.sp_gossip.specs.Nodes.{HasTerms, Happened, is_full, kept_by_peer, network, Took}
use Rattle.sp_gossip.specs.Peer.{Keeper}
use Rattle.sp_gossip.specs.Pieces.{StandForAll, TakesBrought, TakesPieces}
use Rattle.sp_gossip.specs.declared.piece.Piece.{Piece}
use Rattle.sp_gossip.specs.declared.piece.Piece.TheVariants.{New}
use Rattle.sp_gossip.specs.declared.event.Event.{Event}
use Rattle.sp_gossip.specs.declared.event.Event.TheVariants.{Make, Tell, Deliver}
use Rattle.sp_gossip.specs.declared.packet.Kind.{Kind}
use Rattle.sp_gossip.specs.declared.packet.Kind.TheVariants.{Have}
use Rattle.sp_gossip.specs.declared.packet.Packet.{Packet}
use Rattle.sp_gossip.specs.declared.step.Step.{Step}
use Rattle.sp_gossip.specs.declared.step.StepFault.{StepFault}
use Rattle.sp_gossip.specs.declared.step.StepFault.TheVariants.{NoNode, NoPacket, Many, Memory}

-- ---- no bytes arrive

kept_stay : (bits : ℕ) (kept : List (List ReadBlock)) (node : ℕ) → kept_with_arrivals bits kept node [] ≡ kept
kept_stay bits kept node = set-get_or kept node []

with_packets : Network → List Packet → Network
with_packets old packets = record old { packets = packets }

sends_by : (old : Network) (node : ℕ) (o : Option Packet) → network_by old (sends node o) old.makes ≡ with_packets old (sent_with old.packets o)
unfolding with_packets
sends_by old node o = ap (λ (kept : List (List ReadBlock)). let net : Network = record old { kept = kept; packets = sent_with old.packets o } in net) (kept_stay old.bits old.kept node)

idle_step : (old : Network) (node : ℕ) (o : Option Packet) (list : List Answer) → list ≡ [] → answers_to old.bits (kept_by_node old.kept node) [] ≡ list
unfolding answers_to
idle_step old node o list e = sym e

-- a packet is sent
pub sent_happens : (old now : Network) (p : Packet) (number : ℕ) (list : List Answer) → length old.packets < 4096 → number ≡ length old.packets → list ≡ []
    → now ≡ (let net : Network = record old { packets = old.packets ++ p ∷ [] } in net)
    → Happened old (sends p.from (Some p)) old.makes now (Ok (record { at = p.from; answers = list; sent = Some number }))
unfolding with_packets
sent_happens old now p number list room is none new =
    let full : nat_le 4096 (length old.packets) ≡ false = grind (arith, nat_tests) in (
      full,
      ap₂ (λ (l : List Answer) (n : ℕ). let step : Step = record { at = p.from; answers = l; sent = Some n } in step) (sym (idle_step old p.from (Some p) list none)) is,
      new ∙ sym (sends_by old p.from (Some p)),
    )

idle_stays : (old : Network) (node : ℕ) → old ≡ network_by old (sends node None) old.makes
unfolding with_packets
idle_stays old node = sym (sends_by old node None)

-- there was nothing to send
pub nothing_happens : (old : Network) (kind : Kind) (from to : ℕ) (ids : List ℕ) (list : List Answer) → ids ≡ [] → list ≡ []
    → Happened old (sends from (some_packet kind from to ids)) old.makes old (Ok (record { at = from; answers = list; sent = None }))
nothing_happens old kind from to ids list no_ids none =
    subst (λ (xs : List ℕ). Happened old (sends from (some_packet kind from to xs)) old.makes old (Ok (record { at = from; answers = list; sent = None }))) (sym no_ids)
    (refl, ap (λ (l : List Answer). let step : Step = record { at = from; answers = l; sent = None } in step) (sym (idle_step old from None list none)), idle_stays old from)

-- ---- bytes arrive

pub brought_by : (profile : Profile) (bits : ℕ) (peers : List Keeper) (packets : List Packet) (makes : ℕ) (live : Bool) (node : ℕ) (peer now : Keeper) (pieces : List (List ℕ)) (old : Network) → network profile bits peers packets makes live ≡ old
    → node < length peers → peer ≡ get_or peers node peer → peer.bits ≡ bits → now.kept ≡ fold (kept_after peer.bits) peer.kept pieces
    → network profile bits (slice_set peers node now) packets makes live ≡ network_by old (brings node pieces) old.makes
brought_by profile bits peers packets makes live node peer now pieces old is lt at same kept =
    subst (λ (net : Network). network profile bits (slice_set peers node now) packets makes live ≡ network_by net (brings node pieces) net.makes) is
    (ap (λ (k : List (List ReadBlock)). let net : Network = record { profile = profile; bits = bits; kept = k; packets = packets; makes = makes; live = live } in net)
    (map-set kept_by_peer peers node now
    ∙ ap (slice_set (map kept_by_peer peers) node)
    (kept ∙ ap (λ (b : ℕ). fold (kept_after b) peer.kept pieces) same
    ∙ ap (λ (k : List ReadBlock). fold (kept_after bits) k pieces) (ap kept_by_peer at ∙ sym (get_or-map kept_by_peer peers node peer [] lt)))))

-- ---- why an event is refused

pub no_fault : (old : Network) (event : Event) → names_no_node old event ≡ false → names_no_packet old event ≡ false → is_one_too_many old event ≡ false → fault_of old event ≡ None
no_fault old event node packet many =
    ap (λ (b : Bool). cond b (Some NoNode) (cond (names_no_packet old event) (Some NoPacket) (cond (is_one_too_many old event) (Some Many) None))) node
    ∙ ap (λ (b : Bool). cond b (Some NoPacket) (cond (is_one_too_many old event) (Some Many) None)) packet
    ∙ ap (λ (b : Bool). cond b (Some Many) None) many

pub many_fault : (old : Network) (event : Event) → names_no_node old event ≡ false → names_no_packet old event ≡ false → is_one_too_many old event ≡ true → fault_of old event ≡ Some Many
many_fault old event node packet many =
    ap (λ (b : Bool). cond b (Some NoNode) (cond (names_no_packet old event) (Some NoPacket) (cond (is_one_too_many old event) (Some Many) None))) node
    ∙ ap (λ (b : Bool). cond b (Some NoPacket) (cond (is_one_too_many old event) (Some Many) None)) packet
    ∙ ap (λ (b : Bool). cond b (Some Many) None) many

-- what happens where an event brings nothing from outside, it takes
pub took : (old : Network) (event : Event) (new : Network) (r : Result Step StepFault) → names_no_node old event ≡ false → names_no_packet old event ≡ false → made_by event ≡ []
    → Happened old (effect_in old event) old.makes new r → Took old event new r
took old event new (Ok step) node packet made did =
    let few : is_one_too_many old event ≡ is_full old (effect_in old event) = ap (λ (xs : List (List ℕ)). (nat_le 1 (length xs) && nat_le 128 old.makes) || is_full old (effect_in old event)) made in
    let makes : old.makes ≡ old.makes + length (made_by event) = sym (ap (λ (xs : List (List ℕ)). old.makes + length xs) made ∙ add-zero old.makes) in
    (no_fault old event node packet (few ∙ did.0), did.1, did.2 ∙ ap (network_by old (effect_in old event)) makes)
took old event new (Err NoNode) node packet made did = absurd did
took old event new (Err NoPacket) node packet made did = absurd did
took old event new (Err Many) node packet made did =
    let few : is_one_too_many old event ≡ is_full old (effect_in old event) = ap (λ (xs : List (List ℕ)). (nat_le 1 (length xs) && nat_le 128 old.makes) || is_full old (effect_in old event)) made in
    (many_fault old event node packet (few ∙ did.0), did.1)
took old event new (Err Memory) node packet made did = did

-- ---- each kind of event

below : (n m : ℕ) → n < m → nat_le m n ≡ false
below n m lt = grind (arith, nat_tests)

above : (m n : ℕ) → m ≤ n → nat_le m n ≡ true
above m n le = grind (arith, nat_tests)

pub made_takes : (old new : Network) (node : ℕ) (bytes : List ℕ) (list : List Answer) → node < length old.kept → old.makes < 128
    → list ≡ answers_to old.bits (kept_by_node old.kept node) (bytes ∷ []) → new ≡ network_by old (brings node (bytes ∷ [])) (old.makes + 1)
    → Took old (Make node bytes) new (Ok (record { at = node; answers = list; sent = None }))
unfolding effect
made_takes old new node bytes list lt few told now = (
  no_fault old (Make node bytes) (below node (length old.kept) lt) refl (ap (λ (b : Bool). b || false) (below old.makes 128 few)),
  ap (λ (l : List Answer). let step : Step = record { at = node; answers = l; sent = None } in step) told,
  now,
)

pub told_takes : (old new : Network) (from to : ℕ) (ids : List ℕ) (r : Result Step StepFault) → from < length old.kept → to < length old.kept → ids ≡ others (kept_by_node old.kept from)
    → Happened old (sends from (Some (packet_of Have from to ids))) old.makes new r → Took old (Tell from to) new r
unfolding effect
told_takes old new from to ids r lt lt' is did =
    took old (Tell from to) new r
    (ap₂ (λ (a b : Bool). a || b) (below from (length old.kept) lt) (below to (length old.kept) lt')) refl refl
    (subst (λ (xs : List ℕ). Happened old (sends from (Some (packet_of Have from to xs))) old.makes new r) is did)

pub told_too_many : (old : Network) (from to : ℕ) → from < length old.kept → to < length old.kept → 4096 ≤ length old.packets → fault_of old (Tell from to) ≡ Some Many
unfolding effect
told_too_many old from to lt lt' many =
    many_fault old (Tell from to) (ap₂ (λ (a b : Bool). a || b) (below from (length old.kept) lt) (below to (length old.kept) lt')) refl (above 4096 (length old.packets) many)

pub delivered_takes : (old new : Network) (k : ℕ) (p : Packet) (kind : Kind) (r : Result Step StepFault) → k < length old.packets → slice_get old.packets k ≡ Some p
    → p.kind ≡ kind → Happened old (delivery old.kept kind p.from p.to p.ids) old.makes new r → Took old (Deliver k) new r
unfolding effect
delivered_takes old new k p kind r lt there is did =
    took old (Deliver k) new r refl (below k (length old.packets) lt) refl
    (subst (λ (o : Option Packet). Happened old (delivery_of old.kept o) old.makes new r) (sym there)
    (subst (λ (named : Kind). Happened old (delivery old.kept named p.from p.to p.ids) old.makes new r) (sym is) did))

-- ---- the nodes are in the state of the definition

module _ (c : Chain) (s : State) where
  arrive_in : (e : Effect) → kept_of c (with_effect s e) ≡ kept_with_arrivals c.bits (kept_of c s) e.at e.bytes
  arrive_in e =
      map-set (kept_by_all c.bits c.genesis) s.arrivals e.at (slice_index_or s.arrivals e.at [] ++ e.bytes)
      ∙ elim (cases_lt e.at (length s.arrivals)) [
        | inl lt ↦ ap (slice_set (kept_of c s) e.at)
            (fold-append (kept_after c.bits) (c.genesis ∷ []) (slice_index_or s.arrivals e.at []) e.bytes
            ∙ ap (λ (k : List ReadBlock). fold (kept_after c.bits) k e.bytes) (sym (get_or-map (kept_by_all c.bits c.genesis) s.arrivals e.at [] [] lt)))
        | inr le ↦ past le
      ]
    where
      past : length s.arrivals ≤ e.at → slice_set (kept_of c s) e.at (kept_by_all c.bits c.genesis (slice_index_or s.arrivals e.at [] ++ e.bytes)) ≡ kept_with_arrivals c.bits (kept_of c s) e.at e.bytes
      past le =
          let far : length (kept_of c s) ≤ e.at = omega (arith, length-map s.arrivals (kept_by_all c.bits c.genesis)) in
          set_past (kept_of c s) e.at (kept_by_all c.bits c.genesis (slice_index_or s.arrivals e.at [] ++ e.bytes)) far
          ∙ sym (set_past (kept_of c s) e.at (fold (kept_after c.bits) (kept_by_node (kept_of c s) e.at) e.bytes) far)

  effect_state : (net : Network) (e : Effect) (makes : ℕ) → AreInState c s net → AreInState c (with_effect s e) (network_by net e makes)
  effect_state net e makes is = record {
    profile = is.profile;
    bits = is.bits;
    kept = ap₂ (λ (b : ℕ) (k : List (List ReadBlock)). kept_with_arrivals b k e.at e.bytes) is.bits is.kept ∙ sym (arrive_in e);
    packets = ap (λ (ps : List Packet). sent_with ps e.packet) is.packets;
  }

  pub event_state : (net : Network) (event : Event) → AreInState c s net → AreInState c (after c s event) (network_after net event)
  unfolding after
  event_state net event is =
      subst (λ (e : Effect). AreInState c (with_effect s e) (network_after net event)) (ap₂ (λ (k : List (List ReadBlock)) (ps : List Packet). effect k ps event) is.kept is.packets)
      (effect_state net (effect_in net event) (net.makes + length (made_by event)) is)

-- so they are in it where an event is taken
pub taken_state : (old new : Network) (event : Event) (r : Result Step StepFault) → Took old event new r
    → OnOk r ((c : Chain) (s : State) → AreInState c s old → AreInState c (after c s event) new)
taken_state old new event (Ok step) took = λ c s were. subst (AreInState c (after c s event)) (sym took.2) (event_state c s old event were)
taken_state old new event (Err fault) took = tt

-- ---- one event after another

pub events_state : (c : Chain) (s : State) (net : Network) (events : List Event) → AreInState c s net → AreInState c (run c s events) (fold network_after net events)
events_state c s net [] is = is
events_state c s net (event ∷ events) is = events_state c (after c s event) (network_after net event) events (event_state c s net event is)

pub next_event : (events : List Event) (i : ℕ) (event : Event) → i < length events → event ≡ get_or events i event → drop i events ≡ event ∷ drop (i + 1) events
next_event events i event lt is = drop-cons events i event lt ∙ ap₂ (λ (e : Event) (n : ℕ). e ∷ drop n events) (sym is) (sym (add-one i))

pub one_after : (whole net now : Network) (events : List Event) (i : ℕ) (event : Event) → i < length events → event ≡ get_or events i event → now ≡ network_after net event
    → fold network_after net (drop i events) ≡ whole → fold network_after now (drop (i + 1) events) ≡ whole
one_after whole net now events i event lt is moved before =
    ap (λ (n : Network). fold network_after n (drop (i + 1) events)) moved ∙ ap (fold network_after net) (sym (next_event events i event lt is)) ∙ before

pub one_told : (whole list more : List Step) (net now : Network) (events : List Event) (i : ℕ) (event : Event) (step : Step) → i < length events → event ≡ get_or events i event → now ≡ network_after net event
    → step ≡ step_of net event → more ≡ list ++ step ∷ [] → list ++ steps_of net (drop i events) ≡ whole → more ++ steps_of now (drop (i + 1) events) ≡ whole
unfolding steps_of
one_told whole list more net now events i event step lt is moved told pushed before =
    ap₂ (λ (l : List Step) (n : Network). l ++ steps_of n (drop (i + 1) events)) pushed moved
    ∙ append_assoc list (step ∷ []) (steps_of (network_after net event) (drop (i + 1) events))
    ∙ ap (λ (x : Step). list ++ (x ∷ steps_of (network_after net event) (drop (i + 1) events))) told
    ∙ ap (λ (es : List Event). list ++ steps_of net es) (sym (next_event events i event lt is)) ∙ before

pub all_told : (whole list : List Step) (net : Network) (events : List Event) (i : ℕ) → length events ≤ i → list ++ steps_of net (drop i events) ≡ whole → list ≡ whole
unfolding steps_of
all_told whole list net events i le before = sym (append-nil list) ∙ ap (λ (es : List Event). list ++ steps_of net es) (sym (drop_of_length-le events le)) ∙ before

pub all_after : (whole net : Network) (events : List Event) (i : ℕ) → length events ≤ i → fold network_after net (drop i events) ≡ whole → net ≡ whole
all_after whole net events i le before = ap (fold network_after net) (sym (drop_of_length-le events le)) ∙ before

-- ---- what the nodes keep, seen from within

pub peer_count : (profile : Profile) (bits : ℕ) (peers : List Keeper) (packets : List Packet) (makes : ℕ) (live : Bool) (old : Network) → network profile bits peers packets makes live ≡ old → length peers ≡ length old.kept
peer_count profile bits peers packets makes live old is = sym (length-map peers kept_by_peer) ∙ ap (λ (net : Network). length net.kept) is

pub kept_at_peer : (profile : Profile) (bits : ℕ) (peers : List Keeper) (packets : List Packet) (makes : ℕ) (live : Bool) (old : Network) (node : ℕ) (peer : Keeper) → network profile bits peers packets makes live ≡ old
    → node < length peers → peer ≡ get_or peers node peer → peer.kept ≡ kept_by_node old.kept node
kept_at_peer profile bits peers packets makes live old node peer is lt at =
    ap kept_by_peer at ∙ sym (get_or-map kept_by_peer peers node peer [] lt) ∙ ap (λ (net : Network). kept_by_node net.kept node) is

pub peer_terms : (profile : Profile) (bits : ℕ) (peers : List Keeper) (node : ℕ) (peer : Keeper) → All (HasTerms profile bits) peers → node < length peers → peer ≡ get_or peers node peer → HasTerms profile bits peer
peer_terms profile bits peers node peer all lt at = subst (HasTerms profile bits) (sym at) (All-get_or (HasTerms profile bits) peers node peer lt all)

pub there_at : (packets : List Packet) (k : ℕ) (p : Packet) → k < length packets → p ≡ get_or packets k p → slice_get packets k ≡ Some p
there_at packets k p lt at = slice_get-get_or packets k p lt ∙ ap (λ (q : Packet). Some q) (sym at)

pub same_packet : (packets : List Packet) (k : ℕ) (p q : Packet) → slice_get packets k ≡ Some p → k < length packets → q ≡ get_or packets k q → q ≡ p
same_packet packets k p q there lt at = some_some (sym (there_at packets k q lt at) ∙ there)
  where
    some_some : {a b : Packet} → Some a ≡ Some b → a ≡ b
    some_some e = cc

pub no_elements : (xs ids : List ℕ) → true ≡ eqb (length xs) 0 → xs ≡ ids → ids ≡ []
no_elements [] ids none same = sym same
no_elements (x ∷ xs) ids none same = (let e : length (x ∷ xs) ≡ 0 = eqb-true (length (x ∷ xs)) 0 (sym none) in absurd (omega (arith, e)))

-- ---- pieces arrive

pub pieces_brought : (profile : Profile) (bits : ℕ) (peers : List Keeper) (packets : List Packet) (makes : ℕ) (live : Bool) (node : ℕ) (peer now : Keeper) (pieces : List Piece) (answers list : List Answer) (old : Network)
    → network profile bits peers packets makes live ≡ old → node < length peers → peer ≡ get_or peers node peer → peer.bits ≡ bits → TakesPieces peer.bits peer.kept pieces answers now.kept → list ≡ answers
    → TakesBrought old node pieces list (network profile bits (slice_set peers node now) packets makes live)
pieces_brought profile bits peers packets makes live node peer now pieces answers list old is lt at same takes told arrivals all =
    let terms : old.bits ≡ peer.bits = sym (ap (λ (net : Network). net.bits) is) ∙ sym same in
    let kept : peer.kept ≡ kept_by_node old.kept node = kept_at_peer profile bits peers packets makes live old node peer is lt at in
    let took = takes arrivals (subst (λ (k : List ReadBlock). StandForAll peer.bits k pieces arrivals) (sym kept) (subst (λ (b : ℕ). StandForAll b (kept_by_node old.kept node) pieces arrivals) terms all)) in (
      told ∙ took.0 ∙ ap₂ (λ (b : ℕ) (k : List ReadBlock). answers_to b k arrivals) (sym terms) kept,
      brought_by profile bits peers packets makes live node peer now arrivals old is lt at same took.1,
    )

-- one block's bytes do
pub alone_brought : (old new : Network) (node : ℕ) (pieces : List Piece) (own bytes : List ℕ) (list : List Answer) → pieces ≡ New own ∷ [] → own ≡ bytes → TakesBrought old node pieces list new
    → (list ≡ answers_to old.bits (kept_by_node old.kept node) (bytes ∷ [])) × (new ≡ network_by old (brings node (bytes ∷ [])) old.makes)
alone_brought old new node pieces own bytes list alone same takes =
    takes (bytes ∷ []) (subst (λ (ps : List Piece). StandForAll old.bits (kept_by_node old.kept node) ps (bytes ∷ [])) (sym alone) (same, tt))

-- ---- the first state

pub first_state : (nodes : ℕ) (profile : Profile) (bits : ℕ) (genesis : ReadBlock) (peers : List Keeper) (packets : List Packet) (makes : ℕ) → peers ≡ replicate nodes (let peer : Keeper = record { profile = profile; bits = bits; kept = genesis ∷ [] } in peer)
    → packets ≡ [] → AreInState (record { profile = profile; bits = bits; genesis = genesis }) (start nodes) (network profile bits peers packets makes true)
first_state nodes profile bits genesis peers packets makes are none = record {
  profile = refl;
  bits = refl;
  kept = ap (map kept_by_peer) are ∙ alone nodes;
  packets = none;
}
  where
    alone : (n : ℕ) → map kept_by_peer (replicate n (let peer : Keeper = record { profile = profile; bits = bits; kept = genesis ∷ [] } in peer)) ≡ map (kept_by_all bits genesis) (replicate n [])
    alone zero = refl
    alone (suc n) = ap (λ (rest : List (List ReadBlock)). (genesis ∷ []) ∷ rest) (alone n)
