-- Events are taken one after another up to the first that has a fault.
use Rattle.std.proofs.Common.{◌≡◌, ℕ, ◌+◌, ◌<◌, ◌≤◌, List, length, drop, get_or, Option, Some, None, sym, ap, ◌∙◌}
use Rattle.std.proofs.Math.ListN.{drop_of_length-le}
use Rattle.sp_gossip.specs.Network.{fault_of, Network, network_after}
use Rattle.sp_gossip.specs.Refusing.{first_fault, first_or, left_by, stopped_by}
use Rattle.sp_gossip.specs.declared.event.Event.{Event}
use Rattle.sp_gossip.specs.declared.step.StepFault.{StepFault}
use Rattle.sp_gossip.proofs.Taking.{next_event}

-- ---- which fault is the first

pub one_free : (whole : Option StepFault) (net now : Network) (events : List Event) (i : ℕ) (event : Event) → i < length events → event ≡ get_or events i event → now ≡ network_after net event → fault_of net event ≡ None
    → first_fault net (drop i events) ≡ whole → first_fault now (drop (i + 1) events) ≡ whole
unfolding first_fault
one_free whole net now events i event lt is moved free before =
    ap (λ (n : Network). first_fault n (drop (i + 1) events)) moved
    ∙ ap (λ (o : Option StepFault). first_or o (first_fault (network_after net event) (drop (i + 1) events))) (sym free)
    ∙ ap (first_fault net) (sym (next_event events i event lt is)) ∙ before

pub one_refused : (whole : Option StepFault) (net : Network) (events : List Event) (i : ℕ) (event : Event) (fault : StepFault) → i < length events → event ≡ get_or events i event → fault_of net event ≡ Some fault
    → first_fault net (drop i events) ≡ whole → whole ≡ Some fault
unfolding first_fault
one_refused whole net events i event fault lt is has before =
    sym before ∙ ap (first_fault net) (next_event events i event lt is)
    ∙ ap (λ (o : Option StepFault). first_or o (first_fault (network_after net event) (drop (i + 1) events))) has

pub all_free : (whole : Option StepFault) (net : Network) (events : List Event) (i : ℕ) → length events ≤ i → first_fault net (drop i events) ≡ whole → whole ≡ None
unfolding first_fault
all_free whole net events i le before = sym before ∙ ap (first_fault net) (drop_of_length-le events le)

-- ---- what it leaves

pub one_passed : (whole net now : Network) (events : List Event) (i : ℕ) (event : Event) → i < length events → event ≡ get_or events i event → now ≡ network_after net event → fault_of net event ≡ None
    → left_by net (drop i events) ≡ whole → left_by now (drop (i + 1) events) ≡ whole
unfolding left_by
one_passed whole net now events i event lt is moved free before =
    ap (λ (n : Network). left_by n (drop (i + 1) events)) moved
    ∙ ap (λ (o : Option StepFault). stopped_by o net (left_by (network_after net event) (drop (i + 1) events))) (sym free)
    ∙ ap (left_by net) (sym (next_event events i event lt is)) ∙ before

pub one_stopped : (whole net : Network) (events : List Event) (i : ℕ) (event : Event) (fault : StepFault) → i < length events → event ≡ get_or events i event → fault_of net event ≡ Some fault
    → left_by net (drop i events) ≡ whole → net ≡ whole
unfolding left_by
one_stopped whole net events i event fault lt is has before =
    sym (sym before ∙ ap (left_by net) (next_event events i event lt is)
    ∙ ap (λ (o : Option StepFault). stopped_by o net (left_by (network_after net event) (drop (i + 1) events))) has)
