-- Carriers that were marked sound stay so, as blocks are added to the graph and carriers to the blocks.
use Rattle.std.proofs.Common.{◌≡◌, ℕ, zero, suc, Bool, true, false, cond, eqb, ◌+◌, ◌<◌, ◌≤◌, ◌||◌, List, [], ◌∷◌, ◌++◌, length, map, get_or, Option, Some, None, refl, sym, ap, ◌∙◌, arith, length-append, subst, inl, inr}
use Rattle.std.specs.Prelude.{All, filter, flat_map}
use Rattle.std.specs.List.{range_with_len}
use Rattle.std.proofs.lemmas.Bool.{ne_eqb}
use Rattle.std.proofs.lemmas.List.{get_or_append_left}
use Rattle.std.proofs.lemmas.List.Elements.{All-push}
use Rattle.sp_tx.specs.Parts.{Transaction, of_parts}
use Rattle.sp_tx.specs.Spending.{id_of}
use Rattle.sp_model.specs.Graph.{in_past, keys, past}
use Rattle.sp_dag.specs.Numbered.{with_next, Numbered, AreInOrder, graph_of}
use Rattle.sp_dag.proofs.Ranked.{past-no_new, past_old, ancestors_lower, keys_are_numbers, parents_numbered}
use Rattle.sp_model.proofs.Pasts.{has-past}
use Rattle.sp_carry.specs.declared.carrier.Carrier.{Carrier}
use Rattle.sp_carry.specs.Payment.{Payment, payment_of}
use Rattle.sp_carry.specs.Ledger.{is_covered, is_empty, is_genesis, is_sound}
use Rattle.sp_carry.specs.Carried.{AreLinked, AreSound, Carried, IsCarried, carried_by, ledger_of, next_carrier, number_of, payments_in, tx_at, with_block, with_carrier, with_carriers, with_row, with_tx}
use Rattle.sp_carry.proofs.Linked.{blocks_more, counts_more, linked_more}
use Rattle.sp_carry.proofs.Members.{IsIn, any_of_member, in_filter, member_meets}
use Rattle.std.proofs.lemmas.Bool.{eq-eqb}

-- ---- lists

map_agrees : {A B : Type 0} (f g : A → B) (xs : List A) → ((x : A) → IsIn xs x → f x ≡ g x) → map f xs ≡ map g xs
map_agrees f g [] h = refl
map_agrees {A} {B} f g (x ∷ xs) h =
    ap (λ (y : B). y ∷ map f xs) (h x (inl refl)) ∙ ap (λ (ys : List B). g x ∷ ys) (map_agrees f g xs (λ y there. h y (inr there)))

flat_map_agrees : {A B : Type 0} (f g : A → List B) (xs : List A) → ((x : A) → IsIn xs x → f x ≡ g x) → flat_map f xs ≡ flat_map g xs
flat_map_agrees f g [] h = refl
flat_map_agrees {A} {B} f g (x ∷ xs) h =
    ap (λ (y : List B). y ++ flat_map f xs) (h x (inl refl)) ∙ ap (λ (ys : List B). g x ++ ys) (flat_map_agrees f g xs (λ y there. h y (inr there)))

filter_push : {A : Type 0} (p : A → Bool) (xs : List A) (x : A) → p x ≡ false → filter p (xs ++ x ∷ []) ≡ filter p xs
filter_push {A} p [] x e = ap (λ (c : Bool). cond c (x ∷ []) []) e
filter_push {A} p (y ∷ ys) x e = at (p y) (filter_push p ys x e)
  where
    at : (c : Bool) → filter p (ys ++ x ∷ []) ≡ filter p ys → cond c (y ∷ filter p (ys ++ x ∷ [])) (filter p (ys ++ x ∷ [])) ≡ cond c (y ∷ filter p ys) (filter p ys)
    at true rest = ap (λ (l : List A). y ∷ l) rest
    at false rest = rest

filter_same : {A : Type 0} (p q : A → Bool) (xs : List A) → ((x : A) → p x ≡ q x) → filter p xs ≡ filter q xs
filter_same p q [] h = refl
filter_same {A} p q (x ∷ xs) h =
    ap (λ (c : Bool). cond c (x ∷ filter p xs) (filter p xs)) (h x) ∙ ap (λ (l : List A). cond (q x) (x ∷ l) l) (filter_same p q xs h)

range_more : (a n : ℕ) → range_with_len a (suc n) ≡ range_with_len a n ++ (a + n) ∷ []
range_more a zero = ap (λ (m : ℕ). m ∷ []) (let e : a ≡ a + 0 = omega arith in e)
range_more a (suc n) =
    ap (λ (l : List ℕ). a ∷ l) (range_more (a + 1) n ∙ ap (λ (m : ℕ). range_with_len (a + 1) n ++ m ∷ []) (let e : a + 1 + n ≡ a + suc n = omega arith in e))

-- ---- the graph grows

past_stays : (table : Numbered) (id salt : ℕ) (more : List ℕ) (z : ℕ) → AreInOrder table.parents → z < length table.parents → past (graph_of (with_next table id salt more)) z ≡ past (graph_of table) z
past_stays table id salt more z order within =
    ap (λ (ks : List ℕ). filter (λ a. in_past (graph_of (with_next table id salt more)) a z) ks) names
    ∙ filter_push (λ a. in_past (graph_of (with_next table id salt more)) a z) (keys (graph_of table)) (length table.parents) (past-no_new table id salt more z order within)
    ∙ filter_same (λ a. in_past (graph_of (with_next table id salt more)) a z) (λ a. in_past (graph_of table) a z) (keys (graph_of table)) (λ a. past_old table id salt more a z order within)
  where
    names : keys (graph_of (with_next table id salt more)) ≡ keys (graph_of table) ++ length table.parents ∷ []
    names =
        keys_are_numbers (with_next table id salt more)
        ∙ ap (range_with_len 0) (length-append table.parents (more ∷ []) ∙ (let e : length table.parents + 1 ≡ suc (length table.parents) = omega arith in e))
        ∙ range_more 0 (length table.parents)
        ∙ ap (λ (m : ℕ). range_with_len 0 (length table.parents) ++ m ∷ []) (let e : 0 + length table.parents ≡ length table.parents = omega arith in e)
        ∙ ap (λ (l : List ℕ). l ++ length table.parents ∷ []) (sym (keys_are_numbers table))

-- soundness in a block is the same in a graph with one block more
pub sound_in_grown : (table : Numbered) (id salt : ℕ) (more : List ℕ) (k : Carried) (z : ℕ) (p : Payment) → AreInOrder table.parents → z < length table.parents
    → is_sound (ledger_of (with_next table id salt more) k) z p ≡ is_sound (ledger_of table k) z p
sound_in_grown table id salt more k z p order within =
    ap (λ (ps : List ℕ). is_empty ps || is_covered (flat_map (payments_in k) (past (graph_of (with_next table id salt more)) z)) p)
    (parents_numbered (with_next table id salt more) z (omega (arith, within, length-append table.parents (more ∷ [])))
    ∙ get_or_append_left table.parents (more ∷ []) [] z within ∙ sym (parents_numbered table z within))
    ∙ ap (λ (set : List ℕ). is_genesis (ledger_of table k) z || is_covered (flat_map (payments_in k) set) p) (past_stays table id salt more z order within)

pub grown_sound : (table : Numbered) (id salt : ℕ) (more : List ℕ) (k : Carried) → AreInOrder table.parents → k.blocks ≤ length table.parents → IsCarried k → AreSound table k
    → AreSound (with_next table id salt more) k
grown_sound table id salt more k order le is sound = λ i d lt.
    let below : (get_or k.rows i d).block < k.blocks = is.blocks i d lt in
    sound i d lt ∙ sym (sound_in_grown table id salt more k (get_or k.rows i d).block (payment_of (tx_at k (get_or k.rows i d).tx)) order (omega (arith, below, le)))

-- ---- carriers are added

-- what the earlier blocks carry stays
payments_row : (k : Carried) (r : Carrier) (w : ℕ) → eqb r.block w ≡ false → payments_in (with_row k r) w ≡ payments_in k w
payments_row k r w other = ap (map (λ (q : Carrier). payment_of (tx_at k q.tx))) (filter_push (λ (q : Carrier). eqb q.block w) k.rows r other)

pub payments_tx : (k : Carried) (t : Transaction) (w : ℕ) → AreLinked k → payments_in (with_tx k t) w ≡ payments_in k w
payments_tx k t w linked =
    map_agrees (λ (q : Carrier). payment_of (tx_at (with_tx k t) q.tx)) (λ (q : Carrier). payment_of (tx_at k q.tx)) (filter (λ (q : Carrier). eqb q.block w) k.rows)
    (λ q there. ap payment_of (tx_stays k t q.tx
    (member_meets (λ (q : Carrier). q.tx < length k.txs) k.rows q linked.txs (in_filter (λ (q : Carrier). eqb q.block w) k.rows q there).0)))
  where
    tx_stays : (k : Carried) (t : Transaction) (n : ℕ) → n < length k.txs → tx_at (with_tx k t) n ≡ tx_at k n
    tx_stays k t n lt = get_or_append_left k.txs (t ∷ []) (of_parts [] []) n lt

pub tx_same : (table : Numbered) (k : Carried) (t : Transaction) (n : ℕ) → n < length k.txs → tx_at (with_carrier table k t) n ≡ tx_at k n
tx_same table k t n lt = at (number_of k (id_of t))
  where
    at : (o : Option ℕ) → tx_at (carried_by table k t o) n ≡ tx_at k n
    at None = get_or_append_left k.txs (t ∷ []) (of_parts [] []) n lt
    at (Some m) = refl

pub payments_same : (table : Numbered) (k : Carried) (t : Transaction) (w : ℕ) → AreLinked k → w < k.blocks → payments_in (with_carrier table k t) w ≡ payments_in k w
payments_same table k t w linked earlier = at (number_of k (id_of t))
  where
    other : eqb k.blocks w ≡ false
    other = ne_eqb k.blocks w (λ e. omega (arith, e, earlier))

    at : (o : Option ℕ) → payments_in (carried_by table k t o) w ≡ payments_in k w
    at None = payments_row (with_tx k t) (next_carrier table k (length k.txs) t) w other ∙ payments_tx k t w linked
    at (Some m) = payments_row k (next_carrier table k m (tx_at k m)) w other

pub sound_same : (table : Numbered) (k : Carried) (t : Transaction) (z : ℕ) (p : Payment) → AreLinked k → AreInOrder table.parents → z ≤ k.blocks → z < length table.parents
    → is_sound (ledger_of table (with_carrier table k t)) z p ≡ is_sound (ledger_of table k) z p
sound_same table k t z p linked order le within =
    ap (λ (below : List Payment). is_genesis (ledger_of table k) z || is_covered below p)
    (flat_map_agrees (payments_in (with_carrier table k t)) (payments_in k) (past (graph_of table) z)
    (λ w there. payments_same table k t w linked
    (let lower : w < z = ancestors_lower table w z order within (has-past (graph_of table) z w (any_of_member (λ a. eqb a w) (past (graph_of table) z) w there (eq-eqb w w refl))) in
    omega (arith, lower, le))))

-- each carrier is marked sound just where the definition says so, while those of the next block are added
sound_more : (table : Numbered) (k : Carried) (t : Transaction) → AreLinked k → All (λ (r : Carrier). r.block < k.blocks + 1) k.rows → AreInOrder table.parents
    → k.blocks < length table.parents → AreSound table k → AreSound table (with_carrier table k t)
sound_more table k t linked blocks order next sound = at (number_of k (id_of t)) refl
  where
    old : (P : Carried) → P ≡ with_carrier table k t → All (λ (r : Carrier). r.sound ≡ is_sound (ledger_of table P) r.block (payment_of (tx_at P r.tx))) k.rows
    old P is i d lt =
        let r : Carrier = get_or k.rows i d in
        let below : (get_or k.rows i d).block < k.blocks + 1 = blocks i d lt in
        let tx : (get_or k.rows i d).tx < length k.txs = linked.txs i d lt in
        sound i d lt
        ∙ sym (sound_same table k t (get_or k.rows i d).block (payment_of (tx_at k (get_or k.rows i d).tx)) linked order (omega (arith, below)) (omega (arith, below, next)))
        ∙ ap (λ (x : Transaction). is_sound (ledger_of table (with_carrier table k t)) (get_or k.rows i d).block (payment_of x)) (sym (tx_same table k t (get_or k.rows i d).tx tx))
        ∙ ap (λ (Q : Carried). is_sound (ledger_of table Q) (get_or k.rows i d).block (payment_of (tx_at Q (get_or k.rows i d).tx))) (sym is)

    new : (P : Carried) (n : ℕ) (x : Transaction) → P ≡ with_carrier table k t → tx_at P n ≡ x
        → is_sound (ledger_of table k) k.blocks (payment_of x) ≡ is_sound (ledger_of table P) k.blocks (payment_of (tx_at P n))
    new P n x is tx =
        sym (sound_same table k t k.blocks (payment_of x) linked order (omega arith) next)
        ∙ ap (λ (Q : Carried). is_sound (ledger_of table Q) k.blocks (payment_of x)) (sym is)
        ∙ ap (λ (y : Transaction). is_sound (ledger_of table P) k.blocks (payment_of y)) (sym tx)

    at : (o : Option ℕ) → number_of k (id_of t) ≡ o → AreSound table (carried_by table k t o)
    at None e =
        let is : carried_by table k t None ≡ with_carrier table k t = ap (carried_by table k t) (sym e) in
        All-push (λ (r : Carrier). r.sound ≡ is_sound (ledger_of table (carried_by table k t None)) r.block (payment_of (tx_at (carried_by table k t None) r.tx))) k.rows
        (next_carrier table k (length k.txs) t) (old (carried_by table k t None) is) (new (carried_by table k t None) (length k.txs) t is (last k.txs))
      where
        last : (ts : List Transaction) → get_or (ts ++ t ∷ []) (length ts) (of_parts [] []) ≡ t
        last [] = refl
        last (x ∷ xs) = last xs
    at (Some m) e =
        let is : carried_by table k t (Some m) ≡ with_carrier table k t = ap (carried_by table k t) (sym e) in
        All-push (λ (r : Carrier). r.sound ≡ is_sound (ledger_of table (carried_by table k t (Some m))) r.block (payment_of (tx_at (carried_by table k t (Some m)) r.tx))) k.rows
        (next_carrier table k m (tx_at k m)) (old (carried_by table k t (Some m)) is) (new (carried_by table k t (Some m)) m (tx_at k m) is refl)

sound_all : (table : Numbered) (k : Carried) (ts : List Transaction) → AreLinked k → All (λ (r : Carrier). r.block < k.blocks + 1) k.rows → AreInOrder table.parents
    → k.blocks < length table.parents → AreSound table k → AreSound table (with_carriers table k ts)
sound_all table k [] linked blocks order next sound = sound
sound_all table k (t ∷ ts) linked blocks order next sound =
    let same : (with_carrier table k t).blocks ≡ k.blocks = (counts_more table k t).2 in
    sound_all table (with_carrier table k t) ts (linked_more table k t linked)
    (subst (λ (n : ℕ). All (λ (r : Carrier). r.block < n + 1) (with_carrier table k t).rows) (sym same) (blocks_more table k t (k.blocks + 1) blocks (omega arith)))
    order (omega (arith, same, next)) (sound_more table k t linked blocks order next sound)

-- with one block more
pub sound_block : (table : Numbered) (k : Carried) (ts : List Transaction) → IsCarried k → AreInOrder table.parents → k.blocks < length table.parents → AreSound table k
    → AreSound table (with_block table k ts)
sound_block table k ts is order next sound =
    sound_all table k ts is.linked (λ i d lt. let below : (get_or k.rows i d).block < k.blocks = is.blocks i d lt in omega (arith, below)) order next sound
