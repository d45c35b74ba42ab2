-- An engine of genesis alone.
use Rattle.std.proofs.Common.{arith, ◌≡◌, ℕ, zero, suc, ◌≤◌, ◌<◌, Bool, true, false, cond, List, [], ◌∷◌, get_or, length, map, refl, sym, ap, subst, ◌∙◌, eqb, Option, Some, None}
use Rattle.std.specs.Prelude.{slice_get, unwrap_or}
use Rattle.std.specs.List.{list_all}
use Rattle.std.specs.Option.{option_map}
use Rattle.std.proofs.lemmas.Bool.{eq-eqb, false≢true}
use Rattle.sp_block.specs.Block.{IsBlock, IsGenesis, ReadBlock}
use Rattle.sp_model.specs.declared.profile.Profile.{Profile}
use Rattle.sp_model.specs.Graph.{has, parents_of, parents_or_none, rank_of, rank_or_least}
use Rattle.sp_pool.specs.Kept.{AreKept, graph_of, node_of, present}
use Rattle.sp_pool.proofs.KeptBlocks.{no_parents}
use Rattle.sp_dag.specs.Numbered.{IsNumbered, number_of, Numbered}
use Rattle.sp_tx.specs.Parts.{Transaction}
use Rattle.sp_carry.specs.Carried.{Carried, IsCarried, nothing, with_block}
use Rattle.sp_carry.proofs.Carrying.{block_carried, none_carried}
use Rattle.sp_carry.proofs.Soundness.{sound_block}
use Rattle.sp_accept.specs.Rows.{AreOf}
use Rattle.sp_engine.specs.Engine.{AreCarried, AreNumbered, IsEngine}
use Rattle.sp_engine.specs.Presence.{joining, order_from, order_of}
use Rattle.sp_engine.specs.Votes.{AreFew, AreVoted, Tallied}
use Rattle.sp_engine.specs.Transactions.{txs_of, txs_or_none}
use Rattle.sp_engine.proofs.CarriedBlocks.{carried_alone}

one : Profile → ReadBlock → Numbered
one profile g = record { profile = profile; ids = g.id ∷ []; salts = g.salt ∷ []; parents = [] ∷ [] }

no_parents_alone : (g : ReadBlock) (id : ℕ) → g.parents ≡ [] → parents_of (graph_of (g ∷ [])) id ≡ []
no_parents_alone g id none = at (eqb g.id id)
  where
    at : (c : Bool) → parents_or_none (cond c (Some (node_of g)) None) ≡ []
    at true = none
    at false = refl

pub order_alone : (g : ReadBlock) → g.parents ≡ [] → order_of (g ∷ []) ≡ g.id ∷ []
unfolding order_from joining
order_alone g none = rw none refl

numbered_alone : (profile : Profile) (g : ReadBlock) → g.parents ≡ [] → AreNumbered (g ∷ []) (one profile g)
unfolding one
numbered_alone profile g none = record {
  there = λ id there. there;
  closed = λ id there. ap (list_all (has (g.id ∷ []))) (no_parents_alone g id none);
  others = λ id there absent. absurd (false≢true (sym absent ∙ there));
  parents = λ n id at. empty n ∙ sym (ap (map (number_of (g.id ∷ []))) (no_parents_alone g id none));
  salts = own_salt;
}
  where
    own_salt : (n id : ℕ) → slice_get (g.id ∷ []) n ≡ Some id → get_or (g.salt ∷ []) n 0 ≡ (rank_of (graph_of (g ∷ [])) id).salt
    own_salt zero id at = (let same : g.id ≡ id = ap (λ (o : Option ℕ). unwrap_or o 0) at in
        sym (ap (λ (c : Bool). (rank_or_least (cond c (Some (node_of g)) None)).salt) (eq-eqb g.id id same)))
    own_salt (suc n) id at = cc

    empty : (n : ℕ) → get_or (let rows : List (List ℕ) = [] ∷ [] in rows) n [] ≡ []
    empty zero = refl
    empty (suc n) = refl

none_yet : IsCarried nothing
none_yet = record {
  linked = record { ids = tt; txs = λ i d lt. absurd (omega (arith, lt)); used = λ tx lt. absurd (omega (arith, lt)) };
  blocks = λ i d lt. absurd (omega (arith, lt));
  order = λ i j d ij lt. absurd (omega (arith, lt));
  few = omega arith;
  few_txs = omega arith;
  small = omega arith;
}

-- its carriers are of its graph
pub are_of_alone : (blocks : Numbered) (k : Carried) (ts : List Transaction) → blocks.parents ≡ [] ∷ [] → IsNumbered blocks → k ≡ with_block blocks nothing ts → AreOf blocks k
are_of_alone blocks k ts alone n added = subst (λ (x : Carried). AreOf blocks x) (sym added) (record {
  long = ap length alone ∙ sym (block_carried blocks [] nothing ts none_yet none_carried).count;
  order = n.order;
  sound = sound_block blocks nothing ts none_yet n.order (let some : 0 < length blocks.parents = n.some in some) (λ i d lt. absurd (omega (arith, lt)));
})

-- its carriers are those of genesis
pub carried_in_alone : (profile : Profile) (inside g : ReadBlock) (pool : List ReadBlock) (blocks : Numbered) (k : Carried) → inside ≡ g → pool ≡ g ∷ [] → blocks ≡ record { profile = profile; ids = inside.id ∷ []; salts = inside.salt ∷ []; parents = [] ∷ [] }
    → IsNumbered blocks → k ≡ with_block blocks nothing inside.txs → IsCarried k → AreCarried pool blocks k
carried_in_alone profile inside g pool blocks k is kept alone n added carried =
    carried_alone pool blocks k inside.id inside.txs theirs (ap (λ (a : Numbered). a.ids) alone) (ap (λ (a : Numbered). a.parents) alone) none_yet n added carried
  where
    theirs : txs_of pool inside.id ≡ inside.txs
    theirs =
        ap (λ (l : List ReadBlock). txs_of l inside.id) (kept ∙ ap (λ (b : ReadBlock). b ∷ []) (sym is))
        ∙ ap (λ (c : Bool). txs_or_none (cond c (Some inside) None)) (eq-eqb inside.id inside.id refl)

pub engine_alone : (profile : Profile) (bits : ℕ) (inside g : ReadBlock) (pool : List ReadBlock) (blocks : Numbered) (votes : Tallied) → bits ≤ 64 → inside ≡ g → IsBlock inside → IsGenesis g
    → pool ≡ g ∷ [] → present pool ≡ g.id ∷ [] → blocks ≡ record { profile = profile; ids = inside.id ∷ []; salts = inside.salt ∷ []; parents = [] ∷ [] } → AreKept pool → IsNumbered blocks
    → AreVoted blocks votes → AreFew votes → IsEngine bits pool inside.id blocks votes
unfolding one
engine_alone profile bits inside g pool blocks votes small is block kind kept here alone are in_order voted few =
    let none : g.parents ≡ [] = no_parents g (subst (λ (b : ReadBlock). IsBlock b) is block) kind in
    let id : inside.id ≡ g.id = ap (λ (b : ReadBlock). b.id) is in
    let blocks_are : blocks ≡ one profile g = alone ∙ ap (λ (b : ReadBlock). one profile b) is in
    record {
      small = small;
      all_kept = are;
      first = ap (λ (k : List ReadBlock). option_map (λ (b : ReadBlock). b.id) (slice_get k 0)) kept ∙ ap (λ (i : ℕ). Some i) (sym id);
      in_order = in_order;
      numbered = subst (λ (k : List ReadBlock). AreNumbered k blocks) (sym kept) (subst (λ (n : Numbered). AreNumbered (g ∷ []) n) (sym blocks_are) (numbered_alone profile g none));
      order = ap (λ (n : Numbered). n.ids) blocks_are ∙ sym (order_alone g none) ∙ ap (λ (k : List ReadBlock). order_of k) (sym kept);
      same = λ z. ap (λ (n : Numbered). has n.ids z) blocks_are ∙ ap (λ (l : List ℕ). has l z) (sym here);
      voted = voted;
      few = few;
    }
