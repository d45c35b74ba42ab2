-- There is one answer to a block.
use Rattle.std.proofs.Common.{◌≡◌, ℕ, List, [], ◌∷◌, ◌++◌, refl, sym, ap, subst, ◌∙◌}
use Rattle.std.proofs.lemmas.Bool.{false≢true}
use Rattle.std.proofs.lemmas.Option.{none-some, same_Some}
use Rattle.sp_block.specs.Block.{ReadBlock}
use Rattle.sp_pool.specs.Kept.{present, Releases}
use Rattle.sp_pool.specs.Offers.{IsAnswer}
use Rattle.sp_pool.specs.declared.answers.Offer.{Offer}
use Rattle.sp_pool.specs.declared.answers.Offer.TheVariants.{Known, Full, Waiting, Present}
use Rattle.sp_pool.specs.declared.answers.Standing.{Standing}
use Rattle.sp_pool.specs.declared.answers.Standing.TheVariants.{Known as KnownId, Full as FullPool, Fresh}

one_order : (kept : List ReadBlock) (set a b : List ℕ) → Releases kept set a → Releases kept set b → a ≡ b
unfolding Releases
one_order kept set [] [] h k = refl
one_order kept set [] (y ∷ ys) h k = absurd (none-some k.0.block (sym h ∙ k.0.earliest))
one_order kept set (x ∷ xs) [] h k = absurd (none-some h.0.block (sym k ∙ h.0.earliest))
one_order kept set (x ∷ xs) (y ∷ ys) h k =
    let block : h.0.block ≡ k.0.block = same_Some h.0.block k.0.block (sym h.0.earliest ∙ k.0.earliest) in
    let same : x ≡ y = sym h.0.same ∙ ap (λ (b : ReadBlock). b.id) block ∙ k.0.same in
    let rest : xs ≡ ys = one_order kept (set ++ x ∷ []) xs ys h.1 (subst (λ (id : ℕ). Releases kept (set ++ id ∷ []) ys) (sym same) k.1) in
    cc

pub one_answer : (kept : List ReadBlock) (block : ReadBlock) (a b : Offer) → IsAnswer kept block a → IsAnswer kept block b → a ≡ b
one_answer kept block Known Known h k = refl
one_answer kept block Known Full h k = (let e : ◌≡◌ {A = Standing} KnownId FullPool = sym h ∙ k in cc)
one_answer kept block Known Waiting h k = (let e : ◌≡◌ {A = Standing} KnownId Fresh = sym h ∙ k.standing in cc)
one_answer kept block Known (Present ids) h k = (let e : ◌≡◌ {A = Standing} KnownId Fresh = sym h ∙ k.standing in cc)
one_answer kept block Full Known h k = (let e : ◌≡◌ {A = Standing} FullPool KnownId = sym h ∙ k in cc)
one_answer kept block Full Full h k = refl
one_answer kept block Full Waiting h k = (let e : ◌≡◌ {A = Standing} FullPool Fresh = sym h ∙ k.standing in cc)
one_answer kept block Full (Present ids) h k = (let e : ◌≡◌ {A = Standing} FullPool Fresh = sym h ∙ k.standing in cc)
one_answer kept block Waiting Known h k = (let e : ◌≡◌ {A = Standing} Fresh KnownId = sym h.standing ∙ k in cc)
one_answer kept block Waiting Full h k = (let e : ◌≡◌ {A = Standing} Fresh FullPool = sym h.standing ∙ k in cc)
one_answer kept block Waiting Waiting h k = refl
one_answer kept block Waiting (Present ids) h k = absurd (false≢true (sym h.absent ∙ k.here))
one_answer kept block (Present ids) Known h k = (let e : ◌≡◌ {A = Standing} Fresh KnownId = sym h.standing ∙ k in cc)
one_answer kept block (Present ids) Full h k = (let e : ◌≡◌ {A = Standing} Fresh FullPool = sym h.standing ∙ k in cc)
one_answer kept block (Present ids) Waiting h k = absurd (false≢true (sym k.absent ∙ h.here))
one_answer kept block (Present ids) (Present others) h k =
    ap (λ (l : List ℕ). Present l) (one_order (kept ++ block ∷ []) (present kept) ids others h.order k.order)
