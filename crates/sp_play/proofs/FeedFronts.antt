-- A feed is written front first: the eight bytes of its profile and the bits of work, and then the rest.
use Rattle.std.proofs.Common.{◌≡◌, ℕ, List, [], ◌∷◌, ◌++◌, Option, append_assoc, subst}
use Rattle.sp_feed.specs.declared.kind.Kind.TheVariants.{Block}
use Rattle.sp_feed.specs.Spelling.{framed, frames_of}
use Rattle.sp_feed.specs.Versions.{name}
use Rattle.sp_io.specs.Whole.{AppendsFront, Wrote}
use Rattle.sp_io.proofs.Pages.{start_goes, start_stops}
use Rattle.sp_play.specs.Feeds.{feed_text}
use Rattle.sp_play.specs.Scene.{Scene}

abbrev front : Scene → List ℕ
front scene = name scene.profile ++ scene.bits ∷ []

abbrev behind : Scene → List ℕ
behind scene = framed Block scene.genesis ++ frames_of scene.messages

parts : (scene : Scene) → front scene ++ behind scene ≡ feed_text scene
unfolding feed_text
parts scene = append_assoc (name scene.profile) (scene.bits ∷ []) (behind scene)

pub feed_goes : {a b : Option (List ℕ)} {now : List ℕ} (scene : Scene) (page piece : List ℕ) → page ≡ [] → piece ≡ name scene.profile ++ scene.bits ∷ [] → Wrote a b (page ++ piece) now → Wrote a b (feed_text scene) (now ++ (framed Block scene.genesis ++ frames_of scene.messages))
feed_goes {a} {b} {now} scene page piece empty is w =
    let P : List ℕ → Type 0 = λ t. Wrote a b t (now ++ behind scene) in
    subst P (parts scene) (start_goes page piece (front scene) (behind scene) empty is w)

pub feed_stops : {a b : Option (List ℕ)} (scene : Scene) (page piece : List ℕ) → page ≡ [] → piece ≡ name scene.profile ++ scene.bits ∷ [] → AppendsFront a b (page ++ piece) → AppendsFront a b (feed_text scene)
feed_stops {a} {b} scene page piece empty is w =
    let P : List ℕ → Type 0 = λ t. AppendsFront a b t in
    subst P (parts scene) (start_stops page piece (front scene) (behind scene) empty is w)
