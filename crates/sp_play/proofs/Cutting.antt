-- A line's words, part by part.
use Rattle.std.proofs.Common.{◌≡◌, ◌<◌, ◌+◌, ◌==◌, Bor, ℕ, option_copied, arith, false, List, ◌∷◌, length, Option, Some, None, IfSome, refl, ap, ◌∙◌}
use Rattle.sp_play.specs.Words.{words_among}

-- how many parts may be left at most
abbrev pub room : Option (List ℕ) → ℕ
room None = 0
room (Some text) = length text + 1

-- an empty part is no word
pub skip_empty : (parts rest : List (List ℕ)) (part : List ℕ) → parts ≡ part ∷ rest → length part ≡ 0 → words_among parts ≡ words_among rest
skip_empty parts rest part e empty = ap words_among e ∙ rw empty refl

-- another is one
pub take_word : (parts rest : List (List ℕ)) (part : List ℕ) → parts ≡ part ∷ rest → (length part == 0) ≡ false → words_among parts ≡ part ∷ words_among rest
take_word parts rest part e full = ap words_among e ∙ rw full refl

-- less is left behind a part
pub room_falls : (before after : Option (Bor (List ℕ))) (text : Bor (List ℕ)) → before ≡ Some text → IfSome after (λ rest. length rest.now < length text.now) → room (option_copied after) < room (option_copied before)
room_falls before None text e h = let long = ap (λ o. room (option_copied o)) e in omega (arith, long)
room_falls before (Some rest) text e h = let long = ap (λ o. room (option_copied o)) e in omega (arith, long, h)
