-- How many bytes a transaction has, and that one that meets the rules has at most 2,210.
use Rattle.std.proofs.Common.{◌≡◌, ℕ, ◌+◌, ◌*◌, ◌<◌, ◌≤◌, List, [], ◌∷◌, ◌++◌, get_or, length, take, Option, Some, None, subst, sym, ap, ◌∙◌, arith}
use Rattle.std.specs.Int.{w64, to_le_bytes}
use Rattle.std.specs.List.{flat_map}
use Rattle.std.proofs.lemmas.List.{append-nil, length-append, take_more}
use Rattle.std.proofs.lemmas.List.Concat.{flat_map-cons}
use Rattle.std.proofs.lemmas.List.Folds.{length-flat_map-take}
use Rattle.std.proofs.lemmas.Grind.{flat_map-append}
use Rattle.sp_form.specs.Turns.{InTurn}
use Rattle.sp_ids.specs.Digits.{length-bytes_of}
use Rattle.sp_ids.specs.Key.{bytes_of}
use Rattle.sp_ids.specs.declared.outpoint.Outpoint.{Outpoint}
use Rattle.sp_tx.specs.declared.parts.Input.{Input}
use Rattle.sp_tx.specs.declared.parts.Output.{Output}
use Rattle.sp_tx.specs.Format.{last_outpoint}
use Rattle.sp_tx.specs.Parts.{Transaction}
use Rattle.sp_tx.specs.Spelling.{input_text, IsInput, IsTx, outpoint_text, output_text, preimage_text, spelling}

-- room for all texts is room for the next one
pub next_within : {X : Type 0} (f : X → List ℕ) (xs : List X) (i : ℕ) (x : X) → i < length xs → x ≡ get_or xs i x → length (flat_map f (take i xs)) + length (f x) ≤ length (flat_map f xs)
next_within f xs i x lt is = subst (λ y. length (flat_map f (take i xs)) + length (f y) ≤ length (flat_map f xs)) (sym is) (length-flat_map-take f xs i x lt)

-- the texts of so many values and of the next one
pub length-next : {X : Type 0} (f : X → List ℕ) (xs : List X) (i : ℕ) (x : X) → i < length xs → x ≡ get_or xs i x → length (flat_map f (take (i + 1) xs)) ≡ length (flat_map f (take i xs)) + length (f x)
length-next f xs i x lt is =
    let more : take (i + 1) xs ≡ take i xs ++ x ∷ [] = take_more xs i x lt ∙ ap (λ y. take i xs ++ y ∷ []) (sym is) in
    let last : flat_map f (x ∷ []) ≡ f x = flat_map-cons f x [] ∙ append-nil (f x) in
    ap (λ ys. length (flat_map f ys)) more ∙ ap length (flat_map-append f (take i xs) (x ∷ [])) ∙ length-append (flat_map f (take i xs)) (flat_map f (x ∷ []))
    ∙ ap (λ (l : List ℕ). length (flat_map f (take i xs)) + length l) last

pub length-input_text : (input : Input) → length (input_text input) ≡ 34 + length input.preimage
length-input_text input =
    let outpoint : length (outpoint_text input.from) ≡ 33 = length-append (bytes_of input.from.tx) (input.from.index ∷ []) ∙ omega (arith, length-bytes_of input.from.tx) in
    omega (arith, length-append (outpoint_text input.from) (preimage_text input.preimage))

pub length-output_text : (output : Output) → length (output_text output) ≡ 40
length-output_text output = length-append (to_le_bytes w64 output.amount) (bytes_of output.lock) ∙ omega (arith, length-bytes_of output.lock)

inputs_short : (before : Option Outpoint) (inputs : List Input) → InTurn IsInput last_outpoint before inputs → length (flat_map input_text inputs) ≤ 98 * length inputs
inputs_short before [] h = omega arith
inputs_short before (input ∷ inputs) h =
    let all = ap length (flat_map-cons input_text input inputs) ∙ length-append (input_text input) (flat_map input_text inputs) in
    omega (arith, all, length-input_text input, h.0.short_preimage, inputs_short (Some input.from) inputs h.1)

length-outputs : (outputs : List Output) → length (flat_map output_text outputs) ≡ 40 * length outputs
length-outputs [] = omega arith
length-outputs (output ∷ outputs) =
    let all = ap length (flat_map-cons output_text output outputs) ∙ length-append (output_text output) (flat_map output_text outputs) in
    omega (arith, all, length-output_text output, length-outputs outputs)

pub length-spelling : (t : Transaction) → length (spelling t) ≡ 2 + length (flat_map input_text t.inputs) + 40 * length t.outputs
length-spelling t =
    let all = length-append (flat_map input_text t.inputs) (length t.outputs ∷ flat_map output_text t.outputs) in
    omega (arith, all, length-outputs t.outputs)

pub spelling_short : (t : Transaction) → IsTx t → length (spelling t) ≤ 2210
spelling_short t h = omega (arith, length-spelling t, inputs_short None t.inputs h.inputs, h.few_inputs, h.few_outputs)
