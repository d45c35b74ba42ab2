-- A value that meets the rules of its format has one spelling, its text, and no other value has any.
use Rattle.std.proofs.Common.{◌≡◌, ℕ, List, [], Ok, sym, ap, subst, ◌∙◌}
use Rattle.std.proofs.lemmas.List.{append-nil}
use Rattle.sp_form.specs.Bytes.{IsBytes}
use Rattle.sp_form.specs.Form.{Form, Spells}
use Rattle.sp_form.specs.Reading.{read}
use Rattle.sp_form.proofs.FormLaws.{reads_spelled, spelled_front}
use Rattle.sp_form.proofs.Taking.{Spelled}

-- a whole list that spells a value is read to its end
pub reads_all : {E A : Type 0} (form : Form E A) (list : List ℕ) (x : A) → Spells form list x → read form list ≡ Ok (x, [])
reads_all form list x s = ap (read form) (sym (append-nil list)) ∙ reads_spelled form list x [] s

pub is_spelled : {E A : Type 0} (form : Form E A) (text : A → List ℕ) (meets : A → Type 0) → Spelled form text meets → (x : A) → meets x → Spells form (text x) x
is_spelled form text meets s x h =
    let front = spelled_front form (text x) x [] (ap (read form) (sym (append-nil (text x))) ∙ s.again x [] h) in
    subst (λ (l : List ℕ). Spells form l x) (sym (front.parts ∙ append-nil front.text)) front.spells

pub only_text : {E A : Type 0} (form : Form E A) (text : A → List ℕ) (meets : A → Type 0) → Spelled form text meets → (list : List ℕ) (x : A) → IsBytes list → Spells form list x → meets x × (list ≡ text x)
only_text form text meets s list x bytes h =
    let all = s.takes list x [] bytes (reads_all form list x h) in
    (all.1, all.0.parts ∙ append-nil (text x))
