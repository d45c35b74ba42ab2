-- One format after another, read off the front.
use Rattle.std.proofs.Common.{◌≡◌, ℕ, List, Option, Some, None, Result, Ok, ap, ◌∙◌}
use Rattle.sp_form.specs.Form.{bind, Form}
use Rattle.sp_form.specs.Reading.{read, ◌then◌}
use Rattle.sp_form.proofs.FormLaws.{read_then}
use Rattle.sp_journal.specs.Format.{Flaw}
use Rattle.sp_journal.specs.Recovery.{Finds, IsFlawed}

module _ {A B : Type 0} (form : Form Flaw A) (f : A → Form Flaw B) (list : List ℕ) where
  pub goes : (x : A) (rest : List ℕ) (r : Result (B × List ℕ) Flaw) → read form list ≡ Ok (x, rest) → read (f x) rest ≡ r → read (bind form f) list ≡ r
  goes x rest r first next = read_then form f list ∙ ap (λ t. t then λ y. read (f y.0) y.1) first ∙ next

  pub stops : IsFlawed (read form list) → IsFlawed (read (bind form f) list)
  stops flawed = (flawed.0, read_then form f list ∙ ap (λ t. t then λ y. read (f y.0) y.1) flawed.1)

  pub stops_next : (x : A) (rest : List ℕ) → read form list ≡ Ok (x, rest) → IsFlawed (read (f x) rest) → IsFlawed (read (bind form f) list)
  stops_next x rest first flawed = (flawed.0, goes x rest _ first flawed.1)

  -- what follows is found or flawed, and so is the whole
  pub follows : {X : Type 0} (view : X → B) (found : Option X) (x : A) (rest left : List ℕ) → read form list ≡ Ok (x, rest) → Finds view found left (read (f x) rest) → Finds view found left (read (bind form f) list)
  follows view (Some y) x rest left first next = goes x rest _ first next
  follows view None x rest left first next = stops_next x rest first next
