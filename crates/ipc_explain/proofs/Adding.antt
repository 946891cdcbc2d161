-- What adding a note leaves.
use Rattle.std.proofs.Common.{◌≡◌, ℕ, List, [], subst, sym}
use Rattle.std.specs.Prelude.{Err, Ok, OnErr, OnOk, Result}
use Rattle.row_notes.specs.declared.notes.Head.{Head}
use Rattle.row_notes.specs.Noted.{AddsNote, Noted, with_note}

pub adds : {T E : Type 0} (old new : List Noted) (head : Head) (text : List ℕ) (r : Result T E) → OnOk r (new ≡ with_note old head text) → OnErr r (new ≡ old) → AddsNote old new head
adds old new head text (Ok x) ok err = (text, ok)
adds old new head text (Err e) ok err = ([], err)

pub adds-none : (old new : List Noted) (head : Head) → new ≡ old → AddsNote old new head
adds-none old new head same = ([], same)

pub adds-after : (old between new : List Noted) (head : Head) → between ≡ old → AddsNote between new head → AddsNote old new head
adds-after old between new head same h = subst (λ (notes : List Noted). AddsNote notes new head) same h
