-- The message of bytes is that of their words and their payload.
use Rattle.std.proofs.Common.{◌≡◌, ℕ, ◌≤◌, Bool, cond, List, length, drop, Option, Some, None, Result, sym, ap, subst, ◌∙◌}
use Rattle.std.specs.Prelude.{IfErr, IfOk, option_and_then}
use Rattle.std.proofs.lemmas.Bool.{le-ltb}
use Rattle.ipc_wire.specs.Layout.{words_in}
use Rattle.ipc_wire.specs.Operations.{operation_of}
use Rattle.ipc_wire.specs.Requests.{decode, request_in}
use Rattle.ipc_wire.specs.declared.operations.Operation.{Operation}
use Rattle.ipc_wire.specs.declared.reading.BadMessage.{BadMessage}
use Rattle.ipc_wire.specs.declared.reading.BadMessage.TheVariants.{Unknown}
use Rattle.ipc_wire.specs.declared.requests.Message.{Message}
use Rattle.ipc_wire.specs.declared.words.Words.{Words}

decode_is : (bytes p : List ℕ) (w : Words) (o : Operation) → 48 ≤ length bytes → p ≡ drop 48 bytes → w ≡ words_in bytes
    → operation_of w.op ≡ Some o → request_in w p o ≡ decode bytes
decode_is bytes p w o long rest words known =
    sym (ap (λ (b : Bool). cond b None (option_and_then (λ x. request_in (words_in bytes) (drop 48 bytes) x) (operation_of (words_in bytes).op))) (le-ltb (length bytes) 48 long)
    ∙ ap (λ (v : Words). option_and_then (λ x. request_in v (drop 48 bytes) x) (operation_of v.op)) (sym words)
    ∙ ap (λ (q : List ℕ). option_and_then (λ x. request_in w q x) (operation_of w.op)) (sym rest)
    ∙ ap (λ (x : Option Operation). option_and_then (λ y. request_in w p y) x) known)

pub ok_along : (bytes p : List ℕ) (w : Words) (o : Operation) (r : Result Message BadMessage) → 48 ≤ length bytes → p ≡ drop 48 bytes
    → w ≡ words_in bytes → operation_of w.op ≡ Some o → IfOk r (λ m. request_in w p o ≡ Some m) → IfOk r (λ m. decode bytes ≡ Some m)
ok_along bytes p w o r long rest words known given =
    subst (λ (x : Option Message). IfOk r (λ m. x ≡ Some m)) (decode_is bytes p w o long rest words known) given

pub err_along : (bytes p : List ℕ) (w : Words) (o : Operation) (r : Result Message BadMessage) → 48 ≤ length bytes → p ≡ drop 48 bytes
    → w ≡ words_in bytes → operation_of w.op ≡ Some o → IfErr r (λ bad. bad ≡ Unknown → request_in w p o ≡ None)
    → IfErr r (λ bad. bad ≡ Unknown → decode bytes ≡ None)
err_along bytes p w o r long rest words known given =
    subst (λ (x : Option Message). IfErr r (λ bad. bad ≡ Unknown → x ≡ None)) (decode_is bytes p w o long rest words known) given
