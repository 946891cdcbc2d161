-- What is read as a message are the bytes of that message.
use Rattle.std.proofs.Common.{◌≡◌, ℕ, Bool, true, false, cond, ltb, List, ◌++◌, length, drop, Option, Some, None, refl, sym, ap, ◌∙◌}
use Rattle.std.proofs.lemmas.Bool.{and_parts, eqb-true, ltb-false}
use Rattle.std.proofs.lemmas.List.{nil_from_length}
use Rattle.std.proofs.lemmas.Option.{cond_some, option_and_then_some}
use Rattle.ipc_wire.specs.Layout.{words_bytes, words_in}
use Rattle.ipc_wire.specs.Laws.{HasOneEncoding}
use Rattle.ipc_wire.specs.Operations.{operation_of}
use Rattle.ipc_wire.specs.Requests.{encode, is_request, meant, payload_of, request_in}
use Rattle.ipc_wire.specs.declared.operations.Operation.{Operation}
use Rattle.ipc_wire.specs.declared.operations.Operation.TheVariants as op
use Rattle.ipc_wire.specs.declared.requests.Message.{Message}
use Rattle.ipc_wire.specs.declared.words.Words.{Words}
use Rattle.ipc_wire.proofs.Bytes.{IsBytes, are_bytes, bytes-drop, same_is, words_back}
use Rattle.ipc_wire.proofs.Payloads.{opers_back, room_back, values_back}

-- a payload of the length that the request has is that of the request
payload_is : (o : Operation) (w : Words) (p : List ℕ) → IsBytes p → length (payload_of (meant o w p)) ≡ length p → payload_of (meant o w p) ≡ p
payload_is op.MsgSnd w p fits len = refl
payload_is op.SemOp w p fits len = opers_back p fits len
payload_is op.SemTimedOp w p fits len = opers_back p fits len
payload_is op.SetAll w p fits len = values_back p fits len
payload_is op.IpcSet w p fits len = room_back p fits len
payload_is o w p fits len = sym (nil_from_length p (sym len))

abbrev message : ℕ → Operation → Words → List ℕ → Message
message seq o w p = record { seq = seq; request = meant o w p }

not_none : {A : Type 0} (b : Bool) (x : Option A) (y : A) → cond b None x ≡ Some y → (b ≡ false) × (x ≡ Some y)
not_none true x y e = absurd cc
not_none false x y e = (refl, e)

request_back : (o : Operation) (w : Words) (p : List ℕ) (m : Message) → IsBytes p → request_in w p o ≡ Some m → encode m ≡ words_bytes w ++ p
request_back o w p m fits e =
    let found = cond_some (is_request o w p (meant o w p)) (message w.seq o w p) m e in
    let tests = and_parts _ _ found.0 in
    let words = same_is _ w (and_parts _ _ tests.0).1 in
    let payload = payload_is o w p fits (eqb-true _ _ tests.1) in
    ap encode (sym found.1)
    ∙ ap (λ (v : Words). words_bytes v ++ payload_of (meant o w p)) words
    ∙ ap (λ (q : List ℕ). words_bytes w ++ q) payload

pub one_encoding : HasOneEncoding
one_encoding bytes m all e =
    let fits = are_bytes bytes all in
    let w = words_in bytes in
    let p = drop 48 bytes in
    let long = not_none (ltb (length bytes) 48) _ m e in
    option_and_then_some (λ (o : Operation). request_in w p o) (operation_of w.op) m long.1
    (λ o _ known. request_back o w p m (bytes-drop 48 bytes fits) known ∙ words_back bytes fits (ltb-false _ _ long.0))
