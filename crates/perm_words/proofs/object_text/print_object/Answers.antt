use Rattle.std.proofs.Common.{List, ℕ, ◌++◌, ◌≡◌, ◌∙◌, ap}
use Rattle.std.specs.Prelude.{codes, decimal, string_bytes}
use Rattle.perm_words.specs.ObjectText.{key_text, mode_text, name_of_kind, owned_text}
use Rattle.perm_words.proofs.Pieces.{and_then}
use Rattle.perm_words.proofs.object_text.print_object.Goals as goal

pub returns : goal.returns
returns c =
    let mode : mode_text c.bits.result ≡ mode_text c.args.perm.now.mode = search in
    let id : decimal c.from.result ≡ decimal c.args.id = search in
    let name : c.kind_name.result.now ≡ name_of_kind c.args.kind = search in
    let kind : List ℕ = name_of_kind c.args.kind in
    let space : List ℕ = codes " " in
    let digits : List ℕ = decimal c.args.id in
    let key_word : List ℕ = codes " key " in
    let key : List ℕ = key_text c.args.perm.now.key in
    let mode_word : List ℕ = codes " mode " in
    let mode_digits : List ℕ = mode_text c.args.perm.now.mode in
    let owner : List ℕ = owned_text (codes " owner ") c.args.perm.now.uid c.args.perm.now.gid in
    let creator : List ℕ = owned_text (codes " creator ") c.args.perm.now.cuid c.args.perm.now.cgid in
    and_then (string_bytes c.args.out.now) _ _ kind (space ++ (digits ++ (key_word ++ (key ++ (mode_word ++ (mode_digits ++ (owner ++ creator))))))) (c.in_ok-push_str.ensures.bytes ∙ ap (λ (l : List ℕ). string_bytes c.args.out.now ++ l) name) (
    and_then (string_bytes c.push_str.new.self) _ _ space (digits ++ (key_word ++ (key ++ (mode_word ++ (mode_digits ++ (owner ++ creator)))))) c.in_ok-push_str-2.ensures.bytes (
    and_then (string_bytes c.push_str-2.new.self) _ _ digits (key_word ++ (key ++ (mode_word ++ (mode_digits ++ (owner ++ creator))))) (c.in_ok-print_number.ensures ∙ ap (λ (l : List ℕ). string_bytes c.push_str-2.new.self ++ l) id) (
    and_then (string_bytes c.print_number.new.out) _ _ key_word (key ++ (mode_word ++ (mode_digits ++ (owner ++ creator)))) c.in_ok-push_str-3.ensures.bytes (
    and_then (string_bytes c.push_str-3.new.self) _ _ key (mode_word ++ (mode_digits ++ (owner ++ creator))) c.in_ok-print_key.ensures (
    and_then (string_bytes c.print_key.new.out) _ _ mode_word (mode_digits ++ (owner ++ creator)) c.in_ok-push_str-4.ensures.bytes (
    and_then (string_bytes c.push_str-4.new.self) _ _ mode_digits (owner ++ creator) (c.in_ok-print_mode.ensures ∙ ap (λ (l : List ℕ). string_bytes c.push_str-4.new.self ++ l) mode) (
    and_then (string_bytes c.print_mode.new.out) _ _ owner creator c.in_ok-print_owned.ensures (
    c.in_ok-print_owned-2.ensures))))))))
