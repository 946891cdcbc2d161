use Rattle.std.proofs.Common.{List, ℕ, ◌++◌, ◌≡◌, ◌∙◌, ap}
use Rattle.std.specs.Prelude.{codes, decimal, string_bytes}
use Rattle.perm_words.specs.ClassText.{sort_text}
use Rattle.perm_words.proofs.Pieces.{and_then}
use Rattle.perm_words.proofs.class_text.print_group.Goals as goal

pub returns : goal.returns
returns c =
    let group : decimal c.from.result ≡ decimal c.args.group = search in
    let sort : c.sort_of.result.now ≡ sort_text c.args.creds.now c.args.group = search in
    let before : List ℕ = codes "class group: its " in
    let sort_of_group : List ℕ = sort_text c.args.creds.now c.args.group in
    let between : List ℕ = codes "group " in
    let digits : List ℕ = decimal c.args.group in
    let behind : List ℕ = codes " is the " in
    let ending : List ℕ = c.args.whose.now in
    and_then (string_bytes c.args.out.now) _ _ before (sort_of_group ++ (between ++ (digits ++ (behind ++ ending)))) c.in_ok-push_str.ensures.bytes (
    and_then (string_bytes c.push_str.new.self) _ _ sort_of_group (between ++ (digits ++ (behind ++ ending))) (c.in_ok-push_str-2.ensures.bytes ∙ ap (λ (l : List ℕ). string_bytes c.push_str.new.self ++ l) sort) (
    and_then (string_bytes c.push_str-2.new.self) _ _ between (digits ++ (behind ++ ending)) c.in_ok-push_str-3.ensures.bytes (
    and_then (string_bytes c.push_str-3.new.self) _ _ digits (behind ++ ending) (c.in_ok-print_number.ensures ∙ ap (λ (l : List ℕ). string_bytes c.push_str-3.new.self ++ l) group) (
    and_then (string_bytes c.print_number.new.out) _ _ behind ending c.in_ok-push_str-4.ensures.bytes (
    c.in_ok-push_str-5.ensures.bytes)))))
