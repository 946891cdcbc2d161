use Rattle.std.proofs.Common.{List, ℕ, ◌++◌, ◌≡◌, ◌∙◌, ap}
use Rattle.std.specs.Prelude.{codes, decimal, string_bytes}
use Rattle.perm_words.proofs.Pieces.{and_then}
use Rattle.perm_words.proofs.class_text.print_other.Goals as goal

pub returns : goal.returns
returns c =
    let user : decimal c.from.result ≡ decimal c.args.creds.now.euid = search in
    let before : List ℕ = codes "class others: its user " in
    let digits : List ℕ = decimal c.args.creds.now.euid in
    let ending : List ℕ = codes " is neither owner nor creator, and none of its groups is one of theirs" in
    and_then (string_bytes c.args.out.now) _ _ before (digits ++ ending) c.in_ok-push_str.ensures.bytes (
    and_then (string_bytes c.push_str.new.self) _ _ digits ending (c.in_ok-print_number.ensures ∙ ap (λ (l : List ℕ). string_bytes c.push_str.new.self ++ l) user) (
    c.in_ok-push_str-2.ensures.bytes))
