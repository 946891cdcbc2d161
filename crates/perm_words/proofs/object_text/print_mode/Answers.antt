use Rattle.std.proofs.Common.{List, ℕ, ◌++◌, ◌≡◌, ◌∷◌, [], ◌/◌, ◌∙◌, ap, sym}
use Rattle.std.specs.Prelude.{codes, string_bytes}
use Rattle.perm_words.specs.ObjectText.{octal_digit}
use Rattle.perm_words.proofs.ModeLemmas.{mode_is}
use Rattle.perm_words.proofs.Pieces.{and_then}
use Rattle.perm_words.proofs.object_text.print_mode.Goals as goal

pub returns : goal.returns
returns c =
    let mode = c.args.mode in
    let first : List ℕ = octal_digit (mode / 64) ∷ [] in
    let second : List ℕ = octal_digit (mode / 8) ∷ [] in
    let third : List ℕ = octal_digit mode ∷ [] in
    and_then (string_bytes c.args.out.now) _ _ (codes "0") (first ++ (second ++ third)) c.in_ok-push_str.ensures.bytes (
    and_then (string_bytes c.push_str.new.self) _ _ first (second ++ third) c.in_ok-print_octal_digit.ensures (
    and_then (string_bytes c.print_octal_digit.new.out) _ _ second third c.in_ok-print_octal_digit-2.ensures
    c.in_ok-print_octal_digit-3.ensures))
    ∙ ap (λ (l : List ℕ). string_bytes c.args.out.now ++ l) (sym (mode_is mode c.requires))
