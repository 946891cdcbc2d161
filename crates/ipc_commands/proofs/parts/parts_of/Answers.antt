use Rattle.std.proofs.Common.{rules, ap, map, ◌≡◌, ◌∙◌, Some, None}
use Rattle.clap.specs.Words.{found_of, is_simple_and_free, rows_of}
use Rattle.ipc_words.specs.Words.{words_of}
use Rattle.ipc_commands.specs.Commands.{arguments_of, parts_by, requests_of}
use Rattle.ipc_commands.specs.Options.{app_of_tool, matched, name_of_tool}
use Rattle.ipc_commands.proofs.OptionLemmas.{tool_is_simple}
use Rattle.ipc_commands.proofs.PartLemmas.{all_parts, no_arguments, no_parts, no_rows}
use Rattle.ipc_commands.proofs.parts.parts_of.Goals as goal

pub matches-requires : goal.matches-requires
matches-requires c = ap is_simple_and_free c.in_ok-command.ensures ∙ tool_is_simple c.args.tool

pub returns-in_default : goal.returns-in_default
returns-in_default c =
    let none : None ≡ arguments_of (name_of_tool c.args.tool) (words_of c.args.words.now) = search rules in
    no_arguments c.args.tool (words_of c.args.words.now) none

pub returns-in_default-2 : goal.returns-in_default-2
returns-in_default-2 c =
    let words : Some (map (λ text. text.now) c.in-Some.words.items) ≡ arguments_of (name_of_tool c.args.tool) (words_of c.args.words.now) = search rules in
    let none : None ≡ matched (app_of_tool c.args.tool) (map (λ text. text.now) c.in-Some.words.items) = search rules in
    no_rows c.args.tool (words_of c.args.words.now) _ words none

pub returns-in_default-3 : goal.returns-in_default-3
returns-in_default-3 c =
    let words : Some (map (λ text. text.now) c.in-Some.words.items) ≡ arguments_of (name_of_tool c.args.tool) (words_of c.args.words.now) = search rules in
    let rows : Some (rows_of (found_of c.in-Some-2.matches)) ≡ matched (app_of_tool c.args.tool) (map (λ text. text.now) c.in-Some.words.items) = search rules in
    let none : None ≡ parts_by (rows_of (found_of c.in-Some-2.matches)) (requests_of c.args.tool) = search rules in
    no_parts c.args.tool (words_of c.args.words.now) _ _ words rows none

pub returns-then-is_empty : goal.returns-then-is_empty
returns-then-is_empty c =
    let words : Some (map (λ text. text.now) c.in-Some.words.items) ≡ arguments_of (name_of_tool c.args.tool) (words_of c.args.words.now) = search rules in
    let rows : Some (rows_of (found_of c.in-Some-2.matches)) ≡ matched (app_of_tool c.args.tool) (map (λ text. text.now) c.in-Some.words.items) = search rules in
    let parts : Some c.in-Some-3.parts.items ≡ parts_by (rows_of (found_of c.in-Some-2.matches)) (requests_of c.args.tool) = search rules in
    rw (← all_parts c.args.tool (words_of c.args.words.now) _ _ _ words rows parts) (search rules)

pub returns : goal.returns
returns c =
    let words : Some (map (λ text. text.now) c.in-Some.words.items) ≡ arguments_of (name_of_tool c.args.tool) (words_of c.args.words.now) = search rules in
    let rows : Some (rows_of (found_of c.in-Some-2.matches)) ≡ matched (app_of_tool c.args.tool) (map (λ text. text.now) c.in-Some.words.items) = search rules in
    let parts : Some c.in-Some-3.parts.items ≡ parts_by (rows_of (found_of c.in-Some-2.matches)) (requests_of c.args.tool) = search rules in
    rw (← all_parts c.args.tool (words_of c.args.words.now) _ _ _ words rows parts) (search rules)
