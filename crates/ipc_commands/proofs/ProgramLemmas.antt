-- What the words' matches say of the program.
use Rattle.std.proofs.Common.{◌≡◌, List, Some, None, ap, option_map, refl, subst, sym, ◌∙◌}
use Rattle.std.specs.Prelude.{Box, IfSome, Option}
use Rattle.std.specs.Box.{box_value}
use Rattle.clap.specs.Words.{App, Row, Text, found_of, rows_of, subcommand_name_of, subcommand_of, subcommand_rows, subcommand_rows_of}
use Rattle.clap.specs.declared.parser.matches.ArgMatches.{ArgMatches}
use Rattle.clap.specs.declared.parser.matches.SubCommand.{SubCommand}
use Rattle.clap.specs.declared.parser.matches.ArgMatches.TheViews.{out-ArgMatches, out-SubCommand}
use Rattle.ipc_commands.specs.Options.{matched}
use Rattle.ipc_commands.specs.Programs.{program_by, program_in}
use Rattle.ipc_commands.specs.declared.programs.Program.{Program}
use Rattle.ipc_commands.specs.declared.programs.Program.TheVariants.{Script, Threads}

abbrev rows_in : Option ArgMatches → Option (List Row)
rows_in found = option_map (λ m. rows_of (found_of m)) found

pub not_taken : (a app : App) (words : List Text) (found : Option ArgMatches) → found ≡ None → rows_in found ≡ matched a words → a ≡ app → None ≡ program_in app words
unfolding program_in
not_taken a app words found none rows same =
    ap (option_map (λ rows. program_by (subcommand_of app words))) (ap rows_in (sym none) ∙ rows ∙ ap (λ x. matched x words) same)

-- a subcommand is known by its name
named : Option Text → Program
named None = Script
named (Some name) = Threads

program_named : (sub : Option (Text × List Row)) → named (option_map (λ p. p.0) sub) ≡ program_by sub
unfolding named
program_named None = refl
program_named (Some p) = refl

name_of_rows : {Z : Type 0} (x : Option (Box SubCommand Z)) → option_map (λ b. (out-SubCommand (box_value b)).name.now) x ≡ option_map (λ p. p.0) (subcommand_rows x)
name_of_rows None = refl
name_of_rows (Some b) = refl

name_is : (m : ArgMatches) → subcommand_name_of m ≡ option_map (λ p. p.0) (subcommand_rows_of m)
name_is m = name_of_rows (out-ArgMatches m).subcommand

some_program : (app : App) (words : List Text) (rows : List Row) → Some rows ≡ matched app words → Some (program_by (subcommand_of app words)) ≡ program_in app words
unfolding program_in
some_program app words rows e = ap (option_map (λ rows. program_by (subcommand_of app words))) e

taken : (a app : App) (words : List Text) (m : ArgMatches) (name : Option Text) → rows_in (Some m) ≡ matched a words → subcommand_rows_of m ≡ subcommand_of a words → a ≡ app → name ≡ subcommand_name_of m → Some (named name) ≡ program_in app words
taken a app words m name rows sub same is =
    let by = ap named (is ∙ name_is m ∙ ap (option_map (λ p. p.0)) (sub ∙ ap (λ x. subcommand_of x words) same)) ∙ program_named (subcommand_of app words) in
    ap Some by ∙ some_program app words (rows_of (found_of m)) (rows ∙ ap (λ x. matched x words) same)

pub threads_taken : (a app : App) (words : List Text) (found : Option ArgMatches) (m : ArgMatches) (r : Option Text) (name : Text) → found ≡ Some m → rows_in found ≡ matched a words → IfSome found (λ m. subcommand_rows_of m ≡ subcommand_of a words) → a ≡ app → r ≡ subcommand_name_of m → r ≡ Some name → Some Threads ≡ program_in app words
unfolding named
threads_taken a app words found m r name some rows sub same is by =
    let sub = subst (λ (x : Option ArgMatches). IfSome x (λ m. subcommand_rows_of m ≡ subcommand_of a words)) some sub in
    taken a app words m (Some name) (ap rows_in (sym some) ∙ rows) sub same (sym by ∙ is)

pub script_taken : (a app : App) (words : List Text) (found : Option ArgMatches) (m : ArgMatches) (r : Option Text) → found ≡ Some m → rows_in found ≡ matched a words → IfSome found (λ m. subcommand_rows_of m ≡ subcommand_of a words) → a ≡ app → r ≡ subcommand_name_of m → r ≡ None → Some Script ≡ program_in app words
unfolding named
script_taken a app words found m r some rows sub same is by =
    let sub = subst (λ (x : Option ArgMatches). IfSome x (λ m. subcommand_rows_of m ≡ subcommand_of a words)) some sub in
    taken a app words m None (ap rows_in (sym some) ∙ rows) sub same (sym by ∙ is)
