-- The subcommand that a parse met, as the code takes it out.
use Rattle.std.specs.Prelude.{◌≡◌, ◌≢◌, true, List, [], ◌∷◌, Option, None, Some, option_map, Box, Result, Ok, Err, IfOk}
use Rattle.std.specs.Box.{box_value}
use Rattle.std.specs.Option.{ok_or}
use Rattle.std.specs.Borrow.{Bor}
use Rattle.std.proofs.Common.{refl, sym, ap, ◌∙◌, subst, inl, inr}
use Rattle.clap.specs.Matches.{found_of, first_value, subcommand_name_of}
use Rattle.clap.specs.Walk.{Row, rows_of}
use Rattle.clap.specs.Simple.{App, is_simple, subcommand_of, subcommand_rows, subcommand_rows_of}
use Rattle.clap.specs.Faults.{fault_of, is_simple_and_free}
use Rattle.clap.specs.Kinds.{Kinds, HasKind}
use Rattle.clap.specs.Values.{kind_of}
use Rattle.clap.specs.declared.error.Error.{Error}
use Rattle.clap.specs.declared.error.kind.ErrorKind.TheVariants.{OutOfMemory}
use Rattle.clap.specs.declared.parser.matches.ArgMatches.TheViews.{out-ArgMatches, out-SubCommand}
use Rattle.clap.specs.declared.parser.matches.SubCommand.{SubCommand}
use Rattle.clap.specs.declared.parser.matches.ArgMatches.{ArgMatches}
use Rattle.clap.proofs.WalkLemmas.{first_value-rows}
use Rattle.sweet_words.specs.Forms.{Text}
use Rattle.sweet_words.specs.Commands.{Command, command_named, command_of}
use Rattle.sweet_words.specs.Shapes.{program}
use Rattle.sweet_words.specs.Meant.{command_meant}
use Rattle.sweet_words.specs.declared.command.Command.{Command as Value}
use Rattle.sweet_words.specs.declared.reading.WordsFault.{WordsFault}
use Rattle.sweet_words.specs.declared.reading.WordsFault.TheVariants.{Usage}
use Rattle.sweet_words.proofs.Deciding.{simple, taken, refused}
use Rattle.sweet_words.specs.Matched.{command_from}

-- a pair that has this name and these rows
pair_is : (found : Option (Text × List Row)) (name : Text) (rows : List Row) → Some name ≡ option_map (λ p. p.0) found
    → Some rows ≡ option_map (λ p. p.1) found
    → found ≡ Some (name, rows)
pair_is None name rows first second = absurd (cc)
pair_is (Some (n, rs)) name rows first second = cc

name_in_rows : {Z : Type 0} (o : Option (Box SubCommand Z))
    → option_map (λ b. (out-SubCommand (box_value b)).name.now) o ≡ option_map (λ p. p.0) (subcommand_rows o)
name_in_rows None = refl
name_in_rows (Some b) = refl

-- the command that the code makes of a subcommand is that of its rows
pub command_is : (m : ArgMatches) (found : Option (Bor Text × Bor ArgMatches)) (name : Bor Text) (given : Bor ArgMatches) → found ≡ Some (name, given)
    → option_map (λ p. p.0.now) found ≡ subcommand_name_of m → option_map (λ p. rows_of (found_of p.1.now)) found ≡ option_map (λ p. p.1) (subcommand_rows_of m)
    → command_named name.now (first_value (found_of given.now)) ≡ command_from (subcommand_rows_of m)
command_is m found name given is names rows =
    let first : Some name.now ≡ option_map (λ p. p.0) (subcommand_rows_of m) = ap (option_map (λ p. p.0.now)) (sym is) ∙ names ∙ name_in_rows (out-ArgMatches m).subcommand in
    let second : Some (rows_of (found_of given.now)) ≡ option_map (λ p. p.1) (subcommand_rows_of m) = ap (option_map (λ p. rows_of (found_of p.1.now))) (sym is) ∙ rows in
    ap (command_named name.now) (λ i id. first_value-rows (found_of given.now) id i)
    ∙ sym (ap command_from (pair_is (subcommand_rows_of m) name.now (rows_of (found_of given.now)) first second))

-- ---- the answer

-- the words are taken
pub taken_command : (app : App) (words : List Text) (sub : Option (Text × List Row)) (rows all : List Row) (meant : Option Command) → app ≡ program
    → (is_simple_and_free app ≡ true → fault_of app words ≡ []) → (is_simple app ≡ true → (rows ≡ all) × (sub ≡ subcommand_of app words))
    → meant ≡ command_from sub → meant ≡ command_of words
taken_command app words sub rows all meant is none matches from =
    let none_here : fault_of program words ≡ [] = ap (λ (a : App). fault_of a words) (sym is) ∙ none (ap is_simple_and_free is ∙ simple) in
    let sub_here : sub ≡ subcommand_of program words = (matches (ap is_simple is ∙ refl)).1 ∙ ap (λ (a : App). subcommand_of a words) is in
    from ∙ ap command_from sub_here ∙ taken words none_here

-- the words are refused, and not for want of memory
pub refused_words : (app : App) (words : List Text) (e : Error) → app ≡ program
    → (is_simple_and_free app ≡ true → HasKind (fault_of app words) e) → kind_of e ≢ OutOfMemory
    → command_of words ≡ None
refused_words app words e is has other = go (fault_of program words) refl
  where
    kinds_here : HasKind (fault_of program words) e
    kinds_here = subst (λ (a : App). HasKind (fault_of a words) e) is (has (ap is_simple_and_free is ∙ simple))

    go : (kinds : Kinds) → fault_of program words ≡ kinds → command_of words ≡ None
    go [] at = absurd (elim (subst (λ (ks : Kinds). HasKind ks e) at kinds_here) [ inl memory ↦ other memory | inr among ↦ among ])
    go (kind ∷ kinds) at = refused words kind kinds at

-- the answer in place of a command that may be none
pub answer_command : (found : Option Value) (result : Result Value WordsFault) (meaning : Option Command)
    → result ≡ ok_or found Usage → option_map command_meant found ≡ meaning
    → IfOk result (λ command. meaning ≡ Some (command_meant command))
answer_command None result meaning is means = subst (λ (r : Result Value WordsFault). IfOk r (λ command. meaning ≡ Some (command_meant command))) (sym is) tt
answer_command (Some command) result meaning is means = subst (λ (r : Result Value WordsFault). IfOk r (λ command. meaning ≡ Some (command_meant command))) (sym is) (sym means)

pub answer_usage : (found : Option Value) (result : Result Value WordsFault) (meaning : Option Command)
    → result ≡ ok_or found Usage → option_map command_meant found ≡ meaning
    → result ≡ Err Usage → meaning ≡ None
answer_usage None result meaning is means usage = sym means
answer_usage (Some command) result meaning is means usage = absurd (let bad : Ok command ≡ Err Usage = sym is ∙ usage in cc)
