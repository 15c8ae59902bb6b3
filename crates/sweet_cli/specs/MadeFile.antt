-- The program of C that `generate` makes, as a file.
--   made_name          the name of the file that has it
--   made_files n       what each name holds: each other file is empty
--   made_words         `analyse` of this file, with its certificate and else the options that stand without words
use Rattle.std.specs.Prelude.{ℕ, List, [], ◌∷◌, None, Some, true, codes}
use Rattle.flow_base.specs.Outside.{Files}
use Rattle.flow_base.specs.Held.{content_of}
use Rattle.answer_texts.specs.MadeProgram.{made_text}
use Rattle.sweet_cli.specs.Words.{AnalyseWords, C, Joins}

-- the file that has it
abbrev pub made_name : List ℕ
made_name = codes "made.c"

-- what each name holds
abbrev pub made_files : ℕ → Files
made_files n = λ name. Some (content_of ((made_name, made_text n) ∷ []) name)

-- `analyse` of this file
abbrev pub made_words : AnalyseWords
made_words = record {
  program = C made_name;
  root = codes "main";
  inputs = None;
  costs = None;
  turns = 100000;
  merging = Joins;
  pivots = 1000;
  certified = true;
}
