-- The file of a program, by its language.
--   ProgramFile    the name of a file of ALF, or of one of C
--   program_file   a name that ends in `.c` is that of a file of C, and any other that of one of ALF
--   file_name      the name of the file
--   c_file         the name of a file of C
use Rattle.std.specs.Prelude.{Bool, nat_eq, Option, None, Some, if◌then◌else◌, codes}
use Rattle.std.specs.List.{ends_with}
use Rattle.sweet_words.specs.Forms.{Text}

-- the name of the file of a program
pub data ProgramFile : Type 0 where
  Alf : Text → ProgramFile
  C : Text → ProgramFile

-- the name ends in `.c`
abbrev pub is_c : Text → Bool
is_c name = ends_with nat_eq name (codes ".c")

-- the file of this name
abbrev pub program_file : Text → ProgramFile
program_file name = if is_c name then C name else Alf name

abbrev pub file_name : ProgramFile → Text
file_name (Alf name) = name
file_name (C name) = name

-- the name, where the file is one of C
abbrev pub c_file : ProgramFile → Option Text
c_file (Alf name) = None
c_file (C name) = Some name
