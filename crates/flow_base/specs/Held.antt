-- Files in memory, as a list of names with their bytes.
--   pairs_of files          such a list, without where it lies in memory
--   found_in files name     the bytes of the first file of this name
--   content_of files name   the same, or no bytes where there is none
use Rattle.std.specs.Prelude.{ℕ, List, [], ◌∷◌, Option, None, Some, Vec, String, map, string_bytes, unwrap_or, if◌then◌else◌}
use Rattle.std.specs.declared.alloc.Global.{Global}
use Rattle.std.specs.Str.{bytes_eq}

-- files by name, in their order
abbrev pub pairs_of : List (String Global × Vec ℕ Global) → List (List ℕ × List ℕ)
pairs_of files = map (λ file. (string_bytes file.0, file.1.items)) files

-- the bytes of the first file of this name
abbrev pub found_in : List (List ℕ × List ℕ) → List ℕ → Option (List ℕ)
found_in [] name = None
found_in (file ∷ files) name = if bytes_eq file.0 name then Some file.1 else found_in files name

-- the bytes of the first file of this name, or none
abbrev pub content_of : List (List ℕ × List ℕ) → List ℕ → List ℕ
content_of files name = unwrap_or (found_in files name) []
