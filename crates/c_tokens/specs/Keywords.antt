-- The keywords of C99.
use Rattle.std.specs.Prelude.{ℕ, List, [], ◌∷◌, Bool, codes}
use Rattle.std.specs.List.{list_any}
use Rattle.std.specs.Str.{bytes_eq}

unfoldable pub keywords : List (List ℕ)
keywords =
    codes "auto" ∷ codes "break" ∷ codes "case" ∷ codes "char" ∷ codes "const" ∷ codes "continue" ∷ codes "default" ∷ codes "do" ∷ codes "double" ∷ codes "else" ∷ codes "enum"
    ∷ codes "extern" ∷ codes "float" ∷ codes "for" ∷ codes "goto" ∷ codes "if" ∷ codes "inline" ∷ codes "int" ∷ codes "long" ∷ codes "register" ∷ codes "restrict" ∷ codes "return"
    ∷ codes "short" ∷ codes "signed" ∷ codes "sizeof" ∷ codes "static" ∷ codes "struct" ∷ codes "switch" ∷ codes "typedef" ∷ codes "union" ∷ codes "unsigned" ∷ codes "void"
    ∷ codes "volatile" ∷ codes "while" ∷ codes "_Bool" ∷ codes "_Complex" ∷ codes "_Imaginary" ∷ []

-- the text of an identifier is a keyword
unfoldable pub is_keyword : List ℕ → Bool
is_keyword text = list_any (λ word. bytes_eq word text) keywords
