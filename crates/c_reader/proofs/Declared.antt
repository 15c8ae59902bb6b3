-- One more declaration.
--   stays_table   a table in which the name of the declaration is entered is one of the declarations with it
use Rattle.std.proofs.Common.{◌≡◌, ℕ, Bool, false, true, List, [], ◌∷◌, ◌++◌, map, Option, Some, refl, ap, ◌∙◌, unwrap_or, if◌then◌else◌}
use Rattle.std.specs.Str.{bytes_eq}
use Rattle.std.proofs.lemmas.List.{map-append}
use Rattle.indexmap.specs.IndexMap.{IndexMap}
use denote.Ref.{Bor}
use Rattle.c_grammar.specs.Tokens.{latest_gives, gives_value}
use Rattle.c_reader.specs.declared.names.Known.{Known}
use Rattle.c_reader.specs.Names.{known_of, found, IsTableOf}

-- the last of the declarations is the latest
latest : (text : List ℕ) (known : Bool) (names : List (List ℕ × Bool)) (d : List ℕ × Bool)
    → latest_gives text known (names ++ d ∷ []) ≡ (if bytes_eq d.0 text then d.1 else latest_gives text known names)
latest text known [] d = refl
latest text known (n ∷ names) d = latest text (if bytes_eq n.0 text then n.1 else known) names d

declared : (text : List ℕ) (names : List (List ℕ × Bool)) (d : List ℕ × Bool)
    → gives_value text (names ++ d ∷ []) ≡ (if bytes_eq d.0 text then d.1 else gives_value text names)
unfolding gives_value
declared text names d = latest text false names d

-- what is said of a name, where one name is entered or not
said_if : (here : Bool) (gives : Bool) (before : Option Bool)
    → unwrap_or (if here then Some gives else before) false ≡ (if here then gives else unwrap_or before false)
said_if true gives before = refl
said_if false gives before = refl

pub stays_table : {S : Type 0} (list : List Known) (k : Known) (table after : IndexMap (Bor (List ℕ)) Bool S)
    → IsTableOf (map known_of list) table
    → ((name : List ℕ) → found after name ≡ (if bytes_eq k.name.now name then Some k.gives else found table name))
    → IsTableOf (map known_of (list ++ k ∷ [])) after
stays_table list k table after holds entered = λ name.
    let here = bytes_eq k.name.now name in
    let says = ap (λ (o : Option Bool). unwrap_or o false) (entered name) ∙ said_if here k.gives (found table name) in
    rw (map-append known_of list (k ∷ []), declared name (map known_of list) (known_of k), ← holds name) says
