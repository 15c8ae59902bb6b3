-- A list in two parts, each element with the place of a first least key.
--   items_of entries       the elements
--   keys_of key entries    their keys
--   line_of earlier later  the list: the earlier part, and the later part turned round
--   AreLeast key entries   each entry, before those that follow it, tells where the first least of them stands
--   AreFirst key entries   the same for entries in the reverse order
use Rattle.std.specs.Prelude.{ℕ, List, [], ◌∷◌, ◌++◌, map, reverse}
use Rattle.worklist.specs.declared.entry.Entry.{Entry}
use Rattle.worklist.specs.Least.{IsFirstLeast}

abbrev pub items_of : {X : Type 0} → List (Entry X) → List X
items_of entries = map (λ entry. entry.item.value) entries

abbrev pub keys_of : {X : Type 0} → (X → List ℕ) → List (Entry X) → List (List ℕ)
keys_of key entries = map (λ entry. key entry.item.value) entries

abbrev pub line_of : {X : Type 0} → List (Entry X) → List (Entry X) → List X
line_of earlier later = items_of earlier ++ items_of (reverse later)

-- each entry tells how many entries after it the first least stands
abbrev pub AreLeast : {X : Type 0} → (X → List ℕ) → List (Entry X) → Type 0
AreLeast key [] = Unit {0}
AreLeast key (entry ∷ entries) = IsFirstLeast (keys_of key (entry ∷ entries)) entry.least × AreLeast key entries

-- each entry, after those that follow it here, tells the place of the first least
abbrev pub AreFirst : {X : Type 0} → (X → List ℕ) → List (Entry X) → Type 0
AreFirst key [] = Unit {0}
AreFirst key (entry ∷ entries) = IsFirstLeast (reverse (keys_of key (entry ∷ entries))) entry.least × AreFirst key entries
