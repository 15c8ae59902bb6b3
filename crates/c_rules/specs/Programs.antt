-- What the checks answer of a unit, and what every program keeps.
--   Refusal                what is told: the name that is unknown or stands twice, the place of what is wrong, the functions of a cycle, or the root
--   refusal_of unit fault  what is told of a fault of the text
--   HasRoot unit root      a function of this name is defined
--   Refuses unit root r    the checks refuse the unit so: the first fault of the text; where it has none the first cycle; where there is none the root
--   IsProgram unit root ranks   the checks pass, and each call leads from a higher rank to a lower one
use Rattle.std.specs.Prelude.{◌≡◌, ℕ, List, [], Option, Some, None, slice_get, Bool, true, false}
use Rattle.std.specs.Option.{option_map_or}
use Rattle.std.specs.List.{list_any}
use Rattle.std.specs.Str.{bytes_eq}
use Rattle.flow_base.specs.declared.place.Place.{Place}
use Rattle.graph_walks.specs.Calls.{IsFirstCycle, OnCycle, IsRanked}
use Rattle.c_unit.specs.Units.{Word, UnitTree}
use Rattle.c_rules.specs.Faults.{Fault, Unknown, Duplicate, Mistyped, earliest}
use Rattle.c_rules.specs.Names.{text_at}
use Rattle.c_rules.specs.Units.{definitions, faults_in}
use Rattle.c_rules.specs.Recursion.{calls_of, names_of}

pub data Refusal : Type 0 where
  UnknownName : List ℕ → Refusal
  DuplicateName : List ℕ → Refusal
  MistypedAt : Place → Refusal
  Recursion : List (List ℕ) → Refusal
  NoRoot : List ℕ → Refusal

-- the place of a token; past the last token there is none
abbrev pub place_at : List Word → ℕ → Place
place_at words token = option_map_or (λ word. word.place) (slice_get words token) (record { offset = 0; line = 1; column = 1 })

abbrev pub refusal_of : UnitTree → Fault → Refusal
refusal_of unit (Unknown token) = UnknownName (text_at unit.words token)
refusal_of unit (Duplicate token) = DuplicateName (text_at unit.words token)
refusal_of unit (Mistyped token) = MistypedAt (place_at unit.words token)

-- what is told of the first fault of the text, if it has one
abbrev pub told : UnitTree → Option Fault → Option Refusal
told unit None = None
told unit (Some fault) = Some (refusal_of unit fault)

abbrev pub first_refusal : UnitTree → Option Refusal
first_refusal unit = told unit (earliest (faults_in unit))

abbrev pub has_root : UnitTree → List ℕ → Bool
has_root unit root = list_any (λ name. bytes_eq (text_at unit.words name) root) (definitions unit.externals)

-- no function of the unit is on a cycle of calls
abbrev pub HasNoCycle : UnitTree → Type 0
HasNoCycle unit = (f : ℕ) → OnCycle (calls_of unit) f → ⊥

pub data Refuses (unit : UnitTree) (root : List ℕ) : Refusal → Type 0 where
  by_text : {r : Refusal} → first_refusal unit ≡ Some r → Refuses unit root r
  by_cycle : {path : List ℕ} → faults_in unit ≡ [] → IsFirstCycle (calls_of unit) path
      → Refuses unit root (Recursion (names_of unit path))
  by_root : faults_in unit ≡ [] → HasNoCycle unit → has_root unit root ≡ false → Refuses unit root (NoRoot root)

-- the checks pass
pub record IsProgram (unit : UnitTree) (root : List ℕ) (ranks : List ℕ) : Type 0 where
  pub no_faults : faults_in unit ≡ []
  pub ranked : IsRanked (calls_of unit) ranks
  pub rooted : has_root unit root ≡ true
