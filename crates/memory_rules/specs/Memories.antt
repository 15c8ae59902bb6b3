-- The abstract memory of all frames, and when it covers a history or is sharp for it.
--   Mem                      which functions are entered, and the frames by number
--   stored m cells size set  after a store to one of these cells: strong where there is one, else weak at each in order
--   fresh, pinned_at         before each event, and after a cell is pinned
--   entered, left, both      after an Enter, after a Leave, and two memories joined
--   load_all m cells size    the results of a load of these cells, in order
--   joined_values, faults_of the value of a load with these results, joined from the left, and its faults
use Rattle.std.specs.Prelude.{◌≡◌, ℕ, Bool, true, false, List, [], ◌∷◌, ◌++◌, Option, Some, None, Result, Ok, Err, ◌==◌, if◌then◌else◌, slice_get, IsSomeAnd, Contains}
use Rattle.alf_ops.specs.declared.history.Value.{Value}
use Rattle.alf_ops.specs.declared.history.RunFault.{RunFault}
use Rattle.alf_ops.specs.declared.history.FrameShape.{FrameShape}
use Rattle.alf_ops.specs.declared.history.RunEvent.{RunEvent}
use Rattle.alf_ops.specs.Histories.{origin, is_active, is_owner, fits_in}
use Rattle.memory_rules.specs.ValueSets.{ValueSets, OnlyCovers}
use Rattle.memory_rules.specs.Frames.{FrameMem, strong, weak, empty, joined, pinned, either, load_results}
use Rattle.memory_rules.specs.Covers.{FrameCovers, FrameSized}
use Rattle.memory_rules.specs.Sharp.{FrameSharp}

pub record Mem (d : ValueSets) : Type 0 where
  pub runs : ℕ → Bool
  pub frames : ℕ → FrameMem d

-- the frame of this owner is active
abbrev pub is_on : (ℕ → Bool) → Option ℕ → Bool
is_on runs None = true
is_on runs (Some function) = runs function

-- the frame of this row is of the function
abbrev pub owns : Option FrameShape → ℕ → Bool
owns None function = false
owns (Some row) function = is_owner row.owner function

module _ (d : ValueSets) where
  -- no function runs, and no cell is kept
  abbrev pub fresh : Mem d
  fresh = record { runs = λ function. false; frames = λ frame. empty d }

  -- one frame changed
  abbrev pub with_frame : Mem d → ℕ → FrameMem d → Mem d
  with_frame m frame changed = record { runs = m.runs; frames = λ f. if f == frame then changed else m.frames f }

  abbrev pub strong_at : Mem d → ℕ × ℕ → ℕ → d.Val → Mem d
  strong_at m cell size set = with_frame m cell.0 (strong d (m.frames cell.0) cell.1 size set)

  abbrev pub weak_at : Mem d → ℕ × ℕ → ℕ → d.Val → Mem d
  weak_at m cell size set = with_frame m cell.0 (weak d (m.frames cell.0) cell.1 size set)

  -- after a cell is pinned to a value
  abbrev pub pinned_at : Mem d → ℕ × ℕ → ℕ → d.Val → Mem d
  pinned_at m cell size set = with_frame m cell.0 (pinned d (m.frames cell.0) cell.1 size set)

  abbrev pub weak_all : Mem d → List (ℕ × ℕ) → ℕ → d.Val → Mem d
  weak_all m [] size set = m
  weak_all m (cell ∷ cells) size set = weak_all (weak_at m cell size set) cells size set

  -- after a store to one of these cells
  abbrev pub stored : Mem d → List (ℕ × ℕ) → ℕ → d.Val → Mem d
  stored m [] size set = m
  stored m (cell ∷ []) size set = strong_at m cell size set
  stored m (cell ∷ other ∷ cells) size set = weak_all m (cell ∷ other ∷ cells) size set

  -- the results of a load of one of these cells, in order
  abbrev pub load_all : Mem d → List (ℕ × ℕ) → ℕ → List (Result d.Val RunFault)
  load_all m [] size = []
  load_all m (cell ∷ cells) size = load_results d (m.frames cell.0) cell.1 size ++ load_all m cells size

  -- the value of a load with these results, joined from the left
  abbrev pub joined_values : Option d.Val → List (Result d.Val RunFault) → Option d.Val
  joined_values before [] = before
  joined_values before (Ok set ∷ results) = joined_values (either d.join before (Some set)) results
  joined_values before (Err fault ∷ results) = joined_values before results

  -- the faults of a load with these results
  abbrev pub faults_of : List (Result d.Val RunFault) → List RunFault
  faults_of [] = []
  faults_of (Ok set ∷ results) = faults_of results
  faults_of (Err fault ∷ results) = fault ∷ faults_of results

  -- the value of a load covers the run's value, or the run's fault is among the faults
  abbrev pub Gathers : Option d.Val → List RunFault → Result Value RunFault → Type 0
  Gathers value faults (Ok own) = IsSomeAnd value (λ set. d.covers set own)
  Gathers value faults (Err fault) = Contains faults fault

  -- exactly the run's value and no fault, or exactly the run's fault and no value
  abbrev pub GathersOnly : Option d.Val → List RunFault → Result Value RunFault → Type 0
  GathersOnly value faults (Ok own) = IsSomeAnd value (λ set. OnlyCovers d set own) × (faults ≡ [])
  GathersOnly value faults (Err fault) = (value ≡ None) × Contains faults fault × ((other : RunFault) → Contains faults other → other ≡ fault)

  -- the table says which function owns a frame
  abbrev pub owner_at : List FrameShape → ℕ → ℕ → Bool
  owner_at rows function frame = owns (slice_get rows frame) function

  abbrev pub entered : List FrameShape → Mem d → ℕ → Mem d
  entered rows m function = record {
    runs = λ g. if g == function then true else m.runs g;
    frames = λ f. if owner_at rows function f then empty d else m.frames f;
  }

  abbrev pub left : Mem d → ℕ → Mem d
  left m function = record { runs = λ g. if g == function then false else m.runs g; frames = m.frames }

  abbrev pub both : Mem d → Mem d → Mem d
  both a b = record { runs = a.runs; frames = λ f. joined d (a.frames f) (b.frames f) }

  -- the same frames are active, and each active frame covers what its bytes come from
  pub record MemCovers (rows : List FrameShape) (m : Mem d) (history : List RunEvent) : Type 0 where
    pub active : (owner : Option ℕ) → is_active owner history ≡ is_on m.runs owner
    pub frames : (frame : ℕ) (row : FrameShape) → slice_get rows frame ≡ Some row → is_active row.owner history ≡ true
        → FrameCovers d row.bits (m.frames frame) (origin row.owner frame history)

  pub record MemSharp (rows : List FrameShape) (m : Mem d) (history : List RunEvent) : Type 0 where
    pub active : (owner : Option ℕ) → is_active owner history ≡ is_on m.runs owner
    pub frames : (frame : ℕ) (row : FrameShape) → slice_get rows frame ≡ Some row → is_active row.owner history ≡ true
        → FrameSharp d row.bits (m.frames frame) (origin row.owner frame history)

-- the values of each frame have their sizes
abbrev pub MemSized : (d : ValueSets) → Mem d → Type 0
MemSized d m = (frame : ℕ) → FrameSized d (m.frames frame)

-- a cell of an active frame
pub record IsPlaced (rows : List FrameShape) (history : List RunEvent) (frame offset size : ℕ) : Type 0 where
  pub row : FrameShape
  pub found : slice_get rows frame ≡ Some row
  pub runs : is_active row.owner history ≡ true
  pub fits : fits_in row.bits offset size ≡ true
