-- The slots of a frame, page by page.
--   held slots           shared slots, as slots
--   slots_on page        the slots of a page
--   pages_of pages       those of each page
--   page_at lists n      the page of this number, or none
--   joined lists         the lists in their order, as one
--   ArePages w lists     each has w members, but the last, which has at most w
--   IsUntouched b slots  if the flag b is set, all slots are the same
use Rattle.std.specs.Prelude.{◌≡◌, ◌≤◌, ℕ, Bool, true, false, List, [], ◌∷◌, ◌++◌, length, map, replicate, Option, Some, None, slice_get}
use Rattle.std.specs.declared.rc.Rc.{Rc}
use Rattle.memory_pages.specs.Slots.{HeldSlot}

-- shared slots, as slots
abbrev pub held : {Z : Type 0} → List (Rc HeldSlot Z) → List HeldSlot
held slots = map (λ slot. slot.value) slots

-- the slots of a page
abbrev pub slots_on : {Z : Type 0} → Rc (List HeldSlot) Z → List HeldSlot
slots_on page = page.value

-- those of each page
abbrev pub pages_of : {Z : Type 0} → List (Rc (List HeldSlot) Z) → List (List HeldSlot)
pages_of pages = map slots_on pages

abbrev pub list_or : {A : Type 0} → Option (List A) → List A
list_or None = []
list_or (Some xs) = xs

-- the page of this number, or none
abbrev pub page_at : {A : Type 0} → List (List A) → ℕ → List A
page_at lists n = list_or (slice_get lists n)

-- the lists in their order, as one
abbrev pub joined : {A : Type 0} → List (List A) → List A
joined [] = []
joined (xs ∷ lists) = xs ++ joined lists

-- each has w members, but the last, which has at most w
abbrev pub ArePages : {A : Type 0} → ℕ → List (List A) → Type 0
ArePages w [] = Unit {0}
ArePages w (xs ∷ []) = length xs ≤ w
ArePages w (xs ∷ ys ∷ lists) = (length xs ≡ w) × ArePages w (ys ∷ lists)

-- if the flag is set, all slots are the same
abbrev pub IsUntouched : Bool → List HeldSlot → Type 0
IsUntouched false slots = Unit {0}
IsUntouched true slots = (slot : HeldSlot) × (slots ≡ replicate (length slots) slot)
