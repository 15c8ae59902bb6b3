-- A file of entries is refused for one fault, and not where all entries are right.
--   IsFair judging   no entry is right and wrong, and an entry has one fault
--   right_or_wrong   an entry is not both
--   one_wrong        an entry has one fault
--   one_document     bytes are one document
--   one_refusal      a file is refused for one fault
--   right_or_refused a file whose entries are right is not refused
use Rattle.std.proofs.Common.{◌≡◌, ◌<◌, ◌≤◌, ⊎_elim, ℕ, List, Option, slice_get, take, refl, ap, sym, ◌∙◌, subst, arith}
use Rattle.std.proofs.lemmas.Option.{same_Some, none-some}
use Rattle.toml.specs.Data.{Data, Members}
use Rattle.cost_table.specs.declared.fault.TableFault.{TableFault}
use Rattle.cost_table.specs.declared.fault.TableFault.TheVariants as faults
use Rattle.cost_table.specs.Documents.{IsDocument}
use Rattle.cost_table.specs.Entries.{AllRight, IsFirstFault, Judging, IsRightEntry, IsOutOfRange, NamesNothing, IsWrongEntry}
use Rattle.cost_table.specs.Files.{HasEntries, HasWrongTop, Refuses, NoDocument, WrongTop, WrongEntry}
use Rattle.cost_table.proofs.Orders.{below_or_not}

-- no entry is right and wrong, and an entry has one fault
pub record IsFair (judging : Judging) : Type 0 where
  pub apart : (before : List Data) (k : ℕ) (datum : Data) (fault : TableFault) → judging.Right before k datum
      → judging.Wrong before k datum fault → ⊥
  pub one : (before : List Data) (k : ℕ) (datum : Data) (f g : TableFault) → judging.Wrong before k datum f
      → judging.Wrong before k datum g → f ≡ g

-- ---- one entry

-- no entry is right and wrong
pub right_or_wrong : {E : Type 0} (told : Data → Option E) (InRange IsThere : E → Type 0) (k : ℕ) (datum : Data) (fault : TableFault) → IsRightEntry told InRange IsThere datum → IsWrongEntry told InRange IsThere k datum fault → ⊥
right_or_wrong told InRange IsThere k datum (faults.Key place) right wrong = none-some right.entry (sym wrong.1 ∙ right.has_keys)
right_or_wrong told InRange IsThere k datum (faults.Range place) right wrong = wrong.1.out (subst InRange (same_Some right.entry wrong.1.entry (sym right.has_keys ∙ wrong.1.has_keys)) right.in_range)
right_or_wrong told InRange IsThere k datum (faults.NoSuchCell place) right wrong = wrong.1.lacks (subst IsThere (same_Some right.entry wrong.1.entry (sym right.has_keys ∙ wrong.1.has_keys)) right.there)
right_or_wrong told InRange IsThere k datum faults.Toml right wrong = wrong
right_or_wrong told InRange IsThere k datum (faults.Limit which count) right wrong = wrong
right_or_wrong told InRange IsThere k datum faults.Memory right wrong = wrong

-- what is out of range is not in range
out_or_not : {E : Type 0} (told : Data → Option E) (InRange IsThere : E → Type 0) (datum : Data)
    → IsOutOfRange told InRange datum → NamesNothing told InRange IsThere datum → ⊥
out_or_not told InRange IsThere datum a b = a.out (subst InRange (same_Some b.entry a.entry (sym b.has_keys ∙ a.has_keys)) b.in_range)

-- an entry has one fault
pub one_wrong : {E : Type 0} (told : Data → Option E) (InRange IsThere : E → Type 0) (k : ℕ) (datum : Data) (f g : TableFault) → IsWrongEntry told InRange IsThere k datum f → IsWrongEntry told InRange IsThere k datum g → f ≡ g
one_wrong told InRange IsThere k datum (faults.Key p) (faults.Key q) a b = ap faults.Key (a.0 ∙ sym b.0)
one_wrong told InRange IsThere k datum (faults.Key p) (faults.Range q) a b = absurd (none-some b.1.entry (sym a.1 ∙ b.1.has_keys))
one_wrong told InRange IsThere k datum (faults.Key p) (faults.NoSuchCell q) a b = absurd (none-some b.1.entry (sym a.1 ∙ b.1.has_keys))
one_wrong told InRange IsThere k datum (faults.Range p) (faults.Key q) a b = absurd (none-some a.1.entry (sym b.1 ∙ a.1.has_keys))
one_wrong told InRange IsThere k datum (faults.Range p) (faults.Range q) a b = ap faults.Range (a.0 ∙ sym b.0)
one_wrong told InRange IsThere k datum (faults.Range p) (faults.NoSuchCell q) a b = absurd (out_or_not told InRange IsThere datum a.1 b.1)
one_wrong told InRange IsThere k datum (faults.NoSuchCell p) (faults.Key q) a b = absurd (none-some a.1.entry (sym b.1 ∙ a.1.has_keys))
one_wrong told InRange IsThere k datum (faults.NoSuchCell p) (faults.Range q) a b = absurd (out_or_not told InRange IsThere datum b.1 a.1)
one_wrong told InRange IsThere k datum (faults.NoSuchCell p) (faults.NoSuchCell q) a b = ap faults.NoSuchCell (a.0 ∙ sym b.0)
one_wrong told InRange IsThere k datum faults.Toml g a b = absurd a
one_wrong told InRange IsThere k datum (faults.Limit which count) g a b = absurd a
one_wrong told InRange IsThere k datum faults.Memory g a b = absurd a
one_wrong told InRange IsThere k datum f faults.Toml a b = absurd b
one_wrong told InRange IsThere k datum f (faults.Limit which count) a b = absurd b
one_wrong told InRange IsThere k datum f faults.Memory a b = absurd b

-- ---- files

-- bytes are one document
pub one_document : (bytes : List ℕ) (ms ns : Members) → IsDocument bytes ms → IsDocument bytes ns → ms ≡ ns
one_document bytes ms ns m n = same_Some ms ns (sym m.parsed ∙ n.parsed)

-- with one list of entries
pub one_list : (bytes : List ℕ) (top : Members → Option (List Data)) (ds es : List Data) → HasEntries bytes top ds
    → HasEntries bytes top es → ds ≡ es
one_list bytes top ds es d e = same_Some ds es (sym d.told ∙ ap top (one_document bytes d.members e.members d.document e.document) ∙ e.told)

-- or none
pub told_or_not : (bytes : List ℕ) (top : Members → Option (List Data)) (es : List Data) → HasWrongTop bytes top
    → HasEntries bytes top es → ⊥
told_or_not bytes top es h e = none-some es (sym h.untold ∙ ap top (one_document bytes h.members e.members h.document e.document) ∙ e.told)

-- where all are right, there is no first fault
none_wrong : (judging : Judging) (entries : List Data) (fault : TableFault) → IsFair judging → AllRight judging entries
    → IsFirstFault judging entries fault → ⊥
none_wrong judging entries fault fair right first = fair.apart (take first.place entries) first.place first.datum fault (right first.place first.datum first.stands) first.wrong

-- no fault comes before the first
not_before : (judging : Judging) (entries : List Data) (f g : TableFault) → IsFair judging
    → (a : IsFirstFault judging entries f) → (b : IsFirstFault judging entries g) → a.place < b.place → ⊥
not_before judging entries f g fair a b low = fair.apart (take a.place entries) a.place a.datum f (b.before a.place a.datum low a.stands) a.wrong

-- the first is one
one_first : (judging : Judging) (entries : List Data) (f g : TableFault) → IsFair judging
    → IsFirstFault judging entries f → IsFirstFault judging entries g → f ≡ g
one_first judging entries f g fair a b = ⊎_elim
    (λ (low : a.place < b.place). absurd (not_before judging entries f g fair a b low))
    (λ (high : b.place ≤ a.place). ⊎_elim
    (λ (low : b.place < a.place). absurd (not_before judging entries g f fair b a low))
    (λ (same : a.place ≤ b.place).
    let place : b.place ≡ a.place = omega arith in
    let datum : b.datum ≡ a.datum = same_Some b.datum a.datum (sym b.stands ∙ ap (slice_get entries) place ∙ a.stands) in
    fair.one (take a.place entries) a.place a.datum f g a.wrong
    (subst (λ d. judging.Wrong (take a.place entries) a.place d g) datum (subst (λ k. judging.Wrong (take k entries) k b.datum g) place b.wrong)))
    (below_or_not b.place a.place))
    (below_or_not a.place b.place)

-- a file is refused for one fault
pub one_refusal : (bytes : List ℕ) (top : Members → Option (List Data)) (judging : Judging) (f g : TableFault)
    → IsFair judging → Refuses bytes top judging f → Refuses bytes top judging g → f ≡ g
one_refusal bytes top judging f g fair (NoDocument n) (NoDocument m) = refl
one_refusal bytes top judging f g fair (NoDocument n) (WrongTop h) = absurd (n h.members h.document)
one_refusal bytes top judging f g fair (NoDocument n) (WrongEntry other e) = absurd (n e.told.members e.told.document)
one_refusal bytes top judging f g fair (WrongTop h) (NoDocument n) = absurd (n h.members h.document)
one_refusal bytes top judging f g fair (WrongTop h) (WrongTop k) = refl
one_refusal bytes top judging f g fair (WrongTop h) (WrongEntry other e) = absurd (told_or_not bytes top e.entries h e.told)
one_refusal bytes top judging f g fair (WrongEntry one d) (NoDocument n) = absurd (n d.told.members d.told.document)
one_refusal bytes top judging f g fair (WrongEntry one d) (WrongTop h) = absurd (told_or_not bytes top d.entries h d.told)
one_refusal bytes top judging f g fair (WrongEntry one d) (WrongEntry other e) = one_first judging e.entries one other fair (subst (λ entries. IsFirstFault judging entries one) (one_list bytes top d.entries e.entries d.told e.told) d.first) e.first

-- a file whose entries are right is not refused
pub right_or_refused : (bytes : List ℕ) (top : Members → Option (List Data)) (judging : Judging) (entries : List Data) (fault : TableFault) → IsFair judging → HasEntries bytes top entries → AllRight judging entries → Refuses bytes top judging fault → ⊥
right_or_refused bytes top judging entries fault fair told right (NoDocument n) = n told.members told.document
right_or_refused bytes top judging entries fault fair told right (WrongTop h) = told_or_not bytes top entries h told
right_or_refused bytes top judging entries fault fair told right (WrongEntry one e) = none_wrong judging entries one fair right (subst (λ es. IsFirstFault judging es one) (one_list bytes top e.entries entries e.told told) e.first)
