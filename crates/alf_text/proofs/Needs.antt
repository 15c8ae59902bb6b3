-- The room that programs need: as many functions, frames and bytes of frames as they have.
use Rattle.std.proofs.Common.{◌≡◌, ◌+◌, ◌-◌, ℕ, List, [], ◌∷◌, ◌++◌, length, Ok, refl, ap, sym, ◌∙◌, arith, length-append}
use Rattle.std.specs.List.{flat_map, sum_by}
use Rattle.std.proofs.lemmas.List.Sums.{sum_by-append, sum_by-cons}
use Rattle.grammar.specs.ExactLaws.{ok_is}
use Rattle.grammar.specs.Writing.{place, tokens}
use Rattle.grammar.specs.WritingLaws.{reads_spells}
use Rattle.alf_tokens.specs.Tokens.{Lexeme}
use Rattle.alf_tokens.specs.Printed.{Mark, token_before, tokens_before}
use Rattle.alf_tokens.specs.Laws.{EachPrintedTextIsCut}
use Rattle.alf_program.specs.Tree.{Allocation, Function, WholeProgram}
use Rattle.alf_program.specs.Writable.{most_functions, most_frames, most_bytes_of_frames, own_frames, frames_of, frame_bytes, IsWritable}
use Rattle.alf_text.specs.Canonical.{program_marks, canonical_text}
use Rattle.alf_reader.specs.Grammar.{Fault, Room, Place}
use Rattle.alf_text.specs.Grammar.{program}
use Rattle.alf_text.specs.Language.{start, SpellsProgram}
use Rattle.alf_text.proofs.Written.{printing, needs, all_need, program_writes}

-- ---- counts

abbrev pub bytes_of : List Allocation → ℕ
bytes_of fs = sum_by frame_bytes fs

-- so much more room than is left
pub record HasMore (full room : Room) (functions frames bytes : ℕ) : Type 0 where
  pub functions_due : full.functions ≡ functions + room.functions
  pub frames_due : full.frames ≡ frames + room.frames
  pub bytes_due : full.bytes ≡ bytes + room.bytes

frames_need : (fs : List Allocation) (room : Room) → HasMore (needs fs room) room 0 (length fs) (bytes_of fs)
frames_need [] room = record { functions_due = omega arith; frames_due = omega arith; bytes_due = omega arith }
frames_need (f ∷ fs) room =
    let h = frames_need fs room in
    record { functions_due = omega (arith, h.functions_due); frames_due = omega (arith, h.frames_due); bytes_due = omega (arith, h.bytes_due, sum_by-cons frame_bytes f fs) }

functions_need : (fs : List Function) (room : Room)
    → HasMore (all_need fs room) room (length fs) (length (flat_map own_frames fs)) (bytes_of (flat_map own_frames fs))
functions_need [] room = record { functions_due = omega arith; frames_due = omega arith; bytes_due = omega arith }
functions_need (f ∷ fs) room =
    let h = functions_need fs room in
    let d = frames_need f.decls (all_need fs room) in
    let a = frames_need f.args (needs f.decls (all_need fs room)) in
    let more = flat_map own_frames fs in
    record {
      functions_due = omega (arith, a.functions_due, d.functions_due, h.functions_due);
      frames_due = omega (arith, a.frames_due, d.frames_due, h.frames_due, length-append (f.args ++ f.decls) more, length-append f.args f.decls);
      bytes_due = omega (arith, a.bytes_due, d.bytes_due, h.bytes_due, sum_by-append frame_bytes (f.args ++ f.decls) more, sum_by-append frame_bytes f.args f.decls);
    }

-- the room that a whole program needs
abbrev pub whole_needs : WholeProgram → Room → Room
whole_needs whole room = needs whole.decls (all_need whole.funcs room)

pub whole_counted : (whole : WholeProgram) (room : Room)
    → HasMore (whole_needs whole room) room (length whole.funcs) (length (frames_of whole)) (bytes_of (frames_of whole))
whole_counted whole room =
    let h = functions_need whole.funcs room in
    let d = frames_need whole.decls (all_need whole.funcs room) in
    let more = flat_map own_frames whole.funcs in
    record {
      functions_due = omega (arith, d.functions_due, h.functions_due);
      frames_due = omega (arith, d.frames_due, h.frames_due, length-append whole.decls more);
      bytes_due = omega (arith, d.bytes_due, h.bytes_due, sum_by-append frame_bytes whole.decls more);
    }

-- the room that there is at first
abbrev pub full : Room
full = record { functions = most_functions; frames = most_frames; bytes = most_bytes_of_frames }

same_room : (a b : Room) → a.functions ≡ b.functions → a.frames ≡ b.frames → a.bytes ≡ b.bytes → a ≡ b
same_room a b e f g = rw (← e, ← f, ← g) refl

-- where nothing is read yet, a writable program has its room
room_left : WholeProgram → Room
room_left whole = record { functions = most_functions - length whole.funcs; frames = most_frames - length (frames_of whole); bytes = most_bytes_of_frames - bytes_of (frames_of whole) }

all_room : (whole : WholeProgram) → IsWritable whole → whole_needs whole (room_left whole) ≡ full
unfolding room_left
all_room whole w =
    let h = whole_counted whole (room_left whole) in
    same_room (whole_needs whole (room_left whole)) full (omega (arith, h.functions_due, w.few_functions)) (omega (arith, h.frames_due, w.few_frames)) (omega (arith, h.bytes_due, w.few_bytes))

-- ---- the canonical text

printed_tokens : (marks : List Mark) → tokens_before [] marks ≡ tokens printing [] marks
printed_tokens [] = refl
printed_tokens (m ∷ ms) = ap (λ (ts : List Lexeme). token_before ts m ∷ ts) (printed_tokens ms)

module _ (cut : EachPrintedTextIsCut) (whole : WholeProgram) (w : IsWritable whole) where
  canonical_read : program.form.reading (start (canonical_text whole)) ≡ Ok (whole, place [] (room_left whole))
  canonical_read =
      let writes = program_writes whole w (room_left whole) in
      rw (cut (program_marks whole) writes.prints, printed_tokens (program_marks whole), ← all_room whole w) (writes.reads [] refl)

  -- it spells the program
  pub writable_spelled : SpellsProgram (canonical_text whole) whole
  writable_spelled = (place [] (room_left whole), reads_spells program (start (canonical_text whole)) whole (place [] (room_left whole)) canonical_read)

  -- and nothing else
  pub spelled_alone : (other : WholeProgram) → SpellsProgram (canonical_text whole) other → other ≡ whole
  spelled_alone other h =
      let read = program.exact.alone (start (canonical_text whole)) (Ok (other, h.0)) h.1 in
      ap (λ (r : WholeProgram × Place). r.0) (ok_is {F = Fault} (other, h.0) (whole, place [] (room_left whole)) (sym read ∙ canonical_read))
