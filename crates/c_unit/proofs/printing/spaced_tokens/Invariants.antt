use Rattle.std.proofs.Common.{◌≡◌, ◌++◌, length}
use Rattle.std.specs.List.{flat_map}
use Rattle.c_tokens.specs.Printed.{spaced}
use Rattle.c_unit.specs.declared.tokens.Span.{Span}
use Rattle.c_unit.specs.Texts.{span_text}
use Rattle.c_unit.proofs.printing.spaced_tokens.Given as goal

abbrev pub invariant-loop-span : goal.invariant-loop-span
invariant-loop-span l =
    l.out.items ++ flat_map (λ (s : Span). spaced (span_text l.text s)) l.rest ≡ l.fn.out.items ++ flat_map (λ (s : Span). spaced (span_text l.text s)) l.spans

abbrev pub decreases-loop-span : goal.decreases-loop-span
decreases-loop-span l = length l.rest
