-- Laws of loads and of operators, together.
use Rattle.alf_ops.specs.HistoryLaws.{LoadFits}
use Rattle.lowering_values.specs.EmbeddingLaws.{LoadsAgree}
use Rattle.lowering_values.specs.OperatorLaws.{OperatorsGive, ComparisonsGive, TestsGive, UnariesGive, ExtendsGive, CutsGive, CastsGive, ElementsGive, OperatorsFit, UnariesFit, ExtendsFit, CastsFit, ElementsFit}
use Rattle.lowering_values.proofs.Fitting.{Sizes}
use Rattle.lowering_values.proofs.Agreeing.{Operators}

pub sizes : LoadFits → OperatorsFit → UnariesFit → ExtendsFit → CastsFit → ElementsFit → Sizes
sizes loads operators unaries extends casts elements =
    record { loads = loads; operators = operators; unaries = unaries; extends = extends; casts = casts; elements = elements }

pub operators : LoadsAgree → OperatorsGive → ComparisonsGive → TestsGive → UnariesGive → ExtendsGive → CutsGive
    → CastsGive → ElementsGive → Operators
operators loads binary comparisons tests unary extends cuts casts elements =
    record { loads = loads; binary = binary; comparisons = comparisons; tests = tests; unary = unary; extends = extends; cuts = cuts; casts = casts; elements = elements }
