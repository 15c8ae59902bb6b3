-- What `generate` tells of a report that has its certificate.
--   turns_of report        how many steps the exploration has, by the events of the certificate
--   path_of report         the number of the path bound
--   summary_text report    how many nodes, scopes and turns there are, and both bounds, a line for each
use Rattle.std.specs.Prelude.{ℕ, Bool, true, false, List, [], ◌∷◌, ◌++◌, length, filter, codes, decimal}
use Rattle.std.specs.Option.{option_map_or}
use Rattle.domain_core.specs.declared.event.Event.{Event}
use Rattle.domain_core.specs.declared.event.Event.TheVariants.{Step, Merge}
use Rattle.flow_facts.specs.declared.report.BoundWord.{BoundWord}
use Rattle.flow_facts.specs.Reports.{Certificate, Reported}

-- the event is a step
abbrev pub is_step : Event → Bool
is_step (Step place) = true
is_step (Merge first second) = false

-- how many steps there are among the events
abbrev pub steps_among : List Event → ℕ
steps_among events = length (filter is_step events)

-- how many steps the exploration has
abbrev pub turns_of : Reported → ℕ
turns_of report = option_map_or (λ (cert : Certificate). steps_among cert.events) report.cert 0

-- the number of the path bound
abbrev pub path_of : Reported → ℕ
path_of report = option_map_or (λ (bound : ℕ × BoundWord). bound.0) report.path_bound 0

-- a word, and its number
abbrev pub number_line : List ℕ → ℕ → List ℕ
number_line word n = word ++ (32 ∷ (decimal n ++ 10 ∷ []))

-- `nodes`, `scopes` and `turns`
abbrev pub sizes_text : Reported → List ℕ
sizes_text report = number_line (codes "nodes") (length report.nodes)
    ++ (number_line (codes "scopes") (length report.scopes) ++ number_line (codes "turns") (turns_of report))

-- `count-bound` and `path-bound`
abbrev pub bounds_text : Reported → List ℕ
bounds_text report =
    number_line (codes "count-bound") report.count_bound ++ number_line (codes "path-bound") (path_of report)

-- a line for each
abbrev pub summary_text : Reported → List ℕ
summary_text report = sizes_text report ++ bounds_text report
