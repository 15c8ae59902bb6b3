-- On the way to the laws of point.
use Rattle.transfer_rules.specs.PointLaws.{Promises, RunIsRun, point_run}

-- ---- runs

pub run_is_run : Promises → RunIsRun
run_is_run promises program graph rows moment keeps is from = point_run promises program graph keeps is rows moment from
