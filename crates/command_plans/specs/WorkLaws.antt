-- Laws of work.
use Rattle.std.proofs.Common.{ℕ, List}
use Rattle.flow_base.specs.Outside.{Files}
use Rattle.command_plans.specs.Outcome.{Finished, Stopped}
use Rattle.command_plans.specs.Work.{Work, HasOneEnding, EndsByReadings}

-- ---- answers

pub ends_one : (w : Work (List ℕ)) (files : Files) → HasOneEnding w files
ends_one w files p q (Finished a) (Finished b) m n r s g h = w.one.gives files p q a b m n g h
ends_one w files p q (Finished a) (Stopped y) m n r s g h = absurd (w.one.apart files p q a y m n s g h)
ends_one w files p q (Stopped x) (Finished b) m n r s g h = absurd (w.one.apart files q p b x n m r h g)
ends_one w files p q (Stopped x) (Stopped y) m n r s g h = w.one.stops files p q x y m n r s g h

pub ends_by_readings : (w : Work (List ℕ)) → EndsByReadings w
ends_by_readings w told before (Finished text) after of ends = w.alone.gives told before text after ends
ends_by_readings w told before (Stopped outcome) after of ends = w.alone.stops told before outcome after of ends
