-- The steps so far are laid (Laying), and the minutes on the way are within 64 bits.
use Rattle.plan_model.specs.Hours.{week_of}
use Rattle.table.specs.Reading.{system_in}
use Rattle.plans.proofs.Laying.{Laying}
use Rattle.plans.proofs.lay.Given as goal

abbrev pub invariant-loop-k : goal.invariant-loop-k
invariant-loop-k l = Laying (week_of l.openings.hours l.openings.counts) (system_in l.table.bytes.now) l.lengths l.run l.start l.initial.begins l.begins l.ends l.k
