-- The attempt goes through the whole word; for the empty word the first set tells, which is the last.
use mathlib.Core.Path.{sym, subst, ◌∙◌}
use native.Mathlib.Omega.{arith}
use Rattle.model.specs.declared.Group.{Group}
use Rattle.table.proofs.Layouts.{table_modest}
use Rattle.attempts.specs.Attempts.{Attempted}
use Rattle.start.specs.Search.{whole_word}
use Rattle.start.proofs.Deciding.{attempt_ready, empty_found, empty_nothing}
use Rattle.start.proofs.attempt_start.Goals as goal

pub is_accepted-requires : goal.is_accepted-requires
is_accepted-requires c = omega (arith, c.requires.room)

pub returns-then-is_accepted : goal.returns-then-is_accepted
returns-then-is_accepted c =
    empty_found c.requires c.if-table-eq0.true (sym c.is_accepted.ensures ∙ c.if-is_accepted.true)

pub returns-then-table-eq0 : goal.returns-then-table-eq0
returns-then-table-eq0 c =
    empty_nothing c.requires c.if-table-eq0.true (sym c.is_accepted.ensures ∙ c.if-is_accepted.false)

pub overflow_mul-span : goal.overflow_mul-span
overflow_mul-span c = let few = (table_modest c.args.table.now.bytes.now c.args.table.now.counts c.requires.scoped.some.1.holds).pile in omega arith

pub attempt-requires : goal.attempt-requires
attempt-requires c =
    attempt_ready c.requires (let ne = c.if-table-eq0.false in omega arith) c.start_group-g.ensures

pub returns : goal.returns
returns c =
    let a = c.args in
    subst (λ (g : Group). Attempted a.table.now.bytes.now a.table.now.counts a.log.now a.c (whole_word a.table.now.counts) g a.scratch.now c.attempt.new.scratch c.attempt.result) c.start_group-g.ensures c.attempt.ensures
