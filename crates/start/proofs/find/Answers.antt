-- The last set is filled; where there is a path, its steps are those of the records on the stack.
use mathlib.Core.Path.{◌≡◌, subst, ◌∙◌}
use mathlib.Core.Bool.{Bool, true, false}
use Prim.Native.Nat.{ℕ, ◌≤◌}
use native.Mathlib.Omega.{arith}
use Rattle.logs.specs.RoundLogs.{EachRound}
use Rattle.table.proofs.Layouts.{table_modest}
use Rattle.restsets.proofs.LastStates.{last_are, states_small}
use Rattle.start.specs.Search.{PathIf}
use Rattle.start.proofs.Deciding.{begun_start, stack_records, sought_path, sought_none}
use Rattle.start.proofs.find.Goals as goal

pub overflow_mul-table : goal.overflow_mul-table
overflow_mul-table c =
    let few : c.args.table.now.counts.pile ≤ 64 = (table_modest c.args.table.now.bytes.now c.args.table.now.counts c.requires.0.1.holds).pile in
    omega (arith, few)

pub fill_accepting-requires : goal.fill_accepting-requires
fill_accepting-requires c =
    let few : c.args.table.now.counts.pile ≤ 64 = (table_modest c.args.table.now.bytes.now c.args.table.now.counts c.requires.0.1.holds).pile in
    let p = c.requires in
    (c.copying_of-copying.ensures, omega (arith, p.2, few))

pub last_states-requires : goal.last_states-requires
last_states-requires c =
    let a = c.args in
    states_small a.table.now.bytes.now a.table.now.counts c.requires.0.1.holds c.copying_of-copying.result c.copying_of-copying.ensures

pub has_path-requires : goal.has_path-requires
has_path-requires c =
    let a = c.args in
    let p = c.requires in
    (begun_start p c.fill_accepting.ensures, c.last_states.ensures ∙ last_are a.table.now.bytes.now a.table.now.counts p.0.1.holds c.copying_of-copying.result c.copying_of-copying.ensures)

pub path_steps-requires : goal.path_steps-requires
path_steps-requires c =
    let few : c.args.table.now.counts.pile ≤ 64 = (table_modest c.args.table.now.bytes.now c.args.table.now.counts c.requires.0.1.holds).pile in
    let pathed : (b : Bool) → c.has_path.result ≡ b → EachRound c.args.table.now.bytes.now c.args.table.now.counts c.args.log.now c.args.count (λ (round : ℕ). PathIf c.args.table.now.bytes.now c.args.table.now.counts round c.has_path.new.scratch b) = λ b e round lent. subst (PathIf c.args.table.now.bytes.now c.args.table.now.counts round c.has_path.new.scratch) e (c.has_path.ensures round lent) in
    let lent = c.requires.0.1 in
    (omega (arith, c.has_path.auto.scratch, c.fill_accepting.ensures.0.size, c.requires.2, few), stack_records lent (pathed true c.if-has_path.true _ lent))

pub returns-then-has_path : goal.returns-then-has_path
returns-then-has_path c =
    let pathed : (b : Bool) → c.has_path.result ≡ b → EachRound c.args.table.now.bytes.now c.args.table.now.counts c.args.log.now c.args.count (λ (round : ℕ). PathIf c.args.table.now.bytes.now c.args.table.now.counts round c.has_path.new.scratch b) = λ b e round lent. subst (PathIf c.args.table.now.bytes.now c.args.table.now.counts round c.has_path.new.scratch) e (c.has_path.ensures round lent) in
    λ round lent. sought_path lent (pathed true c.if-has_path.true round lent) c.path_steps.ensures

pub returns : goal.returns
returns c =
    let pathed : (b : Bool) → c.has_path.result ≡ b → EachRound c.args.table.now.bytes.now c.args.table.now.counts c.args.log.now c.args.count (λ (round : ℕ). PathIf c.args.table.now.bytes.now c.args.table.now.counts round c.has_path.new.scratch b) = λ b e round lent. subst (PathIf c.args.table.now.bytes.now c.args.table.now.counts round c.has_path.new.scratch) e (c.has_path.ensures round lent) in
    λ round lent. sought_none (pathed false c.if-has_path.false round lent)
