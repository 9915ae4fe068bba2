-- The record is tried: one more on the stack and on behind it, or the path is found, or the next one is looked for (Turning).
use mathlib.Core.Path.{◌≡◌, ap, ◌∙◌}
use Prim.Native.Nat.{ℕ}
use native.Mathlib.Omega.{arith}
use Rattle.packs.specs.Packs.{packed_after, packed_merge}
use Rattle.logs.proofs.RoundLogs.{round_has}
use Rattle.attempts.proofs.Stacks.{ready_kept}
use Rattle.attempts.proofs.Ways.{past_reads}
use Rattle.attempts.proofs.Turning.{goal_room, next_small, past_miss, some_round, stack_only, stack_room, turn_found, turn_miss, turn_on}
use Rattle.attempts.proofs.try_record.Goals as goal

pub after_at-requires : goal.after_at-requires
after_at-requires c = let w = c.requires.2.1 in round_has (some_round w) _ c.requires.0

pub overflow_cast-x : goal.overflow_cast-x
overflow_cast-x c =
    omega (arith, next_small c.requires.2.1 c.requires.0)

pub put_number-requires : goal.put_number-requires
put_number-requires c =
    stack_room c.requires.2.1

pub overflow_sub-x : goal.overflow_sub-x
overflow_sub-x c =
    omega (arith, c.requires.1)

pub enter-requires : goal.enter-requires
enter-requires c =
    let state_is : c.merged-state.result ≡ packed_merge c.args.x.mask (packed_after c.args.log.now c.args.x.next) c.args.x.state = c.merged-state.ensures ∙ ap (λ (k : ℕ). packed_merge c.args.x.mask k c.args.x.state) c.after_at.ensures in
    let w = c.requires.2.1 in
    let same = stack_only w c.requires.0 _ state_is _ c.put_number.ensures in
    (omega (arith, c.if-x-span.true, w.at.ready.inside), (ready_kept same w.at.ready).scoped.linked)

pub returns-then-x-span : goal.returns-then-x-span
returns-then-x-span c =
    let state_is : c.merged-state.result ≡ packed_merge c.args.x.mask (packed_after c.args.log.now c.args.x.next) c.args.x.state = c.merged-state.ensures ∙ ap (λ (k : ℕ). packed_merge c.args.x.mask k c.args.x.state) c.after_at.ensures in
    λ g w. turn_on w c.requires.0 _ state_is _ c.put_number.ensures c.if-x-span.true _ c.requires.1 c.enter.ensures

pub is_in-requires : goal.is_in-requires
is_in-requires c =
    goal_room c.requires.2.1

pub overflow_cast-x-then-is_in : goal.overflow_cast-x-then-is_in
overflow_cast-x-then-is_in c =
    omega (arith, next_small c.requires.2.1 c.requires.0)

pub put_number-requires-then-is_in : goal.put_number-requires-then-is_in
put_number-requires-then-is_in c =
    stack_room c.requires.2.1

pub returns-then-is_in : goal.returns-then-is_in
returns-then-is_in c =
    let state_is : c.merged-state.result ≡ packed_merge c.args.x.mask (packed_after c.args.log.now c.args.x.next) c.args.x.state = c.merged-state.ensures ∙ ap (λ (k : ℕ). packed_merge c.args.x.mask k c.args.x.state) c.after_at.ensures in
    λ g w. turn_found w c.requires.0 _ state_is _ c.put_number-then-is_in.ensures (omega (arith, c.if-x-span.false, w.at.below)) c.is_in.ensures c.if-is_in.true

pub overflow_sub-x-2 : goal.overflow_sub-x-2
overflow_sub-x-2 c = omega arith

pub follow-requires : goal.follow-requires
follow-requires c =
    let state_is : c.merged-state.result ≡ packed_merge c.args.x.mask (packed_after c.args.log.now c.args.x.next) c.args.x.state = c.merged-state.ensures ∙ ap (λ (k : ℕ). packed_merge c.args.x.mask k c.args.x.state) c.after_at.ensures in
    let l = c.requires.0 in
    let w = c.requires.2.1 in
    let past = past_miss w l _ state_is (omega (arith, c.if-x-span.false, w.at.below)) c.is_in.ensures c.if-is_in.false in
    (w.at.ready.scoped.linked, omega (arith, l, w.at.ready.scoped.limited), past_reads past)

pub returns : goal.returns
returns c =
    let state_is : c.merged-state.result ≡ packed_merge c.args.x.mask (packed_after c.args.log.now c.args.x.next) c.args.x.state = c.merged-state.ensures ∙ ap (λ (k : ℕ). packed_merge c.args.x.mask k c.args.x.state) c.after_at.ensures in
    λ g w. turn_miss w c.requires.0 _ state_is _ c.requires.1 (omega (arith, c.if-x-span.false, w.at.below)) c.is_in.ensures c.if-is_in.false c.follow.ensures
