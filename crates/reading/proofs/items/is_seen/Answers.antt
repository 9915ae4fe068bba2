-- The test is asked of each body before (Twins).
use Rattle.std.proofs.Common.{ℕ, ◌≡◌, ◌∙◌, ap, take, true, false, rules, tests, arith, drop, length, ◌*◌, ◌+◌, ◌-◌}
use Rattle.std.specs.Slice.Iter.{chunks_exact_steps}
use Rattle.std.proofs.lemmas.Iterator.{cases_from_any, YieldsList}
use Rattle.model.specs.Tables.{same_bytes}
use Rattle.model.proofs.SliceTests.{any_answers}
use Rattle.table.specs.Places.{bodies_at}
use Rattle.reading.proofs.Twins.{bodies_come}
use Rattle.reading.proofs.items.is_seen.Goals as goal

pub returns : goal.returns
returns c =
    let x = c.args in
    let body = x.body.now in
    let first = x.at - x.count * (1 + length body) in
    let bodies = bodies_at x.bytes.now (length body) first x.count in
    let yields : YieldsList (chunks_exact_steps {A = ℕ}) (λ p. drop (length p.now - length body) p.now) c.chunks_exact.result bodies =
    record { runs = bodies_come x.bytes.now (length body) first x.count c.chunks_exact.result c.chunks_exact.ensures.size (c.chunks_exact.ensures.rest ∙ ap (λ n. take n (drop first x.bytes.now)) (omega arith)) (omega arith) } in
    any_answers (same_bytes body) _ bodies (cases_from_any _ _ _ (λ y. same_bytes body y ≡ true) (λ y. same_bytes body y ≡ false) c.any.ensures.ran yields
    (λ y q k. search (rules, tests)) (λ y q k. search (rules, tests)))
