-- The walk call: what it gives, its steps in the paper's terms, and who took part in them.
use mathlib.Core.Path.{◌≡◌, ◌∙◌, ap, ap₂}
use mathlib.Core.List.{List, ◌++◌}
use Prim.Native.Nat.{ℕ, ◌+◌, ◌*◌, ◌-◌}
use native.Mathlib.Omega.{arith}
use lib.ListN.{drop, length, length-drop, take}
use Rattle.std.specs.Prelude.{Result}
use Rattle.model.specs.declared.Ending.{Ending}
use Rattle.model.specs.declared.Refusal.{Refusal}
use Rattle.model.specs.Calls.{walk_figures}
use Rattle.buffers.proofs.Parts.{part_rest}
use Rattle.walk.proofs.Outcomes.{walk_told}
use Rattle.walk.proofs.walk.Goals as goal

pub returns : goal.returns
returns c =
    let a = c.args in
    let halted = c.halt-halted in
    let h = halted.ensures in
    let list = a.list.now in
    let from = halted.result.from in
    let part = take (length list - from) (drop from list) in
    let behind : length list - length part ≡ from = omega (arith, h.inside, ap length (part_rest list from), length-drop from list) in
    let place : from * 2 + a.list.ref_ptr.1 ≡ a.list.ref_ptr.1 + (length list - length part) * 2 = omega arith in
    let f = c.put_figures.ensures ∙ ap₂ (λ (x : Result Ending Refusal) (counts : List ℕ). walk_figures x ++ counts) h.answer h.counts in
    let told = walk_told a.table.now list a.pile.now a.scratch.now _ _ f h.pile in
    record {
      demand_1 = record { figures = f; rest = part_rest list from ∙ h.rest; pile = h.pile; scratch = h.scratch };
      part_by_place = ap (λ (n : ℕ). (a.list.ref_ptr.0, n)) place;
      demand_2 = told.0;
      request_2_5 = told.1;
    }
