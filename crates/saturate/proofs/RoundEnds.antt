-- What a round tells and leaves when no head is left.
use mathlib.Core.Path.{◌≡◌, ap, refl, subst, sym, ◌∙◌}
use mathlib.Core.Bool.{false}
use mathlib.Core.List.{List}
use Prim.Native.Nat.{ℕ, suc, ◌+◌, ◌<◌, ◌≤◌}
use native.Mathlib.Decide.{dec_lt}
use native.Mathlib.Omega.{arith}
use lib.Dec.{eqb, ltb}
use lib.ListN.{length, take}
use borrow.Author.Tests.{eq-eqb, le-ltb, lt-ltb, ltb-false, ltb-true, ne_eqb}
use Rattle.model.specs.Calls.{capacity}
use Rattle.model.specs.Lists.{is_empty}
use Rattle.model.specs.Log.{additions, log_at}
use Rattle.model.specs.Systems.{System}
use Rattle.model.proofs.Limit.{length_suc}
use Rattle.model.proofs.Lists.{is_empty_false, is_empty_true}
use Rattle.model.proofs.Tests.{by_test}
use Rattle.table.specs.declared.Table.{Table}
use Rattle.table.specs.Reading.{saturated_in}
use Rattle.std.specs.Prelude.{Some, None, Ok, Err}
use Rattle.saturate.specs.Adding.{CanHold, RoundAdded, Telling, round_told, told}
use Rattle.saturate.specs.Rounds.{RoundBegins, RoundScratch}
use Rattle.saturate.proofs.RoundSteps.{HeadsDone}
use Rattle.saturate.proofs.ScratchParts.{logged_rounds, rounds_long}

pub round_length : (sys : System) (k : ℕ) → length (log_at sys (k + 1)) ≡ length (log_at sys k) + length (additions sys (log_at sys k))
round_length sys k = let e : k + 1 ≡ suc k = omega arith in ap (λ (j : ℕ). length (log_at sys j)) e ∙ length_suc sys k

-- ---- what it tells
-- what a round that tells this has found
abbrev pub Finding : System → ℕ → ℕ → Telling → Type 0
Finding sys k size (Err e) = capacity size < length (log_at sys (k + 1))
Finding sys k size (Ok None) = length (additions sys (log_at sys k)) ≡ 0
Finding sys k size (Ok (Some count)) = (count ≡ length (log_at sys (k + 1))) × (length (log_at sys (k + 1)) ≤ capacity size) × (0 < length (additions sys (log_at sys k)))

pub told_finding : (sys : System) (k size : ℕ) {r : Telling} → r ≡ round_told sys k size → Finding sys k size r
unfolding round_told
told_finding sys k size e =
    let news = additions sys (log_at sys k) in
    let total = length (log_at sys (k + 1)) in
    subst (Finding sys k size) (sym e) (by_test (ltb (capacity size) total) (λ y. rw y (ltb-true (capacity size) total y))
    (λ f. rw f (by_test (is_empty news) (λ y. rw y (ap length (is_empty_true news y))) (λ g. rw g (refl, ltb-false (capacity size) total f, is_empty_false news g)))))

-- ---- what it leaves
module _ {table : List ℕ} {t : Table} {lo base n k : ℕ} {log s : List ℕ} (b : RoundBegins table t lo base n k log s) {fresh count : ℕ} {s₁ log' s' : List ℕ}
    (d : HeadsDone table t (record { number = k + 1; lo = lo; base = base; fresh = fresh; n = n }) log s₁ count log' s') (size : length s₁ ≡ length s) where
  abbrev sys : System
  sys = saturated_in table

  grown : length (log_at sys (k + 1)) ≡ base + length (additions sys (log_at sys k))
  grown = omega (arith, round_length sys k, b.size)

  held : CanHold sys (k + 1) log → count ≤ n
  held l = elim (dec_lt n count) [
    | yes y ↦ absurd (omega (arith, d.over y, b.room))
    | no y ↦ omega arith
  ]

  -- where it fits, the count is that of the records
  module _ (fits : count ≤ n) where
    counted : count ≡ length (log_at sys (k + 1))
    counted = (d.within fits).size

    has_room : ltb (capacity (length log)) (length (log_at sys (k + 1))) ≡ false
    has_room = le-ltb (capacity (length log)) (length (log_at sys (k + 1))) (omega (arith, counted, b.room))

    empty_is : is_empty (additions sys (log_at sys k)) ≡ eqb count base
    empty_is = by_test (is_empty (additions sys (log_at sys k)))
        (λ y. y ∙ sym (eq-eqb count base (omega (arith, grown, counted, ap length (is_empty_true (additions sys (log_at sys k)) y)))))
        (λ m. m ∙ sym (ne_eqb count base (λ e. omega (arith, grown, counted, is_empty_false (additions sys (log_at sys k)) m))))

  told_is : told base count n ≡ round_told sys k (length log)
  unfolding round_told
  told_is = elim (dec_lt n count) [
    | yes l ↦ rw (lt-ltb n count l, lt-ltb (capacity (length log)) (length (log_at sys (k + 1))) (omega (arith, d.over l, b.room)))
    | no l ↦
        let fits : count ≤ n = omega arith in
        rw (le-ltb n count fits, has_room fits, empty_is fits, ← counted fits)
  ]

  pub round_ends : {r : Telling} → r ≡ told base count n → RoundAdded sys k log r log' × RoundScratch table t base n k log' s s'
  round_ends is = (
    record {
      left = λ l. logged_rounds sys (k + 1) count log' (d.within (held l));
      earlier = subst (λ (m : ℕ). take m log' ≡ take m log) (sym (rounds_long sys k base b.size)) d.earlier;
      told = is ∙ told_is;
      log_length = d.log_length;
    },
    record {
      ringed = d.ringed;
      indexed = λ more fits. let l = held (omega (arith, fits, b.room)) in d.indexed (omega (arith, more, counted l));
      prepared = d.prepared;
      size = d.scratch_length ∙ size;
    },
  )
