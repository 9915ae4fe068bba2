-- The unfolding as a function, its existence, its uniqueness, and the steps figure.
use mathlib.Core.Path.{◌∙◌, ◌≡◌, ap, refl, sym}
use mathlib.Core.Logic.{◌⊎◌, inl, inr}
use mathlib.Core.List.{List, [], ◌++◌, ◌∷◌, append_assoc}
use Prim.Native.Nat.{◌+◌, ◌<◌, ◌≤◌, min, suc, zero, ℕ}
use native.Mathlib.Omega.{arith}
use native.Mathlib.Nat.{not-suc-le-zero}
use lib.ListN.{length, length-append}
use borrow.Author.Tests.{eq-eqb, ne_eqb}
use Rattle.model.specs.Lists.{Each, concat_map, sum_over}
use Rattle.model.specs.Log.{Record, record_at, steps_cap}
use Rattle.model.specs.Unfolding.{Unfolds, done, emitted, emitted_by, replaced, skipped}
use Rattle.model.proofs.Lists.{each_map}
use Rattle.model.proofs.Tests.{by_zero}

emitted_by_zero : (log : List Record) (k n : ℕ) → (record_at log n).round ≡ 0 → emitted_by log (suc k) n ≡ []
unfolding emitted_by
emitted_by_zero log k n e = rw (eq-eqb (record_at log n).round 0 e)

emitted_by_more : (log : List Record) (k n : ℕ) → 0 < (record_at log n).round → emitted_by log (suc k) n ≡ (record_at log n).rule ∷ concat_map (emitted_by log k) (record_at log n).path
unfolding emitted_by
emitted_by_more log k n e = rw (ne_eqb (record_at log n).round 0 (λ z. omega arith))

abbrev pub Earlier : List Record → Type 0
Earlier log = (n : ℕ) → n < length log → 0 < (record_at log n).round → Each (λ (m : ℕ). m < n) (record_at log n).path

module _ (log : List Record) (earlier : Earlier log) where
  concat_map_unfolds : (k : ℕ) → ((n : ℕ) → n < k → (ns rs : List ℕ) → Unfolds log ns rs → Unfolds log (n ∷ ns) (emitted_by log k n ++ rs))
      → (ps : List ℕ) → Each (λ (m : ℕ). m < k) ps → (ns rs : List ℕ) → Unfolds log ns rs → Unfolds log (ps ++ ns) (concat_map (emitted_by log k) ps ++ rs)
  concat_map_unfolds k one [] e ns rs u = u
  concat_map_unfolds k one (p ∷ ps) e ns rs u =
      rw append_assoc (one p e.0 (ps ++ ns) (concat_map (emitted_by log k) ps ++ rs) (concat_map_unfolds k one ps e.1 ns rs u))

  pub emitted_by_unfolds : (k : ℕ) → k ≤ length log → (n : ℕ) → n < k → (ns rs : List ℕ) → Unfolds log ns rs → Unfolds log (n ∷ ns) (emitted_by log k n ++ rs)
  emitted_by_unfolds zero h n l ns rs u = absurd (not-suc-le-zero l)
  emitted_by_unfolds (suc k) h n l ns rs u = by_zero (record_at log n).round
      (λ z. rw (emitted_by_zero log k n z) (skipped z u))
      (λ z. rw (emitted_by_more log k n z) (replaced z (concat_map_unfolds k (λ m lm. emitted_by_unfolds k (omega arith) m lm) (record_at log n).path (each_map (λ (m : ℕ). m < n) (λ (m : ℕ). m < k) (λ m p. omega arith) (record_at log n).path (earlier n (omega arith) z)) ns rs u)))

  pub emitted_unfolds : (ns : List ℕ) → Each (λ (m : ℕ). m < length log) ns → Unfolds log ns (emitted log ns)
  emitted_unfolds [] e = done
  emitted_unfolds (n ∷ ns) e = emitted_by_unfolds (length log) (omega arith) n e.0 ns (emitted log ns) (emitted_unfolds ns e.1)

-- a path unfolds in one way only
skipped_or_replaced : {log : List Record} {n : ℕ} {ns rs : List ℕ} → Unfolds log (n ∷ ns) rs
    → (((record_at log n).round ≡ 0) × Unfolds log ns rs) ⊎ ((qs : List ℕ) × (rs ≡ (record_at log n).rule ∷ qs) × (0 < (record_at log n).round) × Unfolds log ((record_at log n).path ++ ns) qs)
skipped_or_replaced (skipped z u) = inl (z, u)
skipped_or_replaced (replaced {rs = qs} z u) = inr (qs, refl, z, u)

at_end : {log : List Record} {rs : List ℕ} → Unfolds log [] rs → rs ≡ []
at_end done = refl

pub unfolds_unique : {log : List Record} {ns rs : List ℕ} → Unfolds log ns rs → (qs : List ℕ) → Unfolds log ns qs → qs ≡ rs
unfolds_unique done qs v = at_end v
unfolds_unique {log} (skipped {n = n} {ns = ns} {rs = rs} z u) qs v = step (λ w. unfolds_unique u qs w) (skipped_or_replaced v)
  where
    step : (Unfolds log ns qs → qs ≡ rs)
        → (((record_at log n).round ≡ 0) × Unfolds log ns qs) ⊎ ((ps : List ℕ) × (qs ≡ (record_at log n).rule ∷ ps) × (0 < (record_at log n).round) × Unfolds log ((record_at log n).path ++ ns) ps) → qs ≡ rs
    step below (inl w) = below w.1
    step below (inr w) = absurd (omega (arith, z, w.2))
unfolds_unique {log} (replaced {n = n} {ns = ns} {rs = rs} z u) qs v = step (λ ps w. unfolds_unique u ps w) (skipped_or_replaced v)
  where
    step : ((ps : List ℕ) → Unfolds log ((record_at log n).path ++ ns) ps → ps ≡ rs)
        → (((record_at log n).round ≡ 0) × Unfolds log ns qs) ⊎ ((ps : List ℕ) × (qs ≡ (record_at log n).rule ∷ ps) × (0 < (record_at log n).round) × Unfolds log ((record_at log n).path ++ ns) ps)
        → qs ≡ (record_at log n).rule ∷ rs
    step below (inl w) = absurd (omega (arith, z, w.0))
    step below (inr w) = w.1 ∙ ap (λ (l : List ℕ). (record_at log n).rule ∷ l) (below w.0 w.3)

-- the figure that a record carries: 0 in round 0, else 1 plus its path's, and never above the ceiling
abbrev pub Counted : List Record → Type 0
Counted log = (n : ℕ) → n < length log
    → ((record_at log n).round ≡ 0 → (record_at log n).steps ≡ 0) × (0 < (record_at log n).round → (record_at log n).steps ≡ min (1 + sum_over (λ m. (record_at log m).steps) (record_at log n).path) steps_cap)

sum_over_cap : (f g : ℕ → ℕ) (ns : List ℕ) → Each (λ (m : ℕ). f m ≡ min (g m) steps_cap) ns → min (sum_over f ns) steps_cap ≡ min (sum_over g ns) steps_cap
sum_over_cap f g [] e = refl
sum_over_cap f g (n ∷ ns) e =
    let below : min (sum_over f ns) steps_cap ≡ min (sum_over g ns) steps_cap = sum_over_cap f g ns e.1 in
    let here : f n ≡ min (g n) steps_cap = e.0 in
    omega arith

length_concat_map : (f : ℕ → List ℕ) (ns : List ℕ) → length (concat_map f ns) ≡ sum_over (λ n. length (f n)) ns
length_concat_map f [] = refl
length_concat_map f (n ∷ ns) = length-append (f n) (concat_map f ns) ∙ ap (λ (k : ℕ). length (f n) + k) (length_concat_map f ns)

module _ (log : List Record) (earlier : Earlier log) (counted : Counted log) where
  pub steps_emitted_by : (k : ℕ) → k ≤ length log → (n : ℕ) → n < k → (record_at log n).steps ≡ min (length (emitted_by log k n)) steps_cap
  steps_emitted_by zero h n l = absurd (not-suc-le-zero l)
  steps_emitted_by (suc k) h n l = by_zero (record_at log n).round
      (λ z. rw (emitted_by_zero log k n z) ((counted n (omega arith)).0 z))
      (λ z. rw (emitted_by_more log k n z)
      (let sum : min (sum_over (λ m. (record_at log m).steps) (record_at log n).path) steps_cap ≡ min (sum_over (λ m. length (emitted_by log k m)) (record_at log n).path) steps_cap =
      sum_over_cap (λ m. (record_at log m).steps) (λ m. length (emitted_by log k m)) (record_at log n).path
      (each_map (λ (m : ℕ). m < n) (λ (m : ℕ). (record_at log m).steps ≡ min (length (emitted_by log k m)) steps_cap)
      (λ m p. steps_emitted_by k (omega arith) m (omega arith)) (record_at log n).path (earlier n (omega arith) z)) in
      let long : length (concat_map (emitted_by log k) (record_at log n).path) ≡ sum_over (λ m. length (emitted_by log k m)) (record_at log n).path = length_concat_map (emitted_by log k) (record_at log n).path in
      let mine : (record_at log n).steps ≡ min (1 + sum_over (λ m. (record_at log m).steps) (record_at log n).path) steps_cap = (counted n (omega arith)).1 z in
      omega arith))

  -- the start's steps: its path's sum, capped alike, is the number of rules that its path unfolds into, up to the cap
  pub steps_emitted : (ns : List ℕ) → Each (λ (m : ℕ). m < length log) ns → min (sum_over (λ m. (record_at log m).steps) ns) steps_cap ≡ min (length (emitted log ns)) steps_cap
  steps_emitted ns e =
      sum_over_cap (λ m. (record_at log m).steps) (λ m. length (emitted_by log (length log) m)) ns
      (each_map (λ (m : ℕ). m < length log) (λ (m : ℕ). (record_at log m).steps ≡ min (length (emitted_by log (length log) m)) steps_cap) (λ m p. steps_emitted_by (length log) (omega arith) m p) ns e)
      ∙ ap (λ (k : ℕ). min k steps_cap) (sym (length_concat_map (emitted_by log (length log)) ns))
