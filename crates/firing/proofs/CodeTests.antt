-- The tests as code makes them: one scan of the word for a letter that tops, and states compared at the letter's processes only.
use mathlib.Core.Path.{◌≡◌}
use mathlib.Core.Bool.{Bool, ◌&&◌, ◌||◌, cond, false, false≢true, not, true}
use mathlib.Core.List.{List, [], ◌∷◌}
use Prim.Native.Nat.{ℕ}
use lib.Dec.{eqb}
use borrow.Author.Tests.{eq-eqb, eqb-true, not-true}
use Rattle.model.specs.Groups.{Apart, Processes, apart_test, has}
use Rattle.model.proofs.Words.{Located, Pick, here, pick_tops, there, tops_of, tops_pick, tops_true}
use Rattle.model.specs.Words.{remove_first, tops}
use Rattle.model.proofs.Tests.{and_left, and_right, by_test, every_at, every_of, implied, implies, same_test}

-- ---- the letter that tops
pub apart_true : (L M : Processes) → apart_test L M ≡ true → Apart L M
apart_true L M e i m = not-true (has M i) (implies (has L i) (not (has M i)) (every_at (λ i. not (has L i) || not (has M i)) e i) m)

pub apart_of : (L M : Processes) → Apart L M → apart_test L M ≡ true
apart_of L M d = every_of (λ i. not (has L i) || not (has M i)) (λ i. implied (has L i) (not (has M i)) (λ m. rw (d i m)))

-- from the top: a itself, or past a letter that shares no process with a
abbrev pub tops_scan : (ℕ → Processes) → ℕ → List ℕ → Bool
tops_scan loc a [] = false
tops_scan loc a (b ∷ w) = cond (eqb b a) true (apart_test (loc a) (loc b) && tops_scan loc a w)

scan_pick : (loc : ℕ → Processes) (a : ℕ) (w : List ℕ) → tops_scan loc a w ≡ true → Pick loc a w (remove_first a w)
scan_pick loc a [] e = absurd (false≢true e)
scan_pick loc a (b ∷ w) e = by_test (eqb b a)
    (λ y. rw y (here (eqb-true b a y)))
    (λ n. rw n (there (apart_true (loc a) (loc b) (and_left (apart_test (loc a) (loc b)) (tops_scan loc a w) (rw n at e))) (scan_pick loc a w (and_right (apart_test (loc a) (loc b)) (tops_scan loc a w) (rw n at e)))))

pick_scan : {loc : ℕ → Processes} {a : ℕ} {w x : List ℕ} → Pick loc a w x → tops_scan loc a w ≡ true
pick_scan {loc} {a} (here {b = b} e) = rw (eq-eqb b a e)
pick_scan {loc} {a} (there {b = b} {w = w} d p) = by_test (eqb b a) (λ y. rw y) (λ n. rw (n, apart_of (loc a) (loc b) d) (pick_scan p))

pub scan_is : (loc : ℕ → Processes) → Located loc → (a : ℕ) (w : List ℕ) → tops_scan loc a w ≡ tops loc a w
scan_is loc ne a w = same_test (tops_scan loc a w) (tops loc a w)
    (λ e. tops_of loc a w (pick_tops (scan_pick loc a w e)))
    (λ e. pick_scan (tops_pick loc ne a w (tops_true loc a w e)))
