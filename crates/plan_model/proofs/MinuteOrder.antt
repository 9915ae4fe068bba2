-- The order of minutes as `NotBefore` says it: it is transitive, and the later of two minutes is their least upper bound.
use mathlib.Core.Path.{◌≡◌, refl, sym, ap, ◌∙◌, subst}
use mathlib.Core.Bool.{true, false, true≢false}
use mathlib.Core.Logic.{◌↔◌}
use Prim.Native.Nat.{ℕ, suc, ◌+◌, ◌-◌, ◌≤◌, ◌<◌}
use native.Mathlib.Omega.{arith}
use lib.IntN.{ℤ, pos, negsuc, ◌+ℤ◌, +ℤ_assoc}
use lib.Signed.{lt_z}
use borrow.Author.Tests.{ltb-true, ltb-false, le-ltb, lt-ltb}
use Rattle.plan_model.specs.Hours.{NotBefore, later_of}
use Rattle.model.proofs.Tests.{by_test}

pub not_before_sum : (t : ℤ) (d : ℕ) → NotBefore t (t +ℤ pos d)
not_before_sum t d = record { later = d; is = refl }

pub not_before_trans : {r s t : ℤ} → NotBefore r s → NotBefore s t → NotBefore r t
not_before_trans {r} {s} {t} a b = record {
  later = a.later + b.later;
  is = b.is ∙ ap (λ (x : ℤ). x +ℤ pos b.later) a.is ∙ +ℤ_assoc r (pos a.later) (pos b.later);
}

pub not_before_same : {r s t : ℤ} → r ≡ s → NotBefore r t → NotBefore s t
not_before_same {r} {s} {t} e n = subst (λ (u : ℤ). NotBefore u t) e n

-- d minutes after s and e minutes after s, where d is not more
pub not_before_sums : (s : ℤ) (d e : ℕ) → d ≤ e → NotBefore (s +ℤ pos d) (s +ℤ pos e)
not_before_sums s d e l =
    let sum : d + (e - d) ≡ e = omega arith in
    record { later = e - d; is = ap (λ (n : ℕ). s +ℤ pos n) (sym sum) ∙ sym (+ℤ_assoc s (pos d) (pos (e - d))) }

-- ---- by the signs
up : (a b : ℕ) → a ≤ b → NotBefore (pos a) (pos b)
up a b l = record { later = b - a; is = ap pos (let sum : b ≡ a + (b - a) = omega arith in sum) }

across : (a b : ℕ) → NotBefore (negsuc a) (pos b)
across a b = record { later = b + suc a; is = rw (le-ltb (b + suc a) (suc a) (omega arith)) (ap pos (let sum : b ≡ b + suc a - suc a = omega arith in sum)) }

below : (a b : ℕ) → b ≤ a → NotBefore (negsuc a) (negsuc b)
below a b l = record {
  later = a - b;
  is = rw (lt-ltb (a - b) (suc a) (omega arith)) (ap negsuc (let sum : b ≡ suc a - suc (a - b) = omega arith in sum));
}

less_not_before : (s t : ℤ) → lt_z s t ≡ true → NotBefore s t
less_not_before (pos a) (pos b) y = let l : a < b = ltb-true a b y in up a b (omega arith)
less_not_before (pos a) (negsuc b) y = absurd (true≢false (sym y))
less_not_before (negsuc a) (pos b) y = across a b
less_not_before (negsuc a) (negsuc b) y = let l : b < a = ltb-true b a y in below a b (omega arith)

else_not_before : (s t : ℤ) → lt_z s t ≡ false → NotBefore t s
else_not_before (pos a) (pos b) y = up b a (ltb-false a b y)
else_not_before (pos a) (negsuc b) y = across b a
else_not_before (negsuc a) (pos b) y = absurd (true≢false y)
else_not_before (negsuc a) (negsuc b) y = below b a (ltb-false b a y)

-- ---- the later of two minutes: what is not before it is what is before neither
pub later_least : (s t u : ℤ) → NotBefore (later_of s t) u ↔ (NotBefore s u × NotBefore t u)
later_least s t u =
    by_test (lt_z s t)
    (λ y. rw y ((λ n. (not_before_trans (less_not_before s t y) n, n)), (λ n. n.1)))
    (λ y. rw y ((λ n. (n, not_before_trans (else_not_before s t y) n)), (λ n. n.0)))
