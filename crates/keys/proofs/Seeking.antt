-- Laws of the walk down a bucket in search of a key.
use mathlib.Core.Path.{◌≡◌, refl, ap, sym, subst, ◌∙◌}
use mathlib.Core.Bool.{Bool, true, false, ◌||◌, or-true}
use mathlib.Core.Logic.{◌⊎◌, ⊎_elim}
use mathlib.Core.List.{List}
use Prim.Native.Nat.{ℕ, zero, suc, ◌+◌, ◌<◌, ◌≤◌}
use native.Mathlib.Decide.{ℕ_discrete, dec_lt}
use native.Mathlib.Omega.{arith}
use Rattle.rings.specs.Rings.{no_link, link_at, NoneIn, NoTail, Greatest}
use Rattle.rings.proofs.Walking.{passed}
use Rattle.keys.specs.Keys.{key_bucket_of, in_key_bucket, has_key, held_below, Indexed}
use Rattle.keys.proofs.Buckets.{in_true, none_keyed}

-- ---- records that are held
held_none : (log : List ℕ) (letter g n x : ℕ) → NoneIn (has_key log letter g x) 0 n → held_below log letter g n x ≡ false
held_none log letter g zero x f = refl
held_none log letter g (suc n) x f = rw (held_none log letter g n x (λ j p q. f j p (omega arith))) (f n (omega arith) (omega arith))

held_at : (log : List ℕ) (letter g n x i : ℕ) → i < n → has_key log letter g x i ≡ true → held_below log letter g n x ≡ true
held_at log letter g zero x i l t = absurd (omega arith)
held_at log letter g (suc n) x i l t = elim (ℕ_discrete i n) [
  | yes e ↦ ap (λ (b : Bool). held_below log letter g n x || b) (subst (λ (j : ℕ). has_key log letter g x j ≡ true) e t) ∙ or-true (held_below log letter g n x)
  | no ne ↦ rw (held_at log letter g n x i (omega arith) t)
]

-- ---- the walk
-- none from `till` on has the key, and r is the greatest record of its bucket below, or none
pub record Seeking (log : List ℕ) (base n letter g x r : ℕ) : Type 0 where
  pub till : ℕ
  pub within : till ≤ base
  pub none : NoneIn (has_key log letter g x) till base
  pub link : NoTail (in_key_bucket log n (key_bucket_of n letter g x)) till r ⊎ Greatest (in_key_bucket log n (key_bucket_of n letter g x)) till r

pub seeking_start : {log : List ℕ} {base n at : ℕ} {s : List ℕ} {h r : ℕ} (letter g x : ℕ) → Indexed log base n at s → (h ≡ key_bucket_of n letter g x) × (h < n) → r ≡ link_at s at h → Seeking log base n letter g x r
seeking_start {log} {base} {n} {at} {s} {h} {r} letter g x w b e = record {
  till = base;
  within = omega arith;
  none = λ j p q. absurd (omega arith);
  link = subst (λ (k : ℕ). NoTail (in_key_bucket log n k) base r ⊎ Greatest (in_key_bucket log n k) base r) b.0
      (subst (λ (k : ℕ). NoTail (in_key_bucket log n h) base k ⊎ Greatest (in_key_bucket log n h) base k) (sym e) (w.first h b.1));
}

-- no record is left
pub seeking_end : {log : List ℕ} {base n letter g x r : ℕ} → base ≤ no_link → Seeking log base n letter g x r → r ≡ no_link → false ≡ held_below log letter g base x
seeking_end {log} {base} {n} {letter} {g} {x} {r} short w e = sym (held_none log letter g base x all)
  where
    empty : NoneIn (in_key_bucket log n (key_bucket_of n letter g x)) 0 w.till
    empty = ⊎_elim (λ a. a.none) (λ a. absurd (omega (arith, a.below, w.within))) w.link

    all : NoneIn (has_key log letter g x) 0 base
    all j p q = elim (dec_lt j w.till) [ yes y ↦ none_keyed log n letter g x 0 w.till empty j p y | no y ↦ w.none j (omega arith) q ]

-- r is a record
module _ {log : List ℕ} {base n letter g x r : ℕ} (w : Seeking log base n letter g x r) (ne : r ≡ no_link → ⊥) where
  here : Greatest (in_key_bucket log n (key_bucket_of n letter g x)) w.till r
  here = ⊎_elim (λ a. absurd (ne a.is)) (λ a. a) w.link

  pub seeking_below : r < base
  seeking_below = omega (arith, here.below, w.within)

  -- the test b of its key
  pub seeking_found : {b : Bool} → b ≡ has_key log letter g x r → b ≡ true → true ≡ held_below log letter g base x
  seeking_found is t = sym (held_at log letter g base x r seeking_below (sym is ∙ t))

  module _ {at : ℕ} {s : List ℕ} {k : ℕ} (i : Indexed log base n at s) (e : k ≡ link_at s at (n + r)) where
    behind : NoTail (in_key_bucket log n (key_bucket_of n letter g x)) r k ⊎ Greatest (in_key_bucket log n (key_bucket_of n letter g x)) r k
    behind = rw e (subst (λ (h : ℕ). NoTail (in_key_bucket log n h) r (link_at s at (n + r)) ⊎ Greatest (in_key_bucket log n h) r (link_at s at (n + r))) (in_true log n (key_bucket_of n letter g x) r here.passes) (i.next r seeking_below))

    pub seeking_turn : {b : Bool} → b ≡ has_key log letter g x r → b ≡ false → Seeking log base n letter g x k
    seeking_turn is f = record {
      till = r;
      within = omega (arith, seeking_below);
      none = passed (has_key log letter g x) r r base (λ j p q. absurd (omega arith)) (sym is ∙ f)
          (λ j p q. elim (dec_lt j w.till) [ yes y ↦ none_keyed log n letter g x (suc r) w.till here.behind j p y | no y ↦ w.none j (omega arith) q ]);
      link = behind;
    }
