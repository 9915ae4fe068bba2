-- What a record adds, in terms of the states of the four processes.
use mathlib.Core.Path.{◌≡◌, sym, ◌∙◌}
use mathlib.Core.Bool.{true, ◌&&◌}
use mathlib.Core.List.{List}
use Prim.Native.Nat.{ℕ, ◌+◌, ◌-◌, ◌*◌, ◌/◌, ◌%◌, ◌<◌, ◌≤◌}
use native.Mathlib.Omega.{arith}
use lib.Dec.{leb, ltb}
use borrow.Author.Tests.{le-leb, lt-ltb, leb-true, ltb-true}
use Rattle.model.specs.Groups.{Process, p0, p1, p2, p3}
use Rattle.model.proofs.Tests.{and_left, and_right, each_process}
use Rattle.wordsets.specs.WordSets.{has_bit, in_set, RestBits, gains, in_block}

-- a number by the states of the processes
abbrev pub stated : (Process → ℕ) → ℕ
stated D = D p0 * 512 + D p1 * 64 + D p2 * 8 + D p3

-- the states of two numbers in turn
abbrev pub plus : (Process → ℕ) → (Process → ℕ) → Process → ℕ
plus X A i = X i + A i

high_part : (D : Process → ℕ) → ((i : Process) → D i < 8) → stated D / 64 ≡ 8 * D p0 + D p1
high_part D h = omega (arith, h p2, h p3)

low_part : (D : Process → ℕ) → ((i : Process) → D i < 8) → stated D % 64 ≡ 8 * D p2 + D p3
low_part D h = omega (arith, h p2, h p3)

minus_two : (x y a b : ℕ) → 8 * (x + a) + (y + b) - (8 * x + y) ≡ 8 * a + b
minus_two x y a b = omega arith

high_digit : (a b : ℕ) → b < 8 → (8 * a + b) / 8 ≡ a
high_digit a b h = omega arith

low_digit : (a b : ℕ) → b < 8 → (8 * a + b) % 8 ≡ b
low_digit a b h = omega arith

like_place : (a0 a1 a2 a3 y0 y1 y2 y3 : ℕ) → 64 * (8 * a0 + a1 + (8 * y0 + y1)) + (8 * y2 + y3 + (8 * a2 + a3)) ≡ (y0 + a0) * 512 + (y1 + a1) * 64 + (y2 + a2) * 8 + (y3 + a3)
like_place a0 a1 a2 a3 y0 y1 y2 y3 = omega arith

below_two : (x y a b : ℕ) → leb (8 * x + y) (8 * (x + a) + (y + b)) ≡ true
below_two x y a b = le-leb (8 * x + y) (8 * (x + a) + (y + b)) (omega arith)

small_two : (y z a b : ℕ) → y + a < 8 → z + b < 8 → ltb (8 * y + z + (8 * a + b)) 64 ≡ true
small_two y z a b h k = lt-ltb (8 * y + z + (8 * a + b)) 64 (omega arith)

whole_is : (n x0 x1 x2 x3 w m : ℕ) → n / 64 ≡ 8 * x0 + x1 + w → n % 64 ≡ 8 * x2 + x3 + m → n ≡ (x0 + w / 8) * 512 + (x1 + w % 8) * 64 + (x2 + m / 8) * 8 + (x3 + m % 8)
whole_is n x0 x1 x2 x3 w m p q = omega arith

past_is : (a b c : ℕ) → b ≤ a → b ≡ c → a ≡ c + (a - b)
past_is a b c h e = omega arith

-- a number that rest has
pub rest_has : (rest second third a b : ℕ) → a < 8 → b < 8 → RestBits rest second third → a < second → b < third → has_bit rest (8 * a + b) ≡ true
rest_has rest second third a b ha hb bits p q =
    bits (8 * a + b) (omega arith) ∙ rw (high_digit a b hb, low_digit a b hb, lt-ltb a second p) (lt-ltb b third q)

-- by process
abbrev by_process : ℕ → ℕ → ℕ → ℕ → Process → ℕ
by_process a b c d p0 = a
by_process a b c d p1 = b
by_process a b c d p2 = c
by_process a b c d p3 = d

-- The record's own states are X before and Y after, 0 at the other processes. Of process i the offsets below hi i are added to both: its states if
-- the record has no part in it, else 0 alone. The bits of rest are those of processes 2 and 3.
pub record Offset (X Y hi : Process → ℕ) (rest : ℕ) : Type 0 where
  pub before : (i : Process) → X i + hi i ≤ 8
  pub after : (i : Process) → Y i + hi i ≤ 8
  pub some : (i : Process) → 0 < hi i
  pub bits : RestBits rest (hi p2) (hi p3)

module _ (s : List ℕ) (from rest : ℕ) (X Y hi : Process → ℕ) (o : Offset X Y hi rest) where
  abbrev x : ℕ
  x = stated X

  abbrev y : ℕ
  y = stated Y

  small : (i : Process) → X i < 8
  small i = omega (arith, o.before i, o.some i)

  -- a number with such offsets is added exactly if its like is in the set
  pub adds_like : (A : Process → ℕ) → ((i : Process) → A i < hi i)
      → (in_block (stated X) (hi p0) (hi p1) (stated (plus X A)) && gains s from (stated Y) (stated X) rest (stated (plus X A))) ≡ in_set s from (stated (plus Y A))
  unfolding in_block gains
  adds_like A inside =
      let a : (i : Process) → A i < 8 = λ i. omega (arith, o.before i, inside i) in
      let bn : (i : Process) → X i + A i < 8 = λ i. omega (arith, o.before i, inside i) in
      let bl : (i : Process) → Y i + A i < 8 = λ i. omega (arith, o.after i, inside i) in
      let by : (i : Process) → Y i < 8 = λ i. omega (arith, bl i) in
      rw (high_part X small, low_part X small, high_part Y by, low_part Y by, high_part (plus X A) bn, low_part (plus X A) bn)
      (rw (minus_two (X p0) (X p1) (A p0) (A p1), minus_two (X p2) (X p3) (A p2) (A p3), high_digit (A p0) (A p1) (a p1), low_digit (A p0) (A p1) (a p1))
      (rw (below_two (X p0) (X p1) (A p0) (A p1), lt-ltb (A p0) (hi p0) (inside p0), lt-ltb (A p1) (hi p1) (inside p1), below_two (X p2) (X p3) (A p2) (A p3))
      (rw (rest_has rest (hi p2) (hi p3) (A p2) (A p3) (a p2) (a p3) o.bits (inside p2) (inside p3), small_two (Y p2) (Y p3) (A p2) (A p3) (bl p2) (bl p3))
      (rw (like_place (A p0) (A p1) (A p2) (A p3) (Y p0) (Y p1) (Y p2) (Y p3))))))

  -- and what is added has such offsets
  pub record Offsets (n : ℕ) : Type 0 where
    pub offset : Process → ℕ
    pub inside : (i : Process) → offset i < hi i
    pub is : n ≡ stated (plus X offset)

  pub added_offsets : (n : ℕ) → (in_block (stated X) (hi p0) (hi p1) n && gains s from (stated Y) (stated X) rest n) ≡ true → Offsets n
  unfolding in_block gains
  added_offsets n e =
      let w = n / 64 - x / 64 in
      let m = n % 64 - x % 64 in
      let q = y % 64 + m in
      let first = ltb (w / 8) (hi p0) in
      let second = ltb (w % 8) (hi p1) in
      let found = ltb q 64 && in_set s from (64 * (w + y / 64) + q) in
      let block : (leb (x / 64) (n / 64) && (first && second)) ≡ true = and_left (leb (x / 64) (n / 64) && (first && second)) (leb (x % 64) (n % 64) && (has_bit rest m && found)) e in
      let gain : (leb (x % 64) (n % 64) && (has_bit rest m && found)) ≡ true = and_right (leb (x / 64) (n / 64) && (first && second)) (leb (x % 64) (n % 64) && (has_bit rest m && found)) e in
      let both : (first && second) ≡ true = and_right (leb (x / 64) (n / 64)) (first && second) block in
      let bit : has_bit rest m ≡ true = and_left (has_bit rest m) found (and_right (leb (x % 64) (n % 64)) (has_bit rest m && found) gain) in
      let own : (ltb (m / 8) (hi p2) && ltb (m % 8) (hi p3)) ≡ true = sym (o.bits m (omega arith)) ∙ bit in
      let nw : n / 64 ≡ 8 * X p0 + X p1 + w = past_is (n / 64) (x / 64) (8 * X p0 + X p1) (leb-true (x / 64) (n / 64) (and_left (leb (x / 64) (n / 64)) (first && second) block)) (high_part X small) in
      let nm : n % 64 ≡ 8 * X p2 + X p3 + m = past_is (n % 64) (x % 64) (8 * X p2 + X p3) (leb-true (x % 64) (n % 64) (and_left (leb (x % 64) (n % 64)) (has_bit rest m && found) gain)) (low_part X small) in
      record {
        offset = by_process (w / 8) (w % 8) (m / 8) (m % 8);
        inside = each_process (λ (i : Process). by_process (w / 8) (w % 8) (m / 8) (m % 8) i < hi i)
            (ltb-true (w / 8) (hi p0) (and_left first second both))
            (ltb-true (w % 8) (hi p1) (and_right first second both))
            (ltb-true (m / 8) (hi p2) (and_left (ltb (m / 8) (hi p2)) (ltb (m % 8) (hi p3)) own))
            (ltb-true (m % 8) (hi p3) (and_right (ltb (m / 8) (hi p2)) (ltb (m % 8) (hi p3)) own));
        is = whole_is n (X p0) (X p1) (X p2) (X p3) w m nw nm;
      }
