-- The scratch of a round: made ready, the letters of the last round gathered, and its rules made active.
use mathlib.Core.Path.{◌≡◌, ap, subst, sym, ◌∙◌}
use mathlib.Core.Bool.{true, true≢false, ◌&&◌}
use mathlib.Core.Logic.{inl, inr}
use mathlib.Core.List.{List, ◌++◌}
use Prim.Native.Nat.{ℕ, ◌+◌, ◌-◌, ◌*◌, ◌/◌, ◌%◌, ◌^◌, ◌<◌, ◌≤◌}
use native.Mathlib.Decide.{ℕ_discrete, dec_lt}
use native.Mathlib.Nat.{div_self, mod-eq_of_lt, one-mul}
use native.Mathlib.Omega.{arith}
use lib.Pow.{pow-lt, pow_pos}
use lib.Bits.{bit_or}
use lib.Dec.{ltb}
use lib.ListN.{drop, get_or, length, take, take-append-drop}
use borrow.Author.Tests.{eq-eqb, ltb-true, ne_eqb}
use Rattle.model.specs.Log.{Record, log_at, no_record, record_at}
use Rattle.model.specs.Records.{letter_at, log_bytes, record_length}
use Rattle.model.specs.Systems.{System}
use Rattle.model.proofs.Lists.{each_get, get_d_mem}
use Rattle.model.proofs.RecordBytes.{from_letter, length_log, record_from}
use Rattle.model.proofs.Tests.{by_test}
use Rattle.buffers.specs.Buffers.{Cleared}
use Rattle.states.specs.StateSets.{first_from, set_length}
use Rattle.states.proofs.StateSets.{first_at}
use Rattle.scratch.specs.Regions.{active_at, keys_at, order_at, passed_at, rings_at, writers_at}
use Rattle.rings.specs.Rings.{Freshened, OutsideSame, Ringed}
use Rattle.rings.proofs.Keeping.{freshened_scratch, ringed_scratch}
use Rattle.keys.specs.Keys.{Indexed, KeyRoom}
use Rattle.keys.proofs.Keeping.{indexed_scratch}
use Rattle.table.specs.declared.Table.{Table}
use Rattle.table.specs.Reading.{Holds, rule_in, saturated_in}
use Rattle.table.proofs.Layouts.{table_modest}
use Rattle.logs.proofs.Logs.{Keyed, log_over}
use Rattle.rules.specs.Regions.{has_position, position_ceiling}
use Rattle.rules.specs.Rules.{RulesOrdered, Writers, WritersMarked, has_letter, letter_ceiling, ordered_rule, writers_of, writes_letter}
use Rattle.rules.proofs.ActivePositions.{gathered_active}
use Rattle.rules.proofs.RegionLaws.{bit_or_lem, in_same}
use Rattle.rules.proofs.RuleOrder.{ordered_same}
use Rattle.heads.specs.declared.Round.{Round}
use Rattle.heads.specs.Rounds.{InRound, Prepared, earlier_log, is_active}
use Rattle.heads.proofs.InRounds.{Keeps, active_kept, keep_prepared, rule_kept}
use Rattle.saturate.specs.Adding.{HoldsRounds, rounds_length}
use Rattle.saturate.specs.Rounds.{Activated, FreshLetters, KeysIndexed, LetterIn, Logged, RoundBegins, ScratchReady}

-- the bytes from one offset on and below another are the same
abbrev SameIn : ℕ → ℕ → List ℕ → List ℕ → Type 0
SameIn from to s s' = (i : ℕ) → from ≤ i → i < to → get_or s' i 0 ≡ get_or s i 0

-- ---- the rules in order
module _ (table : List ℕ) (t : Table) (holds : Holds table t) (s s' : List ℕ) where
  order_kept : SameIn order_at active_at s s' → (p : ℕ) → p < t.rules → ordered_rule s' p ≡ ordered_rule s p
  order_kept same p l = same (order_at + p) (omega arith) (omega (arith, (table_modest table t holds).rules))

  writers_kept : SameIn order_at active_at s s' → SameIn writers_at passed_at s s' → Writers table t.letters t.rules s → Writers table t.letters t.rules s'
  writers_kept order sets w = record {
    positions = λ a p la lp. in_same s s' (writers_of a) p (sets (writers_of a + p / 8) (omega arith) (omega (arith, (table_modest table t holds).letters)))
        ∙ w.positions a p la lp ∙ by_test (ltb p t.rules)
        (λ y. rw y (ap (λ (k : ℕ). writes_letter a (rule_in table k)) (sym (order_kept order p (ltb-true p t.rules y)))))
        (λ f. rw f);
  }

  -- the active positions, which stand between the order and the sets of writers, may change
  prepared_kept : SameIn order_at active_at s s' → SameIn writers_at (passed_at + 2 * set_length) s s' → Prepared table t s → Prepared table t s'
  prepared_kept order rest p = record {
    ordered = ordered_same table t.rules s s' (order_kept order) p.ordered;
    writers = writers_kept order (λ i a b. rest i a (omega arith)) p.writers;
    first_depth = λ i a b. rest i (omega arith) (omega arith) ∙ p.first_depth i a b;
  }

-- ---- the scratch made ready
pub scratch_ready : {table : List ℕ} {t : Table} → Holds table t → {n : ℕ} {log s s₁ s₂ s₃ s₄ s₅ : List ℕ} → RulesOrdered table t.rules s s₁
    → WritersMarked table t.letters t.rules s₁ s₂ → Cleared passed_at (passed_at + 1024) s₂ s₃ → OutsideSame (6 * n) rings_at s₃ s₄ → Ringed log 0 n rings_at s₄
    → OutsideSame (4 * n) (keys_at n) s₄ s₅ → Indexed log 0 n (keys_at n) s₅ → ScratchReady table t n log s s₅
scratch_ready {table} {t} holds {n} {log} {s₁ = s₁} {s₂ = s₂} {s₄ = s₄} {s₅ = s₅} o w c k r x y = record {
  size = x.size ∙ k.size ∙ c.size ∙ w.kept.size ∙ o.size;
  prepared = record {
    ordered = ordered_same table t.rules s₁ s₅ (λ p l. same (order_at + p) (omega (arith, few)) ∙ w.kept.outside (order_at + p) (inl (omega (arith, few)))) o.ordered;
    writers = writers_kept table t holds s₂ s₅ (λ i a b. same i (omega arith)) (λ i a b. same i b) w.writers;
    first_depth = λ i a b. x.before i (omega arith) ∙ k.before i (omega arith) ∙ c.zero i a (omega arith);
  };
  ringed = ringed_scratch log 0 n rings_at s₄ s₅ (omega arith) (λ i a b. x.before i (omega arith)) r;
  indexed = y;
}
  where
    few : t.rules ≤ 200
    few = (table_modest table t holds).rules

    same : (i : ℕ) → i < passed_at → get_or s₅ i 0 ≡ get_or s₂ i 0
    same i l = x.before i (omega arith) ∙ k.before i (omega arith) ∙ c.before i l

-- ---- the index
-- ---- letters
power_bit : (k : ℕ) → has_letter (2 ^ k) k ≡ true
power_bit k = rw (div_self (pow_pos k))

one_shifted : (k : ℕ) → k < 32 → 1 * 2 ^ k % 4294967296 ≡ 2 ^ k
one_shifted k l = rw one-mul (mod-eq_of_lt (pow-lt {j = 32} l))

letter_or : (letters a : ℕ) → LetterIn letters a (bit_or letters (2 ^ (a % letter_ceiling)))
letter_or letters a = record {
  has = bit_or_lem letters (2 ^ (a % letter_ceiling)) (a % letter_ceiling) ∙ by_test (has_letter letters (a % letter_ceiling)) (λ y. rw y) (λ f. rw f (power_bit (a % letter_ceiling)));
  kept = λ b h. bit_or_lem letters (2 ^ (a % letter_ceiling)) b ∙ rw h;
}

-- one bit of 32 is set
pub letter_set : (letters a v : ℕ) → v ≡ a → LetterIn letters a (bit_or letters (1 * 2 ^ (v % 32) % 4294967296))
letter_set letters a v e = subst (LetterIn letters a) (ap (bit_or letters) (sym (one_shifted (v % 32) (omega arith) ∙ ap (λ (x : ℕ). 2 ^ (x % 32)) e))) (letter_or letters a)

pub letters_more : (log : List ℕ) (lo r x y : ℕ) → FreshLetters log lo r x → LetterIn x (letter_at log r) y → FreshLetters log lo (r + 1) y
letters_more log lo r x y f d i a b = elim (dec_lt i r) [
  | yes l ↦ d.kept (letter_at log i % letter_ceiling) (f i a l)
  | no l ↦ let e : i ≡ r = omega arith in subst (λ (j : ℕ). has_letter y (letter_at log j % letter_ceiling) ≡ true) (sym e) d.has
]

-- ---- records and their letters
-- the log's first bytes, counted in bytes and in records
pub rounds_long : (sys : System) (k base : ℕ) → base ≡ length (log_at sys k) → rounds_length sys k ≡ base * record_length
rounds_long sys k base e = length_log (log_at sys k) ∙ ap (λ (m : ℕ). m * record_length) (sym e)

pub rounds_logged : (sys : System) (k base : ℕ) (log : List ℕ) → base ≡ length (log_at sys k) → HoldsRounds sys k log → Logged (log_at sys k) base log
rounds_logged sys k base log e h = record { size = e; bytes = ap (λ (m : ℕ). take m log) (sym (rounds_long sys k base e)) ∙ h }

pub logged_rounds : (sys : System) (k base : ℕ) (log : List ℕ) → Logged (log_at sys k) base log → HoldsRounds sys k log
logged_rounds sys k base log l = ap (λ (m : ℕ). take m log) (rounds_long sys k base l.size) ∙ l.bytes

module _ (table : List ℕ) (t : Table) (holds : Holds table t) (base number : ℕ) (log : List ℕ) (logged : Logged (earlier_log table number) base log) where
  split : log ≡ log_bytes (earlier_log table number) ++ drop (base * record_length) log
  split = sym (take-append-drop (base * record_length) log) ∙ ap (λ (l : List ℕ). l ++ drop (base * record_length) log) logged.bytes

  pub letter_is : (i : ℕ) → i < base → letter_at log i ≡ (record_at (earlier_log table number) i).key.letter
  letter_is i l = from_letter log i (record_at (earlier_log table number) i) _
      (record_from (earlier_log table number) (drop (base * record_length) log) log i split (omega (arith, logged.size)))

  letter_small : (i : ℕ) → i < base → letter_at log i < letter_ceiling
  letter_small i l =
      let R = earlier_log table number in
      let k = each_get (λ (x : Record). Keyed table t x.key) (record_at R i) R (log_over table t holds (number - 1)) (get_d_mem R i no_record (omega (arith, logged.size))) in
      omega (arith, letter_is i l, k.0, (table_modest table t holds).letters)

  -- each letter of the table has its own bit
  pub letters_fresh : (lo fresh : ℕ) → FreshLetters log lo base fresh → (i : ℕ) → lo ≤ i → i < base → has_letter fresh (letter_at log i) ≡ true
  letters_fresh lo fresh f i a b =
      let e : letter_at log i % letter_ceiling ≡ letter_at log i = omega (arith, letter_small i b) in
      subst (λ (x : ℕ). has_letter fresh x ≡ true) e (f i a b)

-- ---- the round stands
-- the records of round k are in rings, their letters gathered, the positions made active, and the keys indexed
module _ {table : List ℕ} {t : Table} {lo base n k : ℕ} {log s : List ℕ} {fresh : ℕ} {s₁ s₂ : List ℕ} (b : RoundBegins table t lo base n k log s)
    (o : OutsideSame (6 * n) rings_at s s₁) (letters : FreshLetters log lo base fresh) (a : Activated t (k + 1) fresh s₁ s₂) where
  abbrev round : Round
  round = record { number = k + 1; lo = lo; base = base; fresh = fresh; n = n }

  prepared_rings : Prepared table t s₁
  prepared_rings = prepared_kept table t b.holds s s₁ (λ i p q. o.before i (omega arith)) (λ i p q. o.before i (omega arith)) b.prepared

  looked_at_lem : (p : ℕ) → p < position_ceiling → has_position s₂ active_at p ≡ (ltb p t.rules && is_active round (rule_in table (ordered_rule s₂ p)))
  unfolding is_active
  looked_at_lem p l = elim (ℕ_discrete (k + 1) 1) [
    | yes e ↦ (a.first e).positions p l ∙ rw (eq-eqb (k + 1) 1 e) (by_test (ltb p t.rules) (λ y. rw y) (λ f. rw f))
    | no e ↦ (gathered_active table t b.holds fresh s₁ s₂ prepared_rings.writers prepared_rings.ordered (a.later e)).positions p l ∙ rw (ne_eqb (k + 1) 1 e)
  ]

  prepared_active : Prepared table t s₂
  prepared_active = prepared_kept table t b.holds s₁ s₂ (λ i p q. a.kept.outside i (inl q)) (λ i p q. a.kept.outside i (inr (omega arith))) prepared_rings

  size_active : length s₂ ≡ length s
  size_active = a.kept.size ∙ o.size

  key_room : KeyRoom log base n (keys_at n) s₂
  key_room = record { fits = b.fits; short = omega (arith, b.room); records = omega (arith, b.fits, b.room); room = omega (arith, b.scratch, size_active) }

  -- the index may be lengthened
  pub may_index : (lo ≤ base) × KeyRoom log base n (keys_at n) s₂ × Indexed log lo n (keys_at n) s₂
  may_index = (
    b.low,
    key_room,
    indexed_scratch log lo n (keys_at n) s s₂ (omega (arith, b.low, b.fits)) (λ i p q. a.kept.outside i (inr (omega arith)) ∙ o.behind i (omega arith)) b.indexed,
  )

  module _ {position : ℕ} {s₃ : List ℕ} (first : position ≡ first_from (has_position s₂ active_at) 0 (position_ceiling - 0)) (x : KeysIndexed t base n position log s₂ s₃) where
    pub keys_keep : Keeps s₂ s₃
    keys_keep i p q = x.outside.before i (omega arith)

    links_kept : (i : ℕ) → rings_at ≤ i → i < keys_at n → get_or s₃ i 0 ≡ get_or s₁ i 0
    links_kept i p q = x.outside.before i q ∙ a.kept.outside i (inr (omega arith))

    -- a position that is active is not before the first one
    indexed_at : (p : ℕ) → p < t.rules → has_position s₃ active_at p ≡ true → Indexed log base n (keys_at n) s₃
    indexed_at p l y =
        let few = (table_modest table t b.holds).rules in
        let lit : has_position s₂ active_at p ≡ true = sym (active_kept table t b.holds s₂ s₃ keys_keep p (omega arith)) ∙ y in
        elim (dec_lt p position) [
          | yes e ↦ absurd (true≢false (sym lit ∙ (first_at (has_position s₂ active_at) 0 (position_ceiling - 0) position first).fails p (omega arith) e))
          | no e ↦ x.indexed (omega arith)
        ]

    pub round_stands : Ringed log base n rings_at s₁ → Freshened log lo base n rings_at s₁ → InRound table t round log s₃
    round_stands r f =
        let earlier : k ≡ k + 1 - 1 = omega arith in
        let logged : Logged (earlier_log table (k + 1)) base log = subst (λ (j : ℕ). Logged (log_at (saturated_in table) j) base log) earlier (rounds_logged (saturated_in table) k base log b.size b.handed) in
        record {
          holds = b.holds;
          begun = omega arith;
          late = omega (arith, b.late);
          size = logged.size;
          bytes = logged.bytes;
          records = omega (arith, b.room);
          low = b.low;
          last = λ l. b.last (omega arith) ∙ ap (λ (j : ℕ). length (log_at (saturated_in table) j)) (let e : k - 1 ≡ k + 1 - 2 = omega arith in e);
          fresh = letters_fresh table t b.holds base (k + 1) log logged lo fresh letters;
          room = record { fits = b.fits; short = omega (arith, b.room); records = omega (arith, b.fits, b.room); room = omega (arith, b.scratch, size_active, x.outside.size) };
          ringed = ringed_scratch log base n rings_at s₁ s₃ b.fits (λ i p q. links_kept i p q) r;
          freshened = freshened_scratch log lo base n rings_at s₁ s₃ (λ i p q. links_kept i p q) f;
          prepared = keep_prepared table t b.holds s₂ s₃ keys_keep prepared_active;
          active = λ p l. active_kept table t b.holds s₂ s₃ keys_keep p l ∙ looked_at_lem p l ∙ rule_kept table t b.holds s₂ s₃ keys_keep (is_active round) p;
          links = omega (arith, b.scratch, size_active, x.outside.size);
          indexed = indexed_at;
        }
