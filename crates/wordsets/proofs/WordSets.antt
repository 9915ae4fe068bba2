-- Laws of sets by words: what one record adds.
use mathlib.Core.Path.{◌≡◌, refl, ap, ap₂, sym, subst, ◌∙◌}
use mathlib.Core.Bool.{Bool, true, false, ◌&&◌, ◌||◌, false≢true, and-false, and_comm, or-false, or_assoc, and-or_distrib_right}
use mathlib.Core.Logic.{⊎_elim, inl, inr}
use mathlib.Core.List.{List}
use Prim.Native.Nat.{ℕ, ◌+◌, ◌-◌, ◌*◌, ◌/◌, ◌%◌, ◌^◌, ◌<◌, ◌≤◌}
use native.Mathlib.Decide.{ℕ_discrete, dec_lt}
use native.Mathlib.Omega.{arith}
use lib.Bits.{bit_and}
use lib.Dec.{leb, ltb}
use lib.ListN.{length}
use borrow.Author.Tests.{le-leb, lt-leb, lt-ltb, le-ltb, leb-true, ltb-true}
use Rattle.model.proofs.Tests.{by_test, same_test, and_left, and_right, or_true_left}
use Rattle.model.specs.Records.{number_at}
use Rattle.numbers.specs.NumberBytes.{with_number}
use Rattle.numbers.proofs.NumberBytes.{AllBytes, byte_kept, length_number, number_bytes}
use Rattle.wordsets.specs.WordSets.{has_bit, in_set, word_sum, gains, in_words, OutsideSet, SetsApart, RowAdded, in_block, BlockFits, RecordAdded}
use Rattle.wordsets.proofs.Bits.{bit_and_lem, bit_shr, number_bit, number_none, written_bit, sum_bit, in_same, in_word}

or_more : (a b c g : Bool) → (b ≡ true → c ≡ true) → (a || (b && g)) ≡ true → (a || (c && g)) ≡ true
or_more true b c g m e = refl
or_more false true c g m e = rw (m refl) e
or_more false false c g m e = absurd (false≢true e)

-- the set `from` is as it was where only the set at `to` has changed
from_same : {from to : ℕ} {s t : List ℕ} → SetsApart s from to → OutsideSet to s t → (q : ℕ) → q < 4096 → in_set t from q ≡ in_set s from q
from_same {from} {to} {s} {t} sep out q h = in_same s t from q (⊎_elim
    (λ (l : from + 512 ≤ to). out.before (from + q / 8) (omega arith))
    (λ (l : to + 512 ≤ from). out.behind (from + q / 8) (omega arith))
    sep.apart)

-- the words below w are added
pub record Adding (from to y x rest low w : ℕ) (s t : List ℕ) (common : ℕ) : Type 0 where
  pub later : low ≤ w
  pub row : RowAdded from to y x rest low w s t common
  pub bytes : AllBytes t

no_words : (x low n : ℕ) → in_words x low low n ≡ false
unfolding in_words
no_words x low n = elim (dec_lt (n / 64) (x / 64 + low)) [
  | yes l ↦ rw (lt-leb (x / 64 + low) (n / 64) l)
  | no l ↦ rw (le-leb (x / 64 + low) (n / 64) (omega arith), le-ltb (n / 64) (x / 64 + low) (omega arith))
]

pub adding_start : (from to y x rest low : ℕ) (s : List ℕ) → AllBytes s → Adding from to y x rest low low s s rest
adding_start from to y x rest low s b = record {
  later = omega arith;
  row = record {
    outside = record { size = refl; before = λ i h. refl; behind = λ i h. refl };
    members = λ n h. rw (no_words x low n) (sym (or-false (in_set s to n)));
    shared = λ j w b l p q. absurd (omega arith);
  };
  bytes = b;
}

module _ {from to y x rest low high w : ℕ} {s t : List ℕ} {common : ℕ} (sep : SetsApart s from to) (less : w < high) (fy : y / 64 + high ≤ 64) (fx : x / 64 + high ≤ 64) (a : Adding from to y x rest low w s t common) where
  abbrev source : ℕ
  source = from + 8 * (y / 64 + w)

  abbrev target : ℕ
  target = to + 8 * (x / 64 + w)

  abbrev value : ℕ
  value = word_sum (number_at 8 t source) (number_at 8 t target) (y % 64) (x % 64) rest

  abbrev next : List ℕ
  next = with_number 8 t target value

  room : target + 8 ≤ length t
  room = omega (arith, sep.to_room, a.row.outside.size)

  -- bit q of the word that is read
  read_bit : (q : ℕ) → has_bit (number_at 8 t source) q ≡ ltb q 64 && in_set s from (64 * (y / 64 + w) + q)
  read_bit q = elim (dec_lt q 64) [
    | yes l ↦ number_bit 8 t source q a.bytes l ∙ sym (in_word t from (y / 64 + w) q) ∙ from_same sep a.row.outside (64 * (y / 64 + w) + q) (omega arith)
        ∙ sym (ap (λ (b : Bool). b && in_set s from (64 * (y / 64 + w) + q)) (lt-ltb q 64 l))
    | no l ↦ number_none 8 t source q a.bytes (omega arith) ∙ sym (ap (λ (b : Bool). b && in_set s from (64 * (y / 64 + w) + q)) (le-ltb q 64 (omega arith)))
  ]

  -- the word that is written
  here : (j : ℕ) → j < 64 → in_set next to (64 * (x / 64 + w) + j)
      ≡ in_set t to (64 * (x / 64 + w) + j) || (leb (x % 64) j && (has_bit rest (j - x % 64) && (ltb (y % 64 + (j - x % 64)) 64 && in_set s from (64 * (y / 64 + w) + (y % 64 + (j - x % 64))))))
  here j h =
      let q = y % 64 + (j - x % 64) in
      in_word next to (x / 64 + w) j ∙ written_bit 8 t target value j room h ∙ sum_bit (number_at 8 t source) (number_at 8 t target) (y % 64) (x % 64) rest j h
      ∙ ap₂ (λ (b c : Bool). b || (leb (x % 64) j && c)) (number_bit 8 t target j a.bytes h ∙ sym (in_word t to (x / 64 + w) j))
      (and_comm (has_bit (number_at 8 t source) q) (has_bit rest (j - x % 64)) ∙ ap (λ (b : Bool). has_bit rest (j - x % 64) && b) (read_bit q))

  words_here : (n : ℕ) → n / 64 ≡ x / 64 + w → (in_words x low w n ≡ false) × (in_words x low (w + 1) n ≡ true)
  unfolding in_words
  words_here n e =
      let l : leb (x / 64 + low) (n / 64) ≡ true = le-leb (x / 64 + low) (n / 64) (omega (arith, a.later)) in
      (rw (l, le-ltb (n / 64) (x / 64 + w) (omega arith)), rw (l, lt-ltb (n / 64) (x / 64 + (w + 1)) (omega arith)))

  words_other : (n : ℕ) → (n / 64 ≡ x / 64 + w → ⊥) → in_words x low (w + 1) n ≡ in_words x low w n
  unfolding in_words
  words_other n ne = ap (λ (b : Bool). leb (x / 64 + low) (n / 64) && b) (elim (dec_lt (n / 64) (x / 64 + w)) [
    | yes l ↦ lt-ltb (n / 64) (x / 64 + (w + 1)) (omega arith) ∙ sym (lt-ltb (n / 64) (x / 64 + w) l)
    | no l ↦ le-ltb (n / 64) (x / 64 + (w + 1)) (omega arith) ∙ sym (le-ltb (n / 64) (x / 64 + w) (omega arith))
  ])

  words_more : (n : ℕ) → in_words x low w n ≡ true → in_words x low (w + 1) n ≡ true
  words_more n m = elim (ℕ_discrete (n / 64) (x / 64 + w)) [ yes e ↦ (words_here n e).1 | no ne ↦ words_other n ne ∙ m ]

  gains_here : (n : ℕ) → n / 64 ≡ x / 64 + w → gains s from y x rest n
      ≡ leb (x % 64) (n % 64) && (has_bit rest (n % 64 - x % 64) && (ltb (y % 64 + (n % 64 - x % 64)) 64 && in_set s from (64 * (y / 64 + w) + (y % 64 + (n % 64 - x % 64)))))
  unfolding gains
  gains_here n e = let z : n / 64 - x / 64 + y / 64 ≡ y / 64 + w = omega arith in rw z

  turn_members : (n : ℕ) → n < 4096 → in_set next to n ≡ in_set s to n || (in_words x low (w + 1) n && gains s from y x rest n)
  turn_members n h = elim (ℕ_discrete (n / 64) (x / 64 + w)) [
    | yes e ↦
        let is : 64 * (x / 64 + w) + n % 64 ≡ n = omega arith in
        let words = words_here n e in
        let old : in_set t to n ≡ in_set s to n = a.row.members n h ∙ ap (λ (b : Bool). in_set s to n || (b && gains s from y x rest n)) words.0 ∙ or-false (in_set s to n) in
        subst (λ (k : ℕ). in_set next to k ≡ in_set t to k || (leb (x % 64) (n % 64) && (has_bit rest (n % 64 - x % 64) && (ltb (y % 64 + (n % 64 - x % 64)) 64 && in_set s from (64 * (y / 64 + w) + (y % 64 + (n % 64 - x % 64)))))))
        is (here (n % 64) (omega arith))
        ∙ ap₂ (λ (b c : Bool). b || c) old (sym (gains_here n e) ∙ sym (ap (λ (b : Bool). b && gains s from y x rest n) words.1))
    | no ne ↦
        in_same t next to n (elim (dec_lt (n / 64) (x / 64 + w)) [
          | yes l ↦ byte_kept 8 t target value (to + n / 8) (inl (omega arith))
          | no l ↦ byte_kept 8 t target value (to + n / 8) (inr (omega arith))
        ])
        ∙ a.row.members n h ∙ ap (λ (b : Bool). in_set s to n || (b && gains s from y x rest n)) (sym (words_other n ne))
  ]

  -- what was in the set stays
  kept : (n : ℕ) → n < 4096 → in_set t to n ≡ true → in_set next to n ≡ true
  kept n h m = turn_members n h ∙ or_more (in_set s to n) (in_words x low w n) (in_words x low (w + 1) n) (gains s from y x rest n) (words_more n) (sym (a.row.members n h) ∙ m)

  turn_shared : (j v : ℕ) → has_bit (bit_and common (value / 2 ^ (x % 64))) j ≡ true → x % 64 + j < 64 → low ≤ v → v < w + 1 → in_set next to (64 * (x / 64 + v) + (x % 64 + j)) ≡ true
  turn_shared j v b l p q =
      let both : (has_bit common j && has_bit (value / 2 ^ (x % 64)) j) ≡ true = sym (bit_and_lem common (value / 2 ^ (x % 64)) j) ∙ b in
      elim (ℕ_discrete w v) [
        | yes e ↦ subst (λ (i : ℕ). in_set next to (64 * (x / 64 + i) + (x % 64 + j)) ≡ true) e
            (in_word next to (x / 64 + w) (x % 64 + j) ∙ written_bit 8 t target value (x % 64 + j) room l
            ∙ sym (bit_shr value (x % 64) j) ∙ and_right (has_bit common j) (has_bit (value / 2 ^ (x % 64)) j) both)
        | no e ↦ kept (64 * (x / 64 + v) + (x % 64 + j)) (omega arith) (a.row.shared j v (and_left (has_bit common j) (has_bit (value / 2 ^ (x % 64)) j) both) l p (omega arith))
      ]

  pub adding_turn : Adding from to y x rest low (w + 1) s next (bit_and common (value / 2 ^ (x % 64)))
  adding_turn = record {
    later = omega (arith, a.later);
    row = record {
      outside = record {
        size = length_number 8 t target value ∙ a.row.outside.size;
        before = λ i l. byte_kept 8 t target value i (inl (omega arith)) ∙ a.row.outside.before i l;
        behind = λ i l. byte_kept 8 t target value i (inr (omega arith)) ∙ a.row.outside.behind i l;
      };
      members = turn_members;
      shared = turn_shared;
    };
    bytes = number_bytes 8 t target value a.bytes;
  }

-- ---- row after row
no_block : (x words n : ℕ) → in_block x 0 words n ≡ false
unfolding in_block
no_block x words n =
    let w = n / 64 - x / 64 in
    ap (λ (b : Bool). leb (x / 64) (n / 64) && (b && ltb (w % 8) words)) (le-ltb (w / 8) 0 (omega arith)) ∙ and-false (leb (x / 64) (n / 64))

pub record_start : (from to y x rest words : ℕ) (s : List ℕ) → RecordAdded from to y x rest 0 words s s rest
record_start from to y x rest words s = record {
  outside = record { size = refl; before = λ i h. refl; behind = λ i h. refl };
  members = λ n l. rw (no_block x words n) (sym (or-false (in_set s to n)));
  shared = λ j h w b l p q. absurd (omega arith);
}

-- one row more of the block
block_turn : (x h words n : ℕ) → words ≤ 8 → in_block x (h + 1) words n ≡ in_block x h words n || in_words x (8 * h) (8 * h + words) n
unfolding in_block in_words
block_turn x h words n f =
    let v = n / 64 in
    let k = x / 64 in
    let w = v - k in
    let row = leb (k + 8 * h) v && ltb v (k + (8 * h + words)) in
    elim (dec_lt v k) [
      | yes q ↦ rw (lt-leb k v q, lt-leb (k + 8 * h) v (omega arith))
      | no q ↦ rw (le-leb k v (omega arith)) (elim (ℕ_discrete (w / 8) h) [
        | yes e ↦
            let d : ltb (w % 8) words ≡ ltb v (k + (8 * h + words)) = same_test (ltb (w % 8) words) (ltb v (k + (8 * h + words)))
            (λ t. lt-ltb v (k + (8 * h + words)) (omega (arith, ltb-true (w % 8) words t)))
            (λ t. lt-ltb (w % 8) words (omega (arith, ltb-true v (k + (8 * h + words)) t))) in
            rw (lt-ltb (w / 8) (h + 1) (omega arith), le-ltb (w / 8) h (omega arith), le-leb (k + 8 * h) v (omega arith)) d
        | no e ↦ elim (dec_lt (w / 8) h) [
          | yes m ↦ rw (lt-ltb (w / 8) (h + 1) (omega arith), lt-ltb (w / 8) h m, lt-leb (k + 8 * h) v (omega arith)) (sym (or-false (ltb (w % 8) words)))
          | no m ↦ rw (le-ltb (w / 8) (h + 1) (omega arith), le-ltb (w / 8) h (omega arith)) (sym (ap (λ (b : Bool). leb (k + 8 * h) v && b) (le-ltb v (k + (8 * h + words)) (omega arith)) ∙ and-false (leb (k + 8 * h) v)))
        ]
      ])
    ]

-- what a word of the row gains does not hang on the set that is filled
gains_same : (from to y x rest low high n : ℕ) (s t : List ℕ) → SetsApart s from to → OutsideSet to s t → y / 64 + high ≤ 64
    → (in_words x low high n && gains t from y x rest n) ≡ (in_words x low high n && gains s from y x rest n)
unfolding gains in_words
gains_same from to y x rest low high n s t sep out f = by_test (leb (x / 64 + low) (n / 64))
    (λ m. by_test (ltb (n / 64) (x / 64 + high))
    (λ l. rw (m, l) (ap (λ (b : Bool). leb (x % 64) (n % 64) && (has_bit rest (n % 64 - x % 64) && b)) (inner (leb-true (x / 64 + low) (n / 64) m) (ltb-true (n / 64) (x / 64 + high) l))))
    (λ l. rw (m, l)))
    (λ m. rw m)
  where
    q : ℕ
    q = y % 64 + (n % 64 - x % 64)

    k : ℕ
    k = 64 * (n / 64 - x / 64 + y / 64) + q

    inner : x / 64 + low ≤ n / 64 → n / 64 < x / 64 + high → (ltb q 64 && in_set t from k) ≡ (ltb q 64 && in_set s from k)
    inner h l = by_test (ltb q 64)
        (λ m. let small : q < 64 = ltb-true q 64 m in ap (λ (b : Bool). ltb q 64 && b) (from_same sep out k (omega arith)))
        (λ m. rw m)

pub record_turn : {from to y x rest rows words h : ℕ} {s t u : List ℕ} (common row : ℕ) → SetsApart s from to → BlockFits y x rows words → h < rows → RecordAdded from to y x rest h words s t common
    → RowAdded from to y x rest (8 * h) (8 * h + words) t u row → RecordAdded from to y x rest (h + 1) words s u (bit_and common row)
record_turn {from} {to} {y} {x} {rest} {rows} {words} {h} {s} {t} {u} common row sep fits l b r = record {
  outside = record {
    size = r.outside.size ∙ b.outside.size;
    before = λ i q. r.outside.before i q ∙ b.outside.before i q;
    behind = λ i q. r.outside.behind i q ∙ b.outside.behind i q;
  };
  members = λ n q.
      r.members n q
      ∙ ap₂ (λ (c d : Bool). c || d) (b.members n q) (gains_same from to y x rest (8 * h) (8 * h + words) n s t sep b.outside (omega (arith, fits.after, fits.short)))
      ∙ or_assoc (in_set s to n) (in_block x h words n && gains s from y x rest n) (in_words x (8 * h) (8 * h + words) n && gains s from y x rest n)
      ∙ ap (λ (c : Bool). in_set s to n || c) (sym (and-or_distrib_right (in_block x h words n) (in_words x (8 * h) (8 * h + words) n) (gains s from y x rest n)))
      ∙ ap (λ (c : Bool). in_set s to n || (c && gains s from y x rest n)) (sym (block_turn x h words n fits.short));
  shared = λ j i w bit f p q.
      let both : (has_bit common j && has_bit row j) ≡ true = sym (bit_and_lem common row j) ∙ bit in
      let place = 64 * (x / 64 + (8 * i + w)) + (x % 64 + j) in
      elim (ℕ_discrete h i) [
        | yes e ↦ r.shared j (8 * i + w) (and_right (has_bit common j) (has_bit row j) both) f (omega arith) (omega arith)
        | no e ↦ r.members place (omega (arith, fits.before)) ∙ or_true_left (in_set t to place) _ (b.shared j i w (and_left (has_bit common j) (has_bit row j) both) f (omega arith) q)
      ];
}
