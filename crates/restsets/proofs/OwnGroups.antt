-- The own numbers of a letter's groups, what one record adds in terms of them, and what is gone through for a letter.
use mathlib.Core.Path.{◌≡◌, refl, ap, sym, ◌∙◌, subst}
use mathlib.Core.Bool.{Bool, true, false, cond, ◌&&◌, true≢false}
use mathlib.Core.List.{List}
use Prim.Native.Nat.{ℕ, ◌+◌, ◌*◌, ◌/◌, ◌%◌, ◌<◌, ◌≤◌}
use native.Mathlib.Omega.{arith}
use lib.ListN.{get_or}
use lib.Dec.{eqb}
use borrow.Author.Tests.{eqb-true, eqb-false}
use Rattle.model.specs.declared.Group.{Group}
use Rattle.model.specs.Groups.{Process, Processes, p0, p1, p2, p3, at, has, restrict, merge}
use Rattle.model.specs.Records.{group_at, number_at}
use Rattle.model.proofs.Groups.{ext, at_merge, at_restrict}
use Rattle.model.proofs.Tests.{by_test, each_process}
use Rattle.states.specs.StateNumbers.{state_count, state_number, digit, group_numbered, Over}
use Rattle.states.proofs.StateNumbers.{state_number_below, digit_number, digits_number, at_numbered}
use Rattle.packs.specs.Packs.{packed, Bytes, mask_of, packed_merge, packed_number}
use Rattle.packs.proofs.Packs.{bytes_of, merge_bits, pack_group, pack_number}
use Rattle.packs.proofs.Unpacked.{merge_bytes}
use Rattle.logs.proofs.Rules.{over_restrict}
use Rattle.wordsets.specs.WordSets.{has_bit, in_set, gains, in_block, BlockFits, RestBits}
use Rattle.wordsets.proofs.States.{stated, plus, rest_has, Offset, adds_like, added_offsets}
use Rattle.rests.specs.Rests.{no_states, own_number}
use Rattle.restsets.specs.declared.Frame.{Frame}
use Rattle.restsets.specs.OwnGroups.{extent, Single, Framed, Numbered, InFrame, FrameTo}

-- ---- digits
pub digit_small : (x : ℕ) (i : Process) → digit x i < 8
digit_small x = each_process (λ i. digit x i < 8) (omega arith) (omega arith) (omega arith) (omega arith)

stated_same : (D E : Process → ℕ) → ((i : Process) → D i ≡ E i) → stated D ≡ stated E
stated_same D E e = omega (arith, e p0, e p1, e p2, e p3)

digit_stated : (D : Process → ℕ) → ((i : Process) → D i < 8) → (i : Process) → digit (stated D) i ≡ D i
digit_stated D h =
    let low : (D p0 < 8) × (D p1 < 8) × (D p2 < 8) × (D p3 < 8) = (h p0, h p1, h p2, h p3) in
    each_process (λ i. digit (stated D) i ≡ D i) (omega (arith, low)) (omega (arith, low)) (omega (arith, low)) (omega (arith, low))

number_stated : (g : Group) → state_number g ≡ stated (λ i. at g i % 8)
unfolding state_number
number_stated g = refl

-- two numbers with the same digits
digits_same : (x y : ℕ) → x < state_count → y < state_count → ((i : Process) → digit x i ≡ digit y i) → x ≡ y
digits_same x y h l e = sym (digits_number x h) ∙ stated_same (digit x) (digit y) e ∙ digits_number y l

-- ---- own numbers
zero_at : (i : Process) → at no_states i ≡ 0
zero_at = each_process (λ i. at no_states i ≡ 0) refl refl refl refl

pub own_digit : (L : Processes) (g : Group) (i : Process) → digit (own_number L g) i ≡ cond (has L i) (at g i % 8) 0
unfolding own_number
own_digit L g i = digit_number (merge L g no_states) i ∙ ap (λ (n : ℕ). n % 8) (at_merge L g no_states i)
    ∙ by_test (has L i) (λ y. rw y) (λ n. rw (n, zero_at i))

pub own_below : (L : Processes) (g : Group) → own_number L g < state_count
unfolding own_number
own_below L g = state_number_below (merge L g no_states)

-- the letter's states are found again from the own number
pub numbered_own : (L : Processes) (g : Group) → Numbered L g → group_numbered L (own_number L g) ≡ restrict L g
numbered_own L g h = ext (λ i. at_numbered L (own_number L g) i ∙ by_test (has L i)
    (λ y. rw (at_restrict L g i, own_digit L g i, y) (let b : at g i < 8 = h i y in omega arith))
    (λ n. rw (at_restrict L g i, n)))

-- g has the letter's states b exactly if it has their own number
pub restrict_own : (L : Processes) (g b : Group) → Over L b → restrict L g ≡ b → own_number L g ≡ own_number L b
restrict_own L g b o e = digits_same (own_number L g) (own_number L b) (own_below L g) (own_below L b) (λ i. rw (own_digit L g i, own_digit L b i) (by_test (has L i)
    (λ y.
    let same : at g i ≡ at b i = sym (at_restrict L g i ∙ ap (λ (c : Bool). cond c (at g i) 255) y) ∙ ap (λ (h : Group). at h i) e in
    rw y (ap (λ (n : ℕ). n % 8) same))
    (λ n. rw n)))

pub own_restrict : (L : Processes) (g b : Group) → Numbered L g → Over L b → own_number L g ≡ own_number L b → restrict L g ≡ b
own_restrict L g b h o e = sym (numbered_own L g h) ∙ ap (group_numbered L) e ∙ numbered_own L b o.inside ∙ over_restrict L b o

-- a state that is 0 at every other process: its number, and that of where a record leads from it
module _ (L : Processes) (g : Group) (none : (i : Process) → has L i ≡ false → at g i % 8 ≡ 0) where
  pub single_number : state_number g ≡ own_number L g
  single_number = digits_same (state_number g) (own_number L g) (state_number_below g) (own_below L g)
      (λ i. rw (digit_number g i, own_digit L g i) (by_test (has L i) (λ y. rw y) (λ n. rw n (none i n))))

  pub single_target : (after : Group) → state_number (merge L after g) ≡ own_number L after
  single_target after = digits_same (state_number (merge L after g)) (own_number L after) (state_number_below (merge L after g)) (own_below L after)
      (λ i. rw (digit_number (merge L after g) i, at_merge L after g i, own_digit L after i) (by_test (has L i) (λ y. rw y) (λ n. rw n (none i n))))

-- the own number of a group of a record, from its bytes
pub own_at : (L : Processes) (mask : ℕ) (log : List ℕ) (from : ℕ) → mask ≡ mask_of L → ((m : ℕ) → get_or log m 0 < 256) → packed_number (packed_merge mask (number_at 4 log from) 0) ≡ own_number L (group_at log from)
unfolding own_number group_at packed
own_at L mask log from e bytes =
    let g = group_at log from in
    let small : Bytes g = bytes_of g (bytes _) (bytes _) (bytes _) (bytes _) in
    let none : Bytes no_states = λ i. rw (zero_at i) (omega arith) in
    ap (λ (m : ℕ). packed_number (packed_merge m (number_at 4 log from) 0)) e
    ∙ ap (λ (n : ℕ). packed_number (packed_merge (mask_of L) n 0)) (pack_group log from)
    ∙ ap packed_number (merge_bits L g no_states small none)
    ∙ pack_number (merge L g no_states) (merge_bytes L g no_states small none)

bit_inside : (x a b : ℕ) → digit x p2 + a < 8 → digit x p3 + b < 8 → x % 64 + (8 * a + b) < 64
bit_inside x a b h l = omega arith

place_is : (x a b c d : ℕ) → x < state_count → (digit x p0 + a) * 512 + (digit x p1 + b) * 64 + (digit x p2 + c) * 8 + (digit x p3 + d) ≡ 64 * (x / 64 + (8 * a + b)) + (x % 64 + (8 * c + d))
place_is x a b c d h =
    let high : x / 64 ≡ 8 * digit x p0 + digit x p1 = omega arith in
    let low : x % 64 ≡ 8 * digit x p2 + digit x p3 = omega arith in
    omega arith

-- a number in the words of a frame behind x: its row, its word in the row, and its bit of rest
pub record Place (L : Processes) (f : Frame) (x n : ℕ) : Type 0 where
  pub row : ℕ
  pub word : ℕ
  pub bit : ℕ
  pub in_rows : row < f.rows
  pub in_words : word < f.words
  pub inside : x % 64 + bit < 64
  pub has_bit_lem : has_bit f.rest bit ≡ true
  pub is : n ≡ 64 * (x / 64 + (8 * row + word)) + (x % 64 + bit)

-- ---- what a record with the own numbers x before and y after adds
module _ (L : Processes) (f : Frame) (fr : Framed L f) (x : ℕ) (before : Group) (is-own : x ≡ own_number L before) (after : Group) where
  abbrev y : ℕ
  y = own_number L after

  xb : x < state_count
  xb = omega (arith, own_below L before)

  no_own : (i : Process) → has L i ≡ false → digit x i ≡ 0
  no_own i n = ap (λ (m : ℕ). digit m i) is-own ∙ own_digit L before i ∙ ap (λ (b : Bool). cond b (at before i % 8) 0) n

  fits : (v : ℕ) → v < 8 → (i : Process) → (has L i ≡ false → v ≡ 0) → v + extent f i ≤ 8
  fits v h i z = by_test (has L i) (λ m. omega (arith, fr.alone i m)) (λ n. omega (arith, z n, fr.small i))

  own_offset : Offset (digit x) (digit (own_number L after)) (extent f) f.rest
  own_offset = record {
    before = λ i. fits (digit x i) (digit_small x i) i (no_own i);
    after = λ i. fits (digit y i) (digit_small y i) i (λ n. own_digit L after i ∙ ap (λ (b : Bool). cond b (at after i % 8) 0) n);
    some = fr.some;
    bits = fr.rest;
  }

  -- its words lie in the sets
  pub own_fits : BlockFits (own_number L after) x f.rows f.words
  own_fits = record {
    short = fr.small p1;
    after = in_words y (own_below L after) (own_offset.after p0) (own_offset.after p1);
    before = in_words x xb (own_offset.before p0) (own_offset.before p1);
  }
    where
      in_words : (z : ℕ) → z < state_count → digit z p0 + f.rows ≤ 8 → digit z p1 + f.words ≤ 8 → z / 64 + 8 * f.rows + f.words ≤ 72
      in_words z b h l = omega arith

  module _ (s : List ℕ) (from : ℕ) (g : Group) where
    abbrev n : ℕ
    n = state_number g

    -- offsets A lead from x to g's number
    record To (A : Process → ℕ) : Type 0 where
      inside : (i : Process) → A i < extent f i
      reaches : (i : Process) → at g i % 8 ≡ digit x i + A i

    -- they are 0 at the letter's processes
    like_digit : (A : Process → ℕ) → To A → (i : Process) → digit (own_number L after) i + A i ≡ at (merge L after g) i % 8
    like_digit A t i = rw (own_digit L after i, at_merge L after g i) (by_test (has L i)
        (λ m. let z : A i ≡ 0 = omega (arith, t.inside i, fr.alone i m) in rw (m, z) (omega arith))
        (λ n. let z : digit x i ≡ 0 = no_own i n in let e : at g i % 8 ≡ digit x i + A i = t.reaches i in rw n (omega arith)))

    gain_like : (A : Process → ℕ) → To A
        → (in_block x f.rows f.words (state_number g) && gains s from (own_number L after) x f.rest (state_number g)) ≡ in_set s from (state_number (merge L after g))
    gain_like A t =
        let xs : stated (digit x) ≡ x = digits_number x xb in
        let ys : stated (digit (own_number L after)) ≡ own_number L after = digits_number (own_number L after) (own_below L after) in
        let here : stated (plus (digit x) A) ≡ state_number g = sym (number_stated g ∙ stated_same (λ i. at g i % 8) (plus (digit x) A) t.reaches) in
        let there : stated (plus (digit (own_number L after)) A) ≡ state_number (merge L after g) =
        stated_same (plus (digit (own_number L after)) A) (λ i. at (merge L after g) i % 8) (like_digit A t) ∙ sym (number_stated (merge L after g)) in
        rw (← xs, ← ys, ← here, ← there) (adds_like s from f.rest (digit x) (digit (own_number L after)) (extent f) own_offset A t.inside)

    -- the offsets from x to a state that is gone through
    own_to : InFrame L f g → own_number L g ≡ x → To (λ i. cond (has L i) 0 (at g i % 8))
    own_to w e = record {
      inside = λ i. by_test (has L i) (λ m. rw m (fr.some i)) (λ n. rw n (w.others i n));
      reaches = λ i. rw (← e, own_digit L g i) (by_test (has L i) (λ m. rw m (omega arith)) (λ n. rw n (omega arith)));
    }

    -- every state with the own number x is added whose like is in the set
    pub gains_lead : InFrame L f g → own_number L g ≡ x
        → (in_block x f.rows f.words (state_number g) && gains s from (own_number L after) x f.rest (state_number g)) ≡ in_set s from (state_number (merge L after g))
    gains_lead w e = gain_like (λ i. cond (has L i) 0 (at g i % 8)) (own_to w e)

    -- where it stands, behind x
    pub own_place : InFrame L f g → own_number L g ≡ x → Place L f x (state_number g)
    own_place w e =
        let A : Process → ℕ = λ i. cond (has L i) 0 (at g i % 8) in
        let t = own_to w e in
        let small : (i : Process) → A i < 8 = λ i. omega (arith, t.inside i, fr.small i) in
        let is : state_number g ≡ stated (plus (digit x) A) = number_stated g ∙ stated_same (λ i. at g i % 8) (plus (digit x) A) t.reaches in
        let sum : (i : Process) → digit x i + A i < 8 = λ i. omega (arith, own_offset.before i, t.inside i) in
        record {
          row = A p0;
          word = A p1;
          bit = 8 * A p2 + A p3;
          in_rows = t.inside p0;
          in_words = t.inside p1;
          inside = bit_inside x (A p2) (A p3) (sum p2) (sum p3);
          has_bit_lem = rest_has f.rest (extent f p2) (extent f p3) (A p2) (A p3) (small p2) (small p3) fr.rest (t.inside p2) (t.inside p3);
          is = is ∙ place_is x (A p0) (A p1) (A p2) (A p3) xb;
        }

    -- and no other
    pub gains_own : (in_block x f.rows f.words (state_number g) && gains s from (own_number L after) x f.rest (state_number g)) ≡ true
        → (own_number L g ≡ x) × (in_set s from (state_number (merge L after g)) ≡ true)
    gains_own h =
        let xs : stated (digit x) ≡ x = digits_number x xb in
        let ys : stated (digit (own_number L after)) ≡ own_number L after = digits_number (own_number L after) (own_below L after) in
        let o = added_offsets s from f.rest (digit x) (digit (own_number L after)) (extent f) own_offset (state_number g) (rw (xs, ys) h) in
        let to : To o.offset = record { inside = o.inside; reaches = λ i. sym (digit_number g i) ∙ ap (λ (m : ℕ). digit m i) o.is ∙ digit_stated (plus (digit x) o.offset) (λ j. omega (arith, own_offset.before j, o.inside j)) i } in (
          digits_same (own_number L g) x (own_below L g) xb (λ i. own_digit L g i ∙ by_test (has L i)
              (λ m. let z : o.offset i ≡ 0 = omega (arith, o.inside i, fr.alone i m) in rw m (to.reaches i ∙ omega arith))
              (λ n. rw n (sym (no_own i n)))),
          sym (gain_like o.offset to) ∙ h,
        )

-- ---- as many states of one process as its last state tells, or more
record Span (own : Bool) (last n : ℕ) : Type 0 where
  alone : own ≡ true → n ≡ 1
  enough : own ≡ false → last % 8 < n
  some : 0 < n
  small : n ≤ 8

exact_span : (own : Bool) (last n : ℕ) → n ≡ cond own 1 (last % 8 + 1) → Span own last n
exact_span true last n e = record { alone = λ m. e; enough = λ f. absurd (true≢false f); some = omega arith; small = omega arith }
exact_span false last n e = record { alone = λ m. absurd (true≢false (sym m)); enough = λ f. omega arith; some = omega arith; small = omega arith }

-- all eight, if it is not one
wide_span : (own : Bool) (last k n : ℕ) → k ≡ cond own 1 (last % 8 + 1) → n ≡ cond (eqb k 1) 1 8 → Span own last n
wide_span own last k n e is = by_test (eqb k 1)
    (λ y. subst (Span own last) (eqb-true k 1 y ∙ sym (is ∙ rw y)) (exact_span own last k e))
    (λ f. let all : n ≡ 8 = is ∙ rw f in record {
      alone = λ m. absurd (eqb-false k 1 f ((exact_span own last k e).alone m));
      enough = λ m. omega arith;
      some = omega arith;
      small = omega arith;
    })

-- one or eight, as the bits tell
bits_tell : (rest : ℕ) (b c : Bool) → RestBits rest (cond b 1 8) (cond c 1 8)
    → (◌≡◌ {A = ℕ} (cond (has_bit rest 8) 8 1) (cond b 1 8)) × (◌≡◌ {A = ℕ} (cond (has_bit rest 1) 8 1) (cond c 1 8))
bits_tell rest true true r = (rw (r 8 (omega arith)), rw (r 1 (omega arith)))
bits_tell rest true false r = (rw (r 8 (omega arith)), rw (r 1 (omega arith)))
bits_tell rest false true r = (rw (r 8 (omega arith)), rw (r 1 (omega arith)))
bits_tell rest false false r = (rw (r 8 (omega arith)), rw (r 1 (omega arith)))

-- ---- the frame as it is made
pub record Made (L : Processes) (last : Group) (f : Frame) (second third : ℕ) : Type 0 where
  pub mask : f.mask ≡ mask_of L
  pub rows : f.rows ≡ cond L.b0 1 (last.s0 % 8 + 1)
  pub words : f.words ≡ cond L.b1 1 (last.s1 % 8 + 1)
  pub second_is : second ≡ cond L.b2 1 (last.s2 % 8 + 1)
  pub third_is : third ≡ cond L.b3 1 (last.s3 % 8 + 1)
  pub rest : RestBits f.rest (cond (eqb second 1) 1 8) (cond (eqb third 1) 1 8)

module _ (L : Processes) (last : Group) (f : Frame) (second third : ℕ) (w : Made L last f second third) where
  tell : (extent f p2 ≡ cond (eqb second 1) 1 8) × (extent f p3 ≡ cond (eqb third 1) 1 8)
  tell = bits_tell f.rest (eqb second 1) (eqb third 1) w.rest

  spans : (i : Process) → Span (has L i) (at last i) (extent f i)
  spans p0 = exact_span L.b0 last.s0 f.rows w.rows
  spans p1 = exact_span L.b1 last.s1 f.words w.words
  spans p2 = wide_span L.b2 last.s2 second (extent f p2) w.second_is tell.0
  spans p3 = wide_span L.b3 last.s3 third (extent f p3) w.third_is tell.1

  framed : Framed L f
  framed = record {
    mask = w.mask;
    alone = λ i. (spans i).alone;
    some = λ i. (spans i).some;
    small = λ i. (spans i).small;
    rest = rw (tell.0, tell.1) w.rest;
  }

  pub frame_made : FrameTo L last f
  frame_made = record {
    framed = framed;
    reaches = λ g h l. record {
      states = h;
      others = λ i n. omega (arith, l i, (spans i).enough n);
    };
  }

-- a frame of one state of each process
pub single_frame : (f : Frame) → f.rest ≡ 1 → f.rows ≡ 1 → f.words ≡ 1 → Single f
unfolding has_bit
single_frame f a b d p0 = b
single_frame f a b d p1 = d
single_frame f a b d p2 = ap (λ (x : ℕ). cond (has_bit x 8) 8 1) a
single_frame f a b d p3 = ap (λ (x : ℕ). cond (has_bit x 1) 8 1) a
