-- A table is told from the bytes that the longest accepted one has, and those of one rule more: what follows them changes no reading. So a program
-- that reads no more than a buffer of that length gives what it would give for the whole input.
use mathlib.Core.Path.{◌≡◌, refl, ap, ◌∙◌}
use mathlib.Core.Bool.{false, cond, true≢false}
use mathlib.Core.List.{List, [], ◌∷◌, ◌++◌}
use Prim.Native.Nat.{ℕ, zero, suc, ◌+◌, ◌-◌, ◌<◌, ◌≤◌}
use native.Mathlib.Omega.{arith}
use lib.Dec.{eqb, leb, ltb}
use lib.ListN.{length, take, drop, length-append, length-drop, take-append-drop}
use lib.Seq.{drop-append-le, length-take-le, take_all, take-append-le}
use borrow.Author.Tests.{leb-true, leb-false, ltb-false}
use Rattle.model.specs.Calls.{answer_call, run_call}
use Rattle.model.specs.Tables.{Item, Reading, body_length, bytes_of, bodies, count, longest, ending, is_stranger, read, read_from, refusal, unless_refused}
use Rattle.model.proofs.CheckedItems.{Checked, none_yet, one_more, bodies_more, count_ceiling_lem, passes}
use Rattle.model.proofs.Tests.{by_test, or_right}

-- ---- the bytes of items, by their kinds
used : List Item → ℕ
used items = bytes_of (λ (k : ℕ). count k items)

used_most : {items : List Item} → Checked items → used items < longest
unfolding used
used_most c = omega (arith, count_ceiling_lem 1 c, count_ceiling_lem 2 c, count_ceiling_lem 3 c, count_ceiling_lem 4 c, count_ceiling_lem 5 c, count_ceiling_lem 6 c, count_ceiling_lem 7 c)

one : ℕ → ℕ → ℕ
one k j = cond (eqb k j) 1 0

count_more : (j : ℕ) (items : List Item) (k : ℕ) (body : List ℕ) → count j (items ++ (record { kind = k; body = body } ∷ [])) ≡ count j items + one k j
unfolding one
count_more j items k body = ap length (bodies_more j items (record { kind = k; body = body })) ∙ length-append (bodies j items) (cond (eqb k j) (body ∷ []) []) ∙ ap (λ (n : ℕ). count j items + n) (by_test (eqb k j) (λ y. rw y) (λ n. rw n))

-- an item adds its own bytes
used_more : (items : List Item) (k : ℕ) (body : List ℕ) → is_stranger k ≡ false → eqb k 8 ≡ false → used (items ++ (record { kind = k; body = body } ∷ [])) ≡ used items + 1 + body_length k
unfolding used one
used_more items k body s e = omega (arith, bytes k s e, count_more 1 items k body, count_more 2 items k body, count_more 3 items k body, count_more 4 items k body, count_more 5 items k body, count_more 6 items k body, count_more 7 items k body)
  where
    bytes : (k : ℕ) → is_stranger k ≡ false → eqb k 8 ≡ false → bytes_of (one k) ≡ 1 + body_length k
    bytes zero s e = absurd (true≢false s)
    bytes (suc zero) s e = refl
    bytes (suc (suc zero)) s e = refl
    bytes (suc (suc (suc zero))) s e = refl
    bytes (suc (suc (suc (suc zero)))) s e = refl
    bytes (suc (suc (suc (suc (suc zero))))) s e = refl
    bytes (suc (suc (suc (suc (suc (suc zero)))))) s e = refl
    bytes (suc (suc (suc (suc (suc (suc (suc zero))))))) s e = refl
    bytes (suc (suc (suc (suc (suc (suc (suc (suc zero)))))))) s e = absurd (true≢false e)
    bytes (suc (suc (suc (suc (suc (suc (suc (suc (suc k))))))))) s e = absurd (omega (arith, ltb-false 8 (suc (suc (suc (suc (suc (suc (suc (suc (suc k))))))))) (or_right (eqb (suc (suc (suc (suc (suc (suc (suc (suc (suc k))))))))) 0) (ltb 8 (suc (suc (suc (suc (suc (suc (suc (suc (suc k)))))))))) s)))

-- no body is longer than a rule's
body_small : (k : ℕ) → body_length k ≤ body_length 3
body_small zero = omega arith
body_small (suc zero) = omega arith
body_small (suc (suc zero)) = omega arith
body_small (suc (suc (suc zero))) = omega arith
body_small (suc (suc (suc (suc zero)))) = omega arith
body_small (suc (suc (suc (suc (suc zero))))) = omega arith
body_small (suc (suc (suc (suc (suc (suc zero)))))) = omega arith
body_small (suc (suc (suc (suc (suc (suc (suc zero))))))) = omega arith
body_small (suc (suc (suc (suc (suc (suc (suc (suc zero)))))))) = omega arith
body_small (suc (suc (suc (suc (suc (suc (suc (suc (suc k))))))))) = omega arith

-- ---- what follows the bytes that a table may have
abbrev pub telling : ℕ
telling = longest + 1 + body_length 3

unless_same : (n place : ℕ) (a b : Reading) → (n ≡ 0 → a ≡ b) → unless_refused n place a ≡ unless_refused n place b
unless_same zero place a b f = f refl
unless_same (suc n) place a b f = refl

ending_same : (items : List Item) (rest tail : List ℕ) (place : ℕ) → 0 < length rest → ending items rest place ≡ ending items (rest ++ tail) place
ending_same items [] tail place h = absurd (omega arith)
ending_same items (x ∷ rest) tail place h = refl

reading_same : (fuel more : ℕ) (items : List Item) (rest tail : List ℕ) (place : ℕ) → Checked items → length rest < fuel → length (rest ++ tail) < more → telling ≤ used items + length rest
    → read_from fuel items rest place ≡ read_from more items (rest ++ tail) place
unfolding read_from
reading_same zero more items rest tail place c l m h = absurd (omega arith)
reading_same (suc fuel) zero items rest tail place c l m h = absurd (omega arith)
reading_same (suc fuel) (suc more) items [] tail place c l m h = absurd (omega (arith, used_most c))
reading_same (suc fuel) (suc more) items (k ∷ rest) tail place c l m h =
    let room : body_length k < length rest = omega (arith, used_most c, body_small k) in
    rw (take-append-le (body_length k) rest tail (omega arith), drop-append-le (body_length k) rest tail (omega arith))
    (unless_same (refusal items k (take (body_length k) rest)) place _ _ (λ z. by_test (eqb k 8)
    (λ y. rw y (ending_same items rest tail (place + 1) (omega arith)))
    (λ n. rw n
    (let p = passes items k (take (body_length k) rest) z in
    let x : Item = record { kind = k; body = take (body_length k) rest } in
    let shorter : length (drop (body_length k) rest) ≡ length rest - body_length k = length-drop (body_length k) rest in
    let longer : length (drop (body_length k) rest ++ tail) ≡ length (drop (body_length k) rest) + length tail = length-append (drop (body_length k) rest) tail in
    let whole : length (rest ++ tail) ≡ length rest + length tail = length-append rest tail in
    reading_same fuel more (items ++ (x ∷ [])) (drop (body_length k) rest) tail (place + 1 + body_length k) (one_more x c p) (omega arith) (omega arith)
    (omega (arith, used_more items k (take (body_length k) rest) p.kind n))))))

pub read_prefix : (n : ℕ) (bytes : List ℕ) → telling ≤ n → read (take n bytes) ≡ read bytes
unfolding read
read_prefix n bytes h = by_test (leb n (length bytes))
    (λ y. let front : length (take n bytes) ≡ n = length-take-le n bytes (leb-true n (length bytes) y) in
    let all : take n bytes ++ drop n bytes ≡ bytes = take-append-drop n bytes in
    reading_same (length (take n bytes) + 1) (length (take n bytes ++ drop n bytes) + 1) [] (take n bytes) (drop n bytes) 0 none_yet (omega arith) (omega arith) (omega arith)
    ∙ ap (λ (l : List ℕ). read_from (length l + 1) [] l 0) all)
    (λ m. ap (λ (l : List ℕ). read_from (length l + 1) [] l 0) (take_all n bytes (omega (arith, leb-false n (length bytes) m))))

-- so do the calls
pub answer_prefix : (n : ℕ) (table log scratch : List ℕ) → telling ≤ n → answer_call (take n table) log scratch ≡ answer_call table log scratch
unfolding answer_call
answer_prefix n table log scratch h = rw (read_prefix n table h)

pub run_prefix : (n : ℕ) (table log scratch page : List ℕ) → telling ≤ n → run_call (take n table) log scratch page ≡ run_call table log scratch page
unfolding run_call
run_prefix n table log scratch page h = rw (read_prefix n table h)
