-- Laws of the buckets: a record's own one, and that of a key.
use mathlib.Core.Path.{◌≡◌, refl, sym, ◌∙◌}
use mathlib.Core.Bool.{true, false, true≢false}
use mathlib.Core.List.{List}
use Prim.Native.Nat.{ℕ, ◌+◌, ◌*◌, ◌<◌}
use lib.Dec.{eqb}
use borrow.Author.Tests.{eq-eqb, eqb-true, ne_eqb}
use Rattle.model.specs.Records.{letter_at}
use Rattle.model.proofs.Tests.{and_left, and_right, by_test}
use Rattle.packs.specs.Packs.{packed_number, packed_after, packed_before}
use Rattle.rings.specs.Rings.{mixer, record_reads, NoneIn}
use Rattle.rings.proofs.Links.{reads_parts, scaled_below}
use Rattle.keys.specs.Keys.{end_mixer, key_bucket_of, key_bucket_at, in_key_bucket, has_key}

pub own_below : (log : List ℕ) (n r : ℕ) → 0 < n → key_bucket_at log n r < n
unfolding key_bucket_at key_bucket_of
own_below log n r h = scaled_below n ((packed_before log r + 8 * letter_at log r) * mixer + packed_number (packed_after log r) * end_mixer) h

pub in_own : (log : List ℕ) (n r : ℕ) → in_key_bucket log n (key_bucket_at log n r) r ≡ true
unfolding in_key_bucket
in_own log n r = eq-eqb (key_bucket_at log n r) (key_bucket_at log n r) refl

pub in_other : (log : List ℕ) (n h r : ℕ) → (h ≡ key_bucket_at log n r → ⊥) → in_key_bucket log n h r ≡ false
unfolding in_key_bucket
in_other log n h r ne = ne_eqb (key_bucket_at log n r) h (λ e. ne (sym e))

pub in_true : (log : List ℕ) (n h r : ℕ) → in_key_bucket log n h r ≡ true → key_bucket_at log n r ≡ h
unfolding in_key_bucket
in_true log n h r t = eqb-true (key_bucket_at log n r) h t

-- a record with the key is in the key's bucket
key_bucket : (log : List ℕ) (n letter g x i : ℕ) → has_key log letter g x i ≡ true → key_bucket_at log n i ≡ key_bucket_of n letter g x
unfolding key_bucket_at
key_bucket log n letter g x i e =
    let reads = record_reads log letter g i in
    let ends = eqb x (packed_number (packed_after log i)) in
    let parts = reads_parts log letter g i (and_left reads ends e) in
    rw (parts.0, parts.1, ← (eqb-true x (packed_number (packed_after log i)) (and_right reads ends e)))

-- where none is in the bucket, none has the key
pub none_keyed : (log : List ℕ) (n letter g x from to : ℕ) → NoneIn (in_key_bucket log n (key_bucket_of n letter g x)) from to → NoneIn (has_key log letter g x) from to
unfolding in_key_bucket
none_keyed log n letter g x from to f j p q = by_test (has_key log letter g x j)
    (λ t. absurd (true≢false (sym (eq-eqb (key_bucket_at log n j) (key_bucket_of n letter g x) (key_bucket log n letter g x j t)) ∙ f j p q)))
    (λ e. e)
