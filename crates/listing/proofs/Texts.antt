-- Texts put into a buffer one after the other.
use mathlib.Core.Path.{◌≡◌, refl, ap, ap₂, sym, ◌∙◌, subst}
use mathlib.Core.List.{List, [], ◌∷◌, ◌++◌, append_assoc, append-nil}
use Prim.Native.Nat.{ℕ, ◌+◌, ◌-◌, ◌*◌, ◌≤◌, ◌<◌}
use native.Mathlib.Numerals.{add-one}
use native.Mathlib.Omega.{arith}
use lib.ListN.{length, take, drop, set, get_or, length-append, length-take, length-set, take-append-drop}
use lib.Seq.{take_at, drop-append-add, drop-drop, length-take-le, set_split, take-suc, take_all}
use Rattle.listing.specs.Listing.{ascii, decimal, spaced, run_line}
use Rattle.listing.specs.Puts.{with_text, Puts}

-- a text behind a text
joined : (b t u : List ℕ) (at : ℕ) → at ≤ length b → with_text (with_text b at t) (at + length t) u ≡ with_text b at (t ++ u)
unfolding with_text
joined b t u at h =
    let p = take at b ++ t in
    let q = drop (at + length t) b in
    let n : length p ≡ at + length t = length-append (take at b) t ∙ ap (λ (k : ℕ). k + length t) (length-take-le at b h) in
    let whole : take at b ++ (t ++ q) ≡ p ++ q = sym (append_assoc (take at b) t q) in
    let front : take (at + length t) (p ++ q) ≡ p = take_at p q (at + length t) n in
    let ends : at + length t + length u ≡ at + length (t ++ u) = omega (arith, length-append t u) in
    let back : drop (at + length t + length u) (p ++ q) ≡ drop (at + length (t ++ u)) b =
    ap (λ (k : ℕ). drop (k + length u) (p ++ q)) (sym n) ∙ drop-append-add p q (length u) ∙ drop-drop (length u) (at + length t) b ∙ ap (λ (k : ℕ). drop k b) ends in
    ap (λ (l : List ℕ). take (at + length t) l ++ (u ++ drop (at + length t + length u) l)) whole
    ∙ ap₂ (λ (x y : List ℕ). x ++ (u ++ y)) front back
    ∙ simp append_assoc

pub puts_then : {b b' b'' t u : List ℕ} {at r s m n : ℕ} (most : ℕ) → Puts b at t m r b' → Puts b' r u n s b'' → at ≤ length b → m + n ≤ most → Puts b at (t ++ u) most s b''
puts_then {b = b} {t = t} {u = u} {at = at} most p q h k = record {
  contents = q.contents ∙ ap₂ (λ (l : List ℕ) (i : ℕ). with_text l i u) p.contents p.next ∙ joined b t u at h;
  next = omega (arith, p.next, q.next, length-append t u);
  short = omega (arith, p.short, q.short, length-append t u);
  size = q.size ∙ p.size;
}

-- the text in another form, with another bound
pub puts_as : {b b' t u : List ℕ} {at r m : ℕ} (most : ℕ) → Puts b at t m r b' → t ≡ u → length u ≤ most → Puts b at u most r b'
puts_as {b = b} {at = at} most p e h = record { contents = p.contents ∙ ap (with_text b at) e; next = p.next ∙ ap (λ (l : List ℕ). at + length l) e; short = h; size = p.size }

pub puts_within : {b b' t : List ℕ} {at r m : ℕ} (most : ℕ) → Puts b at t m r b' → m ≤ most → Puts b at t most r b'
puts_within most p h = record { contents = p.contents; next = p.next; short = omega (arith, p.short); size = p.size }

-- nothing yet
pub puts_none : (b : List ℕ) (at r : ℕ) → r ≡ at + 0 → Puts b at [] 0 r b
unfolding with_text
puts_none b at r n =
    let e : at ≡ at + 0 = omega arith in
    record { contents = sym (take-append-drop at b) ∙ ap (λ (k : ℕ). take at b ++ drop k b) e; next = n; short = omega arith; size = refl }

-- a byte stored
puts_byte : (b : List ℕ) (at v : ℕ) → at < length b → Puts b at (v ∷ []) 1 (at + 1) (set b at v)
unfolding with_text
puts_byte b at v h = record {
  contents = set_split b at v h ∙ ap (λ (k : ℕ). take at b ++ v ∷ drop k b) (sym (add-one at));
  next = refl;
  short = omega arith;
  size = length-set b at v;
}

-- one byte more of a text
pub puts_more : (b s : List ℕ) (at i : ℕ) (b' : List ℕ) → Puts b at (take i s) i (at + i) b' → at + i < length b → i < length s → Puts b at (take (i + 1) s) (i + 1) (at + (i + 1)) (set b' (at + i) (get_or s i 0))
puts_more b s at i b' p h k =
    let v = get_or s i 0 in
    let text : take i s ++ (v ∷ []) ≡ take (i + 1) s = sym (take-suc s i 0 k) ∙ ap (λ (j : ℕ). take j s) (sym (add-one i)) in
    let place : at + i + 1 ≡ at + (i + 1) = omega arith in
    let q : Puts b at (take i s ++ (v ∷ [])) (i + 1) (at + i + 1) (set b' (at + i) v) = puts_then (i + 1) p (puts_byte b' (at + i) v (omega (arith, p.size))) (omega arith) (omega arith) in
    subst (λ (t : List ℕ). Puts b at t (i + 1) (at + (i + 1)) (set b' (at + i) v)) text
    (subst (λ (r : ℕ). Puts b at (take i s ++ (v ∷ [])) (i + 1) r (set b' (at + i) v)) place q)

-- all of it
pub puts_all : (b s : List ℕ) (at i : ℕ) (b' : List ℕ) → Puts b at (take i s) i (at + i) b' → i ≡ length s → Puts b at s (length s) (at + i) b'
puts_all b s at i b' p e =
    let text : take i s ≡ s = take_all i s (omega arith) in
    subst (λ (n : ℕ). Puts b at s n (at + i) b') e (subst (λ (t : List ℕ). Puts b at t i (at + i) b') text p)

-- ---- rule numbers
spaced_snoc : (xs : List ℕ) (x : ℕ) → spaced (xs ++ (x ∷ [])) ≡ spaced xs ++ (ascii " " ++ decimal x)
spaced_snoc [] x = append-nil (ascii " " ++ decimal x)
spaced_snoc (y ∷ xs) x = ap (λ (l : List ℕ). ascii " " ++ decimal y ++ l) (spaced_snoc xs x) ∙ sym (append_assoc (ascii " " ++ decimal y) (spaced xs) (ascii " " ++ decimal x))

-- one more of them
pub puts_rule : (rules : List ℕ) (i : ℕ) {b b' b'' : List ℕ} {at end r : ℕ} → Puts b at (spaced (take i rules)) (6 * i) end b' → Puts b' end (ascii " " ++ decimal (get_or rules i 0)) 6 r b'' → at ≤ length b → i < length rules
    → Puts b at (spaced (take (i + 1) rules)) (6 * (i + 1)) r b''
puts_rule rules i {b = b} {b'' = b''} {at = at} {r = r} p q g h =
    let text : spaced (take i rules) ++ (ascii " " ++ decimal (get_or rules i 0)) ≡ spaced (take (i + 1) rules) =
    sym (spaced_snoc (take i rules) (get_or rules i 0)) ∙ ap spaced (sym (take-suc rules i 0 h) ∙ ap (λ (j : ℕ). take j rules) (sym (add-one i))) in
    subst (λ (t : List ℕ). Puts b at t (6 * (i + 1)) r b'') text (puts_then (6 * (i + 1)) p q g (omega arith))

pub puts_rules : (rules : List ℕ) (i : ℕ) {b b' : List ℕ} {at r : ℕ} → Puts b at (spaced (take i rules)) (6 * i) r b' → i ≡ length rules → Puts b at (spaced rules) (6 * length rules) r b'
puts_rules rules i {b = b} {b' = b'} {at = at} {r = r} p e =
    let all : take i rules ≡ rules = take_all i rules (omega arith) in
    subst (λ (l : List ℕ). Puts b at (spaced l) (6 * length rules) r b') all (puts_within (6 * length rules) p (omega arith))

-- a line of those that stand first on the page
pub puts_run : (page : List ℕ) (steps : ℕ) {b b' b'' t : List ℕ} {at r s m : ℕ} → Puts b at t m r b' → Puts b' r (run_line (take (steps - 0) page)) (6 * length (take (steps - 0) page) + 4) s b'' → at ≤ length b → m ≤ 60
    → Puts b at (t ++ run_line (take steps page)) (6 * length page + 64) s b''
puts_run page steps {b = b} {b'' = b''} {t = t} {at = at} {s = s} p q g h =
    let e : steps - 0 ≡ steps = omega arith in
    subst (λ (k : ℕ). Puts b at (t ++ run_line (take k page)) (6 * length page + 64) s b'') e (puts_then (6 * length page + 64) p q g (omega (arith, length-take (steps - 0) page)))

-- ---- a text at the buffer's start
pub puts_front : {b b' t : List ℕ} {m r : ℕ} → Puts b 0 t m r b' → m ≤ length b → (take r b' ≡ t) × (r ≤ length b')
unfolding with_text
puts_front {b = b} {t = t} p h = (
  ap₂ (λ (k : ℕ) (l : List ℕ). take k l) p.next p.contents ∙ take_at t (drop (0 + length t) b) (0 + length t) (omega arith),
  omega (arith, p.next, p.short, p.size),
)
