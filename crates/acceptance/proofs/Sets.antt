-- Laws of sets of states that a word is read with.
use mathlib.Core.Path.{◌≡◌, refl, ap, ap₂, sym, subst, ◌∙◌}
use mathlib.Core.Bool.{Bool, true, false, ◌&&◌, ◌||◌, true≢false, or_assoc, or-false}
use mathlib.Core.List.{List, [], ◌∷◌, ◌++◌}
use Prim.Native.Nat.{ℕ, zero, suc, ◌+◌, ◌-◌, ◌<◌, ◌≤◌}
use native.Mathlib.Decide.{ℕ_discrete}
use native.Mathlib.Numerals.{add-one}
use native.Mathlib.Omega.{arith}
use lib.Dec.{eqb}
use lib.ListN.{length, get_or, take, drop, drop_of_length-le, replicate, length-replicate}
use lib.Seq.{take-suc, take_all, drop-cons}
use borrow.Author.Tests.{eq-eqb, eqb-true}
use Rattle.model.specs.declared.Group.{Group}
use Rattle.model.specs.Automata.{Transition, move}
use Rattle.model.specs.Groups.{Processes, restrict, same_group}
use Rattle.model.specs.Lists.{any_of}
use Rattle.model.specs.Systems.{System, is_accepting}
use Rattle.model.proofs.Tests.{same_test, and_left, and_right, and_both, or_true_left}
use Rattle.states.specs.StateNumbers.{state_count, state_number, group_numbered, Over}
use Rattle.states.specs.StateSets.{set_length, member, inserted, next_member}
use Rattle.states.proofs.StateNumbers.{numbered_number, state_number_below}
use Rattle.states.proofs.StateSets.{member_inserted, member_zeros, next_at}
use Rattle.acceptance.specs.Sets.{some_below, accepts_from, member_accepts, some_accepts, leads, Extends}

-- ---- some number below a bound
by_either : (a b : Bool) {C : Type 0} → (a ≡ true → C) → (b ≡ true → C) → (a || b) ≡ true → C
by_either true b f g e = f refl
by_either false b f g e = g e

or_of_right : (a b : Bool) → b ≡ true → (a || b) ≡ true
or_of_right true b e = refl
or_of_right false b e = e

some_true : (f : ℕ → Bool) (n : ℕ) → some_below f n ≡ true → (m : ℕ) × (m < n) × (f m ≡ true)
unfolding some_below
some_true f zero e = absurd (true≢false (sym e))
some_true f (suc n) e = by_either (some_below f n) (f n) (λ y. let r = some_true f n y in (r.0, omega (arith, r.1), r.2)) (λ y. (n, omega arith, y)) e

some_of : (f : ℕ → Bool) (n m : ℕ) → m < n → f m ≡ true → some_below f n ≡ true
unfolding some_below
some_of f zero m h e = absurd (omega arith)
some_of f (suc n) m h e = elim (ℕ_discrete m n) [
  | yes q ↦ or_of_right (some_below f n) (f n) (subst (λ (k : ℕ). f k ≡ true) q e)
  | no q ↦ or_true_left (some_below f n) (f n) (some_of f n m (omega arith) e)
]

-- no number between passes
some_still : (f : ℕ → Bool) (n d : ℕ) → ((j : ℕ) → n ≤ j → j < n + d → f j ≡ false) → some_below f (n + d) ≡ some_below f n
unfolding some_below
some_still f n zero h = let z : n + 0 ≡ n = omega arith in ap (some_below f) z
some_still f n (suc d) h =
    let z : n + suc d ≡ suc (n + d) = omega arith in
    ap (some_below f) z ∙ ap₂ (λ (a b : Bool). a || b) (some_still f n d (λ j l q. h j l (omega arith))) (h (n + d) (omega arith) (omega arith)) ∙ or-false (some_below f n)

some_next : (f : ℕ → Bool) (n r : ℕ) → n ≤ r → ((j : ℕ) → n ≤ j → j < r → f j ≡ false) → some_below f r ≡ some_below f n
some_next f n r h q =
    let e : r ≡ n + (r - n) = omega arith in
    ap (some_below f) e ∙ some_still f n (r - n) (λ j l m. q j l (omega arith))

-- ---- some element of a list, by a loop over its places
module _ {A : Type 0} (f : A → Bool) (l : List A) (d : A) where
  any_place : (k : ℕ) → k < length l → any_of f (drop k l) ≡ (f (get_or l k d) || any_of f (drop (k + 1) l))
  any_place k h = rw (add-one, drop-cons l k d)

  -- no element before place k passes
  pub record Unfound (k : ℕ) : Type 0 where
    pub same : any_of f l ≡ any_of f (drop k l)

  pub unfound_turn : (k : ℕ) → k < length l → Unfound k → f (get_or l k d) ≡ false → Unfound (k + 1)
  unfound_turn k h u e = record { same = u.same ∙ any_place k h ∙ rw e refl }

  pub unfound_here : (k : ℕ) → k < length l → Unfound k → f (get_or l k d) ≡ true → true ≡ any_of f l
  unfound_here k h u e = sym (u.same ∙ any_place k h ∙ rw e refl)

  pub unfound_end : (k : ℕ) → length l ≤ k → Unfound k → false ≡ any_of f l
  unfound_end k h u = sym (u.same ∙ ap (any_of f) (drop_of_length-le l {i = k} h))

module _ (sys : System) (L : Processes) where
  -- ---- one state more
  pub inserted_accepts : (members w : List ℕ) (k : ℕ) → length members ≡ set_length → k < state_count → some_accepts sys L (inserted members k) w ≡ (some_accepts sys L members w || accepts_from sys w (group_numbered L k))
  unfolding some_accepts
  inserted_accepts members w k size h = same_test (some_accepts sys L (inserted members k) w) (some_accepts sys L members w || accepts_from sys w (group_numbered L k)) forth back
    where
      held : (m : ℕ) → member (inserted members k) m ≡ (eqb m k || member members m)
      held m = member_inserted members k m (omega arith)

      forth : some_below (member_accepts sys L (inserted members k) w) state_count ≡ true → (some_below (member_accepts sys L members w) state_count || accepts_from sys w (group_numbered L k)) ≡ true
      forth e =
          let r = some_true (member_accepts sys L (inserted members k) w) state_count e in
          let a : accepts_from sys w (group_numbered L r.0) ≡ true = and_right (member (inserted members k) r.0) (accepts_from sys w (group_numbered L r.0)) r.2 in
          let i : (eqb r.0 k || member members r.0) ≡ true = sym (held r.0) ∙ and_left (member (inserted members k) r.0) (accepts_from sys w (group_numbered L r.0)) r.2 in
          by_either (eqb r.0 k) (member members r.0)
          (λ y. or_of_right (some_below (member_accepts sys L members w) state_count) (accepts_from sys w (group_numbered L k)) (subst (λ (j : ℕ). accepts_from sys w (group_numbered L j) ≡ true) (eqb-true r.0 k y) a))
          (λ y. or_true_left (some_below (member_accepts sys L members w) state_count) (accepts_from sys w (group_numbered L k))
          (some_of (member_accepts sys L members w) state_count r.0 r.1 (and_both (member members r.0) (accepts_from sys w (group_numbered L r.0)) y a))) i

      back : (some_below (member_accepts sys L members w) state_count || accepts_from sys w (group_numbered L k)) ≡ true → some_below (member_accepts sys L (inserted members k) w) state_count ≡ true
      back e = by_either (some_below (member_accepts sys L members w) state_count) (accepts_from sys w (group_numbered L k))
          (λ y. let r = some_true (member_accepts sys L members w) state_count y in
          some_of (member_accepts sys L (inserted members k) w) state_count r.0 r.1
          (and_both (member (inserted members k) r.0) (accepts_from sys w (group_numbered L r.0))
          (held r.0 ∙ or_of_right (eqb r.0 k) (member members r.0) (and_left (member members r.0) (accepts_from sys w (group_numbered L r.0)) r.2))
          (and_right (member members r.0) (accepts_from sys w (group_numbered L r.0)) r.2)))
          (λ y. some_of (member_accepts sys L (inserted members k) w) state_count k h
          (and_both (member (inserted members k) k) (accepts_from sys w (group_numbered L k)) (held k ∙ or_true_left (eqb k k) (member members k) (eq-eqb k k refl)) y)) e

  -- no state
  pub zeros_accept : (n : ℕ) (w : List ℕ) → some_accepts sys L (replicate n 0) w ≡ false
  unfolding some_accepts some_below
  zeros_accept n w = some_next (member_accepts sys L (replicate n 0) w) 0 state_count (omega arith) (λ j h q. rw (member_zeros n j) refl)

  -- the one state g
  pub start_accepts : (n : ℕ) (w : List ℕ) (g : Group) → n ≡ set_length → Over L g → some_accepts sys L (inserted (replicate n 0) (state_number g)) w ≡ accepts_from sys w g
  start_accepts n w g e o =
      inserted_accepts (replicate n 0) w (state_number g) (length-replicate n 0 ∙ e) (state_number_below g)
      ∙ ap₂ (λ (a : Bool) (h : Group). a || accepts_from sys w h) (zeros_accept n w) (numbered_number L g o)

  -- ---- transitions
  pub follow_in : (members : List ℕ) (a k : ℕ) (g : Group) (t : Transition) → length members ≡ set_length → Over L (move sys.loc t g) → k ≡ state_number (move sys.loc t g)
      → (eqb t.letter a && same_group (restrict (sys.loc a) g) t.before) ≡ true → Extends sys L members (inserted members k) (λ (w : List ℕ). leads sys a g w t)
  unfolding leads
  follow_in members a k g t size o e y = record {
    words = λ w. ap (λ (j : ℕ). some_accepts sys L (inserted members j) w) e
        ∙ inserted_accepts members w (state_number (move sys.loc t g)) size (state_number_below (move sys.loc t g))
        ∙ rw (y, numbered_number L (move sys.loc t g) o) refl;
  }

  pub follow_out : (members : List ℕ) (a : ℕ) (g : Group) (t : Transition) → (eqb t.letter a && same_group (restrict (sys.loc a) g) t.before) ≡ false
      → Extends sys L members members (λ (w : List ℕ). leads sys a g w t)
  unfolding leads
  follow_out members a g t n = record { words = λ w. rw n (sym (or-false (some_accepts sys L members w))) }

  any_snoc : (f : Transition → Bool) (ts : List Transition) (t : Transition) → any_of f (ts ++ (t ∷ [])) ≡ (any_of f ts || f t)
  any_snoc f [] t = or-false (f t)
  any_snoc f (u ∷ ts) t = ap (λ (b : Bool). f u || b) (any_snoc f ts t) ∙ sym (or_assoc (f u) (any_of f ts) (f t))

  -- the first k transitions were followed
  pub record Following (a : ℕ) (g : Group) (members members' : List ℕ) (k : ℕ) : Type 0 where
    pub size : length members' ≡ length members
    pub words : Extends sys L members members' (λ (w : List ℕ). any_of (leads sys a g w) (take k sys.transitions))

  pub following_turn : (a : ℕ) (g : Group) (members members' members'' : List ℕ) (k : ℕ) (d : Transition) → k < length sys.transitions → length members'' ≡ length members' → Following a g members members' k
      → Extends sys L members' members'' (λ (w : List ℕ). leads sys a g w (get_or sys.transitions k d)) → Following a g members members'' (k + 1)
  following_turn a g members members' members'' k d h size f x = record {
    size = size ∙ f.size;
    words = record {
      words = λ w. x.words w ∙ ap (λ (b : Bool). b || leads sys a g w (get_or sys.transitions k d)) (f.words.words w)
          ∙ or_assoc (some_accepts sys L members w) (any_of (leads sys a g w) (take k sys.transitions)) (leads sys a g w (get_or sys.transitions k d))
          ∙ ap (λ (b : Bool). some_accepts sys L members w || b) (sym (any_snoc (leads sys a g w) (take k sys.transitions) (get_or sys.transitions k d)))
          ∙ ap (λ (ts : List Transition). some_accepts sys L members w || any_of (leads sys a g w) ts) (sym (take-suc sys.transitions k d h) ∙ ap (λ (n : ℕ). take n sys.transitions) (sym (add-one k)));
    };
  }

  accepts_cons : (a : ℕ) (w : List ℕ) (g : Group) → any_of (leads sys a g w) sys.transitions ≡ accepts_from sys (a ∷ w) g
  unfolding leads accepts_from
  accepts_cons a w g = refl

  pub following_end : (a : ℕ) (g : Group) (members members' : List ℕ) (k : ℕ) → length sys.transitions ≤ k → Following a g members members' k → Extends sys L members members' (λ (w : List ℕ). accepts_from sys (a ∷ w) g)
  following_end a g members members' k h f = record {
    words = λ w. f.words.words w ∙ ap (λ (b : Bool). some_accepts sys L members w || b) (ap (any_of (leads sys a g w)) (take_all k sys.transitions h) ∙ accepts_cons a w g);
  }

  -- ---- members
  -- n is the first member from `from` on, or the end
  pub record At (members : List ℕ) (n : ℕ) : Type 0 where
    pub high : n ≤ state_count
    pub holds : n < state_count → member members n ≡ true

  pub record Next (members : List ℕ) (from n : ℕ) : Type 0 where
    pub low : from ≤ n
    pub at : At members n
    pub same : (w : List ℕ) → some_below (member_accepts sys L members w) n ≡ some_below (member_accepts sys L members w) from

  pub next_of : (members : List ℕ) (from n : ℕ) → from ≤ state_count → n ≡ next_member members from → Next members from n
  next_of members from n h e =
      let f = next_at members from n e in
      record {
        low = f.low;
        at = record { high = omega (arith, f.high); holds = λ l. f.passes (omega arith) };
        same = λ w. some_next (member_accepts sys L members w) from n f.low (λ j l q. rw (f.fails j l q) refl);
      }

  -- one member more
  more : (members w : List ℕ) (n : ℕ) → member members n ≡ true → some_below (member_accepts sys L members w) (n + 1) ≡ (some_below (member_accepts sys L members w) n || accepts_from sys w (group_numbered L n))
  unfolding some_below
  more members w n e = ap (some_below (member_accepts sys L members w)) (add-one n) ∙ rw e refl

  -- the members of `members` below n were read: the states after the letter a are in next'
  pub record Collected (a : ℕ) (members next next' : List ℕ) (n : ℕ) : Type 0 where
    pub at : At members n
    pub words : Extends sys L next next' (λ (w : List ℕ). some_below (member_accepts sys L members (a ∷ w)) n)

  pub collected_start : (a : ℕ) (members next : List ℕ) (n : ℕ) → n ≡ next_member members 0 → Collected a members next next n
  unfolding some_below
  collected_start a members next n e =
      let x = next_of members 0 n (omega arith) e in
      record { at = x.at; words = record { words = λ w. sym (or-false (some_accepts sys L next w)) ∙ ap (λ (b : Bool). some_accepts sys L next w || b) (sym (x.same (a ∷ w))) } }

  pub collected_turn : (a : ℕ) (members next next' next'' : List ℕ) (n r : ℕ) → n < state_count → Collected a members next next' n → r ≡ next_member members (n + 1)
      → Extends sys L next' next'' (λ (w : List ℕ). accepts_from sys (a ∷ w) (group_numbered L n)) → Collected a members next next'' r
  collected_turn a members next next' next'' n r h f e x =
      let y = next_of members (n + 1) r (omega arith) e in
      record {
        at = y.at;
        words = record {
          words = λ w. x.words w ∙ ap (λ (b : Bool). b || accepts_from sys (a ∷ w) (group_numbered L n)) (f.words.words w)
              ∙ or_assoc (some_accepts sys L next w) (some_below (member_accepts sys L members (a ∷ w)) n) (accepts_from sys (a ∷ w) (group_numbered L n))
              ∙ ap (λ (b : Bool). some_accepts sys L next w || b) (sym (y.same (a ∷ w) ∙ more members (a ∷ w) n (f.at.holds h)));
        };
      }

  pub collected_end : (a : ℕ) (members next next' : List ℕ) (n : ℕ) → state_count ≤ n → Collected a members next next' n → Extends sys L next next' (λ (w : List ℕ). some_accepts sys L members (a ∷ w))
  unfolding some_accepts
  collected_end a members next next' n h f =
      let e : n ≡ state_count = omega (arith, f.at.high) in
      record { words = λ w. f.words.words w ∙ ap (λ (k : ℕ). some_accepts sys L next w || some_below (member_accepts sys L members (a ∷ w)) k) e }

  -- ---- the last test
  -- no member below n is accepting
  pub record Searching (members : List ℕ) (n : ℕ) : Type 0 where
    pub at : At members n
    pub none : some_below (member_accepts sys L members []) n ≡ false

  accepting_is : (g : Group) → is_accepting g sys.accepting ≡ accepts_from sys [] g
  unfolding accepts_from
  accepting_is g = refl

  pub searching_start : (members : List ℕ) (n : ℕ) → n ≡ next_member members 0 → Searching members n
  unfolding some_below
  searching_start members n e = let x = next_of members 0 n (omega arith) e in record { at = x.at; none = x.same [] }

  pub searching_turn : (members : List ℕ) (n r : ℕ) → n < state_count → Searching members n → is_accepting (group_numbered L n) sys.accepting ≡ false → r ≡ next_member members (n + 1) → Searching members r
  searching_turn members n r h f q e =
      let x = next_of members (n + 1) r (omega arith) e in
      record { at = x.at; none = x.same [] ∙ more members [] n (f.at.holds h) ∙ ap₂ (λ (a b : Bool). a || b) f.none (sym (accepting_is (group_numbered L n)) ∙ q) }

  pub searching_found : (members : List ℕ) (n : ℕ) → n < state_count → Searching members n → is_accepting (group_numbered L n) sys.accepting ≡ true → true ≡ some_accepts sys L members []
  unfolding some_accepts
  searching_found members n h f q =
      sym (some_of (member_accepts sys L members []) state_count n h (and_both (member members n) (accepts_from sys [] (group_numbered L n)) (f.at.holds h) (sym (accepting_is (group_numbered L n)) ∙ q)))

  pub searching_end : (members : List ℕ) (n : ℕ) → state_count ≤ n → Searching members n → false ≡ some_accepts sys L members []
  unfolding some_accepts
  searching_end members n h f =
      let e : n ≡ state_count = omega (arith, f.at.high) in
      sym f.none ∙ ap (some_below (member_accepts sys L members [])) e
