-- A desk that is opened: its own copy of the table, the start, no name held; and that there is none after a refused opening.
use mathlib.Core.Path.{◌≡◌, refl, ap, sym, subst, ◌∙◌}
use mathlib.Core.Bool.{false, false≢true}
use mathlib.Core.Option.{none}
use mathlib.Core.List.{List, [], ◌++◌}
use Prim.Native.Nat.{ℕ, zero, suc, ◌+◌, ◌-◌, ◌≤◌, ◌<◌}
use native.Mathlib.Nat.{le_refl}
use native.Mathlib.Omega.{arith}
use lib.ListN.{length, take, drop, replicate, length-replicate}
use lib.Seq.{paste, length-paste, length-take-le, take_all, take_at}
use Rattle.desk_model.specs.Desks.{desk_pile, name_count, uncounted}
use Rattle.model.specs.Lists.{Each}
use Rattle.model.specs.Systems.{Configuration}
use Rattle.model.specs.Tables.{longest, read, read_from}
use Rattle.states.specs.StateNumbers.{Over}
use Rattle.std.specs.Prelude.{Ok}
use Rattle.model.specs.Calls.{refuse}
use Rattle.table.specs.declared.Table.{Table}
use Rattle.table.specs.Reading.{Holds, counts_of, system_in}
use Rattle.table.proofs.Layouts.{table_length}
use Rattle.table.specs.Present.{present_in}
use Rattle.table.proofs.Configurations.{start_over, start_lettered}
use Rattle.model.specs.declared.Placed.{Placed}
use Rattle.firing.specs.Piles.{configuration}
use Rattle.desk.specs.Promises.{Good, GoodName, Opened, copy_of, no_desk}

each_replicate : {A : Type 0} (P : A → Type 0) (n : ℕ) (x : A) → P x → Each P (replicate n x)
each_replicate P zero x p = tt
each_replicate P (suc n) x p = (p, each_replicate P n x p)

-- what is copied to the front of a buffer
copied : (d s : List ℕ) → take (length s) (paste d 0 s (length s)) ≡ s
copied d s = take_at (take (length s) s) (drop (0 + length s) d) (length s) (length-take-le (length s) s (le_refl (length s))) ∙ take_all (length s) s (le_refl (length s))

drop_zeros : (n m : ℕ) → drop n (replicate {A = ℕ} m 0) ≡ replicate (m - n) 0
drop_zeros zero m = ap (λ (k : ℕ). replicate {A = ℕ} k 0) (let e : m ≡ m - 0 = omega arith in e)
drop_zeros (suc n) zero = ap (λ (k : ℕ). replicate {A = ℕ} k 0) (let e : 0 ≡ 0 - suc n = omega arith in e)
drop_zeros (suc n) (suc m) = drop_zeros n m ∙ ap (λ (k : ℕ). replicate {A = ℕ} k 0) (let e : m - n ≡ suc m - suc n = omega arith in e)

-- into zeros: the table, then zeros
copied_whole : (s : List ℕ) → length s ≤ longest → paste (replicate longest 0) 0 s (length s) ≡ copy_of s
copied_whole s h =
    ap (λ (x : List ℕ). x ++ drop (0 + length s) (replicate {A = ℕ} longest 0)) (take_all (length s) s (le_refl (length s)))
    ∙ ap (λ (x : List ℕ). s ++ x) (drop_zeros (0 + length s) longest ∙ ap (λ (n : ℕ). replicate {A = ℕ} n 0) sizes)
  where
    sizes : longest - (0 + length s) ≡ length (replicate {A = ℕ} longest 0) - length s
    sizes = omega (arith, length-replicate {A = ℕ} longest 0)

-- ---- opened
pub opened_desk : (bytes : List ℕ) (t : Table) (p : Placed) (copy pile : List ℕ) → Holds bytes t → copy ≡ paste (replicate longest 0) 0 bytes (length bytes)
    → configuration pile p ≡ (system_in bytes).start → p.top ≤ length pile → length pile ≡ desk_pile
    → Opened bytes (record { size = length bytes; table = t; placed = p; counts = uncounted; bytes = copy; pile = pile; names = replicate name_count (record { held = false; placed = p; pile = replicate desk_pile 0 }) })
opened_desk bytes t p copy pile h e c i n =
    let buffer = replicate {A = ℕ} longest 0 in
    let b : length buffer ≡ longest = length-replicate {A = ℕ} longest 0 in
    let same : take (length bytes) copy ≡ bytes = ap (take (length bytes)) e ∙ copied buffer bytes in
    let long : length copy ≡ length buffer = ap length e ∙ length-paste buffer 0 bytes (length bytes) (omega (arith, table_length bytes t h)) (le_refl (length bytes)) in
    record {
      table = same;
      copy = e ∙ copied_whole bytes (table_length bytes t h);
      contents = ap (λ (x : Configuration). record { here = x; names = replicate name_count none; counts = uncounted }) c;
      good = record {
        inside = omega (arith, table_length bytes t h);
        holds = subst (λ (l : List ℕ). Holds l t) (sym same) h;
        shape = record {
          stands = record { inside = i; letters = subst (λ (x : Configuration). Each (λ (a : ℕ). a < t.letters) x.word) (sym c) (start_lettered bytes t h) };
          over = subst (λ (x : Configuration). Over (present_in t) x.states) (sym c) (start_over bytes t h);
        };
        size = n;
        count = refl;
        counts = refl;
        names = each_replicate (GoodName t) name_count (record { held = false; placed = p; pile = replicate desk_pile 0 }) (record { size = length-replicate {A = ℕ} desk_pile 0; shape = λ f. absurd (false≢true f) });
      };
    }

-- what stands in the place of a desk is none: the empty string is no table
nothing_read : (t : Table) → Holds [] t → ⊥
unfolding read read_from
nothing_read t h = let e : refuse 1 0 ≡ Ok t = h.reading in let z : ◌≡◌ {A = ℕ} 0 1 = cc in omega arith

pub no_desk_bad : Good no_desk → ⊥
no_desk_bad g = nothing_read (counts_of []) g.holds
