-- The sets from the back: those from letter i on are right.
use mathlib.Core.Path.{◌≡◌, subst, ◌∙◌, refl}
use mathlib.Core.List.{List}
use mathlib.Core.Logic.{inr}
use Prim.Native.Nat.{ℕ, ◌+◌, ◌-◌, ◌<◌, ◌≤◌}
use native.Mathlib.Decide.{dec_lt}
use native.Mathlib.Omega.{arith}
use lib.ListN.{length}
use Rattle.model.specs.declared.Group.{Group}
use Rattle.states.specs.StateSets.{set_length}
use Rattle.scratch.specs.Regions.{leaders_at}
use Rattle.table.specs.declared.Table.{Table}
use Rattle.table.proofs.Layouts.{table_modest}
use Rattle.rests.specs.declared.Scope.{Scope}
use Rattle.rests.specs.Rests.{Scoped}
use Rattle.rests.proofs.Sets.{right_kept}
use Rattle.restsets.specs.OwnGroups.{last_states}
use Rattle.restsets.specs.Filling.{Led, Fillable, Filled}
use Rattle.restsets.proofs.Filling.{led_kept, scoped_kept}
use Rattle.start.specs.Search.{set_place, RightAt, BegunLed, SetsReady}

pub record Backwards (table : List ℕ) (t : Table) (log : List ℕ) (c : Scope) (s : List ℕ) (i : ℕ) (s' : List ℕ) : Type 0 where
  pub few : i ≤ t.pile
  pub short : t.pile ≤ 64
  pub size : length s' ≡ length s
  pub scoped : Scoped table t log c s'
  pub led : Led table t log c.count c.n s'
  pub right : (k : ℕ) → i ≤ k → k ≤ t.pile → RightAt table t log c.limit s' k

pub backwards_start : {table : List ℕ} {t : Table} {log : List ℕ} {c : Scope} {s : List ℕ} → BegunLed table t log c s → Backwards table t log c s t.pile s
backwards_start {table} {t} {log} {c} {s} p = record {
  few = omega arith;
  short = (table_modest table t p.begun.scoped.some.1.holds).pile;
  size = refl;
  scoped = p.begun.scoped;
  led = p.led;
  right = λ k a b. let e : t.pile ≡ k = omega arith in subst (RightAt table t log c.limit s) e p.begun.last;
}

module _ {table : List ℕ} {t : Table} {log : List ℕ} {c : Scope} {s s' : List ℕ} {i : ℕ} (h : 0 < i) (b : Backwards table t log c s i s') where
  pub backwards_fillable : {last : Group} → last ≡ last_states table t → Fillable table t log c (i - 1) (set_place (i - 1 + 1)) (set_place (i - 1)) last s'
  backwards_fillable is = record {
    scoped = b.scoped;
    led = b.led;
    inside = omega (arith, b.few);
    next_right = b.right (i - 1 + 1) (omega arith) (omega (arith, b.few));
    apart = record { apart = inr (omega arith); from_room = omega (arith, b.few, b.short, b.scoped.linked.room.room); to_room = omega (arith, b.few, b.short, b.scoped.linked.room.room) };
    low = omega (arith, b.few, b.short);
    states = is;
  }

  pub backwards_turn : {s'' : List ℕ} → Filled table t log c.limit (i - 1) (set_place (i - 1)) s' s'' → Backwards table t log c s (i - 1) s''
  backwards_turn {s''} w =
      let low : set_place (i - 1) + set_length ≤ leaders_at = omega (arith, b.few, b.short) in
      record {
        few = omega (arith, b.few);
        short = b.short;
        size = w.only.size ∙ b.size;
        scoped = scoped_kept low w.only b.scoped;
        led = led_kept b.scoped.linked.room.fits low w.only b.led;
        right = λ k l m. elim (dec_lt (i - 1) k) [
          | yes n ↦ right_kept (set_place k) k (omega (arith, b.short, b.scoped.linked.room.room)) (inr (omega arith)) w.only (b.right k (omega arith) m)
          | no n ↦ let e : i - 1 ≡ k = omega arith in subst (RightAt table t log c.limit s'') e w.right
        ];
      }

pub backwards_end : {table : List ℕ} {t : Table} {log : List ℕ} {c : Scope} {s s' : List ℕ} {i : ℕ} → i ≤ 0 → Backwards table t log c s i s' → SetsReady table t log c s'
backwards_end h b = record { scoped = b.scoped; right = λ k m. b.right k (omega arith) m }
