-- Numbers of global states: three bits for each process, process 0 highest.
use Rattle.std.specs.Prelude.{◌≡◌, cond, true, false, ℕ, ◌+◌, ◌*◌, ◌/◌, ◌%◌, ◌<◌}
use Rattle.model.specs.declared.Group.{Group}
use Rattle.model.specs.Groups.{Process, Processes, p0, p1, p2, p3, at, has, build}

-- how many state numbers there are
abbrev pub state_count : ℕ
state_count = 4096

unfoldable pub state_number : Group → ℕ
state_number g = (g.s0 % 8) * 512 + (g.s1 % 8) * 64 + (g.s2 % 8) * 8 + g.s3 % 8

-- the three bits of a process
abbrev pub digit : ℕ → Process → ℕ
digit n p0 = n / 512 % 8
digit n p1 = n / 64 % 8
digit n p2 = n / 8 % 8
digit n p3 = n % 8

-- the group of the processes L that a number stands for, with 255 at every other process
unfoldable pub group_numbered : Processes → ℕ → Group
group_numbered L n = build (λ i. cond (has L i) (digit n i) 255)

-- a group of the processes L: a state below 8 at each of them, 255 at every other process
pub record Over (L : Processes) (g : Group) : Type 0 where
  pub inside : (i : Process) → has L i ≡ true → at g i < 8
  pub outside : (i : Process) → has L i ≡ false → at g i ≡ 255

-- a number of such a group: the bits of every other process are those of 255
pub record NumberOver (L : Processes) (n : ℕ) : Type 0 where
  pub below : n < state_count
  pub outside : (i : Process) → has L i ≡ false → digit n i ≡ 7
