-- Nim. Counters lie in heaps; the sides take some from one heap in turn, and who takes the last counter wins.
--   Position     the sizes of the heaps, from heap 0, and the side to move
--   counters     how many counters the heaps hold in all
--   filled       how many heaps are not empty
--   heap_of, take_of   the heap that a code names, and how many it takes: the code is 32 × heap + take
--   held         how many counters a heap holds; a heap that is not there holds none
--   fits         whether a code takes one counter or more, and no more than its heap holds
--   taken        the heaps after a code
--   status_of    won by the side that moved last once no counter is left, else open
--   by_parity    the side that takes the last counter where every heap holds one at most
--   chance_of    both sides while counters outnumber the heaps that are not empty, then that side alone
--   nim          the game by its positions
--   plan_at      what the game says of each list of codes from a position on
--   nim_plan     the same from the start, where first is to move
--   allowed_count, allowed_size   whether there may be so many heaps, and so many counters in one
--   sizes        whether each heap is of an allowed size
--   allowed      one to eight heaps, each of 1 to 31
--   refusal_of   10 for any other heaps
--   takes        how many counters some codes take in all
--   Conserves    law: what is left and what was taken are what there was, so that no game has more codes than counters
--   MostCodes    some series from a point has so many codes, and none has more
--   Made         what is promised of a game newly made from some heaps
--   OnTheWay     some legal codes lead from the starting heaps to a position
--   Counted      some legal codes lead there, and what is left and what any such took are what there was
use Rattle.std.specs.Prelude.{◌≡◌, ℕ, ◌+◌, ◌-◌, ◌/◌, ◌%◌, ◌≤◌, Bool, true, if◌then◌else◌, ◌&&◌, ◌||◌, List, length, Some, None, sum_by, sum, count_by, Option, ◌==◌, nat_le, nat_lt, slice_index, slice_set}
use Rattle.std.specs.List.{list_all}
use Rattle.side.specs.declared.Side.{Side}
use Rattle.side.specs.declared.Side.TheVariants.{First}
use Rattle.side.specs.TwoSides.{opponent, same_side}
use Rattle.rules.specs.declared.Status.{Status}
use Rattle.rules.specs.declared.Status.TheVariants.{Open, Won}
use Rattle.rules.specs.Plans.{RulesPlan, Exact}
use Rattle.rules.specs.Machine.{Machine, after, plan_of, OnWay}

pub record Position : Type 0 where
  pub heaps : List ℕ
  pub turn : Side

abbrev pub at : List ℕ → Side → Position
at hs t = record { heaps = hs; turn = t }

abbrev pub counters : List ℕ → ℕ
counters hs = sum hs

abbrev pub filled : List ℕ → ℕ
filled hs = count_by (λ h. nat_lt 0 h) hs

abbrev pub heap_of : ℕ → ℕ
heap_of c = c / 32

abbrev pub take_of : ℕ → ℕ
take_of c = c % 32

abbrev pub held : List ℕ → ℕ → ℕ
held hs i = slice_index hs i

abbrev pub fits : List ℕ → ℕ → Bool
fits hs c = nat_le 1 (take_of c) && nat_le (take_of c) (held hs (heap_of c))

abbrev pub taken : List ℕ → ℕ → List ℕ
taken hs c = slice_set hs (heap_of c) (held hs (heap_of c) - take_of c)

abbrev pub status_of : List ℕ → Side → Status
status_of hs t = if counters hs == 0 then Won (opponent t) else Open

abbrev pub by_parity : ℕ → Side → Side
by_parity n t = if n % 2 == 1 then t else opponent t

abbrev pub chance_of : List ℕ → Side → Side → Bool
chance_of hs t s = nat_lt (filled hs) (counters hs) || same_side (by_parity (filled hs) t) s

abbrev pub nim : Machine Position
nim = record {
  legal = λ p c. fits p.heaps c;
  next = λ p c. at (taken p.heaps c) (opponent p.turn);
  status = λ p. status_of p.heaps p.turn;
  chance = λ p s. chance_of p.heaps p.turn s;
}

abbrev pub plan_at : List ℕ → Side → RulesPlan
plan_at hs t = plan_of nim (at hs t)

abbrev pub nim_plan : List ℕ → RulesPlan
nim_plan hs = plan_at hs First

abbrev pub allowed_count : ℕ → Bool
allowed_count n = nat_le 1 n && nat_le n 8

abbrev pub allowed_size : ℕ → Bool
allowed_size h = nat_le 1 h && nat_le h 31

abbrev pub sizes : List ℕ → Bool
sizes = list_all allowed_size

abbrev pub allowed : List ℕ → Bool
allowed hs = allowed_count (length hs) && sizes hs

abbrev pub refusal_of : List ℕ → Option ℕ
refusal_of hs = if allowed hs then None else Some 10

abbrev pub takes : List ℕ → ℕ
takes w = sum_by take_of w

pub record Conserves (hs : List ℕ) : Type 0 where
  pub counted : (w : List ℕ) → (nim_plan hs).legal w ≡ true → counters (after nim (at hs First) w).heaps + takes w ≡ counters hs
  pub short : (w : List ℕ) → (nim_plan hs).legal w ≡ true → length w ≤ counters hs

pub record MostCodes (p : RulesPlan) (n : ℕ) : Type 0 where
  pub some : (w : List ℕ) × (p.legal w ≡ true) × (length w ≡ n)
  pub most : (w : List ℕ) → p.legal w ≡ true → length w ≤ n

-- start, heaps and turn are what the made value holds
pub record Made (hs start heaps : List ℕ) (turn : Side) : Type 0 where
  pub plan : nim_plan start ≡ nim_plan hs
  pub line : plan_at heaps turn ≡ nim_plan hs
  pub exact : Exact (nim_plan start)
  pub conserves : Conserves hs

abbrev pub OnTheWay : List ℕ → List ℕ → Side → Type 0
OnTheWay start heaps turn = OnWay nim (at start First) (at heaps turn)

pub record Counted (start heaps : List ℕ) (turn : Side) (left : ℕ) : Type 0 where
  pub some : OnTheWay start heaps turn
  pub each : (w : List ℕ) → (nim_plan start).legal w ≡ true → at heaps turn ≡ after nim (at start First) w → left + takes w ≡ counters start
