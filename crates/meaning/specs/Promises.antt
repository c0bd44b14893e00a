-- What is promised of every run of calls, for every rules, clock and bank that keep their laws.
--   KeptTerms      what an arena keeps of its terms: the ranges, and the laws of the three plans
--   LiesTrue       whatever calls were made, the game that lies in the hall is what the rules make of its feed
--   Agrees         and the judge, given the record's bytes and the arena's rules and clock, answers what is told of that game
--   SameRecord     a game that an entrant does not play in has the same record whoever that entrant is
--   SameCells      and the same cells of the crosstable
--   DeadDraws      where a flag fall is drawn, no series of legal codes from there wins for the other side
--   DeadExactly    and where the rules' chances are exact, a flag fall that is won could have been won by some series
use Rattle.std.specs.Prelude.{◌≡◌, ℕ, ◌<◌, ◌≤◌, true, List, length}
use Rattle.std.specs.List.{AllByRecursion}
use Rattle.side.specs.declared.Side.{Side}
use Rattle.clock.specs.Times.{Bounded, Passing}
use Rattle.rules.specs.Plans.{Lawful, Exact}
use Rattle.player.specs.Answers.{AreCodes}
use Rattle.seating.specs.Pairs.{seats_of}
use Rattle.meaning.specs.Games.{Terms, told_of}
use Rattle.meaning.specs.Calls.{Hall, game_at, known, record_bytes, meeting, cell}
use Rattle.meaning.specs.History.{Call, Reached, feed, game_of, Alike, Without, FlagDraws, FlagExact}
use Rattle.meaning.specs.Judging.{judge_of, accepts}

pub record KeptTerms (codes longest : ℕ) (T : Terms) : Type 0 where
  pub entrants_least : 2 ≤ T.entrants
  pub entrants_most : T.entrants ≤ 16
  pub limit_least : 1 ≤ T.limit
  pub limit_most : T.limit ≤ 256
  pub text_least : 1 ≤ length T.text
  pub text_most : length T.text ≤ 64
  pub text_bytes : AllByRecursion (λ b. b < 256) T.text
  pub lawful : Lawful codes longest T.plans.rules
  pub bounded : Bounded T.plans.clock
  pub passing : Passing T.plans.clock
  pub coded : (k : ℕ) (seat : Side) → AreCodes (T.plans.bank k seat)

abbrev pub LiesTrue : Terms → Hall → ℕ → Type 0
LiesTrue T hall g = (h : List Call) → Reached T h hall → known T g ≡ true → game_at T hall g ≡ game_of T g (feed T g h)

abbrev pub Agrees : Terms → Hall → ℕ → Type 0
Agrees T hall g =
    (h : List Call) → Reached T h hall → known T g ≡ true
    → judge_of T.plans.rules T.plans.clock (record_bytes T hall g) ≡ accepts (told_of T (game_of T g (feed T g h)))

abbrev pub SameRecord : Terms → Hall → ℕ → Type 0
SameRecord T hall g =
    (k : ℕ) (U : Terms) (h j : List Call) (other : Hall) → Alike k T U → Without k (seats_of T.entrants g) → known T g ≡ true
    → Reached T h hall → Reached U j other → feed T g h ≡ feed U g j → record_bytes T hall g ≡ record_bytes U other g

abbrev pub SameCells : Terms → Hall → Type 0
SameCells T hall =
    (g k : ℕ) (U : Terms) (h j : List Call) (other : Hall) → Alike k T U → Without k (seats_of T.entrants g) → known T g ≡ true
    → Reached T h hall → Reached U j other → feed T g h ≡ feed U g j
    → (a b : ℕ) → meeting T a b ≡ g → cell T hall.entries a b ≡ cell U other.entries a b

abbrev pub DeadDraws : Terms → Hall → ℕ → Type 0
DeadDraws T hall g = (h : List Call) → Reached T h hall → known T g ≡ true → FlagDraws T (game_at T hall g)

abbrev pub DeadExactly : Terms → Hall → ℕ → Type 0
DeadExactly T hall g = Exact T.plans.rules → (h : List Call) → Reached T h hall → known T g ≡ true → FlagExact T (game_at T hall g)
