-- The windows of the board by heading, and those through one cell.
use Rattle.std.specs.Prelude.{◌≡◌, ℕ, ◌+◌, ◌-◌, ◌<◌, ◌≤◌, Bool, true, false, cond, ◌&&◌, ◌||◌, List, ◌++◌, length, Some, None, Option, ◌==◌, ◌≢◌, nat_le, nat_lt, refl}
use Rattle.std.specs.List.{list_any, range_with_len}
use Rattle.std.proofs.Common.{sym, ap, ◌∙◌, inl, inr, arith}
use Rattle.std.proofs.Math.Path.{ap₂}
use Rattle.std.proofs.Math.Bool.{or-false}
use Rattle.std.proofs.lemmas.List.Folds.{list_all-map}
use Rattle.std.proofs.lemmas.Bool.{and_parts, and_from, cases_Bool, both_ways, le-leb, lt-ltb, ltb-true, eq-eqb, eqb-true, cond-true, true≢false}
use Rattle.board.specs.Windows.{Cell, cells, every, some, below, grid, windows, in_line}
use Rattle.board.proofs.Windows.{some_in, every_weaker, some_append, some_grid, found}
use Rattle.gomoku_theory.specs.declared.Heading.{Heading}
use Rattle.gomoku_theory.specs.declared.Heading.TheVariants.{Upright, Level, Rising, Falling}
use Rattle.gomoku_theory.specs.Gomoku.{lines}
use Rattle.gomoku_theory.specs.Search.{headings, columns_of, rows_of, column_at, row_at, cell_at, window, board_has, begin, both, begin_of, begun, passes, through}
use Rattle.gomoku_theory.proofs.Tests.{same_test, same_any, range_is_below, one_of, none_of, each_of, from_each}

pub count : length lines ≡ 572
unfolding windows
count = refl

-- ---- all windows, heading by heading

some_four : {X : Type 0} (q : X → Bool) (u v w x : List X) → some q (u ++ (v ++ (w ++ x))) ≡ (some q u || (some q v || (some q w || some q x)))
some_four q u v w x =
    some_append q u (v ++ (w ++ x))
    ∙ ap (λ (b : Bool). some q u || b) (some_append q v (w ++ x) ∙ ap (λ (b : Bool). some q v || b) (some_append q w x))

some_windows : (p : Cell → Bool) (columns rows n : ℕ) → some (λ w. every p w) (windows columns rows n)
    ≡ (some (λ c. some (λ r. every p (cells n (λ j. c) (λ j. r + j))) (below (rows - (n - 1)))) (below columns)
    || (some (λ c. some (λ r. every p (cells n (λ j. c + j) (λ j. r))) (below rows)) (below (columns - (n - 1)))
    || (some (λ c. some (λ r. every p (cells n (λ j. c + j) (λ j. r + j))) (below (rows - (n - 1)))) (below (columns - (n - 1)))
    || some (λ c. some (λ r. every p (cells n (λ j. c + j) (λ j. (r + (n - 1)) - j))) (below (rows - (n - 1)))) (below (columns - (n - 1))))))
unfolding windows
some_windows p columns rows n =
    let q : List Cell → Bool = λ w. every p w in
    let C = columns - (n - 1) in
    let R = rows - (n - 1) in
    let upright : ℕ → ℕ → List Cell = λ c r. cells n (λ j. c) (λ j. r + j) in
    let level : ℕ → ℕ → List Cell = λ c r. cells n (λ j. c + j) (λ j. r) in
    let rising : ℕ → ℕ → List Cell = λ c r. cells n (λ j. c + j) (λ j. r + j) in
    let falling : ℕ → ℕ → List Cell = λ c r. cells n (λ j. c + j) (λ j. (r + (n - 1)) - j) in
    some_four q (grid columns R upright) (grid C rows level) (grid C R rising) (grid C R falling)
    ∙ ap₂ ◌||◌ (some_grid q upright (λ c r. q (upright c r)) (λ c r. refl) columns R)
    (ap₂ ◌||◌ (some_grid q level (λ c r. q (level c r)) (λ c r. refl) C rows)
    (ap₂ ◌||◌ (some_grid q rising (λ c r. q (rising c r)) (λ c r. refl) C R)
    (some_grid q falling (λ c r. q (falling c r)) (λ c r. refl) C R)))

board_is : (p : Cell → Bool) (h : Heading) → board_has p h ≡ some (λ c. some (λ r. every p (window h c r)) (below (rows_of h))) (below (columns_of h))
unfolding board_has
board_is p h =
    let e : range_with_len 0 ≡ below = λ i n. range_is_below n i in
    ap (λ (f : ℕ → List ℕ). some (λ c. some (λ r. every p (window h c r)) (f (rows_of h))) (f (columns_of h))) e

pub line_is : (p : Cell → Bool) → in_line lines p ≡ list_any (board_has p) headings
unfolding in_line
line_is p =
    some_windows p 15 15 5
    ∙ sym (ap₂ ◌||◌ (board_is p Upright) (ap₂ ◌||◌ (board_is p Level) (ap₂ ◌||◌ (board_is p Rising) (or-false (board_has p Falling) ∙ board_is p Falling))))

-- what a search heading by heading answers
pub line_by : (p : Cell → Bool) (r : Bool) → r ≡ list_any (board_has p) headings → r ≡ in_line lines p
line_by p r e = e ∙ sym (line_is p)

pub line_more : (p q : Cell → Bool) → ((x : Cell) → p x ≡ true → q x ≡ true) → in_line lines p ≡ true → in_line lines q ≡ true
unfolding in_line
line_more p q f h = some_in (λ w. every q w) (λ w. every p w) (λ w e. every_weaker p q f w e) lines h

pub same_line : (p q : Cell → Bool) → ((x : Cell) → p x ≡ q x) → in_line lines p ≡ in_line lines q
same_line p q h = let e : p ≡ q = λ i x. h x i in ap (in_line lines) e

-- ---- one window

pub window_at : (p : Cell → Bool) (h : Heading) (c r : ℕ) → every p (window h c r) ≡ every (λ j. p (cell_at h c r j)) (below 5)
window_at p h c r = list_all-map p (cell_at h c r) (below 5)

one_window : (p : Cell → Bool) (h : Heading) → board_has p h ≡ true
    → (c : ℕ) × (c < columns_of h) × ((r : ℕ) × (r < rows_of h) × (every p (window h c r) ≡ true))
one_window p h y = let x = one_of _ (columns_of h) (sym (board_is p h) ∙ y) in (x.0, x.1, one_of _ (rows_of h) x.2)

from_window : (p : Cell → Bool) (h : Heading) (c r : ℕ) → c < columns_of h → r < rows_of h → every p (window h c r) ≡ true → board_has p h ≡ true
from_window p h c r k l y =
    board_is p h ∙ found _ c (columns_of h) k (found (λ i. every p (window h c i)) r (rows_of h) l y)

column_inside : (h : Heading) (c j : ℕ) → c < columns_of h → j < 5 → column_at h c j < 15
column_inside Upright c j k l = omega arith
column_inside Level c j k l = omega arith
column_inside Rising c j k l = omega arith
column_inside Falling c j k l = omega arith

-- ---- where a window through a cell begins

begin_is : (x j b : ℕ) → j ≤ x → x - j ≡ b → b < 11 → begin x j ≡ Some b
begin_is x j b l e k =
    cond-true _ _ _ (and_from _ _ (le-leb j x l) (lt-ltb (x - j) 11 (omega arith))) ∙ ap Some e

begin_below : (x j b : ℕ) → begin x j ≡ Some b → b < 11
begin_below x j b h =
    elim (cases_Bool (nat_le j x && nat_lt (x - j) 11)) [
      | inl y ↦
          let l : x - j < 11 = ltb-true (x - j) 11 (and_parts (nat_le j x) (nat_lt (x - j) 11) y).1 in
          let e : Some (x - j) ≡ Some b = sym (cond-true _ _ _ y) ∙ h in
          let d : x - j ≡ b = cc in
          omega arith
      | inr y ↦ let e : ◌≡◌ {A = Option ℕ} None (Some b) = sym (ap (λ (t : Bool). cond t (Some (x - j)) None) y) ∙ h in let z : ◌≡◌ {A = ℕ} 0 1 = cc in absurd (omega arith)
    ]

-- a window begins where each of its cells says
begin_of_is : (h : Heading) (c r j : ℕ) → c < columns_of h → r < rows_of h → j < 5 → begin_of h (column_at h c j) (row_at h r j) j ≡ Some (c, r)
begin_of_is Upright c r j k l m = ap (both (Some c)) (begin_is (r + j) j r (omega arith) (omega arith) l)
begin_of_is Level c r j k l m = ap (λ (o : Option ℕ). both o (Some r)) (begin_is (c + j) j c (omega arith) (omega arith) k)
begin_of_is Rising c r j k l m = ap₂ both (begin_is (c + j) j c (omega arith) (omega arith) k) (begin_is (r + j) j r (omega arith) (omega arith) l)
begin_of_is Falling c r j k l m = ap₂ both (begin_is (c + j) j c (omega arith) (omega arith) k) (begin_is ((r + 4) - j) (4 - j) r (omega arith) (omega arith) l)

both_some : (a b : Option ℕ) (x : ℕ × ℕ) → both a b ≡ Some x → (a ≡ Some x.0) × (b ≡ Some x.1)
both_some None b x h = let z : ◌≡◌ {A = ℕ} 0 1 = cc in absurd (omega arith)
both_some (Some y) None x h = let z : ◌≡◌ {A = ℕ} 0 1 = cc in absurd (omega arith)
both_some (Some y) (Some w) x h = let e : (y, w) ≡ x = cc in (ap (λ (p : ℕ × ℕ). Some p.0) e, ap (λ (p : ℕ × ℕ). Some p.1) e)

same_some : (a b : ℕ) → Some a ≡ Some b → a ≡ b
same_some a b h = cc

begin_of_below : (h : Heading) (c r j : ℕ) (x : ℕ × ℕ) → c < 15 → r < 15 → begin_of h c r j ≡ Some x → (x.0 < columns_of h) × (x.1 < rows_of h)
begin_of_below Upright c r j x k l h = let e = both_some _ _ x h in let d = same_some _ _ e.0 in (omega arith, begin_below r j x.1 e.1)
begin_of_below Level c r j x k l h = let e = both_some _ _ x h in let d = same_some _ _ e.1 in (begin_below c j x.0 e.0, omega arith)
begin_of_below Rising c r j x k l h = let e = both_some _ _ x h in (begin_below c j x.0 e.0, begin_below r j x.1 e.1)
begin_of_below Falling c r j x k l h = let e = both_some _ _ x h in (begin_below c j x.0 e.0, begin_below r (4 - j) x.1 e.1)

-- whether the j-th cell of a window is the one in column c and row r
abbrev is_cell : Heading → ℕ → ℕ → ℕ → ℕ → ℕ → Bool
is_cell h c0 r0 c r j = column_at h c0 j == c && row_at h r0 j == r

-- ---- a test that was met nowhere, changed at one cell: only the windows through it count

module _ (p q : Cell → Bool) (c r : ℕ) (k : c < 15) (l : r < 15)
    (same : (x : Cell) → x.column < 15 → (x.column ≡ c → x.row ≢ r) → q x ≡ true → p x ≡ true) where
  passed : (h : Heading) (o : Option (ℕ × ℕ)) → ((x : ℕ × ℕ) → o ≡ Some x → (x.0 < columns_of h) × (x.1 < rows_of h)) → begun q h o ≡ true → board_has q h ≡ true
  passed h None f y = absurd (true≢false (sym y))
  passed h (Some x) f y = let e = f x refl in from_window q h x.0 x.1 e.0 e.1 y

  nearby : (h : Heading) → through q h c r ≡ true → board_has q h ≡ true
  unfolding through
  nearby h y =
      let x = one_of (passes q h c r) 5 y in
      passed h (begin_of h c r x.0) (λ b e. begin_of_below h c r x.0 b k l e) x.2

  -- a window that passes and lacks the cell passed before
  away : (h : Heading) (c0 r0 : ℕ) → c0 < columns_of h → every q (window h c0 r0) ≡ true
      → some (is_cell h c0 r0 c r) (below 5) ≡ false → every p (window h c0 r0) ≡ true
  away h c0 r0 m y n =
      let e = sym (window_at q h c0 r0) ∙ y in
      window_at p h c0 r0 ∙ from_each _ 5 (λ j b.
      same (cell_at h c0 r0 j) (column_inside h c0 j m b)
      (λ u v. both_ways _ (none_of (is_cell h c0 r0 c r) 5 j n b) (and_from _ _ (eq-eqb _ _ u) (eq-eqb _ _ v)))
      (each_of (λ i. q (cell_at h c0 r0 i)) 5 j e b))

  hit : (h : Heading) (c0 r0 : ℕ) → c0 < columns_of h → r0 < rows_of h → every q (window h c0 r0) ≡ true
      → some (is_cell h c0 r0 c r) (below 5) ≡ true → through q h c r ≡ true
  unfolding through
  hit h c0 r0 m n y s =
      let x = one_of (is_cell h c0 r0 c r) 5 s in
      let j = x.0 in
      let e = and_parts _ _ x.2 in
      let b : begin_of h c r j ≡ Some (c0, r0) = ap₂ (λ (a b : ℕ). begin_of h a b j) (sym (eqb-true _ _ e.0)) (sym (eqb-true _ _ e.1)) ∙ begin_of_is h c0 r0 j m n x.1 in
      found (passes q h c r) j 5 x.1 (ap (begun q h) b ∙ y)

  only_near : (h : Heading) → board_has p h ≡ false → board_has q h ≡ through q h c r
  only_near h none =
      same_test _ _
      (λ y.
      let w = one_window q h y in
      let v = w.2 in
      elim (cases_Bool (some (is_cell h w.0 v.0 c r) (below 5))) [
        | inl s ↦ hit h w.0 v.0 w.1 v.1 v.2 s
        | inr s ↦ absurd (both_ways _ none (from_window p h w.0 v.0 w.1 v.1 (away h w.0 v.0 w.1 v.2 s)))
      ])
      (nearby h)

  pub line_near : in_line lines p ≡ false → in_line lines q ≡ list_any (λ h. through q h c r) headings
  line_near none =
      line_is q ∙ same_any (board_has p) (board_has q) (λ h. through q h c r) headings only_near (sym (line_is p) ∙ none)
