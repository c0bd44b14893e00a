-- The windows are just the straight lines of their length that lie on the board.
use Rattle.std.proofs.Common.{◌≡◌, ℕ, zero, suc, ◌+◌, ◌-◌, ◌*◌, ◌<◌, ◌≤◌, Bool, true, ◌⊎◌, List, [], ◌∷◌, ◌++◌, map, length, take, drop, sym, refl, ap, ◌∙◌, subst, ap₂, inl, inr, add-zero, suc-mul, zero-add, zero-mul, arith, length-append}
use native.Mathlib.Nat.{sub-zero}
use lib.ListN.{length-map}
use Rattle.std.specs.List.{flat_map, AllByRecursion as All}
use Rattle.std.proofs.lemmas.List.{length-take-le, take-append-drop}
use Rattle.std.proofs.lemmas.List.Folds.{list_all-append}
use Rattle.std.proofs.ByRecursion.{All-take}
use Rattle.std.proofs.lemmas.Bool.{and_parts, or_cases, or_left, or_right, cases_lt, true≢false}
use Rattle.board.specs.Windows.{Cell, cell, every, some, below, grid, cells, windows, in_line}
use Rattle.board.specs.Straight.{Heading, upright, level, rising, falling, Step, Straight, Inside, LineOn, Among, WindowsRight, LinesHoldWindows, InLineRight, WindowCounts}

-- ---- being in a list

among_left : {X : Type 0} (x : X) (xs ys : List X) → Among x xs → Among x (xs ++ ys)
among_left x [] ys a = absurd a
among_left x (y ∷ xs) ys a = elim a [ inl e ↦ inl e | inr b ↦ inr (among_left x xs ys b) ]

among_right : {X : Type 0} (x : X) (xs ys : List X) → Among x ys → Among x (xs ++ ys)
among_right x [] ys a = a
among_right x (y ∷ xs) ys a = inr (among_right x xs ys a)

among_cases : {X : Type 0} (x : X) (xs ys : List X) → Among x (xs ++ ys) → Among x xs ⊎ Among x ys
among_cases x [] ys a = inr a
among_cases x (y ∷ xs) ys a =
    elim a [
      | inl e ↦ inl (inl e)
      | inr b ↦ elim (among_cases x xs ys b) [ inl d ↦ inl (inr d) | inr d ↦ inr d ]
    ]

among_below : (i n : ℕ) → i < n → Among i (below n)
among_below i zero l = absurd (omega arith)
among_below i (suc n) l =
    elim (cases_lt i n) [
      | inl s ↦ among_left i (below n) (n ∷ []) (among_below i n s)
      | inr s ↦ among_right i (below n) (n ∷ []) (inl (omega arith))
    ]

below_among : (i n : ℕ) → Among i (below n) → i < n
below_among i zero a = absurd a
below_among i (suc n) a =
    elim (among_cases i (below n) (n ∷ []) a) [
      | inl b ↦ let l = below_among i n b in omega arith
      | inr b ↦ elim b [ inl e ↦ omega arith | inr z ↦ absurd z ]
    ]

among_map : {X Y : Type 0} (f : X → Y) (x : X) (xs : List X) → Among x xs → Among (f x) (map f xs)
among_map f x [] a = absurd a
among_map f x (y ∷ xs) a = elim a [ inl e ↦ inl (ap f e) | inr b ↦ inr (among_map f x xs b) ]

map_among : {X Y : Type 0} (f : X → Y) (y : Y) (xs : List X) → Among y (map f xs) → (x : X) × Among x xs × (y ≡ f x)
map_among f y [] a = absurd a
map_among f y (x ∷ xs) a =
    elim a [
      | inl e ↦ (x, inl refl, e)
      | inr b ↦ let r = map_among f y xs b in (r.0, inr r.1, r.2)
    ]

among_joined : {X Y : Type 0} (f : X → List Y) (y : Y) (x : X) (xs : List X) → Among x xs → Among y (f x) → Among y (flat_map f xs)
among_joined f y x [] a b = absurd a
among_joined {X} f y x (z ∷ xs) a b =
    elim a [
      | inl e ↦ among_left y (f z) (flat_map f xs) (subst (λ (u : X). Among y (f u)) e b)
      | inr d ↦ among_right y (f z) (flat_map f xs) (among_joined f y x xs d b)
    ]

joined_among : {X Y : Type 0} (f : X → List Y) (y : Y) (xs : List X) → Among y (flat_map f xs) → (x : X) × Among x xs × Among y (f x)
joined_among f y [] a = absurd a
joined_among f y (x ∷ xs) a =
    elim (among_cases y (f x) (flat_map f xs) a) [
      | inl b ↦ (x, inl refl, b)
      | inr b ↦ let r = joined_among f y xs b in (r.0, inr r.1, r.2)
    ]

among_grid : {X : Type 0} (f : ℕ → ℕ → X) (columns rows c r : ℕ) → c < columns → r < rows → Among (f c r) (grid columns rows f)
among_grid f columns rows c r a b =
    among_joined (λ c. map (λ r. f c r) (below rows)) (f c r) c (below columns) (among_below c columns a)
    (among_map (f c) r (below rows) (among_below r rows b))

grid_among : {X : Type 0} (f : ℕ → ℕ → X) (x : X) (columns rows : ℕ) → Among x (grid columns rows f) → (c : ℕ) × (r : ℕ) × (c < columns) × (r < rows) × (x ≡ f c r)
grid_among f x columns rows a =
    let u = joined_among (λ c. map (λ r. f c r) (below rows)) x (below columns) a in
    let v = map_among (f u.0) x (below rows) u.2 in
    (u.0, v.0, below_among _ columns u.1, below_among _ rows v.1, v.2)

-- ---- a line by its cells' numbers, from one number on

abbrev upto : ℕ → ℕ → List ℕ
upto i zero = []
upto i (suc n) = i ∷ upto (suc i) n

upto_push : (i n : ℕ) → upto i n ++ ((i + n) ∷ []) ≡ upto i (suc n)
upto_push i zero = ap (λ (k : ℕ). k ∷ []) (add-zero i)
upto_push i (suc n) = ap (λ (l : List ℕ). i ∷ l) (ap (λ (k : ℕ). upto (suc i) n ++ (k ∷ [])) (omega arith) ∙ upto_push (suc i) n)

below_upto : (n : ℕ) → below n ≡ upto 0 n
below_upto zero = refl
below_upto (suc n) = ap (λ (l : List ℕ). l ++ (n ∷ [])) (below_upto n) ∙ ap (λ (k : ℕ). upto 0 n ++ (k ∷ [])) (sym (zero-add n)) ∙ upto_push 0 n

length_upto : (i n : ℕ) → length (upto i n) ≡ n
length_upto i zero = refl
length_upto i (suc n) = ap suc (length_upto (suc i) n)

straight_upto : (h : Heading) (f : ℕ → Cell) (i n : ℕ) → ((j : ℕ) → suc j < i + n → Step h (f j) (f (suc j))) → Straight h (map f (upto i n))
straight_upto h f i zero s = tt
straight_upto h f i (suc zero) s = tt
straight_upto h f i (suc (suc n)) s = (s i (omega arith), straight_upto h f (suc i) (suc n) (λ j l. s j (omega arith)))

all_upto : (P : Cell → Type 0) (f : ℕ → Cell) (i n : ℕ) → ((j : ℕ) → j < i + n → P (f j)) → All P (map f (upto i n))
all_upto P f i zero s = tt
all_upto P f i (suc n) s = (s i (omega arith), all_upto P f (suc i) n (λ j l. s j (omega arith)))

-- a window is a line
line_of : (columns rows n : ℕ) (h : Heading) (column row : ℕ → ℕ) → ((j : ℕ) → suc j < n → Step h (cell (column j) (row j)) (cell (column (suc j)) (row (suc j))))
    → ((j : ℕ) → j < n → Inside columns rows (cell (column j) (row j))) → (w : List Cell) → w ≡ cells n column row → (length w ≡ n) × LineOn columns rows w
line_of columns rows n h column row st ins w e =
    let f : ℕ → Cell = λ j. cell (column j) (row j) in
    let d : w ≡ map f (upto 0 n) = e ∙ ap (map f) (below_upto n) in (
      ap length d ∙ length-map (upto 0 n) f ∙ length_upto 0 n,
      (
        (h, subst (Straight h) (sym d) (straight_upto h f 0 n (λ j l. st j (omega arith)))),
        subst (All (Inside columns rows)) (sym d) (all_upto (Inside columns rows) f 0 n (λ j l. ins j (omega arith))),
      ),
    )

-- ---- a line is a window

-- the windows under each heading
abbrev uprights : ℕ → ℕ → ℕ → List Cell
uprights n c r = cells n (λ j. c) (λ j. r + j)

abbrev levels : ℕ → ℕ → ℕ → List Cell
levels n c r = cells n (λ j. c + j) (λ j. r)

abbrev risings : ℕ → ℕ → ℕ → List Cell
risings n c r = cells n (λ j. c + j) (λ j. r + j)

abbrev fallings : ℕ → ℕ → ℕ → List Cell
fallings n c r = cells n (λ j. c + j) (λ j. (r + (n - 1)) - j)

-- the cells that a heading gives from a cell on
abbrev from : Heading → Cell → ℕ → Cell
from upright a j = cell a.column (a.row + j)
from level a j = cell (a.column + j) a.row
from rising a j = cell (a.column + j) (a.row + j)
from falling a j = cell (a.column + j) (a.row - j)

from_none : (h : Heading) (a : Cell) → a ≡ from h a 0
from_none upright a = ap (λ (r : ℕ). cell a.column r) (sym (add-zero a.row))
from_none level a = ap (λ (c : ℕ). cell c a.row) (sym (add-zero a.column))
from_none rising a = ap₂ cell (sym (add-zero a.column)) (sym (add-zero a.row))
from_none falling a = ap₂ cell (sym (add-zero a.column)) (sym (sub-zero a.row))

from_next : (h : Heading) (a b : Cell) → Step h a b → (j : ℕ) → from h a (suc j) ≡ from h b j
from_next upright a b s j = let e = s.0 in let d = s.1 in ap₂ cell (omega arith) (omega arith)
from_next level a b s j = let e = s.0 in let d = s.1 in ap₂ cell (omega arith) (omega arith)
from_next rising a b s j = let e = s.0 in let d = s.1 in ap₂ cell (omega arith) (omega arith)
from_next falling a b s j = let e = s.0 in let d = s.1 in ap₂ cell (omega arith) (omega arith)

map_shift : (f g : ℕ → Cell) → ((j : ℕ) → f (suc j) ≡ g j) → (i n : ℕ) → map f (upto (suc i) n) ≡ map g (upto i n)
map_shift f g e i zero = refl
map_shift f g e i (suc n) = ap₂ (λ (x : Cell) (xs : List Cell). x ∷ xs) (e i) (map_shift f g e (suc i) n)

line_from : (h : Heading) (a : Cell) (cs : List Cell) → Straight h (a ∷ cs) → a ∷ cs ≡ map (from h a) (upto 0 (suc (length cs)))
line_from h a [] s = ap (λ (x : Cell). x ∷ []) (from_none h a)
line_from h a (b ∷ cs) s =
    ap₂ (λ (x : Cell) (xs : List Cell). x ∷ xs) (from_none h a)
    (line_from h b cs s.1 ∙ sym (map_shift (from h a) (from h b) (from_next h a b s.0) 0 (suc (length cs))))

all_at : (P : Cell → Type 0) (f : ℕ → Cell) (i n : ℕ) → All P (map f (upto i n)) → (j : ℕ) → j < n → P (f (i + j))
all_at P f i zero a j l = absurd (omega arith)
all_at P f i (suc n) a zero l = subst (λ (k : ℕ). P (f k)) (sym (add-zero i)) a.0
all_at P f i (suc n) a (suc j) l = subst (λ (k : ℕ). P (f k)) (omega arith) (all_at P f (suc i) n a.1 j (omega arith))

-- a falling line begins at least as high as it is long
falls_from : (a : Cell) (cs : List Cell) → Straight falling (a ∷ cs) → length cs ≤ a.row
falls_from a [] s = omega arith
falls_from a (b ∷ cs) s = let l = falls_from b cs s.1 in let d = s.0.1 in omega arith

module _ (columns rows : ℕ) (a : Cell) (cs : List Cell) (ins : All (Inside columns rows) (a ∷ cs)) where
  last_of : (h : Heading) → Straight h (a ∷ cs) → Inside columns rows (from h a (length cs))
  last_of h s =
      subst (λ (k : ℕ). Inside columns rows (from h a k)) (zero-add (length cs))
      (all_at (Inside columns rows) (from h a) 0 (suc (length cs)) (subst (All (Inside columns rows)) (line_from h a cs s) ins) (length cs) (omega arith))

  as_cells : (h : Heading) → Straight h (a ∷ cs) → a ∷ cs ≡ map (from h a) (below (suc (length cs)))
  as_cells h s = line_from h a cs s ∙ ap (map (from h a)) (sym (below_upto (suc (length cs))))

  abbrev n : ℕ
  n = suc (length cs)

  abbrev us : List (List Cell)
  us = grid columns (rows - (n - 1)) (uprights n)

  abbrev ls : List (List Cell)
  ls = grid (columns - (n - 1)) rows (levels n)

  abbrev rs : List (List Cell)
  rs = grid (columns - (n - 1)) (rows - (n - 1)) (risings n)

  abbrev fs : List (List Cell)
  fs = grid (columns - (n - 1)) (rows - (n - 1)) (fallings n)

  window : (h : Heading) → Straight h (a ∷ cs) → Among (a ∷ cs) (windows columns rows (suc (length cs)))
  unfolding windows
  window upright s =
      let l = last_of upright s in
      let x = l.0 in
      let y = l.1 in
      among_left (a ∷ cs) us (ls ++ (rs ++ fs))
      (subst (λ (w : List Cell). Among w us) (sym (as_cells upright s)) (among_grid (uprights n) columns (rows - (n - 1)) a.column a.row (omega arith) (omega arith)))
  window level s =
      let l = last_of level s in
      let x = l.0 in
      let y = l.1 in
      among_right (a ∷ cs) us (ls ++ (rs ++ fs)) (among_left (a ∷ cs) ls (rs ++ fs)
      (subst (λ (w : List Cell). Among w ls) (sym (as_cells level s)) (among_grid (levels n) (columns - (n - 1)) rows a.column a.row (omega arith) (omega arith))))
  window rising s =
      let l = last_of rising s in
      let x = l.0 in
      let y = l.1 in
      among_right (a ∷ cs) us (ls ++ (rs ++ fs)) (among_right (a ∷ cs) ls (rs ++ fs) (among_left (a ∷ cs) rs fs
      (subst (λ (w : List Cell). Among w rs) (sym (as_cells rising s)) (among_grid (risings n) (columns - (n - 1)) (rows - (n - 1)) a.column a.row (omega arith) (omega arith)))))
  window falling s =
      let l = last_of falling s in
      let x = l.0 in
      let y = ins.0.1 in
      let z = falls_from a cs s in
      let r = a.row - (n - 1) in
      let e : a.row ≡ r + (n - 1) = omega arith in
      let d : a ∷ cs ≡ fallings n a.column r = as_cells falling s ∙ ap (λ (k : ℕ). cells n (λ j. a.column + j) (λ j. k - j)) e in
      among_right (a ∷ cs) us (ls ++ (rs ++ fs)) (among_right (a ∷ cs) ls (rs ++ fs) (among_right (a ∷ cs) rs fs
      (subst (λ (w : List Cell). Among w fs) (sym d) (among_grid (fallings n) (columns - (n - 1)) (rows - (n - 1)) a.column r (omega arith) (omega arith)))))

-- ---- the theorems

from_window : (columns rows n : ℕ) → 1 ≤ n → (w : List Cell) → Among w (windows columns rows n) → (length w ≡ n) × LineOn columns rows w
unfolding windows
from_window columns rows n few w a =
    elim (among_cases w _ _ a) [
      | inl b ↦
          let g = grid_among (uprights n) w columns (rows - (n - 1)) b in
          let x = g.2 in
          let y = g.3 in
          line_of columns rows n upright (λ j. g.0) (λ j. g.1 + j) (λ j l. (refl, omega arith)) (λ j l. (x, omega arith)) w g.4
      | inr a' ↦ elim (among_cases w _ _ a') [
        | inl b ↦
            let g = grid_among (levels n) w (columns - (n - 1)) rows b in
            let x = g.2 in
            let y = g.3 in
            line_of columns rows n level (λ j. g.0 + j) (λ j. g.1) (λ j l. (omega arith, refl)) (λ j l. (omega arith, y)) w g.4
        | inr a'' ↦ elim (among_cases w _ _ a'') [
          | inl b ↦
              let g = grid_among (risings n) w (columns - (n - 1)) (rows - (n - 1)) b in
              let x = g.2 in
              let y = g.3 in
              line_of columns rows n rising (λ j. g.0 + j) (λ j. g.1 + j) (λ j l. (omega arith, omega arith)) (λ j l. (omega arith, omega arith)) w g.4
          | inr b ↦
              let g = grid_among (fallings n) w (columns - (n - 1)) (rows - (n - 1)) b in
              let x = g.2 in
              let y = g.3 in
              line_of columns rows n falling (λ j. g.0 + j) (λ j. (g.1 + (n - 1)) - j) (λ j l. (omega arith, omega arith)) (λ j l. (omega arith, omega arith)) w g.4
        ]
      ]
    ]

to_window : (columns rows n : ℕ) → 1 ≤ n → (w : List Cell) → length w ≡ n → LineOn columns rows w → Among w (windows columns rows n)
to_window columns rows n few [] e l = let z : ◌≡◌ {A = ℕ} 0 n = e in absurd (omega arith)
to_window columns rows n few (a ∷ cs) e l =
    subst (λ (k : ℕ). Among (a ∷ cs) (windows columns rows k)) e (window columns rows a cs l.1 l.0.0 l.0.1)

pub windows_right : WindowsRight
windows_right columns rows n few w = (from_window columns rows n few w, to_window columns rows n few w)

straight_take : (h : Heading) (n : ℕ) (w : List Cell) → Straight h w → Straight h (take n w)
straight_take h zero w s = tt
straight_take h (suc n) [] s = tt
straight_take h (suc n) (a ∷ []) s = elim n as (λ (k : ℕ). Straight h (a ∷ take k [])) [ zero ↦ tt | suc k ↦ tt ]
straight_take h (suc zero) (a ∷ (b ∷ cs)) s = tt
straight_take h (suc (suc n)) (a ∷ (b ∷ cs)) s = (s.0, straight_take h (suc n) (b ∷ cs) s.1)

pub lines_hold_windows : LinesHoldWindows
lines_hold_windows columns rows n few w long l =
    to_window columns rows n few (take n w) (length-take-le n w long) ((l.0.0, straight_take l.0.0 n w l.0.1), All-take (Inside columns rows) n w l.1)

some_among : {X : Type 0} (p : X → Bool) (x : X) (xs : List X) → Among x xs → p x ≡ true → some p xs ≡ true
some_among p x [] a h = absurd a
some_among {X} p x (y ∷ xs) a h =
    elim a [
      | inl e ↦ or_left _ _ (subst (λ (u : X). p u ≡ true) e h)
      | inr b ↦ or_right _ _ (some_among p x xs b h)
    ]

among_some : {X : Type 0} (p : X → Bool) (xs : List X) → some p xs ≡ true → (x : X) × Among x xs × (p x ≡ true)
among_some p [] h = absurd (true≢false (sym h))
among_some p (x ∷ xs) h =
    elim (or_cases (p x) (some p xs) h) [
      | inl y ↦ (x, inl refl, y)
      | inr y ↦ let r = among_some p xs y in (r.0, inr r.1, r.2)
    ]

every_take : {X : Type 0} (p : X → Bool) (n : ℕ) (xs : List X) → every p xs ≡ true → every p (take n xs) ≡ true
every_take p n xs h =
    (and_parts _ _ (sym (list_all-append p (take n xs) (drop n xs)) ∙ ap (every p) (take-append-drop n xs) ∙ h)).0

pub in_line_right : InLineRight
unfolding in_line
in_line_right columns rows n few p = (
  (λ h.
      let g = among_some (λ w. every p w) (windows columns rows n) h in
      let l = from_window columns rows n few g.0 g.1 in
      let e = l.0 in
      (g.0, omega arith, l.1, g.2)),
  (λ g. some_among (λ w. every p w) (take n g.0) (windows columns rows n) (lines_hold_windows columns rows n few g.0 g.1 g.2) (every_take p n g.0 g.3)),
)

-- ---- how many there are

length_below : (n : ℕ) → length (below n) ≡ n
length_below n = ap length (below_upto n) ∙ length_upto 0 n

length_joined : {X Y : Type 0} (f : X → List Y) (k : ℕ) → ((x : X) → length (f x) ≡ k) → (xs : List X) → length (flat_map f xs) ≡ length xs * k
length_joined f k h [] = sym (zero-mul k)
length_joined f k h (x ∷ xs) =
    let i = length_joined f k h xs in
    let a = length-append (f x) (flat_map f xs) in
    let b = h x in
    let m = suc-mul (length xs) k in
    omega arith

length_grid : {X : Type 0} (f : ℕ → ℕ → X) (columns rows : ℕ) → length (grid columns rows f) ≡ columns * rows
length_grid f columns rows =
    length_joined (λ c. map (λ r. f c r) (below rows)) rows (λ c. length-map (below rows) (f c) ∙ length_below rows) (below columns)
    ∙ ap (λ (k : ℕ). k * rows) (length_below columns)

pub window_number : (columns rows n : ℕ) → length (windows columns rows n)
    ≡ columns * (rows - (n - 1)) + ((columns - (n - 1)) * rows + ((columns - (n - 1)) * (rows - (n - 1)) + (columns - (n - 1)) * (rows - (n - 1))))
unfolding windows
window_number columns rows n =
    let c = columns - (n - 1) in
    let r = rows - (n - 1) in
    let g1 = grid columns r (uprights n) in
    let g2 = grid c rows (levels n) in
    let g3 = grid c r (risings n) in
    let g4 = grid c r (fallings n) in
    length-append g1 (g2 ++ (g3 ++ g4)) ∙ ap₂ ◌+◌ (length_grid _ columns r)
    (length-append g2 (g3 ++ g4) ∙ ap₂ ◌+◌ (length_grid _ c rows) (length-append g3 g4 ∙ ap₂ ◌+◌ (length_grid _ c r) (length_grid _ c r)))

pub window_counts : WindowCounts
window_counts = (window_number 7 6 4, window_number 15 15 5, window_number 3 3 3)
