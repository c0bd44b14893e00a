-- Bytes laid into a buffer, one part after another.
use Rattle.std.proofs.Common.{◌≡◌, ℕ, ◌+◌, ◌*◌, ◌<◌, ◌≤◌, Bool, cond, List, [], ◌∷◌, ◌++◌, length, get_or, take, drop, Some, None, sym, refl, ap, ◌∙◌, subst, ap₂, append_assoc, arith, length-append, length-drop, le-leb}
use Rattle.std.proofs.lemmas.List.{take_at, drop_at, take_more, take_all, take-append-drop, length-take-le, drop-drop}
use Rattle.std.specs.List.{slice_get}
use Rattle.std.proofs.lemmas.Option.{slice_get-get_or}
use borrow.Author.Tests.{lt-leb}
use Rattle.verdict.specs.declared.Turn.{Turn}
use Rattle.format.specs.Layout.{Content, encode, head, pair, half, word, turn_bytes}
use Rattle.format.specs.Laid.{laid, Lays, written, word_size}
use Rattle.format.proofs.Back.{length_encode, length_turn_bytes}

pub length_laid : {A : Type 0} (b : List A) (p : ℕ) (xs : List A) → p + length xs ≤ length b → length (laid b p xs) ≡ length b
length_laid b p xs h =
    let a = length-append (take p b) (xs ++ drop (p + length xs) b) in
    let d = length-append xs (drop (p + length xs) b) in
    let e = length-take-le p b (omega arith) in
    let f = length-drop (p + length xs) b in
    omega arith

-- two parts, one right after the other
pub laid_on : {A : Type 0} (b : List A) (p : ℕ) (xs ys : List A) → p + length xs + length ys ≤ length b → laid (laid b p xs) (p + length xs) ys ≡ laid b p (xs ++ ys)
laid_on {A} b p xs ys h =
    let e = length-take-le p b (omega arith) in
    let rest = drop (p + length xs) b in
    let front = take p b ++ xs in
    let l : length front ≡ p + length xs = length-append (take p b) xs ∙ ap (λ (n : ℕ). n + length xs) e in
    let whole : laid b p xs ≡ front ++ rest = sym (append_assoc (take p b) xs rest) in
    let first : take (p + length xs) (laid b p xs) ≡ front = ap (take (p + length xs)) whole ∙ take_at front rest _ l in
    let back : drop (p + length xs) (laid b p xs) ≡ rest = ap (drop (p + length xs)) whole ∙ drop_at front rest _ l in
    let last : drop (p + length xs + length ys) (laid b p xs) ≡ drop (p + length (xs ++ ys)) b =
    sym (drop-drop (length ys) (p + length xs) (laid b p xs))
    ∙ ap (drop (length ys)) back
    ∙ drop-drop (length ys) (p + length xs) b
    ∙ ap (λ (n : ℕ). drop n b) (let k = length-append xs ys in omega arith) in
    ap₂ (λ (x y : List A). x ++ (ys ++ y)) first last
    ∙ append_assoc (take p b) xs (ys ++ drop (p + length (xs ++ ys)) b)
    ∙ ap (λ (y : List A). take p b ++ y) (sym (append_assoc xs ys (drop (p + length (xs ++ ys)) b)))

pub turn_bytes_append : (ts us : List Turn) → turn_bytes (ts ++ us) ≡ turn_bytes ts ++ turn_bytes us
turn_bytes_append [] us = refl
turn_bytes_append (t ∷ ts) us =
    ap (λ (y : List ℕ). (half t.code ++ word t.reading) ++ y) (turn_bytes_append ts us)
    ∙ sym (append_assoc (half t.code ++ word t.reading) (turn_bytes ts) (turn_bytes us))

-- the parts of a record, one after the other
joined : (c : Content) (t n : ℕ) → t ≡ length c.text → n ≡ 6 * length c.turns
    → (((((head c ++ pair 36 t) ++ pair (36 + t) n) ++ pair (36 + t + n) 8) ++ c.text) ++ turn_bytes c.turns) ++ (word c.first_left ++ word c.second_left) ≡ encode c
unfolding encode
joined c t n et en =
    let tail = word c.first_left ++ word c.second_left in
    let body = c.text ++ (turn_bytes c.turns ++ tail) in
    let parts : ℕ → ℕ → List ℕ = λ x y. head c ++ (pair 36 x ++ (pair (36 + x) y ++ (pair (36 + x + y) 8 ++ body))) in
    by_parts (head c) (pair 36 t) (pair (36 + t) n) (pair (36 + t + n) 8) c.text (turn_bytes c.turns) tail
    ∙ ap₂ parts et en
    ∙ ap (λ (xs : List ℕ). head c ++ xs) (sym (by_pairs (pair 36 (length c.text)) (pair (36 + length c.text) (6 * length c.turns)) (pair (36 + length c.text + 6 * length c.turns) 8) body))
  where
    by_parts : (a b d e f g h : List ℕ) → (((((a ++ b) ++ d) ++ e) ++ f) ++ g) ++ h ≡ a ++ (b ++ (d ++ (e ++ (f ++ (g ++ h)))))
    by_parts a b d e f g h = simp append_assoc

    by_pairs : (a b d e : List ℕ) → (a ++ (b ++ d)) ++ e ≡ a ++ (b ++ (d ++ e))
    by_pairs a b d e = simp append_assoc

pub laid_at_front : (b : List ℕ) (c : Content) → laid b 0 (encode c) ≡ written b c
laid_at_front b c = ap (λ (n : ℕ). encode c ++ drop n b) (omega arith)

pub nothing_laid : {A : Type 0} (b : List A) (p : ℕ) → b ≡ laid b p []
nothing_laid b p = sym (ap (λ (n : ℕ). take p b ++ drop n b) (omega arith) ∙ take-append-drop p b)

-- one more turn of those that are laid
pub turns_more : (ts : List Turn) (i : ℕ) (d : Turn) → i < length ts → turn_bytes (take (i + 1) ts) ≡ turn_bytes (take i ts) ++ (half (get_or ts i d).code ++ word (get_or ts i d).reading)
turns_more ts i d h = ap turn_bytes (take_more ts i d h) ∙ turn_bytes_append (take i ts) (get_or ts i d ∷ [])

-- a size that four bytes can count, and one that they cannot
pub size_some : (n m : ℕ) → n ≡ m → m ≤ 4294967295 → Some m ≡ word_size n
size_some n m e h = ap (λ (t : Bool). cond t (Some m) None) (sym (le-leb m 4294967295 h)) ∙ ap word_size (sym e)

pub size_none : (n : ℕ) → 4294967295 < n → None ≡ word_size n
size_none n h = sym (ap (λ (t : Bool). cond t (Some n) None) (lt-leb n 4294967295 h))

-- two parts, one right after the other
pub lays_on : (b b₁ b₂ : List ℕ) (p q r : ℕ) (xs ys : List ℕ) → Lays b p xs b₁ q → Lays b₁ q ys b₂ r → p + length xs + length ys ≤ length b → Lays b p (xs ++ ys) b₂ r
lays_on b b₁ b₂ p q r xs ys first second h =
    let l = length-append xs ys in
    record {
      buffer = second.buffer ∙ ap₂ (λ (x : List ℕ) (n : ℕ). laid x n ys) first.buffer first.ends ∙ laid_on b p xs ys h;
      ends = omega (arith, first.ends, second.ends);
    }

-- the parts of a record, each laid where the one before ends
pub record_laid : (c : Content) (t n : ℕ) (b b₁ b₂ b₃ b₄ b₅ b₆ b₇ : List ℕ) (p₁ p₂ p₃ p₄ p₅ p₆ p₇ : ℕ) → t ≡ length c.text → n ≡ 6 * length c.turns → length (encode c) ≤ length b
    → Lays b 0 (head c) b₁ p₁ → Lays b₁ p₁ (pair 36 t) b₂ p₂ → Lays b₂ p₂ (pair (36 + t) n) b₃ p₃ → Lays b₃ p₃ (pair (36 + t + n) 8) b₄ p₄
    → Lays b₄ p₄ c.text b₅ p₅ → Lays b₅ p₅ (turn_bytes c.turns) b₆ p₆ → Lays b₆ p₆ (word c.first_left ++ word c.second_left) b₇ p₇
    → Lays b 0 (encode c) b₇ p₇
record_laid c t n b b₁ b₂ b₃ b₄ b₅ b₆ b₇ p₁ p₂ p₃ p₄ p₅ p₆ p₇ et en h e₁ e₂ e₃ e₄ e₅ e₆ e₇ =
    let l = length_encode c in
    let lt = length_turn_bytes c.turns in
    let s₂ = lays_on b b₁ b₂ 0 p₁ p₂ (head c) (pair 36 t) e₁ e₂ (omega arith) in
    let s₃ = lays_on b b₂ b₃ 0 p₂ p₃ (head c ++ pair 36 t) (pair (36 + t) n) s₂ e₃ (omega arith) in
    let s₄ = lays_on b b₃ b₄ 0 p₃ p₄ ((head c ++ pair 36 t) ++ pair (36 + t) n) (pair (36 + t + n) 8) s₃ e₄ (omega arith) in
    let top = ((head c ++ pair 36 t) ++ pair (36 + t) n) ++ pair (36 + t + n) 8 in
    let s₅ = lays_on b b₄ b₅ 0 p₄ p₅ top c.text s₄ e₅ (omega arith) in
    let l₅ = length-append top c.text in
    let s₆ = lays_on b b₅ b₆ 0 p₅ p₆ (top ++ c.text) (turn_bytes c.turns) s₅ e₆ (omega arith) in
    let l₆ = length-append (top ++ c.text) (turn_bytes c.turns) in
    let s₇ = lays_on b b₆ b₇ 0 p₆ p₇ ((top ++ c.text) ++ turn_bytes c.turns) (word c.first_left ++ word c.second_left) s₆ e₇ (omega arith) in
    subst (λ (xs : List ℕ). Lays b 0 xs b₇ p₇) (joined c t n et en) s₇

-- no turns, and one more of those that are laid
pub no_turns_laid : (b : List ℕ) (p : ℕ) → Lays b p [] b p
no_turns_laid b p = record { buffer = nothing_laid b p; ends = omega arith }

pub turn_room : (b b₁ : List ℕ) (p q : ℕ) (ts : List Turn) (i : ℕ) → i < length ts → p + 6 * length ts ≤ length b → Lays b p (turn_bytes (take i ts)) b₁ q → q + 6 ≤ length b
turn_room b b₁ p q ts i within room e =
    let l = length_turn_bytes (take i ts) in
    let m = length-take-le i ts (omega arith) in
    omega (arith, e.ends)

pub turn_laid : (b b₁ b₂ : List ℕ) (p q r : ℕ) (ts : List Turn) (i : ℕ) (t : Turn) → i < length ts → p + 6 * length ts ≤ length b → slice_get ts i ≡ Some t
    → Lays b p (turn_bytes (take i ts)) b₁ q → Lays b₁ q (half t.code ++ word t.reading) b₂ r → Lays b p (turn_bytes (take (i + 1) ts)) b₂ r
turn_laid b b₁ b₂ p q r ts i t h room e e₁ e₂ =
    let same : get_or ts i t ≡ t = let a = slice_get-get_or ts i t h in cc in
    let l = length_turn_bytes (take i ts) in
    let m = length-take-le i ts (omega arith) in
    let s = lays_on b b₁ b₂ p q r (turn_bytes (take i ts)) (half t.code ++ word t.reading) e₁ e₂ (omega arith) in
    subst (λ (xs : List ℕ). Lays b p xs b₂ r) (ap (λ (x : Turn). turn_bytes (take i ts) ++ (half x.code ++ word x.reading)) (sym same) ∙ sym (turns_more ts i t h)) s

pub turns_laid : (b b₁ : List ℕ) (p q : ℕ) (ts : List Turn) (i : ℕ) → length ts ≤ i → Lays b p (turn_bytes (take i ts)) b₁ q → Lays b p (turn_bytes ts) b₁ q
turns_laid b b₁ p q ts i h e = subst (λ (us : List Turn). Lays b p (turn_bytes us) b₁ q) (take_all i ts h) e
