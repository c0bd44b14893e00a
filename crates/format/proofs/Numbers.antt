-- Numbers in two and four bytes, contents part by part, and lists by their places.
use Rattle.std.proofs.Common.{◌≡◌, ℕ, zero, suc, ◌+◌, ◌*◌, ◌/◌, ◌%◌, ◌<◌, ◌≤◌, List, [], ◌∷◌, length, get_or, drop, sym, refl, ap, ◌∙◌, ap₂, arith}
use native.Mathlib.Nat.{div-div-eq-div-mul}
use Rattle.std.proofs.lemmas.List.{drop_more}
use Rattle.format.specs.Layout.{Content, half, word}
use Rattle.format.specs.Requirements.{half_at, word_at}
use Rattle.format.specs.Promises.{Bytes}

pub cons : {A : Type 0} {x y : A} {xs ys : List A} → x ≡ y → xs ≡ ys → (x ∷ xs) ≡ (y ∷ ys)
cons p q = ap₂ ◌∷◌ p q

-- contents are equal part by part
pub same_content : (c d : Content) → c.first ≡ d.first → c.second ≡ d.second → c.standing ≡ d.standing → c.limit ≡ d.limit → c.text ≡ d.text → c.turns ≡ d.turns → c.first_left ≡ d.first_left → c.second_left ≡ d.second_left → c ≡ d
same_content c d e₁ e₂ e₃ e₄ e₅ e₆ e₇ e₈ = λ i. record { first = e₁ i; second = e₂ i; standing = e₃ i; limit = e₄ i; text = e₅ i; turns = e₆ i; first_left = e₇ i; second_left = e₈ i }

half_bytes : (a b : ℕ) → a < 256 → b < 256 → half (a + b * 256) ≡ (a ∷ b ∷ [])
half_bytes a b ha hb = cons (omega arith) (cons (omega arith) refl)

word_bytes : (a b c d : ℕ) → a < 256 → b < 256 → c < 256 → d < 256 → word (a + b * 256 + c * 65536 + d * 16777216) ≡ (a ∷ b ∷ c ∷ d ∷ [])
word_bytes a b c d ha hb hc hd = cons (omega arith) (cons (omega arith) (cons (omega arith) (cons (omega arith) refl)))

-- the bytes of a number that stands at a place
pub half_from : (b : List ℕ) → Bytes b → (k n : ℕ) → half_at b k ≡ n → half n ≡ (get_or b k 0 ∷ get_or b (k + 1) 0 ∷ [])
half_from b ok k n e = ap half (sym e) ∙ half_bytes _ _ (ok k) (ok (k + 1))

pub word_from : (b : List ℕ) → Bytes b → (k n : ℕ) → word_at b k ≡ n → word n ≡ (get_or b k 0 ∷ get_or b (k + 1) 0 ∷ get_or b (k + 2) 0 ∷ get_or b (k + 3) 0 ∷ [])
word_from b ok k n e = ap word (sym e) ∙ word_bytes _ _ _ _ (ok k) (ok (k + 1)) (ok (k + 2)) (ok (k + 3))

pub half_number : (n : ℕ) → n ≤ 65535 → n % 256 + n / 256 % 256 * 256 ≡ n
half_number n h = omega arith

joined : (n q₁ q₂ q₃ r₀ r₁ r₂ : ℕ) → n ≡ r₀ + q₁ * 256 → q₁ ≡ r₁ + q₂ * 256 → q₂ ≡ r₂ + q₃ * 256 → r₀ + r₁ * 256 + r₂ * 65536 + q₃ * 16777216 ≡ n
joined n q₁ q₂ q₃ r₀ r₁ r₂ a b c = omega arith

parted : (n : ℕ) → n ≡ n % 256 + n / 256 * 256
parted n = omega arith

pub word_number : (n : ℕ) → n ≤ 4294967295 → n % 256 + n / 256 % 256 * 256 + n / 65536 % 256 * 65536 + n / 16777216 % 256 * 16777216 ≡ n
word_number n h =
    let a = parted (n / 256) ∙ ap (λ (q : ℕ). n / 256 % 256 + q * 256) (div-div-eq-div-mul n 256 256) in
    let b = parted (n / 65536) ∙ ap (λ (q : ℕ). n / 65536 % 256 + q * 256) (div-div-eq-div-mul n 65536 256) in
    let top : n / 16777216 % 256 ≡ n / 16777216 = omega arith in
    ap (λ (q : ℕ). n % 256 + n / 256 % 256 * 256 + n / 65536 % 256 * 65536 + q * 16777216) top
    ∙ joined n (n / 256) (n / 65536) (n / 16777216) (n % 256) (n / 256 % 256) (n / 65536 % 256) (parted n) a b

-- n elements from place i on, and what follows them
unfoldable pub from_place : ℕ → ℕ → List ℕ → List ℕ
from_place zero i b = drop i b
from_place (suc n) i b = get_or b i 0 ∷ from_place n (i + 1) b

pub from_place_is : (n i : ℕ) (b : List ℕ) → i + n ≤ length b → from_place n i b ≡ drop i b
unfolding from_place
from_place_is zero i b h = refl
from_place_is (suc n) i b h = cons refl (from_place_is n (i + 1) b (omega arith)) ∙ sym (drop_more b i 0 (omega arith))
