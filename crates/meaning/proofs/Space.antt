-- Turns laid into a part of the turn space, from a place on.
use Rattle.std.proofs.Common.{◌≡◌, ℕ, suc, ◌+◌, ◌*◌, ◌<◌, ◌≤◌, List, [], ◌∷◌, ◌++◌, length, take, drop, set, sym, refl, ap, ◌∙◌, ap₂, append_assoc, mul-le-mul_right, add-mul, arith}
use Rattle.std.proofs.lemmas.List.{take-append-drop, drop-drop, drop-take, length-drop, length-append, length-take-le, take_at, drop_at, take-append-le, set_split}
use Rattle.std.proofs.lemmas.Slice.{drop-append-drop}
use Rattle.format.specs.Laid.{laid}
use Rattle.format.proofs.LaidOut.{length_laid, laid_on}

-- a game's part ends before that of any later game begins
pub apart : (g k limit n : ℕ) → g < k → n ≤ limit → g * limit + n ≤ k * limit
apart g k limit n h l =
    let m : (g + 1) * limit ≤ k * limit = mul-le-mul_right limit (omega arith) in
    omega (arith, m, add-mul g 1 limit)

module _ {A : Type 0} (sp : List A) (base : ℕ) where
  pub part_length : (n : ℕ) → base + n ≤ length sp → length (take n (drop base sp)) ≡ n
  part_length n h = length-take-le n (drop base sp) (simp length-drop (omega arith))

  -- to lay what lies there already changes nothing
  pub laid_same : (n : ℕ) → base + n ≤ length sp → laid sp base (take n (drop base sp)) ≡ sp
  laid_same n h = rw (part_length n h, ← drop-drop n base sp, take-append-drop n (drop base sp), take-append-drop base sp)

  module _ (ts : List A) where
    front_length : base ≤ length sp → length (take base sp ++ ts) ≡ base + length ts
    front_length h = omega (arith, length-append (take base sp) ts, length-take-le base sp h)

    -- to set the next place is to lay one more
    pub laid_push : (t : A) → base + length ts < length sp → set (laid sp base ts) (base + length ts) t ≡ laid sp base (ts ++ (t ∷ []))
    laid_push t h =
        let n : ℕ = base + length ts in
        let here : n < length (laid sp base ts) = omega (arith, length_laid sp base ts (omega arith)) in
        let next : suc n ≡ n + 1 = omega arith in
        set_split (laid sp base ts) n t here
        ∙ ap (λ (m : ℕ). take n (laid sp base ts) ++ (t ∷ drop m (laid sp base ts))) next
        ∙ laid_on sp base ts (t ∷ []) (omega arith)

    -- what is read back is what was laid
    pub part_laid : base ≤ length sp → take (length ts) (drop base (laid sp base ts)) ≡ ts
    part_laid h =
        ap (take (length ts)) (drop_at (take base sp) (ts ++ drop (base + length ts) sp) base (length-take-le base sp h))
        ∙ take_at ts (drop (base + length ts) sp) (length ts) refl

    -- a part that ends before it is untouched
    pub part_before : (from n : ℕ) → from + n ≤ base → base ≤ length sp → take n (drop from (laid sp base ts)) ≡ take n (drop from sp)
    part_before from n h k =
        let long : from + n ≤ length (take base sp) = omega (arith, length-take-le base sp k) in
        let cut : (r : List A) → take (from + n) (take base sp ++ r) ≡ take (from + n) (take base sp) = λ r. take-append-le (from + n) (take base sp) r long in
        sym (drop-take from n (laid sp base ts))
        ∙ ap (drop from) (cut (ts ++ drop (base + length ts) sp) ∙ sym (cut (drop base sp)) ∙ ap (take (from + n)) (take-append-drop base sp))
        ∙ drop-take from n sp

    -- and so is what begins after it
    pub rest_after : (from : ℕ) → base + length ts ≤ from → base + length ts ≤ length sp → drop from (laid sp base ts) ≡ drop from sp
    rest_after from h k =
        ap (drop from) (sym (append_assoc (take base sp) ts (drop (base + length ts) sp)))
        ∙ drop-append-drop (base + length ts) sp (take base sp ++ ts) from h (front_length (omega arith))

    -- what is laid over a part of at most its length leaves nothing of it
    pub laid_over : (us : List A) → length ts ≤ length us → base + length ts ≤ length sp → laid (laid sp base ts) base us ≡ laid sp base us
    laid_over us h k =
        ap₂ (λ (x y : List A). x ++ (us ++ y)) (part_before 0 base (omega arith) (omega arith)) (rest_after (base + length us) (omega arith) k)
