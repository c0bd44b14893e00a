-- What a well-formed content encodes to is read as that content.
use Rattle.std.proofs.Common.{◌≡◌, ℕ, ◌+◌, ◌*◌, ◌/◌, ◌%◌, ◌≤◌, true, not, List, [], ◌∷◌, ◌++◌, length, take, drop, sym, refl, ap, ◌∙◌, subst, ap₂, arith, length-append, eq-eqb, ne_eqb, le-leb}
use Rattle.std.specs.List.{AllByRecursion}
use Rattle.std.proofs.lemmas.List.{take_at, drop_at}
use Rattle.std.proofs.ByRecursion.{All-append}
use Rattle.std.proofs.lemmas.Bool.{and_from}
use Rattle.verdict.specs.declared.Turn.{Turn}
use Rattle.verdict.specs.Verdicts.{standing_of, standing_number}
use Rattle.verdict.proofs.Numbers.{of_standing}
use Rattle.format.specs.Layout.{Content, WellFormed, InLaw, TurnFits, encode, half, word, turn_bytes}
use Rattle.format.specs.Requirements.{half_at, word_at, text_length, turns_length, turns_part, lefts_part, turn_at, turns_of, content_of, reading_requirements, requirements, in_law}
use Rattle.format.specs.Promises.{ReadsBack}
use Rattle.format.proofs.Numbers.{cons, same_content, half_number, word_number}
use Rattle.format.proofs.Faults.{Holds, none_found}

pub length_turn_bytes : (ts : List Turn) → length (turn_bytes ts) ≡ 6 * length ts
length_turn_bytes [] = refl
length_turn_bytes (t ∷ ts) = let e = length_turn_bytes ts in omega arith

pub length_encode : (c : Content) → length (encode c) ≡ 44 + length c.text + 6 * length c.turns
unfolding encode
length_encode c =
    let a = length-append c.text (turn_bytes c.turns ++ (word c.first_left ++ word c.second_left)) in
    let b = length-append (turn_bytes c.turns) (word c.first_left ++ word c.second_left) in
    let d = length_turn_bytes c.turns in
    omega arith

turn_back : (t : Turn) → TurnFits t → (rest : List ℕ) → turn_at ((half t.code ++ word t.reading) ++ rest) ≡ t
turn_back t w rest =
    let f : ℕ → ℕ → Turn = λ x y. record { code = x; reading = y } in
    let r = w.reading_fits in
    ap₂ f (half_number t.code w.code_fits) (word_number t.reading (omega arith))

turns_back : (ts : List Turn) → AllByRecursion TurnFits ts → (rest : List ℕ) → turns_of (length ts) (turn_bytes ts ++ rest) ≡ ts
turns_back [] a rest = refl
turns_back (t ∷ ts) a rest = cons (turn_back t a.0 (turn_bytes ts ++ rest)) (turns_back ts a.1 rest)

readings_hold : (place : ℕ) (ts : List Turn) → AllByRecursion TurnFits ts → AllByRecursion Holds (reading_requirements place ts)
readings_hold place [] a = tt
readings_hold place (t ∷ ts) a = (le-leb _ _ a.0.reading_fits, readings_hold (place + 6) ts a.1)

law_holds : (left : ℕ) → InLaw left → in_law left ≡ true
law_holds left w = and_from _ _ (le-leb _ _ w.least) (le-leb _ _ w.most)

module _ (c : Content) (w : WellFormed c) where
  lefts : List ℕ
  lefts = word c.first_left ++ word c.second_left

  lim_is : half_at (encode c) 8 ≡ c.limit
  unfolding encode
  lim_is = half_number c.limit (omega (arith, w.limit_most))

  text_is : text_length (encode c) ≡ length c.text
  unfolding encode
  text_is = word_number (length c.text) (omega (arith, w.text_most))

  few : length c.turns ≤ 256
  few = omega (arith, w.within_limit, w.limit_most)

  turns_is : turns_length (encode c) ≡ 6 * length c.turns
  unfolding encode
  turns_is = word_number (6 * length c.turns) (let f = few in omega arith)

  turns_part_is : turns_part (encode c) ≡ turn_bytes c.turns ++ lefts
  unfolding lefts encode
  turns_part_is = ap (λ (n : ℕ). drop n (c.text ++ (turn_bytes c.turns ++ lefts))) text_is ∙ drop_at c.text _ _ refl

  lefts_part_is : lefts_part (encode c) ≡ lefts
  unfolding encode
  lefts_part_is = ap₂ drop turns_is turns_part_is ∙ drop_at (turn_bytes c.turns) lefts _ (length_turn_bytes c.turns)

  text_back : (content_of (encode c)).text ≡ c.text
  unfolding encode
  text_back = ap (λ (n : ℕ). take n (c.text ++ (turn_bytes c.turns ++ (word c.first_left ++ word c.second_left)))) text_is ∙ take_at c.text _ _ refl

  all_turns : (content_of (encode c)).turns ≡ c.turns
  unfolding encode
  all_turns =
      let k : turns_length (encode c) / 6 ≡ length c.turns = let e = turns_is in omega arith in
      ap₂ turns_of k turns_part_is ∙ turns_back c.turns w.turns_fit lefts

  first_back : (content_of (encode c)).first_left ≡ c.first_left
  unfolding lefts
  first_back = ap (λ (x : List ℕ). word_at x 0) lefts_part_is ∙ word_number c.first_left (omega (arith, w.first_in_law.most))

  second_back : (content_of (encode c)).second_left ≡ c.second_left
  unfolding lefts
  second_back = ap (λ (x : List ℕ). word_at x 4) lefts_part_is ∙ word_number c.second_left (omega (arith, w.second_in_law.most))

  standing_back : standing_of (standing_number c.standing) ≡ c.standing
  standing_back = (of_standing c.standing).1

  says : content_of (encode c) ≡ c
  unfolding encode
  says = same_content (content_of (encode c)) c refl refl standing_back lim_is text_back all_turns first_back second_back

  holds : AllByRecursion Holds (requirements (encode c))
  unfolding encode requirements
  holds =
      let b = encode c in
      let t = text_is in
      let n = turns_is in
      let l = lim_is in
      let f = few in
      let le = length_encode c in
      let long : 44 ≤ length b = omega arith in
      let lim_low : 1 ≤ half_at b 8 = omega (arith, w.limit_least) in
      let lim_high : half_at b 8 ≤ 256 = omega (arith, w.limit_most) in
      let text_low : 1 ≤ text_length b = omega (arith, w.text_least) in
      let text_high : text_length b ≤ 64 = omega (arith, w.text_most) in
      let whole : turns_length b % 6 ≡ 0 = omega arith in
      let within : turns_length b / 6 ≤ half_at b 8 = omega (arith, w.within_limit) in
      let turns_from : word_at b 20 ≡ 36 + text_length b = word_number (36 + length c.text) (omega (arith, w.text_most)) ∙ ap (λ (x : ℕ). 36 + x) (sym t) in
      let lefts_from : word_at b 28 ≡ 36 + text_length b + turns_length b = word_number (36 + length c.text + 6 * length c.turns) (omega (arith, w.text_most)) ∙ ap₂ (λ (x y : ℕ). 36 + x + y) (sym t) (sym n) in
      let ends : 36 + text_length b + turns_length b + 8 ≡ length b = omega arith in (
        le-leb _ _ long,
        (
          refl,
          (
            refl,
            (
              refl,
              (
                refl,
                (
                  le-leb _ _ w.first_entrant,
                  (
                    and_from _ _ (le-leb _ _ w.second_entrant) (ap not (ne_eqb _ _ w.two_entrants)),
                    (
                      (of_standing c.standing).0,
                      (
                        refl,
                        (
                          and_from _ _ (le-leb _ _ lim_low) (le-leb _ _ lim_high),
                          (
                            refl,
                            (
                              and_from _ _ refl (and_from _ _ (le-leb _ _ text_low) (le-leb _ _ text_high)),
                              (
                                and_from _ _ (eq-eqb _ _ turns_from) (and_from _ _ (eq-eqb _ _ whole) (le-leb _ _ within)),
                                (
                                  and_from _ _ (eq-eqb _ _ lefts_from) (and_from _ _ refl (eq-eqb _ _ ends)),
                                  All-append Holds _ _
                                      (subst (λ (ts : List Turn). AllByRecursion Holds (reading_requirements (36 + text_length b) ts)) (sym all_turns) (readings_hold _ c.turns w.turns_fit)) (
                                        ap in_law first_back ∙ law_holds _ w.first_in_law,
                                        (ap in_law second_back ∙ law_holds _ w.second_in_law, tt),
                                      ),
                                ),
                              ),
                            ),
                          ),
                        ),
                      ),
                    ),
                  ),
                ),
              ),
            ),
          ),
        ),
      )

pub reads_back : ReadsBack
reads_back c w = record { faultless = none_found (requirements (encode c)) (holds c w); says = says c w }
