use Rattle.std.proofs.Common.{◌≡◌, ℕ, ◌<◌, suc, List, [], ◌∷◌, Some, None, length, get_or, drop, sym, ap, ◌∙◌, arith, drop-cons}
use Rattle.scripts.specs.Words.{digit_more, number_from, number_of}
use Rattle.scripts.proofs.Numbers.{none_stays}
use Rattle.scripts.proofs.words.parse_number.Goals as goal

-- a word with some byte that is no digit, or too many of them, is no number
stops : (word : List ℕ) (n i : ℕ) → i < length word → digit_more (Some n) (get_or word i 0) ≡ None → number_from (Some n) (drop i word) ≡ number_from (Some 0) word → None ≡ number_of word
stops [] n i lt none so = absurd (omega (arith, lt))
stops (d ∷ ds) n i lt none so =
    sym (none_stays (drop (suc i) (d ∷ ds)))
    ∙ ap (λ k. number_from k (drop (suc i) (d ∷ ds))) (sym none)
    ∙ ap (number_from (Some n)) (sym (drop-cons (d ∷ ds) i 0 lt))
    ∙ so

pub returns-in_err-number : goal.returns-in_err-number
returns-in_err-number c =
    c.from_residual.ensures ∙ stops c.args.word.now c.loop-digit.number c.loop-digit.digit-index c.loop-digit-test.true (sym c.in_err-number.ensures) c.loop-digit.invariant
