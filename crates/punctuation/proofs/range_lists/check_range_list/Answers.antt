use Rattle.std.proofs.Common.{sym, ◌∙◌, subst}
use Rattle.std.proofs.lemmas.Bool.{cond-true, cond-false}
use Rattle.punctuation.specs.RangeLists.{AcceptedIsTakenWhole, RefusedIsFirstUnlawful}
use Rattle.punctuation.proofs.RangeLaws.{accepted_is_taken_whole, refused_is_first_unlawful}
use Rattle.punctuation.proofs.range_lists.check_range_list.Goals as goal

pub returns-then-has_bad_length : goal.returns-then-has_bad_length
returns-then-has_bad_length c =
    let xs = c.args.numbers.now in
    let e = sym (cond-true _ _ _ (sym c.if-has_bad_length.ensures)) in
    record { answer = e; accepted_is_taken_whole = subst (AcceptedIsTakenWhole xs) (sym e) (accepted_is_taken_whole xs); refused_is_first_unlawful = subst (RefusedIsFirstUnlawful xs) (sym e) (refused_is_first_unlawful xs) }

pub returns : goal.returns
returns c =
    let xs = c.args.numbers.now in
    let e = c.check_ranges.ensures ∙ sym (cond-false _ _ _ (sym c.if-has_bad_length.ensures)) in
    record { answer = e; accepted_is_taken_whole = subst (AcceptedIsTakenWhole xs) (sym e) (accepted_is_taken_whole xs); refused_is_first_unlawful = subst (RefusedIsFirstUnlawful xs) (sym e) (refused_is_first_unlawful xs) }
