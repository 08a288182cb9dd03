-- The examples, computed, and the wrong lists refuted.
-- Assumes nothing.
use Rattle.std.proofs.Common.{List, length, sym, refl, ap, arith}
use Rattle.std.proofs.lemmas.Bool.{true≢false}
use Rattle.text.specs.declared.places.Point.{Point}
use Rattle.machine.specs.declared.events.Event.{Event}
use Rattle.machine.specs.Laws.{Segment}
use Rattle.calls.specs.EventLists.{holding}
use Rattle.calls.specs.CallExamples.{EveryScriptComesOut, EveryWrongListIsRefuted}

pub every_script_comes_out : EveryScriptComesOut
every_script_comes_out = (
  (
    (refl, (refl, refl)),
    ((refl, (refl, refl)), ((refl, (refl, refl)), ((refl, (refl, refl)), ((refl, (refl, refl)), ((refl, (refl, refl)), ((refl, (refl, refl)), tt)))))),
  ),
  (refl, refl),
)

pub every_wrong_list_is_refuted : EveryWrongListIsRefuted
every_wrong_list_is_refuted = (
  (λ h. true≢false (sym h.nested)),
  (
    (λ h. true≢false (sym h.nested)),
    (
      (λ h. true≢false (sym h.nested)),
      (
        (λ h. omega (arith, ap (λ (p : Point). p.column) h.placed.1.0.at_its_place)),
        (
          (λ h. omega (arith, h.placed.1.0.inside)),
          (
            (λ h. true≢false h.placed.1.0.not_between),
            (
              (λ h. omega (arith, ap (λ (xs : List Segment). length xs) h.web)),
              (
                (λ h. omega (arith, ap (λ (xs : List Segment). length xs) h.web)),
                (
                  (λ h. omega (arith, ap (λ (xs : List Segment). length xs) h.lines)),
                  (
                    (λ h. omega (arith, ap (λ (xs : List Segment). length xs) h.lines)),
                    (
                      (λ h. true≢false (sym h.uncut)),
                      (
                        (λ h. omega (arith, h.each_byte_once 1 (omega arith))),
                        (
                          (λ h. omega (arith, h.each_byte_once 0 (omega arith))),
                          (
                            (λ h. omega (arith, ap (λ (es : List Event). length es) h.all_closed)),
                            (
                              (λ h. true≢false (sym h.flat)),
                              (
                                (λ h. true≢false (sym h.forward)),
                                (
                                  (λ h. omega (arith, ap (λ (xs : List Segment). length xs) h.mail)),
                                  (
                                    (λ h. omega (arith, ap (λ (xs : List Segment). length xs) h.mail)),
                                    (
                                      (λ h. omega (arith, ap (λ (xs : List Segment). holding xs 1) h.around)),
                                      (
                                        (λ h. omega (arith, ap (λ (xs : List Segment). length xs) h.around)),
                                        tt,
                                      ),
                                    ),
                                  ),
                                ),
                              ),
                            ),
                          ),
                        ),
                      ),
                    ),
                  ),
                ),
              ),
            ),
          ),
        ),
      ),
    ),
  ),
)
