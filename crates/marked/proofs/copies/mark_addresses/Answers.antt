use Rattle.std.proofs.Common.{◌≡◌, ℕ, List, replicate, IfOk, IfErr, Err, Result, sym, refl, ap, ◌∙◌, subst}
use Rattle.std.proofs.lemmas.Bool.{cond-true, cond-false}
use Rattle.std.proofs.lemmas.Result.{err_from_is_err_and}
use Rattle.text.specs.declared.refusals.Fault.{Fault}
use Rattle.text.specs.declared.refusals.Fault.TheVariants.{NoteTooLong}
use Rattle.text.specs.declared.spans.Span.{Span}
use Rattle.text.specs.declared.spans.SpanKind.TheVariants.{Email}
use Rattle.text.specs.Lent.{written_count, overwritten}
use Rattle.text.specs.Notes.{too_long}
use Rattle.edit_map.specs.View.{AsNew}
use Rattle.marked.specs.Marked.{marked_copy, marked_note}
use Rattle.marked.proofs.Outcomes.{known, found, refused, ready}
use Rattle.marked.proofs.copies.mark_addresses.Goals as goal

abbrev no_spans : List Span
no_spans = replicate 204 (record { kind = Email; from = 0; to = 0 })

pub returns-in_err-count : goal.returns-in_err-count
returns-in_err-count c =
    let s = c.args.note.now in
    let m = c.args.map.now in
    let out = c.args.out.now in
    let k = known s c.find_note_addresses.ensures.in_text_order c.find_note_addresses.ensures.each_is_an_address in
    let p = err_from_is_err_and c.from_residual.result c.from_residual.ensures.1 in
    let no = refused s k no_spans c.in_err-count.field-0.0 refl c.in_err-count.ensures.answer in
    let is = p.1 ∙ ap Err p.2 in
    record {
      answer = is ∙ ap Err no.0 ∙ sym (cond-true (too_long s) (Err NoteTooLong) (written_count (marked_note s) out) no.1);
      written = sym (cond-true (too_long s) out (overwritten (marked_note s) out) no.1);
      as_new = subst (λ (r : Result ℕ Fault). IfOk r (λ _. AsNew m)) (sym is) tt;
      refused = subst (λ (r : Result ℕ Fault). IfErr r (λ _. m ≡ m)) (sym is) refl;
      faithful = k.faithful;
    }

pub mark_spans-requires : goal.mark_spans-requires
mark_spans-requires c =
    let s = c.args.note.now in
    let k = known s c.find_note_addresses.ensures.in_text_order c.find_note_addresses.ensures.each_is_an_address in
    let f = found s no_spans c.find_note_addresses.new.out c.in_ok-count.count c.in_ok-count.ensures.answer c.find_note_addresses.ensures.written in
    let r = ready s c.in_ok-count.count c.find_note_addresses.new.out k f in
    record { short = r.short; few = r.few; in_turn = r.turn }

pub returns : goal.returns
returns c =
    let s = c.args.note.now in
    let out = c.args.out.now in
    let k = known s c.find_note_addresses.ensures.in_text_order c.find_note_addresses.ensures.each_is_an_address in
    let f = found s no_spans c.find_note_addresses.new.out c.in_ok-count.count c.in_ok-count.ensures.answer c.find_note_addresses.ensures.written in
    record {
      answer = c.mark_spans.ensures.answer ∙ ap (λ (xs : List Span). written_count (marked_copy s xs) out) f.spans ∙ sym (cond-false (too_long s) (Err NoteTooLong) (written_count (marked_note s) out) f.not_long);
      written = c.mark_spans.ensures.written ∙ ap (λ (xs : List Span). overwritten (marked_copy s xs) out) f.spans ∙ sym (cond-false (too_long s) out (overwritten (marked_note s) out) f.not_long);
      as_new = c.mark_spans.ensures.as_new;
      refused = c.mark_spans.ensures.refused;
      faithful = k.faithful;
    }
