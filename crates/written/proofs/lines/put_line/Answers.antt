use Rattle.std.proofs.Common.{◌≡◌, ℕ, List, [], ◌∷◌, ◌++◌, ◌+◌, length, ap, ◌∙◌, arith}
use Rattle.std.specs.Prelude.{decimal}
use Rattle.std.proofs.lemmas.List.{append_assoc, length-append}
use Rattle.written.specs.Fronts.{placed}
use Rattle.written.specs.Listing.{edge_shown, name_shown}
use Rattle.written.proofs.Placed.{Puts, puts-both}
use Rattle.written.proofs.lines.put_line.Goals as goal

joined : (a b d e f : List ℕ) → (((a ++ 32 ∷ []) ++ (b ++ 32 ∷ [])) ++ (d ++ 58 ∷ [])) ++ (e ++ 32 ∷ []) ++ (f ++ 10 ∷ []) ≡ (a ++ (32 ∷ [] ++ (b ++ (32 ∷ [] ++ (d ++ (58 ∷ [] ++ (e ++ (32 ∷ [] ++ f)))))))) ++ 10 ∷ []
joined a b d e f = simp append_assoc

pub returns-clause-written : goal.returns-clause-written
returns-clause-written c =
    let at = c.args.at in
    let out = c.args.out.now in
    let e = c.args.event.now in
    let A = edge_shown e.kind ++ 32 ∷ [] in
    let B = name_shown e.name ++ 32 ∷ [] in
    let C = decimal e.point.line ++ 58 ∷ [] in
    let D = decimal e.point.column ++ 32 ∷ [] in
    let E = decimal e.point.index ++ 10 ∷ [] in
    let one = c.put_ended-name_at in
    let two = c.put_ended-line_at in
    let three = c.put_decimal-column_at in
    let four = c.put_decimal-index_at in
    let five = c.put_decimal in
    let same = joined (edge_shown e.kind) (name_shown e.name) (decimal e.point.line) (decimal e.point.column) (decimal e.point.index) in
    let size = ap length same in
    let bc = length-append (A ++ B) C in
    let bd = length-append ((A ++ B) ++ C) D in
    let be = length-append (((A ++ B) ++ C) ++ D) E in
    let ab = length-append A B in
    let edge = c.as_bytes.ensures.value ∙ c.edge_word.ensures.word in
    let name = c.as_bytes-2.ensures.value ∙ c.name_word.ensures.word in
    let p1 : Puts A out at one.new.out one.result = record { next = one.ensures.next ∙ ap (λ (w : List ℕ). at + length (w ++ 32 ∷ [])) edge; written = one.ensures.written ∙ ap (λ (w : List ℕ). placed (w ++ 32 ∷ []) at out) edge } in
    let p2 : Puts B one.new.out one.result two.new.out two.result = record { next = two.ensures.next ∙ ap (λ (w : List ℕ). one.result + length (w ++ 32 ∷ [])) name; written = two.ensures.written ∙ ap (λ (w : List ℕ). placed (w ++ 32 ∷ []) one.result one.new.out) name } in
    let p3 : Puts C two.new.out two.result three.new.out three.result = record { next = three.ensures.next; written = three.ensures.written } in
    let p4 : Puts D three.new.out three.result four.new.out four.result = record { next = four.ensures.next; written = four.ensures.written } in
    let p5 : Puts E four.new.out four.result five.new.out five.result = record { next = five.ensures.next; written = five.ensures.written } in
    let q2 = puts-both A B out one.new.out two.new.out at one.result two.result (omega (arith, c.requires)) p1 p2 in
    let q3 = puts-both (A ++ B) C out two.new.out three.new.out at two.result three.result (omega (arith, c.requires)) q2 p3 in
    let q4 = puts-both ((A ++ B) ++ C) D out three.new.out four.new.out at three.result four.result (omega (arith, c.requires)) q3 p4 in
    let q5 = puts-both (((A ++ B) ++ C) ++ D) E out four.new.out five.new.out at four.result five.result (omega (arith, c.requires)) q4 p5 in
    q5.written ∙ ap (λ (w : List ℕ). placed w at out) same
