-- Event numbers read from a table, and the number beyond the links kept, as code asks for them.
-- Assumes nothing.
use Rattle.std.proofs.Common.{◌≡◌, ℕ, zero, suc, ◌-◌, ◌<◌, ◌≤◌, false, not, List, [], ◌∷◌, ◌++◌, length, get_or, refl, ap, ◌∙◌, arith}
use Rattle.machine.specs.declared.events.Event.{Event}
use Rattle.machine.specs.Laws.{enters}
use Rattle.calls.specs.declared.links.MarkedRun.{MarkedRun}
use Rattle.calls.specs.Links.{has_enter, has_exit, beyond, index_of}

pub enter_read : (es : List Event) (n : ℕ) (d : Event) → n < length es → has_enter es n ≡ enters (get_or es n d).kind
enter_read [] n d lt = absurd (omega arith)
enter_read (e ∷ es) zero d lt = refl
enter_read (e ∷ es) (suc n) d lt = enter_read es n d (omega arith)

pub exit_read : (es : List Event) (n : ℕ) (d : Event) → n < length es → has_exit es n ≡ not (enters (get_or es n d).kind)
exit_read [] n d lt = absurd (omega arith)
exit_read (e ∷ es) zero d lt = refl
exit_read (e ∷ es) (suc n) d lt = exit_read es n d (omega arith)

pub enter_past : (es : List Event) (n : ℕ) → length es ≤ n → has_enter es n ≡ false
enter_past [] n le = refl
enter_past (e ∷ es) zero le = absurd (omega arith)
enter_past (e ∷ es) (suc n) le = enter_past es n (omega arith)

pub exit_past : (es : List Event) (n : ℕ) → length es ≤ n → has_exit es n ≡ false
exit_past [] n le = refl
exit_past (e ∷ es) zero le = absurd (omega arith)
exit_past (e ∷ es) (suc n) le = exit_past es n (omega arith)

pub index_read : (es : List Event) (n : ℕ) (d : Event) → n < length es → index_of es n ≡ (get_or es n d).point.index
index_read [] n d lt = absurd (omega arith)
index_read (e ∷ es) zero d lt = refl
index_read (e ∷ es) (suc n) d lt = index_read es n d (omega arith)

pub beyond_last : (ls : List MarkedRun) (a : ℕ) (l : MarkedRun) → beyond a (ls ++ l ∷ []) ≡ suc l.last
beyond_last [] a l = refl
beyond_last (x ∷ ls) a l = beyond_last ls (suc x.last) l

pub beyond_read : (ls : List MarkedRun) (a : ℕ) (d : MarkedRun) → 0 < length ls → beyond a ls ≡ suc (get_or ls (length ls - 1) d).last
beyond_read [] a d lt = absurd (omega arith)
beyond_read (l ∷ []) a d lt = refl
beyond_read (l ∷ k ∷ ls) a d lt =
    let shift : suc (length (k ∷ ls) - 1) ≡ length (l ∷ k ∷ ls) - 1 = omega arith in
    beyond_read (k ∷ ls) (suc l.last) d (omega arith) ∙ ap (λ i. suc (get_or (l ∷ k ∷ ls) i d).last) shift
