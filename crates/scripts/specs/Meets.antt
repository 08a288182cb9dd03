-- What functions answer that may run out of memory.
-- Assumes nothing.
use Rattle.std.specs.Prelude.{◌≡◌, ℕ, List, Ok, Err, Result, Vec}
use Rattle.std.specs.declared.alloc.Global.{Global}
use Rattle.scripts.specs.declared.errors.Expected.{Expected as Wanted}
use Rattle.scripts.specs.declared.errors.LineError.{LineError}
use Rattle.scripts.specs.declared.errors.LineError.TheVariants.{Expected, OutOfMemory}

-- unless memory runs out, it is what is meant, or is refused for the same reason
abbrev pub Meets : {A B : Type 0} → (A → B) → Result A LineError → Result B Wanted → Type 0
Meets view (Ok x) meant = meant ≡ Ok (view x)
Meets view (Err (Expected e)) meant = meant ≡ Err e
Meets view (Err OutOfMemory) meant = Unit {0}

abbrev pub items : Vec ℕ Global → List ℕ
items v = v.items
