-- Why a script cannot be read.
-- Assumes nothing.
use Rattle.std.specs.Prelude.{ℕ}
use Rattle.scripts.specs.declared.errors.LineError.{LineError}
use Rattle.scripts.specs.declared.errors.LineError.TheVariants as line
use Rattle.scripts.specs.declared.errors.ScriptError.{ScriptError}
use Rattle.scripts.specs.declared.errors.ScriptError.TheVariants as script

-- because of the line with this number
abbrev pub script_error : ℕ → LineError → ScriptError
script_error n (line.Expected e) = script.Unreadable n e
script_error n line.OutOfMemory = script.OutOfMemory
