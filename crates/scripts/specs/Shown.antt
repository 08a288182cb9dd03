-- What is printed.
-- Assumes nothing.
use Rattle.std.specs.Prelude.{ℕ, List, ◌++◌, codes, decimal}
use Rattle.scripts.specs.declared.errors.Expected.{Expected}
use Rattle.scripts.specs.declared.errors.Expected.TheVariants as expected
use Rattle.scripts.specs.declared.errors.ScriptError.{ScriptError}
use Rattle.scripts.specs.declared.errors.ScriptError.TheVariants.{Unreadable, OutOfMemory}

abbrev pub expected_shown : Expected → List ℕ
expected_shown expected.Keyword = codes "load, push, end, link, resolve, clear or events"
expected_shown expected.Number = codes "a decimal number below 2^64"
expected_shown expected.Text = codes "a text in double quotes"
expected_shown expected.ClosingQuote = codes "a closing quote"
expected_shown expected.Escape = codes "an escape: \\\", \\\\, \\n, \\r, \\t or \\x and two hexadecimal digits"
expected_shown expected.EndOfLine = codes "the end of the line"

-- as `line 3: expected a closing quote`
abbrev pub script_error_shown : ScriptError → List ℕ
script_error_shown (Unreadable line expected) = codes "line " ++ (decimal line ++ (codes ": expected " ++ expected_shown expected))
script_error_shown OutOfMemory = codes "out of memory"
