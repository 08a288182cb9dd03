-- Calls as the lines of a script have them.
-- Assumes nothing.
use Rattle.std.specs.Prelude.{ℕ, List, ◌++◌, codes, decimal}
use Rattle.calls.specs.declared.scripts.Call.{Call}
use Rattle.calls.specs.declared.scripts.Call.TheVariants as call
use Rattle.scripts.specs.Quotes.{written}

abbrev pub call_shown : Call → List ℕ
call_shown (call.Load note) = codes "load " ++ written note.now
call_shown (call.Push to allowance) = codes "push " ++ (decimal to ++ (codes " " ++ decimal allowance))
call_shown (call.End allowance) = codes "end " ++ decimal allowance
call_shown (call.Link first last) = codes "link " ++ (decimal first ++ (codes " " ++ decimal last))
call_shown call.Resolve = codes "resolve"
call_shown call.Clear = codes "clear"
