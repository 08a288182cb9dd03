-- How a character of a note is listed.
-- Assumes nothing.
use Rattle.std.specs.Prelude.{ℕ, ◌-◌, ◌^◌, true, false, List, [], ◌++◌, codes, decimal}
use Rattle.std.specs.Fmt.{digits, format_spec, padded_integral}
use Rattle.punctuation.specs.Shown.{character_kind_shown}
use Rattle.classes.specs.declared.entries.Entry.{Entry}

-- in hexadecimal, with four digits at least
abbrev pub code_shown : ℕ → List ℕ
code_shown c = padded_integral (format_spec 32 0 4 4 (2 ^ 64 - 1)) false [] (digits 16 true c)

-- as `1:2 1 U+2014 punctuation`
abbrev pub entry_shown : Entry → List ℕ
entry_shown e =
    decimal e.point.line ++ (codes ":" ++ (decimal e.point.column ++ (codes " " ++ (decimal e.point.index ++ (codes " U+"
    ++ (code_shown e.c ++ (codes " " ++ character_kind_shown e.kind)))))))
