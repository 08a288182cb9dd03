-- The words that lines begin with.
-- Assumes nothing.
use Rattle.std.specs.Prelude.{ℕ, cond, List, codes, Ok, Err, Result}
use Rattle.std.specs.Str.{bytes_eq}
use Rattle.scripts.specs.declared.errors.Expected.{Expected}
use Rattle.scripts.specs.declared.errors.Expected.TheVariants as expected
use Rattle.scripts.specs.declared.keywords.Keyword.{Keyword}
use Rattle.scripts.specs.declared.keywords.Keyword.TheVariants.{Load, Push, End, Link, Resolve, Clear, Events}

abbrev pub keyword_of : List ℕ → Result Keyword Expected
keyword_of word =
    cond (bytes_eq word (codes "load")) (Ok Load)
    (cond (bytes_eq word (codes "push")) (Ok Push)
    (cond (bytes_eq word (codes "end")) (Ok End)
    (cond (bytes_eq word (codes "link")) (Ok Link)
    (cond (bytes_eq word (codes "resolve")) (Ok Resolve)
    (cond (bytes_eq word (codes "clear")) (Ok Clear)
    (cond (bytes_eq word (codes "events")) (Ok Events)
    (Err expected.Keyword)))))))
