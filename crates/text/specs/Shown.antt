-- What is printed of a refusal and of a kind of span.
-- Assumes nothing.
use Rattle.std.specs.Prelude.{ℕ, List, ◌++◌, codes, decimal}
use Rattle.text.specs.declared.refusals.Fault.{Fault}
use Rattle.text.specs.declared.spans.SpanKind.{SpanKind}
use Rattle.text.specs.declared.spans.SpanKind.TheVariants.{Www, Protocol, Email, Mailto, Xmpp}
use Rattle.text.specs.Refusals.{number, place}

-- `refused 1 0`: the number, then the place
abbrev pub refusal_shown : Fault → List ℕ
refusal_shown f = codes "refused " ++ (decimal (number f) ++ (codes " " ++ decimal (place f)))

-- the kind's name in lower case
abbrev pub kind_shown : SpanKind → List ℕ
kind_shown Www = codes "www"
kind_shown Protocol = codes "protocol"
kind_shown Email = codes "email"
kind_shown Mailto = codes "mailto"
kind_shown Xmpp = codes "xmpp"
