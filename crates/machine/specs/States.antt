-- What each state does when it is called: one row of docs/ENGINE.md, sections 6 and 7, to a line.
-- Assumes nothing.
use Rattle.std.specs.Prelude.{ℕ, ◌+◌, ◌-◌, Bool, true, false, cond, not, ◌&&◌, ◌||◌, ◌∷◌, Some, None, codes, Option, ◌==◌, nat_lt}
use Rattle.text.specs.Ascii.{letter, reads}
use Rattle.text.specs.Bytes.{among, within, part}
use Rattle.punctuation.specs.Kinds.{kind_at}
use Rattle.punctuation.specs.declared.kinds.CharacterKind.{CharacterKind}
use Rattle.punctuation.specs.declared.kinds.CharacterKind.TheVariants.{Whitespace, Punctuation, Other}
use Rattle.text.specs.declared.spans.SpanKind.TheVariants.{Www, Protocol}
use Rattle.machine.specs.declared.events.Name.TheVariants as name
use Rattle.machine.specs.declared.states.State.TheVariants.{Next, Retry, Ok, Nok}
use Rattle.machine.specs.declared.states.StateName.{StateName}
use Rattle.machine.specs.declared.states.StateName.TheVariants.{Before, Line, Data, Inside, ProtocolStart, ProtocolPrefixInside, ProtocolSlashesInside, ProtocolAfter, WwwStart, WwwPrefixInside, WwwPrefixAfter, WwwAfter, DomainInside, DomainAtPunctuation, DomainAfter, PathInside, PathAtPunctuation, PathAfter, Trail, TrailBracketAfter, TrailCharRefStart, TrailCharRefInside}
use Rattle.machine.specs.Moves.{Machine, with_state, consumed, next, sized, sized_b, saw, marked, started, entered, exited, checked, attempted}

-- ---- tests of what is shown

-- a byte is shown, and it has p
abbrev pub on : (ℕ → Bool) → Option ℕ → Bool
on p None = false
on p (Some b) = p b

-- the end is shown
abbrev pub at_end : Option ℕ → Bool
at_end None = true
at_end (Some b) = false

abbrev pub is : ℕ → ℕ → Bool
is c b = b == c

-- H or h
abbrev pub begins_protocol : ℕ → Bool
begins_protocol b = among (codes "Hh") b

-- W or w
abbrev pub begins_www : ℕ → Bool
begins_www b = among (codes "Ww") b

-- what ends data: LF, or what may begin a link
abbrev pub ends_data : ℕ → Bool
ends_data b = among (10 ∷ codes "HhWw") b

-- what may stand before `www.`: nothing, a tab, LF, a space, or one of these
abbrev pub may_precede_www : Option ℕ → Bool
may_precede_www c = at_end c || on (among (9 ∷ 10 ∷ 32 ∷ codes "(*_[]~")) c

-- the second, third or fourth byte of a character
abbrev pub continuation : ℕ → Bool
continuation b = within 0x80 0xBF b

abbrev pub hyphen_or_continuation : ℕ → Bool
hyphen_or_continuation b = b == 45 || continuation b

abbrev pub may_end_path : ℕ → Bool
may_end_path b = among (codes "!\"&')*,.:;<?]_~") b

-- the items of a trail that are one byte, but for `]`
abbrev pub trail_mark : ℕ → Bool
trail_mark b = among (codes "!\"')*,.:;?_~") b

-- what may follow a `]` that ends a trail
abbrev pub after_bracket : ℕ → Bool
after_bracket b = among (9 ∷ 10 ∷ 32 ∷ codes "([") b

abbrev pub is_white_space : CharacterKind → Bool
is_white_space Whitespace = true
is_white_space Punctuation = false
is_white_space Other = false

abbrev pub is_other : CharacterKind → Bool
is_other Whitespace = false
is_other Punctuation = false
is_other Other = true

-- a parenthesis of the path is open
abbrev pub unclosed : Machine → Bool
unclosed m = nat_lt m.registers.size_b m.registers.size

-- the name of a protocol has been read: `http` or `https`, in any case
abbrev pub protocol_read : Machine → Bool
protocol_read m =
    let name = part m.registers.start m.cursor.point.index m.note in
    reads (codes "http") name || reads (codes "https") name

-- a `_` in one of the last two parts of the domain, or nothing but joints
abbrev pub domain_fails : Machine → Bool
domain_fails m = m.registers.marker_b || m.registers.marker || not m.registers.seen

-- the kind of the character at the point; member is the meaning of the punctuation set
abbrev pub kind_here : (ℕ → Bool) → Machine → CharacterKind
kind_here member m = kind_at member m.note m.cursor.point.index

-- ---- the text states

abbrev pub call_before : Machine → Machine
call_before m =
    let c = m.cursor.current in
    cond (at_end c) (with_state Ok m)
    (cond (on begins_protocol c) (with_state (Retry ProtocolStart) (attempted (Next Before) (Next Data) m))
    (cond (on begins_www c) (with_state (Retry WwwStart) (attempted (Next Before) (Next Data) m))
    (cond (on (is 10) c) (next Line (entered name.LineEnding m))
    (with_state (Retry Data) m))))

abbrev pub call_inside : Machine → Machine
call_inside m =
    let c = m.cursor.current in
    cond (at_end c || on ends_data c) (with_state (Retry Before) (exited name.Data m))
    (next Inside m)

-- ---- protocols

-- the protocol is entered, and its name and slashes are tried, then the rest
abbrev pub protocol_begun : Machine → Machine
protocol_begun m =
    started m.cursor.point.index (attempted (Next DomainInside) Nok (attempted (Next ProtocolAfter) Nok (entered (name.Address Protocol) m)))

abbrev pub call_protocol_start : Machine → Machine
call_protocol_start m =
    cond (on begins_protocol m.cursor.current && not (on letter m.cursor.previous)) (with_state (Retry ProtocolPrefixInside) (protocol_begun m))
    (with_state Nok m)

abbrev pub call_protocol_prefix_inside : Machine → Machine
call_protocol_prefix_inside m =
    let c = m.cursor.current in
    cond (on letter c && nat_lt (m.cursor.point.index - m.registers.start) 5) (next ProtocolPrefixInside m)
    (cond (on (is 58) c && protocol_read m) (next ProtocolSlashesInside (started 0 m))
    (with_state Nok (started 0 m)))

abbrev pub call_protocol_slashes_inside : Machine → Machine
call_protocol_slashes_inside m =
    cond (on (is 47) m.cursor.current)
    (cond (m.registers.size == 0) (next ProtocolSlashesInside (sized 1 m)) (with_state Ok (consumed (sized 0 m))))
    (with_state Nok (sized 0 m))

-- ---- www

-- the link is entered; `www.` is checked, then the rest is tried
abbrev pub www_begun : Machine → Machine
www_begun m = checked (Next DomainInside) Nok (attempted (Next WwwAfter) Nok (entered (name.Address Www) m))

abbrev pub call_www_start : Machine → Machine
call_www_start m =
    cond (on begins_www m.cursor.current && may_precede_www m.cursor.previous) (with_state (Retry WwwPrefixInside) (www_begun m))
    (with_state Nok m)

abbrev pub call_www_prefix_inside : Machine → Machine
call_www_prefix_inside m =
    let c = m.cursor.current in
    cond (on (is 46) c && m.registers.size == 3) (next WwwPrefixAfter (sized 0 m))
    (cond (on begins_www c && nat_lt m.registers.size 3) (next WwwPrefixInside (sized (m.registers.size + 1) m))
    (with_state Nok (sized 0 m)))

abbrev pub call_www_prefix_after : Machine → Machine
call_www_prefix_after m =
    cond (at_end m.cursor.current) (with_state Nok m)
    (with_state Ok m)

-- ---- domains

abbrev pub call_domain_inside : (ℕ → Bool) → Machine → Machine
call_domain_inside member m =
    let c = m.cursor.current in
    cond (on (among (codes "._")) c) (with_state (Retry Trail) (checked (Next DomainAfter) (Next DomainAtPunctuation) m))
    (cond (on hyphen_or_continuation c) (next DomainInside m)
    (cond (is_other (kind_here member m)) (next DomainInside (saw true m))
    (with_state (Retry DomainAfter) m)))

abbrev pub call_domain_at_punctuation : Machine → Machine
call_domain_at_punctuation m =
    cond (on (is 95) m.cursor.current) (next DomainInside (marked true m.registers.marker_b m))
    (next DomainInside (marked false m.registers.marker m))

abbrev pub call_domain_after : Machine → Machine
call_domain_after m =
    cond (domain_fails m) (with_state Nok (marked false false (saw false m)))
    (with_state (Retry PathInside) (marked false false (saw false m)))

-- ---- paths

abbrev pub call_path_inside : (ℕ → Bool) → Machine → Machine
call_path_inside member m =
    let c = m.cursor.current in
    cond (on continuation c) (next PathInside m)
    (cond (on (is 40) c) (next PathInside (sized (m.registers.size + 1) m))
    (cond (on (is 41) c && unclosed m) (with_state (Retry Trail) (checked (Next PathAtPunctuation) (Next PathAtPunctuation) m))
    (cond (on may_end_path c) (with_state (Retry Trail) (checked (Next PathAfter) (Next PathAtPunctuation) m))
    (cond (at_end c || is_white_space (kind_here member m)) (with_state (Retry PathAfter) m)
    (next PathInside m)))))

abbrev pub call_path_at_punctuation : Machine → Machine
call_path_at_punctuation m =
    cond (on (is 41) m.cursor.current) (next PathInside (sized_b (m.registers.size_b + 1) m))
    (next PathInside m)

-- ---- trails

abbrev pub call_trail : (ℕ → Bool) → Machine → Machine
call_trail member m =
    let c = m.cursor.current in
    cond (on (is 41) c && unclosed m) (with_state Nok m)
    (cond (on (is 93) c) (next TrailBracketAfter m)
    (cond (on trail_mark c) (next Trail m)
    (cond (on (is 38) c) (next TrailCharRefStart m)
    (cond (on (is 60) c || is_white_space (kind_here member m)) (with_state Ok m)
    (with_state Nok m)))))

abbrev pub call_trail_bracket_after : Machine → Machine
call_trail_bracket_after m =
    let c = m.cursor.current in
    cond (at_end c || on after_bracket c) (with_state Ok m)
    (with_state (Retry Trail) m)

abbrev pub call_trail_char_ref_start : Machine → Machine
call_trail_char_ref_start m =
    cond (on letter m.cursor.current) (with_state (Retry TrailCharRefInside) m)
    (with_state Nok m)

abbrev pub call_trail_char_ref_inside : Machine → Machine
call_trail_char_ref_inside m =
    let c = m.cursor.current in
    cond (on letter c) (next TrailCharRefInside m)
    (cond (on (is 59) c) (next Trail m)
    (with_state Nok m))

-- ---- any state

abbrev pub call : (ℕ → Bool) → StateName → Machine → Machine
call member Before m = call_before m
call member Line m = with_state (Retry Before) (exited name.LineEnding m)
call member Data m = next Inside (entered name.Data m)
call member Inside m = call_inside m
call member ProtocolStart m = call_protocol_start m
call member ProtocolPrefixInside m = call_protocol_prefix_inside m
call member ProtocolSlashesInside m = call_protocol_slashes_inside m
call member ProtocolAfter m = with_state Ok (exited (name.Address Protocol) m)
call member WwwStart m = call_www_start m
call member WwwPrefixInside m = call_www_prefix_inside m
call member WwwPrefixAfter m = call_www_prefix_after m
call member WwwAfter m = with_state Ok (exited (name.Address Www) m)
call member DomainInside m = call_domain_inside member m
call member DomainAtPunctuation m = call_domain_at_punctuation m
call member DomainAfter m = call_domain_after m
call member PathInside m = call_path_inside member m
call member PathAtPunctuation m = call_path_at_punctuation m
call member PathAfter m = with_state Ok (sized 0 (sized_b 0 m))
call member Trail m = call_trail member m
call member TrailBracketAfter m = call_trail_bracket_after m
call member TrailCharRefStart m = call_trail_char_ref_start m
call member TrailCharRefInside m = call_trail_char_ref_inside m
