-- The whole note: the machine leaves its pieces, one after another, and is settled at the end.
-- Assumes nothing.
use Rattle.std.proofs.Common.{◌≡◌, ℕ, zero, suc, ◌+◌, ◌-◌, ◌<◌, ◌≤◌, Bool, true, false, cond, ◌||◌, eqb, ltb, List, [], ◌∷◌, ◌++◌, length, get_or, Some, None, codes, Option, sym, refl, ap, ◌∙◌, subst, ⊎_elim, arith}
use Rattle.std.proofs.lemmas.Bool.{cases_Bool, cases_lt, cond-true, cond-false, or_from, both_ways, true≢false, lt-ltb, le-ltb, eq-eqb}
use Rattle.text.specs.declared.spans.Span.{Span}
use Rattle.text.specs.declared.spans.SpanKind.{SpanKind}
use Rattle.text.specs.declared.spans.SpanKind.TheVariants.{Www, Protocol}
use Rattle.text.specs.Bytes.{part}
use Rattle.text.proofs.Firsts.{seek-first}
use Rattle.rules.specs.Segments.{Segment, segment, LineEnding, Data, line_ending_at, line_ending_end}
use Rattle.rules.specs.Segments as segments
use Rattle.rules.specs.Web.{link_at, web_span, www_at, protocol_length, valid, domain_end, path_end}
use Rattle.rules.proofs.WebParts.{link_at-is}
use Rattle.machine.specs.declared.events.Event.{Event}
use Rattle.machine.specs.declared.events.EventKind.TheVariants.{Enter, Exit}
use Rattle.machine.specs.declared.events.Name.TheVariants as name
use Rattle.machine.specs.declared.states.State.TheVariants.{Next, Ok}
use Rattle.machine.specs.declared.states.StateName.TheVariants as state
use Rattle.machine.specs.Cursors.{crlf_at, event, consumed_at}
use Rattle.machine.specs.Moves.{Machine, made_of}
use Rattle.machine.specs.Runs.{cleared, at_start, beginning}
use Rattle.machine.specs.States.{on, at_end, is, begins_protocol, begins_www}
use Rattle.machine.specs.Laws.{event_at}
use Rattle.machine.specs.Invariant.{byte_shown, cursor_at, Web, www, protocol}
use Rattle.machine.proofs.Keeps.{after}
use Rattle.machine.proofs.Walk.{among-all, apart, shows-at, shows-end, ready-before}
use Rattle.findings.specs.Findings.{Settled}
use Rattle.findings.specs.Pieces.{cuts_data, data_end, piece, pieces_from, pieces, name_for, segment_events}
use Rattle.findings.proofs.Reaching.{Reach, there, go_retry, go_next, go_back, by_bool, by_byte}
use Rattle.findings.proofs.Standing.{Stands, at_first}
use Rattle.findings.proofs.Prefixes.{www-begins, protocol-begins}
use Rattle.findings.proofs.LinkStates.{Missed, Found}
use Rattle.findings.proofs.WwwStates.{www-from}
use Rattle.findings.proofs.ProtocolStates.{protocol-from}
use Rattle.findings.proofs.TextStates.{data_from, line-from}

-- ---- what the link rule says at i

abbrev kind_of-link : Web → SpanKind
kind_of-link www = Www
kind_of-link protocol = Protocol

module _ (mem : ℕ → Bool) (s : List ℕ) (i : ℕ) where
  abbrev span : Web → ℕ → Span
  span l d = record { kind = kind_of-link l; from = i; to = path_end mem s (domain_end mem s d) }

  a_www : www_at s i ≡ true → valid (part i (domain_end mem s i) s) ≡ true → link_at mem s i ≡ Some (span www i)
  a_www w h = cond-true (www_at s i) _ _ w ∙ cond-true (valid (part i (domain_end mem s i) s)) _ None h

  bad_www : www_at s i ≡ true → valid (part i (domain_end mem s i) s) ≡ false → link_at mem s i ≡ None
  bad_www w h = cond-true (www_at s i) _ _ w ∙ cond-false (valid (part i (domain_end mem s i) s)) _ None h

  neither : www_at s i ≡ false → protocol_length s i ≡ 0 → link_at mem s i ≡ None
  neither w p = cond-false (www_at s i) _ _ w ∙ cond-true (eqb (protocol_length s i) 0) None _ (eq-eqb _ 0 p)

  by_protocol : www_at s i ≡ false → (n : ℕ) → protocol_length s i ≡ n → eqb n 0 ≡ false → link_at mem s i ≡ web_span mem s Protocol i (i + n)
  by_protocol w n p z = cond-false (www_at s i) _ _ w ∙ ap (λ k. cond (eqb k 0) None (web_span mem s Protocol i (i + k))) p ∙ cond-false (eqb n 0) None _ z

  a_protocol : www_at s i ≡ false → (n : ℕ) → protocol_length s i ≡ n → eqb n 0 ≡ false → valid (part (i + n) (domain_end mem s (i + n)) s) ≡ true → link_at mem s i ≡ Some (span protocol (i + n))
  a_protocol w n p z h = by_protocol w n p z ∙ cond-true (valid (part (i + n) (domain_end mem s (i + n)) s)) _ None h

  bad_protocol : www_at s i ≡ false → (n : ℕ) → protocol_length s i ≡ n → eqb n 0 ≡ false → valid (part (i + n) (domain_end mem s (i + n)) s) ≡ false → link_at mem s i ≡ None
  bad_protocol w n p z h = by_protocol w n p z ∙ cond-false (valid (part (i + n) (domain_end mem s (i + n)) s)) _ None h

  link-beyond : (x : Span) → link_at mem s i ≡ Some x → i < x.to
  link-beyond x e = let f = (link_at-is mem s i x e).shape in omega (arith, f.some, f.low)

-- ---- lists

append-more : {A : Type 0} (xs : List A) (a b : A) (ys : List A) → (xs ++ a ∷ b ∷ []) ++ ys ≡ xs ++ a ∷ b ∷ ys
append-more [] a b ys = refl
append-more (x ∷ xs) a b ys = ap (λ t. x ∷ t) (append-more xs a b ys)

append_nil : {A : Type 0} (xs : List A) → xs ++ [] ≡ xs
append_nil [] = refl
append_nil (x ∷ xs) = ap (λ t. x ∷ t) (append_nil xs)

-- ---- the note, from i on

module _ (mem : ℕ → Bool) (s : List ℕ) (Goal : Machine → Type 0) where
  -- the goal holds at the end, with the events of the pieces that are left
  abbrev Ends : ℕ → ℕ → List Event → Type 0
  Ends n i es = (j : ℕ) (w : Option ℕ) → Goal (made_of s Ok (cursor_at s j w) cleared [] (es ++ segment_events s (pieces_from mem s n i)) [])

  abbrev with_piece : List Event → Segment → List Event
  with_piece es x = es ++ event_at s Enter (name_for x.kind) x.from ∷ event_at s Exit (name_for x.kind) x.to ∷ []

  -- behind the first of them
  ends_on : (n i : ℕ) (es : List Event) (x : Segment) → i < length s → piece s i (link_at mem s i) ≡ x → Ends (suc n) i es → Ends n x.to (with_piece es x)
  ends_on n i es x lt q f j w =
      subst (λ t. Goal (made_of s Ok (cursor_at s j w) cleared [] t []))
      (ap (λ t. es ++ segment_events s t) (cond-true (ltb i (length s)) _ [] (lt-ltb i (length s) lt) ∙ ap (λ (y : Segment). y ∷ pieces_from mem s n y.to) q)
      ∙ sym (append-more es (event_at s Enter (name_for x.kind) x.from) (event_at s Exit (name_for x.kind) x.to) (segment_events s (pieces_from mem s n x.to))))
      (f j w)

  -- from all places beyond i
  abbrev Beyond : ℕ → ℕ → Type 0
  Beyond n i = (j : ℕ) (w : Option ℕ) (es : List Event) → i < j → Stands s j w → Ends n j es → Reach mem (after mem s state.Before (cursor_at s j w) cleared [] es []) Goal

  module _ (n i : ℕ) (v : Option ℕ) (es : List Event) (lt : i < length s) (st : Stands s i v) (ends : Ends (suc n) i es) (on-next : Beyond n i) where
    -- a link is found: the next piece begins where it ends
    found-link : (l : Web) (d : ℕ) → link_at mem s i ≡ Some (span mem s i l d) → Found mem s Goal es i v l (path_end mem s (domain_end mem s d))
    found-link www d q w sw = go_back _ w (on-next (path_end mem s (domain_end mem s d)) w _ (link-beyond mem s i (span mem s i www d) q) sw (ends_on n i es (segment (segments.Web Www) i (path_end mem s (domain_end mem s d))) lt (ap (piece s i) q) ends))
    found-link protocol d q w sw = go_back _ w (on-next (path_end mem s (domain_end mem s d)) w _ (link-beyond mem s i (span mem s i protocol d) q) sw (ends_on n i es (segment (segments.Web Protocol) i (path_end mem s (domain_end mem s d))) lt (ap (piece s i) q) ends))

    -- data, up to where it is cut
    data_here : link_at mem s i ≡ None → line_ending_at s i ≡ false → Reach mem (after mem s state.Data (cursor_at s i v) cleared [] es []) Goal
    data_here q h =
        data_from mem s Goal i v es st lt h
        (λ w sw.
        on-next (data_end s (i + 1)) w _ (omega (arith, (seek-first (λ j. cuts_data (get_or s j 0)) (length s - (i + 1)) (i + 1)).low)) sw
        (ends_on n i es (segment Data i (data_end s (i + 1))) lt (ap (piece s i) q ∙ cond-false (line_ending_at s i) _ _ h) ends))

    -- a link was tried in vain: data begins where it was tried
    missed_link : link_at mem s i ≡ None → line_ending_at s i ≡ false → Missed mem s Goal es i v
    missed_link q h = go_back i v (data_here q h)

    -- a line ending
    line_here : link_at mem s i ≡ None → line_ending_at s i ≡ true → Reach mem (made_of s (Next state.Line) (consumed_at s (cursor_at s i v)) cleared [] (es ++ event s Enter name.LineEnding (cursor_at s i v).point ∷ []) (name.LineEnding ∷ [])) Goal
    line_here q h =
        line-from mem s Goal i v es st lt h
        (λ w sw.
        on-next (line_ending_end s i) w _ beyond sw
        (ends_on n i es (segment LineEnding i (line_ending_end s i)) lt (ap (piece s i) q ∙ cond-true (line_ending_at s i) _ _ h) ends))
      where
        beyond : i < line_ending_end s i
        beyond = ⊎_elim (λ c. let z = cond-true (crlf_at s i) (i + 2) (i + 1) c in omega arith) (λ c. let z = cond-false (crlf_at s i) (i + 2) (i + 1) c in omega arith) (cases_Bool (crlf_at s i))

    no_line_ending : (p : ℕ → Bool) → p 10 ≡ false → p 13 ≡ false → p (get_or s i 0) ≡ true → line_ending_at s i ≡ false
    no_line_ending p l c h = or_from (eqb (get_or s i 0) 13) (eqb (get_or s i 0) 10 || false) (apart p (get_or s i 0) 13 c h) (or_from (eqb (get_or s i 0) 10) false (apart p (get_or s i 0) 10 l h) refl)

    -- no `www.` begins with an `h`
    h_no_www : begins_protocol (get_or s i 0) ≡ true → www_at s i ≡ false
    h_no_www h = www-begins s i (⊎_elim (λ t. absurd (both_ways (begins_protocol (get_or s i 0)) (among-all (λ x. begins_protocol x ≡ false) (codes "Ww") (refl, (refl, tt)) (get_or s i 0) t) h)) (λ t. t) (cases_Bool (begins_www (get_or s i 0))))

    lf-shown : on (is 10) (byte_shown s i) ≡ line_ending_at s i
    lf-shown =
        let b = get_or s i 0 in
        ap (on (is 10)) (shows-at s i lt)
        ∙ ⊎_elim
        (λ c. ap (is 10) (cond-true (eqb b 13) 10 b c) ∙ sym (ap (λ x. x || (eqb b 10 || false)) c))
        (λ c. ap (is 10) (cond-false (eqb b 13) 10 b c) ∙ or_nil (eqb b 10) ∙ sym (ap (λ x. x || (eqb b 10 || false)) c))
        (cases_Bool (eqb b 13))
      where
        or_nil : (x : Bool) → x ≡ (x || false)
        or_nil true = refl
        or_nil false = refl

    -- one piece: a link is tried at each h and w, and nowhere else
    one_piece : Reach mem (after mem s state.Before (cursor_at s i v) cleared [] es []) Goal
    one_piece =
        by_bool (at_end (byte_shown s i)) _ _
        (λ h. absurd (true≢false (sym (ap at_end (sym (shows-at s i lt)) ∙ h))))
        (λ _.
        by_byte s begins_protocol refl refl refl i _ _
        (λ h.
        let plain = no_line_ending begins_protocol refl refl h in
        go_retry (protocol-from mem s Goal es i v st h
        (λ k p z good. found-link protocol (i + k) (a_protocol mem s i (h_no_www h) k p z good))
        (λ k p z bad. missed_link (bad_protocol mem s i (h_no_www h) k p z bad) plain)
        (λ p. missed_link (neither mem s i (h_no_www h) p) plain)))
        (λ h1.
        by_byte s begins_www refl refl refl i _ _
        (λ h.
        let plain = no_line_ending begins_www refl refl h in
        go_retry (www-from mem s Goal es i v st h
        (λ w good. found-link www i (a_www mem s i w good))
        (λ w bad. missed_link (bad_www mem s i w bad) plain)
        (λ w. missed_link (neither mem s i w (protocol-begins s i h1)) plain)))
        (λ h2.
        let none = neither mem s i (www-begins s i h2) (protocol-begins s i h1) in
        by_bool (on (is 10) (byte_shown s i)) _ _
        (λ h. line_here none (sym lf-shown ∙ h))
        (λ h. go_retry (data_here none (sym lf-shown ∙ h))))))

  -- no piece is left
  at_the_end : (n i : ℕ) (v : Option ℕ) (es : List Event) → length s ≤ i → Ends n i es → Reach mem (after mem s state.Before (cursor_at s i v) cleared [] es []) Goal
  at_the_end n i v es le ends =
      by_bool (at_end (byte_shown s i)) _ _
      (λ h. there (subst (λ t. Goal (made_of s Ok (cursor_at s i v) cleared [] t [])) (ap (λ t. es ++ segment_events s t) (none n) ∙ append_nil es) (ends i v)))
      (λ h. absurd (true≢false (ap at_end (sym (shows-end s i le)) ∙ h)))
    where
      none : (n : ℕ) → pieces_from mem s n i ≡ []
      none zero = refl
      none (suc n) = cond-false (ltb i (length s)) _ [] (le-ltb i (length s) le)

  all-pieces : (n i : ℕ) (v : Option ℕ) (es : List Event) → length s ≤ i + n → Stands s i v → Ends n i es → Reach mem (after mem s state.Before (cursor_at s i v) cleared [] es []) Goal
  all-pieces zero i v es fuel st ends = at_the_end zero i v es (omega arith) ends
  all-pieces (suc n) i v es fuel st ends =
      ⊎_elim
      (λ lt. one_piece n i v es lt st ends (λ j w es' far sw. all-pieces n j w es' (omega arith) sw))
      (λ le. at_the_end (suc n) i v es le ends)
      (cases_lt i (length s))

-- a machine that has left the pieces of the note
pub record Left (mem : ℕ → Bool) (s : List ℕ) (m : Machine) : Type 0 where
  pub settled : Settled m
  pub events : m.events ≡ segment_events s (pieces mem s)

-- from the beginning some number of steps leads there
pub leaves-pieces : (mem : ℕ → Bool) (s : List ℕ) → Reach mem (beginning s) (Left mem s)
leaves-pieces mem s =
    go_next at_start (cursor_at s 0 None) (ready-before s 0 None None)
    (all-pieces mem s (Left mem s) (length s) 0 None [] (omega arith) (at_first s)
    (λ j w. record { settled = record { over = refl; attempts = refl; names = refl; registers = refl }; events = refl }))
